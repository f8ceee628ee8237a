-- A ring of the code as plain values. Assumes nothing.
use Rattle.memory_rule.specs.declared.rings.PageRing.{PageRing}
use Rattle.memory_rule.specs.Required.{Ring}

-- its pages; that it is closed says nothing of them
abbrev pub ring : PageRing → Ring
ring g = record { first = g.first; count = g.count }
