-- What is printed is the text. Assumes nothing.
use Rattle.std.proofs.Common.{refl, ap}
use Rattle.std.specs.Result.{is_ok}
use Rattle.std.proofs.lemmas.Grind.{put_six}
use Rattle.cartridge_report.proofs.ReportDisplay.fmt.Goals as goal

pub returns-clause-writes : goal.returns-clause-writes
returns-clause-writes g c p o =
    let a = c.writeln.ensures.writes p (ap is_ok c.in_ok-writeln.was) in
    let b = c.writeln-2.ensures.writes a.plain (ap is_ok c.in_ok-writeln-2.was) in
    let d = c.writeln-3.ensures.writes b.plain (ap is_ok c.in_ok-writeln-3.was) in
    let e = c.writeln-4.ensures.writes d.plain (ap is_ok c.in_ok-writeln-4.was) in
    let h = c.writeln-5.ensures.writes e.plain (ap is_ok c.in_ok-writeln-5.was) in
    put_six _ _ _ _ _ _ _ _ _ _ _ _ _ _ _ a b d e h (c.writeln-6.ensures.writes h.plain o) refl
