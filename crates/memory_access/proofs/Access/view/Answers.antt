-- `view` meets its contract. Assumes nothing.
use mathlib.Core.Path.{sym, ap, ◌∙◌}
use mathlib.Core.Bool.{true}
use native.Mathlib.Omega.{arith}
use Prim.Native.Nat.{◌<◌, ◌≤◌}
use lib.ListN.{length}
use Rattle.base_shared.specs.Numbers.{answer_number}
use Rattle.memory_pages.specs.Pages.{offset}
use Rattle.memory_access.proofs.Accepted.{whole}
use Rattle.memory_access.proofs.Buffers.{first_part, second_part}
use Rattle.memory_access.proofs.Access.view.Goals as goal

pub returns-in-None-clause-bytes : goal.returns-in-None-clause-bytes
returns-in-None-clause-bytes c =
    let a = c.args in
    let none = sym c.check.ensures ∙ ap answer_number c.in_ok-check.was in
    let low : offset a.self.page < length a.fixed.now = omega (arith, c.offset-at.ensures, c.in-None.ensures) in
    rw (c.offset-at.ensures, none)
    (first_part a.fixed.now a.changing.now (offset a.self.page) 1024 (whole a.self.layout a.self.page (length a.fixed.now) (length a.changing.now) true none low))

pub returns-in-Some-clause-bytes : goal.returns-in-Some-clause-bytes
returns-in-Some-clause-bytes c =
    let a = c.args in
    let none = sym c.check.ensures ∙ ap answer_number c.in_ok-check.was in
    let high : length a.fixed.now ≤ offset a.self.page = omega (arith, c.offset-at.ensures, c.in-Some.ensures) in
    rw (c.in-Some.ensures.1, c.offset-at.ensures, none) (second_part a.fixed.now a.changing.now (offset a.self.page) 1024 high)
