-- `lent_cpu_write` meets its contract. Assumes nothing.
use mathlib.Core.Path.{sym, ap, ◌∙◌}
use mathlib.Core.Bool.{true}
use lib.ListN.{length}
use Rattle.base_shared.specs.Numbers.{answer_number}
use Rattle.base_shared.proofs.Answers.{handed_on, refusal_counts}
use Rattle.memory_access.specs.declared.Access.{Access}
use Rattle.memory_access.specs.Access.{access_refusal}
use Rattle.memory_access.proofs.Accepted.{placed, refused_first}
use Rattle.memory_tables.specs.Paging.{cpu}
use Rattle.vrc6.specs.Boards.{entry_of}
use Rattle.vrc6.specs.Checks.{register_checks}
use Rattle.vrc6.proofs.board.Board.lent_cpu_write.Goals as goal

pub returns-in_err-check-clause-number : goal.returns-in_err-check-clause-number
returns-in_err-check-clause-number c =
    let a = c.args in
    let b = a.self.now in
    let e = c.from_residual.ensures in
    let told =
    handed_on c.from_residual.result c.check.result e.1 c.in_err-check.was ∙ c.check.ensures
    ∙ ap (λ (x : Access). access_refusal x.layout x.page (length a.fixed.now) (length a.changing.now) true) c.cpu_access-access.ensures in
    told ∙ sym (refused_first b.layout (entry_of cpu b a.addr) (length a.fixed.now) (length a.changing.now) (register_checks b a.addr)
    (λ none. refusal_counts _ e.0 (told ∙ none)))

pub store-requires : goal.store-requires
store-requires c =
    let a = c.args in
    let x = c.cpu_access-access.result in
    placed x.layout x.page _ a.changing.now true (sym c.check.ensures ∙ ap answer_number c.in_ok-check.was)
