-- `check` meets its contract where the layout is refused: no later test counts. Assumes nothing.
use Rattle.std.proofs.Common.{sym, ◌∙◌, [], ◌∷◌}
use Rattle.base_shared.proofs.Answers.{handed_on, refusal_counts}
use Rattle.base_shared.proofs.Tests.{first_refused}
use Rattle.memory_layout.specs.Layout.{layout_checks}
use Rattle.memory_layout.specs.Entries.{entry_in_range}
use Rattle.memory_access.proofs.Access.check.Goals as goal

pub returns-in_err-limited : goal.returns-in_err-limited
returns-in_err-limited c =
    let a = c.args in
    let e = c.from_residual.ensures in
    let told = handed_on c.from_residual.result c.check.result e.1 c.in_err-limited.was ∙ c.check.ensures.number in
    told
    ∙ sym (first_refused (layout_checks a.self.layout a.fixed a.changing) ((entry_in_range a.self.layout a.self.page, 3) ∷ []) (λ z. refusal_counts _ e.0 (told ∙ z)))
