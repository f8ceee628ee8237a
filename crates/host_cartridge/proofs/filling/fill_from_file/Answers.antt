-- `fill_from_file` meets its contract. Assumes nothing.
use native.Mathlib.Omega.{arith}
use Rattle.std.proofs.Common.{sym, ap, ◌∙◌, length}
use Rattle.std.proofs.lemmas.Result.{err_from_is_err_and}
use Rattle.base_shared.specs.Numbers.{answer_number}
use Rattle.base_shared.proofs.Answers.{handed_on}
use Rattle.host_cartridge.proofs.Runs.{behind_zeros}
use Rattle.host_cartridge.proofs.Loading.{of_refused, checked, kept, fixed_is, changing_is}
use Rattle.host_cartridge.proofs.filling.fill_from_file.Goals as goal

pub returns-in_err-cartridge-clause-value : goal.returns-in_err-cartridge-clause-value
returns-in_err-cartridge-clause-value c =
    let p = err_from_is_err_and c.from_residual.result c.from_residual.ensures.1 in
    rw (p.1, p.2) (of_refused c.args.file.now (length c.args.fixed.now) (length c.args.changing.now) _ (sym c.read_header.ensures ∙ c.in_err-cartridge.was))

pub returns-in_err-check-clause-value : goal.returns-in_err-check-clause-value
returns-in_err-check-clause-value c =
    handed_on c.from_residual-in_err-check.result c.check.result c.from_residual-in_err-check.ensures.1 c.in_err-check.was ∙ c.check.ensures.number
    ∙ checked c.args.file.now (length c.args.fixed.now) (length c.args.changing.now) _ (sym c.read_header.ensures ∙ c.in_ok-cartridge.was)

pub returns-in_err-check-clause-fixed_after : goal.returns-in_err-check-clause-fixed_after
returns-in_err-check-clause-fixed_after c =
    (kept c.args.file.now c.args.fixed.now c.args.changing.now c.in_err-check.field-0.0
    (sym (ap answer_number c.in_err-check.was) ∙ c.check.ensures.number
    ∙ checked c.args.file.now (length c.args.fixed.now) (length c.args.changing.now) _ (sym c.read_header.ensures ∙ c.in_ok-cartridge.was))).0

pub returns-in_err-check-clause-changing_after : goal.returns-in_err-check-clause-changing_after
returns-in_err-check-clause-changing_after c =
    (kept c.args.file.now c.args.fixed.now c.args.changing.now c.in_err-check.field-0.0
    (sym (ap answer_number c.in_err-check.was) ∙ c.check.ensures.number
    ∙ checked c.args.file.now (length c.args.fixed.now) (length c.args.changing.now) _ (sym c.read_header.ensures ∙ c.in_ok-cartridge.was))).1

pub returns-clause-value : goal.returns-clause-value
returns-clause-value c =
    sym (ap answer_number c.in_ok-check.was) ∙ c.check.ensures.number
    ∙ checked c.args.file.now (length c.args.fixed.now) (length c.args.changing.now) _ (sym c.read_header.ensures ∙ c.in_ok-cartridge.was)

pub returns-clause-fixed_after : goal.returns-clause-fixed_after
returns-clause-fixed_after c =
    let s = c.split_at_mut-zeros.ensures in
    fixed_is c.args.file.now c.args.fixed.now c.args.changing.now _ (sym c.read_header.ensures ∙ c.in_ok-cartridge.was)
    (sym c.check.ensures.number ∙ ap answer_number c.in_ok-check.was)
    (behind_zeros _ _ _ _ _ _ _ (omega (arith, s.front_len, s.back_len)) s.front_len s.back_len (c.fill.ensures.after (λ y h. h)) c.copy.ensures)

pub returns-clause-changing_after : goal.returns-clause-changing_after
returns-clause-changing_after c =
    changing_is c.args.file.now c.args.fixed.now c.args.changing.now _ (sym c.read_header.ensures ∙ c.in_ok-cartridge.was)
    (sym c.check.ensures.number ∙ ap answer_number c.in_ok-check.was) (c.fill-2.ensures.after (λ y h. h))
