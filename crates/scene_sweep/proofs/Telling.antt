-- A verdict's mark and line tell how far off it is, as the window is the same. Assumes nothing.
use Rattle.std.proofs.Common.{◌≡◌, refl, ℕ, ◌-◌, Option, Some, None, Bool, true, false, cond, nat_lt, ap, sym, ◌∙◌}
use Rattle.scene_moments.specs.declared.moment.Came.{Came}
use Rattle.scene_moments.specs.declared.moment.Came.TheVariants as came
use Rattle.scene_moments.specs.declared.verdict.Mark.{Mark}
use Rattle.scene_moments.specs.declared.verdict.Mark.TheVariants as mark
use Rattle.scene_moments.specs.declared.verdict.Verdict.{Verdict}
use Rattle.scene_moments.specs.declared.verdict.Verdict.TheVariants.{Right, Early, Late, Lost, Never}
use Rattle.scene_moments.specs.declared.verdict.Window.{Window}
use Rattle.scene_moments.specs.Lines.{line_of}
use Rattle.scene_moments.specs.Verdicts.{line_told, lost_on, mark_of, taken_on, verdict_of}

-- the verdict that has a mark and a line
abbrev with_mark : (window : ℕ) → Mark → Option ℕ → Verdict
with_mark w m None = Never
with_mark w mark.Right (Some line) = Right line
with_mark w mark.Early (Some line) = Early line (w - line)
with_mark w mark.Late (Some line) = Late line (line - w)
with_mark w mark.Lost (Some line) = Lost line
with_mark w mark.Never (Some line) = Never

abbrev Told : (window : ℕ) → Verdict → Type 0
Told w v = v ≡ with_mark w (mark_of v) (line_told v)

on : (line window : ℕ) (early late : Bool) → Told window (cond early (Early line (window - line)) (cond late (Late line (line - window)) (Right line)))
on line window true late = refl
on line window false true = refl
on line window false false = refl

lost : (unmasked : Bool) (line window : ℕ) → Told window (lost_on unmasked line window)
lost true line window = on line window (nat_lt line window) (nat_lt window line)
lost false line window = refl

told : (w : Window) (a : Came) → Told w.line (verdict_of w a)
told w came.Never = refl
told w (came.On clock) = let line = line_of w.screen clock in on line w.line (nat_lt line w.line) (nat_lt w.line line)
told w (came.Held set end) = let line = line_of w.screen (taken_on w.unmasked set end) in on line w.line (nat_lt line w.line) (nat_lt w.line line)
told w (came.Lost set cleared) = lost w.unmasked (line_of w.screen set) w.line

pub same_told : (w : Window) (a b : Came) → mark_of (verdict_of w a) ≡ mark_of (verdict_of w b) → line_told (verdict_of w a) ≡ line_told (verdict_of w b)
    → verdict_of w a ≡ verdict_of w b
same_told w a b m l =
    told w a ∙ ap (λ (x : Mark). with_mark w.line x (line_told (verdict_of w a))) m
    ∙ ap (λ (x : Option ℕ). with_mark w.line (mark_of (verdict_of w b)) x) l ∙ sym (told w b)
