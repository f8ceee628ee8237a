-- What the interrupt's clock means for the window (docs/SCENES.md). Assumes nothing.
use Rattle.std.specs.Prelude.{Option, Some, None, List, [], ◌∷◌, ℕ, ◌-◌, Bool, cond, nat_lt}
use Rattle.scene_moments.specs.declared.moment.Came.{Came}
use Rattle.scene_moments.specs.declared.moment.Came.TheVariants as came
use Rattle.scene_moments.specs.declared.moment.Came.TheVariants.{On, Held}
use Rattle.scene_moments.specs.declared.verdict.Mark.{Mark}
use Rattle.scene_moments.specs.declared.verdict.Mark.TheVariants as mark
use Rattle.scene_moments.specs.declared.verdict.Seen.{Seen}
use Rattle.scene_moments.specs.declared.verdict.Verdict.{Verdict}
use Rattle.scene_moments.specs.declared.verdict.Verdict.TheVariants.{Right, Early, Late, Lost, Never}
use Rattle.scene_moments.specs.declared.verdict.Window.{Window}
use Rattle.scene_moments.specs.Lines.{line_of}

-- the mark of a verdict
abbrev pub mark_of : Verdict → Mark
mark_of (Right line) = mark.Right
mark_of (Early line off) = mark.Early
mark_of (Late line off) = mark.Late
mark_of (Lost line) = mark.Lost
mark_of Never = mark.Never

-- the line of a verdict, none for never
abbrev pub line_told : Verdict → Option ℕ
line_told (Right line) = Some line
line_told (Early line off) = Some line
line_told (Late line off) = Some line
line_told (Lost line) = Some line
line_told Never = None

-- the marks in their order, the worse the higher
abbrev pub rank : Mark → ℕ
rank mark.Right = 0
rank mark.Early = 1
rank mark.Late = 2
rank mark.Lost = 3
rank mark.Never = 4

-- the letter of a mark in a bar: . < > ! x (docs/SCENES.md)
abbrev pub mark_text : Mark → List ℕ
mark_text mark.Right = 0x2E ∷ []
mark_text mark.Early = 0x3C ∷ []
mark_text mark.Late = 0x3E ∷ []
mark_text mark.Lost = 0x21 ∷ []
mark_text mark.Never = 0x78 ∷ []

-- an interrupt on a line, early, late or right, and by how many lines
abbrev pub on_line : (line window : ℕ) → Verdict
on_line line window =
    cond (nat_lt line window) (Early line (window - line)) (cond (nat_lt window line) (Late line (line - window)) (Right line))

-- one that the handler cleared, on the line on which it was set: lost, or what it is if the handler leaves interrupts open
abbrev pub lost_on : (unmasked : Bool) → (line window : ℕ) → Verdict
lost_on unmasked line window = cond unmasked (on_line line window) (Lost line)

-- the clock on which the console takes an interrupt that is pending at the handler's end: as it is set, or with interrupts masked as the
-- handler ends
abbrev pub taken_on : (unmasked : Bool) → (set end : ℕ) → ℕ
taken_on unmasked set end = cond unmasked set end

-- an interrupt by its clock
abbrev pub verdict_of : Window → Came → Verdict
verdict_of w came.Never = Never
verdict_of w (On clock) = on_line (line_of w.screen clock) w.line
verdict_of w (Held set end) = on_line (line_of w.screen (taken_on w.unmasked set end)) w.line
verdict_of w (came.Lost set cleared) = lost_on w.unmasked (line_of w.screen set) w.line

-- the clock on which an interrupt is set, none for never
abbrev pub set_of : Came → Option ℕ
set_of came.Never = None
set_of (On clock) = Some clock
set_of (Held set end) = Some set
set_of (came.Lost set cleared) = Some set

-- the clock on which the handler clears it, none if it does not
abbrev pub cleared_of : Came → Option ℕ
cleared_of came.Never = None
cleared_of (On clock) = None
cleared_of (Held set end) = None
cleared_of (came.Lost set cleared) = Some cleared

-- the clock that counts: on which the console takes it, or of one that is lost on which it is set; none for never
abbrev pub counted_of : (unmasked : Bool) → Came → Option ℕ
counted_of unmasked came.Never = None
counted_of unmasked (On clock) = Some clock
counted_of unmasked (Held set end) = Some (taken_on unmasked set end)
counted_of unmasked (came.Lost set cleared) = Some set

-- what is seen of a moment
abbrev pub seen_as : Window → Came → Seen
seen_as w a = record { verdict = verdict_of w a; set = counted_of w.unmasked a; cleared = cleared_of a }
