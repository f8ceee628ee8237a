-- The pairs of the letters' cell, as its words write them, and whether slots show what is asked (docs/SCENES.md). Assumes nothing.
use Rattle.std.specs.Prelude.{Option, Some, None, Result, Ok, Err, true, false, Bool, cond, List, ℕ, eqb, length}
use Rattle.std.specs.List.{list_all, zip}
use Rattle.text_words.specs.declared.number.NumberError.{NumberError}
use Rattle.text_words.specs.Numbers.{number_of}
use Rattle.scene_cells.specs.Marks.{from_mark, before_mark, behind_mark}
use Rattle.scene_steps.specs.declared.letters.Pair.{Pair}
use Rattle.scene_steps.specs.declared.letters.PairError.{PairError}
use Rattle.scene_steps.specs.declared.letters.PairError.TheVariants.{NoPair, NoSlot, NoBank}

-- the number behind `:`, with the slot before it
abbrev pub bank_from : (slot : ℕ) → Result ℕ NumberError → Result Pair PairError
bank_from slot (Ok n) = Ok (record { slot = slot; bank = n })
bank_from slot (Err e) = Err NoBank

-- the two numbers around `:`
abbrev pub pair_from : (slot bank : Result ℕ NumberError) → Result Pair PairError
pair_from (Ok n) bank = bank_from n bank
pair_from (Err e) bank = Err NoSlot

-- what a word says: a slot of 0 to 7 and a bank of 0 to 255, both decimal, or what is wrong with it
unfoldable pub pair_of : List ℕ → Result Pair PairError
pair_of w =
    cond (eqb (length (from_mark 58 w)) 0) (Err NoPair)
    (pair_from (number_of 10 7 (before_mark 58 w)) (number_of 10 255 (behind_mark 58 w)))

-- a slot shows the bank that is asked; where none is asked it may show any (docs/SCENES.md)
abbrev pub slot_right : (shown asked : Option ℕ) → Bool
slot_right shown None = true
slot_right None (Some a) = false
slot_right (Some s) (Some a) = eqb s a

-- every slot does (docs/SCENES.md)
abbrev pub slots_right : (shown asked : List (Option ℕ)) → Bool
slots_right shown asked = list_all (λ p. slot_right p.0 p.1) (zip shown asked)
