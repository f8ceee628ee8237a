-- A refused call gives back what it was given, and its number is that of the first check that fails. Assumes nothing.
use mathlib.Core.Path.{◌≡◌, refl, ap, ◌∙◌}
use mathlib.Core.Bool.{true}
use mathlib.Core.List.{[]}
use Prim.Native.Nat.{ℕ}
use Rattle.base_shared.specs.Refusals.{first_failing, unless}
use Rattle.base_shared.specs.Numbered.{own_numbers}
use Rattle.base_shared.proofs.Numbers.{numbered_law}
use Rattle.memory_tables.specs.Paging.{cpu, picture}
use Rattle.vrc6.specs.declared.board.ByteRead.{ByteRead}
use Rattle.vrc6.specs.declared.board.Changed.{Changed}
use Rattle.vrc6.specs.Boards.{State, held_by, new_board, zero_board}
use Rattle.vrc6.specs.Checks.{create_refusal, memory_refusal, cpu_write_refusal}
use Rattle.vrc6.specs.Calls.{side_of, byte_read, cpu_write, picture_write}
use Rattle.vrc6_calls.specs.Lists.{Shape, reads, writes, views, asks, shape, of_read, of_write, given, given_by, refusal_in, next_by}
use Rattle.vrc6_ledger.specs.Refused.{GivenBack, RefusedLaw, RefusedCreateLaw, checks, checks_by, create_checks, OrderLaw}
use Rattle.vrc6_ledger.proofs.Shown.{answered}
use Rattle.vrc6_ledger.proofs.Asks.{not_done, ask_law}

module _ (x : State) where
  -- a write
  state_back : (n : ℕ) (y : State) → (n ≡ 0 → ⊥) → held_by (unless n y x).board x.fixed (unless n y x).changing ≡ x
  state_back n y h = ap (λ (z : State). held_by z.board x.fixed z.changing) (not_done n y x h)

  -- an answer of each kind
  of_read_lem : (n b : ℕ) (r : ByteRead) → r.byte ≡ unless n b 0 → (n ≡ 0 → ⊥) → GivenBack x (of_read r) x
  of_read_lem n b r e h = record { state = refl; byte = e ∙ not_done n b 0 h; view = refl; tick = refl; level = refl; forecast = refl }

  of_write_lem : (r : Changed) (y : State) → y ≡ x → GivenBack x (of_write r) y
  of_write_lem r y e = record { state = e; byte = refl; view = refl; tick = refl; level = refl; forecast = refl }

  of_view : (a : ℕ) → (memory_refusal picture x a true ≡ 0 → ⊥) → GivenBack x (given_by x (views a)) x
  of_view a h =
      record { state = refl; byte = refl; view = not_done (memory_refusal picture x a true) _ [] h; tick = refl; level = refl; forecast = refl }

  given_back : (s : Shape) → (first_failing (checks_by x s) ≡ 0 → ⊥) → GivenBack x (given_by x s) (next_by x s)
  given_back (reads k a) h = of_read_lem (memory_refusal (side_of k) x a true) _ (byte_read k x a) refl h
  given_back (writes cpu a v) h = of_write_lem (cpu_write x a v) _ (state_back (cpu_write_refusal x a) _ h)
  given_back (writes picture a v) h = of_write_lem (picture_write x a v) _ (state_back (memory_refusal picture x a true) _ h)
  given_back (views a) h = of_view a h
  given_back (asks q) h = (ask_law q).back x h

pub refused_law : RefusedLaw
refused_law x k h = given_back x (shape k) (λ z. h (answered x (shape k) ∙ z))

pub refused_create_law : RefusedCreateLaw
refused_create_law c h = not_done (create_refusal c) (new_board c.layout c.settings) zero_board h

-- ---- the order of the numbers
-- every check has a number of its own, whatever the checks themselves say
own_numbers_lem : (x : State) (s : Shape) → own_numbers (checks_by x s) ≡ true
own_numbers_lem x (reads k a) = refl
own_numbers_lem x (writes cpu a v) = refl
own_numbers_lem x (writes picture a v) = refl
own_numbers_lem x (views a) = refl
own_numbers_lem x (asks q) = refl

pub order_law : OrderLaw
order_law =
    record {
      create_number = λ c. numbered_law (create_checks c) refl (create_refusal c) refl;
      call_number = λ x k. numbered_law (checks x k) (own_numbers_lem x (shape k)) (refusal_in (given x k)) (answered x (shape k));
    }
