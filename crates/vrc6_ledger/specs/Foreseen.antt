-- Every tick of a list, inside a stretch and outside: what the ledger foresees of each answer. Assumes nothing.
use Rattle.std.specs.Prelude.{◌≡◌, Bool, ◌&&◌, ◌||◌, List, [], ◌∷◌, map, ℕ, leb}
use Rattle.base_steps.specs.Times.{count}
use Rattle.vrc6_calls.specs.declared.Call.{Call}
use Rattle.vrc6.specs.Boards.{Creation}
use Rattle.vrc6.specs.Calls.{create}
use Rattle.vrc6_calls.specs.Lists.{ticks_in, answers}
use Rattle.vrc6_ledger.specs.Ledger.{Ledger, Timing, Event, cpu_writes, picture_writes, clocks, resets, looks, event, noted, opening, timing_clocked}
use Rattle.vrc6_ledger.specs.Demand3.{start}

-- whether a clock ticks: while enabled, in cycle mode always, else where the prescaler falls to 0 or less (01, Interrupt 1)
abbrev pub clock_ticks : Timing → Bool
clock_ticks t = t.enabled && (t.cycle || leb t.prescaler 3)

-- how many ticks a call makes: one for each of its clocks that ticks; no other call makes any (01, Interrupt 1)
abbrev pub ticks_noted : Timing → Event → ℕ
ticks_noted t (cpu_writes a v) = 0
ticks_noted t (picture_writes a v) = 0
ticks_noted t (clocks n) = count n clock_ticks timing_clocked t
ticks_noted t resets = 0
ticks_noted t looks = 0

-- the same of each call of a list, by the ledger as it then is
abbrev pub foreseen : Creation → Ledger → List Call → List ℕ
foreseen c l [] = []
foreseen c l (k ∷ ks) = ticks_noted l.timing (event k) ∷ foreseen c (noted c l (event k)) ks

-- of every accepted creation and every list: the answers report these ticks and no others (01, Interrupt 1)
abbrev pub ForeseenLaw : Type 0
ForeseenLaw = (c : Creation) → (create c).refusal ≡ 0 → (ks : List Call) → map ticks_in (answers (start c) ks) ≡ foreseen c (opening c) ks
