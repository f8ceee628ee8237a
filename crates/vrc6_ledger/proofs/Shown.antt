-- The state that a ledger shows, and that every call which is not refused leads from one such state to the next. Assumes nothing.
use mathlib.Core.Path.{◌≡◌, refl, ap, ◌∙◌}
use mathlib.Core.Bool.{Bool, true, false, ◌||◌}
use mathlib.Core.List.{List, [], ◌∷◌, map}
use mathlib.Core.Option.{Option, some}
use Prim.Native.Nat.{ℕ, zero, suc, ◌%◌, ◌<◌}
use native.Mathlib.Omega.{arith}
use native.Mathlib.Nat.{le_of_suc-le-suc, not-suc-le-zero, mod-eq_of_lt}
use lib.ListN.{length, set}
use Rattle.std.specs.Prelude.{Some, None}
use Rattle.base_shared.specs.Refusals.{first_failing, unless}
use Rattle.base_steps.specs.Times.{times}
use Rattle.base_steps.proofs.Iterated.{worked_out, carried}
use Rattle.memory_tables.specs.Paging.{cpu, picture}
use Rattle.registers.specs.declared.Register.TheVariants.{OfBank, OfAudio, OfIrq}
use Rattle.registers.specs.declared.BankRegister.{BankRegister}
use Rattle.registers.specs.declared.BankRegister.TheVariants.{Prg16, Prg8, Mode, Chr}
use Rattle.registers.specs.declared.IrqRegister.TheVariants.{Reload, Control, Acknowledge}
use Rattle.registers.specs.Decode.{Decoded, decode}
use Rattle.registers.proofs.Chr.{chr_law}
use Rattle.vrc6_banking.specs.declared.banking.Settings.{Settings}
use Rattle.vrc6_banking.specs.Banking.{bank_written, is_b}
use Rattle.irq.specs.declared.VrcIrq.{VrcIrq}
use Rattle.irq.specs.Interrupt.{irq_zero}
use Rattle.irq.specs.Timing.{clock_answer}
use Rattle.irq.specs.Writes.{irq_written_to}
use Rattle.audio.specs.declared.Audio.{Audio}
use Rattle.audio.specs.Sound.{audio_written_to, audio_clocked, audio_reset}
use Rattle.vrc6.specs.declared.board.Board.{Board}
use Rattle.vrc6_calls.specs.declared.Call.{Call}
use Rattle.vrc6.specs.Boards.{State, held_by, Creation, paged, with_engine}
use Rattle.vrc6.specs.Checks.{memory_refusal, cpu_write_refusal}
use Rattle.vrc6.specs.Calls.{register_written, cpu_written, picture_written, clocked}
use Rattle.vrc6_calls.specs.Lists.{Shape, reads, writes, views, asks, shape, given_by, refusal_in, ticks_in, next_by, next}
use Rattle.vrc6_ledger.specs.Ledger.{Ledger, Registers, Timing, Event, cpu_writes, picture_writes, clocks, resets, looks, event_by, event, noted, byte_of, has, any_has, banking_by, taken, registers_after, timing_after, timing_clocked, copied}
use Rattle.vrc6_ledger.specs.Refused.{checks_by}
use Rattle.vrc6_ledger.specs.Played.{done}
use Rattle.vrc6_ledger.specs.Foreseen.{ticks_noted}
use Rattle.vrc6_ledger.specs.Demand3.{timing_of}
use Rattle.vrc6_ledger.proofs.Ticks.{same_fall}
use Rattle.vrc6_ledger.proofs.Asks.{ask_law}

-- ---- a state from a ledger, and from what the ledger does not hold: an interrupt, of which all but the ledger's four values count, and the sound
abbrev pub irq_of : Timing → VrcIrq → VrcIrq
irq_of t q =
    record {
      reload = q.reload;
      counter = q.counter;
      prescalar_counter = t.prescaler;
      irq_pending = q.irq_pending;
      enabled = t.enabled;
      enabled_after_ack = t.after_acknowledge;
      cycle_mode = t.cycle;
    }

abbrev pub board_of : Creation → Settings → Registers → Timing → VrcIrq → Audio → Board
board_of c o g t r a = paged c.layout (banking_by o g) (irq_of t r) a o.open_bus

abbrev pub shown : Creation → Ledger → VrcIrq → Audio → State
shown c l r a = held_by (board_of c l.origin l.registers l.timing r a) c.fixed l.copy

-- ---- interrupt and sound after a call
abbrev irq_next : Settings → VrcIrq → Event → VrcIrq
irq_next o q (cpu_writes a v) = irq_written_to (decode (is_b o.revision) a) v q
irq_next o q (picture_writes a v) = q
irq_next o q (clocks n) = times n (λ p. (clock_answer p).irq) q
irq_next o q resets = irq_zero
irq_next o q looks = q

abbrev pub irq_after : Ledger → VrcIrq → Event → VrcIrq
irq_after l r e = irq_next l.origin (irq_of l.timing r) e

abbrev pub audio_next : Settings → Audio → Event → Audio
audio_next o x (cpu_writes a v) = audio_written_to (decode (is_b o.revision) a) v x
audio_next o x (picture_writes a v) = x
audio_next o x (clocks n) = times n audio_clocked x
audio_next o x resets = audio_reset x
audio_next o x looks = x

-- ---- a bank write
pub or_true : (b : Bool) → (b || true) ≡ true
or_true true = refl
or_true false = refl

map_set : (os : List (Option ℕ)) (i v : ℕ) → set (map byte_of os) i v ≡ map byte_of (set os i (some v))
map_set [] i v = refl
map_set (o ∷ os) zero v = refl
map_set (o ∷ os) (suc i) v = ap (λ (vs : List ℕ). byte_of o ∷ vs) (map_set os i v)

any_set : (os : List (Option ℕ)) (i v : ℕ) → i < length os → any_has (set os i (some v)) ≡ true
any_set [] i v h = absurd (not-suc-le-zero h)
any_set (o ∷ os) zero v h = refl
any_set (o ∷ os) (suc i) v h = rw (any_set os i v (le_of_suc-le-suc h)) (or_true (has o))

-- a CHR register's number is below 8
abbrev pub Known : Decoded → Type 0
Known k = (i : ℕ) → k ≡ Some (OfBank (Chr i)) → i < 8

module _ (c : Creation) (o : Settings) (g : Registers) (eight : length g.chr ≡ 8) where
  banked : (b : BankRegister) (v : ℕ) → Known (Some (OfBank b)) → bank_written b v (banking_by o g) ≡ banking_by o (taken b v g)
  banked Prg16 v h = refl
  banked Prg8 v h = refl
  banked Mode v h = refl
  banked (Chr i) v h =
      let low = h i refl in
      let inside : i < length g.chr = omega arith in
      let same : i % 8 ≡ i = mod-eq_of_lt low in
      simp (same, map_set, any_set g.chr i v inside, or_true)

  written : (k : Decoded) (v : ℕ) (t : Timing) (r : VrcIrq) (a : Audio) → Known k
      → register_written k v (board_of c o g t r a)
      ≡ board_of c o (registers_after k v g) (timing_after k v t) (irq_written_to k v (irq_of t r)) (audio_written_to k v a)
  written None v t r a h = refl
  written (Some (OfBank b)) v t r a h = rw (banked b v h)
  written (Some (OfAudio s)) v t r a h = refl
  written (Some (OfIrq Reload)) v t r a h = refl
  written (Some (OfIrq Control)) v t r a h = refl
  written (Some (OfIrq Acknowledge)) v t r a h = refl

-- ---- clocks, one after the other
-- the board changes in its interrupt and its sound alone
clocked_board : (n : ℕ) (b : Board)
    → times n clocked b ≡ with_engine b (record { irq = times n (λ q. (clock_answer q).irq) b.irq; audio = times n audio_clocked b.audio })
unfolding times
clocked_board n b =
    worked_out clocked b
    (λ m. with_engine b (record { irq = times m (λ q. (clock_answer q).irq) b.irq; audio = times m audio_clocked b.audio })) refl (λ m. refl) n

-- and of the interrupt the ledger has its own four values
clocked_timing : (n : ℕ) (q : VrcIrq) → timing_of (times n (λ p. (clock_answer p).irq) q) ≡ times n timing_clocked (timing_of q)
clocked_timing n q = carried (λ p. (clock_answer p).irq) timing_clocked timing_of (λ p. rw (same_fall p.prescalar_counter)) q n

-- ---- every call, where it is not refused
pub led : (c : Creation) (l : Ledger) (r : VrcIrq) (x : Audio) (e : Event) → length l.registers.chr ≡ 8
    → done (shown c l r x) e ≡ shown c (noted c l e) (irq_after l r e) (audio_next l.origin x e)
led c l r x (cpu_writes a v) e =
    ap (λ (b : Board). held_by b c.fixed (copied cpu c l a v))
    (written c l.origin l.registers e (decode (is_b l.origin.revision) a) v l.timing r x (chr_law (is_b l.origin.revision) a))
led c l r x (picture_writes a v) e = refl
led c l r x (clocks n) e =
    let q = times n (λ p. (clock_answer p).irq) (irq_of l.timing r) in
    ap (λ (b : Board). held_by b c.fixed l.copy) (clocked_board n (board_of c l.origin l.registers l.timing r x))
    ∙ ap (λ (t : Timing). held_by (board_of c l.origin l.registers t q (times n audio_clocked x)) c.fixed l.copy)
    (clocked_timing n (irq_of l.timing r))
led c l r x resets e = refl
led c l r x looks e = refl

-- the number that a call checks
abbrev pub refusal_by : State → Shape → ℕ
refusal_by x s = first_failing (checks_by x s)

abbrev pub refusal_of : State → Call → ℕ
refusal_of x k = refusal_by x (shape k)

-- a state where the call's number is n, and it is 0
left_by : (x y : State) (n : ℕ) → n ≡ 0 → held_by (unless n y x).board x.fixed (unless n y x).changing ≡ held_by y.board x.fixed y.changing
left_by x y n h = ap (λ (m : ℕ). held_by (unless m y x).board x.fixed (unless m y x).changing) h

shape_done : (x : State) (s : Shape) → refusal_by x s ≡ 0 → next_by x s ≡ done x (event_by s)
shape_done x (reads k a) h = refl
shape_done x (writes cpu a v) h = left_by x (cpu_written x a v) (cpu_write_refusal x a) h
shape_done x (writes picture a v) h = left_by x (picture_written x a v) (memory_refusal picture x a true) h
shape_done x (views a) h = refl
shape_done x (asks q) h = (ask_law q).done_by x h

pub next_done : (x : State) (k : Call) → refusal_of x k ≡ 0 → next x k ≡ done x (event k)
next_done x k h = shape_done x (shape k) h

-- the answer says that number
pub answered : (x : State) (s : Shape) → refusal_in (given_by x s) ≡ refusal_by x s
answered x (reads k a) = refl
answered x (writes cpu a v) = refl
answered x (writes picture a v) = refl
answered x (views a) = refl
answered x (asks q) = (ask_law q).number x.board

module _ (c : Creation) (l : Ledger) (r : VrcIrq) (x : Audio) where
  pub stepped : (k : Call) → length l.registers.chr ≡ 8 → refusal_of (shown c l r x) k ≡ 0
      → next (shown c l r x) k ≡ shown c (noted c l (event k)) (irq_after l r (event k)) (audio_next l.origin x (event k))
  stepped k e h = next_done (shown c l r x) k h ∙ led c l r x (event k) e

  pub ticked : (s : Shape) → refusal_by (shown c l r x) s ≡ 0 → ticks_in (given_by (shown c l r x) s) ≡ ticks_noted l.timing (event_by s)
  ticked (reads k a) h = refl
  ticked (writes cpu a v) h = refl
  ticked (writes picture a v) h = refl
  ticked (views a) h = refl
  ticked (asks q) h = (ask_law q).ticks (shown c l r x).board h
