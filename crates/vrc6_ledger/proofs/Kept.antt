-- What every call keeps of a state that a ledger shows, and so that none is refused. Assumes nothing.
use mathlib.Core.Path.{◌≡◌, refl, ◌∙◌}
use mathlib.Core.Bool.{Bool, true, false, cond, not, ◌&&◌}
use Prim.Native.Nat.{ℕ, ◌/◌, ◌%◌, ◌≤◌}
use native.Mathlib.Omega.{arith}
use lib.Dec.{eqb, leb, ltb}
use lib.ListN.{length, length-set}
use borrow.Author.Tests.{eqb-true, le-leb, eq-eqb}
use Rattle.std.specs.Prelude.{Some, None}
use Rattle.base_shared.specs.Bits.{bit}
use Rattle.base_shared.proofs.Tests.{both, and_left, and_right, either, tested}
use Rattle.base_shared.proofs.Numbers.{none_fails}
use Rattle.base_steps.proofs.Iterated.{keeps}
use Rattle.base_steps.proofs.Falling.{one_clock}
use Rattle.memory_pages.specs.Pages.{writable}
use Rattle.memory_layout.specs.Layout.{fixed_length, changing_length, within_limits, lengths_fit}
use Rattle.memory_layout.specs.Entries.{entry_in_range}
use Rattle.memory_tables.specs.Paging.{Side, cpu, picture, entry_for}
use Rattle.registers.specs.declared.Register.TheVariants.{OfBank, OfAudio, OfIrq}
use Rattle.registers.specs.declared.BankRegister.TheVariants.{Prg16, Prg8, Mode, Chr}
use Rattle.registers.specs.declared.IrqRegister.TheVariants.{Reload, Control, Acknowledge}
use Rattle.registers.specs.Decode.{Decoded, decode}
use Rattle.vrc6_slots.specs.declared.Mirroring.{Mirroring}
use Rattle.vrc6_slots.specs.declared.Mirroring.TheVariants.{Vertical, Horizontal, SingleScreenA, SingleScreenB, FourScreen}
use Rattle.vrc6_banking.specs.declared.banking.Settings.{Settings}
use Rattle.vrc6_banking.specs.Banking.{is_b, mirroring_number, banking_in_range}
use Rattle.vrc6_slots.specs.Nametables.{nametable_mirroring}
use Rattle.vrc6_tables.proofs.Entries.{entries_law}
use Rattle.irq.specs.declared.VrcIrq.{VrcIrq}
use Rattle.irq.specs.Timing.{line_step, line_length}
use Rattle.irq.proofs.Board.{pace}
use Rattle.registers.specs.declared.AudioRegister.{AudioRegister}
use Rattle.registers.specs.declared.AudioRegister.TheVariants.{Pulse1, Pulse2, OfSaw, Halt}
use Rattle.audio.specs.declared.Audio.{Audio}
use Rattle.audio.specs.Sound.{audio_at, audio_written, audio_written_to, audio_clocked}
use Rattle.audio.specs.Laws.{AudioHeld, levels}
use Rattle.audio.proofs.Kept.{kept_law, sum_law}
use Rattle.vrc6_calls.specs.Lists.{Shape, reads, writes, views, asks}
use Rattle.vrc6.specs.Boards.{Creation, entry_of}
use Rattle.vrc6.specs.Checks.{create_refusal, engine_in_range, memory_refusal, register_checks}
use Rattle.vrc6.specs.Calls.{side_of}
use Rattle.vrc6_ledger.specs.Ledger.{Ledger, Registers, Timing, Event, cpu_writes, picture_writes, clocks, resets, looks, noted, opening, byte_of, settled, banking_by, banking_of, entries, registers_after, timing_after, timing_clocked, copied}
use Rattle.vrc6_ledger.specs.Demand3.{WholeSum}
use Rattle.vrc6_ledger.specs.Refused.{memory_checks, create_checks}
use Rattle.vrc6_ledger.proofs.Ticks.{same_fall}
use Rattle.vrc6_ledger.proofs.Shown.{shown, refusal_by, audio_next, or_true}

-- ---- what an accepted creation says
pub record Accepted (c : Creation) : Type 0 where
  pub limits : within_limits c.layout ≡ true
  pub fixed : eqb (length c.fixed) (fixed_length c.layout) ≡ true
  pub changing : length c.changing ≡ changing_length c.layout

pub accepted : (c : Creation) → create_refusal c ≡ 0 → Accepted c
accepted c h =
    let f = eqb (length c.fixed) (fixed_length c.layout) in
    let g = eqb (length c.changing) (changing_length c.layout) in
    let p = (none_fails (create_checks c) refl).0 h in
    record {
      limits = p.0;
      fixed = and_left f g p.1.0;
      changing = eqb-true (length c.changing) (changing_length c.layout) (and_right f g p.1.0);
    }

-- ---- the sound: in range, and its sum the f32 of a whole number
abbrev pub Sounds : Audio → Type 0
Sounds a = AudioHeld a × WholeSum a.out

pub first_sounds : Sounds (audio_at 1)
first_sounds = (kept_law.new, (0, omega arith, refl))

written_sounds : (s : AudioRegister) (v : ℕ) (a : Audio) → Sounds a → Sounds (audio_written s v a)
unfolding audio_written
written_sounds s v a h = (kept_law.write s v a h.0, out s h.1)
  where
    out : (s : AudioRegister) → WholeSum a.out → WholeSum (audio_written s v a).out
    out (Pulse1 r) w = w
    out (Pulse2 r) w = w
    out (OfSaw r) w = w
    out Halt w = w

clocked_sounds : (a : Audio) → Sounds a → Sounds (audio_clocked a)
unfolding audio_clocked
clocked_sounds a h = (kept_law.clock a h.0, tested a.halt halted running)
  where
    halted : a.halt ≡ true → WholeSum (audio_clocked a).out
    halted e = rw e h.1

    running : a.halt ≡ false → WholeSum (audio_clocked a).out
    running e = let s = sum_law a h.0 e in (levels (audio_clocked a), s.1, s.0)

-- ---- what is kept
pub record Kept (c : Creation) (l : Ledger) (x : Audio) : Type 0 where
  pub eight : length l.registers.chr ≡ 8
  pub copy : length l.copy ≡ changing_length c.layout
  pub prescaler : l.timing.prescaler ≤ 341
  pub audio : Sounds x

mirrored : (m : Mirroring) → leb (mirroring_number m) 4 ≡ true
mirrored Vertical = refl
mirrored Horizontal = refl
mirrored SingleScreenA = refl
mirrored SingleScreenB = refl
mirrored FourScreen = refl

-- the banking values that a ledger shows are in range
pub banks : (o : Settings) (g : Registers) → banking_in_range (banking_by o g) ≡ true
banks o g =
    let first : leb (byte_of g.prg16 % 16) 15 ≡ true = omega (arith, le-leb) in
    let second : leb (byte_of g.prg8 % 32) 31 ≡ true = omega (arith, le-leb) in
    both (both first second) (mirrored (cond (settled g) (nametable_mirroring (byte_of g.mode)) o.mirroring))

-- ---- what the next call keeps, part by part
pub kept_length : (c : Creation) (s : Side) (l : Ledger) (a v : ℕ) → length (copied s c l a v) ≡ length l.copy
kept_length c s l a v =
    either (λ xs. length xs ≡ length l.copy) (writable (entry_for s (entries s c l) a))
    (length-set l.copy _ v) refl

pub kept_eight : (k : Decoded) (v : ℕ) (g : Registers) → length (registers_after k v g).chr ≡ length g.chr
kept_eight None v g = refl
kept_eight (Some (OfBank Prg16)) v g = refl
kept_eight (Some (OfBank Prg8)) v g = refl
kept_eight (Some (OfBank Mode)) v g = refl
kept_eight (Some (OfBank (Chr i))) v g = length-set g.chr i _
kept_eight (Some (OfAudio s)) v g = refl
kept_eight (Some (OfIrq i)) v g = refl

kept_timing : (k : Decoded) (v : ℕ) (t : Timing) → t.prescaler ≤ 341 → (timing_after k v t).prescaler ≤ 341
kept_timing None v t h = h
kept_timing (Some (OfBank b)) v t h = h
kept_timing (Some (OfAudio s)) v t h = h
kept_timing (Some (OfIrq Reload)) v t h = h
kept_timing (Some (OfIrq Control)) v t h = either (λ n. n ≤ 341) (bit 1 v) (omega arith) h
kept_timing (Some (OfIrq Acknowledge)) v t h = h

clocked_timing : (t : Timing) → t.prescaler ≤ 341 → (timing_clocked t).prescaler ≤ 341
clocked_timing t h =
    either (λ n. n ≤ 341) (t.enabled && not t.cycle)
    (rw (same_fall t.prescaler) ((one_clock line_step line_length pace t.prescaler).within h)) h

kept_audio : (k : Decoded) (v : ℕ) (x : Audio) → Sounds x → Sounds (audio_written_to k v x)
kept_audio None v x h = h
kept_audio (Some (OfBank b)) v x h = h
kept_audio (Some (OfAudio s)) v x h = written_sounds s v x h
kept_audio (Some (OfIrq i)) v x h = h

module _ (c : Creation) (ok : Accepted c) where
  pub first_kept : Kept c (opening c) (audio_at 1)
  first_kept = record { eight = refl; copy = ok.changing; prescaler = omega arith; audio = first_sounds }

  -- ---- no refusal
  module _ (l : Ledger) (r : VrcIrq) (x : Audio) (k : Kept c l x) where
    fits : lengths_fit c.layout (length c.fixed) (length l.copy) ≡ true
    fits = both ok.fixed (eq-eqb (length l.copy) (changing_length c.layout) k.copy)

    engine : engine_in_range (shown c l r x).board ≡ true
    engine = both (le-leb l.timing.prescaler 341 k.prescaler) k.audio.0.0

    memory : (s : Side) (a : ℕ) (others : Bool) → others ≡ true → memory_refusal s (shown c l r x) a others ≡ 0
    memory s a others h = (none_fails (memory_checks s (shown c l r x) a others) refl).1 (ok.limits, (fits, (both h (entry s), tt)))
      where
        entry : (s : Side) → entry_in_range c.layout (entry_of s (shown c l r x).board a) ≡ true
        entry cpu = entries_law cpu c.layout (banking_of l) ok.limits (a / 1024 % 64)
        entry picture = entries_law picture c.layout (banking_of l) ok.limits (a / 1024 % 16)

    write : (a : ℕ) → memory_refusal cpu (shown c l r x) a (register_checks (shown c l r x).board a) ≡ 0
    write a = memory cpu a (register_checks (shown c l r x).board a) (rw (banks l.origin l.registers, engine) (or_true (ltb a 0x8000)))

    pub none_refused : (s : Shape) → refusal_by (shown c l r x) s ≡ 0
    none_refused (reads k a) = memory (side_of k) a true refl
    none_refused (writes cpu a v) = write a
    none_refused (writes picture a v) = memory picture a true refl
    none_refused (views a) = memory picture a true refl
    none_refused (asks q) = rw engine

  -- ---- the next call
  pub kept : (l : Ledger) (x : Audio) (e : Event) → Kept c l x → Kept c (noted c l e) (audio_next l.origin x e)
  kept l x (cpu_writes a v) k =
      let reached = decode (is_b l.origin.revision) a in
      record {
        eight = kept_eight reached v l.registers ∙ k.eight;
        copy = kept_length c cpu l a v ∙ k.copy;
        prescaler = kept_timing reached v l.timing k.prescaler;
        audio = kept_audio reached v x k.audio;
      }
  kept l x (picture_writes a v) k =
      record { eight = k.eight; copy = kept_length c picture l a v ∙ k.copy; prescaler = k.prescaler; audio = k.audio }
  kept l x (clocks n) k =
      record {
        eight = k.eight;
        copy = k.copy;
        prescaler = keeps timing_clocked (λ t. t.prescaler ≤ 341) clocked_timing l.timing k.prescaler n;
        audio = keeps audio_clocked Sounds clocked_sounds x k.audio n;
      }
  kept l x resets k =
      record { eight = k.eight; copy = k.copy; prescaler = omega arith; audio = (kept_law.reset x k.audio.0, k.audio.1) }
  kept l x looks k = k
