-- The ticks of a stretch, foreseen from the ledger alone. Assumes nothing.
use mathlib.Core.Path.{◌≡◌, refl, sym, ap, ap₂, ◌∙◌, subst}
use mathlib.Core.Bool.{Bool, true, false, cond}
use mathlib.Core.List.{List, [], ◌∷◌, map}
use Prim.Native.Nat.{ℕ, zero, suc, ◌+◌, ◌-◌, ◌≤◌}
use native.Mathlib.Omega.{arith}
use lib.Dec.{leb}
use lib.ListN.{take, drop}
use Rattle.std.specs.Prelude.{Some, None}
use Rattle.base_shared.specs.Lists.{Each}
use Rattle.base_steps.specs.Times.{times, count}
use Rattle.base_steps.specs.Falls.{fallen as stepFallen, fell, runs}
use Rattle.base_steps.proofs.Falling.{fall_range_law, add_law, tick_law}
use Rattle.registers.specs.declared.Register.TheVariants.{OfBank, OfAudio, OfIrq}
use Rattle.registers.specs.declared.IrqRegister.TheVariants.{Reload, Control, Acknowledge}
use Rattle.registers.specs.Decode.{Decoded, decode}
use Rattle.vrc6_banking.specs.declared.banking.Settings.{Settings}
use Rattle.vrc6_banking.specs.Banking.{is_b}
use Rattle.irq.specs.Timing.{line_step, line_length}
use Rattle.irq.proofs.Board.{pace}
use Rattle.vrc6_calls.specs.declared.Call.{Call}
use Rattle.vrc6.specs.Boards.{Creation}
use Rattle.vrc6_calls.specs.Lists.{Given, ticks_in}
use Rattle.vrc6_ledger.specs.Ledger.{Ledger, Timing, Event, cpu_writes, picture_writes, clocks, resets, looks, event, ledger, noted, timing_after, timing_clocked, noted_fallen}
use Rattle.vrc6_ledger.specs.Foreseen.{clock_ticks, ticks_noted, foreseen}
use Rattle.vrc6_ledger.specs.Demand3.{part, weight, clock_count, tick_count, QuietRegister, Quiet, CountsLines, stretch_ticks}

-- all together
abbrev pub total : List ℕ → ℕ
total [] = 0
total (n ∷ ns) = n + total ns

-- the ledger's own fall is the step's
pub same_fall : (p : ℕ) → noted_fallen p ≡ stepFallen line_step line_length p
same_fall p = let e : p + 341 - 3 ≡ p + 338 = omega arith in ap (λ (n : ℕ). cond (leb p 3) n (p - 3)) e

-- ---- one call of a stretch: it is its weight in clocks
record Weighed (t u : Timing) (e : Event) : Type 0 where
  reported : ticks_noted t e ≡ runs line_step line_length t.prescaler (weight e)
  rest : u.prescaler ≡ fell line_step line_length t.prescaler (weight e)
  enabled : u.enabled ≡ true
  lines : u.cycle ≡ false

-- no clock
none : (t u : Timing) (e : Event) → weight e ≡ 0 → ticks_noted t e ≡ 0 → t ≡ u → CountsLines t → Weighed t u e
unfolding times count
none t u e w f s h =
    record {
      reported = f ∙ ap (λ (n : ℕ). runs line_step line_length t.prescaler n) (sym w);
      rest = ap (λ (v : Timing). v.prescaler) (sym s) ∙ ap (λ (n : ℕ). fell line_step line_length t.prescaler n) (sym w);
      enabled = ap (λ (v : Timing). v.enabled) (sym s) ∙ h.enabled;
      lines = ap (λ (v : Timing). v.cycle) (sym s) ∙ h.lines;
    }

-- one clock, while lines are counted
once : (t : Timing) → t.enabled ≡ true → t.cycle ≡ false → (timing_clocked t).prescaler ≡ stepFallen line_step line_length t.prescaler
once t e f = simp (e, f) (same_fall t.prescaler)

tests : (t : Timing) → t.enabled ≡ true → t.cycle ≡ false → clock_ticks t ≡ leb t.prescaler 3
tests t e f = rw (e, f)

-- clocks, one after the other
many : (n : ℕ) (t : Timing) → CountsLines t → Weighed t (times n timing_clocked t) (clocks n)
unfolding times count
many zero t h = record { reported = refl; rest = refl; enabled = h.enabled; lines = h.lines }
many (suc n) t h =
    let u = times n timing_clocked t in
    let w = many n t h in
    record {
      reported =
          ap₂ (λ (b : Bool) (m : ℕ). cond b 1 0 + m)
          (tests u w.enabled w.lines ∙ ap (λ (p : ℕ). leb p 3) w.rest) w.reported;
      rest = once u w.enabled w.lines ∙ ap (stepFallen line_step line_length) w.rest;
      enabled = w.enabled;
      lines = w.lines;
    }

-- a register that is neither control nor acknowledge
still : (r : Decoded) (v : ℕ) (t : Timing) → QuietRegister r → t ≡ timing_after r v t
still None v t q = refl
still (Some (OfBank b)) v t q = refl
still (Some (OfAudio s)) v t q = refl
still (Some (OfIrq Reload)) v t q = refl
still (Some (OfIrq Control)) v t q = absurd q
still (Some (OfIrq Acknowledge)) v t q = absurd q

module _ (c : Creation) where
  weighed : (e : Event) (l : Ledger) → Quiet l.origin e → CountsLines l.timing → Weighed l.timing (noted c l e).timing e
  weighed (cpu_writes a v) l q h =
      none l.timing (noted c l (cpu_writes a v)).timing (cpu_writes a v) refl refl (still (decode (is_b l.origin.revision) a) v l.timing q) h
  weighed (picture_writes a v) l q h = none l.timing l.timing (picture_writes a v) refl refl refl h
  weighed (clocks n) l q h = many n l.timing h
  weighed resets l q h = absurd q
  weighed looks l q h = none l.timing l.timing looks refl refl refl h

  -- and it leaves what the board was made with
  made : (e : Event) (l : Ledger) → Quiet l.origin e → l.origin ≡ (noted c l e).origin
  made (cpu_writes a v) l q = refl
  made (picture_writes a v) l q = refl
  made (clocks n) l q = refl
  made resets l q = absurd q
  made looks l q = refl

  -- the call's clocks and those behind it, added up
  pub counted : (ks : List Call) (l : Ledger) → Each (λ k. Quiet l.origin (event k)) ks → CountsLines l.timing
      → total (foreseen c l ks) ≡ runs line_step line_length l.timing.prescaler (clock_count ks)
  unfolding count
  counted [] l q h = refl
  counted (k ∷ ks) l q h =
      let e = event k in
      let p = l.timing.prescaler in
      let w = weighed e l q.0 h in
      let low : 1 ≤ (noted c l e).timing.prescaler = rw w.rest ((fall_range_law line_step line_length pace p (weight e)).above h.low) in
      let quiet = subst (λ (o : Settings). Each (λ j. Quiet o (event j)) ks) (made e l q.0) q.1 in
      let more = counted ks (noted c l e) quiet (record { enabled = w.enabled; lines = w.lines; low = low }) in
      let added = (add_law line_step line_length p (weight e) (clock_count ks)).counted in
      let behind = ap (λ (n : ℕ). runs line_step line_length n (clock_count ks)) w.rest in
      omega (arith, w.reported)

  -- ---- a part of the foreseen ticks is what is foreseen of that part
  foreseen_take : (ks : List Call) (l : Ledger) (n : ℕ) → take n (foreseen c l ks) ≡ foreseen c l (take n ks)
  foreseen_take ks l zero = refl
  foreseen_take [] l (suc n) = refl
  foreseen_take (k ∷ ks) l (suc n) =
      ap (λ (rest : List ℕ). ticks_noted l.timing (event k) ∷ rest) (foreseen_take ks (noted c l (event k)) n)

  foreseen_drop : (ks : List Call) (l : Ledger) (i : ℕ)
      → drop i (foreseen c l ks) ≡ foreseen c (ledger c l (take i ks)) (drop i ks)
  foreseen_drop ks l zero = refl
  foreseen_drop [] l (suc i) = refl
  foreseen_drop (k ∷ ks) l (suc i) = foreseen_drop ks (noted c l (event k)) i

  foreseen_part : (ks : List Call) (l : Ledger) (i n : ℕ)
      → part i n (foreseen c l ks) ≡ foreseen c (ledger c l (take i ks)) (part i n ks)
  foreseen_part ks l i n =
      ap (take n) (foreseen_drop ks l i) ∙ foreseen_take (drop i ks) (ledger c l (take i ks)) n

-- ---- answers that report what is foreseen
pub total_map : (gs : List Given) → tick_count gs ≡ total (map ticks_in gs)
total_map [] = refl
total_map (a ∷ gs) = ap (λ (m : ℕ). ticks_in a + m) (total_map gs)

map_take : (m : ℕ) (gs : List Given) → map ticks_in (take m gs) ≡ take m (map ticks_in gs)
map_take zero gs = refl
map_take (suc m) [] = refl
map_take (suc m) (a ∷ gs) = ap (λ (ns : List ℕ). ticks_in a ∷ ns) (map_take m gs)

map_drop : (m : ℕ) (gs : List Given) → map ticks_in (drop m gs) ≡ drop m (map ticks_in gs)
map_drop zero gs = refl
map_drop (suc m) [] = refl
map_drop (suc m) (a ∷ gs) = map_drop m gs

pub counted_part : (c : Creation) (ks : List Call) (l : Ledger) (gs : List Given) → map ticks_in gs ≡ foreseen c l ks
    → (i n : ℕ) → Each (λ k. Quiet (ledger c l (take i ks)).origin (event k)) (part i n ks) → CountsLines (ledger c l (take i ks)).timing
    → tick_count (part i n gs) ≡ stretch_ticks (clock_count (part i n ks)) (ledger c l (take i ks)).timing.prescaler
counted_part c ks l gs e i n q h =
    let p = (ledger c l (take i ks)).timing.prescaler in
    total_map (part i n gs)
    ∙ ap total (map_take n (drop i gs) ∙ ap (take n) (map_drop i gs) ∙ ap (part i n) e ∙ foreseen_part c ks l i n)
    ∙ counted c (part i n ks) (ledger c l (take i ks)) q h
    ∙ tick_law line_step line_length pace p (clock_count (part i n ks)) h.low
