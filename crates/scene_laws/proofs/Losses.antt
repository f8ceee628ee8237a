-- A handler's steps on the counter alone: the walk over its calls finds the clock on which it clears its interrupt. Assumes nothing.
use mathlib.Core.Path.{◌≡◌, refl, sym, ap, ap₂, subst, ◌∙◌}
use mathlib.Core.Bool.{Bool, true, false, cond, not, ◌||◌}
use mathlib.Core.List.{List, [], ◌∷◌, ◌++◌, append_assoc}
use mathlib.Core.Option.{Option, none, some}
use Prim.Native.Nat.{ℕ, zero, suc, ◌+◌, ◌-◌, ◌^◌, ◌≤◌, ◌<◌}
use native.Mathlib.Nat.{add-zero}
use native.Mathlib.Omega.{arith}
use lib.Dec.{leb}
use borrow.Author.Tests.{leb-true}
use Rattle.std.proofs.Common.{Option as Due, Some, None}
use Rattle.base_shared.specs.Lists.{Each}
use lib.ListN.{replicate, replicate-append-replicate}
use Rattle.base_shared.proofs.Tests.{either, tested}
use Rattle.base_steps.specs.Times.{times}
use Rattle.base_steps.proofs.Iterated.{times_add}
use Rattle.registers.specs.declared.Register.TheVariants.{OfBank, OfAudio, OfIrq}
use Rattle.registers.specs.declared.IrqRegister.TheVariants.{Reload, Control, Acknowledge}
use Rattle.registers.specs.Decode.{Decoded, decode}
use Rattle.irq.specs.declared.VrcIrq.{VrcIrq}
use Rattle.irq.specs.Interrupt.{irq_zero}
use Rattle.irq.specs.Timing.{line_step, line_length, clock_answer}
use Rattle.irq.specs.Writes.{irq_written_to}
use Rattle.irq_clocks.specs.Clocks.{irq_clocked_times, irq_sets, LeastClocks}
use Rattle.irq_clocks.proofs.Forecasts.{pending_law}
use Rattle.vrc6_calls.specs.declared.Call.{Call}
use Rattle.vrc6_calls.specs.declared.Call.TheVariants.{CpuWrite, Clock, SoftReset}
use Rattle.vrc6_ledger.specs.Ledger.{event}
use Rattle.vrc6_ledger.specs.Demand3.{weight, clock_count}
use Rattle.scene_steps.specs.declared.step.Step.{Step}
use Rattle.scene_steps.specs.declared.step.Step.TheVariants.{Write, Clocks, Reset}
use Rattle.scene_board.specs.Played.{calls_of, step_calls}
use Rattle.scene_moments.specs.declared.moment.Came.{Came}
use Rattle.scene_moments.specs.declared.moment.Moment.{Moment}
use Rattle.scene_moments.specs.declared.moment.Moment.TheVariants.{Waiting, Pending, Cleared}
use Rattle.scene_moments.specs.Moments.{added, came, clears, clocks_due, coming_in, due_within, ended, gone_by, menu_played, step_pending, step_taken, waited_for}
use Rattle.scene_laws.specs.Counter.{counter_after}
use Rattle.scene_laws.specs.Rises.{ByteStep, HeldFound, Loss, LossFound}
use Rattle.scene_laws.proofs.Runs.{Quiet, Ready, clocked_clear, first_due, quiet_due, ready_after, ready_clocked, ready_taken, ready_zero, shift}
use Rattle.scene_laws.proofs.Walks.{count_joined, count_run, not_over, stays_lost}

-- ---- both walks on the counter alone
abbrev pub falls : (revision_b : Bool) → VrcIrq → List Call → (s n : ℕ) → Option Loss
falls b q [] s n = none
falls b q (k ∷ ks) s n =
    cond (counter_after b k q).irq_pending (falls b (counter_after b k q) ks s (n + weight (event k))) (some (record { set = s; cleared = n + weight (event k) }))

abbrev pub loses : (revision_b : Bool) → VrcIrq → List Call → (n : ℕ) → Option Loss
loses b q [] n = none
loses b q (k ∷ ks) n =
    cond (counter_after b k q).irq_pending (falls b (counter_after b k q) ks (n + weight (event k)) (n + weight (event k)))
    (loses b (counter_after b k q) ks (n + weight (event k)))

-- ---- an interrupt that is pending
abbrev Set : VrcIrq → Type 0
Set q = q.irq_pending ≡ true

-- a clock leaves it
clocked_set : (q : VrcIrq) → Set q → Set (clock_answer q).irq
clocked_set q h = pending_law line_step line_length q ∙ ap (λ (c : Bool). irq_sets line_step q || c) h ∙ or_true (irq_sets line_step q)
  where
    or_true : (c : Bool) → (c || true) ≡ true
    or_true true = refl
    or_true false = refl

-- a register clears it or leaves it
taken_set : (r : Decoded) (v : ℕ) (q : VrcIrq) → Set q → (irq_written_to r v q).irq_pending ≡ not (clears r)
taken_set None v q h = h
taken_set (Some (OfBank r)) v q h = h
taken_set (Some (OfAudio r)) v q h = h
taken_set (Some (OfIrq Reload)) v q h = h
taken_set (Some (OfIrq Control)) v q h = refl
taken_set (Some (OfIrq Acknowledge)) v q h = refl

set_after : (n : ℕ) (q : VrcIrq) → Set q → Set (irq_clocked_times line_step line_length n q)
unfolding times
set_after zero q h = h
set_after (suc n) q h = clocked_set (irq_clocked_times line_step line_length n q) (set_after n q h)

module _ (b : Bool) where
  -- n clocks go by
  held : (n : ℕ) (q : VrcIrq) (rest : List Call) (s j : ℕ) → Set q
      → falls b q (replicate n Clock ++ rest) s j ≡ falls b (irq_clocked_times line_step line_length n q) rest s (j + n)
  unfolding times
  held zero q rest s j h = ap (falls b q rest s) (sym (add-zero j))
  held (suc n) q rest s j h =
      let p = (clock_answer q).irq in
      ap (λ (c : Bool). cond c (falls b p (replicate n Clock ++ rest) s (j + 1)) (some (record { set = s; cleared = j + 1 }))) (clocked_set q h)
      ∙ held n p rest s (j + 1) (clocked_set q h)
      ∙ ap₂ (λ (x : VrcIrq) (t : ℕ). falls b x rest s t) (shift n q) (omega arith)

  -- clocks that set nothing
  pub quiet_loss : (n : ℕ) (q : VrcIrq) (rest : List Call) (j : ℕ) → Ready q → Quiet n q
      → loses b q (replicate n Clock ++ rest) j ≡ loses b (irq_clocked_times line_step line_length n q) rest (j + n)
  unfolding times
  quiet_loss zero q rest j r h = ap (loses b q rest) (sym (add-zero j))
  quiet_loss (suc n) q rest j r h =
      let p = (clock_answer q).irq in
      ap (λ (c : Bool). cond c (falls b p (replicate n Clock ++ rest) (j + 1) (j + 1)) (loses b p (replicate n Clock ++ rest) (j + 1)))
      (clocked_clear q r.clear (h 0 (omega arith)))
      ∙ quiet_loss n p rest (j + 1) (ready_clocked q r (h 0 (omega arith))) (λ i l. ap (irq_sets line_step) (shift i q) ∙ h (suc i) (omega arith))
      ∙ ap₂ (λ (x : VrcIrq) (t : ℕ). loses b x rest t) (shift n q) (omega arith)

  -- e clocks that do not set it, one that does, and g more
  sets_after : (e g : ℕ) (q : VrcIrq) (rest : List Call) (j : ℕ) → Ready q → LeastClocks line_step line_length q (suc e)
      → loses b q (replicate (e + suc g) Clock ++ rest) j ≡ falls b (irq_clocked_times line_step line_length (e + suc g) q) rest (j + suc e) (j + (e + suc g))
  unfolding times
  sets_after e g q rest j r f =
      let s = irq_clocked_times line_step line_length e q in
      let p = (clock_answer s).irq in
      let here : j + e + 1 ≡ j + suc e = omega arith in
      let whole : suc e + g ≡ e + suc g = omega arith in
      let behind : j + e + 1 + g ≡ j + (e + suc g) = omega arith in
      let up : Set p = pending_law line_step line_length s ∙ ap (λ (c : Bool). c || s.irq_pending) (f.sets e refl) in
      ap (λ (ks : List Call). loses b q (ks ++ rest) j) (sym (replicate-append-replicate e (suc g) Clock))
      ∙ ap (λ (ks : List Call). loses b q ks j) (append_assoc (replicate e Clock) (replicate (suc g) Clock) rest)
      ∙ quiet_loss e q (replicate (suc g) Clock ++ rest) j r (λ i l. f.none_before i (omega arith))
      ∙ ap (λ (c : Bool). cond c (falls b p (replicate g Clock ++ rest) (j + e + 1) (j + e + 1)) (loses b p (replicate g Clock ++ rest) (j + e + 1))) up
      ∙ held g p rest (j + e + 1) (j + e + 1) up
      ∙ ap (λ (x : VrcIrq). falls b x rest (j + e + 1) (j + e + 1 + g)) (times_add (λ (x : VrcIrq). (clock_answer x).irq) q (suc e) g)
      ∙ ap₂ (λ (n t : ℕ). falls b (irq_clocked_times line_step line_length n q) rest (j + e + 1) t) whole behind
      ∙ ap (λ (t : ℕ). falls b (irq_clocked_times line_step line_length (e + suc g) q) rest t (j + (e + suc g))) here

  -- it is set after them
  set_by : (e g : ℕ) (q : VrcIrq) → LeastClocks line_step line_length q (suc e) → Set (irq_clocked_times line_step line_length (e + suc g) q)
  unfolding times
  set_by e g q f =
      let s = irq_clocked_times line_step line_length e q in
      let whole : suc e + g ≡ e + suc g = omega arith in
      subst (λ (k : ℕ). Set (irq_clocked_times line_step line_length k q)) whole
      (subst Set (times_add (λ (x : VrcIrq). (clock_answer x).irq) q (suc e) g)
      (set_after g (clock_answer s).irq (pending_law line_step line_length s ∙ ap (λ (c : Bool). c || s.irq_pending) (f.sets e refl))))

  -- the interrupt is set within n clocks, after d of them
  sets_within : (d n : ℕ) (q : VrcIrq) (rest : List Call) (j : ℕ) → Ready q → LeastClocks line_step line_length q d → d ≤ n
      → (loses b q (replicate n Clock ++ rest) j ≡ falls b (irq_clocked_times line_step line_length n q) rest (j + d) (j + n))
      × Set (irq_clocked_times line_step line_length n q)
  sets_within zero n q rest j r f h = absurd (omega (arith, f.one))
  sets_within (suc e) n q rest j r f h =
      let same : e + suc (n - suc e) ≡ n = omega arith in
      subst
      (λ (k : ℕ).
      (loses b q (replicate k Clock ++ rest) j ≡ falls b (irq_clocked_times line_step line_length k q) rest (j + suc e) (j + k))
      × Set (irq_clocked_times line_step line_length k q))
      same
      (sets_after e (n - suc e) q rest j r f, set_by e (n - suc e) q f)

  -- ---- the handler's steps while it is pending
  module _ (s : ℕ) where
    -- what the walk must find, from a counter at a clock
    abbrev Found : Moment → VrcIrq → (clock : ℕ) → (steps : List Step) → List Call → Type 0
    Found m q clock steps ks = LossFound (ended (menu_played b steps m)) (falls b q ks s clock)

    -- a call that clears it
    by_clear : (steps : List Step) (q : VrcIrq) (clock : ℕ) (k : Call) → weight (event k) ≡ 0 → (counter_after b k q).irq_pending ≡ false
        → Found (Cleared s clock) q clock steps (k ∷ calls_of steps)
    by_clear steps q clock k w h =
        let now : clock + weight (event k) ≡ clock = omega (arith, w) in
        subst (λ (m : Moment). LossFound (ended m) (falls b q (k ∷ calls_of steps) s clock)) (sym (stays_lost b steps s clock))
        (ap (λ (c : Bool). cond c (falls b (counter_after b k q) (calls_of steps) s (clock + weight (event k))) (some (record { set = s; cleared = clock + weight (event k) }))) h
        ∙ ap (λ (t : ℕ). some (record { set = s; cleared = t })) now)

    module _ (steps : List Step) (q : VrcIrq) (clock : ℕ) (up : Set q)
        (again : (x : VrcIrq) (t : ℕ) → Set x → t + clock_count (calls_of steps) < 2 ^ 32 → Found (Pending s t) x t steps (calls_of steps)) where
      -- a call that leaves it
      by_call : (k : Call) → weight (event k) ≡ 0 → Set (counter_after b k q) → clock + clock_count (calls_of steps) < 2 ^ 32
          → Found (Pending s clock) q clock steps (k ∷ calls_of steps)
      by_call k w h room =
          let now : clock + weight (event k) ≡ clock = omega (arith, w) in
          let x = counter_after b k q in
          subst (LossFound (ended (menu_played b steps (Pending s clock))))
          (sym
          (ap (λ (c : Bool). cond c (falls b x (calls_of steps) s (clock + weight (event k))) (some (record { set = s; cleared = clock + weight (event k) }))) h
          ∙ ap (falls b x (calls_of steps) s) now))
          (again x clock h room)

      by_step : (t : Step) → clock + clock_count (step_calls t ++ calls_of steps) < 2 ^ 32
          → Found (step_pending b t s clock) q clock steps (step_calls t ++ calls_of steps)
      by_step (Write a v) room =
          tested (clears (decode b a))
          (λ e. rw e (by_clear steps q clock (CpuWrite a v) refl (taken_set (decode b a) v q up ∙ ap not e)))
          (λ e. rw e (by_call (CpuWrite a v) refl (taken_set (decode b a) v q up ∙ ap not e) (omega arith)))
      by_step (Clocks n) room =
          let fits : clock + n + clock_count (calls_of steps) < 2 ^ 32 = omega (arith, count_joined (replicate n Clock) (calls_of steps), count_run n) in
          rw (not_over clock n (omega arith))
          (subst (LossFound (ended (menu_played b steps (Pending s (clock + n))))) (sym (held n q (calls_of steps) s clock up))
          (again (irq_clocked_times line_step line_length n q) (clock + n) (set_after n q up) fits))
      by_step Reset room = by_clear steps q clock SoftReset refl refl

    pub still_told : (steps : List Step) (q : VrcIrq) (clock : ℕ) → Set q → clock + clock_count (calls_of steps) < 2 ^ 32
        → Found (Pending s clock) q clock steps (calls_of steps)
    still_told [] q clock up room = refl
    still_told (t ∷ steps) q clock up room = by_step steps q clock up (λ x k u r. still_told steps x k u r) t room

  -- ---- before it has come
  abbrev Told : Came → VrcIrq → (clock : ℕ) → List Call → Type 0
  Told a q clock ks = LossFound a (loses b q ks clock)

  none_left : (clock : ℕ) (d : Due ℕ) → LossFound (coming_in clock d) none
  none_left clock None = refl
  none_left clock (Some d) = refl

  module _ (steps : List Step) (q : VrcIrq) (clock : ℕ) (r : Ready q)
      (again : (x : VrcIrq) (t : ℕ) → Ready x → t + clock_count (calls_of steps) < 2 ^ 32 → Told (came b steps (Waiting x t)) x t (calls_of steps)) where
    pass : (k : Call) → Ready (counter_after b k q) → weight (event k) ≡ 0 → clock + clock_count (calls_of steps) < 2 ^ 32
        → Told (came b steps (Waiting (counter_after b k q) clock)) q clock (k ∷ calls_of steps)
    pass k f w room =
        let x = counter_after b k q in
        let now : clock + weight (event k) ≡ clock = omega (arith, w) in
        subst (LossFound (came b steps (Waiting x clock)))
        (sym
        (ap (λ (t : ℕ). cond x.irq_pending (falls b x (calls_of steps) t t) (loses b x (calls_of steps) t)) now
        ∙ ap (λ (c : Bool). cond c (falls b x (calls_of steps) clock clock) (loses b x (calls_of steps) clock)) f.clear))
        (again x clock f room)

    module _ (n : ℕ) (room : clock + clock_count (replicate n Clock ++ calls_of steps) < 2 ^ 32) where
      fits : clock + n + clock_count (calls_of steps) < 2 ^ 32
      fits = omega (arith, count_joined (replicate n Clock) (calls_of steps), count_run n)

      -- what must hold of what the step leaves
      abbrev Wanted : Moment → Type 0
      Wanted x = Told (ended (menu_played b steps x)) q clock (replicate n Clock ++ calls_of steps)

      comes_within : (d : ℕ) → clocks_due q ≡ Some d → d ≤ n → Wanted (Pending (added clock d) (added clock n))
      comes_within d e low =
          let found = sets_within d n q (calls_of steps) clock r (first_due q r.fine d e) low in
          rw (not_over clock n (omega (arith, fits)), not_over clock d (omega (arith, fits)))
          (subst (LossFound (ended (menu_played b steps (Pending (clock + d) (clock + n))))) (sym found.0)
          (still_told (clock + d) steps (irq_clocked_times line_step line_length n q) (clock + n) found.1 fits))

      goes_by : due_within n (clocks_due q) ≡ false → Wanted (gone_by n q clock)
      goes_by h =
          let still = quiet_due q r.fine n h in
          rw (not_over clock n (omega (arith, fits)))
          (subst (LossFound (came b steps (Waiting (irq_clocked_times line_step line_length n q) (clock + n)))) (sym (quiet_loss n q (calls_of steps) clock r still))
          (again (irq_clocked_times line_step line_length n q) (clock + n) (ready_after n q r still) fits))

      waits : (d : Due ℕ) → clocks_due q ≡ d → Wanted (waited_for d n q clock)
      waits None e = goes_by (ap (due_within n) e)
      waits (Some d) e =
          let Chosen : Bool → Type 0 = λ c. Wanted (cond c (Pending (added clock d) (added clock n)) (gone_by n q clock)) in
          tested (leb d n)
          (λ h. subst Chosen (sym h) (comes_within d e (leb-true d n h)))
          (λ h. subst Chosen (sym h) (goes_by (ap (due_within n) e ∙ h)))

    take : (s : Step) → ByteStep s → clock + clock_count (step_calls s ++ calls_of steps) < 2 ^ 32
        → Told (ended (menu_played b steps (step_taken b s q clock))) q clock (step_calls s ++ calls_of steps)
    take (Write a v) h room = pass (CpuWrite a v) (ready_taken (decode b a) v q h r) refl (omega arith)
    take (Clocks n) h room = waits n room (clocks_due q) refl
    take Reset h room = pass SoftReset ready_zero refl (omega arith)

  pub loss_told : (steps : List Step) (q : VrcIrq) (clock : ℕ) → Ready q → Each ByteStep steps → clock + clock_count (calls_of steps) < 2 ^ 32
      → Told (came b steps (Waiting q clock)) q clock (calls_of steps)
  loss_told [] q clock r o room = none_left clock (clocks_due q)
  loss_told (s ∷ steps) q clock r o room = take steps q clock r (λ x t f l. loss_told steps x t f o.1 l) s o.0 room

  -- ---- one that is held ends with the handler
  abbrev Ends : Moment → (steps : List Step) (clock : ℕ) → Type 0
  Ends m steps clock = HeldFound (ended (menu_played b steps m)) (clock + clock_count (calls_of steps))

  lost_ends : (steps : List Step) (s clock n : ℕ) → HeldFound (ended (menu_played b steps (Cleared s clock))) n
  lost_ends steps s clock n = subst (λ (x : Moment). HeldFound (ended x) n) (sym (stays_lost b steps s clock)) tt

  -- a call that is no clock
  light : (a : Came) (clock c : ℕ) → HeldFound a (clock + c) → HeldFound a (clock + (0 + c))
  light a clock c h = let same : clock + c ≡ clock + (0 + c) = omega arith in subst (HeldFound a) same h

  -- as many clocks go by in a step and behind it
  ends_on : (m : Moment) (s : Step) (steps : List Step) (clock n : ℕ) → clock_count (step_calls s) ≡ n → Ends m steps (clock + n)
      → HeldFound (ended (menu_played b steps m)) (clock + clock_count (step_calls s ++ calls_of steps))
  ends_on m s steps clock n w h =
      let same : clock + n + clock_count (calls_of steps) ≡ clock + clock_count (step_calls s ++ calls_of steps) =
      omega (arith, count_joined (step_calls s) (calls_of steps), w) in
      subst (HeldFound (ended (menu_played b steps m))) same h

  module _ (s : ℕ) where
    still_by : (steps : List Step) (clock : ℕ) → ((t : ℕ) → t + clock_count (calls_of steps) < 2 ^ 32 → Ends (Pending s t) steps t)
        → (t : Step) → clock + clock_count (step_calls t ++ calls_of steps) < 2 ^ 32
        → HeldFound (ended (menu_played b steps (step_pending b t s clock))) (clock + clock_count (step_calls t ++ calls_of steps))
    still_by steps clock again (Write a v) room =
        tested (clears (decode b a))
        (λ e. rw e (lost_ends steps s clock _))
        (λ e. rw e (light (ended (menu_played b steps (Pending s clock))) clock (clock_count (calls_of steps)) (again clock (omega arith))))
    still_by steps clock again (Clocks n) room =
        let fits : clock + n + clock_count (calls_of steps) < 2 ^ 32 = omega (arith, count_joined (replicate n Clock) (calls_of steps), count_run n) in
        rw (not_over clock n (omega arith)) (ends_on (Pending s (clock + n)) (Clocks n) steps clock n (count_run n) (again (clock + n) fits))
    still_by steps clock again Reset room = lost_ends steps s clock _

    still_ends : (steps : List Step) (clock : ℕ) → clock + clock_count (calls_of steps) < 2 ^ 32 → Ends (Pending s clock) steps clock
    still_ends [] clock room = omega arith
    still_ends (t ∷ steps) clock room = still_by steps clock (λ k r. still_ends steps k r) t room

  none_held : (clock : ℕ) (d : Due ℕ) (n : ℕ) → HeldFound (coming_in clock d) n
  none_held clock None n = tt
  none_held clock (Some d) n = tt

  module _ (steps : List Step) (q : VrcIrq) (clock n : ℕ) (again : (x : VrcIrq) (t : ℕ) → t + clock_count (calls_of steps) < 2 ^ 32 → Ends (Waiting x t) steps t)
      (fits : clock + n + clock_count (calls_of steps) < 2 ^ 32) where
    abbrev EndsSo : Moment → Type 0
    EndsSo x = HeldFound (ended (menu_played b steps x)) (clock + clock_count (replicate n Clock ++ calls_of steps))

    goes_on : EndsSo (gone_by n q clock)
    goes_on =
        rw (not_over clock n (omega arith))
        (ends_on (Waiting (irq_clocked_times line_step line_length n q) (clock + n)) (Clocks n) steps clock n (count_run n)
        (again (irq_clocked_times line_step line_length n q) (clock + n) fits))

    waits_on : (d : Due ℕ) → EndsSo (waited_for d n q clock)
    waits_on None = goes_on
    waits_on (Some d) =
        either EndsSo (leb d n)
        (rw (not_over clock n (omega arith)) (ends_on (Pending (added clock d) (clock + n)) (Clocks n) steps clock n (count_run n) (still_ends (added clock d) steps (clock + n) fits)))
        goes_on

  ends_by : (steps : List Step) (q : VrcIrq) (clock : ℕ) → ((x : VrcIrq) (t : ℕ) → t + clock_count (calls_of steps) < 2 ^ 32 → Ends (Waiting x t) steps t)
      → (s : Step) → clock + clock_count (step_calls s ++ calls_of steps) < 2 ^ 32
      → HeldFound (ended (menu_played b steps (step_taken b s q clock))) (clock + clock_count (step_calls s ++ calls_of steps))
  ends_by steps q clock again (Write a v) room =
      let p = irq_written_to (decode b a) v q in
      light (came b steps (Waiting p clock)) clock (clock_count (calls_of steps)) (again p clock (omega arith))
  ends_by steps q clock again (Clocks n) room =
      waits_on steps q clock n again (omega (arith, count_joined (replicate n Clock) (calls_of steps), count_run n)) (clocks_due q)
  ends_by steps q clock again Reset room = light (came b steps (Waiting irq_zero clock)) clock (clock_count (calls_of steps)) (again irq_zero clock (omega arith))

  pub held_told : (steps : List Step) (q : VrcIrq) (clock : ℕ) → clock + clock_count (calls_of steps) < 2 ^ 32 → Ends (Waiting q clock) steps clock
  held_told [] q clock room = none_held clock (clocks_due q) (clock + 0)
  held_told (s ∷ steps) q clock room = ends_by steps q clock (λ x t r. held_told steps x t r) s room
