-- The sweep on the board: the walk on the counter alone is the walk on the board. Assumes nothing.
use mathlib.Core.Path.{◌≡◌, refl, sym, ap, ap₂, subst, ◌∙◌}
use mathlib.Core.Bool.{Bool, true, false, cond, false≢true}
use mathlib.Core.List.{List, [], ◌∷◌, ◌++◌}
use mathlib.Core.Option.{Option, some}
use Prim.Native.Nat.{ℕ, zero, suc, ◌+◌, ◌^◌, ◌≤◌, ◌<◌}
use native.Mathlib.Omega.{arith}
use native.Mathlib.Nat.{zero-add}
use lib.ListN.{replicate}
use Rattle.base_shared.specs.Lists.{Each}
use Rattle.base_shared.specs.Refusals.{unless}
use Rattle.base_steps.specs.Times.{times}
use Rattle.base_steps.proofs.Iterated.{keeps}
use Rattle.registers.specs.Decode.{decode}
use Rattle.irq.specs.declared.VrcIrq.{VrcIrq}
use Rattle.irq.specs.Timing.{line_step, line_length, clock_answer}
use Rattle.irq_clocks.specs.Clocks.{irq_clocked_times}
use Rattle.vrc6_calls.specs.declared.Call.{Call}
use Rattle.vrc6_calls.specs.declared.Call.TheVariants.{Clock}
use Rattle.vrc6.specs.Boards.{State, Creation, new_board, zero_board}
use Rattle.vrc6.specs.Calls.{create}
use Rattle.vrc6_calls.specs.Lists.{refusal_in, next, after, answers}
use Rattle.vrc6_ledger.specs.Ledger.{Event, cpu_writes, picture_writes, clocks, resets, looks, event}
use Rattle.vrc6_ledger.specs.Demand3.{weight, clock_count, start}
use Rattle.vrc6_ledger.proofs.Whole.{demand3}
use Rattle.scene_steps.specs.declared.step.Step.{Step}
use Rattle.scene_steps.specs.declared.step.Step.TheVariants.{Write, Clocks, Reset}
use Rattle.scene_board.specs.Played.{step_calls, calls_of}
use Rattle.scene_laws.specs.Counter.{counter_by}
use Rattle.scene_laws.specs.Rises.{ByteEvent, ByteStep, HeldFound, Loss, LossFound, OfByte, Waits, calls_around, calls_up_to, came_at, cleared_at, loss_in, rises_at}
use Rattle.scene_laws.specs.Laws.{CameLaw, Comes, Loses, RiseLaw, SingleLaw}
use Rattle.scene_laws.proofs.Boarded.{counter_law}
use Rattle.scene_laws.proofs.Runs.{Fine, Ready, fine_clocked, fine_taken, fine_zero, taken_clear, ready_after, rises, quiet, quiet_due}
use Rattle.scene_laws.proofs.Losses.{falls, held_told, loses, loss_told, quiet_loss}
use Rattle.scene_laws.proofs.Walks.{told, found_same, count_joined, count_run}

-- ---- only a clock sets pending
module _ (b : Bool) (q : VrcIrq) (c : q.irq_pending ≡ false) where
  risen : (e : Event) → (counter_by b e q).irq_pending ≡ true → 1 ≤ weight e
  unfolding times
  risen (cpu_writes a v) h = absurd (false≢true (sym (taken_clear (decode b a) v q c) ∙ h))
  risen (picture_writes a v) h = absurd (false≢true (sym c ∙ h))
  risen (clocks zero) h = absurd (false≢true (sym c ∙ h))
  risen (clocks (suc n)) h = omega arith
  risen resets h = absurd (false≢true h)
  risen looks h = absurd (false≢true (sym c ∙ h))

pub rise_law : RiseLaw
rise_law x k h c s =
    risen x.board.banking.revision_b x.board.irq c (event k)
    (ap (λ (q : VrcIrq). q.irq_pending) (sym (counter_law x k h).counter) ∙ s)

-- a run's calls are clocks, writes and resets
abbrev Light : List Call → Type 0
Light = Each (λ (c : Call). weight (event c) ≤ 1)

light_joined : (ks js : List Call) → Light ks → Light js → Light (ks ++ js)
light_joined [] js h g = g
light_joined (k ∷ ks) js h g = (h.0, light_joined ks js h.1 g)

light_clocks : (n : ℕ) → Light (replicate n Clock)
light_clocks zero = tt
light_clocks (suc n) = (omega arith, light_clocks n)

light_step : (s : Step) → Light (step_calls s)
light_step (Write a v) = (omega arith, tt)
light_step (Clocks n) = light_clocks n
light_step Reset = (omega arith, tt)

light_calls : (steps : List Step) → Light (calls_of steps)
light_calls [] = tt
light_calls (s ∷ steps) = light_joined (step_calls s) (calls_of steps) (light_step s) (light_calls steps)

pub single_law : SingleLaw
single_law k steps m = light_joined (replicate k Clock) _ (light_clocks k) (light_joined (calls_of steps) _ (light_calls steps) (light_clocks m))

-- ---- no call of a list is refused
abbrev pub Accepted : State → List Call → Type 0
Accepted x ks = Each (λ a. refusal_in a ≡ 0) (answers x ks)

accepted_behind : (ws : List Call) (x : State) (ks : List Call) → Accepted x (ws ++ ks) → Accepted (after x ws) ks
accepted_behind [] x ks h = h
accepted_behind (w ∷ ws) x ks h = accepted_behind ws (next x w) ks h.1

-- ---- the counter after a list
fine_after : (b : Bool) (e : Event) (q : VrcIrq) → ByteEvent e → Fine q → Fine (counter_by b e q)
fine_after b (cpu_writes a v) q h f = fine_taken (decode b a) v q h f
fine_after b (picture_writes a v) q h f = f
fine_after b (clocks n) q h f = keeps (λ p. (clock_answer p).irq) Fine fine_clocked q f n
fine_after b resets q h f = fine_zero
fine_after b looks q h f = f

pub fine_behind : (ws : List Call) (x : State) → Accepted x ws → Each OfByte ws → Fine x.board.irq → Fine (after x ws).board.irq
fine_behind [] x h o f = f
fine_behind (w ∷ ws) x h o f =
    fine_behind ws (next x w) h.1 o.1
    (subst Fine (sym (counter_law x w h.0).counter) (fine_after x.board.banking.revision_b (event w) x.board.irq o.0 f))

-- ---- both walks are one
carried : (ks : List Call) (x : State) (n : ℕ) → Accepted x ks → rises_at x ks n ≡ rises x.board.banking.revision_b x.board.irq ks n
carried [] x n h = refl
carried (k ∷ ks) x n h =
    let t = n + weight (event k) in
    let law = counter_law x k h.0 in
    ap (λ (r : Option ℕ). cond (next x k).board.irq.irq_pending (some t) r) (carried ks (next x k) t h.1)
    ∙ ap₂ (λ (b : Bool) (q : VrcIrq). cond q.irq_pending (some t) (rises b q ks t)) law.revision law.counter

carried_fall : (ks : List Call) (x : State) (s n : ℕ) → Accepted x ks → cleared_at x ks s n ≡ falls x.board.banking.revision_b x.board.irq ks s n
carried_fall [] x s n h = refl
carried_fall (k ∷ ks) x s n h =
    let t = n + weight (event k) in
    let law = counter_law x k h.0 in
    ap (λ (r : Option Loss). cond (next x k).board.irq.irq_pending r (some (record { set = s; cleared = t }))) (carried_fall ks (next x k) s t h.1)
    ∙ ap₂ (λ (b : Bool) (q : VrcIrq). cond q.irq_pending (falls b q ks s t) (some (record { set = s; cleared = t }))) law.revision law.counter

carried_loss : (ks : List Call) (x : State) (n : ℕ) → Accepted x ks → loss_in x ks n ≡ loses x.board.banking.revision_b x.board.irq ks n
carried_loss [] x n h = refl
carried_loss (k ∷ ks) x n h =
    let t = n + weight (event k) in
    let law = counter_law x k h.0 in
    ap₂ (λ (r l : Option Loss). cond (next x k).board.irq.irq_pending r l) (carried_fall ks (next x k) t t h.1) (carried_loss ks (next x k) t h.1)
    ∙ ap₂ (λ (b : Bool) (q : VrcIrq). cond q.irq_pending (falls b q ks t t) (loses b q ks t)) law.revision law.counter

-- ---- a board that refuses no call of the run
on_board : (x : State) (k : ℕ) (steps : List Step) (m : ℕ) → Each ByteStep steps → Accepted x (calls_around k steps m) → Fine x.board.irq → Waits x.board.irq k
    → k + clock_count (calls_of steps) + 100_000 < 2 ^ 32 → Comes x k steps m
on_board x k steps m o h f w room =
    let b = x.board.banking.revision_b in
    let q = x.board.irq in
    let p = irq_clocked_times line_step line_length k q in
    let rest = calls_of steps ++ replicate m Clock in
    let ready : Ready q = record { fine = f; clear = w.clear } in
    let still = quiet_due q f k w.not_yet in
    found_same (came_at b q k steps) (k + clock_count rest) (clock_count (calls_around k steps m)) (rises b p rest k) (rises_at x (calls_around k steps m) 0)
    (count_joined (replicate k Clock) rest ∙ ap (λ (n : ℕ). n + clock_count rest) (count_run k))
    (carried (calls_around k steps m) x 0 h ∙ quiet b k q rest 0 ready still ∙ ap (rises b p rest) (zero-add k))
    (told b m steps p k (ready_after k q ready still) o room)

lost_on_board : (x : State) (k : ℕ) (steps : List Step) → Each ByteStep steps → Accepted x (calls_up_to k steps) → Fine x.board.irq → Waits x.board.irq k
    → k + clock_count (calls_of steps) + 100_000 < 2 ^ 32 → Loses x k steps
lost_on_board x k steps o h f w room =
    let b = x.board.banking.revision_b in
    let q = x.board.irq in
    let ready : Ready q = record { fine = f; clear = w.clear } in
    let still = quiet_due q f k w.not_yet in
    subst (LossFound (came_at b q k steps))
    (sym
    (carried_loss (calls_up_to k steps) x 0 h
    ∙ quiet_loss b k q (calls_of steps) 0 ready still
    ∙ ap (loses b (irq_clocked_times line_step line_length k q) (calls_of steps)) (zero-add k)))
    (loss_told b steps (irq_clocked_times line_step line_length k q) k (ready_after k q ready still) o (omega arith))

held_on_board : (x : State) (k : ℕ) (steps : List Step) → k + clock_count (calls_of steps) + 100_000 < 2 ^ 32
    → HeldFound (came_at x.board.banking.revision_b x.board.irq k steps) (clock_count (calls_up_to k steps))
held_on_board x k steps room =
    let all : k + clock_count (calls_of steps) ≡ clock_count (calls_up_to k steps) = omega (arith, count_joined (replicate k Clock) (calls_of steps), count_run k) in
    subst (HeldFound (came_at x.board.banking.revision_b x.board.irq k steps)) all
    (held_told x.board.banking.revision_b steps (irq_clocked_times line_step line_length k x.board.irq) k (omega arith))

-- the counter of a new board
pub first_fine : (c : Creation) → (create c).refusal ≡ 0 → Fine (start c).board.irq
first_fine c h =
    subst (λ (n : ℕ). Fine (unless n (new_board c.layout c.settings) zero_board).irq) (sym h) fine_zero

pub came_law : CameLaw
came_law c h ws o k w steps bytes room m =
    let fine = fine_behind ws (start c) (demand3 c h ws).accepted o (first_fine c h) in
    record {
      comes =
          on_board (after (start c) ws) k steps m bytes
          (accepted_behind ws (start c) (calls_around k steps m) (demand3 c h (ws ++ calls_around k steps m)).accepted)
          fine w room;
      loses =
          lost_on_board (after (start c) ws) k steps bytes
          (accepted_behind ws (start c) (calls_up_to k steps) (demand3 c h (ws ++ calls_up_to k steps)).accepted)
          fine w room;
      held = held_on_board (after (start c) ws) k steps room;
    }
