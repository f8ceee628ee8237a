-- Moments that meet a mark, one clock after the other. Assumes nothing.
use Rattle.std.proofs.Common.{◌≡◌, ℕ, zero, suc, ◌+◌, ◌%◌, ◌^◌, ◌<◌, ◌≤◌, Option, Some, None, Bool, true, false, cond, leb, List, sym, refl, ap, ◌∙◌, subst, mod-eq_of_lt, arith, leb-false, leb-true}
use Rattle.base_shared.proofs.Tests.{either, tested}
use Rattle.base_steps.specs.Times.{times}
use Rattle.irq.specs.declared.VrcIrq.{VrcIrq}
use Rattle.irq.specs.Timing.{line_step, line_length, clock_answer}
use Rattle.irq_clocks.specs.Clocks.{irq_clocked_times}
use Rattle.scene_steps.specs.declared.step.Step.{Step}
use Rattle.scene_sweep.specs.declared.letters.Met.{Met}
use Rattle.scene_sweep.specs.declared.runs.Sweep.{Sweep}
use Rattle.scene_sweep.specs.Letters.{MetOf, holds_before, is_marked, meets, meets_in, met_with, one_met, step_at}

-- ---- clocks at which a test holds
module _ (at : ℕ → Bool) where
  most : (n : ℕ) → holds_before at n ≤ n
  unfolding holds_before
  most zero = omega arith
  most (suc n) = either (λ (x : ℕ). x + holds_before at n ≤ suc n) (at n) (omega (arith, most n)) (omega (arith, most n))

  none_holds : (n : ℕ) → holds_before at n ≡ 0 → (j : ℕ) → j < n → at j ≡ false
  unfolding holds_before
  none_holds zero e j h = absurd (omega arith)
  none_holds (suc n) e j h =
      tested (at n)
      (λ w. absurd (omega (arith, ap (λ (b : Bool). cond b 1 0 + holds_before at n) (sym w) ∙ e)))
      (λ w.
      tested (leb n j)
      (λ l. let same : j ≡ n = omega (arith, leb-true n j l) in ap at same ∙ w)
      (λ l. none_holds n (omega (arith, ap (λ (b : Bool). cond b 1 0 + holds_before at n) (sym w) ∙ e)) j (leb-false n j l)))

  one_more : (n : ℕ) → at n ≡ true → holds_before at (suc n) ≡ 1 + holds_before at n
  unfolding holds_before
  one_more n w = ap (λ (b : Bool). cond b 1 0 + holds_before at n) w

  no_more : (n : ℕ) → at n ≡ false → holds_before at (suc n) ≡ holds_before at n
  unfolding holds_before
  no_more n w = ap (λ (b : Bool). cond b 1 0 + holds_before at n) w ∙ omega arith

module _ (s : Sweep) (menu : List Step) (marks : List Bool) (q : VrcIrq) where
  abbrev counter : ℕ → VrcIrq
  counter k = irq_clocked_times line_step line_length k q

  -- k clocks are looked at
  pub record Upto (k : ℕ) (now : VrcIrq) (m : Option Met) : Type 0 where
    pub state : now ≡ counter k
    pub met : MetOf s menu marks q k m

  pub none : Upto 0 q None
  unfolding times holds_before
  none = record { state = refl; met = refl }

  module _ (k : ℕ) (room : suc k < 2 ^ 32) where
    -- one that meets a mark
    hit : (m : Option Met) → MetOf s menu marks q k m → meets_in s menu marks q k ≡ true → (i : ℕ) → step_at s menu (counter k) k ≡ Some i
        → MetOf s menu marks q (suc k) (Some (one_met m k i))
    hit None d w i e =
        record {
          count = omega (arith, d, one_more (meets_in s menu marks q) k w);
          before = omega arith;
          meets = w;
          none_before = none_holds (meets_in s menu marks q) k d;
          step = e;
        }
    hit (Some m) d w i e =
        let fits : (m.count + 1) % 2 ^ 32 ≡ m.count + 1 = mod-eq_of_lt (omega (arith, d.count, most (meets_in s menu marks q) k)) in
        record {
          count = fits ∙ omega (arith, d.count, one_more (meets_in s menu marks q) k w);
          before = omega (arith, d.before);
          meets = d.meets;
          none_before = d.none_before;
          step = d.step;
        }

    -- one that does not
    miss : (m : Option Met) → MetOf s menu marks q k m → meets_in s menu marks q k ≡ false → MetOf s menu marks q (suc k) m
    miss None d w = no_more (meets_in s menu marks q) k w ∙ d
    miss (Some m) d w =
        record {
          count = d.count ∙ sym (no_more (meets_in s menu marks q) k w);
          before = omega (arith, d.before);
          meets = d.meets;
          none_before = d.none_before;
          step = d.step;
        }

  module _ (k : ℕ) (now : VrcIrq) (m : Option Met) (u : Upto k now m) (fit : k + 1 < 2 ^ 32) where
    left : (o : Option Met) → MetOf s menu marks q (suc k) o → Upto (k + 1) (clock_answer now).irq o
    unfolding times
    left o d =
        let one : suc k ≡ k + 1 = omega arith in
        subst (λ (x : ℕ). Upto x (clock_answer now).irq o) one (record { state = ap (λ (p : VrcIrq). (clock_answer p).irq) u.state; met = d })

    by_step : (step : Option ℕ) → step_at s menu (counter k) k ≡ step → Upto (k + 1) (clock_answer now).irq (met_with m marks k step)
    by_step None e = left m (miss k (omega arith) m u.met (ap (meets marks) e))
    by_step (Some i) e =
        tested (is_marked marks i)
        (λ w. rw w (left (Some (one_met m k i)) (hit k (omega arith) m u.met (ap (meets marks) e ∙ w) i e)))
        (λ w. rw w (left m (miss k (omega arith) m u.met (ap (meets marks) e ∙ w))))

    pub more : (step : Option ℕ) → step ≡ step_at s menu now k → Upto (k + 1) (clock_answer now).irq (met_with m marks k step)
    more step e = by_step step (sym (e ∙ ap (λ (p : VrcIrq). step_at s menu p k) u.state))

  pub all : (n k : ℕ) (now : VrcIrq) (m : Option Met) → Upto k now m → k ≡ n → MetOf s menu marks q n m
  all n k now m u e = subst (λ (x : ℕ). MetOf s menu marks q x m) e u.met
