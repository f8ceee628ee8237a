-- A run of one verdict is added to a tally. Assumes nothing.
use Rattle.std.proofs.Common.{◌≡◌, ℕ, zero, suc, ◌+◌, ◌-◌, ◌%◌, ◌^◌, ◌<◌, ◌≤◌, Option, Some, None, Bool, true, false, cond, leb, sym, ap, ◌∙◌, ap₂, mod-eq_of_lt, arith, leb-false, leb-true}
use mathlib.Core.Bool.{false≢true}
use Rattle.base_shared.proofs.Tests.{either, tested}
use Rattle.scene_sweep.specs.declared.runs.Run.{Run}
use Rattle.scene_sweep.specs.declared.tally.Tally.{Tally}
use Rattle.scene_sweep.specs.declared.tally.Wrong.{Wrong}
use Rattle.scene_moments.specs.declared.verdict.Seen.{Seen}
use Rattle.scene_sweep.specs.Tallies.{SomeWrong, Tallied, TalliedOn, WrongAt, badness, is_wrong, wrong_before}

module _ (at : ℕ → Seen) where
  -- m clocks that are all wrong, or all right
  spans : (b : Bool) (from m : ℕ) → ((j : ℕ) → from ≤ j → j < from + m → is_wrong (at j).verdict ≡ b) → wrong_before at (from + m) ≡ cond b m 0 + wrong_before at from
  unfolding wrong_before
  spans b from zero h = ap (wrong_before at) none_more ∙ nothing b
    where
      none_more : from + 0 ≡ from
      none_more = omega arith

      nothing : (b : Bool) → wrong_before at from ≡ cond b 0 0 + wrong_before at from
      nothing true = omega arith
      nothing false = omega arith
  spans b from (suc m) h =
      ap (wrong_before at) grown
      ∙ ap₂ (λ (c : Bool) (x : ℕ). cond c 1 0 + x) (h (from + m) (omega arith) (omega arith)) (spans b from m (λ j x y. h j x (omega arith)))
      ∙ one_more b
    where
      grown : from + suc m ≡ suc (from + m)
      grown = omega arith

      one_more : (b : Bool) → cond b 1 0 + (cond b m 0 + wrong_before at from) ≡ cond b (suc m) 0 + wrong_before at from
      one_more true = omega arith
      one_more false = omega arith

  pub most : (n : ℕ) → wrong_before at n ≤ n
  unfolding wrong_before
  most zero = omega arith
  most (suc n) = either (λ (x : ℕ). x + wrong_before at n ≤ suc n) (is_wrong (at n).verdict) (omega (arith, most n)) (omega (arith, most n))

  none_wrong : (n : ℕ) → wrong_before at n ≡ 0 → (j : ℕ) → j < n → is_wrong (at j).verdict ≡ false
  unfolding wrong_before
  none_wrong zero e j h = absurd (omega arith)
  none_wrong (suc n) e j h =
      tested (is_wrong (at n).verdict)
      (λ w. absurd (omega (arith, ap (λ (b : Bool). cond b 1 0 + wrong_before at n) (sym w) ∙ e)))
      (λ w.
      tested (leb n j)
      (λ l. ap (λ (k : ℕ). is_wrong (at k).verdict) (omega (arith, leb-true n j l)) ∙ w)
      (λ l. none_wrong n (omega (arith, ap (λ (b : Bool). cond b 1 0 + wrong_before at n) (sym w) ∙ e)) j (leb-false n j l)))

module _ (from : ℕ) (r : Run) (go : from < r.to) (at : ℕ → Seen) (first : at from ≡ r.first)
    (same : (j : ℕ) → from ≤ j → j < r.to → (at j).verdict ≡ r.first.verdict) where
  all_of : (b : Bool) → is_wrong r.first.verdict ≡ b → wrong_before at r.to ≡ cond b (r.to - from) 0 + wrong_before at from
  all_of b e =
      let back : r.to ≡ from + (r.to - from) = omega arith in
      ap (wrong_before at) back ∙ spans at b from (r.to - from) (λ j x y. ap is_wrong (same j x (omega arith)) ∙ e)

  -- a clock of the run, or one before it
  behind : {A : Type 0} (j : ℕ) → j < r.to → (j < from → A) → ((at j).verdict ≡ r.first.verdict → A) → A
  behind j h f g = tested (leb from j) (λ l. g (same j (leb-true from j l) h)) (λ l. f (leb-false from j l))

  -- a wrong clock before the run is one before its end
  still : (w : Wrong) → WrongAt at from w → WrongAt at r.to w
  still w i = record { before = omega (arith, i.before); seen = i.seen; wrong = i.wrong }

  -- ---- a run that is right
  module _ (right : is_wrong r.first.verdict ≡ false) where
    no_wrong : (j : ℕ) → (at j).verdict ≡ r.first.verdict → is_wrong (at j).verdict ≡ true → ⊥
    no_wrong j e w = false≢true (sym right ∙ ap is_wrong (sym e) ∙ w)

    kept : (t : Option Tally) → Tallied at from t → Tallied at r.to t
    kept None was = omega (arith, was, all_of false right)
    kept (Some t) was =
        record {
          count = omega (arith, was.count, all_of false right);
          first = record { is = still t.first was.first.is; right_before = was.first.right_before };
          worst =
              record {
                is = still t.worst was.worst.is;
                none_worse = λ j l w. behind j l (λ m. was.worst.none_worse j m w) (λ e. absurd (no_wrong j e w));
                first = was.worst.first;
              };
        }

  -- ---- a run that is wrong
  module _ (wrong : is_wrong r.first.verdict ≡ true) where
    abbrev here : Wrong
    here = record { clock = from; seen = r.first }

    is_here : WrongAt at r.to here
    is_here = record { before = go; seen = sym first; wrong = wrong }

    -- the first that is wrong
    begun : wrong_before at from ≡ 0 → SomeWrong at r.to (record { count = r.to - from; first = here; worst = here })
    begun z =
        let all_right : (j : ℕ) → j < from → is_wrong (at j).verdict ≡ false = none_wrong at from z in
        record {
          count = omega (arith, z, all_of true wrong);
          first = record { is = is_here; right_before = all_right };
          worst =
              record {
                is = is_here;
                none_worse = λ j l w. behind j l (λ m. absurd (false≢true (sym (all_right j m) ∙ w))) (λ e. omega (arith, ap badness e));
                first = λ j l w. absurd (false≢true (sym (all_right j l) ∙ w));
              };
        }

    module _ (t : Tally) (was : SomeWrong at from t) (room : r.to < 2 ^ 32) where
      more : (t.count + (r.to - from)) % 2 ^ 32 ≡ wrong_before at r.to
      more = mod-eq_of_lt (omega (arith, was.count, most at from)) ∙ omega (arith, was.count, all_of true wrong)

      worse : badness t.worst.seen.verdict < badness r.first.verdict
          → SomeWrong at r.to (record { count = (t.count + (r.to - from)) % 2 ^ 32; first = t.first; worst = here })
      worse b =
          record {
            count = more;
            first = record { is = still t.first was.first.is; right_before = was.first.right_before };
            worst =
                record {
                  is = is_here;
                  none_worse = λ j l w. behind j l (λ m. omega (arith, was.worst.none_worse j m w)) (λ e. omega (arith, ap badness e));
                  first = λ j l w. omega (arith, was.worst.none_worse j l w);
                };
          }

      no_worse : badness r.first.verdict ≤ badness t.worst.seen.verdict
          → SomeWrong at r.to (record { count = (t.count + (r.to - from)) % 2 ^ 32; first = t.first; worst = t.worst })
      no_worse b =
          record {
            count = more;
            first = record { is = still t.first was.first.is; right_before = was.first.right_before };
            worst =
                record {
                  is = still t.worst was.worst.is;
                  none_worse = λ j l w. behind j l (λ m. was.worst.none_worse j m w) (λ e. omega (arith, ap badness e));
                  first = was.worst.first;
                };
          }

-- what the code leaves
module _ (from : ℕ) (r : Run) (go : from < r.to) where
  pub right_run : (t : Option Tally) → is_wrong r.first.verdict ≡ false → TalliedOn t from r t
  right_run t e at was first same = kept from r go at first same e t was

  pub first_run : is_wrong r.first.verdict ≡ true
      → TalliedOn None from r (Some (record { count = r.to - from; first = record { clock = from; seen = r.first }; worst = record { clock = from; seen = r.first } }))
  first_run e at was first same = begun from r go at first same e was

  module _ (t : Tally) (e : is_wrong r.first.verdict ≡ true) (room : r.to < 2 ^ 32) where
    pub worst_run : badness t.worst.seen.verdict < badness r.first.verdict
        → TalliedOn (Some t) from r (Some (record { count = (t.count + (r.to - from)) % 2 ^ 32; first = t.first; worst = record { clock = from; seen = r.first } }))
    worst_run b at was first same = worse from r go at first same e t was room b

    pub milder_run : badness r.first.verdict ≤ badness t.worst.seen.verdict
        → TalliedOn (Some t) from r (Some (record { count = (t.count + (r.to - from)) % 2 ^ 32; first = t.first; worst = t.worst }))
    milder_run b at was first same = no_worse from r go at first same e t was room b
