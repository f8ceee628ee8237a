-- The columns of a run of clocks, raised to its mark one after the other. Assumes nothing.
use Rattle.std.proofs.Common.{◌≡◌, ℕ, ◌+◌, ◌-◌, ◌<◌, ◌≤◌, leb, ltb, ◌⊎◌, Bool, cond, List, length, map, get_or, replicate, sym, refl, ap, ◌∙◌, inl, inr, ⊎_elim, arith, rules, leb-false, leb-true, ltb-false, ltb-true}
use Rattle.std.proofs.lemmas.List.{places, get_or-map, length-map}
use Rattle.std.specs.Ordering.{ord_max}
use lib.ListN.{get_or-replicate}
use borrow.Rule.Slice.PartMut.{put_mid, mid_of}
use Rattle.base_shared.proofs.Tests.{tested}
use Rattle.scene_moments.proofs.Ranks.{ranked}
use Rattle.scene_moments.specs.contracts.verdict.MarkOrd.TheImpl.{cmp-value}
use Rattle.scene_moments.specs.declared.verdict.Mark.{Mark}
use Rattle.scene_moments.specs.declared.verdict.Mark.TheVariants.{Right}
use Rattle.scene_moments.specs.Verdicts.{rank}
use Rattle.scene_sweep.specs.Bars.{MarkedOn, Shows, Touches, Unmarked, first_column, last_column, worse}
use Rattle.scene_sweep.proofs.Columns.{Among, found, spread}

-- 64 columns of 0 are the bar of no clock
pub unmarked : Unmarked (replicate 64 Right)
unmarked at n =
    record {
      width = refl;
      worst = λ j h. absurd (omega arith);
      shown = λ i h. inl (get_or-replicate 64 i Right Right h);
    }

-- column c shows m, and lies from first to end
pub record Put (first end : ℕ) (m : Mark) (c : ℕ) (is : Mark) : Type 0 where
  pub mark : is ≡ m
  pub behind : first ≤ c
  pub within : c ≤ end

-- what column c was and is, with the columns from first to end raised to m
pub record Column (first end : ℕ) (m : Mark) (c : ℕ) (was is : Mark) : Type 0 where
  pub rises : rank was ≤ rank is
  pub marked : first ≤ c → c ≤ end → rank m ≤ rank is
  pub kept : (is ≡ was) ⊎ Put first end m c is

-- the greater mark is the worse one
pub higher : (m column : Mark) → ord_max cmp-value.it column m ≡ worse m column
higher m column = ap (λ (t : Bool). cond t column m) (ranked m column)

module _ (first end : ℕ) (m : Mark) where
  -- a column that lies elsewhere stays as it was
  elsewhere : (c : ℕ) (was : Mark) → (first ≤ c → c ≤ end → ⊥) → Column first end m c was was
  elsewhere c was out = record { rises = omega arith; marked = λ a b. absurd (out a b); kept = inl refl }

  -- one that lies there is raised
  here : (c : ℕ) (was : Mark) → first ≤ c → c ≤ end → Column first end m c was (worse m was)
  here c was a b =
      tested (ltb (rank m) (rank was))
      (λ t. rw t (record { rises = omega arith; marked = λ x y. omega (arith, ltb-true (rank m) (rank was) t); kept = inl refl }))
      (λ t. rw t (record {
        rises = ltb-false (rank m) (rank was) t;
        marked = λ x y. omega arith;
        kept = inr (record { mark = refl; behind = a; within = b });
      }))

  module _ (old part : List Mark) (f : first ≤ end + 1) (l : end + 1 ≤ length old) (e : part ≡ map (worse m) (mid_of first (end + 1 - first) old)) where
    abbrev now : List Mark
    now = put_mid first (end + 1 - first) old part

    size : length part ≡ end + 1 - first
    size = ap length e ∙ length-map (mid_of first (end + 1 - first) old) (worse m) ∙ grind (arith, places)

    before : (c : ℕ) → c < first → get_or now c Right ≡ get_or old c Right
    before c h = search (rules, places)

    behind : (c : ℕ) → end < c → get_or now c Right ≡ get_or old c Right
    behind c h = let w : length part ≡ end + 1 - first = size in grind (arith, places)

    within : (c : ℕ) → first ≤ c → c ≤ end → get_or now c Right ≡ worse m (get_or old c Right)
    within c a b =
        let w : length part ≡ end + 1 - first = size in
        let there : get_or now c Right ≡ get_or part (c - first) Right = grind (arith, places) in
        let was : get_or (mid_of first (end + 1 - first) old) (c - first) Right ≡ get_or old c Right = grind (arith, places) in
        there
        ∙ ap (λ (l : List Mark). get_or l (c - first) Right) e
        ∙ get_or-map (worse m) (mid_of first (end + 1 - first) old) (c - first) Right Right (omega (arith, w, ap length e, length-map (mid_of first (end + 1 - first) old) (worse m)))
        ∙ ap (worse m) was

    pub column : (c : ℕ) → Column first end m c (get_or old c Right) (get_or now c Right)
    column c =
        tested (leb first c)
        (λ t. tested (leb c end)
        (λ u. rw (within c (leb-true first c t) (leb-true c end u)) (here c (get_or old c Right) (leb-true first c t) (leb-true c end u)))
        (λ u. rw (behind c (leb-false c end u)) (elsewhere c (get_or old c Right) (λ a b. absurd (omega (arith, leb-false c end u))))))
        (λ t. rw (before c (leb-false first c t)) (elsewhere c (get_or old c Right) (λ a b. absurd (omega (arith, leb-false first c t)))))

    pub width : length now ≡ length old
    width = let w : length part ≡ end + 1 - first = size in grind (arith, places)

-- raised from the first clock's column to the last one's, the bar is marked on
module _ (n from to : ℕ) (m : Mark) (h : from < to) (l : to ≤ n) (first end : ℕ) (f : first ≡ first_column from n) (e : end ≡ last_column (to - 1) n) where
  pub marked_on : (old now : List Mark) → length now ≡ length old → ((c : ℕ) → Column first end m c (get_or old c Right) (get_or now c Right))
      → MarkedOn n from to m old now
  marked_on old now w column at b marks = record { width = w ∙ b.width; worst = worst; shown = shown }
    where
      later : (j : ℕ) → j < to → (c : ℕ) → Touches n j c → from ≤ j → rank (at j) ≤ rank (get_or now c Right)
      later j x c t u =
          let z : (first_column from n ≤ c) × (c ≤ last_column (to - 1) n) = spread n from to c h l j u x t in
          omega (arith, ap rank (marks j u x), (column c).marked (omega arith) (omega arith))

      worst : (j : ℕ) → j < to → (c : ℕ) → c < 64 → Touches n j c → rank (at j) ≤ rank (get_or now c Right)
      worst j x c y t =
          tested (leb from j)
          (λ u. later j x c t (leb-true from j u))
          (λ u. omega (arith, b.worst j (leb-false from j u) c y t, (column c).rises))

      earlier : (c : ℕ) → c < 64 → get_or now c Right ≡ get_or old c Right → (get_or now c Right ≡ Right) ⊎ Shows at n to c (get_or now c Right)
      earlier c y same =
          ⊎_elim (λ z. inl (same ∙ z))
          (λ s. inr (record {
            clock = s.clock;
            before = omega (arith, s.before);
            touches = s.touches;
            mark = s.mark ∙ sym same;
          }))
          (b.shown c y)

      put : (c : ℕ) → Put first end m c (get_or now c Right) → (get_or now c Right ≡ Right) ⊎ Shows at n to c (get_or now c Right)
      put c p =
          let a : Among n from to c = found n from to c h l (omega (arith, p.behind)) (omega (arith, p.within)) in
          inr (record {
            clock = a.clock;
            before = a.before;
            touches = a.touches;
            mark = marks a.clock a.behind a.before ∙ sym p.mark;
          })

      shown : (c : ℕ) → c < 64 → (get_or now c Right ≡ Right) ⊎ Shows at n to c (get_or now c Right)
      shown c y = ⊎_elim (earlier c y) (put c) (column c).kept
