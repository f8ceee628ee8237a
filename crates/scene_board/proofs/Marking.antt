-- The steps of a menu, marked one after the other. Assumes nothing.
use Rattle.std.proofs.Common.{◌≡◌, ℕ, ◌+◌, ◌<◌, ◌≤◌, Option, Bool, false, eqb, List, ◌∷◌, length, get_or, set, take, drop, refl, sym, ap, ◌∙◌, subst, arith, length-set, get_or-set_same, get_or-set_other, eqb-true}
use Rattle.std.proofs.lemmas.List.{drop_more, length-drop, set-get_or}
use borrow.Author.Tests.{eqb-false}
use Rattle.base_shared.proofs.Tests.{tested}
use Rattle.memory_layout.specs.declared.regions.MemoryLayout.{MemoryLayout}
use Rattle.vrc6.specs.Boards.{State}
use Rattle.vrc6_calls.specs.Lists.{after}
use Rattle.scene_steps.specs.declared.step.Step.{Step}
use Rattle.scene_board.specs.Played.{calls_of, step_calls}
use Rattle.scene_board.specs.Inside.{MarkedSteps, wrong_letters}
use Rattle.scene_board.proofs.After.{joined, steps_on}

module _ (l : MemoryLayout) (x : State) (menu : List Step) (asked : List (Option ℕ)) where
  -- the mark of step i
  abbrev mark_of : ℕ → Bool
  mark_of i = wrong_letters l (after x (calls_of (take i menu))).board.chr_pages asked

  -- i steps are marked and played, and these are left
  pub record Upto (n : ℕ) (marks : List Bool) (now : State) (i : ℕ) (rest : List Step) : Type 0 where
    pub width : length marks ≡ n
    pub state : now ≡ after x (calls_of (take i menu))
    pub left : rest ≡ drop i menu
    pub within : i ≤ length menu
    pub marked : (j : ℕ) → j < i → get_or marks j false ≡ mark_of j

  pub none : (marks : List Bool) → Upto (length marks) marks x 0 menu
  none marks = record { width = refl; state = refl; left = refl; within = omega arith; marked = λ j h. absurd (omega arith) }

  module _ (n : ℕ) (marks : List Bool) (now then : State) (i : ℕ) (rest behind : List Step) (d : Step) (u : Upto n marks now i rest) (some : 1 ≤ length rest)
      (room : i < n) (e : then ≡ after now (step_calls (get_or rest 0 d))) (b : behind ≡ drop 1 rest) where
    more : i < length menu
    more = omega (arith, some, ap length u.left, length-drop i menu)

    whole : rest ≡ get_or menu i d ∷ drop (i + 1) menu
    whole = u.left ∙ drop_more menu i d more

    -- one more is marked and played
    pub put : (mark : Bool) → mark ≡ wrong_letters l now.board.chr_pages asked → Upto n (set marks i mark) then (i + 1) behind
    put mark m =
        record {
          width = length-set marks i mark ∙ u.width;
          state =
              e
              ∙ ap (λ (r : List Step). after now (step_calls (get_or r 0 d))) whole
              ∙ ap (λ (y : State). after y (step_calls (get_or menu i d))) u.state
              ∙ sym (joined (calls_of (take i menu)) (step_calls (get_or menu i d)) x)
              ∙ ap (after x) (sym (steps_on menu i d more));
          left = b ∙ ap (drop 1) whole;
          within = omega (arith, more);
          marked = λ j a.
              tested (eqb j i)
              (λ t.
              let same : i ≡ j = sym (eqb-true j i t) in
              subst (λ (k : ℕ). get_or (set marks i mark) k false ≡ mark_of k) same
              (get_or-set_same marks i mark false (omega (arith, u.width))
              ∙ m
              ∙ ap (λ (y : State). wrong_letters l y.board.chr_pages asked) u.state))
              (λ t. get_or-set_other marks i j mark false (eqb-false j i t) ∙ u.marked j (omega (arith, eqb-false j i t)));
        }

  -- there is no mark left, or no step
  pub all : (n : ℕ) (marks : List Bool) (now : State) (rest : List Step) → Upto n marks now n rest → MarkedSteps l x menu asked marks
  all n marks now rest u = record { mark = λ j a b. u.marked j (omega (arith, u.width)) }

  pub ended : (n : ℕ) (marks : List Bool) (now : State) (i : ℕ) (rest : List Step) → Upto n marks now i rest → length rest < 1 → (y : State) → x ≡ y
      → MarkedSteps l y menu asked (set marks i (get_or marks i false))
  ended n marks now i rest u e y s =
      let done : length menu ≤ i = omega (arith, e, ap length u.left, length-drop i menu) in
      subst (λ (z : State). MarkedSteps l z menu asked (set marks i (get_or marks i false))) s
      (rw set-get_or (record { mark = λ j a b. u.marked j (omega arith) }))
