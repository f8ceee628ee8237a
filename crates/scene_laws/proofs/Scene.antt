-- What the tool tells of a scene is what the board does. Assumes nothing.
use mathlib.Core.Path.{◌≡◌, refl, sym, ap, subst, ◌∙◌}
use mathlib.Core.Bool.{Bool}
use Rattle.std.proofs.Common.{Result, Ok, IsOkAnd}
use mathlib.Core.List.{List, [], ◌∷◌, ◌++◌}
use Prim.Native.Nat.{ℕ, zero, suc}
use lib.ListN.{replicate}
use Rattle.base_shared.specs.Lists.{Each}
use Rattle.base_shared.specs.Refusals.{unless}
use Rattle.irq.specs.Timing.{line_step, line_length}
use Rattle.irq_clocks.specs.Clocks.{irq_clocked_times}
use Rattle.vrc6_banking.specs.Banking.{is_b}
use Rattle.vrc6_calls.specs.declared.Call.{Call}
use Rattle.vrc6_calls.specs.declared.Call.TheVariants.{Clock}
use Rattle.vrc6.specs.declared.board.Changed.{Changed}
use Rattle.vrc6.specs.Boards.{State, Creation, held_by, new_board, zero_board}
use Rattle.vrc6.specs.Calls.{create}
use Rattle.vrc6_calls.specs.Lists.{next, after}
use Rattle.vrc6_ledger.specs.Demand3.{start}
use Rattle.vrc6_ledger.proofs.Whole.{demand3}
use Rattle.host_creation.proofs.Numbers.{create_numbered_law}
use Rattle.scene_steps.specs.declared.step.Step.{Step}
use Rattle.scene_steps.specs.declared.step.Step.TheVariants.{Write, Clocks, Reset}
use Rattle.scene_board.specs.Ended.{end_in, end_unless}
use Rattle.scene_board.specs.declared.ended.Ended.{Ended}
use Rattle.scene_board.specs.Played.{calls_of, step_calls}
use Rattle.scene_sweep.specs.Runs.{RunOf}
use Rattle.scene_laws.specs.Rises.{ByteStep, OfByte}
use Rattle.scene_laws.specs.Sweeps.{HasVerdict, steps_of}
use Rattle.scene_laws.specs.Scenes.{SceneLaw, SceneOf, end_from, scene_written}
use Rattle.scene_laws.proofs.Boarded.{counter_law}
use Rattle.scene_laws.proofs.Comes.{Accepted}
use Rattle.scene_laws.proofs.Sweeping.{menu_bytes, sweep_law}

-- ---- the calls of steps write bytes
each_joined : {A : Type 0} (P : A → Type 0) (xs ys : List A) → Each P xs → Each P ys → Each P (xs ++ ys)
each_joined P [] ys h k = k
each_joined P (x ∷ xs) ys h k = (h.0, each_joined P xs ys h.1 k)

clocks_bytes : (n : ℕ) → Each OfByte (replicate n Clock)
clocks_bytes zero = tt
clocks_bytes (suc n) = (tt, clocks_bytes n)

step_bytes : (s : Step) → ByteStep s → Each OfByte (step_calls s)
step_bytes (Write a v) h = (h, tt)
step_bytes (Clocks n) h = clocks_bytes n
step_bytes Reset h = (tt, tt)

bytes : (steps : List Step) → Each ByteStep steps → Each OfByte (calls_of steps)
bytes [] h = tt
bytes (s ∷ steps) h = each_joined OfByte (step_calls s) (calls_of steps) (step_bytes s h.0) (bytes steps h.1)

-- ---- the revision is creation's
revision_behind : (ws : List Call) (x : State) → Accepted x ws → (after x ws).board.banking.revision_b ≡ x.board.banking.revision_b
revision_behind [] x h = refl
revision_behind (w ∷ ws) x h = revision_behind ws (next x w) h.1 ∙ (counter_law x w h.0).revision

first_revision : (c : Creation) → (create c).refusal ≡ 0 → (start c).board.banking.revision_b ≡ is_b c.settings.revision
first_revision c h =
    ap (λ (n : ℕ). (unless n (new_board c.layout c.settings) zero_board).banking.revision_b) h

module _ (c : Creation) (h : (create c).refusal ≡ 0) (ws ms : List (List ℕ)) where
  abbrev x : State
  x = scene_written c ws

  -- the board by numbers is the board
  abbrev ended : Ended
  ended = end_in c.layout x (after x (calls_of (steps_of ms)))

  same : end_from c ws ms ≡ Ok ended
  same =
      ap
      (λ (k : Changed).
      let y = after (held_by k.board c.fixed c.changing) (calls_of (steps_of ws)) in
      end_unless k.refusal (end_in c.layout y (after y (calls_of (steps_of ms)))))
      (create_numbered_law c)
      ∙ ap (λ (n : ℕ). end_unless n ended) h

  revised : x.board.banking.revision_b ≡ is_b c.settings.revision
  revised = revision_behind (calls_of (steps_of ws)) (start c) (demand3 c h (calls_of (steps_of ws))).accepted ∙ first_revision c h

  told : SceneOf c ws ms ended
  told =
      record {
        written = refl;
        behind = refl;
        sweep =
            λ clear few screen window unmasked from n due r run j low high m.
            subst
            (λ (b : Bool). HasVerdict x j (steps_of ms) m (record { window = record { screen = screen; line = window; unmasked = unmasked }; revision_b = b }) from r)
            revised
            (sweep_law c h (calls_of (steps_of ws)) (bytes (steps_of ws) (menu_bytes ws)) x refl clear ms few screen window unmasked from n due r
            (subst
            (λ (b : Bool).
            RunOf (record { window = record { screen = screen; line = window; unmasked = unmasked }; revision_b = b }) (steps_of ms) (irq_clocked_times line_step line_length from x.board.irq) from n r)
            (sym revised) run)
            j low high m);
      }

pub scene_law : SceneLaw
scene_law c h ws ms =
    subst (λ (r : Result Ended ℕ). IsOkAnd r (SceneOf c ws ms)) (sym (same c h ws ms)) (told c h ws ms)
