-- Creation by numbers: its answer from the refusal number, and the law of named numbers. Assumes nothing.
use mathlib.Core.Path.{◌≡◌, refl, sym, ap, ◌∙◌}
use mathlib.Core.Bool.{Bool, true, false, not}
use mathlib.Core.List.{List, [], ◌∷◌}
use Prim.Native.Nat.{ℕ, zero, suc}
use lib.Dec.{eqb, leb}
use lib.ListN.{length, take}
use Rattle.base_shared.specs.Refusals.{first_failing, unless}
use Rattle.base_shared.specs.Rows.{flag}
use Rattle.base_shared.proofs.Tests.{both}
use Rattle.memory_layout.specs.declared.regions.MemoryLayout.{MemoryLayout}
use Rattle.memory_layout.specs.Layout.{within_limits, lengths_fit}
use Rattle.vrc6_slots.specs.declared.Mirroring.{Mirroring}
use Rattle.vrc6_slots.specs.declared.Mirroring.TheVariants.{Vertical, Horizontal, SingleScreenA, SingleScreenB, FourScreen}
use Rattle.vrc6_banking.specs.declared.banking.Revision.{Revision}
use Rattle.vrc6_banking.specs.declared.banking.Revision.TheVariants.{A, B}
use Rattle.vrc6_banking.specs.declared.banking.Settings.{Settings}
use Rattle.vrc6_banking.specs.Banking.{mirroring_number, is_b}
use Rattle.vrc6_parts.specs.Checks.{all_zero, creation_refusal}
use Rattle.vrc6.specs.Boards.{Creation, new_board, zero_board}
use Rattle.vrc6.specs.Calls.{create}
use Rattle.host_creation.specs.declared.NumberedSettings.{NumberedSettings}
use Rattle.host_creation.specs.Numbers.{mirroring_numbered, revision_numbered, settings_numbered, settings_named, numbers_of, numbered_refusal, created_by}
use Rattle.host_creation.specs.Laws.{CreateNumberedLaw}

-- a refusal that is asked twice
twice : {A : Type 0} (n : ℕ) (done given : A) → unless n done given ≡ unless n (unless n done given) given
twice zero done given = refl
twice (suc n) done given = refl

module _ (l : MemoryLayout) (s : NumberedSettings) (fixed changing : List ℕ) where
  abbrev checks : Bool → ℕ
  checks named = first_failing ((within_limits l, 1) ∷ (lengths_fit l (length fixed) (length changing), 2) ∷ (named, 3) ∷ (all_zero (take 1024 fixed), 4) ∷ [])

  abbrev asked : Creation
  asked = record { layout = l; settings = settings_numbered s; fixed = fixed; changing = changing }

  -- each number names something: create decides
  pub named : settings_named s ≡ true → create asked ≡ created_by l s fixed changing
  named h =
      let n = creation_refusal l fixed changing in
      let e : n ≡ numbered_refusal l s fixed changing = ap checks (sym h) in
      let b = twice n (new_board l (settings_numbered s)) zero_board in
      λ i. record { board = (b ∙ ap (λ (k : ℕ). unless k (create asked).board zero_board) e) i; refusal = e i }

mirroring_again : (m : Mirroring) → mirroring_numbered (mirroring_number m) ≡ m
mirroring_again Vertical = refl
mirroring_again Horizontal = refl
mirroring_again SingleScreenA = refl
mirroring_again SingleScreenB = refl
mirroring_again FourScreen = refl

revision_again : (r : Revision) → revision_numbered (flag (is_b r)) ≡ r
revision_again A = refl
revision_again B = refl

mirroring_named : (m : Mirroring) → leb (mirroring_number m) 4 ≡ true
mirroring_named Vertical = refl
mirroring_named Horizontal = refl
mirroring_named SingleScreenA = refl
mirroring_named SingleScreenB = refl
mirroring_named FourScreen = refl

revision_named : (r : Revision) → leb (flag (is_b r)) 1 ≡ true
revision_named A = refl
revision_named B = refl

bus_named : (b : Bool) → leb (flag b) 1 ≡ true
bus_named true = refl
bus_named false = refl

bus_again : (b : Bool) → not (eqb (flag b) 0) ≡ b
bus_again true = refl
bus_again false = refl

all_named : (s : Settings) → settings_named (numbers_of s) ≡ true
all_named s = both (both (mirroring_named s.mirroring) (revision_named s.revision)) (bus_named s.open_bus)

again : (s : Settings) → settings_numbered (numbers_of s) ≡ s
again s =
    λ i. record {
      mirroring = mirroring_again s.mirroring i;
      revision = revision_again s.revision i;
      open_bus = bus_again s.open_bus i;
    }

pub create_numbered_law : CreateNumberedLaw
create_numbered_law c =
    sym (named c.layout (numbers_of c.settings) c.fixed c.changing (all_named c.settings))
    ∙ (λ i. create (record { layout = c.layout; settings = again c.settings i; fixed = c.fixed; changing = c.changing }))
