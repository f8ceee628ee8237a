-- A window on a region of a layout within its limits meets what the paging functions require, and a window of one page is the ring's. Assumes nothing.
use mathlib.Core.Path.{◌≡◌, refl, sym, ap, ◌∙◌}
use mathlib.Core.List.{List, [], ◌∷◌, map}
use Prim.Native.Nat.{ℕ, ◌+◌, ◌^◌, ◌≤◌}
use Rattle.memory_pages.specs.declared.page.Page.{Page}
use Rattle.memory_layout.specs.declared.regions.MemoryLayout.{MemoryLayout}
use Rattle.memory_layout.specs.declared.regions.Region.{Region}
use Rattle.memory_layout.specs.declared.regions.Src.{Src}
use Rattle.memory_layout.specs.Layout.{region}
use Rattle.memory_layout.specs.Required.{Limits}
use Rattle.memory_rule.specs.Required.{Ring, Whole, ring_of, ring_page}
use Rattle.memory_rule.proofs.Shown.{whole_region}
use Rattle.memory_rule.proofs.Turned.{one_shown}
use Rattle.vrc6_tables.specs.Tables.{one_page}

-- the region ends below 2 ^ 29
abbrev pub Below : Region → Type 0
Below r = r.start + r.len ≤ 2 ^ 29

module _ (l : MemoryLayout) (h : Limits l) (src : Src) (r : Region) (e : r ≡ region l src) where
  pub whole : Whole r
  whole = rw e (whole_region l h src)

-- ---- windows of one page
each_same : (f g : ℕ → Page) → ((v : ℕ) → f v ≡ g v) → (vs : List ℕ) → map f vs ≡ map g vs
each_same f g e [] = refl
each_same f g e (v ∷ vs) = λ i. e v i ∷ each_same f g e vs i

pub ringed : (r : Region) → Whole r → (g : Ring) → g ≡ ring_of r → (vs : List ℕ) → map (ring_page g) vs ≡ map (one_page r) vs
ringed r w g e vs = ap (λ (o : Ring). map (ring_page o) vs) e ∙ each_same (ring_page (ring_of r)) (one_page r) (λ v. sym (one_shown r w v)) vs
