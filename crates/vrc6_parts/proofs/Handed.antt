-- What a read hands back of the byte shown. Assumes nothing.
use mathlib.Core.Path.{◌≡◌, refl, sym, ap, ◌∙◌}
use mathlib.Core.Bool.{Bool, true, false, cond, false≢true}
use mathlib.Core.List.{List}
use Prim.Native.Nat.{ℕ}
use borrow.Author.Tests.{eqb-true}
use Rattle.base_shared.specs.Bits.{bit}
use Rattle.base_shared.specs.Refusals.{unless}
use Rattle.base_shared.proofs.Tests.{tested}
use Rattle.memory_pages.specs.declared.page.Page.{Page}
use Rattle.std.specs.Prelude.{Option, Some, None}
use Rattle.memory_pages.specs.Pages.{found, is_unmapped, writable}
use Rattle.memory_layout.specs.declared.regions.MemoryLayout.{MemoryLayout}
use Rattle.memory_access.specs.Access.{byte_at, plain_refusal, peeked}
use Rattle.vrc6_parts.specs.Reads.{Caller, by_cpu, by_picture, handed, peeked_by}

-- without the setting a CPU read hands back the byte shown
pub off_shows : (bus : ℕ) (l : Option Page) (shown : ℕ) → handed (by_cpu bus) false l shown ≡ shown
off_shows bus None shown = refl
off_shows bus (Some e) shown = refl

-- where a page is there, every read hands back the byte shown
pub mapped_shows : (k : Caller) (setting : Bool) (e : Page) (shown : ℕ) → is_unmapped e ≡ false → handed k setting (found e) shown ≡ shown
mapped_shows (by_cpu bus) setting e shown h = ap (λ (b : Bool). handed (by_cpu bus) setting (cond b None (Some e)) shown) h
mapped_shows by_picture setting e shown h = refl

-- an entry that takes writes is not the unmapped one
pub writable_mapped : (e : Page) → writable e ≡ true → is_unmapped e ≡ false
writable_mapped e w =
    tested (is_unmapped e) (λ u. absurd (false≢true (sym (ap (bit 31) (eqb-true e.0 0 u)) ∙ w))) (λ m. m)

-- a CPU read that hands back the byte shown is a read as without the setting
pub as_shown : (bus : ℕ) (setting : Bool) (l : MemoryLayout) (e : Page) (fixed changing : List ℕ) (address : ℕ)
    → handed (by_cpu bus) setting (found e) (byte_at e fixed changing address) ≡ byte_at e fixed changing address
    → peeked_by (by_cpu bus) setting l e fixed changing address ≡ peeked l e fixed changing address
as_shown bus setting l e fixed changing address h =
    let n = plain_refusal l e fixed changing in
    λ i. record { byte = unless n (h i) 0; refusal = n }
