-- The numbers of a fill, and a board from an accepted file. Assumes nothing.
use mathlib.Core.Path.{◌≡◌, refl, sym, ap, ◌∙◌}
use mathlib.Core.Bool.{true, cond}
use mathlib.Core.List.{[], ◌∷◌}
use mathlib.Core.Logic.{inl, inr}
use lib.ListN.{length, replicate, take}
use borrow.Author.Tests.{eq-eqb}
use Rattle.base_shared.proofs.Tests.{both, tested}
use Rattle.base_shared.proofs.Numbers.{decided_behind, numbered_law}
use Rattle.memory_layout.specs.Layout.{within_limits, lengths_fit, layout_checks, fixed_length, changing_length}
use Rattle.vrc6_parts.specs.Checks.{all_zero}
use Rattle.vrc6.specs.Boards.{Creation}
use Rattle.vrc6.specs.Calls.{create}
use Rattle.cartridge_header.proofs.Places.{in_file_law}
use Rattle.host_cartridge.specs.Filled.{fill_checks, fill_refusal, fixed_of}
use Rattle.host_cartridge.specs.Laws.{FillNumbersLaw, TakenLaw, LoadedLaw}
use Rattle.host_cartridge.proofs.Loading.{loaded_length}
use Rattle.host_cartridge.proofs.Runs.{length_zeros}

-- a layout within its limits, with buffers of its lengths: the first page decides
decided : (k : Creation) → within_limits k.layout ≡ true → length k.fixed ≡ fixed_length k.layout
    → length k.changing ≡ changing_length k.layout → (create k).refusal ≡ cond (all_zero (take 1024 k.fixed)) 0 4
decided k w f c =
    decided_behind (layout_checks k.layout (length k.fixed) (length k.changing)) ((all_zero (take 1024 k.fixed), 4) ∷ [])
    (w, (both (eq-eqb (length k.fixed) (fixed_length k.layout) f) (eq-eqb (length k.changing) (changing_length k.layout) c), tt))

pub fill_numbers_law : FillNumbersLaw
fill_numbers_law file fixed changing =
    numbered_law (fill_checks file fixed changing) refl (fill_refusal file fixed changing) refl

pub taken_law : TakenLaw
taken_law file c h k l f g =
    let d =
    decided k
    (ap within_limits l ∙ (in_file_law file c h).limits)
    (f ∙ ap fixed_length (sym l))
    (g ∙ ap changing_length (sym l)) in
    tested (all_zero (take 1024 k.fixed)) (λ e. inl (d ∙ rw e)) (λ e. inr (d ∙ rw e))

pub loaded_law : LoadedLaw
loaded_law file c h s =
    let l = c.layout in
    let n = changing_length l in
    let fit : lengths_fit l (fixed_length l) n ≡ true = both (eq-eqb (fixed_length l) (fixed_length l) refl) (eq-eqb n n refl) in
    decided (record { layout = l; settings = s; fixed = fixed_of file; changing = replicate n 0 }) (in_file_law file c h).limits
    (loaded_length file c h (fixed_length l) n fit)
    (length_zeros n)
