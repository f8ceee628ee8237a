-- What waits once a whole buffer is written out. Assumes nothing.
use native.Mathlib.Omega.{arith}
use Rattle.std.proofs.Common.{◌≡◌, sym, ap, ◌∙◌, length, ℕ, ◌+◌, ◌-◌, ◌*◌, ◌/◌, ◌<◌, List, ◌++◌, drop}
use Rattle.std.proofs.Math.Seq.{drop-append-add, drop-drop}
use Rattle.std.proofs.Math.Nat.{add-div_right}
use Rattle.std.proofs.lemmas.List.{length-append, length-drop}
use Rattle.text_output.specs.Appends.{written_out, waiting}

add_one : (q : ℕ) → (q + 1) * 65536 ≡ 65536 + q * 65536
add_one q = omega arith

-- of 65,536 bytes more, as many more are written out
more_out : (n : ℕ) → 0 < n → written_out (n + 65536) ≡ 65536 + written_out n
more_out n h =
    let e : n + 65536 - 1 ≡ n - 1 + 65536 = omega (arith, h) in
    let z : 0 < 65536 = omega arith in
    let d : (n - 1 + 65536) / 65536 ≡ (n - 1) / 65536 + 1 = add-div_right (n - 1) z in
    ap (λ (m : ℕ). m / 65536 * 65536) e ∙ ap (λ (m : ℕ). m * 65536) d ∙ add_one ((n - 1) / 65536)

-- k bytes more fill the buffer, and bytes follow: what waits is what waits of the bytes behind those
pub whole_out : (s r : List ℕ) (k : ℕ) → length s + k ≡ 65536 → k < length r → waiting (s ++ r) ≡ waiting (drop k r)
whole_out s r k h more =
    let n = length (drop k r) in
    let e : length (s ++ r) ≡ n + 65536 = omega (arith, length-append s r, length-drop k r, h, more) in
    let out : written_out (length (s ++ r)) ≡ length s + k + written_out n =
    ap written_out e ∙ more_out n (omega (arith, length-drop k r, more)) ∙ ap (λ (m : ℕ). m + written_out n) (sym h) in
    ap (λ (m : ℕ). drop m (s ++ r)) out
    ∙ sym (drop-drop (written_out n) (length s + k) (s ++ r))
    ∙ ap (drop (written_out n)) (drop-append-add s r k)
