-- The law of the place of a page, for every board, buffer and address; `proofs/` proves it. Assumes nothing.
use Rattle.std.specs.Prelude.{◌≡◌, cond, List, ℕ, ◌+◌, ◌≤◌, length, take, drop}
use Rattle.vrc6.specs.Boards.{State}
use Rattle.vrc6.specs.Calls.{page_view, page_view_refusal}
use Rattle.host_answers.specs.Encoded.{page_at}

-- the buffer that `page_at` places a page in
abbrev pub buffer_of : State → (address : ℕ) → List ℕ
buffer_of x address = cond (page_at x address).changing x.changing x.fixed

-- at the place returned lie the 1,024 bytes that the view shows (01, The board's calls 2)
pub record PagePlaced (x : State) (address : ℕ) : Type 0 where
  pub shows : page_view x address ≡ take 1024 (drop (page_at x address).offset (buffer_of x address))
  pub inside : (page_at x address).offset + 1024 ≤ length (buffer_of x address)

-- of every view that is not refused
abbrev pub PageLaw : Type 0
PageLaw = (x : State) (address : ℕ) → page_view_refusal x address ≡ 0 → PagePlaced x address
