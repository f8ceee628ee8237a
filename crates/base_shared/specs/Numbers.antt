-- The numbers of refusals (01, The board's calls 4). Assumes nothing.
use Rattle.std.specs.Prelude.{ℕ, Result, Ok, Err}
use Rattle.base_shared.specs.declared.Refusal.{Refusal}
use Rattle.base_shared.specs.declared.Refusal.TheVariants.{Limits, Lengths, Range, FirstPage, NoHeader, Mapper, FileLength}

-- the number of a refusal (01, The board's calls 4)
abbrev pub number : Refusal → ℕ
number Limits = 1
number Lengths = 2
number Range = 3
number FirstPage = 4
number NoHeader = 5
number Mapper = 6
number FileLength = 7

-- the number of an answer: that of its refusal, 0 where it has none (01, The board's calls 4)
abbrev pub answer_number : {A : Type 0} → Result A Refusal → ℕ
answer_number (Ok x) = 0
answer_number (Err refusal) = number refusal
