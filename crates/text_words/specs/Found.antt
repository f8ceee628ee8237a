-- What `next_word` says of a word that it found. Assumes nothing.
use Rattle.std.specs.Prelude.{◌≡◌, List, ℕ, ◌+◌, ◌<◌, ◌≤◌, length}
use Rattle.text_words.specs.declared.Word.{Word}
use Rattle.text_words.specs.Words.{from_word, past_word, word_of}

-- the first word of a text, and the text behind it
pub record Found (text : List ℕ) (word : Word) : Type 0 where
  pub bytes : word.bytes.now ≡ word_of (from_word text)
  pub rest : word.rest.now ≡ past_word (from_word text)
  pub some : 0 < length word.bytes.now
  pub fits : length word.bytes.now + length word.rest.now ≤ length text
