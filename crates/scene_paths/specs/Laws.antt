-- What the definitions come to, and examples; `proofs/` proves them. Assumes nothing.
use Rattle.std.specs.Prelude.{◌≡◌, false}
use Rattle.text_words.specs.Names.{codes}
use Rattle.scene_paths.specs.Paths.{name_of, path_of}

-- names and paths (docs/SCENES.md)
pub record PathExamples : Type 0 where
  -- blanks at the ends, and one inside
  pub name : name_of false (codes " my game.nes ") ≡ codes "my game.nes"
  -- from the sheet's folder, from the current one, and from the root
  pub beside : path_of (codes "a/b/sheet.csv") (codes "game.nes") ≡ codes "a/b/game.nes"
  pub below : path_of (codes "a/sheet.csv") (codes "b/game.nes") ≡ codes "a/b/game.nes"
  pub current : path_of (codes "sheet.csv") (codes "game.nes") ≡ codes "game.nes"
  pub root : path_of (codes "a/sheet.csv") (codes "/game.nes") ≡ codes "/game.nes"
