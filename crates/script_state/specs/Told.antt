-- What a call answered, as a script's answers show it (oracle/FORMAT.md). Assumes nothing.
use Rattle.std.specs.Prelude.{◌≡◌, List, [], ◌++◌, ℕ, ◌^◌, ◌-◌, false, Some, None, Result, MatchResult, unwrap_or, ◌≢◌}
use Rattle.std.specs.Fmt.{decimal, digits, format_spec, padded_integral}
use Rattle.base_shared.specs.Rows.{flag}
use Rattle.text_words.specs.Names.{codes}
use Rattle.script_state.specs.declared.told.Clocks.{Clocks}
use Rattle.script_state.specs.declared.told.LevelName.{LevelName}
use Rattle.script_state.specs.declared.told.LevelName.TheVariants.{Silent, Held, Playing}
use Rattle.script_state.specs.declared.told.Said.{Said}
use Rattle.script_state.specs.declared.told.UnknownLevel.{UnknownLevel}

-- a level's number in a script
abbrev pub level_number : LevelName → ℕ
level_number Silent = 1
level_number Held = 2
level_number Playing = 3

-- what a number stands for: the level that has it, or none
abbrev pub LevelNumbered : ℕ → Result LevelName UnknownLevel → Type 0
LevelNumbered n r = MatchResult r (λ name. level_number name ≡ n) (λ e. (e.0 ≡ n) × ((name : LevelName) → level_number name ≢ n))

-- its name in an answer
abbrev pub level_text : LevelName → List ℕ
level_text Silent = codes "Silent"
level_text Held = codes "Held"
level_text Playing = codes "Playing"

-- a number with so many hexadecimal digits at least
abbrev pub padded_hexadecimal : (width n : ℕ) → List ℕ
padded_hexadecimal width n = padded_integral (format_spec 32 0 4 width (2 ^ 64 - 1)) false [] (digits 16 false n)

-- ticks, first and last, pending and hash; a clock that there is not is 0
abbrev pub clocks_text : Clocks → List ℕ
clocks_text c =
    (decimal c.ticks ++ (codes " " ++ (decimal (unwrap_or c.first 0) ++ (codes " " ++ decimal (unwrap_or c.last 0)))))
    ++ (codes " " ++ (decimal (flag c.pending) ++ (codes " " ++ padded_hexadecimal 8 c.hash)))

-- what was said, behind the letter of the call
abbrev pub said_text : Said → List ℕ
said_text (Said.Byte byte) = padded_hexadecimal 2 byte
said_text (Said.Clocks clocks) = clocks_text clocks
said_text (Said.Level name bits) = padded_hexadecimal 8 bits ++ (codes " " ++ level_text name)
said_text (Said.Forecast (Some clocks)) = decimal clocks
said_text (Said.Forecast None) = codes "none"
said_text (Said.View view) = padded_hexadecimal 8 view.hash
