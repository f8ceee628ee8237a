-- What a line of a script says: its name, and the arguments that follow the name (oracle/FORMAT.md). Assumes nothing.
use Rattle.std.specs.Prelude.{Bool, true, false, cond, List, [], ◌∷◌, ℕ, eqb, get_or, Option, Some, None, Result, Ok, Err}
use Rattle.memory_layout.specs.declared.regions.MemoryLayout.{MemoryLayout}
use Rattle.text_words.specs.Names.{codes, named, words_of}
use Rattle.vrc6_banking.specs.declared.banking.Revision.{Revision}
use Rattle.vrc6_slots.specs.declared.Mirroring.{Mirroring}
use Rattle.vrc6_words.specs.Named.{revision_of}
use Rattle.script_lines.specs.declared.error.LineError.{LineError}
use Rattle.script_lines.specs.declared.error.LineError.TheVariants as Fault
use Rattle.script_lines.specs.declared.line.Bytes.TheVariants as Bytes
use Rattle.script_lines.specs.declared.line.CallLine.{CallLine}
use Rattle.script_lines.specs.declared.line.Creation.{Creation}
use Rattle.script_lines.specs.declared.line.Line.{Line}
use Rattle.script_lines.specs.declared.names.CallName.{CallName}
use Rattle.script_lines.specs.declared.names.Name.{Name}
use Rattle.script_lines.specs.declared.names.Shown.{Shown}
use Rattle.script_lines.specs.Readings.{Reader, Reading, address_after, byte_after, chosen, decimal_after, following, given, hexadecimal_after, mirroring_after, named_after, then, value_after}
use Rattle.script_lines.specs.Values.{buffer_after, named_value}

-- ---- names
-- the names of lines: each call by its letter and its word, then what sets up, shows and expects
abbrev pub line_names : List (List ℕ × Name)
line_names =
    (codes "R", Name.Call CallName.Read) ∷
    (codes "read", Name.Call CallName.Read) ∷
    (codes "W", Name.Call CallName.Write) ∷
    (codes "write", Name.Call CallName.Write) ∷
    (codes "P", Name.Call CallName.PictureRead) ∷
    (codes "picture-read", Name.Call CallName.PictureRead) ∷
    (codes "Q", Name.Call CallName.PictureWrite) ∷
    (codes "picture-write", Name.Call CallName.PictureWrite) ∷
    (codes "V", Name.Call CallName.View) ∷
    (codes "view", Name.Call CallName.View) ∷
    (codes "Z", Name.Call CallName.Reset) ∷
    (codes "reset", Name.Call CallName.Reset) ∷
    (codes "L", Name.Call CallName.Level) ∷
    (codes "level", Name.Call CallName.Level) ∷
    (codes "F", Name.Call CallName.Forecast) ∷
    (codes "forecast", Name.Call CallName.Forecast) ∷
    (codes "B", Name.Call CallName.ReadBus) ∷
    (codes "read-bus", Name.Call CallName.ReadBus) ∷
    (codes "C", Name.Clock) ∷
    (codes "clock", Name.Clock) ∷
    (codes "N", Name.Filled) ∷
    (codes "S", Name.LayoutS) ∷
    (codes "create", Name.Create) ∷
    (codes "G", Name.Show Shown.Registers) ∷
    (codes "H", Name.Show Shown.Buffers) ∷
    (codes "D", Name.Show Shown.Dump) ∷
    (codes "lend", Name.Lend) ∷
    (codes "poke", Name.Poke) ∷
    (codes "expect", Name.Expect) ∷
    (codes "O", Name.OpenBus) ∷
    (codes "open-bus", Name.OpenBus) ∷
    (codes "=", Name.Heading) ∷ []

-- what a line's first word names
unfoldable pub name_of : List ℕ → Option Name
name_of word = named line_names word

-- the letter of a call's answer
abbrev pub call_letter : CallLine → List ℕ
call_letter (CallLine.Read addr) = codes "R"
call_letter (CallLine.Write addr val) = codes "W"
call_letter (CallLine.PictureRead addr) = codes "P"
call_letter (CallLine.PictureWrite addr val) = codes "Q"
call_letter (CallLine.View addr) = codes "V"
call_letter CallLine.SoftReset = codes "Z"
call_letter CallLine.HardReset = codes "Z"
call_letter CallLine.Level = codes "L"
call_letter CallLine.Forecast = codes "F"
call_letter (CallLine.ReadBus addr val) = codes "B"

-- ---- arguments
-- CHR can be written or not
abbrev pub access_after : Reader Bool
access_after = named_after ((codes "r", false) ∷ (codes "w", true) ∷ [])

-- a setting, on or off
abbrev pub setting_after : Reader Bool
setting_after = named_after ((codes "no", false) ∷ (codes "yes", true) ∷ [])

-- a revision by its letter
unfoldable pub revision_after : Reader Revision
revision_after words = following (λ (word : List ℕ). chosen Fault.NoChoice (revision_of word)) words

-- a reset by its kind
abbrev pub reset_after : Reader CallLine
reset_after =
    named_after
    ((codes "s", CallLine.SoftReset) ∷ (codes "h", CallLine.HardReset) ∷ (codes "soft", CallLine.SoftReset) ∷ (codes "hard", CallLine.HardReset) ∷ [])

-- a layout: PRG, CHR, whether CHR can be written, PRG RAM and CIRAM
unfoldable pub layout_after : Reader MemoryLayout
layout_after words =
    then decimal_after (λ prg. then decimal_after (λ chr. then access_after (λ writable. then decimal_after (λ ram. then decimal_after (λ ciram.
    given (record { prg_rom = prg; chr = chr; chr_writable = writable; prg_ram = ram; ciram = ciram })))))) words

-- a board over the buffers as they are
unfoldable pub creation_after : Reader Creation
creation_after words =
    then layout_after (λ l. then mirroring_after (λ m. then revision_after (λ r.
    given (record { layout = l; mirroring = m; revision = r; bytes = Bytes.Kept })))) words

-- layout S over buffers of zeros
abbrev pub layout_s : Mirroring → Revision → Creation
layout_s m r =
    record {
      layout = record { prg_rom = 131_072; chr = 131_072; chr_writable = false; prg_ram = 8_192; ciram = 2_048 };
      mirroring = m;
      revision = r;
      bytes = Bytes.Zeros;
    }

-- the call of a name, with its arguments
unfoldable pub call_behind : CallName → Reader CallLine
call_behind CallName.Read = then address_after (λ addr. given (CallLine.Read addr))
call_behind CallName.Write = then address_after (λ addr. then byte_after (λ val. given (CallLine.Write addr val)))
call_behind CallName.PictureRead = then address_after (λ addr. given (CallLine.PictureRead addr))
call_behind CallName.PictureWrite = then address_after (λ addr. then byte_after (λ val. given (CallLine.PictureWrite addr val)))
call_behind CallName.View = then address_after (λ addr. given (CallLine.View addr))
call_behind CallName.Reset = reset_after
call_behind CallName.Level = given CallLine.Level
call_behind CallName.Forecast = given CallLine.Forecast
call_behind CallName.ReadBus = then address_after (λ addr. then byte_after (λ bus. given (CallLine.ReadBus addr bus)))

-- ---- a line
-- all words that are left, whatever they are
abbrev pub all_words : Line → Reader Line
all_words line words = Ok (record { value = line; rest = [] })

-- the line of a name, with its arguments
unfoldable pub line_behind : Name → Reader Line
line_behind (Name.Call name) = then (call_behind name) (λ call. given (Line.Call call))
line_behind Name.Clock = then decimal_after (λ n. given (Line.Clock n))
line_behind Name.Filled =
    then creation_after (λ c. then hexadecimal_after (λ seed. given (Line.Create (record c { bytes = Bytes.Filled seed }))))
line_behind Name.LayoutS = then mirroring_after (λ m. then revision_after (λ r. given (Line.Create (layout_s m r))))
line_behind Name.Create = then creation_after (λ c. given (Line.Create c))
line_behind (Name.Show shown) = given (Line.Show shown)
line_behind Name.Lend = then buffer_after (λ buffer. then decimal_after (λ n. given (Line.Lend buffer n)))
line_behind Name.Poke = then named_value (λ v. then value_after (λ n. given (Line.Poke v n)))
line_behind Name.Expect = then named_value (λ v. then value_after (λ n. given (Line.Expect v n)))
line_behind Name.OpenBus = then setting_after (λ on. given (Line.OpenBus on))
line_behind Name.Heading = all_words Line.Heading

-- a line behind which no word is left
abbrev pub whole : Line → List (List ℕ) → Result (Option Line) LineError
whole line [] = Ok (Some line)
whole line (word ∷ rest) = Err Fault.TooMany

-- a line from its name and its arguments
abbrev pub line_of : Result (Reading Line) LineError → Result (Option Line) LineError
line_of (Ok r) = whole r.value r.rest
line_of (Err e) = Err e

-- a line by its name
abbrev pub line_named : Option Name → List (List ℕ) → Result (Option Line) LineError
line_named None rest = Err Fault.UnknownLine
line_named (Some name) rest = line_of (line_behind name rest)

-- a line is a comment, by its first word
abbrev pub is_comment : List ℕ → Bool
is_comment word = eqb (get_or word 0 0) 35

-- a line by its first word: nothing if there is none or it begins with `#`, wrong if it is no line's name
abbrev pub line_with : List (List ℕ) → Result (Option Line) LineError
line_with [] = Ok None
line_with (word ∷ rest) = cond (is_comment word) (Ok None) (line_named (name_of word) rest)

-- what a line says
unfoldable pub line_read : List ℕ → Result (Option Line) LineError
line_read line = line_with (words_of line)
