-- The ledger in demand 3's own words: each bank register's last byte or none, and of each byte of the changing buffer the last one written
-- through a page then showing it, or as supplied (00, 3). Assumes nothing.
use Rattle.std.specs.Prelude.{◌≡◌, Bool, true, false, cond, ◌&&◌, List, [], ◌∷◌, ℕ, ◌+◌, ◌-◌, ◌%◌, ◌<◌, eqb, length, get_or, Some, None}
use Rattle.std.proofs.Math.Option.{Option, none, some}
use Rattle.memory_pages.specs.declared.page.Page.{Page}
use Rattle.memory_pages.specs.Pages.{offset, writable}
use Rattle.memory_tables.specs.Paging.{cpu, picture, entry_for}
use Rattle.registers.specs.declared.Register.TheVariants.{OfBank, OfAudio, OfIrq}
use Rattle.registers.specs.declared.BankRegister.{BankRegister}
use Rattle.registers.specs.declared.BankRegister.TheVariants.{Prg16, Prg8, Mode, Chr}
use Rattle.registers.specs.Decode.{Decoded, decode}
use Rattle.vrc6_banking.specs.declared.banking.Revision.{Revision}
use Rattle.vrc6_banking.specs.Banking.{is_b}
use Rattle.vrc6_calls.specs.declared.Call.{Call}
use Rattle.vrc6.specs.Boards.{Creation}
use Rattle.vrc6_ledger.specs.Ledger.{Ledger, Registers, Event, cpu_writes, picture_writes, clocks, resets, looks, event, noted, opening, entries, ledger_of}

-- the later byte, or the earlier where there is none
abbrev pub or_else : (later earlier : Option ℕ) → Option ℕ
or_else none o = o
or_else (some v) o = some v

-- a byte, or another where there is none
abbrev pub byte_or : Option ℕ → ℕ → ℕ
byte_or none d = d
byte_or (some v) d = v

-- ---- the eleven bank registers
-- the two PRG registers, the mode, CHR 0 to 7 (01, Banks and decode 1)
abbrev pub Eleven : BankRegister → Type 0
Eleven Prg16 = Unit {0}
Eleven Prg8 = Unit {0}
Eleven Mode = Unit {0}
Eleven (Chr i) = i < 8

-- two are the same register
abbrev pub same : (b r : BankRegister) → Bool
same Prg16 Prg16 = true
same Prg16 Prg8 = false
same Prg16 Mode = false
same Prg16 (Chr j) = false
same Prg8 Prg16 = false
same Prg8 Prg8 = true
same Prg8 Mode = false
same Prg8 (Chr j) = false
same Mode Prg16 = false
same Mode Prg8 = false
same Mode Mode = true
same Mode (Chr j) = false
same (Chr i) Prg16 = false
same (Chr i) Prg8 = false
same (Chr i) Mode = false
same (Chr i) (Chr j) = eqb i j

-- what the ledger holds of one of them (01, Demand 3's lists and their ledger 2)
abbrev pub last_held : Registers → BankRegister → Option ℕ
last_held r Prg16 = r.prg16
last_held r Prg8 = r.prg8
last_held r Mode = r.mode
last_held r (Chr i) = get_or r.chr i none

-- the byte that a write of v to a register gives the bank register b
abbrev pub given_to : (b : BankRegister) → Decoded → (v : ℕ) → Option ℕ
given_to b None v = none
given_to b (Some (OfBank r)) v = cond (same r b) (some v) none
given_to b (Some (OfAudio r)) v = none
given_to b (Some (OfIrq r)) v = none

-- the byte that a call writes to it, as the revision decodes
abbrev pub written_to : Revision → (b : BankRegister) → Event → Option ℕ
written_to r b (cpu_writes a v) = given_to b (decode (is_b r) a) v
written_to r b (picture_writes a v) = none
written_to r b (clocks n) = none
written_to r b resets = none
written_to r b looks = none

-- the last byte that a list writes to it, or none; no ledger is asked
abbrev pub last_to : Revision → (b : BankRegister) → List Call → Option ℕ
last_to r b [] = none
last_to r b (k ∷ ks) = or_else (last_to r b ks) (written_to r b (event k))

-- of every creation, every list and each of the eleven: the ledger holds the last byte written to it, or none (00, 3)
abbrev pub RegistersLaw : Type 0
RegistersLaw = (c : Creation) (ks : List Call) (b : BankRegister) → Eleven b → last_held (ledger_of c ks).registers b ≡ last_to c.settings.revision b ks

-- of every creation and every list: what the board was made with stays what creation said
abbrev pub OriginLaw : Type 0
OriginLaw = (c : Creation) (ks : List Call) → (ledger_of c ks).origin ≡ c.settings

-- ---- the bytes of the changing buffer
-- the byte that a write of v to an address stores at place i of the changing buffer: where the address's page is writable and shows
-- it there (01, Demand 3's lists and their ledger 3)
abbrev pub stored_through : Page → (fixed address v i : ℕ) → Option ℕ
stored_through e fixed address v i = cond (writable e && eqb (offset e - fixed + address % 1024) i) (some v) none

-- the byte that a call stores there, by the entry of its address as it then is
abbrev pub stored_by : Creation → Ledger → Event → (i : ℕ) → Option ℕ
stored_by c l (cpu_writes a v) i = stored_through (entry_for cpu (entries cpu c l) a) (length c.fixed) a v i
stored_by c l (picture_writes a v) i = stored_through (entry_for picture (entries picture c l) a) (length c.fixed) a v i
stored_by c l (clocks n) i = none
stored_by c l resets i = none
stored_by c l looks i = none

-- the last byte that a list stores there, or none
abbrev pub last_at : Creation → Ledger → List Call → (i : ℕ) → Option ℕ
last_at c l [] i = none
last_at c l (k ∷ ks) i = or_else (last_at c (noted c l (event k)) ks i) (stored_by c l (event k) i)

-- of every creation, every list and every place of the changing buffer: the last byte stored there, or as supplied if none was (00, 3)
abbrev pub CopyLaw : Type 0
CopyLaw =
    (c : Creation) (ks : List Call) (i : ℕ) → i < length c.changing
    → get_or (ledger_of c ks).copy i 0 ≡ byte_or (last_at c (opening c) ks i) (get_or c.changing i 0)
