-- The ledger: what creation and the calls' names and arguments alone say of the page entries, the changing buffer and four interrupt
-- values. It gets no answer, no later board and no later buffer (01, Demand 3's lists and their ledger 2). Assumes nothing.
use Rattle.std.specs.Prelude.{Bool, true, false, cond, not, ◌&&◌, ◌||◌, List, [], ◌∷◌, map, ℕ, ◌+◌, ◌-◌, ◌%◌, leb, length, set, replicate, Some, None}
use Rattle.std.proofs.Math.Option.{Option, none, some}
use Rattle.base_shared.specs.Bits.{bit}
use Rattle.base_steps.specs.Times.{times}
use Rattle.memory_pages.specs.declared.page.Page.{Page}
use Rattle.memory_pages.specs.Pages.{offset, writable}
use Rattle.memory_tables.specs.Paging.{Side, cpu, picture, entry_for}
use Rattle.registers.specs.declared.Register.TheVariants.{OfBank, OfAudio, OfIrq}
use Rattle.registers.specs.declared.BankRegister.{BankRegister}
use Rattle.registers.specs.declared.BankRegister.TheVariants.{Prg16, Prg8, Mode, Chr}
use Rattle.registers.specs.declared.IrqRegister.{IrqRegister}
use Rattle.registers.specs.declared.IrqRegister.TheVariants.{Reload, Control, Acknowledge}
use Rattle.registers.specs.Decode.{Decoded, decode}
use Rattle.vrc6_banking.specs.declared.banking.Settings.{Settings}
use Rattle.vrc6_banking.specs.declared.banking.Banking.{Banking}
use Rattle.vrc6_banking.specs.Banking.{mirroring_number, is_b}
use Rattle.vrc6_slots.specs.Nametables.{mirroring_numbers, nametable_numbers, nametable_mirroring}
use Rattle.vrc6_tables.specs.Tables.{table_of}
use Rattle.vrc6_calls.specs.declared.Call.{Call}
use Rattle.vrc6_calls.specs.Lists.{Ask, clocking, resetting, leveling, forecasting, Shape, reads, writes, views, asks, shape}
use Rattle.vrc6.specs.Boards.{Creation}

-- ---- what it holds
-- the last byte written to each of the eleven bank registers, or none: $8000..3, $C000..3, $B003, $D000..3 and $E000..3
-- (01, Demand 3's lists and their ledger 2; 01, Banks and decode 1)
pub record Registers : Type 0 where
  pub prg16 : Option ℕ
  pub prg8 : Option ℕ
  pub mode : Option ℕ
  pub chr : List (Option ℕ)

-- the four interrupt values: after-acknowledge, enabled, cycle, prescaler (01, Demand 3's lists and their ledger 2)
pub record Timing : Type 0 where
  pub after_acknowledge : Bool
  pub enabled : Bool
  pub cycle : Bool
  pub prescaler : ℕ

-- the ledger: what the board was made with (of it the mirroring stands until mode or a CHR register has a byte, the revision decodes, and
-- the bus setting decides what a CPU read gives where nothing is there), registers, a copy of the changing buffer, interrupt values
-- (01, Demand 3's lists and their ledger 2; 02, change 1)
pub record Ledger : Type 0 where
  pub origin : Settings
  pub registers : Registers
  pub copy : List ℕ
  pub timing : Timing

-- the four interrupt values, all 0: at first, and after a reset (01, Demand 3's lists and their ledger 2; 01, Demand 3's lists and their ledger 5)
abbrev pub no_timing : Timing
no_timing = record { after_acknowledge = false; enabled = false; cycle = false; prescaler = 0 }

-- at creation: the settings as given, every register has none, and the copy is the changing buffer as supplied
-- (01, Demand 3's lists and their ledger 2)
abbrev pub opening : Creation → Ledger
opening c =
    record {
      origin = c.settings;
      registers = record { prg16 = none; prg8 = none; mode = none; chr = replicate 8 none };
      copy = c.changing;
      timing = no_timing;
    }

-- ---- its page entries
-- a register that has none counts as 0 (01, Demand 3's lists and their ledger 2)
abbrev pub byte_of : Option ℕ → ℕ
byte_of none = 0
byte_of (some v) = v

-- a register has a byte
abbrev pub has : Option ℕ → Bool
has none = false
has (some v) = true

-- one of some registers has a byte
abbrev pub any_has : List (Option ℕ) → Bool
any_has [] = false
any_has (o ∷ os) = has o || any_has os

-- mode or a CHR register has a byte; until then creation's mirroring and nametable numbers stand (01, Demand 3's lists and their ledger 2)
abbrev pub settled : Registers → Bool
settled r = has r.mode || any_has r.chr

-- the banking values that follow from what the board was made with and the registers: the mode, the PRG numbers AND $0F and AND $1F, the CHR
-- bytes, mirroring and nametable numbers by the table or as the board was made with, the revision
-- (01, Banks and decode 1; 01, Banks and decode 5; 01, Banks and decode 6)
abbrev pub banking_by : Settings → Registers → Banking
banking_by o r =
    record {
      banking_mode = byte_of r.mode;
      prg_banks = byte_of r.prg16 % 16 ∷ byte_of r.prg8 % 32 ∷ [];
      chr = map byte_of r.chr;
      mirroring = mirroring_number (cond (settled r) (nametable_mirroring (byte_of r.mode)) o.mirroring);
      nt_banks = cond (settled r) (nametable_numbers (byte_of r.mode) (map byte_of r.chr)) (mirroring_numbers o.mirroring);
      revision_b = is_b o.revision;
    }

-- the banking values that follow from the ledger
abbrev pub banking_of : Ledger → Banking
banking_of l = banking_by l.origin l.registers

-- its page entries, by the rules of paging and banks (01, Demand 3's lists and their ledger 2)
abbrev pub entries : Side → Creation → Ledger → List Page
entries s c l = table_of s c.layout (banking_of l)

-- ---- what a call is to it
-- a call's name and arguments, board and buffers left out; `clocks n` is a call that is n clocks (01, Demand 3's lists and their ledger 2)
pub data Event : Type 0 where
  cpu_writes picture_writes : (address byte : ℕ) → Event
  clocks : (count : ℕ) → Event
  resets looks : Event

-- what a call is to it that asks interrupt and sound alone
abbrev pub asked : Ask → Event
asked clocking = clocks 1
asked resetting = resets
asked leveling = looks
asked forecasting = looks

-- what a call of each kind is to it; reads, level, view and forecast are all one (01, Demand 3's lists and their ledger 6)
abbrev pub event_by : Shape → Event
event_by (reads k a) = looks
event_by (writes cpu a v) = cpu_writes a v
event_by (writes picture a v) = picture_writes a v
event_by (views a) = looks
event_by (asks q) = asked q

-- what a call is to it, in either form, by value or lent (01, Demand 3's lists and their ledger 1)
abbrev pub event : Call → Event
event k = event_by (shape k)

-- ---- what it makes of each
-- a bank register takes the byte (01, Demand 3's lists and their ledger 3)
abbrev pub taken : BankRegister → (v : ℕ) → Registers → Registers
taken Prg16 v r = record { prg16 = some v; prg8 = r.prg8; mode = r.mode; chr = r.chr }
taken Prg8 v r = record { prg16 = r.prg16; prg8 = some v; mode = r.mode; chr = r.chr }
taken Mode v r = record { prg16 = r.prg16; prg8 = r.prg8; mode = some v; chr = r.chr }
taken (Chr i) v r = record { prg16 = r.prg16; prg8 = r.prg8; mode = r.mode; chr = set r.chr i (some v) }

-- the registers after a CPU write that reaches a register; other registers than the bank registers say nothing here
-- (01, Demand 3's lists and their ledger 3)
abbrev pub registers_after : Decoded → (v : ℕ) → Registers → Registers
registers_after None v r = r
registers_after (Some (OfBank b)) v r = taken b v r
registers_after (Some (OfAudio s)) v r = r
registers_after (Some (OfIrq i)) v r = r

-- $F001 sets after-acknowledge, enabled and cycle from bits 0, 1 and 2, and if enabled prescaler 341; $F002 sets enabled to
-- after-acknowledge (01, Demand 3's lists and their ledger 3)
abbrev pub timed : IrqRegister → (v : ℕ) → Timing → Timing
timed Reload v t = t
timed Control v t =
    record { after_acknowledge = bit 0 v; enabled = bit 1 v; cycle = bit 2 v; prescaler = cond (bit 1 v) 341 t.prescaler }
timed Acknowledge v t =
    record { after_acknowledge = t.after_acknowledge; enabled = t.after_acknowledge; cycle = t.cycle; prescaler = t.prescaler }

-- the interrupt values after a CPU write that reaches a register (01, Demand 3's lists and their ledger 3)
abbrev pub timing_after : Decoded → (v : ℕ) → Timing → Timing
timing_after None v t = t
timing_after (Some (OfBank b)) v t = t
timing_after (Some (OfAudio s)) v t = t
timing_after (Some (OfIrq i)) v t = timed i v t

-- the prescaler falls by 3, and at 0 or less gains 341 (01, Demand 3's lists and their ledger 4)
abbrev pub noted_fallen : (prescaler : ℕ) → ℕ
noted_fallen p = cond (leb p 3) (p + 341 - 3) (p - 3)

-- a clock: if enabled and not in cycle mode the prescaler falls (01, Demand 3's lists and their ledger 4)
abbrev pub timing_clocked : Timing → Timing
timing_clocked t =
    record {
      after_acknowledge = t.after_acknowledge;
      enabled = t.enabled;
      cycle = t.cycle;
      prescaler = cond (t.enabled && not t.cycle) (noted_fallen t.prescaler) t.prescaler;
    }

-- where the address's entry is writable, the byte goes into the copy at the entry's offset, less the fixed buffer's length, plus address
-- modulo 1,024 (01, Demand 3's lists and their ledger 3)
abbrev pub copied_at : Page → (fixed : ℕ) → (address byte : ℕ) → List ℕ → List ℕ
copied_at e fixed address byte copy = cond (writable e) (set copy (offset e - fixed + address % 1024) byte) copy

-- the same by the ledger's own entry for the address
abbrev pub copied : Side → Creation → Ledger → (address byte : ℕ) → List ℕ
copied s c l address byte =
    copied_at (entry_for s (entries s c l) address) (length c.fixed) address byte l.copy

-- the ledger after one call: a CPU write is decoded as the board decodes it; of creation it takes the layout and the fixed buffer's
-- length alone (01, Demand 3's lists and their ledger 3; 01, Demand 3's lists and their ledger 5)
abbrev pub noted : Creation → Ledger → Event → Ledger
noted c l (cpu_writes a v) =
    record {
      origin = l.origin;
      registers = registers_after (decode (is_b l.origin.revision) a) v l.registers;
      copy = copied cpu c l a v;
      timing = timing_after (decode (is_b l.origin.revision) a) v l.timing;
    }
noted c l (picture_writes a v) = record { origin = l.origin; registers = l.registers; copy = copied picture c l a v; timing = l.timing }
noted c l (clocks n) = record { origin = l.origin; registers = l.registers; copy = l.copy; timing = times n timing_clocked l.timing }
noted c l resets = record { origin = l.origin; registers = l.registers; copy = l.copy; timing = no_timing }
noted c l looks = l

-- the ledger after a list of calls
abbrev pub ledger : Creation → Ledger → List Call → Ledger
ledger c l [] = l
ledger c l (k ∷ ks) = ledger c (noted c l (event k)) ks

-- the ledger of a creation and a list of calls
abbrev pub ledger_of : Creation → List Call → Ledger
ledger_of c ks = ledger c (opening c) ks
