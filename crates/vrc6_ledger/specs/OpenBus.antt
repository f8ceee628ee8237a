-- What the bus setting changes and what it leaves, of every board and buffers and of every list of calls; and what a read gives, from the
-- ledger alone (02, change 1). Assumes nothing.
use Rattle.std.specs.Prelude.{◌≡◌, Bool, true, false, cond, ◌&&◌, List, [], ◌∷◌, ◌++◌, map, ℕ, ◌+◌, ◌%◌, ◌^◌, ◌<◌, get_or}
use Rattle.base_shared.specs.Refusals.{unless}
use Rattle.memory_pages.specs.declared.page.Page.{Page}
use Rattle.memory_pages.specs.Pages.{offset, is_unmapped}
use Rattle.memory_layout.specs.declared.regions.MemoryLayout.{MemoryLayout}
use Rattle.memory_layout.specs.Layout.{within_limits}
use Rattle.memory_tables.specs.Paging.{Side, cpu, picture, entry_for}
use Rattle.memory_access.specs.Access.{peeked}
use Rattle.vrc6_slots.specs.declared.Mirroring.{Mirroring}
use Rattle.vrc6_banking.specs.declared.banking.Revision.{Revision}
use Rattle.vrc6_tables.specs.Laws.{nothing_at}
use Rattle.vrc6_parts.specs.Reads.{Caller, by_cpu, by_picture}
use Rattle.vrc6.specs.declared.board.Board.{Board}
use Rattle.vrc6.specs.declared.board.ByteRead.{ByteRead}
use Rattle.vrc6_calls.specs.declared.Call.{Call}
use Rattle.vrc6_calls.specs.declared.Call.TheVariants.{CpuRead, PictureRead}
use Rattle.vrc6_calls.specs.declared.Answer.{Answer}
use Rattle.vrc6_calls.specs.declared.Answer.TheVariants.{Byte}
use Rattle.vrc6.specs.Boards.{State, held_by, Creation, entry_of}
use Rattle.vrc6.specs.Checks.{memory_refusal}
use Rattle.vrc6.specs.Calls.{create, side_of, byte_read}
use Rattle.vrc6_calls.specs.Lists.{Shape, reads, writes, views, asks, shape, Given, of_read, given, given_by, parts, next, after, answers}
use Rattle.vrc6_ledger.specs.Ledger.{Ledger, banking_of, entries, ledger_of}
use Rattle.vrc6_ledger.specs.Demand3.{start}
use Rattle.vrc6_ledger.specs.Exhibited.{zeros, smallest}

-- ---- with the setting and without it
-- a creation with the setting on or off, all else as it is (02, change 1)
abbrev pub creation_with : (setting : Bool) → Creation → Creation
creation_with setting c =
    record {
      layout = c.layout;
      settings = record { mirroring = c.settings.mirroring; revision = c.settings.revision; open_bus = setting };
      fixed = c.fixed;
      changing = c.changing;
    }

-- a board with the setting on or off, all else as it is (02, change 1)
abbrev pub board_with : (setting : Bool) → Board → Board
board_with setting b =
    record {
      layout = b.layout;
      prg_pages = b.prg_pages;
      chr_pages = b.chr_pages;
      banking = b.banking;
      irq = b.irq;
      audio = b.audio;
      open_bus = setting;
    }

-- the same of a board with its buffers (02, change 1)
abbrev pub state_with : (setting : Bool) → State → State
state_with setting x = held_by (board_with setting x.board) x.fixed x.changing

-- ---- reads
-- a read as the Rust has it: the byte shown through the entry, of the unmapped one that of the fixed buffer's first page; refused, 0
-- (memory.rs, prg_peek; memory.rs, chr_peek; 01, Paging 1; 01, The board's calls 3)
abbrev pub rust_read : Side → State → (address : ℕ) → ByteRead
rust_read s x address =
    let got = peeked x.board.layout (entry_of s x.board address) x.fixed x.changing address in
    record { board = x.board; byte = got.byte; refusal = got.refusal }

-- a CPU read is not refused, and finds nothing there: the entry of its address is the unmapped one (02, change 1)
abbrev pub finds_nothing : State → (address : ℕ) → Bool
finds_nothing x address = unless (memory_refusal cpu x address true) (is_unmapped (entry_of cpu x.board address)) false

-- ---- answers
-- what an answer says beside the board: its byte, tick, level or forecast with the number, and a view's bytes (01, The board's calls 2)
abbrev pub said : Given → Answer × List ℕ
said g = ((parts g).answer, (parts g).view)

-- what a call of each kind says with the setting, on board and buffers x, from what it says without: where nothing is there a CPU read
-- gives the bus byte; every other answer is the same (02, change 1)
abbrev pub said_by : State → Shape → Answer × List ℕ
said_by x (reads (by_cpu bus) a) = cond (finds_nothing x a) (Byte bus 0, []) (said (given_by x (reads (by_cpu bus) a)))
said_by x (reads by_picture a) = said (given_by x (reads by_picture a))
said_by x (writes s a v) = said (given_by x (writes s a v))
said_by x (views a) = said (given_by x (views a))
said_by x (asks q) = said (given_by x (asks q))

-- what the calls of a list say with the setting, from the board and buffers that they have without it (02, change 1)
abbrev pub all_said : State → List Call → List (Answer × List ℕ)
all_said x [] = []
all_said x (k ∷ ks) = said_by x (shape k) ∷ all_said (next x k) ks

-- two boards with their buffers, off without the setting and on with it, and a list of calls: board and buffers after the list differ in the
-- setting alone, and every answer but those of CPU reads where nothing is there is equal (02, change 1)
pub record Beside (off on : State) (ks : List Call) : Type 0 where
  pub left : after on ks ≡ state_with true (after off ks)
  pub kept : (after off ks).board.open_bus ≡ false
  pub answers_are : map said (answers on ks) ≡ all_said off ks

-- only such CPU reads differ from the Rust: of every board and buffers that a host may lend, and of every accepted creation (02, change 1)
pub record SettingLaw : Type 0 where
  -- without the setting both sides read as the Rust does, whatever the bus byte, and the picture side does with it too
  pub as_rust : (k : Caller) (x : State) (address : ℕ) → x.board.open_bus ≡ false → byte_read k x address ≡ rust_read (side_of k) x address
  pub picture_as_rust : (x : State) (address : ℕ) → byte_read by_picture x address ≡ rust_read picture x address
  -- on any board with any buffers, refused or not
  pub lent : (x : State) (ks : List Call) → Beside (state_with false x) (state_with true x) ks
  -- from two accepted creations that differ in the setting alone
  pub created : (c : Creation) → (create c).refusal ≡ 0 → (ks : List Call)
      → Beside (start (creation_with false c)) (start (creation_with true c)) ks

-- ---- a read from the ledger alone
-- the byte that an address shows: out of the fixed buffer as supplied and the ledger's copy, through an entry (00, 3; 01, Paging 1)
abbrev pub byte_noted : Creation → Ledger → Page → (address : ℕ) → ℕ
byte_noted c l e address = get_or (c.fixed ++ l.copy) (offset e + address % 1024) 0

-- what a read gives, by the ledger's entry for its address: a CPU read the bus byte where the setting is on and that entry is the unmapped one,
-- otherwise the byte that the address shows (02, change 1)
abbrev pub read_noted : Creation → Ledger → Caller → (address : ℕ) → ℕ
read_noted c l (by_cpu bus) address =
    let e = entry_for cpu (entries cpu c l) address in
    cond (l.origin.open_bus && is_unmapped e) bus (byte_noted c l e address)
read_noted c l by_picture address = byte_noted c l (entry_for picture (entries picture c l) address) address

-- the read of a caller as a call (01, The board's calls 1)
abbrev pub read_of : Caller → (address : ℕ) → Call
read_of (by_cpu bus) address = CpuRead address bus
read_of by_picture address = PictureRead address

-- of every accepted creation and every list: the whole answer of the next read, on either side (02, change 1; 00, 3)
abbrev pub ReadLaw : Type 0
ReadLaw =
    (c : Creation) → (create c).refusal ≡ 0 → (ks : List Call) (k : Caller) (address : ℕ)
    → given (after (start c) ks) (read_of k address)
    ≡ of_read (record { board = (after (start c) ks).board; byte = read_noted c (ledger_of c ks) k address; refusal = 0 })

-- ---- where nothing is there
-- of every accepted creation and every list: the ledger's entry of a CPU address is the unmapped one below $6000, from there to $7FFF with
-- mode bit 7 clear or no PRG RAM, from $8000 up with no PRG ROM, and nowhere else (02, change 1)
abbrev pub NothingThereLaw : Type 0
NothingThereLaw =
    (c : Creation) → (create c).refusal ≡ 0 → (ks : List Call) (address : ℕ) → address < 2 ^ 16
    → is_unmapped (entry_for cpu (entries cpu c (ledger_of c ks)) address) ≡ nothing_at c.layout (banking_of (ledger_of c ks)) address

-- ---- it is not empty
-- on a new board with the setting a CPU read of $6000 hands back the bus byte, whatever that is: of every layout within its limits, every
-- mirroring and both revisions (02, change 1)
abbrev pub OpenLaw : Type 0
OpenLaw =
    (l : MemoryLayout) → within_limits l ≡ true → (m : Mirroring) (r : Revision) (bus : ℕ)
    → said (given (start (creation_with true (zeros l m r))) (CpuRead 0x6000 bus)) ≡ (Byte bus 0, [])

-- and without it the byte of the page of zeros: of the smallest creation (01, Paging 2)
abbrev pub ClosedExample : Type 0
ClosedExample = said (given (start (creation_with false smallest)) (CpuRead 0x6000 0x5A)) ≡ (Byte 0 0, [])
