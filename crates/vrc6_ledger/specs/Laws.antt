-- Laws over board and buffers: a byte written is read back on its side and every other byte is unmoved; a view shows what picture reads
-- read; both tables after any list of calls. `proofs/` proves them. Assumes nothing.
use Rattle.std.specs.Prelude.{◌≡◌, true, false, List, ◌++◌, ℕ, ◌+◌, ◌/◌, ◌%◌, ◌<◌, length, get_or}
use Rattle.memory_pages.specs.Pages.{unmapped, writable}
use Rattle.memory_layout.specs.Entries.{entry_in_range}
use Rattle.memory_tables.specs.Paging.{Side, cpu, picture, entry_count, entry_for}
use Rattle.memory_access.specs.Access.{place}
use Rattle.vrc6_parts.specs.Reads.{Caller, by_picture}
use Rattle.vrc6_calls.specs.declared.Call.{Call}
use Rattle.vrc6_calls.specs.declared.Call.TheVariants.{CpuWrite, PictureWrite}
use Rattle.vrc6.specs.declared.board.Board.{Board}
use Rattle.vrc6.specs.Boards.{State, held_by, Creation, table, entry_of}
use Rattle.vrc6.specs.Checks.{memory_refusal, cpu_write_refusal}
use Rattle.vrc6.specs.Calls.{create, side_of, byte_read, stored_at, page_view, page_view_refusal}
use Rattle.vrc6_calls.specs.Lists.{next, after}
use Rattle.vrc6_ledger.specs.Ledger.{ledger_of, entries}
use Rattle.vrc6_ledger.specs.Demand3.{start}

-- the bytes of both buffers, one behind the other (01, Records 2)
abbrev pub bytes : State → List ℕ
bytes x = x.fixed ++ x.changing

-- board and buffers after a write's byte, before its register (01, The board's calls 1)
abbrev pub put : Side → State → (address byte : ℕ) → State
put s x address byte = held_by x.board x.fixed (stored_at s x address byte)

-- ---- a byte stored
-- through a writable entry it is read back at its address, by every caller of the same side, whatever the bus byte; no other byte of
-- either buffer moves; through an unwritable entry nothing changes (01, Paging 2; 02, change 1)
pub record Stored (s : Side) (x : State) (address byte : ℕ) : Type 0 where
  pub read_back : writable (entry_of s x.board address) ≡ true → (k : Caller) → side_of k ≡ s → (byte_read k (put s x address byte) address).byte ≡ byte
  pub others : (i : ℕ) → (i ≡ place (entry_of s x.board address) address → ⊥)
      → get_or (bytes (put s x address byte)) i 0 ≡ get_or (bytes x) i 0
  pub unwritable : writable (entry_of s x.board address) ≡ false → put s x address byte ≡ x

-- of both sides, and of every board and buffers where the access is not refused
abbrev pub StoredLaw : Type 0
StoredLaw = (s : Side) (x : State) (address byte : ℕ) → memory_refusal s x address true ≡ 0 → Stored s x address byte

-- ---- a write as a call
-- what a write leaves, where it is not refused: the byte stored, and of a CPU write below $8000 nothing else; from there up a register may
-- follow, which touches no buffer (01, The board's calls 1; 01, Banks and decode 1)
pub record Wrote (x : State) (address byte : ℕ) : Type 0 where
  pub by_picture : memory_refusal picture x address true ≡ 0 → next x (PictureWrite address byte) ≡ put picture x address byte
  pub by_cpu : cpu_write_refusal x address ≡ 0 → address < 0x8000 → next x (CpuWrite address byte) ≡ put cpu x address byte
  pub buffers : cpu_write_refusal x address ≡ 0 → bytes (next x (CpuWrite address byte)) ≡ bytes (put cpu x address byte)

-- of every board and buffers
abbrev pub WroteLaw : Type 0
WroteLaw = (x : State) (address byte : ℕ) → Wrote x address byte

-- the write of a side
abbrev pub write_of : Side → (address byte : ℕ) → Call
write_of cpu address byte = CpuWrite address byte
write_of picture address byte = PictureWrite address byte

-- an address whose writes reach no register
abbrev pub Plain : Side → (address : ℕ) → Type 0
Plain cpu address = address < 0x8000
Plain picture address = Unit {0}

-- after every list of calls: a byte written where the ledger's entry is writable is what the next read there gives (01, Paging 2)
abbrev pub ReadBackLaw : Type 0
ReadBackLaw =
    (c : Creation) → (create c).refusal ≡ 0 → (ks : List Call) (k : Caller) (address byte : ℕ) → Plain (side_of k) address
    → writable (entry_for (side_of k) (entries (side_of k) c (ledger_of c ks)) address) ≡ true
    → (byte_read k (next (after (start c) ks) (write_of (side_of k) address byte)) address).byte ≡ byte

-- ---- a view
-- it is 1,024 bytes, and shows of each address of its page what a picture read gives there (01, The board's calls 2)
pub record Viewed (x : State) (address : ℕ) : Type 0 where
  pub whole : page_view_refusal x address ≡ 0 → length (page_view x address) ≡ 1024
  pub shows : (b : ℕ) → b / 1024 ≡ address / 1024 → get_or (page_view x address) (b % 1024) 0 ≡ (byte_read by_picture x b).byte

-- of every board and buffers, refused or not
abbrev pub ViewLaw : Type 0
ViewLaw = (x : State) (address : ℕ) → Viewed x address

-- ---- both tables
-- 64 entries serve the CPU and 16 the picture side, each in range; $3000 repeats $2000 (01, Records 3; 01, Banks and decode 4)
pub record Tables (b : Board) : Type 0 where
  pub counts : (s : Side) → length (table s b) ≡ entry_count s
  pub in_range : (s : Side) (n : ℕ) → entry_in_range b.layout (get_or (table s b) n unmapped) ≡ true
  pub repeats : (n : ℕ) → n < 4 → get_or (table picture b) (12 + n) unmapped ≡ get_or (table picture b) (8 + n) unmapped

-- of the board after every list of calls
abbrev pub TablesLaw : Type 0
TablesLaw = (c : Creation) → (create c).refusal ≡ 0 → (ks : List Call) → Tables (after (start c) ks).board
