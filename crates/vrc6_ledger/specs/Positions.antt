-- The starred reference positions and examples of the wiki as rows of one list: what the board of an accepted creation shows after
-- calls at real addresses, and what the paper says (01, Reference positions). Assumes nothing.
use Rattle.std.specs.Prelude.{◌≡◌, true, false, List, [], ◌∷◌, ℕ, ◌+◌, ◌*◌, get_or, replicate}
use Rattle.std.specs.Float.{binary32}
use Rattle.std.specs.Float.Ieee.{to_bits}
use Rattle.base_shared.specs.Rows.{agree, flag}
use Rattle.base_floats.specs.Wholes.{float}
use Rattle.memory_pages.specs.Pages.{bits}
use Rattle.memory_layout.specs.declared.regions.MemoryLayout.{MemoryLayout}
use Rattle.memory_tables.specs.Paging.{Side, cpu, picture}
use Rattle.vrc6_slots.specs.declared.Mirroring.TheVariants.{Vertical}
use Rattle.vrc6_banking.specs.declared.banking.Revision.{Revision}
use Rattle.vrc6_banking.specs.declared.banking.Revision.TheVariants.{A, B}
use Rattle.vrc6.specs.declared.board.Board.{Board}
use Rattle.vrc6_calls.specs.declared.Call.{Call}
use Rattle.vrc6_calls.specs.declared.Call.TheVariants.{CpuWrite, Clock, SoftReset}
use Rattle.vrc6.specs.Boards.{entry_of}
use Rattle.vrc6_calls.specs.Lists.{after, answers}
use Rattle.vrc6_ledger.specs.Demand3.{tick_count, start}
use Rattle.vrc6_ledger.specs.Exhibited.{zeros}

-- ---- what is played
-- the layouts of the rows: S, and S with 20,480 bytes of PRG ROM or none
-- (01, Reference positions 1; 01, Reference positions 4; 01, Reference positions 5)
pub data Sample : Type 0 where
  S S20480 S0 : Sample

-- layout S with so many bytes of PRG ROM (01, Reference positions 1)
abbrev sized : (prg : ℕ) → MemoryLayout
sized prg = record { prg_rom = prg; chr = 131_072; chr_writable = false; prg_ram = 8_192; ciram = 2_048 }

-- the layout of a row
abbrev pub layout_of : Sample → MemoryLayout
layout_of S = sized 131_072
layout_of S20480 = sized 20_480
layout_of S0 = sized 0

-- what a row looks at after a creation and a list of calls: the board, and the ticks among all answers
pub record Play : Type 0 where
  pub board : Sample → Revision → List Call → Board
  pub ticks : Sample → Revision → List Call → ℕ

-- the calls' own answers, from the board that create answers, with buffers of zeros
abbrev pub by_calls : Play
by_calls =
    record {
      board = λ s r ks. (after (start (zeros (layout_of s) Vertical r)) ks).board;
      ticks = λ s r ks. tick_count (answers (start (zeros (layout_of s) Vertical r)) ks);
    }

-- ---- how a row reads it
-- the bits of the page entry at an address
abbrev entry_at : Side → Board → (address : ℕ) → ℕ
entry_at s b address = bits (entry_of s b address)

-- the entry of bank n of S's CHR, which starts at 132,096
abbrev chr_bank : (n : ℕ) → ℕ
chr_bank n = 132_096 + 1024 * n

-- ---- lists of calls
-- one write
abbrev write : (address byte : ℕ) → List Call
write address byte = CpuWrite address byte ∷ []

-- a mode, and CHR 0 = 7
abbrev paired : (mode : ℕ) → List Call
paired mode = CpuWrite 0xB003 mode ∷ CpuWrite 0xD000 7 ∷ []

-- mode $30, CHR 6 = 5, CHR 7 = 9
abbrev from_chr : List Call
from_chr = CpuWrite 0xB003 0x30 ∷ CpuWrite 0xE002 5 ∷ CpuWrite 0xE003 9 ∷ []

-- a reload value, control 2, then n clocks
abbrev armed : (reload n : ℕ) → List Call
armed reload n = CpuWrite 0xF000 reload ∷ CpuWrite 0xF001 2 ∷ replicate n Clock

-- reset, control 1, acknowledge, clock
abbrev acknowledged : List Call
acknowledged = SoftReset ∷ CpuWrite 0xF001 1 ∷ CpuWrite 0xF002 0 ∷ Clock ∷ []

-- the saw at this rate and frequency 0, so that each clock is a step, then n clocks; every second step adds the rate
abbrev saw : (rate n : ℕ) → List Call
saw rate n = CpuWrite 0xB000 rate ∷ CpuWrite 0xB001 0 ∷ CpuWrite 0xB002 0x80 ∷ replicate n Clock

-- pulse 1 at volume 9, duty 3 and frequency 0, so that each clock is a step, then n clocks
abbrev duty3 : (n : ℕ) → List Call
duty3 n = CpuWrite 0x9000 0x39 ∷ CpuWrite 0x9001 0 ∷ CpuWrite 0x9002 0x80 ∷ replicate n Clock

-- ---- the rows
-- each row: what is seen of the board, and what the paper says
abbrev pub rows_of : Play → List (ℕ × ℕ)
rows_of p =
    let at : List Call → Board = p.board S A in
    let name : ℕ → ℕ = λ i. get_or (at from_chr).banking.nt_banks i 0 in
    let ticks : ℕ → ℕ = λ n. p.ticks S A (armed 0xFE n) in
    let pending : ℕ → ℕ → ℕ = λ reload n. flag (at (armed reload n)).irq.irq_pending in
    let mirroring : ℕ → ℕ = λ mode. (at (write 0xB003 mode)).banking.mirroring in
    let accum : ℕ → ℕ → ℕ = λ rate n. (at (saw rate n)).audio.saw.accum in
    let sum : ℕ → ℕ = λ n. to_bits binary32 (at (duty3 n)).audio.out in
    -- S, fresh: $E000 (01, Reference positions 2)
    (entry_at cpu (at []) 0xE000, 123_904)
    -- S, $8000 gets $1F (01, Reference positions 3)
    ∷ (entry_at cpu (at (write 0x8000 0x1F)) 0x8000, 115_712)
    -- PRG ROM 20,480: $E000, the last whole bank, and not the last 8,192 bytes (01, Reference positions 4; 01, Reference positions 13)
    ∷ (entry_at cpu (p.board S20480 A []) 0xE000, 9_216)
    -- length 0 PRG ROM (01, Reference positions 5)
    ∷ (entry_at cpu (p.board S0 A []) 0xE000, 0)
    -- mode $21, CHR 0 = 7: slots 0 and 1 take banks 6 and 7; mode $01: 7 and 7 (01, Reference positions 6)
    ∷ (entry_at picture (at (paired 0x21)) 0x0000, chr_bank 6)
    ∷ (entry_at picture (at (paired 0x21)) 0x0400, chr_bank 7)
    ∷ (entry_at picture (at (paired 0x01)) 0x0000, chr_bank 7)
    ∷ (entry_at picture (at (paired 0x01)) 0x0400, chr_bank 7)
    -- S, mode $30, CHR 6 = 5, 7 = 9: numbers 4 5 8 9, $2000 entry 136,192 (01, Reference positions 7)
    ∷ (name 0, 4)
    ∷ (name 1, 5)
    ∷ (name 2, 8)
    ∷ (name 3, 9)
    ∷ (entry_at picture (at from_chr) 0x2000, 136_192)
    -- revision B, $D002 sets CHR 1 (01, Reference positions 8)
    ∷ (get_or (p.board S B (write 0xD002 5)).banking.chr 1 0, 5)
    -- reload $FE, control 2: ticks at clocks 114 and 228, pending at 228 and not at 227 (01, Reference positions 9)
    ∷ (ticks 113, 0)
    ∷ (ticks 114, 1)
    ∷ (ticks 227, 1)
    ∷ (ticks 228, 2)
    ∷ (pending 0xFE 227, 0)
    ∷ (pending 0xFE 228, 1)
    -- reset, control 1, acknowledge, clock: a tick, prescaler 338 (01, Reference positions 10)
    ∷ (p.ticks S A acknowledged, 1)
    ∷ ((at acknowledged).irq.prescalar_counter, 338)
    -- saw rate 43: accumulator 215 after five additions, 2 after six (01, Reference positions 11)
    ∷ (accum 43 10, 215)
    ∷ (accum 43 12, 2)
    -- the wiki's examples from here on: three lines take 341 clocks (VRC IRQ)
    ∷ (ticks 340, 2)
    ∷ (ticks 341, 3)
    -- latch $FF: the interrupt comes after one line; $FD: after three (VRC IRQ)
    ∷ (pending 0xFF 113, 0)
    ∷ (pending 0xFF 114, 1)
    ∷ (pending 0xFD 340, 0)
    ∷ (pending 0xFD 341, 1)
    -- $B003: $20 vertical, $24 horizontal, $28 one screen A, $2C one screen B, each also with $80 (VRC6)
    ∷ (mirroring 0x20, 0)
    ∷ (mirroring 0x24, 1)
    ∷ (mirroring 0x28, 2)
    ∷ (mirroring 0x2C, 3)
    ∷ (mirroring 0xA4, 1)
    -- mapper 024 has pulse 1's low byte at $9001, mapper 026 at $9002 (iNES mappers 024 and 026; 01, Reference positions 13)
    ∷ ((at (write 0x9001 0x34)).audio.pulse1.frequency, 0x34)
    ∷ ((p.board S B (write 0x9002 0x34)).audio.pulse1.frequency, 0x34)
    -- saw rate 8: 48 after six additions, cleared at the seventh; rate 42 is the largest that never wraps (VRC6 audio)
    ∷ (accum 8 12, 48)
    ∷ (accum 8 14, 0)
    ∷ (accum 42 12, 252)
    -- duty 3 sounds at the steps 0 to 3 of 16 (VRC6 audio)
    ∷ (sum 3, to_bits binary32 (float 9))
    ∷ (sum 4, to_bits binary32 (float 0))
    ∷ (sum 15, to_bits binary32 (float 0))
    ∷ (sum 16, to_bits binary32 (float 9))
    -- $9003 = 2: shift 4; 6: shift 8, the stronger (VRC6 audio; 01, Reference positions 12)
    ∷ ((at (write 0x9003 2)).audio.pulse1.freq_shift, 4)
    ∷ ((at (write 0x9003 6)).audio.pulse1.freq_shift, 8)
    ∷ []

-- every row's two numbers are equal, as the calls answer (01, Reference positions 1)
abbrev pub Positions : Type 0
Positions = agree (rows_of by_calls) ≡ true
