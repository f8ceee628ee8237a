-- A board with its buffers, what creation is given, the new board and the all-zero one (01, Records; 01, The board's calls). Assumes nothing.
use Rattle.std.specs.Prelude.{Bool, false, List, ℕ, replicate}
use Rattle.memory_pages.specs.declared.page.Page.{Page}
use Rattle.memory_pages.specs.Pages.{unmapped}
use Rattle.memory_layout.specs.declared.regions.MemoryLayout.{MemoryLayout}
use Rattle.memory_access.specs.declared.Access.{Access}
use Rattle.memory_tables.specs.Paging.{Side, cpu, picture, entry_for}
use Rattle.vrc6_banking.specs.declared.banking.Banking.{Banking}
use Rattle.vrc6_banking.specs.declared.banking.Settings.{Settings}
use Rattle.vrc6_banking.specs.Banking.{first_banking, zero_banking}
use Rattle.vrc6_tables.specs.Tables.{cpu_entries, picture_entries}
use Rattle.irq.specs.declared.VrcIrq.{VrcIrq}
use Rattle.irq.specs.Interrupt.{irq_zero}
use Rattle.audio.specs.declared.Audio.{Audio}
use Rattle.audio.specs.Sound.{audio_at}
use Rattle.vrc6_engine.specs.declared.Engine.{Engine}
use Rattle.vrc6.specs.declared.board.Board.{Board}

-- a board, and the two buffers that it is lent (01, Records 2)
pub record State : Type 0 where
  pub board : Board
  pub fixed : List ℕ
  pub changing : List ℕ

-- a board with its buffers
abbrev pub held_by : Board → (fixed changing : List ℕ) → State
held_by b f c = record { board = b; fixed = f; changing = c }

-- what creation is given (01, The board's calls 1)
pub record Creation : Type 0 where
  pub layout : MemoryLayout
  pub settings : Settings
  pub fixed : List ℕ
  pub changing : List ℕ

-- a board whose entries all follow from its layout and its banking values, with a bus setting (01, Banks and decode 2; 02, change 1)
abbrev pub paged : MemoryLayout → Banking → VrcIrq → Audio → (setting : Bool) → Board
paged l b q a setting =
    record {
      layout = l;
      prg_pages = cpu_entries l b;
      chr_pages = picture_entries l b;
      banking = b;
      irq = q;
      audio = a;
      open_bus = setting;
    }

-- a new board: all eleven registers 0, interrupt all 0, sound as `Audio::new`, the bus setting as given
-- (01, Banks and decode 2; 02, change 1)
abbrev pub new_board : MemoryLayout → Settings → Board
new_board l s = paged l (first_banking s) irq_zero (audio_at 1) s.open_bus

-- the all-zero board that a refused create returns (01, The board's calls 3; 01, The board's calls 4)
abbrev pub zero_board : Board
zero_board =
    record {
      layout = record { prg_rom = 0; chr = 0; chr_writable = false; prg_ram = 0; ciram = 0 };
      prg_pages = replicate 64 unmapped;
      chr_pages = replicate 16 unmapped;
      banking = zero_banking;
      irq = irq_zero;
      audio = audio_at 0;
      open_bus = false;
    }

-- a board with other banking values, and the entries that follow from them; the setting stays (01, Banks and decode 2; 02, change 1)
abbrev pub with_banking : Board → Banking → Board
with_banking b k =
    record b {
      prg_pages = cpu_entries b.layout k;
      chr_pages = picture_entries b.layout k;
      banking = k;
    }

-- interrupt and sound of a board
abbrev pub engine_of : Board → Engine
engine_of b = record { irq = b.irq; audio = b.audio }

-- a board with another interrupt and another sound; the setting stays (02, change 1)
abbrev pub with_engine : Board → Engine → Board
with_engine b e = record b { irq = e.irq; audio = e.audio }

-- the CPU's table of a board, or the picture side's
abbrev pub table : Side → Board → List Page
table cpu b = b.prg_pages
table picture b = b.chr_pages

-- the one entry that serves an address (01, Paging 2)
abbrev pub entry_of : Side → Board → (address : ℕ) → Page
entry_of s b address = entry_for s (table s b) address

-- what an address accesses: the board's layout, and the entry that serves it (01, Paging 2)
abbrev pub access_of : Side → Board → (address : ℕ) → Access
access_of s b address = record { layout = b.layout; page = entry_of s b address }
