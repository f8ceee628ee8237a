-- What a row says beside the cartridge file that it names (docs/SCENES.md). Assumes nothing.
use Rattle.std.specs.Prelude.{◌≡◌, false, List, ℕ, Option, Some, None, option_map, Result}
use Rattle.memory_layout.specs.declared.regions.MemoryLayout.{MemoryLayout}
use Rattle.vrc6_slots.specs.declared.Mirroring.TheVariants.{Vertical}
use Rattle.vrc6_banking.specs.declared.banking.Revision.TheVariants.{A}
use Rattle.cartridge.specs.declared.cartridge.Cartridge.{Cartridge}
use Rattle.scene_cells.specs.declared.columns.Column.{Column}
use Rattle.scene_cells.specs.declared.columns.Column.TheVariants as columns
use Rattle.scene_cells.specs.declared.lookup.HeadedRow.{HeadedRow}
use Rattle.scene_cells.specs.Rows.{BytesUnder}
use Rattle.scene_files.specs.declared.filed.FileSays.{FileSays}
use Rattle.scene_files.specs.declared.filed.FileSays.TheVariants as told
use Rattle.scene_files.specs.declared.singles.Said.{Said}
use Rattle.scene_files.specs.declared.singles.Said.TheVariants.{File, Default}
use Rattle.scene_files.specs.declared.singles.SingleError.{SingleError}
use Rattle.scene_files.specs.Singles.{file_value}

-- what stands for empty cells where there is no file: the layout of 128 KiB each, revision A, vertical mirroring (docs/SCENES.md)
abbrev pub unfiled : Cartridge
unfiled = record {
  layout = record { prg_rom = 131_072; chr = 131_072; chr_writable = false; prg_ram = 8_192; ciram = 2_048 };
  mirroring = Vertical;
  revision = A;
  prg_start = 0;
  chr_start = 0;
}

-- what the file says, or without one what stands for it
abbrev pub said_by : {T : Type 0} → (part : Cartridge → T) → (file : Option Cartridge) → Said T
said_by part None = Default (part unfiled)
said_by part (Some file) = File (part file)

-- what the file says in a column, where there is a file and it says something there
abbrev pub file_says : (file : Option Cartridge) → Column → Option FileSays
file_says file columns.Prg = option_map told.Length (file_value (said_by (λ c. c.layout.prg_rom) file))
file_says file columns.Chr = option_map told.Length (file_value (said_by (λ c. c.layout.chr) file))
file_says file columns.Revision = option_map told.Revision (file_value (said_by (λ c. c.revision) file))
file_says file columns.Mirroring = option_map told.Mirroring (file_value (said_by (λ c. c.mirroring) file))
file_says file _ = None

-- a row's cell in a column says so, by the bytes that stand there
pub record Says {T : Type 0} (row : HeadedRow) (column : Column) (says : List ℕ → Result T SingleError) (r : Result T SingleError) : Type 0 where
  pub cell : List ℕ
  pub under : BytesUnder row.separator row.header.now row.cells.now column cell
  pub said : r ≡ says cell

-- a layout with other lengths of PRG and CHR
abbrev pub sized : MemoryLayout → (prg chr : ℕ) → MemoryLayout
sized l prg chr =
    record { prg_rom = prg; chr = chr; chr_writable = l.chr_writable; prg_ram = l.prg_ram; ciram = l.ciram }

-- a scene's layout: what the file says, or without a file the lengths that its cells say
abbrev pub layout_for : (file : Option Cartridge) → (prg chr : ℕ) → MemoryLayout
layout_for None prg chr = sized unfiled.layout prg chr
layout_for (Some file) prg chr = file.layout
