-- The values of a board by their names, as numbers (oracle/FORMAT.md). Assumes nothing.
use Rattle.std.specs.Prelude.{ℕ, ◌/◌, ◌%◌, get_or, set}
use Rattle.std.specs.Float.{binary32}
use Rattle.std.specs.Float.Ieee.{of_bits, to_bits}
use Rattle.base_shared.specs.Rows.{flag}
use Rattle.memory_layout.specs.declared.regions.MemoryLayout.{MemoryLayout}
use Rattle.memory_pages.specs.Pages.{bits, page_of_bits}
use Rattle.memory_tables.specs.Paging.{entry_among}
use Rattle.audio.specs.declared.Audio.{Audio}
use Rattle.vrc6.specs.declared.board.Board.{Board}
use Rattle.script_lines.specs.declared.values.BoardValue.{BoardValue}
use Rattle.script_lines.specs.declared.values.ChannelField.{ChannelField}
use Rattle.script_lines.specs.declared.values.ChannelName.{ChannelName}
use Rattle.script_lines.specs.declared.values.LayoutField.{LayoutField}
use Rattle.script_state.specs.Channels.{pulse_value, pulse_with, saw_value, saw_with, set_by}

-- a layout's
abbrev pub layout_value : MemoryLayout → LayoutField → ℕ
layout_value l LayoutField.PrgRom = l.prg_rom
layout_value l LayoutField.Chr = l.chr
layout_value l LayoutField.ChrWritable = flag l.chr_writable
layout_value l LayoutField.PrgRam = l.prg_ram
layout_value l LayoutField.Ciram = l.ciram

-- a channel's
abbrev pub channel_value : Audio → ChannelName → ChannelField → ℕ
channel_value a ChannelName.Pulse1 field = pulse_value a.pulse1 field
channel_value a ChannelName.Pulse2 field = pulse_value a.pulse2 field
channel_value a ChannelName.Saw field = saw_value a.saw field

-- a board's; registers are counted from the first again behind the last
unfoldable pub board_value : Board → BoardValue → ℕ
board_value b (BoardValue.Entry addr) = bits (entry_among 64 b.prg_pages addr)
board_value b (BoardValue.PictureEntry addr) = bits (entry_among 16 b.chr_pages addr)
board_value b (BoardValue.Chr i) = get_or b.banking.chr (i % 8) 0
board_value b (BoardValue.Nametable i) = get_or b.banking.nt_banks (i % 4) 0
board_value b (BoardValue.Layout field) = layout_value b.layout field
board_value b (BoardValue.Channel channel field) = channel_value b.audio channel field
board_value b BoardValue.Mode = b.banking.banking_mode
board_value b BoardValue.Prg16 = get_or b.banking.prg_banks 0 0
board_value b BoardValue.Prg8 = get_or b.banking.prg_banks 1 0
board_value b BoardValue.Mirroring = b.banking.mirroring
board_value b BoardValue.Revision = flag b.banking.revision_b
board_value b BoardValue.Reload = b.irq.reload
board_value b BoardValue.Counter = b.irq.counter
board_value b BoardValue.Prescaler = b.irq.prescalar_counter
board_value b BoardValue.Pending = flag b.irq.irq_pending
board_value b BoardValue.Enabled = flag b.irq.enabled
board_value b BoardValue.AfterAcknowledge = flag b.irq.enabled_after_ack
board_value b BoardValue.Cycle = flag b.irq.cycle_mode
board_value b BoardValue.Halt = flag b.audio.halt
board_value b BoardValue.Sum = to_bits binary32 b.audio.out
board_value b BoardValue.OpenBus = flag b.open_bus

-- ---- set by a number, by its low bits if it is too large
-- a layout with a value
abbrev pub layout_with : MemoryLayout → LayoutField → ℕ → MemoryLayout
layout_with l LayoutField.PrgRom n = record l { prg_rom = n }
layout_with l LayoutField.Chr n = record l { chr = n }
layout_with l LayoutField.ChrWritable n = record l { chr_writable = set_by n }
layout_with l LayoutField.PrgRam n = record l { prg_ram = n }
layout_with l LayoutField.Ciram n = record l { ciram = n }

-- the sound with a channel's value
abbrev pub channel_with : Audio → ChannelName → ChannelField → ℕ → Audio
channel_with a ChannelName.Pulse1 field n = record a { pulse1 = pulse_with a.pulse1 field n }
channel_with a ChannelName.Pulse2 field n = record a { pulse2 = pulse_with a.pulse2 field n }
channel_with a ChannelName.Saw field n = record a { saw = saw_with a.saw field n }

-- a board with a value
unfoldable pub board_with : Board → BoardValue → ℕ → Board
board_with b (BoardValue.Entry addr) n = record b { prg_pages = set b.prg_pages (addr / 1024 % 64) (page_of_bits n) }
board_with b (BoardValue.PictureEntry addr) n = record b { chr_pages = set b.chr_pages (addr / 1024 % 16) (page_of_bits n) }
board_with b (BoardValue.Chr i) n = record b { banking = record b.banking { chr = set b.banking.chr (i % 8) (n % 256) } }
board_with b (BoardValue.Nametable i) n = record b { banking = record b.banking { nt_banks = set b.banking.nt_banks (i % 4) (n % 256) } }
board_with b (BoardValue.Layout field) n = record b { layout = layout_with b.layout field n }
board_with b (BoardValue.Channel channel field) n = record b { audio = channel_with b.audio channel field n }
board_with b BoardValue.Mode n = record b { banking = record b.banking { banking_mode = n % 256 } }
board_with b BoardValue.Prg16 n = record b { banking = record b.banking { prg_banks = set b.banking.prg_banks 0 (n % 256) } }
board_with b BoardValue.Prg8 n = record b { banking = record b.banking { prg_banks = set b.banking.prg_banks 1 (n % 256) } }
board_with b BoardValue.Mirroring n = record b { banking = record b.banking { mirroring = n % 256 } }
board_with b BoardValue.Revision n = record b { banking = record b.banking { revision_b = set_by n } }
board_with b BoardValue.Reload n = record b { irq = record b.irq { reload = n % 256 } }
board_with b BoardValue.Counter n = record b { irq = record b.irq { counter = n % 256 } }
board_with b BoardValue.Prescaler n = record b { irq = record b.irq { prescalar_counter = n % 65_536 } }
board_with b BoardValue.Pending n = record b { irq = record b.irq { irq_pending = set_by n } }
board_with b BoardValue.Enabled n = record b { irq = record b.irq { enabled = set_by n } }
board_with b BoardValue.AfterAcknowledge n = record b { irq = record b.irq { enabled_after_ack = set_by n } }
board_with b BoardValue.Cycle n = record b { irq = record b.irq { cycle_mode = set_by n } }
board_with b BoardValue.Halt n = record b { audio = record b.audio { halt = set_by n } }
board_with b BoardValue.Sum n = record b { audio = record b.audio { out = of_bits binary32 n } }
board_with b BoardValue.OpenBus n = record b { open_bus = set_by n }
