-- A value that is set to 0 or 1 is shown so. Assumes nothing.
use Rattle.std.proofs.Common.{◌≡◌, ℕ, zero, suc, ◌<◌, ◌/◌, ◌%◌, List, length, get_or, set, refl, arith}
use Rattle.std.proofs.lemmas.Grind.{get_or-set_at}
use Rattle.std.specs.Float.{binary32}
use Rattle.std.specs.Float.Ieee.{of_bits, to_bits}
use Rattle.base_shared.specs.Rows.{flag}
use Rattle.memory_layout.specs.declared.regions.MemoryLayout.{MemoryLayout}
use Rattle.memory_pages.specs.declared.page.Page.{Page}
use Rattle.memory_pages.specs.Pages.{bits, page_of_bits, unmapped}
use Rattle.audio_pulse.specs.declared.Pulse.{Pulse}
use Rattle.audio_saw.specs.declared.Saw.{Saw}
use Rattle.vrc6.specs.declared.board.Board.{Board}
use Rattle.script_lines.specs.declared.values.BoardValue.{BoardValue}
use Rattle.script_lines.specs.declared.values.ChannelField.{ChannelField}
use Rattle.script_lines.specs.declared.values.ChannelName.{ChannelName}
use Rattle.script_lines.specs.declared.values.LayoutField.{LayoutField}
use Rattle.script_state.specs.Channels.{pulse_value, pulse_with, saw_value, saw_with, set_by}
use Rattle.script_state.specs.Laws.{Has, PulseHas, SawHas, SetLaw, Sized}
use Rattle.script_state.specs.Values.{board_value, board_with, layout_value, layout_with}

of_flag : (n : ℕ) → n < 2 → flag (set_by n) ≡ n
of_flag zero h = refl
of_flag (suc zero) h = refl
of_flag (suc (suc n)) h = absurd (omega arith)

of_sum : (n : ℕ) → n < 2 → to_bits binary32 (of_bits binary32 n) ≡ n
unfolding to_bits of_bits
of_sum zero h = refl
of_sum (suc zero) h = refl
of_sum (suc (suc n)) h = absurd (omega arith)

of_byte : (n : ℕ) → n < 2 → n % 256 ≡ n
of_byte n h = omega arith

of_half : (n : ℕ) → n < 2 → n % 65_536 ≡ n
of_half n h = omega arith

of_pulse : (p : Pulse) (field : ChannelField) (n : ℕ) → PulseHas field → n < 2 → pulse_value (pulse_with p field n) field ≡ n
of_pulse p ChannelField.Enabled n has h = of_flag n h
of_pulse p ChannelField.Volume n has h = of_byte n h
of_pulse p ChannelField.Duty n has h = of_byte n h
of_pulse p ChannelField.IgnoreDuty n has h = of_flag n h
of_pulse p ChannelField.Frequency n has h = of_half n h
of_pulse p ChannelField.Timer n has h = of_half n h
of_pulse p ChannelField.Step n has h = of_byte n h
of_pulse p ChannelField.Shift n has h = of_byte n h
of_pulse p ChannelField.Accumulator n has h = absurd has
of_pulse p ChannelField.Rate n has h = absurd has

of_saw : (s : Saw) (field : ChannelField) (n : ℕ) → SawHas field → n < 2 → saw_value (saw_with s field n) field ≡ n
of_saw s ChannelField.Enabled n has h = of_flag n h
of_saw s ChannelField.Volume n has h = absurd has
of_saw s ChannelField.Duty n has h = absurd has
of_saw s ChannelField.IgnoreDuty n has h = absurd has
of_saw s ChannelField.Frequency n has h = of_half n h
of_saw s ChannelField.Timer n has h = of_half n h
of_saw s ChannelField.Step n has h = of_byte n h
of_saw s ChannelField.Shift n has h = of_byte n h
of_saw s ChannelField.Accumulator n has h = of_byte n h
of_saw s ChannelField.Rate n has h = of_byte n h

of_layout : (l : MemoryLayout) (field : LayoutField) (n : ℕ) → n < 2 → layout_value (layout_with l field n) field ≡ n
of_layout l LayoutField.PrgRom n h = refl
of_layout l LayoutField.Chr n h = refl
of_layout l LayoutField.ChrWritable n h = of_flag n h
of_layout l LayoutField.PrgRam n h = refl
of_layout l LayoutField.Ciram n h = refl

-- a register among so many
of_register : (table : List ℕ) (i n : ℕ) → i < length table → n < 2 → get_or (set table i (n % 256)) i 0 ≡ n
of_register table i n k h = let e = of_byte n h in rw (get_or-set_at table i i (n % 256) 0 refl k) e

-- an entry
of_entry : (table : List Page) (i n : ℕ) → i < length table → bits (get_or (set table i (page_of_bits n)) i unmapped) ≡ n
of_entry table i n k = rw (get_or-set_at table i i (page_of_bits n) unmapped refl k) refl

shown : (b : Board) (name : BoardValue) (n : ℕ) → Sized b → Has name → n < 2 → board_value (board_with b name n) name ≡ n
unfolding board_value board_with
shown b (BoardValue.Entry addr) n s has h = of_entry b.prg_pages (addr / 1024 % 64) n (omega (arith, s.prg_pages))
shown b (BoardValue.PictureEntry addr) n s has h = of_entry b.chr_pages (addr / 1024 % 16) n (omega (arith, s.chr_pages))
shown b (BoardValue.Chr i) n s has h = of_register b.banking.chr (i % 8) n (omega (arith, s.chr)) h
shown b (BoardValue.Nametable i) n s has h = of_register b.banking.nt_banks (i % 4) n (omega (arith, s.nt_banks)) h
shown b (BoardValue.Layout field) n s has h = of_layout b.layout field n h
shown b (BoardValue.Channel ChannelName.Pulse1 field) n s has h = of_pulse b.audio.pulse1 field n has h
shown b (BoardValue.Channel ChannelName.Pulse2 field) n s has h = of_pulse b.audio.pulse2 field n has h
shown b (BoardValue.Channel ChannelName.Saw field) n s has h = of_saw b.audio.saw field n has h
shown b BoardValue.Mode n s has h = of_byte n h
shown b BoardValue.Prg16 n s has h = of_register b.banking.prg_banks 0 n (omega (arith, s.prg_banks)) h
shown b BoardValue.Prg8 n s has h = of_register b.banking.prg_banks 1 n (omega (arith, s.prg_banks)) h
shown b BoardValue.Mirroring n s has h = of_byte n h
shown b BoardValue.Revision n s has h = of_flag n h
shown b BoardValue.Reload n s has h = of_byte n h
shown b BoardValue.Counter n s has h = of_byte n h
shown b BoardValue.Prescaler n s has h = of_half n h
shown b BoardValue.Pending n s has h = of_flag n h
shown b BoardValue.Enabled n s has h = of_flag n h
shown b BoardValue.AfterAcknowledge n s has h = of_flag n h
shown b BoardValue.Cycle n s has h = of_flag n h
shown b BoardValue.Halt n s has h = of_flag n h
shown b BoardValue.Sum n s has h = of_sum n h
shown b BoardValue.OpenBus n s has h = of_flag n h

pub set_law : SetLaw
set_law = record { shown = shown }
