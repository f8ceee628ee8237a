-- The values that a line asks for or sets: their names, and the places behind them (oracle/FORMAT.md). Assumes nothing.
use Rattle.std.specs.Prelude.{List, [], ◌∷◌, ℕ}
use Rattle.text_words.specs.Names.{codes}
use Rattle.script_lines.specs.declared.values.AnswerValue.TheVariants as AnswerValue
use Rattle.script_lines.specs.declared.values.BoardValue.TheVariants as BoardValue
use Rattle.script_lines.specs.declared.values.Buffer.{Buffer}
use Rattle.script_lines.specs.declared.values.ChannelField.{ChannelField}
use Rattle.script_lines.specs.declared.values.ChannelName.TheVariants as ChannelName
use Rattle.script_lines.specs.declared.values.LayoutField.{LayoutField}
use Rattle.script_lines.specs.declared.values.Value.{Value}
use Rattle.script_lines.specs.declared.values.ValueName.{ValueName}
use Rattle.script_lines.specs.Readings.{Reader, address_after, decimal_after, given, named_after, then}

-- the two buffers
abbrev pub buffers : List (List ℕ × Buffer)
buffers = (codes "fixed", Buffer.Fixed) ∷ (codes "changing", Buffer.Changing) ∷ []

-- the fields of a layout
abbrev pub layout_fields : List (List ℕ × LayoutField)
layout_fields =
    (codes "prg", LayoutField.PrgRom) ∷
    (codes "chr", LayoutField.Chr) ∷
    (codes "writable", LayoutField.ChrWritable) ∷
    (codes "ram", LayoutField.PrgRam) ∷
    (codes "ciram", LayoutField.Ciram) ∷ []

-- the fields of a channel, pulse or saw
abbrev pub channel_fields : List (List ℕ × ChannelField)
channel_fields =
    (codes "enabled", ChannelField.Enabled) ∷
    (codes "volume", ChannelField.Volume) ∷
    (codes "duty", ChannelField.Duty) ∷
    (codes "ignore-duty", ChannelField.IgnoreDuty) ∷
    (codes "frequency", ChannelField.Frequency) ∷
    (codes "timer", ChannelField.Timer) ∷
    (codes "step", ChannelField.Step) ∷
    (codes "shift", ChannelField.Shift) ∷
    (codes "accumulator", ChannelField.Accumulator) ∷
    (codes "rate", ChannelField.Rate) ∷ []

-- the names of values: those of the board and its buffers, then what the last call answered, from `view-byte` on
abbrev pub value_names : List (List ℕ × ValueName)
value_names =
    (codes "entry", ValueName.Entry) ∷
    (codes "picture-entry", ValueName.PictureEntry) ∷
    (codes "chr", ValueName.Chr) ∷
    (codes "nametable", ValueName.Nametable) ∷
    (codes "fixed", ValueName.Byte Buffer.Fixed) ∷
    (codes "changing", ValueName.Byte Buffer.Changing) ∷
    (codes "layout", ValueName.Layout) ∷
    (codes "pulse1", ValueName.Channel ChannelName.Pulse1) ∷
    (codes "pulse2", ValueName.Channel ChannelName.Pulse2) ∷
    (codes "saw", ValueName.Channel ChannelName.Saw) ∷
    (codes "mode", ValueName.OfBoard BoardValue.Mode) ∷
    (codes "prg-16k", ValueName.OfBoard BoardValue.Prg16) ∷
    (codes "prg-8k", ValueName.OfBoard BoardValue.Prg8) ∷
    (codes "mirroring", ValueName.OfBoard BoardValue.Mirroring) ∷
    (codes "revision", ValueName.OfBoard BoardValue.Revision) ∷
    (codes "reload", ValueName.OfBoard BoardValue.Reload) ∷
    (codes "counter", ValueName.OfBoard BoardValue.Counter) ∷
    (codes "prescaler", ValueName.OfBoard BoardValue.Prescaler) ∷
    (codes "pending", ValueName.OfBoard BoardValue.Pending) ∷
    (codes "enabled", ValueName.OfBoard BoardValue.Enabled) ∷
    (codes "after-acknowledge", ValueName.OfBoard BoardValue.AfterAcknowledge) ∷
    (codes "cycle", ValueName.OfBoard BoardValue.Cycle) ∷
    (codes "halt", ValueName.OfBoard BoardValue.Halt) ∷
    (codes "sum", ValueName.OfBoard BoardValue.Sum) ∷
    (codes "open-bus", ValueName.OfBoard BoardValue.OpenBus) ∷
    (codes "view-byte", ValueName.ViewByte) ∷
    (codes "view-length", ValueName.OfAnswer AnswerValue.ViewLength) ∷
    (codes "refusal", ValueName.OfAnswer AnswerValue.Refusal) ∷
    (codes "byte", ValueName.OfAnswer AnswerValue.Byte) ∷
    (codes "ticks", ValueName.OfAnswer AnswerValue.Ticks) ∷
    (codes "first-tick", ValueName.OfAnswer AnswerValue.FirstTick) ∷
    (codes "last-tick", ValueName.OfAnswer AnswerValue.LastTick) ∷
    (codes "interrupt", ValueName.OfAnswer AnswerValue.Interrupt) ∷
    (codes "sounding", ValueName.OfAnswer AnswerValue.Sounding) ∷
    (codes "level", ValueName.OfAnswer AnswerValue.Level) ∷
    (codes "level-bits", ValueName.OfAnswer AnswerValue.LevelBits) ∷
    (codes "forecast", ValueName.OfAnswer AnswerValue.Forecast) ∷
    (codes "untouched", ValueName.Untouched) ∷
    (codes "kept", ValueName.Kept) ∷ []

-- a buffer by its name
abbrev pub buffer_after : Reader Buffer
buffer_after = named_after buffers

-- a layout's field by its name
abbrev pub layout_field_after : Reader LayoutField
layout_field_after = named_after layout_fields

-- a channel's field by its name
abbrev pub channel_field_after : Reader ChannelField
channel_field_after = named_after channel_fields

-- the name of a value
abbrev pub value_name_after : Reader ValueName
value_name_after = named_after value_names

-- the value of a name, with its place where there are several
unfoldable pub value_behind : ValueName → Reader Value
value_behind ValueName.Entry = then address_after (λ addr. given (Value.Board (BoardValue.Entry addr)))
value_behind ValueName.PictureEntry = then address_after (λ addr. given (Value.Board (BoardValue.PictureEntry addr)))
value_behind ValueName.Chr = then decimal_after (λ i. given (Value.Board (BoardValue.Chr i)))
value_behind ValueName.Nametable = then decimal_after (λ i. given (Value.Board (BoardValue.Nametable i)))
value_behind (ValueName.Byte buffer) = then decimal_after (λ offset. given (Value.Byte buffer offset))
value_behind ValueName.Layout = then layout_field_after (λ field. given (Value.Board (BoardValue.Layout field)))
value_behind (ValueName.Channel channel) = then channel_field_after (λ field. given (Value.Board (BoardValue.Channel channel field)))
value_behind ValueName.ViewByte = then decimal_after (λ offset. given (Value.ViewByte offset))
value_behind (ValueName.OfBoard value) = given (Value.Board value)
value_behind (ValueName.OfAnswer value) = given (Value.Answer value)
value_behind ValueName.Untouched = given Value.Untouched
value_behind ValueName.Kept = given Value.Kept

-- a value by its name
unfoldable pub named_value : Reader Value
named_value words = then value_name_after value_behind words
