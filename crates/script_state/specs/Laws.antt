-- What is shown of a value after it was set. Assumes nothing.
use Rattle.std.specs.Prelude.{◌≡◌, ℕ, ◌<◌, length}
use Rattle.vrc6.specs.declared.board.Board.{Board}
use Rattle.script_lines.specs.declared.values.BoardValue.{BoardValue}
use Rattle.script_lines.specs.declared.values.ChannelField.{ChannelField}
use Rattle.script_lines.specs.declared.values.ChannelName.{ChannelName}
use Rattle.script_state.specs.Values.{board_value, board_with}

-- a board's tables have their lengths
pub record Sized (b : Board) : Type 0 where
  pub prg_pages : length b.prg_pages ≡ 64
  pub chr_pages : length b.chr_pages ≡ 16
  pub prg_banks : length b.banking.prg_banks ≡ 2
  pub chr : length b.banking.chr ≡ 8
  pub nt_banks : length b.banking.nt_banks ≡ 4

-- a pulse has a field
abbrev pub PulseHas : ChannelField → Type 0
PulseHas ChannelField.Accumulator = ⊥
PulseHas ChannelField.Rate = ⊥
PulseHas _ = Unit {0}

-- a saw has a field
abbrev pub SawHas : ChannelField → Type 0
SawHas ChannelField.Volume = ⊥
SawHas ChannelField.Duty = ⊥
SawHas ChannelField.IgnoreDuty = ⊥
SawHas _ = Unit {0}

-- a board has a value
abbrev pub Has : BoardValue → Type 0
Has (BoardValue.Channel ChannelName.Pulse1 field) = PulseHas field
Has (BoardValue.Channel ChannelName.Pulse2 field) = PulseHas field
Has (BoardValue.Channel ChannelName.Saw field) = SawHas field
Has _ = Unit {0}

-- a value that is set to 0 or 1, which every one can hold, is shown so
pub record SetLaw : Type 0 where
  pub shown : (b : Board) (name : BoardValue) (n : ℕ) → Sized b → Has name → n < 2 → board_value (board_with b name n) name ≡ n
