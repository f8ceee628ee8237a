-- The ranges of what every channel has as facts, which the clocks require. Assumes nothing.
use Rattle.std.specs.Prelude.{ℕ, ◌≤◌, ◌≡◌, true}
use Rattle.audio_shared.specs.Ranges.{is_shift}

-- what every channel has
pub record ChannelIn (frequency timer shift : ℕ) : Type 0 where
  pub frequency_top : frequency ≤ 4095
  pub timer_low : 1 ≤ timer
  pub timer_top : timer ≤ 4096
  pub shift_top : shift ≤ 8
  pub shift_is : is_shift shift ≡ true
