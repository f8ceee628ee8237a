-- The reference positions: what the calls answer is what they do, since none is refused, and that computes. Assumes nothing.
use mathlib.Core.Path.{◌≡◌, refl, ap, ◌∙◌}
use mathlib.Core.Bool.{true}
use mathlib.Core.List.{List}
use lib.Ieee.{round, of_int, add, to_bits}
use Rattle.base_shared.specs.Rows.{agree}
use Rattle.base_steps.specs.Times.{times, count}
use Rattle.memory_layout.specs.Layout.{within_limits}
use Rattle.registers.specs.Decode.{decode}
use Rattle.vrc6_slots.specs.declared.Mirroring.TheVariants.{Vertical}
use Rattle.vrc6_banking.specs.declared.banking.Revision.{Revision}
use Rattle.vrc6_slots.specs.Chr.{chr_slots}
use Rattle.vrc6_slots.specs.Nametables.{nametable_numbers, nametable_mirroring}
use Rattle.vrc6_tables.specs.Tables.{cpu_entries, picture_entries}
use Rattle.audio_pulse.specs.Pulses.{pulse_written, pulse_clocked, pulse_level}
use Rattle.audio_saw.specs.Saws.{saw_written, saw_clocked, saw_level}
use Rattle.audio.specs.Sound.{audio_written, audio_clocked}
use Rattle.vrc6_calls.specs.declared.Call.{Call}
use Rattle.vrc6.specs.Boards.{State, Creation}
use Rattle.vrc6.specs.Checks.{create_refusal}
use Rattle.vrc6_calls.specs.Lists.{answers}
use Rattle.vrc6_ledger.specs.Ledger.{opening}
use Rattle.vrc6_ledger.specs.Demand3.{start}
use Rattle.vrc6_ledger.specs.Foreseen.{foreseen}
use Rattle.vrc6_ledger.specs.Played.{played, fresh}
use Rattle.vrc6_ledger.specs.Exhibited.{zeros}
use Rattle.vrc6_ledger.specs.Positions.{Sample, S, S20480, S0, layout_of, Play, by_calls, rows_of, Positions}
use Rattle.vrc6_ledger.proofs.Ticks.{total, total_map}
use Rattle.vrc6_ledger.proofs.Whole.{foreseen_law, played_law}
use Rattle.vrc6_ledger.proofs.Exhibits.{zeros_accepted}

within : (s : Sample) → within_limits (layout_of s) ≡ true
within S = refl
within S20480 = refl
within S0 = refl

abbrev made : Sample → Revision → Creation
made s r = zeros (layout_of s) Vertical r

-- the same by what each call does, with no test of a refusal
abbrev by_effects : Play
by_effects =
    record {
      board = λ s r ks. (played (fresh (made s r)) ks).board;
      ticks = λ s r ks. total (foreseen (made s r) (opening (made s r)) ks);
    }

module _ (s : Sample) (r : Revision) (ks : List Call) where
  accepted : create_refusal (made s r) ≡ 0
  accepted = zeros_accepted (layout_of s) (within s) Vertical r

  board_same : by_calls.board s r ks ≡ by_effects.board s r ks
  board_same = ap (λ (x : State). x.board) (played_law (made s r) accepted ks)

  ticks_same : by_calls.ticks s r ks ≡ by_effects.ticks s r ks
  ticks_same = total_map (answers (start (made s r)) ks) ∙ ap total (foreseen_law (made s r) accepted ks)

same : by_calls ≡ by_effects
same = λ i. record { board = λ s r ks. board_same s r ks i; ticks = λ s r ks. ticks_same s r ks i }

computed : agree (rows_of by_effects) ≡ true
unfolding times count decode cpu_entries picture_entries chr_slots nametable_numbers nametable_mirroring pulse_written saw_written pulse_clocked saw_clocked pulse_level saw_level audio_written audio_clocked round of_int add to_bits
computed = refl

pub positions : Positions
positions = ap (λ (p : Play). agree (rows_of p)) same ∙ computed
