-- Clocks change no page entry: the ledger's registers do not take them. Assumes nothing.
use mathlib.Core.Path.{◌≡◌, refl, sym, ap, ap₂, ◌∙◌}
use mathlib.Core.Bool.{true, false≢true}
use mathlib.Core.List.{List, [], ◌∷◌}
use Rattle.base_shared.proofs.Tests.{tested}
use Rattle.registers.specs.Decode.{decode}
use Rattle.vrc6_banking.specs.Banking.{is_b}
use Rattle.vrc6_banking.specs.declared.banking.Settings.{Settings}
use Rattle.vrc6_tables.specs.Tables.{table_of}
use Rattle.vrc6_calls.specs.declared.Call.{Call}
use Rattle.vrc6.specs.Boards.{Creation}
use Rattle.vrc6_ledger.specs.Ledger.{Event, Ledger, Registers, banking_by, banking_of, cpu_writes, picture_writes, clocks, resets, looks, event, ledger, noted, opening, registers_after}
use Rattle.vrc6_ledger.proofs.Whole.{demand3}
use Rattle.scene_laws.specs.Letters.{SlotsLaw, is_clock, unclocked}

-- two ledgers of boards that are made alike, with the same bank registers
record Alike (l m : Ledger) : Type 0 where
  made : l.origin ≡ m.origin
  kept : l.registers ≡ m.registers

module _ (c : Creation) where
  -- a call that is no clock keeps them so
  alike_after : (e : Event) (l m : Ledger) → Alike l m → Alike (noted c l e) (noted c m e)
  alike_after (cpu_writes a v) l m s =
      record {
        made = s.made;
        kept = ap₂ (λ (o : Settings) (r : Registers). registers_after (decode (is_b o.revision) a) v r) s.made s.kept;
      }
  alike_after (picture_writes a v) l m s = record { made = s.made; kept = s.kept }
  alike_after (clocks n) l m s = record { made = s.made; kept = s.kept }
  alike_after resets l m s = record { made = s.made; kept = s.kept }
  alike_after looks l m s = s

  -- a clock leaves one as it is
  alike_clock : (e : Event) (l m : Ledger) → is_clock e ≡ true → Alike l m → Alike (noted c l e) m
  alike_clock (clocks n) l m h s = record { made = s.made; kept = s.kept }
  alike_clock (cpu_writes a v) l m h s = absurd (false≢true h)
  alike_clock (picture_writes a v) l m h s = absurd (false≢true h)
  alike_clock resets l m h s = absurd (false≢true h)
  alike_clock looks l m h s = absurd (false≢true h)

  same_banks : (ks : List Call) (l m : Ledger) → Alike l m → banking_of (ledger c l ks) ≡ banking_of (ledger c m (unclocked ks))
  same_banks [] l m s = ap₂ banking_by s.made s.kept
  same_banks (k ∷ ks) l m s =
      tested (is_clock (event k))
      (λ h. rw h (same_banks ks (noted c l (event k)) m (alike_clock (event k) l m h s)))
      (λ h. rw h (same_banks ks (noted c l (event k)) (noted c m (event k)) (alike_after (event k) l m s)))

pub slots_law : SlotsLaw
slots_law c h ks s =
    (demand3 c h ks).pages s
    ∙ ap (table_of s c.layout) (same_banks c ks (opening c) (opening c) (record { made = refl; kept = refl }))
    ∙ sym ((demand3 c h (unclocked ks)).pages s)
