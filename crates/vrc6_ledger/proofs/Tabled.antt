-- Both tables after any list of calls: how many entries, each in range, and the repeat at $3000. Assumes nothing.
use mathlib.Core.Path.{◌≡◌, refl, ap, ◌∙◌, sym, subst}
use mathlib.Core.Bool.{true}
use mathlib.Core.List.{List, [], ◌∷◌, map}
use mathlib.Core.Option.{Option}
use Prim.Native.Nat.{ℕ, suc}
use lib.ListN.{length, get_or}
use Rattle.base_shared.proofs.Tests.{either}
use Rattle.memory_pages.specs.Pages.{unmapped}
use Rattle.memory_layout.specs.Entries.{entry_in_range}
use Rattle.memory_tables.specs.Paging.{Side, cpu, picture, entry_count}
use Rattle.vrc6_banking.specs.declared.banking.Settings.{Settings}
use Rattle.vrc6_banking.specs.Laws.{WellFormed}
use Rattle.vrc6_slots.proofs.Counts.{mirroring_count, numbers_count}
use Rattle.vrc6_tables.specs.Laws.{Sized}
use Rattle.vrc6_tables.proofs.Counts.{count_law, nametable_law}
use Rattle.vrc6_tables.proofs.Entries.{entries_law}
use Rattle.irq.specs.declared.VrcIrq.{VrcIrq}
use Rattle.audio.specs.declared.Audio.{Audio}
use Rattle.vrc6.specs.Boards.{State, Creation, table}
use Rattle.vrc6_ledger.specs.Ledger.{Registers, Timing, byte_of, settled, banking_by, ledger_of}
use Rattle.vrc6_ledger.specs.Laws.{Tables, TablesLaw}
use Rattle.vrc6_ledger.proofs.Shown.{board_of}
use Rattle.vrc6_ledger.proofs.Kept.{Accepted, accepted, banks}
use Rattle.vrc6_ledger.proofs.Whole.{whole}

count_bytes : (os : List (Option ℕ)) → length (map byte_of os) ≡ length os
count_bytes [] = refl
count_bytes (o ∷ os) = ap suc (count_bytes os)

-- the banking values of eight CHR registers
well_formed : (o : Settings) (g : Registers) → length g.chr ≡ 8 → WellFormed (banking_by o g)
well_formed o g eight =
    record {
      in_range = banks o g;
      prgs = refl;
      chrs = count_bytes g.chr ∙ eight;
      names =
          either (λ ns. length ns ≡ 4) (settled g) (numbers_count (byte_of g.mode) (map byte_of g.chr)) (mirroring_count o.mirroring);
    }

-- a board that a ledger shows
tables : (c : Creation) (ok : Accepted c) (o : Settings) (g : Registers) (t : Timing) (r : VrcIrq) (a : Audio) → WellFormed (banking_by o g)
    → Tables (board_of c o g t r a)
tables c ok o g t r a w =
    record {
      counts = counts;
      in_range = in_range;
      repeats = λ n h. nametable_law.at_3000 c.layout (banking_by o g) sized n h ∙ sym (nametable_law.at_2000 c.layout (banking_by o g) sized n h);
    }
  where
    sized : Sized (banking_by o g)
    sized = record { chrs = w.chrs; names = w.names }

    counts : (s : Side) → length (table s (board_of c o g t r a)) ≡ entry_count s
    counts cpu = count_law cpu c.layout (banking_by o g) w
    counts picture = count_law picture c.layout (banking_by o g) w

    in_range : (s : Side) (n : ℕ) → entry_in_range c.layout (get_or (table s (board_of c o g t r a)) n unmapped) ≡ true
    in_range cpu n = entries_law cpu c.layout (banking_by o g) ok.limits n
    in_range picture n = entries_law picture c.layout (banking_by o g) ok.limits n

pub tables_law : TablesLaw
tables_law c h ks =
    let w = whole c h ks in
    let l = ledger_of c ks in
    subst (λ (x : State). Tables x.board) (sym w.state)
    (tables c (accepted c h) l.origin l.registers l.timing w.irq w.audio (well_formed l.origin l.registers w.lasts.eight))
