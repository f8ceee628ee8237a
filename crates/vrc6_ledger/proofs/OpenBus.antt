-- What the bus setting changes and what it leaves, proved; and what a read gives, from the ledger. Assumes nothing.
use mathlib.Core.Path.{◌≡◌, refl, sym, ap, ap₂, ◌∙◌, subst}
use mathlib.Core.Bool.{Bool, true, false, cond, ◌&&◌}
use mathlib.Core.List.{List, [], ◌∷◌, map}
use Prim.Native.Nat.{ℕ, zero, suc}
use lib.Dec.{lit<}
use Rattle.base_shared.specs.Refusals.{unless}
use Rattle.memory_pages.specs.declared.page.Page.{Page}
use Rattle.std.specs.Prelude.{Some, None}
use Rattle.memory_pages.specs.Pages.{found, is_unmapped}
use Rattle.memory_tables.specs.Paging.{cpu, picture, entry_for}
use Rattle.memory_access.specs.declared.Peeked.{Peeked}
use Rattle.memory_access.specs.Access.{byte_at}
use Rattle.registers.specs.declared.Register.TheVariants.{OfBank, OfAudio, OfIrq}
use Rattle.registers.specs.Decode.{Decoded, decode}
use Rattle.irq.specs.declared.VrcIrq.{VrcIrq}
use Rattle.audio.specs.declared.Audio.{Audio}
use Rattle.vrc6_tables.specs.Tables.{cpu_entries}
use Rattle.vrc6_tables.proofs.Nothing.{nothing_at_law}
use Rattle.vrc6_parts.specs.Reads.{Caller, by_cpu, by_picture, handed}
use Rattle.vrc6_parts.proofs.Handed.{off_shows, as_shown}
use Rattle.vrc6.specs.declared.board.Board.{Board}
use Rattle.vrc6_calls.specs.declared.Call.{Call}
use Rattle.vrc6_calls.specs.declared.Call.TheVariants.{CpuRead, PictureRead}
use Rattle.vrc6_calls.specs.declared.Answer.{Answer}
use Rattle.vrc6_calls.specs.declared.Answer.TheVariants.{Byte}
use Rattle.vrc6.specs.Boards.{State, held_by, Creation, new_board, zero_board, entry_of}
use Rattle.vrc6.specs.Checks.{create_refusal, engine_refusal, memory_refusal, cpu_write_refusal}
use Rattle.vrc6.specs.Calls.{clocked, was_reset, side_of, byte_read, register_written, cpu_written, picture_written}
use Rattle.vrc6_calls.specs.Lists.{Ask, clocking, resetting, leveling, forecasting, Shape, reads, writes, views, asks, shape, given_by, of_read, next_by, after, answers}
use Rattle.vrc6_ledger.specs.Ledger.{Ledger, opening, banking_of, entries, ledger_of}
use Rattle.vrc6_ledger.specs.Demand3.{start}
use Rattle.vrc6_ledger.specs.Played.{fresh}
use Rattle.vrc6_ledger.specs.OpenBus.{creation_with, board_with, state_with, rust_read, said, said_by, all_said, Beside, SettingLaw, byte_noted, read_noted, ReadLaw, NothingThereLaw, OpenLaw, ClosedExample}
use Rattle.vrc6_ledger.specs.Exhibited.{zeros}
use Rattle.vrc6_ledger.proofs.Shown.{shown}
use Rattle.vrc6_ledger.proofs.Kept.{accepted}
use Rattle.vrc6_ledger.proofs.Whole.{whole, never_refused}
use Rattle.vrc6_ledger.proofs.Exhibits.{zeros_accepted}

-- ---- without the setting
as_rust : (k : Caller) (x : State) (a : ℕ) → x.board.open_bus ≡ false → byte_read k x a ≡ rust_read (side_of k) x a
as_rust (by_cpu bus) x a h =
    let b = x.board in
    let e = entry_of cpu b a in
    let byte = byte_at e x.fixed x.changing a in
    let off = ap (λ (s : Bool). handed (by_cpu bus) s (found e) byte) h ∙ off_shows bus (found e) byte in
    ap (λ (p : Peeked). record { board = b; byte = p.byte; refusal = p.refusal }) (as_shown bus b.open_bus b.layout e x.fixed x.changing a off)
as_rust by_picture x a h = refl

-- ---- every call keeps the setting, and leaves the same beside it
module _ (setting : Bool) where
  register : (r : Decoded) (v : ℕ) (b : Board) → register_written r v (board_with setting b) ≡ board_with setting (register_written r v b)
  register None v b = refl
  register (Some (OfBank r)) v b = refl
  register (Some (OfAudio r)) v b = refl
  register (Some (OfIrq r)) v b = refl

  -- a write that is refused or not
  write : (n : ℕ) (x y z : State) → z ≡ state_with setting y
      → held_by (unless n z (state_with setting x)).board x.fixed (unless n z (state_with setting x)).changing
      ≡ state_with setting (held_by (unless n y x).board x.fixed (unless n y x).changing)
  write zero x y z e = ap (λ (u : State). held_by u.board x.fixed u.changing) e
  write (suc n) x y z e = refl

  -- a clock or a reset that is refused or not
  engine : (n : ℕ) (x : State) (b : Board)
      → held_by (unless n (board_with setting b) (board_with setting x.board)) x.fixed x.changing
      ≡ state_with setting (held_by (unless n b x.board) x.fixed x.changing)
  engine zero x b = refl
  engine (suc n) x b = refl

  asked : (x : State) (q : Ask) → next_by (state_with setting x) (asks q) ≡ state_with setting (next_by x (asks q))
  asked x clocking = engine (engine_refusal x.board) x (clocked x.board)
  asked x resetting = engine (engine_refusal x.board) x (was_reset x.board)
  asked x leveling = refl
  asked x forecasting = refl

  moved : (x : State) (s : Shape) → next_by (state_with setting x) s ≡ state_with setting (next_by x s)
  moved x (reads k a) = refl
  moved x (writes cpu a v) =
      write (cpu_write_refusal x a) x (cpu_written x a v) (cpu_written (state_with setting x) a v)
      (ap (λ (b : Board). held_by b x.fixed (cpu_written x a v).changing) (register (decode x.board.banking.revision_b a) v x.board))
  moved x (writes picture a v) =
      write (memory_refusal picture x a true) x (picture_written x a v) (picture_written (state_with setting x) a v) refl
  moved x (views a) = refl
  moved x (asks q) = asked x q

-- ---- what a call says
-- a CPU read with the number n, of an entry that is unmapped or not
read_said : (n bus byte : ℕ) (u : Bool) (e : Page)
    → ◌≡◌ {A = Answer × List ℕ} (Byte (unless n (handed (by_cpu bus) true (cond u None (Some e)) byte) 0) n, [])
    (cond (unless n u false) (Byte bus 0, []) (Byte (unless n (handed (by_cpu bus) false (cond u None (Some e)) byte) 0) n, []))
read_said zero bus byte true e = refl
read_said zero bus byte false e = refl
read_said (suc n) bus byte u e = refl

ask_said : (x : State) (q : Ask) → said (given_by (state_with true x) (asks q)) ≡ said_by (state_with false x) (asks q)
ask_said x clocking = refl
ask_said x resetting = refl
ask_said x leveling = refl
ask_said x forecasting = refl

call_said : (x : State) (s : Shape) → said (given_by (state_with true x) s) ≡ said_by (state_with false x) s
call_said x (reads (by_cpu bus) a) =
    let e = entry_of cpu x.board a in
    read_said (memory_refusal cpu x a true) bus (byte_at e x.fixed x.changing a) (is_unmapped e) e
call_said x (reads by_picture a) = refl
call_said x (writes cpu a v) = refl
call_said x (writes picture a v) = refl
call_said x (views a) = refl
call_said x (asks q) = ask_said x q

-- ---- the list
lent : (x : State) (ks : List Call) → Beside (state_with false x) (state_with true x) ks
lent x [] = record { left = refl; kept = refl; answers_are = refl }
lent x (k ∷ ks) =
    let y = next_by x (shape k) in
    let on = moved true x (shape k) in
    let off = moved false x (shape k) in
    let more = lent y ks in
    record {
      left = ap (λ (z : State). after z ks) on ∙ more.left ∙ ap (λ (z : State). state_with true (after z ks)) (sym off);
      kept = ap (λ (z : State). (after z ks).board.open_bus) off ∙ more.kept;
      answers_are =
          ap₂ (λ (a : Answer × List ℕ) (rest : List (Answer × List ℕ)). a ∷ rest) (call_said x (shape k))
          (ap (λ (z : State). map said (answers z ks)) on ∙ more.answers_are ∙ ap (λ (z : State). all_said z ks) (sym off));
    }

-- ---- two creations
started : (setting : Bool) (c : Creation) → create_refusal c ≡ 0 → start (creation_with setting c) ≡ state_with setting (fresh c)
started setting c h =
    ap (λ (n : ℕ). held_by (unless n (new_board c.layout (creation_with setting c).settings) zero_board) c.fixed c.changing) h

pub setting_law : SettingLaw
setting_law =
    record {
      as_rust = as_rust;
      picture_as_rust = λ x a. refl;
      lent = lent;
      created = λ c h ks.
          subst (λ (x : State). Beside (start (creation_with false c)) x ks) (sym (started true c h))
          (subst (λ (x : State). Beside x (state_with true (fresh c)) ks) (sym (started false c h)) (lent (fresh c) ks));
    }

-- ---- a read from the ledger
decided : (setting u : Bool) (bus byte : ℕ) (e : Page) → handed (by_cpu bus) setting (cond u None (Some e)) byte ≡ cond (setting && u) bus byte
decided true true bus byte e = refl
decided true false bus byte e = refl
decided false true bus byte e = refl
decided false false bus byte e = refl

-- what a caller is handed through the ledger's entry
read_noted_lem : (c : Creation) (l : Ledger) (k : Caller) (a : ℕ)
    → let e = entry_for (side_of k) (entries (side_of k) c l) a in handed k l.origin.open_bus (found e) (byte_at e c.fixed l.copy a) ≡ read_noted c l k a
read_noted_lem c l (by_cpu bus) a =
    let e = entry_for cpu (entries cpu c l) a in
    decided l.origin.open_bus (is_unmapped e) bus (byte_noted c l e a) e
read_noted_lem c l by_picture a = refl

module _ (c : Creation) (h : create_refusal c ≡ 0) (ks : List Call) where
  abbrev x : State
  x = after (start c) ks

  abbrev l : Ledger
  l = ledger_of c ks

  -- the byte of a read on the board that the ledger shows, which is not refused
  byte_shown : (k : Caller) (a : ℕ) (q : VrcIrq) (s : Audio) → memory_refusal (side_of k) (shown c l q s) a true ≡ 0
      → (byte_read k (shown c l q s) a).byte ≡ read_noted c l k a
  byte_shown (by_cpu bus) a q s z =
      let e = entry_for cpu (entries cpu c l) a in
      ap (λ (n : ℕ). unless n (handed (by_cpu bus) l.origin.open_bus (found e) (byte_noted c l e a)) 0) z ∙ read_noted_lem c l (by_cpu bus) a
  byte_shown by_picture a q s z =
      ap (λ (n : ℕ). unless n (read_noted c l by_picture a) 0) z

  whole_read : (k : Caller) (a : ℕ) → memory_refusal (side_of k) x a true ≡ 0
      → byte_read k x a ≡ record { board = x.board; byte = read_noted c l k a; refusal = 0 }
  whole_read k a z =
      let w = whole c h ks in
      let same = w.state in
      let byte = ap (λ (y : State). (byte_read k y a).byte) same
      ∙ byte_shown k a w.irq w.audio (ap (λ (y : State). memory_refusal (side_of k) y a true) (sym same) ∙ z) in
      λ i. record { board = x.board; byte = byte i; refusal = z i }

pub read_law : ReadLaw
read_law c h ks (by_cpu bus) a = ap of_read (whole_read c h ks (by_cpu bus) a (never_refused c h ks (CpuRead a bus)))
read_law c h ks by_picture a = ap of_read (whole_read c h ks by_picture a (never_refused c h ks (PictureRead a)))

-- ---- where nothing is there
pub nothing_there_law : NothingThereLaw
nothing_there_law c h ks a low = nothing_at_law c.layout (banking_of (ledger_of c ks)) (accepted c h).limits a low

pub open_law : OpenLaw
open_law l within m r bus =
    let c = creation_with true (zeros l m r) in
    let h = zeros_accepted l within m r in
    let e = entry_for cpu (entries cpu c (opening c)) 0x6000 in
    ap said (read_law c h [] (by_cpu bus) 0x6000)
    ∙ ap (λ (u : Bool). (Byte (cond u bus (byte_noted c (opening c) e 0x6000)) 0, [])) (nothing_there_law c h [] 0x6000 (lit< tt))

pub closed_example : ClosedExample
unfolding cpu_entries
closed_example = refl
