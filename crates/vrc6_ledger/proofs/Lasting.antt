-- The ledger holds the last byte of each register and of each place. Assumes nothing.
use mathlib.Core.Path.{◌≡◌, refl, sym, ap, ◌∙◌}
use mathlib.Core.Bool.{Bool, true, false, cond, ◌&&◌}
use mathlib.Core.List.{List, [], ◌∷◌}
use mathlib.Core.Option.{Option, none, some}
use Prim.Native.Nat.{ℕ, zero, suc, ◌+◌, ◌-◌, ◌%◌, ◌<◌}
use native.Mathlib.Omega.{arith}
use lib.Dec.{eqb}
use lib.ListN.{length, get_or, set, replicate}
use lib.Seq.{get_or-set_same, get_or-set_other}
use borrow.Author.Tests.{eqb-true, eqb-false}
use Rattle.std.specs.Prelude.{Some, None}
use Rattle.base_shared.proofs.Tests.{tested}
use Rattle.memory_pages.specs.declared.page.Page.{Page}
use Rattle.memory_pages.specs.Pages.{offset, writable}
use Rattle.memory_tables.specs.Paging.{cpu, picture, entry_for}
use Rattle.registers.specs.declared.Register.TheVariants.{OfBank, OfAudio, OfIrq}
use Rattle.registers.specs.declared.BankRegister.{BankRegister}
use Rattle.registers.specs.declared.BankRegister.TheVariants.{Prg16, Prg8, Mode, Chr}
use Rattle.registers.specs.Decode.{Decoded, decode}
use Rattle.vrc6_banking.specs.declared.banking.Settings.{Settings}
use Rattle.vrc6_banking.specs.Banking.{is_b}
use Rattle.vrc6_calls.specs.declared.Call.{Call}
use Rattle.vrc6.specs.Boards.{Creation}
use Rattle.vrc6_ledger.specs.Ledger.{Ledger, Registers, Event, cpu_writes, picture_writes, clocks, resets, looks, event, noted, opening, entries, ledger, copied_at, taken, registers_after}
use Rattle.vrc6_ledger.specs.Last.{or_else, byte_or, Eleven, same, last_held, given_to, written_to, last_to, stored_through, stored_by, last_at, RegistersLaw, OriginLaw, CopyLaw}
use Rattle.vrc6_ledger.proofs.Kept.{kept_eight, kept_length}

or_or : (a b d : Option ℕ) → or_else a (or_else b d) ≡ or_else (or_else a b) d
or_or none b d = refl
or_or (some v) b d = refl

byte_or_lem : (a b : Option ℕ) (d : ℕ) → byte_or a (byte_or b d) ≡ byte_or (or_else a b) d
byte_or_lem none b d = refl
byte_or_lem (some v) b d = refl

-- ---- a store in a list: the byte stored, or the one before
module _ {A : Type 0} (xs : List A) (at : ℕ) (v d : A) where
  set_at : (i : ℕ) → i < length xs → get_or (set xs at v) i d ≡ cond (eqb at i) v (get_or xs i d)
  set_at i h = tested (eqb at i) here there
    where
      here : eqb at i ≡ true → get_or (set xs at v) i d ≡ cond (eqb at i) v (get_or xs i d)
      here e =
          let same = eqb-true at i e in
          rw e (ap (λ (n : ℕ). get_or (set xs n v) i d) same ∙ get_or-set_same xs i v d h)

      there : eqb at i ≡ false → get_or (set xs at v) i d ≡ cond (eqb at i) v (get_or xs i d)
      there e = rw e (get_or-set_other xs at i v d (λ z. eqb-false at i e (sym z)))

-- ---- registers
some_or : (b : Bool) (v : ℕ) (o : Option ℕ) → cond b (some v) o ≡ or_else (cond b (some v) none) o
some_or true v o = refl
some_or false v o = refl

module _ (g : Registers) (eight : length g.chr ≡ 8) (v : ℕ) where
  taken_held : (r b : BankRegister) → Eleven b → last_held (taken r v g) b ≡ or_else (cond (same r b) (some v) none) (last_held g b)
  taken_held Prg16 Prg16 h = refl
  taken_held Prg16 Prg8 h = refl
  taken_held Prg16 Mode h = refl
  taken_held Prg16 (Chr j) h = refl
  taken_held Prg8 Prg16 h = refl
  taken_held Prg8 Prg8 h = refl
  taken_held Prg8 Mode h = refl
  taken_held Prg8 (Chr j) h = refl
  taken_held Mode Prg16 h = refl
  taken_held Mode Prg8 h = refl
  taken_held Mode Mode h = refl
  taken_held Mode (Chr j) h = refl
  taken_held (Chr i) Prg16 h = refl
  taken_held (Chr i) Prg8 h = refl
  taken_held (Chr i) Mode h = refl
  taken_held (Chr i) (Chr j) h =
      set_at g.chr i (some v) none j (omega arith) ∙ some_or (eqb i j) v (get_or g.chr j none)

  after_held : (k : Decoded) (b : BankRegister) → Eleven b → last_held (registers_after k v g) b ≡ or_else (given_to b k v) (last_held g b)
  after_held None b h = refl
  after_held (Some (OfBank r)) b h = taken_held r b h
  after_held (Some (OfAudio s)) b h = refl
  after_held (Some (OfIrq i)) b h = refl

module _ (c : Creation) where
  -- one call
  noted_held : (l : Ledger) → length l.registers.chr ≡ 8 → (e : Event) (n : BankRegister) → Eleven n
      → last_held (noted c l e).registers n ≡ or_else (written_to l.origin.revision n e) (last_held l.registers n)
  noted_held l eight (cpu_writes a v) n h = after_held l.registers eight v (decode (is_b l.origin.revision) a) n h
  noted_held l eight (picture_writes a v) n h = refl
  noted_held l eight (clocks m) n h = refl
  noted_held l eight resets n h = refl
  noted_held l eight looks n h = refl

  noted_eight : (l : Ledger) (e : Event) → length (noted c l e).registers.chr ≡ length l.registers.chr
  noted_eight l (cpu_writes a v) = kept_eight (decode (is_b l.origin.revision) a) v l.registers
  noted_eight l (picture_writes a v) = refl
  noted_eight l (clocks m) = refl
  noted_eight l resets = refl
  noted_eight l looks = refl

  -- no call changes what the board was made with
  noted_origin : (l : Ledger) (e : Event) → (noted c l e).origin ≡ l.origin
  noted_origin l (cpu_writes a v) = refl
  noted_origin l (picture_writes a v) = refl
  noted_origin l (clocks m) = refl
  noted_origin l resets = refl
  noted_origin l looks = refl

  all_origin : (ks : List Call) (l : Ledger) → (ledger c l ks).origin ≡ l.origin
  all_origin [] l = refl
  all_origin (k ∷ ks) l = all_origin ks (noted c l (event k)) ∙ noted_origin l (event k)

  all_held : (ks : List Call) (l : Ledger) → length l.registers.chr ≡ 8 → (n : BankRegister) → Eleven n
      → last_held (ledger c l ks).registers n ≡ or_else (last_to l.origin.revision n ks) (last_held l.registers n)
  all_held [] l eight n h = refl
  all_held (k ∷ ks) l eight n h =
      let e = event k in
      let later : Settings → Option ℕ = λ o. last_to o.revision n ks in
      all_held ks (noted c l e) (noted_eight l e ∙ eight) n h
      ∙ ap (λ (o : Settings). or_else (later o) (last_held (noted c l e).registers n)) (noted_origin l e)
      ∙ ap (or_else (later l.origin)) (noted_held l eight e n h)
      ∙ or_or (later l.origin) (written_to l.origin.revision n e) (last_held l.registers n)

  -- ---- places
  copied_at_lem : (e : Page) (copy : List ℕ) (a v i : ℕ) → i < length copy
      → get_or (copied_at e (length c.fixed) a v copy) i 0 ≡ byte_or (stored_through e (length c.fixed) a v i) (get_or copy i 0)
  copied_at_lem e copy a v i h = go (writable e)
    where
      at : ℕ
      at = offset e - length c.fixed + a % 1024

      byte : (b : Bool) → cond b v (get_or copy i 0) ≡ byte_or (cond b (some v) none) (get_or copy i 0)
      byte true = refl
      byte false = refl

      go : (w : Bool) → get_or (cond w (set copy at v) copy) i 0 ≡ byte_or (cond (w && eqb at i) (some v) none) (get_or copy i 0)
      go true = set_at copy at v 0 i h ∙ byte (eqb at i)
      go false = refl

  noted_copy : (l : Ledger) (e : Event) (i : ℕ) → i < length l.copy
      → get_or (noted c l e).copy i 0 ≡ byte_or (stored_by c l e i) (get_or l.copy i 0)
  noted_copy l (cpu_writes a v) i h = copied_at_lem (entry_for cpu (entries cpu c l) a) l.copy a v i h
  noted_copy l (picture_writes a v) i h = copied_at_lem (entry_for picture (entries picture c l) a) l.copy a v i h
  noted_copy l (clocks m) i h = refl
  noted_copy l resets i h = refl
  noted_copy l looks i h = refl

  noted_length : (l : Ledger) (e : Event) → length (noted c l e).copy ≡ length l.copy
  noted_length l (cpu_writes a v) = kept_length c cpu l a v
  noted_length l (picture_writes a v) = kept_length c picture l a v
  noted_length l (clocks m) = refl
  noted_length l resets = refl
  noted_length l looks = refl

  all_copied : (ks : List Call) (l : Ledger) (i : ℕ) → i < length l.copy
      → get_or (ledger c l ks).copy i 0 ≡ byte_or (last_at c l ks i) (get_or l.copy i 0)
  all_copied [] l i h = refl
  all_copied (k ∷ ks) l i h =
      let e = event k in
      let inside : i < length (noted c l e).copy = omega (arith, noted_length l e) in
      all_copied ks (noted c l e) i inside
      ∙ ap (byte_or (last_at c (noted c l e) ks i)) (noted_copy l e i h)
      ∙ byte_or_lem (last_at c (noted c l e) ks i) (stored_by c l e i) (get_or l.copy i 0)

or_none : (o : Option ℕ) → or_else o none ≡ o
or_none none = refl
or_none (some v) = refl

none_at : (m i : ℕ) → get_or {A = Option ℕ} (replicate m none) i none ≡ none
none_at zero i = refl
none_at (suc m) zero = refl
none_at (suc m) (suc i) = none_at m i

-- at creation every register has none
empty : (c : Creation) (b : BankRegister) → last_held (opening c).registers b ≡ none
empty c Prg16 = refl
empty c Prg8 = refl
empty c Mode = refl
empty c (Chr i) = none_at 8 i

pub registers_law : RegistersLaw
registers_law c ks n h =
    all_held c ks (opening c) refl n h ∙ ap (or_else (last_to c.settings.revision n ks)) (empty c n) ∙ or_none (last_to c.settings.revision n ks)

pub origin_law : OriginLaw
origin_law c ks = all_origin c ks (opening c)

pub copy_law : CopyLaw
copy_law c ks i h = all_copied c ks (opening c) i h
