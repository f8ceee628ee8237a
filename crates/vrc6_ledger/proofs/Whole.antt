-- Demand 3, proved. Assumes nothing.
use mathlib.Core.Path.{◌≡◌, refl, sym, ap, ap₂, ◌∙◌, subst}
use mathlib.Core.List.{List, [], ◌∷◌, map}
use Prim.Native.Nat.{ℕ}
use Rattle.base_shared.specs.Lists.{Each}
use Rattle.base_shared.specs.Refusals.{unless}
use Rattle.memory_tables.specs.Paging.{Side, cpu, picture}
use Rattle.irq.specs.declared.VrcIrq.{VrcIrq}
use Rattle.irq.specs.Interrupt.{irq_zero}
use Rattle.audio.specs.declared.Audio.{Audio}
use Rattle.audio.specs.Sound.{audio_at}
use Rattle.vrc6_banking.specs.declared.banking.Settings.{Settings}
use Rattle.vrc6_calls.specs.declared.Call.{Call}
use Rattle.vrc6.specs.Boards.{State, held_by, Creation, new_board, zero_board, table}
use Rattle.vrc6.specs.Checks.{create_refusal}
use Rattle.vrc6_calls.specs.Lists.{shape, Given, refusal_in, ticks_in, after, answers}
use Rattle.vrc6_ledger.specs.Ledger.{Ledger, opening, event, noted, ledger, ledger_of, entries}
use Rattle.vrc6_ledger.specs.Demand3.{timing_of, WholeSum, start, Demand3}
use Rattle.vrc6_ledger.specs.Foreseen.{foreseen, ForeseenLaw}
use Rattle.vrc6_ledger.specs.Played.{played, PlayedLaw}
use Rattle.vrc6_ledger.proofs.Ticks.{counted_part}
use Rattle.vrc6_ledger.proofs.Shown.{shown, irq_after, audio_next, led, refusal_of, answered, stepped, ticked}
use Rattle.vrc6_ledger.proofs.Lasting.{origin_law}
use Rattle.vrc6_ledger.proofs.Kept.{Accepted, accepted, Kept, first_kept, none_refused, kept}

-- ---- the list, from any state that a ledger shows: what it comes to, and what its answers say
pub record After (c : Creation) (l : Ledger) (ks : List Call) (x : State) (gs : List Given) : Type 0 where
  pub irq : VrcIrq
  pub audio : Audio
  pub lasts : Kept c (ledger c l ks) audio
  pub state : x ≡ shown c (ledger c l ks) irq audio
  pub none : Each (λ a. refusal_in a ≡ 0) gs
  pub foretold : map ticks_in gs ≡ foreseen c l ks

module _ (c : Creation) (ok : Accepted c) where
  ran : (ks : List Call) (l : Ledger) (r : VrcIrq) (x : Audio) → Kept c l x
      → After c l ks (after (shown c l r x) ks) (answers (shown c l r x) ks)
  ran [] l r x k = record { irq = r; audio = x; lasts = k; state = refl; none = tt; foretold = refl }
  ran (call ∷ ks) l r x k =
      let e = event call in
      let fine = none_refused c ok l r x k (shape call) in
      let step = stepped c l r x call k.eight fine in
      let more = ran ks (noted c l e) (irq_after l r e) (audio_next l.origin x e) (kept c ok l x e k) in
      record {
        irq = more.irq;
        audio = more.audio;
        lasts = more.lasts;
        state = ap (λ (y : State). after y ks) step ∙ more.state;
        none =
            (answered (shown c l r x) (shape call) ∙ fine, subst (λ (y : State). Each (λ a. refusal_in a ≡ 0) (answers y ks)) (sym step) more.none);
        foretold =
            ap₂ (λ (n : ℕ) (rest : List ℕ). n ∷ rest) (ticked c l r x (shape call) fine)
            (ap (λ (y : State). map ticks_in (answers y ks)) step ∙ more.foretold);
      }

  -- each call's own effect, one after the other
  effects : (ks : List Call) (l : Ledger) (r : VrcIrq) (x : Audio) → Kept c l x
      → after (shown c l r x) ks ≡ played (shown c l r x) ks
  effects [] l r x k = refl
  effects (call ∷ ks) l r x k =
      let e = event call in
      ap (λ (y : State). after y ks) (stepped c l r x call k.eight (none_refused c ok l r x k (shape call)))
      ∙ effects ks (noted c l e) (irq_after l r e) (audio_next l.origin x e) (kept c ok l x e k)
      ∙ ap (λ (y : State). played y ks) (sym (led c l r x e k.eight))

  first : create_refusal c ≡ 0 → shown c (opening c) irq_zero (audio_at 1) ≡ start c
  first h =
      sym
      (ap (λ (n : ℕ). held_by (unless n (new_board c.layout c.settings) zero_board) c.fixed c.changing) h)

pub whole : (c : Creation) → create_refusal c ≡ 0 → (ks : List Call) → After c (opening c) ks (after (start c) ks) (answers (start c) ks)
whole c h ks =
    let ok = accepted c h in
    subst (λ (x : State). After c (opening c) ks (after x ks) (answers x ks)) (first c ok h)
    (ran c ok ks (opening c) irq_zero (audio_at 1) (first_kept c ok))

pub foreseen_law : ForeseenLaw
foreseen_law c h ks = (whole c h ks).foretold

pub played_law : PlayedLaw
played_law c h ks =
    let ok = accepted c h in
    ap (λ (x : State). after x ks) (sym (first c ok h)) ∙ effects c ok ks (opening c) irq_zero (audio_at 1) (first_kept c ok)

-- after any list no call is refused
pub never_refused : (c : Creation) → create_refusal c ≡ 0 → (ks : List Call) (k : Call) → refusal_of (after (start c) ks) k ≡ 0
never_refused c h ks k =
    let w = whole c h ks in
    ap (λ (x : State). refusal_of x k) w.state
    ∙ none_refused c (accepted c h) (ledger_of c ks) w.irq w.audio w.lasts (shape k)

-- ---- the claim, read off
pub demand3 : Demand3
demand3 c h ks =
    record {
      accepted = w.none;
      layout = ap (λ (x : State). x.board.layout) w.state;
      pages = pages;
      banking = ap (λ (x : State). x.board.banking) w.state;
      setting = ap (λ (x : State). x.board.open_bus) w.state ∙ ap (λ (s : Settings). s.open_bus) (origin_law c ks);
      timing = ap (λ (x : State). timing_of x.board.irq) w.state;
      prescaler = w.lasts.prescaler;
      changing = ap (λ (x : State). x.changing) w.state;
      fixed = ap (λ (x : State). x.fixed) w.state;
      sum = subst (λ (x : State). WholeSum x.board.audio.out) (sym w.state) w.lasts.audio.1;
      stretch = λ i n s. counted_part c ks (opening c) (answers (start c) ks) w.foretold i n s.quiet s.begun;
    }
  where
    w : After c (opening c) ks (after (start c) ks) (answers (start c) ks)
    w = whole c h ks

    pages : (s : Side) → table s (after (start c) ks).board ≡ entries s c (ledger_of c ks)
    pages cpu = ap (λ (x : State). x.board.prg_pages) w.state
    pages picture = ap (λ (x : State). x.board.chr_pages) w.state
