-- Each step of a run, by the law of its kind: on which word it acts, and what it finds there and leaves, as its thread knows them.
use Rattle.std.proofs.Common.{◌≡◌, ℕ, ◌+◌, ◌*◌, ◌%◌, ◌^◌, ◌<◌, inl, inr, Bool, true, false, List, [], length, Option, Some, None, sym, refl, ap, ◌∙◌, arith, eq-eqb}
use Rattle.std.specs.Prelude.{◌==◌, bit_or, if◌then◌else◌}
use prog.Atomic.{either}
use Rattle.octet_model.specs.declared.event.Event.{Event}
use Rattle.octet_model.specs.Thread.{added}
use Rattle.octet_model.specs.Machine.{journal_of}
use Rattle.octet_state.specs.declared.act.Mode.{Mode}
use Rattle.octet_state.specs.declared.act.Mode.TheVariants.{Read, Write, Update}
use Rattle.octet_state.specs.declared.phase.Phase.{Phase}
use Rattle.octet_state.specs.declared.phase.Phase.TheVariants.{Claimed, Sharing}
use Rattle.octet_state.specs.declared.state_word.StateWord.{StateWord}
use Rattle.octet_state.specs.declared.state_word.StateWord.TheVariants.{WrEx, RdSh, WrInt, RdInt, ShInt}
use Rattle.octet_state.specs.Words.{packed_state, packed_status}
use Rattle.octet_state.specs.Table.{is_changed_by}
use Rattle.octet_state.specs.State.{Thread, ProtocolState, thread_of, state_of, now, counter_place, status_place, state_place, cell_place}
use Rattle.octet_state.specs.Intermediate.{change_of, change_by}
use Rattle.octet_state.specs.NextStep.{word_seen}
use Rattle.octet_state.specs.Steps.{Kind, ToGlance, ToAnswer, ToBlock, ToUnblock, ToAsk, ToLook, ToLoad, ToRead, ToWrite, ToBump, ToClaim, ToSettle, ToDraw, ToFence, ToRaise, ToShare, May, found, told, target, mode_of, shown, claiming, owning, settling}
use Rattle.octet_state.specs.Soundness.{IsSound}
use Rattle.octet_state.specs.Laws.{IsLawful}
use Rattle.octet_state.proofs.lemmas.Laws.{glance_is_lawful, answer_is_lawful, block_is_lawful, unblock_is_lawful, ask_is_lawful, look_is_lawful, load_is_lawful, read_is_lawful, write_is_lawful, bump_is_lawful, claim_is_lawful, settle_of_claim_is_lawful, settle_of_share_is_lawful, draw_is_lawful, fence_is_lawful, raise_is_lawful, share_is_lawful}
use Rattle.octet_rule.specs.Views.{SeatView, new_view}
use Rattle.octet_rule.specs.Rule.{place_by, first_given, second_given}

-- what a thread knows of itself, one of so many
abbrev pub itself : ℕ → ℕ → Thread → List Event → SeatView
itself threads t x journal = record (new_view t threads [] 0) { thread = x; journal = journal }

abbrev pub in_state : ProtocolState → ℕ → SeatView
in_state s t = itself (length s.threads) t (thread_of s t) (journal_of s.journals t)

-- the intermediate state in which a thread has the object that it settles
abbrev pub changed_by : ℕ → Phase → StateWord
changed_by me (Sharing object drawn) = ShInt me
changed_by me phase = claiming me (mode_of phase)

-- the word that a step finds, where that is no cell, and the one that it leaves
abbrev pub found_in : Kind → ℕ → SeatView → ℕ
found_in ToSettle told v = packed_state (changed_by v.number v.thread.phase)
found_in _ told v = told

abbrev pub left_in : Kind → ℕ → SeatView → ℕ
left_in ToAnswer told v = first_given ToAnswer v
left_in (ToBlock ends) told v = first_given (ToBlock ends) v
left_in ToUnblock told v = first_given ToUnblock v
left_in ToSettle told v = first_given ToSettle v
left_in (ToAsk whom) told v = bit_or told (2 ^ v.number)
left_in ToClaim told v = either (told == first_given ToClaim v) (second_given ToClaim v) told
left_in ToRaise told v = either (told == first_given ToRaise v) (second_given ToRaise v) told
left_in ToShare told v = either (told == first_given ToShare v) (second_given ToShare v) told
left_in ToDraw told v = (told + 1) % 2 ^ 64
left_in _ told v = told

pub record IsLocal (k : Kind) (t : ℕ) (s : ProtocolState) : Type 0 where
  pub place : ℕ
  pub operation : ℕ → ℕ
  pub law : IsLawful k t place operation s
  pub at : place ≡ place_by k (in_state s t)
  pub finds : (i : ℕ) → 8 * i ≡ place → found k t s ≡ found_in k (told k t s) (in_state s t)
  pub leaves : (i : ℕ) → 8 * i ≡ place → operation (found k t s) ≡ left_in k (told k t s) (in_state s t)

-- an object in an intermediate state of a thread
is_changed : (state x : StateWord) (me : ℕ) → change_of state me ≡ Some x → state ≡ x
is_changed state x me e = by (is_changed_by state me) e
  where
    by : (b : Bool) → (if b then Some state else None) ≡ Some x → state ≡ x
    by true e = cc
    by false e = absurd cc

claim_changes : (t object : ℕ) (mode : Mode) (prior : StateWord) (done : ℕ) (asked : Bool) → change_by (Claimed object mode prior done asked) t object ≡ Some (claiming t mode)
claim_changes t object Read prior done asked = ap (λ (b : Bool). if b then Some (RdInt t) else None) (eq-eqb object object refl)
claim_changes t object Write prior done asked = ap (λ (b : Bool). if b then Some (WrInt t) else None) (eq-eqb object object refl)
claim_changes t object Update prior done asked = ap (λ (b : Bool). if b then Some (WrInt t) else None) (eq-eqb object object refl)

no_cell : (s : ProtocolState) (object i : ℕ) → 8 * i ≡ cell_place s object → ⊥
no_cell s object i e = omega arith

module _ (t : ℕ) (s : ProtocolState) (sound : IsSound s) (inside : t < length s.threads) where
  abbrev phase : Phase
  phase = (thread_of s t).phase

  held_by_claim : (object : ℕ) (mode : Mode) (prior : StateWord) (done : ℕ) (asked : Bool) → phase ≡ Claimed object mode prior done asked → found ToSettle t s ≡ packed_state (changed_by t phase)
  held_by_claim object mode prior done asked is = ap (λ (p : Phase). packed_state (state_of s (target p))) is
      ∙ (ap packed_state (is_changed (state_of s object) (claiming t mode) t (sound.intermediate t object ∙ (ap (λ (p : Phase). change_by p t object) is ∙ claim_changes t object mode prior done asked)))
      ∙ ap (λ (p : Phase). packed_state (changed_by t p)) (sym is))

  held_by_share : (object : ℕ) (drawn : Option ℕ) → phase ≡ Sharing object drawn → found ToSettle t s ≡ packed_state (changed_by t phase)
  held_by_share object drawn is = ap (λ (p : Phase). packed_state (state_of s (target p))) is
      ∙ (ap packed_state (is_changed (state_of s object) (ShInt t) t (sound.intermediate t object ∙ (ap (λ (p : Phase). change_by p t object) is ∙ ap (λ (b : Bool). if b then Some (ShInt t) else None) (eq-eqb object object refl))))
      ∙ ap (λ (p : Phase). packed_state (changed_by t p)) (sym is))

  pub is_local : (k : Kind) → May k t s → IsLocal k t s
  is_local ToGlance may = record { place = status_place t; operation = λ word. word; law = glance_is_lawful s t (status_place t) sound inside may.0 may.1 refl; at = refl; finds = λ i e. refl; leaves = λ i e. refl }
  is_local ToAnswer may = record {
    place = status_place t;
    operation = λ word. packed_status (shown false (now s t));
    law = answer_is_lawful s t (status_place t) (packed_status (shown false (now s t))) sound inside may refl refl;
    at = refl;
    finds = λ i e. refl;
    leaves = λ i e. refl;
  }
  is_local (ToBlock ends) may = record {
    place = status_place t;
    operation = λ word. packed_status (shown true (now s t));
    law = block_is_lawful s t (status_place t) (packed_status (shown true (now s t))) ends sound inside may refl refl;
    at = refl;
    finds = λ i e. refl;
    leaves = λ i e. refl;
  }
  is_local ToUnblock (due, inl off) = record {
    place = status_place t;
    operation = λ word. packed_status (shown false (now s t));
    law = unblock_is_lawful s t (status_place t) (packed_status (shown false (now s t))) sound inside (inl (due, off)) refl refl;
    at = refl;
    finds = λ i e. refl;
    leaves = λ i e. refl;
  }
  is_local ToUnblock (due, inr blocked) = record {
    place = status_place t;
    operation = λ word. packed_status (shown false (now s t));
    law = unblock_is_lawful s t (status_place t) (packed_status (shown false (now s t))) sound inside (inr (due, blocked)) refl refl;
    at = refl;
    finds = λ i e. refl;
    leaves = λ i e. refl;
  }
  is_local (ToAsk whom) (due, (object, mode, prior, done, is, more, next)) = record {
    place = status_place whom;
    operation = λ word. bit_or word (2 ^ t);
    law = ask_is_lawful s t (status_place whom) (2 ^ t) whom object mode prior done sound inside (due, is) more next refl refl;
    at = refl;
    finds = λ i e. refl;
    leaves = λ i e. refl;
  }
  is_local (ToLook whom) (due, (object, mode, prior, done, is, next)) = record {
    place = status_place whom;
    operation = λ word. word;
    law = look_is_lawful s t (status_place whom) whom object mode prior done sound inside (due, is) next refl;
    at = refl;
    finds = λ i e. refl;
    leaves = λ i e. refl;
  }
  is_local (ToLoad object mode) (due, there, inl (idle, few)) = record {
    place = state_place s object;
    operation = λ word. word;
    law = load_is_lawful s t (state_place s object) object mode sound inside there (inl ((due, idle), few)) refl;
    at = refl;
    finds = λ i e. refl;
    leaves = λ i e. refl;
  }
  is_local (ToLoad object mode) (due, there, inr (seen, wants)) = record {
    place = state_place s object;
    operation = λ word. word;
    law = load_is_lawful s t (state_place s object) object mode sound inside there (inr (seen, (due, wants))) refl;
    at = refl;
    finds = λ i e. refl;
    leaves = λ i e. refl;
  }
  is_local ToRead (due, (object, is)) = record {
    place = cell_place s object;
    operation = λ word. word;
    law = read_is_lawful s t (cell_place s object) object sound inside (due, is) refl;
    at = ap (λ (p : Phase). cell_place s (target p)) (sym is);
    finds = λ i e. refl;
    leaves = λ i e. refl;
  }
  is_local (ToWrite value) (due, (object, is)) = record {
    place = cell_place s object;
    operation = λ word. value;
    law = write_is_lawful s t (cell_place s object) object value sound inside (due, is) refl;
    at = ap (λ (p : Phase). cell_place s (target p)) (sym is);
    finds = λ i e. absurd (no_cell s object i e);
    leaves = λ i e. absurd (no_cell s object i e);
  }
  is_local (ToBump amount) (due, (object, is)) = record {
    place = cell_place s object;
    operation = added amount;
    law = bump_is_lawful s t (cell_place s object) object amount sound inside (due, is) refl;
    at = ap (λ (p : Phase). cell_place s (target p)) (sym is);
    finds = λ i e. refl;
    leaves = λ i e. absurd (no_cell s object i e);
  }
  is_local ToClaim (due, (object, mode, seen, whom, is, takes)) = record {
    place = state_place s object;
    operation = λ word. either (word == packed_state seen) (packed_state (claiming t mode)) word;
    law = claim_is_lawful s t (state_place s object) (packed_state seen) (packed_state (claiming t mode)) object mode seen whom sound inside (due, is) takes refl refl refl;
    at = ap (λ (p : Phase). state_place s (target p)) (sym is);
    finds = λ i e. refl;
    leaves = λ i e. ap (λ (p : Phase). either (found ToClaim t s == word_seen p) (packed_state (claiming t (mode_of p))) (found ToClaim t s)) (sym is);
  }
  is_local ToSettle (due, inl (object, mode, prior, asked, is)) = record {
    place = state_place s object;
    operation = λ word. packed_state (owning t (now s t) mode);
    law = settle_of_claim_is_lawful s t (state_place s object) (packed_state (owning t (now s t) mode)) object mode prior asked sound inside (due, is) refl refl;
    at = ap (λ (p : Phase). state_place s (target p)) (sym is);
    finds = λ i e. held_by_claim object mode prior _ asked is;
    leaves = λ i e. ap (λ (p : Phase). packed_state (settling t (now s t) p)) (sym is);
  }
  is_local ToSettle (due, inr (object, number, is)) = record {
    place = state_place s object;
    operation = λ word. packed_state (RdSh number);
    law = settle_of_share_is_lawful s t (state_place s object) (packed_state (RdSh number)) object number sound inside (due, is) refl refl;
    at = ap (λ (p : Phase). state_place s (target p)) (sym is);
    finds = λ i e. held_by_share object (Some number) is;
    leaves = λ i e. ap (λ (p : Phase). packed_state (settling t (now s t) p)) (sym is);
  }
  is_local ToDraw (due, (object, is)) = record {
    place = counter_place;
    operation = λ word. (word + 1) % 2 ^ 64;
    law = draw_is_lawful s t counter_place object sound inside (due, is) refl;
    at = refl;
    finds = λ i e. refl;
    leaves = λ i e. refl;
  }
  is_local ToFence (due, (object, number, is)) = record {
    place = counter_place;
    operation = λ word. word;
    law = fence_is_lawful s t counter_place object number sound inside (due, is) refl;
    at = refl;
    finds = λ i e. refl;
    leaves = λ i e. refl;
  }
  is_local ToRaise (due, (object, mode, seen, is, raises)) = record {
    place = state_place s object;
    operation = λ word. either (word == packed_state seen) (packed_state (WrEx t)) word;
    law = raise_is_lawful s t (state_place s object) (packed_state seen) (packed_state (WrEx t)) object mode seen sound inside (due, is) raises refl refl refl;
    at = ap (λ (p : Phase). state_place s (target p)) (sym is);
    finds = λ i e. refl;
    leaves = λ i e. ap (λ (p : Phase). either (found ToRaise t s == word_seen p) (packed_state (WrEx t)) (found ToRaise t s)) (sym is);
  }
  is_local ToShare (due, (object, mode, seen, from, upto, is, shares)) = record {
    place = state_place s object;
    operation = λ word. either (word == packed_state seen) (packed_state (ShInt t)) word;
    law = share_is_lawful s t (state_place s object) (packed_state seen) (packed_state (ShInt t)) object mode seen from upto sound inside (due, is) shares refl refl refl;
    at = ap (λ (p : Phase). state_place s (target p)) (sym is);
    finds = λ i e. refl;
    leaves = λ i e. ap (λ (p : Phase). either (found ToShare t s == word_seen p) (packed_state (ShInt t)) (found ToShare t s)) (sym is);
  }
