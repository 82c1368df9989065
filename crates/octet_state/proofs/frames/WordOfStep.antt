-- What each kind of step does to its word.
use Rattle.std.proofs.Common.{◌≡◌, ℕ, suc, ◌<◌, Bool, true, false, length, get_or, set, sym, refl, ap, ◌∙◌, arith}
use Rattle.std.proofs.lemmas.List.{set-get_or}
use prog.Atomic.{either}
use Rattle.octet_model.specs.Thread.{added}
use Rattle.octet_state.specs.declared.state_word.StateWord.{StateWord}
use Rattle.octet_state.specs.declared.state_word.StateWord.TheVariants.{WrEx, ShInt}
use Rattle.octet_state.specs.Words.{packed_state, packed_status}
use Rattle.octet_state.specs.State.{ProtocolState, thread_of, status_of, state_of, now, words, counter_place, status_place, state_place, cell_place}
use Rattle.octet_state.specs.Steps.{Kind, ToGlance, ToAnswer, ToBlock, ToUnblock, ToAsk, ToLook, ToLoad, ToRead, ToWrite, ToBump, ToClaim, ToSettle, ToDraw, ToFence, ToRaise, ToShare, shown, asked_by, settling, claiming, mode_of, target, wins, found, with_state, exchanged, step}
use Rattle.octet_state.specs.Form.{HasForm}
use Rattle.octet_state.specs.Laws.{Does}
use Rattle.octet_state.proofs.lemmas.Places.{get_status, set_status, get_state, set_state, get_cell, set_cell}
use Rattle.octet_state.proofs.frames.AnyStep.{act_keeps, stepped_thread, other_thread, as_many_threads, stepped_journal, journal_of_other}

-- the thread or the object that a step names is there
abbrev pub IsThere : Kind → ℕ → ProtocolState → Type 0
IsThere (ToAsk whom) t s = whom < length s.threads
IsThere (ToLook whom) t s = whom < length s.threads
IsThere (ToLoad object mode) t s = object < length s.cells
IsThere ToClaim t s = target (thread_of s t).phase < length s.cells
IsThere ToSettle t s = target (thread_of s t).phase < length s.cells
IsThere ToRaise t s = target (thread_of s t).phase < length s.cells
IsThere ToShare t s = target (thread_of s t).phase < length s.cells
IsThere _ t s = Unit {0}

-- the place of the word that the step reads or changes
abbrev place_of : Kind → ℕ → ProtocolState → ℕ
place_of (ToAsk whom) t s = status_place whom
place_of (ToLook whom) t s = status_place whom
place_of (ToLoad object mode) t s = state_place s object
place_of ToRead t s = cell_place s (target (thread_of s t).phase)
place_of (ToWrite value) t s = cell_place s (target (thread_of s t).phase)
place_of (ToBump amount) t s = cell_place s (target (thread_of s t).phase)
place_of ToClaim t s = state_place s (target (thread_of s t).phase)
place_of ToSettle t s = state_place s (target (thread_of s t).phase)
place_of ToDraw t s = counter_place
place_of ToFence t s = counter_place
place_of ToRaise t s = state_place s (target (thread_of s t).phase)
place_of ToShare t s = state_place s (target (thread_of s t).phase)
place_of _ t s = status_place t

-- the word that an exchange leaves
abbrev pub left_by_exchange : Bool → StateWord → StateWord → ℕ
left_by_exchange won new old = either won (packed_state new) (packed_state old)

-- the word that a step leaves
abbrev pub left : Kind → ℕ → ProtocolState → ℕ
left ToAnswer t s = packed_status (shown false (now s t))
left (ToBlock ends) t s = packed_status (shown true (now s t))
left ToUnblock t s = packed_status (shown false (now s t))
left (ToAsk whom) t s = packed_status (asked_by t (status_of s whom))
left (ToWrite value) t s = value
left (ToBump amount) t s = added amount (found (ToBump amount) t s)
left ToClaim t s = left_by_exchange (wins (found ToClaim t s) (thread_of s t).phase) (claiming t (mode_of (thread_of s t).phase)) (state_of s (target (thread_of s t).phase))
left ToSettle t s = packed_state (settling t (now s t) (thread_of s t).phase)
left ToDraw t s = suc s.counter
left ToRaise t s = left_by_exchange (wins (found ToRaise t s) (thread_of s t).phase) (WrEx t) (state_of s (target (thread_of s t).phase))
left ToShare t s = left_by_exchange (wins (found ToShare t s) (thread_of s t).phase) (ShInt t) (state_of s (target (thread_of s t).phase))
left k t s = found k t s

module _ (s : ProtocolState) (form : HasForm s) (t : ℕ) (inside : t < length s.threads) where
  pub finds_at : (k : Kind) → IsThere k t s → get_or (words s) (place_of k t s) 0 ≡ found k t s
  finds_at ToGlance there = get_status s form.statuses t inside
  finds_at ToAnswer there = get_status s form.statuses t inside
  finds_at (ToBlock ends) there = get_status s form.statuses t inside
  finds_at ToUnblock there = get_status s form.statuses t inside
  finds_at (ToAsk whom) there = get_status s form.statuses whom there
  finds_at (ToLook whom) there = get_status s form.statuses whom there
  finds_at (ToLoad object mode) there = get_state s form.statuses form.states object there
  finds_at ToRead there = get_cell s form.statuses form.states (target (thread_of s t).phase)
  finds_at (ToWrite value) there = get_cell s form.statuses form.states (target (thread_of s t).phase)
  finds_at (ToBump amount) there = get_cell s form.statuses form.states (target (thread_of s t).phase)
  finds_at ToClaim there = get_state s form.statuses form.states (target (thread_of s t).phase) there
  finds_at ToSettle there = get_state s form.statuses form.states (target (thread_of s t).phase) there
  finds_at ToDraw there = refl
  finds_at ToFence there = refl
  finds_at ToRaise there = get_state s form.statuses form.states (target (thread_of s t).phase) there
  finds_at ToShare there = get_state s form.statuses form.states (target (thread_of s t).phase) there

  -- a load leaves all words
  loads : (k : Kind) → IsThere k t s → set (words s) (place_of k t s) (found k t s) ≡ words s
  loads k there = ap (set (words s) (place_of k t s)) (sym (finds_at k there)) ∙ set-get_or (words s) (place_of k t s) 0

  exchanges : (won : Bool) (object : ℕ) (new : StateWord) → object < length s.cells → (place : ℕ) → set (words s) place (packed_state (state_of s object)) ≡ words s
      → set (words s) place (packed_state new) ≡ words (with_state s object new)
      → set (words s) place (left_by_exchange won new (state_of s object)) ≡ words (exchanged won s object new)
  exchanges true object new there place same other = other
  exchanges false object new there place same other = same

  pub leaves_at : (k : Kind) → IsThere k t s → set (words s) (place_of k t s) (left k t s) ≡ words (step k t s)
  leaves_at ToGlance there = loads ToGlance there
  leaves_at ToAnswer there = set_status s form.statuses t (shown false (now s t)) inside
  leaves_at (ToBlock ends) there = set_status s form.statuses t (shown true (now s t)) inside
  leaves_at ToUnblock there = set_status s form.statuses t (shown false (now s t)) inside
  leaves_at (ToAsk whom) there = set_status s form.statuses whom (asked_by t (status_of s whom)) there
  leaves_at (ToLook whom) there = loads (ToLook whom) there
  leaves_at (ToLoad object mode) there = loads (ToLoad object mode) there
  leaves_at ToRead there = loads ToRead there
  leaves_at (ToWrite value) there = set_cell s form.statuses form.states (target (thread_of s t).phase) value
  leaves_at (ToBump amount) there = set_cell s form.statuses form.states (target (thread_of s t).phase) (added amount (found (ToBump amount) t s))
  leaves_at ToClaim there = let o = target (thread_of s t).phase in let new = claiming t (mode_of (thread_of s t).phase) in
      exchanges (wins (found ToClaim t s) (thread_of s t).phase) o new there (place_of ToClaim t s) (loads ToClaim there) (set_state s form.statuses form.states o new there)
  leaves_at ToSettle there = set_state s form.statuses form.states (target (thread_of s t).phase) (settling t (now s t) (thread_of s t).phase) there
  leaves_at ToDraw there = refl
  leaves_at ToFence there = loads ToFence there
  leaves_at ToRaise there = let o = target (thread_of s t).phase in
      exchanges (wins (found ToRaise t s) (thread_of s t).phase) o (WrEx t) there (place_of ToRaise t s) (loads ToRaise there) (set_state s form.statuses form.states o (WrEx t) there)
  leaves_at ToShare there = let o = target (thread_of s t).phase in
      exchanges (wins (found ToShare t s) (thread_of s t).phase) o (ShInt t) there (place_of ToShare t s) (loads ToShare there) (set_state s form.statuses form.states o (ShInt t) there)

  -- a step by an operation that makes of the word found the word that the step leaves
  pub does_at : (k : Kind) (place : ℕ) (operation : ℕ → ℕ) → IsThere k t s → place ≡ place_of k t s → operation (found k t s) ≡ left k t s → Does k t place operation s
  does_at k place operation there is makes = let mine : t < length s.journals = let e = form.journals in omega arith in record {
    finds = ap (λ (n : ℕ). get_or (words s) n 0) is ∙ finds_at k there;
    leaves = ap (λ (n : ℕ). set (words s) n (operation (found k t s))) is ∙ (ap (set (words s) (place_of k t s)) makes ∙ leaves_at k there);
    mine = stepped_thread k t s inside;
    my_journal = stepped_journal k t s mine;
    others = other_thread k t s;
    their_journals = journal_of_other k t s;
    threads = as_many_threads k t s;
    cells = (act_keeps k t s).cells;
    starts = (act_keeps k t s).starts;
  }
