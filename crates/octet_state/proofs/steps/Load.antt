-- A load of a state keeps the state sound.
use Rattle.std.proofs.Common.{◌≡◌, ◌≢◌, ℕ, ◌+◌, ◌<◌, ◌≤◌, ◌⊎◌, inl, inr, Bool, true, false, ◌||◌, IsTrue, [], length, Option, Some, None, sym, refl, ap, ◌∙◌, subst, arith, get_or-set_same, get_or-set_other}
use Rattle.std.specs.Prelude.{IsFalse, ◌==◌, nat_le, if◌then◌else◌}
use Rattle.std.proofs.lemmas.Bool.{cases_eq, eqb-true, eq-eqb, ne_eqb, leb-true}
use Rattle.octet_model.specs.Machine.{Journals, journal_of}
use Rattle.octet_model.specs.Journals.{access_count}
use Rattle.octet_model.specs.Frugal.{marks_at_end}
use Rattle.octet_model.proofs.lemmas.Pasts.{past_grows, past_is_closed}
use Rattle.octet_state.specs.declared.state_word.StateWord.{StateWord}
use Rattle.octet_state.specs.declared.state_word.StateWord.TheVariants.{WrEx, RdEx, RdSh, WrInt, RdInt, ShInt}
use Rattle.octet_state.specs.declared.act.Mode.{Mode}
use Rattle.octet_state.specs.declared.act.Mode.TheVariants.{Read}
use Rattle.octet_state.specs.declared.act.Whom.TheVariants.{One}
use Rattle.octet_state.specs.declared.act.Act.{Act}
use Rattle.octet_state.specs.declared.act.Act.TheVariants.{Pass, Fence, Raise, Share, Take}
use Rattle.octet_state.specs.declared.phase.Phase.{Phase}
use Rattle.octet_state.specs.declared.phase.Phase.TheVariants.{Idle, Want, Pass, FenceDue}
use Rattle.octet_state.specs.declared.phase.Due.{Due}
use Rattle.octet_state.specs.declared.phase.Due.TheVariants.{Nothing, Glance}
use Rattle.octet_state.specs.Words.{FitsStateWord}
use Rattle.octet_state.specs.Table.{decided}
use Rattle.octet_state.specs.State.{Thread, ProtocolState, thread_of, state_of, now, unstarted}
use Rattle.octet_state.specs.Steps.{ToLoad, moved, loaded, proceeded, most_accesses}
use Rattle.octet_state.specs.Form.{is_nothing, is_exchange, HoldsPhase}
use Rattle.octet_state.specs.Positions.{is_resting, PriorNamesThread, access_to_come, HasMarksAtEnd}
use Rattle.octet_state.specs.Passing.{lets_pass, may_pass, passes}
use Rattle.octet_state.specs.Handover.{ClaimHandsOver}
use Rattle.octet_state.specs.Pasts.{KnowsAccesses, KnowsWrites, StateKnows, PhaseKnows}
use Rattle.octet_state.specs.FrugalShape.{has_access, marks_for, fences_for, is_on, touches, IsUntouched, AsksThreadZero, IsPrivateState, IsPrivateShape, HasFrugalShape, AreFrugalAtEnd}
use Rattle.octet_state.specs.Soundness.{IsSound}
use Rattle.octet_state.specs.Laws.{Stands, LoadIsLawful}
use Rattle.octet_state.proofs.lemmas.Packing.{state_in_back}
use Rattle.octet_state.proofs.frames.SeenByOthers.{busy, LooksAlike, asks_zero}
use Rattle.octet_state.proofs.frames.ThreadChange.{StandsWell, frugal_shape, moves_soundly}
use Rattle.octet_state.proofs.lemmas.Widths.{state_fits}
use Rattle.octet_state.proofs.lemmas.Accesses.{no_access_at}
use Rattle.octet_state.proofs.frames.WordOfStep.{does_at}
use Rattle.octet_state.proofs.parts.FrugalShape.{private_state_on, shape_with}

-- a thread that is about to load
pub record IsReady (s : ProtocolState) (t : ℕ) : Type 0 where
  pub idle : busy (thread_of s t).phase ≡ Idle
  pub runs : is_resting (thread_of s t).phase ≡ false
  pub room : access_count (journal_of s.journals t) + 1 ≤ most_accesses
  pub bare : marks_at_end (journal_of s.journals t) ≡ []
  pub marks_none : (o : ℕ) → marks_for (thread_of s t).phase o ≡ false
  pub fences_none : (o : ℕ) → fences_for (thread_of s t).phase o ≡ false

pub ready : (s : ProtocolState) (t object : ℕ) (mode : Mode) → IsSound s → (Stands s t Idle × (access_count (journal_of s.journals t) < most_accesses)) ⊎ ((seen : Option StateWord) × Stands s t (Want object mode seen)) → IsReady s t
ready s t object mode sound (inl h) = let is = h.0.1 in record {
  idle = ap busy is;
  runs = ap is_resting is;
  room = let a = h.1 in omega arith;
  bare = subst (λ (p : Phase). HasMarksAtEnd p (marks_at_end (journal_of s.journals t))) is (sound.positions.at_end t);
  marks_none = λ o. ap (λ (p : Phase). marks_for p o) is;
  fences_none = λ o. ap (λ (p : Phase). fences_for p o) is;
}
ready s t object mode sound (inr h) = let is = h.1.1 in record {
  idle = ap busy is;
  runs = ap is_resting is;
  room = subst (λ (p : Phase). access_count (journal_of s.journals t) + access_to_come p ≤ most_accesses) is (sound.positions.accesses t);
  bare = subst (λ (p : Phase). HasMarksAtEnd p (marks_at_end (journal_of s.journals t))) is (sound.positions.at_end t);
  marks_none = λ o. ap (λ (p : Phase). marks_for p o) is;
  fences_none = λ o. ap (λ (p : Phase). fences_for p o) is;
}

-- a write is an access
pub knows_its_writes : (js : Journals) (object u k : ℕ) → KnowsAccesses js object u k → KnowsWrites js object u k
knows_its_writes js object u k knows place write = knows place (write.0, write.1, write.2)

-- who knows all accesses may pass to each kind of access
pub knows_to_pass : (s : ProtocolState) (object u : ℕ) (mode : Mode) → KnowsAccesses s.journals object u (now s u) → PhaseKnows s.journals s.counter u (Pass object mode)
knows_to_pass s object u Read knows = knows_its_writes s.journals object u (now s u) knows
knows_to_pass s object u _ knows = knows

module _ (s : ProtocolState) (t object : ℕ) (mode : Mode) (inside : t < length s.threads) (sound : IsSound s) (there : object < length s.cells) (is_ready : IsReady s t) where
  -- to a phase in which it wants the object, and may hold a state to be exchanged
  pub wants_soundly : (seen : Option StateWord) (due : Due) → HoldsPhase (length s.threads) (length s.cells) t (thread_of s t).count (Want object mode seen) → IsSound (proceeded s t (moved (Want object mode seen) due (thread_of s t)) None)
  wants_soundly seen due holds =
      let x : Thread = moved (Want object mode seen) due (thread_of s t) in
      let alike : LooksAlike x (thread_of s t) = record { busy_same = sym is_ready.idle } in
      let well : StandsWell s t x = record {
        dues = any_due due;
        phases = holds;
        prior_named = tt;
        accesses = is_ready.room;
        at_end = is_ready.bare;
        passing = refl;
        knows = tt;
        counts = sound.pasts.counts t;
        draws = sound.pasts.draws t;
        handover = tt;
      } in
      moves_soundly s t x inside sound alike (sym is_ready.runs) well (frugal_shape s t x inside sound alike record { marks_same = λ o. sym (is_ready.marks_none o); fences_same = λ o. sym (is_ready.fences_none o) })
    where
      any_due : (d : Due) → IsTrue (is_nothing d || true)
      any_due d = or_true (is_nothing d)
        where
          or_true : (b : Bool) → (b || true) ≡ true
          or_true true = refl
          or_true false = refl

  -- to a phase that is on the object
  module _ (p : Phase) (idle_too : busy p ≡ Idle) (runs_too : is_resting p ≡ false) (on_it : is_on p object ≡ true) (nothing_else : (o : ℕ) → o ≢ object → (marks_for p o ≡ false) × (fences_for p o ≡ false))
      (first : state_of s object ≡ WrEx 0 → (0 ≡ t) × (fences_for p object ≡ false)) (no_fence : IsPrivateState s.journals s.threads object t (state_of s object) → fences_for p object ≡ false) where
    abbrev entered : Thread
    entered = moved p Nothing (thread_of s t)

    abbrev next : ProtocolState
    next = proceeded s t entered None

    entered_alike : LooksAlike entered (thread_of s t)
    entered_alike = record { busy_same = idle_too ∙ sym is_ready.idle }

    here : (P : Thread → Type 0) → P entered → P (thread_of next t)
    here P h = subst P (sym (get_or-set_same s.threads t entered unstarted inside)) h

    -- off the object the thread touches what it did
    other_same : (o u : ℕ) → u ≢ t → touches next.journals next.threads o u ≡ touches s.journals s.threads o u
    other_same o u differ = ap (λ (y : Thread). has_access (journal_of s.journals u) o || is_on y.phase o) (get_or-set_other s.threads t u entered unstarted differ)

    mine_there : (o : ℕ) → o ≢ object → touches next.journals next.threads o t ≡ touches s.journals s.threads o t
    mine_there o differ = here (λ y. (has_access (journal_of s.journals t) o || is_on y.phase o) ≡ touches s.journals s.threads o t)
        (let none = nothing_else o differ in (λ i. has_access (journal_of s.journals t) o || (none.0 i || none.1 i)) ∙ (λ i. has_access (journal_of s.journals t) o || (sym (is_ready.marks_none o) i || sym (is_ready.fences_none o) i)))

    pub mine_here : touches next.journals next.threads object t ≡ true
    mine_here = here (λ y. (has_access (journal_of s.journals t) object || is_on y.phase object) ≡ true) (or_true (has_access (journal_of s.journals t) object) (is_on p object) on_it)
      where
        or_true : (a b : Bool) → b ≡ true → (a || b) ≡ true
        or_true true b h = refl
        or_true false b h = h

    there_same : (o u : ℕ) → o ≢ object → touches next.journals next.threads o u ≡ touches s.journals s.threads o u
    there_same o u differ = elim (cases_eq u t) [
      | inl same ↦ subst (λ (v : ℕ). touches next.journals next.threads o v ≡ touches s.journals s.threads o v) (sym same) (mine_there o differ)
      | inr apart ↦ other_same o u apart
    ]

    asks_same : (o u : ℕ) → AsksThreadZero (thread_of s u).phase → AsksThreadZero (thread_of next u).phase
    asks_same o u h = asks_zero s t entered inside None entered_alike u h

    private_same : (o u : ℕ) → IsPrivateState s.journals s.threads o u (state_of s o) → IsPrivateState next.journals next.threads o u (state_of s o)
    private_same o u = private_state_on s.journals s.journals s.threads next.threads o u (state_of s o) (λ by h. (asks_same o u h.0, h.1, h.2))

    fences_there : (o u : ℕ) → o ≢ object → IsFalse (fences_for (thread_of s u).phase o) → IsFalse (fences_for (thread_of next u).phase o)
    fences_there o u differ h = elim (cases_eq u t) [
      | inl same ↦ subst (λ (v : ℕ). IsFalse (fences_for (thread_of next v).phase o)) (sym same) (here (λ y. IsFalse (fences_for y.phase o)) (nothing_else o differ).1)
      | inr apart ↦ subst (λ (y : Thread). IsFalse (fences_for y.phase o)) (sym (get_or-set_other s.threads t u entered unstarted apart)) h
    ]

    to_come_there : (o u : ℕ) → o ≢ object → IsPrivateShape s.journals s.states s.threads o u → IsTrue (marks_for (thread_of next u).phase o) → AreFrugalAtEnd s.journals o u
    to_come_there o u differ old marks = elim (cases_eq u t) [
      | inl same ↦ inl (subst (λ (v : ℕ). marks_at_end (journal_of s.journals v) ≡ []) (sym same) is_ready.bare)
      | inr apart ↦ old.to_come (subst (λ (y : Thread). IsTrue (marks_for y.phase o)) (get_or-set_other s.threads t u entered unstarted apart) marks)
    ]

    shape_there : (o u : ℕ) → o ≢ object → IsPrivateShape s.journals s.states s.threads o u → IsPrivateShape next.journals next.states next.threads o u
    shape_there o u differ old = record {
      state = private_same o u old.state;
      no_fence = fences_there o u differ old.no_fence;
      before = old.before;
      to_come = to_come_there o u differ old;
    }

    -- the object itself, which the thread alone touches
    shape_here : (b : Bool) → touches s.journals s.threads object t ≡ b → ((other : ℕ) → IsTrue (touches next.journals next.threads object other) → other ≡ t) → IsPrivateShape next.journals next.states next.threads object t
    shape_here true was alone =
        let old = sound.frugal.private object t (was, λ v h. elim (cases_eq v t) [ inl same ↦ same | inr apart ↦ alone v (other_same object v apart ∙ h) ]) in record {
          state = private_same object t old.state;
          no_fence = here (λ y. IsFalse (fences_for y.phase object)) (no_fence old.state);
          before = old.before;
          to_come = λ marks. inl is_ready.bare;
        }
    shape_here false was alone =
        let none : IsUntouched s.journals s.threads object = λ v. elim (cases_eq v t) [
          | inl same ↦ subst (λ (w : ℕ). touches s.journals s.threads object w ≡ false) (sym same) was
          | inr apart ↦ not_touched (touches s.journals s.threads object v) (λ h. apart (alone v (other_same object v apart ∙ h)))
        ] in
        let fresh : state_of s object ≡ WrEx 0 = sound.frugal.untouched object none in record {
          state = subst (IsPrivateState next.journals next.threads object t) (sym fresh) (first fresh).0;
          no_fence = here (λ y. IsFalse (fences_for y.phase object)) (first fresh).1;
          before = λ place access. absurd (no_access_at (journal_of s.journals place.thread) place.event object access.0 (or_first (has_access (journal_of s.journals place.thread) object) (is_on (thread_of s place.thread).phase object) (none place.thread)) access.1 access.2);
          to_come = λ marks. inl is_ready.bare;
        }
      where
        not_touched : (b : Bool) → (b ≡ true → ⊥) → b ≡ false
        not_touched true h = absurd (h refl)
        not_touched false h = refl

        or_first : (a b : Bool) → (a || b) ≡ false → a ≡ false
        or_first true b h = absurd cc
        or_first false b h = refl

    pub enters_shape : HasFrugalShape next
    enters_shape = shape_with s.journals s.journals s.threads next.threads s.states s.states object t mine_here there_same (λ o differ. refl) shape_there (shape_here (touches s.journals s.threads object t) refl) sound.frugal

    pub enters_soundly : HoldsPhase (length s.threads) (length s.cells) t (thread_of s t).count p → PriorNamesThread (length s.threads) p → access_to_come p ≡ 1 → HasMarksAtEnd p [] → IsTrue (passes s.statuses s.states s.threads t p) → PhaseKnows s.journals s.counter t p → ClaimHandsOver s.journals s.statuses t p
        → IsSound (proceeded s t (moved p Nothing (thread_of s t)) None)
    enters_soundly holds named one ends passing knows handover = moves_soundly s t entered inside sound entered_alike (runs_too ∙ sym is_ready.runs) record {
      dues = refl;
      phases = holds;
      prior_named = named;
      accesses = subst (λ (n : ℕ). access_count (journal_of s.journals t) + n ≤ most_accesses) (sym one) is_ready.room;
      at_end = subst (HasMarksAtEnd p) (sym is_ready.bare) ends;
      passing = passing;
      knows = knows;
      counts = sound.pasts.counts t;
      draws = sound.pasts.draws t;
      handover = handover;
    } enters_shape

  -- to its access
  passes_soundly : lets_pass mode t (state_of s object) ≡ true → IsTrue (may_pass s.statuses s.threads mode t object (state_of s object)) → PhaseKnows s.journals s.counter t (Pass object mode) → (state_of s object ≡ WrEx 0 → 0 ≡ t)
      → IsSound (proceeded s t (moved (Pass object mode) Nothing (thread_of s t)) None)
  passes_soundly lets may knows first = enters_soundly (Pass object mode) refl refl (own (object == object) (eq-eqb object object refl))
      (λ o differ. (ne_eqb object o (λ same. differ (sym same)), refl)) (λ fresh. (first fresh, refl)) (λ private. refl)
      there tt refl (omega arith, omega arith) may knows tt
    where
      own : (b : Bool) → b ≡ true → (b || false) ≡ true
      own true h = refl
      own false h = absurd cc

module _ (s : ProtocolState) (t object : ℕ) (inside : t < length s.threads) (sound : IsSound s) (there : object < length s.cells) (is_ready : IsReady s t) where
  abbrev goes : Mode → Act → StateWord → Type 0
  goes mode act w = IsSound (proceeded s t (loaded act object mode w (thread_of s t)) None)

  held : (mode : Mode) → IsSound (proceeded s t (moved (Want object mode None) Glance (thread_of s t)) None)
  held mode = wants_soundly s t object mode inside sound there is_ready None Glance there

  takes : (mode : Mode) (w : StateWord) → FitsStateWord w → IsTrue (is_exchange (decided w t mode (thread_of s t).count)) → IsSound (proceeded s t (moved (Want object mode (Some w)) Nothing (thread_of s t)) None)
  takes mode w fits exchange = wants_soundly s t object mode inside sound there is_ready (Some w) Nothing (there, fits, exchange)

  own_write : (mode : Mode) (owner : ℕ) (b : Bool) → (owner == t) ≡ b → state_of s object ≡ WrEx owner → FitsStateWord (WrEx owner) → StateKnows s.journals s.counter object (WrEx owner)
      → goes mode (if b then Pass else Take (One owner)) (WrEx owner)
  own_write mode owner true e is fits knows =
      let same : owner ≡ t = eqb-true owner t e in
      passes_soundly s t object mode inside sound there is_ready (subst (λ (w : StateWord). lets_pass mode t w ≡ true) (sym is) (lets mode)) (subst (λ (w : StateWord). IsTrue (may_pass s.statuses s.threads mode t object w)) (sym is) (lets mode))
      (knows_to_pass s object t mode (subst (λ (u : ℕ). KnowsAccesses s.journals object u (now s u)) same knows)) (λ fresh. let both : WrEx owner ≡ WrEx 0 = sym is ∙ fresh in let zero : owner ≡ 0 = cc in sym zero ∙ same)
    where
      lets : (m : Mode) → lets_pass m t (WrEx owner) ≡ true
      lets Read = e
      lets _ = e
  own_write mode owner false e is fits knows = takes mode (WrEx owner) fits (exchange mode)
    where
      exchange : (m : Mode) → IsTrue (is_exchange (decided (WrEx owner) t m (thread_of s t).count))
      exchange m = ap (λ (b : Bool). is_exchange (if b then Pass else Take (One owner))) e

  own_read : (owner upto : ℕ) (b : Bool) → (owner == t) ≡ b → state_of s object ≡ RdEx owner upto → FitsStateWord (RdEx owner upto) → StateKnows s.journals s.counter object (RdEx owner upto)
      → goes Read (if b then Pass else Share owner upto) (RdEx owner upto)
  own_read owner upto true e is fits knows =
      let same : owner ≡ t = eqb-true owner t e in
      passes_soundly s t object Read inside sound there is_ready (subst (λ (w : StateWord). lets_pass Read t w ≡ true) (sym is) e) (subst (λ (w : StateWord). IsTrue (may_pass s.statuses s.threads Read t object w)) (sym is) e)
      (λ place write. past_grows s.journals t upto (now s t) place (subst (λ (u : ℕ). upto ≤ now s u) same knows.0) (subst (λ (u : ℕ). KnowsWrites s.journals object u upto) same knows.1 place write))
      (λ fresh. absurd (let both : RdEx owner upto ≡ WrEx 0 = sym is ∙ fresh in cc))
  own_read owner upto false e is fits knows = takes Read (RdEx owner upto) fits (ap (λ (b : Bool). is_exchange (if b then Pass else Share owner upto)) e)

  raises : (mode : Mode) (owner upto : ℕ) (b : Bool) → FitsStateWord (RdEx owner upto) → IsTrue (is_exchange (decided (RdEx owner upto) t mode (thread_of s t).count)) → goes mode (if b then Raise else Take (One owner)) (RdEx owner upto)
  raises mode owner upto true fits exchange = takes mode (RdEx owner upto) fits exchange
  raises mode owner upto false fits exchange = takes mode (RdEx owner upto) fits exchange

  exchanges : (owner : ℕ) (b : Bool) → IsTrue (is_exchange (if b then Raise else Take (One owner)))
  exchanges owner true = refl
  exchanges owner false = refl

  shared : (number : ℕ) (b : Bool) → nat_le number (thread_of s t).count ≡ b → state_of s object ≡ RdSh number → StateKnows s.journals s.counter object (RdSh number) → goes Read (if b then Pass else Fence) (RdSh number)
  shared number true e is knows =
      passes_soundly s t object Read inside sound there is_ready (subst (λ (w : StateWord). lets_pass Read t w ≡ true) (sym is) refl) (subst (λ (w : StateWord). IsTrue (may_pass s.statuses s.threads Read t object w)) (sym is) refl)
      (λ place write. past_is_closed s.journals t (now s t) place knows.2.0 (knows.2.1.knows place write) (sound.pasts.draws t knows.2.0 number knows.2.1.is_draw (leb-true number (thread_of s t).count e)))
      (λ fresh. absurd (let both : RdSh number ≡ WrEx 0 = sym is ∙ fresh in cc))
  shared number false e is knows =
      enters_soundly s t object Read inside sound there is_ready (FenceDue object number) refl refl (eq-eqb object object refl) (λ o differ. (refl, ne_eqb object o (λ same. differ (sym same))))
      (λ fresh. absurd (let both : RdSh number ≡ WrEx 0 = sym is ∙ fresh in cc)) (λ private. absurd (subst (IsPrivateState s.journals s.threads object t) is private))
      there tt refl refl (subst (λ (w : StateWord). IsTrue (may_pass s.statuses s.threads Read t object w)) (sym is) refl) knows tt

  pub by_state : (mode : Mode) (w : StateWord) → state_of s object ≡ w → FitsStateWord w → StateKnows s.journals s.counter object w → IsSound (proceeded s t (loaded (decided w t mode (thread_of s t).count) object mode w (thread_of s t)) None)
  by_state mode (WrEx owner) is fits knows = own_write mode owner (owner == t) refl is fits knows
  by_state Read (RdEx owner upto) is fits knows = own_read owner upto (owner == t) refl is fits knows
  by_state mode (RdEx owner upto) is fits knows = raises mode owner upto (owner == t) fits (exchanges owner (owner == t))
  by_state Read (RdSh number) is fits knows = shared number (nat_le number (thread_of s t).count) refl is knows
  by_state mode (RdSh number) is fits knows = takes mode (RdSh number) fits refl
  by_state mode (WrInt by) is fits knows = held mode
  by_state mode (RdInt by) is fits knows = held mode
  by_state mode (ShInt by) is fits knows = held mode

pub load_is_lawful : LoadIsLawful
load_is_lawful s t place object mode sound inside there from at =
    let fits = state_fits s object sound in record {
      may = (due_of from, there, may_from from);
      sound = subst (λ (w : StateWord). IsSound (proceeded s t (loaded (decided w t mode (thread_of s t).count) object mode w (thread_of s t)) None)) (sym (state_in_back (state_of s object) fits))
          (by_state s t object inside sound there (ready s t object mode sound from) mode (state_of s object) refl fits (sound.pasts.states object));
      does = does_at s sound.form t inside (ToLoad object mode) place (λ word. word) there at refl;
    }
  where
    due_of : (Stands s t Idle × (access_count (journal_of s.journals t) < most_accesses)) ⊎ ((seen : Option StateWord) × Stands s t (Want object mode seen)) → (thread_of s t).due ≡ Nothing
    due_of (inl h) = h.0.0
    due_of (inr h) = h.1.0

    may_from : (Stands s t Idle × (access_count (journal_of s.journals t) < most_accesses)) ⊎ ((seen : Option StateWord) × Stands s t (Want object mode seen))
        → (((thread_of s t).phase ≡ Idle) × (access_count (journal_of s.journals t) < most_accesses)) ⊎ ((seen : Option StateWord) × ((thread_of s t).phase ≡ Want object mode seen))
    may_from (inl h) = inl (h.0.1, h.1)
    may_from (inr h) = inr (h.0, h.1.1)
