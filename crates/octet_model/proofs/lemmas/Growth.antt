-- A run that makes one more event, and a run that is at its end.
use Rattle.std.proofs.Common.{◌≡◌, ℕ, ◌<◌, ◌⊎◌, inl, inr, List, [], ◌∷◌, ◌++◌, length, Option, Some, None, IsTrue, slice_get, refl, sym, ap, ◌∙◌, subst, arith, append-nil}
use Rattle.std.proofs.Math.Bool.{or_comm}
use Rattle.std.proofs.lemmas.List.{length-map}
use Rattle.std.proofs.lemmas.Bool.{cases_lt}
use Rattle.std.proofs.lemmas.Option.{slice_get_past, slice_get_within, slice_get-get_or}
use Rattle.octet_model.specs.declared.event.Event.{Event}
use Rattle.octet_model.specs.declared.event.Event.TheVariants.{Read}
use Rattle.octet_model.specs.declared.event.Place.{Place}
use Rattle.octet_model.specs.Machine.{Journals, journal_of, PlainState, no_events, starting_state, Operation, Wants, is_enabled, event_made, heap_after, draws_after, appended, may_step, step, after, IsFront, AllFinished, IsOrder}
use Rattle.octet_model.specs.Journals.{log_of, log_of_journal}
use Rattle.octet_model.specs.HappensBefore.{event_at, Edge, ProgramOrder, Joined, Drawn, Fenced, IsEvent, IsPath, HappensBefore, is_write, Conflict, IsOrdered}
use Rattle.octet_model.specs.Frugal.{IsFrugal}
use Rattle.octet_model.specs.Plans.{Plan, by_log, opening_state, state_after, journals_after, outcome_of, IsLawfulOrder, IsFaithful, FitsPlan}
use Rattle.octet_model.specs.Orders.{lowest_front}
use Rattle.octet_model.specs.Plays.{operation_of, next_in, by_journals, state_after_play, MakesAll, lowest_play, IsOneHistory}
use Rattle.octet_model.proofs.lemmas.Steps.{at, count, stays_appended, as_many, new_event, where_new, makes_from, what_it_makes}
use Rattle.octet_model.proofs.lemmas.Fronts.{front_on, after_on, one_end, no_journal}
use Rattle.octet_model.proofs.lemmas.Plays.{lowest_makes_all, total_none}
use Rattle.octet_model.proofs.lemmas.LogsOfJournals.{IsNextFor, may_same, step_same, next_same, same_start}

-- what is next in journals is next in longer ones
next_longer : (js : Journals) (t u k : ℕ) (e : Event) (o : Operation) → next_in (at js u k) ≡ Wants o → next_in (at (appended js t e) u k) ≡ Wants o
next_longer js t u k e o wanted = go (at js u k) refl wanted
  where
    go : (x : Option Event) → at js u k ≡ x → next_in x ≡ Wants o → next_in (at (appended js t e) u k) ≡ Wants o
    go None is wanted = absurd cc
    go (Some x) is wanted = ap next_in (stays_appended js t u k e x is) ∙ wanted

-- a conflict is one from either side
pub swapped : (journals : Journals) (a b : Place) → Conflict journals a b → Conflict journals b a
swapped journals a b c = record {
  first = c.second;
  second = c.first;
  object = c.object;
  is_first = c.is_second;
  is_second = c.is_first;
  by_others = λ h. c.by_others (sym h);
  of_one = c.of_same;
  of_same = c.of_one;
  one_writes = or_comm (is_write c.second) (is_write c.first) ∙ c.one_writes;
}

module _ (js : Journals) (t : ℕ) (e : Event) where
  -- a play of journals is a play of longer ones
  play_longer : (order : List ℕ) (s : PlainState) → IsFront (by_journals js) s order
      → IsFront (by_journals (appended js t e)) s order × (after (by_journals (appended js t e)) s order ≡ after (by_journals js) s order)
  play_longer [] s front = (tt, refl)
  play_longer (u ∷ order) s front =
      let V = by_journals (appended js t e) in
      let m = what_it_makes (by_journals js) s u front.0 in
      let n = makes_from V s u m.0 m.1.within (next_longer js t u (length (journal_of s.journals u)) e m.0 m.1.wanted) m.1.enabled in
      let state : step (by_journals js) s u ≡ step V s u = m.1.stepped ∙ sym n.stepped in
      let r = play_longer order (step (by_journals js) s u) front.1 in
      ((n.may, subst (λ (x : PlainState). IsFront V x order) state r.0), ap (λ (x : PlainState). after V x order) (sym state) ∙ r.1)

  edge_longer : (a b : Place) → Edge js a b → Edge (appended js t e) a b
  edge_longer a b (ProgramOrder same next) = ProgramOrder same next
  edge_longer a b (Joined upto is_b below) = Joined upto (stays_appended js t b.thread b.event e _ is_b) below
  edge_longer a b (Drawn first then is_a is_b below) = Drawn first then (stays_appended js t a.thread a.event e _ is_a) (stays_appended js t b.thread b.event e _ is_b) below
  edge_longer a b (Fenced number upto is_a is_b below) = Fenced number upto (stays_appended js t a.thread a.event e _ is_a) (stays_appended js t b.thread b.event e _ is_b) below

  event_longer : (a : Place) → IsEvent js a → IsEvent (appended js t e) a
  event_longer a is = (is.0, stays_appended js t a.thread a.event e is.0 is.1)

  places_longer : (between : List Place) (a b : Place) → IsPath js (a ∷ (between ++ b ∷ [])) → IsPath (appended js t e) (a ∷ (between ++ b ∷ []))
  places_longer [] a b path = (event_longer a path.0, edge_longer a b path.1, event_longer b path.2)
  places_longer (c ∷ between) a b path = (event_longer a path.0, edge_longer a c path.1, places_longer between c b path.2)

  -- a path stays when journals grow
  pub path_longer : (a b : Place) → HappensBefore js a b → HappensBefore (appended js t e) a b
  path_longer a b p = record { between = p.between; is_path = places_longer p.between a b p.is_path }

  abbrev pub new : Place
  new = record { thread = t; event = count js t }

  -- what is in the longer journals was there, or is the new event
  pub old_or_new : (a : Place) (x : Event) → t < length js → event_at (appended js t e) a ≡ Some x → (event_at js a ≡ Some x) ⊎ (a ≡ new)
  old_or_new a x lt is =
      elim (cases_lt a.event (count js a.thread)) [
        | inl old ↦ inl (go (at js a.thread a.event) refl old)
        | inr later ↦
            let w = where_new js t a.thread a.event e lt later (slice_get_within (journal_of (appended js t e) a.thread) a.event x is) in
            inr (λ i. record { thread = w.0 i; event = w.1 i })
      ]
    where
      go : (o : Option Event) → at js a.thread a.event ≡ o → a.event < count js a.thread → event_at js a ≡ Some x
      go None at_a old = absurd (let some = slice_get-get_or (journal_of js a.thread) a.event (Read 0 0) old in cc)
      go (Some y) at_a old = let y_too = stays_appended js t a.thread a.event e y at_a in cc

  -- journals stay ordered where each access that conflicts with the new event has a path to it
  pub ordered_longer : t < length js → IsOrdered js → ((a : Place) → Conflict (appended js t e) a new → HappensBefore (appended js t e) a new) → IsOrdered (appended js t e)
  ordered_longer lt ordered to_new a b c =
      elim (old_or_new a c.first lt c.is_first) [
        | inr a_new ↦ inr (subst (λ (p : Place). HappensBefore (appended js t e) b p) (sym a_new) (to_new b (subst (λ (p : Place). Conflict (appended js t e) b p) a_new (swapped (appended js t e) a b c))))
        | inl a_old ↦ elim (old_or_new b c.second lt c.is_second) [
          | inr b_new ↦ inl (subst (λ (p : Place). HappensBefore (appended js t e) a p) (sym b_new) (to_new a (subst (λ (p : Place). Conflict (appended js t e) a p) b_new c)))
          | inl b_old ↦ elim (ordered a b (record { first = c.first; second = c.second; object = c.object; is_first = a_old; is_second = b_old; by_others = c.by_others; of_one = c.of_one; of_same = c.of_same; one_writes = c.one_writes })) [
            | inl ab ↦ inl (path_longer a b ab)
            | inr ba ↦ inr (path_longer b a ba)
          ]
        ]
      ]

-- one more event that the heap and the marks allow, in journals that stay ordered, keeps one history
pub history_grows : (starts : List ℕ) (js : Journals) (heap : List ℕ) (draws t : ℕ) (e : Event)
    → IsOneHistory starts js heap draws → t < length js
    → IsTrue (is_enabled (record { heap = heap; journals = js; draws = draws }) (operation_of e))
    → event_made (operation_of e) heap ≡ e
    → IsOrdered (appended js t e)
    → IsOneHistory starts (appended js t e) (heap_after (operation_of e) heap) (draws_after (operation_of e) draws)
history_grows starts js heap draws t e h lt enabled is ordered =
    let js' = appended js t e in
    let V = by_journals js' in
    let o = operation_of e in
    let low = lowest_play starts js in
    let order = low ++ t ∷ [] in
    let s0 = starting_state starts js in
    let s : PlainState = record { heap = heap; journals = js; draws = draws } in
    let s1 : PlainState = record { heap = heap_after o heap; journals = js'; draws = draws_after o draws } in
    let longer = play_longer js t e low s0 h.makes_all.is_play in
    let there : after V s0 low ≡ s = longer.1 ∙ (λ i. record { heap = h.gives i; journals = h.makes_all.makes i; draws = h.counts i }) in
    let m = makes_from V s t o lt (ap next_in (new_event js t e lt)) enabled in
    let front : IsFront V s0 order = front_on V low (t ∷ []) s0 longer.0 (subst (λ (x : PlainState). IsTrue (may_step V x t)) (sym there) m.may, tt) in
    let ends : after V s0 order ≡ s1 =
    after_on V low (t ∷ []) s0 ∙ ap (λ (x : PlainState). step V x t) there ∙ m.stepped
    ∙ ap (λ (f : Event). record s1 { journals = appended js t f }) is in
    let Q : PlainState → Type 0 = λ z. IsFront V z order × (after V z order ≡ s1) in
    let q = subst Q (ap (λ (n : Journals). record s0 { journals = n }) (same_start js js' (sym (as_many js t e)))) (front, ends) in
    let r = lowest_makes_all starts js' order ordered (record { is_play = q.0; makes = ap (λ (x : PlainState). x.journals) q.1 }) in
    record {
      makes_all = r.0;
      gives = ap (λ (x : PlainState). x.heap) (r.1 ∙ q.1);
      counts = ap (λ (x : PlainState). x.draws) (r.1 ∙ q.1);
      ordered = ordered;
    }

module _ (plan : Plan) (journals : Journals) (fit : FitsPlan plan journals) where
  -- a play of the journals is a front of the plan and their log
  play_by_log : (order : List ℕ) (s : PlainState) → (after (by_journals journals) s order).journals ≡ journals → IsFront (by_journals journals) s order
      → IsFront (by_log plan (log_of journals)) s order × (after (by_log plan (log_of journals)) s order ≡ after (by_journals journals) s order)
  play_by_log [] s is front = (tt, refl)
  play_by_log (t ∷ order) s is front =
      let V = by_log plan (log_of journals) in
      let same = step_same plan journals fit order s t is front.0 in
      let r = play_by_log order (step (by_journals journals) s t) is front.1 in (
        (may_same plan journals fit (t ∷ order) s is t ∙ front.0, subst (λ (x : PlainState). IsFront V x order) (sym same) r.0),
        ap (λ (x : PlainState). after V x order) same ∙ r.1,
      )

-- where a play makes all of journals that fit a plan to its threads' ends, it is an order of the plan and their log
pub order_from_play : (plan : Plan) (journals : Journals) (play : List ℕ) → MakesAll plan.starts journals play → length plan.threads ≡ length journals → FitsPlan plan journals
    → IsOrder (by_log plan (log_of journals)) (opening_state plan) play × (state_after plan (log_of journals) play ≡ state_after_play plan.starts journals play)
order_from_play plan journals play all threads fit =
    let V = by_log plan (log_of journals) in
    let starts = plan.starts in
    let s1 = state_after_play starts journals play in
    let r = play_by_log plan journals fit play (starting_state starts journals) all.makes all.is_play in
    let through : AllFinished V s1 = λ t lt.
    let here = ap (λ (js : Journals). journal_of js t) (sym all.makes) ∙ sym (append-nil (journal_of s1.journals t)) in
    let lt' : t < length journals = omega (arith, ap (λ (js : Journals). length js) all.makes) in
    subst (λ (x : Option Event). IsNextFor x (by_log plan (log_of journals) t (journal_of s1.journals t)))
    (ap (λ (j : List Event). slice_get (journal_of journals t) (length j)) (ap (λ (js : Journals). journal_of js t) all.makes) ∙ slice_get_past (journal_of journals t) (length (journal_of journals t)) (omega arith))
    (next_same plan journals fit s1 t [] lt' here) in
    let Q : PlainState → Type 0 = λ z. IsOrder V z play × (after V z play ≡ s1) in
    subst Q (ap (λ (n : Journals). record (starting_state starts journals) { journals = n }) (same_start journals plan.threads (sym threads)))
    ((r.0, subst (λ (x : PlainState). AllFinished V x) (sym r.1) through), r.1)

-- where a play makes all of ordered and frugal journals that fit a plan to its threads' ends, the journals' log is faithful
pub faithful_from_play : (plan : Plan) (journals : Journals) (play : List ℕ) → IsOrdered journals → IsFrugal journals
    → MakesAll plan.starts journals play → length plan.threads ≡ length journals → FitsPlan plan journals
    → IsFaithful plan (log_of journals) (outcome_of plan (state_after_play plan.starts journals play))
faithful_from_play plan journals play ordered frugal all threads fit =
    let V = by_log plan (log_of journals) in
    let W = by_journals journals in
    let starts = plan.starts in
    let s1 = state_after_play starts journals play in
    let q = order_from_play plan journals play all threads fit in
    let as_many : length plan.threads ≡ length (log_of journals) = threads ∙ sym (length-map journals log_of_journal) in
    let journals_are : journals_after plan (log_of journals) play ≡ journals = ap (λ (x : PlainState). x.journals) q.1 ∙ all.makes in
    let one : (order : List ℕ) → IsLawfulOrder plan (log_of journals) order → state_after plan (log_of journals) order ≡ s1 =
    λ order lawful. one_end V starts plan.threads play order q.0 (subst IsOrdered (sym journals_are) ordered) lawful.1 ∙ q.1 in
    let by_one : (order : List ℕ) → IsLawfulOrder plan (log_of journals) order → journals_after plan (log_of journals) order ≡ journals =
    λ order lawful. ap (λ (x : PlainState). x.journals) (one order lawful) ∙ all.makes in
    record {
      order = play;
      is_lawful = (as_many, q.0);
      outcomes = λ order lawful. ap (λ (x : PlainState). outcome_of plan x) (one order lawful);
      ordered = λ order lawful. subst IsOrdered (sym (by_one order lawful)) ordered;
      frugal = λ order lawful. subst IsFrugal (sym (by_one order lawful)) frugal;
    }

-- so do the journals of one history, with its heap
pub faithful_from_history : (plan : Plan) (journals : Journals) (heap : List ℕ) (draws : ℕ)
    → IsOneHistory plan.starts journals heap draws → IsFrugal journals
    → length plan.threads ≡ length journals → FitsPlan plan journals
    → IsFaithful plan (log_of journals) (outcome_of plan (record { heap = heap; journals = journals; draws = draws }))
faithful_from_history plan journals heap draws h frugal threads fit =
    let low = lowest_play plan.starts journals in
    let faithful = faithful_from_play plan journals low h.ordered frugal h.makes_all threads fit in
    subst (λ (x : PlainState). IsFaithful plan (log_of journals) (outcome_of plan x))
    (λ i. record { heap = h.gives i; journals = h.makes_all.makes i; draws = h.counts i }) faithful

-- at the start there is one history, of no event
pub history_begins : {A : Type 0} (starts : List ℕ) (threads : List A) → IsOneHistory starts (no_events threads) starts 0
history_begins starts threads =
    let js = no_events threads in
    let none : lowest_play starts js ≡ [] = ap (λ (n : ℕ). lowest_front (by_journals js) n (starting_state starts js)) (total_none threads) in
    let state : state_after_play starts js (lowest_play starts js) ≡ starting_state starts threads =
    ap (λ (play : List ℕ). state_after_play starts js play) none
    ∙ ap (λ (n : Journals). record (starting_state starts threads) { journals = n }) (same_start js threads (length-map threads (λ x. []))) in
    record {
      makes_all = record { is_play = subst (λ (play : List ℕ). IsFront (by_journals js) (starting_state starts js) play) (sym none) tt; makes = ap (λ (x : PlainState). x.journals) state };
      gives = ap (λ (x : PlainState). x.heap) state;
      counts = ap (λ (x : PlainState). x.draws) state;
      ordered = λ a b c. absurd (let is : slice_get [] a.event ≡ Some c.first = ap (λ (j : List Event). slice_get j a.event) (sym (no_journal threads a.thread)) ∙ c.is_first in cc);
    }
