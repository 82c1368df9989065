-- First events that are closed under edges are made alone as they are made among all.
use Rattle.std.proofs.Common.{◌≡◌, ℕ, suc, ◌<◌, ◌≤◌, ◌⊎◌, inl, inr, Bool, true, false, ◌&&◌, nat_lt, List, [], ◌∷◌, ◌++◌, length, take, get_or, Some, IsTrue, IsFalse, refl, sym, ap, ◌∙◌, subst, arith, length-append}
use Rattle.std.proofs.Math.Seq.{take-append_seam}
use Rattle.std.proofs.lemmas.Bool.{cases_eq, cases_lt, and_parts, ltb-true, leb-true, le-leb, eqb-true, eq-eqb, le-ltb}
use Rattle.std.proofs.lemmas.List.{length-map, get_or-map}
use Rattle.octet_model.specs.declared.event.Mark.TheVariants.{Join, Draw, Fence}
use Rattle.octet_model.specs.declared.event.Event.{Event}
use Rattle.octet_model.specs.declared.event.Event.TheVariants.{Marked}
use Rattle.octet_model.specs.declared.event.Place.{Place}
use Rattle.octet_model.specs.declared.command.Command.{Command}
use Rattle.octet_model.specs.declared.log.ThreadLog.{ThreadLog}
use Rattle.octet_model.specs.declared.script.Script.{Script}
use Rattle.octet_model.specs.Thread.{starting_configuration, FitsFrom}
use Rattle.octet_model.specs.Machine.{Journals, journal_of, PlainState, Operation, MakeMark, MakeRead, MakeWrite, MakeUpdate, Wants, Behavior, is_enabled, event_made, draws_after, Next, next_of, may_proceed, may_step, proceeded, step, after, IsFront, AllFinished}
use Rattle.octet_model.specs.Journals.{log_of, log_of_journal, next_by_log}
use Rattle.octet_model.specs.HappensBefore.{event_at, Edge, Joined, Drawn, Fenced, IsOrdered}
use Rattle.octet_model.specs.Orders.{commands_of, thread_log_of, by_log, opening_state, journals_after, lowest_order, IsLawfulOrder}
use Rattle.octet_model.proofs.lemmas.Steps.{count, drawn_next, Makes, makes_from, what_it_makes, as_many_step, other_step, counts_step, made_there}
use Rattle.octet_model.proofs.lemmas.Fronts.{stays, makes_it, IsDownClosed, down_closed_at_start, remains, no_journal}
use Rattle.octet_model.proofs.lemmas.LogsOfJournals.{grown, as_many_after}
use Rattle.octet_model.proofs.lemmas.LowestFronts.{lowest_is_front, lowest_order_is_lowest, lowest_order_is_full}
use Rattle.octet_model.proofs.lemmas.LowestThread.{none_at_all}
use Rattle.octet_model.proofs.lemmas.LawfulOrders.{lawful_order_has_its_log, lawful_order_fits}
use Rattle.octet_slice.specs.FirstEvents.{first_events, IsClosed}
use Rattle.octet_slice.specs.Laws.{ClosedEventsReplayAlone}
use Rattle.octet_slice.proofs.lemmas.FirstEvents.{first_of, as_many_first, alike, take_past}
use Rattle.octet_slice.proofs.lemmas.SameNext.{same_next, none_next}

draws_or_not : (w : Operation) (n : ℕ) → ((c : ℕ) × (w ≡ MakeMark (Draw c)) × (draws_after w n ≡ suc n)) ⊎ (draws_after w n ≡ n)
draws_or_not (MakeMark (Draw number)) n = inl (number, refl, refl)
draws_or_not other n = inr refl

-- closed first events of the journals that a front comes to. A thread of which some are still to be made cannot be waiting for an event that is none of them
module _ (V : Behavior) (counts : List ℕ) where
  abbrev upto : ℕ → ℕ
  upto t = get_or counts t 0

  module _ (x : ℕ) (rest : List ℕ) (s : PlainState) (front : IsFront V s (x ∷ rest)) (through : AllFinished V (after V s (x ∷ rest)))
      (closed : IsClosed (after V s (x ∷ rest)).journals counts) (w : Operation) (m : Makes V s x w) (out : upto x ≤ count s.journals x) where
    abbrev all : Journals
    all = (after V s (x ∷ rest)).journals

    abbrev a : Place
    a = record { thread = x; event = count s.journals x }

    at_a : event_at all a ≡ Some (event_made w s.heap)
    at_a = stays V rest (step V s x) x (count s.journals x) (event_made w s.heap) (made_there V s x w m)

    -- what x makes has no edge to one of them
    no_edge : (b : Place) → Edge all a b → b.event < upto b.thread → ⊥
    no_edge b edge lt = omega (arith, closed.by a b edge lt, out)

    module _ (u : ℕ) (differ : u ≡ x → ⊥) (lt : count s.journals u < upto u) where
      abbrev b : Place
      b = record { thread = u; event = count s.journals u }

      -- so what u waits for was there before
      was_enabled : (o : Operation) (heap : List ℕ) → event_at all b ≡ Some (event_made o heap) → IsTrue (is_enabled (step V s x) o) → IsTrue (is_enabled s o)
      was_enabled (MakeMark (Join from upto')) heap at_b enabled =
          let le : upto' ≤ count (step V s x).journals from = leb-true upto' (count (step V s x).journals from) enabled in
          elim (cases_eq from x) [
            | inr other ↦ le-leb upto' (count s.journals from) (omega (arith, le, ap (λ (j : List Event). length j) (other_step V s x from other)))
            | inl same ↦ elim (cases_lt (count s.journals x) upto') [
              | inl below ↦ absurd (no_edge b (Joined upto' (at_b ∙ ap (λ (t : ℕ). Some (Marked (Join t upto'))) same) below) lt)
              | inr above ↦ le-leb upto' (count s.journals from) (omega (arith, above, ap (λ (t : ℕ). count s.journals t) same))
            ]
          ]
      was_enabled (MakeMark (Draw number)) heap at_b enabled =
          let now : (step V s x).draws ≡ draws_after w s.draws = ap (λ (z : PlainState). z.draws) m.stepped in
          let next : number ≡ suc (step V s x).draws = eqb-true number (suc (step V s x).draws) enabled in
          elim (draws_or_not w s.draws) [
            | inr none ↦ eq-eqb number (suc s.draws) (omega (arith, now, next, none))
            | inl draw ↦
                let made : event_made w s.heap ≡ Marked (Draw draw.0) = ap (λ (o : Operation). event_made o s.heap) draw.1 in
                let first = drawn_next s w s.heap draw.0 m.enabled made in
                absurd (no_edge b (Drawn draw.0 number (at_a ∙ ap Some made) at_b (omega (arith, first, now, next, draw.2))) lt)
          ]
      was_enabled (MakeMark (Fence number)) heap at_b enabled =
          let now : (step V s x).draws ≡ draws_after w s.draws = ap (λ (z : PlainState). z.draws) m.stepped in
          let le : number ≤ (step V s x).draws = leb-true number (step V s x).draws enabled in
          elim (draws_or_not w s.draws) [
            | inr none ↦ le-leb number s.draws (omega (arith, now, le, none))
            | inl draw ↦ elim (cases_lt s.draws number) [
              | inr enough ↦ le-leb number s.draws enough
              | inl more ↦
                  let made : event_made w s.heap ≡ Marked (Draw draw.0) = ap (λ (o : Operation). event_made o s.heap) draw.1 in
                  let first = drawn_next s w s.heap draw.0 m.enabled made in
                  absurd (no_edge b (Fenced draw.0 number (at_a ∙ ap Some made) at_b (omega (arith, first, more))) lt)
            ]
          ]
      was_enabled (MakeRead object) heap at_b enabled = refl
      was_enabled (MakeWrite object value) heap at_b enabled = refl
      was_enabled (MakeUpdate object change) heap at_b enabled = refl

      -- a thread that may step afterwards could step before
      could_step : IsTrue (may_step V (step V s x) u) → IsTrue (may_step V s u)
      could_step may =
          let n = what_it_makes V (step V s x) u may in
          let wanted : next_of V s u ≡ Wants n.0 = ap (λ (j : List Event). V u j) (sym (other_step V s x u differ)) ∙ n.1.wanted in
          let within : u < length s.journals = omega (arith, n.1.within, as_many_step V s x) in
          let made = makes_it V (x ∷ rest) s u n.0 within wanted front through in
          (makes_from V s u n.0 within wanted (was_enabled n.0 made.0 made.1 n.1.enabled)).may

  abbrev IsHeld : PlainState → Type 0
  IsHeld s = (u : ℕ) → count s.journals u < upto u → may_step V s u ≡ false

  -- where no thread may step of which some are still to be made, all are made
  pub all_made : (rest : List ℕ) (s : PlainState) → IsFront V s rest → AllFinished V (after V s rest) → IsClosed (after V s rest).journals counts → IsHeld s
      → (u : ℕ) → upto u ≤ count s.journals u
  all_made [] s front through closed held u = closed.within u
  all_made (x ∷ rest) s front through closed held u =
      let m = what_it_makes V s x front.0 in
      let out : upto x ≤ count s.journals x = elim (cases_lt (count s.journals x) (upto x)) [
        | inl lt ↦ absurd (let none = held x lt in let may = front.0 in cc)
        | inr past ↦ past
      ] in
      let more = counts_step V s x m.0 m.1 in
      let still : IsHeld (step V s x) = λ v lt. still_held v lt m.0 m.1 out more (may_step V (step V s x) v) refl in
      let r = all_made rest (step V s x) front.1 through closed still u in
      elim (cases_eq u x) [
        | inl same ↦ subst (λ (t : ℕ). upto t ≤ count s.journals t) (sym same) out
        | inr differ ↦ omega (arith, r, ap (λ (j : List Event). length j) (other_step V s x u differ))
      ]
    where
      still_held : (v : ℕ) → count (step V s x).journals v < upto v → (w : Operation) → Makes V s x w → upto x ≤ count s.journals x → count (step V s x).journals x ≡ suc (count s.journals x)
          → (b : Bool) → may_step V (step V s x) v ≡ b → may_step V (step V s x) v ≡ false
      still_held v lt w m out more false is = is
      still_held v lt w m out more true is =
          let differ : v ≡ x → ⊥ = λ same. omega (arith, lt, out, more, ap (λ (t : ℕ). count (step V s x).journals t) same, ap upto same) in
          let lt' : count s.journals v < upto v = omega (arith, lt, ap (λ (j : List Event). length j) (other_step V s x v differ)) in
          absurd (let none = held v lt' in let may = could_step x rest s front through closed w m out v differ lt' is in cc)

module _ (script : Script) (log : List ThreadLog) (order counts : List ℕ) (lawful : IsLawfulOrder script log order)
    (ordered : IsOrdered (journals_after script log order)) (closed : IsClosed (journals_after script log order) counts) where
  abbrev V : Behavior
  V = by_log script log

  abbrev J : Journals
  J = journals_after script log order

  abbrev K : Journals
  K = first_events counts J

  abbrev V' : Behavior
  V' = by_log script (log_of K)

  abbrev n : ℕ → ℕ
  n t = get_or counts t 0

  same_many : length J ≡ length script.threads
  same_many = as_many_after V order (opening_state script) ∙ length-map script.threads (λ (c : List Command). [])

  -- on a way to the end of the order, with no event but the first ones made
  record OnWay (s : PlainState) : Type 0 where
    rest : List ℕ
    front : IsFront V s rest
    ends : after V s rest ≡ after V (opening_state script) order
    down : IsDownClosed (after V s rest).journals s.journals
    below : (t : ℕ) → count s.journals t ≤ n t

  begins : OnWay (opening_state script)
  begins = record {
    rest = order;
    front = lawful.1.0;
    ends = refl;
    down = down_closed_at_start J script.threads;
    below = λ t. omega (arith, ap (λ (j : List Event). length j) (no_journal script.threads t));
  }

  module _ (s : PlainState) (way : OnWay s) where
    journals_are : (after V s way.rest).journals ≡ J
    journals_are = ap (λ (z : PlainState). z.journals) way.ends

    through : AllFinished V (after V s way.rest)
    through = subst (λ (z : PlainState). AllFinished V z) (sym way.ends) lawful.1.1

    as_many_here : length s.journals ≡ length J
    as_many_here = sym (as_many_after V way.rest s) ∙ ap (λ (js : Journals). length js) journals_are

    more_of : (t : ℕ) → (more : List Event) × (journal_of J t ≡ journal_of s.journals t ++ more)
    more_of t = let g = grown V way.rest s t in (g.0, ap (λ (js : Journals). journal_of js t) (sym journals_are) ∙ g.1)

    -- what is next for a thread of which events are still to be made is the same by both logs
    same_for : (t : ℕ) → t < length s.journals → count s.journals t < n t → next_of V' s t ≡ next_of V s t
    same_for t within lt = go (more_of t).0 (more_of t).1
      where
        pre : List Event
        pre = journal_of s.journals t

        there : t < length J
        there = omega (arith, as_many_here)

        go : (more : List Event) → journal_of J t ≡ pre ++ more → next_of V' s t ≡ next_of V s t
        go [] is = absurd (omega (arith, closed.within t, ap (λ (j : List Event). length j) is, length-append pre []))
        go (e ∷ post) is =
            let cut = take_past pre e post (n t) lt in
            let of_k : thread_log_of (log_of K) t ≡ log_of_journal (pre ++ e ∷ cut.0) =
            get_or-map log_of_journal K t [] (record { accesses = 0; marks = [] }) (omega (arith, there, as_many_first counts J))
            ∙ ap log_of_journal (first_of counts J t ∙ ap (take (n t)) is ∙ cut.1) in
            let of_j : thread_log_of log t ≡ log_of_journal (pre ++ e ∷ post) =
            ap (λ (l : List ThreadLog). thread_log_of l t) (sym (lawful_order_has_its_log script log order lawful))
            ∙ get_or-map log_of_journal J t [] (record { accesses = 0; marks = [] }) there ∙ ap log_of_journal is in
            let fits = subst (λ (j : List Event). FitsFrom (commands_of script t) (starting_configuration script.fuel) j) is (lawful_order_fits script log order lawful t there).0 in
            ap (λ (l : ThreadLog). next_by_log (commands_of script t) (starting_configuration script.fuel) l pre) of_k
            ∙ same_next (commands_of script t) (starting_configuration script.fuel) pre post cut.0 e fits
            ∙ ap (λ (l : ThreadLog). next_by_log (commands_of script t) (starting_configuration script.fuel) l pre) (sym of_j)

    -- and one of which none is may not step
    none_for : (t : ℕ) → t < length s.journals → n t ≤ count s.journals t → may_proceed s (next_of V' s t) ≡ false
    none_for t within past =
        let pre = journal_of s.journals t in
        let more = more_of t in
        let all : n t ≡ length pre = omega (arith, past, way.below t) in
        let whole : journal_of K t ≡ pre = first_of counts J t ∙ ap (λ (k : ℕ). take k (journal_of J t)) all ∙ ap (take (length pre)) more.1 ∙ take-append_seam pre more.0 in
        let of_k : thread_log_of (log_of K) t ≡ log_of_journal pre =
        get_or-map log_of_journal K t [] (record { accesses = 0; marks = [] }) (omega (arith, within, as_many_here, as_many_first counts J)) ∙ ap log_of_journal whole in
        ap (λ (l : ThreadLog). may_proceed s (next_by_log (commands_of script t) (starting_configuration script.fuel) l pre)) of_k
        ∙ none_next (commands_of script t) (starting_configuration script.fuel) s pre

    same_may : (t : ℕ) → count s.journals t < n t → may_step V' s t ≡ may_step V s t
    same_may t lt = elim (cases_lt t (length s.journals)) [
      | inl within ↦ ap (λ (next : Next). nat_lt t (length s.journals) && may_proceed s next) (same_for t within lt)
      | inr past ↦
          let none = le-ltb t (length s.journals) past in
          ap (λ (b : Bool). b && may_proceed s (next_of V' s t)) none ∙ sym (ap (λ (b : Bool). b && may_proceed s (next_of V s t)) none)
    ]

    -- a step by the log of the first events is one by the whole log, and leaves it on the way
    step_on : (t : ℕ) → IsTrue (may_step V' s t) → OnWay (step V' s t)
    step_on t may =
        let parts = and_parts _ _ may in
        let within : t < length s.journals = ltb-true t (length s.journals) parts.0 in
        elim (cases_lt (count s.journals t) (n t)) [
          | inr past ↦ absurd (let none = none_for t within past in let some = parts.1 in cc)
          | inl lt ↦
              let may_all : IsTrue (may_step V s t) = sym (same_may t lt) ∙ may in
              let same : step V' s t ≡ step V s t =
              ap (λ (b : Bool). elim b [ true ↦ proceeded s t (next_of V' s t) | false ↦ s ]) (same_may t lt) ∙ ap (λ (next : Next). elim (may_step V s t) [ true ↦ proceeded s t next | false ↦ s ]) (same_for t within lt) in
              let r = remains V way.rest s t way.down (subst IsOrdered (sym journals_are) ordered) way.front through may_all in
              let makes = what_it_makes V s t may_all in
              let counts_more = counts_step V s t makes.0 makes.1 in
              subst OnWay (sym same) (record {
                rest = r.pulled.rest;
                front = r.pulled.front;
                ends = r.pulled.ends ∙ way.ends;
                down = r.closed;
                below = λ u. elim (cases_eq u t) [
                  | inl is ↦ subst (λ (v : ℕ). count (step V s t).journals v ≤ n v) (sym is) (omega (arith, counts_more))
                  | inr differ ↦ omega (arith, way.below u, ap (λ (j : List Event). length j) (other_step V s t u differ))
                ];
              })
        ]

    -- where no thread may step by that log, the first events are made, and no others
    made_here : ((t : ℕ) → IsFalse (may_step V' s t)) → s.journals ≡ K
    made_here none = alike s.journals K (as_many_here ∙ sym (as_many_first counts J)) (λ t.
        let held = λ (u : ℕ) (lt : count s.journals u < n u). sym (same_may u lt) ∙ none u in
        let made = all_made V counts way.rest s way.front through (subst (λ (js : Journals). IsClosed js counts) (sym journals_are) closed) held t in
        let all : n t ≡ count s.journals t = omega (arith, made, way.below t) in
        sym (first_of counts J t ∙ ap (λ (k : ℕ). take k (journal_of J t)) all ∙ ap (take (count s.journals t)) (more_of t).1 ∙ take-append_seam (journal_of s.journals t) (more_of t).0))

  front_on_way : (front : List ℕ) (s : PlainState) → OnWay s → IsFront V' s front → OnWay (after V' s front)
  front_on_way [] s way is = way
  front_on_way (t ∷ front) s way is = front_on_way front (step V' s t) (step_on s way t is.0) is.1

  agree : length script.threads ≡ length (log_of K)
  agree = sym same_many ∙ sym (as_many_first counts J) ∙ sym (length-map K log_of_journal)

  pub closed_alone : journals_after script (log_of K) (lowest_order script (log_of K)) ≡ K
  closed_alone =
      let low = lowest_order script (log_of K) in
      let front = lowest_is_front V' low (opening_state script) (lowest_order_is_lowest script (log_of K) agree) in
      made_here (after V' (opening_state script) low) (front_on_way low (opening_state script) begins front)
      (none_at_all V' (after V' (opening_state script) low) (lowest_order_is_full script (log_of K) agree))

pub closed_events_replay_alone : ClosedEventsReplayAlone
closed_events_replay_alone script log order counts lawful ordered closed = closed_alone script log order counts lawful ordered closed
