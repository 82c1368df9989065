-- A front of a script and a log is a front of the log alone, and orders of the log alone can be continued.
use Rattle.std.proofs.Common.{◌≡◌, ℕ, inl, inr, Bool, true, false, nat_lt, List, [], ◌∷◌, ◌++◌, length, Option, Some, None, IsTrue, slice_get, refl, sym, ap, ◌∙◌, subst, arith}
use Rattle.std.proofs.lemmas.Bool.{cases_eq}
use Rattle.std.proofs.lemmas.List.{length-map}
use Rattle.octet_model.specs.declared.command.Command.{Command}
use Rattle.octet_model.specs.declared.event.Event.{Event}
use Rattle.octet_model.specs.declared.event.Mark.{Mark}
use Rattle.octet_model.specs.declared.log.ThreadLog.{ThreadLog}
use Rattle.octet_model.specs.declared.script.Script.{Script}
use Rattle.octet_model.specs.HappensBefore.{is_write}
use Rattle.octet_model.specs.Thread.{AccessOrEnd, added, ToRead, ToWrite, ToBump, ToEnd, demanded, configuration_after, starting_configuration}
use Rattle.octet_model.specs.Machine.{Journals, journal_of, PlainState, no_events, Operation, MakeMark, MakeRead, MakeWrite, MakeUpdate, Wants, Finished, Behavior, event_made, next_of, may_step, step, after, IsFront, IsOrder}
use Rattle.octet_model.specs.Journals.{access_count, mark_count, gap_after, due_mark, next_access, mark_first}
use Rattle.octet_model.specs.Orders.{commands_of, thread_log_of, by_log, opening_state, state_after, IsLawfulOrder}
use Rattle.octet_model.proofs.lemmas.Steps.{Makes, makes_from, what_it_makes, same_journal, other_step}
use Rattle.octet_model.proofs.lemmas.Fronts.{no_journal}
use Rattle.octet_model.proofs.lemmas.Splits.{accesses_split, marks_split, gap_split, length_parts}
use Rattle.octet_model.proofs.lemmas.LawfulOrders.{by_finish}
use Rattle.octet_clock.specs.Untied.{any_access, by_log_alone, opening_alone, IsUntied}
use Rattle.octet_clock.proofs.lemmas.AlikeStates.{Alike, enabled_alike, step_alike}
use Rattle.octet_clock.proofs.lemmas.Readers.{reading, reading_enabled, reading_draws, reading_writes_not, NeverWrites, readers_lead_on}

-- a log alone wants marks and reads
reads_it : (due : Option Mark) (left mark_left : Bool) (o : Operation) → mark_first due (any_access left mark_left) ≡ Wants o → reading o ≡ o
reads_it (Some mark) left mark_left o is = let same : MakeMark mark ≡ o = cc in subst (λ (x : Operation). reading x ≡ x) same refl
reads_it None true mark_left o is = let same : MakeRead 0 ≡ o = cc in subst (λ (x : Operation). reading x ≡ x) same refl
reads_it None false true o is = absurd cc
reads_it None false false o is = absurd cc

pub never_writes : (log : List ThreadLog) → NeverWrites (by_log_alone log)
never_writes log t j o is heap =
    let own = thread_log_of log t in
    let reads = reads_it (due_mark (slice_get own.marks (mark_count j)) (gap_after 0 j)) (nat_lt (access_count j) own.accesses) (nat_lt (mark_count j) (length own.marks)) o is in
    ap (λ (x : Operation). is_write (event_made x heap)) (sym reads) ∙ reading_writes_not o heap

-- what is next by a script and a log is next by the log alone, with a read for each access
pub next_alone : (due : Option Mark) (d : AccessOrEnd) (left mark_left : Bool) (o : Operation) → mark_first due (next_access d left mark_left) ≡ Wants o
    → mark_first due (any_access left mark_left) ≡ Wants (reading o)
next_alone (Some mark) d left mark_left o is = let same : MakeMark mark ≡ o = cc in ap (λ (x : Operation). Wants (reading x)) same
next_alone None (ToRead object) true mark_left o is = let same : MakeRead object ≡ o = cc in ap (λ (x : Operation). Wants (reading x)) same
next_alone None (ToRead object) false mark_left o is = absurd cc
next_alone None (ToWrite object value) true mark_left o is = let same : MakeWrite object value ≡ o = cc in ap (λ (x : Operation). Wants (reading x)) same
next_alone None (ToWrite object value) false mark_left o is = absurd cc
next_alone None (ToBump object amount) true mark_left o is = let same : MakeUpdate object (added amount) ≡ o = cc in ap (λ (x : Operation). Wants (reading x)) same
next_alone None (ToBump object amount) false mark_left o is = absurd cc
next_alone None (ToEnd end) true mark_left o is = absurd cc
next_alone None (ToEnd end) false true o is = absurd cc
next_alone None (ToEnd end) false false o is = absurd cc

-- two journals with as many accesses, as many marks, and as many accesses since the last mark
pub record CountsAlike (j j' : List Event) : Type 0 where
  pub accesses : access_count j ≡ access_count j'
  pub marks : mark_count j ≡ mark_count j'
  pub gap : gap_after 0 j ≡ gap_after 0 j'

-- two events that count alike
record EventsAlike (e e' : Event) : Type 0 where
  accesses : access_count (e ∷ []) ≡ access_count (e' ∷ [])
  marks : mark_count (e ∷ []) ≡ mark_count (e' ∷ [])
  gap : (before : ℕ) → gap_after before (e ∷ []) ≡ gap_after before (e' ∷ [])

events_alike : (o : Operation) (heap heap' : List ℕ) → EventsAlike (event_made o heap) (event_made (reading o) heap')
events_alike (MakeMark mark) heap heap' = record { accesses = refl; marks = refl; gap = λ before. refl }
events_alike (MakeRead object) heap heap' = record { accesses = refl; marks = refl; gap = λ before. refl }
events_alike (MakeWrite object value) heap heap' = record { accesses = refl; marks = refl; gap = λ before. refl }
events_alike (MakeUpdate object change) heap heap' = record { accesses = refl; marks = refl; gap = λ before. refl }

counts_grow : (j j' : List Event) (e e' : Event) → CountsAlike j j' → EventsAlike e e' → CountsAlike (j ++ e ∷ []) (j' ++ e' ∷ [])
counts_grow j j' e e' counts events = record {
  accesses = omega (arith, accesses_split j (e ∷ []), accesses_split j' (e' ∷ []), events.accesses, counts.accesses);
  marks = omega (arith, marks_split j (e ∷ []), marks_split j' (e' ∷ []), events.marks, counts.marks);
  gap = gap_split 0 j (e ∷ []) ∙ events.gap (gap_after 0 j) ∙ ap (λ (n : ℕ). gap_after n (e' ∷ [])) counts.gap ∙ sym (gap_split 0 j' (e' ∷ []));
}

-- a state of a script and a log beside one of the log alone
pub record StandsAlike (s s' : PlainState) : Type 0 where
  pub as_many : length s.journals ≡ length s'.journals
  pub each : (t : ℕ) → CountsAlike (journal_of s.journals t) (journal_of s'.journals t)
  pub draws : s.draws ≡ s'.draws

pub alike : (s s' : PlainState) → StandsAlike s s' → Alike s s'
alike s s' stands = record {
  as_many = stands.as_many;
  counts = λ t. omega (arith, length_parts (journal_of s.journals t), length_parts (journal_of s'.journals t), (stands.each t).accesses, (stands.each t).marks);
  draws = stands.draws;
}

module _ (script : Script) (log : List ThreadLog) where
  abbrev V : Behavior
  V = by_log script log

  abbrev V' : Behavior
  V' = by_log_alone log

  module _ (s s' : PlainState) (stands : StandsAlike s s') (t : ℕ) where
    abbrev own : ThreadLog
    own = thread_log_of log t

    abbrev j : List Event
    j = journal_of s.journals t

    abbrev j' : List Event
    j' = journal_of s'.journals t

    -- what the log alone has next, by the counts of the other state
    pub by_counts : next_of V' s' t ≡ mark_first (due_mark (slice_get own.marks (mark_count j)) (gap_after 0 j)) (any_access (nat_lt (access_count j) own.accesses) (nat_lt (mark_count j) (length own.marks)))
    by_counts =
        let alike = stands.each t in
        λ i. mark_first (due_mark (slice_get own.marks (sym alike.marks i)) (sym alike.gap i)) (any_access (nat_lt (sym alike.accesses i) own.accesses) (nat_lt (sym alike.marks i) (length own.marks)))

    makes_alone : (o : Operation) → Makes V s t o → Makes V' s' t (reading o)
    makes_alone o m =
        let commands = commands_of script t in
        let next = next_alone (due_mark (slice_get own.marks (mark_count j)) (gap_after 0 j)) (demanded commands (configuration_after commands (starting_configuration script.fuel) j)) (nat_lt (access_count j) own.accesses) (nat_lt (mark_count j) (length own.marks)) o m.wanted in
        makes_from V' s' t (reading o) (omega (arith, m.within, stands.as_many)) (by_counts ∙ next)
        (reading_enabled s' o ∙ sym (enabled_alike s s' o (alike s s' stands)) ∙ m.enabled)

    -- a step by the script and the log is one by the log alone
    module _ (may : IsTrue (may_step V s t)) where
      made : (o : Operation) × Makes V s t o
      made = what_it_makes V s t may

      pub may_alone : IsTrue (may_step V' s' t)
      may_alone = (makes_alone made.0 made.1).may

      each_after : (u : ℕ) → CountsAlike (journal_of (step V s t).journals u) (journal_of (step V' s' t).journals u)
      each_after u =
          let o = made.0 in
          let m = made.1 in
          let m' = makes_alone o m in
          elim (cases_eq u t) [
            | inl same ↦
                let is = ap (λ (js : Journals). journal_of js t) m.appends ∙ same_journal s.journals t (event_made o s.heap) m.within in
                let is' = ap (λ (js : Journals). journal_of js t) m'.appends ∙ same_journal s'.journals t (event_made (reading o) s'.heap) m'.within in
                let here : CountsAlike (journal_of (step V s t).journals t) (journal_of (step V' s' t).journals t) =
                subst (λ (x : List Event). CountsAlike x (journal_of (step V' s' t).journals t)) (sym is) (subst (λ (x : List Event). CountsAlike (j ++ event_made o s.heap ∷ []) x) (sym is') (counts_grow j j' (event_made o s.heap) (event_made (reading o) s'.heap) (stands.each t) (events_alike o s.heap s'.heap))) in
                subst (λ (n : ℕ). CountsAlike (journal_of (step V s t).journals n) (journal_of (step V' s' t).journals n)) (sym same) here
            | inr differ ↦
                subst (λ (x : List Event). CountsAlike x (journal_of (step V' s' t).journals u)) (sym (other_step V s t u differ))
                (subst (λ (x : List Event). CountsAlike (journal_of s.journals u) x) (sym (other_step V' s' t u differ)) (stands.each u))
          ]

      pub stands_after : StandsAlike (step V s t) (step V' s' t)
      stands_after =
          let a = step_alike V V' s s' t made.0 (reading made.0) made.1 (makes_alone made.0 made.1) (reading_draws made.0) (alike s s' stands) in
          record { as_many = a.as_many; each = each_after; draws = a.draws }

  alone_on : (front : List ℕ) (s s' : PlainState) → StandsAlike s s' → IsFront V s front → IsFront V' s' front × StandsAlike (after V s front) (after V' s' front)
  alone_on [] s s' stands is = (tt, stands)
  alone_on (t ∷ front) s s' stands is =
      let rest = alone_on front (step V s t) (step V' s' t) (stands_after s s' stands t is.0) is.1 in
      ((may_alone s s' stands t is.0, rest.0), rest.1)

  module _ (agree : length script.threads ≡ length log) where
    opens_alike : StandsAlike (opening_state script) (opening_alone log)
    opens_alike = record {
      as_many = length-map script.threads (λ (c : List Command). []) ∙ agree ∙ sym (length-map log (λ (l : ThreadLog). []));
      each = λ t.
          subst (λ (x : List Event). CountsAlike x (journal_of (no_events log) t)) (sym (no_journal script.threads t))
          (subst (λ (x : List Event). CountsAlike [] x) (sym (no_journal log t)) (record { accesses = refl; marks = refl; gap = refl }));
      draws = refl;
    }

    -- a front of a script and a log is a front of the log alone, with the same counts
    pub front_alone : (front : List ℕ) → IsFront V (opening_state script) front
        → IsFront V' (opening_alone log) front × StandsAlike (after V (opening_state script) front) (after V' (opening_alone log) front)
    front_alone front is = alone_on front (opening_state script) (opening_alone log) opens_alike is

finished_alone : (due : Option Mark) (d : AccessOrEnd) (left mark_left : Bool) → mark_first due (next_access d left mark_left) ≡ Finished → mark_first due (any_access left mark_left) ≡ Finished
finished_alone (Some mark) d left mark_left is = absurd cc
finished_alone None d left mark_left is = let f = by_finish None d left mark_left is in λ i. any_access (f.no_access i) (f.no_mark i)

-- so where a script and a log have a lawful order, the log is untied
pub lawful_is_untied : (script : Script) (log : List ThreadLog) (order : List ℕ) → IsLawfulOrder script log order → IsUntied log
lawful_is_untied script log order lawful =
    let both = front_alone script log lawful.0 order lawful.1.0 in
    let s = state_after script log order in
    let s' = after (by_log_alone log) (opening_alone log) order in (
      order,
      (
        both.0,
        λ t lt.
            let own = thread_log_of log t in
            let j = journal_of s.journals t in
            let commands = commands_of script t in
            by_counts script log s s' both.1 t
            ∙ finished_alone (due_mark (slice_get own.marks (mark_count j)) (gap_after 0 j)) (demanded commands (configuration_after commands (starting_configuration script.fuel) j)) (nat_lt (access_count j) own.accesses) (nat_lt (mark_count j) (length own.marks))
            (lawful.1.1 t (omega (arith, both.1.as_many))),
      ),
    )

-- each front of an untied log alone leads on to an order
pub untied_leads_on : (log : List ThreadLog) (front : List ℕ) → IsUntied log → IsFront (by_log_alone log) (opening_alone log) front
    → (rest : List ℕ) × IsOrder (by_log_alone log) (opening_alone log) (front ++ rest)
untied_leads_on log front untied is_front =
    let on = readers_lead_on (by_log_alone log) (never_writes log) [] log untied.0 front untied.1 is_front in
    (on.0, on.1)
