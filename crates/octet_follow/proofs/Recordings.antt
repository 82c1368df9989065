-- Threads that follow the marks of a recording, and make what they demand, repeat it.
use Rattle.std.proofs.Common.{◌≡◌, ℕ, suc, ◌<◌, ◌≤◌, Bool, true, false, cond, ltb, List, [], ◌∷◌, ◌++◌, length, Option, Some, None, IsTrue, slice_get, slice_index, slice_set, refl, sym, ap, ◌∙◌, subst, arith, append_assoc}
use Rattle.std.proofs.lemmas.Bool.{and_from, lt-ltb, le-ltb, eq-eqb, ne_eqb}
use Rattle.std.proofs.lemmas.Option.{slice_get_past}
use Rattle.octet_model.specs.declared.event.Event.{Event}
use Rattle.octet_model.specs.declared.event.Event.TheVariants.{Read, Write, Update, Marked}
use Rattle.octet_model.specs.declared.event.Mark.{Mark}
use Rattle.octet_model.specs.declared.log.Gapped.{Gapped}
use Rattle.octet_model.specs.declared.log.ThreadLog.{ThreadLog}
use Rattle.octet_model.specs.Journals.{access_count, mark_count, gap_after, gapped_marks, due_mark, mark_first}
use Rattle.octet_model.specs.Machine.{Journals, journal_of, PlainState, starting_state, Operation, MakeUpdate, Next, Wants, Finished, Behavior, is_enabled, event_made, appended, performed, next_of, may_proceed, proceeded, may_step, step, after, IsFront, AllFinished}
use Rattle.octet_model.specs.HappensBefore.{IsOrdered}
use Rattle.octet_model.specs.Plans.{thread_log_of}
use Rattle.octet_model.specs.Plays.{operation_of, next_in, by_journals, state_after_play}
use Rattle.octet_model.proofs.lemmas.Lists.{slice_get_split}
use Rattle.octet_model.proofs.lemmas.Splits.{accesses_split, gap_split, gapped_marks_split, length-gapped_marks}
use Rattle.octet_model.proofs.lemmas.Steps.{at, same_journal, what_it_makes}
use Rattle.octet_model.proofs.lemmas.Fronts.{front_leads_on, one_end, after_on}
use Rattle.octet_model.proofs.lemmas.LogsOfJournals.{grown, as_many_after, same_start}
use Rattle.octet_follow.specs.Recordings.{Demand, ToRead, ToWrite, ToUpdate, ToEnd, Threads, next_access, next_by_marks, by_marks, IsRecording, IsDemanded, Ahead, IsOnTrack, AllFollow, Begins}

-- the first mark has at least the accesses before it as its gap
gaps_ahead : (before : ℕ) (journal : List Event) (rest : List Gapped) → Ahead rest (gap_after before journal) → Ahead (gapped_marks before journal ++ rest) before
gaps_ahead before [] rest ahead next is = ahead next is
gaps_ahead before (Read object value ∷ journal) rest ahead next is = let a = gaps_ahead (suc before) journal rest ahead next is in omega arith
gaps_ahead before (Write object value ∷ journal) rest ahead next is = let a = gaps_ahead (suc before) journal rest ahead next is in omega arith
gaps_ahead before (Update object old new ∷ journal) rest ahead next is = let a = gaps_ahead (suc before) journal rest ahead next is in omega arith
gaps_ahead before (Marked mark ∷ journal) rest ahead next is = let e : record { gap = before; mark = mark } ≡ next = cc in subst (λ (g : Gapped). before ≤ g.gap) e (omega arith)

-- a mark that comes later is not due
none_due : (marks : List Gapped) (gap : ℕ) → Ahead marks (suc gap) → due_mark (slice_get marks 0) gap ≡ None
none_due [] gap ahead = refl
none_due (mark ∷ marks) gap ahead = ap (λ (b : Bool). cond b (Some mark.mark) None) (ne_eqb mark.gap gap (λ e. let a = ahead mark refl in omega arith))

is_due : (gap : ℕ) (mark : Mark) → due_mark (Some (record { gap = gap; mark = mark })) gap ≡ Some mark
is_due gap mark = ap (λ (b : Bool). cond b (Some mark) None) (eq-eqb gap gap refl)

-- what is next, from the four things that decide it
next_parts : (demand : Demand) (log : ThreadLog) (journal : List Event) (mark : Option Mark) (d : Demand) (a m : Bool)
    → due_mark (slice_get log.marks (mark_count journal)) (gap_after 0 journal) ≡ mark
    → demand ≡ d
    → ltb (access_count journal) log.accesses ≡ a
    → ltb (mark_count journal) (length log.marks) ≡ m
    → next_by_marks demand log journal ≡ mark_first mark (next_access d a m)
next_parts demand log journal mark d a m p q r s =
    ap (λ (o : Option Mark). mark_first o (next_access demand (ltb (access_count journal) log.accesses) (ltb (mark_count journal) (length log.marks)))) p
    ∙ ap (λ (x : Demand). mark_first mark (next_access x (ltb (access_count journal) log.accesses) (ltb (mark_count journal) (length log.marks)))) q
    ∙ ap (λ (b : Bool). mark_first mark (next_access d b (ltb (mark_count journal) (length log.marks)))) r
    ∙ ap (λ (b : Bool). mark_first mark (next_access d a b)) s

module _ (demand : Demand) (log : ThreadLog) (before later : List Event) (e : Event) (track : IsOnTrack log (before ++ e ∷ later)) where
  abbrev gap : ℕ
  gap = gap_after 0 before

  next_left : slice_get log.marks (mark_count before) ≡ slice_get (gapped_marks gap (e ∷ later) ++ track.rest) 0
  next_left =
      ap (λ (marks : List Gapped). slice_get marks (mark_count before))
      (track.marks ∙ ap (λ (marks : List Gapped). marks ++ track.rest) (gapped_marks_split 0 before (e ∷ later)) ∙ append_assoc (gapped_marks 0 before) (gapped_marks gap (e ∷ later)) track.rest)
      ∙ ap (slice_get (gapped_marks 0 before ++ (gapped_marks gap (e ∷ later) ++ track.rest))) (sym (length-gapped_marks 0 before))
      ∙ slice_get_split (gapped_marks 0 before) (gapped_marks gap (e ∷ later) ++ track.rest)

  ahead : Ahead track.rest (gap_after gap (e ∷ later))
  ahead = subst (λ (g : ℕ). Ahead track.rest g) (gap_split 0 before (e ∷ later)) track.ahead

  access_next : (d : Demand) → gapped_marks gap (e ∷ later) ≡ gapped_marks (suc gap) later → gap_after gap (e ∷ later) ≡ gap_after (suc gap) later → access_count (e ∷ later) ≡ suc (access_count later) → demand ≡ d
      → next_by_marks demand log before ≡ next_access d true (ltb (mark_count before) (length log.marks))
  access_next d marks gaps one demands =
      next_parts demand log before None d true _
      (ap (λ (o : Option Gapped). due_mark o gap) (next_left ∙ ap (λ (l : List Gapped). slice_get (l ++ track.rest) 0) marks)
      ∙ none_due (gapped_marks (suc gap) later ++ track.rest) gap (gaps_ahead (suc gap) later track.rest (subst (λ (g : ℕ). Ahead track.rest g) gaps ahead)))
      demands
      (lt-ltb (access_count before) log.accesses (let a = track.accesses in let b = accesses_split before (e ∷ later) in omega arith))
      refl

-- what is next by the marks where this event is next by the journals. An update takes its change from the demand, and not from the journal
abbrev IsNextFor : Option Event → Next → Type 0
IsNextFor None next = next ≡ Finished
IsNextFor (Some (Update object before after)) next = (change : ℕ → ℕ) × (next ≡ Wants (MakeUpdate object change)) × (after ≡ change before)
IsNextFor (Some event) next = next ≡ Wants (operation_of event)

next_on_track : (demand : Demand) (log : ThreadLog) (before later : List Event) (e : Event) → IsOnTrack log (before ++ e ∷ later) → IsDemanded demand e → IsNextFor (Some e) (next_by_marks demand log before)
next_on_track demand log before later (Read object value) track is = access_next demand log before later (Read object value) track (ToRead object) refl refl refl is
next_on_track demand log before later (Write object value) track is = access_next demand log before later (Write object value) track (ToWrite object value) refl refl refl is
next_on_track demand log before later (Update object old new) track is =
    (is.0, access_next demand log before later (Update object old new) track (ToUpdate object is.0) refl refl refl is.1, is.2)
next_on_track demand log before later (Marked mark) track is =
    next_parts demand log before (Some mark) _ _ _
    (ap (λ (o : Option Gapped). due_mark o (gap_after 0 before)) (next_left demand log before later (Marked mark) track) ∙ is_due (gap_after 0 before) mark)
    refl refl refl

-- whether it may be made does not depend on what demands it
proceeds_alike : (s : PlainState) (event : Option Event) (next : Next) → IsNextFor event next → may_proceed s next ≡ may_proceed s (next_in event)
proceeds_alike s None next is = ap (may_proceed s) is
proceeds_alike s (Some (Update object before after)) next is = ap (may_proceed s) is.1
proceeds_alike s (Some other) next is = ap (may_proceed s) is

-- and where the heap gives the event its values, it is made alike
made_alike : (s : PlainState) (t : ℕ) (event : Event) (next : Next) → IsNextFor (Some event) next → event_made (operation_of event) s.heap ≡ event → proceeded s t next ≡ performed s t (operation_of event)
made_alike s t (Update object before after) next is held =
    let holds : slice_index s.heap object ≡ before = cc in
    ap (proceeded s t) is.1
    ∙ ap (λ (y : ℕ). record { heap = slice_set s.heap object y; journals = appended s.journals t (Update object (slice_index s.heap object) y); draws = s.draws }) (ap is.0 holds ∙ sym is.2)
made_alike s t other next is held = ap (proceeded s t) is

module _ (threads : Threads) (log : List ThreadLog) (journals : Journals) (follow : AllFollow threads log journals) where
  abbrev V : Behavior
  V = by_marks threads log

  abbrev W : Behavior
  W = by_journals journals

  -- a play of the journals is a front of the threads and the marks
  play_by_marks : (order : List ℕ) (s : PlainState) → (after W s order).journals ≡ journals → IsFront W s order → IsFront V s order × (after V s order ≡ after W s order)
  play_by_marks [] s is front = (tt, refl)
  play_by_marks (t ∷ order) s is front =
      let m = what_it_makes W s t front.0 in
      let e = event_made m.0 s.heap in
      let before = journal_of s.journals t in
      let g = grown W order (step W s t) t in
      let whole : journal_of journals t ≡ before ++ e ∷ g.0 =
      ap (λ (js : Journals). journal_of js t) (sym is) ∙ g.1
      ∙ ap (λ (j : List Event). j ++ g.0) (ap (λ (js : Journals). journal_of js t) m.1.appends ∙ same_journal s.journals t e m.1.within)
      ∙ append_assoc before (e ∷ []) g.0 in
      let here : at journals t (length before) ≡ Some e = ap (λ (j : List Event). slice_get j (length before)) whole ∙ slice_get_split before (e ∷ g.0) in
      let by_event : operation_of e ≡ m.0 = let wanted = ap next_in (sym here) ∙ m.1.wanted in cc in
      let within : t < length journals = let a = as_many_after W (t ∷ order) s in let b = ap (λ (js : Journals). length js) is in let c = m.1.within in omega arith in
      let track = subst (λ (j : List Event). IsOnTrack (thread_log_of log t) j) whole (follow.track t within) in
      let next = next_on_track (threads t before) (thread_log_of log t) before g.0 e track (follow.demanded t within before e g.0 whole) in
      let may : IsTrue (may_step V s t) = and_from _ _ (lt-ltb t (length s.journals) m.1.within) (proceeds_alike s (Some e) (next_of V s t) next ∙ ap (is_enabled s) by_event ∙ m.1.enabled) in
      let same : step V s t ≡ step W s t =
      ap (λ (b : Bool). elim b [ true ↦ proceeded s t (next_of V s t) | false ↦ s ]) may
      ∙ made_alike s t e (next_of V s t) next (ap (λ (o : Operation). event_made o s.heap) by_event)
      ∙ ap (performed s t) by_event ∙ sym m.1.stepped in
      let r = play_by_marks order (step W s t) is front.1 in
      ((may, subst (λ (x : PlainState). IsFront V x order) (sym same) r.0), ap (λ (x : PlainState). after V x order) same ∙ r.1)

  module _ (starts : List ℕ) (play : List ℕ) (s : PlainState) (is_play : IsFront W (starting_state starts journals) play) (comes : state_after_play starts journals play ≡ s) (has : s.journals ≡ journals) where
    abbrev From : Journals → Type 0
    From none = IsFront V (record { heap = starts; journals = none; draws = 0 }) play × (after V (record { heap = starts; journals = none; draws = 0 }) play ≡ s)

    pub front : IsFront V (starting_state starts log) play × (after V (starting_state starts log) play ≡ s)
    front =
        let r = play_by_marks play (starting_state starts journals) (ap (λ (x : PlainState). x.journals) comes ∙ has) is_play in
        subst From (same_start journals log follow.many) (r.0, r.1 ∙ comes)

    module _ (end : PlainState) (recording : IsRecording threads starts log end) where
      ordered : IsOrdered (after V (starting_state starts log) recording.order).journals
      ordered = subst (λ (x : PlainState). IsOrdered x.journals) (sym recording.ends) recording.ordered

      -- what was made so far begins what was made in the recording
      pub begins : (t : ℕ) → Begins (journal_of journals t) (journal_of end.journals t)
      begins t =
          let on = front_leads_on V starts log recording.order play recording.is_order ordered front.0 in
          let more = grown V on.0 (after V (starting_state starts log) play) t in (
            more.0,
            ap (λ (x : PlainState). journal_of x.journals t) (sym (on.2 ∙ recording.ends) ∙ after_on V play on.0 (starting_state starts log)) ∙ more.1
                ∙ ap (λ (x : PlainState). journal_of x.journals t ++ more.0) front.1 ∙ ap (λ (js : Journals). journal_of js t ++ more.0) has,
          )

      -- and where every thread is through, it is the same
      pub ends_there : AllFinished V s → s ≡ end
      ends_there through =
          sym front.1
          ∙ one_end V starts log recording.order play recording.is_order ordered (front.0, subst (λ (x : PlainState). AllFinished V x) (sym front.1) through)
          ∙ recording.ends

-- a thread that has made all its accesses and marks, and demands its end, is through
pub is_through : (demand : Demand) (log : ThreadLog) (journal : List Event) → log.marks ≡ gapped_marks 0 journal → log.accesses ≡ access_count journal → demand ≡ ToEnd → next_by_marks demand log journal ≡ Finished
is_through demand log journal marks accesses ends =
    let many : length log.marks ≡ mark_count journal = ap (λ (l : List Gapped). length l) marks ∙ length-gapped_marks 0 journal in
    next_parts demand log journal None ToEnd false false
    (ap (λ (o : Option Gapped). due_mark o (gap_after 0 journal)) (slice_get_past log.marks (mark_count journal) (omega arith)))
    ends
    (le-ltb (access_count journal) log.accesses (omega arith))
    (le-ltb (mark_count journal) (length log.marks) (omega arith))
