-- What a front of a log tells of its marks: they stand where the log has them, and each draw stands once.
use Rattle.std.proofs.Common.{◌⊎◌, ◌≡◌, ℕ, zero, suc, ◌+◌, ◌-◌, ◌<◌, ◌≤◌, inl, inr, Bool, true, false, nat_lt, cond, List, [], ◌∷◌, ◌++◌, length, Option, Some, None, IsTrue, slice_get, refl, sym, ap, ◌∙◌, subst, arith, append-nil, append_assoc, zero-add}
use Rattle.std.proofs.lemmas.Bool.{cases_eq, cases_lt, ltb-true, lt-ltb, le-ltb, eq-eqb, ne_eqb}
use Rattle.octet_model.specs.declared.event.Event.{Event}
use Rattle.octet_model.specs.declared.event.Event.TheVariants.{Read, Write, Update, Marked}
use Rattle.octet_model.specs.declared.event.Mark.{Mark}
use Rattle.octet_model.specs.declared.log.Gapped.{Gapped}
use Rattle.octet_model.specs.declared.log.ThreadLog.{ThreadLog}
use Rattle.octet_model.specs.declared.outcome.End.TheVariants.{Done}
use Rattle.octet_model.specs.Thread.{AccessOrEnd, ToRead, ToEnd}
use Rattle.octet_model.specs.Journals.{access_count, mark_count, gap_after, gapped_marks, due_mark, next_access, mark_first}
use Rattle.octet_model.specs.Machine.{Journals, journal_of, PlainState, Operation, MakeMark, MakeRead, MakeWrite, MakeUpdate, Next, Wants, Behavior, event_made, may_step, step, after, IsFront}
use Rattle.octet_model.specs.Orders.{thread_log_of}
use Rattle.octet_model.proofs.lemmas.Splits.{accesses_split, gap_split, gapped_marks_split, length-gapped_marks}
use Rattle.octet_model.proofs.lemmas.Lists.{slice_get_split}
use Rattle.octet_model.proofs.lemmas.LawfulOrders.{due_is_first}
use Rattle.octet_model.proofs.lemmas.LowestFronts.{IsNext, is_next, each_journal}
use Rattle.octet_clock.specs.Untied.{any_access, by_log_alone}
use Rattle.octet_parallel.specs.Needs.{mark_at}
use Rattle.octet_parallel.specs.Tracks.{Ahead, IsOnTrack}

-- what is next for a thread by its log, where it demands this
abbrev pub next_by_demand : AccessOrEnd → ThreadLog → List Event → Next
next_by_demand demand log journal =
    mark_first (due_mark (slice_get log.marks (mark_count journal)) (gap_after 0 journal))
    (next_access demand (nat_lt (access_count journal) log.accesses) (nat_lt (mark_count journal) (length log.marks)))

-- where none is due, the next one is further on
none_due : (rest : List Gapped) (gap : ℕ) → due_mark (slice_get rest 0) gap ≡ None → Ahead rest gap → Ahead rest (suc gap)
none_due [] gap none ahead next is = absurd cc
none_due (first ∷ more) gap none ahead next is =
    elim (cases_eq first.gap gap) [
      | inl same ↦ absurd (let due : due_mark (Some first) gap ≡ Some first.mark = ap (λ (b : Bool). cond b (Some first.mark) None) (eq-eqb first.gap gap same) in cc)
      | inr differ ↦ let one : first ≡ next = cc in let there : gap ≤ first.gap = ahead first refl in subst (λ (g : Gapped). suc gap ≤ g.gap) one (omega arith)
    ]

no_mark_due : (due : Option Mark) (d : AccessOrEnd) (a m : Bool) (o : Operation) (made : Event) (heap : List ℕ) → mark_first due (next_access d a m) ≡ Wants o → event_made o heap ≡ made → access_count (made ∷ []) ≡ 1 → due ≡ None
no_mark_due None d a m o made heap is e one = refl
no_mark_due (Some mark) d a m o made heap is e one =
    let same : o ≡ MakeMark mark = cc in
    let event : made ≡ Marked mark = sym e ∙ ap (λ (p : Operation). event_made p heap) same in
    absurd (omega (arith, one, ap (λ (x : Event). access_count (x ∷ [])) event))

module _ (log : ThreadLog) (demand : AccessOrEnd) (journal : List Event) (heap : List ℕ) where
  abbrev due : Option Mark
  due = due_mark (slice_get log.marks (mark_count journal)) (gap_after 0 journal)

  abbrev access_left : Bool
  access_left = nat_lt (access_count journal) log.accesses

  pub next_left : (track : IsOnTrack log journal) → slice_get log.marks (mark_count journal) ≡ slice_get track.rest 0
  next_left track =
      ap (λ (marks : List Gapped). slice_get marks (mark_count journal)) track.marks ∙ ap (slice_get (gapped_marks 0 journal ++ track.rest)) (sym (length-gapped_marks 0 journal)) ∙ slice_get_split (gapped_marks 0 journal) track.rest

  more_access : (e : Event) → access_count (e ∷ []) ≡ 1 → gapped_marks (gap_after 0 journal) (e ∷ []) ≡ [] → gap_after (gap_after 0 journal) (e ∷ []) ≡ suc (gap_after 0 journal)
      → access_left ≡ true → due ≡ None → IsOnTrack log journal → IsOnTrack log (journal ++ e ∷ [])
  more_access e one none longer left no_due track =
      record {
        accesses = omega (arith, accesses_split journal (e ∷ []), one, ltb-true (access_count journal) log.accesses left);
        rest = track.rest;
        marks = track.marks ∙ ap (λ (marks : List Gapped). marks ++ track.rest) (sym (gapped_marks_split 0 journal (e ∷ []) ∙ ap (λ (marks : List Gapped). gapped_marks 0 journal ++ marks) none ∙ append-nil (gapped_marks 0 journal)));
        ahead = subst (λ (gap : ℕ). Ahead track.rest gap) (sym (gap_split 0 journal (e ∷ []) ∙ longer))
            (none_due track.rest (gap_after 0 journal) (ap (λ (o : Option Gapped). due_mark o (gap_after 0 journal)) (sym (next_left track)) ∙ no_due) track.ahead);
      }

  more_mark : (mark : Mark) → due ≡ Some mark → IsOnTrack log journal → IsOnTrack log (journal ++ Marked mark ∷ [])
  more_mark mark is track =
      let made = gapped_marks 0 journal in
      let one : Gapped = record { gap = gap_after 0 journal; mark = mark } in
      let first = due_is_first track.rest (gap_after 0 journal) mark (ap (λ (o : Option Gapped). due_mark o (gap_after 0 journal)) (sym (next_left track)) ∙ is) in
      record {
        accesses = omega (arith, accesses_split journal (Marked mark ∷ []), track.accesses);
        rest = first.0;
        marks =
            track.marks ∙ ap (λ (rest : List Gapped). made ++ rest) first.1 ∙ sym (append_assoc made (one ∷ []) first.0)
            ∙ ap (λ (marks : List Gapped). marks ++ first.0) (sym (gapped_marks_split 0 journal (Marked mark ∷ [])));
        ahead = λ next is. let z : gap_after 0 (journal ++ Marked mark ∷ []) ≡ 0 = gap_split 0 journal (Marked mark ∷ []) in omega arith;
      }

  track_more : (o : Operation) → next_by_demand demand log journal ≡ Wants o → IsOnTrack log journal → IsOnTrack log (journal ++ event_made o heap ∷ [])
  track_more o is track = go o is (is_next due demand access_left (nat_lt (mark_count journal) (length log.marks)) o is)
    where
      go : (o : Operation) → next_by_demand demand log journal ≡ Wants o → IsNext due demand access_left o → IsOnTrack log (journal ++ event_made o heap ∷ [])
      go (MakeMark mark) is next = more_mark mark next track
      go (MakeRead object) is next = more_access (event_made (MakeRead object) heap) refl refl refl next.1 (no_mark_due due demand access_left _ (MakeRead object) _ heap is refl refl) track
      go (MakeWrite object value) is next = more_access (event_made (MakeWrite object value) heap) refl refl refl next.1 (no_mark_due due demand access_left _ (MakeWrite object value) _ heap is refl refl) track
      go (MakeUpdate object change) is next = more_access (event_made (MakeUpdate object change) heap) refl refl refl next.1 (no_mark_due due demand access_left _ (MakeUpdate object change) _ heap is refl refl) track

-- threads that follow a log, whatever they demand
module _ (V : Behavior) (demand : ℕ → List Event → AccessOrEnd) (log : List ThreadLog) (follows : (t : ℕ) (journal : List Event) → next_by_demand (demand t journal) (thread_log_of log t) journal ≡ V t journal) where
  abbrev pub AllOnTrack : Journals → Type 0
  AllOnTrack journals = (t : ℕ) → IsOnTrack (thread_log_of log t) (journal_of journals t)

  track_step : (s : PlainState) (t : ℕ) → IsTrue (may_step V s t) → AllOnTrack s.journals → AllOnTrack (step V s t).journals
  track_step s t may track =
      each_journal V s t may (λ u j. IsOnTrack (thread_log_of log u) j) track
      (λ o m. track_more (thread_log_of log t) (demand t (journal_of s.journals t)) (journal_of s.journals t) s.heap o (follows t (journal_of s.journals t) ∙ m.wanted) (track t))

  pub front_on_track : (front : List ℕ) (s : PlainState) → IsFront V s front → AllOnTrack s.journals → AllOnTrack (after V s front).journals
  front_on_track [] s is track = track
  front_on_track (t ∷ front) s is track = front_on_track front (step V s t) is.1 (track_step s t is.0 track)

-- a log alone lets a thread do what it lets one do that demands an access where one is left, and else its end
abbrev pub any_demand : Bool → AccessOrEnd
any_demand true = ToRead 0
any_demand false = ToEnd Done

demands_alike : (a m : Bool) → next_access (any_demand a) a m ≡ any_access a m
demands_alike true true = refl
demands_alike true false = refl
demands_alike false true = refl
demands_alike false false = refl

pub follows_alone : (log : List ThreadLog) (t : ℕ) (journal : List Event) → next_by_demand (any_demand (nat_lt (access_count journal) (thread_log_of log t).accesses)) (thread_log_of log t) journal ≡ by_log_alone log t journal
follows_alone log t journal =
    ap (mark_first (due_mark (slice_get (thread_log_of log t).marks (mark_count journal)) (gap_after 0 journal)))
    (demands_alike (nat_lt (access_count journal) (thread_log_of log t).accesses) (nat_lt (mark_count journal) (length (thread_log_of log t).marks)))

-- nothing is made yet
pub none_on_track : (log : ThreadLog) → IsOnTrack log []
none_on_track log = record { accesses = omega arith; rest = log.marks; marks = refl; ahead = λ next is. omega arith }

-- the marks of a log at places that a journal has are those of the journal
pub mark_here : (next : Gapped) (marks : List Gapped) → mark_at (next ∷ marks) next.gap ≡ Some next.mark
mark_here next marks = ap (λ (b : Bool). cond b (Some next.mark) (cond (nat_lt next.gap next.gap) (mark_at marks (next.gap - suc next.gap)) None)) (eq-eqb next.gap next.gap refl)

pub mark_later : (next : Gapped) (marks : List Gapped) (event : ℕ) → mark_at (next ∷ marks) (suc (next.gap + event)) ≡ mark_at marks event
mark_later next marks event =
    let k = suc (next.gap + event) in
    ap (λ (b : Bool). cond b (Some next.mark) (cond (nat_lt next.gap k) (mark_at marks (k - suc next.gap)) None)) (ne_eqb k next.gap (λ e. omega arith))
    ∙ ap (λ (b : Bool). cond b (mark_at marks (k - suc next.gap)) None) (lt-ltb next.gap k (omega arith))
    ∙ ap (mark_at marks) (let e : k - suc next.gap ≡ event = omega arith in e)

none_before : (next : Gapped) (marks : List Gapped) (event : ℕ) → event < next.gap → mark_at (next ∷ marks) event ≡ None
none_before next marks event h =
    ap (λ (b : Bool). cond b (Some next.mark) (cond (nat_lt next.gap event) (mark_at marks (event - suc next.gap)) None)) (ne_eqb event next.gap (λ e. omega arith))
    ∙ ap (λ (b : Bool). cond b (mark_at marks (event - suc next.gap)) None) (le-ltb next.gap event (omega arith))

none_first : (marks : List Gapped) (gap event : ℕ) → Ahead marks gap → event < gap → mark_at marks event ≡ None
none_first [] gap event ahead h = refl
none_first (next ∷ marks) gap event ahead h = none_before next marks event (let a = ahead next refl in omega arith)

-- a mark of a list is the first, or one of the others
pub mark_parts : (next : Gapped) (marks : List Gapped) (event : ℕ) (mark : Mark) → mark_at (next ∷ marks) event ≡ Some mark
    → ((event ≡ next.gap) × (next.mark ≡ mark)) ⊎ ((later : ℕ) × (mark_at marks later ≡ Some mark))
mark_parts next marks event mark is =
    elim (cases_eq event next.gap) [
      | inl same ↦ inl (same, (let here : mark_at (next ∷ marks) event ≡ Some next.mark = ap (mark_at (next ∷ marks)) same ∙ mark_here next marks in cc))
      | inr differ ↦ elim (cases_lt event next.gap) [
        | inl before ↦ absurd (let none = none_before next marks event before in cc)
        | inr after_it ↦
            let k : ℕ = event - suc next.gap in
            let there : event ≡ suc (next.gap + k) = omega arith in
            inr (k, sym (mark_later next marks k) ∙ ap (mark_at (next ∷ marks)) (sym there) ∙ is)
      ]
    ]

-- the mark that an event is
abbrev pub mark_of : Option Event → Option Mark
mark_of (Some (Marked mark)) = Some mark
mark_of _ = None

-- the first mark has at least the accesses before it as its gap
gaps_ahead : (before : ℕ) (journal : List Event) (rest : List Gapped) → Ahead rest (gap_after before journal) → Ahead (gapped_marks before journal ++ rest) before
gaps_ahead before [] rest ahead next is = ahead next is
gaps_ahead before (Read object value ∷ journal) rest ahead next is = let a = gaps_ahead (suc before) journal rest ahead next is in omega arith
gaps_ahead before (Write object value ∷ journal) rest ahead next is = let a = gaps_ahead (suc before) journal rest ahead next is in omega arith
gaps_ahead before (Update object old new ∷ journal) rest ahead next is = let a = gaps_ahead (suc before) journal rest ahead next is in omega arith
gaps_ahead before (Marked mark ∷ journal) rest ahead next is = let e : record { gap = before; mark = mark } ≡ next = cc in subst (λ (g : Gapped). before ≤ g.gap) e (omega arith)

marks_agree : (before : ℕ) (journal : List Event) (rest : List Gapped) → Ahead rest (gap_after before journal) → (k : ℕ) → k < length journal
    → mark_at (gapped_marks before journal ++ rest) (before + k) ≡ mark_of (slice_get journal k)
marks_agree before [] rest ahead k h = absurd (omega arith)
marks_agree before (Marked mark ∷ journal) rest ahead zero h =
    ap (mark_at (record { gap = before; mark = mark } ∷ (gapped_marks 0 journal ++ rest))) (let e : before + 0 ≡ before = omega arith in e) ∙ mark_here (record { gap = before; mark = mark }) (gapped_marks 0 journal ++ rest)
marks_agree before (Marked mark ∷ journal) rest ahead (suc k) h =
    ap (mark_at (record { gap = before; mark = mark } ∷ (gapped_marks 0 journal ++ rest))) (let e : before + suc k ≡ suc (before + k) = omega arith in e)
    ∙ mark_later (record { gap = before; mark = mark }) (gapped_marks 0 journal ++ rest) k ∙ ap (mark_at (gapped_marks 0 journal ++ rest)) (sym (zero-add k)) ∙ marks_agree 0 journal rest ahead k (omega arith)
marks_agree before (Read object value ∷ journal) rest ahead zero h = none_first (gapped_marks (suc before) journal ++ rest) (suc before) (before + 0) (gaps_ahead (suc before) journal rest ahead) (omega arith)
marks_agree before (Read object value ∷ journal) rest ahead (suc k) h = ap (mark_at (gapped_marks (suc before) journal ++ rest)) (let e : before + suc k ≡ suc before + k = omega arith in e) ∙ marks_agree (suc before) journal rest ahead k (omega arith)
marks_agree before (Write object value ∷ journal) rest ahead zero h = none_first (gapped_marks (suc before) journal ++ rest) (suc before) (before + 0) (gaps_ahead (suc before) journal rest ahead) (omega arith)
marks_agree before (Write object value ∷ journal) rest ahead (suc k) h = ap (mark_at (gapped_marks (suc before) journal ++ rest)) (let e : before + suc k ≡ suc before + k = omega arith in e) ∙ marks_agree (suc before) journal rest ahead k (omega arith)
marks_agree before (Update object old new ∷ journal) rest ahead zero h = none_first (gapped_marks (suc before) journal ++ rest) (suc before) (before + 0) (gaps_ahead (suc before) journal rest ahead) (omega arith)
marks_agree before (Update object old new ∷ journal) rest ahead (suc k) h = ap (mark_at (gapped_marks (suc before) journal ++ rest)) (let e : before + suc k ≡ suc before + k = omega arith in e) ∙ marks_agree (suc before) journal rest ahead k (omega arith)

-- where a journal follows a log, its events are marks where the log has them
pub marks_are : (log : ThreadLog) (journal : List Event) → IsOnTrack log journal → (k : ℕ) → k < length journal → mark_at log.marks k ≡ mark_of (slice_get journal k)
marks_are log journal track k h = ap (λ (ms : List Gapped). mark_at ms k) track.marks ∙ ap (mark_at (gapped_marks 0 journal ++ track.rest)) (sym (zero-add k)) ∙ marks_agree 0 journal track.rest track.ahead k h

-- and the next mark stands next
due_stands : (before : ℕ) (journal : List Event) (rest : List Gapped) (mark : Mark) → due_mark (slice_get rest 0) (gap_after before journal) ≡ Some mark → mark_at (gapped_marks before journal ++ rest) (before + length journal) ≡ Some mark
due_stands before [] rest mark is =
    let first = due_is_first rest before mark is in
    ap (λ (ms : List Gapped). mark_at ms (before + 0)) first.1 ∙ ap (mark_at (record { gap = before; mark = mark } ∷ first.0)) (let e : before + 0 ≡ before = omega arith in e) ∙ mark_here (record { gap = before; mark = mark }) first.0
due_stands before (Marked made ∷ journal) rest mark is =
    ap (mark_at (record { gap = before; mark = made } ∷ (gapped_marks 0 journal ++ rest))) (let e : before + length (Marked made ∷ journal) ≡ suc (before + length journal) = omega arith in e)
    ∙ mark_later (record { gap = before; mark = made }) (gapped_marks 0 journal ++ rest) (length journal) ∙ ap (mark_at (gapped_marks 0 journal ++ rest)) (sym (zero-add (length journal))) ∙ due_stands 0 journal rest mark is
due_stands before (Read object value ∷ journal) rest mark is = ap (mark_at (gapped_marks (suc before) journal ++ rest)) (let e : before + suc (length journal) ≡ suc before + length journal = omega arith in e) ∙ due_stands (suc before) journal rest mark is
due_stands before (Write object value ∷ journal) rest mark is = ap (mark_at (gapped_marks (suc before) journal ++ rest)) (let e : before + suc (length journal) ≡ suc before + length journal = omega arith in e) ∙ due_stands (suc before) journal rest mark is
due_stands before (Update object old new ∷ journal) rest mark is = ap (mark_at (gapped_marks (suc before) journal ++ rest)) (let e : before + suc (length journal) ≡ suc before + length journal = omega arith in e) ∙ due_stands (suc before) journal rest mark is

pub due_there : (log : ThreadLog) (journal : List Event) (mark : Mark) → IsOnTrack log journal → due_mark (slice_get log.marks (mark_count journal)) (gap_after 0 journal) ≡ Some mark → mark_at log.marks (length journal) ≡ Some mark
due_there log journal mark track is =
    ap (λ (ms : List Gapped). mark_at ms (length journal)) track.marks
    ∙ ap (mark_at (gapped_marks 0 journal ++ track.rest)) (sym (zero-add (length journal))) ∙ due_stands 0 journal track.rest mark (ap (λ (o : Option Gapped). due_mark o (gap_after 0 journal)) (sym (next_left log (ToRead 0) journal [] track)) ∙ is)
