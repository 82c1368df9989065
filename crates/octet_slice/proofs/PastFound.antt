-- What is gathered is the past, and its log is that of the past's events.
use Rattle.std.proofs.Common.{◌≡◌, ℕ, suc, ◌+◌, ◌-◌, ◌<◌, ◌≤◌, inl, inr, List, [], ◌∷◌, ◌++◌, length, take, drop, get_or, Some, slice_get, refl, sym, ap, ◌∙◌, subst, arith}
use Rattle.std.proofs.Math.ListN as listn
use Rattle.std.proofs.lemmas.Bool.{cases_lt}
use Rattle.std.proofs.lemmas.List.{length-map, get_or-map, length-take-le, take-append-drop, get_or_past}
use Rattle.std.proofs.lemmas.Option.{slice_get_within}
use Rattle.octet_model.specs.declared.event.Event.{Event}
use Rattle.octet_model.specs.declared.event.Event.TheVariants.{Marked}
use Rattle.octet_model.specs.declared.event.Mark.{Mark}
use Rattle.octet_model.specs.declared.event.Mark.TheVariants.{Join, Draw, Fence}
use Rattle.octet_model.specs.declared.event.Place.{Place}
use Rattle.octet_model.specs.declared.log.Gapped.{Gapped}
use Rattle.octet_model.specs.declared.log.ThreadLog.{ThreadLog}
use Rattle.octet_model.specs.Journals.{access_count, mark_count, gapped_marks, log_of, log_of_journal}
use Rattle.octet_model.specs.Machine.{Journals, journal_of}
use Rattle.octet_model.specs.HappensBefore.{event_at, Edge, ProgramOrder, Joined, Drawn, Fenced, IsPath}
use Rattle.octet_model.specs.Past.{InPast, Reaches}
use Rattle.octet_model.proofs.lemmas.Pasts.{place}
use Rattle.octet_model.proofs.lemmas.Splits.{length_parts, length-gapped_marks, marks_split}
use Rattle.octet_slice.specs.declared.gathering.Reach.{Reach}
use Rattle.octet_slice.specs.FirstEvents.{first_events, IsClosed}
use Rattle.octet_slice.specs.code.Cutting.{CanCut, cut_thread, cut_log}
use Rattle.octet_slice.specs.Gathering.{AreOfLog, GathersPast, IsSettled, IsTakenIn}
use Rattle.octet_slice.specs.code.Reached.{no_reach, reach_of, count_of, Gathered, counts_in}
use Rattle.octet_slice.specs.Slice.{CountsPast}
use Rattle.octet_slice.proofs.lemmas.FirstEvents.{first_marks}
use Rattle.octet_slice.proofs.Marks.{as_many_marks}

count_at : (threads : List Reach) (t : ℕ) → get_or (counts_in threads) t 0 ≡ count_of threads t
count_at threads t = listn.get_or-map (λ (r : Reach). r.count) threads t no_reach

nowhere : (journals : Journals) (t event : ℕ) (e : Event) → length journals ≤ t → slice_get (journal_of journals t) event ≡ Some e → ⊥
nowhere journals t event e past is =
    let none : journal_of journals t ≡ [] = get_or_past journals t [] past in
    let there : slice_get {X = Event} [] event ≡ Some e = ap (λ (j : List Event). slice_get j event) (sym none) ∙ is in
    absurd (omega (arith, slice_get_within [] event e there))

module _ (journals : Journals) (log : List ThreadLog) (are : AreOfLog journals log) (thread now : ℕ) (g : Gathered) (whole : GathersPast journals thread now g) where
  abbrev n : ℕ → ℕ
  n t = count_of g.threads t

  settled : (t : ℕ) → IsSettled journals g t
  settled t = elim (cases_lt t (length journals)) [
    | inl lt ↦ whole.settled t lt
    | inr past ↦ record { marks = λ event mark lt is. absurd (nowhere journals t event (Marked mark) past is); draws = λ event number is le. absurd (nowhere journals t event (Marked (Draw number)) past is) }
  ]

  -- a mark that is gathered has what is before it gathered
  taken : (b : Place) (mark : Mark) → b.event < n b.thread → event_at journals b ≡ Some (Marked mark) → IsTakenIn g mark
  taken b mark lt is = whole.part.taken b mark ((settled b.thread).marks b.event mark lt is) is

  -- and draws up to the number are
  drawn : (a : Place) (number : ℕ) → event_at journals a ≡ Some (Marked (Draw number)) → number ≤ g.draws → a.event < n a.thread
  drawn a number is le = whole.part.passed a number ((settled a.thread).draws a.event number is le) is

  closed_by : (a b : Place) → Edge journals a b → b.event < n b.thread → a.event < n a.thread
  closed_by a b (ProgramOrder same next) lt = omega (arith, lt, next, ap n same)
  closed_by a b (Joined upto is below) lt = omega (arith, below, taken b (Join a.thread upto) lt is)
  closed_by a b (Drawn first then is_a is_b below) lt = drawn a first is_a (omega (arith, below, taken b (Draw then) lt is_b))
  closed_by a b (Fenced number upto is_a is_b below) lt = drawn a number is_a (omega (arith, below, taken b (Fence upto) lt is_b))

  path_in : (between : List Place) (a b : Place) → IsPath journals (a ∷ (between ++ b ∷ [])) → b.event < n b.thread → a.event < n a.thread
  path_in [] a b path lt = closed_by a b path.1 lt
  path_in (c ∷ between) a b path lt = closed_by a c path.1 (path_in between c b path.2 lt)

  counted : (p : Place) → InPast journals thread now p → p.event < n p.thread
  counted p past = go past.reaches
    where
      near : past.near < n thread
      near = omega (arith, past.below, whole.part.whole)

      go : Reaches journals p (place thread past.near) → p.event < n p.thread
      go (inl same) = subst (λ (q : Place). q.event < n q.thread) (sym same) near
      go (inr path) = path_in path.between p (place thread past.near) path.is_path near

  within : (t : ℕ) → n t ≤ length (journal_of journals t)
  within t = elim (cases_lt (length (journal_of journals t)) (n t)) [
    | inr le ↦ le
    | inl more ↦
        let is = (whole.part.in_past (place t (length (journal_of journals t))) more).is_event in
        absurd (omega (arith, slice_get_within (journal_of journals t) (length (journal_of journals t)) is.0 is.1))
  ]

  pub is_past : CountsPast journals thread now (counts_in g.threads)
  is_past = record {
    as_many = length-map g.threads (λ (r : Reach). r.count) ∙ whole.part.as_many;
    each = λ p. (
      (λ past. omega (arith, counted p past, count_at g.threads p.thread)),
      (λ lt. whole.part.in_past p (omega (arith, lt, count_at g.threads p.thread))),
    );
  }

  pub is_closed : IsClosed journals (counts_in g.threads)
  is_closed = record {
    within = λ t. omega (arith, within t, count_at g.threads t);
    by = λ a b edge lt. omega (arith, count_at g.threads a.thread, closed_by a b edge (omega (arith, lt, count_at g.threads b.thread)));
  }

  -- the thread's first events are gathered
  pub has_now : now ≤ get_or (counts_in g.threads) thread 0
  has_now = omega (arith, whole.part.whole, count_at g.threads thread)

  module _ (t : ℕ) where
    abbrev j : List Event
    j = journal_of journals t

    abbrev r : Reach
    r = reach_of g.threads t

    marks_inside : mark_count (take r.count j) ≡ r.taken_in.marks
    marks_inside =
        let le = whole.part.taken_in_within t in
        let span : r.taken_in.events + (r.count - r.taken_in.events) ≡ r.count = omega (arith, le) in
        let same = as_many_marks j (r.count - r.taken_in.events) r.taken_in.events (omega (arith, span, within t))
        (λ event mark low high is. absurd (omega (arith, low, (settled t).marks event mark (omega (arith, high, span)) is))) in
        ap (λ (k : ℕ). mark_count (take k j)) (sym span) ∙ same ∙ sym (whole.part.taken_in t).marks

    cut_is : cut_thread (log_of_journal j) r ≡ log_of_journal (take r.count j)
    cut_is =
        let long = length-take-le r.count j (within t) in
        let accesses : r.count - r.taken_in.marks ≡ access_count (take r.count j) = omega (arith, long, length_parts (take r.count j), marks_inside) in
        let marks : take r.taken_in.marks (gapped_marks 0 j) ≡ gapped_marks 0 (take r.count j) =
        ap (λ (k : ℕ). take k (gapped_marks 0 j)) (sym (length-gapped_marks 0 (take r.count j) ∙ marks_inside)) ∙ first_marks r.count j in
        ap (λ (k : ℕ). record { accesses = k; marks = take r.taken_in.marks (gapped_marks 0 j) }) accesses
        ∙ ap (λ (m : List Gapped). record { accesses = access_count (take r.count j); marks = m }) marks

    can_cut_journal : CanCut (log_of_journal j) r
    can_cut_journal = record {
      accesses = omega (arith, within t, are.short t);
      marks =
          omega (arith, marks_inside, length-gapped_marks 0 j, marks_split (take r.count j) (drop r.count j), ap mark_count (take-append-drop r.count j));
    }

  -- so the log that is cut is that of the gathered events
  pub cut_is_log : cut_log log g.threads ≡ log_of (first_events (counts_in g.threads) journals)
  cut_is_log = ap (λ (l : List ThreadLog). cut_log l g.threads) are.is_log ∙ all journals g.threads whole.part.as_many (λ t lt. cut_is t)
    where
      all : (js : Journals) (threads : List Reach) → length threads ≡ length js
          → ((t : ℕ) → t < length js → cut_thread (log_of_journal (journal_of js t)) (reach_of threads t) ≡ log_of_journal (take (count_of threads t) (journal_of js t)))
          → cut_log (log_of js) threads ≡ log_of (first_events (counts_in threads) js)
      all [] [] many each = refl
      all [] (s ∷ threads) many each = absurd (omega arith)
      all (i ∷ js) [] many each = absurd (omega arith)
      all (i ∷ js) (s ∷ threads) many each =
          let first : cut_thread (log_of_journal i) s ≡ log_of_journal (take s.count i) = each 0 (omega arith) in
          let rest : cut_log (log_of js) threads ≡ log_of (first_events (counts_in threads) js) = all js threads (omega arith) (λ t lt. each (suc t) (omega arith)) in
          cc

  pub can_cut : (t : ℕ) (l d : ThreadLog) → t < length log → l ≡ get_or log t d → CanCut l (reach_of g.threads t)
  can_cut t l d lt is =
      let there : t < length journals = omega (arith, lt, ap (λ (x : List ThreadLog). length x) are.is_log, length-map {B = ThreadLog} journals log_of_journal) in
      subst (λ (x : ThreadLog). CanCut x (reach_of g.threads t))
      (sym (is ∙ ap (λ (x : List ThreadLog). get_or x t d) are.is_log ∙ get_or-map log_of_journal journals t [] d there)) (can_cut_journal t)
