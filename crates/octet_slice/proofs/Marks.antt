-- What a cursor finds, and where it stands past that.
use Rattle.std.proofs.Common.{◌≡◌, ℕ, zero, suc, ◌+◌, ◌-◌, ◌^◌, ◌<◌, ◌≤◌, List, [], ◌∷◌, ◌++◌, length, take, drop, get_or, Option, Some, None, slice_get, min, refl, sym, ap, ◌∙◌, arith}
use Rattle.std.proofs.Math.Seq.{take-suc}
use Rattle.std.proofs.lemmas.List.{take-append-drop, length-take-le}
use Rattle.std.proofs.lemmas.Option.{slice_get_past, slice_get_within, slice_get-get_or, get_or_from_slice_get}
use Rattle.octet_model.specs.declared.event.Event.{Event}
use Rattle.octet_model.specs.declared.event.Event.TheVariants.{Read, Write, Update, Marked}
use Rattle.octet_model.specs.declared.event.Mark.{Mark}
use Rattle.octet_model.specs.declared.log.Gapped.{Gapped}
use Rattle.octet_model.specs.declared.log.ThreadLog.{ThreadLog}
use Rattle.octet_model.specs.Journals.{mark_count, gap_after, gapped_marks}
use Rattle.octet_model.proofs.lemmas.Splits.{marks_split, gap_split}
use Rattle.octet_slice.specs.declared.cursor.Cursor.{Cursor}
use Rattle.octet_slice.specs.declared.cursor.Placed.{Placed}
use Rattle.octet_slice.specs.code.Cursors.{past_mark, IsCursorOf, IsLogOfOne, IsFirstMark, NoMarks}
use Rattle.octet_model.proofs.lemmas.LogsOfJournals.{next_gapped}

-- the second part of a list from its start
second_part : {A : Type 0} (pre post : List A) (i : ℕ) → slice_get (pre ++ post) (length pre + i) ≡ slice_get post i
second_part [] post i = let same : 0 + i ≡ i = omega arith in ap (slice_get post) same
second_part (x ∷ pre) post i =
    let next : suc (length pre) + i ≡ suc (length pre + i) = omega arith in
    ap (slice_get (x ∷ (pre ++ post))) next ∙ second_part pre post i

-- where no mark is the first, there is none
no_first : (before : ℕ) (journal : List Event) (i : ℕ) (mark : Mark) → slice_get (gapped_marks before journal) 0 ≡ None → slice_get journal i ≡ Some (Marked mark) → ⊥
no_first before [] i mark none is = absurd cc
no_first before (Marked other ∷ journal) i mark none is = absurd cc
no_first before (Read object value ∷ journal) zero mark none is = absurd cc
no_first before (Write object value ∷ journal) zero mark none is = absurd cc
no_first before (Update object old new ∷ journal) zero mark none is = absurd cc
no_first before (access ∷ journal) (suc i) mark none is = no_first (suc before) journal i mark none is

-- the first mark, with the accesses before it
record IsFirst (before : ℕ) (journal : List Event) (first : Gapped) : Type 0 where
  at : ℕ
  gap : first.gap ≡ before + at
  is_mark : slice_get journal at ≡ Some (Marked first.mark)
  none_before : (i : ℕ) (mark : Mark) → i < at → slice_get journal i ≡ Some (Marked mark) → ⊥

first_past : (before : ℕ) (access : Event) (journal : List Event) (first : Gapped) → ((mark : Mark) → access ≡ Marked mark → ⊥) → IsFirst (suc before) journal first → IsFirst before (access ∷ journal) first
first_past before access journal first is_access f = record { at = suc f.at; gap = omega (arith, f.gap); is_mark = f.is_mark; none_before = none }
  where
    none : (i : ℕ) (mark : Mark) → i < suc f.at → slice_get (access ∷ journal) i ≡ Some (Marked mark) → ⊥
    none zero mark lt is = is_access mark cc
    none (suc i) mark lt is = f.none_before i mark (omega arith) is

first_is : (before : ℕ) (journal : List Event) (first : Gapped) → slice_get (gapped_marks before journal) 0 ≡ Some first → IsFirst before journal first
first_is before [] first is = absurd cc
first_is before (Marked mark ∷ journal) first is =
    let gap : before ≡ first.gap = ap (λ (o : Option Gapped). elim o [ None ↦ before | Some g ↦ g.gap ]) is in
    let same : mark ≡ first.mark = ap (λ (o : Option Gapped). elim o [ None ↦ mark | Some g ↦ g.mark ]) is in
    record { at = 0; gap = omega (arith, gap); is_mark = ap (λ (m : Mark). Some (Marked m)) same; none_before = λ i other lt at_i. absurd (omega arith) }
first_is before (Read object value ∷ journal) first is = first_past before (Read object value) journal first (λ mark e. absurd cc) (first_is (suc before) journal first is)
first_is before (Write object value ∷ journal) first is = first_past before (Write object value) journal first (λ mark e. absurd cc) (first_is (suc before) journal first is)
first_is before (Update object old new ∷ journal) first is = first_past before (Update object old new) journal first (λ mark e. absurd cc) (first_is (suc before) journal first is)

module _ (journal : List Event) (cursor : Cursor) (is : IsCursorOf journal cursor) where
  abbrev pre : List Event
  pre = take cursor.events journal

  abbrev post : List Event
  post = drop cursor.events journal

  parts : pre ++ post ≡ journal
  parts = take-append-drop cursor.events journal

  length_pre : length pre ≡ cursor.events
  length_pre = length-take-le cursor.events journal is.within

  at_later : (i : ℕ) → slice_get journal (cursor.events + i) ≡ slice_get post i
  at_later i = ap (λ (j : List Event). slice_get j (cursor.events + i)) (sym parts) ∙ ap (λ (n : ℕ). slice_get (pre ++ post) (n + i)) (sym length_pre) ∙ second_part pre post i

  module _ (log : ThreadLog) (of : IsLogOfOne journal log) where
    next_left : slice_get log.marks cursor.marks ≡ slice_get (gapped_marks 0 post) 0
    next_left =
        ap (λ (l : ThreadLog). slice_get l.marks cursor.marks) of.is_log
        ∙ ap (slice_get (gapped_marks 0 journal)) is.marks
        ∙ ap (λ (j : List Event). slice_get (gapped_marks 0 j) (mark_count pre)) (sym parts)
        ∙ next_gapped 0 pre post ∙ ap (λ (gap : ℕ). slice_get (gapped_marks gap post) 0) is.at_mark

    -- past the last mark there is none
    pub none_left : length log.marks ≤ cursor.marks → NoMarks journal cursor.events (length journal)
    none_left past event mark from upto at_event =
        let none : slice_get (gapped_marks 0 post) 0 ≡ None = sym next_left ∙ slice_get_past log.marks cursor.marks past in
        let there : slice_get post (event - cursor.events) ≡ Some (Marked mark) = sym (at_later (event - cursor.events)) ∙ ap (slice_get journal) (omega arith) ∙ at_event in
        no_first 0 post (event - cursor.events) mark none there

    found : (g : Gapped) → slice_get log.marks cursor.marks ≡ Some g → IsFirst 0 post g
    found g there = first_is 0 post g (sym next_left ∙ there)

    found_within : (g : Gapped) → slice_get log.marks cursor.marks ≡ Some g → cursor.events + g.gap < length journal
    found_within g there =
        let f = found g there in
        let at_event : slice_get journal (cursor.events + f.at) ≡ Some (Marked g.mark) = at_later f.at ∙ f.is_mark in
        omega (arith, f.gap, slice_get_within journal (cursor.events + f.at) (Marked g.mark) at_event)

    -- where a mark is left it is the first
    module _ (items : List Gapped) (same : items ≡ log.marks) (d : Gapped) (lt : cursor.marks < length log.marks) (event : ℕ)
        (event_is : event ≡ min (cursor.events + (get_or items cursor.marks d).gap) (2 ^ 64 - 1)) where
      there : slice_get log.marks cursor.marks ≡ Some (get_or items cursor.marks d)
      there = slice_get-get_or log.marks cursor.marks d lt ∙ ap (λ (marks : List Gapped). Some (get_or marks cursor.marks d)) (sym same)

      pub one_left : IsFirstMark journal cursor.events (record { event = event; mark = (get_or items cursor.marks d).mark })
      one_left =
          let f = found (get_or items cursor.marks d) there in
          let exact : event ≡ cursor.events + f.at = omega (arith, f.gap, found_within (get_or items cursor.marks d) there, of.short, event_is) in
          record {
            later = omega arith;
            is_mark = ap (slice_get journal) exact ∙ at_later f.at ∙ f.is_mark;
            none_between = λ i mark from upto at_i. f.none_before (i - cursor.events) mark (omega arith) (sym (at_later (i - cursor.events)) ∙ ap (slice_get journal) (omega arith) ∙ at_i);
          }

      -- and its place is not the number at the end of its type
      pub one_is_within : event ≡ 2 ^ 64 - 1 → ⊥
      one_is_within last = absurd (omega (arith, found_within (get_or items cursor.marks d) there, of.short, event_is, last))

-- one event more
one_more : (journal : List Event) (k : ℕ) (event : Event) → slice_get journal k ≡ Some event → take (suc k) journal ≡ take k journal ++ event ∷ []
one_more journal k event is =
    let lt = slice_get_within journal k event is in
    take-suc journal k event lt ∙ ap (λ (e : Event). take k journal ++ e ∷ []) (get_or_from_slice_get journal k event event is)

no_mark_more : (e : Event) → ((mark : Mark) → e ≡ Marked mark → ⊥) → mark_count (e ∷ []) ≡ 0
no_mark_more (Read object value) none = refl
no_mark_more (Write object value) none = refl
no_mark_more (Update object before after) none = refl
no_mark_more (Marked mark) none = absurd (none mark refl)

-- where no mark is between, there are as many marks
pub as_many_marks : (journal : List Event) (more from : ℕ) → from + more ≤ length journal → NoMarks journal from (from + more) → mark_count (take (from + more) journal) ≡ mark_count (take from journal)
as_many_marks journal zero from within none = ap (λ (n : ℕ). mark_count (take n journal)) (omega arith)
as_many_marks journal (suc more) from within none =
    let k = from + more in
    let last : suc k ≡ from + suc more = omega arith in
    let e = get_or journal k (Read 0 0) in
    let at_k : slice_get journal k ≡ Some e = slice_get-get_or journal k (Read 0 0) (omega arith) in
    let quiet = no_mark_more e (λ mark is. none k mark (omega arith) (omega arith) (at_k ∙ ap Some is)) in
    ap (λ (n : ℕ). mark_count (take n journal)) (sym last) ∙ ap mark_count (one_more journal k e at_k)
    ∙ marks_split (take k journal) (e ∷ []) ∙ omega (arith, quiet, as_many_marks journal more from (omega arith) (λ i mark low high is. none i mark low (omega arith) is))

-- past the next mark
pub past_is_cursor : (journal : List Event) (cursor : Cursor) (next : Placed) → IsCursorOf journal cursor → IsFirstMark journal cursor.events next → IsCursorOf journal (past_mark cursor next)
past_is_cursor journal cursor next is first =
    let lt = slice_get_within journal next.event (Marked next.mark) first.is_mark in
    let span : cursor.events + (next.event - cursor.events) ≡ next.event = omega (arith, first.later) in
    let same = as_many_marks journal (next.event - cursor.events) cursor.events (omega (arith, lt, span)) (λ i mark low high at_i. first.none_between i mark low (omega (arith, high, span)) at_i) in
    let upto = one_more journal next.event (Marked next.mark) first.is_mark in
    record {
      marks =
          ap suc (is.marks ∙ sym same ∙ ap (λ (n : ℕ). mark_count (take n journal)) span)
          ∙ sym (ap mark_count upto ∙ marks_split (take next.event journal) (Marked next.mark ∷ []) ∙ omega arith);
      at_mark = ap (gap_after 0) upto ∙ gap_split 0 (take next.event journal) (Marked next.mark ∷ []);
      within = lt;
    }

-- before the first event
pub starts_as_cursor : (journal : List Event) → IsCursorOf journal (record { marks = 0; events = 0 })
starts_as_cursor journal = record { marks = refl; at_mark = refl; within = omega arith }
