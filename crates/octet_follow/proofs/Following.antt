-- What becomes of a follower that makes an event.
use Rattle.std.proofs.Common.{◌≡◌, ◌≢◌, ◌∙◌, ℕ, zero, suc, ◌+◌, ◌-◌, ◌<◌, ◌≤◌, true, false, List, [], ◌∷◌, ◌++◌, map, take, drop, length, get_or, refl, sym, ap, subst, arith, append-nil, append_assoc, length-append}
use Rattle.std.proofs.lemmas.List.{map-append}
use Rattle.std.specs.Vec.{vec_capacity}
use Rattle.octet_model.specs.declared.event.Event.{Event}
use Rattle.octet_model.specs.declared.event.Event.TheVariants.{Marked}
use Rattle.octet_model.specs.declared.event.Mark.{Mark}
use Rattle.octet_model.specs.declared.log.Gapped.{Gapped}
use Rattle.octet_digest.specs.Digests.{bits_of, digest_with, digest_of}
use Rattle.octet_digest.proofs.lemmas.Digests.{journals_join}
use Rattle.octet_model.specs.Journals.{access_count, mark_count, gap_after, gapped_marks}
use Rattle.octet_model.proofs.lemmas.Splits.{length_parts, marks_split, gap_split, gapped_marks_split}
use Rattle.octet_follow.specs.declared.access.Access.{Access}
use Rattle.octet_follow.specs.declared.course.Course.{Course}
use Rattle.octet_follow.specs.declared.follower.Follower.{Follower}
use Rattle.octet_follow.specs.Views.{FollowerView}
use Rattle.octet_follow.specs.Seats.{IsSeatOf, Goes}
use Rattle.octet_follow.specs.declared.access.Access.TheVariants.{Read, Write, Update}
use Rattle.octet_follow.specs.Accesses.{event_of, GoesBy}
use Rattle.octet_follow.specs.Blocks.{lengthened, carried, after_taken, TakesBlock}
use Rattle.octet_follow.specs.Calls.{view_of, journal_in, pending, with_first_gap, gap_to_next, after_last, given, given_after, IsShown, IsUpTo, IsFollowerOf, IsGivenSame, IsThrough, IsOut, IsDue, CountsMark, MakesMarks, Makes}

pub longer : (j : List Event) (e : Event) → length (j ++ e ∷ []) ≡ length j + 1
longer j e = length-append j (e ∷ [])

-- an access, which is no mark
pub record IsAccess (e : Event) : Type 0 where
  pub one : access_count (e ∷ []) ≡ 1
  pub no_mark : mark_count (e ∷ []) ≡ 0
  pub gap : (before : ℕ) → gap_after before (e ∷ []) ≡ suc before
  pub none : (before : ℕ) → gapped_marks before (e ∷ []) ≡ []

pub is_access : (access : Access) (found : ℕ) → IsAccess (event_of access found)
is_access (Read object) found = record { one = refl; no_mark = refl; gap = λ before. refl; none = λ before. refl }
is_access (Write object value) found = record { one = refl; no_mark = refl; gap = λ before. refl; none = λ before. refl }
is_access (Update object change) found = record { one = refl; no_mark = refl; gap = λ before. refl; none = λ before. refl }

-- the digest of one event more
digest_more : (journal : List Event) (e : Event) → digest_of (journal ++ e ∷ []) ≡ digest_with e (digest_of journal)
digest_more journal e = journals_join 0 journal (e ∷ [])

-- what a follower shows it has made
pub shows_made : (f : Follower) → IsUpTo f → (view_of f).follower.shown ≤ length (journal_in f)
shows_made f up = let a = up.shown in let b = up.within in omega arith

-- an access is made, and not shown
pub accessed : (course : Course) (f g : Follower) (e : Event) → IsAccess e → IsFollowerOf course f → IsShown f → IsSeatOf course.words g.seat → Goes (view_of f) (e ∷ []) false (view_of g)
    → g.shown ≡ f.shown → bits_of g.digest ≡ digest_with e (bits_of f.digest)
    → g.number ≡ f.number → g.ending ≡ f.ending → g.after ≡ f.after → g.awaited ≡ f.awaited → g.marked ≡ f.marked → g.next ≡ f.next → g.marks ≡ f.marks → g.events ≡ f.events + 1 → suc g.left ≡ f.left
    → IsFollowerOf course g × IsGivenSame f g
accessed course f g e is own all seat goes shown digest number ending after awaited marked next marks events left = (
  record {
    own = seat;
    number = goes.number ∙ own.number ∙ sym number;
    inside = let a = own.inside in omega arith;
    up = record {
      events = made;
      marked = marked ∙ own.up.marked ∙ (let a = marks_split (journal_in f) (e ∷ []) in let b = is.no_mark in let c : mark_count (journal_in f) ≡ mark_count (journal_in f ++ e ∷ []) = omega arith in c) ∙ ap mark_count (sym goes.journal);
      shown = shown ∙ own.up.shown ∙ sym goes.shown;
      within = let a = own.up.within in let b = one_more in omega arith;
      shows = λ h. let a = all (let b = one_more in omega arith) in let b = own.up.shown in let c = one_more in omega arith;
      next = let a = own.up.next in let b = ap (λ (l : List Gapped). length l) items in omega arith;
      digest = digest ∙ (ap (digest_with e) own.up.digest ∙ (sym (digest_more (journal_in f) e) ∙ ap digest_of (sym goes.journal)));
    };
  },
  record {
    same = record { number = goes.number; room = ap (λ v. vec_capacity v) marks; awaited = awaited };
    marks = λ i. same_marks i ++ with_first_gap (same_gap i) (same_pending i);
    after = λ i. after_last (same_pending i) (same_gap i) (after i);
    ending = ending;
  },
)
  where
    items : g.marks.items ≡ f.marks.items
    items = ap (λ v. v.items) marks

    one_more : length (journal_in g) ≡ length (journal_in f) + 1
    one_more = ap (λ (j : List Event). length j) goes.journal ∙ longer (journal_in f) e

    same_pending : pending g ≡ pending f
    same_pending = λ i. drop (next i) (items i)

    same_marks : gapped_marks 0 (journal_in g) ≡ gapped_marks 0 (journal_in f)
    same_marks =
        ap (λ (j : List Event). gapped_marks 0 j) goes.journal
        ∙ (gapped_marks_split 0 (journal_in f) (e ∷ []) ∙ (ap (λ (l : List Gapped). gapped_marks 0 (journal_in f) ++ l) (is.none (gap_after 0 (journal_in f))) ∙ append-nil (gapped_marks 0 (journal_in f))))

    same_gap : gap_to_next g ≡ gap_to_next f
    same_gap =
        let longer_gap : gap_after 0 (journal_in g) ≡ suc (gap_after 0 (journal_in f)) = ap (λ (j : List Event). gap_after 0 j) goes.journal ∙ (gap_split 0 (journal_in f) (e ∷ []) ∙ is.gap (gap_after 0 (journal_in f))) in
        omega arith

    made : g.events ≡ length (journal_in g)
    made = events ∙ (ap (λ (n : ℕ). n + 1) own.up.events ∙ sym (longer (journal_in f) e)) ∙ ap (λ (j : List Event). length j) (sym goes.journal)

drop_at : (xs : List Gapped) (k : ℕ) (d : Gapped) → k < length xs → drop k xs ≡ get_or xs k d ∷ drop (suc k) xs
drop_at [] k d h = absurd (omega arith)
drop_at (x ∷ xs) zero d h = refl
drop_at (x ∷ xs) (suc k) d h = drop_at xs k d (omega arith)

drop_none : (xs : List Gapped) (k : ℕ) → drop k xs ≡ [] → length xs ≤ k
drop_none [] k is = omega arith
drop_none (x ∷ xs) zero is = absurd cc
drop_none (x ∷ xs) (suc k) is = let a = drop_none xs k is in omega arith

-- the first mark of the buffer is made and counted: `h` is the follower with its seat after the mark
pub marked_one : (course : Course) (f h g : Follower) (d : Gapped) → IsDue f → IsFollowerOf course f → IsSeatOf course.words h.seat → Goes (view_of f) (Marked (get_or f.marks.items f.next d).mark ∷ []) true (view_of h)
    → h.number ≡ f.number → h.ending ≡ f.ending → h.after ≡ f.after → h.digest ≡ f.digest → h.awaited ≡ f.awaited → h.marked ≡ f.marked → h.next ≡ f.next → h.marks ≡ f.marks → h.events ≡ f.events → h.left ≡ f.left → CountsMark h g
    → IsFollowerOf course g × IsGivenSame f g × IsShown g
marked_one course f h g d due own seat goes number ending after digest awaited marked next marks events left counts = (
  record {
    own = subst (IsSeatOf course.words) (sym counts.seat) seat;
    number = ap (λ (v : FollowerView). v.number) same_view ∙ goes.number ∙ own.number ∙ sym (counts.number ∙ number);
    inside = let a = own.inside in let b = counts.number in omega arith;
    up = record {
      events = made;
      shown = shown_all ∙ made ∙ sym (ap (λ (v : FollowerView). v.follower.shown) same_view ∙ goes.shown ∙ ap (λ (v : FollowerView). length v.follower.journal) (sym same_view));
      within = let a = shown_all in let b = made in omega arith;
      shows = λ h. let a = shown_all in let b = made in omega arith;
      marked = counts.marked ∙ ap (λ (n : ℕ). n + 1) (marked ∙ own.up.marked) ∙ (let a = marks_split (journal_in f) (e ∷ []) in let c : mark_count (journal_in f) + 1 ≡ mark_count (journal_in f ++ e ∷ []) = omega arith in c) ∙ ap mark_count (sym journal);
      next = let a = due.1 in let b = ap (λ (l : List Gapped). length l) items in let c = counts.on in omega arith;
      digest = ap bits_of (counts.digest ∙ digest) ∙ (own.up.digest ∙ (sym (digest_more (journal_in f) e) ∙ ap digest_of (sym journal)));
    };
  },
  record {
    same = record { number = ap (λ (v : FollowerView). v.number) same_view ∙ goes.number; room = ap (λ v. vec_capacity v) (counts.marks ∙ marks); awaited = counts.awaited ∙ awaited };
    marks =
        (λ i. gapped_marks 0 (journal i) ++ to_come i)
        ∙ (ap (λ (l : List Gapped). l ++ rest) (gapped_marks_split 0 (journal_in f) (e ∷ []))
        ∙ (append_assoc (gapped_marks 0 (journal_in f)) (record { gap = gap_after 0 (journal_in f); mark = first.mark } ∷ []) rest
        ∙ (ap (λ (n : ℕ). gapped_marks 0 (journal_in f) ++ record { gap = n; mark = first.mark } ∷ rest) (let b = due.0 in let c : gap_after 0 (journal_in f) ≡ gap_to_next f = omega arith in c)
        ∙ ap (λ (l : List Gapped). gapped_marks 0 (journal_in f) ++ with_first_gap (gap_to_next f) l) (sym is_pending))));
    after = came_after (pending g) refl ∙ ap (λ (l : List Gapped). after_last l (gap_to_next f) f.after) (sym is_pending);
    ending = counts.ending ∙ ending;
  },
  (λ h. ap (λ (v : FollowerView). v.follower.shown) same_view ∙ goes.shown ∙ ap (λ (v : FollowerView). length v.follower.journal) (sym same_view)),
)
  where
    first : Gapped
    first = get_or f.marks.items f.next d

    e : Event
    e = Marked first.mark

    rest : List Gapped
    rest = drop (suc f.next) f.marks.items

    items : g.marks.items ≡ f.marks.items
    items = ap (λ v. v.items) (counts.marks ∙ marks)

    same_view : view_of g ≡ view_of h
    same_view = ap (λ s. s.inner.me.0) counts.seat

    journal : journal_in g ≡ journal_in f ++ e ∷ []
    journal = ap (λ (v : FollowerView). v.follower.journal) same_view ∙ goes.journal

    made : g.events ≡ length (journal_in g)
    made = counts.events ∙ ap (λ (n : ℕ). n + 1) (events ∙ own.up.events) ∙ sym (longer (journal_in f) e) ∙ ap (λ (j : List Event). length j) (sym journal)

    shown_all : g.shown ≡ g.events
    shown_all = counts.shown ∙ sym counts.events

    is_pending : pending f ≡ first ∷ rest
    is_pending = drop_at f.marks.items f.next d due.1

    on : g.next ≡ suc f.next
    on = let a = counts.on in omega arith

    rest_is : pending g ≡ rest
    rest_is = λ i. drop (on i) (items i)

    gap_is : gap_after 0 (journal_in f ++ e ∷ []) ≡ 0
    gap_is = gap_split 0 (journal_in f) (e ∷ [])

    -- no access came since the mark
    gap_there : gap_to_next g ≡ g.left
    gap_there = let a = ap (λ (j : List Event). gap_after 0 j) journal ∙ gap_is in omega arith

    unchanged : (l : List Gapped) → pending g ≡ l → with_first_gap (gap_to_next g) l ≡ l
    unchanged [] is = refl
    unchanged (mark ∷ l) is = ap (λ (n : ℕ). record { gap = n; mark = mark.mark } ∷ l) (gap_there ∙ counts.left mark l is)

    to_come : with_first_gap (gap_to_next g) (pending g) ≡ rest
    to_come = unchanged (pending g) refl ∙ rest_is

    came_after : (l : List Gapped) → pending g ≡ l → after_last l (gap_to_next g) g.after ≡ f.after
    came_after (mark ∷ l) is = counts.after ∙ after
    came_after [] is =
        gap_there
        ∙ (counts.last (let a = drop_none g.marks.items g.next is in let b = due.1 in let c = ap (λ (l : List Gapped). length l) items in let z = ap (λ v. length v.items) counts.marks in let n = counts.on in let m = next in omega arith) ∙ after)

-- what is made
one_mark : (v w : FollowerView) (mark : Mark) → w.follower.journal ≡ v.follower.journal ++ Marked mark ∷ [] → MakesMarks v w
one_mark v w mark made = record { marks = mark ∷ []; grown = made }

pub mark_made : (f h g : Follower) (mark : Mark) → Goes (view_of f) (Marked mark ∷ []) true (view_of h) → CountsMark h g → MakesMarks (view_of f) (view_of g)
mark_made f h g mark goes counts = one_mark (view_of f) (view_of g) mark (ap (λ s. s.inner.me.0.follower.journal) counts.seat ∙ goes.journal)

pub marks_both : (v u w : FollowerView) → MakesMarks v u → MakesMarks u w → MakesMarks v w
marks_both v u w before after = record {
  marks = before.marks ++ after.marks;
  grown =
      after.grown ∙ (ap (λ (j : List Event). j ++ map (λ m. Marked m) after.marks) before.grown
      ∙ (append_assoc v.follower.journal (map (λ m. Marked m) before.marks) (map (λ m. Marked m) after.marks)
      ∙ ap (λ (j : List Event). v.follower.journal ++ j) (sym (map-append (λ (m : Mark). Marked m) before.marks after.marks))));
}

pub given_both : (f g h : Follower) → IsGivenSame f g → IsGivenSame g h → IsGivenSame f h
given_both f g h a b = record { same = record { number = b.same.number ∙ a.same.number; room = b.same.room ∙ a.same.room; awaited = b.same.awaited ∙ a.same.awaited }; marks = b.marks ∙ a.marks; after = b.after ∙ a.after; ending = b.ending ∙ a.ending }

-- nothing is made
pub no_mark : (v w : FollowerView) → w.follower.journal ≡ v.follower.journal → MakesMarks v w
no_mark v w same = record { marks = []; grown = same ∙ sym (append-nil v.follower.journal) }

pub makes_access : (access : Access) (value : ℕ) (v w : FollowerView) → GoesBy access v value w → Makes access v value w
makes_access access value v w by = record { marks = []; found = by.found; grown = by.goes.journal; told = by.told; state = by.goes.state; seen = by.goes.seen }

-- marks, and then an access after more of them
pub marks_first : (access : Access) (v u : FollowerView) (value : ℕ) (w : FollowerView) → MakesMarks v u → Makes access u value w → Makes access v value w
marks_first access v u value w before made = record {
  marks = before.marks ++ made.marks;
  found = made.found;
  grown =
      let marked : List Mark → List Event = λ marks. map (λ m. Marked m) marks in
      let last = event_of access made.found ∷ [] in
      made.grown ∙ (ap (λ (j : List Event). j ++ (marked made.marks ++ last)) before.grown
      ∙ (append_assoc v.follower.journal (marked before.marks) (marked made.marks ++ last)
      ∙ ap (λ (j : List Event). v.follower.journal ++ j) (sym (append_assoc (marked before.marks) (marked made.marks) last)
      ∙ ap (λ (j : List Event). j ++ last) (sym (map-append (λ (m : Mark). Marked m) before.marks made.marks)))));
  told = made.told;
  state = made.state;
  seen = made.seen;
}

-- numbers
pub one_less : (n : ℕ) → n ≢ 0 → suc (n - 1) ≡ n
one_less zero ne = absurd (ne refl)
one_less (suc n) ne = omega arith

pub few_marked : (f : Follower) → IsUpTo f → f.marked ≤ f.events
few_marked f up = let a = up.events in let b = up.marked in let c = length_parts (journal_in f) in omega arith

-- a buffer that has a mark left
pub not_last : (follower : Follower) → follower.next < length follower.marks.items → IsThrough follower → ⊥
not_last follower more out = let a = drop_none follower.marks.items follower.next out.1 in omega arith

-- as it is after its buffer was filled again
pub is_refilled : (f g : Follower) → IsUpTo f → IsOut f → g.seat ≡ f.seat → g.awaited ≡ f.awaited → g.shown ≡ f.shown → g.marked ≡ f.marked → g.events ≡ f.events → g.digest ≡ f.digest → g.next ≡ 0
    → ((first : Gapped) (rest : List Gapped) → g.marks.items ≡ first ∷ rest → g.left ≡ first.gap) → (g.marks.items ≡ [] → g.left ≡ g.after)
    → IsUpTo g × (given g ≡ given f ++ lengthened (given_after f) g.marks.items) × (given_after g ≡ carried (given_after f) g.marks.items g.after)
is_refilled f g up out seat awaited shown marked events digest next some none = (
  record {
    shown = shown ∙ up.shown ∙ ap (λ s. s.inner.me.0.follower.shown) (sym seat);
    within = let a = up.within in let b = same_length in omega arith;
    shows = λ h. let b = same_length in let a = up.shows (omega arith) in omega arith;
    events = events ∙ up.events ∙ ap (λ (j : List Event). length j) (sym journal);
    marked = marked ∙ up.marked ∙ ap mark_count (sym journal);
    next = omega (arith, next);
    digest = ap bits_of digest ∙ (up.digest ∙ ap digest_of (sym journal));
  },
  (λ i. gapped_marks 0 (journal i) ++ to_come i) ∙ ap (λ (l : List Gapped). l ++ lengthened (given_after f) g.marks.items) (sym (ap (λ (l : List Gapped). gapped_marks 0 (journal_in f) ++ with_first_gap (gap_to_next f) l) none_left ∙ append-nil (gapped_marks 0 (journal_in f)))),
  ap (λ (l : List Gapped). after_last l (gap_to_next g) g.after) all ∙ comes_after g.marks.items refl,
)
  where
    journal : journal_in g ≡ journal_in f
    journal = ap (λ s. s.inner.me.0.follower.journal) seat

    same_length : length (journal_in g) ≡ length (journal_in f)
    same_length = ap (λ (j : List Event). length j) journal

    none_left : pending f ≡ []
    none_left = out.1.1

    all : pending g ≡ g.marks.items
    all = ap (λ (n : ℕ). drop n g.marks.items) next

    -- the accesses that are carried over
    before : given_after f ≡ gap_after 0 (journal_in f)
    before = ap (λ (l : List Gapped). after_last l (gap_to_next f) f.after) none_left ∙ (let a = out.1.0 in let b : gap_to_next f ≡ gap_after 0 (journal_in f) = omega arith in b)

    gap_there : gap_to_next g ≡ g.left + given_after f
    gap_there = let a = ap (λ (j : List Event). gap_after 0 j) journal in let b = before in omega arith

    first_longer : (l : List Gapped) → g.marks.items ≡ l → with_first_gap (gap_to_next g) l ≡ lengthened (given_after f) l
    first_longer [] is = refl
    first_longer (first ∷ rest) is =
        ap (λ (n : ℕ). record { gap = n; mark = first.mark } ∷ rest) (let a = some first rest is in let b = gap_there in let c : gap_to_next g ≡ given_after f + first.gap = omega arith in c)

    to_come : with_first_gap (gap_to_next g) (pending g) ≡ lengthened (given_after f) g.marks.items
    to_come = ap (with_first_gap (gap_to_next g)) all ∙ first_longer g.marks.items refl

    comes_after : (l : List Gapped) → g.marks.items ≡ l → after_last l (gap_to_next g) g.after ≡ carried (given_after f) l g.after
    comes_after [] is = let a = none is in let b = gap_there in omega arith
    comes_after (first ∷ rest) is = refl

-- and after a block of which so many marks were taken
pub is_taken : (f g : Follower) (marks : List Gapped) (after taken count : ℕ) → taken ≡ count → g.marks.items ≡ take taken marks → g.after ≡ after_taken taken (length marks) after
    → given g ≡ given f ++ lengthened (given_after f) g.marks.items → given_after g ≡ carried (given_after f) g.marks.items g.after → TakesBlock count marks after f g
is_taken f g marks after taken count same items left there beyond =
    subst (λ (n : ℕ). TakesBlock n marks after f g) same (record {
      told_marks = there ∙ ap (λ (l : List Gapped). given f ++ lengthened (given_after f) l) items;
      told_after = beyond ∙ (λ i. carried (given_after f) (items i) (left i));
    })

-- it stays the course's where its seat does
pub still_own : (course : Course) (f g : Follower) → IsFollowerOf course f → g.seat ≡ f.seat → g.number ≡ f.number → IsUpTo g → IsFollowerOf course g
still_own course f g own seat number up = record {
  own = subst (IsSeatOf course.words) (sym seat) own.own;
  number = ap (λ s. s.inner.me.0.number) seat ∙ own.number ∙ sym number;
  inside = let a = own.inside in omega arith;
  up = up;
}

-- how many accesses it has made
pub accesses_made : (f : Follower) → IsUpTo f → f.events - f.marked ≡ access_count (journal_in f)
accesses_made f up = let a = up.events in let b = up.marked in let c = length_parts (journal_in f) in omega arith
