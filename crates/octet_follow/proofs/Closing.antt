-- What a closed course gives.
use Rattle.std.proofs.Common.{◌≡◌, ℕ, zero, suc, ◌+◌, ◌<◌, ◌≤◌, List, [], ◌∷◌, ◌++◌, map, length, get_or, refl, sym, ap, ◌∙◌, subst, arith, append-nil, append_assoc, sum_by}
use Rattle.std.proofs.lemmas.List.{length-map}
use Rattle.std.proofs.lemmas.List.Sums.{sum_by-cons}
use Rattle.octet_model.specs.declared.event.Event.{Event}
use Rattle.octet_model.specs.declared.event.Event.TheVariants.{Read, Write, Update, Marked}
use Rattle.octet_model.specs.declared.log.Gapped.{Gapped}
use Rattle.octet_model.specs.declared.log.ThreadLog.{ThreadLog}
use Rattle.octet_model.specs.Journals.{gapped_marks, access_count, gap_after}
use Rattle.octet_model.specs.Machine.{Journals, journal_of, PlainState, AllFinished, IsFront, starting_state}
use Rattle.octet_model.specs.Plays.{by_journals, state_after_play}
use Rattle.octet_model.specs.Plans.{thread_log_of}
use Rattle.octet_follow.specs.declared.course.Course.{Course}
use Rattle.octet_follow.specs.declared.follower.Follower.{Follower}
use Rattle.octet_follow.specs.declared.words.Seat.{Seat}
use Rattle.octet_follow.specs.State.{FollowerState, CourseState, journals_of, plain}
use Rattle.octet_follow.specs.Rule.{IsSeenBy}
use Rattle.octet_follow.specs.Seats.{view, IsSeatOf, Closes}
use Rattle.octet_follow.specs.Seats as seats
use Rattle.octet_follow.specs.Calls.{view_of, journal_in, journals_in, pending, with_first_gap, gap_to_next, after_last, given, accesses_given, followers_in, EachOf, ClosesTo}
use Rattle.octet_follow.specs.Recordings.{Threads, by_marks, IsRecording, Ahead, IsOnTrack, IsDemandedBy, AllFollow}
use Rattle.octet_follow.specs.Repeats.{KeepsIn, IsRecordedSoFar, HasBegun, AllHaveBegun, KeepsToRecording, HasFollowed, AllHaveFollowed, RepeatsRecording}
use Rattle.octet_follow.proofs.steps.Keeping.{journal_at}
use Rattle.octet_follow.proofs.Recordings.{begins, ends_there, is_through}

-- a list of what is of each
get_mapped : {B : Type 0} (f : Follower → B) (followers : List Follower) (k : ℕ) (b : B) (none : Follower) → k < length followers → get_or (map f followers) k b ≡ f (get_or followers k none)
get_mapped f [] k b none h = absurd (omega arith)
get_mapped f (q ∷ followers) zero b none h = refl
get_mapped f (q ∷ followers) (suc k) b none h = get_mapped f followers k b none (omega arith)

mapped_twice : {B C : Type 0} (f : Follower → B) (g : B → C) (followers : List Follower) → map g (map f followers) ≡ map (λ p. g (f p)) followers
mapped_twice f g [] = refl
mapped_twice f g (q ∷ followers) = ap (λ l. g (f q) ∷ l) (mapped_twice f g followers)

-- some follower that is there
some_follower : (followers : List Follower) (k : ℕ) → k < length followers → Follower
some_follower [] k h = absurd (omega arith)
some_follower (q ∷ followers) k h = q

-- the seats of all
pub each_seat : (course : Course) (followers : List Follower) → length followers ≡ followers_in course → EachOf course followers → (those : List Seat) → those ≡ map (λ (f : Follower). f.seat) followers
    → (length those ≡ course.words.followers) × seats.EachOf course.words those
each_seat course followers all each those are = (
  ap (λ (l : List Seat). length l) are ∙ length-map followers (λ (f : Follower). f.seat) ∙ all,
  (λ k none h.
      let inside : k < length followers = let a = ap (λ (l : List Seat). length l) are in let b = length-map followers (λ (f : Follower). f.seat) in omega arith in
      let d = some_follower followers k inside in
      let it = each k d inside in
      let same : get_or those k none ≡ (get_or followers k d).seat = ap (λ (l : List Seat). get_or l k none) are ∙ get_mapped (λ (f : Follower). f.seat) followers k none d inside in
      subst (λ (seat : Seat). IsSeatOf course.words seat × ((view seat).number ≡ k)) (sym same) (it.0.own, it.1)),
)

pub closes_to : (starts : List ℕ) (followers : List Follower) (those : List Seat) (values : List ℕ) → those ≡ map (λ (f : Follower). f.seat) followers → Closes starts those values → ClosesTo starts followers values
closes_to starts followers those values are closes = record {
  last = closes.last;
  sound = closes.sound;
  begins = closes.begins;
  are = closes.are ∙ ap (λ (l : List Seat). map (λ (seat : Seat). (view seat).follower) l) are ∙ mapped_twice (λ (f : Follower). f.seat) (λ (seat : Seat). (view seat).follower) followers;
  cells = closes.cells;
}

-- accesses are those of the gaps, and those after the last mark
pub gaps_made : (before : ℕ) (journal : List Event) → before + access_count journal ≡ sum_by (λ (m : Gapped). m.gap) (gapped_marks before journal) + gap_after before journal
gaps_made before [] = omega arith
gaps_made before (Read object value ∷ journal) = let a = gaps_made (suc before) journal in omega arith
gaps_made before (Write object value ∷ journal) = let a = gaps_made (suc before) journal in omega arith
gaps_made before (Update object old new ∷ journal) = let a = gaps_made (suc before) journal in omega arith
gaps_made before (Marked mark ∷ journal) = let a = gaps_made 0 journal in let b = sum_by-cons (λ (m : Gapped). m.gap) (record { gap = before; mark = mark }) (gapped_marks 0 journal) in omega arith

sum_both : (xs ys : List Gapped) → sum_by (λ (m : Gapped). m.gap) (xs ++ ys) ≡ sum_by (λ (m : Gapped). m.gap) xs + sum_by (λ (m : Gapped). m.gap) ys
sum_both [] ys = omega arith
sum_both (x ∷ xs) ys = let a = sum_both xs ys in let b = sum_by-cons (λ (m : Gapped). m.gap) x (xs ++ ys) in let c = sum_by-cons (λ (m : Gapped). m.gap) x xs in omega arith

-- a follower that has begun is on track
track_begun : (threads : Threads) (log : List ThreadLog) (t : ℕ) (f : Follower) → HasBegun threads log t f → IsOnTrack (thread_log_of log t) (journal_in f)
track_begun threads log t f has = record {
  accesses = let a = few (pending f) refl in let b = has.accesses in omega arith;
  rest = with_first_gap (gap_to_next f) (pending f) ++ has.more;
  marks = has.marks ∙ append_assoc (gapped_marks 0 (journal_in f)) (with_first_gap (gap_to_next f) (pending f)) has.more;
  ahead = ahead (pending f) refl;
}
  where
    made : access_count (journal_in f) ≡ sum_by (λ (m : Gapped). m.gap) (gapped_marks 0 (journal_in f)) + gap_after 0 (journal_in f)
    made = let a = gaps_made 0 (journal_in f) in omega arith

    told : sum_by (λ (m : Gapped). m.gap) (given f) ≡ sum_by (λ (m : Gapped). m.gap) (gapped_marks 0 (journal_in f)) + sum_by (λ (m : Gapped). m.gap) (with_first_gap (gap_to_next f) (pending f))
    told = sum_both (gapped_marks 0 (journal_in f)) (with_first_gap (gap_to_next f) (pending f))

    few : (l : List Gapped) → pending f ≡ l → access_count (journal_in f) ≤ accesses_given f
    few (mark ∷ l) is =
        let first = sum_by-cons (λ (m : Gapped). m.gap) (record { gap = gap_to_next f; mark = mark.mark }) l in
        let there = ap (λ (m : List Gapped). sum_by (λ (n : Gapped). n.gap) (with_first_gap (gap_to_next f) m)) is in
        let a = made in let b = told in omega arith
    few [] is =
        let there = ap (λ (m : List Gapped). sum_by (λ (n : Gapped). n.gap) (with_first_gap (gap_to_next f) m)) is in
        let after = ap (λ (m : List Gapped). after_last m (gap_to_next f) f.after) is in
        let a = made in let b = told in omega arith

    ahead : (l : List Gapped) → pending f ≡ l → Ahead (with_first_gap (gap_to_next f) (pending f) ++ has.more) (gap_after 0 (journal_in f))
    ahead (mark ∷ l) is =
        subst (λ (m : List Gapped). Ahead (with_first_gap (gap_to_next f) m ++ has.more) (gap_after 0 (journal_in f))) (sym is)
        (λ next first. let e : record { gap = gap_to_next f; mark = mark.mark } ≡ next = cc in let g = ap (λ (m : Gapped). m.gap) e in omega arith)
    ahead [] is =
        subst (λ (m : List Gapped). Ahead (with_first_gap (gap_to_next f) m ++ has.more) (gap_after 0 (journal_in f))) (sym is)
        (λ next first. let a = has.ahead next first in let after = ap (λ (m : List Gapped). after_last m (gap_to_next f) f.after) is in omega arith)

-- what is seen in a sound state is recorded, if all follow
pub recorded_so_far : (f : Follower) (s : CourseState) → IsSeenBy (view_of f) s → IsRecordedSoFar f
recorded_so_far f s seen = record {
  state = s;
  seen = seen;
  own = journal_at s.followers (view_of f).number ∙ ap (λ (p : FollowerState). p.journal) seen.stands;
  keeps = λ threads log end recording follow.
      begins threads log (journals_of s) follow (view_of f).starts s.play (plain s)
      (subst (λ (from : List ℕ). IsFront (by_journals (journals_of s)) (starting_state from (journals_of s)) s.play) seen.starts (let sound = seen.sound in sound.is_play))
      (subst (λ (from : List ℕ). state_after_play from (journals_of s) s.play ≡ plain s) seen.starts (let sound = seen.sound in sound.comes))
      refl end recording;
}

module _ (starts : List ℕ) (followers : List Follower) (heap : List ℕ) (closes : ClosesTo starts followers heap) where
  abbrev last : CourseState
  last = closes.last

  journals_are : journals_of last ≡ journals_in followers
  journals_are = ap (λ (l : List FollowerState). map (λ (p : FollowerState). p.journal) l) closes.are ∙ mapped_twice (λ (f : Follower). (view_of f).follower) (λ (p : FollowerState). p.journal) followers

  abbrev Plays : List ℕ → Journals → Type 0
  Plays from js = IsFront (by_journals js) (starting_state from js) last.play × (state_after_play from js last.play ≡ plain last)

  plays : Plays starts (journals_in followers)
  plays = subst (λ (from : List ℕ). Plays from (journals_in followers)) closes.begins (subst (λ (js : Journals). Plays last.starts js) journals_are (closes.sound.is_play, closes.sound.comes))

  keeps_in : KeepsIn starts (journals_in followers)
  keeps_in threads log end recording follow = begins threads log (journals_in followers) follow starts last.play (plain last) plays.0 plays.1 journals_are end recording

  -- a follower that has begun
  module _ where
    begun : (threads : Threads) (log : List ThreadLog) → AllHaveBegun threads log followers → AllFollow threads log (journals_in followers)
    begun threads log have = record {
      many = length-map followers journal_in ∙ have.many;
      track = λ t h.
          let inside : t < length followers = let e = length-map followers journal_in in omega arith in
          let d = some_follower followers t inside in
          subst (λ (j : List Event). IsOnTrack (thread_log_of log t) j) (sym (get_mapped journal_in followers t [] d inside)) (track_begun threads log t (get_or followers t d) (have.each t d inside));
      demanded = λ t h.
          let inside : t < length followers = let e = length-map followers journal_in in omega arith in
          let d = some_follower followers t inside in
          let has = have.each t d inside in
          subst (λ (j : List Event). IsDemandedBy (threads t) j) (sym (get_mapped journal_in followers t [] d inside)) has.demanded;
    }

    pub keeps : KeepsToRecording starts followers
    keeps threads log end recording have = keeps_in threads log end recording (begun threads log have)

  module _ (threads : Threads) (log : List ThreadLog) (have : AllHaveFollowed threads log followers) where
    journal_there : (t : ℕ) (none : Follower) → t < length followers → journal_of (journals_in followers) t ≡ journal_in (get_or followers t none)
    journal_there t none h = get_mapped journal_in followers t [] none h

    many : length (journals_in followers) ≡ length followers
    many = length-map followers journal_in

    it : (t : ℕ) (h : t < length (journals_in followers)) → (f : Follower) × HasFollowed threads log t f × (journal_of (journals_in followers) t ≡ journal_in f)
    it t h =
        let inside : t < length followers = let e = many in omega arith in
        let d = some_follower followers t inside in
        (get_or followers t d, have.each t d inside, journal_there t d inside)

    marks_are : (t : ℕ) (f : Follower) → HasFollowed threads log t f → (thread_log_of log t).marks ≡ gapped_marks 0 (journal_in f)
    marks_are t f has = sym has.marks ∙ has.complete.marks

    accesses_are : (t : ℕ) (f : Follower) → HasFollowed threads log t f → (thread_log_of log t).accesses ≡ access_count (journal_in f)
    accesses_are t f has =
        let complete = has.complete in
        let a = has.accesses in
        let b = ap (λ (l : List Gapped). sum_by (λ (m : Gapped). m.gap) l) complete.marks in
        let c = complete.after in
        let d = gaps_made 0 (journal_in f) in
        omega arith

    on_track : (t : ℕ) (f : Follower) → HasFollowed threads log t f → IsOnTrack (thread_log_of log t) (journal_in f)
    on_track t f has = record {
      accesses = let e = accesses_are t f has in omega arith;
      rest = [];
      marks = marks_are t f has ∙ sym (append-nil (gapped_marks 0 (journal_in f)));
      ahead = λ next is. absurd cc;
    }

    follow : AllFollow threads log (journals_in followers)
    follow = record {
      many = many ∙ have.many;
      track = λ t h. let f = it t h in subst (λ (j : List Event). IsOnTrack (thread_log_of log t) j) (sym f.2) (on_track t f.0 f.1);
      demanded = λ t h. let f = it t h in let has = f.1 in subst (λ (j : List Event). IsDemandedBy (threads t) j) (sym f.2) has.demanded.demanded;
    }

    through : AllFinished (by_marks threads log) (plain last)
    through t h =
        let f = it t (let e = ap (λ (js : Journals). length js) journals_are in omega arith) in
        let has = f.1 in
        let same : journal_of (journals_of last) t ≡ journal_in f.0 = ap (λ (js : Journals). journal_of js t) journals_are ∙ f.2 in
        ap (λ (j : List Event). by_marks threads log t j) same
        ∙ is_through (threads t (journal_in f.0)) (thread_log_of log t) (journal_in f.0) (marks_are t f.0 has) (accesses_are t f.0 has) has.demanded.ends

    pub same_end : (end : PlainState) → IsRecording threads starts log end → (journals_in followers ≡ end.journals) × (heap ≡ end.heap)
    same_end end recording =
        let e = ends_there threads log (journals_in followers) follow starts last.play (plain last) plays.0 plays.1 journals_are end recording through in
        (sym journals_are ∙ ap (λ (x : PlainState). x.journals) e, sym closes.cells ∙ ap (λ (x : PlainState). x.heap) e)

  pub repeats : RepeatsRecording starts followers heap
  repeats threads log end recording have = same_end threads log have end recording
