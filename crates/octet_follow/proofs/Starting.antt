-- The followers of a course at first.
use Rattle.std.proofs.Common.{◌≡◌, ℕ, zero, suc, ◌+◌, ◌<◌, List, [], ◌∷◌, ◌++◌, drop, length, get_or, refl, sym, ap, ◌∙◌, subst, arith, add-zero}
use Rattle.octet_digest.specs.Digests.{digest_of}
use Rattle.octet_model.specs.declared.event.Event.{Event}
use Rattle.octet_model.specs.Journals.{mark_count, gap_after, gapped_marks}
use Rattle.octet_follow.specs.declared.course.Course.{Course}
use Rattle.octet_follow.specs.declared.follower.Follower.{Follower}
use Rattle.octet_follow.specs.declared.words.Seat.{Seat}
use Rattle.octet_follow.specs.State.{FollowerState}
use Rattle.octet_follow.specs.Seats.{IsSeatOf, IsFresh, EachFresh}
use Rattle.octet_follow.specs.Calls.{journal_in, pending, after_last, with_first_gap, followers_in, IsAtStart, EachAtStart, IsFollowerAt, AreFollowersAt}

-- one follower more
pub followers_more : (room n k : ℕ) (seats : List Seat) (followers : List Follower) (seat : Seat) (follower : Follower) → AreFollowersAt room n seats followers → n + length seats ≡ k → IsFollowerAt room k seat follower
    → AreFollowersAt room n (seats ++ seat ∷ []) (followers ++ follower ∷ [])
followers_more room n k [] [] seat follower are is at = (subst (λ (m : ℕ). IsFollowerAt room m seat follower) (let e : k ≡ n = omega arith in e) at, tt)
followers_more room n k [] (q ∷ followers) seat follower are is at = absurd are
followers_more room n k (x ∷ seats) [] seat follower are is at = absurd are
followers_more room n k (x ∷ seats) (q ∷ followers) seat follower are is at = (are.0, followers_more room (n + 1) k seats followers seat follower are.1 (omega arith) at)

pub as_many_followers : (room n : ℕ) (seats : List Seat) (followers : List Follower) → AreFollowersAt room n seats followers → length followers ≡ length seats
as_many_followers room n [] [] are = refl
as_many_followers room n [] (q ∷ followers) are = absurd are
as_many_followers room n (x ∷ seats) [] are = absurd are
as_many_followers room n (x ∷ seats) (q ∷ followers) are = ap suc (as_many_followers room (n + 1) seats followers are.1)

follower_at : (room n : ℕ) (seats : List Seat) (followers : List Follower) → AreFollowersAt room n seats followers → (k : ℕ) (none : Follower) → k < length followers → IsFollowerAt room (n + k) (get_or seats k none.seat) (get_or followers k none)
follower_at room n [] [] are k none h = absurd (omega arith)
follower_at room n [] (q ∷ followers) are k none h = absurd are
follower_at room n (x ∷ seats) [] are k none h = absurd are
follower_at room n (x ∷ seats) (q ∷ followers) are zero none h = subst (λ (m : ℕ). IsFollowerAt room m x q) (sym (add-zero n)) are.0
follower_at room n (x ∷ seats) (q ∷ followers) are (suc k) none h = subst (λ (m : ℕ). IsFollowerAt room m (get_or seats k none.seat) (get_or followers k none)) (let e : (n + 1) + k ≡ n + suc k = omega arith in e) (follower_at room (n + 1) seats followers are.1 k none (omega arith))

module _ (course : Course) (room : ℕ) where
  begun : (k : ℕ) (seat : Seat) (follower : Follower) → IsFollowerAt room k seat follower → IsSeatOf course.words seat → IsFresh k seat → k < followers_in course → IsAtStart course room k follower
  begun k seat follower at own fresh inside =
      let here : IsFresh k follower.seat = subst (IsFresh k) (sym at.seated) fresh in
      let journal : journal_in follower ≡ [] = ap (λ (p : FollowerState). p.journal) here.1 in
      let none : pending follower ≡ [] = λ i. drop (at.next i) (at.marks i) in
      record {
        own = record {
          own = subst (IsSeatOf course.words) (sym at.seated) own;
          number = here.0 ∙ sym at.numbered;
          inside = let e = at.numbered in omega arith;
          up = record {
            shown = at.shown ∙ ap (λ (p : FollowerState). p.shown) (sym here.1);
            within = let a = at.shown in omega arith;
            shows = λ h. let a = ap (λ (j : List Event). length j) journal in omega arith;
            events = at.events ∙ ap (λ (j : List Event). length j) (sym journal);
            marked = at.marked ∙ ap mark_count (sym journal);
            next = let e = at.next in omega arith;
            digest = at.digest ∙ ap digest_of (sym journal);
          };
        };
        numbered = here.0;
        unbegun = here.1;
        given_none = ((λ i. gapped_marks 0 (journal i) ++ with_first_gap (at.left i + gap_after 0 (journal i)) (none i)), λ i. after_last (none i) (at.left i + gap_after 0 (journal i)) follower.after);
        open_ = at.ending;
        awaited = at.awaited;
        buffer = at.buffer;
      }

  pub each_at_start : (seats : List Seat) (followers : List Follower) → AreFollowersAt room 0 seats followers → EachFresh course.words seats → length seats ≡ followers_in course → EachAtStart course room followers
  each_at_start seats followers are fresh all k none h =
      let many = as_many_followers room 0 seats followers are in
      let at = follower_at room 0 seats followers are k none h in
      let seat = fresh k none.seat (omega arith) in
      begun k (get_or seats k none.seat) (get_or followers k none) (subst (λ (m : ℕ). IsFollowerAt room m (get_or seats k none.seat) (get_or followers k none)) (let e : 0 + k ≡ k = omega arith in e) at) seat.0 seat.1 (omega arith)
