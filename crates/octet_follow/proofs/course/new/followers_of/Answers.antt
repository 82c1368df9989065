use Rattle.std.proofs.Common.{rules, ◌≡◌, ◌++◌, ◌∷◌, [], List, length, ap, sym, subst, length-append, arith}
use Rattle.octet_follow.specs.declared.words.Seat.{Seat}
use Rattle.octet_follow.specs.Calls.{AreFollowersAt}
use Rattle.octet_follow.proofs.Starting.{followers_more}
use Rattle.octet_follow.proofs.course.new.followers_of.Goals as goal

pub loop-seat-preserved : goal.loop-seat-preserved
loop-seat-preserved c =
    let i = c.loop-seat.invariant in
    let next : c.loop-seat.seat-iterator.rest.items ≡ c.in-Some.seat ∷ c.next.new.self.rest.items = search rules in
    let pushed : c.push.new.self.items ≡ c.loop-seat.followers.items ++ c.in_ok-follower.field-0 ∷ [] = search rules in record {
      left = omega (arith, i.left, ap (λ (l : List Seat). length l) next);
      count = omega (arith, i.count, length-append c.loop-seat.yielded (c.in-Some.seat ∷ []));
      followers = subst (AreFollowersAt c.args.room 0 (c.loop-seat.yielded ++ c.in-Some.seat ∷ [])) (sym pushed)
          (followers_more c.args.room 0 c.loop-seat.number _ _ _ _ i.followers (omega (arith, i.count)) c.in_ok-follower.ensures);
    }
