use Rattle.std.proofs.Common.{rules, ◌≡◌, [], ◌∷◌, ◌++◌, All, length, length-append, slice_index_or, ap, sym, subst, arith, suc}
use Rattle.std.proofs.lemmas.List.Elements.{All-push}
use Rattle.octet_rerun.specs.Reruns.{IsAtStart}
use Rattle.octet_host_script.specs.declared.repeated.Repeated.{Repeated}
use Rattle.octet_host_script.specs.Opened.{EachFirstAgain, IsFirstAgain}
use Rattle.octet_host_script.specs.Threads.{IsRepeated}
use Rattle.octet_host.proofs.lemmas.Rows.{each_more, first_of, rest_of}
use Rattle.octet_host_script.proofs.following.seat_all.Goals as goal

pub seat-requires-clause-own : goal.seat-requires-clause-own
seat-requires-clause-own c =
    let rerun = c.args.course.now.value.rerun in let follower = c.in-Some.follower in let long = length c.loop-follower.threads.items in
    let next : c.loop-follower.follower-iterator.rest.items ≡ follower ∷ c.next.new.self.rest.items = search rules in
    (first_of (λ n f. IsAtStart rerun n f) long next c.loop-follower.invariant.rest).own

pub seat-requires-clause-none_made : goal.seat-requires-clause-none_made
seat-requires-clause-none_made c =
    let rerun = c.args.course.now.value.rerun in let follower = c.in-Some.follower in let long = length c.loop-follower.threads.items in
    let next : c.loop-follower.follower-iterator.rest.items ≡ follower ∷ c.next.new.self.rest.items = search rules in
    (first_of (λ n f. IsAtStart rerun n f) long next c.loop-follower.invariant.rest).none_made

pub loop-follower-preserved : goal.loop-follower-preserved
loop-follower-preserved c =
    let i = c.loop-follower.invariant in let made = c.in_ok-seat.field-0 in let follower = c.in-Some.follower in let rerun = c.args.course.now.value.rerun in
    let threads = c.loop-follower.threads.items in let left = c.next.new.self.rest.items in
    let next : c.loop-follower.follower-iterator.rest.items ≡ follower ∷ left = search rules in
    let pushed : c.push.new.self.items ≡ threads ++ made ∷ [] = search rules in
    let long : length c.push.new.self.items ≡ suc (length threads) = omega (arith, ap length pushed, length-append threads (made ∷ [])) in
    let start : IsAtStart rerun (length threads) follower = first_of (λ n f. IsAtStart rerun n f) (length threads) next i.rest in
    let first : IsFirstAgain rerun (length threads) made = subst (λ n. IsFirstAgain rerun n made) start.thread_is c.in_ok-seat.ensures.first in record {
      rest = λ k none lt. subst (λ n. IsAtStart rerun n (slice_index_or left k none)) (omega (arith, long)) (rest_of (λ n f. IsAtStart rerun n f) (length threads) next i.rest k none lt);
      good = subst (All IsRepeated) (sym pushed) (All-push IsRepeated threads made i.good c.in_ok-seat.ensures.good);
      share = subst (All (λ (it : Repeated). it.course.value ≡ c.args.course.now.value)) (sym pushed) (All-push (λ (it : Repeated). it.course.value ≡ c.args.course.now.value) threads made i.share c.in_ok-seat.ensures.share);
      first = subst (EachFirstAgain rerun) (sym pushed) (each_more (IsFirstAgain rerun) threads made i.first first);
      count = omega (arith, i.count, long, ap length next);
    }
