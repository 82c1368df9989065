use Rattle.std.proofs.Common.{rules, ◌≡◌, [], ◌∷◌, ◌++◌, All, length, length-append, ap, sym, subst, arith, suc}
use Rattle.octet_rerun.specs.Reruns.{IsAtEnd, EachAtEnd}
use Rattle.octet_host.proofs.lemmas.Rows.{each_more}
use Rattle.octet_host_script.proofs.following.followers_on.Goals as goal

pub loop-place-preserved : goal.loop-place-preserved
loop-place-preserved c =
    let i = c.loop-place.invariant in let rerun = c.args.rerun.now in let follower = c.into_inner-follower.result in let taken = c.loop-place.followers in
    let next : c.loop-place.place-iterator.rest.items ≡ c.in-Some.place ∷ c.next.new.self.rest.items = search rules in
    let all : All (λ tag. tag ≡ rerun) (c.in-Some.place ∷ c.next.new.self.rest.items) = subst (All (λ tag. tag ≡ rerun)) next i.rest in
    let here : c.in-Some.place ≡ rerun = all 0 c.in-Some.place (omega arith) in
    let pushed : c.push.new.self ≡ taken ++ follower ∷ [] = search rules in
    let number : follower.thread ≡ length taken = search rules in
    let is : IsAtEnd rerun (length taken) follower = record { own = search rules; thread_is = number; all_made = search rules } in record {
      rest = λ k d lt. all (suc k) d (omega (arith, lt));
      taken = subst (EachAtEnd rerun) (sym pushed) (each_more (IsAtEnd rerun) taken follower i.taken is);
      count = omega (arith, i.count, ap length pushed, ap length next, length-append taken (follower ∷ []));
    }
