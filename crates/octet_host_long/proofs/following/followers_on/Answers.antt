use Rattle.std.proofs.Common.{rules, ◌≡◌, ◌∙◌, ℕ, List, [], ◌∷◌, ◌++◌, All, drop, length, length-append, ap, sym, subst, arith, suc, IfSome}
use Rattle.once_cell.specs.Once.{Agrees}
use Rattle.octet_follow.specs.Calls.{journal_in, view_of}
use Rattle.octet_stream.specs.declared.long_follower.LongFollower.{LongFollower}
use Rattle.octet_stream.specs.Followers.{IsLongFollowerOf, EachOf}
use Rattle.octet_tail.specs.declared.tail.Made.{Made}
use Rattle.octet_tail.specs.Tails.{HasMade}
use Rattle.octet_tail.specs.declared.tailed.TailedThread.{TailedThread}
use Rattle.octet_host.specs.Sealed.{IsSealed, AreFound}
use Rattle.octet_host.proofs.lemmas.Rows.{each_more}
use Rattle.octet_host.proofs.lemmas.Sealing.{drop_rest, found_more}
use Rattle.octet_host_long.specs.Closed.{HaveMade}
use Rattle.octet_host_long.specs.Tailed.{made_by, IsTailedOf}
use Rattle.octet_host_long.proofs.Making.{count_is, made_more}
use Rattle.octet_host_long.proofs.following.followers_on.Goals as goal

pub loop-place-preserved : goal.loop-place-preserved
loop-place-preserved c =
    let i = c.loop-place.invariant in let sealed = c.args.sealed.now in let rerun = sealed.rerun.session in let held = c.into_inner-follower.result in let left = held.follower in let follower = left.thread in
    let taken = c.loop-place.followers in let made = c.loop-place.made in let notes = c.args.notes.items in let others = c.next-in-loop-place.new.self.rest.items in let mine = c.in-Some-next.mine in
    let next : c.loop-place.place-iterator.rest.items ≡ c.in-Some.place ∷ c.next.new.self.rest.items = search rules in
    let all : All (λ tag. tag ≡ sealed) (c.in-Some.place ∷ c.next.new.self.rest.items) = subst (All (λ tag. tag ≡ sealed)) next i.rest in
    let here : c.in-Some.place ≡ sealed = all 0 c.in-Some.place (omega arith) in
    let pushed : c.push-in-loop-place.new.self ≡ taken ++ follower ∷ [] = search rules in
    let one : Made = record { accesses = c.accesses-accesses.result; tail = left.tail } in
    let noted : c.push.new.self ≡ made ++ one ∷ [] = search rules in
    let own : IsTailedOf rerun left = search rules in
    let step : length c.push-in-loop-place.new.self ≡ suc (length taken) = omega (arith, ap length pushed, length-append taken (follower ∷ [])) in
    let number : follower.follower.number ≡ length taken = search rules in
    let note : drop (length taken) notes ≡ mine ∷ others = search rules in
    let under : IsSealed sealed.seals.items follower.follower.number left held.note = search rules in
    let agrees : held.note.cell ≡ mine.cell → IfSome held.note.known (Agrees mine.known) = search rules in
    let has : HasMade (made_by follower) one = record { count = c.accesses-accesses.ensures ∙ count_is (journal_in follower.follower); noted = own.1 } in record {
      rest = λ k d lt. all (suc k) d (omega (arith, lt));
      taken = subst (EachOf rerun) (sym pushed)
          (each_more (λ n (thread : LongFollower). IsLongFollowerOf rerun thread × ((view_of thread.follower).number ≡ n)) taken follower i.taken (own.0, own.0.own.number ∙ number));
      made = subst (λ (ts : List LongFollower). HaveMade ts c.push.new.self) (sym pushed) (subst (λ (ms : List Made). HaveMade (taken ++ follower ∷ []) ms) (sym noted) (made_more taken made follower one i.made has));
      count = omega (arith, i.count, ap length pushed, ap length next, length-append taken (follower ∷ []));
      noted = ap (λ n. drop n notes) step ∙ drop_rest (length taken) notes others mine note;
      found = subst (AreFound (λ it. it.thread) sealed.seals.items notes) (sym pushed)
          (found_more (λ (it : TailedThread LongFollower). it.thread) sealed.seals.items notes others taken mine held.note left note (subst (λ (n : ℕ). IsSealed sealed.seals.items n left held.note) number under) agrees i.found);
    }
