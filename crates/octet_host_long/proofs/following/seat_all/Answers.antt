use Rattle.std.proofs.Common.{rules, ◌≡◌, ◌∙◌, [], ◌∷◌, ◌++◌, All, map, ap, sym, subst}
use Rattle.std.proofs.lemmas.List.Elements.{All-push}
use Rattle.octet_host_long.specs.declared.repeated.LongRepeated.{LongRepeated}
use Rattle.octet_host_long.specs.Opened.{IsSeatAgain}
use Rattle.octet_host_long.proofs.Beginning.{map_push}
use Rattle.octet_host_long.proofs.following.seat_all.Goals as goal

pub loop-follower-preserved : goal.loop-follower-preserved
loop-follower-preserved c =
    let i = c.loop-follower.invariant in let threads = c.loop-follower.threads.items in let made = c.in_ok-seat.field-0 in
    let pushed : c.push.new.self.items ≡ threads ++ made ∷ [] = search rules in record {
      seats = subst (All (IsSeatAgain c.args.course.now.value.rerun.session c.args.objects c.args.course.now.value.last)) (sym pushed)
          (All-push (IsSeatAgain c.args.course.now.value.rerun.session c.args.objects c.args.course.now.value.last) threads made i.seats c.in_ok-seat.ensures.seat);
      share = subst (All (λ (it : LongRepeated). it.course.value ≡ c.args.course.now.value)) (sym pushed)
          (All-push (λ (it : LongRepeated). it.course.value ≡ c.args.course.now.value) threads made i.share c.in_ok-seat.ensures.share);
      followers = ap (map (λ (it : LongRepeated). it.thread.thread)) pushed ∙ map_push (λ (it : LongRepeated). it.thread.thread) threads made c.loop-follower.yielded c.in-Some.follower i.followers c.in_ok-seat.ensures.thread;
    }
