use Rattle.std.proofs.Common.{rules, ◌≡◌, ◌∙◌, [], ◌∷◌, ◌++◌, All, map, ap, sym, subst}
use Rattle.std.proofs.lemmas.List.Elements.{All-push}
use Rattle.octet_host_long.specs.declared.recorded.LongRecorded.{LongRecorded}
use Rattle.octet_host_long.specs.Opened.{IsSeat}
use Rattle.octet_host_long.proofs.Beginning.{map_push}
use Rattle.octet_host_long.proofs.opening.seat_all.Goals as goal

pub loop-track-preserved : goal.loop-track-preserved
loop-track-preserved c =
    let i = c.loop-track.invariant in let threads = c.loop-track.threads.items in let made = c.in_ok-seat.field-0 in
    let pushed : c.push.new.self.items ≡ threads ++ made ∷ [] = search rules in record {
      seats = subst (All (IsSeat c.args.heap.now.value.run c.args.objects)) (sym pushed)
          (All-push (IsSeat c.args.heap.now.value.run c.args.objects) threads made i.seats c.in_ok-seat.ensures.seat);
      share = subst (All (λ (it : LongRecorded). it.heap.value ≡ c.args.heap.now.value)) (sym pushed)
          (All-push (λ (it : LongRecorded). it.heap.value ≡ c.args.heap.now.value) threads made i.share c.in_ok-seat.ensures.share);
      tracks = ap (map (λ (it : LongRecorded). it.track)) pushed ∙ map_push (λ (it : LongRecorded). it.track) threads made c.loop-track.yielded c.in-Some.track i.tracks c.in_ok-seat.ensures.track;
    }
