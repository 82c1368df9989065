use Rattle.std.proofs.Common.{rules, ◌≡◌, refl, [], ◌∷◌, ◌++◌, All, length, length-append, slice_index_or, ap, sym, subst, arith, suc}
use Rattle.std.proofs.lemmas.List.Elements.{All-push}
use Rattle.octet_recorder.specs.Tracks.{IsNew, number_of}
use Rattle.octet_host_script.specs.declared.recorded.Recorded.{Recorded}
use Rattle.octet_host_script.specs.Opened.{EachFirst, IsFirstOf}
use Rattle.octet_host_script.specs.Threads.{IsRecorded}
use Rattle.octet_host_script.proofs.First.{first_of_new, rests_of_new}
use Rattle.octet_host.proofs.lemmas.Rows.{each_more, first_of, rest_of}
use Rattle.octet_host_script.proofs.opening.seat_all.Goals as goal

pub seat-requires-clause-own : goal.seat-requires-clause-own
seat-requires-clause-own c =
    let recorder = c.args.heap.now.value.recorder in let track = c.in-Some.track in let long = length c.loop-track.threads.items in
    let next : c.loop-track.track-iterator.rest.items ≡ track ∷ c.next.new.self.rest.items = search rules in
    (first_of (λ n t. IsNew recorder n t) long next c.loop-track.invariant.rest).own

pub seat-requires-clause-off : goal.seat-requires-clause-off
seat-requires-clause-off c =
    let recorder = c.args.heap.now.value.recorder in let track = c.in-Some.track in let long = length c.loop-track.threads.items in
    let next : c.loop-track.track-iterator.rest.items ≡ track ∷ c.next.new.self.rest.items = search rules in
    rests_of_new recorder long track (first_of (λ n t. IsNew recorder n t) long next c.loop-track.invariant.rest)

pub seat-requires-clause-first : goal.seat-requires-clause-first
seat-requires-clause-first c =
    let recorder = c.args.heap.now.value.recorder in let track = c.in-Some.track in let long = length c.loop-track.threads.items in
    let next : c.loop-track.track-iterator.rest.items ≡ track ∷ c.next.new.self.rest.items = search rules in
    let first = first_of_new recorder long track (first_of (λ n t. IsNew recorder n t) long next c.loop-track.invariant.rest) in
    record { number = refl; journal = first.journal; begun = first.begun; region = first.region; left = first.left }

pub loop-track-preserved : goal.loop-track-preserved
loop-track-preserved c =
    let i = c.loop-track.invariant in let made = c.in_ok-seat.field-0 in let track = c.in-Some.track in let recorder = c.args.heap.now.value.recorder in
    let threads = c.loop-track.threads.items in let left = c.next.new.self.rest.items in
    let next : c.loop-track.track-iterator.rest.items ≡ track ∷ left = search rules in
    let pushed : c.push.new.self.items ≡ threads ++ made ∷ [] = search rules in
    let long : length c.push.new.self.items ≡ suc (length threads) = omega (arith, ap length pushed, length-append threads (made ∷ [])) in
    let new : IsNew recorder (length threads) track = first_of (λ n t. IsNew recorder n t) (length threads) next i.rest in
    let number : number_of track ≡ length threads = (first_of_new recorder (length threads) track new).number in
    let first : IsFirstOf recorder (length threads) made = subst (λ n. IsFirstOf recorder n made) number c.in_ok-seat.ensures.first in record {
      rest = λ k none lt. subst (λ n. IsNew recorder n (slice_index_or left k none)) (omega (arith, long)) (rest_of (λ n t. IsNew recorder n t) (length threads) next i.rest k none lt);
      good = subst (All IsRecorded) (sym pushed) (All-push IsRecorded threads made i.good c.in_ok-seat.ensures.good);
      share = subst (All (λ (it : Recorded). it.heap.value ≡ c.args.heap.now.value)) (sym pushed) (All-push (λ (it : Recorded). it.heap.value ≡ c.args.heap.now.value) threads made i.share c.in_ok-seat.ensures.share);
      first = subst (EachFirst recorder) (sym pushed) (each_more (IsFirstOf recorder) threads made i.first first);
      count = omega (arith, i.count, long, ap length next);
    }
