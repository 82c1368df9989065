use Rattle.std.proofs.Common.{rules, ◌≡◌, ◌∙◌, ℕ, [], ◌∷◌, ◌++◌, All, drop, length, length-append, ap, sym, subst, arith, suc, IfSome}
use Rattle.once_cell.specs.Once.{Agrees}
use Rattle.octet_stream.specs.declared.track.Track.{Track}
use Rattle.octet_stream.specs.Runs.{RestsAs, EachRests}
use Rattle.octet_stream.specs.Tracks.{number_of}
use Rattle.octet_host.specs.Sealed.{IsSealed, AreFound}
use Rattle.octet_host.proofs.lemmas.Rows.{each_more}
use Rattle.octet_host.proofs.lemmas.Sealing.{drop_rest, found_more}
use Rattle.octet_host_long.proofs.closing.tracks_on.Goals as goal

pub loop-place-preserved : goal.loop-place-preserved
loop-place-preserved c =
    let i = c.loop-place.invariant in let sealed = c.args.sealed.now in let left = c.into_inner-track.result in let track = left.track in let taken = c.loop-place.tracks in
    let notes = c.args.notes.items in let others = c.next-in-loop-place.new.self.rest.items in let mine = c.in-Some-next.mine in
    let next : c.loop-place.place-iterator.rest.items ≡ c.in-Some.place ∷ c.next.new.self.rest.items = search rules in
    let all : All (λ tag. tag ≡ sealed) (c.in-Some.place ∷ c.next.new.self.rest.items) = subst (All (λ tag. tag ≡ sealed)) next i.rest in
    let here : c.in-Some.place ≡ sealed = all 0 c.in-Some.place (omega arith) in
    let pushed : c.push.new.self ≡ taken ++ track ∷ [] = search rules in
    let step : length c.push.new.self ≡ suc (length taken) = omega (arith, ap length pushed, length-append taken (track ∷ [])) in
    let number : number_of track ≡ length taken = search rules in
    let is : RestsAs sealed.run (length taken) track = record { own = search rules; number = number; rests = search rules } in
    let note : drop (length taken) notes ≡ mine ∷ others = search rules in
    let under : IsSealed sealed.seals.items (number_of track) track left.note = search rules in
    let agrees : left.note.cell ≡ mine.cell → IfSome left.note.known (Agrees mine.known) = search rules in record {
      rest = λ k d lt. all (suc k) d (omega (arith, lt));
      taken = subst (EachRests sealed.run) (sym pushed) (each_more (RestsAs sealed.run) taken track i.taken is);
      count = omega (arith, i.count, ap length pushed, ap length next, length-append taken (track ∷ []));
      noted = ap (λ n. drop n notes) step ∙ drop_rest (length taken) notes others mine note;
      found = subst (AreFound (λ it. it) sealed.seals.items notes) (sym pushed)
          (found_more (λ (it : Track). it) sealed.seals.items notes others taken mine left.note track note (subst (λ (n : ℕ). IsSealed sealed.seals.items n track left.note) number under) agrees i.found);
    }
