use Rattle.std.proofs.Common.{rules, ◌≡◌, ◌∙◌, ◌<◌, length, length-set, slice_index_or, Some, None, sym, subst, arith}
use Rattle.std.specs.Prelude.{MatchOption}
use Rattle.std.proofs.lemmas.List.{get_or-set_other}
use Rattle.octet_c.specs.declared.handle.Handle.{Handle}
use Rattle.octet_c.specs.Sessions.{IsHeld}
use Rattle.octet_host.proofs.lemmas.Rows.{set_more}
use Rattle.octet_c.proofs.Taken.{more_taken, more_good, more_refused}
use Rattle.octet_c.proofs.handing.take_all.Goals as goal

pub loop-place-preserved : goal.loop-place-preserved
loop-place-preserved c =
    let i = c.loop-place.invariant in let index = c.loop-place.place-index in let items = c.loop-place.place-items in let olds = c.args.handles.now in
    let place = c.place-item.result in let new = c.take.new.self in
    let inside : index < length olds = omega (arith, c.loop-place-test.true, i.count) in
    let is : slice_index_or items index place ≡ place = sym c.place-item.is in
    let at : slice_index_or olds index place ≡ place = sym (i.rest index place (omega arith)) ∙ is in
    let gives : MatchOption c.take.result (place.held ≡ None) (λ b. (place.held ≡ Some b.value) × IsHeld b.value) =
    subst (λ (h : Handle). MatchOption c.take.result (h.held ≡ None) (λ b. (h.held ≡ Some b.value) × IsHeld b.value)) is c.take.ensures.taken in record {
      taken = more_taken (λ (h : Handle). h.held) (λ v. v.items) (λ b. b.value) olds index place inside at c.loop-place.taken c.add-taken.result c.take.result gives c.add-taken.ensures.had c.add-taken.ensures.added i.taken;
      good = more_good (λ (h : Handle). h.held) (λ v. v.items) (λ b. b.value) olds index place inside at c.loop-place.taken c.add-taken.result c.take.result gives c.add-taken.ensures.had c.add-taken.ensures.added i.good;
      refused = more_refused (λ (h : Handle). h.held) (λ v. v.items) (λ b. b.value) olds index place inside at c.loop-place.taken c.add-taken.result c.take.result gives c.add-taken.ensures.refused i.refused;
      rest = λ k d lt. get_or-set_other items index k new d (λ same. omega (arith, lt, same)) ∙ i.rest k d (omega (arith, lt));
      count = length-set items index new ∙ i.count;
      gone = λ k d lt there.
          let taken : new.held ≡ None = search rules in
          set_more (λ (h : Handle). h.held ≡ None) items index new i.gone taken k d (omega (arith, lt)) there;
    }
