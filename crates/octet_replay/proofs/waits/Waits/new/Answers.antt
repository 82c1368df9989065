use Rattle.std.proofs.Common.{◌≡◌, ℕ, inl, inr, ◌∙◌, sym, ap, subst, arith, length, slice_get, None}
use Rattle.std.proofs.lemmas.Bool.{cases_eq, cases_lt}
use Rattle.std.proofs.lemmas.Option.{slice_get_past}
use Rattle.octet_replay.specs.Needs.{NeedsAndCounts}
use Rattle.octet_replay.specs.WaitingLists.{counts_of, IsPlaced}
use Rattle.octet_replay.proofs.Placing.{not_there}
use Rattle.octet_replay.proofs.waits.Waits.new.Goals as goal

pub loop-thread-init : goal.loop-thread-init
loop-thread-init c = record {
  sized = c.in_ok-lists.ensures.sized;
  counts_are = c.in_ok-lists.ensures.counts;
  placed = λ any where_. elim where_ [
    | inl below ↦ absurd (omega arith)
    | inr past ↦
        let none : slice_get c.in_ok-lists.lists.needs.items any ≡ None =
        ap (λ (w : NeedsAndCounts). slice_get w.needs any) c.in_ok-lists.ensures.counts ∙ slice_get_past c.args.needs.now any past in
        record { ready = c.in_ok-lists.ensures.ready any ∙ sym (not_there (counts_of c.in_ok-lists.lists) any none); listed = λ need at. absurd cc }
  ];
}

pub loop-thread-preserved : goal.loop-thread-preserved
loop-thread-preserved c = record {
  sized = c.place.ensures.sized;
  counts_are = c.place.ensures.kept.counts_are ∙ c.loop-thread.invariant.counts_are;
  placed = λ any where_. elim where_ [
    | inr past ↦ c.place.ensures.others any (c.loop-thread.invariant.placed any (inr past))
    | inl below ↦ elim (cases_eq any c.loop-thread.thread) [
      | inl same ↦ subst (λ (n : ℕ). IsPlaced c.place.new.self n) (sym same) (c.place.ensures.placed (omega (arith, ap (λ (w : NeedsAndCounts). length w.needs) c.loop-thread.invariant.counts_are)))
      | inr differ ↦ c.place.ensures.others any (c.loop-thread.invariant.placed any (inl (omega arith)))
    ]
  ];
}

pub invariant_of-result : goal.invariant_of-result
invariant_of-result c = record {
  sized = c.loop-thread.invariant.sized;
  placed = λ any. c.loop-thread.invariant.placed any (elim (cases_lt any c.loop-thread.thread) [ inl below ↦ inl below | inr past ↦ inr (omega arith) ]);
}
