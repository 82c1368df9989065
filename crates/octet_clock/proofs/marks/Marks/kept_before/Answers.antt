use Rattle.std.proofs.Common.{◌≡◌, ◌-◌, ℕ, List, length, ltb, Some, true, false, sym, ap, ◌∙◌, subst, rules, slice_get}
use Rattle.std.specs.List.Sorted.{IsNonDecreasingBy, IsPartitionPoint}
use Rattle.std.proofs.lemmas.List.Sorted.{IsPartitionPoint-from_clause, IsPartitionedBy-ltb}
use Rattle.octet_clock.proofs.pasts.KeptMarks.{all_before}
use Rattle.octet_clock.proofs.marks.Marks.kept_before.Goals as goal

pub returns-in-Some-clause-point : goal.returns-in-Some-clause-point
returns-in-Some-clause-point c sorted =
    let kept = c.args.self.now.events in
    let there : slice_get kept.items (length kept.items - 1) ≡ Some c.in-Some.last.now =
    ap (λ (events : List ℕ). slice_get events (length events - 1)) (sym c.deref.ensures.value) ∙ sym c.in-Some.ensures.value in
    all_before kept.items c.args.upto c.in-Some.last.now c.len.result (c.len.ensures ∙ kept.ok.0) there c.if-last-upto.true sorted

pub returns-in_default-clause-point : goal.returns-in_default-clause-point
returns-in_default-clause-point c sorted =
    let sorted' = subst (λ (events : List ℕ). IsNonDecreasingBy (λ (event : ℕ). event) events) (sym c.deref-in_default.ensures.value) sorted in
    let parted = IsPartitionedBy-ltb (λ event. event) _ c.args.upto sorted' in
    subst (λ (events : List ℕ). IsPartitionPoint (λ (event : ℕ). ltb event c.args.upto ≡ true) (λ (event : ℕ). ltb event c.args.upto ≡ false) events c.partition_point.result) c.deref-in_default.ensures.value
    (IsPartitionPoint-from_clause (λ event. ltb event c.args.upto) _ _ c.partition_point.ensures.partitioned parted (λ a r q k. search rules))
