use Rattle.std.proofs.Common.{rules, ◌≡◌, ◌∙◌, ℕ, ◌<◌, inl, inr, length, slice_index, slice_set, sym, subst, arith, length-set, get_or-set_same, get_or-set_other}
use Rattle.std.proofs.lemmas.Bool.{cases_eq}
use Rattle.std.proofs.lemmas.List.{get_or_default}
use Rattle.octet_model.specs.Orders.{starting_heap}
use Rattle.octet_parallel.specs.Alone.{IsMergedAt}
use Rattle.octet_parallel.proofs.alone.merged.Goals as goal

pub loop-object-preserved : goal.loop-object-preserved
loop-object-preserved c =
    let starts = starting_heap c.args.script.now in
    let threads = c.args.threads.now in
    let i = c.loop-object.invariant in
    let heap = c.loop-object.heap.items in
    let object = c.loop-object.object in
    let value = c.merged_value.result in
    let within : object < length heap = search rules in
    let start : slice_index starts object ≡ c.index.result.now =
    sym (c.index.ensures ∙ get_or_default heap object c.index.result.now 0 within ∙ i.past object (omega arith)) in
    let here : IsMergedAt starts threads object (slice_index (slice_set heap object value) object) =
    subst (IsMergedAt starts threads object) (sym (get_or-set_same heap object value 0 within)) (c.merged_value.ensures starts start) in
    record {
      as_many = length-set heap object value ∙ i.as_many;
      before = λ k below.
          elim (cases_eq k object) [
            | inl same ↦ subst (λ (n : ℕ). IsMergedAt starts threads n (slice_index (slice_set heap object value) n)) (sym same) here
            | inr differ ↦ subst (IsMergedAt starts threads k) (sym (get_or-set_other heap object k value 0 differ)) (i.before k (omega (arith, below, differ)))
          ];
      past = λ k above. get_or-set_other heap object k value 0 (λ (same : k ≡ object). absurd (omega (arith, same, above))) ∙ i.past k (omega (arith, above));
    }
