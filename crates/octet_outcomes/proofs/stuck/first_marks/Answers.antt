use Rattle.std.proofs.Common.{◌≡◌, ◌≤◌, ℕ, Bool, true, false, [], ◌∷◌, ap, arith, length, length-append, get_or, add-one}
use Rattle.octet_outcomes.specs.Moments.{no_moment, AllDone}
use Rattle.octet_outcomes.specs.Stuck.{IsWhole, LeadsToEnd}
use Rattle.octet_outcomes.proofs.Ways.{pushed}
use Rattle.octet_outcomes.proofs.stuck.first_marks.Goals as goal

pub loop-place-preserved : goal.loop-place-preserved
loop-place-preserved c =
    let script = c.args.script.now in
    let found = c.args.found.now in
    let marks = c.loop-place.marks.items in
    let mark = c.is_marked_first.result in
    rw add-one (record {
      len = omega (arith, ap length c.in_ok-push.ensures.items, length-append marks (mark ∷ []), c.loop-place.invariant.len);
      ends = pushed marks _ c.loop-place.place mark false (λ (k : ℕ) (b : Bool). AllDone script (get_or found.moments.moments k no_moment) → b ≡ true) c.loop-place.invariant.len c.in_ok-push.ensures.items c.is_marked_first.ensures.ends c.loop-place.invariant.ends;
      rest = pushed marks _ c.loop-place.place mark false (λ (k : ℕ) (b : Bool). length found.edges.rows ≤ k → b ≡ true) c.loop-place.invariant.len c.in_ok-push.ensures.items c.is_marked_first.ensures.rest c.loop-place.invariant.rest;
      leads = pushed marks _ c.loop-place.place mark false (λ (k : ℕ) (b : Bool). b ≡ true → IsWhole found → LeadsToEnd script (get_or found.moments.moments k no_moment)) c.loop-place.invariant.len c.in_ok-push.ensures.items c.is_marked_first.ensures.leads c.loop-place.invariant.leads;
    })

pub returns : goal.returns
returns c = record {
  len = omega (arith, c.loop-place.invariant.len, c.loop-place-test.false, c.loop-place.auto.place-end);
  ends = λ k below. c.loop-place.invariant.ends k (omega (arith, below, c.loop-place.invariant.len));
  rest = λ k below. c.loop-place.invariant.rest k (omega (arith, below, c.loop-place.invariant.len));
  leads = λ k below. c.loop-place.invariant.leads k (omega (arith, below, c.loop-place.invariant.len));
}
