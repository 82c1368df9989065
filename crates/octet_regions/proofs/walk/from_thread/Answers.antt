use Rattle.std.proofs.Common.{◌≡◌, ◌-◌, drop, inl, inr, length, get_or, Some, slice_get, sym, ap, ◌∙◌, arith}
use Rattle.std.proofs.lemmas.List.{take_all, length-drop}
use Rattle.std.proofs.lemmas.Bool.{cases_lt}
use Rattle.std.proofs.lemmas.Option.{slice_get-get_or, slice_get_within}
use Rattle.octet_regions.specs.declared.region.Hop.{Hop}
use Rattle.octet_regions.proofs.Walking.{from_here, no_hop}
use Rattle.octet_regions.proofs.walk.from_thread.Goals as goal

pub returns-then-hops-first : goal.returns-then-hops-first
returns-then-hops-first c =
    from_here c.args.hops.now c.from_vec.result c.loop-first.first c.args.thread (get_or c.args.hops.now c.loop-first.first no_hop) (c.from_vec.ensures ∙ c.in_ok-from_slice.ensures.items ∙ take_all (length c.args.hops.now - c.loop-first.first) (drop c.loop-first.first c.args.hops.now) (omega (arith, length-drop c.loop-first.first c.args.hops.now))) (slice_get-get_or c.args.hops.now c.loop-first.first no_hop c.loop-first-test.true) c.if-hops-first.true

pub loop-first-preserved : goal.loop-first-preserved
loop-first-preserved c = λ i hop lt is.
    elim (cases_lt i c.loop-first.first) [
      | inl lower ↦ c.loop-first.invariant i hop lower is
      | inr ge ↦ λ same. c.if-hops-first.false (
          let here : i ≡ c.loop-first.first = omega (arith, ge, lt) in
          let at = slice_get-get_or c.args.hops.now c.loop-first.first no_hop c.loop-first-test.true in
          let at' : slice_get c.args.hops.now c.loop-first.first ≡ Some hop = ap (slice_get c.args.hops.now) (sym here) ∙ is in
          let one : get_or c.args.hops.now c.loop-first.first no_hop ≡ hop = cc in
          ap (λ (h : Hop). h.after.thread) one ∙ same)
    ]

pub unreachable-requires : goal.unreachable-requires
unreachable-requires c =
    c.loop-first.invariant c.requires.place c.requires.hop (omega (arith, slice_get_within c.args.hops.now c.requires.place c.requires.hop c.requires.is_there, c.loop-first-test.false)) c.requires.is_there c.requires.into
