use Rattle.std.proofs.Common.{◌≡◌, suc, [], ◌∷◌, ◌++◌, refl, sym, ap, ◌∙◌, arith}
use Rattle.octet_replay.specs.ReplayState.{ReplayState}
use Rattle.octet_regions.specs.declared.access.Access.{Access}
use Rattle.octet_regions.proofs.Gathering.{at_next, gathered_access, gathered_mark, made_there, made_within, steps_still}
use Rattle.octet_regions.proofs.gather.next_access.Goals as goal

pub unreachable-requires : goal.unreachable-requires
unreachable-requires c = steps_still c.loop-thread.replayer c.in-Some.thread c.in-Some.ensures.some c.in_default-step.ensures.0

pub returns-then-is_access-clause-adds : goal.returns-then-is_access-clause-adds
returns-then-is_access-clause-adds c =
    let inv = c.loop-thread.invariant in
    let r = c.loop-thread.replayer in
    let t = c.in-Some.thread in
    let next = at_next r t _ c.in-Made.event c.in-Some.ensures.some c.in-Made.ensures.0 in
    let access = sym c.is_access.ensures ∙ c.if-is_access.true in
    let steps : c.step.new.self.steps ≡ suc r.steps = ap (λ (x : ReplayState). x.steps) c.in-Made.ensures.1 in
    let one : Access = record { region = record { thread = t; number = c.regions-number.result }; event = c.in-Made.event } in (
      λ seen gathered. gathered_access r t c.in-Made.event next c.step.new.self seen (seen ++ one ∷ []) c.regions-number.result c.in-Made.ensures.1 access
          c.regions-number.ensures.regions c.regions-number.ensures.few refl (inv.gathered seen gathered),
      made_there r c.args.replayer.now t inv.script c.in-Some.ensures.some.there,
      c.regions-number.ensures.few,
      omega (arith, steps, inv.further),
      made_within r c.args.replayer.now t c.in-Made.event next inv.script inv.log c.step.new.self.steps steps,
    )

pub loop-thread-preserved : goal.loop-thread-preserved
loop-thread-preserved c =
    let inv = c.loop-thread.invariant in
    let r = c.loop-thread.replayer in
    let t = c.in-Some.thread in
    let next = at_next r t _ c.in-Made.event c.in-Some.ensures.some c.in-Made.ensures.0 in
    let no_access = sym c.is_access.ensures ∙ c.if-is_access.false in
    record {
      script = ap (λ (x : ReplayState). x.script) c.in-Made.ensures.1 ∙ inv.script;
      log = ap (λ (x : ReplayState). x.log) c.in-Made.ensures.1 ∙ inv.log;
      further = omega (arith, inv.further, ap (λ (x : ReplayState). x.steps) c.in-Made.ensures.1);
      gathered = λ seen gathered. gathered_mark r t c.in-Made.event next c.step.new.self seen c.in-Made.ensures.1 no_access (inv.gathered seen gathered);
    }
