use Rattle.std.proofs.Common.{◌≡◌, ◌∙◌, List, sym, ap, subst}
use Rattle.octet_model.specs.declared.outcome.End.{End}
use Rattle.octet_model.specs.Orders.{IsFaithful}
use Rattle.octet_heap.specs.declared.worker.Worker.{Worker}
use Rattle.octet_heap.specs.Seated.{EachRests}
use Rattle.octet_heap.specs.Closings.{IsClosed}
use Rattle.octet_threads.specs.declared.heap.runner.Runner.{Runner}
use Rattle.octet_threads.proofs.runners.Ending.{ends_in, each_rests, valid, faithful}
use Rattle.octet_threads.proofs.heap.recording.finish_run.Goals as goal

pub close-requires-clause-still : goal.close-requires-clause-still
close-requires-clause-still c =
    subst (λ (l : List Worker). EachRests c.args.heap l) (sym c.in_ok-workers.ensures) (each_rests c.args.script.now c.args.heap c.args.runners.items c.requires.heap c.requires.runners c.requires.ended)

pub invariant_of-log : goal.invariant_of-log
invariant_of-log c =
    let closed = c.in_ok-logs.field-0 in
    let closes = subst (λ (l : List Worker). IsClosed c.args.heap l closed) c.in_ok-workers.ensures c.in_ok-logs.ensures.closed in record {
      valid = valid c.args.script.now c.args.heap c.args.runners.items c.requires.heap c.requires.runners c.requires.ended closed closes;
    }

pub returns-clause-faithful : goal.returns-clause-faithful
returns-clause-faithful c =
    let closed = c.in_ok-logs.field-0 in
    let closes = subst (λ (l : List Worker). IsClosed c.args.heap l closed) c.in_ok-workers.ensures c.in_ok-logs.ensures.closed in
    let told : c.in_ok-ends.ends ≡ ends_in c.args.runners.items = c.in_ok-ends.ensures ∙ ap (λ (l : List Runner). ends_in l) c.as_slice.ensures.value in
    subst (λ (ends : List End). IsFaithful c.args.script.now closed.logs (record { ends = ends; reads = closed.reads; heap = closed.heap })) (sym told)
    (faithful c.args.script.now c.args.heap c.args.runners.items c.requires.heap c.requires.runners c.requires.ended closed closes)
