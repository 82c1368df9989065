use Rattle.std.proofs.Common.{List, [], ◌∷◌, ◌++◌, sym, ap, ◌∙◌, arith}
use Rattle.std.proofs.lemmas.List.FromFn.{map-range_with_len_more}
use Rattle.octet_interp.specs.Demands.{ThreadState}
use Rattle.octet_machine.specs.declared.run.Runner.{Runner}
use Rattle.octet_machine.specs.Machine.{starting_runner, starting_runners}
use Rattle.octet_machine.proofs.running.Opening.{started}
use Rattle.octet_machine.proofs.run.starting_runners.Goals as goal

pub loop-thread-preserved : goal.loop-thread-preserved
loop-thread-preserved c =
    let script = c.args.script.now in let thread = c.loop-thread.thread in
    c.in_ok-push.ensures.items
    ∙ ap (λ (xs : List Runner). xs ++ starting_runner c.in_ok-config.config ∷ []) c.loop-thread.invariant
    ∙ ap (λ (st : ThreadState). starting_runners script thread ++ starting_runner st ∷ []) c.in_ok-config.ensures
    ∙ sym (map-range_with_len_more (started script) 0 thread thread (omega arith))
