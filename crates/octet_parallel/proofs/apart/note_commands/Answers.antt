use Rattle.std.proofs.lemmas.Option.{slice_get-get_or}
use Rattle.octet_parallel.proofs.uses.Known.{one_command}
use Rattle.octet_parallel.proofs.apart.note_commands.Goals as goal

pub loop-command-preserved : goal.loop-command-preserved
loop-command-preserved c =
    let commands = c.args.commands.now in
    one_command _ _ commands _ _ _ _ (slice_get-get_or commands c.loop-command.command-index _ c.loop-command-test.true)
    c.loop-command.invariant c.note.ensures
