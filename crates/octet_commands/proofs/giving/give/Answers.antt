use Rattle.std.proofs.Common.{map}
use Rattle.std.specs.List.{flat_map}
use Rattle.octet_commands.specs.Answer.{file_of}
use Rattle.octet_commands.specs.Delivery.{file_acts}
use Rattle.octet_commands.proofs.writing.Made.{stays_refused, then_said}
use Rattle.octet_commands.proofs.giving.give.Goals as goal

pub returns-in-Ok : goal.returns-in-Ok
returns-in-Ok g c =
    then_said (flat_map file_acts (map file_of c.args.reply.now.outputs)) c.args.reply.now.text c.as_slice-in-Ok.result.now _ _ _ c.say.result c.as_slice-in-Ok.ensures (rw (← c.as_slice.ensures) c.in-Ok.ensures.made) c.say.ensures

pub returns-in-Err : goal.returns-in-Err
returns-in-Err g c =
    stays_refused (flat_map file_acts (map file_of c.args.reply.now.outputs)) _ _ _ c.in-Err.fault (rw (← c.as_slice.ensures) c.in-Err.ensures.made)
