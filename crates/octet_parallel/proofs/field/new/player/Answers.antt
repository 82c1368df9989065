use Rattle.std.proofs.Common.{rules}
use Rattle.octet_parallel.proofs.seats.Beginning.{few_events}
use Rattle.octet_parallel.proofs.field.new.player.Goals as goal

pub overflow_add-events : goal.overflow_add-events
overflow_add-events c = let few = few_events c.args.log.now c.args.number c.index-as_slice-number.result c.requires.number (search rules) in search rules
