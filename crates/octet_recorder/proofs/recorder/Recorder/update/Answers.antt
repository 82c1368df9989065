use Rattle.std.proofs.Common.{rules, arith}
use Rattle.octet_heap.specs.Workers.{seat_of}
use Rattle.octet_recorder.specs.Tracks.{objects_in}
use Rattle.octet_recorder.proofs.lemmas.Programs.{program_long}
use Rattle.octet_recorder.proofs.Keeping.{may_update, updated_own}
use Rattle.octet_recorder.proofs.recorder.Recorder.update.Goals as goal

pub update-updated-requires-clause-may : goal.update-updated-requires-clause-may
update-updated-requires-clause-may c = may_update c.args.self.now c.args.track.now c.args.object c.args.change c.requires.own c.requires.may

pub update-updated-requires-clause-more : goal.update-updated-requires-clause-more
update-updated-requires-clause-more c =
    omega (arith, c.requires.more, c.args.self.now.fuel, program_long (objects_in c.args.self.now) c.args.track.now.commands.items (seat_of c.args.track.now.worker).journal c.requires.own.program)

pub returns-clause-own : goal.returns-clause-own
returns-clause-own c =
    updated_own c.args.self.now c.args.object c.args.change c.args.track.now c.update-updated.result c.take_in.new.self c.requires.own c.requires.more c.requires.object (search rules)
    (search rules) (search rules) (search rules) (search rules) (search rules) (search rules)
