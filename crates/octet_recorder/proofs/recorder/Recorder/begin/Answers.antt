use Rattle.std.proofs.Common.{rules, arith}
use Rattle.octet_heap.specs.Workers.{seat_of}
use Rattle.octet_recorder.specs.Tracks.{objects_in}
use Rattle.octet_recorder.proofs.lemmas.Programs.{program_long}
use Rattle.octet_recorder.proofs.Keeping.{idle_worker, begun_own}
use Rattle.octet_recorder.proofs.recorder.Recorder.begin.Goals as goal

pub access_or_begin-poll-requires-clause-idle : goal.access_or_begin-poll-requires-clause-idle
access_or_begin-poll-requires-clause-idle c = idle_worker c.args.self.now c.args.track.now c.requires.own c.requires.idle

pub access_or_begin-poll-requires-clause-more : goal.access_or_begin-poll-requires-clause-more
access_or_begin-poll-requires-clause-more c =
    omega (arith, c.requires.more, c.args.self.now.fuel, program_long (objects_in c.args.self.now) c.args.track.now.commands.items (seat_of c.args.track.now.worker).journal c.requires.own.program)

pub returns-clause-own : goal.returns-clause-own
returns-clause-own c =
    begun_own c.args.self.now c.args.wanted c.args.access c.args.track.now c.access_or_begin-poll.result c.take_in.new.self c.requires.own c.requires.more c.requires.object (search rules)
    c.requires.wanted c.requires.no_update (search rules) (search rules) (search rules) c.take_in.ensures.begun (search rules) (search rules)
