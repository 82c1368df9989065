use Rattle.std.proofs.Common.{refl, ap, rules}
use Rattle.rtrb.specs.Ring.{received}
use Rattle.octet_stream.specs.declared.long_follower.LongFollower.{LongFollower}
use Rattle.octet_stream.proofs.Blocks.{waits_for_more, ends, breaks_off, gives_part, gives_block}
use Rattle.octet_stream.proofs.long_rerun.LongRerun.take_block.Goals as goal

pub end-requires : goal.end-requires
end-requires c = record { own = ends c.args.self.now c.args.thread.now _ c.requires.own c.requires.compared refl refl c.gather.ensures.room c.in-ThreadEnd.ensures.gathers }

pub end-requires-in-BreaksOff : goal.end-requires-in-BreaksOff
end-requires-in-BreaksOff c = record { own = breaks_off c.args.self.now c.args.thread.now _ c.requires.own c.requires.compared refl refl c.gather.ensures.room c.in-BreaksOff.ensures.gathers }

pub returns-in-Nothing-clause-own : goal.returns-in-Nothing-clause-own
returns-in-Nothing-clause-own c = waits_for_more c.args.self.now c.args.thread.now _ c.requires.own c.requires.compared refl refl c.gather.ensures.room c.in-Nothing.ensures.gathers

pub returns-in-Full-clause-own : goal.returns-in-Full-clause-own
returns-in-Full-clause-own c =
    let w = c.give.new.thread in
    gives_part c.args.self.now c.args.thread.now w c.requires.own c.requires.compared (received c.gather.new.feed) c.gather.new.marks.items c.give.ensures.own
    (ap (λ (t : LongFollower). received t.feed) c.give.ensures.rest) c.give.ensures.none c.give.ensures.room (ap (λ (t : LongFollower). t.expected) c.give.ensures.rest) c.in-Full.ensures.gathers c.give.ensures.takes

pub returns-in-BlockEnd-clause-own : goal.returns-in-BlockEnd-clause-own
returns-in-BlockEnd-clause-own c =
    let w = c.give-in-BlockEnd.new.thread in
    gives_block c.args.self.now c.args.thread.now w c.requires.own c.requires.compared (received c.gather.new.feed) c.gather.new.marks.items c.in-BlockEnd.gap c.from.result c.in-BlockEnd.digest c.give-in-BlockEnd.ensures.own
    (ap (λ (t : LongFollower). received t.feed) c.give-in-BlockEnd.ensures.rest) c.give-in-BlockEnd.ensures.none c.give-in-BlockEnd.ensures.room (ap (λ (t : LongFollower). t.expected) c.give-in-BlockEnd.ensures.rest)
    c.in-BlockEnd.ensures.gathers (search rules) c.give-in-BlockEnd.ensures.takes
