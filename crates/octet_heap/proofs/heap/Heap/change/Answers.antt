use Rattle.octet_rule.specs.Seats.{view}
use Rattle.octet_heap.proofs.polls.Updated.{change_comes, change_ends}
use Rattle.octet_heap.proofs.heap.Heap.change.Goals as goal

pub returns-clause-comes : goal.returns-clause-comes
returns-clause-comes c = change_comes c.args.object c.args.change (view c.args.recorder.now.seat) (view c.update-before.new.self.seat) c.update-before.result c.requires.stands c.update-before.ensures.step c.update-before.ensures.led

pub returns-clause-ends : goal.returns-clause-ends
returns-clause-ends c = change_ends c.args.object c.args.change (view c.args.recorder.now.seat) (view c.update-before.new.self.seat) c.update-before.result c.requires.stands.1 c.update-before.ensures.step c.update-before.ensures.led
