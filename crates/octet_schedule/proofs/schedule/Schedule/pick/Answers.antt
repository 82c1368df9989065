use Rattle.octet_schedule.proofs.Picking.{chosen_and_noted}
use Rattle.octet_schedule.proofs.schedule.Schedule.pick.Goals as goal

pub returns : goal.returns
returns c =
    let chosen = c.choose-thread.ensures in
    chosen_and_noted c.args.self.now c.choose-thread.new.self c.note.new.self c.args.ready.now c.ready_worker-at_work.result c.choose-thread.result
    c.ready_worker-at_work.ensures chosen.ready chosen.rests chosen.goes chosen.at_work chosen.in_a_row
    c.note.ensures.way c.note.ensures.draws c.note.ensures.notes
