use Rattle.std.proofs.Common.{◌≡◌, ◌<◌, ◌-◌, suc, [], length, get_or, arith}
use Rattle.octet_outcomes.specs.Moments.{no_moment}
use Rattle.octet_outcomes.proofs.Going.{leads_by}
use Rattle.octet_outcomes.proofs.stuck.leads_to_marked.Goals as goal

pub bounds-marks-edge : goal.bounds-marks-edge
bounds-marks-edge c =
    let found = c.args.found.now in
    let thread = c.loop-thread.thread in
    let edge = c.edge_at-edge.result in
    let lt : thread < length c.args.script.now.threads = omega (arith, c.thread_count-thread-end.ensures.count, c.loop-thread-test.true) in
    let is : get_or (get_or found.edges.rows c.args.place []) thread 0 ≡ suc (edge - 1) = omega (arith, c.edge_at-edge.ensures, c.if-edge-gt0.true) in
    let leads = (c.requires.searched.led c.args.place c.requires.there).right thread (edge - 1) lt is in
    omega (arith, leads.there, c.requires.marks.len)

pub returns-then-marks-edge-clause-some : goal.returns-then-marks-edge-clause-some
returns-then-marks-edge-clause-some c _ whole =
    let script = c.args.script.now in
    let found = c.args.found.now in
    let thread = c.loop-thread.thread in
    let edge = c.edge_at-edge.result in
    let lt : thread < length script.threads = omega (arith, c.thread_count-thread-end.ensures.count, c.loop-thread-test.true) in
    let is : get_or (get_or found.edges.rows c.args.place []) thread 0 ≡ suc (edge - 1) = omega (arith, c.edge_at-edge.ensures, c.if-edge-gt0.true) in
    let leads = (c.requires.searched.led c.args.place c.requires.there).right thread (edge - 1) lt is in
    leads_by script found.moments.moments (get_or found.moments.moments c.args.place no_moment) thread (edge - 1) lt leads (c.requires.marks.leads (edge - 1) (omega (arith, leads.there, c.requires.marks.len)) c.if-marks-edge.true whole)
