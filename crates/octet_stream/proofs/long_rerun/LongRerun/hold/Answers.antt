use Rattle.std.proofs.Common.{refl, inl, inr, ap}
use Rattle.octet_follow.specs.declared.halt.Halt.TheVariants as stopped_by
use Rattle.octet_follow.specs.Calls.{journal_in}
use Rattle.octet_stream.specs.declared.long_follower.LongFollower.{LongFollower}
use Rattle.octet_stream.specs.declared.long_rerun.Halt.TheVariants.{RecordingEnds, Amiss}
use Rattle.octet_stream.proofs.Reasons.{wait_answers, end_answers, left_answers, because}
use Rattle.octet_stream.proofs.long_rerun.LongRerun.hold.Goals as goal

pub returns-in-Waits-clause-reason : goal.returns-in-Waits-clause-reason
returns-in-Waits-clause-reason c =
    let halt = stopped_by.Waits c.in-Waits.whom c.in-Waits.needs c.in-Waits.found in
    because c.args.self.now c.args.wanted c.args.hold halt c.args.thread.now.follower c.wait.new.thread c.wait.result c.requires.halts c.in-Waits.is
    (ap (λ (t : LongFollower). journal_in t.follower) c.wait.ensures.stays) (wait_answers halt c.wait.new.thread c.wait.result tt c.wait.ensures.told)

pub returns-in-WaitsForDraws-clause-reason : goal.returns-in-WaitsForDraws-clause-reason
returns-in-WaitsForDraws-clause-reason c =
    let halt = stopped_by.WaitsForDraws c.in-WaitsForDraws.needs c.in-WaitsForDraws.found in let w = c.wait-in-WaitsForDraws in
    because c.args.self.now c.args.wanted c.args.hold halt c.args.thread.now.follower w.new.thread w.result c.requires.halts c.in-WaitsForDraws.is
    (ap (λ (t : LongFollower). journal_in t.follower) w.ensures.stays) (wait_answers halt w.new.thread w.result tt w.ensures.told)

pub returns-in-NeedsMarks-clause-reason : goal.returns-in-NeedsMarks-clause-reason
returns-in-NeedsMarks-clause-reason c =
    because c.args.self.now c.args.wanted c.args.hold stopped_by.NeedsMarks c.args.thread.now.follower c.want_marks.new.thread c.want_marks.result c.requires.halts c.in-NeedsMarks.is
    c.want_marks.ensures.stays.journal c.want_marks.ensures.told

pub returns-in-RecordingEnds-clause-reason : goal.returns-in-RecordingEnds-clause-reason
returns-in-RecordingEnds-clause-reason c =
    because c.args.self.now c.args.wanted c.args.hold stopped_by.RecordingEnds c.args.thread.now.follower c.args.thread.now c.leave.result c.requires.halts c.in-RecordingEnds.is
    refl (left_answers stopped_by.RecordingEnds c.args.thread.now c.leave.result RecordingEnds c.leave.ensures (inr refl))

pub returns-in-OverEnd-clause-reason : goal.returns-in-OverEnd-clause-reason
returns-in-OverEnd-clause-reason c =
    let told = c.pass_end.ensures in
    because c.args.self.now c.args.wanted c.args.hold stopped_by.OverEnd c.args.thread.now.follower c.args.thread.now c.pass_end.result c.requires.halts c.in-OverEnd.is
    refl (end_answers stopped_by.OverEnd c.args.thread.now c.pass_end.result told.0 told.1 told.2 tt)

pub returns-in-EndsEarly-clause-reason : goal.returns-in-EndsEarly-clause-reason
returns-in-EndsEarly-clause-reason c =
    let halt = stopped_by.EndsEarly c.in-EndsEarly.left in let w = c.pass_end-in-EndsEarly in let told = w.ensures in
    because c.args.self.now c.args.wanted c.args.hold halt c.args.thread.now.follower c.args.thread.now w.result c.requires.halts c.in-EndsEarly.is
    refl (end_answers halt c.args.thread.now w.result told.0 told.1 told.2 tt)

pub returns-in-NoObject-clause-reason : goal.returns-in-NoObject-clause-reason
returns-in-NoObject-clause-reason c =
    because c.args.self.now c.args.wanted c.args.hold stopped_by.NoObject c.args.thread.now.follower c.args.thread.now c.leave-in-NoObject.result c.requires.halts c.in-NoObject.is
    refl (left_answers stopped_by.NoObject c.args.thread.now c.leave-in-NoObject.result Amiss c.leave-in-NoObject.ensures (inr (inl refl)))

pub returns-in-Amiss-clause-reason : goal.returns-in-Amiss-clause-reason
returns-in-Amiss-clause-reason c =
    because c.args.self.now c.args.wanted c.args.hold stopped_by.Amiss c.args.thread.now.follower c.args.thread.now c.leave-in-Amiss.result c.requires.halts c.in-Amiss.is
    refl (left_answers stopped_by.Amiss c.args.thread.now c.leave-in-Amiss.result Amiss c.leave-in-Amiss.ensures (inl refl))
