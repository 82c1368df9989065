-- Why a thread that follows has not made what it was asked for.
use Rattle.std.proofs.Common.{◌≡◌, Option, inl, sym, subst}
use Rattle.octet_follow.specs.declared.follower.Follower.{Follower}
use Rattle.octet_follow.specs.declared.halt.Halt as stop
use Rattle.octet_follow.specs.declared.halt.Halt.TheVariants as stopped_by
use Rattle.octet_follow.specs.Calls.{journal_in}
use Rattle.octet_recorder.specs.declared.access.Access.{Access}
use Rattle.octet_session.specs.declared.not_made.NotMade.{NotMade}
use Rattle.octet_session.specs.declared.not_made.NotMade.TheVariants.{Waits, NoRoom, Left}
use Rattle.octet_stream.specs.declared.long_follower.LongFollower.{LongFollower}
use Rattle.octet_stream.specs.declared.long_rerun.Divergence.{Divergence}
use Rattle.octet_stream.specs.declared.long_rerun.Halt.{Halt}
use Rattle.octet_stream.specs.declared.long_rerun.Halt.TheVariants.{Diverges, Stopped, RecordingEnds, Amiss}
use Rattle.octet_stream.specs.declared.long_rerun.LongRerun.{LongRerun}
use Rattle.octet_stream.specs.Followers.{HaltsAsked, HasLeft, WaitsForOthers, Answers, AnswersWait, IsDivergence, IsFollowerReason}

-- what a thread is told that waits for others is an answer of that halt
pub wait_answers : (halt : stop.Halt) (thread : LongFollower) (why : NotMade Halt) → WaitsForOthers halt → AnswersWait why → Answers halt thread why
wait_answers halt thread Waits waits told = inl waits
wait_answers halt thread NoRoom waits told = told
wait_answers halt thread (Left (Diverges divergence)) waits told = absurd told
wait_answers halt thread (Left (Stopped divergence)) waits told = waits
wait_answers halt thread (Left RecordingEnds) waits told = inl waits
wait_answers halt thread (Left Amiss) waits told = absurd told

-- a divergence at an end
pub end_answers : (halt : stop.Halt) (thread : LongFollower) (why : NotMade Halt) (divergence : Divergence) → why ≡ Left (Diverges divergence) → IsDivergence stopped_by.OverEnd thread divergence → HasLeft halt thread → Answers halt thread why
end_answers halt thread why divergence is told left =
    subst (λ (w : NotMade Halt). Answers halt thread w) (sym is) (record { number = told.number; made = told.made; from = told.from; left = left })

-- the follower has halted, and this is the answer
pub because : (rerun : LongRerun) (wanted : Option Access) (hold halt : stop.Halt) (before : Follower) (after : LongFollower) (why : NotMade Halt)
    → HaltsAsked rerun wanted hold before → hold ≡ halt → journal_in after.follower ≡ journal_in before → Answers halt after why → IsFollowerReason rerun wanted after why
because rerun wanted hold halt before after why halts is journal gives = record {
  halt = halt;
  halted = record { follower = before; journal = sym journal; halts = subst (λ (h : stop.Halt). HaltsAsked rerun wanted h before) is halts };
  gives = gives;
}

-- the thread goes on no more, for this reason
pub left_answers : (halt : stop.Halt) (thread : LongFollower) (why : NotMade Halt) (reason : Halt) → why ≡ Left reason → Answers halt thread (Left reason) → Answers halt thread why
left_answers halt thread why reason is gives = subst (λ (w : NotMade Halt). Answers halt thread w) (sym is) gives

-- what a thread asks for next is nothing to the reason
module _ (thread : LongFollower) (begun : Option Access) where
  abbrev Begun : LongFollower
  Begun = record thread { begun = begun }

  left_same : (halt : stop.Halt) → HasLeft halt thread → HasLeft halt Begun
  left_same (stopped_by.Waits whom needs found) left = left
  left_same (stopped_by.WaitsForDraws needs found) left = left
  left_same stopped_by.NeedsMarks left = left
  left_same stopped_by.RecordingEnds left = left
  left_same stopped_by.OverEnd left = left
  left_same (stopped_by.EndsEarly accesses) left = left
  left_same stopped_by.NoObject left = left
  left_same stopped_by.Amiss left = left

  answers_same : (halt : stop.Halt) (why : NotMade Halt) → Answers halt thread why → Answers halt Begun why
  answers_same halt Waits gives = gives
  answers_same halt NoRoom gives = gives
  answers_same halt (Left (Diverges divergence)) gives = record { number = gives.number; made = gives.made; from = gives.from; left = left_same halt gives.left }
  answers_same halt (Left (Stopped divergence)) gives = gives
  answers_same halt (Left RecordingEnds) gives = gives
  answers_same halt (Left Amiss) gives = gives

  pub reason_same : (rerun : LongRerun) (wanted : Option Access) (why : NotMade Halt) → IsFollowerReason rerun wanted thread why → IsFollowerReason rerun wanted Begun why
  reason_same rerun wanted why reason = record {
    halt = reason.halt;
    halted = record { follower = reason.halted.follower; journal = reason.halted.journal; halts = reason.halted.halts };
    gives = answers_same reason.halt why reason.gives;
  }
