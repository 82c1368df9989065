-- What is handed on is what was made.
use Rattle.std.specs.Prelude.{◌≡◌, List, [], ◌++◌}
use Rattle.rtrb.specs.Ring.{received}
use Rattle.octet_model.specs.declared.event.Event.{Event}
use Rattle.octet_model.specs.Journals.{gapped_marks}
use Rattle.octet_follow.specs.declared.halt.Halt.TheVariants as stopped_by
use Rattle.octet_follow.specs.Blocks.{IsTold}
use Rattle.octet_follow.specs.Calls.{journal_in, IsThrough}
use Rattle.octet_follow.specs.Recordings.{Begins}
use Rattle.octet_stream.specs.declared.long_follower.LongFollower.{LongFollower}
use Rattle.octet_stream.specs.declared.long_rerun.Divergence.{Divergence}
use Rattle.octet_stream.specs.declared.long_rerun.LongRerun.{LongRerun}
use Rattle.octet_stream.specs.Followers.{IsLongFollowerOf, IsDivergence}
use Rattle.octet_stream.specs.Items.{joined, items_of, marks_in}

-- the marks among the items of blocks are those of the journal that the blocks make, with its gaps
abbrev pub MarksJoin : Type 0
MarksJoin = (blocks : List (List Event)) → marks_in 0 (items_of [] blocks) ≡ gapped_marks 0 (joined blocks)

-- a thread that has received the items of these blocks, and no mark after them, was told the journal that they make
abbrev pub FedIsTold : Type 0
FedIsTold = (rerun : LongRerun) (thread : LongFollower) (blocks : List (List Event)) → IsLongFollowerOf rerun thread
    → received thread.feed ≡ items_of [] blocks → thread.marks.items ≡ [] → IsTold (joined blocks) thread.follower

-- a thread that has received the blocks of the beginning of a recorded journal, has made all that they tell, and diverges by its
-- digest, has not made the beginning of that journal
abbrev pub DivergenceIsReal : Type 0
DivergenceIsReal = (rerun : LongRerun) (thread : LongFollower) (whole later : List Event) (blocks : List (List Event)) → IsLongFollowerOf rerun thread
    → whole ≡ joined blocks ++ later → received thread.feed ≡ items_of [] blocks → thread.marks.items ≡ [] → IsThrough thread.follower
    → (divergence : Divergence) → IsDivergence stopped_by.NeedsMarks thread divergence → Begins (journal_in thread.follower) whole → ⊥
