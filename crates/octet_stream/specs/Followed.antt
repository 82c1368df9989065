-- What followers of a long run's log come to.
use Rattle.std.specs.Prelude.{◌≡◌, ℕ, List}
use Rattle.octet_model.specs.Journals.{log_of}
use Rattle.octet_model.specs.Machine.{Journals, journal_of}
use Rattle.octet_follow.specs.declared.follower.Follower.{Follower}
use Rattle.octet_follow.specs.Calls.{journals_in}
use Rattle.octet_follow.specs.Histories.{AllDemanded, RepeatsHistory}
use Rattle.octet_follow.specs.Recordings.{Threads, Begins}
use Rattle.octet_follow.specs.Repeats.{AllHaveBegun, AllHaveFollowed, KeepsToRecording}
use Rattle.octet_stream.specs.Recordings.{IsRecorded}

-- a run is recorded, and its threads demand what its journals have. Followers of its log that have come to their ends,
-- and whose course keeps what it promises, have these journals, and leave these last values
abbrev pub FollowersRepeat : Type 0
FollowersRepeat = (starts : List ℕ) (journals : Journals) (last : List ℕ) → IsRecorded starts journals last
    → (threads : Threads) → AllDemanded threads journals
    → (followers : List Follower) (heap : List ℕ) → RepeatsHistory starts followers heap → AllHaveFollowed threads (log_of journals) followers
    → (journals_in followers ≡ journals) × (heap ≡ last)

-- followers that have only begun have the first events of these journals
abbrev pub FollowersBegin : Type 0
FollowersBegin = (starts : List ℕ) (journals : Journals) (last : List ℕ) → IsRecorded starts journals last
    → (threads : Threads) → AllDemanded threads journals
    → (followers : List Follower) → KeepsToRecording starts followers → AllHaveBegun threads (log_of journals) followers
    → (thread : ℕ) → Begins (journal_of (journals_in followers) thread) (journal_of journals thread)
