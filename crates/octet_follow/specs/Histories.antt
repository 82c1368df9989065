-- A run of any length is a recording of its threads: no script bounds it.
use Rattle.std.specs.Prelude.{◌≡◌, ℕ, ◌<◌, List, length}
use Rattle.octet_model.specs.Journals.{log_of}
use Rattle.octet_model.specs.Machine.{Journals, journal_of}
use Rattle.octet_model.specs.Plays.{IsOneHistory}
use Rattle.octet_follow.specs.declared.follower.Follower.{Follower}
use Rattle.octet_follow.specs.Calls.{journals_in}
use Rattle.octet_follow.specs.Recordings.{Threads, IsRecording, IsDemandedToEnd}
use Rattle.octet_follow.specs.Repeats.{AllHaveFollowed}

-- each thread demands what its journal has, and then its end
abbrev pub AllDemanded : Threads → Journals → Type 0
AllDemanded threads journals = (t : ℕ) → t < length journals → IsDemandedToEnd (threads t) (journal_of journals t)

-- journals of one history, which is what every state of a recorded run keeps, are with their log a recording
-- of all threads that demand what they have
abbrev pub HistoryIsRecording : Type 0
HistoryIsRecording = (threads : Threads) (starts : List ℕ) (journals : Journals) (heap : List ℕ) (draws : ℕ)
    → IsOneHistory starts journals heap draws → AllDemanded threads journals
    → IsRecording threads starts (log_of journals) (record { heap = heap; journals = journals; draws = draws })

-- where all followers have followed the log of journals of one history, by threads that demanded what these have,
-- the journals are the same, and the cells are the history's heap
abbrev pub RepeatsHistory : List ℕ → List Follower → List ℕ → Type 0
RepeatsHistory starts followers cells = (threads : Threads) (journals : Journals) (heap : List ℕ) (draws : ℕ)
    → IsOneHistory starts journals heap draws → AllDemanded threads journals → AllHaveFollowed threads (log_of journals) followers
    → (journals_in followers ≡ journals) × (cells ≡ heap)
