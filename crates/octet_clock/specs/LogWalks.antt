-- How far threads have come that walk their logs alone.
use Rattle.std.specs.Prelude.{◌≡◌, ℕ, ◌+◌, ◌<◌, Bool, nat_lt, List, [], ◌∷◌, ◌++◌, length, Some, slice_get}
use Rattle.octet_model.specs.declared.event.Event.{Event}
use Rattle.octet_model.specs.declared.log.ThreadLog.{ThreadLog}
use Rattle.octet_model.specs.Machine.{journal_of, Next, Wants, Finished, MakeRead, Operation, event_made, after, IsFront}
use Rattle.octet_model.specs.Journals.{access_count, mark_count, gap_after, due_mark, mark_first}
use Rattle.octet_replay.specs.declared.need.Need.{Need}
use Rattle.octet_replay.specs.Replayed.{is_draw, AwaitsNext}
use Rattle.octet_replay.specs.Threads.{need_of}
use Rattle.octet_clock.specs.declared.log_walk.LogWalk.{LogWalk}
use Rattle.octet_clock.specs.declared.log_walk.Progress.{Progress}
use Rattle.octet_clock.specs.Following.{counted}
use Rattle.octet_clock.specs.Untied.{any_access, by_log_alone, opening_alone}

-- the counts of the thread are those of the journal
pub record HasProgress (journal : List Event) (p : Progress) : Type 0 where
  pub counts_marks : p.marks ≡ mark_count journal
  pub counts_accesses : p.accesses ≡ access_count journal
  pub counts_gap : p.gap ≡ gap_after 0 journal

-- what is next for a thread by its log alone, from its counts
abbrev pub next_by_progress : ThreadLog → Progress → Next
next_by_progress log p =
    mark_first (due_mark (slice_get log.marks p.marks) p.gap)
    (any_access (nat_lt p.accesses log.accesses) (nat_lt p.marks (length log.marks)))

-- an operation is next for the thread
abbrev pub WantsSome : ThreadLog → Progress → Type 0
WantsSome log p = (operation : Operation) × (next_by_progress log p ≡ Wants operation)

-- the thread made what was next, and `drew` tells whether that was a draw
pub record Advances (log : ThreadLog) (before after : Progress) (drew : Bool) : Type 0 where
  pub counts : (journal : List Event) (operation : Operation) (heap : List ℕ) → next_by_progress log before ≡ Wants operation → HasProgress journal before → HasProgress (journal ++ event_made operation heap ∷ []) after
  pub draws : (operation : Operation) (heap : List ℕ) → next_by_progress log before ≡ Wants operation → drew ≡ is_draw (event_made operation heap)

-- the thread has nothing left of its log
abbrev pub HasMadeAll : ThreadLog → Progress → Type 0
HasMadeAll log p = next_by_progress log p ≡ Finished

-- each thread has one need: it waits for the first event of its log
pub record AreFirstNeeds (log : List ThreadLog) (needs : List Need) : Type 0 where
  pub as_many : length needs ≡ length log
  pub each : (thread : ℕ) (need : Need) → slice_get needs thread ≡ Some need → need ≡ need_of (by_log_alone log thread [])

-- the progress after so many more accesses
abbrev pub with_accesses : Progress → ℕ → Progress
with_accesses p more = record { marks = p.marks; accesses = more + p.accesses; gap = more + p.gap }

-- the next `many` events of the thread are accesses
abbrev pub AreAccesses : ThreadLog → Progress → ℕ → Type 0
AreAccesses log p many = (made : ℕ) → made < many → next_by_progress log (with_accesses p made) ≡ Wants (MakeRead 0)

-- the threads have come as far as some front by the log alone leads.
-- The front has a step for each event that is counted
pub record WalksAt (log : List ThreadLog) (walk : LogWalk) : Type 0 where
  pub front : List ℕ
  pub is_front : IsFront (by_log_alone log) (opening_alone log) front
  pub steps : counted walk.waits ≡ length front
  pub awaits : AwaitsNext (by_log_alone log) (after (by_log_alone log) (opening_alone log) front) walk.waits
  pub as_many : length walk.threads.items ≡ length log
  pub each : (thread : ℕ) (p : Progress) → slice_get walk.threads.items thread ≡ Some p
      → HasProgress (journal_of (after (by_log_alone log) (opening_alone log) front).journals thread) p
