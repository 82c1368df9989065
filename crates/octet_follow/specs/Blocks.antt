-- Blocks: the marks that a follower is given at a time, and the accesses after them.
use Rattle.std.specs.Prelude.{◌≡◌, ◌≢◌, ℕ, ◌+◌, ◌<◌, ◌==◌, if◌then◌else◌, List, [], ◌∷◌, ◌++◌, take, drop, length}
use Rattle.octet_digest.specs.Digests.{digest_of}
use Rattle.octet_model.specs.declared.event.Event.{Event}
use Rattle.octet_model.specs.declared.log.Gapped.{Gapped}
use Rattle.octet_model.specs.Journals.{gap_after, gapped_marks, log_of}
use Rattle.octet_model.specs.Machine.{Journals, journal_of}
use Rattle.octet_follow.specs.declared.follower.Follower.{Follower}
use Rattle.octet_follow.specs.Calls.{journal_in, given, given_after, IsThrough, IsComplete}
use Rattle.octet_follow.specs.Recordings.{Threads, Begins, IsDemandedBy, IsDemandedToEnd}
use Rattle.octet_follow.specs.Repeats.{HasBegun, HasFollowed}

-- these marks, with more accesses before the first one
abbrev pub lengthened : ℕ → List Gapped → List Gapped
lengthened more [] = []
lengthened more (mark ∷ marks) = record { gap = more + mark.gap; mark = mark.mark } ∷ marks

-- the accesses since the last mark, after a block with these marks and so many accesses after them
abbrev pub carried : ℕ → List Gapped → ℕ → ℕ
carried more [] gap = more + gap
carried more (mark ∷ marks) gap = gap

-- the accesses after so many first marks of a block that has so many: those after its last one, once all are there
abbrev pub after_taken : ℕ → ℕ → ℕ → ℕ
after_taken taken marks after = if taken == marks then after else 0

-- the follower takes so many first marks of a block. With the last one it is told of the accesses after it
pub record TakesBlock (taken : ℕ) (marks : List Gapped) (after : ℕ) (follower next : Follower) : Type 0 where
  pub told_marks : given next ≡ given follower ++ lengthened (given_after follower) (take taken marks)
  pub told_after : given_after next ≡ carried (given_after follower) (take taken marks) (after_taken taken (length marks) after)

-- the follower was told the marks and the accesses of this journal
pub record IsTold (journal : List Event) (follower : Follower) : Type 0 where
  pub marks : given follower ≡ gapped_marks 0 journal
  pub after : given_after follower ≡ gap_after 0 journal

-- a follower that was told the beginning of a journal, and takes the block of what comes next, is told both together
abbrev pub BlocksTell : Type 0
BlocksTell = (follower next : Follower) (earlier piece : List Event) → IsTold earlier follower
    → TakesBlock (length (gapped_marks 0 piece)) (gapped_marks 0 piece) (gap_after 0 piece) follower next → IsTold (earlier ++ piece) next

-- a block that is taken in two parts is taken as a whole
abbrev pub PartsTell : Type 0
PartsTell = (first second after : ℕ) (marks : List Gapped) (follower between next : Follower) → first < length marks
    → TakesBlock first marks after follower between → TakesBlock second (drop first marks) after between next → TakesBlock (first + second) marks after follower next

-- a follower that was told the beginning of its thread's recorded journal, and is asked for what the thread demands,
-- has begun the recording
abbrev pub ToldHasBegun : Type 0
ToldHasBegun = (threads : Threads) (journals : Journals) (t : ℕ) (follower : Follower) (earlier later : List Event) → t < length journals
    → journal_of journals t ≡ earlier ++ later → IsTold earlier follower → IsDemandedBy (threads t) (journal_in follower) → HasBegun threads (log_of journals) t follower

-- one that was told all of it, and has come to its end, has followed the recording
abbrev pub ToldHasFollowed : Type 0
ToldHasFollowed = (threads : Threads) (journals : Journals) (t : ℕ) (follower : Follower) → t < length journals
    → IsTold (journal_of journals t) follower → IsComplete follower → IsDemandedToEnd (threads t) (journal_in follower) → HasFollowed threads (log_of journals) t follower

-- a follower that has made all that it was told of, the beginning of a recorded journal, and repeats that journal so far,
-- has the digest of this beginning
abbrev pub DigestsAgree : Type 0
DigestsAgree = (follower : Follower) (whole earlier later : List Event) → whole ≡ earlier ++ later → IsTold earlier follower → IsThrough follower
    → Begins (journal_in follower) whole → digest_of (journal_in follower) ≡ digest_of earlier

-- so where the digests differ, it has left the recording
abbrev pub DivergenceIsReal : Type 0
DivergenceIsReal = (follower : Follower) (whole earlier later : List Event) → whole ≡ earlier ++ later → IsTold earlier follower → IsThrough follower
    → digest_of (journal_in follower) ≢ digest_of earlier → Begins (journal_in follower) whole → ⊥
