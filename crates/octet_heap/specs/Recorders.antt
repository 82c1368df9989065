-- What an access needs of its recorder, and what a recorder's steps leave.
use Rattle.std.specs.Prelude.{◌≡◌, ℕ, ◌<◌}
use Rattle.octet_rule.specs.Seats.{view, IsSeatOf, objects_of}
use Rattle.octet_rule.specs.declared.words.Words.{Words}
use Rattle.octet_heap.specs.declared.heap.Heap.{Heap}
use Rattle.octet_heap.specs.declared.pending_access.PendingAccess.{PendingAccess}
use Rattle.octet_heap.specs.declared.poll.Poll.{Poll}
use Rattle.octet_heap.specs.declared.recorder.Recorder.{Recorder}
use Rattle.octet_heap.specs.Logs.{CanLogAccess, Takes}
use Rattle.octet_heap.specs.Waiting.{accesses_after}

-- the recorder has room for one more access
abbrev pub CanRecord : Recorder → Type 0
CanRecord recorder = CanLogAccess recorder.log (view recorder.seat).journal

-- the recorder has one of the heap's seats, the object of this access is there, and one more access has room
pub record CanAccess (heap : Heap) (access : PendingAccess) (recorder : Recorder) : Type 0 where
  pub own : IsSeatOf heap.words recorder.seat
  pub object : access.object < objects_of heap.words
  pub more : CanRecord recorder

-- the recorder has taken room for what it has recorded
abbrev pub TakesRoom : Recorder → Recorder → Type 0
TakesRoom before after = Takes before.log (view before.seat).journal after.log (view after.seat).journal

-- the recorder keeps its seat and its first mark, has then made so many accesses, and has taken the room for them
pub record KeepsSeat (words : Words) (accesses : ℕ) (before after : Recorder) : Type 0 where
  pub own : IsSeatOf words after.seat
  pub same_base : after.base ≡ before.base
  pub counts : after.log.accesses ≡ accesses
  pub takes : TakesRoom before after

-- the recorder keeps its seat and its first mark after this answer, which may count one access
abbrev pub KeepsSeatAfter : Words → Poll → Recorder → Recorder → Type 0
KeepsSeatAfter words answer before after = KeepsSeat words (accesses_after answer before.log.accesses) before after
