-- A thread that is replayed alone makes one event more.
use Rattle.std.proofs.Common.{◌≡◌, ℕ, ◌∙◌, ◌+◌, ◌-◌, ◌<◌, ◌++◌, ◌∷◌, List, [], length, get_or, Option, Some, refl, sym, ap, subst, arith}
use Rattle.std.proofs.lemmas.List.{length-map}
use Rattle.octet_model.specs.declared.command.Command.{Command}
use Rattle.octet_model.specs.declared.event.Event.{Event}
use Rattle.octet_model.specs.declared.log.Log.{Log}
use Rattle.octet_model.specs.declared.log.ThreadLog.{ThreadLog}
use Rattle.octet_model.specs.declared.script.Script.{Script}
use Rattle.octet_model.specs.declared.event.Event.TheVariants.{Read, Write, Update, Marked}
use Rattle.octet_model.specs.Journals.{access_count, mark_count}
use Rattle.octet_model.specs.Thread.{Configuration, starting_configuration}
use Rattle.octet_model.specs.Machine.{Next, heap_after}
use Rattle.octet_model.specs.Orders.{by_log, commands_of, starting_heap, thread_log_of}
use Rattle.octet_model.specs.Plays.{operation_of}
use Rattle.octet_replay.specs.declared.thread.ThreadReplay.{ThreadReplay}
use Rattle.octet_replay.specs.NextDemand.{NamesObject}
use Rattle.octet_replay.specs.Threads.{next_by_counts, next_event, Grown, HasRoomFor, WritesWithin}
use Rattle.octet_replay.proofs.lemmas.Growing.{by_counts, grows, has_room, writes_within}
use Rattle.octet_replay.proofs.lemmas.Reading.{log_read}
use Rattle.octet_replay.proofs.lemmas.Valid.{few_accesses, few_marks}
use Rattle.octet_parallel.specs.declared.alone.Alone.{Alone}
use Rattle.octet_parallel.specs.Alone.{IsAloneAfter}
use Rattle.octet_parallel.proofs.solo.Making.{heap_more, heap_long, makes_more}

-- how many accesses and marks of its log a thread has left
abbrev pub events_left : ThreadLog → ThreadReplay → ℕ
events_left log t = (log.accesses + length log.marks) - (t.accesses + t.marks)

-- an event is an access or a mark
one_event : (event : Event) → access_count (event ∷ []) + mark_count (event ∷ []) ≡ 1
one_event (Read object value) = refl
one_event (Write object value) = refl
one_event (Update object before after) = refl
one_event (Marked mark) = refl

-- the log that was read at the thread's place is its own
pub own_read : (log read : List ThreadLog) (thread : ℕ) (own : ThreadLog) → own ≡ get_or read thread own → read ≡ log → thread < length log
    → own ≡ thread_log_of log thread
own_read log read thread own is same within =
    log_read log thread own (is ∙ ap (λ (l : List ThreadLog). get_or l thread own) same) within

-- the event that was found next is so by the log that was read
pub found_next : (own log : ThreadLog) (t : ThreadReplay) (seen heap : List ℕ) (found : Option Event) (next : Next) → own ≡ log → seen ≡ heap
    → next ≡ next_by_counts own t → found ≡ next_event next seen → next_event (next_by_counts log t) heap ≡ found
found_next own log t seen heap found next same_log same_heap is_next is =
    (λ i. next_event (next_by_counts (sym same_log i) t) (sym same_heap i)) ∙ ap (λ (n : Next). next_event n seen) (sym is_next) ∙ sym is

-- its heap has a value for each object
pub heap_length : (script : Script) (log : List ThreadLog) (thread : ℕ) (journal : List Event) (alone : Alone)
    → IsAloneAfter script log thread journal alone → length alone.heap.items ≡ length script.objects
heap_length script log thread journal alone own =
    ap (λ (h : List ℕ). length h) own.heap ∙ heap_long journal (starting_heap script) ∙ length-map script.objects (λ object. object.start)

module _ (script : Script) (log : Log) (thread : ℕ) (journal : List Event) (alone : Alone)
    (own : IsAloneAfter script log.threads thread journal alone) where
  abbrev log_here : ThreadLog
  log_here = thread_log_of log.threads thread

  abbrev commands : List Command
  commands = commands_of script thread

  abbrev start : Configuration
  start = starting_configuration script.fuel

  abbrev objects : ℕ
  objects = length script.objects

  pub demands_within : (heap : List ℕ) → heap ≡ alone.heap.items → NamesObject (length heap) alone.replay.up_next
  demands_within heap is =
      let as_many = ap (λ (h : List ℕ). length h) is ∙ heap_length script log.threads thread journal alone own in
      subst (λ (n : ℕ). NamesObject n alone.replay.up_next) (sym as_many) own.replay.names

  pub next_is : by_log script log.threads thread journal ≡ next_by_counts log_here alone.replay
  next_is = by_counts commands start objects log_here journal alone.replay own.replay

  module _ (event : Event) (is : next_event (next_by_counts log_here alone.replay) alone.heap.items ≡ Some event) where
    pub room : HasRoomFor event alone.replay
    room = has_room commands start objects log_here journal alone.replay own.replay alone.heap.items event is
        (few_accesses log.threads log.valid thread) (few_marks log.threads log.valid thread)

    pub writes : WritesWithin (length alone.heap.items) event
    writes = subst (λ (n : ℕ). WritesWithin n event) (sym (heap_length script log.threads thread journal alone own))
        (writes_within commands start objects log_here journal alone.replay own.replay alone.heap.items event is)

    -- and it has one event fewer left
    pub fewer_left : (after : ThreadReplay) → Grown alone.replay event after
        → events_left log_here after < events_left log_here alone.replay
    fewer_left after grown =
        let then = grows commands start objects log_here journal alone.replay own.replay alone.heap.items event after is grown in
        omega (arith, one_event event, grown.accesses, grown.marks, then.few_accesses, then.few_marks)

    -- with the event made it is again a thread that is replayed alone
    pub more : (after : Alone) → after.script ≡ alone.script → after.number ≡ alone.number
        → Grown alone.replay event after.replay → after.heap.items ≡ heap_after (operation_of event) alone.heap.items
        → IsAloneAfter script log.threads thread (journal ++ event ∷ []) after
    more after same_script same_number grown heap = record {
      of = ap (λ s. s.value) same_script ∙ own.of;
      number = same_number ∙ own.number;
      makes = makes_more (by_log script log.threads thread) journal [] (starting_heap script) event own.makes
          ((λ i. next_event (next_is i) (sym own.heap i)) ∙ is);
      replay = grows commands start objects log_here journal alone.replay own.replay alone.heap.items event after.replay is grown;
      heap = heap ∙ ap (heap_after (operation_of event)) own.heap ∙ sym (heap_more journal event (starting_heap script));
    }
