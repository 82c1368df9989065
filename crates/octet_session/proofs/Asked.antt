-- What a recorder notes, in the words of a session.
use Rattle.std.proofs.Common.{◌≡◌, ◌∙◌, ℕ, ◌+◌, ◌-◌, ◌≤◌, Bool, true, false, List, [], ◌++◌, length, map, Some, Result, Ok, Err, IfErr, OnOk, refl, ap, lit≤, arith, length-append, append-nil}
use Rattle.std.specs.declared.convert.Infallible.{Infallible}
use Rattle.octet_model.specs.declared.command.Command.{Command}
use Rattle.octet_model.specs.declared.event.Event.{Event}
use Rattle.octet_model.specs.declared.event.Event.TheVariants as event
use Rattle.octet_state.specs.declared.act.Mode.TheVariants as mode
use Rattle.octet_rule.specs.declared.change.Change.{Change}
use Rattle.octet_rule.specs.Changes.{changed_by}
use Rattle.octet_heap.specs.declared.poll.Poll.{Poll}
use Rattle.octet_heap.specs.declared.poll.Poll.TheVariants.{Ready, Pending}
use Rattle.octet_heap.specs.declared.updated.Updated.{Updated}
use Rattle.octet_heap.specs.declared.updated.Updated.TheVariants as updated
use Rattle.octet_heap.specs.Calls.{access_to}
use Rattle.octet_heap.specs.Updates.{amount_made, answer_after}
use Rattle.octet_heap.specs.Workers.{seat_of, pending_after}
use Rattle.octet_recorder.specs.declared.access.Access.{Access}
use Rattle.octet_recorder.specs.declared.access.Access.TheVariants.{Read, Write, Update}
use Rattle.octet_recorder.specs.declared.recorder.Recorder.{Recorder}
use Rattle.octet_recorder.specs.declared.track.Track.{Track}
use Rattle.octet_recorder.specs.declared.track.TheConstants.{LINES_OF_ACCESS}
use Rattle.octet_recorder.specs.Polls.{NotesUpdate, NotesPoll}
use Rattle.octet_recorder.specs.Tracks.{lines_in, lines_noted, number_of, lines_of, Notes}
use Rattle.octet_session.specs.declared.not_made.NotMade.{NotMade}
use Rattle.octet_session.specs.declared.not_made.NotMade.TheVariants.{Waits, NoRoom, Left}
use Rattle.octet_session.specs.Asking.{lines_of_region, Takes, Asks}
use Rattle.octet_session.specs.Recording.{poll_answer, update_answer, track_standing, IsPending, IsMade, AnswersFirst, AnswersAndMakes, IsTrackReason}

-- a poll that is pending is the reason of an access that waits
pub poll_is_reason : (wanted : Access) (before after : Track) (answer : Poll) → NotesPoll wanted before answer after → IfErr (poll_answer answer) (IsPending wanted before after)
poll_is_reason wanted before after (Ready value) notes = tt
poll_is_reason wanted before after (Pending why) notes = (why, notes)

-- and an update that is pending
pub update_is_reason : (object : ℕ) (change : Change) (before after : Track) (answer : Updated) → NotesUpdate object change before answer after
    → IfErr (update_answer answer) (IsPending (Update object change) before after)
update_is_reason object change before after (updated.Made found) notes = tt
update_is_reason object change before after (updated.Pending why) notes = (why, (updated.Pending why, refl, notes))

-- a poll that is ready has made the access
pub poll_is_made : (wanted : Access) (before after : Track) (answer : Poll) → NotesPoll wanted before answer after → OnOk (poll_answer answer) (IsMade wanted before after)
poll_is_made wanted before after (Ready value) notes = (value, notes)
poll_is_made wanted before after (Pending why) notes = tt

-- and an update that is made
pub update_is_made : (object : ℕ) (change : Change) (before after : Track) (answer : Updated) → NotesUpdate object change before answer after
    → OnOk (update_answer answer) (IsMade (Update object change) before after)
update_is_made object change before after (updated.Made found) notes = (changed_by change found, (updated.Made found, refl, notes))
update_is_made object change before after (updated.Pending why) notes = tt

-- a region takes one line at most
few_of_region : (region : Bool) → lines_of_region region ≤ 1
few_of_region true = lit≤ tt
few_of_region false = lit≤ tt

read_length : (region : Bool) (object : ℕ) → length (lines_of region (access_to object mode.Read 0)) ≡ lines_of_region region + 1
read_length true object = refl
read_length false object = refl

write_length : (region : Bool) (object value : ℕ) → length (lines_of region (access_to object mode.Write value)) ≡ lines_of_region region + 2
write_length true object value = refl
write_length false object value = refl

update_length : (region : Bool) (object amount : ℕ) → length (lines_of region (access_to object mode.Update amount)) ≡ lines_of_region region + 2
update_length true object amount = refl
update_length false object amount = refl

module _ (recorder : Recorder) (before after : Track) where
  left_made : (lines : List Command) (taken : ℕ) → after.commands.items ≡ before.commands.items ++ lines → length lines ≡ taken → lines_noted before + LINES_OF_ACCESS ≤ lines_in recorder → taken ≤ LINES_OF_ACCESS
      → Takes (Some (lines_in recorder - lines_noted before)) taken (Some (lines_in recorder - lines_noted after))
  left_made lines taken grown is more few = ap (λ (n : ℕ). Some n) (omega (arith, ap (λ (l : List Command). length l) grown, length-append before.commands.items lines, is, more, few))

  left_same : after.commands.items ≡ before.commands.items ++ [] → Takes (Some (lines_in recorder - lines_noted before)) 0 (Some (lines_in recorder - lines_noted after))
  left_same grown = ap (λ (n : ℕ). Some n) (omega (arith, ap (λ (l : List Command). length l) (grown ∙ append-nil before.commands.items)))

  module _ (more : lines_noted before + LINES_OF_ACCESS ≤ lines_in recorder) (number : number_of after ≡ number_of before) where
    -- a read, as far as a poll has come
    pub asked_read : (object : ℕ) (answer : Poll) → after.begun ≡ pending_after answer (Some (Read object)) → Notes (access_to object mode.Read 0) before answer after
        → Asks (Read object) (track_standing recorder before) (poll_answer answer) (track_standing recorder after)
    asked_read object (Ready value) begun notes = let a = notes.polls.journal in record {
      number = number;
      journal = record { marks = a.marks; found = a.told; grown = a.grown; told = a.value };
      begun = begun;
      region = notes.region;
      left = left_made (lines_of before.region (access_to object mode.Read 0)) (lines_of_region before.region + 1) notes.lines (read_length before.region object) more (omega (arith, few_of_region before.region));
      cause = omega (arith, more);
    }
    asked_read object (Pending why) begun notes = let a = notes.polls.journal in record {
      number = number;
      journal = record { marks = a.marks; grown = a.grown ∙ ap (λ (l : List Event). (seat_of before.worker).journal ++ l) (append-nil (map (λ mark. event.Marked mark) a.marks)) };
      begun = begun;
      region = notes.region;
      left = left_same notes.lines;
      cause = omega (arith, more);
    }

    -- a write
    pub asked_write : (object value : ℕ) (answer : Poll) → after.begun ≡ pending_after answer (Some (Write object value)) → Notes (access_to object mode.Write value) before answer after
        → Asks (Write object value) (track_standing recorder before) (poll_answer answer) (track_standing recorder after)
    asked_write object value (Ready written) begun notes = let a = notes.polls.journal in record {
      number = number;
      journal = record { marks = a.marks; found = a.told; grown = a.grown; told = a.value };
      begun = begun;
      region = notes.region;
      left = left_made (lines_of before.region (access_to object mode.Write value)) (lines_of_region before.region + 2) notes.lines (write_length before.region object value) more (omega (arith, few_of_region before.region));
      cause = omega (arith, more);
    }
    asked_write object value (Pending why) begun notes = let a = notes.polls.journal in record {
      number = number;
      journal = record { marks = a.marks; grown = a.grown ∙ ap (λ (l : List Event). (seat_of before.worker).journal ++ l) (append-nil (map (λ mark. event.Marked mark) a.marks)) };
      begun = begun;
      region = notes.region;
      left = left_same notes.lines;
      cause = omega (arith, more);
    }

    -- an update, of which the value before is told
    pub asked_update : (object : ℕ) (change : Change) (answer : Updated) → after.begun ≡ pending_after (answer_after change answer) (Some (Update object change)) → NotesUpdate object change before answer after
        → Asks (Update object change) (track_standing recorder before) (update_answer answer) (track_standing recorder after)
    asked_update object change (updated.Made found) begun notes = let a = notes.journal in record {
      number = number;
      journal = record { marks = a.marks; found = found; grown = a.grown; told = refl };
      begun = begun;
      region = notes.notes.region;
      left =
          left_made (lines_of before.region (access_to object mode.Update (amount_made change (updated.Made found)))) (lines_of_region before.region + 2) notes.notes.lines
          (update_length before.region object (amount_made change (updated.Made found))) more (omega (arith, few_of_region before.region));
      cause = omega (arith, more);
    }
    asked_update object change (updated.Pending why) begun notes = let a = notes.journal in record {
      number = number;
      journal = record { marks = a.marks; grown = a.grown ∙ ap (λ (l : List Event). (seat_of before.worker).journal ++ l) (append-nil (map (λ mark. event.Marked mark) a.marks)) };
      begun = begun;
      region = notes.notes.region;
      left = left_same notes.notes.lines;
      cause = omega (arith, more);
    }

-- a poll that was pending is the reason, once those are answered that had asked
pub first_is_reason : (wanted : Access) (before between after : Track) (result : Result ℕ (NotMade Infallible)) → AnswersFirst before.begun before between → IfErr result (IsPending wanted between after)
    → IfErr result (IsTrackReason (Some wanted) before after)
first_is_reason wanted before between after (Ok value) answers pending = tt
first_is_reason wanted before between after (Err Waits) answers pending = (between, answers, pending)
first_is_reason wanted before between after (Err NoRoom) answers pending = tt
first_is_reason wanted before between after (Err (Left halt)) answers pending = pending

-- likewise a poll that was ready has made the access then
pub first_is_made : (wanted : Access) (before between after : Track) (result : Result ℕ (NotMade Infallible)) → AnswersFirst before.begun before between → OnOk result (IsMade wanted between after)
    → OnOk result (AnswersAndMakes wanted before after)
first_is_made wanted before between after (Ok value) answers made = (between, answers, made)
first_is_made wanted before between after (Err why) answers made = tt
