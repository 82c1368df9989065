-- What a poll adds to a journal, its lines add to the program.
use Rattle.std.proofs.Common.{◌≡◌, ◌∙◌, ℕ, ◌+◌, ◌^◌, ◌<◌, ◌≤◌, Bool, true, false, List, [], ◌∷◌, ◌++◌, length, map, Option, Some, None, inl, inr, ⊎_elim, refl, sym, ap, subst, lit≤, lit<, arith, length-append}
use Rattle.std.specs.Vec.{vec_capacity}
use Rattle.octet_model.specs.declared.command.Command.{Command}
use Rattle.octet_model.specs.declared.event.Mark.{Mark}
use Rattle.octet_model.specs.declared.event.Event.{Event}
use Rattle.octet_model.specs.declared.event.Event.TheVariants as event
use Rattle.octet_state.specs.declared.act.Mode.{Mode}
use Rattle.octet_state.specs.declared.act.Mode.TheVariants.{Read, Write, Update}
use Rattle.octet_rule.specs.Views.{SeatView}
use Rattle.octet_heap.specs.declared.pending_access.PendingAccess.{PendingAccess}
use Rattle.octet_heap.specs.declared.poll.Poll.{Poll}
use Rattle.octet_heap.specs.declared.poll.Poll.TheVariants.{Ready, Pending}
use Rattle.octet_heap.specs.Calls.{access_to}
use Rattle.octet_heap.specs.declared.updated.Updated.{Updated}
use Rattle.octet_heap.specs.Growth.{access_event, access_made, AddsAccess}
use Rattle.octet_recorder.specs.Programs.{region_lines, IsProgramOf}
use Rattle.octet_heap.specs.Standing.{begun_of, IsWithin}
use Rattle.octet_heap.specs.declared.pending_update.PendingUpdate.{PendingUpdate}
use Rattle.octet_heap.specs.Workers.{seat_of, pending_after, IsWorkerOf}
use Rattle.octet_heap.specs.Workers as workers
use Rattle.octet_heap.specs.Updates.{amount_made, answer_after, update_to}
use Rattle.octet_heap.specs.Updates as updates
use Rattle.octet_rule.specs.declared.change.Change.{Change}
use Rattle.octet_rule.specs.Seats.{objects_of}
use Rattle.octet_recorder.specs.declared.access.Access.{Access}
use Rattle.octet_recorder.specs.declared.access.Access.TheVariants as want
use Rattle.octet_recorder.specs.declared.recorder.Recorder.{Recorder}
use Rattle.octet_recorder.specs.declared.track.Track.{Track}
use Rattle.octet_recorder.specs.declared.track.TheConstants.{LINES_OF_ACCESS}
use Rattle.octet_recorder.specs.Tracks.{access_lines, lines_made, objects_in, lines_in, lines_noted, lines_begun, pending_of, changing_of, HasWord, IsTrackOf, IsIdle, MayUpdate, Notes}
use Rattle.octet_recorder.proofs.lemmas.Programs.{programs_join}

past_marks : (objects : ℕ) (program : List Command) (marks : List Mark) (later : List Event) → IsProgramOf objects program later → IsProgramOf objects program (map (λ mark. event.Marked mark) marks ++ later)
past_marks objects program [] later p = p
past_marks objects program (mark ∷ marks) later p = past_marks objects program marks later p

of_event : (objects : ℕ) (region : Bool) (mode : Mode) (object value told : ℕ) → object < objects → value < 2 ^ 64 → IsProgramOf objects (region_lines region ++ access_lines mode object value) (access_event mode object value told ∷ [])
of_event objects region Read object value told there word = ([], (there, lit< tt), record { region = region; is = refl }, refl)
of_event objects region Write object value told there word = ([], (there, word), record { region = region; is = refl }, refl)
of_event objects region Update object value told there word = ([], value, (there, word), refl, record { region = region; is = refl }, refl)

of_access : (objects : ℕ) (region : Bool) (access : PendingAccess) (told : ℕ) (answer : Poll) → access.object < objects → access.value < 2 ^ 64 → IsProgramOf objects (lines_made region access answer) (access_made access told answer)
of_access objects region access told (Ready value) there word = of_event objects region access.mode access.object access.value told there word
of_access objects region access told (Pending why) there word = refl

pub noted : (objects : ℕ) (program : List Command) (region : Bool) (access : PendingAccess) (v : SeatView) (answer : Poll) (w : SeatView)
    → IsProgramOf objects program v.journal → AddsAccess access v answer w → access.object < objects → access.value < 2 ^ 64
    → IsProgramOf objects (program ++ lines_made region access answer) w.journal
noted objects program region access v answer w p adds there word =
    subst (λ (j : List Event). IsProgramOf objects (program ++ lines_made region access answer) j) (sym adds.grown)
    (programs_join objects program (lines_made region access answer) v.journal (map (λ mark. event.Marked mark) adds.marks ++ access_made access adds.told answer) p
    (past_marks objects (lines_made region access answer) adds.marks (access_made access adds.told answer) (of_access objects region access adds.told answer there word)))

-- an access takes few lines
few_lines : (region : Bool) (mode : Mode) (object value : ℕ) → length (region_lines region ++ access_lines mode object value) ≤ LINES_OF_ACCESS
few_lines false Read object value = lit≤ tt
few_lines false Write object value = lit≤ tt
few_lines false Update object value = lit≤ tt
few_lines true Read object value = lit≤ tt
few_lines true Write object value = lit≤ tt
few_lines true Update object value = lit≤ tt

few_begun : (begun : Option Access) → lines_begun begun ≤ LINES_OF_ACCESS
few_begun None = lit≤ tt
few_begun (Some access) = lit≤ tt

few_made : (region : Bool) (access : PendingAccess) (answer : Poll) (begun : Option Access) → length (lines_made region access answer) + lines_begun (pending_after answer begun) ≤ LINES_OF_ACCESS
few_made region access (Ready value) begun = let few = few_lines region access.mode access.object access.value in omega arith
few_made region access (Pending why) begun = let few = few_begun begun in omega arith

word_after : (answer : Poll) (begun : Option Access) → HasWord begun → HasWord (pending_after answer begun)
word_after (Ready value) begun word = tt
word_after (Pending why) begun word = word

-- what a track says that it has begun, and what its worker has begun, stay alike
pending_alike : (answer : Poll) (begun : Option Access) → pending_after answer (pending_of begun) ≡ pending_of (pending_after answer begun)
pending_alike (Ready value) begun = refl
pending_alike (Pending why) begun = refl

changing_alike : (answer : Poll) (begun : Option Access) → pending_after answer (changing_of begun) ≡ changing_of (pending_after answer begun)
changing_alike (Ready value) begun = refl
changing_alike (Pending why) begun = refl

none_after : {A : Type 0} (answer : Poll) (o : Option A) → o ≡ None → o ≡ pending_after answer o
none_after (Ready value) o is = is
none_after (Pending why) o is = refl

-- an idle track has an idle worker
pub idle_worker : (recorder : Recorder) (track : Track) → IsTrackOf recorder track → IsIdle track → workers.IsIdle track.worker
idle_worker recorder track own idle = (idle.0, own.pending ∙ ap pending_of idle.1, own.changing ∙ ap changing_of idle.1)

-- a track that notes its access, of which this was or is begun, stays the recorder's
pub still_own : (recorder : Recorder) (access : PendingAccess) (begun : Option Access) (before : Track) (answer : Poll) (after : Track)
    → IsTrackOf recorder before → lines_noted before + LINES_OF_ACCESS ≤ lines_in recorder → access.object < objects_in recorder → access.value < 2 ^ 64 → HasWord begun
    → IsWorkerOf recorder.heap after.worker → after.worker.pending ≡ pending_after answer (pending_of begun) → after.worker.changing ≡ pending_after answer (changing_of begun)
    → after.begun ≡ pending_after answer begun → Notes access before answer after → vec_capacity after.commands ≡ vec_capacity before.commands → IsTrackOf recorder after
still_own recorder access begun before answer after own more there small word kept pending changing says notes room = record {
  own = kept;
  pending = pending ∙ (pending_alike answer begun ∙ sym (ap pending_of says));
  changing = changing ∙ (changing_alike answer begun ∙ sym (ap changing_of says));
  program = subst (λ (l : List Command). IsProgramOf (objects_in recorder) l (seat_of after.worker).journal) (sym notes.lines)
      (noted (objects_in recorder) before.commands.items before.region access (seat_of before.worker) answer (seat_of after.worker) own.program notes.polls.journal there small);
  within =
      let lines = lines_made before.region access answer in
      omega (
        arith,
        few_made before.region access answer begun,
        ap (λ (l : List Command). length l) notes.lines,
        length-append before.commands.items lines,
        ap lines_begun says,
      );
  room = let r = own.room in omega arith;
  word = subst HasWord (sym says) (word_after answer begun word);
}

-- an access that is begun is of an object that is there, its value has 64 bits, and lines are left for it
abbrev IsSmall : Option PendingAccess → Type 0
IsSmall None = Unit {0}
IsSmall (Some access) = access.value < 2 ^ 64

small_begun : (begun : Option Access) → HasWord begun → IsSmall (pending_of begun)
small_begun None word = tt
small_begun (Some (want.Read object)) word = lit< tt
small_begun (Some (want.Write object value)) word = word
small_begun (Some (want.Update object change)) word = tt

-- an access that is wanted has a value of 64 bits
word_wanted : (wanted : Access) (access : PendingAccess) → pending_of (Some wanted) ≡ Some access → access.value < 2 ^ 64 → HasWord (Some wanted)
word_wanted wanted access is small = go wanted (subst IsSmall (sym is) small)
  where
    go : (wanted : Access) → IsSmall (pending_of (Some wanted)) → HasWord (Some wanted)
    go (want.Read object) small = tt
    go (want.Write object value) small = small
    go (want.Update object change) small = tt

-- so does one that begins a read or a write
pub begun_own : (recorder : Recorder) (wanted : Access) (access : PendingAccess) (before : Track) (answer : Poll) (after : Track)
    → IsTrackOf recorder before → lines_noted before + LINES_OF_ACCESS ≤ lines_in recorder → access.object < objects_in recorder → access.value < 2 ^ 64
    → pending_of (Some wanted) ≡ Some access → changing_of (Some wanted) ≡ None
    → IsWorkerOf recorder.heap after.worker → after.worker.pending ≡ pending_after answer (Some access) → after.worker.changing ≡ None
    → after.begun ≡ pending_after answer (Some wanted) → Notes access before answer after → vec_capacity after.commands ≡ vec_capacity before.commands → IsTrackOf recorder after
begun_own recorder wanted access before answer after own more there small is no_update kept pending changing says notes room =
    still_own recorder access (Some wanted) before answer after own more there small (word_wanted wanted access is small) kept
    (pending ∙ ap (λ (p : Option PendingAccess). pending_after answer p) (sym is))
    (changing ∙ (none_after answer None refl ∙ ap (λ (u : Option PendingUpdate). pending_after answer u) (sym no_update))) says notes room

-- so does one that goes on with its access
pub polled_own : (recorder : Recorder) (wanted : Access) (access : PendingAccess) (before : Track) (answer : Poll) (after : Track)
    → IsTrackOf recorder before → before.begun ≡ Some wanted → pending_of (Some wanted) ≡ Some access
    → IsWorkerOf recorder.heap after.worker → after.worker.pending ≡ pending_after answer before.worker.pending → after.worker.changing ≡ pending_after answer before.worker.changing
    → after.begun ≡ pending_after answer (Some wanted) → Notes access before answer after → vec_capacity after.commands ≡ vec_capacity before.commands → IsTrackOf recorder after
polled_own recorder wanted access before answer after own begun is kept pending changing says notes room =
    let has : before.worker.pending ≡ Some access = own.pending ∙ (ap pending_of begun ∙ is) in
    let within = subst (λ (p : Option PendingAccess). IsWithin (objects_of recorder.heap.words) (begun_of p before.worker.changing)) has own.own.within in
    let word = subst HasWord begun own.word in
    still_own recorder access (Some wanted) before answer after own (omega (arith, own.within, ap lines_begun begun)) (omega (arith, within, recorder.objects))
    (subst IsSmall is (small_begun (Some wanted) word)) word kept
    (pending ∙ ap (λ (p : Option PendingAccess). pending_after answer p) (own.pending ∙ ap pending_of begun))
    (changing ∙ ap (λ (u : Option PendingUpdate). pending_after answer u) (own.changing ∙ ap changing_of begun)) says notes room

-- so does one that updates
pub updated_own : (recorder : Recorder) (object : ℕ) (change : Change) (before : Track) (updated : Updated) (after : Track)
    → IsTrackOf recorder before → lines_noted before + LINES_OF_ACCESS ≤ lines_in recorder → object < objects_in recorder → amount_made change updated < 2 ^ 64
    → IsWorkerOf recorder.heap after.worker → after.worker.pending ≡ None → after.worker.changing ≡ pending_after (answer_after change updated) (Some (update_to object change))
    → after.begun ≡ pending_after (answer_after change updated) (Some (want.Update object change))
    → Notes (access_to object Update (amount_made change updated)) before (answer_after change updated) after
    → vec_capacity after.commands ≡ vec_capacity before.commands → IsTrackOf recorder after
updated_own recorder object change before updated after own more there small kept pending changing says notes room =
    still_own recorder (access_to object Update (amount_made change updated)) (Some (want.Update object change)) before (answer_after change updated) after own more there small tt kept
    (pending ∙ none_after (answer_after change updated) None refl) changing says notes room

-- a heap's worker may go on with the update that its track has begun
pub may_update : (recorder : Recorder) (track : Track) (object : ℕ) (change : Change) → IsTrackOf recorder track → MayUpdate object change track → updates.MayUpdate object change track.worker
may_update recorder track object change own may =
    ⊎_elim (λ idle. inl (idle_worker recorder track own idle)) (λ is. inr (own.changing ∙ ap changing_of is)) may
