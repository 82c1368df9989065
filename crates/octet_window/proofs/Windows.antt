-- What a closed window is.
use Rattle.std.proofs.Common.{◌≡◌, ℕ, zero, suc, ◌≤◌, List, [], ◌∷◌, length, map, get_or, slice_index, refl, sym, ap, ◌∙◌, subst, arith}
use Rattle.std.proofs.Math.Nat.{le-max_left, le-max_right}
use Rattle.std.proofs.lemmas.List.{length-map}
use Rattle.octet_model.specs.declared.command.Command.{Command}
use Rattle.octet_model.specs.declared.event.Event.{Event}
use Rattle.octet_model.specs.declared.event.Event.TheVariants.{Read, Write, Update, Marked}
use Rattle.octet_model.specs.declared.log.ThreadLog.{ThreadLog}
use Rattle.octet_model.specs.declared.object.Object.{Object}
use Rattle.octet_model.specs.declared.script.Script.{Script}
use Rattle.octet_model.specs.Machine.{Journals, journal_of}
use Rattle.octet_model.specs.Orders.{starting_heap, commands_of}
use Rattle.octet_recorder.specs.Programs.{IsProgramOf}
use Rattle.octet_window.specs.declared.notes.Note.{Note}
use Rattle.octet_window.specs.declared.notes.Notes.{Notes}
use Rattle.octet_window.specs.declared.refusal.Refusal.{Refusal}
use Rattle.octet_window.specs.declared.refusal.Refusal.TheVariants.{ManyObjects, ManyLines, NoHistory, OutOfMemory}
use Rattle.octet_window.specs.Courses.{notes_of}
use Rattle.octet_window.specs.Noting.{events_of, notes_in, program_of, renamed, renamed_note, touched_in, AllIn, AreIn, AreOf}
use Rattle.octet_window.specs.Histories.{noted, HasNoHistory}
use Rattle.octet_window.specs.Ordering.{Parts, accesses_in}
use Rattle.octet_window.specs.Playing.{all_renamed, AllOf, HaveAll, IsPlayRefusal}
use Rattle.octet_window.specs.Recorded.{HasPrograms, Makes}
use Rattle.octet_window.specs.Windows.{all_noted, most_lines, name_of, noted_by, HasNoValues, IsRefused, IsScriptWith, MakesNoted}
use Rattle.octet_window.proofs.Noting.{program_is, of_accesses}
use Rattle.octet_window.proofs.Renaming.{AreOfThese, history_there}
use Rattle.octet_window.proofs.Valid.{touched_of}

program_at : (threads : List (List Note)) (t : ℕ) → get_or (map program_of threads) t [] ≡ program_of (notes_of threads t)
program_at [] t = refl
program_at (notes ∷ threads) zero = refl
program_at (notes ∷ threads) (suc t) = program_at threads t

in_at : (n : ℕ) (threads : List (List Note)) (t : ℕ) → AllIn n threads → AreIn n (notes_of threads t)
in_at n [] t all = tt
in_at n (notes ∷ threads) zero all = all.0
in_at n (notes ∷ threads) (suc t) all = in_at n threads t all.1

most_of : (programs : List (List Command)) (t : ℕ) → length (get_or programs t []) ≤ most_lines programs
most_of [] t = omega arith
most_of (program ∷ programs) zero = le-max_left (length program) (most_lines programs)
most_of (program ∷ programs) (suc t) = let m = most_of programs t in omega (arith, m, le-max_right (length program) (most_lines programs))

pub many_objects : (objects : List ℕ) (programs : List (List Command)) (script : Script) → IsScriptWith objects programs script → length script.objects ≡ length objects
many_objects objects programs script is =
    sym (length-map script.objects (λ (object : Object). object.name)) ∙ (ap (λ (l : List (List ℕ)). length l) is.names ∙ length-map objects name_of)

pub has_programs : (objects : List ℕ) (threads : List (List Note)) (script : Script) (run : Parts) → IsScriptWith objects (map program_of threads) script → AllIn (length objects) threads
    → starting_heap script ≡ run.starts → length run.journals ≡ length threads → HaveAll threads run.journals → HasPrograms script run
has_programs objects threads script run is all starts many have = record {
  starts = starts;
  many = ap (λ (l : List (List Command)). length l) is.threads ∙ (length-map threads program_of ∙ sym many);
  each = λ t lt. subst (λ (n : ℕ). IsProgramOf n (commands_of script t) (journal_of run.journals t)) (sym (many_objects objects (map program_of threads) script is))
      (of_accesses (length objects) (commands_of script t) (journal_of run.journals t)
      (subst (λ (l : List Event). IsProgramOf (length objects) (commands_of script t) l) (sym (have t))
      (subst (λ (p : List Command). IsProgramOf (length objects) p (accesses_in (events_of (notes_of threads t)))) (sym (commands t)) (program_is (length objects) (notes_of threads t) (in_at (length objects) threads t all)))));
  within = λ t. let m = most_of (map program_of threads) t in omega (arith, m, is.lines, ap (λ (l : List (List Command)). length (get_or l t [])) is.threads);
}
  where
    commands : (t : ℕ) → commands_of script t ≡ program_of (notes_of threads t)
    commands t = ap (λ (l : List (List Command)). get_or l t []) is.threads ∙ program_at threads t

-- renamed accesses
accesses_renamed : (objects : List ℕ) (notes : List Note) → accesses_in (events_of (map (renamed_note objects) notes)) ≡ map (renamed objects) (accesses_in (events_of notes))
accesses_renamed objects [] = refl
accesses_renamed objects (note ∷ notes) = go note.event (accesses_renamed objects notes)
  where
    go : (e : Event) → accesses_in (events_of (map (renamed_note objects) notes)) ≡ map (renamed objects) (accesses_in (events_of notes))
        → accesses_in (renamed objects e ∷ events_of (map (renamed_note objects) notes)) ≡ map (renamed objects) (accesses_in (e ∷ events_of notes))
    go (Read object value) rest = ap (λ (l : List Event). renamed objects (Read object value) ∷ l) rest
    go (Write object value) rest = ap (λ (l : List Event). renamed objects (Write object value) ∷ l) rest
    go (Update object before after) rest = ap (λ (l : List Event). renamed objects (Update object before after) ∷ l) rest
    go (Marked mark) rest = rest

notes_at : (objects : List ℕ) (threads : List Notes) (t : ℕ) → notes_of (all_renamed objects threads) t ≡ map (renamed_note objects) (noted_by threads t)
notes_at objects [] t = refl
notes_at objects (notes ∷ threads) zero = refl
notes_at objects (notes ∷ threads) (suc t) = notes_at objects threads t

pub makes_noted : (objects : List ℕ) (threads : List Notes) (script : Script) (log : List ThreadLog) (js : Journals) → Makes script log js → HaveAll (all_renamed objects threads) js
    → MakesNoted threads objects script log
makes_noted objects threads script log js makes have order lawful t =
    ap (λ (l : Journals). accesses_in (journal_of l t)) (makes order lawful)
    ∙ (have t ∙ (ap (λ (l : List Note). accesses_in (events_of l)) (notes_at objects threads t) ∙ accesses_renamed objects (noted_by threads t)))

-- what is noted, and what is noted with the places of the objects
known_events : (objects : List ℕ) (notes : List Note) → AreOf objects notes → AreOfThese objects (events_of notes)
known_events objects [] are = tt
known_events objects (note ∷ notes) are = (are.0, known_events objects notes are.1)

all_known : (objects : List ℕ) (threads : List Notes) → AllOf objects threads → (t : ℕ) → AreOfThese objects (journal_of (all_noted threads) t)
all_known objects [] all t = tt
all_known objects (notes ∷ threads) all zero = known_events objects (notes_in notes) all.0
all_known objects (notes ∷ threads) all (suc t) = all_known objects threads all.1 t

events_renamed : (objects : List ℕ) (notes : List Note) → events_of (map (renamed_note objects) notes) ≡ map (renamed objects) (events_of notes)
events_renamed objects [] = refl
events_renamed objects (note ∷ notes) = ap (λ (l : List Event). renamed objects note.event ∷ l) (events_renamed objects notes)

all_places : (objects : List ℕ) (threads : List Notes) (t : ℕ) → journal_of (noted (all_renamed objects threads)) t ≡ map (renamed objects) (journal_of (all_noted threads) t)
all_places objects [] t = refl
all_places objects (notes ∷ threads) zero = events_renamed objects (notes_in notes)
all_places objects (notes ∷ threads) (suc t) = all_places objects threads t

as_many_noted : (objects : List ℕ) (threads : List Notes) → length (noted (all_renamed objects threads)) ≡ length (all_noted threads)
as_many_noted objects [] = refl
as_many_noted objects (notes ∷ threads) = ap (λ (n : ℕ). suc n) (as_many_noted objects threads)

-- where no values give what is noted a history with the places of the objects, none give what is noted one
none_there : (objects : List ℕ) (threads : List Notes) → AllOf objects threads
    → ((starts : List ℕ) → length starts ≡ length objects → HasNoHistory starts (noted (all_renamed objects threads))) → HasNoValues objects threads
none_there objects threads all none values have last draws h =
    let r = history_there objects (all_noted threads) (noted (all_renamed objects threads)) (as_many_noted objects threads) (all_places objects threads) (all_known objects threads all) values have last draws h in
    none (map (slice_index values) objects) (length-map objects (slice_index values)) r.0 r.1 r.2

-- why there is no window, where the threads do not make what is noted
pub play_refusal : (threads : List Notes) (e : Refusal) → IsPlayRefusal (length (touched_in [] threads)) (all_renamed (touched_in [] threads) threads) e → IsRefused threads e
play_refusal threads NoHistory is = none_there (touched_in [] threads) threads (touched_of threads) is
play_refusal threads OutOfMemory is = tt
play_refusal threads (ManyObjects count) is = absurd is
play_refusal threads (ManyLines lines) is = absurd is
