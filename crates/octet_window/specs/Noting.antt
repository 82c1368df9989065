-- What is noted of threads in a window, and the lines that it makes.
use Rattle.std.specs.Prelude.{◌≡◌, ℕ, suc, ◌<◌, ◌^◌, ◌==◌, ◌&&◌, if◌then◌else◌, Bool, true, false, not, List, [], ◌∷◌, ◌++◌, map, Option, Some, None}
use Rattle.std.specs.Vec.{vec_capacity}
use Rattle.octet_model.specs.declared.command.Command.{Command}
use Rattle.octet_model.specs.declared.event.Event.{Event}
use Rattle.octet_model.specs.declared.event.Event.TheVariants.{Read, Write, Update, Marked}
use Rattle.octet_model.specs.HappensBefore.{is_access, object_of}
use Rattle.octet_model.specs.Totals.{difference}
use Rattle.octet_recorder.specs.Programs.{region_lines, read_lines, write_lines, bump_lines}
use Rattle.octet_window.specs.declared.notes.Note.{Note}
use Rattle.octet_window.specs.declared.notes.Notes.{Notes}

-- what is noted, and for how much there is room
abbrev pub notes_in : Notes → List Note
notes_in notes = notes.notes.items

abbrev pub room_of : Notes → ℕ
room_of notes = vec_capacity notes.notes

-- the note of an event, where a region is to begin or not. It begins with an access
abbrev pub note_of : Bool → Event → Note
note_of region event = record { event = event; region = region && is_access event }

-- whether a region is still to begin after the event
abbrev pub region_left : Bool → Event → Bool
region_left region event = region && not (is_access event)

-- the events that are noted
abbrev pub events_of : List Note → List Event
events_of notes = map (λ note. note.event) notes

-- the lines of a note
abbrev pub lines_of : Bool → Event → List Command
lines_of region (Read object value) = region_lines region ++ read_lines object
lines_of region (Write object value) = region_lines region ++ write_lines object value
lines_of region (Update object before after) = region_lines region ++ bump_lines object (difference before after)
lines_of region (Marked mark) = []

-- the program of notes
abbrev pub program_of : List Note → List Command
program_of [] = []
program_of (note ∷ notes) = lines_of note.region note.event ++ program_of notes

-- an access of one of so many objects, with values of 64 bits
abbrev pub IsEventIn : ℕ → Event → Type 0
IsEventIn objects (Read object value) = object < objects
IsEventIn objects (Write object value) = (object < objects) × (value < 2 ^ 64)
IsEventIn objects (Update object before after) = (object < objects) × (before < 2 ^ 64) × (after < 2 ^ 64)
IsEventIn objects (Marked mark) = Unit {0}

-- each is so
abbrev pub AreIn : ℕ → List Note → Type 0
AreIn objects [] = Unit {0}
AreIn objects (note ∷ notes) = IsEventIn objects note.event × AreIn objects notes

-- and of each thread
abbrev pub AllIn : ℕ → List (List Note) → Type 0
AllIn objects [] = Unit {0}
AllIn objects (notes ∷ threads) = AreIn objects notes × AllIn objects threads

-- the test whether the object is one of these
abbrev pub has : List ℕ → ℕ → Bool
has [] object = false
has (first ∷ objects) object = if first == object then true else has objects object

-- the place of an object among these
abbrev pub place_of : List ℕ → ℕ → ℕ
place_of [] object = 0
place_of (first ∷ objects) object = if first == object then 0 else suc (place_of objects object)

-- these objects, and this one if it is none of them
abbrev pub with_object : List ℕ → Option ℕ → List ℕ
with_object objects None = objects
with_object objects (Some object) = if has objects object then objects else objects ++ object ∷ []

-- these objects, and those that the notes access, in order
abbrev pub touched_by : List ℕ → List Note → List ℕ
touched_by objects [] = objects
touched_by objects (note ∷ notes) = touched_by (with_object objects (object_of note.event)) notes

-- and those that all threads access
abbrev pub touched_in : List ℕ → List Notes → List ℕ
touched_in objects [] = objects
touched_in objects (notes ∷ threads) = touched_in (touched_by objects (notes_in notes)) threads

-- the event with the place of its object for the object
abbrev pub renamed : List ℕ → Event → Event
renamed objects (Read object value) = Read (place_of objects object) value
renamed objects (Write object value) = Write (place_of objects object) value
renamed objects (Update object before after) = Update (place_of objects object) before after
renamed objects (Marked mark) = Marked mark

abbrev pub renamed_note : List ℕ → Note → Note
renamed_note objects note = record { event = renamed objects note.event; region = note.region }

-- each access is of one of these objects
abbrev pub AreOf : List ℕ → List Note → Type 0
AreOf objects [] = Unit {0}
AreOf objects (note ∷ notes) = ((object : ℕ) → object_of note.event ≡ Some object → has objects object ≡ true) × AreOf objects notes
