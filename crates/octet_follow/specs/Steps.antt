-- The steps of followers: each reads or changes one word, and changes the follower that takes it.
use Rattle.std.specs.Prelude.{◌≡◌, ℕ, suc, ◌<◌, IsTrue, List, [], ◌∷◌, ◌++◌, length, Option, Some, None, slice_set, slice_index}
use Rattle.octet_model.specs.declared.event.Mark.{Mark}
use Rattle.octet_model.specs.declared.event.Mark.TheVariants.{Draw}
use Rattle.octet_model.specs.declared.event.Event.{Event}
use Rattle.octet_model.specs.declared.event.Event.TheVariants.{Read, Write, Update, Marked}
use Rattle.octet_model.specs.Machine.{MakeMark, is_enabled, heap_after, draws_after}
use Rattle.octet_model.specs.Plays.{operation_of}
use Rattle.octet_follow.specs.State.{FollowerState, CourseState, follower_of, progress, plain}

-- the kinds of step that a follower takes. Splits and joins of followers are none of them:
-- they change no word and no follower
pub data Kind : Type 0 where
  -- the follower loads the progress word of another
  ToLook : (whom : ℕ) → Kind
  -- the follower loads the number of draws
  ToLookAtDraws : Kind
  -- the follower loads a cell
  ToRead : (object : ℕ) → Kind
  -- the follower stores a value to a cell
  ToWrite : (object value : ℕ) → Kind
  -- the follower changes the value of a cell
  ToUpdate : (object : ℕ) (change : ℕ → ℕ) → Kind
  -- the follower makes the draw of this number, in the number of draws
  ToDraw : (number : ℕ) → Kind
  -- the follower makes any other mark, in its own progress word
  ToMark : (mark : Mark) → Kind
  -- the follower shows in its own progress word how many events it has made
  ToShow : Kind

-- the event that a step makes, if it makes one, by the word found
abbrev pub event_by : Kind → ℕ → Option Event
event_by (ToRead object) found = Some (Read object found)
event_by (ToWrite object value) found = Some (Write object value)
event_by (ToUpdate object change) found = Some (Update object found (change found))
event_by (ToDraw number) found = Some (Marked (Draw number))
event_by (ToMark mark) found = Some (Marked mark)
event_by _ found = None

-- the journal with this event at its end, if there is one
abbrev pub with_event : List Event → Option Event → List Event
with_event journal None = journal
with_event journal (Some event) = journal ++ event ∷ []

-- the number that a follower shows after a step, by which it has made so many events
abbrev pub shown_after : Kind → ℕ → ℕ → ℕ
shown_after (ToMark mark) made before = made
shown_after ToShow made before = made
shown_after _ made before = before

-- the follower in whose word a follower looked last
abbrev pub whom_after : Kind → ℕ → ℕ
whom_after (ToLook whom) before = whom
whom_after _ before = before

-- the number that it found there
abbrev pub found_after : Kind → ℕ → ℕ → ℕ
found_after (ToLook whom) found before = found
found_after _ found before = before

-- the number of draws that it found last
abbrev pub seen_after : Kind → ℕ → ℕ → ℕ
seen_after ToLookAtDraws found before = found
seen_after _ found before = before

-- the follower after its step, by the word found
abbrev pub after : Kind → ℕ → FollowerState → FollowerState
after k found p = let journal = with_event p.journal (event_by k found) in record {
  journal = journal;
  shown = shown_after k (length journal) p.shown;
  whom = whom_after k p.whom;
  found = found_after k found p.found;
  seen = seen_after k found p.seen;
}

-- the word that a step finds in its place
abbrev pub word_found : Kind → ℕ → CourseState → ℕ
word_found (ToLook whom) t s = progress (follower_of s whom)
word_found ToLookAtDraws t s = s.draws
word_found (ToRead object) t s = slice_index s.cells object
word_found (ToWrite object value) t s = slice_index s.cells object
word_found (ToUpdate object change) t s = slice_index s.cells object
word_found (ToDraw number) t s = s.draws
word_found _ t s = progress (follower_of s t)

-- the play after a step: one that makes an event puts its follower last
abbrev pub play_after : List ℕ → ℕ → Option Event → List ℕ
play_after play t None = play
play_after play t (Some event) = play ++ t ∷ []

-- the cells after a step, as the plain machine has them
abbrev pub cells_after : Option Event → List ℕ → List ℕ
cells_after None cells = cells
cells_after (Some event) cells = heap_after (operation_of event) cells

-- the number of draws after a step, as the plain machine has it
abbrev pub drawn_after : Option Event → ℕ → ℕ
drawn_after None draws = draws
drawn_after (Some event) draws = draws_after (operation_of event) draws

-- the state after the follower's step
abbrev pub step : Kind → ℕ → CourseState → CourseState
step k t s = let event = event_by k (word_found k t s) in record {
  starts = s.starts;
  play = play_after s.play t event;
  followers = slice_set s.followers t (after k (word_found k t s) (follower_of s t));
  draws = drawn_after event s.draws;
  cells = cells_after event s.cells;
}

-- the mark is made in the follower's own progress word
abbrev pub IsOwn : Mark → Type 0
IsOwn (Draw number) = ⊥
IsOwn _ = Unit {0}

-- the follower may take the step: what it names is there, and a mark may be made now
abbrev pub May : Kind → ℕ → CourseState → Type 0
May (ToLook whom) t s = whom < length s.followers
May ToLookAtDraws t s = Unit {0}
May (ToRead object) t s = object < length s.cells
May (ToWrite object value) t s = object < length s.cells
May (ToUpdate object change) t s = object < length s.cells
May (ToDraw number) t s = number ≡ suc s.draws
May (ToMark mark) t s = IsOwn mark × IsTrue (is_enabled (plain s) (MakeMark mark))
May ToShow t s = Unit {0}
