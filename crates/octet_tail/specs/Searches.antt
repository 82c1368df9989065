-- The fronts and the parts between them are searched by the bytes of a marks file.
use Rattle.std.specs.Prelude.{◌≡◌, ℕ, suc, List, [], ◌∷◌, ◌++◌, map, slice_get, Some, None, Result, Ok, Err}
use Rattle.octet_log.specs.Inputs.{AreBytes}
use Rattle.octet_marks.specs.declared.piece.Piece.{Piece}
use Rattle.octet_marks.specs.Files.{Unread, unread_of, HasRead}
use Rattle.octet_marks.specs.Reading.{piece_at}
use Rattle.octet_tail.specs.declared.finder.Untaken.{Untaken}
use Rattle.octet_tail.specs.declared.finder.Untaken.TheVariants as untaken
use Rattle.octet_tail.specs.declared.tail.Made.{Made}
use Rattle.octet_tail.specs.declared.tail.Tail.{Tail}
use Rattle.octet_tail.specs.declared.fault.SearchFault.{SearchFault}
use Rattle.octet_tail.specs.declared.fault.SearchFault.TheVariants.{OutOfMemory, Refused, ManyEvents, NotNoted, Apart}
use Rattle.octet_tail.specs.declared.finders.Finders.{Finders}
use Rattle.octet_tail.specs.declared.found.Found.{Found}
use Rattle.octet_tail.specs.declared.fronts.Fronts.{Fronts}
use Rattle.octet_tail.specs.declared.parts.Part.{Part}
use Rattle.octet_tail.specs.declared.search.Search.{Search}
use Rattle.octet_tail.specs.Between.{AreMany, HaveNoted, IsBetween}
use Rattle.octet_tail.specs.Parts.{HasLast, IsApart, IsPart}

-- how many accesses threads have made
abbrev pub counts_in : List Made → List ℕ
counts_in made = map (λ one. one.accesses) made

-- with one of these pieces its thread has too many events to be counted
pub record HaveTooMany (made : List ℕ) (all : List Piece) : Type 0 where
  pub before : List Piece
  pub piece : Piece
  pub rest : List Piece
  pub is : all ≡ before ++ piece ∷ rest
  pub many : AreMany made before piece

-- these pieces were noted, or it failed
abbrev pub AreNotedBy : List ℕ → ℕ → List Piece → Result Finders Untaken → Type 0
AreNotedBy made last all (Ok finders) = HaveNoted made last all finders
AreNotedBy made last all (Err untaken.ManyEvents) = HaveTooMany made all
AreNotedBy made last all (Err untaken.OutOfMemory) = Unit {0}

-- of the bytes that were fed these pieces were read and noted
pub record HasSearched (fed : List ℕ) (all : List Piece) (search : Search) : Type 0 where
  pub are : AreBytes fed
  pub read : HasRead fed all (unread_of search.reader)
  pub noted : AreNotedBy (counts_in search.made) search.last all search.finders

-- the same is searched
pub record IsSameSearch (before after : Search) : Type 0 where
  pub made : after.made ≡ before.made
  pub last : after.last ≡ before.last

-- a piece was noted
pub record NotesPiece (piece : Piece) (before after : Search) : Type 0 where
  pub same : IsSameSearch before after
  pub reader : after.reader ≡ before.reader
  pub noted : (all : List Piece) → AreNotedBy (counts_in before.made) before.last all before.finders
      → AreNotedBy (counts_in before.made) before.last (all ++ piece ∷ []) after.finders

-- these bytes were fed, and more pieces may have been read and noted
pub record SearchesOn (bytes : List ℕ) (before after : Search) : Type 0 where
  pub same : IsSameSearch before after
  pub more : (fed : List ℕ) (all : List Piece) → HasSearched fed all before → (next : List Piece) × HasSearched (fed ++ bytes) (all ++ next) after

-- the bytes that a call took
abbrev pub fed_by : List ℕ → Result Unit SearchFault → List ℕ
fed_by bytes (Ok done) = bytes
fed_by bytes (Err fault) = []

-- no whole piece is left
abbrev pub HasReadAll : Search → Type 0
HasReadAll search = piece_at (unread_of search.reader).threads (unread_of search.reader).bytes ≡ Ok None

-- why a search does not go on: what comes next is refused, or one thread has too many events
abbrev pub HasSearchFault : Search → SearchFault → Type 0
HasSearchFault search OutOfMemory = Unit {0}
HasSearchFault search (Refused cause at) = (piece_at (unread_of search.reader).threads (unread_of search.reader).bytes ≡ Err cause) × (at ≡ (unread_of search.reader).place)
HasSearchFault search ManyEvents = search.finders ≡ Err untaken.ManyEvents
HasSearchFault search _ = ⊥

-- the part of a thread between the fronts, which has made so much: the last ones of the accesses that were noted
pub record IsPartOf (fronts : Fronts) (last thread : ℕ) (made : Made) (part : Part) : Type 0 where
  pub is : IsPart fronts thread made.accesses last part
  pub tail : Tail
  pub noted : made.tail ≡ Some tail
  pub has : HasLast tail part

-- why a thread has none: its last accesses were not noted, or it has none by them
abbrev pub HasNoPartOf : Fronts → ℕ → ℕ → Made → SearchFault → Type 0
HasNoPartOf fronts last thread made NotNoted = made.tail ≡ None
HasNoPartOf fronts last thread made Apart = (tail : Tail) × (made.tail ≡ Some tail) × IsApart fronts thread made.accesses last tail
HasNoPartOf fronts last thread made OutOfMemory = Unit {0}
HasNoPartOf fronts last thread made _ = ⊥

-- the parts of the threads from this number on, one after another
abbrev pub AreParts : Fronts → ℕ → ℕ → List Made → List Part → Type 0
AreParts fronts last thread [] parts = parts ≡ []
AreParts fronts last thread (one ∷ made) parts = (part : Part) × (rest : List Part) × (parts ≡ part ∷ rest) × IsPartOf fronts last thread one part × AreParts fronts last (suc thread) made rest

-- why there are not all
pub record HasNoParts (fronts : Fronts) (last : ℕ) (made : List Made) (fault : SearchFault) : Type 0 where
  pub thread : ℕ
  pub one : Made
  pub none : HasNoPartOf fronts last thread one fault
  pub is : slice_get made thread ≡ Some one

-- all whole pieces of what was fed were noted. Of these are the fronts, and the parts between them
pub record FindsIn (fed : List ℕ) (made : List Made) (last : ℕ) (found : Found) : Type 0 where
  pub pieces : List Piece
  pub rest : Unread
  pub read : HasRead fed pieces rest
  pub all : piece_at rest.threads rest.bytes ≡ Ok None
  pub between : IsBetween (counts_in made) last pieces found.fronts
  pub parts : AreParts found.fronts last 0 made found.parts

-- a thread has no part between the fronts of the pieces that were noted
pub record LacksPart (search : Search) (fault : SearchFault) : Type 0 where
  pub fronts : Fronts
  pub between : (all : List Piece) → AreNotedBy (counts_in search.made) search.last all search.finders → IsBetween (counts_in search.made) search.last all fronts
  pub none : HasNoParts fronts search.last search.made fault

-- why nothing is found, once the search has gone on
abbrev pub FindsNone : Search → SearchFault → Type 0
FindsNone search Apart = LacksPart search Apart
FindsNone search NotNoted = LacksPart search NotNoted
FindsNone search fault = HasSearchFault search fault

pub record HasFindFault (search : Search) (fault : SearchFault) : Type 0 where
  pub after : Search
  pub goes_on : SearchesOn [] search after
  pub why : FindsNone after fault
