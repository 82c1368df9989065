-- A search goes on, piece by piece.
use Rattle.std.proofs.Common.{◌≡◌, ◌∙◌, ℕ, zero, suc, ◌+◌, ◌<◌, List, [], ◌∷◌, ◌++◌, length, drop, get_or, Some, Result, Ok, Err, IfErr, OnOk, refl, sym, ap, subst, arith, append_assoc, append-nil, length-drop}
use Rattle.std.proofs.Math.Seq.{drop-cons, drop-length}
use Rattle.octet_log.specs.Inputs.{AreBytes}
use Rattle.octet_marks.specs.declared.piece.Piece.{Piece}
use Rattle.octet_marks.specs.Files.{Unread, unread_of, fed_with, HasRead, IsNext, FedBytesStandBehind, NextPieceStandsBehind}
use Rattle.octet_marks.specs.Laws.{PieceHasBytes}
use Rattle.octet_tail.specs.declared.finder.Untaken.{Untaken}
use Rattle.octet_tail.specs.declared.finder.Untaken.TheVariants as untaken
use Rattle.octet_tail.specs.declared.tail.Made.{Made}
use Rattle.octet_tail.specs.declared.tail.Tail.{Tail}
use Rattle.octet_tail.specs.declared.fault.PartFault.{PartFault}
use Rattle.octet_tail.specs.declared.fault.PartFault.TheVariants as part_fault
use Rattle.octet_tail.specs.declared.fault.SearchFault.{SearchFault}
use Rattle.octet_tail.specs.declared.fault.SearchFault.TheVariants as search_fault
use Rattle.octet_tail.specs.declared.found.Found.{Found}
use Rattle.octet_tail.specs.declared.fronts.Fronts.{Fronts}
use Rattle.octet_tail.specs.declared.parts.Part.{Part}
use Rattle.octet_tail.specs.declared.search.Search.{Search}
use Rattle.octet_tail.specs.Faults.{search_fault_of_part}
use Rattle.octet_tail.specs.Between.{IsBetween, IsUnnoted}
use Rattle.octet_tail.specs.Parts.{HasNoPart}
use Rattle.octet_tail.specs.Searches.{counts_in, AreNotedBy, HasSearched, IsSameSearch, NotesPiece, SearchesOn, HasReadAll, HasSearchFault, HasNoPartOf, HasNoParts, AreParts, IsPartOf, FindsIn, FindsNone}

-- ---- noting
-- a piece that cannot be noted is one with which there are too many events
pub unnoted_by : (made : List ℕ) (last : ℕ) (all : List Piece) (piece : Piece) (why : Untaken) → IsUnnoted made all piece why → AreNotedBy made last (all ++ piece ∷ []) (Err why)
unnoted_by made last all piece untaken.ManyEvents many = record { before = all; piece = piece; rest = []; is = refl; many = many }
unnoted_by made last all piece untaken.OutOfMemory many = tt

-- and after one more piece there still are
pub failed_on : (made : List ℕ) (last : ℕ) (all : List Piece) (piece : Piece) (why : Untaken) → AreNotedBy made last all (Err why) → AreNotedBy made last (all ++ piece ∷ []) (Err why)
failed_on made last all piece untaken.ManyEvents many = record {
  before = many.before;
  piece = many.piece;
  rest = many.rest ++ piece ∷ [];
  is = ap (λ (l : List Piece). l ++ piece ∷ []) many.is ∙ append_assoc many.before (many.piece ∷ many.rest) (piece ∷ []);
  many = many.many;
}
failed_on made last all piece untaken.OutOfMemory many = tt

pub on_ok : {A E : Type 0} (result : Result A E) (P Q : Type 0) → (P → Q) → OnOk result P → OnOk result Q
on_ok (Ok x) P Q then p = then p
on_ok (Err e) P Q then p = tt

pub if_err : {A E : Type 0} (result : Result A E) (P Q : E → Type 0) → ((e : E) → P e → Q e) → IfErr result P → IfErr result Q
if_err (Ok x) P Q then p = tt
if_err (Err e) P Q then p = then e p

-- so a piece is noted, or the search has failed
pub notes_on : (piece : Piece) (a b : Search) → ((made : List ℕ) (last : ℕ) (all : List Piece) → AreNotedBy made last all a.finders → AreNotedBy made last (all ++ piece ∷ []) b.finders) → b ≡ record a { finders = b.finders } → NotesPiece piece a b
notes_on piece a b noted is = record {
  same = record { made = ap (λ (s : Search). s.made) is; last = ap (λ (s : Search). s.last) is };
  reader = ap (λ (s : Search). s.reader) is;
  noted = λ all had. noted (counts_in a.made) a.last all had;
}

pub notes_none : (piece : Piece) (a b : Search) (why : Untaken) → ((made : List ℕ) (last : ℕ) (all : List Piece) → AreNotedBy made last all a.finders → AreNotedBy made last (all ++ piece ∷ []) (Err why)) → b ≡ record a { finders = Err why } → NotesPiece piece a b
notes_none piece a b why failed is = record {
  same = record { made = ap (λ (s : Search). s.made) is; last = ap (λ (s : Search). s.last) is };
  reader = ap (λ (s : Search). s.reader) is;
  noted = λ all had. subst (λ (s : Search). AreNotedBy (counts_in a.made) a.last (all ++ piece ∷ []) s.finders) (sym is) (failed (counts_in a.made) a.last all had);
}

-- ---- going on
pub same_start : (a : Search) → IsSameSearch a a
same_start a = record { made = refl; last = refl }

pub same_on : (a b c : Search) → IsSameSearch a b → IsSameSearch b c → IsSameSearch a c
same_on a b c one other = record { made = other.made ∙ one.made; last = other.last ∙ one.last }

pub searches_start : (a : Search) → SearchesOn [] a a
searches_start a = record {
  same = same_start a;
  more = λ fed all has. ([], subst (λ (l : List Piece). HasSearched (fed ++ []) l a) (sym (append-nil all)) (subst (λ (l : List ℕ). HasSearched l all a) (sym (append-nil fed)) has));
}

pub searches_on : (bytes : List ℕ) (a b c : Search) → SearchesOn [] a b → SearchesOn bytes b c → SearchesOn bytes a c
searches_on bytes a b c one other = record {
  same = same_on a b c one.same other.same;
  more = λ fed all has.
      let first = one.more fed all has in
      let second = other.more fed (all ++ first.0) (subst (λ (l : List ℕ). HasSearched l (all ++ first.0) b) (append-nil fed) first.1) in
      (first.0 ++ second.0, subst (λ (l : List Piece). HasSearched (fed ++ bytes) l c) (append_assoc all first.0 second.0) second.1);
}

-- the reader alone has changed, and stands where it stood
pub searches_same : (a b : Search) → b ≡ record a { reader = b.reader } → unread_of b.reader ≡ unread_of a.reader → SearchesOn [] a b
searches_same a b is same = record {
  same = record { made = ap (λ (s : Search). s.made) is; last = ap (λ (s : Search). s.last) is };
  more = λ fed all has. (
    [],
    subst (λ (l : List Piece). HasSearched (fed ++ []) l b) (sym (append-nil all)) (subst (λ (l : List ℕ). HasSearched l all b) (sym (append-nil fed)) (record {
      are = has.are;
      read = subst (HasRead fed all) (sym same) has.read;
      noted = subst (λ (s : Search). AreNotedBy (counts_in s.made) s.last all s.finders) (sym is) has.noted;
    })),
  );
}

-- a piece was read, and noted
pub searches_one : (a b c : Search) (piece : Piece) → NextPieceStandsBehind → b ≡ record a { reader = b.reader } → IsNext (unread_of a.reader) piece (unread_of b.reader) → NotesPiece piece b c → SearchesOn [] a c
searches_one a b c piece law is next notes = record {
  same = record { made = notes.same.made ∙ ap (λ (s : Search). s.made) is; last = notes.same.last ∙ ap (λ (s : Search). s.last) is };
  more = λ fed all has. (
    piece ∷ [],
    subst (λ (l : List ℕ). HasSearched l (all ++ piece ∷ []) c) (sym (append-nil fed)) (record {
      are = has.are;
      read = subst (λ r. HasRead fed (all ++ piece ∷ []) (unread_of r)) (sym notes.reader) (law fed all (unread_of a.reader) piece (unread_of b.reader) has.are has.read next);
      noted = subst (λ (m : List Made). AreNotedBy (counts_in m) c.last (all ++ piece ∷ []) c.finders) (sym notes.same.made)
          (subst (λ (n : ℕ). AreNotedBy (counts_in b.made) n (all ++ piece ∷ []) c.finders) (sym notes.same.last)
          (notes.noted all (subst (λ (s : Search). AreNotedBy (counts_in s.made) s.last all s.finders) (sym is) has.noted)));
    }),
  );
}

-- bytes were taken
bytes_more : (fed bytes : List ℕ) → AreBytes fed → AreBytes bytes → AreBytes (fed ++ bytes)
bytes_more [] bytes are more i = more i
bytes_more (x ∷ fed) bytes are more zero = are 0
bytes_more (x ∷ fed) bytes are more (suc i) = bytes_more fed bytes (λ k. are (suc k)) more i

pub searches_bytes : (bytes : List ℕ) (a b : Search) → FedBytesStandBehind → AreBytes bytes → b ≡ record a { reader = b.reader } → unread_of b.reader ≡ fed_with bytes (unread_of a.reader) → SearchesOn bytes a b
searches_bytes bytes a b law fit is fed_is = record {
  same = record { made = ap (λ (s : Search). s.made) is; last = ap (λ (s : Search). s.last) is };
  more = λ fed all has. (
    [],
    subst (λ (l : List Piece). HasSearched (fed ++ bytes) l b) (sym (append-nil all)) (record {
      are = bytes_more fed bytes has.are fit;
      read = subst (HasRead (fed ++ bytes) all) (sym fed_is) (law fed bytes all (unread_of a.reader) has.read);
      noted = subst (λ (s : Search). AreNotedBy (counts_in s.made) s.last all s.finders) (sym is) has.noted;
    }),
  );
}

-- a piece that was read leaves fewer bytes
pub fewer_left : (before : Unread) (piece : Piece) (after : Unread) → PieceHasBytes → IsNext before piece after → length after.bytes < length before.bytes
fewer_left before piece after law next =
    let has = law before.threads before.bytes next.read next.is in
    omega (arith, has.0, has.1, ap (λ (u : Unread). length u.bytes) next.after_is, length-drop next.read.size before.bytes)

-- ---- parts
pub no_part_for : (fronts : Fronts) (last thread : ℕ) (made : Made) (tail : Tail) (fault : PartFault) → made.tail ≡ Some tail → HasNoPart fronts thread made.accesses last tail fault
    → HasNoPartOf fronts last thread made (search_fault_of_part fault)
no_part_for fronts last thread made tail part_fault.Apart is none = (tail, is, none)
no_part_for fronts last thread made tail part_fault.OutOfMemory is none = tt

-- these are the parts of the first threads, so many
abbrev pub AreFirstParts : Fronts → ℕ → List Made → ℕ → List Part → Type 0
AreFirstParts fronts last made k parts = (rest : List Part) → AreParts fronts last k (drop k made) rest → AreParts fronts last 0 made (parts ++ rest)

pub one_part : (fronts : Fronts) (last : ℕ) (made : List Made) (k : ℕ) (parts : List Part) (d one : Made) (part : Part) → k < length made → one ≡ get_or made k d
    → AreFirstParts fronts last made k parts → IsPartOf fronts last k one part → AreFirstParts fronts last made (k + 1) (parts ++ part ∷ [])
one_part fronts last made k parts d one part lt is first of = λ rest later.
    let same : k + 1 ≡ suc k = omega arith in
    let here : drop k made ≡ one ∷ drop (suc k) made = drop-cons made k d lt ∙ ap (λ (m : Made). m ∷ drop (suc k) made) (sym is) in
    let others = subst (λ (n : ℕ). AreParts fronts last n (drop n made) rest) same later in
    let all = first (part ∷ rest) (subst (λ (l : List Made). AreParts fronts last k l (part ∷ rest)) (sym here) (part, rest, refl, of, others)) in
    subst (λ (l : List Part). AreParts fronts last 0 made l) (sym (append_assoc parts (part ∷ []) rest)) all

pub parts_to_end : (fronts : Fronts) (last : ℕ) (made : List Made) (k : ℕ) (parts : List Part) → k ≡ length made → AreFirstParts fronts last made k parts → AreParts fronts last 0 made parts
parts_to_end fronts last made k parts is first =
    subst (λ (l : List Part). AreParts fronts last 0 made l) (append-nil parts) (first [] (subst (λ (l : List Made). AreParts fronts last k l []) (sym (ap (λ (n : ℕ). drop n made) is ∙ drop-length made)) refl))

-- ---- what is found
pub found_in : (before after : Search) (fed : List ℕ) (all : List Piece) (found : Found) → SearchesOn [] before after → HasReadAll after
    → ((all : List Piece) → AreNotedBy (counts_in after.made) after.last all after.finders → IsBetween (counts_in after.made) after.last all found.fronts)
    → AreParts found.fronts before.last 0 before.made found.parts → HasSearched fed all before → FindsIn fed before.made before.last found
found_in before after fed all found goes read between parts has =
    let more = goes.more fed all has in
    let next = subst (λ (l : List ℕ). HasSearched l (all ++ more.0) after) (append-nil fed) more.1 in record {
      pieces = all ++ more.0;
      rest = unread_of after.reader;
      read = next.read;
      all = read;
      between = subst (λ (m : List Made). IsBetween (counts_in m) before.last (all ++ more.0) found.fronts) goes.same.made
          (subst (λ (n : ℕ). IsBetween (counts_in after.made) n (all ++ more.0) found.fronts) goes.same.last (between (all ++ more.0) next.noted));
      parts = parts;
    }

-- why nothing is found: the search has a fault, or a thread lacks a part
pub finds_none : (search : Search) (fault : SearchFault) → HasSearchFault search fault → FindsNone search fault
finds_none search search_fault.OutOfMemory why = tt
finds_none search (search_fault.Refused cause at) why = why
finds_none search search_fault.ManyEvents why = why
finds_none search search_fault.NotNoted why = absurd why
finds_none search search_fault.Apart why = absurd why

pub lacks_part : (search : Search) (fronts : Fronts) (fault : SearchFault)
    → ((all : List Piece) → AreNotedBy (counts_in search.made) search.last all search.finders → IsBetween (counts_in search.made) search.last all fronts)
    → HasNoParts fronts search.last search.made fault → FindsNone search fault
lacks_part search fronts search_fault.OutOfMemory between none = tt
lacks_part search fronts (search_fault.Refused cause at) between none = absurd none.none
lacks_part search fronts search_fault.ManyEvents between none = absurd none.none
lacks_part search fronts search_fault.NotNoted between none = record { fronts = fronts; between = between; none = none }
lacks_part search fronts search_fault.Apart between none = record { fronts = fronts; between = between; none = none }
