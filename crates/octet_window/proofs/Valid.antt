-- The script of a window is valid.
use Rattle.std.proofs.Common.{◌≡◌, ℕ, zero, suc, ◌+◌, ◌*◌, ◌<◌, ◌≤◌, Bool, true, false, not, ◌||◌, ◌==◌, if◌then◌else◌, List, [], ◌∷◌, ◌++◌, length, map, drop, get_or, Some, None, Option, IsTrue, refl, sym, ap, ◌∙◌, subst, arith}
use Rattle.std.specs.List.{list_all, list_any}
use Rattle.std.specs.Str.{bytes_eq}
use Rattle.std.proofs.lemmas.Bool.{and_from, le-leb, eqb-true, eq-eqb}
use Rattle.std.proofs.lemmas.List.{length-map}
use Rattle.std.proofs.lemmas.Slice.Eq.{bytes_eq-Decides}
use Rattle.octet_model.specs.declared.command.Command.{Command}
use Rattle.octet_model.specs.declared.object.Object.{Object}
use Rattle.octet_model.specs.HappensBefore.{object_of}
use Rattle.octet_model.specs.Script.{are_distinct, is_thread, is_script}
use Rattle.octet_recorder.proofs.lemmas.Programs.{program_valid}
use Rattle.octet_window.specs.declared.notes.Note.{Note}
use Rattle.octet_window.specs.declared.notes.Notes.{Notes}
use Rattle.octet_window.specs.Noting.{has, with_object, touched_by, touched_in, notes_in, program_of, events_of, AllIn, AreIn, AreOf}
use Rattle.octet_window.specs.Playing.{AllOf}
use Rattle.octet_window.specs.Ordering.{accesses_in}
use Rattle.octet_window.specs.Windows.{name_of, AreDifferent, AreThreads}
use Rattle.octet_window.proofs.Names.{names_differ}
use Rattle.octet_window.proofs.Noting.{program_is, drop_step}

if_true : (b c : Bool) → c ≡ true → (if b then true else c) ≡ true
if_true true c h = refl
if_true false c h = h

if_more : (b c d : Bool) → (c ≡ true → d ≡ true) → (if b then true else c) ≡ true → (if b then true else d) ≡ true
if_more true c d on h = refl
if_more false c d on h = on h

none_from : (b c : Bool) → b ≡ false → c ≡ false → (if b then true else c) ≡ false
none_from true c h k = absurd cc
none_from false c h k = k

parts_of_none : (b c : Bool) → (if b then true else c) ≡ false → (b ≡ false) × (c ≡ false)
parts_of_none true c h = absurd cc
parts_of_none false c h = (refl, h)

apart_false : (a b : ℕ) → (a ≡ b → ⊥) → (a == b) ≡ false
apart_false a b apart = go (a == b) refl
  where
    go : (t : Bool) → (a == b) ≡ t → t ≡ false
    go true is = absurd (apart (eqb-true a b is))
    go false is = refl

-- the test whether an object is one of these, with one more at the end
has_more : (objects : List ℕ) (last object : ℕ) → has objects object ≡ true → has (objects ++ last ∷ []) object ≡ true
has_more [] last object h = absurd cc
has_more (first ∷ objects) last object h = if_more (first == object) (has objects object) (has (objects ++ last ∷ []) object) (has_more objects last object) h

has_last : (objects : List ℕ) (last : ℕ) → has (objects ++ last ∷ []) last ≡ true
has_last [] last = ap (λ (b : Bool). if b then true else false) (eq-eqb last last refl)
has_last (first ∷ objects) last = if_true (first == last) (has (objects ++ last ∷ []) last) (has_last objects last)

not_has : (objects : List ℕ) (last object : ℕ) → has objects object ≡ false → (last ≡ object → ⊥) → has (objects ++ last ∷ []) object ≡ false
not_has [] last object h apart = none_from (last == object) false (apart_false last object apart) refl
not_has (first ∷ objects) last object h apart =
    let parts = parts_of_none (first == object) (has objects object) h in
    none_from (first == object) (has (objects ++ last ∷ []) object) parts.0 (not_has objects last object parts.1 apart)

different_more : (objects : List ℕ) (last : ℕ) → AreDifferent objects → has objects last ≡ false → AreDifferent (objects ++ last ∷ [])
different_more [] last are none = (refl, tt)
different_more (first ∷ objects) last are none =
    let parts = parts_of_none (first == last) (has objects last) none in (
      not_has objects last first are.0 (λ same. let t : true ≡ false = sym (eq-eqb first last (sym same)) ∙ parts.0 in cc),
      different_more objects last are.1 parts.1,
    )

-- the objects with one more
with_has : (objects : List ℕ) (next : Option ℕ) (object : ℕ) → has objects object ≡ true → has (with_object objects next) object ≡ true
with_has objects None object h = h
with_has objects (Some last) object h = go (has objects last)
  where
    go : (b : Bool) → has (if b then objects else objects ++ last ∷ []) object ≡ true
    go true = h
    go false = has_more objects last object h

with_this : (objects : List ℕ) (object : ℕ) → has (with_object objects (Some object)) object ≡ true
with_this objects object = go (has objects object) refl
  where
    go : (b : Bool) → has objects object ≡ b → has (if b then objects else objects ++ object ∷ []) object ≡ true
    go true is = is
    go false is = has_last objects object

with_different : (objects : List ℕ) (next : Option ℕ) → AreDifferent objects → AreDifferent (with_object objects next)
with_different objects None are = are
with_different objects (Some last) are = go (has objects last) refl
  where
    go : (b : Bool) → has objects last ≡ b → AreDifferent (if b then objects else objects ++ last ∷ [])
    go true is = are
    go false is = different_more objects last are is

by_has : (objects : List ℕ) (notes : List Note) (object : ℕ) → has objects object ≡ true → has (touched_by objects notes) object ≡ true
by_has objects [] object h = h
by_has objects (note ∷ notes) object h = by_has (with_object objects (object_of note.event)) notes object (with_has objects (object_of note.event) object h)

by_different : (objects : List ℕ) (notes : List Note) → AreDifferent objects → AreDifferent (touched_by objects notes)
by_different objects [] are = are
by_different objects (note ∷ notes) are = by_different (with_object objects (object_of note.event)) notes (with_different objects (object_of note.event) are)

in_has : (objects : List ℕ) (threads : List Notes) (object : ℕ) → has objects object ≡ true → has (touched_in objects threads) object ≡ true
in_has objects [] object h = h
in_has objects (notes ∷ threads) object h = in_has (touched_by objects (notes_in notes)) threads object (by_has objects (notes_in notes) object h)

pub in_different : (objects : List ℕ) (threads : List Notes) → AreDifferent objects → AreDifferent (touched_in objects threads)
in_different objects [] are = are
in_different objects (notes ∷ threads) are = in_different (touched_by objects (notes_in notes)) threads (by_different objects (notes_in notes) are)

-- what is accessed is touched
by_of : (objects : List ℕ) (notes : List Note) (whole : List ℕ) → ((object : ℕ) → has (touched_by objects notes) object ≡ true → has whole object ≡ true) → AreOf whole notes
by_of objects [] whole goes_on = tt
by_of objects (note ∷ notes) whole goes_on = (
  λ object of. goes_on object (by_has (with_object objects (object_of note.event)) notes object (subst (λ (next : Option ℕ). has (with_object objects next) object ≡ true) (sym of) (with_this objects object))),
  by_of (with_object objects (object_of note.event)) notes whole goes_on,
)

in_of : (objects : List ℕ) (threads : List Notes) (whole : List ℕ) → ((object : ℕ) → has (touched_in objects threads) object ≡ true → has whole object ≡ true) → AllOf whole threads
in_of objects [] whole goes_on = tt
in_of objects (notes ∷ threads) whole goes_on = (
  by_of objects (notes_in notes) whole (λ object h. goes_on object (in_has (touched_by objects (notes_in notes)) threads object h)),
  in_of (touched_by objects (notes_in notes)) threads whole goes_on,
)

pub touched_of : (threads : List Notes) → AllOf (touched_in [] threads) threads
touched_of threads = in_of [] threads (touched_in [] threads) (λ object h. h)

-- the names of different objects differ
or_false : (b c : Bool) → b ≡ false → c ≡ false → (b || c) ≡ false
or_false true c h k = absurd cc
or_false false c h k = k

not_named : (object first : ℕ) → object < 65536 → first < 65536 → (first == object) ≡ false → bytes_eq (name_of object) (name_of first) ≡ false
not_named object first small fits apart = go (bytes_eq (name_of object) (name_of first)) refl
  where
    go : (b : Bool) → bytes_eq (name_of object) (name_of first) ≡ b → b ≡ false
    go false is = refl
    go true is = absurd (let same : object ≡ first = names_differ object first small fits ((bytes_eq-Decides (name_of object) (name_of first)).0 is) in
        let t : true ≡ false = sym (eq-eqb first object (sym same)) ∙ apart in cc)

no_name : (objects : List ℕ) (object : ℕ) → object < 65536 → ((i : ℕ) → get_or objects i 0 < 65536) → has objects object ≡ false → list_any (bytes_eq (name_of object)) (map name_of objects) ≡ false
no_name [] object small fit none = refl
no_name (first ∷ objects) object small fit none =
    let parts = parts_of_none (first == object) (has objects object) none in
    or_false (bytes_eq (name_of object) (name_of first)) (list_any (bytes_eq (name_of object)) (map name_of objects))
    (not_named object first small (fit 0) parts.0) (no_name objects object small (λ i. fit (suc i)) parts.1)

different_names : (objects : List ℕ) → ((i : ℕ) → get_or objects i 0 < 65536) → AreDifferent objects → are_distinct (map name_of objects) ≡ true
different_names [] fit are = refl
different_names (object ∷ objects) fit are =
    and_from (not (list_any (bytes_eq (name_of object)) (map name_of objects))) (are_distinct (map name_of objects))
    (ap (λ (b : Bool). not b) (no_name objects object (fit 0) (λ i. fit (suc i)) are.0)) (different_names objects (λ i. fit (suc i)) are.1)

all_threads : (n : ℕ) (programs : List (List Command)) → AreThreads n programs → list_all (is_thread n) programs ≡ true
all_threads n [] are = refl
all_threads n (program ∷ programs) are = and_from (is_thread n program) (list_all (is_thread n) programs) are.0 (all_threads n programs are.1)

-- programs of notes are valid threads
pub are_threads : (n : ℕ) (threads : List (List Note)) → AllIn n threads → AreThreads n (map program_of threads)
are_threads n [] all = tt
are_threads n (notes ∷ threads) all = (program_valid n (program_of notes) (accesses_in (events_of notes)) (program_is n notes all.0), are_threads n threads all.1)

pub script_valid : (fuel : ℕ) (list : List Object) (objects : List ℕ) (programs : List (List Command)) → 1 ≤ fuel → fuel ≤ 262144 → length programs * fuel ≤ 262144
    → map (λ object. object.name) list ≡ map name_of objects → length objects ≤ 1024 → ((i : ℕ) → get_or objects i 0 < 65536) → AreDifferent objects
    → 1 ≤ length programs → length programs ≤ 16 → AreThreads (length objects) programs → IsTrue (is_script fuel list programs)
script_valid fuel list objects programs some most all names few fit different threads limit are =
    let many : length list ≡ length objects = sym (length-map list (λ object. object.name)) ∙ (ap (λ (l : List (List ℕ)). length l) names ∙ length-map objects name_of) in
    and_from _ _
    (and_from _ _ (and_from _ _ (and_from _ _ (and_from _ _ (and_from _ _ (and_from _ _
    (le-leb 1 fuel some) (le-leb fuel 262144 most))
    (le-leb (length list) 1024 (omega (arith, many, few))))
    (ap are_distinct names ∙ different_names objects fit different))
    (le-leb 1 (length programs) threads))
    (le-leb (length programs) 16 limit))
    (le-leb (length programs * fuel) 262144 all))
    (subst (λ (n : ℕ). list_all (is_thread n) programs ≡ true) (sym many) (all_threads (length objects) programs are))

-- renamed notes of one more thread
pub all_in_more : (n : ℕ) (threads : List (List Note)) (notes : List Note) → AllIn n threads → AreIn n notes → AllIn n (threads ++ notes ∷ [])
all_in_more n [] notes all are = (are, tt)
all_in_more n (x ∷ threads) notes all are = (all.0, all_in_more n threads notes all.1 are)

pub all_of_step : (objects : List ℕ) (threads : List Notes) (k : ℕ) (d : Notes) → k < length threads → AllOf objects (drop k threads) → AllOf objects (drop (k + 1) threads)
all_of_step objects threads k d lt all = let both = subst (AllOf objects) (drop_step threads k d lt) all in both.1

pub le_times : (n lines : ℕ) → 1 ≤ n → lines ≤ n * lines
le_times zero lines some = absurd (omega (arith, some))
le_times (suc n) lines some = omega arith
