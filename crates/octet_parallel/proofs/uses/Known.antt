-- What is known of the commands that were taken in, and when the threads are apart by it.
use Rattle.std.proofs.Common.{◌≡◌, ◌≢◌, ◌<◌, ◌+◌, ◌∙◌, ◌&&◌, ℕ, zero, suc, inl, inr, refl, sym, ap, subst}
use Rattle.std.proofs.Common.{Bool, true, false, IsFalse, Option, Some}
use Rattle.std.proofs.Common.{List, [], length, set, replicate, slice_get, get_or, All, below_more}
use Rattle.std.proofs.lemmas.Bool.{cases_eq, cases_lt}
use Rattle.std.proofs.lemmas.List.{get_or_default, get_or_past, get_or-set_same, get_or-set_other}
use Rattle.std.proofs.lemmas.Option.{slice_get_within}
use Rattle.octet_model.specs.declared.command.Access.{Access}
use Rattle.octet_model.specs.declared.command.Command.{Command}
use Rattle.octet_model.specs.declared.command.Command.TheVariants.{Read, Write, Bump}
use Rattle.octet_model.specs.declared.script.Script.{Script}
use Rattle.octet_model.specs.Thread.{access_of}
use Rattle.octet_model.specs.Validity.{HasObject}
use Rattle.octet_parallel.specs.declared.apart.Use.{Use}
use Rattle.octet_parallel.specs.Apart.{AreApart, Names, Writes}
use Rattle.octet_parallel.specs.Apart.{AddsUse, AreSeenIn, AreTwoNaming, Covers, IsSeenIn, IsUnshared, use_of}
use Rattle.octet_parallel.specs.Apart.{Knows, KnowsThreads, TakesCommand, TakesCommands}

-- of the object that was set holds what holds of the new use, of each other one what held
at_set : (P : ℕ → Use → Type 0) (uses : List Use) (object : ℕ) (new : Use) → object < length uses → P object new
    → ((other : ℕ) → other ≢ object → P other (use_of uses other))
    → (other : ℕ) → P other (use_of (set uses object new) other)
at_set P uses object new lt here others other = elim (cases_eq other object) [
  | inl is ↦ subst (λ (k : ℕ). P k (use_of (set uses object new) k)) (sym is) (rw get_or-set_same here)
  | inr differ ↦ rw get_or-set_other (others other differ)
]

-- the object of a valid command's access is there
pub object_there : (objects : ℕ) (command : Command) (access : Access) → HasObject objects command → access_of command ≡ Some access
    → access.object < objects
object_there objects (Read to object) access there is = subst (λ (n : ℕ). n < objects) (let same : object ≡ access.object = cc in same) there
object_there objects (Write object from) access there is = subst (λ (n : ℕ). n < objects) (let same : object ≡ access.object = cc in same) there
object_there objects (Bump object from) access there is = subst (λ (n : ℕ). n < objects) (let same : object ≡ access.object = cc in same) there
object_there objects other access there is = absurd cc

-- an access was noted
module _ (uses : List Use) (thread : ℕ) (command : Command) (access : Access) (new : Use)
    (lt : access.object < length uses) (accesses : access_of command ≡ Some access) where
  with_use : AddsUse (use_of uses access.object) thread access.writes new → TakesCommand uses thread command (set uses access.object new)
  with_use adds = record {
    seen = λ threads place stands seen.
        let names : Names (get_or threads thread []) access.object =
        record { place = place; command = command; access = access; stands = stands; accesses = accesses; named = refl } in
        at_set (IsSeenIn threads) uses access.object new lt
        (adds.seen threads access.object names (λ writes. record { names = names; writer = writes }) (seen access.object))
        (λ other differ. seen other);
    kept = λ t c known other is. at_set (λ o kept. other.object ≡ o → Covers kept t other.writes) uses access.object new lt
        (λ same. adds.kept t other.writes (subst (λ (o : ℕ). Covers (use_of uses o) t other.writes) same (known other is)))
        (λ o differ same. subst (λ (o : ℕ). Covers (use_of uses o) t other.writes) same (known other is))
        other.object refl;
    added = λ same is.
        let one : access ≡ same = cc in
        subst (λ (a : Access). Covers (use_of (set uses access.object new) a.object) thread a.writes) one
        (at_set (λ o kept. o ≡ access.object → Covers kept thread access.writes) uses access.object new lt
        (λ here. adds.added)
        (λ other differ here. absurd (differ here))
        access.object refl);
  }

  pub noted : (d : Use) → AddsUse (get_or uses access.object d) thread access.writes new
      → TakesCommand uses thread command (set uses access.object new)
  noted d adds =
      with_use (subst (λ (kept : Use). AddsUse kept thread access.writes new) (sym (get_or_default uses access.object _ d lt)) adds)

-- one command more
pub one_command : (start : List Use) (thread : ℕ) (commands : List Command) (upto : ℕ) (command : Command)
    (before after : List Use)
    → slice_get commands upto ≡ Some command → TakesCommands start thread commands upto before
    → TakesCommand before thread command after → TakesCommands start thread commands (upto + 1) after
one_command start thread commands upto command before after stands so_far one = record {
  seen = λ threads is start.
      one.seen threads upto (ap (λ (xs : List Command). slice_get xs upto) is ∙ stands) (so_far.seen threads is start);
  kept = λ t c known. one.kept t c (so_far.kept t c known);
  added = λ place c below at.
      below_more (λ (k : ℕ). (d : Command) → slice_get commands k ≡ Some d → Knows after thread d) upto
      (λ k lt d found. one.kept thread d (so_far.added k d lt found))
      (λ d found. let same : command ≡ d = cc in subst (λ (x : Command). Knows after thread x) same one.added)
      place below c at;
}

-- one thread more
module _ (threads : List (List Command)) (upto : ℕ) (commands d : List Command) (before after : List Use)
    (lt : upto < length threads) (is : commands ≡ get_or threads upto d) where
  here : commands ≡ get_or threads upto []
  here = is ∙ sym (get_or_default threads upto [] d lt)

  pub known_with : KnowsThreads before threads upto → TakesCommands before upto commands (length commands) after
      → KnowsThreads after threads (upto + 1)
  known_with so_far one thread place command below at =
      below_more (λ (t : ℕ). (k : ℕ) (x : Command) → slice_get (get_or threads t []) k ≡ Some x → Knows after t x) upto
      (λ t less k x found. one.kept t x (so_far t k x less found))
      (λ k x found.
      let stands : slice_get commands k ≡ Some x = ap (λ (xs : List Command). slice_get xs k) here ∙ found in
      one.added k x (slice_get_within commands k x stands) stands)
      thread below place command at

  pub seen_with : (start : List Use) → (AreSeenIn threads start → AreSeenIn threads before)
      → TakesCommands before upto commands (length commands) after → AreSeenIn threads start → AreSeenIn threads after
  seen_with first so_far one start = one.seen threads (sym here) (so_far start)

-- a thread with a command is there
within : (threads : List (List Command)) (thread place : ℕ) (command : Command)
    → slice_get (get_or threads thread []) place ≡ Some command → thread < length threads
within threads thread place command at = elim (cases_lt thread (length threads)) [
  | inl lt ↦ lt
  | inr past ↦
      absurd (let none = ap (λ (xs : List Command). slice_get xs place) (get_or_past threads thread [] past) in cc)
]

-- an object that one thread writes and another one names is shared
shared : (written others : Bool) (first : Option ℕ) (t u : ℕ) → written ≡ true → (others ≡ false → first ≡ Some t)
    → (others ≡ false → first ≡ Some u) → t ≢ u → IsFalse (written && others) → ⊥
shared false others first t u is_written by_one by_other differ none = absurd cc
shared true true first t u is_written by_one by_other differ none = absurd cc
shared true false first t u is_written by_one by_other differ none =
    differ (let one = by_one refl in let other = by_other refl in cc)

unshared : (uses : List Use) → All IsUnshared uses → (object : ℕ) → IsUnshared (use_of uses object)
unshared uses all object = elim (cases_lt object (length uses)) [
  | inl lt ↦ all object _ lt
  | inr past ↦ rw get_or_past refl
]

-- where all commands are known and no object is shared, the threads are apart
pub apart_where_unshared : (script : Script) (uses : List Use)
    → KnowsThreads uses script.threads (length script.threads)
    → All IsUnshared uses → AreApart script
apart_where_unshared script uses known all thread other object differ writes names =
    let threads = script.threads in
    let is_one = within threads thread writes.names.place writes.names.command writes.names.stands in
    let is_other = within threads other names.place names.command names.stands in
    let one = subst (λ (o : ℕ). Covers (use_of uses o) thread writes.names.access.writes) writes.names.named
    (known thread writes.names.place writes.names.command is_one writes.names.stands writes.names.access writes.names.accesses) in
    let two = subst (λ (o : ℕ). Covers (use_of uses o) other names.access.writes) names.named
    (known other names.place names.command is_other names.stands names.access names.accesses) in
    let kept = use_of uses object in
    shared kept.is_written kept.by_others kept.first thread other (one.written writes.writer) one.named two.named differ
    (unshared uses all object)

-- at the start nothing is kept
unused_at : (n object : ℕ) → use_of (replicate n (use_of [] 0)) object ≡ use_of [] 0
unused_at zero object = refl
unused_at (suc n) zero = refl
unused_at (suc n) (suc object) = unused_at n object

pub seen_at_start : (threads : List (List Command)) (n : ℕ) → AreSeenIn threads (replicate n (use_of [] 0))
seen_at_start threads n object =
    rw (unused_at n object)
    (record { named = λ thread first. absurd cc; by_two = λ others. absurd cc; written = λ writes. absurd cc })

-- where the threads are apart, no object is shared
module _ (script : Script) (object : ℕ) (apart : AreApart script) where
  unshared_there : (written others : Bool)
      → (written ≡ true → (thread : ℕ) × Writes (get_or script.threads thread []) object)
      → (others ≡ true → AreTwoNaming script.threads object) → IsFalse (written && others)
  unshared_there false others by_one by_two = refl
  unshared_there true false by_one by_two = refl
  unshared_there true true by_one by_two =
      let writer = by_one refl in
      let two = by_two refl in
      absurd (elim (cases_eq writer.0 two.one) [
        | inl is ↦ apart writer.0 two.other object (λ same. two.differ (sym is ∙ same)) writer.1 two.by_other
        | inr not ↦ apart writer.0 two.one object not writer.1 two.by_one
      ])

pub unshared_where_apart : (script : Script) (uses : List Use) → AreSeenIn script.threads uses → AreApart script
    → All IsUnshared uses
unshared_where_apart script uses seen apart object d lt =
    let kept = use_of uses object in
    let seen = seen object in
    subst IsUnshared (get_or_default uses object _ d lt)
    (unshared_there script object apart kept.is_written kept.by_others seen.written seen.by_two)
