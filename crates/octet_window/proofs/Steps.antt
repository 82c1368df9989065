-- Threads that make what is noted of them, step by step.
use Rattle.std.proofs.Common.{◌≡◌, ◌≢◌, ℕ, zero, suc, ◌+◌, ◌<◌, ◌==◌, if◌then◌else◌, Bool, true, false, List, [], ◌∷◌, ◌++◌, length, take, get_or, Some, None, refl, sym, ap, ◌∙◌, arith, append-nil}
use Rattle.std.proofs.Math.Seq.{take-suc}
use Rattle.std.proofs.lemmas.Bool.{eq-eqb, eqb-true}
use Rattle.std.proofs.lemmas.List.{map-append}
use Rattle.octet_model.specs.declared.event.Event.{Event}
use Rattle.octet_model.specs.declared.event.Event.TheVariants.{Read, Write, Update, Marked}
use Rattle.octet_model.specs.HappensBefore.{object_of}
use Rattle.octet_model.specs.Machine.{journal_of, heap_after}
use Rattle.octet_model.specs.Plays.{operation_of}
use Rattle.octet_window.specs.declared.course.Step.{Step}
use Rattle.octet_window.specs.declared.notes.Note.{Note}
use Rattle.octet_window.specs.Courses.{events_by, notes_of, AreSteps}
use Rattle.octet_window.specs.Noting.{events_of, IsEventIn, AllIn, AreIn}
use Rattle.octet_window.specs.Ordering.{Parts, MakesAccess, accesses_in}
use Rattle.octet_window.specs.Playing.{AddsEvent}
use Rattle.octet_window.proofs.Accessing.{one_access}

pub object_in : (n object : ℕ) (e : Event) → IsEventIn n e → object_of e ≡ Some object → object < n
object_in n object (Read o value) is of = let same : o ≡ object = cc in omega (arith, is, same)
object_in n object (Write o value) is of = let same : o ≡ object = cc in omega (arith, is.0, same)
object_in n object (Update o before after) is of = let same : o ≡ object = cc in omega (arith, is.0, same)
object_in n object (Marked mark) is of = absurd cc

-- an event at a place
at_place : (n : ℕ) (notes : List Note) (k : ℕ) (d : Note) → k < length notes → AreIn n notes → IsEventIn n (get_or notes k d).event
at_place n [] k d lt are = absurd (omega (arith, lt))
at_place n (note ∷ notes) zero d lt are = are.0
at_place n (note ∷ notes) (suc k) d lt are = at_place n notes k d (omega (arith, lt)) are.1

pub event_in : (n : ℕ) (threads : List (List Note)) (t k : ℕ) (d : Note) → k < length (notes_of threads t) → AllIn n threads → IsEventIn n (get_or (notes_of threads t) k d).event
event_in n [] t k d lt all = absurd (omega (arith, lt))
event_in n (notes ∷ threads) zero k d lt all = at_place n notes k d lt all.0
event_in n (notes ∷ threads) (suc t) k d lt all = event_in n threads t k d lt all.1

pub adds_access : (t object : ℕ) (e : Event) (run next : Parts) → object_of e ≡ Some object → MakesAccess t e run next → AddsEvent t e run next
adds_access t object e run next of m = record {
  starts = m.starts;
  heap = m.heap;
  many = m.many;
  own = m.own ∙ ap (λ (l : List Event). accesses_in (journal_of run.journals t) ++ l) (sym (one_access e object of));
  others = m.others;
}

no_access : (e : Event) → object_of e ≡ None → accesses_in (e ∷ []) ≡ []
no_access (Read o value) none = absurd cc
no_access (Write o value) none = absurd cc
no_access (Update o before after) none = absurd cc
no_access (Marked mark) none = refl

no_change : (e : Event) (heap : List ℕ) → object_of e ≡ None → heap ≡ heap_after (operation_of e) heap
no_change (Read o value) heap none = absurd cc
no_change (Write o value) heap none = absurd cc
no_change (Update o before after) heap none = absurd cc
no_change (Marked mark) heap none = refl

pub adds_mark : (t : ℕ) (e : Event) (run : Parts) → object_of e ≡ None → AddsEvent t e run run
adds_mark t e run none = record {
  starts = refl;
  heap = no_change e run.heap none;
  many = refl;
  own = sym (ap (λ (l : List Event). accesses_in (journal_of run.journals t) ++ l) (no_access e none) ∙ append-nil (accesses_in (journal_of run.journals t)));
  others = λ other apart. refl;
}

pub take_step : {X : Type 0} (xs : List X) (k : ℕ) (d : X) → k < length xs → take (k + 1) xs ≡ take k xs ++ get_or xs k d ∷ []
take_step xs k d lt = let next : k + 1 ≡ suc k = omega arith in ap (λ (n : ℕ). take n xs) next ∙ take-suc xs k d lt

pub more_events : (notes : List Note) (k : ℕ) (d : Note) → k < length notes → events_of (take (k + 1) notes) ≡ events_of (take k notes) ++ (get_or notes k d).event ∷ []
more_events notes k d lt =
    ap events_of (take_step notes k d lt) ∙ map-append (λ (note : Note). note.event) (take k notes) (get_or notes k d ∷ [])

-- an item of a list that is there, whatever stands for one that is not
pub read_is : (xs : List ℕ) (i x : ℕ) → i < length xs → x ≡ get_or xs i x → get_or xs i 0 ≡ x
read_is [] i x lt is = absurd (omega (arith, lt))
read_is (y ∷ xs) zero x lt is = sym is
read_is (y ∷ xs) (suc i) x lt is = read_is xs i x (omega (arith, lt)) is

-- the events of a thread with one step more
if_more : {X : Type 0} (b : Bool) (x e : X) (l : List X) → (if b then x ∷ (l ++ e ∷ []) else l ++ e ∷ []) ≡ (if b then x ∷ l else l) ++ e ∷ []
if_more true x e l = refl
if_more false x e l = refl

pub own_step : (steps : List Step) (t : ℕ) (e : Event) → events_by t (steps ++ record { thread = t; event = e } ∷ []) ≡ events_by t steps ++ e ∷ []
own_step [] t e = ap (λ (b : Bool). if b then e ∷ [] else []) (eq-eqb t t refl)
own_step (step ∷ steps) t e =
    ap (λ (l : List Event). if step.thread == t then step.event ∷ l else l) (own_step steps t e) ∙ if_more (step.thread == t) step.event e (events_by t steps)

pub other_step : (steps : List Step) (t u : ℕ) (e : Event) → (u ≢ t) → events_by u (steps ++ record { thread = t; event = e } ∷ []) ≡ events_by u steps
other_step [] t u e apart = go (t == u) refl
  where
    go : (b : Bool) → (t == u) ≡ b → (if b then e ∷ [] else []) ≡ []
    go true is = absurd (apart (sym (eqb-true t u is)))
    go false is = refl
other_step (step ∷ steps) t u e apart = ap (λ (l : List Event). if step.thread == u then step.event ∷ l else l) (other_step steps t u e apart)

pub steps_more : (steps : List Step) (n m : ℕ) (step : Step) → AreSteps n m steps → step.thread < m → IsEventIn n step.event → AreSteps n m (steps ++ step ∷ [])
steps_more [] n m step are there inside = (there, inside, tt)
steps_more (first ∷ steps) n m step are there inside = (are.0, are.1, steps_more steps n m step are.2 there inside)
