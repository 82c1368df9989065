-- What is noted of a thread of a session.
use Rattle.std.proofs.Common.{◌≡◌, List, [], ◌∷◌, ◌++◌, map, ℕ, Option, Some, None, IfSome, refl, sym, ap, ◌∙◌, subst, append-nil}
use Rattle.octet_model.specs.declared.event.Event.{Event}
use Rattle.octet_model.specs.declared.event.Event.TheVariants.{Marked}
use Rattle.octet_model.specs.declared.event.Mark.{Mark}
use Rattle.octet_recorder.specs.declared.access.Access.{Access}
use Rattle.octet_recorder.specs.declared.access.Access.TheVariants.{Read, Write, Update}
use Rattle.octet_rerun.specs.Events.{event_of, found_in}
use Rattle.octet_session.specs.Standing.{GainsMarks}
use Rattle.octet_session.specs.Asking.{Makes}
use Rattle.octet_window.specs.Ordering.{accesses_in}
use Rattle.octet_tail.specs.declared.tail.Tail.{Tail}
use Rattle.octet_tail.specs.Tails.{IsTail}
use Rattle.octet_tail.proofs.Merged.{accesses_join}

no_access : (marks : List Mark) → accesses_in (map (λ mark. Marked mark) marks) ≡ []
no_access [] = refl
no_access (mark ∷ marks) = no_access marks

marks_add_none : (before : List Event) (marks : List Mark) → accesses_in (before ++ map (λ mark. Marked mark) marks) ≡ accesses_in before
marks_add_none before marks = accesses_join before (map (λ mark. Marked mark) marks) ∙ (ap (λ (l : List Event). accesses_in before ++ l) (no_access marks) ∙ append-nil (accesses_in before))

-- where a thread has made marks alone, the same is noted
pub still_noted : (tail : Option Tail) (before after : List Event) → GainsMarks before after → IfSome tail (IsTail (accesses_in before)) → IfSome tail (IsTail (accesses_in after))
still_noted tail before after gains is =
    subst (λ (l : List Event). IfSome tail (IsTail l)) (sym (ap (λ (l : List Event). accesses_in l) gains.grown ∙ marks_add_none before gains.marks)) is

told_event : (wanted : Access) (found value : ℕ) → value ≡ found_in (event_of wanted found) → event_of wanted found ≡ event_of wanted value
told_event (Read object) found value is = ap (λ (n : ℕ). event_of (Read object) n) (sym is)
told_event (Write object written) found value is = refl
told_event (Update object change) found value is = ap (λ (n : ℕ). event_of (Update object change) n) (sym is)

one_access : (wanted : Access) (value : ℕ) → accesses_in (event_of wanted value ∷ []) ≡ event_of wanted value ∷ []
one_access (Read object) value = refl
one_access (Write object written) value = refl
one_access (Update object change) value = refl

-- where it has made an access, the access is noted
pub more_noted : (tail : Option Tail) (wanted : Access) (value : ℕ) (before after : List Event) → Makes wanted before value after
    → IfSome tail (IsTail (accesses_in before ++ event_of wanted value ∷ [])) → IfSome tail (IsTail (accesses_in after))
more_noted tail wanted value before after makes is = subst (λ (l : List Event). IfSome tail (IsTail l)) (sym grown) is
  where
    marks : List Event
    marks = map (λ mark. Marked mark) makes.marks

    grown : accesses_in after ≡ accesses_in before ++ event_of wanted value ∷ []
    grown = ap (λ (l : List Event). accesses_in l) makes.grown
        ∙ (accesses_join before (marks ++ event_of wanted makes.found ∷ [])
        ∙ ap (λ (l : List Event). accesses_in before ++ l) (accesses_join marks (event_of wanted makes.found ∷ [])
        ∙ (ap (λ (l : List Event). l ++ accesses_in (event_of wanted makes.found ∷ [])) (no_access makes.marks)
        ∙ (one_access wanted makes.found ∙ ap (λ (e : Event). e ∷ []) (told_event wanted makes.found value makes.told)))))

pub some_noted : (tail : Option Tail) (accesses : List Event) → IfSome tail (IsTail accesses) → IfSome tail (λ t. (all : List Event) × IsTail all t)
some_noted None accesses is = tt
some_noted (Some tail) accesses is = (accesses, is)
