-- What a journal gains adds up.
use Rattle.std.proofs.Common.{◌≡◌, ◌∙◌, ℕ, ◌+◌, Bool, List, ◌∷◌, [], ◌++◌, map, Option, Result, Ok, Err, sym, ap, subst, append_assoc, append-nil}
use Rattle.std.proofs.lemmas.List.{map-append}
use Rattle.std.specs.Option.{option_map}
use Rattle.octet_model.specs.declared.event.Event.{Event}
use Rattle.octet_model.specs.declared.event.Event.TheVariants.{Marked}
use Rattle.octet_model.specs.declared.event.Mark.{Mark}
use Rattle.octet_recorder.specs.declared.access.Access.{Access}
use Rattle.octet_rerun.specs.Events.{event_of}
use Rattle.octet_session.specs.declared.not_made.NotMade.{NotMade}
use Rattle.octet_session.specs.Asking.{Makes, Gains, region_after, lines_taken, HasCause, Asks}
use Rattle.octet_session.specs.Standing.{Standing, GainsMarks}

marks_then : (v u : List Event) (before : GainsMarks v u) (marks : List Mark) (later : List Event)
    → u ++ (map (λ mark. Marked mark) marks ++ later) ≡ v ++ (map (λ mark. Marked mark) (before.marks ++ marks) ++ later)
marks_then v u before marks later =
    ap (λ (l : List Event). l ++ (map (λ mark. Marked mark) marks ++ later)) before.grown
    ∙ (append_assoc v (map (λ mark. Marked mark) before.marks) (map (λ mark. Marked mark) marks ++ later)
    ∙ ap (λ (l : List Event). v ++ l)
    (sym (append_assoc (map (λ mark. Marked mark) before.marks) (map (λ mark. Marked mark) marks) later)
    ∙ ap (λ (l : List Event). l ++ later) (sym (map-append (λ (mark : Mark). Marked mark) before.marks marks))))

-- marks, and then marks
pub gains_more : (v u w : List Event) → GainsMarks v u → GainsMarks u w → GainsMarks v w
gains_more v u w before after = record {
  marks = before.marks ++ after.marks;
  grown =
      after.grown
      ∙ (ap (λ (l : List Event). u ++ l) (sym (append-nil (map (λ mark. Marked mark) after.marks)))
      ∙ (marks_then v u before after.marks []
      ∙ ap (λ (l : List Event). v ++ l) (append-nil (map (λ mark. Marked mark) (before.marks ++ after.marks)))));
}

-- marks, and then an access
pub makes_after : (wanted : Access) (v u : List Event) (value : ℕ) (w : List Event) → GainsMarks v u → Makes wanted u value w → Makes wanted v value w
makes_after wanted v u value w before made = record {
  marks = before.marks ++ made.marks;
  found = made.found;
  grown = made.grown ∙ marks_then v u before made.marks (event_of wanted made.found ∷ []);
  told = made.told;
}

-- what an answer adds to marks
gains_after : {H : Type 0} (wanted : Access) (v u : List Event) (answer : Result ℕ (NotMade H)) (w : List Event) → GainsMarks v u → Gains wanted u answer w → Gains wanted v answer w
gains_after wanted v u (Ok value) w before gained = makes_after wanted v u value w before gained
gains_after wanted v u (Err why) w before gained = gains_more v u w before gained

-- an answer after marks is one to the thread as it stood before them
pub asked_after : {H : Type 0} (wanted : Access) (v u : Standing) (answer : Result ℕ (NotMade H)) (w : Standing) → u.number ≡ v.number → GainsMarks v.journal u.journal → u.region ≡ v.region → u.left ≡ v.left
    → Asks wanted u answer w → Asks wanted v answer w
asked_after wanted v u answer w number journal region left asks = record {
  number = asks.number ∙ number;
  journal = gains_after wanted v.journal u.journal answer w.journal journal asks.journal;
  begun = asks.begun;
  region = asks.region ∙ ap (λ (r : Bool). region_after r answer) region;
  left = ap (λ (r : Bool). option_map (λ lines. lines + lines_taken wanted r answer) w.left) (sym region) ∙ (asks.left ∙ left);
  cause = subst (λ (n : Option ℕ). HasCause n answer) left asks.cause;
}
