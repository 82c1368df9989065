-- A run grows by a step, and each step that a thread took is one of the run.
use Rattle.std.proofs.Common.{◌≡◌, ◌≢◌, ℕ, Bool, List, [], ◌∷◌, ◌++◌, length, get_or, sym, refl, ap, ◌∙◌, arith, eq-eqb, append-nil, append_assoc, length-append}
use Rattle.std.specs.Prelude.{◌==◌, if◌then◌else◌}
use mathlib.Core.Logic.{dite}
use native.Mathlib.Decide.{ℕ_discrete}
use Rattle.std.proofs.lemmas.Bool.{ne_eqb}
use Rattle.octet_seats.specs.Runs.{Moves, after_all, steps_by, MayAll, IsStepBy}

module _ {S N T : Type 0} (moves : Moves S N T) where
  -- a step at the end of a run
  pub after_more : (s : S) (run : List N) (next : N) → after_all moves s (run ++ next ∷ []) ≡ moves.after next (after_all moves s run)
  after_more s [] next = refl
  after_more s (first ∷ run) next = after_more (moves.after first s) run next

  abbrev own : ℕ → S → N → List T
  own t s next = if moves.who next == t then moves.taken s next ∷ [] else []

  own_more : (t : ℕ) (s : S) (run : List N) (next : N) → steps_by moves t s (run ++ next ∷ []) ≡ steps_by moves t s run ++ own t (after_all moves s run) next
  own_more t s [] next = append-nil (own t s next)
  own_more t s (first ∷ run) next = ap (λ (l : List T). own t s first ++ l) (own_more t (moves.after first s) run next)
      ∙ sym (append_assoc (own t s first) (steps_by moves t (moves.after first s) run) (own t (after_all moves (moves.after first s) run) next))

  -- its thread takes one step more, and the others none
  pub stepper_more : (t : ℕ) (s : S) (run : List N) (next : N) → moves.who next ≡ t → steps_by moves t s (run ++ next ∷ []) ≡ steps_by moves t s run ++ moves.taken (after_all moves s run) next ∷ []
  stepper_more t s run next is = own_more t s run next
      ∙ ap (λ (b : Bool). steps_by moves t s run ++ (if b then moves.taken (after_all moves s run) next ∷ [] else [])) (eq-eqb (moves.who next) t is)

  pub other_more : (u : ℕ) (s : S) (run : List N) (next : N) → u ≢ moves.who next → steps_by moves u s (run ++ next ∷ []) ≡ steps_by moves u s run
  other_more u s run next ne = own_more u s run next
      ∙ (ap (λ (b : Bool). steps_by moves u s run ++ (if b then moves.taken (after_all moves s run) next ∷ [] else [])) (ne_eqb (moves.who next) u (λ e. ne (sym e))) ∙ append-nil (steps_by moves u s run))

  -- the first step of a run is one of its thread, and none of the others
  pub first_own : (t : ℕ) (s : S) (next : N) (run : List N) → moves.who next ≡ t → steps_by moves t s (next ∷ run) ≡ moves.taken s next ∷ steps_by moves t (moves.after next s) run
  first_own t s next run is = ap (λ (b : Bool). (if b then moves.taken s next ∷ [] else []) ++ steps_by moves t (moves.after next s) run) (eq-eqb (moves.who next) t is)

  pub first_other : (t : ℕ) (s : S) (next : N) (run : List N) → moves.who next ≢ t → steps_by moves t s (next ∷ run) ≡ steps_by moves t (moves.after next s) run
  first_other t s next run ne = ap (λ (b : Bool). (if b then moves.taken s next ∷ [] else []) ++ steps_by moves t (moves.after next s) run) (ne_eqb (moves.who next) t ne)

  module _ (May : N → S → Type 0) where
    pub may_more : (s : S) (run : List N) (next : N) → MayAll moves May s run → May next (after_all moves s run) → MayAll moves May s (run ++ next ∷ [])
    may_more s [] next is may = (may, tt)
    may_more s (first ∷ run) next is may = (is.0, may_more (moves.after first s) run next is.1 may)

    abbrev rest_of : List T → List T
    rest_of [] = []
    rest_of (x ∷ xs) = xs

    pub steps_are_of_run : (s : S) (run : List N) (thread : ℕ) (first more : List T) (taken : T) → MayAll moves May s run → steps_by moves thread s run ≡ first ++ taken ∷ more → IsStepBy moves May s run thread first taken
    steps_are_of_run s [] thread first more taken is e = absurd (let n = ap (λ (l : List T). length l) e in let m = length-append first (taken ∷ more) in omega arith)
    steps_are_of_run s (next ∷ run) thread first more taken is e = dite (ℕ_discrete (moves.who next) thread)
        (λ same. by_next same (λ xs f. steps_are_of_run (moves.after next s) run thread xs more taken is.1 f) first (sym (first_own thread s next run same) ∙ e))
        (λ ne. let it = steps_are_of_run (moves.after next s) run thread first more taken is.1 (sym (first_other thread s next run ne) ∙ e) in record {
          before = next ∷ it.before;
          step = it.step;
          after = it.after;
          parts = ap (λ (l : List N). next ∷ l) it.parts;
          by = it.by;
          earlier = first_other thread s next it.before ne ∙ it.earlier;
          may = it.may;
          is = it.is;
        })
      where
        by_next : moves.who next ≡ thread
            → ((xs : List T) → steps_by moves thread (moves.after next s) run ≡ xs ++ taken ∷ more → IsStepBy moves May (moves.after next s) run thread xs taken)
            → (first : List T) → moves.taken s next ∷ steps_by moves thread (moves.after next s) run ≡ first ++ taken ∷ more → IsStepBy moves May s (next ∷ run) thread first taken
        by_next same later [] e = record {
          before = [];
          step = next;
          after = run;
          parts = refl;
          by = same;
          earlier = refl;
          may = is.0;
          is = sym (ap (λ (l : List T). get_or l 0 taken) e);
        }
        by_next same later (x ∷ xs) e =
            let is_it : moves.taken s next ≡ x = ap (λ (l : List T). get_or l 0 x) e in
            let it = later xs (ap rest_of e) in record {
              before = next ∷ it.before;
              step = it.step;
              after = it.after;
              parts = ap (λ (l : List N). next ∷ l) it.parts;
              by = it.by;
              earlier = first_own thread s next it.before same ∙ λ i. is_it i ∷ it.earlier i;
              may = it.may;
              is = it.is;
            }
