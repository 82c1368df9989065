-- What each thread does in a run tells what it knows after it, and each word of which a step finds something and leaves something: all that was found there and all that was left there add up.
use Rattle.std.proofs.Common.{◌≡◌, ◌≢◌, ℕ, zero, suc, ◌+◌, ◌<◌, ◌≤◌, List, [], ◌∷◌, sym, refl, ap, ◌∙◌, subst, arith}
use mathlib.Core.Logic.{dite}
use native.Mathlib.Decide.{ℕ_discrete}
use Rattle.octet_seats.specs.Runs.{Moves, after_all, steps_by, MayAll}
use Rattle.octet_seats.proofs.lemmas.Runs.{first_own, first_other}

-- numbers of so many threads, added up
abbrev total : (ℕ → ℕ) → ℕ → ℕ
total f zero = 0
total f (suc n) = f n + total f n

total_same : (f g : ℕ → ℕ) (n : ℕ) → ((t : ℕ) → f t ≡ g t) → total f n ≡ total g n
total_same f g zero same = refl
total_same f g (suc n) same = let one = same n in let rest = total_same f g n same in omega arith

total_but : (f g : ℕ → ℕ) (a n : ℕ) → n ≤ a → ((t : ℕ) → t ≢ a → f t ≡ g t) → total f n ≡ total g n
total_but f g a zero le same = refl
total_but f g a (suc n) le same = let one = same n (λ e. omega arith) in let rest = total_but f g a n (omega arith) same in omega arith

total_one : (f g : ℕ → ℕ) (a more n : ℕ) → a < n → f a ≡ more + g a → ((t : ℕ) → t ≢ a → f t ≡ g t) → total f n ≡ more + total g n
total_one f g a more zero lt one same = absurd (omega arith)
total_one f g a more (suc n) lt one same = dite (ℕ_discrete n a)
    (λ e. let here : f n ≡ more + g n = subst (λ (m : ℕ). f m ≡ more + g m) (sym e) one in let rest = total_but f g a n (omega arith) same in omega arith)
    (λ ne. let here = same n ne in let rest = total_one f g a more n (omega arith) one same in omega arith)

sums : (w u v f l rest_f rest_l all_f all_l : ℕ) → u + f ≡ v + l → w + rest_f ≡ u + rest_l → all_f ≡ f + rest_f → all_l ≡ l + rest_l → w + all_f ≡ v + all_l
sums w u v f l rest_f rest_l all_f all_l a b c d = omega arith

cancels : (w u v f g l m : ℕ) → w + f ≡ v + l → u + g ≡ v + m → f ≡ g → l ≡ m → w ≡ u
cancels w u v f g l m a b c d = omega arith

-- what a thread knows of itself in a state, and after a step that it is told of so. What holds of each state that the run comes to, and what lets a step be taken
module _ {S N T P : Type 0} (moves : Moves S N T) (May : N → S → Type 0) (knows : ℕ → S → P) (moved : ℕ → T → P → P) (Good : S → Type 0)
    (keeps : (s : S) (next : N) → Good s → May next s → Good (moves.after next s))
    (mine : (s : S) (next : N) → Good s → May next s → knows (moves.who next) (moves.after next s) ≡ moved (moves.who next) (moves.taken s next) (knows (moves.who next) s))
    (others : (s : S) (next : N) (t : ℕ) → Good s → May next s → t ≢ moves.who next → knows t (moves.after next s) ≡ knows t s) where
  -- after so many steps
  abbrev known_by : ℕ → P → List T → P
  known_by t p [] = p
  known_by t p (taken ∷ more) = known_by t (moved t taken p) more

  -- of one thread the first step of a run is its own, of the others none is
  module _ {A : Type 0} (f : ℕ → P → List T → A) (s : S) (next : N) (run : List N) (good : Good s) (may : May next s) where
    at_stepper : f (moves.who next) (knows (moves.who next) s) (steps_by moves (moves.who next) s (next ∷ run)) ≡ f (moves.who next) (knows (moves.who next) s) (moves.taken s next ∷ steps_by moves (moves.who next) (moves.after next s) run)
    at_stepper = ap (f (moves.who next) (knows (moves.who next) s)) (first_own moves (moves.who next) s next run refl)

    at_other : (t : ℕ) → t ≢ moves.who next → f t (knows t s) (steps_by moves t s (next ∷ run)) ≡ f t (knows t (moves.after next s)) (steps_by moves t (moves.after next s) run)
    at_other t ne = λ i. f t (sym (others s next t good may ne) i) (first_other moves t s next run (λ e. ne (sym e)) i)

  -- what a thread knows is told by its steps
  pub all_known : (s : S) (run : List N) (t : ℕ) → Good s → MayAll moves May s run → knows t (after_all moves s run) ≡ known_by t (knows t s) (steps_by moves t s run)
  all_known s [] t good may = refl
  all_known s (next ∷ run) t good may = let s1 = moves.after next s in
      all_known s1 run t (keeps s next good may.0) may.1 ∙ dite (ℕ_discrete t (moves.who next))
      (λ e. subst (λ (u : ℕ). known_by u (knows u s1) (steps_by moves u s1 run) ≡ known_by u (knows u s) (steps_by moves u s (next ∷ run))) (sym e)
      (ap (λ (p : P). known_by (moves.who next) p (steps_by moves (moves.who next) s1 run)) (mine s next good may.0) ∙ sym (at_stepper known_by s next run good may.0)))
      (λ ne. sym (at_other known_by s next run good may.0 t ne))

  pub same_known : (s : S) (run other : List N) (t : ℕ) → Good s → MayAll moves May s run → MayAll moves May s other → steps_by moves t s run ≡ steps_by moves t s other → knows t (after_all moves s run) ≡ knows t (after_all moves s other)
  same_known s run other t good may also same = all_known s run t good may ∙ (ap (known_by t (knows t s)) same ∙ sym (all_known s other t good also))

  -- numbers of the steps of one thread, added up
  abbrev weigh : (ℕ → T → P → ℕ) → ℕ → P → List T → ℕ
  weigh g t p [] = 0
  weigh g t p (taken ∷ more) = g t taken p + weigh g t (moved t taken p) more

  -- one word, and what a step finds there and leaves, as its thread knows it
  module _ (many : ℕ) (inside : (s : S) (next : N) → Good s → May next s → moves.who next < many) (word : S → ℕ) (found left : ℕ → T → P → ℕ)
      (one : (s : S) (next : N) → Good s → May next s → word (moves.after next s) + found (moves.who next) (moves.taken s next) (knows (moves.who next) s) ≡ word s + left (moves.who next) (moves.taken s next) (knows (moves.who next) s)) where
    abbrev all_of : (ℕ → T → P → ℕ) → S → List N → ℕ
    all_of g s run = total (λ t. weigh g t (knows t s) (steps_by moves t s run)) many

    first_of : (g : ℕ → T → P → ℕ) (s : S) (next : N) (run : List N) → Good s → May next s
        → all_of g s (next ∷ run) ≡ g (moves.who next) (moves.taken s next) (knows (moves.who next) s) + all_of g (moves.after next s) run
    first_of g s next run good may = let s1 = moves.after next s in let a = moves.who next in
        total_one (λ t. weigh g t (knows t s) (steps_by moves t s (next ∷ run))) (λ t. weigh g t (knows t s1) (steps_by moves t s1 run)) a
        (g a (moves.taken s next) (knows a s)) many (inside s next good may)
        (at_stepper (weigh g) s next run good may ∙ ap (λ (p : P). g a (moves.taken s next) (knows a s) + weigh g a p (steps_by moves a s1 run)) (sym (mine s next good may)))
        (at_other (weigh g) s next run good may)

    adds_up : (s : S) (run : List N) → Good s → MayAll moves May s run → word (after_all moves s run) + all_of found s run ≡ word s + all_of left s run
    adds_up s [] good may = refl
    adds_up s (next ∷ run) good may = let s1 = moves.after next s in let a = moves.who next in
        sums (word (after_all moves s1 run)) (word s1) (word s) (found a (moves.taken s next) (knows a s)) (left a (moves.taken s next) (knows a s))
        (all_of found s1 run) (all_of left s1 run) (all_of found s (next ∷ run)) (all_of left s (next ∷ run))
        (one s next good may.0) (adds_up s1 run (keeps s next good may.0) may.1) (first_of found s next run good may.0) (first_of left s next run good may.0)

    -- so two runs of the same steps leave the same
    pub same_word : (s : S) (run other : List N) → Good s → MayAll moves May s run → MayAll moves May s other → ((t : ℕ) → steps_by moves t s run ≡ steps_by moves t s other) → word (after_all moves s run) ≡ word (after_all moves s other)
    same_word s run other good may also same =
        cancels (word (after_all moves s run)) (word (after_all moves s other)) (word s) (all_of found s run) (all_of found s other) (all_of left s run) (all_of left s other) (adds_up s run good may) (adds_up s other good also)
        (total_same (λ t. weigh found t (knows t s) (steps_by moves t s run)) (λ t. weigh found t (knows t s) (steps_by moves t s other)) many (λ t. ap (weigh found t (knows t s)) (same t)))
        (total_same (λ t. weigh left t (knows t s) (steps_by moves t s run)) (λ t. weigh left t (knows t s) (steps_by moves t s other)) many (λ t. ap (weigh left t (knows t s)) (same t)))
