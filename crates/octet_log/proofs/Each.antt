-- Things read one after the other are what was written, and what was written is read again.
use Rattle.std.proofs.Common.{◌≡◌, ℕ, zero, suc, List, [], ◌∷◌, ◌++◌, length, Result, Ok, refl, ap, subst, ◌∙◌, append_assoc, ◌+◌, ◌-◌, ◌<◌, Err, arith}
use Rattle.std.specs.List.{flat_map}
use Rattle.std.proofs.lemmas.List.Concat.{flat_map-cons}
use Rattle.octet_log.specs.declared.cause.LogCause.{LogCause}
use Rattle.octet_log.specs.Judging.{◌>>=◌, each_at}
use Rattle.octet_log.specs.Inputs.{IsInput}
use Rattle.octet_log.proofs.Fields.{bind_ok, ok_is, Takes, Takes-then}

-- each is good at the state that those before it lead to
abbrev pub AllGood : {A S : Type 0} → (S → A → Type 0) → (S → A → S) → S → List A → Type 0
AllGood good next state [] = Unit {0}
AllGood good next state (x ∷ xs) = good state x × AllGood good next (next state x) xs

module _ {A S : Type 0} (read : S → List ℕ → Result (A × List ℕ) LogCause) (next : S → A → S) (spell : A → List ℕ) (good : S → A → Type 0) where
  pub each_takes : (one : (state : S) (bytes : List ℕ) (x : A × List ℕ) → IsInput bytes → read state bytes ≡ Ok x → Takes bytes (spell x.0) x.1 × good state x.0)
      (count : ℕ) (state : S) (bytes : List ℕ) (x : List A × List ℕ) → IsInput bytes → each_at count read next state bytes ≡ Ok x → Takes bytes (flat_map spell x.0) x.1 × (length x.0 ≡ count) × AllGood good next state x.0
  unfolding each_at
  each_takes one zero state bytes x is e =
      subst (λ (y : List A × List ℕ). Takes bytes (flat_map spell y.0) y.1 × (length y.0 ≡ 0) × AllGood good next state y.0) (ok_is ([], bytes) x e) (record { parts = refl; rest_is = is }, refl, tt)
  each_takes one (suc count) state bytes x is e =
      let a = bind_ok (read state bytes) (λ first. each_at count read next (next state first.0) first.1 >>= λ others. Ok (first.0 ∷ others.0, others.1)) x e in
      let b = bind_ok (each_at count read next (next state a.0.0) a.0.1) (λ others. Ok (a.0.0 ∷ others.0, others.1)) x a.2 in
      let first = one state bytes a.0 is a.1 in
      let second = each_takes one count (next state a.0.0) a.0.1 b.0 first.0.rest_is b.1 in
      let both = Takes-then bytes (spell a.0.0) a.0.1 (flat_map spell b.0.0) b.0.1 first.0 second.0 in
      let made : List A × List ℕ = (a.0.0 ∷ b.0.0, b.0.1) in
      subst (λ (y : List A × List ℕ). Takes bytes (flat_map spell y.0) y.1 × (length y.0 ≡ suc count) × AllGood good next state y.0) (ok_is made x b.2) (rw flat_map-cons both, ap suc second.1, (first.1, second.2))

  pub each_again : (one : (state : S) (x : A) (rest : List ℕ) → good state x → read state (spell x ++ rest) ≡ Ok (x, rest))
      (state : S) (xs : List A) (rest : List ℕ) → AllGood good next state xs → each_at (length xs) read next state (flat_map spell xs ++ rest) ≡ Ok (xs, rest)
  unfolding each_at
  each_again one state [] rest all = refl
  each_again one state (x ∷ xs) rest all =
      let regrouped : flat_map spell (x ∷ xs) ++ rest ≡ spell x ++ (flat_map spell xs ++ rest) = ap (λ (y : List ℕ). y ++ rest) (flat_map-cons spell x xs) ∙ append_assoc (spell x) (flat_map spell xs) rest in
      ap (each_at (suc (length xs)) read next state) regrouped ∙ rw (one state x (flat_map spell xs ++ rest) all.0, each_again one (next state x) xs rest all.1) refl

-- the state after all
abbrev pub last : {A S : Type 0} → (S → A → S) → S → List A → S
last next state [] = state
last next state (x ∷ xs) = last next (next state x) xs

module _ {A S : Type 0} (read : S → List ℕ → Result (A × List ℕ) LogCause) (next : S → A → S) (spell : A → List ℕ) (good : S → A → Type 0) where
  pub each_fails : (one : (state : S) (x : A) (rest : List ℕ) → good state x → read state (spell x ++ rest) ≡ Ok (x, rest))
      (count : ℕ) (state : S) (xs : List A) (rest : List ℕ) (cause : LogCause) → length xs < count → AllGood good next state xs → read (last next state xs) rest ≡ Err cause → each_at count read next state (flat_map spell xs ++ rest) ≡ Err cause
  unfolding each_at
  each_fails one zero state xs rest cause more all fails = absurd (omega arith)
  each_fails one (suc count) state [] rest cause more all fails = rw fails refl
  each_fails one (suc count) state (x ∷ xs) rest cause more all fails =
      let regrouped : flat_map spell (x ∷ xs) ++ rest ≡ spell x ++ (flat_map spell xs ++ rest) = ap (λ (y : List ℕ). y ++ rest) (flat_map-cons spell x xs) ∙ append_assoc (spell x) (flat_map spell xs) rest in
      ap (each_at (suc count) read next state) regrouped ∙ rw (one state x (flat_map spell xs ++ rest) all.0, each_fails one count (next state x) xs rest cause (omega arith) all.1 fails) refl
