-- Where the spelling of a part is cut, it is judged as cut there.
use Rattle.std.proofs.Common.{◌≡◌, ◌⊎◌, ℕ, ◌+◌, ◌-◌, ◌<◌, Bool, true, false, List, [], ◌∷◌, ◌++◌, length, take, Result, Ok, Err, refl, sym, ap, ◌∙◌, arith, inl, inr}
use Rattle.std.specs.Prelude.{codes}
use Rattle.std.specs.Str.{bytes_eq}
use Rattle.std.specs.List.{flat_map}
use Rattle.std.proofs.lemmas.List.{length-append, length-take}
use Rattle.std.proofs.lemmas.List.Concat.{flat_map-cons}
use Rattle.std.proofs.lemmas.Slice.Eq.{bytes_eq-Decides}
use Rattle.octet_log.specs.declared.cause.LogCause.{LogCause}
use Rattle.octet_log.specs.declared.cause.LogCause.TheVariants.{CutShort}
use Rattle.octet_log.specs.Judging.{◌>>=◌, wanted, byte_at, each_at}
use Rattle.octet_log.proofs.Each.{AllGood}

pub cons_is : {A : Type 0} (x y : A) (xs ys : List A) → x ∷ xs ≡ y ∷ ys → (x ≡ y) × (xs ≡ ys)
cons_is x y xs ys e = (cc, cc)

pub nothing≢more : (front : List ℕ) (next : ℕ) (rest : List ℕ) → [] ≡ front ++ next ∷ rest → ⊥
nothing≢more [] next rest e = cc
nothing≢more (x ∷ front) next rest e = cc

-- a text of two parts is cut in the first or in the second
pub split : (a b front : List ℕ) (next : ℕ) (rest : List ℕ) → a ++ b ≡ front ++ next ∷ rest → ((r : List ℕ) × (a ≡ front ++ next ∷ r)) ⊎ ((f : List ℕ) × (front ≡ a ++ f) × (b ≡ f ++ next ∷ rest))
split [] b front next rest e = inr (front, refl, e)
split (x ∷ a) b [] next rest e = inl (a, ap (λ (y : ℕ). y ∷ a) (cons_is x next (a ++ b) rest e).0)
split (x ∷ a) b (y ∷ front) next rest e =
    let same = cons_is x y (a ++ b) (front ++ next ∷ rest) e in
    elim (split a b front next rest same.1) [
      | inl p ↦ inl (p.0, ap (λ (z : ℕ). z ∷ a) same.0 ∙ ap (λ (l : List ℕ). y ∷ l) p.1)
      | inr p ↦ inr (p.0, ap (λ (l : List ℕ). y ∷ l) p.1 ∙ ap (λ (z : ℕ). z ∷ (a ++ p.0)) (sym same.0), p.2)
    ]

-- each reading of a proper front of the text answers that it is cut
abbrev pub IsCutIn : {A : Type 0} → ℕ → (List ℕ → Result A LogCause) → List ℕ → Type 0
IsCutIn total read text = (front : List ℕ) (next : ℕ) (rest : List ℕ) → text ≡ front ++ next ∷ rest → read front ≡ Err (CutShort total)

pub then_cut : {A B : Type 0} (total : ℕ) (read : List ℕ → Result (A × List ℕ) LogCause) (go : A × List ℕ → Result B LogCause) (a b : List ℕ) (x : A) → ((rest : List ℕ) → read (a ++ rest) ≡ Ok (x, rest)) → IsCutIn total read a → IsCutIn total (λ r. go (x, r)) b → IsCutIn total (λ r. read r >>= go) (a ++ b)
then_cut total read go a b x again cut_a cut_b front next rest e =
    elim (split a b front next rest e) [
      | inl p ↦ ap (λ r. r >>= go) (cut_a front next p.0 p.1)
      | inr p ↦ ap (λ l. read l >>= go) p.1 ∙ ap (λ r. r >>= go) (again p.0) ∙ cut_b p.0 next rest p.2
    ]

pub more_cut : {A B : Type 0} (total : ℕ) (read : List ℕ → Result A LogCause) (go : A → Result B LogCause) (a : List ℕ) → IsCutIn total read a → IsCutIn total (λ r. read r >>= go) a
more_cut total read go a cut front next rest e = ap (λ r. r >>= go) (cut front next rest e)

pub wanted_cut : {A : Type 0} (total : ℕ) (read : List ℕ → Result A LogCause) (b : Bool) (cause : LogCause) (a : List ℕ) → b ≡ true → IsCutIn total read a → IsCutIn total (λ r. wanted b cause >>= λ u. read r) a
wanted_cut total read b cause a holds cut front next rest e = rw holds (cut front next rest e)

pub byte_cut : (total byte : ℕ) → IsCutIn total (byte_at total) (byte ∷ [])
byte_cut total byte [] next rest e = refl
byte_cut total byte (x ∷ front) next rest e = absurd (nothing≢more front next rest (cons_is byte x [] (front ++ next ∷ rest) e).1)

-- a proper front is shorter
pub shorter : (text front : List ℕ) (next : ℕ) (rest : List ℕ) → text ≡ front ++ next ∷ rest → length front < length text
shorter text front next rest e = rw e (omega (arith, length-append front (next ∷ rest)))

pub each_cut : {A S : Type 0} (total : ℕ) (read : S → List ℕ → Result (A × List ℕ) LogCause) (next : S → A → S) (spell : A → List ℕ) (good : S → A → Type 0)
    → ((state : S) (x : A) (rest : List ℕ) → good state x → read state (spell x ++ rest) ≡ Ok (x, rest))
    → ((state : S) (x : A) → good state x → IsCutIn total (read state) (spell x))
    → (xs : List A) (state : S) → AllGood good next state xs → IsCutIn total (each_at (length xs) read next state) (flat_map spell xs)
unfolding each_at
each_cut total read next spell good again cut [] state all front n rest e = absurd (nothing≢more front n rest e)
each_cut total read next spell good again cut (x ∷ xs) state all front n rest e =
    then_cut total (read state) (λ first. each_at (length xs) read next (next state first.0) first.1 >>= λ others. Ok (first.0 ∷ others.0, others.1)) (spell x) (flat_map spell xs) x
    (λ r. again state x r all.0) (cut state x all.0)
    (more_cut total (each_at (length xs) read next (next state x)) (λ others. Ok (x ∷ others.0, others.1)) (flat_map spell xs) (each_cut total read next spell good again cut xs (next state x) all.1))
    front n rest (sym (flat_map-cons spell x xs) ∙ e)

-- a text shorter than the word at the front does not begin with it
pub no_magic : (front : List ℕ) → length front < 4 → bytes_eq (take 4 front) (codes "OCTL") ≡ false
no_magic front short =
    elim (bytes_eq (take 4 front) (codes "OCTL")) as (λ b. bytes_eq (take 4 front) (codes "OCTL") ≡ b → b ≡ false) [
      | true ↦ λ is.
          let same : take 4 front ≡ codes "OCTL" = (bytes_eq-Decides (take 4 front) (codes "OCTL")).0 is in
          let four : length (take 4 front) ≡ 4 = ap (λ (l : List ℕ). length l) same in
          absurd (omega (arith, four, length-take 4 front, short))
      | false ↦ λ is. refl
    ] refl
