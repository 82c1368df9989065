-- Sessions whose run is ended.
use Rattle.std.proofs.Common.{◌≡◌, ◌∙◌, ℕ, ◌<◌, All, List, [], ◌∷◌, ◌++◌, length, map, slice_index_or, Option, Some, None, sym, ap, subst, arith}
use Rattle.std.specs.Prelude.{Any}
use Rattle.std.proofs.lemmas.List.{get_or-map, length-map, map_push}
use Rattle.std.proofs.lemmas.Option.{none-some}
use Rattle.std.proofs.lemmas.Simd.{map-map}
use Rattle.octet_host.specs.declared.fault.CloseFault.{CloseFault}
use Rattle.octet_host.specs.declared.fault.CloseFault.TheVariants.{OutOfMemory, OtherSessions, OutOfOrder, StillRunning, NotWhole, TooLong, TwoRuns}
use Rattle.octet_host.specs.HandedBack.{AreAsOne, HasCloseFault}
use Rattle.octet_c.specs.declared.held.Held.{Held}
use Rattle.octet_c.specs.declared.kind.Kind.{Kind}
use Rattle.octet_c.specs.Closed.{kind_of, first_kind, IsNumbered, IsThread, IsAt, IsAmong, IsSessionAt, IsSessionAmong, AreOneRun, AreOfOneKind, Runs, IsNotWhole, IsTooLong, RefusesToClose}

module _ {X Z : Type 0} (f : X → Z) (P : Z → Type 0) where
  -- what holds of some image of a list holds of some of the images
  pub any_map : (xs : List X) → Any (λ x. P (f x)) xs → Any P (map f xs)
  any_map xs (k, x, lt, at, is) = (k, f x, omega (arith, lt, length-map xs f), get_or-map f xs k x (f x) lt ∙ ap f at, is)

  -- what holds of all
  pub all_map : (xs : List X) → All (λ x. P (f x)) xs → All P (map f xs)
  all_map [] all k z lt = absurd (omega (arith, lt))
  all_map (x ∷ xs) all k z lt =
      let there : k < length (x ∷ xs) = omega (arith, lt, length-map (x ∷ xs) f) in
      subst P (sym (get_or-map f (x ∷ xs) k x z there)) (all k x there)

-- a list's image in two steps
pub in_two : {B : Type 0} (value : B → Held) (bs : List B) → map (λ h. Some h) (map value bs) ≡ map (λ b. Some (value b)) bs
in_two value bs = map-map (λ h. Some h) value bs

-- two lists whose images are the same have the same behind handles
pub same_behind : {X B : Type 0} (wrap : X → Held) (value : B → Held) (xs : List X) (bs : List B) → map wrap xs ≡ map value bs → map (λ x. Some (wrap x)) xs ≡ map (λ b. Some (value b)) bs
same_behind wrap value xs bs same = sym (in_two wrap xs) ∙ (ap (map (λ h. Some h)) same ∙ in_two value bs)

-- lists whose images are the same stay so with one more of each
pub one_more_behind : {X B : Type 0} (wrap : X → Held) (value : B → Held) (xs ys : List X) (x : X) (bs : List B) (b : B) → ys ≡ xs ++ x ∷ [] → value b ≡ wrap x → map wrap xs ≡ map value bs → map wrap ys ≡ map value (bs ++ b ∷ [])
one_more_behind wrap value xs ys x bs b pushed is same =
    ap (map wrap) pushed ∙ (map_push wrap xs x ∙ (ap (λ hs. hs ++ wrap x ∷ []) same ∙ (ap (λ h. map value bs ++ h ∷ []) (sym is) ∙ sym (map_push value bs b))))

-- threads of which all that their places ask for holds behind handles
module _ {X : Type 0} (wrap : X → Held) (Asked : ℕ → ℕ → X → Type 0) (Behind : ℕ → ℕ → Option Held → Type 0) (back : (n m : ℕ) (x : X) → Behind n m (Some (wrap x)) → Asked n m x) where
  pub as_before : (xs : List X) → AreAsOne Behind (map (λ x. Some (wrap x)) xs) → AreAsOne Asked xs
  as_before xs behind =
      let long : length (map (λ y. Some (wrap y)) xs) ≡ length xs = length-map xs (λ y. Some (wrap y)) in record {
        at_least_one = omega (arith, long, behind.at_least_one);
        each = λ k d lt.
            let it = slice_index_or xs k d in
            let here : Behind k (length (map (λ y. Some (wrap y)) xs)) (Some (wrap it)) =
            subst (Behind k (length (map (λ y. Some (wrap y)) xs))) (get_or-map (λ y. Some (wrap y)) xs k d (Some (wrap d)) lt) (behind.each k (Some (wrap d)) (omega (arith, lt, long))) in
            subst (λ n. Asked k n it) long (back k (length (map (λ y. Some (wrap y)) xs)) it here);
      }

module _ {X : Type 0} (wrap : X → Held) (kind : Kind) (Is : ℕ → ℕ → X → Type 0) (kind_is : (x : X) → kind_of (wrap x) ≡ Some kind)
    (to : (n m : ℕ) (x : X) → Is n m x → IsNumbered n m (wrap x)) where
  -- threads of one kind that are as those of one run are so behind handles
  pub run_behind : (xs : List X) → AreAsOne Is xs → AreOneRun (map (λ x. Some (wrap x)) xs)
  run_behind [] one = absurd (omega (arith, one.at_least_one))
  run_behind (x ∷ xs) one =
      let long : length (map (λ y. Some (wrap y)) (x ∷ xs)) ≡ length (x ∷ xs) = length-map (x ∷ xs) (λ y. Some (wrap y)) in record {
        kind = kind;
        as_one = record {
          at_least_one = omega (arith, long);
          each = λ k d lt.
              let there : k < length (x ∷ xs) = omega (arith, lt, long) in let it = slice_index_or (x ∷ xs) k x in
              subst (IsThread kind k (length (map (λ y. Some (wrap y)) (x ∷ xs)))) (sym (get_or-map (λ y. Some (wrap y)) (x ∷ xs) k x d there))
              (subst (λ n. IsThread kind k n (Some (wrap it))) (sym long) (kind_is it, to k (length (x ∷ xs)) it (one.each k x there)));
        };
      }

  module _ (At Among : ℕ → ℕ → X → Type 0) (at : (n m : ℕ) (x : X) → IsAt n m (wrap x) → At n m x) (among : (n m : ℕ) (x : X) → IsAmong n m (wrap x) → Among n m x) (Works NotWhole_ Long_ : X → Type 0) (works : (x : X) → Works x → Runs (Some (wrap x))) (works_not : (x : X) → Runs (Some (wrap x)) → Works x)
      (whole : (x : X) → NotWhole_ x → IsNotWhole (Some (wrap x))) (long : (x : X) → Long_ x → IsTooLong (Some (wrap x))) where
    any_behind : (P : X → Type 0) (Q : Option Held → Type 0) → ((x : X) → P x → Q (Some (wrap x))) → (xs : List X) → Any P xs → Any Q (map (λ x. Some (wrap x)) xs)
    any_behind P Q more xs (k, x, lt, at, is) = any_map (λ y. Some (wrap y)) Q xs (k, x, lt, at, more x is)

    -- threads of one kind are refused behind handles as they are
    pub refused_behind : (xs : List X) (fault : CloseFault) → HasCloseFault (AreAsOne Among xs) (AreAsOne At xs) (AreAsOne Is xs) Works NotWhole_ Long_ xs fault → RefusesToClose (map (λ x. Some (wrap x)) xs) fault
    refused_behind xs OutOfMemory why = tt
    refused_behind xs OtherSessions why = λ many. why (as_before wrap Among (IsSessionAmong many.kind) (λ n m x is. among n m x is.1) xs many.as_many)
    refused_behind xs OutOfOrder why = λ placed. why (as_before wrap At IsSessionAt (λ n m x is. at n m x is) xs placed)
    refused_behind xs StillRunning why = any_behind Works Runs works xs why
    refused_behind xs NotWhole why = any_behind NotWhole_ IsNotWhole whole xs why
    refused_behind xs TooLong why = any_behind Long_ IsTooLong long xs why
    refused_behind xs TwoRuns why = (run_behind xs why.0, all_map (λ y. Some (wrap y)) (λ s. Runs s → ⊥) xs (λ k d lt runs. why.1 k d lt (works_not (slice_index_or xs k d) runs)))

module _ {B : Type 0} (value : B → Held) where
  -- where the first is no thread, the sessions are of no run
  pub no_first : (bs : List B) → first_kind (map value bs) ≡ None → AreOfOneKind (map (λ b. Some (value b)) bs) → ⊥
  no_first [] none run = omega (arith, run.as_many.at_least_one)
  no_first (b ∷ bs) none run = none-some run.kind (sym none ∙ (run.as_many.each 0 (Some (value b)) (omega arith)).0)

  -- where one is of another kind than the first, neither
  pub other_kind : (bs : List B) (kind : Kind) → first_kind (map value bs) ≡ Some kind → (k : ℕ) (b : B) → k < length bs → slice_index_or bs k b ≡ b → (kind_of (value b) ≡ Some kind → ⊥)
      → AreOfOneKind (map (λ c. Some (value c)) bs) → ⊥
  other_kind [] kind first k b lt at other run = omega (arith, lt)
  other_kind (c ∷ cs) kind first k b lt at other run =
      let f : B → Option Held = λ x. Some (value x) in
      let n = length (map f (c ∷ cs)) in
      let head : kind_of (value c) ≡ Some run.kind = (run.as_many.each 0 (f c) (omega arith)).0 in
      let here : IsSessionAmong run.kind k n (f b) = subst (IsSessionAmong run.kind k n) (get_or-map f (c ∷ cs) k b (f b) lt ∙ ap f at) (run.as_many.each k (f b) (omega (arith, lt, length-map (c ∷ cs) f))) in
      other (here.0 ∙ (sym head ∙ first))
