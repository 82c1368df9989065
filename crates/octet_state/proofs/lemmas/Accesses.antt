-- Whether a journal has an access of an object, and where.
use Rattle.std.proofs.Common.{◌≡◌, ℕ, zero, suc, Bool, true, false, ◌||◌, List, [], ◌∷◌, ◌++◌, Option, Some, None, slice_get, refl, ap, ◌∙◌}
use Rattle.std.proofs.lemmas.Bool.{eqb-true, eq-eqb}
use Rattle.octet_model.specs.declared.event.Event.{Event}
use Rattle.octet_model.specs.HappensBefore.{object_of}
use Rattle.octet_state.specs.FrugalShape.{is_object, has_access}

-- an access at the end of a journal
pub has_access_more : (journal : List Event) (e : Event) (object : ℕ) → has_access (journal ++ e ∷ []) object ≡ (has_access journal object || is_object (object_of e) object)
has_access_more [] e object = or_none (is_object (object_of e) object)
  where
    or_none : (b : Bool) → (b || false) ≡ (false || b)
    or_none true = refl
    or_none false = refl
has_access_more (x ∷ journal) e object = ap (λ (b : Bool). is_object (object_of x) object || b) (has_access_more journal e object) ∙ or_assoc (is_object (object_of x) object) (has_access journal object) (is_object (object_of e) object)
  where
    or_assoc : (a b c : Bool) → (a || (b || c)) ≡ ((a || b) || c)
    or_assoc true b c = refl
    or_assoc false b c = refl

-- a journal without an access of the object has none at any place
pub no_access_at : (journal : List Event) (place object : ℕ) (e : Event) → has_access journal object ≡ false → slice_get journal place ≡ Some e → object_of e ≡ Some object → ⊥
no_access_at [] place object e none at of = cc
no_access_at (x ∷ journal) zero object e none at of = let same : x ≡ e = cc in
    let it : is_object (object_of x) object ≡ true = ap (λ (y : Event). is_object (object_of y) object) same ∙ (ap (λ (o : Option ℕ). is_object o object) of ∙ eq-eqb object object refl) in
    true_first (is_object (object_of x) object) (has_access journal object) it none
  where
    true_first : (a b : Bool) → a ≡ true → (a || b) ≡ false → ⊥
    true_first true b h k = cc
    true_first false b h k = cc
no_access_at (x ∷ journal) (suc place) object e none at of = no_access_at journal place object e (false_second (is_object (object_of x) object) (has_access journal object) none) at of
  where
    false_second : (a b : Bool) → (a || b) ≡ false → b ≡ false
    false_second true b h = absurd cc
    false_second false b h = h

-- where a journal has an access of an object
pub record HasAccessAt (journal : List Event) (object : ℕ) : Type 0 where
  pub place : ℕ
  pub event : Event
  pub at : slice_get journal place ≡ Some event
  pub of : object_of event ≡ Some object

object_is : (o : Option ℕ) (object : ℕ) → is_object o object ≡ true → o ≡ Some object
object_is None object is = absurd (cc (is))
object_is (Some accessed) object is = ap (λ (n : ℕ). Some n) (eqb-true accessed object is)

pub finds_access : (journal : List Event) (object : ℕ) → has_access journal object ≡ true → HasAccessAt journal object
finds_access [] object is = absurd (cc (is))
finds_access (x ∷ journal) object is = go (is_object (object_of x) object) refl is (λ found. finds_access journal object found)
  where
    go : (b : Bool) → is_object (object_of x) object ≡ b → (b || has_access journal object) ≡ true → (has_access journal object ≡ true → HasAccessAt journal object) → HasAccessAt (x ∷ journal) object
    go true it found rest = record { place = 0; event = x; at = refl; of = object_is (object_of x) object it }
    go false it found rest = let later = rest found in record { place = suc later.place; event = later.event; at = later.at; of = later.of }
