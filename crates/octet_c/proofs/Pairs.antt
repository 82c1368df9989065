-- Boxes behind handles.
use Rattle.std.proofs.Common.{◌≡◌, ◌∙◌, ◌<◌, All, List, [], ◌∷◌, length, map, slice_index_or, Some, sym, ap, subst, arith}
use Rattle.std.proofs.lemmas.List.{get_or-map, length-map}
use Rattle.octet_c.specs.declared.handle.Handle.{Handle}
use Rattle.octet_c.specs.declared.held.Held.{Held}
use Rattle.octet_c.specs.Long.{Holds}
use Rattle.octet_c.specs.Opened.{HoldEach}
use Rattle.octet_c.specs.Sessions.{IsHeld}

-- handles that hold what stands in each place hold the list
pub holds_of : {X : Type 0} (value : X → Held) (given : List X) (handles : List Handle) → HoldEach value given handles → Holds (map value given) handles
holds_of value [] handles hold = record { count = hold.count; each = λ place handle none lt. absurd (omega (arith, lt, hold.count)) }
holds_of value (x ∷ xs) handles hold = record {
  count = hold.count ∙ sym (length-map (x ∷ xs) value);
  each = λ place handle none lt. hold.each place handle x lt ∙ ap (λ h. Some h) (sym (get_or-map value (x ∷ xs) place x none (omega (arith, lt, hold.count))));
}

-- what holds of all of a list holds of the boxes that have them
pub all_held : {X Y : Type 0} (value : Y → Held) (wrap : X → Held) (P : X → Type 0) → ((x : X) → P x → IsHeld (wrap x))
    → (ys : List Y) (xs : List X) → map value ys ≡ map wrap xs → All P xs → All (λ y. IsHeld (value y)) ys
all_held value wrap P good ys [] same all k d lt = absurd (omega (arith, lt, ap length same, length-map ys value))
all_held value wrap P good ys (x ∷ xs) same all k d lt =
    let there : k < length (x ∷ xs) = omega (arith, lt, ap length same, length-map ys value, length-map (x ∷ xs) wrap) in
    let is : value (slice_index_or ys k d) ≡ wrap (slice_index_or (x ∷ xs) k x) =
    sym (get_or-map value ys k d (value d) lt) ∙ (ap (λ hs. slice_index_or hs k (value d)) same ∙ get_or-map wrap (x ∷ xs) k x (value d) there) in
    subst IsHeld (sym is) (good (slice_index_or (x ∷ xs) k x) (all k x there))
