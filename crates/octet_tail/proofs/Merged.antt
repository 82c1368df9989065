-- Accesses and marks of a thread, merged.
use Rattle.std.proofs.Common.{◌≡◌, ℕ, zero, suc, ◌-◌, List, [], ◌∷◌, ◌++◌, take, drop, max, refl, sym, ap, ◌∙◌}
use Rattle.octet_model.specs.declared.event.Event.{Event}
use Rattle.octet_model.specs.declared.event.Event.TheVariants.{Read, Write, Update, Marked}
use Rattle.octet_window.specs.declared.front.Front.{Front}
use Rattle.octet_window.specs.Fronts.{shifted}
use Rattle.octet_window.specs.Ordering.{accesses_in}
use Rattle.octet_tail.specs.declared.placed.Placed.{Placed}
use Rattle.octet_tail.specs.Merging.{merged}

pub accesses_join : (earlier later : List Event) → accesses_in (earlier ++ later) ≡ accesses_in earlier ++ accesses_in later
accesses_join [] later = refl
accesses_join (Read object value ∷ earlier) later = ap (λ (l : List Event). Read object value ∷ l) (accesses_join earlier later)
accesses_join (Write object value ∷ earlier) later = ap (λ (l : List Event). Write object value ∷ l) (accesses_join earlier later)
accesses_join (Update object before after ∷ earlier) later = ap (λ (l : List Event). Update object before after ∷ l) (accesses_join earlier later)
accesses_join (Marked mark ∷ earlier) later = accesses_join earlier later

halves : (k : ℕ) (l : List Event) → take k l ++ drop k l ≡ l
halves zero l = refl
halves (suc k) [] = refl
halves (suc k) (x ∷ l) = ap (λ (r : List Event). x ∷ r) (halves k l)

-- marks add no access
pub merged_accesses : (front : Front) (come : ℕ) (accesses : List Event) (marks : List Placed) → accesses_in (merged front come accesses marks) ≡ accesses_in accesses
merged_accesses front come accesses [] = refl
merged_accesses front come accesses (placed ∷ marks) =
    let k = placed.accesses - come in
    accesses_join (take k accesses) (Marked (shifted front placed.mark) ∷ merged front (max come placed.accesses) (drop k accesses) marks)
    ∙ (ap (λ (l : List Event). accesses_in (take k accesses) ++ l) (merged_accesses front (max come placed.accesses) (drop k accesses) marks)
    ∙ (sym (accesses_join (take k accesses) (drop k accesses)) ∙ ap (λ (l : List Event). accesses_in l) (halves k accesses)))
