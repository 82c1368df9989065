-- Notes of threads that are taken back one after the other.
use Rattle.std.proofs.Common.{◌≡◌, ℕ, ◌<◌, List, [], ◌∷◌, ◌++◌, length, slice_index_or, sym, subst, arith}
use Rattle.octet_host.specs.Sealed.{AreNoted}
use Rattle.octet_host.proofs.lemmas.Rows.{each_more}

-- there is a note of each thread up to some place
abbrev pub AreNotedSoFar : {X N : Type 0} → (ℕ → X → N → Type 0) → List X → List N → Type 0
AreNotedSoFar {X = X} {N = N} IsNoted threads notes = (place : ℕ) (none : N) → place < length notes → (nobody : X) → IsNoted place (slice_index_or threads place nobody) (slice_index_or notes place none)

module _ {X N : Type 0} (IsNoted : ℕ → X → N → Type 0) (threads : List X) (notes : List N) where
  -- and of one more
  pub noted_more : (number : ℕ) (it : X) (note : N) → length notes ≡ number → ((d : X) → slice_index_or threads number d ≡ it) → IsNoted number it note → AreNotedSoFar IsNoted threads notes → AreNotedSoFar IsNoted threads (notes ++ note ∷ [])
  noted_more number it note long at is before =
      each_more (λ n (one : N). (nobody : X) → IsNoted n (slice_index_or threads n nobody) one) notes note before
      (λ nobody. subst (λ (n : ℕ). IsNoted n (slice_index_or threads n nobody) note) (sym long) (subst (λ (x : X). IsNoted number x note) (sym (at nobody)) is))

  -- of all, once there are as many
  pub noted_all : length notes ≡ length threads → AreNotedSoFar IsNoted threads notes → AreNoted IsNoted threads notes
  noted_all same so_far = record { count = same; each = λ place nobody none lt. so_far place none (omega (arith, lt, same)) nobody }
