-- What is read of a thread and of its log, at their place.
use Rattle.std.proofs.Common.{◌≡◌, ◌≢◌, ℕ, zero, suc, ◌<◌, List, [], ◌∷◌, ◌++◌, length, Some, get_or, slice_get, slice_set, refl, sym, ap, ◌∙◌, subst, arith, length-set}
use Rattle.std.proofs.lemmas.List.{get_or_default, get_or-set_same}
use Rattle.std.proofs.lemmas.Option.{same_Some, slice_get_read, slice_get_within, get_or_from_slice_get}
use Rattle.octet_model.specs.declared.log.ThreadLog.{ThreadLog}
use Rattle.octet_model.specs.Orders.{thread_log_of}

pub log_read : (logs : List ThreadLog) (k : ℕ) (log : ThreadLog) → log ≡ get_or logs k log → k < length logs → log ≡ thread_log_of logs k
log_read logs k log is within = is ∙ get_or_default logs k log (record { accesses = 0; marks = [] }) within

-- what holds of a thread and its log that were read holds of those that stand there
pub holds_there : {A : Type 0} (P : ThreadLog → A → Type 0) (logs : List ThreadLog) (threads : List A) (k : ℕ) (log : ThreadLog) (x : A) → length threads ≡ length logs → k < length threads
    → log ≡ get_or logs k log → x ≡ get_or threads k x → P log x → (n : ℕ) → n ≡ k → (t : A) → slice_get threads n ≡ Some t → P (thread_log_of logs n) t
holds_there {A = A} P logs threads k log x as_many within log_is x_is holds n same t at =
    let there = slice_get_read threads (length threads) k x refl within x_is in
    let is_t : x ≡ t = same_Some x t (sym there ∙ ap (slice_get threads) (sym same) ∙ at) in
    let is_log : log ≡ thread_log_of logs n = log_read logs k log log_is (omega arith) ∙ ap (thread_log_of logs) (sym same) in
    subst (λ (l : ThreadLog). P l t) is_log (subst (λ (y : A). P log y) is_t holds)

-- what holds of all items and of one more
pub holds_pushed : {A : Type 0} (P : ℕ → A → Type 0) (xs : List A) (y : A)
    → ((t : ℕ) (x : A) → slice_get xs t ≡ Some x → P t x) → P (length xs) y
    → (t : ℕ) (x : A) → slice_get (xs ++ y ∷ []) t ≡ Some x → P t x
holds_pushed {A = A} P [] y all new zero x at = subst (λ (z : A). P 0 z) (same_Some y x at) new
holds_pushed P [] y all new (suc t) x at = absurd cc
holds_pushed P (z ∷ xs) y all new zero x at = all 0 x at
holds_pushed P (z ∷ xs) y all new (suc t) x at = holds_pushed (λ n. P (suc n)) xs y (λ n w is. all (suc n) w is) new t x at

-- what stands at a place of a list that was written at a place
pub get_same : {A : Type 0} (xs : List A) (i : ℕ) (y x : A) → slice_get (slice_set xs i y) i ≡ Some x → y ≡ x
get_same xs i y x at =
    sym (get_or-set_same xs i y x (omega (arith, slice_get_within (slice_set xs i y) i x at, length-set xs i y)))
    ∙ get_or_from_slice_get (slice_set xs i y) i x x at

pub get_other : {A : Type 0} (xs : List A) (i j : ℕ) (y : A) → j ≢ i → slice_get (slice_set xs i y) j ≡ slice_get xs j
get_other [] i j y differ = refl
get_other (x ∷ xs) zero zero y differ = absurd (differ refl)
get_other (x ∷ xs) zero (suc j) y differ = refl
get_other (x ∷ xs) (suc i) zero y differ = refl
get_other (x ∷ xs) (suc i) (suc j) y differ = get_other xs i j y (λ same. differ (ap suc same))
