-- The runners of a heap's new workers.
use Rattle.std.proofs.Common.{◌≡◌, ◌∙◌, ℕ, zero, suc, ◌+◌, ◌<◌, List, [], ◌∷◌, ◌++◌, length, slice_index_or, sym, arith, subst}
use Rattle.std.specs.List.{AllZip}
use Rattle.std.proofs.lemmas.List.Elements.{AllZip-get_or, length_all_zip}
use Rattle.octet_model.specs.declared.script.Script.{Script}
use Rattle.octet_heap.specs.declared.heap.Heap.{Heap}
use Rattle.octet_heap.specs.declared.worker.Worker.{Worker}
use Rattle.octet_heap.specs.Seated.{IsNew}
use Rattle.octet_threads.specs.declared.heap.runner.Runner.{Runner}
use Rattle.octet_threads.specs.Runners.{AreOf, IsOf, IsSame}

-- the new workers of the threads from this one on, in order
abbrev pub AreNew : Heap → ℕ → List Worker → Type 0
AreNew heap thread [] = Unit {0}
AreNew heap thread (worker ∷ workers) = IsNew heap thread worker × AreNew heap (thread + 1) workers

pub are_new : (heap : Heap) (first : ℕ) (workers : List Worker) → ((thread : ℕ) (none : Worker) → thread < length workers → IsNew heap (first + thread) (slice_index_or workers thread none)) → AreNew heap first workers
are_new heap first [] each = tt
are_new heap first (w ∷ workers) each = (
  subst (λ (t : ℕ). IsNew heap t w) (omega arith) (each 0 w (omega arith)),
  are_new heap (first + 1) workers (λ t none lt. let same : first + suc t ≡ (first + 1) + t = omega arith in
      subst (λ (n : ℕ). IsNew heap n (slice_index_or workers t none)) same (each (suc t) none (omega (arith, lt)))),
)

-- what holds of each element holds with one more
pub each_more : {X : Type 0} (P : ℕ → X → Type 0) (xs : List X) (x : X) → ((t : ℕ) (none : X) → t < length xs → P t (slice_index_or xs t none)) → P (length xs) x
    → (t : ℕ) (none : X) → t < length (xs ++ x ∷ []) → P t (slice_index_or (xs ++ x ∷ []) t none)
each_more P [] x each last zero none there = last
each_more P [] x each last (suc t) none there = absurd (omega (arith, there))
each_more P (y ∷ xs) x each last zero none there = each 0 none (omega arith)
each_more P (y ∷ xs) x each last (suc t) none there = each_more (λ n. P (suc n)) xs x (λ n other lt. each (suc n) other (omega (arith, lt))) last t none (omega (arith, there))

-- each is of its thread of the script
abbrev pub EachOf : Script → List Runner → Type 0
EachOf script runners = (thread : ℕ) (none : Runner) → thread < length runners → IsOf script thread (slice_index_or runners thread none)

-- runners of the same threads are those of the script
pub still_of : (script : Script) (xs ys : List Runner) → AreOf script xs → AllZip IsSame xs ys → AreOf script ys
still_of script xs ys of same = record {
  as_many = sym (length_all_zip IsSame xs ys same) ∙ of.as_many;
  each = λ t none there.
      let here : t < length xs = omega (arith, there, length_all_zip IsSame xs ys same) in
      let s = AllZip-get_or IsSame xs ys t none none same here in
      let o = of.each t none here in
      record { number = s.number ∙ o.number; commands = s.commands ∙ o.commands };
}
