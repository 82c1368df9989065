-- Threads that are replayed alone, each at its place.
use Rattle.std.proofs.Common.{◌≡◌, ℕ, zero, suc, ◌∙◌, ◌++◌, ◌∷◌, ◌<◌, All, List, [], length, get_or, sym, subst, arith}
use Rattle.std.specs.List.{AllZip}
use Rattle.std.proofs.lemmas.List.Elements.{AllZip-get_or}
use Rattle.std.proofs.lemmas.Slice.Zip.{AllZip-long}
use Rattle.octet_model.specs.declared.log.ThreadLog.{ThreadLog}
use Rattle.octet_model.specs.declared.script.Script.{Script}
use Rattle.octet_parallel.specs.declared.alone.Alone.{Alone}
use Rattle.octet_parallel.specs.Alone.{AreAtStart, HasHeapOf, HasPlayedAlone, HavePlayedAlone, IsAloneAfter, IsReady, PlaysAlone}
use Rattle.octet_parallel.proofs.solo.Growing.{heap_length}

-- what holds at each place, and past them, holds with one more
pub at_each_more : (P : ℕ → Alone → Type 0) (xs : List Alone) (x : Alone)
    → ((k : ℕ) (none : Alone) → k < length xs → P k (get_or xs k none)) → P (length xs) x
    → (k : ℕ) (none : Alone) → k < length (xs ++ x ∷ []) → P k (get_or (xs ++ x ∷ []) k none)
at_each_more P [] x each new zero none h = new
at_each_more P [] x each new (suc k) none h = absurd (omega (arith, h))
at_each_more P (y ∷ ys) x each new zero none h = each 0 none (omega arith)
at_each_more P (y ∷ ys) x each new (suc k) none h =
    at_each_more (λ n. P (suc n)) ys x (λ n d inside. each (suc n) d (omega (arith, inside))) new k none (omega (arith, h))

-- a thread at its start is ready, whatever its number is called
ready : (script : Script) (log : List ThreadLog) (thread : ℕ) (alone : Alone) → IsAloneAfter script log thread [] alone → thread < length log → IsReady log alone
ready script log thread alone own inside = (
  subst (λ (n : ℕ). n < length log) (sym own.number) inside,
  subst (λ (s : Script). IsAloneAfter s log alone.number [] alone) (sym own.of)
      (subst (λ (n : ℕ). IsAloneAfter script log n [] alone) (sym own.number) own),
)

pub all_ready : (script : Script) (log : List ThreadLog) (threads : List Alone) → AreAtStart script log threads → length threads ≡ length log → All (IsReady log) threads
all_ready script log threads at as_many k none inside =
    ready script log k (get_or threads k none) (at k none inside) (subst (λ (n : ℕ). k < n) as_many inside)

-- threads that each played from their starts
pub have_played : (script : Script) (log : List ThreadLog) (before after : List Alone) → AreAtStart script log before → length before ≡ length log
    → AllZip (PlaysAlone log) before after → HavePlayedAlone script log after
have_played script log before after at as_many played = (
  AllZip-long (PlaysAlone log) before after played ∙ as_many,
  λ thread none inside.
      let was = get_or before thread none in
      let now = get_or after thread none in
      let within : thread < length before = subst (λ (n : ℕ). thread < n) (AllZip-long (PlaysAlone log) before after played) inside in
      let own = at thread none within in
      let here : HasPlayedAlone was.script.value log was.number now = (AllZip-get_or (PlaysAlone log) before after thread none none played within).played in
      subst (λ (s : Script). HasPlayedAlone s log thread now) own.of
      (subst (λ (n : ℕ). HasPlayedAlone was.script.value log n now) own.number here),
)

-- and the heap of each has a value for each object
pub have_heaps : (script : Script) (log : List ThreadLog) (threads : List Alone) → HavePlayedAlone script log threads → All (HasHeapOf (length script.objects)) threads
have_heaps script log threads played k none inside =
    let here = played.1 k none inside in heap_length script log k here.journal (get_or threads k none) here.made
