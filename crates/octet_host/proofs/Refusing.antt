-- Threads that are handed in, or are refused.
use Rattle.std.proofs.Common.{◌≡◌, ℕ, ◌∷◌, List, length, subst}
use Rattle.octet_host.specs.declared.stage.Stage.{Stage}
use Rattle.octet_host.proofs.lemmas.Taking.{AreTaken, any_of, not_as_one}
use Rattle.octet_host.specs.declared.fault.CloseFault.{CloseFault}
use Rattle.octet_host.specs.declared.fault.CloseFault.TheVariants.{OutOfMemory, OtherSessions, OutOfOrder, StillRunning, NotWhole, TooLong, TwoRuns}
use Rattle.octet_host.specs.HandedBack.{IsAtWork, Both, RefusesThread, RefusesToClose}

module _ {X : Type 0} (stage : X → Stage) (At Among : ℕ → ℕ → X → Type 0) (all : List X) (number : ℕ) (rest others : List X) (it : X) (next : rest ≡ it ∷ others)
    (taken : AreTaken (λ x. IsAtWork (stage x) → ⊥) (Both At Among) all number rest) (Leaves TooMany : X → Type 0) where
  refuses_next : (why : CloseFault) → RefusesThread (stage it) (At number (length all) it) (Among number (length all) it) (Leaves it) why → RefusesToClose stage At Among Leaves TooMany all why
  refuses_next OutOfMemory is = tt
  refuses_next OtherSessions is = not_as_one (λ x. IsAtWork (stage x) → ⊥) (Both At Among) all number rest others it next taken Among is
  refuses_next OutOfOrder is = not_as_one (λ x. IsAtWork (stage x) → ⊥) (Both At Among) all number rest others it next taken At is
  refuses_next StillRunning is = any_of (λ x. IsAtWork (stage x) → ⊥) (Both At Among) all number rest others it next taken (λ x. IsAtWork (stage x)) is
  refuses_next NotWhole is = any_of (λ x. IsAtWork (stage x) → ⊥) (Both At Among) all number rest others it next taken Leaves is
  refuses_next TooLong is = absurd is
  refuses_next TwoRuns is = absurd is

  -- where the next one is refused, all are
  pub refuses_all : (count : ℕ) → count ≡ length all → (why : CloseFault) → RefusesThread (stage it) (At number count it) (Among number count it) (Leaves it) why → RefusesToClose stage At Among Leaves TooMany all why
  refuses_all count same why is = refuses_next why (subst (λ n. RefusesThread (stage it) (At number n it) (Among number n it) (Leaves it) why) same is)
