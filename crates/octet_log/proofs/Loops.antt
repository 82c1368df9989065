-- Reading one thing after the other, as a loop does.
use Rattle.std.proofs.Common.{◌≡◌, ℕ, suc, ◌-◌, ◌+◌, ◌≤◌, ◌<◌, List, [], ◌∷◌, ◌++◌, Result, Ok, Err, refl, sym, ap, ◌∙◌, append_assoc, arith}
use Rattle.std.proofs.lemmas.List.{append-nil}
use Rattle.octet_log.specs.declared.cause.LogCause.{LogCause}
use Rattle.octet_log.specs.declared.cause.LogFault.{LogFault}
use Rattle.octet_log.specs.declared.cause.LogFault.TheVariants as faults
use Rattle.octet_log.specs.Judging.{◌>>=◌, Fails, each_at, with_front}

pub regroup : {A : Type 0} (front : List A) (n : A) (read : Result (List A × List ℕ) LogCause) → with_front front (read >>= λ x. Ok (n ∷ x.0, x.1)) ≡ with_front (front ++ n ∷ []) read
regroup front n (Ok x) = ap (λ ns. Ok (ns, x.1)) (simp append_assoc)
regroup front n (Err f) = refl

module _ {A S : Type 0} (read : S → List ℕ → Result (A × List ℕ) LogCause) (next : S → A → S) where
  pub goes_on : (front : List A) (count i : ℕ) (state : S) (bytes : List ℕ) (n : A) (after : List ℕ) (all : Result (List A × List ℕ) LogCause) → i < count → read state bytes ≡ Ok (n, after)
      → with_front front (each_at (count - i) read next state bytes) ≡ all → with_front (front ++ n ∷ []) (each_at (count - (i + 1)) read next (next state n) after) ≡ all
  unfolding each_at
  goes_on front count i state bytes n after all lt h so_far =
      let k : count - i ≡ suc (count - (i + 1)) = omega arith in
      let one : with_front front (each_at (count - i) read next state bytes) ≡ with_front (front ++ n ∷ []) (each_at (count - (i + 1)) read next (next state n) after) = rw (k, h) (regroup front n (each_at (count - (i + 1)) read next (next state n) after)) in
      sym one ∙ so_far

  pub ends : (fault : LogFault) (front : List A) (count i : ℕ) (state : S) (bytes : List ℕ) (all : Result (List A × List ℕ) LogCause) → i < count → Fails fault (read state bytes)
      → with_front front (each_at (count - i) read next state bytes) ≡ all → Fails fault all
  unfolding each_at
  ends faults.OutOfMemory front count i state bytes all lt h so_far = tt
  ends (faults.Refused cause) front count i state bytes all lt h so_far =
      let k : count - i ≡ suc (count - (i + 1)) = omega arith in
      let one : with_front front (each_at (count - i) read next state bytes) ≡ Err cause = rw (k, h) refl in
      sym so_far ∙ one

  pub is_done : (front : List A) (count i : ℕ) (state : S) (bytes : List ℕ) (all : Result (List A × List ℕ) LogCause) → count ≤ i → with_front front (each_at (count - i) read next state bytes) ≡ all → all ≡ Ok (front, bytes)
  unfolding each_at
  is_done front count i state bytes all le so_far =
      let k : count - i ≡ 0 = omega arith in
      let one : with_front front (each_at (count - i) read next state bytes) ≡ Ok (front, bytes) = rw k (ap (λ ns. Ok (ns, bytes)) (append-nil front)) in
      sym so_far ∙ one
