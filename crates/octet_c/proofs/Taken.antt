-- What is taken from handles, one after the other.
use Rattle.std.proofs.Common.{◌≡◌, ◌∙◌, ◌⊎◌, ℕ, ◌+◌, ◌<◌, All, List, [], ◌∷◌, ◌++◌, length, map, take, slice_index_or, Option, Some, None, Result, Ok, Err, false, true, inl, inr, sym, ap, subst, arith}
use Rattle.std.specs.Prelude.{IfOk, IfErr, IfSome, IsOk, IsSome, OnOk, MatchOption}
use Rattle.std.proofs.lemmas.List.{get_or-map, length-map, map_push, take_more}
use Rattle.std.proofs.lemmas.List.Elements.{All-push}
use Rattle.octet_host.specs.declared.fault.CloseFault.{CloseFault}
use Rattle.octet_host.specs.declared.fault.CloseFault.TheVariants.{OutOfMemory, OtherSessions}
use Rattle.octet_c.specs.declared.held.Held.{Held}
use Rattle.octet_c.specs.Closed.{IsSessionAmong, AreOfOneKind, RefusesToClose}
use Rattle.octet_c.specs.Sessions.{IsHeld}

no_false : false ≡ true → ⊥
no_false same = absurd cc

module _ {H V B : Type 0} (held_in : H → Option Held) (items : V → List B) (value : B → Held) (olds : List H) (index : ℕ) (place : H) (lt : index < length olds) (at : slice_index_or olds index place ≡ place) where
  -- a handle without anything is no session of a run
  none_there : held_in place ≡ None → AreOfOneKind (map held_in olds) → ⊥
  none_there none run =
      subst (IsSessionAmong run.kind index (length (map held_in olds))) (get_or-map held_in olds index place (held_in place) lt ∙ (ap held_in at ∙ none))
      (run.as_many.each index (held_in place) (omega (arith, lt, length-map olds held_in)))

  -- the handles up to one more are those up to it, and it
  up_to : (h : Held) → held_in place ≡ Some h → take (index + 1) (map held_in olds) ≡ take index (map held_in olds) ++ Some h ∷ []
  up_to h is =
      take_more (map held_in olds) index (held_in place) (omega (arith, lt, length-map olds held_in))
      ∙ ap (λ x. take index (map held_in olds) ++ x ∷ []) (get_or-map held_in olds index place (held_in place) lt ∙ (ap held_in at ∙ is))

  -- once one more was asked for, what was taken is what was behind the handles up to it
  pub more_taken : (taken result : Result V CloseFault) (one : Option B) → MatchOption one (held_in place ≡ None) (λ b. (held_in place ≡ Some (value b)) × IsHeld (value b)) → OnOk result (IsOk taken × IsSome one)
      → IfOk result (λ v. IfOk taken (λ w. IfSome one (λ b. items v ≡ items w ++ b ∷ []))) → IfOk taken (λ w. map (λ b. Some (value b)) (items w) ≡ take index (map held_in olds))
      → IfOk result (λ v. map (λ b. Some (value b)) (items v) ≡ take (index + 1) (map held_in olds))
  more_taken taken (Err fault) one gives had added before = tt
  more_taken (Err fault) (Ok v) one gives had added before = absurd (no_false had.0)
  more_taken (Ok w) (Ok v) None gives had added before = absurd (no_false had.1)
  more_taken (Ok w) (Ok v) (Some b) gives had added before =
      ap (map (λ c. Some (value c))) added ∙ (map_push (λ c. Some (value c)) (items w) b ∙ (ap (λ xs. xs ++ Some (value b) ∷ []) before ∙ sym (up_to (value b) gives.0)))

  -- and each is what a handle may stand for
  pub more_good : (taken result : Result V CloseFault) (one : Option B) → MatchOption one (held_in place ≡ None) (λ b. (held_in place ≡ Some (value b)) × IsHeld (value b)) → OnOk result (IsOk taken × IsSome one)
      → IfOk result (λ v. IfOk taken (λ w. IfSome one (λ b. items v ≡ items w ++ b ∷ []))) → IfOk taken (λ w. All (λ b. IsHeld (value b)) (items w)) → IfOk result (λ v. All (λ b. IsHeld (value b)) (items v))
  more_good taken (Err fault) one gives had added before = tt
  more_good (Err fault) (Ok v) one gives had added before = absurd (no_false had.0)
  more_good (Ok w) (Ok v) None gives had added before = absurd (no_false had.1)
  more_good (Ok w) (Ok v) (Some b) gives had added before = subst (All (λ c. IsHeld (value c))) (sym added) (All-push (λ c. IsHeld (value c)) (items w) b before gives.1)

  refused_by : (taken : Result V CloseFault) (fault : CloseFault) (one : Option B) → MatchOption one (held_in place ≡ None) (λ b. (held_in place ≡ Some (value b)) × IsHeld (value b))
      → (taken ≡ Err fault) ⊎ (fault ≡ OutOfMemory) ⊎ ((fault ≡ OtherSessions) × (one ≡ None)) → IfErr taken (RefusesToClose (map held_in olds)) → RefusesToClose (map held_in olds) fault
  refused_by taken fault one gives (inl same) before = subst (λ t. IfErr t (RefusesToClose (map held_in olds))) same before
  refused_by taken fault one gives (inr (inl memory)) before = subst (RefusesToClose (map held_in olds)) (sym memory) tt
  refused_by taken fault one gives (inr (inr (other, nothing))) before =
      subst (RefusesToClose (map held_in olds)) (sym other) (none_there (subst (λ o. MatchOption o (held_in place ≡ None) (λ b. (held_in place ≡ Some (value b)) × IsHeld (value b))) nothing gives))

  -- and where nothing is taken, there is the cause
  pub more_refused : (taken result : Result V CloseFault) (one : Option B) → MatchOption one (held_in place ≡ None) (λ b. (held_in place ≡ Some (value b)) × IsHeld (value b))
      → IfErr result (λ fault. (taken ≡ Err fault) ⊎ (fault ≡ OutOfMemory) ⊎ ((fault ≡ OtherSessions) × (one ≡ None))) → IfErr taken (RefusesToClose (map held_in olds)) → IfErr result (RefusesToClose (map held_in olds))
  more_refused taken (Ok v) one gives why before = tt
  more_refused taken (Err fault) one gives why before = refused_by taken fault one gives why before
