-- Where a model stands follows from what is begun and from the phase, and they from it.
use Rattle.std.proofs.Common.{◌≡◌, ◌⊎◌, inl, inr, ℕ, true, Option, Some, None, refl, sym, subst}
use Rattle.std.specs.Option.{is_some}
use Rattle.octet_state.specs.declared.phase.Phase.{Phase}
use Rattle.octet_state.specs.declared.phase.Phase.TheVariants.{Off, Idle, Blocked}
use Rattle.octet_rule.specs.Conditions as rule
use Rattle.octet_heap.specs.declared.pending_access.PendingAccess.{PendingAccess}
use Rattle.octet_heap.specs.declared.pending_update.PendingUpdate.{PendingUpdate}
use Rattle.octet_heap.specs.Builders.{StandsStill, IsBusy}
use Rattle.octet_heap.specs.Builders as stands
use Rattle.octet_heap.specs.Models.{standing_of}
use Rattle.octet_heap.specs.Standing.{begun_of, IsAbout}
use Rattle.octet_heap.specs.Laws.{Tells}
use Rattle.octet_heap.proofs.Modelled.{same_standing, nothing_begun}

module _ (threads : ℕ) where
  idle_if : (p : Option PendingAccess) (c : Option PendingUpdate) (now : Phase) → IsAbout threads (begun_of p c) now → standing_of p c now ≡ stands.Idle → (now ≡ Idle) × (p ≡ None) × (c ≡ None)
  idle_if (Some access) c now about is = absurd cc
  idle_if None (Some update) now about is = absurd cc
  idle_if None None Idle about is = (refl, refl, refl)
  idle_if None None Off about is = absurd cc
  idle_if None None Blocked about is = absurd cc
  idle_if None None _ about is = absurd about

  rests_if : (p : Option PendingAccess) (c : Option PendingUpdate) (now : Phase) → IsAbout threads (begun_of p c) now → StandsStill (standing_of p c now) → rule.IsResting now
  rests_if (Some access) c now about is = absurd is
  rests_if None (Some update) now about is = absurd is
  rests_if None None Off about is = inl refl
  rests_if None None Blocked about is = inr refl
  rests_if None None Idle about is = absurd is
  rests_if None None _ about is = absurd about

  rests_by : (p : Option PendingAccess) (c : Option PendingUpdate) (now : Phase) → (p ≡ None) × (c ≡ None) → rule.IsResting now → StandsStill (standing_of p c now)
  rests_by p c now none (inl off) = subst StandsStill (sym (same_standing p None c None now Off none.0 none.1 off)) tt
  rests_by p c now none (inr blocked) = subst StandsStill (sym (same_standing p None c None now Blocked none.0 none.1 blocked)) tt

  begun_if : (p : Option PendingAccess) (c : Option PendingUpdate) (now : Phase) → IsAbout threads (begun_of p c) now → IsBusy (standing_of p c now) → (is_some p ≡ true) ⊎ (is_some c ≡ true)
  begun_if (Some access) c now about is = inl refl
  begun_if None (Some update) now about is = inr refl
  begun_if None None Off about is = absurd is
  begun_if None None Blocked about is = absurd is
  begun_if None None Idle about is = absurd is
  begun_if None None _ about is = absurd about

begun_by : (p : Option PendingAccess) (c : Option PendingUpdate) (now : Phase) → (is_some p ≡ true) ⊎ (is_some c ≡ true) → IsBusy (standing_of p c now)
begun_by (Some access) c now some = tt
begun_by None (Some update) now some = tt
begun_by None None now (inl is) = absurd cc
begun_by None None now (inr is) = absurd cc

pub tells : (threads : ℕ) (p : Option PendingAccess) (c : Option PendingUpdate) (now : Phase) → IsAbout threads (begun_of p c) now
    → Tells (standing_of p c now) ((now ≡ Idle) × (p ≡ None) × (c ≡ None)) (rule.IsResting now) ((is_some p ≡ true) ⊎ (is_some c ≡ true))
tells threads p c now about = record {
  of_idle = (λ idle. same_standing p None c None now Idle idle.1 idle.2 idle.0, idle_if threads p c now about);
  of_rest = (λ rests. rests_by threads p c now (nothing_begun threads p c now about rests) rests, rests_if threads p c now about);
  of_begun = (begun_by p c now, begun_if threads p c now about);
}
