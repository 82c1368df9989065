-- What a worker has begun.
use Rattle.std.proofs.Common.{◌≡◌, ℕ, Option, Some, None, refl, ap, subst}
use Rattle.octet_state.specs.declared.phase.Phase.{Phase}
use Rattle.octet_heap.specs.declared.pending_access.PendingAccess.{PendingAccess}
use Rattle.octet_heap.specs.declared.pending_update.PendingUpdate.{PendingUpdate}
use Rattle.octet_heap.specs.Standing.{update_of, begun_of, IsOne, IsAbout}
use Rattle.octet_heap.specs.Waiting.{HasBegun}

-- an update that is begun is all that is
pub is_update : (p : Option PendingAccess) (c : Option PendingUpdate) (u : PendingUpdate) → IsOne p c → c ≡ Some u → (p ≡ None) × (begun_of p c ≡ Some (update_of u.object))
is_update None c u one is = (refl, ap (λ (o : Option PendingUpdate). begun_of None o) is)
is_update (Some access) c u one is = absurd (subst (IsOne (Some access)) is one)

pub begun_access : (p : Option PendingAccess) (c : Option PendingUpdate) (access : PendingAccess) → p ≡ Some access → begun_of p c ≡ Some access
begun_access p c access is = ap (λ (o : Option PendingAccess). begun_of o c) is

pub update_begun : (threads : ℕ) (p : Option PendingAccess) (c : Option PendingUpdate) (u : PendingUpdate) (phase : Phase) → IsOne p c → c ≡ Some u → IsAbout threads (begun_of p c) phase → HasBegun threads (update_of u.object) phase
update_begun threads p c u phase one is about = subst (λ (o : Option PendingAccess). IsAbout threads o phase) (is_update p c u one is).1 about
