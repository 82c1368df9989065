use Rattle.std.proofs.Common.{◌≡◌, ◌∙◌, ◌<◌, List, [], ◌∷◌, length, refl, sym, subst, ap, slice_index_or, arith}
use Rattle.std.specs.List.{remove}
use Rattle.octet_rerun.specs.declared.follower.Follower.{Follower}
use Rattle.octet_rerun.specs.Reruns.{IsAtStart, EachAtStart}
use Rattle.octet_bank.proofs.bank.reopened.Goals.{After-drop-followers}
use Rattle.octet_bank.proofs.bank.reopened.Goals as goal

front : (followers : List Follower) (none : Follower) → 1 < length followers → slice_index_or (remove followers 1) 0 none ≡ slice_index_or followers 0 none
front [] none two = absurd (omega (arith, two))
front (first ∷ []) none two = absurd (omega (arith, two))
front (first ∷ second ∷ more) none two = refl

two : (c : After-drop-followers) → 1 < length c.into_vec-followers.result.items
two c = omega (arith, c.in_ok-rerun.ensures.as_many.0, c.requires.tellers, ap (λ (l : List Follower). length l) c.into_vec-followers.ensures)

each : (c : After-drop-followers) → EachAtStart c.in_ok-rerun.rerun c.into_vec-followers.result.items
each c = subst (λ (l : List Follower). EachAtStart c.in_ok-rerun.rerun l) (sym c.into_vec-followers.ensures) c.in_ok-rerun.ensures.followers

pub returns-clause-first : goal.returns-clause-first
returns-clause-first c =
    let first = c.remove-first.result in let items = c.into_vec-followers.result.items in
    let is = c.remove-first.ensures.value ∙ (ap (λ (l : List Follower). slice_index_or l 0 first) c.remove-second.ensures.items ∙ front items first (two c)) in
    subst (λ (f : Follower). IsAtStart c.in_ok-rerun.rerun 0 f) (sym is) (each c 0 first (omega (arith, two c)))

pub returns-clause-second : goal.returns-clause-second
returns-clause-second c =
    let second = c.remove-second.result in
    subst (λ (f : Follower). IsAtStart c.in_ok-rerun.rerun 1 f) (sym c.remove-second.ensures.value) (each c 1 second (two c))
