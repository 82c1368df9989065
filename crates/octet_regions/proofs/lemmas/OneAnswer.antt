-- There is one serial choice and one cycle.
use Rattle.std.proofs.Common.{◌≡◌, ◌≢◌, ℕ, ◌<◌, ◌⊎◌, inl, inr, List, [], ◌∷◌, ◌++◌, length, drop, Some, slice_get, refl, sym, ap, ◌∙◌, subst, arith, append-nil}
use Rattle.std.proofs.lemmas.Bool.{cases_eq, cases_lt}
use Rattle.std.proofs.lemmas.Option.{slice_get_within}
use Rattle.octet_model.proofs.lemmas.Lists.{slice_get-append, slice_get_split}
use Rattle.octet_regions.specs.declared.access.Access.{Access}
use Rattle.octet_regions.specs.declared.region.Hop.{Hop}
use Rattle.octet_regions.specs.declared.region.Region.{Region}
use Rattle.octet_regions.specs.declared.serial.Serial.TheVariants.{Order, Cycle}
use Rattle.octet_regions.specs.Before.{RegionBefore}
use Rattle.octet_regions.specs.Choice.{IsChosen, IsChoice, IsCycle, IsHop, IsWalk, TakesAll, walk_end}
use Rattle.octet_regions.specs.Laws.{OneAnswer}
use Rattle.octet_regions.proofs.Queues.{same_region}

module _ (accesses : List Access) where
  one_chosen : (taken : List Region) (region other : Region) → IsChosen accesses taken region → IsChosen accesses taken other → region ≡ other
  one_chosen taken region other a b =
      let thread : region.thread ≡ other.thread = omega (arith, a.lowest other b.free, b.lowest region a.free) in
      same_region region other.thread other.number thread (omega (arith, a.free.next.first other b.free.next.left (sym thread), b.free.next.first region a.free.next.left thread))

  one_choice : (taken order other : List Region) → IsChoice accesses taken order → IsChoice accesses taken other → order ≡ other
  one_choice taken [] [] a b = refl
  one_choice taken [] (r ∷ other) a b = absurd (a r b.0.free)
  one_choice taken (r ∷ order) [] a b = absurd (b r a.0.free)
  one_choice taken (r ∷ order) (q ∷ other) a b =
      let same = one_chosen taken r q a.0 b.0 in
      let rest = one_choice (taken ++ r ∷ []) order other a.1 (subst (λ (x : Region). IsChoice accesses (taken ++ x ∷ []) other) (sym same) b.1) in
      λ i. same i ∷ rest i

  module _ (taken : List Region) where
    one_hop : (hop other : Hop) → IsHop accesses taken hop → IsHop accesses taken other → hop.after.thread ≡ other.after.thread → hop ≡ other
    one_hop hop other a b thread =
        let after = same_region hop.after other.after.thread other.after.number thread (omega (arith, a.into_next.first other.after b.into_next.left (sym thread), b.into_next.first hop.after a.into_next.left thread)) in
        let before_a = subst (λ (r : Region). RegionBefore accesses other.before r) (sym after) b.is_before in
        let before_b = subst (λ (r : Region). RegionBefore accesses hop.before r) after a.is_before in
        let from : hop.before.thread ≡ other.before.thread = omega (arith, a.lowest other.before b.left before_a, b.lowest hop.before a.left before_b) in
        let before = same_region hop.before other.before.thread other.before.number from (omega (arith, a.earliest other.before b.left before_a (sym from), b.earliest hop.before a.left before_b from)) in
        λ i. record { before = before i; after = after i }

    -- of two walks from a thread, one goes on from the other
    one_walk : (thread : ℕ) (hops others : List Hop) → IsWalk accesses taken thread hops → IsWalk accesses taken thread others → ((more : List Hop) × (others ≡ hops ++ more)) ⊎ ((more : List Hop) × (hops ≡ others ++ more))
    one_walk thread [] others a b = inl (others, refl)
    one_walk thread (hop ∷ hops) [] a b = inr (hop ∷ hops, refl)
    one_walk thread (hop ∷ hops) (other ∷ others) a b =
        let same = one_hop hop other a.1 b.1 (a.0 ∙ sym b.0) in
        elim (one_walk hop.before.thread hops others a.2 (subst (λ (t : ℕ). IsWalk accesses taken t others) (ap (λ (h : Hop). h.before.thread) (sym same)) b.2)) [
          | inl on ↦ inl (on.0, λ i. sym same i ∷ on.1 i)
          | inr on ↦ inr (on.0, λ i. same i ∷ on.1 i)
        ]

    walk_from_end : (thread : ℕ) (hops : List Hop) (next : Hop) (more : List Hop) → IsWalk accesses taken thread (hops ++ next ∷ more) → next.after.thread ≡ walk_end thread hops
    walk_from_end thread [] next more walk = walk.0
    walk_from_end thread (hop ∷ hops) next more walk = walk_from_end hop.before.thread hops next more walk.2

    -- where the cycle begins in its walk
    begins_at : (cycle : List Hop) → (c : IsCycle accesses taken cycle) → (first : Hop) × (slice_get (c.lead ++ cycle) (length c.lead) ≡ Some first) × (first.after.thread ≡ walk_end c.start (c.lead ++ cycle))
    begins_at [] c = absurd (omega (arith, c.some))
    begins_at (first ∷ cycle) c = (first, slice_get_split c.lead (first ∷ cycle), sym (c.comes_back first refl))

    -- a walk that came to a thread for the second time goes no further
    no_longer : (cycle : List Hop) (c : IsCycle accesses taken cycle) (hops : List Hop) → IsWalk accesses taken c.start hops
        → ((i j : ℕ) (one other : Hop) → i < j → slice_get hops i ≡ Some one → slice_get hops j ≡ Some other → one.after.thread ≢ other.after.thread)
        → (more : List Hop) → hops ≡ (c.lead ++ cycle) ++ more → more ≡ []
    no_longer cycle c hops walk once [] is = refl
    no_longer cycle c hops walk once (next ∷ more) is =
        let own = c.lead ++ cycle in
        let b = begins_at cycle c in
        let walk' = subst (λ (hs : List Hop). IsWalk accesses taken c.start hs) is walk in
        let at_first : slice_get hops (length c.lead) ≡ Some b.0 = ap (λ (hs : List Hop). slice_get hs (length c.lead)) is ∙ slice_get-append own (next ∷ more) (length c.lead) b.0 b.1 in
        let at_next : slice_get hops (length own) ≡ Some next = ap (λ (hs : List Hop). slice_get hs (length own)) is ∙ slice_get_split own (next ∷ more) in
        absurd (once (length c.lead) (length own) b.0 next (slice_get_within own (length c.lead) b.0 b.1) at_first at_next (b.2 ∙ sym (walk_from_end c.start own next more walk')))

    drop_lead : (lead rest : List Hop) → drop (length lead) (lead ++ rest) ≡ rest
    drop_lead [] rest = refl
    drop_lead (first ∷ lead) rest = drop_lead lead rest

    one_cycle : (cycle other : List Hop) → IsCycle accesses taken cycle → IsCycle accesses taken other → cycle ≡ other
    one_cycle cycle other a b =
        let start : a.start ≡ b.start = omega (arith, a.starts.lowest b.starts.region b.starts.left, b.starts.of_thread, b.starts.lowest a.starts.region a.starts.left, a.starts.of_thread) in
        let hops = a.lead ++ cycle in
        let others = b.lead ++ other in
        let walk = subst (λ (t : ℕ). IsWalk accesses taken t others) (sym start) b.walks in
        let walk' = subst (λ (t : ℕ). IsWalk accesses taken t hops) start a.walks in
        let same : hops ≡ others = elim (one_walk a.start hops others a.walks walk) [
          | inl on ↦ sym (on.1 ∙ ap (λ (more : List Hop). hops ++ more) (no_longer cycle a others walk b.once on.0 on.1) ∙ append-nil hops)
          | inr on ↦ on.1 ∙ ap (λ (more : List Hop). others ++ more) (no_longer other b hops walk' a.once on.0 on.1) ∙ append-nil others
        ] in
        let at_a = begins_at cycle a in
        let at_b = begins_at other b in
        let at_b' : slice_get hops (length b.lead) ≡ Some at_b.0 = ap (λ (hs : List Hop). slice_get hs (length b.lead)) same ∙ at_b.1 in
        let thread : at_a.0.after.thread ≡ at_b.0.after.thread = at_a.2 ∙ ap (walk_end a.start) same ∙ ap (λ (t : ℕ). walk_end t others) start ∙ sym at_b.2 in
        let length_is : length a.lead ≡ length b.lead = elim (cases_eq (length a.lead) (length b.lead)) [
          | inl equal ↦ equal
          | inr differ ↦ elim (cases_lt (length a.lead) (length b.lead)) [
            | inl lt ↦ absurd (a.once (length a.lead) (length b.lead) at_a.0 at_b.0 lt at_a.1 at_b' thread)
            | inr ge ↦ absurd (a.once (length b.lead) (length a.lead) at_b.0 at_a.0 (omega arith) at_b' at_a.1 (sym thread))
          ]
        ] in
        sym (drop_lead a.lead cycle) ∙ ap (drop (length a.lead)) same ∙ ap (λ (n : ℕ). drop n others) length_is ∙ drop_lead b.lead other

pub one_answer : OneAnswer
one_answer accesses (Order regions) (Order others) a b = ap Order (one_choice accesses [] regions others a.0 b.0)
one_answer accesses (Order regions) (Cycle hops) a b = absurd (b.2 (subst (TakesAll accesses) (one_choice accesses [] regions b.0 a.0 b.1) a.1))
one_answer accesses (Cycle hops) (Order others) a b = absurd (a.2 (subst (TakesAll accesses) (one_choice accesses [] others a.0 b.0 a.1) b.1))
one_answer accesses (Cycle hops) (Cycle others) a b =
    let taken = one_choice accesses [] b.0 a.0 b.1 a.1 in
    ap Cycle (one_cycle accesses a.0 hops others a.3 (subst (λ (t : List Region). IsCycle accesses t others) taken b.3))
