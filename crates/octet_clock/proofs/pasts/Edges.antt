-- What an event adds to the past of its thread.
use Rattle.std.proofs.Common.{◌≡◌, ℕ, zero, suc, ◌<◌, ◌≤◌, ◌+◌, ◌⊎◌, inl, inr, List, [], ◌∷◌, ◌++◌, Some, refl, sym, ap, subst, arith}
use Rattle.std.proofs.lemmas.Bool.{cases_lt}
use Rattle.octet_model.specs.declared.event.Mark.{Mark}
use Rattle.octet_model.specs.declared.event.Mark.TheVariants.{Join, Draw, Fence}
use Rattle.octet_model.specs.declared.event.Event.TheVariants.{Marked}
use Rattle.octet_model.specs.declared.event.Place.{Place}
use Rattle.octet_model.specs.Machine.{Journals}
use Rattle.octet_model.specs.HappensBefore.{event_at, Edge, ProgramOrder, Joined, Drawn, Fenced, IsEvent, IsPath, HappensBefore}
use Rattle.octet_model.specs.Past.{Reaches, InPast}
use Rattle.octet_model.proofs.lemmas.Pasts.{place, path_on, by_edge}
use Rattle.octet_clock.specs.Past.{AddsNothing}

module _ (js : Journals) where
  -- the last edge of a path
  pub record LastEdge (a b : Place) : Type 0 where
    pub is_event : IsEvent js a
    pub near : Place
    pub is_near : IsEvent js near
    pub reaches : Reaches js a near
    pub edge : Edge js near b

  edge_on : (a c d : Place) → IsEvent js a → IsEvent js c → Edge js a c → Reaches js c d → Reaches js a d
  edge_on a c d is_a is_c edge (inl same) = inr (subst (λ (p : Place). HappensBefore js a p) same (by_edge js a c is_a is_c edge))
  edge_on a c d is_a is_c edge (inr path) = inr (path_on js a c d (by_edge js a c is_a is_c edge) path)

  last_of_path : (between : List Place) (a b : Place) → IsPath js (a ∷ (between ++ b ∷ [])) → LastEdge a b
  last_of_path [] a b path = record { is_event = path.0; near = a; is_near = path.0; reaches = inl refl; edge = path.1 }
  last_of_path (c ∷ between) a b path =
      let rest = last_of_path between c b path.2 in
      record { is_event = path.0; near = rest.near; is_near = rest.is_near; reaches = edge_on a c rest.near path.0 rest.is_event path.1 rest.reaches; edge = rest.edge }

  pub last_edge : (a b : Place) → HappensBefore js a b → LastEdge a b
  last_edge a b path = last_of_path path.between a b path.is_path

  -- how an event comes into the past of a thread's first events by the last of them: it was there, it is that event, or a mark took it in
  pub data Added (t k : ℕ) (a : Place) : Type 0 where
    Before : InPast js t k a → Added t k a
    Itself : a ≡ place t k → Added t k a
    ByJoin : (from upto : ℕ) → event_at js (place t k) ≡ Some (Marked (Join from upto)) → InPast js from upto a → Added t k a
    ByDraw : (first then : ℕ) (draw : Place) → event_at js draw ≡ Some (Marked (Draw first)) → event_at js (place t k) ≡ Some (Marked (Draw then)) → first < then → Reaches js a draw → Added t k a
    ByFence : (first upto : ℕ) (draw : Place) → event_at js draw ≡ Some (Marked (Draw first)) → event_at js (place t k) ≡ Some (Marked (Fence upto)) → first ≤ upto → Reaches js a draw → Added t k a

  by_last : (t k : ℕ) (a near : Place) → IsEvent js a → Reaches js a near → Edge js near (place t k) → Added t k a
  by_last t k a near is reaches (ProgramOrder same next) =
      let there : near ≡ place t near.event = λ i. record { thread = same i; event = near.event } in
      Before (record { is_event = is; near = near.event; below = omega arith; reaches = subst (λ (p : Place). Reaches js a p) there reaches })
  by_last t k a near is reaches (Joined upto at_k below) = ByJoin near.thread upto at_k (record { is_event = is; near = near.event; below = below; reaches = reaches })
  by_last t k a near is reaches (Drawn first then at_near at_k below) = ByDraw first then near at_near at_k below reaches
  by_last t k a near is reaches (Fenced first upto at_near at_k below) = ByFence first upto near at_near at_k below reaches

  pub added : (t k : ℕ) (a : Place) → InPast js t (suc k) a → Added t k a
  added t k a h =
      elim (cases_lt h.near k) [
        | inl lt ↦ Before (record { is_event = h.is_event; near = h.near; below = lt; reaches = h.reaches })
        | inr le ↦
            let same : h.near ≡ k = omega (arith, h.below) in
            at_last (subst (λ (n : ℕ). Reaches js a (place t n)) same h.reaches)
      ]
    where
      at_last : Reaches js a (place t k) → Added t k a
      at_last (inl here) = Itself here
      at_last (inr path) = let last = last_edge a (place t k) path in by_last t k a last.near last.is_event last.reaches last.edge

  -- no mark is at the place
  abbrev pub IsUnmarked : ℕ → ℕ → Type 0
  IsUnmarked t k = (mark : Mark) → event_at js (place t k) ≡ Some (Marked mark) → ⊥

  -- an event that is no mark adds itself alone
  pub unmarked_adds : (t k : ℕ) (a : Place) → IsUnmarked t k → InPast js t (suc k) a → InPast js t k a ⊎ (a ≡ place t k)
  unmarked_adds t k a quiet h = go (added t k a h)
    where
      go : Added t k a → InPast js t k a ⊎ (a ≡ place t k)
      go (Before was) = inl was
      go (Itself here) = inr here
      go (ByJoin from upto is past) = absurd (quiet (Join from upto) is)
      go (ByDraw first then draw at_draw is below reaches) = absurd (quiet (Draw then) is)
      go (ByFence first upto draw at_draw is below reaches) = absurd (quiet (Fence upto) is)

  -- so do events that add nothing else
  pub nothing_added : (more t k now : ℕ) (a : Place) → k + more ≡ now → ((i : ℕ) → k ≤ i → i < now → AddsNothing js t i) → InPast js t now a
      → InPast js t k a ⊎ ((a.thread ≡ t) × (a.event < now))
  nothing_added zero t k now a is quiet h = inl (subst (λ (n : ℕ). InPast js t n a) (omega arith) h)
  nothing_added (suc more) t k now a is quiet h =
      let same : suc (k + more) ≡ now = omega arith in
      let h' = subst (λ (n : ℕ). InPast js t n a) (sym same) h in
      elim (quiet (k + more) (omega arith) (omega arith) a h') [
        | inl was ↦ elim (nothing_added more t k (k + more) a refl (λ i low high. quiet i low (omega arith)) was) [
          | inl there ↦ inl there
          | inr own ↦ inr (own.0, omega (arith, own.1))
        ]
        | inr here ↦ inr (ap (λ (p : Place). p.thread) here, (let e = ap (λ (p : Place). p.event) here in omega arith))
      ]
