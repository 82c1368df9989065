-- The laws of pasts.
use Rattle.std.proofs.Common.{◌≡◌, ℕ, zero, suc, ◌+◌, ◌-◌, ◌<◌, ◌≤◌, ◌⊎◌, inl, inr, List, [], ◌∷◌, ◌++◌, length, Some, get_or, refl, sym, ap, ◌∙◌, subst, arith}
use Rattle.std.proofs.lemmas.Bool.{cases_eq}
use Rattle.std.proofs.lemmas.Option.{slice_get_within, slice_get-get_or}
use Rattle.octet_model.specs.declared.event.Event.{Event}
use Rattle.octet_model.specs.declared.event.Event.TheVariants.{Read, Marked}
use Rattle.octet_model.specs.declared.event.Mark.TheVariants.{Join, Draw, Fence}
use Rattle.octet_model.specs.declared.event.Place.{Place}
use Rattle.octet_model.specs.Machine.{Journals, journal_of, appended}
use Rattle.octet_model.specs.HappensBefore.{event_at, Edge, ProgramOrder, Joined, Drawn, Fenced, IsEvent, IsPath, HappensBefore}
use Rattle.octet_model.specs.Past.{Reaches, InPast, DrawsDiffer}
use Rattle.octet_model.proofs.lemmas.Steps.{stays_appended}
use Rattle.octet_model.proofs.lemmas.Growth.{path_longer}

abbrev pub place : ℕ → ℕ → Place
place thread event = record { thread = thread; event = event }

module _ (js : Journals) where
  join_paths : (between : List Place) (a b c : Place) (more : List Place) → IsPath js (a ∷ (between ++ b ∷ [])) → IsPath js (b ∷ (more ++ c ∷ [])) → IsPath js (a ∷ ((between ++ b ∷ more) ++ c ∷ []))
  join_paths [] a b c more p q = (p.0, p.1, q)
  join_paths (d ∷ between) a b c more p q = (p.0, p.1, join_paths between d b c more p.2 q)

  -- paths join end to end
  pub path_on : (a b c : Place) → HappensBefore js a b → HappensBefore js b c → HappensBefore js a c
  path_on a b c p q = record { between = p.between ++ b ∷ q.between; is_path = join_paths p.between a b c q.between p.is_path q.is_path }

  pub by_edge : (a b : Place) → IsEvent js a → IsEvent js b → Edge js a b → HappensBefore js a b
  by_edge a b is_a is_b edge = record { between = []; is_path = (is_a, edge, is_b) }

  pub reaches_on : (a b c : Place) → Reaches js a b → HappensBefore js b c → HappensBefore js a c
  reaches_on a b c (inl same) q = subst (λ (p : Place). HappensBefore js p c) (sym same) q
  reaches_on a b c (inr p) q = path_on a b c p q

  earlier_event : (t i j : ℕ) → i ≤ j → IsEvent js (place t j) → IsEvent js (place t i)
  earlier_event t i j le is =
      let within = slice_get_within (journal_of js t) j is.0 is.1 in
      (get_or (journal_of js t) i (Read 0 0), slice_get-get_or (journal_of js t) i (Read 0 0) (omega arith))

  -- an event has a path to each later one of its thread
  pub along_journal_by : (more t i j : ℕ) → suc (i + more) ≡ j → IsEvent js (place t j) → HappensBefore js (place t i) (place t j)
  along_journal_by zero t i j is is_j = by_edge (place t i) (place t j) (earlier_event t i j (omega arith) is_j) is_j (ProgramOrder refl (omega arith))
  along_journal_by (suc more) t i j is is_j =
      let mid = earlier_event t (suc (i + more)) j (omega arith) is_j in
      path_on (place t i) (place t (suc (i + more))) (place t j) (along_journal_by more t i (suc (i + more)) refl mid) (by_edge (place t (suc (i + more))) (place t j) mid is_j (ProgramOrder refl (omega arith)))

  pub along_journal : (t i j : ℕ) → i < j → IsEvent js (place t j) → HappensBefore js (place t i) (place t j)
  along_journal t i j lt is = along_journal_by (j - suc i) t i j (omega arith) is

  pub past_has_own : (t k i : ℕ) → i < k → IsEvent js (place t i) → InPast js t k (place t i)
  past_has_own t k i lt is = record { is_event = is; near = i; below = lt; reaches = inl refl }

  pub past_happens_before : (t k j : ℕ) (a : Place) → InPast js t k a → k ≤ j → IsEvent js (place t j) → HappensBefore js a (place t j)
  past_happens_before t k j a h le is = reaches_on a (place t h.near) (place t j) h.reaches (along_journal t h.near j (omega (arith, h.below)) is)

  path_begins : (between : List Place) (a b : Place) → IsPath js (a ∷ (between ++ b ∷ [])) → IsEvent js a
  path_begins [] a b path = path.0
  path_begins (c ∷ between) a b path = path.0

  pub past_is_closed : (t k : ℕ) (a b : Place) → HappensBefore js a b → InPast js t k b → InPast js t k a
  past_is_closed t k a b p h = record { is_event = path_begins p.between a b p.is_path; near = h.near; below = h.below; reaches = inr (go h.reaches) }
    where
      go : Reaches js b (place t h.near) → HappensBefore js a (place t h.near)
      go (inl same) = subst (λ (q : Place). HappensBefore js a q) same p
      go (inr q) = path_on a b (place t h.near) p q

  pub past_grows : (t j k : ℕ) (a : Place) → j ≤ k → InPast js t j a → InPast js t k a
  past_grows t j k a le h = record { is_event = h.is_event; near = h.near; below = omega (arith, h.below); reaches = h.reaches }

  pub past_has_joined : (t k i u p : ℕ) (a : Place) → i < k → event_at js (place t i) ≡ Some (Marked (Join u p)) → p ≤ length (journal_of js u) → InPast js u p a → InPast js t k a
  past_has_joined t k i u p a lt is le h =
      let near_is : IsEvent js (place u h.near) = (get_or (journal_of js u) h.near (Read 0 0), slice_get-get_or (journal_of js u) h.near (Read 0 0) (omega (arith, h.below))) in
      let edge = by_edge (place u h.near) (place t i) near_is (Marked (Join u p), is) (Joined p is h.below) in
      record { is_event = h.is_event; near = i; below = lt; reaches = inr (reaches_on a (place u h.near) (place t i) h.reaches edge) }

  pub past_has_draws : (t k i c d : ℕ) (a : Place) → DrawsDiffer js → i < k
      → (event_at js (place t i) ≡ Some (Marked (Draw c))) ⊎ (event_at js (place t i) ≡ Some (Marked (Fence c)))
      → event_at js a ≡ Some (Marked (Draw d)) → d ≤ c → InPast js t k a
  past_has_draws t k i c d a differ lt (inl drawn) is le =
      elim (cases_eq d c) [
        | inl same ↦ record { is_event = (Marked (Draw d), is); near = i; below = lt; reaches = inl (differ a (place t i) c (is ∙ ap (λ (n : ℕ). Some (Marked (Draw n))) same) drawn) }
        | inr other ↦ record { is_event = (Marked (Draw d), is); near = i; below = lt; reaches = inr (by_edge a (place t i) (Marked (Draw d), is) (Marked (Draw c), drawn) (Drawn d c is drawn (omega arith))) }
      ]
  past_has_draws t k i c d a differ lt (inr fenced) is le =
      record { is_event = (Marked (Draw d), is); near = i; below = lt; reaches = inr (by_edge a (place t i) (Marked (Draw d), is) (Marked (Fence c), fenced) (Fenced d c is fenced le)) }

  -- with their pasts
  pub past_has_draws_whole : (t k i c d : ℕ) (a b : Place) → DrawsDiffer js → i < k
      → (event_at js (place t i) ≡ Some (Marked (Draw c))) ⊎ (event_at js (place t i) ≡ Some (Marked (Fence c)))
      → event_at js a ≡ Some (Marked (Draw d)) → d ≤ c → Reaches js b a → InPast js t k b
  past_has_draws_whole t k i c d a b differ lt seen is le (inl same) = subst (λ (p : Place). InPast js t k p) (sym same) (past_has_draws t k i c d a differ lt seen is le)
  past_has_draws_whole t k i c d a b differ lt seen is le (inr p) = past_is_closed t k b a p (past_has_draws t k i c d a differ lt seen is le)

-- an event in a past stays in it when journals grow
pub past_stays : (js : Journals) (u t k : ℕ) (e : Event) (a : Place) → InPast js t k a → InPast (appended js u e) t k a
past_stays js u t k e a h = record { is_event = (h.is_event.0, stays_appended js u a.thread a.event e h.is_event.0 h.is_event.1); near = h.near; below = h.below; reaches = go h.reaches }
  where
    go : Reaches js a (place t h.near) → Reaches (appended js u e) a (place t h.near)
    go (inl same) = inl same
    go (inr p) = inr (path_longer js u e a (place t h.near) p)
