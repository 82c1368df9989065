-- In a whole play edges lead forward, so journals are ordered exactly where each step is joined up with all earlier conflicts.
use Rattle.std.proofs.Common.{◌≡◌, ℕ, suc, ◌-◌, ◌<◌, ◌≤◌, ◌⊎◌, inl, inr, List, [], ◌∷◌, ◌++◌, length, sym, ap, ◌∙◌, subst, arith}
use Rattle.std.proofs.lemmas.Bool.{cases_lt}
use Rattle.octet_model.specs.declared.event.Mark.TheVariants.{Join, Draw, Fence}
use Rattle.octet_model.specs.declared.event.Event.TheVariants.{Marked}
use Rattle.octet_model.specs.declared.event.Place.{Place}
use Rattle.octet_model.specs.Machine.{Journals}
use Rattle.octet_model.specs.HappensBefore.{Edge, ProgramOrder, Joined, Drawn, Fenced, IsPath, HappensBefore, Conflict, IsOrdered}
use Rattle.octet_model.proofs.lemmas.Growth.{swapped}
use Rattle.octet_clock.specs.Play.{made_by, step_place, IsMadeBefore, IsWholePlay}
use Rattle.octet_clock.specs.Verdict.{FollowsConflicts, IsFirstUnordered}
use Rattle.octet_clock.proofs.plays.Walk.{index_in, index_of, step_at_place, made_one, made_grows, join_names, draw_is_next, fence_names, drawn_is_made}

module _ (js : Journals) (play : List ℕ) (whole : IsWholePlay js play) where
  -- the event of an earlier step is made
  pub is_made : (i n : ℕ) (a : Place) → i < n → n ≤ length play → step_place play i ≡ a → IsMadeBefore play n a
  is_made i n a lt le is =
      let e = ap (λ (p : Place). p.event) is in
      let t = ap (λ (p : Place). p.thread) is in
      let same = ap (made_by play i) t in
      omega (arith, made_one play i a.thread (omega arith) t, made_grows play a.thread (n - suc i) (suc i) n (omega arith) le)

  -- what has an edge to the event of a step is made before it
  edge_to_step : (a b : Place) (i : ℕ) → i < length play → step_place play i ≡ b → Edge js a b → IsMadeBefore play i a
  edge_to_step a b i lt is (ProgramOrder same next) =
      let e = ap (λ (p : Place). p.event) is in
      let t = ap (made_by play i) (ap (λ (p : Place). p.thread) is ∙ sym same) in
      omega arith
  edge_to_step a b i lt is (Joined upto is_b below) =
      omega (arith, join_names js play whole i b.thread a.thread upto (step_at_place js play whole i b (Marked (Join a.thread upto)) lt is is_b))
  edge_to_step a b i lt is (Drawn first then is_a is_b below) =
      let n = draw_is_next js play whole i b.thread then (step_at_place js play whole i b (Marked (Draw then)) lt is is_b) in
      drawn_is_made js play whole i a first (omega arith) is_a (omega arith)
  edge_to_step a b i lt is (Fenced number upto is_a is_b below) =
      let n = fence_names js play whole i b.thread upto (step_at_place js play whole i b (Marked (Fence upto)) lt is is_b) in
      drawn_is_made js play whole i a number (omega arith) is_a (omega arith)

  path_to_step : (between : List Place) (a b : Place) (i : ℕ) → i < length play → step_place play i ≡ b → IsPath js (a ∷ (between ++ b ∷ [])) → IsMadeBefore play i a
  path_to_step [] a b i lt is path = edge_to_step a b i lt is path.1
  path_to_step (c ∷ between) a b i lt is path =
      let made = path_to_step between c b i lt is path.2 in
      let j = index_of play i c (omega arith) made in
      let sooner = edge_to_step a c j.0 (omega (arith, j.1)) j.2 path.1 in
      omega (arith, sooner, made_grows play a.thread (i - j.0) j.0 i (omega (arith, j.1)) (omega arith))

  -- what happens before the event of a step is made before it
  pub before_step : (a b : Place) (i : ℕ) → i < length play → step_place play i ≡ b → HappensBefore js a b → IsMadeBefore play i a
  before_step a b i lt is path = path_to_step path.between a b i lt is path.is_path

  -- where each step is joined up, the journals are ordered
  pub ordered_by_steps : ((i : ℕ) → i < length play → FollowsConflicts js play i) → IsOrdered js
  ordered_by_steps joined a b c =
      let i = index_in js play whole a (c.first, c.is_first) in
      let j = index_in js play whole b (c.second, c.is_second) in
      elim (cases_lt i.0 j.0) [
        | inl below ↦
            let c' = subst (λ (p : Place). Conflict js a p) (sym j.2) c in
            inl (subst (λ (p : Place). HappensBefore js a p) j.2 (joined j.0 j.1 a (record { earlier = is_made i.0 j.0 a below (omega (arith, j.1)) i.2; conflict = c' })))
        | inr above ↦ elim (cases_lt j.0 i.0) [
          | inl below ↦
              let c' = subst (λ (p : Place). Conflict js b p) (sym i.2) (swapped js a b c) in
              inr (subst (λ (p : Place). HappensBefore js b p) i.2 (joined i.0 i.1 b (record { earlier = is_made j.0 i.0 b below (omega (arith, i.1)) j.2; conflict = c' })))
          | inr same ↦
              let e : i.0 ≡ j.0 = omega arith in
              absurd (c.by_others (ap (λ (p : Place). p.thread) (sym i.2 ∙ ap (step_place play) e ∙ j.2)))
        ]
      ]

  -- and where some step is not, they are not
  pub unordered_by_pair : (first second : Place) → IsFirstUnordered js play first second → IsOrdered js → ⊥
  unordered_by_pair first second pair ordered =
      go (ordered first second (subst (λ (p : Place). Conflict js first p) pair.is_second pair.is_first.is_earlier.conflict))
    where
      go : HappensBefore js first second ⊎ HappensBefore js second first → ⊥
      go (inl path) = pair.is_first.apart (subst (λ (p : Place). HappensBefore js first p) (sym pair.is_second) path)
      go (inr path) =
          let i = index_of play pair.index first (omega (arith, pair.within)) pair.is_first.is_earlier.earlier in
          let back = before_step second first i.0 (omega (arith, i.1, pair.within)) i.2 path in
          let e = ap (λ (p : Place). p.event) pair.is_second in
          let t = ap (λ (p : Place). made_by play pair.index p.thread) pair.is_second in
          omega (arith, back, made_grows play second.thread (pair.index - i.0) i.0 pair.index (omega (arith, i.1)) (omega (arith, pair.within)))
