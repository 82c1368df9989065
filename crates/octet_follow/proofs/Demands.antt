-- A thread that asks for what it demands stays one that did.
use Rattle.std.proofs.Common.{◌≡◌, ℕ, ◌⊎◌, inl, inr, List, [], ◌∷◌, ◌++◌, map, refl, sym, ap, ◌∙◌, subst, append-nil, append_assoc}
use Rattle.octet_model.specs.declared.event.Event.{Event}
use Rattle.octet_model.specs.declared.event.Event.TheVariants.{Marked}
use Rattle.octet_model.specs.declared.event.Mark.{Mark}
use Rattle.octet_rule.specs.Changes.{changed_by}
use Rattle.octet_follow.specs.declared.access.Access.{Access}
use Rattle.octet_follow.specs.declared.access.Access.TheVariants.{Read, Write, Update}
use Rattle.octet_follow.specs.Accesses.{event_of}
use Rattle.octet_follow.specs.Recordings.{Demand, IsDemanded, IsDemandedBy}
use Rattle.octet_follow.specs.Demands.{demand_of, IgnoresMarks, MakingKeepsDemanded, HaltingKeepsDemanded}

-- an event of a longer journal is one of the shorter, or the last
old_or_last : (j : List Event) (e : Event) (before : List Event) (event : Event) (later : List Event) → j ++ e ∷ [] ≡ before ++ event ∷ later
    → ((more : List Event) × (j ≡ before ++ event ∷ more)) ⊎ ((before ≡ j) × (event ≡ e))
old_or_last [] e [] event later is = inr (refl, (let same : event ≡ e = cc in same))
old_or_last [] e (b ∷ []) event later is = absurd cc
old_or_last [] e (b ∷ c ∷ before) event later is = absurd cc
old_or_last (x ∷ j) e [] event later is = inl (j, (let same : x ≡ event = cc in ap (λ (y : Event). y ∷ j) same))
old_or_last (x ∷ j) e (b ∷ before) event later is =
    let first : x ≡ b = cc in
    let rest : j ++ e ∷ [] ≡ before ++ event ∷ later = cc in
    elim (old_or_last j e before event later rest) [
      | inl old ↦ inl (old.0, ap (λ (y : Event). y ∷ j) first ∙ ap (λ (l : List Event). b ∷ l) old.1)
      | inr last ↦ inr (ap (λ (y : Event). y ∷ before) (sym first) ∙ ap (λ (l : List Event). x ∷ l) last.0, last.1)
    ]

module _ (thread : List Event → Demand) where
  pub demanded_more : (j : List Event) (e : Event) → IsDemandedBy thread j → IsDemanded (thread j) e → IsDemandedBy thread (j ++ e ∷ [])
  demanded_more j e all new before event later is =
      elim (old_or_last j e before event later is) [
        | inl old ↦ all before event old.0 old.1
        | inr last ↦ subst (λ (x : Event). IsDemanded (thread before) x) (sym last.1) (subst (λ (l : List Event). IsDemanded (thread l) e) (sym last.0) new)
      ]

  module _ (ignores : IgnoresMarks thread) where
    pub marks_on : (marks : List Mark) (j : List Event) → IsDemandedBy thread j → IsDemandedBy thread (j ++ map (λ mark. Marked mark) marks) × (thread (j ++ map (λ mark. Marked mark) marks) ≡ thread j)
    marks_on [] j all = (subst (IsDemandedBy thread) (sym (append-nil j)) all, ap thread (append-nil j))
    marks_on (mark ∷ marks) j all =
        let on = marks_on marks (j ++ Marked mark ∷ []) (demanded_more j (Marked mark) all tt) in
        let same = append_assoc j (Marked mark ∷ []) (map (λ mark. Marked mark) marks) in
        (subst (IsDemandedBy thread) same on.0, ap thread (sym same) ∙ (on.1 ∙ ignores j mark))

    pub is_demanded : (access : Access) (found : ℕ) (demand : Demand) → demand ≡ demand_of access → IsDemanded demand (event_of access found)
    is_demanded (Read object) found demand is = is
    is_demanded (Write object value) found demand is = is
    is_demanded (Update object change) found demand is = (changed_by change, is, refl)

pub making_keeps_demanded : MakingKeepsDemanded
making_keeps_demanded thread access v w value ignores all asks made =
    let on = marks_on thread ignores made.marks v.follower.journal all in
    let there : List Event = v.follower.journal ++ map (λ mark. Marked mark) made.marks in
    let grown : w.follower.journal ≡ there ++ event_of access made.found ∷ [] = made.grown ∙ sym (append_assoc v.follower.journal (map (λ mark. Marked mark) made.marks) (event_of access made.found ∷ [])) in
    subst (IsDemandedBy thread) (sym grown) (demanded_more thread there (event_of access made.found) on.0 (is_demanded thread ignores access made.found (thread there) (on.1 ∙ asks)))

pub halting_keeps_demanded : HaltingKeepsDemanded
halting_keeps_demanded thread v w ignores all made =
    let on = marks_on thread ignores made.marks v.follower.journal all in
    (subst (IsDemandedBy thread) (sym made.grown) on.0, ap thread made.grown ∙ on.1)
