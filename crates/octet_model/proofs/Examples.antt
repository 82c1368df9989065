-- Journals that are ordered, journals that are not, and journals that are not frugal.
use Rattle.std.proofs.Common.{◌≡◌, ℕ, zero, suc, ◌⊎◌, inl, inr, List, [], ◌∷◌, ◌++◌, Option, Some, None, slice_get, refl, sym, ap, ◌∙◌, arith}
use Rattle.std.specs.Option.{option_map, unwrap_or}
use Rattle.octet_model.specs.declared.event.Event.{Event}
use Rattle.octet_model.specs.declared.event.Event.TheVariants.{Read, Write, Marked}
use Rattle.octet_model.specs.declared.event.Mark.{Mark}
use Rattle.octet_model.specs.declared.event.Mark.TheVariants.{Join}
use Rattle.octet_model.specs.declared.event.Place.{Place}
use Rattle.octet_model.specs.Machine.{Journals, journal_of}
use Rattle.octet_model.specs.HappensBefore.{event_at, object_of, Edge, ProgramOrder, Joined, Drawn, Fenced, IsPath, HappensBefore, IsOrdered}
use Rattle.octet_model.specs.Frugal.{IsPrivate, IsFrugal}

-- a write and a read with no mark
abbrev unmarked : Journals
unmarked = (Write 0 7 ∷ []) ∷ (Read 0 7 ∷ []) ∷ []

no_mark : (p : Place) (mark : Mark) → event_at unmarked p ≡ Some (Marked mark) → ⊥
no_mark p mark is = go p.thread p.event is
  where
    go : (t k : ℕ) → slice_get (journal_of unmarked t) k ≡ Some (Marked mark) → ⊥
    go zero zero is = cc (is)
    go zero (suc k) is = cc (is)
    go (suc zero) zero is = cc (is)
    go (suc zero) (suc k) is = cc (is)
    go (suc (suc t)) k is = cc (is)

edge_within : (a b : Place) → Edge unmarked a b → a.thread ≡ b.thread
edge_within a b (ProgramOrder same next) = same
edge_within a b (Joined upto is_b below) = absurd (no_mark b _ is_b)
edge_within a b (Drawn first then is_a is_b below) = absurd (no_mark b _ is_b)
edge_within a b (Fenced number upto is_a is_b below) = absurd (no_mark b _ is_b)

path_within : (between : List Place) (a b : Place) → IsPath unmarked (a ∷ (between ++ b ∷ [])) → a.thread ≡ b.thread
path_within [] a b path = edge_within a b path.1
path_within (c ∷ between) a b path = edge_within a c path.1 ∙ path_within between c b path.2

unmarked_is_unordered : IsOrdered unmarked → ⊥
unmarked_is_unordered ordered =
    let a : Place = record { thread = 0; event = 0 } in
    let b : Place = record { thread = 1; event = 0 } in
    elim (ordered a b (record { first = Write 0 7; second = Read 0 7; object = 0; is_first = refl; is_second = refl; by_others = λ e. omega arith; of_one = refl; of_same = refl; one_writes = refl })) [
      | inl p ↦ omega (arith, path_within p.between a b p.is_path)
      | inr p ↦ omega (arith, path_within p.between b a p.is_path)
    ]

-- the same with a Join before the read
abbrev joined : Journals
joined = (Write 0 7 ∷ []) ∷ (Marked (Join 0 1) ∷ Read 0 7 ∷ []) ∷ []

-- its accesses are the first event of thread 0 and the second of thread 1
joined_accesses : (t k object : ℕ) (x : Event) → slice_get (journal_of joined t) k ≡ Some x → object_of x ≡ Some object
    → ((t ≡ 0) × (k ≡ 0)) ⊎ ((t ≡ 1) × (k ≡ 1))
joined_accesses zero zero object x is of = inl (refl, refl)
joined_accesses zero (suc k) object x is of = absurd (cc is)
joined_accesses (suc zero) zero object x is of =
    let same : ◌≡◌ {A = Option ℕ} None (Some object) = ap (λ (o : Option Event). unwrap_or (option_map object_of o) None) is ∙ of in
    absurd (cc same)
joined_accesses (suc zero) (suc zero) object x is of = inr (refl, refl)
joined_accesses (suc zero) (suc (suc k)) object x is of = absurd (cc is)
joined_accesses (suc (suc t)) k object x is of = absurd (cc is)

joined_path : (a b : Place) (first second : Event) → event_at joined a ≡ Some first → event_at joined b ≡ Some second
    → (a.thread ≡ 0) × (a.event ≡ 0) → (b.thread ≡ 1) × (b.event ≡ 1) → HappensBefore joined a b
joined_path a b first second is_first is_second at_a at_b =
    let join : Place = record { thread = 1; event = 0 } in
    let from : event_at joined join ≡ Some (Marked (Join a.thread 1)) = ap (λ (t : ℕ). Some (Marked (Join t 1))) (sym at_a.0) in
    let on : Edge joined join b = ProgramOrder (sym at_b.0) (sym at_b.1) in
    record {
      between = join ∷ [];
      is_path = ((first, is_first), Joined 1 from (omega (arith, at_a.1)), ((Marked (Join 0 1), refl), on, (second, is_second)));
    }

joined_is_ordered : IsOrdered joined
joined_is_ordered a b c =
    elim (joined_accesses a.thread a.event c.object c.first c.is_first c.of_one) [
      | inl a_first ↦ elim (joined_accesses b.thread b.event c.object c.second c.is_second c.of_same) [
        | inl b_first ↦ absurd (c.by_others (a_first.0 ∙ sym b_first.0))
        | inr b_second ↦ inl (joined_path a b c.first c.second c.is_first c.is_second a_first b_second)
      ]
      | inr a_second ↦ elim (joined_accesses b.thread b.event c.object c.second c.is_second c.of_same) [
        | inl b_first ↦ inr (joined_path b a c.second c.first c.is_second c.is_first b_first a_second)
        | inr b_second ↦ absurd (c.by_others (a_second.0 ∙ sym b_second.0))
      ]
    ]

-- a Join before the second access of an object that one thread has to itself
abbrev chained : Journals
chained = (Write 0 7 ∷ []) ∷ (Write 1 7 ∷ Marked (Join 0 1) ∷ Write 1 8 ∷ []) ∷ []

chained_is_not_frugal : IsFrugal chained → ⊥
chained_is_not_frugal frugal =
    let second : Place = record { thread = 1; event = 2 } in
    let first : Place = record { thread = 1; event = 0 } in
    elim (frugal.unmarked second 1 (Write 1 8, refl, refl) private) [
      | inl none ↦ cc none
      | inr joined ↦ omega (arith, joined.is_first first refl (Write 1 7, refl, refl))
    ]
  where
    by : (t k : ℕ) (x : Event) → slice_get (journal_of chained t) k ≡ Some x → object_of x ≡ Some 1 → t ≡ 1
    by zero zero x is of = let same : Some 0 ≡ Some 1 = ap (λ (o : Option Event). unwrap_or (option_map object_of o) None) is ∙ of in cc same
    by zero (suc k) x is of = cc is
    by (suc zero) k x is of = refl
    by (suc (suc t)) k x is of = cc is

    private : IsPrivate chained 1 1
    private place accesses = by place.thread place.event accesses.0 accesses.1 accesses.2
