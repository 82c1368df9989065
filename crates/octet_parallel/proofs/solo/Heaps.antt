-- What one operation does to two heaps that agree on what it reads.
use Rattle.std.proofs.Common.{◌≡◌, ℕ, ◌⊎◌, inl, inr, List, length, slice_index, slice_set, refl, sym, ap, ◌∙◌, subst, arith}
use Rattle.std.proofs.lemmas.Bool.{cases_eq, cases_lt}
use Rattle.std.proofs.lemmas.List.{get_or-set_same, get_or-set_other, set_past}
use Rattle.octet_model.specs.declared.command.Command.{Command}
use Rattle.octet_model.specs.declared.event.Event.TheVariants.{Read, Update}
use Rattle.octet_model.specs.Machine.{Operation, MakeMark, MakeRead, MakeWrite, MakeUpdate, event_made, heap_after}
use Rattle.octet_parallel.specs.Apart.{Writes}
use Rattle.octet_parallel.proofs.solo.Named.{OperationNamed}

-- the object that the operation takes a value of, if it takes one, has the same on both
abbrev pub TakesAlike : Operation → List ℕ → List ℕ → Type 0
TakesAlike (MakeRead object) heap other = slice_index heap object ≡ slice_index other object
TakesAlike (MakeUpdate object change) heap other = slice_index heap object ≡ slice_index other object
TakesAlike _ heap other = Unit {0}

pub event_alike : (o : Operation) (heap other : List ℕ) → TakesAlike o heap other → event_made o heap ≡ event_made o other
event_alike (MakeMark mark) heap other alike = refl
event_alike (MakeRead object) heap other alike = ap (λ (value : ℕ). Read object value) alike
event_alike (MakeWrite object value) heap other alike = refl
event_alike (MakeUpdate object change) heap other alike = ap (λ (value : ℕ). Update object value (change value)) alike

-- one value put into both
put_alike : (heap other : List ℕ) (object place v w : ℕ) → v ≡ w → length heap ≡ length other → slice_index heap place ≡ slice_index other place
    → slice_index (slice_set heap object v) place ≡ slice_index (slice_set other object w) place
put_alike heap other object place v w one long alike =
    elim (cases_eq place object) [
      | inr differ ↦ get_or-set_other heap object place v 0 differ ∙ alike ∙ sym (get_or-set_other other object place w 0 differ)
      | inl same ↦ elim (cases_lt object (length heap)) [
        | inl lt ↦ rw same (get_or-set_same heap object v 0 lt ∙ one ∙ sym (get_or-set_same other object w 0 (omega (arith, lt, long))))
        | inr past ↦ ap (λ (h : List ℕ). slice_index h place) (set_past heap object v past) ∙ alike ∙ sym (ap (λ (h : List ℕ). slice_index h place) (set_past other object w (omega (arith, past, long))))
      ]
    ]

pub heaps_alike : (o : Operation) (heap other : List ℕ) (place : ℕ) → TakesAlike o heap other → length heap ≡ length other → slice_index heap place ≡ slice_index other place
    → slice_index (heap_after o heap) place ≡ slice_index (heap_after o other) place
heaps_alike (MakeMark mark) heap other place takes long alike = alike
heaps_alike (MakeRead object) heap other place takes long alike = alike
heaps_alike (MakeWrite object value) heap other place takes long alike = put_alike heap other object place value value refl long alike
heaps_alike (MakeUpdate object change) heap other place takes long alike = put_alike heap other object place (change (slice_index heap object)) (change (slice_index other object)) (ap change takes) long alike

-- an operation writes an object, or leaves its value as it is
abbrev pub WrittenBy : Operation → ℕ → Type 0
WrittenBy (MakeWrite object value) place = object ≡ place
WrittenBy (MakeUpdate object change) place = object ≡ place
WrittenBy _ place = ⊥

pub writes_named : (commands : List Command) (o : Operation) (place : ℕ) → OperationNamed commands o → WrittenBy o place → Writes commands place
writes_named commands (MakeMark mark) place named written = absurd written
writes_named commands (MakeRead object) place named written = absurd written
writes_named commands (MakeWrite object value) place named written = subst (Writes commands) written named
writes_named commands (MakeUpdate object change) place named written = subst (Writes commands) written named

pub written_or_kept : (o : Operation) (place : ℕ) → WrittenBy o place ⊎ ((heap : List ℕ) → slice_index (heap_after o heap) place ≡ slice_index heap place)
written_or_kept (MakeMark mark) place = inr (λ heap. refl)
written_or_kept (MakeRead object) place = inr (λ heap. refl)
written_or_kept (MakeWrite object value) place = elim (cases_eq object place) [ inl same ↦ inl same | inr differ ↦ inr (λ heap. get_or-set_other heap object place value 0 (λ e. differ (sym e))) ]
written_or_kept (MakeUpdate object change) place =
    elim (cases_eq object place) [ inl same ↦ inl same | inr differ ↦ inr (λ heap. get_or-set_other heap object place (change (slice_index heap object)) 0 (λ e. differ (sym e))) ]
