-- Updates add up.
use Rattle.std.proofs.Common.{◌≡◌, ℕ, zero, suc, ◌+◌, ◌-◌, ◌%◌, ◌^◌, ◌<◌, inl, inr, Bool, if◌then◌else◌, List, [], ◌∷◌, ◌++◌, length, take, drop, map, Option, Some, slice_get, slice_index, sum_by, refl, sym, ap, ◌∙◌, subst, arith, length-set}
use Rattle.std.proofs.lemmas.Bool.{cases_eq, cases_lt, eq-eqb, ne_eqb}
use Rattle.std.proofs.lemmas.List.{get_or_past, get_or-set_same, get_or-set_other, length-map}
use Rattle.std.proofs.lemmas.List.Sums.{sum_by-cons, sum_by-append, sum_by-set}
use Rattle.octet_model.specs.declared.command.Command.{Command}
use Rattle.octet_model.specs.declared.event.Event.{Event}
use Rattle.octet_model.specs.declared.event.Event.TheVariants.{Write, Update}
use Rattle.octet_model.specs.declared.event.Mark.{Mark}
use Rattle.octet_model.specs.declared.event.Place.{Place}
use Rattle.octet_model.specs.declared.log.ThreadLog.{ThreadLog}
use Rattle.octet_model.specs.declared.object.Object.{Object}
use Rattle.octet_model.specs.declared.outcome.Outcome.{Outcome}
use Rattle.octet_model.specs.declared.script.Script.{Script}
use Rattle.octet_model.specs.Thread.{Configuration, AccessOrEnd, added, demanded, configuration_after, starting_configuration, FitsFrom, FitsUpdate}
use Rattle.octet_model.specs.Machine.{Journals, journal_of, PlainState, no_events, Operation, MakeWrite, MakeUpdate, event_made, heap_after, appended, performed}
use Rattle.octet_model.specs.HappensBefore.{event_at}
use Rattle.octet_model.specs.Orders.{commands_of, thread_log_of, by_log, starting_heap, opening_state, journals_after}
use Rattle.octet_model.specs.Totals.{OnlyBumped, difference, added_by, added_to, demanded_at, amount_of}
use Rattle.octet_model.specs.Laws.{FaithfulAddsUp}
use Rattle.octet_model.proofs.lemmas.Lists.{slice_get_parts}
use Rattle.octet_model.proofs.lemmas.Splits.{fits_split}
use Rattle.octet_model.proofs.lemmas.Steps.{count, stays_appended, new_event, Makes, by_front}
use Rattle.octet_model.proofs.lemmas.LowestFronts.{IsNext, next_by}
use Rattle.octet_model.proofs.lemmas.LawfulOrders.{lawful_order_fits}

-- an update of a journal that fits is what is demanded there
update_fits : (commands : List Command) (c : Configuration) (journal : List Event) (k object before after : ℕ) → FitsFrom commands c journal → slice_get journal k ≡ Some (Update object before after)
    → FitsUpdate (demanded commands (configuration_after commands c (take k journal))) object before after
update_fits commands c journal k object before after fits is =
    (fits_split commands c (take k journal) (Update object before after ∷ drop (suc k) journal) (subst (FitsFrom commands c) (slice_get_parts journal k (Update object before after) is) fits)).0

update_adds : (demand : AccessOrEnd) (object before after : ℕ) → FitsUpdate demand object before after → difference before after ≡ amount_of demand % 2 ^ 64
update_adds demand object before after fits = omega (arith, fits.2, ap amount_of fits.1)

-- by a log, an update adds an amount
abbrev Adds : Operation → Type 0
Adds (MakeUpdate object change) = (amount : ℕ) × (change ≡ added amount)
Adds _ = Unit {0}

what_it_adds : (due : Option Mark) (demand : AccessOrEnd) (left : Bool) (o : Operation) → IsNext due demand left o → Adds o
what_it_adds due demand left (MakeUpdate object change) next = (next.0.0, next.0.2)
what_it_adds due demand left other next = tt

-- an operation that is no write of an object adds to its value what its event adds
module _ (heap : List ℕ) (object : ℕ) (within : object < length heap) (small : slice_index heap object < 2 ^ 64) where
  own_update : (change : ℕ → ℕ) → Adds (MakeUpdate object change) → slice_index (heap_after (MakeUpdate object change) heap) object ≡ (slice_index heap object + added_by object (event_made (MakeUpdate object change) heap)) % 2 ^ 64
  own_update change adds =
      let before = slice_index heap object in
      let changed : change before ≡ (before + adds.0) % 2 ^ 64 = ap (λ (f : ℕ → ℕ). f before) adds.1 in
      let event : added_by object (event_made (MakeUpdate object change) heap) ≡ (change before + 2 ^ 64 - before % 2 ^ 64) % 2 ^ 64 =
      ap (λ (b : Bool). if b then difference before (change before) else 0) (eq-eqb object object refl) in
      omega (arith, get_or-set_same heap object (change before) 0 within, changed, event)

  adds : (o : Operation) → Adds o → ((value : ℕ) → event_made o heap ≡ Write object value → ⊥) → slice_index (heap_after o heap) object ≡ (slice_index heap object + added_by object (event_made o heap)) % 2 ^ 64
  adds (MakeWrite other x) it none =
      elim (cases_eq object other) [
        | inl same ↦ absurd (none x (ap (λ (n : ℕ). Write n x) (sym same)))
        | inr differ ↦ omega (arith, get_or-set_other heap other object x 0 differ)
      ]
  adds (MakeUpdate other change) it none =
      elim (cases_eq other object) [
        | inl same ↦ rw same (own_update change it)
        | inr differ ↦
            let before = slice_index heap other in
            let event : added_by object (event_made (MakeUpdate other change) heap) ≡ 0 = ap (λ (b : Bool). if b then difference before (change before) else 0) (ne_eqb other object differ) in
            omega (arith, get_or-set_other heap other object (change before) 0 (λ e. differ (sym e)), event)
      ]
  adds other it none = omega arith

length_after : (o : Operation) (heap : List ℕ) → length (heap_after o heap) ≡ length heap
length_after (MakeWrite object value) heap = length-set heap object value
length_after (MakeUpdate object change) heap = length-set heap object (change (slice_index heap object))
length_after other heap = refl

added_appended : (object : ℕ) (js : Journals) (t : ℕ) (e : Event) → t < length js → added_to object (appended js t e) ≡ added_to object js + added_by object e
added_appended object js t e lt =
    omega (arith, sum_by-set (λ (j : List Event). sum_by (added_by object) j) js t (journal_of js t ++ e ∷ []) [] lt, sum_by-append (added_by object) (journal_of js t) (e ∷ []), sum_by-cons (added_by object) e [])

none_added : {A : Type 0} (object : ℕ) (threads : List A) → added_to object (no_events threads) ≡ 0
none_added object [] = refl
none_added object (x ∷ threads) = omega (arith, sum_by-cons (λ (j : List Event). sum_by (added_by object) j) [] (no_events threads), none_added object threads)

small_start : (objects : List Object) (k : ℕ) → slice_index (map (λ object. object.start) objects) k < 2 ^ 64
small_start [] k = omega arith
small_start (object ∷ objects) zero = object.fits
small_start (object ∷ objects) (suc k) = small_start objects k

module _ (script : Script) (log : List ThreadLog) (object : ℕ) (there : object < length script.objects) where
  record IsTotal (s : PlainState) : Type 0 where
    len : length s.heap ≡ length script.objects
    total : OnlyBumped s.journals object → slice_index s.heap object ≡ (slice_index (starting_heap script) object + added_to object s.journals) % 2 ^ 64

  still_total : (s : PlainState) (t : ℕ) (o : Operation) → Makes (by_log script log) s t o → IsTotal s → IsTotal (performed s t o)
  still_total s t o m is = record {
    len = length_after o s.heap ∙ is.len;
    total = λ only.
        let e = event_made o s.heap in
        let now = is.total (λ place value written. only place value (stays_appended s.journals t place.thread place.event e (Write object value) written)) in
        let small : slice_index s.heap object < 2 ^ 64 = omega (arith, now) in
        let no_write : (value : ℕ) → e ≡ Write object value → ⊥ = λ value written. only (record { thread = t; event = count s.journals t }) value (new_event s.journals t e m.within ∙ ap Some written) in
        let it = what_it_adds _ _ _ o (next_by (commands_of script t) (starting_configuration script.fuel) (thread_log_of log t) (journal_of s.journals t) o m.wanted) in
        omega (arith, now, adds s.heap object (omega (arith, is.len, there)) small o it no_write, added_appended object s.journals t e m.within);
  }

  opening_total : IsTotal (opening_state script)
  opening_total = record {
    len = length-map script.objects (λ (o : Object). o.start);
    total = λ only. omega (arith, none_added object script.threads, small_start script.objects object);
  }

pub faithful_adds_up : FaithfulAddsUp
faithful_adds_up script log outcome faithful order lawful =
    let journals = journals_after script log order in
    let there : (place : Place) (e : Event) → event_at journals place ≡ Some e → place.thread < length journals = λ place e is.
    elim (cases_lt place.thread (length journals)) [
      | inl lt ↦ lt
      | inr past ↦ absurd (let none = ap (λ (j : List Event). slice_get j place.event) (get_or_past journals place.thread [] past) in cc)
    ] in
    record {
      totals = λ object within only.
          ap (λ (o : Outcome). slice_index o.heap object) (sym (faithful.outcomes order lawful))
          ∙ (by_front (by_log script log) (IsTotal script log object within) (still_total script log object within) order (opening_state script) lawful.1.0 (opening_total script log object within)).total only;
      each = λ place object before after is.
          let fits = (lawful_order_fits script log order lawful place.thread (there place (Update object before after) is)).0 in
          let fit = update_fits (commands_of script place.thread) (starting_configuration script.fuel) (journal_of journals place.thread) place.event object before after fits is in
          (fit, update_adds (demanded_at script journals place) object before after fit);
    }
