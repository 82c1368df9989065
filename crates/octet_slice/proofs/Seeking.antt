-- What a tracer tells, of which one event is sought.
use Rattle.std.proofs.Common.{◌≡◌, ◌≢◌, ℕ, suc, ◌+◌, ◌^◌, ◌<◌, Bool, true, false, List, [], ◌∷◌, length, take, drop, Option, Some, None, sym, ap, ◌∙◌, subst, arith}
use Rattle.std.specs.List.{All}
use Rattle.std.proofs.lemmas.List.{take_all}
use Rattle.std.proofs.lemmas.List.Elements.{All-cons, All-nil, All-append, All-get_or}
use Rattle.std.proofs.lemmas.Option.{slice_get_within, get_or_from_slice_get}
use Rattle.octet_model.specs.declared.event.Event.{Event}
use Rattle.octet_model.specs.declared.event.Place.{Place}
use Rattle.octet_model.specs.declared.log.Log.{Log}
use Rattle.octet_model.specs.declared.log.ThreadLog.{ThreadLog}
use Rattle.octet_model.specs.declared.script.Script.{Script}
use Rattle.octet_model.specs.HappensBefore.{event_at}
use Rattle.octet_model.specs.Orders.{journals_after, lowest_order}
use Rattle.octet_model.specs.Traces.{trace_of}
use Rattle.octet_model.proofs.lemmas.Lists.{slice_get_parts}
use Rattle.octet_replay.specs.TracerState.{TracerState, TellsNext}
use Rattle.octet_replay.proofs.lemmas.Traces.{take_all_told, take_told, told_within, trace_has_all}
use Rattle.octet_slice.specs.declared.finding.Found.{Found}
use Rattle.octet_slice.specs.FirstMatch.{IsFirstMatch, IsFound}
use Rattle.octet_slice.specs.Replaying.{IsReplayedTo, MakesEventAt}
use Rattle.octet_slice.proofs.Traced.{order_is_short, stands_told, told_stands}

abbrev trace : TracerState → List (Place × Event)
trace t = trace_of t.script t.log.threads

-- what holds of all events told, and of the next, holds of all told then
all_on : (P : Place × Event → Type 0) (t after : TracerState) (item : Place × Event) → TellsNext t (Some item) after → All P (take t.told (trace t)) → P item → All P (take after.told (trace after))
all_on P t after item tells all new = subst (λ (l : List (Place × Event)). All P l) (sym (take_told t after item tells)) (All-append P (take t.told (trace t)) (item ∷ []) all (All-cons P item [] new (All-nil P)))

-- ---- the first that a test accepts

module _ (answers : Event → Bool → Type 0) (begun t after : TracerState) (same_script : t.script ≡ begun.script) (same_log : t.log ≡ begun.log) (refused : All (λ (item : Place × Event). answers item.1 false) (take t.told (trace t))) where
  same_trace : trace t ≡ trace begun
  same_trace = λ i. trace_of (same_script i) ((same_log i).threads)

  pub refused_on : (place : Place) (event : Event) → TellsNext t (Some (place, event)) after → answers event false → All (λ (item : Place × Event). answers item.1 false) (take after.told (trace after))
  refused_on place event tells no_match = all_on (λ (item : Place × Event). answers item.1 false) t after (place, event) tells refused no_match

  pub first_here : (place : Place) (event : Event) → TellsNext t (Some (place, event)) after → answers event true → IsFirstMatch answers (trace begun) place event
  first_here place event tells accepted = record {
    before = take t.told (trace t);
    rest = drop (suc t.told) (trace t);
    parts = sym same_trace ∙ slice_get_parts (trace t) t.told (place, event) tells.0;
    accepted = accepted;
    refused = refused;
  }

  pub refused_all : TellsNext t None after → All (λ (item : Place × Event). answers item.1 false) (trace begun)
  refused_all tells = subst (λ (l : List (Place × Event)). All (λ (item : Place × Event). answers item.1 false) l) (take_all_told t after tells ∙ same_trace) refused

-- the same, of what a tracer began with
pub found_from : (answers : Event → Bool → Type 0) (script : Script) (log : Log) (begun : TracerState) (found : Found) → begun ≡ record { script = script; log = log; told = 0 }
    → IsFound answers (trace begun) found → IsFound answers (trace_of script log.threads) found
found_from answers script log begun found begins is = subst (λ (t : TracerState). IsFound answers (trace t) found) begins is

-- ---- the event at a place

-- the event at the place, or none where it was not told yet
pub record KeepsEvent (script : Script) (log : List ThreadLog) (place : Place) (told : ℕ) (found : Option Event) : Type 0 where
  pub is_event : (event : Event) → found ≡ Some event → event_at (journals_after script log (lowest_order script log)) place ≡ Some event
  pub not_told : found ≡ None → All (λ (item : Place × Event). item.0 ≢ place) (take told (trace_of script log))

module _ (t after : TracerState) (place at : Place) (event : Event) (tells : TellsNext t (Some (at, event)) after) where
  pub keeps_it : at ≡ place → KeepsEvent after.script after.log.threads place after.told (Some event)
  keeps_it is = subst (λ (x : TracerState). KeepsEvent x.script x.log.threads place x.told (Some event)) (sym tells.1) (record {
    is_event = λ other same.
        let one : event ≡ other = cc in
        subst (λ (p : Place). event_at (journals_after t.script t.log.threads (lowest_order t.script t.log.threads)) p ≡ Some other) is
        (told_stands t.script t.log.threads t.told (at, event) tells.0 ∙ ap (λ (e : Event). Some e) one);
    not_told = λ never. absurd cc;
  })

  pub keeps_on : (found : Option Event) → at ≢ place → KeepsEvent t.script t.log.threads place t.told found → KeepsEvent after.script after.log.threads place after.told found
  keeps_on found differ keeps = record {
    is_event = λ e is. subst (λ (x : TracerState). event_at (journals_after x.script x.log.threads (lowest_order x.script x.log.threads)) place ≡ Some e) (sym tells.1) (keeps.is_event e is);
    not_told = λ is. all_on (λ (item : Place × Event). item.0 ≢ place) t after (at, event) tells (keeps.not_told is) differ;
  }

-- where all was told, it was
was_told : (script : Script) (log : List ThreadLog) (told : ℕ) (place : Place) (found : Option Event) → MakesEventAt script log place → KeepsEvent script log place told found → told ≡ length (trace_of script log) → found ≢ None
was_told script log told place found makes keeps all_told none =
    let there = stands_told script log place makes.0 makes.1 in
    let all = subst (λ (l : List (Place × Event)). All (λ (item : Place × Event). item.0 ≢ place) l) (take_all told (trace_of script log) (omega (arith, all_told))) (keeps.not_told none) in
    let other = All-get_or (λ (item : Place × Event). item.0 ≢ place) (trace_of script log) there.0 (place, there.1) (slice_get_within (trace_of script log) there.0 (place, there.1) there.2) all in
    other (ap (λ (item : Place × Event). item.0) (get_or_from_slice_get (trace_of script log) there.0 (place, there.1) (place, there.1) there.2))

pub same_place : (a : Place) (thread event : ℕ) → a.thread ≡ thread → a.event ≡ event → a ≡ record { thread = thread; event = event }
same_place a thread event p q = λ i. record { thread = p i; event = q i }

module _ (script : Script) (log : Log) (agree : length script.threads ≡ length log.threads) (t after : TracerState) (is_script : t.script ≡ script) (is_log : t.log ≡ log) where
  here : (P : Script → Log → Type 0) → P t.script t.log → P script log
  here P holds = subst (λ (s : Script). P s log) is_script (subst (λ (l : Log). P t.script l) is_log holds)

  -- there is room to count one more
  pub few_told : (item : Place × Event) → TellsNext t (Some item) after → t.told + 1 < 2 ^ 64
  few_told item tells =
      omega (arith, here (λ s l. t.told < length (trace_of s l.threads)) (told_within t after item tells), trace_has_all script log.threads, order_is_short script log.threads agree log.valid)

  module _ (place : Place) (found : Option Event) (tells : TellsNext t None after) (keeps : KeepsEvent t.script t.log.threads place t.told found) where
    pub never_none : MakesEventAt script log.threads place → found ≢ None
    never_none makes none =
        was_told script log.threads t.told place found makes (here (λ s l. KeepsEvent s l.threads place t.told found) keeps)
        (here (λ s l. t.told ≡ length (trace_of s l.threads)) tells.0) none

    pub replayed_to : (event : Event) (made : ℕ) → found ≡ Some event → made ≡ t.told → IsReplayedTo script log.threads place (record { event = event; made = made })
    replayed_to event made is counts = record {
      is_event = (here (λ s l. KeepsEvent s l.threads place t.told found) keeps).is_event event is;
      made = counts ∙ here (λ s l. t.told ≡ length (trace_of s l.threads)) tells.0 ∙ trace_has_all script log.threads;
    }
