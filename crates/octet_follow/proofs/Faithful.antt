-- A faithful recording of a plan is a recording of its threads.
use Rattle.std.proofs.Common.{◌≡◌, ◌∙◌, ℕ, Bool, true, false, List, map, refl, sym, ap, subst}
use Rattle.octet_model.specs.declared.event.Event.{Event}
use Rattle.octet_model.specs.declared.log.ThreadLog.{ThreadLog}
use Rattle.octet_model.specs.declared.outcome.Outcome.{Outcome}
use Rattle.octet_model.specs.Thread.{AccessOrEnd, ToRead, ToWrite, ToBump, ToEnd}
use Rattle.octet_model.specs.Machine.{Journals, no_events, PlainState, Behavior, after, IsOrder}
use Rattle.octet_model.specs.Journals.{next_access, mark_first}
use Rattle.octet_model.specs.Plans.{Plan, by_log, state_after, values_read}
use Rattle.octet_model.proofs.lemmas.LogsOfJournals.{same_start}
use Rattle.octet_follow.specs.declared.follower.Follower.{Follower}
use Rattle.octet_follow.specs.Recordings.{by_marks, IsRecording}
use Rattle.octet_follow.specs.Recordings as recordings
use Rattle.octet_follow.specs.Repeats.{RepeatsRecording}
use Rattle.octet_follow.specs.Faithful.{demand_in, threads_of, IsRecordingOf, FaithfulIsRecording, RepeatsPlan}

-- what a thread of a plan does next by its log is what it does by the marks of its log
same_access : (demand : AccessOrEnd) (a m : Bool) → next_access demand a m ≡ recordings.next_access (demand_in demand) a m
same_access (ToRead object) true m = refl
same_access (ToRead object) false m = refl
same_access (ToWrite object value) true m = refl
same_access (ToWrite object value) false m = refl
same_access (ToBump object amount) true m = refl
same_access (ToBump object amount) false m = refl
same_access (ToEnd end) true m = refl
same_access (ToEnd end) false true = refl
same_access (ToEnd end) false false = refl

same_next : (plan : Plan) (log : List ThreadLog) (thread : ℕ) (journal : List Event) → by_log plan log thread journal ≡ by_marks (threads_of plan) log thread journal
same_next plan log thread journal = ap (mark_first _) (same_access _ _ _)

same_behavior : (plan : Plan) (log : List ThreadLog) → by_log plan log ≡ by_marks (threads_of plan) log
same_behavior plan log = λ i thread journal. same_next plan log thread journal i

pub faithful_is_recording : FaithfulIsRecording
faithful_is_recording plan log outcome faithful =
    let V : Behavior = by_log plan log in
    let end : PlainState = state_after plan log faithful.order in
    let From : Behavior → Journals → Type 0 = λ W none. IsOrder W (record { heap = plan.starts; journals = none; draws = 0 }) faithful.order × (after W (record { heap = plan.starts; journals = none; draws = 0 }) faithful.order ≡ end) in
    let begun : From V (no_events log) = subst (From V) (same_start plan.threads log faithful.is_lawful.0) (faithful.is_lawful.1, refl) in
    let from = subst (λ (W : Behavior). From W (no_events log)) (same_behavior plan log) begun in
    record {
      end = end;
      recording = record {
        order = faithful.order;
        is_order = from.0;
        ends = from.1;
        ordered = faithful.ordered faithful.order faithful.is_lawful;
      };
      comes = faithful.outcomes faithful.order faithful.is_lawful;
    }

pub repeats_plan : (starts : List ℕ) (followers : List Follower) (heap : List ℕ) → RepeatsRecording starts followers heap → RepeatsPlan starts followers heap
repeats_plan starts followers heap repeats plan log outcome faithful begins have =
    let it : IsRecordingOf plan log outcome = faithful_is_recording plan log outcome faithful in
    let same = repeats (threads_of plan) log it.end (subst (λ (from : List ℕ). IsRecording (threads_of plan) from log it.end) (sym begins) it.recording) have in
    (same.1 ∙ ap (λ (o : Outcome). o.heap) it.comes, ap (λ (js : Journals). map values_read js) same.0 ∙ ap (λ (o : Outcome). o.reads) it.comes)
