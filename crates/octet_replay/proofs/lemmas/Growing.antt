-- One thread that makes one event more.
use Rattle.std.proofs.Common.{◌≡◌, ℕ, suc, ◌+◌, ◌^◌, ◌<◌, ◌≤◌, Bool, true, false, nat_lt, List, [], ◌∷◌, ◌++◌, length, Option, Some, None, slice_get, slice_index, refl, sym, ap, ◌∙◌, subst, arith}
use Rattle.std.proofs.lemmas.Bool.{ltb-true}
use Rattle.std.proofs.lemmas.Option.{same_Some, slice_get_within}
use Rattle.octet_model.specs.declared.command.Command.{Command}
use Rattle.octet_model.specs.declared.event.Mark.{Mark}
use Rattle.octet_model.specs.declared.event.Event.{Event}
use Rattle.octet_model.specs.declared.event.Event.TheVariants.{Read, Write, Update, Marked}
use Rattle.octet_model.specs.declared.limits.TheConstants.{MAX_ACCESSES}
use Rattle.octet_model.specs.declared.log.ThreadLog.{ThreadLog}
use Rattle.octet_model.specs.Thread.{Configuration, AccessOrEnd, added, configuration_after}
use Rattle.octet_model.specs.Journals.{access_count, mark_count, gap_after, due_mark, next_access, mark_first, next_by_log}
use Rattle.std.specs.Vec.{vec_len, vec_capacity}
use Rattle.octet_model.specs.Orders.{values_read}
use Rattle.octet_model.proofs.lemmas.Splits.{accesses_split, marks_split, values_split, gap_split, configuration_split}
use Rattle.octet_interp.specs.Demands.{ThreadState, given}
use Rattle.octet_interp.specs.Regions.{regions_ahead, regions_before}
use Rattle.octet_interp.proofs.RegionsRun.{before_access, before_mark}
use Rattle.octet_replay.specs.declared.thread.NextDemand.{NextDemand}
use Rattle.octet_replay.specs.declared.thread.NextDemand.TheVariants.{Read as ReadNext, Write as WriteNext, Bump as BumpNext, Ended as EndNext}
use Rattle.octet_replay.specs.declared.thread.ThreadReplay.{ThreadReplay}
use Rattle.octet_replay.specs.NextDemand.{demand_of, IsBeforeDemand, IsDemandedNext, NamesObject}
use Rattle.octet_replay.specs.Threads.{next_by_counts, next_event, CountsOn, IsPastEvent, Grown, HasRoomFor, IsReplayOf, StandsFor, WritesWithin}
use Rattle.octet_replay.proofs.lemmas.EventsMade.{due_there, gap_within}

-- the event comes of what it demands next
abbrev pub ComesOf : Event → NextDemand → Type 0
ComesOf (Read object value) up_next = up_next ≡ ReadNext object
ComesOf (Write object value) up_next = up_next ≡ WriteNext object value
ComesOf (Update object before after) up_next = (amount : ℕ) × (up_next ≡ BumpNext object amount)
ComesOf (Marked mark) up_next = Unit {0}

-- what the log has left for the event
abbrev pub HasLeft : Event → Option Mark → Bool → Type 0
HasLeft (Marked mark) due left = due ≡ Some mark
HasLeft _ due left = left ≡ true

pub record Came (event : Event) (due : Option Mark) (up_next : NextDemand) (left : Bool) : Type 0 where
  pub comes : ComesOf event up_next
  pub has : HasLeft event due left

came : (due : Option Mark) (up_next : NextDemand) (left marks : Bool) (heap : List ℕ) (event : Event)
    → next_event (mark_first due (next_access (demand_of up_next) left marks)) heap ≡ Some event → Came event due up_next left
came (Some mark) up_next left marks heap event is =
    subst (λ (e : Event). Came e (Some mark) up_next left) (same_Some (Marked mark) event is) (record { comes = tt; has = refl })
came None (ReadNext object) true marks heap event is =
    subst (λ (e : Event). Came e None (ReadNext object) true) (same_Some (Read object (slice_index heap object)) event is) (record { comes = refl; has = refl })
came None (ReadNext object) false marks heap event is = absurd cc
came None (WriteNext object value) true marks heap event is =
    subst (λ (e : Event). Came e None (WriteNext object value) true) (same_Some (Write object value) event is) (record { comes = refl; has = refl })
came None (WriteNext object value) false marks heap event is = absurd cc
came None (BumpNext object amount) true marks heap event is =
    let old = slice_index heap object in
    subst (λ (e : Event). Came e None (BumpNext object amount) true) (same_Some (Update object old (added amount old)) event is) (record { comes = (amount, refl); has = refl })
came None (BumpNext object amount) false marks heap event is = absurd cc
came None (EndNext end) true marks heap event is = absurd cc
came None (EndNext end) false true heap event is = absurd cc
came None (EndNext end) false false heap event is = absurd cc

-- the same, of a thread's counts
pub came_here : (log : ThreadLog) (t : ThreadReplay) (heap : List ℕ) (event : Event) → next_event (next_by_counts log t) heap ≡ Some event
    → Came event (due_mark (slice_get log.marks t.marks) t.gap) t.up_next (nat_lt t.accesses log.accesses)
came_here log t heap event is =
    came (due_mark (slice_get log.marks t.marks) t.gap) t.up_next (nat_lt t.accesses log.accesses) (nat_lt t.marks (length log.marks)) heap event is

few_values : (journal : List Event) → length (values_read journal) ≤ access_count journal
few_values [] = omega arith
few_values (Read object value ∷ journal) = omega (arith, few_values journal)
few_values (Write object value ∷ journal) = omega (arith, few_values journal)
few_values (Update object old new ∷ journal) = omega (arith, few_values journal)
few_values (Marked mark ∷ journal) = few_values journal

-- what is next, from the four things that decide it
next_from : {m m' : Option Mark} {d d' : AccessOrEnd} {a a' k k' : Bool} → m ≡ m' → d ≡ d' → a ≡ a' → k ≡ k' → mark_first m (next_access d a k) ≡ mark_first m' (next_access d' a' k')
next_from p q r s = rw (p, q, r, s) refl

module _ (commands : List Command) (start : Configuration) (objects : ℕ) (log : ThreadLog) (journal : List Event) (t : ThreadReplay) (replay : IsReplayOf commands start objects log journal t) where
  -- by the counts is next what is next by the log
  pub by_counts : next_by_log commands start log journal ≡ next_by_counts log t
  by_counts =
      next_from (ap (λ (k : ℕ). due_mark (slice_get log.marks k) (gap_after 0 journal)) (sym replay.counts.counts_marks) ∙ ap (λ (gap : ℕ). due_mark (slice_get log.marks t.marks) gap) (sym replay.counts.counts_gap))
      replay.comes.demands
      (ap (λ (k : ℕ). nat_lt k log.accesses) (sym replay.counts.counts_accesses))
      (ap (λ (k : ℕ). nat_lt k (length log.marks)) (sym replay.counts.counts_marks))

  module _ (heap : List ℕ) where
    pub stands_for : (event : Event) → next_event (next_by_counts log t) heap ≡ Some event → StandsFor event t
    stands_for (Read object value) is =
        let here = subst (λ (x : NextDemand). IsBeforeDemand commands (configuration_after commands start journal) x t.config) (came_here log t heap (Read object value) is).comes replay.comes.stands in
        here.0
    stands_for (Write object value) is =
        let here = subst (λ (x : NextDemand). IsBeforeDemand commands (configuration_after commands start journal) x t.config) (came_here log t heap (Write object value) is).comes replay.comes.stands in
        here.0
    stands_for (Update object old new) is =
        let here = subst (λ (x : NextDemand). IsBeforeDemand commands (configuration_after commands start journal) x t.config) (came_here log t heap (Update object old new) is).comes.1 replay.comes.stands in
        here.0
    stands_for (Marked mark) is = tt

    pub writes_within : (event : Event) → next_event (next_by_counts log t) heap ≡ Some event → WritesWithin objects event
    writes_within (Read object value) is = tt
    writes_within (Write object value) is = subst (λ (x : NextDemand). NamesObject objects x) (came_here log t heap (Write object value) is).comes replay.names
    writes_within (Update object old new) is = subst (λ (x : NextDemand). NamesObject objects x) (came_here log t heap (Update object old new) is).comes.1 replay.names
    writes_within (Marked mark) is = tt

    room_of_access : nat_lt t.accesses log.accesses ≡ true → log.accesses ≤ MAX_ACCESSES → (suc t.accesses < 2 ^ 32) × (suc t.gap < 2 ^ 32)
    room_of_access left few =
        let below = ltb-true t.accesses log.accesses left in
        (omega arith, omega (arith, gap_within 0 journal, replay.counts.counts_gap, replay.counts.counts_accesses))

    room_of_read : nat_lt t.accesses log.accesses ≡ true → vec_len t.reads < vec_capacity t.reads
    room_of_read left =
        let below = ltb-true t.accesses log.accesses left in
        omega (arith, t.reads.ok.0, ap (λ (xs : List ℕ). length xs) replay.reads, few_values journal, replay.counts.counts_accesses, replay.room)

    pub has_room : (event : Event) → next_event (next_by_counts log t) heap ≡ Some event → log.accesses ≤ MAX_ACCESSES → length log.marks < 2 ^ 32 → HasRoomFor event t
    has_room (Read object value) is few marks =
        let left = (came_here log t heap (Read object value) is).has in
        ((room_of_access left few).0, (room_of_access left few).1, room_of_read left)
    has_room (Write object value) is few marks = room_of_access (came_here log t heap (Write object value) is).has few
    has_room (Update object old new) is few marks = room_of_access (came_here log t heap (Update object old new) is).has few
    has_room (Marked mark) is few marks =
        let there = due_there (slice_get log.marks t.marks) t.gap mark (came_here log t heap (Marked mark) is).has in
        omega (arith, slice_get_within log.marks t.marks there.0 there.1)

    -- the thread that made the event is again a thread as far as it is replayed
    pub grows : (event : Event) (after : ThreadReplay) → next_event (next_by_counts log t) heap ≡ Some event → Grown t event after → IsReplayOf commands start objects log (journal ++ event ∷ []) after
    grows event after is grown = record {
      counts = record {
        counts_marks = grown.marks ∙ omega (arith, replay.counts.counts_marks, marks_split journal (event ∷ []));
        counts_accesses = grown.accesses ∙ omega (arith, replay.counts.counts_accesses, accesses_split journal (event ∷ []));
        counts_gap = grown.gap ∙ ap (λ (gap : ℕ). gap_after gap (event ∷ [])) replay.counts.counts_gap ∙ sym (gap_split 0 journal (event ∷ []));
      };
      comes =
          subst (λ (c : Configuration). IsDemandedNext commands c after.up_next after.config) (sym (configuration_split commands start journal (event ∷ []))) (moved event (came_here log t heap event is).comes grown.comes);
      runs = grown.runs ∙ replay.runs;
      has = grown.has ∙ replay.has;
      regions = counts event (came_here log t heap event is).comes grown.regions;
      names = subst (λ (n : ℕ). NamesObject n after.up_next) replay.has (grown.names (subst (λ (n : ℕ). NamesObject n t.up_next) (sym replay.has) replay.names));
      reads = grown.reads ∙ ap (λ (xs : List ℕ). xs ++ values_read (event ∷ [])) replay.reads ∙ sym (values_split journal (event ∷ []));
      room = omega (arith, grown.room, replay.room);
      few_accesses = few_accesses event is (omega (arith, grown.accesses));
      few_marks = few_marks event is grown.marks;
    }
      where
        few_accesses : (e : Event) → next_event (next_by_counts log t) heap ≡ Some e → after.accesses ≤ t.accesses + access_count (e ∷ []) → after.accesses ≤ log.accesses
        few_accesses (Read object value) is_e more = omega (arith, ltb-true t.accesses log.accesses (came_here log t heap (Read object value) is_e).has)
        few_accesses (Write object value) is_e more = omega (arith, ltb-true t.accesses log.accesses (came_here log t heap (Write object value) is_e).has)
        few_accesses (Update object old new) is_e more = omega (arith, ltb-true t.accesses log.accesses (came_here log t heap (Update object old new) is_e).has)
        few_accesses (Marked mark) is_e more = omega (arith, replay.few_accesses)

        few_marks : (e : Event) → next_event (next_by_counts log t) heap ≡ Some e → after.marks ≡ t.marks + mark_count (e ∷ []) → after.marks ≤ length log.marks
        few_marks (Read object value) is_e more = omega (arith, replay.few_marks)
        few_marks (Write object value) is_e more = omega (arith, replay.few_marks)
        few_marks (Update object old new) is_e more = omega (arith, replay.few_marks)
        few_marks (Marked mark) is_e more =
            let there = due_there (slice_get log.marks t.marks) t.gap mark (came_here log t heap (Marked mark) is_e).has in
            omega (arith, slice_get_within log.marks t.marks there.0 there.1)

        here : Configuration
        here = configuration_after commands start journal

        moved : (e : Event) → ComesOf e t.up_next → IsPastEvent e t after → IsDemandedNext commands (configuration_after commands here (e ∷ [])) after.up_next after.config
        moved (Read object value) of past =
            let stands = subst (λ (x : NextDemand). IsBeforeDemand commands here x t.config) of replay.comes.stands in
            let there = subst (λ (x : List Command). IsDemandedNext x (given t.config value).at after.up_next after.config) replay.runs past in
            subst (λ (c : Configuration). IsDemandedNext commands c after.up_next after.config) (stands.1 value) there
        moved (Write object value) of past =
            let stands = subst (λ (x : NextDemand). IsBeforeDemand commands here x t.config) of replay.comes.stands in
            let there = subst (λ (x : List Command). IsDemandedNext x t.config.at after.up_next after.config) replay.runs past in
            subst (λ (c : Configuration). IsDemandedNext commands c after.up_next after.config) (stands.1 value) there
        moved (Update object old new) of past =
            let stands = subst (λ (x : NextDemand). IsBeforeDemand commands here x t.config) of.1 replay.comes.stands in
            let there = subst (λ (x : List Command). IsDemandedNext x t.config.at after.up_next after.config) replay.runs past in
            subst (λ (c : Configuration). IsDemandedNext commands c after.up_next after.config) (stands.1 new) there
        moved (Marked mark) of past =
            let there = subst (λ (x : NextDemand). IsDemandedNext commands here x t.config) (sym past.0) replay.comes in
            subst (λ (s : ThreadState). IsDemandedNext commands here after.up_next s) (sym past.1) there

        -- the `region` commands past an access are those before it and those ahead of the next one
        on_to : (e : Event) (at : Configuration) → ((c : Configuration) → regions_before commands c (e ∷ []) ≡ regions_ahead commands c + regions_ahead commands (configuration_after commands c (e ∷ [])))
            → at ≡ configuration_after commands here (e ∷ []) → after.config.regions ≡ t.config.regions + regions_ahead t.config.commands at → after.config.regions ≡ regions_before commands start (journal ++ e ∷ [])
        on_to e at on leaves past =
            omega (arith, past, replay.regions, before_access commands start journal e on, ap (λ (cs : List Command). regions_ahead cs at) replay.runs, ap (regions_ahead commands) leaves)

        counts : (e : Event) → ComesOf e t.up_next → CountsOn e t after → after.config.regions ≡ regions_before commands start (journal ++ e ∷ [])
        counts (Read object value) of past =
            let stands = subst (λ (x : NextDemand). IsBeforeDemand commands here x t.config) of replay.comes.stands in
            on_to (Read object value) (given t.config value).at (λ c. refl) (stands.1 value) past
        counts (Write object value) of past =
            let stands = subst (λ (x : NextDemand). IsBeforeDemand commands here x t.config) of replay.comes.stands in
            on_to (Write object value) t.config.at (λ c. refl) (stands.1 value) past
        counts (Update object old new) of past =
            let stands = subst (λ (x : NextDemand). IsBeforeDemand commands here x t.config) of.1 replay.comes.stands in
            on_to (Update object old new) t.config.at (λ c. refl) (stands.1 new) past
        counts (Marked mark) of past = past ∙ replay.regions ∙ sym (before_mark commands start journal mark)
