-- What is known of the final heaps that a search has found.
use Rattle.std.proofs.Common.{◌≡◌, ◌∙◌, ◌<◌, ℕ, All, List, [], ◌∷◌, length, length-set, get_or, map, Option, Some, None, IfSome, ap, sym, refl, subst}
use Rattle.std.proofs.lemmas.List.{length-map}
use Rattle.std.proofs.lemmas.List.Elements.{All-map}
use Rattle.octet_model.specs.declared.object.Object.{Object}
use Rattle.octet_model.specs.declared.script.Script.{Script}
use Rattle.octet_model.specs.Orders.{commands_of}
use Rattle.octet_interp.specs.declared.demand.Demand.{Demand}
use Rattle.octet_interp.specs.declared.demand.Demand.TheVariants as demand
use Rattle.octet_interp.specs.Standing.{access_at}
use Rattle.octet_outcomes.specs.declared.endings.Ending.{Ending}
use Rattle.octet_outcomes.specs.declared.outcomes.Outcomes.{Outcomes}
use Rattle.octet_outcomes.specs.declared.outcomes.Seen.TheVariants.{Whole, Most}
use Rattle.octet_outcomes.specs.Endings.{IsEnding, heap_of, no_ending}
use Rattle.octet_outcomes.specs.Stuck.{LeadsToStuck}
use Rattle.octet_outcomes.specs.Moments.{Moment, heap_after, heap_past, first_moment, moved, next_moment, stand_after, stand_in}
use Rattle.octet_outcomes.specs.Runs.{AreAllOutcomes, Follows, IsOutcome}
use Rattle.octet_hunt.specs.declared.tries.Find.{Find}
use Rattle.octet_model.specs.declared.outcome.Recorded.{Recorded}
use Rattle.octet_commands.specs.declared.always.Judged.TheVariants.{Otherwise}
use Rattle.octet_commands.specs.declared.outcomes.Told.{Told}
use Rattle.octet_commands.specs.Judging.{IsJudgedBy, OneLeavesOther}
use Rattle.octet_commands.specs.Outcomes.{AlwaysLeaves, CanAlwaysEnd, IsExplored, IsTold, LeavesOther}

-- an access leaves as many objects
past_width : (d : Demand) (heap : List ℕ) → length (heap_past d heap) ≡ length heap
past_width (demand.Read object) heap = refl
past_width (demand.Write object value) heap = length-set heap object value
past_width (demand.Bump object amount) heap = length-set heap object _
past_width _ heap = refl

abbrev heap_in : List ℕ → Option Moment → List ℕ
heap_in none None = none
heap_in none (Some m) = m.heap

step_width : (script : Script) (m : Moment) (thread : ℕ) (after : Moment) → next_moment script m thread ≡ Some after → length after.heap ≡ length m.heap
step_width script m thread after is = by (access_at (commands_of script thread) (stand_in m thread)) is
  where
    by : (access : Option Demand) → moved m thread (heap_after access m.heap) (stand_after (commands_of script thread) script.fuel (stand_in m thread) m.heap access) ≡ Some after → length after.heap ≡ length m.heap
    by None is = absurd cc
    by (Some d) is = ap (λ (o : Option Moment). length (heap_in [] o)) (sym is) ∙ past_width d m.heap

run_width : (script : Script) (m : Moment) (picks : List ℕ) (last : Moment) → Follows script m picks last → length last.heap ≡ length m.heap
run_width script m [] last is = ap (λ (x : Moment). length x.heap) is
run_width script m (thread ∷ picks) last (there, (between, is, follows)) = run_width script between picks last follows ∙ step_width script m thread between is

-- a final heap has each object
pub outcome_width : (script : Script) (heap : List ℕ) → IsOutcome script heap → length heap ≡ length script.objects
outcome_width script heap outcome =
    ap (λ (h : List ℕ). length h) (sym outcome.leaves)
    ∙ run_width script (first_moment script) outcome.reached.picks outcome.last outcome.reached.follows
    ∙ length-map script.objects (λ (o : Object). o.start)

-- the heap of an ending is an outcome
pub ending_outcome : (script : Script) (ending : Ending) → IsEnding script ending → IsOutcome script ending.heap
ending_outcome script ending is = record { last = is.last; reached = record { picks = ending.picks; follows = is.follows }; done = is.done; leaves = is.leaves }

-- what is told has each object
pub told_width : (script : Script) (told : List Told) → All (IsTold script) told → All (λ t. length t.heap ≡ length script.objects) told
told_width script told each k default there = outcome_width script (get_or told k default).heap (each k default there).outcome

-- what a search has found, as it is told
pub explored_by : (script : Script) (most : ℕ) (found : Outcomes) (told : List Told) → All (IsTold script) told → map (λ t. t.heap) told ≡ map heap_of found.endings → (found.seen ≡ Whole → AreAllOutcomes script (map heap_of found.endings))
    → (found.seen ≡ Most → most < found.moments) → (0 < found.stuck → LeadsToStuck script found.way) → (found.seen ≡ Whole → found.stuck ≡ 0 → CanAlwaysEnd script) → IsExplored script most told found.moments found.stuck found.seen
explored_by script most found told each heaps all cut stuck free = record {
  each = each;
  all = λ whole. subst (AreAllOutcomes script) (sym heaps) (all whole);
  cut = cut;
  some_stuck = λ some. (let way = stuck some in record { moment = way.last; reached = record { picks = found.way; follows = way.follows }; stuck = way.stuck });
  none_stuck = free;
}

-- an ending that leaves another number, and endings none of which does
pub other_left : (script : Script) (endings : List Ending) (object number : ℕ) → All (IsEnding script) endings → OneLeavesOther endings object number → (value : ℕ) × LeavesOther script object number value
other_left script endings object number each one =
    let ending = get_or endings one.place no_ending in
    (get_or ending.heap object 0, record { heap = ending.heap; outcome = ending_outcome script ending (each one.place no_ending one.there); leaves = refl; other = one.other })

pub always_left : (script : Script) (endings : List Ending) (object number : ℕ) → AreAllOutcomes script (map heap_of endings) → All (λ ending. get_or ending.heap object 0 ≡ number) endings → AlwaysLeaves script object number
always_left script endings object number all each heap outcome =
    let there = all heap outcome in
    subst (λ (h : List ℕ). get_or h object 0 ≡ number) there.2 (All-map (λ (h : List ℕ). get_or h object 0 ≡ number) heap_of endings each there.0 heap there.1)

-- a claim that fails, with what was recorded
pub judged_other : (Holding Failing : Type 0) (Refuting : Recorded → Type 0) (find : Option Find) → Failing → IfSome find (λ f. Refuting f.recorded) → IsJudgedBy Holding Failing Refuting (Otherwise find)
judged_other Holding Failing Refuting None fails refutes = fails
judged_other Holding Failing Refuting (Some find) fails refutes = (fails, refutes)
