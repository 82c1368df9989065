-- A run of the plain machine by a log, mirrored by moments.
use Rattle.std.proofs.Common.{◌≡◌, ℕ, zero, suc, ◌<◌, ◌≤◌, ◌⊎◌, inl, inr, true, List, [], ◌∷◌, ◌++◌, length, set, get_or, Option, Some, None, slice_get, slice_index, refl, sym, ap, ap₂, ◌∙◌, subst, arith, length-set, get_or-set_same}
use Rattle.std.specs.List.{list_all}
use Rattle.std.proofs.lemmas.Bool.{cases_eq, and_parts}
use Rattle.std.proofs.lemmas.Option.{slice_get_cases}
use Rattle.std.proofs.lemmas.List.{get_or-map, get_or-set_other, length-map}
use Rattle.octet_model.specs.declared.command.Command.{Command}
use Rattle.octet_model.specs.declared.command.Command.TheVariants as command
use Rattle.octet_model.specs.declared.event.Event.{Event}
use Rattle.octet_model.specs.declared.event.Event.TheVariants.{Marked}
use Rattle.octet_model.specs.declared.event.Mark.{Mark}
use Rattle.octet_model.specs.declared.outcome.End.{End}
use Rattle.octet_model.specs.declared.outcome.End.TheVariants.{Done, Spent}
use Rattle.octet_model.specs.declared.outcome.Outcome.{Outcome}
use Rattle.octet_model.specs.declared.log.ThreadLog.{ThreadLog}
use Rattle.octet_model.specs.declared.script.Script.{Script}
use Rattle.octet_model.specs.Thread.{Configuration, AccessOrEnd, ToRead, ToWrite, ToBump, ToEnd, added, settled, demand_at, demanded, past_access, configuration_after, starting_configuration}
use Rattle.octet_model.specs.Machine.{Journals, journal_of, PlainState, no_events, Operation, MakeMark, MakeRead, MakeWrite, MakeUpdate, event_made, heap_after, appended, performed}
use Rattle.octet_model.specs.Orders.{is_done, thread_log_of, commands_of, by_log, opening_state, end_of, ends_of, state_after, IsLawfulOrder}
use Rattle.octet_model.proofs.lemmas.Steps.{by_front, same_journal, other_journal, as_many}
use Rattle.octet_model.proofs.lemmas.Splits.{configuration_split}
use Rattle.octet_model.proofs.lemmas.Fronts.{no_journal}
use Rattle.octet_model.proofs.lemmas.LowestFronts.{IsNext, next_by}
use Rattle.octet_interp.specs.declared.demand.Demand.{Demand}
use Rattle.octet_interp.specs.declared.demand.Demand.TheVariants as demand
use Rattle.octet_interp.specs.declared.program.Stand.{Stand}
use Rattle.octet_interp.specs.Standing.{access_at, access_demand, stand_of, stand_past}
use Rattle.octet_outcomes.specs.Interleavings.{next_demanded, by_program, plan_with, FinalsAreOutcomes}
use Rattle.std.proofs.Common.{Bool}
use Rattle.octet_model.specs.Machine.{Wants, IsFront, after}
use Rattle.octet_outcomes.specs.Laws.{LawfulEndsAreOutcomes, FaithfulEndsAreOutcomes}
use Rattle.octet_outcomes.specs.Moments as moments
use Rattle.octet_outcomes.specs.Moments.{Moment, no_stand, stand_in, stand_after, moved, value_given, heap_past, first_moment, AllDone}
use Rattle.octet_outcomes.specs.Runs.{IsReached, IsOutcome}
use Rattle.octet_outcomes.proofs.Fuel.{settled_fuel, past_settled_fuel, past_same}
use Rattle.octet_outcomes.proofs.Closing.{reached_on}

-- a demand that is the end Spent, or another
spent_or : (a : AccessOrEnd) → (a ≡ ToEnd Spent) ⊎ (a ≡ ToEnd Spent → ⊥)
spent_or (ToRead object) = inr (λ is. cc)
spent_or (ToWrite object value) = inr (λ is. cc)
spent_or (ToBump object amount) = inr (λ is. cc)
spent_or (ToEnd Done) = inr (λ is. cc)
spent_or (ToEnd Spent) = inl refl

-- which command a configuration stands at that demands an access
demands_read : (o : Option Command) (place : ℕ) (registers : List ℕ) (fuel object : ℕ) → demand_at o (record { place = place; registers = registers; fuel = fuel }) ≡ ToRead object → (to : ℕ) × (o ≡ Some (command.Read to object))
demands_read None place registers fuel object is = absurd cc
demands_read (Some (command.Read to x)) place registers zero object is = absurd cc
demands_read (Some (command.Read to x)) place registers (suc fuel) object is = (to, let same : x ≡ object = cc in ap (λ (n : ℕ). Some (command.Read to n)) same)
demands_read (Some (command.Write x from)) place registers zero object is = absurd cc
demands_read (Some (command.Write x from)) place registers (suc fuel) object is = absurd cc
demands_read (Some (command.Bump x from)) place registers zero object is = absurd cc
demands_read (Some (command.Bump x from)) place registers (suc fuel) object is = absurd cc
demands_read (Some _) place registers fuel object is = absurd cc

demands_write : (o : Option Command) (place : ℕ) (registers : List ℕ) (fuel object value : ℕ) → demand_at o (record { place = place; registers = registers; fuel = fuel }) ≡ ToWrite object value
    → (from : ℕ) × (o ≡ Some (command.Write object from)) × (slice_index registers from ≡ value)
demands_write None place registers fuel object value is = absurd cc
demands_write (Some (command.Read to x)) place registers zero object value is = absurd cc
demands_write (Some (command.Read to x)) place registers (suc fuel) object value is = absurd cc
demands_write (Some (command.Write x from)) place registers zero object value is = absurd cc
demands_write (Some (command.Write x from)) place registers (suc fuel) object value is = (from, (let same : x ≡ object = cc in ap (λ (n : ℕ). Some (command.Write n from)) same), cc)
demands_write (Some (command.Bump x from)) place registers zero object value is = absurd cc
demands_write (Some (command.Bump x from)) place registers (suc fuel) object value is = absurd cc
demands_write (Some _) place registers fuel object value is = absurd cc

demands_bump : (o : Option Command) (place : ℕ) (registers : List ℕ) (fuel object amount : ℕ) → demand_at o (record { place = place; registers = registers; fuel = fuel }) ≡ ToBump object amount
    → (from : ℕ) × (o ≡ Some (command.Bump object from)) × (slice_index registers from ≡ amount)
demands_bump None place registers fuel object amount is = absurd cc
demands_bump (Some (command.Read to x)) place registers zero object amount is = absurd cc
demands_bump (Some (command.Read to x)) place registers (suc fuel) object amount is = absurd cc
demands_bump (Some (command.Write x from)) place registers zero object amount is = absurd cc
demands_bump (Some (command.Write x from)) place registers (suc fuel) object amount is = absurd cc
demands_bump (Some (command.Bump x from)) place registers zero object amount is = absurd cc
demands_bump (Some (command.Bump x from)) place registers (suc fuel) object amount is = (from, (let same : x ≡ object = cc in ap (λ (n : ℕ). Some (command.Bump n from)) same), cc)
demands_bump (Some _) place registers fuel object amount is = absurd cc

demands_done : (o : Option Command) (place : ℕ) (registers : List ℕ) (fuel : ℕ) → demand_at o (record { place = place; registers = registers; fuel = fuel }) ≡ ToEnd Done → o ≡ None
demands_done None place registers fuel is = refl
demands_done (Some (command.Read to x)) place registers zero is = absurd cc
demands_done (Some (command.Read to x)) place registers (suc fuel) is = absurd cc
demands_done (Some (command.Write x from)) place registers zero is = absurd cc
demands_done (Some (command.Write x from)) place registers (suc fuel) is = absurd cc
demands_done (Some (command.Bump x from)) place registers zero is = absurd cc
demands_done (Some (command.Bump x from)) place registers (suc fuel) is = absurd cc
demands_done (Some _) place registers fuel is = absurd cc

-- the access at which a configuration stands is this operation, which gives the thread this value
record Accesses (commands : List Command) (d : Configuration) (heap : List ℕ) (operation : Operation) (value : ℕ) : Type 0 where
  demand : Demand
  at : access_at commands (stand_of d) ≡ Some demand
  heaps : heap_past demand heap ≡ heap_after operation heap
  past : past_access (slice_get commands d.place) d value ≡ past_access (slice_get commands d.place) d (value_given demand heap)

abbrev access_of : List ℕ → Option Command → Option Demand
access_of registers o = elim o [ None ↦ None | Some command ↦ access_demand command registers ]

module _ (commands : List Command) (d : Configuration) (heap : List ℕ) where
  accesses_read : (object : ℕ) → demand_at (slice_get commands d.place) d ≡ ToRead object → Accesses commands d heap (MakeRead object) (slice_index heap object)
  accesses_read object is =
      let o = demands_read (slice_get commands d.place) d.place d.registers d.fuel object is in
      record { demand = demand.Read object; at = ap (access_of d.registers) o.1; heaps = refl; past = refl }

  accesses_write : (object value : ℕ) → demand_at (slice_get commands d.place) d ≡ ToWrite object value → Accesses commands d heap (MakeWrite object value) value
  accesses_write object value is =
      let o = demands_write (slice_get commands d.place) d.place d.registers d.fuel object value is in
      record {
        demand = demand.Write object value;
        at = ap (access_of d.registers) o.1 ∙ ap (λ (n : ℕ). Some (demand.Write object n)) o.2;
        heaps = refl;
        past = ap (λ (c : Option Command). past_access c d value) o.1 ∙ sym (ap (λ (c : Option Command). past_access c d 0) o.1);
      }

  accesses_bump : (object amount : ℕ) (change : ℕ → ℕ) → demand_at (slice_get commands d.place) d ≡ ToBump object amount → change ≡ added amount → Accesses commands d heap (MakeUpdate object change) (change (slice_index heap object))
  accesses_bump object amount change is same =
      let o = demands_bump (slice_get commands d.place) d.place d.registers d.fuel object amount is in
      record {
        demand = demand.Bump object amount;
        at = ap (access_of d.registers) o.1 ∙ ap (λ (n : ℕ). Some (demand.Bump object n)) o.2;
        heaps = ap (λ (f : ℕ → ℕ). set heap object (f (slice_index heap object))) (sym same);
        past = ap (λ (c : Option Command). past_access c d (change (slice_index heap object))) o.1 ∙ sym (ap (λ (c : Option Command). past_access c d 0) o.1);
      }

-- a thread is spent, or it stands there
record Mirror (script : Script) (thread : ℕ) (c : Configuration) (stand : Stand) : Type 0 where
  fuelled : c.fuel ≤ script.fuel
  stands : (demanded (commands_of script thread) c ≡ ToEnd Spent) ⊎ (stand ≡ stand_of (settled (commands_of script thread) c))

abbrev config : Script → ℕ → List Event → Configuration
config script thread journal = configuration_after (commands_of script thread) (starting_configuration script.fuel) journal

-- the moment has the heap of the plain state, and its threads stand where the journals leave them
record Mirrors (script : Script) (s : PlainState) (m : Moment) : Type 0 where
  heap : m.heap ≡ s.heap
  journals : length s.journals ≡ length script.threads
  stands : length m.stands ≡ length script.threads
  each : (thread : ℕ) → thread < length script.threads → Mirror script thread (config script thread (journal_of s.journals thread)) (stand_in m thread)

record Mirrored (script : Script) (s : PlainState) : Type 0 where
  moment : Moment
  reached : IsReached script moment
  mirrors : Mirrors script s moment

mirror_at : (script : Script) (thread : ℕ) (c d : Configuration) (stand : Stand) → d ≡ c → Mirror script thread c stand → Mirror script thread d stand
mirror_at script thread c d stand same mirror = subst (λ (e : Configuration). Mirror script thread e stand) (sym same) mirror

module _ (script : Script) (s : PlainState) (t : ℕ) (o : Operation) (within : t < length s.journals) (before : Mirrored script s) where
  abbrev m : Moment
  m = before.moment

  abbrev commands : List Command
  commands = commands_of script t

  abbrev journal : List Event
  journal = journal_of s.journals t

  abbrev c : Configuration
  c = config script t journal

  abbrev d : Configuration
  d = settled commands c

  there : t < length script.threads
  there = omega (arith, within, before.mirrors.journals)

  -- a mark changes nothing
  marked : (mark : Mark) → o ≡ MakeMark mark → Mirrored script (performed s t o)
  marked mark is =
      subst (λ (p : Operation). Mirrored script (performed s t p)) (sym is) (record {
        moment = m;
        reached = before.reached;
        mirrors = record {
          heap = before.mirrors.heap;
          journals = as_many s.journals t (Marked mark) ∙ before.mirrors.journals;
          stands = before.mirrors.stands;
          each = λ u lt. mirror_at script u (config script u (journal_of s.journals u)) (config script u (journal_of (appended s.journals t (Marked mark)) u)) (stand_in m u) (same u) (before.mirrors.each u lt);
        };
      })
    where
      same : (u : ℕ) → config script u (journal_of (appended s.journals t (Marked mark)) u) ≡ config script u (journal_of s.journals u)
      same u = elim (cases_eq u t) [
        | inl e ↦ subst (λ (v : ℕ). config script v (journal_of (appended s.journals t (Marked mark)) v) ≡ config script v (journal_of s.journals v)) (sym e)
            (ap (config script t) (same_journal s.journals t (Marked mark) within) ∙ configuration_split commands (starting_configuration script.fuel) journal (Marked mark ∷ []))
        | inr ne ↦ ap (config script u) (other_journal s.journals t u (Marked mark) ne)
      ]

  -- an access is the next one of its thread in the moment
  accessed : (value : ℕ) → (demanded commands c ≡ ToEnd Spent → ⊥) → Accesses commands d s.heap o value
      → config script t (journal ++ event_made o s.heap ∷ []) ≡ past_access (slice_get commands d.place) d value → Mirrored script (performed s t o)
  accessed value alive a past =
      let stand : stand_in m t ≡ stand_of d = elim (before.mirrors.each t there).stands [ inl spent ↦ absurd (alive spent) | inr is ↦ is ] in
      record {
        moment = record { stands = set m.stands t (stand_past commands script.fuel (stand_of d) (value_given a.demand s.heap)); heap = heap_past a.demand s.heap };
        reached = reached_on script m (record { stands = set m.stands t (stand_past commands script.fuel (stand_of d) (value_given a.demand s.heap)); heap = heap_past a.demand s.heap }) t before.reached there
            (ap₂ (λ (x : Stand) (h : List ℕ). moved m t (moments.heap_after (access_at commands x) h) (stand_after commands script.fuel x h (access_at commands x))) stand before.mirrors.heap
            ∙ ap (λ (demand : Option Demand). moved m t (moments.heap_after demand s.heap) (stand_after commands script.fuel (stand_of d) s.heap demand)) a.at);
        mirrors = record {
          heap = a.heaps;
          journals = as_many s.journals t (event_made o s.heap) ∙ before.mirrors.journals;
          stands = length-set m.stands t (stand_past commands script.fuel (stand_of d) (value_given a.demand s.heap)) ∙ before.mirrors.stands;
          each = λ u lt. elim (cases_eq u t) [
            | inl e ↦ subst (λ (v : ℕ). Mirror script v (config script v (journal_of (appended s.journals t (event_made o s.heap)) v)) (get_or (set m.stands t (stand_past commands script.fuel (stand_of d) (value_given a.demand s.heap))) v no_stand)) (sym e)
                (mirror_at script t (past_access (slice_get commands d.place) d (value_given a.demand s.heap)) (config script t (journal_of (appended s.journals t (event_made o s.heap)) t)) _
                (ap (config script t) (same_journal s.journals t (event_made o s.heap) within) ∙ past ∙ a.past)
                (subst (λ (x : Stand). Mirror script t (past_access (slice_get commands d.place) d (value_given a.demand s.heap)) x)
                (sym (get_or-set_same m.stands t (stand_past commands script.fuel (stand_of d) (value_given a.demand s.heap)) no_stand (omega (arith, there, before.mirrors.stands))))
                (stands_there (value_given a.demand s.heap))))
            | inr ne ↦ subst (λ (x : Stand). Mirror script u (config script u (journal_of (appended s.journals t (event_made o s.heap)) u)) x) (sym (get_or-set_other m.stands t u (stand_past commands script.fuel (stand_of d) (value_given a.demand s.heap)) no_stand ne))
                (mirror_at script u (config script u (journal_of s.journals u)) (config script u (journal_of (appended s.journals t (event_made o s.heap)) u)) (stand_in m u) (ap (config script u) (other_journal s.journals t u (event_made o s.heap) ne)) (before.mirrors.each u lt))
          ];
        };
      }
    where
      few : c.fuel ≤ script.fuel
      few = (before.mirrors.each t there).fuelled

      stands_there : (given : ℕ) → Mirror script t (past_access (slice_get commands d.place) d given) (stand_past commands script.fuel (stand_of d) given)
      stands_there given = record {
        fuelled = omega (arith, past_settled_fuel commands c (slice_get commands d.place) given, few);
        stands = elim (spent_or (demanded commands (past_access (slice_get commands d.place) d given))) [
          | inl spent ↦ inl spent
          | inr alive ↦ inr (sym (past_same commands d script.fuel given (omega (arith, settled_fuel commands c, few)) alive))
        ];
      }

  -- an operation that the thread's program demands, or a mark, keeps a mirror
  kept : (due : Option Mark) (left : Bool) → IsNext due (demanded commands c) left o → Mirrored script (performed s t o)
  kept due left next = go o refl next
    where
      split : (e : Event) → config script t (journal ++ e ∷ []) ≡ configuration_after commands c (e ∷ [])
      split e = configuration_split commands (starting_configuration script.fuel) journal (e ∷ [])

      go : (p : Operation) → o ≡ p → IsNext due (demanded commands c) left p → Mirrored script (performed s t o)
      go (MakeMark mark) is next = marked mark is
      go (MakeRead object) is next =
          accessed (slice_index s.heap object) (λ spent. let no : ToEnd Spent ≡ ToRead object = sym spent ∙ next.0 in cc)
          (subst (λ (p : Operation). Accesses commands d s.heap p (slice_index s.heap object)) (sym is) (accesses_read commands d s.heap object next.0))
          (ap (λ (p : Operation). config script t (journal ++ event_made p s.heap ∷ [])) is ∙ split (event_made (MakeRead object) s.heap))
      go (MakeWrite object value) is next =
          accessed value (λ spent. let no : ToEnd Spent ≡ ToWrite object value = sym spent ∙ next.0 in cc)
          (subst (λ (p : Operation). Accesses commands d s.heap p value) (sym is) (accesses_write commands d s.heap object value next.0))
          (ap (λ (p : Operation). config script t (journal ++ event_made p s.heap ∷ [])) is ∙ split (event_made (MakeWrite object value) s.heap))
      go (MakeUpdate object change) is next =
          accessed (change (slice_index s.heap object)) (λ spent. let no : ToEnd Spent ≡ ToBump object next.0.0 = sym spent ∙ next.0.1 in cc)
          (subst (λ (p : Operation). Accesses commands d s.heap p (change (slice_index s.heap object))) (sym is) (accesses_bump commands d s.heap object next.0.0 change next.0.1 next.0.2))
          (ap (λ (p : Operation). config script t (journal ++ event_made p s.heap ∷ [])) is ∙ split (event_made (MakeUpdate object change) s.heap))

-- before the first step
opening : (script : Script) → Mirrored script (opening_state script)
opening script = record {
  moment = first_moment script;
  reached = record { picks = []; follows = refl };
  mirrors = record {
    heap = refl;
    journals = length-map script.threads (λ (thread : List Command). []);
    stands = length-map script.threads (λ (commands : List Command). stand_of (settled commands (starting_configuration script.fuel)));
    each = λ t lt.
        mirror_at script t (starting_configuration script.fuel) (config script t (journal_of (no_events script.threads) t)) _ (ap (config script t) (no_journal script.threads t))
        (record { fuelled = omega arith; stands = inr (get_or-map (λ (commands : List Command). stand_of (settled commands (starting_configuration script.fuel))) script.threads t [] no_stand lt) });
  };
}

mirrored : (script : Script) (log : List ThreadLog) (order : List ℕ) → IsLawfulOrder script log order → Mirrored script (state_after script log order)
mirrored script log order lawful =
    by_front (by_log script log) (Mirrored script)
    (λ s t o makes before. kept script s t o makes.within before _ _ (next_by (commands_of script t) (starting_configuration script.fuel) (thread_log_of log t) (journal_of s.journals t) o makes.wanted))
    order (opening_state script) lawful.1.0 (opening script)

-- what a program alone wants is what it demands
wants_next : (a : AccessOrEnd) (o : Operation) → next_demanded a ≡ Wants o → IsNext None a true o
wants_next (ToRead object) o is = let same : MakeRead object ≡ o = cc in subst (λ (p : Operation). IsNext None (ToRead object) true p) same (refl, refl)
wants_next (ToWrite object value) o is = let same : MakeWrite object value ≡ o = cc in subst (λ (p : Operation). IsNext None (ToWrite object value) true p) same (refl, refl)
wants_next (ToBump object amount) o is = let same : MakeUpdate object (added amount) ≡ o = cc in subst (λ (p : Operation). IsNext None (ToBump object amount) true p) same ((amount, refl, refl), refl)
wants_next (ToEnd end) o is = absurd cc

mirrored_alone : (script : Script) (order : List ℕ) → IsFront (by_program (plan_with script script.fuel)) (opening_state script) order → Mirrored script (after (by_program (plan_with script script.fuel)) (opening_state script) order)
mirrored_alone script order front =
    by_front (by_program (plan_with script script.fuel)) (Mirrored script)
    (λ s t o makes before. kept script s t o makes.within before None true (wants_next (demanded (commands_of script t) (config script t (journal_of s.journals t))) o makes.wanted))
    order (opening_state script) front (opening script)

-- ends
is_done_only : (e : End) → is_done e ≡ true → e ≡ Done
is_done_only Done is = refl
is_done_only Spent is = absurd cc

done_only : (a : AccessOrEnd) → end_of a ≡ Done → a ≡ ToEnd Done
done_only (ToRead object) is = absurd cc
done_only (ToWrite object value) is = absurd cc
done_only (ToBump object amount) is = absurd cc
done_only (ToEnd end) is = ap ToEnd is

ends_done : (fuel : ℕ) (threads : List (List Command)) (journals : Journals) → length journals ≡ length threads → list_all is_done (ends_of fuel threads journals) ≡ true → (t : ℕ) → t < length threads
    → demanded (get_or threads t []) (configuration_after (get_or threads t []) (starting_configuration fuel) (get_or journals t [])) ≡ ToEnd Done
ends_done fuel [] journals len all t lt = absurd (omega arith)
ends_done fuel (commands ∷ threads) [] len all t lt = absurd (omega arith)
ends_done fuel (commands ∷ threads) (journal ∷ journals) len all zero lt =
    done_only (demanded commands (configuration_after commands (starting_configuration fuel) journal)) (is_done_only _ (and_parts _ _ all).0)
ends_done fuel (commands ∷ threads) (journal ∷ journals) len all (suc t) lt = ends_done fuel threads journals (omega arith) (and_parts _ _ all).1 t (omega arith)

no_command : (commands : List Command) (place : ℕ) → slice_get commands place ≡ None → length commands ≤ place
no_command commands place is = elim (slice_get_cases commands place).1 [
  | inl within ↦ absurd (let no : None ≡ Some within.0 = sym is ∙ within.2 in cc)
  | inr past ↦ past.0
]

all_done : (script : Script) (s : PlainState) (m : Moment) → Mirrors script s m → list_all is_done (ends_of script.fuel script.threads s.journals) ≡ true → AllDone script m
all_done script s m mirrors all t lt =
    let commands = commands_of script t in
    let c = config script t (journal_of s.journals t) in
    let d : Configuration = settled (commands_of script t) (config script t (journal_of s.journals t)) in
    let done : demanded (commands_of script t) (config script t (journal_of s.journals t)) ≡ ToEnd Done = ends_done script.fuel script.threads s.journals mirrors.journals all t lt in
    let none : slice_get (commands_of script t) (settled (commands_of script t) (config script t (journal_of s.journals t))).place ≡ None = demands_done _ d.place d.registers d.fuel done in
    let stand : stand_in m t ≡ stand_of (settled (commands_of script t) (config script t (journal_of s.journals t))) =
    elim (mirrors.each t lt).stands [ inl spent ↦ absurd (let no : ToEnd Spent ≡ ToEnd Done = sym spent ∙ done in cc) | inr is ↦ is ] in
    let past = no_command (commands_of script t) _ none in
    subst (λ (x : Stand). length (commands_of script t) ≤ x.place) (sym stand) past

pub lawful_ends : LawfulEndsAreOutcomes
lawful_ends script log order lawful done =
    let mirror = mirrored script log order lawful in
    record { last = mirror.moment; reached = mirror.reached; done = all_done script (state_after script log order) mirror.moment mirror.mirrors done; leaves = mirror.mirrors.heap }

pub faithful_ends : FaithfulEndsAreOutcomes
faithful_ends script log outcome faithful done =
    let same = faithful.outcomes faithful.order faithful.is_lawful in
    subst (λ (o : Outcome). IsOutcome script o.heap) same
    (lawful_ends script log faithful.order faithful.is_lawful (subst (λ (o : Outcome). list_all is_done o.ends ≡ true) (sym same) done))

pub finals_outcomes : FinalsAreOutcomes
finals_outcomes script order is_order done =
    let mirror = mirrored_alone script order is_order.0 in
    record { last = mirror.moment; reached = mirror.reached; done = all_done script _ mirror.moment mirror.mirrors done; leaves = mirror.mirrors.heap }
