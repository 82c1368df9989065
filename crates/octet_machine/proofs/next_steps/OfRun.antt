-- What a run does to its memory and to a thread's run is the thread's next step.
use Rattle.std.proofs.Common.{◌≡◌, ◌≢◌, ℕ, ◌<◌, ◌-◌, ◌^◌, ◌==◌, Bool, false, List, length, get_or, set, slice_set, Option, Some, None, refl, sym, ap, ◌∙◌, subst, arith, length-set}
use Rattle.std.proofs.lemmas.List.{set-get_or, length-map}
use Rattle.std.specs.Option.{is_some}
use Rattle.octet_model.specs.declared.outcome.End.{End}
use Rattle.octet_model.specs.declared.script.Script.{Script}
use Rattle.octet_model.specs.Machine.{journal_of}
use Rattle.octet_model.specs.Orders.{starting_heap}
use Rattle.octet_interp.specs.declared.demand.Demand.{Demand}
use Rattle.octet_interp.specs.declared.demand.Demand.TheVariants as demand
use Rattle.octet_interp.specs.Demands.{ThreadState, next_demand, after_demand, given}
use Rattle.octet_state.specs.declared.state_word.StateWord.{StateWord}
use Rattle.octet_state.specs.declared.act.Mode.{Mode}
use Rattle.octet_state.specs.declared.act.Whom.{Whom}
use Rattle.octet_state.specs.declared.act.Act.{Act}
use Rattle.octet_state.specs.declared.act.Act.TheVariants as act
use Rattle.octet_state.specs.declared.phase.Phase.TheVariants.{Idle, Want, Claimed}
use Rattle.octet_state.specs.Table.{decided}
use Rattle.octet_state.specs.Asking.{whom_to_ask, number_to_ask, next_to_ask}
use Rattle.octet_state.specs.declared.phase.Phase.{Phase}
use Rattle.octet_state.specs.declared.phase.Due.{Due}
use Rattle.octet_state.specs.declared.phase.Due.TheVariants.{Nothing}
use Rattle.octet_state.specs.declared.why.Why.{Why}
use Rattle.octet_state.specs.Words.{FitsStateWord, FitsStatusWord}
use Rattle.octet_state.specs.State.{Thread, thread_of, status_of, state_of}
use Rattle.octet_state.specs.Steps.{Kind, ToClaim, step, told}
use Rattle.octet_state.specs.NextStep.{exchange_of, pursuit_of, kind_by_due, waits}
use Rattle.octet_state.specs.Form.{HoldsPhase}
use Rattle.octet_state.proofs.lemmas.Laws.{counter_is_small}
use Rattle.octet_state.proofs.lemmas.Widths.{state_fits, status_fits}
use Rattle.octet_state.proofs.lemmas.Laws.{journals_are_short}
use Rattle.octet_machine.specs.declared.memory.ProtocolThread.{ProtocolThread}
use Rattle.octet_machine.specs.declared.memory.Memory.{Memory}
use Rattle.octet_machine.specs.declared.run.Runner.{Runner}
use Rattle.octet_machine.specs.declared.run.Run.{Run}
use Rattle.octet_machine.specs.Memory.{thread_in, held, Shape, shape, IsThread, IsObject, HasRoom, TakesStep}
use Rattle.octet_machine.specs.Machine.{MachineState, runner_of, no_runner, kind_of_demand, taken_up, run_in_phase, run_by_due, next_waits}
use Rattle.octet_machine.specs.Running.{IsRunning, StandsBy, KeepsUp, HasTold, demand_for, demand_in}
use Rattle.octet_machine.specs.Run.{machine_in, IsHeld, IsNext, StandsIn, Steps}
use Rattle.octet_machine.proofs.next_steps.ByPhase.{kind_here, ends_by, after_is, waits_is}
use Rattle.octet_machine.proofs.running.EachTurn.{step_keeps}
use Rattle.octet_machine.proofs.running.Journals.{leaves_fuel}
use Rattle.octet_machine.proofs.memory_steps.Steps.{same_at}

module _ (run : Run) (me : ℕ) (p : Phase) (at : StandsIn run me p) where
  abbrev m : MachineState
  m = machine_in run

  abbrev R : Runner
  R = runner_of (machine_in run) me

  -- the step of this kind, by what it does to the memory and to the thread's run
  pub takes_to : (k : Kind) (run' : Run) → kind_here m me p ≡ k → run'.script ≡ run.script → TakesStep k me run.memory run'.memory
      → run'.runners.items ≡ slice_set m.runners me (run_in_phase (told k me m.protocol) p R) → Steps me run run'
  takes_to k run' kind same takes runs =
      let protocol : held (starting_heap run'.script) run'.memory ≡ step k me m.protocol = ap (λ (script : Script). held (starting_heap script) run'.memory) same ∙ takes.state (starting_heap run.script) in
      let ends : machine_in run' ≡ ends_by m me k Nothing p = λ i. record { protocol = protocol i; runners = runs i; script = same i } in
      record {
        machine = ends ∙ sym (after_is m me Nothing p at.owes_nothing at.stands ∙ ap (λ (j : Kind). ends_by m me j Nothing p) kind);
        same_shape = takes.same_shape;
      }

  -- where the thread's run stays as it is
  pub takes : (k : Kind) (run' : Run) → kind_here m me p ≡ k → ((word : ℕ) → run_in_phase word p R ≡ R) → run'.script ≡ run.script → TakesStep k me run.memory run'.memory
      → run'.runners.items ≡ run.runners.items → Steps me run run'
  takes k run' kind stays same taken runs =
      takes_to k run' kind same taken
      (runs ∙ sym (set-get_or m.runners me no_runner) ∙ ap (λ (x : Runner). slice_set m.runners me x) (sym (stays (told k me m.protocol))))

  -- and why it waits then
  pub waits_by : (k : Kind) (reason : Option Why) → kind_here m me p ≡ k → reason ≡ waits k me (told k me m.protocol) (thread_of m.protocol me) → reason ≡ next_waits m me
  waits_by k reason kind is =
      is ∙ sym (waits_is m me Nothing p at.owes_nothing at.stands ∙ ap (λ (j : Kind). waits j me (told j me m.protocol) (thread_of m.protocol me)) kind)

  -- there is room for an event on the way to an access
  pub has_room : (object : ℕ) (mode : Mode) (value : ℕ) → demand_in p R.value ≡ Some (demand_for object mode value) → HasRoom run.memory me
  has_room object mode value is =
      let held = at.is_next.is_held in
      let j = journal_of m.protocol.journals me in
      let by : StandsBy run.script me j (demand_in (thread_of m.protocol me).phase R.value) R.config =
      subst (λ (e : Option End). KeepsUp run.script me j (thread_of m.protocol me).phase R.value e R.config) at.is_next.goes_on (held.running.keeps_up me at.is_next.there) in
      let told_it : HasTold run.script me j (demand_for object mode value) R.config =
      subst (λ (d : Option Demand). StandsBy run.script me j d R.config) (ap (λ (q : Phase). demand_in q R.value) at.stands ∙ is) by in
      let fuel = leaves_fuel run.script me j told_it.before told_it.at object mode value told_it.tells in
      let few = journals_are_short m.protocol me held.running.sound in
      let room = held.rooms me at.is_next.there in
      omega arith

  pub states_fit : (object : ℕ) → FitsStateWord (state_of m.protocol object)
  states_fit object = state_fits m.protocol object at.is_next.is_held.running.sound

  pub statuses_fit : (thread : ℕ) → FitsStatusWord (status_of m.protocol thread)
  statuses_fit thread = status_fits m.protocol thread at.is_next.is_held.running.sound

  -- the thread's run that is found in its place
  pub is_run : (x : Runner) → x ≡ get_or run.runners.items me x → x ≡ R
  is_run x is = same_at run.runners.items me x no_runner at.is_next.there is

  -- and with a value given
  pub gives : (x : Runner) (config : ThreadState) (value word : ℕ) → x ≡ R → config ≡ given x.config value → value ≡ word
      → set run.runners.items me (record { config = config; value = x.value; end = x.end }) ≡ slice_set run.runners.items me (record { config = given R.config word; value = R.value; end = R.end })
  gives x config value word is gave same =
      ap (λ (c : ThreadState). set run.runners.items me (record { config = c; value = x.value; end = x.end })) (gave ∙ ap (given x.config) same)
      ∙ ap (λ (y : Runner). set run.runners.items me (record { config = given y.config word; value = y.value; end = y.end })) is

-- in the same phase under another name
pub stands_too : (run : Run) (me : ℕ) (p q : Phase) → p ≡ q → StandsIn run me p → StandsIn run me q
stands_too run me p q is at = subst (λ (r : Phase). StandsIn run me r) is at

-- the exchange that the table says
pub exchange_is : (run : Run) (me object : ℕ) (mode : Mode) (seen : StateWord) (x : ProtocolThread) (result : Act) → ((starts : List ℕ) → thread_in x ≡ thread_of (held starts run.memory) me) → result ≡ decided seen me mode x.count
    → kind_here (machine_in run) me (Want object mode (Some seen)) ≡ exchange_of result
exchange_is run me object mode seen x result same is =
    ap exchange_of (sym (is ∙ ap (λ (y : Thread). decided seen me mode y.count) (same (starting_heap run.script))))

pub claims_else : (a : Act) → a ≢ act.Raise → ((from upto : ℕ) → a ≢ act.Share from upto) → exchange_of a ≡ ToClaim
claims_else act.Raise raise share = absurd (raise refl)
claims_else (act.Share from upto) raise share = absurd (share from upto refl)
claims_else act.Pass raise share = refl
claims_else act.Fence raise share = refl
claims_else (act.Take whom) raise share = refl
claims_else (act.Held by) raise share = refl

-- how a claim goes on
pub pursuit_is : (run : Run) (me object : ℕ) (mode : Mode) (prior : StateWord) (done : ℕ) (asked : Bool) (whom : Whom) (threads number : ℕ) (all : Bool)
    → whom ≡ whom_to_ask prior → threads ≡ length run.memory.threads.items → number ≡ number_to_ask whom threads → (done == number) ≡ all
    → kind_here (machine_in run) me (Claimed object mode prior done asked) ≡ pursuit_of all asked (next_to_ask (whom_to_ask prior) me done)
pursuit_is run me object mode prior done asked whom threads number all is many count equal =
    ap (λ (b : Bool). pursuit_of b asked (next_to_ask (whom_to_ask prior) me done))
    (ap (λ (n : ℕ). done == n) (ap (number_to_ask (whom_to_ask prior)) (length-map run.memory.threads.items thread_in ∙ sym many) ∙ ap (λ (w : Whom). number_to_ask w threads) (sym is) ∙ sym count) ∙ equal)

pub then_asks : (me done next : ℕ) (prior : StateWord) (whom : Whom) (asked how : Bool) → whom ≡ whom_to_ask prior → next ≡ next_to_ask whom me done → asked ≡ how
    → pursuit_of false asked (next_to_ask (whom_to_ask prior) me done) ≡ pursuit_of false how next
then_asks me done next prior whom asked how is follows same =
    ap (λ (b : Bool). pursuit_of false b (next_to_ask (whom_to_ask prior) me done)) same
    ∙ ap (pursuit_of false how) (ap (λ (w : Whom). next_to_ask w me done) (sym is) ∙ sym follows)

-- a run with another configuration, by the demand that it has told
abbrev pub taken_with : Demand → ThreadState → Runner → Runner
taken_with (demand.Write object value) config x = record { config = config; value = value; end = x.end }
taken_with (demand.Bump object amount) config x = record { config = config; value = amount; end = x.end }
taken_with (demand.Ended end) config x = record { config = config; value = x.value; end = Some end }
taken_with _ config x = record { config = config; value = x.value; end = x.end }

taken_is : (d : Demand) (x : Runner) → taken_with d (after_demand x.config) x ≡ taken_up d x
taken_is (demand.Read object) x = refl
taken_is (demand.Write object value) x = refl
taken_is (demand.Bump object amount) x = refl
taken_is demand.Safe x = refl
taken_is demand.Pause x = refl
taken_is (demand.Ended end) x = refl

module _ (run : Run) (me : ℕ) (at : StandsIn run me Idle) (x : Runner) (config : ThreadState) (result d : Demand) (found : x ≡ get_or run.runners.items me x) (tells : result ≡ next_demand x.config) (stands : config ≡ after_demand x.config) (is : result ≡ d) where
  abbrev Q : Runner
  Q = runner_of (machine_in run) me

  demand_is : next_demand Q.config ≡ d
  demand_is = sym (tells ∙ ap (λ (y : Runner). next_demand y.config) (is_run run me Idle at x found)) ∙ is

  pub takes_up : set run.runners.items me (taken_with d config x) ≡ slice_set run.runners.items me (taken_up (next_demand Q.config) Q)
  takes_up =
      ap (λ (s : ThreadState). set run.runners.items me (taken_with d s x)) stands
      ∙ ap (λ (y : Runner). set run.runners.items me (taken_with d (after_demand y.config) y)) (is_run run me Idle at x found)
      ∙ ap (set run.runners.items me) (taken_is d Q ∙ ap (λ (e : Demand). taken_up e Q) (sym demand_is))

  pub demand_steps : (memory : Memory) → TakesStep (kind_of_demand d) me run.memory memory → (run' : Run) → run'.script ≡ run.script → run'.memory ≡ memory → run'.runners.items ≡ set run.runners.items me (taken_with d config x) → Steps me run run'
  demand_steps memory steps run' same same_memory runs =
      takes_to run me Idle at (kind_of_demand d) run' (ap kind_of_demand demand_is) same
      (subst (λ (n : Memory). TakesStep (kind_of_demand d) me run.memory n) (sym same_memory) steps) (runs ∙ takes_up)

-- the thread and the object are there
pub thread_there : (run : Run) (me : ℕ) → IsNext run me → IsThread (shape run.memory) me
thread_there run me next =
    let form = next.is_held.running.sound.form in
    let many = length-map run.memory.threads.items thread_in in
    let a = next.there in let b = next.is_held.running.runners in let f = form.few_threads in let s = form.statuses in let j = form.journals in
    record {
      there = omega arith;
      few = omega arith;
      statuses = omega arith;
      journals = omega (arith, length-map run.memory.journals.items (λ x. x.events.items), length-map run.memory.journals.items (λ x. x.events.cap));
    }

pub object_there : (run : Run) (me object : ℕ) → IsNext run me → object < length run.memory.cells.items → IsObject (shape run.memory) object
object_there run me object next lt = record { there = lt; states = next.is_held.running.sound.form.states }

pub holds_phase : (run : Run) (me : ℕ) (p : Phase) → StandsIn run me p → HoldsPhase (length (machine_in run).protocol.threads) (length run.memory.cells.items) me (thread_of (machine_in run).protocol me).count p
holds_phase run me p at = subst (λ (q : Phase). HoldsPhase (length (machine_in run).protocol.threads) (length run.memory.cells.items) me (thread_of (machine_in run).protocol me).count q) at.stands (at.is_next.is_held.running.sound.form.phases me)

-- a glance or an answer that is due changes no run
module _ (run run' : Run) (me : ℕ) (d : Due) (k : Kind) (due : (thread_of (machine_in run).protocol me).due ≡ d) (kind : (j : Kind) → kind_by_due d j ≡ k) (same_run : (a b : Runner) → run_by_due d a b ≡ a) where
  abbrev n : MachineState
  n = machine_in run

  pub due_steps : run'.script ≡ run.script → TakesStep k me run.memory run'.memory → run'.runners.items ≡ run.runners.items → Steps me run run'
  due_steps same taken runs =
      let x = runner_of n me in
      let p = (thread_of n.protocol me).phase in
      let protocol : held (starting_heap run'.script) run'.memory ≡ step k me n.protocol = ap (λ (script : Script). held (starting_heap script) run'.memory) same ∙ taken.state (starting_heap run.script) in
      let items : run'.runners.items ≡ slice_set n.runners me (run_by_due d x (run_in_phase (told k me n.protocol) p x)) =
      runs ∙ sym (set-get_or n.runners me no_runner) ∙ ap (λ (y : Runner). slice_set n.runners me y) (sym (same_run x (run_in_phase (told k me n.protocol) p x))) in
      let ends : machine_in run' ≡ ends_by n me k d p = λ i. record { protocol = protocol i; runners = items i; script = same i } in
      record {
        machine = ends ∙ sym (after_is n me d p due refl ∙ ap (λ (j : Kind). ends_by n me j d p) (kind (kind_here n me p)));
        same_shape = taken.same_shape;
      }

  pub due_waits : None ≡ waits k me (told k me n.protocol) (thread_of n.protocol me) → None ≡ next_waits n me
  due_waits none =
      none ∙ sym (waits_is n me d (thread_of n.protocol me).phase due refl ∙ ap (λ (j : Kind). waits j me (told j me n.protocol) (thread_of n.protocol me)) (kind (kind_here n me (thread_of n.protocol me).phase)))

pub draws_on : (run : Run) (me : ℕ) → IsNext run me → run.memory.counter < 2 ^ 64 - 1
draws_on run me next = let a = counter_is_small (machine_in run).protocol next.is_held.running.sound in omega arith

pub status_fits_next : (run : Run) (me thread : ℕ) → IsNext run me → FitsStatusWord (status_of (machine_in run).protocol thread)
status_fits_next run me thread next = status_fits (machine_in run).protocol thread next.is_held.running.sound

-- the thread's next step keeps what is held
pub steps_hold : (before after : Run) (me : ℕ) → IsNext before me → Steps me before after → IsHeld after
steps_hold before after me next steps =
    let script : after.script ≡ before.script = ap (λ (m : MachineState). m.script) steps.machine in
    let many : length after.runners.items ≡ length before.runners.items =
    ap (λ (m : MachineState). length m.runners) steps.machine ∙ length-set before.runners.items me _ in
    record {
      running = subst IsRunning (sym steps.machine) (step_keeps (machine_in before) me next.is_held.running next.there next.goes_on);
      rooms = λ thread lt.
          let room = next.is_held.rooms thread (omega arith) in
          let fuel = ap (λ (s : Script). s.fuel) script in
          let same = ap (λ (s : Shape). get_or s.rooms thread 0) steps.same_shape in
          omega arith;
    }

pub not_ended : (xs : List Runner) (i : ℕ) (x : Runner) → i < length xs → x ≡ get_or xs i x → false ≡ is_some x.end → (get_or xs i no_runner).end ≡ None
not_ended xs i x lt is none = ap (λ (y : Runner). y.end) (sym (same_at xs i x no_runner lt is)) ∙ go x.end none
  where
    go : (e : Option End) → false ≡ is_some e → e ≡ None
    go None h = refl
    go (Some end) h = absurd (cc (h))
