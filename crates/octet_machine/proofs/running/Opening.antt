-- The machine before its first step.
use Rattle.std.proofs.Common.{◌≡◌, ℕ, zero, suc, ◌*◌, ◌<◌, ◌≤◌, List, [], ◌∷◌, length, map, replicate, get_or, vec_capacity, All, None, refl, sym, ap, ◌∙◌, subst, arith}
use Rattle.std.proofs.lemmas.List.{length-map, length-replicate, get_or-replicate}
use Rattle.std.proofs.lemmas.List.Elements.{All-get_or}
use Rattle.std.proofs.lemmas.List.FromFn.{length-map-range_with_len, get_or-map-range_with_len}
use Rattle.octet_model.specs.declared.event.Event.{Event}
use Rattle.octet_model.specs.declared.script.Script.{Script}
use Rattle.octet_model.specs.Machine.{journal_of, no_events}
use Rattle.octet_model.specs.Orders.{starting_heap}
use Rattle.octet_model.proofs.lemmas.Fronts.{no_journal}
use Rattle.octet_interp.specs.Demands.{starting_thread}
use Rattle.octet_state.specs.State.{Thread, ProtocolState, thread_of, unstarted, resting, opening}
use Rattle.octet_state.specs.declared.state_word.StateWord.TheVariants.{WrEx}
use Rattle.octet_state.proofs.lemmas.Laws.{opening_is_sound}
use Rattle.octet_machine.specs.declared.memory.ProtocolThread.{ProtocolThread}
use Rattle.octet_machine.specs.declared.memory.Memory.{Memory}
use Rattle.octet_machine.specs.declared.run.Runner.{Runner}
use Rattle.octet_machine.specs.declared.run.Run.{Run}
use Rattle.octet_machine.specs.Memory.{thread_in, held, shape}
use Rattle.octet_machine.specs.Machine.{MachineState, no_runner, starting_runner, starting_runners, opening_machine}
use Rattle.octet_machine.specs.Running.{IsAt, KeepsUp, IsRunning}
use Rattle.octet_machine.specs.Run.{machine_in, IsHeld}
use Rattle.octet_machine.specs.Laws.{OpeningIsRunning}
use Rattle.octet_model.proofs.lemmas.Validity.{valid_script}

pub map_replicate : {A B : Type 0} (f : A → B) (n : ℕ) (x : A) → map f (replicate n x) ≡ replicate n (f x)
map_replicate f zero x = refl
map_replicate f (suc n) x = ap (λ (xs : List _). f x ∷ xs) (map_replicate f n x)

-- a thread of a script, at its start
abbrev pub started : Script → ℕ → Runner
started script thread = starting_runner (starting_thread script thread)

many_runners : (script : Script) (n : ℕ) → length (starting_runners script n) ≡ n
many_runners script n = length-map-range_with_len (started script) 0 n

runner_at : (script : Script) (n t : ℕ) → t < n → get_or (starting_runners script n) t no_runner ≡ started script t
runner_at script n t lt = get_or-map-range_with_len (started script) 0 n t t no_runner lt (omega arith)

starts_at : (script : Script) (t : ℕ) → IsAt script t [] (starting_thread script t)
starts_at script t = record { has_commands = refl; has_objects = refl; is_journal = record { fits = tt; settles = refl }; fuelled = omega arith; is_idle = refl }

pub opening_is_running : OpeningIsRunning
opening_is_running script =
    let n = length script.threads in
    let b = valid_script script.fuel script.objects script.threads script.valid in
    let m = opening_machine script in
    let low = b.some_threads in
    record {
      sound = opening_is_sound n (starting_heap script) (omega arith) b.most_threads;
      starts = refl;
      threads = length-replicate n unstarted;
      runners = many_runners script n ∙ sym (length-replicate n unstarted);
      cells = length-map script.objects (λ o. o.start);
      keeps_up = λ t lt.
          let here : t < n = omega (arith, many_runners script n) in
          subst (λ (x : Runner). KeepsUp script t (journal_of m.protocol.journals t) (thread_of m.protocol t).phase x.value x.end x.config) (sym (runner_at script n t here))
          (subst (λ (y : Thread). KeepsUp script t (journal_of m.protocol.journals t) y.phase 0 None (starting_thread script t)) (sym (get_or-replicate n t unstarted unstarted here))
          (subst (λ (j : List Event). IsAt script t j (starting_thread script t)) (sym (no_journal (replicate n unstarted) t)) (starts_at script t)));
    }

-- what is made of vectors of equal items
pub opens : (m : Memory) (threads number : ℕ) (thread : ProtocolThread) (starts : List ℕ) → m.counter ≡ 0 → m.statuses.items ≡ replicate threads resting → m.states.items ≡ replicate number (WrEx 0) → number ≡ length starts → m.cells.items ≡ starts
    → m.threads.items ≡ replicate threads thread → thread_in thread ≡ unstarted → map (λ j. j.events.items) m.journals.items ≡ replicate threads [] → held starts m ≡ opening threads starts
opens m threads number thread starts none statuses states many cells stands start journals =
    let shown : m.states.items ≡ replicate (length starts) (WrEx 0) = states ∙ ap (λ (n : ℕ). replicate n (WrEx 0)) many in
    let standing : map thread_in m.threads.items ≡ replicate threads unstarted = ap (map thread_in) stands ∙ map_replicate thread_in threads thread ∙ ap (replicate threads) start in
    let events : map (λ j. j.events.items) m.journals.items ≡ no_events (replicate threads unstarted) = journals ∙ sym (map_replicate (λ (x : Thread). []) threads unstarted) in
    λ i. record { counter = none i; statuses = statuses i; states = shown i; cells = cells i; threads = standing i; journals = events i; starts = starts }

-- the run before its first step
pub opens_machine : (run : Run) (script : Script) (heap : List ℕ) (threads : ℕ) → run.script ≡ script → heap ≡ starting_heap script → threads ≡ length script.threads
    → held heap run.memory ≡ opening threads heap → run.runners.items ≡ starting_runners script (length script.threads) → machine_in run ≡ opening_machine script
opens_machine run script heap threads same heap_is threads_are state runners =
    let protocol : held (starting_heap run.script) run.memory ≡ opening (length script.threads) (starting_heap script) =
    ap (λ (s : Script). held (starting_heap s) run.memory) same ∙ ap (λ (h : List ℕ). held h run.memory) (sym heap_is) ∙ state
    ∙ ap (λ (h : List ℕ). opening threads h) heap_is ∙ ap (λ (n : ℕ). opening n (starting_heap script)) threads_are in
    λ i. record { protocol = protocol i; runners = runners i; script = same i }

pub opens_held : (run : Run) (script : Script) (threads room : ℕ) → machine_in run ≡ opening_machine script → threads ≡ length script.threads → room ≡ script.fuel * 16 → length (shape run.memory).rooms ≡ threads → All (λ kept. room ≤ kept) (shape run.memory).rooms → IsHeld run
opens_held run script threads room machine many enough journals rooms = record {
  running = subst IsRunning (sym machine) (opening_is_running script);
  rooms = λ t lt.
      let count = ap (λ (m : MachineState). length m.runners) machine ∙ many_runners script (length script.threads) in
      let fuel = ap (λ (m : MachineState). m.script.fuel) machine in
      let here : t < length (shape run.memory).rooms = omega arith in
      let is = All-get_or (λ kept. room ≤ kept) (shape run.memory).rooms t 0 here rooms in
      omega arith;
}

-- as many journals as threads
pub many_rooms : (run : Run) (script : Script) (heap : List ℕ) (threads : ℕ) → held heap run.memory ≡ opening threads heap → length (shape run.memory).rooms ≡ threads
many_rooms run script heap threads state =
    length-map run.memory.journals.items (λ j. vec_capacity j.events) ∙ sym (length-map run.memory.journals.items (λ j. j.events.items))
    ∙ ap (λ (s : ProtocolState). length s.journals) state ∙ length-map (replicate threads unstarted) (λ x. []) ∙ length-replicate threads unstarted
