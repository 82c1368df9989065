-- Tracks that are still leave a faithful recording.
use Rattle.std.proofs.Common.{◌≡◌, ◌∙◌, ℕ, zero, suc, ◌*◌, ◌<◌, ◌≤◌, Bool, true, ◌&&◌, nat_le, List, [], ◌∷◌, length, get_or, map, IsTrue, slice_index_or, refl, sym, ap, subst, arith}
use Rattle.std.specs.List.{list_all}
use Rattle.std.proofs.lemmas.Bool.{and_from, and_parts}
use Rattle.std.proofs.lemmas.List.{length-map}
use Rattle.octet_model.specs.declared.command.Command.{Command}
use Rattle.octet_model.specs.declared.limits.TheConstants.{MAX_FUEL, MAX_OBJECTS, MAX_THREADS}
use Rattle.octet_model.specs.declared.object.Object.{Object}
use Rattle.octet_model.specs.declared.outcome.End.{End}
use Rattle.octet_model.specs.declared.outcome.End.TheVariants.{Done}
use Rattle.octet_model.specs.declared.script.Script.{Script}
use Rattle.octet_model.specs.Log.{is_log}
use Rattle.octet_model.specs.Machine.{Journals, journal_of}
use Rattle.octet_model.specs.Journals.{access_count, log_of}
use Rattle.octet_model.specs.Orders.{starting_heap, commands_of, end_of, ends_of, FitsScript, IsFaithful}
use Rattle.octet_model.specs.Script.{are_distinct, is_thread, is_script}
use Rattle.octet_model.specs.Thread.{starting_configuration, FitsToEnd}
use Rattle.octet_state.proofs.lemmas.ValidLogs.{log_valid}
use Rattle.octet_rule.specs.declared.words.Seat.{Seat}
use Rattle.octet_rule.specs.Seats.{view, threads_of, starts_of}
use Rattle.octet_heap.specs.declared.closed.Closed.{Closed}
use Rattle.octet_heap.specs.declared.worker.Worker.{Worker}
use Rattle.octet_heap.specs.Workers.{seat_of}
use Rattle.octet_heap.specs.Seated.{seats_in, journals_of}
use Rattle.octet_heap.specs.Seated as seated
use Rattle.octet_heap.specs.Closings.{IsClosed}
use Rattle.octet_recorder.specs.declared.recorder.Recorder.{Recorder}
use Rattle.octet_recorder.specs.declared.track.Track.{Track}
use Rattle.octet_recorder.specs.Programs.{FitsAll}
use Rattle.octet_recorder.specs.Recordings.{workers_in, programs_in, ends_in, IsScriptOf}
use Rattle.octet_recorder.specs.Recordings as recorded
use Rattle.octet_recorder.specs.Tracks.{objects_in, threads_in, EachRests}
use Rattle.octet_recorder.proofs.lemmas.Programs.{program_fits, program_long, program_valid}

-- what holds of each element by its place
abbrev Each : {X : Type 0} → (ℕ → X → Type 0) → List X → Type 0
Each {X = X} P xs = (place : ℕ) (none : X) → place < length xs → P place (slice_index_or xs place none)

each_rest : {X : Type 0} (P : ℕ → X → Type 0) (x : X) (xs : List X) → Each P (x ∷ xs) → Each (λ n. P (suc n)) xs
each_rest P x xs each place none there = each (suc place) none (omega (arith, there))

each_mapped : {X Y : Type 0} (f : X → Y) (P : ℕ → Y → Type 0) (xs : List X) → Each (λ n x. P n (f x)) xs → Each P (map f xs)
each_mapped f P [] each place none there = absurd (omega (arith, there))
each_mapped f P (x ∷ xs) each zero none there = each 0 x (omega arith)
each_mapped f P (x ∷ xs) each (suc place) none there = each_mapped f (λ n. P (suc n)) xs (each_rest (λ n y. P n (f y)) x xs each) place none (omega (arith, there))

-- a track's program fits its journal
abbrev Fits : ℕ → Track → Type 0
Fits fuel track = FitsAll track.commands.items (starting_configuration fuel) (seat_of track.worker).journal

abbrev journals_in : List Track → Journals
journals_in tracks = journals_of (workers_in tracks)

ends_are : (fuel : ℕ) (tracks : List Track) → Each (λ n track. Fits fuel track) tracks → ends_of fuel (programs_in tracks) (journals_in tracks) ≡ ends_in tracks
ends_are fuel [] each = refl
ends_are fuel (track ∷ tracks) each =
    let first = (each 0 track (omega arith)).1 in
    ap (λ (d : _). end_of d ∷ ends_of fuel (programs_in tracks) (journals_in tracks)) first ∙ ap (λ (l : List End). Done ∷ l) (ends_are fuel tracks (each_rest (λ n t. Fits fuel t) track tracks each))

fit : (fuel : ℕ) (tracks : List Track) → Each (λ n track. Fits fuel track) tracks → (thread : ℕ) → thread < length tracks
    → FitsToEnd (get_or (programs_in tracks) thread []) (starting_configuration fuel) (journal_of (journals_in tracks) thread)
fit fuel [] each thread there = absurd (omega (arith, there))
fit fuel (track ∷ tracks) each zero there = let f = each 0 track (omega arith) in (f.0, (Done, f.1))
fit fuel (track ∷ tracks) each (suc thread) there = fit fuel tracks (each_rest (λ n t. Fits fuel t) track tracks each) thread (omega (arith, there))

few : (fuel : ℕ) (tracks : List Track) → Each (λ n track. access_count (seat_of track.worker).journal ≤ fuel) tracks → (thread : ℕ) → access_count (journal_of (journals_in tracks) thread) ≤ fuel
few fuel [] each thread = omega arith
few fuel (track ∷ tracks) each zero = each 0 track (omega arith)
few fuel (track ∷ tracks) each (suc thread) = few fuel tracks (each_rest (λ n t. access_count (seat_of t.worker).journal ≤ fuel) track tracks each) thread

valid_threads : (objects : ℕ) (tracks : List Track) → Each (λ n track. is_thread objects track.commands.items ≡ true) tracks → list_all (is_thread objects) (programs_in tracks) ≡ true
valid_threads objects [] each = refl
valid_threads objects (track ∷ tracks) each =
    and_from (is_thread objects track.commands.items) (list_all (is_thread objects) (programs_in tracks)) (each 0 track (omega arith))
    (valid_threads objects tracks (each_rest (λ n t. is_thread objects t.commands.items ≡ true) track tracks each))

-- the test of a script, but for its threads, of which only the number is of account
abbrev is_frame : ℕ → List Object → ℕ → Bool
is_frame fuel objects threads =
    nat_le 1 fuel && nat_le fuel MAX_FUEL
    && nat_le (length objects) MAX_OBJECTS && are_distinct (map (λ o. o.name) objects)
    && nat_le 1 threads && nat_le threads MAX_THREADS
    && nat_le (threads * fuel) MAX_FUEL

script_as : (fuel : ℕ) (objects : List Object) (threads others : List (List Command)) → is_script fuel objects threads ≡ true → length others ≡ length threads
    → list_all (is_thread (length objects)) others ≡ true → is_script fuel objects others ≡ true
script_as fuel objects threads others is many valid =
    and_from (is_frame fuel objects (length others)) (list_all (is_thread (length objects)) others)
    (ap (λ (n : ℕ). is_frame fuel objects n) many ∙ (and_parts (is_frame fuel objects (length threads)) (list_all (is_thread (length objects)) threads) is).0) valid

pub same_journals : (tracks : List Track) → journals_of (workers_in tracks) ≡ recorded.journals_in tracks
same_journals [] = refl
same_journals (t ∷ tracks) = ap (λ (l : Journals). (seat_of t.worker).journal ∷ l) (same_journals tracks)

seats_have_journals : (workers : List Worker) → map (λ (seat : Seat). (view seat).journal) (seats_in workers) ≡ journals_of workers
seats_have_journals [] = refl
seats_have_journals (w ∷ workers) = ap (λ (l : Journals). (seat_of w).journal ∷ l) (seats_have_journals workers)

module _ (recorder : Recorder) (tracks : List Track) (all : length tracks ≡ threads_in recorder) (still : EachRests recorder tracks) where
  abbrev workers : List Worker
  workers = workers_in tracks

  abbrev opening : Script
  opening = recorder.opening

  many_workers : length workers ≡ length tracks
  many_workers = length-map tracks (λ (t : Track). t.worker)

  pub each_rests : seated.EachRests recorder.heap workers
  each_rests = each_mapped (λ (t : Track). t.worker) (λ n w. seated.RestsAs recorder.heap n w) tracks
      (λ place none there. let r = still place none there in (r.own.own, r.number, r.rests))

  each_valid : Each (λ n track. is_thread (length opening.objects) track.commands.items ≡ true) tracks
  each_valid place none there =
      let track = slice_index_or tracks place none in
      program_valid (objects_in recorder) track.commands.items (seat_of track.worker).journal (still place none there).own.program

  pub valid_script : IsTrue (is_script opening.fuel opening.objects (programs_in tracks))
  valid_script =
      script_as opening.fuel opening.objects opening.threads (programs_in tracks) opening.valid (length-map tracks (λ (t : Track). t.commands.items) ∙ all)
      (valid_threads (length opening.objects) tracks each_valid)

  each_fits : Each (λ n track. Fits opening.fuel track) tracks
  each_fits place none there =
      let track = slice_index_or tracks place none in let own = (still place none there).own in
      let enough : length track.commands.items ≤ opening.fuel = omega (arith, own.within) in
      program_fits (objects_in recorder) opening.fuel track.commands.items (seat_of track.worker).journal own.program enough

  each_few : Each (λ n track. access_count (seat_of track.worker).journal ≤ opening.fuel) tracks
  each_few place none there =
      let track = slice_index_or tracks place none in let own = (still place none there).own in
      omega (arith, own.within, program_long (objects_in recorder) track.commands.items (seat_of track.worker).journal own.program)

  module _ (closed : Closed) (closes : IsClosed recorder.heap workers closed) where
    pub valid_log : IsTrue (is_log closed.logs)
    valid_log =
        let last = closes.cells.last in
        let js = journals_in tracks in
        let same : last.journals ≡ js = closes.cells.journals ∙ seats_have_journals workers in
        let long : length last.journals ≡ length opening.threads = ap (λ (l : Journals). length l) same ∙ (length-map workers (λ (w : Worker). (seat_of w).journal) ∙ (many_workers ∙ all)) in
        subst (λ (l : List _). IsTrue (is_log l)) (ap log_of same ∙ sym closes.logs)
        (log_valid opening last closes.cells.sound long (λ t. subst (λ (l : Journals). access_count (journal_of l t) ≤ opening.fuel) (sym same) (few opening.fuel tracks each_few t)))

    module _ (script : Script) (is : IsScriptOf opening tracks script) where
      fits_script : FitsScript script (journals_of workers)
      fits_script thread there =
          let here : thread < length tracks = omega (arith, there, many_workers, length-map workers (λ (w : Worker). (seat_of w).journal)) in
          let commands : get_or (programs_in tracks) thread [] ≡ commands_of script thread = ap (λ (l : List (List Command)). get_or l thread []) (sym is.threads) in
          subst (λ (l : List Command). FitsToEnd l (starting_configuration script.fuel) (journal_of (journals_of workers) thread)) commands
          (subst (λ (f : ℕ). FitsToEnd (get_or (programs_in tracks) thread []) (starting_configuration f) (journal_of (journals_of workers) thread)) (sym is.fuel)
          (fit opening.fuel tracks each_fits thread here))

      same_ends : ends_of script.fuel script.threads (journals_of workers) ≡ ends_in tracks
      same_ends = (λ i. ends_of (is.fuel i) (is.threads i) (journals_of workers)) ∙ ends_are opening.fuel tracks each_fits

      pub faithful : IsFaithful script closed.logs (record { ends = ends_in tracks; reads = closed.reads; heap = closed.heap })
      faithful =
          let many : length script.threads ≡ threads_of recorder.heap.words =
          ap (λ (l : List (List Command)). length l) is.threads ∙ (length-map tracks (λ (t : Track). t.commands.items) ∙ (all ∙ sym recorder.threads)) in
          let starts : starting_heap script ≡ starts_of recorder.heap.words = ap (λ (l : List Object). map (λ (o : Object). o.start) l) is.objects ∙ sym recorder.starts in
          subst (λ (ends : List End). IsFaithful script closed.logs (record { ends = ends; reads = closed.reads; heap = closed.heap })) same_ends
          (closes.faithful script many starts fits_script)
