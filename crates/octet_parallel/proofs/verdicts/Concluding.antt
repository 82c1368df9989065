-- What a closed field gives.
use Rattle.std.proofs.Common.{◌≡◌, ◌≢◌, ℕ, zero, suc, ◌<◌, All, List, [], ◌∷◌, map, length, get_or, Option, Some, None, refl, sym, ap, ◌∙◌, subst, arith}
use Rattle.std.specs.Prelude.{IfSome}
use Rattle.std.proofs.lemmas.List.{length-map}
use Rattle.octet_model.specs.declared.command.Command.{Command}
use Rattle.octet_model.specs.declared.event.Event.{Event}
use Rattle.octet_model.specs.declared.outcome.End.{End}
use Rattle.octet_model.specs.declared.outcome.Outcome.{Outcome}
use Rattle.octet_model.specs.Thread.{AccessOrEnd, demanded, configuration_after, starting_configuration}
use Rattle.octet_model.specs.Machine.{Journals, journal_of, next_of, Finished}
use Rattle.octet_model.specs.Orders.{by_log, commands_of, end_of, ends_of, values_read, IsLawfulFront}
use Rattle.octet_replay.specs.NextDemand.{demand_of}
use Rattle.octet_replay.specs.Threads.{end_told, values_of}
use Rattle.octet_replay.specs.declared.thread.ThreadReplay.{ThreadReplay}
use Rattle.octet_parallel.specs.declared.fate.Fate.{Fate}
use Rattle.octet_parallel.specs.declared.fate.Fate.TheVariants.{Playing, Amiss, Stopped}
use Rattle.octet_parallel.specs.declared.finished.Finished as finished
use Rattle.octet_parallel.specs.declared.field.Field.{Field}
use Rattle.octet_parallel.specs.declared.player.Player.{Player}
use Rattle.octet_parallel.specs.declared.words.Seat.{Seat}
use Rattle.octet_parallel.specs.State.{PlayerState, FieldState, SomeAmiss, player_of, unbegun, plain, next_of_player}
use Rattle.octet_parallel.specs.Steps.{IsAmissBy}
use Rattle.octet_parallel.specs.Views.{next_in}
use Rattle.octet_parallel.specs.Runs.{field_after, steps_of}
use Rattle.octet_parallel.specs.Seats.{view, IsSeatOf, EachOf, Closes}
use Rattle.octet_parallel.specs.Calls.{view_of, script_in, log_in, EachEnded, fate_at, fate_in, journals_in, SomeStopped, NoneStopped, SomeFrontIsAmiss, IsFinishedReplay, ClosesAfterRun}
use Rattle.octet_parallel.proofs.steps.Keeping.{journal_is, next_is, many_journals}

-- the fate of the player at a place, as it is read
pub fate_here : (players : List Player) (k : ℕ) (p : Player) → k < length players → p ≡ get_or players k p → fate_at players k ≡ p.fate
fate_here [] k p h is = absurd (omega arith)
fate_here (q ∷ players) zero p h is = ap (λ (x : Player). x.fate) (sym is)
fate_here (q ∷ players) (suc k) p h is = fate_here players k p (omega arith) is

pub fate_got : (players : List Player) (k : ℕ) (d : Player) → k < length players → fate_at players k ≡ (get_or players k d).fate
fate_got [] k d h = absurd (omega arith)
fate_got (q ∷ players) zero d h = refl
fate_got (q ∷ players) (suc k) d h = fate_got players k d (omega arith)

fates_alike : (players : List Player) → ((k : ℕ) (none : Player) → k < length players → (view_of (get_or players k none)).player.fate ≡ (get_or players k none).fate) → (k : ℕ) → k < length players → fate_in players k ≡ fate_at players k
fates_alike [] alike k h = absurd (omega arith)
fates_alike (q ∷ players) alike zero h = alike 0 q h
fates_alike (q ∷ players) alike (suc k) h = fates_alike players (λ j none g. alike (suc j) none (omega arith)) k (omega arith)

-- what is the same of each player
maps_alike : {B : Type 0} (f g : Player → B) (players : List Player) → ((k : ℕ) (none : Player) → k < length players → f (get_or players k none) ≡ g (get_or players k none)) → map f players ≡ map g players
maps_alike f g [] alike = refl
maps_alike f g (q ∷ players) alike = let rest = maps_alike f g players (λ k none h. alike (suc k) none (omega arith)) in λ i. alike 0 q (omega arith) i ∷ rest i

-- a list of what is of each
get_mapped : {B : Type 0} (f : Player → B) (players : List Player) (k : ℕ) (b : B) (none : Player) → k < length players → get_or (map f players) k b ≡ f (get_or players k none)
get_mapped f [] k b none h = absurd (omega arith)
get_mapped f (q ∷ players) zero b none h = refl
get_mapped f (q ∷ players) (suc k) b none h = get_mapped f players k b none (omega arith)

mapped_twice : {B C : Type 0} (f : Player → B) (g : B → C) (players : List Player) → map g (map f players) ≡ map (λ p. g (f p)) players
mapped_twice f g [] = refl
mapped_twice f g (q ∷ players) = ap (λ l. g (f q) ∷ l) (mapped_twice f g players)

-- some player that is there
some_player : (players : List Player) → 0 < length players → Player
some_player [] h = absurd (omega arith)
some_player (q ∷ players) h = q

-- the ends of replayed threads are those that their journals tell
pub ends_are : {A : Type 0} (replay_of : A → ThreadReplay) (fuel : ℕ) (commands : List (List Command)) (threads : List A) (journals : Journals) → length threads ≡ length commands → length threads ≡ length journals
    → ((t : ℕ) (none : A) → t < length threads
    → demanded (get_or commands t []) (configuration_after (get_or commands t []) (starting_configuration fuel) (journal_of journals t)) ≡ demand_of (replay_of (get_or threads t none)).up_next)
    → map (λ (x : A). end_told (replay_of x)) threads ≡ ends_of fuel commands journals
ends_are replay_of fuel [] [] journals same as_many demands = refl
ends_are replay_of fuel [] (x ∷ threads) journals same as_many demands = absurd (omega arith)
ends_are replay_of fuel (c ∷ commands) [] journals same as_many demands = absurd (omega arith)
ends_are replay_of fuel (c ∷ commands) (x ∷ threads) [] same as_many demands = absurd (omega arith)
ends_are replay_of fuel (c ∷ commands) (x ∷ threads) (j ∷ journals) same as_many demands =
    let first : demanded c (configuration_after c (starting_configuration fuel) j) ≡ demand_of (replay_of x).up_next = demands 0 x (omega arith) in
    let rest = ends_are replay_of fuel commands threads journals (omega arith) (omega arith) (λ t none h. demands (suc t) none (omega arith)) in
    ap (λ (es : List End). end_told (replay_of x) ∷ es) rest ∙ ap (λ (d : AccessOrEnd). end_of d ∷ ends_of fuel commands journals) (sym first)

pub same_outcome : {e e' : List End} {p p' : List (List ℕ)} {h h' : List ℕ} → e ≡ e' → p ≡ p' → h ≡ h'
    → ◌≡◌ {A = Outcome} (record { ends = e; reads = p; heap = h }) (record { ends = e'; reads = p'; heap = h' })
same_outcome e p h = rw (e, p, h) refl

module _ (field : Field) (players : List Player) (all : length players ≡ field.words.players) (ended : EachEnded field players) where
  -- the seats of the players are those of the field
  pub each_of : (seats : List Seat) → seats ≡ map (λ (p : Player). p.seat) players → (length seats ≡ field.words.players) × EachOf field.words seats
  each_of seats is = (
    ap (λ (l : List Seat). length l) is ∙ length-map players (λ (p : Player). p.seat) ∙ all,
    λ number none h.
        let inside : number < length players = let a = ap (λ (l : List Seat). length l) is in let b = length-map players (λ (p : Player). p.seat) in omega arith in
        let q = some_player players (omega arith) in
        let e = ended number q inside in
        let same : get_or seats number none ≡ (get_or players number q).seat = ap (λ (l : List Seat). get_or l number none) is ∙ get_mapped (λ (p : Player). p.seat) players number none q inside in
        (subst (IsSeatOf field.words) (sym same) e.0.own, ap (λ (x : Seat). (view x).number) same ∙ e.1),
  )

  module _ (seats : List Seat) (cells : List ℕ) (are : seats ≡ map (λ (p : Player). p.seat) players) (closes : Closes (script_in field) (log_in field) seats cells) where
    abbrev s : FieldState
    s = closes.last

    players_are : s.players ≡ map (λ (p : Player). (view_of p).player) players
    players_are = closes.players ∙ ap (λ (l : List Seat). map (λ (x : Seat). (view x).player) l) are ∙ mapped_twice (λ (p : Player). p.seat) (λ (x : Seat). (view x).player) players

    many : length s.players ≡ length players
    many = ap (λ (l : List PlayerState). length l) players_are ∙ length-map players (λ (p : Player). (view_of p).player)

    player_is : (k : ℕ) (none : Player) → k < length players → player_of s k ≡ (view_of (get_or players k none)).player
    player_is k none h = ap (λ (l : List PlayerState). get_or l k unbegun) players_are ∙ get_mapped (λ (p : Player). (view_of p).player) players k unbegun none h

    lawful : IsLawfulFront (script_in field) (log_in field).threads s.front
    lawful = subst (λ z. z) (λ i. IsLawfulFront (closes.is_script i) ((closes.is_log i).threads) s.front) (closes.sound.agree, closes.sound.lawful)

    alike : (k : ℕ) → k < length players → fate_in players k ≡ fate_at players k
    alike = fates_alike players (λ k none h. (ended k none h).0.fate)

    -- the field closes after a run of the players
    trails_are : (number : ℕ) (none : Player) → number < length players → steps_of number (script_in field) (log_in field) closes.run ≡ (view_of (get_or players number none)).trail
    trails_are number none h =
        closes.trails number none.seat (let a = ap (λ (l : List Seat). length l) are in let b = length-map players (λ (p : Player). p.seat) in omega arith)
        ∙ ap (λ (x : Seat). (view x).trail) (ap (λ (l : List Seat). get_or l number none.seat) are ∙ get_mapped (λ (p : Player). p.seat) players number none.seat none h)

    pub after_run : (closed : Option finished.Finished) → IfSome closed (λ (result : finished.Finished). result.outcome.heap ≡ cells) → ClosesAfterRun (script_in field) (log_in field) players closed
    after_run closed heap = record {
      run = closes.run;
      is_run = closes.is_run;
      trails = trails_are;
      heap = heap_of closed heap;
    }
      where
        heap_of : (closed : Option finished.Finished) → IfSome closed (λ (result : finished.Finished). result.outcome.heap ≡ cells)
            → IfSome closed (λ (result : finished.Finished). result.outcome.heap ≡ (field_after (script_in field) (log_in field) closes.run).cells)
        heap_of None heap = heap
        heap_of (Some result) heap = heap ∙ sym closes.cells ∙ ap (λ (z : FieldState). z.cells) closes.after

    -- where a player is amiss or stopped, one is amiss
    pub some_amiss : (k : ℕ) → k < length players → fate_at players k ≢ Playing → SomeStopped players × SomeFrontIsAmiss (script_in field) (log_in field).threads
    some_amiss k h differs = (
      record { number = k; within = h; stopped = λ e. differs (sym (alike k h) ∙ e) },
      subst (λ z. z) (λ i. SomeFrontIsAmiss (closes.is_script i) ((closes.is_log i).threads)) (record {
        front = s.front;
        lawful = (closes.sound.agree, closes.sound.lawful);
        thread = one.whom;
        within = let a = one.within in let e = closes.sound.as_many in omega arith;
        amiss = subst (λ (j : List Event). IsAmissBy s.script s.log.threads one.whom j) (sym (journal_is s closes.sound one.whom)) ((closes.sound.each one.whom one.within).amiss one.is_amiss);
      }),
    )
      where
        q : Player
        q = some_player players (omega arith)

        inside : k < length s.players
        inside = let e = many in omega arith

        here : (player_of s k).fate ≡ fate_at players k
        here = ap (λ (x : PlayerState). x.fate) (player_is k q h) ∙ (ended k q h).0.fate ∙ sym (fate_got players k q h)

        go : (f : Fate) → (player_of s k).fate ≡ f → SomeAmiss s
        go Playing is = absurd (differs (sym here ∙ is))
        go Amiss is = record { whom = k; within = inside; is_amiss = is }
        go (Stopped whom) is = (closes.sound.each k inside).stopped whom is

        one : SomeAmiss s
        one = go (player_of s k).fate refl

    -- where all are through, the replay is that of a lawful order
    module _ (play : All (λ (p : Player). p.fate ≡ Playing) players) where
      pub none_stopped : NoneStopped players
      none_stopped k h = let q = some_player players (omega arith) in alike k h ∙ fate_got players k q h ∙ play k q h

      finished_at : (t : ℕ) → t < length players → next_of (by_log s.script s.log.threads) (plain s) t ≡ Finished
      finished_at t h =
          let q = some_player players (omega arith) in
          let e = ended t q h in
          let v = view_of (get_or players t q) in
          let own : v.player.fate ≡ Playing = e.0.fate ∙ play t q h in
          let seat = e.0.own.0 in
          let same : next_of_player s t ≡ next_in v = λ i. by_log ((closes.is_script ∙ sym seat.1) i) (((closes.is_log ∙ sym seat.2) i).threads) (sym e.1 i) ((player_is t q h i).journal) in
          next_is s closes.sound t (let m = many in omega arith) ∙ same ∙ e.2 own

      pub journals_told : map (λ (p : Player). p.journal.items) players ≡ journals_in players
      journals_told = maps_alike (λ (p : Player). p.journal.items) (λ (p : Player). (view_of p).player.journal) players (λ k none h. sym (ended k none h).0.journal)

      journals_are : map (λ (p : Player). p.journal.items) players ≡ (plain s).journals
      journals_are =
          journals_told
          ∙ sym (mapped_twice (λ (p : Player). (view_of p).player) (λ (x : PlayerState). x.journal) players)
          ∙ ap (λ (l : List PlayerState). map (λ (x : PlayerState). x.journal) l) (sym players_are) ∙ sym closes.sound.journals

      reads_are : map (λ (p : Player). values_of p.replay) players ≡ map values_read (plain s).journals
      reads_are =
          maps_alike (λ (p : Player). values_of p.replay) (λ (p : Player). values_read p.journal.items) players (λ k none h. (ended k none h).0.replay.reads)
          ∙ sym (mapped_twice (λ (p : Player). p.journal.items) values_read players) ∙ ap (λ (js : Journals). map values_read js) journals_are

      numbered : (t : ℕ) (none : Player) → t < length players → (get_or players t none).number ≡ t
      numbered t none h = sym (ended t none h).0.number ∙ (ended t none h).1

      journal_at : (t : ℕ) (none : Player) → t < length players → journal_of (plain s).journals t ≡ (get_or players t none).journal.items
      journal_at t none h = journal_is s closes.sound t ∙ ap (λ (x : PlayerState). x.journal) (player_is t none h) ∙ (ended t none h).0.journal

      ends_told : map (λ (p : Player). end_told p.replay) players ≡ ends_of s.script.fuel s.script.threads (plain s).journals
      ends_told =
          ends_are (λ (p : Player). p.replay) s.script.fuel s.script.threads players (plain s).journals (sym many ∙ closes.sound.as_many ∙ sym closes.sound.agree) (sym (many_journals s closes.sound ∙ many))
          (λ t none h.
          let e = ended t none h in
          (λ i. demanded (commands_of (closes.is_script i) (sym (numbered t none h) i)) (configuration_after (commands_of (closes.is_script i) (sym (numbered t none h) i)) (starting_configuration ((closes.is_script i).fuel)) (journal_at t none h i)))
          ∙ e.0.replay.comes.demands)

      pub is_finished : (result : finished.Finished) → result.journals ≡ map (λ (p : Player). p.journal.items) players → result.outcome.reads ≡ map (λ (p : Player). values_of p.replay) players
          → result.outcome.ends ≡ map (λ (p : Player). end_told p.replay) players → result.outcome.heap ≡ cells → IsFinishedReplay (script_in field) (log_in field).threads result
      is_finished result journals reads ends heap =
          subst (λ z. z) (λ i. IsFinishedReplay (closes.is_script i) ((closes.is_log i).threads) result) (record {
            order = s.front;
            lawful = (closes.sound.agree, (closes.sound.lawful, λ t h. finished_at t (let a = many_journals s closes.sound in let m = many in omega arith)));
            journals = journals ∙ journals_are;
            outcome = same_outcome (ends ∙ ends_told) (reads ∙ reads_are) (heap ∙ sym closes.cells ∙ sym closes.sound.heap);
          })
