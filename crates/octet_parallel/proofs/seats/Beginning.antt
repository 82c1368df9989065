-- The players of a field at first.
use Rattle.std.proofs.Common.{◌≡◌, ℕ, zero, suc, ◌+◌, ◌<◌, List, [], ◌∷◌, ◌++◌, length, get_or, refl, sym, ap, ◌∙◌, subst, arith, add-zero}
use Rattle.octet_model.specs.declared.log.Log.{Log}
use Rattle.octet_model.specs.declared.log.ThreadLog.{ThreadLog}
use Rattle.octet_model.specs.declared.script.Script.{Script}
use Rattle.octet_model.specs.declared.event.Event.{Event}
use Rattle.octet_model.specs.Orders.{commands_of, thread_log_of}
use Rattle.octet_model.specs.Thread.{starting_configuration}
use Rattle.octet_replay.specs.Threads.{IsReplayOf}
use Rattle.octet_replay.proofs.lemmas.Valid.{few_accesses, few_marks}
use Rattle.octet_parallel.specs.declared.field.Field.{Field}
use Rattle.octet_parallel.specs.declared.player.Player.{Player}
use Rattle.octet_parallel.specs.declared.words.Seat.{Seat}
use Rattle.octet_parallel.specs.State.{PlayerState}
use Rattle.octet_parallel.specs.Tracks.{IsOnTrack}
use Rattle.octet_parallel.specs.Seats.{IsSeatOf, IsFresh, EachFresh}
use Rattle.octet_parallel.specs.Calls.{script_in, log_in, IsPlayerAt, ArePlayersAt, IsPlayerOf, IsUnbegun, EachUnbegun}
use Rattle.octet_parallel.proofs.verdicts.Tracks.{none_on_track}

-- one player more
pub players_more : (script : Script) (log : List ThreadLog) (n k : ℕ) (seats : List Seat) (players : List Player) (seat : Seat) (player : Player) → ArePlayersAt script log n seats players → n + length seats ≡ k → IsPlayerAt script log k seat player
    → ArePlayersAt script log n (seats ++ seat ∷ []) (players ++ player ∷ [])
players_more script log n k [] [] seat player are is at = (subst (λ (m : ℕ). IsPlayerAt script log m seat player) (let e : k ≡ n = omega arith in e) at, tt)
players_more script log n k [] (q ∷ players) seat player are is at = absurd are
players_more script log n k (x ∷ seats) [] seat player are is at = absurd are
players_more script log n k (x ∷ seats) (q ∷ players) seat player are is at = (are.0, players_more script log (n + 1) k seats players seat player are.1 (omega arith) at)

pub as_many_players : (script : Script) (log : List ThreadLog) (n : ℕ) (seats : List Seat) (players : List Player) → ArePlayersAt script log n seats players → length players ≡ length seats
as_many_players script log n [] [] are = refl
as_many_players script log n [] (q ∷ players) are = absurd are
as_many_players script log n (x ∷ seats) [] are = absurd are
as_many_players script log n (x ∷ seats) (q ∷ players) are = ap suc (as_many_players script log (n + 1) seats players are.1)

player_at : (script : Script) (log : List ThreadLog) (n : ℕ) (seats : List Seat) (players : List Player) → ArePlayersAt script log n seats players → (k : ℕ) (none : Player) → k < length players → IsPlayerAt script log (n + k) (get_or seats k none.seat) (get_or players k none)
player_at script log n [] [] are k none h = absurd (omega arith)
player_at script log n [] (q ∷ players) are k none h = absurd are
player_at script log n (x ∷ seats) [] are k none h = absurd are
player_at script log n (x ∷ seats) (q ∷ players) are zero none h = subst (λ (m : ℕ). IsPlayerAt script log m x q) (sym (add-zero n)) are.0
player_at script log n (x ∷ seats) (q ∷ players) are (suc k) none h = subst (λ (m : ℕ). IsPlayerAt script log m (get_or seats k none.seat) (get_or players k none)) (let e : (n + 1) + k ≡ n + suc k = omega arith in e) (player_at script log (n + 1) seats players are.1 k none (omega arith))

module _ (field : Field) (script : Script) (log : Log) (is_script : script_in field ≡ script) (is_log : log_in field ≡ log) where
  begun : (k : ℕ) (seat : Seat) (player : Player) → IsPlayerAt script log.threads k seat player → IsSeatOf field.words seat → IsFresh k seat → k < field.words.players → IsPlayerOf field player × IsUnbegun k player
  begun k seat player at own fresh inside =
      let here : IsFresh k player.seat = subst (IsFresh k) (sym at.seated) fresh in
      let mine : IsSeatOf field.words player.seat = subst (IsSeatOf field.words) (sym at.seated) own in
      let logs : thread_log_of log.threads k ≡ thread_log_of (log_in field).threads player.number = λ i. thread_log_of ((sym is_log i).threads) (sym at.numbered i) in (
        record {
          own = mine;
          number = here.0 ∙ sym at.numbered;
          inside = let e = at.numbered in omega arith;
          fate = ap (λ (p : PlayerState). p.fate) here.1 ∙ sym at.fate;
          paid = ap (λ (p : PlayerState). p.owes) here.1;
          journal = ap (λ (p : PlayerState). p.journal) here.1 ∙ sym at.journal;
          track = subst (λ (j : List Event). IsOnTrack (thread_log_of (log_in field).threads player.number) j) (sym at.journal) (none_on_track (thread_log_of (log_in field).threads player.number));
          replay = subst (λ z. z) (λ i. IsReplayOf (commands_of (sym is_script i) (sym at.numbered i)) (starting_configuration ((sym is_script i).fuel)) (length ((sym is_script i).objects)) (logs i) (sym at.journal i) player.replay) at.replay;
          room = let a = at.room in let e = ap (λ (l : ThreadLog). l.accesses + length l.marks) logs in omega arith;
        },
        here,
      )

  pub each_unbegun : (seats : List Seat) (players : List Player) → ArePlayersAt script log.threads 0 seats players → EachFresh field.words seats → length seats ≡ field.words.players → EachUnbegun field players
  each_unbegun seats players are fresh all k none h =
      let many = as_many_players script log.threads 0 seats players are in
      let at = player_at script log.threads 0 seats players are k none h in
      let seat = fresh k none.seat (omega arith) in
      begun k (get_or seats k none.seat) (get_or players k none) (subst (λ (m : ℕ). IsPlayerAt script log.threads m (get_or seats k none.seat) (get_or players k none)) (let e : 0 + k ≡ k = omega arith in e) at) seat.0 seat.1 (omega arith)

-- the log of a thread, as it is read
either_default : (xs : List ThreadLog) (k : ℕ) (d e : ThreadLog) → k < length xs → get_or xs k d ≡ get_or xs k e
either_default [] k d e h = absurd (omega arith)
either_default (x ∷ xs) zero d e h = refl
either_default (x ∷ xs) (suc k) d e h = either_default xs k d e (omega arith)

pub log_read : (log : Log) (k : ℕ) (own : ThreadLog) → k < length log.threads → own ≡ get_or log.threads k own → own ≡ thread_log_of log.threads k
log_read log k own h is = is ∙ either_default log.threads k own (record { accesses = 0; marks = [] }) h

pub few_events : (log : Log) (k : ℕ) (own : ThreadLog) → k < length log.threads → own ≡ get_or log.threads k own → own.accesses + length own.marks < 4295229440
few_events log k own h is =
    let e = log_read log k own h is in
    omega (arith, ap (λ (l : ThreadLog). l.accesses + length l.marks) e, few_accesses log.threads log.valid k, few_marks log.threads log.valid k)
