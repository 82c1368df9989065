-- A run by a recording that orders all conflicts repeats it.
use Rattle.std.proofs.Common.{◌≡◌, ◌∙◌, ℕ, ◌<◌, List, [], ◌∷◌, length, Some, None, slice_index_or, sym, ap, subst, arith}
use Rattle.std.proofs.lemmas.List.{length-map}
use Rattle.octet_model.specs.declared.command.Command.{Command}
use Rattle.octet_model.specs.declared.log.Log.{Log}
use Rattle.octet_model.specs.declared.log.ThreadLog.{ThreadLog}
use Rattle.octet_model.specs.declared.script.Script.{Script}
use Rattle.octet_model.specs.Machine.{Journals, journal_of, Finished}
use Rattle.octet_model.specs.Orders.{by_log, lowest_order, journals_after, opening_state}
use Rattle.octet_model.proofs.lemmas.LogsOfJournals.{as_many_after}
use Rattle.octet_clock.specs.Fronts.{OrdersConflicts}
use Rattle.octet_clock.specs.declared.verdict.Verdict.{Verdict}
use Rattle.octet_clock.specs.declared.verdict.Verdict.TheVariants.{Ordered}
use Rattle.octet_clock.specs.Verified.{IsVerified}
use Rattle.octet_replay.specs.Places.{FitInPlaces}
use Rattle.octet_clock.proofs.lemmas.FrontLaws.{no_front_is_amiss, one_order_gives}
use Rattle.octet_parallel.specs.declared.finished.Finished as finished
use Rattle.octet_parallel.specs.declared.player.Player.{Player}
use Rattle.octet_parallel.specs.Calls.{view_of, script_in, log_in, players_in, ClosesTo, EachEnded, HasEnded, IsPlayerOf}
use Rattle.octet_rerun.specs.declared.follower.Follower.{Follower}
use Rattle.octet_rerun.specs.declared.rerun.Rerun.{Rerun}
use Rattle.octet_rerun.specs.Reruns.{players_of, EachAtEnd, IsAtEnd, IsOfRecording, RepeatsRecording}
use Rattle.octet_rerun.proofs.Followers.{player_at}

module _ (script : Script) (log : List ThreadLog) (orders : OrdersConflicts script log) where
  -- after all its recorded events a thread is through
  pub through : (thread : ℕ) → thread < length log → by_log script log thread (journal_of (journals_after script log (lowest_order script log)) thread) ≡ Finished
  through thread there =
      let many : length (journals_after script log (lowest_order script log)) ≡ length log =
      as_many_after (by_log script log) (lowest_order script log) (opening_state script) ∙ (length-map script.threads (λ (t : List Command). []) ∙ orders.0.0) in
      orders.0.1.1 thread (omega (arith, there, many))

  pub repeats : (players : List Player) (result : finished.Finished) → ClosesTo script log players (Some result) → RepeatsRecording script log result
  repeats players result closes =
      let is = closes.2 in
      let one = one_order_gives script log is.order is.lawful orders in record {
        journals = is.journals ∙ one.1;
        outcome = λ outcome faithful. is.outcome ∙ faithful.outcomes is.order is.lawful;
      }

  -- no player is amiss, so that there is an outcome
  pub some_outcome : (players : List Player) → ClosesTo script log players None → ⊥
  some_outcome players closes = let some = closes.1 in no_front_is_amiss script log some.front some.thread orders some.lawful some.within some.amiss

-- a player that has made all that was recorded of it has ended
ended_at : (rerun : Rerun) (thread : ℕ) (f : Follower) → IsAtEnd rerun thread f → HasEnded (view_of f.player)
ended_at rerun thread f end plays =
    let v = view_of f.player in
    let belongs = end.own.own.own.0 in
    let number : v.number ≡ thread = end.own.number ∙ end.thread_is in
    let there : thread < length (log_in rerun.field).threads = omega (arith, end.own.own.inside, end.own.own.number, number, rerun.field.words.numbered) in
    let made : v.player.journal ≡ journal_of (journals_after (script_in rerun.field) (log_in rerun.field).threads (lowest_order (script_in rerun.field) (log_in rerun.field).threads)) thread =
    end.all_made ∙ ap (λ (js : Journals). journal_of js thread) end.own.recording.journals in
    (λ i. by_log (belongs.1 i) ((belongs.2 i).threads) (number i) (made i)) ∙ through (script_in rerun.field) (log_in rerun.field).threads end.own.recording.orders thread there

pub each_ended : (rerun : Rerun) (followers : List Follower) → EachAtEnd rerun followers → EachEnded rerun.field (players_of followers)
each_ended rerun followers each number none there =
    let other : Follower = record { player = none; thread = 0; made = 0; accesses = 0 } in
    let within : number < length followers = omega (arith, there, length-map followers (λ (f : Follower). f.player)) in
    let f = slice_index_or followers number other in
    let end = each number other within in
    subst (λ (p : Player). IsPlayerOf rerun.field p × ((view_of p).number ≡ number) × HasEnded (view_of p)) (sym (player_at followers number other within))
    (end.own.own, end.own.number ∙ end.thread_is, ended_at rerun number f end)

-- of each run some follower tells the recording
pub recording_of : (rerun : Rerun) (followers : List Follower) → length followers ≡ players_in rerun.field → EachAtEnd rerun followers → IsOfRecording rerun
recording_of rerun [] all each = absurd (omega (arith, all, rerun.field.words.few.0))
recording_of rerun (f ∷ followers) all each = (each 0 f (omega arith)).own.recording

-- a verdict that a log orders all conflicts
pub orders_by : (script : Script) (log : List ThreadLog) (verdict : Verdict) → IsVerified script log verdict → verdict ≡ Ordered → OrdersConflicts script log
orders_by script log verdict is ordered = (is.lawful, is.told.ordered.0 ordered)

-- a second run of what a replay told
pub recording_from : (rerun : Rerun) (script : Script) (log : Log) → script_in rerun.field ≡ script → log_in rerun.field ≡ log → OrdersConflicts script log.threads
    → rerun.recorded ≡ journals_after script log.threads (lowest_order script log.threads) → FitInPlaces rerun.recorded → IsOfRecording rerun
recording_from rerun script log s l orders journals places = record {
  orders = subst (λ z. z) (λ i. OrdersConflicts (sym s i) ((sym l i).threads)) orders;
  journals = journals ∙ (λ i. journals_after (sym s i) ((sym l i).threads) (lowest_order (sym s i) ((sym l i).threads)));
  places = places;
}
