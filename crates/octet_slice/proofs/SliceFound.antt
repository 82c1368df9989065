-- A slice by the replay of a past alone.
use Rattle.std.proofs.Common.{◌≡◌, ℕ, zero, suc, ◌+◌, ◌^◌, ◌<◌, ◌≤◌, List, [], ◌∷◌, length, take, get_or, IsTrue, slice_get, sum_by, refl, sym, ap, ◌∙◌, subst, arith}
use Rattle.std.proofs.lemmas.List.{length-map}
use Rattle.std.proofs.lemmas.List.Sums.{get_or-le-sum_by}
use Rattle.std.proofs.lemmas.Option.{slice_get-get_or}
use Rattle.octet_model.specs.declared.command.Command.{Command}
use Rattle.octet_model.specs.declared.event.Event.{Event}
use Rattle.octet_model.specs.declared.event.Event.TheVariants.{Read}
use Rattle.octet_model.specs.declared.event.Place.{Place}
use Rattle.octet_model.specs.declared.log.Log.{Log}
use Rattle.octet_model.specs.declared.log.ThreadLog.{ThreadLog}
use Rattle.octet_model.specs.declared.script.Script.{Script}
use Rattle.octet_model.specs.Log.{is_log}
use Rattle.octet_model.specs.Journals.{log_of, log_of_journal}
use Rattle.octet_model.specs.Machine.{Journals, journal_of}
use Rattle.octet_model.specs.HappensBefore.{event_at, IsOrdered}
use Rattle.octet_model.specs.Orders.{by_log, opening_state, thread_log_of, journals_after, lowest_order}
use Rattle.octet_model.proofs.lemmas.LogsOfJournals.{as_many_after}
use Rattle.octet_model.proofs.lemmas.LowestFronts.{lowest_is_front, lowest_order_is_lowest}
use Rattle.octet_model.proofs.lemmas.Plays.{total, total_after, total_none}
use Rattle.octet_model.proofs.lemmas.Splits.{length_parts, length-gapped_marks}
use Rattle.octet_model.proofs.lemmas.Validity.{valid_log}
use Rattle.octet_replay.specs.Judged.{IsLawful}
use Rattle.octet_slice.specs.declared.replaying.Replayed.{Replayed}
use Rattle.octet_slice.specs.FirstEvents.{first_events}
use Rattle.octet_slice.specs.code.Cutting.{CanCut, cut_log}
use Rattle.octet_slice.specs.Gathering.{AreOfLog, GathersPast}
use Rattle.octet_slice.specs.code.Reached.{Gathered, counts_in, reach_of}
use Rattle.octet_slice.specs.Replaying.{MakesEventAt, IsReplayedTo}
use Rattle.octet_slice.specs.Slice.{events_of, CountsPast, IsSliceOf}
use Rattle.octet_slice.proofs.lemmas.FirstEvents.{first_of, as_many_first}
use Rattle.octet_slice.proofs.lemmas.Alone.{closed_events_replay_alone}
use Rattle.octet_slice.proofs.Passing.{log_of_one}
use Rattle.octet_slice.proofs.LawfulJournals.{are_of_log, all_events_are, total_first, part_is_log}
use Rattle.octet_slice.proofs.PastFound.{is_past, is_closed, has_now, cut_is_log, can_cut}

slice_get-take : (n : ℕ) (j : List Event) (k : ℕ) → k < n → slice_get (take n j) k ≡ slice_get j k
slice_get-take zero j k lt = absurd (omega arith)
slice_get-take (suc n) [] k lt = refl
slice_get-take (suc n) (e ∷ j) zero lt = refl
slice_get-take (suc n) (e ∷ j) (suc k) lt = slice_get-take n j k (omega arith)

-- a log's threads have few events
pub few_events_of : (log : Log) (logs : List ThreadLog) → logs ≡ log.threads → (t : ℕ) → t < length logs → events_of (thread_log_of logs t) < 2 ^ 33
few_events_of log logs same t lt =
    let is = valid_log log.threads log.valid in
    let there : t < length log.threads = omega (arith, lt, ap (λ (l : List ThreadLog). length l) same) in
    subst (λ (l : List ThreadLog). events_of (thread_log_of l t) < 2 ^ 33) (sym same)
    (omega (arith, (is.each t there).few_marks, get_or-le-sum_by (λ (l : ThreadLog). l.accesses) log.threads t (record { accesses = 0; marks = [] }) there, is.accesses_of_all))

module _ (script : Script) (log : Log) (lawful : IsLawful script log.threads) (ordered : IsOrdered (journals_after script log.threads (lowest_order script log.threads))) where
  abbrev J : Journals
  J = journals_after script log.threads (lowest_order script log.threads)

  many : length J ≡ length log.threads
  many = as_many_after (by_log script log.threads) (lowest_order script log.threads) (opening_state script) ∙ length-map script.threads (λ (c : List Command). []) ∙ lawful.0

  pub are : (logs : List ThreadLog) → logs ≡ log.threads → AreOfLog J logs
  are logs is = subst (λ (l : List ThreadLog). AreOfLog J l) (sym is) (are_of_log script log.threads lawful log.valid)

  -- a thread has as many events as its log says
  long_enough : (logs : List ThreadLog) → logs ≡ log.threads → (t event : ℕ) (of : ThreadLog) → t < length logs → of ≡ get_or logs t of → event < events_of of → event + 1 ≤ length (journal_of J t)
  long_enough logs is t event of lt of_is below =
      let one = log_of_one J logs (are logs is) t of lt of_is in
      omega (arith, below, ap (λ (l : ThreadLog). l.accesses + length l.marks) one.is_log, length_parts (journal_of J t), length-gapped_marks 0 (journal_of J t))

  module _ (logs : List ThreadLog) (is : logs ≡ log.threads) (g : Gathered) (t event : ℕ) (within : t < length logs) (own : ThreadLog) (own_is : own ≡ get_or logs t own) (below : event < events_of own)
      (gathers : (js : Journals) → AreOfLog js logs → event + 1 ≤ length (journal_of js t) → GathersPast js t (event + 1) g) where
    long : event + 1 ≤ length (journal_of J t)
    long = long_enough logs is t event own within own_is below

    whole : GathersPast J t (event + 1) g
    whole = gathers J (are logs is) long

    abbrev counts : List ℕ
    counts = counts_in g.threads

    abbrev K : Journals
    K = first_events counts J

    pub cuts : (u : ℕ) → u < length logs → CanCut (thread_log_of logs u) (reach_of g.threads u)
    cuts u lt = can_cut J logs (are logs is) t (event + 1) g whole u (thread_log_of logs u) (record { accesses = 0; marks = [] }) lt refl

    cut_is : cut_log logs g.threads ≡ log_of K
    cut_is = cut_is_log J logs (are logs is) t (event + 1) g whole

    pub cut_is_valid : IsTrue (is_log (cut_log logs g.threads))
    cut_is_valid =
        subst (λ (l : List ThreadLog). IsTrue (is_log l)) (sym cut_is)
        (part_is_log counts J (subst (λ (l : List ThreadLog). IsTrue (is_log l)) ((are log.threads refl).is_log) log.valid))

    module _ (part : List ThreadLog) (part_is : part ≡ cut_log logs g.threads) where
      of_part : part ≡ log_of K
      of_part = part_is ∙ cut_is

      pub same_many : length script.threads ≡ length part
      same_many = omega (arith, ap (λ (l : List ThreadLog). length l) of_part, length-map {B = ThreadLog} K log_of_journal, as_many_first counts J, many, lawful.0)

      -- the part is replayed alone
      alone : journals_after script part (lowest_order script part) ≡ K
      alone =
          ap (λ (l : List ThreadLog). journals_after script l (lowest_order script l)) of_part
          ∙ closed_events_replay_alone script log.threads (lowest_order script log.threads) counts lawful ordered (is_closed J logs (are logs is) t (event + 1) g whole)

      abbrev here : Place
      here = record { thread = t; event = event }

      same_event : event_at (journals_after script part (lowest_order script part)) here ≡ event_at J here
      same_event =
          ap (λ (js : Journals). event_at js here) alone ∙ ap (λ (j : List Event). slice_get j event) (first_of counts J t)
          ∙ slice_get-take (get_or counts t 0) (journal_of J t) event (omega (arith, has_now J logs (are logs is) t (event + 1) g whole))

      pub makes_it : MakesEventAt script part here
      makes_it = (get_or (journal_of J t) event (Read 0 0), same_event ∙ slice_get-get_or (journal_of J t) event (Read 0 0) (omega (arith, long)))

      -- and gives the slice
      pub sliced : (replayed : Replayed) (all : ℕ) → IsReplayedTo script part here replayed → all ≡ sum_by events_of logs
          → IsSliceOf J here (record { event = replayed.event; made = replayed.made; all = all })
      sliced replayed all is_replayed all_is =
          let now : event + 1 ≡ suc event = omega arith in
          let past = is_past J logs (are logs is) t (event + 1) g whole in
          let order = lowest_order script part in
          let front = lowest_is_front (by_log script part) order (opening_state script) (lowest_order_is_lowest script part same_many) in
          let closed = is_closed J logs (are logs is) t (event + 1) g whole in
          record {
            is_event = sym same_event ∙ is_replayed.is_event;
            past = counts;
            is_past = subst (λ (n : ℕ). CountsPast J t n counts) now past;
            made = omega (arith, is_replayed.made, total_after (by_log script part) order (opening_state script) front, total_none script.threads, ap total alone, total_first counts J past.as_many closed.within);
            all = all_is ∙ ap (sum_by events_of) (are logs is).is_log ∙ all_events_are J;
          }
