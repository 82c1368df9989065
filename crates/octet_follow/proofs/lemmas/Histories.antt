-- One history is a recording of all threads that demand what it has.
use Rattle.std.proofs.Common.{◌≡◌, ℕ, ◌<◌, List, [], length, refl, sym, ap, subst, arith, append-nil}
use Rattle.std.proofs.lemmas.List.{length-map, get_or-map}
use Rattle.octet_model.specs.declared.log.ThreadLog.{ThreadLog}
use Rattle.octet_model.specs.Journals.{gapped_marks, log_of_journal, log_of}
use Rattle.octet_model.specs.Machine.{Journals, journal_of, PlainState, AllFinished}
use Rattle.octet_model.specs.Plans.{thread_log_of}
use Rattle.octet_model.specs.Plays.{state_after_play, lowest_play, IsOneHistory}
use Rattle.octet_follow.specs.Recordings.{Threads, by_marks, IsOnTrack, AllFollow}
use Rattle.octet_follow.specs.declared.follower.Follower.{Follower}
use Rattle.octet_follow.specs.Repeats.{RepeatsRecording}
use Rattle.octet_follow.specs.Histories.{AllDemanded, HistoryIsRecording, RepeatsHistory}
use Rattle.octet_follow.proofs.Recordings.{front, is_through}

module _ (threads : Threads) (starts : List ℕ) (journals : Journals) (heap : List ℕ) (draws : ℕ) (history : IsOneHistory starts journals heap draws) (each : AllDemanded threads journals) where
  abbrev log : List ThreadLog
  log = log_of journals

  abbrev end : PlainState
  end = record { heap = heap; journals = journals; draws = draws }

  abbrev play : List ℕ
  play = lowest_play starts journals

  own_log : (t : ℕ) → t < length journals → thread_log_of log t ≡ log_of_journal (journal_of journals t)
  own_log t h = get_or-map log_of_journal journals t [] (record { accesses = 0; marks = [] }) h

  follow : AllFollow threads log journals
  follow = record {
    many = sym (length-map journals log_of_journal);
    track = λ t h. subst (λ (l : ThreadLog). IsOnTrack l (journal_of journals t)) (sym (own_log t h)) (record {
      accesses = omega arith;
      rest = [];
      marks = sym (append-nil (gapped_marks 0 (journal_of journals t)));
      ahead = λ next is. absurd cc;
    });
    demanded = λ t h. let it = each t h in it.demanded;
  }

  comes : state_after_play starts journals play ≡ end
  comes = λ i. record { heap = history.gives i; journals = history.makes_all.makes i; draws = history.counts i }

  through : AllFinished (by_marks threads log) end
  through t h = let it = each t h in is_through (threads t (journal_of journals t)) (thread_log_of log t) (journal_of journals t) (ap (λ (l : ThreadLog). l.marks) (own_log t h)) (ap (λ (l : ThreadLog). l.accesses) (own_log t h)) it.ends

pub history_is_recording : HistoryIsRecording
history_is_recording threads starts journals heap draws history each =
    let is_front = front threads (log_of journals) journals (follow threads starts journals heap draws history each) starts (lowest_play starts journals) (record { heap = heap; journals = journals; draws = draws }) (let all = history.makes_all in all.is_play) (comes threads starts journals heap draws history each) refl in
    record {
      order = lowest_play starts journals;
      is_order = (is_front.0, subst (λ (x : PlainState). AllFinished (by_marks threads (log_of journals)) x) (sym is_front.1) (through threads starts journals heap draws history each));
      ends = is_front.1;
      ordered = history.ordered;
    }

pub repeats_history : (starts : List ℕ) (followers : List Follower) (cells : List ℕ) → RepeatsRecording starts followers cells → RepeatsHistory starts followers cells
repeats_history starts followers cells repeats threads journals heap draws history each have =
    repeats threads (log_of journals) (record { heap = heap; journals = journals; draws = draws }) (history_is_recording threads starts journals heap draws history each) have
