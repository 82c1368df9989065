-- What a step leaves as it is.
use Rattle.std.proofs.Common.{◌≡◌, ◌≢◌, ℕ, ◌<◌, Bool, true, false, List, length, get_or, set, Option, Some, None, refl, ap, ◌∙◌, length-set, get_or-set_same, get_or-set_other}
use Rattle.octet_model.specs.declared.event.Event.{Event}
use Rattle.octet_model.specs.Thread.{added}
use Rattle.octet_model.specs.Machine.{Journals, journal_of}
use Rattle.octet_model.proofs.lemmas.Steps.{same_journal, other_journal}
use Rattle.octet_state.specs.declared.state_word.StateWord.{StateWord}
use Rattle.octet_state.specs.declared.state_word.StateWord.TheVariants.{WrEx, ShInt}
use Rattle.octet_state.specs.State.{Thread, ProtocolState, thread_of, status_of, now, unstarted}
use Rattle.octet_state.specs.Steps.{Kind, ToGlance, ToAnswer, ToBlock, ToUnblock, ToAsk, ToLook, ToLoad, ToRead, ToWrite, ToBump, ToClaim, ToSettle, ToDraw, ToFence, ToRaise, ToShare, shown, asked_by, settling, claiming, mode_of, target, wins, found, told, after, made, exchanged, acted, grown, ended_by, step}

-- another state with the same threads, journals and starting values, and as many words
pub record HasSameThreads (s other : ProtocolState) : Type 0 where
  pub threads : other.threads ≡ s.threads
  pub journals : other.journals ≡ s.journals
  pub starts : other.starts ≡ s.starts
  pub statuses : length other.statuses ≡ length s.statuses
  pub states : length other.states ≡ length s.states
  pub cells : length other.cells ≡ length s.cells

unchanged : (s : ProtocolState) → HasSameThreads s s
unchanged s = record { threads = refl; journals = refl; starts = refl; statuses = refl; states = refl; cells = refl }

pub exchange_keeps : (b : Bool) (s : ProtocolState) (object : ℕ) (state : StateWord) → HasSameThreads s (exchanged b s object state)
exchange_keeps true s object state = record { threads = refl; journals = refl; starts = refl; statuses = refl; states = length-set s.states object state; cells = refl }
exchange_keeps false s object state = unchanged s

-- what a step does to its word leaves the threads as they are
pub act_keeps : (k : Kind) (t : ℕ) (s : ProtocolState) → HasSameThreads s (acted k t s)
act_keeps ToAnswer t s = record { threads = refl; journals = refl; starts = refl; statuses = length-set s.statuses t (shown false (now s t)); states = refl; cells = refl }
act_keeps (ToBlock ends) t s = record { threads = refl; journals = refl; starts = refl; statuses = length-set s.statuses t (shown true (now s t)); states = refl; cells = refl }
act_keeps ToUnblock t s = record { threads = refl; journals = refl; starts = refl; statuses = length-set s.statuses t (shown false (now s t)); states = refl; cells = refl }
act_keeps (ToAsk whom) t s = record { threads = refl; journals = refl; starts = refl; statuses = length-set s.statuses whom (asked_by t (status_of s whom)); states = refl; cells = refl }
act_keeps (ToWrite value) t s = record { threads = refl; journals = refl; starts = refl; statuses = refl; states = refl; cells = length-set s.cells (target (thread_of s t).phase) value }
act_keeps (ToBump amount) t s = record { threads = refl; journals = refl; starts = refl; statuses = refl; states = refl; cells = length-set s.cells (target (thread_of s t).phase) (added amount (found (ToBump amount) t s)) }
act_keeps ToClaim t s = exchange_keeps (wins (found ToClaim t s) (thread_of s t).phase) s (target (thread_of s t).phase) (claiming t (mode_of (thread_of s t).phase))
act_keeps ToSettle t s = record { threads = refl; journals = refl; starts = refl; statuses = refl; states = length-set s.states (target (thread_of s t).phase) (settling t (now s t) (thread_of s t).phase); cells = refl }
act_keeps ToDraw t s = record { threads = refl; journals = refl; starts = refl; statuses = refl; states = refl; cells = refl }
act_keeps ToRaise t s = exchange_keeps (wins (found ToRaise t s) (thread_of s t).phase) s (target (thread_of s t).phase) (WrEx t)
act_keeps ToShare t s = exchange_keeps (wins (found ToShare t s) (thread_of s t).phase) s (target (thread_of s t).phase) (ShInt t)
act_keeps ToGlance t s = unchanged s
act_keeps (ToLook whom) t s = unchanged s
act_keeps (ToLoad object mode) t s = unchanged s
act_keeps ToRead t s = unchanged s
act_keeps ToFence t s = unchanged s

-- journals that grow by one event or none
pub grown_same : (journals : Journals) (t : ℕ) (event : Option Event) → t < length journals → journal_of (grown journals t event) t ≡ ended_by (journal_of journals t) event
grown_same journals t None h = refl
grown_same journals t (Some event) h = same_journal journals t event h

pub grown_other : (journals : Journals) (t u : ℕ) (event : Option Event) → u ≢ t → journal_of (grown journals t event) u ≡ journal_of journals u
grown_other journals t u None ne = refl
grown_other journals t u (Some event) ne = other_journal journals t u event ne

-- the thread that steps, and the others
module _ (k : Kind) (t : ℕ) (s : ProtocolState) where
  pub stepped_thread : t < length s.threads → thread_of (step k t s) t ≡ after k t (told k t s) (thread_of s t)
  stepped_thread h = ap (λ (l : List Thread). get_or (set l t (after k t (told k t s) (thread_of s t))) t unstarted) (act_keeps k t s).threads
      ∙ get_or-set_same s.threads t (after k t (told k t s) (thread_of s t)) unstarted h

  pub other_thread : (u : ℕ) → u ≢ t → thread_of (step k t s) u ≡ thread_of s u
  other_thread u ne = ap (λ (l : List Thread). get_or (set l t (after k t (told k t s) (thread_of s t))) u unstarted) (act_keeps k t s).threads
      ∙ get_or-set_other s.threads t u (after k t (told k t s) (thread_of s t)) unstarted ne

  pub as_many_threads : length (step k t s).threads ≡ length s.threads
  as_many_threads = length-set (acted k t s).threads t (after k t (told k t s) (thread_of s t)) ∙ ap (λ (l : List Thread). length l) (act_keeps k t s).threads

  -- the journals: one event more, or none
  pub stepped_journals : (step k t s).journals ≡ grown s.journals t (made k t (told k t s) (thread_of s t))
  stepped_journals = ap (λ (journals : Journals). grown journals t (made k t (told k t s) (thread_of s t))) (act_keeps k t s).journals

  pub stepped_journal : t < length s.journals → journal_of (step k t s).journals t ≡ ended_by (journal_of s.journals t) (made k t (told k t s) (thread_of s t))
  stepped_journal h = ap (λ (journals : Journals). journal_of journals t) stepped_journals ∙ grown_same s.journals t (made k t (told k t s) (thread_of s t)) h

  pub journal_of_other : (u : ℕ) → u ≢ t → journal_of (step k t s).journals u ≡ journal_of s.journals u
  journal_of_other u ne = ap (λ (journals : Journals). journal_of journals u) stepped_journals ∙ grown_other s.journals t u (made k t (told k t s) (thread_of s t)) ne
