-- A run grows by a step.
use Rattle.std.proofs.Common.{◌≡◌, ◌≢◌, ℕ, ◌<◌, ◌≤◌, Bool, true, false, List, [], ◌∷◌, ◌++◌, length, sym, refl, ap, ◌∙◌, length-set}
use Rattle.std.specs.Prelude.{◌==◌, if◌then◌else◌}
use Rattle.std.proofs.lemmas.List.{length-replicate}
use Rattle.octet_state.specs.declared.state_word.StateWord.{StateWord}
use Rattle.octet_state.specs.State.{Thread, ProtocolState, thread_of, unstarted, opening}
use Rattle.octet_state.specs.Steps.{Kind, ToGlance, ToAnswer, ToBlock, ToUnblock, ToAsk, ToLook, ToLoad, ToRead, ToWrite, ToBump, ToClaim, ToSettle, ToDraw, ToFence, ToRaise, ToShare, May, acted, exchanged, told, after, step, ThreadStep, IsRun, after_run}
use Rattle.octet_state.specs.Soundness.{IsSound}
use Rattle.octet_state.proofs.lemmas.Laws.{opening_is_sound, run_is_sound}
use Rattle.octet_seats.specs.Runs.{Moves, after_all, steps_by, MayAll}
use Rattle.octet_seats.proofs.lemmas.Runs.{stepper_more as stepper_more_so, other_more as other_more_so}
use Rattle.octet_rule.specs.Views.{Taken}
use Rattle.octet_rule.specs.Runs.{state_after, taken_in, steps_of}

-- these runs are runs of steps by threads
abbrev pub moves : Moves ProtocolState ThreadStep Taken
moves = record { who = λ next. next.thread; after = λ next s. step next.kind next.thread s; taken = taken_in }

abbrev pub MayStep : ThreadStep → ProtocolState → Type 0
MayStep next s = (next.thread < length s.threads) × May next.kind next.thread s

pub after_is : (s : ProtocolState) (run : List ThreadStep) → after_run s run ≡ after_all moves s run
after_is s [] = refl
after_is s (next ∷ run) = after_is (step next.kind next.thread s) run

pub steps_are : (t : ℕ) (s : ProtocolState) (run : List ThreadStep) → steps_of t s run ≡ steps_by moves t s run
steps_are t s [] = refl
steps_are t s (next ∷ run) = ap (λ (l : List Taken). (if next.thread == t then taken_in s next ∷ [] else []) ++ l) (steps_are t (step next.kind next.thread s) run)

pub may_all : (s : ProtocolState) (run : List ThreadStep) → IsRun s run → MayAll moves MayStep s run
may_all s [] is = tt
may_all s (next ∷ run) is = ((is.0, is.1), may_all (step next.kind next.thread s) run is.2)

-- a step at the end of a run
pub after_more : (s : ProtocolState) (run : List ThreadStep) (next : ThreadStep) → after_run s (run ++ next ∷ []) ≡ step next.kind next.thread (after_run s run)
after_more s [] next = refl
after_more s (first ∷ run) next = after_more (step first.kind first.thread s) run next

pub run_more : (s : ProtocolState) (run : List ThreadStep) (next : ThreadStep) → IsRun s run → next.thread < length (after_run s run).threads → May next.kind next.thread (after_run s run) → IsRun s (run ++ next ∷ [])
run_more s [] next is inside may = (inside, may, tt)
run_more s (first ∷ run) next is inside may = (is.0, is.1, run_more (step first.kind first.thread s) run next is.2 inside may)

-- its thread takes one step more, and the others none
pub stepper_more : (t : ℕ) (s : ProtocolState) (run : List ThreadStep) (k : Kind) → steps_of t s (run ++ record { thread = t; kind = k } ∷ []) ≡ steps_of t s run ++ taken_in (after_run s run) (record { thread = t; kind = k }) ∷ []
stepper_more t s run k = let next : ThreadStep = record { thread = t; kind = k } in
    steps_are t s (run ++ next ∷ []) ∙ (stepper_more_so moves t s run next refl ∙ λ i. sym (steps_are t s run) i ++ taken_in (sym (after_is s run) i) next ∷ [])

pub other_more : (t u : ℕ) (s : ProtocolState) (run : List ThreadStep) (k : Kind) → u ≢ t → steps_of u s (run ++ record { thread = t; kind = k } ∷ []) ≡ steps_of u s run
other_more t u s run k ne = let next : ThreadStep = record { thread = t; kind = k } in
    steps_are u s (run ++ next ∷ []) ∙ (other_more_so moves u s run next ne ∙ sym (steps_are u s run))

-- no step changes how many threads there are, or with what the cells started
pub record KeepsAll (s next : ProtocolState) : Type 0 where
  pub threads : next.threads ≡ s.threads
  pub starts : next.starts ≡ s.starts

same : (s : ProtocolState) → KeepsAll s s
same s = record { threads = refl; starts = refl }

exchange_keeps : (b : Bool) (s : ProtocolState) (object : ℕ) (state : StateWord) → KeepsAll s (exchanged b s object state)
exchange_keeps true s object state = record { threads = refl; starts = refl }
exchange_keeps false s object state = same s

act_keeps : (k : Kind) (t : ℕ) (s : ProtocolState) → KeepsAll s (acted k t s)
act_keeps ToAnswer t s = record { threads = refl; starts = refl }
act_keeps (ToBlock ends) t s = record { threads = refl; starts = refl }
act_keeps ToUnblock t s = record { threads = refl; starts = refl }
act_keeps (ToAsk whom) t s = record { threads = refl; starts = refl }
act_keeps (ToWrite value) t s = record { threads = refl; starts = refl }
act_keeps (ToBump amount) t s = record { threads = refl; starts = refl }
act_keeps ToClaim t s = exchange_keeps _ s _ _
act_keeps ToSettle t s = record { threads = refl; starts = refl }
act_keeps ToDraw t s = record { threads = refl; starts = refl }
act_keeps ToRaise t s = exchange_keeps _ s _ _
act_keeps ToShare t s = exchange_keeps _ s _ _
act_keeps ToGlance t s = same s
act_keeps (ToLook whom) t s = same s
act_keeps (ToLoad object mode) t s = same s
act_keeps ToRead t s = same s
act_keeps ToFence t s = same s

as_many_after : (s : ProtocolState) (run : List ThreadStep) → length (after_run s run).threads ≡ length s.threads
as_many_after s [] = refl
as_many_after s (next ∷ run) = let k = next.kind in let t = next.thread in as_many_after (step k t s) run
    ∙ (length-set (acted k t s).threads t (after k t (told k t s) (thread_of s t)) ∙ ap (λ (l : List Thread). length l) (act_keeps k t s).threads)

began_after : (s : ProtocolState) (run : List ThreadStep) → (after_run s run).starts ≡ s.starts
began_after s [] = refl
began_after s (next ∷ run) = began_after (step next.kind next.thread s) run ∙ (act_keeps next.kind next.thread s).starts

-- the state after a run from the opening
pub threads_after : (threads : ℕ) (starts : List ℕ) (run : List ThreadStep) → length (state_after threads starts run).threads ≡ threads
threads_after threads starts run = as_many_after (opening threads starts) run ∙ length-replicate threads unstarted

pub starts_after : (threads : ℕ) (starts : List ℕ) (run : List ThreadStep) → (state_after threads starts run).starts ≡ starts
starts_after threads starts run = began_after (opening threads starts) run

pub sound_after : (threads : ℕ) (starts : List ℕ) (run : List ThreadStep) → 0 < threads → threads ≤ 16 → IsRun (opening threads starts) run → IsSound (state_after threads starts run)
sound_after threads starts run more few is = run_is_sound (opening threads starts) run (opening_is_sound threads starts more few) is
