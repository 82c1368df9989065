-- What each thread did in a run, with the words that it was told, tells the words that the run leaves: of each word but the cells all that was found there and all that was left there add up, and the cells follow from the journals.
use Rattle.std.proofs.Common.{◌≡◌, ◌≢◌, ℕ, suc, ◌+◌, ◌*◌, ◌<◌, Bool, List, [], ◌∷◌, ◌++◌, map, length, get_or, set, sym, refl, ap, ◌∙◌, subst, arith, eq-eqb, length-set, get_or-set_same, get_or-set_other}
use Rattle.std.specs.Prelude.{◌==◌, if◌then◌else◌}
use mathlib.Core.Logic.{dite}
use native.Mathlib.Decide.{ℕ_discrete}
use Rattle.std.proofs.lemmas.Bool.{ne_eqb}
use Rattle.octet_model.specs.declared.event.Event.{Event}
use Rattle.octet_model.specs.Machine.{journal_of}
use Rattle.octet_model.specs.Plays.{state_after_play, lowest_play}
use Rattle.octet_state.specs.declared.state_word.StateWord.{StateWord}
use Rattle.octet_state.specs.declared.status_word.StatusWord.{StatusWord}
use Rattle.octet_state.specs.Words.{packed_state, packed_status}
use Rattle.octet_state.specs.State.{Thread, ProtocolState, thread_of, status_at, state_at, status_line, object_lines, alone, laid_out, words, opening, object_place}
use Rattle.octet_state.specs.Steps.{Kind, May, found, told, after, made, ended_by, step, ThreadStep, IsRun, after_run}
use Rattle.octet_state.specs.Soundness.{IsSound}
use Rattle.octet_state.proofs.lemmas.Laws.{opening_is_sound}
use Rattle.octet_state.proofs.lemmas.Places.{get_status, get_state}
use Rattle.octet_seats.proofs.lemmas.Rows.{same_members}
use Rattle.octet_seats.proofs.lemmas.Telling.{same_known, same_word}
use Rattle.octet_rule.specs.Views.{SeatView, Taken}
use Rattle.octet_rule.specs.Runs.{state_after, taken_in, steps_of}
use Rattle.octet_rule.specs.Rule.{place_by}
use Rattle.octet_rule.specs.Laws.{StepsTellWords}
use Rattle.octet_rule.proofs.Runs.{moves, MayStep, after_is, steps_are, may_all, threads_after, starts_after, sound_after}
use Rattle.octet_rule.proofs.LaidOut.{as_many_words}
use Rattle.octet_rule.proofs.Local.{itself, in_state, found_in, left_in, is_local}

-- what a thread knows of itself: where it stands, and its journal
record Known : Type 0 where
  stands : Thread
  journal : List Event

abbrev knows : ℕ → ProtocolState → Known
knows t s = record { stands = thread_of s t; journal = journal_of s.journals t }

abbrev moved : ℕ → Taken → Known → Known
moved t taken p = record { stands = after taken.kind t taken.word p.stands; journal = ended_by p.journal (made taken.kind t taken.word p.stands) }

keeps_sound : (s : ProtocolState) (next : ThreadStep) → IsSound s → MayStep next s → IsSound (step next.kind next.thread s)
keeps_sound s next sound may = (is_local next.thread s sound may.0 next.kind may.1).law.sound

mine : (s : ProtocolState) (next : ThreadStep) → IsSound s → MayStep next s → knows next.thread (step next.kind next.thread s) ≡ moved next.thread (taken_in s next) (knows next.thread s)
mine s next sound may = let does = (is_local next.thread s sound may.0 next.kind may.1).law.does in λ i. record { stands = does.mine i; journal = does.my_journal i }

others : (s : ProtocolState) (next : ThreadStep) (t : ℕ) → IsSound s → MayStep next s → t ≢ next.thread → knows t (step next.kind next.thread s) ≡ knows t s
others s next t sound may ne = let does = (is_local next.thread s sound may.0 next.kind may.1).law.does in λ i. record { stands = does.others t ne i; journal = does.their_journals t ne i }

-- a journal is told by its thread's steps
same_journal : (s : ProtocolState) (run other : List ThreadStep) (t : ℕ) → IsSound s → IsRun s run → IsRun s other → steps_of t s run ≡ steps_of t s other → journal_of (after_run s run).journals t ≡ journal_of (after_run s other).journals t
same_journal s run other t sound is also same =
    ap (λ (z : ProtocolState). journal_of z.journals t) (after_is s run)
    ∙ (ap (λ (p : Known). p.journal) (same_known moves MayStep knows moved IsSound keeps_sound mine others s run other t sound (may_all s run is) (may_all s other also) (sym (steps_are t s run) ∙ (same ∙ steps_are t s other)))
    ∙ ap (λ (z : ProtocolState). journal_of z.journals t) (sym (after_is s other)))

swapped : (w u f l x y : ℕ) → w ≡ y → u ≡ x → f ≡ x → l ≡ y → w + f ≡ u + l
swapped w u f l x y a b c d = omega arith

-- one word that is no cell
module _ (i : ℕ) where
  abbrev found_at : Kind → ℕ → SeatView → ℕ
  found_at k told v = if place_by k v == 8 * i then found_in k told v else 0

  abbrev left_at : Kind → ℕ → SeatView → ℕ
  left_at k told v = if place_by k v == 8 * i then left_in k told v else 0

  abbrev word_at : ProtocolState → ℕ
  word_at s = get_or (words s) (8 * i) 0

  -- a step leaves in place of what it finds what it leaves
  one_step : (s : ProtocolState) (t : ℕ) (k : Kind) → IsSound s → t < length s.threads → May k t s → 8 * i < length (words s)
      → (word_at (step k t s) + found_at k (told k t s) (in_state s t) ≡ word_at s + left_at k (told k t s) (in_state s t)) × (8 * i < length (words (step k t s)))
  one_step s t k sound inside may there =
      let it = is_local t s sound inside k may in let does = it.law.does in let v : SeatView = in_state s t in let word : ℕ = told k t s in let f : ℕ = found k t s in
      let many : length (words (step k t s)) ≡ length (words s) = ap (λ (l : List ℕ). length l) (sym does.leaves) ∙ length-set (words s) it.place (it.operation f) in (
        dite (ℕ_discrete it.place (8 * i))
            (λ e. let same = eq-eqb (place_by k v) (8 * i) (sym it.at ∙ e) in
            let left : word_at (step k t s) ≡ left_in k word v = ap (λ (l : List ℕ). get_or l (8 * i) 0) (sym does.leaves)
            ∙ (ap (λ (p : ℕ). get_or (set (words s) p (it.operation f)) (8 * i) 0) e ∙ (get_or-set_same (words s) (8 * i) (it.operation f) 0 there ∙ it.leaves i (sym e))) in
            let before : word_at s ≡ found_in k word v = ap (λ (p : ℕ). get_or (words s) p 0) (sym e) ∙ (does.finds ∙ it.finds i (sym e)) in
            let found_so : found_at k word v ≡ found_in k word v = ap (λ (b : Bool). if b then found_in k word v else 0) same in
            let left_so : left_at k word v ≡ left_in k word v = ap (λ (b : Bool). if b then left_in k word v else 0) same in
            swapped (word_at (step k t s)) (word_at s) (found_at k word v) (left_at k word v) (found_in k word v) (left_in k word v) left before found_so left_so)
            (λ ne. let other = ne_eqb (place_by k v) (8 * i) (λ e. ne (it.at ∙ e)) in
            let stays : word_at (step k t s) ≡ word_at s = ap (λ (l : List ℕ). get_or l (8 * i) 0) (sym does.leaves) ∙ get_or-set_other (words s) it.place (8 * i) (it.operation f) 0 (λ e. ne (sym e)) in
            let found_so : found_at k word v ≡ 0 = ap (λ (b : Bool). if b then found_in k word v else 0) other in
            let left_so : left_at k word v ≡ 0 = ap (λ (b : Bool). if b then left_in k word v else 0) other in
            λ j. stays j + (found_so ∙ sym left_so) j),
        omega arith,
      )

  module _ (n : ℕ) where
    abbrev HasWord : ProtocolState → Type 0
    HasWord s = IsSound s × (length s.threads ≡ n) × (8 * i < length (words s))

    keeps : (s : ProtocolState) (next : ThreadStep) → HasWord s → MayStep next s → HasWord (step next.kind next.thread s)
    keeps s next has may = let law = (is_local next.thread s has.0 may.0 next.kind may.1).law in (
      law.sound,
      law.does.threads ∙ has.1,
      (one_step s next.thread next.kind has.0 may.0 may.1 has.2).1,
    )

    one : (s : ProtocolState) (next : ThreadStep) → HasWord s → MayStep next s → let t = next.thread in let k = next.kind in
        word_at (step k t s) + found_at k (told k t s) (itself n t (thread_of s t) (journal_of s.journals t)) ≡ word_at s + left_at k (told k t s) (itself n t (thread_of s t) (journal_of s.journals t))
    one s next has may = let t = next.thread in let k = next.kind in
        subst (λ (m : ℕ). word_at (step k t s) + found_at k (told k t s) (itself m t (thread_of s t) (journal_of s.journals t)) ≡ word_at s + left_at k (told k t s) (itself m t (thread_of s t) (journal_of s.journals t))) has.1
        (one_step s t k has.0 may.0 may.1 has.2).0

    -- two runs of the same steps leave the same
    pub same_here : (s : ProtocolState) (run other : List ThreadStep) → HasWord s → IsRun s run → IsRun s other → ((t : ℕ) → steps_of t s run ≡ steps_of t s other) → word_at (after_run s run) ≡ word_at (after_run s other)
    same_here s run other has is also same =
        ap word_at (after_is s run)
        ∙ (same_word moves MayStep knows moved HasWord keeps (λ z next good may. mine z next good.0 may) (λ z next t good may ne. others z next t good.0 may ne)
        n (λ z next good may. let e = good.1 in let h = may.0 in omega arith) word_at
        (λ t taken p. found_at taken.kind taken.word (itself n t p.stands p.journal)) (λ t taken p. left_at taken.kind taken.word (itself n t p.stands p.journal)) one
        s run other has (may_all s run is) (may_all s other also) (λ t. sym (steps_are t s run) ∙ (same t ∙ steps_are t s other))
        ∙ ap word_at (sym (after_is s other)))

-- lines with the same words
status_lines_same : (xs ys : List StatusWord) → length xs ≡ length ys → ((t : ℕ) → t < length xs → packed_status (status_at xs t) ≡ packed_status (status_at ys t)) → map status_line xs ≡ map status_line ys
status_lines_same [] [] e same = refl
status_lines_same [] (y ∷ ys) e same = absurd (omega arith)
status_lines_same (x ∷ xs) [] e same = absurd (omega arith)
status_lines_same (x ∷ xs) (y ∷ ys) e same = let first = same 0 (omega arith) in let rest = status_lines_same xs ys (omega arith) (λ t h. same (suc t) (omega arith)) in λ i. alone (first i) ∷ rest i

object_lines_same : (xs ys : List StateWord) (cells : List ℕ) → length xs ≡ length ys → ((o : ℕ) → o < length xs → packed_state (state_at xs o) ≡ packed_state (state_at ys o)) → object_lines xs cells ≡ object_lines ys cells
object_lines_same [] [] cells e same = refl
object_lines_same [] (y ∷ ys) cells e same = absurd (omega arith)
object_lines_same (x ∷ xs) [] cells e same = absurd (omega arith)
object_lines_same (x ∷ xs) (y ∷ ys) [] e same = refl
object_lines_same (x ∷ xs) (y ∷ ys) (cell ∷ cells) e same = let first = same 0 (omega arith) in let rest = object_lines_same xs ys cells (omega arith) (λ o h. same (suc o) (omega arith)) in λ i. (first i, cell) ∷ rest i

pub steps_tell_words : StepsTellWords
steps_tell_words threads starts run other more few is also same =
    let first : ProtocolState = opening threads starts in let s : ProtocolState = state_after threads starts run in let z : ProtocolState = state_after threads starts other in
    let sound = opening_is_sound threads starts more few in let s_sound = sound_after threads starts run more few is in let z_sound = sound_after threads starts other more few also in
    let s_threads = threads_after threads starts run in let z_threads = threads_after threads starts other in
    let wide : length (words first) ≡ object_place threads (length starts) = as_many_words (words first) starts threads refl in
    let at : (i : ℕ) → 8 * i < length (words first) → get_or (words s) (8 * i) 0 ≡ get_or (words z) (8 * i) 0 = λ i there. same_here i (length first.threads) first run other (sound, refl, there) is also same in
    let s_form = s_sound.form in let z_form = z_sound.form in
    let s_cells : length s.cells ≡ length starts = sym s_form.starts ∙ ap (λ (l : List ℕ). length l) (starts_after threads starts run) in
    let z_cells : length z.cells ≡ length starts = sym z_form.starts ∙ ap (λ (l : List ℕ). length l) (starts_after threads starts other) in
    let s_statuses = s_form.statuses in let z_statuses = z_form.statuses in let s_states = s_form.states in let z_states = z_form.states in
    let s_journals = s_form.journals in let z_journals = z_form.journals in
    let statuses : map status_line s.statuses ≡ map status_line z.statuses = status_lines_same s.statuses z.statuses (omega arith)
    (λ t h. sym (get_status s s_statuses t (omega arith)) ∙ (at (1 + t) (omega arith) ∙ get_status z z_statuses t (omega arith))) in
    let journals : s.journals ≡ z.journals = same_members [] s.journals z.journals (omega arith)
    (λ t h. same_journal first run other t sound is also (same t)) in
    let began : s.starts ≡ z.starts = starts_after threads starts run ∙ sym (starts_after threads starts other) in
    let cells : s.cells ≡ z.cells = sym s_sound.one_history.gives ∙ ((λ i. (state_after_play (began i) (journals i) (lowest_play (began i) (journals i))).heap) ∙ z_sound.one_history.gives) in
    let counter : s.counter ≡ z.counter = sym s_sound.one_history.counts ∙ ((λ i. (state_after_play (began i) (journals i) (lowest_play (began i) (journals i))).draws) ∙ z_sound.one_history.counts) in
    let place : (n object : ℕ) → n ≡ threads → 8 * (1 + (n + object)) ≡ 8 * (1 + (threads + object)) = λ n object e. ap (λ (m : ℕ). 8 * (1 + (m + object))) e in
    let objects : object_lines s.states s.cells ≡ object_lines z.states z.cells = object_lines_same s.states z.states s.cells (omega arith)
    (λ o h. sym (get_state s s_statuses s_states o (omega arith)) ∙ (ap (λ (p : ℕ). get_or (words s) p 0) (place (length s.threads) o s_threads)
    ∙ (at (1 + (threads + o)) (omega arith) ∙ (ap (λ (p : ℕ). get_or (words z) p 0) (sym (place (length z.threads) o z_threads)) ∙ get_state z z_statuses z_states o (omega arith)))))
    ∙ ap (λ (l : List ℕ). object_lines z.states l) cells in
    λ i. laid_out (alone (counter i) ∷ (statuses i ++ objects i))
