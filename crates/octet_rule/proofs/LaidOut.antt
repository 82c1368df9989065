-- The words as they are laid out at first.
use Rattle.std.proofs.Common.{◌≡◌, ℕ, zero, suc, ◌+◌, ◌*◌, ◌<◌, ◌≤◌, List, [], ◌∷◌, ◌++◌, map, length, get_or, take, replicate, sym, refl, ap, ◌∙◌, arith, length-append}
use Rattle.std.proofs.lemmas.List.{length-replicate, length-map}
use Rattle.atomic_table.specs.Table as table
use Rattle.octet_state.specs.declared.state_word.StateWord.TheVariants.{WrEx}
use Rattle.octet_state.specs.State.{Line, laid_out, alone, status_line, object_lines, resting, unstarted, words, opening, object_place}
use Rattle.octet_state.proofs.lemmas.Laws.{opening_is_sound}
use Rattle.octet_model.proofs.lemmas.Fronts.{no_journal}
use Rattle.octet_seats.proofs.lemmas.Rows.{take_whole}
use Rattle.octet_seats.proofs.lemmas.Seats.{first_seat}
use Rattle.octet_rule.specs.Views.{facts_of}
use Rattle.octet_rule.specs.Rule.{Follows, HasLeft, IsUnmade, IsRuled, first_view}

-- the lines of so many threads that have not started, and of objects that thread 0 owns
abbrev pub thread_lines : ℕ → List Line
thread_lines threads = replicate threads (9223372036854775808, 0)

abbrev pub free_lines : List ℕ → List Line
free_lines starts = map (λ start. (0, start)) starts

all_same : {A : Type 0} (n i : ℕ) (a : A) → get_or (replicate n a) i a ≡ a
all_same zero i a = refl
all_same (suc n) zero a = refl
all_same (suc n) (suc i) a = all_same n i a

pub laid_more : (lines more : List Line) → laid_out lines ++ laid_out more ≡ laid_out (lines ++ more)
laid_more [] more = refl
laid_more (line ∷ lines) more = ap (λ l. line.0 ∷ line.1 ∷ 0 ∷ 0 ∷ 0 ∷ 0 ∷ 0 ∷ 0 ∷ l) (laid_more lines more)

replicate_more : {A : Type 0} (n : ℕ) (x : A) → replicate n x ++ x ∷ [] ≡ replicate (suc n) x
replicate_more zero x = refl
replicate_more (suc n) x = ap (λ l. x ∷ l) (replicate_more n x)

append_assoc : {A : Type 0} (xs ys zs : List A) → (xs ++ ys) ++ zs ≡ xs ++ (ys ++ zs)
append_assoc [] ys zs = refl
append_assoc (x ∷ xs) ys zs = ap (λ l. x ∷ l) (append_assoc xs ys zs)

one_on : (n : ℕ) → suc n ≡ n + 1
one_on n = omega arith

-- one more line for a thread, and one more for an object
pub thread_more : (ws : List ℕ) (threads : ℕ) → ws ≡ laid_out (alone 0 ∷ thread_lines threads) → ws ++ laid_out ((9223372036854775808, 0) ∷ []) ≡ laid_out (alone 0 ∷ thread_lines (threads + 1))
thread_more ws threads is = ap (λ l. l ++ laid_out ((9223372036854775808, 0) ∷ [])) is ∙ (laid_more (alone 0 ∷ thread_lines threads) ((9223372036854775808, 0) ∷ []) ∙ ap (λ l. laid_out (alone 0 ∷ l)) (replicate_more threads (9223372036854775808, 0) ∙ ap thread_lines (one_on threads)))

free_more : (starts : List ℕ) (object : ℕ) → object < length starts → free_lines (take object starts) ++ (0, get_or starts object 0) ∷ [] ≡ free_lines (take (suc object) starts)
free_more [] object h = absurd (omega arith)
free_more (start ∷ starts) zero h = refl
free_more (start ∷ starts) (suc object) h = ap (λ l. (0, start) ∷ l) (free_more starts object (omega arith))

pub object_more : (ws starts : List ℕ) (threads object start : ℕ) → object < length starts → start ≡ get_or starts object 0 → ws ≡ laid_out (alone 0 ∷ (thread_lines threads ++ free_lines (take object starts)))
    → ws ++ laid_out ((0, start) ∷ []) ≡ laid_out (alone 0 ∷ (thread_lines threads ++ free_lines (take (object + 1) starts)))
object_more ws starts threads object start h e is = ap (λ l. l ++ laid_out ((0, start) ∷ [])) is
    ∙ (laid_more (alone 0 ∷ (thread_lines threads ++ free_lines (take object starts))) ((0, start) ∷ [])
    ∙ ap (λ l. laid_out (alone 0 ∷ l)) (append_assoc (thread_lines threads) (free_lines (take object starts)) ((0, start) ∷ [])
    ∙ ap (λ l. thread_lines threads ++ l) (ap (λ (n : ℕ). free_lines (take object starts) ++ (0, n) ∷ []) e ∙ (free_more starts object h ∙ ap (λ (n : ℕ). free_lines (take n starts)) (one_on object)))))

status_lines : (threads : ℕ) → map status_line (replicate threads resting) ≡ thread_lines threads
status_lines zero = refl
status_lines (suc threads) = ap (λ l. (9223372036854775808, 0) ∷ l) (status_lines threads)

state_lines : (starts : List ℕ) → object_lines (replicate (length starts) (WrEx 0)) starts ≡ free_lines starts
state_lines [] = refl
state_lines (start ∷ starts) = ap (λ l. (0, start) ∷ l) (state_lines starts)

-- all lines are laid out
pub all_laid : (ws starts : List ℕ) (threads objects : ℕ) → objects ≡ length starts → ws ≡ laid_out (alone 0 ∷ (thread_lines threads ++ free_lines (take objects starts))) → ws ≡ words (opening threads starts)
all_laid ws starts threads objects e is = is ∙ ((λ i. laid_out (alone 0 ∷ (sym (status_lines threads) i ++ free_lines ((ap (λ (n : ℕ). take n starts) e ∙ take_whole starts) i))))
    ∙ ap (λ l. laid_out (alone 0 ∷ (map status_line (replicate threads resting) ++ l))) (sym (state_lines starts)))

-- the rule holds at first, after a run of no step
pub opens : (threads : ℕ) (starts ws : List ℕ) → 0 < threads → threads ≤ 16 → ws ≡ words (opening threads starts) → IsRuled threads starts (table.opening ws [] (first_view threads starts))
opens threads starts ws more few is = let sound = opening_is_sound threads starts more few in let many : length (opening threads starts).threads ≡ threads = length-replicate threads unstarted in record {
  some_thread = more;
  few_threads = few;
  run = [];
  is_run = tt;
  lie = is;
  seats = first_seat facts_of (Follows threads starts []) (HasLeft threads starts []) (IsUnmade threads starts []) threads (first_view threads starts) refl
      (record {
        seen = record { sound = sound; as_many = many; began = refl; inside = omega arith; stands = all_same threads 0 unstarted; has_made = no_journal (replicate threads unstarted) 0 };
        trail = refl;
      })
      more (λ t h. record { stands = all_same threads t unstarted; journal = no_journal (replicate threads unstarted) t; trail = refl });
}

-- as many words as there are lines of eight
laid_length : (lines : List Line) → length (laid_out lines) ≡ 8 * length lines
laid_length [] = refl
laid_length (line ∷ lines) = let e = laid_length lines in omega arith

pub as_many_words : (ws starts : List ℕ) (threads : ℕ) → ws ≡ words (opening threads starts) → length ws ≡ object_place threads (length starts)
as_many_words ws starts threads is = ap (λ (l : List ℕ). length l) (is ∙ ((λ i. laid_out (alone 0 ∷ (status_lines threads i ++ state_lines starts i)))))
    ∙ (laid_length (alone 0 ∷ (thread_lines threads ++ free_lines starts))
    ∙ (let a = length-append (thread_lines threads) (free_lines starts) in let b : length (thread_lines threads) ≡ threads = length-replicate threads (9223372036854775808, 0) in let c : length (free_lines starts) ≡ length starts = length-map starts (λ start. (0, start)) in omega arith))
