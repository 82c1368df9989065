-- How the parts of a text are numbered, line by line.
use Rattle.std.proofs.Common.{◌≡◌, ℕ, suc, Bool, true, false, cond, List, [], ◌∷◌, ◌++◌, map, drop, refl, sym, ap, ◌∙◌, append_assoc, append-nil}
use Rattle.std.specs.List.{slice_split, onto_first}
use Rattle.octet_script.specs.Words.{lines, words_of_line}
use Rattle.octet_script.specs.LineNumbers.{NumberedLine, numbered_from, begin_thread, is_thread_line, numbers_of, command_lines}
use Rattle.octet_script.specs.declared.numbering.Numbering.{Numbering}
use Rattle.octet_script.specs.Numbering.{numbers_with, onto_part, with_line, TakesIn}

-- the numbers of the lines with words, from a line on: those before the next `thread`, and those of each thread after it
abbrev pub parts_from : ℕ → List (List ℕ) → List (List ℕ)
parts_from number more = map numbers_of (slice_split is_thread_line (numbered_from number more))

pub all_parts : (text : List ℕ) → drop 1 (parts_from 1 (lines text)) ≡ command_lines text
all_parts text = go (slice_split is_thread_line (numbered_from 1 (lines text)))
  where
    go : (parts : List (List NumberedLine)) → drop 1 (map numbers_of parts) ≡ map numbers_of (drop 1 parts)
    go [] = refl
    go (part ∷ parts) = refl

-- there is always a first part
some_part : (numbered : List NumberedLine) → (part : List NumberedLine) × (parts : List (List NumberedLine)) × (slice_split is_thread_line numbered ≡ part ∷ parts)
some_part [] = ([], [], refl)
some_part (line ∷ numbered) = by (is_thread_line line) (slice_split is_thread_line numbered)
  where
    onto : (parts : List (List NumberedLine)) → (part : List NumberedLine) × (others : List (List NumberedLine)) × (onto_first line parts ≡ part ∷ others)
    onto [] = (_, _, refl)
    onto (part ∷ parts) = (_, _, refl)

    by : (b : Bool) (parts : List (List NumberedLine)) → (part : List NumberedLine) × (others : List (List NumberedLine)) × (cond b ([] ∷ parts) (onto_first line parts) ≡ part ∷ others)
    by true parts = (_, _, refl)
    by false parts = onto parts

pub first_part : (number : ℕ) (more : List (List ℕ)) → (part : List ℕ) × (parts : List (List ℕ)) × (parts_from number more ≡ part ∷ parts)
first_part number more =
    let first = some_part (numbered_from number more) in
    (numbers_of first.0, map numbers_of first.1, ap (map numbers_of) first.2)

-- a line is taken in before the others
pub parts_with : (number : ℕ) (line : List ℕ) (more : List (List ℕ)) → parts_from number (line ∷ more) ≡ with_line number (words_of_line line) (parts_from (suc number) more)
parts_with number line more =
    let first = some_part (numbered_from (suc number) more) in
    let words = words_of_line line in
    ap (λ (parts : List (List NumberedLine)). map numbers_of (cond (begin_thread words) ([] ∷ parts) (onto_first (here words) parts))) first.2
    ∙ go words first.0 first.1 ∙ ap (λ (parts : List (List NumberedLine)). with_line number words (map numbers_of parts)) (sym first.2)
  where
    here : List (List ℕ) → NumberedLine
    here words = record { number = number; words = words }

    by : (first : List ℕ) (others : List (List ℕ)) (b : Bool) (part : List NumberedLine) (parts : List (List NumberedLine))
        → map numbers_of (cond b ([] ∷ part ∷ parts) (onto_first (here (first ∷ others)) (part ∷ parts))) ≡ cond b ([] ∷ map numbers_of (part ∷ parts)) (onto_first number (map numbers_of (part ∷ parts)))
    by first others true part parts = refl
    by first others false part parts = refl

    go : (words : List (List ℕ)) (part : List NumberedLine) (parts : List (List NumberedLine))
        → map numbers_of (cond (begin_thread words) ([] ∷ part ∷ parts) (onto_first (here words) (part ∷ parts))) ≡ with_line number words (map numbers_of (part ∷ parts))
    go [] part parts = refl
    go (first ∷ others) part parts = by first others (begin_thread (first ∷ others)) part parts

-- the numbers of all threads stay, as lines are taken in
pub taken_in : (before after : Numbering) (number next : ℕ) (line : List ℕ) (words : List (List ℕ)) (all more : List (List ℕ)) (total : List (List ℕ)) → TakesIn before number words after
    → words ≡ words_of_line line → next ≡ suc number → all ≡ line ∷ more → numbers_with before (parts_from number all) ≡ total → numbers_with after (parts_from next more) ≡ total
taken_in before after number next line words all more total takes words_are next_is all_is is =
    let first = first_part (suc number) more in
    ap (λ (n : ℕ). numbers_with after (parts_from n more)) next_is
    ∙ ap (numbers_with after) first.2
    ∙ takes first.0 first.1
    ∙ ap (λ (parts : List (List ℕ)). numbers_with before (with_line number words parts)) (sym first.2)
    ∙ ap (λ (ws : List (List ℕ)). numbers_with before (with_line number ws (parts_from (suc number) more))) words_are
    ∙ ap (numbers_with before) (sym (parts_with number line more))
    ∙ ap (λ (ls : List (List ℕ)). numbers_with before (parts_from number ls)) (sym all_is)
    ∙ is

abbrev with_state : List (List ℕ) → List ℕ → List (List ℕ) → Bool → List (List ℕ)
with_state threads present parts started = threads ++ cond started (onto_part present parts) (drop 1 parts)

-- at a `thread` the present one is kept, if there is one
pub keeps_present : (before : Numbering) (threads : List (List ℕ)) (present part : List ℕ) (parts : List (List ℕ)) → before.started ≡ true → threads ≡ before.threads ++ before.present ∷ [] → present ≡ []
    → threads ++ (present ++ part) ∷ parts ≡ numbers_with before ([] ∷ part ∷ parts)
keeps_present before threads present part parts started kept none =
    ap (λ (p : List ℕ). threads ++ (p ++ part) ∷ parts) none ∙ ap (λ (ts : List (List ℕ)). ts ++ part ∷ parts) kept
    ∙ append_assoc before.threads (before.present ∷ []) (part ∷ parts)
    ∙ ap (λ (p : List ℕ). before.threads ++ p ∷ part ∷ parts) (sym (append-nil before.present))
    ∙ ap (with_state before.threads before.present ([] ∷ part ∷ parts)) (sym started)

pub keeps_none : (before : Numbering) (threads : List (List ℕ)) (present part : List ℕ) (parts : List (List ℕ)) → before.started ≡ false → threads ≡ before.threads → present ≡ []
    → threads ++ (present ++ part) ∷ parts ≡ numbers_with before ([] ∷ part ∷ parts)
keeps_none before threads present part parts started kept none =
    ap (λ (p : List ℕ). threads ++ (p ++ part) ∷ parts) none ∙ ap (λ (ts : List (List ℕ)). ts ++ part ∷ parts) kept
    ∙ ap (with_state before.threads before.present ([] ∷ part ∷ parts)) (sym started)

-- at the end too
pub ends_present : (before : Numbering) (threads : List (List ℕ)) → before.started ≡ true → threads ≡ before.threads ++ before.present ∷ [] → threads ≡ numbers_with before ([] ∷ [])
ends_present before threads started kept =
    kept ∙ ap (λ (p : List ℕ). before.threads ++ p ∷ []) (sym (append-nil before.present)) ∙ ap (with_state before.threads before.present ([] ∷ [])) (sym started)

pub ends_none : (before : Numbering) (threads : List (List ℕ)) → before.started ≡ false → threads ≡ before.threads → threads ≡ numbers_with before ([] ∷ [])
ends_none before threads started kept = kept ∙ sym (append-nil before.threads) ∙ ap (with_state before.threads before.present ([] ∷ [])) (sym started)
