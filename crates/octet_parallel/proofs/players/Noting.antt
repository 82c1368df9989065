-- The table of an untied log's draws has each of them.
use Rattle.std.proofs.Common.{◌≡◌, ◌≢◌, inl, inr, ℕ, zero, suc, pred, ◌+◌, ◌<◌, ◌≤◌, max, List, [], ◌∷◌, ◌++◌, length, replicate, take, drop, get_or, Option, Some, None, slice_get, set, refl, sym, ap, ◌∙◌, subst, subst₂, arith, length-set}
use Rattle.std.proofs.lemmas.Bool.{cases_eq}
use Rattle.std.proofs.lemmas.List.{length-replicate}
use Rattle.std.proofs.lemmas.Option.{slice_get_cases}
use Rattle.octet_model.specs.declared.event.Mark.{Mark}
use Rattle.octet_model.specs.declared.event.Mark.TheVariants.{Join, Draw, Fence}
use Rattle.octet_model.specs.declared.event.Place.{Place}
use Rattle.octet_model.specs.declared.log.Gapped.{Gapped}
use Rattle.octet_model.specs.declared.log.Log.{Log}
use Rattle.octet_model.specs.declared.log.ThreadLog.{ThreadLog}
use Rattle.octet_model.proofs.lemmas.Validity.{valid_log}
use Rattle.octet_model.specs.Orders.{thread_log_of}
use Rattle.octet_clock.specs.Untied.{IsUntied}
use Rattle.octet_parallel.specs.Needs.{mark_at, HasMarkAt}
use Rattle.octet_parallel.specs.Draws.{unknown, drawn_number, highest_of, highest_in, noted, noted_all, noted_of, IsDrawOf, AreDraws}
use Rattle.octet_parallel.specs.declared.draws.PlayerEvents.{PlayerEvents}
use Rattle.octet_parallel.proofs.verdicts.Tracks.{mark_here, mark_later, mark_parts}
use Rattle.octet_parallel.proofs.steps.MayMark.{unties}

get_set_same : {A : Type 0} (xs : List A) (k : ℕ) (x y : A) → slice_get (set xs k x) k ≡ Some y → x ≡ y
get_set_same [] k x y is = absurd cc
get_set_same (z ∷ xs) zero x y is = cc
get_set_same (z ∷ xs) (suc k) x y is = get_set_same xs k x y is

get_set_other : {A : Type 0} (xs : List A) (k n : ℕ) (x : A) → n ≢ k → slice_get (set xs k x) n ≡ slice_get xs n
get_set_other [] k n x ne = refl
get_set_other (z ∷ xs) zero zero x ne = absurd (ne refl)
get_set_other (z ∷ xs) zero (suc n) x ne = refl
get_set_other (z ∷ xs) (suc k) zero x ne = refl
get_set_other (z ∷ xs) (suc k) (suc n) x ne = get_set_other xs k n x (λ e. ne (ap suc e))

one_back : (place : ℕ) → place ≡ pred (place + 1)
one_back place = omega arith

-- the entry under a number, if there is one, is such
abbrev HoldsAt : (PlayerEvents → Type 0) → List PlayerEvents → ℕ → Type 0
HoldsAt Q draws n = (d : PlayerEvents) → slice_get draws n ≡ Some d → Q d

module _ (log : List ThreadLog) (n : ℕ) where
  abbrev Strong : PlayerEvents → Type 0
  Strong d = IsDrawOf log (suc n) d

  module _ (Q : PlayerEvents → Type 0) (weaker : (d : PlayerEvents) → Strong d → Q d) where
    note_keeps : (draws : List PlayerEvents) (thread place : ℕ) (mark : Mark) → HasMarkAt log thread place mark → HoldsAt Q draws n → HoldsAt Q (noted draws thread place mark) n
    note_keeps draws thread place (Join from upto) has holds d is = holds d is
    note_keeps draws thread place (Fence number) has holds d is = holds d is
    note_keeps draws thread place (Draw zero) has holds d is = holds d is
    note_keeps draws thread place (Draw (suc number)) has holds d is =
        elim (cases_eq n number) [
          | inl same ↦
              let e : record { whom = thread; events = place + 1 } ≡ d = get_set_same draws number (record { whom = thread; events = place + 1 }) d (ap (slice_get (set draws number (record { whom = thread; events = place + 1 }))) (sym same) ∙ is) in
              subst Q e (weaker (record { whom = thread; events = place + 1 }) (omega arith, subst₂ (λ (m k : ℕ). HasMarkAt log thread k (Draw (suc m))) (sym same) (one_back place) has))
          | inr ne ↦ holds d (sym (get_set_other draws number n (record { whom = thread; events = place + 1 }) ne) ∙ is)
        ]

    all_keep : (marks : List Gapped) (draws : List PlayerEvents) (thread place : ℕ) → ((j : ℕ) (mark : Mark) → mark_at marks j ≡ Some mark → HasMarkAt log thread (place + j) mark)
        → HoldsAt Q draws n → HoldsAt Q (noted_all draws thread place marks) n
    all_keep [] draws thread place has holds = holds
    all_keep (next ∷ marks) draws thread place has holds =
        all_keep marks (noted draws thread (place + next.gap) next.mark) thread (place + next.gap + 1)
        (λ j mark is. ap (mark_at (thread_log_of log thread).marks) (let e : place + next.gap + 1 + j ≡ place + suc (next.gap + j) = omega arith in e) ∙ has (suc (next.gap + j)) mark (mark_later next marks j ∙ is))
        (note_keeps draws thread (place + next.gap) next.mark (has next.gap next.mark (mark_here next marks)) holds)

    logs_keep : (logs : List ThreadLog) (draws : List PlayerEvents) (thread : ℕ) → ((i j : ℕ) (mark : Mark) → mark_at (thread_log_of logs i).marks j ≡ Some mark → HasMarkAt log (thread + i) j mark)
        → HoldsAt Q draws n → HoldsAt Q (noted_of draws thread logs) n
    logs_keep [] draws thread has holds = holds
    logs_keep (own ∷ logs) draws thread has holds =
        logs_keep logs (noted_all draws thread 0 own.marks) (suc thread)
        (λ i j mark is. ap (λ (t : ℕ). mark_at (thread_log_of log t).marks j) (let e : suc thread + i ≡ thread + suc i = omega arith in e) ∙ has (suc i) j mark is)
        (all_keep own.marks draws thread 0
        (λ j mark is. ap (mark_at (thread_log_of log thread).marks) (let e : 0 + j ≡ j = omega arith in e) ∙ ap (λ (t : ℕ). mark_at (thread_log_of log t).marks j) (let e : thread ≡ thread + 0 = omega arith in e) ∙ has 0 j mark is) holds)

  note_sets : (draws : List PlayerEvents) (thread place : ℕ) (mark : Mark) → mark ≡ Draw (suc n) → HasMarkAt log thread place mark → HoldsAt Strong (noted draws thread place mark) n
  note_sets draws thread place mark is has = subst (λ (m : Mark). HoldsAt Strong (noted draws thread place m) n) (sym is) go
    where
      go : HoldsAt Strong (set draws n (record { whom = thread; events = place + 1 })) n
      go d at =
          let e : record { whom = thread; events = place + 1 } ≡ d = get_set_same draws n (record { whom = thread; events = place + 1 }) d at in
          subst Strong e (omega arith, subst (λ (k : ℕ). HasMarkAt log thread k (Draw (suc n))) (one_back place) (has ∙ ap Some is))

  all_set : (marks : List Gapped) (draws : List PlayerEvents) (thread place : ℕ) → ((j : ℕ) (mark : Mark) → mark_at marks j ≡ Some mark → HasMarkAt log thread (place + j) mark)
      → (j : ℕ) → mark_at marks j ≡ Some (Draw (suc n)) → HoldsAt Strong (noted_all draws thread place marks) n
  all_set [] draws thread place has j is = absurd cc
  all_set (next ∷ marks) draws thread place has j is =
      let more : (k : ℕ) (mark : Mark) → mark_at marks k ≡ Some mark → HasMarkAt log thread (place + next.gap + 1 + k) mark =
      λ k mark at. ap (mark_at (thread_log_of log thread).marks) (let e : place + next.gap + 1 + k ≡ place + suc (next.gap + k) = omega arith in e) ∙ has (suc (next.gap + k)) mark (mark_later next marks k ∙ at) in
      elim (mark_parts next marks j (Draw (suc n)) is) [
        | inl here ↦
            all_keep Strong (λ d s. s) marks (noted draws thread (place + next.gap) next.mark) thread (place + next.gap + 1) more
            (note_sets draws thread (place + next.gap) next.mark here.1 (has next.gap next.mark (mark_here next marks)))
        | inr later ↦ all_set marks (noted draws thread (place + next.gap) next.mark) thread (place + next.gap + 1) more later.0 later.1
      ]

  logs_set : (logs : List ThreadLog) (draws : List PlayerEvents) (thread : ℕ) → ((i j : ℕ) (mark : Mark) → mark_at (thread_log_of logs i).marks j ≡ Some mark → HasMarkAt log (thread + i) j mark)
      → (i j : ℕ) → mark_at (thread_log_of logs i).marks j ≡ Some (Draw (suc n)) → HoldsAt Strong (noted_of draws thread logs) n
  logs_set [] draws thread has i j is = absurd cc
  logs_set (own ∷ logs) draws thread has zero j is =
      logs_keep Strong (λ d s. s) logs (noted_all draws thread 0 own.marks) (suc thread)
      (λ i k mark at. ap (λ (t : ℕ). mark_at (thread_log_of log t).marks k) (let e : suc thread + i ≡ thread + suc i = omega arith in e) ∙ has (suc i) k mark at)
      (all_set own.marks draws thread 0
      (λ k mark at. ap (mark_at (thread_log_of log thread).marks) (let e : 0 + k ≡ k = omega arith in e) ∙ ap (λ (t : ℕ). mark_at (thread_log_of log t).marks k) (let e : thread ≡ thread + 0 = omega arith in e) ∙ has 0 k mark at) j is)
  logs_set (own ∷ logs) draws thread has (suc i) j is =
      logs_set logs (noted_all draws thread 0 own.marks) (suc thread)
      (λ k l mark at. ap (λ (t : ℕ). mark_at (thread_log_of log t).marks l) (let e : suc thread + k ≡ thread + suc k = omega arith in e) ∙ has (suc k) l mark at) i j is

-- the table has an entry for each number
same_length : (draws : List PlayerEvents) (thread place : ℕ) (mark : Mark) → length (noted draws thread place mark) ≡ length draws
same_length draws thread place (Join from upto) = refl
same_length draws thread place (Fence number) = refl
same_length draws thread place (Draw zero) = refl
same_length draws thread place (Draw (suc number)) = length-set draws number (record { whom = thread; events = place + 1 })

all_length : (marks : List Gapped) (draws : List PlayerEvents) (thread place : ℕ) → length (noted_all draws thread place marks) ≡ length draws
all_length [] draws thread place = refl
all_length (next ∷ marks) draws thread place = all_length marks (noted draws thread (place + next.gap) next.mark) thread (place + next.gap + 1) ∙ same_length draws thread (place + next.gap) next.mark

logs_length : (logs : List ThreadLog) (draws : List PlayerEvents) (thread : ℕ) → length (noted_of draws thread logs) ≡ length draws
logs_length [] draws thread = refl
logs_length (own ∷ logs) draws thread = logs_length logs (noted_all draws thread 0 own.marks) (suc thread) ∙ all_length own.marks draws thread 0

higher : (marks : List Gapped) (before : ℕ) → before ≤ highest_of marks before
higher [] before = omega arith
higher (next ∷ marks) before = let a = higher marks (max before (drawn_number next.mark)) in omega arith

highest_all : (marks : List Gapped) (before j number : ℕ) → mark_at marks j ≡ Some (Draw number) → number ≤ highest_of marks before
highest_all [] before j number is = absurd cc
highest_all (next ∷ marks) before j number is =
    elim (mark_parts next marks j (Draw number) is) [
      | inl here ↦ let a = higher marks (max before (drawn_number next.mark)) in let b : drawn_number next.mark ≡ number = ap drawn_number here.1 in omega arith
      | inr later ↦ highest_all marks (max before (drawn_number next.mark)) later.0 number later.1
    ]

higher_logs : (logs : List ThreadLog) (before : ℕ) → before ≤ highest_in logs before
higher_logs [] before = omega arith
higher_logs (own ∷ logs) before = let a = higher_logs logs (highest_of own.marks before) in let b = higher own.marks before in omega arith

highest_logs : (logs : List ThreadLog) (before i j number : ℕ) → mark_at (thread_log_of logs i).marks j ≡ Some (Draw number) → number ≤ highest_in logs before
highest_logs [] before i j number is = absurd cc
highest_logs (own ∷ logs) before zero j number is = let a = highest_all own.marks before j number is in let b = higher_logs logs (highest_of own.marks before) in omega arith
highest_logs (own ∷ logs) before (suc i) j number is = highest_logs logs (highest_of own.marks before) i j number is

none_known : (most n : ℕ) (d : PlayerEvents) → slice_get (replicate most unknown) n ≡ Some d → d ≡ unknown
none_known zero n d is = absurd cc
none_known (suc most) zero d is = cc
none_known (suc most) (suc n) d is = none_known most n d is

pub are_draws : (log : List ThreadLog) → IsUntied log → AreDraws log (noted_of (replicate (highest_in log 0) unknown) 0 log)
are_draws log untied = (
  (λ whom place number has.
      let below = highest_logs log 0 whom place (suc number) has in
      let inside : number < length table = let a = logs_length log (replicate (highest_in log 0) unknown) 0 in let b = length-replicate (highest_in log 0) unknown in omega arith in
      found whom place number has inside (slice_get table number) refl),
  (λ number d is. logs_keep log number (λ e. 0 < e.events → IsDrawOf log (suc number) e) (λ e strong some. strong) log (replicate (highest_in log 0) unknown) 0 whole
      (λ e at some. absurd (let none = ap (λ (z : PlayerEvents). z.events) (none_known (highest_in log 0) number e at) in omega arith)) d is),
)
  where
    table : List PlayerEvents
    table = noted_of (replicate (highest_in log 0) unknown) 0 log

    whole : (i j : ℕ) (mark : Mark) → mark_at (thread_log_of log i).marks j ≡ Some mark → HasMarkAt log (0 + i) j mark
    whole i j mark is = ap (λ (t : ℕ). mark_at (thread_log_of log t).marks j) (let e : 0 + i ≡ i = omega arith in e) ∙ is

    found : (whom place number : ℕ) → HasMarkAt log whom place (Draw (suc number)) → number < length table → (o : Option PlayerEvents) → slice_get table number ≡ o → slice_get table number ≡ Some (record { whom = whom; events = suc place })
    found whom place number has inside None at =
        elim (slice_get_cases table number).1 [
          | inl there ↦ absurd (let some = there.2 in cc)
          | inr past ↦ absurd (omega (arith, past.0))
        ]
    found whom place number has inside (Some d) at =
        let strong = logs_set log number log (replicate (highest_in log 0) unknown) 0 whole whom place has d at in
        let a : Place = record { thread = d.whom; event = pred d.events } in
        let b : Place = record { thread = whom; event = place } in
        let same : a ≡ b = (unties log untied).once a b (suc number) strong.1 has in
        let events : d.events ≡ suc place = let e = ap (λ (p : Place). p.event) same in let more = strong.0 in omega arith in
        at ∙ (λ i. Some (record { whom = (same i).thread; events = events i }))

-- ---- how the table is filled
next_dropped : (marks : List Gapped) (i : ℕ) (none : Gapped) → i < length marks → drop i marks ≡ get_or marks i none ∷ drop (suc i) marks
next_dropped [] i none h = absurd (omega arith)
next_dropped (x ∷ marks) zero none h = refl
next_dropped (x ∷ marks) (suc i) none h = next_dropped marks i none (omega arith)

pub one_noted : (draws new : List PlayerEvents) (thread place after i : ℕ) (marks : List Gapped) (none : Gapped) (whole : List PlayerEvents)
    → new ≡ noted draws thread (place + (get_or marks i none).gap) (get_or marks i none).mark → after ≡ place + (get_or marks i none).gap + 1 → i < length marks
    → noted_all draws thread place (drop i marks) ≡ whole → noted_all new thread after (drop (i + 1) marks) ≡ whole
one_noted draws new thread place after i marks none whole new_is after_is h rest =
    (λ k. noted_all (new_is k) thread (after_is k) (drop (one_on i k) marks))
    ∙ sym (ap (noted_all draws thread place) (next_dropped marks i none h)) ∙ rest
  where
    one_on : (n : ℕ) → n + 1 ≡ suc n
    one_on n = omega arith

pub take_all : {A : Type 0} (xs ys : List A) (n : ℕ) → n ≡ length xs → take n (xs ++ ys) ≡ xs
take_all [] ys zero e = refl
take_all [] ys (suc n) e = absurd (omega arith)
take_all (x ∷ xs) ys zero e = absurd (omega arith)
take_all (x ∷ xs) ys (suc n) e = ap (λ l. x ∷ l) (take_all xs ys n (omega arith))

-- a thread of a valid log has few marks
pub few_marks_each : (log : Log) (logs : List ThreadLog) → logs ≡ log.threads → (k : ℕ) (d : ThreadLog) → k < length logs → length (get_or logs k d).marks < 2147483648
few_marks_each log logs is k d h =
    let e : k < length log.threads = let f = ap (λ (l : List ThreadLog). length l) is in omega arith in
    let few = ((valid_log log.threads log.valid).each k e).few_marks in
    let same : get_or logs k d ≡ thread_log_of log.threads k = ap (λ (l : List ThreadLog). get_or l k d) is ∙ either_default log.threads k d (record { accesses = 0; marks = [] }) e in
    let there = ap (λ (l : ThreadLog). length l.marks) same in omega arith
  where
    either_default : (xs : List ThreadLog) (k : ℕ) (d e : ThreadLog) → k < length xs → get_or xs k d ≡ get_or xs k e
    either_default [] k d e h = absurd (omega arith)
    either_default (x ∷ xs) zero d e h = refl
    either_default (x ∷ xs) (suc k) d e h = either_default xs k d e (omega arith)
