-- The regions run one after another give what the lowest order gives.
use Rattle.std.proofs.Common.{◌≡◌, ◌≢◌, ℕ, zero, suc, ◌<◌, ◌⊎◌, inl, inr, Bool, true, false, ◌==◌, cond, List, [], ◌∷◌, ◌++◌, length, map, Some, IsTrue, slice_get, refl, sym, ap, ◌∙◌, subst, arith, append-nil, append_assoc}
use Rattle.std.specs.List.{filter, flat_map}
use Rattle.std.proofs.lemmas.Bool.{cases_eq, eq-eqb, ne_eqb}
use Rattle.std.proofs.lemmas.List.{length-map, map-append}
use Rattle.std.proofs.lemmas.List.Elements.{filter-append}
use Rattle.octet_model.specs.declared.command.Command.{Command}
use Rattle.octet_model.specs.declared.event.Event.{Event}
use Rattle.octet_model.specs.declared.event.Event.TheVariants.{Read, Write, Update, Marked}
use Rattle.octet_model.specs.declared.log.ThreadLog.{ThreadLog}
use Rattle.octet_model.specs.declared.script.Script.{Script}
use Rattle.octet_model.specs.Thread.{Configuration, FitsFrom, FitsToEnd, configuration_after, demanded, past_demanded, starting_configuration}
use Rattle.octet_model.specs.Journals.{access_count, gapped_marks, log_of, log_of_journal}
use Rattle.octet_model.specs.Machine.{Journals, journal_of, PlainState, Operation, starting_state, is_enabled, event_made, heap_after, appended, step, after, IsFront, IsOrder}
use Rattle.octet_model.specs.HappensBefore.{is_access}
use Rattle.octet_model.specs.Orders.{by_log, commands_of, end_of, ends_of, execution, journals_after, lowest_order, opening_state, outcome_of, plan_of, starting_heap, state_after, values_read, FitsScript, IsLawfulOrder}
use Rattle.octet_model.specs.Plays.{MakesAll, by_journals, next_in, operation_of, state_after_play}
use Rattle.octet_model.proofs.lemmas.Fronts.{no_journal}
use Rattle.octet_model.proofs.lemmas.Growth.{order_from_play}
use Rattle.octet_model.proofs.lemmas.LawfulOrders.{lawful_order_fits, lawful_order_has_its_log}
use Rattle.octet_model.proofs.lemmas.Lists.{slice_get_split}
use Rattle.octet_model.proofs.lemmas.LogsOfJournals.{as_many_after}
use Rattle.octet_model.proofs.lemmas.Steps.{as_many, makes_from, what_it_makes, other_journal, same_journal}
use Rattle.octet_replay.proofs.lemmas.EventsMade.{DoAlike, do_alike}
use Rattle.octet_replay.specs.Judged.{IsLawful}
use Rattle.octet_regions.specs.declared.access.Access.{Access}
use Rattle.octet_regions.specs.declared.region.Region.{Region}
use Rattle.octet_regions.specs.Accesses.{access_in, access_made, accesses_along, accesses_of, region_in}
use Rattle.octet_regions.specs.Choice.{IsSerialChoice, TakesAll}
use Rattle.octet_regions.specs.Runs.{RunsSerially, is_in, serial_run, without_marks}
use Rattle.octet_regions.proofs.Gathering.{in_cases, rises_in_order}
use Rattle.octet_regions.proofs.Reordering.{Reorders, Runs, by_thread, filtered, heap_past, of_thread}
use Rattle.octet_regions.proofs.SerialOrder.{reorders}

-- the accesses of a journal, without its marks
abbrev accesses_only : List Event → List Event
accesses_only journal = filter is_access journal

abbrev only_accesses : Journals → Journals
only_accesses journals = map accesses_only journals

fits_only : (commands : List Command) (c : Configuration) (journal : List Event) → FitsFrom commands c journal → FitsFrom commands c (accesses_only journal)
fits_only commands c [] fits = tt
fits_only commands c (Read object value ∷ journal) fits = (fits.0, fits_only commands (past_demanded commands c value) journal fits.1)
fits_only commands c (Write object value ∷ journal) fits = (fits.0, fits_only commands (past_demanded commands c value) journal fits.1)
fits_only commands c (Update object before then ∷ journal) fits = (fits.0, fits_only commands (past_demanded commands c then) journal fits.1)
fits_only commands c (Marked mark ∷ journal) fits = fits_only commands c journal fits

after_only : (commands : List Command) (c : Configuration) (journal : List Event) → configuration_after commands c (accesses_only journal) ≡ configuration_after commands c journal
after_only commands c [] = refl
after_only commands c (Read object value ∷ journal) = after_only commands (past_demanded commands c value) journal
after_only commands c (Write object value ∷ journal) = after_only commands (past_demanded commands c value) journal
after_only commands c (Update object before then ∷ journal) = after_only commands (past_demanded commands c then) journal
after_only commands c (Marked mark ∷ journal) = after_only commands c journal

values_only : (journal : List Event) → values_read (accesses_only journal) ≡ values_read journal
values_only [] = refl
values_only (Read object value ∷ journal) = ap (λ (vs : List ℕ). value ∷ vs) (values_only journal)
values_only (Write object value ∷ journal) = values_only journal
values_only (Update object before then ∷ journal) = values_only journal
values_only (Marked mark ∷ journal) = values_only journal

count_only : (journal : List Event) → access_count (accesses_only journal) ≡ access_count journal
count_only [] = refl
count_only (Read object value ∷ journal) = ap suc (count_only journal)
count_only (Write object value ∷ journal) = ap suc (count_only journal)
count_only (Update object before then ∷ journal) = ap suc (count_only journal)
count_only (Marked mark ∷ journal) = count_only journal

no_marks : (before : ℕ) (journal : List Event) → gapped_marks before (accesses_only journal) ≡ []
no_marks before [] = refl
no_marks before (Read object value ∷ journal) = no_marks (suc before) journal
no_marks before (Write object value ∷ journal) = no_marks (suc before) journal
no_marks before (Update object made then ∷ journal) = no_marks (suc before) journal
no_marks before (Marked mark ∷ journal) = no_marks before journal

log_only : (journals : Journals) → log_of (only_accesses journals) ≡ without_marks (log_of journals)
log_only [] = refl
log_only (j ∷ js) = λ i. record { accesses = count_only j i; marks = no_marks 0 j i } ∷ log_only js i

ends_only : (fuel : ℕ) (threads : List (List Command)) (journals : Journals) → ends_of fuel threads (only_accesses journals) ≡ ends_of fuel threads journals
ends_only fuel [] journals = refl
ends_only fuel (commands ∷ threads) [] = refl
ends_only fuel (commands ∷ threads) (j ∷ js) = λ i. end_of (demanded commands (after_only commands (starting_configuration fuel) j i)) ∷ ends_only fuel threads js i

reads_only : (journals : Journals) → map values_read (only_accesses journals) ≡ map values_read journals
reads_only [] = refl
reads_only (j ∷ js) = λ i. values_only j i ∷ reads_only js i

journal_only : (journals : Journals) (u : ℕ) → journal_of (only_accesses journals) u ≡ accesses_only (journal_of journals u)
journal_only [] u = refl
journal_only (j ∷ js) zero = refl
journal_only (j ∷ js) (suc u) = journal_only js u

same_journals : (js ks : Journals) → length js ≡ length ks → ((u : ℕ) → journal_of js u ≡ journal_of ks u) → js ≡ ks
same_journals [] [] many same = refl
same_journals [] (k ∷ ks) many same = absurd (omega arith)
same_journals (j ∷ js) [] many same = absurd (omega arith)
same_journals (j ∷ js) (k ∷ ks) many same = λ i. same 0 i ∷ same_journals js ks (omega arith) (λ u. same (suc u)) i

-- the accesses along a front run on the heap, lead to its end, and are the accesses of the journals
record Follows (s end : PlainState) (accesses : List Access) : Type 0 where
  runs : Runs s.heap accesses
  heap : heap_past accesses s.heap ≡ end.heap
  journals : (u : ℕ) → accesses_only (journal_of end.journals u) ≡ accesses_only (journal_of s.journals u) ++ by_thread u accesses

module _ (script : Script) (log : List ThreadLog) where
  follows_on : (s next end : PlainState) (t : ℕ) (o : Operation) (rest : List Access) → t < length s.journals → next.heap ≡ heap_after o s.heap → next.journals ≡ appended s.journals t (event_made o s.heap)
      → Follows next end rest → Follows s end (access_in (region_in script s t) (event_made o s.heap) ++ rest)
  follows_on s next end t o rest lt heap_is journals_are f = elim (in_cases (region_in script s t) e) [
    | inl mark ↦ subst (λ (first : List Access). Follows s end (first ++ rest)) (sym mark.1) (record {
      runs = subst (λ (h : List ℕ). Runs h rest) (heap_is ∙ sym alike.heap_is ∙ unchanged e mark.0) f.runs;
      heap = ap (heap_past rest) (sym (heap_is ∙ sym alike.heap_is ∙ unchanged e mark.0)) ∙ f.heap;
      journals = λ u. f.journals u ∙ ap (λ (j : List Event). j ++ by_thread u rest) (elim (cases_eq u t) [
        | inr differ ↦ ap accesses_only (others u differ)
        | inl same ↦ ap accesses_only (own u same) ∙ filter-append is_access (journal_of s.journals u) (e ∷ []) ∙ ap (λ (b : Bool). accesses_only (journal_of s.journals u) ++ cond b (e ∷ []) []) mark.0 ∙ append-nil (accesses_only (journal_of s.journals u))
      ]);
    })
    | inr access ↦ subst (λ (first : List Access). Follows s end (first ++ rest)) (sym access.1) (record {
      runs = (access.0, alike.event, subst (λ (h : List ℕ). Runs h rest) (heap_is ∙ sym alike.heap_is) f.runs);
      heap = ap (heap_past rest) (sym (heap_is ∙ sym alike.heap_is)) ∙ f.heap;
      journals = λ u. f.journals u ∙ elim (cases_eq u t) [
        | inr differ ↦ ap (λ (j : List Event). accesses_only j ++ by_thread u rest) (others u differ) ∙ ap (λ (es : List Event). accesses_only (journal_of s.journals u) ++ es) (sym (skips u rest (ne_eqb t u (λ same. differ (sym same)))))
        | inl same ↦
            ap (λ (j : List Event). accesses_only j ++ by_thread u rest) (own u same)
            ∙ ap (λ (j : List Event). j ++ by_thread u rest) (filter-append is_access (journal_of s.journals u) (e ∷ []) ∙ ap (λ (b : Bool). accesses_only (journal_of s.journals u) ++ cond b (e ∷ []) []) access.0)
            ∙ append_assoc (accesses_only (journal_of s.journals u)) (e ∷ []) (by_thread u rest)
            ∙ ap (λ (es : List Event). accesses_only (journal_of s.journals u) ++ es) (sym (takes u rest (eq-eqb t u (sym same))))
      ];
    })
  ]
    where
      e : Event
      e = event_made o s.heap

      alike : DoAlike (operation_of e) o s.heap
      alike = do_alike o s.heap

      unchanged : (x : Event) → is_access x ≡ false → heap_after (operation_of x) s.heap ≡ s.heap
      unchanged (Marked mark) is = refl
      unchanged (Read object value) is = absurd cc
      unchanged (Write object value) is = absurd cc
      unchanged (Update object before then) is = absurd cc

      others : (u : ℕ) → u ≢ t → journal_of next.journals u ≡ journal_of s.journals u
      others u differ = ap (λ (js : Journals). journal_of js u) journals_are ∙ other_journal s.journals t u e differ

      own : (u : ℕ) → u ≡ t → journal_of next.journals u ≡ journal_of s.journals u ++ e ∷ []
      own u same = subst (λ (v : ℕ). journal_of next.journals v ≡ journal_of s.journals v ++ e ∷ []) (sym same) (ap (λ (js : Journals). journal_of js t) journals_are ∙ same_journal s.journals t e lt)

      one : Access
      one = record { region = region_in script s t; event = e }

      skips : (u : ℕ) (as_ : List Access) → (t == u) ≡ false → by_thread u (one ∷ as_) ≡ by_thread u as_
      skips u as_ is = ap (λ (b : Bool). map (λ (a : Access). a.event) (cond b (one ∷ filter (of_thread u) as_) (filter (of_thread u) as_))) is

      takes : (u : ℕ) (as_ : List Access) → (t == u) ≡ true → by_thread u (one ∷ as_) ≡ e ∷ by_thread u as_
      takes u as_ is = ap (λ (b : Bool). map (λ (a : Access). a.event) (cond b (one ∷ filter (of_thread u) as_) (filter (of_thread u) as_))) is

  follows_along : (front : List ℕ) (s : PlainState) → IsFront (by_log script log) s front → Follows s (after (by_log script log) s front) (accesses_along script log s front)
  follows_along [] s is = record { runs = tt; heap = refl; journals = λ u. sym (append-nil (accesses_only (journal_of s.journals u))) }
  follows_along (t ∷ front) s is =
      let m = what_it_makes (by_log script log) s t is.0 in
      let next = step (by_log script log) s t in
      let first = ap (access_made script s t) m.1.wanted in
      subst (λ (as_ : List Access). Follows s (after (by_log script log) next front) (as_ ++ accesses_along script log next front)) (sym first)
      (follows_on s next (after (by_log script log) next front) t m.0 (accesses_along script log next front) m.1.within (ap (λ (x : PlainState). x.heap) m.1.stepped) m.1.appends (follows_along front next is.1))

-- accesses that run, and are those of journals, are a play of these
module _ (journals : Journals) where
  enabled_access : (s : PlainState) (e : Event) → is_access e ≡ true → IsTrue (is_enabled s (operation_of e))
  enabled_access s (Read object value) is = refl
  enabled_access s (Write object value) is = refl
  enabled_access s (Update object before then) is = refl
  enabled_access s (Marked mark) is = absurd cc

  plays : (accesses : List Access) (s : PlainState) → Runs s.heap accesses → length s.journals ≡ length journals → ((k : ℕ) (a : Access) → slice_get accesses k ≡ Some a → a.region.thread < length journals)
      → ((u : ℕ) → journal_of journals u ≡ journal_of s.journals u ++ by_thread u accesses)
      → IsFront (by_journals journals) s (map (λ (a : Access). a.region.thread) accesses)
      × ((after (by_journals journals) s (map (λ (a : Access). a.region.thread) accesses)).journals ≡ journals)
      × ((after (by_journals journals) s (map (λ (a : Access). a.region.thread) accesses)).heap ≡ heap_past accesses s.heap)
  plays [] s runs many there are = (tt, same_journals s.journals journals many (λ u. sym (are u ∙ append-nil (journal_of s.journals u))), refl)
  plays (a ∷ accesses) s runs many there are =
      let t = a.region.thread in
      let within : t < length s.journals = omega (arith, there 0 a refl, many) in
      let mine : by_thread t (a ∷ accesses) ≡ a.event ∷ by_thread t accesses = ap (λ (b : Bool). map (λ (x : Access). x.event) (cond b (a ∷ filter (of_thread t) accesses) (filter (of_thread t) accesses))) (eq-eqb t t refl) in
      let ahead : slice_get (journal_of journals t) (length (journal_of s.journals t)) ≡ Some a.event =
      ap (λ (j : List Event). slice_get j (length (journal_of s.journals t))) (are t ∙ ap (λ (es : List Event). journal_of s.journals t ++ es) mine) ∙ slice_get_split (journal_of s.journals t) (a.event ∷ by_thread t accesses) in
      let m = makes_from (by_journals journals) s t (operation_of a.event) within (ap next_in ahead) (enabled_access s a.event runs.0) in
      let next = step (by_journals journals) s t in
      let heap_is : next.heap ≡ heap_after (operation_of a.event) s.heap = ap (λ (x : PlainState). x.heap) m.stepped in
      let journals_are : next.journals ≡ appended s.journals t a.event = m.appends ∙ ap (appended s.journals t) runs.1 in
      let rest = plays accesses next (subst (λ (h : List ℕ). Runs h accesses) (sym heap_is) runs.2) (ap (λ (js : Journals). length js) journals_are ∙ as_many s.journals t a.event ∙ many) (λ k x at_k. there (suc k) x at_k)
      (λ u. elim (cases_eq u t) [
        | inr differ ↦ are u ∙ ap (λ (es : List Event). journal_of s.journals u ++ es) (skips u (ne_eqb t u (λ same. differ (sym same))))
            ∙ ap (λ (j : List Event). j ++ by_thread u accesses) (sym (ap (λ (js : Journals). journal_of js u) journals_are ∙ other_journal s.journals t u a.event differ))
        | inl same ↦ subst (λ (v : ℕ). journal_of journals v ≡ journal_of next.journals v ++ by_thread v accesses) (sym same)
            (are t ∙ ap (λ (es : List Event). journal_of s.journals t ++ es) mine ∙ sym (append_assoc (journal_of s.journals t) (a.event ∷ []) (by_thread t accesses))
            ∙ ap (λ (j : List Event). j ++ by_thread t accesses) (sym (ap (λ (js : Journals). journal_of js t) journals_are ∙ same_journal s.journals t a.event within)))
      ]) in
      ((m.may, rest.0), rest.1, rest.2 ∙ ap (heap_past accesses) heap_is)
    where
      skips : (u : ℕ) → (a.region.thread == u) ≡ false → by_thread u (a ∷ accesses) ≡ by_thread u accesses
      skips u is = ap (λ (b : Bool). map (λ (x : Access). x.event) (cond b (a ∷ filter (of_thread u) accesses) (filter (of_thread u) accesses))) is

-- the threads of the accesses in turn are the serial run
run_is : (accesses : List Access) (order : List Region) → map (λ (a : Access). a.region.thread) (flat_map (λ (region : Region). filter (is_in region) accesses) order) ≡ serial_run accesses order
run_is accesses [] = refl
run_is accesses (region ∷ order) = map-append (λ (a : Access). a.region.thread) (filter (is_in region) accesses) (flat_map (λ (r : Region). filter (is_in r) accesses) order) ∙ ap (λ (more : List ℕ). map (λ (a : Access). a.region.thread) (filter (is_in region) accesses) ++ more) (run_is accesses order)

append_cases : (xs ys : List Access) (k : ℕ) (a : Access) → slice_get (xs ++ ys) k ≡ Some a → ((j : ℕ) × (slice_get xs j ≡ Some a)) ⊎ ((j : ℕ) × (slice_get ys j ≡ Some a))
append_cases [] ys k a is = inr (k, is)
append_cases (x ∷ xs) ys zero a is = inl (zero, is)
append_cases (x ∷ xs) ys (suc k) a is = elim (append_cases xs ys k a is) [ inl first ↦ inl (suc first.0, first.1) | inr rest ↦ inr rest ]

-- the accesses in turn are some of all
turn_there : (accesses : List Access) (order : List Region) (k : ℕ) (a : Access) → slice_get (flat_map (λ (region : Region). filter (is_in region) accesses) order) k ≡ Some a → (j : ℕ) × (slice_get accesses j ≡ Some a)
turn_there accesses [] k a is = absurd cc
turn_there accesses (region ∷ order) k a is =
    elim (append_cases (filter (is_in region) accesses) (flat_map (λ (r : Region). filter (is_in r) accesses) order) k a is) [
      | inl first ↦ (filtered (is_in region) accesses first.0 a first.1).1
      | inr rest ↦ turn_there accesses order rest.0 a rest.1
    ]

module _ (script : Script) (log : List ThreadLog) (order : List Region) (lawful : IsLawful script log) (there : (k : ℕ) (a : Access) → slice_get (accesses_of script log) k ≡ Some a → a.region.thread < length script.threads)
    (choice : IsSerialChoice (accesses_of script log) order) (all : TakesAll (accesses_of script log) order) where
  abbrev low : List ℕ
  low = lowest_order script log

  abbrev J : Journals
  J = journals_after script log low

  abbrev accesses : List Access
  accesses = accesses_of script log

  abbrev turn : List Access
  turn = flat_map (λ (region : Region). filter (is_in region) accesses) order

  abbrev run : List ℕ
  run = map (λ (a : Access). a.region.thread) turn

  as_many_journals : length J ≡ length script.threads
  as_many_journals = as_many_after (by_log script log) low (opening_state script) ∙ length-map script.threads (λ (c : List Command). [])

  as_many_only : length (only_accesses J) ≡ length script.threads
  as_many_only = length-map J accesses_only ∙ as_many_journals

  follow : Follows (opening_state script) (state_after script log low) accesses
  follow = follows_along script log low (opening_state script) lawful.1.0

  reordered : Reorders accesses turn
  reordered = reorders accesses (rises_in_order script log) order choice all

  journals_then : (u : ℕ) → accesses_only (journal_of J u) ≡ by_thread u turn
  journals_then u = follow.journals u ∙ ap (λ (j : List Event). accesses_only j ++ by_thread u accesses) (no_journal script.threads u) ∙ reordered.threads u

  played : IsFront (by_journals (only_accesses J)) (starting_state (starting_heap script) (only_accesses J)) run
      × ((after (by_journals (only_accesses J)) (starting_state (starting_heap script) (only_accesses J)) run).journals ≡ only_accesses J)
      × ((after (by_journals (only_accesses J)) (starting_state (starting_heap script) (only_accesses J)) run).heap ≡ heap_past turn (starting_heap script))
  played =
      plays (only_accesses J) turn (starting_state (starting_heap script) (only_accesses J)) (reordered.runs (starting_heap script) follow.runs) (length-map (only_accesses J) (λ (j : List Event). []))
      (λ k a at_k. (let t = turn_there accesses order k a at_k in omega (arith, there t.0 a t.1, as_many_only)))
      (λ u. journal_only J u ∙ journals_then u ∙ ap (λ (j : List Event). j ++ by_thread u turn) (sym (no_journal (only_accesses J) u)))

  makes : MakesAll (starting_heap script) (only_accesses J) run
  makes = record { is_play = played.0; makes = played.1 }

  fits : FitsScript script (only_accesses J)
  fits t lt =
      let had = lawful_order_fits script log low lawful t (omega (arith, lt, length-map J accesses_only)) in
      let commands = commands_of script t in
      let start = starting_configuration script.fuel in
      subst (λ (j : List Event). FitsToEnd commands start j) (sym (journal_only J t))
      (fits_only commands start (journal_of J t) had.0, (had.1.0, ap (demanded commands) (after_only commands start (journal_of J t)) ∙ had.1.1))

  made : IsOrder (by_log script (log_of (only_accesses J))) (opening_state script) run × (state_after script (log_of (only_accesses J)) run ≡ state_after_play (starting_heap script) (only_accesses J) run)
  made = order_from_play (plan_of script) (only_accesses J) run makes (sym as_many_only) fits

  log_is : log_of (only_accesses J) ≡ without_marks log
  log_is = log_only J ∙ ap without_marks (lawful_order_has_its_log script log low lawful)

  outcome_is : outcome_of script (state_after_play (starting_heap script) (only_accesses J) run) ≡ execution script log low
  outcome_is =
      let ends = ap (ends_of script.fuel script.threads) played.1 ∙ ends_only script.fuel script.threads J in
      let reads = ap (map values_read) played.1 ∙ reads_only J in
      let heap = played.2 ∙ sym (reordered.heaps (starting_heap script)) ∙ follow.heap in
      λ i. record { ends = ends i; reads = reads i; heap = heap i }

  pub runs_serially : RunsSerially script log order
  runs_serially = subst (λ (r : List ℕ). IsLawfulOrder script (without_marks log) r × (execution script (without_marks log) r ≡ execution script log low)) (run_is accesses order)
      (subst (λ (l : List ThreadLog). IsLawfulOrder script l run × (execution script l run ≡ execution script log low)) log_is
      ((sym as_many_only ∙ sym (length-map (only_accesses J) log_of_journal), made.0), ap (outcome_of script) made.1 ∙ outcome_is))
