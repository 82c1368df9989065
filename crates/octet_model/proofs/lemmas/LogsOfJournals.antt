-- A log of journals asks for the events of the journals, where these fit.
use Rattle.std.proofs.Common.{◌≡◌, ℕ, zero, suc, ◌+◌, ◌<◌, inl, inr, Bool, true, false, ◌&&◌, ltb, cond, List, [], ◌∷◌, ◌++◌, length, Option, Some, None, IsTrue, slice_get, slice_index, slice_set, refl, sym, ap, ◌∙◌, subst, subst₂, arith, append-nil, append_assoc}
use Rattle.std.proofs.lemmas.Bool.{cases_eq, cases_lt, eq-eqb, ne_eqb, lt-ltb, le-ltb}
use Rattle.std.proofs.lemmas.List.{set_past, get_or-map}
use Rattle.std.proofs.lemmas.List.Sums.{sum_by-cons}
use Rattle.octet_model.specs.declared.command.Command.{Command}
use Rattle.octet_model.specs.declared.event.Event.{Event}
use Rattle.octet_model.specs.declared.event.Event.TheVariants.{Read, Write, Update, Marked}
use Rattle.octet_model.specs.declared.event.Mark.{Mark}
use Rattle.octet_model.specs.declared.log.Gapped.{Gapped}
use Rattle.octet_model.specs.declared.log.ThreadLog.{ThreadLog}
use Rattle.octet_model.specs.declared.script.Script.{Script}
use Rattle.octet_model.specs.Thread.{Configuration, AccessOrEnd, ToRead, ToWrite, ToBump, ToEnd, added, demanded, configuration_after, starting_configuration, FitsToEnd}
use Rattle.octet_model.specs.Journals.{access_count, mark_count, gap_after, gapped_marks, log_of_journal, log_of, due_mark, next_access, mark_first, next_by_log}
use Rattle.octet_model.specs.Machine.{Journals, journal_of, PlainState, no_events, starting_state, Operation, MakeUpdate, Next, Wants, Finished, Behavior, event_made, appended, performed, next_of, may_proceed, proceeded, may_step, step, after, IsFront, AllFinished}
use Rattle.octet_model.specs.HappensBefore.{IsOrdered}
use Rattle.octet_model.specs.Plans.{Plan, commands_of, by_log, opening_state, FitsPlan}
use Rattle.octet_model.specs.Orders.{plan_of, starting_heap, event_total, lowest_order, lowest, go_on, lowest_front, FitsScript}
use Rattle.octet_model.specs.Plays.{operation_of, next_in, by_journals, MakesAll, lowest_play}
use Rattle.octet_model.proofs.lemmas.Lists.{slice_get_split}
use Rattle.octet_model.proofs.lemmas.Splits.{accesses_split, marks_split, length_parts, length-gapped_marks, configuration_split, fits_split}
use Rattle.octet_model.proofs.lemmas.Steps.{at, count, same_journal, other_journal, what_it_makes, by_step, as_many_step, made_there}
use Rattle.octet_model.proofs.lemmas.Fronts.{stays, IsDownClosed, down_closed_at_start, remains}
use Rattle.octet_model.proofs.lemmas.LowestThread.{first_same, lowest_may}
use Rattle.octet_model.proofs.lemmas.Plays.{total, total_cons, all_finished}

-- the next mark of a log is the first of what is left of the journal
pub next_gapped : (before : ℕ) (pre post : List Event) → slice_get (gapped_marks before (pre ++ post)) (mark_count pre) ≡ slice_get (gapped_marks (gap_after before pre) post) 0
next_gapped before [] post = refl
next_gapped before (Marked mark ∷ pre) post = next_gapped 0 pre post
next_gapped before (access ∷ pre) post = next_gapped (suc before) pre post

-- a mark after an access is not due before it
pub not_due_mark : (gap more : ℕ) (post : List Event) → gap < more → due_mark (slice_get (gapped_marks more post) 0) gap ≡ None
not_due_mark gap more [] lt = refl
not_due_mark gap more (Marked mark ∷ post) lt = ap (λ (b : Bool). cond b (Some mark) None) (ne_eqb more gap (λ e. omega arith))
not_due_mark gap more (access ∷ post) lt = not_due_mark gap (suc more) post (omega arith)

is_due : (gap : ℕ) (mark : Mark) → due_mark (Some (record { gap = gap; mark = mark })) gap ≡ Some mark
is_due gap mark = ap (λ (b : Bool). cond b (Some mark) None) (eq-eqb gap gap refl)

-- what is next by a log where this event is next by the journals. An update takes what it adds from the demand, and not from the journal
abbrev pub IsNextFor : Option Event → Next → Type 0
IsNextFor None next = next ≡ Finished
IsNextFor (Some (Update object before after)) next = (amount : ℕ) × (next ≡ Wants (MakeUpdate object (added amount))) × (after ≡ added amount before)
IsNextFor (Some event) next = next ≡ Wants (operation_of event)

-- whether it may be made does not depend on that
proceeds_alike : (s : PlainState) (event : Option Event) (next : Next) → IsNextFor event next → may_proceed s next ≡ may_proceed s (next_in event)
proceeds_alike s None next is = ap (may_proceed s) is
proceeds_alike s (Some (Update object before after)) next is = ap (may_proceed s) is.1
proceeds_alike s (Some other) next is = ap (may_proceed s) is

-- and where the heap gives the event its values, it is made alike
made_alike : (s : PlainState) (t : ℕ) (event : Event) (next : Next) → IsNextFor (Some event) next → event_made (operation_of event) s.heap ≡ event → proceeded s t next ≡ performed s t (operation_of event)
made_alike s t (Update object before after) next is held =
    let holds : slice_index s.heap object ≡ before = cc in
    ap (proceeded s t) is.1
    ∙ ap (λ (y : ℕ). record { heap = slice_set s.heap object y; journals = appended s.journals t (Update object (slice_index s.heap object) y); draws = s.draws }) (ap (added is.0) holds ∙ sym is.2)
made_alike s t other next is held = ap (proceeded s t) is

module _ (commands : List Command) where
  -- what is next by the log, from the four things that decide it
  next_parts : (c : Configuration) (log : ThreadLog) (journal : List Event) (mark : Option Mark) (d : AccessOrEnd) (a m : Bool)
      → due_mark (slice_get log.marks (mark_count journal)) (gap_after 0 journal) ≡ mark
      → demanded commands (configuration_after commands c journal) ≡ d
      → ltb (access_count journal) log.accesses ≡ a
      → ltb (mark_count journal) (length log.marks) ≡ m
      → next_by_log commands c log journal ≡ mark_first mark (next_access d a m)
  next_parts c log journal mark d a m p q r s =
      ap (λ (o : Option Mark). mark_first o (next_access (demanded commands (configuration_after commands c journal)) (ltb (access_count journal) log.accesses) (ltb (mark_count journal) (length log.marks)))) p
      ∙ ap (λ (x : AccessOrEnd). mark_first mark (next_access x (ltb (access_count journal) log.accesses) (ltb (mark_count journal) (length log.marks)))) q
      ∙ ap (λ (b : Bool). mark_first mark (next_access d b (ltb (mark_count journal) (length log.marks)))) r
      ∙ ap (λ (b : Bool). mark_first mark (next_access d a b)) s

  -- no mark is due before an access
  access_next : (c : Configuration) (pre post : List Event) (e : Event) (d : AccessOrEnd) → due_mark (slice_get (gapped_marks (gap_after 0 pre) (e ∷ post)) 0) (gap_after 0 pre) ≡ None
      → access_count (e ∷ post) ≡ suc (access_count post) → demanded commands (configuration_after commands c pre) ≡ d
      → next_by_log commands c (log_of_journal (pre ++ e ∷ post)) pre ≡ next_access d true (ltb (mark_count pre) (length (gapped_marks 0 (pre ++ e ∷ post))))
  access_next c pre post e d none one demands =
      next_parts c (log_of_journal (pre ++ e ∷ post)) pre None d true _
      (ap (λ (o : Option Gapped). due_mark o (gap_after 0 pre)) (next_gapped 0 pre (e ∷ post)) ∙ none)
      demands
      (lt-ltb (access_count pre) (access_count (pre ++ e ∷ post)) (omega (arith, accesses_split pre (e ∷ post), one)))
      refl

  same_next : (c : Configuration) (pre post : List Event) → FitsToEnd commands c (pre ++ post)
      → IsNextFor (slice_get post 0) (next_by_log commands c (log_of_journal (pre ++ post)) pre)
  same_next c pre [] fits =
      next_parts c (log_of_journal (pre ++ [])) pre None (ToEnd fits.1.0) false false
      (ap (λ (o : Option Gapped). due_mark o (gap_after 0 pre)) (next_gapped 0 pre []))
      (ap (demanded commands) (sym (configuration_split commands c pre [])) ∙ fits.1.1)
      (le-ltb (access_count pre) (access_count (pre ++ [])) (omega (arith, accesses_split pre [])))
      (le-ltb (mark_count pre) (length (gapped_marks 0 (pre ++ []))) (omega (arith, marks_split pre [], length-gapped_marks 0 (pre ++ []))))
  same_next c pre (Read object value ∷ post) fits =
      access_next c pre post (Read object value) (ToRead object) (not_due_mark (gap_after 0 pre) (suc (gap_after 0 pre)) post (omega arith)) refl (fits_split commands c pre (Read object value ∷ post) fits.0).0
  same_next c pre (Write object value ∷ post) fits =
      access_next c pre post (Write object value) (ToWrite object value) (not_due_mark (gap_after 0 pre) (suc (gap_after 0 pre)) post (omega arith)) refl (fits_split commands c pre (Write object value ∷ post) fits.0).0
  same_next c pre (Update object before after ∷ post) fits =
      let fit = (fits_split commands c pre (Update object before after ∷ post) fits.0).0 in
      (fit.0, access_next c pre post (Update object before after) (ToBump object fit.0) (not_due_mark (gap_after 0 pre) (suc (gap_after 0 pre)) post (omega arith)) refl fit.1, fit.2)
  same_next c pre (Marked mark ∷ post) fits =
      next_parts c (log_of_journal (pre ++ Marked mark ∷ post)) pre (Some mark) _ _ _
      (ap (λ (o : Option Gapped). due_mark o (gap_after 0 pre)) (next_gapped 0 pre (Marked mark ∷ post)) ∙ is_due (gap_after 0 pre) mark)
      refl refl refl

more_appended : (js : Journals) (t u : ℕ) (e : Event) → (more : List Event) × (journal_of (appended js t e) u ≡ journal_of js u ++ more)
more_appended js t u e =
    elim (cases_eq u t) [
      | inr differ ↦ ([], other_journal js t u e differ ∙ sym (append-nil (journal_of js u)))
      | inl same ↦ elim (cases_lt t (length js)) [
        | inl lt ↦ (e ∷ [], rw same (same_journal js t e lt))
        | inr past ↦ ([], ap (λ (l : Journals). journal_of l u) (set_past js t (journal_of js t ++ e ∷ []) past) ∙ sym (append-nil (journal_of js u)))
      ]
    ]

-- journals only grow at their ends
pub grown : (behavior : Behavior) (order : List ℕ) (s : PlainState) (u : ℕ) → (more : List Event) × (journal_of (after behavior s order).journals u ≡ journal_of s.journals u ++ more)
grown behavior [] s u = ([], sym (append-nil (journal_of s.journals u)))
grown behavior (t ∷ order) s u =
    let Grown : PlainState → Type 0 = λ z. (more : List Event) × (journal_of z.journals u ≡ journal_of s.journals u ++ more) in
    let first = by_step behavior Grown s t (λ o. more_appended s.journals t u (event_made o s.heap)) ([], sym (append-nil (journal_of s.journals u))) in
    let rest = grown behavior order (step behavior s t) u in
    (first.0 ++ rest.0, rest.1 ∙ ap (λ (j : List Event). j ++ rest.0) first.1 ∙ append_assoc (journal_of s.journals u) first.0 rest.0)

pub as_many_after : (behavior : Behavior) (order : List ℕ) (s : PlainState) → length (after behavior s order).journals ≡ length s.journals
as_many_after behavior [] s = refl
as_many_after behavior (t ∷ order) s = as_many_after behavior order (step behavior s t) ∙ as_many_step behavior s t

all_events : (journals : Journals) → event_total (log_of journals) ≡ total journals
all_events [] = refl
all_events (j ∷ js) =
    omega (arith, sum_by-cons (λ (thread : ThreadLog). thread.accesses + length thread.marks) (log_of_journal j) (log_of js), total_cons j js, length_parts j, length-gapped_marks 0 j, all_events js)

pub same_start : {A B : Type 0} (xs : List A) (ys : List B) → length xs ≡ length ys → no_events xs ≡ no_events ys
same_start [] [] e = refl
same_start [] (y ∷ ys) e = absurd (omega arith)
same_start (x ∷ xs) [] e = absurd (omega arith)
same_start (x ∷ xs) (y ∷ ys) e = ap (λ (js : Journals). [] ∷ js) (same_start xs ys (omega arith))

module _ (plan : Plan) (journals : Journals) (fit : FitsPlan plan journals) where
  pub next_same : (s : PlainState) (t : ℕ) (more : List Event) → t < length journals → journal_of journals t ≡ journal_of s.journals t ++ more
      → IsNextFor (at journals t (count s.journals t)) (next_of (by_log plan (log_of journals)) s t)
  next_same s t more lt is =
      let pre = journal_of s.journals t in
      let commands = commands_of plan t in
      let c = starting_configuration plan.fuel in
      subst₂ IsNextFor (sym (slice_get_split pre more) ∙ ap (λ (j : List Event). slice_get j (length pre)) (sym is))
      (sym (ap (λ (l : ThreadLog). next_by_log commands c l pre) (get_or-map log_of_journal journals t [] (record { accesses = 0; marks = [] }) lt ∙ ap log_of_journal is)))
      (same_next commands c pre more (subst (λ (j : List Event). FitsToEnd commands c j) is (fit t lt)))

  next_on_way : (order : List ℕ) (s : PlainState) → (after (by_journals journals) s order).journals ≡ journals → (t : ℕ) → t < length s.journals
      → IsNextFor (at journals t (count s.journals t)) (next_of (by_log plan (log_of journals)) s t)
  next_on_way order s is t lt =
      let g = grown (by_journals journals) order s t in
      next_same s t g.0 (omega (arith, as_many_after (by_journals journals) order s, ap (λ (js : Journals). length js) is)) (ap (λ (js : Journals). journal_of js t) (sym is) ∙ g.1)

  pub may_same : (order : List ℕ) (s : PlainState) → (after (by_journals journals) s order).journals ≡ journals → (t : ℕ)
      → may_step (by_log plan (log_of journals)) s t ≡ may_step (by_journals journals) s t
  may_same order s is t =
      elim (cases_lt t (length s.journals)) [
        | inl lt ↦ ap (λ (b : Bool). ltb t (length s.journals) && b) (proceeds_alike s (at journals t (count s.journals t)) (next_of (by_log plan (log_of journals)) s t) (next_on_way order s is t lt))
        | inr past ↦
            ap (λ (b : Bool). b && may_proceed s (next_of (by_log plan (log_of journals)) s t)) (le-ltb t (length s.journals) past)
            ∙ sym (ap (λ (b : Bool). b && may_proceed s (next_of (by_journals journals) s t)) (le-ltb t (length s.journals) past))
      ]

  -- a step on the way to all journals
  pub step_same : (order : List ℕ) (s : PlainState) (t : ℕ) → (after (by_journals journals) s (t ∷ order)).journals ≡ journals → IsTrue (may_step (by_journals journals) s t)
      → step (by_log plan (log_of journals)) s t ≡ step (by_journals journals) s t
  step_same order s t is may =
      let W = by_journals journals in
      let V = by_log plan (log_of journals) in
      let m = what_it_makes W s t may in
      let event = event_made m.0 s.heap in
      let here : at journals t (count s.journals t) ≡ Some event =
      ap (λ (js : Journals). at js t (count s.journals t)) (sym is) ∙ stays W order (step W s t) t (count s.journals t) event (made_there W s t m.0 m.1) in
      let by_event : operation_of event ≡ m.0 = let wanted = ap next_in (sym here) ∙ m.1.wanted in cc in
      let next = subst (λ (x : Option Event). IsNextFor x (next_of V s t)) here (next_on_way (t ∷ order) s is t m.1.within) in
      let may' : IsTrue (may_step V s t) = may_same (t ∷ order) s is t ∙ may in
      ap (λ (b : Bool). elim b [ true ↦ proceeded s t (next_of V s t) | false ↦ s ]) may'
      ∙ made_alike s t event (next_of V s t) next (ap (λ (o : Operation). event_made o s.heap) by_event)
      ∙ ap (performed s t) by_event ∙ sym m.1.stepped

  front_same : (steps : ℕ) (order : List ℕ) (s : PlainState) → (after (by_journals journals) s order).journals ≡ journals → IsDownClosed journals s.journals → IsOrdered journals
      → IsFront (by_journals journals) s order → AllFinished (by_journals journals) (after (by_journals journals) s order)
      → lowest_front (by_log plan (log_of journals)) steps s ≡ lowest_front (by_journals journals) steps s
  front_same zero order s is closed ordered front through = refl
  front_same (suc steps) order s is closed ordered front through =
      by_lowest (lowest W s) refl (λ t may.
      let closed' = subst (λ (js : Journals). IsDownClosed js s.journals) (sym is) closed in
      let m = remains W order s t closed' (subst IsOrdered (sym is) ordered) front through may in
      let ends : (after W (step W s t) m.pulled.rest).journals ≡ journals = ap (λ (x : PlainState). x.journals) m.pulled.ends ∙ is in
      ap (λ (x : PlainState). lowest_front V steps x) (step_same m.pulled.rest s t ends may)
      ∙ front_same steps m.pulled.rest (step W s t) ends (subst (λ (js : Journals). IsDownClosed js (step W s t).journals) ends m.closed) ordered m.pulled.front m.through)
    where
      W : Behavior
      W = by_journals journals

      V : Behavior
      V = by_log plan (log_of journals)

      by_lowest : (o : Option ℕ) → lowest W s ≡ o
          → ((t : ℕ) → IsTrue (may_step W s t) → lowest_front V steps (step V s t) ≡ lowest_front W steps (step W s t))
          → go_on (lowest V s) (λ t. lowest_front V steps (step V s t)) ≡ go_on (lowest W s) (λ t. lowest_front W steps (step W s t))
      by_lowest o is_o next = ap (λ (x : Option ℕ). go_on x (λ t. lowest_front V steps (step V s t))) (first_same (may_step V s) (may_step W s) (length s.journals) 0 (may_same order s is) ∙ is_o) ∙ at_o o is_o next ∙ ap (λ (x : Option ℕ). go_on x (λ t. lowest_front W steps (step W s t))) (sym is_o)
        where
          at_o : (o : Option ℕ) → lowest W s ≡ o
              → ((t : ℕ) → IsTrue (may_step W s t) → lowest_front V steps (step V s t) ≡ lowest_front W steps (step W s t))
              → go_on o (λ t. lowest_front V steps (step V s t)) ≡ go_on o (λ t. lowest_front W steps (step W s t))
          at_o None is_o next = refl
          at_o (Some t) is_o next = ap (λ (l : List ℕ). t ∷ l) (next t (lowest_may W s t is_o))

-- where the journals fit a script to the end, the lowest play is the lowest order of the script and their log
pub lowest_play_is_lowest_order : (script : Script) (journals : Journals) (play : List ℕ) → IsOrdered journals → MakesAll (starting_heap script) journals play
    → length script.threads ≡ length journals → FitsScript script journals
    → lowest_order script (log_of journals) ≡ lowest_play (starting_heap script) journals
lowest_play_is_lowest_order script journals play ordered all threads fit =
    let heap = starting_heap script in
    let s = starting_state heap journals in
    let V = by_log (plan_of script) (log_of journals) in
    ap (λ (n : ℕ). lowest_front V n (opening_state (plan_of script))) (all_events journals)
    ∙ ap (λ (js : Journals). lowest_front V (total journals) (record { heap = heap; journals = js; draws = 0 })) (same_start script.threads journals threads)
    ∙ front_same (plan_of script) journals fit (total journals) play s all.makes (down_closed_at_start journals journals) ordered all.is_play (all_finished heap journals play all)
