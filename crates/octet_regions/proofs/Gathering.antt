-- The accesses of a replay, step by step.
use Rattle.std.proofs.Common.{◌≡◌, ℕ, zero, suc, ◌<◌, ◌≤◌, ◌⊎◌, inl, inr, true, false, List, [], ◌∷◌, ◌++◌, length, take, Some, slice_get, refl, sym, ap, ◌∙◌, subst, arith, append-nil, append_assoc}
use Rattle.std.proofs.lemmas.Bool.{cases_eq, cases_lt}
use Rattle.std.proofs.lemmas.List.{length-map, set_past, take_all}
use Rattle.octet_model.specs.declared.command.Command.{Command}
use Rattle.octet_model.specs.declared.event.Event.{Event}
use Rattle.octet_model.specs.declared.event.Event.TheVariants.{Read, Write, Update, Marked}
use Rattle.octet_model.specs.declared.limits.TheConstants.{MAX_FUEL, MAX_THREADS}
use Rattle.octet_model.specs.declared.log.Log.{Log}
use Rattle.octet_model.specs.declared.log.ThreadLog.{ThreadLog}
use Rattle.octet_model.specs.declared.script.Script.{Script}
use Rattle.octet_model.specs.Thread.{Configuration, starting_configuration}
use Rattle.octet_model.specs.Machine.{Journals, journal_of, PlainState, Behavior, Operation, Next, Wants, Finished, NothingFits, event_made, performed, next_of, step, after}
use Rattle.octet_model.specs.HappensBefore.{is_access}
use Rattle.octet_model.specs.Orders.{by_log, commands_of, lowest_order, opening_state, state_after}
use Rattle.octet_model.proofs.lemmas.LogsOfJournals.{as_many_after}
use Rattle.octet_model.proofs.lemmas.Steps.{by_step, Makes, what_it_makes, other_journal, same_journal}
use Rattle.octet_interp.specs.Regions.{regions_before}
use Rattle.octet_interp.proofs.RegionsRun.{before_access, before_mark}
use Rattle.octet_replay.specs.ReplayState.{HasHalted, ReplayState, IsNextStep, IsNextThread, plain_state}
use Rattle.octet_replay.proofs.lemmas.Halting.{all_steps_made}
use Rattle.octet_replay.proofs.lemmas.Traces.{one_step, event_is}
use Rattle.octet_regions.specs.declared.access.Access.{Access}
use Rattle.octet_regions.specs.declared.region.Region.{Region}
use Rattle.octet_regions.specs.Accesses.{access_in, access_made, accesses_along, accesses_of, region_in}
use Rattle.octet_regions.specs.code.Chooser.{FitQueues}
use Rattle.octet_regions.specs.code.Earlier.{RegionsRise}
use Rattle.octet_regions.specs.code.Gather.{AccessesSoFar}
use Rattle.octet_regions.proofs.LastAccesses.{last_cases}

-- an event is an access in its region, or adds nothing
pub in_cases : (region : Region) (event : Event) → ((is_access event ≡ false) × (access_in region event ≡ [])) ⊎ ((is_access event ≡ true) × (access_in region event ≡ record { region = region; event = event } ∷ []))
in_cases region (Marked mark) = inl (refl, refl)
in_cases region (Read object value) = inr (refl, refl)
in_cases region (Write object value) = inr (refl, refl)
in_cases region (Update object before then) = inr (refl, refl)

-- the accesses of a front with one step more
along_more : (script : Script) (log : List ThreadLog) (front : List ℕ) (t : ℕ) (s : PlainState)
    → accesses_along script log s (front ++ t ∷ []) ≡ accesses_along script log s front ++ access_made script (after (by_log script log) s front) t (next_of (by_log script log) (after (by_log script log) s front) t)
along_more script log [] t s = append-nil (access_made script s t (next_of (by_log script log) s t))
along_more script log (u ∷ front) t s =
    let first = access_made script s u (next_of (by_log script log) s u) in
    ap (λ (rest : List Access). first ++ rest) (along_more script log front t (step (by_log script log) s u))
    ∙ sym (append_assoc first (accesses_along script log (step (by_log script log) s u) front) _)

as_many_state : (script : Script) (log : List ThreadLog) (order : List ℕ) → length (state_after script log order).journals ≡ length script.threads
as_many_state script log order = as_many_after (by_log script log) order (opening_state script) ∙ length-map script.threads (λ (c : List Command). [])

-- one step of the replay
module _ (r : ReplayState) (t : ℕ) (e : Event) (next : IsNextStep r t e) where
  abbrev behavior : Behavior
  behavior = by_log r.script r.log.threads

  abbrev order : List ℕ
  order = lowest_order r.script r.log.threads

  abbrev s : PlainState
  s = plain_state r

  step_made : (o : Operation) × Makes behavior s t o
  step_made = what_it_makes behavior s t next.may

  pub there : t < length r.script.threads
  there = omega (arith, step_made.1.within, as_many_state r.script r.log.threads (take r.steps order))

  more_accesses : accesses_along r.script r.log.threads (opening_state r.script) (take (suc r.steps) order) ≡ accesses_along r.script r.log.threads (opening_state r.script) (take r.steps order) ++ access_in (region_in r.script s t) e
  more_accesses =
      let begun = accesses_along r.script r.log.threads (opening_state r.script) (take r.steps order) in
      ap (λ (o : List ℕ). accesses_along r.script r.log.threads (opening_state r.script) o) (one_step r t e next) ∙ along_more r.script r.log.threads (take r.steps order) t (opening_state r.script)
      ∙ ap (λ (more : List Access). begun ++ more) (ap (access_made r.script s t) step_made.1.wanted ∙ ap (access_in (region_in r.script s t)) (event_is r t e next step_made.0 step_made.1))

  abbrev commands : List Command
  commands = commands_of r.script t

  abbrev start : Configuration
  start = starting_configuration r.script.fuel

  abbrev journal : List Event
  journal = journal_of s.journals t

  pub gathered_access : (after' : ReplayState) (accesses new : List Access) (number : ℕ) → after' ≡ record r { steps = suc r.steps } → is_access e ≡ true → number ≡ regions_before commands start journal → number ≤ MAX_FUEL
      → new ≡ accesses ++ record { region = record { thread = t; number = number }; event = e } ∷ [] → AccessesSoFar r accesses → AccessesSoFar after' new
  gathered_access after' accesses new number is access numbered few new_is gathered = subst (λ (x : ReplayState). AccessesSoFar x new) (sym is) (record {
    all = new_is ∙ ap (λ (l : List Access). l ++ one ∷ []) gathered.all ∙ ap (λ (more : List Access). accesses_along r.script r.log.threads (opening_state r.script) (take r.steps order) ++ more) (sym adds) ∙ sym more_accesses;
    there = λ place a at_place. elim (last_cases accesses one place a (ap (λ (l : List Access). slice_get l place) (sym new_is) ∙ at_place)) [
      | inl old ↦ gathered.there place a old
      | inr last ↦ omega (arith, there, ap (λ (x : Access). x.region.thread) last.1)
    ];
    few = λ place a at_place. elim (last_cases accesses one place a (ap (λ (l : List Access). slice_get l place) (sym new_is) ∙ at_place)) [
      | inl old ↦ gathered.few place a old
      | inr last ↦ omega (arith, few, ap (λ (x : Access). x.region.number) last.1)
    ];
  })
    where
      one : Access
      one = record { region = record { thread = t; number = number }; event = e }

      adds : access_in (region_in r.script s t) e ≡ one ∷ []
      adds = elim (in_cases (region_in r.script s t) e) [
        | inl none ↦ absurd (let clash : true ≡ false = sym access ∙ none.0 in cc)
        | inr is_one ↦ is_one.1 ∙ ap (λ (n : ℕ). record { region = record { thread = t; number = n }; event = e } ∷ []) (sym numbered)
      ]

  pub gathered_mark : (after' : ReplayState) (accesses : List Access) → after' ≡ record r { steps = suc r.steps } → is_access e ≡ false → AccessesSoFar r accesses → AccessesSoFar after' accesses
  gathered_mark after' accesses is no_access gathered = subst (λ (x : ReplayState). AccessesSoFar x accesses) (sym is) (record {
    all = gathered.all ∙ sym (append-nil (accesses_along r.script r.log.threads (opening_state r.script) (take r.steps order)))
        ∙ ap (λ (more : List Access). accesses_along r.script r.log.threads (opening_state r.script) (take r.steps order) ++ more) (sym none) ∙ sym more_accesses;
    there = gathered.there;
    few = gathered.few;
  })
    where
      none : access_in (region_in r.script s t) e ≡ []
      none = elim (in_cases (region_in r.script s t) e) [
        | inl is_none ↦ is_none.1
        | inr one ↦ absurd (let clash : true ≡ false = sym one.0 ∙ no_access in cc)
      ]

-- before the first step
pub gathered_none : (r : ReplayState) (accesses : List Access) → r.steps ≡ 0 → accesses ≡ [] → AccessesSoFar r accesses
gathered_none r accesses begins none = record {
  all = none ∙ ap (λ (n : ℕ). accesses_along r.script r.log.threads (opening_state r.script) (take n (lowest_order r.script r.log.threads))) (sym begins);
  there = λ place a at_place. absurd (let is : slice_get [] place ≡ Some a = ap (λ (l : List Access). slice_get l place) (sym none) ∙ at_place in cc);
  few = λ place a at_place. absurd (let is : slice_get [] place ≡ Some a = ap (λ (l : List Access). slice_get l place) (sym none) ∙ at_place in cc);
}

-- after the last step
pub gathered_all : (r : ReplayState) (script : Script) (log : Log) (accesses : List Access) → r.script ≡ script → r.log ≡ log → length script.threads ≡ length log.threads → HasHalted r → AccessesSoFar r accesses → accesses ≡ accesses_of script log.threads
gathered_all r script log accesses same_script same_log agree halted gathered =
    let r_is : r ≡ record { script = script; log = log; steps = r.steps } = λ i. record { script = same_script i; log = same_log i; steps = r.steps } in
    let g = subst (λ (x : ReplayState). AccessesSoFar x accesses) r_is gathered in
    let ended = all_steps_made (record { script = script; log = log; steps = r.steps }) agree (subst (λ (x : ReplayState). HasHalted x) r_is halted) in
    g.all ∙ ap (λ (o : List ℕ). accesses_along script log.threads (opening_state script) o) (take_all r.steps (lowest_order script log.threads) ended)

-- regions never fall along a front
grows_by : (commands : List Command) (c : Configuration) (journal : List Event) (event : Event) → regions_before commands c journal ≤ regions_before commands c (journal ++ event ∷ [])
grows_by commands c journal (Marked mark) = omega (arith, before_mark commands c journal mark)
grows_by commands c journal (Read object value) = omega (arith, before_access commands c journal (Read object value) (λ d. refl))
grows_by commands c journal (Write object value) = omega (arith, before_access commands c journal (Write object value) (λ d. refl))
grows_by commands c journal (Update object before then) = omega (arith, before_access commands c journal (Update object before then) (λ d. refl))

module _ (script : Script) (log : List ThreadLog) where
  abbrev number_in : PlainState → ℕ → ℕ
  number_in s u = (region_in script s u).number

  grows_number : (s : PlainState) (t u : ℕ) → number_in s u ≤ number_in (step (by_log script log) s t) u
  grows_number s t u = by_step (by_log script log) (λ (x : PlainState). number_in s u ≤ number_in x u) s t
      (λ o. elim (cases_eq u t) [
        | inr differ ↦ omega (arith, ap (regions_before (commands_of script u) (starting_configuration script.fuel)) (other_journal s.journals t u (event_made o s.heap) differ))
        | inl same ↦ elim (cases_lt t (length s.journals)) [
          | inl lt ↦ subst (λ (v : ℕ). number_in s v ≤ number_in (performed s t o) v) (sym same)
              (omega (arith, grows_by (commands_of script t) (starting_configuration script.fuel) (journal_of s.journals t) (event_made o s.heap), ap (regions_before (commands_of script t) (starting_configuration script.fuel)) (same_journal s.journals t (event_made o s.heap) lt)))
          | inr past ↦ omega (arith, ap (λ (js : Journals). regions_before (commands_of script u) (starting_configuration script.fuel) (journal_of js u)) (set_past s.journals t (journal_of s.journals t ++ event_made o s.heap ∷ []) past))
        ]
      ]) (omega arith)

  -- a step adds no access, or one in its thread's region
  adds_cases : (s : PlainState) (t : ℕ) (n : Next) → (access_made script s t n ≡ []) ⊎ ((a : Access) × (access_made script s t n ≡ a ∷ []) × (a.region ≡ region_in script s t))
  adds_cases s t Finished = inl refl
  adds_cases s t NothingFits = inl refl
  adds_cases s t (Wants o) = elim (in_cases (region_in script s t) (event_made o s.heap)) [
    | inl none ↦ inl none.1
    | inr one ↦ inr (record { region = region_in script s t; event = event_made o s.heap }, one.1, refl)
  ]

  lower : (front : List ℕ) (s : PlainState) (i : ℕ) (a : Access) → slice_get (accesses_along script log s front) i ≡ Some a → number_in s a.region.thread ≤ a.region.number
  lower [] s i a is = absurd cc
  lower (t ∷ front) s i a is =
      let rest = accesses_along script log (step (by_log script log) s t) front in
      let from_rest : (j : ℕ) → slice_get rest j ≡ Some a → number_in s a.region.thread ≤ a.region.number =
      λ j at_j. omega (arith, lower front (step (by_log script log) s t) j a at_j, grows_number s t a.region.thread) in
      elim (adds_cases s t (next_of (by_log script log) s t)) [
        | inl none ↦ from_rest i (ap (λ (first : List Access). slice_get (first ++ rest) i) (sym none) ∙ is)
        | inr one ↦ first_or_rest i a rest one.0 (ap (λ (first : List Access). slice_get (first ++ rest) i) (sym one.1) ∙ is) (λ same. subst (λ (x : Access). number_in s x.region.thread ≤ x.region.number) (sym same) (own one.0 s t one.2)) from_rest
      ]
    where
      own : (x : Access) (z : PlainState) (u : ℕ) → x.region ≡ region_in script z u → number_in z x.region.thread ≤ x.region.number
      own x z u is' = subst (λ (q : Region). number_in z q.thread ≤ q.number) (sym is') (omega arith)

      first_or_rest : (j : ℕ) (b : Access) (rest : List Access) (x : Access) → slice_get (x ∷ rest) j ≡ Some b → (b ≡ x → number_in s b.region.thread ≤ b.region.number) → ((k : ℕ) → slice_get rest k ≡ Some b → number_in s b.region.thread ≤ b.region.number) → number_in s b.region.thread ≤ b.region.number
      first_or_rest zero b rest x at_j first more = first (let same : x ≡ b = cc in sym same)
      first_or_rest (suc k) b rest x at_j first more = more k at_j

  rises : (front : List ℕ) (s : PlainState) → RegionsRise (accesses_along script log s front)
  rises [] s i j one other lt is_one is_other same = absurd cc
  rises (t ∷ front) s i j one other lt is_one is_other same =
      let next = step (by_log script log) s t in
      let rest = accesses_along script log next front in
      elim (adds_cases s t (next_of (by_log script log) s t)) [
        | inl none ↦ rises front next i j one other lt (ap (λ (first : List Access). slice_get (first ++ rest) i) (sym none) ∙ is_one) (ap (λ (first : List Access). slice_get (first ++ rest) j) (sym none) ∙ is_other) same
        | inr added ↦ with_first added.0 rest i j (ap (λ (first : List Access). slice_get (first ++ rest) i) (sym added.1) ∙ is_one) (ap (λ (first : List Access). slice_get (first ++ rest) j) (sym added.1) ∙ is_other) lt added.2
            (λ k m lt'. rises front next k m one other lt') (λ m at_m. lower front next m other at_m)
      ]
    where
      with_first : (x : Access) (rest : List Access) (i j : ℕ) → slice_get (x ∷ rest) i ≡ Some one → slice_get (x ∷ rest) j ≡ Some other → i < j → x.region ≡ region_in script s t
          → ((k m : ℕ) → k < m → slice_get rest k ≡ Some one → slice_get rest m ≡ Some other → one.region.thread ≡ other.region.thread → one.region.number ≤ other.region.number)
          → ((m : ℕ) → slice_get rest m ≡ Some other → number_in (step (by_log script log) s t) other.region.thread ≤ other.region.number) → one.region.number ≤ other.region.number
      with_first x rest i zero at_i at_j lt' own more low = absurd (omega arith)
      with_first x rest zero (suc j) at_i at_j lt' own more low =
          let is_x : x ≡ one = cc in
          let region : one.region ≡ region_in script s t = ap (λ (a : Access). a.region) (sym is_x) ∙ own in
          let thread : other.region.thread ≡ t = sym same ∙ ap (λ (q : Region). q.thread) region in
          let least = subst (λ (u : ℕ). number_in (step (by_log script log) s t) u ≤ other.region.number) thread (low j at_j) in
          omega (arith, least, grows_number s t t, ap (λ (q : Region). q.number) region)
      with_first x rest (suc i) (suc j) at_i at_j lt' own more low = more i j (omega arith) at_i at_j same

-- the numbers of a thread's regions never fall in the lowest order
pub rises_in_order : (script : Script) (log : List ThreadLog) → RegionsRise (accesses_of script log)
rises_in_order script log = rises script log (lowest_order script log) (opening_state script)

pub rises_so_far : (r : ReplayState) (accesses : List Access) → AccessesSoFar r accesses → RegionsRise accesses
rises_so_far r accesses gathered = subst RegionsRise (sym gathered.all) (rises r.script r.log.threads (take r.steps (lowest_order r.script r.log.threads)) (opening_state r.script))

-- the step is that of the thread that is next
pub at_next : (r : ReplayState) (t u : ℕ) (e : Event) → IsNextThread r t → IsNextStep r u e → IsNextStep r t e
at_next r t u e there next = subst (λ (v : ℕ). IsNextStep r v e) (sym next.is_of ∙ there.is_of) next

-- where a thread is next, the replay has not halted
pub steps_still : (r : ReplayState) (t : ℕ) → IsNextThread r t → HasHalted r → ⊥
steps_still r t there halted = let clash : true ≡ false = sym there.may ∙ halted t in cc

-- where the thread of a step is, and how far it leads, by an earlier state
pub made_there : (r first : ReplayState) (t : ℕ) → r.script ≡ first.script → t < length r.script.threads → t < length first.script.threads
made_there r first t same lt = subst (λ (s : Script). t < length s.threads) same lt

pub made_within : (r first : ReplayState) (t : ℕ) (e : Event) → IsNextStep r t e → r.script ≡ first.script → r.log ≡ first.log → (steps : ℕ) → steps ≡ suc r.steps → steps ≤ length (lowest_order first.script first.log.threads)
made_within r first t e next same_script same_log steps is =
    subst (λ (s : Script). steps ≤ length (lowest_order s first.log.threads)) same_script (subst (λ (l : Log). steps ≤ length (lowest_order r.script l.threads)) same_log (omega (arith, next.within, is)))

-- accesses that were gathered are of threads that are there, in regions that have a number above
pub fit_of : (r : ReplayState) (threads : ℕ) (seen : List Access) → threads ≤ MAX_THREADS → threads ≡ length r.script.threads → AccessesSoFar r seen → FitQueues threads seen
fit_of r threads seen few many gathered = record {
  few = few;
  there = λ place access is. omega (arith, gathered.there place access is, many);
  room = λ place access is. omega (arith, gathered.few place access is);
}
