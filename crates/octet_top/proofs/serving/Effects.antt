-- From what is served to what the top call leaves.
use Rattle.std.proofs.Common.{◌≡◌, ◌∙◌, ◌⊎◌, ℕ, List, [], ◌∷◌, map, take, Some, Ok, Err, arith, inl, inr, ap, sym, refl, subst, Option, None}
use Rattle.std.specs.FinMap.{get, insert}
use Rattle.std.proofs.lemmas.List.{take_all}
use Rattle.octet_base.specs.Desk.{Files, Contents, DeskState}
use Rattle.octet_model.specs.Orders.{lowest_order}
use Rattle.octet_replay.proofs.lemmas.OneAnswer.{faithful, not_refused}
use Rattle.octet_commands.specs.declared.inputs.Pair.{Pair}
use Rattle.octet_commands.specs.declared.request.PairTask.{PairTask}
use Rattle.octet_commands.specs.declared.request.PairTask.TheVariants.{Replay, Verify, Regions, Slice, Stop, Trace, Profile}
use Rattle.octet_commands.specs.declared.reply.Status.{Status}
use Rattle.octet_commands.specs.declared.reply.Status.TheVariants as exit
use Rattle.octet_commands.specs.Answer.{Answer, code_of}
use Rattle.octet_commands.specs.Request.{Request, claimed_of, named_by, request_in, outputs_in}
use Rattle.octet_commands.specs.declared.request.Request.TheVariants.{Tidy, Show, Marks, OfPair, Parallel, Convert, Run, Gen, Hunt, Outcomes, Always}
use Rattle.octet_commands.specs.Commands.{Answers, RequestAnswers, PairAnswers, ParallelAnswers, ConvertAnswers, IsAnswer}
use Rattle.octet_top.specs.Serving.{IsServed}
use Rattle.octet_commands.specs.Outputs.{written, ArePartlyWritten}
use Rattle.octet_top.specs.Causes.{NoneFailed}
use Rattle.octet_top.specs.Effects.{IsStatus, CountsFailures, IsUntouched, IsCut, IsDelivered, IsGivenAnswer, Leaves, LeavesLog, IsOneOf, KeepsOthers, KeepsFiles, SaysFailed, HasFiles, MayLack, MayEndWith, IsCompleted, IsWellMet}
use Rattle.octet_top.proofs.serving.Causes.{Ending, Whole, CutShort, Lacking, IsFound, IsShort, ended, says_failed}
use Rattle.octet_commands.proofs.lemmas.Rows.{AllDone, NotOrdered, NotSerial, NotThere, Replayed, Apart, HasItsEvent, JudgesRegions, Row, of_refused, is_refusal, answers_row, tidy_row, show_row, pair_row, parallel_row, run_row, none_status}
use Rattle.octet_commands.specs.declared.marks.TheConstants.{TOO_MANY_BYTES}
use Rattle.octet_commands.specs.Marks.{ReadsTo, fed, pieces_text, SaysRest, MarksAnswers}
use Rattle.octet_top.proofs.serving.Due.{always_status, search_status, some_file, marks_once, script_single, log_single, script_chosen_single, pair_single, not_of_another, comes}
use Rattle.octet_top.proofs.writing.Left.{get-other}

-- files of other names stay
other_of_written : (files : List (List ℕ × List ℕ)) (base : Files) (name : List ℕ) → ¬ IsOneOf name (map (λ file. file.0) files) → get (written files base) name ≡ get base name
other_of_written [] base name other = refl
other_of_written (file ∷ files) base name other = other_of_written files (insert base file.0 file.1) name (λ one. other (inr one)) ∙ get-other base file.0 file.1 name (λ is. other (inl is))

other_of_part : (files : List (List ℕ × List ℕ)) (base now : Files) (name : List ℕ) → ¬ IsOneOf name (map (λ file. file.0) files) → ArePartlyWritten files base now → get now name ≡ get base name
other_of_part [] base now name other never = absurd never
other_of_part (file ∷ files) base now name other (inl (inl is)) = ap (λ (fs : Files). get fs name) is
other_of_part (file ∷ files) base now name other (inl (inr (n, is))) = ap (λ (fs : Files). get fs name) is ∙ get-other base file.0 (take n file.1) name (λ same. other (inl same))
other_of_part (file ∷ files) base now name other (inr part) = other_of_part files (insert base file.0 file.1) now name (λ one. other (inr one)) part ∙ get-other base file.0 file.1 name (λ is. other (inl is))

other_of_left : (answer : Answer) (contents contents' : Contents) (code : ℕ) (name : List ℕ) → ¬ IsOneOf name (map (λ file. file.0) answer.files) → IsDelivered answer contents contents' code → get contents'.files name ≡ get contents.files name
other_of_left answer contents contents' code name other (inl (whole, is)) = ap (λ (fs : Files). get fs name) whole.files ∙ other_of_written answer.files contents.files name other
other_of_left answer contents contents' code name other (inr (inl (part, said), is)) = other_of_part answer.files contents.files contents'.files name other part
other_of_left answer contents contents' code name other (inr (inr (files, said), is)) = ap (λ (fs : Files). get fs name) files ∙ other_of_written answer.files contents.files name other

-- a given answer writes the files of the request, or none
pub names_given : (words : List (List ℕ)) (contents : Contents) (before after : ℕ) (answer : Answer) → IsGivenAnswer words contents before after answer → Row (outputs_in (request_in words)) answer
names_given words contents before after answer (inl answers) = answers_row (request_in words) (Some contents) answer answers
names_given words contents before after answer (inr (says, rose)) = let failed = says_failed (request_in words) (Some contents) answer says in of_refused _ answer (record { status = ap is_refusal failed.status; files = failed.files })

module _ (words : List (List ℕ)) (before after : DeskState) (code : ℕ) (served : IsServed (request_in words) before after code) where
  pub status : IsStatus code
  status = by (ended words before after code served)
    where
      by : Ending words before after code → IsStatus code
      by (Whole answer found is same left) = (answer.status, is)
      by (CutShort is rose left) = (exit.Write, is)
      by (Lacking is same left) = (exit.Memory, is)

  pub counts : CountsFailures words before after code
  counts = by (ended words before after code served)
    where
      by : Ending words before after code → CountsFailures words before after code
      by (Whole answer (inl (answers, kept)) is same left) = record { writes = λ write. inl same; takes = λ read write memory. kept }
      by (Whole answer (inr (said, rose)) is same left) = record { writes = λ write. inl same; takes = λ read write memory. absurd (read (is ∙ ap code_of (says_failed (request_in words) before.contents answer said).status)) }
      by (CutShort is rose left) = record { writes = λ write. absurd (write is); takes = λ read write memory. absurd (write is) }
      by (Lacking is kept left) = record { writes = λ write. elim kept [ inl same ↦ inl same | inr asks ↦ inr (asks, is) ]; takes = λ read write memory. absurd (memory is) }

  pub leaves : Leaves words before after code
  leaves contents contents' tells tells' = by (ended words before after code served)
    where
      given : (answer : Answer) → IsFound words before after answer → IsGivenAnswer words contents before.take_faults after.take_faults answer
      given answer (inl (answers, same)) = inl (subst (λ t. IsAnswer words t answer) tells answers)
      given answer (inr (says, rose)) = inr (subst (λ t. SaysFailed (request_in words) t answer) tells says, rose)

      cut : IsCut code → IsShort words before after contents contents'
          → ((answer : Answer) × IsGivenAnswer words contents before.take_faults after.take_faults answer × IsDelivered answer contents contents' code) ⊎ (LeavesLog words contents contents' × IsCut code)
      cut is (inl (answer, found, short)) = inl (answer, given answer found, inr (short, is))
      cut is (inr log) = inr (log, is)

      by : Ending words before after code
          → IsUntouched contents contents' code ⊎ (((answer : Answer) × IsGivenAnswer words contents before.take_faults after.take_faults answer × IsDelivered answer contents contents' code) ⊎ (LeavesLog words contents contents' × IsCut code))
      by (Whole answer found is same left) = inr (inl (answer, given answer found, inl (left contents contents' tells tells', is)))
      by (CutShort is rose left) = inr (cut (inl is) (left contents contents' tells tells'))
      by (Lacking is same left) = elim (left contents contents' tells tells') [
        | inl (files, said) ↦ inl (record { status = is; files = files; said = said })
        | inr short ↦ inr (cut (inr is) short)
      ]

  pub others : KeepsOthers words before after
  others contents contents' name tells tells' other = elim (leaves contents contents' tells tells') [
    | inl nothing ↦ ap (λ (fs : Files). get fs name) nothing.files
    | inr (inr (log, is)) ↦ other_of_part ((log.log_name, log.bytes) ∷ []) contents.files contents'.files name (λ one. other (subst (λ (r : Option Request). IsOneOf name (outputs_in r)) (sym log.asked) one)) (inl log.file)
    | inr (inl (answer, given, delivered)) ↦ other_of_left answer contents contents' code name (elim (names_given words contents _ _ answer given).names [
      | inl files ↦ λ one. other (subst (IsOneOf name) files one)
      | inr none ↦ λ one. subst (λ (fs : List (List ℕ × List ℕ)). IsOneOf name (map (λ file. file.0) fs)) none one
    ]) delivered
  ]

  pub untouched : KeepsFiles before after code
  untouched contents contents' tells tells' done otherwise write memory = elim (leaves contents contents' tells tells') [
    | inl nothing ↦ nothing.files
    | inr (inr (log, inl is)) ↦ absurd (write is)
    | inr (inr (log, inr is)) ↦ absurd (memory is)
    | inr (inl (answer, given, inr (short, inl is))) ↦ absurd (write is)
    | inr (inl (answer, given, inr (short, inr is))) ↦ absurd (memory is)
    | inr (inl (answer, given, inl (whole, is))) ↦ whole.files ∙ ap (λ (fs : List (List ℕ × List ℕ)). written fs contents.files)
        ((names_given words contents _ _ answer given).plain (λ all. done (is ∙ ap code_of all)) (λ other. otherwise (is ∙ ap code_of other)))
  ]

-- a task on regions may end with a cycle
may_cycle : (task : PairTask) → JudgesRegions task → MayLack task exit.Cycle
may_cycle Regions judges = tt
may_cycle Replay judges = absurd judges
may_cycle Verify judges = absurd judges
may_cycle (Slice thread event) judges = absurd judges
may_cycle (Stop value) judges = absurd judges
may_cycle Trace judges = absurd judges
may_cycle Profile judges = absurd judges

-- and one that has not its event may say so
may_lack_event : (task : PairTask) (pair : Pair) → ¬ HasItsEvent task pair → MayLack task exit.NoEvent
may_lack_event (Slice thread event) pair none = tt
may_lack_event Replay pair none = absurd (none tt)
may_lack_event Verify pair none = absurd (none tt)
may_lack_event Regions pair none = absurd (none tt)
may_lack_event (Stop value) pair none = absurd (none tt)
may_lack_event Trace pair none = absurd (none tt)
may_lack_event Profile pair none = absurd (none tt)

-- all is done, or the request may end with that status
abbrev IsMet : Request → Answer → Type 0
IsMet request answer = (answer.status ≡ exit.Done) ⊎ ((status : Status) × MayEndWith request status × (answer.status ≡ status))

-- so is each answer where all files are as they should be
met_done : (request : Request) (contents : Contents) (answer : Answer) → HasFiles request contents → RequestAnswers request (Some contents) answer → IsMet request answer
met_done (Tidy script) contents answer (source, read) (inl refused) = absurd ((script_single contents script).never source answer read refused)
met_done (Tidy script) contents answer (source, read) (inr (other, is, answers)) = inl (tidy_row other answer answers).status
met_done (Show log) contents answer (read, there) (inl refused) = absurd ((log_single contents log).never read answer there refused)
met_done (Show log) contents answer (read, there) (inr (other, is, answers)) = inl (show_row other answer answers).status
met_done (Marks file) contents answer met (inl (absent, is)) = let both : None ≡ Some met.bytes = sym absent ∙ met.there in absurd cc
met_done (Marks file) contents answer met (inr (bytes, there, answers)) =
    by (marks_once file met.bytes answer met.pieces met.stands (subst (λ (b : List ℕ). ReadsTo (fed b) met.pieces met.stands) (sym (take_all TOO_MANY_BYTES met.bytes (omega (arith, met.short)))) met.reads) (inl met.ends)
    (subst (λ (b : List ℕ). MarksAnswers file b answer) (some_file bytes met.bytes (get contents.files file) there met.there) answers))
  where
    by : SaysRest file met.bytes met.stands (pieces_text met.pieces) answer → IsMet (Marks file) answer
    by (inl (cut, inl (short, is))) = inl (ap (λ (a : Answer). a.status) is)
    by (inl (cut, inr (long, is))) = absurd (omega (arith, met.short, long))
    by (inr (cause, bad, is)) = let both : Ok None ≡ Err cause = sym met.ends ∙ bad in absurd cc
met_done (OfPair task script log object) contents answer (pair, outcome, read, own, recording) (inl refused) = absurd ((pair_single contents script log object).never pair answer read refused)
met_done (OfPair task script log object) contents answer (pair, outcome, read, own, recording) (inr (other, is, answers)) =
    fits (subst (λ (p : Pair). PairAnswers task p answer) ((pair_single contents script log object).one other pair is read) answers)
  where
    fits : PairAnswers task pair answer → IsMet (OfPair task script log object) answer
    fits (inl (fault, another, is)) = absurd (not_of_another pair.source.text pair.loaded.digest fault own another)
    fits (inr (mine, inl (fault, memory, cause, is))) = absurd (not_refused pair.source.script pair.loaded.log.threads fault (faithful pair.source.script pair.loaded.log.threads outcome recording).0 memory cause)
    fits (inr (mine, inr (lawful, says))) = elim (pair_row task pair answer says) [
      | AllDone row ordered serial there ↦ inl row.status
      | NotOrdered row is judges apart ↦ absurd (apart (recording.ordered (lowest_order pair.source.script pair.loaded.log.threads) (faithful pair.source.script pair.loaded.log.threads outcome recording).0))
      | NotSerial row is judges ordered apart ↦ inr (exit.Cycle, may_cycle task judges, is)
      | NotThere row is ordered none ↦ inr (exit.NoEvent, may_lack_event task pair none, is)
    ]
met_done (Parallel script log) contents answer (pair, outcome, read, own, recording) (inl refused) = absurd ((pair_single contents script log None).never pair answer read refused)
met_done (Parallel script log) contents answer (pair, outcome, read, own, recording) (inr (other, is, answers)) =
    fits (subst (λ (p : Pair). ParallelAnswers p answer) ((pair_single contents script log None).one other pair is read) answers)
  where
    fits : ParallelAnswers pair answer → IsMet (Parallel script log) answer
    fits (inl (fault, another, is)) = absurd (not_of_another pair.source.text pair.loaded.digest fault own another)
    fits (inr (mine, inl (fault, memory, cause, is))) = absurd (not_refused pair.source.script pair.loaded.log.threads fault (faithful pair.source.script pair.loaded.log.threads outcome recording).0 memory cause)
    fits (inr (mine, inr (lawful, says))) = elim (parallel_row pair answer says) [
      | Replayed row ordered ↦ inl row.status
      | Apart row is apart ↦ absurd (apart (recording.ordered (lowest_order pair.source.script pair.loaded.log.threads) (faithful pair.source.script pair.loaded.log.threads outcome recording).0))
    ]
met_done (Convert script log out) contents answer (pair, outcome, read, own, recording) (inl refused) = absurd ((pair_single contents script log None).never pair answer read refused)
met_done (Convert script log out) contents answer (pair, outcome, read, own, recording) (inr (other, is, answers)) =
    fits (subst (λ (p : Pair). ConvertAnswers out p answer) ((pair_single contents script log None).one other pair is read) answers)
  where
    fits : ConvertAnswers out pair answer → IsMet (Convert script log out) answer
    fits (inl (fault, another, is)) = absurd (not_of_another pair.source.text pair.loaded.digest fault own another)
    fits (inr (mine, inl (of_script, of_log, differ, is))) = absurd (differ.differ (differ.script_has ∙ recording.is_lawful.0 ∙ sym differ.log_has))
    fits (inr (mine, inr (threads, file, is))) = inl (ap (λ (a : Answer). a.status) is)
met_done (Run task script log) contents answer (source, read) (inl refused) = absurd ((script_single contents script).never source answer read refused)
met_done (Run task script log) contents answer (source, read) (inr (other, is, answers)) = inl (run_row task log other answer answers).status
met_done (Gen number script log) contents answer met answers = inl (ap (λ (a : Answer). a.status) answers.5)
met_done (Hunt quarry script log tries) contents answer (chosen, read) (inl refused) = absurd ((script_chosen_single contents script (named_by quarry)).never chosen answer read refused)
met_done (Hunt quarry script log tries) contents answer (chosen, read) (inr (other, is, inl find)) = inl (ap (λ (a : Answer). a.status) find.is)
met_done (Hunt quarry script log tries) contents answer (chosen, read) (inr (other, is, inr none)) = inr (exit.NotFound, refl, ap (λ (a : Answer). a.status) none ∙ none_status quarry tries)
met_done (Outcomes script most) contents answer (source, read) (inl refused) = absurd ((script_single contents script).never source answer read refused)
met_done (Outcomes script most) contents answer (source, read) (inr (other, is, answers)) = elim (search_status other.script most answer answers) [
  | inl done ↦ inl done
  | inr cut ↦ inr (exit.NotAll, refl, cut)
]
met_done (Always claim script log most) contents answer (chosen, read) (inl refused) = absurd ((script_chosen_single contents script (claimed_of claim)).never chosen answer read refused)
met_done (Always claim script log most) contents answer (chosen, read) (inr (other, is, answers)) = elim (always_status claim log other answer answers) [
  | inl (done, holds) ↦ inl done
  | inr (inl cut) ↦ inr (exit.NotAll, inl refl, cut)
  | inr (inr (refuted, fails)) ↦ inr (exit.Otherwise, inr refl, refuted)
]

-- and such a status comes, where no call fails, unless memory was refused
pub complete : (words : List (List ℕ)) (before after : DeskState) (code : ℕ) → IsServed (request_in words) before after code → (contents : Contents) → before.contents ≡ Some contents → IsWellMet words contents → NoneFailed before after
    → IsCompleted words code
complete words before after code served contents tells (request, asked, met) none = elim (comes words before after code served contents tells none) [
  | inl memory ↦ inr (inl memory)
  | inr (answer, answers, is) ↦ elim (met_done request contents answer met (subst (λ r. Answers r (Some contents) answer) asked answers)) [
    | inl all ↦ inl (is ∙ ap code_of all)
    | inr (status, may, ends) ↦ inr (inr (request, status, asked, may, is ∙ ap code_of ends))
  ]
]
