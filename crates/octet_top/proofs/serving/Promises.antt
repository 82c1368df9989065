-- From what is served to the promises of each command.
use Rattle.std.proofs.Common.{◌≡◌, ◌≢◌, ◌∙◌, ◌++◌, ℕ, List, Some, inl, inr, ap, sym, subst, arith, None, length, codes}
use Rattle.std.specs.FinMap.{get, insert}
use Rattle.octet_base.specs.Desk.{Files, Contents, DeskState}
use Rattle.octet_model.specs.Texts.{log_bytes, outcome_text}
use Rattle.octet_model.proofs.lemmas.LogLength.{faithful_log_is_short}
use Rattle.octet_model.proofs.lemmas.Totals.{faithful_adds_up}
use Rattle.octet_commands.specs.declared.reply.Status.{Status}
use Rattle.octet_commands.specs.declared.reply.Status.TheVariants.{Done, Read, Write, Memory, NotFound}
use Rattle.octet_commands.specs.Answer.{Answer, code_of, writes_file, writes_both, summary, try_text}
use Rattle.octet_commands.specs.Request.{Way, request_in, Quarry, named_by}
use Rattle.octet_commands.specs.declared.request.Request.TheVariants.{Run, Convert, Gen, Hunt}
use Rattle.octet_commands.specs.declared.request.Way.TheVariants.{ByPicks}
use Rattle.octet_log.specs.Spellings.{IsSpelling}
use Rattle.octet_commands.specs.Request.{digest_kept}
use Rattle.octet_top.specs.Headline.{IsFaithfulRun, RunsFaithfully}
use Rattle.octet_commands.specs.Commands.{Answers, Records, RequestAnswers, found_said, second_bytes}
use Rattle.octet_top.specs.Serving.{IsServed}
use Rattle.octet_commands.specs.Outputs.{IsWhole}
use Rattle.octet_top.specs.Promises.{RunsAsPicked, RunsWithExactTotals, IsConversion, ConvertsLogs, IsGeneratedRun, GeneratesFaithfully, IsHuntedRun, HuntsFaithfully}
use Rattle.octet_commands.proofs.lemmas.Recorded.{recorded_faithfully}
use Rattle.octet_top.proofs.serving.Causes.{same_status, says_failed}
use Rattle.octet_top.proofs.serving.Effects.{leaves}
use Rattle.octet_top.specs.Effects.{Leaves}
use Rattle.octet_model.specs.declared.outcome.Outcome.{Outcome}
use Rattle.octet_model.specs.Orders.{IsFaithful, journals_after}
use Rattle.octet_replay.proofs.lemmas.OneAnswer.{faithful}
use Rattle.octet_commands.proofs.lemmas.Rows.{not_done, script_refused, chosen_refused, pair_refused, none_status}
use Rattle.octet_top.proofs.writing.Left.{get-inserted, get-other}
use Rattle.octet_script.specs.Spelling.{canonical_text}
use Rattle.std.specs.List.{sum_by}
use Rattle.std.proofs.lemmas.List.{length-map}
use Rattle.octet_model.specs.declared.script.Script.{Script}
use Rattle.octet_model.specs.declared.log.ThreadLog.{ThreadLog}
use Rattle.octet_model.specs.Journals.{log_of_journal, log_of}
use Rattle.octet_model.proofs.lemmas.LawfulOrders.{lawful_order_has_its_log, lawful_order_fits}
use Rattle.octet_gen.specs.Generated.{IsGenerated}
use Rattle.octet_gen.proofs.lemmas.Accesses.{script_makes_its_accesses}

-- where a status comes that tells of no failure, an answer of that status was given whole
pub record Gives (status : Status) (words : List (List ℕ)) (contents contents' : Contents) : Type 0 where
  pub answer : Answer
  pub answers : Answers (request_in words) (Some contents) answer
  pub done : answer.status ≡ status
  pub given : IsWhole answer contents contents'

pub at_status : (status : Status) (words : List (List ℕ)) (before after : DeskState) (code : ℕ) (contents contents' : Contents) → code_of status ≢ code_of Memory → code_of status ≢ code_of Write → code_of status ≢ code_of Read
    → Leaves words before after code → code ≡ code_of status → before.contents ≡ Some contents → after.contents ≡ Some contents' → Gives status words contents contents'
at_status status words before after code contents contents' not_memory not_write not_read left done tells tells' = elim (left contents contents' tells tells') [
  | inl untouched ↦ absurd (not_memory (sym done ∙ untouched.status))
  | inr (inr (log, inl is)) ↦ absurd (not_write (sym done ∙ is))
  | inr (inr (log, inr is)) ↦ absurd (not_memory (sym done ∙ is))
  | inr (inl (answer, given, inr (short, inl is))) ↦ absurd (not_write (sym done ∙ is))
  | inr (inl (answer, given, inr (short, inr is))) ↦ absurd (not_memory (sym done ∙ is))
  | inr (inl (answer, inr (said, rose), inl (whole, is))) ↦ absurd (not_read (sym done ∙ is ∙ ap code_of (says_failed (request_in words) (Some contents) answer said).status))
  | inr (inl (answer, inl answers, inl (whole, is))) ↦ record { answer = answer; answers = answers; done = same_status answer.status status (sym is ∙ done); given = whole }
]

pub at_success : (words : List (List ℕ)) (before after : DeskState) (code : ℕ) (contents contents' : Contents) → Leaves words before after code → code ≡ code_of Done → before.contents ≡ Some contents → after.contents ≡ Some contents' → Gives Done words contents contents'
at_success words before after code contents contents' left done tells tells' =
    at_status Done words before after code contents contents' (λ e. omega (arith, e)) (λ e. omega (arith, e)) (λ e. omega (arith, e)) left done tells tells'

-- a run
recorded : (way : Way) (script log : List ℕ) (contents contents' : Contents) (answer : Answer) → RequestAnswers (Run way script log) (Some contents) answer → answer.status ≡ Done → IsWhole answer contents contents' → (run : IsFaithfulRun way script log contents contents') × Records way run.script run.log run.outcome
recorded way script log contents contents' answer (inl refused) done given = absurd (not_done answer (script_refused script (Some contents) answer refused) done)
recorded way script log contents contents' answer (inr (source, (text, taken, parsed), (logged, outcome, bytes, records, file, is))) done given =
    let said : IsWhole (writes_file log bytes (outcome_text source.script outcome)) contents contents' = subst (λ (a : Answer). IsWhole a contents contents') is given in (
      record {
        text = text;
        script = source.script;
        log = logged;
        outcome = outcome;
        bytes = bytes;
        taken = taken.0;
        spelled = parsed.1;
        written = ap (λ (fs : Files). get fs log) said.files ∙ get-inserted contents.files log bytes;
        held = subst (λ (t : List ℕ). IsSpelling bytes (digest_kept way t) logged.threads) parsed.0 file.spelled;
        within_limit = file.within_limit;
        contents = said.said;
        faithful = recorded_faithfully way source.script logged outcome records;
      },
      records,
    )

-- where a run was asked for, all was done, and the desk tells its contents
of_run : (words : List (List ℕ)) (before after : DeskState) (code : ℕ) → IsServed (request_in words) before after code → (way : Way) (script log : List ℕ) (contents contents' : Contents) → request_in words ≡ Some (Run way script log) → code ≡ code_of Done → before.contents ≡ Some contents → after.contents ≡ Some contents'
    → (run : IsFaithfulRun way script log contents contents') × Records way run.script run.log run.outcome
of_run words before after code served way script log contents contents' asked zero tells tells' =
    let success = at_success words before after code contents contents' (leaves words before after code served) zero tells tells' in
    recorded way script log contents contents' success.answer (subst (λ request. Answers request (Some contents) success.answer) asked success.answers) success.done success.given

pub headline : (words : List (List ℕ)) (before after : DeskState) (code : ℕ) → IsServed (request_in words) before after code → RunsFaithfully words before after code
headline words before after code served way script log contents contents' asked zero tells tells' =
    (of_run words before after code served way script log contents contents' asked zero tells tells').0

pub played : (words : List (List ℕ)) (before after : DeskState) (code : ℕ) → IsServed (request_in words) before after code → RunsAsPicked words before after code
played words before after code served picks script log contents contents' asked zero tells tells' =
    let found = of_run words before after code served (ByPicks picks) script log contents contents' asked zero tells tells' in
    (found.0, found.1.1)

pub exact_totals : (words : List (List ℕ)) (before after : DeskState) (code : ℕ) → IsServed (request_in words) before after code → RunsWithExactTotals words before after code
exact_totals words before after code served way script log contents contents' asked zero tells tells' =
    let run = headline words before after code served way script log contents contents' asked zero tells tells' in
    (run, faithful_adds_up run.script run.log.threads run.outcome run.faithful)

-- a conversion
converted : (script log out : List ℕ) (contents contents' : Contents) (answer : Answer) → RequestAnswers (Convert script log out) (Some contents) answer → answer.status ≡ Done → IsWhole answer contents contents' → IsConversion script log out contents contents'
converted script log out contents contents' answer (inl refused) done given = absurd (not_done answer (pair_refused script log None (Some contents) answer refused) done)
converted script log out contents contents' answer (inr (pair, read, inl (fault, another, is))) done given = absurd (let both : Done ≡ _ = sym done ∙ ap (λ (a : Answer). a.status) is in cc)
converted script log out contents contents' answer (inr (pair, read, inr (own, inl (of_script, of_log, differ, is)))) done given = absurd (let both : Done ≡ _ = sym done ∙ ap (λ (a : Answer). a.status) is in cc)
converted script log out contents contents' answer (inr (pair, read, inr (own, inr (threads, file, is)))) done given =
    let bytes = second_bytes pair.source.text pair.loaded.log.threads in
    let said : IsWhole (writes_file out bytes (codes "converted\n")) contents contents' = subst (λ (a : Answer). IsWhole a contents contents') is given in
    record {
      pair = pair;
      read = read;
      of_script = own;
      threads = threads;
      written = ap (λ (fs : Files). get fs out) said.files ∙ get-inserted contents.files out bytes;
      held = file.spelled;
      within_limit = file.within_limit;
      contents = said.said;
    }

pub converts : (words : List (List ℕ)) (before after : DeskState) (code : ℕ) → IsServed (request_in words) before after code → ConvertsLogs words before after code
converts words before after code served script log out contents contents' asked zero tells tells' =
    let success = at_success words before after code contents contents' (leaves words before after code served) zero tells tells' in
    converted script log out contents contents' success.answer (subst (λ request. Answers request (Some contents) success.answer) asked success.answers) success.done success.given

-- the journals of a lawful order have the log, and those of a generated script as many accesses as it is made for
accesses_of : (number : ℕ) (script : Script) (log : List ThreadLog) (outcome : Outcome) → IsGenerated number script → IsFaithful script log outcome → sum_by (λ thread. thread.accesses) log ≡ 160000
accesses_of number script log outcome generated faithful =
    let journals = journals_after script log faithful.order in
    let same : log_of journals ≡ log = lawful_order_has_its_log script log faithful.order faithful.is_lawful in
    let many : length journals ≡ length script.threads = sym (length-map journals log_of_journal) ∙ ap (λ (l : List ThreadLog). length l) same ∙ sym faithful.is_lawful.0 in
    subst (λ (l : List ThreadLog). sum_by (λ thread. thread.accesses) l ≡ 160000) same (script_makes_its_accesses number script journals generated many (lawful_order_fits script log faithful.order faithful.is_lawful))

-- a generation
made_of : (number : ℕ) (script_name log_name : List ℕ) (contents contents' : Contents) (answer : Answer) → RequestAnswers (Gen number script_name log_name) (Some contents) answer → IsWhole answer contents contents' → IsGeneratedRun number script_name log_name contents contents'
made_of number script_name log_name contents contents' answer (script, log, outcome, made, faithful, is) given =
    let said : IsWhole (writes_both (script_name, canonical_text script) (log_name, log_bytes log.threads) summary) contents contents' = subst (λ (a : Answer). IsWhole a contents contents') is given in
    let first = insert contents.files script_name (canonical_text script) in
    record {
      script = script;
      log = log;
      outcome = outcome;
      generated = made;
      script_written = λ differ. ap (λ (m : Files). get m script_name) said.files ∙ get-other first log_name (log_bytes log.threads) script_name differ ∙ get-inserted contents.files script_name (canonical_text script);
      log_written = ap (λ (m : Files). get m log_name) said.files ∙ get-inserted first log_name (log_bytes log.threads);
      within_limit = omega (arith, faithful_log_is_short script log.threads outcome faithful log.valid);
      contents = said.said;
      accesses = accesses_of number script log.threads outcome made faithful;
      faithful = faithful;
    }

pub generated : (words : List (List ℕ)) (before after : DeskState) (code : ℕ) → IsServed (request_in words) before after code → GeneratesFaithfully words before after code
generated words before after code served number script log contents contents' asked zero tells tells' =
    let success = at_success words before after code contents contents' (leaves words before after code served) zero tells tells' in
    made_of number script log contents contents' success.answer (subst (λ request. Answers request (Some contents) success.answer) asked success.answers) success.given

-- a hunt
hunted : (quarry : Quarry) (script log : List ℕ) (tries : ℕ) (contents contents' : Contents) (answer : Answer) → RequestAnswers (Hunt quarry script log tries) (Some contents) answer → answer.status ≡ Done → IsWhole answer contents contents'
    → IsHuntedRun quarry script log tries contents contents'
hunted quarry script log tries contents contents' answer (inl refused) done given = absurd (not_done answer (chosen_refused script (named_by quarry) (Some contents) answer refused) done)
hunted quarry script log tries contents contents' answer (inr (chosen, read, inr none)) done given =
    absurd (let both : Done ≡ NotFound = sym done ∙ ap (λ (a : Answer). a.status) none ∙ none_status quarry tries in cc)
hunted quarry script log tries contents contents' answer (inr ((source, wanted), read, inl find)) done given =
    let bytes = second_bytes source.text find.recorded.log.threads in
    let said : IsWhole (writes_file log bytes (try_text find.attempt find.preemptions ++ found_said quarry source.script find.recorded.outcome find.hops)) contents contents' = subst (λ (a : Answer). IsWhole a contents contents') find.is given in
    record {
      source = source;
      wanted = wanted;
      read = read;
      attempt = find.attempt;
      preemptions = find.preemptions;
      recorded = find.recorded;
      hops = find.hops;
      first = find.first;
      last = find.last;
      meets = find.meets;
      written = ap (λ (fs : Files). get fs log) said.files ∙ get-inserted contents.files log bytes;
      held = find.file.spelled;
      within_limit = find.file.within_limit;
      contents = said.said;
    }

pub hunts : (words : List (List ℕ)) (before after : DeskState) (code : ℕ) → IsServed (request_in words) before after code → HuntsFaithfully words before after code
hunts words before after code served quarry script log tries contents contents' asked zero tells tells' =
    let success = at_success words before after code contents contents' (leaves words before after code served) zero tells tells' in
    hunted quarry script log tries contents contents' success.answer (subst (λ request. Answers request (Some contents) success.answer) asked success.answers) success.done success.given
