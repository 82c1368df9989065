-- From what is served to what is promised of a script and a log.
use Rattle.std.proofs.Common.{◌≡◌, ◌≢◌, ◌∙◌, ◌⊎◌, ◌++◌, ℕ, List, Option, Some, None, Ok, false, inl, inr, ap, sym, refl, subst, arith}
use Rattle.octet_base.specs.Desk.{Contents, DeskState}
use Rattle.octet_model.specs.declared.outcome.Outcome.{Outcome}
use Rattle.octet_model.specs.Orders.{execution, lowest_order}
use Rattle.octet_model.specs.Texts.{outcome_text}
use Rattle.octet_replay.specs.declared.fault.ReplayFault.{ReplayFault}
use Rattle.octet_replay.specs.Fit.{IsOfScript, IsOfAnother}
use Rattle.octet_replay.specs.Line.{fit_line}
use Rattle.octet_replay.specs.Judged.{IsLawful}
use Rattle.octet_replay.proofs.lemmas.OneAnswer.{faithful}
use Rattle.octet_clock.specs.declared.verdict.Verdict.{Verdict}
use Rattle.octet_clock.specs.declared.verdict.Verdict.TheVariants as verdict
use Rattle.octet_clock.specs.Verified.{IsVerified}
use Rattle.octet_commands.specs.declared.inputs.Pair.{Pair}
use Rattle.octet_commands.specs.declared.request.PairTask.{PairTask}
use Rattle.octet_commands.specs.declared.request.PairTask.TheVariants.{Replay, Verify, Regions, Slice, Stop, Trace}
use Rattle.octet_commands.specs.declared.reply.Status.{Status}
use Rattle.octet_commands.specs.declared.reply.Status.TheVariants.{Done, Misfit, Unordered, Cycle, NoEvent}
use Rattle.octet_commands.specs.Answer.{Answer, code_of, says, verdict_said}
use Rattle.octet_commands.specs.Slices.{slice_line}
use Rattle.octet_commands.specs.Request.{Request, request_in}
use Rattle.octet_commands.specs.declared.request.Request.TheVariants.{OfPair}
use Rattle.octet_commands.specs.Inputs.{IsPairRead}
use Rattle.octet_commands.specs.Commands.{Answers, RequestAnswers, OutcomeSays, WhereOrdered, Answering, Matching, Fitting, PairSays, told_before}
use Rattle.octet_top.specs.Serving.{IsServed}
use Rattle.octet_commands.specs.Outputs.{IsWhole}
use Rattle.octet_top.specs.Promises.{IsOrderedPair, VerifiesOrdered, IsReplayedOnThreads, ReplaysOnThreads, IsFoundRegions, FindsRegions, RepeatsRecordings, IsSlicedPair, SlicesPasts, StopsAtFirst, TracesOrders, IsTracedMisfit, TracesMisfits}
use Rattle.octet_top.proofs.serving.Causes.{has_cause}
use Rattle.octet_top.proofs.serving.Due.{pair_single, not_of_another}
use Rattle.octet_top.proofs.serving.Effects.{leaves}
use Rattle.octet_top.proofs.serving.Promises.{Gives, at_status, at_success}
use Rattle.octet_commands.proofs.lemmas.Rows.{is_of_reading, not_of_reading, pair_unread}

-- script and log were taken, and are of each other, and this is said of them
record IsTold (Says : Pair → Answer → Type 0) (script log : List ℕ) (object : Option (List ℕ)) (contents : Option Contents) (answer : Answer) : Type 0 where
  pub pair : Pair
  pub read : IsPairRead script log object contents (Ok pair)
  pub of_script : IsOfScript pair.source.text pair.loaded.digest
  pub lawful : IsLawful pair.source.script pair.loaded.log.threads
  pub says : Says pair answer

-- an answer with another status than what is told has
other : (answer said : Answer) (status : Status) → answer ≡ said → answer.status ≡ status → said.status ≡ status
other answer said status is has = sym (ap (λ (a : Answer). a.status) is) ∙ has

-- the answers by a script and a log: this is said where the log fits, and this text where it does not
abbrev BothAnswer : (Says : Pair → Answer → Type 0) (misfit : Pair → ReplayFault → List ℕ) (script log : List ℕ) (object : Option (List ℕ)) → Option Contents → Answer → Type 0
BothAnswer Says misfit script log object contents answer =
    Answering (IsPairRead script log object contents) (λ pair. Matching (λ a. Fitting (λ fault. says Misfit (misfit pair fault)) (Says pair) pair.source.script pair.loaded.log.threads a) pair) answer

-- a status that is neither that of a reading nor that of a misfit comes of what is said where the log fits
told : (Says : Pair → Answer → Type 0) (misfit : Pair → ReplayFault → List ℕ) (script log : List ℕ) (object : Option (List ℕ)) (contents : Option Contents) (answer : Answer) (status : Status) → is_of_reading status ≡ false → Misfit ≢ status
    → BothAnswer Says misfit script log object contents answer → answer.status ≡ status → IsTold Says script log object contents answer
told Says misfit script log object contents answer status read fits (inl refused) is = absurd (not_of_reading answer status read (pair_unread script log object contents answer refused) is)
told Says misfit script log object contents answer status read fits (inr (pair, taken, inl (fault, another, said))) is = absurd (fits (other answer _ status said is))
told Says misfit script log object contents answer status read fits (inr (pair, taken, inr (own, inl (fault, memory, cause, said)))) is = absurd (fits (other answer _ status said is))
told Says misfit script log object contents answer status read fits (inr (pair, taken, inr (own, inr (lawful, of_pair)))) is = record { pair = pair; read = taken; of_script = own; lawful = lawful; says = of_pair }

-- what is told, of an ordered log
abbrev ordered_pair : {Says : Pair → Answer → Type 0} {script log : List ℕ} {contents : Option Contents} {answer : Answer} → (t : IsTold Says script log None contents answer) → IsVerified t.pair.source.script t.pair.loaded.log.threads verdict.Ordered
    → IsOrderedPair script log contents
ordered_pair t checked = record { pair = t.pair; read = t.read; of_script = t.of_script; lawful = t.lawful; ordered = checked.told.ordered.0 refl; one_outcome = checked.one_outcome refl }

-- the text that was said is that of what was told
said : (contents contents' : Contents) (answer told : Answer) → IsWhole answer contents contents' → answer ≡ told → contents'.said ≡ contents.said ++ told.text
said contents contents' answer told given is = given.said ∙ ap (λ (a : Answer). contents.said ++ a.text) is

module _ (words : List (List ℕ)) (before after : DeskState) (code : ℕ) (served : IsServed (request_in words) before after code) where
  -- what was told with a status, and was given whole
  record Told (Says : Pair → Answer → Type 0) (script log : List ℕ) (object : Option (List ℕ)) (status : Status) (contents contents' : Contents) : Type 0 where
    pub answer : Answer
    pub done : answer.status ≡ status
    pub given : IsWhole answer contents contents'
    pub is_told : IsTold Says script log object (Some contents) answer

  told_with : (Says : Pair → Answer → Type 0) (misfit : Pair → ReplayFault → List ℕ) (script log : List ℕ) (object : Option (List ℕ)) (status : Status) (contents contents' : Contents) → is_of_reading status ≡ false → Misfit ≢ status
      → (gives : Gives status words contents contents') → BothAnswer Says misfit script log object (Some contents) gives.answer → Told Says script log object status contents contents'
  told_with Says misfit script log object status contents contents' read fits gives answers =
      record { answer = gives.answer; done = gives.done; given = gives.given; is_told = told Says misfit script log object (Some contents) gives.answer status read fits answers gives.done }

  -- and of a task on a script and a log
  told_of : (task : PairTask) (script log : List ℕ) (object : Option (List ℕ)) (status : Status) (contents contents' : Contents) → is_of_reading status ≡ false → Misfit ≢ status
      → request_in words ≡ Some (OfPair task script log object) → Gives status words contents contents' → Told (PairSays task) script log object status contents contents'
  told_of task script log object status contents contents' read fits asked gives =
      told_with (PairSays task) (λ pair fault. told_before task pair fault ++ fit_line fault) script log object status contents contents' read fits gives
      (subst (λ (request : Option Request). Answers request (Some contents) gives.answer) asked gives.answers)

  told_done : (task : PairTask) (script log : List ℕ) (object : Option (List ℕ)) (contents contents' : Contents) → request_in words ≡ Some (OfPair task script log object) → code ≡ code_of Done → before.contents ≡ Some contents → after.contents ≡ Some contents'
      → Told (PairSays task) script log object Done contents contents'
  told_done task script log object contents contents' asked zero tells tells' =
      told_of task script log object Done contents contents' refl (λ e. cc) asked (at_success words before after code contents contents' (leaves words before after code served) zero tells tells')

  pub ordered : VerifiesOrdered words before code
  ordered script log asked zero =
      let (answer, answers, done) = has_cause words before after code served Done zero in
      by answer (told (PairSays Verify) (λ pair fault. told_before Verify pair fault ++ fit_line fault) script log None before.contents answer Done refl (λ e. cc) (subst (λ request. Answers request before.contents answer) asked answers) done) done
    where
      of_verdict : (answer : Answer) (t : IsTold (PairSays Verify) script log None before.contents answer) (v : Verdict) → IsVerified t.pair.source.script t.pair.loaded.log.threads v → answer ≡ verdict_said v → answer.status ≡ Done → IsOrderedPair script log before.contents
      of_verdict answer t verdict.Ordered checked is done = ordered_pair t checked
      of_verdict answer t (verdict.Unordered first second) checked is done = absurd (let never : Unordered ≡ Done = other answer (verdict_said (verdict.Unordered first second)) Done is done in cc)

      by : (answer : Answer) → IsTold (PairSays Verify) script log None before.contents answer → answer.status ≡ Done → IsOrderedPair script log before.contents
      by answer t done = of_verdict answer t t.says.0 t.says.1 t.says.2 done

  pub replays_on_threads : ReplaysOnThreads words before after code
  replays_on_threads script log contents contents' asked zero tells tells' =
      let gives = at_success words before after code contents contents' (leaves words before after code served) zero tells tells' in
      let t = told_with (λ pair. WhereOrdered (OutcomeSays pair) pair) (λ pair fault. fit_line fault) script log None Done contents contents' refl (λ e. cc) gives
      (subst (λ (request : Option Request). Answers request (Some contents) gives.answer) asked gives.answers) in
      by t t.is_told.says
    where
      by : (t : Told (λ pair. WhereOrdered (OutcomeSays pair) pair) script log None Done contents contents') → WhereOrdered (OutcomeSays t.is_told.pair) t.is_told.pair t.answer → IsReplayedOnThreads script log contents contents'
      by t (verdict.Ordered, checked, is) = record { of = ordered_pair t.is_told checked; contents = said contents contents' t.answer _ t.given is }
      by t (verdict.Unordered first second, checked, is) = absurd (let never : Unordered ≡ Done = other t.answer (verdict_said (verdict.Unordered first second)) Done is t.done in cc)

  -- an order or a cycle
  found : (status : Status) (script log : List ℕ) (contents contents' : Contents) → (status ≡ Done) ⊎ (status ≡ Cycle) → Told (PairSays Regions) script log None status contents contents' → IsFoundRegions script log contents contents' (code_of status)
  found status script log contents contents' sort t = by t t.is_told.says
    where
      neither : Unordered ≡ status → (status ≡ Done) ⊎ (status ≡ Cycle) → ⊥
      neither is (inl done) = let never : Unordered ≡ Done = is ∙ done in cc
      neither is (inr cycle) = let never : Unordered ≡ Cycle = is ∙ cycle in cc

      by : (t : Told (PairSays Regions) script log None status contents contents') → PairSays Regions t.is_told.pair t.answer → IsFoundRegions script log contents contents' (code_of status)
      by t (verdict.Ordered, checked, (serial, is_serial, shows, is)) = record {
        of = ordered_pair t.is_told checked;
        serial = serial;
        found = is_serial;
        shows = shows;
        status = ap code_of (sym (other t.answer _ status is t.done));
        contents = said contents contents' t.answer _ t.given is;
      }
      by t (verdict.Unordered first second, checked, is) = absurd (neither (other t.answer (verdict_said (verdict.Unordered first second)) status is t.done) sort)

  pub finds_regions : FindsRegions words before after code
  finds_regions script log contents contents' asked (inl zero) tells tells' =
      subst (IsFoundRegions script log contents contents') (sym zero) (found Done script log contents contents' (inl refl) (told_done Regions script log None contents contents' asked zero tells tells'))
  finds_regions script log contents contents' asked (inr ten) tells tells' =
      subst (IsFoundRegions script log contents contents') (sym ten) (found Cycle script log contents contents' (inr refl)
      (told_of Regions script log None Cycle contents contents' refl (λ e. cc) asked (at_status Cycle words before after code contents contents' (λ e. omega (arith, e)) (λ e. omega (arith, e)) (λ e. omega (arith, e)) (leaves words before after code served) ten tells tells')))

  pub repeats : RepeatsRecordings words before after code
  repeats script log contents contents' pair outcome asked zero tells tells' there recording =
      let t = told_done Replay script log None contents contents' asked zero tells tells' in
      let same : t.is_told.pair ≡ pair = (pair_single contents script log None).one t.is_told.pair pair t.is_told.read there in
      said contents contents' t.answer _ t.given t.is_told.says
      ∙ ap (λ (f : Pair). contents.said ++ outcome_text f.source.script (execution f.source.script f.loaded.log.threads (lowest_order f.source.script f.loaded.log.threads))) same
      ∙ ap (λ (o : Outcome). contents.said ++ outcome_text pair.source.script o) (faithful pair.source.script pair.loaded.log.threads outcome recording).1

  pub slices : SlicesPasts words before after code
  slices script log thread event contents contents' asked zero tells tells' = let t = told_done (Slice thread event) script log None contents contents' asked zero tells tells' in by t t.is_told.says
    where
      by : (t : Told (PairSays (Slice thread event)) script log None Done contents contents') → PairSays (Slice thread event) t.is_told.pair t.answer → IsSlicedPair script log thread event contents contents'
      by t (verdict.Ordered, checked, inr (sliced, has, slice, is)) = record { of = ordered_pair t.is_told checked; sliced = sliced; is_slice = slice; contents = said contents contents' t.answer _ t.given is }
      by t (verdict.Ordered, checked, inl (fault, memory, cause, is)) = absurd (let never : NoEvent ≡ Done = other t.answer (says NoEvent (slice_line fault)) Done is t.done in cc)
      by t (verdict.Unordered first second, checked, is) = absurd (let never : Unordered ≡ Done = other t.answer (verdict_said (verdict.Unordered first second)) Done is t.done in cc)

  pub stops : StopsAtFirst words before after code
  stops script log name value contents contents' asked zero tells tells' =
      let t = told_done (Stop value) script log (Some name) contents contents' asked zero tells tells' in
      record {
        pair = t.is_told.pair;
        read = t.is_told.read;
        of_script = t.is_told.of_script;
        lawful = t.is_told.lawful;
        found = t.is_told.says.0;
        is_found = t.is_told.says.1;
        contents = said contents contents' t.answer _ t.given t.is_told.says.2;
      }

  pub traces : TracesOrders words before after code
  traces script log contents contents' asked zero tells tells' =
      let t = told_done Trace script log None contents contents' asked zero tells tells' in
      record { pair = t.is_told.pair; read = t.is_told.read; of_script = t.is_told.of_script; lawful = t.is_told.lawful; contents = said contents contents' t.answer _ t.given t.is_told.says }

  pub traces_misfits : TracesMisfits words before after code
  traces_misfits script log contents contents' pair asked four tells tells' there own =
      let gives = at_status Misfit words before after code contents contents' (λ e. omega (arith, e)) (λ e. omega (arith, e)) (λ e. omega (arith, e)) (leaves words before after code served) four tells tells' in
      by gives.answer (subst (λ (request : Option Request). Answers request (Some contents) gives.answer) asked gives.answers) gives.done gives.given
    where
      same : (read : Pair) → IsPairRead script log None (Some contents) (Ok read) → read ≡ pair
      same read is = (pair_single contents script log None).one read pair is there

      by : (answer : Answer) → RequestAnswers (OfPair Trace script log None) (Some contents) answer → answer.status ≡ Misfit → IsWhole answer contents contents' → IsTracedMisfit script log contents contents'
      by answer (inl refused) is given = absurd (not_of_reading answer Misfit refl (pair_unread script log None (Some contents) answer refused) is)
      by answer (inr (read, taken, inl (fault, another, told))) is given = absurd (not_of_another pair.source.text pair.loaded.digest fault own (subst (λ (p : Pair). IsOfAnother p.source.text p.loaded.digest fault) (same read taken) another))
      by answer (inr (read, taken, inr (mine, inl (fault, memory, cause, told)))) is given = record { pair = read; read = taken; of_script = mine; fault = fault; not_memory = memory; cause = cause; contents = said contents contents' answer _ given told }
      by answer (inr (read, taken, inr (mine, inr (lawful, told)))) is given = absurd (let never = other answer _ Misfit told is in cc)
