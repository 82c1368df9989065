-- From what was read to the reply.
use Rattle.std.proofs.Common.{◌≡◌, ◌∙◌, ℕ, List, Option, None, Some, Result, Ok, Err, inl, inr, ap, refl, sym}
use Rattle.octet_base.specs.Desk.{Contents, DeskState}
use Rattle.octet_commands.specs.declared.inputs.Pair.{Pair}
use Rattle.octet_commands.specs.declared.reply.Reply.{Reply}
use Rattle.octet_commands.specs.declared.reply.Status.TheVariants.{Done, Read}
use Rattle.octet_commands.specs.declared.request.PairTask.{PairTask}
use Rattle.octet_commands.specs.declared.refusal.Refused.{Refused}
use Rattle.octet_commands.specs.declared.refusal.Refused.TheVariants.{Because, OutOfMemory}
use Rattle.octet_commands.specs.Answer.{Answer, answer_of, RefusesBy, IsAnswered, given_reply, wrong_script}
use Rattle.octet_log.specs.declared.loader.Loaded.{Loaded}
use Rattle.octet_replay.specs.declared.fitting.FitFault.{FitFault}
use Rattle.octet_replay.specs.Fit.{IsOfScript, IsOfAnother}
use Rattle.octet_model.specs.declared.limits.TheConstants.{MAX_LOG_FILE, MAX_SCRIPT_FILE}
use Rattle.octet_commands.specs.declared.inputs.Source.{Source}
use Rattle.octet_commands.specs.Request.{Way, Request, Claim, claimed_of, Quarry, named_by}
use Rattle.octet_commands.specs.declared.request.Request.TheVariants.{Tidy, Show, OfPair, Parallel, Convert, Run, Gen, Hunt, Outcomes, Always}
use Rattle.octet_commands.specs.Inputs.{IsScriptRead, IsLogRead, IsScriptChosen, IsPairRead, Ends, WasRefused, TakesOne, TakesBoth}
use Rattle.octet_commands.specs.Checked.{IsPairTaken, IsFittingTaken}
use Rattle.octet_commands.specs.Commands.{Answering, Answers, TidyAnswers, ShowAnswers, RunAnswers, RequestAnswers, Matching, PairReplays, ParallelReplays, Converts, IsGeneration, HuntAnswers, AlwaysAnswers}
use Rattle.octet_commands.specs.Outcomes.{OutcomesAnswers}
use Rattle.octet_commands.specs.Replies.{Finds, Replies, IsNoSuccess, TakesFiles}
use Rattle.octet_commands.proofs.lemmas.Steps.{as_short, both_as_short, one_keeps, both_keep}
use Rattle.octet_commands.proofs.lemmas.Rows.{Refuses, not_done, script_refused, chosen_refused, log_refused, pair_refused}

found_done : {T : Type 0} (Reading : Result T Answer → Type 0) (Reply' : T → Answer → Type 0) (input : T) (before after : ℕ) (result : Result Reply Refused)
    → Reading (Ok input) → after ≡ before → IsAnswered (Reply' input) result → Finds (Answering Reading Reply') before (given_reply result) after
found_done Reading Reply' input before after (Ok reply) read same answers = inl (inr (input, read, answers), same)
found_done Reading Reply' input before after (Err (Because reply)) read same answers = inl (inr (input, read, answers), same)
found_done Reading Reply' input before after (Err OutOfMemory) read same answers = tt

found_refused : {T : Type 0} (Reading : Result T Answer → Type 0) (Reply' : T → Answer → Type 0) (before after : ℕ) (stop : Refused)
    → Ends Reading before (Err stop) after → Finds (Answering Reading Reply') before (given_reply (Err stop)) after
found_refused Reading Reply' before after (Because reply) (inl (refused, same)) = inl (inl refused, same)
found_refused Reading Reply' before after (Because reply) (inr failed) = inr failed
found_refused Reading Reply' before after OutOfMemory ends = tt

pub is_short : {T : Type 0} (Reading : Result T Answer → Type 0) → ((answer : Answer) → Reading (Err answer) → Refuses answer) → (before after : ℕ) (stop : Refused) → Ends Reading before (Err stop) after → IsNoSuccess (given_reply (Err stop))
is_short Reading short before after (Because reply) (inl (refused, same)) = not_done (answer_of reply) (short (answer_of reply) refused)
is_short Reading short before after (Because reply) (inr (is, rose)) = λ done. (let both : Read ≡ Done = ap (λ (a : Answer). a.status) (sym is) ∙ done in cc)
is_short Reading short before after OutOfMemory ends = tt

as_found : (A B : Answer → Type 0) → ((answer : Answer) → A answer → B answer) → (before after : ℕ) (reply : Option Reply) → Finds A before reply after → Finds B before reply after
as_found A B on before after (Some reply) (inl (answers, same)) = inl (on (answer_of reply) answers, same)
as_found A B on before after (Some reply) (inr failed) = inr failed
as_found A B on before after None found = tt

-- a request that takes one file
module _ (request : Request) (name : List ℕ) (limit : ℕ) (T : Type 0) (Reading : Option Contents → Result T Answer → Type 0) (Reply' : T → Answer → Type 0)
    (takes : (Short : Type 0) (before after : DeskState) → TakesOne name limit Short before after → TakesFiles (Some request) Short before after)
    (answers_it : (contents : Option Contents) (answer : Answer) → Answering (Reading contents) Reply' answer → RequestAnswers request contents answer)
    (refuses_it : (contents : Option Contents) (answer : Answer) → Reading contents (Err answer) → Refuses answer) where
  pub one_read : (before after : DeskState) (input : T) (result : Result Reply Refused) → Ends (Reading before.contents) before.take_faults (Ok input) after.take_faults → TakesOne name limit (WasRefused {T = T} {E = Refused} (Ok input)) before after
      → IsAnswered (Reply' input) result → Replies (Some request) before (given_reply result) after
  one_read before after input result ends calls answers = record {
    found = as_found (Answering (Reading before.contents) Reply') (RequestAnswers request before.contents) (answers_it before.contents) _ _ (given_reply result) (found_done (Reading before.contents) Reply' input _ _ result ends.0 ends.1 answers);
    calls = takes (IsNoSuccess (given_reply result)) before after (as_short name limit ⊥ (IsNoSuccess (given_reply result)) before after (λ never. absurd never) calls);
    begun = (one_keeps name limit ⊥ before after calls).0;
    write_faults = (one_keeps name limit ⊥ before after calls).1;
  }

  pub one_stops : (before after : DeskState) (stop : Refused) → Ends (Reading before.contents) before.take_faults (Err stop) after.take_faults → TakesOne name limit (WasRefused {T = T} (Err stop)) before after → Replies (Some request) before (given_reply (Err stop)) after
  one_stops before after stop ends calls = record {
    found = as_found (Answering (Reading before.contents) Reply') (RequestAnswers request before.contents) (answers_it before.contents) _ _ (given_reply (Err stop)) (found_refused (Reading before.contents) Reply' _ _ stop ends);
    calls = takes (IsNoSuccess (given_reply (Err stop))) before after
        (as_short name limit (Unit {0}) (IsNoSuccess (given_reply (Err stop))) before after (λ refused. is_short (Reading before.contents) (refuses_it before.contents) _ _ stop ends) calls);
    begun = (one_keeps name limit (Unit {0}) before after calls).0;
    write_faults = (one_keeps name limit (Unit {0}) before after calls).1;
  }

-- a script alone, a log alone, and runs of a script
module _ (script : List ℕ) where
  pub script_read : (before after : DeskState) (input : Source) (result : Result Reply Refused) → Ends (IsScriptRead script before.contents) before.take_faults (Ok input) after.take_faults → TakesOne script MAX_SCRIPT_FILE (WasRefused {T = Source} {E = Refused} (Ok input)) before after
      → IsAnswered (TidyAnswers input) result → Replies (Some (Tidy script)) before (given_reply result) after
  script_read = one_read (Tidy script) script MAX_SCRIPT_FILE Source (IsScriptRead script) TidyAnswers (λ short before after calls. calls) (λ contents answer answers. answers) (script_refused script)

  pub script_stops : (before after : DeskState) (stop : Refused) → Ends (IsScriptRead script before.contents) before.take_faults (Err stop) after.take_faults → TakesOne script MAX_SCRIPT_FILE (WasRefused {T = Source} (Err stop)) before after → Replies (Some (Tidy script)) before (given_reply (Err stop)) after
  script_stops = one_stops (Tidy script) script MAX_SCRIPT_FILE Source (IsScriptRead script) TidyAnswers (λ short before after calls. calls) (λ contents answer answers. answers) (script_refused script)

module _ (log : List ℕ) where
  pub log_read : (before after : DeskState) (input : Loaded) (result : Result Reply Refused) → Ends (IsLogRead log before.contents) before.take_faults (Ok input) after.take_faults → TakesOne log MAX_LOG_FILE (WasRefused {T = Loaded} {E = Refused} (Ok input)) before after
      → IsAnswered (ShowAnswers input) result → Replies (Some (Show log)) before (given_reply result) after
  log_read = one_read (Show log) log MAX_LOG_FILE Loaded (IsLogRead log) ShowAnswers (λ short before after calls. calls) (λ contents answer answers. answers) (log_refused log)

  pub log_stops : (before after : DeskState) (stop : Refused) → Ends (IsLogRead log before.contents) before.take_faults (Err stop) after.take_faults → TakesOne log MAX_LOG_FILE (WasRefused {T = Loaded} (Err stop)) before after → Replies (Some (Show log)) before (given_reply (Err stop)) after
  log_stops = one_stops (Show log) log MAX_LOG_FILE Loaded (IsLogRead log) ShowAnswers (λ short before after calls. calls) (λ contents answer answers. answers) (log_refused log)

module _ (way : Way) (script log : List ℕ) where
  pub run_read : (before after : DeskState) (input : Source) (result : Result Reply Refused) → Ends (IsScriptRead script before.contents) before.take_faults (Ok input) after.take_faults → TakesOne script MAX_SCRIPT_FILE (WasRefused {T = Source} {E = Refused} (Ok input)) before after
      → IsAnswered (RunAnswers way log input) result → Replies (Some (Run way script log)) before (given_reply result) after
  run_read = one_read (Run way script log) script MAX_SCRIPT_FILE Source (IsScriptRead script) (RunAnswers way log) (λ short before after calls. calls) (λ contents answer answers. answers) (script_refused script)

  pub run_stops : (before after : DeskState) (stop : Refused) → Ends (IsScriptRead script before.contents) before.take_faults (Err stop) after.take_faults → TakesOne script MAX_SCRIPT_FILE (WasRefused {T = Source} (Err stop)) before after → Replies (Some (Run way script log)) before (given_reply (Err stop)) after
  run_stops = one_stops (Run way script log) script MAX_SCRIPT_FILE Source (IsScriptRead script) (RunAnswers way log) (λ short before after calls. calls) (λ contents answer answers. answers) (script_refused script)

module _ (quarry : Quarry) (script log : List ℕ) (tries : ℕ) where
  pub hunt_read : (before after : DeskState) (input : Source × Option ℕ) (result : Result Reply Refused) → Ends (IsScriptChosen script (named_by quarry) before.contents) before.take_faults (Ok input) after.take_faults
      → TakesOne script MAX_SCRIPT_FILE (WasRefused {T = Source × Option ℕ} {E = Refused} (Ok input)) before after → IsAnswered (HuntAnswers quarry log tries input) result → Replies (Some (Hunt quarry script log tries)) before (given_reply result) after
  hunt_read =
      one_read (Hunt quarry script log tries) script MAX_SCRIPT_FILE (Source × Option ℕ) (IsScriptChosen script (named_by quarry)) (HuntAnswers quarry log tries) (λ short before after calls. calls) (λ contents answer answers. answers)
      (chosen_refused script (named_by quarry))

  pub hunt_stops : (before after : DeskState) (stop : Refused) → Ends (IsScriptChosen script (named_by quarry) before.contents) before.take_faults (Err stop) after.take_faults
      → TakesOne script MAX_SCRIPT_FILE (WasRefused {T = Source × Option ℕ} (Err stop)) before after → Replies (Some (Hunt quarry script log tries)) before (given_reply (Err stop)) after
  hunt_stops =
      one_stops (Hunt quarry script log tries) script MAX_SCRIPT_FILE (Source × Option ℕ) (IsScriptChosen script (named_by quarry)) (HuntAnswers quarry log tries) (λ short before after calls. calls) (λ contents answer answers. answers)
      (chosen_refused script (named_by quarry))

-- all final heaps of a script, and a claim of them
module _ (script : List ℕ) (most : ℕ) where
  pub outcomes_read : (before after : DeskState) (input : Source) (result : Result Reply Refused) → Ends (IsScriptRead script before.contents) before.take_faults (Ok input) after.take_faults → TakesOne script MAX_SCRIPT_FILE (WasRefused {T = Source} {E = Refused} (Ok input)) before after
      → IsAnswered (OutcomesAnswers input.script most) result → Replies (Some (Outcomes script most)) before (given_reply result) after
  outcomes_read = one_read (Outcomes script most) script MAX_SCRIPT_FILE Source (IsScriptRead script) (λ source. OutcomesAnswers source.script most) (λ short before after calls. calls) (λ contents answer answers. answers) (script_refused script)

  pub outcomes_stop : (before after : DeskState) (stop : Refused) → Ends (IsScriptRead script before.contents) before.take_faults (Err stop) after.take_faults → TakesOne script MAX_SCRIPT_FILE (WasRefused {T = Source} (Err stop)) before after → Replies (Some (Outcomes script most)) before (given_reply (Err stop)) after
  outcomes_stop = one_stops (Outcomes script most) script MAX_SCRIPT_FILE Source (IsScriptRead script) (λ source. OutcomesAnswers source.script most) (λ short before after calls. calls) (λ contents answer answers. answers) (script_refused script)

module _ (claim : Claim) (script log : List ℕ) (most : ℕ) where
  pub always_read : (before after : DeskState) (input : Source × Option ℕ) (result : Result Reply Refused) → Ends (IsScriptChosen script (claimed_of claim) before.contents) before.take_faults (Ok input) after.take_faults
      → TakesOne script MAX_SCRIPT_FILE (WasRefused {T = Source × Option ℕ} {E = Refused} (Ok input)) before after → IsAnswered (AlwaysAnswers claim log input) result → Replies (Some (Always claim script log most)) before (given_reply result) after
  always_read =
      one_read (Always claim script log most) script MAX_SCRIPT_FILE (Source × Option ℕ) (IsScriptChosen script (claimed_of claim)) (AlwaysAnswers claim log) (λ short before after calls. calls) (λ contents answer answers. answers)
      (chosen_refused script (claimed_of claim))

  pub always_stops : (before after : DeskState) (stop : Refused) → Ends (IsScriptChosen script (claimed_of claim) before.contents) before.take_faults (Err stop) after.take_faults
      → TakesOne script MAX_SCRIPT_FILE (WasRefused {T = Source × Option ℕ} (Err stop)) before after → Replies (Some (Always claim script log most)) before (given_reply (Err stop)) after
  always_stops =
      one_stops (Always claim script log most) script MAX_SCRIPT_FILE (Source × Option ℕ) (IsScriptChosen script (claimed_of claim)) (AlwaysAnswers claim log) (λ short before after calls. calls) (λ contents answer answers. answers)
      (chosen_refused script (claimed_of claim))

-- the log is of another script, which is said
another_script : (Next : Answer → Type 0) (pair : Pair) (fault : FitFault) (stop : Refused) → IsOfAnother pair.source.text pair.loaded.digest fault → RefusesBy (λ answer. answer ≡ wrong_script fault) stop → IsAnswered (Matching Next pair) (Err stop)
another_script Next pair fault (Because reply) other said = inl (fault, other, said)
another_script Next pair fault OutOfMemory other said = tt

-- or it is not, and the command goes on
same_script : (Next : Answer → Type 0) (pair : Pair) (result : Result Reply Refused) → IsOfScript pair.source.text pair.loaded.digest → IsAnswered Next result → IsAnswered (Matching Next pair) result
same_script Next pair (Ok reply) of says = inr (of, says)
same_script Next pair (Err (Because reply)) of says = inr (of, says)
same_script Next pair (Err OutOfMemory) of says = tt

-- a request that takes a script and a log
module _ (request : Request) (script log : List ℕ) (object : Option (List ℕ)) (Next : Pair → Answer → Type 0)
    (takes : (Short : Type 0) (before after : DeskState) → TakesBoth script log object Short before after → TakesFiles (Some request) Short before after)
    (answers_it : (contents : Option Contents) (answer : Answer) → Answering (IsPairRead script log object contents) (λ pair. Matching (Next pair) pair) answer → RequestAnswers request contents answer) where
  taken_both : (before after : DeskState) (pair : Pair) (result : Result Reply Refused) → IsPairTaken script log object before (Ok pair) after → IsAnswered (Matching (Next pair) pair) result → Replies (Some request) before (given_reply result) after
  taken_both before after pair result taken answers = record {
    found = as_found (Answering (IsPairRead script log object before.contents) (λ pair. Matching (Next pair) pair)) (RequestAnswers request before.contents) (answers_it before.contents) _ _ (given_reply result)
        (found_done (IsPairRead script log object before.contents) (λ pair. Matching (Next pair) pair) pair _ _ result taken.ends.0 taken.ends.1 answers);
    calls = takes (IsNoSuccess (given_reply result)) before after (both_as_short script log object ⊥ (IsNoSuccess (given_reply result)) before after (λ never. absurd never) taken.calls);
    begun = (both_keep script log object ⊥ before after taken.calls).0;
    write_faults = (both_keep script log object ⊥ before after taken.calls).1;
  }

  stopped_both : (before after : DeskState) (stop : Refused) → IsPairTaken script log object before (Err stop) after → Replies (Some request) before (given_reply (Err stop)) after
  stopped_both before after stop taken = record {
    found = as_found (Answering (IsPairRead script log object before.contents) (λ pair. Matching (Next pair) pair)) (RequestAnswers request before.contents) (answers_it before.contents) _ _ (given_reply (Err stop))
        (found_refused (IsPairRead script log object before.contents) (λ pair. Matching (Next pair) pair) _ _ stop taken.ends);
    calls = takes (IsNoSuccess (given_reply (Err stop))) before after (both_as_short script log object (Unit {0}) (IsNoSuccess (given_reply (Err stop))) before after
        (λ refused. is_short (IsPairRead script log object before.contents) (pair_refused script log object before.contents) _ _ stop taken.ends) taken.calls);
    begun = (both_keep script log object (Unit {0}) before after taken.calls).0;
    write_faults = (both_keep script log object (Unit {0}) before after taken.calls).1;
  }

  two_read : (before after : DeskState) (pair : Pair) (result : Result Reply Refused) → IsFittingTaken script log object before (Ok pair) after → IsAnswered (Next pair) result → Replies (Some request) before (given_reply result) after
  two_read before after pair result taken says = taken_both before after pair result taken.0 (same_script (Next pair) pair result taken.1 says)

  two_stop : (before after : DeskState) (stop : Refused) → IsFittingTaken script log object before (Err stop) after → Replies (Some request) before (given_reply (Err stop)) after
  two_stop before after stop (inl taken) = stopped_both before after stop taken
  two_stop before after stop (inr (pair, fault, taken, other, said)) = taken_both before after pair (Err stop) taken (another_script (Next pair) pair fault stop other said)

module _ (task : PairTask) (script log : List ℕ) (object : Option (List ℕ)) where
  pub both_read : (before after : DeskState) (pair : Pair) (result : Result Reply Refused) → IsFittingTaken script log object before (Ok pair) after → IsAnswered (PairReplays task pair) result → Replies (Some (OfPair task script log object)) before (given_reply result) after
  both_read = two_read (OfPair task script log object) script log object (PairReplays task) (λ short before after calls. calls) (λ contents answer answers. answers)

  pub both_stop : (before after : DeskState) (stop : Refused) → IsFittingTaken script log object before (Err stop) after → Replies (Some (OfPair task script log object)) before (given_reply (Err stop)) after
  both_stop = two_stop (OfPair task script log object) script log object (PairReplays task) (λ short before after calls. calls) (λ contents answer answers. answers)

module _ (script log : List ℕ) where
  pub parallel_read : (before after : DeskState) (pair : Pair) (result : Result Reply Refused) → IsFittingTaken script log None before (Ok pair) after → IsAnswered (ParallelReplays pair) result → Replies (Some (Parallel script log)) before (given_reply result) after
  parallel_read = two_read (Parallel script log) script log None ParallelReplays (λ short before after calls. calls) (λ contents answer answers. answers)

  pub parallel_stop : (before after : DeskState) (stop : Refused) → IsFittingTaken script log None before (Err stop) after → Replies (Some (Parallel script log)) before (given_reply (Err stop)) after
  parallel_stop = two_stop (Parallel script log) script log None ParallelReplays (λ short before after calls. calls) (λ contents answer answers. answers)

module _ (script log out : List ℕ) where
  pub conversion_read : (before after : DeskState) (pair : Pair) (result : Result Reply Refused) → IsFittingTaken script log None before (Ok pair) after → IsAnswered (Converts out pair) result → Replies (Some (Convert script log out)) before (given_reply result) after
  conversion_read = two_read (Convert script log out) script log None (Converts out) (λ short before after calls. calls) (λ contents answer answers. answers)

  pub conversion_stop : (before after : DeskState) (stop : Refused) → IsFittingTaken script log None before (Err stop) after → Replies (Some (Convert script log out)) before (given_reply (Err stop)) after
  conversion_stop = two_stop (Convert script log out) script log None (Converts out) (λ short before after calls. calls) (λ contents answer answers. answers)

-- a reply that no file is taken for
pub generated_reply : (number : ℕ) (script log : List ℕ) (before : DeskState) (result : Result Reply Refused)
    → IsAnswered (IsGeneration number script log) result → Replies (Some (Gen number script log)) before (given_reply result) before
generated_reply number script log before result answers = record { found = found result answers; calls = refl; begun = refl; write_faults = refl }
  where
    found : (result : Result Reply Refused) → IsAnswered (IsGeneration number script log) result → Finds (Answers (Some (Gen number script log)) before.contents) before.take_faults (given_reply result) before.take_faults
    found (Ok reply) answers = inl (answers, refl)
    found (Err (Because reply)) answers = inl (answers, refl)
    found (Err OutOfMemory) answers = tt
