-- From what is served to the cause of its status.
use Rattle.std.proofs.Common.{◌≡◌, ◌≢◌, ◌∙◌, ◌⊎◌, ◌++◌, ℕ, List, [], ◌∷◌, Option, None, Some, IsErrOf, Result, Ok, Err, true, inl, inr, ap, sym, refl, subst, map, append_assoc, get_or, arith}
use Rattle.octet_base.specs.Desk.{Contents, DeskState, Rose, IsCounted, IsWriteAnswer}
use Rattle.octet_base.specs.declared.fault.DeskFault.{DeskFault}
use Rattle.octet_base.specs.declared.fault.DeskFault.TheVariants as fault
use Rattle.sha2.specs.Sha256.{sha256}
use Rattle.std.specs.Global.{Vec}
use Rattle.octet_model.specs.Texts.{outcome_text}
use Rattle.octet_log.specs.v2.Pieces.{pieced_bytes}
use Rattle.octet_commands.specs.declared.reply.Reply.{Reply}
use Rattle.octet_commands.specs.declared.reply.Status.{Status}
use Rattle.octet_commands.specs.declared.reply.Status.TheVariants as exit
use Rattle.octet_commands.specs.Answer.{Answer, answer_of, code_of, read_failed, writes_file}
use Rattle.octet_commands.specs.Request.{Request, request_in}
use Rattle.octet_commands.specs.declared.request.Request.TheVariants.{Tidy, Show, Marks, OfPair, Parallel, Convert, Run, Gen, Hunt, Outcomes, Always}
use Rattle.octet_commands.specs.declared.request.Way.TheVariants.{AsTheyCome, BehindLock, ByPicks}
use Rattle.octet_commands.specs.Commands.{Answers, IsAnswer}
use Rattle.octet_commands.specs.Replies.{Replies, TakesFiles}
use Rattle.octet_commands.specs.Delivery.{Act, Begin, Add, Finish, Say, Does, Makes, IsRefused, acts_of, code_given, IsGiven}
use Rattle.octet_top.specs.Live.{MakesSome, IsToldLive, IsWrittenLive, IsRunLive}
use Rattle.octet_top.proofs.writing.Parts.{log_parts, parts_acts}
use Rattle.octet_top.proofs.writing.LiveMade.{log_some, refused_log}
use Rattle.octet_commands.specs.Serving.{IsReplied}
use Rattle.octet_top.specs.Serving.{IsServed}
use Rattle.octet_top.specs.Effects.{AsksRun, LeavesLog, SaysFailed}
use Rattle.octet_commands.specs.Marks.{IsFileFound, IsFileCut, WhereTold, MarksEnding, SaidWhole, SayFailed, MemoryRefused}
use Rattle.octet_commands.specs.Inputs.{IsScriptRead}
use Rattle.octet_top.specs.Causes.{IsCause}
use Rattle.octet_commands.specs.Outputs.{IsPartlyWritten, IsWhole, IsCutShort}
use Rattle.octet_commands.proofs.lemmas.Holding.{Holds, some_is, held_called}
use Rattle.octet_top.proofs.writing.Left.{IsLeft, some_of, joined, taken_held, answer_left, told_left, cut_left}
use Rattle.octet_top.proofs.writing.LiveFiles.{parts_joined, live_file}
use Rattle.octet_commands.proofs.lemmas.Rows.{is_refusal, answers_row}

-- the status of a code
abbrev pub of_code : ℕ → Status
of_code code = get_or (exit.Done ∷ exit.Words ∷ exit.Script ∷ exit.Log ∷ exit.Misfit ∷ exit.Read ∷ exit.Write ∷ exit.Memory ∷ exit.TooLong ∷ exit.Unordered ∷ exit.Cycle ∷ exit.NoEvent ∷ exit.NotFound ∷ exit.NotAll ∷ exit.Otherwise ∷ []) code exit.Done

-- codes differ
pub decoded : (status : Status) → of_code (code_of status) ≡ status
decoded exit.Done = refl
decoded exit.Words = refl
decoded exit.Script = refl
decoded exit.Log = refl
decoded exit.Misfit = refl
decoded exit.Read = refl
decoded exit.Write = refl
decoded exit.Memory = refl
decoded exit.TooLong = refl
decoded exit.Unordered = refl
decoded exit.Cycle = refl
decoded exit.NoEvent = refl
decoded exit.NotFound = refl
decoded exit.NotAll = refl
decoded exit.Otherwise = refl

pub same_status : (status other : Status) → code_of status ≡ code_of other → status ≡ other
same_status status other is = sym (decoded status) ∙ ap of_code is ∙ decoded other

-- what calls that write or say count
record Counts (result : Result (Unit {0}) DeskFault) (before after : DeskState) : Type 0 where
  takes : after.take_faults ≡ before.take_faults
  answer : IsWriteAnswer result
  writes : IsCounted result before.write_faults after.write_faults

does_count : (act : Act) (before : DeskState) (result : Result (Unit {0}) DeskFault) (after : DeskState) → Does act before result after → Counts result before after
does_count (Begin name) before result after does = record { takes = does.take_faults; answer = does.answer; writes = does.write_faults }
does_count (Add bytes) before result after does = record { takes = does.take_faults; answer = does.answer; writes = does.write_faults }
does_count Finish before result after does = record { takes = does.take_faults; answer = does.answer; writes = does.write_faults }
does_count (Say bytes) before result after does = record { takes = does.take_faults; answer = does.answer; writes = does.write_faults }

is_failed : (f : DeskFault) → IsErrOf {T = Unit {0}} (Err f) fault.Failed → f ≡ fault.Failed
is_failed f is = cc

nothing_counts : (result : Result (Unit {0}) DeskFault) (before after : DeskState) → after ≡ before → IsWriteAnswer result → (result ≢ Err fault.Failed) → Counts result before after
nothing_counts result before after is answer well = rw is (record { takes = refl; answer = answer; writes = record { stays = λ e. refl; rose = failed result well; once = omega arith; later = omega arith } })
  where
    failed : (result : Result (Unit {0}) DeskFault) → result ≢ Err fault.Failed → IsErrOf result fault.Failed → Rose before.write_faults before.write_faults
    failed (Ok done) well never = cc
    failed (Err fault.Failed) well is = absurd (well refl)
    failed (Err f) well is = absurd (well (ap (λ (g : DeskFault). Err g) (is_failed f is)))

some_count : (acts : List Act) (before : DeskState) (result : Result (Unit {0}) DeskFault) (after : DeskState) → MakesSome acts before result after → Counts result before after
some_count [] before result after (ok, is) = rw ok (nothing_counts (Ok tt) before after is (record { not_too_long = λ e. cc; not_absent = λ e. cc }) (λ e. cc))
some_count (act ∷ acts) before result after (inl (memory, is)) = rw memory (nothing_counts (Err fault.OutOfMemory) before after is (record { not_too_long = λ e. cc; not_absent = λ e. cc }) (λ e. cc))
some_count (act ∷ acts) before result after (inr (inl (refused, does))) = does_count act before result after does
some_count (act ∷ acts) before result after (inr (inr (mid, does, makes))) =
    let first = does_count act before (Ok tt) mid does in
    let rest = some_count acts mid result after makes in
    record { takes = rest.takes ∙ first.takes; answer = rest.answer; writes = subst (λ n. IsCounted result n after.write_faults) (first.writes.stays (λ e. cc)) rest.writes }

makes_count : (acts : List Act) (before : DeskState) (result : Result (Unit {0}) DeskFault) (after : DeskState) → Makes acts before result after → Counts result before after
makes_count acts before result after makes = some_count acts before result after (some_of acts before result after makes)

-- the words' answer, and no take failed; or a take failed, and that is the answer
abbrev pub IsFound : List (List ℕ) → DeskState → DeskState → Answer → Type 0
IsFound words before after answer =
    (IsAnswer words before.contents answer × (after.take_faults ≡ before.take_faults)) ⊎ (SaysFailed (request_in words) before.contents answer × Rose before.take_faults after.take_faults)

-- so much is left of what was begun: of an answer, or of the log of a run
abbrev pub IsShort : List (List ℕ) → DeskState → DeskState → Contents → Contents → Type 0
IsShort words before after t t' = ((answer : Answer) × IsFound words before after answer × IsCutShort answer t t') ⊎ LeavesLog words t t'

-- how serving ends: an answer was given whole; or a call that gives it failed; or memory was refused. Where the desk tells its contents, so much is left
pub data Ending (words : List (List ℕ)) (before after : DeskState) (code : ℕ) : Type 0 where
  Whole : (answer : Answer) → IsFound words before after answer → code ≡ code_of answer.status → after.write_faults ≡ before.write_faults → WhereTold before after (IsWhole answer) → Ending words before after code
  CutShort : code ≡ code_of exit.Write → Rose before.write_faults after.write_faults → WhereTold before after (IsShort words before after) → Ending words before after code
  Lacking : code ≡ code_of exit.Memory → (after.write_faults ≡ before.write_faults) ⊎ AsksRun words → WhereTold before after (λ t t'. ((t'.files ≡ t.files) × (t'.said ≡ t.said)) ⊎ IsShort words before after t t') → Ending words before after code

-- of an answer that was found and given
given_ends : (words : List (List ℕ)) (before mid after : DeskState) (code : ℕ) (answer : Answer) (made : Result (Unit {0}) DeskFault) → IsFound words before after answer → mid.write_faults ≡ before.write_faults → Counts made mid after
    → WhereTold before after (IsLeft answer made) → code ≡ code_given answer.status made → Ending words before after code
given_ends words before mid after code answer (Ok tt) found kept counts left is = Whole answer found is (counts.writes.stays (λ e. cc) ∙ kept) left
given_ends words before mid after code answer (Err fault.OutOfMemory) found kept counts left is = Lacking is (inl (counts.writes.stays (λ e. cc) ∙ kept)) (λ t t' tells tells'. inr (inl (answer, found, left t t' tells tells')))
given_ends words before mid after code answer (Err fault.Failed) found kept counts left is = CutShort is (rw (← kept) (counts.writes.rose refl)) (λ t t' tells tells'. inl (answer, found, left t t' tells tells'))
given_ends words before mid after code answer (Err fault.Absent) found kept counts left is = absurd (counts.answer.not_absent refl)
given_ends words before mid after code answer (Err fault.TooLong) found kept counts left is = absurd (counts.answer.not_too_long refl)

-- of the log of a run that was cut
cut_ends : (words : List (List ℕ)) (before mid after : DeskState) (code : ℕ) (made : Result (Unit {0}) DeskFault) → IsRefused made → mid.write_faults ≡ before.write_faults → Counts made mid after → WhereTold before after (LeavesLog words) → code ≡ code_given exit.Done made
    → Ending words before after code
cut_ends words before mid after code (Ok tt) refused kept counts left is = absurd refused
cut_ends words before mid after code (Err fault.OutOfMemory) refused kept counts left is = Lacking is (inl (counts.writes.stays (λ e. cc) ∙ kept)) (λ t t' tells tells'. inr (inr (left t t' tells tells')))
cut_ends words before mid after code (Err fault.Failed) refused kept counts left is = CutShort is (rw (← kept) (counts.writes.rose refl)) (λ t t' tells tells'. inr (left t t' tells tells'))
cut_ends words before mid after code (Err fault.Absent) refused kept counts left is = absurd (counts.answer.not_absent refl)
cut_ends words before mid after code (Err fault.TooLong) refused kept counts left is = absurd (counts.answer.not_too_long refl)

-- a reply says that reading failed, and nothing before
replied_failed : (request : Option Request) (Short : Type 0) (before mid : DeskState) (answer : Answer) → TakesFiles request Short before mid → answer ≡ read_failed → SaysFailed request before.contents answer
replied_failed None Short before mid answer takes is = is
replied_failed (Some (Tidy script)) Short before mid answer takes is = is
replied_failed (Some (Show log)) Short before mid answer takes is = is
replied_failed (Some (Marks file)) Short before mid answer never is = absurd never
replied_failed (Some (OfPair task script log object)) Short before mid answer takes is = is
replied_failed (Some (Parallel script log)) Short before mid answer takes is = is
replied_failed (Some (Convert script log out)) Short before mid answer takes is = is
replied_failed (Some (Run task script log)) Short before mid answer takes is = is
replied_failed (Some (Gen number script log)) Short before mid answer takes is = is
replied_failed (Some (Hunt quarry script log tries)) Short before mid answer takes is = is
replied_failed (Some (Outcomes script most)) Short before mid answer takes is = is
replied_failed (Some (Always claim script log most)) Short before mid answer takes is = is

-- an answer that says so has the status of it, and writes nothing
pub record Failed (answer : Answer) : Type 0 where
  pub status : answer.status ≡ exit.Read
  pub files : answer.files ≡ []

failed_by : (answer said : Answer) → answer ≡ said → said.status ≡ exit.Read → said.files ≡ [] → Failed answer
failed_by answer said is status files = record { status = ap (λ (a : Answer). a.status) is ∙ status; files = ap (λ (a : Answer). a.files) is ∙ files }

pub says_failed : (request : Option Request) (contents : Option Contents) (answer : Answer) → SaysFailed request contents answer → Failed answer
says_failed None contents answer is = failed_by answer read_failed is refl refl
says_failed (Some (Tidy script)) contents answer is = failed_by answer read_failed is refl refl
says_failed (Some (Show log)) contents answer is = failed_by answer read_failed is refl refl
says_failed (Some (Marks file)) contents answer (inl is) = failed_by answer read_failed is refl refl
says_failed (Some (Marks file)) contents answer (inr (bytes, pieces, stands, there, reads, is)) = failed_by answer _ is refl refl
says_failed (Some (OfPair task script log object)) contents answer is = failed_by answer read_failed is refl refl
says_failed (Some (Parallel script log)) contents answer is = failed_by answer read_failed is refl refl
says_failed (Some (Convert script log out)) contents answer is = failed_by answer read_failed is refl refl
says_failed (Some (Run task script log)) contents answer is = failed_by answer read_failed is refl refl
says_failed (Some (Gen number script log)) contents answer is = failed_by answer read_failed is refl refl
says_failed (Some (Hunt quarry script log tries)) contents answer is = failed_by answer read_failed is refl refl
says_failed (Some (Outcomes script most)) contents answer is = failed_by answer read_failed is refl refl
says_failed (Some (Always claim script log most)) contents answer is = failed_by answer read_failed is refl refl

module _ (words : List (List ℕ)) (before after : DeskState) (code : ℕ) where
  replied_ends : IsReplied (request_in words) before after code → Ending words before after code
  replied_ends served = by served.reply served.found served.given
    where
      held : (reply : Option Reply) (t : Contents) → Replies (request_in words) before reply served.mid → before.contents ≡ Some t → Holds t.files t.said served.mid
      held reply t replies tells = taken_held (request_in words) _ t.files t.said before served.mid (record { contents = t; tells = tells; files_are = refl; said_is = refl }) replies.calls

      found : (reply : Reply) → Replies (request_in words) before (Some reply) served.mid → after.take_faults ≡ served.mid.take_faults → IsFound words before after (answer_of reply)
      found reply replies kept = elim replies.found [
        | inl (answers, same) ↦ inl (answers, kept ∙ same)
        | inr (said, rose) ↦ inr (replied_failed (request_in words) _ before served.mid (answer_of reply) replies.calls said, rw kept rose)
      ]

      by : (reply : Option Reply) → Replies (request_in words) before reply served.mid → IsGiven reply served.mid after code → Ending words before after code
      by (Some reply) replies (made, makes, is) =
          let counts = makes_count (acts_of (answer_of reply)) served.mid made after makes in
          given_ends words before served.mid after code (answer_of reply) made (found reply replies counts.takes) replies.write_faults counts
          (λ t t' tells tells'. answer_left (answer_of reply) served.mid made after t t' (held (Some reply) t replies tells) tells' makes) is
      by None replies (same, is) = Lacking is (inl (ap (λ (s : DeskState). s.write_faults) same ∙ replies.write_faults))
          (λ t t' tells tells'. (let mid = held None t replies tells in
          let now : t' ≡ mid.contents = some_is (sym tells' ∙ ap (λ (s : DeskState). s.contents) same ∙ mid.tells) in
          inl (ap (λ (c : Contents). c.files) now ∙ mid.files_are, ap (λ (c : Contents). c.said) now ∙ mid.said_is)))

  module _ (script log : List ℕ) (asked : request_in words ≡ Some (Run AsTheyCome script log)) (live : IsRunLive script log before after code) where
    abbrev wrote : IsWrittenLive live.source log live.mid live.made after
    wrote = live.written

    abbrev parts : List (List ℕ)
    parts = log_parts (sha256 live.source.text) wrote.pieces wrote.log.threads

    abbrev bytes : List ℕ
    bytes = pieced_bytes (sha256 live.source.text) wrote.pieces wrote.log.threads

    whole : joined parts ≡ bytes
    whole = parts_joined (sha256 live.source.text) wrote.pieces wrote.log.threads

    held_live : (t : Contents) → before.contents ≡ Some t → Holds t.files t.said live.mid
    held_live t tells = held_called {T = Vec ℕ} (Ok live.bytes) _ t.files t.said before live.mid (record { contents = t; tells = tells; files_are = refl; said_is = refl }) live.taken.contents

    kept_takes : live.mid.take_faults ≡ before.take_faults
    kept_takes = live.taken.take_faults.stays (λ e. cc)

    told_ends : IsToldLive live.source log wrote.log wrote.pieces live.mid live.made after → Ending words before after code
    told_ends (outcome, faithful, writes) =
        let text = outcome_text live.source.script outcome in
        let makes : MakesSome (parts_acts log parts ++ Say text ∷ []) live.mid live.made after =
        subst (λ (acts : List Act). MakesSome (Begin log ∷ acts) live.mid live.made after) (sym (append_assoc (map Add parts) (Finish ∷ []) (Say text ∷ [])))
        (log_some log (sha256 live.source.text) wrote.pieces wrote.log.threads (Say text ∷ []) live.mid after live.made writes) in
        let answer : Answer = writes_file log bytes text in
        let counts = some_count (parts_acts log parts ++ Say text ∷ []) live.mid live.made after makes in
        let answers : IsAnswer words before.contents answer =
        subst (λ (request : Option Request). Answers request before.contents answer) (sym asked)
        (inr (live.source, live.read, (wrote.log, outcome, bytes, faithful, live_file bytes (sha256 live.source.text) live.source.script wrote.log outcome faithful wrote.spelled, refl))) in
        given_ends words before live.mid after code answer live.made (inl (answers, counts.takes ∙ kept_takes)) live.taken.write_faults counts
        (λ t t' tells tells'. subst (λ (b : List ℕ). IsLeft (writes_file log b text) live.made t t') whole (told_left log parts text live.mid live.made after t t' (held_live t tells) tells' makes)) live.code_is

    left_log : (fault : DeskFault) → MakesSome (parts_acts log parts) live.mid (Err fault) after → WhereTold before after (LeavesLog words)
    left_log fault makes t t' tells tells' =
        let left = cut_left log parts live.mid fault after t t' (held_live t tells) tells' makes in record {
          script_name = script;
          log_name = log;
          asked = asked;
          source = live.source;
          read = subst (λ (c : Option Contents). IsScriptRead script c (Ok live.source)) tells live.read;
          log = wrote.log;
          bytes = bytes;
          as_many = wrote.as_many;
          spelled = wrote.spelled;
          file = subst (λ (b : List ℕ). IsPartlyWritten (log, b) t.files t'.files) whole left.0;
          said = left.1;
        }

    cut_short : (made : Result (Unit {0}) DeskFault) → live.made ≡ made → IsRefused made → MakesSome (parts_acts log parts) live.mid made after → Ending words before after code
    cut_short (Ok tt) is refused makes = absurd refused
    cut_short (Err why) is refused makes =
        cut_ends words before live.mid after code (Err why) tt live.taken.write_faults (some_count (parts_acts log parts) live.mid (Err why) after makes) (left_log why makes)
        (live.code_is ∙ ap (code_given exit.Done) is)

    live_ends : Ending words before after code
    live_ends = elim wrote.ends [
      | inl told ↦ told_ends told
      | inr (inl (refused, writes)) ↦ cut_short live.made refl refused (log_some log (sha256 live.source.text) wrote.pieces wrote.log.threads [] live.mid after live.made writes)
      | inr (inr (memory, (opened, why, opens, refused))) ↦ Lacking (live.code_is ∙ ap (code_given exit.Done) memory) (inr (script, log, asked))
          (λ t t' tells tells'. inr (inr (left_log why (refused_log log (sha256 live.source.text) wrote.pieces wrote.log.threads live.mid opened after why opens refused) t t' tells tells')))
    ]

  -- the text of a marks file
  module _ (file : List ℕ) (asked : request_in words ≡ Some (Marks file)) where
    file_found : (answer : Answer) → IsFileFound file before after answer → IsFound words before after answer
    file_found answer (inl (answers, same)) = inl (subst (λ (request : Option Request). Answers request before.contents answer) (sym asked) answers, same)
    file_found answer (inr (failed, rose)) = inr (subst (λ (request : Option Request). SaysFailed request before.contents answer) (sym asked) failed, rose)

    file_short : (t t' : Contents) → IsFileCut file before after t t' → IsShort words before after t t'
    file_short t t' (answer, found, short) = inl (answer, file_found answer found, short)

    marks_end : MarksEnding file before after code → Ending words before after code
    marks_end (SaidWhole answer found is same left) = Whole answer (file_found answer found) is same left
    marks_end (SayFailed is rose left) = CutShort is rose (λ t t' tells tells'. file_short t t' (left t t' tells tells'))
    marks_end (MemoryRefused is same left) = Lacking is (inl same) (λ t t' tells tells'. inr (file_short t t' (left t t' tells tells')))

  ends_by : (request : Option Request) → request_in words ≡ request → IsServed request before after code → Ending words before after code
  ends_by (Some (Run AsTheyCome script log)) asked (inl (replied, short)) = replied_ends (subst (λ (r : Option Request). IsReplied r before after code) (sym asked) replied)
  ends_by (Some (Run AsTheyCome script log)) asked (inr live) = live_ends script log asked live
  ends_by (Some (Run BehindLock script log)) asked served = replied_ends (subst (λ (r : Option Request). IsReplied r before after code) (sym asked) served)
  ends_by (Some (Run (ByPicks picks) script log)) asked served = replied_ends (subst (λ (r : Option Request). IsReplied r before after code) (sym asked) served)
  ends_by (Some (Tidy script)) asked served = replied_ends (subst (λ (r : Option Request). IsReplied r before after code) (sym asked) served)
  ends_by (Some (Show log)) asked served = replied_ends (subst (λ (r : Option Request). IsReplied r before after code) (sym asked) served)
  ends_by (Some (Marks file)) asked served = marks_end file asked served.ends
  ends_by (Some (OfPair task script log object)) asked served = replied_ends (subst (λ (r : Option Request). IsReplied r before after code) (sym asked) served)
  ends_by (Some (Parallel script log)) asked served = replied_ends (subst (λ (r : Option Request). IsReplied r before after code) (sym asked) served)
  ends_by (Some (Convert script log out)) asked served = replied_ends (subst (λ (r : Option Request). IsReplied r before after code) (sym asked) served)
  ends_by (Some (Gen number script log)) asked served = replied_ends (subst (λ (r : Option Request). IsReplied r before after code) (sym asked) served)
  ends_by (Some (Hunt quarry script log tries)) asked served = replied_ends (subst (λ (r : Option Request). IsReplied r before after code) (sym asked) served)
  ends_by (Some (Outcomes script most)) asked served = replied_ends (subst (λ (r : Option Request). IsReplied r before after code) (sym asked) served)
  ends_by (Some (Always claim script log most)) asked served = replied_ends (subst (λ (r : Option Request). IsReplied r before after code) (sym asked) served)
  ends_by None asked served = replied_ends (subst (λ (r : Option Request). IsReplied r before after code) (sym asked) served)

  pub ended : IsServed (request_in words) before after code → Ending words before after code
  ended served = ends_by (request_in words) refl served

-- an answer's status, which is done or refuses, has its cause
own_cause : (words : List (List ℕ)) (before after : DeskState) (answer : Answer) (status : Status) → IsAnswer words before.contents answer → answer.status ≡ status → (answer.status ≡ exit.Done) ⊎ (is_refusal answer.status ≡ true) → IsCause words before after status
own_cause words before after answer exit.Read answers is own = inr (answer, answers, is)
own_cause words before after answer exit.Write answers is own = absurd (elim own [ inl never ↦ cc | inr never ↦ cc ])
own_cause words before after answer exit.Memory answers is own = tt
own_cause words before after answer exit.Done answers is own = (answer, answers, is)
own_cause words before after answer exit.Words answers is own = (answer, answers, is)
own_cause words before after answer exit.Script answers is own = (answer, answers, is)
own_cause words before after answer exit.Log answers is own = (answer, answers, is)
own_cause words before after answer exit.Misfit answers is own = (answer, answers, is)
own_cause words before after answer exit.TooLong answers is own = (answer, answers, is)
own_cause words before after answer exit.Unordered answers is own = (answer, answers, is)
own_cause words before after answer exit.Cycle answers is own = (answer, answers, is)
own_cause words before after answer exit.NoEvent answers is own = (answer, answers, is)
own_cause words before after answer exit.NotFound answers is own = (answer, answers, is)
own_cause words before after answer exit.NotAll answers is own = (answer, answers, is)
own_cause words before after answer exit.Otherwise answers is own = (answer, answers, is)

-- whatever status comes, its cause holds
pub has_cause : (words : List (List ℕ)) (before after : DeskState) (code : ℕ) → IsServed (request_in words) before after code → (status : Status) → code ≡ code_of status → IsCause words before after status
has_cause words before after code served status is = by (ended words before after code served)
  where
    comes : (other : Status) → code ≡ code_of other → IsCause words before after other → IsCause words before after status
    comes other is' cause = subst (IsCause words before after) (sym (same_status status other (sym is ∙ is'))) cause

    by : Ending words before after code → IsCause words before after status
    by (Whole answer (inl (answers, same)) is' counts left) = comes answer.status is' (own_cause words before after answer answer.status answers refl (answers_row (request_in words) before.contents answer answers).own)
    by (Whole answer (inr (said, rose)) is' counts left) = comes exit.Read (is' ∙ ap code_of (says_failed (request_in words) before.contents answer said).status) (inl rose)
    by (CutShort is' rose left) = comes exit.Write is' rose
    by (Lacking is' counts left) = comes exit.Memory is' tt
