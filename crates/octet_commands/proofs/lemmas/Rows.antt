-- What the answers of each task are like: one fact a row.
use Rattle.octet_model.specs.declared.limits.TheConstants.{MAX_LOG_FILE, MAX_SCRIPT_FILE}
use Rattle.std.proofs.Common.{◌≡◌, ◌≢◌, ◌∙◌, ◌⊎◌, ℕ, List, [], ◌∷◌, map, Option, None, Some, Err, Bool, true, false, inl, inr, ap, sym, refl, arith}
use Rattle.octet_base.specs.Desk.{Contents}
use Rattle.octet_model.specs.HappensBefore.{IsOrdered}
use Rattle.octet_model.specs.Orders.{journals_after, lowest_order}
use Rattle.octet_model.specs.declared.event.Place.{Place}
use Rattle.octet_clock.specs.declared.verdict.Verdict.TheVariants as verdict
use Rattle.octet_clock.specs.Verified.{IsVerified}
use Rattle.octet_model.specs.declared.log.ThreadLog.{ThreadLog}
use Rattle.octet_regions.specs.declared.region.Region.{Region}
use Rattle.octet_regions.specs.declared.serial.Serial.TheVariants as serial
use Rattle.octet_regions.specs.Accesses.{accesses_of}
use Rattle.octet_regions.specs.Choice.{IsSerialChoice, TakesAll}
use Rattle.octet_regions.proofs.lemmas.OneAnswer.{one_answer}
use Rattle.octet_slice.specs.declared.slicing.SliceFault.{SliceFault}
use Rattle.octet_slice.specs.declared.slicing.SliceFault.TheVariants.{NoThread, NoEvent, OutOfMemory}
use Rattle.octet_slice.specs.Slice.{HasEvent, HasSliceCause}
use Rattle.octet_commands.specs.declared.inputs.Source.{Source}
use Rattle.octet_commands.specs.declared.inputs.Pair.{Pair}
use Rattle.octet_commands.specs.declared.request.PairTask.{PairTask}
use Rattle.octet_commands.specs.declared.request.PairTask.TheVariants.{Replay, Verify, Regions, Slice, Stop, Trace, Profile}
use Rattle.octet_commands.specs.declared.reply.Status.{Status}
use Rattle.octet_commands.specs.declared.reply.Status.TheVariants as exit
use Rattle.octet_log.specs.declared.loader.Loaded.{Loaded}
use Rattle.octet_commands.specs.Answer.{Answer, verdict_said}
use Rattle.octet_commands.specs.Request.{Way, Request, Claim, claimed_of, Quarry, named_by, outputs_of, outputs_in}
use Rattle.octet_commands.specs.declared.request.Request.TheVariants.{Tidy, Show, Marks, OfPair, Parallel, Convert, Run, Gen, Hunt, Outcomes, Always}
use Rattle.octet_commands.specs.declared.request.Quarry.TheVariants.{OtherEnd, AnyCycle}
use Rattle.octet_commands.specs.Inputs.{IsTaken, IsScriptRead, IsLogRead, IsScriptChosen, IsPairRead}
use Rattle.octet_commands.specs.Marks.{FileAnswers}
use Rattle.octet_commands.specs.Commands.{Answers, RequestAnswers, TidyAnswers, ShowAnswers, OutcomeSays, WhereOrdered, PairSays, RunAnswers, AlwaysAnswers, none_found}
use Rattle.octet_outcomes.specs.declared.outcomes.Seen.{Seen}
use Rattle.octet_outcomes.specs.declared.outcomes.Seen.TheVariants.{Whole, Most}
use Rattle.octet_outcomes.specs.declared.outcomes.Seen.TheVariants as extent
use Rattle.octet_commands.specs.Outcomes.{always_said, cut_said, past_fuel, search_said, search_text, OutcomesAnswers}
use Rattle.octet_model.specs.declared.script.Script.{Script}

-- a status that comes with a refusal
abbrev pub is_refusal : Status → Bool
is_refusal exit.Done = false
is_refusal exit.Write = false
is_refusal exit.Memory = false
is_refusal _ = true

-- the answer refuses, and writes nothing
pub record Refuses (answer : Answer) : Type 0 where
  pub status : is_refusal answer.status ≡ true
  pub files : answer.files ≡ []

-- all is done, and these files are written
pub record IsDone (outputs : List (List ℕ)) (answer : Answer) : Type 0 where
  pub status : answer.status ≡ exit.Done
  pub files : map (λ file. file.0) answer.files ≡ outputs

refuses : (answer said : Answer) → answer ≡ said → is_refusal said.status ≡ true → said.files ≡ [] → Refuses answer
refuses answer said is refusal none = record { status = ap (λ (a : Answer). is_refusal a.status) is ∙ refusal; files = ap (λ (a : Answer). a.files) is ∙ none }

done : (outputs : List (List ℕ)) (answer said : Answer) → answer ≡ said → said.status ≡ exit.Done → map (λ file. file.0) said.files ≡ outputs → IsDone outputs answer
done outputs answer said is whole names = record { status = ap (λ (a : Answer). a.status) is ∙ whole; files = ap (λ (a : Answer). map (λ file. file.0) a.files) is ∙ names }

pub not_done : (answer : Answer) → Refuses answer → answer.status ≢ exit.Done
not_done answer refused is = let never : is_refusal exit.Done ≡ true = ap is_refusal (sym is) ∙ refused.status in cc

-- the statuses with which a reading may end early: a task that runs or judges what was read has others
abbrev pub is_of_reading : Status → Bool
is_of_reading exit.Words = true
is_of_reading exit.Script = true
is_of_reading exit.Log = true
is_of_reading exit.Read = true
is_of_reading exit.TooLong = true
is_of_reading _ = false

-- a reading ended early, and nothing is written
pub record IsUnread (answer : Answer) : Type 0 where
  pub status : is_of_reading answer.status ≡ true
  pub files : answer.files ≡ []

unread : (answer said : Answer) → answer ≡ said → is_of_reading said.status ≡ true → said.files ≡ [] → IsUnread answer
unread answer said is early none = record { status = ap (λ (a : Answer). is_of_reading a.status) is ∙ early; files = ap (λ (a : Answer). a.files) is ∙ none }

taken_unread : (name : List ℕ) (limit : ℕ) (contents : Option Contents) (answer : Answer) → IsTaken name limit contents (Err answer) → IsUnread answer
taken_unread name limit contents answer (inl (absent, is)) = unread answer _ is refl refl
taken_unread name limit contents answer (inr (long, is)) = unread answer _ is refl refl

pub script_unread : (name : List ℕ) (contents : Option Contents) (answer : Answer) → IsScriptRead name contents (Err answer) → IsUnread answer
script_unread name contents answer (inl taken) = taken_unread name MAX_SCRIPT_FILE contents answer taken
script_unread name contents answer (inr (text, taken, (line, cause, refused, is))) = unread answer _ is refl refl

log_unread : (name : List ℕ) (contents : Option Contents) (answer : Answer) → IsLogRead name contents (Err answer) → IsUnread answer
log_unread name contents answer (inl taken) = taken_unread name MAX_LOG_FILE contents answer taken
log_unread name contents answer (inr (bytes, taken, (cause, refused, is))) = unread answer _ is refl refl

pub chosen_unread : (name : List ℕ) (object : Option (List ℕ)) (contents : Option Contents) (answer : Answer) → IsScriptChosen name object contents (Err answer) → IsUnread answer
chosen_unread name object contents answer (inl read) = script_unread name contents answer read
chosen_unread name object contents answer (inr (source, read, inl (unknown, is))) = unread answer _ is refl refl
chosen_unread name object contents answer (inr (source, read, inr (wanted, known, never))) = absurd cc

pub pair_unread : (script log : List ℕ) (object : Option (List ℕ)) (contents : Option Contents) (answer : Answer) → IsPairRead script log object contents (Err answer) → IsUnread answer
pair_unread script log object contents answer (inl chosen) = chosen_unread script object contents answer chosen
pair_unread script log object contents answer (inr (chosen, is, inl read)) = log_unread log contents answer read
pair_unread script log object contents answer (inr (chosen, is, inr (read, known, never))) = absurd cc

-- and it has no other status
pub not_of_reading : (answer : Answer) (status : Status) → is_of_reading status ≡ false → IsUnread answer → answer.status ≢ status
not_of_reading answer status other early is = let never : is_of_reading status ≡ true = ap is_of_reading (sym is) ∙ early.status in cc

-- a reading that ends early refuses
refusal_of_reading : (status : Status) → is_of_reading status ≡ true → is_refusal status ≡ true
refusal_of_reading exit.Done early = absurd cc
refusal_of_reading exit.Words early = refl
refusal_of_reading exit.Script early = refl
refusal_of_reading exit.Log early = refl
refusal_of_reading exit.Misfit early = refl
refusal_of_reading exit.Read early = refl
refusal_of_reading exit.Write early = absurd cc
refusal_of_reading exit.Memory early = absurd cc
refusal_of_reading exit.TooLong early = refl
refusal_of_reading exit.Unordered early = refl
refusal_of_reading exit.Cycle early = refl
refusal_of_reading exit.NoEvent early = refl
refusal_of_reading exit.NotFound early = refl
refusal_of_reading exit.NotAll early = refl
refusal_of_reading exit.Otherwise early = refl

unread_refuses : (answer : Answer) → IsUnread answer → Refuses answer
unread_refuses answer early = record { status = refusal_of_reading answer.status early.status; files = early.files }

pub script_refused : (name : List ℕ) (contents : Option Contents) (answer : Answer) → IsScriptRead name contents (Err answer) → Refuses answer
script_refused name contents answer read = unread_refuses answer (script_unread name contents answer read)

pub chosen_refused : (name : List ℕ) (object : Option (List ℕ)) (contents : Option Contents) (answer : Answer) → IsScriptChosen name object contents (Err answer) → Refuses answer
chosen_refused name object contents answer read = unread_refuses answer (chosen_unread name object contents answer read)

pub log_refused : (name : List ℕ) (contents : Option Contents) (answer : Answer) → IsLogRead name contents (Err answer) → Refuses answer
log_refused name contents answer read = unread_refuses answer (log_unread name contents answer read)

pub pair_refused : (script log : List ℕ) (object : Option (List ℕ)) (contents : Option Contents) (answer : Answer) → IsPairRead script log object contents (Err answer) → Refuses answer
pair_refused script log object contents answer read = unread_refuses answer (pair_unread script log object contents answer read)

-- the rows
pub tidy_row : (source : Source) (answer : Answer) → TidyAnswers source answer → IsDone [] answer
tidy_row source answer is = done [] answer _ is refl refl

pub show_row : (loaded : Loaded) (answer : Answer) → ShowAnswers loaded answer → IsDone [] answer
show_row loaded answer is = done [] answer _ is refl refl

pub run_row : (way : Way) (log : List ℕ) (source : Source) (answer : Answer) → RunAnswers way log source answer → IsDone (log ∷ []) answer
run_row way log source answer (recorded, outcome, bytes, records, file, is) = done (log ∷ []) answer _ is refl refl

-- a marks file is told whole, or up to where it is cut, or it is refused
pub file_row : (name : List ℕ) (contents : Option Contents) (answer : Answer) → FileAnswers name contents answer → IsDone [] answer ⊎ Refuses answer
file_row name contents answer (inl (absent, is)) = inr (refuses answer _ is refl refl)
file_row name contents answer (inr (bytes, there, (pieces, stands, reads, inl (cut, inl (short, is))))) = inl (done [] answer _ is refl refl)
file_row name contents answer (inr (bytes, there, (pieces, stands, reads, inl (cut, inr (long, is))))) = inr (refuses answer _ is refl refl)
file_row name contents answer (inr (bytes, there, (pieces, stands, reads, inr (cause, bad, is)))) = inr (refuses answer _ is refl refl)

-- the journals of the lowest order are ordered
abbrev pub HasOrderedJournals : Pair → Type 0
HasOrderedJournals pair = IsOrdered (journals_after pair.source.script pair.loaded.log.threads (lowest_order pair.source.script pair.loaded.log.threads))

-- the serial choice takes all regions of the lowest order
abbrev pub HasSerialOrder : Pair → Type 0
HasSerialOrder pair = let accesses = accesses_of pair.source.script pair.loaded.log.threads in (order : List Region) × IsSerialChoice accesses order × TakesAll accesses order

-- the tasks that judge whether journals are ordered, and whether regions are serial
abbrev pub JudgesOrder : PairTask → Type 0
JudgesOrder Verify = Unit {0}
JudgesOrder Regions = Unit {0}
JudgesOrder (Slice thread event) = Unit {0}
JudgesOrder _ = ⊥

abbrev pub JudgesRegions : PairTask → Type 0
JudgesRegions Regions = Unit {0}
JudgesRegions _ = ⊥

-- the log has the event that the task asks for
abbrev pub HasItsEvent : PairTask → Pair → Type 0
HasItsEvent (Slice thread event) pair = HasEvent pair.loaded.log.threads thread event
HasItsEvent _ pair = Unit {0}

-- where the log fits, all is done, and what the task judges holds; or the journals are not ordered, or they are and the regions are not serial, or the log has no such event, and that refuses
pub data PairRow (task : PairTask) (pair : Pair) (answer : Answer) : Type 0 where
  AllDone : IsDone [] answer → (JudgesOrder task → HasOrderedJournals pair) → (JudgesRegions task → HasSerialOrder pair) → HasItsEvent task pair → PairRow task pair answer
  NotOrdered : Refuses answer → answer.status ≡ exit.Unordered → JudgesOrder task → ¬ HasOrderedJournals pair → PairRow task pair answer
  NotSerial : Refuses answer → answer.status ≡ exit.Cycle → JudgesRegions task → HasOrderedJournals pair → ¬ HasSerialOrder pair → PairRow task pair answer
  NotThere : Refuses answer → answer.status ≡ exit.NoEvent → HasOrderedJournals pair → ¬ HasItsEvent task pair → PairRow task pair answer

-- a task on regions asks for no event
pub has_event : (task : PairTask) (pair : Pair) → JudgesRegions task → HasItsEvent task pair
has_event Regions pair judges = tt
has_event Replay pair judges = absurd judges
has_event Verify pair judges = absurd judges
has_event (Slice thread event) pair judges = absurd judges
has_event (Stop value) pair judges = absurd judges
has_event Trace pair judges = absurd judges
has_event Profile pair judges = absurd judges

-- where there is a cause for it, there is no such event
no_event : (log : List ThreadLog) (thread event : ℕ) (fault : SliceFault) → fault ≢ OutOfMemory → HasSliceCause log thread event fault → ¬ HasEvent log thread event
no_event log thread event (NoThread threads) memory cause has = absurd (omega (arith, cause.past, has.has_thread))
no_event log thread event (NoEvent events) memory cause has = absurd (omega (arith, cause.past, has.has_event))
no_event log thread event OutOfMemory memory cause has = memory refl

-- an answer that says the verdict of a log that does not order all conflicts
not_ordered : (task : PairTask) (pair : Pair) (answer : Answer) (first second : Place) → IsVerified pair.source.script pair.loaded.log.threads (verdict.Unordered first second) → answer ≡ verdict_said (verdict.Unordered first second)
    → JudgesOrder task → PairRow task pair answer
not_ordered task pair answer first second verified is judges =
    NotOrdered (refuses answer _ is refl refl) (ap (λ (a : Answer). a.status) is) judges (λ ordered. (let never = verified.told.ordered.1 ordered in cc))

pub pair_row : (task : PairTask) (pair : Pair) (answer : Answer) → PairSays task pair answer → PairRow task pair answer
pair_row Replay pair answer is = AllDone (done [] answer _ is refl refl) (λ never. absurd never) (λ never. absurd never) tt
pair_row Profile pair answer is = AllDone (done [] answer _ is refl refl) (λ never. absurd never) (λ never. absurd never) tt
pair_row Trace pair answer is = AllDone (done [] answer _ is refl refl) (λ never. absurd never) (λ never. absurd never) tt
pair_row (Stop value) pair answer (found, is_found, is) = AllDone (done [] answer _ is refl refl) (λ never. absurd never) (λ never. absurd never) tt
pair_row Verify pair answer (verdict.Ordered, verified, is) = AllDone (done [] answer _ is refl refl) (λ judges. verified.told.ordered.0 refl) (λ never. absurd never) tt
pair_row Verify pair answer (verdict.Unordered first second, verified, is) = not_ordered Verify pair answer first second verified is tt
pair_row Regions pair answer (verdict.Unordered first second, verified, is) = not_ordered Regions pair answer first second verified is tt
pair_row Regions pair answer (verdict.Ordered, verified, (serial.Order regions, found, shown, is)) =
    AllDone (done [] answer _ is refl refl) (λ judges. verified.told.ordered.0 refl) (λ judges. (regions, found.0, found.1)) tt
pair_row Regions pair answer (verdict.Ordered, verified, (serial.Cycle hops, found, shown, is)) =
    NotSerial (refuses answer _ is refl refl) (ap (λ (a : Answer). a.status) is) tt (verified.told.ordered.0 refl)
    (λ order. (let never = one_answer (accesses_of pair.source.script pair.loaded.log.threads) (serial.Order order.0) (serial.Cycle hops) (order.1, order.2) found in cc))
pair_row (Slice thread event) pair answer (verdict.Unordered first second, verified, is) = not_ordered (Slice thread event) pair answer first second verified is tt
pair_row (Slice thread event) pair answer (verdict.Ordered, verified, inl (fault, memory, cause, is)) =
    NotThere (refuses answer _ is refl refl) (ap (λ (a : Answer). a.status) is) (verified.told.ordered.0 refl) (no_event pair.loaded.log.threads thread event fault memory cause)
pair_row (Slice thread event) pair answer (verdict.Ordered, verified, inr (sliced, has, slice, is)) = AllDone (done [] answer _ is refl refl) (λ judges. verified.told.ordered.0 refl) (λ never. absurd never) has

-- all is done, or it is refused
row_done : (task : PairTask) (pair : Pair) (answer : Answer) → PairRow task pair answer → IsDone [] answer ⊎ Refuses answer
row_done task pair answer (AllDone row ordered serial there) = inl row
row_done task pair answer (NotOrdered row is judges apart) = inr row
row_done task pair answer (NotSerial row is judges ordered apart) = inr row
row_done task pair answer (NotThere row is ordered none) = inr row

-- `parallel` has done all where the journals are ordered, and refuses where they are not
pub data ParallelRow (pair : Pair) (answer : Answer) : Type 0 where
  Replayed : IsDone [] answer → HasOrderedJournals pair → ParallelRow pair answer
  Apart : Refuses answer → answer.status ≡ exit.Unordered → ¬ HasOrderedJournals pair → ParallelRow pair answer

pub parallel_row : (pair : Pair) (answer : Answer) → WhereOrdered (OutcomeSays pair) pair answer → ParallelRow pair answer
parallel_row pair answer (verdict.Ordered, verified, is) = Replayed (done [] answer _ is refl refl) (verified.told.ordered.0 refl)
parallel_row pair answer (verdict.Unordered first second, verified, is) =
    Apart (refuses answer _ is refl refl) (ap (λ (a : Answer). a.status) is) (λ ordered. (let never = verified.told.ordered.1 ordered in cc))

parallel_done : (pair : Pair) (answer : Answer) → ParallelRow pair answer → IsDone [] answer ⊎ Refuses answer
parallel_done pair answer (Replayed row ordered) = inl row
parallel_done pair answer (Apart row is apart) = inr row

-- a hunt that finds nothing says so, and writes nothing
pub none_status : (quarry : Quarry) (tries : ℕ) → (none_found quarry tries).status ≡ exit.NotFound
none_status (OtherEnd name number) tries = refl
none_status AnyCycle tries = refl

none_files : (quarry : Quarry) (tries : ℕ) → (none_found quarry tries).files ≡ []
none_files (OtherEnd name number) tries = refl
none_files AnyCycle tries = refl

-- an answer that is given whole: its files are those of the request or none, and it writes them only where all is done, or a run was found that ends otherwise
pub record Row (outputs : List (List ℕ)) (answer : Answer) : Type 0 where
  pub names : (map (λ file. file.0) answer.files ≡ outputs) ⊎ (answer.files ≡ [])
  pub own : (answer.status ≡ exit.Done) ⊎ (is_refusal answer.status ≡ true)
  pub plain : answer.status ≢ exit.Done → answer.status ≢ exit.Otherwise → answer.files ≡ []

pub of_done : (outputs : List (List ℕ)) (answer : Answer) → IsDone outputs answer → Row outputs answer
of_done outputs answer row = record { names = inl row.files; own = inl row.status; plain = λ not_done other. absurd (not_done row.status) }

pub of_refused : (outputs : List (List ℕ)) (answer : Answer) → Refuses answer → Row outputs answer
of_refused outputs answer row = record { names = inr row.files; own = inr row.status; plain = λ not_done other. row.files }

of_either : (outputs : List (List ℕ)) (answer : Answer) → IsDone outputs answer ⊎ Refuses answer → Row outputs answer
of_either outputs answer (inl row) = of_done outputs answer row
of_either outputs answer (inr row) = of_refused outputs answer row

-- all is done, and nothing had to be written
of_nothing : (outputs : List (List ℕ)) (answer : Answer) → IsDone [] answer → answer.files ≡ [] → Row outputs answer
of_nothing outputs answer row none = record { names = inr none; own = inl row.status; plain = λ not_done other. none }

-- what `outcomes` and `always` say
outcomes_row : (script : Script) (most : ℕ) (answer : Answer) → OutcomesAnswers script most answer → Row [] answer
outcomes_row script most answer (told, moments, stuck, seen, explored, is) = by seen is
  where
    by : (seen : Seen) → answer ≡ search_said (search_text script told moments stuck) seen → Row [] answer
    by Whole is = of_done [] answer (done [] answer _ is refl refl)
    by Most is = of_refused [] answer (refuses answer _ is refl refl)
    by extent.Memory is = of_refused [] answer (refuses answer _ is refl refl)

always_row : (claim : Claim) (log : List ℕ) (chosen : Source × Option ℕ) (answer : Answer) → AlwaysAnswers claim log chosen answer → Row (log ∷ []) answer
always_row claim log (source, wanted) answer (inl (holds, is)) = of_nothing (log ∷ []) answer (done [] answer always_said is refl refl) (ap (λ (a : Answer). a.files) is)
always_row claim log (source, wanted) answer (inr (inl (seen, is))) = of_refused (log ∷ []) answer (refuses answer (cut_said seen) is refl refl)
always_row claim log (source, wanted) answer (inr (inr (fails, inl witness))) = record {
  names = inl (ap (λ (a : Answer). map (λ file. file.0) a.files) witness.is);
  own = inr (ap (λ (a : Answer). is_refusal a.status) witness.is);
  plain = λ not_done other. absurd (other (ap (λ (a : Answer). a.status) witness.is));
}
always_row claim log (source, wanted) answer (inr (inr (fails, inr is))) = of_refused (log ∷ []) answer (refuses answer past_fuel is refl refl)

-- what a request is answered with
pub request_row : (request : Request) (contents : Option Contents) (answer : Answer) → RequestAnswers request contents answer → Row (outputs_of request) answer
request_row (Tidy script) contents answer (inl read) = of_refused _ answer (script_refused script contents answer read)
request_row (Tidy script) contents answer (inr (source, read, is)) = of_done _ answer (tidy_row source answer is)
request_row (Show log) contents answer (inl read) = of_refused _ answer (log_refused log contents answer read)
request_row (Show log) contents answer (inr (read, is-read, is)) = of_done _ answer (show_row read answer is)
request_row (Marks file) contents answer answers = of_either _ answer (file_row file contents answer answers)
request_row (OfPair task script log object) contents answer (inl read) = of_refused _ answer (pair_refused script log object contents answer read)
request_row (OfPair task script log object) contents answer (inr (pair, read, inl (fault, other, is))) = of_refused _ answer (refuses answer _ is refl refl)
request_row (OfPair task script log object) contents answer (inr (pair, read, inr (own, inl (fault, memory, cause, is)))) = of_refused _ answer (refuses answer _ is refl refl)
request_row (OfPair task script log object) contents answer (inr (pair, read, inr (own, inr (lawful, says)))) = of_either _ answer (row_done task pair answer (pair_row task pair answer says))
request_row (Parallel script log) contents answer (inl read) = of_refused _ answer (pair_refused script log None contents answer read)
request_row (Parallel script log) contents answer (inr (pair, read, inl (fault, other, is))) = of_refused _ answer (refuses answer _ is refl refl)
request_row (Parallel script log) contents answer (inr (pair, read, inr (own, inl (fault, memory, cause, is)))) = of_refused _ answer (refuses answer _ is refl refl)
request_row (Parallel script log) contents answer (inr (pair, read, inr (own, inr (lawful, says)))) = of_either _ answer (parallel_done pair answer (parallel_row pair answer says))
request_row (Convert script log out) contents answer (inl read) = of_refused _ answer (pair_refused script log None contents answer read)
request_row (Convert script log out) contents answer (inr (pair, read, inl (fault, other, is))) = of_refused _ answer (refuses answer _ is refl refl)
request_row (Convert script log out) contents answer (inr (pair, read, inr (own, inl (of_script, of_log, differ, is)))) = of_refused _ answer (refuses answer _ is refl refl)
request_row (Convert script log out) contents answer (inr (pair, read, inr (own, inr (threads, file, is)))) = of_done _ answer (done (out ∷ []) answer _ is refl refl)
request_row (Run task script log) contents answer (inl read) = of_refused _ answer (script_refused script contents answer read)
request_row (Run task script log) contents answer (inr (source, read, is)) = of_done _ answer (run_row task log source answer is)
request_row (Gen number script log) contents answer (made, recorded, outcome, generated, faithful, is) = of_done _ answer (done (script ∷ log ∷ []) answer _ is refl refl)
request_row (Hunt quarry script log tries) contents answer (inl read) = of_refused _ answer (chosen_refused script (named_by quarry) contents answer read)
request_row (Hunt quarry script log tries) contents answer (inr (chosen, read, inl find)) = of_done _ answer (done (log ∷ []) answer _ find.is refl refl)
request_row (Hunt quarry script log tries) contents answer (inr (chosen, read, inr is)) = of_refused _ answer (refuses answer (none_found quarry tries) is (ap is_refusal (none_status quarry tries)) (none_files quarry tries))
request_row (Outcomes script most) contents answer (inl read) = of_refused _ answer (script_refused script contents answer read)
request_row (Outcomes script most) contents answer (inr (source, read, is)) = outcomes_row source.script most answer is
request_row (Always claim script log most) contents answer (inl read) = of_refused _ answer (chosen_refused script (claimed_of claim) contents answer read)
request_row (Always claim script log most) contents answer (inr (chosen, read, is)) = always_row claim log chosen answer is

pub answers_row : (request : Option Request) (contents : Option Contents) (answer : Answer) → Answers request contents answer → Row (outputs_in request) answer
answers_row None contents answer is = of_refused _ answer (refuses answer _ is refl refl)
answers_row (Some request) contents answer answers = request_row request contents answer answers
