-- What reading the files of a request comes to, step by step.
-- A step ends with a value, or with the answer that refuses.
use Rattle.octet_model.specs.declared.limits.TheConstants.{MAX_LOG_FILE, MAX_SCRIPT_FILE}
use Rattle.std.specs.Prelude.{ℕ, ◌≡◌, ◌≤◌, ◌<◌, ◌⊎◌, List, length, Option, None, Some, Result, Ok, Err, IfSome, IsSomeAnd}
use Rattle.std.specs.FinMap.{get}
use Rattle.octet_base.specs.Desk.{Contents, DeskState, Takes, Rose}
use Rattle.octet_base.specs.declared.fault.DeskFault.{DeskFault}
use Rattle.std.specs.Global.{Vec}
use Rattle.octet_model.specs.declared.script.Script.{Script}
use Rattle.octet_script.specs.declared.cause.ScriptCause.{ScriptCause}
use Rattle.octet_script.specs.declared.cause.ScriptFault.TheVariants as faults
use Rattle.octet_script.specs.Spelling.{Spells}
use Rattle.octet_script.specs.Parsing as script
use Rattle.octet_log.specs.declared.cause.LogCause.{LogCause}
use Rattle.octet_log.specs.declared.loader.Loaded.{Loaded}
use Rattle.octet_log.specs.Spellings.{IsSpelling}
use Rattle.octet_log.specs.Readings.{reading_of}
use Rattle.octet_log.specs.Loading as log
use Rattle.octet_commands.specs.declared.inputs.Source.{Source}
use Rattle.octet_commands.specs.declared.inputs.Pair.{Pair}
use Rattle.octet_commands.specs.declared.refusal.Refused.{Refused}
use Rattle.octet_commands.specs.Profile.{wanted_by}
use Rattle.octet_commands.specs.Answer.{Answer, RefusesBy, read_failed, too_long, no_such_object, script_refused, log_refused}

-- the second step with what the first gave, unless the first ends with an answer that refuses
infixl 10 ◌>>=◌
abbrev pub ◌>>=◌ : {A B : Type 0} → (Result A Answer → Type 0) → (A → Result B Answer → Type 0) → Result B Answer → Type 0
(first >>= next) (Ok y) = (x : _) × first (Ok x) × next x (Ok y)
(first >>= next) (Err answer) = first (Err answer) ⊎ ((x : _) × first (Ok x) × next x (Err answer))

-- a file is there with these bytes within the limit, is not there, or is over the limit.
-- A desk that tells nothing says nothing of its files
abbrev pub IsTaken : List ℕ → ℕ → Option Contents → Result (List ℕ) Answer → Type 0
IsTaken name limit contents (Ok bytes) = IfSome contents (λ t. get t.files name ≡ Some bytes) × (length bytes ≤ limit)
IsTaken name limit contents (Err answer) =
    (IsSomeAnd contents (λ t. get t.files name ≡ None) × (answer ≡ read_failed))
    ⊎ (IfSome contents (λ t. IsSomeAnd (get t.files name) (λ bytes. limit < length bytes)) × (answer ≡ too_long name limit))

-- the text spells a script, or its first refusal is said
abbrev pub IsParsed : List ℕ → Result Source Answer → Type 0
IsParsed text (Ok source) = (source.text ≡ text) × Spells text source.script
IsParsed text (Err answer) = (line : ℕ) × (cause : ScriptCause) × (script.parsed text ≡ Err (faults.Refused line cause)) × (answer ≡ script_refused line cause)

-- the bytes spell a log, with its digest where they have one, or their first refusal is said
abbrev pub IsDecoded : List ℕ → Result Loaded Answer → Type 0
IsDecoded bytes (Ok loaded) = IsSpelling bytes (reading_of loaded).digest (reading_of loaded).logs
IsDecoded bytes (Err answer) = (cause : LogCause) × (log.loaded bytes ≡ Err cause) × (answer ≡ log_refused cause)

-- the script has the object that is named, if one is, or the answer says that it has none
abbrev pub IsChosen : Script → Option (List ℕ) → Result (Option ℕ) Answer → Type 0
IsChosen script name (Ok wanted) = wanted_by script name ≡ Some wanted
IsChosen script name (Err answer) = (wanted_by script name ≡ None) × (answer ≡ no_such_object)

-- the script of a file, or the answer that refuses the file
abbrev pub IsScriptRead : List ℕ → Option Contents → Result Source Answer → Type 0
IsScriptRead name contents = IsTaken name MAX_SCRIPT_FILE contents >>= IsParsed

-- the log of a file, or the answer that refuses the file
abbrev pub IsLogRead : List ℕ → Option Contents → Result Loaded Answer → Type 0
IsLogRead name contents = IsTaken name MAX_LOG_FILE contents >>= IsDecoded

-- the script of a file with the object that is named, or the answer that refuses them
abbrev pub IsScriptChosen : List ℕ → Option (List ℕ) → Option Contents → Result (Source × Option ℕ) Answer → Type 0
IsScriptChosen name object contents = IsScriptRead name contents >>= λ source. IsChosen source.script object >>= λ wanted read. read ≡ Ok (source, wanted)

-- the script's file is there, its text spells a script, and the script has the object that is named, if one is
abbrev pub PassesScript : List ℕ → Option (List ℕ) → Option Contents → Type 0
PassesScript name object contents = (chosen : Source × Option ℕ) × IsScriptChosen name object contents (Ok chosen)

-- the script of a file and then the log of another, or the answer that refuses them
abbrev pub IsPairRead : List ℕ → List ℕ → Option (List ℕ) → Option Contents → Result Pair Answer → Type 0
IsPairRead script_name log_name object contents =
    IsScriptChosen script_name object contents >>= λ chosen. IsLogRead log_name contents >>= λ loaded read. read ≡ Ok (record { source = chosen.0; wanted = chosen.1; loaded = loaded })

-- the result is a refusal
abbrev pub WasRefused : {T E : Type 0} → Result T E → Type 0
WasRefused (Ok value) = ⊥
WasRefused (Err fault) = Unit {0}

-- the result of a step, unless memory was refused
abbrev pub Comes : {T : Type 0} → (Result T Answer → Type 0) → Result T Refused → Type 0
Comes Step (Ok value) = Step (Ok value)
Comes Step (Err refused) = RefusesBy (λ answer. Step (Err answer)) refused

-- a reading ends as its steps say, with no failed take. Otherwise a take failed, which is said, or memory was refused
abbrev pub Ends : {T : Type 0} → (Result T Answer → Type 0) → ℕ → Result T Refused → ℕ → Type 0
Ends Steps before (Ok value) after = Steps (Ok value) × (after ≡ before)
Ends Steps before (Err refused) after = RefusesBy (λ answer. (Steps (Err answer) × (after ≡ before)) ⊎ ((answer ≡ read_failed) × Rose before after)) refused

-- a file is asked for, and taken unless what follows is short
abbrev pub TakesOne : List ℕ → ℕ → Type 0 → DeskState → DeskState → Type 0
TakesOne name limit Short before after = (taken : Result (Vec ℕ) DeskFault) × Takes name limit before taken after × (Short ⊎ (¬ WasRefused taken))

-- a script's file is asked for, then the log's, where the script's was taken and passes.
-- Otherwise only the script's is asked for, and what follows is short
abbrev pub TakesBoth : List ℕ → List ℕ → Option (List ℕ) → Type 0 → DeskState → DeskState → Type 0
TakesBoth script log object Short before after =
    ((bytes : Vec ℕ) × (mid : DeskState) × Takes script MAX_SCRIPT_FILE before (Ok bytes) mid × PassesScript script object before.contents × TakesOne log MAX_LOG_FILE Short mid after)
    ⊎ (Short × ((taken : Result (Vec ℕ) DeskFault) × Takes script MAX_SCRIPT_FILE before taken after))
