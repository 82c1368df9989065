-- Steps of a reading, one after the other.
use Rattle.octet_model.specs.declared.limits.TheConstants.{MAX_LOG_FILE, MAX_SCRIPT_FILE}
use Rattle.std.proofs.Common.{◌≡◌, ◌∙◌, ℕ, List, Option, None, Some, Result, Ok, Err, inl, inr}
use Rattle.std.specs.Global.{Vec}
use Rattle.octet_base.specs.Desk.{Contents, DeskState, Takes, IsCalled, with_call}
use Rattle.octet_base.specs.declared.call.Call.TheVariants.{Take}
use Rattle.octet_log.specs.declared.loader.Loaded.{Loaded}
use Rattle.octet_commands.specs.declared.refusal.Refused.{Refused}
use Rattle.octet_commands.specs.declared.refusal.Refused.TheVariants.{Because, OutOfMemory}
use Rattle.octet_commands.specs.Answer.{Answer, answer_of}
use Rattle.octet_commands.specs.Inputs.{◌>>=◌, IsLogRead, Comes, Ends, WasRefused, TakesOne, TakesBoth}

module _ {A B : Type 0} (first : Result A Answer → Type 0) (next : A → Result B Answer → Type 0) where
  -- a refusal is that of the whole
  pub comes_stop : (stop : Refused) → Comes first (Err stop) → Comes (first >>= next) (Err stop)
  comes_stop (Because reply) refused = inl refused
  comes_stop OutOfMemory refused = tt

  pub ends_stop : (before after : ℕ) (stop : Refused) → Ends first before (Err stop) after → Ends (first >>= next) before (Err stop) after
  ends_stop before after (Because reply) (inl (refused, same)) = inl (inl refused, same)
  ends_stop before after (Because reply) (inr failed) = inr failed
  ends_stop before after OutOfMemory refused = tt

  -- after a value, what the next step comes to is what the whole comes to
  pub ends_then : (before after : ℕ) (x : A) (result : Result B Refused) → Ends first before (Ok x) after → Comes (next x) result → Ends (first >>= next) before result after
  ends_then before after x (Ok y) (is, same) comes = ((x, is, comes), same)
  ends_then before after x (Err (Because reply)) (is, same) comes = inl (inr (x, is, comes), same)
  ends_then before after x (Err OutOfMemory) (is, same) comes = tt

  pub ends_next : (before mid after : ℕ) (x : A) (result : Result B Refused) → Ends first before (Ok x) mid → Ends (next x) mid result after → Ends (first >>= next) before result after
  ends_next before mid after x (Ok y) (is, same) (comes, later) = ((x, is, comes), later ∙ same)
  ends_next before mid after x (Err (Because reply)) (is, same) (inl (refused, later)) = inl (inr (x, is, refused), later ∙ same)
  ends_next before mid after x (Err (Because reply)) (is, same) (inr (said, rose)) = inr (said, rw (← same) rose)
  ends_next before mid after x (Err OutOfMemory) (is, same) comes = tt

-- taking a file changes no file
pub log_ends_before : (name script : List ℕ) (bytes : Vec ℕ) (before mid : DeskState) (faults after : ℕ) (result : Result Loaded Refused) → Takes script MAX_SCRIPT_FILE before (Ok bytes) mid
    → Ends (IsLogRead name mid.contents) faults result after → Ends (IsLogRead name before.contents) faults result after
log_ends_before name script bytes before mid faults after result takes = by takes.contents
  where
    same : (contents : Option Contents) (read : Result Loaded Answer) → IsLogRead name (with_call (Take script MAX_SCRIPT_FILE) contents) read → IsLogRead name contents read
    same None (Ok loaded) read = read
    same None (Err answer) read = read
    same (Some t) (Ok loaded) read = read
    same (Some t) (Err answer) read = read

    changed : (result : Result Loaded Refused) → Ends (IsLogRead name (with_call (Take script MAX_SCRIPT_FILE) before.contents)) faults result after → Ends (IsLogRead name before.contents) faults result after
    changed (Ok loaded) (read, is) = (same before.contents (Ok loaded) read, is)
    changed (Err (Because reply)) (inl (read, is)) = inl (same before.contents (Err (answer_of reply)) read, is)
    changed (Err (Because reply)) (inr failed) = inr failed
    changed (Err OutOfMemory) ends = tt

    by : IsCalled (Ok bytes) (Take script MAX_SCRIPT_FILE) before.contents mid.contents → Ends (IsLogRead name mid.contents) faults result after → Ends (IsLogRead name before.contents) faults result after
    by (inl is) ends = changed result (rw (← is) ends)
    by (inr (never, is)) ends = absurd cc

-- a file that was taken in a reading that went well
pub was_taken : {T : Type 0} (name : List ℕ) (limit : ℕ) (value : T) (before after : DeskState) → TakesOne name limit (WasRefused {T = T} {E = Refused} (Ok value)) before after → (bytes : Vec ℕ) × Takes name limit before (Ok bytes) after
was_taken name limit value before after (taken, takes, inl never) = absurd never
was_taken name limit value before after (Ok bytes, takes, inr well) = (bytes, takes)
was_taken name limit value before after (Err fault, takes, inr well) = absurd (well tt)

-- a reading that follows may be short
pub as_short : (name : List ℕ) (limit : ℕ) (Short Other : Type 0) (before after : DeskState) → (Short → Other) → TakesOne name limit Short before after → TakesOne name limit Other before after
as_short name limit Short Other before after on (taken, takes, inl short) = (taken, takes, inl (on short))
as_short name limit Short Other before after on (taken, takes, inr well) = (taken, takes, inr well)

pub both_as_short : (script log : List ℕ) (object : Option (List ℕ)) (Short Other : Type 0) (before after : DeskState) → (Short → Other) → TakesBoth script log object Short before after → TakesBoth script log object Other before after
both_as_short script log object Short Other before after on (inl (bytes, mid, takes, passes, next)) = inl (bytes, mid, takes, passes, as_short log MAX_LOG_FILE Short Other mid after on next)
both_as_short script log object Short Other before after on (inr (short, alone)) = inr (on short, alone)

-- files that are taken leave what is begun, and the count of failed writes
pub one_keeps : (name : List ℕ) (limit : ℕ) (Short : Type 0) (before after : DeskState) → TakesOne name limit Short before after → (after.begun ≡ before.begun) × (after.write_faults ≡ before.write_faults)
one_keeps name limit Short before after (taken, takes, well) = (takes.begun, takes.write_faults)

pub both_keep : (script log : List ℕ) (object : Option (List ℕ)) (Short : Type 0) (before after : DeskState) → TakesBoth script log object Short before after → (after.begun ≡ before.begun) × (after.write_faults ≡ before.write_faults)
both_keep script log object Short before after (inl (bytes, mid, takes, passes, next)) = let later = one_keeps log MAX_LOG_FILE Short mid after next in (later.0 ∙ takes.begun, later.1 ∙ takes.write_faults)
both_keep script log object Short before after (inr (short, (taken, takes))) = (takes.begun, takes.write_faults)
