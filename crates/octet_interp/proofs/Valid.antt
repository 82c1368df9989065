-- What the validity of a script says of one of its threads.
use Rattle.std.proofs.Common.{◌≡◌, ℕ, ◌+◌, ◌<◌, ◌≤◌, Bool, true, false, IsTrue, List, length, All, get_or, refl, sym, subst₂, ◌∙◌}
use Rattle.std.specs.List.{list_all}
use Rattle.std.proofs.lemmas.Bool.{and_parts}
use Rattle.std.proofs.lemmas.List.Folds.{list_all_at}
use Rattle.octet_model.specs.declared.command.Command.{Command}
use Rattle.octet_model.specs.declared.limits.TheConstants.{MAX_FUEL}
use Rattle.octet_model.specs.declared.object.Object.{Object}
use Rattle.octet_model.specs.Script.{is_thread, is_script}
use Rattle.octet_interp.specs.declared.context.Context.{Context}
use Rattle.octet_interp.specs.Leads.{IsLeadTable}
use Rattle.octet_model.specs.Validity.{IsCommand}
use Rattle.octet_model.proofs.lemmas.Validity.{valid_script}
use Rattle.octet_interp.specs.Context.{IsConsistent}

at_each : {X : Type 0} (test : X → Bool) (xs : List X) (i : ℕ) (d : X) → i < length xs → list_all test xs ≡ true → test (get_or xs i d) ≡ true
at_each test xs i d lt all = go (test (get_or xs i d)) refl
  where
    go : (b : Bool) → test (get_or xs i d) ≡ b → test (get_or xs i d) ≡ true
    go true is = is
    go false is = absurd (let none : true ≡ false = sym all ∙ list_all_at test xs i d lt is in cc)

pub thread_valid : (fuel : ℕ) (objects : List Object) (threads : List (List Command)) (thread : ℕ) (d : List Command) → IsTrue (is_script fuel objects threads) → thread < length threads → is_thread (length objects) (get_or threads thread d) ≡ true
thread_valid fuel objects threads thread d valid lt =
    at_each (is_thread (length objects)) threads thread d lt (and_parts _ (list_all (is_thread (length objects)) threads) valid).1

-- and the commands of one of its threads name what is there
pub commands_valid : (fuel : ℕ) (objects : List Object) (threads : List (List Command)) (thread : ℕ) (d : List Command) → IsTrue (is_script fuel objects threads) → thread < length threads → All (IsCommand (length objects)) (get_or threads thread d)
commands_valid fuel objects threads thread d valid lt = ((valid_script fuel objects threads valid).each thread d lt).in_range

-- a thread at its start, with its own commands and table
pub consistent_at_start : (objects number : ℕ) (commands items : List Command) (leads : List ℕ) (context : Context) → number ≡ objects → items ≡ commands
    → All (IsCommand objects) commands → IsLeadTable commands leads → context.regions + context.fuel ≤ MAX_FUEL → IsConsistent items leads number context false
consistent_at_start objects number commands items leads context numbered copied valid lead_table few =
    subst₂ (λ (n : ℕ) (cs : List Command). IsConsistent cs leads n context false) (sym numbered) (sym copied) (record {
      registers_there = λ place d lt. (valid place d lt).0;
      objects_there = λ place d lt. (valid place d lt).2;
      lead_table = lead_table;
      read_waits = λ waits. absurd cc;
      regions_took_fuel = few;
    })
