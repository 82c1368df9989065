-- A builder as what the lines so far have said, and what makes it a script.
use Rattle.std.specs.Prelude.{◌≡◌, ◌*◌, ◌≤◌, true, false, reverse, length, List, [], ◌++◌, IfSome}
use Rattle.std.specs.List.{list_all}
use Rattle.octet_model.specs.declared.limits.TheConstants.{MAX_FUEL, MAX_OBJECTS, MAX_THREADS}
use Rattle.octet_model.specs.declared.command.Command.{Command}
use Rattle.octet_model.specs.Script.{is_command, is_nested, is_thread, are_distinct}
use Rattle.octet_script.specs.declared.builder.Builder.{Builder}
use Rattle.octet_script.specs.Parsing.{Draft, threads_of, names_of, fuel_of}

-- what the lines so far have said, as the builder holds it
abbrev pub draft : Builder → Draft
draft b = record {
  fuel = b.fuel;
  objects = b.objects;
  started = b.started;
  threads = b.threads;
  commands = b.commands;
  openers = reverse b.openers.items;
}

-- the draft whose present thread stands among the threads before it
abbrev pub with_present_thread : Draft → Draft
with_present_thread p = record p { threads = threads_of p; commands = [] }

-- a draft is valid so far: all it says is within its limits.
-- Its openers are those that are still open and need an `end`
pub record IsValidSoFar (p : Draft) : Type 0 where
  pub fuel : IfSome p.fuel (λ fuel. (1 ≤ fuel) × (fuel ≤ MAX_FUEL))
  pub objects : length p.objects ≤ MAX_OBJECTS
  pub names : are_distinct (names_of p) ≡ true
  pub count : length (threads_of p) ≤ MAX_THREADS
  pub enough : length (threads_of p) * fuel_of p ≤ MAX_FUEL
  pub threads : list_all (is_thread (length p.objects)) p.threads ≡ true
  pub commands : list_all (is_command (length p.objects)) p.commands ≡ true
  pub nested : (rest : List Command) → is_nested 0 (p.commands ++ rest) ≡ is_nested (length p.openers) rest
  pub nothing : p.started ≡ false → (p.threads ≡ []) × (p.commands ≡ []) × (p.openers ≡ [])
