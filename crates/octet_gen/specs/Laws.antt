-- What holds of each generated script, as the public functions of laws.rt prove it.
use Rattle.std.specs.Prelude.{◌≡◌, ℕ, List, length}
use Rattle.std.specs.List.{sum_by}
use Rattle.octet_model.specs.declared.event.Event.{Event}
use Rattle.octet_model.specs.declared.script.Script.{Script}
use Rattle.octet_model.specs.Thread.{starting_configuration, FitsToEnd}
use Rattle.octet_model.specs.Machine.{Journals}
use Rattle.octet_model.specs.Journals.{access_count, log_of}
use Rattle.octet_model.specs.Orders.{FitsScript}
use Rattle.octet_gen.specs.Generated.{generated_thread, IsGenerated}

-- a journal that fits a generated thread to its end has 20,000 accesses
abbrev pub ThreadMakesItsAccesses : Type 0
ThreadMakesItsAccesses = (number thread : ℕ) (journal : List Event)
    → FitsToEnd (generated_thread number thread) (starting_configuration 32768) journal → access_count journal ≡ 20000

-- the log of journals that fit a generated script has 160,000 accesses in all
abbrev pub ScriptMakesItsAccesses : Type 0
ScriptMakesItsAccesses = (number : ℕ) (script : Script) (journals : Journals)
    → IsGenerated number script → length journals ≡ length script.threads → FitsScript script journals
    → sum_by (λ thread. thread.accesses) (log_of journals) ≡ 160000
