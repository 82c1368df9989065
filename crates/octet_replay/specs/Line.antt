-- The line that says why a replay was refused.
use Rattle.std.specs.Prelude.{ℕ, List, [], ◌++◌, codes}
use Rattle.std.specs.List.{flat_map}
use Rattle.std.specs.Fmt.{decimal}
use Rattle.octet_model.specs.Texts.{value_word}
use Rattle.octet_replay.specs.declared.fault.ReplayFault.{ReplayFault}
use Rattle.octet_replay.specs.declared.fault.ReplayFault.TheVariants.{ThreadsDiffer, Stuck, Misfit, OutOfMemory}

-- the line of a refusal: both counts of threads, each thread's position, or the misfit's accesses.
-- Out of memory has no line
abbrev pub fit_line : ReplayFault → List ℕ
fit_line (ThreadsDiffer script log) = codes "fit: threads " ++ decimal script ++ codes " in the script, " ++ decimal log ++ codes " in the log\n"
fit_line (Stuck positions) = codes "fit: stuck at" ++ flat_map value_word positions ++ codes "\n"
fit_line (Misfit thread wanted found) =
    codes "fit: thread " ++ decimal thread ++ codes " wants " ++ decimal wanted ++ codes " accesses, found " ++ decimal found ++ codes "\n"
fit_line OutOfMemory = []
