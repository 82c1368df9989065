-- The accesses of a generated script.
use Rattle.std.proofs.Common.{◌≡◌, ℕ, suc, ◌*◌, ◌<◌, List, [], ◌∷◌, length, get_or, refl, ap, ◌∙◌, arith, subst₂}
use Rattle.std.specs.List.{sum_by}
use Rattle.std.proofs.lemmas.List.FromFn.{get_or-map-range_with_len}
use Rattle.std.proofs.lemmas.List.Sums.{sum_by-cons}
use Rattle.octet_model.specs.declared.command.Command.{Command}
use Rattle.octet_model.specs.declared.log.ThreadLog.{ThreadLog}
use Rattle.octet_model.specs.Thread.{starting_configuration, FitsToEnd}
use Rattle.octet_model.specs.Machine.{Journals}
use Rattle.octet_model.specs.Journals.{access_count, log_of_journal, log_of}
use Rattle.octet_model.specs.Orders.{commands_of}
use Rattle.octet_gen.specs.Generated.{accesses_from, generated_thread, generated_threads}
use Rattle.octet_gen.specs.Laws.{ThreadMakesItsAccesses, ScriptMakesItsAccesses}
use Rattle.octet_gen.proofs.Valid.{access_has, accesses_have, length-accesses, length-threads}
use Rattle.octet_gen.proofs.Rounds.{IsDrawn, a-read, a-write, loop_makes_its_accesses}

pub thread_makes_its_accesses : ThreadMakesItsAccesses
thread_makes_its_accesses number thread journal fit =
    loop_makes_its_accesses (accesses_from number (16 * thread) thread 16)
    (accesses_have IsDrawn number (16 * thread) thread 16 (λ draw. access_has IsDrawn thread draw (a-write _) (a-read _)))
    (length-accesses number (16 * thread) thread 16) journal fit

thread_is : (number count thread : ℕ) → thread < count → get_or (generated_threads number count) thread [] ≡ generated_thread number thread
unfolding generated_threads
thread_is number count thread lt = get_or-map-range_with_len (generated_thread number) 0 count thread thread [] lt (omega arith)

sum_of_same : (journals : Journals) → ((thread : ℕ) → thread < length journals → access_count (get_or journals thread []) ≡ 20000) → sum_by (λ thread. thread.accesses) (log_of journals) ≡ length journals * 20000
sum_of_same [] same = refl
sum_of_same (journal ∷ journals) same =
    let first : access_count journal ≡ 20000 = same 0 (omega arith) in
    let rest : sum_by (λ thread. thread.accesses) (log_of journals) ≡ length journals * 20000 = sum_of_same journals (λ thread lt. same (suc thread) (omega arith)) in
    sum_by-cons (λ (thread : ThreadLog). thread.accesses) (log_of_journal journal) (log_of journals) ∙ omega arith

pub script_makes_its_accesses : ScriptMakesItsAccesses
script_makes_its_accesses number script journals generated many fits =
    let eight : length journals ≡ 8 = many ∙ ap length generated.threads ∙ length-threads number 8 in
    sum_of_same journals (λ thread lt.
    let commands : commands_of script thread ≡ generated_thread number thread = ap (λ threads. get_or threads thread []) generated.threads ∙ thread_is number 8 thread (omega arith) in
    thread_makes_its_accesses number thread (get_or journals thread [])
    (subst₂ (λ (cs : List Command) (fuel : ℕ). FitsToEnd cs (starting_configuration fuel) (get_or journals thread [])) commands generated.fuel (fits thread lt)))
    ∙ ap (λ n. n * 20000) eight
