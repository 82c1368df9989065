use Rattle.std.proofs.Common.{◌≡◌, ℕ, List, [], length, All, replicate, rules, sym, subst, subst₂, ◌∙◌}
use Rattle.octet_model.specs.declared.command.Command.{Command}
use Rattle.octet_model.specs.Validity.{IsValidThread}
use Rattle.octet_model.proofs.lemmas.Validity.{valid_script}
use Rattle.octet_parallel.specs.Apart.{KnowsThreads, AreSeenIn, IsUnshared, use_of}
use Rattle.octet_parallel.proofs.players.Noting.{take_all}
use Rattle.octet_parallel.proofs.uses.Known.{apart_where_unshared, unshared_where_apart, seen_at_start}
use Rattle.octet_parallel.proofs.apart.are_apart.Goals as goal

pub note_threads-requires-clause-valid : goal.note_threads-requires-clause-valid
note_threads-requires-clause-valid c =
    let script = c.args.script.now in
    let room : length script.objects ≡ length c.as_mut_slice.result.now = search rules in
    let valid = valid_script script.fuel script.objects script.threads script.valid in
    subst₂ (λ (n : ℕ) (threads : List (List Command)). All (IsValidThread n) threads) room
    (sym c.as_slice.ensures) valid.each

pub returns : goal.returns
returns c =
    let script = c.args.script.now in
    let threads = c.as_slice.result.now in
    let uses = c.note_threads.new.uses in
    let start : c.as_mut_slice.result.now ≡ replicate (length script.objects) (use_of [] 0) = search rules in
    let unused = subst (AreSeenIn threads) (sym start) (seen_at_start threads (length script.objects)) in
    let known = subst (λ (all : List (List Command)). KnowsThreads uses all (length all))
    c.as_slice.ensures c.note_threads.ensures.known in
    let seen = subst (λ (all : List (List Command)). AreSeenIn all uses)
    c.as_slice.ensures (c.note_threads.ensures.seen unused) in
    let whole = c.as_slice-2.ensures.value ∙ take_all uses _ c.in_ok-uses.uses.len (search rules) in (
      λ none. apart_where_unshared script uses known (subst (All IsUnshared) whole (c.none_is_shared.ensures.0 none)),
      λ apart. c.none_is_shared.ensures.1 (subst (All IsUnshared) (sym whole)
          (unshared_where_apart script uses seen apart)),
    )
