use Rattle.std.proofs.Common.{◌-◌, inl, inr, arith}
use Rattle.std.proofs.lemmas.Bool.{cases_eq}
use Rattle.octet_clock.proofs.checks.Conflicts.{all_known, last_is_unordered, not_own, by_a_thread}
use Rattle.octet_clock.proofs.accesses.Accesses.unordered_conflict.Goals.{else-other-thread-via-then-other-thread+else-last-count, else-other-thread-via-else-other-thread}
use Rattle.octet_clock.proofs.accesses.Accesses.unordered_conflict.Goals as goal

pub returns-then-last-count : goal.returns-then-last-count
returns-then-last-count c = λ journals play index many keeps access.
    last_is_unordered journals play index c.args.thread c.args.object c.args.writing c.args.known.now access c.loop-other.other c.last_conflict-last.result (c.last_conflict-last.ensures journals play index keeps)
    c.if-other-thread.true (omega (arith, c.count.ensures)) (c.last_conflict-last.result - 1) (omega arith) (c.loop-other.invariant journals play index many keeps access)

pub loop-other-init : goal.loop-other-init
loop-other-init c = λ journals play index many keeps access place lt conflict. absurd (omega arith)

pub loop-other-preserved : goal.loop-other-preserved
loop-other-preserved c = λ journals play index many keeps access place lt conflict.
    elim (cases_eq place.thread c.loop-other.other) [
      | inr differ ↦ c.loop-other.invariant journals play index many keeps access place (omega arith) conflict
      | inl same ↦ elim c.else-other-thread.branch [
        | else-other-thread-via-then-other-thread+else-last-count w ↦
            all_known journals play index c.args.thread c.args.object c.args.writing c.args.known.now access c.loop-other.other c.last_conflict-last.result (c.last_conflict-last.ensures journals play index keeps)
            (omega (arith, w.count.ensures, w.if-last-count.false)) place same conflict
        | else-other-thread-via-else-other-thread w ↦
            absurd (not_own journals play index c.args.thread c.args.object c.args.writing c.args.known.now access place (omega (arith, w.if-other-thread.false)) conflict)
      ]
    ]

pub returns : goal.returns
returns c = λ journals play index many keeps access place conflict.
    let within = by_a_thread journals play index c.args.thread c.args.object c.args.writing c.args.known.now access place conflict in
    c.loop-other.invariant journals play index many keeps access place (omega arith) conflict
