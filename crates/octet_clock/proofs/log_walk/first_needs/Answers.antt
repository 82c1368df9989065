use Rattle.std.proofs.Common.{◌≡◌, ℕ, List, [], length, slice_get, sym, ap, ◌∙◌, subst, arith, length-append}
use Rattle.octet_model.specs.declared.log.ThreadLog.{ThreadLog}
use Rattle.octet_replay.specs.declared.need.Need.{Need}
use Rattle.octet_replay.specs.Threads.{need_of}
use Rattle.octet_replay.proofs.lemmas.Reading.{log_read, holds_pushed}
use Rattle.octet_clock.specs.Untied.{by_log_alone, next_by_log_alone}
use Rattle.octet_clock.proofs.plays.WalksAlone.{by_progress}
use Rattle.octet_clock.proofs.log_walk.first_needs.Goals as goal

pub loop-log-preserved : goal.loop-log-preserved
loop-log-preserved c =
    let logs = c.args.logs.now in
    let k = c.loop-log.log-index in
    let own = c.log-item.result in
    let own_is = log_read logs k own c.log-item.is c.loop-log-test.true in
    let new : c.need.result ≡ need_of (by_log_alone logs k []) =
    c.need.ensures ∙ ap need_of (sym (by_progress own c.start.result [] c.start.ensures)) ∙ ap (λ (l : ThreadLog). need_of (next_by_log_alone l [])) own_is in
    let P : ℕ → Need → Type 0 = λ t need. need ≡ need_of (by_log_alone logs t []) in
    let many = c.loop-log.invariant.as_many in
    record {
      as_many = omega (arith, ap (λ (ns : List Need). length ns) c.in_ok-push.ensures.ok, length-append {A = Need}, many);
      each = λ t need at.
          holds_pushed P c.loop-log.needs c.need.result c.loop-log.invariant.each (subst (λ (n : ℕ). P n c.need.result) (sym many) new)
          t need (ap (λ (ns : List Need). slice_get ns t) (sym c.in_ok-push.ensures.ok) ∙ at);
    }
