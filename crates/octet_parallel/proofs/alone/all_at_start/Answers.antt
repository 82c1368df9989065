use Rattle.std.proofs.Common.{ℕ, [], List, length, ap, sym, subst, arith, length-append}
use Rattle.octet_parallel.specs.declared.alone.Alone.{Alone}
use Rattle.octet_parallel.specs.Alone.{AreAtStart, IsAloneAfter}
use Rattle.octet_parallel.proofs.solo.Together.{at_each_more}
use Rattle.octet_parallel.proofs.alone.all_at_start.Goals as goal

pub loop-number-preserved : goal.loop-number-preserved
loop-number-preserved c =
    let script = c.args.script.now in
    let log = c.args.log.now.threads in
    let i = c.loop-number.invariant in
    let P : ℕ → Alone → Type 0 = λ thread alone. IsAloneAfter script log thread [] alone in
    let it = c.in_ok-new.field-0 in
    let new : P (length c.loop-number.threads.items) it = subst (λ (n : ℕ). P n it) (sym i.as_many) c.in_ok-new.ensures in
    record {
      as_many = omega (arith, ap (λ (xs : List Alone). length xs) c.in_ok-push.ensures.items, length-append {A = Alone}, i.as_many);
      each = subst (AreAtStart script log) (sym {A = List Alone} c.in_ok-push.ensures.items) (at_each_more P c.loop-number.threads.items it i.each new);
    }
