use Rattle.std.proofs.Common.{◌∙◌, ap}
use Rattle.octet_script.specs.Parsing.{Draft, fuel_of}
use Rattle.octet_script.specs.Building.{draft}
use Rattle.octet_script.proofs.judging.Steps.{closed_ok}
use Rattle.octet_script.proofs.judging.Valid.{script_valid}
use Rattle.octet_script.proofs.builder.Builder.finish.Goals as goal

pub invariant_of-result : goal.invariant_of-result
invariant_of-result c =
    let p = draft c.args.self in
    let after = c.keep_thread.new.self in
    let with_present = c.in_ok-keep_thread.ensures.thread in
    let none = closed_ok p.openers c.in_ok-all_closed.ensures in
    record {
      valid = script_valid p c.fuel-fuel.result c.in_ok-objects.objects after.threads c.requires (c.fuel-fuel.ensures.value ∙ ap fuel_of with_present) (c.in_ok-objects.ensures ∙ ap (λ (q : Draft). q.objects) with_present) (ap (λ (q : Draft). q.threads) with_present) c.if-not-self.false none;
    }
