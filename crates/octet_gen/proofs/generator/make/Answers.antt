use Rattle.octet_gen.proofs.Valid.{script_is_valid}
use Rattle.octet_gen.proofs.generator.make.Goals as goal

pub invariant_of-result : goal.invariant_of-result
invariant_of-result c = record { valid = script_is_valid c.args.number c.in_ok-objects.objects c.in_ok-threads.threads c.in_ok-objects.ensures.names c.in_ok-threads.ensures }
