use Rattle.std.proofs.Common.{length, arith}
use Rattle.octet_model.proofs.lemmas.Validity.{valid_script}
use Rattle.octet_interp.proofs.Valid.{consistent_at_start}
use Rattle.octet_interp.proofs.config.Config.new.Goals as goal

pub invariant_of-result : goal.invariant_of-result
invariant_of-result c =
    consistent_at_start (length c.args.script.now.objects) c.len.result c.commands_of-commands.result.now c.in_ok-from_slice.field-0.items _ _
    c.len.ensures c.in_ok-from_slice.ensures.items c.commands_of-commands.ensures.in_range c.in_ok-find_leads.ensures (let few = (valid_script c.args.script.now.fuel c.args.script.now.objects c.args.script.now.threads c.args.script.now.valid).most_fuel in omega (arith, few))
