use Rattle.octet_interp.specs.Leads.{IsMatched}
use Rattle.octet_interp.proofs.leads.find_leads.Given as goal

abbrev pub invariant-loop-place : goal.invariant-loop-place
invariant-loop-place l = IsMatched l.commands l.place l.opened.items l.leads.items
