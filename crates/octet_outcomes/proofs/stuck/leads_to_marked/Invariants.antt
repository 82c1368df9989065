use Rattle.std.proofs.Common.{◌≡◌, ℕ, suc, ◌<◌, [], false, get_or}
use Rattle.octet_outcomes.proofs.stuck.leads_to_marked.Given as goal

abbrev pub invariant-loop-thread : goal.invariant-loop-thread
invariant-loop-thread l = (k after : ℕ) → k < l.thread → get_or (get_or l.found.edges.rows l.place []) k 0 ≡ suc after → get_or l.marks after false ≡ false
