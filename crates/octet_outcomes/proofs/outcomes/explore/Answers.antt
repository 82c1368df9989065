use Rattle.std.proofs.Common.{ℕ, ◌<◌, sym, subst}
use Rattle.octet_outcomes.proofs.outcomes.explore.Goals as goal

pub returns-clause-all : goal.returns-clause-all
returns-clause-all c whole = c.in_ok-endings.ensures.all (c.seen_of-seen.ensures.whole whole)

pub returns-clause-most : goal.returns-clause-most
returns-clause-most c most = let cut = c.seen_of-seen.ensures.most most in subst (λ (n : ℕ). c.args.most < n) (sym c.len.ensures) (c.in_ok-found.ensures.whole cut.0 cut.1)

pub returns-clause-free : goal.returns-clause-free
returns-clause-free c whole none = c.in_ok-stuck.ensures.none (c.seen_of-seen.ensures.whole whole) none
