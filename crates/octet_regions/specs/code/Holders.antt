-- Which threads may have a bound.
use Rattle.std.specs.Prelude.{ℕ, ◌==◌, Bool, true, false}
use Rattle.octet_regions.specs.declared.bounds.Holders.{Holders}
use Rattle.octet_regions.specs.declared.bounds.Holders.TheVariants.{None, One, Several}

-- the test whether a thread may have a bound
abbrev pub may_have : Holders → ℕ → Bool
may_have None thread = false
may_have (One own) thread = thread == own
may_have Several thread = true
