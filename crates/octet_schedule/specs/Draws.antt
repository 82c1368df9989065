-- The numbers of a sequence, which is SplitMix64 from its seed on.
use Rattle.std.specs.Prelude.{ℕ, zero, suc}
use Rattle.rand_xoshiro.specs.SplitMix64.{mix_u64}

-- the number that is drawn
unfoldable pub drawn : ℕ → ℕ
drawn state = (mix_u64 state).0

-- the sequence after it
unfoldable pub next_draws : ℕ → ℕ
next_draws state = (mix_u64 state).1

-- the sequence after so many
unfoldable pub draws_after : ℕ → ℕ → ℕ
draws_after state zero = state
draws_after state (suc count) = next_draws (draws_after state count)
