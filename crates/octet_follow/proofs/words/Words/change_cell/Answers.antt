use Rattle.std.proofs.Common.{rules, ◌+◌, ◌-◌, ◌^◌, Bool, true, false, ◌≡◌, ℕ, refl}
use Rattle.std.specs.Prelude.{◌==◌, ◌%◌, if◌then◌else◌, min, max, bit_and, bit_or, bit_xor}
use prog.Atomic.{either}
use Rattle.octet_rule.specs.Changes.{changed_by}
use Rattle.octet_rule.specs.declared.change.Change.TheVariants.{Add, Sub, Swap, CompareExchange, And, Or, Xor, Max, Min}
use Rattle.octet_follow.proofs.steps.Allowed.{updates}
use Rattle.octet_follow.proofs.words.Words.change_cell.Goals as goal

-- an exchange stores what the change makes of the word
exchanges : (expected new word : ℕ) → either (word == expected) new word ≡ changed_by (CompareExchange expected new) word
exchanges expected new word = by (word == expected)
  where
    by : (b : Bool) → either b new word ≡ (if b then new else word)
    by true = refl
    by false = refl

pub fetch_add-requires : goal.fetch_add-requires
fetch_add-requires c = (search rules, search rules, updates _ _ _ _ _ c.requires.live (Add c.in-Add.amount) (λ word. (word + c.in-Add.amount) % 2 ^ 64) _ c.requires.there.0 (λ word. refl) (search rules) (search rules))

pub fetch_sub-requires : goal.fetch_sub-requires
fetch_sub-requires c = (search rules, search rules, updates _ _ _ _ _ c.requires.live (Sub c.in-Sub.amount) (λ word. (word + (2 ^ 64 - c.in-Sub.amount)) % 2 ^ 64) _ c.requires.there.0 (λ word. refl) (search rules) (search rules))

pub swap-requires : goal.swap-requires
swap-requires c = (search rules, search rules, updates _ _ _ _ _ c.requires.live (Swap c.in-Swap.new) (λ word. c.in-Swap.new) _ c.requires.there.0 (λ word. refl) (search rules) (search rules))

pub compare_exchange-requires : goal.compare_exchange-requires
compare_exchange-requires c = (search rules, search rules, updates _ _ _ _ _ c.requires.live (CompareExchange c.in-CompareExchange.expected c.in-CompareExchange.new) (λ word. either (word == c.in-CompareExchange.expected) c.in-CompareExchange.new word) _ c.requires.there.0 (exchanges c.in-CompareExchange.expected c.in-CompareExchange.new) (search rules) (search rules))

pub fetch_and-requires : goal.fetch_and-requires
fetch_and-requires c = (search rules, search rules, updates _ _ _ _ _ c.requires.live (And c.in-And.mask) (λ word. bit_and word c.in-And.mask) _ c.requires.there.0 (λ word. refl) (search rules) (search rules))

pub fetch_or-requires : goal.fetch_or-requires
fetch_or-requires c = (search rules, search rules, updates _ _ _ _ _ c.requires.live (Or c.in-Or.mask) (λ word. bit_or word c.in-Or.mask) _ c.requires.there.0 (λ word. refl) (search rules) (search rules))

pub fetch_xor-requires : goal.fetch_xor-requires
fetch_xor-requires c = (search rules, search rules, updates _ _ _ _ _ c.requires.live (Xor c.in-Xor.mask) (λ word. bit_xor word c.in-Xor.mask) _ c.requires.there.0 (λ word. refl) (search rules) (search rules))

pub fetch_max-requires : goal.fetch_max-requires
fetch_max-requires c = (search rules, search rules, updates _ _ _ _ _ c.requires.live (Max c.in-Max.other) (λ word. max word c.in-Max.other) _ c.requires.there.0 (λ word. refl) (search rules) (search rules))

pub fetch_min-requires : goal.fetch_min-requires
fetch_min-requires c = (search rules, search rules, updates _ _ _ _ _ c.requires.live (Min c.in-Min.other) (λ word. min word c.in-Min.other) _ c.requires.there.0 (λ word. refl) (search rules) (search rules))
