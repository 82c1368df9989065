use Rattle.std.proofs.Common.{rules, ◌+◌, ◌-◌, ◌^◌, refl}
use Rattle.std.specs.Prelude.{◌==◌, ◌%◌, min, max, bit_and, bit_or, bit_xor}
use prog.Atomic.{either}
use Rattle.octet_rule.specs.declared.change.Change.TheVariants.{Add, Sub, Swap, CompareExchange, And, Or, Xor, Max, Min}
use Rattle.octet_rule.proofs.Changed.{changes, exchanges}
use Rattle.octet_rule.proofs.words.Words.change_cell.Goals as goal

pub fetch_add-requires : goal.fetch_add-requires
fetch_add-requires c = (search rules, search rules, changes _ _ _ _ _ c.requires.live (Add c.in-Add.amount) (λ word. (word + c.in-Add.amount) % 2 ^ 64) _ c.in-Add.amount 0 c.args.object (λ word. refl) (search rules) c.requires.due c.requires.phase (search rules) (search rules))

pub fetch_sub-requires : goal.fetch_sub-requires
fetch_sub-requires c = (search rules, search rules, changes _ _ _ _ _ c.requires.live (Sub c.in-Sub.amount) (λ word. (word + (2 ^ 64 - c.in-Sub.amount)) % 2 ^ 64) _ c.in-Sub.amount 0 c.args.object (λ word. refl) (search rules) c.requires.due c.requires.phase (search rules) (search rules))

pub swap-requires : goal.swap-requires
swap-requires c = (search rules, search rules, changes _ _ _ _ _ c.requires.live (Swap c.in-Swap.new) (λ word. c.in-Swap.new) _ c.in-Swap.new 0 c.args.object (λ word. refl) (search rules) c.requires.due c.requires.phase (search rules) (search rules))

pub compare_exchange-requires : goal.compare_exchange-requires
compare_exchange-requires c = (search rules, search rules, changes _ _ _ _ _ c.requires.live (CompareExchange c.in-CompareExchange.expected c.in-CompareExchange.new) (λ word. either (word == c.in-CompareExchange.expected) c.in-CompareExchange.new word) _ c.in-CompareExchange.expected c.in-CompareExchange.new c.args.object (exchanges c.in-CompareExchange.expected c.in-CompareExchange.new) (search rules) c.requires.due c.requires.phase (search rules) (search rules))

pub fetch_and-requires : goal.fetch_and-requires
fetch_and-requires c = (search rules, search rules, changes _ _ _ _ _ c.requires.live (And c.in-And.mask) (λ word. bit_and word c.in-And.mask) _ c.in-And.mask 0 c.args.object (λ word. refl) (search rules) c.requires.due c.requires.phase (search rules) (search rules))

pub fetch_or-requires : goal.fetch_or-requires
fetch_or-requires c = (search rules, search rules, changes _ _ _ _ _ c.requires.live (Or c.in-Or.mask) (λ word. bit_or word c.in-Or.mask) _ c.in-Or.mask 0 c.args.object (λ word. refl) (search rules) c.requires.due c.requires.phase (search rules) (search rules))

pub fetch_xor-requires : goal.fetch_xor-requires
fetch_xor-requires c = (search rules, search rules, changes _ _ _ _ _ c.requires.live (Xor c.in-Xor.mask) (λ word. bit_xor word c.in-Xor.mask) _ c.in-Xor.mask 0 c.args.object (λ word. refl) (search rules) c.requires.due c.requires.phase (search rules) (search rules))

pub fetch_max-requires : goal.fetch_max-requires
fetch_max-requires c = (search rules, search rules, changes _ _ _ _ _ c.requires.live (Max c.in-Max.other) (λ word. max word c.in-Max.other) _ c.in-Max.other 0 c.args.object (λ word. refl) (search rules) c.requires.due c.requires.phase (search rules) (search rules))

pub fetch_min-requires : goal.fetch_min-requires
fetch_min-requires c = (search rules, search rules, changes _ _ _ _ _ c.requires.live (Min c.in-Min.other) (λ word. min word c.in-Min.other) _ c.in-Min.other 0 c.args.object (λ word. refl) (search rules) c.requires.due c.requires.phase (search rules) (search rules))
