use Rattle.std.proofs.Common.{ℕ, ◌∙◌, List, sym, subst, arith}
use Rattle.octet_clock.specs.declared.marks.Marks.{Marks}
use Rattle.octet_clock.specs.Past.{IsPastOf}
use Rattle.octet_clock.specs.Sources.{KeepsAllMarks}
use Rattle.octet_clock.proofs.checker.Checker.unordered_conflict.Goals as goal

pub returns : goal.returns
returns c = λ journals play index event next of does holds.
    let marks = subst (λ (m : List Marks). KeepsAllMarks journals play index m) (sym c.deref.ensures.value) holds.marks in
    let made = c.count.ensures ∙ holds.made c.args.thread in
    let within = next.step.within in
    let past = c.clock_after-known.ensures journals play index next.whole (omega arith) marks (omega arith) in
    let past' = subst (λ (n : ℕ). IsPastOf journals c.args.thread n c.clock_after-known.result) made past in
    c.unordered_conflict.ensures journals play index (omega (arith, c.len.ensures, holds.marks.as_many)) holds.accesses (record { event = event; next = next; is_of = of; does = does; past = past' })
