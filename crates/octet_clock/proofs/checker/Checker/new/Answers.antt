use Rattle.std.proofs.Common.{◌≡◌, ◌≤◌, ℕ, ◌*◌, List, [], length, Some, slice_get, refl, sym, ap, ◌∙◌, subst, arith, rules}
use Rattle.std.proofs.lemmas.Option.{slice_get_within}
use Rattle.octet_model.specs.declared.limits.TheConstants.{MAX_THREADS}
use Rattle.octet_model.specs.Machine.{Journals}
use Rattle.octet_clock.specs.declared.marks.Marks.{Marks}
use Rattle.octet_clock.specs.declared.sources.Prefix.{Prefix}
use Rattle.octet_clock.specs.Past.{KeepsMarks}
use Rattle.octet_clock.specs.Sources.{KeepsDraws}
use Rattle.octet_clock.proofs.checker.Checker.new.Goals as goal

-- no mark is kept
keeps_none : (js : Journals) (t : ℕ) (marks : Marks) → marks.threads ≡ length js → marks.threads ≤ MAX_THREADS → marks.events.items ≡ [] → marks.counts.items ≡ [] → KeepsMarks js t 0 marks
keeps_none js t marks threads few events counts = record {
  threads = threads;
  few = few;
  rows = omega (arith, ap (λ (l : List ℕ). length l) counts, ap (λ (l : List ℕ). length l * marks.threads) events);
  rising = λ i j sooner later lt at_i at_j. absurd (none i sooner at_i);
  made = λ i event is. absurd (none i event is);
  all = λ event lt. absurd (omega (arith, lt));
  pasts = λ i event is. absurd (none i event is);
}
  where
    none : (i event : ℕ) → slice_get marks.events.items i ≡ Some event → ⊥
    none i event is = omega (arith, slice_get_within marks.events.items i event is, ap (λ (l : List ℕ). length l) events)

pub returns-clause-holds : goal.returns-clause-holds
returns-clause-holds c = λ journals play as_many. record {
  made = c.new-2.ensures.knows_none;
  marks = record {
    as_many = omega (arith, as_many, c.loop.invariant.many, c.loop-test.false, c.loop.auto.counter-end);
    each = λ thread one at.
        let none = c.loop.invariant.none thread one at in
        keeps_none journals thread one (none.0 ∙ sym as_many) (omega (arith, none.0, c.requires)) none.1 none.2;
  };
  draws = subst (λ (draws : List Prefix). KeepsDraws journals play 0 draws) (sym c.new-3.ensures.items) (record { counts = refl; each = λ place first is. absurd cc });
  accesses = search rules;
  judged = λ step lt. absurd (omega (arith, lt));
}
