use Rattle.std.proofs.Common.{◌≡◌, ℕ, List, length, sym, ap, ◌∙◌, subst, arith}
use Rattle.octet_interp.specs.Standing.{ThreadProgram}
use Rattle.octet_outcomes.specs.Rows.{RowsState}
use Rattle.octet_outcomes.specs.Runs.{AreProgramsOf}
use Rattle.octet_outcomes.proofs.Closing.{begins}
use Rattle.octet_outcomes.proofs.Ways.{found_begun}
use Rattle.octet_outcomes.proofs.search.Searched.begin.Goals as goal

pub returns-clause-searched : goal.returns-clause-searched
returns-clause-searched c =
    let script = c.args.script.now in
    let guides : AreProgramsOf script c.deref.result.now = subst (λ (ps : List ThreadProgram). AreProgramsOf script ps) (sym c.deref.ensures.value) c.in_ok-guides.ensures in
    let heaped = c.deref-2.ensures.value ∙ c.in_ok-heap.ensures in
    let none : length c.new-edges.result.rows ≡ 0 = ap (λ (e : RowsState ℕ). length e.rows) c.new-edges.ensures in
    record {
      programs = c.in_ok-guides.ensures;
      moments = begins script c.deref.result.now c.deref-2.result.now c.in_ok-moments.moments guides heaped c.in_ok-moments.ensures;
      ways = found_begun script c.deref.result.now c.deref-2.result.now c.in_ok-moments.moments c.in_ok-tree.tree.steps.items guides heaped c.in_ok-moments.ensures c.in_ok-tree.ensures;
      width = omega (arith, ap (λ (e : RowsState ℕ). e.width) c.new-edges.ensures, c.thread_count-threads.ensures.count);
      led = λ place lt. absurd (omega (arith, lt, none));
      within = omega (arith, none);
    }
