use Rattle.std.proofs.Common.{rules, ◌≡◌, ◌+◌, ℕ, List, [], ◌∷◌, ◌++◌, length, length-append, slice_index_or, All, sym, ap, subst, arith}
use Rattle.std.proofs.lemmas.List.Elements.{All-push}
use Rattle.octet_heap.specs.declared.worker.Worker.{Worker}
use Rattle.octet_heap.specs.Seated.{IsNew}
use Rattle.octet_threads.specs.declared.heap.runner.Runner.{Runner}
use Rattle.octet_threads.specs.Runners.{IsAtRest, IsOf}
use Rattle.octet_threads.proofs.runners.Opening.{AreNew, are_new, each_more, EachOf}
use Rattle.octet_threads.proofs.heap.running.runners.Goals as goal

pub loop-worker-init : goal.loop-worker-init
loop-worker-init c =
    let none : c.new-runners.result.items ≡ [] = search rules in
    let all : c.into_iter-worker-iterator.result.rest.items ≡ c.args.workers.items = search rules in record {
      new = subst (AreNew c.args.heap.now 0) (sym all) (are_new c.args.heap.now 0 c.args.workers.items (λ t other there. let same : t ≡ 0 + t = omega arith in
          subst (λ (n : ℕ). IsNew c.args.heap.now n (slice_index_or c.args.workers.items t other)) same (c.requires.new t other there)));
      left = omega (arith, ap (λ (l : List Worker). length l) all, c.requires.as_many);
      many = ap (λ (l : List Runner). length l) none;
      rest = subst (All (IsAtRest c.args.heap.now)) (sym none) (λ k d there. absurd (omega (arith, there)));
      of = subst (EachOf c.args.script.now) (sym none) (λ t other there. absurd (omega (arith, there)));
    }

pub loop-worker-preserved : goal.loop-worker-preserved
loop-worker-preserved c =
    let i = c.loop-worker.invariant in
    let next : c.loop-worker.worker-iterator.rest.items ≡ c.in-Some.worker ∷ c.next.new.self.rest.items = search rules in
    let pushed : c.push.new.self.items ≡ c.loop-worker.runners.items ++ c.in_ok-runner.field-0 ∷ [] = search rules in
    let more = each_more (IsOf c.args.script.now) c.loop-worker.runners.items c.in_ok-runner.field-0 i.of (subst (λ (t : ℕ). IsOf c.args.script.now t c.in_ok-runner.field-0) (sym i.many) c.in_ok-runner.ensures.of) in
    let new = subst (AreNew c.args.heap.now c.loop-worker.thread) next i.new in record {
      new = new.1;
      left = omega (arith, i.left, ap (λ (l : List Worker). length l) next);
      many = omega (arith, i.many, ap (λ (l : List Runner). length l) pushed, length-append c.loop-worker.runners.items (c.in_ok-runner.field-0 ∷ []));
      rest = subst (All (IsAtRest c.args.heap.now)) (sym pushed) (All-push (IsAtRest c.args.heap.now) c.loop-worker.runners.items c.in_ok-runner.field-0 i.rest c.in_ok-runner.ensures.rests);
      of = subst (EachOf c.args.script.now) (sym pushed) more;
    }
