use Rattle.std.proofs.Common.{rules, ◌≡◌, ◌∙◌, ℕ, List, All, length, sym, ap, subst}
use Rattle.std.proofs.Math.ListN.{drop}
use Rattle.std.proofs.lemmas.List.{take_at}
use Rattle.octet_live.specs.Drained.{IsFresh}
use Rattle.octet_threads.specs.declared.heap.runner.Runner.{Runner}
use Rattle.octet_threads.specs.Runners.{AreOf, IsAtRest}
use Rattle.octet_threads.specs.Work.{SendEach, workers_in, threads_in}
use Rattle.octet_threads.proofs.runners.Places.{as_many, of_still, all_rest_still}
use Rattle.octet_threads.proofs.heap.live.open.Goals as goal

pub returns : goal.returns
returns c =
    let script = c.args.script.now in
    let made = c.in_ok-runners.runners.items in
    let last = c.connect_all.new.runners in
    let heap = c.in_ok-heap.heap in
    let value : c.as_mut_slice.result.now ≡ made = search rules in
    let workers = subst (λ (l : List Runner). workers_in last ≡ workers_in l) value c.connect_all.ensures.workers in
    let threads = subst (λ (l : List Runner). threads_in last ≡ threads_in l) value c.connect_all.ensures.threads in
    let long : length made ≡ c.in_ok-runners.runners.len = search rules in
    let many : length last ≡ c.in_ok-runners.runners.len = as_many made last workers threads ∙ long in
    let all = take_at last (drop (length last) made) c.in_ok-runners.runners.len many in
    let of = subst (AreOf script) (sym all) (of_still made last workers threads script c.in_ok-runners.ensures.of) in record {
      heap = record { threads = c.in_ok-heap.ensures.heap.0; fuel = c.in_ok-heap.ensures.heap.1; starts = c.in_ok-heap.ensures.heap.2 };
      runners = of;
      rest = subst (λ (l : List Runner). All (IsAtRest heap) l) (sym all) (all_rest_still made last workers threads heap c.in_ok-runners.ensures.rest);
      send = subst (SendEach c.in_ok-feeds.drainer) (sym all) c.connect_all.ensures.send;
      fresh = subst (λ (n : ℕ). IsFresh n c.in_ok-feeds.drainer) (c.thread_count.ensures.count ∙ sym of.as_many) c.in_ok-feeds.ensures.drainer;
    }
