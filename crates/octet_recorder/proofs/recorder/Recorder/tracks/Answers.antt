use Rattle.std.proofs.Common.{rules, ◌≡◌, ◌+◌, ℕ, List, [], ◌∷◌, ◌++◌, length, length-append, slice_index_or, sym, ap, subst, arith}
use Rattle.octet_heap.specs.declared.worker.Worker.{Worker}
use Rattle.octet_heap.specs.Seated as seated
use Rattle.octet_recorder.specs.declared.track.Track.{Track}
use Rattle.octet_recorder.specs.Tracks.{IsNew, EachNew}
use Rattle.octet_recorder.proofs.Beginning.{AreNew, are_new, each_more}
use Rattle.octet_recorder.proofs.recorder.Recorder.tracks.Goals as goal

pub loop-worker-init : goal.loop-worker-init
loop-worker-init c =
    let none : c.new-tracks.result.items ≡ [] = search rules in
    let all : c.into_iter-worker-iterator.result.rest.items ≡ c.args.workers.items = search rules in record {
      new = subst (AreNew c.args.self.now.heap 0) (sym all) (are_new c.args.self.now.heap 0 c.args.workers.items (λ t other there. let same : t ≡ 0 + t = omega arith in
          subst (λ (n : ℕ). seated.IsNew c.args.self.now.heap n (slice_index_or c.args.workers.items t other)) same (c.requires.new t other there)));
      left = omega (arith, ap (λ (l : List Worker). length l) all, c.requires.as_many);
      many = ap (λ (l : List Track). length l) none;
      tracks = subst (EachNew c.args.self.now) (sym none) (λ t other there. absurd (omega (arith, there)));
    }

pub loop-worker-preserved : goal.loop-worker-preserved
loop-worker-preserved c =
    let i = c.loop-worker.invariant in
    let next : c.loop-worker.worker-iterator.rest.items ≡ c.in-Some.worker ∷ c.next.new.self.rest.items = search rules in
    let pushed : c.push.new.self.items ≡ c.loop-worker.tracks.items ++ c.in_ok-track.field-0 ∷ [] = search rules in
    let more = each_more (IsNew c.args.self.now) c.loop-worker.tracks.items c.in_ok-track.field-0 i.tracks (subst (λ (t : ℕ). IsNew c.args.self.now t c.in_ok-track.field-0) (sym i.many) c.in_ok-track.ensures) in
    let new = subst (AreNew c.args.self.now.heap c.loop-worker.thread) next i.new in record {
      new = new.1;
      left = omega (arith, i.left, ap (λ (l : List Worker). length l) next);
      many = omega (arith, i.many, ap (λ (l : List Track). length l) pushed, length-append c.loop-worker.tracks.items (c.in_ok-track.field-0 ∷ []));
      tracks = subst (EachNew c.args.self.now) (sym pushed) more;
    }
