use Rattle.std.proofs.Common.{rules, ◌≡◌, ◌+◌, ◌++◌, [], ◌∷◌, length, length-append, set, sym, ap, ◌∙◌, arith}
use Rattle.octet_ring.specs.Views.{received_of}
use Rattle.octet_live.proofs.Drained.{received_more}
use Rattle.octet_live.proofs.drainer.Drainer.take_piece.Goals as goal

pub loop-preserved : goal.loop-preserved
loop-preserved c =
    let items : c.push_reserved.new.self.items ≡ c.loop.self.marks.items ++ c.in-Some.mark ∷ [] = search rules in
    let long : length c.push_reserved.new.self.items ≡ c.loop.counter + 1 = omega (arith, c.loop.invariant.few, ap (λ l. length l) items, length-append c.loop.self.marks.items (c.in-Some.mark ∷ [])) in record {
      few = long;
      rings = search rules;
      received = received_more c.args.thread c.args.self.now.drain.received c.loop.self.drain.received c.take.new.self.received c.loop.self.marks.items c.in-Some.mark c.requires c.loop.invariant.received c.in-Some.ensures.received
          ∙ ap (λ l. set c.args.self.now.drain.received c.args.thread (received_of c.args.self.now.drain c.args.thread ++ l)) (sym items);
      kept = c.loop.invariant.kept;
      some = λ none. absurd (omega (arith, long, none));
    }
