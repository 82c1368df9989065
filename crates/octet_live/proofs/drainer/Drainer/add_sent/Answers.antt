use Rattle.std.proofs.Common.{rules, ◌≡◌, ◌∙◌, ◌≤◌, List, ◌∷◌, [], length, None, subst, arith}
use Rattle.std.proofs.lemmas.List.{length-set}
use Rattle.octet_model.specs.declared.log.Gapped.{Gapped}
use Rattle.octet_live.specs.Written.{AddsPieces}
use Rattle.octet_live.proofs.Drained.{drains_none, drains_more}
use Rattle.octet_live.proofs.drainer.Drainer.add_sent.Goals as goal

pub loop-init : goal.loop-init
loop-init g c = record { drains = drains_none c.args.thread c.args.self.now.kept c.args.self.now.drain (g.D.Desk.state c.args.desk.now); as_many = search rules; begun = search rules }

pub loop-preserved : goal.loop-preserved
loop-preserved g c =
    let piece = c.take_piece.new.self in
    let some : 1 ≤ length piece.marks.items = grind (arith, c.if-is_empty.false, c.is_empty.ensures) in
    let unrefused : c.loop.self.kept ≡ None = search rules in
    let added = subst (λ (marks : List Gapped). AddsPieces (record { thread = c.args.thread; marks = marks } ∷ []) (g.D.Desk.state c.loop.desk) c.add_piece-self.result (g.D.Desk.state c.add_piece-self.new.desk)) c.as_slice.ensures.value c.add_piece-self.ensures.added in
    record {
      drains = drains_more c.args.thread piece.marks.items c.args.self.now.drain c.loop.self.drain piece.drain _ _ _ c.args.self.now.kept c.loop.self.kept c.add_piece-self.result c.requires.thread some unrefused c.loop.invariant.drains c.take_piece.ensures.received c.take_piece.ensures.rings added;
      as_many = search (rules, length-set);
      begun = c.add_piece-self.ensures.begun ∙ c.loop.invariant.begun;
    }
