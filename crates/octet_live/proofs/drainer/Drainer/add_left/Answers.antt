use Rattle.std.proofs.Common.{◌≡◌, ◌∙◌, ◌-◌, List, Option, sym, subst}
use Rattle.octet_base.specs.declared.fault.DeskFault.{DeskFault}
use Rattle.octet_model.specs.declared.log.Gapped.{Gapped}
use Rattle.octet_ring.specs.Views.{DrainView, AreLeft}
use Rattle.octet_live.specs.Feeds.{AreSent}
use Rattle.octet_live.specs.Drained.{AddsFront}
use Rattle.octet_live.proofs.Drained.{all_behind, sent_so_far, drains_from, left_added}
use Rattle.octet_live.proofs.drainer.Drainer.add_left.Goals as goal

pub overflow_sub-feed : goal.overflow_sub-feed
overflow_sub-feed g c =
    let has : AreSent c.rest-waiting-2.new.sender c.args.feed.now.sent c.args.own.now = (c.rest-waiting-2.ensures.sender.1 ∙ (c.rest-waiting.ensures.sender.1 ∙ c.requires.sent.0), c.requires.sent.1) in
    sent_so_far c.rest-waiting-2.new.self c.rest-waiting-2.new.sender c.args.feed.now.sent c.rest-waiting-2.result c.args.own.now has c.rest-waiting-2.ensures.sent

pub returns-clause-left : goal.returns-clause-left
returns-clause-left g c =
    let self = c.args.self.now in
    let first = c.rest-waiting in
    let last = c.rest-waiting-2 in
    let sent = c.add_sent.new.self in
    let end = c.add_last.new.self in
    let same : end.drain ≡ last.new.self = c.add_last.ensures.drain in
    let has : AreSent last.new.sender c.args.feed.now.sent c.args.own.now = (last.ensures.sender.1 ∙ (first.ensures.sender.1 ∙ c.requires.sent.0), c.requires.sent.1) in
    left_added c.args.thread c.args.own.now self end sent.drain last.new.sender c.args.feed.now.sent last.result sent.kept _ _ _
    c.requires.thread.0 (last.ensures.sender.0.1 ∙ (first.ensures.sender.0.1 ∙ c.requires.feed.0)) has
    (drains_from c.args.thread self.kept sent.kept self.drain first.new.self sent.drain _ _ first.ensures.received first.ensures.rings.0 c.add_sent.ensures.drains)
    ((λ i. (same i).received) ∙ last.ensures.received) ((λ i. (same i).rings) ∙ last.ensures.rings.0) (subst (λ (drain : DrainView). AreLeft last.result drain last.new.sender) (sym same) last.ensures.sent)
    (subst (λ (l : List Gapped). AddsFront c.args.thread l sent.kept (g.D.Desk.state c.add_sent.new.desk) end.kept (g.D.Desk.state c.add_last.new.desk)) (all_behind (c.args.feed.now.sent - last.result) c.args.own.now) c.add_last.ensures.added)
