use Rattle.std.proofs.Common.{◌≡◌, ◌∙◌, Bool, false, Ok, [], ap}
use Rattle.octet_blocks.proofs.Fed.{feeds_on, gives_feeds}
use Rattle.octet_blocks.proofs.reader.BlockReader.end.Goals as goal

pub returns-then-not-branch-clause-full : goal.returns-then-not-branch-clause-full
returns-then-not-branch-clause-full c =
    let was : c.close.result ≡ Ok c.in_ok-close.field-0 = c.in_ok-close.was in
    let is : c.close.result ≡ Ok false = was ∙ ap (λ (b : Bool). Ok b) c.if-not-branch.true in
    λ same. c.close.ensures.full is

pub returns-clause-feeds : goal.returns-clause-feeds
returns-clause-feeds c = feeds_on c.args.wanted.now [] c.args.self.now c.close.new.self c.give_all.new.self c.close.ensures.feeds (gives_feeds c.args.wanted.now c.close.new.self c.give_all.new.self c.give_all.ensures.gives)

pub returns-clause-full : goal.returns-clause-full
returns-clause-full c = λ same. (let is : c.give_all.result ≡ false = cc in c.give_all.ensures.full is)
