use Rattle.std.proofs.Common.{rules, []}
use Rattle.octet_blocks.proofs.Fed.{feeds_on, gives_feeds}
use Rattle.octet_blocks.proofs.reader.BlockReader.read_on.Goals as goal

pub returns-in_err-read_next-clause-feeds : goal.returns-in_err-read_next-clause-feeds
returns-in_err-read_next-clause-feeds c =
    feeds_on c.args.wanted.now [] c.args.self.now c.pieces.self c.read_next.new.self c.pieces.invariant.feeds
    (feeds_on c.args.wanted.now [] c.pieces.self c.give_all.new.self c.read_next.new.self (gives_feeds c.args.wanted.now c.pieces.self c.give_all.new.self c.give_all.ensures.gives) c.read_next.ensures.feeds)

pub returns-then-not-branch-clause-feeds : goal.returns-then-not-branch-clause-feeds
returns-then-not-branch-clause-feeds c =
    feeds_on c.args.wanted.now [] c.args.self.now c.pieces.self c.read_next.new.self c.pieces.invariant.feeds
    (feeds_on c.args.wanted.now [] c.pieces.self c.give_all.new.self c.read_next.new.self (gives_feeds c.args.wanted.now c.pieces.self c.give_all.new.self c.give_all.ensures.gives) c.read_next.ensures.feeds)

pub pieces-preserved : goal.pieces-preserved
pieces-preserved c = record {
  feeds =
      feeds_on c.args.wanted.now [] c.args.self.now c.pieces.self c.read_next.new.self c.pieces.invariant.feeds
      (feeds_on c.args.wanted.now [] c.pieces.self c.give_all.new.self c.read_next.new.self (gives_feeds c.args.wanted.now c.pieces.self c.give_all.new.self c.give_all.ensures.gives) c.read_next.ensures.feeds);
  of_run = search rules;
  goes_on = c.read_next.ensures.over;
}

pub returns-clause-feeds : goal.returns-clause-feeds
returns-clause-feeds c =
    feeds_on c.args.wanted.now [] c.args.self.now c.pieces.self c.give_all.new.self c.pieces.invariant.feeds (gives_feeds c.args.wanted.now c.pieces.self c.give_all.new.self c.give_all.ensures.gives)

pub returns-clause-full : goal.returns-clause-full
returns-clause-full c = λ same. c.give_all.ensures.full c.pieces-test.false
