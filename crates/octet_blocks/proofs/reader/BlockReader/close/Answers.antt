use Rattle.std.proofs.Common.{◌≡◌, false, Ok, IfErr, rules, [], subst}
use Rattle.octet_blocks.specs.Reading.{waiting_items, HasFault}
use Rattle.octet_blocks.proofs.Fed.{feeds_on, gives_feeds, stopped_fault}
use Rattle.octet_blocks.proofs.reader.BlockReader.close.Goals as goal

pub returns-then-not-give_all-clause-feeds : goal.returns-then-not-give_all-clause-feeds
returns-then-not-give_all-clause-feeds c = gives_feeds c.args.wanted.now c.args.self.now c.give_all.new.self c.give_all.ensures.gives

pub returns-then-not-give_all-clause-full : goal.returns-then-not-give_all-clause-full
returns-then-not-give_all-clause-full c =
    let is : c.give_all.result ≡ false = search rules in
    λ same. c.give_all.ensures.full is

pub returns-then-self-2-clause-feeds : goal.returns-then-self-2-clause-feeds
returns-then-self-2-clause-feeds c =
    feeds_on c.args.wanted.now [] c.args.self.now c.give_all.new.self c.stop.new.self (gives_feeds c.args.wanted.now c.args.self.now c.give_all.new.self c.give_all.ensures.gives) (c.stop.ensures.feeds c.args.wanted.now)

pub returns-in-Ok-true-clause-feeds : goal.returns-in-Ok-true-clause-feeds
returns-in-Ok-true-clause-feeds c = feeds_on c.args.wanted.now [] c.args.self.now c.read_on.new.self c.stop-in-Ok-true.new.self c.read_on.ensures.feeds (c.stop-in-Ok-true.ensures.feeds c.args.wanted.now)

pub returns-in-Ok-false-clause-full : goal.returns-in-Ok-false-clause-full
returns-in-Ok-false-clause-full c =
    let is : c.read_on.result ≡ Ok false = cc in
    λ same. c.read_on.ensures.full is

pub returns-in-Err : goal.returns-in-Err
returns-in-Err c = record {
  feeds = feeds_on c.args.wanted.now [] c.args.self.now c.read_on.new.self c.stop-in-Err.new.self c.read_on.ensures.feeds (c.stop-in-Err.ensures.feeds c.args.wanted.now);
  over = λ is. c.stop-in-Err.ensures.over;
  full = λ is. absurd cc;
  fault = (
    stopped_fault c.read_on.new.self c.stop-in-Err.new.self c.stop-in-Err.ensures.reader.0 c.stop-in-Err.ensures.reader.1 c.stop-in-Err.ensures.over c.in-Err.fault
        (subst (λ r. IfErr r (λ fault. HasFault c.read_on.new.self fault × (waiting_items c.read_on.new.self.waiting ≡ []))) c.in-Err.is c.read_on.ensures.fault).0,
    λ other. c.stop-in-Err.ensures.over,
  );
}
