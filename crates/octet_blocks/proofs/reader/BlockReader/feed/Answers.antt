use Rattle.std.proofs.Common.{◌≡◌, ◌∙◌, Bool, true, Ok, [], take, min, inl, ap, length, rules}
use Rattle.octet_marks.specs.Files.{unread_of}
use Rattle.octet_blocks.specs.Reading.{waiting_items}
use Rattle.octet_blocks.specs.declared.reader.TheConstants.{MAX_TAKEN}
use Rattle.octet_blocks.proofs.Fed.{feeds_on}
use Rattle.octet_blocks.proofs.reader.BlockReader.feed.Goals as goal

pub returns-in-Err-clause-feeds : goal.returns-in-Err-clause-feeds
returns-in-Err-clause-feeds c = feeds_on c.args.wanted.now [] c.args.self.now c.read_on.new.self c.take.new.self c.read_on.ensures.feeds (c.in-Err.ensures.same.1 c.args.wanted.now)

pub returns-in-Ok-clause-feeds : goal.returns-in-Ok-clause-feeds
returns-in-Ok-clause-feeds c =
    feeds_on c.args.wanted.now (take c.min-count.result c.args.bytes.now) c.args.self.now c.read_on.new.self c.take.new.self c.read_on.ensures.feeds (c.in-Ok.ensures.feeds c.args.wanted.now)

pub returns-in-Ok-clause-took : goal.returns-in-Ok-clause-took
returns-in-Ok-clause-took c =
    let was : c.read_on.result ≡ Ok c.in_ok-read_on.field-0 = c.in_ok-read_on.was in
    let is : c.read_on.result ≡ Ok true = was ∙ ap (λ (b : Bool). Ok b) c.if-not-branch.false in
    let cut = c.read_on.ensures.cut is in
    let count : c.min-count.result ≡ min (length c.args.bytes.now) MAX_TAKEN = search rules in
    inl (count, record { nothing = ap waiting_items c.take.ensures.waiting ∙ cut.1; unread = unread_of c.read_on.new.self.reader; cut = cut.2; behind = c.in-Ok.ensures.behind })
