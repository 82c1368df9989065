use Rattle.std.proofs.Common.{◌≡◌, take, refl, arith}
use Rattle.std.proofs.lemmas.Grind.{common_steps}
use Rattle.octet_log.proofs.Fields.{AreBytes-take}
use Rattle.octet_marks.specs.Files.{unread_of, fed_with}
use Rattle.octet_blocks.proofs.Fed.{feeds_bytes}
use Rattle.octet_blocks.proofs.reader.BlockReader.take.Goals as goal

pub returns-in-Ok-clause-feeds : goal.returns-in-Ok-clause-feeds
returns-in-Ok-clause-feeds c =
    let is : unread_of c.feed.new.self ≡ fed_with (take c.args.count c.args.bytes.now) (unread_of c.args.self.now.reader) = grind (arith, common_steps) in
    λ wanted. feeds_bytes wanted (take c.args.count c.args.bytes.now) c.args.self.now _ c.reader_reads_what_it_is_fed.ensures.fed (AreBytes-take c.args.count c.args.bytes.now (λ i. omega (arith, c.type_inv.bytes i))) c.requires.goes_on refl is
