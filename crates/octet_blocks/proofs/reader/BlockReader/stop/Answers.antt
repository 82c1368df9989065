use Rattle.std.proofs.Common.{◌≡◌, true, false, refl}
use Rattle.octet_blocks.proofs.Fed.{stop_ended, stop_breaks}
use Rattle.octet_blocks.proofs.reader.BlockReader.stop.Goals as goal

pub returns-then-self-clause-feeds : goal.returns-then-self-clause-feeds
returns-then-self-clause-feeds c =
    let ended : c.args.self.now.has_ended ≡ true = cc in
    stop_ended c.args.self.now _ c.requires.nothing c.requires.reads c.requires.no_next ended refl

pub returns-clause-feeds : goal.returns-clause-feeds
returns-clause-feeds c =
    let goes_on : c.args.self.now.has_ended ≡ false = cc in
    stop_breaks c.args.self.now _ c.requires.nothing c.requires.reads c.requires.no_next goes_on refl
