use Rattle.std.proofs.Common.{◌++◌, List, ℕ, ap, ◌∙◌, arith}
use Rattle.octet_log.specs.v2.Pieces.{whole_pieces, pieced_bytes}
use Rattle.octet_log.proofs.version2.WholePieces.{are_whole, have_whole}
use Rattle.octet_log.proofs.v2.encoder.encode_v2.Goals as goal

pub returns-clause-spells : goal.returns-clause-spells
returns-clause-spells c = record {
  pieces = whole_pieces 0 c.args.log.now.threads;
  whole = c.push_log.ensures.length;
  are = are_whole _ 0 c.args.log.now.threads (omega arith);
  have = have_whole c.args.log.now.threads;
  few = c.requires;
  parts = c.in_ok-push_log.ensures.bytes ∙ ap (λ (l : List ℕ). l ++ pieced_bytes c.args.digest.now.bytes (whole_pieces 0 c.args.log.now.threads) c.args.log.now.threads) c.new-out.ensures.items;
}
