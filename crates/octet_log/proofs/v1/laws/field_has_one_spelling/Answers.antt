use Rattle.std.proofs.Common.{◌^◌}
use Rattle.std.specs.Int.{w32, w64}
use Rattle.octet_log.proofs.Fields.{wide32, wide64, one_spelling}
use Rattle.octet_log.proofs.v1.laws.field_has_one_spelling.Goals as goal

pub returns : goal.returns
returns c = record {
  four_bytes = one_spelling w32 (2 ^ 32) wide32;
  eight_bytes = one_spelling w64 (2 ^ 64) wide64;
  four_bytes_again = wide32.again;
  eight_bytes_again = wide64.again;
}
