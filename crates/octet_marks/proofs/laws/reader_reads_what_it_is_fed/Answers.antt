use Rattle.std.proofs.Common.{refl}
use Rattle.octet_marks.proofs.Fed.{fed_behind, next_behind}
use Rattle.octet_marks.proofs.laws.reader_reads_what_it_is_fed.Goals as goal

pub returns : goal.returns
returns c = record { first = record { leads = refl; parts = refl; place = refl }; fed = fed_behind; next = next_behind }
