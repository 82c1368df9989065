use Rattle.std.proofs.Common.{Ok, arith}
use Rattle.std.proofs.lemmas.Result.{err_from_is_err_and}
use Rattle.octet_log.specs.Readings.{reading, reading_of}
use Rattle.octet_log.proofs.Spelled.{loaded_takes, loads_spelling}
use Rattle.octet_log.proofs.lemmas.Sizes.{few_marks}
use Rattle.octet_log.proofs.loader.decode.Goals as goal

pub returns-in_err-threads-clause-read : goal.returns-in_err-threads-clause-read
returns-in_err-threads-clause-read c =
    let p = err_from_is_err_and c.from_residual.result c.from_residual.ensures.1 in
    loads_spelling reading_of c.args.bytes.now c.from_residual.result (rw (p.1, p.2) c.in_err-threads.ensures)

pub invariant_of-log : goal.invariant_of-log
invariant_of-log c = record {
  valid =
      (loaded_takes c.args.bytes.now (reading c.in_ok-threads.threads c.in_ok-threads.digest) (record { fits = λ i. omega (arith, c.type_inv.bytes i); short = c.requires }) c.in_ok-threads.ensures).valid;
}

pub returns-clause-spelled : goal.returns-clause-spelled
returns-clause-spelled c =
    (loaded_takes c.args.bytes.now (reading c.in_ok-threads.threads c.in_ok-threads.digest) (record { fits = λ i. omega (arith, c.type_inv.bytes i); short = c.requires }) c.in_ok-threads.ensures).spells

pub returns-clause-read : goal.returns-clause-read
returns-clause-read c = λ logs digest valid spells. loads_spelling (λ r. r) c.args.bytes.now (Ok (reading c.in_ok-threads.threads c.in_ok-threads.digest)) c.in_ok-threads.ensures logs digest valid spells

pub returns-clause-few : goal.returns-clause-few
returns-clause-few c =
    few_marks c.args.bytes.now (reading c.in_ok-threads.threads c.in_ok-threads.digest).digest c.in_ok-threads.threads c.requires
    (loaded_takes c.args.bytes.now (reading c.in_ok-threads.threads c.in_ok-threads.digest) (record { fits = λ i. omega (arith, c.type_inv.bytes i); short = c.requires }) c.in_ok-threads.ensures).spells
