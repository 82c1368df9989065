use Rattle.std.proofs.Common.{◌≡◌, ◌∙◌, List, IsTrue, map, refl, sym, ap, subst, rules}
use Rattle.octet_model.specs.declared.command.Command.{Command}
use Rattle.octet_model.specs.declared.outcome.End.{End}
use Rattle.octet_model.specs.declared.script.Script.{Script}
use Rattle.octet_model.specs.Journals.{log_of}
use Rattle.octet_model.specs.Machine.{Journals}
use Rattle.octet_model.specs.Orders.{values_read, IsFaithful}
use Rattle.octet_model.specs.Script.{is_script}
use Rattle.octet_heap.specs.declared.worker.Worker.{Worker}
use Rattle.octet_heap.specs.Closings.{IsClosed}
use Rattle.octet_heap.specs.Seated as seated
use Rattle.octet_recorder.specs.Recordings.{workers_in, programs_in, ends_in}
use Rattle.octet_recorder.proofs.Stillness.{same_journals, each_rests, valid_script, valid_log, faithful}
use Rattle.octet_recorder.proofs.recorder.Recorder.close.Goals as goal

pub close-requires-clause-still : goal.close-requires-clause-still
close-requires-clause-still c =
    let workers : c.in_ok-workers.workers ≡ workers_in c.args.tracks = search rules in
    subst (λ (l : List Worker). seated.EachRests c.args.self.heap l) (sym workers) (each_rests c.args.self c.args.tracks c.requires.all c.requires.still)

pub invariant_of-script : goal.invariant_of-script
invariant_of-script c =
    let programs : c.in_ok-workers.threads ≡ programs_in c.args.tracks = search rules in record {
      valid = subst (λ (l : List (List Command)). IsTrue (is_script c.args.self.opening.fuel c.args.self.opening.objects l)) (sym programs) (valid_script c.args.self c.args.tracks c.requires.all c.requires.still);
    }

pub invariant_of-log : goal.invariant_of-log
invariant_of-log c =
    let closed = c.in_ok-logs.field-0 in
    let workers : c.in_ok-workers.workers ≡ workers_in c.args.tracks = search rules in
    let closes = subst (λ (l : List Worker). IsClosed c.args.self.heap l closed) workers c.in_ok-logs.ensures.closed in record {
      valid = valid_log c.args.self c.args.tracks c.requires.all c.requires.still closed closes;
    }

pub returns-clause-faithful : goal.returns-clause-faithful
returns-clause-faithful c =
    let closed = c.in_ok-logs.field-0 in
    let workers : c.in_ok-workers.workers ≡ workers_in c.args.tracks = search rules in
    let programs : c.in_ok-workers.threads ≡ programs_in c.args.tracks = search rules in
    let ends : c.in_ok-workers.ends ≡ ends_in c.args.tracks = search rules in
    let closes = subst (λ (l : List Worker). IsClosed c.args.self.heap l closed) workers c.in_ok-logs.ensures.closed in
    let go : (script : Script) → script.fuel ≡ c.args.self.opening.fuel → script.objects ≡ c.args.self.opening.objects → script.threads ≡ c.in_ok-workers.threads
    → IsFaithful script closed.logs (record { ends = c.in_ok-workers.ends; reads = closed.reads; heap = closed.heap }) = λ script fuel objects threads.
    subst (λ (e : List End). IsFaithful script closed.logs (record { ends = e; reads = closed.reads; heap = closed.heap })) (sym ends)
    (faithful c.args.self c.args.tracks c.requires.all c.requires.still closed closes script (record { fuel = fuel; objects = objects; threads = threads ∙ programs })) in
    let valid = subst (λ (l : List (List Command)). IsTrue (is_script c.args.self.opening.fuel c.args.self.opening.objects l)) (sym programs)
    (valid_script c.args.self c.args.tracks c.requires.all c.requires.still) in
    go (record { fuel = c.args.self.opening.fuel; objects = c.args.self.opening.objects; threads = c.in_ok-workers.threads; valid = valid }) refl refl refl

pub returns-clause-of : goal.returns-clause-of
returns-clause-of c =
    let workers : c.in_ok-workers.workers ≡ workers_in c.args.tracks = search rules in
    let closes = subst (λ (l : List Worker). IsClosed c.args.self.heap l c.in_ok-logs.field-0) workers c.in_ok-logs.ensures.closed in record {
      script = record { fuel = refl; objects = refl; threads = search rules };
      log = closes.logs ∙ ap log_of (same_journals c.args.tracks);
      reads = closes.reads ∙ ap (λ (l : Journals). map values_read l) (same_journals c.args.tracks);
      ends = search rules;
    }
