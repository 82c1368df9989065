use Rattle.std.proofs.Common.{◌≡◌, List, IsTrue, map, sym, ap, ◌∙◌, subst}
use Rattle.octet_model.specs.declared.log.ThreadLog.{ThreadLog}
use Rattle.octet_model.specs.declared.outcome.Outcome.{Outcome}
use Rattle.octet_model.specs.Journals.{log_of}
use Rattle.octet_model.specs.Log.{is_log}
use Rattle.octet_model.specs.Machine.{Journals}
use Rattle.octet_model.specs.Orders.{values_read, IsFaithful}
use Rattle.octet_window.specs.Ordering.{parts_of}
use Rattle.octet_window.specs.Recorded.{all_done, Makes}
use Rattle.octet_window.proofs.Recorded.{log_valid, faithful, orders_make}
use Rattle.octet_window.proofs.ordered.OrderedRun.finish.Goals as goal

pub log_of-requires : goal.log_of-requires
log_of-requires c =
    subst (λ (js : Journals). IsTrue (is_log (log_of js))) (sym c.as_slice-2.ensures.value) (log_valid c.args.script.now (parts_of c.args.self) c.requires.rest c.requires.programs)

pub returns-clause-faithful : goal.returns-clause-faithful
returns-clause-faithful c =
    let log : c.in_ok-log.log.threads ≡ log_of c.args.self.journals.items = c.in_ok-log.ensures ∙ ap (λ (js : Journals). log_of js) c.as_slice-2.ensures.value in
    let outcome : record { ends = all_done c.args.self.journals.items; reads = map values_read c.args.self.journals.items; heap = c.args.self.heap.items }
    ≡ record { ends = c.in_ok-ends.ends; reads = c.in_ok-reads.reads; heap = c.from_vec-heap.result } = λ i. record {
      ends = sym (c.in_ok-ends.ensures ∙ ap (λ (js : Journals). all_done js) c.as_slice.ensures.value) i;
      reads = sym (c.in_ok-reads.ensures ∙ ap (λ (js : Journals). map values_read js) c.as_slice-3.ensures.value) i;
      heap = sym c.from_vec-heap.ensures i;
    } in
    subst (λ (l : List ThreadLog). IsFaithful c.args.script.now l (record { ends = c.in_ok-ends.ends; reads = c.in_ok-reads.reads; heap = c.from_vec-heap.result })) (sym log)
    (subst (λ (o : Outcome). IsFaithful c.args.script.now (log_of c.args.self.journals.items) o) outcome
    (faithful c.args.script.now (parts_of c.args.self) c.requires.rest c.requires.programs))

pub returns-clause-orders : goal.returns-clause-orders
returns-clause-orders c =
    let log : c.in_ok-log.log.threads ≡ log_of c.args.self.journals.items = c.in_ok-log.ensures ∙ ap (λ (js : Journals). log_of js) c.as_slice-2.ensures.value in
    subst (λ (l : List ThreadLog). Makes c.args.script.now l c.args.self.journals.items) (sym log) (orders_make c.args.script.now (parts_of c.args.self) c.requires.rest c.requires.programs)
