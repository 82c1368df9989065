use Rattle.std.proofs.Common.{Bool, List, ℕ, sym, ap, ◌∙◌, subst}
use Rattle.octet_model.specs.HappensBefore.{is_write}
use Rattle.octet_model.specs.Machine.{heap_after}
use Rattle.octet_model.specs.Plays.{operation_of}
use Rattle.octet_window.specs.Ordering.{Parts, parts_of, CountsLast, IsAtRest}
use Rattle.octet_window.proofs.Accessing.{access_made, push_makes, wide_after}
use Rattle.octet_window.proofs.ordered.OrderedRun.access.Goals as goal

pub returns-clause-rest : goal.returns-clause-rest
returns-clause-rest c =
    let run = parts_of c.args.self.now in
    let next = parts_of c.count.new.self in
    let pushes = c.in_ok-push.ensures in
    let counts = subst (λ (p : Parts). CountsLast c.args.thread c.args.object (is_write c.args.event) p next) pushes
    (subst (λ (b : Bool). CountsLast c.args.thread c.args.object b (parts_of c.push.new.self) next) c.writes.ensures c.count.ensures) in
    subst (λ (h : List ℕ). IsAtRest (record next { heap = h })) (sym c.change_heap.ensures)
    (access_made run c.args.thread c.args.object c.args.event c.requires.joining c.requires.of next c.requires.value (wide_after c.args.event run.heap) counts)

pub returns-clause-makes : goal.returns-clause-makes
returns-clause-makes c =
    let run = parts_of c.args.self.now in
    let next = parts_of c.count.new.self in
    let pushes = c.in_ok-push.ensures in
    let last = record next { heap = c.change_heap.new.heap.items } in
    push_makes run last c.args.thread c.args.object c.args.event c.requires.joining.there c.requires.of
    (c.count.ensures.starts ∙ ap (λ (p : Parts). p.starts) pushes)
    (c.change_heap.ensures ∙ ap (heap_after (operation_of c.args.event)) (c.count.ensures.heap ∙ ap (λ (p : Parts). p.heap) pushes))
    (c.count.ensures.journals ∙ ap (λ (p : Parts). p.journals) pushes)
