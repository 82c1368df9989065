use Rattle.std.proofs.Common.{◌≡◌, ◌≢◌, ◌+◌, ◌⊎◌, List, length, ℕ, sym, ap, ◌∙◌, subst, arith}
use Rattle.octet_window.specs.Tables.{cell}
use Rattle.octet_window.specs.Ordering.{Parts, parts_of, IsJoining}
use Rattle.octet_model.specs.declared.event.Mark.TheVariants.{Join}
use Rattle.octet_window.proofs.Joining.{join_made}
use Rattle.octet_window.proofs.Accessing.{push_keeps}
use Rattle.octet_window.proofs.ordered.OrderedRun.join.Goals as goal

pub returns-clause-joining : goal.returns-clause-joining
returns-clause-joining c =
    let known : List ℕ = c.set.new.self.counts.items in
    let pushes = c.in_ok-push.ensures in
    let same : c.push.new.self.known.counts.items ≡ c.args.self.now.known.counts.items = ap (λ (p : Parts). p.known) pushes in
    let row = c.from-2.ensures in
    subst (λ (p : Parts). IsJoining (record p { known = known }) c.args.thread c.args.object c.args.writes (c.args.from + 1)) (sym pushes)
    (join_made (parts_of c.args.self.now) c.args.thread c.args.object c.args.from c.needed-upto.result c.args.writes known c.requires.joining c.requires.from
    c.if-from-thread.false (omega (arith, c.if-upto-get.false)) c.needed-upto.type_inv (sym c.needed-upto.ensures) (c.set.ensures.room ∙ ap (λ (l : List ℕ). length l) same)
    (ap (λ (r : ℕ). cell known r c.args.from) (sym row) ∙ c.set.ensures.here)
    (λ r column small apart. c.set.ensures.others r column small (subst (λ (u : ℕ). (r ≢ u) ⊎ (column ≢ c.args.from)) (sym row) apart) ∙ ap (λ (l : List ℕ). cell l r column) same))

pub returns-clause-keeps : goal.returns-clause-keeps
returns-clause-keeps c =
    let pushes = c.in_ok-push.ensures in
    let next = record (parts_of c.push.new.self) { known = c.set.new.self.counts.items } in
    push_keeps (parts_of c.args.self.now) next c.args.thread (Join c.args.from c.needed-upto.result) c.requires.joining.there
    (ap (λ (p : Parts). p.starts) pushes) (ap (λ (p : Parts). p.heap) pushes) (ap (λ (p : Parts). p.journals) pushes)
