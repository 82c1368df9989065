use Rattle.std.proofs.Common.{rules, ◌≡◌, ◌+◌, [], ◌∷◌, ◌++◌, List, length, length-append, append-nil, sym, ap, subst, arith}
use Rattle.octet_window.specs.declared.notes.Notes.{Notes}
use Rattle.octet_tail.specs.Windows.{AreNoted}
use Rattle.octet_tail.proofs.Windowed.{AreFirst, one_noted, noted_to_end}
use Rattle.octet_tail.proofs.window.notes_all.Goals as goal

pub loop-thread-preserved : goal.loop-thread-preserved
loop-thread-preserved c =
    let fronts = c.args.fronts.now in let parts = c.args.parts.now in let k = c.loop-thread.thread in let all = c.loop-thread.all.items in let one = c.in_ok-notes.field-0 in
    let pushed : c.push.new.self.items ≡ all ++ one ∷ [] = search rules in record {
      noted = subst (AreFirst fronts parts (k + 1)) (sym pushed) (one_noted fronts parts k all _ c.index-parts-thread.result one (omega arith) c.index-parts-thread.is c.loop-thread.invariant.noted c.in_ok-notes.ensures);
      count = omega (arith, c.loop-thread.invariant.count, ap (λ (l : List Notes). length l) pushed, length-append all (one ∷ []));
    }

pub returns-clause-noted : goal.returns-clause-noted
returns-clause-noted c =
    let fronts = c.args.fronts.now in let parts = c.args.parts.now in let all = c.loop-thread.all.items in
    subst (λ (l : List Notes). AreNoted fronts parts 0 l) (append-nil all) (noted_to_end fronts parts c.loop-thread.thread all (omega arith) c.loop-thread.invariant.noted)
