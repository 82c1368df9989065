use denote.Ref.{Bor}
use Rattle.std.proofs.Common.{Option, sym, ap, ◌∙◌, arith}
use Rattle.std.proofs.lemmas.Bool.{ltb-true, ltb-false}
use Rattle.octet_regions.specs.declared.bounds.Bounds.{Bounds}
use Rattle.octet_regions.specs.code.Bounds.{bounds_of}
use Rattle.octet_regions.proofs.Walking.{no_conflict, some_conflict}
use Rattle.octet_regions.proofs.walk.is_before.Goals as goal

pub returns-in-Some-clause-yes : goal.returns-in-Some-clause-yes
returns-in-Some-clause-yes c = λ is seen keeps.
    let above = ltb-true 0 c.of.result is in
    let thread = c.if-access-thread.false in (
      thread,
      c.if-access-from.false,
      some_conflict c.args.later.now c.args.access c.args.other (bounds_of c.conflicts.result) (λ same. c.requires (sym thread ∙ same)) c.conflicts.ensures
          (omega (arith, above, c.of.ensures, ap (λ (o : Option (Bor Bounds)). bounds_of o c.args.other) c.in-Some.is)) seen keeps,
    )

pub returns-in-Some-clause-no : goal.returns-in-Some-clause-no
returns-in-Some-clause-no c = λ is seen keeps thread from.
    let none = ltb-false 0 c.of.result is in
    no_conflict c.args.later.now c.args.access c.args.other (bounds_of c.conflicts.result) (λ same. c.requires (sym thread ∙ same)) c.conflicts.ensures
    (omega (arith, none, c.of.ensures, ap (λ (o : Option (Bor Bounds)). bounds_of o c.args.other) c.in-Some.is)) seen keeps

pub returns-in-None-clause-no : goal.returns-in-None-clause-no
returns-in-None-clause-no c = λ is seen keeps thread from.
    no_conflict c.args.later.now c.args.access c.args.other (bounds_of c.conflicts.result) (λ same. c.requires (sym thread ∙ same)) c.conflicts.ensures
    (omega (arith, ap (λ (o : Option (Bor Bounds)). bounds_of o c.args.other) c.in-None.is)) seen keeps
