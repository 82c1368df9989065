use Rattle.std.proofs.Common.{rules, ◌≡◌, List, subst}
use Rattle.octet_window.specs.declared.notes.Notes.{Notes}
use Rattle.octet_tail.specs.Windows.{IsWindow}
use Rattle.octet_tail.proofs.fronts.Fronts.window.Goals as goal

pub returns-in-Ok-texts_of-clause-texts : goal.returns-in-Ok-texts_of-clause-texts
returns-in-Ok-texts_of-clause-texts c =
    let window = c.in-Ok.window in let made = c.in-Ok.ensures in
    let notes : c.as_slice.result.now ≡ c.in_ok-notes.notes.items = search rules in record {
      notes = c.in_ok-notes.notes.items;
      window = window;
      noted = c.in_ok-notes.ensures.noted;
      is = subst (λ (l : List Notes). IsWindow l window) notes (record { faithful = made.faithful; has = made.script; makes = made.accesses; history = made.history });
      spell = c.in-Ok-texts_of.ensures.texts;
    }
