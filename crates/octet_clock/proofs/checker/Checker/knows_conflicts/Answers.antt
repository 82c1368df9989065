use Rattle.std.proofs.Common.{◌≡◌, ◌≤◌, ◌∙◌, ℕ, Some, sym, refl, subst}
use Rattle.std.proofs.lemmas.Option.{slice_get_read}
use Rattle.octet_clock.specs.LastAccesses.{conflicts_within, kept_of}
use Rattle.octet_clock.specs.Play.{made_by}
use Rattle.octet_clock.proofs.checks.Within.{lie_in_more}
use Rattle.octet_clock.proofs.checker.Checker.knows_conflicts.Goals as goal

pub returns-in-Some : goal.returns-in-Some
returns-in-Some c = λ is journals play index holds.
    let t = c.args.thread in
    let self = c.args.self.now in
    let first = c.in-Some.first in
    let at : conflicts_within (kept_of self.accesses.objects.items c.args.object) c.args.writing ≡ Some first = sym c.conflicts_within.ensures ∙ c.in-Some.is in
    let made = holds.accesses.made c.args.object c.args.writing first at in
    let at_t = slice_get_read self.marks.items _ t c.index.result.now refl c.requires.thread c.index.ensures in
    lie_in_more journals play index c.args.object c.args.writing t (made_by play index t) first (holds.accesses.within c.args.object c.args.writing first at)
    (c.knows.ensures is journals (made_by play index t) (holds.marks.each t c.index.result.now at_t) (λ same. subst (λ (u : ℕ). first.count ≤ made_by play index u) same made))
