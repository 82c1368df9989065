use Rattle.std.proofs.Common.{◌≡◌, ◌≤◌, ℕ, refl, subst, arith}
use Rattle.octet_window.specs.declared.front.Front.{Front}
use Rattle.octet_window.specs.Fronts.{made_in}
use Rattle.octet_tail.specs.Fronts.{asked_of, end_of, front_of, needs_of, HasMark, IsUpTo}
use Rattle.octet_tail.proofs.Finding.{finder_sifts, finder_takes}
use Rattle.octet_tail.proofs.finder.FrontFinder.mark.Goals as goal

pub returns-in-Ok-clause-finds : goal.returns-in-Ok-clause-finds
returns-in-Ok-clause-finds c = λ marks is. finder_sifts marks c.args.self.now (record { asked = c.args.self.now.asked; needs = c.sift.new.needs; kept = c.sift.new.kept }) c.args.placed refl
    c.in-Ok.ensures.upto (omega (arith, c.if-placed-asked.true, c.asked_of-asked.ensures)) c.in-Ok.ensures.sifted is

pub returns-clause-finds : goal.returns-clause-finds
returns-clause-finds c = λ marks is.
    let f = c.args.self.now in let q = c.args.placed in let next = front_of c.take_in.new.self in
    let end : c.in-Some.events ≡ end_of (asked_of f) q = omega (arith, c.in-Some.ensures, c.asked_of-asked.ensures) in
    finder_takes marks f (record { asked = f.asked; needs = c.take_in.new.self; kept = f.kept }) q refl c.take_in.ensures.upto (omega (arith, c.if-placed-asked.false, c.asked_of-asked.ensures))
    (subst (λ (n : ℕ). n ≤ made_in next q.thread) end c.take_in.ensures.there) c.take_in.ensures.mark refl
    (subst (λ (n : ℕ). (front : Front) → IsUpTo (needs_of f) front → n ≤ made_in front q.thread → HasMark front q.mark → IsUpTo next front) end c.take_in.ensures.least) is
