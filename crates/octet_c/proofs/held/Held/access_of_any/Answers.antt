use Rattle.std.proofs.Common.{rules, ◌≡◌, ℤ, w32, to_z, of_z, sym, subst}
use Rattle.octet_session.specs.Recording.{AnswersAndMakes}
use Rattle.octet_c.specs.declared.held.Held.{Held}
use Rattle.octet_c.specs.declared.held.Held.TheVariants as held
use Rattle.octet_c.specs.Statuses.{AccessesRecorded, AccessesNext}
use Rattle.octet_c.proofs.Making.{made_recorded}
use Rattle.octet_c.proofs.held.Held.access_of_any.Goals as goal

pub returns-in-Recorded-clause-does : goal.returns-in-Recorded-clause-does
returns-in-Recorded-clause-does c =
    let it = c.in-Recorded.it in let that = c.access.new.self in let wanted = c.args.wanted in let before = c.args.out.now in let out = c.told_recorded.new.out in let said = c.told_recorded.result in
    let fits : to_z w32 (of_z w32 said) ≡ said = search rules in
    let is : c.args.self.now ≡ held.Recorded it = search rules in
    let does : AccessesRecorded wanted before out it said that = (
      (c.access.ensures.does.0, record { given = c.access.result; tells = c.told_recorded.ensures; accesses = c.access.ensures.does.1 }),
      made_recorded (AnswersAndMakes wanted it.track that.track) c.access.result said before out c.told_recorded.ensures c.access.ensures.made,
    ) in
    subst (λ (z : ℤ). AccessesNext wanted before out c.args.self.now z (held.Recorded that)) (sym fits)
    (subst (λ (h : Held). AccessesNext wanted before out h said (held.Recorded that)) (sym is) does)
