use Rattle.std.proofs.Common.{inl, inr, sym, subst, refl}
use Rattle.std.proofs.lemmas.Result.{on_ok_weaker}
use Rattle.octet_model.specs.declared.event.Event.{Event}
use Rattle.octet_model.specs.declared.event.Event.TheVariants.{Read, Write, Update}
use Rattle.octet_clock.specs.Checker.{TakesEvent}
use Rattle.octet_clock.proofs.checker.Checker.take_in.Goals as goal

pub returns-in-Read-clause-taken : goal.returns-in-Read-clause-taken
returns-in-Read-clause-taken c = on_ok_weaker c.take_access.result
    (λ taken. subst (λ (e : Event). TakesEvent c.args.self.now c.args.thread e c.take_access.new.self) (sym c.in-Read.is) (taken (Read c.in-Read.object c.in-Read.value) refl refl))
    c.take_access.ensures.taken

pub returns-in-Write-clause-taken : goal.returns-in-Write-clause-taken
returns-in-Write-clause-taken c = on_ok_weaker c.take_access-in-Write.result
    (λ taken. elim c.in-Write.is [
      | inl write ↦ subst (λ (e : Event). TakesEvent c.args.self.now c.args.thread e c.take_access-in-Write.new.self) (sym write.1) (taken (Write c.in-Write.object write.0) refl refl)
      | inr update ↦ subst (λ (e : Event). TakesEvent c.args.self.now c.args.thread e c.take_access-in-Write.new.self) (sym update.2) (taken (Update c.in-Write.object update.0 update.1) refl refl)
    ])
    c.take_access-in-Write.ensures.taken
