use Rattle.std.proofs.Common.{List, length, sym, ◌∙◌, subst}
use Rattle.octet_regions.specs.declared.access.Access.{Access}
use Rattle.octet_regions.specs.declared.region.Region.{Region}
use Rattle.octet_regions.specs.Accesses.{accesses_of}
use Rattle.octet_regions.specs.code.Chooser.{IsStuck}
use Rattle.octet_regions.specs.Choice.{IsCycle, IsSerialChoice, TakesAll}
use Rattle.octet_regions.proofs.Choosing.{none_behind}
use Rattle.octet_regions.proofs.Gathering.{rises_in_order}
use Rattle.octet_regions.proofs.Walking.{not_all}
use Rattle.octet_regions.proofs.order.serial_of.Goals as goal

pub choose-requires-clause-keeps : goal.choose-requires-clause-keeps
choose-requires-clause-keeps c =
    let all = accesses_of c.args.script.now c.args.log.now.threads in
    (all, c.new-chooser.ensures.keeps (length c.args.script.now.threads) all c.requires.fit c.requires.queues)

pub lowest_behind-requires : goal.lowest_behind-requires
lowest_behind-requires c =
    let all = accesses_of c.args.script.now c.args.log.now.threads in
    (c.in_ok-choose.ensures.chose all (c.new-chooser.ensures.keeps (length c.args.script.now.threads) all c.requires.fit c.requires.queues)).keeps.few

pub cycle-requires-clause-stuck : goal.cycle-requires-clause-stuck
cycle-requires-clause-stuck c =
    let all = accesses_of c.args.script.now c.args.log.now.threads in
    let chosen = c.in_ok-choose.ensures.chose all (c.new-chooser.ensures.keeps (length c.args.script.now.threads) all c.requires.fit c.requires.queues) in
    subst (λ (accesses : List Access). IsStuck accesses c.choose.new.self) (sym (c.deref.ensures.value ∙ c.in_ok-accesses.ensures.gathered)) (record {
      keeps = chosen.keeps;
      none_free = chosen.none_free;
      threads = length c.args.script.now.threads;
      fit = c.requires.fit;
      rise = rises_in_order c.args.script.now c.args.log.now.threads;
    })

pub returns-in_default-clause-serial : goal.returns-in_default-clause-serial
returns-in_default-clause-serial c =
    let all = accesses_of c.args.script.now c.args.log.now.threads in
    let chosen = c.in_ok-choose.ensures.chose all (c.new-chooser.ensures.keeps (length c.args.script.now.threads) all c.requires.fit c.requires.queues) in
    subst (λ (order : List Region). IsSerialChoice all order × TakesAll all order) (sym c.from_vec.ensures) (chosen.choice, none_behind all c.choose.new.self chosen.keeps c.in_default.ensures)

pub returns-clause-serial : goal.returns-clause-serial
returns-clause-serial c =
    let all = accesses_of c.args.script.now c.args.log.now.threads in
    let chosen = c.in_ok-choose.ensures.chose all (c.new-chooser.ensures.keeps (length c.args.script.now.threads) all c.requires.fit c.requires.queues) in (
      c.choose.new.self.order.items,
      chosen.choice,
      not_all all c.choose.new.self chosen.keeps c.in-Some.start c.in-Some.ensures,
      subst (λ (accesses : List Access). IsCycle accesses c.choose.new.self.order.items c.in_ok-cycle.field-0) (c.deref.ensures.value ∙ c.in_ok-accesses.ensures.gathered) c.in_ok-cycle.ensures,
    )
