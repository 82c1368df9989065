use Rattle.std.proofs.Common.{rules, subst}
use Rattle.octet_state.specs.declared.act.Mode.{Mode}
use Rattle.octet_state.specs.declared.act.Mode.TheVariants.{Read, Write, Update}
use Rattle.octet_rule.specs.Conditions.{MayPass}
use Rattle.octet_rule.proofs.Acting.{reads, writes, bumps}
use Rattle.octet_rule.proofs.words.Words.pass_by_mode.Goals as goal

pub load-requires : goal.load-requires
load-requires c = let may : MayPass c.args.object Read c.args.inner.now.me.0.thread.phase = subst (λ (m : Mode). MayPass c.args.object m c.args.inner.now.me.0.thread.phase) c.in-Read.is c.requires.phase in
    (search rules, search rules, reads _ _ _ _ _ c.requires.live _ c.args.object c.requires.due may (search rules) (search rules))

pub store-requires : goal.store-requires
store-requires c = let may : MayPass c.args.object Write c.args.inner.now.me.0.thread.phase = subst (λ (m : Mode). MayPass c.args.object m c.args.inner.now.me.0.thread.phase) c.in-Write.is c.requires.phase in
    (search rules, search rules, writes _ _ _ _ _ c.requires.live _ c.args.object c.args.value c.requires.due may (search rules) (search rules))

pub fetch_add-requires : goal.fetch_add-requires
fetch_add-requires c = let may : MayPass c.args.object Update c.args.inner.now.me.0.thread.phase = subst (λ (m : Mode). MayPass c.args.object m c.args.inner.now.me.0.thread.phase) c.in-Update.is c.requires.phase in
    (search rules, search rules, bumps _ _ _ _ _ c.requires.live _ c.args.object c.args.value c.requires.due may (search rules) (search rules))
