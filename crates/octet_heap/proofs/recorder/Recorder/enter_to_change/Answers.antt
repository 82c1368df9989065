use Rattle.std.proofs.Common.{◌≡◌, ◌∙◌, suc, sym, refl, ap, arith, subst}
use Rattle.octet_state.specs.declared.act.Mode.TheVariants.{Update}
use Rattle.octet_rule.specs.Seats.{view}
use Rattle.octet_rule.specs.Changes.{amount_by}
use Rattle.octet_rule.specs.declared.entered.Entered.{Entered}
use Rattle.octet_heap.specs.Logs.{IsLogOf}
use Rattle.octet_heap.specs.Waiting.{accesses_after_load}
use Rattle.octet_heap.proofs.log.Entries.{takes_access}
use Rattle.octet_heap.proofs.stretches.MadeAtOnce.{made_one}
use Rattle.octet_heap.proofs.recorder.Recorder.enter_to_change.Goals as goal

pub add_access-requires : goal.add_access-requires
add_access-requires c = record { few = c.requires.more.few; near = c.requires.more.near }

pub invariant_of-self : goal.invariant_of-self
invariant_of-self c = let r = c.args.self.now in let v = view r.seat in let e = c.add_access.ensures in
    let one = made_one c.args.object Update (amount_by c.args.change c.in-Made.told) v c.in-Made.told _ c.in-Made.ensures.steps in record {
      logged = subst (IsLogOf c.add_access.new.self r.base) (sym one.grown) (e.log r.base v.journal one.event one.is r.logged);
    }

pub returns-in-Made-clause-keeps : goal.returns-in-Made-clause-keeps
returns-in-Made-clause-keeps c = let r = c.args.self.now in let v = view r.seat in let e = c.add_access.ensures in
    let one = made_one c.args.object Update (amount_by c.args.change c.in-Made.told) v c.in-Made.told (view c.enter_to_change-entered.new.seat) c.in-Made.ensures.steps in record {
      own = c.enter_to_change-entered.ensures.own;
      same_base = refl;
      counts = (let more : c.add_access.new.self.accesses ≡ suc r.log.accesses = let counts = e.counts in omega arith in more) ∙ ap (λ (a : Entered). accesses_after_load a r.log.accesses) (sym c.in-Made.is);
      takes = takes_access v.journal (view c.enter_to_change-entered.new.seat).journal one.event r.log c.add_access.new.self one.grown one.is one.few e.counts e.marked e.marks;
    }
