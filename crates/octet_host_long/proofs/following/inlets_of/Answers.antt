use Rattle.std.proofs.Common.{rules, ◌≡◌, ◌∙◌, [], ◌∷◌, ◌++◌, All, map, ap, sym, subst}
use Rattle.std.proofs.lemmas.List.Elements.{All-push}
use Rattle.octet_marks.specs.declared.piece.Head.{Head}
use Rattle.octet_host_long.specs.declared.inlet.Inlet.{Inlet}
use Rattle.octet_host_long.specs.Opened.{IsInlet}
use Rattle.octet_host_long.proofs.Beginning.{map_push}
use Rattle.octet_host_long.proofs.following.inlets_of.Goals as goal

pub loop-feeder-preserved : goal.loop-feeder-preserved
loop-feeder-preserved c =
    let i = c.loop-feeder.invariant in let inlets = c.loop-feeder.inlets.items in let made = c.new.result in
    let pushed : c.push.new.self.items ≡ inlets ++ made ∷ [] = search rules in
    let same : c.in_ok-try_clone.field-0.value ≡ c.args.head.now.value = search rules in
    let is : IsInlet c.args.head.now.value made = subst (λ (h : Head). IsInlet h made) same c.new.ensures.nothing in record {
      each = subst (All (IsInlet c.args.head.now.value)) (sym pushed) (All-push (IsInlet c.args.head.now.value) inlets made i.each is);
      feeders = ap (map (λ (inlet : Inlet). inlet.reader.feeder)) pushed ∙ map_push (λ (inlet : Inlet). inlet.reader.feeder) inlets made c.loop-feeder.yielded c.in-Some.feeder i.feeders c.new.ensures.feeder;
    }
