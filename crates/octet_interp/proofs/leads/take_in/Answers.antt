use Rattle.std.proofs.Common.{◌≡◌, ℕ, suc, ◌<◌, List, [], ◌∷◌, ◌++◌, length, Option, set, refl, sym, ap, ◌∙◌, subst, add-one, arith}
use Rattle.std.proofs.lemmas.List.{get_or_push, length_push}
use Rattle.std.proofs.lemmas.Option.{slice_get-get_or}
use Rattle.octet_model.specs.declared.command.Command.{Command}
use Rattle.octet_model.specs.Thread.{place_past_end}
use Rattle.octet_interp.specs.Leads.{IsMatched}
use Rattle.octet_interp.proofs.Matching.{takes_opener, takes_closer, takes_other}
use Rattle.octet_interp.proofs.leads.take_in.Goals as goal

pub returns-then-is_opener : goal.returns-then-is_opener
returns-then-is_opener c =
    let items : c.args.opened.now.items ++ c.args.place ∷ [] ≡ c.push.new.self.items = sym c.in_ok-push.ensures.items in
    subst (λ (opened : List ℕ). IsMatched c.args.commands.now (suc c.args.place) opened c.args.leads.now) items
    (takes_opener c.args.commands.now c.args.place _ c.args.opened.now.items c.args.leads.now c.requires.matched (slice_get-get_or c.args.commands.now c.args.place _ c.requires.within) c.requires.within (sym c.if-is_opener.ensures))

pub returns-then-is_closer : goal.returns-then-is_closer
returns-then-is_closer c =
    let m = subst (λ (opened : List ℕ). IsMatched c.args.commands.now c.args.place opened c.args.leads.now) c.in-Some.ensures.items c.requires.matched in
    let below : c.in-Some.opener < length c.args.commands.now = omega (arith, m.below (length c.pop.new.self.items) (omega (arith, length_push c.pop.new.self.items c.in-Some.opener)), get_or_push c.pop.new.self.items c.in-Some.opener 0 (length c.pop.new.self.items) refl, c.requires.within) in
    subst (λ (k : ℕ). IsMatched c.args.commands.now (suc c.args.place) c.pop.new.self.items (set (set c.args.leads.now c.in-Some.opener k) c.args.place c.place_past_end.result)) (sym (add-one c.args.place))
    (takes_closer c.args.commands.now c.args.place _ c.pop.new.self.items c.in-Some.opener c.args.leads.now c.place_past_end.result m (slice_get-get_or c.args.commands.now c.args.place _ c.requires.within) c.requires.within (sym c.if-is_closer.ensures)
    (c.place_past_end.ensures ∙ ap (λ (o : Option Command). place_past_end o c.in-Some.opener c.args.place) (sym (slice_get-get_or c.args.commands.now c.in-Some.opener _ below))))

pub returns : goal.returns
returns c = takes_other c.args.commands.now c.args.place _ c.args.opened.now.items c.args.leads.now c.requires.matched (slice_get-get_or c.args.commands.now c.args.place _ c.requires.within) c.requires.within (sym c.if-is_opener.ensures) (sym c.if-is_closer.ensures)
