use Rattle.std.proofs.Common.{ℕ, suc, ◌-◌, ◌<◌, length, get_or, ap, ◌∙◌, arith}
use Rattle.std.proofs.lemmas.Option.{slice_get-get_or}
use Rattle.octet_model.proofs.lemmas.Pasts.{past_grows}
use Rattle.octet_clock.specs.Past.{count_after}
use Rattle.octet_clock.proofs.pasts.Known.{past_within}
use Rattle.octet_clock.proofs.marks.Marks.last_known.Goals as goal

pub returns-in_default : goal.returns-in_default
returns-in_default c = λ journals thread now keeps place h.
    let marks = c.args.self.now in
    let last : ℕ = length marks.events.items - 1 in
    let within : last < length marks.events.items = omega (arith, c.in_default, c.len.ensures, marks.events.ok.0) in
    let at = slice_get-get_or marks.events.items last 0 within in
    let event = get_or marks.events.items last 0 in
    let here = c.count_after.ensures ∙ ap (λ (n : ℕ). count_after marks (n - 1) c.args.other) (c.len.ensures ∙ marks.events.ok.0) in
    past_grows journals thread (suc event) now place (keeps.made last event at)
    (past_within journals thread (suc event) c.args.other c.count_after.result (count_after marks last) (keeps.pasts last event at) (omega (arith, here)) place h)
