use Rattle.std.proofs.Common.{◌≡◌, ◌∙◌, ℕ, ◌<◌, List, [], length, Option, None, unwrap_or, get_or, slice_get, sym, ap}
use Rattle.std.proofs.lemmas.Bool.{ltb-true}
use Rattle.std.proofs.lemmas.List.{get_or_default}
use Rattle.std.proofs.lemmas.Option.{unwrap_or-slice_get}
use Rattle.octet_commands.proofs.trace.line_in.Goals as goal

none_there : (lines : List (List ℕ)) (thread command : ℕ) (its : List ℕ) → thread < length lines → its ≡ get_or lines thread its → slice_get its command ≡ None → 0 ≡ get_or (get_or lines thread []) command 0
none_there lines thread command its lt is none =
    ap (λ (o : Option ℕ). unwrap_or o 0) (sym none) ∙ unwrap_or-slice_get its command 0 ∙ ap (λ (l : List ℕ). get_or l command 0) (is ∙ get_or_default lines thread its [] lt)

pub returns-in-None-get : goal.returns-in-None-get
returns-in-None-get c =
    none_there c.args.lines.now c.args.thread c.args.command c.in-Some.of_thread.now (ltb-true c.args.thread (length c.args.lines.now) (sym c.in-Some.ensures.lookup.0)) c.in-Some.ensures.lookup.1 (sym c.in-None-get.ensures)
