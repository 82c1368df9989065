use Rattle.std.proofs.Common.{rules, ◌≡◌, ◌∙◌, List, All, length, sym, subst}
use Rattle.std.proofs.Math.ListN.{drop}
use Rattle.std.proofs.lemmas.List.{take_at}
use Rattle.std.proofs.lemmas.List.Elements.{length_all_zip}
use Rattle.std.specs.List.{AllZip}
use Rattle.octet_threads.specs.declared.heap.runner.Runner.{Runner}
use Rattle.octet_threads.specs.Runners.{AreOf, HasEnded, IsSame}
use Rattle.octet_threads.proofs.runners.Opening.{still_of}
use Rattle.octet_threads.proofs.heap.running.run.Goals as goal

pub finish_run-requires-clause-runners : goal.finish_run-requires-clause-runners
finish_run-requires-clause-runners g c =
    let made = c.in_ok-runners.runners.items in
    let ran = c.run_all.new.runners in
    let zip : AllZip IsSame made ran = search rules in
    let long : length made ≡ c.in_ok-runners.runners.len = search rules in
    let many : length ran ≡ c.in_ok-runners.runners.len = sym (length_all_zip IsSame made ran zip) ∙ long in
    subst (λ (l : List Runner). AreOf c.args.script.now l) (sym (take_at ran (drop (length ran) made) c.in_ok-runners.runners.len many))
    (still_of c.args.script.now made ran c.in_ok-runners.ensures.of zip)

pub finish_run-requires-clause-ended : goal.finish_run-requires-clause-ended
finish_run-requires-clause-ended g c =
    let made = c.in_ok-runners.runners.items in
    let ran = c.run_all.new.runners in
    let zip : AllZip IsSame made ran = search rules in
    let long : length made ≡ c.in_ok-runners.runners.len = search rules in
    let many : length ran ≡ c.in_ok-runners.runners.len = sym (length_all_zip IsSame made ran zip) ∙ long in
    subst (λ (l : List Runner). All (HasEnded c.in_ok-heap.heap) l) (sym (take_at ran (drop (length ran) made) c.in_ok-runners.runners.len many)) c.run_all.ensures.ended
