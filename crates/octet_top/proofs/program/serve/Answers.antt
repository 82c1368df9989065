use Rattle.octet_commands.specs.Request.{texts}
use Rattle.octet_top.proofs.serving.Causes.{has_cause}
use Rattle.octet_top.proofs.serving.Promises as promise
use Rattle.octet_top.proofs.serving.PairPromises as of_pair
use Rattle.octet_top.proofs.serving.Searches as search
use Rattle.octet_top.proofs.serving.Due.{one_due, comes_as_due}
use Rattle.octet_top.proofs.writing.Cut.{cuts}
use Rattle.octet_top.proofs.serving.Effects as effect
use Rattle.octet_top.proofs.program.serve.Goals as goal

pub returns : goal.returns
returns g c =
    let words = texts c.args.words.now in
    let served = c.serve_words.ensures in
    record {
      headline = promise.headline words _ _ _ served;
      played = promise.played words _ _ _ served;
      exact_totals = promise.exact_totals words _ _ _ served;
      ordered = of_pair.ordered words _ _ _ served;
      parallel = of_pair.replays_on_threads words _ _ _ served;
      generated = promise.generated words _ _ _ served;
      repeats = of_pair.repeats words _ _ _ served;
      sliced = of_pair.slices words _ _ _ served;
      stopped = of_pair.stops words _ _ _ served;
      traced = of_pair.traces words _ _ _ served;
      traced_misfit = of_pair.traces_misfits words _ _ _ served;
      hunted = promise.hunts words _ _ _ served;
      outcomes = search.finds_outcomes words _ _ _ served;
      cut_off = search.cuts_off words _ _ _ served;
      always = search.shows_always words _ _ _ served;
      otherwise = search.refutes_always words _ _ _ served;
      converted = promise.converts words _ _ _ served;
      regions = of_pair.finds_regions words _ _ _ served;
      cause = has_cause words _ _ _ served;
      due = comes_as_due words _ _ _ served;
      one_due = one_due words;
      complete = effect.complete words _ _ _ served;
      status = effect.status words _ _ _ served;
      left = effect.leaves words _ _ _ served;
      cut = cuts words _ _ _ served;
      others = effect.others words _ _ _ served;
      untouched = effect.untouched words _ _ _ served;
      counts = effect.counts words _ _ _ served;
      served = served;
    }
