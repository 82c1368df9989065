use Rattle.std.proofs.Common.{◌≡◌, List, Some, subst}
use Rattle.octet_model.specs.declared.log.Gapped.{Gapped}
use Rattle.octet_model.specs.Journals.{gapped_marks}
use Rattle.octet_heap.specs.Workers.{seat_of}
use Rattle.octet_live.specs.declared.feed.Feed.{Feed}
use Rattle.octet_live.specs.Feeds.{HasSent}
use Rattle.octet_live.proofs.lemmas.Feeds.{nothing_sent}
use Rattle.octet_threads.proofs.heap.live.connect.Goals as goal

pub invariant_of-runner-clause-fed : goal.invariant_of-runner-clause-fed
invariant_of-runner-clause-fed c = λ own is.
    let marks : List Gapped = gapped_marks 0 (seat_of c.args.runner.now.worker).journal in
    let same : c.args.feed ≡ own = (let both : Some c.args.feed ≡ Some own = is in cc) in
    subst (λ (feed : Feed). HasSent feed marks) same (nothing_sent c.args.feed marks c.requires)
