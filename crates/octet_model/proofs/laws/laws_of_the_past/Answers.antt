use Rattle.octet_model.proofs.lemmas.Pasts.{past_has_own, past_happens_before, past_is_closed, past_grows, past_has_joined, past_has_draws_whole}
use Rattle.octet_model.proofs.lemmas.MarksSeen.{history_marks_seen}
use Rattle.octet_model.proofs.laws.laws_of_the_past.Goals as goal

pub returns-clause-own : goal.returns-clause-own
returns-clause-own c journals now place is below = past_has_own journals place.thread now place.event below is

pub returns-clause-later : goal.returns-clause-later
returns-clause-later c journals now place later h le is = past_happens_before journals later.thread now later.event place h le is

pub returns-clause-closed : goal.returns-clause-closed
returns-clause-closed c journals thread now earlier place p h = past_is_closed journals thread now earlier place p h

pub returns-clause-grows : goal.returns-clause-grows
returns-clause-grows c journals thread sooner now place le h = past_grows journals thread sooner now place le h

pub returns-clause-joined : goal.returns-clause-joined
returns-clause-joined c journals now from upto join place lt is le h = past_has_joined journals join.thread now join.event from upto place lt is le h

pub returns-clause-draws : goal.returns-clause-draws
returns-clause-draws c journals now number upto seen draw place differ lt at_seen is le reaches =
    past_has_draws_whole journals seen.thread now seen.event upto number draw place differ lt at_seen is le reaches

pub returns-clause-differ : goal.returns-clause-differ
returns-clause-differ c starts journals heap draws h = (history_marks_seen starts journals heap draws h).differ
