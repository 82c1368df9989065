use Rattle.octet_window.proofs.Rest.{rest_is_history}
use Rattle.octet_window.proofs.laws.rest_is_history.Goals as goal

pub returns : goal.returns
returns c = rest_is_history
