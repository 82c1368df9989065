use Rattle.octet_stream.proofs.Followed.{followers_repeat, followers_begin}
use Rattle.octet_stream.proofs.laws.followers_repeat.Goals as goal

pub returns-clause-ends : goal.returns-clause-ends
returns-clause-ends c = followers_repeat

pub returns-clause-begins : goal.returns-clause-begins
returns-clause-begins c = followers_begin
