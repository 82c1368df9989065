-- What is recorded here is a recording of all threads that demand it, so followers repeat it.
use Rattle.octet_model.specs.Journals.{log_of}
use Rattle.octet_follow.proofs.lemmas.Histories.{history_is_recording}
use Rattle.octet_stream.specs.Followed.{FollowersRepeat, FollowersBegin}

pub followers_repeat : FollowersRepeat
followers_repeat starts journals last recorded threads each followers heap repeats followed =
    repeats threads journals last recorded.draws recorded.history each followed

pub followers_begin : FollowersBegin
followers_begin starts journals last recorded threads each followers keeps begun =
    keeps threads (log_of journals) (record { heap = last; journals = journals; draws = recorded.draws })
    (history_is_recording threads starts journals last recorded.draws recorded.history each) begun
