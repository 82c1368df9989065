-- What threads have made, one after another.
use Rattle.std.proofs.Common.{◌≡◌, suc, List, [], ◌∷◌, ◌++◌, length, refl, ap}
use Rattle.octet_model.specs.declared.event.Event.{Event}
use Rattle.octet_model.specs.declared.event.Event.TheVariants.{Read, Write, Update, Marked}
use Rattle.octet_model.specs.Journals.{access_count}
use Rattle.octet_window.specs.Ordering.{accesses_in}
use Rattle.octet_stream.specs.declared.long_follower.LongFollower.{LongFollower}
use Rattle.octet_tail.specs.declared.tail.Made.{Made}
use Rattle.octet_tail.specs.Tails.{HasMade}
use Rattle.octet_host_long.specs.Closed.{HaveMade}
use Rattle.octet_host_long.specs.Tailed.{made_by}

-- so many accesses are counted as there are
pub count_is : (journal : List Event) → access_count journal ≡ length (accesses_in journal)
count_is [] = refl
count_is (Read object value ∷ journal) = ap suc (count_is journal)
count_is (Write object value ∷ journal) = ap suc (count_is journal)
count_is (Update object before after ∷ journal) = ap suc (count_is journal)
count_is (Marked mark ∷ journal) = count_is journal

-- what threads have made, with one more of them
pub made_more : (threads : List LongFollower) (made : List Made) (thread : LongFollower) (one : Made) → HaveMade threads made → HasMade (made_by thread) one
    → HaveMade (threads ++ thread ∷ []) (made ++ one ∷ [])
made_more [] [] thread one have has = (has, tt)
made_more [] (m ∷ made) thread one have has = absurd have
made_more (t ∷ threads) [] thread one have has = absurd have
made_more (t ∷ threads) (m ∷ made) thread one have has = (have.0, made_more threads made thread one have.1 has)
