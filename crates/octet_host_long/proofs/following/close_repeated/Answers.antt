use Rattle.std.proofs.Common.{◌≡◌, ◌∙◌, List, refl, sym, subst}
use Rattle.octet_follow.specs.Calls.{starts_in, ClosesTo}
use Rattle.octet_stream.specs.declared.long_follower.LongFollower.{LongFollower}
use Rattle.octet_stream.specs.Followers.{followers_of}
use Rattle.octet_host.proofs.lemmas.Sealing.{all_share}
use Rattle.octet_host.proofs.lemmas.Taking.{any_more}
use Rattle.octet_host_long.specs.declared.following.ClosedAgain.{ClosedAgain}
use Rattle.octet_host_long.specs.declared.repeated.LongCourse.{LongCourse}
use Rattle.octet_host_long.specs.declared.repeated.LongRepeated.{LongRepeated}
use Rattle.octet_host_long.specs.Closed.{HaveMade, IsClosedAgain}
use Rattle.octet_host_long.proofs.Leaving.{followers_are}
use Rattle.octet_host_long.specs.Threads.{course_of}
use Rattle.octet_host_long.proofs.following.close_repeated.Goals as goal

pub returns-clause-closed : goal.returns-clause-closed
returns-clause-closed c =
    let course = c.in_ok-course.course in
    let again : ClosedAgain = record { values = c.in_ok-values.values; made = c.in_ok-followers.made; last = course.last } in
    let closed : IsClosedAgain course again = record {
      threads = c.in_ok-followers.followers;
      all = c.in_ok-followers.ensures.all ∙ course.places;
      each = c.in_ok-followers.ensures.each;
      closes = c.in_ok-values.ensures.closes;
      keeps = c.in_ok-values.ensures.keeps;
      repeats = c.in_ok-values.ensures.repeats;
      made = c.in_ok-followers.ensures.made;
      last = refl;
    } in
    any_more (λ it. it.course.value ≡ course) (λ it. IsClosedAgain (course_of it) again) (λ it same. subst (λ (h : LongCourse). IsClosedAgain h again) (sym same) closed) c.args.threads.items c.in_ok-course.ensures.shared

pub returns-clause-theirs : goal.returns-clause-theirs
returns-clause-theirs c = λ share.
    let course = c.in_ok-course.course in let threads = c.args.threads.items in
    let each = all_share (λ (it : LongRepeated). it.course.value) threads course c.in_ok-course.ensures.shared share in
    let are = followers_are threads course c.in_ok-course.ensures.shared c.in_ok-course.ensures.as_one c.in_ok-course.notes.items c.in_ok-course.ensures.noted c.in_ok-followers.followers
    (c.in_ok-followers.ensures.all ∙ course.places) c.in_ok-followers.ensures.found each in record {
      course = course;
      share = each;
      closes = subst (λ (ts : List LongFollower). ClosesTo (starts_in course.rerun.session.course) (followers_of ts) c.in_ok-values.values) are c.in_ok-values.ensures.closes;
      made = subst (λ (ts : List LongFollower). HaveMade ts c.in_ok-followers.made) are c.in_ok-followers.ensures.made;
    }
