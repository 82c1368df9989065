-- A step that is lawful in each state that the view of its follower allows keeps the rule.
use Rattle.std.proofs.Common.{◌≡◌, ◌≢◌, ℕ, true, List, length, get_or, set, sym, refl, ap, ◌∙◌, subst, arith}
use Rattle.atomic_table.specs.Table.{Me, keeps, Allows}
use Rattle.octet_model.specs.declared.event.Mark.{Mark}
use Rattle.octet_follow.specs.State.{CourseState, follower_of, words}
use Rattle.octet_follow.specs.Steps.{Kind, word_found, after, step}
use Rattle.octet_follow.specs.Laws.{IsLawfulStep}
use Rattle.octet_seats.specs.Seats.{Stay}
use Rattle.octet_seats.proofs.lemmas.Seats.{seats_stepped}
use Rattle.octet_follow.specs.Views.{FollowerView, facts_of, stepped_by}
use Rattle.octet_follow.specs.Rule.{IsSeenBy, HasLeft, IsUnmade, IsRuled, Steps}

module _ (k : Kind) (t place : ℕ) (operation : ℕ → ℕ) (s : CourseState) (law : IsLawfulStep k t place operation s) where
  -- the follower that steps is as its view then has it
  seen_by_stepper : (v : FollowerView) → v.number ≡ t → IsSeenBy v s → IsSeenBy (stepped_by k (word_found k t s) v) (step k t s)
  seen_by_stepper v same seen = record {
    sound = law.sound;
    starts = seen.starts;
    many = law.does.many ∙ seen.many;
    inside = let a = seen.inside in let e = law.does.many in omega arith;
    stands = ap (follower_of (step k t s)) same ∙ law.does.mine
        ∙ ap (after k (word_found k t s)) (ap (follower_of s) (sym same) ∙ seen.stands);
  }

  -- and the others are as theirs have them
  seen_by_other : (v : FollowerView) → v.number ≢ t → IsSeenBy v s → IsSeenBy v (step k t s)
  seen_by_other v ne seen = record {
    sound = law.sound;
    starts = seen.starts;
    many = law.does.many ∙ seen.many;
    inside = let a = seen.inside in let e = law.does.many in omega arith;
    stands = law.does.others v.number ne ∙ seen.stands;
  }

-- what a follower may do in a state: a lawful step, of which `Then` holds
pub record Can (place : ℕ) (operation : ℕ → ℕ) (v : FollowerView) (Then : ℕ → FollowerView → Type 0) (s : CourseState) : Type 0 where
  pub kind : Kind
  pub law : IsLawfulStep kind v.number place operation s
  pub then : (w : FollowerView) → Steps kind v (word_found kind v.number s) w → Then (word_found kind v.number s) w

pub tells : (starts : List ℕ) (followers slots id : ℕ) (me : Me Mark FollowerView) (place : ℕ) (operation : ℕ → ℕ) (Then : ℕ → FollowerView → Type 0) → me.0.is_live ≡ true
    → ((s : CourseState) → IsSeenBy me.0 s → Can place operation me.0 Then s)
    → Allows (IsRuled starts followers) slots id me place operation (λ word next. (next.1 ≡ me.1) × Then word next.0)
tells starts followers slots id me place operation Then live can table r _ at _ =
    let v : FollowerView = me.0 in let t : ℕ = v.number in let s : CourseState = r.state in let mine = r.seats.seated id v at live in
    let it = can s mine.seen in let k = it.kind in let law : IsLawfulStep k t place operation s = it.law in let next : CourseState = step k t s in
    let at_place : ℕ = get_or table.words place 0 in
    let word : at_place ≡ word_found k t s = ap (λ (z : List ℕ). get_or z place 0) r.lie ∙ law.does.finds in
    let w : FollowerView = stepped_by k (word_found k t s) v in
    let seen_after : IsSeenBy w next = seen_by_stepper k t place operation s law v refl mine.seen in
    let stay : Stay facts_of (λ y. IsSeenBy y s) (λ y. IsSeenBy y next) (HasLeft s) (HasLeft next) (IsUnmade s) (IsUnmade next) t = record {
      seen = seen_by_other k t place operation s law;
      left = λ u follower ne had. law.does.others u ne ∙ had;
      unmade = λ u ne had. law.does.others u ne ∙ had;
    } in (
      w,
      keeps,
      tt,
      record {
        state = next;
        lie = ap (λ (z : List ℕ). set z place (operation at_place)) r.lie ∙ (ap (λ (z : ℕ). set (words s) place (operation z)) word ∙ law.does.leaves);
        sound = law.sound;
        begins = r.begins;
        many = law.does.many ∙ r.many;
        seats = seats_stepped facts_of (λ y. IsSeenBy y s) (HasLeft s) (IsUnmade s) (length s.followers) table.views r.seats id v at live
            (λ y. IsSeenBy y next) (HasLeft next) (IsUnmade next) w (length next.followers) law.does.many refl seen_after stay;
      },
      (refl, subst (λ (n : ℕ). Then n w) (sym word) (it.then w (record { before = s; seen = mine.seen; may = law.may; word = refl; moves = refl; seen_after = seen_after }))),
    )
