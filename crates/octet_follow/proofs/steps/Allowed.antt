-- Each step of a follower keeps the rule, by the law of its kind.
use Rattle.std.proofs.Common.{◌≡◌, ℕ, suc, ◌+◌, ◌*◌, ◌/◌, ◌<◌, inl, inr, Bool, true, ◌==◌, List, length, sym, refl, ap, ◌∙◌, subst, arith}
use Rattle.std.proofs.lemmas.Bool.{cases_eq, eq-eqb, ne_eqb}
use prog.Atomic.{either}
use mathlib.Core.Option.{some}
use Rattle.atomic_table.specs.Table.{Me, Allows, step as table_step}
use Rattle.octet_model.specs.declared.event.Mark.{Mark}
use Rattle.octet_rule.specs.Changes.{changed_by}
use Rattle.octet_rule.specs.declared.change.Change.{Change}
use Rattle.octet_follow.specs.State.{FollowerState, CourseState, follower_of, progress_place, draws_place, cell_place}
use Rattle.octet_follow.specs.Steps.{ToLook, ToLookAtDraws, ToRead, ToWrite, ToUpdate, ToDraw, ToMark, ToShow}
use Rattle.octet_follow.specs.Seats.{HasFound}
use Rattle.octet_follow.specs.Views.{FollowerView}
use Rattle.octet_follow.specs.Rule.{IsSeenBy, IsRuled, Steps, Finds, Stores, Changes, Draws, Marks, DoesStep, DrawsOrLooks, object_at}
use Rattle.octet_follow.proofs.steps.Lawful.{look_is_lawful, look_at_draws_is_lawful, read_is_lawful, write_is_lawful, update_is_lawful, show_is_lawful, mark_is_lawful, draw_is_lawful}
use Rattle.octet_follow.proofs.steps.Kept.{tells}

-- the object whose cell lies at its place
pub object_there : (v : FollowerView) (place object : ℕ) → place ≡ cell_place v.followers object → object_at v place ≡ object
object_there v place object is = omega (arith, is)

module _ (starts : List ℕ) (followers slots id : ℕ) (me : Me Mark FollowerView) (live : me.0.is_live ≡ true) where
  abbrev v : FollowerView
  v = me.0

  -- there is a cell for each object
  inside_in : (s : CourseState) → IsSeenBy v s → (object : ℕ) → object < length v.starts → object < length s.cells
  inside_in s seen object inside = let a = seen.sound.wide in let b = ap (λ (l : List ℕ). length l) seen.starts in omega arith

  cell_in : (s : CourseState) → IsSeenBy v s → (place object : ℕ) → place ≡ cell_place v.followers object → place ≡ cell_place (length s.followers) object
  cell_in s seen place object is = is ∙ ap (λ (n : ℕ). cell_place n object) (sym seen.many)

  pub looks : (place whom : ℕ) → whom < v.followers → place ≡ 8 * whom
      → Allows (IsRuled starts followers) slots id me place (λ word. word) (Finds (ToLook (place / 8)) me)
  looks place whom inside is =
      let there : place / 8 ≡ whom = omega (arith, is) in
      tells starts followers slots id me place (λ word. word) (Steps (ToLook (place / 8)) v) live
      (λ s seen. record {
        kind = ToLook (place / 8);
        law = look_is_lawful s v.number seen.sound seen.inside place (place / 8) (λ word. word)
            (let e = seen.many in omega (arith, e, inside, there)) (is ∙ ap progress_place (sym there)) (λ word. refl);
        then = λ w steps. steps;
      })

  pub looks_at_draws : (place : ℕ) → place ≡ 8 * v.followers
      → Allows (IsRuled starts followers) slots id me place (λ word. word) (Finds ToLookAtDraws me)
  looks_at_draws place is =
      tells starts followers slots id me place (λ word. word) (Steps ToLookAtDraws v) live
      (λ s seen. record {
        kind = ToLookAtDraws;
        law = look_at_draws_is_lawful s v.number seen.sound seen.inside place (λ word. word) (is ∙ ap draws_place (sym seen.many)) refl;
        then = λ w steps. steps;
      })

  pub reads : (place object : ℕ) → object < length v.starts → place ≡ cell_place v.followers object
      → Allows (IsRuled starts followers) slots id me place (λ word. word) (Finds (ToRead (object_at v place)) me)
  reads place object inside is =
      subst (λ (o : ℕ). Allows (IsRuled starts followers) slots id me place (λ word. word) (Finds (ToRead o) me)) (sym (object_there v place object is))
      (tells starts followers slots id me place (λ word. word) (Steps (ToRead object) v) live
      (λ s seen. record {
        kind = ToRead object;
        law = read_is_lawful s v.number seen.sound seen.inside place object (λ word. word) (inside_in s seen object inside) (cell_in s seen place object is) (λ word. refl);
        then = λ w steps. steps;
      }))

  pub writes : (place object value : ℕ) → object < length v.starts → place ≡ cell_place v.followers object
      → Allows (IsRuled starts followers) slots id me place (λ word. value) (λ word. Stores (ToWrite (object_at v place) value) me)
  writes place object value inside is =
      subst (λ (o : ℕ). Allows (IsRuled starts followers) slots id me place (λ word. value) (λ word. Stores (ToWrite o value) me)) (sym (object_there v place object is))
      (tells starts followers slots id me place (λ word. value) (λ word w. DoesStep (ToWrite object value) v w) live
      (λ s seen. record {
        kind = ToWrite object value;
        law = write_is_lawful s v.number seen.sound seen.inside place object value (λ word. value) (inside_in s seen object inside) (cell_in s seen place object is) (λ word. refl);
        then = λ w steps. (_, steps);
      }))

  -- an operation that makes of each word what the change makes of it
  pub updates : (change : Change) (f : ℕ → ℕ) (place object : ℕ) → ((word : ℕ) → f word ≡ changed_by change word) → object < length v.starts → place ≡ cell_place v.followers object
      → Allows (IsRuled starts followers) slots id me place f (Changes change (object_at v place) me)
  updates change f place object makes inside is =
      subst (λ (o : ℕ). Allows (IsRuled starts followers) slots id me place f (Changes change o me)) (sym (object_there v place object is))
      (tells starts followers slots id me place f (Steps (ToUpdate object (changed_by change)) v) live
      (λ s seen. record {
        kind = ToUpdate object (changed_by change);
        law = update_is_lawful s v.number seen.sound seen.inside place object (changed_by change) f (inside_in s seen object inside) (cell_in s seen place object is) makes;
        then = λ w steps. steps;
      }))

  pub shows : (place new : ℕ) → new ≡ length v.follower.journal → place ≡ progress_place v.number
      → Allows (IsRuled starts followers) slots id me place (λ word. new) (λ word. Stores ToShow me)
  shows place new is_new is =
      tells starts followers slots id me place (λ word. new) (λ word w. DoesStep ToShow v w) live
      (λ s seen. record {
        kind = ToShow;
        law = show_is_lawful s v.number seen.sound seen.inside place (λ word. new) is (λ word. is_new ∙ sym (ap (λ (p : FollowerState). length p.journal) seen.stands));
        then = λ w steps. (_, steps);
      })

  pub draws : (place expected new : ℕ) → new ≡ expected + 1 → place ≡ 8 * v.followers
      → Allows (IsRuled starts followers) slots id me place (λ n. either (n == expected) new n) (Draws expected me)
  draws place expected new next is =
      tells starts followers slots id me place (λ n. either (n == expected) new n) (λ word w. DrawsOrLooks expected v word w) live
      (λ s seen.
      let there : place ≡ draws_place (length s.followers) = is ∙ ap draws_place (sym seen.many) in
      elim (cases_eq s.draws expected) [
        | inl same ↦ record {
          kind = ToDraw (suc expected);
          law = draw_is_lawful s v.number seen.sound seen.inside place (suc expected) (λ n. either (n == expected) new n) (ap suc (sym same)) there
              (ap (λ (b : Bool). either b new s.draws) (eq-eqb s.draws expected same) ∙ (let e : new ≡ suc s.draws = omega arith in e));
          then = λ w steps. inl (same, steps);
        }
        | inr ne ↦ record {
          kind = ToLookAtDraws;
          law = look_at_draws_is_lawful s v.number seen.sound seen.inside place (λ n. either (n == expected) new n) there
              (ap (λ (b : Bool). either b new s.draws) (ne_eqb s.draws expected ne));
          then = λ w steps. inr (ne, steps);
        }
      ])

  pub marks : (place before new : ℕ) (mark : Mark) → HasFound v.follower mark → before ≡ v.follower.shown → new ≡ length v.follower.journal + 1 → place ≡ progress_place v.number
      → Allows (IsRuled starts followers) slots id me place (λ n. either (n == before) new n) (Marks (table_step slots place before new (some mark)) me)
  marks place before new mark found is_before is_new is =
      λ table r many at small.
      let all = tells starts followers slots id me place (λ n. either (n == before) new n) (Steps (ToMark mark) v) live
      (λ s seen.
      let here : (follower_of s v.number).shown ≡ before = ap (λ (p : FollowerState). p.shown) seen.stands ∙ sym is_before in
      let made = ap (λ (p : FollowerState). length p.journal) seen.stands in record {
        kind = ToMark mark;
        law = mark_is_lawful s v.number seen.sound seen.inside place mark (λ n. either (n == before) new n) (subst (λ (p : FollowerState). HasFound p mark) (sym seen.stands) found) is
            (ap (λ (b : Bool). either b new (follower_of s v.number).shown) (eq-eqb (follower_of s v.number).shown before here) ∙ (let e : new ≡ suc (length (follower_of s v.number).journal) = omega arith in e));
        then = λ w steps. steps;
      }) table r many at small in
      (all.0, all.1, all.2, all.3, (mark, refl, all.4))
