-- Each kind of step keeps a state sound, and does to the words and the followers what it says.
use Rattle.std.proofs.Common.{◌≡◌, ℕ, zero, suc, ◌<◌, ◌≤◌, List, [], ◌∷◌, ◌++◌, map, length, replicate, get_or, set, IsTrue, refl, sym, ap, ◌∙◌, subst, arith, length-append}
use Rattle.std.proofs.lemmas.Bool.{le-leb, eq-eqb}
use Rattle.std.proofs.lemmas.List.{set-get_or}
use Rattle.octet_model.specs.declared.event.Event.{Event}
use Rattle.octet_model.specs.declared.event.Event.TheVariants.{Read, Write, Update, Marked}
use Rattle.octet_model.specs.declared.event.Mark.{Mark}
use Rattle.octet_model.specs.declared.event.Mark.TheVariants.{Join, Draw, Fence}
use Rattle.octet_model.specs.Machine.{Journals, journal_of, no_events, MakeMark, is_enabled, draws_after}
use Rattle.octet_model.specs.Plays.{state_after_play}
use Rattle.octet_seats.specs.Cells.{spread}
use Rattle.octet_follow.specs.State.{FollowerState, CourseState, follower_of, unbegun, progress, words, progress_place, draws_place, cell_place, journals_of, plain, opening}
use Rattle.octet_follow.specs.Steps.{Kind, after, ToLook, ToLookAtDraws, ToRead, ToWrite, ToUpdate, ToDraw, ToMark, ToShow, IsOwn}
use Rattle.octet_follow.specs.Seats.{HasFound}
use Rattle.octet_follow.specs.Soundness.{JoinsShown, IsSoundFollower, IsSoundCourse}
use Rattle.octet_follow.specs.Laws.{IsLawfulStep}
use Rattle.octet_follow.proofs.seats.Spread.{get_progress, set_progress, get_draws, set_draws, get_cell, set_cell, same_progress}
use Rattle.octet_follow.proofs.steps.Keeping.{journal_at, mine, others, as_many_followers, shown_more, joins_kept, keeps_sound, quiet_front, quiet_comes, event_keeps}

same_words : (ws : List ℕ) (place : ℕ) → set ws place (get_or ws place 0) ≡ ws
same_words ws place = set-get_or ws place 0

-- what is left of a word that an operation leaves as it was
left : (ws : List ℕ) (place at found : ℕ) (operation : ℕ → ℕ) → place ≡ at → get_or ws at 0 ≡ found → operation found ≡ found → set ws place (operation found) ≡ ws
left ws place at found operation is finds same = (λ i. set ws (is i) ((same ∙ sym finds) i)) ∙ same_words ws at

-- what followers show they have made. Where there is none, nothing is shown
shown_made : (ps : List FollowerState) → ((u : ℕ) → u < length ps → (get_or ps u unbegun).shown ≤ length (get_or ps u unbegun).journal) → (u : ℕ) → (get_or ps u unbegun).shown ≤ length (get_or ps u unbegun).journal
shown_made [] each u = omega arith
shown_made (p ∷ ps) each zero = each 0 (omega arith)
shown_made (p ∷ ps) each (suc u) = shown_made ps (λ v inside. each (suc v) (omega arith)) u

longer : (j : List Event) (e : Event) → length (j ++ e ∷ []) ≡ suc (length j)
longer j e = let a = length-append j (e ∷ []) in omega arith

module _ (s : CourseState) (t : ℕ) (sound : IsSoundCourse s) (within : t < length s.followers) where
  abbrev p : FollowerState
  p = follower_of s t

  -- a step by which no event is made, and after which the follower shows what it showed, or more
  module _ (k : Kind) (q : FollowerState) (no_event : q.journal ≡ p.journal) (shows : p.shown ≤ q.shown) where
    quiet_keeps : IsSoundFollower (record { starts = s.starts; play = s.play; followers = set s.followers t q; draws = s.draws; cells = s.cells }) q
        → IsSoundCourse (record { starts = s.starts; play = s.play; followers = set s.followers t q; draws = s.draws; cells = s.cells })
    quiet_keeps its =
        keeps_sound s sound t within q s.play s.draws s.cells shows (omega arith) sound.wide
        (quiet_front s sound t within q s.play s.draws s.cells no_event) (quiet_comes s sound t within q s.play s.draws s.cells no_event) its

    up : (u : ℕ) → (follower_of s u).shown ≤ (follower_of (record { starts = s.starts; play = s.play; followers = set s.followers t q; draws = s.draws; cells = s.cells }) u).shown
    up = shown_more s sound t within q s.play s.draws s.cells shows (omega arith)

    joined : JoinsShown (record { starts = s.starts; play = s.play; followers = set s.followers t q; draws = s.draws; cells = s.cells }) p.journal
    joined = joins_kept s sound t within q s.play s.draws s.cells shows (omega arith) p.journal (sound.each t within).joins

  pub look_is_lawful : (place whom : ℕ) (operation : ℕ → ℕ) → whom < length s.followers → place ≡ progress_place whom → ((word : ℕ) → operation word ≡ word) → IsLawfulStep (ToLook whom) t place operation s
  look_is_lawful place whom operation inside at same =
      let q : FollowerState = after (ToLook whom) (progress (follower_of s whom)) p in
      let its = sound.each t within in
      record {
        may = inside;
        sound = quiet_keeps (ToLook whom) q refl (omega arith) (record {
          shown = its.shown;
          look = up (ToLook whom) q refl (omega arith) whom;
          seen = its.seen;
          joins = joined (ToLook whom) q refl (omega arith);
        });
        does = record {
          finds = ap (λ (n : ℕ). get_or (words s) n 0) at ∙ get_progress s whom inside;
          leaves = left (words s) place (progress_place whom) _ operation at (get_progress s whom inside) (same _)
              ∙ ap (λ (l : List ℕ). spread (l ++ s.draws ∷ s.cells)) (sym (same_progress s.followers t q refl));
          mine = mine s sound t within q s.play s.draws s.cells;
          others = others s sound t within q s.play s.draws s.cells;
          many = as_many_followers s sound t within q s.play s.draws s.cells;
        };
      }

  pub look_at_draws_is_lawful : (place : ℕ) (operation : ℕ → ℕ) → place ≡ draws_place (length s.followers) → operation s.draws ≡ s.draws → IsLawfulStep ToLookAtDraws t place operation s
  look_at_draws_is_lawful place operation at same =
      let q : FollowerState = after ToLookAtDraws s.draws p in
      let its = sound.each t within in
      record {
        may = tt;
        sound = quiet_keeps ToLookAtDraws q refl (omega arith) (record {
          shown = its.shown;
          look = let a = its.look in let b = up ToLookAtDraws q refl (omega arith) p.whom in omega arith;
          seen = omega arith;
          joins = joined ToLookAtDraws q refl (omega arith);
        });
        does = record {
          finds = ap (λ (n : ℕ). get_or (words s) n 0) at ∙ get_draws s;
          leaves = left (words s) place (draws_place (length s.followers)) s.draws operation at (get_draws s) same
              ∙ ap (λ (l : List ℕ). spread (l ++ s.draws ∷ s.cells)) (sym (same_progress s.followers t q refl));
          mine = mine s sound t within q s.play s.draws s.cells;
          others = others s sound t within q s.play s.draws s.cells;
          many = as_many_followers s sound t within q s.play s.draws s.cells;
        };
      }

  -- it shows what it has made
  pub show_is_lawful : (place : ℕ) (operation : ℕ → ℕ) → place ≡ progress_place t → ((word : ℕ) → operation word ≡ length p.journal) → IsLawfulStep ToShow t place operation s
  show_is_lawful place operation at stores =
      let q : FollowerState = after ToShow (progress p) p in
      let its = sound.each t within in
      record {
        may = tt;
        sound = quiet_keeps ToShow q refl its.shown (record {
          shown = omega arith;
          look = let a = its.look in let b = up ToShow q refl its.shown p.whom in omega arith;
          seen = its.seen;
          joins = joined ToShow q refl its.shown;
        });
        does = record {
          finds = ap (λ (n : ℕ). get_or (words s) n 0) at ∙ get_progress s t within;
          leaves = (λ i. set (words s) (at i) (stores (progress p) i)) ∙ set_progress s t q within;
          mine = mine s sound t within q s.play s.draws s.cells;
          others = others s sound t within q s.play s.draws s.cells;
          many = as_many_followers s sound t within q s.play s.draws s.cells;
        };
      }

  -- what it shows it has made, also after one more event
  still_shown : (e : Event) → p.shown ≤ length (p.journal ++ e ∷ [])
  still_shown e = let a = (sound.each t within).shown in let b = longer p.journal e in omega arith

  pub read_is_lawful : (place object : ℕ) (operation : ℕ → ℕ) → object < length s.cells → place ≡ cell_place (length s.followers) object → ((word : ℕ) → operation word ≡ word) → IsLawfulStep (ToRead object) t place operation s
  read_is_lawful place object operation inside at same =
      let e : Event = Read object (get_or s.cells object 0) in
      let q : FollowerState = after (ToRead object) (get_or s.cells object 0) p in
      record {
        may = inside;
        sound = event_keeps s sound t within e refl refl q refl (still_shown e) (omega arith) (λ from upto is. absurd cc) refl refl refl;
        does = record {
          finds = ap (λ (n : ℕ). get_or (words s) n 0) at ∙ get_cell s object;
          leaves = left (words s) place (cell_place (length s.followers) object) _ operation at (get_cell s object) (same _)
              ∙ ap (λ (l : List ℕ). spread (l ++ s.draws ∷ s.cells)) (sym (same_progress s.followers t q refl));
          mine = mine s sound t within q (s.play ++ t ∷ []) s.draws s.cells;
          others = others s sound t within q (s.play ++ t ∷ []) s.draws s.cells;
          many = as_many_followers s sound t within q (s.play ++ t ∷ []) s.draws s.cells;
        };
      }

  pub write_is_lawful : (place object value : ℕ) (operation : ℕ → ℕ) → object < length s.cells → place ≡ cell_place (length s.followers) object → ((word : ℕ) → operation word ≡ value) → IsLawfulStep (ToWrite object value) t place operation s
  write_is_lawful place object value operation inside at stores =
      let e : Event = Write object value in
      let q : FollowerState = after (ToWrite object value) (get_or s.cells object 0) p in
      record {
        may = inside;
        sound = event_keeps s sound t within e refl refl q refl (still_shown e) (omega arith) (λ from upto is. absurd cc) refl refl refl;
        does = record {
          finds = ap (λ (n : ℕ). get_or (words s) n 0) at ∙ get_cell s object;
          leaves = (λ i. set (words s) (at i) (stores (get_or s.cells object 0) i)) ∙ set_cell s object value
              ∙ ap (λ (l : List ℕ). spread (l ++ s.draws ∷ set s.cells object value)) (sym (same_progress s.followers t q refl));
          mine = mine s sound t within q (s.play ++ t ∷ []) s.draws (set s.cells object value);
          others = others s sound t within q (s.play ++ t ∷ []) s.draws (set s.cells object value);
          many = as_many_followers s sound t within q (s.play ++ t ∷ []) s.draws (set s.cells object value);
        };
      }

  pub update_is_lawful : (place object : ℕ) (change operation : ℕ → ℕ) → object < length s.cells → place ≡ cell_place (length s.followers) object → ((word : ℕ) → operation word ≡ change word) → IsLawfulStep (ToUpdate object change) t place operation s
  update_is_lawful place object change operation inside at changes =
      let found : ℕ = get_or s.cells object 0 in
      let e : Event = Update object found (change found) in
      let q : FollowerState = after (ToUpdate object change) found p in
      record {
        may = inside;
        sound = event_keeps s sound t within e refl refl q refl (still_shown e) (omega arith) (λ from upto is. absurd cc) refl refl refl;
        does = record {
          finds = ap (λ (n : ℕ). get_or (words s) n 0) at ∙ get_cell s object;
          leaves = (λ i. set (words s) (at i) (changes found i)) ∙ set_cell s object (change found)
              ∙ ap (λ (l : List ℕ). spread (l ++ s.draws ∷ set s.cells object (change found))) (sym (same_progress s.followers t q refl));
          mine = mine s sound t within q (s.play ++ t ∷ []) s.draws (set s.cells object (change found));
          others = others s sound t within q (s.play ++ t ∷ []) s.draws (set s.cells object (change found));
          many = as_many_followers s sound t within q (s.play ++ t ∷ []) s.draws (set s.cells object (change found));
        };
      }

  pub draw_is_lawful : (place number : ℕ) (operation : ℕ → ℕ) → number ≡ suc s.draws → place ≡ draws_place (length s.followers) → operation s.draws ≡ suc s.draws → IsLawfulStep (ToDraw number) t place operation s
  draw_is_lawful place number operation next at draws =
      let e : Event = Marked (Draw number) in
      let q : FollowerState = after (ToDraw number) s.draws p in
      record {
        may = next;
        sound = event_keeps s sound t within e (eq-eqb number (suc s.draws) next) refl q refl (still_shown e) (omega arith) (λ from upto is. absurd cc) refl refl refl;
        does = record {
          finds = ap (λ (n : ℕ). get_or (words s) n 0) at ∙ get_draws s;
          leaves = (λ i. set (words s) (at i) (draws i)) ∙ set_draws s (suc s.draws)
              ∙ ap (λ (l : List ℕ). spread (l ++ suc s.draws ∷ s.cells)) (sym (same_progress s.followers t q refl));
          mine = mine s sound t within q (s.play ++ t ∷ []) (suc s.draws) s.cells;
          others = others s sound t within q (s.play ++ t ∷ []) (suc s.draws) s.cells;
          many = as_many_followers s sound t within q (s.play ++ t ∷ []) (suc s.draws) s.cells;
        };
      }

  -- what was found lets a mark be made
  is_own : (mark : Mark) → HasFound p mark → IsOwn mark
  is_own (Join from upto) found = tt
  is_own (Draw number) found = absurd found
  is_own (Fence number) found = tt

  same_draws : (mark : Mark) → HasFound p mark → draws_after (MakeMark mark) s.draws ≡ s.draws
  same_draws (Join from upto) found = refl
  same_draws (Draw number) found = absurd found
  same_draws (Fence number) found = refl

  found_enough : (mark : Mark) → HasFound p mark → IsTrue (is_enabled (plain s) (MakeMark mark))
  found_enough (Join from upto) found =
      let its = sound.each t within in
      le-leb upto (length (journal_of (journals_of s) from))
      (let a = its.look in let b = found.1 in let c = ap (λ (n : ℕ). (follower_of s n).shown) found.0 in let m = shown_made s.followers (λ u inside. (sound.each u inside).shown) from in let d = ap (λ (j : List Event). length j) (journal_at s.followers from) in omega arith)
  found_enough (Draw number) found = absurd found
  found_enough (Fence number) found = let its = sound.each t within in le-leb number s.draws (let a = its.seen in let b : number ≤ p.seen = found in omega arith)

  -- what it joins is shown
  joined_shown : (mark : Mark) → HasFound p mark → (from upto : ℕ) → Marked (Join from upto) ≡ Marked mark → upto ≤ (follower_of s from).shown
  joined_shown (Join whom many) found from upto is =
      let its = sound.each t within in
      let a : from ≡ whom = cc in
      let b : upto ≡ many = cc in
      let c = its.look in let d = found.1 in let e = ap (λ (n : ℕ). (follower_of s n).shown) (found.0 ∙ sym a) in omega arith
  joined_shown (Draw number) found from upto is = absurd found
  joined_shown (Fence number) found from upto is = absurd cc

  pub mark_is_lawful : (place : ℕ) (mark : Mark) (operation : ℕ → ℕ) → HasFound p mark → place ≡ progress_place t → operation p.shown ≡ suc (length p.journal) → IsLawfulStep (ToMark mark) t place operation s
  mark_is_lawful place mark operation found at stores =
      let e : Event = Marked mark in
      let q : FollowerState = after (ToMark mark) (progress p) p in
      let draws : ℕ = draws_after (MakeMark mark) s.draws in
      record {
        may = (is_own mark found, found_enough mark found);
        sound = event_keeps s sound t within e (found_enough mark found) refl q refl (omega arith) (still_shown e) (λ from upto is. joined_shown mark found from upto is) refl refl refl;
        does = record {
          finds = ap (λ (n : ℕ). get_or (words s) n 0) at ∙ get_progress s t within;
          leaves = (λ i. set (words s) (at i) ((stores ∙ sym (longer p.journal e)) i)) ∙ set_progress s t q within
              ∙ ap (λ (d : ℕ). spread (map progress (set s.followers t q) ++ d ∷ s.cells)) (sym (same_draws mark found));
          mine = mine s sound t within q (s.play ++ t ∷ []) draws s.cells;
          others = others s sound t within q (s.play ++ t ∷ []) draws s.cells;
          many = as_many_followers s sound t within q (s.play ++ t ∷ []) draws s.cells;
        };
      }

-- before the first step
none_before : (starts : List ℕ) (many : ℕ) → state_after_play starts (journals_of (opening starts many)) [] ≡ plain (opening starts many)
none_before starts many = ap (λ (js : Journals). record { heap = starts; journals = js; draws = 0 }) (empties many)
  where
    empties : (n : ℕ) → no_events (map (λ (p : FollowerState). p.journal) (replicate n unbegun)) ≡ map (λ (p : FollowerState). p.journal) (replicate n unbegun)
    empties zero = refl
    empties (suc n) = ap (λ (js : Journals). [] ∷ js) (empties n)

pub none_found : (many u : ℕ) → get_or (replicate many unbegun) u unbegun ≡ unbegun
none_found zero u = refl
none_found (suc many) zero = refl
none_found (suc many) (suc u) = none_found many u

pub opening_is_sound : (starts : List ℕ) (many : ℕ) → IsSoundCourse (opening starts many)
opening_is_sound starts many = record {
  wide = refl;
  is_play = tt;
  comes = none_before starts many;
  each = λ t inside. subst (λ (p : FollowerState). IsSoundFollower (opening starts many) p) (sym (none_found many t)) (record { shown = omega arith; look = omega arith; seen = omega arith; joins = λ k from upto is. absurd cc });
}
