-- The ends of a script's runs, and their heaps.
use Rattle.std.proofs.Common.{◌≡◌, ℕ, suc, ◌<◌, ◌≤◌, List, [], ◌∷◌, ◌++◌, length, map, get_or, All, sym, ap, subst, ◌∙◌, inl, inr, arith, length-append}
use Rattle.std.specs.List.{Contains}
use Rattle.std.specs.List.Sorted.{IsPermutation}
use Rattle.std.proofs.lemmas.List.{length-map, map-append, get_or_default}
use Rattle.std.proofs.lemmas.List.Elements.{All-append}
use Rattle.std.proofs.lemmas.List.Sorted.{Contains-permutation, IsPermutation-map}
use Rattle.octet_model.specs.declared.script.Script.{Script}
use Rattle.octet_outcomes.specs.declared.endings.Ending.{Ending}
use Rattle.octet_outcomes.specs.Rows.{RowsState, Keeps, Grows}
use Rattle.octet_outcomes.specs.Moments.{Moment, MomentsState, no_moment, first_moment, AllDone}
use Rattle.octet_outcomes.specs.Runs.{AreAllOutcomes, IsLedTo, IsListed}
use Rattle.octet_outcomes.specs.Searches.{AreLed}
use Rattle.octet_outcomes.specs.Endings.{AreEnds, IsEnd, IsEnding, heap_at, heap_of}
use Rattle.octet_outcomes.proofs.Closing.{below_suc, contains_more, all_outcomes}
use Rattle.octet_outcomes.proofs.Likeness.{done_like, like_sym}

-- heaps, and the places at which they were found, of the ends among the first so many moments
pub record AreFinal (script : Script) (moments : List Moment) (many : ℕ) (heaps : List (List ℕ)) (places : List ℕ) : Type 0 where
  pub same : heaps ≡ map (heap_at moments) places
  pub ends : All (IsEnd script moments) places
  pub listed : IsListed script moments many heaps

pub final_done : (script : Script) (moments : List Moment) (before after : RowsState ℕ) (place found : ℕ) (heap places more : List ℕ) → place < length moments → AllDone script (get_or moments place no_moment)
    → heap ≡ heap_at moments place → Keeps before heap found after
    → (length after.rows ≤ length places → more ≡ places) → (length places < length after.rows → more ≡ places ++ place ∷ [])
    → AreFinal script moments place before.rows places → AreFinal script moments (suc place) after.rows more
final_done script moments before after place found heap places more lt done is keeps stay grow final = go keeps.grows
  where
    len : length before.rows ≡ length places
    len = ap length final.same ∙ length-map places (heap_at moments)

    listed : IsListed script moments (suc place) after.rows
    listed = below_suc (λ p. AllDone script (get_or moments p no_moment) → Contains after.rows (heap_at moments p)) place
        (λ p below all_done. contains_more before.rows after.rows heap (heap_at moments p) keeps.grows (final.listed p below all_done))
        (λ all_done. subst (λ (h : List ℕ). Contains after.rows h) is (found, keeps.there, get_or_default after.rows found heap [] keeps.there ∙ keeps.is))

    go : Grows before.rows heap after.rows → AreFinal script moments (suc place) after.rows more
    go (inl e) =
        let s : more ≡ places = stay (omega (arith, ap length e, len)) in
        record {
          same = e ∙ final.same ∙ ap (map (heap_at moments)) (sym s);
          ends = subst (λ (ps : List ℕ). All (IsEnd script moments) ps) (sym s) final.ends;
          listed = listed;
        }
    go (inr e) =
        let s : more ≡ places ++ place ∷ [] = grow (omega (arith, ap length e, length-append before.rows (heap ∷ []), len)) in
        record {
          same =
              e ∙ ap (λ (h : List ℕ). before.rows ++ h ∷ []) is ∙ ap (λ (hs : List (List ℕ)). hs ++ heap_at moments place ∷ []) final.same
              ∙ sym (map-append (heap_at moments) places (place ∷ [])) ∙ ap (map (heap_at moments)) (sym s);
          ends = subst (λ (ps : List ℕ). All (IsEnd script moments) ps) (sym s)
              (All-append (IsEnd script moments) places (place ∷ []) final.ends (λ k d l. let z : k ≡ 0 = omega arith in subst (λ (n : ℕ). IsEnd script moments (get_or (place ∷ []) n d)) (sym z) (lt, done)));
          listed = listed;
        }

pub final_not : (script : Script) (moments : List Moment) (place : ℕ) (heaps : List (List ℕ)) (places : List ℕ) → (AllDone script (get_or moments place no_moment) → ⊥) → AreFinal script moments place heaps places → AreFinal script moments (suc place) heaps places
final_not script moments place heaps places not_done final = record {
  same = final.same;
  ends = final.ends;
  listed = below_suc (λ p. AllDone script (get_or moments p no_moment) → Contains heaps (heap_at moments p)) place final.listed (λ all_done. absurd (not_done all_done));
}

-- so the places are those of all ends
pub are_ends : (script : Script) (moments : List Moment) (many : ℕ) (heaps : List (List ℕ)) (places : List ℕ) → AreFinal script moments many heaps places → AreEnds script moments many places
are_ends script moments many heaps places final = record {
  ends = final.ends;
  listed = subst (λ (hs : List (List ℕ)). IsListed script moments many hs) final.same final.listed;
}

-- endings in any order have all outcomes, where they have the heap of each end
pub all_ended : (script : Script) (s : MomentsState) (rows : List (List ℕ)) (places : List ℕ) (endings ordered : List Ending) → AreLed script s.moments rows → length s.moments ≤ length rows
    → 0 < length s.moments → get_or s.moments 0 no_moment ≡ first_moment script
    → AreEnds script s.moments (length s.moments) places → map heap_of endings ≡ map (heap_at s.moments) places → IsPermutation endings ordered
    → AreAllOutcomes script (map heap_of ordered)
all_ended script s rows places endings ordered led whole some first ends same permutation heap outcome =
    let all = all_outcomes script s rows (map (heap_at s.moments) places) led whole some first ends.listed heap outcome in
    Contains-permutation (map heap_of endings) (map heap_of ordered) heap (IsPermutation-map heap_of endings ordered permutation)
    (subst (λ (hs : List (List ℕ)). Contains hs heap) (sym same) all)

-- a run that comes to a moment like an end ends
pub is_ending : (script : Script) (ending : Ending) (m : Moment) → IsLedTo script ending.picks m → AllDone script m → ending.heap ≡ m.heap → IsEnding script ending
is_ending script ending m led done is = record {
  last = led.last;
  follows = led.follows;
  done = done_like script m led.last (like_sym script led.last m led.like) done;
  leaves = led.like.heap ∙ sym is;
}

-- the same, with how wide the heaps are
pub record AreKept (script : Script) (moments : List Moment) (objects many : ℕ) (heaps : RowsState ℕ) (places : List ℕ) : Type 0 where
  pub width : heaps.width ≡ objects
  pub final : AreFinal script moments many heaps.rows places
