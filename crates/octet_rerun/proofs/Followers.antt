-- A follower stays its run's, and what it makes of marks and accesses adds up.
use Rattle.std.proofs.Common.{◌≡◌, ◌∙◌, ℕ, zero, suc, ◌+◌, ◌^◌, ◌<◌, ◌≤◌, All, List, [], ◌∷◌, ◌++◌, length, map, Some, slice_index_or, refl, sym, ap, subst, append_assoc, arith, lit<, length-append}
use Rattle.std.proofs.lemmas.List.{map-append}
use Rattle.octet_model.specs.declared.event.Event.{Event}
use Rattle.octet_model.specs.declared.event.Event.TheVariants as event
use Rattle.octet_model.specs.declared.event.Mark.{Mark}
use Rattle.octet_model.specs.Journals.{access_count}
use Rattle.octet_model.specs.Machine.{Journals, journal_of}
use Rattle.octet_parallel.specs.declared.player.Player.{Player}
use Rattle.octet_parallel.specs.Calls.{view_of, IsPlayerOf, MakesNext, EachUnbegun}
use Rattle.octet_parallel.specs.State.{PlayerState}
use Rattle.octet_recorder.specs.declared.access.Access.{Access}
use Rattle.octet_rerun.specs.declared.follower.Follower.{Follower}
use Rattle.octet_rerun.specs.declared.rerun.Rerun.{Rerun}
use Rattle.octet_rerun.specs.Events.{event_of, found_in}
use Rattle.octet_rerun.specs.Reruns.{recorded_of, made_by, next_recorded, players_of, Begins, IsOfRecording, IsFollowerOf, MakesMarks, Makes, ArePlain, EachAtStart}
use Rattle.octet_rerun.proofs.Recorded.{recorded_after, made_as_recorded}

-- a journal of a recording is short
pub short : (journals : Journals) (thread : ℕ) → All (λ journal. length journal < 2 ^ 32) journals → length (journal_of journals thread) < 2 ^ 32
short [] thread all = lit< tt
short (j ∷ journals) zero all = all 0 [] (omega arith)
short (j ∷ journals) (suc thread) all = short journals thread (λ k none there. all (suc k) none (omega (arith, there)))

access_split : (j k : List Event) → access_count (j ++ k) ≡ access_count j + access_count k
access_split [] k = omega arith
access_split (event.Read object value ∷ j) k = let m = access_split j k in omega arith
access_split (event.Write object value ∷ j) k = let m = access_split j k in omega arith
access_split (event.Update object before after ∷ j) k = let m = access_split j k in omega arith
access_split (event.Marked mark ∷ j) k = access_split j k

begun_short : (journal recorded : List Event) → Begins journal recorded → length journal ≤ length recorded
begun_short journal recorded begins = omega (arith, ap (λ (l : List Event). length l) begins.1, length-append journal begins.0)

module _ (rerun : Rerun) (f : Follower) (own : IsFollowerOf rerun f) (q : Player) (kept : IsPlayerOf rerun.field q) (same : (view_of q).number ≡ (view_of f.player).number) where
  abbrev journal : List Event
  journal = (view_of q).player.journal

  module _ (m : MakesNext (view_of f.player) (view_of q)) (event : Event) (next : next_recorded rerun f ≡ Some event) where
    begins : Begins journal (recorded_of rerun f.thread)
    begins = subst (λ (n : ℕ). Begins journal (recorded_of rerun n)) (same ∙ own.number) (recorded_after rerun own.recording (view_of f.player) q kept m)

    is_recorded : m.event ≡ event
    is_recorded = made_as_recorded (recorded_of rerun f.thread) (made_by f) m.event event (subst (λ (j : List Event). Begins j (recorded_of rerun f.thread)) m.journal begins) next

    -- it makes the event that was recorded next
    pub makes : journal ≡ made_by f ++ event ∷ []
    makes = m.journal ∙ ap (λ (e : Event). made_by f ++ e ∷ []) is_recorded

    pub more_made : f.made + 1 ≤ length (recorded_of rerun f.thread)
    more_made = omega (arith, begun_short journal (recorded_of rerun f.thread) begins, ap (λ (j : List Event). length j) makes, length-append (made_by f) (event ∷ []), own.made)

    pub grows : (made accesses : ℕ) → made ≡ f.made + 1 → accesses ≡ f.accesses + access_count (event ∷ []) → IsFollowerOf rerun (record { player = q; thread = f.thread; made = made; accesses = accesses })
    grows made accesses as_made as_accesses = record {
      recording = own.recording;
      own = kept;
      number = same ∙ own.number;
      begins = begins;
      made = omega (arith, as_made, own.made, ap (λ (j : List Event). length j) makes, length-append (made_by f) (event ∷ []));
      accesses = omega (arith, as_accesses, own.accesses, ap access_count makes, access_split (made_by f) (event ∷ []));
    }

pub more_marks : (v u w : Follower) (mark : Mark) → MakesMarks v u → made_by w ≡ made_by u ++ event.Marked mark ∷ [] → MakesMarks v w
more_marks v u w mark before made = record {
  marks = before.marks ++ mark ∷ [];
  grown =
      made ∙ (ap (λ (j : List Event). j ++ event.Marked mark ∷ []) before.grown
      ∙ (append_assoc (made_by v) (map (λ m. event.Marked m) before.marks) (event.Marked mark ∷ [])
      ∙ ap (λ (j : List Event). made_by v ++ j) (sym (map-append (λ (m : Mark). event.Marked m) before.marks (mark ∷ [])))));
}

-- marks, and then the access that was recorded after them
pub marks_first : (access : Access) (v u w : Follower) (e : Event) → MakesMarks v u → made_by w ≡ made_by u ++ e ∷ [] → e ≡ event_of access (found_in e) → Makes access v (found_in e) w
marks_first access v u w e before made is = record {
  marks = before.marks;
  found = found_in e;
  grown =
      made ∙ (ap (λ (j : List Event). j ++ e ∷ []) before.grown
      ∙ (append_assoc (made_by v) (map (λ m. event.Marked m) before.marks) (e ∷ [])
      ∙ ap (λ (x : Event). made_by v ++ (map (λ m. event.Marked m) before.marks ++ x ∷ [])) is));
  told = ap found_in is;
}

-- followers of players that have made nothing
plain_at : (first : ℕ) (followers : List Follower) (t : ℕ) (none : Follower) → ArePlain first followers → t < length followers
    → ((slice_index_or followers t none).thread ≡ first + t) × ((slice_index_or followers t none).made ≡ 0) × ((slice_index_or followers t none).accesses ≡ 0)
plain_at first [] t none plain there = absurd (omega (arith, there))
plain_at first (f ∷ followers) zero none plain there = (omega (arith, plain.0.0), plain.0.1, plain.0.2)
plain_at first (f ∷ followers) (suc t) none plain there =
    let at = plain_at (first + 1) followers t none plain.1 (omega (arith, there)) in (omega (arith, at.0), at.1, at.2)

pub plain_more : (first : ℕ) (followers : List Follower) (f : Follower) → ArePlain first followers → f.thread ≡ first + length followers → f.made ≡ 0 → f.accesses ≡ 0 → ArePlain first (followers ++ f ∷ [])
plain_more first [] f plain thread made accesses = ((omega (arith, thread), made, accesses), tt)
plain_more first (g ∷ followers) f plain thread made accesses = (plain.0, plain_more (first + 1) followers f plain.1 (omega (arith, thread)) made accesses)

pub player_at : (followers : List Follower) (t : ℕ) (none : Follower) → t < length followers → slice_index_or (players_of followers) t none.player ≡ (slice_index_or followers t none).player
player_at [] t none there = absurd (omega (arith, there))
player_at (f ∷ followers) zero none there = refl
player_at (f ∷ followers) (suc t) none there = player_at followers t none (omega (arith, there))

pub at_start : (rerun : Rerun) (followers : List Follower) → IsOfRecording rerun → ArePlain 0 followers → EachUnbegun rerun.field (players_of followers) → length (players_of followers) ≡ length followers → EachAtStart rerun followers
at_start rerun followers recording plain unbegun many t none there =
    let f = slice_index_or followers t none in
    let at = plain_at 0 followers t none plain there in
    let is = player_at followers t none there in
    let player = subst (λ (p : Player). IsPlayerOf rerun.field p) is (unbegun t none.player (omega (arith, there, many))).0 in
    let number : (view_of f.player).number ≡ t = ap (λ (p : Player). (view_of p).number) (sym is) ∙ (unbegun t none.player (omega (arith, there, many))).1.0 in
    let empty : made_by f ≡ [] = ap (λ (p : Player). (view_of p).player.journal) (sym is) ∙ ap (λ (s : PlayerState). s.journal) (unbegun t none.player (omega (arith, there, many))).1.1 in record {
      own = record {
        recording = recording;
        own = player;
        number = number ∙ omega (arith, at.0);
        begins = (recorded_of rerun f.thread, ap (λ (j : List Event). j ++ recorded_of rerun f.thread) (sym empty));
        made = at.1 ∙ ap (λ (j : List Event). length j) (sym empty);
        accesses = at.2 ∙ ap access_count (sym empty);
      };
      thread_is = omega (arith, at.0);
      none_made = empty;
    }
