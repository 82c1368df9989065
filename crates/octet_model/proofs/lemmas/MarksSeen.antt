-- In one history each mark names what was made before it; so no new event has an edge to an old one.
use Rattle.std.proofs.Common.{◌≡◌, ℕ, suc, ◌<◌, ◌≤◌, inl, inr, List, [], ◌∷◌, ◌++◌, length, Some, IsTrue, get_or, slice_get, refl, sym, ap, ◌∙◌, subst, arith}
use Rattle.std.proofs.lemmas.Option.{slice_get_within, slice_get-get_or}
use Rattle.octet_model.specs.declared.event.Mark.TheVariants.{Join, Draw, Fence}
use Rattle.octet_model.specs.declared.event.Event.{Event}
use Rattle.octet_model.specs.declared.event.Event.TheVariants.{Read, Marked}
use Rattle.octet_model.specs.declared.event.Place.{Place}
use Rattle.octet_model.specs.Machine.{Journals, journal_of, PlainState, no_events, Operation, MakeMark, is_enabled, event_made, draws_after, appended, after}
use Rattle.octet_model.specs.HappensBefore.{event_at, Edge, ProgramOrder, Joined, Drawn, Fenced, IsEvent, IsPath}
use Rattle.octet_model.specs.Plays.{operation_of, by_journals, lowest_play, IsOneHistory}
use Rattle.octet_model.specs.Past.{Reaches, InPast, DrawsDiffer}
use Rattle.octet_model.proofs.lemmas.Steps.{count, stays_appended, new_event, grows, draws_grow, drawn_next, joined_upto, fenced_upto, by_front}
use Rattle.octet_model.proofs.lemmas.Fronts.{no_journal}
use Rattle.octet_model.proofs.lemmas.Growth.{new, old_or_new}

-- each mark names what was made before it
pub record MarksSeen (journals : Journals) (draws : ℕ) : Type 0 where
  pub joined : (b : Place) (from upto : ℕ) → event_at journals b ≡ Some (Marked (Join from upto)) → upto ≤ count journals from
  pub drawn : (a : Place) (number : ℕ) → event_at journals a ≡ Some (Marked (Draw number)) → number ≤ draws
  pub fenced : (b : Place) (upto : ℕ) → event_at journals b ≡ Some (Marked (Fence upto)) → upto ≤ draws
  pub differ : DrawsDiffer journals

draws_one : (o : Operation) (heap : List ℕ) (c n : ℕ) → event_made o heap ≡ Marked (Draw c) → draws_after o n ≡ suc n
draws_one (MakeMark (Draw number)) heap c n is = refl
draws_one other heap c n is = absurd cc

module _ (s : PlainState) (t : ℕ) (o : Operation) (lt : t < length s.journals) (enabled : IsTrue (is_enabled s o)) (seen : MarksSeen s.journals s.draws) where
  abbrev next_event : Event
  next_event = event_made o s.heap

  abbrev more : Journals
  more = appended s.journals t next_event

  is_made : (x : Event) → event_at more (new s.journals t next_event) ≡ Some x → next_event ≡ x
  is_made x is = let there = new_event s.journals t next_event lt in cc

  draw_made : (c : ℕ) → next_event ≡ Marked (Draw c) → (c ≡ suc s.draws) × (draws_after o s.draws ≡ suc s.draws)
  draw_made c is = (drawn_next s o s.heap c enabled is, draws_one o s.heap c s.draws is)

  still_joined : (b : Place) (from upto : ℕ) → event_at more b ≡ Some (Marked (Join from upto)) → upto ≤ count more from
  still_joined b from upto is =
      elim (old_or_new s.journals t next_event b (Marked (Join from upto)) lt is) [
        | inl old ↦ omega (arith, seen.joined b from upto old, grows s.journals t from next_event)
        | inr b_new ↦ omega (arith, joined_upto s o s.heap from upto enabled (is_made (Marked (Join from upto)) (ap (event_at more) (sym b_new) ∙ is)), grows s.journals t from next_event)
      ]

  still_drawn : (a : Place) (number : ℕ) → event_at more a ≡ Some (Marked (Draw number)) → number ≤ draws_after o s.draws
  still_drawn a number is =
      elim (old_or_new s.journals t next_event a (Marked (Draw number)) lt is) [
        | inl old ↦ omega (arith, seen.drawn a number old, draws_grow o s.draws)
        | inr a_new ↦ let d = draw_made number (is_made (Marked (Draw number)) (ap (event_at more) (sym a_new) ∙ is)) in omega (arith, d.0, d.1)
      ]

  still_fenced : (b : Place) (upto : ℕ) → event_at more b ≡ Some (Marked (Fence upto)) → upto ≤ draws_after o s.draws
  still_fenced b upto is =
      elim (old_or_new s.journals t next_event b (Marked (Fence upto)) lt is) [
        | inl old ↦ omega (arith, seen.fenced b upto old, draws_grow o s.draws)
        | inr b_new ↦ omega (arith, fenced_upto s o s.heap upto enabled (is_made (Marked (Fence upto)) (ap (event_at more) (sym b_new) ∙ is)), draws_grow o s.draws)
      ]

  -- a draw that is new has a higher number than one that is old
  not_one_number : (a b : Place) (number : ℕ) → event_at s.journals a ≡ Some (Marked (Draw number)) → b ≡ new s.journals t next_event → event_at more b ≡ Some (Marked (Draw number)) → ⊥
  not_one_number a b number old b_new is =
      let d = draw_made number (is_made (Marked (Draw number)) (ap (event_at more) (sym b_new) ∙ is)) in
      omega (arith, d.0, seen.drawn a number old)

  still_differ : DrawsDiffer more
  still_differ a b number is_a is_b =
      elim (old_or_new s.journals t next_event a (Marked (Draw number)) lt is_a) [
        | inl a_old ↦ elim (old_or_new s.journals t next_event b (Marked (Draw number)) lt is_b) [
          | inl b_old ↦ seen.differ a b number a_old b_old
          | inr b_new ↦ absurd (not_one_number a b number a_old b_new is_b)
        ]
        | inr a_new ↦ elim (old_or_new s.journals t next_event b (Marked (Draw number)) lt is_b) [
          | inl b_old ↦ absurd (not_one_number b a number b_old a_new is_a)
          | inr b_new ↦ a_new ∙ sym b_new
        ]
      ]

  -- an operation that may be made keeps it
  pub marks_seen_longer : MarksSeen more (draws_after o s.draws)
  marks_seen_longer = record { joined = still_joined; drawn = still_drawn; fenced = still_fenced; differ = still_differ }

  -- no new event has an edge to an old one
  no_edge_back : (b : Place) → Edge more (new s.journals t next_event) b → IsEvent s.journals b → ⊥
  no_edge_back b (ProgramOrder same next) is =
      let within : b.event < count s.journals b.thread = slice_get_within (journal_of s.journals b.thread) b.event is.0 is.1 in
      omega (arith, within, next, ap (λ (u : ℕ). count s.journals u) same)
  no_edge_back b (Joined upto is_b below) is =
      let old : event_at s.journals b ≡ Some (Marked (Join t upto)) = let there = stays_appended s.journals t b.thread b.event next_event is.0 is.1 in let fact = is.1 in cc in
      omega (arith, seen.joined b t upto old, below)
  no_edge_back b (Drawn first then is_a is_b below) is =
      let old : event_at s.journals b ≡ Some (Marked (Draw then)) = let there = stays_appended s.journals t b.thread b.event next_event is.0 is.1 in let fact = is.1 in cc in
      let d = draw_made first (is_made (Marked (Draw first)) is_a) in
      omega (arith, seen.drawn b then old, d.0, below)
  no_edge_back b (Fenced number upto is_a is_b below) is =
      let old : event_at s.journals b ≡ Some (Marked (Fence upto)) = let there = stays_appended s.journals t b.thread b.event next_event is.0 is.1 in let fact = is.1 in cc in
      let d = draw_made number (is_made (Marked (Draw number)) is_a) in
      omega (arith, seen.fenced b upto old, d.0, below)

  -- what an old place holds in longer journals it held before
  held_before : (a : Place) (x : Event) → IsEvent s.journals a → event_at more a ≡ Some x → event_at s.journals a ≡ Some x
  held_before a x is there = let stays = stays_appended s.journals t a.thread a.event next_event is.0 is.1 in let fact = is.1 in cc

  edge_before : (a b : Place) → Edge more a b → IsEvent s.journals a → IsEvent s.journals b → Edge s.journals a b
  edge_before a b (ProgramOrder same next) old_a old_b = ProgramOrder same next
  edge_before a b (Joined upto is_b below) old_a old_b = Joined upto (held_before b _ old_b is_b) below
  edge_before a b (Drawn first then is_a is_b below) old_a old_b = Drawn first then (held_before a _ old_a is_a) (held_before b _ old_b is_b) below
  edge_before a b (Fenced number upto is_a is_b below) old_a old_b = Fenced number upto (held_before a _ old_a is_a) (held_before b _ old_b is_b) below

  -- what has an edge to an old event is old
  old_before : (a b : Place) → IsEvent more a → Edge more a b → IsEvent s.journals b → IsEvent s.journals a
  old_before a b is edge old_b =
      elim (old_or_new s.journals t next_event a is.0 lt is.1) [
        | inl old ↦ (is.0, old)
        | inr a_new ↦ absurd (no_edge_back b (subst (λ (p : Place). Edge more p b) a_new edge) old_b)
      ]

  -- so a path to an old event is an old path
  path_before : (between : List Place) (a b : Place) → IsPath more (a ∷ (between ++ b ∷ [])) → IsEvent s.journals b → IsEvent s.journals a × IsPath s.journals (a ∷ (between ++ b ∷ []))
  path_before [] a b path old_b =
      let old_a = old_before a b path.0 path.1 old_b in
      (old_a, (old_a, edge_before a b path.1 old_a old_b, old_b))
  path_before (c ∷ between) a b path old_b =
      let rest = path_before between c b path.2 old_b in
      let old_a = old_before a c path.0 path.1 rest.0 in
      (old_a, (old_a, edge_before a c path.1 old_a rest.0, rest.1))

  -- and a past gains nothing
  pub past_gains_nothing : (u k : ℕ) (a : Place) → k ≤ count s.journals u → InPast more u k a → InPast s.journals u k a
  past_gains_nothing u k a le h = go h.reaches
    where
      near : Place
      near = record { thread = u; event = h.near }

      old_near : IsEvent s.journals near
      old_near = (get_or (journal_of s.journals u) h.near (Read 0 0), slice_get-get_or (journal_of s.journals u) h.near (Read 0 0) (omega (arith, h.below)))

      go : Reaches more a near → InPast s.journals u k a
      go (inl same) = record { is_event = subst (λ (p : Place). IsEvent s.journals p) (sym same) old_near; near = h.near; below = h.below; reaches = inl same }
      go (inr p) =
          let old = path_before p.between a near p.is_path old_near in
          record { is_event = old.0; near = h.near; below = h.below; reaches = inr (record { between = p.between; is_path = old.1 }) }

none_seen : {A : Type 0} (threads : List A) → MarksSeen (no_events threads) 0
none_seen threads = record {
  joined = λ b from upto is. absurd (none b (Marked (Join from upto)) is);
  drawn = λ a number is. absurd (none a (Marked (Draw number)) is);
  fenced = λ b upto is. absurd (none b (Marked (Fence upto)) is);
  differ = λ a b number is_a is_b. absurd (none a (Marked (Draw number)) is_a);
}
  where
    none : (p : Place) (x : Event) → event_at (no_events threads) p ≡ Some x → ⊥
    none p x is = let empty = ap (λ (j : List Event). slice_get j p.event) (no_journal threads p.thread) in absurd cc

-- in one history each mark names what was made before it
pub history_marks_seen : (starts : List ℕ) (js : Journals) (heap : List ℕ) (draws : ℕ) → IsOneHistory starts js heap draws → MarksSeen js draws
history_marks_seen starts js heap draws h =
    let low = lowest_play starts js in
    let seen = by_front (by_journals js) (λ (s : PlainState). MarksSeen s.journals s.draws) (λ s t o m seen. marks_seen_longer s t o m.within m.enabled seen) low (record { heap = starts; journals = no_events js; draws = 0 }) h.makes_all.is_play (none_seen js) in
    let is : MarksSeen js (after (by_journals js) (record { heap = starts; journals = no_events js; draws = 0 }) low).draws = subst (λ (n : Journals). MarksSeen n (after (by_journals js) (record { heap = starts; journals = no_events js; draws = 0 }) low).draws) h.makes_all.makes seen in
    subst (λ (n : ℕ). MarksSeen js n) h.counts is

-- so in one history a past gains nothing by a new event
pub past_gains : (starts : List ℕ) (js : Journals) (heap : List ℕ) (draws grown : ℕ) (e : Event) (t k : ℕ) (a : Place) → IsOneHistory starts js heap draws → grown < length js
    → IsTrue (is_enabled (record { heap = heap; journals = js; draws = draws }) (operation_of e)) → event_made (operation_of e) heap ≡ e
    → k ≤ count js t → InPast (appended js grown e) t k a → InPast js t k a
past_gains starts js heap draws grown e t k a h lt enabled is le lies =
    past_gains_nothing (record { heap = heap; journals = js; draws = draws }) grown (operation_of e) lt enabled (history_marks_seen starts js heap draws h) t k a le
    (subst (λ (x : Event). InPast (appended js grown x) t k a) (sym is) lies)
