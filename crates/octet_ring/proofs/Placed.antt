-- One receiving end of several, as it was and as it is.
use Rattle.std.proofs.Common.{arith, ◌≡◌, sym, ◌∙◌, ap, subst, ℕ, suc, ◌+◌, ◌<◌, ◌≤◌, true, false, List, [], ◌∷◌, ◌++◌, length, Some, slice_get, length-append, get_or, slice_set}
use Rattle.std.proofs.lemmas.List.{map-set, get_or-map, get_or-set_same, get_or-set_other, set-get_or, length-map, length-set, nil_from_length, append-nil}
use Rattle.std.proofs.Math.Seq.{map-set_same}
use mathlib.Core.List.{IsPrefix}
use Rattle.rtrb.specs.declared.producer.Producer.{Producer}
use Rattle.rtrb.specs.declared.consumer.Consumer.{Consumer}
use Rattle.rtrb.specs.Ring.{received, known_items, SameProducer, SameConsumer}
use Rattle.octet_model.specs.declared.log.Gapped.{Gapped}
use Rattle.octet_ring.specs.Ends.{ring_of_producer, ring_of_consumer, ends_view}
use Rattle.octet_ring.specs.Views.{RingName, DrainView, received_of, known_of, LearnsOf, SameRings}

abbrev view_of : List RingName → List (List Gapped) → List ℕ → DrainView
view_of rings lists counts = record { rings = rings; received = lists; known = counts }

same_view : (old new : DrainView) → new.rings ≡ old.rings → new.received ≡ old.received → new.known ≡ old.known → new ≡ old
same_view old new rings lists counts =
    ap (λ r. view_of r new.received new.known) rings ∙ ap (λ l. view_of old.rings l new.known) lists ∙ ap (λ k. view_of old.rings old.received k) counts

none_known : (count : ℕ) → (0 < count → false ≡ true) → count ≡ 0
none_known count succeeds = grind arith

module _ {A P : Type 0} where
  abbrev pub count_of : Consumer Gapped A P → ℕ
  count_of end = length (known_items end)

  -- the end of one thread was the first of these and is the second, and no other end has changed
  pub record Placed (old : DrainView) (thread : ℕ) (was is : Consumer Gapped A P) (new : DrainView) : Type 0 where
    pub rings : SameRings old new
    pub lists : new.received ≡ slice_set old.received thread (received is)
    pub counts : new.known ≡ slice_set old.known thread (count_of is)
    pub had : received_of old thread ≡ received was
    pub has : received_of new thread ≡ received is
    pub knew : known_of old thread ≡ count_of was
    pub knows : known_of new thread ≡ count_of is
    pub others : LearnsOf old thread new

  same_ring : (was is : Consumer Gapped A P) → SameConsumer was is → ring_of_consumer is ≡ ring_of_consumer was
  same_ring was is same = cc

  pub placed : (ends : List (Consumer Gapped A P)) (thread : ℕ) (was is : Consumer Gapped A P) → thread < length ends → was ≡ get_or ends thread was → SameConsumer was is → Placed (ends_view ends) thread was is (ends_view (slice_set ends thread is))
  placed ends thread was is there read same = record {
    rings = (map-set_same ring_of_consumer ends thread is was (same_ring was is same ∙ ap ring_of_consumer read), ap length (map-set received ends thread is) ∙ length-set _ thread _);
    lists = map-set received ends thread is;
    counts = map-set count_of ends thread is;
    had = get_or-map received ends thread was [] there ∙ ap received (sym read);
    has = ap (λ lists. get_or lists thread []) (map-set received ends thread is) ∙ get_or-set_same _ thread _ [] (subst (λ n. thread < n) (sym (length-map ends received)) there);
    knew = get_or-map count_of ends thread was 0 there ∙ ap count_of (sym read);
    knows = ap (λ counts. get_or counts thread 0) (map-set count_of ends thread is) ∙ get_or-set_same _ thread _ 0 (subst (λ n. thread < n) (sym (length-map ends count_of)) there);
    others = (ap length (map-set count_of ends thread is) ∙ length-set _ thread _, λ other apart. ap (λ counts. get_or counts other 0) (map-set count_of ends thread is) ∙ get_or-set_other _ thread other _ 0 apart);
  }

  -- the same of a view of these ends, which has the thread
  pub placed_at : (ends : List (Consumer Gapped A P)) (old : DrainView) (thread : ℕ) (was is : Consumer Gapped A P) → ends_view ends ≡ old → thread < length old.received → was ≡ get_or ends thread was → SameConsumer was is → Placed old thread was is (ends_view (slice_set ends thread is))
  placed_at ends old thread was is shown there read same =
      subst (λ (v : DrainView). Placed v thread was is (ends_view (slice_set ends thread is))) shown
      (placed ends thread was is (subst (λ n. thread < n) (length-map ends received) (subst (λ (v : DrainView). thread < length v.received) (sym shown) there)) read same)

  pub same_lists : (old : DrainView) (thread : ℕ) (was is : Consumer Gapped A P) (new : DrainView) → Placed old thread was is new → received is ≡ received was → new.received ≡ old.received
  same_lists old thread was is new p lists = p.lists ∙ ap (slice_set old.received thread) (lists ∙ sym p.had) ∙ set-get_or old.received thread []

  -- where nothing was received and nothing learned, nothing has changed
  pub unchanged : (old : DrainView) (thread : ℕ) (was is : Consumer Gapped A P) (new : DrainView) → Placed old thread was is new → received is ≡ received was → count_of is ≡ count_of was → new ≡ old
  unchanged old thread was is new p lists counts =
      let all_counts : new.known ≡ old.known = p.counts ∙ ap (slice_set old.known thread) (counts ∙ sym p.knew) ∙ set-get_or old.known thread 0 in
      same_view old new p.rings.0 (same_lists old thread was is new p lists) all_counts

  -- after a pop that gave a mark
  pub gives : (old : DrainView) (thread : ℕ) (was is : Consumer Gapped A P) (new : DrainView) (mark : Gapped) → Placed old thread was is new → received is ≡ received was ++ mark ∷ [] → new.received ≡ slice_set old.received thread (received_of old thread ++ mark ∷ [])
  gives old thread was is new mark p grew = p.lists ∙ ap (slice_set old.received thread) (grew ∙ ap (λ marks. marks ++ mark ∷ []) (sym p.had))

  pub learns : (old : DrainView) (thread : ℕ) (was is : Consumer Gapped A P) (new : DrainView) (mark : Gapped) → Placed old thread was is new → IsPrefix (known_items was) (mark ∷ known_items is) → known_of old thread ≤ known_of new thread + 1
  learns old thread was is new mark p more =
      let long : length (known_items was) + length more.0 ≡ suc (length (known_items is)) = sym (length-append (known_items was) more.0) ∙ ap length more.1 in
      let knew = p.knew in
      let knows = p.knows in
      omega arith

  -- after a pop that gave none
  pub gives_none : (old : DrainView) (thread : ℕ) (was is : Consumer Gapped A P) (new : DrainView) → Placed old thread was is new → received is ≡ received was → known_items is ≡ [] → (0 < length (known_items was) → false ≡ true) → (new ≡ old) × (known_of old thread ≡ 0)
  gives_none old thread was is new p same empty succeeds =
      let none : count_of was ≡ 0 = none_known (count_of was) succeeds in
      (unchanged old thread was is new p same (ap length empty ∙ sym none), p.knew ∙ none)

  -- after a look at both ends
  pub leaves : (old : DrainView) (thread : ℕ) (was is : Consumer Gapped A P) (new : DrainView) (sent : List Gapped) → Placed old thread was is new → received is ++ known_items is ≡ sent → sent ≡ received_of new thread ++ known_items is
  leaves old thread was is new sent p whole = sym whole ∙ ap (λ marks. marks ++ known_items is) (sym p.has)

  pub given : (old : DrainView) (thread : ℕ) (was is : Consumer Gapped A P) (new : DrainView) (mark : Gapped) → Placed old thread was is new → received is ≡ received was ++ mark ∷ [] → received_of new thread ≡ received_of old thread ++ mark ∷ []
  given old thread was is new mark p grew = p.has ∙ grew ∙ ap (λ marks. marks ++ mark ∷ []) (sym p.had)

  -- the sender is still of these rings
  pub still_of : (old new : List RingName) (thread : ℕ) (was is : Producer Gapped A P) → slice_get old thread ≡ Some (ring_of_producer was) → new ≡ old → SameProducer was is → slice_get new thread ≡ Some (ring_of_producer is)
  still_of old new thread was is own rings same = cc

pub none_left : (sent received more : List Gapped) (count : ℕ) → sent ≡ received ++ more → length more ≡ count → count ≡ 0 → sent ≡ received
none_left sent received more count whole long none =
    whole ∙ ap (λ marks. received ++ marks) (nil_from_length more (long ∙ none)) ∙ append-nil received
