-- What was received is added, thread by thread.
use Rattle.std.proofs.Common.{◌≡◌, ◌∙◌, ℕ, zero, suc, ◌+◌, ◌-◌, ◌<◌, ◌≤◌, inl, inr, List, [], ◌∷◌, ◌++◌, length, length-append, take, drop, set, get_or, Option, None, Some, refl, sym, ap, subst, append-nil, append_assoc, arith}
use Rattle.std.proofs.lemmas.Bool.{cases_eq}
use Rattle.std.proofs.lemmas.List.{set-get_or, get_or-set_same, get_or-set_other, length-set, take-append-drop, length-drop, length-take-le}
use Rattle.std.proofs.Math.Seq.{drop-append_seam, take-length}
use Rattle.octet_base.specs.Desk.{DeskState}
use Rattle.octet_base.specs.declared.fault.DeskFault.{DeskFault}
use Rattle.octet_model.specs.declared.log.Gapped.{Gapped}
use Rattle.octet_log.specs.v2.Pieces.{Piece, marks_of}
use Rattle.octet_ring.specs.Views.{SenderView, DrainView, AreLeft, received_of}
use Rattle.octet_live.specs.declared.drainer.Drainer.{Drainer}
use Rattle.octet_live.specs.Written.{AddsPieces}
use Rattle.octet_live.specs.Feeds.{AreSent}
use Rattle.octet_live.specs.Drained.{threads_of, taken_of, GoesOn, DrainsOne, Drains, AddsFront, AddsLeft}
use Rattle.octet_live.proofs.lemmas.Adding.{adds_both, goes_on, goes_nowhere, own_both, own_are, others_none, marks_of-append, one_marks, are_both}

abbrev piece_of : ℕ → List Gapped → Piece
piece_of thread marks = record { thread = thread; marks = marks }

-- two changes at one place
set_twice : {A : Type 0} (l : List A) (i : ℕ) (a b : A) → set (set l i a) i b ≡ set l i b
set_twice [] i a b = refl
set_twice (x ∷ l) zero a b = refl
set_twice (x ∷ l) (suc i) a b = ap (λ (z : List _). x ∷ z) (set_twice l i a b)

-- one more mark of a thread was received
pub received_more : (thread : ℕ) (old mid new : List (List Gapped)) (marks : List Gapped) (mark : Gapped) → thread < length old → mid ≡ set old thread (get_or old thread [] ++ marks) → new ≡ set mid thread (get_or mid thread [] ++ mark ∷ [])
    → new ≡ set old thread (get_or old thread [] ++ (marks ++ mark ∷ []))
received_more thread old mid new marks mark there first more =
    let had = get_or old thread [] in
    let now : get_or mid thread [] ≡ had ++ marks = ap (λ (l : List (List Gapped)). get_or l thread []) first ∙ get_or-set_same old thread (had ++ marks) [] there in
    more ∙ (ap (λ (l : List (List Gapped)). set l thread (get_or mid thread [] ++ mark ∷ [])) first
    ∙ (set_twice old thread (had ++ marks) (get_or mid thread [] ++ mark ∷ []) ∙ ap (λ (l : List Gapped). set old thread l) (ap (λ (l : List Gapped). l ++ mark ∷ []) now ∙ append_assoc had marks (mark ∷ []))))

-- nothing was received
pub drains_none : (thread : ℕ) (kept : Option DeskFault) (drain : DrainView) (state : DeskState) → DrainsOne thread kept drain state kept drain state
drains_none thread kept drain state = record {
  pieces = [];
  own = tt;
  goes = goes_nowhere kept state;
  received = sym (set-get_or drain.received thread []) ∙ ap (λ (l : List Gapped). set drain.received thread l) (sym (append-nil (received_of drain thread)));
  rings = refl;
}

-- after other marks some more were received of the thread, and added as a piece
pub drains_more : (thread : ℕ) (marks : List Gapped) (drain mid next : DrainView) (before between after : DeskState) (first_kept mid_kept kept : Option DeskFault) → thread < length drain.received → 1 ≤ length marks → mid_kept ≡ None
    → DrainsOne thread first_kept drain before mid_kept mid between
    → next.received ≡ set mid.received thread (received_of mid thread ++ marks) → next.rings ≡ mid.rings → AddsPieces (piece_of thread marks ∷ []) between kept after
    → DrainsOne thread first_kept drain before kept next after
drains_more thread marks drain mid next before between after first_kept mid_kept kept there some unrefused first received rings adds =
    let old = received_of drain thread in
    let had = marks_of thread first.pieces in
    let now : received_of mid thread ≡ old ++ had = ap (λ (l : List (List Gapped)). get_or l thread []) first.received ∙ get_or-set_same drain.received thread (old ++ had) [] there in
    let all : marks_of thread (first.pieces ++ piece_of thread marks ∷ []) ≡ had ++ marks = marks_of-append thread first.pieces (piece_of thread marks ∷ []) ∙ ap (λ (l : List Gapped). had ++ l) (one_marks thread marks) in
    let joined : received_of mid thread ++ marks ≡ old ++ marks_of thread (first.pieces ++ piece_of thread marks ∷ []) =
    ap (λ (l : List Gapped). l ++ marks) now ∙ (append_assoc old had marks ∙ ap (λ (l : List Gapped). old ++ l) (sym all)) in record {
      pieces = first.pieces ++ piece_of thread marks ∷ [];
      own = own_both thread first.pieces (piece_of thread marks ∷ []) first.own ((refl, some), tt);
      goes = goes_on first.pieces (piece_of thread marks ∷ []) first_kept None kept before between after (subst (λ (k : Option DeskFault). GoesOn first_kept first.pieces before k between) unrefused first.goes) adds;
      received = received ∙ (ap (λ (l : List (List Gapped)). set l thread (received_of mid thread ++ marks)) first.received
          ∙ (set_twice drain.received thread (old ++ had) (received_of mid thread ++ marks) ∙ ap (λ (l : List Gapped). set drain.received thread l) joined));
      rings = rings ∙ first.rings;
    }

-- nothing was received meanwhile
pub drains_from : (thread : ℕ) (kept kept' : Option DeskFault) (drain start drain' : DrainView) (before after : DeskState) → start.received ≡ drain.received → start.rings ≡ drain.rings → DrainsOne thread kept start before kept' drain' after → DrainsOne thread kept drain before kept' drain' after
drains_from thread kept kept' drain start drain' before after received rings one = record {
  pieces = one.pieces;
  own = one.own;
  goes = one.goes;
  received = one.received ∙ ap (λ (l : List (List Gapped)). set l thread (get_or l thread [] ++ marks_of thread one.pieces)) received;
  rings = one.rings ∙ rings;
}

-- what holds of one thread, holds of all
pub one_drains : (threads thread : ℕ) (drainer drainer' : Drainer) (before after : DeskState) → threads ≡ threads_of drainer → thread < threads → DrainsOne thread drainer.kept drainer.drain before drainer'.kept drainer'.drain after
    → Drains threads drainer before drainer' after
one_drains threads thread drainer drainer' before after all there one =
    let taken = drainer.drain.received in record {
      pieces = one.pieces;
      are = own_are threads thread one.pieces there one.own;
      goes = one.goes;
      taken = λ other less. elim (cases_eq other thread) [
        | inl same ↦ subst (λ (t : ℕ). taken_of drainer' t ≡ taken_of drainer t ++ marks_of t one.pieces) (sym same)
            (ap (λ (l : List (List Gapped)). get_or l thread []) one.received ∙ get_or-set_same taken thread (taken_of drainer thread ++ marks_of thread one.pieces) [] (omega (arith, there, all)))
        | inr differ ↦ ap (λ (l : List (List Gapped)). get_or l other []) one.received
            ∙ (get_or-set_other taken thread other (taken_of drainer thread ++ marks_of thread one.pieces) [] differ
            ∙ (sym (append-nil (taken_of drainer other)) ∙ ap (λ (l : List Gapped). taken_of drainer other ++ l) (sym (others_none thread other one.pieces differ one.own))))
      ];
      as_many = ap (λ (l : List (List Gapped)). length l) one.received ∙ length-set taken thread (taken_of drainer thread ++ marks_of thread one.pieces);
      rings = one.rings;
    }

pub drain_nothing : (threads : ℕ) (drainer : Drainer) (state : DeskState) → Drains threads drainer state drainer state
drain_nothing threads drainer state = record { pieces = []; are = tt; goes = goes_nowhere drainer.kept state; taken = λ thread there. sym (append-nil (taken_of drainer thread)); as_many = refl; rings = refl }

pub drains_on : (threads : ℕ) (drainer mid next : Drainer) (before between after : DeskState) → Drains threads drainer before mid between → Drains threads mid between next after → Drains threads drainer before next after
drains_on threads drainer mid next before between after first more = record {
  pieces = first.pieces ++ more.pieces;
  are = are_both threads first.pieces more.pieces first.are more.are;
  goes = goes_on first.pieces more.pieces drainer.kept mid.kept next.kept before between after first.goes more.goes;
  taken = λ thread there. more.taken thread there
      ∙ (ap (λ (l : List Gapped). l ++ marks_of thread more.pieces) (first.taken thread there)
      ∙ (append_assoc (taken_of drainer thread) (marks_of thread first.pieces) (marks_of thread more.pieces)
      ∙ ap (λ (l : List Gapped). taken_of drainer thread ++ l) (sym (marks_of-append thread first.pieces more.pieces))));
  as_many = more.as_many ∙ first.as_many;
  rings = more.rings ∙ first.rings;
}

-- some are added as a piece, and then others
pub front_more : (thread : ℕ) (first rest marks : List Gapped) (before mid after : DeskState) (kept : Option DeskFault) → first ++ rest ≡ marks → 1 ≤ length first → AddsPieces (piece_of thread first ∷ []) before None mid → AddsFront thread rest None mid kept after
    → AddsFront thread marks None before kept after
front_more thread first rest marks before mid after kept both some adds more = record {
  pieces = piece_of thread first ∷ more.pieces;
  own = ((refl, some), more.own);
  goes = adds_both (piece_of thread first ∷ []) more.pieces before mid after kept adds more.goes;
  rest = more.rest;
  front = sym both ∙ (ap (λ (l : List Gapped). first ++ l) more.front ∙ (sym (append_assoc first (marks_of thread more.pieces) more.rest)
      ∙ ap (λ (l : List Gapped). l ++ more.rest) (ap (λ (l : List Gapped). l ++ marks_of thread more.pieces) (sym (one_marks thread first)) ∙ sym (marks_of-append thread (piece_of thread first ∷ []) more.pieces))));
  whole = more.whole;
}

-- or that is refused
pub front_refused : (thread : ℕ) (first rest marks : List Gapped) (before after : DeskState) (fault : DeskFault) → first ++ rest ≡ marks → 1 ≤ length first → AddsPieces (piece_of thread first ∷ []) before (Some fault) after
    → AddsFront thread marks None before (Some fault) after
front_refused thread first rest marks before after fault both some adds = record {
  pieces = piece_of thread first ∷ [];
  own = ((refl, some), tt);
  goes = adds;
  rest = rest;
  front = sym both ∙ ap (λ (l : List Gapped). l ++ rest) (sym (one_marks thread first));
  whole = λ never. absurd cc;
}

-- all that stands behind a place
pub all_behind : (place : ℕ) (marks : List Gapped) → take (length marks - place) (drop place marks) ≡ drop place marks
all_behind place marks = ap (λ (n : ℕ). take n (drop place marks)) (sym (length-drop place marks)) ∙ take-length (drop place marks)

-- what was sent and not received are the last of what was sent, so that many fewer were received
pub sent_so_far : (drain : DrainView) (sender : SenderView) (sent waiting : ℕ) (own : List Gapped) → AreSent sender sent own → AreLeft waiting drain sender → waiting ≤ sent
sent_so_far drain sender sent waiting own has left =
    omega (arith, ap (λ (l : List Gapped). length l) (sym has.0 ∙ left.1), length-append (received_of drain sender.thread) left.0, left.2, length-take-le sent own has.1)

-- a worker's marks are those that were received of it, and those behind them
last_are : (drain : DrainView) (sender : SenderView) (sent waiting : ℕ) (own : List Gapped) → AreSent sender sent own → AreLeft waiting drain sender
    → own ≡ received_of drain sender.thread ++ drop (sent - waiting) own
last_are drain sender sent waiting own has (more, is, many) =
    let received = received_of drain sender.thread in
    let tail : List Gapped = more ++ drop sent own in
    let whole : own ≡ received ++ tail = sym (take-append-drop sent own) ∙ (ap (λ (l : List Gapped). l ++ drop sent own) (sym has.0 ∙ is) ∙ append_assoc received more (drop sent own)) in
    let long : length received ≡ sent - waiting = omega (arith, ap (λ (l : List Gapped). length l) (sym has.0 ∙ is), length-append received more, many, length-take-le sent own has.1) in
    let back : drop (sent - waiting) own ≡ tail = ap (λ (l : List Gapped). drop (sent - waiting) l) whole ∙ (ap (λ (n : ℕ). drop n (received ++ tail)) (sym long) ∙ drop-append_seam received tail) in
    whole ∙ ap (λ (l : List Gapped). received ++ l) (sym back)

-- what waited was added, and then what stands behind it
pub left_added : (thread : ℕ) (own : List Gapped) (drainer after_all : Drainer) (mid : DrainView) (sender : SenderView) (sent waiting : ℕ) (kept' : Option DeskFault) (before between after : DeskState)
    → thread < threads_of drainer → sender.thread ≡ thread → AreSent sender sent own
    → DrainsOne thread drainer.kept drainer.drain before kept' mid between → after_all.drain.received ≡ mid.received → after_all.drain.rings ≡ mid.rings → AreLeft waiting after_all.drain sender
    → AddsFront thread (drop (sent - waiting) own) kept' between after_all.kept after
    → AddsLeft thread own drainer before after_all after
left_added thread own drainer after_all mid sender sent waiting kept' before between after there named has drained received rings left added =
    let taken = drainer.drain.received in
    let old = taken_of drainer thread in
    let had = marks_of thread drained.pieces in
    let more = marks_of thread added.pieces in
    let now : taken_of after_all thread ≡ old ++ had =
    ap (λ (l : List (List Gapped)). get_or l thread []) (received ∙ drained.received) ∙ get_or-set_same taken thread (old ++ had) [] there in
    let behind : own ≡ taken_of after_all thread ++ drop (sent - waiting) own =
    subst (λ (t : ℕ). own ≡ taken_of after_all t ++ drop (sent - waiting) own) named (last_are after_all.drain sender sent waiting own has left) in record {
      pieces = drained.pieces ++ added.pieces;
      are = own_both thread drained.pieces added.pieces drained.own added.own;
      goes = goes_on drained.pieces added.pieces drainer.kept kept' after_all.kept before between after drained.goes added.goes;
      front = record {
        rest = added.rest;
        front = behind ∙ (ap (λ (l : List Gapped). l ++ drop (sent - waiting) own) now ∙ (ap (λ (l : List Gapped). (old ++ had) ++ l) added.front
            ∙ (sym (append_assoc (old ++ had) more added.rest) ∙ ap (λ (l : List Gapped). l ++ added.rest) (append_assoc old had more ∙ ap (λ (l : List Gapped). old ++ l) (sym (marks_of-append thread drained.pieces added.pieces))))));
        whole = added.whole;
      };
      others = λ other differ. ap (λ (l : List (List Gapped)). get_or l other []) (received ∙ drained.received) ∙ get_or-set_other taken thread other (old ++ had) [] differ;
      as_many = ap (λ (l : List (List Gapped)). length l) (received ∙ drained.received) ∙ length-set taken thread (old ++ had);
      rings = rings ∙ drained.rings;
    }
