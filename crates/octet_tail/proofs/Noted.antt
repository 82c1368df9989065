-- A piece is noted.
use Rattle.std.proofs.Common.{◌≡◌, ◌≢◌, ◌∙◌, inl, inr, ℕ, ◌+◌, ◌<◌, ◌≤◌, ◌==◌, Bool, true, false, cond, zero, suc, List, [], ◌∷◌, ◌++◌, length, drop, get_or, sum_by, refl, sym, ap, subst, arith, append_assoc, append-nil}
use Rattle.std.proofs.lemmas.Bool.{eq-eqb}
use Rattle.std.proofs.lemmas.Bool.Decides.{eqb_tells}
use Rattle.std.proofs.lemmas.List.Sums.{sum_by-cons, sum_by-append}
use Rattle.std.proofs.Math.Seq.{drop-cons}
use Rattle.octet_model.specs.declared.log.Gapped.{Gapped}
use Rattle.octet_marks.specs.declared.piece.Block.{Block}
use Rattle.octet_marks.specs.declared.piece.End.{End}
use Rattle.octet_marks.specs.declared.piece.Head.{Head}
use Rattle.octet_marks.specs.declared.piece.Piece.{Piece}
use Rattle.octet_marks.specs.declared.piece.Piece.TheVariants as pieces
use Rattle.octet_marks.specs.Counts.{events_at, accesses_at}
use Rattle.octet_marks.specs.Standing.{accesses_in, events_in}
use Rattle.octet_tail.specs.declared.finder.FrontFinder.{FrontFinder}
use Rattle.octet_tail.specs.declared.placed.Placed.{Placed}
use Rattle.octet_tail.specs.declared.places.Come.{Come}
use Rattle.octet_tail.specs.Fronts.{asked_of, IsFinder}
use Rattle.octet_tail.specs.Places.{come_at, passed, AreUncounted, ComesTo}
use Rattle.octet_tail.specs.declared.finders.Finders.{Finders}
use Rattle.octet_tail.specs.Between.{placed_at, placed_from, placed_of, placed_behind, come_in, come_to, marks_in, all_but, AreMany, HaveNoted}
use Rattle.octet_tail.specs.Noting.{come_with, IsUncounted, TakesOn}

-- ---- marks are taken, one after another
pub takes_more : (one other : List Placed) (f g h : Finders) → TakesOn one f g → TakesOn other g h → TakesOn (one ++ other) f h
takes_more one other f g h first second = record {
  first = λ marks is. subst (λ (l : List Placed). IsFinder l h.before) (append_assoc marks one other) (second.first (marks ++ one) (first.first marks is));
  second = λ marks is. subst (λ (l : List Placed). IsFinder l h.behind) (append_assoc marks one other) (second.second (marks ++ one) (first.second marks is));
  first_asked = second.first_asked ∙ first.first_asked;
  second_asked = second.second_asked ∙ first.second_asked;
}

-- ---- how far a thread has come with marks
abbrev gaps_of : List Gapped → ℕ
gaps_of marks = sum_by (λ (m : Gapped). m.gap) marks

come_events : (marks : List Gapped) (thread : ℕ) (come : Come) → (come_with marks thread come).events ≡ come.events + gaps_of marks + length marks
come_events [] thread come = omega arith
come_events (gapped ∷ marks) thread come =
    let gaps = sum_by-cons (λ (m : Gapped). m.gap) gapped marks in
    let rest = come_events marks thread (come_to (placed_at thread come gapped)) in omega (arith, gaps, rest)

come_accesses : (marks : List Gapped) (thread : ℕ) (come : Come) → (come_with marks thread come).accesses ≡ come.accesses + gaps_of marks
come_accesses [] thread come = omega arith
come_accesses (gapped ∷ marks) thread come =
    let gaps = sum_by-cons (λ (m : Gapped). m.gap) gapped marks in
    let rest = come_accesses marks thread (come_to (placed_at thread come gapped)) in omega (arith, gaps, rest)

same_come : (a b c d : ℕ) → a ≡ b → c ≡ d → ◌≡◌ {A = Come} (record { events = a; accesses = c }) (record { events = b; accesses = d })
same_come a b c d events accesses = ap (λ (n : ℕ). come_of n c) events ∙ ap (λ (n : ℕ). come_of b n) accesses
  where
    come_of : ℕ → ℕ → Come
    come_of n m = record { events = n; accesses = m }

-- ---- a piece behind others
sum_snoc : (f : Piece → ℕ) (all : List Piece) (piece : Piece) → sum_by f (all ++ piece ∷ []) ≡ sum_by f all + f piece
sum_snoc f all piece = let joined = sum_by-append f all (piece ∷ []) in let last = sum_by-cons f piece [] in omega (arith, joined, last)

placed_snoc : (all before : List Piece) (piece : Piece) → placed_behind (all ++ piece ∷ []) before ≡ placed_behind all before ++ placed_of (before ++ all) piece
placed_snoc [] before piece = append-nil (placed_of before piece) ∙ ap (λ (l : List Piece). placed_of l piece) (sym (append-nil before))
placed_snoc (first ∷ all) before piece =
    ap (λ (l : List Placed). placed_of before first ++ l)
    (placed_snoc all (before ++ first ∷ []) piece
    ∙ ap (λ (l : List Piece). placed_behind all (before ++ first ∷ []) ++ placed_of l piece) (append_assoc before (first ∷ []) all))
    ∙ sym (append_assoc (placed_of before first) (placed_behind all (before ++ first ∷ [])) (placed_of (before ++ first ∷ all) piece))

own_come : (all : List Piece) (block : Block) → (passed block.gap (come_with block.marks block.thread (come_in all block.thread))) ≡ come_in (all ++ pieces.Block block ∷ []) block.thread
own_come all block =
    let t = block.thread in
    let is = eq-eqb t t refl in
    let come = come_with block.marks t (come_in all t) in
    let events = come_events block.marks t (come_in all t) in
    let accesses = come_accesses block.marks t (come_in all t) in
    let all_events = sum_snoc (events_at t) all (pieces.Block block) in
    let all_accesses = sum_snoc (accesses_at t) all (pieces.Block block) in
    let block_events : events_at t (pieces.Block block) ≡ gaps_of block.marks + block.gap + length block.marks = ap (λ (b : Bool). cond b (events_in block) 0) is in
    let block_accesses : accesses_at t (pieces.Block block) ≡ gaps_of block.marks + block.gap = ap (λ (b : Bool). cond b (accesses_in block) 0) is in
    same_come (come.events + block.gap) (sum_by (events_at t) (all ++ pieces.Block block ∷ [])) (come.accesses + block.gap) (sum_by (accesses_at t) (all ++ pieces.Block block ∷ []))
    (omega (arith, events, all_events, block_events)) (omega (arith, accesses, all_accesses, block_accesses))

other_come : (all : List Piece) (block : Block) (t : ℕ) → (block.thread == t) ≡ false → come_in all t ≡ come_in (all ++ pieces.Block block ∷ []) t
other_come all block t is =
    let all_events = sum_snoc (events_at t) all (pieces.Block block) in
    let all_accesses = sum_snoc (accesses_at t) all (pieces.Block block) in
    let block_events = ap (λ (b : Bool). cond b (events_in block) 0) is in
    let block_accesses = ap (λ (b : Bool). cond b (accesses_in block) 0) is in
    same_come (sum_by (events_at t) all) (sum_by (events_at t) (all ++ pieces.Block block ∷ [])) (sum_by (accesses_at t) all) (sum_by (accesses_at t) (all ++ pieces.Block block ∷ []))
    (omega (arith, all_events, block_events)) (omega (arith, all_accesses, block_accesses))

-- a block is noted: its marks, and then the accesses behind them
pub noted_block : (made : List ℕ) (last : ℕ) (all : List Piece) (block : Block) (f g h : Finders) → TakesOn (placed_from block.marks block.thread (come_at f.places block.thread)) f g
    → ComesTo block.thread (come_with block.marks block.thread (come_at f.places block.thread)) f.places g.places
    → h.before ≡ g.before → h.behind ≡ g.behind → ComesTo block.thread (passed block.gap (come_at g.places block.thread)) g.places h.places
    → HaveNoted made last all f → HaveNoted made last (all ++ pieces.Block block ∷ []) h
noted_block made last all block f g h takes marked before behind gone had = record {
  before_is = subst (λ (k : FrontFinder). IsFinder (marks_in (all ++ pieces.Block block ∷ [])) k) (sym before) (subst (λ (l : List Placed). IsFinder l g.before) marks (takes.first (marks_in all) had.before_is));
  before_asked = ap (λ (k : FrontFinder). asked_of k) before ∙ (takes.first_asked ∙ had.before_asked);
  behind_is = subst (λ (k : FrontFinder). IsFinder (marks_in (all ++ pieces.Block block ∷ [])) k) (sym behind) (subst (λ (l : List Placed). IsFinder l g.behind) marks (takes.second (marks_in all) had.behind_is));
  behind_asked = ap (λ (k : FrontFinder). asked_of k) behind ∙ (takes.second_asked ∙ had.behind_asked);
  come = λ thread. elim (eqb_tells block.thread thread) [
    | inl e ↦ subst (λ (t : ℕ). come_at h.places t ≡ come_in (all ++ pieces.Block block ∷ []) t) e.1 own
    | inr e ↦ gone.others thread (λ same. e.1 (sym same)) ∙ (marked.others thread (λ same. e.1 (sym same)) ∙ (had.come thread ∙ other_come all block thread e.0))
  ];
}
  where
    t : ℕ
    t = block.thread

    marks : marks_in all ++ placed_from block.marks t (come_at f.places t) ≡ marks_in (all ++ pieces.Block block ∷ [])
    marks = ap (λ (c : Come). marks_in all ++ placed_from block.marks t c) (had.come t) ∙ sym (placed_snoc all [] (pieces.Block block))

    own : come_at h.places t ≡ come_in (all ++ pieces.Block block ∷ []) t
    own = gone.own ∙ (ap (λ (c : Come). passed block.gap c) (marked.own ∙ ap (λ (c : Come). come_with block.marks t c) (had.come t)) ∙ own_come all block)

-- a piece is noted that tells nothing of a thread
noted_other : (made : List ℕ) (last : ℕ) (all : List Piece) (piece : Piece) (f : Finders) → ((thread : ℕ) → (events_at thread piece ≡ 0) × (accesses_at thread piece ≡ 0)) → placed_of all piece ≡ []
    → HaveNoted made last all f → HaveNoted made last (all ++ piece ∷ []) f
noted_other made last all piece f none no_marks had = record {
  before_is = subst (λ (l : List Placed). IsFinder l f.before) marks had.before_is;
  before_asked = had.before_asked;
  behind_is = subst (λ (l : List Placed). IsFinder l f.behind) marks had.behind_is;
  behind_asked = had.behind_asked;
  come = λ thread.
      let events = sum_snoc (events_at thread) all piece in
      let accesses = sum_snoc (accesses_at thread) all piece in
      had.come thread ∙ same_come (sum_by (events_at thread) all) (sum_by (events_at thread) (all ++ piece ∷ [])) (sum_by (accesses_at thread) all) (sum_by (accesses_at thread) (all ++ piece ∷ []))
      (omega (arith, events, (none thread).0)) (omega (arith, accesses, (none thread).1));
}
  where
    marks : marks_in all ≡ marks_in (all ++ piece ∷ [])
    marks = sym (append-nil (marks_in all)) ∙ (ap (λ (l : List Placed). marks_in all ++ l) (sym no_marks) ∙ sym (placed_snoc all [] piece))

-- ---- too many events
but_fewer : (made : List ℕ) (last thread : ℕ) → get_or (all_but last made) thread 0 ≤ get_or made thread 0
but_fewer [] last thread = omega arith
but_fewer (many ∷ made) last zero = omega arith
but_fewer (many ∷ made) last (suc thread) = but_fewer made last thread

few_accesses : (t : ℕ) (piece : Piece) → accesses_at t piece ≤ events_at t piece
few_accesses t (pieces.Head head) = omega arith
few_accesses t (pieces.Block block) = go (block.thread == t)
  where
    go : (b : Bool) → cond b (accesses_in block) 0 ≤ cond b (events_in block) 0
    go true = omega arith
    go false = omega arith
few_accesses t (pieces.End end) = omega arith

fewer_accesses : (t : ℕ) (all : List Piece) → sum_by (accesses_at t) all ≤ sum_by (events_at t) all
fewer_accesses t [] = omega arith
fewer_accesses t (piece ∷ all) =
    let events = sum_by-cons (events_at t) piece all in
    let accesses = sum_by-cons (accesses_at t) piece all in
    let one = few_accesses t piece in
    let rest = fewer_accesses t all in omega (arith, events, accesses, one, rest)

-- a thread that comes to here within the block has too many events, with what is asked for
pub many_in : (made : List ℕ) (last : ℕ) (all : List Piece) (block : Block) (f : Finders) (come : Come) → HaveNoted made last all f
    → come.events ≤ sum_by (events_at block.thread) (all ++ pieces.Block block ∷ []) → come.accesses ≤ come.events
    → IsUncounted f block.thread come → AreMany made all (pieces.Block block)
many_in made last all block f come had within fewer uncounted =
    let first = ap (λ (l : List ℕ). get_or l block.thread 0) had.before_asked in
    let second = ap (λ (l : List ℕ). get_or l block.thread 0) had.behind_asked in
    let but = but_fewer made last block.thread in
    elim uncounted [ inl a ↦ omega (arith, a, within, fewer) | inr (inl e) ↦ omega (arith, e, within, first, but) | inr (inr e) ↦ omega (arith, e, within, second) ]

-- with the marks of a block
pub within_marks : (all : List Piece) (block : Block) → (come_with block.marks block.thread (come_in all block.thread)).events ≤ sum_by (events_at block.thread) (all ++ pieces.Block block ∷ [])
within_marks all block = let own = ap (λ (c : Come). c.events) (own_come all block) in omega (arith, own)

-- and with its accesses
pub within_gap : (all : List Piece) (block : Block) → (come_with block.marks block.thread (come_in all block.thread)).events + block.gap ≤ sum_by (events_at block.thread) (all ++ pieces.Block block ∷ [])
within_gap all block = let own = ap (λ (c : Come). c.events) (own_come all block) in omega (arith, own)

pub marked_fewer : (all : List Piece) (block : Block) → (come_with block.marks block.thread (come_in all block.thread)).accesses ≤ (come_with block.marks block.thread (come_in all block.thread)).events
marked_fewer all block =
    let t = block.thread in
    let events = come_events block.marks t (come_in all t) in
    let accesses = come_accesses block.marks t (come_in all t) in
    let rest = fewer_accesses t all in omega (arith, events, accesses, rest)

-- ---- the marks of a block, one after another
-- so many marks are taken, and the others are left
pub record IsPlaced (thread : ℕ) (marks : List Gapped) (f g : Finders) (left : List Gapped) : Type 0 where
  pub taken : List Placed
  pub takes : TakesOn taken f g
  pub places : taken ++ placed_from left thread (come_at g.places thread) ≡ placed_from marks thread (come_at f.places thread)
  pub comes : come_with left thread (come_at g.places thread) ≡ come_with marks thread (come_at f.places thread)
  pub others : (other : ℕ) → other ≢ thread → come_at g.places other ≡ come_at f.places other

pub one_placed : (thread : ℕ) (marks : List Gapped) (f g h : Finders) (next : Gapped) (left : List Gapped) → IsPlaced thread marks f g (next ∷ left)
    → TakesOn (placed_at thread (come_at g.places thread) next ∷ []) g h → ComesTo thread (come_with (next ∷ []) thread (come_at g.places thread)) g.places h.places
    → IsPlaced thread marks f h left
one_placed thread marks f g h next left had takes comes =
    let p = placed_at thread (come_at g.places thread) next in record {
      taken = had.taken ++ p ∷ [];
      takes = takes_more had.taken (p ∷ []) f g h had.takes takes;
      places = append_assoc had.taken (p ∷ []) (placed_from left thread (come_at h.places thread)) ∙ (ap (λ (c : Come). had.taken ++ p ∷ placed_from left thread c) comes.own ∙ had.places);
      comes = ap (λ (c : Come). come_with left thread c) comes.own ∙ had.comes;
      others = λ other differs. comes.others other differs ∙ had.others other differs;
    }

come_further : (left : List Gapped) (thread : ℕ) (come : Come) → (come.events ≤ (come_with left thread come).events) × (come.accesses ≤ (come_with left thread come).accesses)
come_further left thread come =
    let events = come_events left thread come in let accesses = come_accesses left thread come in (omega (arith, events), omega (arith, accesses))

-- where one of them is too many, all are
pub too_many : (thread : ℕ) (marks : List Gapped) (f g : Finders) (next : Gapped) (left : List Gapped) → IsPlaced thread marks f g (next ∷ left)
    → IsUncounted g thread (come_with (next ∷ []) thread (come_at g.places thread)) → IsUncounted f thread (come_with marks thread (come_at f.places thread))
too_many thread marks f g next left had uncounted =
    let more = come_further left thread (come_with (next ∷ []) thread (come_at g.places thread)) in
    let events = ap (λ (c : Come). c.events) had.comes in
    let accesses = ap (λ (c : Come). c.accesses) had.comes in
    let first = ap (λ (l : List ℕ). get_or l thread 0) had.takes.first_asked in
    let second = ap (λ (l : List ℕ). get_or l thread 0) had.takes.second_asked in
    elim uncounted [
      | inl a ↦ inl (omega (arith, a, more.1, accesses))
      | inr (inl e) ↦ inr (inl (omega (arith, e, more.0, events, first)))
      | inr (inr e) ↦ inr (inr (omega (arith, e, more.0, events, second)))
    ]

-- the marks from one on
pub left_from : (marks : List Gapped) (k : ℕ) (d next : Gapped) → k < length marks → next ≡ get_or marks k d → drop k marks ≡ next ∷ drop (k + 1) marks
left_from marks k d next lt is =
    let same : suc k ≡ k + 1 = omega arith in
    drop-cons marks k d lt ∙ (ap (λ (g : Gapped). g ∷ drop (suc k) marks) (sym is) ∙ ap (λ (n : ℕ). next ∷ drop n marks) same)

-- where the accesses behind its marks are too many
pub gap_many : (made : List ℕ) (last : ℕ) (all : List Piece) (block : Block) (f g : Finders) → HaveNoted made last all f
    → ComesTo block.thread (come_with block.marks block.thread (come_at f.places block.thread)) f.places g.places
    → AreUncounted (passed block.gap (come_at g.places block.thread)).events (passed block.gap (come_at g.places block.thread)).accesses → AreMany made all (pieces.Block block)
gap_many made last all block f g had comes uncounted =
    let t = block.thread in
    let there = comes.own ∙ ap (λ (c : Come). come_with block.marks t c) (had.come t) in
    let events = ap (λ (c : Come). c.events) there in
    let accesses = ap (λ (c : Come). c.accesses) there in
    let within = within_gap all block in
    let fewer = marked_fewer all block in
    many_in made last all block f (passed block.gap (come_with block.marks t (come_in all t))) had within (omega (arith, fewer))
    (elim uncounted [ inl e ↦ inr (inl (omega (arith, e, events))) | inr a ↦ inl (omega (arith, a, accesses)) ])

-- where its marks are
pub marks_many : (made : List ℕ) (last : ℕ) (all : List Piece) (block : Block) (f : Finders) → HaveNoted made last all f
    → IsUncounted f block.thread (come_with block.marks block.thread (come_at f.places block.thread)) → AreMany made all (pieces.Block block)
marks_many made last all block f had uncounted =
    let t = block.thread in
    many_in made last all block f (come_with block.marks t (come_in all t)) had (within_marks all block) (marked_fewer all block)
    (subst (λ (c : Come). IsUncounted f t (come_with block.marks t c)) (had.come t) uncounted)

-- a head or an end is noted
pub noted_head : (made : List ℕ) (last : ℕ) (all : List Piece) (piece : Piece) (head : Head) (f : Finders) → piece ≡ pieces.Head head → HaveNoted made last all f → HaveNoted made last (all ++ piece ∷ []) f
noted_head made last all piece head f is had =
    subst (λ (p : Piece). HaveNoted made last (all ++ p ∷ []) f) (sym is) (noted_other made last all (pieces.Head head) f (λ thread. (refl, refl)) refl had)

pub noted_end : (made : List ℕ) (last : ℕ) (all : List Piece) (piece : Piece) (end : End) (f : Finders) → piece ≡ pieces.End end → HaveNoted made last all f → HaveNoted made last (all ++ piece ∷ []) f
noted_end made last all piece end f is had =
    subst (λ (p : Piece). HaveNoted made last (all ++ p ∷ []) f) (sym is) (noted_other made last all (pieces.End end) f (λ thread. (refl, refl)) refl had)
