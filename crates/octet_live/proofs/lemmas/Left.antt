-- What is left of each thread is added, one after another.
use Rattle.std.proofs.Common.{◌≡◌, ◌∙◌, ℕ, ◌+◌, ◌<◌, ◌≤◌, inl, inr, List, [], ◌++◌, Option, refl, sym, ap, subst, append-nil, arith}
use Rattle.std.proofs.lemmas.Bool.{cases_lt}
use Rattle.octet_base.specs.Desk.{DeskState}
use Rattle.octet_base.specs.declared.fault.DeskFault.{DeskFault}
use Rattle.octet_model.specs.declared.log.Gapped.{Gapped}
use Rattle.octet_log.specs.v2.Pieces.{Piece, ArePieces, marks_of}
use Rattle.octet_live.specs.declared.drainer.Drainer.{Drainer}
use Rattle.octet_live.specs.Written.{HasFront, Writes}
use Rattle.octet_live.specs.Drained.{threads_of, rings_of, taken_of, GoesOn, IsFresh, Drains, AddsLeft, AddsAllLeft}
use Rattle.octet_live.proofs.lemmas.Adding.{goes_both, goes_on, goes_nowhere, none_before, own_are, others_none, marks_of-append, are_both}

-- what is left of the threads below a number is added, and nothing yet of the others
pub record LeftBelow (i threads : ℕ) (own : ℕ → List Gapped) (drainer : Drainer) (before : DeskState) (drainer' : Drainer) (after : DeskState) : Type 0 where
  pub pieces : List Piece
  pub are : ArePieces threads pieces
  pub goes : GoesOn drainer.kept pieces before drainer'.kept after
  pub each : (thread : ℕ) → thread < i → HasFront (own thread) (taken_of drainer thread ++ marks_of thread pieces) drainer'.kept
  pub none : (thread : ℕ) → i ≤ thread → marks_of thread pieces ≡ []
  pub ahead : (thread : ℕ) → i ≤ thread → taken_of drainer' thread ≡ taken_of drainer thread
  pub as_many : threads_of drainer' ≡ threads_of drainer
  pub rings : rings_of drainer' ≡ rings_of drainer

pub left_of_none : (threads : ℕ) (own : ℕ → List Gapped) (drainer : Drainer) (state : DeskState) → LeftBelow 0 threads own drainer state drainer state
left_of_none threads own drainer state = record {
  pieces = [];
  are = tt;
  goes = goes_nowhere drainer.kept state;
  each = λ thread less. absurd (omega (arith, less));
  none = λ thread least. refl;
  ahead = λ thread least. refl;
  as_many = refl;
  rings = refl;
}

pub left_of_next : (i threads : ℕ) (own : ℕ → List Gapped) (drainer mid next : Drainer) (before between after : DeskState) → i < threads
    → LeftBelow i threads own drainer before mid between → AddsLeft i (own i) mid between next after → LeftBelow (i + 1) threads own drainer before next after
left_of_next i threads own drainer mid next before between after there below one =
    let ps = below.pieces in let qs = one.pieces in
    let both : (thread : ℕ) → marks_of thread (ps ++ qs) ≡ marks_of thread ps ++ marks_of thread qs = λ thread. marks_of-append thread ps qs in record {
      pieces = ps ++ qs;
      are = are_both threads ps qs below.are (own_are threads i qs there one.are);
      goes = goes_on ps qs drainer.kept mid.kept next.kept before between after below.goes one.goes;
      each = λ thread less. elim (cases_lt thread i) [
        | inl before_it ↦ (let old = below.each thread before_it in
            let same : marks_of thread (ps ++ qs) ≡ marks_of thread ps = both thread ∙ (ap (λ (l : List Gapped). marks_of thread ps ++ l) (others_none i thread qs (λ e. absurd (omega (arith, e, before_it))) one.are) ∙ append-nil (marks_of thread ps)) in record {
              rest = old.rest;
              front = old.front ∙ ap (λ (l : List Gapped). (taken_of drainer thread ++ l) ++ old.rest) (sym same);
              whole = λ e. old.whole (none_before qs mid.kept next.kept between after one.goes e);
            })
        | inr past ↦ (let here : i ≡ thread = omega (arith, less, past) in
            subst (λ (t : ℕ). HasFront (own t) (taken_of drainer t ++ marks_of t (ps ++ qs)) next.kept) here
            (record {
              rest = one.front.rest;
              front = one.front.front
                  ∙ ap (λ (l : List Gapped). l ++ one.front.rest)
                  (ap (λ (l : List Gapped). l ++ marks_of i qs) (below.ahead i (omega arith)) ∙ ap (λ (l : List Gapped). taken_of drainer i ++ l) (ap (λ (l : List Gapped). l ++ marks_of i qs) (sym (below.none i (omega arith))) ∙ sym (both i)));
              whole = one.front.whole;
            }))
      ];
      none = λ thread least. both thread ∙ (ap (λ (l : List Gapped). l ++ marks_of thread qs) (below.none thread (omega (arith, least))) ∙ others_none i thread qs (λ e. absurd (omega (arith, e, least))) one.are);
      ahead = λ thread least. one.others thread (λ e. absurd (omega (arith, e, least))) ∙ below.ahead thread (omega (arith, least));
      as_many = one.as_many ∙ below.as_many;
      rings = one.rings ∙ below.rings;
    }

-- what was taken meanwhile, and then what was left
pub all_written : (threads : ℕ) (own : ℕ → List Gapped) (drainer mid last : Drainer) (before between after : DeskState) → IsFresh threads drainer
    → Drains threads drainer before mid between → AddsAllLeft threads own mid between last after → Writes threads own before last.kept after
all_written threads own drainer mid last before between after fresh drained left =
    let ps = drained.pieces in let qs = left.pieces in
    let goes = subst (λ (kept : Option DeskFault). GoesOn kept ps before mid.kept between) fresh.kept drained.goes in record {
      pieces = ps ++ qs;
      are = are_both threads ps qs drained.are left.are;
      adds = goes_both ps qs mid.kept last.kept before between after goes left.goes;
      each = λ thread there. (let old = left.each thread there in
          let taken : taken_of mid thread ≡ marks_of thread ps = drained.taken thread there ∙ ap (λ (l : List Gapped). l ++ marks_of thread ps) (fresh.none thread) in
          subst (λ (l : List Gapped). HasFront (own thread) l last.kept) (ap (λ (l : List Gapped). l ++ marks_of thread qs) taken ∙ sym (marks_of-append thread ps qs)) old);
    }
