-- Pieces that are added, one list after another.
use Rattle.std.proofs.Common.{◌≡◌, ◌≢◌, ◌∙◌, ℕ, ◌<◌, inl, inr, true, cond, eqb, List, [], ◌∷◌, ◌++◌, Option, None, Some, Err, refl, sym, ap, subst, append-nil, append_assoc, arith}
use Rattle.std.proofs.lemmas.Bool.{ne_eqb}
use Rattle.octet_base.specs.Desk.{DeskState, Rose}
use Rattle.octet_base.specs.declared.fault.DeskFault.{DeskFault}
use Rattle.octet_base.specs.declared.fault.DeskFault.TheVariants.{Failed, TooLong, Absent}
use Rattle.octet_model.specs.declared.log.Gapped.{Gapped}
use Rattle.octet_log.specs.v2.Pieces.{Piece, ArePieces, marks_of}
use Rattle.octet_live.specs.Written.{AddsPieces}
use Rattle.octet_live.specs.Drained.{AreOf, GoesOn}

-- all are added, and then others
pub adds_both : (ps qs : List Piece) (before mid after : DeskState) (kept : Option DeskFault) → AddsPieces ps before None mid → AddsPieces qs mid kept after → AddsPieces (ps ++ qs) before kept after
adds_both [] qs before mid after kept (none, same) more = subst (λ (s : DeskState). AddsPieces qs s kept after) same more
adds_both (p ∷ ps) qs before mid after kept (inl (inl (never, same))) more = absurd cc
adds_both (p ∷ ps) qs before mid after kept (inl (inr (fault, never, few, adds))) more = absurd cc
adds_both (p ∷ ps) qs before mid after kept (inr (next, few, adds, rest)) more = inr (next, few, adds, adds_both ps qs next mid after kept rest more)

-- one is refused, and none after it is added
pub stays_refused : (ps qs : List Piece) (before after : DeskState) (fault : DeskFault) → AddsPieces ps before (Some fault) after → AddsPieces (ps ++ qs) before (Some fault) after
stays_refused [] qs before after fault (never, same) = absurd cc
stays_refused (p ∷ ps) qs before after fault (inl refused) = inl refused
stays_refused (p ∷ ps) qs before after fault (inr (next, few, adds, rest)) = inr (next, few, adds, stays_refused ps qs next after fault rest)

-- so they go on
pub goes_both : (ps qs : List Piece) (kept kept' : Option DeskFault) (before mid after : DeskState) → AddsPieces ps before kept mid → GoesOn kept qs mid kept' after → AddsPieces (ps ++ qs) before kept' after
goes_both ps qs None kept' before mid after adds goes = adds_both ps qs before mid after kept' adds goes
goes_both ps qs (Some fault) kept' before mid after adds (none, is, same) =
    subst (λ (l : List Piece). AddsPieces (ps ++ l) before kept' after) (sym none)
    (subst (λ (k : Option DeskFault). AddsPieces (ps ++ []) before k after) (sym is)
    (subst (λ (s : DeskState). AddsPieces (ps ++ []) before (Some fault) s) (sym same) (stays_refused ps [] before mid fault adds)))

pub goes_on : (ps qs : List Piece) (kept kept' kept'' : Option DeskFault) (before mid after : DeskState) → GoesOn kept ps before kept' mid → GoesOn kept' qs mid kept'' after → GoesOn kept (ps ++ qs) before kept'' after
goes_on ps qs None kept' kept'' before mid after goes more = goes_both ps qs kept' kept'' before mid after goes more
goes_on ps qs (Some fault) kept' kept'' before mid after (none, is, same) more =
    let last : GoesOn (Some fault) qs mid kept'' after = subst (λ (k : Option DeskFault). GoesOn k qs mid kept'' after) is more in
    (ap (λ (l : List Piece). l ++ qs) none ∙ last.0, last.1, last.2 ∙ same)

-- nothing was refused before where nothing is after
pub none_before : (ps : List Piece) (kept kept' : Option DeskFault) (before after : DeskState) → GoesOn kept ps before kept' after → kept' ≡ None → kept ≡ None
none_before ps None kept' before after goes none = refl
none_before ps (Some fault) kept' before after (empty, is, same) none = absurd (let both : Some fault ≡ None = sym is ∙ none in cc)

pub goes_nowhere : (kept : Option DeskFault) (state : DeskState) → GoesOn kept [] state kept state
goes_nowhere None state = (refl, refl)
goes_nowhere (Some fault) state = (refl, refl, refl)

-- a failure is one that the desk has counted
pub failed_rose : (ps : List Piece) (before after : DeskState) (kept : Option DeskFault) → AddsPieces ps before kept after → kept ≡ Some Failed → Rose before.write_faults after.write_faults
failed_rose [] before after kept (none, same) failed = absurd (let both : Some Failed ≡ None = sym failed ∙ none in cc)
failed_rose (p ∷ ps) before after kept (inl (inl (is, same))) failed = absurd (let both = sym failed ∙ is in cc)
failed_rose (p ∷ ps) before after kept (inl (inr (fault, is, few, adds))) failed = let same : fault ≡ Failed = (let both = sym is ∙ failed in cc) in adds.write_faults.rose (ap (λ (f : DeskFault). Err f) same)
failed_rose (p ∷ ps) before after kept (inr (next, few, adds, rest)) failed =
    subst (λ (n : ℕ). Rose n after.write_faults) (adds.write_faults.stays (λ e. cc)) (failed_rose ps next after kept rest failed)

-- no piece is refused as too long, or as not there
pub is_write_answer : (ps : List Piece) (before after : DeskState) (kept : Option DeskFault) → AddsPieces ps before kept after → (kept ≢ Some TooLong) × (kept ≢ Some Absent)
is_write_answer [] before after kept (none, same) = (λ is. (let both = sym none ∙ is in cc), λ is. (let both = sym none ∙ is in cc))
is_write_answer (p ∷ ps) before after kept (inl (inl (memory, same))) = (λ is. (let both = sym memory ∙ is in cc), λ is. (let both = sym memory ∙ is in cc))
is_write_answer (p ∷ ps) before after kept (inl (inr (fault, own, few, adds))) = (
  λ is. adds.answer.not_too_long (ap (λ (f : DeskFault). Err f) (let both = sym own ∙ is in cc)),
  λ is. adds.answer.not_absent (ap (λ (f : DeskFault). Err f) (let both = sym own ∙ is in cc)),
)
is_write_answer (p ∷ ps) before after kept (inr (next, few, adds, rest)) = is_write_answer ps next after kept rest

-- pieces of one thread
pub own_both : (thread : ℕ) (ps qs : List Piece) → AreOf thread ps → AreOf thread qs → AreOf thread (ps ++ qs)
own_both thread [] qs p q = q
own_both thread (x ∷ ps) qs p q = (p.0, own_both thread ps qs p.1 q)

pub own_are : (threads thread : ℕ) (ps : List Piece) → thread < threads → AreOf thread ps → ArePieces threads ps
own_are threads thread [] there own = tt
own_are threads thread (p ∷ ps) there own = (record { thread = subst (λ (t : ℕ). t < threads) (sym own.0.0) there; some_mark = own.0.1 }, own_are threads thread ps there own.1)

pub others_none : (thread other : ℕ) (ps : List Piece) → other ≢ thread → AreOf thread ps → marks_of other ps ≡ []
others_none thread other [] differ own = refl
others_none thread other (p ∷ ps) differ own = rw (ne_eqb other p.thread (λ e. differ (e ∙ own.0.0))) (others_none thread other ps differ own.1)

pub marks_of-append : (thread : ℕ) (ps qs : List Piece) → marks_of thread (ps ++ qs) ≡ marks_of thread ps ++ marks_of thread qs
marks_of-append thread [] qs = refl
marks_of-append thread (p ∷ ps) qs =
    ap (λ (l : List Gapped). cond (eqb thread p.thread) p.marks [] ++ l) (marks_of-append thread ps qs)
    ∙ sym (append_assoc (cond (eqb thread p.thread) p.marks []) (marks_of thread ps) (marks_of thread qs))

pub one_marks : (thread : ℕ) (marks : List Gapped) → marks_of thread (record { thread = thread; marks = marks } ∷ []) ≡ marks
one_marks thread marks = rw (same_eqb thread) (append-nil marks)
  where
    same_eqb : (n : ℕ) → eqb n n ≡ true
    same_eqb n = grind arith

pub are_both : (threads : ℕ) (ps qs : List Piece) → ArePieces threads ps → ArePieces threads qs → ArePieces threads (ps ++ qs)
are_both threads [] qs p q = q
are_both threads (x ∷ ps) qs p q = (p.0, are_both threads ps qs p.1 q)
