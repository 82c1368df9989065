-- The calls by which a log is written while its threads run.
use Rattle.std.proofs.Common.{◌≡◌, ◌∙◌, ℕ, zero, suc, ◌≤◌, inl, inr, true, List, [], ◌∷◌, ◌++◌, map, length, Option, None, Some, Result, Ok, Err, refl, sym, ap, subst, arith}
use Rattle.std.specs.List.{sum_by}
use Rattle.std.proofs.lemmas.Bool.{and_from, le-leb}
use Rattle.std.proofs.lemmas.List.Sums.{sum_by-cons}
use Rattle.sha2.specs.Sha256.{sha256}
use Rattle.sha2.proofs.Facts256.{length-sha256}
use Rattle.octet_base.specs.Desk.{DeskState, Adds, Begins}
use Rattle.octet_base.specs.declared.fault.DeskFault.{DeskFault}
use Rattle.octet_base.specs.declared.fault.DeskFault.TheVariants.{OutOfMemory}
use Rattle.octet_model.specs.declared.log.Log.{Log}
use Rattle.octet_model.specs.declared.log.ThreadLog.{ThreadLog}
use Rattle.octet_model.specs.declared.outcome.Outcome.{Outcome}
use Rattle.octet_model.specs.declared.script.Script.{Script}
use Rattle.octet_model.specs.Log.{are_thread_logs}
use Rattle.octet_model.proofs.lemmas.Validity.{valid_script}
use Rattle.octet_model.specs.Orders.{IsFaithful}
use Rattle.octet_model.specs.Texts.{outcome_text}
use Rattle.octet_log.specs.declared.limits.TheConstants.{MAX_MARKS}
use Rattle.octet_log.specs.v2.Pieces.{Piece, ArePieces, HaveMarks, head_bytes, piece_bytes, tail_bytes, pieced_bytes, marks_in, SpellsPieces}
use Rattle.octet_live.specs.Written.{AddsPieces, IsWritten, IsPartlyWritten}
use Rattle.octet_commands.specs.declared.inputs.Source.{Source}
use Rattle.octet_commands.specs.Delivery.{Act, Begin, Add, Finish, Say, Does, IsRefused}
use Rattle.octet_top.specs.Live.{MakesThen, MakesSome, MakesPieces, RefusesPiece, MakesUnless, opening_acts, WritesLog, IsToldLive, IsCutLive, IsWrittenLive}
use Rattle.octet_top.proofs.writing.Parts.{log_parts, parts_acts}
use Rattle.octet_commands.proofs.lemmas.Recorded.{faithful_few}

-- calls that are made one after the other
pub some_then : (acts more : List Act) (before mid after : DeskState) (result : Result (Unit {0}) DeskFault) → MakesSome acts before (Ok tt) mid → MakesSome more mid result after → MakesSome (acts ++ more) before result after
some_then [] more before mid after result (ok, is) next = rw (← is) next
some_then (act ∷ acts) more before mid after result (inl (never, same)) next = absurd cc
some_then (act ∷ acts) more before mid after result (inr (inl never)) next = absurd never.0
some_then (act ∷ acts) more before mid after result (inr (inr (between, does, makes))) next = inr (inr (between, does, some_then acts more between mid after result makes next))

-- all pieces were added, and it goes on
pieces_then : (pieces : List Piece) (Next : DeskState → Result (Unit {0}) DeskFault → DeskState → Type 0) (before mid after : DeskState) (result : Result (Unit {0}) DeskFault) → AddsPieces pieces before None mid → Next mid result after
    → MakesPieces pieces Next before result after
pieces_then [] Next before mid after result (none, same) makes = subst (λ (s : DeskState). Next s result after) same makes
pieces_then (p ∷ pieces) Next before mid after result (inl (inl (never, same))) makes = absurd cc
pieces_then (p ∷ pieces) Next before mid after result (inl (inr (fault, never, few, adds))) makes = absurd cc
pieces_then (p ∷ pieces) Next before mid after result (inr (next, few, adds, more)) makes = inr (inr (next, few, adds, pieces_then pieces Next next mid after result more makes))

-- or one of them was refused
pieces_cut : (pieces : List Piece) (Next : DeskState → Result (Unit {0}) DeskFault → DeskState → Type 0) (before after : DeskState) (fault : DeskFault) → AddsPieces pieces before (Some fault) after → MakesPieces pieces Next before (Err fault) after
pieces_cut [] Next before after fault (never, same) = absurd cc
pieces_cut (p ∷ pieces) Next before after fault (inl (inl (is, same))) = inl (ap (λ (f : DeskFault). Err f) (let f : fault ≡ OutOfMemory = cc in f), same)
pieces_cut (p ∷ pieces) Next before after fault (inl (inr (why, is, few, adds))) =
    let same : fault ≡ why = cc in inr (inl (tt, few, subst (λ (f : DeskFault). Adds (piece_bytes p) before (Err f) after) (sym same) adds))
pieces_cut (p ∷ pieces) Next before after fault (inr (next, few, adds, more)) = inr (inr (next, few, adds, pieces_cut pieces Next next after fault more))

-- the pieces are added by calls as any others
pieces_some : (pieces : List Piece) (tail : List ℕ) (rest : List Act) (before after : DeskState) (result : Result (Unit {0}) DeskFault) → MakesPieces pieces (MakesSome (Add tail ∷ rest)) before result after
    → MakesSome (map Add (map piece_bytes pieces ++ tail ∷ []) ++ rest) before result after
pieces_some [] tail rest before after result makes = makes
pieces_some (p ∷ pieces) tail rest before after result (inl memory) = inl memory
pieces_some (p ∷ pieces) tail rest before after result (inr (inl (refused, few, adds))) = inr (inl (refused, adds))
pieces_some (p ∷ pieces) tail rest before after result (inr (inr (mid, few, adds, more))) = inr (inr (mid, adds, pieces_some pieces tail rest mid after result more))

refused_some : (pieces : List Piece) (tail : List ℕ) (rest : List Act) (before after : DeskState) (fault : DeskFault) → RefusesPiece pieces before fault after
    → MakesSome (map Add (map piece_bytes pieces ++ tail ∷ []) ++ rest) before (Err fault) after
refused_some [] tail rest before after fault never = absurd never
refused_some (p ∷ pieces) tail rest before after fault (inl memory) = inl memory
refused_some (p ∷ pieces) tail rest before after fault (inr (inl (refused, few, adds))) = inr (inl (refused, adds))
refused_some (p ∷ pieces) tail rest before after fault (inr (inr (mid, few, adds, more))) = inr (inr (mid, adds, refused_some pieces tail rest mid after fault more))

-- and so is the whole log
pub log_some : (name digest : List ℕ) (pieces : List Piece) (logs : List ThreadLog) (rest : List Act) (before after : DeskState) (result : Result (Unit {0}) DeskFault) → WritesLog name digest pieces logs rest before result after
    → MakesSome (Begin name ∷ (map Add (log_parts digest pieces logs) ++ Finish ∷ rest)) before result after
log_some name digest pieces logs rest before after result (inl memory) = inl memory
log_some name digest pieces logs rest before after result (inr (inl refused)) = inr (inl refused)
log_some name digest pieces logs rest before after result (inr (inr (mid, begins, inl memory))) = inr (inr (mid, begins, inl memory))
log_some name digest pieces logs rest before after result (inr (inr (mid, begins, inr (inl refused)))) = inr (inr (mid, begins, inr (inl refused)))
log_some name digest pieces logs rest before after result (inr (inr (mid, begins, inr (inr (next, heads, makes))))) =
    inr (inr (mid, begins, inr (inr (next, heads, pieces_some pieces (tail_bytes logs) (Finish ∷ rest) next after result makes))))

pub refused_log : (name digest : List ℕ) (pieces : List Piece) (logs : List ThreadLog) (before mid after : DeskState) (fault : DeskFault) → MakesSome (opening_acts name digest logs) before (Ok tt) mid → RefusesPiece pieces mid fault after
    → MakesSome (parts_acts name (log_parts digest pieces logs)) before (Err fault) after
refused_log name digest pieces logs before mid after fault opens refused =
    some_then (opening_acts name digest logs) (map Add (map piece_bytes pieces ++ tail_bytes logs ∷ []) ++ Finish ∷ []) before mid after (Err fault) opens (refused_some pieces (tail_bytes logs) (Finish ∷ []) mid after fault refused)

-- one call
pub one_some : (act : Act) (before : DeskState) (result : Result (Unit {0}) DeskFault) (after : DeskState) → Does act before result after → MakesSome (act ∷ []) before result after
one_some act before (Ok tt) after does = inr (inr (after, does, (refl, refl)))
one_some act before (Err fault) after does = inr (inl (tt, does))

-- after the file is begun and the head is added it goes on
module _ (name head : List ℕ) (before mid next : DeskState) (begins : Begins name before (Ok tt) mid) (heads : MakesSome (Add head ∷ []) mid (Ok tt) next) where
  adds_head : Adds head mid (Ok tt) next
  adds_head = by heads
    where
      by : MakesSome (Add head ∷ []) mid (Ok tt) next → Adds head mid (Ok tt) next
      by (inl (never, same)) = absurd cc
      by (inr (inl (never, does))) = absurd never
      by (inr (inr (other, does, (ok, same)))) = subst (λ (s : DeskState). Adds head mid (Ok tt) s) (sym same) does

  after_head : (Next : DeskState → Result (Unit {0}) DeskFault → DeskState → Type 0) (after : DeskState) (result : Result (Unit {0}) DeskFault) → Next next result after → MakesThen (Begin name ∷ Add head ∷ []) Next before result after
  after_head Next after result makes = inr (inr (mid, begins, inr (inr (next, adds_head, makes))))

-- a log of so many threads without marks
abbrev empty_logs : ℕ → List ThreadLog
empty_logs zero = []
empty_logs (suc n) = record { accesses = 0; marks = [] } ∷ empty_logs n

length-empty_logs : (n : ℕ) → length (empty_logs n) ≡ n
length-empty_logs zero = refl
length-empty_logs (suc n) = ap suc (length-empty_logs n)

empties_valid : (threads first n : ℕ) → are_thread_logs threads first (empty_logs n) ≡ true
empties_valid threads first zero = refl
empties_valid threads first (suc n) = and_from _ _ refl (empties_valid threads (suc first) n)

no_accesses : (n : ℕ) → sum_by (λ log. log.accesses) (empty_logs n) ≡ 0
no_accesses zero = refl
no_accesses (suc n) = omega (arith, sum_by-cons (λ (l : ThreadLog). l.accesses) (record { accesses = 0; marks = [] }) (empty_logs n), no_accesses n)

no_marks : (n : ℕ) → marks_in (empty_logs n) ≡ 0
no_marks zero = refl
no_marks (suc n) = omega (arith, sum_by-cons (λ (l : ThreadLog). length l.marks) (record { accesses = 0; marks = [] }) (empty_logs n), no_marks n)

none_had : (first n : ℕ) → HaveMarks first [] (empty_logs n)
none_had first zero = tt
none_had first (suc n) = (refl, none_had (suc first) n)

abbrev empty_log : (script : Script) → Log
empty_log script = let n = length script.threads in let bound = valid_script script.fuel script.objects script.threads script.valid in record {
  threads = empty_logs n;
  valid = and_from _ _
      (and_from _ _
      (and_from _ _ (le-leb 1 (length (empty_logs n)) (omega (arith, length-empty_logs n, bound.some_threads))) (le-leb (length (empty_logs n)) 16 (omega (arith, length-empty_logs n, bound.most_threads))))
      (le-leb (sum_by (λ log. log.accesses) (empty_logs n)) 262144 (omega (arith, no_accesses n))))
      (empties_valid (length (empty_logs n)) 0 n);
}

-- a log of the script, in these pieces
module _ (source : Source) (name : List ℕ) where
  abbrev digest : List ℕ
  digest = sha256 source.text

  module _ (log : Log) (as_many : length log.threads ≡ length source.script.threads) (few : marks_in log.threads ≤ MAX_MARKS) (pieces : List Piece) (are : ArePieces (length log.threads) pieces) (have : HaveMarks 0 pieces log.threads) where
    spelled : SpellsPieces (pieced_bytes digest pieces log.threads) digest log.threads
    spelled = record { pieces = pieces; whole = length-sha256 source.text; are = are; have = have; few = few; parts = refl }

    -- a call is refused, or memory is
    is_cut : (before after : DeskState) (result : Result (Unit {0}) DeskFault) → IsCutLive source name log pieces before result after → IsWrittenLive source name before result after
    is_cut before after result cut = record { log = log; pieces = pieces; as_many = as_many; are = are; spelled = spelled; ends = inr cut }

    is_told : (before after : DeskState) (result : Result (Unit {0}) DeskFault) → IsToldLive source name log pieces before result after → IsWrittenLive source name before result after
    is_told before after result told = record { log = log; pieces = pieces; as_many = as_many; are = are; spelled = spelled; ends = inl told }

  abbrev none : Log
  none = empty_log source.script

  none_cut : (before after : DeskState) (fault : DeskFault) → WritesLog name digest [] (empty_logs (length source.script.threads)) [] before (Err fault) after → IsWrittenLive source name before (Err fault) after
  none_cut before after fault makes =
      is_cut none (length-empty_logs (length source.script.threads)) (omega (arith, no_marks (length source.script.threads))) [] tt (none_had 0 (length source.script.threads)) before after (Err fault) (inl (tt, makes))

  -- the file is not begun
  pub begin_refused : (before after : DeskState) (fault : DeskFault) → Begins name before (Err fault) after → IsWrittenLive source name before (Err fault) after
  begin_refused before after fault begins = none_cut before after fault (inr (inl (tt, begins)))

  module _ (threads : ℕ) (own : List ℕ) (are_all : threads ≡ length source.script.threads) (is_own : own ≡ sha256 source.text) (before mid : DeskState) (begins : Begins name before (Ok tt) mid) where
    -- the head of a log with as many threads
    same_head : (logs : List ThreadLog) → length logs ≡ length source.script.threads → head_bytes threads own ≡ head_bytes (length logs) digest
    same_head logs as_many = λ i. head_bytes ((are_all ∙ sym as_many) i) (is_own i)

    -- the head is not added
    pub head_refused : (after : DeskState) (fault : DeskFault) → MakesSome (Add (head_bytes threads own) ∷ []) mid (Err fault) after → IsWrittenLive source name before (Err fault) after
    head_refused after fault makes =
        let n = length source.script.threads in
        let logs = empty_logs n in
        by logs (subst (λ (b : List ℕ). MakesSome (Add b ∷ []) mid (Err fault) after) (same_head logs (length-empty_logs n)) makes)
      where
        by : (logs : List ThreadLog) → MakesSome (Add (head_bytes (length (empty_logs (length source.script.threads))) digest) ∷ []) mid (Err fault) after → IsWrittenLive source name before (Err fault) after
        by logs (inl memory) = none_cut before after fault (inr (inr (mid, begins, inl memory)))
        by logs (inr (inl refused)) = none_cut before after fault (inr (inr (mid, begins, inr (inl refused))))
        by logs (inr (inr (other, does, (never, same)))) = absurd cc

    module _ (next : DeskState) (heads : MakesSome (Add (head_bytes threads own) ∷ []) mid (Ok tt) next) where
      -- with the head of this log
      own_heads : (logs : List ThreadLog) → length logs ≡ length source.script.threads → MakesSome (Add (head_bytes (length logs) digest) ∷ []) mid (Ok tt) next
      own_heads logs as_many = subst (λ (b : List ℕ). MakesSome (Add b ∷ []) mid (Ok tt) next) (same_head logs as_many) heads

      opened : (logs : List ThreadLog) → length logs ≡ length source.script.threads → (Next : DeskState → Result (Unit {0}) DeskFault → DeskState → Type 0) (after : DeskState) (result : Result (Unit {0}) DeskFault) → Next next result after
          → MakesThen (opening_acts name digest logs) Next before result after
      opened logs as_many Next after result makes = after_head name (head_bytes (length logs) digest) before mid next begins (own_heads logs as_many) Next after result makes

      -- memory is refused to the run
      pub run_refused : (after : DeskState) → IsPartlyWritten (length source.script.threads) next after → IsWrittenLive source name before (Err OutOfMemory) after
      run_refused after part = by part.kept part.written.adds
        where
          by : (kept : Option DeskFault) → AddsPieces part.written.pieces next kept after → IsWrittenLive source name before (Err OutOfMemory) after
          by None adds =
              is_cut (record { threads = part.logs; valid = part.valid }) part.as_many part.few part.written.pieces part.written.are part.written.have before after (Err OutOfMemory)
              (inl (tt, opened part.logs part.as_many (MakesPieces part.written.pieces (MakesSome (Add (tail_bytes part.logs) ∷ Finish ∷ []))) after (Err OutOfMemory) (pieces_then part.written.pieces (MakesSome (Add (tail_bytes part.logs) ∷ Finish ∷ [])) next after after (Err OutOfMemory) adds (inl (refl, refl)))))
          by (Some fault) adds =
              is_cut (record { threads = part.logs; valid = part.valid }) part.as_many part.few part.written.pieces part.written.are part.written.have before after (Err OutOfMemory)
              (inr (refl, (next, fault, opened part.logs part.as_many (λ b r a. (r ≡ Ok tt) × (a ≡ b)) next (Ok tt) (refl, refl), pieces_cut part.written.pieces (λ m r e. ⊥) next after fault adds)))

      -- the run comes to its end, and then what is left is written and said
      pub run_ended : (log : Log) (outcome : Outcome) (kept : Option DeskFault) (last after : DeskState) (result : Result (Unit {0}) DeskFault) → IsFaithful source.script log.threads outcome → IsWritten log.threads next kept last
          → MakesUnless kept (Add (tail_bytes log.threads) ∷ (Finish ∷ (Say (outcome_text source.script outcome) ∷ []))) last result after → IsWrittenLive source name before result after
      run_ended log outcome kept last after result faithful written ends = by kept written.adds ends
        where
          as_many : length log.threads ≡ length source.script.threads
          as_many = sym faithful.is_lawful.0

          by : (kept : Option DeskFault) → AddsPieces written.pieces next kept last → MakesUnless kept (Add (tail_bytes log.threads) ∷ (Finish ∷ (Say (outcome_text source.script outcome) ∷ []))) last result after → IsWrittenLive source name before result after
          by None adds makes =
              is_told log as_many (faithful_few source.script log outcome faithful) written.pieces written.are written.have before after result
              (outcome, faithful, opened log.threads as_many (MakesPieces written.pieces (MakesSome (Add (tail_bytes log.threads) ∷ Finish ∷ Say (outcome_text source.script outcome) ∷ []))) after result (pieces_then written.pieces (MakesSome (Add (tail_bytes log.threads) ∷ Finish ∷ Say (outcome_text source.script outcome) ∷ [])) next last after result adds makes))
          by (Some fault) adds (is, same) =
              is_cut log as_many (faithful_few source.script log outcome faithful) written.pieces written.are written.have before after result
              (inl (
                subst IsRefused (sym is) tt,
                subst (λ (r : Result (Unit {0}) DeskFault). WritesLog name digest written.pieces log.threads [] before r after) (sym is)
                    (opened log.threads as_many (MakesPieces written.pieces (MakesSome (Add (tail_bytes log.threads) ∷ Finish ∷ []))) after (Err fault) (subst (λ (s : DeskState). MakesPieces written.pieces (MakesSome (Add (tail_bytes log.threads) ∷ Finish ∷ [])) next (Err fault) s) (sym same) (pieces_cut written.pieces (MakesSome (Add (tail_bytes log.threads) ∷ Finish ∷ [])) next last fault adds))),
              ))
