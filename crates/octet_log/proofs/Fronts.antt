-- Where a log's spelling of either version is cut, it is judged as cut there.
use Rattle.std.proofs.Common.{◌≡◌, ℕ, ◌+◌, ◌-◌, ◌<◌, true, false, ltb, List, [], ◌∷◌, ◌++◌, length, take, drop, Option, Some, None, Result, Ok, Err, refl, sym, ap, ◌∙◌, append_assoc, arith, inl, inr}
use Rattle.std.specs.Prelude.{codes}
use Rattle.std.specs.List.{flat_map}
use Rattle.std.proofs.lemmas.Bool.{lt-ltb, le-ltb}
use Rattle.std.proofs.lemmas.List.{length-append, length-take, take-append-drop}
use Rattle.octet_model.specs.declared.log.ThreadLog.{ThreadLog}
use Rattle.octet_model.specs.Log.{is_log}
use Rattle.octet_model.specs.Texts.{thread_bytes}
use Rattle.octet_log.specs.declared.cause.LogCause.{LogCause}
use Rattle.octet_log.specs.declared.cause.LogCause.TheVariants.{CutShort}
use Rattle.octet_log.specs.Judging.{◌>>=◌}
use Rattle.octet_log.specs.v1.Decoding.{decoded}
use Rattle.octet_log.specs.Inputs.{cut_cause}
use Rattle.octet_log.specs.v2.Pieces.{piece_bytes, tail_bytes}
use Rattle.octet_log.specs.Spellings.{IsSpelling}
use Rattle.octet_log.specs.v2.Decoding.{second_at}
use Rattle.octet_log.specs.Loading.{second_word, loaded}
use Rattle.octet_log.proofs.Cuts.{cons_is, split, shorter, no_magic}
use Rattle.octet_log.proofs.version1.Cuts.{cut}
use Rattle.octet_log.proofs.version2.Pieces.{accesses_bytes}
use Rattle.octet_log.proofs.Refused.{first_fails}
use Rattle.octet_log.proofs.version1.Refused.{head_cut}
use Rattle.octet_log.proofs.version2.Whole.{IsPieced, is_pieced}
use Rattle.octet_log.proofs.version2.Cuts.{second_cut}

-- behind the word and the version
second_judged : (front : List ℕ) (cause : LogCause) → second_at (length (second_word ++ front)) front ≡ Err cause → loaded (second_word ++ front) ≡ Err cause
unfolding loaded
second_judged front cause fails = ap (λ (r : Result (List ThreadLog × List ℕ) LogCause). r >>= λ read. Ok (record { logs = read.0; digest = Some read.1 })) fails

word_alone : loaded (codes "OCTL") ≡ Err (CutShort 4)
word_alone = first_fails (codes "OCTL") (CutShort 4) (λ word. (let five = ap (λ (l : List ℕ). length l) word in omega (arith, five))) head_cut.0

lacks_word : (front : List ℕ) → length front < 4 → decoded front ≡ Err (cut_cause front)
unfolding decoded
lacks_word front short = rw (no_magic front short, lt-ltb (length front) 4 short) refl

-- a front of version 1 does not begin as version 2
first_front : (logs : List ThreadLog) (front : List ℕ) (next : ℕ) (rest : List ℕ) → codes "OCTL" ++ 1 ∷ length logs ∷ flat_map thread_bytes logs ≡ front ++ next ∷ rest → take 5 front ≡ second_word → ⊥
first_front logs front next rest e word =
    let whole : codes "OCTL" ++ 1 ∷ length logs ∷ flat_map thread_bytes logs ≡ second_word ++ (drop 5 front ++ next ∷ rest) =
    e ∙ ap (λ (l : List ℕ). l ++ next ∷ rest) (sym (take-append-drop 5 front)) ∙ ap (λ (l : List ℕ). (l ++ drop 5 front) ++ next ∷ rest) word in
    cc

pub front_cut : (front : List ℕ) (next : ℕ) (rest : List ℕ) (digest : Option (List ℕ)) (logs : List ThreadLog) → is_log logs ≡ true → IsSpelling (front ++ next ∷ rest) digest logs → loaded front ≡ Err (cut_cause front)
front_cut front next rest None logs valid spells = first_fails front (cut_cause front) (first_front logs front next rest (sym spells)) (cut logs front next rest valid (sym spells))
front_cut front next rest (Some digest) logs valid spells =
    let pieces = spells.pieces in
    let body = length logs ∷ (digest ++ ((flat_map piece_bytes pieces ++ 255 ∷ []) ++ accesses_bytes logs)) in
    let regrouped : length logs ∷ digest ++ (flat_map piece_bytes pieces ++ tail_bytes logs) ≡ body = ap (λ (l : List ℕ). length logs ∷ digest ++ l) (sym (append_assoc (flat_map piece_bytes pieces) (255 ∷ []) (accesses_bytes logs))) in
    let parts : second_word ++ body ≡ front ++ next ∷ rest = sym (spells.parts ∙ ap (λ (l : List ℕ). second_word ++ l) regrouped) in
    elim (split (codes "OCTL") (2 ∷ body) front next rest parts) [
      | inl p ↦
          let short : length front < 4 = shorter (codes "OCTL") front next p.0 p.1 in
          let other : take 5 front ≡ second_word → ⊥ = λ word. (let five = ap (λ (l : List ℕ). length l) word in omega (arith, five, length-take 5 front, short)) in
          first_fails front (cut_cause front) other (lacks_word front short)
      | inr p ↦ behind p.0 p.1 p.2
    ]
  where
    pieced : IsPieced spells.pieces logs
    pieced = is_pieced spells.pieces logs spells.are spells.have spells.few valid

    behind : (f : List ℕ) → front ≡ codes "OCTL" ++ f → 2 ∷ (length logs ∷ (digest ++ ((flat_map piece_bytes spells.pieces ++ 255 ∷ []) ++ accesses_bytes logs))) ≡ f ++ next ∷ rest → loaded front ≡ Err (cut_cause front)
    behind [] is more = rw is word_alone
    behind (x ∷ f) is more =
        let same = cons_is 2 x (length logs ∷ (digest ++ ((flat_map piece_bytes spells.pieces ++ 255 ∷ []) ++ accesses_bytes logs))) (f ++ next ∷ rest) more in
        let whole : front ≡ second_word ++ f = is ∙ ap (λ (v : ℕ). codes "OCTL" ++ v ∷ f) (sym same.0) in
        let long : ltb (length (second_word ++ f)) 4 ≡ false = le-ltb (length (second_word ++ f)) 4 (omega (arith, length-append second_word f)) in
        let judged : loaded (second_word ++ f) ≡ Err (CutShort (length (second_word ++ f))) =
        second_judged f (CutShort (length (second_word ++ f))) (second_cut (length (second_word ++ f)) digest spells.pieces logs spells.whole pieced f next rest same.1) in
        rw whole (judged ∙ rw long refl)
