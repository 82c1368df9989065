-- The answer to a marks file, by what was read of some first bytes of it.
use Rattle.std.proofs.Common.{◌≡◌, ◌∙◌, ◌⊎◌, ◌++◌, ◌<◌, ◌≤◌, ◌+◌, ◌-◌, ℕ, List, [], length, take, append_assoc, Option, None, Some, Ok, Err, IfSome, inl, inr, ap, sym, refl, subst, arith}
use Rattle.std.specs.FinMap.{get}
use Rattle.std.proofs.lemmas.Bool.{cases_lt}
use Rattle.std.proofs.lemmas.Grind.{flat_map-append}
use Rattle.std.proofs.lemmas.List.{take_all, take-append-le, length-append}
use Rattle.std.proofs.Math.Seq.{take-append-add}
use Rattle.octet_base.specs.Desk.{Contents}
use Rattle.octet_marks.specs.declared.cause.MarksCause.{MarksCause}
use Rattle.octet_marks.specs.declared.piece.Piece.{Piece}
use Rattle.octet_marks.specs.Files.{Unread, unfed, fed_with, ending_of}
use Rattle.octet_marks.specs.Reading.{piece_at}
use Rattle.octet_marks.specs.Texts.{piece_text, ending_text, refusal_line}
use Rattle.octet_marks.proofs.lemmas.More.{piece_more}
use Rattle.octet_commands.specs.declared.marks.TheConstants.{TOO_MANY_BYTES}
use Rattle.octet_commands.specs.declared.reply.Status.TheVariants.{Done, Log, Read, TooLong}
use Rattle.octet_commands.specs.Answer.{Answer, says, read_failed, too_long}
use Rattle.octet_commands.specs.Marks.{ReadsTo, fed, judged, pieces_text, MarksAnswers, FileAnswers, FileFails}
use Rattle.octet_commands.proofs.lemmas.Chains.{Stands, reads_more, then_reads, reads_on, none_at, nothing_read}

-- the file begins with these bytes, if it is there; of one that is not there are none
abbrev pub IsFrontOf : Option (List ℕ) → List ℕ → Type 0
IsFrontOf None bytes = bytes ≡ []
IsFrontOf (Some whole) bytes = (rest : List ℕ) × (whole ≡ bytes ++ rest)

abbrev pub IsFrontIn : List ℕ → Option Contents → List ℕ → Type 0
IsFrontIn name contents bytes = IfSome contents (λ t. IsFrontOf (get t.files name) bytes)

pub text_then : (first more : List Piece) → pieces_text (first ++ more) ≡ pieces_text first ++ pieces_text more
text_then first more = flat_map-append piece_text first more

module _ (name : List ℕ) (bytes : List ℕ) (pieces : List Piece) (unread : Unread) (few : length bytes ≤ TOO_MANY_BYTES) (reads : ReadsTo (fed bytes) pieces unread) where
  abbrev room : ℕ
  room = TOO_MANY_BYTES - length bytes

  judged_front : (rest : List ℕ) → judged (bytes ++ rest) ≡ bytes ++ take room rest
  judged_front rest = let size : TOO_MANY_BYTES ≡ length bytes + room = omega (arith, few) in ap (λ n. take n (bytes ++ rest)) size ∙ take-append-add bytes rest room

  -- with the bytes behind these
  abbrev further : List ℕ → Unread
  further rest = fed_with (take room rest) unread

  whole_reads : (rest : List ℕ) → ReadsTo (fed (judged (bytes ++ rest))) pieces (further rest)
  whole_reads rest = subst (λ (b : List ℕ). ReadsTo (fed b) pieces (further rest)) (sym (judged_front rest)) (reads_more (take room rest) (fed bytes) unread pieces reads)

  -- the next piece is refused
  refused_whole : (rest : List ℕ) (cause : MarksCause) → piece_at unread.threads unread.bytes ≡ Err cause → MarksAnswers name (bytes ++ rest) (says Log (pieces_text pieces ++ refusal_line cause unread.place))
  refused_whole rest cause bad =
      (pieces, further rest, whole_reads rest, inr (cause, piece_more unread.threads unread.bytes (take room rest) (λ none. (let both : Err cause ≡ Ok None = sym bad ∙ none in cc)) ∙ bad, refl))

  -- the file ends
  ended_whole : length bytes < TOO_MANY_BYTES → piece_at unread.threads unread.bytes ≡ Ok None → MarksAnswers name bytes (says Done (pieces_text pieces ++ ending_text (ending_of unread)))
  ended_whole short cut =
      (pieces, unread, subst (λ (b : List ℕ). ReadsTo (fed b) pieces unread) (sym (take_all TOO_MANY_BYTES bytes few)) reads, inl (cut, inl (short, refl)))

  -- the file goes on
  long_whole : (rest : List ℕ) → length bytes ≡ TOO_MANY_BYTES → piece_at unread.threads unread.bytes ≡ Ok None
      → MarksAnswers name (bytes ++ rest) (says TooLong (pieces_text pieces ++ (too_long name (TOO_MANY_BYTES - 1)).text))
  long_whole rest full cut = (
    pieces,
    unread,
    subst (λ (b : List ℕ). ReadsTo (fed b) pieces unread) (sym (take-append-le TOO_MANY_BYTES bytes rest (omega (arith, full)) ∙ take_all TOO_MANY_BYTES bytes few)) reads,
    inl (cut, inr (omega (arith, full, length-append bytes rest), refl)),
  )

  -- some answer begins with the text of these pieces
  abbrev Begins : List ℕ → Type 0
  Begins whole = (answer : Answer) × MarksAnswers name whole answer × (answer.files ≡ []) × ((more : List ℕ) × (answer.text ≡ pieces_text pieces ++ more))

  begun_whole : (rest : List ℕ) → Begins (bytes ++ rest)
  begun_whole rest = by (reads_on (further rest))
    where
      text_is : (others : List Piece) (line : List ℕ) → pieces_text (pieces ++ others) ++ line ≡ pieces_text pieces ++ (pieces_text others ++ line)
      text_is others line = ap (λ t. t ++ line) (text_then pieces others) ∙ append_assoc (pieces_text pieces) (pieces_text others) line

      by : (others : List Piece) × (stands : Unread) × ReadsTo (further rest) others stands × Stands stands → Begins (bytes ++ rest)
      by (others, stands, goes_on, inr (cause, bad)) = (
        says Log (pieces_text (pieces ++ others) ++ refusal_line cause stands.place),
        ((pieces ++ others), stands, then_reads pieces (fed (judged (bytes ++ rest))) (further rest) stands others (whole_reads rest) goes_on, inr (cause, bad, refl)),
        refl,
        (pieces_text others ++ refusal_line cause stands.place, text_is others (refusal_line cause stands.place)),
      )
      by (others, stands, goes_on, inl cut) = elim (cases_lt (length (bytes ++ rest)) TOO_MANY_BYTES) [
        | inl short ↦ (
          says Done (pieces_text (pieces ++ others) ++ ending_text (ending_of stands)),
          ((pieces ++ others), stands, then_reads pieces (fed (judged (bytes ++ rest))) (further rest) stands others (whole_reads rest) goes_on, inl (cut, inl (short, refl))),
          refl,
          (pieces_text others ++ ending_text (ending_of stands), text_is others (ending_text (ending_of stands))),
        )
        | inr long ↦ (
          says TooLong (pieces_text (pieces ++ others) ++ (too_long name (TOO_MANY_BYTES - 1)).text),
          ((pieces ++ others), stands, then_reads pieces (fed (judged (bytes ++ rest))) (further rest) stands others (whole_reads rest) goes_on, inl (cut, inr (long, refl))),
          refl,
          (pieces_text others ++ (too_long name (TOO_MANY_BYTES - 1)).text, text_is others (too_long name (TOO_MANY_BYTES - 1)).text),
        )
      ]

  -- of a file that is not there nothing was read
  none_read : bytes ≡ [] → (pieces ≡ []) × (unread ≡ unfed)
  none_read none = nothing_read pieces unread (subst (λ (b : List ℕ). ReadsTo (fed b) pieces unread) none reads)

  no_text : bytes ≡ [] → (line : List ℕ) → pieces_text pieces ++ line ≡ line
  no_text none line = ap (λ (p : List Piece). pieces_text p ++ line) (none_read none).0

  -- the bytes of a file of which these are the first
  abbrev WithRest : Option Contents → Type 0
  WithRest contents = (rest : List ℕ) × IfSome contents (λ t. get t.files name ≡ Some (bytes ++ rest))

  there : (contents : Option Contents) → IsFrontIn name contents bytes → (bytes ≡ []) ⊎ WithRest contents
  there None front = inr ([], tt)
  there (Some t) front = by (get t.files name) refl front
    where
      by : (file : Option (List ℕ)) → get t.files name ≡ file → IsFrontOf file bytes → (bytes ≡ []) ⊎ WithRest (Some t)
      by None is none = inl none
      by (Some whole) is (rest, same) = inr (rest, is ∙ ap (λ (w : List ℕ). Some w) same)

  pub refused_answers : (contents : Option Contents) → IsFrontIn name contents bytes → (cause : MarksCause) → piece_at unread.threads unread.bytes ≡ Err cause → FileAnswers name contents (says Log (pieces_text pieces ++ refusal_line cause unread.place))
  refused_answers contents front cause bad = elim (there contents front) [
    | inl none ↦ (let stands = (none_read none).1 in let both : Ok None ≡ Err cause = sym none_at ∙ ap (λ (u : Unread). piece_at u.threads u.bytes) (sym stands) ∙ bad in absurd cc)
    | inr (rest, is) ↦ inr (bytes ++ rest, is, refused_whole rest cause bad)
  ]

  pub ended_answers : (contents : Option Contents) → IfSome contents (λ t. get t.files name ≡ Some bytes) → length bytes < TOO_MANY_BYTES → piece_at unread.threads unread.bytes ≡ Ok None
      → FileAnswers name contents (says Done (pieces_text pieces ++ ending_text (ending_of unread)))
  ended_answers contents is short cut = inr (bytes, is, ended_whole short cut)

  pub long_answers : (contents : Option Contents) → IsFrontIn name contents bytes → length bytes ≡ TOO_MANY_BYTES → piece_at unread.threads unread.bytes ≡ Ok None
      → FileAnswers name contents (says TooLong (pieces_text pieces ++ (too_long name (TOO_MANY_BYTES - 1)).text))
  long_answers contents front full cut = elim (there contents front) [
    | inl none ↦ (let never : 0 ≡ TOO_MANY_BYTES = sym (ap length none) ∙ full in absurd (omega (arith, never)))
    | inr (rest, is) ↦ inr (bytes ++ rest, is, long_whole rest full cut)
  ]

  pub absent_answers : (t : Contents) → IsFrontIn name (Some t) bytes → get t.files name ≡ None → FileAnswers name (Some t) (says Read (pieces_text pieces ++ read_failed.text))
  absent_answers t front absent = inl (absent, ap (says Read) (no_text (subst (λ (o : Option (List ℕ)). IsFrontOf o bytes) absent front) read_failed.text))

  pub failed_fails : (contents : Option Contents) → IsFrontIn name contents bytes → FileFails name contents (says Read (pieces_text pieces ++ read_failed.text))
  failed_fails contents front = elim (there contents front) [
    | inl none ↦ inl (ap (says Read) (no_text none read_failed.text))
    | inr (rest, is) ↦ inr (bytes ++ rest, pieces, further rest, is, whole_reads rest, refl)
  ]

  -- some answer begins with what was said so far
  pub begun_answers : (contents : Option Contents) → IsFrontIn name contents bytes → (t : Contents) → contents ≡ Some t
      → (answer : Answer) × FileAnswers name contents answer × (answer.files ≡ []) × ((more : List ℕ) × (answer.text ≡ pieces_text pieces ++ more))
  begun_answers contents front t tells = by (get t.files name) refl (subst (λ (c : Option Contents). IsFrontIn name c bytes) tells front)
    where
      by : (file : Option (List ℕ)) → get t.files name ≡ file → IsFrontOf file bytes → (answer : Answer) × FileAnswers name contents answer × (answer.files ≡ []) × ((more : List ℕ) × (answer.text ≡ pieces_text pieces ++ more))
      by None is none = (read_failed, subst (λ (c : Option Contents). FileAnswers name c read_failed) (sym tells) (inl (is, refl)), refl, (read_failed.text, sym (no_text none read_failed.text)))
      by (Some whole) is (rest, same) =
          let begins = begun_whole rest in
          (begins.0, subst (λ (c : Option Contents). FileAnswers name c begins.0) (sym tells) (inr (bytes ++ rest, is ∙ ap (λ (w : List ℕ). Some w) same, begins.1)), begins.2, begins.3)
