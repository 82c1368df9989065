-- Calls that are made one after the other.
use Rattle.std.proofs.Common.{◌≡◌, ◌∙◌, ◌≤◌, ◌<◌, ◌+◌, ℕ, zero, suc, ◌++◌, List, [], ◌∷◌, map, take, drop, length, min, Result, Ok, Err, inl, inr, ap, sym, refl, arith, subst, add-one, get_or, string_bytes}
use Rattle.std.specs.List.{flat_map}
use Rattle.std.proofs.lemmas.List.{length-drop, take_min, drop_min}
use Rattle.std.proofs.Math.Seq.{drop-cons}
use Rattle.octet_commands.specs.declared.reply.Output.{Output}
use Rattle.octet_commands.specs.Answer.{file_of}
use Rattle.octet_base.specs.Desk.{DeskState, Adds, Finishes, Says}
use Rattle.octet_base.specs.declared.fault.DeskFault.{DeskFault}
use Rattle.octet_commands.specs.Delivery.{Act, Add, Finish, Say, file_acts, Makes, pieces_within, rest_acts}

-- all were made, and then those after them
pub then_made : (acts more : List Act) (before mid after : DeskState) (result : Result (Unit {0}) DeskFault) → Makes acts before (Ok tt) mid → Makes more mid result after → Makes (acts ++ more) before result after
then_made [] more before mid after result (ok, is) next = rw (← is) next
then_made (act ∷ acts) more before mid after result (inl never) next = absurd never.0
then_made (act ∷ acts) more before mid after result (inr (between, does, makes)) next = inr (between, does, then_made acts more between mid after result makes next)

-- one was refused, and none after it was made
pub stays_refused : (acts more : List Act) (before after : DeskState) (fault : DeskFault) → Makes acts before (Err fault) after → Makes (acts ++ more) before (Err fault) after
stays_refused [] more before after fault (never, is) = absurd cc
stays_refused (act ∷ acts) more before after fault (inl refused) = inl refused
stays_refused (act ∷ acts) more before after fault (inr (between, does, makes)) = inr (between, does, stays_refused acts more between after fault makes)

-- more room makes no more pieces
enough : (size n m : ℕ) (bytes : List ℕ) → 0 < size → length bytes ≤ n → length bytes ≤ m → pieces_within size n bytes ≡ pieces_within size m bytes
enough size n m [] some a b = refl
enough size zero m (byte ∷ bytes) some a b = absurd (omega (arith, a))
enough size (suc n) zero (byte ∷ bytes) some a b = absurd (omega (arith, b))
enough size (suc n) (suc m) (byte ∷ bytes) some a b =
    ap (λ (ps : List (List ℕ)). take size (byte ∷ bytes) ∷ ps)
    (enough size n m (drop size (byte ∷ bytes)) some (omega (arith, length-drop size (byte ∷ bytes), some, a)) (omega (arith, length-drop size (byte ∷ bytes), some, b)))

-- the first piece, and those of the rest
next_piece : (size : ℕ) (bytes : List ℕ) → 0 < size → 0 < length bytes
    → pieces_within size (length bytes) bytes ≡ take size bytes ∷ pieces_within size (length (drop size bytes)) (drop size bytes)
next_piece size [] some more = absurd (omega (arith, more))
next_piece size (byte ∷ bytes) some more =
    ap (λ (ps : List (List ℕ)). take size (byte ∷ bytes) ∷ ps)
    (enough size (length bytes) (length (drop size (byte ∷ bytes))) (drop size (byte ∷ bytes)) some (omega (arith, length-drop size (byte ∷ bytes), some)) (omega arith))

module _ (bytes piece : List ℕ) (more : 0 < length bytes) (front : piece ≡ take (min 65536 (length bytes)) bytes) where
  first_piece : rest_acts bytes ≡ Add piece ∷ rest_acts (drop 65536 bytes)
  first_piece =
      ap (λ (ps : List (List ℕ)). map Add ps ++ Finish ∷ []) (next_piece 65536 bytes (omega arith) more)
      ∙ ap (λ (p : List ℕ). Add p ∷ rest_acts (drop 65536 bytes)) (sym (take_min 65536 bytes) ∙ sym front)

  -- a piece was refused
  pub piece_refused : (before after : DeskState) (fault : DeskFault) → Adds piece before (Err fault) after → Makes (rest_acts bytes) before (Err fault) after
  piece_refused before after fault adds = subst (λ (acts : List Act). Makes acts before (Err fault) after) (sym first_piece) (inl (tt, adds))

  -- a piece was added, and then the rest was written
  pub piece_made : (rest : List ℕ) (before mid after : DeskState) (result : Result (Unit {0}) DeskFault) → rest ≡ drop (min 65536 (length bytes)) bytes
      → Adds piece before (Ok tt) mid → Makes (rest_acts rest) mid result after → Makes (rest_acts bytes) before result after
  piece_made rest before mid after result back adds makes =
      subst (λ (acts : List Act). Makes acts before result after) (sym first_piece)
      (inr (mid, adds, subst (λ (r : List ℕ). Makes (rest_acts r) mid result after) (back ∙ drop_min 65536 bytes) makes))

-- no piece is left
pub finish_made : (bytes : List ℕ) (before after : DeskState) (result : Result (Unit {0}) DeskFault) → length bytes ≡ 0 → Finishes before result after → Makes (rest_acts bytes) before result after
finish_made (byte ∷ bytes) before after result none finishes = absurd (omega (arith, none))
finish_made [] before after (Err fault) none finishes = inl (tt, finishes)
finish_made [] before after (Ok tt) none finishes = inr (after, finishes, (refl, refl))

-- the files from a place on: the one there, and those after it
files_at : (outputs : List Output) (i : ℕ) (output : Output) → i < length outputs → output ≡ get_or outputs i output
    → flat_map file_acts (map file_of (drop i outputs)) ≡ file_acts (file_of output) ++ flat_map file_acts (map file_of (drop (i + 1) outputs))
files_at outputs i output within is =
    rw (add-one i) (ap (λ (os : List Output). flat_map file_acts (map file_of os)) (drop-cons outputs i output within ∙ ap (λ (o : Output). o ∷ drop (suc i) outputs) (sym is)))

module _ (outputs : List Output) (i : ℕ) (output : Output) (within : i < length outputs) (is : output ≡ get_or outputs i output) (name bytes : List ℕ) (named : name ≡ string_bytes output.name) (filled : bytes ≡ output.bytes) where
  file_is : (name, bytes) ≡ file_of output
  file_is = ap (λ (n : List ℕ). (n, bytes)) named ∙ ap (λ (b : List ℕ). (string_bytes output.name, b)) filled

  -- a file was not written whole
  pub file_refused : (before after : DeskState) (fault : DeskFault) → Makes (file_acts (name, bytes)) before (Err fault) after → Makes (flat_map file_acts (map file_of (drop i outputs))) before (Err fault) after
  file_refused before after fault makes =
      subst (λ (acts : List Act). Makes acts before (Err fault) after) (sym (files_at outputs i output within is))
      (stays_refused (file_acts (file_of output)) _ before after fault (subst (λ (file : List ℕ × List ℕ). Makes (file_acts file) before (Err fault) after) file_is makes))

  -- it was, and then the others were
  pub file_made : (before mid after : DeskState) (result : Result (Unit {0}) DeskFault) → Makes (file_acts (name, bytes)) before (Ok tt) mid
      → Makes (flat_map file_acts (map file_of (drop (i + 1) outputs))) mid result after → Makes (flat_map file_acts (map file_of (drop i outputs))) before result after
  file_made before mid after result makes rest =
      subst (λ (acts : List Act). Makes acts before result after) (sym (files_at outputs i output within is))
      (then_made (file_acts (file_of output)) _ before mid after result (subst (λ (file : List ℕ × List ℕ). Makes (file_acts file) before (Ok tt) mid) file_is makes) rest)

-- the text is said after the files
pub then_said : (acts : List Act) (text said : List ℕ) (before mid after : DeskState) (result : Result (Unit {0}) DeskFault) → said ≡ text → Makes acts before (Ok tt) mid → Says said mid result after → Makes (acts ++ Say text ∷ []) before result after
then_said acts text said before mid after (Err fault) is makes says = then_made acts (Say text ∷ []) before mid after (Err fault) makes (inl (tt, rw (← is) says))
then_said acts text said before mid after (Ok tt) is makes says = then_made acts (Say text ∷ []) before mid after (Ok tt) makes (inr (after, rw (← is) says, (refl, refl)))
