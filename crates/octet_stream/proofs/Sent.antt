-- What was handed on stays what it is while a journal grows, and grows by blocks.
use Rattle.std.proofs.Common.{◌≡◌, ◌∙◌, ℕ, Bool, true, false, List, [], ◌∷◌, ◌++◌, map, length, drop, refl, sym, ap, arith, append_assoc, append-nil}
use Rattle.octet_model.specs.declared.event.Event.{Event}
use Rattle.octet_model.specs.Journals.{gap_after, gapped_marks}
use Rattle.octet_digest.specs.Digests.{digest_of}
use Rattle.octet_stream.specs.declared.item.Item.{Item}
use Rattle.octet_stream.specs.declared.item.Item.TheVariants.{Marked, BlockEnd}
use Rattle.octet_stream.specs.Items.{joined, items_of, items_of_end, AreOf}
use Rattle.octet_stream.proofs.lemmas.Items.{items_more, joined_more}

pub false_is_not_true : false ≡ true → ⊥
false_is_not_true is = grind (arith, is)

-- a journal grows
pub grows : (made more later : List Event) (base base_after : ℕ) (ended : Bool) (items : List Item) → ended ≡ false → AreOf made base ended items → later ≡ made ++ more → base_after ≡ base → AreOf later base_after ended items
grows made more later base base_after ended items running of grown same = record {
  blocks = of.blocks;
  left = of.left ++ more;
  cut = grown ∙ (ap (λ (l : List Event). l ++ more) of.cut ∙ append_assoc (joined of.blocks) of.left more);
  first = same ∙ of.first;
  are = of.are;
  last = λ (yes : ended ≡ true). absurd (false_is_not_true (sym running ∙ yes));
}

drop_joined : (xs ys : List Event) → drop (length xs) (xs ++ ys) ≡ ys
drop_joined [] ys = refl
drop_joined (x ∷ xs) ys = drop_joined xs ys

-- the events after the first ones are those that are left
pub left_is : (made : List Event) (base : ℕ) (ended : Bool) (items : List Item) (of : AreOf made base ended items) → drop base made ≡ of.left
left_is made base ended items of =
    ap (λ (n : ℕ). drop n made) of.first ∙ (ap (λ (l : List Event). drop (length (joined of.blocks)) l) of.cut ∙ drop_joined (joined of.blocks) of.left)

-- a block is handed on, and the thread's end if it ends
pub hands_block : (made : List Event) (base : ℕ) (items later : List Item) (ends : Bool) → AreOf made base false items
    → later ≡ (items ++ map (λ mark. Marked mark) (gapped_marks 0 (drop base made))) ++ (BlockEnd (gap_after 0 (drop base made)) (digest_of made) ∷ items_of_end ends)
    → AreOf made (length made) ends later
hands_block made base items later ends of sent =
    let left = left_is made base false items of in
    let all : joined (of.blocks ++ of.left ∷ []) ≡ made = joined_more of.blocks of.left ∙ sym of.cut in
    let marks = map (λ mark. Marked mark) (gapped_marks 0 of.left) in
    let end = BlockEnd (gap_after 0 of.left) (digest_of made) in
    let before = items_of [] of.blocks in
    let block : items_of [] (of.blocks ++ of.left ∷ []) ≡ before ++ (marks ++ end ∷ []) = items_more [] of.blocks of.left ∙ ap (λ (l : List Event). before ++ (marks ++ BlockEnd (gap_after 0 of.left) (digest_of l) ∷ [])) (sym of.cut) in
    record {
      blocks = of.blocks ++ of.left ∷ [];
      left = [];
      cut = sym (append-nil (joined (of.blocks ++ of.left ∷ [])) ∙ all);
      first = ap (λ (l : List Event). length l) (sym all);
      are =
          sent
          ∙ (ap (λ (l : List Event). (items ++ map (λ mark. Marked mark) (gapped_marks 0 l)) ++ (BlockEnd (gap_after 0 l) (digest_of made) ∷ items_of_end ends)) left
          ∙ (ap (λ (l : List Item). (l ++ marks) ++ (end ∷ items_of_end ends)) (of.are ∙ append-nil before)
          ∙ (append_assoc before marks (end ∷ items_of_end ends)
          ∙ (ap (λ (l : List Item). before ++ l) (sym (append_assoc marks (end ∷ []) (items_of_end ends)))
          ∙ (sym (append_assoc before (marks ++ end ∷ []) (items_of_end ends))
          ∙ ap (λ (l : List Item). l ++ items_of_end ends) (sym block))))));
      last = λ _. refl;
    }
