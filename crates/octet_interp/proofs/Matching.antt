-- The openers that are still open, as the commands are taken in one after another.
use Rattle.std.proofs.Common.{◌≡◌, ℕ, zero, suc, ◌-◌, ◌<◌, inl, inr, Bool, true, false, ◌&&◌, ◌==◌, List, [], ◌∷◌, ◌++◌, length, drop, Option, Some, None, slice_get, get_or, set, refl, sym, ap, ◌∙◌, subst, subst₂, arith}
use Rattle.std.proofs.lemmas.Bool.{and_parts, cases_eq, cases_lt, eqb-true, eq-eqb}
use Rattle.std.specs.Cmp.Derive.{both_true}
use Rattle.std.proofs.lemmas.Bool.Decides.{eqb_tells}
use Rattle.std.proofs.lemmas.List.{get_or_append_left, get_or_push, get_or-set_same, get_or-set_other, length_push, length-set}
use Rattle.std.proofs.lemmas.Option.{get_or_from_slice_get}
use Rattle.std.proofs.Math.Seq.{drop-cons}
use Rattle.octet_model.specs.declared.command.Command.{Command}
use Rattle.octet_model.specs.declared.command.Command.TheVariants.{Loop, Branch, Close}
use Rattle.octet_model.specs.Script.{is_nested}
use Rattle.octet_model.specs.Thread.{is_opener, end_from, matching_end, is_opened_at, matching_opener, place_past_end, place_after_close}
use Rattle.octet_model.specs.Validity.{is_closer}
use Rattle.octet_interp.specs.Leads.{lead_of, HasItsLead, IsMatched}

end_opener : (depth place : ℕ) (command : Command) (rest : List Command) → is_opener command ≡ true → end_from depth place (command ∷ rest) ≡ end_from (suc depth) (suc place) rest
end_opener depth place (Loop test) rest is = refl
end_opener depth place (Branch test) rest is = refl
end_opener depth place _ rest is = absurd cc

end_closer : (depth place : ℕ) (command : Command) (rest : List Command) → is_closer command ≡ true → end_from (suc (suc depth)) place (command ∷ rest) ≡ end_from (suc depth) (suc place) rest
end_closer depth place Close rest is = refl
end_closer depth place _ rest is = absurd cc

end_here : (place : ℕ) (command : Command) (rest : List Command) → is_closer command ≡ true → end_from (suc zero) place (command ∷ rest) ≡ place
end_here place Close rest is = refl
end_here place _ rest is = absurd cc

end_other : (depth place : ℕ) (command : Command) (rest : List Command) → is_opener command ≡ false → is_closer command ≡ false → end_from depth place (command ∷ rest) ≡ end_from depth (suc place) rest
end_other depth place (Loop test) rest opener closer = absurd cc
end_other depth place (Branch test) rest opener closer = absurd cc
end_other depth place Close rest opener closer = absurd cc
end_other depth place _ rest opener closer = refl

nested_opener : (depth : ℕ) (command : Command) (rest : List Command) → is_opener command ≡ true → is_nested depth (command ∷ rest) ≡ true → is_nested (suc depth) rest ≡ true
nested_opener zero (Loop test) rest is nested = nested
nested_opener (suc depth) (Loop test) rest is nested = nested
nested_opener zero (Branch test) rest is nested = nested
nested_opener (suc depth) (Branch test) rest is nested = nested
nested_opener depth _ rest is nested = absurd cc

nested_closer : (depth : ℕ) (command : Command) (rest : List Command) → is_closer command ≡ true → is_nested (suc depth) (command ∷ rest) ≡ true → is_nested depth rest ≡ true
nested_closer depth Close rest is nested = nested
nested_closer depth _ rest is nested = absurd cc

nested_other : (depth : ℕ) (command : Command) (rest : List Command) → is_opener command ≡ false → is_closer command ≡ false → is_nested depth (command ∷ rest) ≡ true → is_nested depth rest ≡ true
nested_other depth (Loop test) rest opener closer nested = absurd cc
nested_other depth (Branch test) rest opener closer nested = absurd cc
nested_other depth Close rest opener closer nested = absurd cc
nested_other zero _ rest opener closer nested = nested
nested_other (suc depth) _ rest opener closer nested = nested

and_false : (b c : Bool) → c ≡ false → (b && c) ≡ false
and_false true c is = is
and_false false c is = refl

apart_eqb : (a b : ℕ) → (a ≡ b → ⊥) → (a == b) ≡ false
apart_eqb a b apart = elim (eqb_tells a b) [ inl w ↦ absurd (apart w.1) | inr w ↦ w.0 ]

abbrev opened_by : Option Command → ℕ → ℕ → Bool
opened_by o end place = elim o [ None ↦ false | Some command ↦ is_opener command && (end == place) ]

once : (o : Option Command) (end a b : ℕ) → opened_by o end a ≡ true → (a ≡ b → ⊥) → opened_by o end b ≡ false
once None end a b is apart = absurd cc
once (Some command) end a b is apart =
    let same : end ≡ a = eqb-true end a (and_parts (is_opener command) (end == a) is).1 in
    and_false (is_opener command) (end == b) (apart_eqb end b (λ e. apart (sym same ∙ e)))

opened_once : (commands : List Command) (place a b : ℕ) → is_opened_at commands place a ≡ true → (a ≡ b → ⊥) → is_opened_at commands place b ≡ false
opened_once commands place a b is apart = once (slice_get commands place) (matching_end commands place) a b is apart

opens : (commands : List Command) (place end : ℕ) (command : Command) → slice_get commands place ≡ Some command → is_opener command ≡ true → matching_end commands place ≡ end → is_opened_at commands place end ≡ true
opens commands place end command at opener is =
    ap (λ (o : Option Command). opened_by o (matching_end commands place) end) at
    ∙ both_true opener (eq-eqb (matching_end commands place) end is)

opens_not : (commands : List Command) (place end : ℕ) (command : Command) → slice_get commands place ≡ Some command → is_opener command ≡ false → is_opened_at commands place end ≡ false
opens_not commands place end command at opener =
    ap (λ (o : Option Command). opened_by o (matching_end commands place) end) at
    ∙ ap (λ (b : Bool). b && (matching_end commands place == end)) opener

lead_opened : (commands : List Command) (place end : ℕ) (o : Option Command) → opened_by o (matching_end commands place) end ≡ true → lead_of commands place o ≡ suc end
lead_opened commands place end None is = absurd cc
lead_opened commands place end (Some (Loop test)) is = ap suc (eqb-true (matching_end commands place) end is)
lead_opened commands place end (Some (Branch test)) is = ap suc (eqb-true (matching_end commands place) end is)
lead_opened commands place end (Some _) is = absurd cc

lead_closer : (commands : List Command) (place : ℕ) (command : Command) → is_closer command ≡ true → lead_of commands place (Some command) ≡ place_after_close commands place
lead_closer commands place Close is = refl
lead_closer commands place _ is = absurd cc

lead_other : (commands : List Command) (place : ℕ) (command : Command) → is_opener command ≡ false → is_closer command ≡ false → lead_of commands place (Some command) ≡ 0
lead_other commands place (Loop test) opener closer = absurd cc
lead_other commands place (Branch test) opener closer = absurd cc
lead_other commands place Close opener closer = absurd cc
lead_other commands place _ opener closer = refl

closer_opens_not : (command : Command) → is_closer command ≡ true → is_opener command ≡ false
closer_opens_not Close is = refl
closer_opens_not _ is = absurd cc

-- the search downward for an opener finds the last that has its end there
opener_found : (commands : List Command) (opener end place : ℕ) → opener < place → is_opened_at commands opener end ≡ true
    → ((k : ℕ) → opener < k → k < place → is_opened_at commands k end ≡ false) → matching_opener commands end place ≡ opener
opener_found commands opener end zero lt is none = absurd (omega arith)
opener_found commands opener end (suc place) lt is none =
    elim (cases_eq opener place) [
      | inl e ↦ ap after_test (subst (λ (k : ℕ). is_opened_at commands k end ≡ true) e is) ∙ sym e
      | inr apart ↦ ap after_test (none place (omega arith) (omega arith)) ∙ opener_found commands opener end place (omega arith) is (λ k above below. none k above (omega arith))
    ]
  where
    after_test : Bool → ℕ
    after_test b = elim b [ true ↦ place | false ↦ matching_opener commands end place ]

opens_where : (commands : List Command) (k k' e e' : ℕ) → k ≡ k' → e ≡ e' → is_opened_at commands k e ≡ true → is_opened_at commands k' e' ≡ true
opens_where commands k k' e e' p q is = subst₂ (λ (a b : ℕ). is_opened_at commands a b ≡ true) p q is

later : (commands : List Command) (leads : List ℕ) (here place : ℕ) → HasItsLead commands leads here place → HasItsLead commands leads (suc here) place
later commands leads here place t = record { right = t.right; ended = λ end le. t.ended end (omega arith) }

drop_here : (commands : List Command) (here : ℕ) (command : Command) → slice_get commands here ≡ Some command → here < length commands → drop here commands ≡ command ∷ drop (suc here) commands
drop_here commands here command at within =
    drop-cons commands here command within ∙ ap (λ (x : Command). x ∷ drop (suc here) commands) (get_or_from_slice_get commands here command command at)

pub takes_opener : (commands : List Command) (here : ℕ) (command : Command) (opened leads : List ℕ) → IsMatched commands here opened leads
    → slice_get commands here ≡ Some command → here < length commands → is_opener command ≡ true → IsMatched commands (suc here) (opened ++ here ∷ []) leads
takes_opener commands here command opened leads m at within opener =
    let tail : List Command = drop (suc here) commands in
    let d = drop_here commands here command at within in
    let n = length_push opened here in
    let old : (j : ℕ) → j < length opened → get_or (opened ++ here ∷ []) j 0 ≡ get_or opened j 0 = λ j lt. get_or_append_left opened (here ∷ []) 0 j lt in
    let new : (j : ℕ) → length opened ≡ j → get_or (opened ++ here ∷ []) j 0 ≡ here = λ j is. get_or_push opened here 0 j is in
    record {
      len = m.len;
      nested = ap (λ (k : ℕ). is_nested k tail) (let e : length (opened ++ here ∷ []) ≡ suc (length opened) = omega arith in e) ∙ nested_opener (length opened) command tail opener (ap (is_nested (length opened)) (sym d) ∙ m.nested);
      below = λ j lt. elim (cases_lt j (length opened)) [ inl l ↦ omega (arith, m.below j l, old j l) | inr g ↦ omega (arith, new j (omega arith)) ];
      rising = λ i j lt jn. elim (cases_lt j (length opened)) [
        | inl l ↦ omega (arith, m.rising i j lt l, old i (omega arith), old j l)
        | inr g ↦ omega (arith, m.below i (omega arith), old i (omega arith), new j (omega arith))
      ];
      open_here = λ j jn. elim (cases_lt j (length opened)) [
        | inl l ↦ opens_where commands _ _ _ _ (sym (old j l))
            (ap (end_from (length opened - j) here) d ∙ end_opener (length opened - j) here command tail opener
            ∙ ap (λ (k : ℕ). end_from k (suc here) tail) (let e : suc (length opened - j) ≡ length (opened ++ here ∷ []) - j = omega arith in e))
            (m.open_here j l)
        | inr g ↦ opens_where commands _ _ _ _ (sym (new j (omega arith)))
            (ap (λ (k : ℕ). end_from k (suc here) tail) (let e : 1 ≡ length (opened ++ here ∷ []) - j = omega arith in e))
            (opens commands here (end_from 1 (suc here) tail) command at opener (ap (end_from 0 here) d ∙ end_opener 0 here command tail opener))
      ];
      empty = λ place le. m.empty place (omega arith);
      others = λ place lt. elim (cases_eq place here) [
        | inl e ↦ inl (length opened, omega arith, new (length opened) refl ∙ sym e)
        | inr apart ↦ elim (m.others place (omega arith)) [
          | inl w ↦ inl (w.0, omega arith, old w.0 w.1 ∙ w.2)
          | inr t ↦ inr (later commands leads here place t)
        ]
      ];
    }

pub takes_closer : (commands : List Command) (here : ℕ) (command : Command) (rest : List ℕ) (opener : ℕ) (leads : List ℕ) (past : ℕ) → IsMatched commands here (rest ++ opener ∷ []) leads
    → slice_get commands here ≡ Some command → here < length commands → is_closer command ≡ true → past ≡ place_past_end (slice_get commands opener) opener here
    → IsMatched commands (suc here) rest (set (set leads opener (suc here)) here past)
takes_closer commands here command rest opener leads past m at within closer leads_past =
    let tail : List Command = drop (suc here) commands in
    let d = drop_here commands here command at within in
    let n = length_push rest opener in
    let old : (j : ℕ) → j < length rest → get_or (rest ++ opener ∷ []) j 0 ≡ get_or rest j 0 = λ j lt. get_or_append_left rest (opener ∷ []) 0 j lt in
    let top : get_or (rest ++ opener ∷ []) (length rest) 0 ≡ opener = get_or_push rest opener 0 (length rest) refl in
    let below : opener < here = omega (arith, m.below (length rest) (omega arith)) in
    let one : length (rest ++ opener ∷ []) - length rest ≡ 1 = omega arith in
    let here_opened : is_opened_at commands opener here ≡ true = opens_where commands _ _ _ _ top
    (ap (λ (k : ℕ). end_from k here (drop here commands)) one ∙ ap (end_from 1 here) d ∙ end_here here command tail closer)
    (m.open_here (length rest) (omega arith)) in
    let between : (k : ℕ) → opener < k → k < here → is_opened_at commands k here ≡ false = λ k above lt. elim (m.others k lt) [
      | inl w ↦ absurd (elim (cases_lt w.0 (length rest)) [
        | inl l ↦ omega (arith, m.rising w.0 (length rest) l (omega arith), w.2, top)
        | inr g ↦ let e : w.0 ≡ length rest = omega (arith, w.1) in omega (arith, ap (λ (i : ℕ). get_or (rest ++ opener ∷ []) i 0) e, w.2, top)
      ])
      | inr t ↦ t.ended here (omega arith)
    ] in
    let opener_is : matching_opener commands here here ≡ opener = opener_found commands opener here here below here_opened between in
    let size : length (set leads opener (suc here)) ≡ length leads = length-set leads opener (suc here) in
    record {
      len = length-set (set leads opener (suc here)) here past ∙ size ∙ m.len;
      nested = nested_closer (length rest) command tail closer (ap (λ (k : ℕ). is_nested k (command ∷ tail)) (let e : suc (length rest) ≡ length (rest ++ opener ∷ []) = omega arith in e) ∙ ap (is_nested (length (rest ++ opener ∷ []))) (sym d) ∙ m.nested);
      below = λ j lt. omega (arith, m.below j (omega arith), old j lt);
      rising = λ i j lt jn. omega (arith, m.rising i j lt (omega arith), old i (omega arith), old j jn);
      open_here = λ j jn. opens_where commands _ _ _ _ (old j jn)
          (ap (end_from (length (rest ++ opener ∷ []) - j) here) d
          ∙ ap (λ (k : ℕ). end_from k here (command ∷ tail)) (let e : length (rest ++ opener ∷ []) - j ≡ suc (suc (length rest - suc j)) = omega arith in e)
          ∙ end_closer (length rest - suc j) here command tail closer
          ∙ ap (λ (k : ℕ). end_from k (suc here) tail) (let e : suc (length rest - suc j) ≡ length rest - j = omega arith in e))
          (m.open_here j (omega arith));
      empty = λ place le. get_or-set_other (set leads opener (suc here)) here place past 0 (λ same. omega arith) ∙ get_or-set_other leads opener place (suc here) 0 (λ same. omega arith) ∙ m.empty place (omega arith);
      others = λ place lt. elim (cases_eq place here) [
        | inl e ↦ inr (subst (λ (k : ℕ). HasItsLead commands (set (set leads opener (suc here)) here past) (suc here) k) (sym e) (record {
          right = get_or-set_same (set leads opener (suc here)) here past 0 (omega (arith, m.len)) ∙ leads_past
              ∙ ap (λ (k : ℕ). place_past_end (slice_get commands k) k here) (sym opener_is)
              ∙ sym (lead_closer commands here command closer) ∙ ap (lead_of commands here) (sym at);
          ended = λ end le. opens_not commands here end command at (closer_opens_not command closer);
        }))
        | inr apart ↦ elim (cases_eq place opener) [
          | inl e ↦ inr (subst (λ (k : ℕ). HasItsLead commands (set (set leads opener (suc here)) here past) (suc here) k) (sym e) (record {
            right = get_or-set_other (set leads opener (suc here)) here opener past 0 (λ same. omega arith) ∙ get_or-set_same leads opener (suc here) 0 (omega (arith, m.len))
                ∙ sym (lead_opened commands opener here (slice_get commands opener) here_opened);
            ended = λ end le. opened_once commands opener here end here_opened (λ same. omega arith);
          }))
          | inr not_opener ↦ elim (m.others place (omega arith)) [
            | inl w ↦ inl (elim (cases_lt w.0 (length rest)) [
              | inl l ↦ (w.0, l, sym (old w.0 l) ∙ w.2)
              | inr g ↦ absurd (let e : w.0 ≡ length rest = omega (arith, w.1) in not_opener (sym w.2 ∙ ap (λ (i : ℕ). get_or (rest ++ opener ∷ []) i 0) e ∙ top))
            ])
            | inr t ↦ inr (record {
              right = get_or-set_other (set leads opener (suc here)) here place past 0 apart ∙ get_or-set_other leads opener place (suc here) 0 not_opener ∙ t.right;
              ended = λ end le. t.ended end (omega arith);
            })
          ]
        ]
      ];
    }

pub takes_other : (commands : List Command) (here : ℕ) (command : Command) (opened leads : List ℕ) → IsMatched commands here opened leads
    → slice_get commands here ≡ Some command → here < length commands → is_opener command ≡ false → is_closer command ≡ false
    → IsMatched commands (suc here) opened leads
takes_other commands here command opened leads m at within opener closer =
    let tail : List Command = drop (suc here) commands in
    let d = drop_here commands here command at within in
    record {
      len = m.len;
      nested = nested_other (length opened) command tail opener closer (ap (is_nested (length opened)) (sym d) ∙ m.nested);
      below = λ j lt. omega (arith, m.below j lt);
      rising = m.rising;
      open_here = λ j jn. opens_where commands _ _ _ _ refl
          (ap (end_from (length opened - j) here) d ∙ end_other (length opened - j) here command tail opener closer)
          (m.open_here j jn);
      empty = λ place le. m.empty place (omega arith);
      others = λ place lt. elim (cases_eq place here) [
        | inl e ↦ inr (subst (λ (k : ℕ). HasItsLead commands leads (suc here) k) (sym e) (record {
          right = m.empty here (omega arith) ∙ sym (lead_other commands here command opener closer) ∙ ap (lead_of commands here) (sym at);
          ended = λ end le. opens_not commands here end command at opener;
        }))
        | inr apart ↦ elim (m.others place (omega arith)) [ inl w ↦ inl w | inr t ↦ inr (later commands leads here place t) ]
      ];
    }
