-- Each call acts by the operation of its step.
use Rattle.std.proofs.Common.{◌≡◌, ℕ, ◌+◌, ◌-◌, ◌/◌, ◌^◌, ◌<◌, ⊎_elim, true, false, List, length, IsTrue, ◌≢◌, sym, refl, ap, ◌∙◌, arith}
use Rattle.atomic_table.specs.Table.{State, Me, Step as TableStep, Allows}
use Rattle.std.specs.Prelude.{bit_or, ◌==◌, ◌%◌}
use prog.Atomic.{either}
use Rattle.octet_state.specs.declared.act.Act.TheVariants.{Raise}
use Rattle.octet_state.specs.declared.phase.Phase.TheVariants.{Idle}
use Rattle.octet_state.specs.declared.phase.Due.TheVariants.{Nothing, Answer}
use Rattle.octet_state.specs.declared.act.Mode.{Mode}
use Rattle.octet_state.specs.declared.act.Mode.TheVariants.{Read, Write, Update}
use Rattle.octet_state.specs.declared.phase.Phase.{Phase}
use Rattle.octet_state.specs.declared.state_word.StateWord.TheVariants.{WrEx, ShInt}
use Rattle.octet_state.specs.Words.{packed_state, packed_status}
use Rattle.octet_state.specs.State.{status_place, object_place}
use Rattle.octet_state.specs.NextStep.{word_seen}
use Rattle.octet_state.specs.Steps.{Kind, ToGlance, ToAnswer, ToBlock, ToUnblock, ToAsk, ToLook, ToLoad, ToRead, ToWrite, ToBump, ToClaim, ToSettle, ToDraw, ToFence, ToRaise, ToShare, shown, target, mode_of, claiming, settling, is_safe_point}
use Rattle.octet_rule.specs.Views.{SeatView}
use Rattle.octet_rule.specs.Rule.{IsRuled, Acts, IsOperationOf, operation_on, state_place, cell_place}
use Rattle.octet_rule.specs.Conditions.{IsResting, AsksNext, HasAsked, MayLoad, MayPass, HoldsWord, decision, is_take, is_share, MaySettle, MayDraw, MayFence}
use Rattle.octet_rule.proofs.Kept.{Plays}
use Rattle.octet_rule.proofs.Allowed as allowed
use Rattle.octet_rule.proofs.Allowed.{holding, may_pass, may_settle}

-- a step that is taken by its own operation
acting : (holds : State (Unit {0}) SeatView → Type 0) (slots id : ℕ) (me : Me (Unit {0}) SeatView) (place : ℕ) (f : ℕ → ℕ) (k : Kind) (operation : TableStep (Unit {0})) → IsOperationOf k me.0 operation
    → Allows holds slots id me place f (Plays k me) → Allows holds slots id me place f (Acts k operation me)
acting holds slots id me place f k operation acts allows s ruled slotted seen small =
    let all = allows s ruled slotted seen small in
    (all.0, all.1, all.2, all.3, (all.4.0, all.4.1, acts))

-- and one that is told the word that it stores
storing : (holds : State (Unit {0}) SeatView → Type 0) (slots id : ℕ) (me : Me (Unit {0}) SeatView) (place : ℕ) (f : ℕ → ℕ) (k : Kind) (operation : TableStep (Unit {0})) (new : ℕ) → IsOperationOf k me.0 operation
    → Allows holds slots id me place f (λ word. Plays k me new) → Allows holds slots id me place f (λ word. Acts k operation me new)
storing holds slots id me place f k operation new acts allows s ruled slotted seen small =
    let all = allows s ruled slotted seen small in
    (all.0, all.1, all.2, all.3, (all.4.0, all.4.1, acts))

module _ (v : SeatView) (slots place : ℕ) where
  by_glance : place ≡ status_place v.number → IsOperationOf ToGlance v (operation_on slots place 0 0)
  by_glance at = record { place = at; first = refl; second = refl }

  by_answer : (new : ℕ) → place ≡ status_place v.number → new ≡ packed_status (shown false (length v.journal)) → IsOperationOf ToAnswer v (operation_on slots place new 0)
  by_answer new at is = record { place = at; first = is; second = refl }

  by_block : (new : ℕ) → place ≡ status_place v.number → new ≡ packed_status (shown true (length v.journal)) → IsOperationOf (ToBlock false) v (operation_on slots place new 0)
  by_block new at is = record { place = at; first = is; second = refl }

  by_unblock : (new : ℕ) → place ≡ status_place v.number → new ≡ packed_status (shown false (length v.journal)) → IsOperationOf ToUnblock v (operation_on slots place new 0)
  by_unblock new at is = record { place = at; first = is; second = refl }

  by_ask : (bit whom : ℕ) → place ≡ status_place whom → bit ≡ 2 ^ v.number → IsOperationOf (ToAsk (place / 8 - 1)) v (operation_on slots place bit 0)
  by_ask bit whom at is = record { place = omega (arith, at); first = is; second = refl }

  by_look : (whom : ℕ) → place ≡ status_place whom → IsOperationOf (ToLook (place / 8 - 1)) v (operation_on slots place 0 0)
  by_look whom at = record { place = omega (arith, at); first = refl; second = refl }

  by_load : (object : ℕ) (mode : Mode) → place ≡ state_place v object → IsOperationOf (ToLoad (place / 8 - (1 + v.threads)) mode) v (operation_on slots place 0 0)
  by_load object mode at = record { place = omega (arith, at); first = refl; second = refl }

  by_read : (object : ℕ) → MayPass object Read v.thread.phase → place ≡ cell_place v object → IsOperationOf ToRead v (operation_on slots place 0 0)
  by_read object may at = record { place = at ∙ ap (λ (p : Phase). cell_place v (target p)) (sym (may_pass object Read v.thread.phase may)); first = refl; second = refl }

  by_write : (object value : ℕ) → MayPass object Write v.thread.phase → place ≡ cell_place v object → IsOperationOf (ToWrite value) v (operation_on slots place value 0)
  by_write object value may at = record { place = at ∙ ap (λ (p : Phase). cell_place v (target p)) (sym (may_pass object Write v.thread.phase may)); first = refl; second = refl }

  by_bump : (object amount : ℕ) → MayPass object Update v.thread.phase → place ≡ cell_place v object → IsOperationOf (ToBump amount) v (operation_on slots place amount 0)
  by_bump object amount may at = record { place = at ∙ ap (λ (p : Phase). cell_place v (target p)) (sym (may_pass object Update v.thread.phase may)); first = refl; second = refl }

  by_claim : (old new object : ℕ) (mode : Mode) → HoldsWord object mode old v.thread.phase → place ≡ state_place v object → new ≡ packed_state (claiming v.number mode) → IsOperationOf ToClaim v (operation_on slots place old new)
  by_claim old new object mode holds at is = let want = holding object mode old v.thread.phase holds in record {
    place = at ∙ ap (λ (p : Phase). state_place v (target p)) (sym want.wants);
    first = want.is_word ∙ ap word_seen (sym want.wants);
    second = is ∙ ap (λ (p : Phase). packed_state (claiming v.number (mode_of p))) (sym want.wants);
  }

  by_raise : (old new object : ℕ) (mode : Mode) → HoldsWord object mode old v.thread.phase → place ≡ state_place v object → new ≡ packed_state (WrEx v.number) → IsOperationOf ToRaise v (operation_on slots place old new)
  by_raise old new object mode holds at is = let want = holding object mode old v.thread.phase holds in record {
    place = at ∙ ap (λ (p : Phase). state_place v (target p)) (sym want.wants);
    first = want.is_word ∙ ap word_seen (sym want.wants);
    second = is;
  }

  by_share : (old new object : ℕ) → HoldsWord object Read old v.thread.phase → place ≡ state_place v object → new ≡ packed_state (ShInt v.number) → IsOperationOf ToShare v (operation_on slots place old new)
  by_share old new object holds at is = let want = holding object Read old v.thread.phase holds in record {
    place = at ∙ ap (λ (p : Phase). state_place v (target p)) (sym want.wants);
    first = want.is_word ∙ ap word_seen (sym want.wants);
    second = is;
  }

  by_settle : (new object : ℕ) → MaySettle v.threads object v.thread.phase → place ≡ state_place v object → new ≡ packed_state (settling v.number (length v.journal) v.thread.phase) → IsOperationOf ToSettle v (operation_on slots place new 0)
  by_settle new object may at is = record {
    place = at ∙ ⊎_elim
        (λ claim. ap (λ (p : Phase). state_place v (target p)) (sym claim.3))
        (λ share. ap (λ (p : Phase). state_place v (target p)) (sym share.1))
        (may_settle v.threads object v.thread.phase may);
    first = is;
    second = refl;
  }

module _ (threads : ℕ) (starts : List ℕ) (slots id : ℕ) (me : Me (Unit {0}) SeatView) (live : me.0.is_live ≡ true) where
  at_state : (place object : ℕ) → me.0.threads ≡ threads → place ≡ object_place threads object → place ≡ state_place me.0 object
  at_state place object known is = is ∙ ap (λ (n : ℕ). object_place n object) (sym known)

  at_cell : (place object : ℕ) → me.0.threads ≡ threads → place ≡ object_place threads object + 1 → place ≡ cell_place me.0 object
  at_cell place object known is = is ∙ ap (λ (n : ℕ). object_place n object + 1) (sym known)

  pub glances : (place : ℕ) → me.0.thread.due ≢ Answer → IsTrue (is_safe_point me.0.thread.phase) → place ≡ status_place me.0.number
      → Allows (IsRuled threads starts) slots id me place (λ word. word) (Acts ToGlance (operation_on slots place 0 0) me)
  glances place due safe is =
      acting (IsRuled threads starts) slots id me place (λ word. word) ToGlance (operation_on slots place 0 0) (by_glance me.0 slots place is)
      (allowed.glances threads starts slots id me live place due safe is)

  pub answers : (place new : ℕ) → me.0.thread.due ≡ Answer → place ≡ status_place me.0.number → new ≡ packed_status (shown false (length me.0.journal))
      → Allows (IsRuled threads starts) slots id me place (λ word. new) (Acts ToAnswer (operation_on slots place new 0) me)
  answers place new due is stored =
      acting (IsRuled threads starts) slots id me place (λ word. new) ToAnswer (operation_on slots place new 0) (by_answer me.0 slots place new is stored)
      (allowed.answers threads starts slots id me live place new due is stored)

  pub blocks : (place new : ℕ) → me.0.thread.due ≡ Nothing → me.0.thread.phase ≡ Idle → place ≡ status_place me.0.number → new ≡ packed_status (shown true (length me.0.journal))
      → Allows (IsRuled threads starts) slots id me place (λ word. new) (Acts (ToBlock false) (operation_on slots place new 0) me)
  blocks place new due idle is stored =
      acting (IsRuled threads starts) slots id me place (λ word. new) (ToBlock false) (operation_on slots place new 0) (by_block me.0 slots place new is stored)
      (allowed.blocks threads starts slots id me live place new due idle is stored)

  pub unblocks : (place new : ℕ) → me.0.thread.due ≡ Nothing → IsResting me.0.thread.phase → place ≡ status_place me.0.number → new ≡ packed_status (shown false (length me.0.journal))
      → Allows (IsRuled threads starts) slots id me place (λ word. new) (Acts ToUnblock (operation_on slots place new 0) me)
  unblocks place new due rests is stored =
      acting (IsRuled threads starts) slots id me place (λ word. new) ToUnblock (operation_on slots place new 0) (by_unblock me.0 slots place new is stored)
      (allowed.unblocks threads starts slots id me live place new due rests is stored)

  pub asks : (place bit whom : ℕ) → me.0.thread.due ≡ Nothing → AsksNext me.0.threads me.0.number whom me.0.thread.phase → place ≡ status_place whom → bit ≡ 2 ^ me.0.number
      → Allows (IsRuled threads starts) slots id me place (λ word. bit_or word bit) (Acts (ToAsk (place / 8 - 1)) (operation_on slots place bit 0) me)
  asks place bit whom due next is stored =
      acting (IsRuled threads starts) slots id me place (λ word. bit_or word bit) (ToAsk (place / 8 - 1)) (operation_on slots place bit 0) (by_ask me.0 slots place bit whom is stored)
      (allowed.asks threads starts slots id me live place bit whom due next is stored)

  pub looks : (place whom : ℕ) → me.0.thread.due ≡ Nothing → HasAsked me.0.number whom me.0.thread.phase → place ≡ status_place whom
      → Allows (IsRuled threads starts) slots id me place (λ word. word) (Acts (ToLook (place / 8 - 1)) (operation_on slots place 0 0) me)
  looks place whom due next is =
      acting (IsRuled threads starts) slots id me place (λ word. word) (ToLook (place / 8 - 1)) (operation_on slots place 0 0) (by_look me.0 slots place whom is)
      (allowed.looks threads starts slots id me live place whom due next is)

  pub loads : (place object : ℕ) (mode : Mode) → me.0.thread.due ≡ Nothing → MayLoad object mode me.0.journal me.0.thread.phase → me.0.threads ≡ threads → object < length starts → place ≡ object_place threads object
      → Allows (IsRuled threads starts) slots id me place (λ word. word) (Acts (ToLoad (place / 8 - (1 + me.0.threads)) mode) (operation_on slots place 0 0) me)
  loads place object mode due may known there is =
      acting (IsRuled threads starts) slots id me place (λ word. word) (ToLoad (place / 8 - (1 + me.0.threads)) mode) (operation_on slots place 0 0) (by_load me.0 slots place object mode (at_state place object known is))
      (allowed.loads threads starts slots id me live place object mode due may known there is)

  pub reads : (place object : ℕ) → me.0.thread.due ≡ Nothing → MayPass object Read me.0.thread.phase → me.0.threads ≡ threads → place ≡ object_place threads object + 1
      → Allows (IsRuled threads starts) slots id me place (λ word. word) (Acts ToRead (operation_on slots place 0 0) me)
  reads place object due may known is =
      acting (IsRuled threads starts) slots id me place (λ word. word) ToRead (operation_on slots place 0 0) (by_read me.0 slots place object may (at_cell place object known is))
      (allowed.reads threads starts slots id me live place object due may is)

  pub writes : (place object value : ℕ) → me.0.thread.due ≡ Nothing → MayPass object Write me.0.thread.phase → me.0.threads ≡ threads → place ≡ object_place threads object + 1
      → Allows (IsRuled threads starts) slots id me place (λ word. value) (λ word. Acts (ToWrite value) (operation_on slots place value 0) me value)
  writes place object value due may known is =
      storing (IsRuled threads starts) slots id me place (λ word. value) (ToWrite value) (operation_on slots place value 0) value (by_write me.0 slots place object value may (at_cell place object known is))
      (allowed.writes threads starts slots id me live place object value due may is)

  pub bumps : (place object amount : ℕ) → me.0.thread.due ≡ Nothing → MayPass object Update me.0.thread.phase → me.0.threads ≡ threads → place ≡ object_place threads object + 1
      → Allows (IsRuled threads starts) slots id me place (λ word. (word + amount) % 2 ^ 64) (Acts (ToBump amount) (operation_on slots place amount 0) me)
  bumps place object amount due may known is =
      acting (IsRuled threads starts) slots id me place (λ word. (word + amount) % 2 ^ 64) (ToBump amount) (operation_on slots place amount 0) (by_bump me.0 slots place object amount may (at_cell place object known is))
      (allowed.bumps threads starts slots id me live place object amount due may is)

  pub claims : (place old new object : ℕ) (mode : Mode) → me.0.thread.due ≡ Nothing → HoldsWord object mode old me.0.thread.phase → IsTrue (is_take (decision me.0)) → me.0.threads ≡ threads → place ≡ object_place threads object → new ≡ packed_state (claiming me.0.number mode)
      → Allows (IsRuled threads starts) slots id me place (λ word. either (word == old) new word) (Acts ToClaim (operation_on slots place old new) me)
  claims place old new object mode due holds takes known is stored =
      acting (IsRuled threads starts) slots id me place (λ word. either (word == old) new word) ToClaim (operation_on slots place old new) (by_claim me.0 slots place old new object mode holds (at_state place object known is) stored)
      (allowed.claims threads starts slots id me live place old new object mode due holds takes is stored)

  pub settles : (place new object : ℕ) → me.0.thread.due ≡ Nothing → MaySettle me.0.threads object me.0.thread.phase → me.0.threads ≡ threads → place ≡ object_place threads object → new ≡ packed_state (settling me.0.number (length me.0.journal) me.0.thread.phase)
      → Allows (IsRuled threads starts) slots id me place (λ word. new) (λ word. Acts ToSettle (operation_on slots place new 0) me new)
  settles place new object due may known is stored =
      storing (IsRuled threads starts) slots id me place (λ word. new) ToSettle (operation_on slots place new 0) new (by_settle me.0 slots place new object may (at_state place object known is) stored)
      (allowed.settles threads starts slots id me live place new object due may is stored)

  pub draws : me.0.thread.due ≡ Nothing → MayDraw me.0.thread.phase → Allows (IsRuled threads starts) slots id me 0 (λ word. (word + 1) % 2 ^ 64) (Acts ToDraw (operation_on slots 0 1 0) me)
  draws due may =
      acting (IsRuled threads starts) slots id me 0 (λ word. (word + 1) % 2 ^ 64) ToDraw (operation_on slots 0 1 0) (record { place = refl; first = refl; second = refl }) (allowed.draws threads starts slots id me live due may)

  pub fences : me.0.thread.due ≡ Nothing → MayFence me.0.thread.phase → Allows (IsRuled threads starts) slots id me 0 (λ word. word) (Acts ToFence (operation_on slots 0 0 0) me)
  fences due may =
      acting (IsRuled threads starts) slots id me 0 (λ word. word) ToFence (operation_on slots 0 0 0) (record { place = refl; first = refl; second = refl }) (allowed.fences threads starts slots id me live due may)

  pub raises : (place old new object : ℕ) (mode : Mode) → me.0.thread.due ≡ Nothing → HoldsWord object mode old me.0.thread.phase → decision me.0 ≡ Raise → me.0.threads ≡ threads → place ≡ object_place threads object → new ≡ packed_state (WrEx me.0.number)
      → Allows (IsRuled threads starts) slots id me place (λ word. either (word == old) new word) (Acts ToRaise (operation_on slots place old new) me)
  raises place old new object mode due holds says known is stored =
      acting (IsRuled threads starts) slots id me place (λ word. either (word == old) new word) ToRaise (operation_on slots place old new) (by_raise me.0 slots place old new object mode holds (at_state place object known is) stored)
      (allowed.raises threads starts slots id me live place old new object mode due holds says is stored)

  pub shares : (place old new object : ℕ) → me.0.thread.due ≡ Nothing → HoldsWord object Read old me.0.thread.phase → IsTrue (is_share (decision me.0)) → me.0.threads ≡ threads → place ≡ object_place threads object → new ≡ packed_state (ShInt me.0.number)
      → Allows (IsRuled threads starts) slots id me place (λ word. either (word == old) new word) (Acts ToShare (operation_on slots place old new) me)
  shares place old new object due holds says known is stored =
      acting (IsRuled threads starts) slots id me place (λ word. either (word == old) new word) ToShare (operation_on slots place old new) (by_share me.0 slots place old new object holds (at_state place object known is) stored)
      (allowed.shares threads starts slots id me live place old new object due holds says is stored)
