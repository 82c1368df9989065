-- Each turn keeps the machine running.
use Rattle.std.proofs.Common.{◌≡◌, ◌≢◌, ℕ, suc, ◌<◌, ◌≤◌, ◌⊎◌, inl, inr, Bool, true, false, ◌==◌, ◌||◌, IsTrue, List, [], ◌∷◌, ◌++◌, length, get_or, slice_set, Option, Some, None, refl, sym, ap, ◌∙◌, subst, arith, length-set, get_or-set_same, get_or-set_other}
use Rattle.std.proofs.lemmas.Bool.{cases_eq, cases_lt, eqb-true, eq-eqb}
use Rattle.octet_model.specs.declared.event.Event.{Event}
use Rattle.octet_model.specs.declared.event.Event.TheVariants as event
use Rattle.octet_model.specs.declared.outcome.End.{End}
use Rattle.octet_model.specs.Machine.{journal_of}
use Rattle.octet_model.specs.Thread.{added}
use Rattle.octet_model.specs.Journals.{access_count}
use Rattle.octet_interp.specs.declared.demand.Demand.{Demand}
use Rattle.octet_interp.specs.declared.demand.Demand.TheVariants as demand
use Rattle.octet_interp.specs.Demands.{ThreadState, next_demand, after_demand, given}
use Rattle.octet_state.specs.declared.state_word.StateWord.{StateWord}
use Rattle.octet_state.specs.declared.act.Mode.{Mode}
use Rattle.octet_state.specs.declared.act.Mode.TheVariants.{Read, Write, Update}
use Rattle.octet_state.specs.declared.act.Act.{Act}
use Rattle.octet_state.specs.declared.act.Act.TheVariants as act
use Rattle.octet_state.specs.declared.phase.Phase.{Phase}
use Rattle.octet_state.specs.declared.phase.Phase.TheVariants.{Off, Idle, Want, Pass, FenceDue, Claimed, Sharing, Blocked}
use Rattle.octet_state.specs.declared.phase.Due.{Due}
use Rattle.octet_state.specs.declared.phase.Due.TheVariants.{Nothing, Glance, Answer}
use Rattle.octet_state.specs.Words.{unpacked_state, unpacked_status, packed_state}
use Rattle.octet_state.specs.Table.{decided}
use Rattle.octet_state.specs.State.{Thread, ProtocolState, thread_of, now}
use Rattle.octet_state.specs.Asking.{whom_to_ask, number_to_ask, next_to_ask, answers}
use Rattle.octet_state.specs.Steps.{Kind, ToGlance, ToAnswer, ToBlock, ToUnblock, ToAsk, ToLook, ToLoad, ToRead, ToWrite, ToBump, ToClaim, ToSettle, ToDraw, ToFence, ToRaise, ToShare, step, told, after, made, ended_by, target, settling, owning, wins, claimed, passing, lost, one_done, one_asked, joined_by_share, state_in, is_safe_point, most_accesses, May}
use Rattle.octet_state.specs.NextStep.{kind_by_due, exchange_of, pursuit_of}
use Rattle.octet_state.specs.Form.{is_nothing, is_exchange, HoldsPhase}
use Rattle.octet_state.specs.Laws.{IsLawful, Stands}
use Rattle.octet_state.proofs.lemmas.Laws.{glance_is_lawful}
use Rattle.octet_state.proofs.lemmas.Laws.{answer_is_lawful, block_is_lawful, unblock_is_lawful}
use Rattle.octet_state.proofs.lemmas.Laws.{ask_is_lawful}
use Rattle.octet_state.proofs.lemmas.Laws.{look_is_lawful}
use Rattle.octet_state.proofs.lemmas.Laws.{load_is_lawful}
use Rattle.octet_state.proofs.lemmas.Laws.{read_is_lawful, write_is_lawful, bump_is_lawful}
use Rattle.octet_state.proofs.lemmas.Laws.{claim_is_lawful}
use Rattle.octet_state.proofs.lemmas.Laws.{settle_of_claim_is_lawful}
use Rattle.octet_state.proofs.lemmas.Laws.{settle_of_share_is_lawful}
use Rattle.octet_state.proofs.lemmas.Laws.{draw_is_lawful}
use Rattle.octet_state.proofs.lemmas.Laws.{fence_is_lawful}
use Rattle.octet_state.proofs.lemmas.Laws.{raise_is_lawful}
use Rattle.octet_state.proofs.lemmas.Laws.{share_is_lawful}
use Rattle.octet_machine.specs.declared.run.Runner.{Runner}
use Rattle.octet_machine.specs.Machine.{MachineState, runner_of, no_runner, kind_of_demand, next_kind, after_step, state_of_turn, taken_up}
use Rattle.octet_machine.specs.Running.{IsAt, StandsBy, KeepsUp, IsRunning, demand_for, demand_in}
use Rattle.octet_machine.specs.Laws.{TurnsKeepRunning, NextStepsMayBeTaken}
use Rattle.octet_machine.proofs.next_steps.ByPhase.{kind_here, ends_by, kind_is, after_is}
use Rattle.octet_machine.proofs.running.Journals.{IsMarking, marked, past_safe, past_pause, at_end, wants, past_read, past_write, past_bump, leaves_fuel, names_object, NamesObject}
use Rattle.octet_model.proofs.lemmas.Validity.{valid_script}
use Rattle.octet_machine.proofs.next_steps.SameDemand.{AboutSame, done_same, asked_same, lost_same, either_same, either_marks, share_marks, serves_reads, only_reads, load_same}

module _ (m : MachineState) (me : ℕ) (r : IsRunning m) (there : me < length m.runners) (alive : (runner_of m me).end ≡ None) where
  abbrev s : ProtocolState
  s = m.protocol

  abbrev X : Thread
  X = thread_of m.protocol me

  abbrev J : List Event
  J = journal_of m.protocol.journals me

  abbrev R : Runner
  R = runner_of m me

  -- the thread may take the step, and the machine runs on after it
  abbrev Goes : Kind → MachineState → Type 0
  Goes k after = May k me m.protocol × IsRunning after

  inside : me < length m.protocol.threads
  inside = let a = r.runners in omega arith

  -- after a lawful step with which the journal keeps up
  module _ (k : Kind) (place : ℕ) (operation : ℕ → ℕ) (law : IsLawful k me place operation m.protocol) (R' : Runner)
      (keeps : KeepsUp m.script me (ended_by J (made k me (told k me m.protocol) X)) (after k me (told k me m.protocol) X).phase R'.value R'.end R'.config) where
    abbrev s' : ProtocolState
    s' = step k me m.protocol

    abbrev runs : List Runner
    runs = slice_set m.runners me R'

    abbrev Keeps : ℕ → List Event → Phase → Runner → Type 0
    Keeps t j p x = KeepsUp m.script t j p x.value x.end x.config

    mine : Keeps me (journal_of s'.journals me) (thread_of s' me).phase (get_or runs me no_runner)
    mine =
        subst (λ (x : Runner). Keeps me (journal_of s'.journals me) (thread_of s' me).phase x) (sym (get_or-set_same m.runners me R' no_runner there))
        (subst (λ (y : Thread). Keeps me (journal_of s'.journals me) y.phase R') (sym law.does.mine)
        (subst (λ (j : List Event). Keeps me j (after k me (told k me m.protocol) X).phase R') (sym law.does.my_journal) keeps))

    theirs : (t : ℕ) → t ≢ me → t < length m.runners → Keeps t (journal_of s'.journals t) (thread_of s' t).phase (get_or runs t no_runner)
    theirs t other lt =
        subst (λ (x : Runner). Keeps t (journal_of s'.journals t) (thread_of s' t).phase x) (sym (get_or-set_other m.runners me t R' no_runner other))
        (subst (λ (y : Thread). Keeps t (journal_of s'.journals t) y.phase (runner_of m t)) (sym (law.does.others t other))
        (subst (λ (j : List Event). Keeps t j (thread_of m.protocol t).phase (runner_of m t)) (sym (law.does.their_journals t other)) (r.keeps_up t lt)))

    still_runs : IsRunning (record { protocol = s'; runners = runs; script = m.script })
    still_runs = record {
      sound = law.sound;
      starts = law.does.starts ∙ r.starts;
      threads = law.does.threads ∙ r.threads;
      runners = length-set m.runners me R' ∙ r.runners ∙ sym law.does.threads;
      cells = law.does.cells ∙ r.cells;
      keeps_up = λ t lt. elim (cases_eq t me) [
        | inl same ↦ subst (λ (u : ℕ). Keeps u (journal_of s'.journals u) (thread_of s' u).phase (get_or runs u no_runner)) (sym same) mine
        | inr other ↦ theirs t other (omega (arith, length-set m.runners me R'))
      ];
    }

    runs_on : Goes k (record { protocol = s'; runners = runs; script = m.script })
    runs_on = (law.may, still_runs)

  -- as its journal leaves it now
  by_now : StandsBy m.script me J (demand_in X.phase R.value) R.config
  by_now = subst (λ (e : Option End). KeepsUp m.script me J X.phase R.value e R.config) alive (r.keeps_up me there)

  going : (j : List Event) (p : Phase) (value : ℕ) (at : ThreadState) → StandsBy m.script me j (demand_in p value) at → KeepsUp m.script me j p value R.end at
  going j p value at by = subst (λ (e : Option End). KeepsUp m.script me j p value e at) (sym alive) by

  -- a step on the way makes a mark or none, and stays about the same demand
  on_the_way : (k : Kind) (place : ℕ) (operation : ℕ → ℕ) → IsLawful k me place operation m.protocol → IsMarking (made k me (told k me m.protocol) X) → AboutSame (after k me (told k me m.protocol) X).phase X.phase R.value
      → Goes k (record { protocol = step k me m.protocol; runners = slice_set m.runners me R; script = m.script })
  on_the_way k place operation law marks same =
      runs_on k place operation law R
      (going (ended_by J (made k me (told k me m.protocol) X)) (after k me (told k me m.protocol) X).phase R.value R.config
      (subst (λ (d : Option Demand). StandsBy m.script me (ended_by J (made k me (told k me m.protocol) X)) d R.config) (sym same)
      (marked m.script me J R.config (demand_in X.phase R.value) (made k me (told k me m.protocol) X) marks by_now)))

  abbrev Same : Phase → Type 0
  Same p = AboutSame p X.phase R.value

  -- by another phase that X.phase is
  about : (p : Phase) (f : Phase → Phase) → X.phase ≡ p → AboutSame (f p) p R.value → Same (f X.phase)
  about p f phase same = subst (λ (q : Phase). AboutSame (f q) q R.value) (sym phase) same

  holds : (p : Phase) → X.phase ≡ p → HoldsPhase (length m.protocol.threads) (length m.protocol.cells) me X.count p
  holds p phase = subst (λ (q : Phase). HoldsPhase (length m.protocol.threads) (length m.protocol.cells) me X.count q) phase (r.sound.form.phases me)

  -- what it is about, in this phase
  by_phase : (p : Phase) → X.phase ≡ p → StandsBy m.script me J (demand_in p R.value) R.config
  by_phase p phase = subst (λ (q : Phase). StandsBy m.script me J (demand_in q R.value) R.config) phase by_now

  -- safe points, where a step has waited
  on_glance : (p : Phase) → X.due ≡ Glance → X.phase ≡ p → Goes ToGlance (ends_by m me ToGlance Glance p)
  on_glance p due phase =
      on_the_way ToGlance _ _ (glance_is_lawful s me _ r.sound inside (λ is. let never : Glance ≡ Answer = sym due ∙ is in cc (never)) (safe X.due X.phase due (r.sound.form.dues me)) refl) tt refl
    where
      safe : (d : Due) (q : Phase) → d ≡ Glance → IsTrue (is_nothing d || is_safe_point q) → IsTrue (is_safe_point q)
      safe Nothing q is h = absurd (cc (is))
      safe Glance q is h = h
      safe Answer q is h = h

  on_answer : (p : Phase) → X.due ≡ Answer → X.phase ≡ p → Goes ToAnswer (ends_by m me ToAnswer Answer p)
  on_answer p due phase = on_the_way ToAnswer _ _ (answer_is_lawful s me _ _ r.sound inside due refl refl) tt refl

  on_unblock : (p : Phase) → X.due ≡ Nothing → (X.phase ≡ p) → Stands s me Off ⊎ Stands s me Blocked → demand_in p R.value ≡ None → Goes ToUnblock (record { protocol = step ToUnblock me m.protocol; runners = slice_set m.runners me R; script = m.script })
  on_unblock p due phase stands none =
      on_the_way ToUnblock _ _ (unblock_is_lawful s me _ _ r.sound inside stands refl refl) tt (sym (ap (λ (q : Phase). demand_in q R.value) phase ∙ none))

  -- a rest between two demands
  pub rest_keeps : X.due ≡ Nothing → X.phase ≡ Idle → IsRunning (record { protocol = step (ToBlock false) me m.protocol; runners = slice_set m.runners me R; script = m.script })
  rest_keeps due phase =
      (on_the_way (ToBlock false) _ _ (block_is_lawful s me _ _ false r.sound inside (due, phase) refl refl) tt (sym (ap (λ (q : Phase). demand_in q R.value) phase))).1

  -- loads
  fence_only_reads : (o : ℕ) (mode : Mode) → decided (state_in (unpacked_state (told (ToLoad o mode) me s))) me mode X.count ≡ act.Fence → mode ≡ Read
  fence_only_reads o mode is = only_reads (state_in (unpacked_state (told (ToLoad o mode) me s))) me mode X.count (ap serves_reads is)

  on_load : (o : ℕ) (mode : Mode) → X.due ≡ Nothing → X.phase ≡ Want o mode None → Goes (ToLoad o mode) (ends_by m me (ToLoad o mode) Nothing (Want o mode None))
  on_load o mode due phase =
      let h = holds (Want o mode None) phase in
      on_the_way (ToLoad o mode) _ _ (load_is_lawful s me _ o mode r.sound inside h (inr (None, (due, phase))) refl) tt
      (load_same (decided (state_in (unpacked_state (told (ToLoad o mode) me s))) me mode X.count) o mode (state_in (unpacked_state (told (ToLoad o mode) me s))) X R.value (fence_only_reads o mode)
      ∙ sym (ap (λ (q : Phase). demand_in q R.value) phase))

  -- exchanges
  on_exchange : (o : ℕ) (mode : Mode) (seen : StateWord) → X.due ≡ Nothing → X.phase ≡ Want o mode (Some seen)
      → Goes (exchange_of (decided seen me mode X.count)) (ends_by m me (exchange_of (decided seen me mode X.count)) Nothing (Want o mode (Some seen)))
  on_exchange o mode seen due phase = go (decided seen me mode X.count) refl (holds (Want o mode (Some seen)) phase).2
    where
      go : (a : Act) → decided seen me mode X.count ≡ a → IsTrue (is_exchange a) → Goes (exchange_of a) (ends_by m me (exchange_of a) Nothing (Want o mode (Some seen)))
      go (act.Take whom) is ok =
          on_the_way ToClaim _ _ (claim_is_lawful s me _ _ _ o mode seen whom r.sound inside (due, phase) is refl refl refl) tt
          (either_same (wins (told ToClaim me s) X.phase) (claimed X.phase) (lost X.phase) X.phase Nothing Glance X R.value (about (Want o mode (Some seen)) claimed phase refl) (lost_same X.phase R.value))
      go act.Raise is ok =
          on_the_way ToRaise _ _ (raise_is_lawful s me _ _ _ o mode seen r.sound inside (due, phase) is refl refl refl) tt
          (either_same (wins (told ToRaise me s) X.phase) (passing X.phase) (lost X.phase) X.phase Nothing Glance X R.value (about (Want o mode (Some seen)) passing phase refl) (lost_same X.phase R.value))
      go (act.Share from upto) is ok =
          let reads = only_reads seen me mode X.count (ap serves_reads is) in
          on_the_way ToShare _ _ (share_is_lawful s me _ _ _ o mode seen from upto r.sound inside (due, phase) is refl refl refl)
          (either_marks (wins (told ToShare me s) X.phase) (joined_by_share X.phase) (share_marks X.phase))
          (either_same (wins (told ToShare me s) X.phase) (Sharing (target X.phase) None) (lost X.phase) X.phase Nothing Glance X R.value
          (about (Want o mode (Some seen)) (λ (q : Phase). Sharing (target q) None) phase (sym (ap (λ (n : Mode). Some (demand_for o n R.value)) reads))) (lost_same X.phase R.value))
      go act.Pass is ok = absurd (cc (ok))
      go act.Fence is ok = absurd (cc (ok))
      go (act.Held by) is ok = absurd (cc (ok))

  -- accesses
  on_read : (o : ℕ) → X.due ≡ Nothing → X.phase ≡ Pass o Read → Goes ToRead (ends_by m me ToRead Nothing (Pass o Read))
  on_read o due phase =
      let by = by_phase (Pass o Read) phase in
      let word = told ToRead me s in
      runs_on ToRead _ _ (read_is_lawful s me _ o r.sound inside (due, phase) refl) (record { config = given R.config word; value = R.value; end = R.end })
      (going (J ++ event.Read (target X.phase) word ∷ []) Idle R.value (given R.config word)
      (subst (λ (t : ℕ). IsAt m.script me (J ++ event.Read t word ∷ []) (given R.config word)) (sym (ap target phase))
      (subst (λ (st : ThreadState). IsAt m.script me (J ++ event.Read o word ∷ []) (given st word)) (sym by.stands) (past_read m.script me J by.before by.at o word by.tells))))

  -- past an access that gives the thread no value, with its event
  past_change : (o : ℕ) (mode : Mode) (e : ℕ → Event) → X.phase ≡ Pass o mode
      → ((st : ThreadState) → IsAt m.script me J st → next_demand st ≡ demand_for o mode R.value → IsAt m.script me (J ++ e o ∷ []) (after_demand st))
      → KeepsUp m.script me (J ++ e (target X.phase) ∷ []) Idle R.value R.end R.config
  past_change o mode e phase past =
      let by = by_phase (Pass o mode) phase in
      going (J ++ e (target X.phase) ∷ []) Idle R.value R.config
      (subst (λ (t : ℕ). IsAt m.script me (J ++ e t ∷ []) R.config) (sym (ap target phase))
      (subst (λ (st : ThreadState). IsAt m.script me (J ++ e o ∷ []) st) (sym by.stands) (past by.before by.at by.tells)))

  on_write : (o : ℕ) → X.due ≡ Nothing → X.phase ≡ Pass o Write → Goes (ToWrite R.value) (ends_by m me (ToWrite R.value) Nothing (Pass o Write))
  on_write o due phase =
      runs_on (ToWrite R.value) _ _ (write_is_lawful s me _ o R.value r.sound inside (due, phase) refl) R
      (past_change o Write (λ (t : ℕ). event.Write t R.value) phase (λ st at. past_write m.script me J st at o R.value))

  on_bump : (o : ℕ) → X.due ≡ Nothing → X.phase ≡ Pass o Update → Goes (ToBump R.value) (ends_by m me (ToBump R.value) Nothing (Pass o Update))
  on_bump o due phase =
      let before = told (ToBump R.value) me s in
      runs_on (ToBump R.value) _ _ (bump_is_lawful s me _ o R.value r.sound inside (due, phase) refl) R
      (past_change o Update (λ (t : ℕ). event.Update t before (added R.value before)) phase (λ st at. past_bump m.script me J st at o R.value before))

  on_fence : (o n : ℕ) → X.due ≡ Nothing → X.phase ≡ FenceDue o n → Goes ToFence (ends_by m me ToFence Nothing (FenceDue o n))
  on_fence o n due phase = on_the_way ToFence _ _ (fence_is_lawful s me _ o n r.sound inside (due, phase) refl) tt (about (FenceDue o n) passing phase refl)

  -- claims
  abbrev all_of : StateWord → ℕ
  all_of prior = number_to_ask (whom_to_ask prior) (length m.protocol.threads)

  abbrev next_of : StateWord → ℕ → ℕ
  next_of prior done = next_to_ask (whom_to_ask prior) me done

  on_claim : (o : ℕ) (mode : Mode) (prior : StateWord) (done : ℕ) (asked : Bool) → X.due ≡ Nothing → X.phase ≡ Claimed o mode prior done asked
      → Goes (pursuit_of (done == number_to_ask (whom_to_ask prior) (length m.protocol.threads)) asked (next_to_ask (whom_to_ask prior) me done)) (ends_by m me (pursuit_of (done == number_to_ask (whom_to_ask prior) (length m.protocol.threads)) asked (next_to_ask (whom_to_ask prior) me done)) Nothing (Claimed o mode prior done asked))
  on_claim o mode prior done asked due phase = go (done == all_of prior) refl asked refl
    where
      go : (b : Bool) → (done == all_of prior) ≡ b → (a : Bool) → asked ≡ a → Goes (pursuit_of b a (next_of prior done)) (ends_by m me (pursuit_of b a (next_of prior done)) Nothing (Claimed o mode prior done asked))
      go true all a is =
          let full : X.phase ≡ Claimed o mode prior (all_of prior) asked = phase ∙ ap (λ (n : ℕ). Claimed o mode prior n asked) (eqb-true done (all_of prior) all) in
          on_the_way ToSettle _ _ (settle_of_claim_is_lawful s me _ _ o mode prior asked r.sound inside (due, full) refl (settles full)) tt (about (Claimed o mode prior done asked) passing phase refl)
        where
          settles : X.phase ≡ Claimed o mode prior (all_of prior) asked → packed_state (settling me (now s me) X.phase) ≡ packed_state (owning me (now s me) mode)
          settles full = ap (λ (q : Phase). packed_state (settling me (now s me) q)) full
      go false unfull true is =
          let p : X.phase ≡ Claimed o mode prior done true = phase ∙ ap (λ (b : Bool). Claimed o mode prior done b) is in
          let b = answers (unpacked_status (told (ToLook (next_of prior done)) me s)) me in
          on_the_way (ToLook (next_of prior done)) _ _ (look_is_lawful s me _ (next_of prior done) o mode prior done r.sound inside (due, p) refl refl) (either_marks b _ tt)
          (either_same b (one_done X.phase) X.phase X.phase Nothing Glance X R.value (done_same X.phase R.value) refl)
      go false unfull false is =
          let p : X.phase ≡ Claimed o mode prior done false = phase ∙ ap (λ (b : Bool). Claimed o mode prior done b) is in
          let b = (unpacked_status (told (ToAsk (next_of prior done)) me s)).blocked in
          let h = (holds (Claimed o mode prior done asked) phase).2 in
          let less : done < all_of prior = below done (all_of prior) h unfull in
          on_the_way (ToAsk (next_of prior done)) _ _ (ask_is_lawful s me _ _ (next_of prior done) o mode prior done r.sound inside (due, p) less refl refl refl) (either_marks b _ tt)
          (either_same b (one_done X.phase) (one_asked X.phase) X.phase Nothing Glance X R.value (done_same X.phase R.value) (asked_same X.phase R.value))
        where
          below : (a b : ℕ) → a ≤ b → (a == b) ≡ false → a < b
          below a b le differ = elim (cases_lt a b) [
            | inl lt ↦ lt
            | inr ge ↦ absurd (let same : a ≡ b = omega arith in let equal = eq-eqb a b same in cc (equal, differ))
          ]

  on_draw : (o : ℕ) → X.due ≡ Nothing → X.phase ≡ Sharing o None → Goes ToDraw (ends_by m me ToDraw Nothing (Sharing o None))
  on_draw o due phase =
      on_the_way ToDraw _ _ (draw_is_lawful s me _ o r.sound inside (due, phase) refl) tt
      (about (Sharing o None) (λ (q : Phase). Sharing (target q) (Some (suc (told ToDraw me s)))) phase refl)

  on_share : (o n : ℕ) → X.due ≡ Nothing → X.phase ≡ Sharing o (Some n) → Goes ToSettle (ends_by m me ToSettle Nothing (Sharing o (Some n)))
  on_share o n due phase =
      on_the_way ToSettle _ _ (settle_of_share_is_lawful s me _ _ o n r.sound inside (due, phase) refl (ap (λ (q : Phase). packed_state (settling me (now s me) q)) phase)) tt (about (Sharing o (Some n)) passing phase refl)

  -- the first step of a demand
  on_demand : X.due ≡ Nothing → X.phase ≡ Idle → Goes (kind_here m me Idle) (ends_by m me (kind_here m me Idle) Nothing Idle)
  on_demand due phase = go (next_demand R.config) refl
    where
      at : IsAt m.script me J R.config
      at = by_phase Idle phase

      named : NamesObject (length m.script.objects) (next_demand R.config)
      named = names_object m.script me J R.config at (let a = r.threads in omega (arith, inside))

      few : (o : ℕ) (mode : Mode) (value : ℕ) → next_demand R.config ≡ demand_for o mode value → access_count J < most_accesses
      few o mode value is =
          let a = leaves_fuel m.script me J R.config at o mode value is in
          let b = (valid_script m.script.fuel m.script.objects m.script.threads m.script.valid).most_fuel in
          omega arith

      load : (o : ℕ) (mode : Mode) (value : ℕ) → next_demand R.config ≡ demand_for o mode value → o < length m.script.objects
          → Goes (ToLoad o mode) (record { protocol = step (ToLoad o mode) me m.protocol; runners = slice_set m.runners me (record { config = after_demand R.config; value = value; end = R.end }); script = m.script })
      load o mode value is lies =
          let p = (after (ToLoad o mode) me (told (ToLoad o mode) me s) X).phase in
          let cells = r.cells in
          runs_on (ToLoad o mode) _ _ (load_is_lawful s me _ o mode r.sound inside (omega arith) (inl ((due, phase), few o mode value is)) refl) (record { config = after_demand R.config; value = value; end = R.end })
          (going J p value (after_demand R.config)
          (subst (λ (d : Option Demand). StandsBy m.script me J d (after_demand R.config))
          (sym (load_same (decided (state_in (unpacked_state (told (ToLoad o mode) me s))) me mode X.count) o mode (state_in (unpacked_state (told (ToLoad o mode) me s))) X value (fence_only_reads o mode)))
          (wants m.script me J R.config at (demand_for o mode value) is)))

      go : (d : Demand) → next_demand R.config ≡ d → Goes (kind_of_demand d) (record { protocol = step (kind_of_demand d) me m.protocol; runners = slice_set m.runners me (taken_up d R); script = m.script })
      go (demand.Read o) is = load o Read R.value is (subst (NamesObject (length m.script.objects)) is named)
      go (demand.Write o value) is = load o Write value is (subst (NamesObject (length m.script.objects)) is named)
      go (demand.Bump o amount) is = load o Update amount is (subst (NamesObject (length m.script.objects)) is named)
      go demand.Safe is =
          runs_on ToGlance _ _ (glance_is_lawful s me _ r.sound inside (λ answer. let never : Nothing ≡ Answer = sym due ∙ answer in cc (never)) (subst (λ (q : Phase). IsTrue (is_safe_point q)) (sym phase) refl) refl)
          (record { config = after_demand R.config; value = R.value; end = R.end })
          (going J X.phase R.value (after_demand R.config) (subst (λ (q : Phase). StandsBy m.script me J (demand_in q R.value) (after_demand R.config)) (sym phase) (past_safe m.script me J R.config at is)))
      go demand.Pause is =
          runs_on (ToBlock false) _ _ (block_is_lawful s me _ _ false r.sound inside (due, phase) refl refl) (record { config = after_demand R.config; value = R.value; end = R.end })
          (going J Blocked R.value (after_demand R.config) (past_pause m.script me J R.config at is))
      go (demand.Ended end) is =
          runs_on (ToBlock true) _ _ (block_is_lawful s me _ _ true r.sound inside (due, phase) refl refl) (record { config = after_demand R.config; value = R.value; end = Some end })
          (refl, at_end m.script me J R.config at end is)

  -- the step that is next, in each phase
  on_phase : (p : Phase) → X.due ≡ Nothing → X.phase ≡ p → Goes (kind_here m me p) (ends_by m me (kind_here m me p) Nothing p)
  on_phase Off due phase = on_unblock Off due phase (inl (due, phase)) refl
  on_phase Blocked due phase = on_unblock Blocked due phase (inr (due, phase)) refl
  on_phase Idle due phase = on_demand due phase
  on_phase (Want o mode None) due phase = on_load o mode due phase
  on_phase (Want o mode (Some seen)) due phase = on_exchange o mode seen due phase
  on_phase (Pass o Read) due phase = on_read o due phase
  on_phase (Pass o Write) due phase = on_write o due phase
  on_phase (Pass o Update) due phase = on_bump o due phase
  on_phase (FenceDue o n) due phase = on_fence o n due phase
  on_phase (Claimed o mode prior done asked) due phase = on_claim o mode prior done asked due phase
  on_phase (Sharing o None) due phase = on_draw o due phase
  on_phase (Sharing o (Some n)) due phase = on_share o n due phase

  on_due : (d : Due) (p : Phase) → X.due ≡ d → X.phase ≡ p → Goes (kind_by_due d (kind_here m me p)) (ends_by m me (kind_by_due d (kind_here m me p)) d p)
  on_due Nothing p due phase = on_phase p due phase
  on_due Glance p due phase = on_glance p due phase
  on_due Answer p due phase = on_answer p due phase

  pub step_keeps : IsRunning (after_step m me)
  step_keeps = subst IsRunning (sym (after_is m me X.due X.phase refl refl)) (on_due X.due X.phase refl refl).1

  pub step_may : May (next_kind m me) me m.protocol
  step_may = subst (λ (k : Kind). May k me m.protocol) (sym (kind_is m me X.due X.phase refl refl)) (on_due X.due X.phase refl refl).0

pub next_steps_may : NextStepsMayBeTaken
next_steps_may m me r there alive = step_may m me r there alive

pub turns_keep : TurnsKeepRunning
turns_keep m me r there = go (runner_of m me).end refl
  where
    go : (e : Option End) → (runner_of m me).end ≡ e → IsRunning (state_of_turn e m (after_step m me))
    go None is = step_keeps m me r there is
    go (Some end) is = r
