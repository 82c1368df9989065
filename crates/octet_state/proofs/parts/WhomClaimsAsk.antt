-- Whom a claim asks next, and with whom it is done then.
use Rattle.std.proofs.Common.{◌≡◌, ◌≢◌, ℕ, suc, ◌<◌, ◌≤◌, inl, inr, Bool, true, false, ◌&&◌, sym, refl, ap, ◌∙◌, arith}
use Rattle.std.specs.Prelude.{◌==◌, nat_lt, not, if◌then◌else◌}
use Rattle.std.proofs.lemmas.Bool.{cases_eq, cases_lt, and_from, and_left, and_right, eq-eqb, ne_eqb, eqb-false, lt-ltb, le-ltb, ltb-true, ltb-false}
use Rattle.octet_state.specs.declared.state_word.StateWord.{StateWord}
use Rattle.octet_state.specs.declared.state_word.StateWord.TheVariants.{WrEx, RdEx, RdSh, WrInt, RdInt, ShInt}
use Rattle.octet_state.specs.declared.act.Mode.{Mode}
use Rattle.octet_state.specs.declared.act.Mode.TheVariants.{Read}
use Rattle.octet_state.specs.declared.act.Whom.{Whom}
use Rattle.octet_state.specs.declared.act.Whom.TheVariants.{One, All}
use Rattle.octet_state.specs.declared.act.Act.TheVariants.{Pass, Raise, Share, Take}
use Rattle.octet_state.specs.declared.phase.Phase.TheVariants.{Pass}
use Rattle.octet_state.specs.Table.{decided}
use Rattle.octet_state.specs.Asking.{whom_to_ask, number_to_ask, next_to_ask, is_done}
use Rattle.octet_state.specs.Positions.{NamesThread}

-- the next of all others is another
next_of_all_apart : (me done : ℕ) → next_to_ask All me done ≢ me
next_of_all_apart me done = by_order (nat_lt done me) refl
  where
    by_order : (b : Bool) → nat_lt done me ≡ b → (if b then done else suc done) ≢ me
    by_order true is same = let h = ltb-true done me is in omega arith
    by_order false is same = let h = ltb-false done me is in omega arith

-- a claim asks no owner that is the thread itself
owner_apart : (owner me : ℕ) (mode : Mode) (count : ℕ) → decided (WrEx owner) me mode count ≡ Take (One owner) → owner ≢ me
owner_apart owner me mode count = by_test (owner == me) refl
  where
    by_test : (b : Bool) → (owner == me) ≡ b → (if b then Pass else Take (One owner)) ≡ Take (One owner) → owner ≢ me
    by_test true is take = absurd cc
    by_test false is take = eqb-false owner me is

reader_apart : (owner upto me : ℕ) (mode : Mode) (count : ℕ) → decided (RdEx owner upto) me mode count ≡ Take (One owner) → owner ≢ me
reader_apart owner upto me Read count = by_test (owner == me)
  where
    by_test : (b : Bool) → (if b then Pass else Share owner upto) ≡ Take (One owner) → owner ≢ me
    by_test true take = absurd cc
    by_test false take = absurd cc
reader_apart owner upto me _ count = by_test (owner == me) refl
  where
    by_test : (b : Bool) → (owner == me) ≡ b → (if b then Raise else Take (One owner)) ≡ Take (One owner) → owner ≢ me
    by_test true is take = absurd cc
    by_test false is take = eqb-false owner me is

-- the next thread that a claim asks is another than the one that claims
pub next_apart : (prior : StateWord) (me : ℕ) (mode : Mode) (count done : ℕ) → decided prior me mode count ≡ Take (whom_to_ask prior) → next_to_ask (whom_to_ask prior) me done ≢ me
next_apart (WrEx owner) me mode count done take = owner_apart owner me mode count take
next_apart (RdEx owner upto) me mode count done take = reader_apart owner upto me mode count take
next_apart (RdSh number) me mode count done take = next_of_all_apart me done
next_apart (WrInt by) me mode count done take = next_of_all_apart me done
next_apart (RdInt by) me mode count done take = next_of_all_apart me done
next_apart (ShInt by) me mode count done take = next_of_all_apart me done

next_of_all_there : (threads me done : ℕ) → done < number_to_ask All threads → next_to_ask All me done < threads
next_of_all_there threads me done left = by_order (nat_lt done me)
  where
    by_order : (b : Bool) → (if b then done else suc done) < threads
    by_order true = omega arith
    by_order false = omega arith

-- and it is there
pub next_there : (prior : StateWord) (threads me done : ℕ) → NamesThread threads prior → done < number_to_ask (whom_to_ask prior) threads → next_to_ask (whom_to_ask prior) me done < threads
next_there (WrEx owner) threads me done named left = named
next_there (RdEx owner upto) threads me done named left = named
next_there (RdSh number) threads me done named left = next_of_all_there threads me done left
next_there (WrInt by) threads me done named left = next_of_all_there threads me done left
next_there (RdInt by) threads me done named left = next_of_all_there threads me done left
next_there (ShInt by) threads me done named left = next_of_all_there threads me done left

-- it is not done yet
pub next_not_done : (whom : Whom) (threads me done : ℕ) → done < number_to_ask whom threads → is_done whom me done (next_to_ask whom me done) ≡ false
next_not_done (One owner) threads me done left = and_right (owner == owner) (nat_lt 0 done) (le-ltb 0 done (omega arith))
next_not_done All threads me done left = let n = next_to_ask All me done in and_right (not (n == me)) (nat_lt n n) (le-ltb n n (omega arith))

-- once it is, so it is counted
pub next_done : (whom : Whom) (me done : ℕ) → next_to_ask whom me done ≢ me → is_done whom me (suc done) (next_to_ask whom me done) ≡ true
next_done (One owner) me done apart = and_from (owner == owner) (nat_lt 0 (suc done)) (eq-eqb owner owner refl) (lt-ltb 0 (suc done) (omega arith))
next_done All me done apart = and_from (not (next_to_ask All me done == me)) (nat_lt (next_to_ask All me done) (next_to_ask All me (suc done)))
    (ap (λ (b : Bool). not b) (ne_eqb (next_to_ask All me done) me apart)) (lt-ltb (next_to_ask All me done) (next_to_ask All me (suc done)) (by_order (nat_lt done me) (nat_lt (suc done) me) refl refl))
  where
    by_order : (a b : Bool) → nat_lt done me ≡ a → nat_lt (suc done) me ≡ b → (if a then done else suc done) < (if b then suc done else suc (suc done))
    by_order true true is more = omega arith
    by_order true false is more = omega arith
    by_order false false is more = omega arith
    by_order false true is more = absurd (let h = ltb-false done me is in let k = ltb-true (suc done) me more in omega arith)

-- and the others are done as before
pub done_as_before : (whom : Whom) (me done thread : ℕ) → thread ≢ next_to_ask whom me done → is_done whom me (suc done) thread ≡ is_done whom me done thread
done_as_before (One owner) me done thread other = and_left (thread == owner) (nat_lt 0 (suc done)) (ne_eqb thread owner other) ∙ sym (and_left (thread == owner) (nat_lt 0 done) (ne_eqb thread owner other))
done_as_before All me done thread other = elim (cases_eq thread me) [
  | inl same ↦ let mine : not (thread == me) ≡ false = ap (λ (b : Bool). not b) (eq-eqb thread me same) in
      and_left (not (thread == me)) (nat_lt thread (next_to_ask All me (suc done))) mine ∙ sym (and_left (not (thread == me)) (nat_lt thread (next_to_ask All me done)) mine)
  | inr apart ↦ ap (λ (b : Bool). not (thread == me) && b) (by_order apart (nat_lt done me) (nat_lt (suc done) me) refl refl other)
]
  where
    same_test : (a b : ℕ) → b ≤ a → (b ≤ thread → a ≤ thread) → nat_lt thread a ≡ nat_lt thread b
    same_test a b le past = elim (cases_lt thread b) [
      | inl lt ↦ lt-ltb thread a (omega arith) ∙ sym (lt-ltb thread b lt)
      | inr ge ↦ le-ltb thread a (past ge) ∙ sym (le-ltb thread b ge)
    ]

    by_order : thread ≢ me → (a b : Bool) → nat_lt done me ≡ a → nat_lt (suc done) me ≡ b → thread ≢ (if a then done else suc done)
        → nat_lt thread (if b then suc done else suc (suc done)) ≡ nat_lt thread (if a then done else suc done)
    by_order apart true true is more differ = same_test (suc done) done (omega arith) (λ past. omega arith)
    by_order apart true false is more differ = let h = ltb-true done me is in let k = ltb-false (suc done) me more in same_test (suc (suc done)) done (omega arith) (λ past. omega arith)
    by_order apart false false is more differ = same_test (suc (suc done)) (suc done) (omega arith) (λ past. omega arith)
    by_order apart false true is more differ = absurd (let h = ltb-false done me is in let k = ltb-true (suc done) me more in omega arith)
