use Rattle.std.proofs.Common.{◌≡◌, ◌<◌, ℕ, suc, inl, inr, false, ◌+◌, ◌∙◌, sym, ap, arith}
use Rattle.std.proofs.lemmas.Bool.{cases_lt}
use Rattle.octet_machine.specs.Machine.{MachineState, after_turn}
use Rattle.octet_machine.specs.Turns.{after_own_turns, is_through}
use Rattle.octet_machine.proofs.goes.go.Goals as goal

one_more : (before m m' : MachineState) (thread taken : ℕ) → m ≡ after_own_turns before thread taken → m' ≡ after_turn m thread → m' ≡ after_own_turns before thread (taken + 1)
one_more before m m' thread taken comes turned =
    let next : suc taken ≡ taken + 1 = omega arith in
    turned ∙ ap (λ (n : MachineState). after_turn n thread) comes ∙ ap (after_own_turns before thread) next

-- the thread was not through before one more turn either
still_least : (before m : MachineState) (thread accesses taken : ℕ) → m ≡ after_own_turns before thread taken → is_through m thread accesses ≡ false
    → ((fewer : ℕ) → fewer < taken → is_through (after_own_turns before thread fewer) thread accesses ≡ false)
    → (fewer : ℕ) → fewer < taken + 1 → is_through (after_own_turns before thread fewer) thread accesses ≡ false
still_least before m thread accesses taken comes going least fewer lt = elim (cases_lt fewer taken) [
  | inl below ↦ least fewer below
  | inr above ↦
      let same : fewer ≡ taken = omega arith in
      ap (λ (n : ℕ). is_through (after_own_turns before thread n) thread accesses) same ∙ sym (ap (λ (n : MachineState). is_through n thread accesses) comes) ∙ going
]

pub loop-taken-preserved : goal.loop-taken-preserved
loop-taken-preserved c = record {
  comes = one_more c.args.machine.now c.loop-taken.machine c.turn.new.self c.args.thread c.loop-taken._taken c.loop-taken.invariant.comes c.turn.ensures.state;
  least = still_least c.args.machine.now c.loop-taken.machine c.args.thread c.accesses-before.result c.loop-taken._taken c.loop-taken.invariant.comes (sym c.is_through.ensures ∙ c.if-is_through.false) c.loop-taken.invariant.least;
  threads = c.turn.ensures.threads ∙ c.loop-taken.invariant.threads;
  script = c.turn.ensures.script ∙ c.loop-taken.invariant.script;
}
