-- States with as many events of each thread and as many draws: what a mark may do in one it may do in the other.
use Rattle.std.proofs.Common.{◌≡◌, ℕ, suc, inl, inr, nat_le, eqb, List, length, sym, ap, ◌∙◌, refl, arith}
use Rattle.std.proofs.lemmas.Bool.{cases_eq}
use Rattle.octet_model.specs.declared.event.Event.{Event}
use Rattle.octet_model.specs.declared.event.Mark.TheVariants.{Join, Draw, Fence}
use Rattle.octet_model.specs.Machine.{PlainState, Operation, MakeMark, MakeRead, MakeWrite, MakeUpdate, Behavior, is_enabled, draws_after, step}
use Rattle.octet_model.proofs.lemmas.Steps.{count, Makes, as_many_step, other_step, counts_step}

pub record Alike (s s' : PlainState) : Type 0 where
  pub as_many : length s.journals ≡ length s'.journals
  pub counts : (t : ℕ) → count s.journals t ≡ count s'.journals t
  pub draws : s.draws ≡ s'.draws

pub enabled_alike : (s s' : PlainState) (o : Operation) → Alike s s' → is_enabled s o ≡ is_enabled s' o
enabled_alike s s' (MakeMark (Join from upto)) alike = ap (λ (n : ℕ). nat_le upto n) (alike.counts from)
enabled_alike s s' (MakeMark (Draw number)) alike = ap (λ (n : ℕ). eqb number (suc n)) alike.draws
enabled_alike s s' (MakeMark (Fence number)) alike = ap (λ (n : ℕ). nat_le number n) alike.draws
enabled_alike s s' (MakeRead object) alike = refl
enabled_alike s s' (MakeWrite object value) alike = refl
enabled_alike s s' (MakeUpdate object change) alike = refl

-- a thread's steps that count as many draws keep it
module _ (V V' : Behavior) (s s' : PlainState) (t : ℕ) (o o' : Operation) (here : Makes V s t o) (there : Makes V' s' t o') (draws : (n : ℕ) → draws_after o n ≡ draws_after o' n) where
  pub step_alike : Alike s s' → Alike (step V s t) (step V' s' t)
  step_alike alike = record {
    as_many = as_many_step V s t ∙ alike.as_many ∙ sym (as_many_step V' s' t);
    counts = λ u. elim (cases_eq u t) [
      | inl same ↦
          let one : count (step V s t).journals t ≡ count (step V' s' t).journals t = omega (arith, counts_step V s t o here, counts_step V' s' t o' there, alike.counts t) in
          ap (λ (v : ℕ). count (step V s t).journals v) same ∙ one ∙ sym (ap (λ (v : ℕ). count (step V' s' t).journals v) same)
      | inr differ ↦
          ap (λ (j : List Event). length j) (other_step V s t u differ) ∙ alike.counts u ∙ sym (ap (λ (j : List Event). length j) (other_step V' s' t u differ))
    ];
    draws = ap (λ (x : PlainState). x.draws) here.stepped ∙ ap (draws_after o) alike.draws ∙ draws s'.draws ∙ sym (ap (λ (x : PlainState). x.draws) there.stepped);
  }
