-- What two notes know of one name.
use Rattle.std.proofs.Common.{◌≡◌, ℕ, sym, subst, IfSome, inl, inr}
use Rattle.std.proofs.lemmas.Bool.{cases_eq}
use seplogic.Ra.Ura.{Ura}
use base.Logic.{ent, sep, via}
use types.Logic.{Logic, sem}
use contract.Monad.{fact, fact_i, fact_mono}
use denote.RattleType.{RattleType}
use Rattle.std.specs.declared.option.Option.{Option}
use Rattle.once_cell.specs.Once.{Agrees, noted}
use Rattle.once_cell.proofs.Notes.{noted_agree}

module _ {M : Type 1} {𝓤 : Ura M} (𝓛 : Logic 𝓤) (R : RattleType) where
  -- they agree, if they are of one name
  pub agree_if_same : (γ δ : ℕ) (k j : Option R.Denot) → ent 𝓤 (sep 𝓤 (sem 𝓛 (noted R γ k)) (sem 𝓛 (noted R δ j))) (fact 𝓤 (δ ≡ γ → IfSome j (Agrees k)))
  agree_if_same γ δ k j = elim (cases_eq δ γ) [
    | inl same ↦ via 𝓤 _
        (subst (λ (e : ℕ). ent 𝓤 (sep 𝓤 (sem 𝓛 (noted R γ k)) (sem 𝓛 (noted R e j))) (fact 𝓤 (IfSome j (Agrees k)))) (sym same) (noted_agree 𝓛 R γ k j))
        (fact_mono 𝓤 (IfSome j (Agrees k)) (δ ≡ γ → IfSome j (Agrees k)) (λ agrees _. agrees))
    | inr apart ↦ fact_i 𝓤 _ _ (λ same. absurd (apart same))
  ]
