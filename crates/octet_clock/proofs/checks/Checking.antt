-- The steps of the check, and its verdict.
use Rattle.std.proofs.Common.{◌≡◌, ℕ, suc, ◌<◌, ◌^◌, inl, inr, List, [], length, get_or, refl, ap, subst, arith}
use Rattle.std.proofs.lemmas.Bool.{cases_lt}
use Rattle.std.proofs.lemmas.List.{get_or_past}
use Rattle.octet_model.specs.declared.event.Event.{Event}
use Rattle.octet_model.specs.declared.event.Place.{Place}
use Rattle.octet_model.specs.Machine.{Journals, journal_of}
use Rattle.octet_clock.specs.declared.verdict.Verdict.{Verdict}
use Rattle.octet_clock.specs.declared.verdict.Verdict.TheVariants.{Ordered, Unordered}
use Rattle.octet_clock.specs.Play.{made_by, IsWholePlay}
use Rattle.octet_replay.specs.Places.{FitInPlaces}
use Rattle.octet_clock.specs.Verdict.{IsFirstUnordered, JudgedUpTo, IsVerdict}
use Rattle.octet_clock.proofs.plays.Forward.{ordered_by_steps, unordered_by_pair}
use Rattle.octet_clock.proofs.pasts.Taken.{step_within}
use Rattle.octet_clock.proofs.plays.Walk.{event_of_step}

-- a step of a whole play of journals that have places
pub record Stands (js : Journals) (play : List ℕ) (i : ℕ) : Type 0 where
  pub places : FitInPlaces js
  pub whole : IsWholePlay js play
  pub within : i < length play

module _ (js : Journals) (play : List ℕ) (i : ℕ) (here : Stands js play i) where
  abbrev t : ℕ
  t = get_or play i 0

  abbrev k : ℕ
  k = made_by play i t

  within : k < length (journal_of js t)
  within = let there = event_of_step js play here.whole i here.within in step_within js play i t there.0 there.1

  pub mover_within : t < length js
  mover_within = elim (cases_lt t (length js)) [ inl below ↦ below | inr past ↦ absurd (omega (arith, within, ap (λ (j : List Event). length j) (get_or_past js t [] past))) ]

  pub has_room : suc k < 2 ^ 32
  has_room = omega (arith, within, here.places.events t [] mover_within)

-- the verdict after all steps
pub verdict_is : (js : Journals) (play : List ℕ) (verdict : Verdict) → IsWholePlay js play → JudgedUpTo js play (length play) verdict → IsVerdict js play verdict
verdict_is js play Ordered whole judged = record {
  ordered = (λ is. ordered_by_steps js play whole judged, λ ordered. refl);
  unordered = λ first second is. absurd cc;
}
verdict_is js play (Unordered first second) whole judged = record {
  ordered = (λ is. absurd cc, λ ordered. absurd (unordered_by_pair js play whole first second judged ordered));
  unordered = λ one other is.
      let f : first ≡ one = cc in
      let s : second ≡ other = cc in
      subst (λ (p : Place). IsFirstUnordered js play p other) f (subst (λ (p : Place). IsFirstUnordered js play first p) s judged);
}
