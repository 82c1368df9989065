-- What is known of what a hunt has found.
use Rattle.octet_model.specs.declared.limits.TheConstants.{MAX_OBJECTS}
use Rattle.std.proofs.Common.{◌≡◌, ◌≤◌, ◌<◌, ℕ, List, [], length, arith, Option, Some, None, Ok, refl, subst}
use Rattle.std.specs.Str.{bytes_eq}
use Rattle.std.proofs.lemmas.List.Quantifiers.{position-Some}
use Rattle.octet_model.specs.declared.script.Script.{Script}
use Rattle.octet_model.specs.declared.outcome.Recorded.{Recorded}
use Rattle.octet_model.specs.Orders.{IsFaithful}
use Rattle.octet_model.proofs.lemmas.Validity.{valid_script}
use Rattle.octet_regions.specs.declared.region.Hop.{Hop}
use Rattle.octet_hunt.specs.declared.aim.Aim.{Aim}
use Rattle.octet_hunt.specs.declared.aim.Aim.TheVariants.{OtherValue, Cycle}
use Rattle.octet_hunt.specs.Hunts.{Meets}
use Rattle.octet_commands.specs.declared.request.Claim.TheVariants.{Leaves, CanEnd}
use Rattle.octet_commands.specs.Outcomes.{Refutes}
use Rattle.octet_commands.specs.Request.{Claim}
use Rattle.octet_commands.specs.Profile.{object_named}
use Rattle.octet_commands.specs.Inputs.{IsChosen}

pub few_objects : (script : Script) → length script.objects ≤ MAX_OBJECTS
few_objects script = (valid_script script.fuel script.objects script.threads script.valid).most_objects

-- an object that is chosen is there
pub wanted_is_there : (script : Script) (name : Option (List ℕ)) (place : ℕ) → IsChosen script name (Ok (Some place)) → place < length script.objects
wanted_is_there script None place is = absurd cc
wanted_is_there script (Some name) place is = by (object_named script name) refl is
  where
    by : (found : Option ℕ) → object_named script name ≡ found → (elim found [ None ↦ None | Some x ↦ Some (Some x) ]) ≡ Some (Some place) → place < length script.objects
    by None found is = absurd cc
    by (Some x) found is = let same : x ≡ place = cc in subst (λ n. n < length script.objects) same (position-Some (λ object. bytes_eq name object.name) script.objects x (record { name = []; start = 0; fits = omega arith }) found).0

-- what is found is recorded faithfully
pub met_faithfully : (script : Script) (aim : Aim) (recorded : Recorded) (hops : List Hop) → Meets script aim recorded hops → IsFaithful script recorded.log.threads recorded.outcome
met_faithfully script (OtherValue object number) recorded hops meets = meets.faithful
met_faithfully script Cycle recorded hops meets = meets.faithful

-- so is a run of which a claim does not hold
pub refuted_faithfully : (script : Script) (claim : Claim) (wanted : Option ℕ) (recorded : Recorded) → Refutes script claim wanted recorded → IsFaithful script recorded.log.threads recorded.outcome
refuted_faithfully script (Leaves name number) (Some object) recorded refutes = refutes.faithful
refuted_faithfully script (Leaves name number) None recorded never = absurd never
refuted_faithfully script CanEnd wanted recorded refutes = refutes.faithful
