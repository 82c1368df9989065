-- What is found of one place, said of its command.
use Rattle.std.proofs.Common.{◌≡◌, ℕ, suc, ◌<◌, ◌==◌, ◌&&◌, Bool, true, false, List, length, get_or, Option, Some, None, slice_get, sym, ap, ◌∙◌, subst}
use Rattle.std.proofs.lemmas.Bool.{eq-eqb}
use Rattle.std.proofs.lemmas.Option.{slice_get-get_or}
use Rattle.std.specs.Cmp.Derive.{both_true}
use Rattle.octet_model.specs.declared.command.Command.{Command}
use Rattle.octet_model.specs.Thread.{is_opener, matching_end}
use Rattle.octet_outcomes.specs.Flow.{live_at, set_by, uses, AreEnds, IsOpened, IsSpared}

-- the command at a place
the_command : (commands : List Command) (place : ℕ) (d command : Command) → place < length commands → slice_get commands place ≡ Some command → get_or commands place d ≡ command
the_command commands place d command lt at = let e : Some (get_or commands place d) ≡ Some command = sym (slice_get-get_or commands place d lt) ∙ at in cc

pub spared_by : (commands : List Command) (live : List (List Bool)) (place register : ℕ) (d : Command) → place < length commands → uses (get_or commands place d) register ≡ false
    → (live_at live (suc place) register ≡ true → set_by (get_or commands place d) ≡ Some register)
    → (is_opener (get_or commands place d) ≡ true → live_at live (suc (matching_end commands place)) register ≡ false) → IsSpared commands live place register
spared_by commands live place register d lt used on past = record {
  used = λ command at. subst (λ (x : Command). uses x register ≡ false) (the_command commands place d command lt at) used;
  on = λ command at alive. subst (λ (x : Command). set_by x ≡ Some register) (the_command commands place d command lt at) (on alive);
  past = λ command at opener. past (subst (λ (x : Command). is_opener x ≡ true) (sym (the_command commands place d command lt at)) opener);
}

-- an opener with its closer there
pub opened_there : (commands : List Command) (ends : List ℕ) (opener end : ℕ) (d : Command) → AreEnds commands ends → opener < end → opener < length commands → is_opener (get_or commands opener d) ≡ true → get_or ends opener 0 ≡ end → IsOpened commands end
opened_there commands ends opener end d are before lt opens is =
    let at = slice_get-get_or commands opener d lt in
    let matches : matching_end commands opener ≡ end = sym (are.right opener lt (get_or commands opener d) at opens) ∙ is in
    record {
      opener = opener;
      before = before;
      opens = ap (λ (o : Option Command). elim o [ None ↦ false | Some command ↦ is_opener command && (matching_end commands opener == end) ]) at ∙ both_true opens (eq-eqb (matching_end commands opener) end matches);
    }
