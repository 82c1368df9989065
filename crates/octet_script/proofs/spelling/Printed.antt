-- The canonical text, in the order in which it is written.
use Rattle.std.proofs.Common.{◌≡◌, ℕ, zero, suc, ◌<◌, List, [], ◌∷◌, ◌++◌, map, length, get_or, refl, ap, sym, ◌∙◌, arith}
use Rattle.std.specs.Prelude.{codes}
use Rattle.std.specs.Fmt.{decimal}
use Rattle.std.specs.List.{flat_map}
use Rattle.std.proofs.lemmas.List.Concat.{flat_map-append}
use Rattle.std.proofs.lemmas.List.Folds.{flat_map-map}
use Rattle.octet_model.specs.declared.command.Command.{Command}
use Rattle.octet_model.specs.declared.object.Object.{Object}
use Rattle.octet_model.specs.declared.script.Script.{Script}
use Rattle.octet_script.specs.Spelling.{FuelHead, ObjectHead, declaration, object_names, object_word, canonical_line, canonical_text, head_form, thread_forms}

pub names_at : (objects : List Object) (k : ℕ) (o : Object) → k < length objects → o ≡ get_or objects k o → o.name ≡ object_word (object_names objects) k
names_at [] k o here is = absurd (omega arith)
names_at (x ∷ xs) zero o here is = ap (λ (p : Object). p.name) is
names_at (x ∷ xs) (suc k) o here is = names_at xs k o (omega arith) is

flat_map-flat_map : {A B C : Type 0} (f : B → List C) (g : A → List B) (xs : List A) → flat_map f (flat_map g xs) ≡ flat_map (λ x. flat_map f (g x)) xs
flat_map-flat_map f g [] = refl
flat_map-flat_map f g (x ∷ xs) = flat_map-append f (g x) (flat_map g xs) ∙ ap (λ ys. flat_map f (g x) ++ ys) (flat_map-flat_map f g xs)

abbrev pub object_lines : List Object → List ℕ
object_lines objects = flat_map (λ o. canonical_line [] (head_form (ObjectHead (declaration o)))) objects

abbrev pub thread_lines : List (List ℕ) → List (List Command) → List ℕ
thread_lines names threads = flat_map (λ commands. flat_map (canonical_line names) (thread_forms commands)) threads

heads_written : (names : List (List ℕ)) (objects : List Object) → flat_map (canonical_line names) (map head_form (map (λ o. ObjectHead o) (map declaration objects))) ≡ object_lines objects
heads_written names objects =
    flat_map-map (canonical_line names) head_form (map (λ o. ObjectHead o) (map declaration objects))
    ∙ flat_map-map (λ h. canonical_line names (head_form h)) (λ o. ObjectHead o) (map declaration objects)
    ∙ flat_map-map (λ o. canonical_line names (head_form (ObjectHead o))) declaration objects

pub canonical_parts : (script : Script) → canonical_text script ≡ (codes "fuel " ++ decimal script.fuel ++ codes "\n") ++ object_lines script.objects ++ thread_lines (object_names script.objects) script.threads
canonical_parts script =
    let names = object_names script.objects in
    let heads = FuelHead script.fuel ∷ map (λ o. ObjectHead o) (map declaration script.objects) in
    let split = flat_map-append (canonical_line names) (map head_form heads) (flat_map thread_forms script.threads) in
    let objects = heads_written names script.objects in
    let threads = flat_map-flat_map (canonical_line names) thread_forms script.threads in
    split ∙ cc

pub first_line_written : (script : Script) (out : List ℕ) → out ≡ (([] ++ codes "fuel ") ++ decimal script.fuel) ++ codes "\n" → out ++ object_lines script.objects ++ thread_lines (object_names script.objects) script.threads ≡ canonical_text script
first_line_written script out is = ap (λ front. front ++ object_lines script.objects ++ thread_lines (object_names script.objects) script.threads) is ∙ sym (canonical_parts script)
