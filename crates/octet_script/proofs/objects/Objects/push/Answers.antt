use denote.Ref.{Bor}
use Rattle.std.proofs.Common.{◌≡◌, ◌∙◌, ◌++◌, ◌∷◌, [], ℕ, List, ap, map, refl}
use Rattle.std.specs.Str.{bytes_eq}
use Rattle.std.specs.List.{list_all}
use Rattle.std.proofs.lemmas.List.{map-append}
use Rattle.std.proofs.lemmas.List.Folds.{list_all-append}
use Rattle.indexmap.proofs.CallerLemmas.{insert_entry-new}
use Rattle.octet_model.specs.Name.{is_name}
use Rattle.octet_script.specs.Spelling.{Declaration, declared_names, object_named}
use Rattle.octet_script.proofs.spelling.Declared.{Entry, shown, no_key}
use Rattle.octet_script.proofs.objects.Objects.push.Goals as goal

pub invariant_of-self-2 : goal.invariant_of-self-2
invariant_of-self-2 c =
    let entries = c.self.inside.starts.entries in
    let added : c.insert.new.self.entries ≡ entries ++ (c.args.name, c.args.start) ∷ [] =
    c.in_ok-insert.ensures.entries ∙ insert_entry-new (λ (x y : Bor (List ℕ)). bytes_eq x.now y.now) c.self.inside.starts c.args.name c.args.start (no_key c.args.name.now entries (ap (λ (os : List Declaration). object_named (declared_names os) c.args.name.now) c.self.view_is ∙ c.requires.fresh)) in
    ap (list_all (λ (e : Entry). is_name e.0.now)) added ∙ list_all-append (λ (e : Entry). is_name e.0.now) entries ((c.args.name, c.args.start) ∷ []) ∙ rw (c.self.invariant, c.requires.form) refl

pub returns-clause-ok : goal.returns-clause-ok
returns-clause-ok c =
    let entries = c.self.inside.starts.entries in
    let added : c.insert.new.self.entries ≡ entries ++ (c.args.name, c.args.start) ∷ [] =
    c.in_ok-insert.ensures.entries ∙ insert_entry-new (λ (x y : Bor (List ℕ)). bytes_eq x.now y.now) c.self.inside.starts c.args.name c.args.start (no_key c.args.name.now entries (ap (λ (os : List Declaration). object_named (declared_names os) c.args.name.now) c.self.view_is ∙ c.requires.fresh)) in
    ap (map shown) added ∙ map-append shown entries ((c.args.name, c.args.start) ∷ []) ∙ ap (λ (os : List Declaration). os ++ shown (c.args.name, c.args.start) ∷ []) c.self.view_is
