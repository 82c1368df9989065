-- The objects that are kept by their names, as declarations.
use denote.Ref.{Bor}
use Rattle.std.proofs.Common.{◌≡◌, ℕ, suc, ◌+◌, ◌≤◌, Bool, true, false, not, cond, List, [], ◌∷◌, map, length, Some, None, refl, sym, ◌∙◌, arith}
use Rattle.std.specs.List.{position, position_or_len}
use Rattle.std.specs.Str.{bytes_eq}
use Rattle.std.specs.Map.{lookup, keys_of}
use Rattle.octet_script.specs.Spelling.{Declaration, declared_names, object_named}
use Rattle.octet_script.proofs.spelling.Cut.{position_of_map, position_none}

-- a name and the value that its object starts with, as they are kept
abbrev pub Entry : Type 0
Entry = Bor (List ℕ) × ℕ

abbrev pub shown : Entry → Declaration
shown e = record { name = e.0.now; start = e.1 }

pub place_is : (name : List ℕ) (entries : List Entry) → position (λ (k : Bor (List ℕ)). bytes_eq name k.now) (keys_of entries) ≡ object_named (declared_names (map shown entries)) name
place_is name entries =
    position_of_map (λ (k : Bor (List ℕ)). bytes_eq name k.now) (λ (e : Entry). e.0) entries
    ∙ sym (position_of_map (bytes_eq name) (λ (o : Declaration). o.name) (map shown entries) ∙ position_of_map (λ (o : Declaration). bytes_eq name o.name) shown entries)

absent_step : (name : List ℕ) (e : Entry) (entries : List Entry) (q : Bool) → bytes_eq name e.0.now ≡ q → (length entries ≤ position_or_len (λ (o : Entry). bytes_eq name o.0.now) entries → lookup (λ (k : Bor (List ℕ)). bytes_eq name k.now) entries ≡ None) → suc (length entries) ≤ cond (not q) (1 + position_or_len (λ (o : Entry). bytes_eq name o.0.now) entries) 0 → cond q (Some e.1) (lookup (λ (k : Bor (List ℕ)). bytes_eq name k.now) entries) ≡ None
absent_step name e entries true is ih far = absurd (omega arith)
absent_step name e entries false is ih far = ih (omega arith)

absent : (name : List ℕ) (entries : List Entry) → length entries ≤ position_or_len (λ (o : Entry). bytes_eq name o.0.now) entries → lookup (λ (k : Bor (List ℕ)). bytes_eq name k.now) entries ≡ None
absent name [] far = refl
absent name (e ∷ entries) far = absent_step name e entries (bytes_eq name e.0.now) refl (absent name entries) far

-- a name that no object has is no key
pub no_key : (name : List ℕ) (entries : List Entry) → object_named (declared_names (map shown entries)) name ≡ None → lookup (λ (k : Bor (List ℕ)). bytes_eq name k.now) entries ≡ None
no_key name entries fresh =
    absent name entries (position_none (λ (o : Entry). bytes_eq name o.0.now) entries (sym (position_of_map (bytes_eq name) (λ (o : Declaration). o.name) (map shown entries) ∙ position_of_map (λ (o : Declaration). bytes_eq name o.name) shown entries) ∙ fresh))
