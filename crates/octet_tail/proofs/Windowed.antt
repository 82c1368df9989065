-- Why there is no window; and the notes of threads, one after another.
use Rattle.std.proofs.Common.{◌≡◌, ◌∙◌, ℕ, suc, ◌+◌, ◌<◌, List, [], ◌∷◌, ◌++◌, length, drop, get_or, refl, sym, ap, subst, arith, append_assoc}
use Rattle.std.proofs.Math.Seq.{drop-cons, drop-length}
use Rattle.octet_tail.specs.declared.texts.Unwritten.{Unwritten}
use Rattle.octet_tail.specs.declared.texts.Unwritten.TheVariants as unwritten
use Rattle.octet_tail.specs.Texts.{IsUnwritten}
use Rattle.octet_window.specs.declared.closing.Window.{Window}
use Rattle.octet_window.specs.declared.notes.Notes.{Notes}
use Rattle.octet_window.specs.declared.refusal.Refusal.{Refusal}
use Rattle.octet_window.specs.declared.refusal.Refusal.TheVariants as refusals
use Rattle.octet_window.specs.Windows.{IsRefused}
use Rattle.octet_tail.specs.declared.fronts.Fronts.{Fronts}
use Rattle.octet_tail.specs.declared.parts.Part.{Part}
use Rattle.octet_tail.specs.Parts.{AreNotes}
use Rattle.octet_tail.specs.Windows.{AreNoted, HasNoWindow, IsWindow, refused_fault, unwritten_fault}

pub refused_for : (fronts : Fronts) (parts : List Part) (notes : List Notes) (refusal : Refusal) → AreNoted fronts parts 0 notes → IsRefused notes refusal
    → HasNoWindow fronts parts (refused_fault refusal)
refused_for fronts parts notes refusals.OutOfMemory noted is = tt
refused_for fronts parts notes (refusals.ManyObjects objects) noted is = record { notes = notes; noted = noted; refused = is }
refused_for fronts parts notes (refusals.ManyLines lines) noted is = record { notes = notes; noted = noted; refused = is }
refused_for fronts parts notes refusals.NoHistory noted is = record { notes = notes; noted = noted; refused = is }

pub unwritten_for : (fronts : Fronts) (parts : List Part) (notes : List Notes) (window : Window) (why : Unwritten) → AreNoted fronts parts 0 notes → IsWindow notes window
    → IsUnwritten window why → HasNoWindow fronts parts (unwritten_fault why)
unwritten_for fronts parts notes window unwritten.TooLong noted is long = record { notes = notes; window = window; noted = noted; is = is; long = long }
unwritten_for fronts parts notes window unwritten.OutOfMemory noted is long = tt

-- these are the notes of the first threads, so many
abbrev pub AreFirst : Fronts → List Part → ℕ → List Notes → Type 0
AreFirst fronts parts k notes = (rest : List Notes) → AreNoted fronts (drop k parts) k rest → AreNoted fronts parts 0 (notes ++ rest)

pub one_noted : (fronts : Fronts) (parts : List Part) (k : ℕ) (notes : List Notes) (d part : Part) (one : Notes) → k < length parts → part ≡ get_or parts k d
    → AreFirst fronts parts k notes → AreNotes fronts k part.span part.accesses one → AreFirst fronts parts (k + 1) (notes ++ one ∷ [])
one_noted fronts parts k notes d part one lt is first noted = λ rest later.
    let same : k + 1 ≡ suc k = omega arith in
    let here : drop k parts ≡ part ∷ drop (suc k) parts = drop-cons parts k d lt ∙ ap (λ (p : Part). p ∷ drop (suc k) parts) (sym is) in
    let others = subst (λ (n : ℕ). AreNoted fronts (drop n parts) n rest) same later in
    let all = first (one ∷ rest) (subst (λ (l : List Part). AreNoted fronts l k (one ∷ rest)) (sym here) (one, rest, refl, noted, others)) in
    subst (λ (l : List Notes). AreNoted fronts parts 0 l) (sym (append_assoc notes (one ∷ []) rest)) all

pub noted_to_end : (fronts : Fronts) (parts : List Part) (k : ℕ) (notes : List Notes) → k ≡ length parts → AreFirst fronts parts k notes → AreNoted fronts parts 0 (notes ++ [])
noted_to_end fronts parts k notes is first = first [] (subst (λ (l : List Part). AreNoted fronts l k []) (sym (ap (λ (n : ℕ). drop n parts) is ∙ drop-length parts)) refl)
