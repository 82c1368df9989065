-- Notes, and the programs that they make.
use Rattle.std.proofs.Common.{◌≡◌, ℕ, suc, ◌+◌, ◌^◌, ◌<◌, Bool, List, [], ◌∷◌, ◌++◌, length, map, drop, get_or, refl, sym, ap, ◌∙◌, subst, arith}
use Rattle.std.proofs.Math.Seq.{drop-cons}
use Rattle.std.proofs.lemmas.List.{append_assoc}
use Rattle.octet_model.specs.declared.command.Command.{Command}
use Rattle.octet_model.specs.declared.event.Event.{Event}
use Rattle.octet_model.specs.declared.event.Event.TheVariants.{Read, Write, Update, Marked}
use Rattle.octet_model.specs.Thread.{added}
use Rattle.octet_model.specs.Totals.{difference}
use Rattle.octet_recorder.specs.Programs.{region_lines, read_lines, write_lines, bump_lines, IsProgramOf}
use Rattle.octet_window.specs.declared.notes.Note.{Note}
use Rattle.octet_window.specs.Noting.{events_of, lines_of, program_of, IsEventIn, AreIn, AreOf}
use Rattle.octet_window.specs.Ordering.{accesses_in}

pub are_in_more : (n : ℕ) (notes : List Note) (note : Note) → AreIn n notes → IsEventIn n note.event → AreIn n (notes ++ note ∷ [])
are_in_more n [] note are is = (is, tt)
are_in_more n (x ∷ notes) note are is = (are.0, are_in_more n notes note are.1 is)

-- the amount of an update leads from the value before to the one after
leads : (before after : ℕ) → before < 2 ^ 64 → after < 2 ^ 64 → after ≡ added (difference before after) before
leads before after fits_before fits_after = omega (arith, fits_before, fits_after)

one_more : (n : ℕ) (region : Bool) (program : List Command) (journal : List Event) (e : Event) → IsEventIn n e → IsProgramOf n program (accesses_in journal)
    → IsProgramOf n (lines_of region e ++ program) (accesses_in (e ∷ journal))
one_more n region program journal (Read object value) is rest =
    (program, (is, omega arith), record { region = region; is = append_assoc (region_lines region) (read_lines object) program }, rest)
one_more n region program journal (Write object value) is rest =
    (program, is, record { region = region; is = append_assoc (region_lines region) (write_lines object value) program }, rest)
one_more n region program journal (Update object before after) is rest =
    (program, difference before after, (is.0, omega arith), leads before after is.1 is.2, record { region = region; is = append_assoc (region_lines region) (bump_lines object (difference before after)) program }, rest)
one_more n region program journal (Marked mark) is rest = rest

-- the program of notes is one of their accesses
pub program_is : (n : ℕ) (notes : List Note) → AreIn n notes → IsProgramOf n (program_of notes) (accesses_in (events_of notes))
program_is n [] are = refl
program_is n (note ∷ notes) are = one_more n note.region (program_of notes) (events_of notes) note.event are.0 (program_is n notes are.1)

-- a program of the accesses of a journal is one of the journal
pub of_accesses : (n : ℕ) (program : List Command) (journal : List Event) → IsProgramOf n program (accesses_in journal) → IsProgramOf n program journal
of_accesses n program [] p = p
of_accesses n program (Read object value ∷ journal) p = (p.0, p.1, p.2, of_accesses n p.0 journal p.3)
of_accesses n program (Write object value ∷ journal) p = (p.0, p.1, p.2, of_accesses n p.0 journal p.3)
of_accesses n program (Update object before after ∷ journal) p = (p.0, p.1, p.2, p.3, p.4, of_accesses n p.0 journal p.5)
of_accesses n program (Marked mark ∷ journal) p = of_accesses n program journal p

-- a list from a place on
pub drop_step : {X : Type 0} (xs : List X) (k : ℕ) (d : X) → k < length xs → drop k xs ≡ get_or xs k d ∷ drop (k + 1) xs
drop_step xs k d lt = let next : suc k ≡ k + 1 = omega arith in drop-cons xs k d lt ∙ ap (λ (n : ℕ). get_or xs k d ∷ drop n xs) next

pub mapped_more : {X Y : Type 0} (f : X → Y) (xs : List X) (ys : List Y) (k : ℕ) (d : X) (y : Y) → k < length xs → ys ++ map f (drop k xs) ≡ map f xs → y ≡ f (get_or xs k d)
    → (ys ++ y ∷ []) ++ map f (drop (k + 1) xs) ≡ map f xs
mapped_more f xs ys k d y lt is of =
    append_assoc ys (y ∷ []) (map f (drop (k + 1) xs))
    ∙ (ap (λ z. ys ++ z ∷ map f (drop (k + 1) xs)) of ∙ (ap (λ l. ys ++ map f l) (sym (drop_step xs k d lt)) ∙ is))

pub of_step : (objects : List ℕ) (notes : List Note) (k : ℕ) (d : Note) → k < length notes → AreOf objects (drop k notes) → AreOf objects (drop (k + 1) notes)
of_step objects notes k d lt are = let both = subst (AreOf objects) (drop_step notes k d lt) are in both.1
