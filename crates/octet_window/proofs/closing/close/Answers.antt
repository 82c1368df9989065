use Rattle.std.proofs.Common.{◌≡◌, [], List, ℕ, length, map, sym, ap, ◌∙◌, subst}
use Rattle.std.proofs.lemmas.Result.{err_from_is_err_and}
use Rattle.octet_model.specs.declared.command.Command.{Command}
use Rattle.octet_window.specs.declared.notes.Note.{Note}
use Rattle.octet_model.specs.Orders.{starting_heap}
use Rattle.octet_window.specs.Noting.{program_of, touched_in, AllIn}
use Rattle.octet_window.specs.Histories.{noted, HasHistory}
use Rattle.octet_window.specs.Ordering.{parts_of}
use Rattle.octet_window.specs.Playing.{all_renamed, AllOf, HaveAll, IsPlayRefusal}
use Rattle.octet_window.specs.Windows.{AreDifferent, AreThreads, IsScriptWith, IsWindowOf, MakesNoted}
use Rattle.octet_window.proofs.Valid.{in_different, touched_of, are_threads}
use Rattle.octet_window.proofs.Windows.{has_programs, makes_noted, play_refusal}
use Rattle.octet_window.proofs.closing.close.Goals as goal

pub all_renamed-requires-clause-there : goal.all_renamed-requires-clause-there
all_renamed-requires-clause-there c =
    subst (λ (l : List ℕ). AllOf l c.args.threads.now) (sym (c.deref.ensures.value ∙ c.in_ok-objects.ensures)) (touched_of c.args.threads.now)

pub play_notes-requires-clause-inside : goal.play_notes-requires-clause-inside
play_notes-requires-clause-inside c =
    subst (λ (n : ℕ). AllIn n c.deref-3.result.now) (c.deref.ensures.len ∙ sym c.len-2.ensures)
    (subst (λ (l : List (List Note)). AllIn (length c.deref.result.now) l) (sym c.deref-3.ensures.value) c.in_ok-notes.ensures.inside)

pub script_of-requires-clause-different : goal.script_of-requires-clause-different
script_of-requires-clause-different c =
    subst AreDifferent (sym (c.deref-4.ensures.value ∙ c.in_ok-objects.ensures)) (in_different [] c.args.threads.now tt)

pub script_of-requires-clause-threads : goal.script_of-requires-clause-threads
script_of-requires-clause-threads c =
    let same = c.deref.ensures.value ∙ sym c.deref-4.ensures.value in
    let programs = c.in_ok-programs.ensures ∙ ap (λ (l : List (List Note)). map program_of l) c.deref-2.ensures.value in
    subst (λ (l : List (List Command)). AreThreads (length c.deref-4.result.now) l) (sym programs)
    (subst (λ (l : List ℕ). AreThreads (length l) (map program_of c.in_ok-notes.notes.items)) same (are_threads (length c.deref.result.now) c.in_ok-notes.notes.items c.in_ok-notes.ensures.inside))

pub finish-requires-clause-programs : goal.finish-requires-clause-programs
finish-requires-clause-programs c =
    let objects = c.in_ok-objects.objects.items in
    let notes = c.in_ok-notes.notes.items in
    let script = c.in_ok-script.script in
    let programs = c.in_ok-programs.ensures ∙ ap (λ (l : List (List Note)). map program_of l) c.deref-2.ensures.value in
    let is : IsScriptWith objects (map program_of notes) script = subst (λ (l : List ℕ). IsScriptWith l (map program_of notes) script) c.deref-4.ensures.value
    (subst (λ (l : List (List Command)). IsScriptWith c.deref-4.result.now l script) programs c.in_ok-script.ensures.script) in
    let all : AllIn (length objects) notes = subst (λ (l : List ℕ). AllIn (length l) notes) c.deref.ensures.value c.in_ok-notes.ensures.inside in
    has_programs objects notes script (parts_of c.in_ok-run.run') is all
    (c.in_ok-script.ensures.starts ∙ c.as_slice-2.ensures)
    (c.in_ok-run.ensures.many ∙ ap (λ (l : List (List Note)). length l) c.deref-3.ensures.value)
    (subst (λ (l : List (List Note)). HaveAll l c.in_ok-run.run'.journals.items) c.deref-3.ensures.value c.in_ok-run.ensures.made)

pub returns-clause-script : goal.returns-clause-script
returns-clause-script c =
    let objects = c.in_ok-objects.objects.items in
    let notes = c.in_ok-notes.notes.items in
    let script = c.in_ok-script.script in
    let programs = c.in_ok-programs.ensures ∙ ap (λ (l : List (List Note)). map program_of l) c.deref-2.ensures.value in
    let renamed : notes ≡ all_renamed objects c.args.threads.now = c.in_ok-notes.ensures.renamed ∙ ap (λ (l : List ℕ). all_renamed l c.args.threads.now) c.deref.ensures.value in
    let is : IsScriptWith objects (map program_of notes) script = subst (λ (l : List ℕ). IsScriptWith l (map program_of notes) script) c.deref-4.ensures.value
    (subst (λ (l : List (List Command)). IsScriptWith c.deref-4.result.now l script) programs c.in_ok-script.ensures.script) in
    subst (λ (l : List ℕ). IsWindowOf c.args.threads.now l script) (sym c.from_vec.ensures) record {
      touched = c.in_ok-objects.ensures;
      different = subst AreDifferent (sym c.in_ok-objects.ensures) (in_different [] c.args.threads.now tt);
      script_ = subst (λ (l : List (List Note)). IsScriptWith objects (map program_of l) script) renamed is;
    }

pub returns-clause-accesses : goal.returns-clause-accesses
returns-clause-accesses c =
    let objects = c.in_ok-objects.objects.items in
    let notes = c.in_ok-notes.notes.items in
    let renamed : notes ≡ all_renamed objects c.args.threads.now = c.in_ok-notes.ensures.renamed ∙ ap (λ (l : List ℕ). all_renamed l c.args.threads.now) c.deref.ensures.value in
    let script = c.in_ok-script.script in
    let log = c.in_ok-log.field-0.log.threads in
    let js = c.in_ok-run.run'.journals.items in
    subst (λ (l : List ℕ). MakesNoted c.args.threads.now l script log) (sym c.from_vec.ensures)
    (makes_noted objects c.args.threads.now script log js c.in_ok-log.ensures.orders
    (subst (λ (l : List (List Note)). HaveAll l js) (c.deref-3.ensures.value ∙ renamed) c.in_ok-run.ensures.made))

pub returns-clause-history : goal.returns-clause-history
returns-clause-history c =
    let objects = c.in_ok-objects.objects.items in
    let threads = c.args.threads.now in
    let script = c.in_ok-script.script in
    let renamed : c.in_ok-notes.notes.items ≡ all_renamed objects threads = c.in_ok-notes.ensures.renamed ∙ ap (λ (l : List ℕ). all_renamed l threads) c.deref.ensures.value in
    let starts : c.in_ok-run.run'.starts ≡ starting_heap script = sym (c.in_ok-script.ensures.starts ∙ c.as_slice-2.ensures) in
    subst (λ (l : List ℕ). HasHistory (starting_heap script) (noted (all_renamed l threads))) (sym c.from_vec.ensures)
    (subst (λ (l : List ℕ). HasHistory l (noted (all_renamed objects threads))) starts
    (subst (λ (l : List (List Note)). HasHistory c.in_ok-run.run'.starts (noted l)) (c.deref-3.ensures.value ∙ renamed) c.in_ok-run.ensures.history))

pub returns-in_err-run-clause-refused : goal.returns-in_err-run-clause-refused
returns-in_err-run-clause-refused c =
    let p = err_from_is_err_and c.from_residual-in_err-run.result c.from_residual-in_err-run.ensures.1 in
    let threads = c.args.threads.now in
    let why = c.in_err-run.field-0.0 in
    let objects : c.deref.result.now ≡ touched_in [] threads = c.deref.ensures.value ∙ c.in_ok-objects.ensures in
    let many : c.len-2.result ≡ length (touched_in [] threads) = c.len-2.ensures ∙ (sym c.deref.ensures.len ∙ ap (λ (l : List ℕ). length l) objects) in
    let notes : c.deref-3.result.now ≡ all_renamed (touched_in [] threads) threads =
    c.deref-3.ensures.value ∙ (c.in_ok-notes.ensures.renamed ∙ ap (λ (l : List ℕ). all_renamed l threads) objects) in
    rw (p.1, p.2) (play_refusal threads why
    (subst (λ (n : ℕ). IsPlayRefusal n (all_renamed (touched_in [] threads) threads) why) many
    (subst (λ (l : List (List Note)). IsPlayRefusal c.len-2.result l why) notes c.in_err-run.ensures.refused)))
