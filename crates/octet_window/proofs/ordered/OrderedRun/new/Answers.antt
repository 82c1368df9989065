use Rattle.std.proofs.Common.{◌≡◌, ◌*◌, ℕ, length, List, sym, ap, ◌∙◌}
use Rattle.octet_window.specs.Ordering.{parts_of}
use Rattle.octet_window.proofs.Beginning.{begins}
use Rattle.octet_window.proofs.ordered.OrderedRun.new.Goals as goal

pub returns-clause-rest : goal.returns-clause-rest
returns-clause-rest c =
    let starts : c.from_vec.result ≡ c.args.starts.now = c.from_vec.ensures ∙ c.in_ok-from_slice.ensures.items in
    let wide : length c.args.starts.now ≡ length c.from_vec.result = ap (λ (l : List ℕ). length l) (sym starts) in
    begins c.args.threads.now (parts_of (record { starts = c.from_vec.result; heap = c.in_ok-from_slice-2.field-0; journals = c.in_ok-no_journals.field-0; known = c.in_ok-new.field-0; accessed = c.in_ok-new-2.field-0; written = c.in_ok-new-3.field-0 }))
    c.requires.few (c.in_ok-from_slice-2.ensures.items ∙ sym starts) c.in_ok-no_journals.ensures
    c.in_ok-new.ensures.room (c.in_ok-new-2.ensures.room ∙ ap (λ (n : ℕ). 16 * n) wide) (c.in_ok-new-3.ensures.room ∙ ap (λ (n : ℕ). 16 * n) wide) c.in_ok-new.ensures.zero c.in_ok-new-2.ensures.zero c.in_ok-new-3.ensures.zero
