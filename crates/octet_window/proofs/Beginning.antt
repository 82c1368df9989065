-- A run in order, at first.
use Rattle.std.proofs.Common.{◌≡◌, ℕ, ◌*◌, ◌≤◌, List, [], length, Some, slice_get, refl, sym, ap, subst, arith}
use Rattle.std.proofs.lemmas.List.{length-map}
use Rattle.octet_model.specs.declared.event.Event.{Event}
use Rattle.octet_model.specs.declared.limits.TheConstants.{MAX_THREADS}
use Rattle.octet_model.specs.Frugal.{marks_at_end}
use Rattle.octet_model.specs.Machine.{journal_of, no_events}
use Rattle.octet_model.proofs.lemmas.Fronts.{no_journal}
use Rattle.octet_model.proofs.lemmas.Growth.{history_begins}
use Rattle.octet_window.specs.Tables.{cell}
use Rattle.octet_window.specs.Ordering.{Parts, IsAtRest}

no_event : {A : Type 0} (threads : List A) (u k : ℕ) (x : Event) → slice_get (journal_of (no_events threads) u) k ≡ Some x → ⊥
no_event threads u k x h = let none : slice_get [] k ≡ Some x = subst (λ (j : List Event). slice_get j k ≡ Some x) (no_journal threads u) h in cc

pub begins : {A : Type 0} (threads : List A) (run : Parts) → length threads ≤ MAX_THREADS → run.heap ≡ run.starts → run.journals ≡ no_events threads
    → length run.known ≡ MAX_THREADS * MAX_THREADS → length run.accessed ≡ MAX_THREADS * length run.starts → length run.written ≡ MAX_THREADS * length run.starts
    → ((r c : ℕ) → cell run.known r c ≡ 0) → ((r c : ℕ) → cell run.accessed r c ≡ 0) → ((r c : ℕ) → cell run.written r c ≡ 0) → IsAtRest run
begins threads run few heap none known accessed written no_joins no_accesses no_writes = subst IsAtRest same record {
  ordered = record {
    threads = omega (arith, length-map {B = List Event} threads (λ x. []), few);
    objects = refl;
    known_rows = known;
    accessed_rows = accessed;
    written_rows = written;
    history = history_begins run.starts threads;
    sparing = record {
      unmarked = λ p object access private. absurd (no_event threads p.thread p.event access.0 access.1);
      few = λ p object access. absurd (no_event threads p.thread p.event access.0 access.1);
    };
    accesses = record {
      past = λ p object access. absurd (no_event threads p.thread p.event access.0 access.1);
      last = λ object thread event below is. absurd (omega (arith, is, no_accesses object thread));
    };
    writes = record {
      past = λ p object w. absurd (no_event threads p.thread p.event w.0 w.1);
      last = λ object thread event below is. absurd (omega (arith, is, no_writes object thread));
    };
    joins = λ thread from upto below is. absurd (omega (arith, is, no_joins thread from));
    marks = λ thread event mark is. absurd (no_event threads thread event _ is);
  };
  none_after = λ thread. ap marks_at_end (no_journal threads thread);
}
  where
    fresh : Parts
    fresh = record { starts = run.starts; heap = run.starts; journals = no_events threads; known = run.known; accessed = run.accessed; written = run.written }

    same : fresh ≡ run
    same = λ i. record { starts = run.starts; heap = sym heap i; journals = sym none i; known = run.known; accessed = run.accessed; written = run.written }
