-- A run in order that makes steps.
use Rattle.std.proofs.Common.{◌≡◌, ℕ, ◌+◌, ◌<◌, inl, inr, List, [], ◌∷◌, ◌++◌, length, take, drop, get_or, replicate, sym, ap, ◌∙◌, subst}
use Rattle.std.proofs.lemmas.Bool.{cases_eq}
use Rattle.std.proofs.lemmas.List.{length-map, take-append-drop}
use Rattle.octet_model.specs.declared.event.Event.{Event}
use Rattle.octet_model.specs.declared.event.Event.TheVariants.{Read}
use Rattle.octet_model.specs.Machine.{Journals, journal_of, no_events, event_made, heap_after}
use Rattle.octet_model.specs.Plays.{operation_of}
use Rattle.octet_model.proofs.lemmas.Fronts.{no_journal}
use Rattle.octet_window.specs.declared.course.Step.{Step}
use Rattle.octet_window.specs.declared.notes.Note.{Note}
use Rattle.octet_window.specs.declared.refusal.Refusal.{Refusal}
use Rattle.octet_window.specs.declared.refusal.Refusal.TheVariants.{ManyObjects, ManyLines, NoHistory, OutOfMemory}
use Rattle.octet_window.specs.Courses.{events_by, AreAllSteps, IsStuck}
use Rattle.octet_window.specs.Noting.{AllIn}
use Rattle.octet_window.specs.Ordering.{Parts, accesses_in, IsAtRest}
use Rattle.octet_window.specs.Playing.{AddsEvent, HaveSteps, IsEventRefusal, IsMisfit, IsPlayRefusal}
use Rattle.octet_window.specs.Values.{behind, Fit, shown_before}
use Rattle.octet_window.proofs.Accessing.{accesses_join}
use Rattle.octet_window.proofs.Noting.{drop_step}
use Rattle.octet_window.proofs.Steps.{other_step, own_step, take_step}
use Rattle.octet_window.proofs.Values.{behind_more, fit_more, fit_parts, fit_shown}

-- the run has made these steps
pub record HasPlayed (starts : List ℕ) (threads : ℕ) (steps : List Step) (run : Parts) : Type 0 where
  pub rest : IsAtRest run
  pub begins : run.starts ≡ starts
  pub many : length run.journals ≡ threads
  pub made : HaveSteps steps run.journals
  pub heap : run.heap ≡ behind steps starts
  pub fit : Fit steps starts

pub nothing_played : (starts : List ℕ) (threads : List (List Note)) (run : Parts) → IsAtRest run → run.starts ≡ starts → run.heap ≡ starts → run.journals ≡ no_events threads → HasPlayed starts (length threads) [] run
nothing_played starts threads run rest begins heap none = record {
  rest = rest;
  begins = begins;
  many = ap (λ (js : Journals). length js) none ∙ length-map {B = List Event} threads (λ (notes : List Note). []);
  made = λ t. ap accesses_in (ap (λ (js : Journals). journal_of js t) none ∙ no_journal threads t);
  heap = heap;
  fit = tt;
}

module _ (starts : List ℕ) (threads : ℕ) (steps : List Step) (k : ℕ) (d : Step) (lt : k < length steps) (run : Parts) (p : HasPlayed starts threads (take k steps) run) where
  abbrev this : Step
  this = get_or steps k d

  pub played_on : (next : Parts) → IsAtRest next → AddsEvent this.thread this.event run next → event_made (operation_of this.event) run.heap ≡ this.event → HasPlayed starts threads (take (k + 1) steps) next
  played_on next rest adds value = subst (λ (l : List Step). HasPlayed starts threads l next) (sym (take_step steps k d lt)) record {
    rest = rest;
    begins = adds.starts ∙ p.begins;
    many = adds.many ∙ p.many;
    made = λ u. elim (cases_eq u this.thread) [
      | inr apart ↦ adds.others u apart ∙ (p.made u ∙ ap accesses_in (sym (other_step (take k steps) this.thread u this.event apart)))
      | inl same ↦ subst (λ (v : ℕ). accesses_in (journal_of next.journals v) ≡ accesses_in (events_by v (take k steps ++ this ∷ []))) (sym same)
          (adds.own ∙ (ap (λ (l : List Event). l ++ accesses_in (this.event ∷ [])) (p.made this.thread)
          ∙ (sym (accesses_join (events_by this.thread (take k steps)) (this.event ∷ []))
          ∙ ap accesses_in (sym (own_step (take k steps) this.thread this.event)))))
    ];
    heap = adds.heap ∙ (ap (λ (h : List ℕ). heap_after (operation_of this.event) h) p.heap ∙ sym (behind_more (take k steps) this starts));
    fit = fit_more (take k steps) (this ∷ []) starts p.fit (subst (λ (h : List ℕ). event_made (operation_of this.event) h ≡ this.event) p.heap value, tt);
  }

  -- where steps fit, this one does
  fits_here : Fit steps starts → event_made (operation_of this.event) run.heap ≡ this.event
  fits_here fit =
      let f = fit_parts (take k steps) (drop k steps) starts (subst (λ (l : List Step). Fit l starts) (sym (take-append-drop k steps)) fit) in
      let g = subst (λ (l : List Step). Fit l (behind (take k steps) starts)) (drop_step steps k d lt) f.1 in
      subst (λ (h : List ℕ). event_made (operation_of this.event) h ≡ this.event) (sym p.heap) g.0

  pub misfit : (why : Refusal) → IsEventRefusal run.heap this.event why → IsMisfit steps starts why
  misfit NoHistory is = λ fit. is (fits_here fit)
  misfit OutOfMemory is = tt
  misfit (ManyObjects objects) is = absurd is
  misfit (ManyLines lines) is = absurd is

-- why threads do not make what is noted of them: there are no such steps, or they do not fit what they show
pub stuck_refusal : (objects : ℕ) (threads : List (List Note)) (why : Refusal) → IsStuck threads why → IsPlayRefusal objects threads why
stuck_refusal objects threads NoHistory is = λ starts wide. is starts
stuck_refusal objects threads OutOfMemory is = tt
stuck_refusal objects threads (ManyObjects many) is = absurd is
stuck_refusal objects threads (ManyLines lines) is = absurd is

pub misfit_refusal : (objects : ℕ) (threads : List (List Note)) (steps : List Step) (why : Refusal) → AreAllSteps threads steps → AllIn objects threads
    → IsMisfit steps (shown_before steps (replicate objects 0)) why → IsPlayRefusal objects threads why
misfit_refusal objects threads steps NoHistory all inside is =
    λ starts wide last number h. is (fit_shown steps objects (length threads) starts (all.inside objects inside) wide (all.fits starts last number h))
misfit_refusal objects threads steps OutOfMemory all inside is = tt
misfit_refusal objects threads steps (ManyObjects many) all inside is = absurd is
misfit_refusal objects threads steps (ManyLines lines) all inside is = absurd is

-- a step that is not there
abbrev pub no_step : Step
no_step = record { thread = 0; event = Read 0 0 }
