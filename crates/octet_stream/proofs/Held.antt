-- A poll that has made an access leaves its thread with the right to the object.
use Rattle.std.proofs.Common.{◌≡◌, ◌∙◌, ℕ, List, [], ◌∷◌, ◌++◌, map, length, Option, Some, None, refl, sym, ap, subst, arith, length-append, append_assoc}
use Rattle.octet_model.specs.Thread.{added}
use Rattle.octet_model.specs.declared.event.Event.{Event}
use Rattle.octet_model.specs.declared.event.Event.TheVariants as event
use Rattle.octet_model.specs.declared.event.Mark.{Mark}
use Rattle.octet_state.specs.declared.act.Mode.{Mode}
use Rattle.octet_state.specs.declared.act.Mode.TheVariants.{Read, Write, Update}
use Rattle.octet_state.specs.declared.phase.Due.TheVariants.{Nothing}
use Rattle.octet_state.specs.declared.why.Why.{Why}
use Rattle.octet_state.specs.NextStep.{access_of, waits}
use Rattle.octet_state.specs.State.{Thread}
use Rattle.octet_state.specs.Steps.{Kind, ToGlance, ToAnswer, ToBlock, ToUnblock, ToAsk, ToLook, ToLoad, ToRead, ToWrite, ToBump, ToClaim, ToSettle, ToDraw, ToFence, ToRaise, ToShare, after_run, after, made, ended_by, step, target}
use Rattle.octet_rule.specs.Views.{SeatView, Taken, stepped_by}
use Rattle.octet_rule.specs.Rule.{Steps}
use Rattle.octet_heap.specs.declared.pending_access.PendingAccess.{PendingAccess}
use Rattle.octet_heap.specs.declared.poll.Poll.TheVariants.{Ready}
use Rattle.octet_heap.specs.Calls.{access_to, Polls}
use Rattle.octet_heap.specs.Growth.{access_event}
use Rattle.octet_heap.specs.Polls.{answer_by, OwesBy}
use Rattle.octet_heap.specs.Walks.{after_steps}
use Rattle.octet_heap.proofs.lemmas.Walks.{after_more}
use Rattle.octet_recorder.specs.declared.access.Access.{Access}
use Rattle.octet_recorder.specs.declared.access.Access.TheVariants as want
use Rattle.octet_session.specs.Asking.{object_of}
use Rattle.octet_stream.specs.Accesses.{PollsReady}
use Rattle.octet_stream.specs.Rights.{HasRight, HoldsRight, mode_of}
use Rattle.octet_stream.proofs.Standing.{right_stands}

last_same : {A : Type 0} (xs ys : List A) (x y : A) → xs ++ x ∷ [] ≡ ys ++ y ∷ [] → x ≡ y
last_same [] [] x y same = cc
last_same [] (b ∷ ys) x y same = absurd (let a = ap length same in let c = length-append ys (y ∷ []) in omega arith)
last_same (a ∷ xs) [] x y same = absurd (let b = ap length same in let c = length-append xs (x ∷ []) in omega arith)
last_same (a ∷ xs) (b ∷ ys) x y same = last_same xs ys x y (let rest : xs ++ x ∷ [] ≡ ys ++ y ∷ [] = cc in rest)

-- the step that answers is the access
record IsAccess (k : Kind) : Type 0 where
  mode : Mode
  value : ℕ
  is : k ≡ access_of mode value

answers_by : (why : Option Why) (k : Kind) (word found : ℕ) → answer_by why k word ≡ Some (Ready found) → IsAccess k
answers_by (Some why) k word found is = absurd cc
answers_by None ToRead word found is = record { mode = Read; value = 0; is = refl }
answers_by None (ToWrite value) word found is = record { mode = Write; value = value; is = refl }
answers_by None (ToBump amount) word found is = record { mode = Update; value = amount; is = refl }
answers_by None ToGlance word found is = absurd cc
answers_by None ToAnswer word found is = absurd cc
answers_by None (ToBlock ends) word found is = absurd cc
answers_by None ToUnblock word found is = absurd cc
answers_by None (ToAsk whom) word found is = absurd cc
answers_by None (ToLook whom) word found is = absurd cc
answers_by None (ToLoad object mode) word found is = absurd cc
answers_by None ToClaim word found is = absurd cc
answers_by None ToSettle word found is = absurd cc
answers_by None ToDraw word found is = absurd cc
answers_by None ToFence word found is = absurd cc
answers_by None ToRaise word found is = absurd cc
answers_by None ToShare word found is = absurd cc

-- after it nothing is due
owes_nothing : (mode : Mode) (value number told : ℕ) (x : Thread) → (after (access_of mode value) number told x).due ≡ Nothing
owes_nothing Read value number told x = refl
owes_nothing Write value number told x = refl
owes_nothing Update value number told x = refl

no_more : (access : PendingAccess) (v : SeatView) (paid : List Taken) → v.thread.due ≡ Nothing → OwesBy access v paid → paid ≡ []
no_more access v [] none owes = refl
no_more access v (taken ∷ paid) none owes = absurd (owes.1 none)

-- the event that it makes
abbrev event_made : Mode → ℕ → ℕ → ℕ → Event
event_made Read object value told = event.Read object told
event_made Write object value told = event.Write object value
event_made Update object value told = event.Update object told (added value told)

made_is : (mode : Mode) (value number told : ℕ) (x : Thread) → made (access_of mode value) number told x ≡ Some (event_made mode (target x.phase) value told)
made_is Read value number told x = refl
made_is Write value number told x = refl
made_is Update value number told x = refl

record IsOne (how mode : Mode) (o object : ℕ) : Type 0 where
  mode_is : how ≡ mode
  object_is : o ≡ object

one : (how mode : Mode) (o object a b told found : ℕ) → event_made how o a told ≡ access_event mode object b found → IsOne how mode o object
one Read Read o object a b told found same = record { mode_is = refl; object_is = cc }
one Write Write o object a b told found same = record { mode_is = refl; object_is = cc }
one Update Update o object a b told found same = record { mode_is = refl; object_is = cc }
one Read Write o object a b told found same = absurd cc
one Read Update o object a b told found same = absurd cc
one Write Read o object a b told found same = absurd cc
one Write Update o object a b told found same = absurd cc
one Update Read o object a b told found same = absurd cc
one Update Write o object a b told found same = absurd cc

module _ (wanted : Access) (mode : Mode) (object value found : ℕ) (v w : SeatView) (polls : Polls (access_to object mode value) v (Ready found) w) (is_mode : mode_of wanted ≡ mode) (is_object : object_of wanted ≡ object) where
  abbrev x : SeatView
  x = after_steps polls.steps.going v

  abbrev last : Taken
  last = polls.steps.last

  access : IsAccess last.kind
  access = answers_by (waits last.kind x.number last.word x.thread) last.kind last.word found polls.steps.answers

  abbrev k : Kind
  k = access_of access.mode access.value

  step_is : Steps k x last.word (stepped_by k last.word x)
  step_is = subst (λ (kind : Kind). Steps kind x last.word (stepped_by kind last.word x)) access.is polls.steps.is_next.took

  none_due : (stepped_by last.kind last.word x).thread.due ≡ Nothing
  none_due = ap (λ (kind : Kind). (after kind x.number last.word x.thread).due) access.is ∙ owes_nothing access.mode access.value x.number last.word x.thread

  ends : w ≡ stepped_by k last.word x
  ends =
      polls.steps.after
      ∙ (ap (λ (paid : List Taken). after_steps (polls.steps.going ++ last ∷ paid) v) (no_more (access_to object mode value) (stepped_by last.kind last.word x) polls.steps.at_safe_point none_due polls.steps.pays.0)
      ∙ (after_more polls.steps.going (last ∷ []) v ∙ ap (λ (kind : Kind). stepped_by kind last.word x) access.is))

  took : Steps k x last.word w
  took = subst (λ (y : SeatView). Steps k x last.word y) (sym ends) step_is

  journal : w.journal ≡ x.journal ++ event_made access.mode (target x.thread.phase) access.value last.word ∷ []
  journal = ap (λ (y : SeatView). y.journal) ends ∙ ap (λ (e : Option Event). ended_by x.journal e) (made_is access.mode access.value x.number last.word x.thread)

  abbrev marks : List Event
  marks = map (λ (mark : Mark). event.Marked mark) polls.journal.marks

  same : IsOne access.mode mode (target x.thread.phase) object
  same = one access.mode mode (target x.thread.phase) object access.value value last.word polls.journal.told
      (last_same x.journal (v.journal ++ marks) _ _ (sym journal ∙ (polls.journal.grown ∙ sym (append_assoc v.journal marks _))))

  -- the same in the words of what was wanted
  mode_same : access.mode ≡ mode_of wanted
  mode_same = same.mode_is ∙ sym is_mode

  object_same : target x.thread.phase ≡ object_of wanted
  object_same = same.object_is ∙ sym is_object

  took_wanted : Steps (access_of (mode_of wanted) access.value) x last.word w
  took_wanted = subst (λ (m : Mode). Steps (access_of m access.value) x last.word w) mode_same took

  pub held : HoldsRight wanted w
  held = record {
    value = access.value;
    before = x;
    told = last.word;
    took = took_wanted;
    stands = λ run is_run others.
        subst (λ (o : ℕ). HasRight (mode_of wanted) x.number o (after_run (step (access_of (mode_of wanted) access.value) x.number took_wanted.before) run)) object_same
        (right_stands (mode_of wanted) access.value x last.word w took_wanted run is_run others);
  }

-- whatever was wanted
pub ready_holds : (wanted : Access) (v w : SeatView) → PollsReady wanted v w → HoldsRight wanted w
ready_holds (want.Read object) v w ready = held (want.Read object) Read object 0 ready.0 v w ready.1 refl refl
ready_holds (want.Write object value) v w ready = held (want.Write object value) Write object value ready.0 v w ready.1 refl refl
ready_holds (want.Update object change) v w ready = held (want.Update object change) Update object _ _ v w ready.1.polls refl refl
