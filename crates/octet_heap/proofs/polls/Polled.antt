-- A whole poll, by the stretch up to its answer and the safe point after it.
use Rattle.std.proofs.Common.{◌≡◌, ◌≢◌, ◌∙◌, ℕ, ◌+◌, ◌≤◌, Bool, true, false, List, [], ◌∷◌, ◌++◌, length, sym, refl, ap, arith, subst, append_assoc, append-nil}
use Rattle.std.specs.Prelude.{◌==◌, not, if◌then◌else◌}
use Rattle.octet_state.specs.declared.phase.Due.{Due}
use Rattle.octet_state.specs.declared.phase.Due.TheVariants.{Nothing, Glance, Answer}
use Rattle.octet_state.specs.declared.why.Why.{Why}
use Rattle.octet_state.specs.Words.{unpacked_status}
use Rattle.octet_state.specs.Steps.{ToGlance, ToAnswer}
use Rattle.octet_rule.specs.Views.{SeatView, Taken, stepped_by}
use Rattle.octet_safe.specs.Replies.{AnswersOr, PassesSafePoint}
use Rattle.octet_heap.specs.declared.pending_access.PendingAccess.{PendingAccess}
use Rattle.octet_heap.specs.declared.poll.Poll.{Poll}
use Rattle.octet_heap.specs.declared.poll.Poll.TheVariants.{Ready, Pending}
use Rattle.octet_heap.specs.Walks.{access_task, after_steps}
use Rattle.octet_heap.specs.Polls.{PaysBy, Comes}
use Rattle.octet_heap.specs.Workers.{IsPoll}
use Rattle.octet_heap.proofs.lemmas.Walks.{after_more, next_in, next_by}

pub trail_after : (steps : List Taken) (v : SeatView) → (after_steps steps v).trail ≡ v.trail ++ steps
trail_after [] v = sym (append-nil v.trail)
trail_after (taken ∷ more) v = trail_after more (stepped_by taken.kind taken.word v) ∙ append_assoc v.trail (taken ∷ []) more

-- what is due after the answer
ends : (access : PendingAccess) (v u w : SeatView) (answer : Poll) (at_safe_point : List Taken) → (c : Comes access v answer 19 u) → PaysBy access u at_safe_point → length c.going + 1 + length at_safe_point ≤ 19 → w ≡ after_steps at_safe_point u → IsPoll access v answer w
ends access v u w answer at_safe_point c pays few is = let all : w ≡ after_steps (c.going ++ c.last ∷ at_safe_point) v = is ∙ (ap (after_steps at_safe_point) c.after ∙ sym (after_more c.going (c.last ∷ at_safe_point) v)) in record {
  going = c.going;
  last = c.last;
  at_safe_point = at_safe_point;
  goes = c.goes;
  is_next = c.is_next;
  answers = c.answers;
  pays = subst (λ (x : SeatView). PaysBy access x at_safe_point) c.after pays;
  few = few;
  after = all;
  trail = ap (λ (x : SeatView). x.trail) all ∙ trail_after (c.going ++ c.last ∷ at_safe_point) v;
}

pub poll_ready : (access : PendingAccess) (v w : SeatView) (value : ℕ) → Comes access v (Ready value) 19 w → w.thread.due ≡ Nothing → IsPoll access v (Ready value) w
poll_ready access v w value c due = ends access v w w (Ready value) [] c (tt, due) (let few = c.few in omega arith) refl

abbrev is_owed : Due → Bool
is_owed Nothing = false
is_owed _ = true

owes : (v : SeatView) (due : Due) → is_owed due ≡ true → v.thread.due ≡ due → v.thread.due ≢ Nothing
owes v due owed is none = let e : is_owed due ≡ false = ap is_owed (sym is ∙ none) in cc

pub poll_pending : (access : PendingAccess) (v u w : SeatView) (why : Why) (answered : Bool) → Comes access v (Pending why) 19 u → u.thread.due ≡ Glance → PassesSafePoint u answered w → IsPoll access v (Pending why) w
poll_pending access v u w why answered c due point = go answered point.by_bits point.answers
  where
    glance : Taken
    glance = record { kind = ToGlance; word = point.found }

    looks : stepped_by ToGlance point.found u ≡ point.between
    looks = sym point.glances.moves

    left : (b : Bool) → b ≡ not ((unpacked_status point.found).asked == 0) → point.between.thread.due ≡ (if b then Answer else Nothing)
    left b by_bits = ap (λ (x : SeatView). x.thread.due) point.glances.moves ∙ flip ((unpacked_status point.found).asked == 0) b by_bits
      where
        flip : (test b : Bool) → b ≡ not test → (if test then Nothing else Answer) ≡ (if b then Answer else Nothing)
        flip true true e = absurd cc
        flip true false e = refl
        flip false true e = refl
        flip false false e = absurd cc

    go : (b : Bool) → b ≡ not ((unpacked_status point.found).asked == 0) → AnswersOr b point.between w → IsPoll access v (Pending why) w
    go false by_bits is = ends access v u w (Pending why) (glance ∷ []) c
        ((next_by (access_task access) u point.between ToGlance point.found point.glances (sym (next_in (access_task access) u Glance u.thread.phase due refl)), owes u Glance refl due, tt), subst (λ (x : SeatView). x.thread.due ≡ Nothing) (sym looks) (left false by_bits))
        (let few = c.few in omega arith) (is ∙ sym looks)
    go true by_bits answer = let replies : Taken = record { kind = ToAnswer; word = answer.0 } in let asked = left true by_bits in
        let pays : PaysBy access point.between (replies ∷ []) = ((next_by (access_task access) point.between w ToAnswer answer.0 answer.1 (sym (next_in (access_task access) point.between Answer point.between.thread.phase asked refl)), owes point.between Answer refl asked, tt), refl) in
        let rest : PaysBy access (stepped_by ToGlance point.found u) (replies ∷ []) = subst (λ (x : SeatView). PaysBy access x (replies ∷ [])) (sym looks) pays in
        ends access v u w (Pending why) (glance ∷ replies ∷ []) c
        ((next_by (access_task access) u point.between ToGlance point.found point.glances (sym (next_in (access_task access) u Glance u.thread.phase due refl)), owes u Glance refl due, rest.0), rest.1)
        (let few = c.few in omega arith) (answer.1.moves ∙ ap (stepped_by ToAnswer answer.0) (sym looks))
