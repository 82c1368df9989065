use Rattle.std.proofs.Common.{◌≡◌, true, false, ℕ, List, suc, length, sym, ap, ◌∙◌, subst, arith, add-one}
use Rattle.octet_outcomes.specs.Rows.{RowsState}
use Rattle.octet_outcomes.proofs.Ends.{AreFinal, AreKept, are_ends, final_done, final_not}
use Rattle.octet_outcomes.proofs.endings.final_places.Goals as goal
use Rattle.octet_outcomes.proofs.endings.final_places.Goals.{then-are_done+in_ok-_row+in_ok-widen+in_ok-note_first, else-are_done}

pub loop-place-preserved : goal.loop-place-preserved
loop-place-preserved c =
    let script = c.args.script.now in
    let ms = c.args.found.now.moments.moments in
    let objects = c.args.found.now.moments.objects in
    let place = c.loop-place.place in
    let after : AreKept script ms objects (suc place) c.if-are_done.heaps c.if-are_done.places.items =
    elim c.if-are_done.branch [
      | then-are_done+in_ok-_row+in_ok-widen+in_ok-note_first w ↦
          subst (λ (r : RowsState ℕ). AreKept script ms objects (suc place) r c.if-are_done.places.items) (sym (w.heaps-is ∙ w.in_ok-widen.ensures))
          (subst (λ (ps : List ℕ). AreKept script ms objects (suc place) w.add.new.self ps) (sym (ap (λ v. v.items) w.places-is))
          (record {
            width = w.in_ok-_row.ensures.keeps.same_width ∙ c.loop-place.invariant.width;
            final = final_done script ms c.loop-place.heaps w.add.new.self place w.in_ok-_row._row w.heap.result.now c.loop-place.places.items w.note_first.new.places.items (omega (arith, c.len-place-end.ensures, c.loop-place-test.true))
                (c.are_done.ensures.0 w.if-are_done.true) w.heap.ensures.heap w.in_ok-_row.ensures.keeps
                (λ few. w.in_ok-note_first.ensures.same (omega (arith, w.len.ensures, ap (λ (s : RowsState ℕ). length s.rows) w.in_ok-widen.ensures, few)))
                (λ more. w.in_ok-note_first.ensures.more (omega (arith, w.len.ensures, ap (λ (s : RowsState ℕ). length s.rows) w.in_ok-widen.ensures, more)))
                c.loop-place.invariant.final;
          }))
      | else-are_done w ↦
          subst (λ (r : RowsState ℕ). AreKept script ms objects (suc place) r c.if-are_done.places.items) (sym w.heaps-is)
          (subst (λ (ps : List ℕ). AreKept script ms objects (suc place) c.loop-place.heaps ps) (sym (ap (λ v. v.items) w.places-is))
          (record {
            width = c.loop-place.invariant.width;
            final = final_not script ms place c.loop-place.heaps.rows c.loop-place.places.items (λ done. let no : true ≡ false = sym (c.are_done.ensures.1 done) ∙ w.if-are_done.false in cc) c.loop-place.invariant.final;
          }))
    ] in
    record { width = after.width; final = rw add-one after.final }

pub returns : goal.returns
returns c =
    let ms = c.args.found.now.moments.moments in
    let all : c.loop-place.place ≡ length ms = omega (arith, c.len-place-end.ensures, c.loop-place-test.false, c.loop-place.auto.place-end) in
    are_ends c.args.script.now ms (length ms) c.loop-place.heaps.rows c.loop-place.places.items
    (subst (λ (n : ℕ). AreFinal c.args.script.now ms n c.loop-place.heaps.rows c.loop-place.places.items) all c.loop-place.invariant.final)
