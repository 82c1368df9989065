use Rattle.std.proofs.Common.{◌+◌, ℕ, ap, map, inl, ◌∙◌, arith}
use Rattle.octet_outcomes.specs.Moments.{moment_of}
use Rattle.octet_outcomes.specs.Rows.{RowsState}
use Rattle.octet_outcomes.proofs.Naming.{all_same, names, on_err}
use Rattle.octet_outcomes.proofs.moments.name_moment.Goals as goal

pub returns-clause-names : goal.returns-clause-names
returns-clause-names c =
    let s = c.in_ok-stand_number.ensures.keeps in
    let h = c.in_ok-heap_number.ensures.keeps in
    let r = c.in_ok-place.ensures.keeps in
    names _ _ _ _ _ _ s.grows h.grows _ _ c.args.row.now c.args.thread (c.args.thread + 1) c.in_ok-heap_number.heap_number c.in_ok-stand_number.stand_number c.in_ok-place.place (omega arith) c.requires.row c.requires.named h.is s.is r.there r.is r.grows

pub returns-in_err-heap_number-clause-same : goal.returns-in_err-heap_number-clause-same
returns-in_err-heap_number-clause-same c =
    let s = c.in_ok-stand_number.ensures.keeps in
    on_err _ _ (all_same c.args.stands.now _ c.args.heaps.now.rows _ c.args.stand c.args.heap.now s.grows (inl (ap (λ (r : RowsState ℕ). r.rows) c.in_err-heap_number.ensures.err)) c.args.rows.now.rows c.requires.named)

pub returns-in_err-place-clause-same : goal.returns-in_err-place-clause-same
returns-in_err-place-clause-same c =
    let s = c.in_ok-stand_number.ensures.keeps in
    let h = c.in_ok-heap_number.ensures.keeps in
    on_err _ _
    (ap (λ (r : RowsState ℕ). map (moment_of c.add.new.self c.add-2.new.self.rows) r.rows) c.in_err-place.ensures.err
    ∙ all_same c.args.stands.now c.add.new.self c.args.heaps.now.rows c.add-2.new.self.rows c.args.stand c.args.heap.now s.grows h.grows c.args.rows.now.rows c.requires.named)
