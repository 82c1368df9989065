use Rattle.std.proofs.Common.{ℕ, ◌<◌, ◌+◌, List, length, get_or, slice_index, ◌-◌, arith, sym, ap, ap₂, subst, set, ◌∙◌}
use Rattle.std.proofs.lemmas.List.{take_at}
use Rattle.octet_outcomes.specs.Moments.{MomentsState, Moment, Names, moment_of, no_moment}
use Rattle.octet_outcomes.proofs.Naming.{reads_moment, finds_none, finds_some, adds_named, on_err, same_moments}
use Rattle.octet_outcomes.proofs.moments.Moments.follow.Goals as goal

pub returns-in_default-clause-found : goal.returns-in_default-clause-found
returns-in_default-clause-found c =
    let rowed = c.deref.ensures.value ∙ c.in_ok-copy_into.ensures ∙ c.row.ensures.row in
    let len = ap length (c.deref.ensures.value ∙ c.in_ok-copy_into.ensures) ∙ c.row.ensures.len in
    let threads = ap (λ (s : MomentsState). s.threads) c.self.view_is in
    let lt : c.args.thread + 1 < length c.deref.result.now = omega (arith, len, threads, c.requires.thread, c.self.invariant.0) in
    let read = reads_moment c.self.inside.stands c.self.inside.heaps.rows c.self.inside.rows.rows c.args.self.now _ _ c.args.place c.args.thread (c.args.thread + 1) c.deref.result.now c.number_at-2.result c.number_at.result
    c.stand-stand.result c.deref_mut.result.now c.self.view_is c.requires.there (omega arith) lt rowed c.number_at.ensures
    (c.number_at-2.ensures ∙ ap (λ (row : List ℕ). slice_index row 0) (c.deref-2.ensures.value ∙ sym c.deref.ensures.value))
    c.stand-stand.ensures (c.deref_mut.ensures.value ∙ c.in_ok-copy_into-2.ensures ∙ c.row-2.ensures.row) in
    finds_none c.args.self.now c.args.guide.now.commands c.args.fuel (get_or c.args.self.now.moments c.args.place no_moment) c.args.thread c.stand-stand.result c.deref_mut.result.now c.access.result read.0 read.1 c.access.ensures.stand c.in_default.is

pub returns-clause-found : goal.returns-clause-found
returns-clause-found c =
    let rowed = c.deref.ensures.value ∙ c.in_ok-copy_into.ensures ∙ c.row.ensures.row in
    let len = ap length (c.deref.ensures.value ∙ c.in_ok-copy_into.ensures) ∙ c.row.ensures.len in
    let threads = ap (λ (s : MomentsState). s.threads) c.self.view_is in
    let lt : c.args.thread + 1 < length c.deref.result.now = omega (arith, len, threads, c.requires.thread, c.self.invariant.0) in
    let read = reads_moment c.self.inside.stands c.self.inside.heaps.rows c.self.inside.rows.rows c.args.self.now _ _ c.args.place c.args.thread (c.args.thread + 1) c.deref.result.now c.number_at-2.result c.number_at.result
    c.stand-stand.result c.deref_mut.result.now c.self.view_is c.requires.there (omega arith) lt rowed c.number_at.ensures
    (c.number_at-2.ensures ∙ ap (λ (row : List ℕ). slice_index row 0) (c.deref-2.ensures.value ∙ sym c.deref.ensures.value))
    c.stand-stand.ensures (c.deref_mut.ensures.value ∙ c.in_ok-copy_into-2.ensures ∙ c.row-2.ensures.row) in
    finds_some c.args.self.now _ c.args.guide.now.commands c.args.fuel (get_or c.args.self.now.moments c.args.place no_moment) c.args.thread c.in_ok-found.found c.stand-stand.result c.in-Some.after c.deref_mut.result.now c.access.new.heap c.access.result
    read.0 read.1 c.access.ensures.stand c.in-Some.is c.access.ensures.heap
    (adds_named c.self.inside.stands c.name_moment.new.stands c.self.inside.heaps.rows c.name_moment.new.heaps.rows c.self.inside.rows.rows c.name_moment.new.rows.rows c.args.self.now _ _ _ _ c.in_ok-found.found _
    c.self.view_is (ap (λ (n : ℕ). n - 1) c.in_ok-found.ensures.width) c.in_ok-found.ensures.objects
    (subst (λ (m : Moment). Names c.self.inside.stands c.self.inside.heaps.rows c.self.inside.rows.rows m c.in_ok-found.found c.name_moment.new.stands c.name_moment.new.heaps.rows c.name_moment.new.rows.rows)
    (ap₂ (λ (k : Moment) (h : List ℕ). record { stands = set k.stands c.args.thread c.in-Some.after; heap = h })
    (ap (moment_of c.self.inside.stands c.self.inside.heaps.rows) (c.deref_mut-2.ensures.value ∙ sym c.deref.ensures.value) ∙ read.2)
    (c.deref-3.ensures.value ∙ take_at c.access.new.heap _ c.copy_into-2.new.copy.len (omega (arith, c.access.auto.heap, c.deref_mut.ensures.len))))
    c.in_ok-found.ensures.names))

pub returns-in_err-found-clause-err : goal.returns-in_err-found-clause-err
returns-in_err-found-clause-err c = on_err _ _ (same_moments _ _ _ _ _ _ c.args.self.now c.self.view_is (ap (λ (n : ℕ). n - 1) c.in_err-found.ensures.width) c.in_err-found.ensures.objects c.in_err-found.ensures.same)
