use Rattle.std.proofs.Common.{◌≡◌, ℕ, ◌++◌, ◌∷◌, [], List, length, get_or, refl, sym, ap, ◌∙◌, subst, arith, length-append, add-one}
use Rattle.octet_outcomes.specs.Rows.{RowsState}
use Rattle.octet_outcomes.specs.Moments.{no_moment}
use Rattle.octet_outcomes.specs.Searches.{AreLed, IsSearched}
use Rattle.octet_outcomes.proofs.Ways.{led_push, row_edges, row_more, RowTo}
use Rattle.octet_outcomes.proofs.search.Searched.follow_all.Goals as goal

pub loop-thread-init : goal.loop-thread-init
loop-thread-init c = record {
  searched = c.requires.searched;
  same = refl;
  there = c.requires.there;
  row = record {
    len = ap length c.clear.ensures.items;
    alone = c.alone-only.ensures.alone;
    right = λ thread place lt. absurd (omega (arith, lt));
    none = λ thread lt. absurd (omega (arith, lt));
  };
}

pub loop-thread-preserved : goal.loop-thread-preserved
loop-thread-preserved c =
    let i = c.loop-thread.invariant in
    let e = c.in_ok-edge.ensures in
    record {
      searched = e.searched;
      same = e.edges ∙ i.same;
      there = omega (arith, i.there, e.more.0);
      row = rw add-one (row_more c.args.script.now c.loop-thread.self.moments.moments c.edge.new.self.moments.moments c.args.place c.alone-only.result c.loop-thread.thread c.in_ok-edge.edge c.loop-thread.row.items c.push.new.self.items
          i.there e.more e.edge c.in_ok-push.ensures.items i.row);
    }

pub returns-in_err-add-clause-searched : goal.returns-in_err-add-clause-searched
returns-in_err-add-clause-searched c =
    let l = c.loop-thread.self in
    subst (λ (e : RowsState ℕ). IsSearched c.args.script.now (record { guides = l.guides; moments = l.moments; tree = l.tree; edges = e })) (sym c.in_err-add.ensures.err) c.loop-thread.invariant.searched

pub returns-clause-searched : goal.returns-clause-searched
returns-clause-searched c =
    let script = c.args.script.now in
    let l = c.loop-thread.self in
    let i = c.loop-thread.invariant in
    let ms = c.loop-thread.self.moments.moments in
    let row = c.deref.result.now in
    let added : c.add.new.self ≡ record { width = c.loop-thread.self.edges.width; rows = c.loop-thread.self.edges.rows ++ c.deref.result.now ∷ [] } = c.in_ok-add.ensures.ok in
    let next : c.args.place ≡ length c.loop-thread.self.edges.rows = c.requires.next ∙ ap (λ (e : RowsState ℕ). length e.rows) (sym i.same) in
    let all : c.loop-thread.thread ≡ length script.threads = omega (arith, c.thread_count-thread-end.ensures.count, c.loop-thread-test.false, c.loop-thread.auto.thread-end) in
    let to : RowTo script ms (get_or ms c.args.place no_moment) c.alone-only.result c.loop-thread.thread c.deref.result.now =
    subst (λ (r : List ℕ). RowTo script ms (get_or ms c.args.place no_moment) c.alone-only.result c.loop-thread.thread r) (sym c.deref.ensures.value) i.row in
    record {
      programs = i.searched.programs;
      moments = i.searched.moments;
      ways = i.searched.ways;
      width = ap (λ (e : RowsState ℕ). e.width) added ∙ i.searched.width;
      led = subst (λ (rs : List (List ℕ)). AreLed script ms rs) (sym (ap (λ (e : RowsState ℕ). e.rows) added))
          (led_push script ms c.loop-thread.self.edges.rows c.deref.result.now c.args.place next i.searched.led
          (row_edges script ms (get_or ms c.args.place no_moment) c.alone-only.result c.loop-thread.thread c.deref.result.now all c.alone-only.ensures.there to));
      within = omega (arith, ap (λ (e : RowsState ℕ). length e.rows) added, length-append c.loop-thread.self.edges.rows (c.deref.result.now ∷ []), next, i.there);
    }
