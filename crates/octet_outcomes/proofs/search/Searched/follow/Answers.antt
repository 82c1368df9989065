use Rattle.std.proofs.Common.{◌≡◌, ◌≤◌, [], length, get_or, refl, sym, ap, subst, ◌∙◌, arith, append-nil}
use Rattle.std.proofs.lemmas.List.{get_or_default}
use Rattle.octet_interp.specs.Standing.{ThreadProgram}
use Rattle.octet_outcomes.specs.Moments.{no_moment, MomentsState}
use Rattle.octet_outcomes.specs.Runs.{no_program, AreMomentsOf}
use Rattle.octet_outcomes.specs.Searches.{AreFound, AreLed, Extends}
use Rattle.octet_outcomes.proofs.Closing.{led_more}
use Rattle.octet_outcomes.proofs.Ways.{followed, found_noted, noted_next, numbered}
use Rattle.octet_outcomes.proofs.search.Searched.follow.Goals as goal

pub returns-in_err-note-clause-searched : goal.returns-in_err-note-clause-searched
returns-in_err-note-clause-searched c =
    let s = c.requires.searched in
    record {
      programs = s.programs;
      moments = s.moments;
      ways = found_noted c.args.script.now c.args.self.now.moments.moments c.len.result c.args.self.now.tree.steps.items c.note.new.self.steps.items [] c.len.ensures s.ways (c.in_err-note.ensures.err ∙ sym (append-nil _));
      width = s.width;
      led = s.led;
      within = s.within;
    }

pub returns-in_err-found-clause-searched : goal.returns-in_err-found-clause-searched
returns-in_err-found-clause-searched c =
    let script = c.args.script.now in
    let old = c.args.self.now in
    let s = c.requires.searched in
    let same = sym c.in_err-found.ensures.err in
    let ways = found_noted script old.moments.moments c.len.result old.tree.steps.items c.note.new.self.steps.items _ c.len.ensures s.ways c.in_ok-note.ensures.ok in
    record {
      programs = s.programs;
      moments = subst (λ (m : MomentsState). AreMomentsOf script m) same s.moments;
      ways = subst (λ (m : MomentsState). AreFound script m.moments c.note.new.self.steps.items) same ways;
      width = s.width;
      led = subst (λ (m : MomentsState). AreLed script m.moments old.edges.rows) same s.led;
      within = subst (λ (m : MomentsState). length old.edges.rows ≤ length m.moments) same s.within;
    }

pub returns-in_err-found-clause-more : goal.returns-in_err-found-clause-more
returns-in_err-found-clause-more c = subst (λ (m : MomentsState). Extends c.args.self.now.moments.moments m.moments) (sym c.in_err-found.ensures.err) (omega arith, λ k below. refl)

pub returns : goal.returns
returns c =
    let script = c.args.script.now in
    let old = c.args.self.now in
    let s = c.requires.searched in
    let t = c.args.thread in
    let guide = c.index.result.now in
    let program : guide ≡ get_or old.guides.items t no_program =
    c.index.ensures ∙ get_or_default old.guides.items t guide no_program (omega (arith, c.requires.thread, s.programs.len)) in
    let commands = ap (λ (p : ThreadProgram). p.commands) program ∙ s.programs.commands t c.requires.thread in
    let ways = found_noted script old.moments.moments c.len.result old.tree.steps.items c.note.new.self.steps.items _ c.len.ensures s.ways c.in_ok-note.ensures.ok in
    let next = noted_next (length old.moments.moments) c.len.result old.tree.steps.items c.note.new.self.steps.items _ c.len.ensures s.ways.len c.in_ok-note.ensures.ok in
    let f = followed script old.moments c.follow.new.self c.args.place t c.note.new.self.steps.items s.moments ways c.requires.there c.requires.thread next.0 next.1
    c.in_ok-found.found guide.commands commands c.in_ok-found.ensures.found in
    record {
      searched = record {
        programs = s.programs;
        moments = f.moments;
        ways = f.ways;
        width = s.width;
        led = led_more script old.moments.moments c.follow.new.self.moments old.edges.rows s.within f.extends s.led;
        within = omega (arith, s.within, f.extends.0);
      };
      more = f.extends;
      edges = refl;
      edge = numbered script c.follow.new.self.moments (get_or old.moments.moments c.args.place no_moment) t c.in_ok-found.found c.edge_of.result c.edge_of.ensures f.edge;
    }
