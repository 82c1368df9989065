use Rattle.std.proofs.Common.{sym, refl, arith, ◌∙◌}
use Rattle.octet_regions.proofs.LastAccesses.{keeps_both, keeps_read, keeps_no_access}
use Rattle.octet_regions.proofs.last.LastRegions.note.Goals as goal

pub returns-in_default : goal.returns-in_default
returns-in_default c = λ seen keeps. keeps_no_access seen c.args.access c.args.self.now (sym c.object.ensures ∙ c.in_default.is) keeps

pub returns-in_ok-note-2 : goal.returns-in_ok-note-2
returns-in_ok-note-2 c = λ seen keeps.
    keeps_both seen c.args.access c.args.self.now (record { all = c.note.new.self; writing = c.note-then-writes.new.self }) c.in-Some.object _ (sym c.object.ensures ∙ c.in-Some.is) (sym c.writes.ensures ∙ c.if-writes.true) (omega arith) c.in_ok-note.ensures c.in_ok-note-2.ensures keeps

pub returns-else-writes : goal.returns-else-writes
returns-else-writes c = λ seen keeps.
    keeps_read seen c.args.access c.args.self.now (record { all = c.note.new.self; writing = c.args.self.now.writing }) c.in-Some.object _ (sym c.object.ensures ∙ c.in-Some.is) (sym c.writes.ensures ∙ c.if-writes.false) (omega arith) c.in_ok-note.ensures refl keeps
