use Rattle.std.proofs.Common.{[]}
use Rattle.octet_tail.proofs.Searching.{searches_start, searches_on}
use Rattle.octet_tail.proofs.search.Search.note_all.Goals as goal

pub pieces-init : goal.pieces-init
pieces-init c = searches_start c.args.self.now

pub returns-in_err-note_next-clause-searches : goal.returns-in_err-note_next-clause-searches
returns-in_err-note_next-clause-searches c = searches_on [] c.args.self.now c.pieces.self c.note_next.new.self c.pieces.invariant c.note_next.ensures.searches

pub returns-then-not-branch-clause-searches : goal.returns-then-not-branch-clause-searches
returns-then-not-branch-clause-searches c = searches_on [] c.args.self.now c.pieces.self c.note_next.new.self c.pieces.invariant c.note_next.ensures.searches

pub pieces-preserved : goal.pieces-preserved
pieces-preserved c = searches_on [] c.args.self.now c.pieces.self c.note_next.new.self c.pieces.invariant c.note_next.ensures.searches
