use Rattle.std.proofs.Common.{◌≡◌, ℕ, Bool, true, false, ◌∙◌, max, sym, ap, subst}
use Rattle.octet_clock.specs.LastAccesses.{conflicts_with, read_in, written_in, IsLastOf}
use Rattle.octet_clock.specs.Play.{made_by}
use Rattle.octet_clock.proofs.checks.Conflicts.{last_write_conflicts, later_conflicts}
use Rattle.octet_clock.proofs.accesses.Accesses.last_conflict.Goals as goal

pub returns-then-not-writing : goal.returns-then-not-writing
returns-then-not-writing c = λ journals play index keeps.
    let last = last_write_conflicts journals c.args.object c.args.thread (made_by play index c.args.thread) _ (keeps.writes c.args.object c.args.thread) in
    let counted = subst (λ (n : ℕ). IsLastOf journals (conflicts_with c.args.object false) c.args.thread (made_by play index c.args.thread) n) (sym c.last_write-write.ensures) last in
    subst (λ (w : Bool). IsLastOf journals (conflicts_with c.args.object w) c.args.thread (made_by play index c.args.thread) c.last_write-write.result) (sym c.if-not-writing.true) counted

pub returns : goal.returns
returns c = λ journals play index keeps.
    let writes = written_in c.args.self.now.objects.items c.args.object c.args.thread in
    let reads = read_in c.args.self.now.objects.items c.args.object c.args.thread in
    let last = later_conflicts journals c.args.object c.args.thread (made_by play index c.args.thread) writes reads (keeps.writes c.args.object c.args.thread) (keeps.reads c.args.object c.args.thread) in
    let is : max writes reads ≡ c.max.result = sym (c.max.ensures ∙ ap (λ (n : ℕ). max n c.last_read.result) c.last_write-write.ensures ∙ ap (max writes) c.last_read.ensures) in
    let counted = subst (λ (n : ℕ). IsLastOf journals (conflicts_with c.args.object true) c.args.thread (made_by play index c.args.thread) n) is last in
    subst (λ (w : Bool). IsLastOf journals (conflicts_with c.args.object w) c.args.thread (made_by play index c.args.thread) c.max.result) (sym c.if-not-writing.false) counted
