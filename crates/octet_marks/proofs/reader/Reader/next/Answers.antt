use Rattle.std.proofs.Common.{◌≡◌, ◌∙◌, drop, refl, ap, sym}
use Rattle.std.proofs.lemmas.List.{drop-drop}
use Rattle.octet_marks.proofs.reader.Reader.next.Goals as goal

pub returns-in-Ok-Some : goal.returns-in-Ok-Some
returns-in-Ok-Some c =
    let old = c.args.self.now in
    let bytes : c.split_at.result.1.now ≡ drop old.taken old.left.items = c.split_at.ensures.back ∙ ap (drop old.taken) c.as_slice.ensures.value in
    let judged = rw (c.in-Ok-Some.field-0-is, bytes) at c.in-Ok-Some.ensures.judged in
    record {
      read = record { piece = c.in-Ok-Some.piece; threads = c.read_next.new.threads.items; size = c.in-Ok-Some.size };
      is = judged;
      piece_is = refl;
      after_is = λ i. record { threads = c.read_next.new.threads.items; place = c.saturating_add-self.ensures i; bytes = sym (drop-drop c.in-Ok-Some.size old.taken old.left.items) i };
    }
