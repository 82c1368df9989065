use Rattle.std.proofs.Common.{rules, ◌≡◌, ◌∙◌, length, ap, sym, subst}
use Rattle.octet_recorder.specs.Tracks.{EachNew}
use Rattle.octet_script.specs.Spelling.{Spells}
use Rattle.octet_host_script.specs.Opened.{EachFirst}
use Rattle.octet_host_script.proofs.opening.open.Goals as goal

pub seat_all-requires-clause-new : goal.seat_all-requires-clause-new
seat_all-requires-clause-new c =
    let items : c.into_vec-tracks.result.items ≡ c.in_ok-recorder.tracks = search rules in
    subst (λ recorder. EachNew recorder c.into_vec-tracks.result.items) (sym c.in_ok-heap.ensures)
    (subst (EachNew c.in_ok-recorder.recorder) (sym items) c.in_ok-recorder.ensures.tracks.1)

pub returns-clause-opens : goal.returns-clause-opens
returns-clause-opens c =
    let items : c.into_vec-tracks.result.items ≡ c.in_ok-recorder.tracks = search rules in record {
      recorder = c.in_ok-recorder.recorder;
      spelled = subst (Spells c.args.text.now) (sym c.in_ok-recorder.ensures.opening) c.in_ok-script.ensures.spelled;
      count = c.in_ok-seat_all.ensures.count ∙ (ap length items ∙ c.in_ok-recorder.ensures.tracks.0);
      share = (c.in_ok-heap.heap.value, c.in_ok-seat_all.ensures.share);
      each = subst (λ recorder. EachFirst recorder c.in_ok-seat_all.field-0.items) c.in_ok-heap.ensures c.in_ok-seat_all.ensures.first;
    }
