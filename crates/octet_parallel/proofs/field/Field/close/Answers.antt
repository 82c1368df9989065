use Rattle.std.proofs.Common.{◌≡◌, ◌∙◌, ◌≢◌, ◌<◌, All, List, map, length, ap, subst, Some, None}
use Rattle.octet_replay.specs.Threads.{end_told, values_of}
use Rattle.octet_parallel.specs.declared.fate.Fate.TheVariants.{Playing}
use Rattle.octet_parallel.specs.declared.player.Player.{Player}
use Rattle.octet_parallel.specs.Calls.{fate_at}
use Rattle.octet_parallel.proofs.verdicts.Concluding.{each_of, some_amiss, none_stopped, journals_told, is_finished, after_run}
use Rattle.octet_parallel.proofs.field.Field.close.Goals as goal

pub close-requires : goal.close-requires
close-requires c =
    each_of c.args.self c.args.players c.requires.all c.requires.ended c.in_ok-left.left.seats.items (c.in_ok-left.ensures.seats ∙ ap (λ (l : List Player). map (λ (p : Player). p.seat) l) c.into_vec.ensures)

pub returns-in-Some-clause-closes : goal.returns-in-Some-clause-closes
returns-in-Some-clause-closes c =
    let seats = c.in_ok-left.ensures.seats ∙ ap (λ (l : List Player). map (λ (p : Player). p.seat) l) c.into_vec.ensures in
    let some = subst (λ (l : List Player). (c.in-Some._place < length l) × (fate_at l c.in-Some._place ≢ Playing)) c.as_slice.ensures c.in-Some.ensures.some in
    some_amiss c.args.self c.args.players c.requires.all c.requires.ended c.in_ok-left.left.seats.items c.in_ok-cells.cells.items seats c.in_ok-cells.ensures c.in-Some._place some.0 some.1

pub returns-in-Some-clause-run : goal.returns-in-Some-clause-run
returns-in-Some-clause-run c =
    let seats = c.in_ok-left.ensures.seats ∙ ap (λ (l : List Player). map (λ (p : Player). p.seat) l) c.into_vec.ensures in
    after_run c.args.self c.args.players c.requires.all c.requires.ended c.in_ok-left.left.seats.items c.in_ok-cells.cells.items seats c.in_ok-cells.ensures None tt

pub returns-clause-run : goal.returns-clause-run
returns-clause-run c =
    let seats = c.in_ok-left.ensures.seats ∙ ap (λ (l : List Player). map (λ (p : Player). p.seat) l) c.into_vec.ensures in
    after_run c.args.self c.args.players c.requires.all c.requires.ended c.in_ok-left.left.seats.items c.in_ok-cells.cells.items seats c.in_ok-cells.ensures (Some _) c.from_vec.ensures

pub returns-clause-closes : goal.returns-clause-closes
returns-clause-closes c =
    let seats = c.in_ok-left.ensures.seats ∙ ap (λ (l : List Player). map (λ (p : Player). p.seat) l) c.into_vec.ensures in
    let play = subst (λ (l : List Player). All (λ (p : Player). p.fate ≡ Playing) l) c.as_slice.ensures c.in-None.ensures.none in
    let journals = c.in_ok-left.ensures.journals ∙ ap (λ (l : List Player). map (λ (p : Player). p.journal.items) l) c.into_vec.ensures in (
      none_stopped c.args.self c.args.players c.requires.all c.requires.ended c.in_ok-left.left.seats.items c.in_ok-cells.cells.items seats c.in_ok-cells.ensures play,
      journals ∙ journals_told c.args.self c.args.players c.requires.all c.requires.ended c.in_ok-left.left.seats.items c.in_ok-cells.cells.items seats c.in_ok-cells.ensures play,
      is_finished c.args.self c.args.players c.requires.all c.requires.ended c.in_ok-left.left.seats.items c.in_ok-cells.cells.items seats c.in_ok-cells.ensures play _
          journals
          (c.in_ok-left.ensures.reads ∙ ap (λ (l : List Player). map (λ (p : Player). values_of p.replay) l) c.into_vec.ensures)
          (c.in_ok-ends.ensures ∙ ap (λ (l : List Player). map (λ (p : Player). end_told p.replay) l) c.as_slice-2.ensures)
          c.from_vec.ensures,
    )
