use Rattle.std.proofs.Common.{◌≡◌, ◌∙◌, ◌+◌, ◌++◌, ℕ, List, [], codes, length, refl, sym, ap, arith, append-nil}
use Rattle.std.specs.Fmt.{decimal}
use Rattle.octet_interp.specs.Following.{places_ahead, PassesRegion, PassesNone}
use Rattle.octet_commands.specs.Answer.{place_text}
use Rattle.octet_commands.specs.TraceTexts.{line_in, line_words, region_lines}
use Rattle.octet_commands.proofs.answering.Told.{counts_on, one_more_region}
use Rattle.octet_commands.proofs.trace.push_regions.Goals as goal

pub loop-command-preserved : goal.loop-command-preserved
loop-command-preserved c =
    let place = c.args.place in
    let before = c.loop-command.follower in
    let after = c.next_region.new.self in
    let passes : PassesRegion before c.in-Some.command after = c.in-Some.ensures.tells in
    let out = c.loop-command.out.items in
    let line = line_in c.args.lines.now place.thread c.in-Some.command in
    let is_place : place_text (record { thread = c.from.result; event = c.from-in-Some.result }) ≡ place_text place = λ i. place_text (record { thread = c.from.ensures i; event = c.from-in-Some.ensures i }) in
    let grown : c.extend_from_slice-in-Some.new.self.items ≡ out ++ place_text place ++ codes " region " ++ decimal after.regions ++ line_words line ++ codes "\n" =
    c.in_ok-extend_from_slice-2.ensures.items
    ∙ ap (λ (l : List ℕ). l ++ codes "\n") (c.in_ok-push_line.ensures
    ∙ ap (λ (n : ℕ). c.push_number.new.out.items ++ line_words n) c.line_in.ensures
    ∙ ap (λ (l : List ℕ). l ++ line_words line) (c.in_ok-push_number.ensures
    ∙ ap (λ (n : ℕ). c.extend_from_slice.new.self.items ++ decimal n) (c.from-in-Some-2.ensures ∙ c.regions.ensures)
    ∙ ap (λ (l : List ℕ). l ++ decimal after.regions) (c.in_ok-extend_from_slice.ensures.items
    ∙ ap (λ (l : List ℕ). l ++ codes " region ") (c.in_ok-push_place.ensures
    ∙ ap (λ (l : List ℕ). out ++ l) is_place)))) in
    record {
      told = one_more_region c.args.lines.now place _ out _ _ c.in-Some.command before after passes c.loop-command.invariant.counts grown c.loop-command.invariant.told;
      counts = counts_on _ c.in-Some.command before after passes c.loop-command.invariant.counts;
      settles = passes.settles ∙ c.loop-command.invariant.settles;
      commands = c.in-Some.ensures.commands ∙ c.loop-command.invariant.commands;
    }

pub loop-command-smaller : goal.loop-command-smaller
loop-command-smaller c =
    let passes : PassesRegion c.loop-command.follower c.in-Some.command c.next_region.new.self = c.in-Some.ensures.tells in
    let fewer = ap (λ (l : List ℕ). length l) passes.ahead in
    omega (arith, fewer)

pub returns : goal.returns
returns c =
    let before = c.args.follower.now in
    let ahead = places_ahead before.commands before.at in
    let last = before.regions + length ahead in
    let passes : PassesNone c.loop-command.follower c.next_region.new.self = c.in_default.ensures.tells in
    let all : c.loop-command.out.items ++ region_lines c.args.lines.now c.args.place last [] ≡ c.args.out.now.items ++ region_lines c.args.lines.now c.args.place last ahead =
    ap (λ (l : List ℕ). c.loop-command.out.items ++ region_lines c.args.lines.now c.args.place last l) (sym passes.none) ∙ c.loop-command.invariant.told in (
      region_lines c.args.lines.now c.args.place last ahead,
      sym (append-nil c.loop-command.out.items) ∙ all,
      record {
        told = refl;
        none_left = passes.none_left;
        regions = omega (arith, passes.regions, c.loop-command.invariant.counts, ap (λ (l : List ℕ). length l) passes.none);
        stands = passes.stands ∙ c.loop-command.invariant.settles;
        settles = passes.settles ∙ c.loop-command.invariant.settles;
        commands = c.in_default.ensures.commands ∙ c.loop-command.invariant.commands;
      },
    )
