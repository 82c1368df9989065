use Rattle.std.proofs.Common.{◌≡◌, ◌∙◌, ◌++◌, ℕ, List, codes, ap}
use Rattle.octet_commands.specs.Answer.{place_text}
use Rattle.octet_commands.specs.EventTexts.{event_text, placed_text}
use Rattle.octet_commands.specs.TraceTexts.{line_in, made_by}
use Rattle.octet_commands.specs.Tracing.{TellsRegions}
use Rattle.octet_commands.proofs.answering.Told.{can_follow, event_told, tells_event}
use Rattle.octet_commands.proofs.trace.push_lines.Goals as goal

pub follow-requires : goal.follow-requires
follow-requires c = let told = c.in_ok-push_regions.ensures in can_follow c.args.lines.now c.args.place c.args.event c.args.follower.now c.push_regions.new.follower told.0 told.2 c.requires

pub returns-clause-told : goal.returns-clause-told
returns-clause-told c =
    let script = c.args.script.now in
    let lines = c.args.lines.now in
    let place = c.args.place in
    let event = c.args.event in
    let mid = c.push_regions.new.follower in
    let text = c.args.out.now.items in
    let told = c.in_ok-push_regions.ensures in
    let regions = told.0 in
    let tells : TellsRegions lines place c.args.follower.now regions mid = told.2 in
    let line = c.line_in-line.result in
    let stands : line ≡ line_in lines place.thread mid.at.place = c.line_in-line.ensures ∙ ap (line_in lines place.thread) c.place.ensures in
    let is_place : place_text (record { thread = c.from.result; event = c.from-2.result }) ≡ place_text place = λ i. place_text (record { thread = c.from.ensures i; event = c.from-2.ensures i }) in
    let grown : c.extend_from_slice-2.new.self.items ≡ text ++ regions ++ place_text place ++ codes " " ++ event_text script event ++ made_by line event ++ codes "\n" =
    c.in_ok-extend_from_slice-2.ensures.items
    ∙ ap (λ (l : List ℕ). l ++ codes "\n") (c.in_ok-push_made_by.ensures
    ∙ ap (λ (l : List ℕ). l ++ made_by line event) (c.in_ok-push_event.ensures
    ∙ ap (λ (l : List ℕ). l ++ event_text script event) (c.in_ok-extend_from_slice.ensures.items
    ∙ ap (λ (l : List ℕ). l ++ codes " ") (c.in_ok-push_place.ensures
    ∙ ap (λ (l : List ℕ). c.push_regions.new.out.items ++ l) is_place
    ∙ ap (λ (l : List ℕ). l ++ place_text place) told.1)))) in (
      regions ++ placed_text script place event ++ made_by line event ++ codes "\n",
      grown ∙ event_told script place event line text regions,
      tells_event lines script place event c.args.follower.now mid c.follow.new.self regions line tells c.follow.ensures.follows stands,
    )
