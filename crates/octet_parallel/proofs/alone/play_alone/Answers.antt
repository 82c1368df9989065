use Rattle.std.proofs.Common.{rules, ◌≡◌, ◌∙◌, All, List, length, sym, subst}
use Rattle.std.proofs.Math.ListN.{drop}
use Rattle.std.proofs.lemmas.List.{take_at}
use Rattle.std.proofs.lemmas.Slice.Zip.{AllZip-long}
use Rattle.octet_parallel.specs.declared.alone.Alone.{Alone}
use Rattle.octet_parallel.specs.Alone.{HavePlayedAlone, IsReady, PlaysAlone}
use Rattle.std.specs.List.{AllZip}
use Rattle.octet_parallel.proofs.solo.Together.{all_ready, have_played}
use Rattle.octet_parallel.proofs.alone.play_alone.Goals as goal

pub play_each-requires : goal.play_each-requires
play_each-requires g c =
    let log = c.args.log.now.threads in
    let made = c.in_ok-threads.ensures in
    let ready : All (IsReady log) c.as_mut_slice.result.now =
    subst (All (IsReady log)) (sym c.as_mut_slice.ensures.value) (all_ready c.args.script.now log c.in_ok-threads.threads.items made.each made.as_many) in
    (search rules, (search rules, ready))

pub returns : goal.returns
returns g c =
    let script = c.args.script.now in
    let log = c.args.log.now.threads in
    let made = c.in_ok-threads.ensures in
    let before = c.in_ok-threads.threads.items in
    let after = c.play_each.new.threads in
    let played : AllZip (PlaysAlone log) before after = subst (λ (xs : List Alone). AllZip (PlaysAlone log) xs after) c.as_mut_slice.ensures.value c.play_each.ensures in
    let as_many : length before ≡ c.in_ok-threads.threads.len = search rules in
    let whole = take_at after (drop (length after) before) c.in_ok-threads.threads.len (AllZip-long (PlaysAlone log) before after played ∙ as_many) in
    subst (HavePlayedAlone script log) (sym whole) (have_played script log before after made.each made.as_many played)
