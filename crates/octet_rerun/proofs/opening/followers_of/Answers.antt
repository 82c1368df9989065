use Rattle.std.proofs.Common.{rules, ◌≡◌, ◌∙◌, List, [], ◌∷◌, ◌++◌, length, refl, sym, ap, subst, arith, length-append}
use Rattle.std.proofs.lemmas.List.{map-append}
use Rattle.octet_parallel.specs.declared.player.Player.{Player}
use Rattle.octet_rerun.specs.declared.follower.Follower.{Follower}
use Rattle.octet_rerun.specs.Reruns.{players_of, ArePlain}
use Rattle.octet_rerun.proofs.Followers.{plain_more}
use Rattle.octet_rerun.proofs.opening.followers_of.Goals as goal

pub loop-player-preserved : goal.loop-player-preserved
loop-player-preserved c =
    let i = c.loop-player.invariant in let made = c.loop-player.followers.items in
    let f : Follower = record { player = c.in-Some.player; thread = c.loop-player.thread; made = 0; accesses = 0 } in
    let pushed : c.push.new.self.items ≡ made ++ f ∷ [] = search rules in
    let next : c.loop-player.player-iterator.rest.items ≡ c.in-Some.player ∷ c.next.new.self.rest.items = search rules in record {
      players = ap players_of pushed ∙ (map-append (λ (g : Follower). g.player) made (f ∷ []) ∙ ap (λ (l : List Player). l ++ c.in-Some.player ∷ []) i.players);
      plain = subst (ArePlain 0) (sym pushed) (plain_more 0 made f i.plain (omega (arith, i.many)) refl refl);
      many = omega (arith, i.many, ap (λ (l : List Follower). length l) pushed, length-append made (f ∷ []));
      left = omega (arith, i.left, ap (λ (l : List Player). length l) next);
    }
