-- A thread stays one of its run while it takes what it is fed.
use Rattle.std.proofs.Common.{◌≡◌, ◌∙◌, ℕ, ◌≤◌, List, [], ◌∷◌, ◌++◌, length, Option, Some, None, IfSome, vec_capacity, refl, sym, ap, subst, arith, append-nil}
use Rattle.rtrb.specs.Ring.{received}
use Rattle.octet_model.specs.declared.log.Gapped.{Gapped}
use Rattle.octet_follow.specs.Blocks.{TakesBlock}
use Rattle.octet_follow.specs.Calls.{room_of, IsFollowerOf}
use Rattle.octet_follow.specs.declared.follower.Follower.{Follower}
use Rattle.octet_stream.specs.declared.gathering.Gathered.TheVariants as gathered
use Rattle.octet_stream.specs.declared.item.Item.{Item}
use Rattle.octet_stream.specs.declared.item.Item.TheVariants.{BlockEnd}
use Rattle.octet_stream.specs.declared.long_follower.LongFollower.{LongFollower}
use Rattle.octet_stream.specs.declared.long_rerun.LongRerun.{LongRerun}
use Rattle.octet_stream.specs.Fed.{Gathers, IsFed}
use Rattle.octet_stream.specs.Followers.{IsLongFollowerOf}
use Rattle.octet_stream.specs.Items.{digest_in}
use Rattle.octet_stream.proofs.Fed.{digest_split, fed_block, fed_gathered, fed_end, fed_break}

module _ (rerun : LongRerun) (v w : LongFollower) (own : IsLongFollowerOf rerun v) (compared : v.expected ≡ None) where
  abbrev Waiting : Option ℕ → LongFollower → Type 0
  Waiting expected thread = IfSome expected (λ digest. digest_in None (received thread.feed) ≡ Some digest)

  nothing_expected : (thread : LongFollower) → thread.expected ≡ None → Waiting thread.expected thread
  nothing_expected thread is = subst (λ (o : Option ℕ). Waiting o thread) (sym is) tt

  -- what was gathered waits for more
  pub waits_for_more : w.follower ≡ v.follower → w.expected ≡ v.expected → vec_capacity w.marks ≡ vec_capacity v.marks → Gathers gathered.Nothing (received v.feed) v.marks.items (received w.feed) w.marks.items → IsLongFollowerOf rerun w
  waits_for_more follower expected room gathers =
      let g = fed_gathered gathered.Nothing (received v.feed) (received w.feed) v.follower v.marks.items w.marks.items own.fed gathers in
      let now : received w.feed ≡ g.0 = g.1 ∙ append-nil g.0 in record {
        own = subst (λ (f : Follower). IsFollowerOf rerun.course f) (sym follower) own.own;
        fed = subst (λ (f : Follower). IsFed (received w.feed) f w.marks.items) (sym follower) (subst (λ (l : List Item). IsFed l v.follower w.marks.items) (sym now) g.2);
        room = omega (arith, own.room, room, ap (λ (f : Follower). room_of f) follower);
        expects = nothing_expected w (expected ∙ compared);
      }

  -- the recording of the thread ends or breaks off
  pub ends : w.follower ≡ v.follower → w.expected ≡ v.expected → vec_capacity w.marks ≡ vec_capacity v.marks → Gathers gathered.ThreadEnd (received v.feed) v.marks.items (received w.feed) w.marks.items → IsLongFollowerOf rerun w
  ends follower expected room gathers =
      let g = fed_gathered gathered.ThreadEnd (received v.feed) (received w.feed) v.follower v.marks.items w.marks.items own.fed gathers in record {
        own = subst (λ (f : Follower). IsFollowerOf rerun.course f) (sym follower) own.own;
        fed = subst (λ (f : Follower). IsFed (received w.feed) f w.marks.items) (sym follower) (subst (λ (l : List Item). IsFed l v.follower w.marks.items) (sym g.1) (fed_end g.0 v.follower w.marks.items g.2));
        room = omega (arith, own.room, room, ap (λ (f : Follower). room_of f) follower);
        expects = nothing_expected w (expected ∙ compared);
      }

  pub breaks_off : w.follower ≡ v.follower → w.expected ≡ v.expected → vec_capacity w.marks ≡ vec_capacity v.marks → Gathers gathered.BreaksOff (received v.feed) v.marks.items (received w.feed) w.marks.items → IsLongFollowerOf rerun w
  breaks_off follower expected room gathers =
      let g = fed_gathered gathered.BreaksOff (received v.feed) (received w.feed) v.follower v.marks.items w.marks.items own.fed gathers in record {
        own = subst (λ (f : Follower). IsFollowerOf rerun.course f) (sym follower) own.own;
        fed = subst (λ (f : Follower). IsFed (received w.feed) f w.marks.items) (sym follower) (subst (λ (l : List Item). IsFed l v.follower w.marks.items) (sym g.1) (fed_break g.0 v.follower w.marks.items g.2));
        room = omega (arith, own.room, room, ap (λ (f : Follower). room_of f) follower);
        expects = nothing_expected w (expected ∙ compared);
      }

  -- a part of a block is given
  pub gives_part : (now : List Item) (marks : List Gapped) → IsFollowerOf rerun.course w.follower → received w.feed ≡ now → w.marks.items ≡ [] → vec_capacity w.marks ≤ room_of w.follower → w.expected ≡ v.expected
      → Gathers gathered.Full (received v.feed) v.marks.items now marks → TakesBlock (length marks) marks 0 v.follower w.follower → IsLongFollowerOf rerun w
  gives_part now marks follower feed none room expected gathers takes =
      let g = fed_gathered gathered.Full (received v.feed) now v.follower v.marks.items marks own.fed gathers in
      let fed = fed_block g.0 v.follower marks g.2 [] w.follower 0 refl (omega arith) takes in record {
        own = follower;
        fed = subst (λ (l : List Item). IsFed l w.follower w.marks.items) (sym (feed ∙ g.1)) (subst (λ (l : List Gapped). IsFed (g.0 ++ []) w.follower l) (sym none) fed);
        room = room;
        expects = nothing_expected w (expected ∙ compared);
      }

  -- a block is given, or its last part. Its digest is expected
  pub gives_block : (now : List Item) (marks : List Gapped) (gap after digest : ℕ) → IsFollowerOf rerun.course w.follower → received w.feed ≡ now → w.marks.items ≡ [] → vec_capacity w.marks ≤ room_of w.follower → w.expected ≡ Some digest
      → Gathers (gathered.BlockEnd gap digest) (received v.feed) v.marks.items now marks → after ≡ gap → TakesBlock (length marks) marks after v.follower w.follower → IsLongFollowerOf rerun w
  gives_block now marks gap after digest follower feed none room expected gathers same takes =
      let g = fed_gathered (gathered.BlockEnd gap digest) (received v.feed) now v.follower v.marks.items marks own.fed gathers in
      let fed = fed_block g.0 v.follower marks g.2 (BlockEnd gap digest ∷ []) w.follower gap refl refl (subst (λ (n : ℕ). TakesBlock (length marks) marks n v.follower w.follower) same takes) in
      let digests : digest_in None (received w.feed) ≡ Some digest = ap (λ (l : List Item). digest_in None l) (feed ∙ g.1) ∙ digest_split None g.0 (BlockEnd gap digest ∷ []) in record {
        own = follower;
        fed = subst (λ (l : List Item). IsFed l w.follower w.marks.items) (sym (feed ∙ g.1)) (subst (λ (l : List Gapped). IsFed (g.0 ++ (BlockEnd gap digest ∷ [])) w.follower l) (sym none) fed);
        room = room;
        expects = subst (λ (o : Option ℕ). Waiting o w) (sym expected) digests;
      }
