use Rattle.std.proofs.Common.{rules, refl, ◌∙◌, ap, Some}
use Rattle.octet_follow.specs.declared.follower.Follower.{Follower}
use Rattle.octet_follow.proofs.Following.{is_refilled, is_taken}
use Rattle.octet_follow.proofs.follower.Follower.refill.Goals as goal

pub returns-clause-up : goal.returns-clause-up
returns-clause-up c =
    (is_refilled c.args.self.now _ c.requires.up (c.is_out.ensures.out (search rules)) refl refl refl refl refl refl refl
    (λ first rest is. c.first_gap-self.ensures.some first rest (c.as_slice.ensures.value ∙ is)) (λ is. c.first_gap-self.ensures.none (c.as_slice.ensures.value ∙ is))).0

pub returns-clause-takes : goal.returns-clause-takes
returns-clause-takes c = λ out.
    let f : Follower = c.args.self.now in
    let g : Follower = record f { left = c.first_gap-self.result; after = c.left_after-self.result; marks = c.copy-taken.new.buffer; next = 0 } in
    let is =
    is_refilled f g c.requires.up (c.is_out.ensures.out (search rules)) refl refl refl refl refl refl refl
    (λ first rest is. c.first_gap-self.ensures.some first rest (c.as_slice.ensures.value ∙ is)) (λ is. c.first_gap-self.ensures.none (c.as_slice.ensures.value ∙ is)) in (
      ap Some c.copy-taken.ensures.fills,
      is_taken f g c.args.marks.now c.args.after c.copy-taken.result _ c.copy-taken.ensures.fills c.copy-taken.ensures.copied c.left_after-self.ensures is.1 is.2,
    )
