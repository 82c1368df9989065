use Rattle.std.proofs.Common.{◌≡◌, ℕ, ◌+◌, ◌∷◌, ◌++◌, [], List, suc, length, map, take, get_or, sym, ap, subst, ◌∙◌, arith, length-append}
use Rattle.std.proofs.lemmas.List.{take_more, map-append}
use Rattle.octet_interp.specs.declared.program.Stand.{Stand}
use Rattle.octet_outcomes.specs.Moments.{IsRowOf, moment_of, start_of}
use Rattle.octet_outcomes.proofs.Naming.{row_pushed}
use Rattle.octet_outcomes.proofs.moments.first_row.Goals as goal

pub loop-guide-preserved : goal.loop-guide-preserved
loop-guide-preserved c =
    let i = c.loop-guide.guide-index in
    let k = c.in_ok-number.ensures.keeps in
    let row = c.loop-guide.row.items in
    let pushed : c.push-in-loop-guide.new.self.items ≡ row ++ c.in_ok-number.number ∷ [] = c.in_ok-push-2.ensures.items in
    let item : c.start.result ≡ start_of c.args.fuel (get_or c.args.guides.now i c.guide-item.result) = c.start.ensures ∙ ap (start_of c.args.fuel) c.guide-item.is in
    let p = row_pushed c.loop-guide.stands c.add-in-loop-guide.new.self c.add.new.self.rows row c.start.result c.in_ok-number.number (map (start_of c.args.fuel) (take i c.args.guides.now)) c.args.heap.now
    k.grows c.loop-guide.invariant.row c.loop-guide.invariant.names k.there k.is in
    let more : map (start_of c.args.fuel) (take i c.args.guides.now) ++ c.start.result ∷ [] ≡ map (start_of c.args.fuel) (take (i + 1) c.args.guides.now) =
    ap (λ (s : Stand). map (start_of c.args.fuel) (take i c.args.guides.now) ++ s ∷ []) item
    ∙ sym (map-append (start_of c.args.fuel) (take i c.args.guides.now) (get_or c.args.guides.now i c.guide-item.result ∷ []))
    ∙ ap (map (start_of c.args.fuel)) (sym (take_more c.args.guides.now i c.guide-item.result c.loop-guide-test.true)) in
    record {
      row = subst (λ (r : List ℕ). IsRowOf (length c.add-in-loop-guide.new.self) (length c.add.new.self.rows) r) (sym pushed) p.0;
      len = ap length pushed ∙ (let e : length (row ++ c.in_ok-number.number ∷ []) ≡ suc (i + 1) = omega (arith, length-append row (c.in_ok-number.number ∷ []), c.loop-guide.invariant.len) in e);
      names = ap (moment_of c.add-in-loop-guide.new.self c.add.new.self.rows) pushed ∙ p.1 ∙ ap (λ (ss : List Stand). record { stands = ss; heap = c.args.heap.now }) more;
    }
