use Rattle.std.proofs.Common.{rules, ◌≡◌, ◌∷◌, ◌++◌, [], All, Err, length, length-append, ap, sym, subst, arith, suc}
use Rattle.std.specs.Prelude.{IfErr}
use Rattle.octet_host.specs.HandedBack.{IsAtWork, Both, RefusesToClose}
use Rattle.octet_host.proofs.lemmas.Noted.{AreNotedSoFar, noted_more}
use Rattle.octet_host.proofs.lemmas.Taking.{AreTaken, one_more, shared_by_one, next_is}
use Rattle.octet_host.proofs.Refusing.{refuses_all}
use Rattle.octet_host.proofs.handing_in.hand_in_all.Goals as goal

pub returns-in_err-all-clause-refused : goal.returns-in_err-all-clause-refused
returns-in_err-all-clause-refused g c =
    let l = c.loop-thread in let it = c.in-Some.thread in let threads = c.args.threads.items in let others = c.next.new.self.rest.items in let fault = c.in_err-all.field-0.0 in
    let next : l.thread-iterator.rest.items ≡ it ∷ others = search rules in
    let count : c.len-count.result ≡ length threads = search rules in
    let same : c.from_residual.result ≡ Err fault = search rules in
    let h = g.T.HandIn in
    subst (λ r. IfErr r (RefusesToClose h.stage h.IsAt h.IsAmong h.IsNotWhole h.IsTooLong threads)) (sym same)
    (refuses_all h.stage h.IsAt h.IsAmong threads l.number l.thread-iterator.rest.items others it next l.invariant.taken h.IsNotWhole h.IsTooLong c.len-count.result count fault c.in_err-all.ensures.refused)

pub loop-thread-preserved : goal.loop-thread-preserved
loop-thread-preserved g c =
    let l = c.loop-thread in let it = c.in-Some.thread in let threads = c.args.threads.items in let others = c.next.new.self.rest.items in
    let h = g.T.HandIn in let Is = Both h.IsAt h.IsAmong in let note = c.in_ok-all.note in let notes = l.notes.items in
    let next : l.thread-iterator.rest.items ≡ it ∷ others = search rules in
    let all : All h.IsGood (it ∷ others) = subst (All h.IsGood) next l.invariant.good in
    let count : c.len-count.result ≡ length threads = search rules in
    let place : Is l.number (length threads) it = subst (λ n. Is l.number n it) count c.in_ok-all.ensures.place in
    let pushed : c.push.new.self.items ≡ notes ++ note ∷ [] = search rules in record {
      good = λ k d lt. all (suc k) d (omega (arith, lt));
      taken = subst (λ n. AreTaken (λ x. IsAtWork (h.stage x) → ⊥) Is threads n others) (omega arith)
          (one_more (λ x. IsAtWork (h.stage x) → ⊥) Is threads l.number l.thread-iterator.rest.items others it next l.invariant.taken place c.in_ok-all.ensures.still);
      shared = shared_by_one (λ x. IsAtWork (h.stage x) → ⊥) Is threads l.number l.thread-iterator.rest.items others it next l.invariant.taken h.shared c.in_ok-all.all c.in_ok-all.ensures.shared;
      some_are = l.invariant.some_are;
      many = omega (arith, ap length pushed, length-append notes (note ∷ []), l.invariant.many);
      noted = subst (AreNotedSoFar h.IsNoted threads) (sym pushed)
          (noted_more h.IsNoted threads notes l.number it note l.invariant.many (next_is (λ x. IsAtWork (h.stage x) → ⊥) Is threads l.number l.thread-iterator.rest.items others it next l.invariant.taken) c.in_ok-all.ensures.noted l.invariant.noted);
    }
