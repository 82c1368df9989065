use Rattle.std.proofs.Common.{◌≡◌, ◌∙◌, ℕ, List, Err, IfErr, length, sym, ap, subst, rules}
use Rattle.octet_tail.specs.declared.tail.Made.{Made}
use Rattle.octet_tail.specs.Searches.{AreParts, HasFindFault, HasNoParts}
use Rattle.octet_tail.proofs.Searching.{same_on, found_in, finds_none, lacks_part}
use Rattle.octet_tail.proofs.search.Search.find.Goals as goal

pub returns-clause-finds : goal.returns-clause-finds
returns-clause-finds c =
    let before = c.args.self.now in let fronts = c.in_ok-fronts.fronts in let parts = c.in_ok-parts.parts in
    let same = same_on before c.note_all.new.self c.fronts.new.self c.note_all.ensures.searches.same c.fronts.ensures.same.0 in
    let all : c.as_slice.result.now ≡ c.fronts.new.self.made = search rules in
    let are = subst (λ (m : List Made). AreParts fronts before.last 0 m parts) (all ∙ same.made) (subst (λ (n : ℕ). AreParts fronts n 0 c.as_slice.result.now parts) same.last c.in_ok-parts.ensures.parts) in
    λ fed all has. found_in before c.note_all.new.self fed all (record { fronts = fronts; parts = parts }) c.note_all.ensures.searches c.in_ok-note_all.ensures.all c.in_ok-fronts.ensures.fronts are has

pub returns-clause-count : goal.returns-clause-count
returns-clause-count c =
    let same = same_on c.args.self.now c.note_all.new.self c.fronts.new.self c.note_all.ensures.searches.same c.fronts.ensures.same.0 in
    let all : c.as_slice.result.now ≡ c.fronts.new.self.made = search rules in
    c.in_ok-parts.ensures.count ∙ ap (λ (m : List Made). length m) (all ∙ same.made)

pub returns-in_err-note_all-clause-fault : goal.returns-in_err-note_all-clause-fault
returns-in_err-note_all-clause-fault c =
    let fault = c.in_err-note_all.field-0.0 in
    let same : c.from_residual.result ≡ Err fault = search rules in
    subst (λ r. IfErr r (HasFindFault c.args.self.now)) (sym same) (record {
      after = c.note_all.new.self;
      goes_on = c.note_all.ensures.searches;
      why = finds_none c.note_all.new.self fault c.in_err-note_all.ensures.fault;
    })

pub returns-in_err-fronts-clause-fault : goal.returns-in_err-fronts-clause-fault
returns-in_err-fronts-clause-fault c =
    let fault = c.in_err-fronts.field-0.0 in
    let same : c.from_residual-in_err-fronts.result ≡ Err fault = search rules in
    subst (λ r. IfErr r (HasFindFault c.args.self.now)) (sym same) (record {
      after = c.note_all.new.self;
      goes_on = c.note_all.ensures.searches;
      why = finds_none c.note_all.new.self fault c.in_err-fronts.ensures.fault;
    })

pub returns-in_err-parts-clause-fault : goal.returns-in_err-parts-clause-fault
returns-in_err-parts-clause-fault c =
    let mid = c.note_all.new.self in let fronts = c.in_ok-fronts.fronts in let same_search = c.fronts.ensures.same.0 in let fault = c.in_err-parts.field-0.0 in
    let same : c.from_residual-in_err-parts.result ≡ Err fault = search rules in
    let all : c.as_slice.result.now ≡ c.fronts.new.self.made = search rules in
    let none = subst (λ (m : List Made). HasNoParts fronts mid.last m fault) (all ∙ same_search.made) (subst (λ (n : ℕ). HasNoParts fronts n c.as_slice.result.now fault) same_search.last c.in_err-parts.ensures.fault) in
    subst (λ r. IfErr r (HasFindFault c.args.self.now)) (sym same) (record {
      after = mid;
      goes_on = c.note_all.ensures.searches;
      why = lacks_part mid fronts fault c.in_ok-fronts.ensures.fronts none;
    })
