-- When all that a past needs is gathered.
use Rattle.std.proofs.Common.{◌≡◌, ℕ, ◌+◌, ◌<◌, ◌≤◌, inl, inr, Bool, true, false, List, length, refl, sym, ap, ◌∙◌, subst, arith}
use Rattle.std.proofs.lemmas.Bool.{cases_eq}
use Rattle.std.proofs.lemmas.List.{length-map}
use Rattle.octet_model.specs.declared.log.ThreadLog.{ThreadLog}
use Rattle.octet_model.specs.Journals.{log_of_journal}
use Rattle.octet_model.specs.Machine.{Journals, journal_of}
use Rattle.octet_slice.specs.Gathering.{AreOfLog, HasDraws, GathersPast, IsPartOfPast, IsSettled}
use Rattle.octet_slice.specs.code.Advancing.{Advances}
use Rattle.octet_slice.specs.code.Reached.{Gathered, left, nothing, raised}
use Rattle.octet_slice.proofs.Growing.{starts_in_past}

-- a thread that has no mark to pass is settled, as those before it are
pub settled_more : (journals : Journals) (i : ℕ) (g : Gathered) → ((t : ℕ) → t < i → IsSettled journals g t) → IsSettled journals g i → (t : ℕ) → t < i + 1 → IsSettled journals g t
settled_more journals i g before own t lt = elim (cases_eq t i) [
  | inr differ ↦ before t (omega arith)
  | inl same ↦ subst (λ (u : ℕ). IsSettled journals g u) (sym same) own
]

-- where all are settled, all is gathered
pub all_settled : (journals : Journals) (logs : List ThreadLog) (of now i : ℕ) (start here : Gathered) → here ≡ start → AreOfLog journals logs → length logs ≤ i
    → IsPartOfPast journals of now start → ((t : ℕ) → t < i → IsSettled journals start t) → GathersPast journals of now here
all_settled journals logs of now i start here is are past part settled =
    subst (λ (g : Gathered). GathersPast journals of now g) (sym is)
    (record { part = part; settled = λ t lt. settled t (omega (arith, lt, ap (λ (l : List ThreadLog). length l) are.is_log, length-map {B = ThreadLog} journals log_of_journal)) })

-- at the start
pub begins_in_past : (journals : Journals) (logs : List ThreadLog) (t now n : ℕ) (none start : Gathered) → n ≡ length logs → none ≡ nothing n → start ≡ raised none t now → t < length logs
    → AreOfLog journals logs → now ≤ length (journal_of journals t) → IsPartOfPast journals t now start
begins_in_past journals logs t now n none start n_is none_is start_is lt are le =
    let many : length journals ≡ n = sym (length-map {B = ThreadLog} journals log_of_journal) ∙ sym (ap (λ (l : List ThreadLog). length l) are.is_log) ∙ sym n_is in
    subst (λ (g : Gathered). IsPartOfPast journals t now g) (sym (start_is ∙ ap (λ (g : Gathered). raised g t now) (none_is ∙ ap nothing (sym many))))
    (starts_in_past journals logs t now are (omega (arith, lt, many, n_is)) le)

-- ---- marks passed one after the other

no_more_left : (logs : List ThreadLog) (a b : Gathered) (has_passed : Bool) → Advances logs a has_passed b → left logs b.threads ≤ left logs a.threads
no_more_left logs a b true advances = omega (arith, advances.fewer refl)
no_more_left logs a b false advances = omega (arith, ap (λ (g : Gathered). left logs g.threads) (advances.still refl))

pub advances_on : (logs : List ThreadLog) (a b c : Gathered) (has_passed : Bool) → Advances logs a has_passed b → Advances logs b true c → Advances logs a true c
advances_on logs a b c has_passed first then = record {
  stays_part = λ journals thread now are part. then.stays_part journals thread now are (first.stays_part journals thread now are part);
  many = then.many ∙ first.many;
  still = λ is. absurd cc;
  fewer = λ is. omega (arith, then.fewer refl, no_more_left logs a b has_passed first);
}

pub advances_still : (logs : List ThreadLog) (a b c : Gathered) (has_passed : Bool) → Advances logs a has_passed b → Advances logs b false c → Advances logs a has_passed c
advances_still logs a b c has_passed first then = subst (λ (g : Gathered). Advances logs a has_passed g) (sym (then.still refl)) first

-- with no draw in the past none is to be searched for
pub no_draws : (journals : Journals) (logs : List ThreadLog) (g : Gathered) (thread : ℕ) → AreOfLog journals logs → g.draws ≡ 0 → HasDraws journals g thread
no_draws journals logs g thread are none event number at le = absurd (omega (arith, are.numbered (record { thread = thread; event = event }) number at))
