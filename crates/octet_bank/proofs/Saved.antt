-- What is left of a file that is begun, filled and finished.
use Rattle.std.proofs.Common.{◌≡◌, ◌∙◌, ◌+◌, ◌++◌, ℕ, List, [], length, Option, None, Some, Result, Ok, Err, OnOk, IfSome, IsSomeAnd, codes, Bool, true, false, cond, refl, sym, subst, ap, nat_cmp}
use Rattle.std.specs.Option.{unwrap_or}
use Rattle.std.specs.Ordering.{eq_by_cmp}
use Rattle.std.specs.Cmp.{eq_by_cmp_equiv}
use Rattle.std.specs.Cmp.Lexicographic.{slice_cmp, nat_list_cmp_total}
use Rattle.std.specs.FinMap.{get, insert, get-insert, same_map, slice_cmp-IsAntisymmetric, nat_cmp-IsAntisymmetric}
use Rattle.octet_base.specs.Desk.{Files, Contents, with_call, with_bytes, with_empty}
use Rattle.octet_base.specs.declared.call.Call.TheVariants as call
use Rattle.octet_model.specs.declared.log.Log.{Log}
use Rattle.octet_model.specs.declared.outcome.Outcome.{Outcome}
use Rattle.octet_model.specs.declared.script.Script.{Script}
use Rattle.octet_model.specs.Orders.{IsFaithful}
use Rattle.octet_model.specs.Texts.{log_bytes}
use Rattle.octet_script.specs.Spelling.{canonical_text}
use Rattle.octet_bank.specs.declared.fault.Fault.{Fault}
use Rattle.octet_bank.specs.declared.bank.TheConstants.{START}
use Rattle.octet_bank.specs.Tellers.{IsLogOfPayments}
use Rattle.octet_bank.specs.Reports.{Saves, Tells, Serves, balance_of, balance_line}

twice : {A : Type 0} (b : Bool) (x y z : A) → cond b x (cond b y z) ≡ cond b x z
twice true x y z = refl
twice false x y z = refl

-- the later bytes stay
insert_again : (files : Files) (name before bytes : List ℕ) → insert (insert files name before) name bytes ≡ insert files name bytes
insert_again files name before bytes =
    same_map nat_list_cmp_total (slice_cmp-IsAntisymmetric nat_cmp-IsAntisymmetric) _ _ (λ q.
    get-insert nat_list_cmp_total _ name bytes q
    ∙ ap (cond (eq_by_cmp (slice_cmp nat_cmp) q name) (Some bytes)) (get-insert nat_list_cmp_total files name before q)
    ∙ twice (eq_by_cmp (slice_cmp nat_cmp) q name) (Some bytes) (Some before) (get files q)
    ∙ sym (get-insert nat_list_cmp_total files name bytes q))

-- all bytes of an empty file are those that are added
filled : (files : Files) (name bytes : List ℕ) → insert (insert files name []) name (unwrap_or (get (insert files name []) name) [] ++ bytes) ≡ insert files name bytes
filled files name bytes =
    insert_again files name [] _
    ∙ ap (λ o. insert files name (unwrap_or o [] ++ bytes))
    (get-insert nat_list_cmp_total files name [] name ∙ ap (λ b. cond b (Some []) (get files name)) ((eq_by_cmp_equiv nat_list_cmp_total).refl name))

-- the three calls leave the file, whole
pub saved : (name bytes : List ℕ) (a b c d : Option Contents) (begun : Option (List ℕ)) → b ≡ with_call (call.Begin name) (with_empty name a) → begun ≡ Some name → c ≡ with_call (call.Add (length bytes)) (with_bytes begun bytes b) → d ≡ with_call call.Finish c
    → Saves name bytes a d
saved name bytes None b c d begun is_begun named is_added is_finished = tt
saved name bytes (Some x) b c d begun is_begun named is_added is_finished =
    let added = is_added ∙ ap (λ o. with_call (call.Add (length bytes)) (with_bytes o bytes b)) named ∙ ap (λ o. with_call (call.Add (length bytes)) (with_bytes (Some name) bytes o)) is_begun in
    subst (λ o. IsSomeAnd o (λ a. (a.files ≡ insert x.files name bytes) × (a.said ≡ x.said))) (sym (is_finished ∙ ap (λ o. with_call call.Finish o) added)) (filled x.files name bytes, refl)

pub where_ok : {A E : Type 0} (result : Result A E) (P : Type 0) → P → OnOk result P
where_ok (Ok x) P p = p
where_ok (Err e) P p = tt

on_ok : {A E : Type 0} (result : Result A E) (P Q : Type 0) → (P → Q) → OnOk result P → OnOk result Q
on_ok (Ok x) P Q then p = then p
on_ok (Err e) P Q then p = tt

told_both : (a b c d e : Option Contents) (script : Script) (log : Log) (outcome again : Outcome) (total first second : ℕ) → total ≡ START + first + second → IsLogOfPayments first second log.threads → IsFaithful script log.threads outcome → again ≡ outcome → Saves (codes "bank.octet") (canonical_text script) a b
    → Saves (codes "bank.log") (log_bytes log.threads) b c → Tells (balance_line (codes "") (balance_of outcome) total) c d → Tells (balance_line (codes "again: ") (balance_of again) total) d e
    → IfSome a (λ before. IsSomeAnd e (Serves before))
told_both None b c d e script log outcome again total first second sum paid faithful is ab bc cd de = tt
told_both (Some x) None c d e script log outcome again total first second sum paid faithful is ab bc cd de = absurd ab
told_both (Some x) (Some y) None d e script log outcome again total first second sum paid faithful is ab bc cd de = absurd bc
told_both (Some x) (Some y) (Some z) None e script log outcome again total first second sum paid faithful is ab bc cd de = absurd cd
told_both (Some x) (Some y) (Some z) (Some u) None script log outcome again total first second sum paid faithful is ab bc cd de = absurd de
told_both (Some x) (Some y) (Some z) (Some u) (Some w) script log outcome again total first second sum paid faithful is ab bc cd de = record {
  script = script;
  log = log;
  outcome = outcome;
  first = first;
  second = second;
  total = total;
  sum = sum;
  paid = paid;
  faithful = faithful;
  files = de.0 ∙ (cd.0 ∙ (bc.0 ∙ ap (λ (fs : Files). insert fs (codes "bank.log") (log_bytes log.threads)) ab.0));
  said =
      de.1
      ∙ (ap (λ (o : Outcome). u.said ++ balance_line (codes "again: ") (balance_of o) total) is
      ∙ ap (λ (said : List ℕ). said ++ balance_line (codes "again: ") (balance_of outcome) total)
      (cd.1 ∙ ap (λ (said : List ℕ). said ++ balance_line (codes "") (balance_of outcome) total) (bc.1 ∙ ab.1)));
}

-- and where the last line is said, all is done
pub served : (result : Result (Unit {0}) Fault) (a b c d e : Option Contents) (script : Script) (log : Log) (outcome again : Outcome) (total first second : ℕ) → total ≡ START + first + second → IsLogOfPayments first second log.threads → IsFaithful script log.threads outcome → again ≡ outcome
    → Saves (codes "bank.octet") (canonical_text script) a b → Saves (codes "bank.log") (log_bytes log.threads) b c → Tells (balance_line (codes "") (balance_of outcome) total) c d
    → OnOk result (Tells (balance_line (codes "again: ") (balance_of again) total) d e) → OnOk result (IfSome a (λ before. IsSomeAnd e (Serves before)))
served result a b c d e script log outcome again total first second sum paid faithful is ab bc cd de = on_ok result _ _ (told_both a b c d e script log outcome again total first second sum paid faithful is ab bc cd) de
