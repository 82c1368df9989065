-- What parsing answers, in the grammar's own terms.
use Rattle.std.proofs.Common.{◌≡◌, ℕ, ◌*◌, ◌^◌, ◌<◌, true, ◌&&◌, List, [], ◌∷◌, map, length, Result, Ok, Err, refl, ap, sym, ◌∙◌, arith}
use Rattle.std.specs.Prelude.{IfOk, IsTrue, nat_le}
use Rattle.std.specs.List.{list_all}
use Rattle.std.proofs.lemmas.Bool.{leb-true}
use Rattle.std.proofs.lemmas.List.{length-map}
use std.HLevel.{prop→path_p}
use Rattle.std.proofs.Props.{props}
use Rattle.octet_model.specs.declared.command.Command.{Command}
use Rattle.octet_model.specs.declared.object.Object.{Object}
use Rattle.octet_model.specs.declared.script.Script.{Script}
use Rattle.octet_model.specs.Script.{is_script, is_thread, is_command, is_nested, are_distinct}
use Rattle.octet_script.specs.declared.cause.ScriptFault.{ScriptFault}
use Rattle.octet_script.specs.Spelling.{Spells, Contents, Declaration, declaration, contents}
use Rattle.octet_script.specs.Parsing.{parsed, Gives}
use Rattle.octet_script.proofs.judging.Steps.{both_true}
use Rattle.octet_script.proofs.judging.Valid.{same_names}
use Rattle.octet_script.proofs.judging.Sound.{judged_spells}
use Rattle.octet_script.proofs.judging.Complete.{IsValidContents}

pub read_spells : (text : List ℕ) (r : Result Script ScriptFault) → Gives contents r (parsed text) → IfOk r (λ script. Spells text script)
read_spells text (Ok script) given = judged_spells text (contents script) given
read_spells text (Err e) given = tt

same_object : (a b : Object) → declaration a ≡ declaration b → a ≡ b
same_object a b e =
    let name : a.name ≡ b.name = ap (λ (d : Declaration). d.name) e in
    let first : a.start ≡ b.start = ap (λ (d : Declaration). d.start) e in
    λ i. record { name = name i; start = first i; fits = prop→path_p (λ j. first j < 2 ^ 64) (hlevel props) a.fits b.fits i }

same_objects : (xs ys : List Object) → map declaration xs ≡ map declaration ys → xs ≡ ys
same_objects [] [] e = refl
same_objects [] (y ∷ ys) e = cc
same_objects (x ∷ xs) [] e = cc
same_objects (x ∷ xs) (y ∷ ys) e =
    let first : declaration x ≡ declaration y = cc in
    let rest : map declaration xs ≡ map declaration ys = cc in
    λ i. same_object x y first i ∷ same_objects xs ys rest i

-- scripts that say the same are the same
pub same_script : (s t : Script) → contents s ≡ contents t → s ≡ t
same_script s t e =
    let fuel : s.fuel ≡ t.fuel = ap (λ (c : Contents). c.fuel) e in
    let objects = same_objects s.objects t.objects (ap (λ (c : Contents). c.objects) e) in
    let threads : s.threads ≡ t.threads = ap (λ (c : Contents). c.threads) e in
    λ i. record { fuel = fuel i; objects = objects i; threads = threads i; valid = prop→path_p (λ j. IsTrue (is_script (fuel j) (objects j) (threads j))) (hlevel props) s.valid t.valid i }

nested_threads : (k : ℕ) (threads : List (List Command)) → list_all (is_thread k) threads ≡ true → list_all (is_nested 0) threads ≡ true
nested_threads k [] good = refl
nested_threads k (t ∷ ts) good =
    let parts = both_true (is_thread k t) (list_all (is_thread k) ts) good in
    let first = both_true (list_all (is_command k) t) (is_nested 0 t) parts.0 in
    rw (first.1, nested_threads k ts parts.1) refl

-- its threads are threads over its objects
pub script_threads : (s : Script) → list_all (is_thread (length s.objects)) s.threads ≡ true
script_threads s =
    (both_true (nat_le 1 s.fuel && nat_le s.fuel 262144 && nat_le (length s.objects) 1024 && are_distinct (map (λ (o : Object). o.name) s.objects) && nat_le 1 (length s.threads) && nat_le (length s.threads) 16 && nat_le (length s.threads * s.fuel) 262144) (list_all (is_thread (length s.objects)) s.threads) s.valid).1

pub script_says : (s : Script) → IsValidContents (contents s)
script_says s =
    let a = nat_le 1 s.fuel in
    let b = nat_le s.fuel 262144 in
    let c = nat_le (length s.objects) 1024 in
    let d = are_distinct (map (λ (o : Object). o.name) s.objects) in
    let e = nat_le 1 (length s.threads) in
    let f = nat_le (length s.threads) 16 in
    let g = nat_le (length s.threads * s.fuel) 262144 in
    let h = list_all (is_thread (length s.objects)) s.threads in
    let p7 = both_true ((((((a && b) && c) && d) && e) && f) && g) h s.valid in
    let p6 = both_true (((((a && b) && c) && d) && e) && f) g p7.0 in
    let p5 = both_true ((((a && b) && c) && d) && e) f p6.0 in
    let p4 = both_true (((a && b) && c) && d) e p5.0 in
    let p3 = both_true ((a && b) && c) d p4.0 in
    let p2 = both_true (a && b) c p3.0 in
    let p1 = both_true a b p2.0 in
    record {
      low = leb-true 1 s.fuel p1.0;
      high = leb-true s.fuel 262144 p1.1;
      few = omega (arith, length-map s.objects declaration, leb-true (length s.objects) 1024 p2.1);
      names = ap are_distinct (sym (same_names s.objects)) ∙ p3.1;
      some = leb-true 1 (length s.threads) p4.1;
      count = leb-true (length s.threads) 16 p5.1;
      enough = leb-true (length s.threads * s.fuel) 262144 p6.1;
      nested = nested_threads (length s.objects) s.threads p7.1;
    }
