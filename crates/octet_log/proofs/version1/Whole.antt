-- Bytes that are judged to be a log are its spelling, and each log's spelling is judged so.
use Rattle.std.proofs.Common.{◌≡◌, ℕ, ◌-◌, ◌≤◌, ◌&&◌, true, false, leb, eqb, List, [], ◌∷◌, ◌++◌, length, take, drop, Ok, Err, refl, sym, ap, subst, ◌∙◌, arith}
use Rattle.std.specs.Prelude.{codes, sum_by}
use Rattle.std.specs.Str.{bytes_eq}
use Rattle.std.specs.List.{flat_map}
use Rattle.std.proofs.lemmas.Bool.{eqb-true, ne_eqb, leb-true, le-leb}
use Rattle.std.proofs.lemmas.List.{append-nil, nil_from_length, take-append-drop, length-append}
use Rattle.std.proofs.lemmas.Slice.Eq.{bytes_eq-Decides}
use Rattle.octet_model.specs.declared.log.ThreadLog.{ThreadLog}
use Rattle.octet_model.specs.Log.{is_log, are_thread_logs}
use Rattle.octet_model.specs.Texts.{thread_bytes, log_bytes}
use Rattle.octet_log.specs.declared.cause.LogCause.TheVariants.{NoMagic, BadVersion, BadThreads, Trailing}
use Rattle.octet_log.specs.Judging.{◌>>=◌, wanted, byte_at}
use Rattle.octet_log.specs.v1.Decoding.{threads_at, body_at, decoded}
use Rattle.octet_log.specs.Inputs.{IsInput}
use Rattle.octet_log.proofs.Valid.{and_first, and_second}
use Rattle.octet_log.proofs.Fields.{bind_ok, wanted_ok, ok_is, Takes-then, byte_takes, IsInput-drop}
use Rattle.octet_log.proofs.version1.Threads.{GoodThreads, threads_are, are_threads, threads_take, threads_again}

valid_log : (threads : ℕ) (logs : List ThreadLog) → (leb 1 threads && leb threads 16) ≡ true → length logs ≡ threads → GoodThreads threads 0 0 logs → is_log logs ≡ true
valid_log threads logs allowed len good =
    let are = threads_are threads 0 0 logs (omega arith) good in
    rw (len, allowed, le-leb (sum_by (λ log. log.accesses) logs) 262144 (omega (arith, are.0)), are.1) refl

-- what stands after the word OCTL
abbrev pub body : List ThreadLog → List ℕ
body logs = 1 ∷ length logs ∷ flat_map thread_bytes logs

body_takes : (total : ℕ) (bytes : List ℕ) (logs : List ThreadLog) → IsInput bytes → body_at total bytes ≡ Ok logs → (bytes ≡ body logs) × (is_log logs ≡ true)
unfolding body_at
body_takes total bytes logs is e =
    let v = bind_ok (byte_at total bytes) (λ version. wanted (eqb version.0 1) BadVersion >>= λ known. byte_at total version.1 >>= λ threads. wanted (leb 1 threads.0 && leb threads.0 16) BadThreads >>= λ allowed. threads_at total threads.0 threads.1 >>= λ logs. wanted (eqb (length logs.1) 0) (Trailing (total - length logs.1)) >>= λ ended. Ok logs.0) logs e in
    let k = wanted_ok (eqb v.0.0 1) BadVersion (λ _. byte_at total v.0.1 >>= λ threads. wanted (leb 1 threads.0 && leb threads.0 16) BadThreads >>= λ allowed. threads_at total threads.0 threads.1 >>= λ logs. wanted (eqb (length logs.1) 0) (Trailing (total - length logs.1)) >>= λ ended. Ok logs.0) logs v.2 in
    let n = bind_ok (byte_at total v.0.1) (λ threads. wanted (leb 1 threads.0 && leb threads.0 16) BadThreads >>= λ allowed. threads_at total threads.0 threads.1 >>= λ logs. wanted (eqb (length logs.1) 0) (Trailing (total - length logs.1)) >>= λ ended. Ok logs.0) logs k.1 in
    let a = wanted_ok (leb 1 n.0.0 && leb n.0.0 16) BadThreads (λ _. threads_at total n.0.0 n.0.1 >>= λ logs. wanted (eqb (length logs.1) 0) (Trailing (total - length logs.1)) >>= λ ended. Ok logs.0) logs n.2 in
    let l = bind_ok (threads_at total n.0.0 n.0.1) (λ logs. wanted (eqb (length logs.1) 0) (Trailing (total - length logs.1)) >>= λ ended. Ok logs.0) logs a.1 in
    let d = wanted_ok (eqb (length l.0.1) 0) (Trailing (total - length l.0.1)) (λ _. Ok l.0.0) logs l.2 in
    let t0 = byte_takes total bytes v.0.0 v.0.1 is v.1 in
    let t1 = byte_takes total v.0.1 n.0.0 n.0.1 t0.rest_is n.1 in
    let t2 = threads_take total n.0.0 n.0.1 l.0 t1.rest_is l.1 in
    let e12 = Takes-then v.0.1 (n.0.0 ∷ []) n.0.1 (flat_map thread_bytes l.0.0) l.0.1 t1 t2.0 in
    let e02 = Takes-then bytes (v.0.0 ∷ []) v.0.1 (n.0.0 ∷ flat_map thread_bytes l.0.0) l.0.1 t0 e12 in
    let nothing : l.0.1 ≡ [] = nil_from_length l.0.1 (eqb-true _ _ d.0) in
    let whole : bytes ≡ v.0.0 ∷ n.0.0 ∷ flat_map thread_bytes l.0.0 = e02.parts ∙ ap (λ (r : List ℕ). (v.0.0 ∷ n.0.0 ∷ flat_map thread_bytes l.0.0) ++ r) nothing ∙ append-nil (v.0.0 ∷ n.0.0 ∷ flat_map thread_bytes l.0.0) in
    let spelled : bytes ≡ body l.0.0 = whole ∙ ap (λ (w : ℕ). w ∷ n.0.0 ∷ flat_map thread_bytes l.0.0) (eqb-true _ _ k.0) ∙ ap (λ (m : ℕ). 1 ∷ m ∷ flat_map thread_bytes l.0.0) (sym t2.1) in
    subst (λ (y : List ThreadLog). (bytes ≡ body y) × (is_log y ≡ true)) (ok_is l.0.0 logs d.1) (spelled, valid_log n.0.0 l.0.0 a.0 t2.1 t2.2)

pub decoded_takes : (bytes : List ℕ) (logs : List ThreadLog) → IsInput bytes → decoded bytes ≡ Ok logs → (bytes ≡ log_bytes logs) × (is_log logs ≡ true)
unfolding decoded
decoded_takes bytes logs is e =
    let m = wanted_ok (bytes_eq (take 4 bytes) (codes "OCTL")) NoMagic (λ _. body_at (length bytes) (drop 4 bytes)) logs e in
    let b = body_takes (length bytes) (drop 4 bytes) logs (IsInput-drop 4 bytes is) m.1 in
    let magic : take 4 bytes ≡ codes "OCTL" = (bytes_eq-Decides (take 4 bytes) (codes "OCTL")).0 m.0 in
    (sym (take-append-drop 4 bytes) ∙ ap (λ (x : List ℕ). x ++ drop 4 bytes) magic ∙ ap (λ (x : List ℕ). codes "OCTL" ++ x) b.0, b.1)

-- a valid log has an allowed number of threads, each of them good
pub good_log : (logs : List ThreadLog) → is_log logs ≡ true → ((leb 1 (length logs) && leb (length logs) 16) ≡ true) × GoodThreads (length logs) 0 0 logs
good_log logs valid =
    let n = length logs in
    let accesses = sum_by (λ log. log.accesses) logs in
    let first : ((leb 1 n && leb n 16) && leb accesses 262144) ≡ true = and_first ((leb 1 n && leb n 16) && leb accesses 262144) (are_thread_logs n 0 logs) valid in
    let sum : accesses ≤ 262144 = leb-true accesses 262144 (and_second (leb 1 n && leb n 16) (leb accesses 262144) first) in
    (and_first (leb 1 n && leb n 16) (leb accesses 262144) first, are_threads n 0 0 logs (omega (arith, sum)) (and_second ((leb 1 n && leb n 16) && leb accesses 262144) (are_thread_logs n 0 logs) valid))

body_again : (total : ℕ) (logs : List ThreadLog) (rest : List ℕ) → is_log logs ≡ true → body_at total (body logs ++ rest) ≡ (wanted (eqb (length rest) 0) (Trailing (total - length rest)) >>= λ ended. Ok logs)
unfolding body_at
body_again total logs rest valid =
    let p = good_log logs valid in
    let allowed = p.0 in
    let good = p.1 in
    rw (allowed, threads_again total logs rest good) refl

-- after a log's spelling nothing may stand
pub decoded_again : (logs : List ThreadLog) (rest : List ℕ) → is_log logs ≡ true → decoded (log_bytes logs ++ rest) ≡ (wanted (eqb (length rest) 0) (Trailing (length (log_bytes logs ++ rest) - length rest)) >>= λ ended. Ok logs)
unfolding decoded
decoded_again logs rest valid = body_again (length (log_bytes logs ++ rest)) logs rest valid

-- a byte after a log is refused as trailing, at its place
pub trailing : (logs : List ThreadLog) (next : ℕ) (rest : List ℕ) → is_log logs ≡ true → decoded (log_bytes logs ++ next ∷ rest) ≡ Err (Trailing (length (log_bytes logs)))
trailing logs next rest valid =
    let place : length (log_bytes logs ++ next ∷ rest) - length (next ∷ rest) ≡ length (log_bytes logs) = omega (arith, length-append (log_bytes logs) (next ∷ rest)) in
    let more : eqb (length (next ∷ rest)) 0 ≡ false = ne_eqb (length (next ∷ rest)) 0 (λ e. absurd (omega (arith, e))) in
    decoded_again logs (next ∷ rest) valid ∙ ap (λ b. wanted b (Trailing (length (log_bytes logs ++ next ∷ rest) - length (next ∷ rest))) >>= λ ended. Ok logs) more ∙ ap (λ n. Err (Trailing n)) place
