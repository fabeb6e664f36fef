-- Findings that are faults by themselves, on each PID and in the whole stream.
use Rattle.std.proofs.Common.{⊎_elim, ◌≡◌, ℕ, ◌==◌, Bool, true, false, cond, List, [], ◌∷◌, ◌++◌, map, Option, Some, None, refl, sym, ap, subst, ◌∙◌, arith}
use Rattle.std.specs.List.{flat_map}
use Rattle.std.proofs.lemmas.Bool.Decides.{nat_tests}
use Rattle.pid_findings.specs.Views.{PidFinding, FindingView}
use Rattle.demux.specs.Laws.{found_of, has_pid, with_pid_at}
use Rattle.monitor.specs.declared.fault.StreamFault.{StreamFault}
use Rattle.monitor.specs.Faults.{finding_faults}
use Rattle.monitor.specs.Rules.{failing, finding_rule}
use Rattle.monitor.proofs.SameOrder.{has}
use Rattle.monitor.proofs.LateFaults.{alike, alike_from, each_in, each_out, in_either, in_left, in_right, within}
use Rattle.monitor.proofs.FindingSteps.{faults_on, faults_of_all}

no_false : true ≡ false → ⊥
no_false e = grind arith

-- The faults of a PID's findings are the same among the findings of the stream.
pub faults_reported : (pid : ℕ) (found : List PidFinding) → faults_of_all (map (with_pid_at pid) found) ≡ finding_faults pid found
unfolding faults_of_all faults_on
faults_reported pid [] = refl
faults_reported pid (x ∷ found) = ap (λ (xs : List StreamFault). failing (Some pid) x.packet (finding_rule x.found.what) ++ xs) (faults_reported pid found)

pub of_pid_in : (pid : ℕ) (z : StreamFault) (found : List FindingView) → has z (faults_of_all (found_of pid found)) ≡ true → has z (faults_of_all found) ≡ true
unfolding faults_of_all
of_pid_in pid z [] e = e
of_pid_in pid z (f ∷ found) e = by (of_pid_in pid z found) (has_pid pid f.pid) e
  where
    new : List StreamFault
    new = faults_on f.packet f.pid f.what

    by : (has z (faults_of_all (found_of pid found)) ≡ true → has z (faults_of_all found) ≡ true) → (t : Bool) →
        has z (faults_of_all (cond t (f ∷ found_of pid found) (found_of pid found))) ≡ true → has z (new ++ faults_of_all found) ≡ true
    by h true k =
        ⊎_elim (in_left z new (faults_of_all found)) (λ m. in_right z new (faults_of_all found) (h m)) (in_either z new (faults_of_all (found_of pid found)) k)
    by h false k = in_right z new (faults_of_all found) (h k)

-- Each fault is due to a finding on some PID.
pid_of : (z : StreamFault) (packet : ℕ) (o : Option ℕ) (f : FindingView) → f.pid ≡ o → has z (faults_on f.packet f.pid f.what) ≡ true →
    (pid : ℕ) × (has_pid pid f.pid ≡ true)
unfolding faults_on has
pid_of z packet None f e h = absurd (no_false (sym (rw e at h)))
pid_of z packet (Some pid) f e h = let itself : (pid == pid) ≡ true = grind (arith, nat_tests) in (pid, ap (has_pid pid) e ∙ itself)

pub of_pid_out : (z : StreamFault) (found : List FindingView) → has z (faults_of_all found) ≡ true →
    (pid : ℕ) × (has z (faults_of_all (found_of pid found)) ≡ true)
unfolding faults_of_all has
of_pid_out z [] e = absurd (no_false (sym e))
of_pid_out z (f ∷ found) e = ⊎_elim here (there (of_pid_out z found)) (in_either z new (faults_of_all found) e)
  where
    new : List StreamFault
    new = faults_on f.packet f.pid f.what

    own : (pid : ℕ) (t : Bool) → t ≡ true → has z new ≡ true → has z (faults_of_all (cond t (f ∷ found_of pid found) (found_of pid found))) ≡ true
    own pid true n h = in_left z new (faults_of_all (found_of pid found)) h
    own pid false n h = absurd (no_false (sym n))

    here : has z new ≡ true → (pid : ℕ) × (has z (faults_of_all (found_of pid (f ∷ found))) ≡ true)
    here h = let k = pid_of z f.packet f.pid f refl h in (k.0, own k.0 (has_pid k.0 f.pid) k.1 h)

    by : (pid : ℕ) (t : Bool) → has z (faults_of_all (found_of pid found)) ≡ true →
        has z (faults_of_all (cond t (f ∷ found_of pid found) (found_of pid found))) ≡ true
    by pid true h = in_right z new (faults_of_all (found_of pid found)) h
    by pid false h = h

    there : (has z (faults_of_all found) ≡ true → (pid : ℕ) × (has z (faults_of_all (found_of pid found)) ≡ true)) →
        has z (faults_of_all found) ≡ true → (pid : ℕ) × (has z (faults_of_all (found_of pid (f ∷ found))) ≡ true)
    there h m = let k = h m in (k.0, by k.0 (has_pid k.0 f.pid) k.1)

-- The faults of a stream's findings are the faults of all PIDs' findings.
pub findings_on_each : (found : List FindingView) (on : ℕ → List PidFinding) (pids : List ℕ) →
    ((pid : ℕ) → found_of pid found ≡ map (with_pid_at pid) (on pid)) →
    ((pid : ℕ) (z : StreamFault) → has z (finding_faults pid (on pid)) ≡ true → within pid pids) →
    alike (faults_of_all found) (flat_map (λ pid. finding_faults pid (on pid)) pids)
findings_on_each found on pids same_found covers = alike_from (faults_of_all found) (flat_map (λ pid. finding_faults pid (on pid)) pids) there back
  where
    is : (pid : ℕ) → faults_of_all (found_of pid found) ≡ finding_faults pid (on pid)
    is pid = ap faults_of_all (same_found pid) ∙ faults_reported pid (on pid)

    there : (z : StreamFault) → has z (faults_of_all found) ≡ true → has z (flat_map (λ pid. finding_faults pid (on pid)) pids) ≡ true
    there z e =
        let k = of_pid_out z found e in
        let h : has z (finding_faults k.0 (on k.0)) ≡ true = subst (λ (xs : List StreamFault). has z xs ≡ true) (is k.0) k.1 in
        each_in z (λ pid. finding_faults pid (on pid)) pids k.0 (covers k.0 z h) h

    back : (z : StreamFault) → has z (flat_map (λ pid. finding_faults pid (on pid)) pids) ≡ true → has z (faults_of_all found) ≡ true
    back z e = each_out z (λ pid. finding_faults pid (on pid)) (faults_of_all found) pids
        (λ pid h. of_pid_in pid z found (subst (λ (xs : List StreamFault). has z xs ≡ true) (sym (is pid)) h)) e
