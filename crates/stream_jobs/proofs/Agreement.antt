-- Streams that agree, one after another
use Rattle.std.proofs.Common.{◌≡◌, ℕ, zero, suc, true, rules, Some, None, Option, List, [], ◌∷◌, slice_get, sym, refl, ap}
use Rattle.description_parts.specs.Described.{Described, DescribedProgram, DescribedStream}
use Rattle.std.specs.Str.{bytes_eq}
use Rattle.std.proofs.lemmas.Bool.{and_parts, eqb-true}
use Rattle.std.proofs.lemmas.Slice.Eq.{bytes_eq-Decides}
use Rattle.stream_jobs.specs.Jobs.{AgreeInTurn, Agrees, AreInTurn, IsEntry, IsProgram, is_entry, is_program, is_same_pid, own_pid}
use Rattle.stream_jobs.specs.SharedClocks.{own_clock}
use Rattle.job_programs.specs.JobPrograms.{JobProgramView}
use Rattle.job_programs.specs.JobStreams.{TimedStreamView}

pub some_same : {X : Type 0} (x y : X) → Some x ≡ Some y → x ≡ y
some_same x y e = cc

pub at_each : (d : Described) (ss : List DescribedStream) (ts : List TimedStreamView) → AgreeInTurn d ss ts →
    (k : ℕ) (s : DescribedStream) (t : TimedStreamView) → slice_get ss k ≡ Some s → slice_get ts k ≡ Some t → Agrees d s t
unfolding AgreeInTurn
at_each d [] ts agree k s t here there = absurd cc
at_each d (x ∷ ss) [] agree k s t here there = absurd cc
at_each d (x ∷ ss) (y ∷ ts) agree zero s t here there = rw (sym (some_same x s here), sym (some_same y t there)) agree.0
at_each d (x ∷ ss) (y ∷ ts) agree (suc k) s t here there = at_each d ss ts agree.1 k s t here there

pub at_program : (pids : List ℕ) (ps : List DescribedProgram) (qs : List JobProgramView) → AreInTurn pids ps qs →
    (k : ℕ) (p : DescribedProgram) (q : JobProgramView) → slice_get ps k ≡ Some p → slice_get qs k ≡ Some q → IsProgram pids p q
unfolding AreInTurn
at_program pids [] qs are k p q here there = absurd cc
at_program pids (x ∷ ps) [] are k p q here there = absurd cc
at_program pids (x ∷ ps) (y ∷ qs) are zero p q here there = rw (sym (some_same x p here), sym (some_same y q there)) are.0
at_program pids (x ∷ ps) (y ∷ qs) are (suc k) p q here there = at_program pids ps qs are.1 k p q here there

-- A stream that passes the test is the declared stream.
pub same_bytes : (xs ys : List ℕ) → bytes_eq xs ys ≡ true → xs ≡ ys
same_bytes xs ys e = let d = bytes_eq-Decides xs ys in search (rules)

pub entry_is : (s : DescribedStream) (t : TimedStreamView) → is_entry s t ≡ true → IsEntry s t
unfolding is_entry
entry_is s t e =
    let all = and_parts _ _ e in
    let after_program = and_parts _ _ all.1 in
    let after_pid = and_parts _ _ after_program.1 in
    let after_id = and_parts _ _ after_pid.1 in
    let after_type = and_parts _ _ after_id.1 in
    record {
      program = eqb-true _ _ all.0;
      pid = eqb-true _ _ after_program.0;
      stream_id = eqb-true _ _ after_pid.0;
      stream_type = eqb-true _ _ after_id.0;
      descriptors = same_bytes s.descriptors t.descriptors after_type.0;
      shared_with = same_bytes s.shared_with t.shared_with after_type.1;
    }

-- A program that passes the test is the declared program.
pub same_pid : (one other : Option ℕ) → is_same_pid one other ≡ true → one ≡ other
unfolding is_same_pid
same_pid None None e = refl
same_pid None (Some other) e = absurd cc
same_pid (Some one) None e = absurd cc
same_pid (Some one) (Some other) e = ap Some (eqb-true one other e)

pub program_is : (pids : List ℕ) (p : DescribedProgram) (q : JobProgramView) → is_program pids p q ≡ true → IsProgram pids p q
unfolding is_program
program_is pids p q e =
    let all = and_parts _ _ e in
    let after_number = and_parts _ _ all.1 in
    record { number = eqb-true _ _ all.0; pmt_pid = eqb-true _ _ after_number.0; clock = same_pid (own_pid p) (own_clock pids q) after_number.1 }
