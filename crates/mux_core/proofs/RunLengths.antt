-- A run of more records than its input has bytes finds nothing more.
use Rattle.std.proofs.Common.{◌≡◌, ℕ, zero, suc, ◌+◌, ◌%◌, ◌<◌, ◌≤◌, List, [], ◌∷◌, ◌++◌, length, Option, Some, None, Result, Ok, Err, refl, ap, arith}
use Rattle.std.proofs.lemmas.List.{length-drop}
use Rattle.ts_packet.specs.declared.start.Start.TheVariants.{Continues}
use Rattle.ts_packet.specs.Packets.{packets, payload_packet}
use Rattle.pes_packet.specs.AccessUnits.{AccessUnit}
use Rattle.unit_records.specs.Records.{record_at, after_record, size_at}
use Rattle.mux_core.specs.PidPackets.{payload_packets}
use Rattle.mux_core.specs.RecordRuns.{Run, judged, run_step, run_from}
use Rattle.mux_core.specs.CarryLaws.{RunsAreWhole, PacketsJoin}
use Rattle.mux_core.specs.Refusals.{refusal}
use Rattle.unit_records.specs.declared.reading.UnitFileError.{UnitFileError}
use Rattle.unit_records.proofs.RecordReading.{record_long}

-- A step depends only on the run after its own unit.
step_same : (id min_next_dts : ℕ) (found : Result (Option (ℕ × AccessUnit)) UnitFileError) (f g : AccessUnit → Run)
    → ((entry : ℕ × AccessUnit) → found ≡ Ok (Some entry) → f entry.1 ≡ g entry.1)
    → run_step id min_next_dts found f ≡ run_step id min_next_dts found g
unfolding run_step
step_same id min_next_dts (Err fault) f g same = refl
step_same id min_next_dts (Ok None) f g same = refl
step_same id min_next_dts (Ok (Some entry)) f g same =
    ap (λ (run : Run). judged (refusal id min_next_dts entry.0 entry.1) entry.1 run) (same entry refl)

long_enough : (n m id min_next_dts : ℕ) (xs : List ℕ) → length xs < n → length xs < m → run_from n id min_next_dts xs ≡ run_from m id min_next_dts xs
unfolding run_from
long_enough zero m id min_next_dts xs h k = absurd (omega arith)
long_enough (suc n) zero id min_next_dts xs h k = absurd (omega arith)
long_enough (suc n) (suc m) id min_next_dts xs h k =
    step_same id min_next_dts (record_at xs) (λ unit. run_from n id (unit.dts + 1) (after_record xs)) (λ unit. run_from m id (unit.dts + 1) (after_record xs))
    (λ entry e.
    let long : 21 + size_at xs ≤ length xs = record_long xs entry e in
    let fewer : length (after_record xs) + 21 ≤ length xs = omega (arith, long, length-drop (21 + size_at xs) xs) in
    long_enough n m id (entry.1.dts + 1) (after_record xs) (omega arith) (omega arith))

pub runs_are_whole : RunsAreWhole
runs_are_whole n id xs h = long_enough n (1 + length xs) id 0 xs h (omega arith)

pub packets_join : PacketsJoin
unfolding payload_packets packets
packets_join pid number start [] = refl
packets_join pid number start (piece ∷ pieces) =
    ap (λ (t : List ℕ). payload_packet pid start (number % 16) piece ++ t) (packets_join pid (number + 1) Continues pieces)
