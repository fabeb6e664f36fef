-- What a demultiplexer finds in the output of `carry`: the packets of one stream's units, one unit after another.
use Rattle.std.specs.Prelude.{◌≡◌, ℕ, zero, suc, ◌+◌, ◌-◌, ◌^◌, ◌<◌, false, IsTrue, List, [], ◌∷◌, length, map, sum_by, Some, All}
use Rattle.pes_packet.specs.AccessUnits.{AccessUnit}
use Rattle.pes_packet.specs.StreamIds.{is_unit_id, fits_packet}
use Rattle.demux.specs.Laws.{with_pid_at}
use Rattle.laws_run.specs.Sent.{Sending, each_found}
use Rattle.laws_run.specs.Units.{unit_packets, unit_found}
use Rattle.laws_run.specs.PidLaws.{all_found, found_on, InOrder}
use Rattle.mux_core.specs.RecordRuns.{run_of, carried}

-- n packets from packet i on
unfoldable pub packets_from : ℕ → ℕ → List ℕ
packets_from i zero = []
packets_from i (suc n) = i ∷ packets_from (suc i) n

-- each unit with its packets, from packet i on without a gap
unfoldable pub in_a_row : ℕ → ℕ → List AccessUnit → List (Sending AccessUnit)
in_a_row id i [] = []
in_a_row id i (u ∷ us) = record { item = u; packets = packets_from i (unit_packets id 0 u) } ∷ in_a_row id (i + unit_packets id 0 u) us

-- the packets of units, stamps as they are given
abbrev pub packet_count : ℕ → List AccessUnit → ℕ
packet_count id us = sum_by (unit_packets id 0) us

-- the findings in the packets of units on a PID
pub record CarriedBack (pid id : ℕ) (us : List AccessUnit) (bytes : List ℕ) : Type 0 where
  -- each unit, whole; the last unit, if it has no PES_packet_length, as a PES packet that did not end
  pub units : found_on pid bytes ≡ map (with_pid_at pid) (each_found (unit_found id 0) (packet_count id us) (in_a_row id 0 us))
  -- nothing else, in the order of the packets
  pub nothing_else : All (λ f. f.pid ≡ Some pid) (all_found bytes)
  pub in_order : InOrder 0 (packet_count id us) (all_found bytes)

-- this holds for all units that fit PES packets, in fewer packets than a demultiplexer counts
abbrev pub CarriedBackLaw : Type 0
CarriedBackLaw = (pid id : ℕ) (us : List AccessUnit) → pid < 8191 → All (λ u. IsTrue (fits_packet id (length u.bytes))) us → packet_count id us < 2 ^ 64 - 1 →
    CarriedBack pid id us (carried false pid id us)

-- all units that `carry` accepts fit, whatever its input
abbrev pub AcceptedUnitsFit : Type 0
AcceptedUnitsFit = (id : ℕ) (xs : List ℕ) → IsTrue (is_unit_id id) → All (λ u. IsTrue (fits_packet id (length u.bytes))) (run_of id xs).units
