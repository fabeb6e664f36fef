use Rattle.std.proofs.Common.{◌≡◌, ℕ, length, slice_get, Some}
use Rattle.description_parts.specs.Described.{DescribedProgram}
use Rattle.tstd.specs.declared.fullness.SystemFullness.{SystemFullness}
use Rattle.tstd.specs.Carried.{table_packets}
use Rattle.tstd.specs.Measured.{IsSystemFullness}
use Rattle.tstd.proofs.all_streams.measure_systems.Given as goal

abbrev pub invariant-loop-program : goal.invariant-loop-program
invariant-loop-program g l = record {
  count : length l.programs.items ≡ l.program-index;
  each : (number : ℕ) (p : DescribedProgram) (f : SystemFullness) → slice_get l.description.programs number ≡ Some p →
      slice_get l.programs.items number ≡ Some f →
      IsSystemFullness l.description.rate (table_packets p.pmt_pid l.bytes) f;
}
