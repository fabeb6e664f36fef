use Rattle.std.proofs.Common.{◌≡◌, ℕ, length, slice_get, Some, drop, true}
use Rattle.std.specs.Option.{option_or}
use Rattle.description_parts.specs.Described.{DescribedStream}
use Rattle.tstd.specs.declared.fullness.StreamFullness.{StreamFullness}
use Rattle.pes_packet.specs.Units.{units_of}
use Rattle.tstd.specs.Carried.{packets_on}
use Rattle.tstd.specs.Measured.{IsStreamFullness, late_from, late_unit}
use Rattle.tstd.specs.Refusals.{all_carried}
use Rattle.tstd.proofs.all_streams.measure_streams.Given as goal

abbrev pub invariant-loop-number : goal.invariant-loop-number
invariant-loop-number g l = record {
  count : length l.streams.items ≡ l.number;
  each : (number : ℕ) (s : DescribedStream) (f : StreamFullness) → slice_get l.description.streams number ≡ Some s → slice_get l.streams.items number ≡ Some f →
      IsStreamFullness l.description.rate l.description.base0 s (units_of number l.units) (packets_on s.pid l.bytes) f;
  carried : all_carried l.description l.units l.bytes l.number (drop l.number l.description.streams) ≡ true;
  late : option_or l.late (late_from l.description l.units l.bytes l.number (drop l.number l.description.streams)) ≡ late_unit l.description l.units l.bytes;
}
