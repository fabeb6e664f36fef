-- The result of measuring the finished bytes: the measurement is not refused, and finds no late unit and no buffer over its size.
use Rattle.std.specs.Prelude.{◌≡◌, ℕ, ◌≤◌, true, List, slice_get, Some, None}
use Rattle.std.specs.List.{list_all}
use Rattle.pes_packet.specs.AccessUnits.{AccessUnit}
use Rattle.pes_packet.specs.Units.{units_of}
use Rattle.description_parts.specs.Described.{Described, DescribedProgram, DescribedStream}
use Rattle.tstd.specs.Measured.{Measured, StreamsMeasured, SystemsMeasured, late_unit}
use Rattle.tstd.specs.Refusals.{is_declared, cause}
use Rattle.tstd.specs.declared.fullness.StreamFullness.{StreamFullness}
use Rattle.tstd.specs.declared.fullness.SystemFullness.{SystemFullness}
use Rattle.tstd.specs.declared.fullness.VideoFullness.{VideoFullness}
use Rattle.unit_timing.specs.declared.multiplexing_buffer.MultiplexingBuffer.{MultiplexingBuffer}
use Rattle.mux_core.specs.Scheduled.{Scheduled}
use Rattle.mux_core.specs.Histories.{TextsSoFar}
use Rattle.mux_core.specs.Headline.{HeadlineOver}

-- no unit is late, and no buffer is ever fuller than its size; in a stream with a multiplexing buffer a unit is late if it is not whole in the elementary
-- stream buffer by its stamp, and neither of these two buffers is fuller than its size
pub record FindsNoFault (d : Described) (found : Measured) : Type 0 where
  pub none_late : found.late ≡ None
  pub streams : (k : ℕ) (s : DescribedStream) (f : StreamFullness) → slice_get d.streams k ≡ Some s → slice_get found.streams k ≡ Some f →
      (f.transport ≤ 512) × (f.main ≤ s.main)
  pub videos : (k : ℕ) (s : DescribedStream) (f : StreamFullness) (b : MultiplexingBuffer) (v : VideoFullness) → slice_get d.streams k ≡ Some s →
      slice_get found.streams k ≡ Some f → s.multiplexing ≡ Some b → f.video ≡ Some v → (v.multiplexing ≤ b.size) × (v.elementary ≤ s.main)
  pub programs : (i : ℕ) (p : DescribedProgram) (f : SystemFullness) → slice_get d.programs i ≡ Some p → slice_get found.programs i ≡ Some f →
      (f.transport ≤ 512) × (f.system ≤ 1536)

-- the result of `measure` for bytes that keep their promises, however their texts changed
abbrev pub MeasuredLaw : Type 0
MeasuredLaw = (d : Scheduled) (changes : TextsSoFar) (units : List (ℕ × AccessUnit)) (slots : ℕ) (bytes : List ℕ) (found : Measured) →
    HeadlineOver d changes (λ k. units_of k units) slots bytes →
    StreamsMeasured d.description units bytes found.streams → SystemsMeasured d.description bytes found.programs →
    found.late ≡ late_unit d.description units bytes →
    FindsNoFault d.description found

-- the measurement is not refused if each unit names a stream and has from one byte to that stream's greatest size
abbrev pub MeasurableLaw : Type 0
MeasurableLaw = (d : Scheduled) (changes : TextsSoFar) (units : List (ℕ × AccessUnit)) (slots : ℕ) (bytes : List ℕ) →
    HeadlineOver d changes (λ k. units_of k units) slots bytes →
    list_all (is_declared d.description) units ≡ true → cause d.description units bytes ≡ None

-- `measure` of these bytes with these units is not refused, and finds no fault
pub record MeasuresWell (d : Scheduled) (units : List (ℕ × AccessUnit)) (bytes : List ℕ) : Type 0 where
  pub not_refused : cause d.description units bytes ≡ None
  pub no_fault : (found : Measured) → StreamsMeasured d.description units bytes found.streams → SystemsMeasured d.description bytes found.programs →
      found.late ≡ late_unit d.description units bytes → FindsNoFault d.description found
