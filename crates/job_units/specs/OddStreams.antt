-- Streams with units that are left out: a job can't carry them.
use Rattle.std.specs.Prelude.{◌≡◌, ⊤, ℕ, Bool, ◌-◌, ◌%◌, ◌^◌, if◌then◌else◌, List, [], ◌∷◌, None, Some, Option, option_map, Result, Ok, Err}
use Rattle.std.specs.List.{list_any}
use Rattle.pid_findings.specs.Views.{FindingView}
use Rattle.given_values.specs.declared.declare_by.DeclareBy.{DeclareBy}
use Rattle.es_moments.specs.Stamps.{first_fault}
use Rattle.job_programs.specs.declared.refusal.JobError.{JobError}
use Rattle.job_programs.specs.declared.refusal.JobError.TheVariants.{Memory, Refused}
use Rattle.job_programs.specs.declared.refusal.JobRefusal.{JobRefusal}
use Rattle.job_units.specs.Declarations.{MeasuredView, UnitCountsView, buffers_refusal, has_data, has_long, is_declared, length_refusal, measured, most_header, unit_counts}
use Rattle.job_programs.specs.JobOptions.{JobOptionsView}
use Rattle.job_programs.specs.JobStreams.{TimedStreamView, WireStreamView}
use Rattle.job_units.specs.Moments.{first_dts, pts_limit_of, stamps_refusal, wire_of, with_moments}
use Rattle.es_moments.specs.WireUnits.{CarriedUnit}

-- 1. Stamps that are no moments, whatever the clock shows as the run begins

-- what it shows if the first unit is due at once
unfoldable pub own_base : WireStreamView → ℕ
own_base w = first_dts w.units % 2 ^ 33

-- the error of a call for a stream with this refusal, if it has one: it, or out of memory
unfoldable pub IsOddBy : Option JobRefusal → JobError → Type 0
IsOddBy odd Memory = ⊤
IsOddBy odd (Refused why) = odd ≡ Some why

unfoldable pub odd_stamps : List FindingView → WireStreamView → Option JobRefusal
odd_stamps findings w = option_map (stamps_refusal findings w.pid) (first_fault (pts_limit_of w.stream_type w.descriptors) (own_base w) None 0 (wire_of w))

-- 2. Units that nothing declares: too many, too large, or more than their buffers let in, even if the output is as fast as can be

-- the stream, its first unit due at once
unfoldable pub alone : WireStreamView → TimedStreamView
alone w = with_moments (own_base w) w

-- the bytes of its first unit
unfoldable pub first_carried : List CarriedUnit → List ℕ
first_carried [] = []
first_carried (u ∷ us) = u.unit.bytes

-- the most bytes of a PES packet header of its units
abbrev pub carries_long : CarriedUnit → Bool
carries_long u = has_long u.unit

abbrev pub carries_data : CarriedUnit → Bool
carries_data u = has_data u.unit

unfoldable pub carried_header : List CarriedUnit → ℕ
carried_header us = most_header (list_any carries_long us) (list_any carries_data us)

abbrev pub greatest_sum : ℕ
greatest_sum = 2 ^ 64 - 1

unfoldable pub odd_buffers : DeclareBy → ℕ → MeasuredView → UnitCountsView → Option JobRefusal
odd_buffers declare_by lead m c =
    if is_declared declare_by lead greatest_sum m.units.runs c then None else Some (buffers_refusal declare_by lead greatest_sum m c)

unfoldable pub odd_counts : JobOptionsView → MeasuredView → Result UnitCountsView JobRefusal → Option JobRefusal
odd_counts options m (Ok c) = odd_buffers options.declare_by options.lead m c
odd_counts options m (Err why) = Some why

-- the first of two
unfoldable pub first_odd : Option JobRefusal → Option JobRefusal → Option JobRefusal
first_odd (Some why) later = Some why
first_odd None later = later

unfoldable pub odd_units : JobOptionsView → MeasuredView → Option JobRefusal
odd_units options m = first_odd (length_refusal m) (odd_counts options m (unit_counts options.buffers m))

-- 3. Why a stream with units is left out, if it is

unfoldable pub odd_bytes : JobOptionsView → WireStreamView → Option JobRefusal
odd_bytes options w = odd_units options (measured (alone w))

unfoldable pub odd_stream : JobOptionsView → List FindingView → WireStreamView → Option JobRefusal
odd_stream options findings w = first_odd (odd_stamps findings w) (odd_bytes options w)
