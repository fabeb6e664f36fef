-- The streams of a job, their units with the stamps on the wire.
use Rattle.std.specs.Prelude.{ℕ, Bool, true, false, is_some, if◌then◌else◌, List, [], ◌∷◌, slice_get, filter, flat_map, ok_or, Option, Some, None, option_map}
use Rattle.std.specs.Prelude.{◌++◌, ◌&&◌, ◌||◌, not, option_and_then, option_to_list, Result, Ok, Err}
use Rattle.std.specs.List.{list_any}
use Rattle.pid_findings.specs.Views.{FindingView}
use Rattle.stream_coding.specs.Codings.{is_ac3}
use Rattle.stream_programs.specs.Streams.{FoundStreamView}
use Rattle.es_moments.specs.ApartUnits.{apart_units}
use Rattle.es_units.specs.CarriedUnits.{carried_units}
use Rattle.es_units.specs.Damage.{is_scrambled}
use Rattle.es_moments.specs.MadeDts.{dts_fault, made_units, pts_of}
use Rattle.es_moments.specs.RisingDts.{dts_are_made}
use Rattle.es_moments.specs.StreamIds.{first_other_at, written_id}
use Rattle.es_units.specs.UnitWarnings.{unit_warnings}
use Rattle.es_units.specs.declared.unit_warning.UnitWarning.{UnitWarning}
use Rattle.es_units.specs.declared.unit_warning.UnitWarningCause.{UnitWarningCause}
use Rattle.es_units.specs.declared.unit_warning.UnitWarningCause.TheVariants as causes
use Rattle.job_programs.specs.declared.named_stream.NamedStream.{NamedStream}
use Rattle.job_programs.specs.declared.refusal.JobRefusal.{JobRefusal}
use Rattle.job_programs.specs.declared.refusal.JobRefusal.TheVariants as refusals
use Rattle.job_programs.specs.declared.warning.Warning.{Warning}
use Rattle.job_programs.specs.declared.warning.Warning.TheVariants as warnings
use Rattle.job_programs.specs.Answers.{and_then, unless}
use Rattle.job_units.specs.OddStreams.{odd_stream}
use Rattle.job_units.specs.StreamKinds.{named_stream}
use Rattle.job_programs.specs.Warnings.{pid_warnings}
use Rattle.job_programs.specs.JobOptions.{JobOptionsView, is_selected_stream}
use Rattle.job_programs.specs.JobStreams.{WireStreamView}
use Rattle.es_moments.specs.WireUnits.{CarriedUnit}

-- 1. The stream_id: the first unit's, if all units have it

unfoldable pub other_id_refusal : ℕ → ℕ → List CarriedUnit → Option JobRefusal
other_id_refusal pid first units =
    option_map (λ u. refusals.OtherStreamId u.packet pid u.stream_id first) (option_and_then (slice_get units) (first_other_at first 0 units))

-- the stream_id of a stream, if it can be written
unfoldable pub id_of : Bool → CarriedUnit → Result ℕ JobRefusal
id_of ac3 u = ok_or (written_id u.stream_id ac3) refusals.NoStream

unfoldable pub common_id : ℕ → Bool → List CarriedUnit → Result ℕ JobRefusal
common_id pid ac3 [] = Err refusals.NoStream
common_id pid ac3 (u ∷ us) = unless (other_id_refusal pid u.stream_id (u ∷ us)) (id_of ac3 u)

-- 2. The stamps: the stream's own, except that units of a data stream that are due at one moment get distinct DTS; or DTS that are made from
-- PTS, if that is asked for, or the stream's own do not rise and every stream need not be carried

unfoldable pub dts_refusal : ℕ → List CarriedUnit → Option JobRefusal
dts_refusal pid units = option_map (refusals.Dts pid) (dts_fault (pts_of units))

unfoldable pub with_stamps : Bool → ℕ → List CarriedUnit → Result (List CarriedUnit) JobRefusal
with_stamps false pid units = Ok (apart_units units)
with_stamps true pid units = unless (dts_refusal pid units) (Ok (made_units units))

-- they are made without being asked for
unfoldable pub makes_itself : JobOptionsView → List CarriedUnit → Bool
makes_itself options units = not (options.make_dts || options.strict) && dts_are_made units

unfoldable pub makes_dts : JobOptionsView → List CarriedUnit → Bool
makes_dts options units = options.make_dts || makes_itself options units

-- 3. A stream

unfoldable pub with_units : FoundStreamView → ℕ → List CarriedUnit → WireStreamView
with_units s id units = record {
  program = s.program;
  pid = s.pid;
  stream_type = s.stream_type;
  stream_id = id;
  descriptors = s.descriptors;
  shared_with = s.shared_with;
  units = units;
}

-- with these units
unfoldable pub stream_of : Bool → FoundStreamView → List CarriedUnit → Result WireStreamView JobRefusal
stream_of made s units =
    and_then (λ id. and_then (λ us. Ok (with_units s id us)) (with_stamps made s.pid units)) (common_id s.pid (is_ac3 s.stream_type s.descriptors) units)

-- 4. All streams of the tables that are not left out, have units and a stream_id that can be written, and can be carried

unfoldable pub is_written : FoundStreamView → List CarriedUnit → Bool
is_written s [] = false
is_written s (u ∷ us) = is_some (written_id u.stream_id (is_ac3 s.stream_type s.descriptors))

-- a stream with these units, if it can be carried
unfoldable pub stream_if_any : Bool → FoundStreamView → List CarriedUnit → Result (Option WireStreamView) JobRefusal
stream_if_any made s units = if is_written s units then and_then (λ w. Ok (Some w)) (stream_of made s units) else Ok None

-- with the units of its PID
unfoldable pub found_stream : JobOptionsView → List FindingView → FoundStreamView → Result (Option WireStreamView) JobRefusal
found_stream options findings s = stream_if_any (makes_dts options (carried_units s.pid findings)) s (carried_units s.pid findings)

abbrev pub selected : List ℕ → List FoundStreamView → List FoundStreamView
selected without streams = filter (is_selected_stream without) streams

-- it, unless its stream_ids or stamps refuse it, or it is odd
unfoldable pub unless_odd : Option JobRefusal → WireStreamView → Option WireStreamView
unless_odd None w = Some w
unless_odd (Some why) w = None

unfoldable pub kept_stream : JobOptionsView → List FindingView → Result (Option WireStreamView) JobRefusal → Option WireStreamView
kept_stream options findings (Err why) = None
kept_stream options findings (Ok None) = None
kept_stream options findings (Ok (Some w)) = unless_odd (odd_stream options findings w) w

unfoldable pub carried_stream : JobOptionsView → List FindingView → FoundStreamView → List WireStreamView
carried_stream options findings s = option_to_list (kept_stream options findings (found_stream options findings s))

-- the streams that can be carried
abbrev pub carried_streams : JobOptionsView → List FindingView → List FoundStreamView → List WireStreamView
carried_streams options findings streams = flat_map (carried_stream options findings) streams

abbrev pub wire_streams : JobOptionsView → List FindingView → List FoundStreamView → List WireStreamView
wire_streams options findings streams = carried_streams options findings (selected options.without streams)

-- 5. The warnings about a stream whose DTS are made, or that can't be carried

-- a PES packet that has no PTS, and no unit before it
unfoldable pub is_unstamped_cause : UnitWarningCause → Bool
is_unstamped_cause (causes.NoUnitBefore size) = true
is_unstamped_cause _ = false

unfoldable pub is_unstamped : UnitWarning → Bool
is_unstamped w = is_unstamped_cause w.cause

abbrev pub is_of_scrambled : UnitWarning → Bool
is_of_scrambled w = is_scrambled w.cause

-- why a stream without a unit is a loss: no PES packet on its PID has a PTS, or its packets are scrambled
unfoldable pub why_no_unit : ℕ → List UnitWarning → Option JobRefusal
why_no_unit pid found =
    if list_any is_unstamped found then Some (refusals.NoStamps pid)
    else (if list_any is_of_scrambled found then Some (refusals.Scrambled pid) else None)

-- otherwise no PES packet comes on it
unfoldable pub without_unit : NamedStream → Option JobRefusal → Warning
without_unit stream None = warnings.NoUnit stream.program stream.pid
without_unit stream (Some why) = warnings.LeftOut stream why

abbrev pub no_unit_warning : NamedStream → List UnitWarning → Warning
no_unit_warning stream found = without_unit stream (why_no_unit stream.pid found)

-- it has no unit, or a stream_id that can't be written
unfoldable pub why_not_carried : ℕ → List FindingView → NamedStream → List CarriedUnit → List Warning
why_not_carried count findings stream [] =
    no_unit_warning stream (unit_warnings stream.pid count findings) ∷ pid_warnings count findings stream.pid
why_not_carried count findings stream (u ∷ us) = warnings.StreamId stream u.packet u.stream_id ∷ []

-- or it is left out for a reason
unfoldable pub left_out_for : NamedStream → Option JobRefusal → List Warning
left_out_for stream None = []
left_out_for stream (Some why) = warnings.LeftOut stream why ∷ []

-- its DTS are made without being asked for
unfoldable pub made_for : ℕ → Bool → List Warning
made_for pid made = if made then warnings.MadeDts pid ∷ [] else []

unfoldable pub warnings_by : JobOptionsView → ℕ → List FindingView → FoundStreamView → Result (Option WireStreamView) JobRefusal → List Warning
warnings_by options count findings s (Err why) = left_out_for (named_stream s) (Some why)
warnings_by options count findings s (Ok None) = why_not_carried count findings (named_stream s) (carried_units s.pid findings)
warnings_by options count findings s (Ok (Some w)) =
    made_for s.pid (makes_itself options (carried_units s.pid findings)) ++ left_out_for (named_stream s) (odd_stream options findings w)

unfoldable pub left_out_warnings : JobOptionsView → ℕ → List FindingView → FoundStreamView → List Warning
left_out_warnings options count findings s = warnings_by options count findings s (found_stream options findings s)

abbrev pub all_left_out_warnings : JobOptionsView → ℕ → List FindingView → List FoundStreamView → List Warning
all_left_out_warnings options count findings streams = flat_map (left_out_warnings options count findings) (selected options.without streams)
