-- Why a unit is refused, in words: the unit, its stream, the limit that it breaks and what it would need.
use Rattle.std.specs.Prelude.{ℕ, ◌-◌, List, [], ◌++◌, Option, Some, None, codes, decimal, nat_lt, option_map, slice_get, if◌then◌else◌}
use Rattle.description_parts.specs.Described.{Described, DescribedStream}
use Rattle.pes_packet.specs.AccessUnits.{AccessUnit}
use Rattle.unit_timing.specs.declared.allowance.Allowance.{Allowance}
use Rattle.unit_timing.specs.declared.allowance.Allowance.TheVariants as allowed
use Rattle.unit_queue.specs.Codes.{feed_code}
use Rattle.unit_queue.specs.declared.refusal.FeedError.{FeedError}
use Rattle.unit_queue.specs.declared.refusal.FeedError.TheVariants.{UnknownStream, Empty, TooLarge, TooSoon, BadPts, Late, TooFar, Full, Group, Pace, OffAir}
use Rattle.on_air.specs.Airing.{refused_unit}
use Rattle.on_air.specs.declared.refusals.AirRefusal.{AirRefusal}
use Rattle.on_air.specs.declared.refusals.AirRefusal.TheVariants.{Feed, Ahead, Followed, Texts, LineUp}
use Rattle.on_air.specs.declared.refusals.FarRecord.{FarRecord}
use Rattle.on_air.specs.declared.refusals.RefusedUnit.{RefusedUnit}
use Rattle.on_air.specs.declared.refusals.TextsRefusal.{TextsRefusal}
use Rattle.on_air.specs.declared.refusals.TextsRefusal.TheVariants.{Unread, Fault}
use Rattle.on_air.specs.declared.refusals.LineUpRefusal.{LineUpRefusal}
use Rattle.on_air.specs.declared.refusals.LineUpRefusal.TheVariants as line_up
use Rattle.line_ups.specs.declared.fault.LineUpFault.TheVariants.{Pid}
use Rattle.slot_plan.specs.Entries.{code_of}
use Rattle.plan_checker.specs.declared.refusal.Refusal.{Refusal}
use Rattle.description_keys.specs.Codes.{fault_code, fault_item}
use Rattle.explained_jobs.specs.declared.unit_limits.UnitLimits.{UnitLimits}
use Rattle.explained_jobs.specs.TextWords.{part_words, text_words}
use Rattle.explained_jobs.specs.LineUpWords.{line_up_words, waiting_words}

-- 1. The limit

-- what a stream declares of its units
abbrev pub limits_of : DescribedStream → UnitLimits
limits_of s = record { pid = s.pid; size = s.size; interval = s.interval; lead = s.lead; pts_limit = s.pts_limit; allowance = s.allowance }

-- the value of a key, and the value that the unit needs
unfoldable pub less_words : List ℕ → ℕ → ℕ → List ℕ
less_words key limit needed = key ++ codes " " ++ decimal limit ++ codes " is less than " ++ decimal needed ++ codes "\n"

abbrev pub size_words : UnitLimits → RefusedUnit → List ℕ
size_words l u = less_words (codes "size") l.size u.size

-- the words for a PTS that is before its DTS
unfoldable pub early_words : ℕ → List ℕ
early_words pts = codes "PTS " ++ decimal pts ++ codes " is before its DTS\n"

abbrev pub far_words : UnitLimits → RefusedUnit → List ℕ
far_words l u = less_words (codes "pts_limit") l.pts_limit (u.pts - u.dts)

unfoldable pub pts_words : UnitLimits → RefusedUnit → List ℕ
pts_words l u = if nat_lt u.pts u.dts then early_words u.pts else far_words l u

-- the words for a unit that comes too soon
unfoldable pub soon_words : UnitLimits → List ℕ
soon_words l = codes "less than interval " ++ decimal l.interval ++ codes " after the unit before it\n"

-- the words for a unit whose lead begins before the run, and for one that comes when its slots may be written
unfoldable pub begun_words : ℕ → ℕ → List ℕ
begun_words lead dts = codes "lead " ++ decimal lead ++ codes " is greater than DTS " ++ decimal dts ++ codes "\n"

unfoldable pub written_words : ℕ → List ℕ
written_words lead = codes "slots of its lead " ++ decimal lead ++ codes " are already written: it comes too late for --wait\n"

unfoldable pub late_words : UnitLimits → RefusedUnit → List ℕ
late_words l u = if nat_lt u.dts l.lead then begun_words l.lead u.dts else written_words l.lead

-- the unit's packets, with the packets of the units before it
unfoldable pub packets_words : Allowance → List ℕ
packets_words (allowed.Groups units packets) =
    codes "group_packets " ++ decimal packets ++ codes " is less than the packets of " ++ decimal units ++ codes " units\n"
packets_words (allowed.Pace burst pace) =
    codes "burst_packets " ++ decimal burst ++ codes " and pace " ++ decimal pace ++ codes " are less than the packets of units in a row\n"

-- the fault of a unit of a stream
unfoldable pub cause_words : FeedError → UnitLimits → RefusedUnit → List ℕ
cause_words UnknownStream l u = codes "no stream has this number\n"
cause_words Empty l u = codes "no bytes\n"
cause_words TooLarge l u = size_words l u
cause_words TooSoon l u = soon_words l
cause_words BadPts l u = pts_words l u
cause_words Late l u = late_words l u
cause_words TooFar l u = codes "DTS over 4503599627370496\n"
cause_words Full l u = codes "no room for one more waiting unit of its stream: --room, at most 1048576\n"
cause_words Group l u = packets_words l.allowance
cause_words Pace l u = packets_words l.allowance
cause_words OffAir l u = codes "no program on air has the stream: it needs on_air = true, or new texts with it first\n"

-- 2. The unit

-- its index among all records, the number of its refusal, the PID and the number of its stream, and its DTS
unfoldable pub unit_head : ℕ → ℕ → ℕ → ℕ → ℕ → List ℕ
unit_head index code pid k dts =
    codes "unit " ++ decimal index ++ codes " (code " ++ decimal code ++ codes "): pid " ++ decimal pid ++ codes ", stream " ++ decimal k
    ++ codes ", DTS " ++ decimal dts ++ codes ": "

unfoldable pub unknown_words : ℕ → ℕ → ℕ → List ℕ
unknown_words index code k = codes "unit " ++ decimal index ++ codes " (code " ++ decimal code ++ codes "): the description has no stream " ++ decimal k ++ codes "\n"

-- the words for a unit of the stream with its number, if that stream exists
unfoldable pub stream_words : ℕ → RefusedUnit → Option UnitLimits → List ℕ
stream_words index u None = unknown_words index (feed_code u.cause) u.stream
stream_words index u (Some l) = unit_head index (feed_code u.cause) l.pid u.stream u.dts ++ cause_words u.cause l u

unfoldable pub entry_words : Described → ℕ → FeedError → Option (ℕ × AccessUnit) → List ℕ
entry_words d index cause None = []
entry_words d index cause (Some entry) = stream_words index (refused_unit entry cause) (option_map limits_of (slice_get d.streams entry.0))

-- the unit of an index is refused for this cause
abbrev pub refused_words : Described → List (ℕ × AccessUnit) → ℕ → FeedError → List ℕ
refused_words d units index cause = entry_words d index cause (slice_get units index)

-- 3. On air

-- a record that is too far ahead, of a stream, or of none, as a tick
unfoldable pub tick_head : ℕ → ℕ → ℕ → List ℕ
tick_head index k dts = codes "unit " ++ decimal index ++ codes " (code 11): stream " ++ decimal k ++ codes ", DTS " ++ decimal dts ++ codes ": "

unfoldable pub far_head : ℕ → FarRecord → Option UnitLimits → List ℕ
far_head index far None = tick_head index far.stream far.to
far_head index far (Some l) = unit_head index 11 l.pid far.stream far.to

unfoldable pub ahead_words : ℕ → ℕ → List ℕ
ahead_words ahead from = codes "more than --ahead " ++ decimal ahead ++ codes " after DTS " ++ decimal from ++ codes ", the greatest before it\n"

-- a record that the run follows in spite of a leap: its index, the number of packets before it, and the DTS before and after the leap
unfoldable pub leap_line : ℕ → ℕ → ℕ → ℕ → List ℕ
leap_line index packet from to =
    codes "leap " ++ decimal index ++ codes " " ++ decimal packet ++ codes " " ++ decimal from ++ codes " " ++ decimal to ++ codes "\n"

-- a record whose texts are refused: its index; then the number and the item of the description's refusal, or why the texts can't follow
unfoldable pub switch_head : ℕ → List ℕ
switch_head index = codes "switch " ++ decimal index ++ codes " "

unfoldable pub unread_words : ℕ → ℕ → List ℕ
unread_words code item = codes "description " ++ decimal code ++ codes " " ++ decimal item ++ codes ": tsjob explain DESCRIPTION says why\n"

unfoldable pub refused_texts_words : TextsRefusal → List ℕ
refused_texts_words (Unread fault) = unread_words (fault_code fault) (fault_item fault)
refused_texts_words (Fault fault) = text_words fault

-- why a line-up is refused: its description, a line of its plan, a condition with its numbers, or what it changes
abbrev pub plan_line_words : ℕ → List ℕ
plan_line_words line = part_words (codes "plan") line (codes "not as a plan has it: tsmux plan < DESCRIPTION makes one")

unfoldable pub numbered_condition : ℕ → ℕ → ℕ → ℕ → ℕ → List ℕ
numbered_condition code part item left right =
    codes "refused " ++ decimal code ++ codes " " ++ decimal part ++ codes " " ++ decimal item ++ codes " " ++ decimal left ++ codes " " ++ decimal right
    ++ codes ": tsjob explain DESCRIPTION PLAN says why\n"

abbrev pub plan_words : Refusal → List ℕ
plan_words r = numbered_condition (code_of r.condition) r.part r.item r.left r.right

unfoldable pub refused_line_up_words : LineUpRefusal → List ℕ
refused_line_up_words (line_up.Unread fault) = unread_words (fault_code fault) (fault_item fault)
refused_line_up_words (line_up.PlanLine line) = plan_line_words line
refused_line_up_words (line_up.Plan refusal) = plan_words refusal
refused_line_up_words (line_up.Returned pid) = line_up_words (Pid pid)
refused_line_up_words (line_up.Fault fault) = line_up_words fault
refused_line_up_words (line_up.Waiting pid) = waiting_words pid

-- the line for a refused record, by what the streams declare
unfoldable pub air_line : List UnitLimits → ℕ → AirRefusal → List ℕ
air_line streams index (Feed u) = stream_words index u (slice_get streams u.stream)
air_line streams index (Ahead far) = far_head index far (slice_get streams far.stream) ++ ahead_words far.ahead far.from
air_line streams index (Followed packet from to) = leap_line index packet from to
air_line streams index (Texts refusal) = switch_head index ++ refused_texts_words refusal
air_line streams index (LineUp refusal) = switch_head index ++ refused_line_up_words refusal
