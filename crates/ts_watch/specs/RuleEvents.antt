-- Time stamps (ETSI TR 101 290, 5.2.2, 2.5), times without a packet of a PID (5.2.1, 1.6), scrambled packets (5.2.1, 1.3.a and 1.5.a; 5.2.2, 2.6), and the accuracy of clock references if the rate is
-- constant (5.2.2, 2.4).
use Rattle.std.specs.Prelude.{ℕ, ◌==◌, ◌&&◌, ◌||◌, not, Bool, true, false, if◌then◌else◌, List, [], ◌∷◌, ◌++◌, length, Option, Some, None}
use Rattle.arrival.specs.Arrivals.{moment_on}
use Rattle.arrival.specs.declared.arrival.Arrival.{Arrival}
use Rattle.arrival.specs.declared.arrival.Arrival.TheVariants.{Unknown, AtRate, OnLines}
use Rattle.events.specs.declared.event.Event.{Event}
use Rattle.events.specs.declared.event.Event.TheVariants as found
use Rattle.events.specs.declared.fault_kind.FaultKind.TheVariants as kinds
use Rattle.events.specs.declared.pid_name.PidName.{PidName}
use Rattle.events.specs.declared.pid_name.PidName.TheVariants as names
use Rattle.events.specs.declared.rule_event.RuleEvent.TheVariants as rules
use Rattle.events.specs.declared.rule_event.ScrambledPacket.{ScrambledPacket}
use Rattle.tr101290.specs.Errors.{accuracy_error}
use Rattle.tr101290.specs.RateJudges.{JudgeState, error_list, errors_at, is_decided, last_errors, no_rate, varies}
use Rattle.tr101290.specs.RateJudges as judging
use Rattle.tr101290.specs.Stamps.{StampState, error_at, no_stamp}
use Rattle.tr101290.specs.Stamps as stamping
use Rattle.tr101290.specs.declared.intervals.TableTiming.{TableTiming}
use Rattle.tr101290.specs.declared.report.PcrReport.{PcrReport}
use Rattle.tr101290.specs.declared.stamps.PtsError.{PtsError}
use Rattle.tr101290.specs.declared.watch.PcrTiming.{PcrTiming}
use Rattle.tr101290.specs.declared.watch.PcrTiming.TheVariants.{ConstantRate, References, Stamps}
use Rattle.ts_packet.specs.Views.{PacketView}
use Rattle.packet_times.specs.Gaps.{GapState, gap_at, no_packet}
use Rattle.packet_times.specs.Gaps as gaps_of
use Rattle.packet_times.specs.GapEvents.{gap_event_if}
use Rattle.ts_watch.specs.ClockEvents.{inaccuracy_events, variable_events}
use Rattle.es_events.specs.Clocks.{first_byte}
use Rattle.ts_watch.specs.PidLabels.{label_of}
use Rattle.ts_watch.specs.StampPids.{said}
use Rattle.ts_tables.specs.NamedStreams.{NamedView}

-- the last PTS and the last packet of each PID, the judge of the rate, and the first scrambled packet
pub record RuleState : Type 0 where
  pub stamps : StampState
  pub gaps : GapState
  pub judge : JudgeState
  pub scrambled : Option ScrambledPacket

abbrev pub no_rule : TableTiming → RuleState
no_rule timing = record { stamps = no_stamp timing; gaps = no_packet timing; judge = no_rate; scrambled = None }

-- 1. The accuracy of clock references: at a given rate all errors count; by references around, the errors that the judge gives

abbrev pub with_judge : RuleState → JudgeState → RuleState
with_judge s judge = record { stamps = s.stamps; gaps = s.gaps; judge = judge; scrambled = s.scrambled }

abbrev pub judge_taken : JudgeState → ℕ → PcrReport → JudgeState
judge_taken judge pid report = judging.taken judge pid report

-- it is decided now that the rate varies
abbrev pub varies_now : JudgeState → JudgeState → Bool
varies_now before judge = not (is_decided before) && is_decided judge && varies judge

abbrev pub judged_events : JudgeState → ℕ → ℕ → PcrReport → List Event
judged_events judge index pid report = inaccuracy_events (errors_at judge pid report)
    ++ variable_events (varies_now judge (judge_taken judge pid report)) index (judge_taken judge pid report)

abbrev pub judged_count : JudgeState → ℕ → PcrReport → ℕ
judged_count judge pid report = length (errors_at judge pid report)

abbrev pub exact_events : ℕ → PcrReport → List Event
exact_events pid report = inaccuracy_events (error_list pid (accuracy_error report))

abbrev pub exact_count : ℕ → PcrReport → ℕ
exact_count pid report = length (error_list pid (accuracy_error report))

unfoldable pub judge_after : PcrTiming → JudgeState → ℕ → Option PcrReport → JudgeState
judge_after timing judge pid None = judge
judge_after (ConstantRate rate) judge pid (Some report) = judge
judge_after References judge pid (Some report) = judge_taken judge pid report
judge_after Stamps judge pid (Some report) = judge_taken judge pid report

unfoldable pub accuracy_events : PcrTiming → JudgeState → ℕ → ℕ → Option PcrReport → List Event
accuracy_events timing judge index pid None = []
accuracy_events (ConstantRate rate) judge index pid (Some report) = exact_events pid report
accuracy_events References judge index pid (Some report) = judged_events judge index pid report
accuracy_events Stamps judge index pid (Some report) = judged_events judge index pid report

unfoldable pub accuracy_count : PcrTiming → JudgeState → ℕ → Option PcrReport → ℕ
accuracy_count timing judge pid None = 0
accuracy_count (ConstantRate rate) judge pid (Some report) = exact_count pid report
accuracy_count References judge pid (Some report) = judged_count judge pid report
accuracy_count Stamps judge pid (Some report) = judged_count judge pid report

-- 2. Time stamps

-- the place of a packet: its index at a constant rate, its moment on lines, none before the first line is known
unfoldable pub place_at : Arrival → ℕ → Option ℕ
place_at Unknown index = None
place_at (AtRate rate) index = Some index
place_at (OnLines lines) index = Some (moment_on lines (first_byte index))

abbrev pub with_stamps : RuleState → StampState → RuleState
with_stamps s stamps = record { stamps = stamps; gaps = s.gaps; judge = s.judge; scrambled = s.scrambled }

unfoldable pub stamps_by : StampState → Option ℕ → NamedView → PacketView → StampState
stamps_by stamps None named packet = stamps
stamps_by stamps (Some place) named packet = stamping.taken stamps place (said named packet.header.pid) packet

unfoldable pub pts_events : Option PtsError → List Event
pts_events None = []
pts_events (Some e) = found.ClockFault kinds.PtsRepetition (record { pid = e.pid; packet = e.packet; value = e.value; limit = e.limit }) ∷ []

unfoldable pub stamp_events : StampState → ℕ → Option ℕ → NamedView → PacketView → List Event
stamp_events stamps index None named packet = []
stamp_events stamps index (Some place) named packet = pts_events (error_at stamps index place (said named packet.header.pid) packet)

-- 3. Times without a packet of a PID

abbrev pub with_gaps : RuleState → GapState → RuleState
with_gaps s gaps = record { stamps = s.stamps; gaps = gaps; judge = s.judge; scrambled = s.scrambled }

unfoldable pub gaps_by : GapState → Option ℕ → ℕ → GapState
gaps_by gaps None pid = gaps
gaps_by gaps (Some place) pid = gaps_of.taken gaps pid place

unfoldable pub gap_events : GapState → ℕ → Option ℕ → NamedView → ℕ → List Event
gap_events gaps index None named pid = []
gap_events gaps index (Some place) named pid = gap_event_if named (gap_at gaps pid index place)

-- 4. Scrambled packets

abbrev pub is_scrambled : PacketView → Bool
is_scrambled packet = not (packet.header.transport_scrambling_control == 0)

unfoldable pub is_map : PidName → Bool
is_map names.Pat = true
is_map names.Pmt = true
is_map _ = false

abbrev pub scrambled_events : ℕ → NamedView → PacketView → List Event
scrambled_events index named packet =
    if is_scrambled packet && is_map (label_of named packet.header.pid).coding
    then found.Rule (rules.ScrambledTable (record { pid = packet.header.pid; packet = index })) ∷ [] else []

unfoldable pub first_scrambled : Option ScrambledPacket → ℕ → PacketView → Option ScrambledPacket
first_scrambled (Some first) index packet = Some first
first_scrambled None index packet = if is_scrambled packet then Some (record { pid = packet.header.pid; packet = index }) else None

-- 5. A packet

abbrev pub taken : RuleState → Arrival → ℕ → NamedView → PacketView → RuleState
taken s arrival index named packet = record {
  stamps = stamps_by s.stamps (place_at arrival index) named packet;
  gaps = gaps_by s.gaps (place_at arrival index) packet.header.pid;
  judge = s.judge;
  scrambled = first_scrambled s.scrambled index packet;
}

abbrev pub packet_events : RuleState → Arrival → ℕ → NamedView → PacketView → List Event
packet_events s arrival index named packet = stamp_events s.stamps index (place_at arrival index) named packet
    ++ (gap_events s.gaps index (place_at arrival index) named packet.header.pid ++ scrambled_events index named packet)

-- 6. At the end: the held errors of accuracy, and an event if packets are scrambled without a CAT

unfoldable pub cat_events : Option ScrambledPacket → Bool → List Event
cat_events None has_cat = []
cat_events (Some packet) has_cat = if has_cat then [] else found.Rule (rules.NoCat packet) ∷ []

abbrev pub ends_varying : JudgeState → Bool
ends_varying judge = not (is_decided judge) && varies judge

abbrev pub end_events : RuleState → ℕ → Bool → List Event
end_events s packets has_cat = inaccuracy_events (last_errors s.judge)
    ++ (variable_events (ends_varying s.judge) packets s.judge ++ cat_events s.scrambled has_cat)

abbrev pub holds_none : RuleState → Bool
holds_none s = varies s.judge || (length s.judge.held == 0)
