-- The curves of the page, by the events that have come and nothing else.
use Rattle.std.specs.Prelude.{◌≡◌, ℕ, ◌+◌, ◌-◌, ◌*◌, ◌/◌, ◌^◌, ◌==◌, ◌&&◌, min, max, not, is_some, Bool, if◌then◌else◌, List, [], Option, Some, None}
use Rattle.events.specs.declared.event.Event.{Event}
use Rattle.events.specs.declared.event.Event.TheVariants.{Stream, Window, Held, Units, Rule}
use Rattle.events.specs.declared.event.HeldFigures.{HeldFigures}
use Rattle.events.specs.declared.rule_event.ClockFigures.{ClockFigures}
use Rattle.events.specs.declared.rule_event.RuleEvent.{RuleEvent}
use Rattle.events.specs.declared.rule_event.RuleEvent.TheVariants as rules
use Rattle.events.specs.declared.event.StreamBegin.{StreamBegin}
use Rattle.events.specs.declared.event.UnitFigures.{UnitFigures}
use Rattle.events.specs.Windows.{WindowView}
use Rattle.unit_timing.specs.Buffers.{tb_size}
use Rattle.page_curves.specs.Curves.{sample}
use Rattle.events.specs.declared.pid_name.PidName.{PidName}
use Rattle.page_curves.specs.Scale.{offset}
use Rattle.page_curves.specs.PidCurves.{AreCurves, KeptCurve, kept_name, opened, with_sample}
use Rattle.events.specs.PidNames.{of_pid}
use Rattle.view_page.specs.declared.values.Values.{Values}
use Rattle.view_rows.specs.Cells.{short}

-- the number of windows; bit rates by PID, the most bytes in the transport buffer of a stream, the most and the least in its main buffer,
-- and the least slack of its units in microseconds; the greatest interval of the clock references of a PID in microseconds, their greatest
-- inaccuracy and the drift of its clock in nanoseconds, as an offset; and the greatest drift of all, ahead or behind
pub record KeptValues : Type 0 where
  pub windows : ℕ
  pub rates : List KeptCurve
  pub transports : List KeptCurve
  pub mains : List KeptCurve
  pub slacks : List KeptCurve
  pub intervals : List KeptCurve
  pub inaccuracies : List KeptCurve
  pub drifts : List KeptCurve
  pub greatest_drift : ℕ

pub record AreValues (values : Values) (kept : KeptValues) : Type 0 where
  pub windows : values.windows ≡ kept.windows
  pub rates : AreCurves values.rates.curves.items kept.rates
  pub transports : AreCurves values.transports.curves.items kept.transports
  pub mains : AreCurves values.mains.curves.items kept.mains
  pub slacks : AreCurves values.slacks.curves.items kept.slacks
  pub intervals : AreCurves values.intervals.curves.items kept.intervals
  pub inaccuracies : AreCurves values.inaccuracies.curves.items kept.inaccuracies
  pub drifts : AreCurves values.drifts.curves.items kept.drifts
  pub greatest_drift : values.greatest_drift ≡ kept.greatest_drift

abbrev pub no_values : KeptValues
no_values = record { windows = 0; rates = []; transports = []; mains = []; slacks = []; intervals = []; inaccuracies = []; drifts = []; greatest_drift = 0 }

-- the name of a PID is its coding if it is a stream with buffers
unfoldable pub name_or : Option PidName → ℕ → PidName
name_or None pid = of_pid pid
name_or (Some name) pid = name

abbrev pub name_of : KeptValues → ℕ → PidName
name_of v pid = name_or (kept_name pid v.mains) pid

-- `window`: the bit rate of a PID
abbrev pub with_window : KeptValues → WindowView → KeptValues
with_window v w = record v {
  windows = max v.windows (min (w.number + 1) (2 ^ 64 - 1));
  rates = with_sample w.pid (sample w.number (short w.rate)) (opened w.pid (name_of v w.pid) 0 v.rates);
}

-- `stream`: its buffers begin
abbrev pub with_stream : KeptValues → StreamBegin → KeptValues
with_stream v e = record v {
  transports = opened e.pid e.coding tb_size v.transports;
  mains = opened e.pid e.coding e.main v.mains;
  slacks = opened e.pid e.coding 0 v.slacks;
}

-- two values of a main buffer
abbrev pub with_main : KeptValues → HeldFigures → List KeptCurve
with_main v e = with_sample e.pid (sample e.number e.main_least) (with_sample e.pid (sample e.number e.main) v.mains)

-- `held`: the bytes in its buffers in a window
abbrev pub with_fullness : KeptValues → HeldFigures → KeptValues
with_fullness v e = record v {
  transports = with_sample e.pid (sample e.number (short e.transport)) v.transports;
  mains = with_main v e;
}

-- a window without a byte is skipped: a byte that comes is in the transport buffer
abbrev pub with_held : KeptValues → HeldFigures → KeptValues
with_held v e = if e.transport == 0 then v else with_fullness v e

-- `units`: the least slack of its units in a window, rounded down to microseconds
abbrev pub with_units : KeptValues → UnitFigures → KeptValues
with_units v e = record v { slacks = with_sample e.pid (sample e.number (short e.slack / 27)) v.slacks }

-- `clock_window`: the greatest interval of a PID's clock references, rounded down to microseconds, with the limit 100 ms, their greatest inaccuracy with
-- the limit 500 ns, from the first known one on, and how far the clock is ahead or behind at the last reference, in nanoseconds; a window where no
-- reference follows another one is skipped
abbrev pub with_interval : KeptValues → PidName → ClockFigures → KeptValues
with_interval v name e = record v { intervals = with_sample e.pid (sample e.number (short e.interval / 27)) (opened e.pid name 100000 v.intervals) }

abbrev pub is_unknown : KeptValues → ClockFigures → Bool
is_unknown v e = e.inaccuracy == 0 && not (is_some (kept_name e.pid v.inaccuracies))

abbrev pub known_inaccuracy : KeptValues → PidName → ClockFigures → KeptValues
known_inaccuracy v name e = record v { inaccuracies = with_sample e.pid (sample e.number (short e.inaccuracy)) (opened e.pid name 500 v.inaccuracies) }

abbrev pub with_inaccuracy : KeptValues → PidName → ClockFigures → KeptValues
with_inaccuracy v name e = if is_unknown v e then v else known_inaccuracy v name e

abbrev pub nanoseconds_of : ℕ → ℕ
nanoseconds_of ticks = short (short ticks * 1000 / 27)

abbrev pub drift_of : ClockFigures → ℕ
drift_of e = offset (nanoseconds_of e.ahead) (nanoseconds_of e.behind)

abbrev pub with_greatest : KeptValues → ClockFigures → KeptValues
with_greatest v e = record v { greatest_drift = max (max v.greatest_drift (nanoseconds_of e.ahead)) (nanoseconds_of e.behind) }

abbrev pub with_offset : KeptValues → PidName → ClockFigures → KeptValues
with_offset v name e = record v { drifts = with_sample e.pid (sample e.number (drift_of e)) (opened e.pid name 0 v.drifts) }

abbrev pub with_drift : KeptValues → PidName → ClockFigures → KeptValues
with_drift v name e = with_offset (with_greatest v e) name e

abbrev pub with_places : KeptValues → PidName → ClockFigures → KeptValues
with_places v name e = with_drift (with_inaccuracy v name e) name e

abbrev pub with_figures : KeptValues → ClockFigures → KeptValues
with_figures v e = with_places (with_interval v (name_of v e.pid) e) (name_of v e.pid) e

abbrev pub with_clock : KeptValues → ClockFigures → KeptValues
with_clock v e = if e.interval == 0 then v else with_figures v e

unfoldable pub with_rule : KeptValues → RuleEvent → KeptValues
with_rule v (rules.ClockWindow e) = with_clock v e
with_rule v _ = v

unfoldable pub with_event : KeptValues → Event → KeptValues
with_event v (Window w) = with_window v w
with_event v (Stream e) = with_stream v e
with_event v (Held e) = with_held v e
with_event v (Units e) = with_units v e
with_event v (Rule e) = with_rule v e
with_event v _ = v
