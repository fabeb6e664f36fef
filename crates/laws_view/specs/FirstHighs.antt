-- The greatest fullness in the line `held` for the window where a stream's buffers begin: the greatest over all its packets so far, as in the
-- lines `transport` and `main`, since all these packets lie in that window.
use Rattle.std.specs.Prelude.{◌≡◌, ℕ, ◌+◌, ◌^◌, ◌<◌, List, ◌++◌, length, slice_get, Some, None}
use Rattle.arrival.specs.declared.arrival.Arrival.TheVariants.{Unknown}
use Rattle.tstd_rows.specs.Held.{main_most, transport_most}
use Rattle.laws_view.specs.TimedPackets.{Timed}
use Rattle.ts_watch.specs.Choices.{RequestView}
use Rattle.es_view.specs.Entries.{EntryState}
use Rattle.es_view.specs.HeldEvents.{main_held}
use Rattle.ts_report.specs.StreamTables.{TableState}
use Rattle.ts_report.specs.Views.{start}
use Rattle.laws_view.specs.ClockedWindows.{report_tables, timed_in}
use Rattle.laws_view.specs.HeldWindows.{BeginIn, options_then}
use Rattle.laws_view.specs.TimedStreams.{view_by}

-- a window has the most of both buffers so far, and the line says so of the main buffer, whether a byte enters it or not
pub record HasMost (e : EntryState) : Type 0 where
  pub transport : e.tally.window_transport ≡ transport_most e.held
  pub main : e.tally.window_main ≡ main_most e.held
  pub said : (main_held e.tally.window_main e.held e.tally.window_least).0 ≡ main_most e.held

-- of packets that arrive in any way, where a byte takes some time to leave the transport buffer
abbrev pub FirstHighLaw : Type 0
FirstHighLaw = (request : RequestView) (before packets : List Timed) (window place : ℕ) (e : EntryState) → length before + length packets < 2 ^ 64 →
    slice_get (view_by (start request) before).table.entries place ≡ None →
    slice_get (view_by (start request) (before ++ packets)).table.entries place ≡ Some e →
    BeginIn (options_then request e before) window (length before) packets → 0 < e.held.rate → HasMost e

-- and by clock references
abbrev pub ClockedFirstLaw : Type 0
ClockedFirstLaw = (request : RequestView) (packets : List (List ℕ)) (before now later : List Timed) (window place : ℕ) (t t' : TableState)
    (e : EntryState) → request.options.arrival ≡ Unknown → length packets < 2 ^ 64 → timed_in request packets ≡ before ++ (now ++ later) →
    slice_get (report_tables request packets) (length before) ≡ Some t → slice_get t.entries place ≡ None →
    slice_get (report_tables request packets) (length (before ++ now)) ≡ Some t' → slice_get t'.entries place ≡ Some e →
    BeginIn (options_then request e before) window (length before) now → HasMost e
