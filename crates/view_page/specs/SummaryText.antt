-- The head of a page: the input, its length and rate of arrival, and its totals.
use Rattle.std.specs.Prelude.{ℕ, ◌*◌, ◌/◌, max, Bool, if◌then◌else◌, List, ◌++◌, codes, decimal, length, Option, Some, None}
use Rattle.event_lines.specs.ReportLines.{seconds_text}
use Rattle.events.specs.declared.event.ReportEnd.{ReportEnd}
use Rattle.page_curves.specs.Numbers.{grouped}
use Rattle.page_curves.specs.PidCurves.{greatest_value}
use Rattle.view_rows.specs.Cells.{short}
use Rattle.view_page.specs.declared.page.Page.{Page}

-- packets read, packets refused, and bytes after the last packet
unfoldable pub counts : ReportEnd → List ℕ
counts end = codes "<p>" ++ (grouped end.packets ++ (codes " packets, " ++ (grouped end.refused ++ (codes " refused, " ++ (grouped end.left
    ++ codes " bytes after the last.</p>\n")))))

-- 1. The length of a stream, and its rate

-- packets of 1,504 bits that arrive in a number of ticks of 27 MHz, in bits a second, rounded down
abbrev pub mean_rate : ℕ → ℕ → ℕ
mean_rate packets ticks = short (packets * 40608000000 / max ticks 1)

unfoldable pub given : ℕ → List ℕ
given rate = codes " s, at the given rate of " ++ (grouped rate ++ codes " bit/s.</p>\n")

-- the clock of moments, if no rate is given
unfoldable pub clock_name : Bool → List ℕ
clock_name stamps = if stamps then codes " s by the arrival time stamps. Bit rate: " else codes " s by the clock references. Bit rate: "

unfoldable pub mean_text : ℕ → List ℕ
mean_text mean = grouped mean ++ codes " bit/s on average, at most "

unfoldable pub most_text : ℕ → List ℕ
most_text most = grouped most ++ codes " bit/s in a window.</p>\n"

unfoldable pub both_rates : ℕ → ℕ → List ℕ
both_rates mean most = mean_text mean ++ most_text most

-- the greatest rate of a window covers all programs, and the PIDs of no program
unfoldable pub measured : Page → ℕ → List ℕ
measured p ticks = clock_name p.stamps ++ both_rates (mean_rate p.end.packets ticks) (greatest_value p.services.curves.sums.curves.items)

unfoldable pub rate_text : Page → Option ℕ → ℕ → List ℕ
rate_text p None ticks = measured p ticks
rate_text p (Some rate) ticks = given rate

unfoldable pub length_head : ℕ → List ℕ
length_head ticks = codes "<p>Length: " ++ seconds_text ticks

unfoldable pub known_length : Page → ℕ → List ℕ
known_length p ticks = length_head ticks ++ rate_text p p.rate ticks

-- in seconds, rounded down to milliseconds
unfoldable pub length_text : Page → Option ℕ → List ℕ
length_text p None = codes "<p>Length: not known; no packet has a moment.</p>\n"
length_text p (Some ticks) = known_length p ticks

-- 2. The head

-- the number of windows and of viewed streams
unfoldable pub window_count : ℕ → List ℕ
window_count windows = codes "<p>Windows: " ++ grouped windows

unfoldable pub stream_count : ℕ → ℕ → List ℕ
stream_count millis streams = codes " of " ++ (decimal millis ++ (codes " ms. Streams with buffers: " ++ (decimal streams ++ codes ".</p>\n")))

unfoldable pub extent : ℕ → ℕ → ℕ → List ℕ
extent windows millis streams = window_count windows ++ stream_count millis streams

unfoldable pub summary : Page → List ℕ
summary p = counts p.end ++ (length_text p p.end.length ++ (extent p.values.windows p.millis (length p.rows.streams) ++ p.rows.verdict))
