-- The text of a page.
use Rattle.std.specs.Prelude.{ℕ, List, [], ◌∷◌, ◌++◌, codes, decimal, flat_map}
use Rattle.page_curves.specs.declared.frame.ChartUnit.{ChartUnit}
use Rattle.page_curves.specs.declared.frame.ChartUnit.TheVariants.{BitRate, Bytes, Time, Nanoseconds, Offset}
use Rattle.page_curves.specs.declared.pid_curves.PidCurve.{PidCurve}
use Rattle.page_charts.specs.Charts.{chart}
use Rattle.page_curves.specs.Frames.{frame}
use Rattle.page_curves.specs.PidCurves.{greatest_value}
use Rattle.view_page.specs.declared.page.Page.{Page}
use Rattle.view_page.specs.declared.page_heads.TheConstants.{APART, BACK, BUFFERS, CHECKS, CLOCKS, FAULTS, FRONT, LINKS, MAINS, PIDS, RATES}
use Rattle.view_page.specs.declared.page_heads.TheConstants.{DRIFTS, INACCURACIES, INTERVALS, SERVICES, SLACKS, STREAMS, STRIPS, SYSTEMS, TABLES, TRANSPORTS, TREE}
use Rattle.page_curves.specs.PidLabels.{LabelsState}
use Rattle.page_charts.specs.Stacks.{stack}
use Rattle.page_charts.specs.Links.{section_link}
use Rattle.page_charts.specs.TracePictures.{pictures_text}
use Rattle.page_charts.specs.StripTables.{table as strip_table}
use Rattle.view_rows.specs.Cells.{carried_cell}
use Rattle.view_rows.specs.MarkCells.{marks_text}
use Rattle.view_rows.specs.SummaryCells.{kinds_text}
use Rattle.view_page.specs.FaultTables.{fault_row}
use Rattle.view_page.specs.SummaryText.{summary}
use Rattle.view_page.specs.Trees.{tree}
use Rattle.view_rows.specs.RowTexts.{RowTexts, StreamText}

-- texts that are always the same
unfoldable pub front_text : List ℕ
front_text = FRONT.now

unfoldable pub links_text : List ℕ
links_text = LINKS.now

unfoldable pub strips_text : List ℕ
strips_text = STRIPS.now

unfoldable pub services_text : List ℕ
services_text = SERVICES.now

unfoldable pub rates_text : List ℕ
rates_text = RATES.now

unfoldable pub slacks_text : List ℕ
slacks_text = SLACKS.now

unfoldable pub intervals_text : List ℕ
intervals_text = INTERVALS.now

unfoldable pub inaccuracies_text : List ℕ
inaccuracies_text = INACCURACIES.now

unfoldable pub drifts_text : List ℕ
drifts_text = DRIFTS.now

unfoldable pub transports_text : List ℕ
transports_text = TRANSPORTS.now

unfoldable pub mains_text : List ℕ
mains_text = MAINS.now

unfoldable pub checks_text : List ℕ
checks_text = CHECKS.now

unfoldable pub faults_text : List ℕ
faults_text = FAULTS.now

unfoldable pub streams_text : List ℕ
streams_text = STREAMS.now

unfoldable pub buffers_text : List ℕ
buffers_text = BUFFERS.now

unfoldable pub systems_text : List ℕ
systems_text = SYSTEMS.now

unfoldable pub clocks_text : List ℕ
clocks_text = CLOCKS.now

unfoldable pub tables_text : List ℕ
tables_text = TABLES.now

unfoldable pub pids_text : List ℕ
pids_text = PIDS.now

unfoldable pub apart_text : List ℕ
apart_text = APART.now

unfoldable pub tree_text : List ℕ
tree_text = TREE.now

unfoldable pub back_text : List ℕ
back_text = BACK.now

-- how full the buffers were, as strips on one scale of times
unfoldable pub strips : Page → List ℕ
strips p = strips_text ++ strip_table (frame Bytes p.values.windows p.millis 0) p.labels p.values.transports.curves.items p.values.mains.curves.items

-- a picture of curves in one frame, up to the greatest value of all; the colour of a PID is the same as in the picture of bit rates
unfoldable pub one_chart : Page → List ℕ → ChartUnit → List PidCurve → List ℕ
one_chart p name unit curves = chart name (frame unit p.values.windows p.millis (greatest_value curves)) p.labels p.values.rates.curves.items curves

abbrev pub buffer_chart : Page → List ℕ → PidCurve → List ℕ
buffer_chart p name entry = one_chart p name Bytes (entry ∷ [])

unfoldable pub rates : Page → List ℕ
rates p = rates_text ++ one_chart p (codes "bit rate by PID over time") BitRate p.values.rates.curves.items

-- the bit rates of programs, each stacked on the programs after it
unfoldable pub services : Page → List ℕ
services p =
    services_text
    ++ stack (codes "bit rate by service over time") (frame BitRate p.values.windows p.millis (greatest_value p.services.curves.sums.curves.items)) p.labels
    p.services.curves.rates.curves.items p.services.curves.sums.curves.items

unfoldable pub transports : Page → List ℕ
transports p = transports_text ++ flat_map (buffer_chart p (codes "bytes in a transport buffer over time")) p.values.transports.curves.items

unfoldable pub mains : Page → List ℕ
mains p = mains_text ++ flat_map (buffer_chart p (codes "bytes in a main buffer over time")) p.values.mains.curves.items

unfoldable pub slacks : Page → List ℕ
slacks p = slacks_text ++ one_chart p (codes "time from a unit's last byte to its DTS over time") Time p.values.slacks.curves.items

-- the greatest time between clock references, their greatest inaccuracy, and how far clocks drift
unfoldable pub intervals : Page → List ℕ
intervals p = intervals_text ++ one_chart p (codes "time between clock references over time") Time p.values.intervals.curves.items

unfoldable pub inaccuracies : Page → List ℕ
inaccuracies p =
    inaccuracies_text ++ one_chart p (codes "inaccuracy of clock references over time") Nanoseconds p.values.inaccuracies.curves.items

-- the drift of program clocks, on a scale that reaches as far below 0 as above it
unfoldable pub drift_chart : Page → List ℕ → List PidCurve → List ℕ
drift_chart p name curves =
    chart name (frame Offset p.values.windows p.millis p.values.greatest_drift) p.labels p.values.rates.curves.items curves

unfoldable pub drifts : Page → List ℕ
drifts p = drifts_text ++ drift_chart p (codes "drift of program clocks over time") p.values.drifts.curves.items

unfoldable pub times : Page → List ℕ
times p = slacks p ++ (intervals p ++ (inaccuracies p ++ drifts p))

unfoldable pub charts : Page → List ℕ
charts p = rates p ++ (transports p ++ (mains p ++ times p))

-- the programs and their PIDs
unfoldable pub program_list : Page → List ℕ
program_list p = tree_text ++ tree p.labels p.services.programs.entries

unfoldable pub pictures : Page → List ℕ
pictures p = strips p ++ (pictures_text p.labels p.traces ++ (program_list p ++ (services p ++ charts p)))

abbrev pub row_head : ℕ → List ℕ
row_head pid = codes "<tr><td>" ++ decimal pid

-- the row of a stream, with its label as known at the end
unfoldable pub stream_row : LabelsState → StreamText → List ℕ
stream_row labels r = row_head r.pid ++ (carried_cell labels r.pid ++ (r.cells ++ codes "\n"))

unfoldable pub figures : RowTexts → List ℕ
figures r = (buffers_text ++ r.buffers) ++ ((marks_text ++ r.marks) ++ ((systems_text ++ r.systems) ++ (clocks_text ++ r.clocks)))

unfoldable pub fault_tables : Page → List ℕ
fault_tables p = (kinds_text ++ flat_map (fault_row p.traces) p.rows.kinds) ++ (faults_text ++ flat_map (fault_row p.traces) p.rows.faults)

unfoldable pub measures : Page → List ℕ
measures p =
    (checks_text ++ p.rows.checks) ++ (fault_tables p ++ ((streams_text ++ flat_map (stream_row p.labels) p.rows.streams) ++ figures p.rows))

unfoldable pub lists : RowTexts → List ℕ
lists r = (tables_text ++ r.tables) ++ ((pids_text ++ r.pids) ++ (apart_text ++ r.apart))

-- the begin of the page, with a link to the pictures of buffers if there are any
unfoldable pub front : Page → List ℕ
front p = front_text ++ (section_link p.traces ++ links_text)

abbrev pub page_text : Page → List ℕ
page_text p = front p ++ (summary p ++ (pictures p ++ (measures p ++ (lists p.rows ++ back_text))))
