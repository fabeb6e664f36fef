-- A table of strips: how full each buffer was, by program, on one scale of times.
use Rattle.std.specs.Prelude.{ℕ, ◌*◌, ◌/◌, ◌==◌, min, max, nat_eq, nat_lt, Bool, if◌then◌else◌, List, [], ◌++◌, codes, decimal, flat_map, take}
use Rattle.std.specs.List.{list_any}
use Rattle.std.specs.Map.{lookup}
use Rattle.events.specs.PidNames.{word}
use Rattle.page_curves.specs.declared.frame.Frame.{Frame}
use Rattle.page_curves.specs.declared.pid_curves.PidCurve.{PidCurve}
use Rattle.page_charts.specs.declared.strip.TheConstants.{STRIP}
use Rattle.page_charts.specs.declared.strip_table.TheConstants.{STEP_COUNTS}
use Rattle.page_curves.specs.declared.time_scale.TimeUnit.{TimeUnit}
use Rattle.page_curves.specs.Frames.{length_of}
use Rattle.page_curves.specs.Numbers.{grouped}
use Rattle.page_curves.specs.Paths.{numbered}
use Rattle.page_curves.specs.PidLabels.{LabelsState, program_number, service_text}
use Rattle.page_curves.specs.Slots as slots
use Rattle.page_charts.specs.Strips.{strip}
use Rattle.page_curves.specs.TimeScale.{step_for, unit_millis, unit_name, unit_of}

-- 1. The scale of times

unfoldable pub axis_line : ℕ → List ℕ
axis_line x = codes "<path class=\"grid\" d=\"M" ++ (decimal x ++ (codes " 0V160\"/><text dx=\"-20\" x=\"" ++ (decimal x ++ codes "\" y=\"125\">")))

unfoldable pub axis_text : ℕ → ℕ → TimeUnit → List ℕ
axis_text x moment unit = axis_line x ++ (decimal (moment / unit_millis unit) ++ (codes " " ++ (unit_name unit ++ codes "</text>")))

-- the mark of a moment on the scale, if it lies on the scale
abbrev pub axis_at : Frame → ℕ → List ℕ
axis_at f moment = if nat_lt (length_of f) moment then []
    else axis_text (STRIP * moment / max (length_of f) 1) moment (unit_of (step_for (length_of f)))

abbrev pub axis_step : Frame → ℕ → List ℕ
axis_step f count = axis_at f (step_for (length_of f) * min count 6)

unfoldable pub head : Frame → List ℕ
head f = codes
    "<div class=\"wide\"><table class=\"strips\" aria-labelledby=over-time><tr><th class=word scope=col>stream<th class=word scope=col>buffer<th scope=col>most<th scope=col>size<th scope=col><svg class=\"axis\" viewBox=\"0 0 4000 160\" role=\"img\" aria-label=\"time\">"
    ++ (flat_map (axis_step f) STEP_COUNTS ++ codes "</svg>\n")

-- 2. The row of a buffer: its stream, its name, the most bytes in it, marked if they are more than its size, and its strip

unfoldable pub name_cells : List ℕ → PidCurve → List ℕ
name_cells buffer entry = codes "<tr><th class=word scope=row>PID "
    ++ (decimal entry.pid ++ (codes " " ++ (word entry.name ++ (codes "<td class=word>" ++ buffer))))

abbrev pub most_head : Bool → List ℕ
most_head over = if over then codes "<td class=\"bad\">&#9650; " else codes "<td>"

abbrev pub most_cells : ℕ → ℕ → List ℕ
most_cells most size = most_head (nat_lt size most) ++ (grouped most ++ (codes "<td>" ++ grouped size))

abbrev pub row : Frame → List ℕ → PidCurve → List ℕ
row f buffer entry = name_cells buffer entry ++ (most_cells (slots.greatest_of entry.curve.slots) entry.limit ++ strip f entry)

-- 3. The rows of a program: of each of its streams the transport buffer and the main buffer

abbrev pub main_if : Frame → ℕ → PidCurve → List ℕ
main_if f pid main = if main.pid == pid then row f (codes "main") main else []

abbrev pub is_of : LabelsState → ℕ → PidCurve → Bool
is_of l program entry = program_number l entry.pid == program

abbrev pub stream_if : Frame → LabelsState → List PidCurve → ℕ → PidCurve → List ℕ
stream_if f l mains program entry = if is_of l program entry then row f (codes "transport") entry ++ flat_map (main_if f entry.pid) mains else []

unfoldable pub program_head : ℕ → List ℕ
program_head program = codes "<tr><th class=word scope=rowgroup colspan=5>program " ++ decimal program

unfoldable pub program_row : LabelsState → ℕ → List ℕ
program_row l program = program_head program ++ (service_text (lookup (nat_eq program) l.services) ++ codes "\n")

abbrev pub group_of : Frame → LabelsState → List PidCurve → List PidCurve → ℕ → List ℕ
group_of f l transports mains program = program_row l program ++ flat_map (stream_if f l mains program) transports

-- 4. The rows of all programs, each where its first stream is

unfoldable pub group_if : Frame → LabelsState → List PidCurve → List PidCurve → ℕ → PidCurve → List ℕ
group_if f l transports mains number entry = if list_any (is_of l (program_number l entry.pid)) (take number transports) then []
    else group_of f l transports mains (program_number l entry.pid)

unfoldable pub table : Frame → LabelsState → List PidCurve → List PidCurve → List ℕ
table f l transports mains = head f ++ (numbered (group_if f l transports mains) 0 transports ++ codes "</table></div>\n")
