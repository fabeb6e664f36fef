-- A picture of the bit rates of programs, each stacked on the programs after it: a curve's PID is its program_number, or 0 for no program.
use Rattle.std.specs.Prelude.{ℕ, ◌%◌, ◌==◌, nat_eq, if◌then◌else◌, List, ◌++◌, codes, decimal}
use Rattle.std.specs.Map.{lookup}
use Rattle.page_curves.specs.Slots as slots
use Rattle.page_curves.specs.declared.frame.ChartUnit.TheVariants.{BitRate}
use Rattle.page_curves.specs.declared.frame.Frame.{Frame}
use Rattle.page_curves.specs.declared.pid_curves.PidCurve.{PidCurve}
use Rattle.page_charts.specs.Charts.{picture_head, with_unit}
use Rattle.page_curves.specs.Frames.{scales_text, slots_of}
use Rattle.page_curves.specs.Paths.{numbered, point}
use Rattle.page_curves.specs.PidLabels.{LabelsState, service_text}
use Rattle.page_curves.specs.Scale.{across}
use Rattle.page_charts.specs.ValueTables as values

-- a piece of an area
unfoldable pub sample : ℕ → List ℕ
sample class = codes "<span><svg class=\"sample\" viewBox=\"0 0 600 120\"><path class=\"area s" ++ (decimal class
    ++ codes "\" d=\"M0 0H600V120H0z\"/></svg> ")

-- a program and the name of its service
unfoldable pub number_text : ℕ → List ℕ
number_text program = codes "program " ++ decimal program

abbrev pub program_text : LabelsState → ℕ → List ℕ
program_text labels program = if program == 0 then codes "no program"
    else number_text program ++ service_text (lookup (nat_eq program) labels.services)

-- the key of the area of a number, after a piece of it
unfoldable pub key : LabelsState → ℕ → PidCurve → List ℕ
key labels number entry =
    sample (number % 16)
    ++ (program_text labels entry.pid ++ (codes ", at most " ++ with_unit BitRate (slots.greatest_of entry.curve.slots)))

unfoldable pub keys : LabelsState → List PidCurve → List ℕ
keys labels rates = codes "<p class=\"key\">" ++ (numbered (key labels) 0 rates ++ codes "</p>\n")

-- an area from the lower edge up to the greatest values of a curve
unfoldable pub area_head : ℕ → ℕ → List ℕ
area_head class x = codes "<path class=\"area s" ++ (decimal class ++ (codes "\" d=\"M" ++ (decimal x ++ codes " 2200")))

unfoldable pub area : Frame → ℕ → PidCurve → List ℕ
area f number entry = area_head (number % 16) (across (slots_of f entry.curve.span) 0)
    ++ (numbered (point f entry.curve.span) 0 entry.curve.slots ++ codes "h20V2200z\"/>\n")

-- each area is drawn over the areas before it, and the scales over all
unfoldable pub picture : List ℕ → Frame → List PidCurve → List ℕ
picture name f sums = picture_head name ++ (numbered (area f) 0 sums ++ (scales_text f ++ codes "</svg>\n"))

unfoldable pub stack : List ℕ → Frame → LabelsState → List PidCurve → List PidCurve → List ℕ
stack name f labels rates sums = keys labels rates ++ (picture name f sums ++ values.table (codes "program") f rates)
