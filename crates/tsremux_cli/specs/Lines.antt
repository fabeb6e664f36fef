-- The report on an output.
use Rattle.std.specs.Prelude.{◌⊎◌, ℕ, ◌*◌, ◌/◌, ◌%◌, ◌==◌, max, Bool, true, false, if◌then◌else◌, [], ◌++◌, Option, Some, None, codes, decimal}
use Rattle.devices.specs.Devices.{Device, IsUntouched}
use Rattle.devices.specs.Lines.{Reports}
use Rattle.word_faults.specs.CommandLine.{Text}
use Rattle.tsremux_cli.specs.declared.figures.Figures.{Figures}
use Rattle.tsremux_cli.specs.declared.figures.UnkeptFrames.{UnkeptFrames}

-- the promises for an output whose packets are all written

-- the output's length, in tenths of a second: a packet has 1,504 bits
abbrev pub tenths_of : Figures → ℕ
tenths_of figures = figures.packets * 15040 / max figures.rate 1

abbrev pub time_text : ℕ → Text
time_text tenths = decimal (tenths / 10) ++ (codes "." ++ (decimal (tenths % 10) ++ codes " s, "))

abbrev pub figures_text : Figures → Text
figures_text figures =
    codes ": " ++ (decimal figures.rate ++ (codes " bit/s, " ++ (time_text (tenths_of figures) ++ (decimal figures.packets ++ codes " packets"))))

-- a main buffer may be over if frames of sound leave it one by one: of the first stream of such units, and of as many others
abbrev pub others_text : ℕ → Text
others_text others = if others == 0 then [] else codes " and " ++ (decimal others ++ codes " more")

abbrev pub unkept_text : UnkeptFrames → Text
unkept_text unkept = codes " but perhaps main of pid " ++ (decimal unkept.pid ++ (others_text unkept.others ++ codes ", frame by frame"))

unfoldable pub exception_text : Option UnkeptFrames → Text
exception_text None = []
exception_text (Some unkept) = unkept_text unkept

-- the promises, with the exception
abbrev pub held_text : Option UnkeptFrames → Text
held_text unkept = codes ": every accepted unit by its DTS, no buffer over its size" ++ (exception_text unkept ++ codes "\n")

abbrev pub held_line : Text → Figures → Text
held_line name figures = name ++ (figures_text figures ++ held_text figures.unkept)

-- the output is reported, unless only refusals are, or memory for the line runs out
abbrev pub ReportsHeld : Bool → Text → Figures → Device → Type 0
ReportsHeld true name figures faults = IsUntouched faults
ReportsHeld false name figures faults = Reports faults (held_line name figures) ⊎ IsUntouched faults
