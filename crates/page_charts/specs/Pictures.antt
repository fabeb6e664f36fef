-- A folded picture of the bytes in a buffer near its greatest excess: its name, the scale, the packets, the size of the buffer, and the numbers as a table.
use Rattle.std.specs.Prelude.{ℕ, List, ◌++◌, codes, decimal}
use Rattle.events.specs.declared.rule_event.TracePoint.{TracePoint}
use Rattle.events.specs.BufferKinds.{word_of}
use Rattle.page_curves.specs.Numbers.{grouped}
use Rattle.page_curves.specs.PidLabels.{LabelsState, label_text}
use Rattle.page_charts.specs.Points.{drawn, height_of}

unfoldable pub title_head : ℕ → List ℕ → List ℕ
title_head pid word = codes "<details id=trace-" ++ (decimal pid ++ (codes "-" ++ (word ++ (codes "><summary>PID " ++ (decimal pid ++ codes " ")))))

unfoldable pub title_word : List ℕ → List ℕ
title_word word = codes ", " ++ (word ++ codes " buffer: at most ")

unfoldable pub title_size : ℕ → List ℕ
title_size size = grouped (drawn size) ++ codes " bytes</summary>\n"

unfoldable pub title_bytes : TracePoint → List ℕ
title_bytes p = grouped (drawn p.peak) ++ (codes " of " ++ title_size p.size)

unfoldable pub title : LabelsState → TracePoint → List ℕ
title labels p = title_head p.pid (word_of p.buffer) ++ (label_text labels p.pid ++ (title_word (word_of p.buffer) ++ title_bytes p))

unfoldable pub picture_head : ℕ → List ℕ → List ℕ
picture_head pid word = codes "<svg class=\"chart\" viewBox=\"0 -80 9900 2560\" role=\"img\" aria-label=\"bytes in the " ++ (word
    ++ (codes " buffer of PID " ++ (decimal pid ++ codes ", packet by packet\">\n")))

unfoldable pub level_head : ℕ → List ℕ
level_head y =
    codes "<path class=\"grid\" d=\"M900 " ++ (decimal y ++ (codes "H9500\"/><text class=\"end\" x=\"840\" y=\"" ++ (decimal y ++ codes "\" dy=\".35em\">")))

unfoldable pub level : ℕ → ℕ → List ℕ
level y value = level_head y ++ (grouped (drawn value) ++ codes "</text>\n")

unfoldable pub levels : TracePoint → List ℕ
levels p = level 2200 0 ++ (level 200 p.peak ++ codes "<text class=\"end\" x=\"840\" y=\"30\">bytes</text>\n")

unfoldable pub limit_head : ℕ → List ℕ
limit_head y =
    codes "<path class=\"limit\" d=\"M900 "
    ++ (decimal y ++ (codes "H9500\"/><text class=\"end\" x=\"9490\" y=\"" ++ (decimal y ++ codes "\" dy=\"-.4em\">size ")))

unfoldable pub limit : ℕ → ℕ → List ℕ
limit y size = limit_head y ++ (grouped (drawn size) ++ codes "</text>\n")

abbrev pub line_text : List ℕ → List ℕ
line_text line = codes "<path class=\"line s0\" d=\"M" ++ (line ++ codes "\"/>\n")

unfoldable pub limit_end : TracePoint → List ℕ
limit_end p = limit (height_of p.peak p.size) p.size ++ codes "</svg>\n"

unfoldable pub curve : TracePoint → List ℕ → List ℕ
curve p line = line_text line ++ limit_end p

unfoldable pub drawing : TracePoint → List ℕ → List ℕ → List ℕ
drawing p line marks = picture_head p.pid (word_of p.buffer) ++ (levels p ++ (marks ++ curve p line))

unfoldable pub numbers : List ℕ → List ℕ
numbers rows =
    codes "<details><summary>Numbers</summary><div class=\"wide tall\"><table><tr><th scope=col>packet<th scope=col>left the transport buffer, ticks<th scope=col>least<th scope=col>most<th scope=col>unit\n"
    ++ (rows ++ codes "</table></div></details></details>\n")

unfoldable pub picture : LabelsState → TracePoint → List ℕ → List ℕ → List ℕ → List ℕ
picture labels p line marks rows = title labels p ++ (drawing p line marks ++ numbers rows)
