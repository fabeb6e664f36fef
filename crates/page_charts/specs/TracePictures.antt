-- Pictures of buffers near their greatest excesses, by the events of a stream: points of a buffer come one after another.
use Rattle.std.specs.Prelude.{ℕ, ◌+◌, ◌-◌, ◌^◌, ◌==◌, ◌&&◌, not, min, Bool, false, if◌then◌else◌, List, [], ◌∷◌, ◌++◌, Option, Some, None}
use Rattle.events.specs.declared.event.Event.{Event}
use Rattle.events.specs.declared.event.Event.TheVariants.{Rule}
use Rattle.events.specs.declared.rule_event.BufferKind.{BufferKind}
use Rattle.events.specs.declared.rule_event.BufferKind.TheVariants.{Transport, Multiplexing, Elementary, Main, TableTransport, System}
use Rattle.events.specs.declared.rule_event.RuleEvent.{RuleEvent}
use Rattle.events.specs.declared.rule_event.RuleEvent.TheVariants.{FaultTrace}
use Rattle.events.specs.declared.rule_event.TracePoint.{TracePoint}
use Rattle.page_curves.specs.PidLabels.{LabelsState}
use Rattle.page_charts.specs.declared.trace_pictures.TheConstants.{HEAD}
use Rattle.page_charts.specs.Pictures.{picture}
use Rattle.page_charts.specs.PictureTexts.{PictureTexts}
use Rattle.page_charts.specs.Points.{marks, row, step}

abbrev pub no_pictures : PictureTexts
no_pictures = record { firsts = []; done = []; last = None; count = 0; line = []; marks = []; rows = [] }

-- a number for each kind of buffer
unfoldable pub kind_number : BufferKind → ℕ
kind_number Transport = 0
kind_number Multiplexing = 1
kind_number Elementary = 2
kind_number Main = 3
kind_number TableTransport = 4
kind_number System = 5

abbrev pub is_of : ℕ → BufferKind → TracePoint → Bool
is_of pid kind p = p.pid == pid && kind_number p.buffer == kind_number kind

unfoldable pub is_other : Option TracePoint → TracePoint → Bool
is_other None p = false
is_other (Some last) p = not (is_of p.pid p.buffer last)

-- the current picture is finished
unfoldable pub last_picture : LabelsState → PictureTexts → Option TracePoint → List ℕ
last_picture labels s None = []
last_picture labels s (Some last) = picture labels last s.line s.marks s.rows

abbrev pub cleared : PictureTexts → PictureTexts
cleared s = record { firsts = s.firsts; done = s.done; last = None; count = 0; line = []; marks = []; rows = [] }

abbrev pub closed : LabelsState → PictureTexts → PictureTexts
closed labels s = record { firsts = s.firsts; done = s.done ++ last_picture labels s s.last; last = None; count = 0; line = []; marks = []; rows = [] }

-- a point more, of the open picture or the first of a picture
abbrev pub firsts_with : PictureTexts → TracePoint → List TracePoint
firsts_with s p = if s.count == 0 then s.firsts ++ p ∷ [] else s.firsts

abbrev pub with_first : PictureTexts → TracePoint → PictureTexts
with_first s p = record s { firsts = firsts_with s p }

abbrev pub with_point : PictureTexts → TracePoint → PictureTexts
with_point s p = record {
  firsts = firsts_with s p;
  done = s.done;
  last = Some p;
  count = min (s.count + 1) (2 ^ 64 - 1);
  line = s.line ++ step s.count p;
  marks = s.marks ++ marks s.count p;
  rows = s.rows ++ row p;
}

abbrev pub after_point : LabelsState → PictureTexts → TracePoint → PictureTexts
after_point labels s p = with_point (if is_other s.last p then closed labels s else s) p

-- an event
unfoldable pub after_rule : LabelsState → PictureTexts → RuleEvent → PictureTexts
after_rule labels s (FaultTrace p) = after_point labels s p
after_rule labels s _ = s

unfoldable pub after_event : LabelsState → PictureTexts → Event → PictureTexts
after_event labels s (Rule e) = after_rule labels s e
after_event labels s _ = s

-- the pictures, if there are any
unfoldable pub head_text : List ℕ
head_text = HEAD.now

abbrev pub all_text : LabelsState → PictureTexts → TracePoint → List ℕ
all_text labels s last = head_text ++ (s.done ++ picture labels last s.line s.marks s.rows)

unfoldable pub text_with : LabelsState → PictureTexts → Option TracePoint → List ℕ
text_with labels s None = []
text_with labels s (Some last) = all_text labels s last

abbrev pub pictures_text : LabelsState → PictureTexts → List ℕ
pictures_text labels s = text_with labels s s.last
