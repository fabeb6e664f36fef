-- Pictures of buffers near their greatest excesses, as a contract sees them.
use Rattle.std.specs.Prelude.{ℕ, List, Option}
use Rattle.events.specs.declared.rule_event.TracePoint.{TracePoint}

-- the first point of each picture; the finished pictures; of the current picture its last point, its number of points, their line, marks and rows
pub record PictureTexts : Type 0 where
  pub firsts : List TracePoint
  pub done : List ℕ
  pub last : Option TracePoint
  pub count : ℕ
  pub line : List ℕ
  pub marks : List ℕ
  pub rows : List ℕ
