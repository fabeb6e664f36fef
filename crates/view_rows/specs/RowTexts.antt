-- The sentences of the verdict and the rows of each table of the page, as text, and the number of faults. The row of a stream has its PID and label
-- before these cells; the row of a fault has the buffer that it is about, and its cells.
use Rattle.std.specs.Prelude.{ℕ, List, Option}
use Rattle.view_rows.specs.declared.fault_rows.FaultBuffer.{FaultBuffer}

pub record StreamText : Type 0 where
  pub pid : ℕ
  pub cells : List ℕ

pub record FaultText : Type 0 where
  pub buffer : Option FaultBuffer
  pub cells : List ℕ

pub record RowTexts : Type 0 where
  pub verdict : List ℕ
  pub checks : List ℕ
  pub kinds : List FaultText
  pub streams : List StreamText
  pub buffers : List ℕ
  pub marks : List ℕ
  pub systems : List ℕ
  pub clocks : List ℕ
  pub tables : List ℕ
  pub pids : List ℕ
  pub apart : List ℕ
  pub faults : List FaultText
  pub count : ℕ
