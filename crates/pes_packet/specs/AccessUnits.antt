-- Access units (ISO/IEC 13818-1, 2.1: a coded picture or audio frame with its stamps).
use Rattle.std.specs.Prelude.{ℕ, List}
use Rattle.pes_packet.specs.declared.marks.Marks.{Marks}

-- an access unit: its stamps in units of 90 kHz from the start of the run, what its packets say of it beside them, and its bytes
pub record AccessUnit : Type 0 where
  pub dts : ℕ
  pub pts : ℕ
  pub marks : Marks
  pub bytes : List ℕ
