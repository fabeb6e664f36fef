-- The outcome of a subcommand: bytes on its two writers, and its status.
use Rattle.std.specs.Prelude.{ℕ, List, [], codes}
use Rattle.devices.specs.Lines.{line_text}
use Rattle.devices.specs.declared.halt.Halt.{Halt}
use Rattle.devices.specs.declared.halt.Halt.TheVariants.{Read, Write, Memory}

-- the outcome for an input: the bytes on the output, the bytes on the second writer, and the status
pub record Outcome : Type 0 where
  pub output : List ℕ
  pub report : List ℕ
  pub status : ℕ

-- bytes on the output alone
abbrev pub printed : List ℕ → ℕ → Outcome
printed bytes status = record { output = bytes; report = []; status = status }

-- a line on the second writer alone, and the status 1
abbrev pub reported : List ℕ → Outcome
reported line = record { output = []; report = line; status = 1 }

-- the line that says why it ended early
abbrev pub halt_line : Halt → List ℕ
halt_line Read = line_text (codes "read") []
halt_line Write = line_text (codes "write") []
halt_line Memory = line_text (codes "memory") []

-- it ended early: this line, and the status 3
abbrev pub halted : Halt → Outcome
halted halt = record { output = []; report = halt_line halt; status = 3 }
