-- A reader of frames in memory, and its state in the definition.
use Rattle.std.specs.Prelude.{◌≡◌, ℕ, List, Option, Result, Ok, Err}
use Rattle.pes_packet.specs.AccessUnits.{AccessUnit}
use Rattle.unit_records.specs.OpenRecords.{IsOpen, come_of}
use Rattle.unit_records.specs.declared.reading.UnitFileError.{UnitFileError}
use Rattle.unit_records.specs.declared.reading.UnitFileError.TheVariants.{Cut, Size, Device, Memory}
use Rattle.tsair_cli.specs.Frames.{FrameAnswer, FrameState, Outside, Within, Escaped, Lost}
use Rattle.tsair_cli.specs.declared.frame_fault.FrameFault.{FrameFault}
use Rattle.tsair_cli.specs.declared.frame_fault.FrameFault.TheVariants.{Dropped, NoMemory}
use Rattle.tsair_cli.specs.declared.frame.OpenFrame.{OpenFrame}
use Rattle.tsair_cli.specs.declared.frame.Place.{Place}
use Rattle.tsair_cli.specs.declared.frame.Place.TheVariants.{Before, Inside, AfterEscape, Skipping}

abbrev pub state_by : Place → List ℕ → FrameState
state_by Before come = Outside
state_by Inside come = Within come
state_by AfterEscape come = Escaped come
state_by Skipping come = Lost

abbrev pub state_of : OpenFrame → FrameState
state_of frame = state_by frame.place (come_of frame.begun)

-- the reader has this state, and the record that it reads is open
pub record HasState (s : FrameState) (frame : OpenFrame) : Type 0 where
  pub state : state_of frame ≡ s
  pub open_record : IsOpen frame.begun

-- the fault of a record that is refused
abbrev pub fault_of : UnitFileError → FrameFault
fault_of Cut = Dropped
fault_of Size = Dropped
fault_of Device = Dropped
fault_of Memory = NoMemory

-- the state and the answer of a call, as the definition has them; without memory the record is dropped
abbrev pub Steps : FrameState × FrameAnswer → OpenFrame → Result (Option (ℕ × AccessUnit)) FrameFault → Type 0
Steps after new (Ok entry) = HasState after.0 new × (after.1 ≡ Ok entry)
Steps after new (Err Dropped) = HasState after.0 new × (after.1 ≡ Err Dropped)
Steps after new (Err NoMemory) = HasState Lost new
