-- The laws of this crate.
use Rattle.std.specs.Prelude.{◌≡◌, ⊤, ℕ, List, [], ◌∷◌, ◌++◌}
use Rattle.pes_packet.specs.AccessUnits.{AccessUnit}
use Rattle.unit_records.specs.Laws.{FitsRecord}
use Rattle.tsair_cli.specs.Frames.{FrameState, entries_read, frame_of, frames_of}

-- the output of a writer that was stopped: whole records, and a beginning of a further record; and the missing bytes of that record
pub record Writer : Type 0 where
  pub whole : List (ℕ × AccessUnit)
  pub half : List ℕ
  pub cut : ℕ × AccessUnit
  pub next : ℕ
  pub missing : List ℕ

-- each unit fits its record
unfoldable pub AllFit : List (ℕ × AccessUnit) → Type 0
AllFit [] = ⊤
AllFit (entry ∷ entries) = FitsRecord entry.1 × AllFit entries

-- at least a byte is missing of the last record; its beginning may be empty
pub record IsStopped (w : Writer) : Type 0 where
  pub whole_fit : AllFit w.whole
  pub cut_fits : FitsRecord w.cut.1
  pub half_is : w.half ++ (w.next ∷ w.missing) ≡ frame_of w.cut

unfoldable pub AllStopped : List Writer → Type 0
AllStopped [] = ⊤
AllStopped (w ∷ ws) = IsStopped w × AllStopped ws

-- the bytes of writers, one after another
unfoldable pub written_by : List Writer → List ℕ
written_by [] = []
written_by (w ∷ ws) = (frames_of w.whole ++ w.half) ++ written_by ws

-- the records that they wrote whole
unfoldable pub whole_of : List Writer → List (ℕ × AccessUnit)
whole_of [] = []
whole_of (w ∷ ws) = w.whole ++ whole_of ws

-- exactly the whole records are read from the output of writers, each stopped anywhere, whatever was read before: no byte of a half record is in any of them,
-- and no record after it is lost
abbrev pub WritersAreRead : Type 0
WritersAreRead = (s : FrameState) (ws : List Writer) → AllStopped ws → entries_read s (written_by ws) ≡ whole_of ws
