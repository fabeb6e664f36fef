-- Notes on the packets of a stream whose bytes arrive piece by piece: its slips, and the fields that are not written again.
use Rattle.std.specs.Prelude.{◌≡◌, ℕ, ◌+◌, ◌/◌, ◌==◌, if◌then◌else◌, Bool, true, List, [], ◌∷◌, ◌++◌, length, map, drop}
use Rattle.packet_sync.specs.FieldsLeftOut.{fields_from, with_packets}
use Rattle.packet_sync.specs.Slips.{slips}
use Rattle.packet_sync.specs.declared.left_out.FieldLeftOut.{FieldLeftOut}
use Rattle.packet_sync.specs.declared.slip.Slip.{Slip}
use Rattle.packet_sync.specs.declared.stretch.Stretch.{Stretch}

-- the notes so far, and how many packets and bytes precede the bytes still to come
pub record NotesView : Type 0 where
  pub slips : List Slip
  pub fields : List FieldLeftOut
  pub packet : ℕ
  pub start : ℕ

-- before the first byte
abbrev pub no_notes : NotesView
no_notes = record { slips = []; fields = []; packet = 0; start = 0 }

-- 1. The notes on a whole stream

-- a slip of the rest of a stream, if `packet` packets and `start` bytes precede that rest
abbrev pub later_slip : ℕ → ℕ → Slip → Slip
later_slip packet start s = record { packet = packet + s.packet; start = start + s.start; size = s.size }

-- the slips of the stream whose rest is this
abbrev pub all_slips : NotesView → List ℕ → List Slip
all_slips n rest = n.slips ++ map (later_slip n.packet n.start) (slips rest)

-- its fields
abbrev pub all_fields : NotesView → List ℕ → List FieldLeftOut
all_fields n rest = fields_from (length rest) rest 0 n.fields

-- the notes on the stream do not change when some of its rest is taken
pub record SayAlike (old : NotesView) (before : List ℕ) (new : NotesView) (after : List ℕ) : Type 0 where
  pub slips : all_slips old before ≡ all_slips new after
  pub fields : all_fields old before ≡ all_fields new after

-- whatever bytes follow
abbrev pub IsNoted : NotesView → NotesView → List ℕ → Bool → Stretch → Type 0
IsNoted old new bytes ended s = (more : List ℕ) → (ended ≡ true → more ≡ []) → SayAlike old (bytes ++ more) new (drop (s.in_step + s.slipped) bytes ++ more)

-- 2. A stretch

-- with the packets of this many bytes
abbrev pub with_stretch : ℕ → List ℕ → NotesView → NotesView
with_stretch size bytes n = record {
  slips = n.slips;
  fields = with_packets (size / 188) bytes n.fields;
  packet = n.packet + size / 188;
  start = n.start + size;
}

-- with the bytes that are left out there, if there are any
abbrev pub with_slip : ℕ → NotesView → NotesView
with_slip size n = if size == 0 then n else record {
  slips = n.slips ++ record { packet = n.packet; start = n.start; size = size } ∷ [];
  fields = n.fields;
  packet = n.packet;
  start = n.start + size;
}
