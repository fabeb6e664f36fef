-- A capture whose bytes come piece by piece.
use Rattle.std.specs.Prelude.{◌≡◌, ℕ, ◌+◌, ◌-◌, ◌%◌, ◌==◌, if◌then◌else◌, Bool, true, List, [], ◌∷◌, ◌++◌, drop, length, map, take, Option, None, Some}
use Rattle.packet_sync.specs.declared.file_form.FileForm.{FileForm}
use Rattle.packet_sync.specs.declared.file_form.FileForm.TheVariants.{Unknown}
use Rattle.ts_packet.specs.PidList.{cut_packets}
use Rattle.packet_sync.specs.OtherPackets.{other_packets}
use Rattle.packet_sync.specs.declared.packet_sizes.OtherPackets.{OtherPackets}
use Rattle.packet_sync.specs.declared.stretch.Stretch.{Stretch}
use Rattle.capture.specs.Captures.{Capture, IsPacket, Part, after_packets, after_slip, capture_at, capture_from, first_place, no_parts, slip_at, with_parts}
use Rattle.packet_sync.specs.FrontForms.{form_of}
use Rattle.capture.specs.declared.place.Place.{Place}
use Rattle.capture.specs.declared.reader.CaptureEnd.{CaptureEnd}
use Rattle.capture.specs.declared.settled.Front.{Front}
use Rattle.capture.specs.declared.settled.Settled.{Settled}

-- 1. The parts of a stretch

-- the bytes of whole packets
abbrev pub whole_size : ℕ → ℕ
whole_size size = size - size % 188

abbrev pub stretch_size : Stretch → ℕ
stretch_size s = whole_size s.in_step + s.slipped

abbrev pub slip_parts : ℕ → Place → List Part
slip_parts size p = if size == 0 then [] else slip_at size p ∷ []

abbrev pub place_if : ℕ → Place → Place
place_if size p = if size == 0 then p else after_slip size p

abbrev pub stretch_parts : List ℕ → Stretch → Place → List Part
stretch_parts bytes s p =
    map IsPacket (cut_packets (take (whole_size s.in_step) bytes)) ++ slip_parts s.slipped (after_packets (whole_size s.in_step) p)

abbrev pub after_stretch : Stretch → Place → Place
after_stretch s p = place_if s.slipped (after_packets (whole_size s.in_step) p)

-- for packets of a size: parts were taken that the first `used` bytes settle, whatever bytes follow
pub record SettlesFrom (HasTaken : List Part → Type 0) (other : Option OtherPackets) (old : Place) (bytes : List ℕ) (ended : Bool) (new : Place)
    (used : ℕ) : Type 0 where
  pub found : List Part
  pub taken : HasTaken found
  pub is : (form : FileForm) (more : List ℕ) → (ended ≡ true → more ≡ []) →
      capture_from form other old (bytes ++ more) ≡ with_parts found (capture_from form other new (drop used bytes ++ more))

-- the bytes that decide which part comes next
abbrev pub decisive : Bool → ℕ
decisive ended = if ended then 188 else 1128

-- 2. What the bytes that are still to come hold

abbrev pub front_in : List ℕ → Front
front_in bs = record { other = other_packets bs; form = form_of bs }

abbrev pub with_front : Settled → Front → Settled
with_front s front = record { front = Some front; place = s.place }

unfoldable pub capture_by : Option Front → Place → List ℕ → Capture
capture_by None p bs = capture_at p bs
capture_by (Some front) p bs = capture_from front.form front.other p bs

abbrev pub capture_after : Settled → List ℕ → Capture
capture_after s bs = capture_by s.front s.place bs

-- parts were taken that the first `used` bytes settle, whatever bytes follow
pub record Settles (HasTaken : List Part → Type 0) (old : Settled) (bytes : List ℕ) (ended : Bool) (new : Settled) (used : ℕ) : Type 0 where
  pub found : List Part
  pub taken : HasTaken found
  pub is : (more : List ℕ) → (ended ≡ true → more ≡ []) → capture_after old (bytes ++ more) ≡ with_parts found (capture_after new (drop used bytes ++ more))

unfoldable pub known_form : Option Front → FileForm
known_form None = Unknown
known_form (Some front) = front.form

-- no part is left
abbrev pub IsLast : Settled → List ℕ → Type 0
IsLast s bs = capture_after s bs ≡ no_parts (known_form s.front) bs

-- 3. A reader

-- the form and place that are known, and the bytes that are not settled
pub record ReaderView : Type 0 where
  pub settled : Settled
  pub kept : List ℕ

abbrev pub no_bytes : ReaderView
no_bytes = record { settled = record { front = None; place = first_place }; kept = [] }

-- the remaining capture, with these bytes after the kept bytes
abbrev pub capture_left : ReaderView → List ℕ → Capture
capture_left r more = capture_after r.settled (r.kept ++ more)

-- parts were taken that a piece settles, whatever bytes follow
pub record Takes (HasTaken : List Part → Type 0) (old : ReaderView) (piece : List ℕ) (new : ReaderView) : Type 0 where
  pub found : List Part
  pub taken : HasTaken found
  pub is : (more : List ℕ) → capture_left old (piece ++ more) ≡ with_parts found (capture_left new more)

-- all parts that are left were taken
pub record TakesLast (HasTaken : List Part → Type 0) (left : Capture) (end : CaptureEnd) : Type 0 where
  pub taken : HasTaken left.parts
  pub left_is : end.left ≡ length left.rest
  pub form_is : end.form ≡ left.form
