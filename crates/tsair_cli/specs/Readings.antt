-- Reading frames byte by byte: the records that are passed on, and where bytes are dropped.
use Rattle.std.specs.Prelude.{◌≡◌, ℕ, ◌+◌, ◌-◌, ◌^◌, min, Bool, true, List, [], ◌∷◌, ◌++◌, Option, Some, None, Result, Ok, Err}
use Rattle.std.specs.List.{flat_map}
use Rattle.pes_packet.specs.AccessUnits.{AccessUnit}
use Rattle.unit_records.specs.Records.{record_bytes}
use Rattle.unit_records.specs.OpenRecords.{IsOpen}
use Rattle.tsair_cli.specs.declared.frame_feed.FrameFeed.{FrameFeed}
use Rattle.tsair_cli.specs.Frames.{FrameAnswer, FrameState, Outside, frame_step}
use Rattle.tsair_cli.specs.OpenFrames.{state_of}

-- the bytes of records, one after another
abbrev pub record_of : ℕ × AccessUnit → List ℕ
record_of entry = record_bytes entry.0 entry.1

abbrev pub bytes_of : List (ℕ × AccessUnit) → List ℕ
bytes_of entries = flat_map record_of entries

-- the progress of a reader: its state, the number of records that it passed on, 2^64 - 1 at most, and whether bytes were dropped
pub record Reading : Type 0 where
  pub state : FrameState
  pub count : ℕ
  pub reported : Bool

abbrev pub first : Reading
first = record { state = Outside; count = 0; reported = Bool.false }

-- the record that an answer passes on, and after how many records it drops bytes
unfoldable pub answer_bytes : FrameAnswer → List ℕ
answer_bytes (Ok None) = []
answer_bytes (Ok (Some entry)) = record_of entry
answer_bytes (Err fault) = []

unfoldable pub answer_drops : ℕ → FrameAnswer → List ℕ
answer_drops n (Ok entry) = []
answer_drops n (Err fault) = n ∷ []

unfoldable pub counted : ℕ → FrameAnswer → ℕ
counted n (Ok None) = n
counted n (Ok (Some entry)) = min (n + 1) (2 ^ 64 - 1)
counted n (Err fault) = n

unfoldable pub reported_with : Bool → FrameAnswer → Bool
reported_with reported (Ok entry) = reported
reported_with reported (Err fault) = true

-- after a byte, and after bytes
abbrev pub step : Reading → ℕ → Reading
step r b = record {
  state = (frame_step r.state b).0;
  count = counted r.count (frame_step r.state b).1;
  reported = reported_with r.reported (frame_step r.state b).1;
}

unfoldable pub after : Reading → List ℕ → Reading
after r [] = r
after r (b ∷ bs) = after (step r b) bs

-- the bytes of the records that end among bytes, and after how many records bytes are dropped
unfoldable pub records_in : Reading → List ℕ → List ℕ
records_in r [] = []
records_in r (b ∷ bs) = answer_bytes (frame_step r.state b).1 ++ records_in (step r b) bs

unfoldable pub drops_in : Reading → List ℕ → List ℕ
drops_in r [] = []
drops_in r (b ∷ bs) = answer_drops r.count (frame_step r.state b).1 ++ drops_in (step r b) bs

-- a reader in memory, and what it took
abbrev pub reading_of : FrameFeed → Reading
reading_of feed = record { state = state_of feed.frame; count = feed.count; reported = feed.reported }

pub record Unframes (old new : FrameFeed) (bytes : List ℕ) : Type 0 where
  pub is_open : IsOpen new.frame.begun
  pub reading : reading_of new ≡ after (reading_of old) bytes
  pub records : new.records.items ≡ old.records.items ++ records_in (reading_of old) bytes
  pub drops : new.drops.items ≡ old.drops.items ++ drops_in (reading_of old) bytes

-- the same of one byte
pub record UnframesByte (old new : FrameFeed) (byte : ℕ) : Type 0 where
  pub is_open : IsOpen new.frame.begun
  pub reading : reading_of new ≡ step (reading_of old) byte
  pub records : new.records.items ≡ old.records.items ++ answer_bytes (frame_step (state_of old.frame) byte).1
  pub drops : new.drops.items ≡ old.drops.items ++ answer_drops old.count (frame_step (state_of old.frame) byte).1
