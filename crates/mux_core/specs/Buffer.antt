-- Bytes that go to a writer: some are written, the rest waits.
use Rattle.std.specs.Prelude.{◌≡◌, ◌≤◌, ℕ, ◌+◌, ◌-◌, ◌^◌, min, Bool, List, ◌++◌, length, take, slice_get, slice_set, Option, Some}
use Rattle.std.specs.List.{flat_map}
use Rattle.std.specs.Io.KnownBytes.{Appends}

-- the lines that wait, the rooms of packets and how many of these packets wait, the number of bytes written, and whether packets are written as lines of
-- digits
pub record Buffered : Type 0 where
  pub lines : List ℕ
  pub rooms : List (List ℕ)
  pub count : ℕ
  pub sent : ℕ
  pub hex : Bool

-- the bytes that wait
abbrev pub waiting_of : Buffered → List ℕ
waiting_of buffer = buffer.lines ++ flat_map (λ packet. packet) (take buffer.count buffer.rooms)

-- the room of the next packet holds this packet
abbrev pub HasNext : Buffered → List ℕ → Type 0
HasNext buffer packet = slice_get buffer.rooms buffer.count ≡ Some packet

-- the same buffer with this packet in the next room
abbrev pub with_next : Buffered → List ℕ → Buffered
with_next buffer packet = record buffer { rooms = slice_set buffer.rooms buffer.count packet }

-- a number of bytes in an answer: at most 2^64 - 1
abbrev pub byte_count : ℕ → ℕ
byte_count n = min n (2 ^ 64 - 1)

-- the output `all` is split: the writer holds its front after what it held at the start, and the rest waits
pub record IsOutput (start now : Option (List ℕ)) (buffer : Buffered) (all : List ℕ) : Type 0 where
  pub written : List ℕ
  pub taken : Appends start now written
  pub is : all ≡ written ++ waiting_of buffer
  pub sent : buffer.sent ≡ byte_count (length written)

-- the writer took exactly the first bytes of `all`, and `sent` counts them
pub record Took (start now : Option (List ℕ)) (sent : ℕ) (all : List ℕ) : Type 0 where
  pub count : ℕ
  pub within : count ≤ length all
  pub taken : Appends start now (take count all)
  pub sent_is : sent ≡ byte_count count

-- the writer took the first bytes of a part, and `sent` counts these bytes and the `before` bytes counted earlier
pub record TookPart (old new : Option (List ℕ)) (part : List ℕ) (before sent : ℕ) : Type 0 where
  pub count : ℕ
  pub within : count ≤ length part
  pub taken : Appends old new (take count part)
  pub sent_is : sent ≡ byte_count (before + count)
