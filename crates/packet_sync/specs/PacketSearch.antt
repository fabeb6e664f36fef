-- The search for packets of 188 bytes, while the bytes of a stream arrive.
use Rattle.std.specs.Prelude.{◌≡◌, ℕ, ◌-◌, Bool, false, List, length, take, drop}
use Rattle.packet_sync.specs.NoStreams.{has_five, searched}

-- the number of searched bytes, whether these have five packets in a row, and the last ones, where five packets may have begun
pub record FiveView : Type 0 where
  pub size : ℕ
  pub found : Bool
  pub tail : List ℕ

-- these bytes were searched
pub record IsSearchOf (part : List ℕ) (s : FiveView) : Type 0 where
  pub size_is : s.size ≡ length part
  pub found_is : s.found ≡ has_five part
  pub tail_is : s.found ≡ false → s.tail ≡ drop (length part - 752) part

-- the bytes that show a packet size, and the search for five packets in a row
pub record SearchView : Type 0 where
  pub front : List ℕ
  pub five : FiveView

-- these bytes came
pub record IsSearched (bytes : List ℕ) (s : SearchView) : Type 0 where
  pub front_is : s.front ≡ take 409 bytes
  pub search_is : IsSearchOf (take searched bytes) s.five
