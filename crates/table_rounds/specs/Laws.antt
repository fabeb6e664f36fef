-- The laws of a table on its own slots.
use Rattle.std.specs.Prelude.{◌≡◌, ℕ, suc, ◌+◌, ◌<◌, true, false, List, take, sum_by, slice_index_or, length, Some}
use Rattle.slot_contents.specs.Contents.{packet_of}
use Rattle.table_rounds.specs.Parts.{places_of}
use Rattle.table_rounds.specs.Tables.{Table, SectionPlace, round_places, place_in, place_at, last_moment, not_yet, table_content}
use Rattle.table_rounds.specs.Carousels.{Carousel, CarouselHolds, silent_carousel, first_carousel, carousel_content, carousel_after}

-- a round has at least one place
abbrev pub HasPlaces : Table → Type 0
HasPlaces table = 0 < round_places table.lengths

-- the source gives the bytes of each section of the table that begins in slot s
abbrev pub IsSourceOf : Table → ℕ → (ℕ → ℕ → List ℕ) → Type 0
IsSourceOf table s source = (j moment : ℕ) → j < length table.lengths → source j moment ≡ table.bytes s j moment

-- the first state represents the table before slot 0
abbrev pub FirstCarouselLaw : Type 0
FirstCarouselLaw = (table : Table) → HasPlaces table → CarouselHolds table 0 (first_carousel table.pid table.rate table.first table.lengths)

-- a table that comes on air begins at the place where it would be, with the moment of the round under way
abbrev pub SilentCarouselLaw : Type 0
SilentCarouselLaw = (table : Table) (slots : ℕ) → HasPlaces table → table.from ≡ Some slots →
    CarouselHolds table slots (silent_carousel table.pid table.rate table.lengths (place_at table slots) (last_moment table slots))

-- at an own slot the state gives, by the clock of the slot, the packet of the slot, and represents the table in the next slot
pub record TableSlot (table : Table) (s : ℕ) (source : ℕ → ℕ → List ℕ) (carousel : Carousel) : Type 0 where
  pub packet : packet_of (carousel_content source (table.start s) s carousel) ≡ packet_of (table_content table s)
  pub holds : CarouselHolds table (suc s) (carousel_after source (table.start s) s carousel)

abbrev pub TableSlotLaw : Type 0
TableSlotLaw = (table : Table) (s : ℕ) (source : ℕ → ℕ → List ℕ) (carousel : Carousel) → HasPlaces table → IsSourceOf table s source → not_yet table.from s ≡ false →
    table.own s ≡ true → CarouselHolds table s carousel → TableSlot table s source carousel

-- in any other slot the state does not change
abbrev pub OtherTableSlotLaw : Type 0
OtherTableSlotLaw = (table : Table) (s : ℕ) (carousel : Carousel) → table.own s ≡ false → CarouselHolds table s carousel → CarouselHolds table (suc s) carousel

-- part q of section j is q places after the places of the sections before section j
abbrev pub first_place : List ℕ → ℕ → ℕ
first_place lengths j = sum_by places_of (take j lengths)

abbrev pub PlaceLaw : Type 0
PlaceLaw = (lengths : List ℕ) (j q : ℕ) → j < length lengths → q < places_of (slice_index_or lengths j 0) →
    place_in 0 lengths (first_place lengths j + q) ≡ record { section = j; part = q }

-- each place of a round is the place of a part of a section
pub record IsPlace (lengths : List ℕ) (n : ℕ) (place : SectionPlace) : Type 0 where
  pub section : place.section < length lengths
  pub part : place.part < places_of (slice_index_or lengths place.section 0)
  pub number : n ≡ first_place lengths place.section + place.part

abbrev pub PlaceFoundLaw : Type 0
PlaceFoundLaw = (lengths : List ℕ) (n : ℕ) → n < round_places lengths → IsPlace lengths n (place_in 0 lengths n)
