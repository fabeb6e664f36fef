-- The state of a table between its slots, and the table that it represents.
use Rattle.std.specs.Prelude.{◌≡◌, ℕ, ◌+◌, ◌*◌, ◌/◌, ◌%◌, ◌==◌, ◌<◌, nat_lt, Bool, cond, List, [], map, slice_index_or, length, Option, Some, None, is_some}
use Rattle.clock27.specs.Units.{slot_seconds_at_1bps}
use Rattle.slot_contents.specs.Contents.{Content, Piece}
use Rattle.table_rounds.specs.Parts.{places_of, part_of, part_content}
use Rattle.table_rounds.specs.Tables.{Table, SectionPlace, place_at, begin_before, moment_before, last_moment, held_of, payloads_before}

-- the next place, the moment of the round, the bytes of the current section, and the number of payloads sent modulo 256
pub record Carousel : Type 0 where
  pub pid : ℕ
  pub rate : ℕ
  pub packets_per_section : List ℕ
  pub section : ℕ
  pub part : ℕ
  pub moment : ℕ
  pub counter : ℕ
  pub bytes : List ℕ

-- before slot `slots` the state represents the table
pub record CarouselHolds (table : Table) (slots : ℕ) (carousel : Carousel) : Type 0 where
  pub pid : carousel.pid ≡ table.pid
  pub rate : carousel.rate ≡ table.rate
  pub packets_per_section : carousel.packets_per_section ≡ map places_of table.lengths
  pub place : place_at table slots ≡ record { section = carousel.section; part = carousel.part }
  pub moment : carousel.moment ≡ last_moment table slots
  pub bytes : 0 < carousel.part → carousel.bytes ≡ held_of table (begin_before table slots) carousel.section (moment_before table slots)
  pub counter : carousel.counter ≡ payloads_before table slots % 256

-- the state of a table that has sent nothing, at this place, with the moment of the last round
abbrev pub silent_carousel : ℕ → ℕ → List ℕ → SectionPlace → ℕ → Carousel
silent_carousel pid rate lengths place moment = record {
  pid = pid;
  rate = rate;
  packets_per_section = map places_of lengths;
  section = place.section;
  part = place.part;
  moment = moment;
  counter = 0;
  bytes = [];
}

-- a table's state before slot 0, with the moment before the first round
abbrev pub first_carousel : ℕ → ℕ → ℕ → List ℕ → Carousel
first_carousel pid rate first lengths = silent_carousel pid rate lengths (record { section = 0; part = 0 }) first

-- the section that begins in the next own slot, if one begins there
abbrev pub next_section : Carousel → Option ℕ
next_section carousel = cond (carousel.part == 0) (Some carousel.section) None

-- the moment of the round in slot s, by the moment `start` of slot 0: section 0 takes the time of the slot, other sections keep the moment
abbrev pub moment_now : ℕ → ℕ → Carousel → ℕ
moment_now start s carousel = cond (carousel.section == 0) (start + s * slot_seconds_at_1bps / carousel.rate) carousel.moment

-- at the first place of a section its bytes are made, and with section 0 the moment of the round is taken
unfoldable pub begun : (ℕ → ℕ → List ℕ) → ℕ → ℕ → Carousel → Carousel
begun source start s carousel =
    cond (carousel.part == 0) (record carousel { moment = moment_now start s carousel; bytes = source carousel.section (moment_now start s carousel) }) carousel

-- the next section; after the last section the first
unfoldable pub section_advanced : Carousel → Carousel
section_advanced carousel =
    record carousel { section = cond (nat_lt (carousel.section + 1) (length carousel.packets_per_section)) (carousel.section + 1) 0; part = 0 }

-- the next place of the section; after the last place the first place of the next section
unfoldable pub advanced : Carousel → Carousel
advanced carousel =
    cond (nat_lt (carousel.part + 1) (slice_index_or carousel.packets_per_section carousel.section 0)) (record carousel { part = carousel.part + 1 })
    (section_advanced carousel)

-- the state with a payload counted, if it was sent
abbrev pub counted : Bool → Carousel → Carousel
counted sent carousel = cond sent (record carousel { counter = (carousel.counter + 1) % 256 }) carousel

-- the part at the current place of a state, once its section is made
abbrev pub part_now : Carousel → Option Piece
part_now carousel = part_of carousel.bytes carousel.part

abbrev pub content_now : Carousel → Content
content_now carousel = part_content carousel.pid carousel.counter (part_now carousel)

-- what the own slot s carries, by the state
abbrev pub carousel_content : (ℕ → ℕ → List ℕ) → ℕ → ℕ → Carousel → Content
carousel_content source start s carousel = content_now (begun source start s carousel)

-- the state after the own slot s
abbrev pub carousel_after : (ℕ → ℕ → List ℕ) → ℕ → ℕ → Carousel → Carousel
carousel_after source start s carousel = advanced (counted (is_some (part_now (begun source start s carousel))) (begun source start s carousel))
