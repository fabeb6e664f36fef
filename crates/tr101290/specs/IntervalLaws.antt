-- The state of the intervals as a function of the sections alone; lists have the last section first.
use Rattle.std.specs.Prelude.{◌≡◌, ◌↔◌, ℕ, ◌-◌, ◌*◌, ◌<◌, ◌==◌, max, Bool, false, List, [], ◌∷◌, filter, IfSome, Option, Some, None}
use Rattle.tr101290.specs.declared.intervals.SectionBegin.{SectionBegin}
use Rattle.tr101290.specs.declared.intervals.SectionPlaces.{SectionPlaces}
use Rattle.tr101290.specs.declared.intervals.TableTiming.{TableTiming}
use Rattle.tr101290.specs.Intervals.{IntervalState, no_section, part_key, part_places_at, section_key, places_after, places_at, taken, time_of_packets}

-- after these sections
unfoldable pub state_of : TableTiming → List SectionBegin → IntervalState
state_of timing [] = no_section timing
state_of timing (section ∷ earlier) = taken (state_of timing earlier) section

-- the sections with a key
abbrev pub sections_of : ℕ → List SectionBegin → List SectionBegin
sections_of key sections = filter (λ s. section_key s == key) sections

unfoldable pub places_of : List SectionBegin → Option SectionPlaces
places_of [] = None
places_of (section ∷ earlier) = Some (places_after (places_of earlier) section)

-- the sections with the key of a part
unfoldable pub is_part : ℕ → SectionBegin → Option ℕ → Bool
is_part key section None = false
is_part key section (Some part) = part_key section part == key

abbrev pub sections_of_part : ℕ → List SectionBegin → List SectionBegin
sections_of_part key sections = filter (λ s. is_part key s s.part) sections

-- the greatest time from one to the next
unfoldable pub greatest_gap : List SectionBegin → ℕ
greatest_gap [] = 0
greatest_gap (section ∷ []) = 0
greatest_gap (section ∷ before ∷ earlier) = max (section.place - before.place) (greatest_gap (before ∷ earlier))

-- the entry of a key depends on its own sections alone, whatever other sections come between
abbrev pub EntryLaw : Type 0
EntryLaw = (timing : TableTiming) (key : ℕ) (sections : List SectionBegin) → places_at (state_of timing sections) key ≡ places_of (sections_of key sections)

-- the entry of a key with a part depends on the sections of this part alone, whatever parts come between
abbrev pub PartLaw : Type 0
PartLaw = (timing : TableTiming) (key : ℕ) (sections : List SectionBegin) →
    part_places_at (state_of timing sections) key ≡ places_of (sections_of_part key sections)

-- an entry has the greatest distance from a section to the next, and the place of the last section
abbrev pub GreatestLaw : Type 0
GreatestLaw = (section : SectionBegin) (earlier : List SectionBegin) →
    IfSome (places_of (section ∷ earlier)) (λ places. (places.greatest ≡ greatest_gap (section ∷ earlier)) × (places.last ≡ section.place))

-- a time in ticks, rounded up, is beyond a limit exactly if the exact time is
abbrev pub TimeLaw : Type 0
TimeLaw = (rate packets limit : ℕ) → 0 < rate → (limit < time_of_packets rate packets) ↔ (limit * rate < packets * 40608000000)
