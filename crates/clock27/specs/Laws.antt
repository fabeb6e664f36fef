-- Laws of the times of bytes, about the definitions alone.
use Rattle.std.specs.Prelude.{◌≡◌, ℕ, ◌+◌, ◌-◌, ◌*◌, ◌/◌, ◌<◌, ◌≤◌, max, List, ◌++◌, length, map, All}
use Rattle.clock27.specs.Arrival.{bytes_from, arrivals}
use Rattle.clock27.specs.Departure.{departures, last_left}
use Rattle.clock27.specs.Fullness.{fullness, Stays}
use Rattle.clock27.specs.Recurrence.{Recur}
use Rattle.clock27.specs.Release.{IsReleaseSlot, release}

-- the bytes that come later leave as they would after the last of the earlier ones
abbrev pub DeparturesLaw : Type 0
DeparturesLaw = (step prev : ℕ) (xs ys : List ℕ) →
    departures step prev (xs ++ ys) ≡ departures step prev xs ++ departures step (last_left step prev xs) ys

-- and so does the last of them
abbrev pub LastLaw : Type 0
LastLaw = (step prev : ℕ) (xs ys : List ℕ) → last_left step prev (xs ++ ys) ≡ last_left step (last_left step prev xs) ys

-- each byte leaves
abbrev pub LengthLaw : Type 0
LengthLaw = (step prev : ℕ) (xs : List ℕ) → length (departures step prev xs) ≡ length xs

-- the last of n bytes in a row leaves no later than if they had all arrived at their end
abbrev pub PacketLaw : Type 0
PacketLaw = (step prev r i n : ℕ) → last_left step prev (bytes_from r i n) ≤ max ((i + n) * r) prev + n * step

-- none leaves later than the last
abbrev pub RisingLaw : Type 0
RisingLaw = (step prev : ℕ) (ts : List ℕ) → All (λ d. d ≤ last_left step prev ts) (departures step prev ts)

-- none leaves earlier than a step after the first arrival
abbrev pub EarliestLaw : Type 0
EarliestLaw = (step prev first : ℕ) (ts : List ℕ) → All (λ t. first ≤ t) ts → All (λ d. first + step ≤ d) (departures step prev ts)

-- bytes in a row arrive from the first one's time on
abbrev pub RowLaw : Type 0
RowLaw = (r i n : ℕ) → All (λ t. i * r ≤ t) (bytes_from r i n)

-- where no byte stays longer than `room` bytes take to leave, the fullness is at most `room` at any moment
abbrev pub RoomLaw : Type 0
RoomLaw = (x step room : ℕ) (ts : List ℕ) → 0 < step → Stays (room * step) ts (departures step 0 ts) → fullness x ts (departures step 0 ts) ≤ room

-- the fullness of joined lists is the sum of the fullnesses of their parts
abbrev pub FullnessLaw : Type 0
FullnessLaw = (x : ℕ) (ts ts' ds ds' : List ℕ) → length ts ≡ length ds →
    fullness x (ts ++ ts') (ds ++ ds') ≡ fullness x ts ds + fullness x ts' ds'

-- it is no more than there are arrivals
abbrev pub FullnessBound : Type 0
FullnessBound = (x : ℕ) (ts ds : List ℕ) → fullness x ts ds ≤ length ts

-- it is 0 before all arrivals
abbrev pub FullnessBefore : Type 0
FullnessBefore = (x : ℕ) (ts ds : List ℕ) → All (λ t. x < t) ts → fullness x ts ds ≡ 0

-- it is 0 once all have left
abbrev pub FullnessAfter : Type 0
FullnessAfter = (x : ℕ) (ts ds : List ℕ) → All (λ d. d ≤ x) ds → fullness x ts ds ≡ 0

-- a queue after a queue that is no slower: each byte leaves the second queue `first` later than it would leave the second queue
-- alone
abbrev pub TandemLaw : Type 0
TandemLaw = (first second : ℕ) (ts : List ℕ) → first ≤ second →
    departures second 0 (departures first 0 ts) ≡ map (λ d. d + first) (departures second 0 ts)

-- so the second is no fuller than it would be alone, `first` before
abbrev pub SecondLaw : Type 0
SecondLaw = (x first second : ℕ) (ts : List ℕ) → first ≤ second →
    fullness x (departures first 0 ts) (departures second 0 (departures first 0 ts)) ≤ fullness (x - first) ts (departures second 0 ts)

-- in smaller units all times are multiples
abbrev pub ScaleLaw : Type 0
ScaleLaw = (k step prev : ℕ) (ts : List ℕ) →
    departures (k * step) (k * prev) (map (λ t. k * t) ts) ≡ map (λ t. k * t) (departures step prev ts)

-- arrivals too
abbrev pub ArrivalsScaleLaw : Type 0
ArrivalsScaleLaw = (k r : ℕ) (slots : List ℕ) → arrivals (k * r) slots ≡ map (λ t. k * t) (arrivals r slots)

-- and the fullness is that at the last moment of the greater units
abbrev pub FullnessScaleLaw : Type 0
FullnessScaleLaw = (x k : ℕ) (ts ds : List ℕ) → 0 < k → fullness x (map (λ t. k * t) ts) (map (λ t. k * t) ds) ≡ fullness (x / k) ts ds

-- what recurs within a limit does so within a greater one
abbrev pub LimitLaw : Type 0
LimitLaw = (rate limit greater from until : ℕ) (bytes : List ℕ) → limit ≤ greater →
    Recur rate limit from bytes until → Recur rate greater from bytes until

-- `release` is the first slot that begins at the given time before the due one
abbrev pub ReleaseLaw : Type 0
ReleaseLaw = (rate lead due : ℕ) → IsReleaseSlot rate (due - lead) (release rate lead due)
