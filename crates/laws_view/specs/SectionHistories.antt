-- How soon sections of a table follow each other, over a whole history: at least 25 ms pass from the end of a section of service information to the
-- beginning of the next section of its PID, table_id and table_id_extension (ETSI EN 300 468, 5.1.4.1; ETSI TR 101 290, 5.2.3, 3.1.a, 3.5.a, 3.6.a, 3.7,
-- 3.8). A history has the last section first.
use Rattle.std.specs.Prelude.{◌≡◌, ◌↔◌, ℕ, ◌+◌, ◌-◌, ◌*◌, ◌<◌, ◌≤◌, ◌==◌, ◌&&◌, is_none, Bool, true, if◌then◌else◌, List, [], ◌∷◌, Contains, find, Option}
use Rattle.std.specs.List.{AllByRecursion}
use Rattle.tr101290.specs.Distances.{DistanceState, error_at, is_spaced, no_end, taken, time_within, whole_ticks}
use Rattle.tr101290.specs.declared.distances.TheConstants.{LEAST_DISTANCE}
use Rattle.tr101290.specs.declared.distances.WholeSection.{WholeSection}
use Rattle.tr101290.specs.declared.intervals.TableError.{TableError}
use Rattle.tr101290.specs.declared.intervals.TableTiming.{TableTiming}
use Rattle.laws_view.specs.Histories.{Follows, given_by}

-- 1. The errors of a history

unfoldable pub state_of : TableTiming → List WholeSection → DistanceState
state_of timing [] = no_end timing
state_of timing (section ∷ earlier) = taken (state_of timing earlier) section

abbrev pub error_after : TableTiming → List WholeSection → WholeSection → Option TableError
error_after timing earlier section = error_at (state_of timing earlier) section

abbrev pub errors_of : TableTiming → List WholeSection → List TableError
errors_of timing sections = given_by (error_after timing) sections

-- 2. What a history has to have for an error

-- sections of one table
abbrev pub same_table : WholeSection → WholeSection → Bool
same_table a b = (b.begin.pid == a.begin.pid) && ((b.begin.table_id == a.begin.table_id) && (b.extension == a.extension))

-- a table_id_extension has 16 bits
abbrev pub HaveExtensions : List WholeSection → Type 0
HaveExtensions sections = AllByRecursion (λ s. s.extension < 65536) sections

-- how many tables of service information there are
unfoldable pub table_count : List WholeSection → ℕ
table_count [] = 0
table_count (section ∷ earlier) =
    if is_spaced section.begin.pid section.begin.table_id && is_none (find (same_table section) earlier) then table_count earlier + 1
    else table_count earlier

-- an error: a section of service information begins within 25 ms after the end of the section before it of its table
pub record IsTooSoon (timing : TableTiming) (sections : List WholeSection) (error : TableError) : Type 0 where
  pub before : WholeSection
  pub section : WholeSection
  pub follows : Follows same_table sections before section
  pub spaced : is_spaced section.begin.pid section.begin.table_id ≡ true
  pub near : time_within timing (section.begin.place - before.end) < LEAST_DISTANCE
  pub named : error ≡ record { section = section.begin; value = time_within timing (section.begin.place - before.end); limit = LEAST_DISTANCE }

-- 3. Laws

-- each error is such a section, whatever tables there are
abbrev pub OnlyTooSoon : Type 0
OnlyTooSoon = (timing : TableTiming) (sections : List WholeSection) (error : TableError) → HaveExtensions sections →
    Contains (errors_of timing sections) error → IsTooSoon timing sections error

-- each such section gives its error, if there are at most 65,536 tables of service information
abbrev pub EachTooSoon : Type 0
EachTooSoon = (timing : TableTiming) (sections : List WholeSection) (error : TableError) → HaveExtensions sections → table_count sections ≤ 65536 →
    IsTooSoon timing sections error → Contains (errors_of timing sections) error

-- a time in ticks, rounded down, is within a limit exactly if the exact time is: packets have 188 bytes
abbrev pub NearLaw : Type 0
NearLaw = (rate packets limit : ℕ) → 0 < rate → (whole_ticks rate packets < limit) ↔ (packets * 40608000000 < limit * rate)
