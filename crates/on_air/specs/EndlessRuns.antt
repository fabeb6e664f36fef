-- A run without end: what was written, accepted and refused so far stays, whatever records and line-ups come later.
use Rattle.std.specs.Prelude.{◌≡◌, ◌≤◌, ◌+◌, ℕ, List, [], ◌∷◌, ◌++◌}
use Rattle.pes_packet.specs.AccessUnits.{AccessUnit}
use Rattle.on_air.specs.Airing.{Run, settled_at}
use Rattle.on_air.specs.Courses.{Course, IsFirst, all_accepted, at_begin, course_after, course_ended, heard, output_at}
use Rattle.on_air.specs.AirStates.{KeepsHeadline, Promises}
use Rattle.on_air.specs.Laws.{records_of}

-- the course after these records, one after another
unfoldable pub aired_from : Course → List (ℕ × AccessUnit) → Course
aired_from c [] = c
aired_from c (entry ∷ entries) = aired_from (course_after c.run c.air entry) entries

abbrev pub aired_all : Run → List (ℕ × AccessUnit) → Course
aired_all run entries = aired_from (at_begin run) entries

-- the list `first` is the beginning of the list `all`
pub record BeginsWith {V : Type 0} (all first : List V) : Type 0 where
  pub more : List V
  pub is : all ≡ first ++ more

-- the output, the accepted units and the refusals of one moment are the beginning of those of a later moment
pub record StaysIn (now later : Course) : Type 0 where
  pub output : BeginsWith (output_at later) (output_at now)
  pub accepted : BeginsWith (all_accepted later) (all_accepted now)
  pub refused : BeginsWith later.air.refused now.air.refused
  pub slots : now.air.slots ≤ later.air.slots

-- under the first line-up exactly the slots that the greatest DTS settles are written, and their bytes keep every promise
pub record FirstHolds (c : Course) : Type 0 where
  pub slots : c.air.slots ≡ settled_at c.run c.air.greatest
  pub headline : KeepsHeadline c.run c.air

-- a run after these records, after which more may come for ever: what was written, accepted and refused stays, whatever records come later, and also if the
-- input then ends
pub record HoldsSoFar (run : Run) (entries : List (ℕ × AccessUnit)) : Type 0 where
  pub first : IsFirst (aired_all run entries) → FirstHolds (aired_all run entries)
  pub later : (more : List (ℕ × AccessUnit)) → StaysIn (aired_all run entries) (aired_all run (entries ++ more))
  pub last : (more : List (ℕ × AccessUnit)) → StaysIn (aired_all run entries) (course_ended (aired_all run (entries ++ more)))

-- after the first n records of an input: the run is where these records lead it, and what was written, accepted and refused stays after more of its records
pub record HeardSoFar (run : Run) (n : ℕ) (xs : List ℕ) : Type 0 where
  pub is : heard run n xs ≡ aired_all run (records_of n xs)
  pub later : (more : ℕ) → StaysIn (heard run n xs) (heard run (n + more) xs)

abbrev pub EndlessRecords : Type 0
EndlessRecords = (run : Run) (entries : List (ℕ × AccessUnit)) → Promises run.scheduled → HoldsSoFar run entries

abbrev pub EndlessInput : Type 0
EndlessInput = (run : Run) (n : ℕ) (xs : List ℕ) → HeardSoFar run n xs
