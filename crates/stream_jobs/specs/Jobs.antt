-- What a job is of what a demultiplexer finds.
use Rattle.std.specs.Prelude.{◌≡◌, ◌≤◌, ◌<◌, ⊤, ℕ, nat_le, ◌==◌, ◌&&◌, Bool, true, false, if◌then◌else◌, List, [], ◌∷◌, length, map, slice_get, Option, Some}
use Rattle.std.specs.Prelude.{None, All}
use Rattle.std.specs.List.{list_any}
use Rattle.std.specs.Option.{option_or}
use Rattle.std.specs.Str.{bytes_eq}
use Rattle.pes_packet.specs.AccessUnits.{AccessUnit}
use Rattle.pes_packet.specs.Units.{units_of}
use Rattle.pid_findings.specs.Views.{FindingView}
use Rattle.description_parts.specs.Described.{Described, DescribedEntry, DescribedProgram, DescribedStream, DescribedTable}
use Rattle.description_parts.specs.Tables.{has_on_air}
use Rattle.unit_timing.specs.declared.allowance.Allowance.{Allowance}
use Rattle.unit_timing.specs.declared.allowance.Allowance.TheVariants.{Groups, Pace}
use Rattle.es_moments.specs.Declaration.{min_interval, max_unit_size, max_pts_after, group_packets, burst_packets}
use Rattle.es_moments.specs.Merging.{AreMerged}
use Rattle.job_programs.specs.JobPrograms.{JobProgramView}
use Rattle.job_inputs.specs.JobInput.{JobInputView}
use Rattle.job_programs.specs.FoundUnits.{AreFound, Declares}
use Rattle.given_values.specs.declared.clock_sharing.ClockSharing.{ClockSharing}
use Rattle.stream_jobs.specs.CarriedLoops.{HasLoops, has_loops}
use Rattle.stream_jobs.specs.SharedClocks.{own_clock, shared_clock, sharing}
use Rattle.stream_jobs.specs.Rates.{IsAskedOrFirst, IsRate, IsServed}
pub use Rattle.stream_jobs.specs.Rates.{IsText}
use Rattle.job_programs.specs.JobTables.{JobTableView}
use Rattle.stream_jobs.specs.Texts.{description_text}
use Rattle.job_programs.specs.JobOptions.{JobOptionsView}
use Rattle.job_programs.specs.JobStreams.{TimedStreamView}

-- 1. What a description declares of streams

-- a stream of a description is this one, as its PES packets and its entry in the program map say, and as the programs that share it
pub record IsEntry (s : DescribedStream) (t : TimedStreamView) : Type 0 where
  pub program : s.program ≡ t.program
  pub pid : s.pid ≡ t.pid
  pub stream_id : s.stream_id ≡ t.stream_id
  pub stream_type : s.stream_type ≡ t.stream_type
  pub descriptors : s.descriptors ≡ t.descriptors
  pub shared_with : s.shared_with ≡ t.shared_with

-- the same as a test
unfoldable pub is_entry : DescribedStream → TimedStreamView → Bool
is_entry s t =
    s.program == t.program
    && (s.pid == t.pid
    && (s.stream_id == t.stream_id
    && (s.stream_type == t.stream_type
    && (bytes_eq s.descriptors t.descriptors
    && bytes_eq s.shared_with t.shared_with))))

-- its entry agrees, and its declaration is what its units need
pub record Agrees (d : Described) (s : DescribedStream) (t : TimedStreamView) : Type 0 where
  pub entry : IsEntry s t
  pub declares : Declares d s t.units

-- the entry of a private table in the map of its program
abbrev pub entry_of : JobTableView → DescribedEntry
entry_of t = record { program = t.program; stream_type = t.stream_type; descriptors = t.descriptors }

unfoldable pub has_entry : Option DescribedEntry → JobTableView → Bool
has_entry None t = false
has_entry (Some e) t = e.program == t.program && (e.stream_type == t.stream_type && bytes_eq e.descriptors t.descriptors)

unfoldable pub are_sections : List (List ℕ) → List (List ℕ) → Bool
are_sections [] [] = true
are_sections (a ∷ ones) (b ∷ others) = bytes_eq a b && are_sections ones others
are_sections _ _ = false

-- streams and units, one after another
unfoldable pub AgreeInTurn : Described → List DescribedStream → List TimedStreamView → Type 0
AgreeInTurn d (s ∷ ss) (t ∷ ts) = Agrees d s t × AgreeInTurn d ss ts
AgreeInTurn d _ _ = ⊤

-- the PID of a described program's own clock, if it has one
unfoldable pub own_pid : DescribedProgram → Option ℕ
own_pid p = if p.has_clock then Some p.pcr_pid else None

-- a program of a description is this one, beside the PIDs of programs that share a clock: its number, the PID of its map, and the PID of its own
-- clock, if it shares none
pub record IsProgram (pids : List ℕ) (p : DescribedProgram) (q : JobProgramView) : Type 0 where
  pub number : p.number ≡ q.number
  pub pmt_pid : p.pmt_pid ≡ q.map_pid
  pub clock : own_pid p ≡ own_clock pids q

-- the same as a test
unfoldable pub is_same_pid : Option ℕ → Option ℕ → Bool
is_same_pid None None = true
is_same_pid (Some one) (Some other) = one == other
is_same_pid _ _ = false

unfoldable pub is_program : List ℕ → DescribedProgram → JobProgramView → Bool
is_program pids p q = p.number == q.number && (p.pmt_pid == q.map_pid && is_same_pid (own_pid p) (own_clock pids q))

-- programs, one after another
unfoldable pub AreInTurn : List ℕ → List DescribedProgram → List JobProgramView → Type 0
AreInTurn pids (p ∷ ps) (q ∷ qs) = IsProgram pids p q × AreInTurn pids ps qs
AreInTurn pids _ _ = ⊤

-- a private table of a description is this one: its PID, its sections, and its entry in the map of its program
pub record IsTable (s : DescribedTable) (t : JobTableView) : Type 0 where
  pub pid : s.pid ≡ t.pid
  pub sections : s.sections ≡ t.sections
  pub entry : s.entry ≡ Some (entry_of t)

-- the same as a test
unfoldable pub is_table : DescribedTable → JobTableView → Bool
is_table s t = s.pid == t.pid && (are_sections s.sections t.sections && has_entry s.entry t)

-- tables, one after another
unfoldable pub TablesInTurn : List DescribedTable → List JobTableView → Type 0
TablesInTurn (s ∷ ss) (t ∷ ts) = IsTable s t × TablesInTurn ss ts
TablesInTurn _ _ = ⊤

-- a description has the programs, the streams, the private tables and the loops of an input, the same shared clock, and at moment 0 the same
-- value of it
pub record AllAgree (by : ClockSharing) (d : Described) (input : JobInputView) : Type 0 where
  pub base_is : d.base0 ≡ input.base0
  pub clock_is : d.clock_pid ≡ shared_clock (sharing by input)
  pub programs_same : length input.programs ≡ length d.programs
  pub programs : (k : ℕ) (p : DescribedProgram) (q : JobProgramView) → slice_get d.programs k ≡ Some p → slice_get input.programs k ≡ Some q → IsProgram (sharing by input) p q
  pub same : length input.streams ≡ length d.streams
  pub each : (k : ℕ) (s : DescribedStream) (t : TimedStreamView) → slice_get d.streams k ≡ Some s → slice_get input.streams k ≡ Some t → Agrees d s t
  pub tables_same : length input.tables ≡ length d.tables
  pub tables : (k : ℕ) (s : DescribedTable) (t : JobTableView) → slice_get d.tables k ≡ Some s → slice_get input.tables k ≡ Some t → IsTable s t
  pub loops : HasLoops d input.information

-- the first unit is due no earlier than a moment
unfoldable pub first_due : ℕ → List AccessUnit → Bool
first_due from [] = true
first_due from (u ∷ us) = nat_le from u.dts

-- the same as tests; a group has at most 64 units
abbrev pub allows_units : Allowance → ℕ → ℕ → List AccessUnit → Bool
allows_units (Groups group most) id base0 us = nat_le group 64 && nat_le (group_packets id base0 group us) most
allows_units (Pace burst pace) id base0 us = nat_le (burst_packets id base0 pace us) burst

unfoldable pub keeps : Described → DescribedStream → List AccessUnit → Bool
keeps d s us =
    nat_le s.interval (min_interval us)
    && (nat_le (max_unit_size us) s.size
    && (nat_le (max_pts_after us) s.pts_limit
    && (first_due s.lead us
    && (list_any (has_on_air s) d.programs
    && allows_units s.allowance s.stream_id d.base0 us))))

-- the PID of the clock references of the first program that is not the declared one in its place
unfoldable pub first_other_program : List ℕ → List DescribedProgram → List JobProgramView → Option ℕ
first_other_program pids (p ∷ ps) (q ∷ qs) = if is_program pids p q then first_other_program pids ps qs else Some q.pcr_pid
first_other_program pids _ _ = None

-- the PID of the first stream that is not the declared one in its place
unfoldable pub first_disagreeing : Described → List DescribedStream → List TimedStreamView → Option ℕ
first_disagreeing d (s ∷ ss) (t ∷ ts) = if is_entry s t && keeps d s t.units then first_disagreeing d ss ts else Some t.pid
first_disagreeing d _ _ = None

-- the PID of the first private table that differs from the declared table in its place
unfoldable pub first_other_table : List DescribedTable → List JobTableView → Option ℕ
first_other_table (s ∷ ss) (t ∷ ts) = if is_table s t then first_other_table ss ts else Some t.pid
first_other_table _ _ = None

-- whether a description has as many programs, streams and tables as the input, and the same clock
unfoldable pub are_counted : List ℕ → Described → JobInputView → Bool
are_counted pids d input =
    d.base0 == input.base0
    && (is_same_pid d.clock_pid (shared_clock pids)
    && (length d.programs == length input.programs
    && (length d.streams == length input.streams
    && length d.tables == length input.tables)))

unfoldable pub disagreeing : ClockSharing → Described → JobInputView → Option ℕ
disagreeing by d input =
    if are_counted (sharing by input) d input && has_loops d input.information
    then option_or (first_other_program (sharing by input) d.programs input.programs)
    (option_or (first_other_table d.tables input.tables) (first_disagreeing d d.streams input.streams))
    else Some 0

-- 2. Units

-- the units of a job, each with the number of its stream: the units of a stream are found on its PID, in order, and are within the
-- description's declaration
pub record IsStream (made : Bool) (findings : List FindingView) (d : Described) (s : DescribedStream) (us : List AccessUnit) : Type 0 where
  pub found : AreFound made findings s.pid us
  pub declares : Declares d s us
  pub fits : length us ≤ 1_048_576

pub record AreUnits (made : Bool) (findings : List FindingView) (d : Described) (units : List (ℕ × AccessUnit)) : Type 0 where
  pub streams : (k : ℕ) (s : DescribedStream) → slice_get d.streams k ≡ Some s → IsStream made findings d s (units_of k units)
  pub numbered : All (λ e. e.0 < length d.streams) units

-- 3. A job

-- the description of these streams: at the rate that is asked for, otherwise at a tried rate that a plan serves
pub record IsDescription (options : JobOptionsView) (input : JobInputView) (text : List ℕ) : Type 0 where
  pub rate : ℕ
  pub rate_is : IsRate options.rate options input rate
  pub served : options.rate ≡ None → IsServed options input rate
  pub text_is : text ≡ description_text options input rate

-- with what it is read as, and the units of all streams by their DTS
pub record IsJob (options : JobOptionsView) (input : JobInputView) (d : Described) (text : List ℕ) (units : List (ℕ × AccessUnit)) : Type 0 where
  pub described : IsDescription options input text
  pub read : IsText d text
  pub merged : AreMerged (map (λ s. s.units) input.streams) units

-- 4. The description for which reasons are looked for

-- at the rate that is asked for, else at the least at which all have slots
pub record IsUnplanned (options : JobOptionsView) (input : JobInputView) (description : Described) : Type 0 where
  pub rate : ℕ
  pub rate_is : IsAskedOrFirst options.rate options input rate
  pub read : IsText description (description_text options input rate)
