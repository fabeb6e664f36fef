-- Of what a multiplexer wrote, at its rate, no section of a table is late by the rules of `tr101290`, which a view goes by (ETSI TR 101 290, 5.2.1
-- and 5.2.3).
use Rattle.std.specs.Prelude.{◌≡◌, ℕ, ◌-◌, ◌^◌, ◌<◌, ◌≤◌, false, List, [], slice_get, Some, None}
use Rattle.slot_contents.specs.Contents.{run_bytes}
use Rattle.pes_packet.specs.AccessUnits.{AccessUnit}
use Rattle.description_parts.specs.Described.{Described, DescribedProgram}
use Rattle.description_parts.specs.Ranges.{IsInRange}
use Rattle.slot_plan.specs.Promised.{Promised}
use Rattle.monitor.specs.Begins.{found_on}
use Rattle.mux_core.specs.Scheduled.{Scheduled}
use Rattle.mux_core.specs.Headline.{UnitsKept}
use Rattle.mux_core.specs.Histories.{content_at}
use Rattle.mux_core.specs.WholeJobs.{capacity_for, first_refused, job_history, output_of}
use Rattle.tr101290.specs.Intervals.{no_section}
use Rattle.tr101290.specs.declared.intervals.TableError.{TableError}
use Rattle.tr101290.specs.declared.intervals.TableTiming.TheVariants.{ConstantRate}
use Rattle.laws_view.specs.Tables.{errors_from, sections_of}

-- the errors of the sections of a table that are found on a PID, at a rate in bits a second
abbrev pub table_errors : ℕ → ℕ → ℕ → List ℕ → List TableError
table_errors rate pid table_id bytes = errors_from (no_section (ConstantRate rate)) (sections_of pid table_id (found_on pid bytes))

-- the tables that have a limit, except ready-made tables
pub record NoneIsLate (d : Described) (bytes : List ℕ) : Type 0 where
  -- 1.3.a: program association, every 500 ms
  pub associations : table_errors d.rate 0x00 0x00 bytes ≡ []
  -- 1.5.a: the map of each program, every 500 ms
  pub maps : (i : ℕ) (p : DescribedProgram) → slice_get d.programs i ≡ Some p → table_errors d.rate p.pmt_pid 0x02 bytes ≡ []
  -- 3.1.a: network information of the actual network, every 10 s
  pub network : table_errors d.rate 0x10 0x40 bytes ≡ []
  -- 3.5.a: service description of the actual stream, every 2 s
  pub services : table_errors d.rate 0x11 0x42 bytes ≡ []
  -- 3.6.a: present and following events of the actual stream, section 0 and section 1 each every 2 s
  pub events : table_errors d.rate 0x12 0x4E bytes ≡ []
  -- 3.8: time and date, every 30 s
  pub time : table_errors d.rate 0x14 0x70 bytes ≡ []

-- no table is late in any run over a plan that keeps its conditions, or over two such plans in turn
abbrev pub RunTablesLaw : Type 0
RunTablesLaw = (d : Scheduled) (units : ℕ → List AccessUnit) (slots : ℕ) → IsInRange d.description → Promised d.description d.schedule → UnitsKept d units →
    slots < 2 ^ 64 - 1 → NoneIsLate d.description (run_bytes (content_at d units) 0 slots)

-- nor in a whole job in which every unit is accepted
abbrev pub JobTablesLaw : Type 0
JobTablesLaw = (d : Scheduled) (units : List (ℕ × AccessUnit)) (slots : ℕ) → IsInRange d.description → Promised d.description d.schedule →
    first_refused d (capacity_for units) [] units ≡ None → slots ≤ 2 ^ 40 → NoneIsLate d.description (output_of false d (job_history units slots))
