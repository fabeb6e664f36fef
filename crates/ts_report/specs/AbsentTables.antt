-- Tables that are never whole: the PAT among the first packets, and the PMT of each program that this PAT
-- and the last one name, in the whole input (ETSI TR 101 290,
-- 5.2.1, 1.3.a PAT_error_2 and 1.5.a PMT_error_2).
use Rattle.std.specs.Prelude.{ℕ, ◌||◌, is_some, not, Bool, if◌then◌else◌, List, [], ◌∷◌, ◌++◌, flat_map}
use Rattle.events.specs.declared.event.Event.{Event}
use Rattle.events.specs.declared.event.Event.TheVariants as found
use Rattle.events.specs.declared.rule_event.RuleEvent.TheVariants as rules
use Rattle.pid_findings.specs.Views.{FindingView}
use Rattle.program_tables.specs.KnownTables.{KnownView, known_in}
use Rattle.program_tables.specs.ProgramMaps.{program_map}
use Rattle.psi_tables.specs.declared.pat.programs.Program.{Program}
use Rattle.ts_tables.specs.NamedStreams.{NamedView}
use Rattle.ts_watch.specs.TableEvents.{TablesState, has_map}
use Rattle.ts_watch.specs.TableNames.{has_program}

abbrev pub absent_unless : Bool → ℕ → ℕ → List Event
absent_unless has pid table = if has then [] else found.Rule (rules.NoTable (record { pid = pid; table = table })) ∷ []

abbrev pub association_events : KnownView → List Event
association_events known = absent_unless (is_some known.version) 0 0

-- the first packets have the program's PMT, a whole PMT of its program_number came on its PID later, or the PAT in force no longer names it
abbrev pub has_own_map : List FindingView → TablesState → Program → Bool
has_own_map found tables program =
    is_some (program_map program found)
    || (has_map tables program.pid program.program_number || not (has_program tables.named program.pid program.program_number))

abbrev pub map_events : List FindingView → TablesState → Program → List Event
map_events found tables program = absent_unless (has_own_map found tables program) program.pid 2

abbrev pub maps_events : List FindingView → TablesState → List Program → List Event
maps_events found tables programs = flat_map (map_events found tables) programs

abbrev pub absent_tables : List FindingView → TablesState → List Event
absent_tables found tables = association_events (known_in found) ++ maps_events found tables (known_in found).programs

-- none in an input that is no transport stream
abbrev pub absent_events : Bool → NamedView → TablesState → List Event
absent_events stream named tables = if stream then absent_tables named.demux.found tables else []
