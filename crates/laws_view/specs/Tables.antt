-- How often sections of a table have to begin (ETSI TR 101 290, 5.2.1 and 5.2.3: 1.3.a, 3.1.a, 3.5.a and 3.8): one rule, with one meaning.
--
-- The monitor has its own measure of a gap, in packets and milliseconds at a rate; `tsview` has ticks of 27 MHz, rounded up.
use Rattle.std.specs.Prelude.{◌≡◌, ℕ, ◌*◌, ◌<◌, ◌==◌, nat_lt, false, List, [], ◌∷◌, ◌++◌, map, filter, Some}
use Rattle.std.specs.List.{filter_map}
use Rattle.std.specs.Option.{option_to_list}
use Rattle.pid_findings.specs.Views.{PidFinding}
use Rattle.demux.specs.Laws.{with_pid_at}
use Rattle.tr101290.specs.Intervals.{IntervalState, error_at, no_section, taken, time_of_packets}
use Rattle.tr101290.specs.Limits.{milliseconds}
use Rattle.tr101290.specs.Parts.{has_parts}
use Rattle.tr101290.specs.Sections.{section_begin}
use Rattle.tr101290.specs.declared.intervals.SectionBegin.{SectionBegin}
use Rattle.tr101290.specs.declared.intervals.TableError.{TableError}
use Rattle.tr101290.specs.declared.intervals.TableTiming.TheVariants.{ConstantRate}
use Rattle.monitor.specs.Begins.{table_begins}
use Rattle.monitor.specs.Gaps.{is_long, late}

-- whatever the limit, a gap is over it by one reckoning exactly if it is by the other
abbrev pub GapLaw : Type 0
GapLaw = (rate limit gap : ℕ) → 0 < rate → nat_lt (limit * 27000) (time_of_packets rate gap) ≡ is_long (limit * rate) gap

-- the errors of sections that begin one after another
unfoldable pub errors_from : IntervalState → List SectionBegin → List TableError
errors_from s [] = []
errors_from s (section ∷ sections) = option_to_list (error_at s section) ++ errors_from (taken s section) sections

-- the sections of a table that begin on a PID, by the findings on it
abbrev pub sections_of : ℕ → ℕ → List PidFinding → List SectionBegin
sections_of pid table_id found = filter (λ s. s.table_id == table_id) (filter_map (λ at. section_begin (with_pid_at pid at)) found)

-- the sections of a table that are late for the monitor are exactly the sections that are late for `tsview`, if the table has no parts that recur
-- by themselves
abbrev pub TableLaw : Type 0
TableLaw = (rate limit pid table_id : ℕ) (found : List PidFinding) → 0 < rate → milliseconds pid table_id ≡ Some limit → has_parts pid table_id ≡ false →
    late rate limit (table_begins table_id found) ≡ map (λ e. e.section.packet) (errors_from (no_section (ConstantRate rate)) (sections_of pid table_id found))
