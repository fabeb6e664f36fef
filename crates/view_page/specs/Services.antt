-- The bit rates of programs by window, by the lines `window` that have come and nothing else: program 0 has the PIDs of no program.
use Rattle.std.specs.Prelude.{◌≡◌, ℕ, ◌+◌, ◌-◌, ◌^◌, ◌==◌, min, nat_eq, unwrap_or, if◌then◌else◌, List, [], ◌∷◌, Option, Some, None}
use Rattle.std.specs.Map.{lookup}
use Rattle.indexmap.specs.IndexMap.{insert_entry}
use Rattle.events.specs.declared.event.Event.{Event}
use Rattle.events.specs.declared.event.Event.TheVariants.{Window, End}
use Rattle.events.specs.Windows.{WindowView}
use Rattle.events.specs.declared.pid_name.PidName.TheVariants.{Other}
use Rattle.page_curves.specs.Curves.{sample}
use Rattle.page_curves.specs.PidCurves.{AreCurves, KeptCurve, opened, with_sample}
use Rattle.view_page.specs.declared.services.ProgramRate.{ProgramRate}
use Rattle.view_page.specs.declared.services.ServiceCurves.{ServiceCurves}
use Rattle.view_page.specs.declared.services.Services.{Services}
use Rattle.view_rows.specs.Cells.{short}

-- the rate of each program, and the sum of its rate and the rates of all programs after it
pub record KeptServiceCurves : Type 0 where
  pub rates : List KeptCurve
  pub sums : List KeptCurve

-- the window of the last line, the rates in it, and the curves of all windows before it
pub record KeptServices : Type 0 where
  pub number : ℕ
  pub programs : List (ℕ × ProgramRate)
  pub curves : KeptServiceCurves

pub record AreServiceCurves (curves : ServiceCurves) (kept : KeptServiceCurves) : Type 0 where
  pub rates : AreCurves curves.rates.curves.items kept.rates
  pub sums : AreCurves curves.sums.curves.items kept.sums

pub record AreServices (services : Services) (kept : KeptServices) : Type 0 where
  pub number : services.number ≡ kept.number
  pub programs : services.programs.entries ≡ kept.programs
  pub curves : AreServiceCurves services.curves kept.curves

abbrev pub no_services : KeptServices
no_services = record { number = 0; programs = []; curves = record { rates = []; sums = [] } }

-- numbers stop at 2^64 - 1
abbrev pub plus : ℕ → ℕ → ℕ
plus a b = min (a + b) (2 ^ 64 - 1)

-- 1. The rates in a window

unfoldable pub rate_in : ℕ → Option ProgramRate → ℕ
rate_in number None = 0
rate_in number (Some known) = if known.number == number then known.rate else 0

-- the rate of one more PID of a program
abbrev pub rate_after : List (ℕ × ProgramRate) → WindowView → ProgramRate
rate_after programs w = record {
  number = w.number;
  rate = plus (rate_in w.number (lookup (nat_eq (unwrap_or w.program 0)) programs)) (short w.rate);
}

abbrev pub programs_after : List (ℕ × ProgramRate) → WindowView → List (ℕ × ProgramRate)
programs_after programs w = insert_entry nat_eq programs (unwrap_or w.program 0) (rate_after programs w)

abbrev pub with_rate : KeptServices → WindowView → KeptServices
with_rate kept w = record { number = w.number; programs = programs_after kept.programs w; curves = kept.curves }

-- 2. At the end of a window

abbrev pub with_value : ℕ → ℕ → ℕ → List KeptCurve → List KeptCurve
with_value number program value curves = with_sample program (sample number value) (opened program Other 0 curves)

abbrev pub with_program : ℕ → ℕ → ℕ → ℕ → KeptServiceCurves → KeptServiceCurves
with_program number program rate sum kept =
    record { rates = with_value number program rate kept.rates; sums = with_value number program sum kept.sums }

-- the sum of all rates
unfoldable pub total_from : ℕ → ℕ → List (ℕ × ProgramRate) → ℕ
total_from number sum [] = sum
total_from number sum (e ∷ more) = total_from number (plus sum (rate_in number (Some e.1))) more

-- a program and the programs after it, whose rates together have the sum `left`
unfoldable pub settled : ℕ → ℕ → List (ℕ × ProgramRate) → KeptServiceCurves → KeptServiceCurves
settled number left [] kept = kept
settled number left (e ∷ more) kept =
    settled number (left - rate_in number (Some e.1)) more (with_program number e.0 (rate_in number (Some e.1)) left kept)

abbrev pub settled_all : ℕ → List (ℕ × ProgramRate) → KeptServiceCurves → KeptServiceCurves
settled_all number programs kept = settled number (total_from number 0 programs) programs kept

abbrev pub ended : KeptServices → KeptServices
ended kept = record { number = kept.number; programs = kept.programs; curves = settled_all kept.number kept.programs kept.curves }

-- 3. A line: the window before it has ended, if it is of another one

abbrev pub ended_unless : ℕ → KeptServices → KeptServices
ended_unless number kept = if number == kept.number then kept else ended kept

abbrev pub with_line : KeptServices → WindowView → KeptServices
with_line kept w = with_rate (ended_unless w.number kept) w

-- 4. An event: at the end of the stream the last window has ended

unfoldable pub with_event : KeptServices → Event → KeptServices
with_event kept (Window w) = with_line kept w
with_event kept (End e) = ended kept
with_event kept _ = kept
