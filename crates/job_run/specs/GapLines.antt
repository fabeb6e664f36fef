-- The lines for clocks that pass over a time: they jump ahead, or have no references.
use Rattle.std.specs.Prelude.{ℕ, ◌/◌, Bool, List, [], ◌++◌, if◌then◌else◌, flat_map, codes, decimal}
use Rattle.std.specs.List.{list_any}
use Rattle.es_moments.specs.Stamps.{distance}
use Rattle.job_inputs.specs.JobInput.{JobInputView, has_clock}
use Rattle.joined_parts.specs.declared.cuts.Cut.{Cut}
use Rattle.joined_parts.specs.declared.gap_search.ClockGap.{ClockGap}
use Rattle.joined_parts.specs.declared.gap_search.ClockGap.TheVariants.{Jump, Hole}

-- the whole seconds of a gap
abbrev pub gap_seconds : Cut → ℕ
gap_seconds c = distance c.before c.base / 90_000

unfoldable pub jump_text : ℕ → ℕ → ℕ → List ℕ
jump_text packet pid seconds =
    codes "packet " ++ decimal packet ++ codes " clock on pid " ++ decimal pid ++ codes " jumps ahead by " ++ decimal seconds
    ++ codes " s: kept as time without packets; --joined closes it\n"

unfoldable pub hole_text : ℕ → ℕ → ℕ → List ℕ
hole_text packet pid seconds =
    codes "packet " ++ decimal packet ++ codes " clock on pid " ++ decimal pid ++ codes " has no references for " ++ decimal seconds
    ++ codes " s: streams go on meanwhile\n"

unfoldable pub gap_text : ClockGap → List ℕ
gap_text (Jump c) = jump_text c.packet c.pid (gap_seconds c)
gap_text (Hole c) = hole_text c.packet c.pid (gap_seconds c)

abbrev pub clock_of : ClockGap → ℕ
clock_of (Jump c) = c.pid
clock_of (Hole c) = c.pid

-- a line for a clock of the job's programs
abbrev pub gap_line : JobInputView → ClockGap → List ℕ
gap_line m gap = if has_clock m (clock_of gap) then gap_text gap else []

abbrev pub gap_lines : JobInputView → List ClockGap → List ℕ
gap_lines m gaps = flat_map (gap_line m) gaps

-- whether a clock of the job's programs has a gap
abbrev pub any_gap : JobInputView → List ClockGap → Bool
any_gap m gaps = list_any (λ g. has_clock m (clock_of g)) gaps
