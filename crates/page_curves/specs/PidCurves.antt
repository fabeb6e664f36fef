-- Curves by PID, by the values that have come and nothing else.
use Rattle.std.specs.Prelude.{◌≡◌, ℕ, ◌==◌, ◌||◌, max, nat_le, Bool, true, false, if◌then◌else◌, List, [], ◌∷◌, ◌++◌, length, Option, Some, None}
use Rattle.page_curves.specs.Curves.{IsCurve, Sample}
use Rattle.page_curves.specs.Slots as slots
use Rattle.events.specs.declared.pid_name.PidName.{PidName}
use Rattle.page_curves.specs.declared.pid_curves.PidCurve.{PidCurve}

-- a PID, its name, its limit, and its values, the last one first
pub record KeptCurve : Type 0 where
  pub pid : ℕ
  pub name : PidName
  pub limit : ℕ
  pub samples : List Sample

pub record IsKept (entry : PidCurve) (kept : KeptCurve) : Type 0 where
  pub pid : entry.pid ≡ kept.pid
  pub name : entry.name ≡ kept.name
  pub limit : entry.limit ≡ kept.limit
  pub curve : IsCurve entry.curve kept.samples

unfoldable pub AreCurves : List PidCurve → List KeptCurve → Type 0
AreCurves [] [] = Unit {0}
AreCurves [] (kept ∷ more) = ⊥
AreCurves (entry ∷ entries) [] = ⊥
AreCurves (entry ∷ entries) (kept ∷ more) = IsKept entry kept × AreCurves entries more

-- whether a PID has a curve, and the name of what it carries
unfoldable pub has_pid : ℕ → List KeptCurve → Bool
has_pid pid [] = false
has_pid pid (kept ∷ more) = if kept.pid == pid then true else has_pid pid more

unfoldable pub kept_name : ℕ → List KeptCurve → Option PidName
kept_name pid [] = None
kept_name pid (kept ∷ more) = if kept.pid == pid then Some kept.name else kept_name pid more

-- a curve more, unless the PID has one or there are 256
abbrev pub is_closed : ℕ → List KeptCurve → Bool
is_closed pid kept = nat_le 256 (length kept) || has_pid pid kept

abbrev pub opened : ℕ → PidName → ℕ → List KeptCurve → List KeptCurve
opened pid name limit kept =
    if is_closed pid kept then kept else kept ++ record { pid = pid; name = name; limit = limit; samples = [] } ∷ []

-- a value of the curve of a PID, if it has one
abbrev pub sampled : Sample → KeptCurve → KeptCurve
sampled s kept = record kept { samples = s ∷ kept.samples }

unfoldable pub with_sample : ℕ → Sample → List KeptCurve → List KeptCurve
with_sample pid s [] = []
with_sample pid s (kept ∷ more) = if kept.pid == pid then sampled s kept ∷ more else kept ∷ with_sample pid s more

-- the greatest value of curves and of their limits
abbrev pub greatest_in : PidCurve → ℕ
greatest_in entry = max entry.limit (slots.greatest_of entry.curve.slots)

unfoldable pub greatest_value : List PidCurve → ℕ
greatest_value [] = 0
greatest_value (entry ∷ entries) = max (greatest_in entry) (greatest_value entries)
