-- Whether the clock references of a stream give a constant rate. Between two references bytes come at the rate that the two give (ISO/IEC
-- 13818-1, 2.4.2.2): the inaccuracy of a reference (ETSI TR 101 290, 5.2.2, 2.4) is known only if that rate is the same before and after it.
use Rattle.std.specs.Prelude.{ℕ, ◌+◌, ◌-◌, ◌*◌, ◌/◌, ◌^◌, ◌||◌, min, nat_le, nat_lt, Bool, if◌then◌else◌, List, [], ◌∷◌, ◌++◌, Option, Some, None}
use Rattle.tr101290.specs.Errors.{accuracy_error}
use Rattle.tr101290.specs.declared.rate_judge.PidError.{PidError}
use Rattle.tr101290.specs.declared.rate_judge.TheConstants.{PAIRS}
use Rattle.tr101290.specs.declared.report.PcrError.{PcrError}
use Rattle.tr101290.specs.declared.report.PcrReport.{PcrReport}

-- the last rate, how many pairs of rates in a row were compared, how many of them are apart, and the accuracy errors that wait
pub record JudgeState : Type 0 where
  pub rate : Option ℕ
  pub pairs : ℕ
  pub apart : ℕ
  pub held : List PidError

abbrev pub no_rate : JudgeState
no_rate = record { rate = None; pairs = 0; apart = 0; held = [] }

-- whether the lesser rate is more than a fiftieth below the greater
abbrev pub are_apart : ℕ → ℕ → Bool
are_apart a b = nat_lt b (a - a / 50) || nat_lt a (b - b / 50)

abbrev pub one_if : Bool → ℕ
one_if b = if b then 1 else 0

-- the last rate after a reference, which may give none; the number of pairs that it adds, and of pairs that are apart
unfoldable pub rate_after : Option ℕ → Option ℕ → Option ℕ
rate_after before None = before
rate_after before (Some rate) = Some rate

unfoldable pub pair_more : Option ℕ → Option ℕ → ℕ
pair_more None rate = 0
pair_more (Some before) None = 0
pair_more (Some before) (Some rate) = 1

unfoldable pub apart_more : Option ℕ → Option ℕ → ℕ
apart_more None rate = 0
apart_more (Some before) None = 0
apart_more (Some before) (Some rate) = one_if (are_apart before rate)

abbrev pub with_rate : JudgeState → Option ℕ → JudgeState
with_rate s rate = record {
  rate = rate_after s.rate rate;
  pairs = min (s.pairs + pair_more s.rate rate) (2 ^ 64 - 1);
  apart = min (s.apart + apart_more s.rate rate) (2 ^ 64 - 1);
  held = s.held;
}

-- the question is decided after 32 pairs: the rate varies if more than half of the pairs are apart
abbrev pub is_decided : JudgeState → Bool
is_decided s = nat_le PAIRS s.pairs

abbrev pub varies : JudgeState → Bool
varies s = nat_lt (s.pairs / 2) s.apart

abbrev pub if_constant : JudgeState → List PidError → List PidError
if_constant s errors = if varies s then [] else errors

unfoldable pub error_list : ℕ → Option PcrError → List PidError
error_list pid None = []
error_list pid (Some error) = record { pid = pid; error = error } ∷ []

abbrev pub holding : JudgeState → ℕ → Option PcrError → JudgeState
holding s pid error = record { rate = s.rate; pairs = s.pairs; apart = s.apart; held = s.held ++ error_list pid error }

-- the held errors are given as soon as the question is decided
abbrev pub settled : JudgeState → JudgeState
settled s = if is_decided s then record { rate = s.rate; pairs = s.pairs; apart = s.apart; held = [] } else s

abbrev pub settled_errors : JudgeState → List PidError
settled_errors s = if is_decided s then if_constant s s.held else []

-- the next reference
abbrev pub with_report : JudgeState → ℕ → PcrReport → JudgeState
with_report s pid report = holding (with_rate s report.rate) pid (accuracy_error report)

abbrev pub taken : JudgeState → ℕ → PcrReport → JudgeState
taken s pid report = if is_decided s then s else settled (with_report s pid report)

abbrev pub errors_at : JudgeState → ℕ → PcrReport → List PidError
errors_at s pid report = if is_decided s then if_constant s (error_list pid (accuracy_error report)) else settled_errors (with_report s pid report)

-- at the end
abbrev pub last_errors : JudgeState → List PidError
last_errors s = if_constant s s.held

-- all references of a stream
unfoldable pub after_all : JudgeState → List (ℕ × PcrReport) → JudgeState
after_all s [] = s
after_all s (r ∷ rs) = after_all (taken s r.0 r.1) rs

unfoldable pub errors_all : JudgeState → List (ℕ × PcrReport) → List PidError
errors_all s [] = []
errors_all s (r ∷ rs) = errors_at s r.0 r.1 ++ errors_all (taken s r.0 r.1) rs

unfoldable pub all_errors : List (ℕ × PcrReport) → List PidError
all_errors [] = []
all_errors (r ∷ rs) = error_list r.0 (accuracy_error r.1) ++ all_errors rs
