-- The fewest bytes in a main buffer while the parts `recent` of a stream arrive, after the parts `before`.
--
-- Lists of parts begin with the last part. Units leave the buffer whole and bytes enter it one by one, so the moments of a byte are the moments since the
-- byte before it entered: the number of bytes that it finds is the least over these moments.
use Rattle.std.specs.Prelude.{◌≡◌, ℕ, ◌+◌, ◌<◌, ◌≤◌, min, List, [], ◌∷◌, ◌++◌, Option, Some, None, All}
use Rattle.tstd_rows.specs.History.{Part, last_of, payload_left, main_fullness, row_least}
use Rattle.tstd_rows.specs.History.Part.{Passes, Carries, Begins}

-- the lesser of two numbers, if both are present; otherwise the number that is present, if any
unfoldable pub least_of_both : Option ℕ → Option ℕ → Option ℕ
least_of_both None n = n
least_of_both (Some m) None = Some m
least_of_both (Some m) (Some n) = Some (min m n)

-- the fewest bytes that a payload byte of the parts `recent` finds in the buffer, not counting itself; none if they have no payload byte
unfoldable pub least_of : ℕ → List Part → List Part → Option ℕ
least_of step [] before = None
least_of step (Passes times ∷ recent) before = least_of step recent before
least_of step (Carries times ∷ recent) before = least_of_both (least_of step recent before) (row_least step (recent ++ before) times)
least_of step (Begins due ∷ recent) before = least_of step recent before

-- n is the least fullness of the buffer from the entry of the last payload byte before these parts until the entry of their own last payload byte: at no such
-- moment does the buffer hold fewer bytes, and at some moment it holds at most n bytes and the byte that enters then
pub record IsLow (step : ℕ) (recent before : List Part) (n : ℕ) : Type 0 where
  pub never_less : (x : ℕ) → All (λ d. d ≤ x) (payload_left step before) → (All (λ d. d ≤ x) (payload_left step (recent ++ before)) → ⊥) →
      n ≤ main_fullness step (recent ++ before) x
  pub moment : ℕ
  pub after : All (λ d. d ≤ moment) (payload_left step before)
  pub by : moment ≤ last_of step (recent ++ before)
  pub reached : main_fullness step (recent ++ before) moment ≤ n + 1

abbrev pub LowsLaw : Type 0
LowsLaw = (step : ℕ) (recent before : List Part) (n : ℕ) → 0 < step → least_of step recent before ≡ Some n → IsLow step recent before n
