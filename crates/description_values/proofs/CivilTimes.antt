-- The test accepts exactly the civil dates and times that jiff accepts, and jiff's seconds equal the seconds of the definition.
use Rattle.std.proofs.Common.{◌≡◌, ℕ, pos, ◌≤◌, ◌≤ℤ◌, true, false, ◌&&◌, refl, arith, Some, None, inl, inr}
use Rattle.std.proofs.lemmas.Bool.{and_parts, le-leb, leb-true, cases_Bool, false≢true}
use Rattle.std.proofs.lemmas.Int.{ints}
use Rattle.jiff.specs.Words.{IsDate, IsTime, IsYmd, IsHms, civil_seconds, days_in_month}
use Rattle.jiff.specs.Types.{DateTime}
use Rattle.description_values.specs.Moments.{is_civil_date, is_clock_time, seconds_of, civil_seconds_of}

pos_le : (a b : ℕ) → pos a ≤ℤ pos b → a ≤ b
pos_le a b h = omega (arith, ints)

le_pos : (a b : ℕ) → a ≤ b → pos a ≤ℤ pos b
le_pos a b h = omega (arith, ints)

pub date_accepted : (y mo d : ℕ) → IsDate (pos y) (pos mo) (pos d) → is_civil_date y mo d ≡ true
date_accepted y mo d date =
    rw (
      le-leb 1 mo (pos_le 1 mo date.1.0),
      le-leb mo 12 (pos_le mo 12 date.1.1),
      le-leb 1 d (pos_le 1 d date.2.0),
      le-leb d (days_in_month (pos y) mo) (pos_le d (days_in_month (pos y) mo) date.2.1),
    ) refl

pub time_accepted : (h mi s : ℕ) → IsTime (pos h) (pos mi) (pos s) (pos 0) → is_clock_time h mi s ≡ true
time_accepted h mi s time = rw (le-leb h 23 (pos_le h 23 time.0.1), le-leb mi 59 (pos_le mi 59 time.1.1), le-leb s 59 (pos_le s 59 time.2.1)) refl

pub date_found : (y mo d : ℕ) → y ≤ 9999 → is_civil_date y mo d ≡ true → IsDate (pos y) (pos mo) (pos d)
date_found y mo d year test =
    let both = and_parts _ _ test in
    let month = and_parts _ _ both.0 in
    let day = and_parts _ _ both.1 in (
      (omega (arith, ints), omega (arith, ints)),
      (le_pos 1 mo (leb-true 1 mo month.0), le_pos mo 12 (leb-true mo 12 month.1)),
      (le_pos 1 d (leb-true 1 d day.0), le_pos d (days_in_month (pos y) mo) (leb-true d _ day.1)),
    )

pub time_found : (h mi s : ℕ) → is_clock_time h mi s ≡ true → IsTime (pos h) (pos mi) (pos s) (pos 0)
time_found h mi s test =
    let both = and_parts _ _ test in
    let first = and_parts _ _ both.0 in (
      (omega (arith, ints), le_pos h 23 (leb-true h 23 first.0)),
      (omega (arith, ints), le_pos mi 59 (leb-true mi 59 first.1)),
      (omega (arith, ints), le_pos s 59 (leb-true s 59 both.1)),
      (omega (arith, ints), omega (arith, ints)),
    )

-- The seconds of a civil time are a function of its parts.
pub seconds_of_parts : (y mo d h mi s : ℕ) (dt : DateTime) → IsYmd (pos y) (pos mo) (pos d) dt.date → IsHms (pos h) (pos mi) (pos s) (pos 0) dt.time
    → civil_seconds dt ≡ seconds_of y mo d h mi s
unfolding civil_seconds
seconds_of_parts y mo d h mi s dt date time =
    let month : dt.date.month ≡ mo = cc (date.1) in
    let day : dt.date.day ≡ d = cc (date.2) in
    let hour : dt.time.hour ≡ h = cc (time.0) in
    let minute : dt.time.minute ≡ mi = cc (time.1) in
    let second : dt.time.second ≡ s = cc (time.2) in
    rw (date.0, month, day, hour, minute, second) refl

pub some_seconds : (y mo d h mi s : ℕ) (dt : DateTime) → IsDate (pos y) (pos mo) (pos d) × IsTime (pos h) (pos mi) (pos s) (pos 0)
    → IsYmd (pos y) (pos mo) (pos d) dt.date × IsHms (pos h) (pos mi) (pos s) (pos 0) dt.time
    → Some (civil_seconds dt) ≡ civil_seconds_of y mo d h mi s
some_seconds y mo d h mi s dt ok parts =
    rw (seconds_of_parts y mo d h mi s dt parts.0 parts.1, date_accepted y mo d ok.0, time_accepted h mi s ok.1) refl

pub no_seconds : (y mo d h mi s : ℕ) → y ≤ 9999 → ((IsDate (pos y) (pos mo) (pos d) × IsTime (pos h) (pos mi) (pos s) (pos 0)) → false ≡ true)
    → None ≡ civil_seconds_of y mo d h mi s
no_seconds y mo d h mi s year refused =
    elim (cases_Bool (is_civil_date y mo d && is_clock_time h mi s)) [
      | inl accepted ↦ let both = and_parts _ _ accepted in absurd (false≢true (refused (date_found y mo d year both.0, time_found h mi s both.1)))
      | inr refused_too ↦ rw refused_too refl
    ]
