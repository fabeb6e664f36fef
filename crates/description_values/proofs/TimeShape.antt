-- The places of the digits in a text of the shape YYYY-MM-DDThh:mm:ss
use Rattle.std.proofs.Common.{◌≡◌, ℕ, List, true}
use Rattle.std.proofs.lemmas.Bool.{and_parts}
use Rattle.description_values.specs.Moments.{has_two_digits, has_time_shape}

pub record Digits (text : List ℕ) : Type 0 where
  pub century : has_two_digits text 0 ≡ true
  pub year : has_two_digits text 2 ≡ true
  pub month : has_two_digits text 5 ≡ true
  pub day : has_two_digits text 8 ≡ true
  pub hour : has_two_digits text 11 ≡ true
  pub minute : has_two_digits text 14 ≡ true
  pub second : has_two_digits text 17 ≡ true

pub time_shape_digits : (text : List ℕ) → has_time_shape text ≡ true → Digits text
time_shape_digits text shape =
    let last = and_parts _ _ shape in
    let clock = and_parts _ _ last.0 in
    let tee = and_parts _ _ clock.0 in
    let date = and_parts _ _ tee.0 in
    let start = and_parts _ _ date.0 in
    let years = and_parts _ _ (and_parts _ _ start.1).0 in
    let days = and_parts _ _ date.1 in
    let hours = and_parts _ _ clock.1 in
    record {
      century = years.0;
      year = years.1;
      month = (and_parts _ _ days.0).0;
      day = days.1;
      hour = (and_parts _ _ hours.0).0;
      minute = hours.1;
      second = (and_parts _ _ last.1).1;
    }
