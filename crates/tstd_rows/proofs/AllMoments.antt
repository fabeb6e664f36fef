-- The figures of a view are the greatest values over all moments.
use Rattle.std.proofs.Common.{◌≡◌, ◌∙◌, sym, ℕ, ◌*◌, cond, nat_lt, List, [], ◌∷◌, ◌++◌, length, refl, inl, inr, arith}
use Rattle.std.proofs.lemmas.Bool.{cases_lt, lt-ltb, le-ltb}
use Rattle.std.proofs.lemmas.List.{append-nil, length-append}
use Rattle.std.proofs.lemmas.List.Sums.{sum_by-cons}
use Rattle.clock27.specs.Peak.{greatest_at}
use Rattle.clock27.proofs.Departures.{length-departures}
use Rattle.unit_timing.specs.MainBuffer.{is_in_main_buffer, mb_fullness}
use Rattle.unit_timing.specs.PesPacket.{PesPacket}
use Rattle.unit_timing.proofs.MainBufferBytes.{kept}
use Rattle.unit_timing.proofs.MainBufferPeak.{main_peak_law}
use Rattle.tstd_rows.proofs.Levels.{most_law}
use Rattle.tstd.proofs.RisingTimes.{greatest_ext}
use Rattle.tstd_rows.specs.RowEntry.{has_entered, entered}
use Rattle.tstd_rows.specs.History.{Part, arrivals_of, last_of, left_after, payload_left, main_fullness, main_peak, until_of}
use Rattle.tstd_rows.specs.History.Part.{Passes, Carries, Begins}
use Rattle.tstd_rows.specs.ConstantRate.{with_bytes_of_last}
use Rattle.tstd_rows.specs.ViewLaws.{FiguresLaw}
use Rattle.tstd_rows.proofs.UnitBytes.{sizes, last_due, unit_more, bytes_more, sizes_more, sizes_last, due_more, due_last}

-- The units of a stream, each due when its bytes are removed
unfoldable units_in : List Part → List PesPacket
units_in [] = []
units_in (Passes ts ∷ before) = units_in before
units_in (Carries ts ∷ before) = with_bytes_of_last (length ts) (units_in before)
units_in (Begins due ∷ before) = units_in before ++ record { dts = due.until; size = 0; front = 0 } ∷ []

until_in : (parts : List Part) → until_of parts ≡ last_due (units_in parts)
unfolding until_of units_in
until_in [] = unfold last_due in refl
until_in (Passes ts ∷ before) = until_in before
until_in (Carries ts ∷ before) = rw (due_last (length ts) (units_in before)) (until_in before)
until_in (Begins due ∷ before) = sym (due_more due.until 0 (units_in before))

many_in : (step : ℕ) (parts : List Part) → length (payload_left step parts) ≡ sizes (units_in parts)
unfolding payload_left units_in
many_in step [] = unfold sizes in refl
many_in step (Passes ts ∷ before) = many_in step before
many_in step (Carries ts ∷ before) =
    omega (
      arith,
      length-append (payload_left step before) (left_after step before ts),
      length-departures step (last_of step before) ts,
      many_in step before,
      sizes_last (length ts) (units_in before),
    )
many_in step (Begins due ∷ before) = omega (arith, many_in step before, sizes_more due.until 0 (units_in before))

-- If times are counted in stamps, the bytes of a unit are removed at its stamp.
gone_at : (x due : ℕ) → nat_lt (x * 720000) (due * 720000 * 1) ≡ nat_lt x due
gone_at x due = elim (cases_lt x due) [
  | inl before ↦ lt-ltb (x * 720000) (due * 720000 * 1) (omega (arith, before)) ∙ sym (lt-ltb x due before)
  | inr gone ↦ le-ltb (x * 720000) (due * 720000 * 1) (omega (arith, gone)) ∙ sym (le-ltb x due gone)
]

entered_kept : (due x : ℕ) (ds : List ℕ) → entered due x ds ≡ kept 720000 1 x due ds
unfolding kept
entered_kept due x [] = refl
entered_kept due x (d ∷ ds) =
    rw (sum_by-cons (λ s. cond (has_entered due x s) 1 0) d ds, sum_by-cons (λ s. cond (is_in_main_buffer 720000 1 x due s) 1 0) d ds, gone_at x due)
    (omega (arith, entered_kept due x ds))

main_in : (step x : ℕ) (parts : List Part) → main_fullness step parts x ≡ mb_fullness 720000 1 x (units_in parts) (payload_left step parts)
unfolding main_fullness payload_left units_in
main_in step x [] = unfold mb_fullness in refl
main_in step x (Passes ts ∷ before) = main_in step x before
main_in step x (Carries ts ∷ before) =
    let ds = left_after step before ts in
    let many : length ds ≡ length ts = length-departures step (last_of step before) ts in
    let more = rw many at (bytes_more 720000 1 x (units_in before) (payload_left step before) ds (many_in step before)) in
    rw (more, main_in step x before, until_in before, entered_kept (last_due (units_in before)) x ds) refl
main_in step x (Begins due ∷ before) =
    let more = unit_more 720000 1 x due.until (units_in before) (payload_left step before) [] (many_in step before) in
    let none : kept 720000 1 x due.until [] ≡ 0 = unfold kept in refl in
    omega (arith, main_in step x before, none, rw (append-nil (payload_left step before)) at more)

pub figures_law : FiguresLaw
figures_law step parts some rises =
    let left = payload_left step parts in
    let f : ℕ → ℕ = λ x. mb_fullness 720000 1 x (units_in parts) left in
    let peak : main_peak step parts ≡ greatest_at f left = greatest_ext (main_fullness step parts) f left (λ x. main_in step x parts) in
    let model = main_peak_law 720000 1 (units_in parts) left in (
      most_law step (arrivals_of parts) some rises,
      record {
        never_more = λ x. omega (arith, model.never_more x, main_in step x parts, peak);
        moment = model.moment;
        reached = main_in step model.moment parts ∙ model.reached ∙ sym peak;
      },
    )
