-- How a clock reference fits the clock, if no fault is reported.
use Rattle.std.proofs.Common.{◌≡◌, ◌∙◌, ℕ, ◌||◌, Bool, true, false, if◌then◌else◌, Option, Some, None, [], refl, sym, ap}
use Rattle.std.specs.Option.{option_to_list}
use Rattle.std.specs.Prelude.{nat_lt, not}
use Rattle.es_moments.specs.Stamps.{distance}
use Rattle.packet_pcr.specs.declared.pcr_reading.FoundPcr.{FoundPcr}
use Rattle.fed_streams.specs.Clocks.{follows, jump_of, jumps, origin_stepped, report_of, returns, step_of, unless_doubtful}
use Rattle.fed_streams.specs.Origins.{origin_kept}
use Rattle.fed_streams.specs.Ticks.{jump_fed}
use Rattle.fed_streams.specs.declared.clock_jump.ClockStep.{ClockStep}
use Rattle.fed_streams.specs.declared.clock_jump.ClockStep.TheVariants.{Continues, Leaps, Confirms, Doubts}
use Rattle.fed_streams.specs.declared.feed_fault.ClockJump.{ClockJump}
use Rattle.fed_streams.specs.declared.origin.DoubtfulClock.{DoubtfulClock}
use Rattle.fed_streams.specs.declared.origin.Origin.{Origin}
use Rattle.es_feed.specs.EachStream.{has_fault, have_fault}

-- A jump of the clock is reported, if no jump before it is doubtful.
jump_if : (pcr : FoundPcr) (before : ℕ) (a b : Bool) (jump : ClockJump) → have_fault (option_to_list (jump_fed (if a || b then Some jump else None))) ≡ false →
    (b ≡ false) × ((a || b) ≡ false)
unfolding jump_fed has_fault
jump_if pcr before true b jump none = absurd cc
jump_if pcr before false true jump none = absurd cc
jump_if pcr before false false jump none = (refl, refl)

no_jump : (shown : Option ℕ) (pcr : FoundPcr) → have_fault (option_to_list (jump_fed (jump_of shown pcr))) ≡ false →
    (jumps shown pcr.base ≡ false) × (option_to_list (jump_fed (jump_of shown pcr)) ≡ [])
unfolding jump_of jumps jump_fed
no_jump None pcr none = (refl, refl)
no_jump (Some before) pcr none =
    let far = nat_lt 900_000 (distance before pcr.base) in
    let two = jump_if pcr before pcr.discontinuity far (record { pid = pcr.pid; packet = pcr.packet; before = before; after = pcr.base }) none in
    (two.0, rw two.1 refl)

abbrev step_or : (leaves announced back : Bool) → ClockStep
step_or leaves announced back = if not leaves then Continues else (if announced then Leaps else (if back then Continues else Doubts))

step_is : (shown earlier : Option ℕ) (pcr : FoundPcr) →
    step_of shown earlier None pcr ≡ step_or (jumps shown pcr.base) pcr.discontinuity (returns earlier pcr.base)
unfolding step_of follows
step_is shown earlier pcr = refl

report_is : (leaves announced back : Bool) (shown : Option ℕ) (pcr : FoundPcr) → report_of (step_or leaves announced back) shown pcr ≡ jump_of shown pcr
unfolding report_of
report_is false announced back shown pcr = refl
report_is true true back shown pcr = refl
report_is true false true shown pcr = refl
report_is true false false shown pcr = refl

-- The reference continues the clock.
pub goes_on : (shown earlier : Option ℕ) (doubtful : Option DoubtfulClock) (pcr : FoundPcr) → doubtful ≡ None →
    have_fault (option_to_list (jump_fed (report_of (step_of shown earlier doubtful pcr) shown pcr))) ≡ false →
    (step_of shown earlier doubtful pcr ≡ Continues) × (option_to_list (jump_fed (report_of (step_of shown earlier doubtful pcr) shown pcr)) ≡ [])
goes_on shown earlier doubtful pcr sure none =
    let back = returns earlier pcr.base in
    let step : step_of shown earlier doubtful pcr ≡ step_or (jumps shown pcr.base) pcr.discontinuity back =
    ap (λ (d : Option DoubtfulClock). step_of shown earlier d pcr) sure ∙ step_is shown earlier pcr in
    let report : report_of (step_of shown earlier doubtful pcr) shown pcr ≡ jump_of shown pcr =
    ap (λ (s : ClockStep). report_of s shown pcr) step ∙ report_is (jumps shown pcr.base) pcr.discontinuity back shown pcr in
    let two = no_jump shown pcr (ap (λ (j : Option ClockJump). have_fault (option_to_list (jump_fed j))) (sym report) ∙ none) in
    (step ∙ ap (λ (leaves : Bool). step_or leaves pcr.discontinuity back) two.0, ap (λ (j : Option ClockJump). option_to_list (jump_fed j)) report ∙ two.1)

kept_is : (o : Origin) → o.doubtful ≡ None → origin_kept o ≡ o
unfolding origin_kept
kept_is o sure = ap (λ (d : Option DoubtfulClock). record { now = o.now; since = o.since; before = o.before; doubtful = d }) (sym sure)

pub stepped_is : (step : ClockStep) (o : Origin) (shown : Option ℕ) (moment : ℕ) (pcr : FoundPcr) → step ≡ Continues → o.doubtful ≡ None →
    origin_stepped step o shown moment pcr ≡ o
unfolding origin_stepped
stepped_is step o shown moment pcr is sure = rw is (kept_is o sure)

pub no_time : (step : ClockStep) (late : Option ℕ) → late ≡ None → unless_doubtful step late ≡ None
unfolding unless_doubtful
no_time Continues late none = none
no_time Leaps late none = none
no_time Confirms late none = none
no_time Doubts late none = refl
