-- The drift of a program clock is the drift of its own references.
use Rattle.std.proofs.Common.{◌≡◌, ◌∙◌, ℕ, ◌-◌, ◌==◌, Bool, true, false, cond, nat_eq, List, [], ◌∷◌, Option, Some, None, refl, ap, sym, arith}
use Rattle.indexmap.specs.IndexMap.{insert_entry}
use Rattle.arrival.specs.declared.clock.ClockStep.{ClockStep}
use Rattle.arrival.specs.declared.clock.ClockStep.TheVariants.{First, GoesOn, Announced, Jump}
use Rattle.packet_times.specs.ClockDrifts.{continued, drift_after, drift_at, on_line}
use Rattle.packet_times.specs.ClockWindows.{drift_of, drift_or_none}
use Rattle.packet_times.specs.Laws.{Continued, DriftLaw, Placed, TotalDriftLaw, all_ticks, drift_along, drift_by, last_moment, references_of, state_of}
use Rattle.packet_times.specs.declared.drift.ClockDrift.{ClockDrift}
use Rattle.packet_times.proofs.ClockCounts.{found, same_number}

entry_is : (pid q : ℕ) (step : ClockStep) (moment : Option ℕ) (es : List (ℕ × Option ClockDrift)) (t : Bool) → (q == pid) ≡ t →
    drift_of pid (insert_entry nat_eq es q (drift_after (drift_of q es) step moment)) ≡ cond t (drift_after (drift_of pid es) step moment) (drift_of pid es)
unfolding drift_or_none
entry_is pid q step moment es true e =
    ap drift_or_none (found pid q (drift_after (drift_of q es) step moment) es true e)
    ∙ ap (λ (k : ℕ). drift_after (drift_of k es) step moment) (same_number q pid e)
entry_is pid q step moment es false e = ap drift_or_none (found pid q (drift_after (drift_of q es) step moment) es false e)

one_more : (t : Bool) (r : Placed) (rs : List Placed) → cond t (drift_after (drift_by rs) r.report.step r.moment) (drift_by rs) ≡ drift_by (cond t (r ∷ rs) rs)
unfolding drift_by
one_more true r rs = refl
one_more false r rs = refl

pub own_law : DriftLaw
unfolding state_of references_of drift_by drift_or_none
own_law [] pid = refl
own_law (r ∷ earlier) pid =
    entry_is pid r.pid r.report.step r.moment (state_of earlier).drifts (r.pid == pid) refl
    ∙ ap (λ (d : Option ClockDrift). cond (r.pid == pid) (drift_after d r.report.step r.moment) d) (own_law earlier pid)
    ∙ one_more (r.pid == pid) r (references_of pid earlier)

none_arrived : (n : ℕ) → n - n ≡ 0
none_arrived n = omega arith

first_is : (begin : ℕ) (step : ClockStep) → drift_after None step (Some begin) ≡ Some (record { begin = begin; ticks = 0; arrived = begin - begin })
unfolding drift_after drift_at on_line
first_is begin First = rw (none_arrived begin) refl
first_is begin (GoesOn line) = rw (none_arrived begin) refl
first_is begin Announced = rw (none_arrived begin) refl
first_is begin (Jump ticks) = rw (none_arrived begin) refl

next_is : (d : Option ClockDrift) (begin ticks arrived : ℕ) (r : Continued) → d ≡ Some (record { begin = begin; ticks = ticks; arrived = arrived }) →
    drift_after d (GoesOn r.line) (Some r.moment) ≡ Some (continued (record { begin = begin; ticks = ticks; arrived = arrived }) r.line.ticks r.moment)
unfolding drift_after drift_at on_line
next_is d begin ticks arrived r e = rw e refl

pub total_law : TotalDriftLaw
unfolding drift_along all_ticks last_moment
total_law begin step [] = first_is begin step
total_law begin step (r ∷ earlier) =
    next_is (drift_along begin step earlier) begin (all_ticks earlier) (last_moment begin earlier - begin) r (total_law begin step earlier)
