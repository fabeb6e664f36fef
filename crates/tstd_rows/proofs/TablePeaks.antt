-- The figures of a view of a program's tables are the greatest values over all moments.
use Rattle.std.proofs.Common.{◌≡◌, ◌∙◌, ℕ, ◌*◌, ◌<◌, List, ap, arith}
use Rattle.clock27.specs.Departure.{departures}
use Rattle.clock27.specs.Fullness.{fullness}
use Rattle.clock27.specs.Peak.{IsPeak, most_found}
use Rattle.clock27.proofs.Peak.{departures_climb}
use Rattle.tstd_rows.specs.TransportLaws.{Rises}
use Rattle.tstd_rows.proofs.Levels.{most_law}
use Rattle.tstd.specs.declared.queue.Queue.{Queue}
use Rattle.tstd.specs.Queues.{all_arrived, bytes_within}
use Rattle.tstd.proofs.QueueStates.{passed-step}
use Rattle.tstd.proofs.RisingTimes.{climbs_low}
use Rattle.tstd.proofs.Residence.{most_residence, longest_arrived}
use Rattle.tstd_rows.proofs.LeavingBytes.{climbs_rises}
use Rattle.tstd_rows.specs.ViewLaws.{TablesLaw}
use Rattle.tstd_rows.specs.declared.watched_queue.WatchedQueue.{WatchedQueue}

abbrev empty_of : ℕ → Queue
empty_of step = record { step = step; last = 0; longest_residence = 0 }

-- For bytes that have passed an empty buffer, the longest stay gives the greatest fullness.
passed_peak : (step : ℕ) (q : Queue) (ts : List ℕ) → 0 < step → Rises 0 ts → q ≡ all_arrived (empty_of step) ts →
    IsPeak (λ x. fullness x ts (departures step 0 ts)) (bytes_within q.step q.longest_residence)
passed_peak step q ts some rises is =
    let steps : q.step ≡ step = ap (λ (b : Queue). b.step) is ∙ passed-step (empty_of step) ts in
    let longest = longest_arrived step q ts is in
    let peak = most_law step ts some rises in
    let most : bytes_within q.step q.longest_residence ≡ most_found step 0 ts = rw (steps, longest) (most_residence step 0 ts some) in
    record { never_more = λ x. omega (arith, peak.never_more x, most); moment = peak.moment; reached = omega (arith, peak.reached, most) }

pub tables_law : TablesLaw
tables_law view step system_step times some system_some rises v =
    let first : 0 < 2 * step = omega (arith, some) in
    let ds = departures (2 * step) 0 times in
    let leave = climbs_rises 0 ds (climbs_low 0 1 ds (omega arith) (departures_climb (2 * step) 0 times first)) in (
      passed_peak (2 * step) view.transport.queue times first rises (ap (λ (b : WatchedQueue). b.queue) v.transport),
      passed_peak system_step view.system.queue ds system_some leave (ap (λ (b : WatchedQueue). b.queue) v.system),
    )
