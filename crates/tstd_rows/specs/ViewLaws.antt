-- Laws of a view, over the definitions alone.
use Rattle.std.specs.Prelude.{ℕ, ◌*◌, ◌<◌, List}
use Rattle.clock27.specs.Departure.{departures}
use Rattle.clock27.specs.Fullness.{fullness}
use Rattle.clock27.specs.Peak.{IsPeak}
use Rattle.tstd.specs.Queues.{bytes_within}
use Rattle.tstd_rows.specs.TransportLaws.{Rises}
use Rattle.tstd_rows.specs.History.{Part, arrivals_of, transport_of, main_fullness, main_peak}
use Rattle.tstd_rows.specs.SystemViewed.{IsSystemViewOf}
use Rattle.tstd_rows.specs.declared.system_buffers.SystemView.{SystemView}

-- if the times of arrival rise, the figures are the greatest fullness over all moments: of the transport buffer, and of the main buffer
abbrev pub FiguresLaw : Type 0
FiguresLaw = (step : ℕ) (parts : List Part) → 0 < step → Rises 0 (arrivals_of parts) →
    IsPeak (λ x. fullness x (arrivals_of parts) (departures step 0 (arrivals_of parts))) (transport_of step parts).most
    × IsPeak (main_fullness step parts) (main_peak step parts)

-- the same for the tables of a program, which pass two buffers in series
abbrev pub TablesLaw : Type 0
TablesLaw = (view : SystemView) (step system_step : ℕ) (times : List ℕ) → 0 < step → 0 < system_step → Rises 0 times →
    IsSystemViewOf view step system_step times →
    IsPeak (λ x. fullness x times (departures (2 * step) 0 times)) (bytes_within view.transport.queue.step view.transport.queue.longest_residence)
    × IsPeak (λ x. fullness x (departures (2 * step) 0 times) (departures system_step 0 (departures (2 * step) 0 times)))
    (bytes_within view.system.queue.step view.system.queue.longest_residence)
