-- Two small streams viewed: one without a fault, and one with a fault. So the laws of views are about something.
use Rattle.std.specs.Prelude.{◌≡◌, ℕ, Bool, true, false, List, [], ◌∷◌, ◌++◌, filter, is_some, None}
use Rattle.ts_packet.specs.PidList.{cut_packets}
use Rattle.arrival.specs.declared.arrival.Arrival.TheVariants.{AtRate}
use Rattle.events.specs.Faults.{fault_of}
use Rattle.events.specs.declared.event.Event.{Event}
use Rattle.events.specs.declared.event.Event.TheVariants as found
use Rattle.ts_watch.specs.Choices.{RequestView}
use Rattle.ts_report.specs.Views.{ViewState, after_all, end_events, events_all, is_good, start}
use Rattle.laws_run.specs.WorkedBytes.{clock_packet, pat_packet, pmt_packet, unit_packet, worked_bytes}

-- all streams, at the rate of the worked run, in windows of a second
abbrev pub worked_request : RequestView
worked_request = record {
  options = record { arrival = AtRate 100_000; origin = 0; window = 1000 };
  choice = record { programs = []; buffers = [] };
  span = record { from = None; to = None };
  stamps = false;
}

-- the packets of the worked run, except that the second packet of the PAT has another continuity_counter
abbrev pub broken_bytes : List ℕ
broken_bytes = pat_packet 0 ++ pmt_packet 0 ++ unit_packet ++ clock_packet ++ pat_packet 2 ++ pmt_packet 1

abbrev pub viewed : List ℕ → ViewState
viewed bytes = after_all (start worked_request) (cut_packets bytes)

-- the events of the packets, and of the end, that are faults
abbrev pub is_fault : Event → Bool
is_fault e = is_some (fault_of e None)

abbrev pub faults_in : List ℕ → List Event
faults_in bytes = filter is_fault (events_all (start worked_request) (cut_packets bytes))

abbrev pub faults_at_end : List ℕ → List Event
faults_at_end bytes = filter is_fault (end_events (viewed bytes) 0)

pub record WorkedView : Type 0 where
  -- the worked run is good, and no event of it is a fault
  pub good : is_good (viewed worked_bytes) 0 ≡ true
  pub none : faults_in worked_bytes ≡ []
  pub none_at_end : faults_at_end worked_bytes ≡ []
  -- the other stream is not, and its only fault is the counter of that packet
  pub bad : is_good (viewed broken_bytes) 0 ≡ false
  pub counter : faults_in broken_bytes ≡ found.Continuity (record { pid = 0; packet = 4; expected = 1; found = 2 }) ∷ []
  pub counter_alone : faults_at_end broken_bytes ≡ []
