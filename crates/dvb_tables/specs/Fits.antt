-- Numbers that have room in their fields.
use Rattle.std.specs.Prelude.{◌≡◌, ◌^◌, ◌<◌, length}
use Rattle.dvb_tables.specs.Services.{ServiceView}
use Rattle.dvb_tables.specs.TransportStreams.{TransportStreamView}
use Rattle.dvb_tables.specs.EventEntries.{EventView}

-- each number of a service has room in its field
pub record ServiceFits (s : ServiceView) : Type 0 where
  pub service_id : s.service_id < 2 ^ 16
  pub descriptors : length s.descriptors < 2 ^ 12

-- each number of a transport stream has room in its field
pub record TransportStreamFits (t : TransportStreamView) : Type 0 where
  pub transport_stream_id : t.transport_stream_id < 2 ^ 16
  pub original_network_id : t.original_network_id < 2 ^ 16
  pub descriptors : length t.descriptors < 2 ^ 12

-- each number of an event has room in its field, and its times are as long as theirs
pub record EventFits (e : EventView) : Type 0 where
  pub event_id : e.event_id < 2 ^ 16
  pub start_time : length e.start_time ≡ 5
  pub duration : length e.duration ≡ 3
  pub descriptors : length e.descriptors < 2 ^ 12
