-- A description as contracts see it.
use Rattle.description_parts.specs.Described.{Described}
use Rattle.description_parts.specs.declared.contents.Contents.TheInside.{Inside}

-- the numbers and byte lists of its fields
abbrev pub shown : Inside → Described
shown d = record {
  rate = d.rate;
  start = d.start;
  base0 = d.base0;
  transport_stream_id = d.transport_stream_id;
  original_network_id = d.original_network_id;
  has_sdt = d.has_sdt;
  has_tdt = d.has_tdt;
  is_transponder = d.is_transponder;
  clock_pid = d.clock_pid;
  has_eit = d.has_eit;
  rooms = d.rooms;
  versions = d.versions;
  network = d.network;
  programs = d.programs.items;
  streams = d.streams.items;
  tables = d.tables.items;
}
