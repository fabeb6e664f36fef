-- The network of a stream, by its network information table (EN 300 468, 5.2.1 and 6.2.27).
use Rattle.std.specs.Prelude.{ℕ, ◌==◌, ◌&&◌, nat_le, Bool, true, false, if◌then◌else◌, List, [], ◌∷◌, length, Option, Some, None, option_map}
use Rattle.std.specs.Prelude.{option_and_then, Result, Ok, Err}
use Rattle.std.specs.Option.{option_or}
use Rattle.psi_tables.specs.Views.{SectionView}
use Rattle.psi_tables.specs.Reading.{section_at}
use Rattle.psi_tables.specs.declared.error.SectionError.{SectionError}
use Rattle.dvb_tables.specs.DescriptorLoops.{are_whole_descriptors}
use Rattle.dvb_tables.specs.NetworkInformation.{NitView, nit_at}
use Rattle.dvb_tables.specs.TransportStreams.{TransportStreamView}
use Rattle.descriptor_loops.specs.Descriptors.{DescriptorView, descriptors_in, is_tagged}
use Rattle.pid_findings.specs.Views.{WhatView, IsSection, FindingView}
use Rattle.ts_services.specs.Networks.{network}
use Rattle.program_tables.specs.Sections.{section_on}
use Rattle.ts_services.specs.declared.network_information.FoundNetwork.{FoundNetwork}
use Rattle.ts_services.specs.declared.network_information.KnownStream.{KnownStream}

-- 1. The tables that findings have

-- a table of the actual network that is in force now, and not the next one
unfoldable pub nit_in_force : Result NitView SectionError → Option NitView
nit_in_force (Err error) = None
nit_in_force (Ok nit) = if nit.header.current_next then Some nit else None

unfoldable pub nit_of_section : Result (SectionView × ℕ) SectionError → Option NitView
nit_of_section (Err error) = None
nit_of_section (Ok section) = nit_in_force (nit_at section.0)

unfoldable pub nit_in : List ℕ → Option NitView
nit_in bytes = nit_of_section (section_at bytes)

-- a section on PID 0x10
unfoldable pub nit_found : FindingView → Option NitView
nit_found finding = option_and_then nit_in (section_on 0x10 finding)

-- 2. What they say of a transport stream

-- network_id, and the original_network_id of the transport stream; the network's name as it is coded there, the descriptors of the network, and those
-- of the transport stream
pub record FoundNetworkView : Type 0 where
  pub id : ℕ
  pub original : ℕ
  pub name : List ℕ
  pub network_descriptors : List ℕ
  pub descriptors : List ℕ

abbrev pub found_network_view : FoundNetwork → FoundNetworkView
found_network_view n = record {
  id = n.id;
  original = n.original;
  name = n.name.now;
  network_descriptors = n.network_descriptors.now;
  descriptors = n.descriptors.now;
}

-- the text of the first network name descriptor; empty without one
unfoldable pub coded_name : List DescriptorView → List ℕ
coded_name [] = []
coded_name (d ∷ ds) = if is_tagged 0x40 d then d.body else coded_name ds

-- a transport stream with this transport_stream_id, and with the original_network_id of its services, if they are described
unfoldable pub is_original : Option ℕ → ℕ → Bool
is_original None id = true
is_original (Some known) id = known == id

unfoldable pub is_entry : KnownStream → TransportStreamView → Bool
is_entry s t = t.transport_stream_id == s.transport_stream_id && is_original s.original_network_id t.original_network_id

unfoldable pub entry_of : KnownStream → List TransportStreamView → Option TransportStreamView
entry_of s [] = None
entry_of s (t ∷ ts) = if is_entry s t then Some t else entry_of s ts

-- descriptors are whole, and no more bytes than a description has of a network or of a transport stream
unfoldable pub can_be_said : List ℕ → Bool
can_be_said descriptors = nat_le (length descriptors) 700 && are_whole_descriptors descriptors

unfoldable pub network_with : NitView → TransportStreamView → Option FoundNetworkView
network_with nit t =
    if can_be_said t.descriptors then Some (record {
      id = nit.header.table_id_extension;
      original = t.original_network_id;
      name = coded_name (descriptors_in nit.network_descriptors);
      network_descriptors = nit.network_descriptors;
      descriptors = t.descriptors;
    }) else None

unfoldable pub network_in : KnownStream → NitView → Option FoundNetworkView
network_in s nit = option_and_then (network_with nit) (entry_of s nit.transport_streams)

unfoldable pub network_said : KnownStream → FindingView → Option FoundNetworkView
network_said s finding = option_and_then (network_in s) (nit_found finding)

-- the network by the first section that has it
unfoldable pub first_network : KnownStream → List FindingView → Option FoundNetworkView
first_network s [] = None
first_network s (finding ∷ findings) = option_or (network_said s finding) (first_network s findings)

unfoldable pub known_stream : ℕ → List FindingView → KnownStream
known_stream id findings = record { transport_stream_id = id; original_network_id = network findings }

unfoldable pub stream_network : ℕ → List FindingView → Option FoundNetworkView
stream_network id findings = first_network (known_stream id findings) findings

-- a section with the table_id of a network information section
unfoldable pub is_network_section : WhatView → Bool
is_network_section (IsSection []) = false
is_network_section (IsSection (table_id ∷ bytes)) = table_id == 0x40
is_network_section _ = false
