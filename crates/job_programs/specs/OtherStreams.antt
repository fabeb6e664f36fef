-- The other transport streams of a stream's network, by its network information tables (EN 300 468, 5.2.1).
use Rattle.std.specs.Prelude.{ℕ, ◌==◌, ◌&&◌, ◌||◌, nat_lt, not, Bool, false, if◌then◌else◌, List, [], ◌∷◌, ◌++◌, length, Option, Some, None}
use Rattle.std.specs.List.{list_all, list_any}
use Rattle.std.specs.Str.{bytes_eq}
use Rattle.dvb_tables.specs.NetworkInformation.{NitView}
use Rattle.dvb_tables.specs.TransportStreams.{TransportStreamView}
use Rattle.pid_findings.specs.Views.{FindingView}
use Rattle.ts_services.specs.NetworkInformation.{FoundNetworkView, is_network_section, nit_found, stream_network}
use Rattle.job_programs.specs.GivenLoops.{can_be_kept}

-- 1. Those that a description has: at most 64, with at most 700 bytes of whole descriptors each, as the first section lists them

abbrev pub has_ids : ℕ → ℕ → TransportStreamView → Bool
has_ids id original t = t.transport_stream_id == id && t.original_network_id == original

unfoldable pub is_listed : List TransportStreamView → TransportStreamView → Bool
is_listed taken t = list_any (has_ids t.transport_stream_id t.original_network_id) taken

-- a transport stream is another one than that of these ids, is not taken yet, can be described, and there is room for it
unfoldable pub can_be_taken : ℕ → ℕ → List TransportStreamView → TransportStreamView → Bool
can_be_taken id original taken t =
    not (has_ids id original t) && (not (is_listed taken t) && (can_be_kept 700 t.descriptors && nat_lt (length taken) 64))

unfoldable pub with_stream : ℕ → ℕ → List TransportStreamView → TransportStreamView → List TransportStreamView
with_stream id original taken t = if can_be_taken id original taken t then taken ++ t ∷ [] else taken

unfoldable pub with_streams : ℕ → ℕ → List TransportStreamView → List TransportStreamView → List TransportStreamView
with_streams id original taken [] = taken
with_streams id original taken (t ∷ ts) = with_streams id original (with_stream id original taken t) ts

-- those of a table of a network
unfoldable pub with_table : ℕ → FoundNetworkView → List TransportStreamView → Option NitView → List TransportStreamView
with_table id n taken None = taken
with_table id n taken (Some nit) = if nit.header.table_id_extension == n.id then with_streams id n.original taken nit.transport_streams else taken

unfoldable pub with_findings : ℕ → FoundNetworkView → List TransportStreamView → List FindingView → List TransportStreamView
with_findings id n taken [] = taken
with_findings id n taken (finding ∷ findings) = with_findings id n (with_table id n taken (nit_found finding)) findings

unfoldable pub others_of : ℕ → Option FoundNetworkView → List FindingView → List TransportStreamView
others_of id None findings = []
others_of id (Some n) findings = with_findings id n [] findings

-- the other transport streams of the network that lists the stream with this transport_stream_id
abbrev pub other_streams : ℕ → List FindingView → List TransportStreamView
other_streams id findings = others_of id (stream_network id findings) findings

-- 2. What else the tables say

abbrev pub is_same_stream : TransportStreamView → TransportStreamView → Bool
is_same_stream t u = has_ids t.transport_stream_id t.original_network_id u && bytes_eq t.descriptors u.descriptors

-- a description has this transport stream: the stream's own one, or another one
unfoldable pub is_carried : ℕ → FoundNetworkView → List TransportStreamView → TransportStreamView → Bool
is_carried id n others t =
    if has_ids id n.original t then bytes_eq t.descriptors n.descriptors else list_any (is_same_stream t) others

-- a section has no descriptors of the network, or those that a description has
unfoldable pub has_no_more : FoundNetworkView → List ℕ → Bool
has_no_more n descriptors = length descriptors == 0 || (can_be_kept 700 descriptors && bytes_eq descriptors n.network_descriptors)

unfoldable pub says_no_more : ℕ → FoundNetworkView → List TransportStreamView → NitView → Bool
says_no_more id n others nit =
    nit.header.table_id_extension == n.id && (has_no_more n nit.network_descriptors && list_all (is_carried id n others) nit.transport_streams)

unfoldable pub is_said : ℕ → Option FoundNetworkView → List TransportStreamView → Option NitView → Bool
is_said id (Some n) others (Some nit) = says_no_more id n others nit
is_said id _ others _ = false

unfoldable pub is_surplus : ℕ → Option FoundNetworkView → List TransportStreamView → FindingView → Bool
is_surplus id n others finding = is_network_section finding.what && not (is_said id n others (nit_found finding))

-- the packet where the first section of an actual network ends that a description has not as it is
unfoldable pub surplus_from : ℕ → Option FoundNetworkView → List TransportStreamView → List FindingView → Option ℕ
surplus_from id n others [] = None
surplus_from id n others (finding ∷ findings) = if is_surplus id n others finding then Some finding.packet else surplus_from id n others findings

abbrev pub network_surplus : ℕ → List FindingView → Option ℕ
network_surplus id findings = surplus_from id (stream_network id findings) (other_streams id findings) findings
