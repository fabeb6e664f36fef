-- The sections of the NIT are read as the description's network.
use Rattle.std.proofs.Common.{◌≡◌, ℕ, ◌-◌, ◌<◌, ◌≤◌, List, [], length, map, get_or, slice_get, Option, None, Some, All, refl, ap, sym, subst, ◌∙◌, arith}
use Rattle.std.proofs.lemmas.List.Elements.{All-cons, All-map}
use Rattle.std.proofs.lemmas.Option.{slice_get_within}
use Rattle.psi_tables.specs.Encoding.{section_bytes}
use Rattle.dvb_tables.specs.Fits.{TransportStreamFits}
use Rattle.dvb_tables.specs.Laws.{NitFits}
use Rattle.dvb_tables.specs.NetworkInformation.{NitView, nit_at, nit_section}
use Rattle.dvb_tables.proofs.TablesWritten.{nit_written}
use Rattle.description_parts.specs.Described.{Described, DescribedNetwork, network_stream_view}
use Rattle.description_parts.specs.NitParts.{AreNitParts}
use Rattle.description_parts.specs.Ranges.{IsInRange, IsNetwork, IsNetworkStream, longest_section}
use Rattle.description_parts.specs.Tables.{network_streams, nit_length, nit_lengths, nit_parts}
use Rattle.description_parts.specs.declared.network_stream.NetworkStream.{NetworkStream}
use Rattle.description_parts.specs.declared.table_kind.TableKind.TheVariants.{Nit}
use Rattle.description_parts.proofs.NitParts.{nit_parts_law}
use Rattle.description.specs.Networks.{AreNit, ListStreams, NetworkLaw}
use Rattle.description.specs.SectionBytes.{kind_bytes, network_bytes, nit_of}
use Rattle.description.proofs.NetworkFacts.{of_some}
use Rattle.description.proofs.Pids.{at_place}
use Rattle.description.proofs.SaidParts.{IsSaid, each_part, joined, length_said, read_again, said, said_at}
use Rattle.description.proofs.SectionBounds.{nit_length_at, nit_size}
use Rattle.description.proofs.SectionCounts.{network_count}

-- Each transport stream of a section has room in its fields.
abbrev Fits : NetworkStream → Type 0
Fits s = TransportStreamFits (network_stream_view s)

others_fit : (ss : List NetworkStream) → All IsNetworkStream ss → All Fits ss
others_fit ss all = λ k s lt. let is : IsNetworkStream (get_or ss k s) = all k s lt in record {
  transport_stream_id = omega (arith, is.transport_stream_id);
  original_network_id = omega (arith, is.original_network_id);
  descriptors = omega (arith, is.descriptors.fits);
}

streams_fit : (d : Described) (n : DescribedNetwork) → IsInRange d → IsNetwork n → All Fits (network_streams d n)
streams_fit d n r is =
    All-cons Fits (record { transport_stream_id = d.transport_stream_id; original_network_id = d.original_network_id; descriptors = n.descriptors }) n.streams
    (record {
      transport_stream_id = omega (arith, r.transport_stream_id);
      original_network_id = omega (arith, r.original_network_id);
      descriptors = omega (arith, is.descriptors.fits);
    })
    (others_fit n.streams is.streams)

part_fits : (n : DescribedNetwork) (part : List NetworkStream) (version number last : ℕ) → n.id ≤ 65535 → version < 32 → All Fits part →
    nit_length n number part ≤ longest_section → number < 256 → last < 256 → NitFits (nit_of n part version number last)
part_fits n part version number last id small all le low most = record {
  header = record {
    table_id_extension = omega (arith, id);
    version_number = omega (arith, small);
    section_number = omega (arith, low);
    last_section_number = omega (arith, most);
  };
  transport_streams = All-map TransportStreamFits network_stream_view part all;
  section_length = omega (arith, nit_size n part version number last, le);
}

read_nit : (t : NitView) → NitFits t → AreNit (section_bytes (nit_section t)) t
read_nit t fits = let is = nit_written t fits in read_again (nit_section t) nit_at t is.writable is.read

-- The section of a number
abbrev last_of : Described → DescribedNetwork → ℕ
last_of d n = length (nit_parts d n) - 1

abbrev say : Described → DescribedNetwork → ℕ → List NetworkStream → NitView
say d n number part = nit_of n part d.versions.nit number (last_of d n)

abbrev network_bytes_of : Described → ℕ → Option DescribedNetwork → List ℕ
network_bytes_of d j o = elim o as (λ _. List ℕ) [ None ↦ [] | Some n ↦ network_bytes n (nit_parts d n) d.versions.nit j ]

abbrev part_bytes : DescribedNetwork → ℕ → ℕ → ℕ → Option (List NetworkStream) → List ℕ
part_bytes n version j last o = elim o as (λ _. List ℕ) [ None ↦ [] | Some part ↦ section_bytes (nit_section (nit_of n part version j last)) ]

read_at : (d : Described) (n : DescribedNetwork) (moment j : ℕ) (t : NitView) → IsInRange d →
    AreNitParts d.is_transponder n (network_streams d n) (nit_parts d n) → d.network ≡ Some n → IsSaid (say d n) j (slice_get (nit_parts d n) j) t →
    AreNit (kind_bytes d Nit j moment) t
read_at d n moment j t r parts there p =
    let is = of_some IsNetwork d.network n there r.network in
    let within = slice_get_within (nit_parts d n) j p.part p.at in
    let all = at_place (All Fits) (nit_parts d n) j p.part (each_part Fits (nit_parts d n) (subst (All Fits) (sym parts.whole) (streams_fit d n r is))) p.at in
    let lengths = of_some (λ (m : DescribedNetwork). All (λ l. l ≤ longest_section) (nit_lengths m 0 (nit_parts d m))) d.network n there r.nit_lengths in
    let le = at_place (λ l. l ≤ longest_section) (nit_lengths n 0 (nit_parts d n)) j (nit_length n j p.part) lengths
    (nit_length_at n (nit_parts d n) j p.part p.at) in
    let fits = part_fits n p.part d.versions.nit j (last_of d n) is.id r.versions.nit all le
    (omega (arith, within, parts.most, is.most_streams)) (omega (arith, parts.most, is.most_streams)) in
    let bytes : kind_bytes d Nit j moment ≡ section_bytes (nit_section t) =
    ap (network_bytes_of d j) there ∙ ap (part_bytes n d.versions.nit j (last_of d n)) p.at ∙ ap (λ (v : NitView). section_bytes (nit_section v)) p.is in
    subst (λ (bs : List ℕ). AreNit bs t) (sym bytes) (read_nit t (subst NitFits p.is fits))

listing : (d : Described) (n : DescribedNetwork) (moment : ℕ) → IsInRange d → AreNitParts d.is_transponder n (network_streams d n) (nit_parts d n) →
    d.network ≡ Some n → ListStreams d n moment (said (say d n) 0 (nit_parts d n))
listing d n moment r parts there = record {
  all = length_said (say d n) 0 (nit_parts d n) ∙ sym (network_count d n there);
  read = λ j t e. read_at d n moment j t r parts there (said_at (say d n) (nit_parts d n) j t e);
  network = λ j t e. ap (λ (v : NitView). v.header.table_id_extension) (sym (said_at (say d n) (nit_parts d n) j t e).is);
  numbered = λ j t e. ap (λ (v : NitView). v.header.section_number) (sym (said_at (say d n) (nit_parts d n) j t e).is);
  last = λ j t e.
      let is : t.header.last_section_number ≡ last_of d n =
      ap (λ (v : NitView). v.header.last_section_number) (sym (said_at (say d n) (nit_parts d n) j t e).is) in
      omega (arith, is, parts.some, length_said (say d n) 0 (nit_parts d n));
  descriptors = λ j t e. ap (λ (v : NitView). v.network_descriptors) (sym (said_at (say d n) (nit_parts d n) j t e).is);
  streams = joined (say d n) (λ (t : NitView). t.transport_streams) network_stream_view 0 (nit_parts d n) (λ k part. refl)
      ∙ ap (map network_stream_view) parts.whole;
}

pub network_law : NetworkLaw
network_law d n moment r there = (said (say d n) 0 (nit_parts d n), listing d n moment r (nit_parts_law d r n there) there)
