-- The lengths of the bodies of tables
use Rattle.std.proofs.Common.{◌≡◌, ◌+◌, ◌/◌, ◌%◌, [], ◌∷◌, ◌++◌, length, arith, length-append}
use Rattle.dvb_tables.specs.Services.{services_bytes}
use Rattle.dvb_tables.specs.ServiceDescription.{SdtView, sdt_body}
use Rattle.dvb_tables.specs.TransportStreams.{transport_streams_bytes}
use Rattle.dvb_tables.specs.NetworkInformation.{NitView, nit_body, loop_length_bytes}
use Rattle.dvb_tables.specs.EventEntries.{events_bytes}
use Rattle.dvb_tables.specs.EventInformation.{EitView, eit_body, two_numbers}

pub sdt_body_length : (t : SdtView) → length (sdt_body t) ≡ 3 + length (services_bytes t.services)
unfolding sdt_body
sdt_body_length t = omega arith

pub nit_body_length : (t : NitView) → length (nit_body t) ≡ 4 + length t.network_descriptors + length (transport_streams_bytes t.transport_streams)
unfolding nit_body loop_length_bytes
nit_body_length t =
    let n = length t.network_descriptors in
    let loop = transport_streams_bytes t.transport_streams in
    let first = (0xF0 + n / 256) ∷ (n % 256) ∷ [] in
    let second = (0xF0 + length loop / 256) ∷ (length loop % 256) ∷ [] in
    omega (
      arith,
      length-append (first ++ t.network_descriptors ++ second) loop,
      length-append (first ++ t.network_descriptors) second,
      length-append first t.network_descriptors,
    )

pub eit_body_length : (t : EitView) → length (eit_body t) ≡ 6 + length (events_bytes t.events)
unfolding eit_body two_numbers
eit_body_length t = omega arith
