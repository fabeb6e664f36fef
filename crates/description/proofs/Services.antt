-- The sections of the SDT are read as the description's services.
use Rattle.std.proofs.Common.{◌≡◌, ℕ, ◌-◌, ◌<◌, ◌≤◌, Bool, true, false, List, [], length, map, get_or, slice_get, Option, Some, All, if◌then◌else◌}
use Rattle.std.proofs.Common.{None, refl, ap, sym, subst, ◌∙◌, arith}
use Rattle.std.proofs.Math.Nat.{le_trans}
use Rattle.std.proofs.lemmas.List.{length-map}
use Rattle.std.proofs.lemmas.List.Elements.{All-map}
use Rattle.std.proofs.lemmas.Option.{slice_get_within}
use Rattle.psi_tables.specs.Encoding.{section_bytes}
use Rattle.dvb_tables.specs.Fits.{ServiceFits}
use Rattle.dvb_tables.specs.Laws.{SdtFits}
use Rattle.dvb_tables.specs.ServiceDescription.{SdtView, sdt_at, sdt_section}
use Rattle.dvb_tables.proofs.BodyLengths.{sdt_body_length}
use Rattle.dvb_tables.proofs.TablesWritten.{sdt_written}
use Rattle.description_parts.specs.Described.{Described, DescribedProgram}
use Rattle.description_parts.specs.Ranges.{IsInRange, IsProgram, longest_section}
use Rattle.description_parts.specs.SdtParts.{AreSdtParts}
use Rattle.description_parts.specs.Tables.{most_bytes, sdt_parts, sdt_length, services_length}
use Rattle.description_parts.specs.declared.table_kind.TableKind.TheVariants.{Sdt}
use Rattle.description_parts.proofs.RoomLengths.{room_least}
use Rattle.description_parts.proofs.SdtParts.{sdt_parts_law}
use Rattle.description.specs.SectionBytes.{kind_bytes, sdt_bytes, sdt_says, service_says}
use Rattle.description.specs.Services.{AreSdt, ListServices, ServicesLaw}
use Rattle.description.proofs.Pids.{at_place, get_map}
use Rattle.description.proofs.SaidParts.{IsSaid, joined, length_said, read_again, said, said_at}
use Rattle.description.proofs.SectionBounds.{services_size}

-- The numbers of a section have room in their fields.
service_fits : (has_eit : Bool) (p : DescribedProgram) → IsProgram p → ServiceFits (service_says has_eit p)
service_fits has_eit p is = record {
  service_id = omega (arith, is.most_number);
  descriptors = omega (arith, is.service_descriptors.fits);
}

part_fits : (d : Described) (part : List DescribedProgram) (number last : ℕ) → IsInRange d → All IsProgram part → sdt_length part ≤ longest_section →
    number < 256 → last < 256 → SdtFits (sdt_says d part number last)
part_fits d part number last r all le n l = record {
  header = record {
    table_id_extension = omega (arith, r.transport_stream_id);
    version_number = omega (arith, r.versions.sdt);
    section_number = omega (arith, n);
    last_section_number = omega (arith, l);
  };
  original_network_id = omega (arith, r.original_network_id);
  services = All-map ServiceFits (service_says d.has_eit) part (λ k p lt. service_fits d.has_eit (get_or part k p) (all k p lt));
  section_length = omega (arith, sdt_body_length (sdt_says d part number last), services_size d.has_eit part, le);
}

read_sdt : (t : SdtView) → SdtFits t → AreSdt (section_bytes (sdt_section t)) t
read_sdt t fits = let is = sdt_written t fits in read_again (sdt_section t) sdt_at t is.writable is.read

abbrev part_bytes : Described → ℕ → ℕ → Option (List DescribedProgram) → List ℕ
part_bytes d j last o = elim o as (λ _. List ℕ) [ None ↦ [] | Some part ↦ section_bytes (sdt_section (sdt_says d part j last)) ]

services_read : (b : Bool) (bytes : List ℕ) (t : SdtView) → b ≡ true → AreSdt bytes t → AreSdt (if b then bytes else []) t
services_read true bytes t is h = h
services_read false bytes t is h = absurd (cc)

abbrev last_of : Described → ℕ
last_of d = length (sdt_parts d) - 1

abbrev say : Described → ℕ → List DescribedProgram → SdtView
say d number part = sdt_says d part number (last_of d)

read_at : (d : Described) (moment j : ℕ) (t : SdtView) → IsInRange d → AreSdtParts d.is_transponder d.programs (sdt_parts d) → d.has_sdt ≡ true →
    IsSaid (say d) j (slice_get (sdt_parts d) j) t → AreSdt (kind_bytes d Sdt j moment) t
read_at d moment j t r parts there p =
    let within = slice_get_within (sdt_parts d) j p.part p.at in
    let all = at_place (All IsProgram) (sdt_parts d) j p.part parts.programs p.at in
    let room = at_place (λ l. l ≤ longest_section) (map (services_length d) (sdt_parts d)) j (services_length d p.part) (r.sdt_lengths there)
    (get_map (services_length d) (sdt_parts d) j p.part p.at) in
    let le = le_trans (room_least most_bytes d.rooms.sdt (sdt_length p.part)) room in
    let fits = part_fits d p.part j (last_of d) r all le (omega (arith, within, parts.most, r.most_programs)) (omega (arith, parts.most, r.most_programs)) in
    let bytes : sdt_bytes d j ≡ section_bytes (sdt_section t) =
    ap (part_bytes d j (last_of d)) p.at ∙ ap (λ (v : SdtView). section_bytes (sdt_section v)) p.is in
    services_read d.has_sdt (sdt_bytes d j) t there (subst (λ (bs : List ℕ). AreSdt bs t) (sym bytes) (read_sdt t (subst SdtFits p.is fits)))

listing : (d : Described) (moment : ℕ) → IsInRange d → AreSdtParts d.is_transponder d.programs (sdt_parts d) → d.has_sdt ≡ true →
    ListServices d moment (said (say d) 0 (sdt_parts d))
listing d moment r parts there = record {
  all = length_said (say d) 0 (sdt_parts d) ∙ sym (length-map (sdt_parts d) (services_length d));
  read = λ j t e. read_at d moment j t r parts there (said_at (say d) (sdt_parts d) j t e);
  numbered = λ j t e. ap (λ (v : SdtView). v.header.section_number) (sym (said_at (say d) (sdt_parts d) j t e).is);
  last = λ j t e.
      let is : t.header.last_section_number ≡ last_of d =
      ap (λ (v : SdtView). v.header.last_section_number) (sym (said_at (say d) (sdt_parts d) j t e).is) in
      omega (arith, is, parts.some, length_said (say d) 0 (sdt_parts d));
  services = joined (say d) (λ (t : SdtView). t.services) (service_says d.has_eit) 0 (sdt_parts d) (λ k part. refl) ∙ ap (map (service_says d.has_eit)) parts.whole;
}

pub services_law : ServicesLaw
services_law d moment r there = (said (say d) 0 (sdt_parts d), listing d moment r (sdt_parts_law d r) there)
