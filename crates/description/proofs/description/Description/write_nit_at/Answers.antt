use Rattle.std.proofs.Common.{◌≡◌, ◌≤◌, ◌-◌, ◌∙◌, ℕ, List, [], All, Option, None, Some, ap, length, slice_get, slice_range, sym, subst}
use Rattle.psi_tables.specs.Encoding.{section_bytes}
use Rattle.psi_tables.specs.declared.section.LongHeader.{LongHeader}
use Rattle.dvb_tables.specs.NetworkInformation.{nit_section}
use Rattle.description_parts.specs.Described.{DescribedNetwork}
use Rattle.description_parts.specs.Ranges.{longest_section}
use Rattle.description_parts.specs.Tables.{network_streams, nit_length, nit_lengths, nit_parts}
use Rattle.description_parts.specs.declared.network_stream.NetworkStream.{NetworkStream}
use Rattle.description_parts.proofs.Cuts.{none_of_places, part_of_places}
use Rattle.description_parts.proofs.NitParts.{nit_parts_law}
use Rattle.description.specs.SectionBytes.{network_loop, nit_of, part_header}
use Rattle.description.proofs.NetworkFacts.{of_some, viewed}
use Rattle.description.proofs.Pids.{at_place}
use Rattle.description.proofs.SectionBounds.{nit_length_at}
use Rattle.description.proofs.SectionCounts.{network_count}
use Rattle.description.proofs.description.Description.write_nit_at.Goals as goal

abbrev part_bytes : DescribedNetwork → ℕ → ℕ → ℕ → Option (List NetworkStream) → List ℕ
part_bytes n version number last o = elim o as (λ _. List ℕ) [ None ↦ [] | Some part ↦ section_bytes (nit_section (nit_of n part version number last)) ]

abbrev headed : DescribedNetwork → List NetworkStream → LongHeader → List ℕ
headed n part h = section_bytes (nit_section (record { header = h; network_descriptors = network_loop n h.section_number; transport_streams = viewed part }))

pub returns-in-None : goal.returns-in-None
returns-in-None c =
    let d = c.args.self.now in
    let n = c.args.network.now in
    let none = none_of_places (nit_parts d n) 0 c.args.section (sym c.nit_places.ensures.value ∙ c.in-None.is) in
    c.clear.ensures ∙ sym (ap (part_bytes n c.args.version c.args.section (length (nit_parts d n) - 1)) none)

pub write_nit-requires-clause-fits : goal.write_nit-requires-clause-fits
write_nit-requires-clause-fits c =
    let d = c.args.self.now in
    let n = c.args.network.now in
    let parts = nit_parts_law d c.keeps_ranges.ensures n c.requires.network in
    let at : slice_get (nit_parts d n) c.args.section ≡ Some (slice_range (network_streams d n) c.in-Some.begin c.in-Some.end) =
    part_of_places (network_streams d n) (nit_parts d n) 0 c.args.section c.in-Some.begin c.in-Some.end parts.whole (sym c.nit_places.ensures.value ∙ c.in-Some.is) in
    let all = of_some (λ m. All (λ l. l ≤ longest_section) (nit_lengths m 0 (nit_parts d m))) d.network n c.requires.network c.keeps_ranges.ensures.nit_lengths in
    let le = at_place (λ l. l ≤ longest_section) (nit_lengths n 0 (nit_parts d n)) c.args.section
    (nit_length n c.args.section (slice_range (network_streams d n) c.in-Some.begin c.in-Some.end)) all
    (nit_length_at n (nit_parts d n) c.args.section (slice_range (network_streams d n) c.in-Some.begin c.in-Some.end) at) in
    let number : c.part_header-header.result.section_number ≡ c.args.section = ap (λ (h : LongHeader). h.section_number) c.part_header-header.ensures in
    subst (λ (k : ℕ). nit_length n k (slice_range (network_streams d n) c.in-Some.begin c.in-Some.end) ≤ longest_section) (sym number) le

pub returns-in-Some : goal.returns-in-Some
returns-in-Some c =
    let d = c.args.self.now in
    let n = c.args.network.now in
    let part = slice_range (network_streams d n) c.in-Some.begin c.in-Some.end in
    let parts = nit_parts_law d c.keeps_ranges.ensures n c.requires.network in
    let at : slice_get (nit_parts d n) c.args.section ≡ Some part =
    part_of_places (network_streams d n) (nit_parts d n) 0 c.args.section c.in-Some.begin c.in-Some.end parts.whole (sym c.nit_places.ensures.value ∙ c.in-Some.is) in
    let last : c.saturating_sub-last.result ≡ length (nit_parts d n) - 1 =
    c.saturating_sub-last.ensures ∙ ap (λ (k : ℕ). k - 1) (c.network_sections.ensures.value ∙ network_count d n c.requires.network) in
    c.write_nit.ensures
    ∙ ap (headed n part) (c.part_header-header.ensures ∙ ap (part_header n.id c.args.version c.args.section) last)
    ∙ sym (ap (part_bytes n c.args.version c.args.section (length (nit_parts d n) - 1)) at)
