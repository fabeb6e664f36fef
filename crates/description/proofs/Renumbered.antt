-- A section under a version is a function of its bytes under version 0.
use Rattle.std.proofs.Common.{◌≡◌, ℕ, ◌+◌, ◌-◌, ◌*◌, Bool, true, false, List, [], ◌∷◌, ◌++◌, length, get_or, set, take, Option, None, Some, refl, ap, sym, ◌∙◌, arith}
use Rattle.std.proofs.Common.{length-append, if◌then◌else◌, slice_get}
use Rattle.std.proofs.lemmas.List.{take_at}
use Rattle.bit_fields.specs.Fields.{bit}
use Rattle.psi_tables.specs.CheckWord.{check_word}
use Rattle.psi_tables.specs.Encoding.{section_bytes, with_crc, header_bytes, front_bytes, start_bytes, long_header_bytes, check_word_bytes}
use Rattle.psi_tables.specs.ProgramAssociation.{pat_section, pat_header, programs_bytes}
use Rattle.psi_tables.specs.ProgramMap.{pmt_body, pmt_section, pmt_header}
use Rattle.dvb_tables.specs.NetworkInformation.{nit_body, nit_section}
use Rattle.dvb_tables.specs.ServiceDescription.{sdt_body, sdt_section}
use Rattle.dvb_tables.specs.EventInformation.{eit_body, eit_section}
use Rattle.description_parts.specs.Described.{Described, DescribedNetwork, DescribedProgram}
use Rattle.description_parts.specs.Tables.{nit_parts, sdt_parts}
use Rattle.description_parts.specs.declared.network_stream.NetworkStream.{NetworkStream}
use Rattle.description.specs.declared.sub_table.SubTable.{SubTable}
use Rattle.description.specs.declared.sub_table.SubTable.TheVariants.{Pat, Nit, Sdt, Map, Events}
use Rattle.description.specs.SectionBytes.{part_header, pat_of, pmt_of, network_bytes, nit_of, sdt_of, eit_of, sdt_part_bytes}
use Rattle.description.specs.SubTables.{section_of}

-- The byte that has the version, the bytes with their check word, and another version in a section
abbrev pub version_byte : ℕ → ℕ
version_byte v = 0xC0 + (v * 2 + bit true)

abbrev framed : List ℕ → List ℕ
framed bytes = bytes ++ check_word_bytes (check_word bytes)

abbrev renumbered : ℕ → List ℕ → List ℕ
renumbered v [] = []
renumbered v (b ∷ bs) = framed (set (take (length (b ∷ bs) - 4) (b ∷ bs)) 5 (version_byte v))

abbrev pub numbered : ℕ → Bool → ℕ → ℕ → ℕ → ℕ → List ℕ → List ℕ
numbered table_id private extension version number last body = section_bytes
    (record { header = record { table_id = table_id; private_indicator = private; long = Some (part_header extension version number last) }; body = body })

word_length : (n : ℕ) → length (check_word_bytes n) ≡ 4
unfolding check_word_bytes
word_length n = refl

renumber : (table_id : ℕ) (private : Bool) (extension version number last : ℕ) (body : List ℕ)
    → numbered table_id private extension version number last body ≡ renumbered version (numbered table_id private extension 0 number last body)
unfolding section_bytes with_crc header_bytes front_bytes start_bytes long_header_bytes
renumber table_id private extension version number last body =
    let front : List ℕ = (start_bytes table_id true private (9 + length body) ++ long_header_bytes (part_header extension 0 number last)) ++ body in
    let word : List ℕ = check_word_bytes (check_word front) in
    let size : length front ≡ length (front ++ word) - 4 = omega (arith, length-append front word, word_length (check_word front)) in
    sym (ap (λ (bytes : List ℕ). framed (set bytes 5 (version_byte version))) (take_at front word (length (front ++ word) - 4) size))

-- The fifth byte after the table_id has it.
pub shows : (table_id : ℕ) (private : Bool) (extension version number last : ℕ) (body : List ℕ)
    → get_or (numbered table_id private extension version number last body) 5 0 ≡ version_byte version
unfolding section_bytes with_crc header_bytes front_bytes start_bytes long_header_bytes
shows table_id private extension version number last body = refl

streams : (n : DescribedNetwork) (v number last : ℕ) (o : Option (List NetworkStream))
    → (elim o as (λ _. List ℕ) [ None ↦ [] | Some part ↦ section_bytes (nit_section (nit_of n part v number last)) ])
    ≡ renumbered v (elim o as (λ _. List ℕ) [ None ↦ [] | Some part ↦ section_bytes (nit_section (nit_of n part 0 number last)) ])
unfolding nit_section nit_body
streams n v number last None = refl
streams n v number last (Some part) = renumber 0x40 true n.id v number last (nit_body (nit_of n part v number last))

network : (d : Described) (v number : ℕ) (o : Option DescribedNetwork)
    → (elim o as (λ _. List ℕ) [ None ↦ [] | Some n ↦ network_bytes n (nit_parts d n) v number ])
    ≡ renumbered v (elim o as (λ _. List ℕ) [ None ↦ [] | Some n ↦ network_bytes n (nit_parts d n) 0 number ])
network d v number None = refl
network d v number (Some n) = streams n v number (length (nit_parts d n) - 1) (slice_get (nit_parts d n) number)

part : (d : Described) (v number last : ℕ) (o : Option (List DescribedProgram))
    → (elim o as (λ _. List ℕ) [ None ↦ [] | Some ps ↦ section_bytes (sdt_section (sdt_of d ps v number last)) ])
    ≡ renumbered v (elim o as (λ _. List ℕ) [ None ↦ [] | Some ps ↦ section_bytes (sdt_section (sdt_of d ps 0 number last)) ])
unfolding sdt_section sdt_body
part d v number last None = refl
part d v number last (Some ps) = renumber 0x42 true d.transport_stream_id v number last (sdt_body (sdt_of d ps v number last))

services : (d : Described) (v number : ℕ) (b : Bool)
    → (if b then sdt_part_bytes d v number else []) ≡ renumbered v (if b then sdt_part_bytes d 0 number else [])
services d v number true = part d v number (length (sdt_parts d) - 1) (slice_get (sdt_parts d) number)
services d v number false = refl

program : (d : Described) (v : ℕ) (o : Option DescribedProgram)
    → (elim o as (λ _. List ℕ) [ None ↦ [] | Some q ↦ section_bytes (pmt_section (pmt_of d q v)) ])
    ≡ renumbered v (elim o as (λ _. List ℕ) [ None ↦ [] | Some q ↦ section_bytes (pmt_section (pmt_of d q 0)) ])
unfolding pmt_section pmt_header pmt_body
program d v None = refl
program d v (Some q) = renumber 2 false q.number v 0 0 (pmt_body (pmt_of d q v))

events : (d : Described) (moment v number : ℕ) (o : Option DescribedProgram)
    → (elim o as (λ _. List ℕ) [ None ↦ [] | Some q ↦ section_bytes (eit_section (eit_of d moment q v number)) ])
    ≡ renumbered v (elim o as (λ _. List ℕ) [ None ↦ [] | Some q ↦ section_bytes (eit_section (eit_of d moment q 0 number)) ])
unfolding eit_section eit_body
events d moment v number None = refl
events d moment v number (Some q) = renumber 0x4E true q.number v number 1 (eit_body (eit_of d moment q v number))

association : (d : Described) (v : ℕ) → section_bytes (pat_section (pat_of d v)) ≡ renumbered v (section_bytes (pat_section (pat_of d 0)))
unfolding pat_section pat_header
association d v = renumber 0 false d.transport_stream_id v 0 0 (programs_bytes (pat_of d v).programs)

again : (d : Described) (x : SubTable) (v number moment : ℕ) → section_of d x v number moment ≡ renumbered v (section_of d x 0 number moment)
again d Pat v number moment = association d v
again d Nit v number moment = network d v number d.network
again d Sdt v number moment = services d v number d.has_sdt
again d (Map p) v number moment = program d v (slice_get d.programs p)
again d (Events p) v number moment = events d moment v number (slice_get d.programs p)

-- Sections that are the same under version 0 are the same under each.
pub same_under : (d e : Described) (x : SubTable) (v number moment : ℕ) → section_of d x 0 number moment ≡ section_of e x 0 number moment
    → section_of d x v number moment ≡ section_of e x v number moment
same_under d e x v number moment same = again d x v number moment ∙ ap (renumbered v) same ∙ sym (again e x v number moment)
