-- Each section of a sub-table has the version of the description.
use Rattle.std.proofs.Common.{◌≡◌, ℕ, zero, suc, ◌-◌, ◌*◌, ◌/◌, ◌%◌, ◌<◌, ◌==◌, ◌&&◌, Bool, true, false, List, [], length, map, slice_get, Option, None, Some}
use Rattle.std.proofs.Common.{option_map, option_and_then, IfSome, bytes_eq, if◌then◌else◌, inl, inr, refl, ap, sym, subst, ◌∙◌, arith, div-lt_iff_lt-mul}
use Rattle.std.proofs.lemmas.Bool.{cases_lt}
use Rattle.std.proofs.lemmas.List.{length-map}
use Rattle.std.proofs.lemmas.Option.{slice_get_within}
use Rattle.std.specs.Option.{option_to_list}
use Rattle.std.proofs.lemmas.Slice.Eq.{bytes_eq-Decides}
use Rattle.psi_tables.specs.Encoding.{section_bytes}
use Rattle.psi_tables.specs.ProgramAssociation.{pat_section, pat_header, programs_bytes}
use Rattle.psi_tables.specs.ProgramMap.{pmt_body, pmt_section, pmt_header}
use Rattle.dvb_tables.specs.NetworkInformation.{nit_body, nit_section}
use Rattle.dvb_tables.specs.ServiceDescription.{sdt_body, sdt_section}
use Rattle.dvb_tables.specs.EventInformation.{eit_body, eit_section}
use Rattle.description_parts.specs.Described.{Described, DescribedNetwork, DescribedProgram}
use Rattle.description_parts.specs.Ranges.{IsInRange, IsProgram}
use Rattle.description_parts.specs.Tables.{is_scheduled, scheduled_programs, nit_parts, sdt_parts, services_length, map_length, eit_place, table_kind, kind_lengths, section_count}
use Rattle.description_parts.specs.declared.network_stream.NetworkStream.{NetworkStream}
use Rattle.description_parts.specs.declared.table_kind.TableKind.{TableKind}
use Rattle.description_parts.specs.declared.table_kind.TableKind.TheVariants as kind
use Rattle.description.specs.declared.sub_table.SubTable.{SubTable}
use Rattle.description.specs.declared.sub_table.SubTable.TheVariants.{Pat, Nit, Sdt, Map, Events}
use Rattle.description.specs.SectionBytes.{pat_of, pmt_of, pmt_says, network_bytes, nit_of, sdt_of, eit_of, eit_version, eit_bytes, kind_bytes, table_bytes}
use Rattle.description.specs.SubTables.{scheduled_places, sub_table_in, sub_table_of, number_in, number_of, sub_table_number, sub_table_count, program_number_by, version_of, sections_in}
use Rattle.description.specs.SubTables.{section_of, unnumbered, same_below, shows_same}
use Rattle.description.specs.Versions.{shown_version, NumberedLaw, VersionedLaw}
use Rattle.description.proofs.Pids.{at_place}
use Rattle.description.proofs.Renumbered.{version_byte, numbered, shows, same_under}
use Rattle.description.proofs.ScheduledPlaces.{placed, passes}
use Rattle.description.proofs.SectionCounts.{eit_count}

-- The bytes of a section are those of its sub-table.
map_says : (d : Described) (o : Option DescribedProgram)
    → (elim o as (λ _. List ℕ) [ None ↦ [] | Some q ↦ section_bytes (pmt_section (pmt_says d q)) ])
    ≡ (elim o as (λ _. List ℕ) [ None ↦ [] | Some q ↦ section_bytes (pmt_section (pmt_of d q (program_number_by (λ p. p.pmt_version) o))) ])
map_says d None = refl
map_says d (Some q) = refl

abbrev eit_under : Described → ℕ → ℕ → ℕ → Option DescribedProgram → List ℕ
eit_under d moment version number o =
    elim o as (λ _. List ℕ) [ None ↦ [] | Some q ↦ section_bytes (eit_section (eit_of d moment q version number)) ]

events_say : (d : Described) (moment number : ℕ) (o : Option DescribedProgram)
    → (elim o as (λ _. List ℕ) [ None ↦ [] | Some q ↦ eit_bytes d moment q number ]) ≡ eit_under d moment (program_number_by (eit_version moment) o) number o
events_say d moment number None = refl
events_say d moment number (Some q) = refl

events_at : (d : Described) (section moment : ℕ) (x : SubTable) (o : Option ℕ) → slice_get (scheduled_places d) (eit_place d section).0 ≡ o → option_map Events o ≡ Some x →
    kind_bytes d kind.Eit section moment ≡ section_of d x (version_of d x moment) (eit_place d section).1 moment
events_at d section moment x None is e = absurd (cc)
events_at d section moment x (Some p) is e =
    let same : Events p ≡ x = cc in
    let at : slice_get (scheduled_programs d) (eit_place d section).0 ≡ slice_get d.programs p =
    placed d (eit_place d section).0 ∙ ap (option_and_then (slice_get d.programs)) is in
    let found : kind_bytes d kind.Eit section moment ≡ section_of d (Events p) (version_of d (Events p) moment) (eit_place d section).1 moment =
    ap (λ (o : Option DescribedProgram). elim o as (λ _. List ℕ) [ None ↦ [] | Some q ↦ eit_bytes d moment q (eit_place d section).1 ]) at
    ∙ events_say d moment (eit_place d section).1 (slice_get d.programs p) in
    found ∙ ap (λ (y : SubTable). section_of d y (version_of d y moment) (eit_place d section).1 moment) same

abbrev under_own : Described → ℕ → ℕ → SubTable → List ℕ
under_own d number moment y = section_of d y (version_of d y moment) number moment

pub kind_numbered : (d : Described) (k : TableKind) (section moment : ℕ) (x : SubTable) → sub_table_in d k section ≡ Some x →
    kind_bytes d k section moment ≡ section_of d x (version_of d x moment) (number_in d k section) moment
kind_numbered d kind.Pat section moment x is = let same : Pat ≡ x = cc in ap (under_own d section moment) same
kind_numbered d (kind.Pmt p) section moment x is =
    let same : Map p ≡ x = cc in
    map_says d (slice_get d.programs p) ∙ ap (under_own d section moment) same
kind_numbered d kind.Nit section moment x is = let same : Nit ≡ x = cc in ap (under_own d section moment) same
kind_numbered d kind.Sdt section moment x is = let same : Sdt ≡ x = cc in ap (under_own d section moment) same
kind_numbered d kind.Eit section moment x is = events_at d section moment x (slice_get (scheduled_places d) (eit_place d section).0) refl is
kind_numbered d kind.Tdt section moment x is = absurd (cc)
kind_numbered d (kind.Private i) section moment x is = absurd (cc)

-- A section of the EIT that is of no program has no bytes.
no_events : (d : Described) (section moment : ℕ) → sub_table_in d kind.Eit section ≡ None → kind_bytes d kind.Eit section moment ≡ []
no_events d section moment is = by_place (slice_get (scheduled_places d) (eit_place d section).0) refl is
  where
    by_place : (o : Option ℕ) → slice_get (scheduled_places d) (eit_place d section).0 ≡ o → option_map Events o ≡ None → kind_bytes d kind.Eit section moment ≡ []
    by_place None at e =
        let none : slice_get (scheduled_programs d) (eit_place d section).0 ≡ None =
        placed d (eit_place d section).0 ∙ ap (option_and_then (slice_get d.programs)) at in
        ap (λ (o : Option DescribedProgram). elim o as (λ _. List ℕ) [ None ↦ [] | Some q ↦ eit_bytes d moment q (eit_place d section).1 ]) none
    by_place (Some p) at e = absurd (cc)

pub no_bytes : (d : Described) (k : TableKind) (section moment : ℕ) → sub_table_in d k section ≡ None → (k ≡ kind.Tdt → ⊥) → ((i : ℕ) → k ≡ kind.Private i → ⊥)
    → kind_bytes d k section moment ≡ []
no_bytes d kind.Pat section moment is clock private = absurd (cc)
no_bytes d (kind.Pmt p) section moment is clock private = absurd (cc)
no_bytes d kind.Nit section moment is clock private = absurd (cc)
no_bytes d kind.Sdt section moment is clock private = absurd (cc)
no_bytes d kind.Eit section moment is clock private = no_events d section moment is
no_bytes d kind.Tdt section moment is clock private = absurd (clock refl)
no_bytes d (kind.Private i) section moment is clock private = absurd (private i refl)

by_kind : (d : Described) (section moment : ℕ) (x : SubTable) (o : Option TableKind) → option_and_then (λ k. sub_table_in d k section) o ≡ Some x →
    (elim o as (λ _. List ℕ) [ None ↦ [] | Some k ↦ kind_bytes d k section moment ])
    ≡ section_of d x (version_of d x moment) (elim o as (λ _. ℕ) [ None ↦ section | Some k ↦ number_in d k section ]) moment
by_kind d section moment x None is = absurd (cc)
by_kind d section moment x (Some k) is = kind_numbered d k section moment x is

table_numbered : (d : Described) (t section moment : ℕ) (x : SubTable) → sub_table_of d t section ≡ Some x →
    table_bytes d t section moment ≡ section_of d x (version_of d x moment) (number_of d t section) moment
table_numbered d t section moment x is = by_kind d section moment x (table_kind d t) is

-- A section with bytes shows its version.
byte_version : (v : ℕ) → v < 32 → version_byte v / 2 % 32 ≡ v
byte_version v small = omega (arith, small)

shows_byte : (table_id : ℕ) (private : Bool) (extension v number last : ℕ) (body : List ℕ) → v < 32
    → shown_version (numbered table_id private extension v number last body) ≡ v
shows_byte table_id private extension v number last body small =
    ap (λ (b : ℕ). b / 2 % 32) (shows table_id private extension v number last body) ∙ byte_version v small

abbrev Shows : ℕ → List ℕ → Type 0
Shows v bytes = 0 < length bytes → shown_version bytes ≡ v

shows_pat : (d : Described) (v : ℕ) → v < 32 → Shows v (section_bytes (pat_section (pat_of d v)))
unfolding pat_section pat_header
shows_pat d v small = λ some. shows_byte 0 false d.transport_stream_id v 0 0 (programs_bytes (pat_of d v).programs) small

shows_streams : (n : DescribedNetwork) (v number last : ℕ) (o : Option (List NetworkStream)) → v < 32
    → Shows v (elim o as (λ _. List ℕ) [ None ↦ [] | Some part ↦ section_bytes (nit_section (nit_of n part v number last)) ])
unfolding nit_section
shows_streams n v number last None small = λ some. absurd (omega (arith, some))
shows_streams n v number last (Some part) small = λ some. shows_byte 0x40 true n.id v number last (nit_body (nit_of n part v number last)) small

shows_nit : (d : Described) (v number : ℕ) (o : Option DescribedNetwork) → v < 32
    → Shows v (elim o as (λ _. List ℕ) [ None ↦ [] | Some n ↦ network_bytes n (nit_parts d n) v number ])
shows_nit d v number None small = λ some. absurd (omega (arith, some))
shows_nit d v number (Some n) small = shows_streams n v number (length (nit_parts d n) - 1) (slice_get (nit_parts d n) number) small

shows_part : (d : Described) (v number last : ℕ) (b : Bool) (o : Option (List DescribedProgram)) → v < 32
    → Shows v (if b then elim o as (λ _. List ℕ) [ None ↦ [] | Some ps ↦ section_bytes (sdt_section (sdt_of d ps v number last)) ] else [])
unfolding sdt_section
shows_part d v number last false o small = λ some. absurd (omega (arith, some))
shows_part d v number last true None small = λ some. absurd (omega (arith, some))
shows_part d v number last true (Some ps) small = λ some. shows_byte 0x42 true d.transport_stream_id v number last (sdt_body (sdt_of d ps v number last)) small

shows_map : (d : Described) (v : ℕ) (o : Option DescribedProgram) → v < 32
    → Shows v (elim o as (λ _. List ℕ) [ None ↦ [] | Some q ↦ section_bytes (pmt_section (pmt_of d q v)) ])
unfolding pmt_section pmt_header
shows_map d v None small = λ some. absurd (omega (arith, some))
shows_map d v (Some q) small = λ some. shows_byte 2 false q.number v 0 0 (pmt_body (pmt_of d q v)) small

shows_events : (d : Described) (moment v number : ℕ) (o : Option DescribedProgram) → v < 32 → Shows v (eit_under d moment v number o)
unfolding eit_section
shows_events d moment v number None small = λ some. absurd (omega (arith, some))
shows_events d moment v number (Some q) small = λ some. shows_byte 0x4E true q.number v number 1 (eit_body (eit_of d moment q v number)) small

shows_of : (d : Described) (x : SubTable) (v number moment : ℕ) → v < 32 → Shows v (section_of d x v number moment)
shows_of d Pat v number moment small = shows_pat d v small
shows_of d Nit v number moment small = shows_nit d v number d.network small
shows_of d Sdt v number moment small = shows_part d v number (length (sdt_parts d) - 1) d.has_sdt (slice_get (sdt_parts d) number) small
shows_of d (Map p) v number moment small = shows_map d v (slice_get d.programs p) small
shows_of d (Events p) v number moment small = shows_events d moment v number (slice_get d.programs p) small

-- Each version has five bits.
pmt_below : (d : Described) (p : ℕ) (o : Option DescribedProgram) → slice_get d.programs p ≡ o → IsInRange d → program_number_by (λ q. q.pmt_version) o < 32
pmt_below d p None is r = omega arith
pmt_below d p (Some q) is r = (at_place IsProgram d.programs p q r.programs is).pmt_version

eit_below : (moment : ℕ) (o : Option DescribedProgram) → program_number_by (eit_version moment) o < 32
eit_below moment None = omega arith
eit_below moment (Some q) = omega arith

pub version_below : (d : Described) (x : SubTable) (moment : ℕ) → IsInRange d → version_of d x moment < 32
version_below d Pat moment r = r.versions.pat
version_below d Nit moment r = r.versions.nit
version_below d Sdt moment r = r.versions.sdt
version_below d (Map p) moment r = pmt_below d p (slice_get d.programs p) refl r
version_below d (Events p) moment r = eit_below moment (slice_get d.programs p)

pub numbered_law : NumberedLaw
numbered_law d t section moment x is =
    let bytes = table_numbered d t section moment x is in
    record {
      bytes = bytes;
      shown = λ r. subst (Shows (version_of d x moment)) (sym bytes)
          (shows_of d x (version_of d x moment) (number_of d t section) moment (version_below d x moment r));
      below = version_below d x moment;
    }

-- A section of a table is one of its sub-table's.
abbrev place_in : Bool → ℕ → ℕ → ℕ × ℕ
place_in b n section = if b then (section % n, section / n) else (section / 2, section % 2)

number_below : (b : Bool) (n section : ℕ) → section < 2 * n → (place_in b n section).1 < 2
number_below true n section lt = (div-lt_iff_lt-mul (omega (arith, lt))).1 lt
number_below false n section lt = omega arith

abbrev pub two_of : Bool → ℕ
two_of b = if b then 2 else 0

two : (b : Bool) → b ≡ true → two_of b ≡ 2
two true e = refl
two false e = absurd (cc)

abbrev pub sections_of : Described → Option DescribedProgram → ℕ
sections_of d o = elim o [ None ↦ 0 | Some q ↦ two_of (is_scheduled d.has_eit q) ]

two_if : (d : Described) (o : Option DescribedProgram) → option_map (is_scheduled d.has_eit) o ≡ Some true → sections_of d o ≡ 2
two_if d None e = absurd (cc)
two_if d (Some q) e = two (is_scheduled d.has_eit q) (cc)

events_below : (d : Described) (section : ℕ) (x : SubTable) (o : Option ℕ) → slice_get (scheduled_places d) (eit_place d section).0 ≡ o → option_map Events o ≡ Some x →
    section < length (kind_lengths d kind.Eit) → (eit_place d section).1 < sections_in d x
events_below d section x None at e lt = absurd (cc)
events_below d section x (Some p) at e lt =
    let same : Events p ≡ x = cc in
    let two : sections_in d (Events p) ≡ 2 = two_if d (slice_get d.programs p)
    (passes (is_scheduled d.has_eit) d.programs (eit_place d section).0 p at) in
    let below : (eit_place d section).1 < 2 = number_below d.is_transponder (length (scheduled_programs d)) section (omega (arith, eit_count d, lt)) in
    subst (λ (y : SubTable). (eit_place d section).1 < sections_in d y) same (subst (λ (n : ℕ). (eit_place d section).1 < n) (sym two) below)

kind_below : (d : Described) (k : TableKind) (section : ℕ) (x : SubTable) → section < length (kind_lengths d k) → sub_table_in d k section ≡ Some x →
    number_in d k section < sections_in d x
kind_below d kind.Pat section x lt is = let same : Pat ≡ x = cc in subst (λ (y : SubTable). section < sections_in d y) same lt
kind_below d (kind.Pmt p) section x lt is = let same : Map p ≡ x = cc in subst (λ (y : SubTable). section < sections_in d y) same lt
kind_below d kind.Nit section x lt is = let same : Nit ≡ x = cc in subst (λ (y : SubTable). section < sections_in d y) same lt
kind_below d kind.Sdt section x lt is =
    let same : Sdt ≡ x = cc in
    subst (λ (y : SubTable). section < sections_in d y) same (omega (arith, lt, length-map (sdt_parts d) (services_length d)))
kind_below d kind.Eit section x lt is = events_below d section x (slice_get (scheduled_places d) (eit_place d section).0) refl is lt
kind_below d kind.Tdt section x lt is = absurd (cc)
kind_below d (kind.Private i) section x lt is = absurd (cc)

of_table : (d : Described) (section : ℕ) (x : SubTable) (o : Option TableKind)
    → section < length (elim o as (λ _. List ℕ) [ None ↦ [] | Some k ↦ kind_lengths d k ]) → option_and_then (λ k. sub_table_in d k section) o ≡ Some x →
    (elim o as (λ _. ℕ) [ None ↦ section | Some k ↦ number_in d k section ]) < sections_in d x
of_table d section x None lt is = absurd (cc)
of_table d section x (Some k) lt is = kind_below d k section x lt is

pub number_within : (d : Described) (t section : ℕ) (x : SubTable) → section < section_count d t → sub_table_of d t section ≡ Some x →
    number_of d t section < sections_in d x
number_within d t section x lt is = of_table d section x (table_kind d t) lt is

-- Its number is below 131.
program_at : (d : Described) (p : ℕ) (o : Option DescribedProgram) → slice_get d.programs p ≡ o → (o ≡ None → ⊥) → IsInRange d → p < 64
program_at d p None at some r = absurd (some refl)
program_at d p (Some q) at some r = omega (arith, slice_get_within d.programs p q at, r.most_programs)

pub no_map : (d : Described) (o : Option DescribedProgram) → 0 < length (map (map_length d) (option_to_list o)) → o ≡ None → ⊥
no_map d None some e = omega (arith, some)
no_map d (Some p) some e = absurd (cc)

pub no_section : (d : Described) (o : Option DescribedProgram) → 0 < sections_of d o → o ≡ None → ⊥
no_section d None some e = omega (arith, some)
no_section d (Some p) some e = absurd (cc)

below_all : (d : Described) (x : SubTable) → IsInRange d → 0 < sections_in d x → sub_table_number x < sub_table_count
below_all d Pat r some = omega arith
below_all d Nit r some = omega arith
below_all d Sdt r some = omega arith
below_all d (Map p) r some =
    omega (arith, program_at d p (slice_get d.programs p) refl (no_map d (slice_get d.programs p) some) r)
below_all d (Events p) r some =
    omega (arith, program_at d p (slice_get d.programs p) refl (no_section d (slice_get d.programs p) some) r)

pub sub_table_below : (d : Described) (t section : ℕ) (o : Option SubTable) → IsInRange d → section < section_count d t → sub_table_of d t section ≡ o →
    IfSome o (λ x. sub_table_number x < sub_table_count)
sub_table_below d t section None r lt is = tt
sub_table_below d t section (Some x) r lt is = below_all d x r (omega (arith, number_within d t section x lt is))

-- Descriptions that show the same have the same sections.
both : (b c : Bool) → (b && c) ≡ true → (b ≡ true) × (c ≡ true)
both true true e = (refl, refl)
both true false e = absurd (cc)
both false c e = absurd (cc)

below_same : (f g : ℕ → List ℕ) (n k : ℕ) → same_below f g n ≡ true → k < n → f k ≡ g k
below_same f g zero k e lt = absurd (omega (arith, lt))
below_same f g (suc n) k e lt =
    let each = both (same_below f g n) (bytes_eq (f n) (g n)) e in
    elim (cases_lt k n) [
      | inl less ↦ below_same f g n k each.0 less
      | inr past ↦
          let here : n ≡ k = omega (arith, past, lt) in
          let last : f n ≡ g n = (bytes_eq-Decides (f n) (g n)).0 each.1 in
          subst (λ (m : ℕ). f m ≡ g m) here last
    ]

shown_alike : (d e : Described) (x : SubTable) (moment number : ℕ) → shows_same d e x moment ≡ true → number < sections_in d x →
    section_of d x 0 number moment ≡ section_of e x 0 number moment
shown_alike d e x moment number same lt =
    below_same (unnumbered d x moment) (unnumbered e x moment) (sections_in d x) number
    (both (sections_in d x == sections_in e x) (same_below (unnumbered d x moment) (unnumbered e x moment) (sections_in d x)) same).1 lt

pub versioned_law : VersionedLaw
versioned_law d e t section moment x lt own other numbers same versions =
    let below = number_within d t section x lt own in
    let alike = same_under d e x (version_of d x moment) (number_of d t section) moment
    (shown_alike d e x moment (number_of d t section) same below) in
    table_numbered d t section moment x own ∙ alike
    ∙ ap (λ (v : ℕ). section_of e x v (number_of d t section) moment) versions
    ∙ ap (λ (n : ℕ). section_of e x (version_of e x moment) n moment) numbers
    ∙ sym (table_numbered e t section moment x other)
