-- The sections of a program map begin in time, and so do the sections of present events and of following events.
use Rattle.std.proofs.Common.{◌≡◌, ◌∙◌, ℕ, suc, ◌+◌, ◌-◌, ◌*◌, ◌/◌, ◌%◌, ◌^◌, ◌<◌, ◌≤◌, ◌==◌, ◌&&◌, Bool, true, false, List, [], ◌∷◌, ◌++◌, length, take}
use Rattle.std.proofs.Common.{replicate}
use Rattle.std.proofs.Common.{map, slice_get, Option, Some, None, refl, sym, ap, ap₂, subst, arith, All, append-nil}
use Rattle.std.specs.Prelude.{is_some, ⊤}
use Rattle.std.specs.Option.{option_to_list}
use Rattle.std.proofs.lemmas.Option.{slice_get_within}
use Rattle.own_slots.specs.Slots.{own_slots}
use Rattle.own_slots.specs.Rounds.{starts}
use Rattle.pes_packet.specs.AccessUnits.{AccessUnit}
use Rattle.ts_packet.specs.PidList.{Entry, payload_of, pid_list}
use Rattle.slot_contents.specs.Contents.{Content, entries_in, run_bytes}
use Rattle.slot_contents.specs.RunLaws.{Fits}
use Rattle.slot_contents.proofs.Runs.{run_length, run_pid_list}
use Rattle.psi_tables.specs.Encoding.{front_bytes, header_bytes, long_header_bytes, section_bytes, start_bytes, with_crc}
use Rattle.psi_tables.specs.ProgramMap.{pmt_header, pmt_section}
use Rattle.dvb_tables.specs.EventInformation.{eit_section}
use Rattle.description_parts.specs.Described.{Described, DescribedProgram}
use Rattle.description_parts.specs.Ranges.{IsInRange}
use Rattle.description_parts.specs.Tables.{kind_lengths, kind_limit, map_length, scheduled_programs, section_count, section_lengths, table_count, table_kind}
use Rattle.description_parts.specs.Tables.{table_kinds, eit_place}
use Rattle.description_parts.specs.Tables.{table_limit, table_pid}
use Rattle.description_parts.specs.declared.table_kind.TableKind.{TableKind}
use Rattle.description_parts.specs.declared.table_kind.TableKind.TheVariants.{Eit, Nit, Pat, Pmt, Private, Sdt, Tdt}
use Rattle.description.specs.SectionBytes.{eit_bytes, kind_bytes, pmt_says, table_bytes}
use Rattle.slot_plan.specs.TableRounds.{section_starts}
use Rattle.slot_plan.specs.Promised.{Promised}
use Rattle.table_rounds.specs.Tables.{Table, moment_before, round_places}
use Rattle.table_rounds.specs.Payloads.{Begins, TableIsAlone}
use Rattle.pid_findings.specs.Views.{PidFinding}
use Rattle.demux.specs.Laws.{with_pid_at}
use Rattle.laws_run.specs.PidLaws.{packets_on}
use Rattle.laws_run.specs.Rounds.{sections_of_rounds}
use Rattle.laws_run.specs.Sections.{IsRecognized, filled_section, section_found, section_packets}
use Rattle.laws_run.specs.Sent.{each_found, sendings}
use Rattle.laws_run.proofs.TablesAndStreams.{tables_carry, tables_come_back}
use Rattle.mux_core.specs.Scheduled.{Scheduled}
use Rattle.mux_core.specs.Histories.{content_at, table_of}
use Rattle.mux_core.specs.Headline.{TableKept, UnitsKept}
use Rattle.mux_core.proofs.Whole.{contents_fit, headline}
use Rattle.monitor.specs.Begins.{found_on}
use Rattle.monitor.proofs.LatePlaces.{after, after_all}
use Rattle.laws_run.proofs.Between.{between}
use Rattle.laws_run.proofs.DistinguishableSections.{rounds_all, section_distinguishable}
use Rattle.laws_run.proofs.RunFindings.{has_places, has_room, is_run, one_table}
use Rattle.laws_run.proofs.Soundness.{as_reported}
use Rattle.laws_run.proofs.TableBegins.{made_distinguishable}
use Rattle.laws_run.proofs.TableIds.{table_id_of, text_id}
use Rattle.laws_run.proofs.TablesWritten.{IsMade, eit_there, some_there}
use Rattle.tr101290.specs.Intervals.{no_section}
use Rattle.tr101290.specs.Limits.{milliseconds}
use Rattle.tr101290.specs.Parts.{has_parts, part_in}
use Rattle.tr101290.specs.declared.intervals.TableTiming.TheVariants.{ConstantRate}
use Rattle.laws_view.specs.Tables.{errors_from, sections_of}
use Rattle.laws_view.proofs.LateEvents.{itself}
use Rattle.laws_view.proofs.PartErrors.{IsText, no_errors, same_sections, starts_with, without_first}
use Rattle.laws_view.proofs.PartStarts.{IsPlain, begins_part, chosen, chosen_there, part_after, part_slots}

-- 1. The part of each section

-- The kinds of tables that have parts
abbrev pub HasParts : TableKind → Type 0
HasParts Pat = ⊥
HasParts (Pmt p) = ⊤
HasParts Nit = ⊥
HasParts Sdt = ⊥
HasParts Eit = ⊤
HasParts Tdt = ⊥
HasParts (Private i) = ⊥

-- The part of a program map is its program_number, the part of events their section_number.
abbrev kind_part : Described → TableKind → ℕ → ℕ
kind_part d Pat section = 0
kind_part d (Pmt p) section = elim (slice_get d.programs p) as (λ _. ℕ) [ None ↦ 0 | Some program ↦ program.number / 256 * 256 + program.number % 256 ]
kind_part d Nit section = 0
kind_part d Sdt section = 0
kind_part d Eit section = (eit_place d section).1
kind_part d Tdt section = 0
kind_part d (Private i) section = 0

-- The section has this part, and so has the payload where it begins.
record IsOfPart (table_id part : ℕ) (text : List ℕ) : Type 0 where
  whole : part_in table_id text ≡ part
  first : part_after table_id (take 184 (0 ∷ (text ++ replicate 184 0xFF))) ≡ part

pmt_part : (d : Described) (o : Option DescribedProgram) (section : ℕ) → section < length (map (map_length d) (option_to_list o)) →
    IsOfPart 0x02 (elim o as (λ _. ℕ) [ None ↦ 0 | Some program ↦ program.number / 256 * 256 + program.number % 256 ])
    (elim o as (λ _. List ℕ) [ None ↦ [] | Some program ↦ section_bytes (pmt_section (pmt_says d program)) ])
unfolding section_bytes with_crc header_bytes front_bytes start_bytes long_header_bytes pmt_section pmt_header
pmt_part d None section within = absurd (omega (arith, within))
pmt_part d (Some p) section within = record { whole = refl; first = refl }

eit_part : (d : Described) (o : Option DescribedProgram) (number moment : ℕ) → is_some o ≡ true →
    IsOfPart 0x4E number (elim o as (λ _. List ℕ) [ None ↦ [] | Some program ↦ eit_bytes d moment program number ])
unfolding section_bytes with_crc header_bytes front_bytes start_bytes long_header_bytes eit_section
eit_part d None number moment there = absurd (cc)
eit_part d (Some p) number moment there = record { whole = refl; first = refl }

of_kind : (d : Described) (k : TableKind) (section moment : ℕ) → HasParts k → section < length (kind_lengths d k) →
    IsOfPart (table_id_of k) (kind_part d k section) (kind_bytes d k section moment)
of_kind d Pat section moment parts within = absurd parts
of_kind d (Pmt p) section moment parts within = pmt_part d (slice_get d.programs p) section within
of_kind d Nit section moment parts within = absurd parts
of_kind d Sdt section moment parts within = absurd parts
of_kind d Eit section moment parts within =
    let place : ℕ = (eit_place d section).0 in
    eit_part d (slice_get (scheduled_programs d) place) (eit_place d section).1 moment
    (some_there (scheduled_programs d) place (eit_there d section within).0)
of_kind d Tdt section moment parts within = absurd parts
of_kind d (Private i) section moment parts within = absurd parts

of_part : (d : Described) (t section moment : ℕ) (k : TableKind) → table_kind d t ≡ Some k → HasParts k → section < section_count d t →
    IsOfPart (table_id_of k) (kind_part d k section) (table_bytes d t section moment)
of_part d t section moment k is parts within =
    let lengths : section_lengths d t ≡ kind_lengths d k = rw is refl in
    let text : table_bytes d t section moment ≡ kind_bytes d k section moment = rw is refl in
    let inside : section < length (kind_lengths d k) = subst (λ (ls : List ℕ). section < length ls) lengths within in
    subst (IsOfPart (table_id_of k) (kind_part d k section)) (sym text) (of_kind d k section moment parts inside)

made : (k : TableKind) → HasParts k → IsMade k
made Pat parts = absurd parts
made (Pmt p) parts = tt
made Nit parts = absurd parts
made Sdt parts = absurd parts
made Eit parts = tt
made Tdt parts = absurd parts
made (Private i) parts = absurd parts

-- 2. A table in a run

pub parts_in_time : (d : Scheduled) (units : ℕ → List AccessUnit) (n limit t : ℕ) (k : TableKind) → IsInRange d.description →
    Promised d.description d.schedule →
    UnitsKept d units → n < 2 ^ 64 - 1 → table_kind d.description t ≡ Some k → HasParts k → kind_limit d.description k ≤ limit →
    milliseconds (table_pid d.description t) (table_id_of k) ≡ Some limit → has_parts (table_pid d.description t) (table_id_of k) ≡ true →
    errors_from (no_section (ConstantRate d.description.rate))
    (sections_of (table_pid d.description t) (table_id_of k) (found_on (table_pid d.description t) (run_bytes (content_at d units) 0 n))) ≡ []
unfolding filled_section
parts_in_time d units n limit t k r promised kept few is parts le m parted =
    ap (errors_from (no_section (ConstantRate rate))) same
    ∙ no_errors rate limit pid table_id some m parted Good n (no_section (ConstantRate rate)) texts (packets_on pid bytes) refl are in_time
  where
    rate : ℕ
    rate = d.description.rate

    some : 0 < rate
    some = omega (arith, r.least_rate)

    content : ℕ → Content
    content = content_at d units

    table : Table
    table = table_of d t

    pid : ℕ
    pid = table_pid d.description t

    table_id : ℕ
    table_id = table_id_of k

    bytes : List ℕ
    bytes = run_bytes content 0 n

    fits : Fits content
    fits = contents_fit d units r kept

    count : length bytes / 188 ≡ n
    count = let size : length bytes ≡ 188 * n = run_length content 0 n fits in omega (arith, size)

    there : t < table_count d.description
    there = slice_get_within (table_kinds d.description) t k is

    alone : TableIsAlone (table_of d t) content
    alone = one_table d units t r kept there

    texts : List (List ℕ)
    texts = sections_of_rounds table n

    rounds : List ℕ
    rounds = own_slots (starts table.own (round_places table.lengths) 0) 0 n

    given : All IsRecognized texts
    given = rounds_all IsRecognized table rounds
        (λ s j moment lt. section_distinguishable d.description t j moment r there (made_distinguishable d.description t k is (made k parts)) lt)

    Good : ℕ → Type 0
    Good part = (j : ℕ) × ((j < section_count d.description t) × (kind_part d.description k j ≡ part))

    are : All (IsText rate limit pid table_id some m parted Good) texts
    are = rounds_all (IsText rate limit pid table_id some m parted Good) table rounds (λ s j moment lt. record {
      table_is = text_id d.description t j moment k is (made k parts) lt;
      good = (j, (lt, sym (of_part d.description t j moment k is parts lt).whole));
    })

    plain : All (IsPlain table_id) texts
    plain = rounds_all (IsPlain table_id) table rounds
        (λ s j moment lt. let h = of_part d.description t j moment k is parts lt in h.first ∙ sym h.whole)

    kept_table : TableKept d t n bytes
    kept_table = (headline d units n r promised kept).tables t there

    wide : table_limit d.description t ≤ limit
    wide = let eq : table_limit d.description t ≡ kind_limit d.description k = rw is refl in omega (arith, eq, le)

    -- In each slot where the plan begins a section of the part, such a section begins.
    begin_there : (j part s : ℕ) → j < section_count d.description t → kind_part d.description k j ≡ part → s < n →
        section_starts d.description d.schedule t j s ≡ true → chosen (begins_part table_id part) pid content s ≡ true
    begin_there j part s within e lt y =
        let b : Begins table j s bytes = kept_table.begins j s within refl lt y in
        let h = of_part d.description t j (moment_before table (suc s)) k is parts within in
        let here : begins_part table_id part b.entry.packet ≡ true =
        ap₂ (λ (x : Bool) (p : ℕ). x && (p == part)) b.start (ap (part_after table_id) b.first ∙ h.first ∙ e) ∙ itself part in
        subst (λ (x : ℕ). chosen (begins_part table_id part) pid content x ≡ true) b.slot
        (chosen_there (begins_part table_id part) pid content 0 n b.number b.entry
        (ap (λ (es : List Entry). slice_get es b.number) (sym (run_pid_list pid n content fits)) ∙ b.listed) here)

    slots_of : ℕ → List ℕ
    slots_of part = own_slots (chosen (begins_part table_id part) pid content) 0 n

    in_time : (part : ℕ) → Good part → after (limit * rate) None (starts_with table_id part texts (packets_on pid bytes)) ≡ []
    in_time part (j, (within, e)) =
        ap (after (limit * rate) None) (part_slots table_id part pid n content texts (run_pid_list pid n content fits)
        (tables_carry table n content alone (has_places d t r there) (has_room d t r)) plain)
        ∙ without_first (limit * rate) 0 (slots_of part)
        (ap (after (limit * rate) (Some 0)) (sym (append-nil (slots_of part))) ∙ after_all rate limit (0 ∷ slots_of part ++ [])
        ∙ between rate (table_limit d.description t) limit (188 * n) [] (section_starts d.description d.schedule t j)
        (chosen (begins_part table_id part) pid content) 0 n 0 0 wide tt (omega arith) (omega arith) (omega arith)
        (λ s lt y. begin_there j part s within e (omega (arith, lt)) y) (kept_table.sections_recur j within))

    found : List PidFinding
    found = each_found section_found n (sendings section_packets texts (packets_on pid bytes))

    same : sections_of pid table_id (found_on pid bytes) ≡ sections_of pid table_id found
    same = same_sections pid table_id (found_on pid bytes) found (sym (as_reported pid bytes alone.no_null (omega (arith, count, few)))
        ∙ tables_come_back table n content (is_run d units n r kept few) alone (has_places d t r there) (has_room d t r) given)
