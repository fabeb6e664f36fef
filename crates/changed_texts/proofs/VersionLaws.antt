-- The version that each sub-table of the next texts shows
use Rattle.std.proofs.Common.{◌≡◌, ℕ, zero, suc, ◌+◌, ◌-◌, ◌%◌, ◌<◌, ◌≤◌, ◌==◌, ◌&&◌, ◌||◌, not, Bool, true, false, List, [], ◌∷◌, length, map, Some, None}
use Rattle.std.proofs.Common.{slice_get, slice_index_or, bytes_eq, IsTrue, refl, ap, ap₂, sym, subst, ◌∙◌, arith, All, if◌then◌else◌}
use Rattle.std.proofs.lemmas.List.{length-map}
use Rattle.std.proofs.lemmas.List.Elements.{All-head, All-tail}
use Rattle.description_parts.specs.Described.{Described, DescribedProgram}
use Rattle.description_parts.specs.Ranges.{IsInRange, IsProgram}
use Rattle.description_parts.specs.Tables.{section_packets, packets_of_section, is_scheduled, kind_lengths, sdt_parts, services_length}
use Rattle.description_parts.specs.declared.table_kind.TableKind.{TableKind}
use Rattle.description_parts.specs.declared.table_kind.TableKind.TheVariants as kind
use Rattle.description.proofs.SameTables.{lengths_bare}
use Rattle.description.specs.SectionBytes.{eit_version, counted_events}
use Rattle.description.specs.SubTables.{sub_table_number, numbered_sub_table, program_number_by, count_of, version_of, shows_same, unnumbered}
use Rattle.description.specs.SubTables.{sections_in, same_below}
use Rattle.description.specs.Versions.{without_number, without_versions, SameTablesLaw, HasSameTables, CountedLaw, CountLaw, VersionedLaw}
use Rattle.description.specs.declared.sub_table.SubTable.{SubTable}
use Rattle.description.specs.declared.sub_table.SubTable.TheVariants.{Pat, Nit, Sdt, Map, Events}
use Rattle.changed_texts.specs.Fixed.{fixed_program, fixed_stream, fixed_table}
use Rattle.changed_texts.specs.TextFaults.{IsTextOf}
use Rattle.changed_texts.specs.Versions.{kept_count, keeps_version, next_count, next_texts, NextVersionLaw, RisesLaw, StaysLaw}
use Rattle.changed_texts.specs.Versions.{SameTextsLaw, NextRangeLaw, NextTextLaw}
use Rattle.changed_texts.proofs.Counts.{has_place, numbered_number, same_counts, range_counts, count_set}

-- Versions are below 32.
map_below : (ps : List DescribedProgram) (i : ℕ) → All IsProgram ps → program_number_by (λ q. q.pmt_version) (slice_get ps i) < 32
map_below [] i h = omega arith
map_below (p ∷ ps) zero h = (All-head IsProgram p ps h).pmt_version
map_below (p ∷ ps) (suc i) h = map_below ps i (All-tail IsProgram p ps h)

events_below : (moment : ℕ) (ps : List DescribedProgram) (i : ℕ) → program_number_by (eit_version moment) (slice_get ps i) < 32
events_below moment [] i = omega arith
events_below moment (p ∷ ps) zero = omega arith
events_below moment (p ∷ ps) (suc i) = events_below moment ps i

pub version_below : (d : Described) (x : SubTable) (moment : ℕ) → IsInRange d → version_of d x moment < 32
version_below d Pat moment h = h.versions.pat
version_below d Nit moment h = h.versions.nit
version_below d Sdt moment h = h.versions.sdt
version_below d (Map p) moment h = map_below d.programs p h.programs
version_below d (Events p) moment h = events_below moment d.programs p

-- The version of events is their number and what is counted at the moment.
counted_on : (c k : ℕ) → (c + k) % 32 ≡ (c + (0 + k) % 32) % 32
counted_on c k = omega arith

events_counted : (moment : ℕ) (ps : List DescribedProgram) (i : ℕ) → program_number_by (eit_version moment) (slice_get ps i)
    ≡ (program_number_by (λ q. q.eit_count) (slice_get ps i) + program_number_by (eit_version moment) (slice_get (map without_number ps) i)) % 32
events_counted moment [] i = refl
events_counted moment (p ∷ ps) zero = counted_on p.eit_count (counted_events moment p)
events_counted moment (p ∷ ps) (suc i) = events_counted moment ps i

-- The next number shows the next version.
shown_events : (b : Bool) (v c k : ℕ) → v < 32 → k < 32
    → ((if b then (v + c + 32 - (c + k) % 32) % 32 else ((v + c + 32 - (c + k) % 32) % 32 + 1) % 32) + k) % 32 ≡ (if b then v else (v + 1) % 32)
shown_events true v c k h l = omega (arith, h, l)
shown_events false v c k h l = omega (arith, h, l)

shown_count : (b : Bool) (v c : ℕ) → v < 32
    → (if b then (v + c + 32 - c) % 32 else ((v + c + 32 - c) % 32 + 1) % 32) ≡ (if b then v else (v + 1) % 32)
shown_count true v c h = omega (arith, h)
shown_count false v c h = omega (arith, h)

pub shown : (new next : Described) (y : SubTable) (v moment : ℕ) (b : Bool) → v < 32 → without_versions next ≡ without_versions new
    → count_of next y ≡ (if b then (v + count_of new y + 32 - version_of new y moment) % 32
    else ((v + count_of new y + 32 - version_of new y moment) % 32 + 1) % 32)
    → version_of next y moment ≡ (if b then v else (v + 1) % 32)
shown new next Pat v moment b low same is = is ∙ shown_count b v new.versions.pat low
shown new next Nit v moment b low same is = is ∙ shown_count b v new.versions.nit low
shown new next Sdt v moment b low same is = is ∙ shown_count b v new.versions.sdt low
shown new next (Map p) v moment b low same is = is ∙ shown_count b v (count_of new (Map p)) low
shown new next (Events p) v moment b low same is =
    let c = count_of new (Events p) in
    let k = program_number_by (eit_version moment) (slice_get (map without_number new.programs) p) in
    let now : version_of new (Events p) moment ≡ (c + k) % 32 = events_counted moment new.programs p in
    events_counted moment next.programs p
    ∙ ap (λ (d : Described). (count_of next (Events p) + program_number_by (eit_version moment) (slice_get d.programs p)) % 32) same
    ∙ ap (λ (n : ℕ). (n + k) % 32) is
    ∙ ap (λ (w : ℕ). ((if b then (v + c + 32 - w) % 32 else ((v + c + 32 - w) % 32 + 1) % 32) + k) % 32) now
    ∙ shown_events b v c k low (events_below moment (map without_number new.programs) p)

pub next_version_law : CountedLaw → CountLaw → SameTablesLaw → NextVersionLaw
next_version_law counted law tables old new t section x moment sent ranges new_ranges within of =
    let place = has_place law new t section x new_ranges within of in
    let count = λ (n : ℕ). next_count old new (numbered_sub_table n) moment sent in
    let set = count_set counted law tables count new t section x place within of in
    let is = set ∙ ap (λ y. next_count old new y moment sent) (numbered_number x place) in
    shown new (next_texts old new moment sent) x (version_of old x moment) moment (keeps_version old new x moment sent)
    (version_below old x moment ranges) (same_counts counted count new) is

-- Another version
another : (v : ℕ) → v < 32 → (v + 1) % 32 ≡ v → ⊥
another v h same = omega (arith, h, same)

not_kept : (a b : Bool) → a ≡ false → b ≡ true → (a || not b) ≡ false
not_kept true b h k = absurd (cc)
not_kept false true h k = refl
not_kept false false h k = absurd (cc)

pub rises_law : CountedLaw → CountLaw → SameTablesLaw → RisesLaw
rises_law counted law tables old new t section x moment sent ranges new_ranges within of apart was_sent same =
    let next = next_version_law counted law tables old new t section x moment sent ranges new_ranges within of in
    let rises = not_kept (shows_same old new x moment) (sent (sub_table_number x)) apart was_sent in
    let v = version_of old x moment in
    let one_more : (if keeps_version old new x moment sent then v else (v + 1) % 32) ≡ (v + 1) % 32 =
    ap (λ b. if b then v else (v + 1) % 32) rises in
    another v (version_below old x moment ranges) (sym one_more ∙ sym next ∙ same)

-- The same bytes
same_to : (f g h : ℕ → List ℕ) (n : ℕ) → ((i : ℕ) → g i ≡ h i) → same_below f g n ≡ same_below f h n
same_to f g h zero law = refl
same_to f g h (suc n) law = ap₂ (λ b bytes. b && bytes_eq (f n) bytes) (same_to f g h n law) (law n)

-- as many sections: the numbers are no part of a length
kinds_as_many : (d e : Described) (k : TableKind) → without_versions d ≡ without_versions e → length (kind_lengths d k) ≡ length (kind_lengths e k)
kinds_as_many d e k same =
    ap length (sym (lengths_bare d k)) ∙ ap (λ c. length (kind_lengths c k)) same ∙ ap length (lengths_bare e k)

abbrev event_sections : Bool → List DescribedProgram → ℕ → ℕ
event_sections all ps p = elim (slice_get ps p) [ None ↦ 0 | Some q ↦ if is_scheduled all q then 2 else 0 ]

events_bare : (all : Bool) (ps : List DescribedProgram) (p : ℕ) → event_sections all (map without_number ps) p ≡ event_sections all ps p
events_bare all [] p = refl
events_bare all (q ∷ ps) zero = refl
events_bare all (q ∷ ps) (suc p) = events_bare all ps p

as_many : (d e : Described) (x : SubTable) → without_versions d ≡ without_versions e → sections_in d x ≡ sections_in e x
as_many d e Pat same = refl
as_many d e Nit same = kinds_as_many d e kind.Nit same
as_many d e Sdt same =
    sym (length-map (sdt_parts d) (services_length d)) ∙ kinds_as_many d e kind.Sdt same ∙ length-map (sdt_parts e) (services_length e)
as_many d e (Map p) same = kinds_as_many d e (kind.Pmt p) same
as_many d e (Events p) same =
    sym (events_bare d.has_eit d.programs p) ∙ ap (λ (c : Described). event_sections c.has_eit c.programs p) same
    ∙ events_bare e.has_eit e.programs p

shows_next : (old new next : Described) (x : SubTable) (moment : ℕ) → without_versions new ≡ without_versions next → HasSameTables new next
    → shows_same old new x moment ≡ shows_same old next x moment
shows_next old new next x moment bare same =
    ap₂ (λ (a b : Bool). a && b) (ap (λ n. sections_in old x == n) (as_many new next x bare))
    (same_to (unnumbered old x moment) (unnumbered new x moment) (unnumbered next x moment) (sections_in old x) (λ n. same.sections x 0 n moment))

kept : (b c : Bool) → IsTrue b → (b || c) ≡ true
kept true c h = refl
kept false c h = absurd (cc)

pub stays_law : CountedLaw → CountLaw → SameTablesLaw → VersionedLaw → StaysLaw
stays_law counted law tables versioned old new t section x moment sent ranges new_ranges within new_within of new_of number same =
    let next = next_texts old new moment sent in
    let count = λ (n : ℕ). next_count old new (numbered_sub_table n) moment sent in
    let bare = sym (same_counts counted count new) in
    let alike = tables new next bare in
    let shown = next_version_law counted law tables old new t section x moment sent ranges new_ranges new_within new_of in
    let v = version_of old x moment in
    let stays : (if keeps_version old new x moment sent then v else (v + 1) % 32) ≡ v =
    ap (λ b. if b then v else (v + 1) % 32) (kept (shows_same old new x moment) (not (sent (sub_table_number x))) same) in
    versioned old next t section moment x within of (sym (alike.sub_tables t section) ∙ new_of) (number ∙ alike.numbers t section)
    (subst IsTrue (shows_next old new next x moment bare alike) same) (sym (shown ∙ stays))

-- Nothing else changes.
pub next_below : (old new : Described) (x : SubTable) (moment : ℕ) (b : Bool)
    → (if b then kept_count old new x moment else (kept_count old new x moment + 1) % 32) < 32
next_below old new x moment true = omega arith
next_below old new x moment false = omega arith

pub next_range_law : CountedLaw → NextRangeLaw
next_range_law counted old new moment sent ranges =
    range_counts counted (λ n. next_count old new (numbered_sub_table n) moment sent)
    (λ n. next_below old new (numbered_sub_table n) moment (keeps_version old new (numbered_sub_table n) moment sent)) new ranges

pub same_texts_law : CountedLaw → SameTextsLaw
same_texts_law counted old new moment sent = same_counts counted (λ n. next_count old new (numbered_sub_table n) moment sent) new

fixed_alike : (ps : List DescribedProgram) → map fixed_program (map without_number ps) ≡ map fixed_program ps
fixed_alike [] = refl
fixed_alike (p ∷ ps) = ap (λ qs. fixed_program p ∷ qs) (fixed_alike ps)

pub text_alike : (frame new next : Described) → without_versions next ≡ without_versions new → HasSameTables next new → IsTextOf frame new → IsTextOf frame next
text_alike frame new next same tables text = record {
  rate = ap (λ d. d.rate) same ∙ text.rate;
  base0 = ap (λ d. d.base0) same ∙ text.base0;
  transport_stream_id = ap (λ d. d.transport_stream_id) same ∙ text.transport_stream_id;
  original_network_id = ap (λ d. d.original_network_id) same ∙ text.original_network_id;
  is_transponder = ap (λ d. d.is_transponder) same ∙ text.is_transponder;
  clock_pid = ap (λ d. d.clock_pid) same ∙ text.clock_pid;
  programs =
      sym (fixed_alike next.programs) ∙ ap (λ d. map fixed_program d.programs) same ∙ fixed_alike new.programs ∙ text.programs;
  streams = ap (λ d. map fixed_stream d.streams) same ∙ text.streams;
  tables = ap (λ d. map fixed_table d.tables) same ∙ text.tables;
  kinds = tables.kinds ∙ text.kinds;
  pids = λ t. tables.pids t ∙ text.pids t;
  limits = λ t. tables.limits t ∙ text.limits t;
  counts = λ t. ap length (tables.lengths t) ∙ text.counts t;
  packets =
      λ t j. subst (λ (lengths : List ℕ). packets_of_section (slice_index_or lengths j 0) ≤ section_packets frame t j) (sym (tables.lengths t)) (text.packets t j);
}

pub next_text_law : CountedLaw → SameTablesLaw → NextTextLaw
next_text_law counted tables frame old new moment sent text =
    let next = next_texts old new moment sent in
    let same = same_texts_law counted old new moment sent in
    text_alike frame new next same (tables next new same) text
