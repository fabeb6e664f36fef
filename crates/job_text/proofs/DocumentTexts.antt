-- The texts of a heading, of events, of a network, of programs and of streams form one document.
use Rattle.std.proofs.Common.{◌≡◌, ℕ, suc, pos, ◌≤◌, Bool, true, false, ◌==◌, Option, Some, None, option_map, List, [], ◌∷◌, ◌++◌, length, map, codes, refl}
use Rattle.std.proofs.Common.{sym, ap, ap₂, subst, ◌∙◌, arith, append_assoc, append-nil}
use Rattle.std.proofs.lemmas.Bool.Decides.{nat_tests}
use Rattle.std.specs.Prelude.{All, IfSome, bytes_eq}
use Rattle.std.specs.List.{flat_map}
use Rattle.std.specs.Ordering.{nat_cmp, is_lt}
use Rattle.std.specs.Cmp.Lexicographic.{slice_cmp}
use Rattle.unit_timing.specs.declared.allowance.Allowance.{Allowance}
use Rattle.unit_timing.specs.declared.allowance.Allowance.TheVariants.{Groups, Pace}
use Rattle.unit_timing.specs.declared.multiplexing_buffer.MultiplexingBuffer.{MultiplexingBuffer}
use Rattle.hex.specs.Hex.{encode_lower}
use Rattle.dvb_tables.specs.TransportStreams.{TransportStreamView}
use Rattle.toml_writer.specs.Text.{key_text}
use Rattle.toml.specs.Data.{string, integer, boolean, Members, no_members, member, is_before, members_are_sorted}
use Rattle.toml.specs.Text.{expressions, needs_header, pairs, sections, elements}
use Rattle.toml.specs.Tables.{Expression, array_table, key_value}
use Rattle.toml.proofs.Lines.{after}
use Rattle.job_text.specs.DescriptionParts.{EventPartView, FramingPartView, HeadingView, NetworkPartView, ProgramPartView, StreamPartView, TablePartView}
use Rattle.job_text.specs.KeyLines.{with_numbers, number_if_any, with_set, with_hex, with_list, header, table_header, hex_line, list_line, key_line}
use Rattle.job_text.specs.KeyLines.{number_line, number_lines, set_line}
use Rattle.job_text.specs.Notes.{name_note, type_note}
use Rattle.job_text.specs.Fields.{program_numbers, burst_numbers, rest_numbers, group_numbers, time_numbers, size_numbers, pace_numbers, place_numbers}
use Rattle.job_text.specs.Fields.{leak_numbers, drain_numbers, last_numbers}
use Rattle.job_text.specs.Documents.{document, elements_of, with_table, with_tables, event_members, event_table, program_coded}
use Rattle.job_text.specs.Documents.{network_members, network_rest, network_stream_ids, network_stream_table, network_table}
use Rattle.job_text.specs.Documents.{program_loop, program_members, program_service, program_table, program_type, with_clock, with_status, stream_last, stream_drain}
use Rattle.job_text.specs.Documents.{stream_place, stream_middle, stream_rest, stream_members, stream_table, table_table}
use Rattle.job_text.specs.Texts.{event_lines, event_text, framing_if_any, heading_text, network_names, network_own, network_stream_text, network_text}
use Rattle.job_text.specs.Texts.{network_if_any, program_back, program_clock}
use Rattle.job_text.specs.Texts.{program_text, stream_end, stream_text, table_text}
use Rattle.job_text.specs.Laws.{Fits, FitsEvent, FitsHeading, FitsNetwork, FitsNetworkStream, FitsProgram, FitsAllowance, FitsMultiplexing, FitsFrames, FitsFraming, FitsStream, FitsTable}
use Rattle.job_text.specs.Laws.{TextsAreRead}
use Rattle.job_text.proofs.Comments.{AreCommented, commented_both, document_read}
use Rattle.job_text.proofs.FlatArrays.{list_none, list_some, numbers_are, numbers_sorted, digits_are, digits_sorted}
use Rattle.job_text.proofs.NoteLines.{name_tail, no_tail, type_tail}
use Rattle.job_text.proofs.Scalars.{AreScalars, IsScalar, scalar_lines, lines_are_text, noted_are_text, noted_lines}
use Rattle.job_text.proofs.TableArrays.{AreTables, elements_are_text, pairs_past, sections_with, sorted_past, before_tables}
use Rattle.job_text.proofs.SingleTables.{IsTable, expressions_if_any, table_is_text, pairs_past_table, sections_with_table}
use Rattle.job_text.proofs.SingleTables.{sorted_past_table, before_table}

-- Numbers that fit are scalars.
small : (n : ℕ) → Fits n → IsScalar (integer (pos n))
small n h = omega (arith, h)

-- Descriptors before other keys are scalars.
not_empty : (b : ℕ) (bytes : List ℕ) → (length (b ∷ bytes) == 0) ≡ false
not_empty b bytes = grind (arith, nat_tests)

hex_none : (more : Members) → with_hex (codes "descriptors") [] more ≡ more
unfolding with_hex
hex_none more = refl

hex_some : (b : ℕ) (bytes : List ℕ) (more : Members)
    → with_hex (codes "descriptors") (b ∷ bytes) more ≡ member (codes "descriptors") (string (encode_lower (b ∷ bytes))) more
unfolding with_hex
hex_some b bytes more = rw (not_empty b bytes)

line_none : hex_line (codes "descriptors") [] ≡ []
unfolding hex_line
line_none = refl

line_some : (b : ℕ) (bytes : List ℕ) → hex_line (codes "descriptors") (b ∷ bytes) ≡ key_line (codes "descriptors") (string (encode_lower (b ∷ bytes)))
unfolding hex_line
line_some b bytes = rw (not_empty b bytes)

hex_scalars : (bytes : List ℕ) (more : Members) → AreScalars more → AreScalars (with_hex (codes "descriptors") bytes more)
unfolding key_text
hex_scalars [] more h = subst AreScalars (sym (hex_none more)) h
hex_scalars (b ∷ bytes) more h = subst AreScalars (sym (hex_some b bytes more)) (refl, tt, h)

hex_sorted : (bytes : List ℕ) (more : Members) → is_before (codes "descriptors") more ≡ true → members_are_sorted more ≡ true
    → members_are_sorted (with_hex (codes "descriptors") bytes more) ≡ true
hex_sorted [] more first sorted = ap members_are_sorted (hex_none more) ∙ sorted
hex_sorted (b ∷ bytes) more first sorted = ap members_are_sorted (hex_some b bytes more) ∙ rw (first, sorted)

hex_after : (key : List ℕ) (bytes : List ℕ) (more : Members) → is_lt (slice_cmp nat_cmp key (codes "descriptors")) ≡ true → is_before key more ≡ true
    → is_before key (with_hex (codes "descriptors") bytes more) ≡ true
hex_after key [] more first last = ap (is_before key) (hex_none more) ∙ last
hex_after key (b ∷ bytes) more first last = ap (is_before key) (hex_some b bytes more) ∙ first

own_hex : (at note bytes : List ℕ) (more : Members) → bytes_eq (codes "descriptors") at ≡ false
    → noted_lines at note (with_hex (codes "descriptors") bytes more) ≡ hex_line (codes "descriptors") bytes ++ noted_lines at note more
own_hex at note [] more other = ap (noted_lines at note) (hex_none more) ∙ ap (λ (l : List ℕ). l ++ noted_lines at note more) (sym line_none)
own_hex at note (b ∷ bytes) more other =
    ap (noted_lines at note) (hex_some b bytes more) ∙ rw other (ap (λ (l : List ℕ). l ++ noted_lines at note more) (sym (line_some b bytes)))

-- Numbers before other keys are scalars.
list_scalars : (key ns : List ℕ) (more : Members) → key_text key ≡ key → All Fits ns → AreScalars more → AreScalars (with_list key ns more)
list_scalars key [] more plain f h = h
list_scalars key (n ∷ ns) more plain f h = (plain, numbers_are (n ∷ ns) f, h)

list_sorted : (key ns : List ℕ) (more : Members) → is_before key more ≡ true → members_are_sorted more ≡ true
    → members_are_sorted (with_list key ns more) ≡ true
list_sorted key [] more first sorted = sorted
list_sorted key (n ∷ ns) more first sorted = rw (first, numbers_sorted ns, sorted)

list_after : (key at ns : List ℕ) (more : Members) → is_lt (slice_cmp nat_cmp key at) ≡ true → is_before key more ≡ true
    → is_before key (with_list at ns more) ≡ true
list_after key at [] more first last = last
list_after key at (n ∷ ns) more first last = first

own_list : (at note key ns : List ℕ) (more : Members) → bytes_eq key at ≡ false
    → noted_lines at note (with_list key ns more) ≡ list_line key ns ++ noted_lines at note more
own_list at note key [] more other = ap (λ (l : List ℕ). l ++ noted_lines at note more) (sym (list_none key))
own_list at note key (n ∷ ns) more other = rw other (ap (λ (l : List ℕ). l ++ noted_lines at note more) (sym (list_some key n ns)))

-- A number before other keys, if there is a number, is a scalar.
any_scalars : (key : List ℕ) (n : Option ℕ) (more : Members) → key_text key ≡ key → IfSome n Fits → AreScalars more
    → AreScalars (with_numbers (number_if_any key n) more)
any_scalars key None more plain f h = h
any_scalars key (Some n) more plain f h = (plain, small n f, h)

any_sorted : (key : List ℕ) (n : Option ℕ) (more : Members) → is_before key more ≡ true → members_are_sorted more ≡ true
    → members_are_sorted (with_numbers (number_if_any key n) more) ≡ true
any_sorted key None more first sorted = sorted
any_sorted key (Some n) more first sorted = rw (first, sorted)

any_after : (key at : List ℕ) (n : Option ℕ) (more : Members) → is_lt (slice_cmp nat_cmp key at) ≡ true → is_before key more ≡ true
    → is_before key (with_numbers (number_if_any at n) more) ≡ true
any_after key at None more first last = last
any_after key at (Some n) more first last = first

any_lines : (key : List ℕ) (n : Option ℕ) (more : Members) → scalar_lines (with_numbers (number_if_any key n) more)
    ≡ number_lines (number_if_any key n) ++ scalar_lines more
any_lines key None more = refl
any_lines key (Some n) more = simp (append_assoc, append-nil)

own_any : (at note key : List ℕ) (n : Option ℕ) (more : Members) → bytes_eq key at ≡ false
    → noted_lines at note (with_numbers (number_if_any key n) more) ≡ number_lines (number_if_any key n) ++ noted_lines at note more
own_any at note key None more other = refl
own_any at note key (Some n) more other = rw other (simp (append_assoc, append-nil))

any_pairs : (key : List ℕ) (n : Option ℕ) (some none : Members) → pairs some ≡ pairs none
    → pairs (with_numbers (number_if_any key n) some) ≡ pairs (with_numbers (number_if_any key n) none)
any_pairs key None some none same = same
any_pairs key (Some n) some none same = rw same

any_sections : (key : List ℕ) (n : Option ℕ) (more : Members) → sections [] (with_numbers (number_if_any key n) more) ≡ sections [] more
any_sections key None more = refl
any_sections key (Some n) more = refl

-- A flag that is set before other keys is a scalar.
set_scalars : (key : List ℕ) (flag : Bool) (more : Members) → key_text key ≡ key → AreScalars more → AreScalars (with_set key flag more)
set_scalars key false more plain h = h
set_scalars key true more plain h = (plain, tt, h)

set_sorted : (key : List ℕ) (flag : Bool) (more : Members) → is_before key more ≡ true → members_are_sorted more ≡ true
    → members_are_sorted (with_set key flag more) ≡ true
set_sorted key false more first sorted = sorted
set_sorted key true more first sorted = rw (first, sorted)

set_after : (key at : List ℕ) (flag : Bool) (more : Members) → is_lt (slice_cmp nat_cmp key at) ≡ true → is_before key more ≡ true
    → is_before key (with_set at flag more) ≡ true
set_after key at false more first last = last
set_after key at true more first last = first

set_sections : (key : List ℕ) (flag : Bool) (more : Members) → sections [] (with_set key flag more) ≡ sections [] more
set_sections key false more = refl
set_sections key true more = refl

set_lines : (key : List ℕ) (flag : Bool) (more : Members) → scalar_lines (with_set key flag more) ≡ set_line key flag ++ scalar_lines more
set_lines key false more = refl
set_lines key true more = refl

-- The table of an event
event_scalars : (o : Option (List ℕ)) (e : EventPartView) → FitsEvent e → AreScalars (event_members o e)
unfolding key_text
event_scalars None e h =
    (refl, small e.duration h.duration, (refl, small e.id h.id, (refl, tt, (refl, tt, (refl, small e.program h.program, (refl, tt, (refl, tt, tt)))))))
event_scalars (Some bytes) e h =
    (refl, tt, (refl, small e.duration h.duration, (refl, small e.id h.id, (refl, small e.program h.program, (refl, tt, tt)))))

event_sorted : (o : Option (List ℕ)) (e : EventPartView) → members_are_sorted (event_members o e) ≡ true
event_sorted None e = refl
event_sorted (Some bytes) e = refl

lines_of_event : (o : Option (List ℕ)) (e : EventPartView) → header (codes "event") ++ noted_lines (codes "descriptors") (name_note e.name) (event_members o e)
    ≡ header (codes "event") ++ event_lines o e
lines_of_event None e = simp (append_assoc, append-nil)
lines_of_event (Some bytes) e = simp (append_assoc, append-nil)

-- All of a list: its first and the others
each : {X : Type 0} (P : X → Type 0) (x : X) (xs : List X) → All P (x ∷ xs) → P x × All P xs
each P x xs h = (h 0 x (omega arith), λ k d less. h (suc k) d (omega (arith, less)))

-- The table of another transport stream of a network
network_stream_scalars : (s : TransportStreamView) → FitsNetworkStream s → AreScalars (network_stream_table s)
unfolding key_text
network_stream_scalars s h =
    hex_scalars s.descriptors (network_stream_ids s)
    (refl, small s.original_network_id h.original_network_id, (refl, small s.transport_stream_id h.transport_stream_id, tt))

network_stream_sorted : (s : TransportStreamView) → members_are_sorted (network_stream_table s) ≡ true
network_stream_sorted s = hex_sorted s.descriptors (network_stream_ids s) refl refl

lines_of_network_stream : (s : TransportStreamView) → header (codes "network.stream") ++ noted_lines [] [] (network_stream_table s) ≡ network_stream_text s
lines_of_network_stream s = rw (own_hex [] [] s.descriptors (network_stream_ids s) refl) (simp (append_assoc, append-nil))

network_stream_tables : (ss : List TransportStreamView) → All FitsNetworkStream ss → AreTables (map network_stream_table ss)
network_stream_tables [] h = tt
network_stream_tables (s ∷ ss) h =
    let e = each FitsNetworkStream s ss h in (network_stream_scalars s e.0, network_stream_sorted s, network_stream_tables ss e.1)

network_streams_are_text : (ss : List TransportStreamView) → All FitsNetworkStream ss
    → AreCommented true (elements (codes "network" ∷ [], codes "stream") (elements_of (map network_stream_table ss))) (flat_map network_stream_text ss)
unfolding key_text
network_streams_are_text ss h =
    elements_are_text (codes "network" ∷ [], codes "stream") (codes "network.stream") [] network_stream_table (λ s. []) network_stream_text ss
    (record { text = refl; short = omega arith }) (λ s. no_tail) lines_of_network_stream (network_stream_tables ss h)

-- The table of a network: its own keys
rest_of_network : (o : Option (List ℕ)) (n : NetworkPartView) → Fits n.id → AreScalars (network_rest o n no_members)
unfolding key_text
rest_of_network None n h = (refl, small n.id h, (refl, tt, tt))
rest_of_network (Some bytes) n h = (refl, small n.id h, (refl, tt, tt))

own_network : (n : NetworkPartView) → Fits n.id → AreScalars (network_members n no_members)
own_network n h = hex_scalars n.descriptors (network_rest n.network_descriptors n no_members) (rest_of_network n.network_descriptors n h)

lines_of_rest : (o : Option (List ℕ)) (n : NetworkPartView) → noted_lines (codes "network_descriptors") (name_note n.name) (network_rest o n no_members)
    ≡ number_line (codes "id", n.id) ++ network_names o n
lines_of_rest None n = simp append-nil
lines_of_rest (Some bytes) n = simp append-nil

lines_of_network : (n : NetworkPartView) →
    table_header (codes "network") ++ noted_lines (codes "network_descriptors") (name_note n.name) (network_members n no_members) ≡ network_own n
lines_of_network n =
    rw (
      own_hex (codes "network_descriptors") (name_note n.name) n.descriptors (network_rest n.network_descriptors n no_members) refl,
      lines_of_rest n.network_descriptors n,
    ) refl

-- its keys before its transport streams
rest_pairs : (o : Option (List ℕ)) (n : NetworkPartView) (more : Members) → pairs more ≡ [] → pairs (network_rest o n more) ≡ pairs (network_rest o n no_members)
rest_pairs None n more none = rw none refl
rest_pairs (Some bytes) n more none = rw none refl

hex_pairs : (bytes : List ℕ) (some none : Members) → pairs some ≡ pairs none →
    pairs (with_hex (codes "descriptors") bytes some) ≡ pairs (with_hex (codes "descriptors") bytes none)
hex_pairs [] some none same = ap pairs (hex_none some) ∙ (same ∙ sym (ap pairs (hex_none none)))
hex_pairs (b ∷ bytes) some none same =
    ap pairs (hex_some b bytes some)
    ∙ (ap (λ (es : List Expression). (([], codes "descriptors"), key_value (string (encode_lower (b ∷ bytes)))) ∷ es) same
    ∙ sym (ap pairs (hex_some b bytes none)))

rest_sections : (path : List (List ℕ)) (o : Option (List ℕ)) (n : NetworkPartView) (more : Members) → sections path (network_rest o n more) ≡ sections path more
rest_sections path None n more = refl
rest_sections path (Some bytes) n more = refl

hex_sections : (path : List (List ℕ)) (bytes : List ℕ) (more : Members) → sections path (with_hex (codes "descriptors") bytes more) ≡ sections path more
hex_sections path [] more = ap (sections path) (hex_none more)
hex_sections path (b ∷ bytes) more = ap (sections path) (hex_some b bytes more)

hex_headed : (bytes : List ℕ) (more : Members) → needs_header more ≡ true → needs_header (with_hex (codes "descriptors") bytes more) ≡ true
hex_headed [] more h = ap needs_header (hex_none more) ∙ h
hex_headed (b ∷ bytes) more h = ap needs_header (hex_some b bytes more)

network_expressions : (n : NetworkPartView) (ts : List Members) →
    pairs (network_members n (with_tables (codes "stream") ts no_members))
    ++ sections (codes "network" ∷ []) (network_members n (with_tables (codes "stream") ts no_members))
    ≡ pairs (network_members n no_members) ++ elements (codes "network" ∷ [], codes "stream") (elements_of ts)
network_expressions n ts =
    let path = codes "network" ∷ [] in
    let more = with_tables (codes "stream") ts no_members in
    let rest = network_rest n.network_descriptors n more in
    let own = rest_pairs n.network_descriptors n more (pairs_past (codes "stream") ts no_members) in
    ap₂ (λ (xs ys : List Expression). xs ++ ys)
    (hex_pairs n.descriptors rest (network_rest n.network_descriptors n no_members) own)
    (hex_sections path n.descriptors rest
    ∙ (rest_sections path n.network_descriptors n more
    ∙ (sections_with path (codes "stream") ts no_members ∙ append-nil (elements (path, codes "stream") (elements_of ts)))))

-- its keys in order
last_sorted : (ts : List Members) → AreTables ts → members_are_sorted (with_tables (codes "stream") ts no_members) ≡ true
last_sorted ts h = sorted_past (codes "stream") ts no_members refl h

rest_sorted_of : (o : Option (List ℕ)) (n : NetworkPartView) (ts : List Members) → AreTables ts →
    members_are_sorted (network_rest o n (with_tables (codes "stream") ts no_members)) ≡ true
rest_sorted_of None n ts h = rw (before_tables (codes "name") (codes "stream") ts no_members refl refl, last_sorted ts h) refl
rest_sorted_of (Some bytes) n ts h = rw (before_tables (codes "network_descriptors") (codes "stream") ts no_members refl refl, last_sorted ts h) refl

network_sorted : (n : NetworkPartView) → All FitsNetworkStream n.streams → members_are_sorted (network_table n) ≡ true
network_sorted n h =
    hex_sorted n.descriptors (network_rest n.network_descriptors n (with_tables (codes "stream") (map network_stream_table n.streams) no_members)) refl
    (rest_sorted_of n.network_descriptors n (map network_stream_table n.streams) (network_stream_tables n.streams h))

-- The table of a network, if there is a network
network_table_fits : (n : Option NetworkPartView) → FitsNetwork n → IsTable (option_map network_table n)
network_table_fits None h = tt
network_table_fits (Some n) h = network_sorted n h.streams

network_is_text : (n : Option NetworkPartView) → FitsNetwork n →
    AreCommented true (expressions_if_any (codes "network") (option_map network_table n)) (network_if_any n)
unfolding key_text
network_is_text None h = refl
network_is_text (Some n) h =
    let ts = map network_stream_table n.streams in
    let own = noted_lines (codes "network_descriptors") (name_note n.name) (network_members n no_members) in
    let others = flat_map network_stream_text n.streams in
    let es = elements (codes "network" ∷ [], codes "stream") (elements_of ts) in
    let keys = noted_are_text true (codes "network_descriptors") (name_note n.name) (network_members n no_members) (name_tail n.name) (own_network n h.id) in
    let both = commented_both true (pairs (network_members n no_members)) es own others keys (network_streams_are_text n.streams h.streams) in
    let head = hex_headed n.descriptors (network_rest n.network_descriptors n (with_tables (codes "stream") ts no_members)) refl in
    let whole : table_header (codes "network") ++ (own ++ others) ≡ network_text n =
    sym (append_assoc (table_header (codes "network")) own others) ∙ ap (λ (t : List ℕ). t ++ others) (lines_of_network n) in
    subst (λ (t : List ℕ). AreCommented true (expressions_if_any (codes "network") (Some (network_table n))) t) whole
    (table_is_text (codes "network") (network_table n) (pairs (network_members n no_members) ++ es) (own ++ others) refl head (network_expressions n ts) both)

-- The table of a program
clock_scalars : (p : ProgramPartView) (more : Members) → FitsProgram p → AreScalars more → AreScalars (with_clock p more)
unfolding key_text
clock_scalars p more h rest =
    (refl, small p.number h.number, (refl, small p.pcr_limit h.pcr_limit, any_scalars (codes "pcr_pid") p.pcr_pid more refl h.pcr_pid rest))

status_scalars : (p : ProgramPartView) (more : Members) → FitsProgram p → AreScalars more → AreScalars (with_status p more)
unfolding key_text
status_scalars p more h rest = any_scalars (codes "running_status") p.running_status more refl h.running_status rest

own_scalars : (o : Option (List ℕ)) (p : ProgramPartView) → FitsProgram p → AreScalars (program_members o p)
unfolding key_text
own_scalars None p h = (
  refl,
  tt,
  clock_scalars p (program_service p) h (
    refl,
    small p.pmt_pid h.pmt_pid,
    (refl, tt, status_scalars p (program_type p) h (refl, small p.service_type h.service_type, tt)),
  ),
)
own_scalars (Some bytes) p h =
    clock_scalars p (program_coded bytes p) h (refl, small p.pmt_pid h.pmt_pid, status_scalars p (program_loop bytes) h (refl, tt, tt))

program_scalars : (p : ProgramPartView) → FitsProgram p → AreScalars (program_table p)
program_scalars p h = hex_scalars p.descriptors (program_members p.service_descriptors p) (own_scalars p.service_descriptors p h)

clock_sorted : (p : ProgramPartView) (more : Members) → is_before (codes "pcr_limit") more ≡ true → is_before (codes "pcr_pid") more ≡ true
    → members_are_sorted more ≡ true → members_are_sorted (with_clock p more) ≡ true
clock_sorted p more limit pid sorted = rw (
  any_after (codes "pcr_limit") (codes "pcr_pid") p.pcr_pid more refl limit,
  any_sorted (codes "pcr_pid") p.pcr_pid more pid sorted,
)

-- A key before a service's status, and before the last key
status_sorted : (key : List ℕ) (p : ProgramPartView) (more : Members) → is_lt (slice_cmp nat_cmp key (codes "running_status")) ≡ true →
    is_before key more ≡ true → is_before (codes "running_status") more ≡ true → members_are_sorted more ≡ true →
    (is_before key (with_status p more) ≡ true) × (members_are_sorted (with_status p more) ≡ true)
status_sorted key p more first last after sorted = (
  any_after key (codes "running_status") p.running_status more first last,
  any_sorted (codes "running_status") p.running_status more after sorted,
)

service_sorted : (p : ProgramPartView) → members_are_sorted (program_service p) ≡ true
service_sorted p = let s = status_sorted (codes "provider") p (program_type p) refl refl refl refl in rw (s.0, s.1)

coded_sorted : (bytes : List ℕ) (p : ProgramPartView) → members_are_sorted (program_coded bytes p) ≡ true
coded_sorted bytes p = let s = status_sorted (codes "pmt_pid") p (program_loop bytes) refl refl refl refl in rw (s.0, s.1)

own_sorted : (o : Option (List ℕ)) (p : ProgramPartView) → members_are_sorted (program_members o p) ≡ true
own_sorted None p = clock_sorted p (program_service p) refl refl (service_sorted p)
own_sorted (Some bytes) p = clock_sorted p (program_coded bytes p) refl refl (coded_sorted bytes p)

own_first : (o : Option (List ℕ)) (p : ProgramPartView) → is_before (codes "descriptors") (program_members o p) ≡ true
own_first None p = refl
own_first (Some bytes) p = refl

program_sorted : (p : ProgramPartView) → members_are_sorted (program_table p) ≡ true
program_sorted p =
    hex_sorted p.descriptors (program_members p.service_descriptors p) (own_first p.service_descriptors p) (own_sorted p.service_descriptors p)

own_clock : (p : ProgramPartView) (more : Members) → noted_lines (codes "service_descriptors") (name_note p.name) (with_clock p more)
    ≡ program_clock p ++ noted_lines (codes "service_descriptors") (name_note p.name) more
own_clock p more = rw (own_any (codes "service_descriptors") (name_note p.name) (codes "pcr_pid") p.pcr_pid more refl) (simp (append_assoc, append-nil))

own_status : (p : ProgramPartView) (more : Members) → noted_lines (codes "service_descriptors") (name_note p.name) (with_status p more)
    ≡ number_lines (number_if_any (codes "running_status") p.running_status) ++ noted_lines (codes "service_descriptors") (name_note p.name) more
own_status p more = own_any (codes "service_descriptors") (name_note p.name) (codes "running_status") p.running_status more refl

lines_of_own : (o : Option (List ℕ)) (p : ProgramPartView) → noted_lines (codes "service_descriptors") (name_note p.name) (program_members o p)
    ≡ program_back o p
lines_of_own None p = rw (own_clock p (program_service p), own_status p (program_type p)) (simp append-nil)
lines_of_own (Some bytes) p = rw (own_clock p (program_coded bytes p), own_status p (program_loop bytes)) (simp append-nil)

lines_of_program : (p : ProgramPartView) → header (codes "program") ++ noted_lines (codes "service_descriptors") (name_note p.name) (program_table p)
    ≡ program_text p
lines_of_program p =
    rw (
      own_hex (codes "service_descriptors") (name_note p.name) p.descriptors (program_members p.service_descriptors p) refl,
      lines_of_own p.service_descriptors p,
    ) (simp append_assoc)

-- The table of a stream
end_scalars : (s : StreamPartView) → FitsStream s → AreScalars (with_list (codes "shared_with") s.shared_with (stream_last s))
unfolding key_text
end_scalars s h = list_scalars (codes "shared_with") s.shared_with (stream_last s) refl h.shared_with (refl, small s.size h.size, (refl, small s.stream_type h.stream_type, tt))

limit_scalars : (m : Option MultiplexingBuffer) (s : StreamPartView) → FitsMultiplexing m → FitsStream s → AreScalars (stream_drain m s)
unfolding key_text
limit_scalars None s f h = (refl, small s.rx h.rx, end_scalars s h)
limit_scalars (Some m) s f h = (refl, small m.rbx f.0, (refl, small s.rx h.rx, end_scalars s h))

drain_scalars : (m : Option MultiplexingBuffer) (l : Option ℕ) (s : StreamPartView) → FitsMultiplexing m → IfSome l Fits → FitsStream s
    → AreScalars (with_numbers (number_if_any (codes "pts_limit") l) (stream_drain m s))
unfolding key_text
drain_scalars m None s f k h = limit_scalars m s f h
drain_scalars m (Some n) s f k h = (refl, small n k, limit_scalars m s f h)

place_scalars : (m : Option MultiplexingBuffer) (l : Option ℕ) (s : StreamPartView) → FitsMultiplexing m → IfSome l Fits → FitsStream s →
    AreScalars (stream_place m l s)
unfolding key_text
place_scalars m l s f k h = (refl, small s.pid h.pid, (refl, small s.program h.program, drain_scalars m l s f k h))

pace_scalars : (a : Allowance) (m : Option MultiplexingBuffer) (l : Option ℕ) (s : StreamPartView) → FitsAllowance a → FitsMultiplexing m → IfSome l Fits →
    FitsStream s
    → AreScalars (with_numbers (pace_numbers a) (stream_place m l s))
unfolding key_text
pace_scalars (Groups units packets) m l s f g k h = place_scalars m l s g k h
pace_scalars (Pace burst pace) m l s f g k h = (refl, small pace f.1, place_scalars m l s g k h)

size_scalars : (a : Allowance) (m : Option MultiplexingBuffer) (l : Option ℕ) (s : StreamPartView) → FitsAllowance a → FitsMultiplexing m → IfSome l Fits →
    FitsStream s
    → AreScalars (with_numbers (size_numbers m) (with_numbers (pace_numbers a) (stream_place m l s)))
unfolding key_text
size_scalars a None l s f g k h = pace_scalars a None l s f g k h
size_scalars a (Some m) l s f g k h = (refl, small m.size g.1, pace_scalars a (Some m) l s f g k h)

middle_scalars : (a : Allowance) (m : Option MultiplexingBuffer) (l : Option ℕ) (s : StreamPartView) → FitsAllowance a → FitsMultiplexing m → IfSome l Fits →
    FitsStream s
    → AreScalars (stream_middle a m l s)
unfolding key_text
middle_scalars (Groups units packets) m l s f g k h =
    let rest = size_scalars (Groups units packets) m l s f g k h in (
      refl,
      small units f.0,
      (
        refl,
        small packets f.1,
        (refl, small s.stream_id h.stream_id, (refl, small s.interval h.interval, (refl, small s.lead h.lead, (refl, small s.main h.main, rest)))),
      ),
    )
middle_scalars (Pace burst pace) m l s f g k h =
    let rest = size_scalars (Pace burst pace) m l s f g k h in
    (refl, small s.stream_id h.stream_id, (refl, small s.interval h.interval, (refl, small s.lead h.lead, (refl, small s.main h.main, rest))))

-- The keys of a stream from those on that follow the sums of its access units
abbrev after_sums : Allowance → Option MultiplexingBuffer → FramingPartView → Option ℕ → StreamPartView → Members
after_sums a m p l s = with_numbers (rest_numbers p) (stream_middle a m l s)

sums_scalars : (a : Allowance) (m : Option MultiplexingBuffer) (p : FramingPartView) (l : Option ℕ) (s : StreamPartView) → FitsAllowance a →
    FitsMultiplexing m → FitsFrames p → IfSome l Fits → FitsStream s → AreScalars (with_list (codes "frame_left") p.left (after_sums a m p l s))
unfolding key_text
sums_scalars a m p l s f g e k h =
    list_scalars (codes "frame_left") p.left (after_sums a m p l s) refl e.left
    (refl, small p.rest e.rest, (refl, small p.frames e.frames, middle_scalars a m l s f g k h))

rest_scalars : (a : Allowance) (m : Option MultiplexingBuffer) (p : Option FramingPartView) (l : Option ℕ) (s : StreamPartView) → FitsAllowance a → FitsMultiplexing m
    → FitsFraming p → IfSome l Fits → FitsStream s → AreScalars (stream_rest a m p l s)
unfolding key_text
rest_scalars a m None l s f g e k h = middle_scalars a m l s f g k h
rest_scalars a m (Some p) l s f g e k h = (refl, small p.frame e.frame, sums_scalars a m p l s f g e k h)

scalars_with : (a : Allowance) (m : Option MultiplexingBuffer) (p : Option FramingPartView) (l : Option ℕ) (s : StreamPartView) → FitsAllowance a → FitsMultiplexing m
    → FitsFraming p → IfSome l Fits → FitsStream s → AreScalars (stream_members a m p l s)
unfolding key_text
scalars_with (Groups units packets) m p l s f g e k h =
    hex_scalars s.descriptors (stream_rest (Groups units packets) m p l s) (rest_scalars (Groups units packets) m p l s f g e k h)
scalars_with (Pace burst pace) m p l s f g e k h =
    (refl, small burst f.0, hex_scalars s.descriptors (stream_rest (Pace burst pace) m p l s) (rest_scalars (Pace burst pace) m p l s f g e k h))

-- The keys of a stream are sorted from its leak on, whatever keys precede it.
drain_sorted : (m : Option MultiplexingBuffer) (s : StreamPartView) → members_are_sorted (stream_drain m s) ≡ true
drain_sorted None s = rw (
  list_after (codes "rx") (codes "shared_with") s.shared_with (stream_last s) refl refl,
  list_sorted (codes "shared_with") s.shared_with (stream_last s) refl refl,
)
drain_sorted (Some m) s = rw (
  list_after (codes "rx") (codes "shared_with") s.shared_with (stream_last s) refl refl,
  list_sorted (codes "shared_with") s.shared_with (stream_last s) refl refl,
)

place_sorted : (m : Option MultiplexingBuffer) (l : Option ℕ) (s : StreamPartView) → members_are_sorted (stream_place m l s) ≡ true
place_sorted None None s = drain_sorted None s
place_sorted None (Some n) s = drain_sorted None s
place_sorted (Some m) None s = drain_sorted (Some m) s
place_sorted (Some m) (Some n) s = drain_sorted (Some m) s

middle_sorted : (a : Allowance) (m : Option MultiplexingBuffer) (l : Option ℕ) (s : StreamPartView) → members_are_sorted (stream_middle a m l s) ≡ true
middle_sorted (Groups units packets) None l s = place_sorted None l s
middle_sorted (Groups units packets) (Some m) l s = place_sorted (Some m) l s
middle_sorted (Pace burst pace) None l s = place_sorted None l s
middle_sorted (Pace burst pace) (Some m) l s = place_sorted (Some m) l s

sums_sorted : (a : Allowance) (m : Option MultiplexingBuffer) (p : FramingPartView) (l : Option ℕ) (s : StreamPartView) →
    members_are_sorted (with_list (codes "frame_left") p.left (after_sums a m p l s)) ≡ true
sums_sorted (Groups units packets) m p l s =
    list_sorted (codes "frame_left") p.left (after_sums (Groups units packets) m p l s) refl (middle_sorted (Groups units packets) m l s)
sums_sorted (Pace burst pace) m p l s =
    list_sorted (codes "frame_left") p.left (after_sums (Pace burst pace) m p l s) refl (middle_sorted (Pace burst pace) m l s)

rest_sorted : (a : Allowance) (m : Option MultiplexingBuffer) (p : Option FramingPartView) (l : Option ℕ) (s : StreamPartView) →
    members_are_sorted (stream_rest a m p l s) ≡ true
rest_sorted a m None l s = middle_sorted a m l s
rest_sorted a m (Some p) l s = rw (list_after (codes "frame") (codes "frame_left") p.left (after_sums a m p l s) refl refl, sums_sorted a m p l s)

after_descriptors : (a : Allowance) (m : Option MultiplexingBuffer) (p : Option FramingPartView) (l : Option ℕ) (s : StreamPartView) →
    is_before (codes "descriptors") (stream_rest a m p l s) ≡ true
after_descriptors a m (Some p) l s = refl
after_descriptors (Groups units packets) m None l s = refl
after_descriptors (Pace burst pace) m None l s = refl

after_burst : (a : Allowance) (m : Option MultiplexingBuffer) (p : Option FramingPartView) (l : Option ℕ) (s : StreamPartView) →
    is_before (codes "burst_packets") (stream_rest a m p l s) ≡ true
after_burst a m (Some p) l s = refl
after_burst (Groups units packets) m None l s = refl
after_burst (Pace burst pace) m None l s = refl

sorted_with : (a : Allowance) (m : Option MultiplexingBuffer) (p : Option FramingPartView) (l : Option ℕ) (s : StreamPartView) →
    members_are_sorted (stream_members a m p l s) ≡ true
sorted_with (Groups units packets) m p l s =
    hex_sorted s.descriptors (stream_rest (Groups units packets) m p l s) (after_descriptors (Groups units packets) m p l s)
    (rest_sorted (Groups units packets) m p l s)
sorted_with (Pace burst pace) m p l s =
    rw (
      hex_after (codes "burst_packets") s.descriptors (stream_rest (Pace burst pace) m p l s) refl (after_burst (Pace burst pace) m p l s),
      hex_sorted s.descriptors (stream_rest (Pace burst pace) m p l s) (after_descriptors (Pace burst pace) m p l s) (rest_sorted (Pace burst pace) m p l s),
    )

-- The lines of some keys of a stream, with the comment after its stream_type
abbrev own_lines : StreamPartView → Members → List ℕ
own_lines s ms = noted_lines (codes "type") (type_note s.stream_type s.said) ms

-- The lines of a stream: from its leak on, after its access units, and all lines
drain_lines : (m : Option MultiplexingBuffer) (s : StreamPartView) → own_lines s (stream_drain m s)
    ≡ number_lines (leak_numbers m) ++ (number_lines (drain_numbers s) ++ stream_end s)
drain_lines None s = rw (own_list (codes "type") (type_note s.stream_type s.said) (codes "shared_with") s.shared_with (stream_last s) refl) (simp (append_assoc, append-nil))
drain_lines (Some m) s = rw (own_list (codes "type") (type_note s.stream_type s.said) (codes "shared_with") s.shared_with (stream_last s) refl) (simp (append_assoc, append-nil))

limit_lines : (m : Option MultiplexingBuffer) (l : Option ℕ) (s : StreamPartView) → own_lines s (with_numbers (number_if_any (codes "pts_limit") l) (stream_drain m s))
    ≡ number_lines (number_if_any (codes "pts_limit") l) ++ own_lines s (stream_drain m s)
limit_lines m l s = own_any (codes "type") (type_note s.stream_type s.said) (codes "pts_limit") l (stream_drain m s) refl

middle_lines : (a : Allowance) (m : Option MultiplexingBuffer) (l : Option ℕ) (s : StreamPartView) → own_lines s (stream_middle a m l s)
    ≡ number_lines (group_numbers a) ++ (number_lines (time_numbers s) ++ (number_lines (size_numbers m) ++ (number_lines (pace_numbers a)
    ++ (number_lines (place_numbers s) ++ (number_lines (number_if_any (codes "pts_limit") l) ++ own_lines s (stream_drain m s))))))
middle_lines (Groups units packets) None l s = rw (limit_lines None l s) (simp (append_assoc, append-nil))
middle_lines (Groups units packets) (Some m) l s = rw (limit_lines (Some m) l s) (simp (append_assoc, append-nil))
middle_lines (Pace burst pace) None l s = rw (limit_lines None l s) (simp (append_assoc, append-nil))
middle_lines (Pace burst pace) (Some m) l s = rw (limit_lines (Some m) l s) (simp (append_assoc, append-nil))

rest_lines : (a : Allowance) (m : Option MultiplexingBuffer) (p : Option FramingPartView) (l : Option ℕ) (s : StreamPartView)
    → own_lines s (stream_rest a m p l s) ≡ framing_if_any p ++ own_lines s (stream_middle a m l s)
rest_lines a m None l s = refl
rest_lines a m (Some p) l s = rw (own_list (codes "type") (type_note s.stream_type s.said) (codes "frame_left") p.left (after_sums a m p l s) refl) (simp (append_assoc, append-nil))

lines_with : (a : Allowance) (m : Option MultiplexingBuffer) (p : Option FramingPartView) (l : Option ℕ) (s : StreamPartView) → own_lines s (stream_members a m p l s)
    ≡ number_lines (burst_numbers a) ++ (hex_line (codes "descriptors") s.descriptors
    ++ (framing_if_any p ++ own_lines s (stream_middle a m l s)))
lines_with (Groups units packets) m p l s =
    rw (own_hex (codes "type") (type_note s.stream_type s.said) s.descriptors (stream_rest (Groups units packets) m p l s) refl, rest_lines (Groups units packets) m p l s) refl
lines_with (Pace burst pace) m p l s =
    rw (own_hex (codes "type") (type_note s.stream_type s.said) s.descriptors (stream_rest (Pace burst pace) m p l s) refl, rest_lines (Pace burst pace) m p l s) (simp (append_assoc, append-nil))

lines_of_stream : (s : StreamPartView) → header (codes "stream") ++ own_lines s (stream_table s) ≡ stream_text s
lines_of_stream s =
    rw (
      lines_with s.allowance s.multiplexing s.framing s.pts_limit s,
      middle_lines s.allowance s.multiplexing s.pts_limit s,
      drain_lines s.multiplexing s,
    ) (simp append_assoc)

-- A private table
table_scalars : (t : TablePartView) → FitsTable t → AreScalars (table_table t)
unfolding key_text
table_scalars t h = (
  refl,
  tt,
  (
    refl,
    small t.limit h.limit,
    (refl, small t.pid h.pid, (refl, small t.program h.program, (refl, digits_are t.sections, (refl, small t.stream_type h.stream_type, tt)))),
  ),
)

table_sorted : (t : TablePartView) → members_are_sorted (table_table t) ≡ true
table_sorted t = rw (digits_sorted t.sections) refl

lines_of_private : (t : TablePartView) → header (codes "table") ++ noted_lines [] [] (table_table t) ≡ table_text t
lines_of_private t = simp (append_assoc, append-nil)

-- Lists of events, programs and streams
event_tables : (es : List EventPartView) → All FitsEvent es → AreTables (map event_table es)
event_tables [] h = tt
event_tables (e ∷ es) h = let f = each FitsEvent e es h in (event_scalars e.descriptors e f.0, event_sorted e.descriptors e, event_tables es f.1)

program_tables : (ps : List ProgramPartView) → All FitsProgram ps → AreTables (map program_table ps)
program_tables [] h = tt
program_tables (p ∷ ps) h = let e = each FitsProgram p ps h in (program_scalars p e.0, program_sorted p, program_tables ps e.1)

stream_scalars : (s : StreamPartView) → FitsStream s → AreScalars (stream_table s)
stream_scalars s h = scalars_with s.allowance s.multiplexing s.framing s.pts_limit s h.allowance h.multiplexing h.framing h.pts_limit h

stream_tables : (ss : List StreamPartView) → All FitsStream ss → AreTables (map stream_table ss)
stream_tables [] h = tt
stream_tables (s ∷ ss) h =
    let e = each FitsStream s ss h in
    (stream_scalars s e.0, sorted_with s.allowance s.multiplexing s.framing s.pts_limit s, stream_tables ss e.1)

private_tables : (ts : List TablePartView) → All FitsTable ts → AreTables (map table_table ts)
private_tables [] h = tt
private_tables (t ∷ ts) h = let e = each FitsTable t ts h in (table_scalars t e.0, table_sorted t, private_tables ts e.1)

-- The heading
-- The document after `transponder`, its tables, its streams, its programs, its network, its events and its clock
abbrev after_flag : HeadingView → Members
after_flag h = member (codes "ts_id") (integer (pos h.transport_stream_id)) no_members

abbrev after_tables : HeadingView → Members
after_tables h = member (codes "tdt") (boolean h.tdt) (with_set (codes "transponder") h.transponder (after_flag h))

abbrev after_streams : HeadingView → List Members → Members
after_streams h ws = with_tables (codes "table") ws (after_tables h)

abbrev after_programs : HeadingView → List Members → List Members → Members
after_programs h us ws =
    member (codes "rate") (integer (pos h.rate))
    (member (codes "sdt") (boolean h.sdt)
    (member (codes "start") (string h.start)
    (with_tables (codes "stream") us (after_streams h ws))))

abbrev after_network : HeadingView → List Members → List Members → List Members → Members
after_network h ts us ws =
    member (codes "original_network_id") (integer (pos h.original_network_id)) (with_tables (codes "program") ts (after_programs h us ws))

abbrev after_events : HeadingView → Option Members → List Members → List Members → List Members → Members
after_events h n ts us ws = with_table (codes "network") n (after_network h ts us ws)

abbrev after_clock : HeadingView → List Members → Option Members → List Members → List Members → List Members → Members
after_clock h es n ts us ws = with_tables (codes "event") es (after_events h n ts us ws)

heading_scalars : (h : HeadingView) → FitsHeading h → AreScalars (document h [] None [] [] [])
unfolding key_text
heading_scalars h f =
    let last = set_scalars (codes "transponder") h.transponder (after_flag h) refl (refl, small h.transport_stream_id f.transport_stream_id, tt) in (
      refl,
      small h.base0 f.base0,
      any_scalars (codes "clock_pid") h.clock_pid (after_clock h [] None [] [] []) refl f.clock_pid
          (refl, small h.original_network_id f.original_network_id, (refl, small h.rate f.rate, (refl, tt, (refl, tt, (refl, tt, last))))),
    )

heading_lines : (h : HeadingView) → scalar_lines (document h [] None [] [] []) ≡ heading_text h
heading_lines h =
    rw (
      any_lines (codes "clock_pid") h.clock_pid (after_clock h [] None [] [] []),
      set_lines (codes "transponder") h.transponder (after_flag h),
    ) (simp (append_assoc, append-nil))

pairs_after_clock : (h : HeadingView) (es : List Members) (n : Option Members) (ts us ws : List Members) →
    pairs (after_clock h es n ts us ws) ≡ pairs (after_clock h [] None [] [] [])
pairs_after_clock h es n ts us ws =
    rw (
      pairs_past (codes "event") es (after_events h n ts us ws),
      pairs_past_table (codes "network") n (after_network h ts us ws),
      pairs_past (codes "program") ts (after_programs h us ws),
      pairs_past (codes "stream") us (after_streams h ws),
      pairs_past (codes "table") ws (after_tables h),
    )

whole_pairs : (h : HeadingView) (es : List Members) (n : Option Members) (ts us ws : List Members) →
    pairs (document h es n ts us ws) ≡ pairs (document h [] None [] [] [])
whole_pairs h es n ts us ws =
    rw (any_pairs (codes "clock_pid") h.clock_pid (after_clock h es n ts us ws) (after_clock h [] None [] [] []) (pairs_after_clock h es n ts us ws))

-- The arrays of tables in the document
abbrev arrays : List Members → List Members → List Members → List Expression
arrays ts us ws = elements ([], codes "program") (elements_of ts)
    ++ (elements ([], codes "stream") (elements_of us) ++ (elements ([], codes "table") (elements_of ws) ++ []))

abbrev tables : Option Members → List Members → List Members → List Members → List Expression
tables n ts us ws = expressions_if_any (codes "network") n ++ arrays ts us ws

abbrev all_tables_of : List Members → Option Members → List Members → List Members → List Members → List Expression
all_tables_of es n ts us ws = elements ([], codes "event") (elements_of es) ++ tables n ts us ws

-- Their lines
abbrev array_lines : List ProgramPartView → List StreamPartView → List TablePartView → List ℕ
array_lines ps ss qs = flat_map program_text ps ++ (flat_map stream_text ss ++ flat_map table_text qs)

abbrev table_lines : Option NetworkPartView → List ProgramPartView → List StreamPartView → List TablePartView → List ℕ
table_lines n ps ss qs = network_if_any n ++ array_lines ps ss qs

abbrev all_lines : List EventPartView → Option NetworkPartView → List ProgramPartView → List StreamPartView → List TablePartView → List ℕ
all_lines es n ps ss qs = flat_map event_text es ++ table_lines n ps ss qs

whole_sections : (h : HeadingView) (es : List Members) (n : Option Members) (ts us ws : List Members) →
    sections [] (document h es n ts us ws) ≡ all_tables_of es n ts us ws
whole_sections h es n ts us ws =
    rw (
      any_sections (codes "clock_pid") h.clock_pid (after_clock h es n ts us ws),
      sections_with [] (codes "event") es (after_events h n ts us ws),
      sections_with_table (codes "network") n (after_network h ts us ws),
      sections_with [] (codes "program") ts (after_programs h us ws),
      sections_with [] (codes "stream") us (after_streams h ws),
      sections_with [] (codes "table") ws (after_tables h),
      set_sections (codes "transponder") h.transponder (after_flag h),
    )

begun : (es : List Expression) → 1 ≤ length es → after false es ≡ true
begun es some = grind (arith, nat_tests)

last_is_text : (qs : List TablePartView) → All FitsTable qs
    → AreCommented true (elements ([], codes "table") (elements_of (map table_table qs)) ++ []) (flat_map table_text qs)
unfolding key_text
last_is_text qs w =
    subst (λ (es : List Expression). AreCommented true es (flat_map table_text qs))
    (sym (append-nil (elements ([], codes "table") (elements_of (map table_table qs)))))
    (elements_are_text ([], codes "table") (codes "table") [] table_table (λ t. []) table_text qs (record { text = refl; short = omega arith }) (λ t. no_tail) lines_of_private (private_tables qs w))

streams_are_text : (ss : List StreamPartView) → All FitsStream ss
    → AreCommented true (elements ([], codes "stream") (elements_of (map stream_table ss))) (flat_map stream_text ss)
unfolding key_text
streams_are_text ss h =
    elements_are_text ([], codes "stream") (codes "stream") (codes "type") stream_table (λ s. type_note s.stream_type s.said) stream_text ss (record { text = refl; short = omega arith })
    (λ s. type_tail s.stream_type s.said) lines_of_stream (stream_tables ss h)

programs_are_text : (ps : List ProgramPartView) → All FitsProgram ps
    → AreCommented true (elements ([], codes "program") (elements_of (map program_table ps))) (flat_map program_text ps)
unfolding key_text
programs_are_text ps h =
    elements_are_text ([], codes "program") (codes "program") (codes "service_descriptors") program_table (λ p. name_note p.name) program_text ps (record { text = refl; short = omega arith })
    (λ p. name_tail p.name) lines_of_program (program_tables ps h)

events_are_text : (es : List EventPartView) → All FitsEvent es
    → AreCommented true (elements ([], codes "event") (elements_of (map event_table es))) (flat_map event_text es)
unfolding key_text
events_are_text es h =
    elements_are_text ([], codes "event") (codes "event") (codes "descriptors") event_table (λ e. name_note e.name) event_text es (record { text = refl; short = omega arith })
    (λ e. name_tail e.name) (λ e. lines_of_event e.descriptors e) (event_tables es h)

arrays_are_text : (ps : List ProgramPartView) (ss : List StreamPartView) (qs : List TablePartView) → All FitsProgram ps → All FitsStream ss → All FitsTable qs
    → AreCommented true (arrays (map program_table ps) (map stream_table ss) (map table_table qs)) (array_lines ps ss qs)
arrays_are_text ps ss qs a b w =
    let us = elements ([], codes "stream") (elements_of (map stream_table ss)) in
    let ws = elements ([], codes "table") (elements_of (map table_table qs)) ++ [] in
    let two = commented_both true us ws (flat_map stream_text ss) (flat_map table_text qs) (streams_are_text ss b) (last_is_text qs w) in
    commented_both true (elements ([], codes "program") (elements_of (map program_table ps))) (us ++ ws) (flat_map program_text ps)
    (flat_map stream_text ss ++ flat_map table_text qs) (programs_are_text ps a) two

tables_are_text : (n : Option NetworkPartView) (ps : List ProgramPartView) (ss : List StreamPartView) (qs : List TablePartView) → FitsNetwork n →
    All FitsProgram ps → All FitsStream ss → All FitsTable qs →
    AreCommented true (tables (option_map network_table n) (map program_table ps) (map stream_table ss) (map table_table qs)) (table_lines n ps ss qs)
tables_are_text n ps ss qs t a b w =
    commented_both true (expressions_if_any (codes "network") (option_map network_table n))
    (arrays (map program_table ps) (map stream_table ss) (map table_table qs)) (network_if_any n) (array_lines ps ss qs)
    (network_is_text n t) (arrays_are_text ps ss qs a b w)

all_are_text : (es : List EventPartView) (n : Option NetworkPartView) (ps : List ProgramPartView) (ss : List StreamPartView) (qs : List TablePartView) →
    All FitsEvent es → FitsNetwork n → All FitsProgram ps → All FitsStream ss → All FitsTable qs →
    AreCommented true (all_tables_of (map event_table es) (option_map network_table n) (map program_table ps) (map stream_table ss) (map table_table qs))
    (all_lines es n ps ss qs)
all_are_text es n ps ss qs e t a b w =
    commented_both true (elements ([], codes "event") (elements_of (map event_table es)))
    (tables (option_map network_table n) (map program_table ps) (map stream_table ss) (map table_table qs))
    (flat_map event_text es) (table_lines n ps ss qs) (events_are_text es e) (tables_are_text n ps ss qs t a b w)

document_is_text : (h : HeadingView) (es : List EventPartView) (n : Option NetworkPartView) (ps : List ProgramPartView) (ss : List StreamPartView)
    (qs : List TablePartView) → FitsHeading h → All FitsEvent es → FitsNetwork n → All FitsProgram ps → All FitsStream ss → All FitsTable qs
    → AreCommented false
    (expressions (document h (map event_table es) (option_map network_table n) (map program_table ps) (map stream_table ss) (map table_table qs)))
    (heading_text h ++ all_lines es n ps ss qs)
document_is_text h es n ps ss qs f e t a b w =
    let vs = map event_table es in
    let network = option_map network_table n in
    let ts = map program_table ps in
    let us = map stream_table ss in
    let ws = map table_table qs in
    let head = pairs (document h [] None [] [] []) in
    let rest = all_tables_of vs network ts us ws in
    let text = all_lines es n ps ss qs in
    let first : AreCommented false head (heading_text h) =
    subst (λ (t : List ℕ). AreCommented false head t) (heading_lines h) (lines_are_text false (document h [] None [] [] []) (heading_scalars h f)) in
    let second : AreCommented (after false head) rest text =
    subst (λ (s : Bool). AreCommented s rest text) (sym (begun head (omega arith))) (all_are_text es n ps ss qs e t a b w) in
    let whole = commented_both false head rest (heading_text h) text first second in
    let same : expressions (document h vs network ts us ws) ≡ head ++ rest =
    ap₂ (λ (xs ys : List Expression). xs ++ ys) (whole_pairs h vs network ts us ws) (whole_sections h vs network ts us ws) in
    subst (λ (es : List Expression). AreCommented false es (heading_text h ++ text)) (sym same) whole

before_events : (other : List ℕ) (h : HeadingView) (n : Option Members) (ts us ws : List Members) → is_lt (slice_cmp nat_cmp other (codes "network")) ≡ true
    → is_lt (slice_cmp nat_cmp other (codes "original_network_id")) ≡ true → is_before other (after_events h n ts us ws) ≡ true
before_events other h n ts us ws first last = before_table other (codes "network") n (after_network h ts us ws) first last

tables_sorted : (h : HeadingView) (es : List Members) (n : Option Members) (ts us ws : List Members) → AreTables es → IsTable n → AreTables ts →
    AreTables us → AreTables ws →
    members_are_sorted (after_clock h es n ts us ws) ≡ true
tables_sorted h es n ts us ws e t a b w =
    rw (
      sorted_past (codes "event") es (after_events h n ts us ws) (before_events (codes "event") h n ts us ws refl refl) e,
      sorted_past_table (codes "network") n (after_network h ts us ws) refl t,
      before_tables (codes "original_network_id") (codes "program") ts (after_programs h us ws) refl refl,
      sorted_past (codes "program") ts (after_programs h us ws) refl a,
      before_tables (codes "start") (codes "stream") us (after_streams h ws) refl (before_tables (codes "start") (codes "table") ws (after_tables h) refl refl),
      sorted_past (codes "stream") us (after_streams h ws) (before_tables (codes "stream") (codes "table") ws (after_tables h) refl refl) b,
      sorted_past (codes "table") ws (after_tables h) refl w,
      set_after (codes "tdt") (codes "transponder") h.transponder (after_flag h) refl refl,
      set_sorted (codes "transponder") h.transponder (after_flag h) refl refl,
    )

document_sorted : (h : HeadingView) (es : List Members) (n : Option Members) (ts us ws : List Members) → AreTables es → IsTable n → AreTables ts →
    AreTables us → AreTables ws →
    members_are_sorted (document h es n ts us ws) ≡ true
document_sorted h es n ts us ws e t a b w =
    rw (
      any_after (codes "base0") (codes "clock_pid") h.clock_pid (after_clock h es n ts us ws) refl
          (before_tables (codes "base0") (codes "event") es (after_events h n ts us ws) refl (before_events (codes "base0") h n ts us ws refl refl)),
      any_sorted (codes "clock_pid") h.clock_pid (after_clock h es n ts us ws)
          (before_tables (codes "clock_pid") (codes "event") es (after_events h n ts us ws) refl (before_events (codes "clock_pid") h n ts us ws refl refl))
          (tables_sorted h es n ts us ws e t a b w),
    )

pub texts_are_read : TextsAreRead
texts_are_read h es n ps ss qs f e m p s q =
    document_read (document h (map event_table es) (option_map network_table n) (map program_table ps) (map stream_table ss) (map table_table qs)) _
    (document_is_text h es n ps ss qs f e m p s q)
    (document_sorted h (map event_table es) (option_map network_table n) (map program_table ps) (map stream_table ss) (map table_table qs)
    (event_tables es e) (network_table_fits n m) (program_tables ps p) (stream_tables ss s) (private_tables qs q))
