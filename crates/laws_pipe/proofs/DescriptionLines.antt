-- No line of a description that `tsjob` writes is the first line of a plan.
use Rattle.std.proofs.Common.{◌≡◌, ℕ, pos, ◌==◌, Bool, true, false, if◌then◌else◌, decimal, List, [], ◌∷◌, ◌++◌, length, map, zip, flat_map, refl, ap, ◌∙◌}
use Rattle.std.proofs.Common.{subst, append_assoc, codes, Option, Some, None}
use Rattle.std.specs.Prelude.{nat_eq}
use Rattle.std.specs.List.{starts_with}
use Rattle.std.proofs.lemmas.Bool.{cond_both}
use Rattle.hex.specs.Hex.{encode_lower}
use Rattle.toml.specs.Data.{Data, string, integer, boolean, array}
use Rattle.unit_timing.specs.declared.allowance.Allowance.{Allowance}
use Rattle.unit_timing.specs.declared.allowance.Allowance.TheVariants.{Groups, Pace}
use Rattle.unit_timing.specs.declared.multiplexing_buffer.MultiplexingBuffer.{MultiplexingBuffer}
use Rattle.dvb_tables.specs.TransportStreams.{TransportStreamView}
use Rattle.pid_findings.specs.Views.{FindingView}
use Rattle.job_text.specs.DescriptionParts.{EventPartView, FramingPartView, HeadingView, NetworkPartView, ProgramPartView, StreamPartView, TablePartView}
use Rattle.job_text.specs.Fields.{burst_numbers, drain_numbers, frame_numbers, rest_numbers, group_numbers, last_numbers, leak_numbers, network_stream_numbers}
use Rattle.job_text.specs.Fields.{pace_numbers, place_numbers, program_numbers, size_numbers, table_numbers, time_numbers}
use Rattle.job_text.specs.KeyLines.{digits_of, header, hex_line, items_of, items_text, key_line, list_line, named_line, noted_line, number_if_any, number_line, number_lines, set_line, table_header}
use Rattle.job_text.specs.KeyLines.{value_text}
use Rattle.job_text.specs.Notes.{is_named, is_shown, name_note, note_of, type_note}
use Rattle.job_text.proofs.NoteLines.{notes_are_shown}
use Rattle.job_text.specs.Texts.{event_lines, event_names, event_numbers, event_place, event_text, framing_if_any, framing_text, heading_back, heading_numbers}
use Rattle.job_text.specs.Texts.{heading_text, network_if_any, network_names, network_own, network_stream_front, network_stream_text}
use Rattle.job_text.specs.Texts.{program_back, program_clock, program_front, program_service, program_status, program_text}
use Rattle.job_text.specs.Texts.{stream_end, stream_front, stream_place, stream_text, stream_times, table_back, table_front, table_text, type_line}
use Rattle.ts_services.specs.NetworkInformation.{stream_network}
use Rattle.ts_services.specs.Services.{service}
use Rattle.service_information.specs.Events.{FoundEventView}
use Rattle.service_information.specs.ShortEvents.{ShortEventView, short_event}
use Rattle.job_programs.specs.Events.{event_by, event_part, event_with, job_events, events_text, texts_of}
use Rattle.job_programs.specs.Information.{JobInformationView, NamedServiceView, information_of, service_for}
use Rattle.job_inputs.specs.JobInput.{JobInputView}
use Rattle.job_programs.specs.JobOptions.{JobOptionsView}
use Rattle.job_programs.specs.JobPrograms.{JobProgramView}
use Rattle.job_programs.specs.OtherStreams.{other_streams}
use Rattle.job_programs.specs.JobTables.{table_lines, table_part, tables_text}
use Rattle.stream_jobs.specs.SharedClocks.{sharing}
use Rattle.stream_jobs.specs.Texts.{description_text, heading_of, program_lines, program_part, program_with, programs_text, stream_lines}
use Rattle.stream_jobs.specs.Texts.{stream_part, streams_text}
use Rattle.job_parts.specs.Parts.{first_plan_line}
use Rattle.laws_pipe.proofs.PlainLines.{Passes, both_pass, flat_both, flat_if, is_flat, line_passes, none_passes}
use Rattle.laws_pipe.proofs.PlainNames.{PlainOptions, PlainPart, PlainService, begin_flat, decoded_flat, moment_flat, part_plain, service_plain}
use Rattle.laws_pipe.proofs.PlainTexts.{decimal_flat, hex_flat, string_flat}

-- 1. The line of a key

-- Text that begins with this key does not begin a plan.
abbrev IsOther : List ℕ → Type 0
IsOther key = (rest : List ℕ) → starts_with nat_eq (key ++ rest) first_plan_line ≡ false

-- The note beside a value contains no newline.
note_flat : (key : List ℕ) (value : Data) → is_flat (note_of key value) ≡ true
note_flat key value = flat_if is_shown (note_of key value) refl (notes_are_shown.0 key value)

type_flat : (s : StreamPartView) → is_flat (type_note s.stream_type s.said) ≡ true
type_flat s = flat_if is_shown (type_note s.stream_type s.said) refl (notes_are_shown.1 s.stream_type s.said)

noted_passes : (key : List ℕ) (value : Data) (note : List ℕ) → IsOther key → is_flat key ≡ true → is_flat (value_text value) ≡ true → is_flat note ≡ true →
    Passes (noted_line key value note)
unfolding noted_line
noted_passes key value note other plain flat noted =
    let said = value_text value ++ note in
    let both = flat_both (value_text value) note flat noted in
    let line : (key ++ (codes " = " ++ said)) ++ 10 ∷ [] ≡ key ++ (codes " = " ++ (value_text value ++ (note ++ codes "\n"))) =
    append_assoc key (codes " = " ++ said) (10 ∷ [])
    ∙ ap (λ (t : List ℕ). key ++ t)
    (append_assoc (codes " = ") said (10 ∷ []) ∙ ap (λ (t : List ℕ). codes " = " ++ t) (append_assoc (value_text value) note (10 ∷ []))) in
    subst Passes line
    (line_passes (key ++ (codes " = " ++ said))
    (flat_both key (codes " = " ++ said) plain (flat_both (codes " = ") said refl both))
    (λ rest. ap (λ (t : List ℕ). starts_with nat_eq t first_plan_line) (append_assoc key (codes " = " ++ said) (10 ∷ rest))
    ∙ other ((codes " = " ++ said) ++ 10 ∷ rest)))

key_passes : (key : List ℕ) (value : Data) → IsOther key → is_flat key ≡ true → is_flat (value_text value) ≡ true → Passes (key_line key value)
unfolding key_line noted_line
key_passes key value other plain flat = noted_passes key value (note_of key value) other plain flat (note_flat key value)

-- The line of descriptors passes, with the name beside them.
named_passes : (key bytes name : List ℕ) → IsOther key → is_flat key ≡ true → Passes (named_line key bytes name)
named_passes key bytes name other plain =
    noted_passes key (string (encode_lower bytes)) (name_note name) other plain (string_flat (encode_lower bytes) (hex_flat bytes))
    (flat_if is_named (name_note name) refl (notes_are_shown.2 name))

-- The line of a number passes.
number_passes : (key : List ℕ) (n : ℕ) → IsOther key → is_flat key ≡ true → Passes (number_line (key, n))
number_passes key n other plain = key_passes key (integer (pos n)) other plain (decimal_flat n)

-- The line of a stream_type passes.
type_passes : (s : StreamPartView) → Passes (type_line s)
type_passes s =
    noted_passes (codes "type") (integer (pos s.stream_type)) (type_note s.stream_type s.said) (λ rest. refl) refl (decimal_flat s.stream_type) (type_flat s)

abbrev AreOther : List (List ℕ × ℕ) → Type 0
AreOther [] = Unit {0}
AreOther (field ∷ fields) = IsOther field.0 × ((is_flat field.0 ≡ true) × AreOther fields)

numbers_pass : (fields : List (List ℕ × ℕ)) → AreOther fields → Passes (number_lines fields)
numbers_pass [] h = none_passes
numbers_pass (field ∷ fields) h = both_pass (number_line field) (number_lines fields) (number_passes field.0 field.1 h.0 h.1.0) (numbers_pass fields h.1.1)

-- Lines of a text and of bytes pass.
text_passes : (key s : List ℕ) → IsOther key → is_flat key ≡ true → is_flat s ≡ true → Passes (key_line key (string s))
text_passes key s other plain flat = key_passes key (string s) other plain (string_flat s flat)

bytes_pass : (bytes : List ℕ) → Passes (hex_line (codes "descriptors") bytes)
unfolding hex_line
bytes_pass bytes =
    cond_both (length bytes == 0) [] (key_line (codes "descriptors") (string (encode_lower bytes))) Passes (λ _. none_passes)
    (λ _. text_passes (codes "descriptors") (encode_lower bytes) (λ rest. refl) refl (hex_flat bytes))

-- The line of an array of numbers passes.
comma_flat : (is_first : Bool) → is_flat (if is_first then [] else codes ", ") ≡ true
comma_flat true = refl
comma_flat false = refl

items_flat : (is_first : Bool) (ns : List ℕ) → is_flat (items_text is_first (items_of ns)) ≡ true
items_flat is_first [] = refl
items_flat is_first (n ∷ ns) =
    flat_both (if is_first then [] else codes ", ") (decimal n ++ items_text false (items_of ns)) (comma_flat is_first)
    (flat_both (decimal n) (items_text false (items_of ns)) (decimal_flat n) (items_flat false ns))

list_passes : (key ns : List ℕ) → IsOther key → is_flat key ≡ true → Passes (list_line key ns)
unfolding list_line
list_passes key ns other plain =
    cond_both (length ns == 0) [] (key_line key (array (items_of ns))) Passes (λ _. none_passes)
    (λ _. key_passes key (array (items_of ns)) other plain
    (flat_both (codes "[") (items_text true (items_of ns)) refl (items_flat true ns)))

-- The line of an array of strings of digits passes.
digits_flat : (is_first : Bool) (bs : List (List ℕ)) → is_flat (items_text is_first (digits_of bs)) ≡ true
digits_flat is_first [] = refl
digits_flat is_first (b ∷ bs) =
    flat_both (if is_first then [] else codes ", ") (value_text (string (encode_lower b)) ++ items_text false (digits_of bs)) (comma_flat is_first)
    (flat_both (value_text (string (encode_lower b))) (items_text false (digits_of bs)) (string_flat (encode_lower b) (hex_flat b)) (digits_flat false bs))

sections_pass : (bs : List (List ℕ)) → Passes (key_line (codes "sections") (array (digits_of bs)))
sections_pass bs =
    key_passes (codes "sections") (array (digits_of bs)) (λ rest. refl) refl (flat_both (codes "[") (items_text true (digits_of bs)) refl (digits_flat true bs))

truth_flat : (b : Bool) → is_flat (value_text (boolean b)) ≡ true
truth_flat true = refl
truth_flat false = refl

truth_passes : (key : List ℕ) (b : Bool) → IsOther key → is_flat key ≡ true → Passes (key_line key (boolean b))
truth_passes key b other plain = key_passes key (boolean b) other plain (truth_flat b)

set_passes : (key : List ℕ) (b : Bool) → IsOther key → is_flat key ≡ true → Passes (set_line key b)
set_passes key true other plain = truth_passes key true other plain
set_passes key false other plain = none_passes

-- The line of a number passes, if there is a number.
any_passes : (key : List ℕ) (n : Option ℕ) → IsOther key → is_flat key ≡ true → Passes (number_lines (number_if_any key n))
any_passes key None other plain = none_passes
any_passes key (Some n) other plain = numbers_pass ((key, n) ∷ []) (other, (plain, tt))

-- 2. The parts of a description

empty_line : Passes (codes "\n")
empty_line = line_passes [] refl (λ rest. refl)

heading_passes : (h : HeadingView) → is_flat h.start ≡ true → Passes (heading_text h)
heading_passes h plain =
    let last = number_passes (codes "ts_id") h.transport_stream_id (λ rest. refl) refl in
    let whole = both_pass (set_line (codes "transponder") h.transponder) (number_line (codes "ts_id", h.transport_stream_id))
    (set_passes (codes "transponder") h.transponder (λ rest. refl) refl) last in
    let time = both_pass (key_line (codes "tdt") (boolean h.tdt)) _ (truth_passes (codes "tdt") h.tdt (λ rest. refl) refl) whole in
    let start = both_pass (key_line (codes "start") (string h.start)) (heading_back h) (text_passes (codes "start") h.start (λ rest. refl) refl plain) time in
    let services = both_pass (key_line (codes "sdt") (boolean h.sdt)) _ (truth_passes (codes "sdt") h.sdt (λ rest. refl) refl) start in
    let network = both_pass (number_line (codes "original_network_id", h.original_network_id)) (number_line (codes "rate", h.rate))
    (number_passes (codes "original_network_id") h.original_network_id (λ rest. refl) refl) (number_passes (codes "rate") h.rate (λ rest. refl) refl) in
    let clock = both_pass (number_lines (number_if_any (codes "clock_pid") h.clock_pid)) _
    (any_passes (codes "clock_pid") h.clock_pid (λ rest. refl) refl) network in
    let numbers = both_pass (number_line (codes "base0", h.base0)) _ (number_passes (codes "base0") h.base0 (λ rest. refl) refl) clock in
    both_pass (heading_numbers h) _ numbers services

network_header : Passes (table_header (codes "network"))
unfolding table_header
network_header = both_pass (codes "\n") (codes "[network]\n") empty_line (line_passes (codes "[network]") refl (λ rest. refl))

names_pass : (o : Option (List ℕ)) (n : NetworkPartView) → is_flat n.name ≡ true → Passes (network_names o n)
names_pass None n plain = text_passes (codes "name") n.name (λ rest. refl) refl plain
names_pass (Some bytes) n plain = named_passes (codes "network_descriptors") bytes n.name (λ rest. refl) refl

network_stream_header : Passes (header (codes "network.stream"))
unfolding header
network_stream_header = both_pass (codes "\n") (codes "[[network.stream]]\n") empty_line (line_passes (codes "[[network.stream]]") refl (λ rest. refl))

network_streams_pass : (ts : List TransportStreamView) → Passes (flat_map network_stream_text ts)
network_streams_pass [] = none_passes
network_streams_pass (t ∷ ts) =
    let front = both_pass (header (codes "network.stream")) (hex_line (codes "descriptors") t.descriptors) network_stream_header (bytes_pass t.descriptors) in
    let numbers = numbers_pass (network_stream_numbers t) ((λ rest. refl), (refl, ((λ rest. refl), (refl, tt)))) in
    both_pass (network_stream_text t) (flat_map network_stream_text ts) (both_pass (network_stream_front t) (number_lines (network_stream_numbers t)) front numbers)
    (network_streams_pass ts)

network_passes : (n : Option NetworkPartView) → PlainPart n → Passes (network_if_any n)
network_passes None plain = none_passes
network_passes (Some n) plain =
    let names = network_names n.network_descriptors n in
    let id = both_pass (number_line (codes "id", n.id)) names (number_passes (codes "id") n.id (λ rest. refl) refl)
    (names_pass n.network_descriptors n plain) in
    let keys = both_pass (hex_line (codes "descriptors") n.descriptors) _ (bytes_pass n.descriptors) id in
    let own = both_pass (table_header (codes "network")) _ network_header keys in
    both_pass (network_own n) (flat_map network_stream_text n.streams) own (network_streams_pass n.streams)

program_header : Passes (header (codes "program"))
unfolding header
program_header = both_pass (codes "\n") (codes "[[program]]\n") empty_line (line_passes (codes "[[program]]") refl (λ rest. refl))

clock_passes : (p : ProgramPartView) → Passes (program_clock p)
clock_passes p =
    let numbers = numbers_pass (program_numbers p) ((λ rest. refl), (refl, ((λ rest. refl), (refl, tt)))) in
    both_pass (number_lines (program_numbers p)) (number_lines (number_if_any (codes "pcr_pid") p.pcr_pid)) numbers
    (any_passes (codes "pcr_pid") p.pcr_pid (λ rest. refl) refl)

status_passes : (p : ProgramPartView) → Passes (program_status p)
status_passes p = any_passes (codes "running_status") p.running_status (λ rest. refl) refl

back_passes : (o : Option (List ℕ)) (p : ProgramPartView) → is_flat p.name ≡ true → is_flat p.provider ≡ true → Passes (program_back o p)
back_passes (Some bytes) p name provider =
    let loop = both_pass (program_status p) (named_line (codes "service_descriptors") bytes p.name) (status_passes p)
    (named_passes (codes "service_descriptors") bytes p.name (λ rest. refl) refl) in
    let last = both_pass (number_line (codes "pmt_pid", p.pmt_pid)) (program_status p ++ named_line (codes "service_descriptors") bytes p.name)
    (number_passes (codes "pmt_pid") p.pmt_pid (λ rest. refl) refl) loop in
    both_pass (program_clock p) _ (clock_passes p) last
back_passes None p name provider =
    let kind = both_pass (program_status p) (number_line (codes "service_type", p.service_type)) (status_passes p)
    (number_passes (codes "service_type") p.service_type (λ rest. refl) refl) in
    let texts =
    both_pass (key_line (codes "provider") (string p.provider)) (program_status p ++ number_line (codes "service_type", p.service_type))
    (text_passes (codes "provider") p.provider (λ rest. refl) refl provider) kind in
    let services = both_pass (number_line (codes "pmt_pid", p.pmt_pid)) _ (number_passes (codes "pmt_pid") p.pmt_pid (λ rest. refl) refl) texts in
    both_pass (key_line (codes "name") (string p.name)) (program_clock p ++ program_service p) (text_passes (codes "name") p.name (λ rest. refl) refl name)
    (both_pass (program_clock p) (program_service p) (clock_passes p) services)

program_passes : (p : ProgramPartView) → is_flat p.name ≡ true → is_flat p.provider ≡ true → Passes (program_text p)
program_passes p name provider =
    let front = both_pass (header (codes "program")) (hex_line (codes "descriptors") p.descriptors) program_header (bytes_pass p.descriptors) in
    both_pass (program_front p) (program_back p.service_descriptors p) front (back_passes p.service_descriptors p name provider)

event_header : Passes (header (codes "event"))
unfolding header
event_header = both_pass (codes "\n") (codes "[[event]]\n") empty_line (line_passes (codes "[[event]]") refl (λ rest. refl))

-- The texts of an event contain no newline.
pub record PlainEvent (e : EventPartView) : Type 0 where
  pub start : is_flat e.start ≡ true
  pub language : is_flat e.language ≡ true
  pub name : is_flat e.name ≡ true
  pub text : is_flat e.text ≡ true

numbers_of_event : (e : EventPartView) → Passes (number_lines (event_numbers e))
numbers_of_event e = numbers_pass (event_numbers e) ((λ rest. refl), (refl, ((λ rest. refl), (refl, tt))))

place_passes : (e : EventPartView) → PlainEvent e → Passes (event_place e)
place_passes e plain =
    both_pass (number_line (codes "program", e.program)) (key_line (codes "start") (string e.start))
    (number_passes (codes "program") e.program (λ rest. refl) refl) (text_passes (codes "start") e.start (λ rest. refl) refl plain.start)

lines_pass : (o : Option (List ℕ)) (e : EventPartView) → PlainEvent e → Passes (event_lines o e)
lines_pass (Some bytes) e plain =
    both_pass (named_line (codes "descriptors") bytes e.name) _ (named_passes (codes "descriptors") bytes e.name (λ rest. refl) refl)
    (both_pass (number_lines (event_numbers e)) (event_place e) (numbers_of_event e) (place_passes e plain))
lines_pass None e plain =
    let text = text_passes (codes "text") e.text (λ rest. refl) refl plain.text in
    let back = both_pass (event_place e) (key_line (codes "text") (string e.text)) (place_passes e plain) text in
    let name = text_passes (codes "name") e.name (λ rest. refl) refl plain.name in
    let names = both_pass (key_line (codes "language") (string e.language)) (key_line (codes "name") (string e.name))
    (text_passes (codes "language") e.language (λ rest. refl) refl plain.language) name in
    both_pass (number_lines (event_numbers e)) _ (numbers_of_event e) (both_pass (event_names e) _ names back)

event_passes : (e : EventPartView) → PlainEvent e → Passes (event_text e)
event_passes e plain = both_pass (header (codes "event")) (event_lines e.descriptors e) event_header (lines_pass e.descriptors e plain)

stream_header : Passes (header (codes "stream"))
unfolding header
stream_header = both_pass (codes "\n") (codes "[[stream]]\n") empty_line (line_passes (codes "[[stream]]") refl (λ rest. refl))

burst_passes : (a : Allowance) → Passes (number_lines (burst_numbers a))
burst_passes (Groups units packets) = none_passes
burst_passes (Pace burst pace) = numbers_pass (burst_numbers (Pace burst pace)) ((λ rest. refl), (refl, tt))

framing_passes : (f : FramingPartView) → Passes (framing_text f)
framing_passes f =
    let rest = numbers_pass (rest_numbers f) ((λ rest. refl), (refl, ((λ rest. refl), (refl, tt)))) in
    let sums = both_pass (list_line (codes "frame_left") f.left) (number_lines (rest_numbers f)) (list_passes (codes "frame_left") f.left (λ rest. refl) refl)
    rest in
    both_pass (number_lines (frame_numbers f)) _ (numbers_pass (frame_numbers f) ((λ rest. refl), (refl, tt))) sums

frames_pass : (f : Option FramingPartView) → Passes (framing_if_any f)
frames_pass None = none_passes
frames_pass (Some f) = framing_passes f

groups_pass : (a : Allowance) → Passes (number_lines (group_numbers a))
groups_pass (Groups units packets) = numbers_pass (group_numbers (Groups units packets)) ((λ rest. refl), (refl, ((λ rest. refl), (refl, tt))))
groups_pass (Pace burst pace) = none_passes

pace_passes : (a : Allowance) → Passes (number_lines (pace_numbers a))
pace_passes (Groups units packets) = none_passes
pace_passes (Pace burst pace) = numbers_pass (pace_numbers (Pace burst pace)) ((λ rest. refl), (refl, tt))

size_passes : (m : Option MultiplexingBuffer) → Passes (number_lines (size_numbers m))
size_passes None = none_passes
size_passes (Some m) = numbers_pass (size_numbers (Some m)) ((λ rest. refl), (refl, tt))

leak_passes : (m : Option MultiplexingBuffer) → Passes (number_lines (leak_numbers m))
leak_passes None = none_passes
leak_passes (Some m) = numbers_pass (leak_numbers (Some m)) ((λ rest. refl), (refl, tt))

stream_passes : (s : StreamPartView) → Passes (stream_text s)
stream_passes s =
    let groups = both_pass (framing_if_any s.framing) (number_lines (group_numbers s.allowance)) (frames_pass s.framing)
    (groups_pass s.allowance) in
    let frames = both_pass (hex_line (codes "descriptors") s.descriptors) _ (bytes_pass s.descriptors) groups in
    let burst = both_pass (number_lines (burst_numbers s.allowance)) _ (burst_passes s.allowance) frames in
    let front = both_pass (header (codes "stream")) _ stream_header burst in
    let times = numbers_pass (time_numbers s) ((λ rest. refl), (refl, ((λ rest. refl), (refl, ((λ rest. refl), (refl, ((λ rest. refl), (refl, tt)))))))) in
    let pace = both_pass (number_lines (size_numbers s.multiplexing)) (number_lines (pace_numbers s.allowance))
    (size_passes s.multiplexing) (pace_passes s.allowance) in
    let middle = both_pass (number_lines (time_numbers s)) _ times pace in
    let drain = numbers_pass (drain_numbers s) ((λ rest. refl), (refl, tt)) in
    let leak = both_pass (number_lines (leak_numbers s.multiplexing)) (number_lines (drain_numbers s)) (leak_passes s.multiplexing) drain in
    let limit = both_pass (number_lines (number_if_any (codes "pts_limit") s.pts_limit)) _ (any_passes (codes "pts_limit") s.pts_limit (λ rest. refl) refl) leak in
    let pids = numbers_pass (place_numbers s) ((λ rest. refl), (refl, ((λ rest. refl), (refl, tt)))) in
    let place = both_pass (number_lines (place_numbers s)) _ pids limit in
    let last = both_pass (number_lines (last_numbers s)) (type_line s) (numbers_pass (last_numbers s) ((λ rest. refl), (refl, tt))) (type_passes s) in
    let shared = both_pass (list_line (codes "shared_with") s.shared_with) (number_lines (last_numbers s) ++ type_line s)
    (list_passes (codes "shared_with") s.shared_with (λ rest. refl) refl) last in
    let back = both_pass (stream_place s) (stream_end s) place shared in
    both_pass (stream_front s) (stream_times s ++ (stream_place s ++ stream_end s)) front
    (both_pass (stream_times s) (stream_place s ++ stream_end s) middle back)

private_header : Passes (header (codes "table"))
unfolding header
private_header = both_pass (codes "\n") (codes "[[table]]\n") empty_line (line_passes (codes "[[table]]") refl (λ rest. refl))

private_passes : (t : TablePartView) → Passes (table_text t)
private_passes t =
    let descriptors = text_passes (codes "descriptors") (encode_lower t.descriptors) (λ rest. refl) refl (hex_flat t.descriptors) in
    let numbers = numbers_pass (table_numbers t) ((λ rest. refl), (refl, ((λ rest. refl), (refl, ((λ rest. refl), (refl, tt)))))) in
    let keys = both_pass (key_line (codes "descriptors") (string (encode_lower t.descriptors))) (number_lines (table_numbers t)) descriptors numbers in
    let front = both_pass (header (codes "table")) _ private_header keys in
    let back = both_pass (key_line (codes "sections") (array (digits_of t.sections))) (number_line (codes "stream_type", t.stream_type))
    (sections_pass t.sections) (number_passes (codes "stream_type") t.stream_type (λ rest. refl) refl) in
    both_pass (table_front t) (table_back t) front back

-- 3. The whole description

all_pass : {X : Type 0} (f : X → List ℕ) (xs : List X) → ((x : X) → Passes (f x)) → Passes (flat_map f xs)
all_pass f [] each = none_passes
all_pass f (x ∷ xs) each = both_pass (f x) (flat_map f xs) (each x) (all_pass f xs each)

-- Each element of a list has this property.
abbrev pub Each : {X : Type 0} → (X → Type 0) → List X → Type 0
Each P [] = Unit {0}
Each P (x ∷ xs) = P x × Each P xs

each_mapped : {X Y : Type 0} (f : X → Y) (P : Y → Type 0) (xs : List X) → ((x : X) → P (f x)) → Each P (map f xs)
each_mapped f P [] all = tt
each_mapped f P (x ∷ xs) all = (all x, each_mapped f P xs all)

-- The texts about the transport stream as a whole contain no newline.
pub record PlainInformation (i : JobInformationView) : Type 0 where
  pub start : is_flat i.start ≡ true
  pub network : PlainPart i.network
  pub events : Each PlainEvent i.events
  pub services : Each PlainService i.services

event_by_texts : (e : FoundEventView) (said : ShortEventView) → PlainEvent (event_by e said)
unfolding event_by event_with
event_by_texts e said = record {
  start = moment_flat e.start;
  language = decoded_flat 3 said.language;
  name = decoded_flat 100 said.name;
  text = decoded_flat 150 said.text;
}

one_event : (e : FoundEventView) → PlainEvent (event_part e)
one_event e = event_by_texts e (texts_of (short_event e.descriptors))

pub information_plain : (w : JobOptionsView) (id : ℕ) (findings : List FindingView) (programs : List JobProgramView) → PlainOptions w →
    PlainInformation (information_of w id findings programs)
unfolding information_of
information_plain w id findings programs plain = record {
  start = begin_flat w.start (job_events findings programs) findings plain.start;
  network = part_plain w.network (stream_network id findings) (other_streams id findings) plain.network;
  events = each_mapped event_part PlainEvent (job_events findings programs) one_event;
  services = each_mapped (service_for w.names findings) PlainService programs (λ p. service_plain w.names p.number (service p.number findings) plain.names);
}

heading_plain : (pids : List ℕ) (m : JobInputView) (rate : ℕ) → is_flat m.information.start ≡ true → is_flat (heading_of pids m rate).start ≡ true
unfolding heading_of
heading_plain pids m rate plain = plain

events_pass : (events : List EventPartView) → Each PlainEvent events → Passes (events_text events)
events_pass [] plain = none_passes
events_pass (e ∷ es) plain = both_pass (event_text e) (events_text es) (event_passes e plain.0) (events_pass es plain.1)

one_program : (limit : ℕ) (pids : List ℕ) (p : JobProgramView) (s : NamedServiceView) → PlainService s → Passes (program_lines limit pids (p, s))
unfolding program_with
one_program limit pids p s plain = program_passes (program_part limit pids (p, s)) plain.name plain.provider

programs_pass : (limit : ℕ) (pids : List ℕ) (programs : List JobProgramView) (services : List NamedServiceView) → Each PlainService services →
    Passes (programs_text limit pids programs services)
programs_pass limit pids [] services plain = none_passes
programs_pass limit pids (p ∷ ps) [] plain = none_passes
programs_pass limit pids (p ∷ ps) (s ∷ ss) plain =
    both_pass (program_lines limit pids (p, s)) (programs_text limit pids ps ss) (one_program limit pids p s plain.0) (programs_pass limit pids ps ss plain.1)

pub description_passes : (w : JobOptionsView) (m : JobInputView) (rate : ℕ) → PlainInformation m.information → Passes (description_text w m rate)
unfolding description_text
description_passes w m rate plain =
    let network = network_passes m.information.network plain.network in
    let pids = sharing w.clock m in
    let programs = programs_pass w.pcr_limit pids m.programs m.information.services plain.services in
    let streams = all_pass stream_lines (zip m.streams (zip m.unit_counts m.choices)) (λ s. stream_passes (stream_part s)) in
    let tables = all_pass (table_lines m.streams) m.tables (λ t. private_passes (table_part m.streams t)) in
    let last = both_pass (streams_text m.streams m.unit_counts m.choices) (tables_text m.streams m.tables) streams tables in
    let parts = both_pass (programs_text w.pcr_limit pids m.programs m.information.services) _ programs last in
    both_pass (heading_text (heading_of pids m rate)) _ (heading_passes (heading_of pids m rate) (heading_plain pids m rate plain.start))
    (both_pass (events_text m.information.events) _ (events_pass m.information.events plain.events)
    (both_pass (network_if_any m.information.network) _ network parts))
