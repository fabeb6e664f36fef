-- The buffers of a stream of a run begin with the first packet of its PID if the tables come before that packet.
use Rattle.std.proofs.Common.{◌≡◌, ◌∙◌, sym, ℕ, zero, suc, ◌+◌, ◌^◌, ◌≤◌, ◌<◌, ◌&&◌, not, is_some, Bool, true, false, List, [], ◌∷◌, ◌++◌, length, map, Option}
use Rattle.std.proofs.Common.{Some, None, if◌then◌else◌, refl, ap, subst, inl, inr, nat_eq, arith, append_assoc, append-nil, eqb-true}
use Rattle.std.specs.Prelude.{slice_get}
use Rattle.std.specs.List.{concat}
use Rattle.std.specs.Map.{lookup}
use Rattle.std.specs.Option.{option_or}
use Rattle.std.proofs.lemmas.List.{length-append}
use Rattle.ts_packet.specs.Views.{PacketView}
use Rattle.ts_packet.specs.Reading.{packet_at}
use Rattle.ts_packet.specs.PidList.{Entry, cut_packets, pid_list}
use Rattle.ts_packet.proofs.Listing.{first_cut}
use Rattle.pes_packet.specs.AccessUnits.{AccessUnit}
use Rattle.slot_contents.specs.Contents.{Content, packet_of, run_bytes}
use Rattle.slot_contents.specs.RunLaws.{Fits}
use Rattle.slot_contents.proofs.Runs.{content_again}
use Rattle.description_parts.specs.Ranges.{IsInRange}
use Rattle.slot_plan.specs.Promised.{Promised}
use Rattle.demux.specs.Stream.{pushed, start as first_state}
use Rattle.mux_core.specs.Scheduled.{Scheduled}
use Rattle.mux_core.specs.Headline.{Headline, UnitsKept}
use Rattle.mux_core.specs.Histories.{content_at, owned_stream}
use Rattle.mux_core.specs.WholeJobs.{job_history, output_of}
use Rattle.mux_core.proofs.JobWriting.{output_bytes}
use Rattle.mux_core.proofs.Whole.{contents_fit, headline}
use Rattle.pes_packet.specs.Units.{units_of}
use Rattle.laws_run.proofs.MonitoredJobs.{job_kept}
use Rattle.laws_run.specs.TablesFirst.{DueLate}
use Rattle.slot_plan.specs.TableRounds.{section_starts}
use Rattle.laws_run.proofs.TablesFirst.{begun_twice}
use Rattle.laws_run.proofs.TwoStarts.{TwoStarts}
use Rattle.stream_programs.specs.Programs.{FoundProgramsView}
use Rattle.stream_programs.specs.Streams.{FoundStreamView}
use Rattle.program_tables.specs.Association.{association, first_pat}
use Rattle.ts_tables.specs.Laws.{bytes_of, first_streams, found_of, state_of}
use Rattle.ts_tables.specs.NamedStreams.{NamedView, is_last, stream_by, stream_of, streams_at, streams_by, taken as named_with, taken_if as named_if}
use Rattle.ts_tables.proofs.First.{first_law}
use Rattle.es_events.specs.declared.view_options.ViewOptions.{ViewOptions}
use Rattle.ts_watch.specs.Choices.{RequestView, chosen}
use Rattle.es_events.specs.Clocks.{ClockEntries}
use Rattle.es_view.specs.Entries.{EntryState}
use Rattle.ts_report.specs.StreamTables.{TableState, beginning, begun, begun_if, taken, taken_at, taken_if}
use Rattle.ts_report.specs.Seen.{next_window}
use Rattle.ts_report.specs.Views.{ViewState, after_all, clocked, start, with_begun, with_packet}
use Rattle.tstd.specs.PidPackets.{packets_from}
use Rattle.laws_view.specs.StreamPackets.{most_packets, sound_packet}
use Rattle.laws_view.specs.CarriedStreams.{cut_senders}
use Rattle.laws_view.specs.WholeStreams.{IsWhole, followed, nothing_known}
use Rattle.laws_view.specs.ViewedRuns.{FromTheFirst, IsViewedAs, JobFirstLaw, JobLateUnitsLaw, RunFirstLaw, RunLateUnitsLaw}
use Rattle.laws_view.proofs.ClockAhead.{entries_from, listed}
use Rattle.laws_view.proofs.Entries.{Agree, new_place}
use Rattle.laws_view.proofs.FirstTables.{streams_known}
use Rattle.laws_view.proofs.Lists.{lookup_same}
use Rattle.laws_view.proofs.RunUnits.{cuts_of}
use Rattle.laws_view.proofs.MuxedMain.{job_main_law, run_main_law, run_viewed}
use Rattle.laws_view.proofs.PidEntries.{packets_entries, pid_entries}
use Rattle.laws_view.proofs.SentUnits.{AllSent, entry_packet}
use Rattle.laws_view.proofs.Steps.{after_sound, next, packet_is, sound_agrees, sound_packets}
use Rattle.laws_view.proofs.Whole.{entry_stays, index_all, knows_all, none_agree}

-- What a packet does not change: the known streams, the choice, and the places of streams whose buffers have begun

named_sound : (s : ViewState) (o : Option PacketView) → (after_sound s o).seen.named ≡ s.seen.named
unfolding after_sound
named_sound s None = refl
named_sound s (Some packet) = refl

named_next : (s : ViewState) (bytes : List ℕ) → (next s bytes).seen.named ≡ named_with s.seen.named bytes
named_next s bytes = ap (λ (n : NamedView). named_with n bytes) (named_sound s (sound_packet (packet_at bytes)))

known_stays : (n : NamedView) (bytes : List ℕ) (found : FoundProgramsView) → n.streams ≡ Some found → (named_with n bytes).streams ≡ Some found
unfolding named_if
known_stays n bytes found e = ap (λ (o : Option FoundProgramsView). (named_if n o bytes).streams) e ∙ e

pub all_next : (s : ViewState) (bytes : List ℕ) (packets : List (List ℕ)) → after_all s (bytes ∷ packets) ≡ after_all (next s bytes) packets
unfolding after_all
all_next s bytes packets = ap (λ (x : ViewState). after_all x packets) (packet_is s bytes)

streams_stay : (s : ViewState) (packets : List (List ℕ)) (found : FoundProgramsView) → s.seen.named.streams ≡ Some found →
    (after_all s packets).seen.named.streams ≡ Some found
unfolding after_all
streams_stay s [] found e = e
streams_stay s (bytes ∷ packets) found e =
    ap (λ (x : ViewState). x.seen.named.streams) (all_next s bytes packets)
    ∙ streams_stay (next s bytes) packets found (ap (λ (n : NamedView). n.streams) (named_next s bytes) ∙ known_stays s.seen.named bytes found e)

taken_keeps : (options : ViewOptions) (index window : ℕ) (clocks : ClockEntries) (t : TableState) (packet : PacketView) →
    ((taken options index window clocks t packet).choice ≡ t.choice) × ((taken options index window clocks t packet).places ≡ t.places)
taken_keeps options index window clocks t packet = by (lookup (nat_eq packet.header.pid) t.places)
  where
    at : (place : ℕ) (o : Option EntryState) →
        ((taken_at options index window clocks t packet place o).choice ≡ t.choice) ×
        ((taken_at options index window clocks t packet place o).places ≡ t.places)
    at place None = unfold taken_at in (refl, refl)
    at place (Some e) = unfold taken_at in (refl, refl)

    by : (o : Option ℕ) →
        ((taken_if options index window clocks t packet o).choice ≡ t.choice) × ((taken_if options index window clocks t packet o).places ≡ t.places)
    by None = unfold taken_if in (refl, refl)
    by (Some place) = unfold taken_if in (at place (slice_get t.entries place))

begun_keeps : (options : ViewOptions) (named : NamedView) (t : TableState) (packet : PacketView) → (begun options named t packet).choice ≡ t.choice
unfolding begun_if
begun_keeps options named t packet = by (beginning named t packet)
  where
    by : (o : Option FoundStreamView) → (begun_if options named t packet o).choice ≡ t.choice
    by None = refl
    by (Some stream) = refl

choice_sound : (s : ViewState) (o : Option PacketView) → (after_sound s o).table.choice ≡ s.table.choice
unfolding after_sound
choice_sound s None = refl
choice_sound s (Some packet) =
    let c : ViewState = clocked s packet in
    (taken_keeps c.seen.options c.seen.packets (next_window c.seen) c.seen.clocks (with_begun c packet) packet).0
    ∙ begun_keeps c.seen.options c.seen.named c.table packet

choice_stays : (s : ViewState) (packets : List (List ℕ)) → (after_all s packets).table.choice ≡ s.table.choice
unfolding after_all
choice_stays s [] = refl
choice_stays s (bytes ∷ packets) =
    ap (λ (x : ViewState). x.table.choice) (all_next s bytes packets) ∙ choice_stays (next s bytes) packets ∙ choice_sound s (sound_packet (packet_at bytes))

pub agree_stays : (s : ViewState) (packets : List (List ℕ)) → Agree s.table → Agree (after_all s packets).table
unfolding after_all
agree_stays s [] agree = agree
agree_stays s (bytes ∷ packets) agree =
    subst (λ (x : ViewState). Agree x.table) (sym (all_next s bytes packets))
    (agree_stays (next s bytes) packets (sound_agrees s (sound_packet (packet_at bytes)) agree))

place_stays : (s : ViewState) (packets : List (List ℕ)) (pid j : ℕ) → Agree s.table → s.seen.packets + length packets < 2 ^ 64 →
    lookup (nat_eq pid) s.table.places ≡ Some j →
    lookup (nat_eq pid) (after_all s packets).table.places ≡ Some j
place_stays s packets pid j agree few there =
    let entry = agree.at pid j there in
    let later = entry_stays s packets j entry.0 agree few entry.1.0 in
    let of = (agree_stays s packets agree).of j later.0 later.1.0 in
    ap (λ (q : ℕ). lookup (nat_eq q) (after_all s packets).table.places) (sym (later.1.1 ∙ entry.1.1)) ∙ of

-- The buffers of a stream begin as soon as they can.

begins_place : (s : ViewState) (packet : PacketView) (stream : FoundStreamView) → beginning s.seen.named s.table packet ≡ Some stream →
    lookup (nat_eq packet.header.pid) (with_packet s packet).table.places ≡ Some (length s.table.entries)
unfolding begun_if
begins_place s packet stream begins =
    let c : ViewState = clocked s packet in
    ap (λ (ps : List (ℕ × ℕ)). lookup (nat_eq packet.header.pid) ps)
    (taken_keeps c.seen.options c.seen.packets (next_window c.seen) c.seen.clocks (with_begun c packet) packet).1
    ∙ rw begins (lookup_same s.table.places packet.header.pid (length s.table.entries))

chosen_is : (a : Bool) (o : Option ℕ) (c : Option FoundStreamView) (stream : FoundStreamView) → (if a && not (is_some o) then c else None) ≡ Some stream →
    c ≡ Some stream
chosen_is true None c stream e = e
chosen_is true (Some j) c stream e = absurd (let no : ⊥ = cc in no)
chosen_is false None c stream e = absurd (let no : ⊥ = cc in no)
chosen_is false (Some j) c stream e = absurd (let no : ⊥ = cc in no)

begins_if : (a : Bool) (o : Option ℕ) (c : Option FoundStreamView) (stream : FoundStreamView) → a ≡ true → o ≡ None → c ≡ Some stream →
    (if a && not (is_some o) then c else None) ≡ Some stream
begins_if a o c stream start none is = rw (start, none) is

nothing_there : (places : List (ℕ × ℕ)) (pid j : ℕ) → lookup (nat_eq pid) places ≡ None → lookup (nat_eq pid) places ≡ Some j → ⊥
nothing_there places pid j none some = let both : None ≡ Some j = sym none ∙ some in (let no : ⊥ = cc in no)

table_next : (s : ViewState) (bytes : List ℕ) (packet : PacketView) → sound_packet (packet_at bytes) ≡ Some packet →
    (next s bytes).table ≡ (with_packet s packet).table
unfolding after_sound
table_next s bytes packet sound = ap (λ (o : Option PacketView). (after_sound s o).table) sound

-- If a unit begins on a PID once the streams are known, no later packet of this PID begins a stream.
not_later : (s : ViewState) (bytes : List ℕ) (post : List (List ℕ)) (first packet : PacketView) (found : FoundProgramsView) (stream : FoundStreamView) →
    Agree s.table →
    s.seen.packets + length (bytes ∷ post) < 2 ^ 64 → s.seen.named.streams ≡ Some found → sound_packet (packet_at bytes) ≡ Some first →
    first.header.payload_unit_start_indicator ≡ true → first.header.pid ≡ packet.header.pid →
    beginning (after_all s (bytes ∷ post)).seen.named (after_all s (bytes ∷ post)).table packet ≡ Some stream → ⊥
not_later s bytes post first packet found stream agree few known sound starts same begins = by (lookup (nat_eq first.header.pid) s.table.places) refl
  where
    later : ViewState
    later = after_all s (bytes ∷ post)

    new : lookup (nat_eq first.header.pid) later.table.places ≡ None
    new = ap (λ (q : ℕ). lookup (nat_eq q) later.table.places) same ∙ new_place later.seen.named later.table packet stream begins

    is : chosen s.table.choice (stream_by first.header.pid s.seen.named.streams) ≡ Some stream
    is = ap (λ (o : Option FoundProgramsView). chosen s.table.choice (stream_by first.header.pid o)) (known ∙ sym (streams_stay s (bytes ∷ post) found known))
        ∙ ap (λ (q : ℕ). chosen s.table.choice (stream_by q later.seen.named.streams)) same
        ∙ ap (λ c. chosen c (stream_by packet.header.pid later.seen.named.streams)) (sym (choice_stays s (bytes ∷ post)))
        ∙ chosen_is packet.header.payload_unit_start_indicator (lookup (nat_eq packet.header.pid) later.table.places)
        (chosen later.table.choice (stream_of later.seen.named packet.header.pid)) stream begins

    by : (o : Option ℕ) → lookup (nat_eq first.header.pid) s.table.places ≡ o → ⊥
    by (Some j) there = nothing_there later.table.places first.header.pid j new (place_stays s (bytes ∷ post) first.header.pid j agree few there)
    by None none =
        let begin : beginning s.seen.named s.table first ≡ Some stream =
        begins_if first.header.payload_unit_start_indicator (lookup (nat_eq first.header.pid) s.table.places)
        (chosen s.table.choice (stream_of s.seen.named first.header.pid)) stream starts none is in
        let o : Option PacketView = sound_packet (packet_at bytes) in
        let place : lookup (nat_eq first.header.pid) (next s bytes).table.places ≡ Some (length s.table.entries) =
        ap (λ (t : TableState). lookup (nat_eq first.header.pid) t.places) (table_next s bytes first sound) ∙ begins_place s first stream begin in
        let count : (next s bytes).seen.packets ≡ s.seen.packets + 1 = sound_packets s o (omega (arith, few)) in
        let kept : lookup (nat_eq first.header.pid) (after_all (next s bytes) post).table.places ≡ Some (length s.table.entries) =
        place_stays (next s bytes) post first.header.pid (length s.table.entries) (sound_agrees s o agree) (omega (arith, few, count)) place in
        nothing_there later.table.places first.header.pid (length s.table.entries) new
        (ap (λ (x : ViewState). lookup (nat_eq first.header.pid) x.table.places) (all_next s bytes post) ∙ kept)

-- The first packet of a PID

record FirstEntry (pid i : ℕ) (chunks : List (List ℕ)) (e : Entry) : Type 0 where
  pre : List (List ℕ)
  bytes : List ℕ
  post : List (List ℕ)
  split : chunks ≡ pre ++ bytes ∷ post
  index : e.index ≡ i + length pre
  sound : sound_packet (packet_at bytes) ≡ Some e.packet
  on : e.packet.header.pid ≡ pid

entry_later : (pid i : ℕ) (x : List ℕ) (chunks : List (List ℕ)) (e : Entry) → FirstEntry pid (i + 1) chunks e → FirstEntry pid i (x ∷ chunks) e
entry_later pid i x chunks e f = record {
  pre = x ∷ f.pre;
  bytes = f.bytes;
  post = f.post;
  split = ap (λ (l : List (List ℕ)). x ∷ l) f.split;
  index = omega (arith, f.index);
  sound = f.sound;
  on = f.on;
}

entry_here : (pid i : ℕ) (x : List ℕ) (chunks : List (List ℕ)) (o : Option PacketView) (e : Entry) (rest es : List Entry) → sound_packet (packet_at x) ≡ o →
    listed pid i x o rest ≡ e ∷ es →
    (rest ≡ e ∷ es → FirstEntry pid i (x ∷ chunks) e) → FirstEntry pid i (x ∷ chunks) e
unfolding listed
entry_here pid i x chunks None e rest es sound is later = later is
entry_here pid i x chunks (Some packet) e rest es sound is later = by (nat_eq pid packet.header.pid) refl is
  where
    one : Entry
    one = record { index = i; bytes = x; packet = packet }

    by : (b : Bool) → nat_eq pid packet.header.pid ≡ b → (if nat_eq pid packet.header.pid then one ∷ rest else rest) ≡ e ∷ es → FirstEntry pid i (x ∷ chunks) e
    by false h is = later (rw h at is)
    by true h is =
        let both : one ∷ rest ≡ e ∷ es = rw h at is in
        let same : one ≡ e = cc in
        let at : i ≡ e.index = ap (λ (y : Entry). y.index) same in
        record {
          pre = [];
          bytes = x;
          post = chunks;
          split = refl;
          index = omega (arith, at);
          sound = sound ∙ ap (λ (y : Entry). Some y.packet) same;
          on = ap (λ (y : Entry). y.packet.header.pid) (sym same) ∙ sym (eqb-true pid packet.header.pid h);
        }

first_entry : (pid i : ℕ) (chunks : List (List ℕ)) (e : Entry) (es : List Entry) → entries_from pid i chunks ≡ e ∷ es → FirstEntry pid i chunks e
unfolding entries_from
first_entry pid i [] e es is = absurd (let no : ⊥ = cc in no)
first_entry pid i (x ∷ chunks) e es is =
    entry_here pid i x chunks (sound_packet (packet_at x)) e (entries_from pid (i + 1) chunks) es refl is
    (λ rest. entry_later pid i x chunks e (first_entry pid (i + 1) chunks e es rest))

-- The first packet of a PID that carries units begins a unit.
first_starts : (base0 n : ℕ) (e : Entry) (es : List Entry) (us : List AccessUnit) → AllSent base0 n None (e ∷ es) us →
    e.packet.header.payload_unit_start_indicator ≡ true
unfolding AllSent
first_starts base0 n e es [] sent = absurd sent
first_starts base0 n e es (u ∷ us) sent = elim sent.0.begins [
  | inl stamped ↦ stamped.0
  | inr goes ↦ absurd (let none : None ≡ Some u = goes.1 in (let no : ⊥ = cc in no))
]

-- The slots before the first packet

run_front : (content : ℕ → Content) (s n : ℕ) (pre rest : List (List ℕ)) → Fits content → cut_packets (run_bytes content s n) ≡ pre ++ rest →
    concat pre ≡ run_bytes content s (length pre)
unfolding run_bytes
run_front content s n [] rest fits e = refl
run_front content s zero (x ∷ pre) rest fits e = absurd (let no : ⊥ = cc in no)
run_front content s (suc n) (x ∷ pre) rest fits e =
    let cut = first_cut (packet_of (content s)) (run_bytes content (suc s) n) (content_again (content s) (fits s)).size in
    let both : packet_of (content s) ∷ cut_packets (run_bytes content (suc s) n) ≡ x ∷ (pre ++ rest) = sym cut ∙ e in
    let same : packet_of (content s) ≡ x = cc in
    let others : cut_packets (run_bytes content (suc s) n) ≡ pre ++ rest = cc in
    ap (λ (y : List ℕ). y ++ concat pre) (sym same) ∙ ap (λ (y : List ℕ). packet_of (content s) ++ y) (run_front content (suc s) n pre rest fits others)

-- Puts packets onto earlier packets, so that the last packet is first.
unfoldable onto : List (List ℕ) → List (List ℕ) → List (List ℕ)
onto [] earlier = earlier
onto (bytes ∷ packets) earlier = onto packets (bytes ∷ earlier)

named_all : (s : ViewState) (packets earlier : List (List ℕ)) → s.seen.named ≡ state_of earlier →
    (after_all s packets).seen.named ≡ state_of (onto packets earlier)
unfolding after_all state_of onto
named_all s [] earlier e = e
named_all s (bytes ∷ packets) earlier e =
    ap (λ (x : ViewState). x.seen.named) (all_next s bytes packets)
    ∙ named_all (next s bytes) packets (bytes ∷ earlier) (named_next s bytes ∙ ap (λ (n : NamedView). named_with n bytes) e)

nothing_named : (request : RequestView) → (start request).seen.named ≡ state_of []
unfolding state_of
nothing_named request = refl

bytes_all : (packets earlier : List (List ℕ)) → bytes_of (onto packets earlier) ≡ bytes_of earlier ++ concat packets
unfolding onto bytes_of
bytes_all [] earlier = sym (append-nil (bytes_of earlier))
bytes_all (bytes ∷ packets) earlier = bytes_all packets (bytes ∷ earlier) ∙ append_assoc (bytes_of earlier) bytes (concat packets)

bytes_front : (packets : List (List ℕ)) → bytes_of (onto packets []) ≡ concat packets
unfolding bytes_of
bytes_front packets = bytes_all packets []

known_first : (packets : List (List ℕ)) → ((last : Bool) → is_some (streams_at last (found_of packets)) ≡ true) → is_some (first_streams packets) ≡ true
unfolding first_streams bytes_of association first_pat streams_by
known_first [] known = known false
known_first (packet ∷ earlier) known =
    by (first_streams earlier) (streams_at (is_last (length (packet ∷ earlier))) (found_of (packet ∷ earlier))) (known (is_last (length (packet ∷ earlier))))
  where
    by : (o later : Option FoundProgramsView) → is_some later ≡ true → is_some (option_or o later) ≡ true
    by None later e = e
    by (Some f) later e = refl

some_found : (o : Option FoundProgramsView) → is_some o ≡ true → (found : FoundProgramsView) × (o ≡ Some found)
some_found None e = absurd (let no : ⊥ = cc in no)
some_found (Some found) e = (found, refl)

pub all_two : (s : ViewState) (xs ys : List (List ℕ)) → after_all s (xs ++ ys) ≡ after_all (after_all s xs) ys
unfolding after_all
all_two s [] ys = refl
all_two s (x ∷ xs) ys = all_next s x (xs ++ ys) ∙ all_two (next s x) xs ys ∙ ap (λ (y : ViewState). after_all y ys) (sym (all_next s x xs))

-- The buffers of a stream whose units are due late begin with the first packet of its PID.

from_the_first : (d : Scheduled) (units : ℕ → List AccessUnit) (slots : ℕ) (request : RequestView) (e : EntryState) (k : ℕ) → IsInRange d.description →
    Promised d.description d.schedule →
    UnitsKept d units → slots ≤ most_packets → IsViewedAs d request k e →
    (whole : IsWhole request d.description.rate (cut_packets (run_bytes (content_at d units) 0 slots)) e) →
    DueLate (units k) → FromTheFirst e.pid whole.begun.before
from_the_first d units slots request e k ranges promised kept few viewed whole late = by (entries_from pid 0 whole.begun.before) refl
  where
    pid : ℕ
    pid = viewed.stream.pid

    bytes : List ℕ
    bytes = run_bytes (content_at d units) 0 slots

    rest : List (List ℕ)
    rest = whole.begun.first ∷ whole.begun.later

    none : entries_from pid 0 whole.begun.before ≡ [] → FromTheFirst e.pid whole.begun.before
    none is = ap (λ (q : ℕ). packets_from q 0 whole.begun.before) viewed.pid ∙ sym (packets_entries pid 0 whole.begun.before)
        ∙ ap (λ (es : List Entry). map entry_packet es) is

    no_first : (first : Entry) (es : List Entry) → entries_from pid 0 whole.begun.before ≡ first ∷ es → ⊥
    no_first first es is =
        let v = run_viewed d units slots request e k ranges promised kept few viewed whole in
        let all : entries_from pid 0 (cut_packets bytes) ≡ first ∷ (es ++ entries_from pid (length whole.begun.before) rest) =
        v.entries ∙ ap (λ (l : List Entry). l ++ entries_from pid (length whole.begun.before) rest) is in
        let us : List AccessUnit = cut_senders (cuts_of (owned_stream d k viewed.stream) (units k)) in
        let starts = first_starts d.description.base0 v.sent.first first (es ++ entries_from pid (length whole.begun.before) rest) us
        (subst (λ (l : List Entry). AllSent d.description.base0 v.sent.first None l us) all v.sent.sent) in
        let there : slice_get (pid_list pid bytes) 0 ≡ Some first = ap (λ (l : List Entry). slice_get l 0) (pid_entries pid bytes ∙ all) in
        let f = first_entry pid 0 whole.begun.before first es is in
        let n : ℕ = length f.pre in
        let place : first.index ≡ n = omega (arith, f.index) in
        let cut : cut_packets bytes ≡ f.pre ++ ((f.bytes ∷ f.post) ++ rest) =
        whole.begun.split ∙ ap (λ (l : List (List ℕ)). l ++ rest) f.split ∙ append_assoc f.pre (f.bytes ∷ f.post) rest in
        let front : concat f.pre ≡ run_bytes (content_at d units) 0 n =
        run_front (content_at d units) 0 slots f.pre ((f.bytes ∷ f.post) ++ rest) (contents_fit d units ranges kept) cut in
        let many : length whole.begun.before ≡ n + suc (length f.post) = ap (λ (l : List (List ℕ)). length l) f.split
        ∙ length-append f.pre (f.bytes ∷ f.post) in
        let low : n < slots = omega (arith, many, v.lengths) in
        let h : Headline d units n (run_bytes (content_at d units) 0 n) = headline d units n ranges promised kept in
        let s : ViewState = after_all (start request) f.pre in
        let same_bytes : bytes_of (onto f.pre []) ≡ run_bytes (content_at d units) 0 n = bytes_front f.pre ∙ front in
        let known : is_some (first_streams (onto f.pre [])) ≡ true = known_first (onto f.pre [])
        (λ last. ap (λ (b : List ℕ). is_some (streams_at last (pushed first_state b).found)) same_bytes
        ∙ streams_known d units n last ranges kept (omega (arith, low, few)) h
        (record {
          twice = λ t lt limit. subst (λ (i : ℕ). TwoStarts (section_starts d.description d.schedule t 0) i) place
              (begun_twice d units slots k 0 viewed.stream first ranges promised kept viewed.there late there t lt limit);
        })) in
        let named : s.seen.named ≡ state_of (onto f.pre []) = named_all (start request) f.pre [] (nothing_named request) in
        let found = some_found (first_streams (onto f.pre [])) known in
        let streams : s.seen.named.streams ≡ Some found.0 = ap (λ (x : NamedView). x.streams) named ∙ first_law (onto f.pre []) ∙ found.1 in
        let knows = knows_all (start request) (followed request e) nothing_known f.pre (record { options = refl; index = refl; clock = refl })
        (omega (arith, low, few)) in
        let count : s.seen.packets ≡ n = sym knows.index ∙ index_all (followed request e) nothing_known f.pre
        ∙ (let zero_is : 0 + n ≡ n = omega arith in zero_is) in
        let is_later : after_all (start request) whole.begun.before ≡ after_all s (f.bytes ∷ f.post) =
        ap (λ (l : List (List ℕ)). after_all (start request) l) f.split ∙ all_two (start request) f.pre (f.bytes ∷ f.post) in
        not_later s f.bytes f.post first.packet whole.begun.packet found.0 whole.begun.stream (agree_stays (start request) f.pre (none_agree request))
        (omega (arith, count, many, v.lengths, few)) streams f.sound starts
        (f.on ∙ sym viewed.pid ∙ whole.begun.pid)
        (subst (λ (x : ViewState). beginning x.seen.named x.table whole.begun.packet ≡ Some whole.begun.stream) is_later whole.begun.begins)

    by : (es : List Entry) → entries_from pid 0 whole.begun.before ≡ es → FromTheFirst e.pid whole.begun.before
    by [] is = none is
    by (first ∷ es) is = absurd (no_first first es is)

pub run_first_law : RunFirstLaw
run_first_law = from_the_first

pub run_late_units_law : RunLateUnitsLaw
run_late_units_law d units slots request e k ranges promised kept few viewed whole late =
    (run_main_law d units slots request e k ranges promised kept few viewed whole).measured
    (from_the_first d units slots request e k ranges promised kept few viewed whole late)

pub job_first_law : JobFirstLaw
job_first_law d units slots request e k ranges promised none few viewed =
    let each : ℕ → List AccessUnit = λ j. units_of j units in
    let same : run_bytes (content_at d each) 0 slots ≡ output_of false d (job_history units slots) = sym (output_bytes (content_at d each) 0 slots) in
    subst (λ (bytes : List ℕ). (whole : IsWhole request d.description.rate (cut_packets bytes) e) → DueLate (units_of k units) →
    FromTheFirst e.pid whole.begun.before) same
    (from_the_first d each slots request e k ranges promised (job_kept d units ranges none) few viewed)

pub job_late_units_law : JobLateUnitsLaw
job_late_units_law d units slots request e k ranges promised none few viewed whole late =
    (job_main_law d units slots request e k ranges promised none few viewed whole).measured
    (job_first_law d units slots request e k ranges promised none few viewed whole late)
