-- In what a multiplexer wrote for a whole transponder no section comes too soon.
use Rattle.std.proofs.Common.{◌≡◌, ◌∙◌, ℕ, suc, ◌+◌, ◌-◌, ◌*◌, ◌/◌, ◌^◌, ◌≤◌, ◌<◌, ◌==◌, nat_le, Bool, true, false, cond, List, [], ◌∷◌, ◌++◌, length}
use Rattle.std.proofs.Common.{map, filter, take, drop, slice_get, inl, inr, Option, Some, None, refl, sym, ap, ap₂, subst, arith, All, lt-ltb}
use Rattle.std.specs.Prelude.{◌&&◌, not, nat_lt, slice_index}
use Rattle.std.specs.List.{cons_option}
use Rattle.std.proofs.lemmas.Bool.{cases_Bool, false≢true, leb-true}
use Rattle.std.proofs.lemmas.Nat.{le-div}
use Rattle.std.proofs.lemmas.Option.{slice_get_within}
use Rattle.std.proofs.lemmas.List.Elements.{All-head, All-tail, filter_map-append}
use Rattle.own_slots.specs.Slots.{own_slots}
use Rattle.own_slots.specs.Rounds.{starts}
use Rattle.pes_packet.specs.AccessUnits.{AccessUnit}
use Rattle.pes_packet.specs.Units.{units_of}
use Rattle.ts_packet.specs.declared.start.Start.TheVariants.{Begins}
use Rattle.ts_packet.specs.Beginnings.{start_by}
use Rattle.ts_packet.specs.PidList.{cut_packets, pid_list}
use Rattle.slot_contents.specs.Contents.{Piece, run_bytes}
use Rattle.slot_contents.proofs.Runs.{run_length}
use Rattle.description_parts.specs.Described.{DescribedStream}
use Rattle.description_parts.specs.Ranges.{IsInRange}
use Rattle.description_parts.specs.Tables.{eit_place, section_count, table_count, table_kind, table_kinds, table_pid}
use Rattle.description_parts.specs.declared.table_kind.TableKind.{TableKind}
use Rattle.description_parts.specs.declared.table_kind.TableKind.TheVariants.{Eit, Nit, Pat, Pmt, Private, Sdt, Tdt}
use Rattle.description.specs.SectionBytes.{table_bytes}
use Rattle.slot_plan.specs.Promised.{Promised}
use Rattle.slot_plan.specs.SectionDistances as plan
use Rattle.slot_plan.specs.TableRounds.{section_starts}
use Rattle.table_rounds.specs.Laws.{first_place}
use Rattle.table_rounds.specs.Parts.{filled, part_of}
use Rattle.table_rounds.specs.Tables.{Table as Rounds, begin_before, moment_before, place_at, round_places, SectionPlace}
use Rattle.pid_findings.specs.Findings.{findings_to_end}
use Rattle.pid_findings.specs.Views.{FindingView, IsSection, WhatView}
use Rattle.pid_findings.specs.declared.finding.Kind.{Kind}
use Rattle.pid_findings.specs.declared.finding.Kind.TheVariants.{Pes, Table}
use Rattle.demux.specs.Laws.{found_of, has_pid, with_pid_at}
use Rattle.demux.specs.Stream.{finished}
use Rattle.demux.specs.Stream as demux
use Rattle.demux.specs.FoundSoFar.{found_in_all, taken_all}
use Rattle.monitor.specs.Begins.{found_on}
use Rattle.monitor.proofs.FoundWhole.{found_whole, of_each}
use Rattle.laws_view.proofs.InsertedEntries.{same_number}
use Rattle.mux_core.specs.Scheduled.{Scheduled}
use Rattle.mux_core.specs.Headline.{UnitsKept}
use Rattle.mux_core.specs.Histories.{content_at, owned_stream, table_of}
use Rattle.mux_core.proofs.JobWriting.{output_bytes}
use Rattle.mux_core.proofs.TablesRead.{there as kind_there}
use Rattle.mux_core.proofs.Whole.{contents_fit}
use Rattle.laws_run.specs.Sent.{Ending, Sending, each_found, if_sent, last_of, next_of, sendings}
use Rattle.laws_run.specs.Sections.{filled_section, section_found, section_packets}
use Rattle.laws_run.specs.Units.{unit_found}
use Rattle.laws_run.specs.Rounds.{sections_of_rounds}
use Rattle.laws_run.specs.GivenBack.{IsSentOn}
use Rattle.laws_run.specs.Placed.{section_slots, sent_sections, sent_units}
use Rattle.laws_run.proofs.DescribedSections.{IsWritten}
use Rattle.laws_run.proofs.DistinguishableSections.{rounds_all}
use Rattle.laws_run.proofs.MonitoredJobs.{job_kept}
use Rattle.laws_run.proofs.NothingElse.{IsSilent, sent_or_silent}
use Rattle.laws_run.proofs.RunFindings.{given_back, has_places, has_room, is_run, silent_back}
use Rattle.laws_run.proofs.Soundness.{as_reported}
use Rattle.laws_run.proofs.TableBegins.{made_distinguishable}
use Rattle.laws_run.proofs.TablesWritten.{IsMade, text_written}
use Rattle.tr101290.specs.Distances.{extension_key, is_spaced, whole_ticks}
use Rattle.tr101290.specs.Parts.{part_of as part_in}
use Rattle.tr101290.specs.Sections.{begin_of, extension_in, extension_of, section_by, whole_by, whole_section}
use Rattle.tr101290.specs.declared.distances.WholeSection.{WholeSection}
use Rattle.tr101290.specs.declared.intervals.SectionBegin.{SectionBegin}
use Rattle.tr101290.specs.declared.intervals.TableTiming.TheVariants.{ConstantRate}
use Rattle.arrival.specs.declared.arrival.Arrival.{Arrival}
use Rattle.arrival.specs.declared.arrival.Arrival.TheVariants.{AtRate}
use Rattle.ts_report.specs.Seen.{table_timing}
use Rattle.ts_report.specs.Views.{start}
use Rattle.laws_view.specs.SectionsApart.{JobDistancesLaw, RunDistancesLaw, is_soon}
use Rattle.laws_view.specs.ViewedSections.{HasNoReadyMade, sections_in}
use Rattle.laws_view.proofs.KeyedSections.{OfProgram, first_extension, of_program, same_place, small_extension}
use Rattle.laws_view.proofs.LateEvents.{itself}
use Rattle.laws_view.proofs.MuxedFrames.{packet_sizes_are}
use Rattle.laws_view.proofs.OtherTables.{unit_none}
use Rattle.laws_view.proofs.PlacedSections.{ArePlaced, Begun, IsSent, LastPlace, SentFrom, after_packets, begin_upto, begun, last_place_before, plain_part, sections_placed, starts_there}
use Rattle.laws_view.proofs.FarSections.{AllFar, EachFar, IsFar, far_first, wholes}
use Rattle.laws_view.proofs.SoonEvents.{none_at_first, soon_along}
use Rattle.laws_view.proofs.ViewedSections.{alike_first}

-- 1. Lists of sections

unfoldable Bounded : List WholeSection → Type 0
Bounded [] = Unit {0}
Bounded (w ∷ ws) = (w.extension < 65536) × Bounded ws

-- The whole section that is found in packets from i to `last`
abbrev sent_section : ℕ → List ℕ → ℕ → ℕ → WholeSection
sent_section pid text i last = record {
  begin = record { pid = pid; table_id = slice_index text 0; part = part_in pid (slice_index text 0) (IsSection text); packet = i; place = i };
  extension = extension_in text;
  end = last;
}

section_is : (pid : ℕ) (e : Ending) (text : List ℕ) (i : ℕ) (is : List ℕ) → whole_section (with_pid_at pid (section_found e text i is))
    ≡ cond (nat_le (1 + length text) (184 * length (i ∷ is))) (Some (sent_section pid text i (last_of i is))) None
unfolding section_found section_by begin_of whole_by extension_of
section_is pid e text i is = elim (cases_Bool (nat_le (1 + length text) (184 * length (i ∷ is)))) [ inl y ↦ rw y refl | inr k ↦ rw k refl ]

-- What is so of the section, if it is whole, and of those after it
one_more : (P : List WholeSection → Type 0) (pid : ℕ) (e : Ending) (text : List ℕ) (i : ℕ) (is : List ℕ) (rest : List WholeSection) → P rest →
    (P rest → P (sent_section pid text i (last_of i is) ∷ rest)) → P (cons_option (whole_section (with_pid_at pid (section_found e text i is))) rest)
one_more P pid e text i is rest h more =
    subst (λ (o : Option WholeSection). P (cons_option o rest)) (sym (section_is pid e text i is)) (by (nat_le (1 + length text) (184 * length (i ∷ is))))
  where
    by : (b : Bool) → P (cons_option (cond b (Some (sent_section pid text i (last_of i is))) None) rest)
    by true = more h
    by false = h

abbrev found_sections : ℕ → ℕ → List (Sending (List ℕ)) → List WholeSection
found_sections pid n sent = wholes (map (with_pid_at pid) (each_found section_found n sent))

bounded : (pid n : ℕ) (texts : List (List ℕ)) (packets : List ℕ) → All IsWritten texts → Bounded (found_sections pid n (sendings section_packets texts packets))
unfolding each_found if_sent sendings Bounded
bounded pid n [] packets written = tt
bounded pid n (text ∷ texts) packets written =
    by (bounded pid n texts (drop (section_packets text) packets) (All-tail IsWritten text texts written)) (take (section_packets text) packets)
  where
    left : List (Sending (List ℕ))
    left = sendings section_packets texts (drop (section_packets text) packets)

    by : Bounded (found_sections pid n left) → (js : List ℕ) →
        Bounded (wholes (map (with_pid_at pid) (if_sent (section_found (next_of n left) text) js ++ each_found section_found n left)))
    by rest [] = rest
    by rest (i ∷ is) = one_more Bounded pid (next_of n left) text i is (found_sections pid n left) rest
        (λ h. (small_extension text (All-head IsWritten text texts written), h))

-- 2. Sections of one table

spaced_pid : (pid table_id : ℕ) → is_spaced pid table_id ≡ true → (nat_le 0x10 pid && nat_le pid 0x14) ≡ true
spaced_pid pid table_id e = by (nat_le 0x10 pid) (nat_le pid 0x14) (nat_le 0x40 table_id) (nat_le table_id 0x73) (not (table_id == 0x72)) e
  where
    by : (a b c f g : Bool) → (a && b && c && f && g) ≡ true → (a && b) ≡ true
    by true true c f g h = refl
    by true false c f g h = absurd (false≢true h)
    by false b c f g h = absurd (false≢true h)

-- 25 ms after the end of a slot are 675,000 ticks of 27 MHz after its begin.
ticks_pass : (rate last from to : ℕ) → 0 < rate → last ≤ from → 25 * rate ≤ (to - suc from) * 1504000 → 675000 ≤ whole_ticks rate (to - last)
ticks_pass rate last from to some low long = le-div 675000 ((to - last) * 40608000000) rate some (omega (arith, long, low))

begin_bytes : (bytes : List ℕ) (piece : Piece) → part_of bytes 0 ≡ Some piece → piece.bytes ≡ take 184 (filled bytes)
unfolding part_of
begin_bytes bytes piece e =
    let some : nat_lt (184 * 0) (1 + length bytes) ≡ true = lt-ltb (184 * 0) (1 + length bytes) (omega arith) in
    by (nat_lt (184 * 0) (1 + length bytes)) some e
  where
    by : (b : Bool) → b ≡ true → cond b (Some (record { start = start_by (0 == 0) false; bytes = take 184 (drop (184 * 0) (filled bytes)) })) None ≡ Some piece →
        piece.bytes ≡ take 184 (filled bytes)
    by true y f = let same : take 184 (drop (184 * 0) (filled bytes)) ≡ piece.bytes = cc in sym same
    by false y f = absurd (false≢true y)

module _ (d : Scheduled) (t : ℕ) (k : TableKind) (ranges : IsInRange d.description) (promised : Promised d.description d.schedule)
    (transponder : d.description.is_transponder ≡ true) (is : table_kind d.description t ≡ Some k) (made : IsMade k)
  where
    abbrev table : Rounds
    table = table_of d t

    abbrev pid : ℕ
    pid = table_pid d.description t

    within : t < table_count d.description
    within = slice_get_within (table_kinds d.description) t k is

    -- What is known of each section: it is written, and events say their program in the first packet, too.
    record IsKeyed (text : List ℕ) : Type 0 where
      written : IsWritten text
      events : k ≡ Eit → extension_in text ≡ first_extension (take 184 (filled_section text))

    text_keyed : (j moment : ℕ) → j < section_count d.description t → IsKeyed (table_bytes d.description t j moment)
    text_keyed j moment lt = record {
      written = text_written d.description t j moment k ranges is made lt;
      events = λ eit. let p = of_program d.description t j moment (is ∙ ap Some eit) lt in p.extension.whole ∙ sym p.extension.first;
    }

    all_keyed : (n : ℕ) → All IsKeyed (sections_of_rounds table n)
    all_keyed n = rounds_all IsKeyed table (own_slots (starts table.own (round_places table.lengths) 0) 0 n) (λ s j moment lt. text_keyed j moment lt)

    -- The first packet of a section of events has the number of the program of its place.
    says_program : (text : List ℕ) (least i last j : ℕ) → k ≡ Eit → IsKeyed text → IsSent table least text i last → j < section_count d.description t →
        place_at table i ≡ record { section = j; part = 0 } →
        (p : OfProgram d.description j (table_bytes d.description t j (moment_before table (suc i)))) × (extension_in text ≡ p.program.number)
    unfolding filled_section
    says_program text least i last j eit keyed sent lt place =
        let bytes : List ℕ = table_bytes d.description t j (moment_before table (suc i)) in
        let p = of_program d.description t j (moment_before table (suc i)) (is ∙ ap Some eit) lt in
        let piece : Piece = record { start = Begins; bytes = take 184 (filled_section text) } in
        let here : part_of bytes 0 ≡ Some piece =
        ap (λ (x : SectionPlace). part_of (table.bytes (begin_before table (suc i)) x.section (moment_before table (suc i))) x.part) (sym place)
        ∙ sym (plain_part table i refl) ∙ sent.piece in
        let same : take 184 (filled_section text) ≡ take 184 (filled bytes) = begin_bytes bytes piece here in
        (p, keyed.events eit ∙ ap first_extension same ∙ p.extension.first)

    one_sub_table : (o : TableKind) (i j : ℕ) → k ≡ o → (k ≡ Eit → (eit_place d.description i).0 ≡ (eit_place d.description j).0) →
        plan.kind_sub_table d.description i o ≡ plan.kind_sub_table d.description j o
    one_sub_table Pat i j e same = refl
    one_sub_table (Pmt p) i j e same = refl
    one_sub_table Nit i j e same = refl
    one_sub_table Sdt i j e same = refl
    one_sub_table Eit i j e same = same e
    one_sub_table Tdt i j e same = refl
    one_sub_table (Private p) i j e same = refl

    far_pair : (x y : List ℕ) (low i last least to end : ℕ) → IsKeyed x → IsKeyed y → IsSent table low x i last → IsSent table least y to end → last < to →
        IsFar d.description.rate (sent_section pid x i last) (sent_section pid y to end)
    far_pair x y low i last least to end a b one two later spaced again key =
        ticks_pass d.description.rate last place.from to (omega (arith, ranges.least_rate)) place.low
        (promised.sections_apart t within spaces place.section next.section place.from to place.within next.within same_table place.last_place begins place.before)
      where
        some : 0 < round_places table.lengths
        some = has_places d t ranges within

        place : LastPlace table i last to
        place = last_place_before table i last to some one.placed later two.placed.begins two.placed.part

        next : Begun table to
        next = begun table to some two.placed.part

        begins : section_starts d.description d.schedule t next.section to ≡ true
        begins = starts_there table.own (round_places table.lengths) (first_place table.lengths next.section) to two.placed.begins next.number

        spaces : plan.is_spaced d.description t ≡ true
        spaces = ap₂ (λ (u v : Bool). u && v) transponder (spaced_pid pid (slice_index x 0) spaced)

        same_key : extension_in x ≡ extension_in y
        same_key =
            let keys : (pid * 256 + slice_index x 0) * 65536 + extension_in x ≡ (pid * 256 + slice_index y 0) * 65536 + extension_in y =
            same_number (extension_key (sent_section pid x i last)) (extension_key (sent_section pid y to end)) key in
            omega (arith, keys, small_extension x a.written, small_extension y b.written)

        same_table : plan.sub_table d.description t place.section ≡ plan.sub_table d.description t next.section
        same_table = rw is (one_sub_table k place.section next.section refl (λ eit.
            let p = says_program x low i last place.section eit a one place.within place.place in
            let q = says_program y least to end next.section eit b two next.within next.place in
            same_place d.description (eit_place d.description place.section).0 (eit_place d.description next.section).0 p.0.program q.0.program ranges p.0.is q.0.is
            (sym p.1 ∙ same_key ∙ q.1)))

    ends_later : (text : List ℕ) (least first last : ℕ) → IsSent table least text first last → first ≤ last
    ends_later text least first last s = omega (arith, begin_upto table last, s.placed.alone)

    each_far : (n : ℕ) (x : List ℕ) (least i last low : ℕ) (texts : List (List ℕ)) (packets : List ℕ) → IsKeyed x → IsSent table least x i last → last < low →
        All IsKeyed texts → ArePlaced table low (sendings section_packets texts packets) →
        EachFar d.description.rate (sent_section pid x i last) (found_sections pid n (sendings section_packets texts packets))
    unfolding each_found if_sent sendings EachFar ArePlaced
    each_far n x least i last low [] packets a one later keyed placed = tt
    each_far n x least i last low (text ∷ texts) packets a one later keyed placed =
        by (take (section_packets text) packets) placed.0
        (λ next lt rest. each_far n x least i last next texts (drop (section_packets text) packets) a one lt (All-tail IsKeyed text texts keyed) rest) placed.1
      where
        left : List (Sending (List ℕ))
        left = sendings section_packets texts (drop (section_packets text) packets)

        by : (js : List ℕ) → SentFrom table low text js →
            ((next : ℕ) → last < next → ArePlaced table next left → EachFar d.description.rate (sent_section pid x i last) (found_sections pid n left)) →
            ArePlaced table (after_packets low js) left →
            EachFar d.description.rate (sent_section pid x i last)
            (wholes (map (with_pid_at pid) (if_sent (section_found (next_of n left) text) js ++ each_found section_found n left)))
        by [] sent rest more = rest low later more
        by (j ∷ js) sent rest more =
            let past : last < suc (last_of j js) = omega (arith, later, sent.low, ends_later text low j (last_of j js) sent) in
            one_more (EachFar d.description.rate (sent_section pid x i last)) pid (next_of n left) text j js (found_sections pid n left) (rest (suc (last_of j js)) past more)
            (λ h. (far_pair x text least i last low j (last_of j js) a (All-head IsKeyed text texts keyed) one sent (omega (arith, later, sent.low)), h))

    all_far : (n low : ℕ) (texts : List (List ℕ)) (packets : List ℕ) → All IsKeyed texts → ArePlaced table low (sendings section_packets texts packets) →
        AllFar d.description.rate (found_sections pid n (sendings section_packets texts packets))
    unfolding each_found if_sent sendings AllFar ArePlaced
    all_far n low [] packets keyed placed = tt
    all_far n low (text ∷ texts) packets keyed placed =
        by (take (section_packets text) packets) placed.0
        (λ next rest. all_far n next texts (drop (section_packets text) packets) (All-tail IsKeyed text texts keyed) rest) placed.1
      where
        left : List (Sending (List ℕ))
        left = sendings section_packets texts (drop (section_packets text) packets)

        by : (js : List ℕ) → SentFrom table low text js → ((next : ℕ) → ArePlaced table next left → AllFar d.description.rate (found_sections pid n left)) →
            ArePlaced table (after_packets low js) left →
            AllFar d.description.rate (wholes (map (with_pid_at pid) (if_sent (section_found (next_of n left) text) js ++ each_found section_found n left)))
        by [] sent rest more = rest low more
        by (j ∷ js) sent rest more =
            one_more (AllFar d.description.rate) pid (next_of n left) text j js (found_sections pid n left) (rest (suc (last_of j js)) more)
            (λ h. (
              each_far n text low j (last_of j js) (suc (last_of j js)) texts (drop (section_packets text) packets) (All-head IsKeyed text texts keyed) sent
                  (omega arith) (All-tail IsKeyed text texts keyed) more,
              h,
            ))

    table_far : (n : ℕ) → AllFar d.description.rate (found_sections pid n (sent_sections table n))
    table_far n = all_far n 0 (sections_of_rounds table n) (section_slots table n) (all_keyed n)
        (sections_placed table n (has_places d t ranges within) (has_room d t ranges))

    table_bounded : (n : ℕ) → Bounded (found_sections pid n (sent_sections table n))
    table_bounded n = bounded pid n (sections_of_rounds table n) (section_slots table n)
        (rounds_all IsWritten table (own_slots (starts table.own (round_places table.lengths) 0) 0 n)
        (λ s j moment lt. text_written d.description t j moment k ranges is made lt))

-- 3. The sections of all PIDs

record Good (rate : ℕ) (ws : List WholeSection) : Type 0 where
  far : AllFar rate ws
  small : Bounded ws

good_none : (rate : ℕ) → Good rate []
unfolding AllFar Bounded
good_none rate = record { far = tt; small = tt }

good_tail : (rate : ℕ) (w : WholeSection) (ws : List WholeSection) → Good rate (w ∷ ws) → Good rate ws
unfolding AllFar Bounded
good_tail rate w ws h = record { far = h.far.1; small = h.small.1 }

good_rest : (rate : ℕ) (o : Option WholeSection) (ws : List WholeSection) → Good rate (cons_option o ws) → Good rate ws
good_rest rate None ws h = h
good_rest rate (Some w) ws h = good_tail rate w ws h

pid_tail : (rate pid : ℕ) (f : FindingView) (fs : List FindingView) → Good rate (wholes (found_of pid (f ∷ fs))) → Good rate (wholes (found_of pid fs))
pid_tail rate pid f fs h = by (has_pid pid f.pid) h
  where
    by : (b : Bool) → Good rate (wholes (cond b (f ∷ found_of pid fs) (found_of pid fs))) → Good rate (wholes (found_of pid fs))
    by true k = good_rest rate (whole_section f) (wholes (found_of pid fs)) k
    by false k = k

pid_head : (rate pid : ℕ) (f : FindingView) (fs : List FindingView) → f.pid ≡ Some pid → Good rate (wholes (found_of pid (f ∷ fs))) →
    Good rate (cons_option (whole_section f) (wholes (found_of pid fs)))
pid_head rate pid f fs e h = subst (λ (b : Bool). Good rate (wholes (cond b (f ∷ found_of pid fs) (found_of pid fs)))) (ap (has_pid pid) e ∙ itself pid) h

same_value : {X : Type 0} (x y : X) → Some x ≡ Some y → x ≡ y
same_value x y e = cc

-- A whole section is on the PID of its finding.
whole_pid : (own : Option ℕ) (kind : Option (ℕ × Kind)) (what : WhatView) (end : ℕ) (w : WholeSection) →
    whole_by (section_by own kind what) (extension_of what) end ≡ Some w → own ≡ Some w.begin.pid
unfolding section_by begin_of whole_by
whole_pid None kind what end w e = absurd (cc)
whole_pid (Some q) None what end w e = absurd (cc)
whole_pid (Some q) (Some (packet, Pes stamped access)) what end w e = absurd (cc)
whole_pid (Some q) (Some (packet, Table table_id)) what end w e = by (extension_of what) e
  where
    by : (o : Option ℕ) → whole_by (Some (record { pid = q; table_id = table_id; part = part_in q table_id what; packet = packet; place = packet })) o end ≡ Some w →
        Some q ≡ Some w.begin.pid
    by None f = absurd (cc)
    by (Some extension) f = ap (λ (x : WholeSection). Some x.begin.pid) (same_value _ w f)

on_pid : (f : FindingView) (w : WholeSection) → whole_section f ≡ Some w → f.pid ≡ Some w.begin.pid
on_pid f w e = whole_pid f.pid f.begun f.what f.packet w e

-- Sections with one key are on one PID.
low_table : (pid table_id : ℕ) → is_spaced pid table_id ≡ true → table_id < 256
low_table pid table_id e = by (nat_le 0x10 pid) (nat_le pid 0x14) (nat_le 0x40 table_id) (nat_le table_id 0x73) refl (not (table_id == 0x72)) e
  where
    by : (a b c f : Bool) → nat_le table_id 0x73 ≡ f → (g : Bool) → (a && b && c && f && g) ≡ true → table_id < 256
    by true true true true s g h = let low : table_id ≤ 0x73 = leb-true table_id 0x73 s in omega (arith, low)
    by true true true false s g h = absurd (false≢true h)
    by true true false f s g h = absurd (false≢true h)
    by true false c f s g h = absurd (false≢true h)
    by false b c f s g h = absurd (false≢true h)

one_pid : (v w : WholeSection) → v.extension < 65536 → w.extension < 65536 → is_spaced v.begin.pid v.begin.table_id ≡ true →
    is_spaced w.begin.pid w.begin.table_id ≡ true → extension_key v ≡ extension_key w → v.begin.pid ≡ w.begin.pid
one_pid v w a b e f same =
    let keys : (v.begin.pid * 256 + v.begin.table_id) * 65536 + v.extension ≡ (w.begin.pid * 256 + w.begin.table_id) * 65536 + w.extension = same in
    omega (arith, a, b, low_table v.begin.pid v.begin.table_id e, low_table w.begin.pid w.begin.table_id f, keys)

all_small : (rate : ℕ) (fs : List FindingView) → ((pid : ℕ) → Good rate (wholes (found_of pid fs))) → Bounded (wholes fs)
unfolding Bounded
all_small rate [] h = tt
all_small rate (f ∷ fs) h = by (whole_section f) refl (all_small rate fs (λ pid. pid_tail rate pid f fs (h pid)))
  where
    by : (o : Option WholeSection) → whole_section f ≡ o → Bounded (wholes fs) → Bounded (cons_option o (wholes fs))
    by None e rest = rest
    by (Some w) e rest =
        let k = subst (λ (o : Option WholeSection). Good rate (cons_option o (wholes (found_of w.begin.pid fs)))) e
        (pid_head rate w.begin.pid f fs (on_pid f w e) (h w.begin.pid)) in
        (k.small.0, rest)

-- What is far from the sections of its PID is far from all.
far_from_all : (rate : ℕ) (w : WholeSection) (fs : List FindingView) → w.extension < 65536 → Bounded (wholes fs) →
    EachFar rate w (wholes (found_of w.begin.pid fs)) → EachFar rate w (wholes fs)
unfolding EachFar Bounded
far_from_all rate w [] a small far = tt
far_from_all rate w (f ∷ fs) a small far =
    by (whole_section f) refl small far (λ less left. far_from_all rate w fs a less left)
  where
    listed : (b : Bool) → EachFar rate w (wholes (cond b (f ∷ found_of w.begin.pid fs) (found_of w.begin.pid fs))) → whole_section f ≡ None →
        EachFar rate w (wholes (found_of w.begin.pid fs))
    listed true k e = subst (λ (o : Option WholeSection). EachFar rate w (cons_option o (wholes (found_of w.begin.pid fs)))) e k
    listed false k e = k

    kept : (v : WholeSection) (b : Bool) → has_pid w.begin.pid f.pid ≡ b → whole_section f ≡ Some v → v.extension < 65536 →
        EachFar rate w (wholes (cond b (f ∷ found_of w.begin.pid fs) (found_of w.begin.pid fs))) →
        IsFar rate w v × EachFar rate w (wholes (found_of w.begin.pid fs))
    kept v true off e small k = subst (λ (o : Option WholeSection). EachFar rate w (cons_option o (wholes (found_of w.begin.pid fs)))) e k
    kept v false off e small k = (
      λ one two key.
          let keys : extension_key w ≡ extension_key v = same_number (extension_key w) (extension_key v) key in
          let pid : w.begin.pid ≡ v.begin.pid = one_pid w v a small one two keys in
          let on : has_pid w.begin.pid f.pid ≡ true = ap (has_pid w.begin.pid) (on_pid f v e ∙ ap Some (sym pid)) ∙ itself w.begin.pid in
          absurd (false≢true (sym off ∙ on)),
      k,
    )

    by : (o : Option WholeSection) → whole_section f ≡ o → Bounded (cons_option (whole_section f) (wholes fs)) →
        EachFar rate w (wholes (found_of w.begin.pid (f ∷ fs))) →
        (Bounded (wholes fs) → EachFar rate w (wholes (found_of w.begin.pid fs)) → EachFar rate w (wholes fs)) → EachFar rate w (cons_option (whole_section f) (wholes fs))
    by None e less left rest = subst (λ (o : Option WholeSection). EachFar rate w (cons_option o (wholes fs))) (sym e)
        (rest (subst (λ (o : Option WholeSection). Bounded (cons_option o (wholes fs))) e less) (listed (has_pid w.begin.pid f.pid) left e))
    by (Some v) e less left rest =
        let bound = subst (λ (o : Option WholeSection). Bounded (cons_option o (wholes fs))) e less in
        let k = kept v (has_pid w.begin.pid f.pid) refl e bound.0 left in
        subst (λ (o : Option WholeSection). EachFar rate w (cons_option o (wholes fs))) (sym e) (k.0, rest bound.1 k.1)

far_of_pids : (rate : ℕ) (fs : List FindingView) → ((pid : ℕ) → Good rate (wholes (found_of pid fs))) → AllFar rate (wholes fs)
unfolding AllFar Bounded
far_of_pids rate [] h = tt
far_of_pids rate (f ∷ fs) h =
    by (whole_section f) refl (far_of_pids rate fs (λ pid. pid_tail rate pid f fs (h pid)))
  where
    by : (o : Option WholeSection) → whole_section f ≡ o → AllFar rate (wholes fs) → AllFar rate (cons_option o (wholes fs))
    by None e rest = rest
    by (Some w) e rest =
        let k = subst (λ (o : Option WholeSection). Good rate (cons_option o (wholes (found_of w.begin.pid fs)))) e
        (pid_head rate w.begin.pid f fs (on_pid f w e) (h w.begin.pid)) in
        (far_from_all rate w fs k.small.0 (all_small rate fs (λ pid. pid_tail rate pid f fs (h pid))) k.far.0, rest)

-- 4. A run

-- Units are no sections.
no_sections : (id base0 pid n : ℕ) (sent : List (Sending AccessUnit)) → wholes (map (with_pid_at pid) (each_found (unit_found id base0) n sent)) ≡ []
unfolding each_found if_sent whole_by
no_sections id base0 pid n [] = refl
no_sections id base0 pid n (x ∷ sent) = by (no_sections id base0 pid n sent) x.packets
  where
    by : wholes (map (with_pid_at pid) (each_found (unit_found id base0) n sent)) ≡ [] → (packets : List ℕ) →
        wholes (map (with_pid_at pid) (if_sent (unit_found id base0 (next_of n sent) x.item) packets ++ each_found (unit_found id base0) n sent)) ≡ []
    by rest [] = rest
    by rest (i ∷ is) =
        let f : FindingView = with_pid_at pid (unit_found id base0 (next_of n sent) x.item i is) in
        ap (λ (o : Option SectionBegin). cons_option (whole_by o (extension_of f.what) f.packet) (wholes (map (with_pid_at pid) (each_found (unit_found id base0) n sent))))
        (unit_none id base0 pid (next_of n sent) x.item i is) ∙ rest

module _ (d : Scheduled) (units : ℕ → List AccessUnit) (slots : ℕ) (ranges : IsInRange d.description) (promised : Promised d.description d.schedule)
    (kept : UnitsKept d units) (few : slots < 2 ^ 64 - 1) (transponder : d.description.is_transponder ≡ true) (none : HasNoReadyMade d.description)
  where
    abbrev bytes : List ℕ
    bytes = run_bytes (content_at d units) 0 slots

    few_packets : length bytes / 188 < 2 ^ 64 - 1
    few_packets = let size : length bytes ≡ 188 * slots = run_length (content_at d units) 0 slots (contents_fit d units ranges kept) in omega (arith, size, few)

    kind_made : (t : ℕ) (k : TableKind) → table_kind d.description t ≡ Some k → IsMade k
    kind_made t Pat is = tt
    kind_made t (Pmt p) is = tt
    kind_made t Nit is = tt
    kind_made t Sdt is = tt
    kind_made t Eit is = tt
    kind_made t Tdt is = tt
    kind_made t (Private i) is = none t i is

    abbrev Fine : ℕ → Type 0
    Fine pid = Good d.description.rate (wholes (map (with_pid_at pid) (found_on pid bytes)))

    fine_of : (pid : ℕ) (fs : List FindingView) → map (with_pid_at pid) (found_on pid bytes) ≡ fs → Good d.description.rate (wholes fs) → Fine pid
    fine_of pid fs e h = subst (λ (l : List FindingView). Good d.description.rate (wholes l)) (sym e) h

    on_table : (t : ℕ) → t < table_count d.description → (table_pid d.description t == 8191) ≡ false → Fine (table_pid d.description t)
    on_table t lt no_null =
        let k = kind_there (table_kinds d.description) t lt in
        let made : IsMade k.0 = kind_made t k.0 k.1 in
        fine_of (table_pid d.description t) _ (sym (as_reported (table_pid d.description t) bytes no_null few_packets)
        ∙ (given_back d units slots ranges kept few).tables t lt (made_distinguishable d.description t k.0 k.1 made))
        (record {
          far = table_far d t k.0 ranges promised transponder k.1 made slots;
          small = table_bounded d t k.0 ranges promised transponder k.1 made slots;
        })

    on_stream : (k : ℕ) (s : DescribedStream) → slice_get d.description.streams k ≡ Some s → (s.pid == 8191) ≡ false → Fine s.pid
    on_stream k s is no_null =
        fine_of s.pid _ (sym (as_reported s.pid bytes no_null few_packets) ∙ (given_back d units slots ranges kept few).streams k s is)
        (subst (Good d.description.rate) (sym (no_sections s.stream_id d.description.base0 s.pid slots (sent_units (owned_stream d k s) slots (units k))))
        (good_none d.description.rate))

    silent_on : (pid : ℕ) → (pid == 8191) ≡ false → IsSilent d.description pid → Fine pid
    silent_on pid no_null away =
        fine_of pid [] (sym (as_reported pid bytes no_null few_packets)
        ∙ silent_back d units slots pid (is_run d units slots ranges kept few) no_null away) (good_none d.description.rate)

    known_pid : (pid : ℕ) → (pid == 8191) ≡ false → Fine pid
    known_pid pid no_null = elim (sent_or_silent d.description pid) [ inl sent ↦ by sent | inr away ↦ silent_on pid no_null away ]
      where
        by : IsSentOn d.description pid → Fine pid
        by (inl (k, s, is, same)) = subst Fine same (on_stream k s is (ap (λ (q : ℕ). q == 8191) same ∙ no_null))
        by (inr (t, lt, same)) = subst Fine same (on_table t lt (ap (λ (q : ℕ). q == 8191) same ∙ no_null))

    each_pid : (pid : ℕ) → Fine pid
    each_pid pid = by (pid == 8191) refl
      where
        by : (b : Bool) → (pid == 8191) ≡ b → Fine pid
        by true e = subst (λ (b : Bool). Good d.description.rate (wholes (map (with_pid_at pid)
            (cond b [] (findings_to_end (length bytes / 188) (pid_list pid bytes)))))) (sym e) (good_none d.description.rate)
        by false e = known_pid pid e

    whole_far : AllFar d.description.rate (wholes (found_in_all demux.start (cut_packets bytes)))
    whole_far =
        let first : List FindingView = found_in_all demux.start (cut_packets bytes) in
        let last : List FindingView = (finished (taken_all demux.start (cut_packets bytes))).found in
        far_first d.description.rate (wholes first) (wholes last)
        (subst (AllFar d.description.rate) (filter_map-append whole_section first last)
        (far_of_pids d.description.rate (found_whole bytes)
        (λ pid. subst (λ (l : List FindingView). Good d.description.rate (wholes l)) (sym (of_each bytes few_packets pid)) (each_pid pid))))

timing_is : (arrival : Arrival) (rate : ℕ) → arrival ≡ AtRate rate → table_timing arrival ≡ ConstantRate rate
unfolding table_timing
timing_is arrival rate at = ap table_timing at

pub run_distances_law : RunDistancesLaw
run_distances_law d units slots request ranges promised kept few at transponder none =
    let bytes : List ℕ = run_bytes (content_at d units) 0 slots in
    let far = whole_far d units slots ranges promised kept few transponder none in
    soon_along d.description.rate (start request) demux.start (cut_packets bytes) (alike_first request) at (packet_sizes_are bytes)
    (record {
      timing = timing_is request.options.arrival d.description.rate at;
      none = none_at_first (table_timing request.options.arrival) (wholes (found_in_all demux.start (cut_packets bytes)));
      far = far;
    })

pub job_distances_law : JobDistancesLaw
job_distances_law d units slots request ranges promised accepted few at transponder none =
    ap (λ (bytes : List ℕ). filter is_soon (sections_in (start request) (cut_packets bytes)))
    (output_bytes (content_at d (λ k. units_of k units)) 0 slots)
    ∙ run_distances_law d (λ k. units_of k units) slots request ranges promised (job_kept d units ranges accepted) (omega (arith, few)) at transponder none
