-- The events `table_repetition` of a table in a view, packet by packet
use Rattle.std.proofs.Common.{◌≡◌, ◌∙◌, ℕ, ◌==◌, Bool, true, false, cond, List, [], ◌∷◌, ◌++◌, length, map, filter}
use Rattle.std.proofs.Common.{inl, inr, Option, Some, None, Result, Ok, Err, refl, sym, ap, ap₂, subst}
use Rattle.std.specs.Prelude.{All}
use Rattle.std.proofs.lemmas.List.{append_assoc}
use Rattle.std.proofs.lemmas.List.Elements.{All-head, All-tail, filter-append, filter_map-append}
use Rattle.ts_packet.specs.declared.packet.PacketError.{PacketError}
use Rattle.ts_packet.specs.Views.{PacketView}
use Rattle.ts_packet.specs.Reading.{packet_at}
use Rattle.pid_findings.specs.Views.{FindingView, Found, IsErrored}
use Rattle.pid_findings.specs.Machine.{found_by}
use Rattle.pid_findings.specs.Shown.{with_pid}
use Rattle.demux.specs.Stream.{States, StreamState, entry_of, findings_by, found_in, state_of, taken}
use Rattle.demux.specs.FoundSoFar.{found_in_all}
use Rattle.arrival.specs.declared.arrival.Arrival.TheVariants.{AtRate}
use Rattle.tr101290.specs.Intervals.{IntervalState}
use Rattle.tr101290.specs.declared.intervals.SectionBegin.{SectionBegin}
use Rattle.laws_view.specs.Tables.{errors_from}
use Rattle.laws_view.proofs.InsertedEntries.{turned_test}
use Rattle.events.specs.declared.event.Event.{Event}
use Rattle.es_events.specs.declared.view_options.ViewOptions.{ViewOptions}
use Rattle.ts_watch.specs.TableEvents.{TablesState, TimesState, error_event, findings_events, with_findings}
use Rattle.ts_watch.proofs.HeaderTables.{events_alike, times_alike}
use Rattle.ts_report.specs.StreamTables.{TableState, has_stream}
use Rattle.ts_report.specs.Views.{ViewState, after_all, after_packet, after_read, table_events_at, with_packet, with_tables, without}
use Rattle.laws_view.specs.ViewedSections.{sections_in}
use Rattle.laws_view.proofs.ClockedStreams.{packet_options}
use Rattle.laws_view.proofs.LateEvents.{Agree, AllOff, AllSmall, ReportsErrors, all, late, none_late, none_owned, own, sections_at}
use Rattle.laws_view.proofs.SmallSections.{AllSmallIn}
use Rattle.laws_view.proofs.ViewedFindings.{Alike, FindsAlike, IsLookedAt, IsOfStream, Next, counter_keeps, next, other_pid, packet_keeps}

-- 1. What a packet leaves before the view looks for sections in it

pub read_keeps : (s : ViewState) (r : Result PacketView PacketError) (pid : ℕ) → has_stream (after_read s r).table pid ≡ false → has_stream s.table pid ≡ false
unfolding after_read
read_keeps s (Err error) pid h = h
read_keeps s (Ok packet) pid h = by packet.header.transport_error_indicator h
  where
    by : (t : Bool) → has_stream (cond t (without s) (with_packet s packet)).table pid ≡ false → has_stream s.table pid ≡ false
    by true k = k
    by false k = packet_keeps s packet pid k

pub read_tables : (s : ViewState) (r : Result PacketView PacketError) → (after_read s r).seen.tables ≡ s.seen.tables
unfolding after_read
read_tables s (Err error) = refl
read_tables s (Ok packet) = by packet.header.transport_error_indicator
  where
    by : (t : Bool) → (cond t (without s) (with_packet s packet)).seen.tables ≡ s.seen.tables
    by true = refl
    by false = refl

pub read_options : (s : ViewState) (r : Result PacketView PacketError) → (after_read s r).seen.options ≡ s.seen.options
unfolding after_read
read_options s (Err error) = refl
read_options s (Ok packet) = by packet.header.transport_error_indicator
  where
    by : (t : Bool) → (cond t (without s) (with_packet s packet)).seen.options ≡ s.seen.options
    by true = refl
    by false = refl

all_keeps : (s : ViewState) (packets : List (List ℕ)) (pid : ℕ) → has_stream (after_all s packets).table pid ≡ false → has_stream s.table pid ≡ false
unfolding after_all
all_keeps s [] pid h = h
all_keeps s (bytes ∷ packets) pid h = read_keeps s (packet_at bytes) pid (all_keeps (after_packet s bytes) packets pid h)

stays : (s : ViewState) (r : Result PacketView PacketError) (pid : ℕ) → has_stream s.table pid ≡ true → has_stream (after_read s r).table pid ≡ true
stays s r pid there = by (has_stream (after_read s r).table pid) refl
  where
    by : (t : Bool) → has_stream (after_read s r).table pid ≡ t → t ≡ true
    by true e = refl
    by false e = absurd (let k = read_keeps s r pid e in let no : ⊥ = cc in no)

-- 2. Packets of other PIDs

unfoldable IsElsewhere : ℕ → Result PacketView PacketError → Type 0
IsElsewhere pid (Err error) = Unit {0}
IsElsewhere pid (Ok packet) = (packet.header.pid == pid) ≡ false

off_list : (pid q index : ℕ) (found : List Found) → (q == pid) ≡ false → AllOff pid (map (with_pid q index) found)
unfolding AllOff
off_list pid q index [] e = tt
off_list pid q index (f ∷ found) e = (e, off_list pid q index found e)

off_found : (pid index : ℕ) (bytes : List ℕ) (states : States) (r : Result PacketView PacketError) → IsElsewhere pid r →
    AllOff pid (findings_by index bytes states r)
unfolding findings_by IsElsewhere AllOff
off_found pid index bytes states (Err error) e = (refl, tt)
off_found pid index bytes states (Ok packet) e = by packet.header.transport_error_indicator (packet.header.pid == 8191)
  where
    wrong : FindingView
    wrong = record { packet = index; pid = None; begun = None; what = IsErrored }

    by : (t z : Bool) → AllOff pid (cond t (wrong ∷ []) (cond z []
        (map (with_pid packet.header.pid index) (found_by (state_of packet.header.pid states) (entry_of index bytes packet)))))
    by true z = (refl, tt)
    by false true = tt
    by false false = off_list pid packet.header.pid index _ e

looked_elsewhere : (t : TableState) (r : Result PacketView PacketError) (pid : ℕ) → IsLookedAt t r → has_stream t pid ≡ true → IsElsewhere pid r
unfolding IsLookedAt IsElsewhere
looked_elsewhere t (Err error) pid h there = tt
looked_elsewhere t (Ok packet) pid h there = turned_test packet.header.pid pid ∙ other_pid t pid packet.header.pid there h

stream_elsewhere : (t : TableState) (r : Result PacketView PacketError) (pid : ℕ) → IsOfStream t r → has_stream t pid ≡ false → IsElsewhere pid r
unfolding IsOfStream IsElsewhere
stream_elsewhere t (Err error) pid h free = absurd h
stream_elsewhere t (Ok packet) pid h free = other_pid t packet.header.pid pid h free

module _ (pid table_id : ℕ) where
  -- 3. After a stream's buffers have begun on the PID

  gone_at : (options : ViewOptions) (x : TimesState) (t : TableState) (fs : List FindingView) (o : StreamState) (bytes : List ℕ) → FindsAlike t fs o bytes →
      has_stream t pid ≡ true → late pid table_id (findings_events options x fs) ≡ []
  unfolding findings_events found_in
  gone_at options x t fs o bytes (inl e) there = ap (λ (found : List FindingView). late pid table_id (findings_events options x found)) e.0
  gone_at options x t fs o bytes (inr e) there =
      ap (late pid table_id) (events_alike options x fs (found_in o bytes) e.0)
      ∙ none_late pid table_id options x (found_in o bytes)
      (off_found pid o.packets bytes o.states (packet_at bytes) (looked_elsewhere t (packet_at bytes) pid e.1 there))

  in_two : (xs ys : List Event) → late pid table_id xs ≡ [] → late pid table_id ys ≡ [] → late pid table_id (xs ++ ys) ≡ []
  in_two xs ys e f = filter-append _ xs ys ∙ ap₂ (λ (a b : List Event). a ++ b) e f

  gone : (s : ViewState) (o : StreamState) (packets : List (List ℕ)) → Alike s o → All (λ bytes. length bytes ≡ 188) packets → has_stream s.table pid ≡ true →
      late pid table_id (sections_in s packets) ≡ []
  unfolding sections_in
  gone s o [] h sizes there = refl
  gone s o (bytes ∷ packets) h sizes there =
      let v : ViewState = after_read s (packet_at bytes) in
      let n : Next s o bytes = next s o bytes (All-head (λ b. length b ≡ 188) bytes packets sizes) h in
      let still : has_stream v.table pid ≡ true = stays s (packet_at bytes) pid there in
      in_two (table_events_at v bytes) (sections_in (after_packet s bytes) packets)
      (gone_at v.seen.options v.seen.tables.times v.table _ o bytes n.found still)
      (gone (after_packet s bytes) (taken o bytes) packets n.alike (All-tail (λ b. length b ≡ 188) bytes packets sizes) still)

  -- 4. Before a stream's buffers begin on the PID

  step : (rate : ℕ) (options : ViewOptions) (x : TimesState) (t : TableState) (fs : List FindingView) (o : StreamState) (bytes : List ℕ) (j : IntervalState)
      (rest : List SectionBegin) →
      FindsAlike t fs o bytes → has_stream t pid ≡ false → options.arrival ≡ AtRate rate → Agree pid table_id x.intervals j → AllSmall (found_in o bytes) →
      ReportsErrors pid table_id (with_findings options x fs).intervals j (findings_events options x fs) (sections_at (found_in o bytes) ++ rest) rest
  unfolding findings_events with_findings found_in
  step rate options x t fs o bytes j rest (inl e) free at h small =
      let off = off_found pid o.packets bytes o.states (packet_at bytes) (stream_elsewhere t (packet_at bytes) pid e.1 free) in
      record {
        next = j;
        agree = subst (λ (found : List FindingView). Agree pid table_id (with_findings options x found).intervals j) (sym e.0) h;
        events_are = ap (λ (l : List SectionBegin). map error_event (errors_from j l)) (none_owned pid table_id (found_in o bytes) rest off)
            ∙ ap (λ (l : List Event). l ++ map error_event (errors_from j (own pid table_id rest)))
            (sym (ap (λ (found : List FindingView). late pid table_id (findings_events options x found)) e.0));
      }
  step rate options x t fs o bytes j rest (inr e) free at h small =
      let k = all pid table_id rate options x j (found_in o bytes) rest at h small in
      record {
        next = k.next;
        agree = subst (λ (y : TimesState). Agree pid table_id y.intervals k.next) (sym (times_alike options x fs (found_in o bytes) e.0)) k.agree;
        events_are = k.events_are
            ∙ ap (λ (l : List Event). late pid table_id l ++ map error_event (errors_from k.next (own pid table_id rest)))
            (sym (events_alike options x fs (found_in o bytes) e.0));
      }

  -- The events are the first of the errors; if no stream's buffers begin on the PID, they are all errors.
  pub record Whole (s : ViewState) (j : IntervalState) (packets : List (List ℕ)) (sections : List SectionBegin) : Type 0 where
    pub rest : List Event
    pub events_are : late pid table_id (sections_in s packets) ++ rest ≡ map error_event (errors_from j (own pid table_id sections))
    pub none : has_stream (after_all s packets).table pid ≡ false → rest ≡ []

  -- The events at a packet
  here : (rate : ℕ) (s : ViewState) (o : StreamState) (j : IntervalState) (bytes : List ℕ) (packets : List (List ℕ))
      (sizes : All (λ b. length b ≡ 188) (bytes ∷ packets))
      (h : Alike s o) (at : s.seen.options.arrival ≡ AtRate rate) (agree : has_stream s.table pid ≡ false → Agree pid table_id s.seen.tables.times.intervals j)
      (small : AllSmall (found_in o bytes)) →
      ((i : IntervalState) → (has_stream (after_packet s bytes).table pid ≡ false → Agree pid table_id (after_packet s bytes).seen.tables.times.intervals i) →
      Whole (after_packet s bytes) i packets (sections_at (found_in_all (taken o bytes) packets))) →
      Whole s j (bytes ∷ packets) (sections_at (found_in_all o (bytes ∷ packets)))
  unfolding sections_in found_in_all after_all
  here rate s o j bytes packets sizes h at agree small later = by (has_stream v.table pid) refl
    where
      v : ViewState
      v = after_read s (packet_at bytes)

      n : Next s o bytes
      n = next s o bytes (All-head (λ b. length b ≡ 188) bytes packets sizes) h

      next_sections : List SectionBegin
      next_sections = sections_at (found_in_all (taken o bytes) packets)

      in_parts : sections_at (found_in o bytes ++ found_in_all (taken o bytes) packets) ≡ sections_at (found_in o bytes) ++ next_sections
      in_parts = filter_map-append _ (found_in o bytes) (found_in_all (taken o bytes) packets)

      by : (t : Bool) → has_stream v.table pid ≡ t →
          Whole s j (bytes ∷ packets) (sections_at (found_in o bytes ++ found_in_all (taken o bytes) packets))
      by true e = record {
        rest = map error_event (errors_from j (own pid table_id (sections_at (found_in o bytes ++ found_in_all (taken o bytes) packets))));
        events_are = ap (λ (l : List Event). l
            ++ map error_event (errors_from j (own pid table_id (sections_at (found_in o bytes ++ found_in_all (taken o bytes) packets)))))
            (in_two (table_events_at v bytes) (sections_in (after_packet s bytes) packets)
            (gone_at v.seen.options v.seen.tables.times v.table _ o bytes n.found e)
            (gone (after_packet s bytes) (taken o bytes) packets n.alike (All-tail (λ b. length b ≡ 188) bytes packets sizes) e));
        none = λ free. absurd (let k : has_stream v.table pid ≡ false = all_keeps (after_packet s bytes) packets pid free in let no : ⊥ = cc in no);
      }
      by false e =
          let ready : v.seen.options.arrival ≡ AtRate rate = ap (λ (w : ViewOptions). w.arrival) (read_options s (packet_at bytes)) ∙ at in
          let like : Agree pid table_id v.seen.tables.times.intervals j =
          subst (λ (x : TablesState). Agree pid table_id x.times.intervals j) (sym (read_tables s (packet_at bytes)))
          (agree (read_keeps s (packet_at bytes) pid e)) in
          let k = step rate v.seen.options v.seen.tables.times v.table _ o bytes j next_sections n.found e ready like small in
          let m : Whole (after_packet s bytes) k.next packets next_sections =
          later k.next (λ free. subst (λ (x : TablesState). Agree pid table_id x.times.intervals k.next)
          (sym (counter_keeps (with_tables v bytes).seen bytes (packet_at bytes))) k.agree) in
          record {
            rest = m.rest;
            events_are = ap (λ (l : List Event). l ++ m.rest) (filter-append _ (table_events_at v bytes) (sections_in (after_packet s bytes) packets))
                ∙ append_assoc (late pid table_id (table_events_at v bytes)) (late pid table_id (sections_in (after_packet s bytes) packets)) m.rest
                ∙ ap (λ (l : List Event). late pid table_id (table_events_at v bytes) ++ l) m.events_are
                ∙ sym k.events_are
                ∙ ap (λ (l : List SectionBegin). map error_event (errors_from j (own pid table_id l))) (sym in_parts);
            none = m.none;
          }

  pub along : (rate : ℕ) (s : ViewState) (o : StreamState) (j : IntervalState) (packets : List (List ℕ)) → Alike s o → s.seen.options.arrival ≡ AtRate rate →
      (has_stream s.table pid ≡ false → Agree pid table_id s.seen.tables.times.intervals j) → All (λ bytes. length bytes ≡ 188) packets → AllSmallIn o packets →
      Whole s j packets (sections_at (found_in_all o packets))
  unfolding sections_in found_in_all after_all AllSmallIn errors_from
  along rate s o j [] h at agree sizes small = record { rest = []; events_are = refl; none = λ free. refl }
  along rate s o j (bytes ∷ packets) h at agree sizes small =
      let n : Next s o bytes = next s o bytes (All-head (λ b. length b ≡ 188) bytes packets sizes) h in
      here rate s o j bytes packets sizes h at agree small.0 (λ i agrees.
      along rate (after_packet s bytes) (taken o bytes) i packets n.alike (ap (λ (w : ViewOptions). w.arrival) (packet_options s bytes) ∙ at) agrees
      (All-tail (λ b. length b ≡ 188) bytes packets sizes) small.1)
