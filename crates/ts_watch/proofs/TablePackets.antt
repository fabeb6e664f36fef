-- A packet in the demultiplexer of tables, which holds no part of a packet and no findings
use Rattle.std.proofs.Common.{◌≡◌, ◌∙◌, ℕ, List, [], ◌++◌, length, Result, Ok, Err, refl, sym, ap, ap₂}
use Rattle.std.specs.Prelude.{OnOk}
use Rattle.ts_packet.specs.Packets.{null_packet}
use Rattle.ts_packet.proofs.PlainWritten.{null_again}
use Rattle.pid_findings.specs.Views.{FindingView}
use Rattle.pid_findings.specs.Bodies.{all_without_body}
use Rattle.demux.specs.StreamBodies.{AddsHeaders, headers_pushed, headers_taken, without_bodies}
use Rattle.demux.specs.FoundSoFar.{with_found}
use Rattle.demux.specs.Stream.{StreamState, found_in, findings_by, pushed, taken}
use Rattle.demux.proofs.PushedBytes.{taken_as_pushed}
use Rattle.events.specs.declared.event.Event.{Event}
use Rattle.es_events.specs.declared.view_options.ViewOptions.{ViewOptions}
use Rattle.ts_watch.specs.TableNames.{NamesState, with_each}
use Rattle.ts_watch.specs.TableEvents.{TablesState, TakesPackets, TimesState, findings_events, packet_events, with_findings, with_packet}
use Rattle.ts_watch.proofs.HeaderTables.{events_alike, names_alike, times_alike}

-- What follows from two facts of a call that succeeds
pub on_both : {V E A B C : Type 0} (r : Result V E) → (A → B → C) → OnOk r A → OnOk r B → OnOk r C
on_both (Ok v) f a b = f a b
on_both (Err e) f a b = tt

-- The bytes of a packet, pushed, give the state and the findings of the packet taken whole.
pushed_state : (s : StreamState) (bytes : List ℕ) → TakesPackets s → length bytes ≡ 188 →
    pushed s bytes ≡ record (taken s bytes) { found = s.found ++ found_in s bytes }
pushed_state s bytes takes size = taken_as_pushed s bytes (rw takes.held refl) size

pub pushed_found : (s : StreamState) (bytes : List ℕ) → TakesPackets s → length bytes ≡ 188 → (pushed s bytes).found ≡ found_in s bytes
pushed_found s bytes takes size = ap (λ (t : StreamState). t.found) (pushed_state s bytes takes size)
    ∙ ap (λ (fs : List FindingView). fs ++ found_in s bytes) takes.found

pub pushed_forgotten : (s : StreamState) (bytes : List ℕ) → TakesPackets s → length bytes ≡ 188 → with_found [] (headers_pushed s bytes) ≡ headers_taken s bytes
unfolding taken
pushed_forgotten s bytes takes size =
    ap (λ (t : StreamState). with_found [] (without_bodies t)) (pushed_state s bytes takes size)
    ∙ ap (λ (fs : List FindingView). record (headers_taken s bytes) { found = all_without_body fs }) (sym takes.found)

pub taken_takes : (s : StreamState) (bytes : List ℕ) → TakesPackets s → TakesPackets (headers_taken s bytes)
unfolding taken
taken_takes s bytes takes = record { held = takes.held; found = ap all_without_body takes.found }

-- The null packet has no findings.
pub null_found : (s : StreamState) → found_in s null_packet ≡ []
unfolding found_in findings_by
null_found s = rw (null_again.read) refl

-- The null packet leaves the sections unchanged and has no event.
pub null_passed : (options : ViewOptions) (t : TablesState) (demux : StreamState) → TakesPackets t.demux → demux ≡ headers_taken t.demux null_packet →
    ◌≡◌ {A = TablesState} (record { demux = demux; times = t.times; named = t.named }) (with_packet options t null_packet)
unfolding with_findings with_each
null_passed options t demux takes is =
    let size = null_again.size in
    ap (λ (d : StreamState). record { demux = d; times = t.times; named = t.named }) (is ∙ sym (pushed_forgotten t.demux null_packet takes size))
    ∙ ap (λ (fs : List FindingView). record {
      demux = with_found [] (headers_pushed t.demux null_packet);
      times = with_findings options t.times fs;
      named = with_each t.named fs;
    })
    (sym (pushed_found t.demux null_packet takes size ∙ null_found t.demux))

pub null_events : (options : ViewOptions) (t : TablesState) → TakesPackets t.demux → packet_events options t null_packet ≡ []
unfolding findings_events
null_events options t takes =
    ap (λ (fs : List FindingView). findings_events options t.times fs) (pushed_found t.demux null_packet takes null_again.size ∙ null_found t.demux)

-- If there were no findings before, the findings are the added findings.
pub added_to_none : (none new found : List FindingView) → none ≡ [] → AddsHeaders none new found → all_without_body new ≡ all_without_body found
added_to_none none new found e added = added ∙ ap (λ (x : List FindingView). all_without_body x ++ all_without_body found) e

-- The state and the events after any packet follow from its findings.
pub packet_passed : (options : ViewOptions) (t : TablesState) (bytes : List ℕ) (demux : StreamState) (times : TimesState) (named : NamesState)
    (found : List FindingView) → TakesPackets t.demux →
    length bytes ≡ 188 → demux ≡ headers_taken t.demux bytes → all_without_body found ≡ all_without_body (found_in t.demux bytes) →
    times ≡ with_findings options t.times found → named ≡ with_each t.named found →
    ◌≡◌ {A = TablesState} (record { demux = demux; times = times; named = named }) (with_packet options t bytes)
packet_passed options t bytes demux times named found takes size is finds goes names =
    ap₂ (λ (d : StreamState) (x : TimesState). record { demux = d; times = x; named = named }) (is ∙ sym (pushed_forgotten t.demux bytes takes size))
    (goes ∙ times_alike options t.times found (found_in t.demux bytes) finds
    ∙ ap (λ (fs : List FindingView). with_findings options t.times fs) (sym (pushed_found t.demux bytes takes size)))
    ∙ ap (λ (n : NamesState). record (with_packet options t bytes) { named = n })
    (names ∙ names_alike t.named found (found_in t.demux bytes) finds ∙ ap (with_each t.named) (sym (pushed_found t.demux bytes takes size)))

pub packet_writes : (options : ViewOptions) (t : TablesState) (bytes : List ℕ) (events events' : List Event) (found : List FindingView) → TakesPackets t.demux →
    length bytes ≡ 188 →
    all_without_body found ≡ all_without_body (found_in t.demux bytes) → events' ≡ events ++ findings_events options t.times found →
    events' ≡ events ++ packet_events options t bytes
packet_writes options t bytes events events' found takes size finds grown =
    grown ∙ ap (λ (xs : List Event). events ++ xs) (events_alike options t.times found (found_in t.demux bytes) finds
    ∙ ap (λ (fs : List FindingView). findings_events options t.times fs) (sym (pushed_found t.demux bytes takes size)))
