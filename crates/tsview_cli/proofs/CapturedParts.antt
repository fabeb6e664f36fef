-- Parts of a capture that are viewed one after another.
use Rattle.std.proofs.Common.{◌≡◌, ◌<◌, ℕ, Bool, List, [], ◌∷◌, ◌++◌, length, map, refl, sym, ap, ap₂, subst, ◌∙◌, arith, append_assoc, append-nil, Option}
use Rattle.std.proofs.Common.{Some, None, Result, Ok, Err}
use Rattle.std.specs.Prelude.{OnOk, IfOk}
use Rattle.capture.specs.Captures.{Capture, IsPacket, IsSize, IsSlip, IsStamped, Part, capture_of, with_parts}
use Rattle.capture.specs.Reading.{ReaderView, Takes, TakesLast, capture_by, capture_left, no_bytes}
use Rattle.capture.specs.declared.reader.CaptureEnd.{CaptureEnd}
use Rattle.events.specs.declared.event.Event.{Event}
use Rattle.events.specs.declared.timed_event.TimedEvent.{TimedEvent}
use Rattle.packet_sync.specs.declared.file_form.FileForm.{FileForm}
use Rattle.analysis.specs.Analysis.{AnalysisState, IsAnalysed, after_all, after_packet, after_stamped, events_all, events_at, stamped_events, timed, with_event}
use Rattle.analysis.specs.declared.analyser.Analyser.{Analyser}
use Rattle.packet_sync.specs.declared.packet_sizes.OtherPackets.{OtherPackets}
use Rattle.packet_sync.specs.declared.slip.Slip.{Slip}
use Rattle.tsview_cli.specs.CapturedStreams.{HasParts, IsEnded, IsMore, IsSoFar, TakesParts, after_part, after_parts, events_of, is_whole, last_events, left_in}
use Rattle.tsview_cli.specs.CapturedStreams.{part_events, parts_in, size_event, slip_event}
use Rattle.tsview_cli.specs.declared.captured.CapturedView.{CapturedView}
use Rattle.tsview_cli.specs.declared.captured.ViewedParts.{ViewedParts}

-- 1. Parts one after another

pub after_both : (s : AnalysisState) (parts more : List Part) → after_parts s (parts ++ more) ≡ after_parts (after_parts s parts) more
unfolding after_parts
after_both s [] more = refl
after_both s (part ∷ parts) more = after_both (after_part s part) parts more

pub events_both : (s : AnalysisState) (parts more : List Part) → events_of s (parts ++ more) ≡ events_of s parts ++ events_of (after_parts s parts) more
unfolding after_parts events_of
events_both s [] more = refl
events_both s (part ∷ parts) more =
    ap (λ (l : List TimedEvent). part_events s part ++ l) (events_both (after_part s part) parts more)
    ∙ sym (append_assoc (part_events s part) (events_of (after_part s part) parts) (events_of (after_parts (after_part s part) parts) more))

-- Packets alone
pub after_packets : (s : AnalysisState) (packets : List (List ℕ)) → after_parts s (map IsPacket packets) ≡ after_all s packets
unfolding after_parts after_part after_all
after_packets s [] = refl
after_packets s (packet ∷ packets) = after_packets (after_packet s packet) packets

pub events_of_packets : (s : AnalysisState) (packets : List (List ℕ)) → events_of s (map IsPacket packets) ≡ events_all s packets
unfolding events_of part_events after_part events_all
events_of_packets s [] = refl
events_of_packets s (packet ∷ packets) = ap (λ (l : List TimedEvent). events_at s packet ++ l) (events_of_packets (after_packet s packet) packets)

-- 2. More parts are taken

-- A view after these parts takes some more parts.
pub has_more : (first before now : ViewedParts) (s : AnalysisState) (parts more : List Part) → HasParts first before s parts →
    IsAnalysed now.view (after_parts (after_parts s parts) more) →
    now.events.items ≡ before.events.items ++ events_of (after_parts s parts) more → HasParts first now s (parts ++ more)
has_more first before now s parts more h view events = record {
  view = subst (IsAnalysed now.view) (sym (after_both s parts more)) view;
  events = events ∙ ap (λ (l : List TimedEvent). l ++ events_of (after_parts s parts) more) h.events
      ∙ append_assoc first.events.items (events_of s parts) (events_of (after_parts s parts) more)
      ∙ ap (λ (l : List TimedEvent). first.events.items ++ l) (sym (events_both s parts more));
}

pub packets_more : (first before now : ViewedParts) (s : AnalysisState) (parts : List Part) (packets : List (List ℕ)) → HasParts first before s parts →
    IsAnalysed now.view (after_all (after_parts s parts) packets) →
    now.events.items ≡ before.events.items ++ events_all (after_parts s parts) packets → HasParts first now s (parts ++ map IsPacket packets)
packets_more first before now s parts packets h view events =
    has_more first before now s parts (map IsPacket packets) h (subst (IsAnalysed now.view) (sym (after_packets (after_parts s parts) packets)) view)
    (events ∙ ap (λ (l : List TimedEvent). before.events.items ++ l) (sym (events_of_packets (after_parts s parts) packets)))

stamped_state : (s : AnalysisState) (head : ℕ) (bytes : List ℕ) → after_parts s (IsStamped head bytes ∷ []) ≡ after_stamped s head bytes
unfolding after_parts after_part
stamped_state s head bytes = refl

found_stamped : (s : AnalysisState) (head : ℕ) (bytes : List ℕ) → events_of s (IsStamped head bytes ∷ []) ≡ stamped_events s head bytes
unfolding events_of part_events
found_stamped s head bytes = append-nil (stamped_events s head bytes)

pub stamped_more : (first before now : ViewedParts) (s : AnalysisState) (parts : List Part) (head : ℕ) (bytes : List ℕ) → HasParts first before s parts →
    IsAnalysed now.view (after_stamped (after_parts s parts) head bytes) →
    now.events.items ≡ before.events.items ++ stamped_events (after_parts s parts) head bytes →
    HasParts first now s (parts ++ IsStamped head bytes ∷ [])
stamped_more first before now s parts head bytes h view events =
    has_more first before now s parts (IsStamped head bytes ∷ []) h (subst (IsAnalysed now.view) (sym (stamped_state (after_parts s parts) head bytes)) view)
    (events ∙ ap (λ (l : List TimedEvent). before.events.items ++ l) (sym (found_stamped (after_parts s parts) head bytes)))

slip_state : (s : AnalysisState) (slip : Slip) → after_parts s (IsSlip slip ∷ []) ≡ with_event s (slip_event slip)
unfolding after_parts after_part
slip_state s slip = refl

slip_events : (s : AnalysisState) (slip : Slip) → events_of s (IsSlip slip ∷ []) ≡ timed s (slip_event slip)
unfolding events_of part_events
slip_events s slip = append-nil (timed s (slip_event slip))

size_state : (s : AnalysisState) (other : OtherPackets) → after_parts s (IsSize other ∷ []) ≡ with_event s (size_event other)
unfolding after_parts after_part
size_state s other = refl

size_events : (s : AnalysisState) (other : OtherPackets) → events_of s (IsSize other ∷ []) ≡ timed s (size_event other)
unfolding events_of part_events
size_events s other = append-nil (timed s (size_event other))

-- An event of the input
event_more : (first before now : ViewedParts) (s : AnalysisState) (parts : List Part) (part : Part) (event : Event) →
    after_parts (after_parts s parts) (part ∷ []) ≡ with_event (after_parts s parts) event →
    events_of (after_parts s parts) (part ∷ []) ≡ timed (after_parts s parts) event → HasParts first before s parts →
    IsAnalysed now.view (with_event (after_parts s parts) event) →
    now.events.items ≡ before.events.items ++ timed (after_parts s parts) event → HasParts first now s (parts ++ part ∷ [])
event_more first before now s parts part event state settles h view events =
    has_more first before now s parts (part ∷ []) h (subst (IsAnalysed now.view) (sym state) view)
    (events ∙ ap (λ (l : List TimedEvent). before.events.items ++ l) (sym settles))

pub slip_more : (first before now : ViewedParts) (s : AnalysisState) (parts : List Part) (slip : Slip) → HasParts first before s parts →
    IsAnalysed now.view (with_event (after_parts s parts) (slip_event slip)) →
    now.events.items ≡ before.events.items ++ timed (after_parts s parts) (slip_event slip) → HasParts first now s (parts ++ IsSlip slip ∷ [])
slip_more first before now s parts slip =
    event_more first before now s parts (IsSlip slip) (slip_event slip) (slip_state (after_parts s parts) slip) (slip_events (after_parts s parts) slip)

pub size_more : (first before now : ViewedParts) (s : AnalysisState) (parts : List Part) (other : OtherPackets) → HasParts first before s parts →
    IsAnalysed now.view (with_event (after_parts s parts) (size_event other)) →
    now.events.items ≡ before.events.items ++ timed (after_parts s parts) (size_event other) → HasParts first now s (parts ++ IsSize other ∷ [])
size_more first before now s parts other =
    event_more first before now s parts (IsSize other) (size_event other) (size_state (after_parts s parts) other) (size_events (after_parts s parts) other)

pub takes_none : (parts : ViewedParts) → TakesParts [] parts parts
unfolding after_parts events_of
takes_none parts = λ s is. record { view = is; events = sym (append-nil parts.events.items) }

-- 3. The input so far

-- Before the first byte
pub so_far_none : (now : CapturedView) (s : AnalysisState) → now.reader ≡ no_bytes → IsAnalysed now.parts.view s → IsSoFar s now [] []
unfolding after_parts capture_by
so_far_none now s reader view = record {
  left = λ more. subst (λ (r : ReaderView). capture_of ([] ++ more) ≡ with_parts [] (capture_left r more)) (sym reader) refl;
  few = subst (λ (r : ReaderView). length r.kept < 1128) (sym reader) (omega arith);
  view = view;
}

-- More bytes were taken, and no event waited before them.
pub is_more : (first : AnalysisState) (before now : CapturedView) (start : ViewedParts) (bytes piece : List ℕ) (found : List Part) →
    IsSoFar first before bytes found →
    start.view ≡ before.parts.view → start.events.items ≡ [] → length now.reader.kept < 1128 →
    Takes (λ more. TakesParts ([] ++ more) start now.parts) before.reader piece now.reader → IsMore first now (bytes ++ piece) found
is_more first before now start bytes piece found s view none few t =
    let is : IsAnalysed start.view (after_parts first found) = subst (λ (v : Analyser). IsAnalysed v (after_parts first found)) (sym view) s.view in
    let h : HasParts start now.parts (after_parts first found) t.found = t.taken (after_parts first found) is in
    record {
      more = t.found;
      so_far = record {
        left = λ more. ap capture_of (append_assoc bytes piece more) ∙ s.left (piece ++ more) ∙ ap (with_parts found) (t.is more)
            ∙ ap (λ (parts : List Part). record { form = (capture_left now.reader more).form; parts = parts; rest = (capture_left now.reader more).rest })
            (sym (append_assoc found t.found (capture_left now.reader more).parts));
        few = few;
        view = subst (IsAnalysed now.parts.view) (sym (after_both first found t.found)) h.view;
      };
      events = h.events ∙ ap (λ (l : List TimedEvent). l ++ events_of (after_parts first found) t.found) none;
    }

-- The rest of the input, and its end
pub is_ended : (rate : Option ℕ) (first : AnalysisState) (before : CapturedView) (mid : ViewedParts) (now : CapturedView) (start : ViewedParts) (bytes : List ℕ)
    (found : List Part) (end : CaptureEnd) (good : Bool) → IsSoFar first before bytes found →
    start.view ≡ before.parts.view → start.events.items ≡ [] →
    TakesLast (λ more. TakesParts ([] ++ more) start mid) (capture_left before.reader []) end →
    ((s : AnalysisState) → IsAnalysed mid.view s → now.parts.events.items ≡ mid.events.items ++ last_events rate end.form s end.left) →
    ((s : AnalysisState) → IsAnalysed mid.view s → good ≡ is_whole rate end.form s end.left) → IsEnded rate first now bytes found good
is_ended rate first before mid now start bytes found end good s view none t events whole =
    let c : Capture = capture_left before.reader [] in
    let is : IsAnalysed start.view (after_parts first found) = subst (λ (v : Analyser). IsAnalysed v (after_parts first found)) (sym view) s.view in
    let h : HasParts start mid (after_parts first found) c.parts = t.taken (after_parts first found) is in
    let all : capture_of bytes ≡ with_parts found c = ap capture_of (sym (append-nil bytes)) ∙ s.left [] in
    let parts_are : parts_in bytes ≡ found ++ c.parts = ap (λ (x : Capture). x.parts) all in
    let form_is : end.form ≡ (capture_of bytes).form = t.form_is ∙ ap (λ (x : Capture). x.form) (sym all) in
    let left_is : end.left ≡ left_in bytes = t.left_is ∙ ap (λ (x : Capture). length x.rest) (sym all) in
    let whole_state : after_parts (after_parts first found) c.parts ≡ after_parts first (parts_in bytes) =
    sym (after_both first found c.parts) ∙ ap (after_parts first) (sym parts_are) in
    let kept : IsAnalysed mid.view (after_parts first (parts_in bytes)) = subst (IsAnalysed mid.view) whole_state h.view in
    let before_end : mid.events.items ≡ events_of (after_parts first found) c.parts =
    h.events ∙ ap (λ (l : List TimedEvent). l ++ events_of (after_parts first found) c.parts) none in
    record {
      more = c.parts;
      parts_are = parts_are;
      events = events (after_parts first (parts_in bytes)) kept
          ∙ ap₂ (λ (a b : List TimedEvent). a ++ b) before_end
          (ap₂ (λ (f : FileForm) (n : ℕ). last_events rate f (after_parts first (parts_in bytes)) n) form_is left_is);
      good_is = whole (after_parts first (parts_in bytes)) kept
          ∙ ap₂ (λ (f : FileForm) (n : ℕ). is_whole rate f (after_parts first (parts_in bytes)) n) form_is left_is;
    }

-- The end of the input, if there is memory for it
pub ended_by : {E : Type 0} (r : Result Bool E) (rate : Option ℕ) (first : AnalysisState) (before : CapturedView) (mid : ViewedParts) (now : CapturedView)
    (start : ViewedParts) (bytes : List ℕ) (found : List Part) (end : CaptureEnd) →
    IsSoFar first before bytes found → start.view ≡ before.parts.view → start.events.items ≡ [] →
    TakesLast (λ more. TakesParts ([] ++ more) start mid) (capture_left before.reader []) end →
    ((s : AnalysisState) → IsAnalysed mid.view s → OnOk r (now.parts.events.items ≡ mid.events.items ++ last_events rate end.form s end.left)) →
    ((s : AnalysisState) → IsAnalysed mid.view s → IfOk r (λ good. good ≡ is_whole rate end.form s end.left)) → IfOk r (IsEnded rate first now bytes found)
ended_by (Ok good) rate first before mid now start bytes found end s view none t events whole =
    is_ended rate first before mid now start bytes found end good s view none t events whole
ended_by (Err e) rate first before mid now start bytes found end s view none t events whole = tt

pub on_two : {V E A B C : Type 0} (r : Result V E) → (A → B → C) → OnOk r A → OnOk r B → OnOk r C
on_two (Ok v) f a b = f a b
on_two (Err e) f a b = tt

pub on_ok : {V E A B : Type 0} (r : Result V E) → (A → B) → OnOk r A → OnOk r B
on_ok (Ok v) f a = f a
on_ok (Err e) f a = tt
