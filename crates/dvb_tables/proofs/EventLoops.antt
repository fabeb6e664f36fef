-- The events of a loop: from its bytes, and back
use Rattle.std.proofs.Common.{◌≡◌, ℕ, ◌+◌, ◌/◌, ◌%◌, true, Ok, List, [], ◌∷◌, ◌++◌, length, drop, map, ap, ◌∙◌, arith, append-nil, length-append}
use Rattle.std.proofs.lemmas.List.{length-take, length-drop}
use Rattle.std.proofs.lemmas.List.Concat.{flat_map-append}
use Rattle.std.specs.Prelude.{flat_map, is_some, All, unwrap_or}
use Rattle.std.proofs.Common.{subst}
use Rattle.psi_tables.specs.declared.error.SectionError.TheVariants.{Body}
use Rattle.dvb_tables.proofs.Seams.{accepted}
use Rattle.bit_fields.specs.Fields.{IsBytes}
use Rattle.psi_tables.specs.Loops.{EntryView, IsEntry, entry_bytes, loop_at, entries_in}
use Rattle.psi_tables.proofs.LoopParts.{loop_at-end}
use Rattle.dvb_tables.specs.Sequences.{IsSequence}
use Rattle.dvb_tables.specs.EventEntries.{EventView, IsEvent, event_of, event_bytes, event_status, events_in, events_at, events_bytes}
use Rattle.dvb_tables.specs.Fits.{EventFits}
use Rattle.dvb_tables.proofs.EntrySequences.{SaysAll, whole_entries, sequence_of, entries_of, written_same, written_length, written_sequence, written_entries}
use Rattle.dvb_tables.proofs.EntrySequences.{entries_whole, values_read, values_after}
use Rattle.dvb_tables.proofs.EventFields.{event_found, event_only, event_same}
use Rattle.dvb_tables.proofs.EventWritten.{event_written, event_said}

-- A whole loop is a sequence of events.
pub events_found : (bytes : List ℕ) → IsBytes bytes → is_some (loop_at 12 bytes) ≡ true → IsSequence IsEvent bytes (events_in bytes)
unfolding events_in
events_found bytes fits whole = sequence_of 12 IsEvent event_of event_found bytes (entries_in 12 bytes) fits (whole_entries 12 bytes whole)

read : (bytes : List ℕ) (es : List EventView) → SaysAll 12 event_of bytes es → events_at bytes ≡ Ok es
unfolding events_at events_in
read bytes es h =
    let whole : is_some (loop_at 12 bytes) ≡ true = entries_whole 12 bytes h.es (omega arith) h.entries in
    rw whole (ap Ok (values_read 12 event_of bytes es (omega arith) h))

-- A sequence of events is read back.
pub events_only : (bytes : List ℕ) (es : List EventView) → IsBytes bytes → IsSequence IsEvent bytes es → events_at bytes ≡ Ok es
events_only bytes es fits h = read bytes es (entries_of 12 IsEvent event_of event_only bytes es fits h)

-- Written events are read back.
pub events_again : (es : List EventView) → All EventFits es → events_at (events_bytes es) ≡ Ok es
unfolding events_bytes
events_again es h = read (flat_map event_bytes es) es (written_entries 12 event_of event_bytes EventFits event_said es h)

-- Written events are a sequence of events.
pub events_written : (es : List EventView) → All EventFits es → IsSequence IsEvent (events_bytes es) es
unfolding events_bytes
events_written es h = written_sequence IsEvent event_bytes EventFits event_written es h

-- Writing the events of a whole loop yields the loop, because no bit is reserved.
pub events_same : (bytes : List ℕ) → IsBytes bytes → is_some (loop_at 12 bytes) ≡ true → events_bytes (events_in bytes) ≡ bytes
unfolding events_in events_bytes
events_same bytes fits whole = written_same 12 event_of event_bytes event_same bytes (entries_in 12 bytes) fits (whole_entries 12 bytes whole)

-- An empty loop has no events.
pub no_events : events_in [] ≡ []
unfolding events_in
no_events = ap (λ o. map event_of (unwrap_or o [])) (loop_at-end 12)

-- A loop with one more event
pub record OneMore (bytes : List ℕ) (e : EventView) : Type 0 where
  pub whole : is_some (loop_at 12 (bytes ++ event_bytes e)) ≡ true
  pub events : events_in (bytes ++ event_bytes e) ≡ events_in bytes ++ e ∷ []

pub one_more : (bytes : List ℕ) (e : EventView) → EventFits e → is_some (loop_at 12 bytes) ≡ true → OneMore bytes e
unfolding events_in
one_more bytes e fits whole =
    let before = whole_entries 12 bytes whole in
    let one = event_said e fits in
    let h = values_after 12 event_of bytes (event_bytes e) (entries_in 12 bytes) e before one in
    record {
      whole = entries_whole 12 (bytes ++ event_bytes e) h.es (omega arith) h.entries;
      events = values_read 12 event_of (bytes ++ event_bytes e) (map event_of (entries_in 12 bytes) ++ e ∷ []) (omega arith) h;
    }

event_size : (e : EventView) → length e.start_time ≡ 5 → length e.duration ≡ 3 → length (event_bytes e) ≡ 12 + length e.descriptors
unfolding event_bytes event_status
event_size e five three =
    let id = (e.event_id / 256) ∷ (e.event_id % 256) ∷ [] in
    omega (
      arith,
      five,
      three,
      length-append (id ++ e.start_time ++ e.duration ++ event_status e) e.descriptors,
      length-append (id ++ e.start_time ++ e.duration) (event_status e),
      length-append (id ++ e.start_time) e.duration,
      length-append id e.start_time,
    )

-- An event is written with twelve bytes before its descriptors.
event_length : (e : EntryView) → IsEntry 12 e → length (event_bytes (event_of e)) ≡ length (entry_bytes e)
unfolding event_of entry_bytes
event_length e entry =
    let h = entry.head_length in
    event_size (event_of e) (omega (arith, h, length-take 5 (drop 2 e.head), length-drop 2 e.head))
    (omega (arith, h, length-take 3 (drop 7 e.head), length-drop 7 e.head))
    ∙ omega (arith, h, length-append e.head e.descriptors)

-- Writing the events of a whole loop yields as many bytes as the loop has.
pub events_length : (bytes : List ℕ) → is_some (loop_at 12 bytes) ≡ true → length (events_bytes (events_in bytes)) ≡ length bytes
unfolding events_in events_bytes
events_length bytes whole = written_length 12 event_of event_bytes event_length bytes (entries_in 12 bytes) (whole_entries 12 bytes whole)

more_bytes : (es : List EventView) (e : EventView) → events_bytes (es ++ e ∷ []) ≡ events_bytes es ++ event_bytes e
unfolding events_bytes
more_bytes es e = flat_map-append event_bytes es (e ∷ []) ∙ ap (λ (t : List ℕ). flat_map event_bytes es ++ t) (append-nil (event_bytes e))

-- The length of a loop with one more event
pub more_length : (bytes : List ℕ) (e : EventView) → is_some (loop_at 12 bytes) ≡ true → length e.start_time ≡ 5 → length e.duration ≡ 3
    → length (events_bytes (events_in bytes ++ e ∷ [])) ≡ length bytes + (12 + length e.descriptors)
more_length bytes e whole five three =
    let all : length (events_bytes (events_in bytes ++ e ∷ [])) ≡ length (events_bytes (events_in bytes) ++ event_bytes e) =
    ap (length {A = ℕ}) (more_bytes (events_in bytes) e) in
    omega (arith, all, event_size e five three, events_length bytes whole, length-append (events_bytes (events_in bytes)) (event_bytes e))

-- Events that are read from a loop are the sequence in its bytes.
pub events_is : (bytes : List ℕ) (xs : List EventView) → IsBytes bytes → events_at bytes ≡ Ok xs → IsSequence IsEvent bytes xs
unfolding events_at
events_is bytes xs fits e =
    let a = accepted (is_some (loop_at 12 bytes)) (events_in bytes) Body xs e in
    subst (λ (ys : List EventView). IsSequence IsEvent bytes ys) a.1 (events_found bytes fits a.0)
