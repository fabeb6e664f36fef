-- Written streams: their bytes are whole entries, and read back as the same streams.
use Rattle.std.proofs.Common.{◌≡◌, ℕ, ◌+◌, ◌*◌, ◌/◌, ◌%◌, ◌^◌, ◌<◌, true, refl, sym, ap, ap₂, ◌∙◌, arith, List, [], ◌∷◌, ◌++◌, length, Option, Some, is_some}
use Rattle.std.proofs.Common.{map, flat_map, append-nil, length-append}
use Rattle.std.specs.Prelude.{unwrap_or}
use Rattle.psi_tables.specs.Loops.{EntryView, descriptors_length, IsEntry, entry_bytes, AreEntries, loop_at, entries_in}
use Rattle.psi_tables.specs.ProgramMap.{PmtView, pmt_body, StreamView, stream_of, streams_in, info_length_bytes, pid_bytes, stream_entry, stream_bytes}
use Rattle.psi_tables.specs.ProgramMap.{streams_bytes, StreamFits, StreamsFit}
use Rattle.psi_tables.proofs.LoopParts.{loop_at-is, loop_at-read, AreEntries-append, whole_is}

pub length_stream_bytes : (s : StreamView) → length (stream_bytes s) ≡ 5 + length s.descriptors
unfolding stream_bytes stream_entry entry_bytes pid_bytes info_length_bytes
length_stream_bytes s = omega arith

-- Streams are written in as many bytes as they were read from.
length_same : (bytes : List ℕ) (es : List EntryView) → AreEntries 5 bytes es → length (flat_map stream_bytes (map stream_of es)) ≡ length bytes
unfolding stream_of entry_bytes
length_same bytes [] h = ap (length {A = ℕ}) (sym h)
length_same bytes (e ∷ es) h =
    let more : length (flat_map stream_bytes (map stream_of es)) ≡ length h.0 = length_same h.0 es h.3 in
    omega (
      arith,
      length-append (stream_bytes (stream_of e)) (flat_map stream_bytes (map stream_of es)),
      length_stream_bytes (stream_of e),
      ap (length {A = ℕ}) h.1,
      length-append (e.head ++ e.descriptors) h.0,
      length-append e.head e.descriptors,
      h.2.head_length,
      more,
    )

pub length-streams_bytes : (bytes : List ℕ) → is_some (loop_at 5 bytes) ≡ true → length (streams_bytes (streams_in bytes)) ≡ length bytes
unfolding streams_bytes streams_in
length-streams_bytes bytes h = length_same bytes (entries_in 5 bytes) (loop_at-is 5 bytes (entries_in 5 bytes) (whole_is 5 bytes h))

-- A PID and a number of descriptor bytes that fit the fields of an entry
pub record EntryFits (s : StreamView) : Type 0 where
  pub elementary_pid : s.elementary_pid < 2 ^ 13
  pub info_length : length s.descriptors < 2 ^ 12

pub StreamFits-entry : (s : StreamView) → StreamFits s → EntryFits s
StreamFits-entry s h = record { elementary_pid = h.elementary_pid; info_length = h.info_length }

pub stream_entry-is : (s : StreamView) → EntryFits s → IsEntry 5 (stream_entry s)
unfolding stream_entry pid_bytes info_length_bytes descriptors_length
stream_entry-is s h = record { head_length = refl; named = omega (arith, h.info_length) }

pub stream_of-entry : (s : StreamView) → EntryFits s → stream_of (stream_entry s) ≡ s
unfolding stream_of stream_entry pid_bytes info_length_bytes
stream_of-entry s h =
    let pid : (0xE0 + s.elementary_pid / 256 % 32) % 32 * 256 + s.elementary_pid % 256 ≡ s.elementary_pid = omega (arith, h.elementary_pid) in
    let whole : stream_of (stream_entry s) ≡ record { stream_type = s.stream_type; elementary_pid = s.elementary_pid; descriptors = s.descriptors } = cc in
    whole

-- One stream after a whole loop adds one stream.
pub record Pushed (bytes : List ℕ) (s : StreamView) : Type 0 where
  pub whole : is_some (loop_at 5 (bytes ++ stream_bytes s)) ≡ true
  pub streams : streams_in (bytes ++ stream_bytes s) ≡ streams_in bytes ++ s ∷ []

map-push : (es : List EntryView) (e : EntryView) → map stream_of (es ++ e ∷ []) ≡ map stream_of es ++ stream_of e ∷ []
map-push [] e = refl
map-push (x ∷ es) e = ap (λ (ss : List StreamView). stream_of x ∷ ss) (map-push es e)

pub pushed : (bytes : List ℕ) (s : StreamView) → EntryFits s → is_some (loop_at 5 bytes) ≡ true → Pushed bytes s
unfolding streams_in stream_bytes
pushed bytes s fits h =
    let es : List EntryView = entries_in 5 bytes in
    let before : AreEntries 5 bytes es = loop_at-is 5 bytes es (whole_is 5 bytes h) in
    let one : AreEntries 5 (entry_bytes (stream_entry s)) (stream_entry s ∷ []) =
    ([], sym (append-nil (entry_bytes (stream_entry s))), stream_entry-is s fits, refl) in
    let after : loop_at 5 (bytes ++ entry_bytes (stream_entry s)) ≡ Some (es ++ stream_entry s ∷ []) =
    loop_at-read 5 _ _ (omega arith) (AreEntries-append 5 bytes (entry_bytes (stream_entry s)) es (stream_entry s ∷ []) before one) in
    record {
      whole = ap (λ (o : Option (List EntryView)). is_some o) after;
      streams = ap (λ (o : Option (List EntryView)). map stream_of (unwrap_or o [])) after ∙ map-push es (stream_entry s)
          ∙ ap (λ (x : StreamView). map stream_of es ++ x ∷ []) (stream_of-entry s fits);
    }

-- The written bytes of streams are the entries of these streams.
written_are : (ss : List StreamView) → StreamsFit ss → AreEntries 5 (flat_map stream_bytes ss) (map stream_entry ss)
unfolding stream_bytes
written_are [] h = refl
written_are (s ∷ ss) h = (flat_map stream_bytes ss, refl, stream_entry-is s (StreamFits-entry s h.0), written_are ss h.1)

streams_again : (ss : List StreamView) → StreamsFit ss → map stream_of (map stream_entry ss) ≡ ss
streams_again [] h = refl
streams_again (s ∷ ss) h = ap₂ (λ (x : StreamView) (xs : List StreamView). x ∷ xs) (stream_of-entry s (StreamFits-entry s h.0)) (streams_again ss h.1)

-- Written streams are a whole loop, and read back as the same streams.
pub record WrittenRead (ss : List StreamView) : Type 0 where
  pub whole : is_some (loop_at 5 (streams_bytes ss)) ≡ true
  pub streams : streams_in (streams_bytes ss) ≡ ss

pub written_read : (ss : List StreamView) → StreamsFit ss → WrittenRead ss
unfolding streams_bytes streams_in
written_read ss h =
    let read : loop_at 5 (flat_map stream_bytes ss) ≡ Some (map stream_entry ss) = loop_at-read 5 _ _ (omega arith) (written_are ss h) in
    record {
      whole = ap (λ (o : Option (List EntryView)). is_some o) read;
      streams = ap (λ (o : Option (List EntryView)). map stream_of (unwrap_or o [])) read ∙ streams_again ss h;
    }

-- A loop is as long as its first stream and the rest.
pub length_streams_step : (all : List StreamView) (s : StreamView) (ss : List StreamView) → all ≡ s ∷ ss → length (streams_bytes all) ≡ 5 + length s.descriptors
    + length (streams_bytes ss)
unfolding streams_bytes
length_streams_step all s ss e =
    ap (λ (xs : List StreamView). length (flat_map stream_bytes xs)) e ∙ length-append (stream_bytes s) (flat_map stream_bytes ss)
    ∙ ap (λ (n : ℕ). n + length (flat_map stream_bytes ss)) (length_stream_bytes s)

-- The number of bytes of a body
pub length_pmt_body : (p : PmtView) → length (pmt_body p) ≡ 4 + length p.program_info + length (streams_bytes p.streams)
unfolding pmt_body pid_bytes info_length_bytes
length_pmt_body p = omega (arith, length-append p.program_info (streams_bytes p.streams))
