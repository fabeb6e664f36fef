-- The transport streams of a loop: from its bytes, and back
use Rattle.std.proofs.Common.{◌≡◌, ℕ, true, Ok, List, [], ◌∷◌, ◌++◌, ◌+◌, ◌≤◌, append_assoc, length-append, length, map, ap, ◌∙◌, arith}
use Rattle.std.specs.Prelude.{flat_map, is_some, All}
use Rattle.std.specs.Prelude.{unwrap_or}
use Rattle.std.proofs.Common.{append-nil}
use Rattle.std.proofs.lemmas.List.Concat.{flat_map-append}
use Rattle.psi_tables.proofs.LoopParts.{loop_at-end}
use Rattle.std.proofs.Common.{subst}
use Rattle.psi_tables.specs.declared.error.SectionError.TheVariants.{Body}
use Rattle.dvb_tables.proofs.Seams.{accepted}
use Rattle.bit_fields.specs.Fields.{IsBytes}
use Rattle.psi_tables.specs.Loops.{loop_at, entries_in}
use Rattle.dvb_tables.specs.Sequences.{IsSequence}
use Rattle.dvb_tables.specs.TransportStreams.{TransportStreamView, IsTransportStream, transport_stream_of, transport_stream_bytes, transport_stream_front}
use Rattle.dvb_tables.specs.TransportStreams.{transport_streams_in, transport_streams_at, transport_streams_bytes}
use Rattle.dvb_tables.specs.Fits.{TransportStreamFits}
use Rattle.dvb_tables.proofs.EntrySequences.{SaysAll, whole_entries, sequence_of, entries_of, written_length, written_sequence, written_entries, entries_whole}
use Rattle.dvb_tables.proofs.EntrySequences.{values_read, values_after}
use Rattle.dvb_tables.proofs.TransportStreamFields.{transport_stream_found, transport_stream_only, transport_stream_length}
use Rattle.dvb_tables.proofs.TransportStreamWritten.{transport_stream_written, transport_stream_said}

-- A whole loop is a sequence of transport streams.
pub transport_streams_found : (bytes : List ℕ) → IsBytes bytes → is_some (loop_at 6 bytes) ≡ true →
    IsSequence IsTransportStream bytes (transport_streams_in bytes)
unfolding transport_streams_in
transport_streams_found bytes fits whole =
    sequence_of 6 IsTransportStream transport_stream_of transport_stream_found bytes (entries_in 6 bytes) fits (whole_entries 6 bytes whole)

read : (bytes : List ℕ) (ts : List TransportStreamView) → SaysAll 6 transport_stream_of bytes ts → transport_streams_at bytes ≡ Ok ts
unfolding transport_streams_at transport_streams_in
read bytes ts h =
    let whole : is_some (loop_at 6 bytes) ≡ true = entries_whole 6 bytes h.es (omega arith) h.entries in
    rw whole (ap Ok (values_read 6 transport_stream_of bytes ts (omega arith) h))

-- A sequence of transport streams is read back.
pub transport_streams_only : (bytes : List ℕ) (ts : List TransportStreamView) → IsBytes bytes → IsSequence IsTransportStream bytes ts →
    transport_streams_at bytes ≡ Ok ts
transport_streams_only bytes ts fits h = read bytes ts (entries_of 6 IsTransportStream transport_stream_of transport_stream_only bytes ts fits h)

-- Written transport streams are read back.
pub transport_streams_again : (ts : List TransportStreamView) → All TransportStreamFits ts → transport_streams_at (transport_streams_bytes ts) ≡ Ok ts
unfolding transport_streams_bytes
transport_streams_again ts h =
    read (flat_map transport_stream_bytes ts) ts (written_entries 6 transport_stream_of transport_stream_bytes TransportStreamFits transport_stream_said ts h)

-- Written transport streams are a sequence of transport streams.
pub transport_streams_written : (ts : List TransportStreamView) → All TransportStreamFits ts → IsSequence IsTransportStream (transport_streams_bytes ts) ts
unfolding transport_streams_bytes
transport_streams_written ts h = written_sequence IsTransportStream transport_stream_bytes TransportStreamFits transport_stream_written ts h

-- Writing the transport streams of a whole loop yields as many bytes as the loop has.
pub transport_streams_length : (bytes : List ℕ) → is_some (loop_at 6 bytes) ≡ true →
    length (transport_streams_bytes (transport_streams_in bytes)) ≡ length bytes
unfolding transport_streams_in transport_streams_bytes
transport_streams_length bytes whole =
    written_length 6 transport_stream_of transport_stream_bytes transport_stream_length bytes (entries_in 6 bytes) (whole_entries 6 bytes whole)

-- Writing one transport stream and then the remaining transport streams writes them all.
pub transport_stream_step : (out : List ℕ) (x : TransportStreamView) (xs : List TransportStreamView) →
    (out ++ transport_stream_bytes x) ++ transport_streams_bytes xs ≡ out ++ transport_streams_bytes (x ∷ xs)
unfolding transport_streams_bytes
transport_stream_step out x xs = append_assoc out (transport_stream_bytes x) (transport_streams_bytes xs)

-- If there is room for all transport streams, there is room for the first.
pub transport_stream_room : (out : List ℕ) (x : TransportStreamView) (xs : List TransportStreamView) (n : ℕ) →
    length (out ++ transport_streams_bytes (x ∷ xs)) ≤ n → length out + (6 + length x.descriptors) ≤ n
unfolding transport_streams_bytes transport_stream_bytes transport_stream_front
transport_stream_room out x xs n h =
    omega (
      arith,
      h,
      length-append out (transport_stream_bytes x ++ transport_streams_bytes xs),
      length-append (transport_stream_bytes x) (transport_streams_bytes xs),
      length-append (transport_stream_front x) x.descriptors,
    )

-- An empty loop has no transport streams.
pub no_transport_streams : transport_streams_in [] ≡ []
unfolding transport_streams_in
no_transport_streams = ap (λ o. map transport_stream_of (unwrap_or o [])) (loop_at-end 6)

-- A loop with one more transport stream
pub record OneMore (bytes : List ℕ) (x : TransportStreamView) : Type 0 where
  pub whole : is_some (loop_at 6 (bytes ++ transport_stream_bytes x)) ≡ true
  pub values : transport_streams_in (bytes ++ transport_stream_bytes x) ≡ transport_streams_in bytes ++ x ∷ []

pub one_more : (bytes : List ℕ) (x : TransportStreamView) → TransportStreamFits x → is_some (loop_at 6 bytes) ≡ true → OneMore bytes x
unfolding transport_streams_in
one_more bytes x fits whole =
    let h = values_after 6 transport_stream_of bytes (transport_stream_bytes x) (entries_in 6 bytes) x (whole_entries 6 bytes whole)
    (transport_stream_said x fits) in
    record {
      whole = entries_whole 6 (bytes ++ transport_stream_bytes x) h.es (omega arith) h.entries;
      values = values_read 6 transport_stream_of (bytes ++ transport_stream_bytes x) (map transport_stream_of (entries_in 6 bytes) ++ x ∷ []) (omega arith) h;
    }

more_bytes : (xs : List TransportStreamView) (x : TransportStreamView) → transport_streams_bytes (xs ++ x ∷ []) ≡ transport_streams_bytes xs
    ++ transport_stream_bytes x
unfolding transport_streams_bytes
more_bytes xs x = flat_map-append transport_stream_bytes xs (x ∷ [])
    ∙ ap (λ (t : List ℕ). flat_map transport_stream_bytes xs ++ t) (append-nil (transport_stream_bytes x))

size : (x : TransportStreamView) → length (transport_stream_bytes x) ≡ 6 + length x.descriptors
unfolding transport_stream_bytes transport_stream_front
size x = omega arith

-- The length of a loop with one more transport stream
pub more_length : (bytes : List ℕ) (x : TransportStreamView) → is_some (loop_at 6 bytes) ≡ true →
    length (transport_streams_bytes (transport_streams_in bytes ++ x ∷ [])) ≡ length bytes + (6 + length x.descriptors)
more_length bytes x whole =
    let all : length (transport_streams_bytes (transport_streams_in bytes ++ x ∷ [])) ≡ length
    (transport_streams_bytes (transport_streams_in bytes) ++ transport_stream_bytes x) = ap (length {A = ℕ}) (more_bytes (transport_streams_in bytes) x) in
    omega (
      arith,
      all,
      size x,
      transport_streams_length bytes whole,
      length-append (transport_streams_bytes (transport_streams_in bytes)) (transport_stream_bytes x),
    )

-- Transport streams that are read from a loop are the sequence in its bytes.
pub transport_streams_is : (bytes : List ℕ) (xs : List TransportStreamView) → IsBytes bytes → transport_streams_at bytes ≡ Ok xs →
    IsSequence IsTransportStream bytes xs
unfolding transport_streams_at
transport_streams_is bytes xs fits e =
    let a = accepted (is_some (loop_at 6 bytes)) (transport_streams_in bytes) Body xs e in
    subst (λ (ys : List TransportStreamView). IsSequence IsTransportStream bytes ys) a.1 (transport_streams_found bytes fits a.0)
