-- The streams of a program map table: the reader returns exactly the streams in the bytes.
use Rattle.std.proofs.Common.{◌≡◌, ℕ, ◌+◌, ◌*◌, ◌/◌, ◌%◌, ◌^◌, ◌<◌, Bool, true, false, cond, refl, sym, ap, ap₂, ◌∙◌, subst, arith, List, [], ◌∷◌, ◌++◌, length}
use Rattle.std.proofs.Common.{Option, Some, Ok, Err, is_some, map}
use Rattle.std.specs.Prelude.{unwrap_or}
use Rattle.bit_fields.specs.Fields.{number, fields, IsBytes}
use Rattle.bit_fields.proofs.Bind.{ok_is}
use Rattle.bit_fields.proofs.ByteLists.{IsBytes-append_left, IsBytes-append_right}
use Rattle.psi_tables.specs.Loops.{EntryView, descriptors_length, IsEntry, entry_bytes, AreEntries, loop_at}
use Rattle.psi_tables.specs.ProgramMap.{StreamView, IsStream, AreStreams, stream_of, streams_in, streams_at}
use Rattle.psi_tables.specs.declared.error.SectionError.TheVariants.{Body}
use Rattle.psi_tables.proofs.LoopParts.{loop_at-read}

pub four : (xs : List ℕ) → length xs ≡ 4 → (a : ℕ) × (b : ℕ) × (c : ℕ) × (d : ℕ) × (xs ≡ a ∷ b ∷ c ∷ d ∷ [])
four [] h = absurd (omega arith)
four (a ∷ []) h = absurd (omega arith)
four (a ∷ b ∷ []) h = absurd (omega arith)
four (a ∷ b ∷ c ∷ []) h = absurd (omega arith)
four (a ∷ b ∷ c ∷ d ∷ []) h = (a, b, c, d, refl)
four (a ∷ b ∷ c ∷ d ∷ e ∷ xs) h = absurd (omega arith)

five : (xs : List ℕ) → length xs ≡ 5 → (a : ℕ) × (b : ℕ) × (c : ℕ) × (d : ℕ) × (e : ℕ) × (xs ≡ a ∷ b ∷ c ∷ d ∷ e ∷ [])
five [] h = absurd (omega arith)
five (a ∷ xs) h = let v = four xs (omega arith) in (a, v.0, v.1, v.2, v.3, ap (λ (x : List ℕ). a ∷ x) v.4)

-- An entry of five bytes and its descriptors is a stream.
stream_found : (a b c d e : ℕ) (descriptors : List ℕ) → a < 256 → b < 256 → c < 256 → d < 256 → e < 256
    → descriptors_length (a ∷ b ∷ c ∷ d ∷ e ∷ []) ≡ length descriptors
    → IsStream (a ∷ b ∷ c ∷ d ∷ e ∷ descriptors) (stream_of (record { head = a ∷ b ∷ c ∷ d ∷ e ∷ []; descriptors = descriptors }))
unfolding stream_of descriptors_length
stream_found a b c d e descriptors ha hb hc hd he named =
    let len : d % 16 * 256 + e ≡ length descriptors = named in
    record {
      head = a ∷ b ∷ c ∷ d ∷ e ∷ [];
      is = refl;
      reserved = b / 32;
      reserved_after = d / 16;
      head_length = refl;
      spelled = omega arith;
      stream_type = ha;
      three_bits = omega arith;
      elementary_pid = omega arith;
      four_bits = omega arith;
      info_length = omega arith;
    }

entry_found : (e : EntryView) → IsBytes (entry_bytes e) → IsEntry 5 e → IsStream (entry_bytes e) (stream_of e)
unfolding entry_bytes
entry_found e h k =
    let v = five e.head k.head_length in
    let is : ◌≡◌ {A = EntryView} (record { head = v.0 ∷ v.1 ∷ v.2 ∷ v.3 ∷ v.4 ∷ []; descriptors = e.descriptors })
    (record { head = e.head; descriptors = e.descriptors }) =
    ap (λ (x : List ℕ). record { head = x; descriptors = e.descriptors }) (sym v.5) in
    let bytes : IsBytes (v.0 ∷ v.1 ∷ v.2 ∷ v.3 ∷ v.4 ∷ e.descriptors) = subst IsBytes (ap (λ (x : List ℕ). x ++ e.descriptors) v.5) h in
    subst (λ (x : EntryView). IsStream (x.head ++ x.descriptors) (stream_of x)) is
    (stream_found v.0 v.1 v.2 v.3 v.4 e.descriptors (bytes 0) (bytes 1) (bytes 2) (bytes 3) (bytes 4) (ap descriptors_length (sym v.5) ∙ k.named))

-- Bytes that consist of entries are the streams of these entries.
pub streams_found : (bytes : List ℕ) (es : List EntryView) → IsBytes bytes → AreEntries 5 bytes es → AreStreams bytes (map stream_of es)
streams_found bytes [] h k = k
streams_found bytes (e ∷ es) h k =
    let parts : IsBytes (entry_bytes e ++ k.0) = subst IsBytes k.1 h in (
      entry_bytes e,
      k.0,
      k.1,
      entry_found e (IsBytes-append_left (entry_bytes e) k.0 parts) k.2,
      streams_found k.0 es (IsBytes-append_right (entry_bytes e) k.0 parts) k.3,
    )

-- The bytes of a stream, as an entry
pub record IsEntryOf (bytes : List ℕ) (s : StreamView) (e : EntryView) : Type 0 where
  pub is : bytes ≡ entry_bytes e
  pub entry : IsEntry 5 e
  pub stream : stream_of e ≡ s

stream_again : (a b c d e : ℕ) (s : StreamView) (reserved reserved' : ℕ) → a < 256 → b < 256 → c < 256 → d < 256 → e < 256
    → number (a ∷ b ∷ c ∷ d ∷ e ∷ []) ≡ fields ((8, s.stream_type) ∷ (3, reserved) ∷ (13, s.elementary_pid) ∷ (4, reserved') ∷ (12, length s.descriptors) ∷ [])
    → s.stream_type < 2 ^ 8 → reserved < 2 ^ 3 → s.elementary_pid < 2 ^ 13 → reserved' < 2 ^ 4 → length s.descriptors < 2 ^ 12
    → IsEntryOf (a ∷ b ∷ c ∷ d ∷ e ∷ s.descriptors) s (record { head = a ∷ b ∷ c ∷ d ∷ e ∷ []; descriptors = s.descriptors })
unfolding stream_of descriptors_length entry_bytes
stream_again a b c d e s reserved reserved' ha hb hc hd he spelled ht hr hp hr' hl =
    let type_is : a ≡ s.stream_type = omega arith in
    let pid_is : b % 32 * 256 + c ≡ s.elementary_pid = omega arith in
    let len : d % 16 * 256 + e ≡ length s.descriptors = omega arith in
    let whole : ◌≡◌ {A = StreamView} (record { stream_type = a; elementary_pid = b % 32 * 256 + c; descriptors = s.descriptors })
    (record { stream_type = s.stream_type; elementary_pid = s.elementary_pid; descriptors = s.descriptors }) = cc in
    record { is = refl; entry = record { head_length = refl; named = len }; stream = whole }

entry_again : (entry : List ℕ) (s : StreamView) → IsBytes entry → IsStream entry s → (e : EntryView) × IsEntryOf entry s e
entry_again entry s h k =
    let v = five k.head k.head_length in
    let is : entry ≡ v.0 ∷ v.1 ∷ v.2 ∷ v.3 ∷ v.4 ∷ s.descriptors = k.is ∙ ap (λ (x : List ℕ). x ++ s.descriptors) v.5 in
    let bytes : IsBytes (v.0 ∷ v.1 ∷ v.2 ∷ v.3 ∷ v.4 ∷ s.descriptors) = subst IsBytes is h in
    let spelled =
    subst (λ (x : List ℕ). number x ≡ fields
    ((8, s.stream_type) ∷ (3, k.reserved) ∷ (13, s.elementary_pid) ∷ (4, k.reserved_after) ∷ (12, length s.descriptors) ∷ [])) v.5 k.spelled in (
      record { head = v.0 ∷ v.1 ∷ v.2 ∷ v.3 ∷ v.4 ∷ []; descriptors = s.descriptors },
      subst (λ (t : List ℕ). IsEntryOf t s (record { head = v.0 ∷ v.1 ∷ v.2 ∷ v.3 ∷ v.4 ∷ []; descriptors = s.descriptors })) (sym is)
          (stream_again v.0 v.1 v.2 v.3 v.4 s k.reserved k.reserved_after (bytes 0) (bytes 1) (bytes 2) (bytes 3) (bytes 4) spelled k.stream_type k.three_bits
          k.elementary_pid k.four_bits k.info_length),
    )

-- Bytes that consist of streams are the entries of these streams.
pub record Entries (bytes : List ℕ) (ss : List StreamView) (es : List EntryView) : Type 0 where
  pub entries : AreEntries 5 bytes es
  pub streams : map stream_of es ≡ ss

entries_again : (bytes : List ℕ) (ss : List StreamView) → IsBytes bytes → AreStreams bytes ss → (es : List EntryView) × Entries bytes ss es
entries_again bytes [] h k = ([], record { entries = k; streams = refl })
entries_again bytes (s ∷ ss) h k =
    let parts : IsBytes (k.0 ++ k.1) = subst IsBytes k.2 h in
    let first = entry_again k.0 s (IsBytes-append_left k.0 k.1 parts) k.3 in
    let more = entries_again k.1 ss (IsBytes-append_right k.0 k.1 parts) k.4 in (
      first.0 ∷ more.0,
      record {
        entries = (k.1, k.2 ∙ ap (λ (x : List ℕ). x ++ k.1) first.1.is, first.1.entry, more.1.entries);
        streams = ap₂ (λ (x : StreamView) (xs : List StreamView). x ∷ xs) first.1.stream more.1.streams;
      },
    )

pub record StreamsRead (bytes : List ℕ) (ss : List StreamView) : Type 0 where
  pub whole : is_some (loop_at 5 bytes) ≡ true
  pub streams : streams_in bytes ≡ ss

pub streams_read : (bytes : List ℕ) (ss : List StreamView) → IsBytes bytes → AreStreams bytes ss → StreamsRead bytes ss
unfolding streams_in
streams_read bytes ss h k =
    let v = entries_again bytes ss h k in
    let read : loop_at 5 bytes ≡ Some v.0 = loop_at-read 5 bytes v.0 (omega arith) v.1.entries in
    record {
      whole = ap (λ (o : Option (List EntryView)). is_some o) read;
      streams = ap (λ (o : Option (List EntryView)). map stream_of (unwrap_or o [])) read ∙ v.1.streams;
    }

pub streams_at-read : (bytes : List ℕ) (ss : List StreamView) → StreamsRead bytes ss → streams_at bytes ≡ Ok ss
unfolding streams_at
streams_at-read bytes ss h = rw (h.whole, h.streams) refl

pub streams_at-is : (bytes : List ℕ) (ss : List StreamView) → streams_at bytes ≡ Ok ss → StreamsRead bytes ss
unfolding streams_at
streams_at-is bytes ss e = let q = test_of (is_some (loop_at 5 bytes)) (streams_in bytes) ss e in record { whole = q.0; streams = q.1 } where
  test_of : (t : Bool) (x y : List StreamView) → cond t (Ok x) (Err Body) ≡ Ok y → (t ≡ true) × (x ≡ y)
  test_of true x y e = (refl, ok_is x y e)
  test_of false x y e = absurd cc
