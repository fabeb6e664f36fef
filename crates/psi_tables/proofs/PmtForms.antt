-- The program map table: what the reader returns is in the bytes, and a written table reads back as the same table.
use Rattle.std.proofs.Common.{◌≡◌, ℕ, ◌+◌, ◌*◌, ◌/◌, ◌%◌, ◌^◌, ◌<◌, ◌≤◌, refl, sym, ap, ◌∙◌, subst, arith, List, [], ◌∷◌, ◌++◌, length, Option, None, Some}
use Rattle.std.proofs.Common.{Result, Ok, flat_map, slice_index, length-append, lit<}
use Rattle.bit_fields.specs.Fields.{number, fields, IsBytes}
use Rattle.bit_fields.specs.Reading.{◌>>=◌}
use Rattle.bit_fields.proofs.Bind.{bind_ok, ok_is}
use Rattle.bit_fields.proofs.ByteLists.{IsBytes-append_right}
use Rattle.psi_tables.specs.Views.{SectionView}
use Rattle.psi_tables.specs.Encoding.{IsWritable}
use Rattle.psi_tables.specs.Tables.{table_header_at}
use Rattle.psi_tables.specs.Loops.{EntryView, descriptors_length, IsEntry, entry_bytes, entry_at, entries_in}
use Rattle.psi_tables.specs.ProgramMap.{StreamView, PmtView, IsStream, AreStreams, IsPmt, streams_in, streams_at, pmt_after, pmt_at, info_length_bytes}
use Rattle.psi_tables.specs.ProgramMap.{pid_bytes, stream_entry, stream_bytes, streams_bytes, pmt_body, pmt_header, pmt_section, StreamFits, StreamsFit}
use Rattle.psi_tables.specs.ProgramMap.{PmtFits}
use Rattle.psi_tables.specs.declared.error.SectionError.{SectionError}
use Rattle.psi_tables.specs.declared.section.LongHeader.{LongHeader}
use Rattle.psi_tables.proofs.TableForms.{HasHeader, table_header_at-is, table_header_at-read}
use Rattle.psi_tables.proofs.LoopParts.{HasEntry, entry_at-is, entry_at-read, loop_at-is, whole_is}
use Rattle.psi_tables.proofs.StreamEncodings.{written_read}
use Rattle.psi_tables.proofs.StreamForms.{four, streams_found, StreamsRead, streams_read, streams_at-read, streams_at-is}

-- The front of a body: four bytes and the program's descriptors
front_found : (a b c d : ℕ) (descriptors : List ℕ) → a < 256 → b < 256 → c < 256 → d < 256 → descriptors_length (a ∷ b ∷ c ∷ d ∷ []) ≡ length descriptors
    → number (a ∷ b ∷ c ∷ d ∷ []) ≡ fields ((3, a / 32) ∷ (13, a % 32 * 256 + b) ∷ (4, c / 16) ∷ (12, length descriptors) ∷ [])
unfolding descriptors_length
front_found a b c d descriptors ha hb hc hd named = let len : c % 16 * 256 + d ≡ length descriptors = named in omega arith

-- A body that consists of this front, these descriptors and these streams is a PMT.
table_found : (s : SectionView) (header : LongHeader) (a b c d : ℕ) (descriptors rest : List ℕ) (ss : List StreamView) → HasHeader 0x02 1021 s header
    → s.body ≡ (a ∷ b ∷ c ∷ d ∷ descriptors) ++ rest → a < 256 → b < 256 → c < 256 → d < 256 → descriptors_length (a ∷ b ∷ c ∷ d ∷ []) ≡ length descriptors →
    AreStreams rest ss
    → IsPmt s (record { header = header; pcr_pid = a % 32 * 256 + b; program_info = descriptors; streams = ss })
unfolding descriptors_length
table_found s header a b c d descriptors rest ss k is ha hb hc hd named streams =
    let len : c % 16 * 256 + d ≡ length descriptors = named in
    record {
      table_id = k.table_id;
      long = k.long;
      section_length = k.section_length;
      head = a ∷ b ∷ c ∷ d ∷ [];
      loop = rest;
      is = is;
      reserved = a / 32;
      reserved_after = c / 16;
      head_length = refl;
      spelled = front_found a b c d descriptors ha hb hc hd named;
      three_bits = omega arith;
      pcr_pid = omega arith;
      four_bits = omega arith;
      info_length = omega arith;
      streams = streams;
    }

-- The parts of a table after its header
pub record After (header : LongHeader) (o : Option (EntryView × List ℕ)) (p : PmtView) : Type 0 where
  pub front : EntryView × List ℕ
  pub there : o ≡ Some front
  pub streams : List StreamView
  pub read : streams_at front.1 ≡ Ok streams
  pub is : ◌≡◌ {A = PmtView}
      (record {
        header = header;
        pcr_pid = slice_index front.0.head 0 % 32 * 256 + slice_index front.0.head 1;
        program_info = front.0.descriptors;
        streams =
            streams;
      }) p

after_is : (header : LongHeader) (o : Option (EntryView × List ℕ)) (p : PmtView) → pmt_after header o ≡ Ok p → After header o p
unfolding pmt_after
after_is header None p e = absurd cc
after_is header (Some x) p e =
    let q = bind_ok (streams_at x.1) _ p e in
    record { front = x; there = refl; streams = q.0; read = q.1; is = ok_is _ p q.2 }

front_is : (s : SectionView) (header : LongHeader) (e : EntryView) (rest : List ℕ) (ss : List StreamView) → IsBytes s.body → HasHeader 0x02 1021 s header →
    HasEntry 4 s.body e rest → AreStreams rest ss
    → IsPmt s (record { header = header; pcr_pid = slice_index e.head 0 % 32 * 256 + slice_index e.head 1; program_info = e.descriptors; streams = ss })
unfolding entry_bytes
front_is s header e rest ss h k there streams =
    let v = four e.head there.entry.head_length in
    let is : s.body ≡ (v.0 ∷ v.1 ∷ v.2 ∷ v.3 ∷ e.descriptors) ++ rest = there.is ∙ ap (λ (x : List ℕ). (x ++ e.descriptors) ++ rest) v.4 in
    let bytes : IsBytes ((v.0 ∷ v.1 ∷ v.2 ∷ v.3 ∷ e.descriptors) ++ rest) = subst IsBytes is h in
    let named : descriptors_length (v.0 ∷ v.1 ∷ v.2 ∷ v.3 ∷ []) ≡ length e.descriptors = ap descriptors_length (sym v.4) ∙ there.entry.named in
    subst (λ (x : List ℕ). IsPmt s
    (record { header = header; pcr_pid = slice_index x 0 % 32 * 256 + slice_index x 1; program_info = e.descriptors; streams = ss })) (sym v.4)
    (table_found s header v.0 v.1 v.2 v.3 e.descriptors rest ss k is (bytes 0) (bytes 1) (bytes 2) (bytes 3) named streams)

streams_there : (bytes : List ℕ) (ss : List StreamView) → IsBytes bytes → StreamsRead bytes ss → AreStreams bytes ss
unfolding streams_in
streams_there bytes ss h k =
    subst (λ (xs : List StreamView). AreStreams bytes xs) k.streams
    (streams_found bytes (entries_in 5 bytes) h (loop_at-is 5 bytes (entries_in 5 bytes) (whole_is 5 bytes k.whole)))

-- If the reader returns a PMT, the section is this PMT.
pub pmt_is : (s : SectionView) (p : PmtView) → IsBytes s.body → pmt_at s ≡ Ok p → IsPmt s p
unfolding pmt_at
pmt_is s p h e =
    let q = bind_ok (table_header_at 0x02 1021 s) _ p e in
    let header : HasHeader 0x02 1021 s q.0 = table_header_at-is 0x02 1021 s q.0 q.1 in
    let b = after_is q.0 (entry_at 4 s.body) p q.2 in
    let there : HasEntry 4 s.body b.front.0 b.front.1 = entry_at-is 4 s.body b.front b.there in
    let rest : IsBytes b.front.1 = IsBytes-append_right (entry_bytes b.front.0) b.front.1 (subst IsBytes there.is h) in
    subst (λ (v : PmtView). IsPmt s v) b.is
    (front_is s q.0 b.front.0 b.front.1 b.streams h header there (streams_there b.front.1 b.streams rest (streams_at-is b.front.1 b.streams b.read)))

ok : PmtView → Result PmtView SectionError
ok v = Ok v

after_read : (p : PmtView) (head rest : List ℕ) → slice_index head 0 % 32 * 256 + slice_index head 1 ≡ p.pcr_pid → StreamsRead rest p.streams
    → pmt_after p.header (Some (record { head = head; descriptors = p.program_info }, rest)) ≡ Ok p
unfolding pmt_after ok
after_read p head rest pid streams =
    let whole : ◌≡◌ {A = PmtView}
    (record { header = p.header; pcr_pid = slice_index head 0 % 32 * 256 + slice_index head 1; program_info = p.program_info; streams = p.streams })
    (record { header = p.header; pcr_pid = p.pcr_pid; program_info = p.program_info; streams = p.streams }) =
    ap (λ (n : ℕ). record { header = p.header; pcr_pid = n; program_info = p.program_info; streams = p.streams }) pid in
    ap (λ (r : Result (List StreamView) SectionError). r >>= λ streams. ok (record {
      header = p.header;
      pcr_pid = slice_index head 0 % 32 * 256 + slice_index head 1;
      program_info = p.program_info;
      streams = streams;
    })) (streams_at-read rest p.streams streams)
    ∙ ap ok whole

read_by : (s : SectionView) (p : PmtView) (head rest : List ℕ) → HasHeader 0x02 1021 s p.header →
    s.body ≡ entry_bytes (record { head = head; descriptors = p.program_info }) ++ rest
    → IsEntry 4 (record { head = head; descriptors = p.program_info }) → slice_index head 0 % 32 * 256 + slice_index head 1 ≡ p.pcr_pid →
    StreamsRead rest p.streams → pmt_at s ≡ Ok p
unfolding pmt_at
read_by s p head rest header is entry pid streams =
    let front : entry_at 4 s.body ≡ Some (record { head = head; descriptors = p.program_info }, rest) =
    ap (λ (x : List ℕ). entry_at 4 x) is ∙ entry_at-read 4 (record { head = head; descriptors = p.program_info }) rest entry in
    ap (λ (r : Result LongHeader SectionError). r >>= λ header. pmt_after header (entry_at 4 s.body)) (table_header_at-read 0x02 1021 s p.header header)
    ∙ ap (λ (o : Option (EntryView × List ℕ)). pmt_after p.header o) front
    ∙ after_read p head rest pid streams

front_bytes : (body rest descriptors : List ℕ) (a b c d : ℕ) → body ≡ (a ∷ b ∷ c ∷ d ∷ descriptors) ++ rest →
    body ≡ entry_bytes (record { head = a ∷ b ∷ c ∷ d ∷ []; descriptors = descriptors }) ++ rest
unfolding entry_bytes
front_bytes body rest descriptors a b c d is = is

front_entry : (a b c d : ℕ) (descriptors : List ℕ) → c % 16 * 256 + d ≡ length descriptors →
    IsEntry 4 (record { head = a ∷ b ∷ c ∷ d ∷ []; descriptors = descriptors })
unfolding descriptors_length
front_entry a b c d descriptors len = record { head_length = refl; named = len }

again_by : (s : SectionView) (p : PmtView) (a b c d : ℕ) (rest : List ℕ) (reserved reserved' : ℕ) → HasHeader 0x02 1021 s p.header →
    s.body ≡ (a ∷ b ∷ c ∷ d ∷ p.program_info) ++ rest
    → a < 256 → b < 256 → c < 256 → d < 256
    → number (a ∷ b ∷ c ∷ d ∷ []) ≡ fields ((3, reserved) ∷ (13, p.pcr_pid) ∷ (4, reserved') ∷ (12, length p.program_info) ∷ [])
    → reserved < 2 ^ 3 → p.pcr_pid < 2 ^ 13 → reserved' < 2 ^ 4 → length p.program_info < 2 ^ 12 → StreamsRead rest p.streams → pmt_at s ≡ Ok p
again_by s p a b c d rest reserved reserved' header is ha hb hc hd spelled hr hp hr' hl streams =
    read_by s p (a ∷ b ∷ c ∷ d ∷ []) rest header (front_bytes s.body rest p.program_info a b c d is) (front_entry a b c d p.program_info (omega arith))
    (omega arith) streams

-- If a section is a PMT, the reader returns this PMT.
pub pmt_again : (s : SectionView) (p : PmtView) → IsBytes s.body → IsPmt s p → pmt_at s ≡ Ok p
pmt_again s p h k =
    let v = four k.head k.head_length in
    let is : s.body ≡ (v.0 ∷ v.1 ∷ v.2 ∷ v.3 ∷ p.program_info) ++ k.loop = k.is ∙ ap (λ (x : List ℕ). x ++ (p.program_info ++ k.loop)) v.4 in
    let bytes : IsBytes ((v.0 ∷ v.1 ∷ v.2 ∷ v.3 ∷ p.program_info) ++ k.loop) = subst IsBytes is h in
    let spelled = subst (λ (x : List ℕ). number x ≡ fields ((3, k.reserved) ∷ (13, p.pcr_pid) ∷ (4, k.reserved_after) ∷ (12, length p.program_info) ∷ [])) v.4
    k.spelled in
    again_by s p v.0 v.1 v.2 v.3 k.loop k.reserved k.reserved_after (record { table_id = k.table_id; long = k.long; section_length = k.section_length }) is
    (bytes 0) (bytes 1) (bytes 2) (bytes 3)
    spelled k.three_bits k.pcr_pid k.four_bits k.info_length
    (streams_read k.loop p.streams (IsBytes-append_right (v.0 ∷ v.1 ∷ v.2 ∷ v.3 ∷ p.program_info) k.loop bytes) k.streams)

stream_written : (s : StreamView) → StreamFits s → IsStream (stream_bytes s) s
unfolding stream_bytes stream_entry entry_bytes pid_bytes info_length_bytes
stream_written s h =
    record {
      head = s.stream_type ∷ (0xE0 + s.elementary_pid / 256 % 32) ∷ (s.elementary_pid % 256) ∷ (0xF0 + length s.descriptors / 256 % 16) ∷
          (length s.descriptors % 256) ∷ [];
      is = refl;
      reserved = 7;
      reserved_after = 15;
      head_length = refl;
      spelled = omega (arith, h.elementary_pid, h.info_length);
      stream_type = h.stream_type;
      three_bits = lit< tt;
      elementary_pid = h.elementary_pid;
      four_bits = lit< tt;
      info_length = h.info_length;
    }

streams_written : (ss : List StreamView) → StreamsFit ss → AreStreams (streams_bytes ss) ss
unfolding streams_bytes
streams_written [] h = refl
streams_written (s ∷ ss) h = (stream_bytes s, flat_map stream_bytes ss, refl, stream_written s h.0, streams_written ss h.1)

-- A written PMT is a section that has the same PMT, can be written, and reads back as this PMT.
pub record Again (p : PmtView) : Type 0 where
  pub table : IsPmt (pmt_section p) p
  pub writable : IsWritable (pmt_section p)
  pub read : pmt_at (pmt_section p) ≡ Ok p

pub written : (p : PmtView) → PmtFits p → Again p
unfolding pmt_section pmt_header pmt_body pid_bytes info_length_bytes
written p h =
    let n : ℕ = length p.program_info in
    let a : ℕ = 0xE0 + p.pcr_pid / 256 % 32 in
    let b : ℕ = p.pcr_pid % 256 in
    let c : ℕ = 0xF0 + n / 256 % 16 in
    let d : ℕ = n % 256 in
    let room : 9 + length (a ∷ b ∷ c ∷ d ∷ (p.program_info ++ streams_bytes p.streams)) ≤ 1021 = h.room in
    let few : n < 2 ^ 12 = omega (arith, room, length-append p.program_info (streams_bytes p.streams)) in
    let spelled : number (a ∷ b ∷ c ∷ d ∷ []) ≡ fields ((3, 7) ∷ (13, p.pcr_pid) ∷ (4, 15) ∷ (12, n) ∷ []) = omega (arith, h.pcr_pid) in
    let header : HasHeader 0x02 1021 (pmt_section p) p.header = record { table_id = refl; long = refl; section_length = room } in
    let streams = written_read p.streams h.streams in
    record {
      table = record {
        table_id = refl;
        long = refl;
        section_length = room;
        head = a ∷ b ∷ c ∷ d ∷ [];
        loop = streams_bytes p.streams;
        is = refl;
        reserved = 7;
        reserved_after = 15;
        head_length = refl;
        spelled = spelled;
        three_bits = lit< tt;
        pcr_pid = h.pcr_pid;
        four_bits = lit< tt;
        info_length = few;
        streams = streams_written p.streams h.streams;
      };
      writable = record { table_id = lit< tt; numbers = h.header; room = omega arith };
      read = again_by (pmt_section p) p a b c d (streams_bytes p.streams) 7 15 header refl (omega (arith, h.pcr_pid)) (omega arith) (omega arith) (omega arith)
          spelled (lit< tt) h.pcr_pid (lit< tt) few
          (record { whole = streams.whole; streams = streams.streams });
    }
