-- A written header is a header by the table of fields, and is read back.
use Rattle.std.proofs.Common.{◌≡◌, ℕ, ◌+◌, ◌*◌, ◌/◌, ◌%◌, ◌^◌, ◌<◌, ◌≤◌, ◌==◌, ◌&&◌, ◌||◌, not, nat_le, zero, suc, ◌-◌, Bool, true, false, cond, Option, Some}
use Rattle.std.proofs.Common.{None, is_some, option_map, IfSome, Ok, drop, List, [], ◌∷◌, ◌++◌, length, replicate, refl, sym, ap, ◌∙◌, arith, ◌⊎◌, inl, inr}
use Rattle.std.proofs.Common.{IsTrue}
use Rattle.std.proofs.lemmas.Bool.{eqb-true, ne_eqb, and_parts, or_from, leb-true, le-leb, le-ltb}
use Rattle.std.proofs.lemmas.List.{length-append, length-replicate, take_at, drop_at}
use Rattle.bit_fields.specs.Fields.{IsBytes, bit, flag}
use Rattle.bit_fields.proofs.ByteLists.{IsBytes-cons, IsBytes-nil, IsBytes-append}
use Rattle.pes_packet.specs.StreamIds.{has_flags, is_unit_id, greatest_size, fits_packet}
use Rattle.pes_packet.specs.Encoding.{pes_start_bytes, packet_length, stamp_bytes, on_wire, header_with, pts_header, pts_dts_header, pes_header_bytes}
use Rattle.pes_packet.specs.HeaderMarks.{header_marks}
use Rattle.pes_packet.specs.Marks.{flag_bits, data_length, extension, first_sixteen, sixteen, stuffing}
use Rattle.pes_packet.specs.PrivateData.{before_extension, private_at, private_in}
use Rattle.pes_packet.specs.Reading.{header_at}
use Rattle.pes_packet.specs.Syntax.{IsStamp, IsStamps, IsStart, IsFlags, IsPesHeader, stamp_flags}
use Rattle.pes_packet.specs.Laws.{written_header, plain_header, HasSixteen, MarksAreRead, WrittenIsRead, WrittenIsHeader, HeaderSizes, HeaderCounts}
use Rattle.pes_packet.specs.Laws.{WithoutMarks}
use Rattle.pes_packet.specs.declared.time_stamps.Stamps.{Stamps}
use Rattle.pes_packet.specs.declared.time_stamps.Stamps.TheVariants.{Pts, PtsDts}
use Rattle.pes_packet.specs.declared.reading.PesHeader.{PesHeader}
use Rattle.pes_packet.specs.declared.marks.PesFlags.{PesFlags}
use Rattle.pes_packet.specs.declared.marks.Marks.{Marks}
use Rattle.pes_packet.proofs.HeaderFields.{flagged_by, start_again, bit_most}
use Rattle.pes_packet.proofs.Sixteen.{has_sixteen, same_private, sixteen_size}

either : (b c : Bool) → (b || c) ≡ true → (b ≡ true) ⊎ (c ≡ true)
either true c e = inl refl
either false c e = inr e

-- The stream_ids that units have.
pub unit_ids : (id : ℕ) → is_unit_id id ≡ true → (id ≡ 189) ⊎ ((192 ≤ id) × (id ≤ 239))
unit_ids id e =
    elim (either (id == 189) (nat_le 192 id && nat_le id 239) e) [
      | inl one ↦ inl (eqb-true id 189 one)
      | inr range ↦ let p = and_parts (nat_le 192 id) (nat_le id 239) range in inr (leb-true 192 id p.0, leb-true id 239 p.1)
    ]

pub unit_id_below : (id : ℕ) → (id ≡ 189) ⊎ ((192 ≤ id) × (id ≤ 239)) → id < 256
unit_id_below id (inl e) = omega arith
unit_id_below id (inr e) = omega arith

-- A header with a unit's stream_id has flag bytes.
flagged_ids : (id : ℕ) → (id ≡ 189) ⊎ ((192 ≤ id) × (id ≤ 239)) → has_flags id ≡ true
unfolding has_flags
flagged_ids id (inl e) = rw e refl
flagged_ids id (inr e) =
    ap not
    (or_from _ _ (or_from _ _ (or_from _ _ (or_from _ _ (or_from _ _ (or_from _ _ (or_from _ _
    (ne_eqb id 0xBC (λ n. omega arith)) (ne_eqb id 0xBE (λ n. omega arith))) (ne_eqb id 0xBF (λ n. omega arith)))
    (ne_eqb id 0xF0 (λ n. omega arith))) (ne_eqb id 0xF1 (λ n. omega arith))) (ne_eqb id 0xF2 (λ n. omega arith)))
    (ne_eqb id 0xF8 (λ n. omega arith))) (ne_eqb id 0xFF (λ n. omega arith)))

length_cases : (b : Bool) (n : ℕ) → (cond b n 0 ≡ 0) ⊎ ((b ≡ true) × (cond b n 0 ≡ n))
length_cases true n = inr (refl, refl)
length_cases false n = inl refl

-- A written PES_packet_length is 0, or counts the bytes and fits 16 bits.
pub packet_length_is : (n : ℕ) → (packet_length n ≡ 0) ⊎ ((n ≤ 65_535) × (packet_length n ≡ n))
unfolding packet_length
packet_length_is n =
    elim (length_cases (nat_le n 65_535) n) [
      | inl none ↦ inl none
      | inr some ↦ inr (leb-true n 65_535 some.0, some.1)
    ]

pub packet_length_fits : (n : ℕ) → packet_length n < 2 ^ 16
packet_length_fits n =
    elim (packet_length_is n) [
      | inl none ↦ omega (arith, none)
      | inr some ↦ omega (arith, some.0, some.1)
    ]

packet_length_all : (n : ℕ) → n ≤ 65_535 → packet_length n ≡ n
unfolding packet_length
packet_length_all n h = rw (le-leb n 65_535 h) refl

packet_length_counts : (n size : ℕ) → n ≤ size → (packet_length size ≡ 0) ⊎ (n ≤ packet_length size)
packet_length_counts n size h =
    elim (packet_length_is size) [
      | inl none ↦ inl none
      | inr some ↦ inr (omega (arith, some.1))
    ]

three_bytes : (a b c : ℕ) → a < 256 → b < 256 → c < 256 → IsBytes (a ∷ b ∷ c ∷ [])
three_bytes a b c ha hb hc = IsBytes-cons a (b ∷ c ∷ []) ha (IsBytes-cons b (c ∷ []) hb (IsBytes-cons c [] hc IsBytes-nil))

five_bytes : (a b c d e : ℕ) → a < 256 → b < 256 → c < 256 → d < 256 → e < 256 → IsBytes (a ∷ b ∷ c ∷ d ∷ e ∷ [])
five_bytes a b c d e ha hb hc hd he =
    IsBytes-cons a (b ∷ c ∷ d ∷ e ∷ []) ha (IsBytes-cons b (c ∷ d ∷ e ∷ []) hb (three_bytes c d e hc hd he))

-- A written time stamp is a time stamp by the table of fields.
stamp_matches : (mark stamp : ℕ) → mark < 16 → stamp < 2 ^ 33 → IsStamp (stamp_bytes mark stamp) stamp
unfolding stamp_bytes
stamp_matches mark stamp hm hs = record { len = refl; mark = mark; spelled = omega arith; below = hs }

stamp_is_bytes : (mark stamp : ℕ) → mark < 16 → stamp < 2 ^ 33 → IsBytes (stamp_bytes mark stamp)
unfolding stamp_bytes
stamp_is_bytes mark stamp hm hs =
    five_bytes (mark * 16 + (stamp / 2 ^ 30 * 2 + 1)) (stamp / 2 ^ 22 % 256) (stamp / 2 ^ 15 % 128 * 2 + 1) (stamp / 2 ^ 7 % 256) (stamp % 128 * 2 + 1)
    (omega arith) (omega arith) (omega arith) (omega arith) (omega arith)

start_matches : (id len : ℕ) (header : PesHeader) → id < 256 → len < 2 ^ 16 → header.id ≡ id → header.len ≡ len → IsStart (pes_start_bytes id len) header
unfolding pes_start_bytes
start_matches id len header hi hl ei el = record { len = refl; spelled = omega arith; id = omega arith; packet_length = omega arith }

start_is_bytes : (id len : ℕ) → id < 256 → len < 2 ^ 16 → IsBytes (pes_start_bytes id len)
unfolding pes_start_bytes
start_is_bytes id len hi hl =
    IsBytes-cons 0 (0 ∷ 1 ∷ id ∷ (len / 256) ∷ (len % 256) ∷ []) (omega arith)
    (five_bytes 0 1 id (len / 256) (len % 256) (omega arith) (omega arith) hi (omega arith) (omega arith))

-- A header is at the front of bytes, and is read there.
pub record IsHeaderAt (bytes : List ℕ) (header : PesHeader) (size : ℕ) : Type 0 where
  pub is : IsPesHeader bytes header size
  pub read : header_at bytes ≡ Ok (header, size)

-- Written flag bytes.
flags_match : (second n : ℕ) (private : Bool) (flags : PesFlags) (stamps : Stamps) → n < 256 → stamp_flags stamps * 64 ≡ second → second < 255
    → IsFlags ((0x80 + flag_bits flags) ∷ (second + bit private) ∷ n ∷ []) flags stamps n
flags_match second n private flags stamps hn e hs = record {
  len = refl;
  scrambling = 0;
  parts = bit private;
  spelled = omega (arith, e);
  scrambling_fits = omega arith;
  parts_fit = omega (arith, bit_most private);
  length_fits = hn;
}

flag_byte_fits : (flags : PesFlags) → 0x80 + flag_bits flags < 256
flag_byte_fits flags =
    omega (arith, bit_most flags.priority, bit_most flags.aligned, bit_most flags.copyright, bit_most flags.original)

-- The PES extension and the stuffing fill the header data.
filled_by : (long : Bool) (private : Option (List ℕ)) (n : ℕ) → n ≤ 10
    → cond long 36 (n + cond (is_some private) 17 0)
    ≡ n + length (extension private ++ cond long (replicate (36 - (n + cond (is_some private) 17 0)) 0xFF) [])
filled_by true None n h = omega (arith, length-replicate {A = ℕ} (36 - (n + 0)) 0xFF)
filled_by true (Some bytes) n h =
    omega (arith, length-append (sixteen bytes) (replicate (36 - (n + 17)) 0xFF), length-replicate {A = ℕ} (36 - (n + 17)) 0xFF, sixteen_size bytes)
filled_by false None n h = omega arith
filled_by false (Some bytes) n h = omega (arith, length-append (sixteen bytes) [], sixteen_size bytes)

data_fits : (long private : Bool) (n : ℕ) → n ≤ 10 → cond long 36 (n + cond private 17 0) < 256
data_fits true private n h = omega arith
data_fits false true n h = omega arith
data_fits false false n h = omega arith

-- PES_private_data is read after the time stamps.
pub first_again : (bytes more : List ℕ) → first_sixteen (sixteen bytes ++ more) ≡ Some (sixteen bytes)
unfolding first_sixteen
first_again bytes more =
    let some : 16 ≤ length (sixteen bytes ++ more) = omega (arith, length-append (sixteen bytes) more, sixteen_size bytes) in
    rw (le-ltb (length (sixteen bytes ++ more)) 16 some, take_at (sixteen bytes) more 16 (sixteen_size bytes)) refl

private_again : (second : ℕ) (private : Option (List ℕ)) (wire more : List ℕ) → flag (second + 0) 1 ≡ false → flag (second + 1) 1 ≡ true
    → before_extension (second + 1) ≡ length wire →
    private_at (second + bit (is_some private)) (wire ++ (extension private ++ more)) ≡ option_map sixteen private
unfolding private_at private_in
private_again second None wire more unset set skips = rw unset refl
private_again second (Some bytes) wire more unset set skips =
    let behind : drop (before_extension (second + 1)) (wire ++ ((0x8E ∷ sixteen bytes) ++ more)) ≡ (0x8E ∷ sixteen bytes) ++ more =
    drop_at wire ((0x8E ∷ sixteen bytes) ++ more) (before_extension (second + 1)) (sym skips) in
    rw (set, behind) (first_again bytes more)

-- A written header with these time stamps.
with_matches : (id size : ℕ) (marks : Marks) (second : ℕ) (stamps : Stamps) (wire rest : List ℕ) → id < 256 → has_flags id ≡ true
    → second < 255 → stamp_flags stamps * 64 ≡ second → flag (second + 0) 1 ≡ false → flag (second + 1) 1 ≡ true → before_extension (second + 1) ≡ length wire
    → length wire ≤ 10 → IsStamps wire stamps → IsBytes wire
    → IsHeaderAt (header_with id size marks second wire ++ rest)
    (record {
      id = id;
      len = packet_length (3 + data_length marks (length wire) + size);
      stamps = stamps;
      flags = marks.flags;
      data_length = data_length marks (length wire);
      private_data = option_map sixteen marks.private_data;
    })
    (length (header_with id size marks second wire))
unfolding header_with pes_start_bytes
with_matches id size marks second stamps wire rest hi flagged hs announced unset set skips short matching fits =
    let n : ℕ = length wire in
    let others : List ℕ = extension marks.private_data ++ stuffing marks n in
    let flags : List ℕ = (0x80 + flag_bits marks.flags) ∷ (second + bit (is_some marks.private_data)) ∷ data_length marks n ∷ [] in
    let start : List ℕ = pes_start_bytes id (packet_length (3 + data_length marks n + size)) in
    let header : PesHeader = record {
      id = id;
      len = packet_length (3 + data_length marks n + size);
      stamps = stamps;
      flags = marks.flags;
      data_length = data_length marks n;
      private_data = option_map sixteen marks.private_data;
    } in
    let filled : data_length marks n ≡ n + length others = filled_by marks.long marks.private_data n short in
    let joined : length (wire ++ others) ≡ data_length marks n = length-append wire others ∙ sym filled in
    let count : 3 + data_length marks n ≤ 3 + data_length marks n + size = omega arith in
    let below : data_length marks n < 256 = data_fits marks.long (is_some marks.private_data) n short in
    let counted : (header.len ≡ 0) ⊎ (length (flags ++ (wire ++ others)) ≤ header.len) =
    elim (packet_length_counts (3 + data_length marks n) (3 + data_length marks n + size) count) [
      | inl none ↦ inl none
      | inr some ↦ inr (omega (arith, some, joined))
    ] in
    let front : IsStart start header =
    start_matches id (packet_length (3 + data_length marks n + size)) header hi (packet_length_fits (3 + data_length marks n + size)) refl refl in
    let flag_bytes : IsFlags flags marks.flags stamps (data_length marks n) =
    flags_match second (data_length marks n) (is_some marks.private_data) marks.flags stamps below announced hs in
    let flags_fit : IsBytes flags =
    three_bytes (0x80 + flag_bits marks.flags) (second + bit (is_some marks.private_data)) (data_length marks n) (flag_byte_fits marks.flags)
    (omega (arith, hs, bit_most (is_some marks.private_data))) below in
    let private : option_map sixteen marks.private_data ≡ private_at (second + bit (is_some marks.private_data)) (wire ++ others) =
    sym (private_again second marks.private_data wire (stuffing marks n) unset set skips) in
    record {
      is = record {
        start = start;
        after = flags ++ (wire ++ others);
        rest = rest;
        is = refl;
        size_is = length-append start (flags ++ (wire ++ others));
        start_matches = front;
        after_matches = rw flagged (record {
          flags = flags;
          stamps = wire;
          others = others;
          is = refl;
          flags_match = flag_bytes;
          data_is = filled;
          stamps_match = matching;
          private_is = private;
          counted = counted;
        });
      };
      read = start_again header start (flags ++ (wire ++ others)) rest
          (start_is_bytes id (packet_length (3 + data_length marks n + size)) hi (packet_length_fits (3 + data_length marks n + size)))
          front (rw flagged (flagged_by header flags wire others rest flags_fit fits flag_bytes filled matching counted private))
          ∙ ap (λ (k : ℕ). Ok (header, k)) (sym (length-append start (flags ++ (wire ++ others))));
    }

-- A written header with a PTS and no DTS.
pts_matches : (id size : ℕ) (marks : Marks) (pts : ℕ) (rest : List ℕ) → id < 256 → has_flags id ≡ true → pts < 2 ^ 33
    → IsHeaderAt (pts_header id size marks pts ++ rest)
    (record {
      id = id;
      len = packet_length (3 + data_length marks 5 + size);
      stamps = Pts pts;
      flags = marks.flags;
      data_length = data_length marks 5;
      private_data = option_map sixteen marks.private_data;
    })
    (length (pts_header id size marks pts))
unfolding pts_header stamp_bytes
pts_matches id size marks pts rest hi flagged hp =
    with_matches id size marks 0x80 (Pts pts) (stamp_bytes 2 pts) rest hi flagged (omega arith) refl refl refl refl (omega arith)
    (stamp_matches 2 pts (omega arith) hp) (stamp_is_bytes 2 pts (omega arith) hp)

-- A written header with a PTS and a DTS.
pts_dts_match : (id size : ℕ) (marks : Marks) (pts dts : ℕ) (rest : List ℕ) → id < 256 → has_flags id ≡ true → pts < 2 ^ 33 → dts < 2 ^ 33
    → IsHeaderAt (pts_dts_header id size marks pts dts ++ rest)
    (record {
      id = id;
      len = packet_length (3 + data_length marks 10 + size);
      stamps = PtsDts pts dts;
      flags = marks.flags;
      data_length = data_length marks 10;
      private_data = option_map sixteen marks.private_data;
    })
    (length (pts_dts_header id size marks pts dts))
unfolding pts_dts_header stamp_bytes
pts_dts_match id size marks pts dts rest hi flagged hp hd =
    with_matches id size marks 0xC0 (PtsDts pts dts) (stamp_bytes 3 pts ++ stamp_bytes 1 dts) rest hi flagged (omega arith) refl refl refl refl (omega arith)
    (record {
      first = stamp_bytes 3 pts;
      second = stamp_bytes 1 dts;
      is = refl;
      pts_matches = stamp_matches 3 pts (omega arith) hp;
      dts_matches = stamp_matches 1 dts (omega arith) hd;
    })
    (IsBytes-append (stamp_bytes 3 pts) (stamp_bytes 1 dts) (stamp_is_bytes 3 pts (omega arith) hp) (stamp_is_bytes 1 dts (omega arith) hd))

-- A written header; if PTS and DTS are equal, the DTS is left out.
header_matches : (b : Bool) (id size : ℕ) (marks : Marks) (p d : ℕ) (rest : List ℕ) → id < 256 → has_flags id ≡ true → p < 2 ^ 33 → d < 2 ^ 33
    → IsHeaderAt (cond b (pts_header id size marks p) (pts_dts_header id size marks p d) ++ rest)
    (cond b
    (record {
      id = id;
      len = packet_length (3 + data_length marks 5 + size);
      stamps = Pts p;
      flags = marks.flags;
      data_length = data_length marks 5;
      private_data = option_map sixteen marks.private_data;
    })
    (record {
      id = id;
      len = packet_length (3 + data_length marks 10 + size);
      stamps = PtsDts p d;
      flags = marks.flags;
      data_length = data_length marks 10;
      private_data = option_map sixteen marks.private_data;
    }))
    (length (cond b (pts_header id size marks p) (pts_dts_header id size marks p d)))
header_matches true id size marks p d rest hi flagged hp hd = pts_matches id size marks p rest hi flagged hp
header_matches false id size marks p d rest hi flagged hp hd = pts_dts_match id size marks p d rest hi flagged hp hd

-- The written header of a unit is a header by the table of fields.
pub written_matches : (id size : ℕ) (marks : Marks) (pts dts : ℕ) (rest : List ℕ) → IsTrue (fits_packet id size)
    → IsHeaderAt (pes_header_bytes id size marks pts dts ++ rest) (written_header id size marks pts dts) (length (pes_header_bytes id size marks pts dts))
unfolding pes_header_bytes written_header
written_matches id size marks pts dts rest fits =
    let all = and_parts (is_unit_id id && nat_le 1 size) (nat_le size (greatest_size id)) fits in
    let parts = and_parts (is_unit_id id) (nat_le 1 size) all.0 in
    let ids = unit_ids id parts.0 in
    let hp : on_wire pts < 2 ^ 33 = omega arith in
    let hd : on_wire dts < 2 ^ 33 = omega arith in
    header_matches (on_wire pts == on_wire dts) id size marks (on_wire pts) (on_wire dts) rest (unit_id_below id ids) (flagged_ids id ids) hp hd

pub written_is_header : WrittenIsHeader
written_is_header id size marks pts dts rest fits = (written_matches id size marks pts dts rest fits).is

pub written_is_read : WrittenIsRead
written_is_read id size marks pts dts rest fits = (written_matches id size marks pts dts rest fits).read

-- A header has 9 bytes and its header data.
with_size : (id size : ℕ) (marks : Marks) (second : ℕ) (wire : List ℕ) → length wire ≤ 10
    → length (header_with id size marks second wire) ≡ 9 + data_length marks (length wire)
unfolding header_with pes_start_bytes
with_size id size marks second wire short =
    omega (
      arith,
      length-append wire (extension marks.private_data ++ stuffing marks (length wire)),
      filled_by marks.long marks.private_data (length wire) short,
    )

sizes : (b : Bool) (id size : ℕ) (marks : Marks) (p d : ℕ)
    → length (cond b (pts_header id size marks p) (pts_dts_header id size marks p d)) ≡ cond b (9 + data_length marks 5) (9 + data_length marks 10)
unfolding pts_header pts_dts_header stamp_bytes
sizes true id size marks p d = with_size id size marks 0x80 (stamp_bytes 2 p) (omega arith)
sizes false id size marks p d = with_size id size marks 0xC0 (stamp_bytes 3 p ++ stamp_bytes 1 d) (omega arith)

size_is : (b long private : Bool) → cond b (9 + cond long 36 (5 + cond private 17 0)) (9 + cond long 36 (10 + cond private 17 0))
    ≡ cond long 45 (cond b 14 19 + cond private 17 0)
size_is true true private = refl
size_is false true private = refl
size_is true false true = refl
size_is true false false = refl
size_is false false true = refl
size_is false false false = refl

pub header_sizes : HeaderSizes
unfolding pes_header_bytes
header_sizes id size marks pts dts =
    sizes (on_wire pts == on_wire dts) id size marks (on_wire pts) (on_wire dts) ∙ size_is (on_wire pts == on_wire dts) marks.long (is_some marks.private_data)

count_fits : (b long private : Bool) (size : ℕ) → size + cond long 26 (cond private 17 0) ≤ 65_522
    → 6 + cond b (packet_length (3 + cond long 36 (5 + cond private 17 0) + size)) (packet_length (3 + cond long 36 (10 + cond private 17 0) + size))
    ≡ cond long 45 (cond b 14 19 + cond private 17 0) + size
count_fits true true private size h = omega (arith, packet_length_all (3 + 36 + size) (omega arith))
count_fits false true private size h = omega (arith, packet_length_all (3 + 36 + size) (omega arith))
count_fits true false true size h = omega (arith, packet_length_all (3 + 22 + size) (omega arith))
count_fits true false false size h = omega (arith, packet_length_all (3 + 5 + size) (omega arith))
count_fits false false true size h = omega (arith, packet_length_all (3 + 27 + size) (omega arith))
count_fits false false false size h = omega (arith, packet_length_all (3 + 10 + size) (omega arith))

-- The size limit without the field of random access.
less_field : (header : ℕ) (access : Bool) (size : ℕ) → size + (header + cond access 2 0) ≤ 65_522 → size + header ≤ 65_522
less_field header true size h = omega (arith, h)
less_field header false size h = omega (arith, h)

length_written : (b : Bool) (x y : PesHeader) → (cond b x y).len ≡ cond b x.len y.len
length_written true x y = refl
length_written false x y = refl

pub header_counts : HeaderCounts
unfolding written_header
header_counts id size marks pts dts h =
    let pts_alone : PesHeader = record {
      id = id;
      len = packet_length (3 + data_length marks 5 + size);
      stamps = Pts (on_wire pts);
      flags = marks.flags;
      data_length = data_length marks 5;
      private_data = option_map sixteen marks.private_data;
    } in
    let with_dts : PesHeader = record {
      id = id;
      len = packet_length (3 + data_length marks 10 + size);
      stamps = PtsDts (on_wire pts) (on_wire dts);
      flags = marks.flags;
      data_length = data_length marks 10;
      private_data = option_map sixteen marks.private_data;
    } in
    ap (λ (n : ℕ). 6 + n) (length_written (on_wire pts == on_wire dts) pts_alone with_dts)
    ∙ count_fits (on_wire pts == on_wire dts) marks.long (is_some marks.private_data) size
    (less_field (cond marks.long 26 (cond (is_some marks.private_data) 17 0)) marks.random_access size h)
    ∙ ap (λ (n : ℕ). n + size) (sym (header_sizes id size marks pts dts))

pub without_marks : WithoutMarks
unfolding pes_header_bytes pts_header pts_dts_header header_with pes_start_bytes stamp_bytes plain_header
without_marks id size pts dts = refl

-- Header data has 36 bytes only in a long header.
long_of_pts : (long private : Bool) → (cond long 36 (5 + cond private 17 0) == 36) ≡ long
long_of_pts true private = refl
long_of_pts false true = refl
long_of_pts false false = refl

long_of_both : (long private : Bool) → (cond long 36 (10 + cond private 17 0) == 36) ≡ long
long_of_both true private = refl
long_of_both false true = refl
long_of_both false false = refl

twice : (private : Option (List ℕ)) → IfSome private (λ bytes. length bytes ≡ 16) → option_map sixteen (option_map sixteen private) ≡ private
twice private h = same_private (option_map sixteen private) (has_sixteen private) ∙ same_private private h

-- Marks are equal if their parts are equal.
marks_by : (marks : Marks) (long : Bool) (private : Option (List ℕ)) → long ≡ marks.long → private ≡ marks.private_data
    → ◌≡◌ {A = Marks} (record { random_access = marks.random_access; flags = marks.flags; long = long; private_data = private }) marks
marks_by marks long private el ep = rw (el, ep) refl

either_marks : (b : Bool) (marks : Marks) (id l m : ℕ) (s t : Stamps) → HasSixteen marks
    → header_marks marks.random_access (cond b
    (record { id = id; len = l; stamps = s; flags = marks.flags; data_length = data_length marks 5; private_data = option_map sixteen marks.private_data })
    (record { id = id; len = m; stamps = t; flags = marks.flags; data_length = data_length marks 10; private_data = option_map sixteen marks.private_data }))
    ≡ marks
either_marks true marks id l m s t h =
    marks_by marks (data_length marks 5 == 36) (option_map sixteen (option_map sixteen marks.private_data))
    (long_of_pts marks.long (is_some marks.private_data)) (twice marks.private_data h)
either_marks false marks id l m s t h =
    marks_by marks (data_length marks 10 == 36) (option_map sixteen (option_map sixteen marks.private_data))
    (long_of_both marks.long (is_some marks.private_data)) (twice marks.private_data h)

pub marks_are_read : MarksAreRead
unfolding written_header
marks_are_read id size marks pts dts h =
    either_marks (on_wire pts == on_wire dts) marks id (packet_length (3 + data_length marks 5 + size)) (packet_length (3 + data_length marks 10 + size))
    (Pts (on_wire pts)) (PtsDts (on_wire pts) (on_wire dts)) h
