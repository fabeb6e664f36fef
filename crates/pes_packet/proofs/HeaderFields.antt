-- A header is read if and only if the bytes are a header by the table of its fields.
use Rattle.std.proofs.Common.{◌≡◌, ℕ, ◌+◌, ◌*◌, ◌/◌, ◌%◌, ◌^◌, ◌<◌, ◌≤◌, ◌&&◌, not, Bool, true, false, cond, Option, None, Result, Ok, Err, List, [], ◌∷◌, ◌++◌}
use Rattle.std.proofs.Common.{length, take, drop, slice_index, refl, sym, ap, ◌∙◌, subst, arith, ltb, eqb, suc, ◌⊎◌, inl, inr, IfOk}
use Rattle.std.proofs.lemmas.Bool.{eqb-true, eq-eqb, or_parts, or_from, ltb-false, le-ltb, ne_eqb, cases_eq}
use Rattle.std.proofs.lemmas.List.{length-append, length-take-le, take-append-drop, take_at}
use Rattle.bit_fields.specs.Fields.{number, fields, bit, flag, IsBytes}
use Rattle.bit_fields.proofs.Bind.{bind_ok, guard_ok, chosen, ok_not_err}
use Rattle.bit_fields.proofs.Fields.{bit_test, test_bit}
use Rattle.bit_fields.proofs.ByteLists.{IsBytes-tail, IsBytes-take, IsBytes-append_left, IsBytes-append_right}
use Rattle.pes_packet.specs.StreamIds.{has_flags}
use Rattle.pes_packet.specs.Marks.{no_flags, flags_in}
use Rattle.pes_packet.specs.PrivateData.{private_at}
use Rattle.pes_packet.specs.Reading.{stamps_at, is_bad_flags, is_too_short, data_at, flags_at, start_at, misses_prefix, header_at}
use Rattle.pes_packet.specs.Syntax.{IsStamps, IsStart, IsFlags, IsAfter, IsPesHeader, stamp_flags}
use Rattle.pes_packet.specs.declared.refusal.PesError.{PesError}
use Rattle.pes_packet.specs.declared.refusal.PesError.TheVariants.{Short, Prefix}
use Rattle.pes_packet.specs.declared.time_stamps.Stamps.{Stamps}
use Rattle.pes_packet.specs.declared.time_stamps.Stamps.TheVariants.{Absent, Pts, PtsDts}
use Rattle.pes_packet.specs.declared.reading.PesHeader.{PesHeader}
use Rattle.pes_packet.specs.declared.marks.PesFlags.{PesFlags}
use Rattle.pes_packet.proofs.StampFields.{stamps_takes, stamps_again}

not_false : (b : Bool) → not b ≡ false → b ≡ true
not_false true e = refl
not_false false e = absurd cc

-- Flag bytes that pass the test begin with the bits 10.
pub good_flags : (first second : ℕ) → is_bad_flags first second ≡ false → first / 64 ≡ 2
good_flags first second e = let p = or_parts _ _ e in eqb-true _ _ (not_false _ p.0)

-- A PES_packet_length that passes the test is 0 or counts at least the header.
pub counts : (len size : ℕ) → is_too_short len size ≡ false → (len ≡ 0) ⊎ (3 + size ≤ len)
counts len size e =
    elim (cases_eq len 0) [
      | inl none ↦ inl none
      | inr some ↦ inr (ltb-false _ _ (rw (ne_eqb len 0 some) at e))
    ]

and_false : (b : Bool) → (b && false) ≡ false
and_false true = refl
and_false false = refl

pub counts_again : (len size : ℕ) → (len ≡ 0) ⊎ (3 + size ≤ len) → is_too_short len size ≡ false
counts_again len size (inl none) = rw (eq-eqb len 0 none) refl
counts_again len size (inr some) = rw (le-ltb len (3 + size) some) (and_false (not (eqb len 0)))

-- The bit of a flag that is read.
flag_bit : (byte value : ℕ) → bit (flag byte value) ≡ byte / value % 2
flag_bit byte value = bit_test (byte / value % 2) (omega arith)

flags_spelled : (first second size stamps p a c o : ℕ) → first < 256 → second < 256 → size < 256 → first / 64 ≡ 2 → second / 64 ≡ stamps
    → p ≡ first / 8 % 2 → a ≡ first / 4 % 2 → c ≡ first / 2 % 2 → o ≡ first / 1 % 2
    → number (first ∷ second ∷ size ∷ [])
    ≡ fields ((2, 2) ∷ (2, first / 16 % 4) ∷ (1, p) ∷ (1, a) ∷ (1, c) ∷ (1, o) ∷ (2, stamps) ∷ (6, second % 64) ∷ (8, size) ∷ [])
flags_spelled first second size stamps p a c o hf hs hn two flags ep ea ec eo = omega arith

flags_of : (first second size : ℕ) (stamps : Stamps) → first < 256 → second < 256 → size < 256
    → first / 64 ≡ 2 → second / 64 ≡ stamp_flags stamps → IsFlags (first ∷ second ∷ size ∷ []) (flags_in first) stamps size
flags_of first second size stamps hf hs hn two flags = record {
  len = refl;
  scrambling = first / 16 % 4;
  parts = second % 64;
  spelled = flags_spelled first second size (stamp_flags stamps) _ _ _ _ hf hs hn two flags
      (flag_bit first 8) (flag_bit first 4) (flag_bit first 2) (flag_bit first 1);
  scrambling_fits = omega arith;
  parts_fit = omega arith;
  length_fits = hn;
}

-- The fields of a header after PES_packet_length, as they are read.
pub record ReadsAfter (id len : ℕ) (bytes : List ℕ) (header : PesHeader) (size : ℕ) : Type 0 where
  pub after : List ℕ
  pub rest : List ℕ
  pub is : bytes ≡ after ++ rest
  pub id_is : header.id ≡ id
  pub len_is : header.len ≡ len
  pub size_is : size ≡ 6 + length after
  pub matches : IsAfter (has_flags id) after header

flags_takes : (id len : ℕ) (bytes : List ℕ) (header : PesHeader) (size : ℕ) → IsBytes bytes → has_flags id ≡ true
    → flags_at id len bytes ≡ Ok (header, size) → ReadsAfter id len bytes header size
unfolding flags_at data_at
flags_takes id len (first ∷ second ∷ count ∷ bytes) header size fits flagged read =
    let g = guard_ok _ _ _ _ read in
    let f = guard_ok _ _ _ _ g.1 in
    let n = guard_ok _ _ _ _ f.1 in
    let b = bind_ok (stamps_at (second / 64) (take count bytes)) _ (header, size) n.1 in
    let more : IsBytes bytes = IsBytes-tail count bytes (IsBytes-tail second (count ∷ bytes) (IsBytes-tail first (second ∷ count ∷ bytes) fits)) in
    let s = stamps_takes (second / 64) (take count bytes) b.0 (IsBytes-take count bytes more) b.1 in
    let made : ◌≡◌ {A = Result (PesHeader × ℕ) PesError}
    (Ok (
      record { id = id; len = len; stamps = b.0; flags = flags_in first; data_length = count; private_data = private_at second (take count bytes) },
      9 + count,
    )) (Ok (header, size)) = b.2 in
    let is : ◌≡◌ {A = PesHeader × ℕ} (
      record { id = id; len = len; stamps = b.0; flags = flags_in first; data_length = count; private_data = private_at second (take count bytes) },
      9 + count,
    ) (header, size) = cc (made) in
    let there : count ≤ length bytes = ltb-false _ _ g.0 in
    let took : length (take count bytes) ≡ count = length-take-le count bytes there in
    let parts : length (take count bytes) ≡ length s.front + length s.others = ap (length {A = ℕ}) s.is ∙ length-append s.front s.others in
    let whole : length s.front + length s.others ≡ count = sym parts ∙ took in
    let flags : IsFlags (first ∷ second ∷ count ∷ []) (flags_in first) b.0 count =
    flags_of first second count b.0 (fits 0) (fits 1) (fits 2) (good_flags first second f.0) s.flags_are in
    subst (λ (x : PesHeader × ℕ). ReadsAfter id len (first ∷ second ∷ count ∷ bytes) x.0 x.1) is (record {
      after = (first ∷ second ∷ count ∷ []) ++ (s.front ++ s.others);
      rest = drop count bytes;
      is = ap (λ (t : List ℕ). first ∷ second ∷ count ∷ t) (sym (take-append-drop count bytes) ∙ ap (λ (t : List ℕ). t ++ drop count bytes) s.is);
      id_is = refl;
      len_is = refl;
      size_is = omega (arith, length-append s.front s.others);
      matches = rw flagged (record {
        flags = first ∷ second ∷ count ∷ [];
        stamps = s.front;
        others = s.others;
        is = refl;
        flags_match = flags;
        data_is = sym whole;
        stamps_match = s.matching;
        private_is = ap (private_at second) s.is;
        counted = elim (counts len count n.0) [
          | inl none ↦ inl none
          | inr some ↦ inr (omega (arith, length-append s.front s.others))
        ];
      });
    })
flags_takes id len [] header size fits flagged read = absurd cc
flags_takes id len (first ∷ []) header size fits flagged read = absurd cc
flags_takes id len (first ∷ second ∷ []) header size fits flagged read = absurd cc

after_takes : (id len : ℕ) (bytes : List ℕ) (header : PesHeader) (size : ℕ) → IsBytes bytes
    → cond (has_flags id) (flags_at id len bytes)
    (Ok (record { id = id; len = len; stamps = Absent; flags = no_flags; data_length = 0; private_data = None }, 6)) ≡ Ok (header, size)
    → ReadsAfter id len bytes header size
after_takes id len bytes header size fits read =
    elim (chosen (has_flags id) _ _ _ read) [
      | inl some ↦ flags_takes id len bytes header size fits some.0 some.1
      | inr none ↦
          let made : ◌≡◌ {A = Result (PesHeader × ℕ) PesError}
          (Ok (record { id = id; len = len; stamps = Absent; flags = no_flags; data_length = 0; private_data = None }, 6)) (Ok (header, size)) = none.1 in
          let is : ◌≡◌ {A = PesHeader × ℕ} (record { id = id; len = len; stamps = Absent; flags = no_flags; data_length = 0; private_data = None }, 6)
          (header, size) = cc (made) in
          subst (λ (x : PesHeader × ℕ). ReadsAfter id len bytes x.0 x.1) is (record {
            after = [];
            rest = bytes;
            is = refl;
            id_is = refl;
            len_is = refl;
            size_is = refl;
            matches = rw none.0 (refl, refl, refl, refl, refl);
          })
    ]

start_of : (p q r id high low : ℕ) (header : PesHeader) → id < 256 → high < 256 → low < 256 → p ≡ 0 → q ≡ 0 → r ≡ 1
    → header.id ≡ id → header.len ≡ high * 256 + low → IsStart (p ∷ q ∷ r ∷ id ∷ high ∷ low ∷ []) header
start_of p q r id high low header hi hh hl ep eq er ei el = record {
  len = refl;
  spelled = omega arith;
  id = omega arith;
  packet_length = omega arith;
}

-- The first three bytes are the prefix.
prefix_is : (p q r : ℕ) (more : List ℕ) → misses_prefix (p ∷ q ∷ r ∷ more) ≡ false → (p ≡ 0) × (q ≡ 0) × (r ≡ 1)
prefix_is p q r more e =
    let a = or_parts _ _ e in
    let b = or_parts _ _ a.1 in
    let d = or_parts _ _ b.1 in
    (sym (eqb-true _ _ (not_false _ a.0)), sym (eqb-true _ _ (not_false _ b.0)), sym (eqb-true _ _ (not_false _ d.0)))

-- Bytes that are read as a header are a header by the table of fields.
pub header_takes : (bytes : List ℕ) (header : PesHeader) (size : ℕ) → IsBytes bytes → header_at bytes ≡ Ok (header, size) → IsPesHeader bytes header size
unfolding header_at start_at
header_takes (p ∷ q ∷ r ∷ id ∷ high ∷ low ∷ bytes) header size fits read =
    let g = guard_ok _ _ _ _ read in
    let e = prefix_is p q r (id ∷ high ∷ low ∷ bytes) g.0 in
    let more : IsBytes bytes = λ i. fits (suc (suc (suc (suc (suc (suc i)))))) in
    let b = after_takes id (high * 256 + low) bytes header size more g.1 in
    record {
      start = p ∷ q ∷ r ∷ id ∷ high ∷ low ∷ [];
      after = b.after;
      rest = b.rest;
      is = ap (λ (t : List ℕ). p ∷ q ∷ r ∷ id ∷ high ∷ low ∷ t) b.is;
      size_is = b.size_is;
      start_matches = start_of p q r id high low header (fits 3) (fits 4) (fits 5) e.0 e.1 e.2 b.id_is b.len_is;
      after_matches = subst (λ (x : ℕ). IsAfter (has_flags x) b.after header) (sym b.id_is) b.matches;
    }
header_takes [] header size fits read = ok_not_err (header, size) Short (sym (guard_ok (misses_prefix []) Prefix (Err Short) (header, size) read).1)
header_takes (p ∷ []) header size fits read = ok_not_err (header, size) Short (sym (guard_ok (misses_prefix (p ∷ [])) Prefix (Err Short) (header, size) read).1)
header_takes (p ∷ q ∷ []) header size fits read =
    ok_not_err (header, size) Short (sym (guard_ok (misses_prefix (p ∷ q ∷ [])) Prefix (Err Short) (header, size) read).1)
header_takes (p ∷ q ∷ r ∷ []) header size fits read =
    ok_not_err (header, size) Short (sym (guard_ok (misses_prefix (p ∷ q ∷ r ∷ [])) Prefix (Err Short) (header, size) read).1)
header_takes (p ∷ q ∷ r ∷ id ∷ []) header size fits read =
    ok_not_err (header, size) Short (sym (guard_ok (misses_prefix (p ∷ q ∷ r ∷ id ∷ [])) Prefix (Err Short) (header, size) read).1)
header_takes (p ∷ q ∷ r ∷ id ∷ high ∷ []) header size fits read =
    ok_not_err (header, size) Short (sym (guard_ok (misses_prefix (p ∷ q ∷ r ∷ id ∷ high ∷ [])) Prefix (Err Short) (header, size) read).1)

start_numbers : (p q r id high low : ℕ) (header : PesHeader) → p < 256 → q < 256 → r < 256 → id < 256 → high < 256 → low < 256
    → number (p ∷ q ∷ r ∷ id ∷ high ∷ low ∷ []) ≡ fields ((24, 1) ∷ (8, header.id) ∷ (16, header.len) ∷ [])
    → header.id < 2 ^ 8 → header.len < 2 ^ 16
    → (p ≡ 0) × (q ≡ 0) × (r ≡ 1) × (id ≡ header.id) × (high * 256 + low ≡ header.len)
start_numbers p q r id high low header hp hq hr hi hh hl is below_id below_len =
    (omega arith, omega arith, omega arith, omega arith, omega arith)

flags_below : (stamps : Stamps) → stamp_flags stamps < 4
flags_below Absent = omega arith
flags_below (Pts pts) = omega arith
flags_below (PtsDts pts dts) = omega arith

flags_not_one : (stamps : Stamps) → stamp_flags stamps ≡ 1 → ⊥
flags_not_one Absent e = omega arith
flags_not_one (Pts pts) e = omega arith
flags_not_one (PtsDts pts dts) e = omega arith

flag_numbers : (first second count scrambling p a c o flags parts n : ℕ) → first < 256 → second < 256 → count < 256
    → number (first ∷ second ∷ count ∷ [])
    ≡ fields ((2, 2) ∷ (2, scrambling) ∷ (1, p) ∷ (1, a) ∷ (1, c) ∷ (1, o) ∷ (2, flags) ∷ (6, parts) ∷ (8, n) ∷ [])
    → scrambling < 2 ^ 2 → p ≤ 1 → a ≤ 1 → c ≤ 1 → o ≤ 1 → flags < 4 → parts < 2 ^ 6 → n < 2 ^ 8
    → (first ≡ 128 + (scrambling * 16 + (p * 8 + (a * 4 + (c * 2 + o))))) × (second / 64 ≡ flags) × (count ≡ n)
flag_numbers first second count scrambling p a c o flags parts n hf hs hc is bs bp ba bc bo bf bt bn = (omega arith, omega arith, omega arith)

-- The four lowest bits of the first flag byte.
low_bits : (first scrambling p a c o : ℕ) → p ≤ 1 → a ≤ 1 → c ≤ 1 → o ≤ 1 → first ≡ 128 + (scrambling * 16 + (p * 8 + (a * 4 + (c * 2 + o))))
    → (first / 8 % 2 ≡ p) × (first / 4 % 2 ≡ a) × (first / 2 % 2 ≡ c) × (first / 1 % 2 ≡ o)
low_bits first scrambling p a c o bp ba bc bo is = (omega arith, omega arith, omega arith, omega arith)

pub bit_most : (b : Bool) → bit b ≤ 1
bit_most true = omega arith
bit_most false = omega arith

-- The flag bytes that passed the test, and their flags.
pub record FlagBytes (first second count : ℕ) (flags : PesFlags) (stamps n : ℕ) : Type 0 where
  pub two : first / 64 ≡ 2
  pub stamps_are : second / 64 ≡ stamps
  pub count_is : count ≡ n
  pub flags_are : flags_in first ≡ flags

-- Flags are equal if their four values are equal.
flags_by : (p a c o : Bool) (flags : PesFlags) → p ≡ flags.priority → a ≡ flags.aligned → c ≡ flags.copyright → o ≡ flags.original
    → ◌≡◌ {A = PesFlags} (record { priority = p; aligned = a; copyright = c; original = o }) flags
flags_by p a c o flags ep ea ec eo = rw (ep, ea, ec, eo) refl

flag_bytes : (first second count : ℕ) (flags : PesFlags) (stamps : Stamps) (n : ℕ) → first < 256 → second < 256 → count < 256
    → IsFlags (first ∷ second ∷ count ∷ []) flags stamps n → FlagBytes first second count flags (stamp_flags stamps) n
flag_bytes first second count flags stamps n hf hs hc matches =
    let bp = bit_most flags.priority in
    let ba = bit_most flags.aligned in
    let bc = bit_most flags.copyright in
    let bo = bit_most flags.original in
    let m = flag_numbers first second count matches.scrambling (bit flags.priority) (bit flags.aligned) (bit flags.copyright) (bit flags.original)
    (stamp_flags stamps) matches.parts n hf hs hc matches.spelled matches.scrambling_fits bp ba bc bo (flags_below stamps) matches.parts_fit
    matches.length_fits in
    let b = low_bits first matches.scrambling (bit flags.priority) (bit flags.aligned) (bit flags.copyright) (bit flags.original) bp ba bc bo m.0 in
    let p : flag first 8 ≡ flags.priority = test_bit flags.priority (first / 8 % 2) b.0 in
    let a : flag first 4 ≡ flags.aligned = test_bit flags.aligned (first / 4 % 2) b.1 in
    let c : flag first 2 ≡ flags.copyright = test_bit flags.copyright (first / 2 % 2) b.2 in
    let o : flag first 1 ≡ flags.original = test_bit flags.original (first / 1 % 2) b.3 in
    let scr : matches.scrambling < 4 = matches.scrambling_fits in
    record {
      two = omega (arith, m.0, bp, ba, bc, bo, scr);
      stamps_are = m.1;
      count_is = m.2;
      flags_are = flags_by (flag first 8) (flag first 4) (flag first 2) (flag first 1) flags p a c o;
    }

bad_again : (first second : ℕ) → first / 64 ≡ 2 → (second / 64 ≡ 1 → ⊥) → is_bad_flags first second ≡ false
bad_again first second two one = or_from _ _ (ap not (eq-eqb _ _ two)) (ne_eqb _ _ one)

-- Headers are equal if their parts are equal.
header_by : (header : PesHeader) (stamps : Stamps) (flags : PesFlags) (count : ℕ) (private : Option (List ℕ))
    → stamps ≡ header.stamps → flags ≡ header.flags → count ≡ header.data_length → private ≡ header.private_data
    → ◌≡◌ {A = PesHeader} (record { id = header.id; len = header.len; stamps = stamps; flags = flags; data_length = count; private_data = private })
    header
header_by header stamps flags count private es ef ec ep = rw (es, ef, ec, ep) refl

-- Header data is read after the flag bytes.
flagged_again : (header : PesHeader) (first second count : ℕ) (stamps others rest : List ℕ)
    → first < 256 → second < 256 → count < 256 → IsBytes stamps
    → IsFlags (first ∷ second ∷ count ∷ []) header.flags header.stamps header.data_length
    → header.data_length ≡ length stamps + length others
    → IsStamps stamps header.stamps
    → (header.len ≡ 0) ⊎ (3 + (length stamps + length others) ≤ header.len)
    → header.private_data ≡ private_at second (stamps ++ others)
    → flags_at header.id header.len (first ∷ second ∷ count ∷ ((stamps ++ others) ++ rest)) ≡ Ok (header, 9 + (length stamps + length others))
unfolding flags_at data_at
flagged_again header first second count stamps others rest hf hs hc fits flags sized matching counted private =
    let n = flag_bytes first second count header.flags header.stamps header.data_length hf hs hc flags in
    let sum : count ≡ length stamps + length others = n.count_is ∙ sized in
    let whole : length (stamps ++ others) ≡ count = length-append stamps others ∙ sym sum in
    let there : ltb (length ((stamps ++ others) ++ rest)) count ≡ false = le-ltb _ _ (omega (arith, length-append (stamps ++ others) rest, whole)) in
    let took : take count ((stamps ++ others) ++ rest) ≡ stamps ++ others = take_at (stamps ++ others) rest count whole in
    let good : is_bad_flags first second ≡ false = bad_again first second n.two (λ one. flags_not_one header.stamps (sym n.stamps_are ∙ one)) in
    let long : is_too_short header.len count ≡ false =
    counts_again header.len count (subst (λ (x : ℕ). (header.len ≡ 0) ⊎ (3 + x ≤ header.len)) (sym sum) counted) in
    let stamp : stamps_at (second / 64) (take count ((stamps ++ others) ++ rest)) ≡ Ok header.stamps =
    rw (n.stamps_are, took) (stamps_again header.stamps stamps others fits matching) in
    let same : private_at second (take count ((stamps ++ others) ++ rest)) ≡ header.private_data = ap (private_at second) took ∙ sym private in
    let made : ◌≡◌ {A = PesHeader}
    (record {
      id = header.id;
      len = header.len;
      stamps = header.stamps;
      flags = flags_in first;
      data_length = count;
      private_data = private_at second (take count ((stamps ++ others) ++ rest));
    })
    header =
    header_by header header.stamps (flags_in first) count (private_at second (take count ((stamps ++ others) ++ rest))) refl n.flags_are n.count_is same in
    rw (there, good, long, stamp) (ap (λ (h : PesHeader). Ok (h, 9 + count)) made ∙ ap (λ (k : ℕ). Ok (header, 9 + k)) sum)

pub flagged_by : (header : PesHeader) (flags stamps others rest : List ℕ) → IsBytes flags → IsBytes stamps
    → IsFlags flags header.flags header.stamps header.data_length → header.data_length ≡ length stamps + length others → IsStamps stamps header.stamps
    → (header.len ≡ 0) ⊎ (length (flags ++ (stamps ++ others)) ≤ header.len)
    → header.private_data ≡ private_at (slice_index flags 1) (stamps ++ others)
    → flags_at header.id header.len ((flags ++ (stamps ++ others)) ++ rest) ≡ Ok (header, 6 + length (flags ++ (stamps ++ others)))
flagged_by header (first ∷ second ∷ count ∷ []) stamps others rest fits_flags fits matches sized matching counted private =
    let joined : length (stamps ++ others) ≡ length stamps + length others = length-append stamps others in
    let there : (header.len ≡ 0) ⊎ (3 + (length stamps + length others) ≤ header.len) =
    elim counted [ inl none ↦ inl none | inr some ↦ inr (omega (arith, some, joined)) ] in
    let size : 9 + (length stamps + length others) ≡ 6 + (3 + length (stamps ++ others)) = omega (arith, joined) in
    flagged_again header first second count stamps others rest (fits_flags 0) (fits_flags 1) (fits_flags 2) fits matches sized matching there private
    ∙ ap (λ (n : ℕ). Ok (header, n)) (size ∙ omega arith)
flagged_by header [] stamps others rest fits_flags fits matches sized matching counted private = absurd (omega (arith, matches.len))
flagged_by header (first ∷ []) stamps others rest fits_flags fits matches sized matching counted private = absurd (omega (arith, matches.len))
flagged_by header (first ∷ second ∷ []) stamps others rest fits_flags fits matches sized matching counted private = absurd (omega (arith, matches.len))
flagged_by header (first ∷ second ∷ count ∷ more ∷ flags) stamps others rest fits_flags fits matches sized matching counted private =
    absurd (omega (arith, matches.len))

after_by : (b : Bool) (header : PesHeader) (after rest : List ℕ) → IsBytes after → IsAfter b after header
    → cond b (flags_at header.id header.len (after ++ rest))
    (Ok (record { id = header.id; len = header.len; stamps = Absent; flags = no_flags; data_length = 0; private_data = None }, 6))
    ≡ Ok (header, 6 + length after)
after_by true header after rest fits matches =
    let whole : IsBytes (matches.flags ++ (matches.stamps ++ matches.others)) = subst IsBytes matches.is fits in
    let later : IsBytes (matches.stamps ++ matches.others) = IsBytes-append_right matches.flags (matches.stamps ++ matches.others) whole in
    let counted : (header.len ≡ 0) ⊎ (length (matches.flags ++ (matches.stamps ++ matches.others)) ≤ header.len) =
    subst (λ (x : List ℕ). (header.len ≡ 0) ⊎ (length x ≤ header.len)) matches.is matches.counted in
    rw (matches.is)
    (flagged_by header matches.flags matches.stamps matches.others rest
    (IsBytes-append_left matches.flags (matches.stamps ++ matches.others) whole) (IsBytes-append_left matches.stamps matches.others later)
    matches.flags_match matches.data_is matches.stamps_match counted matches.private_is)
after_by false header after rest fits matches =
    let whole : ◌≡◌ {A = PesHeader} (record { id = header.id; len = header.len; stamps = Absent; flags = no_flags; data_length = 0; private_data = None })
    header =
    header_by header Absent no_flags 0 None (sym matches.1) (sym matches.2) (sym matches.3) (sym matches.4) in
    let size : 6 ≡ 6 + length after = sym (ap (λ (t : List ℕ). 6 + length t) matches.0) in
    ap (λ (h : PesHeader). Ok (h, 6)) whole ∙ ap (λ (n : ℕ). Ok (header, n)) size

-- The fields after PES_packet_length are read.
abbrev pub ReadsRest : PesHeader → List ℕ → List ℕ → Type 0
ReadsRest header after rest =
    cond (has_flags header.id) (flags_at header.id header.len (after ++ rest))
    (Ok (record { id = header.id; len = header.len; stamps = Absent; flags = no_flags; data_length = 0; private_data = None }, 6))
    ≡ Ok (header, 6 + length after)

after_again : (header : PesHeader) (after rest : List ℕ) → IsBytes after → IsAfter (has_flags header.id) after header → ReadsRest header after rest
after_again header after rest fits matches = after_by (has_flags header.id) header after rest fits matches

-- The whole header is read.
pub start_again : (header : PesHeader) (start after rest : List ℕ) → IsBytes start → IsStart start header → ReadsRest header after rest →
    header_at (start ++ (after ++ rest)) ≡ Ok (header, length start + length after)
unfolding header_at start_at
start_again header (p ∷ q ∷ r ∷ id ∷ high ∷ low ∷ []) after rest fits matches read =
    let n = start_numbers p q r id high low header (fits 0) (fits 1) (fits 2) (fits 3) (fits 4) (fits 5) matches.spelled matches.id matches.packet_length in
    rw (n.0, n.1, n.2, n.3, n.4) read
start_again header [] after rest fits matches read = absurd (omega (arith, matches.len))
start_again header (p ∷ []) after rest fits matches read = absurd (omega (arith, matches.len))
start_again header (p ∷ q ∷ []) after rest fits matches read = absurd (omega (arith, matches.len))
start_again header (p ∷ q ∷ r ∷ []) after rest fits matches read = absurd (omega (arith, matches.len))
start_again header (p ∷ q ∷ r ∷ id ∷ []) after rest fits matches read = absurd (omega (arith, matches.len))
start_again header (p ∷ q ∷ r ∷ id ∷ high ∷ []) after rest fits matches read = absurd (omega (arith, matches.len))
start_again header (p ∷ q ∷ r ∷ id ∷ high ∷ low ∷ more ∷ start) after rest fits matches read = absurd (omega (arith, matches.len))

-- A header by the table of fields is read, whatever bytes follow it.
pub header_again : (bytes : List ℕ) (header : PesHeader) (size : ℕ) (h : IsPesHeader bytes header size) → IsBytes h.start → IsBytes h.after
    → header_at bytes ≡ Ok (header, size)
header_again bytes header size h fits_start fits_after =
    rw (h.is, h.size_is) (start_again header h.start h.after h.rest fits_start h.start_matches (after_again header h.after h.rest fits_after h.after_matches))

-- If the reading function returns a header, it is a header by the table of fields.
pub is_found : (bytes : List ℕ) (r : Result (PesHeader × ℕ) PesError) → IsBytes bytes → r ≡ header_at bytes
    → IfOk r (λ read. IsPesHeader bytes read.0 read.1)
is_found bytes (Ok read) fits e = header_takes bytes read.0 read.1 fits (sym e)
is_found bytes (Err refusal) fits e = tt

-- A header at the front of bytes is read.
pub header_is_read : (bytes : List ℕ) (header : PesHeader) (size : ℕ) → IsBytes bytes → IsPesHeader bytes header size → header_at bytes ≡ Ok (header, size)
header_is_read bytes header size fits h =
    let whole : IsBytes (h.start ++ (h.after ++ h.rest)) = subst IsBytes h.is fits in
    header_again bytes header size h
    (IsBytes-append_left h.start (h.after ++ h.rest) whole)
    (IsBytes-append_left h.after h.rest (IsBytes-append_right h.start (h.after ++ h.rest) whole))
