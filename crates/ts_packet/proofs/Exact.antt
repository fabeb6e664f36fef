-- The fields that are read are the fields of the bytes.
use Rattle.std.proofs.Common.{◌≡◌, ◌⊎◌, ℕ, zero, suc, ◌+◌, ◌/◌, ◌%◌, ◌<◌, ◌≤◌, ◌==◌, Bool, true, false, List, [], ◌∷◌, ◌++◌, length, take, drop, Option, Some}
use Rattle.std.proofs.Common.{None, is_some, Result, Ok, Err, refl, sym, ap, ◌∙◌, subst, arith, inl, inr, eqb-true, ltb-false, ℤ, nat_lt, take-append-drop}
use Rattle.std.proofs.lemmas.List.{length-take, length-append}
use Rattle.std.specs.Int.{cast_signed, w8}
use Rattle.bit_fields.specs.Fields.{fields, bit, flag, IsBytes}
use Rattle.bit_fields.specs.Reading.{Takes}
use Rattle.bit_fields.proofs.Bind.{bind_ok, guard_ok, chosen, ok_is}
use Rattle.bit_fields.proofs.ByteLists.{IsBytes-drop, IsBytes-take, IsBytes-tail, IsBytes-head, Takes-none, Takes-front}
use Rattle.bit_fields.proofs.Fields.{bit_test}
use Rattle.clock27.specs.Reference.{Reference}
use Rattle.ts_packet.specs.declared.header.Header.{Header}
use Rattle.ts_packet.specs.declared.packet.PacketError.{PacketError}
use Rattle.ts_packet.specs.declared.packet.PacketError.TheVariants.{Sync, FieldTooLong, PartTooLong}
use Rattle.ts_packet.specs.Views.{FieldView, AdaptationView, NoFlags, WithFlags, PacketView}
use Rattle.ts_packet.specs.Syntax.{control_of, IsHeader, IsReference, IsCountdown, IsLengthPrefixed, IsAnnounced, IsParts, IsAdaptation, IsPayload, IsPacket}
use Rattle.ts_packet.specs.Reading.{reference_of, reference_at, countdown_at, length_prefixed_at, parts_at, adaptation_at, field_at, body_at, header_of}
use Rattle.ts_packet.specs.Reading.{packet_at}

-- Six bytes are a clock reference.
reference_is : (wire : List ℕ) → length wire ≡ 6 → IsBytes wire → IsReference wire (reference_of wire)
unfolding reference_of
reference_is (a ∷ b ∷ c ∷ d ∷ e ∷ f ∷ []) size h =
    let p : a < 256 = h 0 in
    let q : b < 256 = h 1 in
    let r : c < 256 = h 2 in
    let s : d < 256 = h 3 in
    let t : e < 256 = h 4 in
    let u : f < 256 = h 5 in
    record {
      reserved = e / 2 % 64;
      reserved_fits = omega arith;
      bytes = h;
      size = refl;
      spelled = omega arith;
      fits = record { base = omega arith; extension = omega arith };
    }
reference_is _ size h = absurd (omega arith)

-- The result of reading a part: the part's bytes, and the bytes after it
record Reads {A : Type 0} (Is : List ℕ → A → Type 0) (flagged : Bool) (bytes : List ℕ) (read : Option A × List ℕ) : Type 0 where
  wire : List ℕ
  taken : Takes bytes wire read.1
  announced : is_some read.0 ≡ flagged
  says : IsAnnounced Is wire read.0

reads_none : {A : Type 0} (Is : List ℕ → A → Type 0) (bytes : List ℕ) → IsBytes bytes → Reads {A = A} Is false bytes (None, bytes)
reads_none Is bytes h = record { wire = []; taken = Takes-none bytes h; announced = refl; says = refl }

reference_reads : (flagged : Bool) (bytes : List ℕ) (read : Option Reference × List ℕ) → IsBytes bytes
    → reference_at flagged bytes ≡ Ok read → Reads IsReference flagged bytes read
unfolding reference_at
reference_reads false bytes read h e = subst (Reads IsReference false bytes) (ok_is (None, bytes) read e) (reads_none IsReference bytes h)
reference_reads true bytes read h e =
    let g = guard_ok (nat_lt (length bytes) 6) PartTooLong (Ok (Some (reference_of (take 6 bytes)), drop 6 bytes)) read e in
    let enough : 6 ≤ length bytes = ltb-false (length bytes) 6 g.0 in
    let size : length (take 6 bytes) ≡ 6 = omega (arith, length-take 6 bytes) in
    subst (Reads IsReference true bytes) (ok_is (Some (reference_of (take 6 bytes)), drop 6 bytes) read g.1) (record {
      wire = take 6 bytes;
      taken = Takes-front 6 bytes h;
      announced = refl;
      says = reference_is (take 6 bytes) size (IsBytes-take 6 bytes h);
    })

countdown_reads : (flagged : Bool) (bytes : List ℕ) (read : Option ℤ × List ℕ) → IsBytes bytes
    → countdown_at flagged bytes ≡ Ok read → Reads IsCountdown flagged bytes read
unfolding countdown_at
countdown_reads false bytes read h e = subst (Reads IsCountdown false bytes) (ok_is (None, bytes) read e) (reads_none IsCountdown bytes h)
countdown_reads true [] read h e = absurd cc
countdown_reads true (byte ∷ bytes) read h e =
    subst (Reads IsCountdown true (byte ∷ bytes)) (ok_is (Some (cast_signed w8 byte), bytes) read e) (record {
      wire = byte ∷ [];
      taken = Takes-front 1 (byte ∷ bytes) h;
      announced = refl;
      says = record { byte = byte; is = refl; signed = refl };
    })

counted_reads : (flagged : Bool) (bytes : List ℕ) (read : Option (List ℕ) × List ℕ) → IsBytes bytes
    → length_prefixed_at flagged bytes ≡ Ok read → Reads IsLengthPrefixed flagged bytes read
unfolding length_prefixed_at
counted_reads false bytes read h e = subst (Reads IsLengthPrefixed false bytes) (ok_is (None, bytes) read e) (reads_none IsLengthPrefixed bytes h)
counted_reads true [] read h e = absurd cc
counted_reads true (n ∷ bytes) read h e =
    let g = guard_ok (nat_lt (length bytes) n) PartTooLong (Ok (Some (take n bytes), drop n bytes)) read e in
    let enough : n ≤ length bytes = ltb-false (length bytes) n g.0 in
    let size : n ≡ length (take n bytes) = omega (arith, length-take n bytes) in
    let rest : IsBytes bytes = IsBytes-tail n bytes h in
    subst (Reads IsLengthPrefixed true (n ∷ bytes)) (ok_is (Some (take n bytes), drop n bytes) read g.1) (record {
      wire = n ∷ take n bytes;
      taken = record { is = ap (λ (l : List ℕ). n ∷ l) (sym (take-append-drop n bytes)); rest_fits = IsBytes-drop n bytes rest };
      announced = refl;
      says = ap (λ (m : ℕ). m ∷ take n bytes) size;
    })

-- A flag that is read, as a bit
flag_bit : (byte value : ℕ) → bit (flag byte value) ≡ byte / value % 2
flag_bit byte value = bit_test (byte / value % 2) (omega arith)

-- The flag of a part, as a bit
part_bit : {A : Type 0} (byte value : ℕ) (part : Option A) → is_some part ≡ flag byte value → bit (is_some part) ≡ byte / value % 2
part_bit byte value part e = ap bit e ∙ flag_bit byte value

-- The flags, and the parts that they announce
parts_is : (flags : ℕ) (bytes : List ℕ) (parts : FieldView) → IsBytes (flags ∷ bytes) → parts_at flags bytes ≡ Ok parts → IsParts (flags ∷ bytes) parts
unfolding parts_at
parts_is flags bytes parts h e =
    let below : flags < 256 = IsBytes-head flags bytes h in
    let a = bind_ok _ _ parts e in
    let pcr = reference_reads (flag flags 16) bytes a.0 (IsBytes-tail flags bytes h) a.1 in
    let b = bind_ok _ _ parts a.2 in
    let opcr = reference_reads (flag flags 8) a.0.1 b.0 pcr.taken.rest_fits b.1 in
    let c = bind_ok _ _ parts b.2 in
    let splice = countdown_reads (flag flags 4) b.0.1 c.0 opcr.taken.rest_fits c.1 in
    let d = bind_ok _ _ parts c.2 in
    let private = counted_reads (flag flags 2) c.0.1 d.0 splice.taken.rest_fits d.1 in
    let f = bind_ok _ _ parts d.2 in
    let extension = counted_reads (flag flags 1) d.0.1 f.0 private.taken.rest_fits f.1 in
    subst (IsParts (flags ∷ bytes)) (ok_is _ parts f.2) (record {
      flags = flags;
      pcr = pcr.wire;
      opcr = opcr.wire;
      splice = splice.wire;
      private = private.wire;
      extension = extension.wire;
      is = ap (λ (l : List ℕ). flags ∷ l) (five pcr.wire opcr.wire splice.wire private.wire extension.wire bytes a.0.1 b.0.1 c.0.1 d.0.1 f.0.1
          pcr.taken.is opcr.taken.is splice.taken.is private.taken.is extension.taken.is);
      flagged = flags_are flags below (bit (is_some a.0.0)) (bit (is_some b.0.0)) (bit (is_some c.0.0)) (bit (is_some d.0.0)) (bit (is_some f.0.0))
          (part_bit flags 16 a.0.0 pcr.announced) (part_bit flags 8 b.0.0 opcr.announced) (part_bit flags 4 c.0.0 splice.announced)
          (part_bit flags 2 d.0.0 private.announced) (part_bit flags 1 f.0.0 extension.announced);
      is_pcr = pcr.says;
      is_opcr = opcr.says;
      is_splice = splice.says;
      is_private = private.says;
      is_extension = extension.says;
    })
  where
    five : (p q r s t bytes a b c d e : List ℕ) → bytes ≡ p ++ a → a ≡ q ++ b → b ≡ r ++ c → c ≡ s ++ d → d ≡ t ++ e →
        bytes ≡ p ++ (q ++ (r ++ (s ++ (t ++ e))))
    five p q r s t bytes a b c d e u v w x y =
        u ∙ ap (λ (l : List ℕ). p ++ l) (v ∙ ap (λ (l : List ℕ). q ++ l) (w ∙ ap (λ (l : List ℕ). r ++ l) (x ∙ ap (λ (l : List ℕ). s ++ l) y)))

    flags_are : (flags : ℕ) → flags < 256 → (p q r s t : ℕ) → p ≡ flags / 16 % 2 → q ≡ flags / 8 % 2 → r ≡ flags / 4 % 2 → s ≡ flags / 2 % 2 → t ≡ flags / 1 % 2
        → flags ≡ fields ((1, bit (flag flags 128)) ∷ (1, bit (flag flags 64)) ∷ (1, bit (flag flags 32)) ∷ (1, p) ∷ (1, q) ∷ (1, r) ∷ (1, s) ∷ (1, t) ∷ [])
    flags_are flags below p q r s t u v w x y =
        let a : bit (flag flags 128) ≡ flags / 128 % 2 = flag_bit flags 128 in
        let b : bit (flag flags 64) ≡ flags / 64 % 2 = flag_bit flags 64 in
        let c : bit (flag flags 32) ≡ flags / 32 % 2 = flag_bit flags 32 in
        omega arith

-- A length, and an adaptation field of that length
adaptation_is : (body : List ℕ) (adaptation : AdaptationView) → IsBytes body → adaptation_at body ≡ Ok adaptation →
    IsAdaptation (length body ∷ body) (Some adaptation)
unfolding adaptation_at
adaptation_is [] adaptation h e = subst (λ (a : AdaptationView). IsAdaptation (0 ∷ []) (Some a)) (ok_is NoFlags adaptation e) refl
adaptation_is (flags ∷ bytes) adaptation h e =
    let a = bind_ok (parts_at flags bytes) _ adaptation e in
    subst (λ (x : AdaptationView). IsAdaptation (length (flags ∷ bytes) ∷ flags ∷ bytes) (Some x)) (ok_is (WithFlags a.0) adaptation a.2)
    (record { body = flags ∷ bytes; is = refl; parted = parts_is flags bytes a.0 h a.1 })

-- An adaptation field and the bytes after it
record FieldReads (most : ℕ) (bytes : List ℕ) (read : AdaptationView × List ℕ) : Type 0 where
  wire : List ℕ
  is : bytes ≡ wire ++ read.1
  says : IsAdaptation wire (Some read.0)
  short : length wire ≤ most + 1

field_reads : (most : ℕ) (bytes : List ℕ) (read : AdaptationView × List ℕ) → IsBytes bytes → most < length bytes → field_at most bytes ≡ Ok read →
    FieldReads most bytes read
unfolding field_at
field_reads most [] read h room e = absurd (omega arith)
field_reads most (n ∷ bytes) read h room e =
    let g = guard_ok (nat_lt most n) FieldTooLong _ read e in
    let fits : n ≤ most = ltb-false most n g.0 in
    let size : length (take n bytes) ≡ n = omega (arith, length-take n bytes) in
    let a = bind_ok (adaptation_at (take n bytes)) _ read g.1 in
    subst (FieldReads most (n ∷ bytes)) (ok_is (a.0, drop n bytes) read a.2) (record {
      wire = n ∷ take n bytes;
      is = ap (λ (l : List ℕ). n ∷ l) (sym (take-append-drop n bytes));
      says = subst (λ (m : ℕ). IsAdaptation (m ∷ take n bytes) (Some a.0)) size
          (adaptation_is (take n bytes) a.0 (IsBytes-take n bytes (IsBytes-tail n bytes h)) a.1);
      short = omega arith;
    })

-- The bytes after the header: an adaptation field, then a payload or bytes that the reader ignores
record BodyReads (header : Header) (control : ℕ) (bytes : List ℕ) (packet : PacketView) : Type 0 where
  field : List ℕ
  rest : List ℕ
  is : bytes ≡ field ++ rest
  same : packet.header ≡ header
  controlled : control_of packet.adaptation packet.payload ≡ control
  adaptation : IsAdaptation field packet.adaptation
  payload : IsPayload rest packet.payload
  some : 0 < control

body_reads : (header : Header) (control : ℕ) (bytes : List ℕ) (packet : PacketView) → IsBytes bytes → length bytes ≡ 184 → control < 4
    → body_at header control bytes ≡ Ok packet → BodyReads header control bytes packet
unfolding body_at
body_reads header zero bytes packet h size below e = absurd cc
body_reads header (suc zero) bytes packet h size below e =
    subst (BodyReads header 1 bytes) (ok_is (record { header = header; adaptation = None; payload = Some bytes }) packet e) (record {
      field = [];
      rest = bytes;
      is = refl;
      same = refl;
      controlled = refl;
      adaptation = refl;
      payload = (refl, omega arith);
      some = omega arith;
    })
body_reads header (suc (suc zero)) bytes packet h size below e =
    let a = bind_ok (field_at 183 bytes) _ packet e in
    let f = field_reads 183 bytes a.0 h (omega arith) a.1 in
    subst (BodyReads header 2 bytes) (ok_is (record { header = header; adaptation = Some a.0.0; payload = None }) packet a.2) (record {
      field = f.wire;
      rest = a.0.1;
      is = f.is;
      same = refl;
      controlled = refl;
      adaptation = f.says;
      payload = tt;
      some = omega arith;
    })
body_reads header (suc (suc (suc zero))) bytes packet h size below e =
    let a = bind_ok (field_at 182 bytes) _ packet e in
    let f = field_reads 182 bytes a.0 h (omega arith) a.1 in
    let all : length bytes ≡ length f.wire + length a.0.1 = ap (length {A = ℕ}) f.is ∙ length-append f.wire a.0.1 in
    let some : 0 < length a.0.1 = omega (arith, f.short) in
    subst (BodyReads header 3 bytes) (ok_is (record { header = header; adaptation = Some a.0.0; payload = Some a.0.1 }) packet a.2) (record {
      field = f.wire;
      rest = a.0.1;
      is = f.is;
      same = refl;
      controlled = refl;
      adaptation = f.says;
      payload = (refl, some);
      some = omega arith;
    })
body_reads header (suc (suc (suc (suc n)))) bytes packet h size below e = absurd (omega arith)

-- The first four bytes are the header.
header_is : (a b c d : ℕ) (rest : List ℕ) → IsBytes (a ∷ b ∷ c ∷ d ∷ rest) → a ≡ 0x47
    → IsHeader (a ∷ b ∷ c ∷ d ∷ []) (header_of (a ∷ b ∷ c ∷ d ∷ rest)) (d / 16 % 4)
unfolding header_of
header_is a b c d rest h sync =
    let p : b < 256 = h 1 in
    let q : c < 256 = h 2 in
    let r : d < 256 = h 3 in
    let error : bit (flag b 128) ≡ b / 128 % 2 = flag_bit b 128 in
    let start : bit (flag b 64) ≡ b / 64 % 2 = flag_bit b 64 in
    let priority : bit (flag b 32) ≡ b / 32 % 2 = flag_bit b 32 in
    record {
      bytes = IsBytes-take 4 (a ∷ b ∷ c ∷ d ∷ rest) h;
      size = refl;
      spelled = omega arith;
      fits = record { pid = omega arith; transport_scrambling_control = omega arith; continuity_counter = omega arith };
    }

-- A packet that is read from 188 bytes is the packet in these bytes.
pub packet_is : (bytes : List ℕ) (packet : PacketView) → IsBytes bytes → length bytes ≡ 188 → packet_at bytes ≡ Ok packet → IsPacket bytes packet
unfolding packet_at
packet_is (a ∷ b ∷ c ∷ d ∷ rest) packet h size e = is_of (chosen (a == 0x47) _ _ _ e)
  where
    is_of : ((a == 0x47) ≡ true) × (body_at (header_of (a ∷ b ∷ c ∷ d ∷ rest)) (d / 16 % 4) rest ≡ Ok packet) ⊎ ((a == 0x47) ≡ false) ×
        (◌≡◌ {A = Result PacketView PacketError} (Err Sync) (Ok packet))
        → IsPacket (a ∷ b ∷ c ∷ d ∷ rest) packet
    is_of (inr none) = absurd cc
    is_of (inl read) =
        let sync : a ≡ 0x47 = eqb-true a 0x47 read.0 in
        let body = body_reads (header_of (a ∷ b ∷ c ∷ d ∷ rest)) (d / 16 % 4) rest packet (IsBytes-drop 4 (a ∷ b ∷ c ∷ d ∷ rest) h) (omega arith) (omega arith)
        read.1 in
        let front = header_is a b c d rest h sync in
        record {
          front = a ∷ b ∷ c ∷ d ∷ [];
          field = body.field;
          rest = body.rest;
          is = ap (λ (l : List ℕ). a ∷ b ∷ c ∷ d ∷ l) body.is;
          size = size;
          header = subst (λ (x : Header). IsHeader (a ∷ b ∷ c ∷ d ∷ []) x (control_of packet.adaptation packet.payload)) (sym body.same)
              (subst (λ (k : ℕ). IsHeader (a ∷ b ∷ c ∷ d ∷ []) (header_of (a ∷ b ∷ c ∷ d ∷ rest)) k) (sym body.controlled) front);
          adaptation = body.adaptation;
          payload = body.payload;
          not_reserved = subst (λ (k : ℕ). 0 < k) (sym body.controlled) body.some;
        }
packet_is _ packet h size e = absurd (omega arith)
