-- The word of a record is read back as its marks and its size.
use Rattle.std.proofs.Common.{◌≡◌, ◌≢◌, ℕ, ◌+◌, ◌-◌, ◌*◌, ◌/◌, ◌%◌, ◌^◌, ◌<◌, ◌≤◌, Bool, true, false, cond, Option, Some, None, is_some, IfSome, List, ◌++◌}
use Rattle.std.proofs.Common.{length, drop, drop_at, refl, sym, ap, ◌∙◌, arith, inl, inr, ltb}
use Rattle.std.proofs.lemmas.Bool.{lt-ltb, ltb-true, le-leb, and_from, cases_eq}
use Rattle.bit_fields.specs.Fields.{bit, flag}
use Rattle.bit_fields.proofs.Fields.{test_bit}
use Rattle.pes_packet.specs.Laws.{HasSixteen}
use Rattle.pes_packet.specs.Marks.{first_sixteen, flag_bits, sixteen}
use Rattle.pes_packet.specs.declared.marks.Marks.{Marks}
use Rattle.pes_packet.proofs.HeaderFields.{bit_most}
use Rattle.pes_packet.proofs.Sixteen.{sixteen_is, sixteen_size}
use Rattle.pes_packet.proofs.Written.{first_again}
use Rattle.unit_records.specs.Records.{marks_byte, marks_in, bytes_in, private_bytes, least_size, word_of, is_known, size_in, max_unit_size}

below_by : (r v l f : ℕ) → r ≤ 1 → v ≤ 1 → l ≤ 1 → f < 16 → r * 64 + v * 32 + l * 16 + f < 128
below_by r v l f hr hv hl hf = omega (arith, hr, hv, hl, hf)

flags_below : (marks : Marks) → flag_bits marks.flags < 16
flags_below marks =
    omega (arith, bit_most marks.flags.priority, bit_most marks.flags.aligned, bit_most marks.flags.copyright, bit_most marks.flags.original)

marks_below : (marks : Marks) → marks_byte marks < 128
marks_below marks =
    below_by (bit marks.random_access) (bit (is_some marks.private_data)) (bit marks.long) (flag_bits marks.flags) (bit_most marks.random_access)
    (bit_most (is_some marks.private_data)) (bit_most marks.long) (flags_below marks)

word_is : (marks : Marks) (size : ℕ) → size < 2 ^ 24 → word_of marks size ≡ marks_byte marks * 2 ^ 24 + size
word_is marks size h = rw (lt-ltb size (2 ^ 24) h) refl

word_by : (b : Bool) (byte size : ℕ) → byte < 128 → (b ≡ true → size < 2 ^ 24) → cond b (byte * 2 ^ 24 + size) (2 ^ 32 - 1) < 2 ^ 32
word_by true byte size h k = let small : size < 2 ^ 24 = k refl in omega (arith, h, small)
word_by false byte size h k = omega arith

-- A word has 32 bits.
pub word_below : (marks : Marks) (size : ℕ) → word_of marks size < 2 ^ 32
word_below marks size = word_by (ltb size (2 ^ 24)) (marks_byte marks) size (marks_below marks) (λ e. ltb-true size (2 ^ 24) e)

known : (b : Bool) (word size : ℕ) → b ≡ true → word % 2 ^ 24 ≡ size → cond b (word % 2 ^ 24) word ≡ size
known b word size e is = rw e is

least_by : (b : Bool) (size : ℕ) → size ≢ 0 → (b ≡ true → 17 ≤ size) → cond b 17 1 ≤ size
least_by true size some h = h refl
least_by false size some h = omega (arith, some)

size_by : (byte size : ℕ) → byte < 128 → size < 2 ^ 24 → (size ≡ 0 → byte ≡ 0) → (flag byte 32 ≡ true → 17 ≤ size) → size_in (byte * 2 ^ 24 + size) ≡ size
unfolding size_in
size_by byte size h small none private = elim (cases_eq size 0) [
  | inl empty ↦ rw (none empty, empty) refl
  | inr some ↦
      let whole : (byte * 2 ^ 24 + size) / 2 ^ 24 ≡ byte = omega (arith, small) in
      let high : (byte * 2 ^ 24 + size) / 2 ^ 24 < 128 = omega (arith, h, whole) in
      let low : (byte * 2 ^ 24 + size) % 2 ^ 24 ≡ size = omega (arith, small) in
      let enough : least_size ((byte * 2 ^ 24 + size) / 2 ^ 24) ≤ (byte * 2 ^ 24 + size) % 2 ^ 24 =
      rw (whole, low) (least_by (flag byte 32) size some private) in
      known (is_known (byte * 2 ^ 24 + size)) (byte * 2 ^ 24 + size) size
      (and_from _ _ (lt-ltb ((byte * 2 ^ 24 + size) / 2 ^ 24) 128 high)
      (le-leb (least_size ((byte * 2 ^ 24 + size) / 2 ^ 24)) ((byte * 2 ^ 24 + size) % 2 ^ 24) enough)) low
]

seven_bits : (byte r v l p a c o : ℕ) → r ≤ 1 → v ≤ 1 → l ≤ 1 → p ≤ 1 → a ≤ 1 → c ≤ 1 → o ≤ 1
    → byte ≡ r * 64 + (v * 32 + (l * 16 + (p * 8 + (a * 4 + (c * 2 + o)))))
    → (byte / 64 % 2 ≡ r) × (byte / 32 % 2 ≡ v) × (byte / 16 % 2 ≡ l) × (byte / 8 % 2 ≡ p) × (byte / 4 % 2 ≡ a) × (byte / 2 % 2 ≡ c) × (byte / 1 % 2 ≡ o)
seven_bits byte r v l p a c o hr hv hl hp ha hc ho is =
    (omega arith, omega arith, omega arith, omega arith, omega arith, omega arith, omega arith)

-- The flags in a byte of marks
pub record Named (marks : Marks) : Type 0 where
  pub access : flag (marks_byte marks) 64 ≡ marks.random_access
  pub private : flag (marks_byte marks) 32 ≡ is_some marks.private_data
  pub long : flag (marks_byte marks) 16 ≡ marks.long
  pub priority : flag (marks_byte marks) 8 ≡ marks.flags.priority
  pub aligned : flag (marks_byte marks) 4 ≡ marks.flags.aligned
  pub copyright : flag (marks_byte marks) 2 ≡ marks.flags.copyright
  pub original : flag (marks_byte marks) 1 ≡ marks.flags.original

named : (marks : Marks) → Named marks
named marks =
    let byte : ℕ = marks_byte marks in
    let b = seven_bits byte (bit marks.random_access) (bit (is_some marks.private_data)) (bit marks.long) (bit marks.flags.priority) (bit marks.flags.aligned)
    (bit marks.flags.copyright) (bit marks.flags.original) (bit_most marks.random_access) (bit_most (is_some marks.private_data)) (bit_most marks.long)
    (bit_most marks.flags.priority) (bit_most marks.flags.aligned) (bit_most marks.flags.copyright) (bit_most marks.flags.original) (omega arith) in
    record {
      access = test_bit marks.random_access (byte / 64 % 2) b.0;
      private = test_bit (is_some marks.private_data) (byte / 32 % 2) b.1;
      long = test_bit marks.long (byte / 16 % 2) b.2;
      priority = test_bit marks.flags.priority (byte / 8 % 2) b.3;
      aligned = test_bit marks.flags.aligned (byte / 4 % 2) b.4;
      copyright = test_bit marks.flags.copyright (byte / 2 % 2) b.5;
      original = test_bit marks.flags.original (byte / 1 % 2) b.6;
    }

-- The size is read back.
pub size_again : (marks : Marks) (size : ℕ) → size ≤ max_unit_size → (size ≡ 0 → marks_byte marks ≡ 0) → (is_some marks.private_data ≡ true → 17 ≤ size) →
    size_in (word_of marks size) ≡ size
size_again marks size most none private =
    let small : size < 2 ^ 24 = omega (arith, most) in
    ap size_in (word_is marks size small)
    ∙ size_by (marks_byte marks) size (marks_below marks) small none (λ set. private (sym (named marks).private ∙ set))

-- The byte of marks is read back.
pub byte_again : (marks : Marks) (size : ℕ) → size ≤ max_unit_size → word_of marks size / 2 ^ 24 ≡ marks_byte marks
byte_again marks size most =
    let small : size < 2 ^ 24 = omega (arith, most) in
    ap (λ (n : ℕ). n / 2 ^ 24) (word_is marks size small) ∙ omega (arith, small)

-- Marks are equal if their seven values are.
marks_by : (r l p a c o : Bool) (v : Option (List ℕ)) (marks : Marks) → r ≡ marks.random_access → l ≡ marks.long → p ≡ marks.flags.priority →
    a ≡ marks.flags.aligned
    → c ≡ marks.flags.copyright → o ≡ marks.flags.original → v ≡ marks.private_data
    → ◌≡◌ {A = Marks} (record { random_access = r; flags = record { priority = p; aligned = a; copyright = c; original = o }; long = l; private_data = v })
    marks
marks_by r l p a c o v marks er el ep ea ec eo ev = rw (er, el, ep, ea, ec, eo, ev) refl

-- PES_private_data comes before the bytes of the unit.
private_first : (o : Option (List ℕ)) (bytes : List ℕ) → IfSome o (λ xs. length xs ≡ 16) → cond (is_some o) (first_sixteen (private_bytes o ++ bytes)) None ≡ o
private_first None bytes h = refl
private_first (Some p) bytes h = first_again p bytes ∙ ap Some (sixteen_is p h)

bytes_behind : (o : Option (List ℕ)) (bytes : List ℕ) → cond (is_some o) (drop 16 (private_bytes o ++ bytes)) (private_bytes o ++ bytes) ≡ bytes
bytes_behind None bytes = refl
bytes_behind (Some p) bytes = drop_at (sixteen p) bytes 16 (sixteen_size p)

-- The marks are read back.
pub marks_again : (marks : Marks) (bytes : List ℕ) → HasSixteen marks → marks_in (marks_byte marks) (private_bytes marks.private_data ++ bytes) ≡ marks
unfolding marks_in
marks_again marks bytes h =
    let n = named marks in
    let body : List ℕ = private_bytes marks.private_data ++ bytes in
    let v : cond (flag (marks_byte marks) 32) (first_sixteen body) None ≡ marks.private_data =
    ap (λ (b : Bool). cond b (first_sixteen body) None) n.private ∙ private_first marks.private_data bytes h in
    marks_by (flag (marks_byte marks) 64) (flag (marks_byte marks) 16) (flag (marks_byte marks) 8) (flag (marks_byte marks) 4) (flag (marks_byte marks) 2)
    (flag (marks_byte marks) 1) (cond (flag (marks_byte marks) 32) (first_sixteen body) None) marks n.access n.long n.priority n.aligned n.copyright n.original
    v

-- The bytes of the unit are read back.
pub bytes_again : (marks : Marks) (bytes : List ℕ) → bytes_in (marks_byte marks) (private_bytes marks.private_data ++ bytes) ≡ bytes
bytes_again marks bytes =
    let body : List ℕ = private_bytes marks.private_data ++ bytes in
    ap (λ (b : Bool). cond b (drop 16 body) body) (named marks).private ∙ bytes_behind marks.private_data bytes
