-- The PES packet of a unit: what each beginning of it decides.
use Rattle.std.proofs.Common.{◌≡◌, ℕ, ◌+◌, ◌-◌, ◌<◌, ◌≤◌, ◌==◌, nat_le, Bool, true, false, cond, IsTrue, List, ◌++◌, length, take, drop, Some, None, is_some}
use Rattle.std.proofs.Common.{option_map, Ok, refl, sym, ap, subst, ◌∙◌, inl, inr, arith, take_all, length-append, length-take, lt-ltb, le-ltb}
use Rattle.std.proofs.Math.Seq.{take-append-add, drop-append_seam}
use Rattle.std.proofs.lemmas.Bool.{cases_Bool}
use Rattle.pes_packet.specs.AccessUnits.{AccessUnit}
use Rattle.pes_packet.specs.StreamIds.{fits_packet}
use Rattle.pes_packet.specs.Encoding.{pes_header_bytes, header_size, pes_packet_bytes, packet_length, on_wire, header_with, pts_header, pts_dts_header}
use Rattle.pes_packet.specs.Encoding.{pes_start_bytes}
use Rattle.pes_packet.specs.Reading.{header_at}
use Rattle.pes_packet.specs.Laws.{written_header}
use Rattle.pes_packet.specs.Marks.{data_length, extension_size, sixteen}
use Rattle.pes_packet.specs.declared.marks.Marks.{Marks}
use Rattle.pes_packet.specs.declared.reading.PesHeader.{PesHeader}
use Rattle.pes_packet.specs.declared.time_stamps.Stamps.TheVariants.{Pts, PtsDts}
use Rattle.pes_packet.proofs.Written.{written_is_read, header_sizes}
use Rattle.ts_packet.specs.Beginnings.{room_of, start_by}
use Rattle.pid_findings.specs.declared.finding.Kind.TheVariants.{Pes}
use Rattle.pid_findings.specs.declared.open_unit.UnitKind.TheVariants as unit_kinds
use Rattle.pid_findings.specs.Views.{IsPes, IsTruncated}
use Rattle.pid_findings.specs.Roles.{may_begin_pes}
use Rattle.pid_findings.specs.OpenUnits.{decided, of_header, of_pes, max_unbounded_pes, is_stamped, begun_kind}
use Rattle.pid_findings.specs.Findings.{end_of}
use Rattle.laws_run.specs.Units.{unit_header, unit_header_size}

-- A PES packet whose header of n bytes is read as h, with its data
pub record PesText (text : List ℕ) (h : PesHeader) (n : ℕ) (body : List ℕ) : Type 0 where
  pub begins : (access : Bool) → may_begin_pes (take (room_of (start_by true access)) text) ≡ true
  pub stamped : is_stamped h.stamps ≡ true
  pub header : (m : ℕ) → n ≤ m → header_at (take m text) ≡ Ok (h, n)
  pub some : 0 < n
  pub short : n ≤ 182
  pub size : length text ≡ n + length body
  pub parted : (m : ℕ) → n ≤ m → drop n (take m text) ≡ take (m - n) body
  pub bounded : length text ≤ max_unbounded_pes
  pub counted : (h.len == 0) ≡ false → 6 + h.len ≡ n + length body

-- The PES packet of a unit can be read as a PES packet

begins_pes : (id size : ℕ) (marks : Marks) (pts dts : ℕ) (body : List ℕ) (access : Bool) →
    may_begin_pes (take (room_of (start_by true access)) (pes_header_bytes id size marks pts dts ++ body)) ≡ true
unfolding pes_header_bytes pts_header pts_dts_header header_with pes_start_bytes
begins_pes id size marks pts dts body true = elim (cases_Bool (on_wire pts == on_wire dts)) [ inl y ↦ rw y refl | inr k ↦ rw k refl ]
begins_pes id size marks pts dts body false = elim (cases_Bool (on_wire pts == on_wire dts)) [ inl y ↦ rw y refl | inr k ↦ rw k refl ]

has_stamps : (id size : ℕ) (marks : Marks) (pts dts : ℕ) → is_stamped (written_header id size marks pts dts).stamps ≡ true
unfolding written_header
has_stamps id size marks pts dts = elim (cases_Bool (on_wire pts == on_wire dts)) [ inl y ↦ rw y refl | inr k ↦ rw k refl ]

-- A PES_packet_length other than 0 counts the bytes after it.
counts : (c : ℕ) → (packet_length c == 0) ≡ false → packet_length c ≡ c
unfolding packet_length
counts c e = elim (cases_Bool (nat_le c 65_535)) [ inl y ↦ rw y refl | inr k ↦ absurd (by (nat_le c 65_535) k e) ]
  where
    by : (b : Bool) → b ≡ false → (cond b c 0 == 0) ≡ false → ⊥
    by true k f = cc
    by false k f = cc

count_of : (long same : Bool) (more size : ℕ) →
    let len : ℕ = cond same (packet_length (3 + cond long 36 (5 + more) + size)) (packet_length (3 + cond long 36 (10 + more) + size)) in
    (len == 0) ≡ false → 6 + len ≡ cond long 45 (cond same 14 19 + more) + size
count_of true true more size e = let c : packet_length (3 + 36 + size) ≡ 3 + 36 + size = counts (3 + 36 + size) e in omega (arith, c)
count_of true false more size e = let c : packet_length (3 + 36 + size) ≡ 3 + 36 + size = counts (3 + 36 + size) e in omega (arith, c)
count_of false true more size e = let c : packet_length (3 + (5 + more) + size) ≡ 3 + (5 + more) + size = counts (3 + (5 + more) + size) e in omega (arith, c)
count_of false false more size e = let c : packet_length (3 + (10 + more) + size) ≡ 3 + (10 + more) + size = counts (3 + (10 + more) + size) e in
    omega (arith, c)

len_of : (b : Bool) (x y : PesHeader) → (cond b x y).len ≡ cond b x.len y.len
len_of true x y = refl
len_of false x y = refl

header_counts : (id size : ℕ) (marks : Marks) (pts dts : ℕ) → ((written_header id size marks pts dts).len == 0) ≡ false →
    6 + (written_header id size marks pts dts).len ≡ header_size marks pts dts + size
unfolding written_header
header_counts id size marks pts dts e =
    let pts_alone : PesHeader = record {
      id = id;
      len = packet_length (3 + data_length marks 5 + size);
      stamps = Pts (on_wire pts);
      flags = marks.flags;
      data_length = data_length marks 5;
      private_data = option_map sixteen marks.private_data;
    } in
    let with_dts : PesHeader = record {
      id = id;
      len = packet_length (3 + data_length marks 10 + size);
      stamps = PtsDts (on_wire pts) (on_wire dts);
      flags = marks.flags;
      data_length = data_length marks 10;
      private_data = option_map sixteen marks.private_data;
    } in
    let is = len_of (on_wire pts == on_wire dts) pts_alone with_dts in
    ap (λ (n : ℕ). 6 + n) is ∙ count_of marks.long (on_wire pts == on_wire dts) (extension_size marks) size (subst (λ (n : ℕ). (n == 0) ≡ false) is e)

short_by : (long same private : Bool) → cond long 45 (cond same 14 19 + cond private 17 0) ≤ 45
short_by true same private = omega arith
short_by false true true = omega arith
short_by false true false = omega arith
short_by false false true = omega arith
short_by false false false = omega arith

size_short : (marks : Marks) (pts dts : ℕ) → header_size marks pts dts ≤ 45
size_short marks pts dts = short_by marks.long (on_wire pts == on_wire dts) (is_some marks.private_data)

some_by : (long same : Bool) (more : ℕ) → 0 < cond long 45 (cond same 14 19 + more)
some_by true same more = omega arith
some_by false true more = omega arith
some_by false false more = omega arith

size_some : (marks : Marks) (pts dts : ℕ) → 0 < header_size marks pts dts
size_some marks pts dts = some_by marks.long (on_wire pts == on_wire dts) (extension_size marks)

-- A beginning with at least the header is the header and a beginning of the data.
front_of : (m n : ℕ) (head body : List ℕ) → length head ≡ n → n ≤ m → take m (head ++ body) ≡ head ++ take (m - n) body
front_of m n head body e h =
    let k : m ≡ length head + (m - n) = omega (arith, e) in
    ap (λ (i : ℕ). take i (head ++ body)) k ∙ take-append-add head body (m - n)

-- The largest unit with its header is not too long.
unit_bounded : (id size : ℕ) → IsTrue (fits_packet id size) → size ≤ 4_000_000
unit_bounded id size fits = grind arith

pub unit_is_pes : (id base0 : ℕ) (u : AccessUnit) → IsTrue (fits_packet id (length u.bytes)) →
    PesText (pes_packet_bytes id base0 u) (unit_header id base0 u) (unit_header_size base0 u) u.bytes
unfolding pes_packet_bytes
unit_is_pes id base0 u fits =
    let size : ℕ = length u.bytes in
    let pts : ℕ = u.pts + base0 in
    let dts : ℕ = u.dts + base0 in
    let head : List ℕ = pes_header_bytes id size u.marks pts dts in
    let n : ℕ = header_size u.marks pts dts in
    let has : length head ≡ n = header_sizes id size u.marks pts dts in
    let whole : length (head ++ u.bytes) ≡ n + size = omega (arith, length-append head u.bytes, has) in record {
      begins = λ access. begins_pes id size u.marks pts dts u.bytes access;
      stamped = has_stamps id size u.marks pts dts;
      header = λ m h. ap header_at (front_of m n head u.bytes has h) ∙ written_is_read id size u.marks pts dts (take (m - n) u.bytes) fits
          ∙ ap (λ (k : ℕ). Ok (written_header id size u.marks pts dts, k)) has;
      some = size_some u.marks pts dts;
      short = omega (arith, size_short u.marks pts dts);
      size = whole;
      parted = λ m h. ap (drop n) (front_of m n head u.bytes has h)
          ∙ ap (λ (k : ℕ). drop k (head ++ take (m - n) u.bytes)) (sym has) ∙ drop-append_seam head (take (m - n) u.bytes);
      bounded = omega (arith, whole, size_short u.marks pts dts, unit_bounded id size fits);
      counted = header_counts id size u.marks pts dts;
    }

-- What the beginnings of a PES packet decide

-- A PES packet with a length is undecided before its last byte.
pub open_before : (text : List ℕ) (h : PesHeader) (n : ℕ) (body : List ℕ) (m : ℕ) → PesText text h n body → n ≤ m → (h.len == 0) ≡ false → m < length text →
    decided unit_kinds.Pes (take m text) ≡ None
unfolding decided of_pes of_header
open_before text h n body m t le len less =
    let size : length (take m text) < 6 + h.len = omega (arith, length-take m text, t.counted len, t.size) in
    rw (t.header m le, len, lt-ltb (length (take m text)) (6 + h.len) size) refl

-- A PES packet without a length stays undecided.
pub open_without : (text : List ℕ) (h : PesHeader) (n : ℕ) (body : List ℕ) (m : ℕ) → PesText text h n body → n ≤ m → (h.len == 0) ≡ true →
    decided unit_kinds.Pes (take m text) ≡ None
unfolding decided of_pes of_header
open_without text h n body m t le len =
    let size : length (take m text) ≤ max_unbounded_pes = omega (arith, length-take m text, t.bounded) in
    rw (t.header m le, len, le-ltb max_unbounded_pes (length (take m text)) size) refl

-- A PES packet with a length is whole at its last byte.
pub whole_at : (text : List ℕ) (h : PesHeader) (n : ℕ) (body : List ℕ) (m : ℕ) → PesText text h n body → (h.len == 0) ≡ false → length text ≤ m →
    decided unit_kinds.Pes (take m text) ≡ Some (IsPes h false body)
unfolding decided of_pes of_header
whole_at text h n body m t len less =
    let le : n ≤ m = omega (arith, t.size) in
    let size : 6 + h.len ≤ length (take m text) = omega (arith, length-take m text, t.counted len, t.size) in
    let rest : take (6 + h.len - n) (drop n (take m text)) ≡ body =
    ap (take (6 + h.len - n)) (t.parted m le ∙ take_all (m - n) body (omega (arith, t.size))) ∙ take_all (6 + h.len - n) body (omega (arith, t.counted len)) in
    rw (t.header m le, len, le-ltb (length (take m text)) (6 + h.len) size, rest) refl

-- No byte lies past the end of a PES packet with a length.
pub none_past : (text : List ℕ) (h : PesHeader) (n : ℕ) (body : List ℕ) (m : ℕ) → PesText text h n body → (h.len == 0) ≡ false →
    length (take m text) - (6 + h.len) ≡ 0
none_past text h n body m t len = omega (arith, length-take m text, t.counted len, t.size)

-- The kind of a PES packet, and how it ends if nothing follows
pub kind_at : (access : Bool) (text : List ℕ) (h : PesHeader) (n : ℕ) (body : List ℕ) (m : ℕ) → PesText text h n body → n ≤ m →
    begun_kind unit_kinds.Pes access (take m text) ≡ Pes true access
unfolding begun_kind
kind_at access text h n body m t le = rw (t.header m le) (ap (λ (stamped : Bool). Pes stamped access) t.stamped)

pub end_without : (text : List ℕ) (h : PesHeader) (n : ℕ) (body : List ℕ) (m : ℕ) (open_ended : Bool) → PesText text h n body → n ≤ m → (h.len == 0) ≡ true →
    end_of open_ended (take m text) unit_kinds.Pes (header_at (take m text)) ≡ IsPes h open_ended (take (m - n) body)
end_without text h n body m open_ended t le len = rw (t.header m le, len, t.parted m le) refl

pub end_within : (text : List ℕ) (h : PesHeader) (n : ℕ) (body : List ℕ) (m : ℕ) (open_ended : Bool) → PesText text h n body → n ≤ m → (h.len == 0) ≡ false →
    end_of open_ended (take m text) unit_kinds.Pes (header_at (take m text)) ≡ IsTruncated (take m text)
end_within text h n body m open_ended t le len = rw (t.header m le, len) refl
