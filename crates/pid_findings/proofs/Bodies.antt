-- No finding depends on the left-out body of a PES packet.
use Rattle.std.proofs.Common.{◌≡◌, ℕ, ◌-◌, ◌+◌, Bool, true, false, cond, List, [], ◌∷◌, ◌++◌, length, take, drop, map, replicate, Option, Some, None, Result}
use Rattle.std.proofs.Common.{Ok, Err, refl, sym, ap, ap₂, subst, ◌∙◌, arith, length-append, append_assoc, ◌≤◌, ◌==◌}
use Rattle.std.specs.Prelude.{nat_lt, min, option_map}
use Rattle.std.proofs.lemmas.List.{append-nil, length-drop, length-replicate, length-take, length-take-le, map-append, take-append-le, take_at}
use Rattle.pes_packet.specs.Reading.{header_at}
use Rattle.pes_packet.specs.declared.reading.PesHeader.{PesHeader}
use Rattle.pes_packet.specs.declared.refusal.PesError.{PesError}
use Rattle.pes_packet.specs.declared.refusal.PesError.TheVariants as pes_errors
use Rattle.psi_tables.specs.declared.error.SectionError.TheVariants as section_errors
use Rattle.ts_packet.specs.PidList.{Entry}
use Rattle.pid_findings.specs.Views.{WhatView, IsDuplicate, BreaksCounter, IsScrambled, IsTruncated, IsSection, IsBadSection, IsPes, IsBadPes, IsBadPacket}
use Rattle.pid_findings.specs.Views.{IsErrored, IsStray, Found}
use Rattle.pid_findings.specs.Marks.{Marked, mark}
use Rattle.pid_findings.specs.Roles.{Role, NoPayload, ScrambledPayload, PesStart, SectionStart, PointerPastEnd, Continuation, role}
use Rattle.pid_findings.specs.OpenUnits.{UnitKind, OpenUnit, IsOpen, IsUndecidedBelow, about, begun_kind, decided, max_unbounded_pes, of_header, of_pes, plain}
use Rattle.pid_findings.specs.declared.open_unit.UnitKind.TheVariants as unit_kinds
use Rattle.pid_findings.specs.Findings.{by_break, by_role, cut_short, end_of, ended, found_appended, found_at, found_if, last_bytes, last_bytes_by, undecided}
use Rattle.pid_findings.specs.Findings.{past_end, stray_bytes, unless_decided}
use Rattle.pid_findings.specs.Machine.{PidState, found_by, next_open, step, step_marked, unbroken}
use Rattle.pid_findings.specs.Bodies.{BodiesDecideNothing, bodiless, bytes_without_body, found_without_body, left_out, state_without_body, unit_without_body}
use Rattle.pid_findings.specs.Bodies.{without_body}
use Rattle.pid_findings.proofs.HeadedUnits.{after_front, still_read, take_front}
use Rattle.pid_findings.proofs.HeaderFronts.{header_alone, header_there}

-- 1. Bytes

same_zeros : (x y : List ℕ) → length x ≡ length y → left_out x ≡ left_out y
same_zeros x y e = ap (λ (n : ℕ). replicate n 0) e

pub zeros_again : (x : List ℕ) → left_out (left_out x) ≡ left_out x
zeros_again x = same_zeros (left_out x) x (length-replicate {A = ℕ} (length x) 0)

same_drop : (n : ℕ) (x y : List ℕ) → length x ≡ length y → length (drop n x) ≡ length (drop n y)
same_drop n x y e = length-drop n x ∙ ap (λ (k : ℕ). k - n) e ∙ sym (length-drop n y)

same_cut : (m n : ℕ) (x y : List ℕ) → length x ≡ length y → length (take m (drop n x)) ≡ length (take m (drop n y))
same_cut m n x y e = length-take m (drop n x) ∙ ap (min m) (same_drop n x y e) ∙ sym (length-take m (drop n y))

same_more : (x y more : List ℕ) → length x ≡ length y → length (x ++ more) ≡ length (y ++ more)
same_more x y more e = length-append x more ∙ ap (λ (n : ℕ). n + length more) e ∙ sym (length-append y more)

-- 2. The bytes of an open unit

bodiless_length : (bytes : List ℕ) (r : Result (PesHeader × ℕ) PesError) → header_at bytes ≡ r → length (bodiless bytes r) ≡ length bytes
unfolding bodiless
bodiless_length bytes (Ok h) is =
    let front = length-take-le h.1 bytes (header_there bytes h is) in
    let rest = length-drop h.1 bytes in
    let zeros = length-replicate {A = ℕ} (length (drop h.1 bytes)) 0 in
    let joined = length-append (take h.1 bytes) (left_out (drop h.1 bytes)) in
    omega (arith, front, rest, zeros, joined, header_there bytes h is)
bodiless_length bytes (Err e) is = refl

without_length : (kind : UnitKind) (bytes : List ℕ) → length (bytes_without_body kind bytes) ≡ length bytes
unfolding bytes_without_body
without_length unit_kinds.Pes bytes = bodiless_length bytes (header_at bytes) refl
without_length unit_kinds.Section bytes = refl

-- The header read from the bytes stays the same without the body, even with more bytes.
bodiless_read : (bytes more : List ℕ) (r : Result (PesHeader × ℕ) PesError) → header_at bytes ≡ r →
    header_at (bodiless bytes r ++ more) ≡ header_at (bytes ++ more)
unfolding bodiless
bodiless_read bytes more (Ok h) is =
    let front = take h.1 bytes in
    let zeros = left_out (drop h.1 bytes) in
    ap header_at (append_assoc front zeros more) ∙ still_read front (zeros ++ more) h (header_alone bytes h is) ∙ sym (still_read bytes more h is)
bodiless_read bytes more (Err e) is = refl

pes_read : (bytes more : List ℕ) → header_at (bodiless bytes (header_at bytes) ++ more) ≡ header_at (bytes ++ more)
pes_read bytes more = bodiless_read bytes more (header_at bytes) refl

pes_read_now : (bytes : List ℕ) → header_at (bodiless bytes (header_at bytes)) ≡ header_at bytes
pes_read_now bytes =
    ap header_at (sym (append-nil (bodiless bytes (header_at bytes)))) ∙ pes_read bytes [] ∙ ap header_at (append-nil bytes)

-- A unit that begins with the bytes has the same kind without the body.
begun_more : (kind : UnitKind) (access : Bool) (bytes more : List ℕ) →
    begun_kind kind access (bytes_without_body kind bytes ++ more) ≡ begun_kind kind access (bytes ++ more)
unfolding begun_kind bytes_without_body
begun_more unit_kinds.Pes access bytes more = rw (pes_read bytes more) refl
begun_more unit_kinds.Section access bytes more = refl

begun_now : (kind : UnitKind) (access : Bool) (bytes : List ℕ) → begun_kind kind access (bytes_without_body kind bytes) ≡ begun_kind kind access bytes
unfolding begun_kind bytes_without_body
begun_now unit_kinds.Pes access bytes = rw (pes_read_now bytes) refl
begun_now unit_kinds.Section access bytes = refl

-- If more bytes are appended, leaving out the body again leaves out the body of all bytes.
front_again : (n : ℕ) (bytes zeros more : List ℕ) → n ≤ length bytes → take n ((take n bytes ++ zeros) ++ more) ≡ take n (bytes ++ more)
front_again n bytes zeros more there =
    ap (take n) (append_assoc (take n bytes) zeros more) ∙ take_at (take n bytes) (zeros ++ more) n (length-take-le n bytes there)
    ∙ sym (take-append-le n bytes more there)

bodiless_again : (bytes more : List ℕ) (r : Result (PesHeader × ℕ) PesError) → header_at bytes ≡ r →
    bodiless (bodiless bytes r ++ more) (header_at (bytes ++ more)) ≡ bodiless (bytes ++ more) (header_at (bytes ++ more))
unfolding bodiless
bodiless_again bytes more (Ok h) is =
    let read : header_at (bytes ++ more) ≡ Ok h = still_read bytes more h is in
    let there = header_there bytes h is in
    let zeros = left_out (drop h.1 bytes) in
    let same : length ((take h.1 bytes ++ zeros) ++ more) ≡ length (bytes ++ more) =
    same_more (take h.1 bytes ++ zeros) bytes more (bodiless_length bytes (Ok h) is) in
    let front = front_again h.1 bytes zeros more there in
    let rest = same_zeros (drop h.1 ((take h.1 bytes ++ zeros) ++ more)) (drop h.1 (bytes ++ more)) (same_drop h.1 _ _ same) in
    rw read (ap₂ (λ (x y : List ℕ). x ++ y) front rest)
bodiless_again bytes more (Err e) is = refl

without_more : (kind : UnitKind) (bytes more : List ℕ) →
    bytes_without_body kind (bytes_without_body kind bytes ++ more) ≡ bytes_without_body kind (bytes ++ more)
unfolding bytes_without_body
without_more unit_kinds.Pes bytes more =
    ap (bodiless (bodiless bytes (header_at bytes) ++ more)) (pes_read bytes more) ∙ bodiless_again bytes more (header_at bytes) refl
without_more unit_kinds.Section bytes more = refl

without_again : (kind : UnitKind) (bytes : List ℕ) → bytes_without_body kind (bytes_without_body kind bytes) ≡ bytes_without_body kind bytes
without_again kind bytes =
    ap (bytes_without_body kind) (sym (append-nil (bytes_without_body kind bytes))) ∙ without_more kind bytes []
    ∙ ap (bytes_without_body kind) (append-nil bytes)

-- 3. The decision by bytes

abbrev shown : Option WhatView → Option WhatView
shown what = option_map without_body what

too_long : (b : Bool) (x y : List ℕ) → length x ≡ length y → shown (cond b (Some (IsTruncated x)) None) ≡ shown (cond b (Some (IsTruncated y)) None)
too_long true x y e = ap (λ (zeros : List ℕ). Some (IsTruncated zeros)) (same_zeros x y e)
too_long false x y e = refl

whole : (b : Bool) (header : PesHeader) (x y : List ℕ) → length x ≡ length y →
    shown (cond b None (Some (IsPes header false x))) ≡ shown (cond b None (Some (IsPes header false y)))
whole true header x y e = refl
whole false header x y e = ap (λ (zeros : List ℕ). Some (IsPes header false zeros)) (same_zeros x y e)

of_header_same : (z : Bool) (x y : List ℕ) (header : PesHeader) (size : ℕ) → length x ≡ length y →
    shown (cond z (cond (nat_lt max_unbounded_pes (length x)) (Some (IsTruncated x)) None)
    (cond (nat_lt (length x) (6 + header.len)) None (Some (IsPes header false (take (6 + header.len - size) (drop size x))))))
    ≡ shown (cond z (cond (nat_lt max_unbounded_pes (length y)) (Some (IsTruncated y)) None)
    (cond (nat_lt (length y) (6 + header.len)) None (Some (IsPes header false (take (6 + header.len - size) (drop size y))))))
of_header_same true x y header size e = rw e (too_long (nat_lt max_unbounded_pes (length y)) x y e)
of_header_same false x y header size e =
    rw e (whole (nat_lt (length y) (6 + header.len)) header _ _ (same_cut (6 + header.len - size) size x y e))

of_pes_same : (x y : List ℕ) (r : Result (PesHeader × ℕ) PesError) → length x ≡ length y → shown (of_pes x r) ≡ shown (of_pes y r)
unfolding of_pes of_header
of_pes_same x y (Ok h) e = of_header_same (h.0.len == 0) x y h.0 h.1 e
of_pes_same x y (Err pes_errors.Short) e = refl
of_pes_same x y (Err pes_errors.Prefix) e = refl
of_pes_same x y (Err pes_errors.BadFlags) e = refl
of_pes_same x y (Err pes_errors.Marker) e = refl
of_pes_same x y (Err pes_errors.Length) e = refl

decided_same : (kind : UnitKind) (bytes more : List ℕ) → shown (decided kind (bytes_without_body kind bytes ++ more)) ≡ shown (decided kind (bytes ++ more))
unfolding decided bytes_without_body
decided_same unit_kinds.Pes bytes more =
    ap (λ (r : Result (PesHeader × ℕ) PesError). shown (of_pes (bodiless bytes (header_at bytes) ++ more) r)) (pes_read bytes more)
    ∙ of_pes_same (bodiless bytes (header_at bytes) ++ more) (bytes ++ more) (header_at (bytes ++ more))
    (same_more (bodiless bytes (header_at bytes)) bytes more (bodiless_length bytes (header_at bytes) refl))
decided_same unit_kinds.Section bytes more = refl

-- 4. The findings

abbrev all_shown : List Found → List Found
all_shown found = map found_without_body found

some_is : (v w : WhatView) → ◌≡◌ {A = Option WhatView} (Some v) (Some w) → v ≡ w
some_is v w e = cc

some_or_none : (v : WhatView) → ◌≡◌ {A = Option WhatView} (Some v) None → ⊥
some_or_none v e = absurd cc

none_or_some : (v : WhatView) → ◌≡◌ {A = Option WhatView} None (Some v) → ⊥
none_or_some v e = absurd cc

abbrev unit_of : ℕ → UnitKind → Bool → List ℕ → OpenUnit
unit_of packet kind access bytes = record { packet = packet; kind = kind; access = access; bytes = bytes }

about_same : (packet : ℕ) (kind : UnitKind) (access : Bool) (x y : List ℕ) (v w : WhatView) → begun_kind kind access x ≡ begun_kind kind access y →
    without_body v ≡ without_body w →
    all_shown (about (unit_of packet kind access x) v ∷ []) ≡ all_shown (about (unit_of packet kind access y) w ∷ [])
about_same packet kind access x y v w begun what = rw (begun, what) refl

-- The number of bytes past the end of a PES packet depends on its header alone.
past_shown : (n : ℕ) (w : WhatView) → past_end n (without_body w) ≡ past_end n w
past_shown n (IsPes header unended body) = refl
past_shown n (IsTruncated bytes) = refl
past_shown n IsDuplicate = refl
past_shown n (BreaksCounter expected found) = refl
past_shown n IsScrambled = refl
past_shown n (IsSection bytes) = refl
past_shown n (IsBadSection error) = refl
past_shown n (IsBadPes error) = refl
past_shown n (IsBadPacket error) = refl
past_shown n IsErrored = refl
past_shown n (IsStray size) = refl

past_same : (m n : ℕ) (v w : WhatView) → m ≡ n → without_body v ≡ without_body w → past_end m v ≡ past_end n w
past_same m n v w e what =
    ap (λ (k : ℕ). past_end k v) e ∙ sym (past_shown n v) ∙ ap (past_end n) what ∙ past_shown n w

found_same : (packet : ℕ) (kind : UnitKind) (access : Bool) (x y : List ℕ) (d e : Option WhatView) → begun_kind kind access x ≡ begun_kind kind access y →
    length x ≡ length y → shown d ≡ shown e →
    all_shown (found_if (unit_of packet kind access x) d) ≡ all_shown (found_if (unit_of packet kind access y) e)
unfolding found_if
found_same packet kind access x y None None begun size what = refl
found_same packet kind access x y (Some v) (Some w) begun size what =
    let same : without_body v ≡ without_body w = some_is (without_body v) (without_body w) what in
    let past : past_end (length x) v ≡ past_end (length y) w = past_same (length x) (length y) v w size same in
    map-append found_without_body (about (unit_of packet kind access x) v ∷ []) (stray_bytes (past_end (length x) v))
    ∙ ap₂ (λ (front rest : List Found). front ++ rest) (about_same packet kind access x y v w begun same)
    (ap (λ (n : ℕ). all_shown (stray_bytes n)) past)
    ∙ sym (map-append found_without_body (about (unit_of packet kind access y) w ∷ []) (stray_bytes (past_end (length y) w)))
found_same packet kind access x y (Some v) None begun size what = absurd (some_or_none (without_body v) what)
found_same packet kind access x y None (Some w) begun size what = absurd (none_or_some (without_body w) what)

-- The findings of a payload that continues a unit
appended_same : (payload : List ℕ) (open_unit : Option OpenUnit) →
    all_shown (found_appended payload (option_map unit_without_body open_unit)) ≡ all_shown (found_appended payload open_unit)
unfolding found_appended
appended_same payload None = refl
appended_same payload (Some u) =
    found_same u.packet u.kind u.access (bytes_without_body u.kind u.bytes ++ payload) (u.bytes ++ payload) _ _ (begun_more u.kind u.access u.bytes payload)
    (same_more (bytes_without_body u.kind u.bytes) u.bytes payload (without_length u.kind u.bytes)) (decided_same u.kind u.bytes payload)

-- The finding of a unit that is cut short
cut_same : (open_unit : Option OpenUnit) → all_shown (cut_short (option_map unit_without_body open_unit)) ≡ all_shown (cut_short open_unit)
cut_same None = refl
cut_same (Some u) =
    about_same u.packet u.kind u.access (bytes_without_body u.kind u.bytes) u.bytes (IsTruncated (bytes_without_body u.kind u.bytes)) (IsTruncated u.bytes)
    (begun_now u.kind u.access u.bytes) (ap IsTruncated (same_zeros (bytes_without_body u.kind u.bytes) u.bytes (without_length u.kind u.bytes)))

-- The finding at the end of a unit
end_by : (z unended : Bool) (header : PesHeader) (size : ℕ) (x y : List ℕ) → length x ≡ length y →
    without_body (cond z (IsPes header unended (drop size x)) (IsTruncated x)) ≡ without_body (cond z (IsPes header unended (drop size y)) (IsTruncated y))
end_by true unended header size x y e = ap (IsPes header unended) (same_zeros (drop size x) (drop size y) (same_drop size x y e))
end_by false unended header size x y e = ap IsTruncated (same_zeros x y e)

end_same : (unended : Bool) (kind : UnitKind) (x y : List ℕ) (r : Result (PesHeader × ℕ) PesError) → length x ≡ length y →
    without_body (end_of unended x kind r) ≡ without_body (end_of unended y kind r)
end_same unended unit_kinds.Pes x y (Ok h) e = end_by (h.0.len == 0) unended h.0 h.1 x y e
end_same unended unit_kinds.Pes x y (Err error) e = ap IsTruncated (same_zeros x y e)
end_same unended unit_kinds.Section x y r e = ap IsTruncated (same_zeros x y e)

end_read : (unended : Bool) (kind : UnitKind) (bytes : List ℕ) →
    without_body (end_of unended (bytes_without_body kind bytes) kind (header_at (bytes_without_body kind bytes)))
    ≡ without_body (end_of unended bytes kind (header_at bytes))
unfolding bytes_without_body
end_read unended unit_kinds.Pes bytes =
    ap (λ (r : Result (PesHeader × ℕ) PesError). without_body (end_of unended (bodiless bytes (header_at bytes)) unit_kinds.Pes r)) (pes_read_now bytes)
    ∙ end_same unended unit_kinds.Pes (bodiless bytes (header_at bytes)) bytes (header_at bytes) (bodiless_length bytes (header_at bytes) refl)
end_read unended unit_kinds.Section bytes = refl

pub ended_same : (unended : Bool) (open_unit : Option OpenUnit) →
    all_shown (ended unended (option_map unit_without_body open_unit)) ≡ all_shown (ended unended open_unit)
unfolding ended
ended_same unended None = refl
ended_same unended (Some u) =
    about_same u.packet u.kind u.access (bytes_without_body u.kind u.bytes) u.bytes _ _ (begun_now u.kind u.access u.bytes) (end_read unended u.kind u.bytes)

-- The findings of the bytes that pointer_field skips
last_by : (before : List ℕ) (packet : ℕ) (kind : UnitKind) (access : Bool) (bytes : List ℕ) →
    all_shown (last_bytes_by before (unit_without_body (unit_of packet kind access bytes)) kind) ≡ all_shown
    (last_bytes_by before (unit_of packet kind access bytes) kind)
unfolding last_bytes_by bytes_without_body
last_by before packet unit_kinds.Pes access bytes = ended_same false (Some (unit_of packet unit_kinds.Pes access bytes))
last_by before packet unit_kinds.Section access bytes = refl

last_same : (before : List ℕ) (open_unit : Option OpenUnit) →
    all_shown (last_bytes before (option_map unit_without_body open_unit)) ≡ all_shown (last_bytes before open_unit)
unfolding last_bytes
last_same before None = refl
last_same before (Some u) = last_by before u.packet u.kind u.access u.bytes

-- The findings of a packet
before_same : (x y more : List Found) → all_shown x ≡ all_shown y → all_shown (x ++ more) ≡ all_shown (y ++ more)
before_same x y more e =
    map-append found_without_body x more ∙ ap (λ (found : List Found). found ++ all_shown more) e ∙ sym (map-append found_without_body y more)

after_same : (first : Found) (x y : List Found) → all_shown x ≡ all_shown y → all_shown (first ∷ x) ≡ all_shown (first ∷ y)
after_same first x y e = ap (λ (found : List Found). found_without_body first ∷ found) e

role_same : (packet : ℕ) (r : Role) (open_unit : Option OpenUnit) →
    all_shown (by_role packet r (option_map unit_without_body open_unit)) ≡ all_shown (by_role packet r open_unit)
unfolding by_role
role_same packet NoPayload open_unit = refl
role_same packet ScrambledPayload open_unit = after_same (plain IsScrambled) _ _ (cut_same open_unit)
role_same packet (PesStart access payload) open_unit = before_same _ _ _ (ended_same false open_unit)
role_same packet (SectionStart before bytes) open_unit = before_same _ _ _ (last_same before open_unit)
role_same packet PointerPastEnd open_unit = after_same (plain (IsBadSection section_errors.Body)) _ _ (cut_same open_unit)
role_same packet (Continuation payload) open_unit = appended_same payload open_unit

break_same : (packet : ℕ) (broken : Option (ℕ × ℕ)) (r : Role) (open_unit : Option OpenUnit) →
    all_shown (by_break packet broken r (option_map unit_without_body open_unit)) ≡ all_shown (by_break packet broken r open_unit)
unfolding by_break
break_same packet None r open_unit = role_same packet r open_unit
break_same packet (Some b) r open_unit = after_same (plain (BreaksCounter b.0 b.1)) _ _ (before_same _ _ _ (cut_same open_unit))

at_same : (duplicate : Bool) (first x y : List Found) → all_shown x ≡ all_shown y → all_shown (cond duplicate first x) ≡ all_shown (cond duplicate first y)
at_same true first x y e = refl
at_same false first x y e = e

found_at_same : (m : Marked) (open_unit : Option OpenUnit) → all_shown (found_at m (option_map unit_without_body open_unit)) ≡ all_shown (found_at m open_unit)
unfolding found_at
found_at_same m open_unit = at_same m.duplicate _ _ _ (break_same m.entry.index m.broken (role m) open_unit)

-- 5. The open unit

abbrev kept : Option OpenUnit → Option OpenUnit
kept open_unit = option_map unit_without_body open_unit

unit_again : (packet : ℕ) (kind : UnitKind) (access : Bool) (x y : List ℕ) → bytes_without_body kind x ≡ bytes_without_body kind y →
    kept (Some (unit_of packet kind access x)) ≡ kept (Some (unit_of packet kind access y))
unit_again packet kind access x y e = ap (λ (bytes : List ℕ). Some (unit_of packet kind access bytes)) e

kept_again : (open_unit : Option OpenUnit) → kept (kept open_unit) ≡ kept open_unit
kept_again None = refl
kept_again (Some u) = unit_again u.packet u.kind u.access (bytes_without_body u.kind u.bytes) u.bytes (without_again u.kind u.bytes)

unless_same : (packet : ℕ) (kind : UnitKind) (access : Bool) (x y : List ℕ) (d e : Option WhatView) → bytes_without_body kind x ≡ bytes_without_body kind y →
    shown d ≡ shown e →
    kept (unless_decided (unit_of packet kind access x) d) ≡ kept (unless_decided (unit_of packet kind access y) e)
unfolding unless_decided
unless_same packet kind access x y None None same what = unit_again packet kind access x y same
unless_same packet kind access x y (Some v) (Some w) same what = refl
unless_same packet kind access x y (Some v) None same what = absurd (some_or_none (without_body v) what)
unless_same packet kind access x y None (Some w) same what = absurd (none_or_some (without_body w) what)

next_same : (packet : ℕ) (r : Role) (open_unit : Option OpenUnit) → kept (next_open packet r (kept open_unit)) ≡ kept (next_open packet r open_unit)
unfolding next_open undecided
next_same packet NoPayload open_unit = kept_again open_unit
next_same packet ScrambledPayload open_unit = refl
next_same packet (PesStart access payload) open_unit = refl
next_same packet (SectionStart before bytes) open_unit = refl
next_same packet PointerPastEnd open_unit = refl
next_same packet (Continuation payload) None = refl
next_same packet (Continuation payload) (Some u) =
    unless_same u.packet u.kind u.access (bytes_without_body u.kind u.bytes ++ payload) (u.bytes ++ payload) _ _ (without_more u.kind u.bytes payload)
    (decided_same u.kind u.bytes payload)

unbroken_same : (broken : Option (ℕ × ℕ)) (open_unit : Option OpenUnit) → unbroken broken (kept open_unit) ≡ kept (unbroken broken open_unit)
unfolding unbroken
unbroken_same None open_unit = refl
unbroken_same (Some b) open_unit = refl

step_same : (s : PidState) (entry : Entry) → state_without_body (step (state_without_body s) entry) ≡ state_without_body (step s entry)
unfolding step_marked
step_same s entry =
    let m = mark s.last entry in
    let same : kept (next_open m.entry.index (role m) (unbroken m.broken (kept s.open_unit))) ≡ kept
    (next_open m.entry.index (role m) (unbroken m.broken s.open_unit)) =
    ap (λ (o : Option OpenUnit). kept (next_open m.entry.index (role m) o)) (unbroken_same m.broken s.open_unit)
    ∙ next_same m.entry.index (role m) (unbroken m.broken s.open_unit) in
    rw same refl

found_by_same : (s : PidState) (entry : Entry) → all_shown (found_by (state_without_body s) entry) ≡ all_shown (found_by s entry)
found_by_same s entry = found_at_same (mark s.last entry) s.open_unit

pub bodies_decide_nothing : BodiesDecideNothing
bodies_decide_nothing s entry = (found_by_same s entry, step_same s entry)

pub state_again : (s : PidState) → state_without_body (state_without_body s) ≡ state_without_body s
state_again s = ap (λ (o : Option OpenUnit). record s { open_unit = o }) (kept_again s.open_unit)

-- 6. An open unit with a separate header

-- Fewer bytes decide nothing, if the bytes without the body decide nothing.
none_shown : (d : Option WhatView) → shown d ≡ None → d ≡ None
none_shown None e = refl
none_shown (Some w) e = absurd cc

pub waits_left : (kind : UnitKind) (bytes : List ℕ) (least : ℕ) → IsUndecidedBelow kind bytes least →
    IsUndecidedBelow kind (bytes_without_body kind bytes) least
waits_left kind bytes least waits more lt =
    let same : length (bytes_without_body kind bytes ++ more) ≡ length (bytes ++ more) =
    same_more (bytes_without_body kind bytes) bytes more (without_length kind bytes) in
    none_shown (decided kind (bytes_without_body kind bytes ++ more)) (decided_same kind bytes more ∙ ap shown (waits more (omega (arith, lt, same))))

-- The bytes without the body are the header and zeros.
pub headed : (front rest : List ℕ) (header : PesHeader) → header_at (front ++ rest) ≡ Ok (header, length front) →
    bytes_without_body unit_kinds.Pes (front ++ rest) ≡ front ++ replicate (length rest) 0
unfolding bytes_without_body bodiless
headed front rest header is = rw (is, take_front front rest, after_front front rest) refl

pub left_open : (front rest : List ℕ) (header : PesHeader) (least : ℕ) → IsOpen (Some header) unit_kinds.Pes front (front ++ rest) least →
    IsOpen (Some header) unit_kinds.Pes front (front ++ replicate (length rest) 0) least
unfolding bytes_without_body
left_open front rest header least h =
    let read : header_at (front ++ rest) ≡ Ok (header, length front) = h.1.1.1.1 in
    let bytes = front ++ rest in
    let few : length (bytes_without_body unit_kinds.Pes bytes) ≤ max_unbounded_pes = omega (arith, h.0, without_length unit_kinds.Pes bytes) in
    let there : header_at (bytes_without_body unit_kinds.Pes bytes) ≡ Ok (header, length front) = pes_read_now bytes ∙ read in
    subst (λ (xs : List ℕ). IsOpen (Some header) unit_kinds.Pes front xs least) (headed front rest header read)
    (few, (h.1.0, (waits_left unit_kinds.Pes bytes least h.1.1.0, (refl, there))))
