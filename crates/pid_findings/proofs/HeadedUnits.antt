-- Open PES packets with a header that was read: the bytes after the header.
use Rattle.std.proofs.Common.{◌≡◌, ◌≢◌, ℕ, ◌+◌, ◌-◌, ◌≤◌, ◌<◌, ◌==◌, Bool, true, false, cond, List, [], ◌∷◌, ◌++◌, length, take, drop, Option, Some, None}
use Rattle.std.proofs.Common.{is_some, Ok, refl, arith, ◌∙◌, ap, ap₂, sym, subst, length-append, append_assoc}
use Rattle.std.specs.Prelude.{nat_lt}
use Rattle.std.proofs.lemmas.Bool.Decides.{nat_tests}
use Rattle.std.proofs.lemmas.List.{append-nil}
use Rattle.pes_packet.specs.Reading.{header_at}
use Rattle.pes_packet.specs.declared.reading.PesHeader.{PesHeader}
use Rattle.pes_packet.proofs.LongerRead.{longer_is_read}
use Rattle.pid_findings.specs.OpenUnits.{UnitKind, OpenUnit, IsFront, IsOpen, IsUndecidedBelow, appended, decided, of_header, of_pes, begun_kind, whole_pes}
use Rattle.pid_findings.specs.OpenUnits.{max_unbounded_pes}
use Rattle.pid_findings.specs.declared.open_unit.UnitKind.TheVariants as unit_kinds
use Rattle.pid_findings.specs.Views.{IsPes}
use Rattle.pid_findings.specs.Findings.{ended, decided_by, found_if, stray_bytes}
use Rattle.pid_findings.proofs.LeastSizes.{least_by, not_zero}

-- A list after the front that precedes it
pub after_front : (front rest : List ℕ) → drop (length front) (front ++ rest) ≡ rest
after_front [] rest = refl
after_front (x ∷ front) rest = after_front front rest

-- The front of two joined lists
pub take_front : (front rest : List ℕ) → take (length front) (front ++ rest) ≡ front
take_front [] rest = refl
take_front (x ∷ front) rest = ap (λ (xs : List ℕ). x ∷ xs) (take_front front rest)

-- A header that was read stays the same with more bytes after it.
pub still_read : (bytes more : List ℕ) (h : PesHeader × ℕ) → header_at bytes ≡ Ok h → header_at (bytes ++ more) ≡ Ok h
still_read bytes more h is = longer_is_read bytes more (rw is (λ x. absurd cc)) ∙ is

-- The number of bytes for which a PES packet waits
pub waits_for : (bytes : List ℕ) (header : PesHeader) (size least : ℕ) → header_at bytes ≡ Ok (header, size) →
    least ≡ cond (header.len == 0) (max_unbounded_pes + 1) (6 + header.len) →
    IsUndecidedBelow unit_kinds.Pes bytes least
waits_for bytes header size least is e = least_by bytes (header, size) least (header.len == 0) is refl e

-- If nothing follows, a PES packet without a length ends with all its bytes.
endless : (packet : ℕ) (access : Bool) (front body : List ℕ) (header : PesHeader) → header_at (front ++ body) ≡ Ok (header, length front) → header.len ≡ 0 →
    ended false (Some (record { packet = packet; kind = unit_kinds.Pes; access = access; bytes = front ++ body })) ≡ whole_pes packet access header body ∷ []
unfolding ended begun_kind
endless packet access front body header is zero = rw (is, zero, after_front front body) refl

take_whole : (xs : List ℕ) → take (length xs) xs ≡ xs
take_whole [] = refl
take_whole (x ∷ xs) = ap (λ (ys : List ℕ). x ∷ ys) (take_whole xs)

pub endless_found : (open_unit : Option OpenUnit) (unit : OpenUnit) (packet : ℕ) (kind : UnitKind) (access : Bool) (read : Option PesHeader)
    (front body : List ℕ) (header : PesHeader) (size : ℕ) →
    open_unit ≡ Some unit → record { packet = packet; kind = kind; access = access; bytes = front ++ body } ≡ unit → IsFront read kind front (front ++ body) →
    read ≡ Some header →
    header.len ≡ 0 → size ≡ length body → ended false open_unit ≡ whole_pes packet access header (take size (body ++ [])) ∷ []
endless_found open_unit unit packet kind access read front body header size opened view matches some zero sized =
    let head : IsFront (Some header) kind front (front ++ body) = subst (λ (o : Option PesHeader). IsFront o kind front (front ++ body)) some matches in
    let all : take size (body ++ []) ≡ body = ap (λ (n : ℕ). take n (body ++ [])) sized ∙ ap (take (length body)) (append-nil body) ∙ take_whole body in
    ap (ended false) opened ∙ ap (λ (u : OpenUnit). ended false (Some u)) (sym view)
    ∙ ap (λ (k : UnitKind). ended false (Some (record { packet = packet; kind = k; access = access; bytes = front ++ body }))) head.0
    ∙ endless packet access front body header head.1 zero ∙ ap (λ (xs : List ℕ). whole_pes packet access header xs ∷ []) (sym all)

-- A PES packet with a length ends with its last byte.
fewer : (n m : ℕ) → m ≤ n → nat_lt n m ≡ false
fewer n m le = grind (arith, nat_tests)

pub whole_decided : (front body payload : List ℕ) (header : PesHeader) → header_at (front ++ body) ≡ Ok (header, length front) → header.len ≢ 0 →
    6 + header.len ≤ length front + length body + length payload →
    decided unit_kinds.Pes ((front ++ body) ++ payload) ≡ Some (IsPes header false (take (6 + header.len - length front) (body ++ payload)))
unfolding decided of_pes of_header
whole_decided front body payload header is more le =
    let all : 6 + header.len ≤ length ((front ++ body) ++ payload) = omega (arith, le, length-append (front ++ body) payload, length-append front body) in
    rw (
      still_read (front ++ body) payload (header, length front) is,
      not_zero header.len more,
      fewer (length ((front ++ body) ++ payload)) (6 + header.len) all,
      append_assoc front body payload,
      after_front front (body ++ payload),
    ) refl

pub whole_found : (packet : ℕ) (access : Bool) (front body payload : List ℕ) (header : PesHeader) → header_at (front ++ body) ≡ Ok (header, length front) →
    header.len ≢ 0 →
    6 + header.len ≤ length front + length body + length payload →
    decided_by (record { packet = packet; kind = unit_kinds.Pes; access = access; bytes = (front ++ body) ++ payload })
    ≡ whole_pes packet access header (take (6 + header.len - length front) (body ++ payload))
    ∷ stray_bytes (length ((front ++ body) ++ payload) - (6 + header.len))
unfolding found_if begun_kind
whole_found packet access front body payload header is more le =
    rw (whole_decided front body payload header is more le, still_read (front ++ body) payload (header, length front) is) refl

-- An open unit with a header that was read, and the bytes after the header
abbrev ReadUnit : OpenUnit → ℕ → UnitKind → Bool → Option PesHeader → List ℕ → List ℕ → PesHeader → Type 0
ReadUnit unit packet kind access read front body header =
    (record { packet = packet; kind = kind; access = access; bytes = front ++ body } ≡ unit) × IsFront read kind front (front ++ body) × (read ≡ Some header)

read_front : (kind : UnitKind) (read : Option PesHeader) (front all : List ℕ) (header : PesHeader) → IsFront read kind front all → read ≡ Some header →
    IsFront (Some header) kind front all
read_front kind read front all header matches some = subst (λ (o : Option PesHeader). IsFront o kind front all) some matches

enough_in : (unit : OpenUnit) (packet : ℕ) (kind : UnitKind) (access : Bool) (front body payload : List ℕ) (header : PesHeader) →
    record { packet = packet; kind = kind; access = access; bytes = front ++ body } ≡ unit → 6 + header.len ≤ length unit.bytes + length payload →
    6 + header.len ≤ length front + length body + length payload
enough_in unit packet kind access front body payload header view enough =
    omega (arith, enough, ap (λ (u : OpenUnit). length u.bytes) view, length-append front body)

-- The open unit is found whole, with the stray bytes past its end.
pub whole_unit : (unit : OpenUnit) (packet : ℕ) (kind : UnitKind) (access : Bool) (read : Option PesHeader) (front body payload : List ℕ) (header : PesHeader)
    (size rest : ℕ) →
    ReadUnit unit packet kind access read front body header → header.len ≢ 0 → 6 + header.len ≤ length unit.bytes + length payload →
    size ≡ 6 + header.len - length front → rest ≡ length unit.bytes + length payload - (6 + header.len) →
    decided_by (appended unit payload) ≡ whole_pes packet access header (take size (body ++ payload)) ∷ stray_bytes rest
whole_unit unit packet kind access read front body payload header size rest h more enough sized left =
    let head = read_front kind read front (front ++ body) header h.1 h.2 in
    let le = enough_in unit packet kind access front body payload header h.0 enough in
    let past : length ((front ++ body) ++ payload) - (6 + header.len) ≡ rest =
    omega (arith, left, length-append (front ++ body) payload, ap (λ (u : OpenUnit). length u.bytes) h.0) in
    ap (λ (u : OpenUnit). decided_by (appended u payload)) (sym h.0)
    ∙ ap (λ (k : UnitKind). decided_by (record { packet = packet; kind = k; access = access; bytes = (front ++ body) ++ payload })) head.0
    ∙ whole_found packet access front body payload header head.1 more le
    ∙ ap₂ (λ (n m : ℕ). whole_pes packet access header (take n (body ++ payload)) ∷ stray_bytes m) (sym sized) past

pub whole_unit_decided : (unit : OpenUnit) (packet : ℕ) (kind : UnitKind) (access : Bool) (read : Option PesHeader) (front body payload : List ℕ)
    (header : PesHeader) →
    ReadUnit unit packet kind access read front body header → header.len ≢ 0 → 6 + header.len ≤ length unit.bytes + length payload →
    is_some (decided unit.kind (unit.bytes ++ payload)) ≡ true
whole_unit_decided unit packet kind access read front body payload header h more enough =
    let head = read_front kind read front (front ++ body) header h.1 h.2 in
    let le = enough_in unit packet kind access front body payload header h.0 enough in
    ap (λ (u : OpenUnit). is_some (decided u.kind (u.bytes ++ payload))) (sym h.0)
    ∙ ap (λ (k : UnitKind). is_some (decided k ((front ++ body) ++ payload))) head.0
    ∙ ap is_some (whole_decided front body payload header head.1 more le)

-- More bytes after the last bytes
pub appended_last : (front zeros bytes payload : List ℕ) → (front ++ (zeros ++ bytes)) ++ payload ≡ front ++ (zeros ++ (bytes ++ payload))
appended_last front zeros bytes payload =
    append_assoc front (zeros ++ bytes) payload ∙ ap (λ (xs : List ℕ). front ++ xs) (append_assoc zeros bytes payload)

-- More bytes leave an open unit as it is, if all its bytes together are fewer than the least number that may decide it.
front_stays : (header : Option PesHeader) (kind : UnitKind) (front bytes more : List ℕ) → IsFront header kind front bytes →
    IsFront header kind front (bytes ++ more)
front_stays None kind front bytes more h = h
front_stays (Some header) kind front bytes more h = (h.0, still_read bytes more (header, length front) h.1)

grown : (header : Option PesHeader) (kind : UnitKind) (front zeros bytes payload : List ℕ) (least : ℕ) →
    IsOpen header kind front (front ++ (zeros ++ bytes)) least →
    length (front ++ (zeros ++ bytes)) + length payload < least → IsOpen header kind front (front ++ (zeros ++ (bytes ++ payload))) least
grown header kind front zeros bytes payload least h lt =
    let all = front ++ (zeros ++ bytes) in
    let joined = all ++ payload in
    let few : length joined ≤ max_unbounded_pes = omega (arith, lt, h.1.0, length-append all payload) in
    let waits : IsUndecidedBelow kind joined least = λ more less.
    subst (λ (xs : List ℕ). decided kind xs ≡ None) (sym (append_assoc all payload more))
    (h.1.1.0 (payload ++ more) (subst (λ (xs : List ℕ). length xs < least) (append_assoc all payload more) less)) in
    subst (λ (xs : List ℕ). IsOpen header kind front xs least) (appended_last front zeros bytes payload)
    (few, (h.1.0, (waits, front_stays header kind front all payload h.1.1.1)))

pub grown_if : (ok : Bool) (header : Option PesHeader) (kind : UnitKind) (front zeros bytes payload new : List ℕ) (least : ℕ) →
    new ≡ cond ok (bytes ++ payload) bytes →
    IsOpen header kind front (front ++ (zeros ++ bytes)) least → length (front ++ (zeros ++ bytes)) + length payload < least →
    IsOpen header kind front (front ++ (zeros ++ new)) least
grown_if true header kind front zeros bytes payload new least e h lt =
    subst (λ (xs : List ℕ). IsOpen header kind front (front ++ (zeros ++ xs)) least) (sym e) (grown header kind front zeros bytes payload least h lt)
grown_if false header kind front zeros bytes payload new least e h lt =
    subst (λ (xs : List ℕ). IsOpen header kind front (front ++ (zeros ++ xs)) least) (sym e) h
