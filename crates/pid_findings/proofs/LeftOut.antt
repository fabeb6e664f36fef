-- An open unit whose body is left out.
use Rattle.std.proofs.Common.{◌≡◌, ℕ, ◌+◌, ◌≤◌, Bool, true, false, List, [], ◌++◌, length, replicate, Option, Some, None, is_some, Result, Ok, Err, refl, sym}
use Rattle.std.proofs.Common.{ap, ap₂, subst, ◌∙◌, arith, length-append}
use Rattle.std.specs.Prelude.{is_err}
use Rattle.std.proofs.lemmas.List.{append-nil, length-replicate}
use Rattle.pes_packet.specs.Reading.{header_at}
use Rattle.pes_packet.specs.declared.reading.PesHeader.{PesHeader}
use Rattle.pes_packet.specs.declared.refusal.PesError.{PesError}
use Rattle.pid_findings.specs.OpenUnits.{UnitKind, OpenUnit, IsFront, IsOpen, IsUndecidedBelow, FollowsHeader, max_unbounded_pes}
use Rattle.pid_findings.specs.declared.open_unit.UnitKind.TheVariants as unit_kinds
use Rattle.pid_findings.specs.Bodies.{bodiless, bytes_without_body, unit_without_body}
use Rattle.pid_findings.proofs.Bodies.{headed, left_open}

abbrev unit_of : ℕ → UnitKind → Bool → List ℕ → OpenUnit
unit_of packet kind access bytes = record { packet = packet; kind = kind; access = access; bytes = bytes }

-- 1. The header was separate before

zeros_are : (n len : ℕ) (bytes new : List ℕ) → len ≡ length bytes → new ≡ [] → replicate (length (replicate n 0 ++ bytes)) 0 ≡ replicate (n + len) 0 ++ new
zeros_are n len bytes new l e =
    let size : length (replicate n 0 ++ bytes) ≡ n + len = omega (arith, l, length-append (replicate n 0) bytes, length-replicate {A = ℕ} n 0) in
    ap (λ (k : ℕ). replicate k 0) size ∙ sym (append-nil (replicate (n + len) 0)) ∙ ap (λ (xs : List ℕ). replicate (n + len) 0 ++ xs) (sym e)

some_of : (header : Option PesHeader) → true ≡ is_some header → (P : Option PesHeader → Type 0) → ((h : PesHeader) → header ≡ Some h → P (Some h)) → P header
some_of None e P f = absurd cc
some_of (Some h) e P f = f h refl

open_more : (header : PesHeader) (kind : UnitKind) (front bytes new : List ℕ) (n len least : ℕ) →
    IsOpen (Some header) kind front (front ++ (replicate n 0 ++ bytes)) least →
    len ≡ length bytes → new ≡ [] → IsOpen (Some header) kind front (front ++ (replicate (n + len) 0 ++ new)) least
open_more header unit_kinds.Section front bytes new n len least h l e = absurd cc
open_more header unit_kinds.Pes front bytes new n len least h l e =
    subst (λ (xs : List ℕ). IsOpen (Some header) unit_kinds.Pes front (front ++ xs) least) (zeros_are n len bytes new l e)
    (left_open front (replicate n 0 ++ bytes) header least h)

pub more_left_open : (header : Option PesHeader) (kind : UnitKind) (front bytes new : List ℕ) (n len least : ℕ) → true ≡ is_some header →
    IsOpen header kind front (front ++ (replicate n 0 ++ bytes)) least → len ≡ length bytes → new ≡ [] →
    IsOpen header kind front (front ++ (replicate (n + len) 0 ++ new)) least × FollowsHeader header (n + len)
more_left_open None kind front bytes new n len least some h l e = absurd cc
more_left_open (Some header) kind front bytes new n len least some h l e = (open_more header kind front bytes new n len least h l e, tt)

bytes_left : (header : PesHeader) (kind : UnitKind) (front bytes new : List ℕ) (n len : ℕ) →
    IsFront (Some header) kind front (front ++ (replicate n 0 ++ bytes)) →
    len ≡ length bytes → new ≡ [] → front ++ (replicate (n + len) 0 ++ new) ≡ bytes_without_body kind (front ++ (replicate n 0 ++ bytes))
bytes_left header unit_kinds.Section front bytes new n len h l e = absurd cc
bytes_left header unit_kinds.Pes front bytes new n len h l e =
    ap (λ (xs : List ℕ). front ++ xs) (sym (zeros_are n len bytes new l e)) ∙ sym (headed front (replicate n 0 ++ bytes) header h.1)

same_unit : (unit : OpenUnit) (packet : ℕ) (kind : UnitKind) (access : Bool) (old new : List ℕ) → unit_of packet kind access old ≡ unit →
    new ≡ bytes_without_body kind old → unit_of packet kind access new ≡ unit_without_body unit
same_unit unit packet kind access old new view e = ap (unit_of packet kind access) e ∙ ap unit_without_body view

pub more_left : (unit : OpenUnit) (packet : ℕ) (kind : UnitKind) (access : Bool) (header : Option PesHeader) (front bytes new : List ℕ) (n len : ℕ) →
    true ≡ is_some header →
    unit_of packet kind access (front ++ (replicate n 0 ++ bytes)) ≡ unit → IsFront header kind front (front ++ (replicate n 0 ++ bytes)) → len ≡ length bytes →
    new ≡ [] →
    unit_of packet kind access (front ++ (replicate (n + len) 0 ++ new)) ≡ unit_without_body unit
more_left unit packet kind access None front bytes new n len some view h l e = absurd cc
more_left unit packet kind access (Some header) front bytes new n len some view h l e =
    same_unit unit packet kind access _ _ view (bytes_left header kind front bytes new n len h l e)

-- 2. The header becomes separate

pub alone : (header : Option PesHeader) (kind : UnitKind) (front all bytes : List ℕ) (n : ℕ) → false ≡ is_some header → IsFront header kind front all →
    FollowsHeader header n →
    (front ≡ []) × (front ++ (replicate n 0 ++ bytes) ≡ bytes)
alone None kind front all bytes n none is follows =
    (is, ap₂ (λ (xs : List ℕ) (k : ℕ). xs ++ (replicate k 0 ++ bytes)) is follows)
alone (Some header) kind front all bytes n none is follows = absurd cc

pub first_left_open : (header : PesHeader) (kind : UnitKind) (front rest new bytes apart : List ℕ) (least : ℕ) → kind ≡ unit_kinds.Pes →
    length bytes ≤ max_unbounded_pes →
    least ≤ max_unbounded_pes + 1 → IsUndecidedBelow unit_kinds.Pes bytes least → IsFront (Some header) unit_kinds.Pes front bytes → front ++ rest ≡ bytes →
    apart ≡ front → new ≡ [] →
    IsOpen (Some header) kind apart (apart ++ (replicate (length rest) 0 ++ new)) least
first_left_open header kind front rest new bytes apart least pes few bound waits is joined same e =
    let all : IsOpen (Some header) unit_kinds.Pes front (front ++ rest) least =
    subst (λ (xs : List ℕ). IsOpen (Some header) unit_kinds.Pes front xs least) (sym joined) (few, (bound, (waits, is))) in
    let zeros : replicate (length rest) 0 ≡ replicate (length rest) 0 ++ new = sym (append-nil (replicate (length rest) 0))
    ∙ ap (λ (xs : List ℕ). replicate (length rest) 0 ++ xs) (sym e) in
    subst (λ (k : UnitKind). IsOpen (Some header) k apart (apart ++ (replicate (length rest) 0 ++ new)) least) (sym pes)
    (subst (λ (xs : List ℕ). IsOpen (Some header) unit_kinds.Pes xs (xs ++ (replicate (length rest) 0 ++ new)) least) (sym same)
    (subst (λ (xs : List ℕ). IsOpen (Some header) unit_kinds.Pes front (front ++ xs) least) zeros (left_open front rest header least all)))

pub first_left : (unit : OpenUnit) (packet : ℕ) (kind : UnitKind) (access : Bool) (header : PesHeader) (old front rest new bytes apart : List ℕ) →
    unit_of packet kind access old ≡ unit → old ≡ bytes → kind ≡ unit_kinds.Pes → IsFront (Some header) unit_kinds.Pes front bytes → front ++ rest ≡ bytes →
    apart ≡ front → new ≡ [] →
    unit_of packet kind access (apart ++ (replicate (length rest) 0 ++ new)) ≡ unit_without_body unit
first_left unit packet kind access header old front rest new bytes apart view is pes read joined same e =
    let zeros : apart ++ (replicate (length rest) 0 ++ new) ≡ front ++ replicate (length rest) 0 =
    ap₂ (λ (xs ys : List ℕ). xs ++ (replicate (length rest) 0 ++ ys)) same e ∙ ap (λ (xs : List ℕ). front ++ xs) (append-nil (replicate (length rest) 0)) in
    let there : header_at (front ++ rest) ≡ Ok (header, length front) = ap header_at joined ∙ read.1 in
    same_unit unit packet kind access old _ view
    (zeros ∙ sym (headed front rest header there) ∙ ap₂ (λ (k : UnitKind) (xs : List ℕ). bytes_without_body k xs) (sym pes) (joined ∙ sym is))

-- 3. No header can be read

unread_by : (bytes : List ℕ) (r : Result (PesHeader × ℕ) PesError) → is_err r ≡ true → bodiless bytes r ≡ bytes
unfolding bodiless
unread_by bytes (Ok h) e = absurd cc
unread_by bytes (Err error) e = refl

unread_bytes : (bytes : List ℕ) → is_err (header_at bytes) ≡ true → bytes_without_body unit_kinds.Pes bytes ≡ bytes
unfolding bytes_without_body
unread_bytes bytes e = unread_by bytes (header_at bytes) e

pub none_left : (unit : OpenUnit) (packet : ℕ) (kind : UnitKind) (access : Bool) (old bytes : List ℕ) → unit_of packet kind access old ≡ unit → old ≡ bytes →
    kind ≡ unit_kinds.Pes →
    is_err (header_at bytes) ≡ true → unit ≡ unit_without_body unit
none_left unit packet kind access old bytes view is pes e =
    sym view ∙ same_unit unit packet kind access old old view
    (is ∙ sym (unread_bytes bytes e) ∙ ap₂ (λ (k : UnitKind) (xs : List ℕ). bytes_without_body k xs) (sym pes) (sym is))

section_stays : (unit : OpenUnit) (kind : UnitKind) → unit.kind ≡ kind → kind ≡ unit_kinds.Section → unit ≡ unit_without_body unit
unfolding bytes_without_body
section_stays unit kind e f = rw (e, f) refl

pub section_left : (unit : OpenUnit) (packet : ℕ) (kind : UnitKind) (access : Bool) (old : List ℕ) → unit_of packet kind access old ≡ unit →
    kind ≡ unit_kinds.Section →
    unit ≡ unit_without_body unit
section_left unit packet kind access old view is = section_stays unit kind (ap (λ (u : OpenUnit). u.kind) (sym view)) is
