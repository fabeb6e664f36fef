-- The packets of a PID that carries units: what begins with each packet, and its unit
use Rattle.std.proofs.Common.{◌≡◌, ◌∙◌, ◌⊎◌, sym, ℕ, suc, ◌+◌, ◌%◌, ◌≤◌, ◌==◌, if◌then◌else◌, cond, Bool, true, false, IsTrue, List, [], ◌∷◌, ◌++◌, length, map}
use Rattle.std.proofs.Common.{take, drop, replicate, Option, Some, None, refl, ap, inl, inr, arith, All, eqb-true}
use Rattle.std.specs.Prelude.{count_by, is_some, slice_get, unwrap_or}
use Rattle.std.specs.List.{concat}
use Rattle.std.proofs.lemmas.Bool.{cases_Bool}
use Rattle.std.proofs.lemmas.List.{take_at}
use Rattle.std.proofs.lemmas.List.Elements.{All-cons, All-head, All-nil, All-tail}
use Rattle.std.proofs.lemmas.List.Sums.{sum_by-cons}
use Rattle.ts_packet.specs.PidList.{Entry, payload_of, pid_list}
use Rattle.pes_packet.specs.AccessUnits.{AccessUnit}
use Rattle.pes_packet.specs.Encoding.{on_wire, pes_packet_bytes}
use Rattle.pes_packet.specs.Laws.{written_header}
use Rattle.pes_packet.specs.Marks.{extension_size}
use Rattle.pes_packet.specs.declared.marks.Marks.{Marks}
use Rattle.pes_packet.specs.Reading.{header_at}
use Rattle.pes_packet.specs.StreamIds.{fits_packet}
use Rattle.unit_timing.specs.Schedule.{Packet}
use Rattle.laws_run.specs.Units.{unit_header_size}
use Rattle.laws_run.proofs.PesPrefixes.{unit_is_pes}
use Rattle.es_events.specs.declared.clocks.Beginning.TheVariants.{Nothing, Stamped}
use Rattle.es_events.specs.Clocks.{beginning_of, by_header, by_payload, by_stamps}
use Rattle.laws_view.specs.CarriedStreams.{BegunPayload, CarriesUnits, CutUnit, IsCut, begun, cut_pieces, cut_senders, payload_in}

-- The stamp of a unit on the wire
abbrev pub wire_dts : ℕ → AccessUnit → ℕ
wire_dts base0 u = on_wire (u.dts + base0)

-- The payloads of a unit

-- A payload begins its unit, or continues the unit before.
pub record HasPiece (base0 : ℕ) (before : Option AccessUnit) (p : BegunPayload) (u : AccessUnit) : Type 0 where
  pub most : length p.bytes ≤ 184
  pub begins : ((p.start ≡ true) × (1 ≤ length p.bytes) × (by_header (header_at p.bytes) ≡ Stamped (wire_dts base0 u))) ⊎
      ((p.start ≡ false) × (before ≡ Some u))

unfoldable pub Cut : ℕ → Option AccessUnit → List BegunPayload → List AccessUnit → Type 0
Cut base0 before [] us = Unit {0}
Cut base0 before (p ∷ ps) [] = ⊥
Cut base0 before (p ∷ ps) (u ∷ us) = HasPiece base0 before p u × Cut base0 (Some u) ps us

goes_on : (base0 : ℕ) (u : AccessUnit) (bs : List (List ℕ)) (ps : List BegunPayload) (us : List AccessUnit) → All (λ b. length b ≤ 184) bs →
    Cut base0 (Some u) ps us → Cut base0 (Some u) (begun false bs ++ ps) (replicate (length bs) u ++ us)
unfolding begun Cut
goes_on base0 u [] ps us most rest = rest
goes_on base0 u (b ∷ bs) ps us most rest = (
  record { most = All-head (λ b. length b ≤ 184) b bs most; begins = inr (refl, refl) },
  goes_on base0 u bs ps us (All-tail (λ b. length b ≤ 184) b bs most) rest,
)

-- The header of a unit is read with its stamp.
reads_dts : (id size : ℕ) (marks : Marks) (pts dts : ℕ) → by_stamps (written_header id size marks pts dts).stamps ≡ Stamped (on_wire dts)
unfolding written_header by_stamps
reads_dts id size marks pts dts = elim (cases_Bool (on_wire pts == on_wire dts)) [
  | inl same ↦ rw same (ap (λ (n : ℕ). Stamped n) (eqb-true (on_wire pts) (on_wire dts) same))
  | inr other ↦ rw other refl
]

header_read : (id base0 n : ℕ) (u : AccessUnit) → IsTrue (fits_packet id (length u.bytes)) → unit_header_size base0 u ≤ n →
    by_header (header_at (take n (pes_packet_bytes id base0 u))) ≡ Stamped (wire_dts base0 u)
unfolding by_header
header_read id base0 n u fits whole =
    let text = unit_is_pes id base0 u fits in
    rw (text.header n whole) (reads_dts id (length u.bytes) u.marks (u.pts + base0) (u.dts + base0))

some_by : (long same : Bool) (extension : ℕ) → 1 ≤ cond long 45 (cond same 14 19 + extension)
some_by true same extension = omega arith
some_by false true extension = omega arith
some_by false false extension = omega arith

pub some_header : (base0 : ℕ) (u : AccessUnit) → 1 ≤ unit_header_size base0 u
some_header base0 u = some_by u.marks.long (on_wire (u.pts + base0) == on_wire (u.dts + base0)) (extension_size u.marks)

-- The payloads of one unit
one_cut : (id base0 : ℕ) (u : AccessUnit) (before : Option AccessUnit) (bs : List (List ℕ)) (ps : List BegunPayload) (us : List AccessUnit) →
    IsTrue (fits_packet id (length u.bytes)) →
    concat bs ≡ pes_packet_bytes id base0 u → unit_header_size base0 u ≤ length (unwrap_or (slice_get bs 0) []) → All (λ b. length b ≤ 184) bs →
    Cut base0 (Some u) ps us →
    Cut base0 before (begun true bs ++ ps) (replicate (length bs) u ++ us)
unfolding begun Cut
one_cut id base0 u before [] ps us fits joined header most rest = absurd (omega (arith, header, some_header base0 u))
one_cut id base0 u before (b ∷ bs) ps us fits joined header most rest =
    let front : take (length b) (pes_packet_bytes id base0 u) ≡ b = ap (λ (l : List ℕ). take (length b) l) (sym joined)
    ∙ take_at b (concat bs) (length b) refl in
    let read : by_header (header_at b) ≡ Stamped (wire_dts base0 u) = ap (λ (l : List ℕ). by_header (header_at l)) (sym front)
    ∙ header_read id base0 (length b) u fits header in
    let some : 1 ≤ length b = omega (arith, header, some_header base0 u) in (
      record { most = All-head (λ b. length b ≤ 184) b bs most; begins = inl (refl, some, read) },
      goes_on base0 u bs ps us (All-tail (λ b. length b ≤ 184) b bs most) rest,
    )

pub all_cut : (id base0 : ℕ) (before : Option AccessUnit) (cuts : List CutUnit) → All (IsCut id base0) cuts →
    Cut base0 before (cut_pieces cuts) (cut_senders cuts)
all_cut id base0 before [] all = unfold Cut in tt
all_cut id base0 before (c ∷ cuts) all =
    let is = All-head (IsCut id base0) c cuts all in
    one_cut id base0 c.unit before c.payloads (cut_pieces cuts) (cut_senders cuts) is.fits is.joined is.header is.most
    (all_cut id base0 (Some c.unit) cuts (All-tail (IsCut id base0) c cuts all))

-- The packets that carry the payloads

abbrev pub has_payload : Entry → Bool
has_payload e = is_some e.packet.payload

-- The number of the next packet with a payload
abbrev pub number_after : ℕ → Entry → ℕ
number_after n e = if is_some e.packet.payload then suc n else n

-- The packet belongs to this unit; n is the number of the next packet with a payload.
pub record IsSent (base0 n : ℕ) (before : Option AccessUnit) (e : Entry) (u : AccessUnit) : Type 0 where
  pub most : length (payload_of e.packet) ≤ 184
  pub counter : is_some e.packet.payload ≡ true → e.packet.header.continuity_counter ≡ n % 16
  pub begins : ((e.packet.header.payload_unit_start_indicator ≡ true) × (beginning_of e.packet ≡ Stamped (wire_dts base0 u)))
      ⊎ ((beginning_of e.packet ≡ Nothing) × (before ≡ Some u))

unfoldable pub AllSent : ℕ → ℕ → Option AccessUnit → List Entry → List AccessUnit → Type 0
AllSent base0 n before [] us = Unit {0}
AllSent base0 n before (e ∷ es) [] = ⊥
AllSent base0 n before (e ∷ es) (u ∷ us) = IsSent base0 n before e u × AllSent base0 (number_after n e) (Some u) es us

nothing_begins : (o : Option (List ℕ)) → by_payload false o ≡ Nothing
unfolding by_payload
nothing_begins None = refl
nothing_begins (Some b) = refl

begins_by : (base0 : ℕ) (start : Bool) (o : Option (List ℕ)) (before : Option AccessUnit) (u : AccessUnit) →
    ((start ≡ true) × (1 ≤ length (unwrap_or o [])) × (by_header (header_at (unwrap_or o [])) ≡ Stamped (wire_dts base0 u))) ⊎
    ((start ≡ false) × (before ≡ Some u)) →
    ((start ≡ true) × (by_payload start o ≡ Stamped (wire_dts base0 u))) ⊎ ((by_payload start o ≡ Nothing) × (before ≡ Some u))
unfolding by_payload
begins_by base0 start None before u (inl begins) = absurd (omega (arith, begins.1))
begins_by base0 start (Some b) before u (inl begins) = inl (begins.0, rw begins.0 begins.2)
begins_by base0 start o before u (inr goes) = inr (rw goes.0 (nothing_begins o), goes.1)

-- An entry as timing sees it
abbrev pub entry_packet : Entry → Packet
entry_packet e = record { slot = e.index; size = length (payload_of e.packet) }

one_sent : (base0 n : ℕ) (before : Option AccessUnit) (e : Entry) (q : BegunPayload) (u : AccessUnit) → HasPiece base0 before q u → payload_in e ≡ q →
    (is_some e.packet.payload ≡ true → e.packet.header.continuity_counter ≡ n % 16) → IsSent base0 n before e u
one_sent base0 n before e q u piece is counter =
    let bytes : payload_of e.packet ≡ q.bytes = ap (λ (p : BegunPayload). p.bytes) is in
    let start : e.packet.header.payload_unit_start_indicator ≡ q.start = ap (λ (p : BegunPayload). p.start) is in
    let many : length (payload_of e.packet) ≡ length q.bytes = ap (λ (b : List ℕ). length b) bytes in
    record {
      most = omega (arith, many, piece.most);
      counter = counter;
      begins = begins_by base0 e.packet.header.payload_unit_start_indicator e.packet.payload before u (rw (bytes, start) piece.begins);
    }

-- Each packet has the counter after the counter of the last packet with a payload.
abbrev CountOn : ℕ → List Entry → Type 0
CountOn n es = (j : ℕ) (e : Entry) → slice_get es j ≡ Some e → is_some e.packet.payload ≡ true →
    e.packet.header.continuity_counter ≡ (n + count_by has_payload (take j es)) % 16

count_next : (n : ℕ) (e : Entry) (es : List Entry) → CountOn n (e ∷ es) → CountOn (number_after n e) es
count_next n e es counters j f found some = counters (suc j) f found some ∙ ap (λ (m : ℕ). m % 16) (same (is_some e.packet.payload) refl)
  where
    same : (b : Bool) → is_some e.packet.payload ≡ b → n + count_by has_payload (e ∷ take j es) ≡ number_after n e + count_by has_payload (take j es)
    same true is = rw (sum_by-cons (λ p. cond (has_payload p) 1 0) e (take j es), is) (omega arith)
    same false is = rw (sum_by-cons (λ p. cond (has_payload p) 1 0) e (take j es), is) (omega arith)

all_sent : (base0 n : ℕ) (before : Option AccessUnit) (es : List Entry) (qs : List BegunPayload) (us : List AccessUnit) → Cut base0 before qs us →
    map payload_in es ≡ take (length es) qs → CountOn n es → AllSent base0 n before es us
unfolding Cut AllSent
all_sent base0 n before [] qs us cut same counters = tt
all_sent base0 n before (e ∷ es) [] us cut same counters = absurd (let no : ⊥ = cc in no)
all_sent base0 n before (e ∷ es) (q ∷ qs) [] cut same counters = absurd cut
all_sent base0 n before (e ∷ es) (q ∷ qs) (u ∷ us) cut same counters =
    let is : payload_in e ≡ q = cc in
    let others : map payload_in es ≡ take (length es) qs = cc in
    let none : n + count_by has_payload (take 0 (e ∷ es)) ≡ n = omega arith in
    let one = one_sent base0 n before e q u cut.0 is (λ some. counters 0 e refl some ∙ ap (λ (m : ℕ). m % 16) none) in
    (one, all_sent base0 (number_after n e) (Some u) es qs us cut.1 others (count_next n e es counters))

-- Each packet of a PID that carries units belongs to its unit, in turn.
pub carried_sent : (id base0 pid : ℕ) (cuts : List CutUnit) (bytes : List ℕ) (c : CarriesUnits id base0 pid cuts bytes) →
    AllSent base0 c.first None (pid_list pid bytes) (cut_senders cuts)
carried_sent id base0 pid cuts bytes c =
    all_sent base0 c.first None (pid_list pid bytes) (cut_pieces cuts) (cut_senders cuts) (all_cut id base0 None cuts c.cut) c.pieces c.counters

pub many_packets : (es : List Entry) → length (map entry_packet es) ≡ length es
many_packets [] = refl
many_packets (e ∷ es) = ap (λ (n : ℕ). suc n) (many_packets es)

pub sizes_below : (base0 n : ℕ) (before : Option AccessUnit) (es : List Entry) (us : List AccessUnit) → AllSent base0 n before es us →
    All (λ p. p.size ≤ 188) (map entry_packet es)
unfolding AllSent
sizes_below base0 n before [] us sent = All-nil (λ (p : Packet). p.size ≤ 188)
sizes_below base0 n before (e ∷ es) [] sent = absurd sent
sizes_below base0 n before (e ∷ es) (u ∷ us) sent =
    All-cons (λ p. p.size ≤ 188) (entry_packet e) (map entry_packet es) (omega (arith, sent.0.most))
    (sizes_below base0 (number_after n e) (Some u) es us sent.1)

-- The packets `fs`, after the packets `es`
pub record LaterSent (base0 : ℕ) (es fs : List Entry) (us : List AccessUnit) : Type 0 where
  pub last : Option AccessUnit
  pub number : ℕ
  pub sent : AllSent base0 number last fs (drop (length es) us)

pub later_sent : (base0 n : ℕ) (before : Option AccessUnit) (es fs : List Entry) (us : List AccessUnit) → AllSent base0 n before (es ++ fs) us →
    LaterSent base0 es fs us
unfolding AllSent
later_sent base0 n before [] fs us sent = record { last = before; number = n; sent = sent }
later_sent base0 n before (e ∷ es) fs [] sent = absurd sent
later_sent base0 n before (e ∷ es) fs (u ∷ us) sent =
    let rest = later_sent base0 (number_after n e) (Some u) es fs us sent.1 in
    record { last = rest.last; number = rest.number; sent = rest.sent }
