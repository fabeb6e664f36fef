-- The bytes of a PES packet, taken one after another.
use Rattle.std.proofs.Common.{◌≡◌, ℕ, zero, suc, ◌+◌, ◌*◌, ◌≤◌, max, nat_le, nat_eq, ◌&&◌, ◌||◌, Bool, true, false, List, [], ◌∷◌, length, take, drop, refl, ap}
use Rattle.std.proofs.Common.{subst, sym, inl, inr, arith}
use Rattle.std.specs.List.{list_all}
use Rattle.std.proofs.lemmas.Bool.{cases_Bool, leb-true, le-leb}
use Rattle.std.proofs.lemmas.Bool.Decides.{nat_tests}
use Rattle.clock27.specs.Peak.{Climbs, greatest_at}
use Rattle.unit_timing.specs.MainBuffer.{mb_fullness}
use Rattle.unit_timing.specs.PesPacket.{PesPacket}
use Rattle.tstd.specs.declared.payload_bytes.PayloadBytes.{PayloadBytes}
use Rattle.tstd.specs.declared.main_buffer.MainBuffer.{MainBuffer}
use Rattle.tstd.specs.Entry.{peak_of, peak_ahead}
use Rattle.tstd.specs.Removal.{removal_time}
use Rattle.tstd.specs.BufferState.{fullness_at}
use Rattle.tstd.specs.BufferedUnits.{one_buffered}
use Rattle.tstd.specs.PayloadBytes.{bytes_ahead, last_of, drain_of}
use Rattle.tstd.proofs.RisingTimes.{greatest_ext}
use Rattle.tstd.proofs.PayloadWalks.{bytes_climb}
use Rattle.tstd.proofs.EntryPeaks.{byte_entered, text_entered}

-- At its end a walk finds no new peak.
pub most_none : {A : Type 0} (walk walk' : PayloadBytes) (buffer : MainBuffer A) (pes_packets pes_packets' : List PesPacket) → bytes_ahead walk ≡ [] →
    bytes_ahead walk' ≡ [] →
    peak_of walk' buffer pes_packets ≡ peak_of walk buffer pes_packets'
unfolding greatest_at
most_none walk walk' buffer pes_packets pes_packets' none none' = rw (none, none') refl

one_byte : (before after : ℕ → ℕ) (peak peak' rate rx rate' rx' due m d : ℕ) (pes_packets : List PesPacket) (left left' : List ℕ) → left ≡ d ∷ left' →
    Climbs (suc d) left' →
    rx' ≡ rx → rate' ≡ rate → ((x : ℕ) → d ≤ x → after x ≡ before x + one_buffered (removal_time rate rx due) x) →
    peak' ≡ max peak (before d + one_buffered (removal_time rate rx due) d) →
    max peak' (peak_ahead after rate' rx' (record { dts = due; size = m; front = 0 } ∷ pes_packets) left')
    ≡ max peak (peak_ahead before rate rx (record { dts = due; size = suc m; front = 0 } ∷ pes_packets) left)
one_byte before after peak peak' rate rx rate' rx' due m d pes_packets left left' ahead climbs same_rx same_rate counted best =
    rw (ahead, same_rx, same_rate) (omega (arith, best, byte_entered rate rx due m pes_packets before after d left' climbs counted))

-- A byte moves from one buffer into the next.
pub most_byte : {A : Type 0} (walk walk' : PayloadBytes) (buffer buffer' : MainBuffer A) (due m d : ℕ) (pes_packets : List PesPacket) →
    bytes_ahead walk ≡ d ∷ bytes_ahead walk' → last_of walk' ≡ d → drain_of walk' ≡ drain_of walk → walk'.rate ≡ walk.rate →
    ((x : ℕ) → d ≤ x → fullness_at buffer' x ≡ fullness_at buffer x + one_buffered buffer.current.until x) →
    buffer'.peak ≡ max buffer.peak (fullness_at buffer d + one_buffered buffer.current.until d) →
    buffer.current.until ≡ removal_time walk.rate (drain_of walk) due →
    peak_of walk' buffer' (record { dts = due; size = m; front = 0 } ∷ pes_packets) ≡ peak_of walk buffer
    (record { dts = due; size = suc m; front = 0 } ∷ pes_packets)
most_byte walk walk' buffer buffer' due m d pes_packets ahead last drain rate there peak until =
    let climbs : Climbs (suc d) (bytes_ahead walk') = subst (λ (n : ℕ). Climbs (suc n) (bytes_ahead walk')) last (bytes_climb walk') in
    let counted : (x : ℕ) → d ≤ x → fullness_at buffer' x ≡ fullness_at buffer x + one_buffered (removal_time walk.rate (drain_of walk) due) x =
    λ x le. let one = ap (λ (n : ℕ). one_buffered n x) until in omega (arith, there x le, one) in
    let best : buffer'.peak ≡ max buffer.peak (fullness_at buffer d + one_buffered (removal_time walk.rate (drain_of walk) due) d) =
    (let one = ap (λ (n : ℕ). one_buffered n d) until in omega (arith, peak, one)) in
    one_byte (fullness_at buffer) (fullness_at buffer') buffer.peak buffer'.peak walk.rate (drain_of walk) walk'.rate (drain_of walk') due m d pes_packets
    (bytes_ahead walk) (bytes_ahead walk') ahead climbs drain rate counted best

-- The PES packet is whole.
pub most_whole : {A : Type 0} (walk : PayloadBytes) (buffer : MainBuffer A) (due : ℕ) (pes_packets : List PesPacket) →
    peak_of walk buffer pes_packets ≡ peak_of walk buffer (record { dts = due; size = 0; front = 0 } ∷ pes_packets)
most_whole walk buffer due pes_packets =
    ap (max buffer.peak) (sym (text_entered walk.rate (drain_of walk) due pes_packets (fullness_at buffer) (bytes_ahead walk)))

-- A PES packet begins.
pub most_begun : {A : Type 0} (walk : PayloadBytes) (buffer buffer' : MainBuffer A) (pes_packets : List PesPacket) →
    ((x : ℕ) → fullness_at buffer' x ≡ fullness_at buffer x) →
    buffer'.peak ≡ buffer.peak → peak_of walk buffer' pes_packets ≡ peak_of walk buffer pes_packets
most_begun walk buffer buffer' pes_packets there peak =
    let ahead = greatest_ext (λ x. fullness_at buffer' x + mb_fullness walk.rate (drain_of walk) x pes_packets (bytes_ahead walk))
    (λ x. fullness_at buffer x + mb_fullness walk.rate (drain_of walk) x pes_packets (bytes_ahead walk)) (bytes_ahead walk) (λ x. omega (arith, there x)) in
    omega (arith, peak, ahead)

-- Whether the first i + 1 elements pass a test.
pub all_next : (p : ℕ → Bool) (i : ℕ) (ds : List ℕ) (d : ℕ) (rest : List ℕ) → drop i ds ≡ d ∷ rest →
    list_all p (take (suc i) ds) ≡ (list_all p (take i ds) && p d)
all_next p zero [] d rest e = cc
all_next p zero (x ∷ ds) d rest e =
    let same : x ≡ d = cc in
    rw same (elim (cases_Bool (p d)) [ inl y ↦ rw y refl | inr n ↦ rw n refl ])
all_next p (suc i) [] d rest e = cc
all_next p (suc i) (x ∷ ds) d rest e =
    rw (all_next p i ds d rest e) (elim (cases_Bool (p x)) [ inl y ↦ rw y refl | inr n ↦ rw n refl ])

pub drop_next : (i : ℕ) (ds : List ℕ) (d : ℕ) (rest : List ℕ) → drop i ds ≡ d ∷ rest → drop (suc i) ds ≡ rest
drop_next zero [] d rest e = cc
drop_next zero (x ∷ ds) d rest e = cc
drop_next (suc i) [] d rest e = cc
drop_next (suc i) (x ∷ ds) d rest e = drop_next i ds d rest e

pub there_next : (i : ℕ) (ds : List ℕ) (d : ℕ) (rest : List ℕ) → drop i ds ≡ d ∷ rest → suc i ≤ length ds
there_next zero [] d rest e = absurd (let no : ⊥ = cc in no)
there_next zero (x ∷ ds) d rest e = omega arith
there_next (suc i) [] d rest e = absurd (let no : ⊥ = cc in no)
there_next (suc i) (x ∷ ds) d rest e = omega (arith, there_next i ds d rest e)

-- No element is left.
pub none_next : (i : ℕ) (ds : List ℕ) → i ≤ length ds → drop i ds ≡ [] → length ds ≡ i
none_next zero [] le e = refl
none_next zero (x ∷ ds) le e = cc
none_next (suc i) [] le e = omega (arith, le)
none_next (suc i) (x ∷ ds) le e = let rest : i ≤ length ds = omega (arith, le) in ap suc (none_next i ds rest e)

-- All bytes are in time if the last byte is.
pub last_decides : (b : Bool) (last d limit : ℕ) → last ≤ d → ((b || nat_le (last * 720000) limit) && nat_le (d * 720000) limit) ≡ nat_le (d * 720000) limit
last_decides b last d limit le = elim (cases_Bool (nat_le (d * 720000) limit)) [
  | inl in_time ↦
      let low : d * 720000 ≤ limit = leb-true (d * 720000) limit in_time in
      let before : nat_le (last * 720000) limit ≡ true = le-leb (last * 720000) limit (omega (arith, low)) in
      rw (in_time, before) (elim (cases_Bool b) [ inl y ↦ rw y refl | inr n ↦ rw n refl ])
  | inr late ↦ rw late (elim (cases_Bool b) [
    | inl y ↦ rw y refl
    | inr n ↦ rw n (elim (cases_Bool (nat_le (last * 720000) limit)) [ inl y ↦ rw y refl | inr n ↦ rw n refl ])
  ])
]

pub none_of_some : (i : ℕ) → nat_eq (suc i) 0 ≡ false
none_of_some i = grind (arith, nat_tests)
