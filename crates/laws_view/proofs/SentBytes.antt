-- The packets of units, unit by unit
use Rattle.std.proofs.Common.{◌≡◌, ◌∙◌, sym, ℕ, zero, suc, ◌+◌, ◌*◌, ◌≤◌, Bool, true, false, List, [], ◌∷◌, ◌++◌, length, map, take, drop, replicate, refl, ap}
use Rattle.std.proofs.Common.{subst, arith, All}
use Rattle.std.specs.List.{concat}
use Rattle.std.proofs.Math.Seq.{take-add}
use Rattle.std.proofs.lemmas.List.{drop-append-le, length-append, length-drop, map-append}
use Rattle.std.proofs.lemmas.List.Elements.{All-nil, All-cons, All-head, All-tail}
use Rattle.clock27.specs.Units.{byte_units_at_1bps, slot_units_at_1bps}
use Rattle.pes_packet.specs.AccessUnits.{AccessUnit}
use Rattle.pes_packet.specs.Encoding.{pes_packet_bytes}
use Rattle.unit_timing.specs.Arrived.{AllLeft}
use Rattle.unit_timing.specs.MainBuffer.{mb_fullness}
use Rattle.unit_timing.specs.Schedule.{Packet}
use Rattle.unit_timing.proofs.MainBufferBytes.{kept, kept-append}
use Rattle.tstd.specs.Carried.{timed_pes_packets}
use Rattle.laws_view.specs.CarriedStreams.{BegunPayload, CutUnit, IsCut, begun, cut_pieces, cut_senders, cut_units}
use Rattle.laws_view.proofs.KeptBytes.{kept_each, total}

-- The sizes of payloads
abbrev pub sizes_of : List BegunPayload → List ℕ
sizes_of ps = map (λ (p : BegunPayload). length p.bytes) ps

abbrev pub packet_sizes : List Packet → List ℕ
packet_sizes ps = map (λ (p : Packet). p.size) ps

begun_sizes : (start : Bool) (bs : List (List ℕ)) → sizes_of (begun start bs) ≡ map (λ (b : List ℕ). length b) bs
unfolding begun
begun_sizes start [] = refl
begun_sizes start (b ∷ bs) = ap (λ (l : List ℕ). length b ∷ l) (begun_sizes false bs)

total_joined : (bs : List (List ℕ)) → total (map (λ (b : List ℕ). length b) bs) ≡ length (concat bs)
unfolding total
total_joined [] = refl
total_joined (b ∷ bs) = omega (arith, total_joined bs, length-append b (concat bs))

many_sizes : (bs : List (List ℕ)) → length (map (λ (b : List ℕ). length b) bs) ≡ length bs
many_sizes [] = refl
many_sizes (b ∷ bs) = ap (λ (n : ℕ). suc n) (many_sizes bs)

-- The sizes of the payloads of a unit
abbrev payload_sizes : List (List ℕ) → List ℕ
payload_sizes bs = map (λ (b : List ℕ). length b) bs

all_sizes : (c : CutUnit) (cuts : List CutUnit) → sizes_of (cut_pieces (c ∷ cuts)) ≡ payload_sizes c.payloads ++ sizes_of (cut_pieces cuts)
all_sizes c cuts =
    map-append (λ (p : BegunPayload). length p.bytes) (begun true c.payloads) (cut_pieces cuts)
    ∙ ap (λ (ns : List ℕ). ns ++ sizes_of (cut_pieces cuts)) (begun_sizes true c.payloads)

unit_total : (id base0 : ℕ) (c : CutUnit) → IsCut id base0 c → total (payload_sizes c.payloads) ≡ length (pes_packet_bytes id base0 c.unit)
unit_total id base0 c is = total_joined c.payloads ∙ ap (λ (b : List ℕ). length b) is.joined

drop_none : (k : ℕ) → drop {A = ℕ} k [] ≡ []
drop_none zero = refl
drop_none (suc k) = refl

drop_two : (n m : ℕ) (xs : List ℕ) → drop (n + m) xs ≡ drop m (drop n xs)
drop_two zero m xs = let same : 0 + m ≡ m = omega arith in ap (λ (k : ℕ). drop k xs) same
drop_two (suc n) m [] = drop_none (suc n + m) ∙ sym (drop_none m)
drop_two (suc n) m (x ∷ xs) = let same : suc n + m ≡ suc (n + m) = omega arith in ap (λ (k : ℕ). drop k (x ∷ xs)) same ∙ drop_two n m xs

-- The packets after the first unit have the sizes of the later payloads.
later_sizes : (qs : List ℕ) (ps : List Packet) (rest : List ℕ) → packet_sizes ps ≡ take (length ps) (qs ++ rest) →
    packet_sizes (drop (length qs) ps) ≡ take (length (drop (length qs) ps)) rest
later_sizes [] ps rest e = e
later_sizes (q ∷ qs) [] rest e = refl
later_sizes (q ∷ qs) (p ∷ ps) rest e = later_sizes qs ps rest (let others : packet_sizes ps ≡ take (length ps) (qs ++ rest) = cc in others)

none_taken : (n : ℕ) (left : List ℕ) → length left ≡ 0 → take n left ≡ []
none_taken zero left none = refl
none_taken (suc n) [] none = refl
none_taken (suc n) (d ∷ left) none = absurd (omega (arith, none))

kept_none : (rate r x due : ℕ) → kept rate r x due [] ≡ 0
unfolding kept
kept_none rate r x due = refl

none_each : (rate r x : ℕ) (us : List AccessUnit) (left : List ℕ) → kept_each rate r x us [] left ≡ 0
unfolding kept_each
none_each rate r x [] left = refl
none_each rate r x (u ∷ us) left = refl

-- The bytes of the first unit in the main buffer, and the bytes of the later units
pub record FirstKept (rate r x : ℕ) (u : AccessUnit) (qs : List ℕ) (us : List AccessUnit) (ps : List Packet) (left : List ℕ) : Type 0 where
  pub is : kept_each rate r x (replicate (length qs) u ++ us) ps left
      ≡ kept rate r x u.dts (take (total qs) left) + kept_each rate r x us (drop (length qs) ps) (drop (total qs) left)
  pub many : length (drop (total qs) left) ≡ total (packet_sizes (drop (length qs) ps))

first_kept : (rate r x : ℕ) (u : AccessUnit) (qs : List ℕ) (us : List AccessUnit) (ps : List Packet) (rest left : List ℕ) →
    packet_sizes ps ≡ take (length ps) (qs ++ rest) →
    length left ≡ total (packet_sizes ps) → FirstKept rate r x u qs us ps left
unfolding total kept_each kept
first_kept rate r x u [] us ps rest left e many = record { is = omega (arith, kept_none rate r x u.dts); many = many }
first_kept rate r x u (q ∷ qs) us [] rest left e many =
    let nothing : take (q + total qs) left ≡ [] = none_taken (q + total qs) left many in
    let none : kept rate r x u.dts (take (q + total qs) left) ≡ 0 = ap (λ (l : List ℕ). kept rate r x u.dts l) nothing ∙ kept_none rate r x u.dts in
    record {
      is = omega (arith, none, none_each rate r x (replicate (length (q ∷ qs)) u ++ us) left, none_each rate r x us (drop (q + total qs) left));
      many = omega (arith, many, length-drop (q + total qs) left);
    }
first_kept rate r x u (q ∷ qs) us (p ∷ ps) rest left e many =
    let size : p.size ≡ q = cc in
    let others : packet_sizes ps ≡ take (length ps) (qs ++ rest) = cc in
    let fewer : length (drop q left) ≡ total (packet_sizes ps) = omega (arith, many, size, length-drop q left) in
    let k = first_kept rate r x u qs us ps rest (drop q left) others fewer in
    let two : kept rate r x u.dts (take (q + total qs) left) ≡ kept rate r x u.dts (take q left) + kept rate r x u.dts (take (total qs) (drop q left)) =
    ap (λ (l : List ℕ). kept rate r x u.dts l) (take-add q (total qs) left) ∙ kept-append rate r x u.dts (take q left) (take (total qs) (drop q left)) in
    let last : kept_each rate r x us (drop (length qs) ps) (drop (q + total qs) left) ≡ kept_each rate r x us (drop (length qs) ps)
    (drop (total qs) (drop q left)) =
    ap (λ (l : List ℕ). kept_each rate r x us (drop (length qs) ps) l) (drop_two q (total qs) left) in
    record { is = rw size (omega (arith, k.is, two, last)); many = ap (λ (l : List ℕ). length l) (drop_two q (total qs) left) ∙ k.many }

-- The main buffer holds all bytes as the model's does.
pub kept_units : (rate r x id base0 : ℕ) (cuts : List CutUnit) (ps : List Packet) (left : List ℕ) → All (IsCut id base0) cuts →
    packet_sizes ps ≡ take (length ps) (sizes_of (cut_pieces cuts)) → length left ≡ total (packet_sizes ps) →
    kept_each rate r x (cut_senders cuts) ps left ≡ mb_fullness rate r x (timed_pes_packets id base0 (cut_units cuts)) left
unfolding mb_fullness kept
kept_units rate r x id base0 [] ps left cut e many = none ps
  where
    none : (ps : List Packet) → kept_each rate r x [] ps left ≡ 0
    none [] = unfold kept_each in refl
    none (p ∷ ps) = unfold kept_each in refl
kept_units rate r x id base0 (c ∷ cuts) ps left cut e many =
    let qs : List ℕ = payload_sizes c.payloads in
    let sizes : packet_sizes ps ≡ take (length ps) (qs ++ sizes_of (cut_pieces cuts)) = e ∙ ap (λ (ns : List ℕ). take (length ps) ns) (all_sizes c cuts) in
    let k = first_kept rate r x c.unit qs (cut_senders cuts) ps (sizes_of (cut_pieces cuts)) left sizes many in
    let rest = kept_units rate r x id base0 cuts (drop (length qs) ps) (drop (total qs) left) (All-tail (IsCut id base0) c cuts cut)
    (later_sizes qs ps (sizes_of (cut_pieces cuts)) sizes) k.many in
    let whole = unit_total id base0 c (All-head (IsCut id base0) c cuts cut) in
    let first = rw (many_sizes c.payloads, whole) at k.is in
    let more = rw (many_sizes c.payloads, whole) at rest in
    omega (arith, first, more)

-- The bytes of later packets are among the bytes of all packets.
pub kept_later : (rate r x : ℕ) (us : List AccessUnit) (ps qs : List Packet) (left left' : List ℕ) → length left ≡ total (packet_sizes ps) →
    kept_each rate r x (drop (length ps) us) qs left' ≤ kept_each rate r x us (ps ++ qs) (left ++ left')
unfolding kept_each total
kept_later rate r x us [] qs [] left' many = omega arith
kept_later rate r x us [] qs (d ∷ left) left' many = absurd (omega (arith, many))
kept_later rate r x [] (p ∷ ps) qs left left' many = none qs
  where
    none : (qs : List Packet) → kept_each rate r x [] qs left' ≤ 0
    none [] = unfold kept_each in (omega arith)
    none (q ∷ qs) = unfold kept_each in (omega arith)
kept_later rate r x (u ∷ us) (p ∷ ps) qs left left' many =
    let rest = kept_later rate r x us ps qs (drop p.size left) left' (omega (arith, many, length-drop p.size left)) in
    let after_it : kept_each rate r x us (ps ++ qs) (drop p.size (left ++ left')) ≡ kept_each rate r x us (ps ++ qs) (drop p.size left ++ left') =
    ap (λ (l : List ℕ). kept_each rate r x us (ps ++ qs) l) (drop-append-le p.size left left' (omega (arith, many))) in
    omega (arith, rest, after_it)

pub total_two : (ps qs : List Packet) → total (packet_sizes (ps ++ qs)) ≡ total (packet_sizes ps) + total (packet_sizes qs)
unfolding total
total_two [] qs = omega arith
total_two (p ∷ ps) qs = omega (arith, total_two ps qs)

-- The bytes of packets leave the transport buffer in time.

-- If a unit is due in n slots, the bytes of its packets leave by its decoding time.
unfoldable pub TimelyEach : ℕ → ℕ → ℕ → List AccessUnit → List Packet → List ℕ → Type 0
TimelyEach rate r n us [] left = Unit {0}
TimelyEach rate r n [] (p ∷ ps) left = Unit {0}
TimelyEach rate r n (u ∷ us) (p ∷ ps) left =
    (u.dts * rate ≤ n * slot_units_at_1bps → All (λ d. d * byte_units_at_1bps ≤ u.dts * rate * r) (take p.size left)) × TimelyEach rate r n us ps
    (drop p.size left)

all_parts : (m : ℕ) (xs ys : List ℕ) → All (λ d. d * 720000 ≤ m) (xs ++ ys) → All (λ d. d * 720000 ≤ m) xs × All (λ d. d * 720000 ≤ m) ys
all_parts m [] ys h = (All-nil (λ d. d * 720000 ≤ m), h)
all_parts m (x ∷ xs) ys h =
    let rest = all_parts m xs ys (All-tail (λ d. d * 720000 ≤ m) x (xs ++ ys) h) in
    (All-cons (λ d. d * 720000 ≤ m) x xs (All-head (λ d. d * 720000 ≤ m) x (xs ++ ys) h) rest.0, rest.1)

all_split : (m q n : ℕ) (left : List ℕ) → All (λ d. d * 720000 ≤ m) (take (q + n) left) →
    All (λ d. d * 720000 ≤ m) (take q left) × All (λ d. d * 720000 ≤ m) (take n (drop q left))
all_split m q n left h = all_parts m (take q left) (take n (drop q left)) (subst (λ (l : List ℕ). All (λ d. d * 720000 ≤ m) l) (take-add q n left) h)

first_timely : (rate r n : ℕ) (u : AccessUnit) (qs : List ℕ) (us : List AccessUnit) (ps : List Packet) (rest left : List ℕ) →
    packet_sizes ps ≡ take (length ps) (qs ++ rest) →
    (u.dts * rate ≤ n * slot_units_at_1bps → All (λ d. d * 720000 ≤ u.dts * rate * r) (take (total qs) left)) →
    TimelyEach rate r n us (drop (length qs) ps) (drop (total qs) left) → TimelyEach rate r n (replicate (length qs) u ++ us) ps left
unfolding total TimelyEach
first_timely rate r n u [] us ps rest left e h later = later
first_timely rate r n u (q ∷ qs) us [] rest left e h later = tt
first_timely rate r n u (q ∷ qs) us (p ∷ ps) rest left e h later =
    let size : p.size ≡ q = cc in
    let others : packet_sizes ps ≡ take (length ps) (qs ++ rest) = cc in
    let two : u.dts * rate ≤ n * slot_units_at_1bps →
    All (λ d. d * 720000 ≤ u.dts * rate * r) (take q left) × All (λ d. d * 720000 ≤ u.dts * rate * r) (take (total qs) (drop q left)) =
    λ due. all_split (u.dts * rate * r) q (total qs) left (h due) in
    let last : TimelyEach rate r n us (drop (length qs) ps) (drop (total qs) (drop q left)) =
    subst (λ (l : List ℕ). TimelyEach rate r n us (drop (length qs) ps) l) (drop_two q (total qs) left) later in
    rw size ((λ due. (two due).0), first_timely rate r n u qs us ps rest (drop q left) others (λ due. (two due).1) last)

pub timely_units : (rate r n id base0 : ℕ) (cuts : List CutUnit) (ps : List Packet) (left : List ℕ) → All (IsCut id base0) cuts →
    packet_sizes ps ≡ take (length ps) (sizes_of (cut_pieces cuts)) → AllLeft rate r n (timed_pes_packets id base0 (cut_units cuts)) left →
    TimelyEach rate r n (cut_senders cuts) ps left
unfolding AllLeft
timely_units rate r n id base0 [] ps left cut e all = none ps
  where
    none : (ps : List Packet) → TimelyEach rate r n [] ps left
    none [] = unfold TimelyEach in tt
    none (p ∷ ps) = unfold TimelyEach in tt
timely_units rate r n id base0 (c ∷ cuts) ps left cut e all =
    let u : AccessUnit = c.unit in
    let qs : List ℕ = payload_sizes c.payloads in
    let size : total qs ≡ length (pes_packet_bytes id base0 c.unit) = unit_total id base0 c (All-head (IsCut id base0) c cuts cut) in
    let sizes : packet_sizes ps ≡ take (length ps) (qs ++ sizes_of (cut_pieces cuts)) = e ∙ ap (λ (ns : List ℕ). take (length ps) ns) (all_sizes c cuts) in
    let rest : TimelyEach rate r n (cut_senders cuts) (drop (length qs) ps) (drop (total qs) left) =
    timely_units rate r n id base0 cuts (drop (length qs) ps) (drop (total qs) left) (All-tail (IsCut id base0) c cuts cut)
    (later_sizes qs ps (sizes_of (cut_pieces cuts)) sizes)
    (subst (λ (m : ℕ). AllLeft rate r n (timed_pes_packets id base0 (cut_units cuts)) (drop m left)) (sym size) all.1) in
    let whole : u.dts * rate ≤ n * slot_units_at_1bps → All (λ d. d * 720000 ≤ u.dts * rate * r) (take (total qs) left) =
    λ due. subst (λ (m : ℕ). All (λ d. d * 720000 ≤ u.dts * rate * r) (take m left)) (sym size) (all.0 due).1 in
    subst (λ (m : ℕ). TimelyEach rate r n (replicate m u ++ cut_senders cuts) ps left) (many_sizes c.payloads)
    (first_timely rate r n u qs (cut_senders cuts) ps (sizes_of (cut_pieces cuts)) left sizes whole rest)
