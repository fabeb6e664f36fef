-- The place of a unit's bytes in its stream, and when the bytes leave the transport buffer.
use Rattle.std.proofs.Common.{◌≡◌, ◌≤◌, ℕ, zero, suc, ◌+◌, ◌-◌, ◌*◌, nat_eq, true, List, [], ◌∷◌, ◌++◌, length, map, take, drop, slice_get, Some, All}
use Rattle.std.proofs.Common.{refl, sym, ap, subst, ◌∙◌, arith}
use Rattle.std.specs.List.{concat, starts_with}
use Rattle.std.proofs.lemmas.Bool.Decides.{Decides-eqb}
use Rattle.std.proofs.Math.Seq.{take-append_seam}
use Rattle.std.proofs.lemmas.List.{length-append, length-drop, length-take, take-append-le, drop-drop}
use Rattle.std.proofs.lemmas.Slice.Eq.{starts_is}
use Rattle.ts_packet.specs.PidList.{Entry, payload_of}
use Rattle.slot_contents.specs.Contents.{payload_at}
use Rattle.unit_queue.specs.Payloads.{piece_in}
use Rattle.unit_timing.specs.Arrived.{AllLeft}
use Rattle.unit_timing.specs.LongestStay.{WaitsAtMost}
use Rattle.unit_timing.specs.Transport.{of_payloads}
use Rattle.mux_core.proofs.PutUnits.{bytes_in}

-- Bytes within the first of two joined lists.
within : (xs ys : List ℕ) (a n : ℕ) → a + n ≤ length xs → take n (drop a (xs ++ ys)) ≡ take n (drop a xs)
within xs ys zero n le = take-append-le n xs ys (omega (arith, le))
within [] ys (suc a) n le = absurd (omega (arith, le))
within (x ∷ xs) ys (suc a) n le = within xs ys a n (omega (arith, le))

-- The place of a list in the joined lists.
one_of : (xss : List (List ℕ)) (xs : List ℕ) (i : ℕ) → slice_get xss i ≡ Some xs → take (length xs) (drop (length (concat (take i xss))) (concat xss)) ≡ xs
one_of [] xs i is = absurd (let no : ⊥ = cc in no)
one_of (y ∷ yss) xs zero is =
    let same : y ≡ xs = cc in
    subst (λ (z : List ℕ). take (length z) (y ++ concat yss) ≡ z) same (take-append_seam y (concat yss))
one_of (y ∷ yss) xs (suc i) is =
    let before : length (y ++ concat (take i yss)) ≡ length y + length (concat (take i yss)) = length-append y (concat (take i yss)) in
    ap (λ (n : ℕ). take (length xs) (drop n (y ++ concat yss))) before
    ∙ ap (take (length xs)) (sym (drop-drop (length (concat (take i yss))) (length y) (y ++ concat yss)))
    ∙ ap (λ (z : List ℕ). take (length xs) (drop (length (concat (take i yss))) z)) (dropped y (concat yss))
    ∙ one_of yss xs i is
  where
    dropped : (ys zs : List ℕ) → drop (length ys) (ys ++ zs) ≡ zs
    dropped [] zs = refl
    dropped (x ∷ ys) zs = dropped ys zs

-- A PES packet lies at its place in the payloads that carry it.
pub unit_bytes : (pes : List (List ℕ)) (p payloads : List ℕ) (i : ℕ) → starts_with nat_eq (concat pes) payloads ≡ true → slice_get pes i ≡ Some p →
    length (concat (take i pes)) + length p ≤ length payloads → take (length p) (drop (length (concat (take i pes))) payloads) ≡ p
unit_bytes pes p payloads i carried is le =
    let parts = (starts_is Decides-eqb (concat pes) payloads (starts_with nat_eq (concat pes) payloads) refl).0 carried in
    sym (within payloads (drop (length payloads) (concat pes)) (length (concat (take i pes))) (length p) le)
    ∙ ap (λ (z : List ℕ). take (length p) (drop (length (concat (take i pes))) z)) (sym parts)
    ∙ one_of pes p i is

-- Departures

-- The bytes of a due unit have left.
pub unit_left : {X : Type 0} (dts : X → ℕ) (pes : X → List ℕ) (front : X → ℕ) (rate r n : ℕ) (us : List X) (u : X) (i : ℕ) (left : List ℕ) →
    AllLeft rate r n (map (λ x. record { dts = dts x; size = length (pes x); front = front x }) us) left → slice_get us i ≡ Some u →
    dts u * rate ≤ n * 135360000 →
    (length (pes u) ≤ length (drop (length (concat (take i (map pes us)))) left))
    × All (λ d. d * 720000 ≤ dts u * rate * r) (take (length (pes u)) (drop (length (concat (take i (map pes us)))) left))
unfolding AllLeft
unit_left dts pes front rate r n [] u i left all is due = absurd (let no : ⊥ = cc in no)
unit_left {X} dts pes front rate r n (x ∷ us) u zero left all is due =
    let same : x ≡ u = cc in
    subst (λ (y : X). (length (pes y) ≤ length left) × All (λ d. d * 720000 ≤ dts y * rate * r) (take (length (pes y)) left)) same
    (all.0 (subst (λ (y : X). dts y * rate ≤ n * 135360000) (sym same) due))
unit_left {X} dts pes front rate r n (x ∷ us) u (suc i) left all is due =
    let before : length (pes x ++ concat (take i (map pes us))) ≡ length (pes x) + length (concat (take i (map pes us))) =
    length-append (pes x) (concat (take i (map pes us))) in
    let there : drop (length (pes x ++ concat (take i (map pes us)))) left ≡ drop (length (concat (take i (map pes us)))) (drop (length (pes x)) left) =
    ap (λ (k : ℕ). drop k left) before ∙ sym (drop-drop (length (concat (take i (map pes us)))) (length (pes x)) left) in
    subst (λ (l : List ℕ). (length (pes u) ≤ length l) × All (λ d. d * 720000 ≤ dts u * rate * r) (take (length (pes u)) l)) (sym there)
    (unit_left dts pes front rate r n us u i (drop (length (pes x)) left) all.1 is due)

-- The time for which the bytes of one unit wait for its stamp
pub unit_stays : {X : Type 0} (dts : X → ℕ) (pes : X → List ℕ) (front : X → ℕ) (wait rate r : ℕ) (us : List X) (u : X) (i : ℕ) (times : List ℕ) →
    WaitsAtMost wait rate r (map (λ x. record { dts = dts x; size = length (pes x); front = front x }) us) times → slice_get us i ≡ Some u →
    All (λ t. dts u * rate * r ≤ t * 720000 + wait * rate * r) (take (length (pes u)) (drop (length (concat (take i (map pes us)))) times))
unfolding WaitsAtMost
unit_stays dts pes front wait rate r [] u i times all is = absurd (let no : ⊥ = cc in no)
unit_stays {X} dts pes front wait rate r (x ∷ us) u zero times all is =
    let same : x ≡ u = cc in
    subst (λ (y : X). All (λ t. dts y * rate * r ≤ t * 720000 + wait * rate * r) (take (length (pes y)) times)) same all.0
unit_stays {X} dts pes front wait rate r (x ∷ us) u (suc i) times all is =
    let before : length (pes x ++ concat (take i (map pes us))) ≡ length (pes x) + length (concat (take i (map pes us))) =
    length-append (pes x) (concat (take i (map pes us))) in
    let there : drop (length (pes x ++ concat (take i (map pes us)))) times ≡ drop (length (concat (take i (map pes us)))) (drop (length (pes x)) times) =
    ap (λ (k : ℕ). drop k times) before ∙ sym (drop-drop (length (concat (take i (map pes us)))) (length (pes x)) times) in
    subst (λ (l : List ℕ). All (λ t. dts u * rate * r ≤ t * 720000 + wait * rate * r) (take (length (pes u)) l)) (sym there)
    (unit_stays dts pes front wait rate r us u i (drop (length (pes x)) times) all.1 is)

-- No more bytes leave than arrived.
pub left_few : (es : List Entry) (ds : List ℕ) →
    length (of_payloads (map (λ entry. record { slot = entry.index; size = length (payload_of entry.packet) }) es) ds) ≤ length
    (concat (map (λ entry. payload_of entry.packet) es))
unfolding of_payloads
left_few [] ds = omega arith
left_few (e ∷ es) ds =
    let size = length (payload_of e.packet) in
    let first = drop (188 - length (payload_of e.packet)) (take 188 ds) in
    let rest = of_payloads (map (λ entry. record { slot = entry.index; size = length (payload_of entry.packet) }) es) (drop 188 ds) in
    omega (
      arith,
      length-append first rest,
      length-drop (188 - length (payload_of e.packet)) (take 188 ds),
      length-take 188 ds,
      left_few es (drop 188 ds),
      length-append (payload_of e.packet) (concat (map (λ entry. payload_of entry.packet) es)),
    )

-- Pieces have as many bytes as the payloads.
pub piece_bytes : (es : List Entry) → bytes_in (map (λ e. piece_in (payload_at e)) es) ≡ length (concat (map (λ entry. payload_of entry.packet) es))
unfolding bytes_in
piece_bytes [] = refl
piece_bytes (e ∷ es) = omega (arith, piece_bytes es, length-append (payload_of e.packet) (concat (map (λ entry. payload_of entry.packet) es)))
