-- Payloads in consecutive packets on one PID, as slots.
use Rattle.std.proofs.Common.{◌≡◌, ℕ, suc, ◌+◌, ◌%◌, ◌^◌, ◌<◌, ◌≤◌, ◌==◌, true, false, List, [], ◌∷◌, ◌++◌, length, map, Option, Some, None, slice_get, refl}
use Rattle.std.proofs.Common.{sym, ap, ap₂, subst, ◌∙◌, arith, All, eq-eqb}
use Rattle.std.proofs.lemmas.Bool.{false≢true}
use Rattle.ts_packet.specs.Beginnings.{room_of}
use Rattle.ts_packet.specs.Packets.{payload_packet}
use Rattle.slot_contents.specs.Contents.{Content, PayloadContent, NullContent, ContentFits, Payload, Piece, packet_of, run_bytes, payload_in, payloads_in}
use Rattle.slot_contents.specs.Contents.{NumberedBy, Numbered}
use Rattle.slot_contents.specs.RunLaws.{Fits}
use Rattle.description.proofs.Pids.{at_place}
use Rattle.unit_queue.specs.Payloads.{piece_in}
use Rattle.laws_run.specs.CarriedBack.{packets_from}

-- The packets of payloads; the first packet has number s on its PID.
unfoldable pub row : ℕ → ℕ → List Piece → List ℕ
row pid s [] = []
row pid s (p ∷ ps) = payload_packet pid p.start (s % 16) p.bytes ++ row pid (suc s) ps

-- The same packets as slots: slot s has payload number s.
unfoldable pub piece_content : ℕ → ℕ → Option Piece → Content
piece_content pid s None = NullContent
piece_content pid s (Some p) = PayloadContent pid s p.start p.bytes

abbrev pub row_content : ℕ → List Piece → ℕ → Content
row_content pid ps s = piece_content pid s (slice_get ps s)

-- Payloads that fit their packets

abbrev pub PieceFits : Piece → Type 0
PieceFits p = (0 < length p.bytes) × (length p.bytes ≤ room_of p.start)

pub row_fits : (pid : ℕ) (ps : List Piece) → pid < 2 ^ 13 → All PieceFits ps → Fits (row_content pid ps)
unfolding piece_content
row_fits pid ps low h s = by (slice_get ps s) refl
  where
    by : (o : Option Piece) → slice_get ps s ≡ o → ContentFits (piece_content pid s o)
    by None e = tt
    by (Some p) e = let fits = at_place PieceFits ps s p h e in (low, fits.0, fits.1)

-- The payloads of each slot; `qs` are the payloads from slot s on

abbrev IsRest : List Piece → ℕ → List Piece → Type 0
IsRest ps s qs = (i : ℕ) → slice_get ps (s + i) ≡ slice_get qs i

rest_after : (ps : List Piece) (s : ℕ) (q : Piece) (qs : List Piece) → IsRest ps s (q ∷ qs) → IsRest ps (suc s) qs
rest_after ps s q qs h i = let e : suc s + i ≡ s + suc i = omega arith in ap (slice_get ps) e ∙ h (suc i)

here : (pid : ℕ) (ps : List Piece) (s : ℕ) (q : Piece) (qs : List Piece) → IsRest ps s (q ∷ qs) → row_content pid ps s ≡ PayloadContent pid s q.start q.bytes
unfolding piece_content
here pid ps s q qs h = let z : s ≡ s + 0 = omega arith in ap (piece_content pid s) (ap (slice_get ps) z ∙ h 0)

row_bytes_from : (pid : ℕ) (ps : List Piece) (s : ℕ) (qs : List Piece) → IsRest ps s qs → run_bytes (row_content pid ps) s (length qs) ≡ row pid s qs
unfolding run_bytes row packet_of
row_bytes_from pid ps s [] h = refl
row_bytes_from pid ps s (q ∷ qs) h =
    ap₂ (λ (x ys : List ℕ). x ++ ys) (ap packet_of (here pid ps s q qs h)) (row_bytes_from pid ps (suc s) qs (rest_after ps s q qs h))

one_payload : (pid s : ℕ) (q : Piece) → payload_in pid s (PayloadContent pid s q.start q.bytes) ≡ record { index = s; start = q.start; bytes = q.bytes } ∷ []
one_payload pid s q = let y : (pid == pid) ≡ true = eq-eqb pid pid refl in rw y refl

payloads_more : (pid : ℕ) (ps : List Piece) (s : ℕ) (q : Piece) (qs : List Piece) → IsRest ps s (q ∷ qs) →
    payloads_in pid (row_content pid ps) s (suc (length qs)) ≡ record { index = s; start = q.start; bytes = q.bytes } ∷ payloads_in pid (row_content pid ps)
    (suc s) (length qs)
unfolding payloads_in
payloads_more pid ps s q qs h =
    ap (λ (xs : List Payload). xs ++ payloads_in pid (row_content pid ps) (suc s) (length qs))
    (ap (payload_in pid s) (here pid ps s q qs h) ∙ one_payload pid s q)

row_pieces_from : (pid : ℕ) (ps : List Piece) (s : ℕ) (qs : List Piece) → IsRest ps s qs →
    map piece_in (payloads_in pid (row_content pid ps) s (length qs)) ≡ qs
unfolding payloads_in
row_pieces_from pid ps s [] h = refl
row_pieces_from pid ps s (q ∷ qs) h =
    ap (map piece_in) (payloads_more pid ps s q qs h) ∙ ap (λ (xs : List Piece). q ∷ xs) (row_pieces_from pid ps (suc s) qs (rest_after ps s q qs h))

row_indices_from : (pid : ℕ) (ps : List Piece) (s : ℕ) (qs : List Piece) → IsRest ps s qs →
    map (λ p. p.index) (payloads_in pid (row_content pid ps) s (length qs)) ≡ packets_from s (length qs)
unfolding payloads_in packets_from
row_indices_from pid ps s [] h = refl
row_indices_from pid ps s (q ∷ qs) h =
    ap (map (λ (p : Payload). p.index)) (payloads_more pid ps s q qs h)
    ∙ ap (λ (xs : List ℕ). s ∷ xs) (row_indices_from pid ps (suc s) qs (rest_after ps s q qs h))

row_numbered_from : (pid : ℕ) (ps : List Piece) (s : ℕ) (qs : List Piece) → IsRest ps s qs → Numbered pid (row_content pid ps) s (length qs) s
unfolding Numbered
row_numbered_from pid ps s [] h = tt
row_numbered_from pid ps s (q ∷ qs) h =
    let e : suc s ≡ s + 1 = omega arith in
    let y : (pid == pid) ≡ true = eq-eqb pid pid refl in
    let rest : Numbered pid (row_content pid ps) (suc s) (length qs) (s + 1) =
    subst (Numbered pid (row_content pid ps) (suc s) (length qs)) e (row_numbered_from pid ps (suc s) qs (rest_after ps s q qs h)) in
    subst (λ (c : Content). NumberedBy pid c s (Numbered pid (row_content pid ps) (suc s) (length qs))) (sym (here pid ps s q qs h))
    (λ t. (refl, rest), λ f. absurd (false≢true (sym f ∙ y)))

-- The payloads from slot 0 on

all_rest : (ps : List Piece) → IsRest ps 0 ps
all_rest ps i = let z : 0 + i ≡ i = omega arith in ap (slice_get ps) z

pub row_bytes : (pid : ℕ) (ps : List Piece) → run_bytes (row_content pid ps) 0 (length ps) ≡ row pid 0 ps
row_bytes pid ps = row_bytes_from pid ps 0 ps (all_rest ps)

pub row_pieces : (pid : ℕ) (ps : List Piece) → map piece_in (payloads_in pid (row_content pid ps) 0 (length ps)) ≡ ps
row_pieces pid ps = row_pieces_from pid ps 0 ps (all_rest ps)

pub row_indices : (pid : ℕ) (ps : List Piece) → map (λ p. p.index) (payloads_in pid (row_content pid ps) 0 (length ps)) ≡ packets_from 0 (length ps)
row_indices pid ps = row_indices_from pid ps 0 ps (all_rest ps)

pub row_numbered : (pid : ℕ) (ps : List Piece) → Numbered pid (row_content pid ps) 0 (length ps) 0
row_numbered pid ps = row_numbered_from pid ps 0 ps (all_rest ps)

other_silent : (pid other s : ℕ) (o : Option Piece) → (pid == other) ≡ false → payload_in other s (piece_content pid s o) ≡ []
unfolding piece_content
other_silent pid other s None n = refl
other_silent pid other s (Some p) n = rw n refl

-- A row has no payload on another PID.
pub row_silent : (pid other s : ℕ) (ps : List Piece) → (pid == other) ≡ false → payload_in other s (row_content pid ps s) ≡ []
row_silent pid other s ps n = other_silent pid other s (slice_get ps s) n
