-- The packets of a PID whose counters and payloads are known.
use Rattle.std.proofs.Common.{◌≡◌, ℕ, zero, suc, ◌+◌, ◌*◌, ◌%◌, ◌<◌, ◌==◌, ◌&&◌, not, Bool, true, false, cond, List, [], ◌∷◌, length, map, take, drop, All}
use Rattle.std.proofs.Common.{Some, slice_get, refl, sym, ap, ap₂, subst, ◌∙◌, arith, eq-eqb, eqb-true, length-take, length-drop, mul-suc}
use Rattle.std.proofs.lemmas.Bool.{false≢true}
use Rattle.std.proofs.lemmas.List.Elements.{All-nil, All-cons, All-head, All-tail, All-append, All-take}
use Rattle.std.proofs.lemmas.List.Concat.{flat_map-cons}
use Rattle.std.specs.List.{flat_map}
use Rattle.std.specs.Simd.{first_chunks}
use Rattle.ts_packet.specs.declared.start.Start.{Start}
use Rattle.ts_packet.specs.declared.start.Start.TheVariants.{Continues, Begins, Access}
use Rattle.ts_packet.specs.Beginnings.{room_of}
use Rattle.ts_packet.proofs.PlainWritten.{start_again}
use Rattle.ts_packet.specs.PidList.{Entry, is_of_pid, pid_list}
use Rattle.slot_contents.specs.Contents.{Content, PayloadContent, PcrContent, NullContent, packet_of, view_of, run_bytes, entry_at, entries_in, Payload}
use Rattle.slot_contents.specs.Contents.{payloads_in, payload_entry, payload_entries, payload_at, Piece}
use Rattle.slot_contents.specs.RunLaws.{Fits}
use Rattle.slot_contents.proofs.Runs.{run_pid_list}
use Rattle.slot_contents.proofs.Counts.{payload_again, run_payload_entries}
use Rattle.unit_queue.specs.Payloads.{marked, piece_in}
use Rattle.laws_run.specs.Sent.{first_pieces}
use Rattle.laws_run.proofs.SendingPackets.{chunks_more, chunks_none}
use Rattle.laws_run.specs.PidLaws.{CarriesPieces, NumberedPayloads}
use Rattle.table_rounds.proofs.CarriedBytes.{counters as counters_follow}

-- The piece that a packet carries
abbrev pub piece_of : Entry → Piece
piece_of e = piece_in (payload_at e)

abbrev pub HasBytes : Piece → Type 0
HasBytes x = 0 < length x.bytes

-- Counters increase from this number.
abbrev Counts : ℕ → List Entry → Type 0
Counts k es = (j : ℕ) (e : Entry) → slice_get es j ≡ Some e → e.packet.header.continuity_counter ≡ (k + j) % 16

and_left : (a : Bool) → (a && not false) ≡ true → a ≡ true
and_left true e = refl
and_left false e = absurd cc

null_no : (pid : ℕ) → (pid == 8191) ≡ false → (8191 == pid) ≡ true → ⊥
null_no pid not_null y = false≢true (sym not_null ∙ eq-eqb pid 8191 (sym (eqb-true 8191 pid y)))

-- A packet on the PID with bytes carries its payload, with the number modulo 16 as counter.
entry_is : (pid s k : ℕ) (c : Content) → (pid == 8191) ≡ false → is_of_pid pid (view_of c) ≡ true → (view_of c).header.continuity_counter ≡ k % 16 →
    HasBytes (piece_of (entry_at s c)) → entry_at s c ≡ payload_entry pid k (payload_at (entry_at s c))
unfolding view_of packet_of
entry_is pid s k (PayloadContent other number start payload) not_null is counter some =
    let same : other ≡ pid = eqb-true other pid (and_left (other == pid) is) in
    let begins = start_again pid start (number % 16) payload in
    rw (same, begins, counter) refl
entry_is pid s k (PcrContent other pcr) not_null is counter some = absurd (omega (arith, some))
entry_is pid s k NullContent not_null is counter some = absurd (null_no pid not_null (and_left (8191 == pid) is))

counts_rest : (k : ℕ) (x : Entry) (es : List Entry) → Counts k (x ∷ es) → Counts (k + 1) es
counts_rest k x es c j e is = let n : k + suc j ≡ k + 1 + j = omega arith in c (suc j) e is ∙ ap (λ (i : ℕ). i % 16) n

listed_one : (pid s k : ℕ) (c : Content) (es : List Entry) → (pid == 8191) ≡ false →
    ((m : ℕ) → Counts m es → All HasBytes (map piece_of es) → es ≡ payload_entries pid m (map payload_at es)) →
    (t : Bool) → is_of_pid pid (view_of c) ≡ t → Counts k (cond t (entry_at s c ∷ es) es) → All HasBytes (map piece_of (cond t (entry_at s c ∷ es) es)) →
    cond t (entry_at s c ∷ es) es ≡ payload_entries pid k (map payload_at (cond t (entry_at s c ∷ es) es))
unfolding payload_entries
listed_one pid s k c es not_null rest false is counts some = rest k counts some
listed_one pid s k c es not_null rest true is counts some =
    let x : Entry = entry_at s c in
    let n : k + 0 ≡ k = omega arith in
    let here : x.packet.header.continuity_counter ≡ k % 16 = counts 0 x refl ∙ ap (λ (i : ℕ). i % 16) n in
    ap₂ (λ (y : Entry) (ys : List Entry). y ∷ ys) (entry_is pid s k c not_null is here (All-head HasBytes (piece_of x) (map piece_of es) some))
    (rest (k + 1) (counts_rest k x es counts) (All-tail HasBytes (piece_of x) (map piece_of es) some))

listed : (pid : ℕ) (content : ℕ → Content) (s n k : ℕ) → (pid == 8191) ≡ false → Counts k (entries_in pid content s n) →
    All HasBytes (map piece_of (entries_in pid content s n)) → entries_in pid content s n ≡ payload_entries pid k (map payload_at (entries_in pid content s n))
unfolding entries_in payload_entries
listed pid content s zero k not_null counts some = refl
listed pid content s (suc n) k not_null counts some =
    listed_one pid s k (content s) (entries_in pid content (suc s) n) not_null (λ m c h. listed pid content (suc s) n m not_null c h)
    (is_of_pid pid (view_of (content s))) refl counts some

-- The packets of a PID that carry pieces with bytes carry their payloads, numbered from 0.
pub carries_payloads : (pid n : ℕ) (content : ℕ → Content) (pieces : List Piece) → Fits content → (pid == 8191) ≡ false → All HasBytes pieces →
    CarriesPieces pid (run_bytes content 0 n) pieces →
    pid_list pid (run_bytes content 0 n) ≡ payload_entries pid 0 (map payload_at (pid_list pid (run_bytes content 0 n)))
carries_payloads pid n content pieces fits not_null some c =
    let bytes : List ℕ = run_bytes content 0 n in
    let is : pid_list pid bytes ≡ entries_in pid content 0 n = run_pid_list pid n content fits in
    let counts : Counts 0 (pid_list pid bytes) = λ j e at. let z : 0 + j ≡ j = omega arith in c.counters j e at ∙ ap (λ (i : ℕ). i % 16) (sym z) in
    let each : All HasBytes (map piece_of (pid_list pid bytes)) =
    subst (All HasBytes) (sym c.payloads) (All-take HasBytes (length (pid_list pid bytes)) pieces some) in
    subst (λ (es : List Entry). Counts 0 es → All HasBytes (map piece_of es) → es ≡ payload_entries pid 0 (map payload_at es)) (sym is)
    (λ a b. listed pid content 0 n 0 not_null a b) counts each

-- Each payload has bytes if the text needs all its payloads.
later_some : (k : ℕ) (text : List ℕ) → 184 * k < length text + 184 → All HasBytes (marked Continues (first_chunks 184 k text))
unfolding marked
later_some zero text h = All-nil HasBytes
later_some (suc k) text h =
    All-cons HasBytes (record { start = Continues; bytes = take 184 text }) (marked Continues (first_chunks 184 k (drop 184 text)))
    (omega (arith, h, length-take 184 text, mul-suc 184 k)) (later_some k (drop 184 text) (omega (arith, h, mul-suc 184 k, length-drop 184 text)))

-- A text has bytes, and needs all its payloads.
abbrev pub NeedsAll : Start → ℕ → List ℕ → Type 0
NeedsAll start k text = (0 < length text) × (184 * k + room_of start < length text + 368)

room_some : (start : Start) → 0 < room_of start
room_some Continues = omega arith
room_some Begins = omega arith
room_some Access = omega arith

pieces_some : (k : ℕ) (start : Start) (text : List ℕ) → NeedsAll start k text → All HasBytes (first_pieces start k text)
unfolding marked
pieces_some zero start text h = rw (chunks_none start text) (All-nil HasBytes)
pieces_some (suc k) start text h =
    rw (chunks_more start k text)
    (All-cons HasBytes (record { start = start; bytes = take (room_of start) text }) (marked Continues (first_chunks 184 k (drop (room_of start) text)))
    (omega (arith, h.0, room_some start, length-take (room_of start) text))
    (later_some k (drop (room_of start) text) (omega (arith, h.0, h.1, mul-suc 184 k, length-drop (room_of start) text))))

pub all_some : {X : Type 0} (start : X → Start) (text : X → List ℕ) (count : X → ℕ) (P : X → Type 0) (xs : List X) →
    ((x : X) → P x → NeedsAll (start x) (count x) (text x)) → All P xs → All HasBytes (flat_map (λ x. first_pieces (start x) (count x) (text x)) xs)
all_some start text count P [] fits h = All-nil HasBytes
all_some {X} start text count P (x ∷ xs) fits h =
    let f : X → List Piece = λ y. first_pieces (start y) (count y) (text y) in
    subst (All HasBytes) (sym (flat_map-cons f x xs))
    (All-append HasBytes (f x) (flat_map f xs) (pieces_some (count x) (start x) (text x) (fits x (All-head P x xs h)))
    (all_some start text count P xs fits (All-tail P x xs h)))

-- Payloads that are numbered slot by slot

carried_pieces : (pid k : ℕ) (ps : List Payload) → (map piece_of (payload_entries pid k ps) ≡ map piece_in ps) × (length (payload_entries pid k ps) ≡ length ps)
unfolding payload_entries view_of
carried_pieces pid k [] = (refl, refl)
carried_pieces pid k (p ∷ ps) = let rest = carried_pieces pid (k + 1) ps in (
  ap₂ (λ (x : Piece) (xs : List Piece). x ∷ xs) (ap piece_in (payload_again p.index p.start pid (k % 16) p.bytes)) rest.0,
  ap suc rest.1,
)

pub numbered_payloads : NumberedPayloads
numbered_payloads pid n content pieces fits not_null numbered are =
    let bytes : List ℕ = run_bytes content 0 n in
    let ps : List Payload = payloads_in pid content 0 n in
    let list : pid_list pid bytes ≡ payload_entries pid 0 ps = run_payload_entries pid n content fits not_null numbered in
    let k = carried_pieces pid 0 ps in
    let size : length (pid_list pid bytes) ≡ length ps = ap length list ∙ k.1 in record {
      counters = λ j e at. let z : 0 + j ≡ j = omega arith in
          counters_follow pid 0 ps j e (sym (ap (λ (es : List Entry). slice_get es j) list) ∙ at) ∙ ap (λ (i : ℕ). i % 16) z;
      payloads = ap (map piece_of) list ∙ k.0 ∙ are ∙ ap (λ (m : ℕ). take m pieces) (sym size);
    }
