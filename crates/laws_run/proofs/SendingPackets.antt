-- Payloads that are the first payloads of PES packets or sections, as sendings.
use Rattle.std.proofs.Common.{◌≡◌, ℕ, zero, suc, ◌≤◌, All, arith, length-take, List, [], ◌∷◌, ◌++◌, length, map, take, drop, refl, sym, ap, ap₂, ◌∙◌}
use Rattle.std.proofs.Common.{take-append-drop}
use Rattle.std.proofs.lemmas.List.Elements.{All-nil, All-cons, All-head, All-tail}
use Rattle.std.proofs.lemmas.List.Concat.{flat_map-cons}
use Rattle.std.specs.List.{flat_map}
use Rattle.std.specs.Simd.{first_chunks}
use Rattle.ts_packet.specs.declared.start.Start.{Start}
use Rattle.ts_packet.specs.declared.start.Start.TheVariants.{Continues, Begins, Access}
use Rattle.ts_packet.specs.Beginnings.{room_of}
use Rattle.slot_contents.specs.Contents.{Payload, Piece}
use Rattle.unit_queue.specs.Payloads.{marked, piece_in}
use Rattle.laws_run.specs.Sent.{first_pieces, access_chunks, start_chunks, cut, Sending, sendings}
use Rattle.laws_run.proofs.AllSendings.{sent_payloads}

abbrev pub indices : List Payload → List ℕ
indices ps = map (λ p. p.index) ps

same_head : (x y : Piece) (xs ys : List Piece) → x ∷ xs ≡ y ∷ ys → x ≡ y
same_head x y xs ys e = cc

same_tail : (x y : Piece) (xs ys : List Piece) → x ∷ xs ≡ y ∷ ys → xs ≡ ys
same_tail x y xs ys e = cc

-- A piece in a packet
abbrev payload_of_piece : ℕ → Piece → Payload
payload_of_piece i x = record { index = i; start = x.start; bytes = x.bytes }

-- The first payload of a text and its later payloads
pub chunks_more : (start : Start) (k : ℕ) (text : List ℕ) →
    start_chunks start (suc k) text ≡ take (room_of start) text ∷ first_chunks 184 k (drop (room_of start) text)
unfolding access_chunks
chunks_more Continues k text = refl
chunks_more Begins k text = refl
chunks_more Access k text = refl

pub chunks_none : (start : Start) (text : List ℕ) → start_chunks start zero text ≡ []
unfolding access_chunks
chunks_none Continues text = refl
chunks_none Begins text = refl
chunks_none Access text = refl

-- The first k payloads carry the first text in their packets; the payloads after them begin the rest.
split_text : (k : ℕ) (start : Start) (text : List ℕ) (rest : List Piece) (ps : List Payload) →
    map piece_in ps ≡ take (length ps) (marked start (start_chunks start k text) ++ rest) →
    (take k ps ≡ cut start text (take k (indices ps))) × (map piece_in (drop k ps) ≡ take (length (drop k ps)) rest) ×
    (indices (drop k ps) ≡ drop k (indices ps))
unfolding marked cut
split_text zero start text rest ps e = (refl, e ∙ ap (λ (c : List (List ℕ)). take (length ps) (marked start c ++ rest)) (chunks_none start text), refl)
split_text (suc k) start text rest [] e = (refl, refl, refl)
split_text (suc k) start text rest (p ∷ ps) e =
    let y : Piece = record { start = start; bytes = take (room_of start) text } in
    let ys : List Piece = take (length ps) (marked Continues (first_chunks 184 k (drop (room_of start) text)) ++ rest) in
    let more : piece_in p ∷ map piece_in ps ≡ y ∷ ys =
    e ∙ ap (λ (c : List (List ℕ)). take (suc (length ps)) (marked start c ++ rest)) (chunks_more start k text) in
    let first : piece_in p ≡ y = same_head (piece_in p) y (map piece_in ps) ys more in
    let others = split_text k Continues (drop (room_of start) text) rest ps (same_tail (piece_in p) y (map piece_in ps) ys more) in
    let one : p ≡ payload_of_piece p.index y = ap (payload_of_piece p.index) first in
    (ap₂ (λ (q : Payload) (qs : List Payload). q ∷ qs) one others.0, others.1, others.2)

none_left : (p : Payload) (ps : List Payload) → map piece_in (p ∷ ps) ≡ [] → ⊥
none_left p ps e = cc

-- Payloads that begin the payloads of PES packets or sections are the payloads of their sendings.
pub parted : {X : Type 0} (start : X → Start) (text : X → List ℕ) (count : X → ℕ) (xs : List X) (ps : List Payload) →
    map piece_in ps ≡ take (length ps) (flat_map (λ x. first_pieces (start x) (count x) (text x)) xs) →
    ps ≡ sent_payloads start text (sendings count xs (indices ps))
unfolding sent_payloads sendings
parted start text count [] [] e = refl
parted start text count [] (p ∷ ps) e = absurd (none_left p ps e)
parted {X} start text count (x ∷ xs) ps e =
    let f : X → List Piece = λ y. first_pieces (start y) (count y) (text y) in
    let here : map piece_in ps ≡ take (length ps) (f x ++ flat_map f xs) = e ∙ ap (take (length ps)) (flat_map-cons f x xs) in
    let s = split_text (count x) (start x) (text x) (flat_map f xs) ps here in
    let rest = parted start text count xs (drop (count x) ps) s.1 in
    sym (take-append-drop (count x) ps)
    ∙ ap₂ (λ (a b : List Payload). a ++ b) s.0 (rest ∙ ap (λ (is : List ℕ). sent_payloads start text (sendings count xs is)) s.2)

-- Each sending has a property if its item has it in any number of packets up to its need.
pub all_sendings : {X : Type 0} (P : X → Type 0) (Q : Sending X → Type 0) (count : X → ℕ) (xs : List X) (is : List ℕ) →
    ((x : X) (js : List ℕ) → P x → length js ≤ count x → Q (record { item = x; packets = js })) → All P xs → All Q (sendings count xs is)
unfolding sendings
all_sendings P Q count [] is h a = All-nil Q
all_sendings P Q count (x ∷ xs) is h a =
    All-cons Q (record { item = x; packets = take (count x) is }) (sendings count xs (drop (count x) is))
    (h x (take (count x) is) (All-head P x xs a) (omega (arith, length-take (count x) is)))
    (all_sendings P Q count xs (drop (count x) is) h (All-tail P x xs a))
