-- If payloads have all bytes of a PES packet, joining them gives the whole PES packet.
use Rattle.std.proofs.Common.{◌≡◌, ◌≤◌, ◌<◌, ℕ, zero, suc, ◌+◌, Bool, true, false, List, [], ◌∷◌, ◌++◌, length, map, take, drop, slice_get, option_map}
use Rattle.std.proofs.Common.{Some, All, refl, sym, ap, subst, ◌∙◌, inl, inr, arith}
use Rattle.std.specs.List.{concat}
use Rattle.std.proofs.lemmas.Bool.{cases_lt}
use Rattle.std.proofs.lemmas.Grind.{flat_map-append}
use Rattle.std.proofs.lemmas.List.{length-append, length-take, take-append-le, take-append-drop, take-map}
use Rattle.std.proofs.lemmas.List.Concat.{flat_map-cons}
use Rattle.std.proofs.lemmas.List.Elements.{All-nil, All-cons, All-head, All-tail, All-append, All-take}
use Rattle.std.proofs.lemmas.Option.{slice_get-map}
use Rattle.pes_packet.specs.Payloads.{pieces, unit_pieces}
use Rattle.pes_packet.proofs.Payloads.{payloads_join}
use Rattle.pes_packet.proofs.UnitPieces.{unit_pieces_join}
use Rattle.ts_packet.specs.declared.start.Start.{Start}
use Rattle.ts_packet.specs.declared.start.Start.TheVariants.{Continues}
use Rattle.ts_packet.specs.Beginnings.{start_by}
use Rattle.slot_contents.specs.Contents.{Piece}
use Rattle.unit_queue.specs.Payloads.{marked}
use Rattle.mux_core.specs.Decoder.{put_together, cut_thing}
use Rattle.mux_core.proofs.PutTogether.{IsSome, all_marked, put_law}

-- The number of bytes in payloads.
unfoldable pub bytes_in : List Piece → ℕ
bytes_in [] = 0
bytes_in (p ∷ ps) = length p.bytes + bytes_in ps

abbrev HasBytes : Piece → Type 0
HasBytes p = 1 ≤ length p.bytes

bytes_append : (ps qs : List Piece) → bytes_in (ps ++ qs) ≡ bytes_in ps + bytes_in qs
unfolding bytes_in
bytes_append [] qs = omega arith
bytes_append (p ∷ ps) qs = omega (arith, bytes_append ps qs)

-- Fewer payloads have fewer bytes.
fewer : (ps : List Piece) (m : ℕ) → All HasBytes ps → m < length ps → bytes_in (take m ps) < bytes_in ps
unfolding bytes_in
fewer [] m some lt = absurd (omega (arith, lt))
fewer (p ∷ ps) zero some lt = omega (arith, All-head HasBytes p ps some)
fewer (p ∷ ps) (suc m) some lt = omega (arith, fewer ps m (All-tail HasBytes p ps some) (omega (arith, lt)))

enough : (front rest : List Piece) (m : ℕ) → All HasBytes front → bytes_in front ≤ bytes_in (take m (front ++ rest)) → length front ≤ m
enough front rest m some le = elim (cases_lt m (length front)) [
  | inr all ↦ all
  | inl lt ↦
      let cut : take m (front ++ rest) ≡ take m front = take-append-le m front rest (omega (arith, lt)) in
      let same : bytes_in (take m (front ++ rest)) ≡ bytes_in (take m front) = ap bytes_in cut in
      absurd (omega (arith, same, le, fewer front m some lt))
]

marked_bytes : (start : Start) (c : List (List ℕ)) → bytes_in (marked start c) ≡ length (concat c)
unfolding bytes_in marked
marked_bytes start [] = refl
marked_bytes start (x ∷ xs) = omega (arith, marked_bytes Continues xs, length-append x (concat xs))

abbrev SomeBytes : List ℕ → Type 0
SomeBytes x = 1 ≤ length x

marked_some : (start : Start) (c : List (List ℕ)) → All SomeBytes c → All HasBytes (marked start c)
unfolding marked
marked_some start [] some = All-nil HasBytes
marked_some start (x ∷ xs) some =
    All-cons HasBytes (record { start = start; bytes = x }) (marked Continues xs) (All-head SomeBytes x xs some)
    (marked_some Continues xs (All-tail SomeBytes x xs some))

-- PES packets, each with a mark whether a decoder may begin there

abbrev pub Sent : Type 0
Sent = Bool × List ℕ

abbrev pub SentBytes : Sent → Type 0
SentBytes p = 1 ≤ length p.1

abbrev pub cut_one : Sent → Bool × List (List ℕ)
cut_one p = (p.0, unit_pieces p.0 p.1)

abbrev pub cut_all : List Sent → List Piece
cut_all pes = all_marked (map cut_one pes)

abbrev pub sent_bytes : List Sent → List (List ℕ)
sent_bytes pes = map (λ p. p.1) pes

-- No payload of a PES packet is empty.
unit_some : (access : Bool) (pes : List ℕ) → 1 ≤ length pes → All SomeBytes (unit_pieces access pes)
unfolding unit_pieces
unit_some true pes some =
    All-cons SomeBytes (take 182 pes) (pieces (drop 182 pes)) (omega (arith, some, length-take 182 pes)) (payloads_join (drop 182 pes)).some
unit_some false pes some = (payloads_join pes).some

cut_bytes : (pes : List Sent) → bytes_in (cut_all pes) ≡ length (concat (sent_bytes pes))
cut_bytes [] = unfold bytes_in in refl
cut_bytes (p ∷ pes) =
    let start = start_by true p.0 in
    let first : bytes_in (marked (start_by true p.0) (unit_pieces p.0 p.1)) ≡ length p.1 =
    marked_bytes start (unit_pieces p.0 p.1) ∙ ap length (unit_pieces_join p.0 p.1).joined in
    let parts = ap bytes_in (flat_map-cons cut_thing (cut_one p) (map cut_one pes)) ∙ bytes_append (marked start (unit_pieces p.0 p.1)) (cut_all pes) in
    omega (arith, parts, first, cut_bytes pes, length-append p.1 (concat (sent_bytes pes)))

cut_some : (pes : List Sent) → All SentBytes pes → All HasBytes (cut_all pes)
cut_some [] some = All-nil HasBytes
cut_some (p ∷ pes) some =
    let start = start_by true p.0 in
    subst (All HasBytes) (sym (flat_map-cons cut_thing (cut_one p) (map cut_one pes)))
    (All-append HasBytes (marked start (unit_pieces p.0 p.1)) (cut_all pes)
    (marked_some start (unit_pieces p.0 p.1) (unit_some p.0 p.1 (All-head SentBytes p pes some))) (cut_some pes (All-tail SentBytes p pes some)))

some_pieces : (pes : List Sent) → All SentBytes pes → All IsSome (map cut_one pes)
some_pieces [] some = All-nil IsSome
some_pieces (p ∷ pes) some =
    let least = All-head SentBytes p pes some in
    let count = (unit_pieces_join p.0 p.1).count in
    All-cons IsSome (cut_one p) (map cut_one pes) (omega (arith, count, least)) (some_pieces pes (All-tail SentBytes p pes some))

all_take : (pes : List Sent) (k : ℕ) → All SentBytes pes → All SentBytes (take k pes)
all_take pes k some = All-take SentBytes k pes some

-- If payloads of cut PES packets reach the end of a PES packet, joining them gives the whole PES packet.
pub pes_whole : (pes : List Sent) (p : Sent) (m i : ℕ) (ps : List Piece) → All SentBytes pes → slice_get pes i ≡ Some p → ps ≡ take m (cut_all pes) →
    length (concat (sent_bytes (take (suc i) pes))) ≤ bytes_in ps → slice_get (put_together ps) i ≡ Some p.1
pes_whole pes p m i ps some is cut le =
    let front : List Sent = take (suc i) pes in
    let rest : List (Bool × List (List ℕ)) = drop (suc i) (map cut_one pes) in
    let there : slice_get (map cut_one pes) i ≡ Some (cut_one p) = slice_get-map cut_one pes i ∙ ap (λ o. option_map cut_one o) is in
    let heads : take (suc i) (map cut_one pes) ≡ map cut_one front = take-map cut_one (suc i) pes in
    let parts : cut_all pes ≡ cut_all front ++ all_marked rest =
    ap all_marked (sym (take-append-drop (suc i) (map cut_one pes))) ∙ flat_map-append cut_thing (take (suc i) (map cut_one pes)) rest
    ∙ ap (λ (cs : List (Bool × List (List ℕ))). all_marked cs ++ all_marked rest) heads in
    let size : bytes_in (cut_all front) ≡ length (concat (sent_bytes front)) = cut_bytes front in
    let bytes : bytes_in ps ≡ bytes_in (take m (cut_all front ++ all_marked rest)) = ap bytes_in cut ∙ ap (λ (x : List Piece). bytes_in (take m x)) parts in
    let few : length (cut_all front) ≤ m =
    enough (cut_all front) (all_marked rest) m (cut_some front (all_take pes (suc i) some)) (omega (arith, size, bytes, le)) in
    let within : length (all_marked (take (suc i) (map cut_one pes))) ≤ m =
    subst (λ (cs : List (Bool × List (List ℕ))). length (all_marked cs) ≤ m) (sym heads) few in
    ap (λ (x : List Piece). slice_get (put_together x) i) cut ∙ put_law (map cut_one pes) (cut_one p) m i (some_pieces pes some) there within
    ∙ ap Some (unit_pieces_join p.0 p.1).joined
