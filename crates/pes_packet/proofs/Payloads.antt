-- The payloads of a PES packet, one by one.
use Rattle.std.proofs.Common.{◌≡◌, ℕ, zero, suc, ◌+◌, ◌*◌, ◌<◌, ◌≤◌, List, [], ◌∷◌, length, take, drop, refl, ap, ◌∙◌, arith, Some}
use Rattle.std.proofs.lemmas.List.{length-take, length-drop, take-append-drop, drop-drop}
use Rattle.std.proofs.lemmas.List.Elements.{All-nil, All-cons}
use Rattle.std.proofs.Math.Nat.{mul-suc}
use Rattle.std.specs.Prelude.{slice_get, All}
use Rattle.std.specs.List.{concat}
use Rattle.std.specs.Simd.{first_chunks}
use Rattle.pes_packet.specs.Payloads.{pieces, piece_count}
use Rattle.pes_packet.specs.Laws.{PayloadsJoin}

-- The payloads of bytes are the first 184 bytes, then the payloads of the rest.
pub pieces_more : (bytes : List ℕ) → 0 < length bytes → pieces bytes ≡ take 184 bytes ∷ pieces (drop 184 bytes)
unfolding pieces
pieces_more bytes some =
    let n : piece_count (length bytes) ≡ suc (piece_count (length (drop 184 bytes))) = omega (arith, length-drop 184 bytes) in
    rw n refl

-- If there are no bytes, there are no payloads.
pub pieces_none : (bytes : List ℕ) → length bytes ≡ 0 → pieces bytes ≡ []
unfolding pieces
pieces_none bytes none = rw none refl

chunk_count : (n k : ℕ) (xs : List ℕ) → length (first_chunks n k xs) ≡ k
chunk_count n zero xs = refl
chunk_count n (suc k) xs = ap suc (chunk_count n k (drop n xs))

chunk_at : (n k : ℕ) (xs : List ℕ) (q : ℕ) → q < k → slice_get (first_chunks n k xs) q ≡ Some (take n (drop (n * q) xs))
chunk_at n zero xs q h = absurd (omega arith)
chunk_at n (suc k) xs zero h = let none : n * 0 ≡ 0 = omega arith in rw none refl
chunk_at n (suc k) xs (suc q) h =
    let more : n + n * q ≡ n * suc q = omega (arith, mul-suc n q) in
    let inner : slice_get (first_chunks n k (drop n xs)) q ≡ Some (take n (drop (n * q) (drop n xs))) = chunk_at n k (drop n xs) q (omega arith) in
    inner ∙ ap (λ (t : List ℕ). Some (take n t)) (drop-drop (n * q) n xs ∙ ap (λ (m : ℕ). drop m xs) more)

chunk_some : (k : ℕ) (xs : List ℕ) → 184 * k < length xs + 184 → All (λ piece. 1 ≤ length piece) (first_chunks 184 k xs)
chunk_some zero xs h = All-nil (λ piece. 1 ≤ length piece)
chunk_some (suc zero) xs h =
    All-cons (λ piece. 1 ≤ length piece) (take 184 xs) [] (omega (arith, length-take 184 xs)) (All-nil (λ piece. 1 ≤ length piece))
chunk_some (suc (suc k)) xs h =
    let rest : 184 * suc k < length (drop 184 xs) + 184 = omega (arith, length-drop 184 xs) in
    All-cons (λ piece. 1 ≤ length piece) (take 184 xs) (first_chunks 184 (suc k) (drop 184 xs)) (omega (arith, length-take 184 xs))
    (chunk_some (suc k) (drop 184 xs) rest)

chunk_most : (k : ℕ) (xs : List ℕ) → All (λ piece. length piece ≤ 184) (first_chunks 184 k xs)
chunk_most zero xs = All-nil (λ piece. length piece ≤ 184)
chunk_most (suc k) xs =
    All-cons (λ piece. length piece ≤ 184) (take 184 xs) (first_chunks 184 k (drop 184 xs)) (omega (arith, length-take 184 xs))
    (chunk_most k (drop 184 xs))

chunk_join : (k : ℕ) (xs : List ℕ) → length xs ≤ 184 * k → concat (first_chunks 184 k xs) ≡ xs
chunk_join zero [] h = refl
chunk_join zero (x ∷ xs) h = absurd (omega arith)
chunk_join (suc k) xs h =
    let less : length (drop 184 xs) ≤ 184 * k = omega (arith, length-drop 184 xs) in
    rw (chunk_join k (drop 184 xs) less) (take-append-drop 184 xs)

pub payloads_join : (bytes : List ℕ) → PayloadsJoin bytes
unfolding pieces
payloads_join bytes = record {
  count = chunk_count 184 (piece_count (length bytes)) bytes;
  each = λ q h. chunk_at 184 (piece_count (length bytes)) bytes q h;
  some = chunk_some (piece_count (length bytes)) bytes (omega arith);
  most = chunk_most (piece_count (length bytes)) bytes;
  joined = chunk_join (piece_count (length bytes)) bytes (omega arith);
}
