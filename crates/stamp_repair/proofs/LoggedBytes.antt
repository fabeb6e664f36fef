-- Bytes of a stream, many at a time
use Rattle.std.proofs.Common.{◌≡◌, ℕ, zero, suc, zero-add, ◌+◌, ◌<◌, ◌≤◌, ◌==◌, true, false, List, [], ◌∷◌, ◌++◌, length, take, drop, slice_index, refl, sym}
use Rattle.std.proofs.Common.{ap, ◌∙◌, arith, append_assoc, length-append}
use Rattle.std.proofs.lemmas.List.{length-take-le}
use Rattle.std.proofs.lemmas.Bool.Decides.{nat_tests}
use Rattle.stamp_repair.specs.References.{LogView, completed, logged, with_packet}

not_whole : (n : ℕ) → n < 188 → (n == 188) ≡ false
not_whole n h = grind (arith, nat_tests)

is_whole : (n : ℕ) → n ≡ 188 → (n == 188) ≡ true
is_whole n h = grind (arith, nat_tests)

-- The log with these held bytes
abbrev holding : LogView → List ℕ → LogView
holding s held = record { packets = s.packets; held = held; found = s.found }

completed_less : (s : LogView) (held : List ℕ) → length held < 188 → completed s held ≡ holding s held
unfolding completed
completed_less s held h = rw (not_whole (length held) h) refl

completed_whole : (s : LogView) (held : List ℕ) → length held ≡ 188 → completed s held ≡ with_packet s held
unfolding completed
completed_whole s held h = rw (is_whole (length held) h) refl

-- A byte is held, or it completes a packet.
pub byte_held : (s t : LogView) (byte : ℕ) → length s.held < 187 → t ≡ record { packets = s.packets; held = s.held ++ byte ∷ []; found = s.found } →
    t ≡ completed s (s.held ++ byte ∷ [])
byte_held s t byte few e = e ∙ sym (completed_less s (s.held ++ byte ∷ []) (omega (arith, few, length-append s.held (byte ∷ []))))

pub byte_ends : (s t : LogView) (byte : ℕ) (packet : List ℕ) → length s.held ≡ 187 → packet ≡ s.held ++ byte ∷ [] → t ≡ with_packet s packet →
    t ≡ completed s (s.held ++ byte ∷ [])
byte_ends s t byte packet full is e =
    e ∙ ap (λ (p : List ℕ). with_packet s p) is ∙ sym (completed_whole s (s.held ++ byte ∷ []) (omega (arith, full, length-append s.held (byte ∷ []))))

-- Two pieces, one after another, are logged as one piece.
pub logged_append : (s : LogView) (xs ys : List ℕ) → logged s (xs ++ ys) ≡ logged (logged s xs) ys
logged_append s [] ys = refl
logged_append s (x ∷ xs) ys = logged_append (completed s (s.held ++ x ∷ [])) xs ys

-- The remaining bytes of a packet complete it.
logged_whole : (s : LogView) (xs : List ℕ) → 0 < length xs → length s.held + length xs ≡ 188 → logged s xs ≡ with_packet s (s.held ++ xs)
logged_whole s [] p h = absurd (omega arith)
logged_whole s (x ∷ []) p h =
    let n : length (s.held ++ x ∷ []) ≡ length s.held + length (x ∷ []) = length-append s.held (x ∷ []) in
    completed_whole s (s.held ++ x ∷ []) (omega arith)
logged_whole s (x ∷ y ∷ ys) p h =
    let n : length (s.held ++ x ∷ []) ≡ length s.held + length (x ∷ []) = length-append s.held (x ∷ []) in
    let one : LogView = holding s (s.held ++ x ∷ []) in
    let e : completed s (s.held ++ x ∷ []) ≡ one = completed_less s (s.held ++ x ∷ []) (omega arith) in
    ap (λ (t : LogView). logged t (y ∷ ys)) e
    ∙ logged_whole one (y ∷ ys) (omega arith) (omega arith)
    ∙ ap (λ (z : List ℕ). with_packet s z) (append_assoc s.held (x ∷ []) (y ∷ ys))

none_held : (held : List ℕ) → true ≡ (length held == 0) → held ≡ []
none_held [] e = refl
none_held (x ∷ held) e = absurd (grind (arith, nat_tests))

-- A whole packet is logged at once, if no byte is held.
pub packet_logged : (s t : LogView) (bytes packet : List ℕ) → true ≡ (length s.held == 0) → 188 ≤ length bytes → packet ≡ take 188 bytes →
    t ≡ with_packet s packet →
    t ≡ logged s (take 188 bytes)
packet_logged s t bytes packet empty enough is e =
    let none : s.held ≡ [] = none_held s.held empty in
    let n : length s.held ≡ 0 = ap length none in
    let m : length (take 188 bytes) ≡ 188 = length-take-le 188 bytes enough in
    e ∙ ap (λ (p : List ℕ). with_packet s p) is ∙ ap (λ (held : List ℕ). with_packet s (held ++ take 188 bytes)) (sym none)
    ∙ sym (logged_whole s (take 188 bytes) (omega (arith, m)) (omega (arith, m, n)))

take_one : (bytes : List ℕ) → 0 < length bytes → slice_index bytes 0 ∷ [] ≡ take 1 bytes
take_one [] some = absurd (omega arith)
take_one (x ∷ xs) some = refl

-- One byte is logged.
pub byte_logged : (s t : LogView) (bytes : List ℕ) (byte : ℕ) → 0 < length bytes → byte ≡ slice_index bytes 0 → t ≡ completed s (s.held ++ byte ∷ []) →
    t ≡ logged s (take 1 bytes)
byte_logged s t bytes byte some is e = e ∙ ap (λ (b : ℕ). logged s (b ∷ [])) is ∙ ap (logged s) (take_one bytes some)

take_none : (m : ℕ) → take {A = ℕ} m [] ≡ []
take_none zero = refl
take_none (suc m) = refl

take_add : (n m : ℕ) (xs : List ℕ) → take n xs ++ take m (drop n xs) ≡ take (n + m) xs
take_add zero m xs = ap (λ (k : ℕ). take k xs) (sym (zero-add m))
take_add (suc n) m [] = take_none m ∙ sym (take_none (suc n + m))
take_add (suc n) m (x ∷ xs) = let e : suc n + m ≡ suc (n + m) = omega arith in rw e (ap (λ (ys : List ℕ). x ∷ ys) (take_add n m xs))

-- A piece in two parts is logged as one.
pub logged_take : (s : LogView) (n m : ℕ) (xs : List ℕ) → logged (logged s (take n xs)) (take m (drop n xs)) ≡ logged s (take (n + m) xs)
logged_take s n m xs = sym (logged_append s (take n xs) (take m (drop n xs))) ∙ ap (logged s) (take_add n m xs)
