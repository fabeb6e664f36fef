-- Many bytes of a stream at a time.
use Rattle.std.proofs.Common.{◌≡◌, ℕ, zero, suc, zero-add, ◌+◌, ◌<◌, ◌≤◌, ◌==◌, true, false, List, [], ◌∷◌, ◌++◌, length, take, drop, refl, sym, ap, ap₂, ◌∙◌}
use Rattle.std.proofs.Common.{arith, append_assoc, length-append}
use Rattle.std.proofs.lemmas.List.{append-nil, length-take-le}
use Rattle.std.proofs.lemmas.Bool.Decides.{nat_tests}
use Rattle.pid_findings.specs.Views.{FindingView}
use Rattle.demux.specs.Stream.{StreamState, completed, packet_pushed, pushed, taken, found_in}
use Rattle.demux.specs.Laws.{TakenAsPushed}

not_whole : (n : ℕ) → n < 188 → (n == 188) ≡ false
not_whole n h = grind (arith, nat_tests)

is_whole : (n : ℕ) → n ≡ 188 → (n == 188) ≡ true
is_whole n h = grind (arith, nat_tests)

completed_less : (s : StreamState) (held : List ℕ) → length held < 188 → completed s held ≡ record s { held = held }
unfolding completed
completed_less s held h = rw (not_whole (length held) h) refl

completed_whole : (s : StreamState) (held : List ℕ) → length held ≡ 188 → completed s held ≡ packet_pushed s held
unfolding completed
completed_whole s held h = rw (is_whole (length held) h) refl

-- Pushing two pieces in turn is pushing them joined.
pub pushed_append : (s : StreamState) (xs ys : List ℕ) → pushed s (xs ++ ys) ≡ pushed (pushed s xs) ys
pushed_append s [] ys = refl
pushed_append s (x ∷ xs) ys = pushed_append (completed s (s.held ++ x ∷ [])) xs ys

-- Fewer bytes than a packet are held.
pub pushed_less : (s : StreamState) (xs : List ℕ) → length s.held + length xs < 188 → pushed s xs ≡ record s { held = s.held ++ xs }
pushed_less s [] h = ap (λ (x : List ℕ). record s { held = x }) (sym (append-nil s.held))
pushed_less s (x ∷ xs) h =
    let n : length (s.held ++ x ∷ []) ≡ length s.held + length (x ∷ []) = length-append s.held (x ∷ []) in
    let one : StreamState = record s { held = s.held ++ x ∷ [] } in
    let e : completed s (s.held ++ x ∷ []) ≡ one = completed_less s (s.held ++ x ∷ []) (omega arith) in
    ap (λ (t : StreamState). pushed t xs) e
    ∙ pushed_less one xs (omega arith)
    ∙ ap (λ (y : List ℕ). record s { held = y }) (append_assoc s.held (x ∷ []) xs)

-- The remaining bytes of a packet complete it.
pub pushed_whole : (s : StreamState) (xs : List ℕ) → 0 < length xs → length s.held + length xs ≡ 188 → pushed s xs ≡ packet_pushed s (s.held ++ xs)
unfolding taken found_in
pushed_whole s [] p h = absurd (omega arith)
pushed_whole s (x ∷ []) p h =
    let n : length (s.held ++ x ∷ []) ≡ length s.held + length (x ∷ []) = length-append s.held (x ∷ []) in
    completed_whole s (s.held ++ x ∷ []) (omega arith)
pushed_whole s (x ∷ y ∷ ys) p h =
    let n : length (s.held ++ x ∷ []) ≡ length s.held + length (x ∷ []) = length-append s.held (x ∷ []) in
    let one : StreamState = record s { held = s.held ++ x ∷ [] } in
    let e : completed s (s.held ++ x ∷ []) ≡ one = completed_less s (s.held ++ x ∷ []) (omega arith) in
    ap (λ (t : StreamState). pushed t (y ∷ ys)) e
    ∙ pushed_whole one (y ∷ ys) (omega arith) (omega arith)
    ∙ ap (λ (z : List ℕ). packet_pushed s z) (append_assoc s.held (x ∷ []) (y ∷ ys))

take_none : (m : ℕ) → take {A = ℕ} m [] ≡ []
take_none zero = refl
take_none (suc m) = refl

take_add : (n m : ℕ) (xs : List ℕ) → take n xs ++ take m (drop n xs) ≡ take (n + m) xs
take_add zero m xs = ap (λ (k : ℕ). take k xs) (sym (zero-add m))
take_add (suc n) m [] = take_none m ∙ sym (take_none (suc n + m))
take_add (suc n) m (x ∷ xs) = let e : suc n + m ≡ suc (n + m) = omega arith in rw e (ap (λ (ys : List ℕ). x ∷ ys) (take_add n m xs))

-- A piece can be pushed in two parts.
pub pushed_take : (s : StreamState) (n m : ℕ) (xs : List ℕ) → pushed (pushed s (take n xs)) (take m (drop n xs)) ≡ pushed s (take (n + m) xs)
pushed_take s n m xs = sym (pushed_append s (take n xs) (take m (drop n xs))) ∙ ap (pushed s) (take_add n m xs)

take_whole : (xs : List ℕ) → take (length xs) xs ≡ xs
take_whole [] = refl
take_whole (x ∷ xs) = ap (λ (ys : List ℕ). x ∷ ys) (take_whole xs)

-- Bytes that complete no packet are held.
pub held_more : (s t : StreamState) (xs : List ℕ) → length s.held + length xs < 188 → t ≡ record s { held = s.held ++ xs } → t ≡ pushed s (take (length xs) xs)
held_more s t xs h e = e ∙ sym (pushed_less s xs h) ∙ ap (pushed s) (sym (take_whole xs))

-- Bytes up to the end of a packet complete it.
pub packet_whole : (s t : StreamState) (n : ℕ) (xs bytes : List ℕ) → 0 < n → n ≤ length xs → length s.held + n ≡ 188 → bytes ≡ s.held ++ take n xs →
    t ≡ packet_pushed s bytes → t ≡ pushed s (take n xs)
packet_whole s t n xs bytes p h w b e =
    let m : length (take n xs) ≡ n = length-take-le n xs h in
    e ∙ ap (packet_pushed s) b ∙ sym (pushed_whole s (take n xs) (omega arith) (omega arith))

-- If the number of held bytes is 0, no bytes are held.
pub none_held : (held : List ℕ) → true ≡ (length held == 0) → held ≡ []
none_held [] e = refl
none_held (x ∷ held) e = absurd (grind (arith, nat_tests))

pub taken_as_pushed : TakenAsPushed
unfolding taken found_in
taken_as_pushed s bytes a w =
    let none : s.held ≡ [] = none_held s.held (sym a) in
    let n : length s.held ≡ 0 = ap length none in
    pushed_whole s bytes (omega arith) (omega arith)
    ∙ ap₂ (λ (front held : List ℕ). record (packet_pushed s (front ++ bytes)) { held = held }) none (sym none)

-- Pushing a packet without findings is taking it, whoever held its bytes.
pub plain_pushed : (s t : StreamState) (bytes : List ℕ) → t ≡ taken s bytes → found_in s bytes ≡ [] → record t { held = [] } ≡ packet_pushed s bytes
unfolding taken
plain_pushed s t bytes e none =
    ap (λ (u : StreamState). record u { held = [] }) e
    ∙ ap (λ (found : List FindingView). record (taken s bytes) { held = []; found = found })
    (sym (append-nil s.found) ∙ ap (λ (more : List FindingView). s.found ++ more) (sym none))
