-- More bytes change no result except Short.
use Rattle.std.proofs.Common.{◌≡◌, ◌≢◌, ℕ, ◌+◌, ◌*◌, ◌≤◌, ◌==◌, ◌||◌, not, Bool, true, false, cond, None, Result, Ok, Err, List, [], ◌∷◌, ◌++◌, length, refl}
use Rattle.std.proofs.Common.{arith, ltb}
use Rattle.std.proofs.lemmas.Bool.{ltb-false, le-ltb}
use Rattle.std.proofs.lemmas.List.{length-append, take-append-le}
use Rattle.std.specs.List.{zip, list_any}
use Rattle.pes_packet.specs.StreamIds.{has_flags}
use Rattle.pes_packet.specs.Marks.{no_flags}
use Rattle.pes_packet.specs.Reading.{data_at, flags_at, start_at, misses_prefix, header_at}
use Rattle.pes_packet.specs.Laws.{LongerIsRead}
use Rattle.pes_packet.specs.declared.refusal.PesError.{PesError}
use Rattle.pes_packet.specs.declared.refusal.PesError.TheVariants.{Short, Prefix}
use Rattle.pes_packet.specs.declared.time_stamps.Stamps.TheVariants.{Absent}
use Rattle.pes_packet.specs.declared.reading.PesHeader.{PesHeader}

-- A result other than Short stays the same.
abbrev Stays : Result (PesHeader × ℕ) PesError → Result (PesHeader × ℕ) PesError → Type 0
Stays now later = now ≢ Err Short → later ≡ now

or_stays : (b c d : Bool) → (c ≡ true → d ≡ true) → (b || c) ≡ true → (b || d) ≡ true
or_stays true c d h e = refl
or_stays false c d h e = h e

-- A byte that differs from the prefix still differs.
misses_stays : (wanted bytes more : List ℕ)
    → list_any (λ p. not (p.0 == p.1)) (zip wanted bytes) ≡ true → list_any (λ p. not (p.0 == p.1)) (zip wanted (bytes ++ more)) ≡ true
misses_stays [] bytes more e = e
misses_stays (w ∷ wanted) [] more e = absurd cc
misses_stays (w ∷ wanted) (b ∷ bytes) more e =
    or_stays (not (w == b)) _ _ (misses_stays wanted bytes more) e

data_stays : (id len first second size : ℕ) (bytes more : List ℕ) → size ≤ length bytes
    → data_at id len first second size (bytes ++ more) ≡ data_at id len first second size bytes
unfolding data_at
data_stays id len first second size bytes more there = rw (take-append-le size bytes more there) refl

tested : (b : Bool) (x y : Result (PesHeader × ℕ) PesError) → (b ≡ false → x ≡ y) → Stays (cond b (Err Short) y) (cond b (Err Short) x)
tested true x y h some = absurd (some refl)
tested false x y h some = h refl

sized : (b c : Bool) (x y : Result (PesHeader × ℕ) PesError) → (b ≡ false → c ≡ false) → (b ≡ false → x ≡ y) →
    Stays (cond b (Err Short) y) (cond c (Err Short) x)
sized true c x y h k some = absurd (some refl)
sized false c x y h k some = rw (h refl) (k refl)

flags_stay : (id len : ℕ) (bytes more : List ℕ) → Stays (flags_at id len bytes) (flags_at id len (bytes ++ more))
unfolding flags_at
flags_stay id len (first ∷ second ∷ size ∷ bytes) more =
    sized (ltb (length bytes) size) (ltb (length (bytes ++ more)) size)
    (data_at id len first second size (bytes ++ more)) (data_at id len first second size bytes)
    (λ e. let h : size ≤ length bytes = ltb-false (length bytes) size e in
    le-ltb (length (bytes ++ more)) size (omega (arith, length-append bytes more)))
    (λ e. data_stays id len first second size bytes more (ltb-false (length bytes) size e))
flags_stay id len [] more = λ some. absurd (some refl)
flags_stay id len (first ∷ []) more = λ some. absurd (some refl)
flags_stay id len (first ∷ second ∷ []) more = λ some. absurd (some refl)

either_stays : (b : Bool) (x y z : Result (PesHeader × ℕ) PesError) → Stays x y → Stays (cond b x z) (cond b y z)
either_stays true x y z h = h
either_stays false x y z h = λ some. refl

start_stays : (bytes more : List ℕ) → Stays (start_at bytes) (start_at (bytes ++ more))
unfolding start_at
start_stays (p ∷ q ∷ r ∷ id ∷ high ∷ low ∷ bytes) more =
    either_stays (has_flags id) (flags_at id (high * 256 + low) bytes) (flags_at id (high * 256 + low) (bytes ++ more))
    (Ok (record { id = id; len = high * 256 + low; stamps = Absent; flags = no_flags; data_length = 0; private_data = None }, 6))
    (flags_stay id (high * 256 + low) bytes more)
start_stays [] more = λ some. absurd (some refl)
start_stays (p ∷ []) more = λ some. absurd (some refl)
start_stays (p ∷ q ∷ []) more = λ some. absurd (some refl)
start_stays (p ∷ q ∷ r ∷ []) more = λ some. absurd (some refl)
start_stays (p ∷ q ∷ r ∷ id ∷ []) more = λ some. absurd (some refl)
start_stays (p ∷ q ∷ r ∷ id ∷ high ∷ []) more = λ some. absurd (some refl)

-- If the bytes are not too short and match the prefix, they match it with more bytes.
long_enough : (bytes more : List ℕ) → start_at bytes ≢ Err Short → misses_prefix bytes ≡ false → misses_prefix (bytes ++ more) ≡ false
unfolding start_at
long_enough (p ∷ q ∷ r ∷ bytes) more some e = e
long_enough [] more some e = absurd (some refl)
long_enough (p ∷ []) more some e = absurd (some refl)
long_enough (p ∷ q ∷ []) more some e = absurd (some refl)

prefixed : (b c : Bool) (x y : Result (PesHeader × ℕ) PesError) → (b ≡ true → c ≡ true) → (b ≡ false → x ≢ Err Short → c ≡ false) → Stays x y
    → Stays (cond b (Err Prefix) x) (cond c (Err Prefix) y)
prefixed true c x y h k stays some = rw (h refl) refl
prefixed false c x y h k stays some = rw (k refl some) (stays some)

pub longer_is_read : LongerIsRead
unfolding header_at
longer_is_read bytes more some =
    prefixed (misses_prefix bytes) (misses_prefix (bytes ++ more)) (start_at bytes) (start_at (bytes ++ more))
    (misses_stays (0 ∷ 0 ∷ 1 ∷ []) bytes more) (λ e found. long_enough bytes more found e) (start_stays bytes more) some
