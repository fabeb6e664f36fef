-- A PES header depends on its own bytes alone.
use Rattle.std.proofs.Common.{◌≡◌, ℕ, zero, suc, ◌+◌, ◌*◌, ◌/◌, ◌≤◌, ◌<◌, Bool, true, false, cond, Result, Ok, Err, List, [], ◌∷◌, length, take, get_or, refl}
use Rattle.std.proofs.Common.{sym, ap, ◌∙◌, arith, ltb}
use Rattle.std.proofs.lemmas.Bool.{ltb-false, le-ltb}
use Rattle.std.proofs.lemmas.List.{length-take-le, take_all}
use Rattle.bit_fields.specs.Fields.{IsBytes}
use Rattle.bit_fields.specs.Reading.{◌>>=◌}
use Rattle.pes_packet.specs.StreamIds.{has_flags}
use Rattle.pes_packet.specs.Reading.{data_at, flags_at, start_at, misses_prefix, header_at, is_bad_flags, is_too_short, stamps_at}
use Rattle.pes_packet.specs.declared.refusal.PesError.{PesError}
use Rattle.pes_packet.specs.declared.refusal.PesError.TheVariants.{Short, Prefix, BadFlags, Length}
use Rattle.pes_packet.specs.declared.time_stamps.Stamps.{Stamps}
use Rattle.pes_packet.specs.declared.reading.PesHeader.{PesHeader}

abbrev Read : Type 0
Read = Result (PesHeader × ℕ) PesError

not_ok : (e : PesError) (h : PesHeader × ℕ) → ◌≡◌ {A = Read} (Err e) (Ok h) → ⊥
not_ok e h is = absurd cc

value_is : (g h : PesHeader × ℕ) → ◌≡◌ {A = Read} (Ok g) (Ok h) → g ≡ h
value_is g h is = cc

-- A header that is read passes each test.
passes : (b : Bool) (e : PesError) (r : Read) (h : PesHeader × ℕ) → cond b (Err e) r ≡ Ok h → b ≡ false
passes true e r h is = absurd (not_ok e h is)
passes false e r h is = refl

passed : (b : Bool) (e : PesError) (r : Read) (h : PesHeader × ℕ) → cond b (Err e) r ≡ Ok h → r ≡ Ok h
passed true e r h is = absurd (not_ok e h is)
passed false e r h is = is

-- The size of a header with flags
sized : (r : Result Stamps PesError) (f : Stamps → PesHeader) (n : ℕ) (h : PesHeader × ℕ) → (r >>= (λ stamps. Ok (f stamps, n))) ≡ Ok h → h.1 ≡ n
sized (Ok stamps) f n h is = sym (ap (λ (x : PesHeader × ℕ). x.1) (value_is (f stamps, n) h is))
sized (Err e) f n h is = absurd (not_ok e h is)

data_size : (id len first second size : ℕ) (bytes : List ℕ) (h : PesHeader × ℕ) → data_at id len first second size bytes ≡ Ok h → h.1 ≡ 9 + size
unfolding data_at
data_size id len first second size bytes h is =
    let one = passed (is_bad_flags first second) BadFlags _ h is in
    let two = passed (is_too_short len size) Length _ h one in
    sized (stamps_at (second / 64) (take size bytes)) _ (9 + size) h two

-- The data of a header depend on its own bytes alone.
data_front : (id len first second size : ℕ) (bytes : List ℕ) → size ≤ length bytes →
    data_at id len first second size (take size bytes) ≡ data_at id len first second size bytes
unfolding data_at
data_front id len first second size bytes there =
    let n : length (take size bytes) ≡ size = length-take-le size bytes there in
    rw (take_all size (take size bytes) (omega (arith, n))) refl

-- The bytes of the header are there, and the header can be read from them alone.
abbrev pub IsAlone : List ℕ → PesHeader × ℕ → Type 0
IsAlone bytes h = (h.1 ≤ length bytes) × (start_at (take h.1 bytes) ≡ Ok h)

nine : (size : ℕ) → 9 + size ≡ suc (suc (suc (suc (suc (suc (suc (suc (suc size))))))))
nine size = omega arith

-- A header with flags
flags_alone : (p q r id high low : ℕ) (bytes : List ℕ) (h : PesHeader × ℕ) → has_flags id ≡ true → flags_at id (high * 256 + low) bytes ≡ Ok h →
    IsAlone (p ∷ q ∷ r ∷ id ∷ high ∷ low ∷ bytes) h
unfolding start_at flags_at
flags_alone p q r id high low [] h flags is = absurd (not_ok Short h is)
flags_alone p q r id high low (first ∷ []) h flags is = absurd (not_ok Short h is)
flags_alone p q r id high low (first ∷ second ∷ []) h flags is = absurd (not_ok Short h is)
flags_alone p q r id high low (first ∷ second ∷ size ∷ bytes) h flags is =
    let there : size ≤ length bytes = ltb-false (length bytes) size (passes (ltb (length bytes) size) Short _ h is) in
    let read_data : data_at id (high * 256 + low) first second size bytes ≡ Ok h = passed (ltb (length bytes) size) Short _ h is in
    let n : h.1 ≡ 9 + size = data_size id (high * 256 + low) first second size bytes h read_data in
    let whole : length (take size bytes) ≡ size = length-take-le size bytes there in
    let enough : ltb (length (take size bytes)) size ≡ false = le-ltb (length (take size bytes)) size (omega (arith, whole)) in
    let front : take h.1 (p ∷ q ∷ r ∷ id ∷ high ∷ low ∷ first ∷ second ∷ size ∷ bytes) ≡ p ∷ q ∷ r ∷ id ∷ high ∷ low ∷ first ∷ second ∷ size ∷ take size bytes =
    ap (λ (k : ℕ). take k (p ∷ q ∷ r ∷ id ∷ high ∷ low ∷ first ∷ second ∷ size ∷ bytes)) (n ∙ nine size) in
    let read : start_at (p ∷ q ∷ r ∷ id ∷ high ∷ low ∷ first ∷ second ∷ size ∷ take size bytes) ≡ Ok h =
    rw (flags, enough, data_front id (high * 256 + low) first second size bytes there) read_data in
    (omega (arith, n, there), rw front read)

-- A header without flags, read from six bytes
plain_alone : (none : PesHeader) (p q r id high low : ℕ) (bytes : List ℕ) (h : PesHeader × ℕ) → start_at (p ∷ q ∷ r ∷ id ∷ high ∷ low ∷ []) ≡ Ok (none, 6) →
    ◌≡◌ {A = Read} (Ok (none, 6)) (Ok h) → IsAlone (p ∷ q ∷ r ∷ id ∷ high ∷ low ∷ bytes) h
plain_alone none p q r id high low bytes h six is =
    let n : 6 ≡ h.1 = ap (λ (x : PesHeader × ℕ). x.1) (value_is (none, 6) h is) in
    let front : take h.1 (p ∷ q ∷ r ∷ id ∷ high ∷ low ∷ bytes) ≡ p ∷ q ∷ r ∷ id ∷ high ∷ low ∷ [] =
    ap (λ (k : ℕ). take k (p ∷ q ∷ r ∷ id ∷ high ∷ low ∷ bytes)) (sym n) in
    (omega (arith, n), ap start_at front ∙ six ∙ is)

by_flags : (b : Bool) (none : PesHeader) (p q r id high low : ℕ) (bytes : List ℕ) (h : PesHeader × ℕ) → has_flags id ≡ b →
    (has_flags id ≡ false → start_at (p ∷ q ∷ r ∷ id ∷ high ∷ low ∷ []) ≡ Ok (none, 6)) →
    cond b (flags_at id (high * 256 + low) bytes) (Ok (none, 6)) ≡ Ok h → IsAlone (p ∷ q ∷ r ∷ id ∷ high ∷ low ∷ bytes) h
by_flags true none p q r id high low bytes h flags six is = flags_alone p q r id high low bytes h flags is
by_flags false none p q r id high low bytes h flags six is = plain_alone none p q r id high low bytes h (six flags) is

start_alone : (bytes : List ℕ) (h : PesHeader × ℕ) → start_at bytes ≡ Ok h → IsAlone bytes h
unfolding start_at
start_alone [] h is = absurd (not_ok Short h is)
start_alone (p ∷ []) h is = absurd (not_ok Short h is)
start_alone (p ∷ q ∷ []) h is = absurd (not_ok Short h is)
start_alone (p ∷ q ∷ r ∷ []) h is = absurd (not_ok Short h is)
start_alone (p ∷ q ∷ r ∷ id ∷ []) h is = absurd (not_ok Short h is)
start_alone (p ∷ q ∷ r ∷ id ∷ high ∷ []) h is = absurd (not_ok Short h is)
start_alone (p ∷ q ∷ r ∷ id ∷ high ∷ low ∷ bytes) h is = by_flags (has_flags id) _ p q r id high low bytes h refl (λ e. rw e refl) is

-- A front with a whole header has the prefix.
prefix_front : (n : ℕ) (bytes : List ℕ) (h : PesHeader × ℕ) → start_at (take n bytes) ≡ Ok h → misses_prefix bytes ≡ false →
    misses_prefix (take n bytes) ≡ false
unfolding start_at
prefix_front zero bytes h is e = refl
prefix_front (suc zero) [] h is e = refl
prefix_front (suc n) [] h is e = refl
prefix_front (suc zero) (p ∷ bytes) h is e = absurd (not_ok Short h is)
prefix_front (suc (suc n)) (p ∷ []) h is e = e
prefix_front (suc (suc zero)) (p ∷ q ∷ bytes) h is e = absurd (not_ok Short h is)
prefix_front (suc (suc (suc n))) (p ∷ q ∷ []) h is e = e
prefix_front (suc (suc (suc n))) (p ∷ q ∷ r ∷ bytes) h is e = e

-- A header that was read is there as a whole, and depends on its own bytes alone.
pub header_there : (bytes : List ℕ) (h : PesHeader × ℕ) → header_at bytes ≡ Ok h → h.1 ≤ length bytes
unfolding header_at
header_there bytes h is = (start_alone bytes h (passed (misses_prefix bytes) Prefix (start_at bytes) h is)).0

pub header_alone : (bytes : List ℕ) (h : PesHeader × ℕ) → header_at bytes ≡ Ok h → header_at (take h.1 bytes) ≡ Ok h
unfolding header_at
header_alone bytes h is =
    let alone = start_alone bytes h (passed (misses_prefix bytes) Prefix (start_at bytes) h is) in
    let fits = prefix_front h.1 bytes h alone.1 (passes (misses_prefix bytes) Prefix (start_at bytes) h is) in
    rw fits alone.1

-- The size of a header
flagged_size : (id len : ℕ) (bytes : List ℕ) (h : PesHeader × ℕ) → get_or bytes 2 0 < 256 → flags_at id len bytes ≡ Ok h → h.1 ≤ 264
unfolding flags_at
flagged_size id len [] h few is = absurd (not_ok Short h is)
flagged_size id len (first ∷ []) h few is = absurd (not_ok Short h is)
flagged_size id len (first ∷ second ∷ []) h few is = absurd (not_ok Short h is)
flagged_size id len (first ∷ second ∷ size ∷ bytes) h few is =
    let n = data_size id len first second size bytes h (passed (ltb (length bytes) size) Short _ h is) in omega (arith, n, few)

size_by : (b : Bool) (none : PesHeader) (id len : ℕ) (bytes : List ℕ) (h : PesHeader × ℕ) → get_or bytes 2 0 < 256 →
    cond b (flags_at id len bytes) (Ok (none, 6)) ≡ Ok h → h.1 ≤ 264
size_by true none id len bytes h few is = flagged_size id len bytes h few is
size_by false none id len bytes h few is =
    let n : 6 ≡ h.1 = ap (λ (x : PesHeader × ℕ). x.1) (value_is (none, 6) h is) in omega (arith, n)

start_size : (bytes : List ℕ) (h : PesHeader × ℕ) → get_or bytes 8 0 < 256 → start_at bytes ≡ Ok h → h.1 ≤ 264
unfolding start_at
start_size [] h few is = absurd (not_ok Short h is)
start_size (p ∷ []) h few is = absurd (not_ok Short h is)
start_size (p ∷ q ∷ []) h few is = absurd (not_ok Short h is)
start_size (p ∷ q ∷ r ∷ []) h few is = absurd (not_ok Short h is)
start_size (p ∷ q ∷ r ∷ id ∷ []) h few is = absurd (not_ok Short h is)
start_size (p ∷ q ∷ r ∷ id ∷ high ∷ []) h few is = absurd (not_ok Short h is)
start_size (p ∷ q ∷ r ∷ id ∷ high ∷ low ∷ bytes) h few is = size_by (has_flags id) _ id (high * 256 + low) bytes h few is

pub header_size : (bytes : List ℕ) (h : PesHeader × ℕ) → IsBytes bytes → header_at bytes ≡ Ok h → h.1 ≤ 264
unfolding header_at
header_size bytes h b is = start_size bytes h (b 8) (passed (misses_prefix bytes) Prefix (start_at bytes) h is)
