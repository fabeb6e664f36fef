-- Bytes that are too few for a reader are few.
use Rattle.std.proofs.Common.{◌≡◌, ℕ, ◌+◌, ◌*◌, ◌/◌, ◌%◌, ◌<◌, ◌==◌, Bool, true, false, cond, List, [], ◌∷◌, length, take, drop, get_or, Result, Ok, Err, refl}
use Rattle.std.proofs.Common.{ap, arith, ltb}
use Rattle.std.proofs.lemmas.Bool.{ltb-true}
use Rattle.bit_fields.specs.Fields.{IsBytes}
use Rattle.bit_fields.specs.Reading.{◌>>=◌}
use Rattle.pes_packet.specs.StreamIds.{has_flags}
use Rattle.pes_packet.specs.Reading.{marked, stamp_value, stamp_at, five_at, pts_at, pts_dts_at, stamps_at, is_too_short, is_bad_flags, data_at, flags_at}
use Rattle.pes_packet.specs.Reading.{misses_prefix, header_at}
use Rattle.pes_packet.specs.Reading as reading
use Rattle.pes_packet.specs.declared.refusal.PesError.{PesError}
use Rattle.pes_packet.specs.declared.refusal.PesError.TheVariants as pes_errors
use Rattle.psi_tables.specs.Reading.{whole_at, sized_at, section_at}
use Rattle.psi_tables.specs.Reading as sections
use Rattle.psi_tables.specs.Views.{SectionView}
use Rattle.psi_tables.specs.declared.error.SectionError.{SectionError}
use Rattle.psi_tables.specs.declared.error.SectionError.TheVariants as section_errors

-- 1. PES headers

abbrev is_short : {X : Type 0} → Result X PesError → Bool
is_short (Ok x) = false
is_short (Err pes_errors.Short) = true
is_short (Err pes_errors.Prefix) = false
is_short (Err pes_errors.BadFlags) = false
is_short (Err pes_errors.Marker) = false
is_short (Err pes_errors.Length) = false

either : {X : Type 0} (b : Bool) (x y : Result X PesError) → is_short x ≡ false → is_short y ≡ false → is_short (cond b x y) ≡ false
either true x y h k = h
either false x y h k = k

then : {X Y : Type 0} (r : Result X PesError) (f : X → Result Y PesError) → is_short r ≡ false → ((x : X) → is_short (f x) ≡ false) → is_short (r >>= f) ≡ false
then (Ok x) f h k = k x
then (Err pes_errors.Short) f h k = absurd cc
then (Err pes_errors.Prefix) f h k = refl
then (Err pes_errors.BadFlags) f h k = refl
then (Err pes_errors.Marker) f h k = refl
then (Err pes_errors.Length) f h k = refl

stamp_whole : (text : List ℕ) → is_short (stamp_at text) ≡ false
unfolding stamp_at
stamp_whole text = either (marked text) (Ok (stamp_value text)) (Err pes_errors.Marker) refl refl

five_whole : (bytes : List ℕ) → is_short (five_at bytes) ≡ false
unfolding five_at
five_whole bytes = either (ltb (length bytes) 5) (Err pes_errors.Length) (Ok (take 5 bytes, drop 5 bytes)) refl refl

pts_whole : (bytes : List ℕ) → is_short (pts_at bytes) ≡ false
unfolding pts_at
pts_whole bytes = then (five_at bytes) _ (five_whole bytes) (λ text. then (stamp_at text.0) _ (stamp_whole text.0) (λ pts. refl))

pts_dts_whole : (bytes : List ℕ) → is_short (pts_dts_at bytes) ≡ false
unfolding pts_dts_at
pts_dts_whole bytes =
    then (five_at bytes) _ (five_whole bytes) (λ first. then (five_at first.1) _ (five_whole first.1) (λ second.
    then (stamp_at first.0) _ (stamp_whole first.0) (λ pts. then (stamp_at second.0) _ (stamp_whole second.0) (λ dts. refl))))

stamps_whole : (flags : ℕ) (bytes : List ℕ) → is_short (stamps_at flags bytes) ≡ false
unfolding stamps_at
stamps_whole flags bytes =
    either (flags == 0) _ _ refl (either (flags == 2) _ _ (pts_whole bytes) (either (flags == 3) _ _ (pts_dts_whole bytes) refl))

data_whole : (id len first second size : ℕ) (bytes : List ℕ) → is_short (data_at id len first second size bytes) ≡ false
unfolding data_at
data_whole id len first second size bytes =
    either (is_bad_flags first second) _ _ refl (either (is_too_short len size) _ _ refl
    (then (stamps_at (second / 64) (take size bytes)) _ (stamps_whole (second / 64) (take size bytes)) (λ stamps. refl)))

sized_short : {X : Type 0} (b : Bool) (r : Result X PesError) → is_short r ≡ false → is_short (cond b (Err pes_errors.Short) r) ≡ true → b ≡ true
sized_short true r h e = refl
sized_short false r h e = absurd cc

flags_bound : (id len : ℕ) (bytes : List ℕ) → get_or bytes 2 0 < 256 → is_short (flags_at id len bytes) ≡ true → length bytes < 258
unfolding flags_at
flags_bound id len [] h e = omega arith
flags_bound id len (first ∷ []) h e = omega arith
flags_bound id len (first ∷ second ∷ []) h e = omega arith
flags_bound id len (first ∷ second ∷ size ∷ bytes) h e =
    let k : length bytes < size = ltb-true (length bytes) size (sized_short (ltb (length bytes) size) _ (data_whole id len first second size bytes) e) in
    omega arith

flagged : {X : Type 0} (b : Bool) (x : Result X PesError) (y : X) → is_short (cond b x (Ok y)) ≡ true → is_short x ≡ true
flagged true x y e = e
flagged false x y e = absurd cc

start_bound : (bytes : List ℕ) → get_or bytes 8 0 < 256 → is_short (reading.start_at bytes) ≡ true → length bytes < 264
unfolding reading.start_at
start_bound [] h e = omega arith
start_bound (a ∷ []) h e = omega arith
start_bound (a ∷ b ∷ []) h e = omega arith
start_bound (a ∷ b ∷ c ∷ []) h e = omega arith
start_bound (a ∷ b ∷ c ∷ id ∷ []) h e = omega arith
start_bound (a ∷ b ∷ c ∷ id ∷ high ∷ []) h e = omega arith
start_bound (a ∷ b ∷ c ∷ id ∷ high ∷ low ∷ bytes) h e =
    let k : length bytes < 258 = flags_bound id (high * 256 + low) bytes h (flagged (has_flags id) _ _ e) in omega arith

prefixed : {X : Type 0} (b : Bool) (r : Result X PesError) → is_short (cond b (Err pes_errors.Prefix) r) ≡ true → is_short r ≡ true
prefixed true r e = absurd cc
prefixed false r e = e

-- A header that is too short to be read has fewer than 264 bytes.
pub header_bound : (bytes : List ℕ) → IsBytes bytes → header_at bytes ≡ Err pes_errors.Short → length bytes < 264
unfolding header_at
header_bound bytes h e = start_bound bytes (h 8) (prefixed (misses_prefix bytes) (reading.start_at bytes) (ap is_short e))

-- 2. Sections

abbrev wants_more : {X : Type 0} → Result X SectionError → Bool
wants_more (Ok x) = false
wants_more (Err section_errors.Short) = true
wants_more (Err e) = false

abbrev paired : ℕ → SectionView → Result (SectionView × ℕ) SectionError
paired n section = Ok (section, n)

checked : (b c : Bool) (x y : SectionView) (n : ℕ) → wants_more (cond b (cond c (Ok x) (Err section_errors.CheckWord)) (Ok y) >>= paired n) ≡ false
checked true true x y n = refl
checked true false x y n = refl
checked false c x y n = refl

sized_more : {X : Type 0} (u v : Bool) (r : Result X SectionError) →
    wants_more (cond u (Err section_errors.Length) (cond v (Err section_errors.Short) r)) ≡ true → wants_more r ≡ false → v ≡ true
sized_more true v r e h = absurd cc
sized_more false true r e h = refl
sized_more false false r e h = absurd cc

-- A section that is too short to be read has fewer than 4,099 bytes.
pub section_bound : (bytes : List ℕ) → IsBytes bytes → section_at bytes ≡ Err section_errors.Short → length bytes < 4099
unfolding section_at sections.section_start_at sized_at whole_at
section_bound [] h e = omega arith
section_bound (a ∷ []) h e = omega arith
section_bound (a ∷ b ∷ []) h e = omega arith
section_bound (a ∷ b ∷ c ∷ bytes) h e =
    let low : c < 256 = h 2 in
    let text : List ℕ = a ∷ b ∷ c ∷ bytes in
    let size : ℕ = 3 + (b % 16 * 256 + c) in
    let more : ltb (length text) size ≡ true = sized_more _ (ltb (length text) size) _ (ap wants_more e) (checked _ _ _ _ _) in
    let k : length text < size = ltb-true (length text) size more in
    omega arith
