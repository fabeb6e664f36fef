-- A time stamp is read if and only if the bytes are a time stamp by the table of its fields.
use Rattle.std.proofs.Common.{◌≡◌, ℕ, ◌+◌, ◌*◌, ◌/◌, ◌%◌, ◌^◌, ◌<◌, ◌≤◌, ◌==◌, Bool, true, false, cond, Result, Ok, Err, List, [], ◌∷◌, ◌++◌, length, take}
use Rattle.std.proofs.Common.{drop, refl, sym, ap, ◌∙◌, subst, arith, ltb, append_assoc, ◌⊎◌, inl, inr}
use Rattle.std.proofs.lemmas.Bool.{eqb-true, eq-eqb, and_parts, and_from, ltb-false, le-ltb}
use Rattle.std.proofs.lemmas.List.{length-append, length-take-le, take-append-drop, take_at, drop_at}
use Rattle.bit_fields.specs.Fields.{number, fields, IsBytes}
use Rattle.bit_fields.proofs.Bind.{bind_ok, guard_ok, chosen, ok_is, ok_not_err}
use Rattle.bit_fields.proofs.ByteLists.{IsBytes-take, IsBytes-drop, IsBytes-append_left, IsBytes-append_right}
use Rattle.pes_packet.specs.Reading.{stamp_at, five_at, pts_at, pts_dts_at, stamps_at}
use Rattle.pes_packet.specs.Syntax.{IsStamp, IsPtsDts, IsStamps, stamp_flags}
use Rattle.pes_packet.specs.declared.refusal.PesError.{PesError}
use Rattle.pes_packet.specs.declared.refusal.PesError.TheVariants.{Marker, Length, BadFlags}
use Rattle.pes_packet.specs.declared.time_stamps.Stamps.{Stamps}
use Rattle.pes_packet.specs.declared.time_stamps.Stamps.TheVariants.{Absent, Pts, PtsDts}

-- A test that returns Ok was passed.
pub passed : {A E : Type 0} (b : Bool) (x y : A) (d : E) → cond b (Ok x) (Err d) ≡ Ok y → (b ≡ true) × (x ≡ y)
passed true x y d e = (refl, cc)
passed false x y d e = absurd cc

stamp_of : (a b c d e v : ℕ) → a < 256 → b < 256 → c < 256 → d < 256 → e < 256
    → a % 2 ≡ 1 → c % 2 ≡ 1 → e % 2 ≡ 1
    → (a / 2 % 8 * 2 ^ 15 + (b * 256 + c) / 2) * 2 ^ 15 + (d * 256 + e) / 2 ≡ v
    → IsStamp (a ∷ b ∷ c ∷ d ∷ e ∷ []) v
stamp_of a b c d e v ha hb hc hd he ma mc me is = record {
  len = refl;
  mark = a / 16;
  spelled = omega arith;
  below = omega arith;
}

-- Bytes that are read as a time stamp are a time stamp by the table of fields.
pub stamp_takes : (front : List ℕ) (v : ℕ) → IsBytes front → length front ≡ 5 → stamp_at front ≡ Ok v → IsStamp front v
unfolding stamp_at
stamp_takes (a ∷ b ∷ c ∷ d ∷ e ∷ []) v fits len read =
    let p = passed _ _ _ _ read in
    let ac = and_parts _ _ p.0 in
    let a_c = and_parts _ _ ac.0 in
    stamp_of a b c d e v (fits 0) (fits 1) (fits 2) (fits 3) (fits 4) (eqb-true _ _ a_c.0) (eqb-true _ _ a_c.1) (eqb-true _ _ ac.1) p.1
stamp_takes [] v fits len read = absurd (omega arith)
stamp_takes (a ∷ []) v fits len read = absurd (omega arith)
stamp_takes (a ∷ b ∷ []) v fits len read = absurd (omega arith)
stamp_takes (a ∷ b ∷ c ∷ []) v fits len read = absurd (omega arith)
stamp_takes (a ∷ b ∷ c ∷ d ∷ []) v fits len read = absurd (omega arith)
stamp_takes (a ∷ b ∷ c ∷ d ∷ e ∷ f ∷ more) v fits len read = absurd (omega arith)

fields_of : (a b c d e m v : ℕ) → a < 256 → b < 256 → c < 256 → d < 256 → e < 256
    → number (a ∷ b ∷ c ∷ d ∷ e ∷ []) ≡ fields ((4, m) ∷ (3, v / 2 ^ 30) ∷ (1, 1) ∷ (15, v / 2 ^ 15 % 2 ^ 15) ∷ (1, 1) ∷ (15, v % 2 ^ 15) ∷ (1, 1) ∷ [])
    → v < 2 ^ 33
    → (a % 2 ≡ 1) × (c % 2 ≡ 1) × (e % 2 ≡ 1)
    × ((a / 2 % 8 * 2 ^ 15 + (b * 256 + c) / 2) * 2 ^ 15 + (d * 256 + e) / 2 ≡ v)
fields_of a b c d e m v ha hb hc hd he is below = (omega arith, omega arith, omega arith, omega arith)

read_at : (b : Bool) (x y : ℕ) (d : PesError) → b ≡ true → x ≡ y → cond b (Ok x) (Err d) ≡ Ok y
read_at b x y d p e = rw (p, e) refl

-- A time stamp by the table of fields is read.
pub stamp_again : (front : List ℕ) (v : ℕ) → IsBytes front → IsStamp front v → stamp_at front ≡ Ok v
unfolding stamp_at
stamp_again (a ∷ b ∷ c ∷ d ∷ e ∷ []) v fits s =
    let f = fields_of a b c d e s.mark v (fits 0) (fits 1) (fits 2) (fits 3) (fits 4) s.spelled s.below in
    read_at _ _ v Marker (and_from _ _ (and_from _ _ (eq-eqb _ _ f.0) (eq-eqb _ _ f.1)) (eq-eqb _ _ f.2)) f.3
stamp_again [] v fits s = absurd (omega arith)
stamp_again (a ∷ []) v fits s = absurd (omega arith)
stamp_again (a ∷ b ∷ []) v fits s = absurd (omega arith)
stamp_again (a ∷ b ∷ c ∷ []) v fits s = absurd (omega arith)
stamp_again (a ∷ b ∷ c ∷ d ∷ []) v fits s = absurd (omega arith)
stamp_again (a ∷ b ∷ c ∷ d ∷ e ∷ f ∷ more) v fits s = absurd (omega arith)

-- The next five bytes, and the bytes after them.
pub record Five (bytes : List ℕ) (five : List ℕ × List ℕ) : Type 0 where
  pub front : five.0 ≡ take 5 bytes
  pub rest : five.1 ≡ drop 5 bytes
  pub some : 5 ≤ length bytes

pub five_takes : (bytes : List ℕ) (five : List ℕ × List ℕ) → five_at bytes ≡ Ok five → Five bytes five
unfolding five_at
five_takes bytes five read =
    let g = guard_ok (ltb (length bytes) 5) Length (Ok (take 5 bytes, drop 5 bytes)) five read in
    let is : (take 5 bytes, drop 5 bytes) ≡ five = cc (g.1) in
    record { front = ap (λ (x : List ℕ × List ℕ). x.0) (sym is); rest = ap (λ (x : List ℕ × List ℕ). x.1) (sym is); some = ltb-false _ _ g.0 }

pub five_again : (bytes : List ℕ) → 5 ≤ length bytes → five_at bytes ≡ Ok (take 5 bytes, drop 5 bytes)
unfolding five_at
five_again bytes some = rw (le-ltb (length bytes) 5 some) refl

-- Time stamps are at the front of header data.
pub record ReadsStamps (flags : ℕ) (bytes : List ℕ) (stamps : Stamps) : Type 0 where
  pub front : List ℕ
  pub others : List ℕ
  pub is : bytes ≡ front ++ others
  pub flags_are : flags ≡ stamp_flags stamps
  pub matching : IsStamps front stamps

five_long : (bytes : List ℕ) → 5 ≤ length bytes → length (take 5 bytes) ≡ 5
five_long bytes h = length-take-le 5 bytes h

pub pts_takes : (flags : ℕ) (bytes : List ℕ) (stamps : Stamps) → IsBytes bytes → flags ≡ 2 → pts_at bytes ≡ Ok stamps → ReadsStamps flags bytes stamps
unfolding pts_at
pts_takes flags bytes stamps fits two read =
    let f = bind_ok (five_at bytes) _ stamps read in
    let five = five_takes bytes f.0 f.1 in
    let s = bind_ok (stamp_at f.0.0) _ stamps f.2 in
    let made : ◌≡◌ {A = Result Stamps PesError} (Ok (Pts s.0)) (Ok stamps) = s.2 in
    let is : Pts s.0 ≡ stamps = cc (made) in
    let matches : IsStamp (take 5 bytes) s.0 =
    stamp_takes (take 5 bytes) s.0 (IsBytes-take 5 bytes fits) (five_long bytes five.some) (ap stamp_at (sym five.front) ∙ s.1) in
    subst (λ (x : Stamps). ReadsStamps flags bytes x) is (record {
      front = take 5 bytes;
      others = drop 5 bytes;
      is = sym (take-append-drop 5 bytes);
      flags_are = two;
      matching = matches;
    })

split_ten : (bytes : List ℕ) → bytes ≡ (take 5 bytes ++ take 5 (drop 5 bytes)) ++ drop 5 (drop 5 bytes)
split_ten bytes =
    let a : take 5 bytes ++ drop 5 bytes ≡ bytes = take-append-drop 5 bytes in
    let b : take 5 (drop 5 bytes) ++ drop 5 (drop 5 bytes) ≡ drop 5 bytes = take-append-drop 5 (drop 5 bytes) in
    sym a ∙ ap (λ (t : List ℕ). take 5 bytes ++ t) (sym b) ∙ sym (append_assoc (take 5 bytes) (take 5 (drop 5 bytes)) (drop 5 (drop 5 bytes)))

pub pts_dts_takes : (flags : ℕ) (bytes : List ℕ) (stamps : Stamps) → IsBytes bytes → flags ≡ 3 → pts_dts_at bytes ≡ Ok stamps → ReadsStamps flags bytes stamps
unfolding pts_dts_at
pts_dts_takes flags bytes stamps fits three read =
    let f = bind_ok (five_at bytes) _ stamps read in
    let first = five_takes bytes f.0 f.1 in
    let g = bind_ok (five_at f.0.1) _ stamps f.2 in
    let second = five_takes f.0.1 g.0 g.1 in
    let p = bind_ok (stamp_at f.0.0) _ stamps g.2 in
    let d = bind_ok (stamp_at g.0.0) _ stamps p.2 in
    let made : ◌≡◌ {A = Result Stamps PesError} (Ok (PtsDts p.0 d.0)) (Ok stamps) = d.2 in
    let is : PtsDts p.0 d.0 ≡ stamps = cc (made) in
    let front : g.0.0 ≡ take 5 (drop 5 bytes) = second.front ∙ ap (take {A = ℕ} 5) first.rest in
    let more : 5 ≤ length (drop 5 bytes) = subst (λ (t : List ℕ). 5 ≤ length t) first.rest second.some in
    let pts_matches : IsStamp (take 5 bytes) p.0 =
    stamp_takes (take 5 bytes) p.0 (IsBytes-take 5 bytes fits) (five_long bytes first.some) (ap stamp_at (sym first.front) ∙ p.1) in
    let dts_matches : IsStamp (take 5 (drop 5 bytes)) d.0 =
    stamp_takes (take 5 (drop 5 bytes)) d.0 (IsBytes-take 5 (drop 5 bytes) (IsBytes-drop 5 bytes fits)) (five_long (drop 5 bytes) more)
    (ap stamp_at (sym front) ∙ d.1) in
    subst (λ (x : Stamps). ReadsStamps flags bytes x) is (record {
      front = take 5 bytes ++ take 5 (drop 5 bytes);
      others = drop 5 (drop 5 bytes);
      is = split_ten bytes;
      flags_are = three;
      matching = record { first = take 5 bytes; second = take 5 (drop 5 bytes); is = refl; pts_matches = pts_matches; dts_matches = dts_matches };
    })

-- The choice that PTS_DTS_flags makes.
ways : (flags : ℕ) (none pts both : Result Stamps PesError) (stamps : Stamps)
    → cond (flags == 0) none (cond (flags == 2) pts (cond (flags == 3) both (Err BadFlags))) ≡ Ok stamps
    → ((flags ≡ 0) × (none ≡ Ok stamps)) ⊎ (((flags ≡ 2) × (pts ≡ Ok stamps)) ⊎ ((flags ≡ 3) × (both ≡ Ok stamps)))
ways flags none pts both stamps e =
    elim (chosen (flags == 0) none (cond (flags == 2) pts (cond (flags == 3) both (Err BadFlags))) (Ok stamps) e) [
      | inl a ↦ inl (eqb-true flags 0 a.0, a.1)
      | inr f ↦
          elim (chosen (flags == 2) pts (cond (flags == 3) both (Err BadFlags)) (Ok stamps) f.1) [
            | inl a ↦ inr (inl (eqb-true flags 2 a.0, a.1))
            | inr g ↦
                elim (chosen (flags == 3) both (Err BadFlags) (Ok stamps) g.1) [
                  | inl a ↦ inr (inr (eqb-true flags 3 a.0, a.1))
                  | inr bad ↦ ok_not_err stamps BadFlags (sym bad.1)
                ]
          ]
    ]

pub stamps_takes : (flags : ℕ) (bytes : List ℕ) (stamps : Stamps) → IsBytes bytes → stamps_at flags bytes ≡ Ok stamps → ReadsStamps flags bytes stamps
unfolding stamps_at
stamps_takes flags bytes stamps fits read =
    elim (ways flags (Ok Absent) (pts_at bytes) (pts_dts_at bytes) stamps read) [
      | inl none ↦
          subst (λ (x : Stamps). ReadsStamps flags bytes x) (ok_is Absent stamps none.1)
          (record { front = []; others = bytes; is = refl; flags_are = none.0; matching = refl })
      | inr (inl pts) ↦ pts_takes flags bytes stamps fits pts.0 pts.1
      | inr (inr both) ↦ pts_dts_takes flags bytes stamps fits both.0 both.1
    ]

five_front : (front others : List ℕ) → length front ≡ 5 → five_at (front ++ others) ≡ Ok (front, others)
five_front front others len =
    let a : take 5 (front ++ others) ≡ front = take_at front others 5 len in
    let b : drop 5 (front ++ others) ≡ others = drop_at front others 5 len in
    five_again (front ++ others) (omega (arith, length-append front others)) ∙ rw (a, b) refl

pub pts_again : (front others : List ℕ) (pts : ℕ) → IsBytes front → IsStamp front pts → pts_at (front ++ others) ≡ Ok (Pts pts)
unfolding pts_at
pts_again front others pts fits matches =
    rw (five_front front others matches.len, stamp_again front pts fits matches) refl

pub pts_dts_again : (front others : List ℕ) (pts dts : ℕ) → IsBytes front → IsPtsDts front pts dts → pts_dts_at (front ++ others) ≡ Ok (PtsDts pts dts)
unfolding pts_dts_at
pts_dts_again front others pts dts fits matches =
    let both : IsBytes (matches.first ++ matches.second) = subst IsBytes matches.is fits in
    let is : front ++ others ≡ matches.first ++ (matches.second ++ others) =
    ap (λ (t : List ℕ). t ++ others) matches.is ∙ append_assoc matches.first matches.second others in
    let p : stamp_at matches.first ≡ Ok pts = stamp_again matches.first pts (IsBytes-append_left matches.first matches.second both) matches.pts_matches in
    let d : stamp_at matches.second ≡ Ok dts = stamp_again matches.second dts (IsBytes-append_right matches.first matches.second both) matches.dts_matches in
    let f : five_at (matches.first ++ (matches.second ++ others)) ≡ Ok (matches.first, matches.second ++ others) =
    five_front matches.first (matches.second ++ others) matches.pts_matches.len in
    let s : five_at (matches.second ++ others) ≡ Ok (matches.second, others) = five_front matches.second others matches.dts_matches.len in
    rw (is, f, s, p, d) refl

-- Time stamps at the front of header data are read.
pub stamps_again : (stamps : Stamps) (front others : List ℕ) → IsBytes front → IsStamps front stamps →
    stamps_at (stamp_flags stamps) (front ++ others) ≡ Ok stamps
unfolding stamps_at
stamps_again Absent front others fits matches = refl
stamps_again (Pts pts) front others fits matches = pts_again front others pts fits matches
stamps_again (PtsDts pts dts) front others fits matches = pts_dts_again front others pts dts fits matches
