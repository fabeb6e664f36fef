-- The payloads of the parts of a section.
use Rattle.std.proofs.Common.{◌≡◌, ℕ, suc, ◌+◌, ◌-◌, ◌≤◌, min, List, ◌∷◌, ◌++◌, length, take, drop, replicate, ap, sym, ◌∙◌, arith, take_all, inl, inr}
use Rattle.std.proofs.lemmas.List.{take-append-le, drop-append-le, take-replicate, length-take, append-nil}
use Rattle.std.proofs.Math.Seq.{take-append-add, take-length}
use Rattle.std.proofs.lemmas.Bool.{cases_lt}
use Rattle.table_rounds.specs.Parts.{filled}

-- As many of these bytes as fit, and bytes 0xFF up to the end of the room
pub filled_up : (room : ℕ) (bytes : List ℕ) → room ≤ 184 →
    take (min (length bytes) room) bytes ++ replicate (room - min (length bytes) room) 0xFF ≡ take room (bytes ++ replicate 184 0xFF)
filled_up room bytes most = elim (cases_lt (length bytes) room) [
  | inl few ↦
      let e : min (length bytes) room ≡ length bytes = omega arith in
      let f : room ≡ length bytes + (room - length bytes) = omega arith in
      let g : take (length bytes + (room - length bytes)) (bytes ++ replicate 184 0xFF) ≡ bytes ++ take (room - length bytes) (replicate 184 0xFF) =
      take-append-add bytes (replicate 184 0xFF) (room - length bytes) in
      let h : take (room - length bytes) (replicate {A = ℕ} 184 0xFF) ≡ replicate (room - length bytes) 0xFF =
      take-replicate (room - length bytes) 184 0xFF (omega arith) in
      rw (e, take-length bytes) (sym (ap (λ (n : ℕ). take n (bytes ++ replicate 184 0xFF)) f ∙ g ∙ ap (λ (l : List ℕ). bytes ++ l) h))
  | inr many ↦
      let e : min (length bytes) room ≡ room = omega arith in
      let f : room - room ≡ 0 = omega arith in
      let g : take room (bytes ++ replicate 184 0xFF) ≡ take room bytes = take-append-le room bytes (replicate 184 0xFF) many in
      rw (e, f) (sym (g ∙ sym (append-nil (take room bytes))))
]

-- The filled section has each byte of the section one place later, after pointer_field.
pub later_bytes : (section : List ℕ) (from : ℕ) → from ≤ length section → drop from section ++ replicate 184 0xFF ≡ drop (from + 1) (filled section)
later_bytes section from within =
    let e : from + 1 ≡ suc from = omega arith in
    rw e (sym (drop-append-le from section (replicate 184 0xFF) within))

-- As many bytes as fit, and bytes 0xFF
pub filled_parts : (bytes front fill : List ℕ) (n : ℕ) → n ≡ min (length bytes) 184 → front ≡ take n bytes → fill ≡ replicate (184 - n) 0xFF
    → front ++ fill ≡ take 184 (bytes ++ replicate 184 0xFF)
filled_parts bytes front fill n size is rest =
    rw (is, rest) (ap (λ (m : ℕ). take m bytes ++ replicate (184 - m) 0xFF) size ∙ filled_up 184 bytes (omega arith))

front_filled : (section : List ℕ) (n : ℕ) → n ≡ min (length section) 183 →
    take 183 (take n section ++ replicate 184 0xFF) ≡ take 183 (section ++ replicate 184 0xFF)
front_filled section n size =
    let short : length (take n section) ≡ n = omega (arith, length-take n section, size) in
    let same : min (length (take n section)) 183 ≡ n = omega (arith, short, size) in
    let left : take n (take n section) ++ replicate (183 - n) 0xFF ≡ take 183 (take n section ++ replicate 184 0xFF) =
    ap (λ (m : ℕ). take m (take n section) ++ replicate (183 - m) 0xFF) (sym same) ∙ filled_up 183 (take n section) (omega arith) in
    let right : take n section ++ replicate (183 - n) 0xFF ≡ take 183 (section ++ replicate 184 0xFF) =
    ap (λ (m : ℕ). take m section ++ replicate (183 - m) 0xFF) size ∙ filled_up 183 section (omega arith) in
    sym left ∙ ap (λ (l : List ℕ). l ++ replicate (183 - n) 0xFF) (take_all n (take n section) (omega (arith, short))) ∙ right

-- The first part: pointer_field, and as much of the section as fits
pub first_bytes : (section front first : List ℕ) (n : ℕ) → n ≡ min (length section) 183 → front ≡ take n section → first ≡ 0 ∷ front
    → take 184 (first ++ replicate 184 0xFF) ≡ take 184 (filled section)
first_bytes section front first n size is all = rw (all, is) (ap (λ (l : List ℕ). 0 ∷ l) (front_filled section n size))

-- The first part of a section that fills the packet
pub long_first_bytes : (section front : List ℕ) → 183 ≤ length section → front ≡ take 183 section → 0 ∷ front ≡ take 184 (filled section)
long_first_bytes section front long is = rw is (ap (λ (l : List ℕ). 0 ∷ l) (sym (take-append-le 183 section (replicate 184 0xFF) long)))
