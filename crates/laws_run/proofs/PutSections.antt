-- If another start follows a section, the decoder puts this section together whole, with its pointer_field before it.
use Rattle.std.proofs.Common.{◌≡◌, ◌≤◌, ◌<◌, ℕ, zero, suc, ◌+◌, ◌-◌, ◌*◌, ◌/◌, Bool, true, false, List, [], ◌∷◌, ◌++◌, length, take, drop, replicate, slice_get}
use Rattle.std.proofs.Common.{Some, All, refl, sym, ap, subst, ◌∙◌, inl, inr, arith}
use Rattle.std.specs.List.{concat}
use Rattle.std.specs.Simd.{first_chunks}
use Rattle.std.proofs.lemmas.Bool.{cases_lt, false≢true}
use Rattle.std.proofs.Math.Seq.{take-add, take-append-add}
use Rattle.std.proofs.lemmas.List.{length-append}
use Rattle.std.proofs.lemmas.List.Concat.{flat_map-cons}
use Rattle.ts_packet.specs.declared.start.Start.{Start}
use Rattle.ts_packet.specs.declared.start.Start.TheVariants.{Continues}
use Rattle.ts_packet.specs.Beginnings.{is_start, start_by}
use Rattle.slot_contents.specs.Contents.{Piece}
use Rattle.unit_queue.specs.Payloads.{marked}
use Rattle.mux_core.specs.Decoder.{put_together, cut_thing}
use Rattle.mux_core.proofs.PutTogether.{IsSome, all_marked, put_law, marked_length}

-- The continued payloads of a section begin nothing.
none_begins : (bs : List (List ℕ)) (rest : List Piece) (m j : ℕ) (p : Piece) → j < length bs → slice_get (take m (marked Continues bs ++ rest)) j ≡ Some p →
    is_start p.start ≡ false
unfolding marked
none_begins [] rest m j p lt is = absurd (omega (arith, lt))
none_begins (b ∷ bs) rest zero j p lt is = absurd (let no : ⊥ = cc in no)
none_begins (b ∷ bs) rest (suc m) zero p lt is = let same : record { start = Continues; bytes = b } ≡ p = cc in sym (ap (λ (q : Piece). is_start q.start) same)
none_begins (b ∷ bs) rest (suc m) (suc j) p lt is = none_begins bs rest m j p (omega (arith, lt)) is

pub first_ends : (start : Start) (c : List (List ℕ)) (rest : List Piece) (m j : ℕ) (p : Piece) → slice_get (take m (marked start c ++ rest)) (suc j) ≡ Some p →
    is_start p.start ≡ true → length c ≤ suc j
unfolding marked
first_ends start [] rest m j p is begins = omega arith
first_ends start (b ∷ bs) rest zero j p is begins = absurd (let no : ⊥ = cc in no)
first_ends start (b ∷ bs) rest (suc m) j p is begins = elim (cases_lt j (length bs)) [
  | inl lt ↦ absurd (false≢true (sym (none_begins bs rest m j p lt is) ∙ begins))
  | inr le ↦ omega (arith, le)
]

short_list : (ps : List Piece) (m j : ℕ) (p : Piece) → slice_get (take m ps) j ≡ Some p → j < m
short_list [] zero j p is = absurd (let no : ⊥ = cc in no)
short_list [] (suc m) j p is = absurd (let no : ⊥ = cc in no)
short_list (q ∷ ps) zero j p is = absurd (let no : ⊥ = cc in no)
short_list (q ∷ ps) (suc m) zero p is = omega arith
short_list (q ∷ ps) (suc m) (suc j) p is = let rest = short_list ps m j p is in omega (arith, rest)

-- If a payload after the first begins something, the first section is whole.
pub first_whole : (c : Bool × List (List ℕ)) (cs : List (Bool × List (List ℕ))) (m j : ℕ) (p : Piece) → All IsSome (c ∷ cs) →
    slice_get (take m (all_marked (c ∷ cs))) (suc j) ≡ Some p → is_start p.start ≡ true →
    slice_get (put_together (take m (all_marked (c ∷ cs)))) 0 ≡ Some (concat c.1)
first_whole c cs m j p some is begins =
    let start = start_by true c.0 in
    let front : all_marked (c ∷ cs) ≡ marked (start_by true c.0) c.1 ++ all_marked cs = flat_map-cons cut_thing c cs in
    let ends = first_ends start c.1 (all_marked cs) m j p (subst (λ (ps : List Piece). slice_get (take m ps) (suc j) ≡ Some p) front is) begins in
    let within = short_list (all_marked (c ∷ cs)) m (suc j) p is in
    let size = ap length (flat_map-cons cut_thing c []) ∙ length-append (marked start c.1) [] in
    put_law (c ∷ cs) c m 0 some refl (omega (arith, ends, within, size, marked_length start c.1))

-- A section with its pointer_field

pub chunks_joined : (k : ℕ) (bytes : List ℕ) → concat (first_chunks 184 k bytes) ≡ take (184 * k) bytes
chunks_joined zero bytes = refl
chunks_joined (suc k) bytes =
    let more : 184 * suc k ≡ 184 + 184 * k = omega arith in
    ap (λ (x : List ℕ). take 184 bytes ++ x) (chunks_joined k (drop 184 bytes)) ∙ sym (take-add 184 (184 * k) bytes) ∙ ap (λ (n : ℕ). take n bytes) (sym more)

pub chunks_count : (k : ℕ) (bytes : List ℕ) → length (first_chunks 184 k bytes) ≡ k
chunks_count zero bytes = refl
chunks_count (suc k) bytes = ap suc (chunks_count k (drop 184 bytes))

-- The bytes 0xFF after a section in its last packet
abbrev pub fill_after : List ℕ → List ℕ
fill_after section = take (184 * ((1 + length section + 183) / 184) - 1 - length section) (replicate 184 0xFF)

pub section_joined : (section : List ℕ) →
    concat (first_chunks 184 ((1 + length section + 183) / 184) (0 ∷ (section ++ replicate 184 0xFF))) ≡ 0 ∷ (section ++ fill_after section)
section_joined section =
    let k = (1 + length section + 183) / 184 in
    let n = 184 * k - 1 - length section in
    let size : 184 * k ≡ suc (length section + n) = omega arith in
    chunks_joined k (0 ∷ (section ++ replicate 184 0xFF))
    ∙ ap (λ (a : ℕ). take a (0 ∷ (section ++ replicate 184 0xFF))) size
    ∙ ap (λ (x : List ℕ). 0 ∷ x) (take-append-add section (replicate 184 0xFF) n)
