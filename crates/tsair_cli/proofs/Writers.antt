-- Frames one after another, each whole or cut
use Rattle.std.proofs.Common.{◌≡◌, ◌==◌, ◌⊎◌, Bool, true, false, ℕ, ◌+◌, ◌<◌, List, [], ◌∷◌, ◌++◌, length, Option, Some, None, Result, Ok, Err, refl, sym, ap}
use Rattle.std.proofs.Common.{subst, ◌∙◌, arith, append_assoc, inl, inr}
use Rattle.std.proofs.lemmas.Bool.{cases_Bool, eqb-true}
use Rattle.std.proofs.lemmas.List.{append-nil, length-append}
use Rattle.pes_packet.specs.AccessUnits.{AccessUnit}
use Rattle.unit_records.specs.Laws.{FitsRecord}
use Rattle.unit_records.specs.Records.{record_bytes, record_head}
use Rattle.tsair_cli.specs.Frames.{FrameAnswer, FrameState, Outside, Within, Escaped, Lost, at_byte, at_mark, entries_read, frame_of, frame_step, frames_of}
use Rattle.tsair_cli.specs.Frames.{kept, stuffed, stuffed_byte, with_bytes}
use Rattle.tsair_cli.specs.FrameLaws.{AllFit, AllStopped, Writer, WritersAreRead, whole_of, written_by}
use Rattle.tsair_cli.specs.declared.frame_fault.FrameFault.TheVariants.{Dropped}
use Rattle.tsair_cli.proofs.HalfRecords.{beginning_is_cut, part_stays, whole_ends}

-- 1. Lists

-- The state after these bytes
state_after : FrameState → List ℕ → FrameState
state_after s [] = s
state_after s (b ∷ bs) = state_after (frame_step s b).0 bs

read_on : (s : FrameState) (xs ys : List ℕ) → entries_read s (xs ++ ys) ≡ entries_read s xs ++ entries_read (state_after s xs) ys
unfolding entries_read state_after
read_on s [] ys = refl
read_on s (x ∷ xs) ys =
    ap (λ (t : List (ℕ × AccessUnit)). kept (frame_step s x).1 ++ t) (read_on (frame_step s x).0 xs ys)
    ∙ sym (append_assoc (kept (frame_step s x).1) (entries_read (frame_step s x).0 xs) (entries_read (state_after (frame_step s x).0 xs) ys))

first : List ℕ → ℕ
first [] = 0
first (x ∷ xs) = x

rest : List ℕ → List ℕ
rest [] = []
rest (x ∷ xs) = xs

same_first : (x y : ℕ) (xs ys zs : List ℕ) → zs ≡ x ∷ xs → zs ≡ y ∷ ys → (x ≡ y) × (xs ≡ ys)
unfolding first rest
same_first x y xs ys zs e f = (ap first (sym e ∙ f), ap rest (sym e ∙ f))

none_before : (xs : List ℕ) (y : ℕ) (ys : List ℕ) → xs ++ (y ∷ ys) ≡ [] → ⊥
none_before xs y ys e = omega (arith, length-append xs (y ∷ ys), ap (length {A = ℕ}) e)

-- 2. One byte of a record

stuffed_plain : (x : ℕ) → (x == 192) ≡ false → (x == 219) ≡ false → stuffed_byte x ≡ x ∷ []
unfolding stuffed_byte
stuffed_plain x e f = rw (e, f) refl

plain_read : (come more : List ℕ) (x : ℕ) → (x == 192) ≡ false → (x == 219) ≡ false → entries_read (Within come) (x ∷ more)
    ≡ kept (with_bytes (come ++ x ∷ [])).1 ++ entries_read (with_bytes (come ++ x ∷ [])).0 more
unfolding entries_read frame_step at_byte
plain_read come more x e f = rw (e, f) refl

mark_read_back : (come more : List ℕ) → entries_read (Within come) (stuffed_byte 192 ++ more)
    ≡ kept (with_bytes (come ++ 192 ∷ [])).1 ++ entries_read (with_bytes (come ++ 192 ∷ [])).0 more
unfolding entries_read frame_step at_byte stuffed_byte kept
mark_read_back come more = refl

escape_read_back : (come more : List ℕ) → entries_read (Within come) (stuffed_byte 219 ++ more)
    ≡ kept (with_bytes (come ++ 219 ∷ [])).1 ++ entries_read (with_bytes (come ++ 219 ∷ [])).0 more
unfolding entries_read frame_step at_byte stuffed_byte kept
escape_read_back come more = refl

byte_read : (come more : List ℕ) (x : ℕ) → entries_read (Within come) (stuffed_byte x ++ more)
    ≡ kept (with_bytes (come ++ x ∷ [])).1 ++ entries_read (with_bytes (come ++ x ∷ [])).0 more
byte_read come more x = elim (cases_Bool (x == 192)) [
  | inl e ↦
      subst (λ (y : ℕ). entries_read (Within come) (stuffed_byte y ++ more) ≡ kept (with_bytes (come ++ y ∷ [])).1
      ++ entries_read (with_bytes (come ++ y ∷ [])).0 more)
      (sym (eqb-true x 192 e)) (mark_read_back come more)
  | inr e ↦ elim (cases_Bool (x == 219)) [
    | inl f ↦
        subst (λ (y : ℕ). entries_read (Within come) (stuffed_byte y ++ more) ≡ kept (with_bytes (come ++ y ∷ [])).1
        ++ entries_read (with_bytes (come ++ y ∷ [])).0 more)
        (sym (eqb-true x 219 f)) (escape_read_back come more)
    | inr f ↦ ap (λ (t : List ℕ). entries_read (Within come) (t ++ more)) (stuffed_plain x e f) ∙ plain_read come more x e f
  ]
]

-- How a byte is written: as one byte, or as an escape and a second byte
abbrev pub IsWritten : ℕ → Type 0
IsWritten x = (stuffed_byte x ≡ x ∷ []) ⊎ ((c : ℕ) × (stuffed_byte x ≡ 219 ∷ c ∷ []))

is_written : (x : ℕ) → IsWritten x
unfolding stuffed_byte
is_written x = elim (cases_Bool (x == 192)) [
  | inl e ↦ inr (220, rw e refl)
  | inr e ↦ elim (cases_Bool (x == 219)) [
    | inl f ↦ inr (221, rw (e, f) refl)
    | inr f ↦ inl (rw (e, f) refl)
  ]
]

-- 3. A whole record

whole_read : (entry : ℕ × AccessUnit) → FitsRecord entry.1 → (come r more : List ℕ) → come ++ r ≡ record_bytes entry.0 entry.1 → 0 < length r →
    entries_read (Within come) (stuffed r ++ more) ≡ entry ∷ entries_read Outside more
unfolding stuffed kept
whole_read entry fits come [] more is some = absurd (omega (arith, some))
whole_read entry fits come (x ∷ []) more is some =
    ap (λ (xs : List ℕ). entries_read (Within come) (xs ++ more)) (append-nil (stuffed_byte x))
    ∙ byte_read come more x
    ∙ ap (λ (t : FrameState × FrameAnswer). kept t.1 ++ entries_read t.0 more) (whole_ends entry fits (come ++ x ∷ []) is)
whole_read entry fits come (x ∷ y ∷ ys) more is some =
    let joined : (come ++ x ∷ []) ++ (y ∷ ys) ≡ record_bytes entry.0 entry.1 = append_assoc come (x ∷ []) (y ∷ ys) ∙ is in
    let long : 0 < length (come ++ x ∷ []) = omega (arith, length-append come (x ∷ [])) in
    ap (λ (xs : List ℕ). entries_read (Within come) xs) (append_assoc (stuffed_byte x) (stuffed (y ∷ ys)) more)
    ∙ byte_read come (stuffed (y ∷ ys) ++ more) x
    ∙ ap (λ (t : FrameState × FrameAnswer). kept t.1 ++ entries_read t.0 (stuffed (y ∷ ys) ++ more))
    (part_stays (come ++ x ∷ []) (beginning_is_cut entry fits (come ++ x ∷ []) y ys joined long))
    ∙ whole_read entry fits (come ++ x ∷ []) (y ∷ ys) more joined (omega arith)

-- 4. A half record

-- A cut row of bytes is empty, or it begins with the first byte of the whole row.
within_byte : (w : ℕ) (p : List ℕ) (z : ℕ) (zs more : List ℕ) → p ++ (z ∷ zs) ≡ w ∷ more → (p ≡ []) ⊎ ((q : List ℕ) × (p ≡ w ∷ q) × (q ++ (z ∷ zs) ≡ more))
within_byte w [] z zs more e = inl refl
within_byte w (v ∷ p) z zs more e =
    let same = same_first v w (p ++ (z ∷ zs)) more _ refl e in
    inr (p, ap (λ (u : ℕ). u ∷ p) same.0, same.1)

-- If no entry is read after a whole byte that is not the last byte of the record, no entry is read from this byte on.
after_byte : (entry : ℕ × AccessUnit) → FitsRecord entry.1 → (come : List ℕ) (x y : ℕ) (ys p : List ℕ) → come ++ (x ∷ y ∷ ys) ≡ record_bytes entry.0 entry.1 →
    entries_read (Within (come ++ x ∷ [])) p ≡ [] → entries_read (Within come) (stuffed_byte x ++ p) ≡ []
unfolding kept
after_byte entry fits come x y ys p is none =
    let joined : (come ++ x ∷ []) ++ (y ∷ ys) ≡ record_bytes entry.0 entry.1 = append_assoc come (x ∷ []) (y ∷ ys) ∙ is in
    let long : 0 < length (come ++ x ∷ []) = omega (arith, length-append come (x ∷ [])) in
    byte_read come p x
    ∙ ap (λ (t : FrameState × FrameAnswer). kept t.1 ++ entries_read t.0 p)
    (part_stays (come ++ x ∷ []) (beginning_is_cut entry fits (come ++ x ∷ []) y ys joined long))
    ∙ none

escape_alone : (come : List ℕ) → entries_read (Within come) (219 ∷ []) ≡ []
unfolding entries_read frame_step at_byte kept
escape_alone come = refl

nothing_alone : (s : FrameState) → entries_read s [] ≡ []
unfolding entries_read
nothing_alone s = refl

-- Bytes that are cut within the next written byte of the record, or after it, give no entry.
half_byte : (come : List ℕ) (x : ℕ) (more p : List ℕ) (z : ℕ) (zs : List ℕ) → p ++ (z ∷ zs) ≡ stuffed_byte x ++ more →
    ((q : List ℕ) → q ++ (z ∷ zs) ≡ more → entries_read (Within come) (stuffed_byte x ++ q) ≡ []) → entries_read (Within come) p ≡ []
half_byte come x more p z zs e next = elim (is_written x) [
  | inl one ↦ elim (within_byte x p z zs more (e ∙ ap (λ (t : List ℕ). t ++ more) one)) [
    | inl none ↦ ap (entries_read (Within come)) none ∙ nothing_alone (Within come)
    | inr q ↦ ap (entries_read (Within come)) (q.1 ∙ ap (λ (t : List ℕ). t ++ q.0) (sym one)) ∙ next q.0 q.2
  ]
  | inr two ↦ elim (within_byte 219 p z zs (two.0 ∷ more) (e ∙ ap (λ (t : List ℕ). t ++ more) two.1)) [
    | inl none ↦ ap (entries_read (Within come)) none ∙ nothing_alone (Within come)
    | inr q ↦ elim (within_byte two.0 q.0 z zs more q.2) [
      | inl none ↦ ap (entries_read (Within come)) (q.1 ∙ ap (λ (t : List ℕ). 219 ∷ t) none) ∙ escape_alone come
      | inr o ↦
          ap (entries_read (Within come)) (q.1 ∙ ap (λ (t : List ℕ). 219 ∷ t) o.1 ∙ ap (λ (t : List ℕ). t ++ o.0) (sym two.1)) ∙ next o.0 o.2
    ]
  ]
]

half_read : (entry : ℕ × AccessUnit) → FitsRecord entry.1 → (come r p : List ℕ) (z : ℕ) (zs : List ℕ) → come ++ r ≡ record_bytes entry.0 entry.1 →
    p ++ (z ∷ zs) ≡ stuffed r → entries_read (Within come) p ≡ []
unfolding stuffed
half_read entry fits come [] p z zs is e = absurd (none_before p z zs e)
half_read entry fits come (x ∷ []) p z zs is e = half_byte come x [] p z zs e (λ q h. absurd (none_before q z zs h))
half_read entry fits come (x ∷ y ∷ ys) p z zs is e =
    half_byte come x (stuffed (y ∷ ys)) p z zs e
    (λ q h. after_byte entry fits come x y ys q is
    (half_read entry fits (come ++ x ∷ []) (y ∷ ys) q z zs (append_assoc come (x ∷ []) (y ∷ ys) ∙ is) h))

-- 5. Marks

no_record : (s : FrameState) → kept (at_mark s) ≡ []
unfolding kept at_mark
no_record Outside = refl
no_record (Within come) = elim (cases_Bool (length come == 0)) [
  | inl e ↦ rw e refl
  | inr e ↦ rw e refl
]
no_record (Escaped come) = refl
no_record Lost = refl

mark_read : (s : FrameState) (xs : List ℕ) → entries_read s (192 ∷ xs) ≡ entries_read (Within []) xs
unfolding entries_read frame_step
mark_read s xs = ap (λ (t : List (ℕ × AccessUnit)). t ++ entries_read (Within []) xs) (no_record s)

some_bytes : (entry : ℕ × AccessUnit) → 0 < length (record_bytes entry.0 entry.1)
unfolding record_head
some_bytes entry = omega arith

frames_read : (entries : List (ℕ × AccessUnit)) → AllFit entries → (s : FrameState) → entries_read s (frames_of entries) ≡ entries
unfolding frames_of AllFit
frames_read [] fit s = nothing_alone s
frames_read (entry ∷ entries) fit s =
    mark_read s (stuffed (record_bytes entry.0 entry.1) ++ frames_of entries)
    ∙ whole_read entry fit.0 [] (record_bytes entry.0 entry.1) (frames_of entries) refl (some_bytes entry)
    ∙ ap (λ (t : List (ℕ × AccessUnit)). entry ∷ t) (frames_read entries fit.1 Outside)

half_frame : (entry : ℕ × AccessUnit) → FitsRecord entry.1 → (half : List ℕ) (z : ℕ) (zs : List ℕ) → half ++ (z ∷ zs) ≡ frame_of entry → (s : FrameState) →
    entries_read s half ≡ []
half_frame entry fits half z zs e s = elim (within_byte 192 half z zs (stuffed (record_bytes entry.0 entry.1)) e) [
  | inl none ↦ ap (entries_read s) none ∙ nothing_alone s
  | inr q ↦
      ap (entries_read s) q.1 ∙ mark_read s q.0
      ∙ half_read entry fits [] (record_bytes entry.0 entry.1) q.0 z zs refl q.2
]

-- 6. Writers

pub writers_are_read : WritersAreRead
unfolding written_by whole_of AllStopped
writers_are_read s [] stopped = nothing_alone s
writers_are_read s (w ∷ ws) stopped =
    let then_half : entries_read s (frames_of w.whole ++ w.half) ≡ w.whole =
    read_on s (frames_of w.whole) w.half
    ∙ ap (λ (t : List (ℕ × AccessUnit)). entries_read s (frames_of w.whole) ++ t)
    (half_frame w.cut stopped.0.cut_fits w.half w.next w.missing stopped.0.half_is (state_after s (frames_of w.whole)))
    ∙ append-nil (entries_read s (frames_of w.whole)) ∙ frames_read w.whole stopped.0.whole_fit s in
    read_on s (frames_of w.whole ++ w.half) (written_by ws)
    ∙ ap (λ (t : List (ℕ × AccessUnit)). t ++ entries_read (state_after s (frames_of w.whole ++ w.half)) (written_by ws)) then_half
    ∙ ap (λ (t : List (ℕ × AccessUnit)). w.whole ++ t) (writers_are_read (state_after s (frames_of w.whole ++ w.half)) ws stopped.1)
