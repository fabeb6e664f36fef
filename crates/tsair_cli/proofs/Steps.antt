-- The state of a reader of frames after each byte
use Rattle.std.proofs.Common.{◌≡◌, ◌==◌, Bool, true, false, ℕ, ◌+◌, ◌<◌, ◌≤◌, List, [], ◌∷◌, ◌++◌, length, replicate, Option, Some, None, Result, Ok, Err, refl}
use Rattle.std.proofs.Common.{sym, ap, subst, ◌∙◌, arith, inl, inr}
use Rattle.std.proofs.lemmas.Bool.{cases_lt, eq-eqb, ne_eqb}
use Rattle.std.proofs.lemmas.List.{length-append, length-replicate}
use Rattle.bit_fields.proofs.Bind.{ok_not_err}
use Rattle.pes_packet.specs.AccessUnits.{AccessUnit}
use Rattle.unit_records.specs.OpenRecords.{IsOpen, StaysRefused, TakesBytes, come_of}
use Rattle.unit_records.specs.Records.{max_unit_size, record_at, size_at}
use Rattle.unit_records.specs.declared.reading.UnitFileError.{UnitFileError}
use Rattle.unit_records.specs.declared.taking.OpenRecord.{OpenRecord}
use Rattle.unit_records.specs.declared.reading.UnitFileError.TheVariants.{Cut, Size, Device, Memory}
use Rattle.unit_records.proofs.RecordReading.{record_size, record_whole}
use Rattle.unit_records.proofs.RecordTaking.{cut_inside}
use Rattle.tsair_cli.specs.Frames.{FrameAnswer, FrameState, Outside, Within, Escaped, Lost, at_byte, at_mark, by_record, frame_step, with_bytes}
use Rattle.tsair_cli.specs.OpenFrames.{HasState, Steps, fault_of, state_by, state_of}
use Rattle.tsair_cli.specs.declared.frame_fault.FrameFault.TheVariants.{Dropped}
use Rattle.tsair_cli.specs.declared.frame.OpenFrame.{OpenFrame}
use Rattle.tsair_cli.specs.declared.frame.Place.{Place}
use Rattle.tsair_cli.specs.declared.frame.Place.TheVariants.{Before, Inside, AfterEscape, Skipping}
use Rattle.tsair_cli.proofs.HalfRecords.{part_stays}

-- 1. Marks

begun_is_dropped : (come : List ℕ) → record_at come ≡ Err Cut → at_mark (Within come) ≡ Err Dropped
unfolding at_mark record_at
begun_is_dropped [] cut = ok_not_err None Cut cut
begun_is_dropped (x ∷ xs) cut = rw (ne_eqb (length (x ∷ xs)) 0 (λ e. omega arith)) refl

none_is_quiet : (come : List ℕ) → come ≡ [] → at_mark (Within come) ≡ Ok None
unfolding at_mark
none_is_quiet come e = rw e refl

at_place : (frame : OpenFrame) (p : Place) → frame.place ≡ p → at_mark (state_of frame) ≡ at_mark (state_by p (come_of frame.begun))
at_place frame p is = ap (λ (q : Place). at_mark (state_by q (come_of frame.begun))) is

pub before_is_quiet : (frame : OpenFrame) → frame.place ≡ Before → at_mark (state_of frame) ≡ Ok None
unfolding at_mark
before_is_quiet frame is = at_place frame Before is

pub skipping_is_quiet : (frame : OpenFrame) → frame.place ≡ Skipping → at_mark (state_of frame) ≡ Ok None
unfolding at_mark
skipping_is_quiet frame is = at_place frame Skipping is

pub escape_is_dropped : (frame : OpenFrame) → frame.place ≡ AfterEscape → at_mark (state_of frame) ≡ Err Dropped
unfolding at_mark
escape_is_dropped frame is = at_place frame AfterEscape is

pub inside_is_dropped : (frame : OpenFrame) → frame.place ≡ Inside → record_at (come_of frame.begun) ≡ Err Cut → at_mark (state_of frame) ≡ Err Dropped
inside_is_dropped frame is cut = at_place frame Inside is ∙ begun_is_dropped (come_of frame.begun) cut

pub inside_is_quiet : (frame : OpenFrame) → frame.place ≡ Inside → come_of frame.begun ≡ [] → at_mark (state_of frame) ≡ Ok None
inside_is_quiet frame is none = at_place frame Inside is ∙ none_is_quiet (come_of frame.begun) none

-- 2. The step for a byte

pub a_mark : (s : FrameState) (b : ℕ) → b ≡ 192 → frame_step s b ≡ (Within [], at_mark s)
unfolding frame_step
a_mark s b e = rw (eq-eqb b 192 e) refl

no_mark : (s : FrameState) (b : ℕ) → (b ≡ 192 → ⊥) → frame_step s b ≡ at_byte s b
unfolding frame_step
no_mark s b e = rw (ne_eqb b 192 e) refl

-- The step for a byte that is no mark depends on the place in the frame.
pub step_at : (frame : OpenFrame) (p : Place) (b : ℕ) → (b ≡ 192 → ⊥) → frame.place ≡ p →
    frame_step (state_of frame) b ≡ at_byte (state_by p (come_of frame.begun)) b
step_at frame p b other is =
    ap (λ (q : Place). frame_step (state_by q (come_of frame.begun)) b) is ∙ no_mark (state_by p (come_of frame.begun)) b other

pub plain_byte : (come : List ℕ) (b : ℕ) → (b ≡ 219 → ⊥) → at_byte (Within come) b ≡ with_bytes (come ++ b ∷ [])
unfolding at_byte
plain_byte come b e = rw (ne_eqb b 219 e) refl

escape_byte : (come : List ℕ) (b : ℕ) → b ≡ 219 → at_byte (Within come) b ≡ (Escaped come, Ok None)
unfolding at_byte
escape_byte come b e = rw (eq-eqb b 219 e) refl

pub mark_byte : (come : List ℕ) (b : ℕ) → b ≡ 220 → at_byte (Escaped come) b ≡ with_bytes (come ++ 192 ∷ [])
unfolding at_byte
mark_byte come b e = rw (eq-eqb b 220 e) refl

pub escaped_byte : (come : List ℕ) (b : ℕ) → (b ≡ 220 → ⊥) → b ≡ 221 → at_byte (Escaped come) b ≡ with_bytes (come ++ 219 ∷ [])
unfolding at_byte
escaped_byte come b other e = rw (ne_eqb b 220 other, eq-eqb b 221 e) refl

wrong_byte : (come : List ℕ) (b : ℕ) → (b ≡ 220 → ⊥) → (b ≡ 221 → ⊥) → at_byte (Escaped come) b ≡ (Lost, Err Dropped)
unfolding at_byte
wrong_byte come b other neither = rw (ne_eqb b 220 other, ne_eqb b 221 neither) refl

-- 3. The state after the step

has_state : (s : FrameState) (frame : OpenFrame) → state_of frame ≡ s → IsOpen frame.begun → HasState s frame
has_state s frame is open_begun = record { state = is; open_record = open_begun }

-- If the step is known, its state and its answer are known.
by_step : (t u : FrameState × FrameAnswer) (frame : OpenFrame) (answer : FrameAnswer) → t ≡ u → HasState u.0 frame → u.1 ≡ answer →
    HasState t.0 frame × (t.1 ≡ answer)
by_step t u frame answer is s a =
    (subst (λ (v : FrameState × FrameAnswer). HasState v.0 frame) (sym is) s, ap (λ (v : FrameState × FrameAnswer). v.1) is ∙ a)

lost_now : (t : FrameState × FrameAnswer) (frame : OpenFrame) → t ≡ (Lost, Err Dropped) → frame.place ≡ Skipping → IsOpen frame.begun →
    HasState t.0 frame × (t.1 ≡ Err Dropped)
lost_now t frame is place open_begun =
    by_step t (Lost, Err Dropped) frame (Err Dropped) is (has_state Lost frame (ap (λ (q : Place). state_by q (come_of frame.begun)) place) open_begun) refl

pub lost_before : (old new : OpenFrame) (b : ℕ) → (b ≡ 192 → ⊥) → old.place ≡ Before → new.place ≡ Skipping → IsOpen new.begun →
    HasState (frame_step (state_of old) b).0 new × ((frame_step (state_of old) b).1 ≡ Err Dropped)
unfolding at_byte
lost_before old new b other is place open_begun = lost_now (frame_step (state_of old) b) new (step_at old Before b other is) place open_begun

pub lost_still : (frame : OpenFrame) (b : ℕ) → (b ≡ 192 → ⊥) → frame.place ≡ Skipping → IsOpen frame.begun →
    HasState (frame_step (state_of frame) b).0 frame × ((frame_step (state_of frame) b).1 ≡ Ok None)
unfolding at_byte
lost_still frame b other is open_begun =
    by_step (frame_step (state_of frame) b) (Lost, Ok None) frame (Ok None) (step_at frame Skipping b other is)
    (has_state Lost frame (ap (λ (q : Place). state_by q (come_of frame.begun)) is) open_begun) refl

pub escape_now : (old new : OpenFrame) (b : ℕ) → (b ≡ 192 → ⊥) → old.place ≡ Inside → b ≡ 219 → new.place ≡ AfterEscape → new.begun ≡ old.begun →
    IsOpen old.begun →
    HasState (frame_step (state_of old) b).0 new × ((frame_step (state_of old) b).1 ≡ Ok None)
escape_now old new b other is e place same open_begun =
    by_step (frame_step (state_of old) b) (Escaped (come_of old.begun), Ok None) new (Ok None)
    (step_at old Inside b other is ∙ escape_byte (come_of old.begun) b e)
    (has_state (Escaped (come_of old.begun)) new (ap (λ (q : Place). state_by q (come_of new.begun)) place ∙ ap (λ (r : OpenRecord). Escaped (come_of r)) same)
    (subst (λ (r : OpenRecord). IsOpen r) (sym same) open_begun)) refl

pub wrong_now : (come : List ℕ) (b : ℕ) (new : OpenFrame) → (b ≡ 220 → ⊥) → (b ≡ 221 → ⊥) → new.place ≡ Skipping → IsOpen new.begun →
    HasState (at_byte (Escaped come) b).0 new × ((at_byte (Escaped come) b).1 ≡ Err Dropped)
wrong_now come b new other neither place open_begun = lost_now (at_byte (Escaped come) b) new (wrong_byte come b other neither) place open_begun

-- 4. A byte of a record

one_more : (come : List ℕ) (byte : ℕ) → 0 < length (come ++ byte ∷ [])
one_more come byte = omega (arith, length-append come (byte ∷ []))

pub goes_on : (come : List ℕ) (byte : ℕ) (new : OpenFrame) → new.place ≡ Inside → TakesBytes come (byte ∷ []) new.begun (Ok None) →
    HasState (with_bytes (come ++ byte ∷ [])).0 new × ((with_bytes (come ++ byte ∷ [])).1 ≡ Ok None)
goes_on come byte new place taken =
    let some : 0 < length (come_of new.begun) = subst (λ (ys : List ℕ). 0 < length ys) (sym taken.1) (one_more come byte) in
    let cut : record_at (come ++ byte ∷ []) ≡ Err Cut = ap record_at (sym taken.1) ∙ cut_inside (come_of new.begun) taken.0.part some in
    by_step (with_bytes (come ++ byte ∷ [])) (Within (come ++ byte ∷ []), Ok None) new (Ok None) (part_stays (come ++ byte ∷ []) cut)
    (has_state (Within (come ++ byte ∷ [])) new (ap (λ (q : Place). state_by q (come_of new.begun)) place ∙ ap Within taken.1) taken.0) refl

pub ends_here : (come : List ℕ) (byte : ℕ) (new : OpenFrame) (whole : ℕ × (ℕ × AccessUnit)) → new.place ≡ Before →
    TakesBytes come (byte ∷ []) new.begun (Ok (Some whole)) →
    HasState (with_bytes (come ++ byte ∷ [])).0 new × ((with_bytes (come ++ byte ∷ [])).1 ≡ Ok (Some whole.1))
unfolding by_record
ends_here come byte new whole place taken =
    by_step (with_bytes (come ++ byte ∷ [])) (Outside, Ok (Some whole.1)) new (Ok (Some whole.1)) (ap (by_record (come ++ byte ∷ [])) (taken.1.1.record_is []))
    (has_state Outside new (ap (λ (q : Place). state_by q (come_of new.begun)) place) taken.0) refl

long_list : (n : ℕ) → (more : List ℕ) × (length more ≡ n)
long_list n = (replicate n 0, length-replicate n 0)

size_is_not_cut : ◌≡◌ {A = Result (Option (ℕ × AccessUnit)) UnitFileError} (Err Size) (Err Cut) → ⊥
size_is_not_cut e = absurd cc

-- With enough bytes after it, no record is cut.
never_cut : (come bytes more : List ℕ) → length more ≡ 4000021 → record_at (come ++ (bytes ++ more)) ≡ Err Cut → ⊥
never_cut come bytes more far cut =
    let long : 4000021 ≤ length (come ++ (bytes ++ more)) = omega (arith, far, length-append come (bytes ++ more), length-append bytes more) in
    elim (cases_lt max_unit_size (size_at (come ++ (bytes ++ more)))) [
      | inl big ↦ size_is_not_cut (sym (record_size (come ++ (bytes ++ more)) (omega (arith, long)) big) ∙ cut)
      | inr small ↦ ok_not_err _ Cut (sym (record_whole (come ++ (bytes ++ more)) (omega (arith, long, small)) small) ∙ cut)
    ]

no_cut : (come bytes : List ℕ) → ((more : List ℕ) → record_at (come ++ (bytes ++ more)) ≡ Err Cut) → (far : (more : List ℕ) × (length more ≡ 4000021)) → ⊥
no_cut come bytes h far = never_cut come bytes far.0 far.1 (h far.0)

pub is_refused : (come : List ℕ) (byte : ℕ) (new : OpenFrame) (e : UnitFileError) → new.place ≡ Skipping → IsOpen new.begun →
    StaysRefused come (byte ∷ []) e → Steps (with_bytes (come ++ byte ∷ [])) new (Err (fault_of e))
unfolding by_record
is_refused come byte new Cut place open_begun h = absurd (no_cut come (byte ∷ []) h (long_list 4000021))
is_refused come byte new Size place open_begun h =
    lost_now (with_bytes (come ++ byte ∷ [])) new (ap (by_record (come ++ byte ∷ [])) (h [])) place open_begun
is_refused come byte new Device place open_begun h =
    lost_now (with_bytes (come ++ byte ∷ [])) new (ap (by_record (come ++ byte ∷ [])) (h [])) place open_begun
is_refused come byte new Memory place open_begun h = has_state Lost new (ap (λ (q : Place). state_by q (come_of new.begun)) place) open_begun
