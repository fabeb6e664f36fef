-- A stream that is viewed piece by piece.
use Rattle.std.proofs.Common.{◌≡◌, ℕ, zero, suc, ◌+◌, ◌*◌, ◌-◌, ◌%◌, ◌<◌, min, ◌==◌, ◌&&◌, Bool, true, List, [], ◌∷◌, ◌++◌, length, take, drop, refl, sym, ap, ap₂, subst, ◌∙◌, arith}
use Rattle.std.proofs.Common.{append_assoc, length-append, Option, Some, None, Result, Ok, Err, ◌⊎◌, inl, inr, ◌≤◌, false}
use Rattle.std.proofs.KnownBytes.{Appends-nil, Appends-trans}
use Rattle.std.proofs.lemmas.Grind.{flat_map-append}
use Rattle.std.proofs.lemmas.List.{length-take-le, take-append-drop, take-append-le, take_all}
use Rattle.std.proofs.Math.Nat.{eq-or-lt_of_le}
use Rattle.std.proofs.Math.Seq.{drop-append_seam, take-append_seam}
use Rattle.std.specs.Io.KnownBytes.{Appends, Consumes, IsAtEnd}
use Rattle.capture.specs.Captures.{Part}
use Rattle.event_lines.specs.declared.event_lines.LineForm.{LineForm}
use Rattle.event_lines.specs.EventLines.{line_in, lines_of}
use Rattle.events.specs.declared.timed_event.TimedEvent.{TimedEvent}
use Rattle.analysis.specs.Analysis.{AnalysisState}
use Rattle.analysis.specs.Analysis.{is_crowded}
use Rattle.counted_io.specs.Device.{Failed, IsFront}
use Rattle.devices.specs.Devices.{Port, Device, between}
use Rattle.devices.specs.Lines.{Stopped, WritesLine}
use Rattle.devices.specs.WholeInput.{IsLong, ReadsFront, ReadsInput, TakesInput, longest_input}
use Rattle.devices.specs.declared.halt.Halt.{Halt}
use Rattle.std.specs.Prelude.{IfOk, IfErr}
use Rattle.devices.specs.declared.halt.Halt.TheVariants.{Read, Write, Memory}
use Rattle.devices.proofs.TakenInput.{IsAfter, TakesFront, front_end, front_more}
use Rattle.tsview_cli.specs.CapturedStreams.{IsSoFar, after_part, after_parts, events_of, part_events}
use Rattle.tsview_cli.specs.Viewing.{AreSettled, BeginsWith, Breaks, CameFront, IsCalmAfter, Reaches, Seen, Shows, StopsNext, WasCalm, lines_all, longest_piece}
use Rattle.tsview_cli.specs.declared.captured.CapturedView.{CapturedView}
use Rattle.tsview_cli.proofs.CapturedParts.{events_both}

-- 1. The lines of parts, one part after another

pub lines_both : (form : LineForm) (s : AnalysisState) (parts more : List Part) →
    lines_all form s (parts ++ more) ≡ lines_all form s parts ++ lines_all form (after_parts s parts) more
lines_both form s parts more =
    ap (lines_of form) (events_both s parts more) ∙ flat_map-append (line_in form) (events_of s parts) (events_of (after_parts s parts) more)

pub settled_by : (first : AnalysisState) (now : CapturedView) (bytes : List ℕ) (found : List Part) → IsSoFar first now bytes found → AreSettled bytes found
settled_by first now bytes found s = record { reader = now.reader; left = s.left; few = s.few }

-- 2. The view is not crowded

pub calm_so_far : (first : AnalysisState) (now : CapturedView) (bytes : List ℕ) (found : List Part) → IsSoFar first now bytes found →
    is_crowded now.parts.view ≡ false → IsCalmAfter first bytes
calm_so_far first now bytes found s calm = record { found = found; are = settled_by first now bytes found s; now = now.parts.view; kept = s.view; calm = calm }

pub none_calm : (first : AnalysisState) → WasCalm first []
none_calm first n whole below = let no : ⊥ = omega (arith, below) in absurd no

-- The end of an earlier piece, or of the last
front_calm : (first : AnalysisState) (bytes : List ℕ) (n : ℕ) → WasCalm first bytes → (length bytes % longest_piece ≡ 0 → IsCalmAfter first bytes) →
    n % longest_piece ≡ 0 → (n ≡ length bytes) ⊎ (n < length bytes) → IsCalmAfter first (take n bytes)
front_calm first bytes n was calm whole (inl all) =
    subst (IsCalmAfter first) (sym (take_all n bytes (omega (arith, all)))) (calm (sym (ap (λ (k : ℕ). k % longest_piece) all) ∙ whole))
front_calm first bytes n was calm whole (inr below) = was n whole below

-- What comes after a whole piece is read only if the view is calm, and no read goes past the end of the next piece.
pub calm_then : (first : AnalysisState) (bytes more : List ℕ) → WasCalm first bytes → (length bytes % longest_piece ≡ 0 → IsCalmAfter first bytes) →
    length more ≤ longest_piece - length bytes % longest_piece → WasCalm first (bytes ++ more)
calm_then first bytes more was calm most n whole below =
    let within : n ≤ length bytes = omega (arith, whole, most, below, length-append bytes more) in
    subst (IsCalmAfter first) (sym (take-append-le n bytes more within)) (front_calm first bytes n was calm whole (eq-or-lt_of_le within))

pub part_most : (piece : List ℕ) (n room size : ℕ) → length piece ≡ room → room ≡ longest_piece - size % longest_piece → n ≤ length piece →
    length (take n piece) ≤ longest_piece - size % longest_piece
part_most piece n room size full is fits = omega (arith, length-take-le n piece fits, full, is, fits)

-- The bytes of a read, and the end of the input
taken : (n : ℕ) (xs ys : List ℕ) → length xs ≡ n → take n (xs ++ ys) ≡ xs
taken n xs ys e = rw (sym e) (take-append_seam xs ys)

dropped : (n : ℕ) (xs ys : List ℕ) → length xs ≡ n → drop n (xs ++ ys) ≡ ys
dropped n xs ys e = rw (sym e) (drop-append_seam xs ys)

known_front : (xs part : List ℕ) (after : Option (List ℕ)) → Consumes (Some xs) after part → (ys : List ℕ) × (after ≡ Some ys) × (xs ≡ part ++ ys)
known_front xs part None never = absurd never
known_front xs part (Some ys) is = (ys, refl, is)

pub came_front : (input : Device) (piece : List ℕ) (n : ℕ) → CameFront input piece n → ReadsFront input (take n piece) n
came_front input piece n c =
    let size : length (take n piece) ≡ n = length-take-le n piece c.fits in
    record {
      fits = omega (arith, size);
      known = λ xs e.
          let k = known_front xs (take n piece) input.after.bytes (subst (λ (o : Option (List ℕ)). Consumes o input.after.bytes (take n piece)) e c.known) in
          let all : length xs ≡ length (take n piece) + length k.0 = ap length k.2 ∙ length-append (take n piece) k.0 in (
            omega (arith, size, all),
            record {
              front = take_all n (take n piece) (omega (arith, size)) ∙ sym (taken n (take n piece) k.0 size) ∙ ap (take n) (sym k.2);
              rest = k.1 ∙ ap Some (sym (dropped n (take n piece) k.0 size) ∙ ap (drop n) (sym k.2));
            },
          );
      clean = c.clean;
    }

ended : (ys : List ℕ) (after : Option (List ℕ)) → after ≡ Some ys → IsAtEnd after → ys ≡ []
ended ys None e end = absurd (let no : ⊥ = cc in no)
ended ys (Some zs) e end = let same : zs ≡ ys = cc in sym same ∙ end

-- A read of no bytes into a piece that has room ends the input.
pub came_end : (input : Device) (piece : List ℕ) (n : ℕ) → CameFront input piece n → n ≡ 0 → ReadsFront input piece n
came_end input piece n c none = record {
  fits = c.fits;
  known = λ xs e.
      let k = known_front xs (take n piece) input.after.bytes (subst (λ (o : Option (List ℕ)). Consumes o input.after.bytes (take n piece)) e c.known) in
      let empty : k.0 ≡ [] = ended k.0 input.after.bytes k.1 (c.ends none) in
      let nothing : take n piece ≡ [] = ap (λ (m : ℕ). take m piece) none in
      let same : xs ≡ [] = k.2 ∙ ap₂ (λ (a b : List ℕ). a ++ b) nothing empty in (
        let size : length xs ≡ 0 = ap length same in omega (arith, none, size),
        record {
          front = nothing ∙ sym (ap (λ (l : List ℕ). take n l) same ∙ ap (λ (m : ℕ). take m []) none);
          rest = k.1 ∙ ap Some (empty ∙ sym (ap (λ (l : List ℕ). drop n l) same ∙ ap (λ (m : ℕ). drop m []) none));
        },
      );
  clean = c.clean;
}

-- 3. The pieces that were viewed

pub seen_none : (form : LineForm) (first : AnalysisState) (now : CapturedView) (port : Port) → IsSoFar first now [] [] → Seen form first (between port port) now []
unfolding events_of
seen_none form first now port s = record { found = []; so_far = s; written = Appends-nil port.bytes; clean = refl; calm = none_calm first }

-- The lines of one more piece were written.
pub seen_then : (form : LineForm) (first : AnalysisState) (before now : CapturedView) (begin middle end : Port) (size : ℕ) (text piece : List ℕ) →
    (size % longest_piece ≡ 0 → is_crowded before.parts.view ≡ false) → length piece ≤ longest_piece - size % longest_piece →
    ((bytes : List ℕ) (found : List Part) → IsSoFar first before bytes found → Shows form first now (bytes ++ piece) found text) →
    Appends middle.bytes end.bytes text → end.failed ≡ middle.failed → (bytes : List ℕ) → length bytes ≡ size →
    Seen form first (between begin middle) before bytes → Seen form first (between begin end) now (bytes ++ piece)
seen_then form first before now begin middle end size text piece calm most shows written clean bytes size_is s =
    let m : Shows form first now (bytes ++ piece) s.found text = shows bytes s.found s.so_far in
    record {
      found = s.found ++ m.more;
      so_far = m.so_far;
      written = subst (Appends begin.bytes end.bytes) (sym (lines_both form first s.found m.more))
          (Appends-trans begin.bytes middle.bytes end.bytes (lines_all form first s.found) (lines_all form (after_parts first s.found) m.more) s.written
          (subst (Appends middle.bytes end.bytes) m.text_is written));
      clean = clean ∙ s.clean;
      calm = calm_then first bytes piece s.calm (λ whole. calm_so_far first before bytes s.found s.so_far (calm (sym (ap (λ (n : ℕ). n % longest_piece) size_is) ∙ whole)))
          (subst (λ (n : ℕ). length piece ≤ longest_piece - n % longest_piece) (sym size_is) most);
    }

-- 4. A view that ends early

after_more : (old mid new : Port) (bytes piece : List ℕ) (n : ℕ) → IsAfter old mid bytes →
    ((xs : List ℕ) → mid.bytes ≡ Some xs → (n ≡ min (length piece) (length xs)) × IsFront xs new.bytes piece n) → BeginsWith old.bytes (bytes ++ take n piece)
after_more old mid new bytes piece n b p xs e =
    let h = b xs e in
    let k = p h.0 h.2 in (
      drop n h.0,
      h.1 ∙ ap (λ (x : List ℕ). bytes ++ x) (sym (take-append-drop n h.0)) ∙ sym (append_assoc bytes (take n h.0) (drop n h.0))
          ∙ ap (λ (x : List ℕ). (bytes ++ x) ++ drop n h.0) (sym k.1.front),
    )

begins : (old mid : Port) (bytes : List ℕ) → IsAfter old mid bytes → BeginsWith old.bytes bytes
begins old mid bytes after xs e = let h = after xs e in (h.0, h.1)

-- The reader failed.
pub read_failed : (form : LineForm) (first : AnalysisState) (before : CapturedView) (old mid new : Port) (output : Device) (size : ℕ) →
    TakesFront (Seen form first output before) 1 old mid size →
    Failed mid.failed new.failed → Breaks form first (between old new) output Read
read_failed form first before old mid new output size f failed = record {
  bytes = f.bytes;
  front = begins old mid f.bytes f.known;
  found = f.taken.found;
  are = settled_by first before f.bytes f.taken.found f.taken.so_far;
  calm = f.taken.calm;
  at = (f.taken.written, inl (subst (λ (n : ℕ). Failed n new.failed) f.clean failed));
}

-- There was no memory for the lines of a piece.
pub no_memory : (form : LineForm) (first : AnalysisState) (before : CapturedView) (old mid new : Port) (output : Device) (size : ℕ) →
    TakesFront (Seen form first output before) 1 old mid size →
    new.failed ≡ mid.failed → Breaks form first (between old new) output Memory
no_memory form first before old mid new output size f clean = record {
  bytes = f.bytes;
  front = begins old mid f.bytes f.known;
  found = f.taken.found;
  are = settled_by first before f.bytes f.taken.found f.taken.so_far;
  calm = f.taken.calm;
  at = (f.taken.written, clean ∙ f.clean);
}

-- No next piece was viewed.
pub next_stopped : (form : LineForm) (first : AnalysisState) (before : CapturedView) (old mid new : Port) (output : Device) (size : ℕ) (halt : Halt) →
    TakesFront (Seen form first output before) 1 old mid size → StopsNext (between mid new) halt → Breaks form first (between old new) output halt
next_stopped form first before old mid new output size Read f failed = read_failed form first before old mid new output size f failed
next_stopped form first before old mid new output size Write f never = absurd never
next_stopped form first before old mid new output size Memory f clean = no_memory form first before old mid new output size f clean

-- The input is too long.
long_if : (known : Option (List ℕ)) (bytes : List ℕ) → longest_input < length bytes →
    ((xs : List ℕ) → known ≡ Some xs → (left : List ℕ) × (xs ≡ bytes ++ left)) → IsLong known
long_if None bytes s h = tt
long_if (Some xs) bytes s h =
    let k = h xs refl in
    let all : length xs ≡ length bytes + length k.0 = ap length k.1 ∙ length-append bytes k.0 in
    omega (arith, all, s)

pub too_long : (form : LineForm) (first : AnalysisState) (before : CapturedView) (old mid : Port) (output : Device) (size : ℕ) →
    TakesFront (Seen form first output before) 1 old mid size → longest_input < size →
    Breaks form first (between old mid) output Read
too_long form first before old mid output size f long = record {
  bytes = f.bytes;
  front = begins old mid f.bytes f.known;
  found = f.taken.found;
  are = settled_by first before f.bytes f.taken.found f.taken.so_far;
  calm = f.taken.calm;
  at = (f.taken.written, inr (long_if old.bytes f.bytes (subst (λ (n : ℕ). longest_input < n) f.size_is long) (begins old mid f.bytes f.known)));
}

-- The input is too long within its last piece.
pub too_long_then : (form : LineForm) (first : AnalysisState) (now : CapturedView) (old mid new : Port) (output : Device) (bytes piece : List ℕ) (n : ℕ) →
    IsAfter old mid bytes → ReadsFront (between mid new) piece n →
    Seen form first output now (bytes ++ take n piece) → ReadsInput (between old new) (Err Read) → Breaks form first (between old new) output Read
too_long_then form first now old mid new output bytes piece n known r s why = record {
  bytes = bytes ++ take n piece;
  front = after_more old mid new bytes piece n known r.known;
  found = s.found;
  are = settled_by first now (bytes ++ take n piece) s.found s.so_far;
  calm = s.calm;
  at = (s.written, why);
}

-- The writer failed within the lines of a piece.
pub take_past : (xs ys : List ℕ) (n : ℕ) → take (length xs + n) (xs ++ ys) ≡ xs ++ take n ys
take_past [] ys n = ap (λ (k : ℕ). take k ys) (omega arith)
take_past (x ∷ xs) ys n =
    let e : length (x ∷ xs) + n ≡ suc (length xs + n) = omega arith in
    rw e (ap (λ (l : List ℕ). x ∷ l) (take_past xs ys n))

pub write_failed : (form : LineForm) (first : AnalysisState) (before now : CapturedView) (old mid new : Port) (begin middle end : Port) (size n : ℕ)
    (text piece : List ℕ) →
    (size % longest_piece ≡ 0 → is_crowded before.parts.view ≡ false) → length (take n piece) ≤ longest_piece - size % longest_piece →
    TakesFront (Seen form first (between begin middle) before) 1 old mid size → ReadsFront (between mid new) piece n →
    ((bytes : List ℕ) (found : List Part) → IsSoFar first before bytes found → Shows form first now (bytes ++ take n piece) found text) →
    Stopped text (between middle end) → Failed middle.failed end.failed →
    Breaks form first (between old new) (between begin end) Write
write_failed form first before now old mid new begin middle end size n text piece calm most f r shows stopped failed =
    let bytes = f.bytes ++ take n piece in
    let m : Shows form first now bytes f.taken.found text = shows f.bytes f.taken.found f.taken.so_far in
    let a = lines_all form first f.taken.found in
    let lines : a ++ text ≡ lines_all form first (f.taken.found ++ m.more) =
    ap (λ (l : List ℕ). a ++ l) m.text_is ∙ sym (lines_both form first f.taken.found m.more) in
    let front : a ++ take stopped.taken text ≡ take (length a + stopped.taken) (lines_all form first (f.taken.found ++ m.more)) =
    sym (take_past a text stopped.taken) ∙ ap (take (length a + stopped.taken)) lines in
    record {
      bytes = bytes;
      front = after_more old mid new f.bytes piece n f.known r.known;
      found = f.taken.found ++ m.more;
      are = settled_by first now bytes (f.taken.found ++ m.more) m.so_far;
      calm = calm_then first f.bytes (take n piece) f.taken.calm
          (λ whole. calm_so_far first before f.bytes f.taken.found f.taken.so_far (calm (ap (λ (k : ℕ). k % longest_piece) f.size_is ∙ whole)))
          (subst (λ (k : ℕ). length (take n piece) ≤ longest_piece - k % longest_piece) f.size_is most);
      at = (
        record {
          taken = length a + stopped.taken;
          appends = subst (Appends begin.bytes end.bytes) front
              (Appends-trans begin.bytes middle.bytes end.bytes a (take stopped.taken text) f.taken.written stopped.appends);
        },
        subst (λ (k : ℕ). Failed k end.failed) f.taken.clean failed,
      );
    }

pub write_stopped : (V : Type 0) (form : LineForm) (first : AnalysisState) (before now : CapturedView) (old mid new begin middle end : Port) (size n : ℕ)
    (text piece : List ℕ) (halt : Halt) →
    (size % longest_piece ≡ 0 → is_crowded before.parts.view ≡ false) → length (take n piece) ≤ longest_piece - size % longest_piece →
    TakesFront (Seen form first (between begin middle) before) 1 old mid size → ReadsFront (between mid new) piece n →
    ((bytes : List ℕ) (found : List Part) → IsSoFar first before bytes found → Shows form first now (bytes ++ take n piece) found text) →
    WritesLine {V = V} text (between middle end) (Err halt) → Breaks form first (between old new) (between begin end) halt
write_stopped V form first before now old mid new begin middle end size n text piece Read calm most f r shows w = absurd w
write_stopped V form first before now old mid new begin middle end size n text piece Write calm most f r shows w =
    write_failed form first before now old mid new begin middle end size n text piece calm most f r shows w.0 w.1
write_stopped V form first before now old mid new begin middle end size n text piece Memory calm most f r shows w = absurd w

-- 5. The end of the input

pub if_ok : (HasTaken : List ℕ → Type 0) (input : Device) (r : Result ℕ Halt) → TakesInput HasTaken input r →
    IfOk r (λ size. TakesInput HasTaken input (Ok size))
if_ok HasTaken input (Ok size) t = t
if_ok HasTaken input (Err halt) t = tt

pub if_err : (HasTaken : List ℕ → Type 0) (form : LineForm) (first : AnalysisState) (now : CapturedView) (old mid new : Port) (output : Device) (size n : ℕ)
    (piece : List ℕ) (before : CapturedView) (middle : Device) (r : Result ℕ Halt) →
    TakesFront (Seen form first middle before) 1 old mid size → ReadsFront (between mid new) piece n →
    ((bytes : List ℕ) → length bytes ≡ size → Seen form first middle before bytes → Seen form first output now (bytes ++ take n piece)) →
    IfErr r (λ halt. (halt ≡ Read) × (longest_input < size + n)) → TakesInput HasTaken (between old new) r →
    IfErr r (Breaks form first (between old new) output)
if_err HasTaken form first now old mid new output size n piece before middle (Ok whole) f r t e takes = tt
if_err HasTaken form first now old mid new output size n piece before middle (Err halt) f r t e takes =
    subst (Breaks form first (between old new) output) (sym e.0)
    (too_long_then form first now old mid new output f.bytes piece n f.known r (t f.bytes (sym f.size_is) f.taken)
    (subst (λ (h : Halt). ReadsInput (between old new) (Err h)) e.0 takes))

-- 6. A read: its bytes are viewed, and the lines that they settle are written

module _ (form : LineForm) (first : AnalysisState) (before now : CapturedView) (old mid new begin middle end : Port) (size n room : ℕ) (text piece : List ℕ)
    (full : length piece ≡ room) (is : room ≡ longest_piece - size % longest_piece)
    (calm : size % longest_piece ≡ 0 → is_crowded before.parts.view ≡ false) (came : CameFront (between mid new) piece n)
    (shows : (bytes : List ℕ) (found : List Part) → IsSoFar first before bytes found → Shows form first now (bytes ++ take n piece) found text)
    (f : TakesFront (Seen form first (between begin middle) before) 1 old mid size) where
  abbrev HasSeen : List ℕ → Type 0
  HasSeen bytes = Seen form first (between begin middle) before bytes × (length bytes ≡ size)

  most : length (take n piece) ≤ longest_piece - size % longest_piece
  most = part_most piece n room size full is came.fits

  part : length (take n piece) ≡ n
  part = length-take-le n piece came.fits

  again : take n (take n piece) ≡ take n piece
  again = take_all n (take n piece) (omega (arith, part))

  sized : TakesFront HasSeen 1 old mid size
  sized = record { bytes = f.bytes; size_is = f.size_is; whole = f.whole; taken = (f.taken, sym f.size_is); known = f.known; clean = f.clean }

  -- The writer failed within these lines.
  pub read_stopped : (halt : Halt) → WritesLine {V = Unit {0}} text (between middle end) (Err halt) → Breaks form first (between old new) (between begin end) halt
  read_stopped halt w =
      write_stopped (Unit {0}) form first before now old mid new begin middle end size n text (take n piece) halt calm
      (subst (λ (l : List ℕ). length l ≤ longest_piece - size % longest_piece) (sym again) most) f (came_front (between mid new) piece n came)
      (λ bytes found s. subst (λ (l : List ℕ). Shows form first now (bytes ++ l) found text) (sym again) (shows bytes found s)) w

  module _ (written : Appends middle.bytes end.bytes text) (clean : end.failed ≡ middle.failed) where
    more : (bytes : List ℕ) → length bytes ≡ size → Seen form first (between begin middle) before bytes →
        Seen form first (between begin end) now (bytes ++ take n piece)
    more = seen_then form first before now begin middle end size text (take n piece) calm most shows written clean

    -- More bytes of the input were viewed.
    pub read_more : TakesFront (Seen form first (between begin end) now) 1 old new (size + n)
    read_more =
        front_more HasSeen (Seen form first (between begin end) now) 1 old mid new size n (take n piece) sized (came_front (between mid new) piece n came)
        (λ bytes whole h. subst (λ (l : List ℕ). Seen form first (between begin end) now (bytes ++ l)) (sym again) (more bytes h.1 h.0))
        (omega arith) (omega (arith, part))

    -- The input ended.
    pub read_end : (r : Result ℕ Halt) → n ≡ 0 → IfOk r (λ whole. (whole ≡ size + n) × (size + n ≤ longest_input)) →
        IfErr r (λ halt. (halt ≡ Read) × (longest_input < size + n)) → TakesInput (Seen form first (between begin end) now) (between old new) r
    read_end r none ok err =
        front_end HasSeen (Seen form first (between begin end) now) 1 old mid new size n piece r sized (came_end (between mid new) piece n came none)
        (λ bytes whole h. more bytes h.1 h.0) (omega (arith, none, full, is)) ok err

    pub end_broken : (r : Result ℕ Halt) → n ≡ 0 → IfErr r (λ halt. (halt ≡ Read) × (longest_input < size + n)) →
        TakesInput (Seen form first (between begin end) now) (between old new) r → IfErr r (Breaks form first (between old new) (between begin end))
    end_broken r none err takes =
        if_err (Seen form first (between begin end) now) form first now old mid new (between begin end) size n piece before (between begin middle) r f
        (came_end (between mid new) piece n came none) more err takes

-- whether the view stops
pub not_stopped : (size : ℕ) (crowded stops : Bool) → stops ≡ ((size % longest_piece == 0) && crowded) → stops ≡ false → size % longest_piece ≡ 0 →
    crowded ≡ false
not_stopped size crowded stops is e whole = sym (ap (λ (k : ℕ). (k == 0) && crowded) whole) ∙ sym is ∙ e

both_are : (a b : Bool) → (a && b) ≡ true → b ≡ true
both_are true b e = e
both_are false b e = absurd (let no : ⊥ = cc in no)

pub is_stopped : (size : ℕ) (crowded stops : Bool) → stops ≡ ((size % longest_piece == 0) && crowded) → stops ≡ true → crowded ≡ true
is_stopped size crowded stops is e = both_are (size % longest_piece == 0) crowded (sym is ∙ e)

-- 7. The whole input, or a front of it that ends because too many units of a stream wait

pub if_whole : (form : LineForm) (first : AnalysisState) (input output : Device) (now : CapturedView) (r : Result ℕ Halt) →
    IfOk r (λ size. TakesInput (Seen form first output now) input (Ok size)) →
    IfOk r (Reaches form first input output now)
if_whole form first input output now (Ok size) t = inl t
if_whole form first input output now (Err halt) t = tt

pub crowds : (form : LineForm) (first : AnalysisState) (now : CapturedView) (old new : Port) (output : Device) (size : ℕ) →
    TakesFront (Seen form first output now) 1 old new size → is_crowded now.parts.view ≡ true →
    Reaches form first (between old new) output now size
crowds form first now old new output size f crowded =
    inr (record { bytes = f.bytes; size_is = f.size_is; front = begins old new f.bytes f.known; seen = f.taken; clean = f.clean; crowded = crowded })
