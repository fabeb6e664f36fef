-- Frames are read byte by byte and piece by piece.
use Rattle.std.proofs.Common.{◌≡◌, ◌⊎◌, ◌<◌, ◌≤◌, ◌-◌, ◌^◌, ◌||◌, Bool, true, false, ℕ, ◌+◌, List, [], ◌∷◌, ◌++◌, length, take, drop, map, get_or, Option, Some}
use Rattle.std.proofs.Common.{None, Result, Ok, Err, refl, sym, ap, ◌∙◌, subst, add-one, inl, inr, arith, append_assoc, append-nil, length-append}
use Rattle.std.specs.Prelude.{if◌then◌else◌, ⊤, min, slice_index, OnOk}
use Rattle.std.specs.List.{flat_map}
use Rattle.std.specs.Io.KnownBytes.{Appends, Consumes, IsAtEnd, Keeps}
use Rattle.std.proofs.KnownBytes.{Appends-nil, Appends-trans, Consumes-kept, Consumes-nil, Consumes-trans}
use Rattle.std.proofs.Math.Seq.{drop-cons}
use Rattle.std.proofs.lemmas.List.{drop_all, map-append, take-append-drop}
use Rattle.counted_io.specs.Device.{CountsOne, Failed}
use Rattle.pes_packet.specs.AccessUnits.{AccessUnit}
use Rattle.devices.specs.Devices.{Device, Port, Takes, between}
use Rattle.devices.specs.Lines.{Reports, ReportsAll}
use Rattle.devices.specs.Outcomes.{halt_line}
use Rattle.devices.specs.declared.halt.Halt.{Halt}
use Rattle.devices.specs.declared.halt.Halt.TheVariants.{Read, Write, Memory}
use Rattle.devices.proofs.ReportedTexts.{reported_all, reported_more, reported_none}
use Rattle.unit_records.specs.OpenRecords.{IsOpen}
use Rattle.tsair_cli.specs.declared.frame_feed.FrameFeed.{FrameFeed}
use Rattle.tsair_cli.specs.declared.frame.OpenFrame.{OpenFrame}
use Rattle.tsair_cli.specs.declared.frame_fault.FrameFault.{FrameFault}
use Rattle.tsair_cli.specs.Frames.{FrameAnswer, FrameState, Outside, at_mark, entries_read, frame_step, kept}
use Rattle.tsair_cli.specs.OpenFrames.{HasState, state_of}
use Rattle.tsair_cli.specs.FramePassing.{EndsFrames, IsHalted, IsOut, LetsOut, PassedOn, PassesFrames, PassesPieces, ReportsEnd, ReportsLast, StopsFrames}
use Rattle.tsair_cli.specs.FramePassing.{StopsPieces, TakesPiece, TakesSome, cut_line, cut_lines, ends_half, last_lines}
use Rattle.tsair_cli.specs.Readings.{Reading, Unframes, UnframesByte, after, answer_bytes, answer_drops, bytes_of, counted, drops_in, first, reading_of}
use Rattle.tsair_cli.specs.Readings.{record_of, records_in, step, reported_with}

-- 1. A byte

same_reading : (s t : FrameState) (n m : ℕ) (b c : Bool) → s ≡ t → n ≡ m → b ≡ c →
    ◌≡◌ {A = Reading} (record { state = s; count = n; reported = b }) (record { state = t; count = m; reported = c })
same_reading s t n m b c e f g = rw (e, f, g) refl

pub byte_taken : (old new : FrameFeed) (byte : ℕ) (answer : FrameAnswer) → HasState (frame_step (state_of old.frame) byte).0 new.frame →
    (frame_step (state_of old.frame) byte).1 ≡ answer →
    new.count ≡ counted old.count answer → new.reported ≡ reported_with old.reported answer → new.records.items ≡ old.records.items ++ answer_bytes answer →
    new.drops.items ≡ old.drops.items ++ answer_drops old.count answer → UnframesByte old new byte
byte_taken old new byte answer has_state is count reported records drops = record {
  is_open = has_state.open_record;
  reading = same_reading _ _ _ _ _ _ has_state.state (count ∙ ap (λ (a : FrameAnswer). counted old.count a) (sym is))
      (reported ∙ ap (λ (a : FrameAnswer). reported_with old.reported a) (sym is));
  records = records ∙ ap (λ (a : FrameAnswer). old.records.items ++ answer_bytes a) (sym is);
  drops = drops ∙ ap (λ (a : FrameAnswer). old.drops.items ++ answer_drops old.count a) (sym is);
}

pub none_taken : (old new : FrameFeed) (byte : ℕ) → HasState (frame_step (state_of old.frame) byte).0 new.frame →
    (frame_step (state_of old.frame) byte).1 ≡ Ok None →
    new.count ≡ old.count → new.reported ≡ old.reported → new.records.items ≡ old.records.items → new.drops.items ≡ old.drops.items → UnframesByte old new byte
unfolding counted reported_with answer_bytes answer_drops
none_taken old new byte has_state is count reported records drops =
    byte_taken old new byte (Ok None) has_state is count reported (records ∙ sym (append-nil old.records.items)) (drops ∙ sym (append-nil old.drops.items))

pub one_taken : (old new : FrameFeed) (byte : ℕ) (entry : ℕ × AccessUnit) → HasState (frame_step (state_of old.frame) byte).0 new.frame →
    (frame_step (state_of old.frame) byte).1 ≡ Ok (Some entry) → new.count ≡ counted old.count (Ok (Some entry)) → new.reported ≡ old.reported →
    new.records.items ≡ old.records.items ++ record_of entry → new.drops.items ≡ old.drops.items → UnframesByte old new byte
unfolding reported_with answer_bytes answer_drops
one_taken old new byte entry has_state is count reported records drops =
    byte_taken old new byte (Ok (Some entry)) has_state is count reported records (drops ∙ sym (append-nil old.drops.items))

pub one_dropped : (old new : FrameFeed) (byte : ℕ) (fault : FrameFault) → HasState (frame_step (state_of old.frame) byte).0 new.frame →
    (frame_step (state_of old.frame) byte).1 ≡ Err fault → new.count ≡ old.count → new.reported ≡ true →
    new.records.items ≡ old.records.items → new.drops.items ≡ old.drops.items ++ (old.count ∷ []) → UnframesByte old new byte
unfolding counted reported_with answer_bytes answer_drops
one_dropped old new byte fault has_state is count reported records drops =
    byte_taken old new byte (Err fault) has_state is count reported (records ∙ sym (append-nil old.records.items)) drops

-- A call passes the record on, or notes that bytes are dropped.
pub passes_on : {V : Type 0} (result : Result V Halt) (old new : FrameFeed) (frame : OpenFrame) (byte : ℕ) (entry : ℕ × AccessUnit) →
    HasState (frame_step (state_of old.frame) byte).0 frame →
    (frame_step (state_of old.frame) byte).1 ≡ Ok (Some entry) → OnOk result (new.frame ≡ frame) → OnOk result (new.count ≡ min (old.count + 1) (2 ^ 64 - 1)) →
    OnOk result (new.reported ≡ old.reported) →
    OnOk result (new.records.items ≡ old.records.items ++ record_of entry) → OnOk result (new.drops.items ≡ old.drops.items) →
    OnOk result (UnframesByte old new byte)
unfolding counted
passes_on (Ok x) old new frame byte entry has_state is same count reported records drops =
    one_taken old new byte entry (subst (λ (f : OpenFrame). HasState (frame_step (state_of old.frame) byte).0 f) (sym same) has_state) is count reported records
    drops
passes_on (Err halt) old new frame byte entry has_state is same count reported records drops = tt

pub notes_drop : {V : Type 0} (result : Result V Halt) (old new : FrameFeed) (frame : OpenFrame) (byte : ℕ) (fault : FrameFault) →
    HasState (frame_step (state_of old.frame) byte).0 frame →
    (frame_step (state_of old.frame) byte).1 ≡ Err fault → OnOk result (new.frame ≡ frame) → OnOk result (new.count ≡ old.count) →
    OnOk result (new.reported ≡ true) →
    OnOk result (new.records.items ≡ old.records.items) → OnOk result (new.drops.items ≡ old.drops.items ++ (old.count ∷ [])) →
    OnOk result (UnframesByte old new byte)
notes_drop (Ok x) old new frame byte fault has_state is same count reported records drops =
    one_dropped old new byte fault (subst (λ (f : OpenFrame). HasState (frame_step (state_of old.frame) byte).0 f) (sym same) has_state) is count reported
    records
    drops
notes_drop (Err halt) old new frame byte fault has_state is same count reported records drops = tt

-- 2. Bytes, one after another

-- The first i of these bytes are taken
pub record Midway (old now : FrameFeed) (bytes : List ℕ) (i : ℕ) : Type 0 where
  pub is_open : IsOpen now.frame.begun
  pub reading : after (reading_of old) bytes ≡ after (reading_of now) (drop i bytes)
  pub records : old.records.items ++ records_in (reading_of old) bytes ≡ now.records.items ++ records_in (reading_of now) (drop i bytes)
  pub drops : old.drops.items ++ drops_in (reading_of old) bytes ≡ now.drops.items ++ drops_in (reading_of now) (drop i bytes)

pub none_yet : (old : FrameFeed) (bytes : List ℕ) → IsOpen old.frame.begun → Midway old old bytes 0
none_yet old bytes opens = record { is_open = opens; reading = refl; records = refl; drops = refl }

next_is : (bytes : List ℕ) (i : ℕ) → i < length bytes → drop i bytes ≡ slice_index bytes i ∷ drop (i + 1) bytes
next_is bytes i below = rw (drop-cons bytes i 0 below, add-one i) refl

pub one_more : (old mid new : FrameFeed) (bytes : List ℕ) (i : ℕ) → i < length bytes → Midway old mid bytes i → UnframesByte mid new (slice_index bytes i) →
    Midway old new bytes (i + 1)
unfolding after records_in drops_in
one_more old mid new bytes i below m t =
    let b = slice_index bytes i in
    let next = next_is bytes i below in
    record {
      is_open = t.is_open;
      reading = m.reading ∙ ap (λ (l : List ℕ). after (reading_of mid) l) next ∙ ap (λ (r : Reading). after r (drop (i + 1) bytes)) (sym t.reading);
      records = m.records ∙ ap (λ (l : List ℕ). mid.records.items ++ records_in (reading_of mid) l) next
          ∙ sym (append_assoc mid.records.items (answer_bytes (frame_step (state_of mid.frame) b).1)
          (records_in (step (reading_of mid) b) (drop (i + 1) bytes)))
          ∙ ap (λ (l : List ℕ). l ++ records_in (step (reading_of mid) b) (drop (i + 1) bytes)) (sym t.records)
          ∙ ap (λ (r : Reading). new.records.items ++ records_in r (drop (i + 1) bytes)) (sym t.reading);
      drops = m.drops ∙ ap (λ (l : List ℕ). mid.drops.items ++ drops_in (reading_of mid) l) next
          ∙ sym (append_assoc mid.drops.items (answer_drops mid.count (frame_step (state_of mid.frame) b).1)
          (drops_in (step (reading_of mid) b) (drop (i + 1) bytes)))
          ∙ ap (λ (l : List ℕ). l ++ drops_in (step (reading_of mid) b) (drop (i + 1) bytes)) (sym t.drops)
          ∙ ap (λ (r : Reading). new.drops.items ++ drops_in r (drop (i + 1) bytes)) (sym t.reading);
    }

pub all_taken : (old now : FrameFeed) (bytes : List ℕ) (i : ℕ) → length bytes ≤ i → Midway old now bytes i → Unframes old now bytes
unfolding after records_in drops_in
all_taken old now bytes i past m =
    let none = drop_all i bytes past in
    record {
      is_open = m.is_open;
      reading = sym (m.reading ∙ ap (λ (l : List ℕ). after (reading_of now) l) none);
      records = sym (m.records ∙ ap (λ (l : List ℕ). now.records.items ++ records_in (reading_of now) l) none ∙ append-nil now.records.items);
      drops = sym (m.drops ∙ ap (λ (l : List ℕ). now.drops.items ++ drops_in (reading_of now) l) none ∙ append-nil now.drops.items);
    }

-- 3. More bytes

after_more : (r : Reading) (xs ys : List ℕ) → after r (xs ++ ys) ≡ after (after r xs) ys
unfolding after
after_more r [] ys = refl
after_more r (x ∷ xs) ys = after_more (step r x) xs ys

records_more : (r : Reading) (xs ys : List ℕ) → records_in r (xs ++ ys) ≡ records_in r xs ++ records_in (after r xs) ys
unfolding after records_in
records_more r [] ys = refl
records_more r (x ∷ xs) ys =
    ap (λ (l : List ℕ). answer_bytes (frame_step r.state x).1 ++ l) (records_more (step r x) xs ys)
    ∙ sym (append_assoc (answer_bytes (frame_step r.state x).1) (records_in (step r x) xs) (records_in (after (step r x) xs) ys))

drops_more : (r : Reading) (xs ys : List ℕ) → drops_in r (xs ++ ys) ≡ drops_in r xs ++ drops_in (after r xs) ys
unfolding after drops_in
drops_more r [] ys = refl
drops_more r (x ∷ xs) ys =
    ap (λ (l : List ℕ). answer_drops r.count (frame_step r.state x).1 ++ l) (drops_more (step r x) xs ys)
    ∙ sym (append_assoc (answer_drops r.count (frame_step r.state x).1) (drops_in (step r x) xs) (drops_in (after (step r x) xs) ys))

-- The bytes of two lists of records are the bytes of the first list, then the bytes of the second.
flat_append : (xs ys : List (ℕ × AccessUnit)) → bytes_of (xs ++ ys) ≡ bytes_of xs ++ bytes_of ys
flat_append [] ys = refl
flat_append (x ∷ xs) ys = ap (λ (l : List ℕ). record_of x ++ l) (flat_append xs ys) ∙ sym (append_assoc (record_of x) (bytes_of xs) (bytes_of ys))

answer_is : (answer : FrameAnswer) → answer_bytes answer ≡ bytes_of (kept answer)
unfolding answer_bytes kept
answer_is (Ok None) = refl
answer_is (Ok (Some entry)) = sym (append-nil (record_of entry))
answer_is (Err fault) = refl

pub records_are : (r : Reading) (bytes : List ℕ) → records_in r bytes ≡ bytes_of (entries_read r.state bytes)
unfolding records_in entries_read
records_are r [] = refl
records_are r (b ∷ bs) =
    ap (λ (l : List ℕ). answer_bytes (frame_step r.state b).1 ++ l) (records_are (step r b) bs)
    ∙ ap (λ (l : List ℕ). l ++ bytes_of (entries_read (frame_step r.state b).0 bs)) (answer_is (frame_step r.state b).1)
    ∙ sym (flat_append (kept (frame_step r.state b).1) (entries_read (frame_step r.state b).0 bs))

-- 4. Pieces

failed_after : (a b c : ℕ) → b ≡ a → CountsOne b c → Failed a c
failed_after a b c e (inl n) = inl (omega (arith, e, n))
failed_after a b c e (inr h) = inr (h.0 ∙ e, sym e ∙ h.1)

failed_later : (a b c : ℕ) → b ≡ a → Failed b c → Failed a c
failed_later a b c e f = subst (λ (n : ℕ). Failed n c) e f

-- A number of pieces were read, each of at least one byte, and all their output is written.
pub record Come (input output faults : Device) (feed : FrameFeed) (pieces : ℕ) : Type 0 where
  pub came : List ℕ
  pub passed : PassedOn input output faults came
  pub reading : reading_of feed ≡ after first came
  pub long : pieces ≤ length came

pub none_came : (input output faults : Port) (feed : FrameFeed) → reading_of feed ≡ first →
    Come (between input input) (between output output) (between faults faults) feed 0
unfolding after records_in drops_in
none_came input output faults feed is = record {
  came = [];
  passed = record { read = Consumes-nil input.bytes; unfailed = refl; written = Appends-nil output.bytes; clean = refl; reports_all = reported_none faults };
  reading = is;
  long = omega arith;
}

pub piece_more : (i0 i1 i2 o0 o1 o2 f0 f1 f2 : Port) (old mid new : FrameFeed) (pieces : ℕ) → Come (between i0 i1) (between o0 o1) (between f0 f1) old pieces →
    old.records.items ≡ [] → old.drops.items ≡ [] → TakesSome old (between i1 i2) mid → IsOut mid new (between o1 o2) (between f1 f2) →
    Come (between i0 i2) (between o0 o2) (between f0 f2) new (pieces + 1)
piece_more i0 i1 i2 o0 o1 o2 f0 f1 f2 old mid new pieces m nothing none t out =
    let came = m.came in
    let piece = t.piece in
    let records : mid.records.items ≡ records_in (after first came) piece =
    t.taken.records ∙ ap (λ (l : List ℕ). l ++ records_in (reading_of old) piece) nothing ∙ ap (λ (r : Reading). records_in r piece) m.reading in
    let drops : mid.drops.items ≡ drops_in (after first came) piece =
    t.taken.drops ∙ ap (λ (l : List ℕ). l ++ drops_in (reading_of old) piece) none ∙ ap (λ (r : Reading). drops_in r piece) m.reading in
    let written = subst (λ (l : List ℕ). Takes (between o1 o2) l) records out.written in
    let reports_all = subst (λ (l : List ℕ). ReportsAll f1 f2 (cut_lines l)) drops out.reports_all in
    record {
      came = came ++ piece;
      passed = record {
        read = Consumes-trans i0.bytes i1.bytes i2.bytes came piece m.passed.read t.read;
        unfailed = t.clean ∙ m.passed.unfailed;
        written = subst (λ (l : List ℕ). Appends o0.bytes o2.bytes l) (sym (records_more first came piece))
            (Appends-trans o0.bytes o1.bytes o2.bytes (records_in first came) (records_in (after first came) piece) m.passed.written written);
        clean = out.clean ∙ m.passed.clean;
        reports_all = subst (λ (l : List (List ℕ)). ReportsAll f0 f2 l)
            (sym (map-append cut_line (drops_in first came) (drops_in (after first came) piece)) ∙ ap cut_lines (sym (drops_more first came piece)))
            (reported_all f0 f1 f2 (cut_lines (drops_in first came)) (cut_lines (drops_in (after first came) piece)) m.passed.reports_all reports_all);
      };
      reading = out.reading ∙ t.taken.reading ∙ ap (λ (r : Reading). after r piece) m.reading ∙ sym (after_more first came piece);
      long = omega (arith, m.long, t.some, length-append came piece);
    }

pub takes_some : (old new : FrameFeed) (input : Device) (more : Bool) → more ≡ true → TakesPiece old input new (Ok more) → TakesSome old input new
takes_some old new input true is t = t
takes_some old new input false is t = absurd cc

pub takes_none : (old new : FrameFeed) (input : Device) (more : Bool) → more ≡ false → TakesPiece old input new (Ok more) → TakesPiece old input new (Ok false)
takes_none old new input more is t = subst (λ (b : Bool). TakesPiece old input new (Ok b)) is t

-- The input ended.
pub pieces_end : (i0 i1 i2 : Port) (output faults : Device) (old new : FrameFeed) (pieces : ℕ) → Come (between i0 i1) output faults old pieces →
    TakesPiece old (between i1 i2) new (Ok false) →
    PassesPieces (between i0 i2) output faults (Ok tt) new
pieces_end i0 i1 i2 output faults old new pieces m (reads, clean, ends, same) = (
  m.came,
  record {
    read = subst (λ (bytes : List ℕ). Consumes i0.bytes i2.bytes bytes) (append-nil m.came)
        (Consumes-trans i0.bytes i1.bytes i2.bytes m.came [] m.passed.read reads);
    unfailed = clean ∙ m.passed.unfailed;
    written = m.passed.written;
    clean = m.passed.clean;
    reports_all = m.passed.reports_all;
  },
  ends,
  ap (λ (f : FrameFeed). reading_of f) same ∙ m.reading,
)

-- A reader failed, or no memory was left.
pub piece_stops : (i0 i1 i2 : Port) (output faults : Device) (old new : FrameFeed) (pieces : ℕ) (halt : Halt) → Come (between i0 i1) output faults old pieces →
    TakesPiece old (between i1 i2) new (Err halt) → StopsPieces (between i0 i2) output halt
piece_stops i0 i1 i2 output faults old new pieces Read m (keeps, counts) = record {
  came = m.came;
  sent = records_in first m.came;
  rest = [];
  read = Consumes-kept i0.bytes i1.bytes i2.bytes m.came m.passed.read keeps;
  written = m.passed.written;
  beginning = sym (append-nil (records_in first m.came));
  why = inl (failed_after i0.failed i1.failed i2.failed m.passed.unfailed counts);
}
piece_stops i0 i1 i2 output faults old new pieces Write m t = absurd t
piece_stops i0 i1 i2 output faults old new pieces Memory m (piece, reads) = record {
  came = m.came ++ piece;
  sent = records_in first m.came;
  rest = records_in (after first m.came) piece;
  read = Consumes-trans i0.bytes i1.bytes i2.bytes m.came piece m.passed.read reads;
  written = m.passed.written;
  beginning = records_more first m.came piece;
  why = tt;
}

-- The writer failed.
pub out_stops : (i0 i1 i2 o0 o1 o2 : Port) (faults f : Device) (old mid new : FrameFeed) (pieces : ℕ) (halt : Halt) →
    Come (between i0 i1) (between o0 o1) faults old pieces →
    old.records.items ≡ [] → TakesSome old (between i1 i2) mid → LetsOut mid new (between o1 o2) f (Err halt) → StopsPieces (between i0 i2) (between o0 o2) halt
out_stops i0 i1 i2 o0 o1 o2 faults f old mid new pieces Read m nothing t out = absurd out
out_stops i0 i1 i2 o0 o1 o2 faults f old mid new pieces Memory m nothing t out = absurd out
out_stops i0 i1 i2 o0 o1 o2 faults f old mid new pieces Write m nothing t (stopped, failed) =
    let piece = t.piece in
    let all = records_in (after first m.came) t.piece in
    let records : mid.records.items ≡ records_in (after first m.came) t.piece =
    t.taken.records ∙ ap (λ (l : List ℕ). l ++ records_in (reading_of old) piece) nothing ∙ ap (λ (r : Reading). records_in r piece) m.reading in
    record {
      came = m.came ++ t.piece;
      sent = records_in first m.came ++ take stopped.taken mid.records.items;
      rest = drop stopped.taken mid.records.items;
      read = Consumes-trans i0.bytes i1.bytes i2.bytes m.came t.piece m.passed.read t.read;
      written = Appends-trans o0.bytes o1.bytes o2.bytes (records_in first m.came) (take stopped.taken mid.records.items) m.passed.written stopped.appends;
      beginning = records_more first m.came t.piece
          ∙ ap (λ (l : List ℕ). records_in first m.came ++ l) (sym records ∙ sym (take-append-drop stopped.taken mid.records.items))
          ∙ sym (append_assoc (records_in first m.came) (take stopped.taken mid.records.items) (drop stopped.taken mid.records.items));
      why = failed_later o0.failed o1.failed o2.failed m.passed.clean failed;
    }

-- More bytes arrived than the program counts.
pub long_enough : (input output faults : Device) (feed : FrameFeed) (pieces : ℕ) → Come input output faults feed pieces → 2 ^ 64 - 1 ≤ pieces →
    StopsPieces input output Read
long_enough input output faults feed pieces m many = record {
  came = m.came;
  sent = records_in first m.came;
  rest = [];
  read = m.passed.read;
  written = m.passed.written;
  beginning = sym (append-nil (records_in first m.came));
  why = inr (omega (arith, many, m.long));
}

-- 5. The end

pub frames_end : (input output : Device) (f0 f1 f2 : Port) (feed : FrameFeed) (status : ℕ) → PassesPieces input output (between f0 f1) (Ok tt) feed →
    ReportsLast (reading_of feed) (between f1 f2) status →
    PassesFrames input output (between f0 f2) status
frames_end input output f0 f1 f2 feed status (came, passed, ends, reading) last =
    let same = subst (λ (r : Reading). ReportsLast r (between f1 f2) status) reading last in
    inl (record {
      came = came;
      read = passed.read;
      ends = ends;
      unfailed = passed.unfailed;
      written = subst (λ (l : List ℕ). Takes output l) (records_are first came) passed.written;
      clean = passed.clean;
      reports_all = reported_all f0 f1 f2 (cut_lines (drops_in first came)) (last_lines (after first came)) passed.reports_all same.reports_all;
      status_is = same.status_is;
    })

pub frames_stop : (input output : Device) (before reported after_all : Port) (halt : Halt) (status : ℕ) → StopsPieces input output halt →
    Reports (between reported after_all) (halt_line halt) → status ≡ 3 →
    PassesFrames input output (between before after_all) status
frames_stop input output before reported after_all halt status s r is = inr (record {
  halt = halt;
  came = s.came;
  sent = s.sent;
  rest = s.rest;
  read = s.read;
  written = s.written;
  beginning = sym (records_are first s.came) ∙ s.beginning;
  why = s.why;
  reported = reported;
  reports = r;
  status_is = is;
})

pub frames_done : (input output : Device) (f0 f1 f2 : Port) (feed : FrameFeed) (result : Result (Unit {0}) Halt) (status : ℕ) →
    PassesPieces input output (between f0 f1) result feed →
    ReportsEnd (reading_of feed) (between f1 f2) result status → PassesFrames input output (between f0 f2) status
frames_done input output f0 f1 f2 feed (Ok x) status p r = frames_end input output f0 f1 f2 feed status p r
frames_done input output f0 f1 f2 feed (Err halt) status p (r, is) = frames_stop input output f0 f1 f2 halt status p r is

-- There is no memory for a piece.
pub no_piece : (input output faults after_all : Port) (status : ℕ) → Reports (between faults after_all) (halt_line Memory) → status ≡ 3 →
    PassesFrames (between input input) (between output output) (between faults after_all) status
unfolding records_in
no_piece input output faults after_all status r is =
    frames_stop (between input input) (between output output) faults faults after_all Memory status
    (record { came = []; sent = []; rest = []; read = Consumes-nil input.bytes; written = Appends-nil output.bytes; beginning = refl; why = tt }) r is

-- A last line is written if the input ends within a record.
pub half_reported : (r : Reading) (before after_all : Port) (status : ℕ) → ends_half r ≡ true → Reports (between before after_all) (cut_line r.count) →
    status ≡ 1 →
    ReportsLast r (between before after_all) status
half_reported r before after_all status half t is = record {
  reports_all = rw half (reported_more before before after_all [] (cut_line r.count) (reported_none before) t);
  status_is = is ∙ one r.reported (ends_half r) half;
}
  where
    one : (reported h : Bool) → h ≡ true → ◌≡◌ {A = ℕ} 1 (if reported || h then 1 else 0)
    one true h e = refl
    one false h e = rw e refl

pub not_half : (r : Reading) (port : Port) (status : ℕ) → ends_half r ≡ false → status ≡ (if r.reported then 1 else 0) →
    ReportsLast r (between port port) status
not_half r port status half is = record {
  reports_all = rw half (reported_none port);
  status_is = is ∙ same r.reported (ends_half r) half;
}
  where
    same : (reported h : Bool) → h ≡ false → ◌≡◌ {A = ℕ} (if reported then 1 else 0) (if reported || h then 1 else 0)
    same true h e = refl
    same false h e = rw e refl

-- The lines for the places of dropped bytes, written one after another
pub record ReportsDrops (old now : Port) (drops : List ℕ) (i : ℕ) : Type 0 where
  pub texts : List (List ℕ)
  pub reports_all : ReportsAll old now texts
  pub left : texts ++ cut_lines (drop i drops) ≡ cut_lines drops

pub no_drop : (port : Port) (drops : List ℕ) → ReportsDrops port port drops 0
no_drop port drops = record { texts = []; reports_all = reported_none port; left = refl }

pub drop_more : (old mid new : Port) (drops : List ℕ) (i : ℕ) → i < length drops → ReportsDrops old mid drops i →
    Reports (between mid new) (cut_line (slice_index drops i)) →
    ReportsDrops old new drops (i + 1)
drop_more old mid new drops i below m r =
    let line = cut_line (slice_index drops i) in
    record {
      texts = m.texts ++ (line ∷ []);
      reports_all = reported_more old mid new m.texts line m.reports_all r;
      left = append_assoc m.texts (line ∷ []) (cut_lines (drop (i + 1) drops)) ∙ ap (λ (l : List ℕ). m.texts ++ cut_lines l) (sym (next_is drops i below))
          ∙ m.left;
    }

pub drops_reported : (old now : Port) (drops : List ℕ) (i : ℕ) → length drops ≤ i → ReportsDrops old now drops i → ReportsAll old now (cut_lines drops)
drops_reported old now drops i past m =
    subst (λ (l : List (List ℕ)). ReportsAll old now l)
    (sym (append-nil m.texts) ∙ ap (λ (l : List ℕ). m.texts ++ cut_lines l) (sym (drop_all i drops past)) ∙ m.left) m.reports_all
