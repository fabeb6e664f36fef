-- The output of a stream while its input arrives
use Rattle.std.proofs.Common.{◌≡◌, ◌⊎◌, ◌<◌, ◌≤◌, ◌+◌, ◌-◌, ◌^◌, ℕ, Bool, true, false, List, [], ◌++◌, length, take, Option, Result, Ok, Err, le_trans, refl}
use Rattle.std.proofs.Common.{sym, ap, ◌∙◌, subst, inl, inr, arith, length-append, length-take-le}
use Rattle.std.specs.Prelude.{◌||◌, OnOk}
use Rattle.std.specs.Result.{is_err}
use Rattle.std.specs.Io.KnownBytes.{Appends, Consumes, IsAtEnd, Keeps}
use Rattle.std.proofs.KnownBytes.{Appends-nil, Appends-trans, Consumes-kept, Consumes-nil, Consumes-trans}
use Rattle.std.proofs.lemmas.List.{append-nil}
use Rattle.std.proofs.lemmas.List.Elements.{All-nil}
use Rattle.counted_io.specs.Device.{CountsOne, Failed}
use Rattle.devices.specs.Devices.{Device, Port, Takes, between}
use Rattle.devices.specs.Lines.{ReportsAll}
use Rattle.devices.specs.declared.halt.Halt.{Halt}
use Rattle.devices.specs.declared.halt.Halt.TheVariants.{Read, Write, Memory}
use Rattle.devices.proofs.ReportedTexts.{reported_all, reported_none}
use Rattle.demux.specs.FoundSoFar.{taken_all}
use Rattle.fed_streams.specs.Feeding.{Fed, FeedView}
use Rattle.es_feed.specs.StreamFeeding.{IsFedBy, at_first, is_packet}
use Rattle.es_feed.specs.Watching.{AreSlips, HoldsFew, IsWatchedBy, IsWatchedOf, WatchedView, first_place, watched_first}
use Rattle.es_feed.proofs.ReportedLines.{any_append, flat_append, have_append, lines_append, or_true, state_append}
use Rattle.es_feed.proofs.StreamPackets.{none_given}
use Rattle.es_feed.proofs.WatchedStreams.{no_rounds}
use Rattle.fed_streams.specs.Ticks.{after_packets, fed_packets}
use Rattle.es_feed.specs.FedLines.{fed_record, fed_records, have_refusal, is_refusal}
use Rattle.es_feed.specs.StreamLines.{LinesView, after_lines, fed_lines, first_lines, have_line, lines_from}
use Rattle.es_feed.specs.Passing.{FailsToPass, FeedsPiece, FeedsSome, GoesOut, IsFedSoFar, IsUnrefused, Midway, Passes}
use Rattle.es_feed.specs.Passing.{PassesPieces, longest_piece}

-- 1. Before the first byte

fed_none : (first : FeedView) → IsFedBy first [] false (at_first first) []
unfolding taken_all after_packets fed_packets
fed_none first = record { packets = []; sizes = All-nil is_packet; carries = λ more none. refl; demux_is = refl; feed_is = refl; fed_is = refl }

slips_none : AreSlips [] false [] first_place []
slips_none = record { fields = []; so = λ more none. record { slips = refl; fields = refl } }

watched_none : (first : FeedView) → IsWatchedBy first [] false (watched_first first) []
watched_none first = record {
  gone = [];
  packets_are = none_given;
  fed = [];
  found = [];
  rounds = no_rounds;
  by = fed_none first;
  slips_are = slips_none;
}

-- The stream so far: at least one byte in each piece, and nothing shows that the description is of another stream.
pub record MidwayLong (first : FeedView) (pids : List ℕ) (input output faults : Device) (faulty : Bool) (s : WatchedView) (l : LinesView) (pieces : ℕ) : Type 0
  where
    pub midway : Midway first pids input output faults faulty s l
    pub unrefused : have_refusal midway.fed ≡ false
    pub pieces_in : pieces ≤ length midway.came

pub none_came : (first : FeedView) (pids : List ℕ) (input output faults : Port) →
    MidwayLong first pids (between input input) (between output output) (between faults faults) false (watched_first first) (first_lines pids) 0
unfolding lines_from after_lines have_line
none_came first pids input output faults = record {
  midway = record {
    came = [];
    fed = [];
    by = watched_none first;
    held = (omega arith, omega arith);
    passes = record { read = Consumes-nil input.bytes; written = Appends-nil output.bytes; clean = refl; reports_all = reported_none faults };
    unfailed = refl;
    faulty_is = refl;
    lines_are = refl;
  };
  unrefused = refl;
  pieces_in = omega arith;
}

pub long_first : (first : FeedView) (pids : List ℕ) (input output faults : Port) (s : WatchedView) (l : LinesView) → s ≡ watched_first first →
    l ≡ first_lines pids →
    MidwayLong first pids (between input input) (between output output) (between faults faults) false s l 0
long_first first pids input output faults s l is none =
    subst (λ (t : WatchedView). MidwayLong first pids (between input input) (between output output) (between faults faults) false t l 0) (sym is)
    (subst (λ (k : LinesView). MidwayLong first pids (between input input) (between output output) (between faults faults) false (watched_first first) k 0)
    (sym none) (none_came first pids input output faults))

-- 2. One more piece

-- The bytes of earlier output, and of the output now
pub all_written : (before mid after : Port) (old new : List Fed) → Takes (between before mid) (fed_records old) → Takes (between mid after) (fed_records new) →
    Takes (between before after) (fed_records (old ++ new))
all_written before mid after old new a b =
    subst (λ (bytes : List ℕ). Appends before.bytes after.bytes bytes) (sym (flat_append fed_record old new))
    (Appends-trans before.bytes mid.bytes after.bytes (fed_records old) (fed_records new) a b)

pub all_lines_reported : (pids : List ℕ) (l : LinesView) (before mid after : Port) (old new : List Fed) → l ≡ after_lines (first_lines pids) old →
    ReportsAll before mid (fed_lines pids old) → ReportsAll mid after (lines_from l new) →
    ReportsAll before after (fed_lines pids (old ++ new))
all_lines_reported pids l before mid after old new is a b =
    let more = subst (λ (k : LinesView). ReportsAll mid after (lines_from k new)) is b in
    subst (λ (lines : List (List ℕ)). ReportsAll before after lines) (sym (lines_append (first_lines pids) old new))
    (reported_all before mid after (fed_lines pids old) (lines_from (after_lines (first_lines pids) old) new) a more)

all_lines_are : (pids : List ℕ) (l next : LinesView) (old new : List Fed) → l ≡ after_lines (first_lines pids) old → next ≡ after_lines l new →
    next ≡ after_lines (first_lines pids) (old ++ new)
all_lines_are pids l next old new is more =
    more ∙ ap (λ (k : LinesView). after_lines k new) is ∙ sym (state_append (first_lines pids) old new)

pub all_faulty : (pids : List ℕ) (l : LinesView) (early late faulty : Bool) (old new : List Fed) → l ≡ after_lines (first_lines pids) old →
    early ≡ have_line (first_lines pids) old → late ≡ have_line l new → faulty ≡ (early || late) → faulty ≡ have_line (first_lines pids) (old ++ new)
all_faulty pids l early late faulty old new is a b e =
    e ∙ ap (λ (x : Bool). x || late) a ∙ ap (λ (x : Bool). have_line (first_lines pids) old || x) (b ∙ ap (λ (k : LinesView). have_line k new) is)
    ∙ sym (have_append (first_lines pids) old new)

-- The input of a stream so far extends to the place where the last read ended.
with_input : (first : FeedView) (pids piece : List ℕ) (i0 i1 i2 : Port) (output faults : Device) (faulty : Bool) (s : WatchedView) (l : LinesView)
    (m : Midway first pids (between i0 i1) output faults faulty s l) → Consumes i1.bytes i2.bytes piece →
    Passes pids (m.came ++ piece) m.fed (between i0 i2) output faults
with_input first pids piece i0 i1 i2 output faults faulty s l m reads = record {
  read = Consumes-trans i0.bytes i1.bytes i2.bytes m.came piece m.passes.read reads;
  written = m.passes.written;
  clean = m.passes.clean;
  reports_all = m.passes.reports_all;
}

pub so_far : (first : FeedView) (pids : List ℕ) (input output faults : Device) (faulty : Bool) (s : WatchedView) (l : LinesView)
    (m : Midway first pids input output faults faulty s l) → IsFedSoFar first m.came m.fed
so_far first pids input output faults faulty s l m = record { state = s; by = m.by; held = m.held }

-- Nothing so far shows that the description is of another stream, and then a last piece is read.
unrefused_before : (first : FeedView) (pids piece : List ℕ) (input output faults : Device) (faulty : Bool) (s : WatchedView) (l : LinesView)
    (m : Midway first pids input output faults faulty s l) → have_refusal m.fed ≡ false → length piece ≤ longest_piece → IsUnrefused first (m.came ++ piece)
unrefused_before first pids piece input output faults faulty s l m unrefused most = record {
  earlier = m.came;
  last = piece;
  came_is = refl;
  most = most;
  before = m.fed;
  fed_is = so_far first pids input output faults faulty s l m;
  unrefused = unrefused;
}

-- No byte is read after what is fed.
unrefused_here : (first : FeedView) (pids : List ℕ) (input output faults : Device) (faulty : Bool) (s : WatchedView) (l : LinesView)
    (m : Midway first pids input output faults faulty s l) → have_refusal m.fed ≡ false → IsUnrefused first (m.came ++ [])
unrefused_here first pids input output faults faulty s l m unrefused =
    unrefused_before first pids [] input output faults faulty s l m unrefused (omega arith)

-- 3. The end of the pieces

pub pieces_end : (first : FeedView) (pids : List ℕ) (i0 i1 i2 : Port) (output faults : Device) (faulty : Bool) (s : WatchedView) (l : LinesView)
    (m : Midway first pids (between i0 i1) output faults faulty s l) → have_refusal m.fed ≡ false → Consumes i1.bytes i2.bytes [] →
    i2.failed ≡ i1.failed → IsAtEnd i2.bytes →
    PassesPieces first pids (between i0 i2) output faults (Ok faulty) s l
pieces_end first pids i0 i1 i2 output faults faulty s l m unrefused reads clean ends = (
  record {
    came = m.came;
    fed = m.fed;
    by = m.by;
    held = m.held;
    passes = subst (λ (bytes : List ℕ). Passes pids bytes m.fed (between i0 i2) output faults) (append-nil m.came)
        (with_input first pids [] i0 i1 i2 output faults faulty s l m reads);
    unfailed = clean ∙ m.unfailed;
    faulty_is = m.faulty_is;
    lines_are = m.lines_are;
  },
  inl ends,
  subst (λ (bytes : List ℕ). IsUnrefused first bytes) (append-nil m.came)
      (unrefused_here first pids (between i0 i1) output faults faulty s l m unrefused),
)

failed_after : (a b c : ℕ) → b ≡ a → CountsOne b c → Failed a c
failed_after a b c e (inl n) = inl (omega (arith, e, n))
failed_after a b c e (inr h) = inr (h.0 ∙ e, sym e ∙ h.1)

pub read_fails : (first : FeedView) (pids : List ℕ) (i0 i1 i2 : Port) (output faults : Device) (faulty : Bool) (s : WatchedView) (l : LinesView)
    (m : Midway first pids (between i0 i1) output faults faulty s l) → have_refusal m.fed ≡ false → Keeps i1.bytes i2.bytes →
    CountsOne i1.failed i2.failed → PassesPieces first pids (between i0 i2) output faults (Err Read) s l
read_fails first pids i0 i1 i2 output faults faulty s l m unrefused keeps counts = record {
  came = m.came;
  fed = m.fed;
  fed_is = so_far first pids (between i0 i1) output faults faulty s l m;
  untaken = [];
  unrefused = unrefused_here first pids (between i0 i1) output faults faulty s l m unrefused;
  passes = record {
    read = subst (λ (bytes : List ℕ). Consumes i0.bytes i2.bytes bytes) (sym (append-nil m.came))
        (Consumes-kept i0.bytes i1.bytes i2.bytes m.came m.passes.read keeps);
    written = m.passes.written;
    clean = m.passes.clean;
    reports_all = m.passes.reports_all;
  };
  stopped = (refl, inl (failed_after i0.failed i1.failed i2.failed m.unfailed counts));
}

pub too_long : (first : FeedView) (pids : List ℕ) (input output faults : Device) (faulty : Bool) (s : WatchedView) (l : LinesView)
    (m : Midway first pids input output faults faulty s l) → have_refusal m.fed ≡ false → 2 ^ 64 - 1 ≤ length m.came →
    PassesPieces first pids input output faults (Err Read) s l
too_long first pids input output faults faulty s l m unrefused long = record {
  came = m.came;
  fed = m.fed;
  fed_is = so_far first pids input output faults faulty s l m;
  untaken = [];
  unrefused = unrefused_here first pids input output faults faulty s l m unrefused;
  passes = subst (λ (bytes : List ℕ). Passes pids bytes m.fed input output faults) (sym (append-nil m.came)) m.passes;
  stopped = (refl, inr long);
}

pub no_room : (first : FeedView) (pids piece : List ℕ) (i0 i1 i2 : Port) (output faults : Device) (faulty : Bool) (s t : WatchedView) (l k : LinesView)
    (m : Midway first pids (between i0 i1) output faults faulty s l) → have_refusal m.fed ≡ false → Consumes i1.bytes i2.bytes piece →
    i2.failed ≡ i1.failed → length piece ≤ longest_piece →
    PassesPieces first pids (between i0 i2) output faults (Err Memory) t k
no_room first pids piece i0 i1 i2 output faults faulty s t l k m unrefused reads clean most = record {
  came = m.came;
  fed = m.fed;
  fed_is = so_far first pids (between i0 i1) output faults faulty s l m;
  untaken = piece;
  unrefused = unrefused_before first pids piece (between i0 i1) output faults faulty s l m unrefused most;
  passes = with_input first pids piece i0 i1 i2 output faults faulty s l m reads;
  stopped = clean ∙ m.unfailed;
}

-- Feeding the next piece fails.
pub feed_fails : (first : FeedView) (pids : List ℕ) (i0 i1 i2 : Port) (output faults : Device) (faulty : Bool) (s t : WatchedView) (l : LinesView)
    (fed : List Fed) (halt : Halt) (m : Midway first pids (between i0 i1) output faults faulty s l) → have_refusal m.fed ≡ false →
    FeedsPiece s (between i1 i2) t fed (Err halt) →
    PassesPieces first pids (between i0 i2) output faults (Err halt) t l
feed_fails first pids i0 i1 i2 output faults faulty s t l fed Read m unrefused p =
    read_fails first pids i0 i1 i2 output faults faulty s l m unrefused p.0 p.1
feed_fails first pids i0 i1 i2 output faults faulty s t l fed Write m unrefused p = absurd p
feed_fails first pids i0 i1 i2 output faults faulty s t l fed Memory m unrefused (piece, reads, clean, most) =
    no_room first pids piece i0 i1 i2 output faults faulty s t l l m unrefused reads clean most

pub feed_ends : (first : FeedView) (pids : List ℕ) (i0 i1 i2 : Port) (output faults : Device) (faulty : Bool) (s t : WatchedView) (l : LinesView)
    (fed : List Fed) →
    (m : Midway first pids (between i0 i1) output faults faulty s l) → have_refusal m.fed ≡ false → FeedsPiece s (between i1 i2) t fed (Ok false) →
    PassesPieces first pids (between i0 i2) output faults (Ok faulty) t l
feed_ends first pids i0 i1 i2 output faults faulty s t l fed m unrefused (reads, clean, ends, same) =
    subst (λ (v : WatchedView). PassesPieces first pids (between i0 i2) output faults (Ok faulty) v l) (sym same)
    (pieces_end first pids i0 i1 i2 output faults faulty s l m unrefused reads clean ends)

pub feeds_some : (s t : WatchedView) (input : Device) (fed : List Fed) (more : Bool) → more ≡ true → FeedsPiece s input t fed (Ok more) →
    FeedsSome s input t fed
feeds_some s t input fed true is p = p
feeds_some s t input fed false is p = absurd cc

pub feeds_none : (s t : WatchedView) (input : Device) (fed : List Fed) (more : Bool) → more ≡ false → FeedsPiece s input t fed (Ok more) →
    FeedsPiece s input t fed (Ok false)
feeds_none s t input fed more is p = subst (λ (b : Bool). FeedsPiece s input t fed (Ok b)) is p

-- 4. The writer fails

failed_later : (a b c : ℕ) → b ≡ a → Failed b c → Failed a c
failed_later a b c e f = subst (λ (n : ℕ). Failed n c) e f

-- The writer fails within the records that were fed last, after the earlier records of the stream.
pub last_fails : (first : FeedView) (pids bytes : List ℕ) (i0 i1 i2 o0 o1 o2 f0 f1 f2 : Port) (faulty : Bool) (s : WatchedView) (l : LinesView) (new : List Fed)
    (m : Midway first pids (between i0 i1) (between o0 o1) (between f0 f1) faulty s l) → Consumes i0.bytes i2.bytes bytes →
    (IsFedSoFar first bytes (m.fed ++ new) ⊎ IsWatchedOf first bytes (m.fed ++ new)) → IsUnrefused first bytes →
    GoesOut l new (between o1 o2) (between f1 f2) (Err Write) → FailsToPass first pids (between i0 i2) (between o0 o2) (between f0 f2)
last_fails first pids bytes i0 i1 i2 o0 o1 o2 f0 f1 f2 faulty s l new m reads is unrefused out = record {
  came = bytes;
  before = m.fed;
  last = new;
  fed_is = is;
  unrefused = unrefused;
  read = reads;
  taken = out.0.taken;
  written = Appends-trans o0.bytes o1.bytes o2.bytes (fed_records m.fed) (take out.0.taken (fed_records new)) m.passes.written out.0.appends;
  failed = failed_later o0.failed o1.failed o2.failed m.passes.clean out.1;
  reports_all = subst (λ (p : Port). ReportsAll f0 p (fed_lines pids m.fed)) (sym out.2) m.passes.reports_all;
}

pub piece_fails : (first : FeedView) (pids : List ℕ) (i0 i1 i2 o0 o1 o2 f0 f1 f2 : Port) (faulty : Bool) (s t : WatchedView) (l k : LinesView)
    (new : List Fed) (halt : Halt) →
    (m : Midway first pids (between i0 i1) (between o0 o1) (between f0 f1) faulty s l) → have_refusal m.fed ≡ false → FeedsSome s (between i1 i2) t new →
    GoesOut l new (between o1 o2) (between f1 f2) (Err halt) →
    PassesPieces first pids (between i0 i2) (between o0 o2) (between f0 f2) (Err halt) t k
piece_fails first pids i0 i1 i2 o0 o1 o2 f0 f1 f2 faulty s t l k new Read m unrefused p out = absurd out
piece_fails first pids i0 i1 i2 o0 o1 o2 f0 f1 f2 faulty s t l k new Write m unrefused p out =
    last_fails first pids (m.came ++ p.piece) i0 i1 i2 o0 o1 o2 f0 f1 f2 faulty s l new m
    (Consumes-trans i0.bytes i1.bytes i2.bytes m.came p.piece m.passes.read p.read)
    (inl (record { state = t; by = p.taken first m.came m.fed m.by; held = p.held }))
    (unrefused_before first pids p.piece (between i0 i1) (between o0 o1) (between f0 f1) faulty s l m unrefused p.most) out
piece_fails first pids i0 i1 i2 o0 o1 o2 f0 f1 f2 faulty s t l k new Memory m unrefused p out = absurd out

-- 5. One piece after another

-- The state after a push
pub pushed : {E : Type 0} (piece : List ℕ) (s t : WatchedView) (items : List Fed) (r : Result (Unit {0}) E) → is_err r ≡ false →
    ((first : FeedView) (came : List ℕ) (before : List Fed) → IsWatchedBy first came false s before →
    OnOk r (IsWatchedBy first (came ++ piece) false t (before ++ items))) →
    (first : FeedView) (came : List ℕ) (before : List Fed) → IsWatchedBy first came false s before → IsWatchedBy first (came ++ piece) false t (before ++ items)
pushed piece s t items (Ok x) ok push first came before by = push first came before by
pushed piece s t items (Err x) ok push first came before by = absurd cc

held_short : {E : Type 0} (s : WatchedView) (r : Result (Unit {0}) E) → is_err r ≡ false → OnOk r (HoldsFew s) → HoldsFew s
held_short s (Ok x) ok h = h
held_short s (Err x) ok h = absurd cc

pub fed_piece : {E : Type 0} (s t : WatchedView) (i1 i2 : Port) (part : List ℕ) (n : ℕ) (items : List Fed) (r : Result (Unit {0}) E) →
    length part ≤ longest_piece → n ≤ length part → 0 < n →
    Consumes i1.bytes i2.bytes (take n part) → i2.failed ≡ i1.failed → is_err r ≡ false →
    ((first : FeedView) (came : List ℕ) (before : List Fed) → IsWatchedBy first came false s before →
    OnOk r (IsWatchedBy first (came ++ take n part) false t (before ++ items))) →
    OnOk r (HoldsFew t) → FeedsSome s (between i1 i2) t items
fed_piece s t i1 i2 part n items r most within some reads clean ok push short = record {
  piece = take n part;
  some = omega (arith, length-take-le n part within, some);
  most = omega (arith, length-take-le n part within, within, most);
  read = reads;
  clean = clean;
  taken = pushed (take n part) s t items r ok push;
  held = held_short t r ok short;
}

-- There is no memory for a piece that was read.
pub piece_lost : (s t : WatchedView) (i1 i2 : Port) (part : List ℕ) (n : ℕ) (items : List Fed) → length part ≤ longest_piece → n ≤ length part →
    Consumes i1.bytes i2.bytes (take n part) → i2.failed ≡ i1.failed → FeedsPiece s (between i1 i2) t items (Err Memory)
piece_lost s t i1 i2 part n items most within reads clean =
    (take n part, reads, clean, omega (arith, length-take-le n part within, within, most))

-- A read that gave no bytes
pub none_read : (a b : Option (List ℕ)) (n : ℕ) (part : List ℕ) → n ≡ 0 → Consumes a b (take n part) → Consumes a b []
none_read a b n part e h = subst (λ (m : ℕ). Consumes a b (take m part)) e h

more_came : (first : FeedView) (pids : List ℕ) (i0 i1 i2 o0 o1 o2 f0 f1 f2 : Port) (early late faulty : Bool) (s t : WatchedView) (l k : LinesView)
    (new : List Fed) →
    Midway first pids (between i0 i1) (between o0 o1) (between f0 f1) early s l → FeedsSome s (between i1 i2) t new →
    GoesOut l new (between o1 o2) (between f1 f2) (Ok late) → k ≡ after_lines l new → faulty ≡ (early || late) →
    Midway first pids (between i0 i2) (between o0 o2) (between f0 f2) faulty t k
more_came first pids i0 i1 i2 o0 o1 o2 f0 f1 f2 early late faulty s t l k new m p out next is = record {
  came = m.came ++ p.piece;
  fed = m.fed ++ new;
  by = p.taken first m.came m.fed m.by;
  held = p.held;
  passes = record {
    read = Consumes-trans i0.bytes i1.bytes i2.bytes m.came p.piece m.passes.read p.read;
    written = all_written o0 o1 o2 m.fed new m.passes.written out.0;
    clean = out.1 ∙ m.passes.clean;
    reports_all = all_lines_reported pids l f0 f1 f2 m.fed new m.lines_are m.passes.reports_all out.2;
  };
  unfailed = p.clean ∙ m.unfailed;
  faulty_is = all_faulty pids l early late faulty m.fed new m.lines_are m.faulty_is out.3 is;
  lines_are = all_lines_are pids l k m.fed new m.lines_are next;
}

-- A read that does not show that the description is of another stream
pub long_more : (first : FeedView) (pids : List ℕ) (i0 i1 i2 o0 o1 o2 f0 f1 f2 : Port) (early late faulty : Bool) (s t : WatchedView) (l k : LinesView)
    (new : List Fed) (pieces : ℕ) →
    MidwayLong first pids (between i0 i1) (between o0 o1) (between f0 f1) early s l pieces → FeedsSome s (between i1 i2) t new →
    GoesOut l new (between o1 o2) (between f1 f2) (Ok late) → k ≡ after_lines l new → faulty ≡ (early || late) → have_refusal new ≡ false →
    MidwayLong first pids (between i0 i2) (between o0 o2) (between f0 f2) faulty t k (pieces + 1)
unfolding more_came
long_more first pids i0 i1 i2 o0 o1 o2 f0 f1 f2 early late faulty s t l k new pieces m p out next is none =
    let before = m.midway in
    let some = p.some in
    record {
      midway = more_came first pids i0 i1 i2 o0 o1 o2 f0 f1 f2 early late faulty s t l k new before p out next is;
      unrefused = any_append is_refusal before.fed new ∙ ap (λ (b : Bool). b || have_refusal new) m.unrefused ∙ none;
      pieces_in = omega (arith, m.pieces_in, length-append before.came p.piece, some);
    }

-- A read that shows that the description is of another stream
pub long_refused : (first : FeedView) (pids : List ℕ) (i0 i1 i2 o0 o1 o2 f0 f1 f2 : Port) (early late faulty : Bool) (s t : WatchedView) (l k : LinesView)
    (new : List Fed) (pieces : ℕ) →
    MidwayLong first pids (between i0 i1) (between o0 o1) (between f0 f1) early s l pieces → FeedsSome s (between i1 i2) t new →
    GoesOut l new (between o1 o2) (between f1 f2) (Ok late) → k ≡ after_lines l new → faulty ≡ (early || late) → have_refusal new ≡ true →
    PassesPieces first pids (between i0 i2) (between o0 o2) (between f0 f2) (Ok faulty) t k
unfolding more_came
long_refused first pids i0 i1 i2 o0 o1 o2 f0 f1 f2 early late faulty s t l k new pieces m p out next is refused = (
  more_came first pids i0 i1 i2 o0 o1 o2 f0 f1 f2 early late faulty s t l k new m.midway p out next is,
  inr (any_append is_refusal m.midway.fed new ∙ ap (λ (b : Bool). have_refusal m.midway.fed || b) refused ∙ or_true (have_refusal m.midway.fed)),
  unrefused_before first pids p.piece (between i0 i1) (between o0 o1) (between f0 f1) early s l m.midway m.unrefused p.most,
)

pub long_enough : (first : FeedView) (pids : List ℕ) (input output faults : Device) (faulty : Bool) (s : WatchedView) (l : LinesView) (pieces : ℕ)
    (m : MidwayLong first pids input output faults faulty s l pieces) →
    2 ^ 64 - 1 ≤ pieces → PassesPieces first pids input output faults (Err Read) s l
long_enough first pids input output faults faulty s l pieces m long =
    too_long first pids input output faults faulty s l m.midway m.unrefused (le_trans long m.pieces_in)
