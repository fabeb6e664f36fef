-- The end of a stream whose output went out while its input arrived
use Rattle.std.proofs.Common.{◌≡◌, ◌⊎◌, ℕ, Bool, true, false, List, [], ◌++◌, Result, Ok, Err, refl}
use Rattle.std.proofs.Common.{sym, ap, ◌∙◌, subst, inl, inr, arith}
use Rattle.std.specs.Prelude.{◌||◌, OnOk, if◌then◌else◌}
use Rattle.std.specs.Result.{is_err}
use Rattle.std.specs.Io.KnownBytes.{Consumes, IsAtEnd}
use Rattle.std.proofs.KnownBytes.{Consumes-nil}
use Rattle.std.proofs.lemmas.List.{append-nil}
use Rattle.devices.specs.Devices.{Device, Port, Takes, between}
use Rattle.devices.specs.Lines.{Reports, ReportsAll}
use Rattle.devices.specs.Outcomes.{halt_line}
use Rattle.devices.specs.declared.halt.Halt.{Halt}
use Rattle.devices.specs.declared.halt.Halt.TheVariants.{Read, Write, Memory}
use Rattle.fed_streams.specs.Feeding.{Fed, FeedView}
use Rattle.es_feed.specs.Watching.{IsWatchedBy, IsWatchedOf, WatchedView, watched_first}
use Rattle.es_feed.proofs.ReportedLines.{any_append}
use Rattle.es_feed.specs.FedLines.{fed_records, have_refusal, is_refusal}
use Rattle.es_feed.specs.StreamLines.{LinesView, fed_lines, first_lines}
use Rattle.es_feed.specs.Passing.{GoesOut, IsUnrefused, Midway, PassesAll, PassesLast}
use Rattle.es_feed.specs.Passing.{PassesOn, PassesPieces, RunsStream}
use Rattle.es_feed.proofs.PassedStreams.{all_faulty, all_lines_reported, all_written, last_fails, no_room, none_came, so_far}

-- 1. The items that the end of the stream feeds

still_refused : (old new : List Fed) → have_refusal old ≡ true → have_refusal (old ++ new) ≡ true
still_refused old new is = any_append is_refusal old new ∙ ap (λ (b : Bool). b || have_refusal new) is

still_ends : (E : Type 0) (old new : List Fed) → E ⊎ (have_refusal old ≡ true) → E ⊎ (have_refusal (old ++ new) ≡ true)
still_ends E old new (inl ends) = inl ends
still_ends E old new (inr is) = inr (still_refused old new is)

pub stream_ends : (first : FeedView) (pids : List ℕ) (input : Device) (o0 o1 o2 f0 f1 f2 : Port) (early late faulty : Bool) (s : WatchedView)
    (l : LinesView) (m : Midway first pids input (between o0 o1) (between f0 f1) early s l) → IsAtEnd input.after.bytes ⊎ (have_refusal m.fed ≡ true) →
    IsUnrefused first m.came → PassesLast first l m.came m.fed (between o1 o2) (between f1 f2) (Ok late) → faulty ≡ (early || late) →
    PassesAll first pids input (between o0 o2) (between f0 f2) faulty
stream_ends first pids input o0 o1 o2 f0 f1 f2 early late faulty s l m ends unrefused (last, all, out) is = record {
  came = m.came;
  fed = m.fed ++ last;
  fed_is = all;
  passes = record {
    read = m.passes.read;
    written = all_written o0 o1 o2 m.fed last m.passes.written out.0;
    clean = out.1 ∙ m.passes.clean;
    reports_all = all_lines_reported pids l f0 f1 f2 m.fed last m.lines_are m.passes.reports_all out.2;
  };
  ends = still_ends (IsAtEnd input.after.bytes) m.fed last ends;
  unrefused = unrefused;
  unfailed = m.unfailed;
  faulty_is = all_faulty pids l early late faulty m.fed last m.lines_are m.faulty_is out.3 is;
}

pub end_fails : (first : FeedView) (pids : List ℕ) (input : Device) (o0 o1 o2 f0 f1 f2 : Port) (early : Bool) (s : WatchedView) (l : LinesView)
    (halt : Halt) (m : Midway first pids input (between o0 o1) (between f0 f1) early s l) → IsUnrefused first m.came →
    PassesLast first l m.came m.fed (between o1 o2) (between f1 f2) (Err halt) → PassesOn first pids input (between o0 o2) (between f0 f2) (Err halt)
end_fails first pids input o0 o1 o2 f0 f1 f2 early s l Read m unrefused p = absurd p
end_fails first pids input o0 o1 o2 f0 f1 f2 early s l Write m unrefused (last, all, out) =
    last_fails first pids m.came input.before input.after input.after o0 o1 o2 f0 f1 f2 early s l last m m.passes.read (inr all) unrefused out
end_fails first pids input o0 o1 o2 f0 f1 f2 early s l Memory m unrefused p = record {
  came = m.came;
  fed = m.fed;
  fed_is = so_far first pids input (between o0 o1) (between f0 f1) early s l m;
  untaken = [];
  unrefused = subst (λ (bytes : List ℕ). IsUnrefused first bytes) (sym (append-nil m.came)) unrefused;
  passes = record {
    read = subst (λ (bytes : List ℕ). Consumes input.before.bytes input.after.bytes bytes) (sym (append-nil m.came)) m.passes.read;
    written = subst (λ (q : Port). Takes (between o0 q) (fed_records m.fed)) (sym p.0) m.passes.written;
    clean = ap (λ (q : Port). q.failed) p.0 ∙ m.passes.clean;
    reports_all = subst (λ (q : Port). ReportsAll f0 q (fed_lines pids m.fed)) (sym p.1) m.passes.reports_all;
  };
  stopped = m.unfailed;
}

pub pieces_fail : (first : FeedView) (pids : List ℕ) (input output faults : Device) (s : WatchedView) (l : LinesView) (halt : Halt) →
    PassesPieces first pids input output faults (Err halt) s l →
    PassesOn first pids input output faults (Err halt)
pieces_fail first pids input output faults s l Read p = p
pieces_fail first pids input output faults s l Write p = p
pieces_fail first pids input output faults s l Memory p = p

-- There is no memory for the room of a piece.
none_came_pieces : (first : FeedView) (pids : List ℕ) (input output faults : Port) →
    PassesPieces first pids (between input input) (between output output) (between faults faults) (Err Memory) (watched_first first) (first_lines pids)
none_came_pieces first pids input output faults =
    let m = none_came first pids input output faults in
    no_room first pids [] input input input (between output output) (between faults faults) false (watched_first first) (watched_first first)
    (first_lines pids) (first_lines pids) m.midway m.unrefused (Consumes-nil input.bytes) refl (omega arith)

pub no_piece : (first : FeedView) (pids : List ℕ) (input output faults : Port) →
    PassesOn first pids (between input input) (between output output) (between faults faults) (Err Memory)
no_piece first pids input output faults =
    pieces_fail first pids (between input input) (between output output) (between faults faults) (watched_first first) (first_lines pids) Memory
    (none_came_pieces first pids input output faults)

-- 2. The status

pub run_ends : (first : FeedView) (pids : List ℕ) (input output faults : Device) (faulty : Bool) (status : ℕ) →
    PassesOn first pids input output faults (Ok faulty) → status ≡ (if faulty then 1 else 0) →
    RunsStream first pids input output faults status
run_ends first pids input output faults faulty status p s = inl (record { faulty = faulty; passes = p; status_is = s })

pub run_stops : (first : FeedView) (pids : List ℕ) (input output : Device) (before reported after : Port) (halt : Halt) (status : ℕ) →
    PassesOn first pids input output (between before reported) (Err halt) →
    Reports (between reported after) (halt_line halt) → status ≡ 3 → RunsStream first pids input output (between before after) status
run_stops first pids input output before reported after halt status p r s =
    inr (record { halt = halt; reported = reported; passes = p; reports = r; status_is = s })

-- 3. The items that the end of a stream feeds are written

last_is : (first : FeedView) (came : List ℕ) (s : WatchedView) (before items shown : List Fed) → shown ≡ items → IsWatchedBy first came false s before →
    (IsWatchedBy first came false s before → IsWatchedOf first came (before ++ items)) → IsWatchedOf first came (before ++ shown)
last_is first came s before items shown e by finish = subst (λ (x : List Fed). IsWatchedOf first came (before ++ x)) (sym e) (finish by)

pub last_out : {E : Type 0} (first : FeedView) (l : LinesView) (came : List ℕ) (s : WatchedView) (before items shown : List Fed) (output faults : Device)
    (done : Result (Unit {0}) E) (r : Result Bool Halt) →
    shown ≡ items → is_err done ≡ false → IsWatchedBy first came false s before →
    (IsWatchedBy first came false s before → OnOk done (IsWatchedOf first came (before ++ items))) →
    GoesOut l shown output faults r → PassesLast first l came before output faults r
last_out first l came s before items shown output faults (Err x) r e ok by finish out = absurd cc
last_out first l came s before items shown output faults (Ok x) (Ok late) e ok by finish out =
    (shown, last_is first came s before items shown e by finish, out)
last_out first l came s before items shown output faults (Ok x) (Err Read) e ok by finish out = absurd out
last_out first l came s before items shown output faults (Ok x) (Err Write) e ok by finish out =
    (shown, last_is first came s before items shown e by finish, out)
last_out first l came s before items shown output faults (Ok x) (Err Memory) e ok by finish out = absurd out
