-- All lines of an input, or the lines of a front of it.
use Rattle.std.proofs.Common.{◌≡◌, ℕ, ◌+◌, ◌%◌, Bool, true, false, cond, List, [], ◌++◌, length, take, refl, sym, ap, subst, ◌∙◌, inl, inr, append-nil}
use Rattle.std.proofs.Common.{append_assoc, Option, Some, None, Ok, Err, arith}
use Rattle.std.proofs.KnownBytes.{Appends-nil, Appends-trans}
use Rattle.std.proofs.lemmas.Grind.{flat_map-append}
use Rattle.std.specs.Io.KnownBytes.{Appends}
use Rattle.capture.specs.Captures.{Part, capture_of}
use Rattle.capture.specs.Reading.{capture_by, no_bytes}
use Rattle.event_lines.specs.declared.event_lines.LineForm.{LineForm}
use Rattle.event_lines.specs.EventLines.{line_in, lines_of}
use Rattle.events.specs.declared.timed_event.TimedEvent.{TimedEvent}
use Rattle.ts_watch.specs.Choices.{RequestView}
use Rattle.analysis.specs.Analysis.{is_crowded}
use Rattle.analysis.specs.Analysis.{AnalysisState, start}
use Rattle.counted_io.specs.Device.{Failed}
use Rattle.devices.specs.Devices.{Port, Device, IsClean, IsUntouched, between}
use Rattle.devices.specs.Lines.{Stopped, WritesLine}
use Rattle.devices.specs.WholeInput.{IsWhole, TakesAll}
use Rattle.devices.specs.declared.halt.Halt.{Halt}
use Rattle.devices.specs.declared.halt.Halt.TheVariants.{Read, Write, Memory}
use Rattle.devices.proofs.Performances.{reports_none}
use Rattle.tsview_cli.proofs.Pieces.{calm_so_far, lines_both, none_calm, settled_by, take_past}
use Rattle.tsview_cli.specs.CapturedStreams.{IsSoFar, after_parts, events_last, events_of, is_good_input, is_whole, last_events, left_in, parts_in, rate_in}
use Rattle.tsview_cli.specs.declared.captured.CapturedView.{CapturedView}
use Rattle.tsview_cli.specs.declared.viewing.Viewed.{Viewed}
use Rattle.tsview_cli.specs.declared.viewing.Viewed.TheVariants.{Whole, Crowded}
use Rattle.tsview_cli.specs.Viewing.{AreSettled, AreViewed, BeginsWith, Breaks, BreaksOff, Concludes, EndShows, Reaches, Seen, Sees, SeesAll, Views, all_lines}
use Rattle.tsview_cli.specs.Viewing.{as_viewed, lines_all, settled, viewed}

-- Before the first byte
none_settled : AreSettled [] []
unfolding capture_by
none_settled = record { reader = no_bytes; left = λ more. refl; few = omega arith }

pub none_seen : (request : RequestView) (form : LineForm) (input output : Port) (halt : Halt) → halt ≡ Memory →
    BreaksOff request form (between input input) (between output output) halt
unfolding events_of
none_seen request form input output halt is = subst (BreaksOff request form (between input input) (between output output)) (sym is) (record {
  bytes = [];
  front = λ xs e. (xs, refl);
  text = [];
  text_is = inl ([], none_settled, refl);
  calm = none_calm (start request);
  at = (Appends-nil output.bytes, refl);
})

-- The view breaks off within the stream.
pub broken : (request : RequestView) (form : LineForm) (input output : Device) (halt : Halt) → Breaks form (start request) input output halt →
    BreaksOff request form input output halt
broken request form input output halt b = record {
  bytes = b.bytes;
  front = b.front;
  text = settled request form b.found;
  text_is = inl (b.found, b.are, refl);
  calm = b.calm;
  at = b.at;
}

whole_front : (known : Option (List ℕ)) (bytes : List ℕ) → IsWhole known bytes → BeginsWith known bytes
whole_front None bytes w xs e = absurd cc
whole_front (Some ys) bytes w xs e = let same : ys ≡ xs = cc in ([], sym same ∙ sym w ∙ sym (append-nil bytes))

-- The viewed bytes of an input: all of it, or a front
record Reached (request : RequestView) (form : LineForm) (input output : Device) (now : CapturedView) (size : ℕ) : Type 0 where
  pub bytes : List ℕ
  pub front : BeginsWith input.before.bytes bytes
  pub seen : Seen form (start request) output now bytes
  pub clean : IsClean input
  pub all : ((later : List Part) → parts_in bytes ≡ seen.found ++ later → AreViewed request input bytes)

reached : (request : RequestView) (form : LineForm) (input output : Device) (now : CapturedView) (size : ℕ) → Reaches form (start request) input output now size →
    Reached request form input output now size
reached request form input output now size (inl t) = record {
  bytes = t.bytes;
  front = whole_front input.before.bytes t.bytes t.read.0;
  seen = t.taken;
  clean = t.read.1.clean;
  all = λ later e. inl t.read;
}
reached request form input output now size (inr c) = record {
  bytes = c.bytes;
  front = c.front;
  seen = c.seen;
  clean = c.clean;
  all = λ later e. inr (record { found = c.seen.found; later = later; parts_are = e; now = now.parts.view; kept = c.seen.so_far.view; crowded = c.crowded });
}

-- The view breaks off before its last lines.
pub no_end : (request : RequestView) (form : LineForm) (input output : Device) (now : CapturedView) (size : ℕ) (halt : Halt) → halt ≡ Memory →
    Reaches form (start request) input output now size →
    BreaksOff request form input output halt
no_end request form input output now size halt is t =
    let r : Reached request form input output now size = reached request form input output now size t in
    subst (BreaksOff request form input output) (sym is) (record {
      bytes = r.bytes;
      front = r.front;
      text = settled request form r.seen.found;
      text_is = inl (r.seen.found, settled_by (start request) now r.bytes r.seen.found r.seen.so_far, refl);
      calm = r.seen.calm;
      at = (r.seen.written, r.clean);
    })

-- The last lines, whatever was viewed before
abbrev pub EndsWith : Option ℕ → LineForm → CapturedView → List ℕ → Bool → Type 0
EndsWith rate form now text good = (first : AnalysisState) (bytes : List ℕ) (found : List Part) → IsSoFar first now bytes found →
    EndShows rate form first bytes found text good

last_lines : (request : RequestView) (form : LineForm) (bytes : List ℕ) (found : List Part) (text : List ℕ) (rate : Option ℕ) (good : Bool) →
    rate ≡ rate_in request → EndShows rate form (start request) bytes found text good →
    settled request form found ++ text ≡ all_lines request form bytes
last_lines request form bytes found text rate good is e =
    let s = start request in
    let more = events_of (after_parts s found) e.more in
    let last = last_events rate (capture_of bytes).form (after_parts s (parts_in bytes)) (left_in bytes) in
    let same : last ≡ events_last request bytes =
    ap (λ (r : Option ℕ). last_events r (capture_of bytes).form (after_parts s (parts_in bytes)) (left_in bytes)) is in
    ap (λ (t : List ℕ). settled request form found ++ t) (e.text_is ∙ flat_map-append (line_in form) more last)
    ∙ sym (append_assoc (settled request form found) (lines_of form more) (lines_of form last))
    ∙ ap (λ (t : List ℕ). t ++ lines_of form last) (sym (lines_both form s found e.more) ∙ ap (λ (p : List Part). lines_all form s p) (sym e.parts_are))
    ∙ ap (λ (l : List TimedEvent). lines_all form s (parts_in bytes) ++ lines_of form l) same

-- The view breaks off within its last lines.
pub not_ended : (V : Type 0) (request : RequestView) (form : LineForm) (input : Device) (begin mid end : Port) (now : CapturedView) (size : ℕ) (text : List ℕ)
    (halt : Halt) (rate : Option ℕ) (good : Bool) → rate ≡ rate_in request →
    Reaches form (start request) input (between begin mid) now size → EndsWith rate form now text good → WritesLine {V = V} text (between mid end) (Err halt) →
    BreaksOff request form input (between begin end) halt
not_ended V request form input begin mid end now size text Read rate good same t is w = absurd w
not_ended V request form input begin mid end now size text Write rate good same t is w =
    let r : Reached request form input (between begin mid) now size = reached request form input (between begin mid) now size t in
    let e : EndShows rate form (start request) r.bytes r.seen.found text good = is (start request) r.bytes r.seen.found r.seen.so_far in
    let a = settled request form r.seen.found in
    let stopped : Stopped text (between mid end) = w.0 in
    let front : a ++ take stopped.taken text ≡ take (length a + stopped.taken) (all_lines request form r.bytes) =
    sym (take_past a text stopped.taken) ∙ ap (take (length a + stopped.taken)) (last_lines request form r.bytes r.seen.found text rate good same e) in
    record {
      bytes = r.bytes;
      front = r.front;
      text = all_lines request form r.bytes;
      text_is = inr (refl, r.all e.more e.parts_are);
      calm = r.seen.calm;
      at = (
        record {
          taken = length a + stopped.taken;
          appends = subst (Appends begin.bytes end.bytes) front
              (Appends-trans begin.bytes mid.bytes end.bytes a (take stopped.taken text) r.seen.written stopped.appends);
        },
        subst (λ (k : ℕ). Failed k end.failed) r.seen.clean w.1,
      );
    }
not_ended V request form input begin mid end now size text Memory rate good same t is w = absurd w

-- All lines are written, up to the end of the input.
all_written : (request : RequestView) (form : LineForm) (begin mid end : Port) (now : CapturedView) (text bytes : List ℕ) (rate : Option ℕ) (good : Bool) →
    rate ≡ rate_in request →
    (seen : Seen form (start request) (between begin mid) now bytes) → EndShows rate form (start request) bytes seen.found text good →
    Appends mid.bytes end.bytes text →
    Appends begin.bytes end.bytes (all_lines request form bytes)
all_written request form begin mid end now text bytes rate good same seen e written =
    subst (Appends begin.bytes end.bytes) (last_lines request form bytes seen.found text rate good same e)
    (Appends-trans begin.bytes mid.bytes end.bytes (settled request form seen.found) text seen.written written)

good_is : (request : RequestView) (form : LineForm) (bytes : List ℕ) (found : List Part) (text : List ℕ) (rate : Option ℕ) (good : Bool) → rate ≡ rate_in request →
    EndShows rate form (start request) bytes found text good →
    good ≡ is_good_input request bytes
good_is request form bytes found text rate good same e =
    e.good_is ∙ ap (λ (r : Option ℕ). is_whole r (capture_of bytes).form (after_parts (start request) (parts_in bytes)) (left_in bytes)) same

all_seen : (request : RequestView) (form : LineForm) (input : Device) (begin mid end : Port) (now : CapturedView) (size : ℕ) (text : List ℕ) (rate : Option ℕ)
    (good : Bool) → rate ≡ rate_in request → is_crowded now.parts.view ≡ false →
    TakesAll (Seen form (start request) (between begin mid) now) input size → EndsWith rate form now text good → Appends mid.bytes end.bytes text →
    end.failed ≡ mid.failed → SeesAll request form input (between begin end) good
all_seen request form input begin mid end now size text rate good same calm t is written clean =
    let e : EndShows rate form (start request) t.bytes t.taken.found text good = is (start request) t.bytes t.taken.found t.taken.so_far in
    record {
      bytes = t.bytes;
      read = t.read;
      written = all_written request form begin mid end now text t.bytes rate good same t.taken e written;
      clean = clean ∙ t.taken.clean;
      calm = record { before = t.taken.calm; after = calm_so_far (start request) now t.bytes t.taken.found t.taken.so_far calm };
      good_is = good_is request form t.bytes t.taken.found text rate good same e;
    }

not_both : (b : Bool) → b ≡ true → b ≡ false → ⊥
not_both b e f = let both : true ≡ false = sym e ∙ f in absurd cc

-- All lines are written, up to the end of the input or to the place where the view is crowded.
pub viewed_so : (request : RequestView) (form : LineForm) (input : Device) (begin mid end : Port) (now : CapturedView) (size : ℕ) (text : List ℕ) (rate : Option ℕ)
    (crowded good : Bool) → rate ≡ rate_in request →
    crowded ≡ is_crowded now.parts.view → Reaches form (start request) input (between begin mid) now size → EndsWith rate form now text good →
    Appends mid.bytes end.bytes text →
    end.failed ≡ mid.failed → Sees request form input (between begin end) (Ok (as_viewed crowded good))
viewed_so request form input begin mid end now size text rate true good same so t is written clean =
    let r : Reached request form input (between begin mid) now size = reached request form input (between begin mid) now size t in
    let e : EndShows rate form (start request) r.bytes r.seen.found text good = is (start request) r.bytes r.seen.found r.seen.so_far in
    record {
      bytes = r.bytes;
      front = r.front;
      read = r.clean;
      calm = r.seen.calm;
      crowded = record { found = r.seen.found; later = e.more; parts_are = e.parts_are; now = now.parts.view; kept = r.seen.so_far.view; crowded = sym so };
      written = all_written request form begin mid end now text r.bytes rate good same r.seen e written;
      clean = clean ∙ r.seen.clean;
    }
viewed_so request form input begin mid end now size text rate false good same so (inl t) is written clean =
    all_seen request form input begin mid end now size text rate good same (sym so) t is written clean
viewed_so request form input begin mid end now size text rate false good same so (inr c) is written clean =
    absurd (not_both (is_crowded now.parts.view) c.crowded (sym so))

ended : (request : RequestView) (form : LineForm) (input output faults : Device) (good : Bool) (status : ℕ) → SeesAll request form input output good →
    IsUntouched faults → status ≡ cond good 0 1 →
    Views request form input output faults status
ended request form input output faults good status s untouched is = inl (record {
  outcome = viewed request form s.bytes;
  leads = record { bytes = s.bytes; read = s.read; is = record { is = refl; calm = s.calm } };
  written = s.written;
  clean = s.clean;
  reports = reports_none faults untouched;
  status_is = is ∙ ap (λ (b : Bool). cond b 0 1) s.good_is;
})

pub concluded : (request : RequestView) (form : LineForm) (input output faults : Device) (v : Viewed) (status : ℕ) → Sees request form input output (Ok v) →
    Concludes v faults status →
    Views request form input output faults status
concluded request form input output faults (Whole good) status s c = ended request form input output faults good status s c.0 c.1
concluded request form input output faults Crowded status s c = inr (inr (record { sees = s; reports = c.0; status_is = c.1 }))
