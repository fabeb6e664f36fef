-- Records that arrive one after another, and the lines for refused records
use Rattle.std.proofs.Common.{◌≡◌, ◌≤◌, ◌+◌, ◌||◌, ℕ, Bool, true, false, nat_lt, List, [], ◌∷◌, ◌++◌, length, Option, Some, None, Ok, Err, refl}
use Rattle.std.proofs.Common.{sym, ap, ◌∙◌, subst, arith, below_none, length-append, inl, inr}
use Rattle.std.proofs.lemmas.Bool.{false≢true, lt-ltb}
use Rattle.devices.specs.Devices.{Device, Port, HasFailed, IsClean, between}
use Rattle.devices.specs.Lines.{Reports}
use Rattle.mux_core.specs.declared.output.OutputFault.{OutputFault}
use Rattle.unit_records.specs.declared.reading.UnitFileError.TheVariants.{Cut, Size, Device as AtReader, Memory}
use Rattle.mux_core.specs.RecordRuns.{after_records}
use Rattle.on_air.specs.declared.refusals.AirRefusal.{AirRefusal}
use Rattle.on_air.specs.declared.answers.Heard.TheVariants.{Refused, Changed, LinedUp, Ended}
use Rattle.on_air.specs.declared.answers.Ending.{Ending}
use Rattle.on_air.specs.declared.answers.Ending.TheVariants.{Input, Unread, Slots, Records, TextsMemory}
use Rattle.on_air.specs.Airing.{Run, Air, caught_up, silence, texts_now}
use Rattle.on_air.specs.AirStates.{AirState, IsOnAir}
use Rattle.on_air.specs.Courses.{Course, at_begin, heard}
use Rattle.on_air.specs.Hearing.{Fails, HasMore, HeardOn, HearsOn, IsOn, NamesDevice}
use Rattle.explained_jobs.specs.declared.unit_limits.UnitLimits.{UnitLimits}
use Rattle.description_parts.specs.Described.{Described}
use Rattle.tsair_cli.specs.declared.repeats.Repeats.{Repeats}
use Rattle.tsair_cli.specs.Repeats.{none_refused, repeats_text, with_cause}
use Rattle.tsair_cli.specs.HeardRecords.{Airs, AreLimits, EndsRecords, FailsRecords, NamesReader, OfChange, OfMore, Reported}
use Rattle.tsair_cli.specs.HeardRecords.{ReportsChange, StopsAtFirst, all_lines, changed_among}
use Rattle.tsair_cli.specs.HeardRecords.{changes_of, has_refused, limits_in, lines_among, lines_by, lost_among, said_of, texts_among}
use Rattle.tsair_cli.specs.States.{KeepsState, Saving}
use Rattle.tsair_cli.proofs.ReportedLines.{reported_on, one_reported, reported_none, texts_same, texts_more, limits_same, ReportsLines, lines_reported}
use Rattle.tsair_cli.proofs.ReportedLines.{change_aside, lines_more, repeats_more, lines_all, changed_same, changed_last, changed_more, changes_with}
use Rattle.tsair_cli.proofs.ReportedLines.{changes_are, changes_over, lost_same, lost_last, lost_more}

some_refused : (old new : List (ℕ × AirRefusal)) (refused : ℕ × AirRefusal) → new ≡ old ++ (refused ∷ []) → nat_lt 0 (length new) ≡ true
some_refused old new refused is =
    let size : length new ≡ length (old ++ (refused ∷ [])) = ap length is in
    let more : length (old ++ (refused ∷ [])) ≡ length old + 1 = length-append old (refused ∷ []) in
    lt-ltb 0 (length new) (omega (arith, size, more))

-- No record is refused if none is counted.
none_refused_yet : (refused : Bool) (l : List (ℕ × AirRefusal)) → refused ≡ nat_lt 0 (length l) → refused ≡ false → l ≡ []
none_refused_yet refused [] is none = refl
none_refused_yet refused (r ∷ rs) is none = absurd (false≢true (sym none ∙ is ∙ lt-ltb 0 (length (r ∷ rs)) (omega arith)))

-- After no other record a refused record is the only one.
one_refused : (old new : List (ℕ × AirRefusal)) (refused : ℕ × AirRefusal) → new ≡ old ++ (refused ∷ []) → old ≡ [] → length new ≡ 1
one_refused old new refused is none = ap length is ∙ ap (λ (l : List (ℕ × AirRefusal)). length (l ++ (refused ∷ []))) none

at_most_one : (l : List (ℕ × AirRefusal)) → length l ≡ 1 → length l ≤ 1
at_most_one l one = omega (arith, one)

at_most_none : (l : List (ℕ × AirRefusal)) → l ≡ [] → length l ≤ 1
at_most_none l none = let size : length l ≡ 0 = ap length none in omega (arith, size)

pub stopped_at_most : (came : Course) (why : Option Ending) → StopsAtFirst came why → length came.air.refused ≤ 1
stopped_at_most came None one = at_most_one came.air.refused one
stopped_at_most came (Some why) none = at_most_none came.air.refused none

-- 1. Up to a refused record, or to the end

pub record Midway (saving : Saving) (run : Run) (origin left start now : Option (List ℕ)) (faults : Device) (refused lost : Bool) (repeats : Repeats)
    (limits : Option (List UnitLimits)) (s : AirState) : Type 0 where
  pub airs : Airs saving run origin left faults
  pub lines : lines_among airs.reported ≡ (said_of airs.came.air.refused).lines
  pub repeats_are : repeats ≡ (said_of airs.came.air.refused).repeats
  pub changed : changed_among airs.reported ≡ changes_of airs.came
  pub refused_is : refused ≡ has_refused airs.came
  pub lost_is : lost ≡ lost_among airs.begun_lost airs.reported
  pub limits_are : AreLimits limits (texts_among (texts_now run silence) airs.reported)
  pub state : IsOn airs.came start now s

pub first : (saving : Saving) (run : Run) (origin start now : Option (List ℕ)) (before after : Port) (texts : Described) (lost : Bool) (repeats : Repeats)
    (limits : Option (List UnitLimits)) (s : AirState) → IsOnAir run silence start now s → texts ≡ texts_now run silence →
    KeepsState saving texts (between before after) lost → repeats ≡ none_refused → AreLimits limits texts →
    Midway saving run origin origin start now (between before after) false lost repeats limits s
unfolding heard after_records lines_among
first saving run origin start now before after texts lost repeats limits s h are keeps is known = record {
  airs = record {
    came = at_begin run;
    heard_is = record {
      count = 0;
      heard_is = record {
        known = λ xs e. (refl, e, λ m none. below_none (λ i. HasMore (heard run i xs)) m none);
        some = λ rest. record {
          bytes = rest;
          led = refl;
          rest_is = refl;
          slots_left = λ m none. below_none (λ i. HasMore (heard run i rest)) m none;
        };
      };
    };
    first = after;
    begun_lost = lost;
    begun = subst (λ (d : Described). KeepsState saving d (between before after) lost) are keeps;
    reported = [];
    so_far = reported_none saving (texts_now run silence) after;
    lines = inl refl;
  };
  lines = refl;
  repeats_are = is;
  changed = refl;
  refused_is = refl;
  lost_is = refl;
  limits_are = limits_same limits texts (texts_now run silence) (sym are) known;
  state = h;
}

-- The course after a refused record, which the run has followed if it follows such records.
abbrev followed : Run → Air → AirRefusal → Course
followed run b cause = record { run = run; air = caught_up run b (Some cause) }

-- A refused record is reported.
abbrev airs_refused : (saving : Saving) (run : Run) (origin mid left : Option (List ℕ)) (before so_far after : Port) (repeats : Repeats) (index : ℕ)
    (cause : AirRefusal) (airs : Airs saving run origin mid (between before so_far)) (b : Air) → HeardOn run origin left (followed airs.came.run b cause) →
    lines_among (airs.reported ++ lines_by repeats (index, cause)) ≡ (said_of b.refused).lines →
    ReportsLines (limits_in (texts_among (texts_now run silence) airs.reported)) repeats (index, cause) (between so_far after) →
    Airs saving run origin left (between before after)
airs_refused saving run origin mid left before so_far after repeats index cause airs b heard_on are r = record {
  came = followed airs.came.run b cause;
  heard_is = heard_on;
  first = airs.first;
  begun_lost = airs.begun_lost;
  begun = airs.begun;
  reported = airs.reported ++ lines_by repeats (index, cause);
  so_far = reported_on saving (texts_now run silence) airs.first so_far after airs.reported (lines_by repeats (index, cause)) airs.so_far
      (lines_reported saving (texts_among (texts_now run silence) airs.reported) repeats (index, cause) so_far after r);
  lines = inl are;
}

-- At the end the records without a line are reported.
abbrev airs_last : (saving : Saving) (run : Run) (origin left : Option (List ℕ)) (before so_far after : Port) (repeats : Repeats)
    (airs : Airs saving run origin left (between before so_far)) → lines_among (airs.reported ++ (OfMore repeats ∷ [])) ≡ all_lines airs.came.air.refused →
    Reports (between so_far after) (repeats_text repeats) → Airs saving run origin left (between before after)
airs_last saving run origin left before so_far after repeats airs are r = record {
  came = airs.came;
  heard_is = airs.heard_is;
  first = airs.first;
  begun_lost = airs.begun_lost;
  begun = airs.begun;
  reported = airs.reported ++ (OfMore repeats ∷ []);
  so_far = reported_on saving (texts_now run silence) airs.first so_far after airs.reported (OfMore repeats ∷ []) airs.so_far
      (one_reported saving (texts_among (texts_now run silence) airs.reported) so_far after (OfMore repeats) r);
  lines = inr are;
}

-- Further records are taken, and nothing is reported.
abbrev airs_on : (saving : Saving) (run : Run) (origin mid left : Option (List ℕ)) (faults : Device) (airs : Airs saving run origin mid faults) (b : Course) →
    HeardOn run origin left b → lines_among airs.reported ≡ (said_of b.air.refused).lines → Airs saving run origin left faults
airs_on saving run origin mid left faults airs b heard_on are = record {
  came = b;
  heard_is = heard_on;
  first = airs.first;
  begun_lost = airs.begun_lost;
  begun = airs.begun;
  reported = airs.reported;
  so_far = airs.so_far;
  lines = inl are;
}

-- The lines of refused records stay if no further record is refused.
lines_stay : (lines : List Reported) (old new : List (ℕ × AirRefusal)) → lines_among lines ≡ (said_of old).lines → new ≡ old →
    lines_among lines ≡ (said_of new).lines
lines_stay lines old new are same = are ∙ ap (λ (l : List (ℕ × AirRefusal)). (said_of l).lines) (sym same)

repeats_stay : (repeats : Repeats) (old new : List (ℕ × AirRefusal)) → repeats ≡ (said_of old).repeats → new ≡ old → repeats ≡ (said_of new).repeats
repeats_stay repeats old new are same = are ∙ ap (λ (l : List (ℕ × AirRefusal)). (said_of l).repeats) (sym same)

pub next : (saving : Saving) (run : Run) (origin mid left start now later last : Option (List ℕ)) (before so_far after : Port) (refused lost : Bool)
    (repeats counted : Repeats) (limits : Option (List UnitLimits)) (s heard_to new : AirState) (index : ℕ) (cause : AirRefusal)
    (m : Midway saving run origin mid start now (between before so_far) refused lost repeats limits s) →
    HearsOn run m.airs.came origin left start later (Ok (Refused index cause)) heard_to →
    ((r : Run) (a : Air) → IsOnAir r a start later heard_to → IsOnAir r (caught_up r a (Some cause)) start last new) →
    ((d : Described) → AreLimits limits d → ReportsLines (limits_in d) repeats (index, cause) (between so_far after)) → counted ≡ with_cause repeats cause →
    Midway saving run origin left start last (between before after) true lost counted limits new
next saving run origin mid left start now later last before so_far after refused lost repeats counted limits s heard_to new index cause m
    (b, heard_on, adds, state) follows r is =
    let c = m.airs.came in
    let are = lines_more m.airs.reported repeats c.air.refused b.refused (index, cause) m.lines m.repeats_are adds.refused in
    record {
      airs = airs_refused saving run origin mid left before so_far after repeats index cause m.airs b heard_on are
          (r (texts_among (texts_now run silence) m.airs.reported) m.limits_are);
      lines = are;
      repeats_are = is ∙ repeats_more repeats c.air.refused b.refused (index, cause) m.repeats_are adds.refused;
      changed = changed_same m.airs.reported repeats (index, cause) c (followed c.run b cause) m.changed (changes_are c.run c.air b adds.before adds.changes);
      refused_is = sym (some_refused c.air.refused b.refused (index, cause) adds.refused);
      lost_is = lost_same m.airs.begun_lost m.airs.reported repeats (index, cause) lost m.lost_is;
      limits_are = limits_same limits (texts_among (texts_now run silence) m.airs.reported) _
          (texts_same (texts_now run silence) m.airs.reported repeats (index, cause)) m.limits_are;
      state = follows c.run b state;
    }

-- A change is reported.
abbrev changed_on : (saving : Saving) (run : Run) (origin mid left start now later : Option (List ℕ)) (before so_far after : Port) (refused lost : Bool)
    (repeats : Repeats) (limits known : Option (List UnitLimits)) (s new : AirState) (index slot : ℕ) (texts : Described) (is_lost all_lost : Bool)
    (m : Midway saving run origin mid start now (between before so_far) refused lost repeats limits s) (b : Course) → HeardOn run origin left b →
    b.air.refused ≡ m.airs.came.air.refused → changes_of b ≡ (slot, texts) ∷ changes_of m.airs.came → IsOn b start later new →
    ReportsChange saving index slot texts (between so_far after) is_lost → all_lost ≡ (is_lost || lost) → AreLimits known texts →
    Midway saving run origin left start later (between before after) refused all_lost repeats known new
changed_on saving run origin mid left start now later before so_far after refused lost repeats limits known s new index slot texts is_lost all_lost m b heard_on
    same is state r more are =
    let stay = change_aside m.airs.reported index slot texts is_lost
    ∙ lines_stay m.airs.reported m.airs.came.air.refused b.air.refused m.lines same in
    record {
      airs = record {
        came = b;
        heard_is = heard_on;
        first = m.airs.first;
        begun_lost = m.airs.begun_lost;
        begun = m.airs.begun;
        reported = m.airs.reported ++ (OfChange index slot texts is_lost ∷ []);
        so_far = reported_on saving (texts_now run silence) m.airs.first so_far after m.airs.reported (OfChange index slot texts is_lost ∷ []) m.airs.so_far
            (one_reported saving (texts_among (texts_now run silence) m.airs.reported) so_far after (OfChange index slot texts is_lost) r);
        lines = inl stay;
      };
      lines = stay;
      repeats_are = repeats_stay repeats m.airs.came.air.refused b.air.refused m.repeats_are same;
      changed = changed_more m.airs.reported index slot texts is_lost m.airs.came b m.changed is;
      refused_is = m.refused_is ∙ ap (λ (l : List (ℕ × AirRefusal)). nat_lt 0 (length l)) (sym same);
      lost_is = lost_more m.airs.begun_lost m.airs.reported index slot texts is_lost lost all_lost m.lost_is more;
      limits_are = limits_same known texts _ (texts_more (texts_now run silence) m.airs.reported index slot texts is_lost) are;
      state = state;
    }

-- The texts changed.
pub next_change : (saving : Saving) (run : Run) (origin mid left start now later : Option (List ℕ)) (before so_far after : Port) (refused lost : Bool)
    (repeats : Repeats) (limits known : Option (List UnitLimits)) (s new : AirState) (index slot : ℕ) (texts : Described) (is_lost all_lost : Bool)
    (m : Midway saving run origin mid start now (between before so_far) refused lost repeats limits s) →
    HearsOn run m.airs.came origin left start later (Ok (Changed index slot)) new →
    ((r : Run) (a : Air) → IsOnAir r a start later new → texts ≡ texts_now r a) →
    ReportsChange saving index slot texts (between so_far after) is_lost → all_lost ≡ (is_lost || lost) → AreLimits known texts →
    Midway saving run origin left start later (between before after) refused all_lost repeats known new
next_change saving run origin mid left start now later before so_far after refused lost repeats limits known s new index slot texts is_lost all_lost m
    (b, heard_on, adds, state) are r more limited =
    changed_on saving run origin mid left start now later before so_far after refused lost repeats limits known s new index slot texts is_lost all_lost m
    (record { run = m.airs.came.run; air = b }) heard_on adds.refused
    (changes_with m.airs.came.run m.airs.came.air b index slot texts adds (are m.airs.came.run b state)) state r more limited

-- The line-up changed.
pub next_line_up : (saving : Saving) (run : Run) (origin mid left start now later : Option (List ℕ)) (before so_far after : Port) (refused lost : Bool)
    (repeats : Repeats) (limits known : Option (List UnitLimits)) (s new : AirState) (index slot : ℕ) (texts : Described) (is_lost all_lost : Bool)
    (m : Midway saving run origin mid start now (between before so_far) refused lost repeats limits s) →
    HearsOn run m.airs.came origin left start later (Ok (LinedUp index slot)) new →
    ((r : Run) (a : Air) → IsOnAir r a start later new → texts ≡ texts_now r a) →
    ReportsChange saving index slot texts (between so_far after) is_lost → all_lost ≡ (is_lost || lost) → AreLimits known texts →
    Midway saving run origin left start later (between before after) refused all_lost repeats known new
next_line_up saving run origin mid left start now later before so_far after refused lost repeats limits known s new index slot texts is_lost all_lost m
    (b, heard_on, adds, state) are r more limited =
    changed_on saving run origin mid left start now later before so_far after refused lost repeats limits known s new index slot texts is_lost all_lost m
    b heard_on adds.refused (changes_over m.airs.came.run m.airs.came.air b index slot texts adds (are b.run b.air state)) state r more limited

-- The writer failed within the slots up to a record that the run follows.
pub follow_fails : (saving : Saving) (run : Run) (stop : Bool) (mid start now later : Option (List ℕ)) (input output : Device) (before so_far after : Port)
    (refused lost : Bool) (repeats : Repeats) (limits : Option (List UnitLimits)) (s heard_to : AirState) (index : ℕ) (cause : AirRefusal) (sent : ℕ)
    (m : Midway saving run input.before.bytes mid start now (between before so_far) refused lost repeats limits s) →
    HearsOn run m.airs.came input.before.bytes input.after.bytes start later (Ok (Refused index cause)) heard_to →
    ((r : Run) (a : Air) → IsOnAir r a start later heard_to → Fails r (caught_up r a (Some cause)) start output.after.bytes sent) →
    ((d : Described) → AreLimits limits d → ReportsLines (limits_in d) repeats (index, cause) (between so_far after)) →
    (stop ≡ true → refused ≡ false) → IsClean input → HasFailed output →
    FailsRecords saving run stop start input output (between before after) sent
follow_fails saving run stop mid start now later input output before so_far after refused lost repeats limits s heard_to index cause sent m
    (b, heard_on, adds, state) failing r first_one clean failed =
    let c = m.airs.came in
    record {
      airs = airs_refused saving run input.before.bytes mid input.after.bytes before so_far after repeats index cause m.airs b heard_on
          (lines_more m.airs.reported repeats c.air.refused b.refused (index, cause) m.lines m.repeats_are adds.refused)
          (r (texts_among (texts_now run silence) m.airs.reported) m.limits_are);
      stops = λ on. at_most_one b.refused
          (one_refused c.air.refused b.refused (index, cause) adds.refused (none_refused_yet refused c.air.refused m.refused_is (first_one on)));
      fails = failing c.run b state;
      clean = clean;
      failed = failed;
    }

-- 2. The end of a run

reader_named : (input : Device) (why : Ending) (w0 w1 : ℕ) → NamesDevice (Ok (Ended why)) input.before.failed input.after.failed w0 w1 →
    NamesReader input (Some why)
reader_named input Input w0 w1 n = n.0
reader_named input (Unread Cut) w0 w1 n = n.0
reader_named input (Unread Size) w0 w1 n = n.0
reader_named input (Unread AtReader) w0 w1 n = n.0
reader_named input (Unread Memory) w0 w1 n = n.0
reader_named input Slots w0 w1 n = n.0
reader_named input Records w0 w1 n = n.0
reader_named input TextsMemory w0 w1 n = n.0

writer_clean : (why : Ending) (r0 r1 w0 w1 : ℕ) → NamesDevice (Ok (Ended why)) r0 r1 w0 w1 → w1 ≡ w0
writer_clean Input r0 r1 w0 w1 n = n.1
writer_clean (Unread Cut) r0 r1 w0 w1 n = n.1
writer_clean (Unread Size) r0 r1 w0 w1 n = n.1
writer_clean (Unread AtReader) r0 r1 w0 w1 n = n.1
writer_clean (Unread Memory) r0 r1 w0 w1 n = n.1
writer_clean Slots r0 r1 w0 w1 n = n.1
writer_clean Records r0 r1 w0 w1 n = n.1
writer_clean TextsMemory r0 r1 w0 w1 n = n.1

pub ends : (saving : Saving) (run : Run) (stop : Bool) (mid start now : Option (List ℕ)) (input output : Device) (before so_far after : Port)
    (refused lost : Bool) (repeats : Repeats) (limits : Option (List UnitLimits)) (s new : AirState) (why : Ending)
    (m : Midway saving run input.before.bytes mid start now (between before so_far) refused lost repeats limits s) →
    HearsOn run m.airs.came input.before.bytes input.after.bytes start output.after.bytes (Ok (Ended why)) new →
    NamesDevice (Ok (Ended why)) input.before.failed input.after.failed output.before.failed output.after.failed →
    Reports (between so_far after) (repeats_text repeats) → (stop ≡ true → refused ≡ false) →
    EndsRecords saving run stop start input output (between before after) (record { has_refused = refused; has_lost = lost; why = Some why }) new
ends saving run stop mid start now input output before so_far after refused lost repeats limits s new why m (b, (rest, heard_on, ends_at), adds, state) n r
    first_one =
    let c = m.airs.came in
    let d : Course = record { run = c.run; air = b } in
    let stay = lines_stay m.airs.reported c.air.refused b.refused m.lines adds.refused in
    let all = lines_all m.airs.reported repeats b.refused stay (repeats_stay repeats c.air.refused b.refused m.repeats_are adds.refused) in
    record {
      rest = rest;
      airs = airs_last saving run input.before.bytes rest before so_far after repeats
          (airs_on saving run input.before.bytes mid rest (between before so_far) m.airs d heard_on stay) all r;
      lines = all;
      changed = changed_last m.airs.reported repeats c d m.changed (changes_are c.run c.air b adds.before adds.changes);
      ends = ends_at;
      stops = λ on. adds.refused ∙ none_refused_yet refused c.air.refused m.refused_is (first_one on);
      refused = m.refused_is ∙ ap (λ (l : List (ℕ × AirRefusal)). nat_lt 0 (length l)) (sym adds.refused);
      lost = lost_last m.airs.begun_lost m.airs.reported repeats lost m.lost_is;
      state = state;
      reader = reader_named input why output.before.failed output.after.failed n;
      clean = writer_clean why input.before.failed input.after.failed output.before.failed output.after.failed n;
    }

-- The first refused record is reported, and followed if the run follows such records; it ends the run.
pub stops : (saving : Saving) (run : Run) (stop : Bool) (mid start now later : Option (List ℕ)) (input output : Device) (before so_far said after : Port)
    (refused lost : Bool) (repeats counted : Repeats) (limits : Option (List UnitLimits)) (s heard_to new : AirState) (index : ℕ) (cause : AirRefusal)
    (m : Midway saving run input.before.bytes mid start now (between before so_far) refused lost repeats limits s) →
    HearsOn run m.airs.came input.before.bytes input.after.bytes start later (Ok (Refused index cause)) heard_to →
    ((r : Run) (a : Air) → IsOnAir r a start later heard_to → IsOnAir r (caught_up r a (Some cause)) start output.after.bytes new) →
    ((d : Described) → AreLimits limits d → ReportsLines (limits_in d) repeats (index, cause) (between so_far said)) → counted ≡ with_cause repeats cause →
    Reports (between said after) (repeats_text counted) → stop ≡ true → (stop ≡ true → refused ≡ false) → IsClean input → IsClean output →
    EndsRecords saving run stop start input output (between before after) (record { has_refused = true; has_lost = lost; why = None }) new
stops saving run stop mid start now later input output before so_far said after refused lost repeats counted limits s heard_to new index cause m
    (b, heard_on, adds, state) follows r is more on first_one clean written =
    let c = m.airs.came in
    let some = some_refused c.air.refused b.refused (index, cause) adds.refused in
    let are = lines_more m.airs.reported repeats c.air.refused b.refused (index, cause) m.lines m.repeats_are adds.refused in
    let lines = m.airs.reported ++ lines_by repeats (index, cause) in
    let all = lines_all lines counted b.refused are (is ∙ repeats_more repeats c.air.refused b.refused (index, cause) m.repeats_are adds.refused) in
    record {
      rest = input.after.bytes;
      airs = airs_last saving run input.before.bytes input.after.bytes before said after counted
          (airs_refused saving run input.before.bytes mid input.after.bytes before so_far said repeats index cause m.airs b heard_on are
          (r (texts_among (texts_now run silence) m.airs.reported) m.limits_are)) all more;
      lines = all;
      changed = changed_last lines counted c (followed c.run b cause)
          (changed_same m.airs.reported repeats (index, cause) c c m.changed refl) (changes_are c.run c.air b adds.before adds.changes);
      ends = (on, (some, refl));
      stops = λ asked. one_refused c.air.refused b.refused (index, cause) adds.refused
          (none_refused_yet refused c.air.refused m.refused_is (first_one asked));
      refused = sym some;
      lost = lost_last m.airs.begun_lost lines counted lost (lost_same m.airs.begun_lost m.airs.reported repeats (index, cause) lost m.lost_is);
      state = follows c.run b state;
      reader = clean;
      clean = written;
    }

pub fails : (saving : Saving) (run : Run) (stop : Bool) (mid start now : Option (List ℕ)) (input output faults : Device) (refused lost : Bool)
    (repeats : Repeats) (limits : Option (List UnitLimits)) (s new : AirState) (fault : OutputFault)
    (m : Midway saving run input.before.bytes mid start now faults refused lost repeats limits s) →
    HearsOn run m.airs.came input.before.bytes input.after.bytes start output.after.bytes (Err fault) new →
    NamesDevice (Err fault) input.before.failed input.after.failed output.before.failed output.after.failed →
    (stop ≡ true → refused ≡ false) → FailsRecords saving run stop start input output faults fault.sent
fails saving run stop mid start now input output faults refused lost repeats limits s new fault m (b, heard_on, same, failing) n first_one = record {
  airs = airs_on saving run input.before.bytes mid input.after.bytes faults m.airs b heard_on
      (lines_stay m.airs.reported m.airs.came.air.refused b.air.refused m.lines same);
  stops = λ on. at_most_none b.air.refused (same ∙ none_refused_yet refused m.airs.came.air.refused m.refused_is (first_one on));
  fails = failing;
  clean = n.0;
  failed = n.1;
}
