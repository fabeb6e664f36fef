-- The lines about records, one after another
use Rattle.std.proofs.Common.{◌≡◌, ◌+◌, ◌||◌, ℕ, Bool, true, false, List, [], ◌∷◌, ◌++◌, Option, refl}
use Rattle.std.proofs.Common.{sym, ap, ◌∙◌, subst, append-nil, inl, inr}
use Rattle.std.specs.Prelude.{fold}
use Rattle.std.proofs.lemmas.Bool.{cases_Bool}
use Rattle.std.proofs.lemmas.List.Sums.{fold-append}
use Rattle.devices.specs.Devices.{Device, Port, IsUntouched, between}
use Rattle.mux_core.specs.Histories.{TextsSoFar, last_texts}
use Rattle.on_air.specs.declared.refusals.AirRefusal.{AirRefusal}
use Rattle.on_air.specs.Airing.{Run, Air, Before, texts_now}
use Rattle.on_air.specs.Courses.{Course, before_next, taken_over}
use Rattle.on_air.specs.Hearing.{AddsChange, AddsLineUp}
use Rattle.explained_jobs.specs.declared.unit_limits.UnitLimits.{UnitLimits}
use Rattle.description_parts.specs.Described.{Described}
use Rattle.tsair_cli.specs.declared.repeats.Repeats.{Repeats}
use Rattle.tsair_cli.specs.Repeats.{is_repeat, none_refused, with_cause}
use Rattle.tsair_cli.specs.HeardRecords.{AreLimits, OfChange, OfMore, OfRefusal, Reported, ReportsBoth}
use Rattle.tsair_cli.specs.HeardRecords.{ReportsRecord, ReportsRecords, Said, all_lines, changed_among, changes_before}
use Rattle.tsair_cli.specs.HeardRecords.{changes_of, changes_since, limits_in, lines_among, lines_by, lost_among, said_of, texts_after, texts_among}
use Rattle.tsair_cli.specs.HeardRecords.{texts_begun, with_changed, with_lost, with_refused}
use Rattle.tsair_cli.specs.States.{Saving}

pub reported_on : (saving : Saving) (d : Described) (before mid after : Port) (old new : List Reported) → ReportsRecords saving d before mid old →
    ReportsRecords saving (texts_among d old) mid after new → ReportsRecords saving d before after (old ++ new)
unfolding ReportsRecords
reported_on saving d before mid after [] new t r = subst (λ (p : Port). ReportsRecords saving d p after new) t r
reported_on saving d before mid after (first ∷ old) new t r = (t.0, t.1, reported_on saving (texts_after d first) t.0 mid after old new t.2 r)

pub one_reported : (saving : Saving) (d : Described) (before after : Port) (reported : Reported) → ReportsRecord saving d reported (between before after) →
    ReportsRecords saving d before after (reported ∷ [])
unfolding ReportsRecords
one_reported saving d before after reported r = (after, r, refl)

pub reported_none : (saving : Saving) (d : Described) (port : Port) → ReportsRecords saving d port port []
unfolding ReportsRecords
reported_none saving d port = refl

-- Lines about refused records change no texts; after a change its texts are in force.
pub texts_by : (repeats : Repeats) (refused : ℕ × AirRefusal) (d : Described) → fold (λ texts r. texts_after texts r) d (lines_by repeats refused) ≡ d
unfolding texts_after
texts_by repeats refused d = elim (cases_Bool (is_repeat repeats refused.1)) [
  | inl e ↦ rw e refl
  | inr e ↦ rw e refl
]

pub texts_same : (d : Described) (lines : List Reported) (repeats : Repeats) (refused : ℕ × AirRefusal) →
    texts_among d (lines ++ lines_by repeats refused) ≡ texts_among d lines
texts_same d lines repeats refused =
    fold-append (λ texts r. texts_after texts r) d lines (lines_by repeats refused) ∙ texts_by repeats refused (texts_among d lines)

pub texts_more : (d : Described) (lines : List Reported) (index slot : ℕ) (texts : Described) (lost : Bool) →
    texts_among d (lines ++ (OfChange index slot texts lost ∷ [])) ≡ texts
unfolding texts_after
texts_more d lines index slot texts lost = fold-append (λ now r. texts_after now r) d lines (OfChange index slot texts lost ∷ [])

-- The limits are those of the texts in force.
pub limits_same : (limits : Option (List UnitLimits)) (old new : Described) → new ≡ old → AreLimits limits old → AreLimits limits new
limits_same limits old new same are = subst (λ (d : Described). AreLimits limits d) (sym same) are

-- What a refused record reports.
pub record ReportsLines (streams : List UnitLimits) (repeats : Repeats) (refused : ℕ × AirRefusal) (faults : Device) : Type 0 where
  pub none : is_repeat repeats refused.1 ≡ true → IsUntouched faults
  pub both : is_repeat repeats refused.1 ≡ false → ReportsBoth streams repeats refused faults

pub lines_reported : (saving : Saving) (d : Described) (repeats : Repeats) (refused : ℕ × AirRefusal) (before after : Port) →
    ReportsLines (limits_in d) repeats refused (between before after) → ReportsRecords saving d before after (lines_by repeats refused)
unfolding ReportsRecords texts_after
lines_reported saving d repeats refused before after r = elim (cases_Bool (is_repeat repeats refused.1)) [
  | inl e ↦ rw e (r.none e)
  | inr e ↦ let both = r.both e in rw e (both.mid, both.more, (after, both.refusal, refl))
]

-- The lines among reports.
pub lines_joined : (old new : List Reported) → lines_among (old ++ new) ≡ lines_among old ++ lines_among new
unfolding lines_among
lines_joined [] new = refl
lines_joined (OfMore repeats ∷ old) new = ap (λ (l : List Reported). OfMore repeats ∷ l) (lines_joined old new)
lines_joined (OfRefusal index cause ∷ old) new = ap (λ (l : List Reported). OfRefusal index cause ∷ l) (lines_joined old new)
lines_joined (OfChange index slot texts lost ∷ old) new = lines_joined old new

pub lines_kept : (repeats : Repeats) (refused : ℕ × AirRefusal) → lines_among (lines_by repeats refused) ≡ lines_by repeats refused
unfolding lines_among
lines_kept repeats refused = elim (cases_Bool (is_repeat repeats refused.1)) [
  | inl e ↦ rw e refl
  | inr e ↦ rw e refl
]

pub change_aside : (lines : List Reported) (index slot : ℕ) (texts : Described) (lost : Bool) →
    lines_among (lines ++ (OfChange index slot texts lost ∷ [])) ≡ lines_among lines
unfolding lines_among
change_aside lines index slot texts lost = lines_joined lines (OfChange index slot texts lost ∷ []) ∙ append-nil (lines_among lines)

pub said_with : (old : List (ℕ × AirRefusal)) (refused : ℕ × AirRefusal) → said_of (old ++ (refused ∷ [])) ≡ with_refused (said_of old) refused
said_with old refused = fold-append (λ s r. with_refused s r) (record { lines = []; repeats = none_refused }) old (refused ∷ [])

pub said_next : (old new : List (ℕ × AirRefusal)) (refused : ℕ × AirRefusal) → new ≡ old ++ (refused ∷ []) → said_of new ≡ with_refused (said_of old) refused
said_next old new refused is = ap said_of is ∙ said_with old refused

pub lines_more : (lines : List Reported) (repeats : Repeats) (old new : List (ℕ × AirRefusal)) (refused : ℕ × AirRefusal) →
    lines_among lines ≡ (said_of old).lines → repeats ≡ (said_of old).repeats → new ≡ old ++ (refused ∷ []) →
    lines_among (lines ++ lines_by repeats refused) ≡ (said_of new).lines
lines_more lines repeats old new refused are same is =
    lines_joined lines (lines_by repeats refused)
    ∙ ap (λ (l : List Reported). l ++ lines_among (lines_by repeats refused)) are
    ∙ ap (λ (l : List Reported). (said_of old).lines ++ l) (lines_kept repeats refused)
    ∙ ap (λ (r : Repeats). (said_of old).lines ++ lines_by r refused) same
    ∙ sym (ap (λ (s : Said). s.lines) (said_next old new refused is))

pub repeats_more : (repeats : Repeats) (old new : List (ℕ × AirRefusal)) (refused : ℕ × AirRefusal) → repeats ≡ (said_of old).repeats →
    new ≡ old ++ (refused ∷ []) → with_cause repeats refused.1 ≡ (said_of new).repeats
repeats_more repeats old new refused same is =
    ap (λ (r : Repeats). with_cause r refused.1) same ∙ sym (ap (λ (s : Said). s.repeats) (said_next old new refused is))

pub lines_all : (lines : List Reported) (repeats : Repeats) (refused : List (ℕ × AirRefusal)) → lines_among lines ≡ (said_of refused).lines →
    repeats ≡ (said_of refused).repeats → lines_among (lines ++ (OfMore repeats ∷ [])) ≡ all_lines refused
unfolding lines_among
lines_all lines repeats refused are same =
    lines_joined lines (OfMore repeats ∷ [])
    ∙ ap (λ (l : List Reported). l ++ (OfMore repeats ∷ [])) are
    ∙ ap (λ (r : Repeats). (said_of refused).lines ++ (OfMore r ∷ [])) same

-- Lines about refused records are of no change, and lose no versions.
pub changed_by : (repeats : Repeats) (refused : ℕ × AirRefusal) (changes : List (ℕ × Described)) →
    fold (λ c r. with_changed c r) changes (lines_by repeats refused) ≡ changes
unfolding with_changed
changed_by repeats refused changes = elim (cases_Bool (is_repeat repeats refused.1)) [
  | inl e ↦ rw e refl
  | inr e ↦ rw e refl
]

pub lost_by : (repeats : Repeats) (refused : ℕ × AirRefusal) (lost : Bool) → fold (λ l r. with_lost l r) lost (lines_by repeats refused) ≡ lost
unfolding with_lost
lost_by repeats refused lost = elim (cases_Bool (is_repeat repeats refused.1)) [
  | inl e ↦ rw e refl
  | inr e ↦ rw e refl
]

-- The changes of a course are by what came before, and by the texts.
pub changes_are : (run : Run) (a b : Air) → b.before ≡ a.before → b.changes ≡ a.changes →
    changes_of (record { run = run; air = b }) ≡ changes_of (record { run = run; air = a })
changes_are run a b same texts =
    ap (λ (p : Before). changes_since b.changes ++ changes_before p.from (texts_begun run.scheduled.description b.changes) p.turns) same
    ∙ ap (λ (l : TextsSoFar). changes_since l ++ changes_before a.before.from (texts_begun run.scheduled.description l) a.before.turns) texts

pub changed_same : (lines : List Reported) (repeats : Repeats) (refused : ℕ × AirRefusal) (a b : Course) → changed_among lines ≡ changes_of a →
    changes_of b ≡ changes_of a → changed_among (lines ++ lines_by repeats refused) ≡ changes_of b
changed_same lines repeats refused a b are is =
    fold-append (λ changes r. with_changed changes r) [] lines (lines_by repeats refused) ∙ changed_by repeats refused (changed_among lines) ∙ are ∙ sym is

pub changed_last : (lines : List Reported) (repeats : Repeats) (a b : Course) → changed_among lines ≡ changes_of a → changes_of b ≡ changes_of a →
    changed_among (lines ++ (OfMore repeats ∷ [])) ≡ changes_of b
unfolding with_changed
changed_last lines repeats a b are is = fold-append (λ changes r. with_changed changes r) [] lines (OfMore repeats ∷ []) ∙ are ∙ sym is

pub changed_more : (lines : List Reported) (index slot : ℕ) (texts : Described) (lost : Bool) (a b : Course) → changed_among lines ≡ changes_of a →
    changes_of b ≡ (slot, texts) ∷ changes_of a → changed_among (lines ++ (OfChange index slot texts lost ∷ [])) ≡ changes_of b
unfolding with_changed
changed_more lines index slot texts lost a b are is =
    fold-append (λ changes r. with_changed changes r) [] lines (OfChange index slot texts lost ∷ [])
    ∙ ap (λ (l : List (ℕ × Described)). (slot, texts) ∷ l) are
    ∙ sym is

-- The texts in force after a change are those of the change, and it is the first of the changes.
pub texts_of_change : (run : Run) (a b : Air) (index slot : ℕ) (adds : AddsChange a b index slot) → texts_now run b ≡ adds.change.texts
texts_of_change run a b index slot adds = ap (λ (l : TextsSoFar). last_texts run.scheduled.description l) adds.changes

pub changes_with : (run : Run) (a b : Air) (index slot : ℕ) (texts : Described) (adds : AddsChange a b index slot) → texts ≡ texts_now run b →
    changes_of (record { run = run; air = b }) ≡ (slot, texts) ∷ changes_of (record { run = run; air = a })
changes_with run a b index slot texts adds are =
    let d = run.scheduled.description in
    ap (λ (p : Before). changes_since b.changes ++ changes_before p.from (texts_begun d b.changes) p.turns) adds.before
    ∙ ap (λ (l : TextsSoFar). changes_since l ++ changes_before a.before.from (texts_begun d l) a.before.turns) adds.changes
    ∙ ap (λ (n : ℕ). (n, adds.change.texts) ∷ changes_of (record { run = run; air = a })) adds.from
    ∙ ap (λ (e : Described). (slot, e) ∷ changes_of (record { run = run; air = a })) (sym (texts_of_change run a b index slot adds) ∙ sym are)

-- The same of a line-up.
pub texts_of_line_up : (run : Run) (a : Air) (b : Course) (index slot : ℕ) (adds : AddsLineUp run a b index slot) →
    texts_now b.run b.air ≡ texts_begun adds.next.description (taken_over run adds.mid adds.next.description).changes
texts_of_line_up run a b index slot adds =
    ap (λ (r : Run). last_texts r.scheduled.description b.air.changes) adds.run_is
    ∙ ap (λ (l : TextsSoFar). last_texts adds.next.description l) adds.changes

pub changes_over : (run : Run) (a : Air) (b : Course) (index slot : ℕ) (texts : Described) (adds : AddsLineUp run a b index slot) → texts ≡ texts_now b.run b.air →
    changes_of b ≡ (slot, texts) ∷ changes_of (record { run = run; air = a })
changes_over run a b index slot texts adds are =
    let new = adds.next.description in
    let over = taken_over run adds.mid new in
    ap (λ (r : Run). changes_since b.air.changes ++ changes_before b.air.before.from (texts_begun r.scheduled.description b.air.changes) b.air.before.turns)
    adds.run_is
    ∙ ap (λ (p : Before). changes_since b.air.changes ++ changes_before p.from (texts_begun new b.air.changes) p.turns) adds.before
    ∙ ap (λ (l : TextsSoFar). changes_since l ++ changes_before adds.mid.slots (texts_begun new l) (before_next run adds.mid new).turns) adds.changes
    ∙ ap (λ (n : ℕ). (n, texts_begun new over.changes) ∷ changes_of (record { run = run; air = adds.mid })) (sym adds.from)
    ∙ ap (λ (e : Described). (slot, e) ∷ changes_of (record { run = run; air = adds.mid })) (sym (texts_of_line_up run a b index slot adds) ∙ sym are)
    ∙ ap (λ (l : List (ℕ × Described)). (slot, texts) ∷ l) (changes_are run a adds.mid adds.adds.before adds.adds.changes)

pub lost_same : (before : Bool) (lines : List Reported) (repeats : Repeats) (refused : ℕ × AirRefusal) (lost : Bool) → lost ≡ lost_among before lines →
    lost ≡ lost_among before (lines ++ lines_by repeats refused)
lost_same before lines repeats refused lost is =
    is ∙ sym (fold-append (λ l r. with_lost l r) before lines (lines_by repeats refused) ∙ lost_by repeats refused (lost_among before lines))

pub lost_last : (before : Bool) (lines : List Reported) (repeats : Repeats) (lost : Bool) → lost ≡ lost_among before lines →
    lost ≡ lost_among before (lines ++ (OfMore repeats ∷ []))
unfolding with_lost
lost_last before lines repeats lost is = is ∙ sym (fold-append (λ l r. with_lost l r) before lines (OfMore repeats ∷ []))

pub lost_more : (before : Bool) (lines : List Reported) (index slot : ℕ) (texts : Described) (now old new : Bool) → old ≡ lost_among before lines →
    new ≡ (now || old) → new ≡ lost_among before (lines ++ (OfChange index slot texts now ∷ []))
unfolding with_lost
lost_more before lines index slot texts now old new is more =
    more ∙ ap (λ (l : Bool). now || l) is ∙ sym (fold-append (λ l r. with_lost l r) before lines (OfChange index slot texts now ∷ []))
