-- The answer to new texts, and their record
use Rattle.std.proofs.Common.{◌≡◌, ◌∙◌, ℕ, Bool, true, false, List, [], ◌∷◌, Option, None, Some, map, ap, inl, inr, refl, subst, sym}
use Rattle.std.specs.Borrow.{Bor}
use Rattle.std.specs.List.{list_any}
use Rattle.std.specs.Prelude.{◌||◌, if◌then◌else◌, Ok, Err}
use Rattle.clap.specs.Words.{Text}
use Rattle.devices.specs.Devices.{Device, HasFailed, IsClean, IsUntouched, Port, Takes, between}
use Rattle.devices.specs.Files.{Files}
use Rattle.devices.specs.Lines.{Reports, Stopped}
use Rattle.devices.specs.Outcomes.{Outcome, halt_line}
use Rattle.devices.specs.Saving.{SavesNamed}
use Rattle.devices.specs.declared.files.FileFault.{FileFault}
use Rattle.devices.specs.declared.halt.Halt.TheVariants.{Write}
use Rattle.explained_jobs.specs.NextFronts.{IsNext}
use Rattle.explained_jobs.specs.TextAnswers.{text_answer}
use Rattle.explained_jobs.specs.TextRecords.{IsTextsRecord}
use Rattle.job_run.specs.Outcomes.{IsWritten}
use Rattle.tsjob_cli.specs.NextTexts.{AnswersBytes, AnswersFront, AnswersTexts, AnswersTwo, Asked, KeepsFront, KeepsRecord, Next, PutsFront, SavesRecord}
use Rattle.tsjob_cli.specs.NextTexts.{answer_to, is_plan_word, names_nothing, next_asked, next_by, plan_asked, record_asked, record_by, status_of}
use Rattle.tsjob_cli.specs.ReadFiles.{HaveBytes, StopsAtOne}

pub answer_is : (job texts line : List ℕ) (o : Outcome) (status : ℕ) → line ≡ text_answer job texts → status ≡ status_of line
    → o ≡ record { output = line; report = []; status = status } → o ≡ answer_to job texts
answer_is job texts line o status said status_is is =
    is ∙ ap (λ (n : ℕ). record { output = line; report = []; status = n }) status_is
    ∙ ap (λ (bytes : List ℕ). record { output = bytes; report = []; status = status_of bytes }) said

-- The texts are those of the options.
pub record_is : (f : Bool) (a w t a' w' t' : Option Text) (r : Option (Option Asked)) → a ≡ a' → w ≡ w' → t ≡ t' → r ≡ record_by f a w t → r ≡ record_by f a' w' t'
record_is f a w t a' w' t' r ea ew et is =
    is ∙ ap (λ (x : Option Text). record_by f x w t) ea ∙ ap (λ (x : Option Text). record_by f a' x t) ew ∙ ap (λ (x : Option Text). record_by f a' w' x) et

-- A word is found among words or the slices that have them.
pub any_word : (words : List (Bor Text)) → list_any (λ w. is_plan_word w.now) words ≡ list_any is_plan_word (map (λ s. s.now) words)
any_word [] = refl
any_word (w ∷ ws) = ap (λ (b : Bool). is_plan_word w.now || b) (any_word ws)

-- What is asked for.
pub no_record : (options : List Text) (name : Option Text) (plan : Bool) (record_ : Option (Option Asked)) → plan ≡ plan_asked options →
    record_ ≡ record_asked plan options → record_ ≡ None → None ≡ next_asked options name
unfolding next_by
no_record options name plan record_ is asks none =
    sym (ap (next_by (plan_asked options) name) (sym (ap (λ (b : Bool). record_asked b options) is) ∙ sym asks ∙ none))

pub asks_nothing : (options : List Text) (name : Option Text) (plan : Bool) → plan ≡ plan_asked options → names_nothing plan name ≡ true →
    None ≡ next_asked options name
unfolding next_by
asks_nothing options name plan is none = by (record_asked (plan_asked options) options)
  where
    none_then : names_nothing (plan_asked options) name ≡ true
    none_then = ap (λ (b : Bool). names_nothing b name) (sym is) ∙ none

    by : (r : Option (Option Asked)) → None ≡ next_by (plan_asked options) name r
    by None = refl
    by (Some asked) = sym (ap (λ (b : Bool). if b then None else Some (record { plan = plan_asked options; name = name; asked = asked })) none_then)

pub asked_is : (options : List Text) (name : Option Text) (plan : Bool) (asked : Option Asked) → plan ≡ plan_asked options →
    names_nothing plan name ≡ false → Some asked ≡ record_asked plan options →
    Some (record { plan = plan; name = name; asked = asked }) ≡ next_asked options name
unfolding next_by
asked_is options name plan asked is some asks =
    sym (ap (λ (b : Bool). if b then None else Some (record { plan = plan; name = name; asked = asked })) some)
    ∙ ap (next_by plan name) asks ∙ ap (λ (b : Bool). next_by b name (record_asked b options)) is

-- The record is made, and saved.
pub saved : (creates : Text → Option (Option FileFault)) (keeps : Text → Option Bool) (asked : Asked) (job texts bytes shown : List ℕ) (faults : Device)
    (status : ℕ) → IsTextsRecord asked.is_front job texts asked.at asked.wait bytes → shown ≡ bytes →
    SavesNamed (creates asked.to) (keeps asked.to) asked.to shown 0 faults status → SavesRecord creates keeps asked job texts faults status
saved creates keeps asked job texts bytes shown faults status is same saves =
    inl (record {
      bytes = bytes;
      is = is;
      saves = subst (λ (b : List ℕ). SavesNamed (creates asked.to) (keeps asked.to) asked.to b 0 faults status) same saves;
    })

-- The answer is written, and then the record.
pub answered : (creates : Text → Option (Option FileFault)) (keeps : Text → Option Bool) (asked : Option Asked) (job texts : List ℕ) (o : Outcome)
    (output : Device) (before so_far after : Port) (said status : ℕ) → o ≡ answer_to job texts → IsWritten o output (between before so_far) said →
    KeepsRecord creates keeps asked job texts said (between so_far after) status →
    AnswersTexts creates keeps asked job texts output (between before after) status
answered creates keeps asked job texts o output before so_far after said status is written kept =
    inl (record {
      answered = said;
      so_far = so_far;
      written = subst (λ (p : Outcome). IsWritten p output (between before so_far) said) is written;
      kept = kept;
    })

-- The front is written to standard output.
pub front_written : (creates : Text → Option (Option FileFault)) (keeps : Text → Option Bool) (front : List ℕ) (output faults : Device) → Takes output front →
    IsClean output → IsUntouched faults → PutsFront creates keeps None front output faults 0
unfolding PutsFront
front_written creates keeps front output faults takes clean untouched = inl (takes, clean, untouched, refl)

pub front_stopped : (creates : Text → Option (Option FileFault)) (keeps : Text → Option Bool) (front : List ℕ) (output faults : Device) (status : ℕ) →
    Stopped front output → HasFailed output → Reports faults (halt_line Write) → status ≡ 3 → PutsFront creates keeps None front output faults status
unfolding PutsFront
front_stopped creates keeps front output faults status stopped failed reports is = inr (stopped, failed, reports, is)

-- The front is written, and then its record.
pub front_kept : (creates : Text → Option (Option FileFault)) (keeps : Text → Option Bool) (next : Next) (job front : List ℕ) (output : Device)
    (before so_far after : Port) (said status : ℕ) → PutsFront creates keeps next.name front output (between before so_far) said →
    KeepsRecord creates keeps next.asked job front said (between so_far after) status →
    KeepsFront creates keeps next job front output (between before after) status
front_kept creates keeps next job front output before so_far after said status puts kept =
    record { answered = said; so_far = so_far; puts = puts; kept = kept }

pub front_answered : (creates : Text → Option (Option FileFault)) (keeps : Text → Option Bool) (next : Next) (job texts front shown : List ℕ)
    (output faults : Device) (status : ℕ) → IsNext job texts (Ok front) → shown ≡ front → KeepsFront creates keeps next job shown output faults status →
    AnswersFront creates keeps next job texts output faults status
front_answered creates keeps next job texts front shown output faults status is same kept =
    inl (record {
      front = front;
      is = is;
      keeps_front = subst (λ (bytes : List ℕ). KeepsFront creates keeps next job bytes output faults status) same kept;
    })

pub front_refused : (creates : Text → Option (Option FileFault)) (keeps : Text → Option Bool) (next : Next) (job texts words shown : List ℕ)
    (output faults : Device) → IsNext job texts (Err words) → shown ≡ words → IsUntouched output → Reports faults shown →
    AnswersFront creates keeps next job texts output faults 1
front_refused creates keeps next job texts words shown output faults is same unwritten reports =
    inr (inl (record {
      words = words;
      is = is;
      unwritten = unwritten;
      reports = subst (Reports faults) same reports;
      status_is = refl;
    }))

-- Both files were read.
pub both_read : (files : Files) (creates : Text → Option (Option FileFault)) (keeps : Text → Option Bool) (next : Next) (old new : Text)
    (job texts shown said : List ℕ) (output : Device) (before mid later after : Port) (status : ℕ)
    → HaveBytes files (old ∷ []) job → HaveBytes files (new ∷ []) texts → shown ≡ job → said ≡ texts → mid ≡ before → later ≡ mid
    → AnswersBytes next.plan creates keeps next shown said output (between later after) status
    → AnswersTwo files creates keeps next old new output (between before after) status
both_read files creates keeps next old new job texts shown said output before mid later after status have_job have_texts shows says first second answers =
    inl (record {
      job = job;
      have_job = have_job;
      texts = texts;
      have_texts = have_texts;
      answers =
          subst (λ (p : Port). AnswersBytes next.plan creates keeps next job texts output (between p after) status) (second ∙ first)
          (subst (λ (bytes : List ℕ). AnswersBytes next.plan creates keeps next job bytes output (between later after) status) says
          (subst (λ (bytes : List ℕ). AnswersBytes next.plan creates keeps next bytes said output (between later after) status) shows answers));
    })

-- A file can't be read.
pub new_unread : (files : Files) (creates : Text → Option (Option FileFault)) (keeps : Text → Option Bool) (next : Next) (old new : Text)
    (output : Device) (before mid after : Port) (status : ℕ) → IsUntouched output → mid ≡ before
    → StopsAtOne files (new ∷ []) (between mid after) status → AnswersTwo files creates keeps next old new output (between before after) status
new_unread files creates keeps next old new output before mid after status unwritten same why =
    let stops = subst (λ (p : Port). StopsAtOne files (new ∷ []) (between p after) status) same why in
    inr (record { unwritten = unwritten; why = inr stops; status_is = stops.status_is })
