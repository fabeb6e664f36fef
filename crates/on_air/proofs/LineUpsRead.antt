-- A line-up read from the bytes of a record, and the causes of its refusal
use Rattle.std.proofs.Common.{◌≡◌, ◌⊎◌, ℕ, List, Option, Some, None, Result, Ok, Err, refl, sym, ap, ◌∙◌, inl, inr}
use Rattle.std.specs.Prelude.{option_and_then, option_map}
use Rattle.std.specs.Option.{option_or}
use Rattle.description_parts.specs.Described.{Described}
use Rattle.description_keys.specs.declared.fault.DescFault.{DescFault}
use Rattle.description_keys.specs.declared.fault.DescError.{DescError}
use Rattle.description_keys.specs.declared.fault.DescError.TheVariants as unread
use Rattle.changed_texts.specs.Reading.{description_in}
use Rattle.slot_plan.specs.Planned.{Planned}
use Rattle.plan_checker.specs.Served.{Served}
use Rattle.plan_checker.specs.Refusals.{entry_of}
use Rattle.plan_checker.specs.declared.refusal.Refusal.{Refusal}
use Rattle.job_parts.specs.Parts.{fault_of, parts_of, planned}
use Rattle.mux_core.specs.Scheduled.{Scheduled}
use Rattle.mux_core.specs.Histories.{History}
use Rattle.mux_core.specs.LineUps.{JudgesLineUp}
use Rattle.mux_core.specs.LineUps as mux
use Rattle.mux_core.specs.declared.line_up.TakeOverError.{TakeOverError}
use Rattle.mux_core.specs.declared.line_up.TakeOverError.TheVariants as over
use Rattle.on_air.specs.declared.refusals.LineUpRefusal.{LineUpRefusal}
use Rattle.on_air.specs.declared.refusals.LineUpRefusal.TheVariants.{Unread, PlanLine, Plan, Returned}
use Rattle.on_air.specs.declared.line_up.LineUpError.{LineUpError}
use Rattle.on_air.specs.declared.line_up.LineUpError.TheVariants as error
use Rattle.on_air.specs.declared.line_up.NewLineUp.{NewLineUp}
use Rattle.on_air.specs.LineUps.{CopiesTexts, ReadsDescription, ReadsLineUp, ReadsPlan, line_up_cause, line_up_in, of_parts, over_cause, returned_pid}
use Rattle.on_air.specs.LineUps.{unless_failed, with_description, with_plan}

-- ---- What is read

-- A description is known if there was memory for it.
pub description_is : (bytes : List ℕ) (d : Described) (read : Result Described DescError) → read ≡ Ok d →
    (read ≡ Err unread.Memory) ⊎ (read ≡ description_in bytes) → description_in bytes ≡ Ok d
description_is bytes d read is known = elim known [
  | inl none ↦ absurd (let no : Ok d ≡ Err unread.Memory = sym is ∙ none in cc)
  | inr same ↦ sym same ∙ is
]

pub description_refused : (bytes text : List ℕ) (fault : DescFault) (read : Result Described DescError) → read ≡ Err (unread.Refused fault) →
    (read ≡ Err unread.Memory) ⊎ (read ≡ description_in bytes) → with_description (description_in bytes) text ≡ Err (Unread fault)
unfolding with_description
description_refused bytes text fault read is known = elim known [
  | inl none ↦ absurd (let no : Err (unread.Refused fault) ≡ Err unread.Memory = sym is ∙ none in cc)
  | inr same ↦ ap (λ (r : Result Described DescError). with_description r text) (sym same ∙ is)
]

-- The plan after it
pub line_bad : (d : Described) (text : List ℕ) (line : ℕ) → planned text ≡ Err line → with_plan d (planned text) ≡ Err (PlanLine line)
unfolding with_plan
line_bad d text line e = ap (with_plan d) e

pub plan_read : (d : Described) (text rest : List ℕ) (p : Planned) (served : Served) → planned text ≡ Ok (p, rest) → fault_of d p ≡ None →
    served.description ≡ d → served.plan ≡ p → with_plan d (planned text) ≡ Ok served
unfolding with_plan unless_failed
plan_read d text rest p served e none same plan =
    ap (with_plan d) e ∙ ap (unless_failed d p) none
    ∙ ap (λ (x : Described). Ok (record { description = x; plan = p })) (sym same)
    ∙ ap (λ (x : Planned). Ok (record { description = served.description; plan = x })) (sym plan)

pub plan_refused : (d : Described) (text rest : List ℕ) (p : Planned) (refusal : Refusal) → planned text ≡ Ok (p, rest) →
    fault_of d p ≡ Some (entry_of refusal) → with_plan d (planned text) ≡ Err (Plan refusal)
unfolding with_plan unless_failed
plan_refused d text rest p refusal e some = ap (with_plan d) e ∙ ap (unless_failed d p) some

-- The whole record
pub no_parts : (bytes : List ℕ) → parts_of bytes ≡ None → line_up_in bytes ≡ Err (PlanLine 1)
unfolding of_parts
no_parts bytes none = ap of_parts none

pub parts_refused : (bytes first text : List ℕ) (refusal : LineUpRefusal) → parts_of bytes ≡ Some (first, text) →
    with_description (description_in first) text ≡ Err refusal → line_up_in bytes ≡ Err refusal
unfolding of_parts
parts_refused bytes first text refusal some e = ap of_parts some ∙ e

pub parts_read : (bytes first text : List ℕ) (d : Described) (result : Result Served LineUpRefusal) → parts_of bytes ≡ Some (first, text) →
    description_in first ≡ Ok d → with_plan d (planned text) ≡ result → line_up_in bytes ≡ result
unfolding of_parts with_description
parts_read bytes first text d result some is e =
    ap of_parts some ∙ ap (λ (r : Result Described DescError). with_description r text) is ∙ e

-- Two readings of the same bytes are of the same description.
pub same_texts : (bytes : List ℕ) (one other : Described) → description_in bytes ≡ Ok one → description_in bytes ≡ Ok other → other ≡ one
same_texts bytes one other a b = let same : Ok other ≡ Ok one = sym b ∙ a in cc

-- The results of the readers
pub copies_none : (bytes : List ℕ) (served : Served) (e : LineUpError) → ReadsDescription bytes (Err e) → CopiesTexts bytes served (Err e)
copies_none bytes served (error.Refused refusal) read = read
copies_none bytes served error.Memory read = read

pub first_refused : (bytes first text : List ℕ) (e : LineUpError) → parts_of bytes ≡ Some (first, text) → ReadsDescription first (Err e) → ReadsLineUp bytes (Err e)
first_refused bytes first text (error.Refused refusal) some read = parts_refused bytes first text refusal some (read text)
first_refused bytes first text error.Memory some read = read

pub plan_none : (bytes first text : List ℕ) (d : Described) (e : LineUpError) → parts_of bytes ≡ Some (first, text) → description_in first ≡ Ok d →
    ReadsPlan d text (Err e) → ReadsLineUp bytes (Err e)
plan_none bytes first text d (error.Refused refusal) some is read = parts_read bytes first text d (Err refusal) some is read
plan_none bytes first text d error.Memory some is read = read

pub whole_read : (bytes first text : List ℕ) (d : Described) (served : Served) (r : Result NewLineUp LineUpError) → parts_of bytes ≡ Some (first, text) →
    description_in first ≡ Ok d → ReadsPlan d text (Ok served) → CopiesTexts first served r → ReadsLineUp bytes r
whole_read bytes first text d served (Ok next) some is plan copy = (
  parts_read bytes first text d (Ok served) some is plan.0 ∙ ap (λ (x : Served). Ok x) (sym copy.0),
  same_texts first d next.texts is copy.1 ∙ sym plan.1 ∙ ap (λ (x : Served). x.description) (sym copy.0),
)
whole_read bytes first text d served (Err (error.Refused refusal)) some is plan copy = parts_refused bytes first text refusal some (copy text)
whole_read bytes first text d served (Err error.Memory) some is plan copy = copy

-- ---- Why a line-up is refused

pub refused_read : (d : Scheduled) (h : History) (gone bytes : List ℕ) (refusal : LineUpRefusal) → line_up_in bytes ≡ Err refusal →
    line_up_cause d h gone (line_up_in bytes) ≡ Some refusal
unfolding line_up_cause
refused_read d h gone bytes refusal e = ap (line_up_cause d h gone) e

pub refused_returned : (d : Scheduled) (h : History) (gone bytes : List ℕ) (next : Served) (pid : ℕ) → line_up_in bytes ≡ Ok next →
    returned_pid gone next.description ≡ Some pid → line_up_cause d h gone (line_up_in bytes) ≡ Some (Returned pid)
unfolding line_up_cause
refused_returned d h gone bytes next pid e some =
    ap (line_up_cause d h gone) e
    ∙ ap (λ (o : Option ℕ). option_or (option_map Returned o) (option_and_then over_cause (mux.line_up_cause d h next))) some

-- If no PID returns, the multiplexer decides.
pub cause_over : (d : Scheduled) (h : History) (gone bytes : List ℕ) (next : Served) (cause : Option TakeOverError) → line_up_in bytes ≡ Ok next →
    returned_pid gone next.description ≡ None → mux.line_up_cause d h next ≡ cause →
    line_up_cause d h gone (line_up_in bytes) ≡ option_and_then over_cause cause
unfolding line_up_cause
cause_over d h gone bytes next cause e none is =
    ap (line_up_cause d h gone) e
    ∙ ap (λ (o : Option ℕ). option_or (option_map Returned o) (option_and_then over_cause (mux.line_up_cause d h next))) none
    ∙ ap (option_and_then over_cause) is

-- The multiplexer's cause, by its answer
pub judged_none : (cause : Option TakeOverError) → JudgesLineUp cause None → cause ≡ None
judged_none None j = refl
judged_none (Some c) j = absurd (let no : None ≡ Some c = j in cc)

pub judged_some : (cause : Option TakeOverError) (error : TakeOverError) → JudgesLineUp cause (Some error) → (cause ≡ Some error) ⊎ (error ≡ over.Memory)
judged_some (Some c) error j = inl (sym j)
judged_some None error (inl none) = absurd (let no : Some error ≡ None = none in cc)
judged_some None error (inr same) = inr (let e : Some error ≡ Some over.Memory = same in cc)
