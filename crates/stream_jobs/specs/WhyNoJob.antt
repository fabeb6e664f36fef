-- Why there is no job of this input: each definition says whether an error is a cause.
use Rattle.std.specs.Prelude.{◌≡◌, ◌⊎◌, ⊤, ℕ, List, Option, Some, None, Err}
use Rattle.description_parts.specs.Described.{Described}
use Rattle.description.specs.Reading.{description_of}
use Rattle.description_keys.specs.declared.fault.DescFault.{DescFault}
use Rattle.description_keys.specs.declared.fault.DescError.TheVariants as read
use Rattle.slot_plan.specs.Conditions.{IsServing}
use Rattle.slot_plan.specs.Planned.{Planned}
use Rattle.toml.specs.Parse.{parse_document}
use Rattle.job_programs.specs.declared.refusal.JobRefusal.TheVariants.{Declaration, Description, Plan}
use Rattle.job_programs.specs.declared.refusal.JobError.{JobError}
use Rattle.job_programs.specs.declared.refusal.JobError.TheVariants.{Memory, Refused}
use Rattle.stream_jobs.specs.Jobs.{disagreeing}
use Rattle.job_inputs.specs.JobInput.{JobInputView}
use Rattle.stream_jobs.specs.Rates.{HasNoPlan, HasNoFirstRate, IsFirstRate, IsRate, IsText, IsTried, greatest_rate}
use Rattle.stream_jobs.specs.Texts.{description_text}
use Rattle.job_programs.specs.JobOptions.{JobOptionsView}

-- a text is refused as a description
abbrev pub IsFault : DescFault → List ℕ → Type 0
IsFault fault text = Err (read.Refused fault) ≡ description_of (parse_document text)

-- a text is not read: out of memory, or this is its fault
abbrev pub IsWhyNotRead : List ℕ → JobError → Type 0
IsWhyNotRead text Memory = ⊤
IsWhyNotRead text (Refused (Description fault)) = IsFault fault text
IsWhyNotRead text (Refused _) = ⊥

-- the same of the description that is written at a rate
abbrev pub IsWhyNotReadAt : JobOptionsView → JobInputView → ℕ → JobError → Type 0
IsWhyNotReadAt options input rate error = IsWhyNotRead (description_text options input rate) error

-- 1. At which rate

-- the rate that is asked for; otherwise the greatest rate, which shows what recurs, or a tried rate
abbrev pub IsReadFor : Option ℕ → JobOptionsView → JobInputView → ℕ → Type 0
IsReadFor (Some asked) options input rate = rate ≡ asked
IsReadFor None options input rate = (rate ≡ greatest_rate) ⊎ IsTried options input rate

-- the rate at which reasons are looked for: the greatest, or the first
abbrev pub IsGreatestOrFirst : JobOptionsView → JobInputView → ℕ → Type 0
IsGreatestOrFirst options input rate = (rate ≡ greatest_rate) ⊎ IsFirstRate options input rate

-- the description that is written at a rate of these can't be read
pub record IsWhyNotReadAtOne (IsRead : ℕ → Type 0) (options : JobOptionsView) (input : JobInputView) (error : JobError) : Type 0 where
  pub rate : ℕ
  pub is_read : IsRead rate
  pub unread : IsWhyNotReadAt options input rate error

-- 2. Why there is no ..

-- first rate
abbrev pub IsWhyNoRate : JobOptionsView → JobInputView → JobError → Type 0
IsWhyNoRate options input (Refused (Plan rate)) = (rate ≡ greatest_rate) × HasNoFirstRate options input
IsWhyNoRate options input error = IsWhyNotReadAt options input greatest_rate error

-- reasons: at the rate that is asked for, else at the first one, the description is not read, or there is no first rate
abbrev pub IsWhyNoReasons : Option ℕ → JobOptionsView → JobInputView → JobError → Type 0
IsWhyNoReasons (Some asked) options input error = IsWhyNotReadAt options input asked error
IsWhyNoReasons None options input Memory = ⊤
IsWhyNoReasons None options input (Refused (Plan rate)) = (rate ≡ greatest_rate) × HasNoFirstRate options input
IsWhyNoReasons None options input error = IsWhyNotReadAtOne (IsGreatestOrFirst options input) options input error

-- plan, with this rate asked for or none
abbrev pub IsWhyNoPlan : Option ℕ → JobOptionsView → JobInputView → JobError → Type 0
IsWhyNoPlan asked options input Memory = ⊤
IsWhyNoPlan asked options input (Refused (Plan rate)) = HasNoPlan asked options input rate
IsWhyNoPlan asked options input error = IsWhyNotReadAtOne (IsReadFor asked options input) options input error

-- description: if a rate is asked for, only because memory runs out
abbrev pub IsWhyNoDescription : Option ℕ → JobOptionsView → JobInputView → JobError → Type 0
IsWhyNoDescription (Some asked) options input error = error ≡ Memory
IsWhyNoDescription None options input error = IsWhyNoPlan None options input error

-- the description that a plan serves at its rate has other programs than the input, or does not declare what the units of a stream need
pub record Disagrees (options : JobOptionsView) (input : JobInputView) (pid : ℕ) : Type 0 where
  pub rate : ℕ
  pub rate_is : IsRate options.rate options input rate
  pub description : Described
  pub plan : Planned
  pub read : IsText description (description_text options input rate)
  pub serving : IsServing description plan
  pub disagree : disagreeing options.clock description input ≡ Some pid

-- job
abbrev pub IsWhyNoJob : JobOptionsView → JobInputView → JobError → Type 0
IsWhyNoJob options input (Refused (Declaration pid)) = Disagrees options input pid
IsWhyNoJob options input error = IsWhyNoPlan options.rate options input error
