-- The rates at which a plan is looked for.
use Rattle.std.specs.Prelude.{◌≡◌, ◌⊎◌, ℕ, zero, suc, ◌+◌, ◌/◌, ◌%◌, ◌-◌, ◌^◌, min, nat_le, nat_lt, false, if◌then◌else◌, List, [], ◌∷◌, ◌++◌, map, Option, Some}
use Rattle.std.specs.Prelude.{None, Ok, All, filter, find, not, option_to_list}
use Rattle.std.specs.List.{range_with_len}
use Rattle.description_parts.specs.Described.{Described, DescribedProgram}
use Rattle.description.specs.Reading.{description_of}
use Rattle.description_parts.specs.Tables.{round_packets, table_count, table_limit}
use Rattle.plan_maker.specs.PlainPlan.{plain_plan, serves}
use Rattle.slot_plan.specs.Conditions.{IsServing}
use Rattle.slot_plan.specs.Planned.{Planned}
use Rattle.stream_choice.specs.Rates.{IsLeastRate, IsTooMuch}
use Rattle.stream_choice.specs.declared.recurring.Recurring.{Recurring}
use Rattle.toml.specs.Parse.{parse_document}
use Rattle.job_inputs.specs.JobInput.{JobInputView}
use Rattle.stream_jobs.specs.Texts.{description_text}
use Rattle.job_programs.specs.JobOptions.{JobOptionsView}

-- the text of a description is read as it
abbrev pub IsText : Described → List ℕ → Type 0
IsText d text = Ok d ≡ description_of (parse_document text)

-- 1. What recurs: the sections of tables, and clock references, one packet each

unfoldable pub table_recurs : Described → ℕ → Recurring
table_recurs d t = record { slots = min (round_packets d t) (2 ^ 32 - 1); limit = table_limit d t }

unfoldable pub clock_recurs : DescribedProgram → Recurring
clock_recurs p = record { slots = 1; limit = p.pcr_limit }

-- the programs that have a clock of their own, and the first program on the shared clock
abbrev pub clock_programs : List DescribedProgram → List DescribedProgram
clock_programs programs = filter (λ p. p.has_clock) programs ++ option_to_list (find (λ p. not p.has_clock) programs)

abbrev pub recurring_of : Described → List Recurring
recurring_of d = map (table_recurs d) (range_with_len 0 (table_count d)) ++ map clock_recurs (clock_programs d.programs)

-- 2. The first rate: the least at which the shares of all streams and of all that recurs are together at most the whole. What
-- recurs is known of the description at the greatest rate

-- the greatest that a description may have, in bits a second
abbrev pub greatest_rate : ℕ
greatest_rate = 100_000_000

abbrev pub shares : JobInputView → List ℕ
shares input = map (λ c. c.choice.share) input.choices

pub record IsFirstRate (options : JobOptionsView) (input : JobInputView) (rate : ℕ) : Type 0 where
  pub description : Described
  pub read : IsText description (description_text options input greatest_rate)
  pub least : IsLeastRate (shares input) (recurring_of description) rate

-- the rate that is asked for, else that one
abbrev pub IsAskedOrFirst : Option ℕ → JobOptionsView → JobInputView → ℕ → Type 0
IsAskedOrFirst (Some asked) options input rate = rate ≡ asked
IsAskedOrFirst None options input rate = IsFirstRate options input rate

-- there is none
pub record HasNoFirstRate (options : JobOptionsView) (input : JobInputView) : Type 0 where
  pub description : Described
  pub read : IsText description (description_text options input greatest_rate)
  pub too_much : IsTooMuch (shares input) (recurring_of description)

-- 3. The rates from there on, by small steps at first. Multiples of 25 slots a second are not passed by steps that are less: clock references 40 ms
-- apart are then whole slots apart, and streams between them find slots as even as can be

unfoldable pub step_after : ℕ → ℕ → ℕ
step_after tried rate = if nat_lt tried 48 then rate / 256 else rate / 16

abbrev pub even_rate : ℕ
even_rate = 37_600

unfoldable pub next_rate : ℕ → ℕ → ℕ
next_rate tried rate =
    rate + (if nat_lt (step_after tried rate) even_rate then min (step_after tried rate) (even_rate - rate % even_rate) else step_after tried rate)

-- this number of rates at most, and none over the greatest
unfoldable pub rates_from : ℕ → ℕ → ℕ → List ℕ
rates_from zero tried rate = []
rates_from (suc more) tried rate = if nat_le rate greatest_rate then rate ∷ rates_from more (tried + 1) (next_rate tried rate) else []

abbrev pub tried_rates : ℕ → List ℕ
tried_rates first = rates_from 96 0 first

-- 4. A rate with a plan

-- the text at a rate, with what it is read as
pub record IsPlanned (options : JobOptionsView) (input : JobInputView) (rate : ℕ) (d : Described) (text : List ℕ) : Type 0 where
  pub text_is : text ≡ description_text options input rate
  pub read : IsText d text

-- a plan serves the description at a rate
pub record IsServed (options : JobOptionsView) (input : JobInputView) (rate : ℕ) : Type 0 where
  pub description : Described
  pub plan : Planned
  pub read : IsText description (description_text options input rate)
  pub serving : IsServing description plan

-- not even the plain plan does
pub record IsUnserved (options : JobOptionsView) (input : JobInputView) (rate : ℕ) : Type 0 where
  pub description : Described
  pub read : IsText description (description_text options input rate)
  pub fails : serves description (plain_plan description) ≡ false

-- a rate is tried only after the rates before it, from the first on, and no plan serves an earlier rate
pub record IsTriedFrom (options : JobOptionsView) (input : JobInputView) (first rate : ℕ) : Type 0 where
  pub before : List ℕ
  pub after : List ℕ
  pub among : tried_rates first ≡ before ++ rate ∷ after
  pub none_before : All (IsUnserved options input) before

pub record IsTried (options : JobOptionsView) (input : JobInputView) (rate : ℕ) : Type 0 where
  pub first : ℕ
  pub is_first : IsFirstRate options input first
  pub tried : IsTriedFrom options input first rate

-- the rate that is asked for, otherwise a rate that is tried
abbrev pub IsRate : Option ℕ → JobOptionsView → JobInputView → ℕ → Type 0
IsRate (Some asked) options input rate = rate ≡ asked
IsRate None options input rate = IsTried options input rate

-- no rate is served among the tried rates, which begin with this rate
pub record AreUnserved (options : JobOptionsView) (input : JobInputView) (first : ℕ) : Type 0 where
  pub is_first : IsFirstRate options input first
  pub none : All (IsUnserved options input) (tried_rates first)

-- no plan is found: at the rate that is asked for; otherwise at the first rate and the rates after it; or no rate has slots for all
abbrev pub HasNoPlan : Option ℕ → JobOptionsView → JobInputView → ℕ → Type 0
HasNoPlan (Some asked) options input rate = (rate ≡ asked) × IsUnserved options input rate
HasNoPlan None options input rate = AreUnserved options input rate ⊎ ((rate ≡ greatest_rate) × HasNoFirstRate options input)
