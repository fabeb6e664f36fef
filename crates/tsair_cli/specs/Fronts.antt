-- The front of the input: a description and its plans, as far as the last line `end`.
use Rattle.std.specs.Prelude.{◌≡◌, ◌⊎◌, ◌<◌, ◌≤◌, ◌+◌, ◌^◌, ◌==◌, ◌&&◌, ℕ, Bool, true, false, List, [], ◌∷◌, ◌++◌, length, Option, Some, None, Result, Ok, Err}
use Rattle.std.specs.Prelude.{codes, nat_eq, nat_le, if◌then◌else◌, option_map, string_bytes}
use Rattle.std.specs.List.{starts_with}
use Rattle.std.specs.Io.KnownBytes.{Consumes, IsAtEnd}
use Rattle.devices.specs.Devices.{Device, HasFailed, IsClean}
use Rattle.devices.specs.Outcomes.{Outcome, reported, halted}
use Rattle.devices.specs.declared.halt.Halt.{Halt}
use Rattle.devices.specs.declared.halt.Halt.TheVariants.{Read, Write, Memory}
use Rattle.checked_jobs.specs.Jobs.{JobFaultView, JobView, job_of}
use Rattle.job_parts.specs.Parts.{parts_of}
use Rattle.checked_jobs.specs.JobFaults.{plans_view}
use Rattle.checked_jobs.specs.declared.jobs.JobPlans.{JobPlans}
use Rattle.explained_jobs.specs.FaultLines.{IsFaultLine}
use Rattle.tsair_cli.specs.declared.front.FrontFault.TheVariants.{Job, Unended}
use Rattle.tsair_cli.specs.declared.front.FrontError.{FrontError}
use Rattle.tsair_cli.specs.declared.front.FrontError.TheVariants.{Fault, Stopped}

-- 1. Where a front ends

-- the number of lines `end` in bytes that begin at the beginning of a line or within one
abbrev pub end_lines : Bool → List ℕ → ℕ
end_lines at_line [] = 0
end_lines at_line (x ∷ xs) = (if at_line && starts_with nat_eq (x ∷ xs) (codes "end\n") then 1 else 0) + end_lines (x == 10) xs

-- whether the bytes after these are at the beginning of a line; these begin at the beginning of a line if `at_line`, otherwise within a line
abbrev pub ends_a_line : Bool → List ℕ → Bool
ends_a_line at_line [] = at_line
ends_a_line at_line (x ∷ xs) = ends_a_line (x == 10) xs

-- the number of plans that have ended in a text; none if it has no first line of a plan
abbrev pub ended_plans : List ℕ → Option ℕ
ended_plans xs = option_map (λ parts. end_lines true parts.1) (parts_of xs)

-- that number after more lines
abbrev pub ended_after : Option ℕ → List ℕ → Option ℕ
ended_after None lines = ended_plans lines
ended_after (Some n) lines = Some (n + end_lines true lines)

abbrev pub plan_count : Bool → ℕ
plan_count switch = if switch then 2 else 1

-- `wanted` plans have ended
abbrev pub have_ended : ℕ → Option ℕ → Bool
have_ended wanted None = false
have_ended wanted (Some n) = nat_le wanted n

-- the last line of each of `wanted` plans is in the bytes from the first line of a plan on
abbrev pub have_ends : ℕ → Option (List ℕ × List ℕ) → Bool
have_ends wanted None = false
have_ends wanted (Some parts) = nat_le wanted (end_lines true parts.1)

abbrev pub plans_end : Bool → List ℕ → Bool
plans_end switch xs = have_ends (plan_count switch) (parts_of xs)

-- 2. A front that was read

-- the most bytes of a front
abbrev pub max_front : ℕ
max_front = 2 ^ 22

-- a text grew by bytes of the input
pub record Grows (input : Device) (old new : List ℕ) : Type 0 where
  pub bytes : List ℕ
  pub grown : new ≡ old ++ bytes
  pub read : Consumes input.before.bytes input.after.bytes bytes
  pub clean : IsClean input

-- no byte is left, if the bytes were known
abbrev pub IsSpent : Device → Type 0
IsSpent input = (xs : List ℕ) → input.before.bytes ≡ Some xs → IsAtEnd input.after.bytes

-- its last byte is 0, which neither a description nor a plan has
abbrev pub EndsInZero : List ℕ → Type 0
EndsInZero text = (front : List ℕ) × (text ≡ front ++ (0 ∷ []))

-- its last line is whole, or it is longer than a front may be
abbrev pub IsLined : List ℕ → Type 0
IsLined text = (max_front < length text) ⊎ (ends_a_line true text ≡ true)

-- it grew by a line, as far as a front may; if the answer is that the front has ended, no byte is left, or the last byte is 0
abbrev pub ReadsLine : Device → List ℕ → List ℕ → Result Bool Halt → Type 0
ReadsLine input old new (Ok true) = Grows input old new × (length old ≤ max_front → length old < length new) × IsLined new
ReadsLine input old new (Ok false) = Grows input old new × (IsSpent input ⊎ EndsInZero new)
ReadsLine input old new (Err Read) = HasFailed input
ReadsLine input old new (Err Write) = ⊥
ReadsLine input old new (Err Memory) = IsClean input

-- the line of the first fault in the job that a front is
pub record IsRefusedAs (switch : Bool) (front line : List ℕ) : Type 0 where
  pub fault : JobFaultView
  pub is : Err fault ≡ job_of switch front
  pub said : IsFaultLine front fault line

-- the plans that a front is read as, with no byte after them; or the line of its fault
abbrev pub IsFrontOf : Bool → List ℕ → Result JobPlans FrontError → Type 0
IsFrontOf switch front (Ok plans) = Ok (plans_view plans []) ≡ job_of switch front
IsFrontOf switch front (Err (Fault (Job line))) = IsRefusedAs switch front (string_bytes line)
IsFrontOf switch front (Err (Fault Unended)) = (j : JobView) × (Ok j ≡ job_of switch front) × (0 < length j.rest)
IsFrontOf switch front (Err (Stopped halt)) = halt ≡ Memory

-- why no more bytes were read: the last line of each plan has come, or no byte is left, or the last byte is 0
abbrev pub IsWhole : Bool → List ℕ → Device → Type 0
IsWhole switch front input = (plans_end switch front ≡ true) ⊎ (IsSpent input ⊎ EndsInZero front)

-- these bytes of the input were read
pub record HasRead (input : Device) (front : List ℕ) : Type 0 where
  pub read : Consumes input.before.bytes input.after.bytes front
  pub clean : IsClean input

pub record ReadsPlans (switch : Bool) (input : Device) (plans : JobPlans) : Type 0 where
  pub front : List ℕ
  pub has_read : HasRead input front
  pub plans_are : Ok (plans_view plans []) ≡ job_of switch front

pub record ReadsFault (switch : Bool) (input : Device) (Is : List ℕ → Type 0) : Type 0 where
  pub front : List ℕ
  pub has_read : HasRead input front
  pub is : Is front

-- the plans of a front; or the line of its fault, if the last line of each plan, the end of the input or a byte 0 has come; or it is too long
abbrev pub ReadsFront : Bool → Device → Result JobPlans FrontError → Type 0
ReadsFront switch input (Ok plans) = ReadsPlans switch input plans
ReadsFront switch input (Err (Fault (Job line))) =
    ReadsFault switch input (λ front. IsRefusedAs switch front (string_bytes line) × IsWhole switch front input)
ReadsFront switch input (Err (Fault Unended)) =
    ReadsFault switch input (λ front. (max_front < length front) ⊎ ((j : JobView) × (Ok j ≡ job_of switch front) × (0 < length j.rest)))
ReadsFront switch input (Err (Stopped Read)) = HasFailed input
ReadsFront switch input (Err (Stopped Write)) = ⊥
ReadsFront switch input (Err (Stopped Memory)) = IsClean input

-- 3. The report of a front that is not read

unfoldable pub front_outcome : FrontError → Outcome
front_outcome (Fault (Job line)) = reported (string_bytes line)
front_outcome (Fault Unended) = reported (codes "front: the last plan has no line end within 4 MiB: ( cat DESCRIPTION PLAN; FEEDER ) | tsair\n")
front_outcome (Stopped halt) = halted halt
