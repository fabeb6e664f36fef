-- The texts about joined inputs contain no newline.
use Rattle.std.proofs.Common.{◌≡◌, ℕ, zero, suc, ◌+◌, List, [], ◌∷◌, ◌++◌, map, take, Ok, subst}
use Rattle.std.specs.List.{AllZip}
use Rattle.pid_findings.specs.Views.{FindingView}
use Rattle.job_text.specs.DescriptionParts.{EventPartView}
use Rattle.job_programs.specs.Information.{JobInformationView}
use Rattle.job_inputs.specs.JobInput.{JobInputView}
use Rattle.job_programs.specs.JobOptions.{JobOptionsView}
use Rattle.job_inputs.specs.JoinedInputs.{JoinedInputsView, first_input, information_joined, joined, most_events, with_input, with_inputs, with_renumbered}
use Rattle.job_inputs.specs.RenumberedInputs.{RenumberingView, event_with, information_with, renumbered}
use Rattle.job_inputs.proofs.JoinedStreams.{next_of}
use Rattle.job_inputs.proofs.MovedInputs.{moved_of}
use Rattle.job_programs.proofs.Steps.{comes, same_value}
use Rattle.job_run.specs.SeveralInputs.{all_joined}
use Rattle.laws_pipe.specs.PipedFiles.{TakesInput}
use Rattle.laws_pipe.proofs.DescriptionLines.{Each, PlainEvent, PlainInformation}
use Rattle.laws_pipe.proofs.PipedRuns.{plain_of}
use Rattle.laws_pipe.proofs.PlainNames.{PlainOptions, PlainService}

-- 1. Lists

both_each : {X : Type 0} (P : X → Type 0) (xs ys : List X) → Each P xs → Each P ys → Each P (xs ++ ys)
both_each P [] ys one other = other
both_each P (x ∷ xs) ys one other = (one.0, both_each P xs ys one.1 other)

front_each : {X : Type 0} (P : X → Type 0) (n : ℕ) (xs : List X) → Each P xs → Each P (take n xs)
front_each P zero xs all = tt
front_each P (suc n) [] all = tt
front_each P (suc n) (x ∷ xs) all = (all.0, front_each P n xs all.1)

-- 2. An input with new numbers, and two inputs as one

event_plain : (r : RenumberingView) (e : EventPartView) → PlainEvent e → PlainEvent (event_with r e)
unfolding event_with
event_plain r e plain = record { start = plain.start; language = plain.language; name = plain.name; text = plain.text }

events_plain : (r : RenumberingView) (es : List EventPartView) → Each PlainEvent es → Each PlainEvent (map (event_with r) es)
events_plain r [] plain = tt
events_plain r (e ∷ es) plain = (event_plain r e plain.0, events_plain r es plain.1)

renumbered_plain : (r : RenumberingView) (i : JobInformationView) → PlainInformation i → PlainInformation (information_with r i)
unfolding information_with
renumbered_plain r i plain = record {
  start = plain.start;
  network = plain.network;
  events = events_plain r i.events plain.events;
  services = plain.services;
}

joined_plain : (a b : JobInformationView) → PlainInformation a → PlainInformation b → PlainInformation (information_joined a b)
unfolding information_joined
joined_plain a b one other = record {
  start = one.start;
  network = one.network;
  events = front_each PlainEvent most_events (a.events ++ b.events) (both_each PlainEvent a.events b.events one.events other.events);
  services = both_each PlainService a.services b.services one.services other.services;
}

-- 3. All inputs

more_plain : (j : JoinedInputsView) (m : JobInputView) (r : RenumberingView) → PlainInformation j.input.information → PlainInformation m.information →
    PlainInformation (with_renumbered j m r).input.information
unfolding with_renumbered joined renumbered
more_plain j m r before own = joined_plain j.input.information (information_with r m.information) before (renumbered_plain r m.information own)

all_plain : (number : ℕ) (j : JoinedInputsView) (ms : List JobInputView) (all : JoinedInputsView) → with_inputs number j ms ≡ Ok all →
    PlainInformation j.input.information →
    Each (λ m. PlainInformation m.information) ms → PlainInformation all.input.information
unfolding with_inputs
all_plain number j [] all is before each = subst (λ (x : JoinedInputsView). PlainInformation x.input.information) (same_value j all is) before
all_plain number j (m ∷ ms) all is before each =
    let step = comes (λ more. with_inputs (number + 1) more ms) (with_input number j m) all is in
    let next = next_of number j m step.value step.first_is in
    all_plain (number + 1) step.value ms all step.last_is
    (subst (λ (x : JoinedInputsView). PlainInformation x.input.information) next.is (more_plain j m next.numbers before each.0)) each.1

first_plain : (m : JobInputView) → PlainInformation m.information → PlainInformation (first_input m).input.information
unfolding first_input
first_plain m plain = plain

pub all_are_plain : (ms : List JobInputView) (j : JoinedInputsView) → all_joined ms ≡ Ok j → Each (λ m. PlainInformation m.information) ms →
    PlainInformation j.input.information
unfolding all_joined
all_are_plain [] j is each = absurd cc
all_are_plain (m ∷ ms) j is each = all_plain 1 (first_input m) ms j is (first_plain m each.0) each.1

-- 4. The input that a job takes from streams

one_plain : (w : JobOptionsView) (findings : List FindingView) (m : JobInputView) → PlainOptions w → TakesInput w findings m → PlainInformation m.information
one_plain w findings m plain takes =
    let from = moved_of w takes.count findings m takes.is in
    plain_of w from.id findings m plain from.information_is

pub each_plain : (w : JobOptionsView) (inputs : List (List FindingView)) (ms : List JobInputView) → PlainOptions w → AllZip (TakesInput w) inputs ms →
    Each (λ m. PlainInformation m.information) ms
each_plain w [] [] plain all = tt
each_plain w [] (m ∷ ms) plain all = absurd all
each_plain w (f ∷ fs) [] plain all = absurd all
each_plain w (f ∷ fs) (m ∷ ms) plain all = (one_plain w f m plain all.0, each_plain w fs ms plain all.1)
