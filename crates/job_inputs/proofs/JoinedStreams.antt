-- A property of the streams of each input is a property of the streams of the joined inputs.
use Rattle.std.proofs.Common.{◌≡◌, ◌≤◌, ℕ, ◌+◌, ◌==◌, nat_lt, Bool, List, [], ◌∷◌, ◌++◌, length, map, Option, Some, None, Result, Ok, Err, IfOk, All, sym, ap}
use Rattle.std.proofs.Common.{subst, inl, inr, arith}
use Rattle.std.specs.List.{AllZip}
use Rattle.std.specs.Prelude.{ok_or}
use Rattle.std.proofs.lemmas.Bool.{cases_Bool, leb-false}
use Rattle.std.proofs.lemmas.List.Elements.{All-append, All-cons, All-head, All-nil, All-tail}
use Rattle.std.proofs.lemmas.Option.{option_and_then_some}
use Rattle.pid_findings.specs.Views.{FindingView}
use Rattle.job_units.specs.Declarations.{too_many}
use Rattle.job_inputs.specs.JobInput.{JobInputView, AreStreams}
use Rattle.job_programs.specs.JobStreams.{TimedStreamView}
use Rattle.job_inputs.specs.JoinedInputs.{AreMadeOf, AreMovedByOne, AreStreamsIn, IsFoundIn, IsMovedByOne, IsMovedIn, JoinedAreStreams, JoinedInputsView}
use Rattle.job_inputs.specs.JoinedInputs.{JoinedKeepConstants, findings_in, first_input, joined, joined_inputs, origin_in, with_input, with_inputs}
use Rattle.job_inputs.specs.JoinedInputs.{with_renumbered, within_limits}
use Rattle.job_inputs.specs.RenumberedInputs.{RenumberingView, new_pids, new_programs, renumbered, renumbering_of, renumbering_with, stream_with}
use Rattle.job_inputs.specs.declared.joined_inputs.Origin.{Origin}
use Rattle.job_inputs.specs.declared.new_numbers.NewNumber.{NewNumber}
use Rattle.job_programs.specs.declared.program_clock.ProgramClock.{ProgramClock}
use Rattle.job_programs.specs.declared.refusal.JobError.{JobError}
use Rattle.job_programs.specs.declared.refusal.JobRefusal.{JobRefusal}
use Rattle.job_programs.specs.declared.refusal.JobRefusal.TheVariants as refusals
use Rattle.job_programs.proofs.Steps.{comes, granted, not_against, same_value}
use Rattle.job_programs.specs.FoundUnits.{FitsQueue, IsMoved}

-- 1. Place by place

zip_mapped : (P : Origin → TimedStreamView → Type 0) (Q : TimedStreamView → Type 0) (f : TimedStreamView → Origin) (g : TimedStreamView → TimedStreamView)
    (streams : List TimedStreamView) →
    ((s : TimedStreamView) → Q s → P (f s) (g s)) → All Q streams → AllZip P (map f streams) (map g streams)
zip_mapped P Q f g [] each all = tt
zip_mapped P Q f g (s ∷ ss) each all = (each s (All-head Q s ss all), zip_mapped P Q f g ss each (All-tail Q s ss all))

zip_own : (P : Origin → TimedStreamView → Type 0) (Q : TimedStreamView → Type 0) (f : TimedStreamView → Origin) (streams : List TimedStreamView) →
    ((s : TimedStreamView) → Q s → P (f s) s) → All Q streams → AllZip P (map f streams) streams
zip_own P Q f [] each all = tt
zip_own P Q f (s ∷ ss) each all = (each s (All-head Q s ss all), zip_own P Q f ss each (All-tail Q s ss all))

zip_both : (P : Origin → TimedStreamView → Type 0) (os ps : List Origin) (ts us : List TimedStreamView) → AllZip P os ts → AllZip P ps us →
    AllZip P (os ++ ps) (ts ++ us)
zip_both P [] ps [] us one other = other
zip_both P (o ∷ os) ps (t ∷ ts) us one other = (one.0, zip_both P os ps ts us one.1 other)
zip_both P [] ps (t ∷ ts) us one other = absurd one
zip_both P (o ∷ os) ps [] us one other = absurd one

-- 2. New numbers are the numbers of an input

with_pids : (number : ℕ) (programs : List NewNumber) (pids : Option (List NewNumber)) (r : RenumberingView) → renumbering_with number programs pids ≡ Some r →
    r.input ≡ number
unfolding renumbering_with
with_pids number programs None r is = absurd cc
with_pids number programs (Some ps) r is =
    let same : (let x : RenumberingView = record { input = number; programs = programs; pids = ps } in x) ≡ r = cc in
    sym (ap (λ (x : RenumberingView). x.input) same)

its_input : (number : ℕ) (before m : JobInputView) (r : RenumberingView) → renumbering_of number before m ≡ Some r → r.input ≡ number
unfolding renumbering_of
its_input number before m r is =
    option_and_then_some (λ (programs : List NewNumber). renumbering_with number programs (new_pids before m)) (new_programs before m) r is
    (λ programs at rest. with_pids number programs (new_pids before m) r rest)

pub some_of : {A : Type 0} (o : Option A) (x : A) (refusal : JobRefusal) → ok_or o refusal ≡ Ok x → o ≡ Some x
some_of None x refusal is = absurd cc
some_of (Some y) x refusal is = let same : y ≡ x = cc in ap Some same

-- 3. Properties of streams

fits_with : (r : RenumberingView) (streams : List TimedStreamView) → All FitsQueue streams → All FitsQueue (map (stream_with r) streams)
unfolding stream_with
fits_with r [] all = All-nil FitsQueue
fits_with r (s ∷ ss) all =
    All-cons FitsQueue (stream_with r s) (map (stream_with r) ss) (All-head FitsQueue s ss all) (fits_with r ss (All-tail FitsQueue s ss all))

few : (programs streams : ℕ) → too_many programs streams ≡ None → streams ≤ 254
unfolding too_many
few programs streams is = elim (cases_Bool (streams == 0)) [
  | inl nothing ↦ absurd (let no : ⊥ = (let e : Some refusals.NoStream ≡ None = rw nothing at is in cc) in no)
  | inr some ↦ elim (cases_Bool (nat_lt 64 programs)) [
    | inl many ↦ absurd (let no : ⊥ = (let e : Some (refusals.Programs programs) ≡ None = rw (some, many) at is in cc) in no)
    | inr less ↦ elim (cases_Bool (nat_lt 254 streams)) [
      | inl over ↦ absurd (let no : ⊥ = (let e : Some (refusals.Streams streams) ≡ None = rw (some, less, over) at is in cc) in no)
      | inr within ↦ let most = leb-false 255 streams within in omega (arith, most)
    ]
  ]
]

-- 4. One more input

pub record IsNext (number : ℕ) (j : JoinedInputsView) (m : JobInputView) (more : JoinedInputsView) : Type 0 where
  pub numbers : RenumberingView
  pub input_is : numbers.input ≡ number
  pub is : with_renumbered j m numbers ≡ more
  pub stream_count : length more.input.streams ≤ 254

pub next_of : (number : ℕ) (j : JoinedInputsView) (m : JobInputView) (more : JoinedInputsView) → with_input number j m ≡ Ok more → IsNext number j m more
unfolding with_input within_limits
next_of number j m more is =
    let made = comes (λ r. within_limits (with_renumbered j m r)) (ok_or (renumbering_of number j.input m) refusals.Pids) more is in
    let all = with_renumbered j m made.value in
    let against = too_many (length all.input.programs) (length all.input.streams) in
    let same : all ≡ more = same_value all more (granted against (Ok all) more made.last_is) in
    record {
      numbers = made.value;
      input_is = its_input number j.input m made.value (some_of (renumbering_of number j.input m) made.value refusals.Pids made.first_is);
      is = same;
      stream_count = subst (λ (x : JoinedInputsView). length x.input.streams ≤ 254) same
          (few (length all.input.programs) (length all.input.streams) (not_against against (Ok all) more made.last_is));
    }

-- A property of the streams of an input becomes a property of the renumbered streams.
abbrev Becomes : (ℕ → JobInputView → TimedStreamView → Type 0) → (Origin → TimedStreamView → Type 0) → Type 0
Becomes Q P = (r : RenumberingView) (m : JobInputView) (s : TimedStreamView) → Q r.input m s → P (origin_in r.input m.programs s) (stream_with r s)

renumbered_zip : (Q : ℕ → JobInputView → TimedStreamView → Type 0) (P : Origin → TimedStreamView → Type 0) → Becomes Q P →
    (j : JoinedInputsView) (m : JobInputView) (r : RenumberingView) →
    AllZip P j.origins j.input.streams → All (Q r.input m) m.streams → AllZip P (with_renumbered j m r).origins (with_renumbered j m r).input.streams
unfolding with_renumbered joined renumbered
renumbered_zip Q P becomes j m r so_far streams =
    zip_both P j.origins (map (origin_in r.input m.programs) m.streams) j.input.streams (map (stream_with r) m.streams) so_far
    (zip_mapped P (Q r.input m) (origin_in r.input m.programs) (stream_with r) m.streams (becomes r m) streams)

renumbered_fits : (j : JoinedInputsView) (m : JobInputView) (r : RenumberingView) → All FitsQueue j.input.streams → All FitsQueue m.streams →
    All FitsQueue (with_renumbered j m r).input.streams
unfolding with_renumbered joined renumbered
renumbered_fits j m r so_far own = All-append FitsQueue j.input.streams (map (stream_with r) m.streams) so_far (fits_with r m.streams own)

next_zip : (Q : ℕ → JobInputView → TimedStreamView → Type 0) (P : Origin → TimedStreamView → Type 0) → Becomes Q P →
    (number : ℕ) (j : JoinedInputsView) (m : JobInputView) (more : JoinedInputsView) →
    with_input number j m ≡ Ok more → AllZip P j.origins j.input.streams → All (Q number m) m.streams → AllZip P more.origins more.input.streams
next_zip Q P becomes number j m more is so_far streams =
    let next = next_of number j m more is in
    subst (λ (x : JoinedInputsView). AllZip P x.origins x.input.streams) next.is
    (renumbered_zip Q P becomes j m next.numbers so_far (subst (λ (n : ℕ). All (Q n m) m.streams) (sym next.input_is) streams))

-- 5. All inputs

-- Whether the streams of the inputs, numbered from `number` on, have the property Q
abbrev EachInput : (ℕ → JobInputView → TimedStreamView → Type 0) → ℕ → List JobInputView → Type 0
EachInput Q number [] = Unit {0}
EachInput Q number (m ∷ ms) = All (Q number m) m.streams × EachInput Q (number + 1) ms

all_zip : (Q : ℕ → JobInputView → TimedStreamView → Type 0) (P : Origin → TimedStreamView → Type 0) → Becomes Q P →
    (number : ℕ) (j : JoinedInputsView) (ms : List JobInputView) (all : JoinedInputsView) →
    with_inputs number j ms ≡ Ok all → AllZip P j.origins j.input.streams → EachInput Q number ms → AllZip P all.origins all.input.streams
unfolding with_inputs
all_zip Q P becomes number j [] all is so_far each = subst (λ (x : JoinedInputsView). AllZip P x.origins x.input.streams) (same_value j all is) so_far
all_zip Q P becomes number j (m ∷ ms) all is so_far each =
    let next = comes (λ more. with_inputs (number + 1) more ms) (with_input number j m) all is in
    all_zip Q P becomes (number + 1) next.value ms all next.last_is (next_zip Q P becomes number j m next.value next.first_is so_far each.0) each.1

first_zip : (Q : ℕ → JobInputView → TimedStreamView → Type 0) (P : Origin → TimedStreamView → Type 0) →
    ((m : JobInputView) (s : TimedStreamView) → Q 0 m s → P (origin_in 0 m.programs s) s) →
    (m : JobInputView) → All (Q 0 m) m.streams → AllZip P (first_input m).origins (first_input m).input.streams
unfolding first_input
first_zip Q P stays m streams = zip_own P (Q 0 m) (origin_in 0 m.programs) m.streams (stays m) streams

-- 6. The input of the found units

found_becomes : (made : Bool) (inputs : List (List FindingView)) → Becomes (λ number m. IsMoved made (findings_in inputs number)) (IsFoundIn made inputs)
unfolding origin_in stream_with
found_becomes made inputs r m s moved = moved

found_stays : (made : Bool) (inputs : List (List FindingView)) (m : JobInputView) (s : TimedStreamView) → IsMoved made (findings_in inputs 0) s →
    IsFoundIn made inputs (origin_in 0 m.programs s) s
unfolding origin_in
found_stays made inputs m s moved = moved

each_found : (made : Bool) (inputs : List (List FindingView)) (number : ℕ) (ms : List JobInputView) → AreMadeOf made inputs number ms →
    EachInput (λ n m. IsMoved made (findings_in inputs n)) number ms
unfolding AreMadeOf
each_found made inputs number [] of = tt
each_found made inputs number (m ∷ ms) of = (of.0.moved, each_found made inputs (number + 1) ms of.1)

-- 7. Streams fit

all_fit : (made : Bool) (inputs : List (List FindingView)) (number : ℕ) (j : JoinedInputsView) (ms : List JobInputView) (all : JoinedInputsView) →
    with_inputs number j ms ≡ Ok all →
    All FitsQueue j.input.streams → AreMadeOf made inputs number ms → All FitsQueue all.input.streams
unfolding with_inputs AreMadeOf
all_fit made inputs number j [] all is so_far of = subst (λ (x : JoinedInputsView). All FitsQueue x.input.streams) (same_value j all is) so_far
all_fit made inputs number j (m ∷ ms) all is so_far of =
    let step = comes (λ more. with_inputs (number + 1) more ms) (with_input number j m) all is in
    let next = next_of number j m step.value step.first_is in
    all_fit made inputs (number + 1) step.value ms all step.last_is
    (subst (λ (x : JoinedInputsView). All FitsQueue x.input.streams) next.is (renumbered_fits j m next.numbers so_far of.0.fits)) of.1

all_few : (number : ℕ) (j : JoinedInputsView) (ms : List JobInputView) (all : JoinedInputsView) → with_inputs number j ms ≡ Ok all →
    length j.input.streams ≤ 254 → length all.input.streams ≤ 254
unfolding with_inputs
all_few number j [] all is so_far = subst (λ (x : JoinedInputsView). length x.input.streams ≤ 254) (same_value j all is) so_far
all_few number j (m ∷ ms) all is so_far =
    let step = comes (λ more. with_inputs (number + 1) more ms) (with_input number j m) all is in
    all_few (number + 1) step.value ms all step.last_is (next_of number j m step.value step.first_is).stream_count

first_fits : (m : JobInputView) → All FitsQueue m.streams → All FitsQueue (first_input m).input.streams
unfolding first_input
first_fits m fits = fits

first_few : (m : JobInputView) → length m.streams ≤ 254 → length (first_input m).input.streams ≤ 254
unfolding first_input
first_few m few = few

made_of : (made : Bool) (inputs : List (List FindingView)) (first : JobInputView) (more : List JobInputView) → AreMadeOf made inputs 0 (first ∷ more) →
    AreStreams made (findings_in inputs 0) first × AreMadeOf made inputs 1 more
unfolding AreMadeOf
made_of made inputs first more of = of

pub joined_found : JoinedAreStreams
joined_found made inputs first more j of is =
    let parts = made_of made inputs first more of in
    let Q : ℕ → JobInputView → TimedStreamView → Type 0 = λ number m. IsMoved made (findings_in inputs number) in
    record {
      found = all_zip Q (IsFoundIn made inputs) (found_becomes made inputs) 1 (first_input first) more j is
          (first_zip Q (IsFoundIn made inputs) (found_stays made inputs) first parts.0.moved) (each_found made inputs 1 more parts.1);
      fits = all_fit made inputs 1 (first_input first) more j is (first_fits first parts.0.fits) parts.1;
      stream_count = all_few 1 (first_input first) more j is (first_few first parts.0.stream_count);
    }

-- 8. Constants

moved_becomes : (made : Bool) (inputs : List (List FindingView)) (constant : ℕ → ProgramClock → ℕ) →
    Becomes (IsMovedByOne made inputs constant) (IsMovedIn made inputs constant)
unfolding origin_in stream_with
moved_becomes made inputs constant r m s moved = moved

moved_stays : (made : Bool) (inputs : List (List FindingView)) (constant : ℕ → ProgramClock → ℕ) (m : JobInputView) (s : TimedStreamView) →
    IsMovedByOne made inputs constant 0 m s →
    IsMovedIn made inputs constant (origin_in 0 m.programs s) s
unfolding origin_in
moved_stays made inputs constant m s moved = moved

each_moved : (made : Bool) (inputs : List (List FindingView)) (constant : ℕ → ProgramClock → ℕ) (number : ℕ) (ms : List JobInputView) →
    AreMovedByOne made inputs constant number ms →
    EachInput (IsMovedByOne made inputs constant) number ms
unfolding AreMovedByOne
each_moved made inputs constant number [] all = tt
each_moved made inputs constant number (m ∷ ms) all = (all.0, each_moved made inputs constant (number + 1) ms all.1)

pub constants_kept : JoinedKeepConstants
constants_kept made inputs constant first more j all is =
    let each = each_moved made inputs constant 0 (first ∷ more) all in
    all_zip (IsMovedByOne made inputs constant) (IsMovedIn made inputs constant) (moved_becomes made inputs constant) 1 (first_input first) more j is
    (first_zip (IsMovedByOne made inputs constant) (IsMovedIn made inputs constant) (moved_stays made inputs constant) first each.0) each.1

-- 9. The result of a call

pub found_answered : (made : Bool) (inputs : List (List FindingView)) (first : JobInputView) (more : List JobInputView) (r : Result JoinedInputsView JobError) →
    IfOk r (λ j. joined_inputs first more ≡ Ok j) → AreMadeOf made inputs 0 (first ∷ more) → IfOk r (AreStreamsIn made inputs)
found_answered made inputs first more (Ok j) is of = joined_found made inputs first more j of is
found_answered made inputs first more (Err error) is of = tt

pub constants_answered : (made : Bool) (inputs : List (List FindingView)) (constant : ℕ → ProgramClock → ℕ) (first : JobInputView) (more : List JobInputView)
    (r : Result JoinedInputsView JobError) →
    IfOk r (λ j. joined_inputs first more ≡ Ok j) → AreMovedByOne made inputs constant 0 (first ∷ more) →
    IfOk r (λ j. AllZip (IsMovedIn made inputs constant) j.origins j.input.streams)
constants_answered made inputs constant first more (Ok j) is all = constants_kept made inputs constant first more j all is
constants_answered made inputs constant first more (Err error) is all = tt

pub few_answered : (first : JobInputView) (more : List JobInputView) (r : Result JoinedInputsView JobError) →
    IfOk r (λ j. joined_inputs first more ≡ Ok j) → length first.streams ≤ 254 → IfOk r (λ j. length j.input.streams ≤ 254)
few_answered first more (Ok j) is few_streams = all_few 1 (first_input first) more j is (first_few first few_streams)
few_answered first more (Err error) is few_streams = tt
