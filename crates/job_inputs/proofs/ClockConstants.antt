-- Each clock of a job has one constant.
use Rattle.std.proofs.Common.{◌≡◌, ◌∙◌, ◌<◌, ◌+◌, ◌%◌, ◌^◌, ℕ, Bool, List, [], ◌∷◌, map, Option, Some, None, Result, Ok, Err, IfOk, All, refl, sym, ap, subst}
use Rattle.std.proofs.Common.{slice_get, get_or, option_map, arith}
use Rattle.std.proofs.lemmas.Option.{same_Some, slice_get-get_or, slice_get-map, slice_get_within}
use Rattle.pid_findings.specs.Views.{FindingView}
use Rattle.pes_packet.specs.AccessUnits.{AccessUnit}
use Rattle.pes_packet.specs.Encoding.{on_wire}
use Rattle.es_moments.specs.Stamps.{distance, first_fault, moved as moved_units}
use Rattle.es_moments.proofs.StampMoments.{moved_by_one}
use Rattle.job_units.specs.declared.moved_streams.FirstDts.{FirstDts}
use Rattle.job_programs.specs.declared.refusal.JobError.{JobError}
use Rattle.job_programs.specs.Answers.{Answers, and_then, each}
use Rattle.job_programs.specs.ClockBases.{base0_of}
use Rattle.job_inputs.specs.ClockConstants.{HasConstants, IsMovedBy, KeepDistances, clock_of, found_of}
use Rattle.job_programs.specs.FoundUnits.{AreMoved, source_of, IsCarried}
use Rattle.job_inputs.specs.JobInput.{JobInputView, job_input}
use Rattle.job_programs.specs.JobOptions.{JobOptionsView}
use Rattle.job_programs.specs.JobPrograms.{JobProgramView, clock_in}
use Rattle.job_programs.specs.JobStreams.{TimedStreamView, WireStreamView}
use Rattle.job_units.specs.Moments.{base_for, base_of, base_of_first, earliest, first_base, first_dts_of, firsts, moved_by, moved_stream, moved_streams}
use Rattle.job_units.specs.Moments.{stamps_of, stamps_refusal, pts_limit_of, wire_of, with_moments}
use Rattle.job_inputs.proofs.MovedInputs.{moved_of}
use Rattle.job_programs.proofs.Steps.{granted, not_against, comes, same_value, each_all}

-- 1. A stream

in_range : (due : ℕ) (stamps : List ℕ) → base_for due stamps < 2 ^ 33
unfolding base_for distance
in_range due [] = omega arith
in_range due (x ∷ xs) = omega arith

no_value : {A B : Type 0} (f : A → B) (o : Option A) → option_map f o ≡ None → o ≡ None
no_value f None is = refl
no_value f (Some x) is = absurd (let no : ⊥ = cc in no)

-- A stream that is moved is the stream with its moments.
with_its_moments : (findings : List FindingView) (due : ℕ) (programs : List JobProgramView) (all : List FirstDts) (s : WireStreamView) (t : TimedStreamView) →
    moved_by findings due programs all s ≡ Ok t → with_moments (base_of due all (clock_in programs s.program)) s ≡ t
unfolding moved_by moved_stream
with_its_moments findings due programs all s t is =
    let base = base_of due all (clock_in programs s.program) in
    same_value (with_moments base s) t
    (granted (option_map (stamps_refusal findings s.pid) (first_fault (pts_limit_of s.stream_type s.descriptors) base None 0 (wire_of s)))
    (Ok (with_moments base s)) t is)

its_program : (findings : List FindingView) (due : ℕ) (programs : List JobProgramView) (all : List FirstDts) (s : WireStreamView) (t : TimedStreamView) →
    moved_by findings due programs all s ≡ Ok t → s.program ≡ t.program
unfolding with_moments
its_program findings due programs all s t is = ap (λ (x : TimedStreamView). x.program) (with_its_moments findings due programs all s t is)

one_moved : (made : Bool) (findings : List FindingView) (due : ℕ) (programs : List JobProgramView) (all : List FirstDts) (s : WireStreamView)
    (t : TimedStreamView) →
    IsCarried made findings s → moved_by findings due programs all s ≡ Ok t → IsMovedBy made findings (base_of due all (clock_of programs t)) t
unfolding moved_by moved_stream with_moments base_of
one_moved made findings due programs all s t carried is =
    let base = base_for due (stamps_of (clock_in programs s.program) all) in
    let against = option_map (stamps_refusal findings s.pid) (first_fault (pts_limit_of s.stream_type s.descriptors) base None 0 (wire_of s)) in
    let none = no_value (stamps_refusal findings s.pid) (first_fault (pts_limit_of s.stream_type s.descriptors) base None 0 (wire_of s))
    (not_against against (Ok (with_moments base s)) t is) in
    let wire : wire_of s ≡ map (λ u. u.unit) (source_of made s.pid findings) = ap (map (λ u. u.unit)) carried in
    subst (λ (x : TimedStreamView). IsMovedBy made findings (base_for due (stamps_of (clock_in programs x.program) all)) x)
    (with_its_moments findings due programs all s t is)
    (record {
      range = in_range due (stamps_of (clock_in programs s.program) all);
      limit = pts_limit_of s.stream_type s.descriptors;
      sound = rw (sym wire) none;
      are = rw (sym wire) refl;
    })

-- 2. The first stream

-- The clock of the first stream has the same base on the wire and at moments.
first_shows : (findings : List FindingView) (due : ℕ) (programs : List JobProgramView) (streams : List WireStreamView) (timed : List TimedStreamView)
    (t : TimedStreamView) →
    moved_streams findings due programs streams ≡ Ok timed → slice_get timed 0 ≡ Some t →
    first_base due programs streams ≡ base_of due (firsts programs streams) (clock_of programs t)
unfolding moved_streams each first_base base_of_first first_dts_of
first_shows findings due programs [] timed t is at =
    let none : slice_get (let l : List TimedStreamView = [] in l) 0 ≡ Some t =
    subst (λ (l : List TimedStreamView). slice_get l 0 ≡ Some t) (sym (same_value [] timed is)) at in
    absurd (let no : ⊥ = cc in no)
first_shows findings due programs (s ∷ ss) timed t is at =
    let all = firsts programs (s ∷ ss) in
    let first = comes (λ y. and_then (λ ys. Ok (y ∷ ys)) (each (moved_by findings due programs all) ss)) (moved_by findings due programs all s) timed is in
    let rest = comes (λ ys. Ok (first.value ∷ ys)) (each (moved_by findings due programs all) ss) timed first.last_is in
    let same = same_value (first.value ∷ rest.value) timed rest.last_is in
    let this : first.value ≡ t = same_Some first.value t (ap (λ (l : List TimedStreamView). slice_get l 0) same ∙ at) in
    ap (λ (n : ℕ). base_of due all (clock_in programs n))
    (its_program findings due programs all s first.value first.first_is ∙ ap (λ (x : TimedStreamView). x.program) this)

-- 3. A job

pub constants_of : (options : JobOptionsView) (count : ℕ) (findings : List FindingView) (input : JobInputView) → job_input options count findings ≡ Ok input →
    HasConstants options findings input
unfolding moved_streams
constants_of options count findings input is =
    let wire = moved_of options count findings input is in
    let due = earliest input.programs input.tables wire.streams in
    let all = firsts input.programs wire.streams in
    record {
      constant = base_of due all;
      streams = each_all (moved_by findings due input.programs all) (IsCarried options.make_dts findings)
          (λ t. IsMovedBy options.make_dts findings (base_of due all (clock_of input.programs t)) t)
          (one_moved options.make_dts findings due input.programs all) wire.streams input.streams wire.carried wire.moved;
      first = λ t at. wire.base0_is ∙ ap (base0_of options.base) (first_shows findings due input.programs wire.streams input.streams t wire.moved at);
    }

-- 4. Distances

element : {A : Type 0} (P : A → Type 0) (xs : List A) (i : ℕ) (x : A) → All P xs → slice_get xs i ≡ Some x → P x
element P xs i x all at =
    let within = slice_get_within xs i x at in
    subst P (same_Some (get_or xs i x) x (sym (slice_get-get_or xs i x within) ∙ at)) (all i x within)

-- If two lists are mapped to the same list, their elements are mapped to the same elements.
mapped_alike : {A B : Type 0} (f g : A → B) (xs ys : List A) (k : ℕ) (x y : A) → map f xs ≡ map g ys → slice_get xs k ≡ Some x → slice_get ys k ≡ Some y →
    f x ≡ g y
mapped_alike f g xs ys k x y alike one other =
    same_Some (f x) (g y)
    (sym (slice_get-map f xs k ∙ ap (option_map f) one) ∙ ap (λ l. slice_get l k) alike ∙ slice_get-map g ys k ∙ ap (option_map g) other)

-- Two stamps on the same clock are apart by the same distance as their moments.
apart : (base one other wire_one wire_other : ℕ) → (one + base) % 2 ^ 33 ≡ wire_one % 2 ^ 33 → (other + base) % 2 ^ 33 ≡ wire_other % 2 ^ 33 →
    (one + wire_other) % 2 ^ 33 ≡ (other + wire_one) % 2 ^ 33
apart base one other wire_one wire_other first second = omega (arith, first, second)

stamps_of_unit : (base k : ℕ) (wire us : List AccessUnit) (u w : AccessUnit) → AreMoved wire base us → slice_get us k ≡ Some u → slice_get wire k ≡ Some w →
    (on_wire (u.dts + base) ≡ on_wire w.dts) × (on_wire (u.pts + base) ≡ on_wire w.pts)
stamps_of_unit base k wire us u w moved here there =
    let law = moved_by_one base None wire in
    let at : slice_get (moved_units base None wire) k ≡ Some u = sym (ap (λ l. slice_get l k) moved.are) ∙ here in (
      mapped_alike (λ (x : AccessUnit). on_wire (x.dts + base)) (λ (x : AccessUnit). on_wire x.dts) (moved_units base None wire) wire k u w law.0 at there,
      mapped_alike (λ (x : AccessUnit). on_wire (x.pts + base)) (λ (x : AccessUnit). on_wire x.pts) (moved_units base None wire) wire k u w law.1 at there,
    )

pub distances_of : (options : JobOptionsView) (findings : List FindingView) (input : JobInputView) → HasConstants options findings input →
    KeepDistances options.make_dts findings input
distances_of options findings input has i j k l t s one other wire_one wire_other t_is s_is same one_is other_is wire_one_is wire_other_is =
    let P = λ (t : TimedStreamView). IsMovedBy options.make_dts findings (has.constant (clock_of input.programs t)) t in
    let base = has.constant (clock_of input.programs t) in
    let first = element P input.streams i t has.streams t_is in
    let second = subst (λ (n : ℕ). AreMoved (found_of options.make_dts findings s) n s.units) (sym (ap has.constant same))
    (element P input.streams j s has.streams s_is) in
    let stamps = stamps_of_unit base k (found_of options.make_dts findings t) t.units one wire_one first one_is wire_one_is in
    let others = stamps_of_unit base l (found_of options.make_dts findings s) s.units other wire_other second other_is wire_other_is in
    record {
      dts = apart base one.dts other.dts wire_one.dts wire_other.dts stamps.0 others.0;
      pts = apart base one.pts other.pts wire_one.pts wire_other.pts stamps.1 others.1;
    }

-- 5. The result of a call

pub constants_answered : (options : JobOptionsView) (count : ℕ) (findings : List FindingView) (r : Result JobInputView JobError) →
    Answers (job_input options count findings) r → IfOk r (HasConstants options findings)
unfolding Answers
constants_answered options count findings (Ok input) is = constants_of options count findings input is
constants_answered options count findings (Err error) is = tt

pub distances_answered : (options : JobOptionsView) (count : ℕ) (findings : List FindingView) (r : Result JobInputView JobError) →
    Answers (job_input options count findings) r → IfOk r (KeepDistances options.make_dts findings)
unfolding Answers
distances_answered options count findings (Ok input) is = distances_of options findings input (constants_of options count findings input is)
distances_answered options count findings (Err error) is = tt
