-- Streams with their units, one after another
use Rattle.std.proofs.Common.{◌≡◌, ◌∙◌, ◌++◌, ◌&&◌, ◌||◌, not, refl, sym, ap, subst, ℕ, Bool, true, false, if◌then◌else◌, List, [], ◌∷◌, flat_map, length, map}
use Rattle.std.proofs.Common.{Option, Some, None, option_map, Result, Ok, Err, All}
use Rattle.std.specs.Prelude.{option_to_list}
use Rattle.std.proofs.lemmas.List.{append_assoc, append-nil}
use Rattle.std.proofs.lemmas.List.Elements.{All-nil, All-cons, All-append}
use Rattle.pid_findings.specs.Views.{FindingView}
use Rattle.stream_programs.specs.Streams.{FoundStreamView}
use Rattle.es_moments.specs.ApartUnits.{apart_units}
use Rattle.es_units.specs.CarriedUnits.{carried_units}
use Rattle.es_moments.specs.MadeDts.{made_units}
use Rattle.es_moments.specs.RisingDts.{dts_are_made}
use Rattle.es_moments.specs.Stamps.{first_fault}
use Rattle.es_moments.proofs.RisingDts.{rising_made, rising_own, sound_keep}
use Rattle.stream_coding.specs.Codings.{is_ac3}
use Rattle.job_programs.specs.declared.refusal.JobRefusal.{JobRefusal}
use Rattle.job_programs.specs.Answers.{and_then}
use Rattle.job_programs.specs.FoundUnits.{source_of, IsCarried}
use Rattle.job_programs.specs.JobOptions.{JobOptionsView}
use Rattle.job_units.specs.Moments.{pts_limit_of, stamps_refusal, wire_of}
use Rattle.job_units.specs.OddStreams.{first_odd, odd_bytes, odd_stamps, odd_stream, own_base}
use Rattle.job_units.specs.WireStreams.{carried_stream, carried_streams, common_id, dts_refusal, found_stream, is_written, kept_stream, makes_dts}
use Rattle.job_units.specs.WireStreams.{makes_itself, stream_if_any, stream_of, unless_odd, with_stamps, with_units}
use Rattle.job_programs.proofs.Steps.{granted, comes}
use Rattle.job_programs.specs.JobStreams.{WireStreamView}
use Rattle.es_moments.specs.WireUnits.{CarriedUnit}

-- 1. Results of one computation

ok_same : {A : Type 0} (x y : A) (one : Result A JobRefusal) → one ≡ Ok x → one ≡ Ok y → x ≡ y
ok_same x y one is there = cc

-- A property of a stream, if it is not odd, is a property of each stream that is kept.
unless_carried : (P : WireStreamView → Type 0) (odd : Option JobRefusal) (w : WireStreamView) → (odd ≡ None → P w) → All P (option_to_list (unless_odd odd w))
unfolding unless_odd
unless_carried P None w holds = All-cons P w [] (holds refl) (All-nil P)
unless_carried P (Some why) w holds = All-nil P

first_none : (one other : Option JobRefusal) → first_odd one other ≡ None → one ≡ None
unfolding first_odd
first_none None other none = refl
first_none (Some why) other none = absurd (let no : ⊥ = cc in no)

map_none : {A B : Type 0} (f : A → B) (o : Option A) → option_map f o ≡ None → o ≡ None
map_none f None none = refl
map_none f (Some x) none = absurd (let no : ⊥ = cc in no)

-- The stamps of a stream that is not odd can be moments.
sound_stamps : (options : JobOptionsView) (findings : List FindingView) (w : WireStreamView) → odd_stream options findings w ≡ None →
    first_fault (pts_limit_of w.stream_type w.descriptors) (own_base w) None 0 (wire_of w) ≡ None
unfolding odd_stream odd_stamps
sound_stamps options findings w even =
    map_none (stamps_refusal findings w.pid) (first_fault (pts_limit_of w.stream_type w.descriptors) (own_base w) None 0 (wire_of w))
    (first_none (odd_stamps findings w) (odd_bytes options w) even)

-- 2. The units of a stream are the units found on its PID

made_value : (pid : ℕ) (cs us : List CarriedUnit) → with_stamps true pid cs ≡ Ok us → us ≡ made_units cs
unfolding with_stamps
made_value pid cs us is =
    sym (ok_same (made_units cs) us (Ok (made_units cs)) refl (granted (dts_refusal pid cs) (Ok (made_units cs)) us is))

own_value : (pid : ℕ) (cs us : List CarriedUnit) → with_stamps false pid cs ≡ Ok us → us ≡ apart_units cs
unfolding with_stamps
own_value pid cs us is = sym (ok_same (apart_units cs) us (Ok (apart_units cs)) refl is)

by_flags : (made strict are : Bool) (pid : ℕ) (findings : List FindingView) (us : List CarriedUnit) → dts_are_made (carried_units pid findings) ≡ are →
    with_stamps (made || (not (made || strict) && are)) pid (carried_units pid findings) ≡ Ok us →
    (us ≡ apart_units (carried_units pid findings) → dts_are_made (carried_units pid findings) ≡ false) → us ≡ source_of made pid findings
unfolding source_of
by_flags true strict are pid findings us so is own = made_value pid (carried_units pid findings) us is
by_flags false false true pid findings us so is own =
    made_value pid (carried_units pid findings) us is ∙ sym (rising_made (carried_units pid findings) so)
by_flags false false false pid findings us so is own =
    own_value pid (carried_units pid findings) us is ∙ sym (rising_own (carried_units pid findings) so)
by_flags false true are pid findings us so is own =
    let same = own_value pid (carried_units pid findings) us is in
    same ∙ sym (rising_own (carried_units pid findings) (own same))

stamped_units : (options : JobOptionsView) (pid limit base : ℕ) (findings : List FindingView) (us : List CarriedUnit) →
    with_stamps (makes_dts options (carried_units pid findings)) pid (carried_units pid findings) ≡ Ok us →
    first_fault limit base None 0 (map (λ u. u.unit) us) ≡ None → us ≡ source_of options.make_dts pid findings
unfolding makes_dts makes_itself
stamped_units options pid limit base findings us is sound =
    by_flags options.make_dts options.strict (dts_are_made (carried_units pid findings)) pid findings us refl is
    (λ same. sound_keep limit base 0 (carried_units pid findings)
    (subst (λ (l : List CarriedUnit). first_fault limit base None 0 (map (λ (u : CarriedUnit). u.unit) l) ≡ None) same sound))

one_carried : (options : JobOptionsView) (findings : List FindingView) (s : FoundStreamView) (w : WireStreamView) →
    stream_of (makes_dts options (carried_units s.pid findings)) s (carried_units s.pid findings) ≡ Ok w → odd_stream options findings w ≡ None →
    IsCarried options.make_dts findings w
unfolding stream_of with_units
one_carried options findings s w is even =
    let made = makes_dts options (carried_units s.pid findings) in
    let id = comes (λ id. and_then (λ us. Ok (with_units s id us)) (with_stamps made s.pid (carried_units s.pid findings)))
    (common_id s.pid (is_ac3 s.stream_type s.descriptors) (carried_units s.pid findings)) w is in
    let us = comes (λ us. Ok (with_units s id.value us)) (with_stamps made s.pid (carried_units s.pid findings)) w id.last_is in
    let same = ok_same (with_units s id.value us.value) w (Ok (with_units s id.value us.value)) refl us.last_is in
    let units : w.units ≡ us.value = ap (λ (x : WireStreamView). x.units) (sym same) in
    let sound = subst
    (λ (l : List CarriedUnit). first_fault (pts_limit_of w.stream_type w.descriptors) (own_base w) None 0 (map (λ (u : CarriedUnit). u.unit) l) ≡ None)
    units (sound_stamps options findings w even) in
    rw (sym same)
    (stamped_units options s.pid (pts_limit_of w.stream_type w.descriptors) (own_base w) findings us.value us.first_is sound)

-- A stream that is kept is the stream that the tables give.
kept_carried : (options : JobOptionsView) (findings : List FindingView) (s : FoundStreamView) (r : Result WireStreamView JobRefusal) →
    ((w : WireStreamView) → r ≡ Ok w → odd_stream options findings w ≡ None → IsCarried options.make_dts findings w) →
    All (IsCarried options.make_dts findings) (option_to_list (kept_stream options findings (and_then (λ w. Ok (Some w)) r)))
unfolding kept_stream and_then
kept_carried options findings s (Err why) holds = All-nil (IsCarried options.make_dts findings)
kept_carried options findings s (Ok w) holds = unless_carried (IsCarried options.make_dts findings) (odd_stream options findings w) w (holds w refl)

stream_carried : (options : JobOptionsView) (findings : List FindingView) (s : FoundStreamView) (can : Bool) →
    All (IsCarried options.make_dts findings)
    (option_to_list (kept_stream options findings (if can then and_then (λ w. Ok (Some w))
    (stream_of (makes_dts options (carried_units s.pid findings)) s (carried_units s.pid findings)) else Ok None)))
unfolding kept_stream
stream_carried options findings s false = All-nil (IsCarried options.make_dts findings)
stream_carried options findings s true =
    kept_carried options findings s (stream_of (makes_dts options (carried_units s.pid findings)) s (carried_units s.pid findings))
    (one_carried options findings s)

pub all_carried : (options : JobOptionsView) (findings : List FindingView) (ss : List FoundStreamView) →
    All (IsCarried options.make_dts findings) (carried_streams options findings ss)
unfolding carried_stream found_stream stream_if_any
all_carried options findings [] = All-nil (IsCarried options.make_dts findings)
all_carried options findings (s ∷ ss) =
    All-append (IsCarried options.make_dts findings) (carried_stream options findings s) (carried_streams options findings ss)
    (stream_carried options findings s (is_written s (carried_units s.pid findings))) (all_carried options findings ss)

-- 3. A list that is processed from its front

pub list_more : {A T : Type 0} (f : A → List T) (x : A) (xs : List A) (before after : List T) → after ≡ before ++ f x →
    before ++ flat_map f (x ∷ xs) ≡ after ++ flat_map f xs
list_more f x xs before after is = rw is (sym (append_assoc before (f x) (flat_map f xs)))

pub list_end : {A T : Type 0} (f : A → List T) (rest : List A) (before : List T) → length rest ≡ 0 → before ++ flat_map f rest ≡ before
list_end f [] before none = append-nil before
list_end f (x ∷ xs) before none = absurd cc
