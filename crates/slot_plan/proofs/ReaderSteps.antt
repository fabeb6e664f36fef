-- The reader of a list continues after the elements that are already read.
use Rattle.std.specs.Prelude.{ℕ, suc, ◌+◌, ◌-◌, ◌<◌, List, [], ◌∷◌, ◌++◌, Option, None, Some, Result, Ok, Err, option_map}
use Rattle.std.proofs.Common.{◌≡◌, refl, ap, sym, ◌∙◌, append_assoc, add-one, arith, true, false}
use Rattle.std.proofs.lemmas.List.{append-nil}
use Rattle.slot_plan.specs.declared.slot.Slot.{Slot}
use Rattle.slot_plan.specs.declared.certificate.StreamEntry.{StreamEntry}
use Rattle.slot_plan.specs.declared.certificate.ProgramEntry.{ProgramEntry}
use Rattle.slot_plan.specs.Text.{slot_ending}
use Rattle.slot_plan.specs.Readers.{with_first, continued, begins_with, slot_at, slots_at, line_of_slot, stream_at, streams_at, program_at, programs_at}

-- A result that begins with these elements
abbrev pub with_all : {X : Type 0} → List X → Result (List X × List ℕ) ℕ → Result (List X × List ℕ) ℕ
with_all xs (Ok r) = Ok (xs ++ r.0, r.1)
with_all xs (Err line) = Err line

pub one_more : {X : Type 0} (xs : List X) (x : X) (r : Result (List X × List ℕ) ℕ) → with_all xs (with_first x r) ≡ with_all (xs ++ x ∷ []) r
one_more xs x (Ok r) = ap (λ l. Ok (l, r.1)) (sym (append_assoc xs (x ∷ []) r.0))
one_more xs x (Err line) = refl

pub from_none : {X : Type 0} (r : Result (List X × List ℕ) ℕ) → r ≡ with_all [] r
from_none (Ok r) = refl
from_none (Err line) = refl

-- One more element is read.
pub read_more : {X : Type 0} (pre : List X) (line : ℕ) (next : List ℕ → Result (List X × List ℕ) ℕ) (o : Option (X × List ℕ)) (x : X) (rest : List ℕ) →
    o ≡ Some (x, rest) → with_all pre (continued line next o) ≡ with_all (pre ++ x ∷ []) (next rest)
read_more pre line next o x rest e = rw e (one_more pre x (next rest))

-- No element is read.
pub read_none : {X : Type 0} (pre : List X) (line : ℕ) (next : List ℕ → Result (List X × List ℕ) ℕ) (o : Option (X × List ℕ)) →
    o ≡ None → with_all pre (continued line next o) ≡ Err line
read_none pre line next o e = rw e refl

-- A reader's result, seen as a slot or an entry and a list
pub is_some_read : {X R : Type 0} (view : R → X × List ℕ) (o : Option R) (expected : Option (X × List ℕ)) (r : R) →
    option_map view o ≡ expected → o ≡ Some r → expected ≡ Some (view r)
is_some_read view o expected r e is = sym e ∙ ap (option_map view) is

pub is_none_read : {X R : Type 0} (view : R → X × List ℕ) (o : Option R) (expected : Option (X × List ℕ)) →
    option_map view o ≡ expected → o ≡ None → expected ≡ None
is_none_read view o expected e is = sym e ∙ ap (option_map view) is

-- Slot number i of n is read.
pub slot_more : (n i : ℕ) (xs rest : List ℕ) (pre : List Slot) (s : Slot) → i < n → slot_at (slot_ending n i) xs ≡ Some (s, rest) →
    with_all pre (slots_at n (n - i) xs) ≡ with_all (pre ++ s ∷ []) (slots_at n (n - (i + 1)) rest)
slot_more n i xs rest pre s lt e =
    let a : n - i ≡ suc (n - (i + 1)) = omega arith in
    let b : n - suc (n - (i + 1)) ≡ i = omega arith in
    rw (a, b) (read_more pre (line_of_slot i) (slots_at n (n - (i + 1))) (slot_at (slot_ending n i) xs) s rest e)

-- No slot is found at place i.
pub slot_none : (n i : ℕ) (xs : List ℕ) (pre : List Slot) → i < n → slot_at (slot_ending n i) xs ≡ None →
    with_all pre (slots_at n (n - i) xs) ≡ Err (line_of_slot i)
slot_none n i xs pre lt e =
    let a : n - i ≡ suc (n - (i + 1)) = omega arith in
    let b : n - suc (n - (i + 1)) ≡ i = omega arith in
    rw (a, b) (read_none pre (line_of_slot i) (slots_at n (n - (i + 1))) (slot_at (slot_ending n i) xs) e)

-- Stream entry number k is read.
pub stream_more : (line k : ℕ) (xs rest : List ℕ) (pre : List StreamEntry) (e : StreamEntry) → k < 256 → begins_with 115 xs ≡ true →
    stream_at k xs ≡ Some (e, rest) →
    with_all pre (streams_at (256 - k) line k xs) ≡ with_all (pre ++ e ∷ []) (streams_at (256 - (k + 1)) line (k + 1) rest)
unfolding streams_at
stream_more line k xs rest pre e lt begins is =
    let a : 256 - k ≡ suc (256 - suc k) = omega arith in
    rw (add-one k, a, begins) (read_more pre (line + k) (streams_at (256 - suc k) line (suc k)) (stream_at k xs) e rest is)

-- The line of stream entry number k is bad.
pub stream_none : (line k : ℕ) (xs : List ℕ) (pre : List StreamEntry) → k < 256 → begins_with 115 xs ≡ true → stream_at k xs ≡ None →
    with_all pre (streams_at (256 - k) line k xs) ≡ Err (line + k)
unfolding streams_at
stream_none line k xs pre lt begins is =
    let a : 256 - k ≡ suc (256 - (k + 1)) = omega arith in
    rw (a, begins) (read_none pre (line + k) (streams_at (256 - (k + 1)) line (suc k)) (stream_at k xs) is)

-- The stream entries end.
pub streams_end : (line k : ℕ) (xs : List ℕ) (pre : List StreamEntry) → k < 256 → begins_with 115 xs ≡ false →
    with_all pre (streams_at (256 - k) line k xs) ≡ Ok (pre, xs)
unfolding streams_at
streams_end line k xs pre lt begins =
    let a : 256 - k ≡ suc (256 - (k + 1)) = omega arith in
    rw (a, begins, append-nil) refl

-- Program entry number k is read.
pub program_more : (line k : ℕ) (xs rest : List ℕ) (pre : List ProgramEntry) (e : ProgramEntry) → k < 256 → begins_with 112 xs ≡ true →
    program_at k xs ≡ Some (e, rest) →
    with_all pre (programs_at (256 - k) line k xs) ≡ with_all (pre ++ e ∷ []) (programs_at (256 - (k + 1)) line (k + 1) rest)
unfolding programs_at
program_more line k xs rest pre e lt begins is =
    let a : 256 - k ≡ suc (256 - suc k) = omega arith in
    rw (add-one k, a, begins) (read_more pre (line + k) (programs_at (256 - suc k) line (suc k)) (program_at k xs) e rest is)

-- The line of program entry number k is bad.
pub program_none : (line k : ℕ) (xs : List ℕ) (pre : List ProgramEntry) → k < 256 → begins_with 112 xs ≡ true → program_at k xs ≡ None →
    with_all pre (programs_at (256 - k) line k xs) ≡ Err (line + k)
unfolding programs_at
program_none line k xs pre lt begins is =
    let a : 256 - k ≡ suc (256 - (k + 1)) = omega arith in
    rw (a, begins) (read_none pre (line + k) (programs_at (256 - (k + 1)) line (suc k)) (program_at k xs) is)

-- The program entries end.
pub programs_end : (line k : ℕ) (xs : List ℕ) (pre : List ProgramEntry) → k < 256 → begins_with 112 xs ≡ false →
    with_all pre (programs_at (256 - k) line k xs) ≡ Ok (pre, xs)
unfolding programs_at
programs_end line k xs pre lt begins =
    let a : 256 - k ≡ suc (256 - (k + 1)) = omega arith in
    rw (a, begins, append-nil) refl

-- All stream entries are read.
pub streams_full : (line : ℕ) (xs : List ℕ) (pre : List StreamEntry) → with_all pre (streams_at (256 - 256) line 256 xs) ≡ Ok (pre, xs)
unfolding streams_at
streams_full line xs pre = rw append-nil refl

-- All program entries are read.
pub programs_full : (line : ℕ) (xs : List ℕ) (pre : List ProgramEntry) → with_all pre (programs_at (256 - 256) line 256 xs) ≡ Ok (pre, xs)
unfolding programs_at
programs_full line xs pre = rw append-nil refl
