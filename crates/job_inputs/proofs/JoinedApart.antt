-- The numbers and the PIDs of joined inputs differ from each other.
use Rattle.std.proofs.Common.{◌≡◌, ◌∙◌, ℕ, ◌+◌, nat_eq, List, [], ◌∷◌, ◌++◌, map, zip, append_assoc, length, Option, Some, None, Ok, All, refl, sym, ap, subst}
use Rattle.std.specs.Prelude.{ok_or, option_map}
use Rattle.std.specs.Cmp.{nat_eq_equiv}
use Rattle.std.specs.List.{IsDistinct}
use Rattle.std.specs.List.Sorted.{IsPermutation}
use Rattle.std.proofs.lemmas.List.{map-append}
use Rattle.std.proofs.lemmas.List.Elements.{All-head, All-tail}
use Rattle.std.proofs.lemmas.List.Sorted.{IsPermutation-append_comm, IsPermutation-append_left, IsPermutation-append_right, IsPermutation-trans}
use Rattle.std.proofs.lemmas.Map.Keys.{IsDistinct-IsPermutation}
use Rattle.std.proofs.lemmas.Option.{option_and_then_some}
use Rattle.job_inputs.specs.JobInput.{JobInputView}
use Rattle.job_programs.specs.JobPrograms.{JobProgramView}
use Rattle.job_programs.specs.JobStreams.{TimedStreamView}
use Rattle.job_programs.specs.JobTables.{JobTableView}
use Rattle.job_inputs.specs.JoinedInputs.{JoinedInputsView, first_input, joined, with_input, with_inputs, with_renumbered, within_limits}
use Rattle.job_inputs.specs.NewNumbers.{becomes, new_number, new_numbers, places_of}
use Rattle.job_inputs.specs.NumbersApart.{AreApart, JoinedAreApart}
use Rattle.job_inputs.specs.RenumberedInputs.{RenumberingView, all_pids, new_pids, new_programs, program_numbers, program_with, renumbered, renumbering_of}
use Rattle.job_inputs.specs.RenumberedInputs.{renumbering_with, stream_with, table_with}
use Rattle.job_units.specs.Declarations.{too_many}
use Rattle.job_inputs.specs.declared.new_numbers.NewNumber.{NewNumber}
use Rattle.job_programs.specs.declared.refusal.JobRefusal.TheVariants as refusals
use Rattle.job_inputs.proofs.JoinedStreams.{some_of}
use Rattle.job_inputs.proofs.NewNumbersApart.{places_apart}
use Rattle.job_inputs.proofs.NewNumbersBecome.{as_many, become_places}
use Rattle.job_programs.proofs.Steps.{comes, granted, same_value}

-- 1. The numbers of an input and the numbers before it

given_apart : (least : ℕ) (before own : List ℕ) (places : Option (List ℕ)) (numbers : List NewNumber) → places_of least before own ≡ places →
    option_map (λ given. map new_number (zip own given)) places ≡ Some numbers → IsDistinct nat_eq before → IsDistinct nat_eq own →
    IsDistinct nat_eq (before ++ map (becomes numbers) own)
given_apart least before own None numbers are is before_apart own_apart = absurd (let no : ⊥ = cc in no)
given_apart least before own (Some places) numbers are is before_apart own_apart =
    let same : map new_number (zip own places) ≡ numbers = cc in
    let become = become_places own places own_apart (as_many least before own places are) in
    let given : places ≡ map (becomes numbers) own = sym become ∙ ap (λ (ns : List NewNumber). map (becomes ns) own) same in
    subst (λ (l : List ℕ). IsDistinct nat_eq (before ++ l)) given (places_apart least before own places before_apart own_apart are)

numbers_apart : (least : ℕ) (before own : List ℕ) (numbers : List NewNumber) → new_numbers least before own ≡ Some numbers → IsDistinct nat_eq before →
    IsDistinct nat_eq own →
    IsDistinct nat_eq (before ++ map (becomes numbers) own)
numbers_apart least before own numbers is before_apart own_apart =
    given_apart least before own (places_of least before own) numbers refl is before_apart own_apart

-- 2. PIDs in another order

between : {X : Type 0} (a b c d : List X) → IsPermutation ((a ++ b) ++ (c ++ d)) ((a ++ c) ++ (b ++ d))
between {X} a b c d =
    let one : (a ++ b) ++ (c ++ d) ≡ a ++ ((b ++ c) ++ d) = append_assoc a b (c ++ d) ∙ ap (λ (l : List X). a ++ l) (sym (append_assoc b c d)) in
    let other : (a ++ c) ++ (b ++ d) ≡ a ++ ((c ++ b) ++ d) = append_assoc a c (b ++ d) ∙ ap (λ (l : List X). a ++ l) (sym (append_assoc c b d)) in
    subst (λ (l : List X). IsPermutation l ((a ++ c) ++ (b ++ d))) (sym one)
    (subst (λ (l : List X). IsPermutation (a ++ ((b ++ c) ++ d)) l) (sym other)
    (IsPermutation-append_right a ((b ++ c) ++ d) ((c ++ b) ++ d) (IsPermutation-append_left d (b ++ c) (c ++ b) (IsPermutation-append_comm b c))))

-- The maps, streams and clock references of two inputs are a permutation of the joined maps, streams and clock references.
three : {X : Type 0} (a b c x y z : List X) → IsPermutation (((a ++ b) ++ c) ++ ((x ++ y) ++ z)) (((a ++ x) ++ (b ++ y)) ++ (c ++ z))
three a b c x y z =
    IsPermutation-trans (((a ++ b) ++ c) ++ ((x ++ y) ++ z)) (((a ++ b) ++ (x ++ y)) ++ (c ++ z)) (((a ++ x) ++ (b ++ y)) ++ (c ++ z))
    (between (a ++ b) c (x ++ y) z) (IsPermutation-append_left (c ++ z) ((a ++ b) ++ (x ++ y)) ((a ++ x) ++ (b ++ y)) (between a b x y))

-- With private sections this is true too.
four : {X : Type 0} (a b d c x y w z : List X) →
    IsPermutation (((a ++ (b ++ d)) ++ c) ++ ((x ++ (y ++ w)) ++ z)) (((a ++ x) ++ ((b ++ y) ++ (d ++ w))) ++ (c ++ z))
four a b d c x y w z =
    IsPermutation-trans (((a ++ (b ++ d)) ++ c) ++ ((x ++ (y ++ w)) ++ z)) (((a ++ x) ++ ((b ++ d) ++ (y ++ w))) ++ (c ++ z))
    (((a ++ x) ++ ((b ++ y) ++ (d ++ w))) ++ (c ++ z))
    (three a (b ++ d) c x (y ++ w) z)
    (IsPermutation-append_left (c ++ z) ((a ++ x) ++ ((b ++ d) ++ (y ++ w))) ((a ++ x) ++ ((b ++ y) ++ (d ++ w)))
    (IsPermutation-append_right (a ++ x) ((b ++ d) ++ (y ++ w)) ((b ++ y) ++ (d ++ w)) (between b d y w)))

distinct_four : (a b d c x y w z : List ℕ) → IsDistinct nat_eq (((a ++ (b ++ d)) ++ c) ++ ((x ++ (y ++ w)) ++ z)) →
    IsDistinct nat_eq (((a ++ x) ++ ((b ++ y) ++ (d ++ w))) ++ (c ++ z))
distinct_four a b d c x y w z =
    IsDistinct-IsPermutation nat_eq nat_eq_equiv.symm (((a ++ (b ++ d)) ++ c) ++ ((x ++ (y ++ w)) ++ z)) (((a ++ x) ++ ((b ++ y) ++ (d ++ w))) ++ (c ++ z))
    (four a b d c x y w z)

-- 3. The numbers of an input after renumbering

numbers_with : (r : RenumberingView) (programs : List JobProgramView) →
    map (λ p. p.number) (map (program_with r) programs) ≡ map (becomes r.programs) (map (λ p. p.number) programs)
unfolding program_with
numbers_with r [] = refl
numbers_with r (p ∷ ps) = ap (λ (l : List ℕ). becomes r.programs p.number ∷ l) (numbers_with r ps)

maps_with : (r : RenumberingView) (programs : List JobProgramView) →
    map (λ p. p.map_pid) (map (program_with r) programs) ≡ map (becomes r.pids) (map (λ p. p.map_pid) programs)
unfolding program_with
maps_with r [] = refl
maps_with r (p ∷ ps) = ap (λ (l : List ℕ). becomes r.pids p.map_pid ∷ l) (maps_with r ps)

clocks_with : (r : RenumberingView) (programs : List JobProgramView) →
    map (λ p. p.pcr_pid) (map (program_with r) programs) ≡ map (becomes r.pids) (map (λ p. p.pcr_pid) programs)
unfolding program_with
clocks_with r [] = refl
clocks_with r (p ∷ ps) = ap (λ (l : List ℕ). becomes r.pids p.pcr_pid ∷ l) (clocks_with r ps)

streams_with : (r : RenumberingView) (streams : List TimedStreamView) →
    map (λ s. s.pid) (map (stream_with r) streams) ≡ map (becomes r.pids) (map (λ s. s.pid) streams)
unfolding stream_with
streams_with r [] = refl
streams_with r (s ∷ ss) = ap (λ (l : List ℕ). becomes r.pids s.pid ∷ l) (streams_with r ss)

tables_with : (r : RenumberingView) (tables : List JobTableView) → map (λ t. t.pid) (map (table_with r) tables) ≡ map (becomes r.pids) (map (λ t. t.pid) tables)
unfolding table_with
tables_with r [] = refl
tables_with r (t ∷ ts) = ap (λ (l : List ℕ). becomes r.pids t.pid ∷ l) (tables_with r ts)

programs_then : (r : RenumberingView) (one more : List JobProgramView) →
    map (λ p. p.number) (one ++ map (program_with r) more) ≡ map (λ p. p.number) one ++ map (becomes r.programs) (map (λ p. p.number) more)
programs_then r one more = map-append (λ p. p.number) one (map (program_with r) more) ∙ ap (λ (l : List ℕ). map (λ p. p.number) one ++ l) (numbers_with r more)

maps_then : (r : RenumberingView) (one more : List JobProgramView) →
    map (λ p. p.map_pid) (one ++ map (program_with r) more) ≡ map (λ p. p.map_pid) one ++ map (becomes r.pids) (map (λ p. p.map_pid) more)
maps_then r one more = map-append (λ p. p.map_pid) one (map (program_with r) more) ∙ ap (λ (l : List ℕ). map (λ p. p.map_pid) one ++ l) (maps_with r more)

clocks_then : (r : RenumberingView) (one more : List JobProgramView) →
    map (λ p. p.pcr_pid) (one ++ map (program_with r) more) ≡ map (λ p. p.pcr_pid) one ++ map (becomes r.pids) (map (λ p. p.pcr_pid) more)
clocks_then r one more = map-append (λ p. p.pcr_pid) one (map (program_with r) more) ∙ ap (λ (l : List ℕ). map (λ p. p.pcr_pid) one ++ l) (clocks_with r more)

streams_then : (r : RenumberingView) (one more : List TimedStreamView) →
    map (λ s. s.pid) (one ++ map (stream_with r) more) ≡ map (λ s. s.pid) one ++ map (becomes r.pids) (map (λ s. s.pid) more)
streams_then r one more = map-append (λ s. s.pid) one (map (stream_with r) more) ∙ ap (λ (l : List ℕ). map (λ s. s.pid) one ++ l) (streams_with r more)

tables_then : (r : RenumberingView) (one more : List JobTableView) →
    map (λ t. t.pid) (one ++ map (table_with r) more) ≡ map (λ t. t.pid) one ++ map (becomes r.pids) (map (λ t. t.pid) more)
tables_then r one more = map-append (λ t. t.pid) one (map (table_with r) more) ∙ ap (λ (l : List ℕ). map (λ t. t.pid) one ++ l) (tables_with r more)

-- 4. One more input

pids_mapped : (f : ℕ → ℕ) (a b d c : List ℕ) → map f ((a ++ (b ++ d)) ++ c) ≡ (map f a ++ (map f b ++ map f d)) ++ map f c
pids_mapped f a b d c =
    map-append f (a ++ (b ++ d)) c ∙ ap (λ (l : List ℕ). l ++ map f c) (map-append f a (b ++ d) ∙ ap (λ (l : List ℕ). map f a ++ l) (map-append f b d))

next_apart : (j : JoinedInputsView) (m : JobInputView) (r : RenumberingView) → AreApart j.input → AreApart m → new_programs j.input m ≡ Some r.programs →
    new_pids j.input m ≡ Some r.pids →
    AreApart (with_renumbered j m r).input
unfolding with_renumbered joined renumbered
next_apart j m r before own programs pids =
    let maps = map (λ p. p.map_pid) j.input.programs in
    let found = map (λ s. s.pid) j.input.streams in
    let sections = map (λ t. t.pid) j.input.tables in
    let clocks = map (λ p. p.pcr_pid) j.input.programs in
    let new_maps = map (becomes r.pids) (map (λ p. p.map_pid) m.programs) in
    let new_found = map (becomes r.pids) (map (λ s. s.pid) m.streams) in
    let new_sections = map (becomes r.pids) (map (λ t. t.pid) m.tables) in
    let new_clocks = map (becomes r.pids) (map (λ p. p.pcr_pid) m.programs) in
    let apart = numbers_apart 32 (all_pids j.input) (all_pids m) r.pids pids before.pids own.pids in
    let split : IsDistinct nat_eq (((maps ++ (found ++ sections)) ++ clocks) ++ ((new_maps ++ (new_found ++ new_sections)) ++ new_clocks)) =
    subst (λ (l : List ℕ). IsDistinct nat_eq (((maps ++ (found ++ sections)) ++ clocks) ++ l))
    (pids_mapped (becomes r.pids) (map (λ p. p.map_pid) m.programs) (map (λ s. s.pid) m.streams) (map (λ t. t.pid) m.tables) (map (λ p. p.pcr_pid) m.programs))
    apart in
    record {
      programs = subst (λ (l : List ℕ). IsDistinct nat_eq l) (sym (programs_then r j.input.programs m.programs))
          (numbers_apart 1 (program_numbers j.input) (program_numbers m) r.programs programs before.programs own.programs);
      pids =
          rw (
            maps_then r j.input.programs m.programs,
            streams_then r j.input.streams m.streams,
            tables_then r j.input.tables m.tables,
            clocks_then r j.input.programs m.programs,
          )
          (distinct_four maps found sections clocks new_maps new_found new_sections new_clocks split);
    }

record AreNumbers (before m : JobInputView) (r : RenumberingView) : Type 0 where
  programs : new_programs before m ≡ Some r.programs
  pids : new_pids before m ≡ Some r.pids

with_both : (number : ℕ) (before m : JobInputView) (programs : List NewNumber) (pids : Option (List NewNumber)) (r : RenumberingView) →
    new_programs before m ≡ Some programs →
    new_pids before m ≡ pids → renumbering_with number programs pids ≡ Some r → AreNumbers before m r
unfolding renumbering_with
with_both number before m programs None r first second is = absurd (let no : ⊥ = cc in no)
with_both number before m programs (Some ps) r first second is =
    let same : (let x : RenumberingView = record { input = number; programs = programs; pids = ps } in x) ≡ r = cc in
    record {
      programs = first ∙ ap (λ (x : RenumberingView). Some x.programs) same;
      pids = second ∙ ap (λ (x : RenumberingView). Some x.pids) same;
    }

its_numbers : (number : ℕ) (before m : JobInputView) (r : RenumberingView) → renumbering_of number before m ≡ Some r → AreNumbers before m r
unfolding renumbering_of
its_numbers number before m r is =
    option_and_then_some (λ (programs : List NewNumber). renumbering_with number programs (new_pids before m)) (new_programs before m) r is
    (λ programs at rest. with_both number before m programs (new_pids before m) r at refl rest)

one_more : (number : ℕ) (j : JoinedInputsView) (m : JobInputView) (more : JoinedInputsView) → with_input number j m ≡ Ok more → AreApart j.input → AreApart m →
    AreApart more.input
unfolding with_input within_limits
one_more number j m more is before own =
    let made = comes (λ r. within_limits (with_renumbered j m r)) (ok_or (renumbering_of number j.input m) refusals.Pids) more is in
    let all = with_renumbered j m made.value in
    let same : all ≡ more = same_value all more (granted (too_many (length all.input.programs) (length all.input.streams)) (Ok all) more made.last_is) in
    let numbers = its_numbers number j.input m made.value (some_of (renumbering_of number j.input m) made.value refusals.Pids made.first_is) in
    subst (λ (x : JoinedInputsView). AreApart x.input) same (next_apart j m made.value before own numbers.programs numbers.pids)

-- 5. All inputs

all_apart : (number : ℕ) (j : JoinedInputsView) (ms : List JobInputView) (all : JoinedInputsView) → with_inputs number j ms ≡ Ok all → AreApart j.input →
    All AreApart ms → AreApart all.input
unfolding with_inputs
all_apart number j [] all is before each = subst (λ (x : JoinedInputsView). AreApart x.input) (same_value j all is) before
all_apart number j (m ∷ ms) all is before each =
    let next = comes (λ more. with_inputs (number + 1) more ms) (with_input number j m) all is in
    all_apart (number + 1) next.value ms all next.last_is (one_more number j m next.value next.first_is before (All-head AreApart m ms each))
    (All-tail AreApart m ms each)

first_apart : (m : JobInputView) → AreApart m → AreApart (first_input m).input
unfolding first_input
first_apart m apart = apart

pub joined_apart : JoinedAreApart
joined_apart first more j each is =
    all_apart 1 (first_input first) more j is (first_apart first (All-head AreApart first more each)) (All-tail AreApart first more each)
