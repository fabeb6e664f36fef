-- The tables' programs and maps while the streams are not known, with more findings
use Rattle.std.proofs.Common.{◌≡◌, ◌∙◌, sym, ◌<◌, ◌≤◌, ℕ, true≢false, ◌+◌, ◌-◌, ◌==◌, ◌&&◌, ◌||◌, Bool, true, false, is_some, List, [], ◌∷◌, ◌++◌, map, take}
use Rattle.std.proofs.Common.{length, get_or, Option, Some, None, refl, ap, arith, subst, length-append}
use Rattle.std.specs.Prelude.{if◌then◌else◌}
use Rattle.std.specs.Option.{option_or}
use Rattle.std.proofs.lemmas.Bool.Decides.{nat_tests}
use Rattle.std.proofs.lemmas.List.{take-append-le, take_all, length-map}
use Rattle.std.proofs.Math.Seq.{take-append_seam}
use Rattle.std.proofs.lemmas.List.Folds.{list_all_more, list_all_at}
use Rattle.psi_tables.specs.ProgramAssociation.{PatView}
use Rattle.psi_tables.specs.ProgramMap.{PmtView}
use Rattle.psi_tables.specs.declared.pat.programs.Program.{Program}
use Rattle.pid_findings.specs.Views.{FindingView}
use Rattle.demux.specs.Stream.{StreamState, start, pushed}
use Rattle.program_tables.specs.Association.{association, first_pat}
use Rattle.program_tables.specs.KnownTables.{KnownView, known_in}
use Rattle.program_tables.specs.ProgramMaps.{program_map}
use Rattle.stream_programs.specs.Programs.{FoundProgramsView, programs_of}
use Rattle.program_tables.proofs.KnownSteps.{named_by, programs_grow, programs_known, version_known}
use Rattle.ts_tables.specs.NamedStreams.{have_maps, streams_by, streams_at}
use Rattle.ts_tables.specs.Mapped.{AreMapped, AreTables, AreUnknown}
use Rattle.ts_tables.proofs.Grows.{grows, map_both}

-- 1. Programs of a table

-- One more program that has a map
pub mapped_more : (found : List FindingView) (ps : List Program) (i : ℕ) (d : Program) → i < length ps → is_some (program_map (get_or ps i d) found) ≡ true →
    have_maps found (take i ps) ≡ true → have_maps found (take (i + 1) ps) ≡ true
mapped_more found ps i d below mapped before =
    list_all_more (λ (program : Program). is_some (program_map program found)) ps i d below ∙ rw (before, mapped) refl

same_length : (n m : ℕ) → n ≡ m → (n == m) ≡ true
same_length n m e = grind (arith, nat_tests)

other_length : (n m : ℕ) → n < m → (n == m) ≡ false
other_length n m e = grind (arith, nat_tests)

pub mapped_all : (found : List FindingView) (ps : List Program) (i : ℕ) → length ps ≤ i → have_maps found (take i ps) ≡ true → AreMapped found ps (length ps)
mapped_all found ps i over before =
    let whole : have_maps found ps ≡ true = ap (have_maps found) (sym (take_all i ps over)) ∙ before in
    record {
      within = omega arith;
      before = ap (have_maps found) (take_all (length ps) ps (omega arith)) ∙ whole;
      all = same_length (length ps) (length ps) refl ∙ sym whole;
    }

pub not_all : (found : List FindingView) (ps : List Program) (i : ℕ) (d : Program) → i < length ps → is_some (program_map (get_or ps i d) found) ≡ false →
    have_maps found (take i ps) ≡ true → AreMapped found ps i
not_all found ps i d below none before = record {
  within = omega (arith, below);
  before = before;
  all = other_length i (length ps) below ∙ sym (list_all_at (λ (program : Program). is_some (program_map program found)) ps i d below none);
}

-- 2. More findings

some_or : (a b : Option PmtView) → is_some b ≡ true → is_some (option_or a b) ≡ true
some_or None b e = e
some_or (Some pmt) b e = refl

both_of : (a b : Bool) → (a && b) ≡ true → (a ≡ true) × (b ≡ true)
both_of true b e = (refl, e)
both_of false b e = absurd (true≢false (sym e))

more_maps : (found more : List FindingView) (ps : List Program) → have_maps found ps ≡ true → have_maps (found ++ more) ps ≡ true
more_maps found more [] all = refl
more_maps found more (p ∷ ps) all =
    let both = both_of (is_some (program_map p found)) (have_maps found ps) all in
    let first : is_some (program_map p (found ++ more)) ≡ true = rw (map_both p found more) (some_or (program_map p more) (program_map p found) both.0) in
    rw first (more_maps found more ps both.1)

-- A program that has a map still has it after more findings.
record StillMapped (found : List FindingView) (mapped : ℕ) : Type 0 where
  within : mapped ≤ length (known_in found).programs
  before : have_maps found (take mapped (known_in found).programs) ≡ true

still_mapped : (tables : KnownView) (found more : List FindingView) (mapped : ℕ) → AreTables tables found mapped → StillMapped (found ++ more) mapped
still_mapped tables found more mapped are =
    let ps : List Program = (known_in found).programs in
    let grown = programs_grow found more in
    let same : tables.programs ≡ ps = ap (λ (known : KnownView). known.programs) are.known in
    let inside : mapped ≤ length ps = subst (λ (l : List Program). mapped ≤ length l) same are.within in
    let had : have_maps found (take mapped ps) ≡ true = subst (λ (l : List Program). have_maps found (take mapped l) ≡ true) same are.before in
    record {
      within = rw grown.is (omega (arith, inside, length-append ps grown.others));
      before = rw (grown.is, take-append-le mapped ps grown.others inside) (more_maps found more (take mapped ps) had);
    }

-- The findings before a packet are the first part of the findings after it.
pub record FirstPart {X : Type 0} (view : X → FindingView) (before after : List X) (tables : KnownView) (mapped : ℕ) : Type 0 where
  pub within : length before ≤ length after
  pub known : tables ≡ known_in (take (length before) (map view after))
  pub still : mapped ≤ length (known_in (map view after)).programs
  pub have : have_maps (map view after) (take mapped (known_in (map view after)).programs) ≡ true

pub first_part : {X : Type 0} (view : X → FindingView) (s t : StreamState) (bytes : List ℕ) (before after : List X) (tables : KnownView) (mapped : ℕ) →
    t ≡ pushed s bytes → map view before ≡ s.found → map view after ≡ t.found → AreTables tables s.found mapped → FirstPart view before after tables mapped
first_part view s t bytes before after tables mapped e b a are =
    let more = grows s bytes in
    let whole : map view after ≡ s.found ++ more.0 = a ∙ ap (λ (x : StreamState). x.found) e ∙ more.1 in
    let n : length before ≡ length s.found = sym (length-map before view) ∙ ap (λ (l : List FindingView). length l) b in
    let long : length (map view after) ≡ length (s.found ++ more.0) = ap (λ (l : List FindingView). length l) whole in
    let front : take (length before) (map view after) ≡ s.found = rw (whole, n) (take-append_seam s.found more.0) in
    let later = still_mapped tables s.found more.0 mapped are in
    record {
      within = omega (arith, n, long, length-map after view, length-append s.found more.0);
      known = are.known ∙ ap known_in (sym front);
      still = rw whole later.within;
      have = rw whole later.before;
    }

-- 3. Streams by the tables

-- The state after tables are taken
pub taken : (tables : KnownView) (found : List FindingView) (mapped : ℕ) → tables ≡ known_in found → mapped ≤ length (known_in found).programs →
    have_maps found (take mapped (known_in found).programs) ≡ true → AreTables tables found mapped
taken tables found mapped is within before =
    let same : tables.programs ≡ (known_in found).programs = ap (λ (known : KnownView). known.programs) is in
    record { known = is; within = rw same within; before = rw same before }

-- The programs that tables name
pub record AreNamed (tables : KnownView) (found : List FindingView) (ps : List Program) (n : ℕ) : Type 0 where
  pub known : tables ≡ known_in found
  pub within : n ≤ length ps
  pub before : have_maps found (take n ps) ≡ true

pub named_are : (tables : KnownView) (found : List FindingView) (ps : List Program) (n : ℕ) → ps ≡ tables.programs → AreTables tables found n →
    AreNamed tables found ps n
named_are tables found ps n same are = record { known = are.known; within = rw same are.within; before = rw same are.before }

pub record AreAll (tables : KnownView) (found : List FindingView) (n : ℕ) : Type 0 where
  pub are : AreTables tables found n
  pub all : (n == length tables.programs) ≡ have_maps found tables.programs

pub mapped_are : (tables : KnownView) (found : List FindingView) (ps : List Program) (n : ℕ) → ps ≡ tables.programs → tables ≡ known_in found →
    AreMapped found ps n → AreAll tables found n
mapped_are tables found ps n same known are =
    let their : AreMapped found tables.programs n = subst (λ (l : List Program). AreMapped found l n) same are in
    record { are = record { known = known; within = their.within; before = their.before }; all = their.all }

-- The named programs in the code's terms
abbrev pub named : Bool → List Program → List FindingView → Option FoundProgramsView
named known programs found = if known then Some (programs_of programs found) else None

by_first : (last : Bool) (found : List FindingView) (o : Option PatView) → first_pat found ≡ o →
    streams_at last found ≡ named (last || (is_some o && have_maps found (named_by o found))) (named_by o found) found
unfolding association streams_by
by_first true found None e = rw e refl
by_first false found None e = rw e refl
by_first true found (Some first) e = rw e refl
by_first false found (Some first) e = rw e refl

pub streams_are : (last : Bool) (tables : KnownView) (found : List FindingView) → tables ≡ known_in found →
    streams_at last found ≡ named (last || (is_some tables.version && have_maps found tables.programs)) tables.programs found
streams_are last tables found is =
    let v : is_some tables.version ≡ is_some (first_pat found) = ap (λ (known : KnownView). is_some known.version) is ∙ version_known found in
    let ps : tables.programs ≡ named_by (first_pat found) found = ap (λ (known : KnownView). known.programs) is ∙ programs_known found in
    by_first last found (first_pat found) refl ∙ sym (rw (v, ps) refl)

-- `mapped` programs have maps, and the streams are known or not.
pub known_streams : (last : Bool) (tables : KnownView) (found : List FindingView) (mapped : ℕ) → tables ≡ known_in found →
    (mapped == length tables.programs) ≡ have_maps found tables.programs → (t : Bool) →
    t ≡ (last || (is_some tables.version && (mapped == length tables.programs))) → named t tables.programs found ≡ streams_at last found
known_streams last tables found mapped known all t is =
    let test : t ≡ (last || (is_some tables.version && have_maps found tables.programs)) =
    is ∙ ap (λ (b : Bool). last || (is_some tables.version && b)) all in
    ap (λ (b : Bool). named b tables.programs found) test ∙ sym (streams_are last tables found known)

pub when_none : (streams : Option FoundProgramsView) (tables : KnownView) (found : List FindingView) (mapped : ℕ) →
    AreUnknown streams tables found mapped → streams ≡ None → AreTables tables found mapped
unfolding AreUnknown
when_none None tables found mapped unknown none = unknown
when_none (Some s) tables found mapped unknown none = absurd (true≢false (ap (λ (o : Option FoundProgramsView). is_some o) none))

pub unknown : (streams : Option FoundProgramsView) (tables : KnownView) (found : List FindingView) (mapped : ℕ) → AreTables tables found mapped →
    AreUnknown streams tables found mapped
unfolding AreUnknown
unknown None tables found mapped are = are
unknown (Some s) tables found mapped are = tt

pub at_start : AreTables (known_in []) start.found 0
at_start = record { known = refl; within = omega arith; before = refl }
