-- Keys of programs, and the values kept for them
use Rattle.std.proofs.Common.{◌≡◌, ◌<◌, ℕ, ◌+◌, ◌*◌, ◌==◌, nat_eq, nat_lt, cond, Bool, true, false, List, [], ◌∷◌, Option, Some, None, refl, sym, ap, ap₂}
use Rattle.std.proofs.Common.{subst, ◌∙◌, arith}
use Rattle.std.specs.Prelude.{is_some, option_and_then}
use Rattle.std.specs.Map.{lookup}
use Rattle.std.proofs.lemmas.Bool.Decides.{nat_tests}
use Rattle.indexmap.specs.IndexMap.{insert_entry}
use Rattle.psi_tables.specs.ProgramMap.{PmtView}
use Rattle.psi_tables.specs.declared.pat.programs.Program.{Program}
use Rattle.pid_findings.specs.Views.{FindingView}
use Rattle.demux.specs.Laws.{has_pid}
use Rattle.program_tables.specs.ProgramMaps.{any_map, numbered, pmt_found}
use Rattle.program_tables.specs.MapPlaces.{map_key, numbered_program, program_found, program_on}
use Rattle.program_tables.proofs.NumberedMaps.{of_pid}

-- 1. What an inserted entry changes

pub same_number : (a b : ℕ) → (a == b) ≡ true → a ≡ b
same_number a b e = grind (arith, nat_tests)

turned_test : (a b : ℕ) → (a == b) ≡ (b == a)
turned_test a b = by (a == b) (b == a) refl refl
  where
    by : (s t : Bool) → (a == b) ≡ s → (b == a) ≡ t → s ≡ t
    by true true p q = refl
    by false false p q = refl
    by true false p q = absurd (grind (arith, nat_tests))
    by false true p q = absurd (grind (arith, nat_tests))

pub inserted : (key k : ℕ) (x : ℕ) (es : List (ℕ × ℕ)) (t : Bool) → (k == key) ≡ t →
    lookup (nat_eq key) (insert_entry nat_eq es k x) ≡ cond t (Some x) (lookup (nat_eq key) es)
inserted key k x [] t e = rw (turned_test key k ∙ e) refl
inserted key k x (y ∷ es) t e = by t e (k == y.0) refl (inserted key k x es t e)
  where
    by : (t : Bool) → (k == key) ≡ t → (u : Bool) → (k == y.0) ≡ u →
        lookup (nat_eq key) (insert_entry nat_eq es k x) ≡ cond t (Some x) (lookup (nat_eq key) es) →
        lookup (nat_eq key) (cond u ((y.0, x) ∷ es) (y ∷ insert_entry nat_eq es k x)) ≡ cond t (Some x)
        (cond (nat_eq key y.0) (Some y.1) (lookup (nat_eq key) es))
    by true e true f h = let g : (key == y.0) ≡ true = subst (λ (n : ℕ). (n == y.0) ≡ true) (same_number k key e) f in rw g refl
    by false e true f h = let g : (key == y.0) ≡ false = subst (λ (n : ℕ). (key == n) ≡ false) (same_number k y.0 f) (turned_test key k ∙ e) in rw g refl
    by true e false f h = let g : (key == y.0) ≡ false = subst (λ (n : ℕ). (n == y.0) ≡ false) (same_number k key e) f in rw g h
    by false e false f h = ap (λ (o : Option ℕ). cond (nat_eq key y.0) (Some y.1) o) h

-- 2. A program by its key

pub same_pid : (a m b n : ℕ) → m < 65_536 → n < 65_536 → a * 65_536 + m ≡ b * 65_536 + n → a ≡ b
same_pid a m b n low below e = omega (arith, low, below, e)

pub same_rest : (a m b n : ℕ) → m < 65_536 → n < 65_536 → a * 65_536 + m ≡ b * 65_536 + n → m ≡ n
same_rest a m b n low below e = omega (arith, low, below, e)

pub same_program : (p q : Program) → p.program_number < 65_536 → q.program_number < 65_536 → map_key p ≡ map_key q → p ≡ q
same_program p q low below e =
    ap₂ (λ (number pid : ℕ). (let r : Program = record { program_number = number; pid = pid } in r))
    (same_rest p.pid p.program_number q.pid q.program_number low below e) (same_pid p.pid p.program_number q.pid q.program_number low below e)

-- 3. The table of a finding, by its program

-- Whether the program, if found, has this key
abbrev pub is_key : ℕ → Option Program → Bool
is_key key None = false
is_key key (Some q) = map_key q == key

pub apart : (m n : ℕ) → m ≡ n → (m == n) ≡ false → ⊥
apart m n same differ = grind (arith, nat_tests)

by_fields : (pid m b n : ℕ) (pmt : Option PmtView) (k u v : Bool) → m < 65_536 → n < 65_536 → ((pid * 65_536 + m) == (b * 65_536 + n)) ≡ k → (pid == b) ≡ u →
    (m == n) ≡ v →
    cond u (cond v pmt None) None ≡ cond k pmt None
by_fields pid m b n pmt true true true low below e f g = refl
by_fields pid m b n pmt true true false low below e f g =
    absurd (apart m n (same_rest pid m b n low below (same_number (pid * 65_536 + m) (b * 65_536 + n) e)) g)
by_fields pid m b n pmt true false v low below e f g =
    absurd (apart pid b (same_pid pid m b n low below (same_number (pid * 65_536 + m) (b * 65_536 + n) e)) f)
by_fields pid m b n pmt false true true low below e f g =
    absurd (apart (pid * 65_536 + m) (b * 65_536 + n) (ap₂ (λ (i j : ℕ). i * 65_536 + j) (same_number pid b f) (same_number m n g)) e)
by_fields pid m b n pmt false true false low below e f g = refl
by_fields pid m b n pmt false false v low below e f g = refl

small_number : (m : ℕ) → nat_lt m 65_536 ≡ true → m < 65_536
small_number m is = grind (arith, nat_tests)

not_equal : (m n : ℕ) (t : Bool) → nat_lt m 65_536 ≡ false → n < 65_536 → (m == n) ≡ t → t ≡ false
not_equal m n false over below e = refl
not_equal m n true over below e = absurd (grind (arith, nat_tests))

large : (m n : ℕ) → nat_lt m 65_536 ≡ false → n < 65_536 → (m == n) ≡ false
large m n over below = not_equal m n (m == n) over below refl

by_number : (p : Program) (pid : ℕ) (pmt : PmtView) (small : Bool) → p.program_number < 65_536 → nat_lt pmt.header.table_id_extension 65_536 ≡ small →
    cond (pid == p.pid) (cond (pmt.header.table_id_extension == p.program_number) (Some pmt) None) None
    ≡ cond (is_key (map_key p) (cond small (Some (record { program_number = pmt.header.table_id_extension; pid = pid })) None)) (Some pmt) None
by_number p pid pmt true below is =
    let ext = pmt.header.table_id_extension in
    by_fields pid ext p.pid p.program_number (Some pmt) ((pid * 65_536 + ext) == map_key p) (pid == p.pid) (ext == p.program_number) (small_number ext is) below
    refl refl refl
by_number p pid pmt false below is = rw (large pmt.header.table_id_extension p.program_number is below) (both_none (pid == p.pid))
  where
    both_none : (t : Bool) → ◌≡◌ {A = Option PmtView} (cond t None None) None
    both_none true = refl
    both_none false = refl

by_parts : (p : Program) (pid : Option ℕ) (found : Option PmtView) → p.program_number < 65_536 →
    cond (has_pid p.pid pid) (numbered p.program_number found) None ≡ cond (is_key (map_key p) (program_on pid found)) found None
unfolding numbered program_on numbered_program
by_parts p None found below = refl
by_parts p (Some pid) None below = by (pid == p.pid)
  where
    by : (t : Bool) → ◌≡◌ {A = Option PmtView} (cond t None None) None
    by true = refl
    by false = refl
by_parts p (Some pid) (Some pmt) below = by_number p pid pmt (nat_lt pmt.header.table_id_extension 65_536) below refl

pub by_key : (p : Program) (f : FindingView) → p.program_number < 65_536 → pmt_found p f ≡ cond (is_key (map_key p) (program_found f)) (any_map f) None
by_key p f below = of_pid p f ∙ by_parts p f.pid (any_map f) below

-- If a program is found for a finding, the finding has a table, and the program number has 16 bits.
pub record HasMap (q : Program) (found : Option PmtView) : Type 0 where
  pub pmt : PmtView
  pub is : found ≡ Some pmt
  pub below : q.program_number < 65_536

pub has_map : (pid : Option ℕ) (found : Option PmtView) (q : Program) → program_on pid found ≡ Some q → HasMap q found
unfolding program_on numbered_program
has_map None found q is = absurd cc
has_map (Some pid) None q is = absurd cc
has_map (Some pid) (Some pmt) q is = by (nat_lt pmt.header.table_id_extension 65_536) refl is
  where
    by : (small : Bool) → nat_lt pmt.header.table_id_extension 65_536 ≡ small →
        cond small (Some (record { program_number = pmt.header.table_id_extension; pid = pid })) None ≡ Some q → HasMap q (Some pmt)
    by false e is = absurd cc
    by true e is =
        let r : Program = record { program_number = pmt.header.table_id_extension; pid = pid } in
        let same : r ≡ q = cc in
        record { pmt = pmt; is = refl; below = subst (λ (r : Program). r.program_number < 65_536) same (small_number pmt.header.table_id_extension e) }
