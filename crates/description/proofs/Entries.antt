-- The entries of the PMTs, beyond a program's own streams.
use Rattle.std.proofs.Common.{◌≡◌, ◌<◌, ℕ, zero, suc, ◌==◌, ◌||◌, Bool, true, false, cond, List, [], ◌∷◌, ◌++◌, length, map, filter, Option, Some, None}
use Rattle.std.proofs.Common.{slice_get, option_map, option_and_then, All, Contains, refl, ap, subst, ◌∙◌, arith, append-nil, if◌then◌else◌}
use Rattle.std.specs.Prelude.{slice_index_or}
use Rattle.std.specs.List.{cons_option, list_any}
use Rattle.std.proofs.lemmas.Bool.{eq-eqb}
use Rattle.std.proofs.lemmas.List.{map-append}
use Rattle.std.proofs.lemmas.List.Elements.{filter-append, All-head, All-tail, Contains-append_left, Contains-append_right}
use Rattle.psi_tables.specs.ProgramMap.{StreamView}
use Rattle.description_parts.specs.Described.{DescribedStream, DescribedEntry, DescribedTable}
use Rattle.description_parts.specs.Tables.{is_shared_with, entry_if_of, entry_in}
use Rattle.description.specs.SectionBytes.{pmt_entries, pmt_stream, pmt_streams, pmt_shared, table_stream, pmt_table, pmt_tables}
use Rattle.description.specs.Entries.{SharedLaw, EntryLaw, OwnLaw, OffAirLaw}

cons_has : {X : Type 0} (x : X) (xs : List X) (y : X) → Contains xs y → Contains (x ∷ xs) y
cons_has x xs y (k, lt, e) = (suc k, omega (arith, lt), e)

first_has : {X : Type 0} (o : Option X) (xs : List X) (x : X) → o ≡ Some x → Contains (cons_option o xs) x
first_has None xs x is = absurd (cc)
first_has (Some y) xs x is = let same : y ≡ x = cc in (0, omega arith, same)

later_has : {X : Type 0} (o : Option X) (xs : List X) (x : X) → Contains xs x → Contains (cons_option o xs) x
later_has None xs x c = c
later_has (Some y) xs x c = cons_has y xs x c

if_true : {X : Type 0} (b : Bool) (x : X) → b ≡ true → (if b then Some x else None) ≡ Some x
if_true true x h = refl
if_true false x h = absurd (cc)

entry_there : (n : ℕ) (t : DescribedTable) (e : DescribedEntry) → t.entry ≡ Some e → e.program ≡ n → pmt_table n t ≡ Some (table_stream t.pid e)
entry_there n t e is of =
    let found : entry_in n t ≡ Some e = ap (option_and_then (entry_if_of n)) is ∙ if_true (e.program == n) e (eq-eqb e.program n of) in
    ap (option_map (table_stream t.pid)) found

table_there : (n : ℕ) (ts : List DescribedTable) (k : ℕ) (t : DescribedTable) (e : DescribedEntry) → slice_get ts k ≡ Some t → t.entry ≡ Some e → e.program ≡ n
    → Contains (pmt_tables n ts) (table_stream t.pid e)
table_there n [] k t e at is of = absurd (cc)
table_there n (x ∷ xs) zero t e at is of =
    let same : x ≡ t = cc in
    first_has (pmt_table n x) (pmt_tables n xs) (table_stream t.pid e) (ap (pmt_table n) same ∙ entry_there n t e is of)
table_there n (x ∷ xs) (suc k) t e at is of = later_has (pmt_table n x) (pmt_tables n xs) (table_stream t.pid e) (table_there n xs k t e at is of)

-- The streams of a PMT are these, while its program is on air.
if_on_air : {X : Type 0} (b : Bool) (xs : List X) (y : X) → b ≡ true → Contains xs y → Contains (if b then xs else []) y
if_on_air true xs y is has = has
if_on_air false xs y is has = absurd (cc)

pub off_air : OffAirLaw
off_air d p is = ap (λ (b : Bool). if b then pmt_entries d p.number else []) is

pub entries : EntryLaw
entries d p k t e on at is of =
    if_on_air p.is_on_air (pmt_entries d p.number) (table_stream t.pid e) on
    (Contains-append_right (pmt_streams p.number d.streams ++ pmt_shared p.number d.streams) (pmt_tables p.number d.tables) (table_stream t.pid e)
    (table_there p.number d.tables k t e at is of))

-- The streams that a program shares
any_there : (n : ℕ) (ns : List ℕ) (k : ℕ) → k < length ns → slice_index_or ns k n ≡ n → list_any (λ m. m == n) ns ≡ true
any_there n [] k lt is = absurd (omega (arith, lt))
any_there n (m ∷ ms) zero lt is = rw (eq-eqb m n is) refl
any_there n (m ∷ ms) (suc k) lt is = or_right (m == n) (list_any (λ x. x == n) ms) (any_there n ms k (omega (arith, lt)) is)
  where
    or_right : (b c : Bool) → c ≡ true → (b || c) ≡ true
    or_right true c h = refl
    or_right false c h = h

pub shared_in_parts : (n : ℕ) (xs ys : List DescribedStream) → pmt_shared n (xs ++ ys) ≡ pmt_shared n xs ++ pmt_shared n ys
shared_in_parts n xs ys =
    ap (map pmt_stream) (filter-append (is_shared_with n) xs ys) ∙ map-append pmt_stream (filter (is_shared_with n) xs) (filter (is_shared_with n) ys)

cond_has : (b : Bool) (s : DescribedStream) (ss : List DescribedStream) (y : StreamView) → Contains (map pmt_stream ss) y →
    Contains (map pmt_stream (cond b (s ∷ ss) ss)) y
cond_has true s ss y c = cons_has (pmt_stream s) (map pmt_stream ss) y c
cond_has false s ss y c = c

cond_first : (b : Bool) (s : DescribedStream) (ss : List DescribedStream) → b ≡ true → Contains (map pmt_stream (cond b (s ∷ ss) ss)) (pmt_stream s)
cond_first true s ss h = (0, omega arith, refl)
cond_first false s ss h = absurd (cc)

shared_there : (n : ℕ) (ss : List DescribedStream) (k : ℕ) (s : DescribedStream) → slice_get ss k ≡ Some s → is_shared_with n s ≡ true →
    Contains (pmt_shared n ss) (pmt_stream s)
shared_there n [] k s at is = absurd (cc)
shared_there n (x ∷ xs) zero s at is =
    let same : x ≡ s = cc in
    subst (λ (y : DescribedStream). Contains (pmt_shared n (x ∷ xs)) (pmt_stream y)) same
    (cond_first (is_shared_with n x) x (filter (is_shared_with n) xs) (ap (is_shared_with n) same ∙ is))
shared_there n (x ∷ xs) (suc k) s at is = cond_has (is_shared_with n x) x (filter (is_shared_with n) xs) (pmt_stream s) (shared_there n xs k s at is)

pub shared : SharedLaw
shared d p k s on at (j, lt, is) =
    let named = any_there p.number s.shared_with j lt is in
    if_on_air p.is_on_air (pmt_entries d p.number) (pmt_stream s) on
    (Contains-append_left (pmt_streams p.number d.streams ++ pmt_shared p.number d.streams) (pmt_tables p.number d.tables) (pmt_stream s)
    (Contains-append_right (pmt_streams p.number d.streams) (pmt_shared p.number d.streams) (pmt_stream s) (shared_there p.number d.streams k s at named)))

not_there : (n : ℕ) (t : DescribedTable) → t.entry ≡ None → pmt_table n t ≡ None
not_there n t is = ap (λ (o : Option DescribedEntry). option_map (table_stream t.pid) (option_and_then (entry_if_of n) o)) is

none_there : (n : ℕ) (ts : List DescribedTable) → All (λ t. t.entry ≡ None) ts → pmt_tables n ts ≡ []
none_there n [] h = refl
none_there n (t ∷ ts) h =
    ap (λ (o : Option StreamView). cons_option o (pmt_tables n ts)) (not_there n t (All-head (λ t. t.entry ≡ None) t ts h))
    ∙ none_there n ts (All-tail (λ t. t.entry ≡ None) t ts h)

cond_none : (b : Bool) (s : DescribedStream) (ss : List DescribedStream) → b ≡ false → cond b (s ∷ ss) ss ≡ ss
cond_none true s ss h = absurd (cc)
cond_none false s ss h = refl

not_shared : (n : ℕ) (s : DescribedStream) → s.shared_with ≡ [] → is_shared_with n s ≡ false
not_shared n s is = ap (list_any (λ m. m == n)) is

none_shared : (n : ℕ) (ss : List DescribedStream) → All (λ s. s.shared_with ≡ []) ss → filter (is_shared_with n) ss ≡ []
none_shared n [] h = refl
none_shared n (s ∷ ss) h =
    cond_none (is_shared_with n s) s (filter (is_shared_with n) ss) (not_shared n s (All-head (λ x. x.shared_with ≡ []) s ss h))
    ∙ none_shared n ss (All-tail (λ x. x.shared_with ≡ []) s ss h)

pub own : OwnLaw
own d p on streams tables =
    let no_shared : pmt_shared p.number d.streams ≡ [] = ap (map pmt_stream) (none_shared p.number d.streams streams) in
    let no_tables = none_there p.number d.tables tables in
    ap (λ (b : Bool). if b then pmt_entries d p.number else []) on
    ∙ rw (no_tables, no_shared) (append-nil (pmt_streams p.number d.streams ++ []) ∙ append-nil (pmt_streams p.number d.streams))
