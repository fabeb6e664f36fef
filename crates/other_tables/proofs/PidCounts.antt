-- Counts of sections by PID, from the last finding to the first, and the PIDs with a table
use Rattle.std.proofs.Common.{◌≡◌, ◌≢◌, ℕ, ◌+◌, ◌<◌, ◌≤◌, ◌==◌, ◌&&◌, ◌||◌, zero, suc, cond, append-nil, true, false, Bool, is_some, List, [], ◌∷◌, ◌++◌}
use Rattle.std.proofs.Common.{length, map, drop, get_or, Option, None, Some, refl, sym, ap, ◌∙◌, arith, inl, inr}
use Rattle.std.specs.Prelude.{slice_set, slice_index, slice_index_or, replicate}
use Rattle.std.proofs.lemmas.Bool.{eq-eqb, ne_eqb, cases_eq}
use Rattle.std.proofs.lemmas.List.{drop_more, drop_all, length-set, get_or-set_same, get_or-set_other, get_or-replicate, length-replicate}
use Rattle.std.proofs.lemmas.List.Folds.{list_any-append}
use Rattle.pid_findings.specs.Views.{FindingView}
use Rattle.demux.specs.Laws.{has_pid}
use Rattle.other_tables.specs.OtherTables.{kind_at, is_found, section_count, section_number, table_at, table_on}
use Rattle.other_tables.specs.PidCounts.{AreCounts, AreSeen, counted_on, counted_with, table_pid, table_of, table_with, seen_on, seen_with}
use Rattle.other_tables.specs.declared.kinds.TableKind.{TableKind}
use Rattle.other_tables.specs.declared.tables.OtherTable.{OtherTable}

-- 1. Counts of the findings from index i on

pub record CountsFrom {X : Type 0} (view : X → FindingView) (counts : List ℕ) (i : ℕ) (fs : List X) : Type 0 where
  pub size : length counts ≡ 65_536
  pub each : (pid : ℕ) → pid < 65_536 → (slice_index counts pid ≡ section_count pid (map view (drop i fs))) × (slice_index counts pid + i ≤ length fs)

pub none_yet : {X : Type 0} (view : X → FindingView) (counts : List ℕ) (i : ℕ) (fs : List X) → i ≡ length fs → AreCounts counts [] → CountsFrom view counts i fs
unfolding section_count
none_yet view counts i fs e c = record {
  size = c.size;
  each = λ pid below.
      let zero_there : slice_index counts pid ≡ 0 = c.each pid below in
      (zero_there ∙ (rw (drop_all i fs (omega (arith, e))) refl), omega (arith, zero_there, e));
}

pub zeroes : AreCounts (replicate 65_536 0) []
unfolding section_count
zeroes = record { size = length-replicate {A = ℕ} 65_536 0; each = λ pid below. get_or-replicate 65_536 pid 0 0 below }

pub room_left : {X : Type 0} (view : X → FindingView) (counts : List ℕ) (i n : ℕ) (fs : List X) → CountsFrom view counts i fs → 0 < i → length fs ≤ n →
    (pid : ℕ) → pid < 65_536 → slice_index counts pid < n
room_left view counts i n fs c some long pid below = omega (arith, (c.each pid below).1, some, long)

-- A finding adds a section to its own PID only.
own : (pid : ℕ) (p : Option ℕ) (b : Bool) (other : ℕ) → Some other ≡ cond b p None → pid ≡ other → ◌≡◌ {A = ℕ} (cond (has_pid pid p && b) 1 0) 1
own pid None true other is e = absurd cc
own pid None false other is e = absurd cc
own pid (Some q) false other is e = absurd cc
own pid (Some q) true other is e = let same : q ≡ pid = cc in rw (eq-eqb q pid same) refl

others : (pid : ℕ) (p : Option ℕ) (b : Bool) (other : ℕ) → Some other ≡ cond b p None → pid ≢ other → ◌≡◌ {A = ℕ} (cond (has_pid pid p && b) 1 0) 0
others pid None true other is ne = absurd cc
others pid None false other is ne = absurd cc
others pid (Some q) false other is ne = absurd cc
others pid (Some q) true other is ne = let same : q ≡ other = cc in rw (ne_eqb q pid (λ e. ne (sym e ∙ same))) refl

and_false : (b : Bool) → (b && false) ≡ false
and_false true = refl
and_false false = refl

nothing : (pid : ℕ) (p : Option ℕ) (b : Bool) → None ≡ cond b p None → ◌≡◌ {A = ℕ} (cond (has_pid pid p && b) 1 0) 0
nothing pid None true is = refl
nothing pid None false is = refl
nothing pid (Some q) true is = absurd cc
nothing pid (Some q) false is = rw (and_false (has_pid pid (Some q))) refl

of_pid : (pid : ℕ) (f : FindingView) (other : ℕ) → Some other ≡ table_pid f → pid ≡ other → section_number pid f ≡ 1
unfolding section_number table_pid
of_pid pid f other is e = own pid f.pid (is_some (kind_at f.what)) other is e

of_other : (pid : ℕ) (f : FindingView) (other : ℕ) → Some other ≡ table_pid f → pid ≢ other → section_number pid f ≡ 0
unfolding section_number table_pid
of_other pid f other is ne = others pid f.pid (is_some (kind_at f.what)) other is ne

of_none : (pid : ℕ) (f : FindingView) → None ≡ table_pid f → section_number pid f ≡ 0
unfolding section_number table_pid
of_none pid f is = nothing pid f.pid (is_some (kind_at f.what)) is

-- From one finding earlier, the list of findings begins with that finding.
before : {X : Type 0} (view : X → FindingView) (i j : ℕ) (fs : List X) (f : X) → i ≡ j + 1 → j < length fs → f ≡ get_or fs j f →
    map view (drop j fs) ≡ view f ∷ map view (drop i fs)
before view i j fs f next inside at =
    ap (map view) (drop_more fs j f inside ∙ ap (λ (n : ℕ). get_or fs j f ∷ drop n fs) (sym next)) ∙ (rw (sym at) refl)

count_before : {X : Type 0} (view : X → FindingView) (i j : ℕ) (fs : List X) (f : X) (pid : ℕ) → i ≡ j + 1 → j < length fs → f ≡ get_or fs j f →
    section_count pid (map view (drop j fs)) ≡ section_number pid (view f) + section_count pid (map view (drop i fs))
unfolding section_count
count_before view i j fs f pid next inside at = rw (before view i j fs f next inside at) refl

counted_some : {X : Type 0} (view : X → FindingView) (counts : List ℕ) (i j : ℕ) (fs : List X) (f : X) (other : ℕ) → i ≡ j + 1 → j < length fs →
    f ≡ get_or fs j f →
    Some other ≡ table_pid (view f) → other < 65_536 → CountsFrom view counts i fs →
    CountsFrom view (slice_set counts other (slice_index counts other + 1)) j fs
counted_some view counts i j fs f other next inside at is fits c = record {
  size = length-set counts _ _ ∙ c.size;
  each = λ pid below.
      let parts = count_before view i j fs f pid next inside at in
      elim (cases_eq pid other) [
        | inl e ↦
            let here : slice_index (slice_set counts other (slice_index counts other + 1)) pid ≡ slice_index counts other + 1 =
            ap (slice_index (slice_set counts other (slice_index counts other + 1))) e
            ∙ get_or-set_same counts other (slice_index counts other + 1) 0 (omega (arith, c.size, fits)) in
            let known = c.each other fits in
            let one = of_pid pid (view f) other is e in
            let same : section_count pid (map view (drop i fs)) ≡ section_count other (map view (drop i fs)) =
            ap (λ (n : ℕ). section_count n (map view (drop i fs))) e in
            (omega (arith, here, known.0, parts, one, same), omega (arith, here, known.1, next))
        | inr ne ↦
            let here : slice_index (slice_set counts other (slice_index counts other + 1)) pid ≡ slice_index counts pid =
            get_or-set_other counts other pid (slice_index counts other + 1) 0 ne in
            let known = c.each pid below in
            let none = of_other pid (view f) other is ne in
            (omega (arith, here, known.0, parts, none), omega (arith, here, known.1, next))
      ];
}

uncounted : {X : Type 0} (view : X → FindingView) (counts : List ℕ) (i j : ℕ) (fs : List X) (f : X) → i ≡ j + 1 → j < length fs → f ≡ get_or fs j f →
    None ≡ table_pid (view f) → CountsFrom view counts i fs → CountsFrom view counts j fs
uncounted view counts i j fs f next inside at is c = record {
  size = c.size;
  each = λ pid below.
      let known = c.each pid below in
      let parts = count_before view i j fs f pid next inside at in
      let none = of_none pid (view f) is in
      (omega (arith, known.0, parts, none), omega (arith, known.1, next));
}

counted_by : {X : Type 0} (view : X → FindingView) (counts : List ℕ) (i j : ℕ) (fs : List X) (f : X) (p : Option ℕ) → i ≡ j + 1 → j < length fs →
    f ≡ get_or fs j f →
    p ≡ table_pid (view f) → ((pid : ℕ) → p ≡ Some pid → pid < 65_536) → CountsFrom view counts i fs → CountsFrom view (counted_on counts p) j fs
unfolding counted_on
counted_by view counts i j fs f None next inside at is fits c = uncounted view counts i j fs f next inside at is c
counted_by view counts i j fs f (Some other) next inside at is fits c = counted_some view counts i j fs f other next inside at is (fits other refl) c

pub counted : {X : Type 0} (view : X → FindingView) (counts : List ℕ) (i j : ℕ) (fs : List X) (f : X) → i ≡ j + 1 → j < length fs → f ≡ get_or fs j f →
    ((pid : ℕ) → table_pid (view f) ≡ Some pid → pid < 65_536) → CountsFrom view counts i fs → CountsFrom view (counted_with counts (view f)) j fs
counted view counts i j fs f next inside at fits c = counted_by view counts i j fs f (table_pid (view f)) next inside at refl fits c

pub all_counted : {X : Type 0} (view : X → FindingView) (counts : List ℕ) (i : ℕ) (fs : List X) → i ≡ 0 → CountsFrom view counts i fs →
    AreCounts counts (map view fs)
all_counted view counts zero fs e c = record { size = c.size; each = λ pid below. (c.each pid below).0 }
all_counted view counts (suc i) fs e c = absurd cc

-- 2. The PIDs with a table

pub none_seen : AreSeen (replicate 65_536 false) []
none_seen = record { size = length-replicate {A = Bool} 65_536 false; each = λ pid below. get_or-replicate 65_536 pid false false below }

seen_more : (seen : List Bool) (found more : List OtherTable) (p : ℕ) → p < 65_536 → AreSeen seen found → is_found (found ++ more) p ≡ true →
    ((pid : ℕ) → pid ≢ p → is_found (found ++ more) pid ≡ is_found found pid) → AreSeen (slice_set seen p true) (found ++ more)
seen_more seen found more p fits s here there = record {
  size = length-set seen _ _ ∙ s.size;
  each = λ pid below. elim (cases_eq pid p) [
    | inl e ↦
        ap (λ (n : ℕ). slice_index_or (slice_set seen p true) n false) e ∙ get_or-set_same seen p true false (omega (arith, s.size, fits))
        ∙ sym (ap (is_found (found ++ more)) e ∙ here)
    | inr ne ↦ get_or-set_other seen p pid true false ne ∙ s.each pid below ∙ sym (there pid ne)
  ];
}

-- A PID has a table after one more table if it had one before or if it is the PID of this table.
one_more : (found : List OtherTable) (t : OtherTable) (pid : ℕ) → is_found (found ++ t ∷ []) pid ≡ (is_found found pid || (t.pid == pid || false))
one_more found t pid = list_any-append (λ (x : OtherTable). x.pid == pid) found (t ∷ [])

or_true : (b : Bool) → (b || true) ≡ true
or_true true = refl
or_true false = refl

or_false : (b : Bool) → (b || false) ≡ b
or_false true = refl
or_false false = refl

one_here : (found : List OtherTable) (t : OtherTable) → is_found (found ++ t ∷ []) t.pid ≡ true
one_here found t = one_more found t t.pid ∙ (rw (eq-eqb t.pid t.pid refl) (or_true (is_found found t.pid)))

one_there : (found : List OtherTable) (t : OtherTable) (pid : ℕ) → pid ≢ t.pid → is_found (found ++ t ∷ []) pid ≡ is_found found pid
one_there found t pid ne = one_more found t pid ∙ (rw (ne_eqb t.pid pid (λ e. ne (sym e))) (or_false (is_found found pid)))

same_found : (found : List OtherTable) (pid : ℕ) → is_found (found ++ []) pid ≡ is_found found pid
same_found found pid = ap (λ (x : List OtherTable). is_found x pid) (append-nil found)

same_seen : (seen : List Bool) (found : List OtherTable) → AreSeen seen found → AreSeen seen (found ++ [])
same_seen seen found s = record { size = s.size; each = λ pid below. s.each pid below ∙ sym (same_found found pid) }

on_pid : (counts : List ℕ) (seen : List Bool) (all : List FindingView) (found : List OtherTable) (kind : TableKind) (p : ℕ) (b : Bool) →
    is_found found p ≡ b → p < 65_536 → AreCounts counts all → AreSeen seen found →
    (table_of counts seen (Some kind) (Some p) ≡ table_on all found (Some kind) (Some p)) × AreSeen (slice_set seen p true)
    (found ++ table_on all found (Some kind) (Some p))
unfolding table_of table_on
on_pid counts seen all found kind p true e below c s =
    rw (s.each p below, e) (refl, seen_more seen found [] p below s (same_found found p ∙ e) (λ pid ne. same_found found pid))
on_pid counts seen all found kind p false e below c s =
    let t : OtherTable = record { pid = p; kind = kind; count = section_count p all } in
    rw (s.each p below, e, c.each p below) (refl, seen_more seen found (t ∷ []) p below s (one_here found t) (λ pid ne. one_there found t pid ne))

-- One more finding updates the counts and the PIDs with a table.
with_table : (counts : List ℕ) (seen : List Bool) (all : List FindingView) (found : List OtherTable) (kind : Option TableKind) (p : Option ℕ) →
    ((pid : ℕ) → cond (is_some kind) p None ≡ Some pid → pid < 65_536) → AreCounts counts all → AreSeen seen found →
    (table_of counts seen kind p ≡ table_on all found kind p) × AreSeen (seen_on seen (cond (is_some kind) p None)) (found ++ table_on all found kind p)
unfolding table_of table_on seen_on
with_table counts seen all found None p fits c s = (refl, same_seen seen found s)
with_table counts seen all found (Some kind) None fits c s = (refl, same_seen seen found s)
with_table counts seen all found (Some kind) (Some p) fits c s = on_pid counts seen all found kind p (is_found found p) refl (fits p refl) c s

pub same_table : (counts : List ℕ) (seen : List Bool) (all : List FindingView) (found : List OtherTable) (f : FindingView) →
    ((pid : ℕ) → table_pid f ≡ Some pid → pid < 65_536) → AreCounts counts all → AreSeen seen found → table_with counts seen f ≡ table_at all found f
unfolding table_with table_at table_pid
same_table counts seen all found f fits c s = (with_table counts seen all found (kind_at f.what) f.pid fits c s).0

pub seen_after : (counts : List ℕ) (seen : List Bool) (all : List FindingView) (found : List OtherTable) (f : FindingView) →
    ((pid : ℕ) → table_pid f ≡ Some pid → pid < 65_536) → AreCounts counts all → AreSeen seen found → AreSeen (seen_with seen f) (found ++ table_at all found f)
unfolding table_at table_pid
seen_after counts seen all found f fits c s = (with_table counts seen all found (kind_at f.what) f.pid fits c s).1
