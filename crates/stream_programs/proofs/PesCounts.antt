-- The number of PES packets on each PID, counted from the last finding to the first.
use Rattle.std.proofs.Common.{◌≡◌, ◌≢◌, ℕ, ◌+◌, ◌<◌, ◌≤◌, ◌&&◌, zero, suc, cond, true, false, Bool, List, [], ◌∷◌, length, map, drop, get_or, Option}
use Rattle.std.proofs.Common.{None, Some, refl, sym, ap, ◌∙◌, arith, inl, inr}
use Rattle.std.specs.Prelude.{slice_set, slice_index, replicate}
use Rattle.std.proofs.lemmas.Bool.{eq-eqb, ne_eqb, cases_eq}
use Rattle.std.proofs.lemmas.List.{drop_more, drop_all, length-set, get_or-set_same, get_or-set_other, get_or-replicate, length-replicate}
use Rattle.pid_findings.specs.Views.{FindingView}
use Rattle.demux.specs.Laws.{has_pid}
use Rattle.stream_programs.specs.StrayPids.{is_pes, pes_count, pes_number}
use Rattle.stream_programs.specs.PesCounts.{AreCounts, counted_on, counted_with, pes_pid}

-- 1. The counts of the findings from index i on

pub record CountsFrom {X : Type 0} (view : X → FindingView) (counts : List ℕ) (i : ℕ) (fs : List X) : Type 0 where
  pub size : length counts ≡ 65_536
  pub each : (pid : ℕ) → pid < 65_536 → (slice_index counts pid ≡ pes_count pid (map view (drop i fs))) × (slice_index counts pid + i ≤ length fs)

pub none_yet : {X : Type 0} (view : X → FindingView) (counts : List ℕ) (i : ℕ) (fs : List X) → i ≡ length fs → AreCounts counts [] → CountsFrom view counts i fs
unfolding pes_count
none_yet view counts i fs e c = record {
  size = c.size;
  each = λ pid below.
      let zero_there : slice_index counts pid ≡ 0 = c.each pid below in
      (zero_there ∙ (rw (drop_all i fs (omega (arith, e))) refl), omega (arith, zero_there, e));
}

pub zeroes : AreCounts (replicate 65_536 0) []
unfolding pes_count
zeroes = record { size = length-replicate {A = ℕ} 65_536 0; each = λ pid below. get_or-replicate 65_536 pid 0 0 below }

pub room_left : {X : Type 0} (view : X → FindingView) (counts : List ℕ) (i n : ℕ) (fs : List X) → CountsFrom view counts i fs → 0 < i → length fs ≤ n →
    (pid : ℕ) → pid < 65_536 → slice_index counts pid < n
room_left view counts i n fs c some long pid below = omega (arith, (c.each pid below).1, some, long)

-- A PES packet is counted on its own PID only.
own : (pid : ℕ) (p : Option ℕ) (b : Bool) (other : ℕ) → Some other ≡ cond b p None → pid ≡ other → ◌≡◌ {A = ℕ} (cond (has_pid pid p && b) 1 0) 1
own pid None true other is e = absurd cc
own pid None false other is e = absurd cc
own pid (Some q) false other is e = absurd cc
own pid (Some q) true other is e = let same : q ≡ pid = cc in rw (eq-eqb q pid same) refl

others : (pid : ℕ) (p : Option ℕ) (b : Bool) (other : ℕ) → Some other ≡ cond b p None → pid ≢ other → ◌≡◌ {A = ℕ} (cond (has_pid pid p && b) 1 0) 0
others pid None true other is ne = absurd cc
others pid None false other is ne = absurd cc
others pid (Some q) false other is ne = absurd cc
others pid (Some q) true other is ne = let same : q ≡ other = cc in rw (ne_eqb q pid (λ e. ne (sym e ∙ same))) refl

and_false : (b : Bool) → (b && false) ≡ false
and_false true = refl
and_false false = refl

nothing : (pid : ℕ) (p : Option ℕ) (b : Bool) → None ≡ cond b p None → ◌≡◌ {A = ℕ} (cond (has_pid pid p && b) 1 0) 0
nothing pid None true is = refl
nothing pid None false is = refl
nothing pid (Some q) true is = absurd cc
nothing pid (Some q) false is = rw (and_false (has_pid pid (Some q))) refl

of_pid : (pid : ℕ) (f : FindingView) (other : ℕ) → Some other ≡ pes_pid f → pid ≡ other → pes_number pid f ≡ 1
unfolding pes_number pes_pid
of_pid pid f other is e = own pid f.pid (is_pes f.what) other is e

of_other : (pid : ℕ) (f : FindingView) (other : ℕ) → Some other ≡ pes_pid f → pid ≢ other → pes_number pid f ≡ 0
unfolding pes_number pes_pid
of_other pid f other is ne = others pid f.pid (is_pes f.what) other is ne

of_none : (pid : ℕ) (f : FindingView) → None ≡ pes_pid f → pes_number pid f ≡ 0
unfolding pes_number pes_pid
of_none pid f is = nothing pid f.pid (is_pes f.what) is

-- Counting one more finding, towards the front.
before : {X : Type 0} (view : X → FindingView) (i j : ℕ) (fs : List X) (f : X) → i ≡ j + 1 → j < length fs → f ≡ get_or fs j f →
    map view (drop j fs) ≡ view f ∷ map view (drop i fs)
before view i j fs f next inside at =
    ap (map view) (drop_more fs j f inside ∙ ap (λ (n : ℕ). get_or fs j f ∷ drop n fs) (sym next)) ∙ (rw (sym at) refl)

count_before : {X : Type 0} (view : X → FindingView) (i j : ℕ) (fs : List X) (f : X) (pid : ℕ) → i ≡ j + 1 → j < length fs → f ≡ get_or fs j f →
    pes_count pid (map view (drop j fs)) ≡ pes_number pid (view f) + pes_count pid (map view (drop i fs))
unfolding pes_count
count_before view i j fs f pid next inside at = rw (before view i j fs f next inside at) refl

counted_some : {X : Type 0} (view : X → FindingView) (counts : List ℕ) (i j : ℕ) (fs : List X) (f : X) (other : ℕ) → i ≡ j + 1 → j < length fs →
    f ≡ get_or fs j f →
    Some other ≡ pes_pid (view f) → other < 65_536 → CountsFrom view counts i fs → CountsFrom view (slice_set counts other (slice_index counts other + 1)) j fs
counted_some view counts i j fs f other next inside at is fits c = record {
  size = length-set counts _ _ ∙ c.size;
  each = λ pid below.
      let parts = count_before view i j fs f pid next inside at in
      elim (cases_eq pid other) [
        | inl e ↦
            let here : slice_index (slice_set counts other (slice_index counts other + 1)) pid ≡ slice_index counts other + 1 =
            ap (slice_index (slice_set counts other (slice_index counts other + 1))) e
            ∙ get_or-set_same counts other (slice_index counts other + 1) 0 (omega (arith, c.size, fits)) in
            let known = c.each other fits in
            let one = of_pid pid (view f) other is e in
            let same : pes_count pid (map view (drop i fs)) ≡ pes_count other (map view (drop i fs)) = ap (λ (n : ℕ). pes_count n (map view (drop i fs))) e in
            (omega (arith, here, known.0, parts, one, same), omega (arith, here, known.1, next))
        | inr ne ↦
            let here : slice_index (slice_set counts other (slice_index counts other + 1)) pid ≡ slice_index counts pid =
            get_or-set_other counts other pid (slice_index counts other + 1) 0 ne in
            let known = c.each pid below in
            let none = of_other pid (view f) other is ne in
            (omega (arith, here, known.0, parts, none), omega (arith, here, known.1, next))
      ];
}

uncounted : {X : Type 0} (view : X → FindingView) (counts : List ℕ) (i j : ℕ) (fs : List X) (f : X) → i ≡ j + 1 → j < length fs → f ≡ get_or fs j f →
    None ≡ pes_pid (view f) → CountsFrom view counts i fs → CountsFrom view counts j fs
uncounted view counts i j fs f next inside at is c = record {
  size = c.size;
  each = λ pid below.
      let known = c.each pid below in
      let parts = count_before view i j fs f pid next inside at in
      let none = of_none pid (view f) is in
      (omega (arith, known.0, parts, none), omega (arith, known.1, next));
}

counted_by : {X : Type 0} (view : X → FindingView) (counts : List ℕ) (i j : ℕ) (fs : List X) (f : X) (p : Option ℕ) → i ≡ j + 1 → j < length fs →
    f ≡ get_or fs j f →
    p ≡ pes_pid (view f) → ((pid : ℕ) → p ≡ Some pid → pid < 65_536) → CountsFrom view counts i fs → CountsFrom view (counted_on counts p) j fs
unfolding counted_on
counted_by view counts i j fs f None next inside at is fits c = uncounted view counts i j fs f next inside at is c
counted_by view counts i j fs f (Some other) next inside at is fits c = counted_some view counts i j fs f other next inside at is (fits other refl) c

pub counted : {X : Type 0} (view : X → FindingView) (counts : List ℕ) (i j : ℕ) (fs : List X) (f : X) → i ≡ j + 1 → j < length fs → f ≡ get_or fs j f →
    ((pid : ℕ) → pes_pid (view f) ≡ Some pid → pid < 65_536) → CountsFrom view counts i fs → CountsFrom view (counted_with counts (view f)) j fs
counted view counts i j fs f next inside at fits c = counted_by view counts i j fs f (pes_pid (view f)) next inside at refl fits c

pub all_counted : {X : Type 0} (view : X → FindingView) (counts : List ℕ) (i : ℕ) (fs : List X) → i ≡ 0 → CountsFrom view counts i fs →
    AreCounts counts (map view fs)
all_counted view counts zero fs e c = record { size = c.size; each = λ pid below. (c.each pid below).0 }
all_counted view counts (suc i) fs e c = absurd cc
