-- Sections that begin too soon, by the sections before them.
use Rattle.std.proofs.Common.{◌≡◌, ◌∙◌, inl, inr, ⊎_elim, ◌⊎◌, ℕ, suc, ◌+◌, ◌-◌, ◌*◌, ◌<◌, ◌≤◌, ◌==◌, ◌&&◌, ◌||◌, not, Bool, true, false, cond, nat_eq, nat_le}
use Rattle.std.proofs.Common.{nat_lt, is_some, is_none, List, [], ◌∷◌, ◌++◌, length, find, Contains, Option, Some, None, option_map, refl, sym, ap, ap₂}
use Rattle.std.proofs.Common.{subst, subst₂, arith, div-lt_iff_lt-mul}
use Rattle.std.specs.Map.{lookup}
use Rattle.std.proofs.lemmas.Bool.Decides.{nat_tests}
use Rattle.indexmap.specs.IndexMap.{insert_entry}
use Rattle.tr101290.specs.Distances.{DistanceState, end_at, extension_key, is_spaced, taken, time_within, too_soon}
use Rattle.tr101290.specs.Distances as distances
use Rattle.tr101290.specs.declared.distances.TheConstants.{LEAST_DISTANCE}
use Rattle.tr101290.specs.declared.distances.WholeSection.{WholeSection}
use Rattle.tr101290.specs.declared.intervals.TableError.{TableError}
use Rattle.tr101290.specs.declared.intervals.TableTiming.{TableTiming}
use Rattle.laws_view.specs.SectionHistories.{EachTooSoon, HaveExtensions, NearLaw, OnlyTooSoon, error_after, errors_of, same_table, state_of}
use Rattle.laws_view.specs.SectionHistories.{table_count}
use Rattle.laws_view.proofs.GivenItems.{found_at, finds, given_at, given_in, no_true}
use Rattle.laws_view.proofs.InsertedEntries.{same_number}
use Rattle.laws_view.proofs.InsertedEntries as entries

-- 1. Sections of one table have one key

and_parts : (a b : Bool) → (a && b) ≡ true → (a ≡ true) × (b ≡ true)
and_parts true b e = (refl, e)
and_parts false b e = absurd (no_true e)

both : (a b : Bool) → a ≡ true → b ≡ true → (a && b) ≡ true
both true b e f = f
both false b e f = e

itself : (a : ℕ) → (a == a) ≡ true
itself a = grind (arith, nat_tests)

low_table : (pid table_id : ℕ) → is_spaced pid table_id ≡ true → table_id < 256
low_table pid table_id e = by (nat_le 0x10 pid) (nat_le pid 0x14) (nat_le 0x40 table_id) (nat_le table_id 0x73) refl (not (table_id == 0x72)) e
  where
    by : (a b c d : Bool) → nat_le table_id 0x73 ≡ d → (f : Bool) → (a && b && c && d && f) ≡ true → table_id < 256
    by true true true true s f h = let low : table_id ≤ 0x73 = grind (arith, nat_tests) in omega (arith, low)
    by true true true false s f h = absurd (no_true h)
    by true true false d s f h = absurd (no_true h)
    by true false c d s f h = absurd (no_true h)
    by false b c d s f h = absurd (no_true h)

same_numbers : (p t e q u f : ℕ) → t < 256 → u < 256 → e < 65536 → f < 65536 → (p * 256 + t) * 65536 + e ≡ (q * 256 + u) * 65536 + f →
    (p ≡ q) × (t ≡ u) × (e ≡ f)
same_numbers p t e q u f a b c d h = (omega (arith, a, b, c, d, h), omega (arith, a, b, c, d, h), omega (arith, a, b, c, d, h))

abbrev is_of : ℕ → WholeSection → Bool
is_of key x = is_spaced x.begin.pid x.begin.table_id && (extension_key x == key)

module _ (a b : WholeSection) (e : is_spaced a.begin.pid a.begin.table_id ≡ true) (l : a.extension < 65536) (m : b.extension < 65536) where
  key_if_same : same_table a b ≡ true → is_of (extension_key a) b ≡ true
  key_if_same h =
      let p = and_parts (b.begin.pid == a.begin.pid) ((b.begin.table_id == a.begin.table_id) && (b.extension == a.extension)) h in
      let q = and_parts (b.begin.table_id == a.begin.table_id) (b.extension == a.extension) p.1 in
      let pid : b.begin.pid ≡ a.begin.pid = same_number b.begin.pid a.begin.pid p.0 in
      let table : b.begin.table_id ≡ a.begin.table_id = same_number b.begin.table_id a.begin.table_id q.0 in
      let extension : b.extension ≡ a.extension = same_number b.extension a.extension q.1 in
      let key : extension_key b ≡ extension_key a =
      ap₂ (λ (x y : ℕ). (x * 256 + y) * 65536 + b.extension) pid table
      ∙ ap (λ (z : ℕ). (a.begin.pid * 256 + a.begin.table_id) * 65536 + z) extension in
      both (is_spaced b.begin.pid b.begin.table_id) (extension_key b == extension_key a)
      (ap₂ (λ (x y : ℕ). is_spaced x y) pid table ∙ e)
      (ap (λ (k : ℕ). k == extension_key a) key ∙ itself (extension_key a))

  same_if_key : is_of (extension_key a) b ≡ true → same_table a b ≡ true
  same_if_key h =
      let p = and_parts (is_spaced b.begin.pid b.begin.table_id) (extension_key b == extension_key a) h in
      let n = same_numbers b.begin.pid b.begin.table_id b.extension a.begin.pid a.begin.table_id a.extension
      (low_table b.begin.pid b.begin.table_id p.0) (low_table a.begin.pid a.begin.table_id e) m l
      (same_number (extension_key b) (extension_key a) p.1) in
      both (b.begin.pid == a.begin.pid) ((b.begin.table_id == a.begin.table_id) && (b.extension == a.extension))
      (ap (λ (k : ℕ). k == a.begin.pid) n.0 ∙ itself a.begin.pid)
      (both (b.begin.table_id == a.begin.table_id) (b.extension == a.extension)
      (ap (λ (k : ℕ). k == a.begin.table_id) n.1 ∙ itself a.begin.table_id)
      (ap (λ (k : ℕ). k == a.extension) n.2 ∙ itself a.extension))

  same_test : same_table a b ≡ is_of (extension_key a) b
  same_test = by (same_table a b) (is_of (extension_key a) b) refl refl
    where
      by : (s t : Bool) → same_table a b ≡ s → is_of (extension_key a) b ≡ t → s ≡ t
      by true true f g = refl
      by false false f g = refl
      by true false f g = absurd (no_true (sym g ∙ key_if_same f))
      by false true f g = absurd (no_true (sym f ∙ same_if_key g))

same_find : (a : WholeSection) (earlier : List WholeSection) → is_spaced a.begin.pid a.begin.table_id ≡ true → a.extension < 65536 →
    HaveExtensions earlier → find (same_table a) earlier ≡ find (is_of (extension_key a)) earlier
same_find a [] e l h = refl
same_find a (b ∷ earlier) e l h =
    ap₂ (λ (t : Bool) (o : Option WholeSection). cond t (Some b) o) (same_test a b e l h.0) (same_find a earlier e l h.1)

-- 2. One section

abbrev inserted : DistanceState → WholeSection → DistanceState
inserted s x = record { timing = s.timing; ends = insert_entry nat_eq s.ends (extension_key x) x.end }

abbrev keeps : DistanceState → WholeSection → Bool
keeps s x = is_some (end_at s x) || nat_lt (length s.ends) 65536

abbrev kept_if : DistanceState → WholeSection → DistanceState
kept_if s x = distances.kept s (extension_key x) (is_some (end_at s x)) x.end

stored : (s : DistanceState) (x : WholeSection) → is_spaced x.begin.pid x.begin.table_id ≡ true → keeps s x ≡ true → taken s x ≡ inserted s x
stored s x e f = ap (λ (t : Bool). cond t (kept_if s x) s) e ∙ ap (λ (t : Bool). cond t (inserted s x) s) f

passed : (s : DistanceState) (x : WholeSection) → is_spaced x.begin.pid x.begin.table_id ≡ true → keeps s x ≡ false → taken s x ≡ s
passed s x e f = ap (λ (t : Bool). cond t (kept_if s x) s) e ∙ ap (λ (t : Bool). cond t (inserted s x) s) f

other : (s : DistanceState) (x : WholeSection) → is_spaced x.begin.pid x.begin.table_id ≡ false → taken s x ≡ s
other s x e = ap (λ (t : Bool). cond t (kept_if s x) s) e

timing_stays : (s : DistanceState) (x : WholeSection) → (taken s x).timing ≡ s.timing
timing_stays s x = by (is_spaced x.begin.pid x.begin.table_id) (keeps s x)
  where
    by : (t u : Bool) → (cond t (cond u (inserted s x) s) s).timing ≡ s.timing
    by true true = refl
    by true false = refl
    by false u = refl

same_timing : (timing : TableTiming) (earlier : List WholeSection) → (state_of timing earlier).timing ≡ timing
unfolding state_of
same_timing timing [] = refl
same_timing timing (x ∷ earlier) = timing_stays (state_of timing earlier) x ∙ same_timing timing earlier

abbrev last_end : ℕ → List WholeSection → Option ℕ
last_end key earlier = option_map (λ (x : WholeSection). x.end) (find (is_of key) earlier)

-- the last end of a key after a section, by what is known of the section
last_by : (key : ℕ) (x : WholeSection) (earlier : List WholeSection) (t u : Bool) → is_spaced x.begin.pid x.begin.table_id ≡ t →
    (extension_key x == key) ≡ u →
    last_end key (x ∷ earlier) ≡ option_map (λ (y : WholeSection). y.end) (cond (t && u) (Some x) (find (is_of key) earlier))
last_by key x earlier t u e f =
    ap₂ (λ (a b : Bool). option_map (λ (y : WholeSection). y.end) (cond (a && b) (Some x) (find (is_of key) earlier))) e f

unspaced : (key : ℕ) (x : WholeSection) (earlier : List WholeSection) → is_spaced x.begin.pid x.begin.table_id ≡ false →
    last_end key (x ∷ earlier) ≡ last_end key earlier
unspaced key x earlier e = last_by key x earlier false (extension_key x == key) e refl

-- 3. An end that is kept is the end of the last section of its key

abbrev Sound : ℕ → DistanceState → List WholeSection → Type 0
Sound key s earlier = (lookup (nat_eq key) s.ends ≡ None) ⊎ (lookup (nat_eq key) s.ends ≡ last_end key earlier)

not_left : (a b : Bool) → (a || b) ≡ false → a ≡ false
not_left false b e = refl
not_left true b e = absurd (no_true (sym e))

none_if : (o : Option ℕ) → is_some o ≡ false → o ≡ None
none_if None e = refl
none_if (Some n) e = absurd (no_true (sym e))

sound_after : (key : ℕ) (s : DistanceState) (x : WholeSection) (earlier : List WholeSection) → Sound key s earlier → Sound key (taken s x) (x ∷ earlier)
sound_after key s x earlier h = by (is_spaced x.begin.pid x.begin.table_id) refl (keeps s x) refl
  where
    stored_sound : is_spaced x.begin.pid x.begin.table_id ≡ true → (t : Bool) → (extension_key x == key) ≡ t → Sound key (inserted s x) (x ∷ earlier)
    stored_sound e true g = inr (entries.kept key (extension_key x) x.end s.ends true g ∙ sym (last_by key x earlier true true e g))
    stored_sound e false g = ⊎_elim (λ n. inl (entries.kept key (extension_key x) x.end s.ends false g ∙ n))
        (λ n. inr (entries.kept key (extension_key x) x.end s.ends false g ∙ n ∙ sym (last_by key x earlier true false e g))) h

    passed_sound : is_spaced x.begin.pid x.begin.table_id ≡ true → keeps s x ≡ false → (t : Bool) → (extension_key x == key) ≡ t → Sound key s (x ∷ earlier)
    passed_sound e f true g = inl (subst (λ (k : ℕ). lookup (nat_eq k) s.ends ≡ None) (same_number (extension_key x) key g)
        (none_if (end_at s x) (not_left (is_some (end_at s x)) (nat_lt (length s.ends) 65536) f)))
    passed_sound e f false g = ⊎_elim (λ n. inl n) (λ n. inr (n ∙ sym (last_by key x earlier true false e g))) h

    by : (t : Bool) → is_spaced x.begin.pid x.begin.table_id ≡ t → (u : Bool) → keeps s x ≡ u → Sound key (taken s x) (x ∷ earlier)
    by false e u f = subst (λ (d : DistanceState). Sound key d (x ∷ earlier)) (sym (other s x e))
        (⊎_elim (λ n. inl n) (λ n. inr (n ∙ sym (unspaced key x earlier e))) h)
    by true e true f =
        subst (λ (d : DistanceState). Sound key d (x ∷ earlier)) (sym (stored s x e f)) (stored_sound e (extension_key x == key) refl)
    by true e false f =
        subst (λ (d : DistanceState). Sound key d (x ∷ earlier)) (sym (passed s x e f)) (passed_sound e f (extension_key x == key) refl)

sound : (timing : TableTiming) (key : ℕ) (earlier : List WholeSection) → Sound key (state_of timing earlier) earlier
unfolding state_of
sound timing key [] = inl refl
sound timing key (x ∷ earlier) = sound_after key (state_of timing earlier) x earlier (sound timing key earlier)

-- 4. All ends are kept if there are not too many tables

new_length : (k v : ℕ) (es : List (ℕ × ℕ)) → lookup (nat_eq k) es ≡ None → length (insert_entry nat_eq es k v) ≡ length es + 1
new_length k v [] e = refl
new_length k v (y ∷ es) e = by (k == y.0) e (λ h. new_length k v es h)
  where
    by : (t : Bool) → cond t (Some y.1) (lookup (nat_eq k) es) ≡ None →
        (lookup (nat_eq k) es ≡ None → length (insert_entry nat_eq es k v) ≡ length es + 1) →
        length (cond t ((y.0, v) ∷ es) (y ∷ insert_entry nat_eq es k v)) ≡ length (y ∷ es) + 1
    by true h rest = absurd cc
    by false h rest = let r = rest h in omega (arith, r)

same_length : (k v w : ℕ) (es : List (ℕ × ℕ)) → lookup (nat_eq k) es ≡ Some w → length (insert_entry nat_eq es k v) ≡ length es
same_length k v w [] e = absurd cc
same_length k v w (y ∷ es) e = by (k == y.0) e (λ h. same_length k v w es h)
  where
    by : (t : Bool) → cond t (Some y.1) (lookup (nat_eq k) es) ≡ Some w →
        (lookup (nat_eq k) es ≡ Some w → length (insert_entry nat_eq es k v) ≡ length es) →
        length (cond t ((y.0, v) ∷ es) (y ∷ insert_entry nat_eq es k v)) ≡ length (y ∷ es)
    by true h rest = refl
    by false h rest = ap suc (rest h)

record IsExact (s : DistanceState) (earlier : List WholeSection) : Type 0 where
  ends : (key : ℕ) → lookup (nat_eq key) s.ends ≡ last_end key earlier
  count : length s.ends ≡ table_count earlier

count_by_parts : (x : WholeSection) (earlier : List WholeSection) (t : Bool) (o : Option WholeSection) → is_spaced x.begin.pid x.begin.table_id ≡ t →
    find (same_table x) earlier ≡ o → table_count (x ∷ earlier) ≡ cond (t && is_none o) (table_count earlier + 1) (table_count earlier)
unfolding table_count
count_by_parts x earlier t o e f =
    ap₂ (λ (a : Bool) (b : Option WholeSection). cond (a && is_none b) (table_count earlier + 1) (table_count earlier)) e f

module _ (s : DistanceState) (x : WholeSection) (earlier : List WholeSection) (h : HaveExtensions (x ∷ earlier)) (few : table_count (x ∷ earlier) ≤ 65536)
    (now : IsExact s earlier) where
  own_end : (o : Option WholeSection) → is_spaced x.begin.pid x.begin.table_id ≡ true → find (same_table x) earlier ≡ o →
      end_at s x ≡ option_map (λ (y : WholeSection). y.end) o
  own_end o e f = now.ends (extension_key x) ∙ ap (option_map (λ (y : WholeSection). y.end)) (sym (same_find x earlier e h.0 h.1) ∙ f)

  has_room : (o : Option WholeSection) → is_spaced x.begin.pid x.begin.table_id ≡ true → find (same_table x) earlier ≡ o → keeps s x ≡ true
  has_room (Some b) e f = ap (λ (q : Option ℕ). is_some q || nat_lt (length s.ends) 65536) (own_end (Some b) e f)
  has_room None e f =
      let counted : table_count earlier + 1 ≤ 65536 = subst (λ (n : ℕ). n ≤ 65536) (count_by_parts x earlier true None e f) few in
      let same : length s.ends ≡ table_count earlier = now.count in
      let less : length s.ends < 65536 = omega (arith, counted, same) in
      let test : nat_lt (length s.ends) 65536 ≡ true = grind (arith, nat_tests) in
      ap (λ (q : Option ℕ). is_some q || nat_lt (length s.ends) 65536) (own_end None e f) ∙ test

  length_after : (o : Option WholeSection) → is_spaced x.begin.pid x.begin.table_id ≡ true → find (same_table x) earlier ≡ o →
      length (insert_entry nat_eq s.ends (extension_key x) x.end) ≡ table_count (x ∷ earlier)
  length_after None e f =
      new_length (extension_key x) x.end s.ends (own_end None e f) ∙ ap (λ (n : ℕ). n + 1) now.count ∙ sym (count_by_parts x earlier true None e f)
  length_after (Some b) e f =
      same_length (extension_key x) x.end b.end s.ends (own_end (Some b) e f) ∙ now.count ∙ sym (count_by_parts x earlier true (Some b) e f)

  end_after : (key : ℕ) (t : Bool) → is_spaced x.begin.pid x.begin.table_id ≡ true → (extension_key x == key) ≡ t →
      lookup (nat_eq key) (inserted s x).ends ≡ last_end key (x ∷ earlier)
  end_after key true e g = entries.kept key (extension_key x) x.end s.ends true g ∙ sym (last_by key x earlier true true e g)
  end_after key false e g =
      entries.kept key (extension_key x) x.end s.ends false g ∙ now.ends key ∙ sym (last_by key x earlier true false e g)

  exact_after : (t : Bool) → is_spaced x.begin.pid x.begin.table_id ≡ t → IsExact (taken s x) (x ∷ earlier)
  exact_after false e = subst (λ (d : DistanceState). IsExact d (x ∷ earlier)) (sym (other s x e)) (record {
    ends = λ key. now.ends key ∙ sym (unspaced key x earlier e);
    count = now.count ∙ sym (count_by_parts x earlier false (find (same_table x) earlier) e refl);
  })
  exact_after true e =
      subst (λ (d : DistanceState). IsExact d (x ∷ earlier)) (sym (stored s x e (has_room (find (same_table x) earlier) e refl))) (record {
        ends = λ key. end_after key (extension_key x == key) e refl;
        count = length_after (find (same_table x) earlier) e refl;
      })

none_exact : (timing : TableTiming) → IsExact (state_of timing []) []
unfolding state_of table_count
none_exact timing = record { ends = λ key. refl; count = refl }

fewer : (later earlier : List WholeSection) → table_count earlier ≤ table_count (later ++ earlier)
unfolding table_count
fewer [] earlier = omega arith
fewer (x ∷ later) earlier = by (is_spaced x.begin.pid x.begin.table_id && is_none (find (same_table x) (later ++ earlier))) (fewer later earlier)
  where
    by : (t : Bool) → table_count earlier ≤ table_count (later ++ earlier) →
        table_count earlier ≤ cond t (table_count (later ++ earlier) + 1) (table_count (later ++ earlier))
    by true h = omega (arith, h)
    by false h = h

suffix : (later earlier : List WholeSection) → HaveExtensions (later ++ earlier) → HaveExtensions earlier
suffix [] earlier h = h
suffix (x ∷ later) earlier h = suffix later earlier h.1

exact : (timing : TableTiming) (earlier : List WholeSection) → HaveExtensions earlier → table_count earlier ≤ 65536 → IsExact (state_of timing earlier) earlier
unfolding state_of
exact timing [] h few = none_exact timing
exact timing (x ∷ earlier) h few =
    let less : table_count earlier ≤ table_count (x ∷ earlier) = fewer (x ∷ []) earlier in
    exact_after (state_of timing earlier) x earlier h few (exact timing earlier h.1 (omega (arith, less, few))) (is_spaced x.begin.pid x.begin.table_id) refl

-- 5. The error of a section

abbrev soon : TableTiming → WholeSection → ℕ → TableError
soon timing x before = record { section = x.begin; value = time_within timing (x.begin.place - before); limit = LEAST_DISTANCE }

record SoonAfter (timing : TableTiming) (x : WholeSection) (o : Option ℕ) (error : TableError) : Type 0 where
  before : ℕ
  there : o ≡ Some before
  near : time_within timing (x.begin.place - before) < LEAST_DISTANCE
  named : error ≡ soon timing x before

soon_after : (timing : TableTiming) (x : WholeSection) (o : Option ℕ) (error : TableError) → too_soon timing x o ≡ Some error → SoonAfter timing x o error
unfolding too_soon
soon_after timing x None error e = absurd cc
soon_after timing x (Some b) error e = by (nat_lt (time_within timing (x.begin.place - b)) LEAST_DISTANCE) refl e
  where
    by : (t : Bool) → nat_lt (time_within timing (x.begin.place - b)) LEAST_DISTANCE ≡ t → cond t (Some (soon timing x b)) None ≡ Some error →
        SoonAfter timing x (Some b) error
    by true s h =
        let near : time_within timing (x.begin.place - b) < LEAST_DISTANCE = grind (arith, nat_tests) in
        let named : error ≡ soon timing x b = cc in
        record { before = b; there = refl; near = near; named = named }
    by false s h = absurd cc

soon_is : (timing : TableTiming) (x : WholeSection) (b : ℕ) → time_within timing (x.begin.place - b) < LEAST_DISTANCE →
    too_soon timing x (Some b) ≡ Some (soon timing x b)
unfolding too_soon
soon_is timing x b n =
    let test : nat_lt (time_within timing (x.begin.place - b)) LEAST_DISTANCE ≡ true = grind (arith, nat_tests) in
    ap (λ (t : Bool). cond t (Some (soon timing x b)) None) test

of_end : (o : Option WholeSection) (b : ℕ) → option_map (λ (x : WholeSection). x.end) o ≡ Some b → (x : WholeSection) × (o ≡ Some x) × (x.end ≡ b)
of_end None b e = absurd cc
of_end (Some x) b e = let same : x.end ≡ b = cc in (x, refl, same)

no_some : (o : Option ℕ) (b : ℕ) → o ≡ None → o ≡ Some b → ⊥
no_some o b e f = absurd cc

-- 6. The laws

module _ (timing : TableTiming) (item : WholeSection) (earlier : List WholeSection) (error : TableError) (l : item.extension < 65536)
    (h : HaveExtensions earlier) where
  abbrev before_item : DistanceState
  before_item = state_of timing earlier

  record SoonItem : Type 0 where
    before : WholeSection
    found : find (same_table item) earlier ≡ Some before
    spaced : is_spaced item.begin.pid item.begin.table_id ≡ true
    near : time_within timing (item.begin.place - before.end) < LEAST_DISTANCE
    named : error ≡ soon timing item before.end

  by_end : is_spaced item.begin.pid item.begin.table_id ≡ true → SoonAfter before_item.timing item (end_at before_item item) error →
      Sound (extension_key item) before_item earlier → SoonItem
  by_end e r (inl n) = absurd (no_some (end_at before_item item) r.before n r.there)
  by_end e r (inr n) =
      let w = of_end (find (same_table item) earlier) r.before
      (ap (option_map (λ (x : WholeSection). x.end)) (same_find item earlier e l h) ∙ sym n ∙ r.there) in
      record {
        before = w.0;
        found = w.1;
        spaced = e;
        near = subst₂ (λ (t : TableTiming) (b : ℕ). time_within t (item.begin.place - b) < LEAST_DISTANCE) (same_timing timing earlier) (sym w.2) r.near;
        named = r.named ∙ ap₂ (λ (t : TableTiming) (b : ℕ). soon t item b) (same_timing timing earlier) (sym w.2);
      }

  soon_item : error_after timing earlier item ≡ Some error → SoonItem
  soon_item e = by (is_spaced item.begin.pid item.begin.table_id) refl e
    where
      by : (t : Bool) → is_spaced item.begin.pid item.begin.table_id ≡ t →
          cond t (too_soon before_item.timing item (end_at before_item item)) None ≡ Some error → SoonItem
      by false f g = absurd cc
      by true f g =
          by_end f (soon_after before_item.timing item (end_at before_item item) error g) (sound timing (extension_key item) earlier)

  gives : table_count earlier ≤ 65536 → SoonItem → error_after timing earlier item ≡ Some error
  gives few r =
      ap (λ (t : Bool). cond t (too_soon before_item.timing item (end_at before_item item)) None) r.spaced
      ∙ ap₂ (λ (t : TableTiming) (o : Option ℕ). too_soon t item o) (same_timing timing earlier) there
      ∙ soon_is timing item r.before.end r.near
      ∙ ap (λ (e : TableError). Some e) (sym r.named)
    where
      there : end_at before_item item ≡ Some r.before.end
      there = (exact timing earlier h few).ends (extension_key item)
          ∙ ap (option_map (λ (x : WholeSection). x.end)) (sym (same_find item earlier r.spaced l h) ∙ r.found)

pub only_law : OnlyTooSoon
only_law timing sections error h c =
    let r = given_at (error_after timing) error sections c in
    let m = suffix r.later (r.item ∷ r.earlier) (subst HaveExtensions r.parts h) in
    let s = soon_item timing r.item r.earlier error m.0 m.1 r.gives in
    let f = found_at (same_table r.item) s.before r.earlier s.found in
    record {
      before = s.before;
      section = r.item;
      follows = record {
        later = r.later;
        between = f.between;
        earlier = f.earlier;
        parts = r.parts ∙ ap (λ (rest : List WholeSection). r.later ++ r.item ∷ rest) f.parts;
        alike = f.passes;
        none_between = f.none_between;
      };
      spaced = s.spaced;
      near = s.near;
      named = s.named;
    }

pub each_law : EachTooSoon
each_law timing sections error h few r =
    subst (λ (all : List WholeSection). Contains (errors_of timing all) error) (sym r.follows.parts)
    (given_in (error_after timing) error r.follows.later r.section rest (gives timing r.section rest error m.0 m.1 less item))
  where
    rest : List WholeSection
    rest = r.follows.between ++ r.before ∷ r.follows.earlier

    m : HaveExtensions (r.section ∷ rest)
    m = suffix r.follows.later (r.section ∷ rest) (subst HaveExtensions r.follows.parts h)

    less : table_count rest ≤ 65536
    less =
        let all : table_count (r.follows.later ++ r.section ∷ rest) ≤ 65536 = subst (λ (l : List WholeSection). table_count l ≤ 65536) r.follows.parts few in
        let a : table_count (r.section ∷ rest) ≤ table_count (r.follows.later ++ r.section ∷ rest) = fewer r.follows.later (r.section ∷ rest) in
        let b : table_count rest ≤ table_count (r.section ∷ rest) = fewer (r.section ∷ []) rest in
        omega (arith, all, a, b)

    item : SoonItem timing r.section rest error m.0 m.1
    item = record {
      before = r.before;
      found = finds (same_table r.section) r.before r.follows.between r.follows.earlier r.follows.alike r.follows.none_between;
      spaced = r.spaced;
      near = r.near;
      named = r.named;
    }

pub near_law : NearLaw
near_law rate packets limit some = (λ m. (div-lt_iff_lt-mul some).0 m, λ m. (div-lt_iff_lt-mul some).1 m)
