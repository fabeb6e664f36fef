-- Pairs of numbers, which are the keys of programs and streams.
use Rattle.std.proofs.Common.{◌≡◌, ◌<◌, ℕ, ◌+◌, ◌*◌, ◌==◌, ◌||◌, ◌&&◌, nat_eq, cond, Bool, true, false, List, [], ◌∷◌, ◌++◌, Option, Some, refl, sym, ap}
use Rattle.std.proofs.Common.{ap₂, ◌∙◌}
use Rattle.std.specs.Prelude.{is_some}
use Rattle.std.specs.List.{list_any}
use Rattle.std.specs.Map.{lookup}
use Rattle.std.proofs.lemmas.List.Folds.{list_any-append}
use Rattle.indexmap.specs.IndexMap.{insert_entry}
use Rattle.stream_programs.specs.Streams.{FoundStreamView, holder, is_shared_with, is_stream_of, shared_by, with_sharer}
use Rattle.stream_programs.specs.Programs.{FoundProgramView, FoundProgramsView, can_share, shares}
use Rattle.stream_programs.specs.NumberPairs.{ArePairs, is_pair, pair_key}
use Rattle.program_tables.proofs.MapKeys.{apart, inserted, same_number, same_pid, same_rest}

-- 1. One more pair

both : (pid number p n : ℕ) (k u v : Bool) → number < 65_536 → n < 65_536 → (pair_key pid number == pair_key p n) ≡ k → (pid == p) ≡ u → (number == n) ≡ v →
    k ≡ (u && v)
both pid number p n true true true low below e f g = refl
both pid number p n true true false low below e f g =
    absurd (apart number n (same_rest pid number p n low below (same_number (pair_key pid number) (pair_key p n) e)) g)
both pid number p n true false v low below e f g =
    absurd (apart pid p (same_pid pid number p n low below (same_number (pair_key pid number) (pair_key p n) e)) f)
both pid number p n false true true low below e f g =
    absurd (apart (pair_key pid number) (pair_key p n) (ap₂ (λ (i j : ℕ). i * 65_536 + j) (same_number pid p f) (same_number number n g)) e)
both pid number p n false true false low below e f g = refl
both pid number p n false false v low below e f g = refl

same_key : (pid number p n : ℕ) → number < 65_536 → n < 65_536 → (pair_key pid number == pair_key p n) ≡ (pid == p && number == n)
same_key pid number p n low below = both pid number p n (pair_key pid number == pair_key p n) (pid == p) (number == n) low below refl refl refl

or_found : (t b : Bool) (x : ℕ) (o : Option ℕ) → is_some o ≡ b → is_some (cond t (Some x) o) ≡ (b || t)
or_found true true x o is = refl
or_found true false x o is = refl
or_found false true x o is = is
or_found false false x o is = is

one_more : (es : List (ℕ × ℕ)) (pid number x p n : ℕ) (had : Bool) → number < 65_536 → n < 65_536 → is_pair es p n ≡ had →
    is_pair (insert_entry nat_eq es (pair_key pid number) x) p n ≡ (had || (pid == p && number == n))
one_more es pid number x p n had low below is =
    ap (λ (o : Option ℕ). is_some o) (inserted (pair_key p n) (pair_key pid number) x es (pair_key pid number == pair_key p n) refl)
    ∙ or_found (pair_key pid number == pair_key p n) had x (lookup (nat_eq (pair_key p n)) es) is
    ∙ ap (λ (t : Bool). had || t) (same_key pid number p n low below)

-- 2. One more stream, which no program shares yet

and_false : (b : Bool) → (b && false) ≡ false
and_false true = refl
and_false false = refl

or_false : (b : Bool) → (b || false) ≡ b
or_false true = refl
or_false false = refl

no_sharer : (n : ℕ) (s : FoundStreamView) → s.shared_with ≡ [] → is_shared_with n s ≡ false
unfolding is_shared_with
no_sharer n s none = ap (λ (ns : List ℕ). list_any (λ (m : ℕ). m == n) ns) none

shares_kept : (n p : ℕ) (streams : List FoundStreamView) (s : FoundStreamView) → s.shared_with ≡ [] → shares (streams ++ s ∷ []) n p ≡ shares streams n p
unfolding shares
shares_kept n p streams s none =
    let test : FoundStreamView → Bool = λ (t : FoundStreamView). t.pid == p && is_shared_with n t in
    list_any-append test streams (s ∷ [])
    ∙ ap (λ (b : Bool). list_any test streams || ((s.pid == p && b) || false)) (no_sharer n s none)
    ∙ ap (λ (b : Bool). list_any test streams || (b || false)) (and_false (s.pid == p)) ∙ or_false (list_any test streams)

has_kept : (n : ℕ) (streams : List FoundStreamView) (s : FoundStreamView) → s.shared_with ≡ [] →
    list_any (is_stream_of n) (streams ++ s ∷ []) ≡ (list_any (is_stream_of n) streams || (0 == 0 && s.program == n))
unfolding is_stream_of
has_kept n streams s none =
    list_any-append (is_stream_of n) streams (s ∷ [])
    ∙ ap (λ (b : Bool). list_any (is_stream_of n) streams || ((s.program == n || b) || false)) (no_sharer n s none)
    ∙ ap (λ (b : Bool). list_any (is_stream_of n) streams || b) (or_false (s.program == n || false) ∙ or_false (s.program == n))

pub kept : (sharers owners owned clocks : List (ℕ × ℕ)) (streams after : List FoundStreamView) (programs : List FoundProgramView) (s : FoundStreamView)
    (number x : ℕ) → owned ≡ insert_entry nat_eq owners (pair_key 0 number) x → after ≡ streams ++ s ∷ [] → number < 65_536 → s.program ≡ number →
    s.shared_with ≡ [] → ArePairs sharers owners clocks streams programs → ArePairs sharers owned clocks after programs
kept sharers owners owned clocks streams after programs s number x more longer low own none are = rw (more, longer) (record {
  shared = λ n pid below. are.shared n pid below ∙ sym (shares_kept n pid streams s none);
  owned = λ n below.
      one_more owners 0 number x 0 n (list_any (is_stream_of n) streams) low below (are.owned n below)
      ∙ ap (λ (m : ℕ). list_any (is_stream_of n) streams || (0 == 0 && m == n)) (sym own) ∙ sym (has_kept n streams s none);
  clocked = are.clocked;
})

-- 3. One more program that shares a stream

shares_more : (a b c rest : Bool) → ((a && (b || (c || false))) || rest) ≡ (((a && b) || rest) || (a && c))
shares_more true true c true = refl
shares_more true true c false = refl
shares_more true false true true = refl
shares_more true false true false = refl
shares_more true false false true = refl
shares_more true false false false = refl
shares_more false b c true = refl
shares_more false b c false = refl

or_both : (a b c : Bool) → (a || (b || c)) ≡ ((a || b) || c)
or_both true b c = refl
or_both false b c = refl

-- The first stream, whether or not it has the PID, and the later streams.
shares_at : (own : Bool) (number pid n p : ℕ) (s : FoundStreamView) (ss : List FoundStreamView) → (s.pid == pid) ≡ own →
    (own ≡ false → shares (shared_by number pid ss) n p ≡ (shares ss n p || (pid == p && number == n))) →
    shares (cond own (with_sharer number s ∷ ss) (s ∷ shared_by number pid ss)) n p ≡ (shares (s ∷ ss) n p || (pid == p && number == n))
unfolding shares is_shared_with
shares_at true number pid n p s ss own later =
    let had : Bool = list_any (λ (m : ℕ). m == n) s.shared_with in
    ap (λ (b : Bool). (s.pid == p && b) || shares ss n p) (list_any-append (λ (m : ℕ). m == n) s.shared_with (number ∷ []))
    ∙ shares_more (s.pid == p) had (number == n) (shares ss n p)
    ∙ ap (λ (m : ℕ). shares (s ∷ ss) n p || (m == p && number == n)) (same_number s.pid pid own)
shares_at false number pid n p s ss own later =
    ap (λ (b : Bool). (s.pid == p && is_shared_with n s) || b) (later refl)
    ∙ or_both (s.pid == p && is_shared_with n s) (shares ss n p) (pid == p && number == n)

-- If the first stream does not have the PID, the holder is a later stream.
held_later : (own : Bool) (x : ℕ) (o : Option ℕ) → is_some (cond own (Some x) o) ≡ true → own ≡ false → is_some o ≡ true
held_later true x o held other = absurd cc
held_later false x o held other = held

shares_by : (number pid n p : ℕ) (streams : List FoundStreamView) → is_some (holder pid streams) ≡ true →
    shares (shared_by number pid streams) n p ≡ (shares streams n p || (pid == p && number == n))
unfolding shared_by holder
shares_by number pid n p [] held = absurd cc
shares_by number pid n p (s ∷ ss) held =
    shares_at (s.pid == pid) number pid n p s ss refl
    (λ other. shares_by number pid n p ss (held_later (s.pid == pid) s.program (holder pid ss) held other))

has_more : (a b c rest : Bool) → ((a || (b || (c || false))) || rest) ≡ (((a || b) || rest) || c)
has_more true b c rest = refl
has_more false true c rest = refl
has_more false false true true = refl
has_more false false true false = refl
has_more false false false true = refl
has_more false false false false = refl

has_at : (own : Bool) (number pid n : ℕ) (s : FoundStreamView) (ss : List FoundStreamView) →
    (own ≡ false → list_any (is_stream_of n) (shared_by number pid ss) ≡ (list_any (is_stream_of n) ss || (0 == 0 && number == n))) →
    list_any (is_stream_of n) (cond own (with_sharer number s ∷ ss) (s ∷ shared_by number pid ss))
    ≡ (list_any (is_stream_of n) (s ∷ ss) || (0 == 0 && number == n))
unfolding is_stream_of is_shared_with
has_at true number pid n s ss later =
    let had : Bool = list_any (λ (m : ℕ). m == n) s.shared_with in
    ap (λ (b : Bool). (s.program == n || b) || list_any (is_stream_of n) ss) (list_any-append (λ (m : ℕ). m == n) s.shared_with (number ∷ []))
    ∙ has_more (s.program == n) had (number == n) (list_any (is_stream_of n) ss)
has_at false number pid n s ss later =
    ap (λ (b : Bool). is_stream_of n s || b) (later refl)
    ∙ or_both (is_stream_of n s) (list_any (is_stream_of n) ss) (0 == 0 && number == n)

has_by : (number pid n : ℕ) (streams : List FoundStreamView) → is_some (holder pid streams) ≡ true →
    list_any (is_stream_of n) (shared_by number pid streams) ≡ (list_any (is_stream_of n) streams || (0 == 0 && number == n))
unfolding shared_by holder
has_by number pid n [] held = absurd cc
has_by number pid n (s ∷ ss) held =
    has_at (s.pid == pid) number pid n s ss (λ other. has_by number pid n ss (held_later (s.pid == pid) s.program (holder pid ss) held other))

pub shared : (sharers owners more owned clocks : List (ℕ × ℕ)) (streams after : List FoundStreamView) (programs : List FoundProgramView)
    (number pid x y : ℕ) → more ≡ insert_entry nat_eq sharers (pair_key pid number) x → owned ≡ insert_entry nat_eq owners (pair_key 0 number) y →
    after ≡ shared_by number pid streams → number < 65_536 → is_some (holder pid streams) ≡ true → ArePairs sharers owners clocks streams programs →
    ArePairs more owned clocks after programs
shared sharers owners more owned clocks streams after programs number pid x y one other longer low held are = rw (one, other, longer) (record {
  shared = λ n p below. one_more sharers pid number x p n (shares streams n p) low below (are.shared n p below) ∙ sym (shares_by number pid n p streams held);
  owned = λ n below. one_more owners 0 number y 0 n (list_any (is_stream_of n) streams) low below (are.owned n below) ∙ sym (has_by number pid n streams held);
  clocked = are.clocked;
})

-- 4. One more program

turned : (b c : Bool) → ((b && c) || false) ≡ (c && b)
turned true true = refl
turned true false = refl
turned false true = refl
turned false false = refl

clocks_kept : (programs : List FoundProgramView) (p : FoundProgramView) (n pid : ℕ) →
    list_any (λ (q : FoundProgramView). q.number == n && q.pcr_pid == pid) (programs ++ p ∷ [])
    ≡ (list_any (λ (q : FoundProgramView). q.number == n && q.pcr_pid == pid) programs || (p.pcr_pid == pid && p.number == n))
clocks_kept programs p n pid =
    let test : FoundProgramView → Bool = λ (q : FoundProgramView). q.number == n && q.pcr_pid == pid in
    list_any-append test programs (p ∷ []) ∙ ap (λ (b : Bool). list_any test programs || b) (turned (p.number == n) (p.pcr_pid == pid))

pub clocked : (sharers owners clocks more : List (ℕ × ℕ)) (streams : List FoundStreamView) (programs after : List FoundProgramView) (p : FoundProgramView)
    (number pcr_pid x : ℕ) → more ≡ insert_entry nat_eq clocks (pair_key pcr_pid number) x → after ≡ programs ++ p ∷ [] → number < 65_536 →
    p.number ≡ number → p.pcr_pid ≡ pcr_pid → ArePairs sharers owners clocks streams programs → ArePairs sharers owners more streams after
clocked sharers owners clocks more streams programs after p number pcr_pid x one longer low its its_clock are = rw (one, longer) (record {
  shared = are.shared;
  owned = are.owned;
  clocked = λ n pid below.
      one_more clocks pcr_pid number x pid n (list_any (λ (q : FoundProgramView). q.number == n && q.pcr_pid == pid) programs) low below
      (are.clocked n pid below)
      ∙ ap₂ (λ (i j : ℕ). list_any (λ (q : FoundProgramView). q.number == n && q.pcr_pid == pid) programs || (i == pid && j == n)) (sym its_clock) (sym its)
      ∙ sym (clocks_kept programs p n pid);
})

first_of : (a b : Bool) → (a && b) ≡ true → a ≡ true
first_of true b e = refl
first_of false b e = e

-- A stream that a program can share has a holder.
pub held : (found : FoundProgramsView) (other pcr_pid : ℕ) (s : FoundStreamView) → can_share found other pcr_pid s ≡ true →
    is_some (holder s.pid found.streams) ≡ true
unfolding can_share
held found other pcr_pid s can = first_of (is_some (holder s.pid found.streams)) _ can

pub none : (sharers owners clocks : List (ℕ × ℕ)) (streams : List FoundStreamView) (programs : List FoundProgramView) → sharers ≡ [] → owners ≡ [] →
    clocks ≡ [] → streams ≡ [] → programs ≡ [] → ArePairs sharers owners clocks streams programs
unfolding shares
none sharers owners clocks streams programs a b c d e = rw (a, b, c, d, e) (record {
  shared = λ number pid below. refl;
  owned = λ number below. refl;
  clocked = λ number pid below. refl;
})
