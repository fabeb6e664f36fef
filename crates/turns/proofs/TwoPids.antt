-- Two runs that have the same packets on each of two PIDs have the same packets on both together, such as those that enter the buffers of a program's tables.
use Rattle.std.proofs.Common.{◌≡◌, ◌⊎◌, ℕ, zero, suc, ◌<◌, ◌||◌, Bool, true, false, List, ◌∷◌, map, filter, refl, sym, ap, ◌∙◌, inl, inr, arith}
use Rattle.std.proofs.lemmas.Bool.{cases_Bool}
use Rattle.ts_packet.specs.PidList.{Entry, is_of_pid, pid_list}
use Rattle.slot_contents.specs.Contents.{Content, view_of, run_bytes, entry_at}
use Rattle.slot_contents.specs.RunLaws.{Fits}
use Rattle.slot_contents.proofs.Runs.{all_entries, run_entries}
use Rattle.tstd.specs.Carried.{table_packets}
use Rattle.turns.proofs.TurnLists.{on, listed}

-- The packets of either PID
abbrev on_either : ℕ → ℕ → List Entry → List Entry
on_either p q es = filter (λ (entry : Entry). is_of_pid p entry.packet || is_of_pid q entry.packet) es

-- In one slot both runs have the same packet, or neither has one of the PID, and the rest is the same.
record Agree (pid : ℕ) (f g : ℕ → Content) (s n : ℕ) : Type 0 where
  here : (entry_at s (f s) ≡ entry_at s (g s)) ⊎ ((is_of_pid pid (view_of (f s)) ≡ false) × (is_of_pid pid (view_of (g s)) ≡ false))
  rest : on pid (all_entries f (suc s) n) ≡ on pid (all_entries g (suc s) n)

-- The packets of later slots do not begin with the packet of this slot.
not_first : (pid : ℕ) (f : ℕ → Content) (s t n : ℕ) (c : Content) (es : List Entry) → s < t → entry_at s c ∷ es ≡ on pid (all_entries f t n) → ⊥
unfolding all_entries
not_first pid f s t zero c es lt e = absurd (cc)
not_first pid f s t (suc n) c es lt e = elim (cases_Bool (is_of_pid pid (view_of (f t)))) [
  | inl y ↦
      let same : entry_at s c ∷ es ≡ entry_at t (f t) ∷ on pid (all_entries f (suc t) n) = e ∙ (rw y refl) in
      let slot : entry_at s c ≡ entry_at t (f t) = cc in
      absurd (omega (arith, lt, ap (λ (x : Entry). x.index) slot))
  | inr k ↦ not_first pid f s (suc t) n c es (omega (arith, lt)) (e ∙ (rw k refl))
]

agree : (pid : ℕ) (f g : ℕ → Content) (s n : ℕ) → on pid (all_entries f s (suc n)) ≡ on pid (all_entries g s (suc n)) → Agree pid f g s n
unfolding all_entries
agree pid f g s n same = by (is_of_pid pid (view_of (f s))) (is_of_pid pid (view_of (g s))) refl refl
  where
    kept : (h : ℕ → Content) → is_of_pid pid (view_of (h s)) ≡ true → on pid (entry_at s (h s) ∷ all_entries h (suc s) n) ≡ entry_at s (h s) ∷ on pid (all_entries h (suc s) n)
    kept h y = rw y refl

    left : (h : ℕ → Content) → is_of_pid pid (view_of (h s)) ≡ false → on pid (entry_at s (h s) ∷ all_entries h (suc s) n) ≡ on pid (all_entries h (suc s) n)
    left h k = rw k refl

    by : (x y : Bool) → is_of_pid pid (view_of (f s)) ≡ x → is_of_pid pid (view_of (g s)) ≡ y → Agree pid f g s n
    by true true a b =
        let both : entry_at s (f s) ∷ on pid (all_entries f (suc s) n) ≡ entry_at s (g s) ∷ on pid (all_entries g (suc s) n) = sym (kept f a) ∙ same ∙ kept g b in
        let first : entry_at s (f s) ≡ entry_at s (g s) = cc in
        let others : on pid (all_entries f (suc s) n) ≡ on pid (all_entries g (suc s) n) = cc in
        record { here = inl first; rest = others }
    by true false a b = absurd (not_first pid g s (suc s) n (f s) (on pid (all_entries f (suc s) n)) (omega arith) (sym (kept f a) ∙ same ∙ left g b))
    by false true a b = absurd (not_first pid f s (suc s) n (g s) (on pid (all_entries g (suc s) n)) (omega arith) (sym (kept g b) ∙ sym same ∙ left f a))
    by false false a b = record { here = inr (a, b); rest = sym (left f a) ∙ same ∙ left g b }

either_same : (p q : ℕ) (f g : ℕ → Content) (s n : ℕ) → on p (all_entries f s n) ≡ on p (all_entries g s n) → on q (all_entries f s n) ≡ on q (all_entries g s n) →
    on_either p q (all_entries f s n) ≡ on_either p q (all_entries g s n)
unfolding all_entries
either_same p q f g s zero one two = refl
either_same p q f g s (suc n) one two =
    let a = agree p f g s n one in
    let b = agree q f g s n two in
    let rest : on_either p q (all_entries f (suc s) n) ≡ on_either p q (all_entries g (suc s) n) = either_same p q f g (suc s) n a.rest b.rest in
    by a.here b.here rest
  where
    same_first : (x y : Entry) (es fs : List Entry) → x ≡ y → on_either p q es ≡ on_either p q fs → on_either p q (x ∷ es) ≡ on_either p q (y ∷ fs)
    same_first x y es fs e rest =
        ap (λ (z : Entry). on_either p q (z ∷ es)) e
        ∙ elim (cases_Bool (is_of_pid p y.packet || is_of_pid q y.packet)) [ inl y ↦ rw (y, rest) refl | inr k ↦ rw (k, rest) refl ]

    by : (entry_at s (f s) ≡ entry_at s (g s)) ⊎ ((is_of_pid p (view_of (f s)) ≡ false) × (is_of_pid p (view_of (g s)) ≡ false)) →
        (entry_at s (f s) ≡ entry_at s (g s)) ⊎ ((is_of_pid q (view_of (f s)) ≡ false) × (is_of_pid q (view_of (g s)) ≡ false)) →
        on_either p q (all_entries f (suc s) n) ≡ on_either p q (all_entries g (suc s) n) →
        on_either p q (entry_at s (f s) ∷ all_entries f (suc s) n) ≡ on_either p q (entry_at s (g s) ∷ all_entries g (suc s) n)
    by (inl e) other rest = same_first (entry_at s (f s)) (entry_at s (g s)) (all_entries f (suc s) n) (all_entries g (suc s) n) e rest
    by (inr none) (inl e) rest = same_first (entry_at s (f s)) (entry_at s (g s)) (all_entries f (suc s) n) (all_entries g (suc s) n) e rest
    by (inr none) (inr other) rest = rw (none.0, none.1, other.0, other.1) rest

pub tables_same : (pmt_pid n : ℕ) (f g : ℕ → Content) → Fits f → Fits g → pid_list 0 (run_bytes f 0 n) ≡ pid_list 0 (run_bytes g 0 n) →
    pid_list pmt_pid (run_bytes f 0 n) ≡ pid_list pmt_pid (run_bytes g 0 n) → table_packets pmt_pid (run_bytes f 0 n) ≡ table_packets pmt_pid (run_bytes g 0 n)
tables_same pmt_pid n f g one two pats pmts =
    ap (λ (es : List Entry). map (λ (entry : Entry). entry.index) (on_either 0 pmt_pid es)) (run_entries f n one)
    ∙ ap (map (λ (entry : Entry). entry.index))
    (either_same 0 pmt_pid f g 0 n (sym (listed 0 n f one) ∙ pats ∙ listed 0 n g two) (sym (listed pmt_pid n f one) ∙ pmts ∙ listed pmt_pid n g two))
    ∙ sym (ap (λ (es : List Entry). map (λ (entry : Entry). entry.index) (on_either 0 pmt_pid es)) (run_entries g n two))
