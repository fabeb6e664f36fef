-- The packets of slots in two parts, and the packets of a PID there.
use Rattle.std.proofs.Common.{◌≡◌, ℕ, zero, suc, ◌+◌, ◌<◌, ◌≤◌, nat_le, Bool, true, false, cond, List, [], ◌∷◌, ◌++◌, filter, All, refl, sym, ap, ◌∙◌, subst, inl, inr, arith}
use Rattle.std.proofs.Common.{le-leb}
use Rattle.std.proofs.lemmas.Bool.{cases_Bool, lt-leb}
use Rattle.std.proofs.lemmas.List.Elements.{filter-append, All-nil, All-cons, All-head, All-tail}
use Rattle.ts_packet.specs.PidList.{Entry, is_of_pid, pid_list}
use Rattle.slot_contents.specs.Contents.{Content, view_of, run_bytes, entry_at}
use Rattle.slot_contents.specs.RunLaws.{Fits}
use Rattle.slot_contents.proofs.Runs.{all_entries, run_entries}

-- The packets of a PID among packets, and those from a slot on
abbrev pub on : ℕ → List Entry → List Entry
on pid es = filter (λ (entry : Entry). is_of_pid pid entry.packet) es

abbrev pub after : ℕ → List Entry → List Entry
after at es = filter (λ (entry : Entry). nat_le at entry.index) es

-- ---- All packets

pub entries_same : (f g : ℕ → Content) (s n : ℕ) → ((t : ℕ) → s ≤ t → t < s + n → f t ≡ g t) → all_entries f s n ≡ all_entries g s n
unfolding all_entries
entries_same f g s zero same = refl
entries_same f g s (suc n) same =
    ap (λ (c : Content). entry_at s c ∷ all_entries f (suc s) n) (same s (omega arith) (omega arith))
    ∙ ap (λ (es : List Entry). entry_at s (g s) ∷ es) (entries_same f g (suc s) n (λ t le lt. same t (omega (arith, le)) (omega (arith, lt))))

entries_parts : (f : ℕ → Content) (s a b : ℕ) → all_entries f s (a + b) ≡ all_entries f s a ++ all_entries f (s + a) b
unfolding all_entries
entries_parts f s zero b =
    let none : zero + b ≡ b = omega arith in
    let here : s ≡ s + zero = omega arith in
    ap (λ (n : ℕ). all_entries f s n) none ∙ ap (λ (t : ℕ). all_entries f t b) here
entries_parts f s (suc a) b =
    let one : suc a + b ≡ suc (a + b) = omega arith in
    let here : suc s + a ≡ s + suc a = omega arith in
    ap (λ (n : ℕ). all_entries f s n) one
    ∙ ap (λ (es : List Entry). entry_at s (f s) ∷ es)
    (entries_parts f (suc s) a b ∙ ap (λ (t : ℕ). all_entries f (suc s) a ++ all_entries f t b) here)

-- What holds of the packet of each slot
pub all_made : (P : Entry → Type 0) (f : ℕ → Content) (s n : ℕ) → ((t : ℕ) → s ≤ t → t < s + n → P (entry_at t (f t))) → All P (all_entries f s n)
unfolding all_entries
all_made P f s zero each = All-nil P
all_made P f s (suc n) each = All-cons P (entry_at s (f s)) (all_entries f (suc s) n) (each s (omega arith) (omega arith))
    (all_made P f (suc s) n (λ t le lt. each t (omega (arith, le)) (omega (arith, lt))))

last_of : (P : Entry → Type 0) (f : ℕ → Content) (s n : ℕ) → All P (all_entries f s (suc n)) → P (entry_at (s + n) (f (s + n)))
unfolding all_entries
last_of P f s zero all =
    let here : s ≡ s + zero = omega arith in
    subst (λ (t : ℕ). P (entry_at t (f t))) here (All-head P (entry_at s (f s)) [] all)
last_of P f s (suc n) all =
    let here : suc s + n ≡ s + suc n = omega arith in
    subst (λ (t : ℕ). P (entry_at t (f t))) here (last_of P f (suc s) n (All-tail P (entry_at s (f s)) (all_entries f (suc s) (suc n)) all))

pub at_slot : (P : Entry → Type 0) (f : ℕ → Content) (t : ℕ) → All P (all_entries f 0 (suc t)) → P (entry_at t (f t))
at_slot P f t all =
    let here : 0 + t ≡ t = omega arith in
    subst (λ (u : ℕ). P (entry_at u (f u))) here (last_of P f 0 t all)

-- ---- The packets of a PID

pub listed : (pid n : ℕ) (f : ℕ → Content) → Fits f → pid_list pid (run_bytes f 0 n) ≡ on pid (all_entries f 0 n)
listed pid n f fits = ap (on pid) (run_entries f n fits)

pub list_parts : (pid a b : ℕ) (f : ℕ → Content) → Fits f → pid_list pid (run_bytes f 0 (a + b)) ≡ pid_list pid (run_bytes f 0 a) ++ on pid (all_entries f a b)
list_parts pid a b f fits =
    let here : 0 + a ≡ a = omega arith in
    listed pid (a + b) f fits
    ∙ ap (on pid) (entries_parts f 0 a b ∙ ap (λ (t : ℕ). all_entries f 0 a ++ all_entries f t b) here)
    ∙ filter-append (λ (entry : Entry). is_of_pid pid entry.packet) (all_entries f 0 a) (all_entries f a b)
    ∙ ap (λ (es : List Entry). es ++ on pid (all_entries f a b)) (sym (listed pid a f fits))

pub none_on : (pid : ℕ) (f : ℕ → Content) (s n : ℕ) → ((t : ℕ) → s ≤ t → t < s + n → is_of_pid pid (view_of (f t)) ≡ false) → on pid (all_entries f s n) ≡ []
unfolding all_entries
none_on pid f s zero none = refl
none_on pid f s (suc n) none =
    ap (λ (b : Bool). cond b (entry_at s (f s) ∷ on pid (all_entries f (suc s) n)) (on pid (all_entries f (suc s) n))) (none s (omega arith) (omega arith))
    ∙ none_on pid f (suc s) n (λ t le lt. none t (omega (arith, le)) (omega (arith, lt)))

-- Those from a slot on: all or none of them
pub all_after : (at pid : ℕ) (f : ℕ → Content) (s n : ℕ) → at ≤ s → after at (on pid (all_entries f s n)) ≡ on pid (all_entries f s n)
unfolding all_entries
all_after at pid f s zero le = refl
all_after at pid f s (suc n) le =
    let rest : after at (on pid (all_entries f (suc s) n)) ≡ on pid (all_entries f (suc s) n) = all_after at pid f (suc s) n (omega (arith, le)) in
    let here : nat_le at s ≡ true = le-leb at s le in
    elim (cases_Bool (is_of_pid pid (view_of (f s)))) [ inl y ↦ rw (y, here, rest) refl | inr n ↦ rw (n, rest) refl ]

pub none_after : (at pid : ℕ) (f : ℕ → Content) (s n : ℕ) → s + n ≤ at → after at (on pid (all_entries f s n)) ≡ []
unfolding all_entries
none_after at pid f s zero le = refl
none_after at pid f s (suc n) le =
    let rest : after at (on pid (all_entries f (suc s) n)) ≡ [] = none_after at pid f (suc s) n (omega (arith, le)) in
    let here : nat_le at s ≡ false = lt-leb at s (omega (arith, le)) in
    elim (cases_Bool (is_of_pid pid (view_of (f s)))) [ inl y ↦ rw (y, here, rest) refl | inr n ↦ rw (n, rest) refl ]
