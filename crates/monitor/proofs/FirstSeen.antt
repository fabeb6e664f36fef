-- The PIDs of packets in the order of their first packets.
use Rattle.std.proofs.lemmas.Bool.Decides.{nat_tests}
use Rattle.std.proofs.Common.{arith, ◌≡◌, ℕ, ◌==◌, Bool, true, false, cond, nat_eq, List, [], ◌∷◌, ◌++◌, map, filter, Option, Some, Result, Ok, Err, refl, sym}
use Rattle.std.proofs.Common.{ap, ap₂, ◌∙◌, append_assoc}
use Rattle.std.specs.Prelude.{not, ◌||◌, ◌&&◌}
use Rattle.std.specs.List.{filter_map, cons_option}
use Rattle.std.specs.Map.{lookup}
use Rattle.std.proofs.lemmas.List.{append-nil}
use Rattle.indexmap.specs.IndexMap.{insert_entry}
use Rattle.ts_packet.specs.declared.packet.PacketError.{PacketError}
use Rattle.ts_packet.specs.Views.{PacketView}
use Rattle.ts_packet.specs.Reading.{packet_at}
use Rattle.ts_packet.specs.PidList.{Entry, entry_of}
use Rattle.monitor.specs.declared.counts.PacketCounts.{PacketCounts}
use Rattle.monitor.specs.Counts.{packet_counted}
use Rattle.monitor.specs.CountsOfPids.{first_seen}
use Rattle.monitor.proofs.LatePlaces.{same_number, turned_test}
use Rattle.monitor.proofs.PidEntries.{absent, unique, unique_insert}
use Rattle.monitor.proofs.PacketSteps.{carried_all, start_of, starts_of}

-- 1. Keys of entries

abbrev pub keys : {V : Type 0} → List (ℕ × V) → List ℕ
keys es = map (λ e. e.0) es

abbrev is_in : ℕ → List ℕ → Bool
is_in y [] = false
is_in y (x ∷ xs) = (y == x) || is_in y xs

keys_insert : {V : Type 0} (q : ℕ) (v : V) (es : List (ℕ × V)) → keys (insert_entry nat_eq es q v) ≡ cond (is_in q (keys es)) (keys es) (keys es ++ q ∷ [])
keys_insert q v [] = refl
keys_insert q v (x ∷ es) = by (q == x.0) (is_in q (keys es)) (keys_insert q v es)
  where
    by : (t u : Bool) → keys (insert_entry nat_eq es q v) ≡ cond u (keys es) (keys es ++ q ∷ []) →
        keys (cond t ((x.0, v) ∷ es) (x ∷ insert_entry nat_eq es q v)) ≡ cond (t || u) (x.0 ∷ keys es) (x.0 ∷ keys es ++ q ∷ [])
    by true u h = refl
    by false true h = ap (λ (ks : List ℕ). x.0 ∷ ks) h
    by false false h = ap (λ (ks : List ℕ). x.0 ∷ ks) h

filter_same : (p r : ℕ → Bool) (xs : List ℕ) → ((y : ℕ) → p y ≡ r y) → filter p xs ≡ filter r xs
filter_same p r [] h = refl
filter_same p r (x ∷ xs) h = ap (λ (t : Bool). cond t (x ∷ filter p xs) (filter p xs)) (h x) ∙ ap (λ (l : List ℕ). cond (r x) (x ∷ l) l) (filter_same p r xs h)

filter_twice : (p r : ℕ → Bool) (xs : List ℕ) → filter p (filter r xs) ≡ filter (λ y. r y && p y) xs
filter_twice p r [] = refl
filter_twice p r (x ∷ xs) = by (r x) refl (p x) refl (filter_twice p r xs)
  where
    by : (a : Bool) → r x ≡ a → (b : Bool) → p x ≡ b → filter p (filter r xs) ≡ filter (λ y. r y && p y) xs →
        filter p (cond (r x) (x ∷ filter r xs) (filter r xs)) ≡ cond (r x && p x) (x ∷ filter (λ y. r y && p y) xs) (filter (λ y. r y && p y) xs)
    by true e true f h = rw (e, f) (ap (λ (l : List ℕ). x ∷ l) h)
    by true e false f h = rw (e, f) h
    by false e b f h = rw e h

in_append : (y q : ℕ) (ks : List ℕ) → is_in y (ks ++ q ∷ []) ≡ (is_in y ks || (y == q))
in_append y q [] = by (y == q)
  where
    by : (t : Bool) → (t || false) ≡ t
    by true = refl
    by false = refl
in_append y q (x ∷ ks) = by (y == x) (in_append y q ks)
  where
    by : (t : Bool) → is_in y (ks ++ q ∷ []) ≡ (is_in y ks || (y == q)) → (t || is_in y (ks ++ q ∷ [])) ≡ ((t || is_in y ks) || (y == q))
    by true h = refl
    by false h = h

outside : (q : ℕ) (ks : List ℕ) → is_in q ks ≡ true → (y : ℕ) → (not (y == q) && not (is_in y ks)) ≡ not (is_in y ks)
outside q ks e y = by (y == q) refl
  where
    by : (t : Bool) → (y == q) ≡ t → (not t && not (is_in y ks)) ≡ not (is_in y ks)
    by true f = let h : is_in y ks ≡ true = ap (λ (n : ℕ). is_in n ks) (same_number y q f) ∙ e in rw h refl
    by false f = refl

beyond : (q : ℕ) (ks : List ℕ) (y : ℕ) → (not (y == q) && not (is_in y ks)) ≡ not (is_in y (ks ++ q ∷ []))
beyond q ks y = by (is_in y ks) (y == q) ∙ ap not (sym (in_append y q ks))
  where
    by : (a t : Bool) → (not t && not a) ≡ not (a || t)
    by true true = refl
    by true false = refl
    by false true = refl
    by false false = refl

abbrev new_in : List ℕ → List ℕ → List ℕ
new_in ks xs = filter (λ y. not (is_in y ks)) (first_seen xs)

all_new : (xs : List ℕ) → filter (λ y. not (is_in y [])) xs ≡ xs
all_new [] = refl
all_new (x ∷ xs) = ap (λ (l : List ℕ). x ∷ l) (all_new xs)

keys_all : (es : List (ℕ × PacketCounts)) (xs : List (ℕ × Bool)) → keys (carried_all es xs) ≡ keys es ++ new_in (keys es) (map (λ x. x.0) xs)
unfolding carried_all
keys_all es [] = sym (append-nil (keys es))
keys_all es (x ∷ xs) = keys_all (packet_counted es x.0 x.1) xs ∙ by (is_in x.0 (keys es)) refl
  where
    rest : List ℕ
    rest = first_seen (map (λ x. x.0) xs)

    by : (t : Bool) → is_in x.0 (keys es) ≡ t → keys (packet_counted es x.0 x.1) ++ new_in (keys (packet_counted es x.0 x.1)) (map (λ x. x.0) xs)
        ≡ keys es ++ filter (λ y. not (is_in y (keys es))) (x.0 ∷ filter (λ y. not (y == x.0)) rest)
    by true e =
        let k : keys (packet_counted es x.0 x.1) ≡ keys es = keys_insert x.0 _ es ∙ rw e refl in
        ap (λ (ks : List ℕ). ks ++ new_in ks (map (λ x. x.0) xs)) k
        ∙ ap (λ (l : List ℕ). keys es ++ l) (sym (rw e (filter_twice (λ y. not (is_in y (keys es))) (λ y. not (y == x.0)) rest
        ∙ filter_same (λ y. not (y == x.0) && not (is_in y (keys es))) (λ y. not (is_in y (keys es))) rest (outside x.0 (keys es) e))))
    by false e =
        let k : keys (packet_counted es x.0 x.1) ≡ keys es ++ x.0 ∷ [] = keys_insert x.0 _ es ∙ rw e refl in
        ap (λ (ks : List ℕ). ks ++ new_in ks (map (λ x. x.0) xs)) k
        ∙ append_assoc (keys es) (x.0 ∷ []) (new_in (keys es ++ x.0 ∷ []) (map (λ x. x.0) xs))
        ∙ ap (λ (l : List ℕ). keys es ++ l) (sym (rw e (ap (λ (l : List ℕ). x.0 ∷ l) (filter_twice (λ y. not (is_in y (keys es))) (λ y. not (y == x.0)) rest
        ∙ filter_same (λ y. not (y == x.0) && not (is_in y (keys es))) (λ y. not (is_in y (keys es ++ x.0 ∷ []))) rest (beyond x.0 (keys es))))))

pub keys_first_seen : (xs : List (ℕ × Bool)) → keys (carried_all [] xs) ≡ first_seen (map (λ x. x.0) xs)
keys_first_seen xs = keys_all [] xs ∙ all_new (first_seen (map (λ x. x.0) xs))

-- 2. One entry for each PID, identified by its key

pub carried_unique : (es : List (ℕ × PacketCounts)) (xs : List (ℕ × Bool)) → unique es → unique (carried_all es xs)
unfolding carried_all
carried_unique es [] h = h
carried_unique es (x ∷ xs) h = carried_unique (packet_counted es x.0 x.1) xs (unique_insert x.0 _ es h)

same : (n : ℕ) → (n == n) ≡ true
same n = grind (arith, nat_tests)

missing : {V X : Type 0} (f : Option V → ℕ → X) (pid : ℕ) (v : V) (es others : List (ℕ × V)) → absent pid es →
    map (λ k. f (cond (nat_eq k pid) (Some v) (lookup (nat_eq k) others)) k) (keys es) ≡ map (λ k. f (lookup (nat_eq k) others) k) (keys es)
missing f pid v [] others h = refl
missing {V} {X} f pid v (x ∷ es) others h =
    let e : (x.0 == pid) ≡ false = turned_test x.0 pid ∙ h.0 in
    ap₂ (λ (y : X) (ys : List X). y ∷ ys) (ap (λ (t : Bool). f (cond t (Some v) (lookup (nat_eq x.0) others)) x.0) e) (missing f pid v es others h.1)

pub by_keys : {V X : Type 0} (f : Option V → ℕ → X) (es : List (ℕ × V)) → unique es →
    map (λ e. f (Some e.1) e.0) es ≡ map (λ k. f (lookup (nat_eq k) es) k) (keys es)
by_keys f [] h = refl
by_keys {V} {X} f (x ∷ es) h =
    let itself : (x.0 == x.0) ≡ true = same x.0 in
    ap₂ (λ (y : X) (ys : List X). y ∷ ys) (sym (ap (λ (t : Bool). f (cond t (Some x.1) (lookup (nat_eq x.0) es)) x.0) itself))
    (by_keys f es h.1 ∙ sym (missing f x.0 x.1 es es h.0))

-- 3. The PIDs of a stream's packets

pub pids_are : (packets : List (ℕ × List ℕ)) → map (λ x. x.0) (starts_of packets)
    ≡ map (λ entry. entry.packet.header.pid)
    (filter (λ entry. not entry.packet.header.transport_error_indicator) (filter_map (λ p. entry_of p.0 p.1 (packet_at p.1)) packets))
unfolding start_of entry_of
pids_are [] = refl
pids_are (p ∷ packets) = by (packet_at p.1) (pids_are packets)
  where
    rest : List Entry
    rest = filter_map (λ p. entry_of p.0 p.1 (packet_at p.1)) packets

    pids : List Entry → List ℕ
    pids entries = map (λ entry. entry.packet.header.pid) (filter (λ entry. not entry.packet.header.transport_error_indicator) entries)

    on : (packet : PacketView) (e : Bool) → map (λ x. x.0) (starts_of packets) ≡ pids rest →
        map (λ x. x.0) (cond e [] ((packet.header.pid, packet.header.payload_unit_start_indicator) ∷ []) ++ starts_of packets)
        ≡ map (λ entry. entry.packet.header.pid)
        (cond (not e) ((record { index = p.0; bytes = p.1; packet = packet }) ∷ filter (λ entry. not entry.packet.header.transport_error_indicator) rest)
        (filter (λ entry. not entry.packet.header.transport_error_indicator) rest))
    on packet true h = h
    on packet false h = ap (λ (xs : List ℕ). packet.header.pid ∷ xs) h

    by : (r : Result PacketView PacketError) → map (λ x. x.0) (starts_of packets) ≡ pids rest →
        map (λ x. x.0) (start_of r ++ starts_of packets) ≡ pids (cons_option (entry_of p.0 p.1 r) rest)
    by (Err error) h = h
    by (Ok packet) h = on packet packet.header.transport_error_indicator h
