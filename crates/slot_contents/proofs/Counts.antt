-- Payloads on a PID: their numbers, their counters, and how they are read again.
use Rattle.std.proofs.Common.{◌≡◌, ℕ, zero, suc, ◌+◌, ◌<◌, ◌==◌, Bool, false, cond, List, [], ◌∷◌, ◌++◌, length, map, Option, ◌%◌, refl, ap, ap₂, sym, subst}
use Rattle.std.proofs.Common.{◌∙◌, arith, inl, inr, eq-eqb}
use Rattle.std.proofs.lemmas.Bool.{cases_Bool, eqb-true, false≢true}
use Rattle.std.specs.List.{concat, flat_map}
use Rattle.own_slots.specs.Slots.{own_before, own_slots}
use Rattle.ts_packet.specs.PidList.{Entry, is_of_pid, payload_of}
use Rattle.slot_contents.specs.Contents.{Content, PayloadContent, PcrContent, NullContent, packet_of, view_of, entry_at, entries_in, Payload, payload_in}
use Rattle.slot_contents.specs.Contents.{payloads_in, NumberedBy, Numbered, PayloadCount, HasNumber, payload_entry, payload_entries, Piece, put}
use Rattle.slot_contents.specs.RunLaws.{PayloadCountLaw, RunPayloadEntriesLaw, PayloadEntriesAgainLaw, RunJoinedLaw, RunByNumberLaw}
use Rattle.ts_packet.specs.declared.start.Start.{Start}
use Rattle.ts_packet.specs.Beginnings.{start_in}
use Rattle.ts_packet.specs.Packets.{payload_view}
use Rattle.ts_packet.proofs.PlainWritten.{start_again}
use Rattle.slot_contents.proofs.Runs.{run_pid_list}

-- Slot by slot: the number of payloads before a slot is the number of its payload.
number_one : (pid s number next : ℕ) (c : Content) (rest : ℕ → Type 0) → HasNumber pid c number → next ≡ number + length (payload_in pid s c) → rest next →
    NumberedBy pid c number rest
number_one pid s number next (PayloadContent other n start payload) rest is more then = (
  (λ y. let e : next ≡ number + 1 =
      more ∙ ap (λ (b : Bool). number + length {A = Payload} (cond b (record { index = s; start = start; bytes = payload } ∷ []) [])) y in
      (is y, subst rest e then)),
  (λ k. let e : next ≡ number + 0 =
      more ∙ ap (λ (b : Bool). number + length {A = Payload} (cond b (record { index = s; start = start; bytes = payload } ∷ []) [])) k in
      let f : next ≡ number = omega (arith, e) in subst rest f then),
)
number_one pid s number next (PcrContent other pcr) rest is more then = let f : next ≡ number = omega (arith, more) in (is, subst rest f then)
number_one pid s number next NullContent rest is more then = let f : next ≡ number = omega (arith, more) in subst rest f then

numbered_on : (pid n : ℕ) (content : ℕ → Content) (count : ℕ → ℕ) (s k : ℕ) → s + k ≡ n → PayloadCount pid n content count →
    ((t : ℕ) → t < n → HasNumber pid (content t) (count t))
    → Numbered pid content s k (count s)
unfolding Numbered
numbered_on pid n content count s zero e counted has = tt
numbered_on pid n content count s (suc k) e counted has =
    number_one pid s (count s) (count (suc s)) (content s) (Numbered pid content (suc s) k) (has s (omega arith)) (counted.more s (omega arith))
    (numbered_on pid n content count (suc s) k (omega arith) counted has)

pub payload_count_law : PayloadCountLaw
payload_count_law pid n content count counted has =
    subst (Numbered pid content 0 n) counted.none (numbered_on pid n content count 0 n (omega arith) counted has)

pub null_other : (pid : ℕ) → (pid == 8191) ≡ false → (8191 == pid) ≡ false
null_other pid reported = elim (cases_Bool (8191 == pid)) [
  | inl y ↦ absurd (false≢true (sym reported ∙ eq-eqb pid 8191 (sym (eqb-true 8191 pid y))))
  | inr k ↦ k
]

-- The entries of one slot on the PID
carried_one : (pid s number : ℕ) (c : Content) (after : ℕ → Type 0) (es : List Entry) (ps : List Payload) → (pid == 8191) ≡ false →
    NumberedBy pid c number after
    → ((k : ℕ) → after k → es ≡ payload_entries pid k ps)
    → cond (is_of_pid pid (view_of c)) (entry_at s c ∷ es) es ≡ payload_entries pid number (payload_in pid s c ++ ps)
unfolding payload_entries view_of packet_of
carried_one pid s number (PayloadContent other n start payload) after es ps reported (hit, miss) rest = elim (cases_Bool (other == pid)) [
  | inl y ↦ let f : other ≡ pid = eqb-true other pid y in let g =
      (hit y).0 in rw (y, f, g)
      (ap (λ (l : List Entry). payload_entry pid number (record { index = s; start = start; bytes = payload }) ∷ l) (rest (number + 1) (hit y).1))
  | inr k ↦ rw k (rest number (miss k))
]
carried_one pid s number (PcrContent other pcr) after es ps reported (other_pid, then) rest = rw other_pid (rest number then)
carried_one pid s number NullContent after es ps reported then rest =
    let other : (8191 == pid) ≡ false = null_other pid reported in
    rw other (rest number then)

carried_on : (pid : ℕ) (content : ℕ → Content) (s n number : ℕ) → (pid == 8191) ≡ false → Numbered pid content s n number
    → entries_in pid content s n ≡ payload_entries pid number (payloads_in pid content s n)
unfolding entries_in payloads_in Numbered payload_entries
carried_on pid content s zero number reported is = refl
carried_on pid content s (suc n) number reported is =
    carried_one pid s number (content s) (Numbered pid content (suc s) n) (entries_in pid content (suc s) n) (payloads_in pid content (suc s) n) reported is
    (λ k then. carried_on pid content (suc s) n k reported then)

pub run_payload_entries : RunPayloadEntriesLaw
run_payload_entries pid n content fits reported is = run_pid_list pid n content fits ∙ carried_on pid content 0 n 0 reported is

-- The start of a payload is seen in its packet.
pub payload_again : (index : ℕ) (start : Start) (pid counter : ℕ) (bytes : List ℕ) →
    ◌≡◌ {A = Payload} (record { index = index; start = start_in (payload_view pid start counter bytes); bytes = bytes })
    (record { index = index; start = start; bytes = bytes })
payload_again index start pid counter bytes = rw (start_again pid start counter bytes) refl

pub payload_entries_again : PayloadEntriesAgainLaw
unfolding payload_entries view_of
payload_entries_again pid number [] = refl
payload_entries_again pid number (p ∷ ps) =
    ap₂ (λ (q : Payload) (l : List Payload). q ∷ l) (payload_again p.index p.start pid (number % 16) p.bytes) (payload_entries_again pid (number + 1) ps)

carried_bytes : (pid number : ℕ) (ps : List Payload) → map (λ entry. payload_of entry.packet) (payload_entries pid number ps) ≡ map (λ p. p.bytes) ps
unfolding payload_entries view_of
carried_bytes pid number [] = refl
carried_bytes pid number (p ∷ ps) = ap (λ (l : List (List ℕ)). p.bytes ∷ l) (carried_bytes pid (number + 1) ps)

pub run_joined : RunJoinedLaw
run_joined pid n content fits reported is =
    ap (λ (es : List Entry). concat (map (λ (entry : Entry). payload_of entry.packet) es)) (run_payload_entries pid n content fits reported is)
    ∙ ap concat (carried_bytes pid 0 (payloads_in pid content 0 n))

by_number : (pid : ℕ) (content : ℕ → Content) (own : ℕ → Bool) (carries : ℕ → Option Piece) (s m n : ℕ) → s + m ≡ n
    → ((t : ℕ) → t < n → payload_in pid t (content t) ≡ cond (own t) (put t (carries (own_before own t))) [])
    → payloads_in pid content s m ≡ flat_map (λ s. put s (carries (own_before own s))) (own_slots own s m)
unfolding payloads_in own_slots
by_number pid content own carries s zero n e is = refl
by_number pid content own carries s (suc m) n e is =
    let rest = by_number pid content own carries (suc s) m n (omega arith) is in
    let here = is s (omega arith) in
    elim (cases_Bool (own s)) [ inl y ↦ rw (here, y, rest) refl | inr k ↦ rw (here, k, rest) refl ]

pub run_by_number : RunByNumberLaw
run_by_number pid n content own carries is = by_number pid content own carries 0 n n (omega arith) is
