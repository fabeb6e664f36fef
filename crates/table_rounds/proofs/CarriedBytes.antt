-- The sections of a table in the finished bytes.
use Rattle.std.proofs.Common.{◌≡◌, ℕ, zero, suc, ◌+◌, ◌*◌, ◌%◌, ◌<◌, ◌==◌, nat_lt, Bool, true, false, cond, List, [], ◌∷◌, length, map, slice_get, Option, Some}
use Rattle.std.proofs.Common.{None, refl, ap, sym, subst, ◌∙◌, arith, inl, inr, eq-eqb, lt-ltb, le-ltb, ◌-◌, ◌^◌, min, take, drop, replicate}
use Rattle.std.proofs.lemmas.Bool.{cases_Bool, cases_lt, false≢true}
use Rattle.std.proofs.lemmas.List.{length-append, length-take, length-drop, length-replicate}
use Rattle.std.specs.List.{flat_map}
use Rattle.own_slots.specs.Slots.{own_slots}
use Rattle.ts_packet.specs.PidList.{Entry, is_of_pid, pid_list}
use Rattle.ts_packet.specs.Beginnings.{room_of, start_by}
use Rattle.slot_contents.specs.Contents.{Content, ContentFits, PayloadContent, PcrContent, NullContent, view_of, run_bytes, Payload, payload_in, payloads_in}
use Rattle.slot_contents.specs.Contents.{PayloadCount, HasNumber, payload_entry, payload_entries, payload_at, Piece, put}
use Rattle.slot_contents.proofs.Counts.{payload_count_law, run_payload_entries, payload_entries_again}
use Rattle.table_rounds.specs.Parts.{filled, part_of, part_content}
use Rattle.table_rounds.specs.Tables.{Table, place_at, begin_before, not_yet, bytes_at, part_at, one_if_some, payloads_before}
use Rattle.table_rounds.specs.Payloads.{TableIsAlone, TableCarriedLaw, PartFitsLaw}

-- A slot of another PID has no payload and no number on this PID.
silent : (pid s number : ℕ) (c : Content) → is_of_pid pid (view_of c) ≡ false → (payload_in pid s c ≡ []) × HasNumber pid c number
unfolding view_of
silent pid s number (PayloadContent other n start payload) e = elim (cases_Bool (other == pid)) [
  | inl y ↦ let f : is_of_pid pid (view_of (PayloadContent other n start payload)) ≡ true = rw y refl in absurd (false≢true (sym e ∙ f))
  | inr k ↦ (rw k refl, λ y. absurd (false≢true (sym k ∙ y)))
]
silent pid s number (PcrContent other pcr) e = elim (cases_Bool (other == pid)) [
  | inl y ↦ let f : is_of_pid pid (view_of (PcrContent other pcr)) ≡ true = rw y refl in absurd (false≢true (sym e ∙ f))
  | inr k ↦ (refl, k)
]
silent pid s number NullContent e = (refl, tt)

-- A part in a slot is a payload with its number.
spoken : (pid s number : ℕ) (o : Option Piece) → (payload_in pid s (part_content pid number o) ≡ put s o) × HasNumber pid (part_content pid number o) number
unfolding part_content
spoken pid s number None = (refl, tt)
spoken pid s number (Some p) = let e : (pid == pid) ≡ true = eq-eqb pid pid refl in (rw e refl, λ y. refl)

-- A slot has as many payloads as parts.
put_length : (s : ℕ) (o : Option Piece) → length (put s o) ≡ one_if_some o
put_length s None = refl
put_length s (Some p) = refl

here : (table : Table) (content : ℕ → Content) (s : ℕ) → TableIsAlone table content →
    payload_in table.pid s (content s) ≡ cond (table.own s) (put s (part_at table s)) []
here table content s alone = elim (cases_Bool (table.own s)) [
  | inl y ↦ rw (y, alone.own s y) (spoken table.pid s (payloads_before table s) (part_at table s)).0
  | inr k ↦ rw k (silent table.pid s 0 (content s) (alone.others s k)).0
]

has_number : (table : Table) (content : ℕ → Content) (s : ℕ) → TableIsAlone table content → HasNumber table.pid (content s) (payloads_before table s)
has_number table content s alone = elim (cases_Bool (table.own s)) [
  | inl y ↦ subst (λ (c : Content). HasNumber table.pid c (payloads_before table s)) (sym (alone.own s y))
      (spoken table.pid s (payloads_before table s) (part_at table s)).1
  | inr k ↦ (silent table.pid s (payloads_before table s) (content s) (alone.others s k)).1
]

count_here : (s : ℕ) (b : Bool) (o : Option Piece) → length {A = Payload} (cond b (put s o) []) ≡ cond b (one_if_some o) 0
count_here s true o = put_length s o
count_here s false o = refl

counts : (table : Table) (n : ℕ) (content : ℕ → Content) → TableIsAlone table content → PayloadCount table.pid n content (payloads_before table)
unfolding payloads_before
counts table n content alone = record {
  none = refl;
  more = λ s lt. ap (λ (k : ℕ). payloads_before table s + k)
      (sym (ap (length {A = Payload}) (here table content s alone) ∙ count_here s (table.own s) (part_at table s)));
}

by_slot : (table : Table) (content : ℕ → Content) (s n : ℕ) → TableIsAlone table content →
    payloads_in table.pid content s n ≡ flat_map (λ t. put t (part_at table t)) (own_slots table.own s n)
unfolding payloads_in own_slots
by_slot table content s zero alone = refl
by_slot table content s (suc n) alone =
    let rest = by_slot table content (suc s) n alone in
    let now = here table content s alone in
    elim (cases_Bool (table.own s)) [ inl y ↦ rw (now, y, rest) refl | inr k ↦ rw (now, k, rest) refl ]

pub counters : (pid k : ℕ) (ps : List Payload) (j : ℕ) (e : Entry) → slice_get (payload_entries pid k ps) j ≡ Some e →
    e.packet.header.continuity_counter ≡ (k + j) % 16
unfolding payload_entries view_of
counters pid k [] j e f = absurd (cc)
counters pid k (p ∷ ps) zero e f =
    let same : payload_entry pid k p ≡ e = cc in
    let number : k % 16 ≡ (k + 0) % 16 = omega arith in
    ap (λ (x : Entry). x.packet.header.continuity_counter) (sym same) ∙ number
counters pid k (p ∷ ps) (suc j) e f =
    let number : (k + 1 + j) % 16 ≡ (k + suc j) % 16 = omega arith in
    counters pid (k + 1) ps j e f ∙ number

pub table_carried : TableCarriedLaw
table_carried table n content alone =
    let numbered = payload_count_law table.pid n content (payloads_before table) (counts table n content alone) (λ s lt. has_number table content s alone) in
    let listed : pid_list table.pid (run_bytes content 0 n) ≡ payload_entries table.pid 0 (payloads_in table.pid content 0 n) =
    run_payload_entries table.pid n content alone.fits alone.no_null numbered in
    record {
      counters = λ j e f.
          let number : (0 + j) % 16 ≡ j % 16 = omega arith in
          counters table.pid 0 (payloads_in table.pid content 0 n) j e (ap (λ (es : List Entry). slice_get es j) (sym listed) ∙ f) ∙ number;
      payloads = ap (map payload_at) listed ∙ payload_entries_again table.pid 0 (payloads_in table.pid content 0 n) ∙ by_slot table content 0 n alone;
    }

-- A payload has 184 bytes if no decoder can start at it.
plain_room : (b : Bool) → room_of (start_by b false) ≡ 184
plain_room true = refl
plain_room false = refl

part_fits_of : (pid number : ℕ) (bytes : List ℕ) (q : ℕ) → pid < 2 ^ 13 → ContentFits (part_content pid number (part_of bytes q))
unfolding part_of part_content
part_fits_of pid number bytes q below = elim (cases_lt (184 * q) (1 + length bytes)) [
  | inl some ↦
      let e : nat_lt (184 * q) (1 + length bytes) ≡ true = lt-ltb (184 * q) (1 + length bytes) some in
      let all : length (filled bytes) ≡ 1 + (length bytes + 184) =
      ap suc (length-append bytes (replicate 184 0xFF) ∙ ap (λ (n : ℕ). length bytes + n) (length-replicate {A = ℕ} 184 0xFF)) ∙ omega arith in
      let size : length (take 184 (drop (184 * q) (filled bytes))) ≡ min 184 (length (filled bytes) - 184 * q) =
      length-take 184 (drop (184 * q) (filled bytes)) ∙ ap (min 184) (length-drop (184 * q) (filled bytes)) in
      let there : part_content pid number (part_of bytes q) ≡ PayloadContent pid number (start_by (q == 0) false) (take 184 (drop (184 * q) (filled bytes))) =
      rw e refl in
      subst ContentFits (sym there) (below, omega (arith, size, all, some), omega (arith, size, plain_room (q == 0)))
  | inr none ↦
      let e : nat_lt (184 * q) (1 + length bytes) ≡ false = le-ltb (184 * q) (1 + length bytes) none in
      let there : part_content pid number (part_of bytes q) ≡ NullContent = rw e refl in
      subst ContentFits (sym there) tt
]

-- A slot without a part carries nothing.
fits_if : (pid number : ℕ) (b : Bool) (o : Option Piece) → ContentFits (part_content pid number o) → ContentFits (part_content pid number (cond b None o))
unfolding part_content
fits_if pid number true o fit = tt
fits_if pid number false o fit = fit

pub part_fits : PartFitsLaw
part_fits table s below =
    fits_if table.pid (payloads_before table s) (not_yet table.from (begin_before table (suc s))) (part_of (bytes_at table s) (place_at table s).part)
    (part_fits_of table.pid (payloads_before table s) (bytes_at table s) (place_at table s).part below)
