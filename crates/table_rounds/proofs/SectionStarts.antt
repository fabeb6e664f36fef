-- The packets that begin sections.
use Rattle.std.proofs.Common.{◌≡◌, ℕ, zero, suc, ◌+◌, ◌*◌, ◌%◌, ◌<◌, ◌≤◌, nat_lt, nat_eq, Bool, true, false, cond, List, [], ◌∷◌, ◌++◌, length, map, take, drop}
use Rattle.std.proofs.Common.{slice_get, Option, Some, None, refl, ap, sym, ◌∙◌, arith, inl, inr, lt-ltb}
use Rattle.std.proofs.lemmas.Bool.{cases_Bool, cases_eq, eqb-true, false≢true}
use Rattle.std.specs.List.{flat_map}
use Rattle.own_slots.specs.Slots.{own_before, own_slots}
use Rattle.own_slots.specs.Rounds.{starts}
use Rattle.ts_packet.specs.PidList.{Entry, pid_list}
use Rattle.ts_packet.specs.Views.{PacketView}
use Rattle.ts_packet.specs.Beginnings.{is_start, has_access, start_by, start_in}
use Rattle.slot_contents.specs.Contents.{run_bytes, Payload, payload_at, Piece, put}
use Rattle.table_rounds.specs.Parts.{filled, part_of}
use Rattle.table_rounds.specs.Tables.{Table, SectionPlace, round_places, place_in, place_at, begin_before, moment_before, not_yet, part_at}
use Rattle.table_rounds.specs.Laws.{first_place}
use Rattle.table_rounds.specs.Payloads.{BeginsLaw}
use Rattle.table_rounds.proofs.Places.{place_law}
use Rattle.table_rounds.proofs.CarriedBytes.{table_carried}
use Rattle.table_rounds.proofs.CarouselSteps.{section_at}

-- An own slot at the first place of a section
starts_own : (own : ℕ → Bool) (k place s : ℕ) → starts own k place s ≡ true → (own s ≡ true) × (own_before own s % k ≡ place)
starts_own own k place s e = elim (cases_Bool (own s)) [
  | inl y ↦
      let f : nat_eq (own_before own s % k) place ≡ true = sym (ap (λ (b : Bool). cond b (nat_eq (own_before own s % k) place) false) y) ∙ e in
      (y, eqb-true (own_before own s % k) place f)
  | inr n ↦ absurd (false≢true (sym (ap (λ (b : Bool). cond b (nat_eq (own_before own s % k) place) false) n) ∙ e))
]

begins_at : (table : Table) (j s : ℕ) → j < length table.lengths → own_before table.own s % round_places table.lengths ≡ first_place table.lengths j
    → place_at table s ≡ record { section = j; part = 0 }
begins_at table j s lt e =
    let f : first_place table.lengths j ≡ first_place table.lengths j + 0 = omega arith in
    ap (place_in 0 table.lengths) (e ∙ f) ∙ place_law table.lengths j 0 lt (omega arith)

payload : ℕ → Piece → Payload
payload s p = record { index = s; start = p.start; bytes = p.bytes }

-- The place of a list element after a payload is put in front of the list
after : (t : ℕ) (o : Option Piece) (xs : List Payload) (i : ℕ) (x : Payload) → slice_get xs i ≡ Some x → (k : ℕ) × (slice_get (put t o ++ xs) k ≡ Some x)
after t None xs i x e = (i, e)
after t (Some p) xs i x e = (suc i, e)

found : (table : Table) (from n s : ℕ) (p : Piece) → from ≤ s → s < from + n → table.own s ≡ true → part_at table s ≡ Some p
    → (i : ℕ) × (slice_get (flat_map (λ t. put t (part_at table t)) (own_slots table.own from n)) i ≡ Some (payload s p))
unfolding own_slots payload
found table from zero s p le lt y e = absurd (omega (arith, le, lt))
found table from (suc n) s p le lt y e = elim (cases_eq from s) [
  | inl same ↦
      let own : table.own from ≡ true = ap table.own same ∙ y in
      let part : part_at table from ≡ Some p = ap (part_at table) same ∙ e in
      (0, rw (own, part) (ap (λ (t : ℕ). Some (payload t p)) same))
  | inr other ↦
      let rest = found table (suc from) n s p (further other) (omega (arith, lt)) y e in
      elim (cases_Bool (table.own from)) [
        | inl own ↦ let k = after from (part_at table from) (flat_map (λ t. put t (part_at table t)) (own_slots table.own (suc from) n)) rest.0 (payload s p)
            rest.1 in (k.0, rw own k.1)
        | inr idle ↦ (rest.0, rw idle rest.1)
      ]
]
  where
    further : (from ≡ s → ⊥) → suc from ≤ s
    further other = omega (arith, le, other)

-- An entry of the list with this payload
of_map : (es : List Entry) (i : ℕ) (x : Payload) → slice_get (map payload_at es) i ≡ Some x → (e : Entry) × (slice_get es i ≡ Some e) × (payload_at e ≡ x)
of_map [] i x f = absurd (cc)
of_map (e ∷ es) zero x f = let same : payload_at e ≡ x = cc in (e, refl, same)
of_map (e ∷ es) (suc i) x f = of_map es i x f

-- The start indicator of a packet indicates whether something begins with its payload.
pub start_indicated : (packet : PacketView) → is_start (start_in packet) ≡ packet.header.payload_unit_start_indicator
start_indicated packet = by_both packet.header.payload_unit_start_indicator (has_access packet.adaptation) where
  by_both : (b access : Bool) → is_start (start_by b access) ≡ b
  by_both false access = refl
  by_both true false = refl
  by_both true true = refl

pub begins : BeginsLaw
unfolding part_of payload
begins table n j s content alone lt from within e =
    let own = starts_own table.own (round_places table.lengths) (first_place table.lengths j) s e in
    let place = begins_at table j s lt own.1 in
    let bytes = table.bytes s j (moment_before table (suc s)) in
    let here : begin_before table (suc s) ≡ s = section_at table s own.0 (ap (λ (p : SectionPlace). p.part) place) in
    let some : nat_lt (184 * 0) (1 + length bytes) ≡ true = lt-ltb 0 (1 + length bytes) (omega arith) in
    let first : part_of bytes 0 ≡ Some (record { start = start_by true false; bytes = take 184 (drop (184 * 0) (filled bytes)) }) = rw some refl in
    let part : part_at table s ≡ Some (record { start = start_by true false; bytes = take 184 (drop (184 * 0) (filled bytes)) }) =
    ap (λ (p : SectionPlace). cond (not_yet table.from (begin_before table (suc s))) None
    (part_of (table.bytes (begin_before table (suc s)) p.section (moment_before table (suc s))) p.part)) place
    ∙ ap (λ (b : ℕ). cond (not_yet table.from b) None (part_of (table.bytes b j (moment_before table (suc s))) 0)) here
    ∙ ap (λ (b : Bool). cond b None (part_of bytes 0)) from ∙ first in
    let at = found table 0 n s (record { start = start_by true false; bytes = take 184 (drop (184 * 0) (filled bytes)) }) (omega arith) (omega (arith, within))
    own.0 part in
    let carried = table_carried table n content alone in
    let entry = of_map (pid_list table.pid (run_bytes content 0 n)) at.0 _ (ap (λ (l : List Payload). slice_get l at.0) carried.payloads ∙ at.1) in
    record {
      number = at.0;
      entry = entry.0;
      listed = entry.1;
      slot = ap (λ (p : Payload). p.index) entry.2;
      start = sym (start_indicated entry.0.packet) ∙ ap (λ (p : Payload). is_start p.start) entry.2;
      first = ap (λ (p : Payload). p.bytes) entry.2;
    }
