-- A table with other lengths of sections, of as many packets each, that carried the same bytes at the same moments before a slot.
use Rattle.std.proofs.Common.{◌≡◌, ℕ, zero, suc, ◌+◌, ◌-◌, ◌*◌, ◌/◌, ◌%◌, ◌<◌, ◌≤◌, ◌==◌, ◌&&◌, nat_lt, Bool, true, cond, List, [], ◌∷◌, map, Option, None, refl, sym}
use Rattle.std.proofs.Common.{ap, ◌∙◌, arith, inl, inr}
use Rattle.std.proofs.lemmas.Bool.{cases_lt, eq-eqb}
use Rattle.std.proofs.lemmas.List.Sums.{sum_by-cons}
use Rattle.clock27.specs.Units.{slot_seconds_at_1bps}
use Rattle.own_slots.specs.Slots.{own_before}
use Rattle.slot_contents.specs.Contents.{Piece}
use Rattle.table_rounds.specs.Parts.{places_of, part_of, part_content}
use Rattle.table_rounds.specs.Tables.{Table, SectionPlace, round_places, place_in, place_at, round_before, begin_before, moment_of, moment_before, last_moment}
use Rattle.table_rounds.specs.Tables.{not_yet, part_at, held_of, one_if_some, payloads_before, table_content}
use Rattle.table_rounds.specs.Carousels.{Carousel, CarouselHolds}
use Rattle.table_rounds.proofs.SilentTables.{begin_within}
use Rattle.mux_core.proofs.TextChanges.{round_within, round_began, began, had_slot}

-- Places depend on the packets of the sections alone.

place_same : (j : ℕ) (ls ms : List ℕ) (n : ℕ) → map places_of ls ≡ map places_of ms → place_in j ls n ≡ place_in j ms n
unfolding place_in
place_same j [] [] n same = refl
place_same j [] (m ∷ ms) n same = absurd (cc)
place_same j (l ∷ ls) [] n same = absurd (cc)
place_same j (l ∷ ls) (m ∷ ms) n same =
    let first : places_of l ≡ places_of m = cc in
    let rest : map places_of ls ≡ map places_of ms = cc in
    ap (λ (k : ℕ). cond (nat_lt n k) (record { section = j; part = n }) (place_in (suc j) ls (n - k))) first
    ∙ ap (λ (p : SectionPlace). cond (nat_lt n (places_of m)) (record { section = j; part = n }) p) (place_same (suc j) ls ms (n - places_of m) rest)

round_same : (ls ms : List ℕ) → map places_of ls ≡ map places_of ms → round_places ls ≡ round_places ms
round_same [] [] same = refl
round_same [] (m ∷ ms) same = absurd (cc)
round_same (l ∷ ls) [] same = absurd (cc)
round_same (l ∷ ls) (m ∷ ms) same =
    let first : places_of l ≡ places_of m = cc in
    let rest : map places_of ls ≡ map places_of ms = cc in
    sum_by-cons places_of l ls ∙ ap (λ (k : ℕ). k + round_places ls) first
    ∙ ap (λ (k : ℕ). places_of m + k) (round_same ls ms rest) ∙ sym (sum_by-cons places_of m ms)

-- what two tables have in common up to a slot
pub record IsMoved (slots : ℕ) (a z : Table) : Type 0 where
  pub own : a.own ≡ z.own
  pub pid : a.pid ≡ z.pid
  pub rate : a.rate ≡ z.rate
  pub from : a.from ≡ z.from
  pub first : a.first ≡ z.first
  pub places : map places_of a.lengths ≡ map places_of z.lengths
  pub start : (s : ℕ) → s < slots → a.start s ≡ z.start s
  pub bytes : (s j moment : ℕ) → s < slots → a.bytes s j moment ≡ z.bytes s j moment

module _ (slots : ℕ) (a z : Table) (same : IsMoved slots a z) where
  place_there : (s : ℕ) → place_at a s ≡ place_at z s
  place_there s =
      ap (λ (k : ℕ). place_in 0 a.lengths (own_before a.own s % k)) (round_same a.lengths z.lengths same.places)
      ∙ place_same 0 a.lengths z.lengths (own_before a.own s % round_places z.lengths) same.places
      ∙ ap (λ (o : ℕ → Bool). place_in 0 z.lengths (own_before o s % round_places z.lengths)) same.own

  begin_there : (s : ℕ) → begin_before a s ≡ begin_before z s
  unfolding begin_before
  begin_there zero = refl
  begin_there (suc s) =
      ap (λ (p : SectionPlace). cond (a.own s && (p.part == 0)) s (begin_before a s)) (place_there s)
      ∙ ap (λ (o : ℕ → Bool). cond (o s && ((place_at z s).part == 0)) s (begin_before a s)) same.own
      ∙ ap (λ (n : ℕ). cond (z.own s && ((place_at z s).part == 0)) s n) (begin_there s)

  abbrev round_of : ℕ → ℕ
  round_of s = round_before z.own (round_places z.lengths) s

  moment_there : (s : ℕ) → round_of s < slots → moment_before a s ≡ moment_before z s
  moment_there s lt =
      ap (λ (k : ℕ). moment_of a (round_before a.own k s)) (round_same a.lengths z.lengths same.places)
      ∙ ap (λ (o : ℕ → Bool). moment_of a (round_before o (round_places z.lengths) s)) same.own
      ∙ ap (λ (m : ℕ). m + round_of s * slot_seconds_at_1bps / a.rate) (same.start (round_of s) lt)
      ∙ ap (λ (r : ℕ). z.start (round_of s) + round_of s * slot_seconds_at_1bps / r) same.rate

  last_there : last_moment a slots ≡ last_moment z slots
  last_there =
      ap (λ (o : ℕ → Bool). cond (own_before o slots == 0) a.first (moment_before a slots)) same.own
      ∙ ap (λ (m : ℕ). cond (own_before z.own slots == 0) m (moment_before a slots)) same.first
      ∙ elim (cases_lt 0 (own_before z.own slots)) [
        | inl some ↦ ap (λ (m : ℕ). cond (own_before z.own slots == 0) z.first m)
            (moment_there slots (round_began z.own (round_places z.lengths) slots some))
        | inr none ↦
            let zero_before : (own_before z.own slots == 0) ≡ true = eq-eqb (own_before z.own slots) 0 (omega (arith, none)) in
            ap (λ (b : Bool). cond b z.first (moment_before a slots)) zero_before
            ∙ sym (ap (λ (b : Bool). cond b z.first (moment_before z slots)) zero_before)
      ]

  -- the bytes of the section under way
  bytes_there : (s section : ℕ) → begin_before z s < slots → round_of s < slots →
      a.bytes (begin_before a s) section (moment_before a s) ≡ z.bytes (begin_before z s) section (moment_before z s)
  bytes_there s section begin round =
      ap (λ (b : ℕ). a.bytes b section (moment_before a s)) (begin_there s)
      ∙ ap (a.bytes (begin_before z s) section) (moment_there s round)
      ∙ same.bytes (begin_before z s) section (moment_before z s) begin

  held_there : (s section : ℕ) → begin_before z s < slots → round_of s < slots →
      held_of a (begin_before a s) section (moment_before a s) ≡ held_of z (begin_before z s) section (moment_before z s)
  held_there s section begin round =
      ap (λ (l : List ℕ). cond (not_yet a.from (begin_before a s)) [] l) (bytes_there s section begin round)
      ∙ ap (λ (b : ℕ). cond (not_yet a.from b) [] (z.bytes (begin_before z s) section (moment_before z s))) (begin_there s)
      ∙ ap (λ (o : Option ℕ). cond (not_yet o (begin_before z s)) [] (z.bytes (begin_before z s) section (moment_before z s))) same.from

  part_there : (s : ℕ) → s < slots → part_at a s ≡ part_at z s
  part_there s lt =
      let begin : begin_before z (suc s) ≤ s = begin_within z s in
      let round : round_of (suc s) ≤ s = round_within z.own (round_places z.lengths) s in
      ap (λ (p : SectionPlace). cond (not_yet a.from (begin_before a (suc s))) None
      (part_of (a.bytes (begin_before a (suc s)) p.section (moment_before a (suc s))) p.part)) (place_there s)
      ∙ ap (λ (l : List ℕ). cond (not_yet a.from (begin_before a (suc s))) None (part_of l (place_at z s).part))
      (bytes_there (suc s) (place_at z s).section (omega (arith, begin, lt)) (omega (arith, round, lt)))
      ∙ ap (λ (b : ℕ). cond (not_yet a.from b) None
      (part_of (z.bytes (begin_before z (suc s)) (place_at z s).section (moment_before z (suc s))) (place_at z s).part)) (begin_there (suc s))
      ∙ ap (λ (o : Option ℕ). cond (not_yet o (begin_before z (suc s))) None
      (part_of (z.bytes (begin_before z (suc s)) (place_at z s).section (moment_before z (suc s))) (place_at z s).part)) same.from

  payloads_there : (s : ℕ) → s ≤ slots → payloads_before a s ≡ payloads_before z s
  unfolding payloads_before
  payloads_there zero le = refl
  payloads_there (suc s) le =
      ap (λ (n : ℕ). n + cond (a.own s) (one_if_some (part_at a s)) 0) (payloads_there s (omega (arith, le)))
      ∙ ap (λ (o : Option Piece). payloads_before z s + cond (a.own s) (one_if_some o) 0) (part_there s (omega (arith, le)))
      ∙ ap (λ (o : ℕ → Bool). payloads_before z s + cond (o s) (one_if_some (part_at z s)) 0) same.own

  -- What they carry is the same.
  pub content_there : (s : ℕ) → s < slots → table_content a s ≡ table_content z s
  content_there s lt =
      ap (λ (p : ℕ). part_content p (payloads_before a s) (part_at a s)) same.pid
      ∙ ap (λ (n : ℕ). part_content z.pid n (part_at a s)) (payloads_there s (omega (arith, lt)))
      ∙ ap (part_content z.pid (payloads_before z s)) (part_there s lt)

  -- A carousel that represents the one represents the other.
  pub carousel_moves : (carousel : Carousel) → CarouselHolds a slots carousel → CarouselHolds z slots carousel
  carousel_moves carousel h = record {
    pid = h.pid ∙ same.pid;
    rate = h.rate ∙ same.rate;
    packets_per_section = h.packets_per_section ∙ same.places;
    place = sym (place_there slots) ∙ h.place;
    moment = h.moment ∙ last_there;
    bytes = λ later.
        let part : (place_at z slots).part ≡ carousel.part = ap (λ (p : SectionPlace). p.part) (sym (place_there slots) ∙ h.place) in
        let under_way : 0 < (place_at z slots).part = omega (arith, part, later) in
        h.bytes later
        ∙ held_there slots carousel.section (began z slots under_way)
        (round_began z.own (round_places z.lengths) slots (had_slot z slots under_way));
    counter = h.counter ∙ ap (λ (n : ℕ). n % 256) (payloads_there slots (omega arith));
  }
