-- Spacings are at most 65,536.
use Rattle.std.proofs.Common.{◌≡◌, ℕ, suc, ◌^◌, ◌<◌, ◌≤◌, max, Bool, true, false, List, [], ◌∷◌, ◌++◌, arith}
use Rattle.std.proofs.Math.Pow.{pow_mono}
use Rattle.std.proofs.lemmas.Bool.Decides.{nat_tests}
use Rattle.own_slots.proofs.Extremes.{greatest_at_most}
use Rattle.description_parts.specs.Described.{Described}
use Rattle.description_parts.specs.Tables.{table_kinds, has_references, only_if}
use Rattle.slot_plan.specs.declared.slot.Slot.TheVariants.{Stream, Pcr, Table}
use Rattle.slot_plan.specs.Numbered.{numbered}
use Rattle.plan_maker.specs.declared.spacing.Spaced.{Spaced}
use Rattle.plan_maker.specs.Spacings.{within, spacing, stream_room, pcr_room, table_room, spaced_clock, spaced_streams, spaced_pcrs, spaced_tables, spaced_items}
use Rattle.plan_maker.specs.PlainPlan.{longest}

few_within : (room slots : ℕ) → within room slots ≤ slots
few_within room slots = grind (arith, nat_tests)

pub few_spacing : (room : ℕ) → spacing room ≤ 65536
few_spacing room = greatest_at_most 17 (λ e. within room (2 ^ e)) 65536 (λ e lt. small e lt)
  where
    small : (e : ℕ) → e < 17 → within room (2 ^ e) ≤ 65536
    small e lt = let power : 2 ^ e ≤ 2 ^ 16 = pow_mono {j = 16} (omega (arith, lt)) in omega (arith, power, few_within room (2 ^ e))

longest_append : (xs ys : List Spaced) → longest (xs ++ ys) ≡ max (longest xs) (longest ys)
longest_append [] ys = omega arith
longest_append (x ∷ xs) ys = omega (arith, longest_append xs ys)

longest_numbered : {A : Type 0} (f : ℕ → A → Spaced) (few : (k : ℕ) (x : A) → (f k x).spacing ≤ 65536) (k : ℕ) (xs : List A) →
    longest (numbered (λ i x. f i x ∷ []) k xs) ≤ 65536
longest_numbered f few k [] = omega arith
longest_numbered f few k (x ∷ xs) = omega (arith, few k x, longest_numbered f few (suc k) xs)

longest_parts : {A : Type 0} (part : ℕ → A → List Spaced) (few : (k : ℕ) (x : A) → longest (part k x) ≤ 65536) (k : ℕ) (xs : List A) →
    longest (numbered part k xs) ≤ 65536
longest_parts part few k [] = omega arith
longest_parts part few k (x ∷ xs) =
    omega (arith, few k x, longest_parts part few (suc k) xs, longest_append (part k x) (numbered part (suc k) xs))

longest_if : (b : Bool) (item : Spaced) → item.spacing ≤ 65536 → longest (only_if b item) ≤ 65536
longest_if true item few = omega (arith, few)
longest_if false item few = omega arith

pub few_slots : (d : Described) → longest (spaced_items d) ≤ 65536
few_slots d =
    let streams : longest (spaced_streams d) ≤ 65536 =
    longest_numbered (λ i s. record { slot = Stream i; spacing = spacing (stream_room d s) }) (λ i s. few_spacing (stream_room d s)) 0 d.streams in
    let pcrs : longest (spaced_pcrs d) ≤ 65536 =
    longest_parts (spaced_clock d) (λ i p. longest_if (has_references d i) (record { slot = Pcr i; spacing = spacing (pcr_room d p) })
    (few_spacing (pcr_room d p))) 0 d.programs in
    let tables : longest (spaced_tables d) ≤ 65536 =
    longest_numbered (λ t _. record { slot = Table t; spacing = spacing (table_room d t) }) (λ t _. few_spacing (table_room d t)) 0 (table_kinds d) in
    omega (arith, streams, pcrs, tables, longest_append (spaced_streams d) (spaced_pcrs d ++ spaced_tables d), longest_append (spaced_pcrs d) (spaced_tables d))
