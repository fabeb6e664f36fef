-- A part of an item's own slots, such as the slots where sections of a table begin.
use Rattle.std.specs.Prelude.{◌≡◌, ℕ, Bool, true}
use Rattle.own_slots.specs.Slots.{own_slots, Rises}

-- each slot of `part` is a slot of `own`
abbrev pub IsPart : (ℕ → Bool) → (ℕ → Bool) → Type 0
IsPart part own = (s : ℕ) → part s ≡ true → own s ≡ true

-- so the slots of the part among the next n slots from s on are a rising list of own slots
abbrev pub PartLaw : Type 0
PartLaw = (part own : ℕ → Bool) (s n : ℕ) → IsPart part own → Rises own s (own_slots part s n)
