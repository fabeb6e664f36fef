-- Rules by their part and name, and the first of mapped elements
use Rattle.std.proofs.Common.{◌≡◌, ℕ, ◌&&◌, ◌||◌, Bool, true, false, List, [], ◌∷◌, map, filter, Option, None, Some, find, option_map, bytes_eq, refl, ap}
use Rattle.std.proofs.Common.{if◌then◌else◌}
use Rattle.std.specs.Borrow.{Bor}
use Rattle.std.specs.List.{list_any}
use Rattle.description_values.specs.KnownKeys.{is_among}
use Rattle.description_keys.specs.KeyRows.{view}
use Rattle.description_keys.specs.Rules.{Rule, is_key_of, is_of, names_in}
use Rattle.description_keys.specs.declared.key_row.Row.{Row}
use Rattle.description_keys.specs.declared.key_row.KeyPart.{KeyPart}

-- One more rule, of the part or of another
one_more : (b : Bool) (name : List ℕ) (rule : Rule) (rest : List Rule) (found : Bool) → found ≡ is_among (map (λ r. r.name) rest) name
    → ((b && bytes_eq rule.name name) || found) ≡ is_among (map (λ r. r.name) (if b then rule ∷ rest else rest)) name
one_more true name rule rest found h = ap (λ (f : Bool). bytes_eq rule.name name || f) h
one_more false name rule rest found h = h

-- A rule is that of a part's key of a name if the name is among those of the part's keys.
pub is_among-rules : (one : KeyPart) (name : List ℕ) (rules : List Rule) → list_any (is_key_of one name) rules ≡ is_among (names_in one rules) name
is_among-rules one name [] = refl
is_among-rules one name (rule ∷ rules) =
    one_more (is_of rule.part one) name rule (filter (λ r. is_of r.part one) rules) (list_any (is_key_of one name) rules) (is_among-rules one name rules)

-- The first of mapped elements
mapped : {X Y : Type 0} (f : X → Y) (b : Bool) (x : X) (o : Option X) (r : Option Y) → r ≡ option_map f o
    → (if b then Some (f x) else r) ≡ option_map f (if b then Some x else o)
mapped f true x o r h = refl
mapped f false x o r h = h

pub find-map : {X Y : Type 0} (f : X → Y) (p : Y → Bool) (xs : List X) → find p (map f xs) ≡ option_map f (find (λ x. p (f x)) xs)
find-map f p [] = refl
find-map f p (x ∷ xs) = mapped f (p (f x)) x (find (λ x. p (f x)) xs) (find p (map f xs)) (find-map f p xs)

pub seen_twice : (found : Option (Bor (Row (Bor (List ℕ))))) → option_map (λ row. view row.now) found ≡ option_map view (option_map (λ row. row.now) found)
seen_twice None = refl
seen_twice (Some row) = refl
