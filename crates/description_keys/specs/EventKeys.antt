-- The keys of a table of the array `event`.
use Rattle.std.specs.Prelude.{ℕ, pos, ◌&&◌, ◌||◌, not, Bool, List, [], ◌∷◌, Option, codes, is_none, is_some}
use Rattle.toml.specs.Data.{Data, get}
use Rattle.description_values.specs.Values.{integer_at, text_at, language_at, descriptors_or_none}
use Rattle.description_values.specs.Moments.{moment_at}
use Rattle.description_keys.specs.Rules.{Rule, needs, rule}
use Rattle.description_keys.specs.StreamKeys.{has_owner}
use Rattle.description_keys.specs.declared.key_row.KeyPart.TheVariants as part

-- event_id (EN 300 468, 5.2.4)
abbrev pub event_id : Data → Option ℕ
event_id = integer_at (codes "id") (pos 0) (pos 65535)

abbrev pub event_start : Data → Option ℕ
event_start = moment_at (codes "start")

-- in seconds, less than 100 hours
abbrev pub event_duration : Data → Option ℕ
event_duration = integer_at (codes "duration") (pos 1) (pos 359999)

abbrev pub event_language : Data → Option (List ℕ)
event_language = language_at (codes "language")

abbrev pub event_name : Data → Option (List ℕ)
event_name = text_at 100 (codes "name")

abbrev pub event_text : Data → Option (List ℕ)
event_text = text_at 150 (codes "text")

-- the whole loop of its descriptors in the EIT, in place of these three keys
abbrev pub has_loop : Data → Bool
has_loop event = is_some (get (codes "descriptors") event)

abbrev pub event_descriptors : Data → Option (List ℕ)
event_descriptors = descriptors_or_none 4000 (codes "descriptors")

-- one of the three keys is refused by its range only without the loop, and the loop is refused beside one of them
abbrev pub refuses_event_language : Data → Bool
refuses_event_language event = not (has_loop event) && is_none (event_language event)

abbrev pub refuses_event_name : Data → Bool
refuses_event_name event = not (has_loop event) && is_none (event_name event)

abbrev pub refuses_event_text : Data → Bool
refuses_event_text event = not (has_loop event) && is_none (event_text event)

abbrev pub has_event_texts : Data → Bool
has_event_texts event = is_some (get (codes "language") event) || is_some (get (codes "name") event) || is_some (get (codes "text") event)

abbrev pub refuses_event_descriptors : Data → Bool
refuses_event_descriptors event = is_none (event_descriptors event) || (has_loop event && has_event_texts event)

-- the rules of the keys, by their numbers
abbrev pub event_rules : List Rule
event_rules = rule part.Event 61 (codes "program") (λ document event. not (has_owner document event))
    ∷ needs part.Event 62 (codes "id") event_id ∷ needs part.Event 63 (codes "start") event_start
    ∷ needs part.Event 64 (codes "duration") event_duration
    ∷ rule part.Event 65 (codes "language") (λ document event. refuses_event_language event)
    ∷ rule part.Event 66 (codes "name") (λ document event. refuses_event_name event)
    ∷ rule part.Event 67 (codes "text") (λ document event. refuses_event_text event)
    ∷ rule part.Event 68 (codes "descriptors") (λ document event. refuses_event_descriptors event) ∷ []
