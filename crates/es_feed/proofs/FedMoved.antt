-- Step by step, the units of a stream are its remaining units, moved by the constant.
use Rattle.std.proofs.Common.{◌≡◌, ◌∙◌, ℕ, ◌++◌, false, Option, Some, None, List, [], ◌∷◌, sym, ap, ap₂, subst}
use Rattle.std.specs.Option.{option_to_list}
use Rattle.std.proofs.lemmas.Grind.{flat_map-append}
use Rattle.std.proofs.lemmas.List.{map-append}
use Rattle.pes_packet.specs.AccessUnits.{AccessUnit}
use Rattle.es_moments.specs.ApartUnits.{apart_from}
use Rattle.es_moments.specs.Stamps.{dts_after, moved}
use Rattle.es_units.specs.UnitSteps.{ended_unit}
use Rattle.es_units.proofs.ApartSteps.{Soon, apart_last}
use Rattle.es_units.proofs.MovedUnits.{moved_in_turn}
use Rattle.es_feed.specs.EachStream.{fed_if, units_fed}
use Rattle.fed_streams.specs.Feeding.{Fed, FedStreamView, FeedView}
use Rattle.es_feed.proofs.FedEach.{Advances, Event, after_event, coming, fed_event, fed_events, finds}
use Rattle.es_feed.proofs.FedEnds.{units_of_all}
use Rattle.es_feed.proofs.FedSteps.{units_in}
use Rattle.es_feed.proofs.OwnUnits.{to_come_last}
use Rattle.es_moments.specs.WireUnits.{CarriedUnit}

units_more : (base k : ℕ) (before after : Option ℕ) (given : Option CarriedUnit) (all later : List CarriedUnit) (fed more : List Fed) →
    units_fed k fed ≡ moved base before (units_in given) →
    after ≡ dts_after base before (units_in given) → all ≡ option_to_list given ++ later → units_fed k more ≡ moved base after (units_of_all later) →
    units_fed k (fed ++ more) ≡ moved base before (units_of_all all)
unfolding units_in
units_more base k before after given all later fed more here then is rest =
    let w = units_of_all (option_to_list given) in
    flat_map-append (fed_if k) fed more
    ∙ ap₂ (λ (us vs : List AccessUnit). us ++ vs) here rest
    ∙ ap (λ (b : Option ℕ). moved base before w ++ moved base b (units_of_all later)) then
    ∙ sym (moved_in_turn base before w (units_of_all later))
    ∙ ap (λ (us : List AccessUnit). moved base before us) (sym (map-append (λ (w : CarriedUnit). w.unit) (option_to_list given) later))
    ∙ ap (λ (ws : List CarriedUnit). moved base before (units_of_all ws)) (sym is)

-- The units of the stream are its remaining units, moved by the constant, and the first of them can be due at a moment.
pub record IsMoved (base k : ℕ) (feed : FeedView) (es : List Event) (s : FedStreamView) : Type 0 where
  pub units : units_fed k (fed_events feed es) ≡ moved base s.before (units_of_all (coming s (finds es)))
  pub soon : Soon base s.before (coming s (finds es))

soon_more : (base : ℕ) (before after : Option ℕ) (given : Option CarriedUnit) (all later : List CarriedUnit) → Soon base before (option_to_list given) →
    after ≡ dts_after base before (units_in given) → all ≡ option_to_list given ++ later → Soon base after later → Soon base before all
unfolding Soon dts_after units_in
soon_more base before after None all later first then is rest =
    subst (λ (us : List CarriedUnit). Soon base before us) (sym is) (subst (λ (b : Option ℕ). Soon base b later) then rest)
soon_more base before after (Some u) all later first then is rest = subst (λ (us : List CarriedUnit). Soon base before us) (sym is) first

pub advance_moved : (base k : ℕ) (feed : FeedView) (e : Event) (es : List Event) (s : FedStreamView) →
    (a : Advances base k s e es (after_event feed e) (fed_event feed e)) → IsMoved base k (after_event feed e) es a.after → IsMoved base k feed (e ∷ es) s
unfolding fed_events
advance_moved base k feed e es s a rest =
    let all = coming s (finds (e ∷ es)) in
    let later = coming a.after (finds es) in
    let come = a.come rest.soon in
    record {
      units = units_more base k s.before a.after.before a.given all later (fed_event feed e) (fed_events (after_event feed e) es) a.units a.before come
          rest.units;
      soon = soon_more base s.before a.after.before a.given all later a.soon a.before come rest.soon;
    }

pub coming_last : (s : FedStreamView) → coming s (finds []) ≡ option_to_list (ended_unit false s.units.unit)
unfolding finds
coming_last s = ap (λ (us : List CarriedUnit). apart_from s.place us) (to_come_last s.units) ∙ apart_last s.place (ended_unit false s.units.unit)
