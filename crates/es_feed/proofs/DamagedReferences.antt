-- A damaged clock reference
use Rattle.std.proofs.Common.{◌≡◌, ◌∙◌, ◌⊎◌, ℕ, ◌+◌, ◌++◌, Bool, true, false, Option, Some, None, List, refl, sym, ap, inl, inr}
use Rattle.std.specs.Prelude.{not, nat_le, is_some, ◌&&◌}
use Rattle.std.specs.Option.{option_to_list}
use Rattle.std.proofs.lemmas.List.{append-nil}
use Rattle.packet_pcr.specs.PacketPcr.{is_on}
use Rattle.packet_pcr.specs.declared.pcr_reading.FoundPcr.{FoundPcr}
use Rattle.fed_streams.specs.Clocks.{earlier_after, follows, jump_of, jumps, origin_stepped, report_of, returns, shown_after, step_of, timed_by}
use Rattle.fed_streams.specs.Clocks.{unless_doubtful}
use Rattle.fed_streams.specs.Feeding.{Fed, FeedView, greatest_of}
use Rattle.fed_streams.specs.Maps.{MapView, clock_pid}
use Rattle.fed_streams.specs.Origins.{base_for, is_doubtful, is_near, jumped_base, origin_doubted, origin_kept}
use Rattle.es_feed.specs.DamagedReferences.{ContinuingStays, DamageMovesNothing, FarIsForgotten, IsFar, IsOnTime, IsStrange, NearUnitsStay}
use Rattle.es_feed.specs.DamagedReferences.{StrangeIsForgotten}
use Rattle.es_feed.proofs.ContinuedClocks.{Continued, continues_on, time_is_near}
use Rattle.fed_streams.specs.Ticks.{after_late, after_own, after_shown, fed_late}
use Rattle.fed_streams.specs.Ticks.{fed_own, fed_shown, jump_fed, jump_pause, late_in, step_in}
use Rattle.fed_streams.specs.declared.clock_jump.ClockStep.{ClockStep}
use Rattle.fed_streams.specs.declared.clock_jump.ClockStep.TheVariants.{Continues, Doubts}
use Rattle.fed_streams.specs.declared.origin.DoubtfulClock.{DoubtfulClock}
use Rattle.fed_streams.specs.declared.origin.Origin.{Origin}

-- 1. The constant of a unit

near_other : (late near : Bool) → near ≡ true → (late && not near) ≡ false
near_other true near is = rw is refl
near_other false near is = refl

near_stays : NearUnitsStay
unfolding base_for is_doubtful origin_doubted origin_kept
near_stays o packet moment before shown first dts near =
    rw (near_other (nat_le packet first) (is_near before dts) near) refl

-- 2. Both references

-- The feed with this doubtful reference, or with none
abbrev doubting : FeedView → Option DoubtfulClock → FeedView
doubting feed d =
    record {
      earliest = feed.earliest;
      origin = record { now = feed.origin.now; since = feed.origin.since; before = feed.origin.before; doubtful = d };
      shown = feed.shown;
      earlier = feed.earlier;
      ticked = feed.ticked;
      marking = feed.marking;
      maps = feed.maps;
      streams = feed.streams;
      fallen = feed.fallen;
    }

-- The feed with these constants
abbrev with_origin : FeedView → Origin → FeedView
with_origin feed o =
    record {
      earliest = feed.earliest;
      origin = o;
      shown = feed.shown;
      earlier = feed.earlier;
      ticked = feed.ticked;
      marking = feed.marking;
      maps = feed.maps;
      streams = feed.streams;
      fallen = feed.fallen;
    }

-- The feed after a reference that fits the clock so
abbrev stepped : FeedView → FoundPcr → ClockStep → FeedView
stepped feed pcr step =
    record {
      earliest = feed.earliest;
      origin = origin_stepped step feed.origin feed.shown (greatest_of feed + jump_pause) pcr;
      shown = shown_after step feed.shown pcr;
      earlier = earlier_after step feed.shown feed.earlier;
      ticked = feed.ticked;
      marking = feed.marking;
      maps = feed.maps;
      streams = feed.streams;
      fallen = feed.fallen;
    }

-- Time after it
abbrev timed : FeedView → FoundPcr → FeedView → ClockStep → FeedView
timed feed pcr g step = after_late g (unless_doubtful step (late_in g (timed_by step feed.shown feed.earlier pcr.base)))

abbrev fed_timed : FeedView → FoundPcr → FeedView → ClockStep → List Fed
fed_timed feed pcr g step = fed_late g (unless_doubtful step (late_in g (timed_by step feed.shown feed.earlier pcr.base)))

abbrev reported : Option ℕ → FoundPcr → ClockStep → List Fed
reported shown pcr step = option_to_list (jump_fed (report_of step shown pcr))

own_after : (feed : FeedView) (pcr : FoundPcr) → is_on pcr.pid (clock_pid feed.maps) ≡ true → after_own feed pcr ≡ after_shown feed pcr
own_after feed pcr own = rw own refl

own_fed : (feed : FeedView) (pcr : FoundPcr) → is_on pcr.pid (clock_pid feed.maps) ≡ true → fed_own feed pcr ≡ fed_shown feed pcr
own_fed feed pcr own = rw own refl

after_step : (feed : FeedView) (pcr : FoundPcr) (step : ClockStep) → step_in feed pcr ≡ step →
    after_shown feed pcr ≡ timed feed pcr (stepped feed pcr step) step
after_step feed pcr step is = ap (λ (s : ClockStep). timed feed pcr (stepped feed pcr s) s) is

fed_step : (feed : FeedView) (pcr : FoundPcr) (step : ClockStep) → step_in feed pcr ≡ step →
    fed_shown feed pcr ≡ reported feed.shown pcr step ++ fed_timed feed pcr (stepped feed pcr step) step
fed_step feed pcr step is = ap (λ (s : ClockStep). reported feed.shown pcr s ++ fed_timed feed pcr (stepped feed pcr s) s) is

-- 3. A strange reference that is far

doubts : (shown earlier : Option ℕ) (d : Option DoubtfulClock) (pcr : FoundPcr) → jumps shown pcr.base ≡ true → pcr.discontinuity ≡ false →
    follows d pcr.base ≡ false → returns earlier pcr.base ≡ false → step_of shown earlier d pcr ≡ Doubts
unfolding step_of
doubts shown earlier d pcr leaves unannounced alone apart = rw (leaves, unannounced, alone, apart) refl

doubted_is : (o : Origin) (packet moment : ℕ) (before : Option ℕ) (shown : ℕ) →
    (d : Option DoubtfulClock) × (origin_doubted o packet moment before shown ≡ record { now = o.now; since = o.since; before = o.before; doubtful = d })
unfolding origin_doubted
doubted_is o packet moment None shown = (None, refl)
doubted_is o packet moment (Some before) shown =
    (Some (record { packet = packet; before = before; shown = shown; base = jumped_base moment shown o.now }), refl)

doubted_step : (feed : FeedView) (pcr : FoundPcr) → (d : Option DoubtfulClock) × (timed feed pcr (stepped feed pcr Doubts) Doubts ≡ doubting feed d)
unfolding origin_stepped shown_after earlier_after unless_doubtful after_late
doubted_step feed pcr =
    let one = doubted_is feed.origin pcr.packet (greatest_of feed + jump_pause) feed.shown pcr.base in
    (one.0, ap (λ (o : Origin). with_origin feed o) one.1)

fed_doubted : (feed : FeedView) (pcr : FoundPcr) →
    reported feed.shown pcr Doubts ++ fed_timed feed pcr (stepped feed pcr Doubts) Doubts ≡ option_to_list (jump_fed (jump_of feed.shown pcr))
unfolding report_of unless_doubtful fed_late
fed_doubted feed pcr = append-nil (option_to_list (jump_fed (jump_of feed.shown pcr)))

-- 4. The next one

continues : (shown earlier : Option ℕ) (d : Option DoubtfulClock) (pcr : FoundPcr) → jumps shown pcr.base ≡ false → step_of shown earlier d pcr ≡ Continues
unfolding step_of
continues shown earlier d pcr stays = rw stays refl

same_step : (feed : FeedView) (d : Option DoubtfulClock) (pcr : FoundPcr) → stepped (doubting feed d) pcr Continues ≡ stepped feed pcr Continues
unfolding origin_stepped shown_after earlier_after origin_kept
same_step feed d pcr = refl

next_after : (feed : FeedView) (d : Option DoubtfulClock) (pcr : FoundPcr) → IsOnTime feed pcr → after_own (doubting feed d) pcr ≡ after_own feed pcr
next_after feed d pcr is =
    own_after (doubting feed d) pcr is.own ∙ after_step (doubting feed d) pcr Continues (continues feed.shown feed.earlier d pcr is.stays)
    ∙ ap (λ (g : FeedView). timed feed pcr g Continues) (same_step feed d pcr)
    ∙ sym (own_after feed pcr is.own ∙ after_step feed pcr Continues (continues feed.shown feed.earlier feed.origin.doubtful pcr is.stays))

next_fed : (feed : FeedView) (d : Option DoubtfulClock) (pcr : FoundPcr) → IsOnTime feed pcr → fed_own (doubting feed d) pcr ≡ fed_own feed pcr
next_fed feed d pcr is =
    own_fed (doubting feed d) pcr is.own ∙ fed_step (doubting feed d) pcr Continues (continues feed.shown feed.earlier d pcr is.stays)
    ∙ ap (λ (g : FeedView). reported feed.shown pcr Continues ++ fed_timed feed pcr g Continues) (same_step feed d pcr)
    ∙ sym (own_fed feed pcr is.own ∙ fed_step feed pcr Continues (continues feed.shown feed.earlier feed.origin.doubtful pcr is.stays))

forgotten : FarIsForgotten
forgotten feed strange next is far on_time =
    let step : step_in feed strange ≡ Doubts =
    doubts feed.shown feed.earlier feed.origin.doubtful strange far.leaves is.unannounced is.alone far.apart in
    let one = doubted_step feed strange in
    let after : after_own feed strange ≡ doubting feed one.0 = own_after feed strange is.own ∙ after_step feed strange Doubts step ∙ one.1 in
    let fed : fed_own feed strange ≡ option_to_list (jump_fed (jump_of feed.shown strange)) =
    own_fed feed strange is.own ∙ fed_step feed strange Doubts step ∙ fed_doubted feed strange in (
      fed,
      ap (λ (g : FeedView). after_own g next) after ∙ next_after feed one.0 next on_time,
      ap (λ (g : FeedView). fed_own g next) after ∙ next_fed feed one.0 next on_time,
    )

-- 5. Any strange reference

continuing_stays : ContinuingStays
continuing_stays feed pcr before own is from = ((continues_on feed pcr own is).origin, time_is_near feed pcr before is from)

-- A strange reference is far, or it continues the clock.
strange_by : (feed : FeedView) (pcr : FoundPcr) (leaves back : Bool) → jumps feed.shown pcr.base ≡ leaves → returns feed.earlier pcr.base ≡ back →
    IsStrange feed pcr → IsFar feed pcr ⊎ (step_in feed pcr ≡ Continues)
unfolding step_of
strange_by feed pcr false back jump_is back_is is = inr (rw jump_is refl)
strange_by feed pcr true true jump_is back_is is = inr (rw (jump_is, is.unannounced, is.alone, back_is) refl)
strange_by feed pcr true false jump_is back_is is = inl (record { leaves = jump_is; apart = back_is })

-- The next reference continues it, or the reference before it.
next_by : (before base : ℕ) (shown : Option ℕ) (pcr : FoundPcr) (leaves : Bool) → jumps (Some base) pcr.base ≡ leaves → pcr.discontinuity ≡ false →
    shown ≡ Some before → jumps shown pcr.base ≡ false → step_of (Some base) shown None pcr ≡ Continues
unfolding step_of follows returns
next_by before base shown pcr false leaves unannounced known stays = rw leaves refl
next_by before base shown pcr true leaves unannounced known stays =
    let again : jumps (Some before) pcr.base ≡ false = ap (λ (s : Option ℕ). jumps s pcr.base) (sym known) ∙ stays in
    rw (known, leaves, unannounced, again) refl

shown_is : (shown : Option ℕ) → is_some shown ≡ true → (before : ℕ) × (shown ≡ Some before)
shown_is None known = absurd cc
shown_is (Some before) known = (before, refl)

kept_twice : (o : Origin) → origin_kept (origin_kept o) ≡ origin_kept o
unfolding origin_kept
kept_twice o = refl

none_kept : (o : Origin) → (origin_kept o).doubtful ≡ None
unfolding origin_kept
none_kept o = refl

-- The next reference continues the clock after a strange reference that continues it, too.
next_step : (feed g : FeedView) (strange next : FoundPcr) → IsStrange feed strange → IsOnTime feed next → next.discontinuity ≡ false →
    Continued feed g strange → step_in g next ≡ Continues
next_step feed g strange next is on_time unannounced c =
    let known = shown_is feed.shown is.known in
    let sure : g.origin.doubtful ≡ None = ap (λ (o : Origin). o.doubtful) c.origin ∙ none_kept feed.origin in
    ap (λ (s : Option ℕ). step_of s g.earlier g.origin.doubtful next) c.shown
    ∙ ap (λ (s : Option ℕ). step_of (Some strange.base) s g.origin.doubtful next) c.earlier
    ∙ ap (λ (d : Option DoubtfulClock). step_of (Some strange.base) feed.shown d next) sure
    ∙ next_by known.0 strange.base feed.shown next (jumps (Some strange.base) next.base) refl unannounced known.1 on_time.stays

strange_forgotten : StrangeIsForgotten
strange_forgotten feed strange next is on_time unannounced =
    by (strange_by feed strange (jumps feed.shown strange.base) (returns feed.earlier strange.base) refl refl is)
  where
    by : IsFar feed strange ⊎ (step_in feed strange ≡ Continues) →
        ((after_own (after_own feed strange) next).origin ≡ (after_own feed next).origin)
        × ((after_own (after_own feed strange) next).shown ≡ (after_own feed next).shown)
    by (inl far) =
        let same = (forgotten feed strange next is far on_time).1 in
        (ap (λ (g : FeedView). g.origin) same, ap (λ (g : FeedView). g.shown) same)
    by (inr step) =
        let g = after_own feed strange in
        let one = continues_on feed strange is.own step in
        let own : is_on next.pid (clock_pid g.maps) ≡ true = ap (λ (m : List MapView). is_on next.pid (clock_pid m)) one.maps ∙ on_time.own in
        let two = continues_on g next own (next_step feed g strange next is on_time unannounced one) in
        let alone = continues_on feed next on_time.own (continues feed.shown feed.earlier feed.origin.doubtful next on_time.stays) in (
          two.origin ∙ ap origin_kept one.origin ∙ kept_twice feed.origin ∙ sym alone.origin,
          two.shown ∙ sym alone.shown,
        )

pub moves_nothing : DamageMovesNothing
moves_nothing = (near_stays, forgotten, continuing_stays, strange_forgotten)
