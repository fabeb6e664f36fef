-- The multiplexing buffer of a video stream, if it is viewed: how long it is not empty.
use Rattle.std.proofs.Common.{◌≡◌, ◌∙◌, ℕ, List, [], ◌++◌, Option, Some, None, refl, sym, ap, ap₂, subst, append-nil}
use Rattle.tstd_rows.specs.Held.{Held}
use Rattle.tstd_rows.specs.HeldVideo.{HoldsVideo, IsVideoHeld, VideoSizes}
use Rattle.tstd_rows.specs.declared.video_buffers.VideoBuffers.{VideoBuffers}
use Rattle.tstd_rows.specs.declared.busy_watch.BusyWatch.{BusyWatch}
use Rattle.tstd_rows.specs.declared.busy_watch.Stay.{Stay}
use Rattle.tstd_rows.specs.Busy.{busy_under_way, leak_busy}
use Rattle.tstd_rows.specs.VideoViewed.{last_leaked}
use Rattle.events.specs.declared.event.Event.{Event}
use Rattle.events.specs.declared.rule_event.BufferKind.TheVariants.{Multiplexing}
use Rattle.es_events.specs.declared.entry_events.Place.{Place}
use Rattle.es_events.specs.declared.view_options.ViewOptions.{ViewOptions}
use Rattle.es_events.specs.EntryStays.{busy_since}
use Rattle.es_view.specs.EntryFrames.{leak_busy_of, leak_count, leak_ended, leak_under_way}

pub none_leaks : (video : Option VideoBuffers) (sizes : Option VideoSizes) (h : Held) → video ≡ None → HoldsVideo video sizes h.rate h.parts →
    None ≡ leak_under_way sizes h
unfolding leak_under_way
none_leaks None None h is k = refl
none_leaks None (Some s) h is k = absurd k
none_leaks (Some v) sizes h is k = absurd cc

pub some_leaks : (video : Option VideoBuffers) (v : VideoBuffers) (sizes : Option VideoSizes) (h : Held) (stay : Option Stay) → video ≡ Some v →
    HoldsVideo video sizes h.rate h.parts →
    ((s : VideoSizes) → IsVideoHeld v s h.rate h.parts → stay ≡ busy_under_way (leak_busy h.rate s.leak s.second h.parts) (last_leaked h.rate s.leak h.parts)) →
    stay ≡ leak_under_way sizes h
unfolding leak_under_way
some_leaks None v sizes h stay is k f = absurd cc
some_leaks (Some w) v None h stay is k f = absurd k
some_leaks (Some w) v (Some s) h stay is k f = let same : w ≡ v = cc in f s (subst (λ (x : VideoBuffers). IsVideoHeld x s h.rate h.parts) same k)

-- Whether a time without an empty multiplexing buffer has ended
pub none_stays : (options : ViewOptions) (place : Place) (video : Option VideoBuffers) (sizes : Option VideoSizes) (held h : Held) (events : List Event) →
    video ≡ None → HoldsVideo video sizes h.rate h.parts →
    events ≡ events ++ leak_ended options place (leak_busy_of sizes held) (leak_busy_of sizes h)
unfolding leak_ended leak_busy_of
none_stays options place None None held h events is k = sym (append-nil events)
none_stays options place None (Some s) held h events is k = absurd k
none_stays options place (Some v) sizes held h events is k = absurd cc

pub some_stays : (options : ViewOptions) (place : Place) (video : Option VideoBuffers) (v : VideoBuffers) (sizes : Option VideoSizes) (held h : Held) (count : ℕ)
    (events after : List Event) → video ≡ Some v → HoldsVideo video sizes h.rate h.parts → count ≡ leak_count (leak_busy_of sizes held) →
    after ≡ events ++ busy_since options place Multiplexing count v.busy →
    after ≡ events ++ leak_ended options place (leak_busy_of sizes held) (leak_busy_of sizes h)
unfolding leak_ended leak_busy_of leak_count
some_stays options place None v sizes held h count events after is k same more = absurd cc
some_stays options place (Some w) v None held h count events after is k same more = absurd k
some_stays options place (Some w) v (Some s) held h count events after is k same more =
    let one : w ≡ v = cc in
    let busy : v.busy ≡ leak_busy h.rate s.leak s.second h.parts = ap (λ (x : VideoBuffers). x.busy) (sym one) ∙ k.busy in
    more ∙ ap₂ (λ (n : ℕ) (b : BusyWatch). events ++ busy_since options place Multiplexing n b) same busy
