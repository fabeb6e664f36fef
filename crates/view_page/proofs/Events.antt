-- Events, one by one.
use Rattle.std.proofs.Common.{◌≡◌, ℕ, ◌+◌, List, [], ◌∷◌, drop, Result, Ok, Err, refl, subst}
use Rattle.std.specs.Prelude.{OnOk}
use Rattle.events.specs.declared.timed_event.TimedEvent.{TimedEvent}
use Rattle.view_page.specs.Pages.{IsPage, PageState, after_event, after_events}
use Rattle.view_page.specs.declared.page.Page.{Page}

pub on_ok : {V E A B : Type 0} (r : Result V E) → (A → B) → OnOk r A → OnOk r B
on_ok (Ok v) f a = f a
on_ok (Err e) f a = tt

-- The later events bring a page to this state.
pub record ComesTo (page : Page) (events : List TimedEvent) (whole : PageState) : Type 0 where
  pub state : PageState
  pub is : IsPage page state
  pub same : after_events state events ≡ whole

pub here : (page : Page) (events : List TimedEvent) (s : PageState) → IsPage page s → ComesTo page events (after_events s events)
here page events s is = record { state = s; is = is; same = refl }

taken : (before after : Page) (event : TimedEvent) (events : List TimedEvent) (whole : PageState) →
    ((s : PageState) → IsPage before s → IsPage after (after_event s event)) →
    ComesTo before (event ∷ events) whole → ComesTo after events whole
unfolding after_events
taken before after event events whole takes c = record { state = after_event c.state event; is = takes c.state c.is; same = c.same }

-- One more event.
pub one_taken : (before after : Page) (events : List TimedEvent) (i : ℕ) (event : TimedEvent) (whole : PageState) →
    drop i events ≡ event ∷ drop (i + 1) events →
    ((s : PageState) → IsPage before s → IsPage after (after_event s event)) → ComesTo before (drop i events) whole →
    ComesTo after (drop (i + 1) events) whole
one_taken before after events i event whole left takes c =
    taken before after event (drop (i + 1) events) whole takes (subst (λ (es : List TimedEvent). ComesTo before es whole) left c)

no_more : (page : Page) (whole : PageState) → ComesTo page [] whole → IsPage page whole
unfolding after_events
no_more page whole c = subst (IsPage page) c.same c.is

pub past : (page : Page) (events : List TimedEvent) (i : ℕ) (whole : PageState) → drop i events ≡ [] → ComesTo page (drop i events) whole → IsPage page whole
past page events i whole left c = no_more page whole (subst (λ (es : List TimedEvent). ComesTo page es whole) left c)
