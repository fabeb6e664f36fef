-- A current unit that is not cut by later findings
use Rattle.std.proofs.Common.{◌≡◌, ℕ, ◌==◌, ◌&&◌, Bool, true, false, Option, Some, None, List, ◌∷◌, refl}
use Rattle.std.specs.Prelude.{is_some, not, unwrap_or}
use Rattle.pid_findings.specs.Views.{FindingView}
use Rattle.es_units.specs.CarriedUnits.{RoleView, Ignored, Start, Continuation, Interruption, role_of, end_of, is_cut}
use Rattle.es_units.specs.UnitSteps.{goes_on_as, is_start_cut, lengthened}
use Rattle.es_moments.specs.WireUnits.{CarriedUnit}

-- Whether these findings cut the current unit, or a role before them does
unfoldable pub under_cut : ℕ → Option CarriedUnit → List FindingView → Bool
under_cut pid None fs = false
under_cut pid (Some u) fs = is_cut u.stream_id pid fs

unfoldable pub past_cut : ℕ → Option CarriedUnit → RoleView → List FindingView → Bool
past_cut pid None r fs = false
past_cut pid (Some u) r fs = unwrap_or (end_of u.stream_id r) (is_cut u.stream_id pid fs)

pub past_here : (pid : ℕ) (u : Option CarriedUnit) (f : FindingView) (fs : List FindingView) → under_cut pid u (f ∷ fs) ≡ past_cut pid u (role_of pid f) fs
unfolding under_cut past_cut is_cut
past_here pid None f fs = refl
past_here pid (Some u) f fs = refl

-- The unit continues or the next unit follows, and later findings do not cut it.
unfoldable pub Uncut : ℕ → Option CarriedUnit → Option CarriedUnit → List FindingView → Type 0
Uncut pid u next fs = (under_cut pid next fs ≡ false) × ((is_some u && not (is_some next)) ≡ false)

uncut_more : (pid id : ℕ) (u : CarriedUnit) (body : List ℕ) (fs : List FindingView) (same : Bool) → (id == u.stream_id) ≡ same →
    past_cut pid (Some u) (Continuation id body) fs ≡ false → Uncut pid (Some u) (goes_on_as (Some u) (Continuation id body)) fs
unfolding Uncut under_cut past_cut end_of goes_on_as lengthened
uncut_more pid id u body fs true is here = let on : is_cut u.stream_id pid fs ≡ false = rw is at here in rw is (on, refl)
uncut_more pid id u body fs false is here = absurd (let no : true ≡ false = rw is at here in cc)

pub uncut_step : (pid : ℕ) (u : Option CarriedUnit) (r : RoleView) (fs : List FindingView) → past_cut pid u r fs ≡ false → is_start_cut pid r fs ≡ false →
    Uncut pid u (goes_on_as u r) fs
unfolding Uncut under_cut past_cut end_of goes_on_as lengthened is_start_cut
uncut_step pid None Ignored fs here whole = (refl, refl)
uncut_step pid None (Start next) fs here whole = (whole, refl)
uncut_step pid None (Continuation id body) fs here whole = (refl, refl)
uncut_step pid None (Interruption unstamped) fs here whole = (refl, refl)
uncut_step pid (Some u) Ignored fs here whole = (here, refl)
uncut_step pid (Some u) (Start next) fs here whole = (whole, refl)
uncut_step pid (Some u) (Continuation id body) fs here whole = uncut_more pid id u body fs (id == u.stream_id) refl here
uncut_step pid (Some u) (Interruption unstamped) fs here whole = absurd cc

-- Without a current unit, findings cut nothing.
pub no_unit : (pid : ℕ) (fs : List FindingView) → under_cut pid None fs ≡ false
unfolding under_cut
no_unit pid fs = refl
