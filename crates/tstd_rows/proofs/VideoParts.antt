-- A video stream as its multiplexing buffer receives it
use Rattle.std.proofs.Common.{◌≡◌, ◌∙◌, sym, ℕ, suc, ◌+◌, ◌<◌, List, [], ◌∷◌, ◌++◌, None, refl, subst, ap, ap₂, arith}
use Rattle.clock27.specs.Departure.{departures, last_left}
use Rattle.clock27.specs.Fullness.{fullness}
use Rattle.clock27.specs.Peak.{IsPeak, greatest_at}
use Rattle.clock27.proofs.Departures.{departures-append}
use Rattle.clock27.proofs.Peak.{departures_climb}
use Rattle.tstd.proofs.RisingTimes.{climbs_low, greatest_ext}
use Rattle.tstd_rows.specs.RowEntry.{entered}
use Rattle.tstd_rows.proofs.LeavingBytes.{climbs_rises}
use Rattle.tstd_rows.specs.Buffers.{entered as buffer_entered}
use Rattle.tstd_rows.specs.Excesses.{excess_after}
use Rattle.tstd_rows.specs.TransportLaws.{Rises, empty}
use Rattle.tstd_rows.proofs.Rising.{rises_appended}
use Rattle.tstd_rows.specs.History.{Part, arrivals_of, last_of, left_after, payload_left, main_fullness, main_peak, until_of}
use Rattle.tstd_rows.specs.History.Part.{Passes, Carries, Begins}
use Rattle.tstd_rows.specs.VideoViewed.{multiplexing_left, leaked, leaked_after, elementary_held, elementary_peak, LeakedPartsLaw, VideoFiguresLaw}
use Rattle.tstd_rows.proofs.Views.{payload_by}
use Rattle.tstd_rows.proofs.AllMoments.{figures_law}

pub leaked_arrive : (step : ℕ) (parts : List Part) → arrivals_of (leaked step parts) ≡ payload_left step parts
unfolding leaked arrivals_of payload_left
leaked_arrive step [] = refl
leaked_arrive step (Passes ts ∷ before) = leaked_arrive step before
leaked_arrive step (Carries ts ∷ before) = ap (λ (us : List ℕ). us ++ left_after step before ts) (leaked_arrive step before)
leaked_arrive step (Begins due ∷ before) = leaked_arrive step before

leaked_until : (step : ℕ) (parts : List Part) → until_of (leaked step parts) ≡ until_of parts
unfolding leaked until_of
leaked_until step [] = refl
leaked_until step (Passes ts ∷ before) = leaked_until step before
leaked_until step (Carries ts ∷ before) = leaked_until step before
leaked_until step (Begins due ∷ before) = refl

-- In the stream that MB receives, the bytes of a part leave when they leave MB.
pub leaked_leave : (step leak : ℕ) (before : List Part) (ts : List ℕ) →
    left_after leak (leaked step before) (left_after step before ts) ≡ leaked_after step leak before ts
leaked_leave step leak before ts = ap (λ (us : List ℕ). departures leak (last_left leak 0 us) (left_after step before ts)) (leaked_arrive step before)

leaked_left : (step leak : ℕ) (parts : List Part) → payload_left leak (leaked step parts) ≡ multiplexing_left step leak parts
unfolding leaked payload_left departures
leaked_left step leak [] = refl
leaked_left step leak (Passes ts ∷ before) = leaked_left step leak before
leaked_left step leak (Carries ts ∷ before) =
    ap₂ (λ (us vs : List ℕ). us ++ vs) (leaked_left step leak before) (leaked_leave step leak before ts)
    ∙ sym (departures-append leak 0 (payload_left step before) (left_after step before ts))
leaked_left step leak (Begins due ∷ before) = leaked_left step leak before

pub leaked_held : (step leak : ℕ) (parts : List Part) (x : ℕ) → main_fullness leak (leaked step parts) x ≡ elementary_held step leak parts x
unfolding leaked main_fullness elementary_held
leaked_held step leak [] x = refl
leaked_held step leak (Passes ts ∷ before) x = leaked_held step leak before x
leaked_held step leak (Carries ts ∷ before) x =
    ap₂ (λ (m n : ℕ). m + n) (leaked_held step leak before x)
    (ap₂ (λ (u : ℕ) (vs : List ℕ). entered u x vs) (leaked_until step before) (leaked_leave step leak before ts))
leaked_held step leak (Begins due ∷ before) x = leaked_held step leak before x

leaked_peak : (step leak : ℕ) (parts : List Part) → main_peak leak (leaked step parts) ≡ elementary_peak step leak parts
leaked_peak step leak parts =
    greatest_ext (main_fullness leak (leaked step parts)) (elementary_held step leak parts) (payload_left leak (leaked step parts))
    (leaked_held step leak parts)
    ∙ ap (greatest_at (elementary_held step leak parts)) (leaked_left step leak parts)

pub leaked_parts : LeakedPartsLaw
leaked_parts step leak parts = record {
  multiplexing = ap (λ (ts : List ℕ). buffer_entered (empty leak) ts) (leaked_arrive step parts);
  under_way = λ size. ap (λ (ts : List ℕ). excess_after leak size 0 None ts) (leaked_arrive step parts);
  left = leaked_left step leak parts;
  elementary = leaked_held step leak parts;
  peak = leaked_peak step leak parts;
  until = leaked_until step parts;
}

-- Payload bytes leave a buffer one after another, however they arrive.
payload_rises : (step : ℕ) (parts : List Part) → 0 < step → Rises 0 (payload_left step parts)
unfolding payload_left
payload_rises step [] pos = unfold Rises in tt
payload_rises step (Passes ts ∷ before) pos = payload_rises step before pos
payload_rises step (Carries ts ∷ before) pos =
    let last = last_of step before in
    let climbs = climbs_low last (suc last) (departures step last ts) (omega arith) (departures_climb step last ts pos) in
    rises_appended 0 last (payload_left step before) (left_after step before ts) (payload_rises step before pos) (omega arith) (payload_by step before)
    (climbs_rises last (departures step last ts) climbs)
payload_rises step (Begins due ∷ before) pos = payload_rises step before pos

pub video_figures : VideoFiguresLaw
video_figures step leak parts some pos =
    let rises : Rises 0 (arrivals_of (leaked step parts)) = rw (leaked_arrive step parts) (payload_rises step parts some) in
    let both = figures_law leak (leaked step parts) pos rises in
    let first = both.0 in
    let second = both.1 in (
      subst (λ (ts : List ℕ). IsPeak (λ x. fullness x ts (departures leak 0 ts)) (buffer_entered (empty leak) ts).most) (leaked_arrive step parts) first,
      record {
        never_more = λ x. omega (arith, second.never_more x, leaked_held step leak parts x, leaked_peak step leak parts);
        moment = second.moment;
        reached = sym (leaked_held step leak parts second.moment) ∙ second.reached ∙ leaked_peak step leak parts;
      },
    )
