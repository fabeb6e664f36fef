-- The buffers of video of a stream that may have none
use Rattle.std.proofs.Common.{◌≡◌, ◌∙◌, ℕ, List, ◌∷◌, Option, Some, None, Result, Ok, Err, OnOk, refl, subst, ap}
use Rattle.tstd_rows.specs.declared.transport_buffer.TransportBuffer.{TransportBuffer}
use Rattle.tstd_rows.specs.History.{Part, transport_of, main_peak, unit_of}
use Rattle.tstd_rows.specs.History.Part.{Begins}
use Rattle.std.specs.Prelude.{◌==◌, if◌then◌else◌}
use Rattle.tstd_rows.specs.RoomTimes.{capped}
use Rattle.tstd_rows.specs.VideoViewed.{elementary_peak, last_transferred, leaked, multiplexing_buffer, with_entry}
use Rattle.tstd_rows.specs.declared.unit_seen.DueTime.{DueTime}
use Rattle.tstd_rows.specs.declared.unit_seen.UnitSeen.{UnitSeen}
use Rattle.tstd_rows.proofs.VideoParts.{leaked_parts}
use Rattle.tstd_rows.specs.HeldVideo.{HoldsVideo, IsVideoHeld, VideoSizes, video_entered, video_found, video_unit, video_unit_in, video_view}
use Rattle.tstd_rows.specs.declared.late_causes.VideoUnit.{VideoUnit}
use Rattle.tstd_rows.specs.declared.video_buffers.VideoBuffers.{VideoBuffers}
use Rattle.tstd_rows.specs.declared.video_buffers.VideoEntered.{VideoEntered}

-- Payload bytes enter the buffers that exist.
pub some_taken : (video : Option VideoBuffers) (v v' : VideoBuffers) (sizes : Option VideoSizes) (rate : ℕ) (parts more : List Part) → video ≡ Some v →
    HoldsVideo video sizes rate parts →
    ((s : VideoSizes) → IsVideoHeld v s rate parts → IsVideoHeld v' s rate more) → HoldsVideo (Some v') sizes rate more
some_taken None v v' sizes rate parts more is k f = absurd cc
some_taken (Some w) v v' None rate parts more is k f = absurd k
some_taken (Some w) v v' (Some s) rate parts more is k f = let same : w ≡ v = cc in f s (subst (λ (x : VideoBuffers). IsVideoHeld x s rate parts) same k)

pub some_found : (video : Option VideoBuffers) (v : VideoBuffers) (sizes : Option VideoSizes) (rate : ℕ) (parts : List Part) (times : List ℕ)
    (e : VideoEntered) → video ≡ Some v →
    HoldsVideo video sizes rate parts → ((s : VideoSizes) → IsVideoHeld v s rate parts → video_view e ≡ video_entered s rate parts times) →
    video_view e ≡ video_found sizes rate parts times
unfolding video_found
some_found None v sizes rate parts times e is k f = absurd cc
some_found (Some w) v None rate parts times e is k f = absurd k
some_found (Some w) v (Some s) rate parts times e is k f = let same : w ≡ v = cc in f s (subst (λ (x : VideoBuffers). IsVideoHeld x s rate parts) same k)

-- If there are no buffers of video, nothing changes.
pub none_taken : (video : Option VideoBuffers) (sizes : Option VideoSizes) (rate : ℕ) (parts more : List Part) → video ≡ None →
    HoldsVideo video sizes rate parts → HoldsVideo video sizes rate more
none_taken None None rate parts more is k = tt
none_taken None (Some s) rate parts more is k = absurd k
none_taken (Some v) sizes rate parts more is k = absurd cc

pub none_found : (video : Option VideoBuffers) (sizes : Option VideoSizes) (rate : ℕ) (parts : List Part) (times : List ℕ) (e : VideoEntered) → video ≡ None →
    HoldsVideo video sizes rate parts →
    e.waiting ≡ None → e.free ≡ None → e.elementary ≡ None → e.multiplexing_most ≡ 0 → e.elementary_most ≡ 0 → video_view e ≡ video_found sizes rate parts times
unfolding video_found
none_found None None rate parts times e is k p q r s t = rw (p, q, r, s, t) refl
none_found None (Some z) rate parts times e is k p q r s t = absurd k
none_found (Some v) sizes rate parts times e is k p q r s t = absurd cc

-- A unit begins in the buffers of video.
pub some_begun : {V E : Type 0} (result : Result V E) (video : Option VideoBuffers) (v v' : VideoBuffers) (sizes : Option VideoSizes) (rate : ℕ)
    (parts : List Part) (due : DueTime) → video ≡ Some v →
    HoldsVideo video sizes rate parts → ((s : VideoSizes) → IsVideoHeld v s rate parts → OnOk result (IsVideoHeld v' s rate (Begins due ∷ parts))) →
    OnOk result (HoldsVideo (Some v') sizes rate (Begins due ∷ parts))
some_begun (Ok value) video v v' sizes rate parts due is k f = some_taken video v v' sizes rate parts (Begins due ∷ parts) is k f
some_begun (Err e) video v v' sizes rate parts due is k f = tt

pub some_unit : (video : Option VideoBuffers) (v : VideoBuffers) (sizes : Option VideoSizes) (rate : ℕ) (parts : List Part) (unit : Option VideoUnit) →
    video ≡ Some v → HoldsVideo video sizes rate parts →
    ((s : VideoSizes) → IsVideoHeld v s rate parts → unit ≡ video_unit_in s rate parts) → unit ≡ video_unit sizes rate parts
unfolding video_unit
some_unit None v sizes rate parts unit is k f = absurd cc
some_unit (Some w) v None rate parts unit is k f = absurd k
some_unit (Some w) v (Some s) rate parts unit is k f = let same : w ≡ v = cc in f s (subst (λ (x : VideoBuffers). IsVideoHeld x s rate parts) same k)

pub none_unit : (video : Option VideoBuffers) (sizes : Option VideoSizes) (rate : ℕ) (parts : List Part) (unit : Option VideoUnit) → video ≡ None →
    HoldsVideo video sizes rate parts → unit ≡ None →
    unit ≡ video_unit sizes rate parts
unfolding video_unit
none_unit None None rate parts unit is k none = none
none_unit None (Some s) rate parts unit is k none = absurd k
none_unit (Some v) sizes rate parts unit is k none = absurd cc

-- The most bytes that the buffers have held are the figures of the parts.
pub most_in : (v : VideoBuffers) (sizes : VideoSizes) (rate : ℕ) (parts : List Part) → IsVideoHeld v sizes rate parts →
    v.view.transport.most ≡ (multiplexing_buffer rate sizes.leak parts).most
most_in v sizes rate parts k =
    ap (λ (b : TransportBuffer). b.most)
    (k.view.arrived ∙ ap (λ (s : ℕ). transport_of s (leaked rate parts)) k.leak ∙ (leaked_parts rate sizes.leak parts).multiplexing)

pub peak_in : (v : VideoBuffers) (sizes : VideoSizes) (rate : ℕ) (parts : List Part) → IsVideoHeld v sizes rate parts →
    v.view.main.peak ≡ elementary_peak rate sizes.leak parts
peak_in v sizes rate parts k =
    k.view.most ∙ ap (λ (s : ℕ). main_peak s (leaked rate parts)) k.leak ∙ (leaked_parts rate sizes.leak parts).peak

pub unit_held : (v : VideoBuffers) (sizes : VideoSizes) (rate : ℕ) (parts : List Part) → IsVideoHeld v sizes rate parts →
    v.view.unit ≡ unit_of sizes.leak (leaked rate parts)
unit_held v sizes rate parts k = k.view.unit ∙ ap (λ (s : ℕ). unit_of s (leaked rate parts)) k.leak

-- Times that are equal once limited give the same entry of the current unit.
entry_same : (unit : Option UnitSeen) (time time' : ℕ) → capped time ≡ capped time' → with_entry unit time ≡ with_entry unit time'
unfolding with_entry
entry_same None time time' is = refl
entry_same (Some u) time time' is = ap (λ (t : ℕ). Some (record { seen = u; entered = if u.bytes == 0 then 0 else t })) is

pub unit_entered : (v : VideoBuffers) (sizes : VideoSizes) (rate : ℕ) (parts : List Part) (unit : Option UnitSeen) (time : ℕ) → IsVideoHeld v sizes rate parts →
    unit ≡ v.view.unit →
    capped time ≡ capped (last_transferred rate sizes.leak sizes.elementary parts) → with_entry unit time ≡ video_unit_in sizes rate parts
unit_entered v sizes rate parts unit time k is at =
    ap (λ (u : Option UnitSeen). with_entry u time) (is ∙ unit_held v sizes rate parts k)
    ∙ entry_same (unit_of sizes.leak (leaked rate parts)) time (last_transferred rate sizes.leak sizes.elementary parts) at
