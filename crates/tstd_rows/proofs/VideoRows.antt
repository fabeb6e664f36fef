-- Bytes of video that enter the two buffers
use Rattle.std.proofs.Common.{◌≡◌, ◌∙◌, sym, Global, ℕ, ◌+◌, ◌*◌, ◌^◌, ◌≤◌, max, List, [], ◌∷◌, ◌++◌, length, replicate, take, drop, Option, Some, None, Result}
use Rattle.std.proofs.Common.{Ok, Err, IfOk, OnOk, refl, subst, ap, ap₂, arith}
use Rattle.std.specs.Option.{option_to_list}
use Rattle.std.proofs.Math.Nat.{mul-le-mul, mul-le-mul_right}
use Rattle.clock27.specs.Departure.{departures, last_left}
use Rattle.clock27.specs.Peak.{greatest_at, most_found}
use Rattle.tstd.proofs.RisingTimes.{greatest_ext}
use Rattle.std.proofs.lemmas.List.{length-append}
use Rattle.arrival.specs.declared.row.Row.{Row}
use Rattle.arrival.specs.Rows.{times_of}
use Rattle.tstd_rows.specs.declared.leaving.Leaving.{Leaving}
use Rattle.tstd_rows.proofs.Pieces.{length-row}
use Rattle.tstd_rows.specs.Buffers.{IsSoon, times_left}
use Rattle.tstd_rows.specs.Excesses.{excess_after, excesses_ended}
use Rattle.tstd_rows.specs.declared.excess.Excess.{Excess}
use Rattle.tstd_rows.specs.declared.excess.ExcessWatch.{ExcessWatch}
use Rattle.tstd_rows.specs.declared.transport_buffer.TransportBuffer.{TransportBuffer}
use Rattle.tstd_rows.specs.History.{Part, arrivals_of, last_of, left_after, main_fullness, unit_of}
use Rattle.tstd_rows.specs.History.Part.{Passes, Carries, Begins}
use Rattle.tstd_rows.specs.MainExcess.{after_row, ended_by}
use Rattle.tstd_rows.specs.VideoViewed.{elementary_held, last_leaked, last_transferred, leaked, multiplexing_under_way}
use Rattle.tstd_rows.specs.Viewed.{IsViewOf}
use Rattle.tstd_rows.specs.Busy.{busy_under_way, busy_with, leak_busy, never_busy}
use Rattle.tstd_rows.specs.declared.busy_watch.BusyWatch.{BusyWatch}
use Rattle.tstd_rows.specs.declared.viewed_buffers.StreamView.{StreamView}
use Rattle.tstd_rows.specs.declared.eb_rooms.EbRooms.{EbRooms}
use Rattle.tstd.specs.declared.buffered_units.BufferedUnit.{BufferedUnit}
use Rattle.clock27.proofs.Departures.{length-departures}
use Rattle.tstd_rows.specs.RoomTimes.{capped, raised}
use Rattle.tstd_rows.specs.Rooms.{AreRooms, rooms_now}
use Rattle.tstd_rows.proofs.Rooms.{rooms_carried, rooms_passed}
use Rattle.tstd_rows.specs.declared.main_watch.MainWatch.{MainWatch}
use Rattle.tstd_rows.specs.declared.unit_seen.DueTime.{DueTime}
use Rattle.tstd_rows.specs.declared.unit_seen.UnitSeen.{UnitSeen}
use Rattle.tstd_rows.proofs.VideoParts.{leaked_arrive, leaked_held, leaked_leave}
use Rattle.tstd_rows.specs.Held.{Held, IsHeld}
use Rattle.tstd_rows.specs.HeldVideo.{HoldsVideo, IsVideoHeld, VideoSizes, elementary_found, elementary_under_way, last_entry, video_entered, video_view}
use Rattle.tstd_rows.specs.declared.stream_buffers.StreamBuffers.{StreamBuffers}
use Rattle.tstd_rows.specs.declared.video_buffers.VideoBuffers.{VideoBuffers}
use Rattle.tstd_rows.specs.declared.video_buffers.VideoEntered.{VideoEntered}

-- At the entries of a row, the most bytes in the main buffer of the view are the most bytes in EB.
found_leaked : (rate leak : ℕ) (parts : List Part) (times : List ℕ) →
    greatest_at (main_fullness leak (Carries (left_after rate parts times) ∷ leaked rate parts))
    (left_after leak (leaked rate parts) (left_after rate parts times)) ≡ elementary_found rate leak parts times
unfolding leaked
found_leaked rate leak parts times =
    greatest_ext (main_fullness leak (leaked rate (Carries times ∷ parts))) (elementary_held rate leak (Carries times ∷ parts))
    (left_after leak (leaked rate parts) (left_after rate parts times))
    (leaked_held rate leak (Carries times ∷ parts))
    ∙ ap (greatest_at (elementary_held rate leak (Carries times ∷ parts))) (leaked_leave rate leak parts times)

-- A view of one more row of the stream that enters MB is a view of one more row of the video stream.
pub leaked_view : {A : Type 0} (view : StreamView A) (rate : ℕ) (parts : List Part) (ls times : List ℕ) → ls ≡ left_after rate parts times →
    IsViewOf view (Carries ls ∷ leaked rate parts) → IsViewOf view (leaked rate (Carries times ∷ parts))
unfolding leaked
leaked_view view rate parts ls times is v = subst (λ (ts : List ℕ). IsViewOf view (Carries ts ∷ leaked rate parts)) is v

pub begun_view : {A : Type 0} (view : StreamView A) (rate : ℕ) (parts : List Part) (due : DueTime) →
    IsViewOf view (Begins due ∷ leaked rate parts) → IsViewOf view (leaked rate (Begins due ∷ parts))
unfolding leaked
begun_view view rate parts due v = v

pub empty_view : {A : Type 0} (view : StreamView A) (rate : ℕ) → IsViewOf view [] → IsViewOf view (leaked rate [])
unfolding leaked
empty_view view rate v = v

-- The last byte of the view leaves at the time when the last byte leaves MB.
pub leaked_last : {A : Type 0} (view : StreamView A) (leak rate : ℕ) (parts : List Part) → view.transport.step ≡ leak → IsViewOf view (leaked rate parts) →
    view.transport.last ≡ last_leaked rate leak parts
leaked_last view leak rate parts step v =
    ap (λ (b : TransportBuffer). b.last) v.arrived
    ∙ ap₂ (λ (s : ℕ) (ts : List ℕ). last_left s 0 ts) step (leaked_arrive rate parts)

-- The current excess of the view is the current excess of MB.
pub leaked_excess : {A : Type 0} (view : StreamView A) (leak size rate : ℕ) (parts : List Part) → view.transport.step ≡ leak → view.watch.size ≡ size →
    IsViewOf view (leaked rate parts) →
    view.watch.under_way ≡ multiplexing_under_way rate leak size parts
leaked_excess view leak size rate parts step same v =
    v.watched ∙ ap (λ (s : ℕ). excess_after s view.watch.size 0 None (arrivals_of (leaked rate parts))) step
    ∙ ap₂ (λ (z : ℕ) (ts : List ℕ). excess_after leak z 0 None ts) same (leaked_arrive rate parts)

grown : (rate leak size : ℕ) (parts : List Part) (times : List ℕ) →
    after_row size (elementary_under_way rate leak size parts) (elementary_found rate leak parts times) (last_entry rate leak parts times) ≡
    elementary_under_way rate leak size (Carries times ∷ parts)
unfolding elementary_under_way
grown rate leak size parts times = refl

-- The most bytes that a view finds at the entries of a row are the most bytes in EB.
elementary_is : (old : VideoBuffers) (sizes : VideoSizes) (rate : ℕ) (parts : List Part) (ls times : List ℕ) (most : ℕ) → IsVideoHeld old sizes rate parts →
    ls ≡ left_after rate parts times →
    most ≡ greatest_at (main_fullness old.view.transport.step (Carries ls ∷ leaked rate parts)) (left_after old.view.transport.step (leaked rate parts) ls) →
    most ≡ elementary_found rate sizes.leak parts times
elementary_is old sizes rate parts ls times most k is found =
    found
    ∙ ap₂ (λ (s : ℕ) (ts : List ℕ). greatest_at (main_fullness s (Carries ts ∷ leaked rate parts)) (left_after s (leaked rate parts) ts)) k.leak is
    ∙ found_leaked rate sizes.leak parts times

-- Bytes enter buffers that hold the parts so far.
pub video_held : (old new : VideoBuffers) (sizes : VideoSizes) (rate : ℕ) (parts : List Part) (ls times : List ℕ) (most last : ℕ) →
    IsVideoHeld old sizes rate parts → ls ≡ left_after rate parts times →
    IsViewOf new.view (Carries ls ∷ leaked rate parts) → new.view.transport.step ≡ old.view.transport.step → new.view.watch.size ≡ old.view.watch.size →
    most ≡ greatest_at (main_fullness old.view.transport.step (Carries ls ∷ leaked rate parts)) (left_after old.view.transport.step (leaked rate parts) ls) →
    last ≡ new.view.transport.last → new.elementary.size ≡ old.elementary.size →
    new.elementary.under_way ≡ after_row old.elementary.size old.elementary.under_way most last →
    new.busy ≡ busy_with old.busy old.view.transport.last ls → AreRooms new.rooms rate sizes.leak sizes.elementary (Carries times ∷ parts) →
    IsVideoHeld new sizes rate (Carries times ∷ parts)
unfolding leak_busy
video_held old new sizes rate parts ls times most last k is view step size found last_is main_size main busy rooms =
    let viewed = leaked_view new.view rate parts ls times is view in
    let leak : new.view.transport.step ≡ sizes.leak = step ∙ k.leak in
    let most_is : most ≡ elementary_found rate sizes.leak parts times = elementary_is old sizes rate parts ls times most k is found in
    let ends : last ≡ last_entry rate sizes.leak parts times = last_is ∙ leaked_last new.view sizes.leak rate (Carries times ∷ parts) leak viewed in
    record {
      leak = leak;
      size = size ∙ k.size;
      view = viewed;
      main_size = main_size ∙ k.main_size;
      under_way =
          main
          ∙ ap₂ (λ (n : ℕ) (u : Option Excess). after_row n u most last) k.main_size k.under_way
          ∙ ap₂ (λ (m l : ℕ). after_row sizes.elementary (elementary_under_way rate sizes.leak sizes.elementary parts) m l) most_is ends
          ∙ grown rate sizes.leak sizes.elementary parts times;
      busy = busy ∙ ap₂ (λ (w : BusyWatch) (l : ℕ). busy_with w l ls) k.busy (leaked_last old.view sizes.leak rate parts k.leak k.view)
          ∙ ap (λ (ts : List ℕ). busy_with (leak_busy rate sizes.leak sizes.second parts) (last_leaked rate sizes.leak parts) ts) is;
      rooms = rooms;
    }

pub many_left : (l : Leaving) → l.waiting.bytes + l.free.bytes ≡ length (times_left l)
many_left l =
    sym (length-append (times_of l.waiting) (times_of l.free)
    ∙ ap₂ (λ (m n : ℕ). m + n) (length-row l.waiting.from l.waiting.pace l.waiting.parts l.waiting.bytes)
    (length-row l.free.from l.free.pace l.free.parts l.free.bytes))

-- After these bytes, the kept times give the rooms of the next bytes.
pub rooms_taken : (old : VideoBuffers) (settled new : EbRooms) (sizes : VideoSizes) (rate step n : ℕ) (parts : List Part) (ls times : List ℕ) →
    IsVideoHeld old sizes rate parts → ls ≡ left_after rate parts times →
    n ≡ length ls → step ≡ sizes.leak →
    ((from : ℕ) → old.view.transport.last ≤ from → raised from (rooms_now settled) ≡ raised from (rooms_now old.rooms)) →
    length (rooms_now settled) ≡ length (rooms_now old.rooms) →
    settled.last ≡ old.rooms.last → settled.current ≡ old.rooms.current →
    rooms_now new ≡ drop n (rooms_now settled ++ replicate n settled.current.until) →
    new.last ≡ capped (last_left step settled.last (take n (rooms_now settled ++ replicate n settled.current.until))) →
    new.current.until ≡ settled.current.until →
    AreRooms new rate sizes.leak sizes.elementary (Carries times ∷ parts)
rooms_taken old settled new sizes rate step n parts ls times k is many leak rooms len last current next goes stays =
    rooms_carried old.rooms settled new rate sizes.leak sizes.elementary n parts times k.rooms
    (many ∙ ap length is ∙ length-departures rate (last_of rate parts) times)
    (λ from le. rooms from (omega (arith, le, leaked_last old.view sizes.leak rate parts k.leak k.view))) len last
    (ap (λ (u : BufferedUnit). u.until) current) next
    (goes ∙ ap (λ (s : ℕ). capped (last_left s settled.last (take n (rooms_now settled ++ replicate n settled.current.until)))) leak) stays

same_video : (e : VideoEntered) (multiplexing : List Excess) (elementary : Option Excess) (most elementary_most : ℕ) →
    option_to_list e.waiting ++ option_to_list e.free ≡ multiplexing →
    e.elementary ≡ elementary → e.multiplexing_most ≡ most → e.elementary_most ≡ elementary_most →
    video_view e ≡ record { multiplexing = multiplexing; elementary = elementary; multiplexing_most = most; elementary_most = elementary_most }
same_video e multiplexing elementary most elementary_most p q r s = rw (p, q, r, s) refl

-- The excesses and the figures of the view are the results of these bytes.
pub video_found : (old : VideoBuffers) (new : StreamView Global) (sizes : VideoSizes) (rate : ℕ) (parts : List Part) (ls times : List ℕ) (most last : ℕ)
    (e : VideoEntered) → IsVideoHeld old sizes rate parts →
    ls ≡ left_after rate parts times → IsViewOf new (Carries ls ∷ leaked rate parts) → new.transport.step ≡ old.view.transport.step →
    most ≡ greatest_at (main_fullness old.view.transport.step (Carries ls ∷ leaked rate parts)) (left_after old.view.transport.step (leaked rate parts) ls) →
    last ≡ new.transport.last → e.elementary ≡ ended_by old.elementary.size old.elementary.under_way most last →
    option_to_list e.waiting ++ option_to_list e.free ≡ excesses_ended old.view.transport.step old.view.watch.size old.view.transport.last
    old.view.watch.under_way ls →
    e.multiplexing_most ≡ most_found old.view.transport.step old.view.transport.last ls → e.elementary_most ≡ most →
    video_view e ≡ video_entered sizes rate parts times
video_found old new sizes rate parts ls times most last e k is view step found last_is ended excesses multiplexing elementary =
    let viewed = leaked_view new rate parts ls times is view in
    let most_is : most ≡ elementary_found rate sizes.leak parts times = elementary_is old sizes rate parts ls times most k is found in
    let ends : last ≡ last_entry rate sizes.leak parts times = last_is ∙ leaked_last new sizes.leak rate (Carries times ∷ parts) (step ∙ k.leak) viewed in
    let before : old.view.transport.last ≡ last_leaked rate sizes.leak parts = leaked_last old.view sizes.leak rate parts k.leak k.view in
    let under_way : old.view.watch.under_way ≡ multiplexing_under_way rate sizes.leak sizes.multiplexing parts =
    leaked_excess old.view sizes.leak sizes.multiplexing rate parts k.leak k.size k.view in
    same_video e _ _ _ _
    (excesses
    ∙ ap₂ (λ (s z : ℕ). excesses_ended s z old.view.transport.last old.view.watch.under_way ls) k.leak k.size
    ∙ ap₂ (λ (l : ℕ) (u : Option Excess). excesses_ended sizes.leak sizes.multiplexing l u ls) before under_way
    ∙ ap (λ (ts : List ℕ). excesses_ended sizes.leak sizes.multiplexing (last_leaked rate sizes.leak parts)
    (multiplexing_under_way rate sizes.leak sizes.multiplexing parts) ts) is)
    (ended
    ∙ ap₂ (λ (n : ℕ) (u : Option Excess). ended_by n u most last) k.main_size k.under_way
    ∙ ap₂ (λ (m l : ℕ). ended_by sizes.elementary (elementary_under_way rate sizes.leak sizes.elementary parts) m l) most_is ends)
    (multiplexing
    ∙ ap₂ (λ (s l : ℕ). most_found s l ls) k.leak before
    ∙ ap (λ (ts : List ℕ). most_found sizes.leak (last_leaked rate sizes.leak parts) ts) is)
    (elementary ∙ most_is)

-- A unit begins in buffers that hold the parts so far.
pub video_begun : (old new : VideoBuffers) (sizes : VideoSizes) (rate : ℕ) (parts : List Part) (due : DueTime) → IsVideoHeld old sizes rate parts →
    IsViewOf new.view (leaked rate (Begins due ∷ parts)) →
    new.view.transport ≡ old.view.transport → new.view.watch ≡ old.view.watch → new.elementary ≡ old.elementary → new.busy ≡ old.busy →
    AreRooms new.rooms rate sizes.leak sizes.elementary (Begins due ∷ parts) → IsVideoHeld new sizes rate (Begins due ∷ parts)
unfolding elementary_under_way leak_busy
video_begun old new sizes rate parts due k view transport watch elementary busy rooms =
    record {
      leak = ap (λ (t : TransportBuffer). t.step) transport ∙ k.leak;
      size = ap (λ (w : ExcessWatch). w.size) watch ∙ k.size;
      view = view;
      main_size = ap (λ (m : MainWatch). m.size) elementary ∙ k.main_size;
      under_way = ap (λ (m : MainWatch). m.under_way) elementary ∙ k.under_way;
      busy = busy ∙ k.busy;
      rooms = rooms;
    }

-- The last byte so far goes to EB at the time of the definition, up to the greatest time.
pub entry_in : (v : VideoBuffers) (sizes : VideoSizes) (rate : ℕ) (parts : List Part) → IsVideoHeld v sizes rate parts →
    capped (max v.view.transport.last v.rooms.last) ≡ capped (last_transferred rate sizes.leak sizes.elementary parts)
entry_in v sizes rate parts k = ap (λ (l : ℕ). capped (max l v.rooms.last)) (leaked_last v.view sizes.leak rate parts k.leak k.view) ∙ k.rooms.last

-- Bytes that stop at the transport buffer change no buffer of video.
pub video_passed : (video : Option VideoBuffers) (sizes : Option VideoSizes) (rate : ℕ) (parts : List Part) (times : List ℕ) →
    HoldsVideo video sizes rate parts → HoldsVideo video sizes rate (Passes times ∷ parts)
unfolding elementary_under_way leaked leak_busy
video_passed None None rate parts times k = tt
video_passed None (Some s) rate parts times k = absurd k
video_passed (Some v) None rate parts times k = absurd k
video_passed (Some v) (Some s) rate parts times k =
    record {
      leak = k.leak;
      size = k.size;
      view = k.view;
      main_size = k.main_size;
      under_way = k.under_way;
      busy = k.busy;
      rooms =
          rooms_passed v.rooms rate s.leak s.elementary parts times k.rooms;
    }

-- Before the first part, the buffers hold no parts.
pub video_empty : (video : VideoBuffers) (sizes : VideoSizes) (rate : ℕ) → video.view.transport.step ≡ sizes.leak → video.view.watch.size ≡ sizes.multiplexing →
    IsViewOf video.view [] →
    video.elementary ≡ record { size = sizes.elementary; under_way = None } → video.busy ≡ never_busy sizes.second →
    AreRooms video.rooms rate sizes.leak sizes.elementary [] → IsVideoHeld video sizes rate []
unfolding elementary_under_way leak_busy
video_empty video sizes rate leak size view main busy rooms =
    record {
      leak = leak;
      size = size;
      view = empty_view video.view rate view;
      main_size = ap (λ (m : MainWatch). m.size) main;
      under_way = ap (λ (m : MainWatch). m.under_way) main;
      busy = busy;
      rooms = rooms;
    }

-- The time that MB is not empty is the time that the parts give.
pub busy_in : (v : VideoBuffers) (sizes : VideoSizes) (rate : ℕ) (parts : List Part) → IsVideoHeld v sizes rate parts →
    busy_under_way v.busy v.view.transport.last ≡ busy_under_way (leak_busy rate sizes.leak sizes.second parts) (last_leaked rate sizes.leak parts)
busy_in v sizes rate parts k = ap₂ (λ (w : BusyWatch) (l : ℕ). busy_under_way w l) k.busy (leaked_last v.view sizes.leak rate parts k.leak k.view)

pub no_bytes : {A : Type 0} (view : StreamView A) → IsViewOf view [] → view.transport.bytes ≡ 0
unfolding arrivals_of
no_bytes view v = ap (λ (b : TransportBuffer). b.bytes) v.arrived

-- Bytes leave the transport buffer at the times that the parts give.
pub left_held : (old : StreamBuffers) (h : Held) (ls ts times : List ℕ) → IsHeld old h → ts ≡ times →
    ls ≡ departures old.view.transport.step old.view.transport.last ts → ls ≡ left_after h.rate h.parts times
left_held old h ls ts times k same is =
    let last : old.view.transport.last ≡ last_of old.view.transport.step h.parts = ap (λ (b : TransportBuffer). b.last) k.view.arrived in
    is ∙ ap (λ (l : ℕ). departures old.view.transport.step l ts) last
    ∙ ap (λ (s : ℕ). departures s (last_of s h.parts) ts) k.step
    ∙ ap (λ (t : List ℕ). left_after h.rate h.parts t) same

below : (a b c : ℕ) → a ≤ b → b ≤ c → a ≤ c
below a b c first second = omega (arith, first, second)

-- A row of bytes that leave ends soon.
pub soon_row : (row : Row) (n step : ℕ) → n ≤ 2 ^ 40 → step ≤ 2 ^ 28 → row.from + row.bytes * row.pace ≤ (2 ^ 86 + (n + 1) * step) * row.parts → IsSoon row
soon_row row n step few slow by =
    let up : n + 1 ≤ 2 ^ 40 + 1 = omega (arith, few) in
    let most : (n + 1) * step ≤ (2 ^ 40 + 1) * 2 ^ 28 = mul-le-mul up slow in
    let more : 2 ^ 86 + (n + 1) * step ≤ 2 ^ 86 + 2 ^ 69 = omega (arith, most) in
    let within : (2 ^ 86 + (n + 1) * step) * row.parts ≤ (2 ^ 86 + 2 ^ 69) * row.parts = mul-le-mul_right row.parts more in
    below (row.from + row.bytes * row.pace) ((2 ^ 86 + (n + 1) * step) * row.parts) ((2 ^ 86 + 2 ^ 69) * row.parts) by within

pub none_left : {A : Type 0} (view : StreamView A) → IsViewOf view [] → view.transport.last ≡ 0
unfolding arrivals_of last_left
none_left view v = ap (λ (b : TransportBuffer). b.last) v.arrived
