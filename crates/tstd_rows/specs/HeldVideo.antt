-- What the two buffers of video after its transport buffer hold after all parts of the stream so far: a multiplexing buffer and an elementary stream buffer
-- (ISO/IEC 13818-1, 2.4.2.3, the leak method). Lists of parts begin with the last part; a byte takes `rate` to leave the transport buffer, and `leak` to
-- leave the multiplexing buffer.
use Rattle.std.specs.Prelude.{◌≡◌, ℕ, List, [], ◌∷◌, ◌++◌, Option, Some, None}
use Rattle.std.specs.Option.{option_to_list}
use Rattle.clock27.specs.Peak.{greatest_at, most_found}
use Rattle.tstd_rows.specs.declared.excess.Excess.{Excess}
use Rattle.tstd_rows.specs.History.{Part, left_after, unit_of}
use Rattle.tstd_rows.specs.History.Part.{Passes, Carries, Begins}
use Rattle.tstd_rows.specs.VideoViewed.{elementary_held, last_leaked, last_transferred, leak_step, leaked, leaked_after, multiplexing_ended, with_entry}
use Rattle.tstd_rows.specs.Viewed.{IsViewOf}
use Rattle.tstd_rows.specs.MainExcess.{after_row, ended_by}
use Rattle.tstd_rows.specs.Busy.{leak_busy, second_of}
use Rattle.tstd_rows.specs.declared.late_causes.VideoUnit.{VideoUnit}
use Rattle.tstd_rows.specs.Rooms.{AreRooms}
use Rattle.tstd_rows.specs.declared.video_buffers.VideoBuffers.{VideoBuffers}
use Rattle.tstd_rows.specs.declared.video_buffers.VideoEntered.{VideoEntered}
use Rattle.tstd_rows.specs.declared.video_buffers.VideoRates.{VideoRates}
use Rattle.tstd_rows.specs.declared.stream_buffers.StreamBuffers.{StreamBuffers}
use Rattle.tstd_rows.specs.Held.{Held}

-- how long a byte takes to leave the multiplexing buffer, and the sizes of both buffers in bytes
pub record VideoSizes : Type 0 where
  pub leak : ℕ
  pub multiplexing : ℕ
  pub elementary : ℕ
  -- how long the multiplexing buffer may be not empty
  pub second : ℕ

-- bytes of the current unit that arrive at these times after the parts `before`: the most bytes in the elementary stream buffer when such a byte enters it
abbrev pub elementary_found : ℕ → ℕ → List Part → List ℕ → ℕ
elementary_found rate leak before times = greatest_at (elementary_held rate leak (Carries times ∷ before)) (leaked_after rate leak before times)

-- when the last of these bytes enters the elementary stream buffer
abbrev pub last_entry : ℕ → ℕ → List Part → List ℕ → ℕ
last_entry rate leak before times = last_leaked rate leak (Carries times ∷ before)

-- the current excess of an elementary stream buffer of `size` bytes
unfoldable pub elementary_under_way : ℕ → ℕ → ℕ → List Part → Option Excess
elementary_under_way rate leak size [] = None
elementary_under_way rate leak size (Passes times ∷ before) = elementary_under_way rate leak size before
elementary_under_way rate leak size (Carries times ∷ before) =
    after_row size (elementary_under_way rate leak size before) (elementary_found rate leak before times) (last_entry rate leak before times)
elementary_under_way rate leak size (Begins due ∷ before) = elementary_under_way rate leak size before

-- its excess that has ended after these bytes
abbrev pub elementary_ended : ℕ → ℕ → ℕ → List Part → List ℕ → Option Excess
elementary_ended rate leak size before times =
    ended_by size (elementary_under_way rate leak size before) (elementary_found rate leak before times) (last_entry rate leak before times)

-- the buffers hold these parts
pub record IsVideoHeld (video : VideoBuffers) (sizes : VideoSizes) (rate : ℕ) (parts : List Part) : Type 0 where
  pub leak : video.view.transport.step ≡ sizes.leak
  pub size : video.view.watch.size ≡ sizes.multiplexing
  pub view : IsViewOf video.view (leaked rate parts)
  pub main_size : video.elementary.size ≡ sizes.elementary
  pub under_way : video.elementary.under_way ≡ elementary_under_way rate sizes.leak sizes.elementary parts
  pub busy : video.busy ≡ leak_busy rate sizes.leak sizes.second parts
  pub rooms : AreRooms video.rooms rate sizes.leak sizes.elementary parts

-- the video buffers of a stream hold these parts and have these sizes, or the stream has neither buffers nor sizes
abbrev pub HoldsVideo : Option VideoBuffers → Option VideoSizes → ℕ → List Part → Type 0
HoldsVideo None None rate parts = Unit {0}
HoldsVideo None (Some sizes) rate parts = ⊥
HoldsVideo (Some v) None rate parts = ⊥
HoldsVideo (Some v) (Some sizes) rate parts = IsVideoHeld v sizes rate parts

-- the results of these bytes: the excesses of both buffers that have ended, and the most bytes in each buffer when a byte entered it
pub record VideoEnteredView : Type 0 where
  pub multiplexing : List Excess
  pub elementary : Option Excess
  pub multiplexing_most : ℕ
  pub elementary_most : ℕ

abbrev pub video_view : VideoEntered → VideoEnteredView
video_view e = record {
  multiplexing = option_to_list e.waiting ++ option_to_list e.free;
  elementary = e.elementary;
  multiplexing_most = e.multiplexing_most;
  elementary_most = e.elementary_most;
}

abbrev pub video_entered : VideoSizes → ℕ → List Part → List ℕ → VideoEnteredView
video_entered sizes rate before times = record {
  multiplexing = multiplexing_ended rate sizes.leak sizes.multiplexing before times;
  elementary = elementary_ended rate sizes.leak sizes.elementary before times;
  multiplexing_most = most_found sizes.leak (last_leaked rate sizes.leak before) (left_after rate before times);
  elementary_most = elementary_found rate sizes.leak before times;
}

-- the same for a stream that may have no video buffers, and the current unit in them
abbrev pub nothing_found : VideoEnteredView
nothing_found = record { multiplexing = []; elementary = None; multiplexing_most = 0; elementary_most = 0 }

unfoldable pub video_found : Option VideoSizes → ℕ → List Part → List ℕ → VideoEnteredView
video_found None rate before times = nothing_found
video_found (Some sizes) rate before times = video_entered sizes rate before times

abbrev pub video_unit_in : VideoSizes → ℕ → List Part → Option VideoUnit
video_unit_in sizes rate parts = with_entry (unit_of sizes.leak (leaked rate parts)) (last_transferred rate sizes.leak sizes.elementary parts)

unfoldable pub video_unit : Option VideoSizes → ℕ → List Part → Option VideoUnit
video_unit None rate parts = None
video_unit (Some sizes) rate parts = video_unit_in sizes rate parts

abbrev pub nothing_of_video : VideoEntered
nothing_of_video = record { waiting = None; free = None; elementary = None; unit = None; multiplexing_most = 0; elementary_most = 0 }

-- the sizes of the video buffers for a stream at `rate` bits a second, whose transport buffer is drained at `rx` bits a second
abbrev pub sizes_of : ℕ → ℕ → VideoRates → VideoSizes
sizes_of rate rx rates = record {
  leak = leak_step rate rx rates.rbx;
  multiplexing = rates.multiplexing;
  elementary = rates.elementary;
  second = second_of rate rx;
}

-- the video buffers of a stream, if it has any, hold its parts
abbrev pub HoldsVideoOf : StreamBuffers → Option VideoSizes → Held → Type 0
HoldsVideoOf buffers sizes h = HoldsVideo buffers.video sizes h.rate h.parts
