-- The number of bytes that have arrived at the video buffers.
use Rattle.std.specs.Prelude.{ℕ, Option, Some, None}
use Rattle.tstd_rows.specs.declared.video_buffers.VideoBuffers.{VideoBuffers}

abbrev pub bytes_in : Option VideoBuffers → ℕ
bytes_in None = 0
bytes_in (Some video) = video.view.transport.bytes
