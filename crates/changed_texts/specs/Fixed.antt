-- What two descriptions have to have alike, so that one has only other texts than the other: for a program, a stream and a private table.
use Rattle.std.specs.Prelude.{ℕ, ◌==◌, ◌&&◌, max, not, Bool, true, false, List, Option, None, Some, find, length, slice_get, bytes_eq}
use Rattle.std.specs.Bool.{beq}
use Rattle.std.specs.List.{range_with_len}
use Rattle.unit_timing.specs.declared.allowance.Allowance.{Allowance}
use Rattle.unit_timing.specs.declared.allowance.Allowance.TheVariants.{Groups, Pace}
use Rattle.unit_timing.specs.declared.framing.FrameDeclaration.{FrameDeclaration}
use Rattle.unit_timing.specs.declared.framing.LastBytes.{LastBytes}
use Rattle.unit_timing.specs.declared.framing.LastBytes.TheVariants.{Each, Sums}
use Rattle.unit_timing.specs.declared.multiplexing_buffer.MultiplexingBuffer.{MultiplexingBuffer}
use Rattle.description_parts.specs.Described.{DescribedProgram, DescribedStream, DescribedTable}

-- a program without its texts
pub record FixedProgram : Type 0 where
  pub number : ℕ
  pub pmt_pid : ℕ
  pub pcr_pid : ℕ
  pub has_clock : Bool
  pub pcr_limit : ℕ

abbrev pub fixed_program : DescribedProgram → FixedProgram
fixed_program p = record { number = p.number; pmt_pid = p.pmt_pid; pcr_pid = p.pcr_pid; has_clock = p.has_clock; pcr_limit = p.pcr_limit }

-- a stream without its texts: what it declares of its units, and its buffers
pub record FixedStream : Type 0 where
  pub program : ℕ
  pub pid : ℕ
  pub stream_id : ℕ
  pub interval : ℕ
  pub size : ℕ
  pub lead : ℕ
  pub pts_limit : ℕ
  pub rx : ℕ
  pub main : ℕ
  pub allowance : Allowance
  pub multiplexing : Option MultiplexingBuffer
  pub framing : Option FrameDeclaration

abbrev pub fixed_stream : DescribedStream → FixedStream
fixed_stream s = record {
  program = s.program;
  pid = s.pid;
  stream_id = s.stream_id;
  interval = s.interval;
  size = s.size;
  lead = s.lead;
  pts_limit = s.pts_limit;
  rx = s.rx;
  main = s.main;
  allowance = s.allowance;
  multiplexing = s.multiplexing;
  framing = s.framing;
}

-- a private table without its sections
pub record FixedTable : Type 0 where
  pub pid : ℕ
  pub limit : ℕ

abbrev pub fixed_table : DescribedTable → FixedTable
fixed_table t = record { pid = t.pid; limit = t.limit }

-- both are there and alike, or neither is there
abbrev pub is_same_option : {X : Type 0} → (X → X → Bool) → Option X → Option X → Bool
is_same_option same None None = true
is_same_option same None (Some y) = false
is_same_option same (Some x) None = false
is_same_option same (Some x) (Some y) = same x y

abbrev pub is_same_program : DescribedProgram → DescribedProgram → Bool
is_same_program p q = p.number == q.number && p.pmt_pid == q.pmt_pid && p.pcr_pid == q.pcr_pid && beq p.has_clock q.has_clock && p.pcr_limit == q.pcr_limit

abbrev pub is_same_allowance : Allowance → Allowance → Bool
is_same_allowance (Groups units packets) (Groups more most) = units == more && packets == most
is_same_allowance (Groups units packets) (Pace burst pace) = false
is_same_allowance (Pace burst pace) (Groups units packets) = false
is_same_allowance (Pace burst pace) (Pace more most) = burst == more && pace == most

abbrev pub is_same_buffer : MultiplexingBuffer → MultiplexingBuffer → Bool
is_same_buffer b c = b.rbx == c.rbx && b.size == c.size

abbrev pub is_same_left : LastBytes → LastBytes → Bool
is_same_left (Each bytes) (Each most) = bytes == most
is_same_left (Each bytes) (Sums sums) = false
is_same_left (Sums sums) (Each bytes) = false
is_same_left (Sums sums) (Sums most) = bytes_eq sums most

abbrev pub is_same_framing : FrameDeclaration → FrameDeclaration → Bool
is_same_framing f g = f.frames == g.frames && f.frame == g.frame && f.rest == g.rest && is_same_left f.left g.left

-- the parts of a stream that say where and when its units are, and those that say into which buffers they go
abbrev pub is_same_pace : DescribedStream → DescribedStream → Bool
is_same_pace s t = s.program == t.program && s.pid == t.pid && s.stream_id == t.stream_id && s.interval == t.interval && s.lead == t.lead
    && s.pts_limit == t.pts_limit

abbrev pub is_same_size : DescribedStream → DescribedStream → Bool
is_same_size s t = s.size == t.size && s.rx == t.rx && s.main == t.main && is_same_allowance s.allowance t.allowance
    && is_same_option is_same_buffer s.multiplexing t.multiplexing && is_same_option is_same_framing s.framing t.framing

abbrev pub is_same_stream : DescribedStream → DescribedStream → Bool
is_same_stream s t = is_same_pace s t && is_same_size s t

abbrev pub is_same_table : DescribedTable → DescribedTable → Bool
is_same_table t u = t.pid == u.pid && t.limit == u.limit

-- the first place at which two lists are not alike: their elements differ, or only one list has an element there
abbrev pub first_difference : {X : Type 0} → (X → X → Bool) → List X → List X → Option ℕ
first_difference same xs ys =
    find (λ i. not (is_same_option same (slice_get xs i) (slice_get ys i))) (range_with_len 0 (max (length xs) (length ys)))
