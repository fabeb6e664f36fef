-- What the comparison of two programs, streams or private tables says of their parts
use Rattle.std.proofs.Common.{◌≡◌, ℕ, Bool, true, false, Option, None, Some, refl, ap, ap₂}
use Rattle.std.proofs.lemmas.Bool.{and_parts, eqb-true}
use Rattle.std.proofs.lemmas.Slice.Eq.{bytes_eq-Decides}
use Rattle.std.specs.Bool.{beq}
use Rattle.unit_timing.specs.declared.allowance.Allowance.{Allowance}
use Rattle.unit_timing.specs.declared.allowance.Allowance.TheVariants.{Groups, Pace}
use Rattle.unit_timing.specs.declared.framing.FrameDeclaration.{FrameDeclaration}
use Rattle.unit_timing.specs.declared.framing.LastBytes.{LastBytes}
use Rattle.unit_timing.specs.declared.framing.LastBytes.TheVariants.{Each, Sums}
use Rattle.unit_timing.specs.declared.multiplexing_buffer.MultiplexingBuffer.{MultiplexingBuffer}
use Rattle.description_parts.specs.Described.{DescribedProgram, DescribedStream, DescribedTable}
use Rattle.changed_texts.specs.Fixed.{fixed_program, fixed_stream, fixed_table, is_same_option, is_same_program}
use Rattle.changed_texts.specs.Fixed.{is_same_allowance, is_same_buffer, is_same_left, is_same_framing, is_same_pace, is_same_size, is_same_stream}
use Rattle.changed_texts.specs.Fixed.{is_same_table}

pub same_bool : (a b : Bool) → beq a b ≡ true → a ≡ b
same_bool true true h = refl
same_bool true false h = absurd (cc)
same_bool false true h = absurd (cc)
same_bool false false h = refl

pub same_option : {X : Type 0} (same : X → X → Bool) → ((x y : X) → same x y ≡ true → x ≡ y) → (a b : Option X) → is_same_option same a b ≡ true → a ≡ b
same_option same law None None h = refl
same_option same law None (Some y) h = absurd (cc)
same_option same law (Some x) None h = absurd (cc)
same_option same law (Some x) (Some y) h = ap Some (law x y h)

pub program_alike : (p q : DescribedProgram) → is_same_program p q ≡ true → fixed_program p ≡ fixed_program q
program_alike p q h =
    let front = and_parts _ _ h in
    let clocks = and_parts _ _ front.0 in
    let pids = and_parts _ _ clocks.0 in
    let names = and_parts _ _ pids.0 in
    let number : p.number ≡ q.number = eqb-true _ _ names.0 in
    let pmt_pid : p.pmt_pid ≡ q.pmt_pid = eqb-true _ _ names.1 in
    let pcr_pid : p.pcr_pid ≡ q.pcr_pid = eqb-true _ _ pids.1 in
    let has_clock : p.has_clock ≡ q.has_clock = same_bool _ _ clocks.1 in
    let pcr_limit : p.pcr_limit ≡ q.pcr_limit = eqb-true _ _ front.1 in
    rw (number, pmt_pid, pcr_pid, has_clock, pcr_limit) refl

same_allowance : (a b : Allowance) → is_same_allowance a b ≡ true → a ≡ b
same_allowance (Groups units packets) (Groups more most) h =
    let parts = and_parts _ _ h in ap₂ Groups (eqb-true _ _ parts.0) (eqb-true _ _ parts.1)
same_allowance (Groups units packets) (Pace burst pace) h = absurd (cc)
same_allowance (Pace burst pace) (Groups units packets) h = absurd (cc)
same_allowance (Pace burst pace) (Pace more most) h =
    let parts = and_parts _ _ h in ap₂ Pace (eqb-true _ _ parts.0) (eqb-true _ _ parts.1)

same_buffer : (b c : MultiplexingBuffer) → is_same_buffer b c ≡ true → b ≡ c
same_buffer b c h =
    let parts = and_parts _ _ h in ap₂ (λ (rbx size : ℕ). record { rbx = rbx; size = size }) (eqb-true _ _ parts.0) (eqb-true _ _ parts.1)

same_left : (a b : LastBytes) → is_same_left a b ≡ true → a ≡ b
same_left (Each bytes) (Each most) h = ap Each (eqb-true bytes most h)
same_left (Each bytes) (Sums sums) h = absurd (cc)
same_left (Sums sums) (Each bytes) h = absurd (cc)
same_left (Sums sums) (Sums most) h = ap Sums ((bytes_eq-Decides sums most).0 h)

framing_of : (frames frame rest : ℕ) (left : LastBytes) (g : FrameDeclaration) → frames ≡ g.frames → frame ≡ g.frame → rest ≡ g.rest → left ≡ g.left
    → ◌≡◌ {A = FrameDeclaration} (record { frames = frames; frame = frame; rest = rest; left = left }) g
framing_of frames frame rest left g a b c d = rw (a, b, c, d) refl

same_framing : (f g : FrameDeclaration) → is_same_framing f g ≡ true → f ≡ g
same_framing f g h =
    let front = and_parts _ _ h in
    let times = and_parts _ _ front.0 in
    let counts = and_parts _ _ times.0 in
    framing_of f.frames f.frame f.rest f.left g (eqb-true _ _ counts.0) (eqb-true _ _ counts.1) (eqb-true _ _ times.1) (same_left _ _ front.1)

-- The parts of a stream
record IsSamePace (s t : DescribedStream) : Type 0 where
  program : s.program ≡ t.program
  pid : s.pid ≡ t.pid
  stream_id : s.stream_id ≡ t.stream_id
  interval : s.interval ≡ t.interval
  lead : s.lead ≡ t.lead
  pts_limit : s.pts_limit ≡ t.pts_limit

record IsSameSize (s t : DescribedStream) : Type 0 where
  size : s.size ≡ t.size
  rx : s.rx ≡ t.rx
  main : s.main ≡ t.main
  allowance : s.allowance ≡ t.allowance
  multiplexing : s.multiplexing ≡ t.multiplexing
  framing : s.framing ≡ t.framing

same_pace : (s t : DescribedStream) → is_same_pace s t ≡ true → IsSamePace s t
same_pace s t h =
    let front = and_parts _ _ h in
    let leads = and_parts _ _ front.0 in
    let intervals = and_parts _ _ leads.0 in
    let ids = and_parts _ _ intervals.0 in
    let pids = and_parts _ _ ids.0 in
    record {
      program = eqb-true _ _ pids.0;
      pid = eqb-true _ _ pids.1;
      stream_id = eqb-true _ _ ids.1;
      interval = eqb-true _ _ intervals.1;
      lead = eqb-true _ _ leads.1;
      pts_limit = eqb-true _ _ front.1;
    }

same_size : (s t : DescribedStream) → is_same_size s t ≡ true → IsSameSize s t
same_size s t h =
    let front = and_parts _ _ h in
    let buffers = and_parts _ _ front.0 in
    let rows = and_parts _ _ buffers.0 in
    let mains = and_parts _ _ rows.0 in
    let drains = and_parts _ _ mains.0 in
    record {
      size = eqb-true _ _ drains.0;
      rx = eqb-true _ _ drains.1;
      main = eqb-true _ _ mains.1;
      allowance = same_allowance _ _ rows.1;
      multiplexing = same_option is_same_buffer same_buffer _ _ buffers.1;
      framing = same_option is_same_framing same_framing _ _ front.1;
    }

pub stream_alike : (s t : DescribedStream) → is_same_stream s t ≡ true → fixed_stream s ≡ fixed_stream t
stream_alike s t h =
    let parts = and_parts _ _ h in
    let pace = same_pace s t parts.0 in
    let size = same_size s t parts.1 in
    rw (
      pace.program,
      pace.pid,
      pace.stream_id,
      pace.interval,
      pace.lead,
      pace.pts_limit,
      size.size,
      size.rx,
      size.main,
      size.allowance,
      size.multiplexing,
      size.framing,
    ) refl

pub table_alike : (t u : DescribedTable) → is_same_table t u ≡ true → fixed_table t ≡ fixed_table u
table_alike t u h =
    let parts = and_parts _ _ h in
    let pid : t.pid ≡ u.pid = eqb-true _ _ parts.0 in
    let limit : t.limit ≡ u.limit = eqb-true _ _ parts.1 in
    rw (pid, limit) refl
