-- The elementary streams of a job.
use Rattle.std.specs.Prelude.{ℕ, ◌==◌, ◌||◌, Bool, List, refl}
use Rattle.std.specs.Coded.{Coded, code_by, coded×, coded_list, coded_ℕ}
use Rattle.pes_packet.specs.AccessUnits.{AccessUnit}
use Rattle.job_programs.specs.JobOptions.{is_among}
use Rattle.es_moments.specs.WireUnits.{CarriedUnit}

-- an elementary stream of a program: what its map says, the stream_id of its PES packets, the further programs that share it, and its units
pub record JobStreamView (U : Type 0) : Type 0 where
  pub program : ℕ
  pub pid : ℕ
  pub stream_type : ℕ
  pub stream_id : ℕ
  pub descriptors : List ℕ
  pub shared_with : List ℕ
  pub units : List U

module _ {U : Type 0} where
  -- it is stored as the tuple of its fields
  abbrev pub stream_code : Coded U → Coded (JobStreamView U)
  stream_code c =
      code_by (ℕ × (ℕ × (ℕ × (ℕ × (List ℕ × (List ℕ × List U))))))
      (coded× coded_ℕ (coded× coded_ℕ (coded× coded_ℕ (coded× coded_ℕ (coded× (coded_list coded_ℕ) (coded× (coded_list coded_ℕ) (coded_list c)))))))
      (λ s. (s.program, (s.pid, (s.stream_type, (s.stream_id, (s.descriptors, (s.shared_with, s.units)))))))
      (λ p. record {
        program = p.0;
        pid = p.1.0;
        stream_type = p.1.1.0;
        stream_id = p.1.1.1.0;
        descriptors = p.1.1.1.1.0;
        shared_with = p.1.1.1.1.1.0;
        units = p.1.1.1.1.1.1;
      })
      (λ _. refl)

-- its units with the stamps on the wire
abbrev pub WireStreamView : Type 0
WireStreamView = JobStreamView CarriedUnit

-- its units at moments of a run
abbrev pub TimedStreamView : Type 0
TimedStreamView = JobStreamView AccessUnit

-- a program has a stream, as its own or a shared one
unfoldable pub is_stream_of : {U : Type 0} → ℕ → JobStreamView U → Bool
is_stream_of number s = s.program == number || is_among number s.shared_with
