-- Which streams of a program map table are kept.
use Rattle.std.specs.Prelude.{ℕ, ◌==◌, ◌&&◌, ◌||◌, nat_le, nat_lt, Bool, if◌then◌else◌, List, [], ◌∷◌, ◌++◌, Option, Some, None}
use Rattle.std.specs.List.{list_any}
use Rattle.std.specs.Str.{bytes_eq}
use Rattle.stream_programs.specs.declared.omission.TableOmission.{TableOmission}
use Rattle.stream_programs.specs.declared.omission.TableOmission.TheVariants.{NoPes, Reserved, Taken}

-- an elementary stream of a program, with its whole descriptors except descriptors of conditional access and of a multiplex, and the further
-- programs whose maps name it
pub record FoundStreamView : Type 0 where
  pub program : ℕ
  pub stream_type : ℕ
  pub pid : ℕ
  pub descriptors : List ℕ
  pub shared_with : List ℕ

-- stream_types whose data are sections (ISO/IEC 13818-1, table 2-34; SCTE 35 for 0x86), and DSM-CC (0x08), which has its own
-- stream_id: private sections, ISO/IEC 13818-6 A to D, ISO/IEC 14496 sections, synchronized download, metadata
unfoldable pub has_no_pes : ℕ → Bool
has_no_pes t =
    t == 0x05 || (t == 0x08 || (nat_le 0x0A t && nat_le t 0x0D || (t == 0x13 || (t == 0x14 || (nat_le 0x16 t && nat_le t 0x19 || t == 0x86)))))

-- PIDs that no elementary stream may have: the PIDs of tables, below 32, and the PID of null packets
unfoldable pub is_reserved : ℕ → Bool
is_reserved pid = nat_lt pid 32 || nat_le 8191 pid

-- the program of the first stream that has a PID
unfoldable pub holder : ℕ → List FoundStreamView → Option ℕ
holder pid [] = None
holder pid (s ∷ ss) = if s.pid == pid then Some s.program else holder pid ss

abbrev pub taken : ℕ → ℕ → Option ℕ → Option TableOmission
taken program pid None = None
taken program pid (Some other) = Some (Taken program pid other)

-- why a stream is left out, where its PID has this holder
unfoldable pub omission_of : ℕ → ℕ → ℕ → Option ℕ → Option TableOmission
omission_of program stream_type pid holder =
    if has_no_pes stream_type then Some (NoPes program pid stream_type)
    else (if is_reserved pid then Some (Reserved program pid) else taken program pid holder)

-- a program shares a stream
unfoldable pub is_shared_with : ℕ → FoundStreamView → Bool
is_shared_with number s = list_any (λ n. n == number) s.shared_with

-- it has the stream, as its own or a shared one
unfoldable pub is_stream_of : ℕ → FoundStreamView → Bool
is_stream_of number s = s.program == number || is_shared_with number s

-- a stream that one more program shares
abbrev pub with_sharer : ℕ → FoundStreamView → FoundStreamView
with_sharer number s = record {
  program = s.program;
  stream_type = s.stream_type;
  pid = s.pid;
  descriptors = s.descriptors;
  shared_with = s.shared_with ++ number ∷ [];
}

-- streams, where the stream on a PID is shared by one more program
unfoldable pub shared_by : ℕ → ℕ → List FoundStreamView → List FoundStreamView
shared_by number pid [] = []
shared_by number pid (s ∷ ss) = if s.pid == pid then with_sharer number s ∷ ss else s ∷ shared_by number pid ss

-- two maps say the same of the stream of a PID
unfoldable pub is_alike : FoundStreamView → FoundStreamView → Bool
is_alike one other = one.pid == other.pid && (one.stream_type == other.stream_type && bytes_eq one.descriptors other.descriptors)
