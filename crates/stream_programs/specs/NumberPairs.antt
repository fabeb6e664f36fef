-- Sets of pairs of a PID and a number, which look up programs and streams while they are gathered.
use Rattle.std.specs.Prelude.{◌≡◌, ◌<◌, ℕ, ◌+◌, ◌*◌, ◌==◌, ◌&&◌, nat_eq, is_some, Bool, List}
use Rattle.std.specs.List.{list_any}
use Rattle.std.specs.Map.{lookup}
use Rattle.stream_programs.specs.Streams.{FoundStreamView, is_stream_of}
use Rattle.stream_programs.specs.Programs.{FoundProgramView, shares}

-- no other PID and number of 16 bits have it
abbrev pub pair_key : ℕ → ℕ → ℕ
pair_key pid number = pid * 65_536 + number

-- the pairs of entries, by their keys
abbrev pub is_pair : List (ℕ × ℕ) → ℕ → ℕ → Bool
is_pair es pid number = is_some (lookup (nat_eq (pair_key pid number)) es)

-- the pairs of a stream's PID and the number of a program that shares the stream
abbrev pub AreSharers : List (ℕ × ℕ) → List FoundStreamView → Type 0
AreSharers es streams = (number pid : ℕ) → number < 65_536 → is_pair es pid number ≡ shares streams number pid

-- the pairs of 0 and the number of a program with a stream
abbrev pub AreOwners : List (ℕ × ℕ) → List FoundStreamView → Type 0
AreOwners es streams = (number : ℕ) → number < 65_536 → is_pair es 0 number ≡ list_any (is_stream_of number) streams

-- the pairs of a program's PCR_PID and its number
abbrev pub AreClocks : List (ℕ × ℕ) → List FoundProgramView → Type 0
AreClocks es programs = (number pid : ℕ) → number < 65_536 → is_pair es pid number ≡ list_any (λ p. p.number == number && p.pcr_pid == pid) programs

-- all three
pub record ArePairs (sharers owners clocks : List (ℕ × ℕ)) (streams : List FoundStreamView) (programs : List FoundProgramView) : Type 0 where
  pub shared : AreSharers sharers streams
  pub owned : AreOwners owners streams
  pub clocked : AreClocks clocks programs
