-- The names of the services of programs, as service description tables of this stream say them (EN 300 468, 5.2.3 and 6.2.33).
use Rattle.std.specs.Prelude.{ℕ, ◌%◌, ◌==◌, ◌&&◌, Bool, if◌then◌else◌, List, [], ◌∷◌, length, map, slice_index, Option, Some, None}
use Rattle.std.specs.Option.{option_map, option_or}
use Rattle.pid_findings.specs.Views.{FindingView}
use Rattle.demux.specs.Stream.{StreamState, start, pushed}
use Rattle.demux.specs.FoundSoFar.{with_found}
use Rattle.stream_programs.specs.Programs.{FoundProgramView}
use Rattle.ts_services.specs.Services.{FoundServiceView, service}
use Rattle.dvb_texts.specs.Texts.{decode_text}
use Rattle.ts_tables.specs.NamedStreams.{NamedView}

-- a program, and the name of its service in UTF-8, if it is known
pub record NameState : Type 0 where
  pub program : ℕ
  pub name : Option (List ℕ)

-- the findings in the packets of service description tables, and the programs of the first tables, once these are known
pub record NamesState : Type 0 where
  pub demux : StreamState
  pub names : Option (List NameState)

-- before the first packet
abbrev pub none_taken : NamesState
none_taken = record { demux = start; names = None }

-- 1. What tables say of a program: the name of its service as characters, of at most 255 bytes; a name without a character says nothing

unfoldable pub some_text : List ℕ → Option (List ℕ)
some_text text = if length text == 0 then None else Some text

unfoldable pub name_of : Option FoundServiceView → Option (List ℕ)
name_of None = None
name_of (Some s) = some_text (decode_text 255 s.name)

-- the name in the last description of a program's service
abbrev pub name_in : List FindingView → ℕ → Option (List ℕ)
name_in found program = name_of (service program found)

-- the name in the first packets, where the programs were found
abbrev pub first_name : List FindingView → FoundProgramView → NameState
first_name found p = record { program = p.number; name = name_in found p.number }

-- a name that is found later replaces it
abbrev pub with_later : List FindingView → NameState → NameState
with_later found n = record { program = n.program; name = option_or (name_in found n.program) n.name }

-- 2. Packet by packet

unfoldable pub begun : NamedView → Option (List NameState) → Option (List NameState)
begun named None = option_map (λ found. map (first_name named.demux.found) found.programs) named.streams
begun named (Some names) = Some names

-- a packet of PID 0x11
abbrev pub is_description : List ℕ → Bool
is_description bytes = slice_index bytes 1 % 32 == 0 && slice_index bytes 2 == 0x11

abbrev pub with_description : NamesState → NamedView → List ℕ → NamesState
with_description s named bytes = record {
  demux = with_found [] (pushed s.demux bytes);
  names = option_map (λ names. map (with_later (pushed s.demux bytes).found) names) (begun named s.names);
}

abbrev pub taken : NamesState → NamedView → List ℕ → NamesState
taken s named bytes =
    if is_description bytes then with_description s named bytes else record { demux = s.demux; names = begun named s.names }

-- 3. The name of a program's service, if one is known

unfoldable pub name_among : ℕ → List NameState → Option (List ℕ)
name_among program [] = None
name_among program (n ∷ names) = if n.program == program then n.name else name_among program names

unfoldable pub known_name : ℕ → Option (List NameState) → Option (List ℕ)
known_name program None = None
known_name program (Some names) = name_among program names
