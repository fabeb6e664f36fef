-- What a buffer of the decoder model is called, and whose it is (ISO/IEC 13818-1, 2.4.2.3).
use Rattle.std.specs.Prelude.{ℕ, List, codes}
use Rattle.events.specs.declared.fault_kind.FaultKind.{FaultKind}
use Rattle.events.specs.declared.fault_kind.FaultKind.TheVariants as kinds
use Rattle.events.specs.declared.fault_kind.FaultSource.{FaultSource}
use Rattle.events.specs.declared.fault_kind.FaultSource.TheVariants as sources
use Rattle.events.specs.declared.rule_event.BufferKind.{BufferKind}
use Rattle.events.specs.declared.rule_event.BufferKind.TheVariants.{Transport, Multiplexing, Elementary, Main, TableTransport, System}

unfoldable pub word_of : BufferKind → List ℕ
word_of Transport = codes "transport"
word_of Multiplexing = codes "multiplexing"
word_of Elementary = codes "elementary"
word_of Main = codes "main"
word_of TableTransport = codes "table_transport"
word_of System = codes "system"

-- whose it is: a stream's, by its PID, or that of a program's tables, by its number
unfoldable pub owner_word : BufferKind → List ℕ
owner_word Transport = codes "pid"
owner_word Multiplexing = codes "pid"
owner_word Elementary = codes "pid"
owner_word Main = codes "pid"
owner_word TableTransport = codes "program"
owner_word System = codes "program"

unfoldable pub owner_of : BufferKind → ℕ → FaultSource
owner_of Transport number = sources.Stream number
owner_of Multiplexing number = sources.Stream number
owner_of Elementary number = sources.Stream number
owner_of Main number = sources.Stream number
owner_of TableTransport number = sources.Program number
owner_of System number = sources.Program number

-- the kind of its excesses
unfoldable pub excess_kind : BufferKind → FaultKind
excess_kind Transport = kinds.Excess
excess_kind Multiplexing = kinds.MultiplexingExcess
excess_kind Elementary = kinds.ElementaryExcess
excess_kind Main = kinds.MainExcess
excess_kind TableTransport = kinds.SystemExcess
excess_kind System = kinds.SystemMainExcess
