-- What the PMTs say beside a program's own streams (ISO/IEC 13818-1, 2.4.4.8): the streams that it shares, the private
-- tables that name it.
use Rattle.std.specs.Prelude.{◌≡◌, ℕ, true, false, [], None, Some, All, Contains, slice_get}
use Rattle.description_parts.specs.Described.{Described, DescribedProgram, DescribedStream, DescribedEntry, DescribedTable}
use Rattle.description.specs.SectionBytes.{pmt_stream, pmt_streams, pmt_says}

-- the PMT of a program that is on air names each stream of another program that it shares, as the PMT of that one does
abbrev pub SharedLaw : Type 0
SharedLaw = (d : Described) (p : DescribedProgram) (k : ℕ) (s : DescribedStream) →
    p.is_on_air ≡ true → slice_get d.streams k ≡ Some s → Contains s.shared_with p.number → Contains (pmt_says d p).streams (pmt_stream s)

-- and each table that names the program: by the table's PID, with the stream_type and descriptors that the table has for it
abbrev pub EntryLaw : Type 0
EntryLaw = (d : Described) (p : DescribedProgram) (k : ℕ) (t : DescribedTable) (e : DescribedEntry) →
    p.is_on_air ≡ true → slice_get d.tables k ≡ Some t → t.entry ≡ Some e → e.program ≡ p.number →
    Contains (pmt_says d p).streams (record { stream_type = e.stream_type; elementary_pid = t.pid; descriptors = e.descriptors })

-- where no stream is shared and no table names a program, it names the program's own streams alone
abbrev pub OwnLaw : Type 0
OwnLaw = (d : Described) (p : DescribedProgram) → p.is_on_air ≡ true → All (λ s. s.shared_with ≡ []) d.streams → All (λ t. t.entry ≡ None) d.tables →
    (pmt_says d p).streams ≡ pmt_streams p.number d.streams

-- the PMT of a program that is off air names nothing
abbrev pub OffAirLaw : Type 0
OffAirLaw = (d : Described) (p : DescribedProgram) → p.is_on_air ≡ false → (pmt_says d p).streams ≡ []
