-- The stream_id of a stream's units.
use Rattle.std.specs.Prelude.{ℕ, ◌+◌, ◌==◌, ◌&&◌, Bool, if◌then◌else◌, Option, Some, None, List, [], ◌∷◌}
use Rattle.pes_packet.specs.StreamIds.{is_unit_id}
use Rattle.es_moments.specs.WireUnits.{CarriedUnit}

-- the place of the first unit of another stream_id
unfoldable pub first_other_at : ℕ → ℕ → List CarriedUnit → Option ℕ
first_other_at id place [] = None
first_other_at id place (u ∷ us) = if u.stream_id == id then first_other_at id (place + 1) us else Some place

-- the stream_id that is written for a stream_id on the wire: AC-3 with the extended stream_id, 253, is written as private_stream_1 (ETSI TS 101 154); a
-- stream_id that no unit may have is not written
unfoldable pub written_id : ℕ → Bool → Option ℕ
written_id id is_ac3 = if id == 253 && is_ac3 then Some 189 else (if is_unit_id id then Some id else None)
