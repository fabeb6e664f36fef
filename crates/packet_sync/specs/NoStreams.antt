-- Bytes that are no transport stream.
use Rattle.std.specs.Prelude.{ℕ, zero, suc, ◌+◌, ◌&&◌, ◌||◌, not, nat_le, Bool, true, false, List, length, take, Option, None, Some}
use Rattle.packet_sync.specs.FileForms.{is_known}
use Rattle.packet_sync.specs.FrontForms.{form_of}
use Rattle.packet_sync.specs.OtherPackets.{other_packets}
use Rattle.packet_sync.specs.Slips.{is_in_step}
use Rattle.packet_sync.specs.declared.packet_sizes.OtherPackets.{OtherPackets}
use Rattle.packet_sync.specs.declared.file_form.FileForm.{FileForm}

-- five packets in a row begin there
unfoldable pub are_five : List ℕ → ℕ → Bool
are_five bs at = is_in_step bs at && is_in_step bs (at + 376)

-- at one of the first n places
unfoldable pub five_within : ℕ → List ℕ → Bool
five_within zero bs = false
five_within (suc n) bs = five_within n bs || are_five bs n

-- somewhere in these bytes
abbrev pub has_five : List ℕ → Bool
has_five bs = five_within (length bs) bs

-- the first bytes of a stream have five packets in a row: 4 MiB
abbrev pub searched : ℕ
searched = 4194304

-- there are so many bytes, and no five packets in a row in them
abbrev pub lacks_five : List ℕ → Bool
lacks_five bs = nat_le searched (length bs) && not (has_five (take searched bs))

-- no five packets in a row in the first 4 MiB; nor in fewer bytes, if the first ones show another form
abbrev pub lacks_packets : List ℕ → Bool
lacks_packets bs = lacks_five bs || is_known (form_of bs) && not (has_five (take searched bs))

unfoldable pub no_stream_by : Option OtherPackets → Bool → FileForm → Option FileForm
no_stream_by (Some packets) lacks form = None
no_stream_by None true form = Some form
no_stream_by None false form = None

-- the form of bytes that are no transport stream: they have no packets of 188 bytes, nor packets of another size at their front
abbrev pub no_stream : List ℕ → Option FileForm
no_stream bs = no_stream_by (other_packets bs) (lacks_packets bs) (form_of bs)
