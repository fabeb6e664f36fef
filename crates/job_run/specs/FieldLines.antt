-- The lines for fields of packets and of PES headers that are not written again.
use Rattle.std.specs.Prelude.{ℕ, Bool, ◌||◌, ◌&&◌, List, ◌++◌, flat_map, filter, codes, decimal}
use Rattle.packet_sync.specs.Fields.{is_loss, is_of_packet}
use Rattle.packet_sync.specs.declared.field.Field.{Field}
use Rattle.packet_sync.specs.declared.field.Field.TheVariants.{TransportPriority, Discontinuity, RandomAccess, StreamPriority, OriginalClock, SpliceCountdown}
use Rattle.packet_sync.specs.declared.field.Field.TheVariants.{AdaptationPrivateData, AdaptationExtension, Alignment, Flags, Scrambling, LongHeader}
use Rattle.packet_sync.specs.declared.field.Field.TheVariants.{PrivateData, OtherHeaderData, UnreadHeader}
use Rattle.packet_sync.specs.declared.left_out.FieldLeftOut.{FieldLeftOut}
use Rattle.job_inputs.specs.JobInput.{JobInputView, carries_table, has_clock, has_stream}

unfoldable pub field_text : Field → List ℕ
field_text TransportPriority = codes " transport priority left out\n"
field_text Discontinuity = codes " discontinuity indicators left out\n"
field_text RandomAccess = codes " random access indicators left out\n"
field_text StreamPriority = codes " elementary stream priority indicators left out\n"
field_text OriginalClock = codes " original program clock references left out\n"
field_text SpliceCountdown = codes " splice countdown left out\n"
field_text AdaptationPrivateData = codes " private data of adaptation fields left out\n"
field_text AdaptationExtension = codes " extension of adaptation fields left out\n"
field_text Alignment = codes " data alignment indicators left out\n"
field_text Flags = codes " priority, copyright or original flags of PES headers left out\n"
field_text Scrambling = codes " scrambled in PES packets: taken as it is\n"
field_text LongHeader = codes " PES headers of 45 bytes: written without stuffing\n"
field_text PrivateData = codes " private data of PES headers left out\n"
field_text OtherHeaderData = codes " other data of PES headers left out\n"
field_text UnreadHeader = codes " PES header continues in another packet: not read\n"

unfoldable pub field_line : FieldLeftOut → List ℕ
field_line f = codes "pid " ++ decimal f.pid ++ field_text f.field

-- a line each
abbrev pub field_lines : List FieldLeftOut → List ℕ
field_lines fields = flat_map field_line fields

-- whether a field is on the PID of a carried stream; for a field of packets also of a carried table, or of a program's clock
abbrev pub is_carried : JobInputView → FieldLeftOut → Bool
is_carried m f = has_stream m f.pid || (is_of_packet f.field && (carries_table m f.pid || has_clock m f.pid))

-- whether a field is reported: a field that costs a viewer nothing only if all lines are asked for
abbrev pub is_reported : Bool → JobInputView → FieldLeftOut → Bool
is_reported all m f = is_carried m f && (all || is_loss f.field)

abbrev pub reported_fields : Bool → JobInputView → List FieldLeftOut → List FieldLeftOut
reported_fields all m fields = filter (is_reported all m) fields
