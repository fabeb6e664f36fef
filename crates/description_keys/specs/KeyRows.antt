-- The rows of keys, and what each refuses.
use Rattle.std.specs.Prelude.{ℕ, pos, ◌&&◌, ◌==◌, min, not, Bool, List, map, find, Option, is_none}
use Rattle.std.specs.Borrow.{Bor}
use Rattle.toml.specs.Data.{Data, get}
use Rattle.description_values.specs.Moments.{moment_at}
use Rattle.description_values.specs.Values.{boolean_or, descriptors_or_none, integer_at, integer_or, optional_integer}
use Rattle.description_values.specs.Values.{optional_language, sections_at, tables_at, text_or}
use Rattle.description_keys.specs.ProgramKeys.{refuses_channel, refuses_pcr_pid, refuses_service_descriptors}
use Rattle.description_keys.specs.EventKeys.{refuses_event_descriptors, refuses_event_language, refuses_event_name, refuses_event_text}
use Rattle.description_keys.specs.NetworkKeys.{refuses_network_name}
use Rattle.description_keys.specs.Refusals.{is_no_table}
use Rattle.description_keys.specs.Rules.{Rule, rule}
use Rattle.description_keys.specs.StreamKeys.{has_frame_left, has_owner, has_sharers, refuses_burst_packets, refuses_frame, refuses_frame_size, refuses_frames}
use Rattle.description_keys.specs.StreamKeys.{refuses_group, refuses_group_packets, refuses_mb, refuses_pace, refuses_rbx, stream_id, stream_main}
use Rattle.description_keys.specs.StreamKeys.{stream_rx, stream_size}
use Rattle.description_keys.specs.TableKeys.{entry_descriptors, entry_type, is_listed}
use Rattle.description_keys.specs.TopKeys.{limit_in, refuses_eit_packets, refuses_shared_clock}
use Rattle.description_keys.specs.VersionKeys.{refuses_versions}
use Rattle.description_keys.specs.declared.keys.TheConstants.{KEYS}
use Rattle.description_keys.specs.declared.key_row.Row.{Row}
use Rattle.description_keys.specs.declared.key_row.KeyPart.{KeyPart}
use Rattle.description_keys.specs.declared.key_row.KeyKind.{KeyKind}
use Rattle.description_keys.specs.declared.key_row.KeyKind.TheVariants as kind
use Rattle.description_keys.specs.declared.key_row.JointKey.{JointKey}
use Rattle.description_keys.specs.declared.key_row.JointKey.TheVariants as joint

-- 1. A row: the same of a row in memory, and of a row of a constant

pub record KeyRow : Type 0 where
  pub part : KeyPart
  pub code : ℕ
  pub name : List ℕ
  pub kind : KeyKind
  pub words : List ℕ

abbrev pub view : Row (Bor (List ℕ)) → KeyRow
view row = record { part = row.0; code = row.1; name = row.2.now; kind = row.3; words = row.4.now }

abbrev pub constant_view : Row (record { now : List ℕ }) → KeyRow
constant_view row = record { part = row.0; code = row.1; name = row.2.now; kind = row.3; words = row.4.now }

unfoldable pub keys : List KeyRow
keys = map constant_view KEYS

-- the key of a number
abbrev pub row_of : ℕ → Option KeyRow
row_of code = find (λ row. row.code == code) keys

-- 2. What a row refuses

-- a key whose values depend on other keys
abbrev pub refuses_jointly : JointKey → Data → Data → Bool
refuses_jointly joint.SharedClock document d = refuses_shared_clock d
refuses_jointly joint.EitPackets document d = refuses_eit_packets d
refuses_jointly joint.Versions document d = refuses_versions d
refuses_jointly joint.NetworkName document d = refuses_network_name d
refuses_jointly joint.ServiceDescriptors document d = refuses_service_descriptors d
refuses_jointly joint.EventLanguage document d = refuses_event_language d
refuses_jointly joint.EventName document d = refuses_event_name d
refuses_jointly joint.EventText document d = refuses_event_text d
refuses_jointly joint.EventDescriptors document d = refuses_event_descriptors d
refuses_jointly joint.ClockPid document d = refuses_pcr_pid document d
refuses_jointly joint.Channel document d = refuses_channel document d
refuses_jointly joint.StreamId document d = is_none (stream_id d)
refuses_jointly joint.Size document d = is_none (stream_size d)
refuses_jointly joint.Rx document d = is_none (stream_rx d)
refuses_jointly joint.Main document d = is_none (stream_main d)
refuses_jointly joint.Group document d = refuses_group d
refuses_jointly joint.GroupPackets document d = refuses_group_packets d
refuses_jointly joint.BurstPackets document d = refuses_burst_packets d
refuses_jointly joint.Pace document d = refuses_pace d
refuses_jointly joint.SharedWith document d = not (has_sharers document d)
refuses_jointly joint.Rbx document d = refuses_rbx d
refuses_jointly joint.Mb document d = refuses_mb d
refuses_jointly joint.Frames document d = refuses_frames d
refuses_jointly joint.Frame document d = refuses_frame d
refuses_jointly joint.FrameSize document d = refuses_frame_size d
refuses_jointly joint.FrameLeft document d = not (has_frame_left d)
refuses_jointly joint.EntryProgram document d = is_listed d && not (has_owner document d)
refuses_jointly joint.EntryType document d = is_listed d && is_none (entry_type d)
refuses_jointly joint.EntryDescriptors document d = is_listed d && is_none (entry_descriptors d)

-- another value than a table, if there is one
abbrev pub has_no_table : List ℕ → Data → Bool
has_no_table name d = is_no_table (get name d)

-- each kind by its range and its default; no loop of descriptors has more than 4,000 bytes
abbrev pub refuses_kind : KeyKind → List ℕ → Data → Data → Bool
refuses_kind (kind.Number least most) name document d = is_none (integer_at name (pos least) (pos most) d)
refuses_kind kind.Pid name document d = is_none (integer_at name (pos 32) (pos 8190) d)
refuses_kind (kind.NumberOr default least most) name document d = is_none (integer_or default name (pos least) (pos most) d)
refuses_kind (kind.NumberIfAny least most) name document d = is_none (optional_integer name (pos least) (pos most) d)
refuses_kind kind.Moment name document d = is_none (moment_at name d)
refuses_kind (kind.Flag default) name document d = is_none (boolean_or default name d)
refuses_kind (kind.TextOrEmpty most) name document d = is_none (text_or most name d)
refuses_kind kind.LanguageIfAny name document d = is_none (optional_language name d)
refuses_kind (kind.Descriptors most) name document d = is_none (descriptors_or_none (min most 4000) name d)
refuses_kind kind.Sections name document d = not (sections_at name d)
refuses_kind kind.Owner name document d = not (has_owner document d)
refuses_kind kind.OneTable name document d = has_no_table name d
refuses_kind (kind.Tables least most more) name document d = not (tables_at (least == 0) name least (limit_in document most more) d)
refuses_kind (kind.Joint key) name document d = refuses_jointly key document d

abbrev pub refuses_row : KeyRow → Data → Data → Bool
refuses_row row document d = refuses_kind row.kind row.name document d

abbrev pub rule_of : KeyRow → Rule
rule_of row = rule row.part row.code row.name (refuses_row row)
