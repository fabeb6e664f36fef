-- Small runs whose findings compute.
use Rattle.std.proofs.Common.{◌≡◌, ℕ, true, false, List, [], ◌∷◌, replicate, None, Some, refl}
use Rattle.pes_packet.specs.AccessUnits.{AccessUnit}
use Rattle.pes_packet.specs.declared.time_stamps.Stamps.TheVariants.{Pts, PtsDts}
use Rattle.pes_packet.specs.Encoding.{pes_header_bytes, header_with, pts_header, pts_dts_header, pes_start_bytes, packet_length, stamp_bytes, pes_packet_bytes}
use Rattle.pes_packet.specs.Laws.{written_header}
use Rattle.pes_packet.specs.Marks.{no_flags, no_marks}
use Rattle.pid_findings.specs.declared.finding.Kind.TheVariants.{Pes, Table}
use Rattle.pid_findings.specs.Views.{IsPes, IsSection, IsTruncated}
use Rattle.laws_run.specs.Sent.{sendings, each_found, next_of, if_sent, begin_or}
use Rattle.laws_run.specs.Units.{unit_packets, unit_found}
use Rattle.laws_run.specs.Sections.{section_packets, section_found}

-- A unit of three bytes, one second after the start of the run, and a unit with a later PTS
abbrev three : AccessUnit
three = record { dts = 90000; pts = 90000; marks = no_marks; bytes = 1 ∷ 2 ∷ 3 ∷ [] }

abbrev two : AccessUnit
two = record {
  dts = 93600;
  pts = 97200;
  marks = record { random_access = true; flags = record no_flags { aligned = true }; long = false; private_data = None };
  bytes = 4 ∷ 5 ∷ [];
}

-- In packet 7 of 10 the first unit is whole, with PES_packet_length 11; the unit in packet 9 also has a DTS, and is aligned.
units_row : each_found (unit_found 192 0) 10 (sendings (unit_packets 192 0) (three ∷ two ∷ []) (7 ∷ 9 ∷ []))
    ≡ record {
      packet = 7;
      found =
          record {
            begun = Some (7, Pes true false);
            what =
                IsPes (record { id = 192; len = 11; stamps = Pts 90000; flags = no_flags; data_length = 5; private_data = None }) false (1 ∷ 2 ∷ 3 ∷ []);
            within =
                true;
          };
    }
    ∷ record {
      packet = 9;
      found =
          record {
            begun = Some (9, Pes true true);
            what =
                IsPes (record {
                  id = 192;
                  len = 15;
                  stamps = PtsDts 97200 93600;
                  flags = record no_flags { aligned = true };
                  data_length = 10;
                  private_data =
                      None;
                })
                false (4 ∷ 5 ∷ []);
            within = true;
          };
    }
    ∷ []
unfolding each_found sendings next_of if_sent begin_or unit_found pes_packet_bytes pes_header_bytes pts_header pts_dts_header header_with pes_start_bytes
    packet_length stamp_bytes written_header
units_row = refl

-- Time stamps wrap modulo 2^33: the clock begins one unit before it wraps.
wrapped_row : each_found (unit_found 192 8_589_934_591) 1
    (sendings (unit_packets 192 8_589_934_591) (record { dts = 1; pts = 1; marks = no_marks; bytes = 6 ∷ [] } ∷ []) (0 ∷ []))
    ≡ record {
      packet = 0;
      found =
          record {
            begun = Some (0, Pes true false);
            what =
                IsPes (record { id = 192; len = 9; stamps = Pts 0; flags = no_flags; data_length = 5; private_data = None }) false (6 ∷ []);
            within = true;
          };
    } ∷ []
unfolding each_found sendings next_of if_sent begin_or unit_found pes_packet_bytes pes_header_bytes pts_header pts_dts_header header_with pes_start_bytes
    packet_length stamp_bytes written_header
wrapped_row = refl

-- A section of 3 bytes (table_id 0x70, section_length 0) in packet 2, and one packet of a section of 200 bytes, in a stream of 5 packets
abbrev long_text : List ℕ
long_text = 0x4A ∷ 0x70 ∷ 197 ∷ replicate 197 9

sections_row : each_found section_found 5 (sendings section_packets ((0x70 ∷ 0x70 ∷ 0 ∷ []) ∷ long_text ∷ []) (2 ∷ 4 ∷ []))
    ≡ record { packet = 2; found = record { begun = Some (2, Table 0x70); what = IsSection (0x70 ∷ 0x70 ∷ 0 ∷ []); within = true } }
    ∷ record { packet = 5; found = record { begun = Some (4, Table 0x4A); what = IsTruncated (0x4A ∷ 0x70 ∷ 197 ∷ replicate 180 9); within = false } }
    ∷ []
unfolding each_found sendings next_of if_sent begin_or section_found
sections_row = refl

-- The same section in two packets is whole in the second packet.
whole_row : each_found section_found 5 (sendings section_packets (long_text ∷ []) (2 ∷ 4 ∷ []))
    ≡ record { packet = 4; found = record { begun = Some (2, Table 0x4A); what = IsSection long_text; within = false } } ∷ []
unfolding each_found sendings next_of if_sent begin_or section_found
whole_row = refl
