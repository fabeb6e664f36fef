-- Why a description is no text of the one on air: a word with the number of the part, and a sentence with the key to change.
use Rattle.std.specs.Prelude.{ℕ, List, ◌++◌, codes, decimal}
use Rattle.changed_texts.specs.declared.fault.TextFault.{TextFault}
use Rattle.changed_texts.specs.declared.fault.TextFault.TheVariants.{Rate, Clock, Stream, Program, Elementary, Tables, Shape, Private}

-- a word, a number and a sentence
unfoldable pub part_words : List ℕ → ℕ → List ℕ → List ℕ
part_words name n sentence = name ++ codes " " ++ decimal n ++ codes ": " ++ sentence ++ codes "\n"

unfoldable pub text_words : TextFault → List ℕ
text_words Rate = codes "rate: it has to be that of the first description\n"
text_words Clock = codes "clock: base0 has to be that of the first description\n"
text_words Stream = codes "stream: transport_stream_id and original_network_id have to be those of the first description\n"
text_words (Program p) = part_words (codes "program") p (codes "only its texts may differ: not number, pmt_pid, pcr_pid and pcr_limit, and no program may come or go")
text_words (Elementary k) =
    part_words (codes "elementary") k (codes "only type, tag, language, descriptors and shared_with may differ, and no stream may come or go")
text_words Tables =
    codes "tables: no table may come or go, and no network id, pid or limit may differ; with eit = true an EIT stays without events\n"
text_words (Shape t) =
    part_words (codes "shape") t (codes "more sections or packets than the first description: its pat_packets, pmt_packets, nit_packets, sdt_packets, eit and eit_packets make room")
text_words (Private t) = part_words (codes "version") t (codes "a section differs from the one on air and has its version_number: give it another")
