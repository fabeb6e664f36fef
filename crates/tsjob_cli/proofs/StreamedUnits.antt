-- The streams of a description, and a stream that follows the description.
use Rattle.std.proofs.Common.{◌≡◌, ◌∙◌, ◌<◌, ◌≤◌, ◌+◌, ◌++◌, ℕ, List, [], ◌∷◌, length, drop, get_or, Option, Some, None, true, Result, Ok, Err, refl, sym, ap}
use Rattle.std.proofs.Common.{subst, add-one, inl, inr, arith}
use Rattle.std.proofs.Math.Seq.{drop-cons}
use Rattle.std.proofs.lemmas.List.{append_assoc, append-nil, drop_all}
use Rattle.clap.specs.Words.{Text}
use Rattle.description_parts.specs.Described.{Described, DescribedStream}
use Rattle.fed_streams.specs.Feeding.{FedStreamView}
use Rattle.devices.specs.Devices.{Device, HasFailed, IsUntouched, Port}
use Rattle.devices.specs.Files.{Files, IsOpened}
use Rattle.devices.specs.Lines.{Reports}
use Rattle.devices.specs.Outcomes.{halt_line}
use Rattle.devices.specs.WholeInput.{IsWhole, ReadsInput}
use Rattle.devices.specs.declared.halt.Halt.{Halt}
use Rattle.devices.specs.declared.halt.Halt.TheVariants as halt
use Rattle.devices.proofs.NamedReaders.{is_unread}
use Rattle.description_parts.specs.Ranges.{IsInRange}
use Rattle.job_run.specs.JobArguments.{JobArgumentsView}
use Rattle.job_programs.specs.JobOptions.{JobOptionsView}
use Rattle.job_run.specs.Outcomes.{PerformsJob}
use Rattle.tsjob_cli.specs.StreamedUnits.{IsDescriptionIn, IsNamedDescription, StreamsUnits, fed_stream, none_outcome, streams_from}
use Rattle.tsjob_cli.specs.declared.streaming.NoDescription.{NoDescription}
use Rattle.tsjob_cli.specs.declared.streaming.NoDescription.TheVariants.{Unopened, Stopped, Refused}

-- 1. The streams of a description, one by one

streams_step : (streams : List DescribedStream) (k : ℕ) (s : DescribedStream) → k < length streams → s ≡ get_or streams k s →
    streams_from k (drop k streams) ≡ fed_stream k s.pid ∷ streams_from (k + 1) (drop (k + 1) streams)
unfolding streams_from
streams_step streams k s below at = rw (drop-cons streams k s below, add-one k, sym at) refl

pub streams_more : (streams : List DescribedStream) (k : ℕ) (s : DescribedStream) (fed next all : List FedStreamView) → k < length streams →
    s ≡ get_or streams k s →
    next ≡ fed ++ (fed_stream k s.pid ∷ []) → fed ++ streams_from k (drop k streams) ≡ all → next ++ streams_from (k + 1) (drop (k + 1) streams) ≡ all
streams_more streams k s fed next all below at grown so =
    let one : FedStreamView = fed_stream k s.pid in
    ap (λ (x : List FedStreamView). x ++ streams_from (k + 1) (drop (k + 1) streams)) grown
    ∙ append_assoc fed (one ∷ []) (streams_from (k + 1) (drop (k + 1) streams))
    ∙ ap (λ (x : List FedStreamView). fed ++ x) (sym (streams_step streams k s below at)) ∙ so

no_streams : (k : ℕ) → streams_from k [] ≡ []
unfolding streams_from
no_streams k = refl

pub streams_all : (streams : List DescribedStream) (k : ℕ) (fed all : List FedStreamView) → length streams ≤ k → fed ++ streams_from k (drop k streams) ≡ all →
    fed ≡ all
streams_all streams k fed all over so =
    sym (append-nil fed)
    ∙ ap (λ (x : List FedStreamView). fed ++ x) (sym (ap (λ (ss : List DescribedStream). streams_from k ss) (drop_all k streams over) ∙ no_streams k)) ∙ so

-- 2. A description in a file

-- If the file was read, the result is the description in the bytes that were read.
pub of_text : (files : Files) (name : List ℕ) (input : Device) (text : List ℕ) (r : Result Described NoDescription) → IsOpened files name →
    input.before.bytes ≡ files.contents name → ReadsInput input (Ok text) → IsDescriptionIn text r →
    IsNamedDescription files name r
of_text files name input text (Ok d) opened same read is = (text, ((opened, subst (λ (known : Option (List ℕ)). IsWhole known text) same read.0), is))
of_text files name input text (Err Unopened) opened same read is = absurd is
of_text files name input text (Err (Stopped halt.Read)) opened same read is = absurd (not_memory is)
  where
    not_memory : halt.Read ≡ halt.Memory → ⊥
    not_memory e = absurd cc
of_text files name input text (Err (Stopped halt.Write)) opened same read is = absurd (not_memory is)
  where
    not_memory : halt.Write ≡ halt.Memory → ⊥
    not_memory e = absurd cc
of_text files name input text (Err (Stopped halt.Memory)) opened same read is = tt
of_text files name input text (Err (Refused f)) opened same read is =
    (text, ((opened, subst (λ (known : Option (List ℕ)). IsWhole known text) same read.0), is))

-- If the file was not read, the result is why reading stopped.
pub of_none : (files : Files) (name : List ℕ) (input : Device) (why : Halt) → IsOpened files name → input.before.bytes ≡ files.contents name →
    (files.never_fails ≡ true → HasFailed input → ⊥) →
    ReadsInput input (Err why) → IsNamedDescription files name (Err (Stopped why))
of_none files name input halt.Read opened same never read = is_unread files name input opened same never read
of_none files name input halt.Write opened same never read = absurd read
of_none files name input halt.Memory opened same never read = tt

-- 3. The results of the words

pub no_memory_for_words : (a : JobArgumentsView) (input output faults : Device) (status : ℕ) → IsUntouched input → IsUntouched output →
    Reports faults (halt_line halt.Memory) → status ≡ 3 → PerformsJob a input output faults status
no_memory_for_words a input output faults status i o t s =
    inl (inr (inr (inl (record { clean = ap (λ (p : Port). p.failed) i; unwritten = o; reports = t; status_is = s }))))

pub no_memory_for_stream : (w : JobOptionsView) (files : Files) (name : Text) (input output faults : Device) (status : ℕ) → IsUntouched input →
    IsUntouched output → Reports faults (halt_line halt.Memory) → status ≡ 3 →
    StreamsUnits w files name input output faults status
unfolding none_outcome
no_memory_for_stream w files name input output faults status i o r s =
    inr (record { why = Stopped halt.Memory; is = tt; unread = i; unwritten = o; reports = r; status_is = s })

same_arguments : (x : Option JobArgumentsView) (a b : JobArgumentsView) → Some a ≡ x → x ≡ Some b → a ≡ b
same_arguments x a b e f = let both : Some a ≡ Some b = e ∙ f in cc

pub job_asked : (x : Option JobArgumentsView) (a b : JobArgumentsView) (input output faults : Device) (status : ℕ) → Some a ≡ x → x ≡ Some b →
    (a.stream ≡ None → PerformsJob a input output faults status) →
    b.stream ≡ None → PerformsJob b input output faults status
job_asked x a b input output faults status e f p =
    subst (λ (v : JobArgumentsView). v.stream ≡ None → PerformsJob v input output faults status) (same_arguments x a b e f) p

pub stream_asked : (x : Option JobArgumentsView) (a b : JobArgumentsView) (files : Files) (name : Text) (input output faults : Device) (status : ℕ) →
    Some a ≡ x → x ≡ Some b →
    (a.stream ≡ Some name → StreamsUnits a.options files name input output faults status) → b.stream ≡ Some name →
    StreamsUnits b.options files name input output faults status
stream_asked x a b files name input output faults status e f p =
    subst (λ (v : JobArgumentsView). v.stream ≡ Some name → StreamsUnits v.options files name input output faults status) (same_arguments x a b e f) p

-- The opened file has the requested name.
pub same_name : (shown name : Text) (asked : Option Text) → Some shown ≡ asked → asked ≡ Some name → shown ≡ name
same_name shown name asked e f = let both : Some shown ≡ Some name = e ∙ f in cc

pub named_and_not : (shown : Text) (asked : Option Text) → Some shown ≡ asked → asked ≡ None → ⊥
named_and_not shown asked e f = let both : Some shown ≡ None = e ∙ f in absurd cc

pub not_and_named : (name : Text) (asked : Option Text) → None ≡ asked → asked ≡ Some name → ⊥
not_and_named name asked e f = let both : None ≡ Some name = e ∙ f in absurd cc

-- A description has at most 256 streams, so 8 bits number them.
pub few_streams : (d : Described) (streams : List DescribedStream) → streams ≡ d.streams → IsInRange d → length streams ≤ 256
few_streams d streams e r = let size : length streams ≡ length d.streams = ap (length {A = DescribedStream}) e in omega (arith, size, r.most_streams)
