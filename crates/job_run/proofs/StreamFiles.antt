-- Streams in files: the input that a job takes from each stream, and the outcome.
use Rattle.std.proofs.Common.{◌≡◌, ◌∙◌, ◌<◌, ◌+◌, ◌/◌, ◌++◌, ◌∷◌, ◌||◌, ℕ, suc, zero, Bool, true, false, List, [], length, map, take, get_or, refl, sym, ap}
use Rattle.std.proofs.Common.{ap₂, subst, append_assoc, append-nil, Option, Some, None, Result, Ok, Err, All, inl, inr, arith, ◌≤◌, length-append}
use Rattle.std.proofs.Common.{length-take-le}
use Rattle.std.proofs.Common.{add-one, drop}
use Rattle.std.proofs.Math.Seq.{drop-cons}
use Rattle.std.proofs.lemmas.List.{drop_all, take_all, take_more}
use Rattle.std.specs.Borrow.{Bor}
use Rattle.std.specs.Io.KnownBytes.{Consumes}
use Rattle.std.specs.Prelude.{IfOk}
use Rattle.std.proofs.lemmas.List.{length-map}
use Rattle.std.proofs.lemmas.List.Elements.{All-cons, All-head, All-nil, All-tail}
use Rattle.std.proofs.lemmas.Option.{same_Some, slice_get-get_or, slice_get_within}
use Rattle.std.specs.Prelude.{is_ok, is_some}
use Rattle.std.specs.List.{AllZip, list_any}
use Rattle.pid_findings.specs.Views.{FindingView}
use Rattle.devices.specs.Devices.{Device, HasFailed}
use Rattle.devices.specs.Files.{Files, IsOpened}
use Rattle.devices.specs.Outcomes.{Outcome, reported}
use Rattle.devices.specs.WholeInput.{IsWhole, ReadsInput}
use Rattle.devices.specs.declared.halt.Halt.{Halt}
use Rattle.devices.specs.declared.halt.Halt.TheVariants as Halted
use Rattle.devices.proofs.NamedReaders.{is_unread}
use Rattle.packet_sync.specs.NoStreams.{searched, no_stream}
use Rattle.packet_sync.specs.declared.file_form.FileForm.{FileForm}
use Rattle.job_run.specs.InputLines.{are_lost, input_line, name_of, note_lines}
use Rattle.job_run.specs.RefusalLine.{refusal_in}
use Rattle.job_run.specs.SlipLines.{no_stream_line}
use Rattle.job_programs.specs.Answers.{Answers, Refuses}
use Rattle.stamp_repair.specs.References.{references_in}
use Rattle.packet_pcr.specs.declared.pcr_reading.FoundPcr.{FoundPcr}
use Rattle.job_inputs.specs.AskedMarks.{as_asked}
use Rattle.job_programs.specs.JobOptions.{JobOptionsView}
use Rattle.job_inputs.specs.JobInput.{JobInputView, job_input, AreStreams}
use Rattle.job_inputs.specs.JoinedInputs.{AreMadeOf, AreStreamsIn, JoinedInputsView, findings_in}
use Rattle.job_programs.specs.declared.refusal.JobError.{JobError}
use Rattle.job_programs.specs.declared.refusal.JobError.TheVariants.{Memory, Refused}
use Rattle.job_programs.specs.declared.refusal.JobRefusal.{JobRefusal}
use Rattle.job_inputs.proofs.JoinedStreams.{joined_found}
use Rattle.job_run.proofs.Readings.{form_stays}
use Rattle.job_run.specs.JobArguments.{JobArgumentsView}
use Rattle.job_run.specs.Outcomes.{ReportsRefusal, ReportsWhy, Withholds, reports_loss, status_of, reported_lines, unless_quiet}
use Rattle.job_run.specs.SeveralInputs.{GivesIn, InputsLead, JoinedLead, NamedStream, all_findings, all_joined, are_streams_less, input_or_line, names_of}
use Rattle.job_run.specs.SeveralInputs.{packets_input, stream_input, stream_inputs, streams_lines, under, with_first}
use Rattle.job_run.specs.StreamFiles.{AreNamedInputs, AreTaken, EndsAt, FilesLead, HasRead, IsInput, IsInputIn, IsInputOf, IsLedTo, IsNamedInput, IsRefusalOf}
use Rattle.job_run.specs.StreamFiles.{IsTakenFrom, IsTakenOf, JoinedLeads, TakenLead, TakenView, read_line, stopped_by, taken_lines, headed_outcome}
use Rattle.job_run.specs.Streams.{IsOfStream, IsRead, PacketNotesView, ReadingView, ReadsStream, asked_findings, findings_by, findings_for, in_step, notes_by, notes_for}

-- 1. One stream

answered : (r : Result JobInputView JobRefusal) (m : JobInputView) → Answers r (Ok m) → r ≡ Ok m
unfolding Answers
answered r m is = is

pub is_taken_of : (a : JobArgumentsView) (notes : PacketNotesView) (count : ℕ) (findings : List FindingView) (m : JobInputView) (t : TakenView) →
    Answers (job_input a.options count findings) (Ok m) → AreStreams a.options.make_dts findings m → t.input ≡ m →
    t.lines ≡ reported_lines a.reporting notes findings m →
    t.less ≡ reports_loss a.reporting notes findings m → IsTakenOf a notes count findings t
is_taken_of a notes count findings m t is streams same lines less = record {
  input_is = answered (job_input a.options count findings) m is ∙ ap (λ (x : JobInputView). Ok x) (sym same);
  streams = subst (λ (x : JobInputView). AreStreams a.options.make_dts findings x) (sym same) streams;
  lines_are = lines ∙ ap (λ (x : JobInputView). reported_lines a.reporting notes findings x) (sym same);
  less_is = less ∙ ap (λ (x : JobInputView). reports_loss a.reporting notes findings x) (sym same);
}

pub is_refusal_of : (a : JobArgumentsView) (notes : PacketNotesView) (count : ℕ) (findings : List FindingView) (error : JobError) (o : Outcome) →
    Answers (job_input a.options count findings) (Err error) → ReportsRefusal notes.falling error o →
    IsRefusalOf a notes count findings o
unfolding Answers Refuses
is_refusal_of a notes count findings Memory o is outcome_is = absurd outcome_is
is_refusal_of a notes count findings (Refused refusal) o is outcome_is = record { refusal = refusal; refused = is; is = outcome_is }

-- A stream of packets of 188 bytes
plain_input : (a : JobArgumentsView) (bytes : List ℕ) (x : Result JobInputView JobRefusal) → no_stream bytes ≡ None →
    job_input a.options (length (in_step bytes) / 188) (findings_for a.options bytes) ≡ x → stream_input a.options bytes ≡ input_or_line (notes_for a.options bytes).falling x
unfolding packets_input
plain_input a bytes x none is = ap (λ (p : Option FileForm). packets_input a.options bytes p) none
    ∙ ap (λ (r : Result JobInputView JobRefusal). input_or_line (notes_for a.options bytes).falling r) is

of_value : (falling : List ℕ) (m : JobInputView) → input_or_line falling (Ok m) ≡ Ok m
unfolding input_or_line
of_value falling m = refl

of_refusal : (falling : List ℕ) (refusal : JobRefusal) → input_or_line falling (Err refusal) ≡ Err (refusal_in falling refusal)
unfolding input_or_line
of_refusal falling refusal = refl

of_bytes : (a : JobArgumentsView) (bytes : List ℕ) (r : Result TakenView Outcome) → no_stream bytes ≡ None →
    IsInputOf a (notes_for a.options bytes) (length (in_step bytes) / 188) (findings_for a.options bytes) r → IsInput a bytes r
of_bytes a bytes (Ok t) none is = record {
  input_is = plain_input a bytes (Ok t.input) none is.input_is ∙ of_value (notes_for a.options bytes).falling t.input;
  streams = is.streams;
  lines_are = is.lines_are;
  less_is = is.less_is;
}
of_bytes a bytes (Err o) none is = record {
  line = refusal_in (notes_for a.options bytes).falling is.refusal;
  refused = plain_input a bytes (Err is.refusal) none is.refused ∙ of_refusal (notes_for a.options bytes).falling is.refusal;
  is = is.is;
}

pub carried_is_input : (a : JobArgumentsView) (bytes : List ℕ) (notes said : PacketNotesView) (references : List FoundPcr) (size : ℕ)
    (at_times marked findings found : List FindingView) (w : JobOptionsView) (r : Result TakenView Outcome) →
    IsOfStream bytes notes references found size → findings ≡ found → no_stream bytes ≡ None → w ≡ a.options → marked ≡ as_asked w findings →
    said ≡ notes_by w.joined references marked notes → at_times ≡ findings_by w references marked → IsInputOf a said (size / 188) at_times r →
    IsInput a bytes r
carried_is_input a bytes notes said references size at_times marked findings found w r of same none asked marks outcome_is times is =
    let asked_are : marked ≡ asked_findings a.options bytes =
    marks ∙ ap (λ (x : JobOptionsView). as_asked x findings) asked ∙ ap (λ (x : List FindingView). as_asked a.options x) (same ∙ of.found_is) in
    let all : at_times ≡ findings_for a.options bytes =
    times ∙ ap (λ (x : JobOptionsView). findings_by x references marked) asked
    ∙ ap₂ (λ (r : List FoundPcr) (x : List FindingView). findings_by a.options r x) of.references_are asked_are in
    let notes_are : said ≡ notes_for a.options bytes =
    outcome_is ∙ ap (λ (x : JobOptionsView). notes_by x.joined references marked notes) asked
    ∙ ap₂ (λ (r : List FoundPcr) (x : List FindingView). notes_by a.options.joined r x notes) of.references_are asked_are
    ∙ ap (λ (n : PacketNotesView). notes_by a.options.joined (references_in (in_step bytes)) (asked_findings a.options bytes) n) of.notes_are in
    of_bytes a bytes r none
    (subst (λ (x : PacketNotesView). IsInputOf a x (length (in_step bytes) / 188) (findings_for a.options bytes) r) notes_are
    (subst (λ (x : List FindingView). IsInputOf a said (length (in_step bytes) / 188) x r) all
    (subst (λ (n : ℕ). IsInputOf a said (n / 188) at_times r) of.size_is is)))

-- No stream of packets of 188 bytes
pub form_is_input : (a : JobArgumentsView) (bytes : List ℕ) (form : FileForm) (o : Outcome) → Some form ≡ no_stream bytes →
    o ≡ reported (no_stream_line form) → IsInput a bytes (Err o)
unfolding packets_input
form_is_input a bytes form o is outcome_is = record {
  line = no_stream_line form;
  refused = ap (λ (p : Option FileForm). packets_input a.options bytes p) (sym is);
  is = outcome_is;
}

-- More bytes after the first 4 MiB, which show that they are no stream
still_input : (a : JobArgumentsView) (front more : List ℕ) (w : Option FileForm) (x : Result TakenView Outcome) → length front ≡ searched →
    no_stream front ≡ w → is_some w ≡ true → IsInput a front x → IsInput a (front ++ more) x
unfolding packets_input
still_input a front more None x size e some is = absurd cc
still_input a front more (Some form) (Ok t) size e some is =
    let no : false ≡ true = ap (λ (r : Result JobInputView (List ℕ)). is_ok r) (sym (ap (packets_input a.options front) e) ∙ is.input_is) in absurd cc
still_input a front more (Some form) (Err o) size e some is = record {
  line = is.line;
  refused = ap (packets_input a.options (front ++ more)) (form_stays front more size ∙ e) ∙ sym (ap (packets_input a.options front) e) ∙ is.refused;
  is = is.is;
}

-- 2. The file with a name

-- The bytes of a file, of which these are the first ones
record Lengthened (known : Option (List ℕ)) (front : List ℕ) : Type 0 where
  pub bytes : List ℕ
  pub whole : IsWhole known bytes
  pub more : List ℕ
  pub bytes_are : front ++ more ≡ bytes

lengthened : (known left : Option (List ℕ)) (front : List ℕ) → Consumes known left front → Lengthened known front
lengthened None left front c = record { bytes = front; whole = tt; more = []; bytes_are = append-nil front }
lengthened (Some xs) None front c = absurd c
lengthened (Some xs) (Some ys) front c = record { bytes = xs; whole = refl; more = ys; bytes_are = sym c }

named_of : (a : JobArgumentsView) (files : Files) (name : List ℕ) (bytes : List ℕ) (x : Result TakenView Outcome) → IsOpened files name →
    IsWhole (files.contents name) bytes → IsInput a bytes x → IsNamedInput a files name x
named_of a files name bytes (Ok t) opened whole is = record { opened = opened; bytes = bytes; whole = whole; is = is }
named_of a files name bytes (Err o) opened whole is = inr (record { opened = opened; bytes = bytes; whole = whole; is = is })

pub named_read : (a : JobArgumentsView) (files : Files) (name : List ℕ) (input : Device) (r : ReadingView) (x : Result TakenView Outcome) →
    IsOpened files name → input.before.bytes ≡ files.contents name →
    ReadsStream input (Ok r) → ((bytes : List ℕ) → IsRead bytes r → IsInput a bytes x) → IsNamedInput a files name x
named_read a files name input r x opened same (inl read) of =
    named_of a files name read.bytes x opened (subst (λ (k : Option (List ℕ)). IsWhole k read.bytes) same read.read.0) (of read.bytes read.is.0)
named_read a files name input r x opened same (inr f) of =
    let l = lengthened input.before.bytes input.after.bytes f.front f.has.read in
    named_of a files name l.bytes x opened (subst (λ (k : Option (List ℕ)). IsWhole k l.bytes) same l.whole)
    (subst (λ (b : List ℕ). IsInput a b x) l.bytes_are
    (still_input a f.front l.more (no_stream f.front) x f.has.size_is refl f.form (of f.front f.has.is)))

-- The file can't be read to its end.
pub named_unread : (a : JobArgumentsView) (files : Files) (name : List ℕ) (input : Device) (halt : Halt) (o : Outcome) → IsOpened files name →
    input.before.bytes ≡ files.contents name →
    (files.never_fails ≡ true → HasFailed input → ⊥) → (halt ≡ Halted.Memory → ⊥) → ReadsInput input (Err halt) → o ≡ stopped_by read_line →
    IsNamedInput a files name (Err o)
named_unread a files name input Halted.Read o opened same never other read outcome_is =
    inl (inr (outcome_is, is_unread files name input opened same never read))
named_unread a files name input Halted.Write o opened same never other read outcome_is = absurd read
named_unread a files name input Halted.Memory o opened same never other read outcome_is = absurd (other refl)

-- 3. Files one after another

zip_push : {A B : Type 0} (R : A → B → Type 0) (xs : List A) (ys : List B) (x : A) (y : B) → AllZip R xs ys → R x y → AllZip R (xs ++ x ∷ []) (ys ++ y ∷ [])
zip_push R [] [] x y all one = (one, tt)
zip_push R [] (b ∷ ys) x y all one = absurd all
zip_push R (a ∷ xs) [] x y all one = absurd all
zip_push R (a ∷ xs) (b ∷ ys) x y all one = (all.0, zip_push R xs ys x y all.1 one)

zip_size : {A B : Type 0} (R : A → B → Type 0) (xs : List A) (ys : List B) → AllZip R xs ys → length xs ≡ length ys
zip_size R [] [] all = refl
zip_size R [] (b ∷ ys) all = absurd all
zip_size R (a ∷ xs) [] all = absurd all
zip_size R (a ∷ xs) (b ∷ ys) all = ap suc (zip_size R xs ys all.1)

pub no_files : (a : JobArgumentsView) (files : Files) (names : List (List ℕ)) → AreTaken a files (take 0 names) []
no_files a files names = record { streams = []; read = tt; are = tt }

pub one_more : (a : JobArgumentsView) (files : Files) (names : List (List ℕ)) (k : ℕ) (name : List ℕ) (taken next : List TakenView) (t : TakenView) →
    k < length names → name ≡ get_or names k name →
    AreTaken a files (take k names) taken → IsInputIn a files name (Ok t) → next ≡ taken ++ t ∷ [] → AreTaken a files (take (k + 1) names) next
one_more a files names k name taken next t within at before one pushed =
    let s : NamedStream = record { name = name; bytes = one.bytes } in
    let longer : take k names ++ name ∷ [] ≡ take (k + 1) names = ap (λ (n : List ℕ). take k names ++ n ∷ []) at ∙ sym (take_more names k name within) in
    record {
      streams = before.streams ++ s ∷ [];
      read = subst (λ (l : List (List ℕ)). AllZip (HasRead files) l (before.streams ++ s ∷ [])) longer
          (zip_push (HasRead files) (take k names) before.streams name s before.read (refl, one.whole, one.opened));
      are = subst (λ (l : List TakenView). AllZip (IsTakenFrom a) (before.streams ++ s ∷ []) l) (sym pushed)
          (zip_push (IsTakenFrom a) before.streams taken s t before.are one.is);
    }

pub all_files : (a : JobArgumentsView) (files : Files) (names : List (List ℕ)) (k : ℕ) (taken : List TakenView) → length names ≤ k →
    AreTaken a files (take k names) taken → AreTaken a files names taken
all_files a files names k taken over are = subst (λ (l : List (List ℕ)). AreTaken a files l taken) (take_all k names over) are

pub ends_at : (a : JobArgumentsView) (files : Files) (names : List (List ℕ)) (k : ℕ) (name : List ℕ) (taken : List TakenView) (alone o : Outcome) →
    k < length names → name ≡ get_or names k name →
    AreTaken a files (take k names) taken → IsNamedInput a files name (Err alone) → o ≡ headed_outcome k name alone → EndsAt a files names o
ends_at a files names k name taken alone o within at before is outcome_is = record {
  number = k;
  name = name;
  at = slice_get-get_or names k name within ∙ ap (λ (n : List ℕ). Some n) (sym at);
  taken = taken;
  before = before;
  alone = alone;
  is = is;
  outcome_is = outcome_is;
}

-- 4. The input that a job takes from all files

inputs_are : (a : JobArgumentsView) (number : ℕ) (streams : List NamedStream) (taken : List TakenView) → AllZip (IsTakenFrom a) streams taken →
    stream_inputs a.options number streams ≡ Ok (map (λ t. t.input) taken)
unfolding stream_inputs with_first
inputs_are a number [] [] all = refl
inputs_are a number [] (t ∷ ts) all = absurd all
inputs_are a number (s ∷ ss) [] all = absurd all
inputs_are a number (s ∷ ss) (t ∷ ts) all = rw (all.0.input_is, inputs_are a (number + 1) ss ts all.1) refl

named_at : (before : List NamedStream) (s : NamedStream) (after : List NamedStream) → name_of (names_of (before ++ s ∷ after)) (length before) ≡ s.name
named_at [] s after = refl
named_at (b ∷ bs) s after = named_at bs s after

lines_are : (a : JobArgumentsView) (before : List NamedStream) (number : ℕ) (streams : List NamedStream) (taken : List TakenView) → length before ≡ number →
    AllZip (IsTakenFrom a) streams taken →
    taken_lines (names_of (before ++ streams)) number taken ≡ streams_lines a number streams (map (λ t. t.input) taken)
unfolding taken_lines streams_lines
lines_are a before number [] [] at all = refl
lines_are a before number [] (t ∷ ts) at all = absurd all
lines_are a before number (s ∷ ss) [] at all = absurd all
lines_are a before number (s ∷ ss) (t ∷ ts) at all =
    let names = names_of (before ++ s ∷ ss) in
    let ms = map (λ t. t.input) ts in
    let here : name_of names number ≡ s.name = ap (λ (n : ℕ). name_of names n) (sym at) ∙ named_at before s ss in
    let size : length (before ++ s ∷ []) ≡ number + 1 = length-append before (s ∷ []) ∙ ap (λ (n : ℕ). n + 1) at in
    let later : taken_lines names (number + 1) ts ≡ streams_lines a (number + 1) ss ms =
    subst (λ (l : List NamedStream). taken_lines (names_of l) (number + 1) ts ≡ streams_lines a (number + 1) ss ms) (append_assoc before (s ∷ []) ss)
    (lines_are a (before ++ s ∷ []) (number + 1) ss ts size all.1) in
    ap (λ (l : List ℕ). under number (name_of names number) t.lines ++ l) later
    ∙ ap (λ (n : List ℕ). under number n t.lines ++ streams_lines a (number + 1) ss ms) here
    ∙ ap (λ (l : List ℕ). under number s.name l ++ streams_lines a (number + 1) ss ms) all.0.lines_are

-- The lines of the files, one after another
taken_step : (names : List (List ℕ)) (taken : List TakenView) (k : ℕ) (t : TakenView) → k < length taken → t ≡ get_or taken k t →
    taken_lines names k (drop k taken) ≡ under k (name_of names k) t.lines ++ taken_lines names (k + 1) (drop (k + 1) taken)
unfolding taken_lines
taken_step names taken k t within at = rw (drop-cons taken k t within, add-one k, sym at) refl

pub taken_more : (names : List (List ℕ)) (taken : List TakenView) (k : ℕ) (t : TakenView) (text next whole : List ℕ) → k < length taken → t ≡ get_or taken k t →
    next ≡ text ++ under k (name_of names k) t.lines → text ++ taken_lines names k (drop k taken) ≡ whole →
    next ++ taken_lines names (k + 1) (drop (k + 1) taken) ≡ whole
taken_more names taken k t text next whole within at grown so =
    let one = under k (name_of names k) t.lines in
    ap (λ (x : List ℕ). x ++ taken_lines names (k + 1) (drop (k + 1) taken)) grown
    ∙ append_assoc text one (taken_lines names (k + 1) (drop (k + 1) taken))
    ∙ ap (λ (x : List ℕ). text ++ x) (sym (taken_step names taken k t within at)) ∙ so

no_lines : (names : List (List ℕ)) (k : ℕ) → taken_lines names k [] ≡ []
unfolding taken_lines
no_lines names k = refl

pub taken_whole : (names : List (List ℕ)) (taken : List TakenView) (k : ℕ) (text whole : List ℕ) → length taken ≤ k →
    text ++ taken_lines names k (drop k taken) ≡ whole → text ≡ whole
taken_whole names taken k text whole over so =
    sym (append-nil text)
    ∙ ap (λ (x : List ℕ). text ++ x) (sym (ap (λ (ts : List TakenView). taken_lines names k ts) (drop_all k taken over) ∙ no_lines names k)) ∙ so

less_is : (a : JobArgumentsView) (streams : List NamedStream) (taken : List TakenView) → AllZip (IsTakenFrom a) streams taken →
    list_any (λ t. t.less) taken ≡ are_streams_less a streams (map (λ t. t.input) taken)
unfolding are_streams_less
less_is a [] [] all = refl
less_is a [] (t ∷ ts) all = absurd all
less_is a (s ∷ ss) [] all = absurd all
less_is a (s ∷ ss) (t ∷ ts) all = rw (all.0.less_is, less_is a ss ts all.1) refl

names_are : (files : Files) (names : List (List ℕ)) (streams : List NamedStream) → AllZip (HasRead files) names streams → names ≡ names_of streams
names_are files [] [] all = refl
names_are files [] (s ∷ ss) all = absurd all
names_are files (n ∷ ns) [] all = absurd all
names_are files (n ∷ ns) (s ∷ ss) all = ap (λ (l : List (List ℕ)). n ∷ l) (names_are files ns ss all.1) ∙ ap (λ (x : List ℕ). x ∷ names_of ss) (sym all.0.0)

-- The findings of an input are found by its number.
found_at : (before : List (List FindingView)) (f : List FindingView) (after : List (List FindingView)) → findings_in (before ++ f ∷ after) (length before) ≡ f
unfolding findings_in
found_at [] f after = refl
found_at (b ∷ bs) f after = found_at bs f after

one_longer : (before : List (List FindingView)) (f : List FindingView) → length (before ++ f ∷ []) ≡ length before + 1
one_longer before f = length-append before (f ∷ [])

are_made : (a : JobArgumentsView) (before : List (List FindingView)) (number : ℕ) (streams : List NamedStream) (taken : List TakenView) →
    length before ≡ number → AllZip (IsTakenFrom a) streams taken →
    AreMadeOf a.options.make_dts (before ++ all_findings a.options streams) number (map (λ t. t.input) taken)
unfolding AreMadeOf
are_made a before number [] [] at all = tt
are_made a before number [] (t ∷ ts) at all = absurd all
are_made a before number (s ∷ ss) [] at all = absurd all
are_made a before number (s ∷ ss) (t ∷ ts) at all =
    let f = findings_for a.options s.bytes in
    let after = all_findings a.options ss in
    let here : findings_in (before ++ f ∷ after) number ≡ f = ap (λ (n : ℕ). findings_in (before ++ f ∷ after) n) (sym at) ∙ found_at before f after in
    let later = are_made a (before ++ f ∷ []) (number + 1) ss ts (one_longer before f ∙ ap (λ (n : ℕ). n + 1) at) all.1 in (
      subst (λ (x : List FindingView). AreStreams a.options.make_dts x t.input) (sym here) all.0.streams,
      subst (λ (l : List (List FindingView)). AreMadeOf a.options.make_dts l (number + 1) (map (λ t. t.input) ts)) (append_assoc before (f ∷ []) after) later,
    )

few_of : (a : JobArgumentsView) (streams : List NamedStream) (taken : List TakenView) → AllZip (IsTakenFrom a) streams taken →
    All (λ t. length t.input.streams ≤ 254) taken
few_of a [] [] all = All-nil (λ t. length t.input.streams ≤ 254)
few_of a [] (t ∷ ts) all = absurd all
few_of a (s ∷ ss) [] all = absurd all
few_of a (s ∷ ss) (t ∷ ts) all = All-cons (λ t. length t.input.streams ≤ 254) t ts all.0.streams.stream_count (few_of a ss ts all.1)

pub few_taken : (a : JobArgumentsView) (files : Files) (names : List (List ℕ)) (taken : List TakenView) → AreTaken a files names taken →
    All (λ t. length t.input.streams ≤ 254) taken
few_taken a files names taken are = few_of a are.streams taken are.are

-- 5. The outcome of all files

pub given_of : (a : JobArgumentsView) (names : List (List ℕ)) (taken : List TakenView) (j : JoinedInputsView) (lines : List ℕ) (less : Bool) (o : Outcome) →
    lines ≡ taken_lines names 0 taken →
    less ≡ list_any (λ t. t.less) taken →
    ((inputs : List (List FindingView)) → AreStreamsIn a.options.make_dts inputs j → GivesIn a.subcommand a.options inputs j o.output) →
    o.report ≡ lines ++ unless_quiet a.reporting.quiet (note_lines names j.notes) → o.status ≡ status_of a.subcommand o.output (less || are_lost j.notes) →
    JoinedLeads a names taken (Ok j) o
given_of a names taken j lines less o said lost gives report status = inl (record {
  gives = gives;
  report_is = report ∙ ap (λ (l : List ℕ). l ++ unless_quiet a.reporting.quiet (note_lines names j.notes)) said;
  status_is = status ∙ ap (λ (b : Bool). status_of a.subcommand o.output (b || are_lost j.notes)) lost;
})

pub withheld_of : (a : JobArgumentsView) (names : List (List ℕ)) (taken : List TakenView) (j : JoinedInputsView) (error : JobError) (o : Outcome) →
    Withholds a.subcommand a.options j.input error → ReportsWhy error o → JoinedLeads a names taken (Ok j) o
withheld_of a names taken j Memory o holds outcome_is = absurd outcome_is
withheld_of a names taken j (Refused refusal) o holds outcome_is = inr (record { refusal = refusal; holds = holds; is = outcome_is })

are_in : (made : Bool) (inputs : List (List FindingView)) (ms : List JobInputView) (j : JoinedInputsView) → AreMadeOf made inputs 0 ms → all_joined ms ≡ Ok j →
    AreStreamsIn made inputs j
unfolding all_joined
are_in made inputs [] j of is = absurd (let no : ⊥ = cc in no)
are_in made inputs (m ∷ ms) j of is = joined_found made inputs m ms j of is

joined_lead : (a : JobArgumentsView) (files : Files) (names : List (List ℕ)) (taken : List TakenView) (o : Outcome) (are : AreTaken a files names taken)
    (x : Result JoinedInputsView JobRefusal) →
    all_joined (map (λ t. t.input) taken) ≡ x → JoinedLeads a names taken x o → JoinedLead a are.streams (map (λ t. t.input) taken) x o
joined_lead a files names taken o are (Err refusal) is lead = lead
joined_lead a files names taken o are (Ok j) is (inr refused) = inr refused
joined_lead a files names taken o are (Ok j) is (inl given) =
    let ms = map (λ t. t.input) taken in
    inl (record {
      gives = given.gives (all_findings a.options are.streams)
          (are_in a.options.make_dts (all_findings a.options are.streams) ms j (are_made a [] 0 are.streams taken refl are.are) is);
      report_is = given.report_is ∙ ap (λ (l : List (List ℕ)). taken_lines l 0 taken ++ unless_quiet a.reporting.quiet (note_lines l j.notes))
          (names_are files names are.streams are.read)
          ∙ ap (λ (l : List ℕ). l ++ unless_quiet a.reporting.quiet (note_lines (names_of are.streams) j.notes))
          (lines_are a [] 0 are.streams taken refl are.are);
      status_is = given.status_is ∙ ap (λ (b : Bool). status_of a.subcommand o.output (b || are_lost j.notes)) (less_is a are.streams taken are.are);
    })

pub taken_lead : (a : JobArgumentsView) (files : Files) (names : List (List ℕ)) (taken : List TakenView) (o : Outcome) → AreTaken a files names taken →
    TakenLead a names taken o → FilesLead a files names o
taken_lead a files names taken o are lead =
    let ms = map (λ t. t.input) taken in
    let same : length names ≡ length are.streams = zip_size (HasRead files) names are.streams are.read in
    let over : length names ≤ length are.streams = omega (arith, same) in
    inr (record {
      streams = are.streams;
      read = subst (λ (l : List (List ℕ)). AllZip (HasRead files) l are.streams) (sym (take_all (length are.streams) names over)) are.read;
      all = λ taken_all. sym same;
      leads = subst (λ (x : Result (List JobInputView) (List ℕ)). InputsLead a are.streams x o) (sym (inputs_are a 0 are.streams taken are.are))
          (joined_lead a files names taken o are (all_joined ms) refl lead);
    })

-- The first stream that a job refuses, after streams that it takes
refused_after : (a : JobArgumentsView) (start : ℕ) (streams : List NamedStream) (taken : List TakenView) (s : NamedStream) (line : List ℕ) (number : ℕ) →
    AllZip (IsTakenFrom a) streams taken →
    stream_input a.options s.bytes ≡ Err line → start + length streams ≡ number →
    stream_inputs a.options start (streams ++ s ∷ []) ≡ Err (input_line number s.name ++ line)
unfolding stream_inputs with_first
refused_after a start [] [] s line number all refused at =
    let here : start ≡ number = omega (arith, at) in
    rw (refused, here) refl
refused_after a start [] (t ∷ ts) s line number all refused at = absurd all
refused_after a start (r ∷ rs) [] s line number all refused at = absurd all
refused_after a start (r ∷ rs) (t ∷ ts) s line number all refused at =
    let next : (start + 1) + length rs ≡ number = omega (arith, at) in
    rw (all.0.input_is, refused_after a (start + 1) rs ts s line number all.1 refused next) refl

not_all : (a : JobArgumentsView) (streams : List NamedStream) (line : List ℕ) (n m : ℕ) → stream_inputs a.options 0 streams ≡ Err line →
    is_ok (stream_inputs a.options 0 streams) ≡ true → n ≡ m
not_all a streams line n m is taken =
    let no : false ≡ true = sym (ap (λ (x : Result (List JobInputView) (List ℕ)). is_ok x) is) ∙ taken in
    absurd (let never : ⊥ = cc in never)

refused_lead : (a : JobArgumentsView) (files : Files) (names : List (List ℕ)) (o : Outcome) (e : EndsAt a files names o) →
    IsInputIn a files e.name (Err e.alone) → IsLedTo a files names o
refused_lead a files names o e one =
    let s : NamedStream = record { name = e.name; bytes = one.bytes } in
    let all = e.before.streams ++ s ∷ [] in
    let within : e.number < length names = slice_get_within names e.number e.name e.at in
    let most : e.number ≤ length names = omega (arith, within) in
    let front : length (take e.number names) ≡ e.number = length-take-le e.number names most in
    let count : length e.before.streams ≡ e.number = sym (zip_size (HasRead files) (take e.number names) e.before.streams e.before.read) ∙ front in
    let size : length all ≡ e.number + 1 = length-append e.before.streams (s ∷ []) ∙ ap (λ (n : ℕ). n + 1) count in
    let at : e.name ≡ get_or names e.number e.name =
    same_Some e.name (get_or names e.number e.name) (sym e.at ∙ slice_get-get_or names e.number e.name within) in
    let longer : take e.number names ++ e.name ∷ [] ≡ take (length all) names =
    ap (λ (n : List ℕ). take e.number names ++ n ∷ []) at ∙ sym (take_more names e.number e.name within) ∙ ap (λ (n : ℕ). take n names) (sym size) in
    let refused : stream_inputs a.options 0 all ≡ Err (input_line e.number e.name ++ one.is.line) =
    (let from_first : 0 + length e.before.streams ≡ e.number = omega (arith, count) in
    refused_after a 0 e.before.streams e.taken s one.is.line e.number e.before.are one.is.refused from_first) in
    record {
      streams = all;
      read = subst (λ (l : List (List ℕ)). AllZip (HasRead files) l all) longer
          (zip_push (HasRead files) (take e.number names) e.before.streams e.name s e.before.read (refl, one.whole, one.opened));
      all = not_all a all (input_line e.number e.name ++ one.is.line) (length all) (length names) refused;
      leads = subst (λ (x : Result (List JobInputView) (List ℕ)). InputsLead a all x o) (sym refused)
          (e.outcome_is ∙ ap (λ (x : Outcome). headed_outcome e.number e.name x) one.is.is);
    }

ended : (a : JobArgumentsView) (files : Files) (names : List (List ℕ)) (o : Outcome) (e : EndsAt a files names o) → IsNamedInput a files e.name (Err e.alone) →
    FilesLead a files names o
ended a files names o e (inl stop) = inl (record {
  number = e.number;
  name = e.name;
  at = e.at;
  streams = e.before.streams;
  read = e.before.read;
  taken = ap (λ (x : Result (List JobInputView) (List ℕ)). is_ok x) (inputs_are a 0 e.before.streams e.taken e.before.are);
  alone = e.alone;
  is = stop;
  outcome_is = e.outcome_is;
})
ended a files names o e (inr one) = inr (refused_lead a files names o e one)

pub ends_lead : (a : JobArgumentsView) (files : Files) (names : List (List ℕ)) (o : Outcome) → EndsAt a files names o → FilesLead a files names o
ends_lead a files names o e = ended a files names o e e.is

-- 6. The answers of calls

pub named_answer : {E : Type 0} (a : JobArgumentsView) (files : Files) (name : List ℕ) (input : Device) (r : ReadingView)
    (x : Result (Result TakenView Outcome) E) → IsOpened files name →
    input.before.bytes ≡ files.contents name → ReadsStream input (Ok r) → ((bytes : List ℕ) → IsRead bytes r → IfOk x (IsInput a bytes)) →
    IfOk x (IsNamedInput a files name)
named_answer a files name input r (Ok y) opened same read of = named_read a files name input r y opened same read of
named_answer a files name input r (Err e) opened same read of = tt

mapped_at : (names : List (Bor (List ℕ))) (k : ℕ) (d : Bor (List ℕ)) (e : List ℕ) → k < length names →
    (get_or names k d).now ≡ get_or (map (λ s. s.now) names) k e
mapped_at [] k d e within = absurd (let no : ⊥ = omega (arith, within) in no)
mapped_at (n ∷ ns) zero d e within = refl
mapped_at (n ∷ ns) (suc k) d e within = mapped_at ns k d e (let less : k < length ns = omega (arith, within) in less)

mapped_within : (names : List (Bor (List ℕ))) (k : ℕ) → k < length names → k < length (map (λ s. s.now) names)
mapped_within names k within = let size = length-map names (λ s. s.now) in omega (arith, size, within)

pub one_named : (a : JobArgumentsView) (files : Files) (names : List (Bor (List ℕ))) (k : ℕ) (d : Bor (List ℕ)) (x : Result TakenView Outcome)
    (taken next : List TakenView) (t : TakenView) → k < length names →
    AreTaken a files (take k (map (λ s. s.now) names)) taken → IsNamedInput a files (get_or names k d).now x → x ≡ Ok t → next ≡ taken ++ t ∷ [] →
    AreTaken a files (take (k + 1) (map (λ s. s.now) names)) next
one_named a files names k d x taken next t within before is same pushed =
    let name = (get_or names k d).now in
    one_more a files (map (λ s. s.now) names) k name taken next t (mapped_within names k within) (mapped_at names k d name within) before
    (subst (λ (y : Result TakenView Outcome). IsNamedInput a files name y) same is) pushed

pub ends_named : (a : JobArgumentsView) (files : Files) (names : List (Bor (List ℕ))) (k : ℕ) (d : Bor (List ℕ)) (x : Result TakenView Outcome)
    (taken : List TakenView) (alone o : Outcome) → k < length names →
    AreTaken a files (take k (map (λ s. s.now) names)) taken → IsNamedInput a files (get_or names k d).now x → x ≡ Err alone →
    o ≡ headed_outcome k (get_or names k d).now alone →
    EndsAt a files (map (λ s. s.now) names) o
ends_named a files names k d x taken alone o within before is same outcome_is =
    let name = (get_or names k d).now in
    ends_at a files (map (λ s. s.now) names) k name taken alone o (mapped_within names k within) (mapped_at names k d name within) before
    (subst (λ (y : Result TakenView Outcome). IsNamedInput a files name y) same is) outcome_is

few_mapped : (taken : List TakenView) → All (λ t. length t.input.streams ≤ 254) taken → All (λ m. length m.streams ≤ 254) (map (λ t. t.input) taken)
few_mapped [] all = All-nil (λ m. length m.streams ≤ 254)
few_mapped (t ∷ ts) all =
    All-cons (λ m. length m.streams ≤ 254) t.input (map (λ t. t.input) ts) (All-head (λ t. length t.input.streams ≤ 254) t ts all)
    (few_mapped ts (All-tail (λ t. length t.input.streams ≤ 254) t ts all))

pub few_inputs : (taken : List TakenView) (ms : List JobInputView) → ms ≡ map (λ t. t.input) taken → All (λ t. length t.input.streams ≤ 254) taken →
    All (λ m. length m.streams ≤ 254) ms
few_inputs taken ms same all = subst (λ (l : List JobInputView). All (λ m. length m.streams ≤ 254) l) (sym same) (few_mapped taken all)

joined_value : (r : Result JoinedInputsView JobRefusal) (j : JoinedInputsView) → Answers r (Ok j) → r ≡ Ok j
unfolding Answers
joined_value r j is = is

pub joined_is_taken : {E : Type 0} (a : JobArgumentsView) (names : List (List ℕ)) (taken : List TakenView) (ms : List JobInputView) (j : JoinedInputsView)
    (r : Result Outcome E) → ms ≡ map (λ t. t.input) taken →
    Answers (all_joined ms) (Ok j) → IfOk r (JoinedLeads a names taken (Ok j)) → IfOk r (TakenLead a names taken)
joined_is_taken a names taken ms j r same is lead =
    subst (λ (x : Result JoinedInputsView JobRefusal). IfOk r (JoinedLeads a names taken x))
    (sym (ap all_joined (sym same) ∙ joined_value (all_joined ms) j is)) lead

pub refused_is_taken : {E : Type 0} (a : JobArgumentsView) (names : List (List ℕ)) (taken : List TakenView) (ms : List JobInputView) (error : JobError)
    (r : Result Outcome E) → ms ≡ map (λ t. t.input) taken →
    Answers (all_joined ms) (Err error) → IfOk r (ReportsWhy error) → IfOk r (TakenLead a names taken)
unfolding Answers Refuses
refused_is_taken a names taken ms error (Err e) same is outcome_is = tt
refused_is_taken a names taken ms Memory (Ok o) same is outcome_is = absurd outcome_is
refused_is_taken a names taken ms (Refused refusal) (Ok o) same is outcome_is =
    subst (λ (x : Result JoinedInputsView JobRefusal). JoinedLeads a names taken x o) (sym (ap all_joined (sym same) ∙ is)) outcome_is

pub taken_of : (a : JobArgumentsView) (files : Files) (names : List (List ℕ)) (x : Result (List TakenView) Outcome) (taken : List TakenView) → x ≡ Ok taken →
    AreNamedInputs a files names x → AreTaken a files names taken
taken_of a files names x taken same are = subst (λ (y : Result (List TakenView) Outcome). AreNamedInputs a files names y) same are

pub ended_of : (a : JobArgumentsView) (files : Files) (names : List (List ℕ)) (x : Result (List TakenView) Outcome) (o : Outcome) → x ≡ Err o →
    AreNamedInputs a files names x → FilesLead a files names o
ended_of a files names x o same are = ends_lead a files names o (subst (λ (y : Result (List TakenView) Outcome). AreNamedInputs a files names y) same are)

pub files_answer : {E : Type 0} (a : JobArgumentsView) (files : Files) (names : List (List ℕ)) (taken : List TakenView) (r : Result Outcome E) →
    AreTaken a files names taken → IfOk r (TakenLead a names taken) →
    IfOk r (FilesLead a files names)
files_answer a files names taken (Ok o) are lead = taken_lead a files names taken o are lead
files_answer a files names taken (Err e) are lead = tt
