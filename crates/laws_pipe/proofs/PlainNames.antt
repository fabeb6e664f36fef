-- The names and the moment in a description contain no newline.
use Rattle.std.proofs.Common.{◌≡◌, ℕ, ◌+◌, ◌/◌, ◌%◌, ◌++◌, decimal, ◌<◌, length, get_or, sym, ap, ◌∙◌, ◌==◌, Bool, true, false, List, [], ◌∷◌, map, refl, subst}
use Rattle.std.proofs.Common.{arith, Option, Some, None, is_some, All, find, option_map, option_and_then, unwrap_or, codes, if◌then◌else◌}
use Rattle.std.specs.Option.{option_or}
use Rattle.std.specs.Char.{is_control}
use Rattle.std.specs.List.{list_all, onto_first, slice_split}
use Rattle.std.specs.Str.{NoCharPasses}
use Rattle.std.proofs.lemmas.Bool.{and_parts, cond_both, false≢true}
use Rattle.std.proofs.lemmas.List.Elements.{All-nil, All-cons, All-from_get_or, All-head, All-tail}
use Rattle.std.proofs.lemmas.List.Sums.{list_all-from_AllPass}
use Rattle.std.proofs.lemmas.Str.{NoCharPasses-byte}
use Rattle.clap.specs.Words.{Row, Text, first_of}
use Rattle.pid_findings.specs.Views.{FindingView}
use Rattle.dvb_tables.specs.TransportStreams.{TransportStreamView}
use Rattle.ts_services.specs.NetworkInformation.{FoundNetworkView}
use Rattle.ts_services.specs.Services.{FoundServiceView}
use Rattle.dvb_texts.specs.Texts.{characters, decode_text}
use Rattle.dvb_texts.proofs.FittingText.{fitting_printable}
use Rattle.job_text.specs.DescriptionParts.{NetworkPartView}
use Rattle.service_information.specs.CivilTimes.{civil_text, clock_text, date_text, day_of_month, month_of, two_digits, year_of}
use Rattle.service_information.specs.Events.{FoundEventView}
use Rattle.service_information.specs.StreamTime.{stream_time}
use Rattle.job_programs.specs.Events.{first_start, start_found, start_of as begin_of}
use Rattle.given_values.specs.GivenNames.{NetworkNameView, ServiceNameView}
use Rattle.job_programs.specs.GivenNames.{name_given}
use Rattle.job_programs.specs.JobOptions.{JobOptionsView}
use Rattle.job_programs.specs.Information.{NamedServiceView, named_service, network_of, network_or, network_with as network_part_with, renamed, service_by, service_with}
use Rattle.word_faults.specs.GivenOptions.{given_options}
use Rattle.tsjob_cli.specs.FileMark.{has_mark}
use Rattle.job_run.specs.JobArguments.{JobArgumentsView}
use Rattle.tsjob_cli.specs.Arguments.{aligned_in, arguments_in, arguments_of, lead_in, limit_in, options_in, programs_in, rate_in, stream_of, values_of, frames_in}
use Rattle.tsjob_cli.specs.Arguments.{without_in}
use Rattle.tsjob_cli.specs.Options.{options}
use Rattle.tsjob_cli.specs.Subcommands.{subcommand_of}
use Rattle.description_values.specs.Moments.{moment_of}
use Rattle.word_faults.specs.JobValues.{base_of, clock_sharing_of, declare_by_of, is_moment, is_of_time, start_of}
use Rattle.word_faults.specs.Lists.{all_of, buffer_list, colon_parts, number_in}
use Rattle.word_faults.specs.NameLists.{are_printable, is_printable, name_list, name_of, network_if_given, network_in, network_of as network_named}
use Rattle.word_faults.specs.NameLists.{network_with}
use Rattle.laws_pipe.proofs.PlainTexts.{decimal_flat}
use Rattle.laws_pipe.proofs.PlainLines.{flat_both, flat_if, flat_more, inside_ne, is_flat, is_inside}

-- 1. Values that are present

same_value : {A : Type 0} (x y : A) → ◌≡◌ {A = Option A} (Some x) (Some y) → x ≡ y
same_value x y e = cc

given_some : {A B : Type 0} (value : Option A) (f : A → Option B) (b : B) → option_and_then f value ≡ Some b → (x : A) × ((value ≡ Some x) × (f x ≡ Some b))
given_some None f b e = absurd cc
given_some (Some x) f b e = (x, (refl, e))

map_some : {A B : Type 0} (f : A → B) (value : Option A) (b : B) → option_map f value ≡ Some b → (x : A) × ((value ≡ Some x) × (f x ≡ b))
map_some f None b e = absurd cc
map_some f (Some x) b e = (x, (refl, same_value (f x) b e))

if_some : {A : Type 0} (b : Bool) (value : Option A) (x : A) → (if b then value else None) ≡ Some x → (b ≡ true) × (value ≡ Some x)
if_some true value x e = (refl, e)
if_some false value x e = absurd cc

pub else_some : {A : Type 0} (b : Bool) (value : Option A) (x : A) → (if b then None else value) ≡ Some x → value ≡ Some x
else_some true value x e = absurd cc
else_some false value x e = e

-- 2. Names from options

abbrev pub PlainIfAny : Option Text → Type 0
PlainIfAny None = Unit {0}
PlainIfAny (Some t) = is_flat t ≡ true

abbrev pub PlainName : ServiceNameView → Type 0
PlainName n = (is_flat n.name ≡ true) × PlainIfAny n.provider

abbrev pub PlainNetwork : Option NetworkNameView → Type 0
PlainNetwork None = Unit {0}
PlainNetwork (Some n) = is_flat n.name ≡ true

pub record PlainOptions (w : JobOptionsView) : Type 0 where
  pub start : PlainIfAny w.start
  pub network : PlainNetwork w.network
  pub names : All PlainName w.names

-- The parts of a text contain no newline.
abbrev AllPlain : List Text → Type 0
AllPlain [] = Unit {0}
AllPlain (t ∷ ts) = (is_flat t ≡ true) × AllPlain ts

onto_plain : (x : ℕ) (parts : List Text) → is_inside x ≡ true → AllPlain parts → AllPlain (onto_first x parts)
onto_plain x [] e h = (flat_more x [] e refl, tt)
onto_plain x (t ∷ ts) e h = (flat_more x t e h.0, h.1)

parts_plain : (p : ℕ → Bool) (text : Text) → is_flat text ≡ true → AllPlain (slice_split p text)
parts_plain p [] e = (refl, tt)
parts_plain p (x ∷ text) e =
    let each = and_parts (is_inside x) (is_flat text) e in
    let more = parts_plain p text each.1 in
    cond_both (p x) ([] ∷ slice_split p text) (onto_first x (slice_split p text)) AllPlain (λ _. (refl, more))
    (λ _. onto_plain x (slice_split p text) each.0 more)

printable_flat : (text : Text) → are_printable text ≡ true → is_flat text ≡ true
printable_flat text e = flat_if is_printable text refl e

name_plain : (parts : List Text) (n : ServiceNameView) → AllPlain parts → name_of parts ≡ Some n → PlainName n
unfolding name_of
name_plain [] n h e = absurd cc
name_plain (number ∷ []) n h e = absurd cc
name_plain (number ∷ name ∷ []) n h e = subst PlainName (map_some _ (number_in 1 65535 number) n e).1.1 (h.1.0, tt)
name_plain (number ∷ name ∷ provider ∷ []) n h e = subst PlainName (map_some _ (number_in 1 65535 number) n e).1.1 (h.1.0, h.1.1.0)
name_plain (number ∷ name ∷ provider ∷ more ∷ parts) n h e = absurd cc

first_plain : (parts : List Text) (o : Option ServiceNameView) (rest : List (Option ServiceNameView)) (ns : List ServiceNameView) → AllPlain parts →
    name_of parts ≡ o →
    ((more : List ServiceNameView) → all_of rest ≡ Some more → All PlainName more) → all_of (o ∷ rest) ≡ Some ns → All PlainName ns
unfolding all_of
first_plain parts None rest ns h is more e = absurd cc
first_plain parts (Some n) rest ns h is more e =
    let all = map_some (λ xs. n ∷ xs) (all_of rest) ns e in
    subst (All PlainName) all.1.1 (All-cons PlainName n all.0 (name_plain parts n h is) (more all.0 all.1.0))

names_plain : (texts : List Text) (ns : List ServiceNameView) → AllPlain texts → all_of (map (λ text. name_of (colon_parts text)) texts) ≡ Some ns →
    All PlainName ns
unfolding all_of
names_plain [] ns h e = subst (All PlainName) (same_value [] ns e) (All-nil PlainName)
names_plain (t ∷ ts) ns h e =
    first_plain (colon_parts t) (name_of (colon_parts t)) (map (λ text. name_of (colon_parts text)) ts) ns (parts_plain (λ b. b == 58) t h.0) refl
    (λ more is. names_plain ts more h.1 is) e

list_plain : (o : Option Text) (ns : List ServiceNameView) → name_list o ≡ Some ns → All PlainName ns
unfolding name_list
list_plain None ns e = subst (All PlainName) (same_value [] ns e) (All-nil PlainName)
list_plain (Some text) ns e =
    let printed = if_some (are_printable text) _ ns e in
    names_plain (slice_split (λ b. b == 44) text) ns (parts_plain (λ b. b == 44) text (printable_flat text printed.0)) printed.1

with_plain : (id name : Text) (original : Option Text) (n : NetworkNameView) → is_flat name ≡ true → network_with id name original ≡ Some n →
    PlainNetwork (Some n)
unfolding network_with
with_plain id name None n h e = subst (λ x. PlainNetwork (Some x)) (map_some _ (number_in 0 65535 id) n e).1.1 h
with_plain id name (Some original) n h e =
    let both = given_some (number_in 0 65535 id) _ n e in
    subst (λ x. PlainNetwork (Some x)) (map_some _ (number_in 0 65535 original) n both.1.1).1.1 h

named_plain : (parts : List Text) (n : NetworkNameView) → AllPlain parts → network_named parts ≡ Some n → PlainNetwork (Some n)
unfolding network_named
named_plain [] n h e = absurd cc
named_plain (id ∷ []) n h e = absurd cc
named_plain (id ∷ name ∷ []) n h e = with_plain id name None n h.1.0 e
named_plain (id ∷ name ∷ original ∷ []) n h e = with_plain id name (Some original) n h.1.0 e
named_plain (id ∷ name ∷ original ∷ more ∷ parts) n h e = absurd cc

network_plain : (o : Option Text) (n : Option NetworkNameView) → network_if_given o ≡ Some n → PlainNetwork n
unfolding network_if_given network_in
network_plain None n e = subst PlainNetwork (same_value None n e) tt
network_plain (Some text) n e =
    let one = map_some Some (network_in text) n e in
    let printed = if_some (are_printable text) _ one.0 one.1.0 in
    subst PlainNetwork one.1.1 (named_plain (colon_parts text) one.0 (parts_plain (λ b. b == 58) text (printable_flat text printed.0)) printed.1)

-- 3. The moment, and all options

start_plain : (o start : Option Text) → start_of o ≡ Some start → PlainIfAny start
unfolding start_of
start_plain None start e = subst PlainIfAny (same_value None start e) tt
start_plain (Some text) start e =
    let timed = if_some (is_moment text) (Some (Some text)) start e in
    let written = and_parts (list_all is_of_time text) (is_some (moment_of text)) timed.0 in
    subst PlainIfAny (same_value (Some text) start timed.1) (flat_if is_of_time text refl written.0)

values_plain : (rows : List Row) (v : JobArgumentsView) → values_of rows ≡ Some v → PlainIfAny v.options.start
unfolding values_of
values_plain rows v e =
    let subcommand = given_some (subcommand_of (first_of (codes "subcommand") rows)) _ v e in
    let stream = given_some (stream_of subcommand.0 (first_of (codes "stream") rows)) _ v subcommand.1.1 in
    let rate = given_some (rate_in rows) _ v stream.1.1 in
    let start = given_some (start_of (first_of (codes "start") rows)) _ v rate.1.1 in
    let pcr_limit = given_some (limit_in rows) _ v start.1.1 in
    let lead = given_some (lead_in rows) _ v pcr_limit.1.1 in
    let frames = given_some (frames_in rows) _ v lead.1.1 in
    let declare_by = given_some (declare_by_of (first_of (codes "declare") rows)) _ v frames.1.1 in
    let clock = given_some (clock_sharing_of (first_of (codes "clock") rows)) _ v declare_by.1.1 in
    let base = given_some (base_of (first_of (codes "base") rows)) _ v clock.1.1 in
    subst (λ (x : JobArgumentsView). PlainIfAny x.options.start) (same_value _ v base.1.1) (start_plain (first_of (codes "start") rows) start.0 start.1.0)

rows_plain : (rows : List Row) (a : JobArgumentsView) → arguments_of rows ≡ Some a → PlainOptions a.options
unfolding arguments_of
rows_plain rows a e =
    let values = given_some (values_of rows) _ a e in
    let programs = given_some (programs_in rows) _ a values.1.1 in
    let without = given_some (without_in rows) _ a programs.1.1 in
    let buffers = given_some (buffer_list (first_of (codes "buffers") rows)) _ a without.1.1 in
    let network = given_some (network_if_given (first_of (codes "network") rows)) _ a buffers.1.1 in
    let names = given_some (name_list (first_of (codes "name") rows)) _ a network.1.1 in
    let aligned = given_some (aligned_in rows) _ a names.1.1 in
    subst (λ (x : JobArgumentsView). PlainOptions x.options) (same_value _ a aligned.1.1)
    (record {
      start = values_plain rows values.0 values.1.0;
      network = network_plain (first_of (codes "network") rows) network.0 network.1.0;
      names = list_plain (first_of (codes "name") rows) names.0 names.1.0;
    })

-- The names and the moment from the words contain no newline.
pub options_plain : (words : List Text) (a : JobArgumentsView) → arguments_in words ≡ Some a → PlainOptions a.options
options_plain words a e =
    let read = given_some (given_options (codes "tsjob") options words) arguments_of a (else_some (has_mark words) (options_in words) a e) in
    rows_plain read.0 a read.1.1

-- 4. Names from a stream

shown_flat : (text : List ℕ) → NoCharPasses is_control text → is_flat text ≡ true
shown_flat text shown = list_all-from_AllPass is_inside text (All-from_get_or (λ b. is_inside b ≡ true) text 0 inside)
  where
    inside : (i : ℕ) → i < length text → is_inside (get_or text i 0) ≡ true
    inside i lt =
        inside_ne (get_or text i 0)
        (λ e. false≢true (sym (NoCharPasses-byte is_control text i shown lt (omega (arith, e))) ∙ ap is_control e))

pub decoded_flat : (most : ℕ) (bytes : List ℕ) → is_flat (decode_text most bytes) ≡ true
unfolding decode_text
decoded_flat most bytes = shown_flat (decode_text most bytes) (fitting_printable most (characters bytes))

-- A moment consists of digits and separators.
two_flat : (n : ℕ) → is_flat (two_digits n) ≡ true
unfolding two_digits
two_flat n = flat_both (decimal (n / 10)) (decimal (n % 10)) (decimal_flat (n / 10)) (decimal_flat (n % 10))

three_flat : (a b c sign : List ℕ) → is_flat a ≡ true → is_flat b ≡ true → is_flat c ≡ true → is_flat sign ≡ true →
    is_flat (a ++ (sign ++ (b ++ (sign ++ c)))) ≡ true
three_flat a b c sign p q r s =
    flat_both a (sign ++ (b ++ (sign ++ c))) p (flat_both sign (b ++ (sign ++ c)) s (flat_both b (sign ++ c) q (flat_both sign c s r)))

date_flat : (day : ℕ) → is_flat (date_text day) ≡ true
unfolding date_text
date_flat day =
    three_flat (decimal (year_of day)) (two_digits (month_of day)) (two_digits (day_of_month day)) (codes "-") (decimal_flat (year_of day))
    (two_flat (month_of day)) (two_flat (day_of_month day)) refl

clock_flat : (seconds : ℕ) → is_flat (clock_text seconds) ≡ true
unfolding clock_text
clock_flat seconds =
    three_flat (two_digits (seconds / 3600)) (two_digits (seconds / 60 % 60)) (two_digits (seconds % 60)) (codes ":") (two_flat (seconds / 3600))
    (two_flat (seconds / 60 % 60))
    (two_flat (seconds % 60)) refl

pub moment_flat : (moment : ℕ) → is_flat (civil_text moment) ≡ true
unfolding civil_text
moment_flat moment =
    flat_both (date_text (moment / 86400 + 40587)) (codes "T" ++ clock_text (moment % 86400)) (date_flat (moment / 86400 + 40587))
    (flat_both (codes "T") (clock_text (moment % 86400)) refl (clock_flat (moment % 86400)))

found_start : (o : Option ℕ) → is_flat (start_found o) ≡ true
unfolding start_found
found_start None = refl
found_start (Some moment) = moment_flat moment

pub begin_flat : (given : Option Text) (events : List FoundEventView) (findings : List FindingView) → PlainIfAny given →
    is_flat (begin_of given events findings) ≡ true
unfolding begin_of
begin_flat None events findings h = found_start (option_or (stream_time findings) (first_start events))
begin_flat (Some text) events findings h = h

-- 5. The names of a description

pub record PlainService (s : NamedServiceView) : Type 0 where
  pub name : is_flat s.name ≡ true
  pub provider : is_flat s.provider ≡ true

found_service : (o : Option FoundServiceView) → PlainService (named_service o)
unfolding named_service service_by
found_service None = record { name = refl; provider = refl }
found_service (Some s) = record { name = decoded_flat 100 s.name; provider = decoded_flat 100 s.provider }

or_flat : (o : Option Text) (t : Text) → PlainIfAny o → is_flat t ≡ true → is_flat (unwrap_or o t) ≡ true
or_flat None t h e = e
or_flat (Some x) t h e = h

abbrev PlainGiven : Option ServiceNameView → Type 0
PlainGiven None = Unit {0}
PlainGiven (Some n) = PlainName n

found_name : (p : ServiceNameView → Bool) (ns : List ServiceNameView) → All PlainName ns → PlainGiven (find p ns)
found_name p [] h = tt
found_name p (n ∷ ns) h =
    cond_both (p n) (Some n) (find p ns) PlainGiven (λ _. All-head PlainName n ns h) (λ _. found_name p ns (All-tail PlainName n ns h))

with_name : (o : Option ServiceNameView) (s : NamedServiceView) → PlainGiven o → PlainService s → PlainService (service_with o s)
unfolding service_with renamed
with_name None s h plain = plain
with_name (Some n) s h plain = record { name = h.0; provider = or_flat n.provider s.provider h.1 plain.provider }

pub service_plain : (ns : List ServiceNameView) (number : ℕ) (o : Option FoundServiceView) → All PlainName ns →
    PlainService (service_with (name_given number ns) (named_service o))
unfolding name_given
service_plain ns number o h = with_name (find (λ n. n.program == number) ns) (named_service o) (found_name (λ n. n.program == number) ns h) (found_service o)

abbrev pub PlainPart : Option NetworkPartView → Type 0
PlainPart None = Unit {0}
PlainPart (Some n) = is_flat n.name ≡ true

pub part_plain : (given : Option NetworkNameView) (found : Option FoundNetworkView) (others : List TransportStreamView) → PlainNetwork given →
    PlainPart (network_or given found others)
unfolding network_or network_part_with network_of
part_plain None None others h = tt
part_plain None (Some n) others h = decoded_flat 200 n.name
part_plain (Some n) found others h = h
