-- Files that the caller names: their bytes in order, and the reports about them.
use Rattle.std.proofs.Common.{◌≡◌, ◌∙◌, ◌<◌, ◌≤◌, ◌+◌, ℕ, Option, Some, true, false, Bool, Err, zero, suc, List, [], ◌∷◌, ◌++◌, length, map, take, drop, get_or}
use Rattle.std.proofs.Common.{refl, sym, ap, subst, inl, inr, add-one, append_assoc, append-nil, arith}
use Rattle.std.specs.Borrow.{Bor}
use Rattle.std.proofs.Math.Seq.{drop-cons}
use Rattle.std.proofs.lemmas.List.{length-map, take-append-drop, take_all, take_more}
use Rattle.devices.specs.Devices.{Device, HasFailed, IsClean, Port, Takes, between}
use Rattle.devices.specs.Files.{Files, IsAsKnown, IsOpened, IsUnopened}
use Rattle.devices.specs.Lines.{Reports, Stopped, ReportsAll}
use Rattle.devices.specs.WholeInput.{IsWhole, ReadsInput}
use Rattle.devices.specs.declared.halt.Halt.{Halt}
use Rattle.devices.specs.declared.halt.Halt.TheVariants as halt
use Rattle.devices.proofs.NamedReaders.{is_unread}
use Rattle.tsjob_cli.specs.ReadFiles.{HasBytes, HaveBytes, StopsAt, StopsAtOne, ReportsUnreadFile}
use Rattle.devices.specs.Saving.{ReportsText}
use Rattle.tsjob_cli.specs.Reports.{unopened_text}

abbrev pub port : Option (List ℕ) → ℕ → Port
port bytes failed = record { bytes = bytes; failed = failed }

has_more : (files : Files) (names : List (List ℕ)) (bytes name part : List ℕ) → HaveBytes files names bytes → HasBytes files name part →
    HaveBytes files (names ++ name ∷ []) (bytes ++ part)
unfolding HaveBytes
has_more files [] bytes name part all one = (part, ([], (one, (refl, ap (λ (xs : List ℕ). xs ++ part) all ∙ sym (append-nil part)))))
has_more files (n ∷ ns) bytes name part all one =
    let later = has_more files ns all.1.0 name part all.1.1.1.0 one in
    (all.0, (all.1.0 ++ part, (all.1.1.0, (later, ap (λ (xs : List ℕ). xs ++ part) all.1.1.1.1 ∙ append_assoc all.0 all.1.0 part))))

mapped_at : (words : List (Bor (List ℕ))) (k : ℕ) (d : Bor (List ℕ)) (e : List ℕ) → k < length words →
    (get_or words k d).now ≡ get_or (map (λ s. s.now) words) k e
mapped_at [] k d e within = absurd (let no : ⊥ = omega (arith, within) in no)
mapped_at (w ∷ ws) zero d e within = refl
mapped_at (w ∷ ws) (suc k) d e within = mapped_at ws k d e (let less : k < length ws = omega (arith, within) in less)

names_inside : (words : List (Bor (List ℕ))) (k : ℕ) → k < length words → k < length (map (λ s. s.now) words)
names_inside words k within = let size = length-map words (λ s. s.now) in omega (arith, size, within)

pub read_more : (files : Files) (words : List (Bor (List ℕ))) (k : ℕ) (d : Bor (List ℕ)) (bytes next part : List ℕ) → k < length words →
    HaveBytes files (take k (map (λ s. s.now) words)) bytes → HasBytes files (get_or words k d).now part → next ≡ bytes ++ part →
    HaveBytes files (take (k + 1) (map (λ s. s.now) words)) next
read_more files words k d bytes next part within all one grown =
    let names = map (λ s. s.now) words in
    let name = (get_or words k d).now in
    let at : name ≡ get_or names k name = mapped_at words k d name within in
    let longer : take k names ++ name ∷ [] ≡ take (k + 1) names = ap (λ (n : List ℕ). take k names ++ n ∷ []) at
    ∙ sym (take_more names k name (names_inside words k within)) in
    subst (λ (xs : List ℕ). HaveBytes files (take (k + 1) names) xs) (sym grown)
    (subst (λ (ns : List (List ℕ)). HaveBytes files ns (bytes ++ part)) longer (has_more files (take k names) bytes name part all one))

pub all_read : (files : Files) (words : List (Bor (List ℕ))) (k : ℕ) (bytes : List ℕ) → length words ≤ k →
    HaveBytes files (take k (map (λ s. s.now) words)) bytes →
    HaveBytes files (map (λ s. s.now) words) bytes
all_read files words k bytes over all =
    let names = map (λ s. s.now) words in
    let size = length-map words (λ s. s.now) in
    let past : length names ≤ k = omega (arith, size, over) in
    subst (λ (ns : List (List ℕ)). HaveBytes files ns bytes) (take_all k names past) all

pub stops_at_one : (files : Files) (words : List (Bor (List ℕ))) (k : ℕ) (d : Bor (List ℕ)) (bytes : List ℕ) (faults : Device) (status : ℕ) → k < length words →
    HaveBytes files (take k (map (λ s. s.now) words)) bytes → StopsAt files (get_or words k d).now faults → status ≡ 3 → StopsAtOne files (map (λ s. s.now) words) faults status
stops_at_one files words k d bytes faults status within read stops is =
    let names = map (λ s. s.now) words in
    let name = (get_or words k d).now in
    let at : name ≡ get_or names k name = mapped_at words k d name within in
    let here : drop k names ≡ name ∷ drop (k + 1) names = rw (drop-cons names k name (names_inside words k within), add-one k, sym at) refl in
    record {
      before = take k names;
      name = name;
      after = drop (k + 1) names;
      is = sym (take-append-drop k names) ∙ ap (λ (ns : List (List ℕ)). take k names ++ ns) here;
      bytes = bytes;
      read = read;
      stops = stops;
      status_is = is;
    }

pub no_bytes : (files : Files) (bytes : List ℕ) → bytes ≡ [] → HaveBytes files [] bytes
unfolding HaveBytes
no_bytes files bytes is = is

-- The second writer was not used before

pub stops_later : (files : Files) (name : List ℕ) (before later after : Port) → later ≡ before → StopsAt files name (between later after) →
    StopsAt files name (between before after)
stops_later files name before later after same stops = subst (λ (p : Port). StopsAt files name (between p after)) same stops

-- A file that cannot be read

pub stops_unopened : (files : Files) (name : List ℕ) (faults : Device) → IsUnopened files name → ReportsText name unopened_text faults →
    StopsAt files name faults
stops_unopened files name faults is reports_text = inl (is, reports_text)

pub stops_unread : (files : Files) (name : List ℕ) (input faults : Device) (why : Halt) → IsOpened files name → input.before.bytes ≡ files.contents name →
    (files.never_fails ≡ true → HasFailed input → ⊥) → ReadsInput input (Err why) → ReportsUnreadFile name why faults → StopsAt files name faults
stops_unread files name input faults halt.Read opened same never read reports_text = inr (inl (is_unread files name input opened same never read, reports_text))
stops_unread files name input faults halt.Write opened same never read reports_text = absurd read
stops_unread files name input faults halt.Memory opened same never read reports_text = inr (inr reports_text)

pub reports_unread : (name : List ℕ) (why known : Halt) (faults : Device) → why ≡ known → ReportsUnreadFile name known faults →
    ReportsUnreadFile name why faults
reports_unread name why known faults is reports_text = subst (λ (h : Halt). ReportsUnreadFile name h faults) (sym is) reports_text

-- A file that was read

pub has_bytes : (files : Files) (name bytes : List ℕ) (input : Device) → IsOpened files name → input.before.bytes ≡ files.contents name →
    IsWhole input.before.bytes bytes → HasBytes files name bytes
has_bytes files name bytes input opened same whole = (opened, subst (λ (k : Option (List ℕ)). IsWhole k bytes) same whole)
