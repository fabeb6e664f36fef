-- The names of files after `--`.
use Rattle.std.proofs.Common.{◌≡◌, ◌∙◌, ◌+◌, ℕ, true, false, List, [], ◌∷◌, length, drop, refl, sym, ap, subst, Option, Some, None, inr}
use Rattle.std.proofs.Common.{◌<◌, zero, suc, get_or, map, add-one, arith}
use Rattle.std.specs.Borrow.{Bor}
use Rattle.std.specs.List.{position_or_len}
use Rattle.std.proofs.Math.Seq.{drop-cons}
use Rattle.std.proofs.lemmas.List.{length-map}
use Rattle.clap.specs.Words.{Text}
use Rattle.devices.specs.Devices.{Device, IsUntouched}
use Rattle.devices.specs.Files.{Files}
use Rattle.devices.specs.Lines.{Reports}
use Rattle.devices.specs.Outcomes.{halt_line}
use Rattle.devices.specs.declared.halt.Halt.TheVariants as halt
use Rattle.job_run.specs.JobArguments.{JobArgumentsView}
use Rattle.job_run.specs.StreamFiles.{PerformsFiles}
use Rattle.tsjob_cli.specs.FileMark.{is_mark}
use Rattle.tsjob_cli.specs.NamedInputs.{ReadsFiles}

pub files_asked : (x : Option JobArgumentsView) (a b : JobArgumentsView) (files : Files) (names shown : List Text) (input output faults : Device) (status : ℕ) →
    Some a ≡ x → x ≡ Some b → shown ≡ names →
    IsUntouched input → PerformsFiles a files shown output faults status → ReadsFiles b files names input output faults status
files_asked x a b files names shown input output faults status e f same unread performs =
    let both : Some a ≡ Some b = e ∙ f in
    let one : a ≡ b = cc in
    record {
      unread = unread;
      performs = subst (λ (v : JobArgumentsView). PerformsFiles v files names output faults status) one
          (subst (λ (l : List Text). PerformsFiles a files l output faults status) same performs);
    }

pub no_memory_for_files : (a : JobArgumentsView) (files : Files) (names : List Text) (input output faults : Device) (status : ℕ) → IsUntouched input →
    IsUntouched output →
    Reports faults (halt_line halt.Memory) → status ≡ 3 → ReadsFiles a files names input output faults status
no_memory_for_files a files names input output faults status i o r s =
    record { unread = i; performs = inr (record { unwritten = o; reports = r; status_is = s }) }

pub some_and_none : {A : Type 0} (x : Option A) (a : A) → x ≡ Some a → x ≡ None → ⊥
some_and_none x a is none = let both : None ≡ Some a = sym none ∙ is in absurd cc

-- The number of words before the mark

first_marked : (w : Text) (ws : List Text) → is_mark w ≡ true → position_or_len is_mark (w ∷ ws) ≡ 0
first_marked w ws mark = rw mark refl

first_other : (w : Text) (ws : List Text) → is_mark w ≡ false → position_or_len is_mark (w ∷ ws) ≡ 1 + position_or_len is_mark ws
first_other w ws other = rw other refl

mapped_at : (words : List (Bor (List ℕ))) (k : ℕ) (d : Bor (List ℕ)) (e : List ℕ) → k < length words →
    (get_or words k d).now ≡ get_or (map (λ s. s.now) words) k e
mapped_at [] k d e within = absurd (let no : ⊥ = omega (arith, within) in no)
mapped_at (w ∷ ws) zero d e within = refl
mapped_at (w ∷ ws) (suc k) d e within = mapped_at ws k d e (let less : k < length ws = omega (arith, within) in less)

from_here : (names : List Text) (k : ℕ) (name : Text) → k < length names → name ≡ get_or names k name → drop k names ≡ name ∷ drop (k + 1) names
from_here names k name within at = rw (drop-cons names k name within, add-one k, sym at) refl

word_here : (words : List (Bor (List ℕ))) (k : ℕ) (d : Bor (List ℕ)) → k < length words →
    drop k (map (λ s. s.now) words) ≡ (get_or words k d).now ∷ drop (k + 1) (map (λ s. s.now) words)
word_here words k d within =
    let size = length-map words (λ s. s.now) in
    let inside : k < length (map (λ s. s.now) words) = omega (arith, size, within) in
    let name = (get_or words k d).now in
    from_here (map (λ s. s.now) words) k name inside (mapped_at words k d name within)

pub mark_found : (words : List (Bor (List ℕ))) (k : ℕ) (d : Bor (List ℕ)) → k < length words → is_mark (get_or words k d).now ≡ true →
    position_or_len is_mark (map (λ s. s.now) words) ≡ k + position_or_len is_mark (drop k (map (λ s. s.now) words)) →
    k ≡ position_or_len is_mark (map (λ s. s.now) words)
mark_found words k d within mark so =
    let names = map (λ s. s.now) words in
    let here : position_or_len is_mark (drop k names) ≡ 0 =
    ap (λ (l : List Text). position_or_len is_mark l) (word_here words k d within) ∙ first_marked (get_or words k d).now (drop (k + 1) names) mark in
    omega (arith, so, here)

pub mark_later : (words : List (Bor (List ℕ))) (k : ℕ) (d : Bor (List ℕ)) → k < length words → is_mark (get_or words k d).now ≡ false →
    position_or_len is_mark (map (λ s. s.now) words) ≡ k + position_or_len is_mark (drop k (map (λ s. s.now) words)) →
    position_or_len is_mark (map (λ s. s.now) words) ≡ (k + 1) + position_or_len is_mark (drop (k + 1) (map (λ s. s.now) words))
mark_later words k d within other so =
    let names = map (λ s. s.now) words in
    let here : position_or_len is_mark (drop k names) ≡ 1 + position_or_len is_mark (drop (k + 1) names) =
    ap (λ (l : List Text). position_or_len is_mark l) (word_here words k d within) ∙ first_other (get_or words k d).now (drop (k + 1) names) other in
    omega (arith, so, here)
