-- Tables of strings, numbers, truth values and flat arrays, as lines
use Rattle.std.proofs.Common.{◌≡◌, ℕ, ◌≤◌, Bool, true, false, if◌then◌else◌, List, [], ◌++◌, codes, refl, arith}
use Rattle.std.specs.Prelude.{bytes_eq}
use Rattle.std.proofs.lemmas.Bool.{cond_both}
use Rattle.std.specs.Int.{w64}
use Rattle.std.specs.Prelude.{FitsSigned}
use Rattle.toml_writer.specs.Text.{key_text}
use Rattle.toml.specs.Data.{Data, string, integer, float, boolean, datetime, array, table, Members, no_members, member, depth, has_valid_dates}
use Rattle.toml.specs.Tables.{key_value}
use Rattle.toml.specs.Text.{IsValueText, pairs, sections, is_section}
use Rattle.toml.proofs.ReadLines.{IsPrinted}
use Rattle.job_text.specs.KeyLines.{value_text, key_line, noted_line}
use Rattle.job_text.specs.Notes.{note_of}
use Rattle.job_text.proofs.Comments.{IsCommented, IsTail, AreCommented}
use Rattle.job_text.proofs.NoteLines.{note_tail}
use Rattle.job_text.proofs.FlatArrays.{AreFlat, array_is_text, array_is_no_section, no_array_section, array_low, array_dated}

-- The value fits on one line.
abbrev pub IsScalar : Data → Type 0
IsScalar (string s) = Unit {0}
IsScalar (integer z) = FitsSigned w64 z
IsScalar (boolean b) = Unit {0}
IsScalar (array ds) = AreFlat ds
IsScalar _ = ⊥

-- Each value of a table is a scalar, at a key that needs no quotes.
abbrev pub AreScalars : Members → Type 0
AreScalars no_members = Unit {0}
AreScalars (member k d ms) = (key_text k ≡ k) × IsScalar d × AreScalars ms

-- The lines of a table of scalars
abbrev pub scalar_lines : Members → List ℕ
scalar_lines no_members = []
scalar_lines (member k d ms) = key_line k d ++ scalar_lines ms

value_is_text : (d : Data) → IsScalar d → IsValueText false d (value_text d)
value_is_text (string s) h = refl
value_is_text (integer z) h = (refl, h)
value_is_text (boolean b) h = refl
value_is_text (float x) h = absurd h
value_is_text (datetime x) h = absurd h
value_is_text (array x) h = array_is_text x h
value_is_text (table x) h = absurd h

pub is_no_section : (d : Data) → IsScalar d → is_section d ≡ false
is_no_section (string s) h = refl
is_no_section (integer z) h = refl
is_no_section (boolean b) h = refl
is_no_section (float x) h = absurd h
is_no_section (datetime x) h = absurd h
is_no_section (array x) h = array_is_no_section x h
is_no_section (table x) h = absurd h

-- What the reader asks of a scalar
low : (d : Data) → IsScalar d → depth d ≤ 1
low (string s) h = omega arith
low (integer z) h = omega arith
low (boolean b) h = omega arith
low (float x) h = absurd h
low (datetime x) h = absurd h
low (array x) h = array_low x h
low (table x) h = absurd h

dated : (d : Data) → IsScalar d → has_valid_dates d ≡ true
dated (string s) h = refl
dated (integer z) h = refl
dated (boolean b) h = refl
dated (float x) h = absurd h
dated (datetime x) h = absurd h
dated (array x) h = array_dated x h
dated (table x) h = absurd h

-- The line of a scalar is a line of TOML, with its note.
line_is_text : (started : Bool) (k : List ℕ) (d : Data) → key_text k ≡ k → IsScalar d → IsCommented started ([], k) (key_value d) (key_line k d)
unfolding key_line
line_is_text started k d bare h = (value_text d, note_of k d ++ codes "\n", rw bare refl, value_is_text d h, note_tail k d)

-- The line of a scalar with a tail after it
noted_is_text : (started : Bool) (k : List ℕ) (d : Data) (note : List ℕ) → IsTail (note ++ codes "\n") → key_text k ≡ k → IsScalar d
    → IsCommented started ([], k) (key_value d) (noted_line k d note)
unfolding noted_line
noted_is_text started k d note tail bare h = (value_text d, note ++ codes "\n", rw bare refl, value_is_text d h, tail)

-- The lines of a table whose key `at` has this note
abbrev pub line_at : List ℕ → List ℕ → List ℕ → Data → List ℕ
line_at at note k d = if bytes_eq k at then noted_line k d note else key_line k d

abbrev pub noted_lines : List ℕ → List ℕ → Members → List ℕ
noted_lines at note no_members = []
noted_lines at note (member k d ms) = line_at at note k d ++ noted_lines at note ms

at_is_text : (started : Bool) (at note k : List ℕ) (d : Data) → IsTail (note ++ codes "\n") → key_text k ≡ k → IsScalar d
    → IsCommented started ([], k) (key_value d) (line_at at note k d)
at_is_text started at note k d tail bare h =
    cond_both (bytes_eq k at) (noted_line k d note) (key_line k d) (λ text. IsCommented started ([], k) (key_value d) text)
    (λ _. noted_is_text started k d note tail bare h) (λ _. line_is_text started k d bare h)

line_is_printed : (k : List ℕ) (d : Data) → IsScalar d → IsPrinted ([], k) (key_value d)
line_is_printed k d h = let within = low d h in (refl, omega (arith, within), dated d h)

pub lines_are_text : (started : Bool) (ms : Members) → AreScalars ms → AreCommented started (pairs ms) (scalar_lines ms)
lines_are_text started no_members h = refl
lines_are_text started (member k d ms) h =
    rw (is_no_section d h.1)
    (key_line k d, scalar_lines ms, refl, line_is_text started k d h.0 h.1, line_is_printed k d h.1, lines_are_text true ms h.2)

pub noted_are_text : (started : Bool) (at note : List ℕ) (ms : Members) → IsTail (note ++ codes "\n") → AreScalars ms
    → AreCommented started (pairs ms) (noted_lines at note ms)
noted_are_text started at note no_members tail h = refl
noted_are_text started at note (member k d ms) tail h =
    rw (is_no_section d h.1) (
      line_at at note k d,
      noted_lines at note ms,
      refl,
      at_is_text started at note k d tail h.0 h.1,
      line_is_printed k d h.1,
      noted_are_text true at note ms tail h.2,
    )

-- A table of scalars has no tables in it.
pub no_sections : (path : List (List ℕ)) (ms : Members) → AreScalars ms → sections path ms ≡ []
no_sections path no_members h = refl
no_sections path (member k (string s) ms) h = no_sections path ms h.2
no_sections path (member k (integer z) ms) h = no_sections path ms h.2
no_sections path (member k (boolean b) ms) h = no_sections path ms h.2
no_sections path (member k (float x) ms) h = absurd h.1
no_sections path (member k (datetime x) ms) h = absurd h.1
no_sections path (member k (array x) ms) h = rw (no_array_section path k x h.1) (no_sections path ms h.2)
no_sections path (member k (table x) ms) h = absurd h.1
