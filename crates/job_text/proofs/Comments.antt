-- A line of TOML that ends with a comment is read as the line without the comment.
use Rattle.std.proofs.Common.{◌≡◌, ℕ, suc, ◌-◌, ◌<◌, ◌≤◌, Bool, true, false, ◌==◌, List, [], ◌∷◌, ◌++◌, length, codes, Option, Some, None, option_and_then}
use Rattle.std.proofs.Common.{refl, sym, ap, ◌∙◌, subst, arith, append_assoc, length-append, append-nil}
use Rattle.std.proofs.lemmas.Bool.Decides.{nat_tests}
use Rattle.std.proofs.lemmas.Option.{none-some, same_Some}
use Rattle.toml_parser.specs.Lexical.{first, is_ws, skip_blank, skip_ws}
use Rattle.toml_parser.specs.Strings.{Key}
use Rattle.toml_parser.proofs.LexicalLemmas.{skip_ws_none, skip_from-nil}
use Rattle.toml_writer.specs.Text.{key_text, dotted_text}
use Rattle.toml_writer.proofs.Strings.{EndsDotted, is_key_start, is_key_start-key_text, key_start-path, key-dotted_text}
use Rattle.toml.specs.Data.{Data, Members, depth, has_valid_dates, members_are_sorted}
use Rattle.toml.specs.Tables.{Nodes, no_nodes, close, Document, Definition, Expression, define, key_value, std_table, array_table, along_header}
use Rattle.toml.specs.Parse.{val, header_key, expression, ends_line, line, lines, skip_bom, parse_document}
use Rattle.toml.specs.Text.{IsValueText, gap, header_open, header_close, expressions}
use Rattle.toml.proofs.Turns.{keyval_ok, lines_end, lines_more, lines_refused, document_some}
use Rattle.toml.proofs.Blanks.{starts_value, skip_start, skip_none, skip_newline, skip_within}
use Rattle.toml.proofs.ReadLines.{run, IsPrinted}
use Rattle.toml.proofs.ReadValues.{EndsValue, value_start, read_value, key_equals-pair}
use Rattle.toml.proofs.Lines.{after}
use Rattle.toml.proofs.Fill.{roots, body_from, run_sections}
use Rattle.toml.proofs.Filled.{fill_filled}

-- 1. Lines of TOML

-- What may follow a value on its line, with the end of the line: the value ends before it, and the reader skips it.
pub record IsTail (tail : List ℕ) : Type 0 where
  pub stops : (rest : List ℕ) → EndsValue (tail ++ rest)
  pub ends : (rest : List ℕ) → ends_line (skip_ws (tail ++ rest)) ≡ true
  pub skipped : (rest : List ℕ) → skip_blank (tail ++ rest) ≡ skip_blank rest

-- A line says what an expression is, with a tail after a value.
abbrev pub IsCommented : Bool → Key → Definition → List ℕ → Type 0
IsCommented started key (key_value d) text =
    (this : List ℕ) × (tail : List ℕ) × (text ≡ dotted_text key ++ (codes " = " ++ (this ++ tail))) × IsValueText false d this × IsTail tail
IsCommented started key std_table text = text ≡ gap started ++ (header_open false ++ (dotted_text key ++ header_close false))
IsCommented started key array_table text = text ≡ gap started ++ (header_open true ++ (dotted_text key ++ header_close true))

-- Each line says what its expression is, and TOML reads the expression.
abbrev pub AreCommented : Bool → List Expression → List ℕ → Type 0
AreCommented started [] text = text ≡ []
AreCommented started (e ∷ es) text =
    (this : List ℕ) × (rest : List ℕ) × (text ≡ this ++ rest) × IsCommented started e.0 e.1 this × IsPrinted e.0 e.1 × AreCommented true es rest

after_cons : (started : Bool) (e : Expression) (es : List Expression) → after started (e ∷ es) ≡ true
after_cons true e es = refl
after_cons false e es = grind (arith, nat_tests)

after_nil : (started : Bool) → after started [] ≡ started
after_nil true = refl
after_nil false = refl

pub commented_both : (started : Bool) (es fs : List Expression) (t u : List ℕ) → AreCommented started es t → AreCommented (after started es) fs u
    → AreCommented started (es ++ fs) (t ++ u)
commented_both started [] fs t u front back = rw (front, ← after_nil started) back
commented_both started (e ∷ es) fs t u front back =
    let (this, rest, whole, line, printed, more) = front in
    let tail = commented_both true es fs rest u more (rw (after_cons started e es) at back) in
    (this, rest ++ u, rw whole (append_assoc this rest u), line, printed, tail)

-- 2. What the reader makes of one line

line_start : (key : Key) (rest : List ℕ) → is_key_start (first (dotted_text key ++ rest)) ≡ true
line_start key rest = simp append_assoc (key_start-path key.0 key.1 rest)

ends_at_newline : (rest : List ℕ) → ends_line (skip_ws (10 ∷ rest)) ≡ true
ends_at_newline rest = rw (skip_ws_none (10 ∷ rest) refl) (grind (arith, nat_tests))

line_pair : (k this left : List ℕ) (d : Data) → IsValueText false d this → depth d ≤ 80 → has_valid_dates d ≡ true → EndsValue left
    → ends_line (skip_ws left) ≡ true → line (key_text k ++ (codes " = " ++ (this ++ left))) ≡ Some ((([], k), key_value d), left)
unfolding line expression
line_pair k this left d text deep valid stop ends =
    let value_at = this ++ left in
    let s = key_text k ++ (codes " = " ++ value_at) in
    let (some, start) = value_start false d this left text valid in
    let pair = keyval_ok (val 80) s value_at left ([], k) d (key_equals-pair k value_at start) (read_value false d 80 this left text deep valid stop) in
    let key_first = is_key_start-key_text k (codes " = " ++ value_at) in
    let other : (first s == 91) ≡ false = grind (arith, nat_tests) in
    rw (other, pair, ends)

header_key_text : (key : Key) (rest : List ℕ) → length key.0 < 80 → header_key (dotted_text key ++ (93 ∷ rest)) ≡ Some (key, rest)
unfolding header_key
header_key_text key rest room =
    let t = 93 ∷ rest in
    let text = dotted_text key ++ t in
    let key_first = line_start key t in
    let not_ws : is_ws (first text) ≡ false = grind (arith, nat_tests) in
    let after_key : skip_ws t ≡ t = skip_ws_none t refl in
    let stop : EndsDotted t = (((refl, refl), refl), rw after_key refl) in
    rw (skip_ws_none text not_ws, key-dotted_text key t stop room, after_key)

line_std : (key : Key) (rest : List ℕ) → length key.0 < 80 → line (91 ∷ (dotted_text key ++ (93 ∷ 10 ∷ rest))) ≡ Some ((key, std_table), 10 ∷ rest)
unfolding line expression
line_std key rest room =
    let d = dotted_text key ++ (93 ∷ 10 ∷ rest) in
    let key_first = line_start key (93 ∷ 10 ∷ rest) in
    let other : (first d == 91) ≡ false = grind (arith, nat_tests) in
    rw (other, header_key_text key (10 ∷ rest) room, ends_at_newline rest)

line_array : (key : Key) (rest : List ℕ) → length key.0 < 80
    → line (91 ∷ 91 ∷ (dotted_text key ++ (93 ∷ 93 ∷ 10 ∷ rest))) ≡ Some ((key, array_table), 10 ∷ rest)
unfolding line expression
line_array key rest room = rw (header_key_text key (93 ∷ 10 ∷ rest) room, ends_at_newline rest)

-- The reader finds the first line of a text, and leaves the rest.
abbrev Turn : Key → Definition → List ℕ → List ℕ → Type 0
Turn key def text rest =
    (s : List ℕ) × (left : List ℕ) × (skip_blank text ≡ s) × (line s ≡ Some ((key, def), left)) × (0 < length s) × (suc (length left) < length s)
    × (skip_blank left ≡ skip_blank rest) × ((first text == 239) ≡ false)

skip_gap : (started : Bool) (t : List ℕ) → skip_blank (gap started ++ 91 ∷ t) ≡ 91 ∷ t
skip_gap true t = skip_newline (91 ∷ t) ∙ skip_none (91 ∷ t) 91 refl refl
skip_gap false t = skip_none (91 ∷ t) 91 refl refl

gap_not_bom : (started : Bool) (t : List ℕ) → (first (gap started ++ 91 ∷ t) == 239) ≡ false
gap_not_bom true t = refl
gap_not_bom false t = refl

line_turn : (started : Bool) (key : Key) (def : Definition) (this rest : List ℕ) → IsCommented started key def this → IsPrinted key def
    → Turn key def (this ++ rest) rest
line_turn started (p, k) (key_value d) this rest h ok =
    let (nil, deep, valid) = ok in
    let (v, tail, whole, text, is_tail) = h in
    let s = key_text k ++ (codes " = " ++ (v ++ (tail ++ rest))) in
    let same : this ++ rest ≡ s = rw (whole, nil) (simp append_assoc refl) in
    let key_first = is_key_start-key_text k (codes " = " ++ (v ++ (tail ++ rest))) in
    let start : starts_value (first s) ≡ true = grind (arith, nat_tests) in
    let key_size = length-append (key_text k) (codes " = " ++ (v ++ (tail ++ rest))) in
    let value_size = length-append v (tail ++ rest) in
    rw nil (
      s,
      tail ++ rest,
      rw same (skip_start s start),
      line_pair k v (tail ++ rest) d text deep valid (is_tail.stops rest) (is_tail.ends rest),
      omega (arith, key_size),
      omega (arith, key_size, value_size),
      is_tail.skipped rest,
      rw same (grind (arith, nat_tests)),
    )
line_turn started key std_table this rest h ok =
    let s = 91 ∷ (dotted_text key ++ (93 ∷ 10 ∷ rest)) in
    let same : this ++ rest ≡ gap started ++ s = rw h (simp append_assoc refl) in
    let key_size = length-append (dotted_text key) (93 ∷ 10 ∷ rest) in
    (s, 10 ∷ rest, rw same (skip_gap started _), line_std key rest ok, omega arith, omega (arith, key_size), skip_newline rest, rw same (gap_not_bom started _))
line_turn started key array_table this rest h ok =
    let s = 91 ∷ 91 ∷ (dotted_text key ++ (93 ∷ 93 ∷ 10 ∷ rest)) in
    let same : this ++ rest ≡ gap started ++ s = rw h (simp append_assoc refl) in
    let key_size = length-append (dotted_text key) (93 ∷ 93 ∷ 10 ∷ rest) in (
      s,
      10 ∷ rest,
      rw same (skip_gap started _),
      line_array key rest ok,
      omega arith,
      omega (arith, key_size),
      skip_newline rest,
      rw same (gap_not_bom started _),
    )

-- 3. What the reader makes of all lines

read_step : (m : ℕ) (doc : Document) (x : List ℕ) (e : Expression) (left : List ℕ) (es : List Expression) (defined : Option Document) → defined ≡ define doc e
    → 0 < m → (length (skip_blank x) == 0) ≡ false → line (skip_blank x) ≡ Some (e, left)
    → ((next : Document) → lines (m - 1) next left ≡ option_and_then (λ n. run n es) (Some next)) → lines m doc x ≡ option_and_then (λ n. run n es) defined
read_step m doc x e left es None same some other read more = lines_refused m doc x e left some other read (sym same)
read_step m doc x e left es (Some next) same some other read more = lines_more m doc next x e left some other read (sym same) ∙ more next

read_commented : (started : Bool) (es : List Expression) (text x : List ℕ) (doc : Document) (m : ℕ) → AreCommented started es text
    → skip_blank x ≡ skip_blank text → length x < m → lines m doc x ≡ run doc es
read_commented started [] text x doc m h skip room = lines_end m doc x (omega arith) (rw (skip, h, skip_from-nil true false) refl)
read_commented started (e ∷ es) text x doc m h skip room =
    let (this, rest, whole, line_text, printed, more) = h in
    let (s, left, at_start, read, some, shorter, left_skipped, no_mark) = line_turn started e.0 e.1 this rest line_text printed in
    let same : skip_blank x ≡ s = skip ∙ rw whole at_start in
    let other : (length (skip_blank x) == 0) ≡ false = rw same (grind (arith, nat_tests)) in
    let within = skip_within x in
    read_step m doc x e left es (define doc e) refl (omega arith) other (rw same read)
    (λ next. read_commented true es rest left next (m - 1) more left_skipped (omega (arith, ap length same)))

not_bom : (started : Bool) (es : List Expression) (text : List ℕ) → AreCommented started es text → (first text == 239) ≡ false
not_bom started [] text h = rw h
not_bom started (e ∷ es) text h =
    let (this, rest, whole, line_text, printed, more) = h in
    let turn = line_turn started e.0 e.1 this rest line_text printed in
    rw whole turn.7

no_skip : (text : List ℕ) → (first text == 239) ≡ false → skip_bom text ≡ text
unfolding skip_bom
no_skip text h = rw h

from_roots : (o : Option Document) (n : Nodes) → roots o ≡ Some n → (doc : Document) × (o ≡ Some doc) × (doc.0 ≡ n)
from_roots None n e = absurd (none-some n e)
from_roots (Some doc) n e = (doc, refl, same_Some doc.0 n e)

pub document_read : (ms : Members) (text : List ℕ) → AreCommented false (expressions ms) text → members_are_sorted ms ≡ true → parse_document text ≡ Some ms
unfolding along_header
document_read ms text h sorted =
    let es = expressions ms in
    let read = read_commented false es text text (no_nodes, []) (suc (length text)) h refl (omega arith) in
    let skipped = no_skip text (not_bom false es text h) in
    let (n, filled, closed) = fill_filled ms sorted in
    let body = body_from ms [] no_nodes refl (λ root s there. run_sections ms [] root s there) in
    let (doc, ran, same) = from_roots (run (no_nodes, []) es) n (body ∙ filled) in
    document_some text doc (rw skipped (read ∙ ran)) ∙ rw (same, closed)
