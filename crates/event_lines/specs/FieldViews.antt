-- A field of a line: a name, and a number, a number below 0, a word, or a moment in ticks.
use Rattle.std.specs.Prelude.{ℕ, List}
use Rattle.event_lines.specs.declared.lines.FieldValue.{FieldValue}
use Rattle.event_lines.specs.declared.lines.FieldValue.TheVariants.{Number, Below, Word, Seconds}

pub data ValueView : Type 0 where
  IsNumber : ℕ → ValueView
  IsBelow : ℕ → ValueView
  IsWord : List ℕ → ValueView
  IsSeconds : ℕ → ValueView

pub record FieldView : Type 0 where
  pub name : List ℕ
  pub value : ValueView

-- without where its texts lie in memory
unfoldable pub value_view : FieldValue → ValueView
value_view (Number n) = IsNumber n
value_view (Below n) = IsBelow n
value_view (Word w) = IsWord w.now
value_view (Seconds n) = IsSeconds n
