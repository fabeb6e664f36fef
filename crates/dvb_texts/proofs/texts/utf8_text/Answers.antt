use Rattle.std.proofs.Common.{refl}
use Rattle.std.proofs.lemmas.Str.{is_utf8-from_IsUtf8}
use Rattle.dvb_texts.proofs.FittingText.{no_utf8}
use Rattle.dvb_texts.proofs.texts.utf8_text.Goals as goal

pub returns-in-Ok : goal.returns-in-Ok
returns-in-Ok c = let e = c.in-Ok.ensures.cases in rw (is_utf8-from_IsUtf8 c.args.bytes.now e.1, e.0) refl

pub returns-in-Err : goal.returns-in-Err
returns-in-Err c = rw (no_utf8 c.args.bytes.now c.in-Err.ensures.cases.0) refl
