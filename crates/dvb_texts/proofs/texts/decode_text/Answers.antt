use Rattle.std.proofs.Common.{◌≡◌, [], string_bytes}
use Rattle.std.proofs.lemmas.Result.{IfOk-weaker}
use Rattle.std.specs.Char.{is_control}
use Rattle.std.specs.Str.{NoCharPasses}
use Rattle.dvb_texts.specs.Texts.{printable, fitting}
use Rattle.dvb_texts.proofs.FittingText.{fitting_printable}
use Rattle.dvb_texts.proofs.texts.decode_text.Goals as goal

pub returns-clause-printable : goal.returns-clause-printable
returns-clause-printable g c =
    IfOk-weaker c.fitting.result (λ text. string_bytes text ≡ fitting c.args.max_bytes [] (printable c.deref.result.now))
    (λ text. NoCharPasses is_control (string_bytes text))
    (λ text is. rw is (fitting_printable c.args.max_bytes c.deref.result.now)) c.fitting.ensures
