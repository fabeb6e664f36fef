use Rattle.std.proofs.Common.{◌≡◌, [], drop, string_bytes}
use Rattle.dvb_texts.specs.Texts.{fitting, printable}
use Rattle.dvb_texts.proofs.texts.fitting.Given as goal

abbrev pub invariant-loop-character : goal.invariant-loop-character
invariant-loop-character g l =
    fitting l.max_bytes [] (printable l.characters) ≡ fitting l.max_bytes (string_bytes l.text) (printable (drop l.character-index l.characters))
