use Rattle.std.proofs.Common.{◌∙◌, ap, sym, arith}
use Rattle.std.proofs.lemmas.List.{take_all}
use Rattle.packet_sync.specs.FrontForms.{form_in}
use Rattle.packet_sync.proofs.front_form.form_of.Goals as goal

pub returns-then-bytes-lt-FRONT_BYTES : goal.returns-then-bytes-lt-FRONT_BYTES
returns-then-bytes-lt-FRONT_BYTES c =
    c.form_in.ensures ∙ ap form_in (sym (take_all 188 c.args.bytes.now (omega (arith, c.if-bytes-lt-FRONT_BYTES.true))))
