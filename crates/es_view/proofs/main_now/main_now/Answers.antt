use Rattle.std.proofs.Common.{◌+◌, ◌∙◌, List, ap}
use Rattle.tstd.specs.BufferedUnits.{all_buffered, buffered_bytes}
use Rattle.tstd.specs.declared.buffered_units.BufferedUnit.{BufferedUnit}
use Rattle.es_view.proofs.MainNow.{main_sum}
use Rattle.es_view.proofs.main_now.main_now.Goals as goal

pub returns : goal.returns
returns c = λ h k.
    let b = c.args.buffers.now in
    c.sum_at.ensures
    ∙ ap (λ (us : List BufferedUnit). all_buffered b.view.transport.last us + buffered_bytes b.view.transport.last b.view.main.current)
    c.as_slice.ensures.value
    ∙ main_sum b h k
