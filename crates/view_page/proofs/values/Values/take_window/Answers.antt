use Rattle.std.proofs.Common.{◌≡◌, ◌∙◌, ◌+◌, ◌-◌, ◌^◌, List, ap, max, min, subst}
use Rattle.events.specs.Windows.{WindowView}
use Rattle.page_curves.specs.Curves.{sample}
use Rattle.page_curves.specs.PidCurves.{AreCurves, KeptCurve, opened, with_sample}
use Rattle.view_rows.specs.Cells.{short}
use Rattle.view_page.specs.Values.{name_of}
use Rattle.view_page.proofs.Events.{on_ok}
use Rattle.view_page.proofs.values.Values.take_window.Goals as goal

pub returns : goal.returns
returns c = λ kept a.
    let w = c.args.window.now in
    let pid : c.window.inside.pid ≡ w.pid = ap (λ (x : WindowView). x.pid) c.window.view_is in
    let number : c.window.inside.number ≡ w.number = ap (λ (x : WindowView). x.number) c.window.view_is in
    let rate : c.short.result ≡ short w.rate = c.short.ensures ∙ ap (λ (x : WindowView). short x.rate) c.window.view_is in
    let name : c.name_of-name.result ≡ name_of kept w.pid =
    c.name_of-name.ensures kept a ∙ ap (λ (x : WindowView). name_of kept x.pid) c.window.view_is in
    let rates : with_sample c.window.inside.pid (sample c.window.inside.number c.short.result) (opened c.window.inside.pid c.name_of-name.result 0 kept.rates)
    ≡ with_sample w.pid (sample w.number (short w.rate)) (opened w.pid (name_of kept w.pid) 0 kept.rates) =
    cc (rate, name, pid, number) in
    let windows : c.max-self.result ≡ max kept.windows (min (w.number + 1) (2 ^ 64 - 1)) =
    cc (c.max-self.ensures, c.saturating_add.ensures, a.windows, number) in
    on_ok c.take.result (λ are. record {
      windows = windows;
      rates = subst (λ (ks : List KeptCurve). AreCurves c.take.new.self.curves.items ks) rates are;
      transports = a.transports;
      mains = a.mains;
      slacks = a.slacks;
      intervals = a.intervals;
      inaccuracies = a.inaccuracies;
      drifts = a.drifts;
      greatest_drift = a.greatest_drift;
    }) (c.take.ensures (opened c.window.inside.pid c.name_of-name.result 0 kept.rates) (c.in_ok-open.ensures kept.rates a.rates))
