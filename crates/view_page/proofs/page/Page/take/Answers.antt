use Rattle.std.proofs.Common.{◌∙◌, ap}
use Rattle.page_charts.specs.TracePictures as pictures
use Rattle.page_curves.specs.PidLabels.{LabelsState}
use Rattle.view_rows.specs.PageLabels as labels
use Rattle.view_page.specs.Pages.{IsPage, PageState}
use Rattle.view_rows.specs.Rows as rows
use Rattle.view_page.specs.Services as services
use Rattle.view_page.specs.Values as values
use Rattle.view_page.proofs.page.Page.take.Goals as goal

pub returns : goal.returns
returns c = λ s is.
    let event = c.args.event.now.event in
    let between : PageState = record {
      millis = s.millis;
      rate = s.rate;
      stamps = s.stamps;
      rows = rows.with_event s.labels s.rows c.args.event.now;
      values = values.with_event s.values event;
      services = services.with_event s.services event;
      labels = labels.with_event s.labels event;
      traces = pictures.after_event s.labels s.traces event;
      end = s.end;
    } in
    let page : IsPage
    (record c.args.self.now {
      rows = c.take.new.self;
      values = c.take-2.new.self;
      services = c.take-3.new.self;
      traces = c.take-4.new.self;
      labels =
          c.take_label.new.labels;
    }) between = record {
      millis = is.millis;
      rate = is.rate;
      stamps = is.stamps;
      rows = c.in_ok-take.ensures ∙ cc (is.labels, is.rows);
      values = c.in_ok-take-2.ensures s.values is.values;
      services = c.in_ok-take-3.ensures s.services is.services;
      labels = c.in_ok-take_label.ensures ∙ ap (λ (l : LabelsState). labels.with_event l event) is.labels;
      traces = c.in_ok-take-4.ensures ∙ cc (is.labels, is.traces);
      end = is.end;
    } in
    c.take_end.ensures between page
