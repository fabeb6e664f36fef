use Rattle.std.proofs.Common.{rules, ◌≡◌, string_bytes}
use Rattle.view_page.specs.PageText.{page_text}
use Rattle.tsview_cli.proofs.drawing.write_drawn.Goals as goal

pub returns : goal.returns
returns c = λ s p bytes d.
    let text : string_bytes c.write.new.text ≡ page_text c.end.new.self.page = search rules in
    let e = c.in_ok-good.ensures s p bytes d in
    record { page = c.end.new.self.page; is = e.is; text_is = text; good_is = e.good_is }
