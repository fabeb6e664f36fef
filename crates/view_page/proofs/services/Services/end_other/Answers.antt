use Rattle.std.proofs.Common.{◌≡◌, ◌∙◌, ◌==◌, Bool, true, false, sym, subst}
use Rattle.std.specs.Prelude.{OnOk, if◌then◌else◌}
use Rattle.view_page.specs.Services.{AreServices, ended}
use Rattle.view_page.proofs.services.Services.end_other.Goals as goal

pub returns-then-is_now : goal.returns-then-is_now
returns-then-is_now c = λ kept a.
    let same : true ≡ (c.args.number == kept.number) = sym c.if-is_now.true ∙ c.is_now.ensures kept a in
    subst (λ (b : Bool). AreServices c.args.self.now (if b then kept else ended kept)) same a

pub returns : goal.returns
returns c = λ kept a.
    let other : false ≡ (c.args.number == kept.number) = sym c.if-is_now.false ∙ c.is_now.ensures kept a in
    subst (λ (b : Bool). OnOk c.end_window.result (AreServices c.end_window.new.self (if b then kept else ended kept))) other (c.end_window.ensures kept a)
