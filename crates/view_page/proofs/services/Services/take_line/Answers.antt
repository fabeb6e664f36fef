use Rattle.std.proofs.Common.{ℕ, subst}
use Rattle.view_page.specs.Services.{AreServices, ended_unless}
use Rattle.view_page.proofs.services.Services.take_line.Goals as goal

pub returns : goal.returns
returns c = λ kept a.
    let w = c.args.window.now in
    let before : AreServices c.end_other.new.self (ended_unless w.number kept) =
    subst (λ (n : ℕ). AreServices c.end_other.new.self (ended_unless n kept)) c.number_of-number.ensures (c.in_ok-end_other.ensures kept a) in
    c.add.ensures (ended_unless w.number kept) before
