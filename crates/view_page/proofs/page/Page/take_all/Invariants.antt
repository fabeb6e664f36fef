use Rattle.std.proofs.Common.{drop}
use Rattle.view_page.specs.Pages.{IsPage, PageState, after_events}
use Rattle.view_page.proofs.Events.{ComesTo}
use Rattle.view_page.proofs.page.Page.take_all.Given as goal

abbrev pub invariant-loop-event : goal.invariant-loop-event
invariant-loop-event l = (s : PageState) → IsPage l.fn.self s → ComesTo l.self (drop l.event-index l.events) (after_events s l.events)
