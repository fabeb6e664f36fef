use Rattle.std.proofs.Common.{◌≡◌, ◌∙◌, [], ap, refl, subst}
use Rattle.demux.specs.Stream.{StreamState, found_in}
use Rattle.demux.specs.StreamBodies.{headers_taken}
use Rattle.demux.proofs.HeaderSteps.{none_found, taken_besides}
use Rattle.demux.proofs.headers.HeaderDemux.go_on.Goals as goal

pub returns-clause-taken : goal.returns-clause-taken
returns-clause-taken g c = λ yes.
    c.count.ensures ∙ taken_besides c.self.inside.demux c.go_on.new.self c.args.bytes.now (c.if-not-go_on.ensures.taken refl)
    ∙ ap (λ (s : StreamState). headers_taken s c.args.bytes.now) c.self.view_is

pub returns-clause-none : goal.returns-clause-none
returns-clause-none g c = λ yes.
    subst (λ (s : StreamState). found_in s c.args.bytes.now ≡ []) c.self.view_is
    (none_found c.self.inside.demux c.args.bytes.now (c.if-not-go_on.ensures.none refl))
