use Rattle.std.proofs.Common.{refl, ℕ, ◌∙◌, ap, List, arith}
use Rattle.std.specs.Prelude.{is_some}
use Rattle.psi_tables.specs.Loops.{loop_at}
use Rattle.dvb_tables.specs.Services.{service_view, services_in, service_loop_of}
use Rattle.dvb_tables.specs.Fits.{ServiceFits}
use Rattle.dvb_tables.proofs.ServiceLoops.{more_length, one_more}
use Rattle.dvb_tables.proofs.service_loop.ServiceLoop.push.Goals as goal

pub returns-then-room-service-clause-variant : goal.returns-then-room-service-clause-variant
unfolding service_loop_of
returns-then-room-service-clause-variant c =
    let n = more_length c.args.self.now.bytes.items (service_view c.args.service.now) c.args.self.now.whole in
    (λ e. absurd cc, λ h. absurd (omega (arith, n, c.len-room.ensures.value, c.if-room-service.true)))

pub invariant_of-self : goal.invariant_of-self
invariant_of-self c =
    let fits : ServiceFits (service_view c.args.service.now) = record { service_id = omega arith; descriptors = omega (arith, c.if-room-service.false) } in
    let more = one_more c.args.self.now.bytes.items (service_view c.args.service.now) fits c.args.self.now.whole in
    record { whole = ap (λ (bytes : List ℕ). is_some (loop_at 5 bytes)) c.append_to.ensures.items ∙ more.whole }

pub returns-clause-variant : goal.returns-clause-variant
unfolding service_loop_of
returns-clause-variant c =
    let n = more_length c.args.self.now.bytes.items (service_view c.args.service.now) c.args.self.now.whole in
    (λ e. omega (arith, n, c.len-room.ensures.value, c.len-room.ensures.fits, c.if-room-service.false), λ h. refl)

pub returns-clause-ok : goal.returns-clause-ok
unfolding service_loop_of
returns-clause-ok c =
    let fits : ServiceFits (service_view c.args.service.now) = record { service_id = omega arith; descriptors = omega (arith, c.if-room-service.false) } in
    let more = one_more c.args.self.now.bytes.items (service_view c.args.service.now) fits c.args.self.now.whole in
    ap services_in c.append_to.ensures.items ∙ more.values
