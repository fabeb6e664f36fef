use Rattle.std.proofs.Common.{ℕ, ◌+◌, ◌≤◌, List, ◌++◌, length, sym, ap, ◌∙◌, arith, lit<, length-append, append-nil}
use Rattle.dvb_tables.specs.Services.{service_view, services_of, services_bytes}
use Rattle.dvb_tables.proofs.ServiceLoops.{service_step, service_room}
use Rattle.dvb_tables.proofs.service.Services.append_all_to.Goals as goal

pub append_to-requires : goal.append_to-requires
append_to-requires c =
    let steps = c.in-Some.ensures.steps in
    let all = ap (λ xs. c.loop-service.out.items ++ services_bytes xs) (sym steps) ∙ c.loop-service.invariant in
    let size = ap (length {A = ℕ}) all in
    let room = service_room c.loop-service.out.items (service_view c.in-Some.service) (services_of c.next.new.self) 4096
    (omega (arith, size, length-append c.args.out.now.items (services_bytes (services_of c.args.self)), c.requires)) in
    let one : length c.loop-service.out.items + 5 + length c.in-Some.service.descriptors.now ≤ 4096 = omega (arith, room) in
    (lit< tt, (omega (arith, room), one))

pub loop-service-preserved : goal.loop-service-preserved
loop-service-preserved c =
    ap (λ (t : List ℕ). t ++ services_bytes (services_of c.next.new.self)) c.append_to.ensures.items
    ∙ (service_step c.loop-service.out.items (service_view c.in-Some.service) (services_of c.next.new.self)
    ∙ (ap (λ xs. c.loop-service.out.items ++ services_bytes xs) (sym c.in-Some.ensures.steps) ∙ c.loop-service.invariant))

pub returns-clause-items : goal.returns-clause-items
unfolding services_bytes
returns-clause-items c =
    sym (append-nil c.loop-service.out.items)
    ∙ (ap (λ xs. c.loop-service.out.items ++ services_bytes xs) (sym c.in-None.ensures.steps.0) ∙ c.loop-service.invariant)

pub returns-clause-len : goal.returns-clause-len
unfolding services_bytes
returns-clause-len c =
    let all = sym (append-nil c.loop-service.out.items)
    ∙ (ap (λ xs. c.loop-service.out.items ++ services_bytes xs) (sym c.in-None.ensures.steps.0) ∙ c.loop-service.invariant) in
    ap (length {A = ℕ}) all ∙ length-append c.args.out.now.items (services_bytes (services_of c.args.self))
