use Rattle.std.proofs.Common.{◌++◌, ◌∙◌, List, ap}
use Rattle.std.specs.Prelude.{slice_get}
use Rattle.slot_plan.specs.Entries.{Entry}
use Rattle.slot_plan.specs.SwitchConditions.{joint_entries, pcr_switches, table_switches, section_switches, stream_works, transport_works, system_works}
use Rattle.slot_plan.specs.SwitchConditions.{multiplexing_works, lead_switches, main_switches, elementary_switches}
use Rattle.plan_checker.specs.Failing.{Search, after}
use Rattle.plan_checker.proofs.FailingSearch.{found_first, then_next}
use Rattle.switch_checker.proofs.succession.joint.Goals as goal

pub returns : goal.returns
returns g c =
    let d = c.args.description.now in
    let p = c.args.first.now in
    let q = c.args.second.now in
    let from_mains : List Entry = main_switches d p q ++ elementary_switches d p q in
    let from_leads : List Entry = lead_switches d p q ++ from_mains in
    let from_multiplexing : List Entry = multiplexing_works d p q ++ from_leads in
    let from_systems : List Entry = system_works d p q ++ from_multiplexing in
    let from_transports : List Entry = transport_works d p q ++ from_systems in
    let from_streams : List Entry = stream_works d p q ++ from_transports in
    let from_sections : List Entry = section_switches d p q ++ from_streams in
    let from_tables : List Entry = table_switches d p q ++ from_sections in
    let all = then_next _ _ _ (pcr_switches d p q) from_tables c.check_each.ensures
    (then_next _ _ _ (table_switches d p q) from_sections c.check_each-2.ensures
    (then_next _ _ _ (section_switches d p q) from_streams c.check_each-3.ensures
    (then_next _ _ _ (stream_works d p q) from_transports c.check_each-4.ensures
    (then_next _ _ _ (transport_works d p q) from_systems c.check_each-5.ensures
    (then_next _ _ _ (system_works d p q) from_multiplexing c.check_each-6.ensures
    (then_next _ _ _ (multiplexing_works d p q) from_leads c.check_each-7.ensures
    (then_next _ _ _ (lead_switches d p q) from_mains c.check_each-8.ensures
    (then_next _ _ _ (main_switches d p q) (elementary_switches d p q) c.check_each-9.ensures c.check_each-10.ensures)))))))) in
    c.first.ensures ∙ ap (λ (s : Search). slice_get s.found 0) (all ∙ ap (λ (s : Search). after s (joint_entries d p q)) c.new-search.ensures)
    ∙ found_first (joint_entries d p q)
