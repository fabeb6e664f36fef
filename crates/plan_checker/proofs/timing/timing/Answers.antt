use Rattle.std.proofs.Common.{◌++◌, List}
use Rattle.slot_plan.specs.Entries.{Entry}
use Rattle.slot_plan.specs.Conditions.{pcr_gaps, table_gaps, spreads, stream_rates, stream_buffers, transport_buffers, stream_leads, main_buffers}
use Rattle.slot_plan.specs.Conditions.{system_buffers, multiplexing_buffers, elementary_leads, section_distances}
use Rattle.plan_checker.proofs.FailingSearch.{then_next}
use Rattle.plan_checker.proofs.timing.timing.Goals as goal

pub returns : goal.returns
returns g c =
    let d = c.args.description.now in
    let p = c.args.plan.now in
    let from_leads_of_video : List Entry = elementary_leads d p ++ section_distances d p in
    let from_multiplexing : List Entry = multiplexing_buffers d p ++ from_leads_of_video in
    let from_systems : List Entry = system_buffers d p ++ from_multiplexing in
    let from_mains : List Entry = main_buffers d p ++ from_systems in
    let from_leads : List Entry = stream_leads d p ++ from_mains in
    let from_transports : List Entry = transport_buffers d p ++ from_leads in
    let from_streams : List Entry = stream_buffers d p ++ from_transports in
    let from_rates : List Entry = stream_rates d p ++ from_streams in
    let from_spreads : List Entry = spreads d p ++ from_rates in
    let from_tables : List Entry = table_gaps d p ++ from_spreads in
    then_next _ _ _ (pcr_gaps d p) from_tables c.check_each.ensures
    (then_next _ _ _ (table_gaps d p) from_spreads c.check_each-2.ensures
    (then_next _ _ _ (spreads d p) from_rates c.check_each-3.ensures
    (then_next _ _ _ (stream_rates d p) from_streams c.check_each-4.ensures
    (then_next _ _ _ (stream_buffers d p) from_transports c.check_each-5.ensures
    (then_next _ _ _ (transport_buffers d p) from_leads c.check_each-6.ensures
    (then_next _ _ _ (stream_leads d p) from_mains c.check_each-7.ensures
    (then_next _ _ _ (main_buffers d p) from_systems c.check_each-8.ensures
    (then_next _ _ _ (system_buffers d p) from_multiplexing c.check_each-9.ensures
    (then_next _ _ _ (multiplexing_buffers d p) from_leads_of_video c.check_each-10.ensures
    (then_next _ _ _ (elementary_leads d p) (section_distances d p) c.check_each-11.ensures c.check_each-12.ensures))))))))))
