-- The conditions of a plan that serves a description, and of a second plan that may follow it, list by list.
use Rattle.std.specs.Prelude.{◌++◌, List, None, is_none}
use Rattle.std.proofs.Common.{◌≡◌, inl, inr}
use Rattle.std.proofs.lemmas.Bool.{cases_Bool}
use Rattle.description_parts.specs.Described.{Described}
use Rattle.slot_plan.specs.Planned.{Planned}
use Rattle.slot_plan.specs.Shape.{IsShaped}
use Rattle.slot_plan.specs.Entries.{Entry, first_failing}
use Rattle.slot_plan.specs.Conditions.{shape_entries, timing_entries, entries, pcr_gaps, table_gaps, spreads, stream_rates, stream_buffers, transport_buffers}
use Rattle.slot_plan.specs.Conditions.{stream_leads, main_buffers, system_buffers, multiplexing_buffers, elementary_leads, section_distances}
use Rattle.slot_plan.specs.Conditions.{IsServing}
use Rattle.slot_plan.specs.SwitchConditions.{joint_entries, pcr_switches, table_switches, section_switches, stream_works, transport_works, system_works}
use Rattle.slot_plan.specs.SwitchConditions.{multiplexing_works, lead_switches, main_switches, elementary_switches, IsSwitchable}
use Rattle.slot_plan.proofs.HeldConditions.{holds_both, shaped}

-- No condition of a list fails.
abbrev pub Hold : List Entry → Type 0
Hold es = first_failing es ≡ None

-- The conditions of a plan that serves
pub record ServingConditions (d : Described) (p : Planned) : Type 0 where
  pub shape : IsShaped d p
  pub pcr_gaps : Hold (pcr_gaps d p)
  pub table_gaps : Hold (table_gaps d p)
  pub spreads : Hold (spreads d p)
  pub rates : Hold (stream_rates d p)
  pub stream_buffers : Hold (stream_buffers d p)
  pub transport_buffers : Hold (transport_buffers d p)
  pub leads : Hold (stream_leads d p)
  pub main_buffers : Hold (main_buffers d p)
  pub system_buffers : Hold (system_buffers d p)
  pub multiplexing_buffers : Hold (multiplexing_buffers d p)
  pub elementary_leads : Hold (elementary_leads d p)
  pub section_distances : Hold (section_distances d p)

pub in_turn : (d : Described) (p : Planned) → IsServing d p → Hold (shape_entries d p) × Hold (timing_entries d p)
in_turn d p serving = elim (cases_Bool (is_none (first_failing (shape_entries d p)))) [
  | inl none ↦ holds_both (shape_entries d p) (timing_entries d p) (rw none at serving)
  | inr some ↦ absurd (let h : first_failing (shape_entries d p) ≡ None = rw some at serving in let t = rw h at some in cc)
]

pub serves : (d : Described) (p : Planned) → IsServing d p → ServingConditions d p
serves d p serving =
    let last = elementary_leads d p ++ section_distances d p in
    let multiplexing = multiplexing_buffers d p ++ last in
    let system = system_buffers d p ++ multiplexing in
    let main = main_buffers d p ++ system in
    let leads = stream_leads d p ++ main in
    let transport = transport_buffers d p ++ leads in
    let streams = stream_buffers d p ++ transport in
    let rates = stream_rates d p ++ streams in
    let spread = spreads d p ++ rates in
    let tables = table_gaps d p ++ spread in
    let both = in_turn d p serving in
    let a = holds_both (pcr_gaps d p) tables both.1 in
    let b = holds_both (table_gaps d p) spread a.1 in
    let e = holds_both (spreads d p) rates b.1 in
    let f = holds_both (stream_rates d p) streams e.1 in
    let h = holds_both (stream_buffers d p) transport f.1 in
    let i = holds_both (transport_buffers d p) leads h.1 in
    let j = holds_both (stream_leads d p) main i.1 in
    let k = holds_both (main_buffers d p) system j.1 in
    let l = holds_both (system_buffers d p) multiplexing k.1 in
    let m = holds_both (multiplexing_buffers d p) last l.1 in
    let n = holds_both (elementary_leads d p) (section_distances d p) m.1 in
    record {
      shape = shaped d p both.0;
      pcr_gaps = a.0;
      table_gaps = b.0;
      spreads = e.0;
      rates = f.0;
      stream_buffers = h.0;
      transport_buffers = i.0;
      leads = j.0;
      main_buffers = k.0;
      system_buffers = l.0;
      multiplexing_buffers = m.0;
      elementary_leads = n.0;
      section_distances = n.1;
    }

-- The conditions of a second plan that may follow a first plan
pub record FollowingConditions (d : Described) (first second : Planned) : Type 0 where
  pub serves : ServingConditions d second
  pub pcrs : Hold (pcr_switches d first second)
  pub tables : Hold (table_switches d first second)
  pub sections : Hold (section_switches d first second)
  pub stream_works : Hold (stream_works d first second)
  pub transport_works : Hold (transport_works d first second)
  pub system_works : Hold (system_works d first second)
  pub multiplexing_works : Hold (multiplexing_works d first second)
  pub leads : Hold (lead_switches d first second)
  pub main_buffers : Hold (main_switches d first second)
  pub elementary_leads : Hold (elementary_switches d first second)

pub joint_in_turn : (d : Described) (first second : Planned) → IsSwitchable d first second → Hold (entries d second) × Hold (joint_entries d first second)
joint_in_turn d first second switchable = elim (cases_Bool (is_none (first_failing (entries d second)))) [
  | inl none ↦ holds_both (entries d second) (joint_entries d first second) (rw none at switchable)
  | inr some ↦ absurd (let h : first_failing (entries d second) ≡ None = rw some at switchable in let t = rw h at some in cc)
]

pub follows : (d : Described) (first second : Planned) → IsSwitchable d first second → FollowingConditions d first second
follows d first second switchable =
    let last = main_switches d first second ++ elementary_switches d first second in
    let leads = lead_switches d first second ++ last in
    let multiplexing = multiplexing_works d first second ++ leads in
    let system = system_works d first second ++ multiplexing in
    let transport = transport_works d first second ++ system in
    let streams = stream_works d first second ++ transport in
    let sections = section_switches d first second ++ streams in
    let tables = table_switches d first second ++ sections in
    let both = joint_in_turn d first second switchable in
    let a = holds_both (pcr_switches d first second) tables both.1 in
    let b = holds_both (table_switches d first second) sections a.1 in
    let s = holds_both (section_switches d first second) streams b.1 in
    let e = holds_both (stream_works d first second) transport s.1 in
    let f = holds_both (transport_works d first second) system e.1 in
    let h = holds_both (system_works d first second) multiplexing f.1 in
    let i = holds_both (multiplexing_works d first second) leads h.1 in
    let j = holds_both (lead_switches d first second) last i.1 in
    let k = holds_both (main_switches d first second) (elementary_switches d first second) j.1 in
    record {
      serves = serves d second both.0;
      pcrs = a.0;
      tables = b.0;
      sections = s.0;
      stream_works = e.0;
      transport_works = f.0;
      system_works = h.0;
      multiplexing_works = i.0;
      leads = j.0;
      main_buffers = k.0;
      elementary_leads = k.1;
    }
