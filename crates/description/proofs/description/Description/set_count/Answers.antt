use Rattle.std.proofs.Common.{◌<◌, sym, subst}
use Rattle.description_parts.specs.Ranges.{IsInRange}
use Rattle.description.specs.declared.sub_table.SubTable.TheVariants.{Map, Events}
use Rattle.description.proofs.Counted.{in_range, other_versions}
use Rattle.description.proofs.description.Description.set_count.Goals as goal

pub invariant_of-self : goal.invariant_of-self
invariant_of-self c =
    let r = c.self.invariant in
    let sdt : c.versions-pat.result.sdt < 32 = rw c.versions-pat.ensures r.versions.sdt in
    let nit : c.versions-pat.result.nit < 32 = rw c.versions-pat.ensures r.versions.nit in
    subst IsInRange (sym c.set_versions.ensures) (other_versions c.self.inside.contents
    (record { pat = c.args.count; sdt = c.versions-pat.result.sdt; nit = c.versions-pat.result.nit }) (record { pat = c.requires; sdt = sdt; nit = nit }) r)

pub invariant_of-self-in-Nit : goal.invariant_of-self-in-Nit
invariant_of-self-in-Nit c =
    let r = c.self.invariant in
    let pat : c.versions-pat.result.pat < 32 = rw c.versions-pat.ensures r.versions.pat in
    let sdt : c.versions-pat.result.sdt < 32 = rw c.versions-pat.ensures r.versions.sdt in
    subst IsInRange (sym c.set_versions-in-Nit.ensures) (other_versions c.self.inside.contents
    (record { pat = c.versions-pat.result.pat; sdt = c.versions-pat.result.sdt; nit = c.args.count }) (record { pat = pat; sdt = sdt; nit = c.requires }) r)

pub invariant_of-self-in-Sdt : goal.invariant_of-self-in-Sdt
invariant_of-self-in-Sdt c =
    let r = c.self.invariant in
    let pat : c.versions-pat.result.pat < 32 = rw c.versions-pat.ensures r.versions.pat in
    let nit : c.versions-pat.result.nit < 32 = rw c.versions-pat.ensures r.versions.nit in
    subst IsInRange (sym c.set_versions-in-Sdt.ensures) (other_versions c.self.inside.contents
    (record { pat = c.versions-pat.result.pat; sdt = c.args.count; nit = c.versions-pat.result.nit }) (record { pat = pat; sdt = c.requires; nit = nit }) r)

pub invariant_of-self-in-Map : goal.invariant_of-self-in-Map
invariant_of-self-in-Map c =
    subst IsInRange (sym c.set_pmt_version.ensures) (in_range c.self.inside.contents (Map c.in-Map.place) c.args.count c.self.invariant c.requires)

pub invariant_of-self-in-Events : goal.invariant_of-self-in-Events
invariant_of-self-in-Events c =
    subst IsInRange (sym c.set_eit_count.ensures) (in_range c.self.inside.contents (Events c.in-Events.place) c.args.count c.self.invariant c.requires)
