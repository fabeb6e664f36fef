use Rattle.std.proofs.Common.{◌≡◌, ◌<◌, ◌∙◌, None, List, length, sym, ap, rules, arith}
use Rattle.pid_findings.specs.Shown.{finding_view}
use Rattle.fed_streams.specs.Maps.{MapView}
use Rattle.fed_streams.specs.Maps.{map_from}
use Rattle.fed_streams.proofs.FedMaps.{map_after, map_new, no_map_after, no_map_new}
use Rattle.fed_streams.proofs.fed_map.watch.Goals as goal

pub returns-in_default-clause-maps : goal.returns-in_default-clause-maps
returns-in_default-clause-maps c =
    let f = finding_view c.args.finding.now in
    let none : c.map_place.result ≡ None = search rules in
    no_map_after f c.args.maps.now.items (sym none ∙ c.map_place.ensures.value ∙ ap (λ (ms : List MapView). map_from f 0 ms) c.deref.ensures.value)

pub returns-in_default-clause-change : goal.returns-in_default-clause-change
returns-in_default-clause-change c =
    let f = finding_view c.args.finding.now in
    let none : c.map_place.result ≡ None = search rules in
    no_map_new f c.args.maps.now.items (sym none ∙ c.map_place.ensures.value ∙ ap (λ (ms : List MapView). map_from f 0 ms) c.deref.ensures.value)

pub returns-clause-maps : goal.returns-clause-maps
returns-clause-maps c =
    let f = finding_view c.args.finding.now in
    let ms = c.args.maps.now.items in
    let below : c.in-Some.k < length ms = omega (arith, c.in-Some.ensures.bound, ap (length {A = MapView}) c.deref.ensures.value) in
    map_after f ms c.watch_at.new.maps.items c.in-Some.k (c.in-Some.ensures.value ∙ ap (λ (ms : List MapView). map_from f 0 ms) c.deref.ensures.value) below
    c.watch_at.ensures.maps

pub returns-clause-change : goal.returns-clause-change
returns-clause-change c =
    let f = finding_view c.args.finding.now in
    let ms = c.args.maps.now.items in
    let below : c.in-Some.k < length ms = omega (arith, c.in-Some.ensures.bound, ap (length {A = MapView}) c.deref.ensures.value) in
    map_new f ms c.in-Some.k c.watch_at.result (c.in-Some.ensures.value ∙ ap (λ (ms : List MapView). map_from f 0 ms) c.deref.ensures.value) below
    c.watch_at.ensures.change
