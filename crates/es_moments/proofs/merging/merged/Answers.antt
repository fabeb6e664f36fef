use Rattle.std.proofs.Common.{sum_by, arith, sym, ap, ◌∙◌, rules, ◌≡◌, ◌<◌, [], None, Some, length, map, option_map, slice_get, slice_index_or, ◌+◌, ◌∷◌}
use Rattle.std.proofs.lemmas.Option.{slice_get_within}
use Rattle.std.proofs.lemmas.List.{length-map}
use Rattle.es_moments.specs.Merging as spec
use Rattle.es_moments.proofs.MergedUnits.{heads_more, one_more, one_fewer, none_merged, all_merged, some_or_none}
use Rattle.es_moments.proofs.NextStream.{first_next, found_by, none_next}
use Rattle.es_moments.proofs.merging.merged.Goals as goal

pub units-init : goal.units-init
units-init g c = record {
  left = rw c.new-units.ensures.items (none_merged (map (λ s. s.items) c.args.streams.items));
  heads = c.in_ok-heads.ensures ∙ ap (map (λ s. spec.head_dts s.items)) c.deref.ensures.value;
}

pub take_next-requires : goal.take_next-requires
take_next-requires g c =
    let found : spec.next_of 0 None (map (λ s. s.items) c.units.queues.items) ≡ Some (c.in-Some.k, c.in-Some.field-0-1) =
    found_by (λ s. s.items) c.units.queues.items c.units.heads.items c.deref-in-units.result.now c.next_stream.result (Some (c.in-Some.k, c.in-Some.field-0-1))
    c.units.invariant.heads c.deref-in-units.ensures.value c.next_stream.ensures c.in-Some.is in
    let unit = first_next (map (λ s. s.items) c.units.queues.items) (c.in-Some.k, c.in-Some.field-0-1) found in
    let lt : c.in-Some.k < length (map (λ s. s.items) c.units.queues.items) =
    slice_get_within (map (λ s. s.items) c.units.queues.items) c.in-Some.k (unit.0 ∷ unit.1) unit.2 in
    omega (arith, lt, length-map c.units.queues.items (λ s. s.items))

pub overflow_cast-k : goal.overflow_cast-k
overflow_cast-k g c =
    let found : spec.next_of 0 None (map (λ s. s.items) c.units.queues.items) ≡ Some (c.in-Some.k, c.in-Some.field-0-1) =
    found_by (λ s. s.items) c.units.queues.items c.units.heads.items c.deref-in-units.result.now c.next_stream.result (Some (c.in-Some.k, c.in-Some.field-0-1))
    c.units.invariant.heads c.deref-in-units.ensures.value c.next_stream.ensures c.in-Some.is in
    let unit = first_next (map (λ s. s.items) c.units.queues.items) (c.in-Some.k, c.in-Some.field-0-1) found in
    let lt : c.in-Some.k < length (map (λ s. s.items) c.units.queues.items) =
    slice_get_within (map (λ s. s.items) c.units.queues.items) c.in-Some.k (unit.0 ∷ unit.1) unit.2 in
    let same : length (map (λ s. s.items) c.units.queues.items) ≡ length (map (λ s. s.items) c.args.streams.items) = c.units.invariant.left.same in
    let few : c.in-Some.k < 256 = omega (arith, lt, same, length-map c.args.streams.items (λ s. s.items), c.requires) in
    search rules

pub units-smaller-in_ok-push : goal.units-smaller-in_ok-push
units-smaller-in_ok-push g c =
    let some = c.in-Some-take_next.ensures.some in
    let left : sum_by length (map (λ s. s.items) c.take_next.new.queues.items) + 1 ≡ sum_by length (map (λ s. s.items) c.units.queues.items) =
    rw some.left (one_fewer (map (λ s. s.items) c.units.queues.items) c.in-Some.k c.in-Some-take_next.unit some.rest some.first) in
    omega (arith, left)

pub units-preserved-in_ok-push : goal.units-preserved-in_ok-push
units-preserved-in_ok-push g c =
    let some = c.in-Some-take_next.ensures.some in
    let found : spec.next_of 0 None (map (λ s. s.items) c.units.queues.items) ≡ Some (c.in-Some.k, c.in-Some.field-0-1) =
    found_by (λ s. s.items) c.units.queues.items c.units.heads.items c.deref-in-units.result.now c.next_stream.result (Some (c.in-Some.k, c.in-Some.field-0-1))
    c.units.invariant.heads c.deref-in-units.ensures.value c.next_stream.ensures c.in-Some.is in
    let next : spec.due (map (λ s. s.items) c.units.queues.items) ≡ Some c.in-Some.k = ap (option_map (λ b. b.0)) found in
    let read : slice_index_or c.take_next.new.queues.items c.in-Some.k c.index.result.now ≡ c.index.result.now = search rules in
    record {
      left = rw (some.left, c.in_ok-push.ensures.items)
          (one_more (map (λ s. s.items) c.args.streams.items) (map (λ s. s.items) c.units.queues.items) c.units.units.items c.in-Some.k c.in-Some-take_next.unit
          some.rest c.units.invariant.left next some.first);
      heads = heads_more (λ s. s.items) c.units.queues.items c.take_next.new.queues.items c.units.heads.items c.in-Some.k c.index.result.now
          c.in-Some-take_next.unit some.rest
          c.next_dts.result c.units.invariant.heads some.first some.left read c.next_dts.ensures;
    }

pub units-smaller : goal.units-smaller
units-smaller g c =
    let found : spec.next_of 0 None (map (λ s. s.items) c.units.queues.items) ≡ Some (c.in-Some.k, c.in-Some.field-0-1) =
    found_by (λ s. s.items) c.units.queues.items c.units.heads.items c.deref-in-units.result.now c.next_stream.result (Some (c.in-Some.k, c.in-Some.field-0-1))
    c.units.invariant.heads c.deref-in-units.ensures.value c.next_stream.ensures c.in-Some.is in
    let unit = first_next (map (λ s. s.items) c.units.queues.items) (c.in-Some.k, c.in-Some.field-0-1) found in
    let none : slice_get (map (λ s. s.items) c.units.queues.items) c.in-Some.k ≡ Some [] = search rules in
    absurd (some_or_none unit.0 unit.1 (sym none ∙ unit.2))

pub units-preserved : goal.units-preserved
units-preserved g c =
    let found : spec.next_of 0 None (map (λ s. s.items) c.units.queues.items) ≡ Some (c.in-Some.k, c.in-Some.field-0-1) =
    found_by (λ s. s.items) c.units.queues.items c.units.heads.items c.deref-in-units.result.now c.next_stream.result (Some (c.in-Some.k, c.in-Some.field-0-1))
    c.units.invariant.heads c.deref-in-units.ensures.value c.next_stream.ensures c.in-Some.is in
    let unit = first_next (map (λ s. s.items) c.units.queues.items) (c.in-Some.k, c.in-Some.field-0-1) found in
    let none : slice_get (map (λ s. s.items) c.units.queues.items) c.in-Some.k ≡ Some [] = search rules in
    absurd (some_or_none unit.0 unit.1 (sym none ∙ unit.2))

pub returns : goal.returns
returns g c =
    let found : spec.next_of 0 None (map (λ s. s.items) c.units.queues.items) ≡ None =
    found_by (λ s. s.items) c.units.queues.items c.units.heads.items c.deref-in-units.result.now c.next_stream.result None c.units.invariant.heads
    c.deref-in-units.ensures.value c.next_stream.ensures c.in_default.is in
    all_merged (map (λ s. s.items) c.args.streams.items) (map (λ s. s.items) c.units.queues.items) c.units.units.items c.units.invariant.left
    (none_next 0 None (map (λ s. s.items) c.units.queues.items) found)
