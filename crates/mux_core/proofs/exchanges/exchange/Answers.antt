use Rattle.std.proofs.Common.{◌≡◌, ◌∙◌, length, Some, None, arith, ap}
use Rattle.std.proofs.lemmas.Option.{slice_get-get_or}
use Rattle.mux_core.proofs.ExchangedItems.{none_yet, one_stays, one_moves, all_moved}
use Rattle.mux_core.proofs.exchanges.exchange.Goals as goal
use Rattle.mux_core.proofs.exchanges.exchange.Goals.{in-Some, in_default}

pub loop-place-init : goal.loop-place-init
loop-place-init g c = none_yet c.args.numbers.now c.args.to.now.items c.args.from.now.items

pub index_mut-requires : goal.index_mut-requires
index_mut-requires g c =
    let size : length c.loop-place.to.items ≡ length c.args.to.now.items = c.loop-place.invariant.size in
    omega (arith, size, c.requires.size, c.loop-place-test.true, c.loop-place.to.ok.0)

pub loop-place-preserved : goal.loop-place-preserved
loop-place-preserved g c =
    let numbers = c.args.numbers.now in
    let size : length c.loop-place.to.items ≡ length c.args.to.now.items = c.loop-place.invariant.size in
    elim c.match-numbers-place.branch [
      | in-Some w ↦ rw (w.to-is, w.from-is, w.exchange_one.ensures.from, w.exchange_one.ensures.to)
          (one_moves numbers c.args.to.now.items c.args.from.now.items c.loop-place.place w.in-Some.number w.index_mut.result.now c.loop-place.to.items
          c.loop-place.from.items c.requires.once
          (slice_get-get_or numbers c.loop-place.place None c.loop-place-test.true ∙ ap Some w.in-Some.is)
          (omega (arith, size, c.requires.size, c.loop-place-test.true)) w.index_mut.ensures.value c.loop-place.invariant)
      | in_default w ↦ rw (w.to-is, w.from-is)
          (one_stays numbers c.args.to.now.items c.args.from.now.items c.loop-place.place c.loop-place.to.items c.loop-place.from.items
          (slice_get-get_or numbers c.loop-place.place None c.loop-place-test.true ∙ ap Some w.in_default.is) c.loop-place.invariant)
    ]

pub returns : goal.returns
returns g c = all_moved c.args.numbers.now c.args.to.now.items c.args.from.now.items c.loop-place.place c.loop-place.to.items c.loop-place.from.items
    (omega (arith, c.loop-place-test.false)) c.loop-place.invariant
