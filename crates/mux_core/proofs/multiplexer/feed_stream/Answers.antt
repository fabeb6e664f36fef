use Rattle.std.proofs.Common.{◌≡◌, ℕ, zero, suc, List, [], ◌∷◌, Ok, Err, Result, refl, ap, ◌∙◌, get_or}
use Rattle.std.specs.Prelude.{IfErr}
use Rattle.std.proofs.Math.ListN.{set}
use Rattle.mux_core.proofs.multiplexer.feed_stream.Goals as goal

-- Setting an element to its own value changes nothing.
set_same : {Q : Type 0} (qs : List Q) (i : ℕ) (q : Q) → q ≡ get_or qs i q → set qs i q ≡ qs
set_same [] i q h = refl
set_same {Q} (x ∷ qs) zero q h = ap (λ (y : Q). y ∷ qs) h
set_same {Q} (x ∷ qs) (suc i) q h = ap (λ (rest : List Q). x ∷ rest) (set_same qs i q h)

handed_back : {V E W Q : Type 0} (r : Result V (E × W)) (u : W) (qs : List Q) (i : ℕ) (q new : Q) → q ≡ get_or qs i q →
    IfErr r (λ e. (e.1 ≡ u) × (new ≡ q)) → IfErr r (λ e. (e.1 ≡ u) × (set qs i new ≡ qs))
handed_back (Ok x) u qs i q new h back = tt
handed_back {Q = Q} (Err e) u qs i q new h back = (back.0, ap (λ (x : Q). set qs i x) back.1 ∙ set_same qs i q h)

pub returns-clause-handed_back : goal.returns-clause-handed_back
returns-clause-handed_back g c =
    handed_back c.feed_queue.result c.args.unit c.args.queues.now.items c.args.stream c.in-Some.queue.now c.feed_queue.new.queue
    c.in-Some.ensures.value c.feed_queue.ensures.handed_back
