-- Texts that are reported one after another.
use Rattle.std.proofs.Common.{ℕ, List, [], ◌∷◌, ◌++◌, refl, subst}
use Rattle.devices.specs.Devices.{Port, between}
use Rattle.devices.specs.Lines.{Reports, ReportsAll}

pub reported_none : (port : Port) → ReportsAll port port []
unfolding ReportsAll
reported_none port = refl

pub reported_more : (before mid after : Port) (texts : List (List ℕ)) (text : List ℕ) → ReportsAll before mid texts → Reports (between mid after) text →
    ReportsAll before after (texts ++ (text ∷ []))
unfolding ReportsAll
reported_more before mid after [] text t r = (after, subst (λ (p : Port). Reports (between p after) text) t r, refl)
reported_more before mid after (first ∷ texts) text t r = (t.0, t.1, reported_more t.0 mid after texts text t.2 r)

pub reported_all : (before mid after : Port) (texts more : List (List ℕ)) → ReportsAll before mid texts → ReportsAll mid after more →
    ReportsAll before after (texts ++ more)
unfolding ReportsAll
reported_all before mid after [] more t r = subst (λ (p : Port). ReportsAll p after more) t r
reported_all before mid after (first ∷ texts) more t r = (t.0, t.1, reported_all t.0 mid after texts more t.2 r)
