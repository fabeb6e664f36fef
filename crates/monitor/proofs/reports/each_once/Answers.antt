use Rattle.monitor.proofs.Ties.{tied}
use Rattle.std.proofs.lemmas.List.Filters.{dedup_is}
use Rattle.std.proofs.lemmas.List.Kept.{Any-dedup, Contains-from_dedup, IsStrictlySortedBy-dedup}
use Rattle.std.proofs.lemmas.List.Sorted.{Contains-permutation, IsPermutation-sym}
use Rattle.monitor.proofs.reports.each_once.Goals as goal

pub returns-clause-order : goal.returns-clause-order
returns-clause-order g c =
    rw (dedup_is _ _ _ c.dedup.ensures.filtered) (IsStrictlySortedBy-dedup g.met.T.Ord.total g.met.T.Ord.matches_eq _ c.sort_unstable.ensures.sorted)

pub returns-clause-kept : goal.returns-clause-kept
returns-clause-kept g c = let is = dedup_is _ _ _ c.dedup.ensures.filtered in
    λ x h. rw is (tied _ _ g.met.T.Ord.matches_eq _ x (Any-dedup g.met.T.Eq.laws _ x (Contains-permutation _ _ x c.sort_unstable.ensures.permutation h)))

pub returns-clause-only : goal.returns-clause-only
returns-clause-only g c = let is = dedup_is _ _ _ c.dedup.ensures.filtered in
    λ x h. Contains-permutation _ _ x (IsPermutation-sym _ _ c.sort_unstable.ensures.permutation) (Contains-from_dedup _ _ x (rw is at h))
