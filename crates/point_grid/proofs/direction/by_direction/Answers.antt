use Rattle.std.proofs.Common.{◌≡◌, map, rules, of_calls}
use Rattle.std.proofs.lemmas.List.Sorted.{answers_always}
use Rattle.point_grid.specs.declared.sight.Sight.{Sight}
use Rattle.point_grid.proofs.Sights.{is_before, is_before-order, IsPermutation-sorted, AreByDirection-sorted}
use Rattle.point_grid.proofs.direction.by_direction.Goals as goal

pub returns-clause-same : goal.returns-clause-same
returns-clause-same c =
    let is : c.in_ok-collect.field-0.items ≡ map (λ (s : Sight). s.number) c.sort_unstable_by.new.self.items = search rules in
    IsPermutation-sorted _ _ _ _ _ _ c.requires.later c.requires.distinct c.in_ok-fill_sights.ensures c.sort_unstable_by.ensures.permutation is

pub returns-clause-ordered : goal.returns-clause-ordered
returns-clause-ordered c =
    let is : c.in_ok-collect.field-0.items ≡ map (λ (s : Sight). s.number) c.sort_unstable_by.new.self.items = search rules in
    AreByDirection-sorted _ _ _ _ _ _ c.requires.later c.requires.distinct c.in_ok-fill_sights.ensures c.sort_unstable_by.ensures.permutation is
    (c.sort_unstable_by.ensures.sorted is_before is_before-order (answers_always _ _ _ (λ f a r g k. search (rules, of_calls))))
