use Rattle.exact_predicates.proofs.Gaps.{kept_product, product_le}
use Rattle.exact_predicates.proofs.point.product.Goals as goal

pub returns-clause-value : goal.returns-clause-value
returns-clause-value c = kept_product c.args.a c.args.b c.requires.a_in c.requires.b_in

pub returns-clause-bound : goal.returns-clause-bound
returns-clause-bound c =
    rw (returns-clause-value c) (product_le c.args.a c.args.b c.requires.a_in c.requires.b_in)
