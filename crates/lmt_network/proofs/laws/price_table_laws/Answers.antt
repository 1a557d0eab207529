use Rattle.lmt_network.proofs.PriceTables.{by_number_law, edges_law}
use Rattle.lmt_network.proofs.laws.price_table_laws.Goals as goal

pub returns-clause-by_number : goal.returns-clause-by_number
returns-clause-by_number c = by_number_law

pub returns-clause-edges : goal.returns-clause-edges
returns-clause-edges c = edges_law
