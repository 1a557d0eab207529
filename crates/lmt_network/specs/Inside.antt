-- What the fields of a network say.
use Rattle.std.specs.Prelude.{◌*◌, length}
use Rattle.lmt_network.specs.declared.network.Network.TheInside.{Inside}
use Rattle.lmt_network.specs.Network.{NetworkParts, IsNetwork}
use Rattle.lmt_network.specs.Tables.{AreEdgeStarts, AreHullFlags, AreSideKeys, AreStarts, AreRows}

-- the parts of the network
abbrev pub parts_of : Inside → NetworkParts
parts_of i = record { points = i.points.items; hull = i.hull.items; edges = i.edges; tris = i.tris }

-- the tables are those of the parts
pub record IsSound (i : Inside) : Type 0 where
  pub network : IsNetwork (parts_of i)
  pub edge_starts : AreEdgeStarts i.edges i.edge_starts.items
  pub flags : AreHullFlags i.hull.items i.edges i.on_hull.items
  pub keys : AreSideKeys i.edges i.tris i.keys.items
  pub starts : AreStarts i.keys.items (2 * length i.edges) i.starts.items
  pub rows : AreRows i.keys.items (2 * length i.edges) i.rows.items
