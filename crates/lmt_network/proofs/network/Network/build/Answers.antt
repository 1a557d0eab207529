use Rattle.std.proofs.Common.{◌≡◌, ◌∙◌}
use Rattle.lmt_network.specs.Network.{NetworkParts}
use Rattle.lmt_network.specs.Tables.{AreSideKeys}
use Rattle.lmt_network.proofs.Builds.{hull_there, sides_there, network_of}
use Rattle.lmt_network.proofs.Rows.{keys_below}
use Rattle.lmt_network.proofs.network.Network.build.Goals as goal

pub edge_starts-requires-clause-ascending : goal.edge_starts-requires-clause-ascending
edge_starts-requires-clause-ascending c = rw c.as_slice.ensures.is c.requires.candidates.1.ascending

pub edge_starts-requires-clause-ends_in : goal.edge_starts-requires-clause-ends_in
edge_starts-requires-clause-ends_in c =
    rw (c.as_slice.ensures.is, c.len.ensures.value) (λ k d k_in. (c.requires.candidates.1.each k d k_in).b_in)

pub hull_flags-requires-clause-ascending : goal.hull_flags-requires-clause-ascending
hull_flags-requires-clause-ascending c = rw c.as_slice-2.ensures.is c.requires.candidates.1.ascending

pub hull_flags-requires-clause-starts_are : goal.hull_flags-requires-clause-starts_are
hull_flags-requires-clause-starts_are c = rw (c.as_slice-2.ensures.is, c.deref.ensures.value) (rw c.as_slice.ensures.is at c.in_ok-edge_starts.ensures)

pub hull_flags-requires-clause-there : goal.hull_flags-requires-clause-there
hull_flags-requires-clause-there c =
    rw (c.as_slice-3.ensures.is, c.as_slice-2.ensures.is)
    (hull_there c.args.points.now.points c.args.hull.now c.requires.candidates.0 c.args.edges c.requires.hull_is c.requires.candidates.1)

pub side_keys-requires-clause-ascending : goal.side_keys-requires-clause-ascending
side_keys-requires-clause-ascending c = rw c.as_slice-4.ensures.is c.requires.candidates.1.ascending

pub side_keys-requires-clause-starts_are : goal.side_keys-requires-clause-starts_are
side_keys-requires-clause-starts_are c = rw (c.as_slice-4.ensures.is, c.deref-2.ensures.value) (rw c.as_slice.ensures.is at c.in_ok-edge_starts.ensures)

pub side_keys-requires-clause-over : goal.side_keys-requires-clause-over
side_keys-requires-clause-over c =
    rw (c.as_slice-5.ensures.is, c.as_slice-4.ensures.is)
    (sides_there c.args.points.now.points c.args.edges c.args.tris c.requires.triangles)

pub row_starts-requires-clause-in_range : goal.row_starts-requires-clause-in_range
row_starts-requires-clause-in_range c =
    let n : NetworkParts = record { points = c.args.points.now.points; hull = c.args.hull.now; edges = c.args.edges; tris = c.args.tris } in
    let keys : AreSideKeys c.args.edges c.args.tris c.in_ok-keys.keys.items = rw (c.as_slice-4.ensures.is, c.as_slice-5.ensures.is) at c.in_ok-keys.ensures in
    rw (c.deref-3.ensures.value, c.len-2.ensures) (keys_below n c.in_ok-keys.keys.items keys)

pub rows-requires-clause-in_range : goal.rows-requires-clause-in_range
rows-requires-clause-in_range c =
    let n : NetworkParts = record { points = c.args.points.now.points; hull = c.args.hull.now; edges = c.args.edges; tris = c.args.tris } in
    let keys : AreSideKeys c.args.edges c.args.tris c.in_ok-keys.keys.items = rw (c.as_slice-4.ensures.is, c.as_slice-5.ensures.is) at c.in_ok-keys.ensures in
    rw (c.deref-4.ensures.value, c.len-3.ensures) (keys_below n c.in_ok-keys.keys.items keys)

pub invariant_of-result : goal.invariant_of-result
invariant_of-result c =
    let points : c.in_ok-points.points.items ≡ c.args.points.now.points = c.in_ok-points.ensures.items ∙ c.as_slice-6.ensures.is in
    let hull : c.in_ok-hull.hull.items ≡ c.args.hull.now = c.in_ok-hull.ensures.items ∙ c.as_slice-7.ensures.is in
    let n : NetworkParts = record { points = c.args.points.now.points; hull = c.args.hull.now; edges = c.args.edges; tris = c.args.tris } in
    record {
      network = rw (points, hull) (network_of n c.requires.candidates.0 c.as_slice-6.ensures.valid c.requires.hull_is c.requires.candidates.1 c.requires.triangles c.requires.few_edges c.requires.few_tris);
      edge_starts = rw c.as_slice.ensures.is at c.in_ok-edge_starts.ensures;
      flags = rw hull (rw (c.as_slice-3.ensures.is, c.as_slice-2.ensures.is) at c.in_ok-on_hull.ensures);
      keys = rw (c.as_slice-4.ensures.is, c.as_slice-5.ensures.is) at c.in_ok-keys.ensures;
      starts = rw (c.deref-3.ensures.value, c.len-2.ensures) at c.in_ok-starts.ensures;
      rows = rw (c.deref-4.ensures.value, c.len-3.ensures) at c.in_ok-rows.ensures;
    }
