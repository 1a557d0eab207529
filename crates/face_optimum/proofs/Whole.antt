-- The chosen triangles and the prices by costs are the optimum.
use Rattle.std.proofs.Common.{◌≡◌, ℕ, List, Bool, length, All, pos, arith, ap, sym, subst}
use Rattle.std.specs.List.Sorted.{IsPermutation, IsSorted}
use Rattle.std.proofs.lemmas.List.{take_all}
use Rattle.std.proofs.lemmas.List.Elements.{All-map}
use Rattle.exact_predicates.specs.declared.tri.Tri.{Tri}
use Rattle.exact_predicates.specs.Triangulation.{edges, tri_cmp}
use Rattle.length_enclosure.specs.Enclosure.{lo}
use Rattle.lmt_network.specs.Flags.{live_edges, live_numbers}
use Rattle.lmt_network.specs.PriceTables.{entry_at, table_prices}
use Rattle.lmt_network.specs.Prices.{IsFeasible, IsTight, Priced, bound}
use Rattle.lmt_network.proofs.Naming.{flags_named}
use Rattle.lmt_network.proofs.Picked.{All-from_members, flag_from_live}
use Rattle.price_ascent.specs.declared.entry.PriceEntry.{PriceEntry}
use Rattle.price_ascent.specs.Belonging.{IsWithinRanges}
use Rattle.price_ascent.specs.Entries.{anchored_edges, prices_of, table_of}
use Rattle.face_optimum.specs.declared.site.Site.{Site}
use Rattle.face_optimum.specs.Chosen.{AreChosenUpto, IsChosenTri}
use Rattle.face_optimum.specs.Cuts.{AreCosts}
use Rattle.face_optimum.specs.FaceRule.{FollowsFaceRule}
use Rattle.face_optimum.specs.Optimum.{IsFaceOptimum}
use Rattle.face_optimum.specs.Parts.{IsTiling}
use Rattle.face_optimum.specs.Priced.{ArePriced, ArePutUpto}
use Rattle.face_optimum.specs.Sites.{IsSite, faces_of}
use Rattle.face_optimum.proofs.Optimal.{bound_is, edges_live, tight, triangulation}
use Rattle.face_optimum.proofs.Putting.{put_all}
use Rattle.face_optimum.proofs.Ruled.{follows}
use Rattle.face_optimum.proofs.Slacks.{feasible}
use Rattle.face_optimum.proofs.Tilings.{tiling_moved}

module _ (s : Site) (h : IsSite s) (costs choices : List ℕ) (c : AreCosts s.net.now s.flags.now s.skeleton.now (faces_of s) s.edge_seats.now s.tri_seats.now costs choices)
    (root_costs : List ℕ) (ts us : List Tri) (chosen : AreChosenUpto s costs (length (faces_of s)) ts root_costs) (same : IsPermutation ts us) (up : IsSorted tri_cmp us)
    (es : List PriceEntry) (put : ArePutUpto s costs root_costs (length s.net.now.edges) es) where
  tiling : IsTiling (IsChosenTri s costs) s.skeleton.now (faces_of s) us
  tiling =
      tiling_moved (IsChosenTri s costs) s.skeleton.now (faces_of s) ts us same
      (subst (λ (fs : List (List ℕ)). IsTiling (IsChosenTri s costs) s.skeleton.now fs ts) (take_all (length (faces_of s)) (faces_of s) (omega arith)) chosen.tiling)

  priced : ArePriced s costs root_costs (table_of es)
  priced = put_all s h costs root_costs es put

  -- what holds of the prices by the flags
  moved : (P : List Priced → Type 0) → P (table_prices s.net.now (table_of es) (live_numbers s.flags.now)) → P (prices_of s.net.now es)
  moved P = subst P (sym (ap (λ (live : List Bool). table_prices s.net.now (table_of es) (live_numbers live)) put.live))

  within : All (IsWithinRanges s.net.now.hull) (table_prices s.net.now (table_of es) (live_numbers s.flags.now))
  within =
      All-map (IsWithinRanges s.net.now.hull) (entry_at s.net.now (table_of es)) (live_numbers s.flags.now)
      (All-from_members (λ e. IsWithinRanges s.net.now.hull (entry_at s.net.now (table_of es) e)) (live_numbers s.flags.now)
      (λ e has. put.within e ((flags_named s.net.now s.flags.now h.network.ascending h.one_each).in_range e has) (flag_from_live s.flags.now e has)))

  pub whole : IsFaceOptimum s.net.now s.flags.now s.skeleton.now (faces_of s) us es
  whole =
      let n = s.net.now in
      let l = chosen.root_costs_are in
      record {
        triangulation = triangulation s h costs choices c us tiling;
        edges_live = edges_live s h costs choices c us tiling;
        ascending = up;
        entries = put.entries;
        live = put.live;
        anchored = put.anchored;
        within = moved (All (IsWithinRanges n.hull)) within;
        feasible = moved (IsFeasible n.points n.hull) (feasible s h costs choices c root_costs l (table_of es) priced);
        tight = moved (IsTight n.points n.hull (anchored_edges n es)) (tight s h costs choices c us tiling root_costs l (table_of es) priced (anchored_edges n es) put.anchored);
        bound_is = moved (λ (prices : List Priced). bound n.hull prices ≡ pos (lo n.points (edges n.hull us))) (bound_is s h costs choices c us tiling root_costs l (table_of es) priced (anchored_edges n es) put.anchored);
        rule = moved (FollowsFaceRule n.points n.hull (live_edges n s.flags.now) s.skeleton.now (faces_of s) us) (follows s h costs choices c root_costs l (table_of es) priced ts us chosen.tris_are same up);
      }
