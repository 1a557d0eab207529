-- The amounts of live edges, put one after the other.
use Rattle.std.proofs.Common.{◌≡◌, ◌≢◌, ◌⊎◌, ℕ, ◌+◌, ◌*◌, ◌^◌, ◌<◌, ◌≤◌, true, false, List, length, slice_index_or, All, Contains, pos, arith, sym, ◌∙◌, subst, ⊎_elim, inl, inr}
use Rattle.std.proofs.lemmas.Bool.{both_ways, cases_eq}
use Rattle.std.proofs.lemmas.List.Elements.{All-contains}
use Rattle.exact_predicates.specs.declared.edge.Edge.{Edge}
use Rattle.exact_predicates.proofs.Equalities.{Contains-HasEdge, Joins-comm, Joins-ends}
use Rattle.lmt_network.specs.Flags.{live_edges}
use Rattle.lmt_network.specs.Network.{edge_at}
use Rattle.lmt_network.specs.Numbers.{IsHullNumber}
use Rattle.lmt_network.specs.PriceTables.{entry_at}
use Rattle.lmt_network.specs.Prices.{Priced}
use Rattle.lmt_network.proofs.Naming.{flags_named}
use Rattle.lmt_network.proofs.Picked.{flag_from_live, picked_in}
use Rattle.price_ascent.specs.declared.entry.PriceEntry.{PriceEntry}
use Rattle.price_ascent.specs.Belonging.{AreEntriesOf, IsWithinRanges}
use Rattle.price_ascent.specs.Entries.{anchored_edges, live_of, table_of, with_amounts}
use Rattle.face_optimum.specs.declared.face_prices.Amounts.{Amounts}
use Rattle.face_optimum.specs.declared.site.Site.{Site}
use Rattle.face_optimum.specs.Cuts.{most_cost, weight_of}
use Rattle.face_optimum.specs.Optimum.{AreInnerSkeleton}
use Rattle.face_optimum.specs.Priced.{ArePriced, ArePutUpto, IsAmountsOf, amounts_at}
use Rattle.face_optimum.specs.Sites.{IsSite}
use Rattle.face_optimum.proofs.EdgeKinds.{Kind, hull_edge, kind, part_edge, ranges, skeleton_edge}

module _ (s : Site) (h : IsSite s) (costs root_costs : List ℕ) where
  -- a live edge has its flag, and the other way round
  live_flag : (e : ℕ) → e < length s.net.now.edges → Contains (live_edges s.net.now s.flags.now) (edge_at s.net.now e) → slice_index_or s.flags.now e false ≡ true
  live_flag e e_in has = flag_from_live s.flags.now e ((flags_named s.net.now s.flags.now h.network.ascending h.one_each).back e e_in has)

  kind_of : (e : ℕ) → e < length s.net.now.edges → slice_index_or s.flags.now e false ≡ true → Kind s h e
  kind_of e e_in flag = kind s h e e_in (picked_in s.flags.now s.net.now.edges e _ e_in flag)

  -- of an edge that is not live nothing is asked
  not_live : (e : ℕ) (a : Amounts) → e < length s.net.now.edges → slice_index_or s.flags.now e false ≡ false → IsAmountsOf s costs root_costs e a
  not_live e a e_in dead =
      record {
        part = λ out. absurd (both_ways _ dead (live_flag e e_in out.1.0));
        on_hull = λ hull. absurd (skeleton_dead (in_skeleton hull));
        inner = λ has away. absurd (skeleton_dead has);
      }
    where
      skeleton_dead : Contains s.skeleton.now (edge_at s.net.now e) → ⊥
      skeleton_dead has = both_ways _ dead (live_flag e e_in (All-contains (Contains (live_edges s.net.now s.flags.now)) s.skeleton.now (edge_at s.net.now e) h.live_skeleton has))

      in_skeleton : IsHullNumber s.net.now e → Contains s.skeleton.now (edge_at s.net.now e)
      in_skeleton hull =
          let x = edge_at s.net.now e in
          ⊎_elim
          (λ pair. Contains-HasEdge s.skeleton.now x x.a x.b (Joins-ends x) (h.on_hull x.a x.b pair))
          (λ pair. Contains-HasEdge s.skeleton.now x x.b x.a (Joins-comm x x.a x.b (Joins-ends x)) (h.on_hull x.b x.a pair))
          hull

  pub ranges_of : (e : ℕ) (a : Amounts) → e < length s.net.now.edges → length costs ≡ length s.net.now.edges → length root_costs ≡ 2 * length s.net.now.edges
      → All (λ cost. cost ≤ most_cost) costs → All (λ cost. cost ≤ most_cost) root_costs → slice_index_or s.flags.now e false ≡ true → weight_of s.net.now e < 3 * 10 ^ 15 → IsAmountsOf s costs root_costs e a
      → IsWithinRanges s.net.now.hull (with_amounts s.net.now e a.value a.left a.right)
  ranges_of e a e_in one two small few flag light is =
      ranges s h costs root_costs e a e_in (small e 0 (omega arith)) (few (2 * e) 0 (omega arith)) (few (2 * e + 1) 0 (omega arith)) light is (kind_of e e_in flag)

  -- only the inner edges of the skeleton have anchors on both sides
  pub elsewhere_of : (e : ℕ) (a : Amounts) (anchored : List Edge) → e < length s.net.now.edges → AreInnerSkeleton s.net.now.hull s.skeleton.now anchored → slice_index_or s.flags.now e false ≡ true
      → IsAmountsOf s costs root_costs e a → Contains anchored (edge_at s.net.now e) ⊎ ((a.left ≡ pos 0) × (a.right ≡ pos 0))
  elsewhere_of e a anchored e_in are flag is = at (kind_of e e_in flag)
    where
      at : Kind s h e → Contains anchored (edge_at s.net.now e) ⊎ ((a.left ≡ pos 0) × (a.right ≡ pos 0))
      at (part_edge o) = let q = is.part o in inr (q.left, q.right)
      at (hull_edge o) = let q = is.on_hull o in inr (q.left, q.right)
      at (skeleton_edge has away) = inl ((are (edge_at s.net.now e)).1 (has, away))

  -- one more edge
  pub put_more : (e : ℕ) (a : Amounts) (es fs : List PriceEntry) → ArePutUpto s costs root_costs e es → IsAmountsOf s costs root_costs e a
      → IsWithinRanges s.net.now.hull (with_amounts s.net.now e a.value a.left a.right) → AreEntriesOf s.net.now fs
      → entry_at s.net.now (table_of fs) e ≡ with_amounts s.net.now e a.value a.left a.right
      → ((f : ℕ) → f ≢ e → entry_at s.net.now (table_of fs) f ≡ entry_at s.net.now (table_of es) f)
      → live_of fs ≡ live_of es → anchored_edges s.net.now fs ≡ anchored_edges s.net.now es → ArePutUpto s costs root_costs (e + 1) fs
  put_more e a es fs before is in_range entries edge others live anchored =
      record {
        entries = entries;
        live = live ∙ before.live;
        anchored = subst (λ (xs : List Edge). AreInnerSkeleton s.net.now.hull s.skeleton.now xs) (sym anchored) before.anchored;
        done = λ f l. ⊎_elim
            (λ (same : f ≡ e). subst (λ (k : ℕ). IsAmountsOf s costs root_costs k (amounts_at (table_of fs) k)) (sym same)
            (subst (λ (q : Priced). IsAmountsOf s costs root_costs e (record { value = q.value; left = q.left; right = q.right })) (sym edge) is))
            (λ (other : f ≢ e). subst (λ (q : Priced). IsAmountsOf s costs root_costs f (record { value = q.value; left = q.left; right = q.right })) (sym (others f other)) (before.done f (omega arith)))
            (cases_eq f e);
        within = λ f l flag. ⊎_elim
            (λ (same : f ≡ e). subst (λ (k : ℕ). IsWithinRanges s.net.now.hull (entry_at s.net.now (table_of fs) k)) (sym same) (subst (λ (q : Priced). IsWithinRanges s.net.now.hull q) (sym edge) in_range))
            (λ (other : f ≢ e). subst (λ (q : Priced). IsWithinRanges s.net.now.hull q) (sym (others f other)) (before.within f (omega arith) flag))
            (cases_eq f e);
      }

  pub put_none : (e : ℕ) (es : List PriceEntry) → e < length s.net.now.edges → slice_index_or s.flags.now e false ≡ false → ArePutUpto s costs root_costs e es → ArePutUpto s costs root_costs (e + 1) es
  put_none e es e_in dead before =
      record {
        entries = before.entries;
        live = before.live;
        anchored = before.anchored;
        done = λ f l. ⊎_elim
            (λ (same : f ≡ e). subst (λ (k : ℕ). IsAmountsOf s costs root_costs k (amounts_at (table_of es) k)) (sym same) (not_live e (amounts_at (table_of es) e) e_in dead))
            (λ (other : f ≢ e). before.done f (omega arith))
            (cases_eq f e);
        within = λ f l flag. ⊎_elim
            (λ (same : f ≡ e). absurd (both_ways _ dead (subst (λ (k : ℕ). slice_index_or s.flags.now k false ≡ true) same flag)))
            (λ (other : f ≢ e). before.within f (omega arith) flag)
            (cases_eq f e);
      }

  -- and all of them
  pub put_all : (es : List PriceEntry) → ArePutUpto s costs root_costs (length s.net.now.edges) es → ArePriced s costs root_costs (table_of es)
  put_all es all =
      record {
        parts = λ e out. (all.done e out.0).part out;
        on_hull = λ e e_in hull. (all.done e e_in).on_hull hull;
        inner = λ e e_in has away. (all.done e e_in).inner has away;
      }
