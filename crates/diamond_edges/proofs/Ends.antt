-- The greater ends of edges, one after the other.
use Rattle.std.proofs.Common.{◌≡◌, ℕ, ◌<◌, List, length, get_or, Contains, inr, arith, sym, ◌∙◌, subst}
use Rattle.std.proofs.lemmas.List.{get_or_default}
use Rattle.exact_predicates.specs.declared.diamond.Diamond.{Diamond}
use Rattle.exact_predicates.specs.declared.edge.Edge.{Edge}
use Rattle.exact_predicates.specs.declared.point.Point.{Point}
use Rattle.exact_predicates.specs.Candidates.{EdgePrecedes}
use Rattle.exact_predicates.proofs.Equalities.{Edge-equal}
use Rattle.point_grid.specs.Listing.{IsListing}
use Rattle.diamond_edges.specs.Enumeration.{IsOpen, IsOpenEdge, AreEdgesTo}
use Rattle.diamond_edges.specs.Rows.{IsRow}

-- the edges to the ends of a row are those from its point
pub listing_edges : (diamond : Diamond) (ps : List Point) (a : ℕ) (ends : List ℕ) (es : List Edge) → IsRow diamond ps a ends → AreEdgesTo a ends es → IsListing EdgePrecedes (IsOpenEdge diamond ps) (λ (e : Edge). e.a ≡ a) es
listing_edges diamond ps a ends es r f = record {
  ascending = λ i j d l m.
      let p = f.each i d (omega arith) in
      let q = f.each j d m in
      let n = f.count in
      let p0 = p.0 in let p1 = p.1 in let q0 = q.0 in let q1 = q.1 in
      let up = r.ascending i j 0 l (omega arith) in
      inr (omega arith, omega arith);
  are = λ k d l. (f.each k d l).0;
  each = λ k d l.
      let p = f.each k d l in
      let n = f.count in
      let next = r.each k 0 (omega arith) in
      rw (p.0, p.1) (next.1, next.2);
  all = λ e ea h.
      let up = e.ascending in
      found e ea (r.all e.b h.0 (omega arith, h.0, subst (λ (x : ℕ). IsOpen diamond ps x e.b) ea h.1));
}
  where
    found : (e : Edge) → e.a ≡ a → Contains ends e.b → Contains es e
    found e ea (k, k_in, at_k) =
        let n = f.count in
        let k_es : k < length es = omega arith in
        let q = f.each k e k_es in
        (k, k_es, Edge-equal (get_or es k e) e (q.0 ∙ sym ea) (q.1 ∙ (get_or_default ends k 0 e.b k_in ∙ at_k)))
