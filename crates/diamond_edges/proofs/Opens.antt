-- Candidate edges are told without the hull.
use Rattle.std.proofs.Common.{◌≢◌, ℕ, ◌<◌, ◌≤◌, List, length, ⊎_elim, arith, ap}
use Rattle.std.proofs.lemmas.List.Elements.{All-weaker}
use Rattle.exact_predicates.specs.declared.diamond.Diamond.{Diamond}
use Rattle.exact_predicates.specs.declared.diamond.Diamond.TheVariants.{Off, On}
use Rattle.exact_predicates.specs.declared.edge.Edge.{Edge}
use Rattle.exact_predicates.specs.declared.point.Point.{Point}
use Rattle.exact_predicates.specs.Candidates.{EdgePrecedes, IsCandidate, AreCandidates, AreMoreThan}
use Rattle.exact_predicates.specs.Hull.{IsHull}
use Rattle.exact_predicates.proofs.Blocking.{candidate-free, free-candidate}
use Rattle.point_grid.specs.Listing.{IsListing}
use Rattle.point_grid.proofs.Listings.{listing_more}
use Rattle.diamond_edges.specs.Enumeration.{IsOpenEdge}

module _ (ps : List Point) (hull : List ℕ) where
  pub open_candidate : (diamond : Diamond) (e : Edge) → IsOpenEdge diamond ps e → IsCandidate ps hull diamond e
  open_candidate Off e h = record { b_in = h.0; clear = h.1; passes = tt }
  open_candidate On e h = candidate-free ps hull e h.0 h.1

  pub candidate_open : (diamond : Diamond) (e : Edge) → IsHull ps hull → IsCandidate ps hull diamond e → IsOpenEdge diamond ps e
  candidate_open Off e shape c = (c.b_in, c.clear)
  candidate_open On e shape c = (c.b_in, free-candidate ps hull shape e c)

  -- all rows together
  pub listed_candidates : (diamond : Diamond) (a : ℕ) (es : List Edge) → IsHull ps hull → length ps ≤ a → IsListing EdgePrecedes (IsOpenEdge diamond ps) (λ (e : Edge). e.a < a) es → AreCandidates ps hull diamond es
  listed_candidates diamond a es shape past h = record {
    ascending = h.ascending;
    each = All-weaker (IsOpenEdge diamond ps) (IsCandidate ps hull diamond) (open_candidate diamond) es h.each;
    all = λ e c. let up = e.ascending in let b_in = c.b_in in h.all e (omega arith) (candidate_open diamond e shape c);
  }

  -- more of them than the limit
  pub more_candidates : (diamond : Diamond) (a limit : ℕ) (es : List Edge) → limit < length es → IsListing EdgePrecedes (IsOpenEdge diamond ps) (λ (e : Edge). e.a < a) es → AreMoreThan (IsCandidate ps hull diamond) limit
  more_candidates diamond a limit es more h =
      let open_ones = listing_more Edge EdgePrecedes (IsOpenEdge diamond ps) (λ (e : Edge). e.a < a) limit es edges_apart more h in record {
        some = open_ones.some;
        distinct = open_ones.distinct;
        each = All-weaker (IsOpenEdge diamond ps) (IsCandidate ps hull diamond) (open_candidate diamond) open_ones.some open_ones.each;
        more = open_ones.more;
      }
    where
      edges_apart : (e f : Edge) → EdgePrecedes e f → e ≢ f
      edges_apart e f h same =
          let a = ap (λ (x : Edge). x.a) same in
          let b = ap (λ (x : Edge). x.b) same in
          ⊎_elim (λ l. omega arith) (λ l. let l1 = l.1 in omega arith) h
