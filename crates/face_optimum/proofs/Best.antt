-- The best cut of a row of triangles.
use Rattle.std.proofs.Common.{◌≡◌, ◌↔◌, ℕ, ◌+◌, ◌<◌, ◌≤◌, Bool, List, length, slice_index, Contains, Option, None, Some, arith, refl, ap, sym, ◌∙◌, subst, below_more, ⊎_elim, inl, inr}
use Rattle.std.specs.Option.{MatchOption}
use Rattle.std.proofs.lemmas.List.{get_or_default}
use Rattle.exact_predicates.specs.Triangulation.{HasCorners}
use Rattle.exact_predicates.proofs.Corners.{turned_corners}
use Rattle.lmt_network.specs.Network.{IsNetwork, NetworkParts, tri_at}
use Rattle.lmt_network.specs.Numbers.{HasSide, IsNumberOf}
use Rattle.face_optimum.specs.declared.cut.Cut.{Cut}
use Rattle.face_optimum.specs.declared.seat.TriSeat.{TriSeat}
use Rattle.face_optimum.specs.Cuts.{IsBestCut, IsCheaper, IsCutBy, IsNoWorse}
use Rattle.face_optimum.specs.Seats.{IsLiveTri, tri_seat}
use Rattle.face_optimum.proofs.Sides.{number_of}

no_worse : (a b : Cut) (sum middle : ℕ) → IsNoWorse a b.sum b.middle → IsNoWorse b sum middle → IsNoWorse a sum middle
no_worse a b sum middle h k =
    ⊎_elim
    (λ x. ⊎_elim (λ y. inl (omega arith)) (λ y. let e = y.0 in inl (omega arith)) k)
    (λ x. let e = x.0 in let le = x.1 in ⊎_elim (λ y. inl (omega arith)) (λ y. let f = y.0 in let lf = y.1 in inr (omega arith, omega arith)) k)
    h

module _ (n : NetworkParts) (flags : List Bool) (seats : List TriSeat) (costs : List ℕ) (from to : ℕ) where
  -- what a cut is
  pub record IsCutOf (c : Cut) : Type 0 where
    pub live : IsLiveTri n flags c.tri
    pub apex : ℕ
    pub corners : HasCorners (tri_at n c.tri) to apex from
    pub first : ℕ
    pub second : ℕ
    pub first_is : IsNumberOf n to apex first
    pub second_is : IsNumberOf n apex from second
    pub sum : c.sum ≡ slice_index costs first + slice_index costs second
    pub middle : c.middle ≡ (tri_seat seats c.tri).middle

  -- the cut is no worse than one by t
  abbrev pub IsNoWorseThan : Cut → ℕ → Type 0
  IsNoWorseThan c t =
      IsLiveTri n flags t → (r x y : ℕ) → HasCorners (tri_at n t) to r from → IsNumberOf n to r x → IsNumberOf n r from y
      → IsNoWorse c (slice_index costs x + slice_index costs y) (tri_seat seats t).middle

  -- the best cut of the first k triangles of a row
  abbrev pub IsBestUpto : List ℕ → ℕ → Option Cut → Type 0
  IsBestUpto row k None = (m : ℕ) → m < k → ¬ IsLiveTri n flags (slice_index row m)
  IsBestUpto row k (Some c) = IsCutOf c × ((m : ℕ) → m < k → IsNoWorseThan c (slice_index row m))

  -- one more triangle that is not live
  pub best_kept : (row : List ℕ) (k : ℕ) (best : Option Cut) → IsBestUpto row k best → ¬ IsLiveTri n flags (slice_index row k) → IsBestUpto row (k + 1) best
  best_kept row k None h dead = below_more (λ m. ¬ IsLiveTri n flags (slice_index row m)) k h dead
  best_kept row k (Some c) h dead = (h.0, below_more (λ m. IsNoWorseThan c (slice_index row m)) k h.1 (λ live. absurd (dead live)))

  -- the cut by a live triangle with the side
  cut_of : (e t : ℕ) (c : Cut) → IsNetwork n → IsNumberOf n from to e → IsLiveTri n flags t → HasSide (tri_at n t) from to → IsCutBy n seats costs e t c → IsCutOf c
  cut_of e t c net e_is live (r, side) by =
      let corners : HasCorners (tri_at n t) to r from = turned_corners (tri_at n t) from to r side in
      let (x, x_is) = number_of n t to r net live.0 (from, corners) in
      let (y, y_is) = number_of n t r from net live.0 (to, turned_corners (tri_at n t) to r from corners) in
      let is = by.0 in
      record {
        live = subst (IsLiveTri n flags) (sym is) live;
        apex = r;
        corners = subst (λ (k : ℕ). HasCorners (tri_at n k) to r from) (sym is) corners;
        first = x;
        second = y;
        first_is = x_is;
        second_is = y_is;
        sum = by.2 to r from x y corners e_is x_is y_is;
        middle = by.1 ∙ ap (λ k. (tri_seat seats k).middle) (sym is);
      }

  own_no_worse : (e t : ℕ) (c d : Cut) → IsNumberOf n from to e → IsCutBy n seats costs e t c → IsNoWorse d c.sum c.middle → IsNoWorseThan d t
  own_no_worse e t c d e_is by less live r x y corners x_is y_is =
      subst (λ (m : ℕ). IsNoWorse d (slice_index costs x + slice_index costs y) m) by.1
      (subst (λ (sum : ℕ). IsNoWorse d sum c.middle) (by.2 to r from x y corners e_is x_is y_is) less)

  -- one more that is live
  pub best_more : (row : List ℕ) (k e : ℕ) (best : Option Cut) (c d : Cut) → IsNetwork n → IsNumberOf n from to e → IsBestUpto row k best → IsLiveTri n flags (slice_index row k)
      → HasSide (tri_at n (slice_index row k)) from to → IsCutBy n seats costs e (slice_index row k) c → IsCheaper best c d → IsBestUpto row (k + 1) (Some d)
  best_more row k e None c d net e_is h live side by cheap =
      let own = cut_of e (slice_index row k) c net e_is live side by in
      subst (λ (z : Cut). IsBestUpto row (k + 1) (Some z)) (sym cheap) (
        own,
        below_more (λ m. IsNoWorseThan c (slice_index row m)) k (λ m l alive. absurd (h m l alive))
            (own_no_worse e (slice_index row k) c c e_is by (inr (refl, omega arith))),
      )
  best_more row k e (Some b) c d net e_is h live side by cheap =
      ⊎_elim
      (λ old. subst (λ (z : Cut). IsBestUpto row (k + 1) (Some z)) (sym old.0) (
        h.0,
        below_more (λ m. IsNoWorseThan b (slice_index row m)) k h.1 (own_no_worse e (slice_index row k) c b e_is by old.1),
      ))
      (λ new. subst (λ (z : Cut). IsBestUpto row (k + 1) (Some z)) (sym new.0) (
        cut_of e (slice_index row k) c net e_is live side by,
        below_more (λ m. IsNoWorseThan c (slice_index row m)) k
            (λ m l alive r x y corners x_is y_is. no_worse c b _ _ new.1 (h.1 m l alive r x y corners x_is y_is))
            (own_no_worse e (slice_index row k) c c e_is by (inr (refl, omega arith))),
      ))
      cheap

  -- the whole row of a side
  pub best_all : (row : List ℕ) (k : ℕ) (best : Option Cut) → ((t : ℕ) → Contains row t ↔ ((t < length n.tris) × HasSide (tri_at n t) from to)) → length row ≤ k
      → IsBestUpto row k best → MatchOption best ((t : ℕ) → IsLiveTri n flags t → ¬ HasSide (tri_at n t) from to) (IsBestCut n flags seats costs from to)
  best_all row k None members all h =
      λ t live side.
      let (m, m_in, at_m) = (members t).1 (live.0, side) in
      let is : slice_index row m ≡ t = get_or_default row m 0 t m_in ∙ at_m in
      h m (omega arith) (subst (IsLiveTri n flags) (sym is) live)
  best_all row k (Some c) members all h =
      let own = h.0 in
      record {
        live = own.live;
        apex = own.apex;
        corners = own.corners;
        first = own.first;
        second = own.second;
        first_is = own.first_is;
        second_is = own.second_is;
        sum = own.sum;
        middle = own.middle;
        least = λ t r x y live corners x_is y_is.
            let side : HasSide (tri_at n t) from to = (r, turned_corners (tri_at n t) r from to (turned_corners (tri_at n t) to r from corners)) in
            let (m, m_in, at_m) = (members t).1 (live.0, side) in
            let is : slice_index row m ≡ t = get_or_default row m 0 t m_in ∙ at_m in
            subst (IsNoWorseThan c) is (h.1 m (omega arith)) live r x y corners x_is y_is;
      }
