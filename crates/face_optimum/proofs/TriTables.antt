-- The seats of triangles, one after the other.
use Rattle.std.proofs.Common.{◌≡◌, ℕ, ◌+◌, ◌<◌, ◌≤◌, List, [], ◌∷◌, ◌++◌, Bool, None, Some, length, slice_index, sym, ◌∙◌, subst, refl, ⊎_elim, inl, inr, arith}
use Rattle.std.proofs.lemmas.Bool.{cases_lt}
use Rattle.std.proofs.lemmas.List.{get_or_append_left, get_or_push, length_push}
use Rattle.exact_predicates.specs.declared.tri.Tri.{Tri}
use Rattle.lmt_network.specs.Network.{NetworkParts, edge_at, tri_at}
use Rattle.lmt_network.specs.Numbers.{HasSide, IsNumberOf, IsOnLeft, IsOnRight}
use Rattle.face_optimum.specs.declared.seat.Link.{Link}
use Rattle.face_optimum.specs.declared.seat.TriSeat.{TriSeat}
use Rattle.face_optimum.specs.Places.{face_at}
use Rattle.face_optimum.specs.Seats.{IsLiveTri, tri_seat}
use Rattle.face_optimum.specs.SeatTables.{AreFromFirst, AreTriSeats, HasTriNowhere, IsLink, IsTriLinked}

some_tri : (s t : TriSeat) → Some s ≡ Some t → s ≡ t
some_tri s t h = cc

no_tri : (s : TriSeat) → None ≡ Some s → ⊥
no_tri s h = cc

module _ (n : NetworkParts) (flags : List Bool) (faces : List (List ℕ)) (off : List Bool) where
  pub tri_seats_none : AreTriSeats n flags faces off 0 []
  tri_seats_none = record { one_each = refl; each = λ t l _. absurd (omega arith); only = λ t s l _ _. absurd (omega arith) }

  pub tri_seats_more : (k : ℕ) (before : List TriSeat) (seat : TriSeat) → AreTriSeats n flags faces off k before
      → (IsLiveTri n flags k → IsTriLinked n faces off (tri_at n k) seat)
      → (IsLiveTri n flags k → (s : TriSeat) → IsTriLinked n faces off (tri_at n k) s → Some seat ≡ Some s)
      → AreTriSeats n flags faces off (k + 1) (before ++ seat ∷ [])
  tri_seats_more k before seat are is only =
      record {
        one_each = omega (arith, length_push before seat, are.one_each);
        each = λ t l live. ⊎_elim
            (λ m. subst (IsTriLinked n faces off (tri_at n t)) (sym (kept t m)) (are.each t m live))
            (λ m.
            let e : k ≡ t = omega arith in
            subst (IsTriLinked n faces off (tri_at n t)) (sym (last t e)) (subst (λ (i : ℕ). IsTriLinked n faces off (tri_at n i) seat) e (is (subst (IsLiveTri n flags) (sym e) live))))
            (cases_lt t k);
        only = λ t s l live linked. ⊎_elim
            (λ m. are.only t s m live linked ∙ sym (kept t m))
            (λ m.
            let e : k ≡ t = omega arith in
            sym (some_tri seat s (only (subst (IsLiveTri n flags) (sym e) live) s (subst (λ (i : ℕ). IsTriLinked n faces off (tri_at n i) s) (sym e) linked))) ∙ sym (last t e))
            (cases_lt t k);
      }
    where
      kept : (t : ℕ) → t < k → tri_seat (before ++ seat ∷ []) t ≡ tri_seat before t
      kept t m = get_or_append_left before (seat ∷ []) _ t (omega (arith, are.one_each))

      last : (t : ℕ) → k ≡ t → tri_seat (before ++ seat ∷ []) t ≡ seat
      last t e = get_or_push before seat _ t (are.one_each ∙ e)

  pub nowhere : (k : ℕ) → k < length n.tris → IsLiveTri n flags k → (IsLiveTri n flags k → (s : TriSeat) → IsTriLinked n faces off (tri_at n k) s → None ≡ Some s) → HasTriNowhere n flags faces off
  nowhere k k_in live only = (k, k_in, live, λ s linked. no_tri s (only live s linked))

-- the side from the last place of a linked triangle to the first
pub has_side : (n : NetworkParts) (faces : List (List ℕ)) (off : List Bool) (t : Tri) (s : TriSeat) (f i l : ℕ) → IsTriLinked n faces off t s → s.face ≡ f → s.first ≡ i → s.last ≡ l
    → HasSide t (slice_index (face_at faces f) l) (slice_index (face_at faces f) i)
has_side n faces off t s f i l h face_is first_is last_is =
    subst (λ (x : ℕ). HasSide t (slice_index (face_at faces x) l) (slice_index (face_at faces x) i)) face_is
    (subst (λ (x : ℕ). HasSide t (slice_index (face_at faces s.face) x) (slice_index (face_at faces s.face) i)) last_is
    (subst (λ (x : ℕ). HasSide t (slice_index (face_at faces s.face) s.last) (slice_index (face_at faces s.face) x)) first_is here))
  where
    side : (u v : ℕ) (z : Link) → IsLink n faces off u v z → z ≡ record { face = s.face; from = s.last; to = s.first } → (u ≡ slice_index (face_at faces s.face) s.last) × (v ≡ slice_index (face_at faces s.face) s.first)
    side u v z is e = let k = subst (IsLink n faces off u v) e is in (sym k.from, sym k.to)

    here : HasSide t (slice_index (face_at faces s.face) s.last) (slice_index (face_at faces s.face) s.first)
    here = ⊎_elim
        (λ (k : AreFromFirst s h.ab h.bc h.ca). let e = side t.c t.a h.ca h.ca_is k.1.1 in (t.b, inr (inr (e.0, e.1, refl))))
        (λ m. ⊎_elim
        (λ (k : AreFromFirst s h.bc h.ca h.ab). let e = side t.a t.b h.ab h.ab_is k.1.1 in (t.c, inl (e.0, e.1, refl)))
        (λ (k : AreFromFirst s h.ca h.ab h.bc). let e = side t.b t.c h.bc h.bc_is k.1.1 in (t.a, inr (inl (e.0, e.1, refl))))
        m)
        h.round.round

-- it is on the left of its edge where the side goes up, and else on the right
pub on_left : (n : NetworkParts) (e t from to : ℕ) → IsNumberOf n from to e → from < to → t < length n.tris → HasSide (tri_at n t) from to → IsOnLeft n e t
on_left n e t from to number up t_in side =
    let a_is : from ≡ (edge_at n e).a = omega (arith, number.1) in
    let b_is : to ≡ (edge_at n e).b = omega (arith, number.1) in
    (t_in, subst (λ (x : ℕ). HasSide (tri_at n t) x (edge_at n e).b) a_is (subst (λ (y : ℕ). HasSide (tri_at n t) from y) b_is side))

pub on_right : (n : NetworkParts) (e t from to : ℕ) → IsNumberOf n from to e → to ≤ from → t < length n.tris → HasSide (tri_at n t) from to → IsOnRight n e t
on_right n e t from to number down t_in side =
    let b_is : from ≡ (edge_at n e).b = omega (arith, number.1) in
    let a_is : to ≡ (edge_at n e).a = omega (arith, number.1) in
    (t_in, subst (λ (x : ℕ). HasSide (tri_at n t) x (edge_at n e).a) b_is (subst (λ (y : ℕ). HasSide (tri_at n t) from y) a_is side))
