-- Edges that are due, where one is tried and stays, and where one is dropped.
use Rattle.std.proofs.Common.{◌≡◌, ◌≢◌, ◌⊎◌, ℕ, ◌<◌, ◌≤◌, Bool, true, false, List, length, get_or, set, Contains, refl, ap, sym, ◌∙◌, subst, ⊎_elim, inl, inr, arith}
use Rattle.std.proofs.lemmas.Bool.{false≢true, cases_lt, cases_eq}
use Rattle.std.proofs.lemmas.List.{length-set, get_or-set_same, get_or-set_other}
use Rattle.exact_predicates.specs.Candidates.{Joins}
use Rattle.exact_predicates.specs.Triangulation.{HasCorners}
use Rattle.exact_predicates.proofs.Equalities.{Joins-ends, Joins-comm}
use Rattle.lmt_network.specs.Due.{AreSupportedUnlessDue, AreSidesDue, StayDue}
use Rattle.lmt_network.specs.Flags.{live_numbers}
use Rattle.lmt_network.specs.Network.{NetworkParts, edge_at, tri_at}
use Rattle.lmt_network.specs.Numbers.{HasSide, IsHullNumber, IsOnLeft, IsOnRight, IsSideOf, IsSupported}
use Rattle.lmt_network.proofs.Picked.{live_from_flag, flag_from_live, flag_in}
use Rattle.lmt_network.proofs.Settling.{sides_of_support}

-- the edge between two corners of a triangle is a side of it
side_from : (n : NetworkParts) (t f u v w : ℕ) → f < length n.edges → HasCorners (tri_at n t) u v w → Joins (edge_at n f) u v → IsSideOf n t f
side_from n t f u v w f_in corners joins =
    let low = joins.0 in
    let high = joins.1 in
    ⊎_elim
    (λ c. let p = c.0 in let q = c.1 in inl (f_in, (omega arith, omega arith)))
    (λ m. ⊎_elim
    (λ c. let p = c.0 in let q = c.1 in inr (inl (f_in, (omega arith, omega arith))))
    (λ c. let p = c.0 in let q = c.1 in inr (inr (f_in, (omega arith, omega arith))))
    m)
    corners

-- and a triangle is on the left or on the right of each of its sides
on_side : (n : NetworkParts) (t f : ℕ) → t < length n.tris → IsSideOf n t f → IsOnLeft n f t ⊎ IsOnRight n f t
on_side n t f t_in h =
    let s = tri_at n t in
    ⊎_elim
    (λ k. at s.a s.b (s.c, inl (refl, refl, refl)) k.1)
    (λ m. ⊎_elim (λ k. at s.b s.c (s.a, inr (inl (refl, refl, refl))) k.1) (λ k. at s.c s.a (s.b, inr (inr (refl, refl, refl))) k.1) m)
    h
  where
    at : (u v : ℕ) → HasSide (tri_at n t) u v → Joins (edge_at n f) u v → IsOnLeft n f t ⊎ IsOnRight n f t
    at u v side joins =
        let low = joins.0 in
        let high = joins.1 in
        ⊎_elim
        (λ (l : u < v).
        let a_is : u ≡ (edge_at n f).a = omega arith in let b_is : v ≡ (edge_at n f).b = omega arith in
        inl (t_in, subst (λ (x : ℕ). HasSide (tri_at n t) x (edge_at n f).b) a_is (subst (λ (y : ℕ). HasSide (tri_at n t) u y) b_is side)))
        (λ (m : v ≤ u).
        let a_is : v ≡ (edge_at n f).a = omega arith in let b_is : u ≡ (edge_at n f).b = omega arith in
        inr (t_in, subst (λ (x : ℕ). HasSide (tri_at n t) x (edge_at n f).a) b_is (subst (λ (y : ℕ). HasSide (tri_at n t) u y) a_is side)))
        (cases_lt u v)

-- an edge that is tried and stays
pub supported_tried : (n : NetworkParts) (live due : List Bool) (e : ℕ) → AreSupportedUnlessDue n live due → (get_or live e false ≡ true → IsHullNumber n e ⊎ IsSupported n (live_numbers live) e)
    → AreSupportedUnlessDue n live (set due e false)
supported_tried n live due e supported here = λ f is_live not_due.
    ⊎_elim
    (λ (same : f ≡ e). subst (λ (x : ℕ). get_or live x false ≡ true → IsHullNumber n x ⊎ IsSupported n (live_numbers live) x) (sym same) here is_live)
    (λ (other : f ≢ e). supported f is_live (sym (get_or-set_other due e f false false other) ∙ not_due))
    (cases_eq f e)

-- An edge that is dropped, where the sides of the triangles on it are due: an edge that is not due has no side of its support
-- dropped.
pub supported_dropped : (n : NetworkParts) (live due after : List Bool) (e : ℕ) → length live ≡ length n.edges → AreSupportedUnlessDue n live due → StayDue (set due e false) after
    → ((t : ℕ) → IsOnLeft n e t → AreSidesDue n live t after) → ((t : ℕ) → IsOnRight n e t → AreSidesDue n live t after) → AreSupportedUnlessDue n (set live e false) after
supported_dropped n live due after e one_each supported stay left right = λ f is_live not_due.
    let away : f ≢ e = λ same. dropped f same is_live in
    let was_live : get_or live f false ≡ true = sym (get_or-set_other live e f false false away) ∙ is_live in
    ⊎_elim (λ hull. inl hull) (λ s. inr (kept f was_live not_due s)) (supported f was_live (was_not_due f away not_due (get_or due f false) refl))
  where
    dropped : (f : ℕ) → f ≡ e → get_or (set live e false) f false ≡ true → ⊥
    dropped f same is_live =
        let f_in = flag_in (set live e false) f is_live in
        let e_in : e < length live = omega (arith, f_in, length-set live e false, same) in
        false≢true (sym (get_or-set_same live e false false e_in) ∙ (ap (λ (x : ℕ). get_or (set live e false) x false) (sym same) ∙ is_live))

    was_not_due : (f : ℕ) → f ≢ e → get_or after f false ≡ false → (b : Bool) → get_or due f false ≡ b → get_or due f false ≡ false
    was_not_due f away not_due true is = absurd (false≢true (sym not_due ∙ stay f (get_or-set_other due e f false false away ∙ is)))
    was_not_due f away not_due false is = is

    -- a triangle with a live side that is not due has not lost the side e
    whole : (f t : ℕ) → get_or after f false ≡ false → t < length n.tris → IsSideOf n t f → ((g : ℕ) → IsSideOf n t g → Contains (live_numbers live) g) → ¬ IsSideOf n t e
    whole f t not_due t_in side sides lost =
        ⊎_elim
        (λ on. false≢true (sym not_due ∙ left t on sides f side))
        (λ on. false≢true (sym not_due ∙ right t on sides f side))
        (on_side n t e t_in lost)

    kept : (f : ℕ) → get_or live f false ≡ true → get_or after f false ≡ false → IsSupported n (live_numbers live) f → IsSupported n (live_numbers (set live e false)) f
    kept f was_live not_due s =
        let sides = sides_of_support n (live_numbers live) f (live_from_flag live f was_live) s in
        let f_in : f < length n.edges = omega (arith, flag_in live f was_live, one_each) in
        let ends = Joins-ends (edge_at n f) in
        let l_side = side_from n s.l f _ _ _ f_in s.pair.left_is ends in
        let r_side = side_from n s.r f _ _ _ f_in s.pair.right_is (Joins-comm (edge_at n f) _ _ ends) in
        record {
          l = s.l;
          r = s.r;
          pair = s.pair;
          others = λ g h.
              let away : g ≢ e = λ same. ⊎_elim
              (λ (k : IsSideOf n s.l g). whole f s.l not_due s.pair.l_in l_side sides.0 (subst (IsSideOf n s.l) same k))
              (λ (k : IsSideOf n s.r g). whole f s.r not_due s.pair.r_in r_side sides.1 (subst (IsSideOf n s.r) same k))
              h.1 in
              live_from_flag (set live e false) g (get_or-set_other live e g false false away ∙ flag_from_live live g (s.others g h));
        }
