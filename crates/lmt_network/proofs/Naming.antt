-- The edges of a network and their numbers: closed edges by number are a closed list, and the other way round.
use Rattle.std.proofs.Common.{◌≡◌, ◌≢◌, ◌⊎◌, ℕ, ◌<◌, Bool, true, false, List, [], ◌∷◌, length, get_or, All, AllPairs, Contains, ap, sym, ◌∙◌, subst, ⊎_elim, inl, inr, arith}
use Rattle.std.proofs.lemmas.Bool.{cases_lt, cases_eq}
use Rattle.std.proofs.lemmas.List.{get_or_default}
use Rattle.std.proofs.lemmas.List.Elements.{All-contains, All-head, All-tail}
use Rattle.exact_predicates.specs.declared.diamond.Diamond.{Diamond}
use Rattle.exact_predicates.specs.declared.edge.Edge.{Edge}
use Rattle.exact_predicates.specs.declared.tri.Tri.{Tri}
use Rattle.exact_predicates.specs.Triangulation.{HasCorners}
use Rattle.exact_predicates.specs.Candidates.{EdgePrecedes, Joins, HasEdge, IsCandidate, AreCandidates, IsEmptyOver}
use Rattle.exact_predicates.proofs.ListOrder.{EdgePrecedes-irreflexive}
use Rattle.exact_predicates.proofs.Equalities.{HasEdge-Contains, Contains-HasEdge}
use Rattle.exact_predicates.proofs.ListOrder.{EdgePrecedes-irreflexive}
use Rattle.lmt_network.specs.Live.{IsHullEdge, HasSupport, IsClosed, IsLive}
use Rattle.lmt_network.specs.Flags.{live_numbers, live_edges}
use Rattle.lmt_network.specs.Network.{NetworkParts, IsNetwork, edge_at, tri_at}
use Rattle.lmt_network.specs.NumberLaws.{DeadIsInNone, LiveNumbersAreLive}
use Rattle.lmt_network.specs.Numbers.{IsHullNumber, IsNumberOf, IsSideOf, IsSupported, AreClosed, AreLive}
use Rattle.lmt_network.proofs.Picked.{All-from_members, Contains-here, Contains-later, Contains-cases, Contains-nil, picked_in, picked_from, AllPairs-picked, flag_in, live_from_flag, flag_from_live}

-- fs are the edges with the numbers es
pub record AreNamed (n : NetworkParts) (es : List ℕ) (fs : List Edge) : Type 0 where
  pub in_range : (e : ℕ) → Contains es e → e < length n.edges
  pub there : (e : ℕ) → Contains es e → Contains fs (edge_at n e)
  pub back : (e : ℕ) → e < length n.edges → Contains fs (edge_at n e) → Contains es e
  pub known : (f : Edge) → Contains fs f → Contains n.edges f

-- what a list has, read at its place
pub read_member : {X : Type 0} (xs : List X) (x d : X) → (h : Contains xs x) → get_or xs h.0 d ≡ x
read_member xs x d (k, k_in, at_k) = get_or_default xs k d x k_in ∙ at_k

-- an edge has one number
pub edge_at-once : (n : NetworkParts) (i j : ℕ) → AllPairs EdgePrecedes n.edges → i < length n.edges → j < length n.edges → edge_at n i ≡ edge_at n j → i ≡ j
edge_at-once n i j up i_in j_in same =
    ⊎_elim
    (λ l. absurd (EdgePrecedes-irreflexive (edge_at n j) (subst (λ (x : Edge). EdgePrecedes x (edge_at n j)) same (up i j _ l j_in))))
    (λ m. ⊎_elim
    (λ l. absurd (EdgePrecedes-irreflexive (edge_at n j) (subst (λ (x : Edge). EdgePrecedes (edge_at n j) x) same (up j i _ l i_in))))
    (λ k. omega arith)
    (cases_lt j i))
    (cases_lt i j)

-- the numbers of edges of the network
pub numbers_of : (n : NetworkParts) (fs : List Edge) → AllPairs EdgePrecedes n.edges → All (Contains n.edges) fs → (es : List ℕ) × AreNamed n es fs
numbers_of n [] up known = (
  [],
  record {
    in_range = λ e h. absurd (Contains-nil e h);
    there = λ e h. absurd (Contains-nil e h);
    back = λ e e_in h. absurd (Contains-nil (edge_at n e) h);
    known = λ f h. absurd (Contains-nil f h);
  },
)
numbers_of n (f ∷ fs) up known =
    let first = All-head (Contains n.edges) f fs known in
    let rest = numbers_of n fs up (All-tail (Contains n.edges) f fs known) in
    let is : edge_at n first.0 ≡ f = read_member n.edges f _ first in (
      first.0 ∷ rest.0,
      record {
        in_range = λ e h. ⊎_elim (λ (p : first.0 ≡ e). subst (λ (x : ℕ). x < length n.edges) p first.1) (λ (t : Contains rest.0 e). rest.1.in_range e t) (Contains-cases first.0 e rest.0 h);
        there = λ e h. ⊎_elim
            (λ (p : first.0 ≡ e). subst (λ (x : Edge). Contains (f ∷ fs) x) (sym is ∙ ap (edge_at n) p) (Contains-here f fs))
            (λ (t : Contains rest.0 e). Contains-later f (edge_at n e) fs (rest.1.there e t))
            (Contains-cases first.0 e rest.0 h);
        back = λ e e_in h. ⊎_elim
            (λ (p : f ≡ edge_at n e). subst (λ (x : ℕ). Contains (first.0 ∷ rest.0) x) (edge_at-once n first.0 e up first.1 e_in (is ∙ p)) (Contains-here first.0 rest.0))
            (λ (t : Contains fs (edge_at n e)). Contains-later first.0 e rest.0 (rest.1.back e e_in t))
            (Contains-cases f (edge_at n e) fs h);
        known = λ g h. All-contains (Contains n.edges) (f ∷ fs) g known h;
      },
    )

-- the number of a triangle over fewer edges
pub tri_number : (n : NetworkParts) (fs : List Edge) (t : Tri) → IsNetwork n → ((f : Edge) → Contains fs f → Contains n.edges f) → IsEmptyOver n.points fs t → Contains n.tris t
tri_number n fs t net known over =
    net.tris_are.all t (record {
      empty = over.empty;
      ab = wider t.a t.b over.ab;
      bc = wider t.b t.c over.bc;
      ca = wider t.c t.a over.ca;
    })
  where
    wider : (u v : ℕ) → HasEdge fs u v → HasEdge n.edges u v
    wider u v (k, e, k_in, at_k, h) = HasEdge-Contains n.edges e u v h (known e (k, k_in, at_k))

-- a side of a triangle over named edges has its number among theirs
pub side_named : (n : NetworkParts) (es : List ℕ) (fs : List Edge) (t f : ℕ) → AreNamed n es fs → IsEmptyOver n.points fs (tri_at n t) → IsSideOf n t f → Contains es f
side_named n es fs t f named over h =
    ⊎_elim
    (λ k. at (tri_at n t).a (tri_at n t).b over.ab k)
    (λ m. ⊎_elim (λ k. at (tri_at n t).b (tri_at n t).c over.bc k) (λ k. at (tri_at n t).c (tri_at n t).a over.ca k) m)
    h
  where
    at : (u v : ℕ) → HasEdge fs u v → IsNumberOf n u v f → Contains es f
    at u v has k = named.back f k.0 (Contains-HasEdge fs (edge_at n f) u v k.1 has)

-- a supported edge is supported by number
support_number : (n : NetworkParts) (es : List ℕ) (fs : List Edge) (e : ℕ) → IsNetwork n → AreNamed n es fs → HasSupport n.points fs (edge_at n e) → IsSupported n es e
support_number n es fs e net named s =
    let left = tri_number n fs s.left net named.known s.left_over in
    let right = tri_number n fs s.right net named.known s.right_over in
    let left_is : tri_at n left.0 ≡ s.left = read_member n.tris s.left _ left in
    let right_is : tri_at n right.0 ≡ s.right = read_member n.tris s.right _ right in
    record {
      l = left.0;
      r = right.0;
      pair = record {
        l_in = left.1;
        r_in = right.1;
        a = s.a;
        b = s.b;
        left_is = subst (λ (t : Tri). HasCorners t (edge_at n e).a (edge_at n e).b s.a) (sym left_is) s.left_is;
        right_is = subst (λ (t : Tri). HasCorners t (edge_at n e).b (edge_at n e).a s.b) (sym right_is) s.right_is;
        minimal = s.minimal;
      };
      others = λ f h. ⊎_elim
          (λ k. side_named n es fs left.0 f named (subst (IsEmptyOver n.points fs) (sym left_is) s.left_over) k)
          (λ k. side_named n es fs right.0 f named (subst (IsEmptyOver n.points fs) (sym right_is) s.right_over) k)
          h.1;
    }

-- a closed list is closed by number
pub closed_numbers : (n : NetworkParts) (diamond : Diamond) (es : List ℕ) (fs : List Edge) → IsNetwork n → AreNamed n es fs → IsClosed n.points n.hull diamond fs → AreClosed n es
closed_numbers n diamond es fs net named closed =
    All-from_members (λ x. (x < length n.edges) × (IsHullNumber n x ⊎ IsSupported n es x)) es
    (λ e has. (
      named.in_range e has,
      ⊎_elim
          (λ (h : IsHullEdge n.hull (edge_at n e)). inl h)
          (λ (s : HasSupport n.points fs (edge_at n e)). inr (support_number n es fs e net named s))
          (All-contains (λ x. IsHullEdge n.hull x ⊎ HasSupport n.points fs x) fs (edge_at n e) closed.supported (named.there e has)),
    ))

-- a triangle whose sides, but for one that is among the named edges, have their numbers among theirs
pub over_named : (n : NetworkParts) (es : List ℕ) (fs : List Edge) (e t : ℕ) → IsNetwork n → AreNamed n es fs → t < length n.tris → Contains es e
    → ((f : ℕ) → f ≢ e → IsSideOf n t f → Contains es f) → IsEmptyOver n.points fs (tri_at n t)
over_named n es fs e t net named t_in has others =
    let over : IsEmptyOver n.points n.edges (tri_at n t) = net.tris_are.each t _ t_in in
    record {
      empty = over.empty;
      ab = at (tri_at n t).a (tri_at n t).b over.ab (λ f k. inl k);
      bc = at (tri_at n t).b (tri_at n t).c over.bc (λ f k. inr (inl k));
      ca = at (tri_at n t).c (tri_at n t).a over.ca (λ f k. inr (inr k));
    }
  where
    at : (u v : ℕ) → HasEdge n.edges u v → ((f : ℕ) → IsNumberOf n u v f → IsSideOf n t f) → HasEdge fs u v
    at u v (k, x, k_in, at_k, joins) side =
        let is : edge_at n k ≡ x = get_or_default n.edges k _ x k_in ∙ at_k in
        let named_k : IsNumberOf n u v k = (k_in, subst (λ (y : Edge). Joins y u v) (sym is) joins) in
        let has_k : Contains es k = ⊎_elim (λ same. subst (Contains es) (sym same) has) (λ other. others k other (side k named_k)) (cases_eq k e) in
        HasEdge-Contains fs (edge_at n k) u v named_k.1 (named.there k has_k)

-- a supported number is a supported edge
number_support : (n : NetworkParts) (es : List ℕ) (fs : List Edge) (e : ℕ) → IsNetwork n → AreNamed n es fs → Contains es e → IsSupported n es e → HasSupport n.points fs (edge_at n e)
number_support n es fs e net named has s =
    record {
      left = tri_at n s.l;
      right = tri_at n s.r;
      a = s.pair.a;
      b = s.pair.b;
      left_is = s.pair.left_is;
      right_is = s.pair.right_is;
      left_over = over_named n es fs e s.l net named s.pair.l_in has (λ f other side. s.others f (other, inl side));
      right_over = over_named n es fs e s.r net named s.pair.r_in has (λ f other side. s.others f (other, inr side));
      minimal = s.pair.minimal;
    }

-- the edges of closed numbers, ascending, are a closed list
pub closed_edges : (n : NetworkParts) (diamond : Diamond) (es : List ℕ) (fs : List Edge) → IsNetwork n → AreCandidates n.points n.hull diamond n.edges → AreNamed n es fs → AllPairs EdgePrecedes fs
    → AreClosed n es → IsClosed n.points n.hull diamond fs
closed_edges n diamond es fs net candidates named up closed =
    record {
      ascending = up;
      candidates = All-from_members (IsCandidate n.points n.hull diamond) fs (λ f has. All-contains (IsCandidate n.points n.hull diamond) n.edges f candidates.each (named.known f has));
      supported = All-from_members (λ x. IsHullEdge n.hull x ⊎ HasSupport n.points fs x) fs (λ f has.
          let k = named.known f has in
          let is : edge_at n k.0 ≡ f = read_member n.edges f _ k in
          let has_k : Contains es k.0 = named.back k.0 k.1 (subst (Contains fs) (sym is) has) in
          subst (λ (x : Edge). IsHullEdge n.hull x ⊎ HasSupport n.points fs x) is (⊎_elim
          (λ (h : IsHullNumber n k.0). inl h)
          (λ (s : IsSupported n es k.0). inr (number_support n es fs k.0 net named has_k s))
          (All-contains (λ x. (x < length n.edges) × (IsHullNumber n x ⊎ IsSupported n es x)) es k.0 closed has_k).1));
    }

-- the edges of the live numbers, ascending, are the live list
pub live_edges_list : (n : NetworkParts) (diamond : Diamond) (es : List ℕ) (fs : List Edge) → IsNetwork n → AreCandidates n.points n.hull diamond n.edges → AreNamed n es fs → AllPairs EdgePrecedes fs
    → AreLive n es → IsLive n.points n.hull diamond fs
live_edges_list n diamond es fs net candidates named up live =
    record {
      closed = closed_edges n diamond es fs net candidates named up live.closed;
      hull_edges = λ f hull.
          let k = net.hull_edges f hull in
          let is : edge_at n k.0 ≡ f = read_member n.edges f _ k in
          subst (Contains fs) is (named.there k.0 (live.hull_edges k.0 k.1 (subst (IsHullEdge n.hull) (sym is) hull)));
      greatest = λ gs closed.
          let known = All-from_members (Contains n.edges) gs (λ g has. candidates.all g (All-contains (IsCandidate n.points n.hull diamond) gs g closed.candidates has)) in
          let numbers = numbers_of n gs net.ascending known in
          let every = live.greatest numbers.0 (closed_numbers n diamond numbers.0 gs net numbers.1 closed) in
          All-from_members (Contains fs) gs (λ g has.
          let k = All-contains (Contains n.edges) gs g known has in
          let is : edge_at n k.0 ≡ g = read_member n.edges g _ k in
          subst (Contains fs) is (named.there k.0 (All-contains (Contains es) numbers.0 k.0 every (numbers.1.back k.0 k.1 (subst (Contains gs) (sym is) has)))));
    }

-- the live edges are named by the live numbers
pub flags_named : (n : NetworkParts) (flags : List Bool) → AllPairs EdgePrecedes n.edges → length flags ≡ length n.edges → AreNamed n (live_numbers flags) (live_edges n flags)
flags_named n flags up one_each =
    record {
      in_range = λ e has. let l = flag_in flags e (flag_from_live flags e has) in omega arith;
      there = λ e has. let flag = flag_from_live flags e has in let l = flag_in flags e flag in picked_in flags n.edges e _ (omega arith) flag;
      back = λ e e_in has.
          let r = picked_from flags n.edges (edge_at n e) has in
          let is : edge_at n r.0 ≡ edge_at n e = get_or_default n.edges r.0 _ (edge_at n e) r.1 ∙ r.3 in
          live_from_flag flags e (subst (λ (x : ℕ). get_or flags x false ≡ true) (edge_at-once n r.0 e up r.1 e_in is) r.2);
      known = λ f has. let r = picked_from flags n.edges f has in (r.0, r.1, r.3);
    }

-- so the live edges, as a list, are the live list
pub live_numbers_law : LiveNumbersAreLive
live_numbers_law n diamond flags net candidates one_each live =
    live_edges_list n diamond (live_numbers flags) (live_edges n flags) net candidates (flags_named n flags net.ascending one_each)
    (AllPairs-picked EdgePrecedes flags n.edges net.ascending) live

-- an edge that a closed list has is not dead
pub dead_law : DeadIsInNone
dead_law n diamond e fs net candidates e_in dead closed has =
    let known = All-from_members (Contains n.edges) fs (λ f in_fs. candidates.all f (All-contains (IsCandidate n.points n.hull diamond) fs f closed.candidates in_fs)) in
    let numbers = numbers_of n fs net.ascending known in
    dead numbers.0 (closed_numbers n diamond numbers.0 fs net numbers.1 closed) (numbers.1.back e e_in has)
