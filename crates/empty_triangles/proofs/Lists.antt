-- The empty triangles, listed in their order.
use Rattle.std.proofs.Common.{◌≡◌, ◌≢◌, ◌⊎◌, ℕ, ◌+◌, ◌*◌, ◌<◌, ◌≤◌, List, [], ◌∷◌, ◌++◌, append_assoc, append-nil, refl, length, slice_index, get_or, All, AllPairs, Contains, inl, inr, ⊎_elim, arith, sym, ◌∙◌, ap, subst}
use Rattle.std.proofs.lemmas.Bool.{cases_lt}
use Rattle.std.proofs.lemmas.List.{get_or_default, get_or_append_left, get_or_push, length_push}
use Rattle.exact_predicates.specs.declared.edge.Edge.{Edge}
use Rattle.exact_predicates.specs.declared.point.Point.{Point}
use Rattle.exact_predicates.specs.declared.tri.Tri.{Tri}
use Rattle.exact_predicates.specs.Candidates.{TriPrecedes, HasEdge, IsEmptyOver, AreTrianglesOver, AreMoreThan}
use Rattle.exact_predicates.proofs.Equalities.{Tri-equal}
use Rattle.point_grid.proofs.Listings.{listing_append, listing_more, listing_none, listing_same}
use Rattle.empty_triangles.specs.Enumeration.{IsRow, IsFan, IsFanAdded, AreThirds, AreTrianglesWith, IsBefore, group_of}
use Rattle.empty_triangles.proofs.Emptiness.{IsEmptyOver-third, IsThird-empty}

-- t has the first corner a, and the second at a place of the row before i
pub record IsFromFan (a : ℕ) (row : List ℕ) (i : ℕ) (t : Tri) : Type 0 where
  pub place : ℕ
  pub place_in : place < i
  pub first : t.a ≡ a
  pub second : t.b ≡ slice_index row place

-- the greater end of an edge is one of the points
pub HasEdge-within : (es : List Edge) (n a b : ℕ) → All (λ e. e.b < n) es → a < b → HasEdge es a b → b < n
HasEdge-within es n a b within up (m, e, m_in, at_m, j) =
    let l = within m e m_in in
    let is = ap (λ (x : Edge). x.b) at_m in
    omega (arith, j.1)

-- an earlier group comes first
pub earlier : (s t : Tri) → group_of s < group_of t → TriPrecedes s t
earlier s t l = inl (omega arith)

-- the triangles of a fan with the first i third corners
pub record IsFanTo (a b : ℕ) (cs : List ℕ) (i : ℕ) (fan : List Tri) : Type 0 where
  pub count : length fan ≡ i
  pub each : (k : ℕ) (d : Tri) → k < length fan → let t = get_or fan k d in (t.a ≡ a) × (t.b ≡ b) × (t.c ≡ slice_index cs k)

-- come after the old ones
abbrev pub IsFanAddedTo : ℕ → ℕ → List ℕ → ℕ → List Tri → List Tri → Type 0
IsFanAddedTo a b cs i old new = (fan : List Tri) × (new ≡ old ++ fan) × IsFanTo a b cs i fan

pub IsFanAddedTo-none : (a b : ℕ) (cs : List ℕ) (old : List Tri) → IsFanAddedTo a b cs 0 old old
IsFanAddedTo-none a b cs old = ([], sym (append-nil old), record { count = refl; each = λ k d l. absurd (omega arith) })

pub IsFanAddedTo-push : (a b : ℕ) (cs : List ℕ) (i : ℕ) (old new : List Tri) (t : Tri) → t.a ≡ a → t.b ≡ b → t.c ≡ slice_index cs i → IsFanAddedTo a b cs i old new → IsFanAddedTo a b cs (i + 1) old (new ++ t ∷ [])
IsFanAddedTo-push a b cs i old new t ea eb ec (fan, is, h) =
    let n = h.count in
    let long = length_push fan t in (
      fan ++ t ∷ [],
      ap (λ xs. xs ++ t ∷ []) is ∙ append_assoc old fan (t ∷ []),
      record {
        count = omega arith;
        each = λ k d l. ⊎_elim
            (λ m. rw (get_or_append_left fan (t ∷ []) d k m) (h.each k d m))
            (λ m. let e : length fan ≡ k = omega arith in let same : i ≡ k = omega arith in rw (get_or_push fan t d k e) (ea, eb, ec ∙ ap (slice_index cs) same))
            (cases_lt k (length fan));
      },
    )

-- all of them are there
pub IsFanAdded-all : (a b : ℕ) (cs : List ℕ) (i : ℕ) (old new : List Tri) → length cs ≤ i → i ≤ length cs → IsFanAddedTo a b cs i old new → IsFanAdded a b cs old new
IsFanAdded-all a b cs i old new past within (fan, is, h) = record { fan = fan; is = is; each = record { count = let n = h.count in omega arith; each = h.each } }

module _ (ps : List Point) (es : List Edge) where
  -- at last
  pub with_all : (groups : ℕ) (ts : List Tri) → length ps ≤ 8 * groups → AreTrianglesWith ps es (λ t. group_of t < groups) ts → AreTrianglesOver ps es ts
  with_all groups ts past h = record {
    ascending = h.ascending;
    each = h.each;
    all = λ t e. let a_in = e.empty.a_in in h.all t (omega arith) e;
  }

  -- the first corners of a group: at first, one more, and all of them
  pub with_no_corner : (group a : ℕ) → a ≤ 8 * group → AreTrianglesWith ps es (IsBefore group a) []
  with_no_corner group a first = listing_none Tri TriPrecedes (IsEmptyOver ps es) (IsBefore group a) (λ t p. let p0 = p.0 in let p1 = p.1 in omega arith)

  pub with_next_corner : (group a : ℕ) (ts us : List Tri) → 8 * group ≤ a → a < 8 * group + 8 → AreTrianglesWith ps es (IsBefore group a) ts → AreTrianglesWith ps es (λ t. t.a ≡ a) us → AreTrianglesWith ps es (IsBefore group (a + 1)) (ts ++ us)
  with_next_corner group a ts us low high h k =
      listing_same Tri TriPrecedes (IsEmptyOver ps es) (λ t. IsBefore group a t ⊎ (t.a ≡ a)) (IsBefore group (a + 1)) (ts ++ us)
      (λ t. ⊎_elim (λ p. let p1 = p.1 in (p.0, omega arith)) (λ e. (omega arith, omega arith)))
      (λ t e p. let p1 = p.1 in ⊎_elim (λ l. inl (p.0, l)) (λ l. inr (omega arith)) (cases_lt t.a a))
      (listing_append Tri TriPrecedes (IsEmptyOver ps es) (IsBefore group a) (λ t. t.a ≡ a) ts us h k (λ s t p e. let p1 = p.1 in inl (omega arith)))

  pub with_all_corners : (group a : ℕ) (ts : List Tri) → (a < 8 * group + 8 → length ps ≤ a) → AreTrianglesWith ps es (IsBefore group a) ts → AreTrianglesWith ps es (λ t. group_of t ≡ group) ts
  with_all_corners group a ts past h =
      listing_same Tri TriPrecedes (IsEmptyOver ps es) (IsBefore group a) (λ t. group_of t ≡ group) ts (λ t p. p.0)
      (λ t e p. let a_in = e.empty.a_in in (p, ⊎_elim (λ l. let m = past l in omega arith) (λ l. omega arith) (cases_lt a (8 * group + 8))))
      h

  -- the fans of a first corner: at first, and one more
  pub with_no_fan : (a : ℕ) (row : List ℕ) → AreTrianglesWith ps es (IsFromFan a row 0) []
  with_no_fan a row = listing_none Tri TriPrecedes (IsEmptyOver ps es) (IsFromFan a row 0) (λ t p. let l = p.place_in in omega arith)

  pub with_next_fan : (a i : ℕ) (row : List ℕ) (ts us : List Tri) → IsRow es a row → i < length row → AreTrianglesWith ps es (IsFromFan a row i) ts → AreTrianglesWith ps es (λ t. (t.a ≡ a) × (t.b ≡ slice_index row i)) us
      → AreTrianglesWith ps es (IsFromFan a row (i + 1)) (ts ++ us)
  with_next_fan a i row ts us r i_in h k =
      listing_same Tri TriPrecedes (IsEmptyOver ps es) (λ t. IsFromFan a row i t ⊎ ((t.a ≡ a) × (t.b ≡ slice_index row i))) (IsFromFan a row (i + 1)) (ts ++ us)
      (λ t. ⊎_elim
      (λ f. let l = f.place_in in record { place = f.place; place_in = omega arith; first = f.first; second = f.second })
      (λ s. record { place = i; place_in = omega arith; first = s.0; second = s.1 }))
      (λ t e f. let p_in = f.place_in in ⊎_elim
      (λ l. inl (record { place = f.place; place_in = l; first = f.first; second = f.second }))
      (λ l. let same : f.place ≡ i = omega arith in inr (f.first, f.second ∙ ap (slice_index row) same))
      (cases_lt f.place i))
      (listing_append Tri TriPrecedes (IsEmptyOver ps es) (IsFromFan a row i) (λ t. (t.a ≡ a) × (t.b ≡ slice_index row i)) ts us h k
      (λ s t f q. let first = f.first in let second = f.second in let q0 = q.0 in let q1 = q.1 in
      let m = r.ascending f.place i 0 f.place_in i_in in inr (inl (omega arith, omega arith))))

  -- all fans are done
  pub with_all_fans : (a i : ℕ) (row : List ℕ) (ts : List Tri) → IsRow es a row → length row ≤ i → i ≤ length row → AreTrianglesWith ps es (IsFromFan a row i) ts → AreTrianglesWith ps es (λ t. t.a ≡ a) ts
  with_all_fans a i row ts r past within =
      listing_same Tri TriPrecedes (IsEmptyOver ps es) (IsFromFan a row i) (λ t. t.a ≡ a) ts (λ t f. f.first) from
    where
      from : (t : Tri) → IsEmptyOver ps es t → t.a ≡ a → IsFromFan a row i t
      from t e same =
          let up = t.below_b in
          let (p, p_in, at_p) = r.all t.b (omega arith) (subst (λ (x : ℕ). HasEdge es x t.b) same e.ab) in
          record { place = p; place_in = omega arith; first = same; second = sym (get_or_default row p 0 t.b p_in ∙ at_p) }

  -- a fan has all triangles with its two corners
  pub AreTrianglesWith-fan : (a b : ℕ) (cs : List ℕ) (us : List Tri) → a < b → b < length ps → HasEdge es a b → AreThirds ps es a b cs → AllPairs ◌<◌ cs → IsFan a b cs us → AreTrianglesWith ps es (λ t. (t.a ≡ a) × (t.b ≡ b)) us
  AreTrianglesWith-fan a b cs us up b_in ab h rising f = record {
    ascending = λ i j d l m.
        let p = f.each i d (omega arith) in
        let q = f.each j d m in
        let n = f.count in
        let p0 = p.0 in let p1 = p.1 in let p2 = p.2 in let q0 = q.0 in let q1 = q.1 in let q2 = q.2 in
        let lt = rising i j 0 l (omega arith) in
        inr (inr (omega arith, omega arith, omega arith));
    are = λ k d l. let p = f.each k d l in (p.0, p.1);
    each = λ k d l.
        let p = f.each k d l in
        let n = f.count in
        IsEmptyOver-third ps es a b (slice_index cs k) (get_or us k d) b_in ab (h.each k 0 (omega arith)) p.0 p.1 p.2;
    all = λ t p e. found t p.0 p.1 (h.all t.c (rw p.1 at (rw p.0 at (IsThird-empty ps es t e))));
  }
    where
      found : (t : Tri) → t.a ≡ a → t.b ≡ b → Contains cs t.c → Contains us t
      found t ea eb (k, k_in, at_k) =
          let n = f.count in
          let k_us : k < length us = omega arith in
          let q = f.each k t k_us in
          (k, k_us, Tri-equal (get_or us k t) t (q.0 ∙ sym ea) (q.1 ∙ sym eb) (q.2 ∙ (get_or_default cs k 0 t.c k_in ∙ at_k)))

  -- what is listed tells how many there are
  pub more_than_listed : (P : Tri → Type 0) (limit : ℕ) (ts : List Tri) → limit < length ts → AreTrianglesWith ps es P ts → AreMoreThan (IsEmptyOver ps es) limit
  more_than_listed P limit ts more h = listing_more Tri TriPrecedes (IsEmptyOver ps es) P limit ts tris_apart more h
    where
      tris_apart : (s t : Tri) → TriPrecedes s t → s ≢ t
      tris_apart s t h same =
          let a = ap (λ (x : Tri). x.a) same in
          let b = ap (λ (x : Tri). x.b) same in
          let c = ap (λ (x : Tri). x.c) same in
          ⊎_elim (λ l. omega arith) (⊎_elim (λ l. let l1 = l.1 in omega arith) (λ l. let l2 = l.2 in omega arith)) h
