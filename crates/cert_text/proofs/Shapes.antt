-- Edges and triangles that are made of the numbers of a line.
use Rattle.std.proofs.Common.{◌≡◌, ℕ, Bool, true, false, eqb, ltb, Result, Ok, refl, sym, ap, arith}
use Rattle.std.proofs.lemmas.Bool.{ltb-false, eqb-true}
use Rattle.exact_predicates.specs.declared.edge.Edge.{Edge}
use Rattle.exact_predicates.specs.declared.tri.Tri.{Tri}
use Rattle.exact_predicates.proofs.Equalities.{Edge-equal, Tri-equal}
use Rattle.cert_text.specs.declared.found.Flaw.{Flaw}
use Rattle.cert_text.specs.Lines.{edge_when, edge_of, tri_when, tri_of}

abbrev found : {A : Type 0} (E : Type 0) → A → Result A E
found E x = Ok x

-- a value that is found is one
pub value_is : {A E : Type 0} (x y : A) → found E x ≡ found E y → x ≡ y
value_is x y e = cc

-- an edge is found of its ends
pub edge_again : (e : Edge) → edge_of (e.a, e.b) ≡ Ok e
unfolding edge_of
edge_again e = go (ltb e.a e.b) refl where
  go : (v : Bool) (p : ltb e.a e.b ≡ v) → edge_when e.a e.b v p ≡ Ok e
  go true p = ap (found Flaw) (Edge-equal _ e refl refl)
  go false p = absurd (let l = e.ascending in omega (arith, ltb-false e.a e.b p))

-- and has the ends that it is found of
pub edge_takes : (a b : ℕ) (e : Edge) → edge_of (a, b) ≡ Ok e → (e.a ≡ a) × (e.b ≡ b)
unfolding edge_of
edge_takes a b e = go (ltb a b) refl where
  go : (v : Bool) (p : ltb a b ≡ v) → edge_when a b v p ≡ Ok e → (e.a ≡ a) × (e.b ≡ b)
  go true p h = let same = value_is _ e h in (ap (λ (f : Edge). f.a) (sym same), ap (λ (f : Edge). f.b) (sym same))
  go false p h = absurd cc

-- a triangle is found of its corners
pub tri_again : (t : Tri) → tri_of (t.a, t.b) t.c ≡ Ok t
unfolding tri_of
tri_again t = go (ltb t.a t.b) (ltb t.a t.c) (eqb t.b t.c) refl refl refl where
  go : (u v w : Bool) (p : ltb t.a t.b ≡ u) (q : ltb t.a t.c ≡ v) (r : eqb t.b t.c ≡ w) → tri_when t.a t.b t.c u v w p q r ≡ Ok t
  go true true false p q r = ap (found Flaw) (Tri-equal _ t refl refl refl)
  go true true true p q r = absurd (t.apart (eqb-true t.b t.c r))
  go true false w p q r = absurd (let l = t.below_c in omega (arith, ltb-false t.a t.c q))
  go false v w p q r = absurd (let l = t.below_b in omega (arith, ltb-false t.a t.b p))

-- and has the corners that it is found of
pub tri_takes : (a b c : ℕ) (t : Tri) → tri_of (a, b) c ≡ Ok t → (t.a ≡ a) × (t.b ≡ b) × (t.c ≡ c)
unfolding tri_of
tri_takes a b c t = go (ltb a b) (ltb a c) (eqb b c) refl refl refl where
  go : (u v w : Bool) (p : ltb a b ≡ u) (q : ltb a c ≡ v) (r : eqb b c ≡ w) → tri_when a b c u v w p q r ≡ Ok t → (t.a ≡ a) × (t.b ≡ b) × (t.c ≡ c)
  go true true false p q r h =
      let same = value_is _ t h in
      (ap (λ (s : Tri). s.a) (sym same), ap (λ (s : Tri). s.b) (sym same), ap (λ (s : Tri). s.c) (sym same))
  go true true true p q r h = absurd cc
  go true false w p q r h = absurd cc
  go false v w p q r h = absurd cc
