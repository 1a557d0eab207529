-- Each move of a deque of tasks keeps its rule.
use Rattle.std.proofs.Common.{◌≡◌, ℕ, zero, suc, ◌+◌, ◌<◌, List, [], ◌∷◌, ◌++◌, length, All, set, refl, sym, ap, subst, inr, ⊎_elim, arith, length-append}
use Rattle.std.proofs.lemmas.List.Elements.{All-append, All-take, All-drop, All-set, All-cons, All-nil}
use lib.Seq.{take-append_seam, drop-append_seam}
use mathlib.Core.Option.{some, some-injective, some-ne-none}
use lib.ListN.{get_elem?}
use Rattle.crossbeam_deque.specs.Tasks.{Pushes, Takes, Pops, Forks}
use Rattle.steal_workers.specs.Tasks.{IsNew, AreEdges, HoldsEdges}

-- what is so of all is so of the one at a place
all_at : (P : ℕ → Type 0) (xs : List ℕ) (i x : ℕ) → All P xs → get_elem? xs i ≡ some x → P x
all_at P [] i x all e = absurd (some-ne-none x (sym e))
all_at P (y ∷ ys) zero x all e = subst P (some-injective y x e) (all 0 y (omega arith))
all_at P (y ∷ ys) (suc i) x all e = all_at P ys i x (λ k d low. all (suc k) d (omega arith)) e

all_one : (P : ℕ → Type 0) (x : ℕ) → P x → All P (x ∷ [])
all_one P x h = All-cons P x [] h (All-nil P)

all_left : (P : ℕ → Type 0) (xs ys : List ℕ) → All P (xs ++ ys) → All P xs
all_left P xs ys h = subst (All P) (take-append_seam xs ys) (All-take P (length xs) (xs ++ ys) h)

all_right : (P : ℕ → Type 0) (xs ys : List ℕ) → All P (xs ++ ys) → All P ys
all_right P xs ys h = subst (All P) (drop-append_seam xs ys) (All-drop P (length xs) (xs ++ ys) h)

-- the one that knows a new deque knows no bound
new_view : (views : List ℕ) (port v : ℕ) → views ≡ 0 ∷ [] → get_elem? views port ≡ some v → v ≡ 0
new_view views port v is at = all_at (λ x. x ≡ 0) views port v (subst (All (λ x. x ≡ 0)) (sym is) (all_one (λ x. x ≡ 0) 0 refl)) at

-- the bound of a deque that is not new is what each knows
known_view : (items views : List ℕ) (port v : ℕ) (h : AreEdges items views) → get_elem? views port ≡ some v → v ≡ h.edges
known_view items views port v h at = all_at (λ x. x ≡ h.edges) views port v h.known at

known_set : (items views : List ℕ) (port v : ℕ) (h : AreEdges items views) → v ≡ h.edges → All (λ x. x ≡ h.edges) (set views port v)
known_set items views port v h is = All-set (λ x. x ≡ h.edges) views port v is h.known

only_port : (port v : ℕ) → get_elem? (0 ∷ []) port ≡ some v → port ≡ 0
only_port zero v e = refl
only_port (suc i) v e = absurd (some-ne-none v (sym e))

opens_new : (port x : ℕ) → Pushes HoldsEdges port 0 (x ∷ []) (λ w. w ≡ x + 1)
opens_new port x items views holds at = (
  x + 1,
  ⊎_elim
      (λ (new : IsNew items views). let first : port ≡ 0 = only_port port 0 (subst (λ (l : List ℕ). get_elem? l port ≡ some 0) new.1 at) in
      let g : AreEdges (items ++ x ∷ []) (set views port (x + 1)) = record {
        edges = x + 1;
        some = omega arith;
        known = subst (λ (z : List ℕ × ℕ). All (λ v. v ≡ x + 1) (set z.0 z.1 (x + 1))) (λ i. (sym new.1 i, sym first i)) (all_one (λ v. v ≡ x + 1) (x + 1) refl);
        below = subst (λ (l : List ℕ). All (λ e. e < x + 1) (l ++ x ∷ [])) (sym new.0) (all_one (λ e. e < x + 1) x (omega arith));
      } in inr g)
      (λ (h : AreEdges items views). absurd (let is = known_view items views port 0 h at in let pos = h.some in omega arith))
      holds,
  refl,
)

pub opens : (port v x : ℕ) → v ≡ 0 → Pushes HoldsEdges port v (x ∷ []) (λ w. w ≡ x + 1)
opens port v x is = subst (λ (z : ℕ). Pushes HoldsEdges port z (x ∷ []) (λ w. w ≡ x + 1)) (sym is) (opens_new port x)

pub gives : (port v x : ℕ) → x < v → Pushes HoldsEdges port v (x ∷ []) (λ w. (w ≡ v) × All (λ e. e < v) (x ∷ []))
gives port v x low items views holds at = (
  v,
  ⊎_elim
      (λ (new : IsNew items views). absurd (let is = new_view views port v new.1 at in omega arith))
      (λ (h : AreEdges items views). let is = known_view items views port v h at in let g : AreEdges (items ++ x ∷ []) (set views port v) = record {
        edges = h.edges;
        some = h.some;
        known = known_set items views port v h is;
        below = All-append (λ e. e < h.edges) items (x ∷ []) h.below (all_one (λ e. e < h.edges) x (omega arith));
      } in inr g)
      holds,
  (refl, all_one (λ e. e < v) x low),
)

pub takes : (port v : ℕ) → Takes HoldsEdges port v 1 (λ xs w. (w ≡ v) × All (λ e. e < v) xs)
takes port v xs items views any few holds at = ⊎_elim
    (λ (new : IsNew (xs ++ items) views). absurd (let none = ap length new.0 in let both = length-append xs items in omega arith))
    (λ (h : AreEdges (xs ++ items) views). let is = known_view (xs ++ items) views port v h at in let g : AreEdges items (set views port v) = record {
      edges = h.edges;
      some = h.some;
      known = known_set (xs ++ items) views port v h is;
      below = all_right (λ e. e < h.edges) xs items h.below;
    } in (v, inr g, (refl, subst (λ (n : ℕ). All (λ e. e < n) xs) (sym is) (all_left (λ e. e < h.edges) xs items h.below))))
    holds

pub pops : (port v : ℕ) → Pops HoldsEdges port v (λ xs w. (w ≡ v) × All (λ e. e < v) xs)
pops port v x items views holds at = ⊎_elim
    (λ (new : IsNew (items ++ x ∷ []) views). absurd (let none = ap length new.0 in let both = length-append items (x ∷ []) in omega arith))
    (λ (h : AreEdges (items ++ x ∷ []) views). let is = known_view (items ++ x ∷ []) views port v h at in let g : AreEdges items (set views port v) = record {
      edges = h.edges;
      some = h.some;
      known = known_set (items ++ x ∷ []) views port v h is;
      below = all_left (λ e. e < h.edges) items (x ∷ []) h.below;
    } in (v, inr g, (refl, subst (λ (n : ℕ). All (λ e. e < n) (x ∷ [])) (sym is) (all_right (λ e. e < h.edges) items (x ∷ []) h.below))))
    holds

pub forks : (port v : ℕ) → 0 < v → Forks HoldsEdges port v v v
forks port v low items views holds at = ⊎_elim
    (λ (new : IsNew items views). absurd (let is = new_view views port v new.1 at in omega arith))
    (λ (h : AreEdges items views). let is = known_view items views port v h at in let g : AreEdges items (set views port v ++ v ∷ []) = record {
      edges = h.edges;
      some = h.some;
      known = All-append (λ x. x ≡ h.edges) (set views port v) (v ∷ []) (known_set items views port v h is) (all_one (λ x. x ≡ h.edges) v is);
      below = h.below;
    } in inr g)
    holds
