-- A triangulation has one descendant.
use Rattle.std.proofs.Common.{◌≡◌, ℕ, ◌<◌, List, [], ◌∷◌, Contains, sym, ◌∙◌, subst, arith}
use Rattle.std.proofs.lemmas.List.Sorted.{Contains-permutation, IsPermutation-sym}
use Rattle.exact_predicates.specs.declared.point.Point.{Point}
use Rattle.exact_predicates.specs.declared.tri.Tri.{Tri}
use Rattle.exact_predicates.specs.Candidates.{TriPrecedes}
use Rattle.exact_predicates.specs.Triangulation.{IsTriangulation}
use Rattle.exact_predicates.proofs.Ascending.{ascending-only}
use Rattle.flip_finish.specs.Flipping.{Shortens}
use Rattle.flip_finish.specs.Mesh.{Parts}
use Rattle.flip_finish.specs.Winners.{AreWinners, IsWinner}
use Rattle.flip_finish.proofs.Ordered.{edge_once}
use Rattle.flip_claims.specs.Descent.{OneDescendant}
use Rattle.flip_claims.specs.Rounds.{AreFlipped, AreRounds, IsRound}
use Rattle.flip_claims.proofs.OneFlip.{one_flip}
use Rattle.flip_claims.proofs.OneMesh.{one_mesh}

-- a mesh has one list of winners
winners_only : (ps : List Point) (m : Parts) (winners others : List ℕ) → AreWinners ps m winners → AreWinners ps m others → winners ≡ others
winners_only ps m winners others h k =
    ascending-only (λ (p q : ℕ). p < q) (λ p q l g. omega arith) winners others h.ascending k.ascending
    (λ slot (j, j_in, at_j). k.all slot (subst (IsWinner ps m) at_j (h.each j slot j_in)))
    (λ slot (j, j_in, at_j). h.all slot (subst (IsWinner ps m) at_j (k.each j slot j_in)))

-- the flips of one list of slots make one mesh
flips_only : (ps : List Point) (old new other : Parts) (slots : List ℕ) → AreFlipped ps old slots new → AreFlipped ps old slots other → new ≡ other
flips_only ps old new other [] h k = h ∙ sym k
flips_only ps old new other (slot ∷ slots) h k =
    let same : h.0 ≡ k.0 = one_flip ps old h.0 k.0 slot h.1 k.1 h.2 k.2 in
    flips_only ps k.0 new other slots (subst (λ (m : Parts). AreFlipped ps m slots new) same h.3) k.3

-- so does a round
round_only : (ps : List Point) (old new other : Parts) (winners others : List ℕ) → IsRound ps old winners new → IsRound ps old others other → new ≡ other
round_only ps old new other winners others h k =
    let same = winners_only ps old winners others h.winners_are k.winners_are in
    flips_only ps old new other others (subst (λ (l : List ℕ). AreFlipped ps old l new) same h.flipped) k.flipped

-- where no slot shortens a round changes nothing
abbrev HasEnded : List Point → Parts → Type 0
HasEnded ps m = (slot : ℕ) → ¬ Shortens ps m slot

round_still : (ps : List Point) (old new : Parts) (winners : List ℕ) → HasEnded ps old → IsRound ps old winners new → new ≡ old
round_still ps old new [] ended h = h.flipped
round_still ps old new (w ∷ ws) ended h = absurd (ended w (h.winners_are.each 0 w (omega arith)).shortens)

rounds_still : (ps : List Point) (old new : Parts) (rounds : List (List ℕ)) → HasEnded ps old → AreRounds ps old rounds new → new ≡ old
rounds_still ps old new [] ended h = h
rounds_still ps old new (winners ∷ rounds) ended h =
    let same : h.0 ≡ old = round_still ps old h.0 winners ended h.1 in
    rounds_still ps old new rounds ended (subst (λ (m : Parts). AreRounds ps m rounds new) same h.2)

-- rounds until no slot shortens end with one mesh
rounds_only : (ps : List Point) (old new other : Parts) (rounds others : List (List ℕ)) → AreRounds ps old rounds new → AreRounds ps old others other
    → HasEnded ps new → HasEnded ps other → new ≡ other
rounds_only ps old new other [] others h k ended too = sym (rounds_still ps new other others ended (subst (λ (m : Parts). AreRounds ps m others other) (sym h) k))
rounds_only ps old new other (winners ∷ rounds) [] h k ended too = rounds_still ps other new (winners ∷ rounds) too (subst (λ (m : Parts). AreRounds ps m (winners ∷ rounds) new) (sym k) h)
rounds_only ps old new other (winners ∷ rounds) (more ∷ others) h k ended too =
    let same : h.0 ≡ k.0 = round_only ps old h.0 k.0 winners more h.1 k.1 in
    rounds_only ps k.0 new other rounds others (subst (λ (m : Parts). AreRounds ps m rounds new) same h.2) k.2 ended too

pub one_descendant : OneDescendant
one_descendant ps hull first tris others of_points of_hull h k =
    let start : h.start ≡ k.start =
    one_mesh ps hull first (λ x y up. edge_once ps hull first x y of_points of_hull (subst (IsTriangulation ps hull) h.ordered.same h.ordered.mesh.tris) up) h.start k.start h.ordered k.ordered in
    let last : h.last ≡ k.last =
    rounds_only ps k.start h.last k.last h.rounds k.rounds (subst (λ (m : Parts). AreRounds ps m h.rounds h.last) start h.made) k.made h.ended k.ended in
    let same : (t : Tri) → Contains tris t → Contains others t = λ t has.
    Contains-permutation k.last.tris others t k.listed (subst (λ (m : Parts). Contains m.tris t) last (Contains-permutation tris h.last.tris t (IsPermutation-sym h.last.tris tris h.listed) has)) in
    let back : (t : Tri) → Contains others t → Contains tris t = λ t has.
    Contains-permutation h.last.tris tris t h.listed (subst (λ (m : Parts). Contains m.tris t) (sym last) (Contains-permutation others k.last.tris t (IsPermutation-sym k.last.tris others k.listed) has)) in
    ascending-only TriPrecedes (λ s t l g. omega (arith, l, g)) tris others h.ascending k.ascending same back
