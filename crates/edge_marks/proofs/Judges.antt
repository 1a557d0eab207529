-- What the loads of a pass judge.
use Rattle.std.proofs.Common.{◌≡◌, ◌⊎◌, ℕ, ◌+◌, ◌≤◌, Bool, true, false, cond, ◌||◌, map, List, [], ◌∷◌, ◌++◌, length, Contains, sym, refl, ap, ◌∙◌, subst, inl, inr, ⊎_elim, arith, eq-eqb}
use Rattle.std.proofs.lemmas.List.Elements.{Contains-append_left, Contains-append_right}
use mathlib.Core.Logic.{dite}
use native.Mathlib.Decide.{ℕ_discrete}
use Rattle.lmt_network.specs.Network.{NetworkParts}
use Rattle.lmt_network.specs.Numbers.{IsHullNumber}
use Rattle.lmt_network.proofs.Picked.{Contains-here, Contains-later, Contains-cases, Contains-nil}
use Rattle.edge_marks.specs.declared.view.Loaded.{Loaded}
use Rattle.edge_marks.specs.declared.view.Pass.{Pass}
use Rattle.edge_marks.specs.declared.view.Pass.TheVariants.{NoPass, InPass}
use Rattle.edge_marks.specs.declared.view.Known.{Known}
use Rattle.edge_marks.specs.Rule.{WasLive, WasKilled, HadSupport, IsJudged}
use Rattle.edge_marks.specs.Plays.{has_begun_with, settled_view}
use Rattle.mark_seats.specs.Supports.{Asked, asked, IsLivePair}
use Rattle.edge_marks.specs.Told.{looked_all, FoundLive, FoundKilled, WasJudged, WereJudged, entered}
use Rattle.edge_marks.proofs.Loads.{looked_on, pass_kept, word_loaded}

abbrev LiveSupport : NetworkParts → List Asked → ℕ → Type 0
LiveSupport n ls e = (l : ℕ) × (r : ℕ) × IsLivePair n e l r (FoundLive ls)

-- what more loads leave of a judgement
pub judged_more : (n : NetworkParts) (xs ys : List Asked) (e : ℕ) → ((l : Asked) → Contains xs l → Contains ys l) → WasJudged n xs e → WasJudged n ys e
judged_more n xs ys e more j = ⊎_elim
    (λ (h : IsHullNumber n e). inl h)
    (λ (b : FoundKilled xs e ⊎ LiveSupport n xs e). ⊎_elim
    (λ (k : FoundKilled xs e). inr (inl (k.0, more (asked e k.0) k.1, k.2)))
    (λ (s : LiveSupport n xs e). inr (inr (s.0, s.1, (s.2.0, λ f other. let was = s.2.1 f other in (was.0, more (asked f was.0) was.1, was.2)))))
    b)
    j

-- the loads so far have judged the edges below e
abbrev pub Passed : NetworkParts → Known → Known → ℕ → Type 0
Passed n old new e = (ls : List Asked) × (new ≡ looked_all ls old) × WereJudged n ls e

-- a loop over the edges of m that has come to its end has judged all edges
pub all_judged : (n m : NetworkParts) (ls : List Asked) (end k : ℕ) → m ≡ n → end ≡ length m.edges → end ≤ k → WereJudged n ls k → WereJudged n ls (length n.edges)
all_judged n m ls end k same is done each e low = each e (let wide = ap (λ (z : NetworkParts). length z.edges) same in omega arith)

pub one_judged : (n : NetworkParts) (old mid new : Known) (e : ℕ) → Passed n old mid e → (ls : List Asked) → new ≡ looked_all ls mid → WasJudged n ls e → Passed n old new (e + 1)
one_judged n old mid new e so ls is here = (
  so.0 ++ ls,
  looked_on old mid new so.0 ls so.1 is,
  λ j h. dite (ℕ_discrete j e)
      (λ (z : j ≡ e). subst (WasJudged n (so.0 ++ ls)) (sym z) (judged_more n ls (so.0 ++ ls) e (λ l has. Contains-append_right so.0 ls l has) here))
      (λ z. judged_more n so.0 (so.0 ++ ls) j (λ l has. Contains-append_left so.0 ls l has) (so.2 j (omega arith))),
)

-- a load for an edge is a load of its word
contains_word : (ls : List Asked) (l : Asked) → Contains ls l → Contains (map word_loaded ls) (word_loaded l)
contains_word [] l h = absurd (Contains-nil l h)
contains_word (x ∷ xs) l h = ⊎_elim
    (λ (is : x ≡ l). subst (λ (y : Asked). Contains (word_loaded x ∷ map word_loaded xs) (word_loaded y)) is (Contains-here (word_loaded x) (map word_loaded xs)))
    (λ (t : Contains xs l). Contains-later (word_loaded x) (word_loaded l) (map word_loaded xs) (contains_word xs l t))
    (Contains-cases x l xs h)

was_live : (ls : List Asked) (f : ℕ) → FoundLive ls f → WasLive (map word_loaded ls) f
was_live ls f h = (h.0, contains_word ls (asked f h.0) h.1, h.2)

-- so a judgement is one by the loads of the pass
pub judged_words : (n : NetworkParts) (ls : List Asked) (e : ℕ) → WasJudged n ls e → IsJudged n (map word_loaded ls) e
judged_words n ls e j = ⊎_elim
    (λ (h : IsHullNumber n e). inl h)
    (λ (b : FoundKilled ls e ⊎ LiveSupport n ls e). ⊎_elim
    (λ (k : FoundKilled ls e). let g : WasKilled (map word_loaded ls) e = (k.0, contains_word ls (asked e k.0) k.1, k.2) in inr (inl g))
    (λ (s : LiveSupport n ls e). let g : HadSupport n (map word_loaded ls) e = (s.0, s.1, s.2.0, λ f other. was_live ls f (s.2.1 f other)) in inr (inr g))
    b)
    j

entered_pass : (n : NetworkParts) (b f : ℕ) (d : Known) → b ≡ f → (entered n b f d).pass ≡ InPass b []
entered_pass n b f d e = ap (λ (t : Bool). let p : Pass = cond t (InPass b []) NoPass in p) (eq-eqb f b (sym e))

pub pass_is : (n : NetworkParts) (b f : ℕ) (d : Known) (ls : List Asked) → b ≡ f → (looked_all ls (entered n b f d)).pass ≡ InPass b (map word_loaded ls)
pass_is n b f d ls e = pass_kept ls (entered n b f d) b [] (entered_pass n b f d e)

or_true : (a : Bool) → (a || true) ≡ true
or_true true = refl
or_true false = refl

pub quiet_now : (i b : ℕ) (d : Known) (loads : List Loaded) → d.pass ≡ InPass b loads → (settled_view i b d).settled ≡ true
quiet_now i b d loads e = ap (λ (t : Bool). d.settled || t) (ap (has_begun_with b) e ∙ eq-eqb b b refl) ∙ or_true d.settled
