-- What a change of a word does to what the rule says of a view.
use Rattle.std.proofs.Common.{◌≡◌, ◌≢◌, ℕ, zero, suc, ◌<◌, ◌≤◌, Bool, true, cond, List, [], ◌∷◌, ◌++◌, length, Contains, sym, ap, ◌∙◌, subst, ⊎_elim, arith, eq-eqb, ne_eqb}
use mathlib.Core.Logic.{dite}
use native.Mathlib.Decide.{ℕ_discrete}
use Rattle.lmt_network.specs.Network.{NetworkParts}
use Rattle.lmt_network.specs.Numbers.{AreLive, IsOtherSide}
use Rattle.lmt_network.proofs.NumberLaws.{live_same}
use Rattle.lmt_network.proofs.Picked.{Contains-nil}
use Rattle.edge_marks.specs.declared.view.Phase.{Phase}
use Rattle.edge_marks.specs.declared.view.Phase.TheVariants.{Idle, Begun, Marked}
use Rattle.edge_marks.specs.declared.view.Pass.{Pass}
use Rattle.edge_marks.specs.declared.view.Pass.TheVariants.{NoPass, AtFirst, InPass}
use Rattle.edge_marks.specs.declared.view.Known.{Known}
use Rattle.edge_marks.specs.Words.{mark_of}
use Rattle.edge_marks.specs.Rule.{begun, finished, unkilled, IsAim, PhaseHolds, PassHolds, ViewHolds}
use Rattle.mark_seats.proofs.Members.{any_more, contains_last, contains_more, contains_cut}

unkilled_live : (k : ℕ) (ws : List ℕ) → mark_of ws k ≡ 0 → unkilled (suc k) ws ≡ unkilled k ws ++ k ∷ []
unkilled_live k ws h = ap (λ (b : Bool). cond b (unkilled k ws ++ k ∷ []) (unkilled k ws)) (eq-eqb (mark_of ws k) 0 h)

unkilled_dead : (k : ℕ) (ws : List ℕ) → mark_of ws k ≢ 0 → unkilled (suc k) ws ≡ unkilled k ws
unkilled_dead k ws h = ap (λ (b : Bool). cond b (unkilled k ws ++ k ∷ []) (unkilled k ws)) (ne_eqb (mark_of ws k) 0 h)

pub contains_unkilled : (k : ℕ) (ws : List ℕ) (e : ℕ) → e < k → mark_of ws e ≡ 0 → Contains (unkilled k ws) e
contains_unkilled zero ws e low is = absurd (omega arith)
contains_unkilled (suc k) ws e low is = let P : List ℕ → Type 0 = λ l. Contains l e in dite (ℕ_discrete e k)
    (λ same. subst P (sym (unkilled_live k ws (ap (λ (i : ℕ). mark_of ws i) (sym same) ∙ is))) (subst (λ (i : ℕ). Contains (unkilled k ws ++ i ∷ []) e) same (contains_last (unkilled k ws) e)))
    (λ other. let below = contains_unkilled k ws e (omega arith) is in dite (ℕ_discrete (mark_of ws k) 0) (λ h. subst P (sym (unkilled_live k ws h)) (contains_more (unkilled k ws) k e below)) (λ h. subst P (sym (unkilled_dead k ws h)) below))

pub unkilled_contains : (k : ℕ) (ws : List ℕ) (e : ℕ) → Contains (unkilled k ws) e → (e < k) × (mark_of ws e ≡ 0)
unkilled_contains zero ws e h = absurd (Contains-nil e h)
unkilled_contains (suc k) ws e h = let P : List ℕ → Type 0 = λ l. Contains l e in dite (ℕ_discrete (mark_of ws k) 0)
    (λ is. ⊎_elim (λ (t : Contains (unkilled k ws) e). let r = unkilled_contains k ws e t in let r₀ = r.0 in let low : e < suc k = omega arith in (low, r.1))
    (λ (same : k ≡ e). let low : e < suc k = omega arith in (low, ap (λ (i : ℕ). mark_of ws i) (sym same) ∙ is)) (contains_cut (unkilled k ws) k e (subst P (unkilled_live k ws is) h)))
    (λ is. let r = unkilled_contains k ws e (subst P (unkilled_dead k ws is) h) in let r₀ = r.0 in let low : e < suc k = omega arith in (low, r.1))

-- the unkilled edges are the same where each mark is zero as before
pub live_words : (n : NetworkParts) (ws ws' : List ℕ) → ((e : ℕ) → e < length n.edges → mark_of ws e ≡ 0 → mark_of ws' e ≡ 0) → ((e : ℕ) → e < length n.edges → mark_of ws' e ≡ 0 → mark_of ws e ≡ 0)
    → AreLive n (unkilled (length n.edges) ws) → AreLive n (unkilled (length n.edges) ws')
live_words n ws ws' to back live = live_same n (unkilled (length n.edges) ws) (unkilled (length n.edges) ws')
    (λ e h. let r = unkilled_contains (length n.edges) ws e h in contains_unkilled (length n.edges) ws' e r.0 (to e r.0 r.1)) (λ e h. let r = unkilled_contains (length n.edges) ws' e h in contains_unkilled (length n.edges) ws e r.0 (back e r.0 r.1)) live

phase_words : (n : NetworkParts) (ws ws' seen tried : List ℕ) (p : Phase) → ((e : ℕ) → e < length n.edges → 0 < mark_of ws e → 0 < mark_of ws' e) → PhaseHolds n ws seen tried p → PhaseHolds n ws' seen tried p
phase_words n ws ws' seen tried Idle kept ok = tt
phase_words n ws ws' seen tried (Begun e) kept ok = ok
phase_words n ws ws' seen tried (Marked e) kept ok = (ok.0, kept e ok.0.0 ok.1)

aim_seen : (n : NetworkParts) (xs ys tried : List ℕ) (e : ℕ) → ((f : ℕ) → Contains xs f → Contains ys f) → IsAim n xs tried e → IsAim n ys tried e
aim_seen n xs ys tried e more ok = (ok.0, ok.1, (λ l r pair. any_more (IsOtherSide n e l r) xs ys more (ok.2 l r pair)), ok.3)

-- a kill goes on where more edges were seen killed
pub phase_seen : (n : NetworkParts) (ws xs ys tried : List ℕ) (p : Phase) → ((f : ℕ) → Contains xs f → Contains ys f) → PhaseHolds n ws xs tried p → PhaseHolds n ws ys tried p
phase_seen n ws xs ys tried Idle more ok = tt
phase_seen n ws xs ys tried (Begun e) more ok = aim_seen n xs ys tried e more ok
phase_seen n ws xs ys tried (Marked e) more ok = (aim_seen n xs ys tried e more ok.0, ok.1)

-- a pass goes on where it can no more end quiet
pass_words : (n : NetworkParts) (ws ws' : List ℕ) (p : Pass) → begun n ws ≤ begun n ws' → ((b : ℕ) → b ≤ begun n ws → begun n ws' ≡ b → (begun n ws ≡ b → finished n ws ≡ b) → ⊥) → PassHolds n ws p → PassHolds n ws' p
pass_words n ws ws' NoPass up apart ok = tt
pass_words n ws ws' (AtFirst b) up apart ok = omega arith
pass_words n ws ws' (InPass b loads) up apart ok = let ok₀ = ok.0 in let low : b ≤ begun n ws' = omega arith in (low, λ is. absurd (apart b ok.0 is (λ h. (ok.1 h).0)))

-- what the rule says of a view that its seat leaves alone
pub view_words : (n : NetworkParts) (ws ws' : List ℕ) (d : Known) → begun n ws ≤ begun n ws' → ((e : ℕ) → e < length n.edges → 0 < mark_of ws e → 0 < mark_of ws' e)
    → ((b : ℕ) → b ≤ begun n ws → begun n ws' ≡ b → (begun n ws ≡ b → finished n ws ≡ b) → ⊥) → (d.settled ≡ true → AreLive n (unkilled (length n.edges) ws) → AreLive n (unkilled (length n.edges) ws')) → ViewHolds n ws d → ViewHolds n ws' d
view_words n ws ws' d up kept apart quiet ok = record {
  net_is = ok.net_is;
  seen_killed = λ e h. let t = ok.seen_killed e h in (t.0, kept e t.0 t.1);
  tried_below = ok.tried_below;
  tried_killed = λ e h not. kept e (ok.tried_below e h) (ok.tried_killed e h not);
  tried_once = ok.tried_once;
  aim = phase_words n ws ws' d.seen d.tried d.phase kept ok.aim;
  in_pass = pass_words n ws ws' d.pass up apart ok.in_pass;
  quiet = λ h. quiet h (ok.quiet h);
  low_is = let l = ok.low_is in omega arith;
}
