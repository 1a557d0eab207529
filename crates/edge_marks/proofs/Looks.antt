-- A load of a mark word keeps the rule.
use Rattle.std.proofs.Common.{◌≡◌, ℕ, zero, suc, ◌+◌, ◌/◌, ◌<◌, List, [], ◌∷◌, length, get_or, Contains, sym, refl, ap, ◌∙◌, subst, ⊎_elim, arith}
use mathlib.Core.Option.{none}
use Rattle.atomic_table.specs.Table.{step, keeps, Allows}
use Rattle.lmt_network.specs.Network.{NetworkParts}
use Rattle.lmt_network.specs.Numbers.{AreLive, IsDead}
use Rattle.lmt_network.proofs.NumberLaws.{live_once}
use Rattle.lmt_network.proofs.Picked.{Contains-cases}
use Rattle.edge_marks.specs.declared.view.Loaded.{Loaded}
use Rattle.edge_marks.specs.declared.view.Phase.TheVariants.{Idle, Begun}
use Rattle.edge_marks.specs.declared.view.Pass.{Pass}
use Rattle.edge_marks.specs.declared.view.Pass.TheVariants.{NoPass, AtFirst, InPass}
use Rattle.edge_marks.specs.declared.view.Known.{Known}
use Rattle.edge_marks.specs.declared.view.About.{About}
use Rattle.mark_seats.specs.Bits.{bit_in}
use Rattle.edge_marks.specs.Words.{mark_of}
use Rattle.edge_marks.specs.Rule.{unkilled, loaded, PassHolds, MarksHold}
use Rattle.edge_marks.specs.Plays.{Sitting, now_seen, now_loaded, looked_view, LookTells, looked}
use Rattle.mark_seats.proofs.Members.{contains_cut}
use Rattle.edge_marks.proofs.Loads.{seen_more}
use Rattle.edge_marks.proofs.Views.{contains_unkilled, unkilled_contains, phase_seen}
use Rattle.edge_marks.proofs.Kept.{net, load_kept}

seen_now : (n : NetworkParts) (ws : List ℕ) (e b : ℕ) (seen : List ℕ) → e < length n.edges → mark_of ws e ≡ b → ((f : ℕ) → Contains seen f → (f < length n.edges) × (0 < mark_of ws f))
    → (f : ℕ) → Contains (now_seen e b seen) f → (f < length n.edges) × (0 < mark_of ws f)
seen_now n ws e zero seen low is old f h = old f h
seen_now n ws e (suc b) seen low is old f h = ⊎_elim
    (λ (same : e ≡ f). subst (λ (g : ℕ). (g < length n.edges) × (0 < mark_of ws g)) same (let p : 0 < mark_of ws e = omega arith in (low, p)))
    (λ (t : Contains seen f). old f t)
    (Contains-cases e f seen h)

pass_loaded : (n : NetworkParts) (ws : List ℕ) (i x : ℕ) (p : Pass) → i < length n.edges / 64 + 1 → get_or ws i 0 ≡ x → PassHolds n ws p → PassHolds n ws (now_loaded i x p)
pass_loaded n ws i x NoPass low is holds = tt
pass_loaded n ws i x (AtFirst b) low is holds = holds
pass_loaded n ws i x (InPass b loads) low is holds = (
  holds.0,
  λ now. let o = holds.1 now in (
    o.0,
    λ l h. ⊎_elim
        (λ (t : Contains loads l). o.1 l t)
        (λ (t : loaded i x ≡ l). subst (λ (y : Loaded). (y.word < length n.edges / 64 + 1) × (get_or ws y.word 0 ≡ y.value)) t (low, is))
        (contains_cut loads (loaded i x) l h),
  ),
)

abbrev pub noted_edge : List (ℕ × ℕ) → ℕ
noted_edge [] = 0
noted_edge (y ∷ ys) = y.1

module _ (k : About) where
  pub looks : (slots id : ℕ) (me : Sitting) (note e : ℕ) → me.1 ≡ (note, e) ∷ [] → e < length k.net.value.edges
      → Allows (MarksHold k) slots id me (e / 64) (λ x. x) (looked (step slots (e / 64) 0 0 none) me)
  looks slots id me note e carried low s r _ at fits = let n : NetworkParts = net k in let i : ℕ = e / 64 in let x : ℕ = get_or s.words i 0 in let b : ℕ = bit_in x e in let d : Known = me.0 in let h = r.each id d at in
      let w : Known = looked_view e x d in let U : List ℕ = unkilled (length n.edges) s.words in
      let TellsOf : ℕ → Type 0 = λ f. let m : Sitting = (looked_view f x d, me.1) in ((w, me.1) ≡ m) × LookTells d f x in
      let told : TellsOf e = (
        refl,
        record {
          dead = λ p. subst (λ (m : NetworkParts). IsDead m e) (sym h.net_is) (r.safe e low p);
          seen = λ has. (h.seen_killed e has).1;
          tried = λ idle has. h.tried_killed e has (λ z. absurd (let g : Idle ≡ Begun e = sym idle ∙ z in cc));
          settled = λ quiet L live. let live' : AreLive n L = subst (λ (m : NetworkParts). AreLive m L) h.net_is live in (
            (λ z. live_once n U L (h.quiet quiet) live' e (contains_unkilled (length n.edges) s.words e low z)),
            λ z has. let t = unkilled_contains (length n.edges) s.words e (live_once n L U live' (h.quiet quiet) e has) in let t₁ = t.1 in omega arith,
          );
        },
      ) in (
        w,
        keeps,
        tt,
        load_kept k s r id i d w at record {
          net_is = h.net_is;
          seen_killed = seen_now n s.words e b d.seen low refl h.seen_killed;
          tried_below = h.tried_below;
          tried_killed = h.tried_killed;
          tried_once = h.tried_once;
          aim = phase_seen n s.words d.seen (now_seen e b d.seen) d.tried d.phase (λ f has. seen_more e b f d.seen has) h.aim;
          in_pass = pass_loaded n s.words i x d.pass (omega arith) refl h.in_pass;
          quiet = h.quiet;
          low_is = h.low_is;
        } refl refl refl,
        λ k' e' is. let same : e ≡ e' = ap noted_edge (sym carried ∙ is) in subst TellsOf same told,
      )
