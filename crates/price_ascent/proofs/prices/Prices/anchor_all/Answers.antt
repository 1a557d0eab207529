use Rattle.std.proofs.Common.{◌≡◌, ◌<◌, ◌+◌, ℕ, List, ◌∷◌, [], ◌++◌, length, get_or, take, All, Contains, ap, sym, ◌∙◌, subst}
use Rattle.std.proofs.lemmas.Bool.{false≢true}
use Rattle.std.proofs.lemmas.List.{take_all, take_more}
use Rattle.std.proofs.lemmas.List.Elements.{All-contains, Contains-get_or}
use Rattle.exact_predicates.specs.declared.edge.Edge.{Edge}
use Rattle.lmt_network.specs.Flags.{live_edges}
use Rattle.price_ascent.specs.declared.entry.PriceEntry.{PriceEntry}
use Rattle.price_ascent.specs.Entries.{live_of}
use Rattle.price_ascent.proofs.Anchoring.{AreAnchored, anchored-back, anchored-forth, hull_passed, live_edge, live_number_of, more_anchored, none_anchored}
use Rattle.price_ascent.proofs.prices.Prices.anchor_all.Goals as goal
use Rattle.price_ascent.proofs.prices.Prices.anchor_all.Goals.{then-not-is_hull, else-not-is_hull}

-- a member of the list is a live edge
is-live : (live xs ys : List Edge) (i : ℕ) (x : Edge) → All (Contains live) ys → xs ≡ ys → i < length xs → x ≡ get_or xs i x → Contains live x
is-live live xs ys i x all same l is =
    All-contains (Contains live) ys x all (subst (λ (zs : List Edge). Contains zs x) same (subst (Contains xs) (sym is) (Contains-get_or xs i x l)))

pub number-e-requires : goal.number-e-requires
number-e-requires c =
    let n = c.args.net.now in
    let es = c.args.self.now in
    let k = live_edge n es c.edge-item.result (is-live (live_edges n (live_of es)) c.as_slice-edge-items.result.now c.args.skeleton.now c.loop-edge.edge-index c.edge-item.result c.requires.skeleton c.as_slice-edge-items.ensures.is c.loop-edge-test.true c.edge-item.is) in
    (k.0, k.1)

pub anchor-requires-clause-live : goal.anchor-requires-clause-live
anchor-requires-clause-live c =
    let n = c.args.net.now in
    let es = c.args.self.now in
    let fs = c.loop-edge.self in
    let has = is-live (live_edges n (live_of es)) c.as_slice-edge-items.result.now c.args.skeleton.now c.loop-edge.edge-index c.edge-item.result c.requires.skeleton c.as_slice-edge-items.ensures.is c.loop-edge-test.true c.edge-item.is in
    live_number_of n fs c.edge-item.result c.number-e.result c.loop-edge.invariant.belong
    (subst (λ (zs : List Edge). Contains zs c.edge-item.result) (sym (ap (live_edges n) c.loop-edge.invariant.live)) has) c.number-e.ensures

pub loop-edge-init : goal.loop-edge-init
loop-edge-init c = none_anchored c.args.net.now c.args.self.now c.requires.belong c.requires.none_yet

pub loop-edge-preserved : goal.loop-edge-preserved
loop-edge-preserved c =
    let n = c.args.net.now in
    let es = c.args.self.now in
    let fs = c.loop-edge.self in
    let xs = c.as_slice-edge-items.result.now in
    let i = c.loop-edge.edge-index in
    let x = c.edge-item.result in
    let more : take i xs ++ x ∷ [] ≡ take (i + 1) xs = ap (λ (y : Edge). take i xs ++ y ∷ []) c.edge-item.is ∙ sym (take_more xs i x c.loop-edge-test.true) in
    elim c.if-not-is_hull.branch [
      | then-not-is_hull w ↦
          subst (λ (gs : List PriceEntry). AreAnchored n es gs (take (i + 1) xs)) (sym w.self-is)
          (subst (λ (ys : List Edge). AreAnchored n es w.anchor.new.self ys) more
          (more_anchored n es fs w.anchor.new.self (take i xs) x c.number-e.result c.loop-edge.invariant c.number-e.ensures
          (λ hull. false≢true (sym w.if-not-is_hull.true ∙ c.is_hull.ensures.1 hull)) w.anchor.ensures.belong w.anchor.ensures.anchored))
      | else-not-is_hull w ↦
          subst (λ (gs : List PriceEntry). AreAnchored n es gs (take (i + 1) xs)) (sym w.self-is)
          (subst (λ (ys : List Edge). AreAnchored n es fs ys) more
          (hull_passed n es fs (take i xs) x c.number-e.result c.loop-edge.invariant c.number-e.ensures (c.is_hull.ensures.0 w.if-not-is_hull.false)))
    ]

pub returns-clause-anchored : goal.returns-clause-anchored
returns-clause-anchored c = λ x.
    let n = c.args.net.now in
    let es = c.args.self.now in
    let xs = c.as_slice-edge-items.result.now in
    let all : take c.loop-edge.edge-index xs ≡ c.args.skeleton.now = take_all c.loop-edge.edge-index xs c.loop-edge-test.false ∙ c.as_slice-edge-items.ensures.is in
    let h = subst (λ (ys : List Edge). AreAnchored n es c.loop-edge.self ys) all c.loop-edge.invariant in (
      λ has. anchored-forth n es c.loop-edge.self c.args.skeleton.now x h has,
      λ both. anchored-back n es c.loop-edge.self c.args.skeleton.now x h (All-contains (Contains (live_edges n (live_of es))) c.args.skeleton.now x c.requires.skeleton both.0) both.0 both.1,
    )
