use Rattle.std.proofs.Common.{ℕ, List, [], ◌∷◌, ◌++◌, Contains, refl, sym, ◌∙◌, subst, inl, inr}
use Rattle.std.proofs.lemmas.Bool.{false≢true}
use Rattle.lmt_network.specs.Network.{NetworkParts}
use Rattle.lmt_network.specs.Numbers.{IsHullNumber}
use Rattle.lmt_network.proofs.Picked.{Contains-here}
use Rattle.mark_seats.specs.Supports.{Asked, asked}
use Rattle.edge_marks.proofs.Answering.{look_killed, look_not_killed}
use Rattle.mark_seats.proofs.Supports.{live_pair_back}
use Rattle.edge_marks.proofs.Loads.{live_front, live_one, looked_on, marks_loaded, tried_of}
use Rattle.edge_marks.proofs.handles.Marks.is_lone.Goals as goal

pub returns-then-is_hull-clause-told : goal.returns-then-is_hull-clause-told
returns-then-is_hull-clause-told c = ([], refl, (λ _. inl (subst (λ (n : NetworkParts). IsHullNumber n c.args.e) c.requires.belongs.1 (c.is_hull.ensures.0 c.if-is_hull.true))), λ h. absurd (false≢true h))

pub returns-in-Killed-clause-told : goal.returns-in-Killed-clause-told
returns-in-Killed-clause-told c = let s = c.look.ensures.step in let e = c.args.e in
    (asked e s.0 ∷ [], s.2, (λ _. inr (inl (s.0, Contains-here (asked e s.0) [], look_killed _ (sym s.1 ∙ c.in-Killed.is)))), λ h. absurd (false≢true h))

pub returns-in-Supported-clause-told : goal.returns-in-Supported-clause-told
returns-in-Supported-clause-told c = let s = c.look.ensures.step in let t = c.in-Supported.ensures.told in let e = c.args.e in let first : List Asked = asked e s.0 ∷ [] in (
  first ++ t.0,
  looked_on c.args.seat.now.known c.look.new.seat.known c.examine.new.seat.known first t.0 s.2 t.1,
  (λ _. inr (inr (c.in-Supported.field-0, c.in-Supported.field-1, live_pair_back marks_loaded c.args.self.now.net e c.in-Supported.field-0 c.in-Supported.field-1 first t.0 t.3))),
  λ h. absurd (false≢true h),
)

pub returns-in-Unsupported-clause-told : goal.returns-in-Unsupported-clause-told
returns-in-Unsupported-clause-told c = let s = c.look.ensures.step in let t = c.in-Unsupported.ensures.told in let e = c.args.e in let first : List Asked = asked e s.0 ∷ [] in
    let now = looked_on c.args.seat.now.known c.look.new.seat.known c.examine.new.seat.known first t.0 s.2 t.1 in (
      first ++ t.0,
      now,
      (λ h. absurd (false≢true (sym h))),
      λ _. (
        (λ h. false≢true (sym c.if-is_hull.false ∙ c.is_hull.ensures.1 (subst (λ (n : NetworkParts). IsHullNumber n e) (sym c.requires.belongs.1) h))),
        live_front first t.0 e (live_one e s.0 (look_not_killed _ (λ h. c.in_default.not-Killed (s.1 ∙ h)))),
        t.3,
        λ h. c.in_default.not-Killed (c.look.ensures.tried (subst (λ (l : List ℕ). Contains l e) (tried_of (first ++ t.0) c.args.seat.now.known c.examine.new.seat.known now) h)),
      ),
    )
