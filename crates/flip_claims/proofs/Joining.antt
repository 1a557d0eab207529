-- A team is joined with one seat.
use Rattle.std.proofs.Common.{◌≡◌, ◌⊎◌, ℕ, ◌+◌, ◌≤◌, List, [], ◌∷◌, ◌++◌, length, take, Any, Contains, sym, ap, subst, inr, ⊎_elim, arith, length-append}
use Rattle.std.proofs.lemmas.Bool.{cases_eq}
use Rattle.std.proofs.lemmas.List.Elements.{Contains-append_cases, Contains-append_left, Contains-append_right}
use lib.Seq.{take-append_seam}
use Rattle.flip_finish.specs.Places.{IsAt}
use Rattle.flip_finish.proofs.Standing.{IsAt-only}
use Rattle.flip_claims.specs.declared.view.Claimed.{Claimed}
use Rattle.flip_claims.specs.declared.view.Known.{Known}
use Rattle.flip_claims.specs.Handles.{SeatView}
use Rattle.flip_claims.specs.Plays.{joined_view}
use Rattle.flip_claims.specs.Rounds.{Gathers}
use Rattle.flip_claims.proofs.Members.{IsAt-append, IsAt-last}

-- those after the ones that are left have been joined
pub record IsJoinedTo (all : List SeatView) (d d' : Known) (left : List SeatView) : Type 0 where
  pub prefix : (k : ℕ) (s : SeatView) → IsAt left k s → IsAt all k s
  pub few : length left ≤ length all
  pub shares : d'.shares + length left ≡ d.shares + length all
  pub own : (c : Claimed) → Contains d'.claimed c → Contains d.claimed c ⊎ Any (λ s. Contains s.known.claimed c) all
  pub joined : (k : ℕ) (s : SeatView) (c : Claimed) → length left ≤ k → IsAt all k s → Contains s.known.claimed c → Contains d'.claimed c

pub join_more : (all : List SeatView) (d e : Known) (left front : List SeatView) (s : SeatView) → left ≡ front ++ s ∷ [] → s.known.shares ≡ 1 → IsJoinedTo all d e left
    → IsJoinedTo all d (joined_view e s.known) front
join_more all d e left front s is one h =
    let wide = ap length is in
    let more = length-append front (s ∷ []) in
    let here : IsAt all (length front) s = h.prefix (length front) s (subst (λ (l : List SeatView). IsAt l (length front) s) (sym is) (IsAt-last front s)) in
    let sum = h.shares in
    let before = h.few in
    record {
      prefix = λ k u at_k. h.prefix k u (subst (λ (l : List SeatView). IsAt l k u) (sym is) (IsAt-append front (s ∷ []) k u at_k));
      few = omega arith;
      shares = omega arith;
      own = λ c has. ⊎_elim
          (h.own c)
          (λ theirs. inr (length front, s, here.inside, here.is, theirs))
          (Contains-append_cases e.claimed s.known.claimed c has);
      joined = λ k u c past at_k has. ⊎_elim
          (λ (same : k ≡ length front).
          let seat_is : s ≡ u = IsAt-only all k s u (subst (λ (i : ℕ). IsAt all i s) (sym same) here) at_k in
          Contains-append_right e.claimed s.known.claimed c (subst (λ (v : SeatView). Contains v.known.claimed c) (sym seat_is) has))
          (λ ne. Contains-append_left e.claimed s.known.claimed c (h.joined k u c (omega arith) at_k has))
          (cases_eq k (length front));
    }

pub join_end : (all : List SeatView) (d d' : Known) (left : List SeatView) → length left ≡ 0 → IsJoinedTo all d d' left → Gathers d all d'
join_end all d d' left none h =
    let sum = h.shares in
    record {
      shares = omega arith;
      own = h.own;
      all = λ c (k, s, inside, is, has). h.joined k s c (omega arith) (record { inside = inside; is = is }) has;
    }

-- what is lent comes back whole
pub whole_back : (n : ℕ) (team rest : List SeatView) → n ≡ length team → take n (team ++ rest) ≡ team
whole_back n team rest is = subst (λ (k : ℕ). take k (team ++ rest) ≡ team) (sym is) (take-append_seam team rest)
